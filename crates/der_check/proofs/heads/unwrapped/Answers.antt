use Rattle.der_check.specs.Heads.{no_head}
use Rattle.der_check.proofs.heads.unwrapped.Goals as goal

pub returns-then-is_bare : goal.returns-then-is_bare
returns-then-is_bare c = no_head (c.is_bare.ensures c.if-is_bare.true)
