use Rattle.std.proofs.Common.{arith}
use Rattle.std.proofs.lemmas.Str.{len_utf8_bounds}
use Rattle.source_text.proofs.characters.character_at.Goals as goal

pub returns : goal.returns
returns c = λ d b. absurd (omega (arith, c.loop-long.invariant d b, len_utf8_bounds d, c.loop-long-test.false))
