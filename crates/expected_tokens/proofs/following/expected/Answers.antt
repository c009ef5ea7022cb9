use Rattle.std.proofs.Common.{List, map, ap}
use Rattle.std.specs.Prelude.{Vec}
use Rattle.std.specs.Global.{Global}
use Rattle.expected_tokens.specs.declared.kinds.TheConstants.{ALL}
use Rattle.expected_tokens.specs.declared.rules.Term.{Term}
use Rattle.expected_tokens.specs.Leading.{kinds_of}
use Rattle.expected_tokens.specs.proving.Next.{parts_of}
use Rattle.expected_tokens.proofs.AllKinds.{all_kinds}
use Rattle.expected_tokens.proofs.Steps.{follows_from}
use Rattle.expected_tokens.proofs.following.expected.Goals as goal

pub returns : goal.returns
returns c =
    let parts : Vec Term Global → List Term = λ s. s.items in
    λ k.
    follows_from ALL c.in_ok-kinds.kinds.items c.new-none.result.items (parts_of c.in_ok-stacks.stacks)
    (map parts c.as_slice.result.now)
    (kinds_of c.args.tokens.now)
    k
    c.new-none.ensures.items
    (ap (map parts) c.as_slice.ensures.value)
    (all_kinds k)
    c.in_ok-stacks.ensures
    (c.in_ok-kinds.ensures k)
