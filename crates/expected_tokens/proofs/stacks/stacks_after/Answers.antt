use Rattle.std.proofs.Common.{◌≡◌, ◌∷◌, ◌++◌, List, map, ap}
use Rattle.std.specs.Prelude.{Vec}
use Rattle.std.specs.Global.{Global}
use Rattle.expected_tokens.specs.declared.rules.Term.{Term}
use Rattle.expected_tokens.specs.Leading.{Derives, kinds_of, start_symbol}
use Rattle.expected_tokens.specs.proving.Next.{parts_of}
use Rattle.expected_tokens.proofs.Steps.{advanced_from}
use Rattle.expected_tokens.proofs.stacks.stacks_after.Goals as goal

pub loop-kind-preserved : goal.loop-kind-preserved
loop-kind-preserved c =
    let parts : Vec Term Global → List Term = λ s. s.items in
    let next : kinds_of c.loop-kind.left.now ≡ c.in-Some.kind ∷ kinds_of c.in-Some.rest.now = c.in-Some.ensures.0 in
    λ ts js.
    advanced_from (Derives start_symbol (kinds_of c.args.tokens.now ++ ts) js) (parts_of c.loop-kind.stacks)
    (map parts c.as_slice.result.now)
    (parts_of c.in_ok-stacks.stacks)
    c.in-Some.kind
    (kinds_of c.loop-kind.left.now)
    (kinds_of c.in-Some.rest.now)
    ts
    js
    (ap (map parts) c.as_slice.ensures.value)
    next
    c.in_ok-stacks.ensures
    (c.loop-kind.invariant ts js)
