use Rattle.std.proofs.Common.{◌≡◌, List, map, sym, ap, ◌∙◌}
use Rattle.std.specs.Prelude.{Vec}
use Rattle.std.specs.Global.{Global}
use Rattle.expected_tokens.specs.declared.rules.Term.{Term}
use Rattle.expected_tokens.specs.proving.Next.{AnyNext, parts_of}
use Rattle.expected_tokens.proofs.Steps.{flag, none_left, some_left}
use Rattle.expected_tokens.proofs.following.goes_on.Goals as goal

pub returns : goal.returns
returns c =
    let parts : Vec Term Global → List Term = λ s. s.items in
    let left = parts_of c.in_ok-left.left in
    let slice : map parts c.as_slice.result.now ≡ left = ap (map parts) c.as_slice.ensures.value in
    let test : List Term → Type 0 = λ js. AnyNext (map parts c.args.stacks.now) c.args.kind js in (
      λ t. some_left left test c.in_ok-left.ensures (λ n. c.is_some_left.ensures.some t (slice ∙ n)),
      λ g. flag c.is_some_left.result
          (λ f. none_left left test c.in_ok-left.ensures (sym slice ∙ c.is_some_left.ensures.none f) g),
    )
