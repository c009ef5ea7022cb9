use Rattle.std.proofs.Common.{◌≡◌, ◌++◌, ◌∷◌, [], List, map, sym, ap, ◌∙◌}
use Rattle.std.specs.Prelude.{Vec}
use Rattle.std.specs.Global.{Global}
use Rattle.std.proofs.lemmas.List.{map-append}
use Rattle.expected_tokens.specs.declared.rules.Term.{Term}
use Rattle.expected_tokens.specs.proving.Next.{parts_of}
use Rattle.expected_tokens.proofs.Steps.{put_there}
use Rattle.expected_tokens.proofs.stacks.put.Goals as goal

pub returns : goal.returns
returns c =
    let parts : Vec Term Global → List Term = λ s. s.items in
    let is = c.args.above.now ++ c.args.below.now in
    let stack = c.in_ok-stack.stack in
    let made = ap (map parts) c.in_ok-push.ensures.items ∙ map-append parts c.args.to.items (stack ∷ []) in
    λ js.
    put_there (parts_of c.args.to) (parts_of c.push.new.self) stack.items js
    (λ z. z ≡ is)
    made
    (λ q. sym q ∙ c.in_ok-stack.ensures)
    (λ q. c.in_ok-stack.ensures ∙ sym q)
