use Rattle.std.proofs.Common.{◌≡◌, List, map}
use Rattle.std.specs.Prelude.{Vec}
use Rattle.std.specs.Global.{Global}
use Rattle.expected_tokens.specs.declared.rules.Term.{Term}
use Rattle.expected_tokens.specs.proving.Next.{GoesOn}
use Rattle.expected_tokens.proofs.Steps.{put_there}
use Rattle.expected_tokens.proofs.following.put_if_goes.Goals as goal

pub returns : goal.returns
returns c =
    let parts : Vec Term Global → List Term = λ s. s.items in
    λ k.
    put_there c.args.to.items c.push.new.self.items c.args.kind k
    (λ z. (c.args.kind ≡ z) × GoesOn (map parts c.args.stacks.now) c.args.kind)
    c.in_ok-push.ensures.items
    (λ q. (q, c.in_ok-goes_on.ensures.0 c.if-not-branch.false))
    (λ p. p.0)
