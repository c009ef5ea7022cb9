use Rattle.std.proofs.Common.{◌++◌, refl, ap, ◌∙◌}
use Rattle.std.specs.Option.{option_to_list}
use Rattle.header_listing.proofs.Exact.{none_left}
use Rattle.header_listing.proofs.Listed.{ended, outs_more, smaller_out, step_out}
use Rattle.header_listing.specs.proving.Going.{outs_of}
use Rattle.header_listing.proofs.walk.Listing.leave.Goals as goal

pub returns-in-Some-clause-open : goal.returns-in-Some-clause-open
returns-in-Some-clause-open c =
    let l = c.args.self.now in
    let e = c.pop.ensures.items ∙ ap (λ y. c.pop.new.self.items ++ option_to_list y) c.in-Some.is in
    λ _. record {
      going = λ o limit b g. step_out c.in-Some.next.rest.now (outs_of c.pop.new.self.items) g
          (ap outs_of e ∙ outs_more c.pop.new.self.items c.in-Some.next)
          (none_left l.left.now c.requires);
      less = smaller_out c.in-Some.next.rest.now l.left.now l.outer.items c.pop.new.self.items c.in-Some.next e refl;
    }

pub returns-in-None-clause-none : goal.returns-in-None-clause-none
returns-in-None-clause-none c = λ o limit _ g.
    ended c.args.self.now.outer.items g c.requires
    (c.pop.ensures.items ∙ ap (λ y. c.pop.new.self.items ++ option_to_list y) c.in-None.is)
    c.pop.ensures.rest (c.in-None.ensures.cases.0)
