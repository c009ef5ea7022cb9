use Rattle.std.proofs.Common.{length, refl, sym, ap, ◌∙◌}
use Rattle.header_listing.proofs.Listed.{outs_counted, smaller_none, step_none}
use Rattle.header_listing.proofs.walk.Listing.show_others.Goals as goal

pub returns : goal.returns
returns c =
    let l = c.args.self.now in
    record {
      going = λ o limit b g. step_none (length c.as_slice-depth.result.now) _ _ g b c.requires.some c.requires.none
          (ap length c.as_slice-depth.ensures.value ∙ sym (outs_counted l.outer.items)) refl c.in_ok-push_others.ensures;
      less = smaller_none l.left.now l.outer.items c.requires.some;
    }
