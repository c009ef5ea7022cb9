use Rattle.std.proofs.Common.{arith, length, refl, sym, ap, subst, ◌∙◌}
use Rattle.octets.specs.Forms.{is_constructed}
use Rattle.header_listing.specs.Shown.{IsFirst}
use Rattle.header_listing.specs.proving.Going.{GoesOn, outs_of}
use Rattle.header_listing.proofs.Going.{header_counted, unit_counted}
use Rattle.header_listing.proofs.Listed.{moved, outs_counted, outs_more, smaller_after, smaller_within, step_primitive, step_within}
use Rattle.header_listing.proofs.walk.Listing.show_encoding.Goals as goal
use Rattle.header_listing.proofs.walk.Listing.show_encoding.Goals.{in-Primitive, in-Constructed+in_ok-push-in-Constructed}

pub returns : goal.returns
returns c =
    let e = c.args.seen.encoding in
    let l = c.args.self.now in
    let depth = ap length c.as_slice-depth.ensures.value ∙ sym (outs_counted l.outer.items) in
    elim c.match-encoding.branch [
      | in-Primitive w ↦
          let f = subst (λ y. IsFirst e.tag (is_constructed y) e.identifier.now e.size.now e.contents.now e.rest.now l.left.now)
          w.in-Primitive.is c.requires.first in
          let n = unit_counted e.identifier.now e.size.now e.contents.now in
          subst (λ y. GoesOn l y) (sym w.self-is) (record {
            going = λ o limit b g. step_primitive (length c.as_slice-depth.result.now) _ _ g b f depth (omega (arith, n)) c.in_ok-push_header.ensures;
            less = smaller_after e.rest.now l.outer.items l.outer.items c.requires.first refl refl;
          })
      | in-Constructed+in_ok-push-in-Constructed w ↦
          let f = subst (λ y. IsFirst e.tag (is_constructed y) e.identifier.now e.size.now e.contents.now e.rest.now l.left.now)
          w.in-Constructed.is c.requires.first in
          let n = header_counted e.identifier.now e.size.now in
          let p = w.in_ok-push-in-Constructed.ensures.items in
          subst (λ y. GoesOn l y) (sym w.self-is) (record {
            going = λ o limit b g. moved
                (step_within (length c.as_slice-depth.result.now) _ _ g b f depth (omega (arith, n)) c.in_ok-push_header.ensures)
                (sym (ap outs_of p ∙ outs_more l.outer.items _))
                refl
                refl;
            less = smaller_within e.contents.now l.outer.items _ _ c.requires.first refl p refl;
          })
    ]
