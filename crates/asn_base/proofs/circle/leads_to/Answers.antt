use Rattle.std.proofs.Common.{◌≡◌, ◌∙◌, length, replicate, ap, subst, sym, ℕ}
use Rattle.std.proofs.lemmas.List.{length-replicate}
use Rattle.asn_base.specs.proving.Reaching.{IsMarked}
use Rattle.asn_base.proofs.Reaching.{no_marks}
use Rattle.asn_base.proofs.circle.leads_to.Goals as goal

pub search-requires : goal.search-requires
search-requires c =
    let zeros : c.deref_mut.result.now ≡ replicate (length c.args.rows.now) 0 = c.deref_mut.ensures.value ∙ c.in_ok-marks.ensures.items_if_clones_equal (λ y h. h) in
    record {
      closed = c.requires.closed;
      long = ap length zeros ∙ length-replicate (length c.args.rows.now) 0;
      there = c.requires.there;
      inside = c.requires.inside;
      fresh = subst (λ q. (j : ℕ) → IsMarked q j → ⊥) (sym zeros) (no_marks (length c.args.rows.now));
    }
