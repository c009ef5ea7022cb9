use Rattle.std.proofs.Common.{ap, sym, ◌∙◌}
use Rattle.std.specs.Prelude.{Some}
use Rattle.asn_base.specs.declared.schema.Core.{Core}
use Rattle.asn_base.specs.Seen.{kind_of, resolved_of}
use Rattle.later_versions.specs.Differences.{other_tags}
use Rattle.later_versions.proofs.Pairing.{pair_judged}
use Rattle.later_versions.proofs.Tracking.{if_ok}
use Rattle.later_versions.proofs.versions.other_pair.Goals as goal

pub returns-then-not-are_same_tags : goal.returns-then-not-are_same_tags
returns-then-not-are_same_tags c = record {
  one = resolved_of c.get-one.result.now;
  other = resolved_of c.get-other.result.now;
  at_first = c.get-one.ensures.is;
  at_second = c.get-other.ensures.is;
  differs = other_tags (λ f. absurd (
      let e = c.are_same_tags.ensures.1 (c.as_slice.ensures.value ∙ f ∙ sym c.as_slice-2.ensures.value) in
      let g = c.if-not-are_same_tags.true in
      cc
      ));
}

pub returns : goal.returns
returns c = if_ok c.other_kind.result c.other_kind.ensures (λ reason h.
    pair_judged c.args.first.now c.args.second.now _
    (record { tags = c.get-one.result.now.tags.items; kind = kind_of c.deref.result.now })
    (record { tags = c.get-other.result.now.tags.items; kind = kind_of c.deref-2.result.now })
    reason
    (c.get-one.ensures.is ∙ ap (λ (q : Core). Some (record { tags = c.get-one.result.now.tags.items; kind = kind_of q })) (sym c.deref.ensures))
    (c.get-other.ensures.is ∙ ap (λ (q : Core). Some (record { tags = c.get-other.result.now.tags.items; kind = kind_of q })) (sym c.deref-2.ensures))
    (sym c.as_slice.ensures.value ∙ c.are_same_tags.ensures.0 c.if-not-are_same_tags.false ∙ c.as_slice-2.ensures.value) h)
