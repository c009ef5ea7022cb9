use Rattle.std.proofs.Common.{◌≡◌, ◌∙◌, map, refl, sym, subst, ap, arith}
use Rattle.type_table.specs.declared.table.TypeNode.{TypeNode}
use Rattle.type_table.specs.Seen.{part_of, type_of, types_of, kind_of}
use Rattle.circles.specs.Circles.{IsPart, member}
use Rattle.type_table.specs.Table.{members}
use Rattle.type_table.specs.proving.Tables.{type_at, as_long}
use Rattle.circles.proofs.Circling.{circle_of_leads, leads_of_circle, no_list}
use Rattle.circles.proofs.Rising.{no_circle}
use Rattle.circles.proofs.search.is_in_circle.Goals as goal

pub lead_to-requires : goal.lead_to-requires
lead_to-requires c =
    let there = type_at c.args.ranked.types.now c.args.list c.index-types-list.result c.requires.there c.index-types-list.is in
    let kind : kind_of c.index-types-list.result.shape ≡ members c.in-Members.field-0 c.in-Members.field-1 (map part_of c.deref-in-Members.result.now) = ap kind_of (ap (λ (z : TypeNode). z.shape) c.index-types-list.is ∙ c.in-Members.is) ∙ ap (λ x. members c.in-Members.field-0 c.in-Members.field-1 (map part_of x)) (sym c.deref-in-Members.ensures.value) in
    record {
      parts = c.requires.parts;
      long = c.requires.long;
      there = c.requires.there;
      inside = λ k d.
          let part = c.requires.parts c.args.list k (type_of c.index-types-list.result) there (subst (λ z. IsPart k z) (sym kind) (member d.number d.component d.held d.ty)) in
          omega (arith, part, as_long c.args.ranked.types.now);
      earlier = c.requires.earlier;
    }

pub returns-in_ok-back-in-Members : goal.returns-in_ok-back-in-Members
returns-in_ok-back-in-Members c =
    let there = type_at c.args.ranked.types.now c.args.list c.index-types-list.result c.requires.there c.index-types-list.is in
    let kind : kind_of c.index-types-list.result.shape ≡ members c.in-Members.field-0 c.in-Members.field-1 (map part_of c.deref-in-Members.result.now) = ap kind_of (ap (λ (z : TypeNode). z.shape) c.index-types-list.is ∙ c.in-Members.is) ∙ ap (λ x. members c.in-Members.field-0 c.in-Members.field-1 (map part_of x)) (sym c.deref-in-Members.ensures.value) in
    record {
      circle = (
        λ b. circle_of_leads (types_of c.args.ranked.types.now) c.args.list (type_of c.index-types-list.result) c.in-Members.field-0 c.in-Members.field-1 (map part_of c.deref-in-Members.result.now) there kind (c.in_ok-back-in-Members.ensures.found.0 b),
        λ h. c.in_ok-back-in-Members.ensures.found.1 (leads_of_circle (types_of c.args.ranked.types.now) c.args.list (type_of c.index-types-list.result) c.in-Members.field-0 c.in-Members.field-1 (map part_of c.deref-in-Members.result.now) there kind h),
      );
      marks = c.in_ok-back-in-Members.ensures.marks;
    }

pub returns-then-is_above-clause-circle : goal.returns-then-is_above-clause-circle
returns-then-is_above-clause-circle c =
    let there = type_at c.args.ranked.types.now c.args.list c.index-types-list.result c.requires.there c.index-types-list.is in
    let kind : kind_of c.index-types-list.result.shape ≡ members c.in-Members.field-0 c.in-Members.field-1 (map part_of c.deref.result.now) = ap kind_of (ap (λ (z : TypeNode). z.shape) c.index-types-list.is ∙ c.in-Members.is) ∙ ap (λ x. members c.in-Members.field-0 c.in-Members.field-1 (map part_of x)) (sym c.deref.ensures.value) in
    let above = c.if-is_above.ensures refl in (
      λ b. absurd cc,
      λ h. absurd (no_circle (types_of c.args.ranked.types.now) c.args.ranked.ranks.now c.args.list (type_of c.index-types-list.result) c.in-Members.field-0 c.in-Members.field-1 (map part_of c.deref.result.now) (c.requires.ranked above.0) there kind above.1 h),
    )

pub returns-in_default : goal.returns-in_default
returns-in_default c =
    let there = type_at c.args.ranked.types.now c.args.list c.index-types-list.result c.requires.there c.index-types-list.is in
    record {
      circle = (
        λ b. absurd cc,
        λ h. absurd (no_list (types_of c.args.ranked.types.now) c.args.list (type_of c.index-types-list.result) c.index-types-list.result.shape there refl (λ l m cs e. c.in_default.not-Members l m cs (sym (ap (λ (z : TypeNode). z.shape) c.index-types-list.is) ∙ e)) h),
      );
      marks = λ j n h. let l = c.requires.earlier j n h in omega (arith, l);
    }
