use Rattle.std.proofs.Common.{arith, ◌+◌, ◌-◌, inl, ⊎_elim, length, drop, refl, sym, ap, subst, ◌∙◌}
use Rattle.std.specs.Prelude.{Bool, Result, Ok, Err, Some, option_map}
use Rattle.asn_base.specs.Abstract.{row_of_options}
use Rattle.encodings.specs.Rules.{Distinguished}
use Rattle.views.specs.Tree.{element_values, value_of}
use Rattle.der_check.specs.declared.refusal.Refusal.{Refusal}
use Rattle.der_check.specs.declared.refusal.Refusal.TheVariants.{Broken}
use Rattle.der_check.specs.declared.rule.RuleOfDer.TheVariants.{FewestLengthOctets}
use Rattle.der_check.specs.Places.{IsOnly}
use Rattle.der_check.specs.Broken.{Breaks, MemberBreaks}
use Rattle.der_check.specs.Strict.{components_of, MemberBy, PartBreaksIn}
use Rattle.der_check.proofs.Leafs.{leaf_shown}
use Rattle.der_check.proofs.Placing.{no_place, place_taken, later_left, small_place}
use Rattle.der_check.proofs.Orders.{falls_not}
use Rattle.der_check.proofs.Split.{one_unit}
use Rattle.der_check.proofs.Taking.{is_none, sequence_begin, take_next, sequence_end, sequence_refused, SequenceLeft, known_begin, take_known, known_end, all_judged, set_end, elements_begin, take_element, elements_end, ElementsLeft}
use Rattle.der_check.proofs.Finding.{order_so_far, set_next, found_end, none_found, list_fallen}
use Rattle.der_check.proofs.Deciding.{no_some, decides_as, of_same, strict_within, value_opened, leaf_decided, choice_decided, choice_none, value_as, member_as, field_type, field_there, asked_at, value_of_type, member_decided, member_omitted, next_given, next_first, next_among, next_by, as_sequence, as_set, list_given, list_at, judges_as, judges_moved, refused_moved, member_found, headers_found, sequence_found, elements_found, known_by, starts_within, member_default}
use Rattle.der_check.proofs.value.+strict.Goals as goal

pub strict_value-returns-in-Ok-strict_contents : goal.strict_value-returns-in-Ok-strict_contents
strict_value-returns-in-Ok-strict_contents t c = λ g.
    let o = value_opened c.header_laws.ensures.none_begins_another (c.args.levels - 1) (omega (arith, c.if-levels-eq0.false)) c.lemma_invariant.ensures c.steps.ensures g c.in-Ok.ensures.ok in
    (decides_as (Ok c.in-Ok-strict_contents.whole) o.there o.back (c.in-Ok-strict_contents.ensures o.kind o.given).0, tt)

pub strict_value-returns-in-Err-strict_contents : goal.strict_value-returns-in-Err-strict_contents
strict_value-returns-in-Err-strict_contents t c = λ g.
    let o = value_opened c.header_laws.ensures.none_begins_another (c.args.levels - 1) (omega (arith, c.if-levels-eq0.false)) c.lemma_invariant.ensures c.steps.ensures g c.in-Ok.ensures.ok in
    let s = c.args.judge.code.now in
    let v = value_of c.args.part.now in
    let l = o.inner in
    let d = c.distance.ensures in
    judges_moved _ _ _ (Breaks s c.args.id.index v c.args.octets.now) c.distance.result (length c.in-Ok.contents.now) (length c.args.octets.now) c.in-Err-strict_contents.refusal c.at_distance.result c.at_distance.ensures
    o.back (omega (arith, l, d)) g.short (λ r n b. subst (λ q. Breaks s c.args.id.index v c.args.octets.now r (q + n)) (sym d) (o.breaks r n b)) (λ r m b. let z = o.only r m b in inl (z.0, z.1, let y = z.2 in omega (arith, d, y))) (c.in-Err-strict_contents.ensures o.kind o.given)

pub strict_value-returns-in-Err : goal.strict_value-returns-in-Err
strict_value-returns-in-Err t c = λ g. (
  λ e j d. let w = strict_within c.steps.result.now c.steps.ensures d in c.in-Err.ensures.none w.steps w.contents w.within g.short,
  headers_found c.header_laws.ensures.none_begins_another c.in-Err.breach c.steps.ensures c.in-Err.ensures.broken g,
)

pub strict_contents-returns-in-Fields : goal.strict_contents-returns-in-Fields
strict_contents-returns-in-Fields t c = of_same c.strict_fields.result (ap value_of c.in-Fields.ensures) c.strict_fields.ensures

pub strict_contents-returns-in-List : goal.strict_contents-returns-in-List
strict_contents-returns-in-List t c = of_same c.strict_list.result (ap value_of c.in-List.ensures) c.strict_list.ensures

pub strict_contents-returns-in-Some : goal.strict_contents-returns-in-Some
strict_contents-returns-in-Some t c =
    of_same c.strict_value.result (ap value_of c.in-Alternative.ensures)
    (choice_decided c.in-Some.ty c.alternative_at.result c.strict_value.result c.in-Some.is c.alternative_at.ensures c.strict_value.ensures)

pub strict_contents-returns-in-None : goal.strict_contents-returns-in-None
strict_contents-returns-in-None t c =
    let none : Result Bool Refusal = Err (Broken (record { rule = FewestLengthOctets; offset = 0 })) in
    of_same none (ap value_of c.in-Alternative.ensures)
    (choice_none c.alternative_at.result c.in-None.is c.alternative_at.ensures none)

pub strict_contents-returns-in_default : goal.strict_contents-returns-in_default
strict_contents-returns-in_default t c =
    leaf_decided c.strict_leaf.result refl
    (leaf_shown c.args.part.now c.value_kind.result c.value_kind.ensures c.in_default.not-Fields c.in_default.not-List c.in_default.not-Alternative)
    c.strict_leaf.ensures

pub strict_fields-returns-then-is_ranked : goal.strict_fields-returns-then-is_ranked
strict_fields-returns-then-is_ranked t c = λ k g.
    let a = as_set c.header_laws.ensures.none_begins_another c.lemma_invariant.ensures k (sym c.is_ranked.ensures ∙ c.if-is_ranked.true) g in
    judges_as _ _ _ _ (length c.args.contents.now) c.strict_set.result a.there a.back a.breaks a.only (c.strict_set.ensures a.all a.known a.in_order a.others a.units a.given)

pub strict_fields-returns-else-is_ranked : goal.strict_fields-returns-else-is_ranked
strict_fields-returns-else-is_ranked t c = λ k g.
    let a = as_sequence c.header_laws.ensures.none_begins_another c.lemma_invariant.ensures k (sym c.is_ranked.ensures ∙ c.if-is_ranked.false) g in
    judges_as _ _ _ _ (length c.args.contents.now) c.strict_sequence.result a.there a.back a.breaks a.only (c.strict_sequence.ensures a.all a.known a.others a.given)

pub strict_sequence-loop-i-init : goal.strict_sequence-loop-i-init
strict_sequence-loop-i-init t c = λ cs xs us g. (λ j l. refl, sequence_begin g)

pub strict_sequence-returns-in-Err : goal.strict_sequence-returns-in-Err
strict_sequence-returns-in-Err t c = λ cs xs us g.
    let os = components_of c.args.size c.args.members in
    let v = c.loop-i.invariant cs xs us g in
    let found = c.next_component-found.ensures.found (small_place c.args.size c.loop-i.i c.args.members c.loop-i-test.true g.few_places) in
    let o = option_map value_of c.next_component-found.result in
    let k = take_next o (drop (c.loop-i.i + 1) os) (λ d w y r j n. c.lemma_broken.ensures.member c.args.at.judge.code.now d w y r j n c.lemma_invariant.ensures) g.few g.steps v.1 (place_taken c.args.size c.loop-i.i c.args.members c.loop-i.left _ c.loop-i-test.true v.0 found) in
    let d = c.in-Err.ensures k.component k.encoding k.following k.given k.first in (
      λ e. sequence_refused (k.refused (d.0 (refused_moved c.distance.result c.in-Err.refusal c.at_distance.result c.at_distance.ensures e))),
      sequence_found c.args.at.judge.code.now cs (row_of_options os) xs k.component k.encoding c.distance.result k.start (length c.args.contents.now) (length c.loop-i.rest.now) o c.in-Err.refusal c.at_distance.result k.has k.only d.1 c.at_distance.ensures c.distance.ensures k.reached k.within g.units.short,
    )

pub strict_sequence-loop-i-preserved : goal.strict_sequence-loop-i-preserved
strict_sequence-loop-i-preserved t c = λ cs xs us g.
    let os = components_of c.args.size c.args.members in
    let v = c.loop-i.invariant cs xs us g in
    let small = small_place c.args.size c.loop-i.i c.args.members c.loop-i-test.true g.few_places in
    let found = c.next_component-found.ensures.found small in
    let k = take_next (option_map value_of c.next_component-found.result) (drop (c.loop-i.i + 1) os) (λ d w y r j n. c.lemma_broken.ensures.member c.args.at.judge.code.now d w y r j n c.lemma_invariant.ensures) g.few g.steps v.1 (place_taken c.args.size c.loop-i.i c.args.members c.loop-i.left _ c.loop-i-test.true v.0 found) in
    let d = c.in-Ok.ensures k.component k.encoding k.following k.given k.first in (
      later_left c.loop-i.i c.args.members c.loop-i.left _ v.0 (c.next_component-found.ensures.later small),
      subst (λ q. SequenceLeft c.args.at.judge.code.now c.args.at.levels cs (row_of_options os) xs us (c.loop-i.i + 1) (drop (c.loop-i.i + 1) os) c.both-whole.result q (length c.args.contents.now)) (sym d.0)
          (k.next d.1.0 c.in-Ok.taken.0 c.both-whole.result d.1.1 d.1.2 c.both-whole.ensures),
    )

pub strict_sequence-returns : goal.strict_sequence-returns
strict_sequence-returns t c = λ cs xs us g. (sequence_end (c.loop-i.invariant cs xs us g).1 (no_place c.args.size _ c.loop-i.i c.loop-i-test.false) (is_none c.is_empty.result (length c.loop-i.rest.now) c.is_empty.ensures) c.both.ensures, tt)

pub strict_set-loop-i-init : goal.strict_set-loop-i-init
strict_set-loop-i-init t c = λ cs xs zs us ys g. (
  λ j l. refl,
  known_begin g,
  order_so_far c.args.at.judge.code.now (components_of c.args.size c.args.members) cs xs zs us ys c.args.contents.now c.do_climb.result c.order_of-none_else.result.0 c.order_of-none_else.result.1 g.once (c.do_climb.ensures cs ys zs us g.steps.reads g.units g.parted) c.order_of-none_else.ensures,
)

pub strict_set-loop-i-preserved : goal.strict_set-loop-i-preserved
strict_set-loop-i-preserved t c = λ cs xs zs us ys g.
    let os = components_of c.args.size c.args.members in
    let v = c.loop-i.invariant cs xs zs us ys g in
    let small = small_place c.args.size c.loop-i.i c.args.members c.loop-i-test.true g.few_places in
    let found = c.next_component-found.ensures.found small in
    let k = take_known (option_map value_of c.next_component-found.result) (drop (c.loop-i.i + 1) os) (λ d w y r j n. c.lemma_broken.ensures.member c.args.at.judge.code.now d w y r j n c.lemma_invariant.ensures) g.few g.steps g.units v.1 (place_taken c.args.size c.loop-i.i c.args.members c.loop-i.left _ c.loop-i-test.true v.0 found) in
    let d = c.strict_known-judged.ensures k.component k.encoding ys k.given k.among in
    let n = set_next os xs zs us ys c.order_of-none_else.result.0 c.strict_known-judged.result c.loop-i.whole c.in-Some.noted.0 c.loop-i.breach c.in-Some.noted.1 k d c.in-Some.ensures v.2 in (
      later_left c.loop-i.i c.args.members c.loop-i.left _ v.0 (c.next_component-found.ensures.later small),
      n.0,
      n.1,
    )

pub strict_set-returns-in-Some-breach : goal.strict_set-returns-in-Some-breach
strict_set-returns-in-Some-breach t c = λ cs xs zs us ys g.
    let v = c.loop-i.invariant cs xs zs us ys g in
    let j = all_judged v.1 (no_place c.args.size _ c.loop-i.i c.loop-i-test.false) in
    found_end c.args.at.judge.code.now (components_of c.args.size c.args.members) cs xs zs us ys (length c.args.contents.now) c.order_of-none_else.result.0 c.loop-i.breach c.in-Some-breach.breach c.in-Some-breach.is j v.2

pub strict_set-returns-in-None-breach : goal.strict_set-returns-in-None-breach
strict_set-returns-in-None-breach t c = λ cs xs zs us ys g.
    let v = c.loop-i.invariant cs xs zs us ys g in
    let d = known_end v.1 c.in-None-breach.is (no_place c.args.size _ c.loop-i.i c.loop-i-test.false) in
    let e = none_found c.args.at.judge.code.now (components_of c.args.size c.args.members) cs xs zs us ys (length c.args.contents.now) c.order_of-none_else.result.0 c.loop-i.breach c.in-None-breach.is v.2 in
    (set_end d e c.both.ensures, tt)

pub strict_next-returns-in-Ok : goal.strict_next-returns-in-Ok
strict_next-returns-in-Ok t c = λ d x r pg sf.
    let e = ap (option_map value_of) c.in-Some.is in
    let v = value_of c.in-Some.part in
    let f = next_first x r c.args.octets.now v e sf in
    let u = one_unit c.header_laws.ensures.none_begins_another c.in-Some-next_encoding.ensures.unit f.2.1 (sym c.in-Some-next_encoding.ensures.whole ∙ f.0) in
    (u.rests, (next_by c.args.at.judge.code.now d x v (Ok c.in-Ok.whole) e (member_as (Ok c.in-Ok.whole) u.octets c.in-Ok.ensures (next_given v e pg))).0)

pub strict_next-returns-in-Err : goal.strict_next-returns-in-Err
strict_next-returns-in-Err t c = λ d x r pg sf.
    let e = ap (option_map value_of) c.in-Some.is in
    let v = value_of c.in-Some.part in
    let f = next_first x r c.args.octets.now v e sf in
    let u = one_unit c.header_laws.ensures.none_begins_another c.in-Some-next_encoding.ensures.unit f.2.1 (sym c.in-Some-next_encoding.ensures.whole ∙ f.0) in
    next_by c.args.at.judge.code.now d x v (Err c.in-Err.refusal) e (member_as (Err c.in-Err.refusal) u.octets c.in-Err.ensures (next_given v e pg))

pub strict_next-returns-in-None-next_encoding : goal.strict_next-returns-in-None-next_encoding
strict_next-returns-in-None-next_encoding t c = λ d x r pg sf.
    let f = next_first x r c.args.octets.now (value_of c.in-Some.part) (ap (option_map value_of) c.in-Some.is) sf in
    absurd (c.in-None-next_encoding.ensures.none f.2.0 x r f.2.1 f.0 f.1)

pub strict_known-returns-in-Ok : goal.strict_known-returns-in-Ok
strict_known-returns-in-Ok t c = λ d x ys pg sa.
    let e = ap (option_map value_of) c.in-Some.is in
    let v = value_of c.in-Some.part in
    let m = next_given v e pg in
    let a = next_among c.args.at.judge.code.now d x c.args.contents.now ys v e sa in
    let ty = field_type c.field_at.result c.in-Some-field_at.field c.in-Some-field_at.is c.field_at.ensures m in
    let same = c.in-Some-find_first.ensures ys x a.0 (subst (λ q. IsOnly c.args.at.judge.code.now q ys x) (sym ty) a.1) in
    known_by c.args.at.judge.code.now d x ys v (length c.args.contents.now) (Ok c.in-Ok.whole) e ((member_as (Ok c.in-Ok.whole) same.0 c.in-Ok.ensures m).0, tt)

pub strict_known-returns-in-Err : goal.strict_known-returns-in-Err
strict_known-returns-in-Err t c = λ d x ys pg sa.
    let s = c.args.at.judge.code.now in
    let e = ap (option_map value_of) c.in-Some.is in
    let v = value_of c.in-Some.part in
    let m = next_given v e pg in
    let a = next_among s d x c.args.contents.now ys v e sa in
    let ty = field_type c.field_at.result c.in-Some-field_at.field c.in-Some-field_at.is c.field_at.ensures m in
    let same = c.in-Some-find_first.ensures ys x a.0 (subst (λ q. IsOnly s q ys x) (sym ty) a.1) in
    let w = starts_within same.1.0 in
    let l = ap length a.0.whole in
    let start = c.in-Some-find_first.start in
    known_by s d x ys v (length c.args.contents.now) (Err c.at_distance.result) e
    (judges_moved (MemberBy s d v x) (MemberBy s d v x) (MemberBreaks s d v x) (PartBreaksIn s d (Some v) x ys) start (length x) (length c.args.contents.now) c.in-Err.refusal c.at_distance.result c.at_distance.ensures (λ j q. q) (omega (arith, w, l)) a.0.short (λ r n b. (start, n, same.1.0, b, refl)) (λ r k b. inl (b.1, b.3, let z = same.1.1 b.0 b.2 in let y = b.4 in omega (arith, z, y))) (member_as (Err c.in-Err.refusal) same.0 c.in-Err.ensures m))

pub strict_known-returns-in-None-find_first : goal.strict_known-returns-in-None-find_first
strict_known-returns-in-None-find_first t c = λ d x ys pg sa.
    let e = ap (option_map value_of) c.in-Some.is in
    let v = value_of c.in-Some.part in
    let m = next_given v e pg in
    let a = next_among c.args.at.judge.code.now d x c.args.contents.now ys v e sa in
    let ty = field_type c.field_at.result c.in-Some-field_at.field c.in-Some-field_at.is c.field_at.ensures m in
    absurd (c.in-None-find_first.ensures ys x a.0 (subst (λ q. IsOnly c.args.at.judge.code.now q ys x) (sym ty) a.1))

pub strict_known-returns-in-None-field_at : goal.strict_known-returns-in-None-field_at
strict_known-returns-in-None-field_at t c = λ d x ys pg sa.
    field_there c.field_at.result c.in-None-field_at.is c.field_at.ensures (next_given (value_of c.in-Some.part) (ap (option_map value_of) c.in-Some.is) pg)

pub strict_list-returns-in-None : goal.strict_list-returns-in-None
strict_list-returns-in-None t c = λ k g.
    let q = list_given c.header_laws.ensures.none_begins_another c.lemma_invariant.ensures k g in
    no_some (sym c.in-None.is ∙ c.element_type.ensures ∙ q.found_type)

pub strict_list-returns-in-Some-fall : goal.strict_list-returns-in-Some-fall
strict_list-returns-in-Some-fall t c = λ k g.
    let l = list_at c.in-Some.found.0 c.in-Some.found.1 (list_given c.header_laws.ensures.none_begins_another c.lemma_invariant.ensures k g) (sym c.element_type.ensures ∙ c.in-Some.is) in
    list_fallen (λ w y r j n. c.lemma_broken.ensures.value c.args.at.judge.code.now c.in-Some.found.0.index j n w y r c.lemma_invariant.ensures) l c.in-Some-fall.offset c.strict_elements-judged.result c.with_fall.result (c.in-Some-fall.ensures l.encodings l.given.units) (c.strict_elements-judged.ensures l.encodings l.given) c.with_fall.ensures

pub strict_list-returns-in-None-fall : goal.strict_list-returns-in-None-fall
strict_list-returns-in-None-fall t c = λ k g.
    let l = list_at c.in-Some.found.0 c.in-Some.found.1 (list_given c.header_laws.ensures.none_begins_another c.lemma_invariant.ensures k g) (sym c.element_type.ensures ∙ c.in-Some.is) in
    let z = c.in-None-fall.ensures l.encodings l.given.units in
    judges_as _ _ _ _ (length c.args.contents.now) c.strict_elements-judged.result (λ j e. l.there j z e) (λ j h. (l.back j h).0) l.breaks (λ q p b. ⊎_elim (λ y. y) (λ y. absurd (falls_not y.1.1 (z y.0))) (l.only q p b)) (c.strict_elements-judged.ensures l.encodings l.given)

pub strict_elements-loop-part-init : goal.strict_elements-loop-part-init
strict_elements-loop-part-init t c = λ xs g. elements_begin g

pub strict_elements-returns-in-None : goal.strict_elements-returns-in-None
strict_elements-returns-in-None t c = λ xs g.
    let k = take_element (value_of c.in-Some.part) _ (λ w y r j n. c.lemma_broken.ensures.value c.args.judge.code.now c.args.id.index j n w y r c.lemma_invariant.ensures) g.few (c.loop-part.invariant xs g) (ap element_values c.in-Some.ensures.steps) in
    absurd (c.in-None.ensures.none k.unit.0 k.encoding k.following k.unit.1 k.first k.short)

pub strict_elements-returns-in-Err : goal.strict_elements-returns-in-Err
strict_elements-returns-in-Err t c = λ xs g.
    let v = value_of c.in-Some.part in
    let k = take_element v _ (λ w y r j n. c.lemma_broken.ensures.value c.args.judge.code.now c.args.id.index j n w y r c.lemma_invariant.ensures) g.few (c.loop-part.invariant xs g) (ap element_values c.in-Some.ensures.steps) in
    let u = one_unit c.header_laws.ensures.none_begins_another c.in-Some-next_encoding.ensures.unit k.unit.1 (sym c.in-Some-next_encoding.ensures.whole ∙ k.first) in
    let d = value_as (Err c.in-Err.refusal) u.octets c.in-Err.ensures k.given in (
      λ e j h. k.refused (d.0 (refused_moved c.distance.result c.in-Err.refusal c.at_distance.result c.at_distance.ensures e)) j h,
      elements_found c.args.judge.code.now c.args.id.index (element_values c.args.members) xs v k.encoding c.distance.result k.start (length c.args.contents.now) (length c.loop-part.rest.now) c.in-Err.refusal c.at_distance.result k.has k.only d.1 c.at_distance.ensures c.distance.ensures k.reached k.within g.units.short,
    )

pub strict_elements-loop-part-preserved : goal.strict_elements-loop-part-preserved
strict_elements-loop-part-preserved t c = λ xs g.
    let k = take_element (value_of c.in-Some.part) (element_values c.next.new.self) (λ w y r j n. c.lemma_broken.ensures.value c.args.judge.code.now c.args.id.index j n w y r c.lemma_invariant.ensures) g.few (c.loop-part.invariant xs g) (ap element_values c.in-Some.ensures.steps) in
    let u = one_unit c.header_laws.ensures.none_begins_another c.in-Some-next_encoding.ensures.unit k.unit.1 (sym c.in-Some-next_encoding.ensures.whole ∙ k.first) in
    let d = (value_as (Ok c.in-Ok.one) u.octets c.in-Ok.ensures k.given).0 in
    subst (λ q. ElementsLeft c.args.judge.code.now c.args.id.index c.args.levels (element_values c.args.members) xs (element_values c.next.new.self) c.both-whole.result q (length c.args.contents.now)) (sym u.rests)
    (k.next d.0 c.in-Ok.one c.both-whole.result d.1 d.2 c.both-whole.ensures)

pub strict_elements-returns : goal.strict_elements-returns
strict_elements-returns t c = λ xs g. (elements_end (c.loop-part.invariant xs g) (ap element_values c.in_default.ensures.steps.0), tt)

pub strict_member-returns-in-Err : goal.strict_member-returns-in-Err
strict_member-returns-in-Err t c = λ d m.
    let s = c.args.at.judge.code.now in
    let v = value_of c.args.part.now in
    let x = c.args.octets.now in
    let ty = field_type c.field_at.result c.in-Some.field c.in-Some.is c.field_at.ensures m in
    let e = value_of_type (Err c.in-Err.refusal) ty c.in-Err.ensures m.given in
    (λ i j b. e.0 i j b.says_it, member_found s d v x c.in-Err.refusal e.0 e.1)

pub strict_member-returns-then-same : goal.strict_member-returns-then-same
strict_member-returns-then-same t c = λ d m.
    let ty = field_type c.field_at.result c.in-Some.field c.in-Some.is c.field_at.ensures m in
    let e = (value_of_type (Ok c.in-Ok.whole) ty c.in-Ok.ensures m.given).0 in
    let a = asked_at c.field_at.result c.in-Some.field c.in-Ok-is_default.same c.in-Ok.whole c.in-Some.is c.field_at.ensures m c.in-Ok-is_default.ensures in (
      λ h j b. member_omitted c.in-Ok.whole (λ t' j' k' v w o x y. (c.reading_laws.ensures.one_value c.args.at.judge.code.now Distinguished t' j' k' v w o c.lemma_invariant.ensures.tagged c.lemma_invariant.ensures.distinct_tags x y).1) m e (a.0 c.if-same.true) j b,
      member_default c.in-Ok.whole c.lemma_invariant.ensures.tagged m e (a.0 c.if-same.true),
    )

pub strict_member-returns : goal.strict_member-returns
strict_member-returns t c = λ d m.
    let ty = field_type c.field_at.result c.in-Some.field c.in-Some.is c.field_at.ensures m in
    let e = (value_of_type (Ok c.in-Ok.whole) ty c.in-Ok.ensures m.given).0 in
    let a = asked_at c.field_at.result c.in-Some.field c.in-Ok-is_default.same c.in-Ok.whole c.in-Some.is c.field_at.ensures m c.in-Ok-is_default.ensures in
    member_decided c.in-Ok.whole c.lemma_invariant.ensures c.lemma_levels_grow.ensures m e (λ o. let h = a.1 o in let f = c.if-same.false in cc)
