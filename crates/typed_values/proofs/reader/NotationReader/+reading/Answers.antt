use Rattle.std.proofs.Common.{Some, None, ◌∷◌, rules, arith, ◌∙◌, sym, ap, refl, subst, map, get_or, []}
use Rattle.std.specs.Prelude.{pos}
use Rattle.values.specs.Allowing.{Allows}
use Rattle.typed_values.specs.proving.Reading.{ArePlaced, HasShapeIn}
use Rattle.std.proofs.lemmas.List.{length-map}
use Rattle.asn_base.specs.Abstract.{alternative, fields as family_fields, list, row_of_list, row_of_options}
use Rattle.trees.specs.Values.{member_of, tree_of}
use Rattle.type_table.specs.declared.table.Shape.{Shape}
use Rattle.type_table.specs.Seen.{kind_of, part_of}
use Rattle.type_table.specs.Table as table
use Rattle.resolve.specs.Program.{Program, IsWhole, WrittenProgram}
use Rattle.value_notations.specs.Notations.{field_names}
use Rattle.value_notations.specs.Values as values
use Rattle.value_notations.specs.Wrong.{misfit}
use Rattle.typed_values.specs.Faults as faults
use Rattle.typed_values.specs.Known.{AreKnown, AreKnownDefaults}
use Rattle.range_ends.specs.Ends.{IsValueAt}
use Rattle.typed_values.specs.proving.Reading as reading
use Rattle.typed_values.specs.proving.Turns.{AreLower}
use Rattle.value_notations.specs.proving.Following.{sound_kind}
use Rattle.typed_values.proofs.Rows.{got}
use Rattle.typed_values.proofs.Readings.{default_tree, of_kind, own_fault, reached_fault, place_at, as_many, placed, field_there, field_is, field_stands, place_none, list_means, list_outside, list_fault, choice_means, choice_fault, fields_fault, fields_mean, alternative_below, alternative_at, alternative_name, no_alternative, names_misfit, row_count, written_of, last_of, list_as, list_in, shape_in, member_there, element_there, no_reference, no_tagged, read_stands, stands_as}
use Rattle.typed_values.proofs.Outcomes.{made_none, made_wrong, made_more, fields_made_none, fields_made_wrong, fields_made_more, zip_count}
use Rattle.value_notations.specs.References as last
use Rattle.typed_values.proofs.Going.{allows_in, back_and_back, below_in, kind_in, listed_in, not_gone, not_moved, on_and_on, reach_on}
use Rattle.typed_values.proofs.Found.{apart_none, found_as, found_here, found_leaf, found_none, found_then, found_up, later_on, lower_on, lower_same}
use Rattle.typed_values.proofs.Closing.{last_own, path_own}
use Rattle.typed_values.proofs.Endings.{answers_as, ok_then, ended_as, ends_as, ends_at, fault_as, has_ended, last_ends, later_named, later_passed, later_then, known_passed, lack_in, lower_named, makes_more, not_none, read_as, some_left}
use Rattle.typed_values.proofs.KnownNames.{known_ends, led_as}
use Rattle.typed_values.proofs.Tables.{known_with}
use Rattle.typed_values.proofs.Braces.{values_found, values_none_found, fields_found, fields_none_found}
use Rattle.typed_values.proofs.reader.NotationReader.+reading.Goals as goal

-- ---- elements

pub all-loop-i-init : goal.all-loop-i-init
all-loop-i-init t g c =
    record { read = made_none _ _ _ _ _ _ _ _ c.list_for-values.result.items c.list_for-values.ensures; returns = not_gone _; ready = not_moved c.requires.ready; same_table = refl }

pub all-returns-in-Err-clause-fault : goal.all-returns-in-Err-clause-fault
all-returns-in-Err-clause-fault t g c =
    made_wrong _ c.args.self.now.bounded.now _ _ c.loop-i.values.items c.args.notations.now c.loop-i.i c.index-notations-i.result c.loop-i-test.true c.index-notations-i.is
    c.loop-i.invariant.read c.loop-i.invariant.returns.opened c.loop-i.invariant.ready.text c.in-Err.ensures.is_read

pub all-returns-in-Err-push-clause-fault : goal.all-returns-in-Err-push-clause-fault
all-returns-in-Err-push-clause-fault t g c =
    made_wrong _ c.args.self.now.bounded.now _ _ c.loop-i.values.items c.args.notations.now c.loop-i.i c.index-notations-i.result c.loop-i-test.true c.index-notations-i.is
    c.loop-i.invariant.read c.loop-i.invariant.returns.opened c.loop-i.invariant.ready.text (faults.no_memory refl)

pub all-loop-i-preserved : goal.all-loop-i-preserved
all-loop-i-preserved t g c =
    record {
      read = made_more _ _ _ _ c.loop-i.values.items c.push.new.self.items c.in-Ok.value c.args.notations.now c.loop-i.i
          c.index-notations-i.result c.loop-i-test.true c.index-notations-i.is c.in-Ok-push.ensures.items
          c.loop-i.invariant.read c.loop-i.invariant.returns.opened c.loop-i.invariant.ready.same c.in-Ok.ensures.returns.later c.in-Ok.ensures.is_read;
      returns = back_and_back c.loop-i.invariant.returns c.in-Ok.ensures.returns;
      ready = on_and_on c.loop-i.invariant.ready c.in-Ok.ensures.ready;
      same_table = c.in-Ok.ensures.same_table ∙ c.loop-i.invariant.same_table;
    }

-- ---- components

pub all_fields-loop-i-init : goal.all_fields-loop-i-init
all_fields-loop-i-init t g c =
    record { read = fields_made_none _ _ _ _ _ _ _ _ _ c.list_for-values.result.items c.list_for-values.ensures; returns = not_gone _; ready = not_moved c.requires.ready; same_table = refl }

pub all_fields-field-requires : goal.all_fields-field-requires
all_fields-field-requires t g c =
    let cs = map part_of c.args.components.now in
    let fs = field_names (map member_of c.args.given.now) in
    let there = got part_of c.args.components.now c.loop-i.i c.index-components-i.result c.loop-i-test.true c.index-components-i.is in
    let many = as_many cs fs c.args.places.now c.requires.arranged in
    let same = length-map c.args.components.now part_of in
    let test = c.loop-i-test.true in
    let at = place_at cs fs c.args.places.now c.loop-i.i (part_of c.index-components-i.result) _ c.requires.arranged there
    (omega (arith, many, same, test)) in
    let ready = c.loop-i.invariant.ready in λ k h. (
      search rules,
      (
        h,
        (
          below_in ready.same (c.requires.members c.loop-i.i _ there),
          (
            at.0,
            (
              at.1,
              (
                listed_in ready.same (record { parts = cs; listed = c.requires.listed; there = (c.loop-i.i, there) }),
                ready.ready,
              ),
            ),
          ),
        ),
      ),
    )

pub all_fields-returns-in-Err-clause-fault : goal.all_fields-returns-in-Err-clause-fault
all_fields-returns-in-Err-clause-fault t g c =
    fields_made_wrong _ c.args.self.now.bounded.now _ _ c.loop-i.values.items c.args.components.now c.loop-i.i c.index-components-i.result c.loop-i-test.true c.index-components-i.is
    c.loop-i.invariant.read c.loop-i.invariant.returns.opened c.loop-i.invariant.ready.text c.in-Err.ensures.fault

pub all_fields-returns-in-Err-push-clause-fault : goal.all_fields-returns-in-Err-push-clause-fault
all_fields-returns-in-Err-push-clause-fault t g c =
    fields_made_wrong _ c.args.self.now.bounded.now _ _ c.loop-i.values.items c.args.components.now c.loop-i.i c.index-components-i.result c.loop-i-test.true c.index-components-i.is
    c.loop-i.invariant.read c.loop-i.invariant.returns.opened c.loop-i.invariant.ready.text (reading.no_memory refl)

pub all_fields-loop-i-preserved : goal.all_fields-loop-i-preserved
all_fields-loop-i-preserved t g c =
    record {
      read = fields_made_more _ _ _ _ c.loop-i.values.items c.push.new.self.items c.in-Ok.value c.args.components.now c.loop-i.i
          c.index-components-i.result c.loop-i-test.true c.index-components-i.is c.in-Ok-push.ensures.items
          c.loop-i.invariant.read c.loop-i.invariant.returns.opened c.loop-i.invariant.ready.same c.in-Ok.ensures.returns.later c.in-Ok.ensures.value;
      returns = back_and_back c.loop-i.invariant.returns c.in-Ok.ensures.returns;
      ready = on_and_on c.loop-i.invariant.ready c.in-Ok.ensures.ready;
      same_table = c.in-Ok.ensures.same_table ∙ c.loop-i.invariant.same_table;
    }

-- ---- alternatives

pub chosen-returns-in_default-clause-is_read : goal.chosen-returns-in_default-clause-is_read
chosen-returns-in_default-clause-is_read t g c = λ os e N w h.
    own_fault _ refl refl refl (misfit (of_kind w) h.last c.in_default.ensures.tree)

pub chosen-returns-in_default-alternative-clause-is_read : goal.chosen-returns-in_default-alternative-clause-is_read
chosen-returns-in_default-alternative-clause-is_read t g c = λ os e N w h.
    own_fault _ refl refl refl
    (no_alternative c.in-Some.name.now (tree_of c.in-Some.notation.now) w h.last c.in-Some.ensures.tree c.in_default-alternative.ensures)

pub chosen-bounds-alternatives-number : goal.chosen-bounds-alternatives-number
chosen-bounds-alternatives-number t g c =
    alternative_below c.args.alternatives.now c.in-Some-alternative.number _ c.in-Some-alternative.ensures

pub chosen-bounds-alternatives-number-in-Some-alternative : goal.chosen-bounds-alternatives-number-in-Some-alternative
chosen-bounds-alternatives-number-in-Some-alternative t g c =
    alternative_below c.args.alternatives.now c.in-Some-alternative.number _ c.in-Some-alternative.ensures

pub chosen-read-requires : goal.chosen-read-requires
chosen-read-requires t g c = λ k h. (
  search rules,
  (
    h,
    (
      c.requires.members c.in-Some-alternative.number _
          (alternative_at c.args.alternatives.now c.in-Some-alternative.number c.index-alternatives-number.result _
          c.in-Some-alternative.ensures),
      c.requires.ready,
    ),
  ),
)

pub chosen-returns-in-Err-clause-is_read : goal.chosen-returns-in-Err-clause-is_read
chosen-returns-in-Err-clause-is_read t g c = λ os e N w h.
    let xs = c.args.alternatives.now in
    let n = c.in-Some-alternative.number in
    let d = c.index-alternatives-number.result in
    choice_fault (part_of (get_or xs n d)) w h c.in-Some.ensures.text
    (n, alternative_at xs n d _ c.in-Some-alternative.ensures)
    (alternative_name xs n d _ c.in-Some-alternative.ensures) c.in-Err.ensures.is_read

pub chosen-returns-in-Ok-alternative-clause-is_read : goal.chosen-returns-in-Ok-alternative-clause-is_read
chosen-returns-in-Ok-alternative-clause-is_read t g c = λ os e N w h.
    let xs = c.args.alternatives.now in
    let n = c.in-Some-alternative.number in
    let d = c.index-alternatives-number.result in
    let m = c.in-Ok.ensures.is_read in
    record {
      value = alternative n m.value;
      shown = c.in-Ok-alternative.ensures m.value m.shown;
      read = found_up m.read (reach_on c.in-Ok.ensures.returns.later.lowest c.requires.reached)
          (λ k qs r. choice_means (part_of (get_or xs n d)) w (last.own (last_own h.last)) c.in-Some.ensures.tree
          (alternative_at xs n d _ c.in-Some-alternative.ensures)
          (alternative_name xs n d _ c.in-Some-alternative.ensures) r);
    }

pub chosen-returns-in-Err-alternative-clause-is_read : goal.chosen-returns-in-Err-alternative-clause-is_read
chosen-returns-in-Err-alternative-clause-is_read t g c = λ os e N w h. faults.no_memory refl

-- ---- defaults

pub read_default-returns-in-Ok-clause-may : goal.read_default-returns-in-Ok-clause-may
read_default-returns-in-Ok-clause-may t g c =
    λ n l.
    let m = c.in-Ok.ensures.is_read.read.holds n [] l (apart_none _) in
    let counted = m.counted in
    values.where_default c.requires.1.1.1.1.0
    (default_tree c.args.component.now.presence c.args.notation.now c.requires.1.1.1.1.1.0) m.is_so m.value
    (omega (arith, counted))

-- ---- a component

pub field-bounds-given-place : goal.field-bounds-given-place
field-bounds-given-place t g c = field_there c.args.given.now _ c.in-Some.place (sym c.requires.placed ∙ c.in-Some.is)

pub field-returns-in-Ok-clause-value : goal.field-returns-in-Ok-clause-value
field-returns-in-Ok-clause-value t g c =
    let m = c.in-Ok.ensures.is_read in
    record {
      value = Some m.value;
      shown = m.shown;
      field = found_then m.read (λ n qs r. (
        _,
        field_stands c.args.given.now _ c.in-Some.place c.index-given-place.result (sym c.requires.placed ∙ c.in-Some.is),
        r.is_so,
        r.value,
      ));
      counted = (found_here m.read).counted;
    }

pub field-returns-in-Err-clause-fault : goal.field-returns-in-Err-clause-fault
field-returns-in-Err-clause-fault t g c =
    let is = field_is c.args.given.now _ c.in-Some.place c.index-given-place.result (sym c.requires.placed ∙ c.in-Some.is) in
    reading.in_field _ is.0 is.1 c.in-Err.ensures.is_read

pub field-default_of-requires : goal.field-default_of-requires
field-default_of-requires t g c = c.requires.may c.in-None.is

pub field-returns-in_default-clause-value : goal.field-returns-in_default-clause-value
field-returns-in_default-clause-value t g c = record {
  value = None;
  shown = tt;
  field = found_none (λ n qs l. (
    place_none _ _ (sym c.requires.placed ∙ c.in-None.is),
    c.requires.may c.in-None.is,
    c.in_default.ensures.none c.args.self.now.bounded.now.program n c.args.followed.now.home.now refl,
  ));
  counted = omega arith;
}

pub field-returns-in-Ok-whole_default-clause-value : goal.field-returns-in-Ok-whole_default-clause-value
field-returns-in-Ok-whole_default-clause-value t g c = record {
  value = None;
  shown = tt;
  field = found_none (λ n qs l. (
    place_none _ _ (sym c.requires.placed ∙ c.in-None.is),
    c.requires.may c.in-None.is,
    c.in-Ok-whole_default.ensures.may n l,
  ));
  counted = omega arith;
}

pub field-returns-in-Err-whole_default-clause-fault : goal.field-returns-in-Err-whole_default-clause-fault
field-returns-in-Err-whole_default-clause-fault t g c =
    reading.in_default (place_none _ _ (sym c.requires.placed ∙ c.in-None.is)) c.in-Err-whole_default.ensures.fault

-- ---- a SEQUENCE or SET

pub fields-returns-in_default-clause-is_read : goal.fields-returns-in_default-clause-is_read
fields-returns-in_default-clause-is_read t g c = λ os e w h.
    own_fault _ refl refl refl
    (misfit (of_kind w.written) h.last
    (names_misfit c.args.kind e _ _ c.requires.list (fields_none_found _ c.in_default.ensures)))

pub fields-returns-in-Err-clause-is_read : goal.fields-returns-in-Err-clause-is_read
fields-returns-in-Err-clause-is_read t g c = λ os e w h.
    own_fault _ refl refl refl
    (c.names_cause-cause.ensures c.args.self.now.bounded.now _ _ _ os _ _ _ c.args.kind e _ _ (of_kind w.written) c.requires.list h
    (sym c.in-Some.ensures) c.in-Err.ensures)

pub fields-all_fields-requires : goal.fields-all_fields-requires
fields-all_fields-requires t g c = λ k h. (
  search rules,
  (
    h,
    (
      subst (λ ps. ArePlaced (map part_of c.args.components.now) (field_names (map member_of c.in-Some.given.now)) ps)
          (sym c.as_slice.ensures.value) (placed c.args.kind _ _ _ c.in-Ok.ensures),
      (c.requires.members, (c.requires.listed, c.requires.ready)),
    ),
  ),
)

pub fields-returns-in-Ok-all_fields-clause-is_read : goal.fields-returns-in-Ok-all_fields-clause-is_read
fields-returns-in-Ok-all_fields-clause-is_read t g c = λ os e w h.
    let r = c.in-Ok-all_fields.ensures.value in
    record {
      value = family_fields (row_of_options r.values);
      shown = c.fields.ensures r.values r.shown;
      read = found_up r.mean (reach_on c.in-Ok-all_fields.ensures.returns.later.lowest c.requires.reached)
          (λ n qs m. fields_mean w.written c.requires.list (last.own (last_own h.last))
          (c.lemma_value_of_fields.ensures c.args.self.now.bounded.now.program _ _ c.args.kind e _ _ _ _ _ (fields_found _ _ (sym c.in-Some.ensures)) c.in-Ok.ensures m.stand)
          (c.lemma_groups_are_whole.ensures c.args.self.now.bounded.now.program _ _ c.args.kind _ _ _ _ c.in-Ok.ensures m.stand) m);
    }

pub fields-returns-clause-is_read : goal.fields-returns-clause-is_read
fields-returns-clause-is_read t g c = λ os e w h.
    fields_fault w c.requires.list h (sym c.in-Some.ensures) c.in-Ok.ensures c.in-Err-all_fields.ensures.fault

-- ---- a SEQUENCE OF or SET OF

pub list-returns-in_default-clause-is_read : goal.list-returns-in_default-clause-is_read
list-returns-in_default-clause-is_read t g c = λ os k N w h.
    own_fault _ refl refl refl (misfit (of_kind w) h.last (values_none_found _ c.in_default.ensures))

pub list-returns-in-Err-clause-is_read : goal.list-returns-in-Err-clause-is_read
list-returns-in-Err-clause-is_read t g c = λ os k N w h. list_fault w h (sym c.in-Some.ensures) c.in-Err.ensures.fault

pub list-returns-then-not-allows_size-clause-is_read : goal.list-returns-then-not-allows_size-clause-is_read
list-returns-then-not-allows_size-clause-is_read t g c = λ os k N w h.
    let r = c.in-Ok.ensures.value in
    let many = row_count r.values ∙ zip_count _ _ r.values r.shown ∙ sym c.in-Ok.values.ok.0 ∙ sym c.len.ensures in
    let same = c.in-Ok.ensures.ready.same in
    let k = kind_in same w in
    own_fault _ refl refl refl
    (list_outside w h.last (values_found _ _ (sym c.in-Some.ensures)) (found_here r.mean)
    (λ a.
    let b = subst (λ z. Allows c.all.new.self.bounded.now.program c.args.followed.now.at.ty.index (pos z)) many (allows_in same a) in
    let f = (c.allows_size.ensures _ (of_kind k)).1 (b _ (of_kind k)) in
    cc))

pub list-returns-clause-is_read : goal.list-returns-clause-is_read
list-returns-clause-is_read t g c = λ os k N w h.
    let r = c.in-Ok.ensures.value in
    let many = row_count r.values ∙ zip_count _ _ r.values r.shown ∙ sym c.in-Ok.values.ok.0 ∙ sym c.len.ensures in
    record {
      value = list (row_of_list r.values);
      shown = c.list.ensures r.values r.shown;
      read = found_up r.mean (reach_on c.in-Ok.ensures.returns.later.lowest c.requires.reached)
          (λ n qs m. list_means w (last.own (last_own h.last)) (values_found _ _ (sym c.in-Some.ensures)) m
          (allows_in (sym c.in-Ok.ensures.ready.same)
          (subst (λ z. Allows c.all.new.self.bounded.now.program c.args.followed.now.at.ty.index (pos z)) (sym many)
          (λ j is. (c.allows_size.ensures j is).0 c.if-not-allows_size.false))));
    }

-- ---- a notation

pub read_now-returns-then-levels-eq0-clause-is_read : goal.read_now-returns-then-levels-eq0-clause-is_read
read_now-returns-then-levels-eq0-clause-is_read t g c = faults.itself refl refl refl tt c.if-levels-eq0.true

pub read_now-returns-then-self-eq0-clause-is_read : goal.read_now-returns-then-self-eq0-clause-is_read
read_now-returns-then-self-eq0-clause-is_read t g c = faults.itself refl refl refl c.if-levels-eq0.false c.if-self-eq0.true

pub read_now-led-requires : goal.read_now-led-requires
read_now-led-requires t g c =
    let b = c.start-before.ensures in
    let left = b.left in
    let node = some_left c.args.self.now.left c.if-self-eq0.false in λ k h. (
      search rules,
      (
        h,
        (
          below_in b.ready.same c.requires.there,
          (some_left c.args.levels c.if-levels-eq0.false, (omega (arith, node, left), b.ready.ready)),
        ),
      ),
    )

pub read_now-returns-in-Err-clause-is_read : goal.read_now-returns-in-Err-clause-is_read
read_now-returns-in-Err-clause-is_read t g c =
    let b = c.start-before.ensures in
    fault_as b.ready.text b.opened b.left c.in-Err.ensures.is_read

pub read_now-returns-in-Err-clause-ready : goal.read_now-returns-in-Err-clause-ready
read_now-returns-in-Err-clause-ready t g c = on_and_on c.start-before.ensures.ready c.in-Err.ensures.ready

pub read_now-end-requires-clause-ended : goal.read_now-end-requires-clause-ended
read_now-end-requires-clause-ended t g c =
    let b = c.start-before.ensures in
    has_ended (sym b.count) (ends_as (sym c.in-Ok.ensures.ready.same) b.opened (b.left ∙ sym b.nodes) c.in-Ok.ensures.is_read)

pub read_now-end-requires-clause-ready : goal.read_now-end-requires-clause-ready
read_now-end-requires-clause-ready t g c = c.in-Ok.ensures.ready.ready

pub read_now-returns-in-Ok-clause-is_read : goal.read_now-returns-in-Ok-clause-is_read
read_now-returns-in-Ok-clause-is_read t g c =
    let b = c.start-before.ensures in
    let s = c.in-Ok.ensures.ready.same in
    let h = c.in-Ok.ensures.is_read in
    let r = c.end.ensures.read c.args.self.now.opened.now _ _ h.value (sym b.count)
    (ended_as (sym s) b.opened (b.left ∙ sym b.nodes) h.ended) in
    record { value = h.value; shown = h.shown; read = read_as (s ∙ b.ready.same) b.nodes r.1 }

pub read_now-returns-in-Ok-clause-returns : goal.read_now-returns-in-Ok-clause-returns
read_now-returns-in-Ok-clause-returns t g c =
    let b = c.start-before.ensures in
    let s = c.in-Ok.ensures.ready.same in
    let h = c.in-Ok.ensures.is_read in
    let r = c.end.ensures.read c.args.self.now.opened.now _ _ h.value (sym b.count)
    (ended_as (sym s) b.opened (b.left ∙ sym b.nodes) h.ended) in
    record {
      opened = r.0;
      later = later_then c.start-before.new.self.defaults.now b.turns (lower_on c.in-Ok.ensures.moves.later.turns c.end.ensures.turns) b.lowest b.latest
          c.end.ensures.lowest c.end.ensures.latest;
    }

pub read_now-returns-in-Ok-clause-ready : goal.read_now-returns-in-Ok-clause-ready
read_now-returns-in-Ok-clause-ready t g c =
    on_and_on c.start-before.ensures.ready (on_and_on c.in-Ok.ensures.ready c.end.ensures.ready)

pub led-lead-requires-clause-known : goal.led-lead-requires-clause-known
led-lead-requires-clause-known t g c = c.requires.ready.known

pub led-returns-in-Err-clause-is_read : goal.led-returns-in-Err-clause-is_read
led-returns-in-Err-clause-is_read t g c =
    reached_fault _ refl refl refl (not_none c.requires.level) (not_none c.requires.node)
    (c.follow_cause-cause.ensures _ _ _ _ _ _ _ _ (of_kind (shape_in c.linked-linked.ensures c.written-shape.ensures).written) c.in-Err.ensures.fault)

pub led-returns-in-Ok-Known-clause-is_read : goal.led-returns-in-Ok-Known-clause-is_read
led-returns-in-Ok-Known-clause-is_read t g c =
    let h = led_as t.O.Outcome.shows c.args.self.now.bounded.now c.args.self.now.defaults.now.named.turns.items
    c.args.levels c.args.self.now.left (kind_of c.written-shape.result.0) c.args.self.now.opened.now c.args.at.within.now
    c.args.at.ty.index c.args.at.notation.now c.lead.new.opened _ _ c.in-Ok-Known.field-0-is
    c.in-Ok-Known.ensures.led in
    known_ends (of_kind (shape_in c.linked-linked.ensures c.written-shape.ensures).written) h.0 h.1 _
    (lower_named c.args.self.now.defaults.now.named c.reach.new.self.named c.pass.new.self c.pass.ensures.turns c.reach.ensures.named)
    c.reach.ensures.reached c.pass.ensures.turn

pub led-value_of-requires : goal.led-value_of-requires
led-value_of-requires t g c = λ k h. (
  search rules,
  (
    h,
    (
      c.requires.there,
      (
        subst (λ (s : Shape). HasShapeIn c.args.self.now.bounded.now c.args.at.ty.index s c.written-shape.result.1.now)
            (sym c.shape.ensures) (shape_in c.linked-linked.ensures c.written-shape.ensures),
        (
          record {
            sound = c.requires.ready.sound;
            known = known_with
                (subst (λ ls. AreKnownDefaults c.args.self.now.bounded.now.program ls.items) (sym c.reach-in-Ok-Last.ensures.levels)
                c.requires.ready.known.defaults)
                c.reach-in-Ok-Last.ensures.named c.reach-in-Ok-Last.ensures.chains c.requires.ready.known;
          },
          c.reach-in-Ok-Last.ensures.reached,
        ),
      ),
    ),
  ),
)

pub led-returns-in-Ok-clause-is_read : goal.led-returns-in-Ok-clause-is_read
led-returns-in-Ok-clause-is_read t g c =
    let k = of_kind (shape_in c.linked-linked.ensures c.written-shape.ensures).written in
    let h = led_as t.O.Outcome.shows c.args.self.now.bounded.now c.args.self.now.defaults.now.named.turns.items
    c.args.levels c.args.self.now.left (kind_of c.written-shape.result.0) c.args.self.now.opened.now c.args.at.within.now
    c.args.at.ty.index c.args.at.notation.now c.lead.new.opened _ _ c.in-Ok-Last.field-0-is
    c.in-Ok-Last.ensures.led in
    ends_at c.in-Ok.ensures.returns.opened
    (last_ends k (path_own h.last) (makes_more c.requires.level c.requires.node (c.in-Ok.ensures.is_read _ (last_of (ap kind_of (sym c.shape.ensures)) h))))

pub led-returns-in-Err-value_of-clause-is_read : goal.led-returns-in-Err-value_of-clause-is_read
led-returns-in-Err-value_of-clause-is_read t g c =
    let h = led_as t.O.Outcome.shows c.args.self.now.bounded.now c.args.self.now.defaults.now.named.turns.items
    c.args.levels c.args.self.now.left (kind_of c.written-shape.result.0) c.args.self.now.opened.now c.args.at.within.now
    c.args.at.ty.index c.args.at.notation.now c.lead.new.opened _ _ c.in-Ok-Last.field-0-is
    c.in-Ok-Last.ensures.led in
    read_stands _ _ (not_none c.requires.level) (not_none c.requires.node) (c.in-Err-value_of.ensures.is_read _ (last_of (ap kind_of (sym c.shape.ensures)) h))

-- ---- a DEFAULT

pub whole_default-read_default-requires : goal.whole_default-read_default-requires
whole_default-read_default-requires t g c = λ k h. (
  search rules,
  (
    h,
    (
      c.requires.1.1.1.0,
      (
        c.requires.1.1.1.1.0,
        (
          c.requires.1.1.1.1.1.0,
          record {
            sound = c.requires.1.1.1.1.1.1.1.sound;
            known = known_with
                (subst (λ ls. AreKnownDefaults c.args.self.now.bounded.now.program ls.items) (sym (c.begin-lowest.ensures.levels ∙ c.allows.ensures.levels))
                c.requires.1.1.1.1.1.1.1.known.defaults)
                (c.begin-lowest.ensures.named ∙ c.allows.ensures.named)
                (c.begin-lowest.ensures.chains ∙ c.allows.ensures.chains) c.requires.1.1.1.1.1.1.1.known;
          },
        ),
      ),
    ),
  ),
)

pub whole_default-returns-then-allows-clause-returns : goal.whole_default-returns-then-allows-clause-returns
whole_default-returns-then-allows-clause-returns t g c =
    record { opened = refl; later = later_named c.allows.ensures.named c.allows.ensures.lowest }

pub whole_default-returns-then-allows-clause-ready : goal.whole_default-returns-then-allows-clause-ready
whole_default-returns-then-allows-clause-ready t g c = record {
  same = refl;
  text = refl;
  ready = record {
    sound = c.requires.1.1.1.1.1.1.1.sound;
    known = known_with
        (subst (λ ls. AreKnownDefaults c.args.self.now.bounded.now.program ls.items) (sym c.allows.ensures.levels)
        c.requires.1.1.1.1.1.1.1.known.defaults)
        c.allows.ensures.named c.allows.ensures.chains c.requires.1.1.1.1.1.1.1.known;
  };
}

pub whole_default-note-requires-clause-known : goal.whole_default-note-requires-clause-known
whole_default-note-requires-clause-known t g c = c.in-Ok.ensures.ready.ready.known.defaults

pub whole_default-note-requires-clause-listed : goal.whole_default-note-requires-clause-listed
whole_default-note-requires-clause-listed t g c = listed_in c.in-Ok.ensures.ready.same c.requires.1.1.1.1.1.1.0

pub whole_default-note-requires-clause-may : goal.whole_default-note-requires-clause-may
whole_default-note-requires-clause-may t g c =
    lack_in c.in-Ok.ensures.ready.same (c.in-Ok.ensures.may c.used-used.result c.used-used.ensures.enough)

pub led-returns-in-Ok-Known-clause-moves : goal.led-returns-in-Ok-Known-clause-moves
led-returns-in-Ok-Known-clause-moves t g c = record {
  opened = c.in-Ok-Known.ensures.grown;
  later = later_passed c.pass.ensures.turns c.reach.ensures.named c.reach.ensures.lowest c.pass.ensures.latest;
}

pub led-returns-in-Ok-Known-clause-ready : goal.led-returns-in-Ok-Known-clause-ready
led-returns-in-Ok-Known-clause-ready t g c = record {
  same = refl;
  text = refl;
  ready = record {
    sound = c.requires.ready.sound;
    known = known_passed c.reach.ensures.levels c.pass.ensures.turns c.pass.ensures.entries c.reach.ensures.named
        c.reach.ensures.chains c.requires.ready.known;
  };
}

pub led-returns-in-Ok-clause-moves : goal.led-returns-in-Ok-clause-moves
led-returns-in-Ok-clause-moves t g c =
    let r = c.in-Ok.ensures.returns in
    let w = c.in-Ok-Last.ensures.grown in
    record {
      opened = (w.0, r.opened ∙ w.1);
      later = later_on (later_named c.reach-in-Ok-Last.ensures.named c.reach-in-Ok-Last.ensures.lowest) r.later;
    }

pub value_of-list-requires : goal.value_of-list-requires
value_of-list-requires t g c =
    let l = (subst (λ (p : Program). IsWhole p) (ap (λ (w : WrittenProgram). w.program) c.linked-linked.ensures) c.lemma_whole.ensures).linked in
    let e = ap kind_of c.in-Elements.is in
    λ k h. (search rules, (h, (c.requires.there, (element_there l (written_of e c.requires.written.written), (c.requires.ready, c.requires.reached)))))

pub value_of-chosen-requires : goal.value_of-chosen-requires
value_of-chosen-requires t g c =
    let l = (subst (λ (p : Program). IsWhole p) (ap (λ (w : WrittenProgram). w.program) c.linked-linked.ensures) c.lemma_whole.ensures).linked in
    let e = ap kind_of c.in-Members.is
    ∙ ap (λ cs. table.members c.in-Members.kind c.in-Members.field-1 (map part_of cs)) (sym c.as_slice-members.ensures.value) in
    λ k h. (search rules, (h, (member_there l (written_of e c.requires.written.written), (c.requires.ready, c.requires.reached))))

pub value_of-fields-requires : goal.value_of-fields-requires
value_of-fields-requires t g c =
    let l = (subst (λ (p : Program). IsWhole p) (ap (λ (w : WrittenProgram). w.program) c.linked-linked.ensures) c.lemma_whole.ensures).linked in
    let e = ap kind_of c.in-Members.is
    ∙ ap (λ cs. table.members c.in-Members.kind c.in-Members.field-1 (map part_of cs)) (sym c.as_slice-members.ensures.value) in
    let w = written_of e c.requires.written.written in
    let s = sound_kind c.args.self.now.bounded.now.program.types _ _ c.requires.ready.sound (of_kind w) in λ k h. (
      search rules,
      (
        h,
        (
          c.is_choice.ensures.no c.if-is_choice.false,
          (
            s.names,
            (
              member_there l w,
              (
                record { type = c.args.followed.now.at.ty.index; kind = c.in-Members.kind; marked = c.in-Members.field-1; written = w },
                (c.requires.ready, c.requires.reached),
              ),
            ),
          ),
        ),
      ),
    )

pub value_of-returns-in-Ok-clause-is_read : goal.value_of-returns-in-Ok-clause-is_read
value_of-returns-in-Ok-clause-is_read t g c = λ os h.
    let e = ap kind_of c.in-Simple.is in
    record {
      value = _;
      shown = c.leaf.ensures;
      read = found_leaf c.requires.reached
          (c.in-Ok.ensures c.args.followed.now.levels _ os _ c.args.followed.now.home.now (written_of e c.requires.written.written) (last_of e h));
    }

pub value_of-returns-in-Err-clause-is_read : goal.value_of-returns-in-Err-clause-is_read
value_of-returns-in-Err-clause-is_read t g c = λ os h.
    let e = ap kind_of c.in-Simple.is in
    c.in-Err.ensures _ _ os _ c.args.followed.now.home.now (written_of e c.requires.written.written) (last_of e h)

pub value_of-returns-in-Elements-clause-is_read : goal.value_of-returns-in-Elements-clause-is_read
value_of-returns-in-Elements-clause-is_read t g c = λ os h.
    let e = ap kind_of c.in-Elements.is in
    c.list.ensures.is_read os _ c.args.followed.now.home.now (written_of e c.requires.written.written) (last_of e h)

-- ---- the rest

pub value_of-returns-then-is_choice-clause-is_read : goal.value_of-returns-then-is_choice-clause-is_read
value_of-returns-then-is_choice-clause-is_read t g c = λ os h.
    let e = ap kind_of c.in-Members.is
    ∙ ap (λ cs. table.members c.in-Members.kind c.in-Members.field-1 (map part_of cs)) (sym c.as_slice-members.ensures.value) in
    let g = e ∙ ap (λ k. table.members k c.in-Members.field-1 (map part_of c.as_slice-members.result.now))
    (c.is_choice.ensures.yes c.if-is_choice.true) in
    c.chosen.ensures.is_read os _ c.args.followed.now.home.now (written_of g c.requires.written.written) (last_of g h)

pub value_of-returns-else-is_choice-clause-is_read : goal.value_of-returns-else-is_choice-clause-is_read
value_of-returns-else-is_choice-clause-is_read t g c = λ os h.
    let e = ap kind_of c.in-Members.is
    ∙ ap (λ cs. table.members c.in-Members.kind c.in-Members.field-1 (map part_of cs)) (sym c.as_slice-members.ensures.value) in
    let list = list_as (sym c.as_slice-members.ensures.value) (list_in _ _ _ c.in-Members.is c.requires.written) in
    c.fields.ensures.is_read os _ list (last_of e h)

pub value_of-unreachable-requires : goal.value_of-unreachable-requires
value_of-unreachable-requires t g c =
    no_reference (written_of (ap kind_of c.in-Reference.is) c.requires.written.written)

pub value_of-unreachable-requires-in-Tagged : goal.value_of-unreachable-requires-in-Tagged
value_of-unreachable-requires-in-Tagged t g c =
    no_tagged (written_of (ap kind_of c.in-Tagged.is) c.requires.written.written)

pub value_of-unreachable-unreachable : goal.value_of-unreachable-unreachable
value_of-unreachable-unreachable t g c =
    no_reference (written_of (ap kind_of c.in-Reference.is) c.requires.written.written)

pub value_of-unreachable-unreachable-in-Tagged : goal.value_of-unreachable-unreachable-in-Tagged
value_of-unreachable-unreachable-in-Tagged t g c =
    no_tagged (written_of (ap kind_of c.in-Tagged.is) c.requires.written.written)

pub value_of-simple_value-requires-clause-there : goal.value_of-simple_value-requires-clause-there
value_of-simple_value-requires-clause-there t g c = c.requires.there

pub value_of-simple_value-requires-clause-sound : goal.value_of-simple_value-requires-clause-sound
value_of-simple_value-requires-clause-sound t g c =
    sound_kind c.args.self.now.bounded.now.program.types _ _ c.requires.ready.sound (of_kind (written_of (ap kind_of c.in-Simple.is) c.requires.written.written))

pub value_of-simple_value-requires-clause-is : goal.value_of-simple_value-requires-clause-is
value_of-simple_value-requires-clause-is t g c = of_kind (written_of (ap kind_of c.in-Simple.is) c.requires.written.written)

pub read_default-returns-clause-fault : goal.read_default-returns-clause-fault
read_default-returns-clause-fault t g c =
    record {
      default = c.args.notation.now;
      standing = c.requires.1.1.1.1.0;
      presence = c.requires.1.1.1.1.1.0;
      fault = stands_as c.new-opened.ensures c.in-Err.ensures.is_read;
    }

pub fields-arranged-requires-clause-distinct : goal.fields-arranged-requires-clause-distinct
fields-arranged-requires-clause-distinct t g c = c.requires.distinct

pub fields-arranged-requires-clause-list : goal.fields-arranged-requires-clause-list
fields-arranged-requires-clause-list t g c = c.requires.list

pub list-allows_size-requires : goal.list-allows_size-requires
list-allows_size-requires t g c = below_in c.in-Ok.ensures.ready.same c.requires.there

pub field-offset_bounds-given-place : goal.field-offset_bounds-given-place
field-offset_bounds-given-place t g c =
    let b = field_there c.args.given.now _ c.in-Some.place (sym c.requires.placed ∙ c.in-Some.is) in
    search rules

pub read_default-returns-in-Ok-clause-ready : goal.read_default-returns-in-Ok-clause-ready
read_default-returns-in-Ok-clause-ready t g c =
    record {
      same = refl;
      text = refl;
      ready = record {
        sound = c.requires.1.1.1.1.1.1.sound;
        known = subst (λ (p : Program). AreKnown p c.read.new.self.defaults.now) c.read.ensures.ready.same
            c.read.ensures.ready.ready.known;
      };
    }

pub read_default-returns-clause-ready : goal.read_default-returns-clause-ready
read_default-returns-clause-ready t g c =
    record {
      same = refl;
      text = refl;
      ready = record {
        sound = c.requires.1.1.1.1.1.1.sound;
        known = subst (λ (p : Program). AreKnown p c.read.new.self.defaults.now) c.read.ensures.ready.same
            c.read.ensures.ready.ready.known;
      };
    }

-- ---- chains that are foreseen

pub read-returns-then-lacks_memory-clause-is_read : goal.read-returns-then-lacks_memory-clause-is_read
read-returns-then-lacks_memory-clause-is_read t g c = faults.no_memory refl

pub read-returns-clause-is_read : goal.read-returns-clause-is_read
read-returns-clause-is_read t g c =
    let f = c.foresee.ensures in
    let b = f.returns c.if-not-foresee.false in
    answers_as t.O.Outcome.shows c.args.levels c.read_now.new.self.left c.args.at.within.now c.args.at.ty.index
    c.args.at.notation.now c.read_now.new.self.defaults.now c.read_now.result f.ready.text b.opened f.left
    c.read_now.ensures.is_read

pub read-returns-clause-returns : goal.read-returns-clause-returns
read-returns-clause-returns t g c =
    ok_then c.read_now.result c.read_now.ensures.returns (λ r. back_and_back (c.foresee.ensures.returns c.if-not-foresee.false) r)

pub foresee-returns-clause-returns : goal.foresee-returns-clause-returns
foresee-returns-clause-returns t g c = λ yes.
    let j = c.judge_last.ensures.returns c.if-not-judge_last.false in
    let s = c.settle_to.ensures.returns in
    record { opened = s.opened ∙ j.opened; later = later_on c.path_from-path.ensures.later (later_on j.later s.later) }

pub judge_last-returns-clause-returns : goal.judge_last-returns-clause-returns
judge_last-returns-clause-returns t g c = λ yes.
    let b = c.begin-before.ensures in
    let r = c.in-Some-read_itself.ensures in
    let e = c.close_itself.ensures in
    record {
      opened = e.opened ∙ r.opened ∙ b.opened;
      later = later_then c.begin-before.new.self.defaults.now
          (subst (λ z. AreLower c.args.self.now.defaults.now.named.turns.items z.items) (sym b.turns)
          (lower_same c.args.self.now.defaults.now.named.turns.items))
          (lower_on r.later.turns e.turns) b.lowest b.latest e.lowest e.latest;
    }

pub read_itself-overflow_sub-result : goal.read_itself-overflow_sub-result
read_itself-overflow_sub-result t g c =
    let m = (found_here c.in-Ok-read_now.ensures.is_read.read).counted in
    omega (arith, m)

pub read_itself-returns-in-Ok-read_now-clause-read : goal.read_itself-returns-in-Ok-read_now-clause-read
read_itself-returns-in-Ok-read_now-clause-read t g c =
    let r = c.in-Ok-read_now.ensures.is_read in
    let m = (found_here r.read).counted in
    record {
      within = c.notation_at.result.0.now;
      notation = tree_of c.notation_at.result.1.now;
      there = subst (λ (p : Program). IsValueAt p c.args.number c.notation_at.result.0.now (tree_of c.notation_at.result.1.now))
          (ap (λ (w : WrittenProgram). w.program) c.linked.ensures) c.notation_at.ensures.is_so;
      before = 16777216;
      after = c.read_now.new.self.left;
      counted = omega (arith, m);
      value = r.value;
      read = found_as (c.in-Ok.ensures.ok ∙ ap (λ zs. c.args.number ∷ zs) c.new-opened.ensures) r.read;
    }

pub whole_default-returns-clause-ready : goal.whole_default-returns-clause-ready
whole_default-returns-clause-ready t g c =
    let r = c.in-Ok.ensures.ready in
    record {
      same = r.same;
      text = r.text;
      ready = record {
        sound = r.ready.sound;
        known = known_with
            (subst (λ ls. AreKnownDefaults c.read_default.new.self.bounded.now.program ls.items) (sym c.reach.ensures.levels)
            c.note.ensures.known)
            (c.reach.ensures.named ∙ c.note.ensures.named) (c.reach.ensures.chains ∙ c.note.ensures.chains) r.ready.known;
      };
    }
