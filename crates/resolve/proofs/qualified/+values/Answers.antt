use Rattle.std.proofs.Common.{◌≡◌, ◌<◌, ◌≤◌, ℕ, List, length, map, sym, subst, ap, ◌∙◌, arith}
use Rattle.std.proofs.lemmas.Result.{err_from_is_err_and}
use Rattle.std.specs.Prelude.{Result}
use Rattle.trees.specs.Values.{Name, tree_of, member_of}
use Rattle.names.specs.declared.fault.NameFault.{NameFault}
use Rattle.resolve.specs.Places.{field_places, reference_place, value_places}
use Rattle.resolve.specs.Program.{Program}
use Rattle.resolve.specs.Qualified.{each, qualified}
use Rattle.resolve.specs.proving.Unknown.{Answers, named}
use Rattle.resolve.proofs.Notations.{fields_names, items_names, chosen_names, reference_names, places_of_chosen, places_of_fields, places_of_items, places_of_reference}
use Rattle.resolve.proofs.Turns.{left_start, left_step, left_fault, left_end}
use Rattle.resolve.proofs.qualified.+values.Goals as goal

-- what is checked of names and offsets is checked of the same names and offsets
same : (p : Program) (M : Name) (xs ys : List (Name × Name)) (ps qs : List ℕ) (r : Result (Unit {0}) NameFault) →
    xs ≡ ys → ps ≡ qs → Answers p M ys qs r → Answers p M xs ps r
same p M xs ys ps qs r e f a = subst (λ l. Answers p M l ps r) (sym e) (subst (λ l. Answers p M ys l r) (sym f) a)

pub names_in_value-returns-in-Reference : goal.names_in_value-returns-in-Reference
names_in_value-returns-in-Reference t c =
    let v = c.args.value.now in
    let r = c.in-Reference.given in
    same c.args.linked.now.program c.args.within.now (qualified (tree_of v)) (named r) (value_places v) (reference_place r) c.qualified_name.result
    (reference_names v r c.in-Reference.is) (places_of_reference v r c.in-Reference.is) c.qualified_name.ensures

pub names_in_value-returns-in-Chosen : goal.names_in_value-returns-in-Chosen
names_in_value-returns-in-Chosen t c =
    let v = c.args.value.now in
    let w = c.deref.result.now in
    same c.args.linked.now.program c.args.within.now (qualified (tree_of v)) (qualified (tree_of w)) (value_places v) (value_places w) c.names_in_value.result
    (chosen_names v c.in-Chosen.field-0 c.in-Chosen.inner c.in-Chosen.is ∙ ap (λ z. qualified (tree_of z)) (sym c.deref.ensures))
    (places_of_chosen v c.in-Chosen.field-0 c.in-Chosen.inner c.in-Chosen.is ∙ ap (λ z. value_places z) (sym c.deref.ensures)) c.names_in_value.ensures

pub names_in_value-returns-in-Items : goal.names_in_value-returns-in-Items
names_in_value-returns-in-Items t c =
    let v = c.args.value.now in
    let vs = c.deref-in-Items.result.now in
    same c.args.linked.now.program c.args.within.now (qualified (tree_of v)) (each qualified (map tree_of vs)) (value_places v) (each value_places vs) c.names_in_items.result
    (items_names v c.in-Items.values c.in-Items.is ∙ ap (λ l. each qualified (map tree_of l)) (sym c.deref-in-Items.ensures.value))
    (places_of_items v c.in-Items.values c.in-Items.is ∙ ap (λ l. each value_places l) (sym c.deref-in-Items.ensures.value)) c.names_in_items.ensures

pub names_in_value-returns-in-Fields : goal.names_in_value-returns-in-Fields
names_in_value-returns-in-Fields t c =
    let v = c.args.value.now in
    let fs = c.deref-in-Fields.result.now in
    same c.args.linked.now.program c.args.within.now (qualified (tree_of v)) (each (λ m. qualified m.1) (map member_of fs)) (value_places v) (each field_places fs) c.names_in_fields.result
    (fields_names v c.in-Fields.fields c.in-Fields.is ∙ ap (λ l. each (λ m. qualified m.1) (map member_of l)) (sym c.deref-in-Fields.ensures.value))
    (places_of_fields v c.in-Fields.fields c.in-Fields.is ∙ ap (λ l. each field_places l) (sym c.deref-in-Fields.ensures.value)) c.names_in_fields.ensures

pub names_in_items-loop-value-init : goal.names_in_items-loop-value-init
names_in_items-loop-value-init t c = left_start c.args.linked.now.program.modules c.args.within.now _ _

pub names_in_items-loop-value-preserved : goal.names_in_items-loop-value-preserved
names_in_items-loop-value-preserved t c =
    let l : c.loop-value.value-index < length c.args.values.now = omega arith in
    left_step c.args.linked.now.program.modules c.args.within.now qualified tree_of value_places c.args.values.now (each qualified (map tree_of c.args.values.now)) (each value_places c.args.values.now) c.loop-value.value-index c.value-item.result l c.value-item.is c.loop-value.invariant c.in_ok-names_in_value.ensures

pub names_in_items-returns-in_err-names_in_value : goal.names_in_items-returns-in_err-names_in_value
names_in_items-returns-in_err-names_in_value t c =
    let l : c.loop-value.value-index < length c.args.values.now = omega arith in
    let p = err_from_is_err_and c.from_residual.result c.from_residual.ensures.1 in
    rw (p.1, p.2) (left_fault c.args.linked.now.program.modules c.args.within.now qualified tree_of value_places c.args.values.now (each qualified (map tree_of c.args.values.now)) (each value_places c.args.values.now) c.loop-value.value-index c.value-item.result c.in_err-names_in_value.field-0.0 l c.value-item.is c.loop-value.invariant c.in_err-names_in_value.ensures)

pub names_in_items-returns : goal.names_in_items-returns
names_in_items-returns t c =
    let l : length c.args.values.now ≤ c.loop-value.value-index = omega arith in
    left_end c.args.linked.now.program.modules c.args.within.now qualified tree_of value_places c.args.values.now (each qualified (map tree_of c.args.values.now)) (each value_places c.args.values.now) c.loop-value.value-index l c.loop-value.invariant

pub names_in_fields-loop-field-init : goal.names_in_fields-loop-field-init
names_in_fields-loop-field-init t c = left_start c.args.linked.now.program.modules c.args.within.now _ _

pub names_in_fields-loop-field-preserved : goal.names_in_fields-loop-field-preserved
names_in_fields-loop-field-preserved t c =
    let l : c.loop-field.field-index < length c.args.fields.now = omega arith in
    left_step c.args.linked.now.program.modules c.args.within.now (λ m. qualified m.1) member_of field_places c.args.fields.now (each (λ m. qualified m.1) (map member_of c.args.fields.now)) (each field_places c.args.fields.now) c.loop-field.field-index c.field-item.result l c.field-item.is c.loop-field.invariant c.in_ok-names_in_value.ensures

pub names_in_fields-returns-in_err-names_in_value : goal.names_in_fields-returns-in_err-names_in_value
names_in_fields-returns-in_err-names_in_value t c =
    let l : c.loop-field.field-index < length c.args.fields.now = omega arith in
    let p = err_from_is_err_and c.from_residual.result c.from_residual.ensures.1 in
    rw (p.1, p.2) (left_fault c.args.linked.now.program.modules c.args.within.now (λ m. qualified m.1) member_of field_places c.args.fields.now (each (λ m. qualified m.1) (map member_of c.args.fields.now)) (each field_places c.args.fields.now) c.loop-field.field-index c.field-item.result c.in_err-names_in_value.field-0.0 l c.field-item.is c.loop-field.invariant c.in_err-names_in_value.ensures)

pub names_in_fields-returns : goal.names_in_fields-returns
names_in_fields-returns t c =
    let l : length c.args.fields.now ≤ c.loop-field.field-index = omega arith in
    left_end c.args.linked.now.program.modules c.args.within.now (λ m. qualified m.1) member_of field_places c.args.fields.now (each (λ m. qualified m.1) (map member_of c.args.fields.now)) (each field_places c.args.fields.now) c.loop-field.field-index l c.loop-field.invariant
