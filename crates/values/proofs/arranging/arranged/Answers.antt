use Rattle.std.proofs.Common.{map, subst, sym, ◌∙◌}
use Rattle.trees.specs.Values.{member_of}
use Rattle.type_table.specs.Seen.{part_of}
use Rattle.value_notations.specs.Notations.{field_names}
use Rattle.values.proofs.Arrangings.{AllThere, AllWhole, strange_at, twice_at, lacking_at, due_at, in_order, in_any_order, disordered_at}
use Rattle.values.proofs.arranging.arranged.Goals as goal

pub returns-in-Some : goal.returns-in-Some
returns-in-Some c =
    strange_at c.args.kind (map part_of c.args.components.now) (field_names (map member_of c.args.fields.now)) c.in-Some.i c.in-Some.ensures

pub returns-in-Some-repeated : goal.returns-in-Some-repeated
returns-in-Some-repeated c =
    twice_at c.args.kind (map part_of c.args.components.now) (field_names (map member_of c.args.fields.now)) c.in-Some-repeated.i
    c.in_default.ensures c.in-Some-repeated.ensures

pub returns-in-Some-missing : goal.returns-in-Some-missing
returns-in-Some-missing c =
    lacking_at c.args.kind (map part_of c.args.components.now) (field_names (map member_of c.args.fields.now)) _ c.in-Some-missing.i
    (c.deref.ensures.value ∙ c.in-Ok.ensures) c.requires.distinct c.in_default.ensures c.in_default-repeated.ensures
    c.in-Some-missing.ensures

pub returns-in-Some-missing_in_group : goal.returns-in-Some-missing_in_group
returns-in-Some-missing_in_group c =
    let cs = map part_of c.args.components.now in
    let missing = subst (AllThere cs) (c.deref.ensures.value ∙ sym c.deref-2.ensures.value) c.in_default-missing.ensures in
    due_at c.args.kind cs (field_names (map member_of c.args.fields.now)) _ c.in-Some-missing_in_group.i
    (c.deref-2.ensures.value ∙ c.in-Ok.ensures) missing c.requires.distinct c.in_default.ensures c.in_default-repeated.ensures
    c.in-Some-missing_in_group.ensures

pub returns-in-Some-jumbled : goal.returns-in-Some-jumbled
returns-in-Some-jumbled c =
    let cs = map part_of c.args.components.now in
    disordered_at c.args.kind cs (field_names (map member_of c.args.fields.now)) c.in-Ok.places.items c.in-Ok.ensures
    (subst (AllThere cs) c.deref.ensures.value c.in_default-missing.ensures)
    (subst (AllWhole cs) c.deref-2.ensures.value c.in_default-missing_in_group.ensures) c.in-Some-jumbled.i c.in-Sequence.is
    c.requires.distinct c.in_default-repeated.ensures c.in_default.ensures c.in-Some-jumbled.ensures

pub returns-in-None : goal.returns-in-None
returns-in-None c =
    let cs = map part_of c.args.components.now in
    in_order c.args.kind cs (field_names (map member_of c.args.fields.now)) c.in-Ok.places.items c.in-Ok.ensures
    (subst (AllThere cs) c.deref.ensures.value c.in_default-missing.ensures)
    (subst (AllWhole cs) c.deref-2.ensures.value c.in_default-missing_in_group.ensures) c.in-Sequence.is
    c.in_default-repeated.ensures c.in-None.ensures

pub returns-in_default-kind : goal.returns-in_default-kind
returns-in_default-kind c =
    let cs = map part_of c.args.components.now in
    in_any_order c.args.kind cs (field_names (map member_of c.args.fields.now)) c.in-Ok.places.items c.in-Ok.ensures
    (subst (AllThere cs) c.deref.ensures.value c.in_default-missing.ensures)
    (subst (AllWhole cs) c.deref-2.ensures.value c.in_default-missing_in_group.ensures) c.in_default-kind.not-Sequence
    c.requires.list c.in_default-repeated.ensures c.in_default.ensures
