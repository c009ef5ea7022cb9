use Rattle.std.proofs.Common.{◌≡◌, None, map, subst, sym, ap, ◌∙◌, arith}
use Rattle.trees.specs.declared.value.Named.{Named}
use Rattle.trees.specs.declared.value.ValueSyntax.{ValueSyntax}
use Rattle.trees.specs.Values.{name_at, member_of}
use Rattle.type_table.specs.Seen.{part_of}
use Rattle.value_notations.specs.Notations.{field_names, part_names}
use Rattle.values.specs.Arranged.{first_place}
use Rattle.values.proofs.Lookups.{field_at, fields_long, place_none, occurs_some, known_before, known_next, known_all}
use Rattle.values.proofs.lookup.unknown.Goals as goal

pub returns-in-None : goal.returns-in-None
returns-in-None c =
    let f = c.index-fields-i.result in
    let cs = part_names (map part_of c.args.components.now) in
    let named = c.as_str.ensures.value ∙ ap (λ (z : Named ValueSyntax). name_at z.name) (sym c.index-fields-i.is) in
    let here = field_at c.args.fields.now c.loop-i.i f c.loop-i-test.true c.index-fields-i.is in (
      name_at f.name,
      here,
      place_none (name_at f.name) cs (subst (λ n. first_place n cs ≡ None) named (sym c.in-None.ensures)),
      known_before cs (field_names (map member_of c.args.fields.now)) c.loop-i.i c.loop-i.invariant,
    )

pub loop-i-preserved : goal.loop-i-preserved
loop-i-preserved c =
    let f = c.index-fields-i.result in
    let cs = part_names (map part_of c.args.components.now) in
    let named = c.as_str.ensures.value ∙ ap (λ (z : Named ValueSyntax). name_at z.name) (sym c.index-fields-i.is) in
    let here = field_at c.args.fields.now c.loop-i.i f c.loop-i-test.true c.index-fields-i.is in
    known_next cs (field_names (map member_of c.args.fields.now)) c.loop-i.i (name_at f.name) _ here named
    (occurs_some _ cs c.in-Some.ensures) c.loop-i.invariant

pub returns : goal.returns
returns c =
    let long = fields_long c.args.fields.now in
    known_all (part_names (map part_of c.args.components.now)) (field_names (map member_of c.args.fields.now)) c.loop-i.i
    (omega (arith, long, c.loop-i-test.false)) c.loop-i.invariant
