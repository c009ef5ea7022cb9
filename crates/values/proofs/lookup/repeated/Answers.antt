use Rattle.std.proofs.Common.{◌≡◌, None, Some, map, subst, sym, ap, ◌∙◌, arith}
use Rattle.trees.specs.declared.value.Named.{Named}
use Rattle.trees.specs.declared.value.ValueSyntax.{ValueSyntax}
use Rattle.trees.specs.Values.{name_at, member_of}
use Rattle.value_notations.specs.Notations.{field_names}
use Rattle.values.specs.Arranged.{first_place}
use Rattle.values.proofs.Lookups.{field_at, fields_long, place_none, before_place, first_before, first_next, first_all}
use Rattle.values.proofs.lookup.repeated.Goals as goal

pub returns-in-None : goal.returns-in-None
returns-in-None c =
    let f = c.index-fields-i.result in
    let fs = field_names (map member_of c.args.fields.now) in
    let named = c.as_str.ensures.value ∙ ap (λ (z : Named ValueSyntax). name_at z.name) (sym c.index-fields-i.is) in
    let here = field_at c.args.fields.now c.loop-i.i f c.loop-i-test.true c.index-fields-i.is in
    absurd (place_none (name_at f.name) fs (subst (λ n. first_place n fs ≡ None) named (sym c.in-None.ensures))
    (c.loop-i.i, here))

pub returns-then-first-i : goal.returns-then-first-i
returns-then-first-i c =
    let f = c.index-fields-i.result in
    let fs = field_names (map member_of c.args.fields.now) in
    let named = c.as_str.ensures.value ∙ ap (λ (z : Named ValueSyntax). name_at z.name) (sym c.index-fields-i.is) in
    let here = field_at c.args.fields.now c.loop-i.i f c.loop-i-test.true c.index-fields-i.is in (
      name_at f.name,
      here,
      before_place fs c.loop-i.i c.in-Some.first (name_at f.name)
          (subst (λ n. first_place n fs ≡ Some c.in-Some.first) named (sym c.in-Some.ensures)) c.if-first-i.true,
      first_before fs c.loop-i.i c.loop-i.invariant,
    )

pub loop-i-preserved : goal.loop-i-preserved
loop-i-preserved c =
    let f = c.index-fields-i.result in
    let fs = field_names (map member_of c.args.fields.now) in
    let named = c.as_str.ensures.value ∙ ap (λ (z : Named ValueSyntax). name_at z.name) (sym c.index-fields-i.is) in
    let here = field_at c.args.fields.now c.loop-i.i f c.loop-i-test.true c.index-fields-i.is in
    first_next fs c.loop-i.i (name_at f.name) _ here named c.in-Some.ensures c.if-first-i.false
    c.loop-i.invariant

pub returns : goal.returns
returns c =
    let long = fields_long c.args.fields.now in
    first_all (field_names (map member_of c.args.fields.now)) c.loop-i.i
    (omega (arith, long, c.loop-i-test.false)) c.loop-i.invariant
