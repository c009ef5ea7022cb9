use Rattle.std.proofs.Common.{◌≡◌, ◌<◌, ◌≤◌, None, Some, map, subst, sym, ap, ◌∙◌, arith}
use Rattle.trees.specs.declared.value.Named.{Named}
use Rattle.trees.specs.declared.value.ValueSyntax.{ValueSyntax}
use Rattle.trees.specs.Values.{name_at, member_of}
use Rattle.type_table.specs.Seen.{part_of}
use Rattle.value_notations.specs.Notations.{field_names, part_names}
use Rattle.values.specs.Arranged.{first_place}
use Rattle.values.proofs.Lookups.{field_at, fields_long, place_none, place_there}
use Rattle.values.proofs.Orders.{walks, walked_before, jumbles, walked}
use Rattle.values.proofs.order.jumbled.Goals.{else-i-gt0-via-then-i-gt0+else-place-last, else-i-gt0-via-else-i-gt0}
use Rattle.values.proofs.order.jumbled.Goals as goal

pub returns-in-None : goal.returns-in-None
returns-in-None c =
    let f = c.index-fields-i.result in
    let cs = part_names (map part_of c.args.components.now) in
    let named = c.as_str.ensures.value ∙ ap (λ (z : Named ValueSyntax). name_at z.name) (sym c.index-fields-i.is) in
    let here = field_at c.args.fields.now c.loop-i.i f c.loop-i-test.true c.index-fields-i.is in
    absurd (place_none (name_at f.name) cs (subst (λ n. first_place n cs ≡ None) named (sym c.in-None.ensures))
    (c.requires.known (name_at f.name) (c.loop-i.i, here)))

pub returns-then-place-last : goal.returns-then-place-last
returns-then-place-last c =
    let f = c.index-fields-i.result in
    let cs = part_names (map part_of c.args.components.now) in
    let fs = field_names (map member_of c.args.fields.now) in
    let named = c.as_str.ensures.value ∙ ap (λ (z : Named ValueSyntax). name_at z.name) (sym c.index-fields-i.is) in
    let here = field_at c.args.fields.now c.loop-i.i f c.loop-i-test.true c.index-fields-i.is in
    let at = place_there (name_at f.name) cs c.in-Some.place
    (subst (λ n. first_place n cs ≡ Some c.in-Some.place) named (sym c.in-Some.ensures)) in (
      jumbles cs fs c.loop-i.i c.loop-i.last c.in-Some.place (name_at f.name) here at c.loop-i.invariant c.if-i-gt0.true
          c.if-place-last.true,
      walked_before cs fs c.loop-i.i c.loop-i.last c.loop-i.invariant c.if-i-gt0.true,
    )

pub loop-i-preserved : goal.loop-i-preserved
loop-i-preserved c =
    let f = c.index-fields-i.result in
    let cs = part_names (map part_of c.args.components.now) in
    let fs = field_names (map member_of c.args.fields.now) in
    let named = c.as_str.ensures.value ∙ ap (λ (z : Named ValueSyntax). name_at z.name) (sym c.index-fields-i.is) in
    let here = field_at c.args.fields.now c.loop-i.i f c.loop-i-test.true c.index-fields-i.is in
    let at = place_there (name_at f.name) cs c.in-Some.place
    (subst (λ n. first_place n cs ≡ Some c.in-Some.place) named (sym c.in-Some.ensures)) in
    let order : 0 < c.loop-i.i → c.loop-i.last ≤ c.in-Some.place = elim c.else-i-gt0.branch [
      | else-i-gt0-via-then-i-gt0+else-place-last w ↦ λ m. w.if-place-last.false
      | else-i-gt0-via-else-i-gt0 w ↦ λ m. absurd (let z = w.if-i-gt0.false in omega (arith, m, z))
    ] in
    walks cs fs c.loop-i.i c.loop-i.last c.in-Some.place (name_at f.name) here at c.requires.distinct c.loop-i.invariant order

pub returns : goal.returns
returns c =
    let long = fields_long c.args.fields.now in
    walked (part_names (map part_of c.args.components.now)) (field_names (map member_of c.args.fields.now)) c.loop-i.i
    c.loop-i.last c.loop-i.invariant (omega (arith, long, c.loop-i-test.false))
