use Rattle.std.proofs.Common.{map, ◌∙◌, ap, sym, arith}
use Rattle.std.specs.Prelude.{bytes_eq}
use Rattle.trees.specs.declared.value.Named.{Named}
use Rattle.trees.specs.declared.value.ValueSyntax.{ValueSyntax}
use Rattle.trees.specs.Values.{name_at, member_of}
use Rattle.value_notations.specs.Notations.{field_names}
use Rattle.values.proofs.Lookups.{found_at, passed_at, passed_all, field_at, fields_long}
use Rattle.values.proofs.lookup.field_of.Goals as goal

pub returns-then-eq : goal.returns-then-eq
returns-then-eq c =
    let f = c.index-fields-i.result in
    let here = field_at c.args.fields.now c.loop-i.i f c.loop-i-test.true c.index-fields-i.is in
    let named = c.as_str.ensures.value ∙ ap (λ (z : Named ValueSyntax). name_at z.name) (sym c.index-fields-i.is) in
    let same = sym (ap (bytes_eq c.args.name.now) named) ∙ sym c.eq.ensures ∙ c.if-eq.true in
    sym (found_at c.args.name.now (field_names (map member_of c.args.fields.now)) c.loop-i.i (name_at f.name)
    c.loop-i.invariant here same)

pub loop-i-preserved : goal.loop-i-preserved
loop-i-preserved c =
    let f = c.index-fields-i.result in
    let here = field_at c.args.fields.now c.loop-i.i f c.loop-i-test.true c.index-fields-i.is in
    let named = c.as_str.ensures.value ∙ ap (λ (z : Named ValueSyntax). name_at z.name) (sym c.index-fields-i.is) in
    let same = sym (ap (bytes_eq c.args.name.now) named) ∙ sym c.eq.ensures ∙ c.if-eq.false in
    passed_at c.args.name.now (field_names (map member_of c.args.fields.now)) c.loop-i.i (name_at f.name)
    c.loop-i.invariant here same

pub returns : goal.returns
returns c =
    let long = fields_long c.args.fields.now in
    sym (passed_all c.args.name.now (field_names (map member_of c.args.fields.now)) c.loop-i.i c.loop-i.invariant
    (omega (arith, long, c.loop-i-test.false)))
