use Rattle.std.proofs.Common.{map, ◌∙◌, ap, sym, arith}
use Rattle.std.specs.Prelude.{bytes_eq}
use Rattle.trees.specs.Values.{name_at}
use Rattle.type_table.specs.declared.table.ListMember.{ListMember}
use Rattle.type_table.specs.Seen.{part_of}
use Rattle.value_notations.specs.Notations.{part_names}
use Rattle.values.proofs.Lookups.{found_at, passed_at, passed_all, part_at, parts_long}
use Rattle.values.proofs.lookup.component_of.Goals as goal

pub returns-then-eq : goal.returns-then-eq
returns-then-eq c =
    let f = c.index-components-i.result in
    let here = part_at c.args.components.now c.loop-i.i f c.loop-i-test.true c.index-components-i.is in
    let named = c.as_str.ensures.value ∙ ap (λ (z : ListMember). name_at z.name) (sym c.index-components-i.is) in
    let same = sym (ap (bytes_eq c.args.name.now) named) ∙ sym c.eq.ensures ∙ c.if-eq.true in
    sym (found_at c.args.name.now (part_names (map part_of c.args.components.now)) c.loop-i.i (name_at f.name)
    c.loop-i.invariant here same)

pub loop-i-preserved : goal.loop-i-preserved
loop-i-preserved c =
    let f = c.index-components-i.result in
    let here = part_at c.args.components.now c.loop-i.i f c.loop-i-test.true c.index-components-i.is in
    let named = c.as_str.ensures.value ∙ ap (λ (z : ListMember). name_at z.name) (sym c.index-components-i.is) in
    let same = sym (ap (bytes_eq c.args.name.now) named) ∙ sym c.eq.ensures ∙ c.if-eq.false in
    passed_at c.args.name.now (part_names (map part_of c.args.components.now)) c.loop-i.i (name_at f.name)
    c.loop-i.invariant here same

pub returns : goal.returns
returns c =
    let long = parts_long c.args.components.now in
    sym (passed_all c.args.name.now (part_names (map part_of c.args.components.now)) c.loop-i.i c.loop-i.invariant
    (omega (arith, long, c.loop-i-test.false)))
