use Rattle.std.proofs.Common.{◌+◌, drop, sym, ap, ◌∙◌}
use Rattle.std.specs.Prelude.{◌||◌}
use Rattle.asn_base.specs.Abstract.{abstract}
use Rattle.packed_code.specs.Meaning.{addition_map, members_of}
use Rattle.packed_encodings.specs.Packing.{any_set}
use Rattle.packed_writer.specs.proving.Values.{first_map}
use Rattle.packed_writer.proofs.Additions.{any_added}
use Rattle.packed_writer.proofs.Components.{split_at}
use Rattle.packed_writer.proofs.fields.any_addition.Goals as goal

pub returns-then-is_added : goal.returns-then-is_added
returns-then-is_added c =
    let ms = members_of c.args.code.now c.args.typed.id.index (abstract c.args.typed.value.now) in
    let r = split_at c.args.steps.now c.loop-i.i c.loop-i-test.true in
    sym (c.loop-i.invariant ∙ any_added ms c.args.steps.now c.loop-i.i r.0 r.1 ∙ ap (λ q. q || any_set (addition_map ms (drop (c.loop-i.i + 1) c.args.steps.now))) (ap (λ q. any_set (first_map ms q)) (sym c.after.ensures) ∙ sym c.is_added.ensures ∙ c.if-is_added.true))

pub loop-i-preserved : goal.loop-i-preserved
loop-i-preserved c =
    let ms = members_of c.args.code.now c.args.typed.id.index (abstract c.args.typed.value.now) in
    let r = split_at c.args.steps.now c.loop-i.i c.loop-i-test.true in
    c.loop-i.invariant ∙ any_added ms c.args.steps.now c.loop-i.i r.0 r.1 ∙ ap (λ q. q || any_set (addition_map ms (drop (c.loop-i.i + 1) c.args.steps.now))) (ap (λ q. any_set (first_map ms q)) (sym c.after.ensures) ∙ sym c.is_added.ensures ∙ c.if-is_added.false)
