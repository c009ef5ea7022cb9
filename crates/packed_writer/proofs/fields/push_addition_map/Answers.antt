use Rattle.std.proofs.Common.{◌++◌, ap, ◌∙◌}
use Rattle.asn_base.specs.Abstract.{abstract}
use Rattle.packed_code.specs.Meaning.{addition_map, members_of}
use Rattle.packed_writer.specs.proving.Values.{first_map}
use Rattle.packed_writer.proofs.Additions.{addition_step}
use Rattle.packed_writer.proofs.Components.{split_at}
use Rattle.packed_writer.proofs.fields.push_addition_map.Goals as goal

pub loop-i-preserved : goal.loop-i-preserved
loop-i-preserved c =
    let ms = members_of c.args.code.now c.args.typed.id.index (abstract c.args.typed.value.now) in
    let r = split_at c.args.steps.now c.loop-i.i c.loop-i-test.true in
    addition_step ms c.args.steps.now c.loop-i.i r.0 c.loop-i.out c.push_addition_bit.new.out (c.args.out.now ++ addition_map ms c.args.steps.now) r.1 c.loop-i.invariant (c.in_ok-push_addition_bit.ensures ∙ ap (λ q. c.loop-i.out ++ first_map ms q) c.after.ensures)
