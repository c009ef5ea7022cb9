use Rattle.std.proofs.Common.{arith, ◌<◌}
use Rattle.packed_encodings.specs.Computed.{character_bits}
use Rattle.packed_leaves.proofs.Groups.{sum_small, sum_fits, group_more}
use Rattle.packed_leaves.proofs.text.group_of.Goals as goal

pub overflow_add-number : goal.overflow_add-number
overflow_add-number c =
    let i : c.loop-code.code-index < 8 = omega (arith, c.loop-code-test.true, c.requires.few) in
    let s = sum_fits c.loop-code.code-index c.args.alphabet.width c.loop-code.number c.number_of.result i c.requires.is.is.few c.loop-code.invariant.small c.number_of.ensures.small in
    omega (arith, s)

pub loop-code-preserved : goal.loop-code-preserved
loop-code-preserved c =
    let i : c.loop-code.code-index < 8 = omega (arith, c.loop-code-test.true, c.requires.few) in
    record {
      bits = group_more (character_bits c.args.alphabet.codes.now) c.args.text.now c.loop-code.code-index c.args.alphabet.width c.loop-code.number c.number_of.result c.loop-code-test.true i c.requires.is.is.few c.loop-code.invariant.small c.number_of.ensures.small c.number_of.ensures.bits c.loop-code.invariant.bits;
      small = sum_small c.loop-code.code-index c.args.alphabet.width c.loop-code.number c.number_of.result i c.requires.is.is.few c.loop-code.invariant.small c.number_of.ensures.small;
    }
