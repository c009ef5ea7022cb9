use Rattle.std.proofs.Common.{◌≡◌, ◌+◌, ◌-◌, ◌*◌, ◌∙◌, arith, subst, take, drop}
use Rattle.std.specs.Prelude.{slice_index}
use Rattle.std.specs.Int.Digits.{number_from_digits}
use Rattle.value_notations.proofs.Groups.{below_group, padded_long}
use Rattle.value_notations.proofs.digits.bit_octets.Goals as goal

pub octet-requires-clause-below : goal.octet-requires-clause-below
octet-requires-clause-below c = below_group 2 (8 * c.loop-i.i + 8 - 8 * c.loop-i.i) (8 * c.loop-i.i) c.loop-zero.zero c.args.digits.now c.as_slice.result.now (omega arith) c.requires (c.as_slice.ensures.value ∙ c.loop-zero.invariant)

pub returns : goal.returns
returns c =
    let all = padded_long c.args.digits.now c.loop-zero.padded.items c.loop-zero.zero c.loop-zero.invariant in
    record {
      digits_of = c.requires;
      zeros = c.loop-zero.zero;
      few = omega (arith, c.loop-zero.auto.zero-end);
      long = omega (arith, all, c.loop-zero.auto.zero-end, c.loop-zero-test.false, c.loop-i.invariant.long, c.loop-i.auto.i-end, c.loop-i-test.false, c.len-i-end.ensures);
      each = λ k l. subst (λ xs. slice_index c.loop-i.octets.items k ≡ number_from_digits 2 (take 8 (drop (8 * k) xs))) c.loop-zero.invariant (c.loop-i.invariant.each k (omega (arith, l, c.loop-i.invariant.long)));
    }
