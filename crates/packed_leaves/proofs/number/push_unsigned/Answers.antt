use Rattle.std.proofs.Common.{arith, ◌≡◌, ◌++◌, length, ap, ◌∙◌}
use Rattle.std.specs.Int.Digits.{digits_of}
use Rattle.packed_leaves.proofs.Numbers.{zero_octet, digits_octets, few_digits, some_digits_of}
use Rattle.packed_leaves.proofs.number.push_unsigned.Goals as goal

pub returns-then-number-eq0 : goal.returns-then-number-eq0
returns-then-number-eq0 c = zero_octet c.function_laws.ensures.fewest c.args.number c.args.out.now c.push_counted_octets.new.out c.if-number-eq0.true c.in_ok-push_counted_octets.ensures

pub push_digits-requires : goal.push_digits-requires
push_digits-requires c = omega (arith, ap length c.new-digits.ensures, few_digits c.args.number c.ranges.number.fits)

pub returns : goal.returns
returns c =
    let is : c.push_digits.new.out.items ≡ digits_of 256 c.args.number = c.push_digits.ensures ∙ ap (λ q. q ++ digits_of 256 c.args.number) c.new-digits.ensures in
    digits_octets c.function_laws.ensures.fewest c.args.number c.as_slice.result.now c.args.out.now c.push_counted_octets-2.new.out (some_digits_of c.args.number c.if-number-eq0.false) (c.as_slice.ensures.value ∙ is) c.in_ok-push_counted_octets-2.ensures
