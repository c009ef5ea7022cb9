use Rattle.std.proofs.Common.{arith, ◌≡◌, ◌++◌, length, ap, ◌∙◌}
use Rattle.std.specs.Int.Digits.{digits_of}
use Rattle.der_layout.proofs.Room.{most_256}
use Rattle.der_layout.proofs.header.digit_count.Goals as goal

pub push_digits-requires : goal.push_digits-requires
push_digits-requires c = omega (arith, ap length c.new-out.ensures, most_256 c.args.number c.ranges.number.fits)

pub returns-clause-most : goal.returns-clause-most
returns-clause-most c =
    let e : length c.push_digits.new.out.items ≡ length (digits_of 256 c.args.number) = ap length (c.push_digits.ensures ∙ ap (λ q. q ++ digits_of 256 c.args.number) c.new-out.ensures) in
    omega (arith, e, c.len.ensures.value, most_256 c.args.number c.ranges.number.fits)
