use Rattle.std.proofs.Common.{arith, ◌≡◌, ◌+◌, ◌-◌, ◌<◌, drop, length, ap, ◌∙◌}
use Rattle.bits.specs.Left.{bits_left}
use Rattle.packed_reader.proofs.OpenOctets.{place_before}
use Rattle.packed_reader.proofs.open.fault_place.Goals as goal

pub returns : goal.returns
returns c =
    let n = c.if-octets-ge16384.false in
    let a = c.len.ensures in
    let d = c.len-2.ensures in
    let few : c.args.octets < 16384 = omega (arith, n) in
    λ o y z e m h l.
    let j : c.len.result - (c.args.left + c.len-2.result) ≡ length (bits_left c.args.start) - (length z + length (bits_left c.args.after)) = omega (arith, a, d, l) in
    place_before c.octets_laws.ensures (bits_left c.args.start) (bits_left c.args.after) y z (bits_left c.skip.new.self) o c.args.octets few e m h
    (c.skip.ensures ∙ ap (λ q. drop q (bits_left c.args.start)) j)
