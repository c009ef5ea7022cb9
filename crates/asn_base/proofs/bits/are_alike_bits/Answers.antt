use Rattle.std.proofs.Common.{arith, ◌≡◌, ◌*◌, ◌≤◌, length}
use Rattle.asn_base.specs.Abstract.{bits_of}
use Rattle.asn_base.proofs.Leaves.{yes}
use Rattle.asn_base.proofs.BitSteps.{all_octets}
use Rattle.asn_base.proofs.bits.are_alike_bits.Goals as goal
use Rattle.asn_base.specs.proving.Lists.{bits_length}

pub returns : goal.returns
returns c =
    let a = bits_length c.args.first.now.octets.items c.args.first.now.unused in
    let b = bits_length c.args.second.now.octets.items c.args.second.now.unused in
    let la : length (bits_of c.args.first.now) ≤ 8 * c.loop-octet.octet = let n : c.len.result ≡ length c.args.first.now.octets.items = grind arith in let m : c.len.result ≤ c.max-octet-end.result = grind arith in omega (arith, a, n, m, c.loop-octet-test.false) in
    let lb : length (bits_of c.args.second.now) ≤ 8 * c.loop-octet.octet = let n : c.len-2.result ≡ length c.args.second.now.octets.items = grind arith in let m : c.len-2.result ≤ c.max-octet-end.result = grind arith in omega (arith, b, n, m, c.loop-octet-test.false) in
    yes (all_octets (bits_of c.args.first.now) (bits_of c.args.second.now) c.loop-octet.octet la lb c.loop-octet.invariant)
