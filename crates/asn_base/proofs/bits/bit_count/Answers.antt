use Rattle.std.proofs.Common.{arith, ◌≡◌, ◌-◌, ◌*◌, length, sym, ◌∙◌}
use Rattle.asn_base.proofs.bits.bit_count.Goals as goal
use Rattle.asn_base.specs.proving.Lists.{bits_length}

pub returns-clause-count : goal.returns-clause-count
returns-clause-count c =
    let e : 8 * c.len-octets.result - c.from.result ≡ 8 * length c.args.bits.now.octets.items - c.args.bits.now.unused = grind arith in
    e ∙ sym (bits_length c.args.bits.now.octets.items c.args.bits.now.unused)
