use Rattle.std.proofs.Common.{arith, ◌≡◌, ◌-◌, ◌*◌, length, sym, ◌∙◌}
use Rattle.asn_base.proofs.bits.bit_count_in.Goals as goal
use Rattle.asn_base.specs.proving.Lists.{bits_length}

pub returns-clause-count : goal.returns-clause-count
returns-clause-count c =
    let e : c.saturating_sub.result ≡ 8 * length c.args.octets.now - c.args.unused = grind arith in
    e ∙ sym (bits_length c.args.octets.now c.args.unused)
