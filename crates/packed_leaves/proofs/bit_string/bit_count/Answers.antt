use Rattle.std.proofs.Common.{arith, ◌≡◌, ◌-◌, ◌*◌, length, sym, ◌∙◌}
use Rattle.packed_leaves.proofs.Front.{bits_length}
use Rattle.packed_leaves.proofs.bit_string.bit_count.Goals as goal

pub returns-clause-count : goal.returns-clause-count
returns-clause-count c =
    let e : 8 * c.len-octets.result - c.args.bits.now.unused ≡ 8 * length c.args.bits.now.octets.items - c.args.bits.now.unused = grind arith in
    e ∙ sym (bits_length c.args.bits.now.octets.items c.args.bits.now.unused)
