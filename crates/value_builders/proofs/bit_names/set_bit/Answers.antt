use Rattle.std.proofs.Common.{◌≡◌, ◌<◌, ◌+◌, ◌*◌, ◌/◌, ◌%◌, ◌∙◌, ap, length, flat_map, true, arith}
use Rattle.std.specs.Prelude.{set}
use Rattle.asn_base.specs.Abstract.{bits_of_octet}
use Rattle.value_builders.proofs.SetOctets.{set_at}
use Rattle.value_builders.proofs.bit_names.set_bit.Goals as goal

pub returns-clause-bits : goal.returns-clause-bits
returns-clause-bits c =
    let os = c.args.octets.now.items in
    let p = c.args.place in
    let q : 8 * (p / 8) + p % 8 ≡ p = omega arith in
    set_at os (p / 8) (p % 8) c.index.result.now c.with_bit.result (omega (arith, c.requires)) (omega arith) c.index.ensures c.with_bit.ensures
    ∙ ap (λ i. set (flat_map bits_of_octet os) i true) q
