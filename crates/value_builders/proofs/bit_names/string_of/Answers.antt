use Rattle.std.proofs.Common.{◌≤◌, ℕ, map, sym, subst}
use Rattle.std.specs.List.{AllByRecursion}
use Rattle.asn_base.specs.Seen.{named_bit_of}
use Rattle.value_builders.proofs.SetBits.{names_within}
use Rattle.value_builders.proofs.bit_names.string_of.Goals as goal

pub set_bits-requires : goal.set_bits-requires
set_bits-requires c = record {
  within =
      subst (λ q. AllByRecursion (λ (p : ℕ). p ≤ 65535) q) (sym c.as_slice.ensures.value)
      (names_within (map named_bit_of c.args.bits.now) (map (λ n. n.now) c.args.names.now) c.in-Ok.places.items c.requires c.in-Ok.ensures.ok);
}
