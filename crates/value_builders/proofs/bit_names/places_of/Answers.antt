use Rattle.std.proofs.Common.{arith, ◌+◌, map, take, sym, subst}
use Rattle.asn_base.specs.Seen.{named_bit_of}
use Rattle.value_builders.specs.Made.{AreBitPlaces}
use Rattle.value_builders.proofs.SetBits.{places_next}
use Rattle.value_builders.proofs.bit_names.places_of.Goals as goal

pub loop-name-preserved : goal.loop-name-preserved
loop-name-preserved c =
    subst (λ q. AreBitPlaces (map named_bit_of c.args.bits.now) (take (c.loop-name.name-index + 1) (map (λ n. n.now) c.args.names.now)) q) (sym c.in_ok-push-in-Some.ensures.items)
    (places_next (map named_bit_of c.args.bits.now) c.args.names.now c.loop-name.name-index _ c.loop-name.places.items c.in-Some.place c.loop-name.invariant
    (omega (arith, c.loop-name-test.true, c.loop-name.auto.name-index-end)) c.in-Some.ensures)
