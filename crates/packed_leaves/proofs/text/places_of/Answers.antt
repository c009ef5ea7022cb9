use Rattle.std.proofs.Common.{arith, length, refl}
use Rattle.packed_leaves.proofs.Places.{no_places}
use Rattle.packed_leaves.proofs.text.places_of.Goals as goal

pub loop-at-init : goal.loop-at-init
loop-at-init c = record {
  many = refl;
  few = omega arith;
  are = λ i l. no_places c.args.codes.now 256 (length c.args.codes.now) i refl l;
}
