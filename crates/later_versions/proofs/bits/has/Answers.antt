use Rattle.std.proofs.Common.{arith, map, sym}
use Rattle.std.proofs.lemmas.List.{length-map}
use Rattle.asn_base.specs.Seen.{named_bit_of}
use Rattle.later_versions.proofs.Fronts.{mapped_at, no, onward}
use Rattle.later_versions.proofs.Placing.{no_bit, no_place, same_bit}
use Rattle.later_versions.proofs.Places.{past_end}
use Rattle.later_versions.proofs.bits.has.Goals as goal

pub returns-in-None : goal.returns-in-None
returns-in-None c =
    no (no_bit (map named_bit_of c.args.bits.now) c.args.places.now (named_bit_of c.args.bit.now) c.requires.placed (sym c.in-None.ensures.value))

pub returns-then-found-bits : goal.returns-then-found-bits
returns-then-found-bits c =
    let n = length-map c.args.bits.now named_bit_of in
    let l = c.if-found-bits.true in
    absurd (no_place (map named_bit_of c.args.bits.now) c.args.places.now c.in-Some.place.now (named_bit_of c.args.bit.now) c.requires.placed (sym c.in-Some.ensures.value)
    (past_end (map named_bit_of c.args.bits.now) c.in-Some.place.now (omega (arith, n, l))))

pub returns : goal.returns
returns c =
    let h = same_bit (map named_bit_of c.args.bits.now) c.args.places.now c.in-Some.place.now (named_bit_of c.index-bits-found.result) (named_bit_of c.args.bit.now) c.requires.placed c.requires.distinct (sym c.in-Some.ensures.value)
    (mapped_at named_bit_of c.args.bits.now c.in-Some.place.now c.index-bits-found.result c.if-found-bits.false c.index-bits-found.is) in
    onward c.have_same_name.ensures h.0 h.1
