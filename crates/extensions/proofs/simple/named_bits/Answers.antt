use Rattle.std.proofs.Common.{map, take, ap, sym, ◌∙◌, ◌∷◌, []}
use Rattle.std.proofs.lemmas.List.{map-append}
use Rattle.asn_base.specs.Seen.{named_bit_of}
use Rattle.settled.specs.schema_of.SchemaOf.{schema_bit}
use Rattle.extensions.proofs.Numbers.{pushed}
use Rattle.extensions.proofs.Parts.{taken_at}
use Rattle.names.specs.proving.Distinct.{item_at}
use Rattle.trees.specs.Types.{bit_of}
use Rattle.extensions.proofs.simple.named_bits.Goals as goal

pub named_bit-requires : goal.named_bit-requires
named_bit-requires c =
    c.requires.2 c.loop-at.at (bit_of c.index-bits-at.result)
    (item_at bit_of c.args.bits.now c.loop-at.at c.index-bits-at.result c.loop-at-test.true c.index-bits-at.is)

pub loop-at-preserved : goal.loop-at-preserved
loop-at-preserved c =
    let bs = map bit_of c.args.bits.now in
    let b = bit_of c.index-bits-at.result in
    let there = item_at bit_of c.args.bits.now c.loop-at.at c.index-bits-at.result c.loop-at-test.true c.index-bits-at.is in
    pushed named_bit_of c.loop-at.all.items c.push.new.self.items c.in_ok-named_bit.field-0 (map schema_bit (take c.loop-at.at bs)) (schema_bit b)
    c.in_ok-push.ensures.items c.loop-at.invariant c.in_ok-named_bit.ensures
    ∙ sym (ap (map schema_bit) (taken_at bs c.loop-at.at b there) ∙ map-append schema_bit (take c.loop-at.at bs) (b ∷ []))
