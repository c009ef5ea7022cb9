use Rattle.std.proofs.Common.{◌≡◌, ◌++◌, pos, take, subst, sym, ap, ◌∙◌}
use Rattle.std.proofs.lemmas.List.{length-map}
use Rattle.asn_base.specs.Abstract.{bits_of}
use Rattle.asn_base.specs.Schemas.{IsSize}
use Rattle.asn_base.specs.Seen.{constraint_of}
use Rattle.asn_base.specs.Types.{a_bit_string}
use Rattle.asn_base.specs.Typed.{IsPrimitive, IsAllowedSize}
use Rattle.std.specs.Int.Digits.{AllBelowBase}
use Rattle.bits.specs.Words.{octet_bits}
use Rattle.packed_counts.specs.Counts.{Adds}
use Rattle.packed_encodings.specs.Computed.{leaf_bits}
use Rattle.packed_encodings.specs.Leaves.{singly}
use Rattle.packed_encodings.specs.Lengths.{Counted}
use Rattle.packed_leaves.proofs.Bounds.{has_least, in_bounds}
use Rattle.packed_leaves.proofs.Values.{bits_allowed}
use Rattle.packed_leaves.proofs.Front.{value_bits, singly_all}
use Rattle.packed_leaves.specs.proving.Counting.{at_once, counted}
use Rattle.packed_leaves.proofs.bit_string.push_bit_string.Goals as goal

pub push_size-requires-clause-least : goal.push_size-requires-clause-least
push_size-requires-clause-least c = has_least (constraint_of c.args.size.now) c.requires.bounds

pub push_size-requires-clause-allowed : goal.push_size-requires-clause-allowed
push_size-requires-clause-allowed c =
    in_bounds IsSize (constraint_of c.args.size.now) (pos c.in_ok-count.count) c.requires.bounds tt
    (subst (IsAllowedSize (constraint_of c.args.size.now)) (sym c.in_ok-count.ensures.count) (bits_allowed (subst (IsPrimitive (a_bit_string (constraint_of c.args.size.now))) c.bit_string-bits.ensures c.requires.fits)))

pub returns-in_ok-push_first : goal.returns-in_ok-push_first
returns-in_ok-push_first c =
    let b = c.bit_string-bits.result.now in
    let k = constraint_of c.args.size.now in
    let h : AllBelowBase 256 b.octets.items = subst (AllBelowBase 256) c.as_slice.ensures.value c.are_octets.ensures in
    let v : take c.in_ok-count.count (octet_bits c.as_slice-then-once.result.now) ≡ bits_of b
    = ap (λ q. take c.in_ok-count.count (octet_bits q)) c.as_slice-then-once.ensures.value ∙ value_bits b.octets.items c.in_ok-count.count b.unused h c.in_ok-count.ensures.all in
    at_once c.function_laws.ensures.sized k.visible (singly (bits_of b)) c.in_ok-count.count c.in_ok-once.once c.args.out.now c.push_size.new.out c.push_first.new.out
    (length-map (bits_of b) _ ∙ sym c.in_ok-count.ensures.count) c.if-once.true c.in_ok-once.ensures
    (c.in_ok-push_first.ensures ∙ ap (λ q. c.push_size.new.out ++ q) (v ∙ sym (singly_all (bits_of b))))
    ∙ ap (λ q. c.args.out.now ++ leaf_bits (a_bit_string k) q) (sym c.bit_string-bits.ensures)

pub returns-in_ok-push_counted : goal.returns-in_ok-push_counted
returns-in_ok-push_counted c =
    let b = c.bit_string-bits.result.now in
    let k = constraint_of c.args.size.now in
    let h : AllBelowBase 256 b.octets.items = subst (AllBelowBase 256) c.as_slice.ensures.value c.are_octets.ensures in
    let v : take c.in_ok-count.count (octet_bits c.as_slice-else-once.result.now) ≡ bits_of b
    = ap (λ q. take c.in_ok-count.count (octet_bits q)) c.as_slice-else-once.ensures.value ∙ value_bits b.octets.items c.in_ok-count.count b.unused h c.in_ok-count.ensures.all in
    counted c.function_laws.ensures.sized k.visible (singly (bits_of b)) c.in_ok-count.count c.in_ok-once.once c.args.out.now c.push_size.new.out c.push_counted.new.out
    (length-map (bits_of b) _ ∙ sym c.in_ok-count.ensures.count) c.if-once.false c.in_ok-once.ensures
    (subst (λ q. Adds (Counted (singly q)) c.push_size.new.out c.push_counted.new.out) v c.in_ok-push_counted.ensures)
    ∙ ap (λ q. c.args.out.now ++ leaf_bits (a_bit_string k) q) (sym c.bit_string-bits.ensures)
