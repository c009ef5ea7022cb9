use Rattle.std.proofs.Common.{ap, map, rules, subst, sym}
use Rattle.asn_base.specs.Schemas.{GroupsTogether}
use Rattle.asn_base.specs.Seen.{component_of, kind_of}
use Rattle.later_versions.specs.Later.{IsLaterKind, later_boolean, later_named_bits, later_null, later_object_identifier, later_relative_oid}
use Rattle.later_versions.specs.Differences.{KindDiffers, other_bits, other_sequence_marker, other_set_marker}
use Rattle.later_versions.specs.declared.reason.Reason.TheVariants.{Marker, NamedBits}
use Rattle.later_versions.proofs.Fronts.{other_beq, same_beq}
use Rattle.later_versions.proofs.Kindred.{IsJudged, by_equal, by_kind, of_bit_string, of_choice, of_enumerated, of_integer, of_octet_string, of_sequence, of_sequence_of, of_set, of_set_of, of_utf8_string}
use Rattle.later_versions.proofs.Marks.{sequence_together, set_together}
use Rattle.later_versions.proofs.Tracking.{if_ok}
use Rattle.later_versions.proofs.kinds.other_kind.Goals as goal

pub returns-in-Boolean-Boolean : goal.returns-in-Boolean-Boolean
returns-in-Boolean-Boolean c = by_equal (IsLaterKind c.args.first.now) _ _ (ap kind_of c.in-Boolean-Boolean.is-0) (ap kind_of c.in-Boolean-Boolean.is-1) later_boolean

pub returns-in-Null-Null : goal.returns-in-Null-Null
returns-in-Null-Null c = by_equal (IsLaterKind c.args.first.now) _ _ (ap kind_of c.in-Null-Null.is-0) (ap kind_of c.in-Null-Null.is-1) later_null

pub returns-in-ObjectIdentifier-ObjectIdentifier : goal.returns-in-ObjectIdentifier-ObjectIdentifier
returns-in-ObjectIdentifier-ObjectIdentifier c = by_equal (IsLaterKind c.args.first.now) _ _ (ap kind_of c.in-ObjectIdentifier-ObjectIdentifier.is-0) (ap kind_of c.in-ObjectIdentifier-ObjectIdentifier.is-1) later_object_identifier

pub returns-in-RelativeOid-RelativeOid : goal.returns-in-RelativeOid-RelativeOid
returns-in-RelativeOid-RelativeOid c = by_equal (IsLaterKind c.args.first.now) _ _ (ap kind_of c.in-RelativeOid-RelativeOid.is-0) (ap kind_of c.in-RelativeOid-RelativeOid.is-1) later_relative_oid

pub returns-in-Integer-Integer : goal.returns-in-Integer-Integer
returns-in-Integer-Integer c = if_ok c.other_numbers.result c.other_numbers.ensures (λ o h.
    by_equal (IsJudged c.args.first.now o) _ _ (ap kind_of c.in-Integer-Integer.is-0) (ap kind_of c.in-Integer-Integer.is-1) (of_integer _ _ _ _ h))

pub returns-in-BitString-BitString : goal.returns-in-BitString-BitString
returns-in-BitString-BitString c = if_ok c.other_sizes.result c.other_sizes.ensures (λ o h.
    by_equal (IsJudged c.args.first.now o) _ _ (ap kind_of c.in-BitString-BitString.is-0) (ap kind_of c.in-BitString-BitString.is-1) (of_bit_string _ _ _ _ h))

pub returns-in-OctetString-OctetString : goal.returns-in-OctetString-OctetString
returns-in-OctetString-OctetString c = if_ok c.other_sizes-in-OctetString-OctetString.result c.other_sizes-in-OctetString-OctetString.ensures (λ o h.
    by_equal (IsJudged c.args.first.now o) _ _ (ap kind_of c.in-OctetString-OctetString.is-0) (ap kind_of c.in-OctetString-OctetString.is-1) (of_octet_string _ _ _ _ h))

pub returns-in-Utf8String-Utf8String : goal.returns-in-Utf8String-Utf8String
returns-in-Utf8String-Utf8String c = if_ok c.other_sizes-in-Utf8String-Utf8String.result c.other_sizes-in-Utf8String-Utf8String.ensures (λ o h.
    by_equal (IsJudged c.args.first.now o) _ _ (ap kind_of c.in-Utf8String-Utf8String.is-0) (ap kind_of c.in-Utf8String-Utf8String.is-1) (of_utf8_string _ _ _ _ h))

pub returns-in-SequenceOf-SequenceOf : goal.returns-in-SequenceOf-SequenceOf
returns-in-SequenceOf-SequenceOf c = if_ok c.other_sizes-in-SequenceOf-SequenceOf.result c.other_sizes-in-SequenceOf-SequenceOf.ensures (λ o h.
    by_equal (IsJudged c.args.first.now o) _ _ (ap kind_of c.in-SequenceOf-SequenceOf.is-0) (ap kind_of c.in-SequenceOf-SequenceOf.is-1) (of_sequence_of _ _ _ _ _ _ h))

pub returns-in-SetOf-SetOf : goal.returns-in-SetOf-SetOf
returns-in-SetOf-SetOf c = if_ok c.other_sizes-in-SetOf-SetOf.result c.other_sizes-in-SetOf-SetOf.ensures (λ o h.
    by_equal (IsJudged c.args.first.now o) _ _ (ap kind_of c.in-SetOf-SetOf.is-0) (ap kind_of c.in-SetOf-SetOf.is-1) (of_set_of _ _ _ _ _ _ h))

pub returns-in-Enumerated-Enumerated : goal.returns-in-Enumerated-Enumerated
returns-in-Enumerated-Enumerated c =
    by_equal (IsJudged c.args.first.now c.other_items.result) _ _ (ap kind_of c.in-Enumerated-Enumerated.is-0) (ap kind_of c.in-Enumerated-Enumerated.is-1)
    (of_enumerated _ _ _ _ _ _ _ _ c.other_items.ensures)

pub returns-in-Choice-Choice : goal.returns-in-Choice-Choice
returns-in-Choice-Choice c =
    by_equal (IsJudged c.args.first.now c.other_alternatives.result) _ _ (ap kind_of c.in-Choice-Choice.is-0) (ap kind_of c.in-Choice-Choice.is-1)
    (of_choice _ _ _ _ _ _ _ _ c.other_alternatives.ensures)

pub other_components-requires-clause-first : goal.other_components-requires-clause-first
other_components-requires-clause-first c =
    subst (λ q. GroupsTogether (map component_of q)) (sym c.as_slice-in-Sequence-Sequence.ensures.value)
    (sequence_together c.args.first.now (kind_of c.args.core.now) c.in-Sequence-Sequence.marked (map component_of c.in-Sequence-Sequence.components.items) c.requires.first_sound (ap kind_of c.in-Sequence-Sequence.is-0))

pub other_components-requires-clause-second : goal.other_components-requires-clause-second
other_components-requires-clause-second c =
    subst (λ q. GroupsTogether (map component_of q)) (sym c.as_slice-in-Sequence-Sequence-2.ensures.value)
    (sequence_together c.args.second.now (kind_of c.args.other.now) c.in-Sequence-Sequence.other_marked (map component_of c.in-Sequence-Sequence.others.items) c.requires.second_sound (ap kind_of c.in-Sequence-Sequence.is-1))

pub returns-then-marked-other_marked : goal.returns-then-marked-other_marked
returns-then-marked-other_marked c =
    by_equal (λ k l. KindDiffers c.args.first.now k l Marker) _ _ (ap kind_of c.in-Sequence-Sequence.is-0) (ap kind_of c.in-Sequence-Sequence.is-1)
    (other_sequence_marker (other_beq c.in-Sequence-Sequence.marked c.in-Sequence-Sequence.other_marked c.if-marked-other_marked.true))

pub returns-else-marked-other_marked : goal.returns-else-marked-other_marked
returns-else-marked-other_marked c = if_ok c.other_components.result c.other_components.ensures (λ o h.
    by_equal (IsJudged c.args.first.now o) _ _ (ap kind_of c.in-Sequence-Sequence.is-0) (ap kind_of c.in-Sequence-Sequence.is-1)
    (of_sequence _ _ _ _ _ _ (same_beq c.in-Sequence-Sequence.marked c.in-Sequence-Sequence.other_marked c.if-marked-other_marked.false)
    (rw (c.as_slice-in-Sequence-Sequence.ensures.value, c.as_slice-in-Sequence-Sequence-2.ensures.value) at h)))

pub other_components-requires-in-Set-Set-clause-first : goal.other_components-requires-in-Set-Set-clause-first
other_components-requires-in-Set-Set-clause-first c =
    subst (λ q. GroupsTogether (map component_of q)) (sym c.as_slice-in-Set-Set.ensures.value)
    (set_together c.args.first.now (kind_of c.args.core.now) c.in-Set-Set.marked (map component_of c.in-Set-Set.components.items) c.requires.first_sound (ap kind_of c.in-Set-Set.is-0))

pub other_components-requires-in-Set-Set-clause-second : goal.other_components-requires-in-Set-Set-clause-second
other_components-requires-in-Set-Set-clause-second c =
    subst (λ q. GroupsTogether (map component_of q)) (sym c.as_slice-in-Set-Set-2.ensures.value)
    (set_together c.args.second.now (kind_of c.args.other.now) c.in-Set-Set.other_marked (map component_of c.in-Set-Set.others.items) c.requires.second_sound (ap kind_of c.in-Set-Set.is-1))

pub returns-then-marked-other_marked-2 : goal.returns-then-marked-other_marked-2
returns-then-marked-other_marked-2 c =
    by_equal (λ k l. KindDiffers c.args.first.now k l Marker) _ _ (ap kind_of c.in-Set-Set.is-0) (ap kind_of c.in-Set-Set.is-1)
    (other_set_marker (other_beq c.in-Set-Set.marked c.in-Set-Set.other_marked c.if-marked-other_marked-2.true))

pub returns-else-marked-other_marked-2 : goal.returns-else-marked-other_marked-2
returns-else-marked-other_marked-2 c = if_ok c.other_components-in-Set-Set.result c.other_components-in-Set-Set.ensures (λ o h.
    by_equal (IsJudged c.args.first.now o) _ _ (ap kind_of c.in-Set-Set.is-0) (ap kind_of c.in-Set-Set.is-1)
    (of_set _ _ _ _ _ _ (same_beq c.in-Set-Set.marked c.in-Set-Set.other_marked c.if-marked-other_marked-2.false)
    (rw (c.as_slice-in-Set-Set.ensures.value, c.as_slice-in-Set-Set-2.ensures.value) at h)))

pub returns-then-branch : goal.returns-then-branch
returns-then-branch c =
    by_equal (IsLaterKind c.args.first.now) _ _ (ap kind_of c.in-NamedBits-NamedBits.is-0) (ap kind_of c.in-NamedBits-NamedBits.is-1)
    (later_named_bits ((rw (c.as_slice.ensures.value, c.as_slice-in-NamedBits-NamedBits.ensures.value) at c.in_ok-name_same-in-NamedBits-NamedBits.ensures).0 c.if-branch.true))

pub returns-else-branch : goal.returns-else-branch
returns-else-branch c =
    by_equal (λ k l. KindDiffers c.args.first.now k l NamedBits) _ _ (ap kind_of c.in-NamedBits-NamedBits.is-0) (ap kind_of c.in-NamedBits-NamedBits.is-1)
    (other_bits (λ h. absurd (
    let e = (rw (c.as_slice.ensures.value, c.as_slice-in-NamedBits-NamedBits.ensures.value) at c.in_ok-name_same-in-NamedBits-NamedBits.ensures).1 h in
    let f = c.if-branch.false in
    cc
    )))

pub returns-in_default : goal.returns-in_default
returns-in_default c = by_kind c.args.first.now (kind_of c.args.core.now) (kind_of c.args.other.now) (search rules)

pub returns-in_default-2 : goal.returns-in_default-2
returns-in_default-2 c = by_kind c.args.first.now (kind_of c.args.core.now) (kind_of c.args.other.now) (search rules)

pub returns-in_default-3 : goal.returns-in_default-3
returns-in_default-3 c = by_kind c.args.first.now (kind_of c.args.core.now) (kind_of c.args.other.now) (search rules)

pub returns-in_default-4 : goal.returns-in_default-4
returns-in_default-4 c = by_kind c.args.first.now (kind_of c.args.core.now) (kind_of c.args.other.now) (search rules)

pub returns-in_default-5 : goal.returns-in_default-5
returns-in_default-5 c = by_kind c.args.first.now (kind_of c.args.core.now) (kind_of c.args.other.now) (search rules)

pub returns-in_default-6 : goal.returns-in_default-6
returns-in_default-6 c = by_kind c.args.first.now (kind_of c.args.core.now) (kind_of c.args.other.now) (search rules)

pub returns-in_default-7 : goal.returns-in_default-7
returns-in_default-7 c = by_kind c.args.first.now (kind_of c.args.core.now) (kind_of c.args.other.now) (search rules)

pub returns-in_default-8 : goal.returns-in_default-8
returns-in_default-8 c = by_kind c.args.first.now (kind_of c.args.core.now) (kind_of c.args.other.now) (search rules)

pub returns-in_default-9 : goal.returns-in_default-9
returns-in_default-9 c = by_kind c.args.first.now (kind_of c.args.core.now) (kind_of c.args.other.now) (search rules)

pub returns-in_default-10 : goal.returns-in_default-10
returns-in_default-10 c = by_kind c.args.first.now (kind_of c.args.core.now) (kind_of c.args.other.now) (search rules)

pub returns-in_default-11 : goal.returns-in_default-11
returns-in_default-11 c = by_kind c.args.first.now (kind_of c.args.core.now) (kind_of c.args.other.now) (search rules)

pub returns-in_default-12 : goal.returns-in_default-12
returns-in_default-12 c = by_kind c.args.first.now (kind_of c.args.core.now) (kind_of c.args.other.now) (search rules)

pub returns-in_default-13 : goal.returns-in_default-13
returns-in_default-13 c = by_kind c.args.first.now (kind_of c.args.core.now) (kind_of c.args.other.now) (search rules)

pub returns-in_default-14 : goal.returns-in_default-14
returns-in_default-14 c = by_kind c.args.first.now (kind_of c.args.core.now) (kind_of c.args.other.now) (search rules)

pub returns-in_default-15 : goal.returns-in_default-15
returns-in_default-15 c = by_kind c.args.first.now (kind_of c.args.core.now) (kind_of c.args.other.now) (search rules)
