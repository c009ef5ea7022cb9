-- An encoding by the distinguished rules has at most six levels of headers a level of the value.
use Rattle.std.proofs.Common.{arith, ◌≡◌, ℕ, ◌*◌, ◌≤◌, max, Bool, false, List, refl, subst}
use Rattle.std.proofs.Math.Nat.{max-le}
use Rattle.asn_base.specs.Abstract.{AbstractValue, Row}
use Rattle.asn_base.specs.Types.{Kind, Component, Resolved}
use Rattle.asn_base.specs.Tags.{HasFewTags}
use Rattle.asn_base.specs.Typed.{ValueIn, value_in, ValueOf, of_leaf, of_sequence, of_set, of_sequence_of, of_set_of, of_choice, AreComponents, component_absent, component_present, AreElements, one_element}
use Rattle.encodings.specs.Rules.{Distinguished}
use Rattle.encodings.specs.Strings.{Pieces, whole, cut, BitPieces, whole_bits, cut_bits}
use Rattle.encodings.specs.Contents.{Contents, of_false, of_true, of_integer, of_enumerated, of_bits, of_named_bits, of_octets, of_null, of_oid, of_relative_oid, of_utf8, of_restricted}
use Rattle.encodings.specs.Encoding.{no_unknown, unknown, UnknownIf, closed, extensible, EncodesTo, says, ContentsEncode, leaf, sequence, set, sequence_of, set_of, choice, Members, no_member, left_out, member, Elements, no_element, element}
use Rattle.encodings.specs.Levels.{piece_levels, bit_piece_levels, leaf_levels, unknown_levels, levels, inner_levels, member_levels, element_levels}
use Rattle.encodings.proofs.Least.{alternative_type}
use Rattle.asn_base.specs.proving.OneKind.{same_kind}

flat_piece : {s : List ℕ} {c : Bool} {o : List ℕ} (p : Pieces s c o) → c ≡ false → piece_levels p ≡ 0
flat_piece (whole b) e = refl
flat_piece (cut g) e = absurd (cc)

flat_bits : {s : List Bool} {c : Bool} {o : List ℕ} (p : BitPieces s c o) → c ≡ false → bit_piece_levels p ≡ 0
flat_bits (whole_bits w) e = refl
flat_bits (cut_bits g) e = absurd (cc)

flat : {k : Kind} {w : AbstractValue} {c : Bool} {x : List ℕ} (a : Contents Distinguished k w c x) → leaf_levels a ≡ 0
flat of_false = refl
flat (of_true l m e) = refl
flat (of_integer a) = refl
flat (of_enumerated a) = refl
flat (of_bits p e f) = flat_bits p e
flat (of_named_bits p e f t) = flat_bits p e
flat (of_octets p e) = flat_piece p e
flat of_null = refl
flat (of_oid a) = refl
flat (of_relative_oid a) = refl
flat (of_utf8 p e) = flat_piece p e
flat (of_restricted p e) = flat_piece p e

none_new : {s : List Resolved} {cs : List Component} {e : Bool} {k : ℕ} {us : List (List ℕ)} (u : UnknownIf s cs e k us) → k ≡ 0 → unknown_levels u ≡ 0
none_new closed z = refl
none_new (extensible no_unknown) z = refl
none_new (extensible (unknown x h b f u)) z = absurd (omega arith)

both_least : (a b n : ℕ) → a ≤ n → b ≤ n → max a b ≤ n
both_least a b n h k = max-le h k

value_of_at : {s : List Resolved} {n : ℕ} {k k' : Kind} {v : AbstractValue} → k' ≡ k → ValueOf s n k' v → ValueOf s n k v
value_of_at {s} {n} {v = v} e a = subst (λ q. ValueOf s n q v) e a

value_at : {s : List Resolved} {n t u : ℕ} {v : AbstractValue} → u ≡ t → ValueIn s n u v → ValueIn s n t v
value_at {s} {n} {v = v} e a = subst (λ q. ValueIn s n q v) e a

module _ (s : List Resolved) (few : HasFewTags s) where
  mutual
    pub few_levels : {t n k : ℕ} {v : AbstractValue} {o : List ℕ} (d : EncodesTo s Distinguished t v k o) → k ≡ 0 → ValueIn s n t v → levels d ≤ 6 * n
    few_levels (says i h f) z (value_in j a) =
        let l = few _ _ _ i in
        let m = inner_few h z (value_of_at (same_kind i j) a) in omega arith

    inner_few : {kind : Kind} {n k : ℕ} {v : AbstractValue} {c : Bool} {x : List ℕ} (h : ContentsEncode s Distinguished kind v k c x) → k ≡ 0 → ValueOf s n kind v → inner_levels h ≤ 6 * n
    inner_few (leaf con) z a = let e = flat con in omega arith
    inner_few {n = n} (sequence ms u) z (of_sequence a g) = both_least (member_levels ms) (unknown_levels u) (6 * n) (members_few ms (omega arith) a) (let e = none_new u (omega arith) in omega arith)
    inner_few (sequence ms u) z (of_leaf f) = elim f [ ]
    inner_few {n = n} (set ms p st u m) z (of_set a g) = both_least (member_levels ms) (unknown_levels u) (6 * n) (members_few ms (omega arith) a) (let e = none_new u (omega arith) in omega arith)
    inner_few (set ms p st u m) z (of_leaf f) = elim f [ ]
    inner_few (sequence_of es) z (of_sequence_of a l) = elements_few es z a
    inner_few (sequence_of es) z (of_leaf f) = elim f [ ]
    inner_few (set_of es st) z (of_set_of a l) = elements_few es z a
    inner_few (set_of es st) z (of_leaf f) = elim f [ ]
    inner_few (choice g b) z (of_choice h a) = few_levels b z (value_at (alternative_type g h) a)
    inner_few (choice g b) z (of_leaf f) = elim f [ ]

    members_few : {cs : List Component} {n k : ℕ} {vs : Row} {xs : List (List ℕ)} (ms : Members s Distinguished cs vs k xs) → k ≡ 0 → AreComponents s n cs vs → member_levels ms ≤ 6 * n
    members_few no_member z a = omega arith
    members_few (left_out m ms) z (component_absent b a) = members_few ms z a
    members_few {n = n} (member b d ms) z (component_present v a) = both_least (levels b) (member_levels ms) (6 * n) (few_levels b (omega arith) v) (members_few ms (omega arith) a)

    elements_few : {u n k : ℕ} {vs : Row} {xs : List (List ℕ)} (es : Elements s Distinguished u vs k xs) → k ≡ 0 → AreElements s n u vs → element_levels es ≤ 6 * n
    elements_few no_element z a = omega arith
    elements_few {n = n} (element b es) z (one_element v a) = both_least (levels b) (element_levels es) (6 * n) (few_levels b (omega arith) v) (elements_few es (omega arith) a)

-- a value of at most 64 levels has an encoding of at most 400 levels of headers
pub within_limit : (s : List Resolved) (t : ℕ) (v : AbstractValue) (o : List ℕ) (d : EncodesTo s Distinguished t v 0 o) → HasFewTags s → ValueIn s 64 t v → levels d ≤ 400
within_limit s t v o d few a = let l = few_levels s few d refl a in omega arith
