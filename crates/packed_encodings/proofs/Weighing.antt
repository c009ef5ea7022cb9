-- What is written of a value weighs no more than the value.
use Rattle.std.proofs.Common.{arith, ◌≡◌, ℕ, ◌+◌, ◌≤◌, Bool, true, false, cond, List, [], ◌∷◌, ◌++◌, refl, subst}
use Rattle.std.specs.List.{AllByRecursion}
use Rattle.asn_base.specs.Abstract.{AbstractValue, boolean, integer, enumerated, bits, octets, text, null, oid, relative_oid, fields, list, alternative, Row, end, absent, present}
use Rattle.asn_base.specs.Types.{Kind, Component, Resolved}
use Rattle.asn_base.specs.Typed.{nodes, row_nodes}
use Rattle.asn_base.specs.Same.{Alike, alike, AlikeBy, equal, zeros, alike_sequence, alike_set, alike_sequence_of, alike_set_of, alike_choice, AlikeComponents, no_components, both_absent, both_present, first_default, second_default, AlikeElements, no_elements, alike_element, AlikeInAnyOrder, none_left, pair, Inserted, here, there}
use Rattle.asn_base.specs.Schemas.{is_addition}
use Rattle.packed_encodings.specs.Lengths.{Bits, Items}
use Rattle.packed_encodings.specs.Weights.{weight, row_weight}
use Rattle.packed_encodings.specs.Orders.{missing, standing, component, any_present, Beside, beside_none, beside_absent, beside_present, root_members, past_marker, Addition, additions}
use Rattle.packed_encodings.specs.Packing.{exact, EncodesPer, says, EncodesKindPer, leaf, sequence, set, sequence_of, set_of, choice, added_choice, MembersPer, no_member, must_be_present, may_be_present, is_missing, Additions, no_addition, added, not_added, group, no_group, ElementsPer, no_element, element}
use Rattle.packed_encodings.proofs.Words.{not_false}
use Rattle.packed_encodings.proofs.Placing.{Placed, flat, flat_additions}
use Rattle.packed_encodings.proofs.Fronts.{same_kind, holds_at, says_at}
use Rattle.packed_encodings.proofs.Only.{in_both, there_too, types_there, take_out}
use Rattle.packed_encodings.proofs.ComputedBits.{NoDefault, none_default, all_of_root, canonical_back}

-- a present member has bits
abbrev Said : List Resolved → Placed → Type 0
Said s (missing c) = Unit {0}
Said s (standing c w) = (k : ℕ) × (b : Bits) × EncodesPer s exact c.type w k b

members_said : {s : List Resolved} {ms : List Placed} {k : ℕ} {p b : Bits} → MembersPer s exact ms k p b → AllByRecursion (Said s) ms
members_said no_member = tt
members_said (must_be_present h a r) = ((_, _, a), members_said r)
members_said (may_be_present h a nd r) = ((_, _, a), members_said r)
members_said (is_missing h r) = (tt, members_said r)

both_parts : (P : Placed → Type 0) (xs ys : List Placed) → AllByRecursion P xs → AllByRecursion P ys → AllByRecursion P (xs ++ ys)
both_parts P [] ys a b = b
both_parts P (x ∷ xs) ys a b = (a.0, both_parts P xs ys a.1 b)

none_said : (s : List Resolved) (ms : List Placed) → any_present ms ≡ false → AllByRecursion (Said s) ms
none_said s [] e = tt
none_said s (missing c ∷ ms) e = (tt, none_said s ms e)
none_said s (standing c w ∷ ms) e = absurd (not_false e)

additions_said : {s : List Resolved} {ds : List (Addition AbstractValue)} {k : ℕ} {q d : Bits} → Additions s exact ds k q d → AllByRecursion (Said s) (flat ds)
additions_said no_addition = tt
additions_said (added a o r) = ((_, _, a), additions_said r)
additions_said (not_added r) = (tt, additions_said r)
additions_said {s} (group {ms = ms} {as' = ds} h m o r) = both_parts (Said s) ms (flat ds) (members_said m) (additions_said r)
additions_said {s} (no_group {ms = ms} {as' = ds} h r) = both_parts (Said s) ms (flat ds) (none_said s ms h) (additions_said r)

all_parts : (P : Placed → Type 0) (ms : List Placed) → AllByRecursion P (root_members ms) → AllByRecursion P (past_marker ms) → AllByRecursion P ms
all_parts P [] a b = tt
all_parts P (m ∷ ms) a b = by (is_addition (component m)) (all_parts P ms) a b
  where
    by : (t : Bool) → (AllByRecursion P (root_members ms) → AllByRecursion P (past_marker ms) → AllByRecursion P ms) → AllByRecursion P (cond t (root_members ms) (m ∷ root_members ms)) → AllByRecursion P (cond t (m ∷ past_marker ms) (past_marker ms)) → AllByRecursion P (m ∷ ms)
    by true r a b = (b.0, r a b.1)
    by false r a b = (a.0, r a.1 b)

all_said : {s : List Resolved} (ms : List Placed) {j : ℕ} {q d : Bits} → AllByRecursion (Said s) (root_members ms) → Additions s exact (additions (past_marker ms)) j q d → AllByRecursion (Said s) ms
all_said {s} ms a d = all_parts (Said s) ms a (subst (AllByRecursion (Said s)) (flat_additions (past_marker ms)) (additions_said d))

put_weight : {w : AbstractValue} {ws zs : Row} → Inserted w ws zs → row_weight zs ≡ weight w + row_weight ws
put_weight here = refl
put_weight (there i) = let h = put_weight i in omega arith

-- ---- nodes

mutual
  -- a value has no more nodes than it weighs
  pub few_nodes : (v : AbstractValue) → nodes v ≤ weight v
  few_nodes (fields vs) = let r = few_in_row vs in omega (arith, r)
  few_nodes (list vs) = let r = few_in_row vs in omega (arith, r)
  few_nodes (alternative i v) = let r = few_nodes v in omega (arith, r)
  few_nodes q = omega arith

  few_in_row : (vs : Row) → row_nodes vs ≤ row_weight vs
  few_in_row end = omega arith
  few_in_row (absent vs) = few_in_row vs
  few_in_row (present v vs) = let a = few_nodes v in let r = few_in_row vs in omega (arith, a, r)

-- ---- what is written

module _ (s : List Resolved) (turn : (t : ℕ) (v w : AbstractValue) → Alike s t v w → Alike s t w v) where
  mutual
    pub few : {t : ℕ} {v w : AbstractValue} → Alike s t v w → {k : ℕ} {b : Bits} → EncodesPer s exact t w k b → weight w ≤ weight v
    few (alike i a) (says j h) = held_few a (holds_at (same_kind j i) h)

    held_few : {kind : Kind} {v w : AbstractValue} → AlikeBy s kind v w → {k : ℕ} {b : Bits} → EncodesKindPer s exact kind w k b → weight w ≤ weight v
    held_few (equal l) h = omega arith
    held_few (zeros m n e) h = omega arith
    held_few (alike_sequence a) (leaf x) = elim x [ ]
    held_few (alike_sequence a) (sequence {ms = ms} b m d x) = let l = row_few a b (all_said ms (members_said m) d) (all_of_root s ms (none_default m)) in omega arith
    held_few (alike_set a) (leaf x) = elim x [ ]
    held_few (alike_set a) (set {ms = ms} b m d x) =
        let l = row_few a b (all_said ms (canonical_back (Said s) s (root_members ms) (members_said m)) d) (all_of_root s ms (canonical_back (NoDefault s) s (root_members ms) (none_default m))) in omega arith
    held_few (alike_sequence_of a) (leaf x) = elim x [ ]
    held_few (alike_sequence_of a) (sequence_of es z) = let l = elements_few a es in omega arith
    held_few (alike_set_of a) (leaf x) = elim x [ ]
    held_few (alike_set_of a) (set_of es l z) = let h = any_few a es in omega arith
    held_few (alike_choice g a) (leaf x) = elim x [ ]
    held_few (alike_choice {root = root} {more = more} g a) (choice {i = i} f x) = let l = few a (says_at (types_there g (in_both root more i f)) x) in omega arith
    held_few (alike_choice {root = root} {more = more} g a) (added_choice {i = i} j e f h x o) = let l = few a (says_at (types_there g (there_too root more i j e f)) x) in omega arith

    row_few : {cs : List Component} {vs ws : Row} {ms : List Placed} → AlikeComponents s cs vs ws → Beside cs ws ms → AllByRecursion (Said s) ms → AllByRecursion (NoDefault s) ms → row_weight ws ≤ row_weight vs
    row_few no_components beside_none a n = omega arith
    row_few (both_absent al) (beside_absent b) a n = row_few al b a.1 n.1
    row_few (both_present h al) (beside_present b) a n = let l = few h a.0.2 in let m = row_few al b a.1 n.1 in omega arith
    row_few (first_default {c = c} {d = d} {w = w} e h al) (beside_present b) a n = absurd (n.0 (d, e, turn c.type d w h))
    row_few (second_default e h al) (beside_absent b) a n = let m = row_few al b a.1 n.1 in omega arith

    elements_few : {u : ℕ} {vs ws : Row} → AlikeElements s u vs ws → {k : ℕ} {xs : Items} → ElementsPer s exact u ws k xs → row_weight ws ≤ row_weight vs
    elements_few no_elements no_element = omega arith
    elements_few (alike_element h al) (element a es) = let l = few h a in let m = elements_few al es in omega arith

    any_few : {u : ℕ} {vs ws : Row} → AlikeInAnyOrder s u vs ws → {k : ℕ} {xs : Items} → ElementsPer s exact u ws k xs → row_weight ws ≤ row_weight vs
    any_few none_left no_element = omega arith
    any_few (pair h al at) es =
        let o = take_out at es in
        let l = few h o.it in
        let m = any_few al o.rest in
        let p = put_weight at in
        omega arith
