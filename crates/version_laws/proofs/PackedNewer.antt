-- Packed bits of a value of an earlier version are bits of what it is under the later type.
use Rattle.std.proofs.Common.{arith, ◌≡◌, ℕ, suc, ◌+◌, Bool, true, false, cond, List, [], ◌∷◌, ◌++◌, length, refl, sym, ap, subst, ◌∙◌}
use Rattle.std.proofs.lemmas.List.{append-nil}
use Rattle.std.specs.Prelude.{slice_get}
use Rattle.std.specs.List.{AllByRecursion}
use Rattle.asn_base.specs.Abstract.{AbstractValue, fields, list, alternative, Row}
use Rattle.asn_base.specs.Types.{Kind, Component, Resolved}
use Rattle.asn_base.specs.Typed.{group_of, ValueIn, value_in, ValueOf, of_leaf, of_sequence, of_set, of_sequence_of, of_set_of, of_choice, AreComponents, no_component, component_absent, component_present, AreElements, one_element}
use Rattle.asn_base.specs.Schemas.{IsSchema, IsSound, AreListed, is_addition, types_in}
use Rattle.encodings.specs.Encoding.{IsDefault}
use Rattle.later_versions.specs.Projected.{members_of}
use Rattle.later_versions.specs.Later.{IsLaterKind, later_sequence, later_set, later_sequence_of, later_set_of, later_choice, Later}
use Rattle.packed_encodings.specs.Lengths.{Bits, Items, Sized}
use Rattle.packed_encodings.specs.Leaves.{place_bits, root_bit}
use Rattle.packed_encodings.specs.Orders.{canonical_place, Member, missing, standing, any_present, Beside as MembersBeside, beside_none, beside_absent, beside_present, past_marker, Addition, alone, bracketed, additions}
use Rattle.packed_encodings.specs.Packing.{lenient, EncodesPer, says, EncodesKindPer, leaf, sequence, set, sequence_of, set_of, choice, added_choice, MembersPer, no_member, must_be_present, may_be_present, is_missing, Additions, no_addition, added, not_added, group, no_group, ElementsPer, no_element as no_items, element}
use Rattle.version_laws.specs.LeftOut.{members_in, present_additions}
use Rattle.version_laws.specs.Lifted.{all_absent, lifted, lifted_row, lifted_elements}
use Rattle.version_laws.proofs.Beside.{later_here, members_are, later_members, LaterMembers, types}
use Rattle.version_laws.proofs.Apart.{HasType, type_there, mapped, within}
use Rattle.version_laws.proofs.Places.{element_at, member_at}
use Rattle.version_laws.proofs.Alikes.{Laws}
use Rattle.version_laws.proofs.Back.{is_there, same_kind, other_choice}
use Rattle.version_laws.proofs.NewerAlike.{same_choice}
use Rattle.version_laws.proofs.NewerSays.{default_before}
use Rattle.version_laws.proofs.PackedPairs.{OfValues, both_missing, both_sides_present, AllMatched, none_matched, more_matched, AdditionsMatched, only_more, both_alone, both_bracketed, canonical_matched, any_same, root_step}
use Rattle.version_laws.proofs.PackedBits.{zeros, extended_newer}
use Rattle.version_laws.proofs.PackedSides.{IsAligned, aligned_tag, bit_same, Lined, lined_end, lined, lined_of, listed_first, Sides, side_end, side_absent, side_present, parts}
use Rattle.version_laws.proofs.PackedCounts.{front_zero}
use Rattle.version_laws.proofs.PackedLeaves.{leaf_newer, at_front, in_front_at, at_back, roots_same, ranks_same}

-- the second value is what the first one is under the later type
pub record IsWidened (s s' : List Resolved) (c d : Component) (v w : AbstractValue) (k : ℕ) : Type 0 where
  pub same : w ≡ lifted s' d.type v
  pub count : k ≡ 0
  pub levels : ℕ
  pub value : ValueIn s levels c.type v

abbrev Widens : List Resolved → List Resolved → OfValues
Widens s s' = λ c d v w k. IsWidened s s' c d v w k

-- ---- conversions

holds_at : {s : List Resolved} {k : Kind} {v w : AbstractValue} {x y : Bits} → v ≡ w → x ≡ y → EncodesKindPer s lenient k v 0 x → EncodesKindPer s lenient k w 0 y
holds_at {s} {k} {v} {w} {x} {y} e g h = subst (λ q. EncodesKindPer s lenient k q 0 y) e (subst (λ q. EncodesKindPer s lenient k v 0 q) g h)

counted_at : {s : List Resolved} {k : Kind} {v : AbstractValue} {i j : ℕ} {x : Bits} → i ≡ j → EncodesKindPer s lenient k v i x → EncodesKindPer s lenient k v j x
counted_at {s} {k} {v} {i} {j} {x} e h = subst (λ q. EncodesKindPer s lenient k v q x) e h

says_at : {s : List Resolved} {t : ℕ} {v w : AbstractValue} {x : Bits} → v ≡ w → EncodesPer s lenient t v 0 x → EncodesPer s lenient t w 0 x
says_at {s} {t} {v} {w} {x} e h = subst (λ q. EncodesPer s lenient t q 0 x) e h

members_at : {s : List Resolved} {ms : List (Member AbstractValue)} {i j : ℕ} {p b : Bits} → i ≡ j → MembersPer s lenient ms i p b → MembersPer s lenient ms j p b
members_at {s} {ms} {i} {j} {p} {b} e h = subst (λ q. MembersPer s lenient ms q p b) e h

additions_at : {s : List Resolved} {ds : List (Addition AbstractValue)} {i j : ℕ} {q d : Bits} → i ≡ j → Additions s lenient ds i q d → Additions s lenient ds j q d
additions_at {s} {ds} {i} {j} {q} {d} e h = subst (λ n. Additions s lenient ds n q d) e h

elements_at : {s : List Resolved} {u i j : ℕ} {ws : Row} {xs : Items} → i ≡ j → ElementsPer s lenient u ws i xs → ElementsPer s lenient u ws j xs
elements_at {s} {u} {i} {j} {ws} {xs} e h = subst (λ q. ElementsPer s lenient u ws q xs) e h

-- ---- rows

none_in_front : (ds : List Component) → present_additions (additions (members_in ds (all_absent (types ds)))) ≡ 0
none_in_front [] = refl
none_in_front (d ∷ ds) =
    let e = none_in_front ds in
    (front_zero (group_of d.presence) (missing d) (additions (members_in ds (all_absent (types ds))))).forth (omega (arith, e))

beside_absent_all : (ds : List Component) → MembersBeside ds (all_absent (types ds)) (members_in ds (all_absent (types ds)))
beside_absent_all [] = beside_none
beside_absent_all (d ∷ ds) = beside_absent (beside_absent_all ds)

module _ (s s' : List Resolved) where
  beside_widened : {cs ds : List Component} {vs : Row} {ms : List (Member AbstractValue)} → Lined s s' cs ds → MembersBeside cs vs ms → (ns : List (Member AbstractValue)) × MembersBeside ds (lifted_row s' (types ds) vs) ns
  beside_widened (lined_end {ds = ds} a) beside_none = (members_in ds (all_absent (types ds)), beside_absent_all ds)
  beside_widened (lined {d = d} al g j l) (beside_absent b) = let r = beside_widened l b in (missing d ∷ r.0, beside_absent r.1)
  beside_widened (lined {d = d} al g j l) (beside_present {w = w} b) = let r = beside_widened l b in (standing d (lifted s' d.type w) ∷ r.0, beside_present r.1)

  wide_sides : {cs ds : List Component} {vs : Row} {n : ℕ} → Lined s s' cs ds → AreComponents s n cs vs → Sides s s' (Widens s s') cs ds vs (lifted_row s' (types ds) vs) 0
  wide_sides (lined_end {ds = ds} a) no_component = side_end (sym (none_in_front ds))
  wide_sides (lined al g j l) (component_absent mb v) = side_absent (wide_sides l v)
  wide_sides {n = n} (lined al g j l) (component_present x v) = side_present {i = 0} {j = 0} (record { same = refl; count = refl; levels = n; value = x }) (wide_sides l v) (omega arith)

-- without a marker there are no additions
none_after : {s : List Resolved} {e : Bool} {ds : List Component} {ws : Row} {ns : List (Member AbstractValue)} → AreListed s e ds → e ≡ false → MembersBeside ds ws ns → past_marker ns ≡ []
none_after {ds = ds} l f b =
    let whole = l.parts ∙ ap (λ q. l.root ++ q) (l.marked f) ∙ append-nil l.root in
    only_root (subst (AllByRecursion (λ c. is_addition c ≡ false)) (sym whole) l.in_root) b
  where
    only_root : {ds : List Component} {ws : Row} {ns : List (Member AbstractValue)} → AllByRecursion (λ c. is_addition c ≡ false) ds → MembersBeside ds ws ns → past_marker ns ≡ []
    only_root a beside_none = refl
    only_root a (beside_absent {c = c} {ms = ms} b) = (root_step (missing c) ms a.0).1 ∙ only_root a.1 b
    only_root a (beside_present {c = c} {w = w} {ms = ms} b) = (root_step (standing c w) ms a.0).1 ∙ only_root a.1 b

-- ---- additions that were appended are absent

none_added : (s' : List Resolved) (es : List (Addition AbstractValue)) → present_additions es ≡ 0 → Additions s' lenient es 0 (zeros (length es)) []
none_added s' [] e = no_addition
none_added s' (alone (missing c) ∷ es) e = not_added (none_added s' es e)
none_added s' (alone (standing c v) ∷ es) e = absurd (omega (arith, e))
none_added s' (bracketed ms ∷ es) e = by (any_present ms) refl e (λ f. none_added s' es f)
  where
    by : (b : Bool) → any_present ms ≡ b → cond b (suc (present_additions es)) (present_additions es) ≡ 0 → (present_additions es ≡ 0 → Additions s' lenient es 0 (zeros (length es)) []) → Additions s' lenient (bracketed ms ∷ es) 0 (false ∷ zeros (length es)) []
    by true f g r = absurd (omega (arith, g))
    by false f g r = no_group f (r g)

none_more : {V : OfValues} {C : Component → Component → Type 0} {ds es bs : List (Addition AbstractValue)} {k : ℕ} → AdditionsMatched C V ds es bs k → es ≡ [] → length bs ≡ 0
none_more (only_more e) f = ap length f
none_more (both_alone m r e) f = absurd (let g = ap length f in omega (arith, g))
none_more (both_bracketed m r e) f = absurd (let g = ap length f in omega (arith, g))

-- ---- values

module _ (laws : Laws) (s s' : List Resolved) (schema : IsSchema s) (schema' : IsSchema s') where
  mutual
    pub newer : {t t' n m : ℕ} {v : AbstractValue} {b : Bits} → Later s t s' t' → HasType s' t' → EncodesPer s lenient t v n b → ValueIn s m t v → n ≡ 0 → EncodesPer s' lenient t' (lifted s' t' v) 0 b
    newer {t} {t'} {v = v} l h (says i a) (value_in {n = m} i' x) z =
        let j = is_there h in
        says j (holds_newer t' (members_are j) (later_members l i j) (later_here l i j).kind a (subst (λ q. ValueOf s m q v) (same_kind i' i) x) (schema.sound _ _ _ i) (schema'.sound _ _ _ j) z)

    holds_newer : {k k' : Kind} {n m : ℕ} {v : AbstractValue} {b : Bits} (t' : ℕ) → members_of s' t' ≡ types_in k' → LaterMembers s s' (types_in k) (types_in k') → IsLaterKind s k k' → EncodesKindPer s lenient k v n b → ValueOf s m k v → IsSound s k → IsSound s' k' → n ≡ 0 → EncodesKindPer s' lenient k' (lifted s' t' v) 0 b
    holds_newer t' q ms kind (leaf a) x sound sound' z = leaf_newer s' t' kind a
    holds_newer t' q ms (later_sequence {e = e} {cs = cs} {ds = ds} a) (sequence {ws = vs} b mb ad ex) (of_sequence x g) sound sound' z =
        let side = lined_of cs ds a.front.none_dropped a.front.projected a.appended a.groups a.whole ms sound.types sound'.types sound'.defaults in
        let own = beside_widened s s' side b in
        let p = parts (listed_first sound') side (wide_sides s s' side x) b own.1 in
        let c = p.count in
        let root = members_newer p.root mb (omega (arith, z)) in
        let more = additions_newer p.added ad (omega (arith, z)) (omega (arith, c)) in
        let all = extended_newer (length p.more) ex (λ f. none_more p.added (ap additions (none_after sound' f own.1))) (omega (arith, z)) in
        holds_at (ap (λ o. fields (lifted_row s' o vs)) (sym q)) refl (counted_at (omega arith) (sequence own.1 root more all))
    holds_newer t' q ms (later_set {e = e} {cs = cs} {ds = ds} a) (set {ws = vs} b mb ad ex) (of_set x g) sound sound' z =
        let side = lined_of cs ds a.front.none_dropped a.front.projected a.appended a.groups a.whole ms sound.0.types sound'.0.types sound'.0.defaults in
        let own = beside_widened s s' side b in
        let p = parts (listed_first sound'.0) side (wide_sides s s' side x) b own.1 in
        let c = p.count in
        let root = members_newer (canonical_matched s s' aligned_tag p.root) mb (omega (arith, z)) in
        let more = additions_newer p.added ad (omega (arith, z)) (omega (arith, c)) in
        let all = extended_newer (length p.more) ex (λ f. none_more p.added (ap additions (none_after sound'.0 f own.1))) (omega (arith, z)) in
        holds_at (ap (λ o. fields (lifted_row s' o vs)) (sym q)) refl (counted_at (omega arith) (set own.1 root more all))
    holds_newer t' q ms (later_sequence_of {u = u} {v = u'} ls) (sequence_of {ws = vs} {xs = xs} {b = b} es a) (of_sequence_of x g) sound sound' z =
        holds_at (ap (λ o. list (lifted_elements s' o vs)) (sym (element_at s' t' u' q))) refl
        (sequence_of (elements_newer (ms 0 u u' refl refl) (type_there s' u' sound'.type) es x z) (subst (λ o. Sized o xs b) ls.visible a))
    holds_newer t' q ms (later_set_of {u = u} {v = u'} ls) (set_of {ws = vs} {xs = xs} {b = b} es asc a) (of_set_of x g) sound sound' z =
        holds_at (ap (λ o. list (lifted_elements s' o vs)) (sym (element_at s' t' u' q))) refl
        (set_of (elements_newer (ms 0 u u' refl refl) (type_there s' u' sound'.type) es x z) asc (subst (λ o. Sized o xs b) ls.visible a))
    holds_newer {m = m} t' q ms (later_choice {e = e} {root = root} {others = others} {more = more} {all = all} names front) (choice {i = i} {a = a} {w = v} {x = bits} g d) (of_choice h x) sound sound' z =
        let here = at_front root more i g in
        let b = other_choice {s' = s'} root more others all i names front.none_dropped sound'.types here in
        let one = mapped (λ o. o.type) (root ++ more) i here in
        let other = mapped (λ o. o.type) (others ++ all) i b.at in
        let at = member_at s' t' i b.alternative.type (ap (λ o. slice_get o i) q ∙ other) in
        let many = roots_same root others names in
        let front_at = in_front_at others all i (let k = within root i g in omega (arith, k, many)) b.at in
        let r = newer (ms i a.type b.alternative.type one other) b.type d (subst (λ o. ValueIn s m o v) (same_choice (root ++ more) i h here) x) z in
        let ranks = ranks_same s s' root more others all ms sound.types sound'.types i many g front_at in
        holds_at (ap (λ o. alternative i (lifted s' o v)) (sym at))
        (sym (ap (λ o. root_bit e ++ (place_bits o (canonical_place s root a.type) ++ bits)) many ∙ ap (λ o. root_bit e ++ (place_bits (length others) o ++ bits)) ranks))
        (choice front_at r)
    holds_newer {m = m} t' q ms (later_choice {root = root} {others = others} {more = more} {all = all} names front) (added_choice {i = i} {a = a} {w = v} j f g lt d o) (of_choice h x) sound sound' z =
        let here = at_back root more i j f ∙ g in
        let b = other_choice {s' = s'} root more others all i names front.none_dropped sound'.types here in
        let one = mapped (λ o. o.type) (root ++ more) i here in
        let other = mapped (λ o. o.type) (others ++ all) i b.at in
        let at = member_at s' t' i b.alternative.type (ap (λ o. slice_get o i) q ∙ other) in
        let many = roots_same root others names in
        let place : i ≡ length others + j = omega (arith, f, many) in
        let r = newer (ms i a.type b.alternative.type one other) b.type d (subst (λ o. ValueIn s m o v) (same_choice (root ++ more) i h here) x) z in
        holds_at (ap (λ o. alternative i (lifted s' o v)) (sym at)) refl
        (added_choice j place (sym (at_back others all i j place) ∙ b.at) lt r o)
    holds_newer t' q ms kind (sequence b mb ad ex) (of_leaf f) sound sound' z = elim f [ ]
    holds_newer t' q ms kind (set b mb ad ex) (of_leaf f) sound sound' z = elim f [ ]
    holds_newer t' q ms kind (sequence_of es a) (of_leaf f) sound sound' z = elim f [ ]
    holds_newer t' q ms kind (set_of es asc a) (of_leaf f) sound sound' z = elim f [ ]
    holds_newer t' q ms kind (choice g d) (of_leaf f) sound sound' z = elim f [ ]
    holds_newer t' q ms kind (added_choice j e g l d o) (of_leaf f) sound sound' z = elim f [ ]

    members_newer : {ms ns : List (Member AbstractValue)} {n k : ℕ} {p b : Bits} → AllMatched (IsAligned s s') (Widens s s') ms ns k → MembersPer s lenient ms n p b → n ≡ 0 → MembersPer s' lenient ns 0 p b
    members_newer (none_matched e) no_member z = no_member
    members_newer (more_matched (both_missing al) r e) (is_missing f m) z = is_missing (sym (bit_same al.mark) ∙ f) (members_newer r m z)
    members_newer (more_matched (both_sides_present al v) r e) (must_be_present f a m) z =
        let one = says_at (sym v.same) (newer al.later al.after a v.value (omega (arith, z))) in
        members_at (omega arith) (must_be_present (sym (bit_same al.mark) ∙ f) one (members_newer r m (omega (arith, z))))
    members_newer (more_matched (both_sides_present {c = c} {d = d} al v) r e) (may_be_present f a none m) z =
        let one = says_at (sym v.same) (newer al.later al.after a v.value (omega (arith, z))) in
        members_at (omega arith) (may_be_present (sym (bit_same al.mark) ∙ f) one
        (λ k q. none (omega (arith, z)) (default_before laws s s' schema' c d al.later al.after al.mark v.value (subst (λ o. IsDefault s' d o) v.same q)))
        (members_newer r m (omega (arith, z))))

    additions_newer : {ds es bs : List (Addition AbstractValue)} {n k : ℕ} {q d : Bits} → AdditionsMatched (IsAligned s s') (Widens s s') ds es bs k → Additions s lenient ds n q d → n ≡ 0 → present_additions bs ≡ 0 → Additions s' lenient es 0 (q ++ zeros (length bs)) d
    additions_newer (only_more {bs = bs} e) no_addition z none = none_added s' bs none
    additions_newer (both_alone (both_missing al) r e) (not_added a) z none = not_added (additions_newer r a z none)
    additions_newer (both_alone (both_sides_present al v) r e) (added x o a) z none =
        additions_at (omega arith) (added (says_at (sym v.same) (newer al.later al.after x v.value (omega (arith, z)))) o (additions_newer r a (omega (arith, z)) none))
    additions_newer (both_bracketed m r e) (group f x o a) z none =
        additions_at (omega arith) (group (sym (any_same m) ∙ f) (members_newer m x (omega (arith, z))) o (additions_newer r a (omega (arith, z)) none))
    additions_newer (both_bracketed m r e) (no_group f a) z none = no_group (sym (any_same m) ∙ f) (additions_newer r a z none)

    elements_newer : {u u' n m : ℕ} {vs : Row} {xs : Items} → Later s u s' u' → HasType s' u' → ElementsPer s lenient u vs n xs → AreElements s m u vs → n ≡ 0 → ElementsPer s' lenient u' (lifted_elements s' u' vs) 0 xs
    elements_newer l h no_items x z = no_items
    elements_newer l h (element a es) (one_element x xs) z =
        elements_at (omega arith) (element (newer l h a x (omega (arith, z))) (elements_newer l h es xs (omega (arith, z))))
