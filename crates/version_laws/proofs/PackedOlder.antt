-- Packed bits of a value of a later version are bits of what the earlier type keeps of it.
use Rattle.std.proofs.Common.{arith, ◌≡◌, ℕ, suc, ◌+◌, ◌≤◌, Bool, true, false, cond, List, [], ◌∷◌, ◌++◌, length, length-append, replicate, refl, sym, ap, subst, ◌∙◌, append_assoc}
use Rattle.std.specs.Prelude.{slice_get}
use Rattle.asn_base.specs.Abstract.{AbstractValue, fields, list, alternative, Row}
use Rattle.asn_base.specs.Types.{Kind, Component, Resolved}
use Rattle.asn_base.specs.Typed.{ValueIn, value_in, ValueOf, of_leaf, of_sequence, of_set, of_sequence_of, of_set_of, of_choice, AreComponents, component_absent, component_present, AreElements, one_element}
use Rattle.asn_base.specs.Same.{Alike}
use Rattle.asn_base.specs.Schemas.{IsSchema, IsSound, components, types_in}
use Rattle.encodings.specs.Encoding.{IsDefault}
use Rattle.later_versions.specs.Projected.{members_of, member_of, projected, projected_row, projected_elements}
use Rattle.later_versions.specs.Later.{IsLaterKind, later_sequence, later_set, later_sequence_of, later_set_of, later_choice, Later}
use Rattle.packed_encodings.specs.Lengths.{Bits, Items, Sized}
use Rattle.packed_encodings.specs.Leaves.{place_bits, root_bit}
use Rattle.packed_encodings.specs.Orders.{canonical_place, Member, Addition, additions}
use Rattle.packed_encodings.specs.Padding.{Padded, padded_none, padded, UnknownAdditions, no_bit, clear_bit, set_bit, open_type}
use Rattle.packed_encodings.specs.Packing.{lenient, EncodesPer, says, EncodesKindPer, leaf, sequence, set, sequence_of, set_of, choice, added_choice, MembersPer, no_member, must_be_present, may_be_present, is_missing, Additions, no_addition, added, not_added, group, no_group, ElementsPer, no_element as no_items, element}
use Rattle.version_laws.specs.LeftOut.{components_of, members_in, present_additions, left_out_packed, left_out_of_components, left_out_of_items}
use Rattle.version_laws.specs.Lifted.{lifted}
use Rattle.version_laws.proofs.Beside.{later_here, members_are, later_members, LaterMembers, types}
use Rattle.version_laws.proofs.Apart.{mapped, within}
use Rattle.version_laws.proofs.Places.{element_at, member_at, kept_none}
use Rattle.version_laws.proofs.Alikes.{Laws}
use Rattle.version_laws.proofs.Back.{same_kind, again}
use Rattle.version_laws.proofs.Newer.{LaterDefault, later_default}
use Rattle.version_laws.proofs.NewerAlike.{same_choice, alike_widened}
use Rattle.version_laws.proofs.PackedPairs.{OfValues, both_missing, both_sides_present, AllMatched, none_matched, more_matched, AdditionsMatched, only_more, both_alone, both_bracketed, canonical_matched, any_same, none_there}
use Rattle.version_laws.proofs.PackedBits.{extended_older}
use Rattle.version_laws.proofs.PackedSides.{IsAligned, aligned_tag, bit_same, Lined, lined_end, lined, lined_of, listed_first, Sides, side_end, side_absent, side_present, beside_row, parts}
use Rattle.version_laws.proofs.PackedCounts.{components_are, zero_both}
use Rattle.version_laws.proofs.PackedLeaves.{leaf_older, at_front, in_front_at, at_back, roots_same, ranks_same}

-- the first value is what is kept of the second one
pub record IsKept (s s' : List Resolved) (c d : Component) (v w : AbstractValue) (k : ℕ) : Type 0 where
  pub same : v ≡ projected s c.type w
  pub count : k ≡ left_out_packed s c.type s' d.type w
  pub levels : ℕ
  pub value : ValueIn s levels c.type (projected s c.type w)
  pub other_levels : ℕ
  pub other : ValueIn s' other_levels d.type w

abbrev Keeps : List Resolved → List Resolved → OfValues
Keeps s s' = λ c d v w k. IsKept s s' c d v w k

-- ---- conversions

holds_at : {s : List Resolved} {k : Kind} {v w : AbstractValue} {i j : ℕ} {x y : Bits} → v ≡ w → i ≡ j → x ≡ y → EncodesKindPer s lenient k v i x → EncodesKindPer s lenient k w j y
holds_at {s} {k} {v} {w} {i} {j} {x} {y} e f g h = subst (λ q. EncodesKindPer s lenient k q j y) e (subst (λ q. EncodesKindPer s lenient k v q y) f (subst (λ q. EncodesKindPer s lenient k v i q) g h))

says_at : {s : List Resolved} {t i j : ℕ} {v w : AbstractValue} {x : Bits} → v ≡ w → i ≡ j → EncodesPer s lenient t v i x → EncodesPer s lenient t w j x
says_at {s} {t} {i} {j} {v} {w} {x} e f h = subst (λ q. EncodesPer s lenient t q j x) e (subst (λ q. EncodesPer s lenient t v q x) f h)

members_at : {s : List Resolved} {ms : List (Member AbstractValue)} {i j : ℕ} {p b : Bits} → i ≡ j → MembersPer s lenient ms i p b → MembersPer s lenient ms j p b
members_at {s} {ms} {i} {j} {p} {b} e h = subst (λ q. MembersPer s lenient ms q p b) e h

elements_at : {s : List Resolved} {u i j : ℕ} {ws : Row} {xs : Items} → i ≡ j → ElementsPer s lenient u ws i xs → ElementsPer s lenient u ws j xs
elements_at {s} {u} {i} {j} {ws} {xs} e h = subst (λ q. ElementsPer s lenient u ws q xs) e h

-- ---- additions that were appended

-- what bits fill has an octet
some_filled : {x : Bits} {o : List ℕ} → Padded x o → 1 ≤ length o
some_filled padded_none = omega arith
some_filled (padded {b = x} {o = []} n some few h e) = absurd (let a = ap length e in let l = length-append x (replicate n false) in omega (arith, a, l, some))
some_filled (padded {o = y ∷ o} n some few h e) = omega arith

unknown_rests : {s' : List Resolved} {n : ℕ} {es : List (Addition AbstractValue)} {q d : Bits} → Additions s' lenient es n q d → UnknownAdditions q (present_additions es) d
unknown_rests no_addition = no_bit
unknown_rests (added x (open_type f o) a) = set_bit (some_filled f) o (unknown_rests a)
unknown_rests (not_added a) = clear_bit (unknown_rests a)
unknown_rests (group {as' = es} {y = y} {q = q} {d = d} h m (open_type f o) a) =
    subst (λ b. UnknownAdditions (true ∷ q) (cond b (suc (present_additions es)) (present_additions es)) (y ++ d)) (sym h) (set_bit (some_filled f) o (unknown_rests a))
unknown_rests (no_group {as' = es} {q = q} {d = d} h a) =
    subst (λ b. UnknownAdditions (false ∷ q) (cond b (suc (present_additions es)) (present_additions es)) d) (sym h) (clear_bit (unknown_rests a))

-- the additions that the earlier type knows, and those that it lacks
pub record KnownAdditions (s : List Resolved) (ds bs : List (Addition AbstractValue)) (k : ℕ) (q d : Bits) : Type 0 where
  pub first_bits : Bits
  pub other_bits : Bits
  pub first : Bits
  pub others : Bits
  pub bits : q ≡ first_bits ++ other_bits
  pub parts : d ≡ first ++ others
  pub known : Additions s lenient ds k first_bits first
  pub unknown : UnknownAdditions other_bits (present_additions bs) others

additions_at : {s : List Resolved} {ds bs : List (Addition AbstractValue)} {j k : ℕ} {q d : Bits} → j ≡ k → KnownAdditions s ds bs j q d → KnownAdditions s ds bs k q d
additions_at {s} {ds} {bs} {j} {k} {q} {d} e h = subst (λ n. KnownAdditions s ds bs n q d) e h

-- one more addition in front
with_addition : {s : List Resolved} {ds ds' bs : List (Addition AbstractValue)} {b : Bool} {j k : ℕ} {q d : Bits} (y : Bits) → (r : KnownAdditions s ds bs j q d) → Additions s lenient ds' k (b ∷ r.first_bits) (y ++ r.first) → KnownAdditions s ds' bs k (b ∷ q) (y ++ d)
with_addition {b = b} y r a = record {
  first_bits = b ∷ r.first_bits;
  other_bits = r.other_bits;
  first = y ++ r.first;
  others = r.others;
  bits = ap (λ q. b ∷ q) r.bits;
  parts = ap (λ q. y ++ q) r.parts ∙ sym (append_assoc y r.first r.others);
  known = a;
  unknown = r.unknown;
}

with_none : {s : List Resolved} {ds ds' bs : List (Addition AbstractValue)} {j k : ℕ} {q d : Bits} → (r : KnownAdditions s ds bs j q d) → Additions s lenient ds' k (false ∷ r.first_bits) r.first → KnownAdditions s ds' bs k (false ∷ q) d
with_none r a = record {
  first_bits = false ∷ r.first_bits;
  other_bits = r.other_bits;
  first = r.first;
  others = r.others;
  bits = ap (λ q. false ∷ q) r.bits;
  parts = r.parts;
  known = a;
  unknown = r.unknown;
}

-- ---- rows

module _ (s s' : List Resolved) where
  kept_sides : {cs ds : List Component} {ws : Row} {m n : ℕ} → Lined s s' cs ds → AreComponents s' m ds ws → AreComponents s n cs (projected_row s (types cs) ws) → Sides s s' (Keeps s s') cs ds (projected_row s (types cs) ws) ws (left_out_of_components s (types cs) s' ds ws)
  kept_sides {ds = ds} {ws = ws} (lined_end a) y x =
      subst (λ q. Sides s s' (Keeps s s') [] ds q ws (present_additions (additions (members_in ds ws)))) (sym (kept_none s ws)) (side_end refl)
  kept_sides (lined al g j l) (component_absent my y) (component_absent mx x) = side_absent (kept_sides l y x)
  kept_sides {m = m} {n = n} (lined al g j l) (component_present y ys) (component_present x xs) =
      side_present (record { same = refl; count = refl; levels = n; value = x; other_levels = m; other = y }) (kept_sides l ys xs) refl

-- ---- values

module _ (laws : Laws) (s s' : List Resolved) (schema : IsSchema s) (schema' : IsSchema s') where
  -- where nothing is left out, what is kept is the DEFAULT only if the whole value is
  default_after : {n m : ℕ} {w : AbstractValue} (c d : Component) → IsAligned s s' c d → ValueIn s' m d.type w → ValueIn s n c.type (projected s c.type w) → left_out_packed s c.type s' d.type w ≡ 0 → IsDefault s c (projected s c.type w) → IsDefault s' d w
  default_after {n} {m} {w} c d al y x z q =
      let e : LaterDefault s c.type d.presence q.0 = later_default al.mark q.1 in
      let a = laws.joined s c.type (projected s c.type w) q.0 (projected s c.type e.value) q.2 e.same.are_alike in
      let x' = laws.levels s 64 n c.type (projected s c.type w) (projected s c.type e.value) a x e.same.second in
      let whole = again s s' al.later y x ((zero_both s s' c.type y).back z) in
      let default_whole = again s s' al.later (al.value e.value e.is).shaped x' e.none_out in
      let wide = alike_widened laws s s' schema' n c.type d.type (projected s c.type w) (projected s c.type e.value) al.later al.after x x' a in
      (e.value, e.is, subst (λ o. Alike s' d.type o e.value) whole (subst (λ o. Alike s' d.type (lifted s' d.type (projected s c.type w)) o) default_whole wide))

  mutual
    pub older : {t t' n m m' : ℕ} {w : AbstractValue} {b : Bits} → Later s t s' t' → EncodesPer s' lenient t' w n b → ValueIn s m t (projected s t w) → ValueIn s' m' t' w → n ≡ 0 → EncodesPer s lenient t (projected s t w) (left_out_packed s t s' t' w) b
    older {t} {t'} {w = w} l (says j h) (value_in i x) (value_in {n = m'} j' y) z =
        says i (holds_older t t' (members_are i) (members_are j) (components_are j) (later_members l i j) (later_here l i j).kind h x
        (subst (λ q. ValueOf s' m' q w) (same_kind j' j) y) (schema.sound _ _ _ i) (schema'.sound _ _ _ j) z)

    holds_older : {k k' : Kind} {n m m' : ℕ} {w : AbstractValue} {b : Bits} (t t' : ℕ) → members_of s t ≡ types_in k → members_of s' t' ≡ types_in k' → components_of s' t' ≡ components k' → LaterMembers s s' (types_in k) (types_in k') → IsLaterKind s k k' → EncodesKindPer s' lenient k' w n b → ValueOf s m k (projected s t w) → ValueOf s' m' k' w → IsSound s k → IsSound s' k' → n ≡ 0 → EncodesKindPer s lenient k (projected s t w) (left_out_packed s t s' t' w) b
    holds_older t t' q q' c ms kind (leaf a) x y sound sound' z = leaf_older s' t t' kind a x sound'
    holds_older {m = m} t t' q q' c ms (later_sequence {cs = cs} {ds = ds} a) (sequence {ws = ws} b mb ad ex) (of_sequence x g) (of_sequence y g') sound sound' z =
        let side = lined_of cs ds a.front.none_dropped a.front.projected a.appended a.groups a.whole ms sound.types sound'.types sound'.defaults in
        let row = subst (λ o. AreComponents s m cs (projected_row s o ws)) q x in
        let own = beside_row row in
        let p = parts (listed_first sound') side (kept_sides s s' side y row) own.1 b in
        let root = members_older p.root mb (omega (arith, z)) in
        let more = additions_older p.added ad (omega (arith, z)) in
        let all = extended_older more.first_bits more.other_bits more.first more.others (present_additions p.more) ex more.bits more.parts more.unknown (omega (arith, z)) in
        holds_at (ap (λ o. fields (projected_row s o ws)) (sym q)) (p.count ∙ ap (λ o. left_out_of_components s o s' ds ws) (sym q) ∙ ap (λ o. left_out_of_components s (members_of s t) s' o ws) (sym c)) refl
        (sequence own.1 root more.known all)
    holds_older {m = m} t t' q q' c ms (later_set {cs = cs} {ds = ds} a) (set {ws = ws} b mb ad ex) (of_set x g) (of_set y g') sound sound' z =
        let side = lined_of cs ds a.front.none_dropped a.front.projected a.appended a.groups a.whole ms sound.0.types sound'.0.types sound'.0.defaults in
        let row = subst (λ o. AreComponents s m cs (projected_row s o ws)) q x in
        let own = beside_row row in
        let p = parts (listed_first sound'.0) side (kept_sides s s' side y row) own.1 b in
        let root = members_older (canonical_matched s s' aligned_tag p.root) mb (omega (arith, z)) in
        let more = additions_older p.added ad (omega (arith, z)) in
        let all = extended_older more.first_bits more.other_bits more.first more.others (present_additions p.more) ex more.bits more.parts more.unknown (omega (arith, z)) in
        holds_at (ap (λ o. fields (projected_row s o ws)) (sym q)) (p.count ∙ ap (λ o. left_out_of_components s o s' ds ws) (sym q) ∙ ap (λ o. left_out_of_components s (members_of s t) s' o ws) (sym c)) refl
        (set own.1 root more.known all)
    holds_older {m = m} t t' q q' c ms (later_sequence_of {u = u} {v = u'} ls) (sequence_of {ws = ws} {xs = xs} {b = b} es a) (of_sequence_of x g) (of_sequence_of y g') sound sound' z =
        let at = element_at s t u q in
        let at' = element_at s' t' u' q' in
        let r = elements_older (ms 0 u u' refl refl) es (subst (λ o. AreElements s m u (projected_elements s o ws)) at x) y z in
        holds_at (ap (λ o. list (projected_elements s o ws)) (sym at)) (ap (λ o. left_out_of_items s o s' u' ws) (sym at) ∙ ap (λ o. left_out_of_items s (member_of s t 0) s' o ws) (sym at')) refl
        (sequence_of r (subst (λ o. Sized o xs b) (sym ls.visible) a))
    holds_older {m = m} t t' q q' c ms (later_set_of {u = u} {v = u'} ls) (set_of {ws = ws} {xs = xs} {b = b} es asc a) (of_set_of x g) (of_set_of y g') sound sound' z =
        let at = element_at s t u q in
        let at' = element_at s' t' u' q' in
        let r = elements_older (ms 0 u u' refl refl) es (subst (λ o. AreElements s m u (projected_elements s o ws)) at x) y z in
        holds_at (ap (λ o. list (projected_elements s o ws)) (sym at)) (ap (λ o. left_out_of_items s o s' u' ws) (sym at) ∙ ap (λ o. left_out_of_items s (member_of s t 0) s' o ws) (sym at')) refl
        (set_of r asc (subst (λ o. Sized o xs b) (sym ls.visible) a))
    holds_older {m = m} {m' = m'} t t' q q' c ms (later_choice {e = e} {root = root} {others = others} {more = more} {all = all} names front) (choice {i = i} {a = a'} {w = w} {x = bits} g' d) (of_choice {a = a} g x) (of_choice {a = b} h y) sound sound' z =
        let there = at_front others all i g' in
        let one = mapped (λ o. o.type) (root ++ more) i g in
        let other = mapped (λ o. o.type) (others ++ all) i there in
        let at = member_at s t i a.type (ap (λ o. slice_get o i) q ∙ one) in
        let at' = member_at s' t' i a'.type (ap (λ o. slice_get o i) q' ∙ other) in
        let many = roots_same root others names in
        let front_at = in_front_at root more i (let k = within others i g' in omega (arith, k, many)) g in
        let r = older (ms i a.type a'.type one other) d (subst (λ o. ValueIn s m a.type (projected s o w)) at x) (subst (λ o. ValueIn s' m' o w) (same_choice (others ++ all) i h there) y) z in
        let ranks = ranks_same s s' root more others all ms sound.types sound'.types i many front_at g' in
        holds_at (ap (λ o. alternative i (projected s o w)) (sym at)) (ap (λ o. left_out_packed s o s' a'.type w) (sym at) ∙ ap (λ o. left_out_packed s (member_of s t i) s' o w) (sym at'))
        (ap (λ o. root_bit e ++ (place_bits o (canonical_place s root a.type) ++ bits)) many ∙ ap (λ o. root_bit e ++ (place_bits (length others) o ++ bits)) ranks)
        (choice front_at r)
    holds_older {m = m} {m' = m'} t t' q q' c ms (later_choice {root = root} {others = others} {more = more} {all = all} names front) (added_choice {i = i} {a = a'} {w = w} j f g' lt d o) (of_choice {a = a} g x) (of_choice {a = b} h y) sound sound' z =
        let there = at_back others all i j f ∙ g' in
        let one = mapped (λ o. o.type) (root ++ more) i g in
        let other = mapped (λ o. o.type) (others ++ all) i there in
        let at = member_at s t i a.type (ap (λ o. slice_get o i) q ∙ one) in
        let at' = member_at s' t' i a'.type (ap (λ o. slice_get o i) q' ∙ other) in
        let many = roots_same root others names in
        let place : i ≡ length root + j = omega (arith, f, many) in
        let r = older (ms i a.type a'.type one other) d (subst (λ o. ValueIn s m a.type (projected s o w)) at x) (subst (λ o. ValueIn s' m' o w) (same_choice (others ++ all) i h there) y) z in
        holds_at (ap (λ o. alternative i (projected s o w)) (sym at)) (ap (λ o. left_out_packed s o s' a'.type w) (sym at) ∙ ap (λ o. left_out_packed s (member_of s t i) s' o w) (sym at')) refl
        (added_choice j place (sym (at_back root more i j place) ∙ g) lt r o)
    holds_older t t' q q' c ms (later_sequence a) (sequence b mb ad ex) (of_leaf f) y sound sound' z = elim f [ ]
    holds_older t t' q q' c ms (later_set a) (set b mb ad ex) (of_leaf f) y sound sound' z = elim f [ ]
    holds_older t t' q q' c ms (later_sequence_of ls) (sequence_of es a) (of_leaf f) y sound sound' z = elim f [ ]
    holds_older t t' q q' c ms (later_set_of ls) (set_of es asc a) (of_leaf f) y sound sound' z = elim f [ ]
    holds_older t t' q q' c ms (later_choice names front) (choice g d) (of_leaf f) y sound sound' z = elim f [ ]
    holds_older t t' q q' c ms (later_choice names front) (added_choice j e g l d o) (of_leaf f) y sound sound' z = elim f [ ]
    holds_older t t' q q' c ms kind (sequence b mb ad ex) x (of_leaf f) sound sound' z = elim f [ ]
    holds_older t t' q q' c ms kind (set b mb ad ex) x (of_leaf f) sound sound' z = elim f [ ]
    holds_older t t' q q' c ms kind (sequence_of es a) x (of_leaf f) sound sound' z = elim f [ ]
    holds_older t t' q q' c ms kind (set_of es asc a) x (of_leaf f) sound sound' z = elim f [ ]
    holds_older t t' q q' c ms kind (choice g d) x (of_leaf f) sound sound' z = elim f [ ]
    holds_older t t' q q' c ms kind (added_choice j e g l d o) x (of_leaf f) sound sound' z = elim f [ ]

    members_older : {ms ns : List (Member AbstractValue)} {n k : ℕ} {p b : Bits} → AllMatched (IsAligned s s') (Keeps s s') ms ns k → MembersPer s' lenient ns n p b → n ≡ 0 → MembersPer s lenient ms k p b
    members_older (none_matched e) no_member z = members_at (sym e) no_member
    members_older (more_matched (both_missing al) r e) (is_missing f m) z =
        members_at (omega (arith, e)) (is_missing (bit_same al.mark ∙ f) (members_older r m z))
    members_older (more_matched (both_sides_present al v) r e) (must_be_present f a m) z =
        let one = says_at (sym v.same) (sym v.count) (older al.later a v.value v.other (omega (arith, z))) in
        members_at (sym e) (must_be_present (bit_same al.mark ∙ f) one (members_older r m (omega (arith, z))))
    members_older (more_matched (both_sides_present {c = c} {d = d} al v) r e) (may_be_present f a none m) z =
        let one = says_at (sym v.same) (sym v.count) (older al.later a v.value v.other (omega (arith, z))) in
        members_at (sym e) (may_be_present (bit_same al.mark ∙ f) one
        (λ k q. none (omega (arith, z)) (default_after c d al v.other v.value (sym v.count ∙ k) (subst (λ o. IsDefault s c o) v.same q)))
        (members_older r m (omega (arith, z))))

    additions_older : {ds es bs : List (Addition AbstractValue)} {n k : ℕ} {q d : Bits} → AdditionsMatched (IsAligned s s') (Keeps s s') ds es bs k → Additions s' lenient es n q d → n ≡ 0 → KnownAdditions s ds bs k q d
    additions_older {q = q} {d = d} (only_more e) a z = additions_at (sym e) (record {
      first_bits = [];
      other_bits = q;
      first = [];
      others = d;
      bits = refl;
      parts = refl;
      known = no_addition;
      unknown = unknown_rests a;
    })
    additions_older (both_alone (both_missing al) r e) (not_added a) z =
        let t = additions_older r a z in
        additions_at (omega (arith, e)) (with_none t (not_added t.known))
    additions_older (both_alone (both_sides_present al v) r e) (added {y = y} x o a) z =
        let t = additions_older r a (omega (arith, z)) in
        let one = says_at (sym v.same) (sym v.count) (older al.later x v.value v.other (omega (arith, z))) in
        additions_at (sym e) (with_addition y t (added one o t.known))
    additions_older (both_bracketed m r e) (group {y = y} f x o a) z =
        let t = additions_older r a (omega (arith, z)) in
        additions_at (sym e) (with_addition y t (group (any_same m ∙ f) (members_older m x (omega (arith, z))) o t.known))
    additions_older (both_bracketed m r e) (no_group f a) z =
        let t = additions_older r a z in
        let none = none_there m f in
        additions_at (omega (arith, e, none)) (with_none t (no_group (any_same m ∙ f) t.known))

    elements_older : {u u' n m m' : ℕ} {ws : Row} {xs : Items} → Later s u s' u' → ElementsPer s' lenient u' ws n xs → AreElements s m u (projected_elements s u ws) → AreElements s' m' u' ws → n ≡ 0 → ElementsPer s lenient u (projected_elements s u ws) (left_out_of_items s u s' u' ws) xs
    elements_older l no_items x y z = no_items
    elements_older l (element a es) (one_element x xs) (one_element y ys) z =
        element (older l a x y (omega (arith, z))) (elements_older l es xs ys (omega (arith, z)))
