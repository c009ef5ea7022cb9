-- The beginnings of members.
use Rattle.std.proofs.Common.{◌≡◌, ℕ, zero, suc, ◌+◌, ◌<◌, ◌≤◌, inl, inr, Bool, false, List, [], ◌∷◌, ◌++◌, length, map, drop, take, get_or, refl, sym, ap, subst, ◌∙◌, arith, append_assoc, append-nil, length-append}
use Rattle.std.specs.Prelude.{slice_index_or}
use Rattle.std.specs.List.{AllByRecursion}
use Rattle.std.specs.List.Sorted.{IsSortedBy, IsPermutation}
use Rattle.std.specs.Int.Digits.{AllBelowBase}
use Rattle.std.specs.Ordering.{is_lt}
use Rattle.std.proofs.lemmas.List.Elements.{All-from_recursion, recursion_from_All}
use Rattle.std.proofs.lemmas.List.Sorted.{All-permutation, IsPermutation-map}
use Rattle.der_layout.specs.declared.sort.Beginning.{Beginning}
use Rattle.der_layout.specs.declared.table.Member.{Member}
use Rattle.der_layout.specs.Octets.{order}
use Rattle.encodings.specs.Orders.{Ascending, ascending_none, ascending_one, ascending_more, AtMost}
use Rattle.codec_code.specs.Events.{by_octets, encodings_of}
use Rattle.der_layout.specs.Tables.{span, placed_of, Sorted}
use Rattle.der_layout.specs.proving.Words.{word, beginnings_of, member_at, octets_after}
use Rattle.der_layout.proofs.Ordered.{differs, at_most}
use Rattle.der_layout.proofs.Words.{word_more}

first_left : (o : List ℕ) (ms : List Member) (i k : ℕ) (m : Member) → i < length ms → m ≡ get_or ms i m
    → beginnings_of o (drop i ms) k ≡ record { word = word (span o m); place = k } ∷ beginnings_of o (drop (i + 1) ms) (k + 1)
first_left o [] i k m l e = absurd (omega (arith, l))
first_left o (x ∷ ms) zero k m l e =
    ap (λ q. record { word = word (span o q); place = k } ∷ beginnings_of o ms (suc k)) (sym e)
    ∙ ap (λ q. record { word = word (span o m); place = k } ∷ beginnings_of o ms q) (let z : suc k ≡ k + 1 = omega arith in z)
    ∙ ap (λ q. record { word = word (span o m); place = k } ∷ beginnings_of o (drop q (x ∷ ms)) (k + 1)) (let z : 1 ≡ zero + 1 = omega arith in z)
first_left o (x ∷ ms) (suc i) k m l e =
    first_left o ms i k m (omega (arith, l)) e
    ∙ ap (λ q. record { word = word (span o m); place = k } ∷ beginnings_of o (drop q (x ∷ ms)) (k + 1)) (let z : suc (i + 1) ≡ suc i + 1 = omega arith in z)

none_left : (o : List ℕ) (ms : List Member) (i k : ℕ) → length ms ≤ i → beginnings_of o (drop i ms) k ≡ []
none_left o [] zero k l = refl
none_left o [] (suc i) k l = refl
none_left o (m ∷ ms) zero k l = absurd (omega (arith, l))
none_left o (m ∷ ms) (suc i) k l = none_left o ms i k (omega (arith, l))

pub next_beginning : (o : List ℕ) (ms : List Member) (i w : ℕ) (m : Member) (x : List ℕ) (old news all : List Beginning) → i < length ms → m ≡ get_or ms i m
    → w ≡ word x → x ≡ span o m → news ≡ old ++ record { word = w; place = i } ∷ []
    → old ++ beginnings_of o (drop i ms) i ≡ all → news ++ beginnings_of o (drop (i + 1) ms) (i + 1) ≡ all
next_beginning o ms i w m x old news all l e f g n h =
    let rest = beginnings_of o (drop (i + 1) ms) (i + 1) in
    ap (λ q. q ++ rest) n ∙ append_assoc old (record { word = w; place = i } ∷ []) rest
    ∙ ap (λ q. old ++ record { word = q; place = i } ∷ rest) (f ∙ ap word g)
    ∙ ap (λ q. old ++ q) (sym (first_left o ms i i m l e)) ∙ h

pub whole_beginnings : (o : List ℕ) (ms : List Member) (i : ℕ) (old all : List Beginning) → length ms ≤ i → old ++ beginnings_of o (drop i ms) i ≡ all → old ≡ all
whole_beginnings o ms i old all l h = sym (append-nil old) ∙ ap (λ q. old ++ q) (sym (none_left o ms i i l)) ∙ h

-- ---- back to the members

at_length : (pre rest : List Member) (m d : Member) → slice_index_or (pre ++ m ∷ rest) (length pre) d ≡ m
at_length [] rest m d = refl
at_length (x ∷ pre) rest m d = at_length pre rest m d

one_more : (pre : List Member) (m : Member) → suc (length pre) ≡ length (pre ++ m ∷ [])
one_more pre m = let e = length-append pre (m ∷ []) in omega (arith, e)

back : (o : List ℕ) (all pre rest : List Member) → all ≡ pre ++ rest → map (λ b. member_at all b.place) (beginnings_of o rest (length pre)) ≡ rest
back o all pre [] e = refl
back o all pre (m ∷ rest) e =
    ap (λ q. q ∷ map (λ b. member_at all b.place) (beginnings_of o rest (suc (length pre)))) (ap (λ q. member_at q (length pre)) e ∙ at_length pre rest m _)
    ∙ ap (λ q. m ∷ map (λ b. member_at all b.place) (beginnings_of o rest q)) (one_more pre m)
    ∙ ap (λ q. m ∷ q) (back o all (pre ++ m ∷ []) rest (e ∙ sym (append_assoc pre (m ∷ []) rest)))

abbrev IsBeginning : List ℕ → List Member → Beginning → Type 0
IsBeginning o ms b = b.word ≡ word (span o (member_at ms b.place))

are : (o : List ℕ) (all pre rest : List Member) → all ≡ pre ++ rest → AllByRecursion (IsBeginning o all) (beginnings_of o rest (length pre))
are o all pre [] e = tt
are o all pre (m ∷ rest) e = (
  ap (λ q. word (span o q)) (sym (ap (λ q. member_at q (length pre)) e ∙ at_length pre rest m _)),
  subst (λ q. AllByRecursion (IsBeginning o all) (beginnings_of o rest q)) (sym (one_more pre m))
      (are o all (pre ++ m ∷ []) rest (e ∙ sym (append_assoc pre (m ∷ []) rest))),
)

-- ---- octets of spans

below_drop : (xs : List ℕ) (i : ℕ) → AllBelowBase 256 xs → AllBelowBase 256 (drop i xs)
below_drop xs zero h = h
below_drop [] (suc i) h = tt
below_drop (x ∷ xs) (suc i) h = below_drop xs i h.1

below_take : (xs : List ℕ) (i : ℕ) → AllBelowBase 256 xs → AllBelowBase 256 (take i xs)
below_take xs zero h = tt
below_take [] (suc i) h = tt
below_take (x ∷ xs) (suc i) h = (h.0, below_take xs i h.1)

below_span : (o : List ℕ) (m : Member) → AllBelowBase 256 o → AllBelowBase 256 (span o m)
below_span o m h = below_drop (take m.end o) m.start (below_take o m.end h)

-- ---- the order of beginnings

abbrev pub before_by_words : List ℕ → List Member → Beginning → Beginning → Bool
before_by_words o ms a b = is_lt (order (octets_after o ms a) (octets_after o ms b))

at_most_from : (o : List ℕ) (ms : List Member) (a b : Beginning) → AllBelowBase 256 o → IsBeginning o ms a → IsBeginning o ms b
    → before_by_words o ms b a ≡ false → AtMost (span o (member_at ms a.place)) (span o (member_at ms b.place))
at_most_from o ms a b h e f l =
    let x = span o (member_at ms a.place) in
    let y = span o (member_at ms b.place) in
    elim (differs b.word a.word (order y x) l) [
      | inl k ↦ at_most x y (ap is_lt (word_more y x (below_span o (member_at ms b.place) h) (below_span o (member_at ms a.place) h) (omega (arith, k, e, f))))
      | inr p ↦ at_most x y p.1
    ]

ascending : (o : List ℕ) (ms : List Member) (bs : List Beginning) → AllBelowBase 256 o → AllByRecursion (IsBeginning o ms) bs
    → IsSortedBy (before_by_words o ms) bs → Ascending AtMost (encodings_of (map (placed_of o) (map (λ b. member_at ms b.place) bs)))
ascending o ms [] h k s = ascending_none
ascending o ms (a ∷ []) h k s = ascending_one
ascending o ms (a ∷ b ∷ bs) h k s = ascending_more (at_most_from o ms a b h k.0 k.1.0 (s 0 a (omega arith) (omega arith)))
    (ascending o ms (b ∷ bs) h k.1 (λ i d l g.
    let e : suc i + 1 ≡ suc (i + 1) = omega arith in
    subst (λ q. before_by_words o ms (slice_index_or (a ∷ b ∷ bs) q d) (slice_index_or (b ∷ bs) i d) ≡ false) e (s (suc i) d (omega arith) (omega arith))))

pub sorted_members : (o : List ℕ) (ms ns : List Member) (bs cs : List Beginning) → AllBelowBase 256 o → bs ≡ beginnings_of o ms 0 → IsPermutation bs cs
    → IsSortedBy (before_by_words o ms) cs → ns ≡ map (λ b. member_at ms b.place) cs → Sorted by_octets o ms ns
sorted_members o ms ns bs cs h e p s f =
    let g : Beginning → Member = λ b. member_at ms b.place in
    let good : AllByRecursion (IsBeginning o ms) bs = subst (AllByRecursion (IsBeginning o ms)) (sym e) (are o ms [] ms refl) in
    let all = recursion_from_All (IsBeginning o ms) cs (All-permutation (IsBeginning o ms) bs cs p (All-from_recursion (IsBeginning o ms) bs good)) in
    let whole : map g bs ≡ ms = ap (map g) e ∙ back o ms [] ms refl in
    let moved : IsPermutation ms (map g cs) = subst (λ q. IsPermutation q (map g cs)) whole (IsPermutation-map g bs cs p) in
    record {
      same = subst (IsPermutation ms) (sym f) moved;
      in_order = subst (λ q. Ascending AtMost (encodings_of (map (placed_of o) q))) (sym f) (ascending o ms cs h all s);
    }
