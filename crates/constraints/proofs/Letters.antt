-- Characters of texts.
use Rattle.std.proofs.Common.{◌≡◌, ◌⊎◌, ◌↔◌, inl, inr, ℕ, zero, suc, ◌+◌, ◌<◌, ◌≤◌, List, [], ◌∷◌, ◌++◌, length, take, refl, sym, ap, ◌∙◌, arith, subst, map, option_map, get_or}
use Rattle.std.specs.Str.{IsUtf8, chars}
use Rattle.std.specs.Prelude.{slice_get, Some}
use Rattle.std.proofs.lemmas.Option.{slice_get-map, slice_get_read}
use Rattle.std.proofs.Math.Utf8.{encode}
use Rattle.std.proofs.lemmas.Str.{chars_past_char, IsUtf8-past_char, chars-nil}
use Rattle.asn_base.specs.Names.{IsMember, is_first, is_later}
use Rattle.range_ends.specs.Characters.{IsCharacter, CharsTree, IsAmong, IsAmongAny, IsFit, AreFit}
use Rattle.constraints.specs.proving.Characters.{AreFrom, Adds}

empty : (xs : List ℕ) → length xs ≡ 0 → xs ≡ []
empty [] e = refl
empty (x ∷ xs) e = absurd (omega (arith, e))

pub one_character : (bs rest : List ℕ) (c d : ℕ) →
    IsUtf8 bs →
    bs ≡ encode c ++ rest →
    length rest ≡ 0 →
    d ≡ c →
    IsCharacter bs d
one_character bs rest c d u e n s = record {
  utf8 = u;
  one = chars_past_char bs rest c u e ∙ ap (λ r. c ∷ chars r) (empty rest n) ∙ ap (λ r. c ∷ r) chars-nil ∙ ap (λ z. z ∷ []) (sym s);
}

no_two : (c d e : ℕ) (xs : List ℕ) → c ∷ d ∷ xs ≡ e ∷ [] → ⊥
no_two c d e xs q = let n = ap length q in absurd (omega (arith, n))

pub two_characters : (bs mid rest : List ℕ) (c d : ℕ) →
    bs ≡ encode c ++ mid →
    mid ≡ encode d ++ rest →
    (e : ℕ) →
    IsCharacter bs e →
    ⊥
two_characters bs mid rest c d q r e i =
    let u = i.utf8 in
    let one = chars_past_char bs mid c u q in
    let two = chars_past_char mid rest d (IsUtf8-past_char bs mid c u q) r in
    no_two c d e (chars rest) (sym (one ∙ ap (λ t. c ∷ t) two) ∙ i.one)

pub no_character : (bs : List ℕ) → length bs ≡ 0 → (e : ℕ) → IsCharacter bs e → ⊥
no_character bs n e i =
    let q : chars bs ≡ [] = ap chars (empty bs n) ∙ chars-nil in
    let l = ap length (sym q ∙ i.one) in
    absurd (omega (arith, l))

-- ---- members

member_left : {A : Type 0} (x : A) (xs ys : List A) → IsMember x xs → IsMember x (xs ++ ys)
member_left x [] ys m = elim m [ ]
member_left x (y ∷ xs) ys is_first = is_first
member_left x (y ∷ xs) ys (is_later m) = is_later (member_left x xs ys m)

member_last : {A : Type 0} (x : A) (xs : List A) → IsMember x (xs ++ x ∷ [])
member_last x [] = is_first
member_last x (y ∷ xs) = is_later (member_last x xs)

or_later : {A : Type 0} (x y z : A) (xs : List A) → IsMember x xs ⊎ (x ≡ y) → IsMember x (z ∷ xs) ⊎ (x ≡ y)
or_later x y z xs (inl m) = inl (is_later m)
or_later x y z xs (inr e) = inr e

alone : {A : Type 0} (x y : A) → IsMember x (y ∷ []) → x ≡ y
alone x y is_first = refl
alone x y (is_later m) = elim m [ ]

member_either : {A : Type 0} (x y : A) (xs : List A) → IsMember x (xs ++ y ∷ []) → IsMember x xs ⊎ (x ≡ y)
member_either x y [] m = inr (alone x y m)
member_either x y (z ∷ xs) is_first = inl is_first
member_either x y (z ∷ xs) (is_later m) = or_later x y z xs (member_either x y xs m)

taken : {A : Type 0} (xs : List A) (i : ℕ) (x : A) → slice_get xs i ≡ Some x → take (i + 1) xs ≡ take i xs ++ x ∷ []
taken [] i x e = absurd cc
taken (y ∷ xs) zero x e = let q : y ≡ x = cc in rw q refl
taken (y ∷ xs) (suc i) x e =
    let q : suc i + 1 ≡ suc (i + 1) = omega arith in
    rw q (ap (λ t. y ∷ t) (taken xs i x e))

-- one octet of a text more
pub octet_more : (old mid new text : List ℕ) (i x : ℕ) →
    slice_get text i ≡ Some x →
    ((c : ℕ) → (IsMember c mid ↔ (IsMember c old ⊎ (IsMember c (take i text) × (c < 128))))) →
    ((c : ℕ) → (IsMember c new ↔ (IsMember c mid ⊎ (((x ≤ c) × (c ≤ x)) × (c < 128))))) →
    (c : ℕ) → (IsMember c new ↔ (IsMember c old ⊎ (IsMember c (take (i + 1) text) × (c < 128))))
octet_more old mid new text i x e h n c =
    subst (λ t. IsMember c new ↔ (IsMember c old ⊎ (IsMember c t × (c < 128)))) (sym (taken text i x e))
    (λ m. forth ((n c).0 m), λ m. (n c).1 (back m))
  where
    forth_mid : IsMember c old ⊎ (IsMember c (take i text) × (c < 128)) →
        IsMember c old ⊎ (IsMember c (take i text ++ x ∷ []) × (c < 128))
    forth_mid (inl m) = inl m
    forth_mid (inr m) = inr (member_left c (take i text) (x ∷ []) m.0, m.1)

    forth : IsMember c mid ⊎ (((x ≤ c) × (c ≤ x)) × (c < 128)) →
        IsMember c old ⊎ (IsMember c (take i text ++ x ∷ []) × (c < 128))
    forth (inl m) = forth_mid ((h c).0 m)
    forth (inr m) =
        let q : x ≡ c = omega (arith, m.0.0, m.0.1) in
        inr (subst (λ z. IsMember c (take i text ++ z ∷ [])) (sym q) (member_last c (take i text)), m.1)

    back_text : IsMember c (take i text) ⊎ (c ≡ x) → c < 128 → IsMember c mid ⊎ (((x ≤ c) × (c ≤ x)) × (c < 128))
    back_text (inl m) l = inl ((h c).1 (inr (m, l)))
    back_text (inr q) l = inr ((omega (arith, q), omega (arith, q)), l)

    back : IsMember c old ⊎ (IsMember c (take i text ++ x ∷ []) × (c < 128)) →
        IsMember c mid ⊎ (((x ≤ c) × (c ≤ x)) × (c < 128))
    back (inl m) = inl ((h c).1 (inl m))
    back (inr m) = back_text (member_either c x (take i text) m.0) m.1

-- ---- ranges

same_code : (text : List ℕ) (a b : ℕ) → IsCharacter text a → IsCharacter text b → a ≡ b
same_code text a b i j = let e : a ∷ [] ≡ b ∷ [] = sym i.one ∙ j.one in cc

pub range_adds : (first last old new : List ℕ) (a b : ℕ) →
    AreFrom first last a b →
    ((c : ℕ) → (IsMember c new ↔ (IsMember c old ⊎ (((a ≤ c) × (c ≤ b)) × (c < 128))))) →
    Adds (first, Some last) old new
range_adds first last old new a b f n = record {
  fit = record { from = a; to = b; starts = f.starts; ends = f.ends; order = f.order };
  members = λ c. (λ m. forth c ((n c).0 m), λ m. (n c).1 (back c m));
}
  where
    forth : (c : ℕ) → IsMember c old ⊎ (((a ≤ c) × (c ≤ b)) × (c < 128)) → IsMember c old ⊎ (IsAmong (first, Some last) c × (c < 128))
    forth c (inl m) = inl m
    forth c (inr m) = inr (record { from = a; to = b; starts = f.starts; ends = f.ends; above = m.0.0; below = m.0.1 }, m.1)

    back : (c : ℕ) → IsMember c old ⊎ (IsAmong (first, Some last) c × (c < 128)) → IsMember c old ⊎ (((a ≤ c) × (c ≤ b)) × (c < 128))
    back c (inl m) = inl m
    back c (inr m) =
        let p = same_code first m.0.from a m.0.starts f.starts in
        let q = same_code last m.0.to b m.0.ends f.ends in
        inr ((omega (arith, p, m.0.above), omega (arith, q, m.0.below)), m.1)

-- ---- many texts and ranges

-- the first i are fit, and these are the codes of their characters
pub record AreAdded (xs : List CharsTree) (codes : List ℕ) : Type 0 where
  pub fit : AreFit xs
  pub members : (c : ℕ) → (IsMember c codes ↔ (IsAmongAny xs c × (c < 128)))

fit_more : (xs : List CharsTree) (x : CharsTree) → AreFit xs → IsFit x → AreFit (xs ++ x ∷ [])
fit_more [] x a f = (f, tt)
fit_more (y ∷ xs) x a f = (a.0, fit_more xs x a.1 f)

among_left : (xs : List CharsTree) (x : CharsTree) (c : ℕ) → IsAmongAny xs c → IsAmongAny (xs ++ x ∷ []) c
among_left [] x c i = absurd i
among_left (y ∷ xs) x c (inl i) = inl i
among_left (y ∷ xs) x c (inr i) = inr (among_left xs x c i)

among_right : (xs : List CharsTree) (x : CharsTree) (c : ℕ) → IsAmong x c → IsAmongAny (xs ++ x ∷ []) c
among_right [] x c i = inl i
among_right (y ∷ xs) x c i = inr (among_right xs x c i)

among_or : (x y : CharsTree) (xs : List CharsTree) (c : ℕ) → IsAmongAny xs c ⊎ IsAmong x c → IsAmongAny (y ∷ xs) c ⊎ IsAmong x c
among_or x y xs c (inl i) = inl (inr i)
among_or x y xs c (inr i) = inr i

among_either : (xs : List CharsTree) (x : CharsTree) (c : ℕ) → IsAmongAny (xs ++ x ∷ []) c → IsAmongAny xs c ⊎ IsAmong x c
among_either [] x c (inl i) = inr i
among_either [] x c (inr i) = absurd i
among_either (y ∷ xs) x c (inl i) = inl (inl i)
among_either (y ∷ xs) x c (inr i) = among_or x y xs c (among_either xs x c i)

pub added_more : (xs : List CharsTree) (i : ℕ) (x : CharsTree) (old new : List ℕ) →
    slice_get xs i ≡ Some x →
    AreAdded (take i xs) old →
    Adds x old new →
    AreAdded (take (i + 1) xs) new
added_more xs i x old new e a d = subst (λ ys. AreAdded ys new) (sym (taken xs i x e)) (record {
  fit = fit_more (take i xs) x a.fit d.fit;
  members = λ c. (λ m. forth c ((d.members c).0 m), λ m. (d.members c).1 (back c (among_either (take i xs) x c m.0) m.1));
})
  where
    forth : (c : ℕ) → IsMember c old ⊎ (IsAmong x c × (c < 128)) → IsAmongAny (take i xs ++ x ∷ []) c × (c < 128)
    forth c (inl m) = let n = (a.members c).0 m in (among_left (take i xs) x c n.0, n.1)
    forth c (inr m) = (among_right (take i xs) x c m.0, m.1)

    back : (c : ℕ) → IsAmongAny (take i xs) c ⊎ IsAmong x c → c < 128 → IsMember c old ⊎ (IsAmong x c × (c < 128))
    back c (inl m) l = inl ((a.members c).1 (m, l))
    back c (inr m) l = inr (m, l)

pub none_added : AreAdded [] []
none_added = record { fit = tt; members = λ c. (λ m. elim m [ ], λ m. absurd m.0) }

pub seen_here : {A B : Type 0} (f : A → B) (xs : List A) (i : ℕ) (x : A) →
    i < length xs →
    x ≡ get_or xs i x →
    slice_get (map f xs) i ≡ Some (f x)
seen_here f xs i x l q = slice_get-map f xs i ∙ ap (option_map f) (slice_get_read xs (length xs) i x refl l q)
