-- Numbers in septets, and the first two of an OBJECT IDENTIFIER.
use Rattle.std.proofs.Common.{arith, ◌≡◌, ℕ, ◌+◌, ◌*◌, ◌/◌, ◌%◌, ◌^◌, ◌<◌, ◌≤◌, List, [], ◌∷◌, ◌++◌, length, refl, sym, ap, subst, ◌∙◌, append_assoc}
use Rattle.std.proofs.lemmas.List.{append-nil}
use Rattle.std.specs.Prelude.{flat_map, Option, Some, None}
use Rattle.std.specs.List.{AllByRecursion}
use Rattle.std.specs.Int.Digits.{digits_of}
use Rattle.asn_base.specs.Typed.{IsObjectIdentifier, arcs}
use Rattle.encodings.specs.Contents.{joined}
use Rattle.encodings.specs.Header.{septets}
use Rattle.primitive_reader.specs.Arcs.{Front, IsArcOf}
use Rattle.encodings.specs.proving.Marked.{marked, marked_is, septets_front}

never_empty : (n : ℕ) (x : List ℕ) → septets n ++ x ≡ [] → ⊥
never_empty n x e = by (digits_of 128 (n / 128))
    (ap (λ q. q ++ x) (sym (marked_is (digits_of 128 (n / 128)) (n % 128))) ∙ e)
  where
    by : (ds : List ℕ) → marked ds (n % 128) ++ x ≡ [] → ⊥
    by [] f = let l = ap length f in omega arith
    by (d ∷ ds) f = let l = ap length f in omega arith

-- some of the numbers were added, and octets of the others are left
pub record Adding (ns old new rest : List ℕ) : Type 0 where
  pub done : List ℕ
  pub left : List ℕ
  pub all : ns ≡ done ++ left
  pub small : AllByRecursion (λ n. n < 2 ^ 64) left
  pub spelled : rest ≡ flat_map septets left
  pub added : new ≡ old ++ done

pub adding_none : (ns old rest : List ℕ) → AllByRecursion (λ n. n < 2 ^ 64) ns → rest ≡ flat_map septets ns
    → Adding ns old old rest
adding_none ns old rest s e = record {
  done = [];
  left = ns;
  all = refl;
  small = s;
  spelled = e;
  added =
      sym (append-nil old);
}

empty : (x : List ℕ) → length x ≡ 0 → x ≡ []
empty [] f = refl
empty (y ∷ x) f = absurd (omega arith)

pub all_added : (ns old new rest : List ℕ) → length rest ≡ 0 → Adding ns old new rest → new ≡ old ++ ns
all_added ns old new rest e a = by a.left a.all (let l = ap length (sym a.spelled) in omega arith)
  where
    by : (left : List ℕ) → ns ≡ a.done ++ left → length (flat_map septets left) ≡ 0 → new ≡ old ++ ns
    by [] h f = a.added ∙ ap (λ q. old ++ q) (sym (append-nil a.done) ∙ sym h)
    by (n ∷ ns') h f = absurd (never_empty n (flat_map septets ns') (empty _ f))

-- the number at the front of octets that spell some numbers
pub record Decoding (n : ℕ) (ns following : List ℕ) (told : Option ℕ) : Type 0 where
  pub is_arc : IsArcOf told n
  pub left : List ℕ
  pub is : ns ≡ n ∷ left
  pub spelled : following ≡ flat_map septets left

pub first_told : (ns octets following : List ℕ) (told : Option ℕ) → octets ≡ flat_map septets ns
    → Front told following octets → (n : ℕ) × Decoding n ns following told
first_told [] octets following told e f = absurd (never_empty f.number following (sym f.whole ∙ e))
first_told (n ∷ ns) octets following told e f =
    let r = septets_front f.number n following (flat_map septets ns) (sym f.whole ∙ e) in
    (n, record { is_arc = subst (IsArcOf told) r.0 f.is_arc; left = ns; is = refl; spelled = r.1 })

some_is : (m n : ℕ) → IsArcOf (Some m) n → m ≡ n
some_is m n e = e

pub adding_more : {ns old new rest following : List ℕ} (m : ℕ) → Adding ns old new rest → Front (Some m) following rest
    → Adding ns old (new ++ m ∷ []) following
adding_more {ns} {old} {new} {rest} {following} m a f =
    let t = first_told a.left rest following (Some m) a.spelled f in
    let same : m ≡ t.0 = some_is m t.0 t.1.is_arc in
    record {
      done = a.done ++ m ∷ [];
      left = t.1.left;
      all = a.all ∙ ap (λ q. a.done ++ q) t.1.is ∙ ap (λ q. a.done ++ q ∷ t.1.left) (sym same)
          ∙ sym (append_assoc a.done (m ∷ []) t.1.left);
      small = (subst (AllByRecursion (λ n. n < 2 ^ 64)) t.1.is a.small).1;
      spelled = t.1.spelled;
      added = ap (λ q. q ++ m ∷ []) a.added ∙ append_assoc old a.done (m ∷ []);
    }

-- the number is below 2^64
pub small_more : {ns old new rest following : List ℕ} (m : ℕ) → Adding ns old new rest → Front (Some m) following rest
    → m < 2 ^ 64
small_more {ns} {old} {new} {rest} {following} m a f =
    let t = first_told a.left rest following (Some m) a.spelled f in
    subst (λ q. q < 2 ^ 64) (sym (some_is m t.0 t.1.is_arc)) (subst (AllByRecursion (λ n. n < 2 ^ 64)) t.1.is a.small).0

-- and none is greater than any
pub none_great : {ns old new rest following : List ℕ} → Adding ns old new rest → Front None following rest → ⊥
none_great {ns} {old} {new} {rest} {following} a f =
    let t = first_told a.left rest following None a.spelled f in
    let s : t.0 < 2 ^ 64 = (subst (AllByRecursion (λ n. n < 2 ^ 64)) t.1.is a.small).0 in
    let g : 2 ^ 64 + 80 ≤ t.0 = t.1.is_arc in
    omega arith

-- the number at the front is there
pub no_number : {ns old new rest : List ℕ} → 0 < length rest → Adding ns old new rest
    → ((n : ℕ) (r : List ℕ) → rest ≡ septets n ++ r → ⊥) → ⊥
no_number {rest = rest} some a none = by a.left a.spelled
  where
    by : (left : List ℕ) → rest ≡ flat_map septets left → ⊥
    by [] e = let l = ap length e in omega arith
    by (n ∷ ns') e = none n (flat_map septets ns') e

-- ---- OBJECT IDENTIFIER

pub record Parts (m : ℕ) (ns following : List ℕ) : Type 0 where
  pub first : ℕ
  pub second : ℕ
  pub others : List ℕ
  pub are : ns ≡ first ∷ second ∷ others
  pub is : m ≡ 40 * first + second
  pub at_most : first ≤ 2
  pub below_40 : first < 2 → second < 40
  pub small_second : second < 2 ^ 64
  pub small : AllByRecursion (λ n. n < 2 ^ 64) others
  pub spelled : following ≡ flat_map septets others
  pub below : m < 2 ^ 64 + 80

pub parts_of : {ns octets following : List ℕ} (m : ℕ) → IsObjectIdentifier ns → octets ≡ flat_map septets (joined ns)
    → Front (Some m) following octets → Parts m ns following
parts_of {octets = octets} {following = following} m (arcs {x = x} {y = y} {zs = zs} a b c d l) e f =
    let r = septets_front f.number (40 * x + y) following (flat_map septets zs) (sym f.whole ∙ e) in
    let same : m ≡ 40 * x + y = some_is m f.number f.is_arc ∙ r.0 in
    record {
      first = x;
      second = y;
      others = zs;
      are = refl;
      is = same;
      at_most = a;
      below_40 = b;
      small_second = c;
      small = d;
      spelled = r.1;
      below = omega arith;
    }

pub never_great : {ns octets following : List ℕ} → IsObjectIdentifier ns → octets ≡ flat_map septets (joined ns)
    → Front None following octets → ⊥
never_great {following = following} (arcs {x = x} {y = y} {zs = zs} a b c d l) e f =
    let r = septets_front f.number (40 * x + y) following (flat_map septets zs) (sym f.whole ∙ e) in
    let g : 2 ^ 64 + 80 ≤ f.number = f.is_arc in
    let s = r.0 in
    omega arith

pub never_none : {ns octets : List ℕ} → IsObjectIdentifier ns → octets ≡ flat_map septets (joined ns)
    → ((n : ℕ) (r : List ℕ) → octets ≡ septets n ++ r → ⊥) → ⊥
never_none (arcs {x = x} {y = y} {zs = zs} a b c d l) e none = none (40 * x + y) (flat_map septets zs) e
