-- Lists that are gone through from the front, what is gone through being kept in a list or in a set.
use Rattle.std.proofs.Common.{◌≡◌, inl, inr, ℕ, ◌+◌, ◌<◌, ◌≤◌, ◌++◌, List, [], ◌∷◌, length, map, take, drop, get_or, Some, refl, sym, subst, ap, ◌∙◌, arith}
use Rattle.std.specs.Prelude.{slice_get}
use Rattle.std.proofs.lemmas.List.{length-map, take-append-drop, take_all, take_more}
use Rattle.std.proofs.lemmas.Option.{slice_get_within, get_or_from_slice_get}
use Rattle.names.specs.Modules.{OccursIn, OccursTwice, AreDifferent}
use Rattle.names.specs.proving.Distinct.{distinct_more, distinct_none, drop_at, item_at, occurs_either, occurs_left, occurs_map, occurs_once, occurs_right, twice_across}
use Rattle.type_table.specs.proving.Sets.{Puts, IsSetOf}

-- what is seen of this turn's item
pub seen_at : {X Y A : Type 0} (f : Y → A) (g : X → Y) (xs : List X) (i : ℕ) (x : X) → i < length xs →
    x ≡ get_or xs i x → slice_get (map f (map g xs)) i ≡ Some (f (g x))
seen_at f g xs i x l e = occurs_map f (map g xs) i (g x) (item_at g xs i x l e)

pub seen_long : {X Y A : Type 0} (f : Y → A) (g : X → Y) (xs : List X) (i : ℕ) → length xs ≤ i →
    length (map f (map g xs)) ≤ i
seen_long f g xs i l = omega (arith, l, length-map (map g xs) f, length-map xs g)

module _ {A : Type 0} (zs : List A) (i : ℕ) (x : A) (e : slice_get zs i ≡ Some x) where
  within : i < length zs
  within = slice_get_within zs i x e

  read : x ≡ get_or zs i x
  read = sym (get_or_from_slice_get zs i x x e)

  pub front_more : take (i + 1) zs ≡ take i zs ++ x ∷ []
  front_more = take_more zs i x within ∙ ap (λ y. take i zs ++ y ∷ []) (sym read)

  -- an element that is also before its place is there twice
  pub front_twice : OccursIn (take i zs) x → OccursTwice zs x
  front_twice s =
      let around : take i zs ++ x ∷ drop (i + 1) zs ≡ zs = ap (λ r. take i zs ++ r) (sym (drop_at zs i x within read)) ∙ take-append-drop i zs in
      subst (λ y. OccursTwice y x) around (twice_across (take i zs) (x ∷ drop (i + 1) zs) x s (0, refl))

  -- an element that isn't there yet
  pub front_distinct : AreDifferent (take i zs) → (OccursIn (take i zs) x → ⊥) → AreDifferent (take (i + 1) zs)
  front_distinct d fresh = subst AreDifferent (sym front_more) (distinct_more (take i zs) x d fresh)

set_more : {A : Type 0} (old new ys : List A) (z : A) → IsSetOf old ys → Puts old new z → IsSetOf new (ys ++ z ∷ [])
set_more old new ys z h put y = (
  λ s. elim ((put y).0 s) [ inl a ↦ occurs_left ys (z ∷ []) y ((h y).0 a) | inr q ↦ occurs_right ys (z ∷ []) y (0, ap Some q) ],
  λ s. elim (occurs_either ys (z ∷ []) y s) [ inl a ↦ (put y).1 (inl ((h y).1 a)) | inr b ↦ (put y).1 (inr (occurs_once z y b)) ],
)

-- the set of those that come first, and this one
pub front_set : {A : Type 0} (zs : List A) (i : ℕ) (x : A) → slice_get zs i ≡ Some x → (old new : List A) →
    IsSetOf old (take i zs) → Puts old new x → IsSetOf new (take (i + 1) zs)
front_set zs i x e old new h put = subst (IsSetOf new) (sym (front_more zs i x e)) (set_more old new (take i zs) x h put)

-- ---- in a list

-- the first i of these names are gone through, and no two are alike
pub record Kept {A : Type 0} (zs done : List A) (i : ℕ) : Type 0 where
  pub same : done ≡ take i zs
  pub apart : AreDifferent (take i zs)

pub kept_start : {A : Type 0} (zs done : List A) → done ≡ [] → Kept zs done 0
kept_start zs done e = record { same = e; apart = distinct_none }

pub kept_more : {A : Type 0} (zs done new : List A) (i : ℕ) (x : A) → slice_get zs i ≡ Some x → Kept zs done i →
    new ≡ done ++ x ∷ [] → (OccursIn done x → ⊥) → Kept zs new (i + 1)
kept_more zs done new i x e k n fresh = record {
  same = n ∙ ap (λ d. d ++ x ∷ []) k.same ∙ sym (front_more zs i x e);
  apart = front_distinct zs i x e k.apart (λ s. fresh (subst (λ d. OccursIn d x) (sym k.same) s));
}

pub kept_twice : {A : Type 0} (zs done : List A) (i : ℕ) (x : A) → slice_get zs i ≡ Some x → Kept zs done i →
    OccursIn done x → OccursTwice zs x
kept_twice zs done i x e k s = front_twice zs i x e (subst (λ d. OccursIn d x) k.same s)

pub kept_all : {A : Type 0} (zs done : List A) (i : ℕ) → length zs ≤ i → Kept zs done i → (done ≡ zs) × AreDifferent zs
kept_all zs done i l k = (k.same ∙ take_all i zs l, subst AreDifferent (take_all i zs l) k.apart)

-- ---- in a set

pub record KeptIn {A : Type 0} (zs keys : List A) (i : ℕ) : Type 0 where
  pub same : IsSetOf keys (take i zs)
  pub apart : AreDifferent (take i zs)

pub kept_in_start : {A : Type 0} (zs keys : List A) → keys ≡ [] → KeptIn zs keys 0
kept_in_start zs keys e = record { same = λ y. (subst (λ l. OccursIn l y) e, subst (λ l. OccursIn l y) (sym e)); apart = distinct_none }

pub kept_in_more : {A : Type 0} (zs keys new : List A) (i : ℕ) (x : A) → slice_get zs i ≡ Some x →
    KeptIn zs keys i → Puts keys new x → (OccursIn keys x → ⊥) → KeptIn zs new (i + 1)
kept_in_more zs keys new i x e k put fresh = record {
  same = front_set zs i x e keys new k.same put;
  apart = front_distinct zs i x e k.apart (λ s. fresh ((k.same x).1 s));
}

pub kept_in_twice : {A : Type 0} (zs keys : List A) (i : ℕ) (x : A) → slice_get zs i ≡ Some x → KeptIn zs keys i →
    OccursIn keys x → OccursTwice zs x
kept_in_twice zs keys i x e k s = front_twice zs i x e ((k.same x).0 s)

pub kept_in_all : {A : Type 0} (zs keys : List A) (i : ℕ) → length zs ≤ i → KeptIn zs keys i → AreDifferent zs
kept_in_all zs keys i l k = subst AreDifferent (take_all i zs l) k.apart
