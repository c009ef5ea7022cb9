-- Members that are looked up, one after the other, in a set of those before.
use Rattle.std.proofs.Common.{◌≡◌, ℕ, ◌+◌, Bool, true, false, cond, List, [], ◌∷◌, map, drop, refl, sym, subst, ap, ◌∙◌}
use Rattle.std.specs.Prelude.{◌↔◌, IsTrue, not}
use Rattle.std.specs.List.{list_any}
use Rattle.std.specs.Ordering.{is_eq, nat_cmp}
use Rattle.std.specs.Cmp.Lexicographic.{slice_cmp}
use Rattle.std.specs.declared.cmp.Ordering.{Ordering}
use Rattle.std.proofs.lemmas.Cmp.{tied_itself, nat_list_cmp_total}
use Rattle.asn_base.specs.Names.{IsMember, is_first, is_later, AreDistinct}
use Rattle.std.proofs.lemmas.Slice.Eq.{bytes_eq-Decides}
use Rattle.std.proofs.lemmas.Map.Text.{is_eq-slice_cmp}
use Rattle.asn_base.proofs.Leaves.{yes, no}

module _ {K A : Type 0} (f : K → A) (g : A → A → Ordering) where
  abbrev pub has : List K → K → Bool
  has keys x = list_any (λ k. is_eq (g (f x) (f k))) keys

  -- none of these is among the keys
  abbrev pub NoneIn : List K → List A → Type 0
  NoneIn keys xs = (x : K) → IsMember (f x) xs → has keys x ≡ false

  -- the whole differs exactly if what is left differs, and nothing of it is among the keys
  abbrev pub Kept : List K → List K → ℕ → Type 0
  Kept all keys i = AreDistinct (map f all) ↔ (AreDistinct (drop i (map f all)) × NoneIn keys (drop i (map f all)))

  pub kept_first : (all keys : List K) → keys ≡ [] → Kept all keys 0
  kept_first all keys e = (λ d. (d, λ x m. ap (λ q. has q x) e), λ p. p.0)

  member_or : {a b : A} {xs : List A} {P : Type 0} → IsMember a (b ∷ xs) → (a ≡ b → P) → (IsMember a xs → P) → P
  member_or is_first p q = p refl
  member_or (is_later m) p q = q m

  pub kept_next : (exact : (a b : A) → is_eq (g a b) ≡ true → a ≡ b) (itself : (a : A) → is_eq (g a a) ≡ true) (all old new : List K) (i : ℕ) (x : K)
      → drop i (map f all) ≡ f x ∷ drop (i + 1) (map f all)
      → has old x ≡ false
      → ((q : K) → has new q ≡ cond (is_eq (g (f x) (f q))) true (has old q))
      → Kept all old i
      → Kept all new (i + 1)
  kept_next exact itself all old new i x e h u k = (
    λ d. let p = opened e (k.0 d) in (p.0.1, λ y m. u y ∙ by_case (is_eq (g (f x) (f y))) (has old y) refl (λ t. p.0.0 (subst (λ q. IsMember q (drop (i + 1) (map f all))) (sym (exact (f x) (f y) t)) m)) (p.1 y (is_later m))),
    λ p. k.1 (closed e (
      ((λ m. let n = sym (p.1 x m) ∙ u x ∙ ap (λ b. cond b true (has old x)) (itself (f x)) in cc), p.0),
      λ y m. member_or m (λ q. ap (λ a. list_any (λ z. is_eq (g a (f z))) old) q ∙ h) (λ n. was (is_eq (g (f x) (f y))) (has old y) (sym (u y) ∙ p.1 y n)),
    )),
  )
    where
      opened : {xs : List A} → drop i (map f all) ≡ xs → AreDistinct (drop i (map f all)) × NoneIn old (drop i (map f all)) → AreDistinct xs × NoneIn old xs
      opened q a = subst (λ z. AreDistinct z × NoneIn old z) q a

      closed : {xs : List A} → drop i (map f all) ≡ xs → AreDistinct xs × NoneIn old xs → AreDistinct (drop i (map f all)) × NoneIn old (drop i (map f all))
      closed q a = subst (λ z. AreDistinct z × NoneIn old z) (sym q) a

      by_case : (b c : Bool) {r : Bool} → r ≡ b → (r ≡ true → ⊥) → c ≡ false → cond b true c ≡ false
      by_case true c q n z = absurd (n q)
      by_case false c q n z = z

      was : (b c : Bool) → cond b true c ≡ false → c ≡ false
      was true c q = absurd cc
      was false c q = q

  pub kept_last : (all keys : List K) (i : ℕ) → drop i (map f all) ≡ [] → Kept all keys i → IsTrue true ↔ AreDistinct (map f all)
  kept_last all keys i e k = yes (k.1 (subst (λ z. AreDistinct z × NoneIn keys z) (sym e) (tt, λ x m. elim m [ ])))

  pub twice : (all keys : List K) (i : ℕ) (x : K) → drop i (map f all) ≡ f x ∷ drop (i + 1) (map f all) → has keys x ≡ true → Kept all keys i → IsTrue false ↔ AreDistinct (map f all)
  twice all keys i x e h k = no (λ d. let p = subst (λ z. AreDistinct z × NoneIn keys z) e (k.0 d) in let n = sym h ∙ p.1 x is_first in cc)

-- ---- numbers and texts in order

pub text_itself : (x : List ℕ) → is_eq (slice_cmp nat_cmp x x) ≡ true
text_itself x = ap is_eq (tied_itself nat_list_cmp_total x)

pub text_exact : (x y : List ℕ) → is_eq (slice_cmp nat_cmp x y) ≡ true → x ≡ y
text_exact x y e = (bytes_eq-Decides x y).0 (sym (is_eq-slice_cmp x y) ∙ e)

pub same_list : (xs : List ℕ) → map (λ x. x) xs ≡ xs
same_list [] = refl
same_list (x ∷ xs) = ap (λ q. x ∷ q) (same_list xs)

pub is_new : {a b : Bool} → a ≡ not b → a ≡ true → b ≡ false
is_new {a} {b} e t = go b (sym e ∙ t)
  where
    go : (d : Bool) → not d ≡ true → d ≡ false
    go true h = sym h
    go false h = refl

pub is_old : {a b : Bool} → a ≡ not b → a ≡ false → b ≡ true
is_old {a} {b} e t = go b (sym e ∙ t)
  where
    go : (d : Bool) → not d ≡ false → d ≡ true
    go true h = refl
    go false h = sym h
