-- Lists that are gone through from the front, where the parts of each element are put at the end: such a list is
-- determined by what is in it at first.
use Rattle.std.proofs.Common.{◌≡◌, ℕ, suc, ◌<◌, ◌≤◌, ◌++◌, List, [], ◌∷◌, refl, sym, ap, ◌∙◌, append_assoc, arith}
use Rattle.std.proofs.lemmas.List.{append-nil}

head_same : {X : Type 0} (x y : X) (xs ys : List X) → x ∷ xs ≡ y ∷ ys → x ≡ y
head_same x y xs ys e = cc

tail_same : {X : Type 0} (x y : X) (xs ys : List X) → x ∷ xs ≡ y ∷ ys → xs ≡ ys
tail_same x y xs ys e = cc

-- two lists that are gone through up to an element: the one goes on where the other ends
pub data AreFronts {X : Type 0} (a b : List X) (s t : X) : Type 0 where
  equal : a ≡ b → s ≡ t → AreFronts a b s t
  shorter : (z : List X) → b ≡ a ++ s ∷ z → AreFronts a b s t
  longer : (z : List X) → a ≡ b ++ t ∷ z → AreFronts a b s t

module _ {X : Type 0} (parts : ℕ → X → List X) (all : ℕ → List X → List X) (total : List X → ℕ)
    (none : (i : ℕ) → all i [] ≡ [])
    (one : (i : ℕ) (x : X) (xs : List X) → all i (x ∷ xs) ≡ parts i x ++ all (suc i) xs)
    (less : (i : ℕ) (x : X) (xs : List X) → total (all i (x ∷ xs)) < total (x ∷ xs))
    (grows : (xs ys : List X) → total xs ≤ total (xs ++ ys)) where
  -- a list has no element whose parts it begins with
  not_parts : (k : ℕ) (x : X) (xs ys : List X) → all k (x ∷ xs) ≡ (x ∷ xs) ++ ys → ⊥
  not_parts k x xs ys e =
      let a = ap total e in
      let b = less k x xs in
      let c = grows (x ∷ xs) ys in
      absurd (omega (arith, a, b, c))

  -- the first element, and what is in the list after it
  step : (k : ℕ) (z x : X) (w xs ys : List X) → z ∷ (w ++ all k (x ∷ xs)) ≡ x ∷ ys →
      (z ≡ x) × ((w ++ parts k z) ++ all (suc k) xs ≡ ys)
  step k z x w xs ys e =
      let h = head_same z x (w ++ all k (x ∷ xs)) ys e in
      let t = tail_same z x (w ++ all k (x ∷ xs)) ys e in
      (h, append_assoc w (parts k z) (all (suc k) xs) ∙ ap (λ (y : X). w ++ (parts k y ++ all (suc k) xs)) h ∙ ap (λ l. w ++ l) (sym (one k x xs)) ∙ t)

  -- the whole list
  pub one_whole : (k : ℕ) (w r q : List X) → r ≡ w ++ all k r → q ≡ w ++ all k q → r ≡ q
  one_whole k [] [] [] e f = refl
  one_whole k [] [] (y ∷ q) e f = absurd (not_parts k y q [] (sym f ∙ sym (append-nil (y ∷ q))))
  one_whole k [] (x ∷ r) q e f = absurd (not_parts k x r [] (sym e ∙ sym (append-nil (x ∷ r))))
  one_whole k (z ∷ w) [] q e f = absurd cc
  one_whole k (z ∷ w) (x ∷ r) [] e f = absurd cc
  one_whole k (z ∷ w) (x ∷ r) (y ∷ q) e f =
      let a = step k z x w r r (sym e) in
      let b = step k z y w q q (sym f) in
      ap (λ (s : X). s ∷ r) (sym a.0 ∙ b.0) ∙ ap (λ l. y ∷ l) (one_whole (suc k) (w ++ parts k z) r q (sym a.1) (sym b.1))

  first_of : (k : ℕ) (z s : X) (w r : List X) → (z ∷ w) ++ all k [] ≡ s ∷ r → z ≡ s
  first_of k z s w r e = head_same z s (w ++ all k []) r e

  no_front : (k : ℕ) (s : X) (r : List X) → all k [] ≡ s ∷ r → ⊥
  no_front k s r e = let n : [] ≡ s ∷ r = sym (none k) ∙ e in absurd cc

  on_front : (z x y s t : X) (a b : List X) → z ≡ x → z ≡ y → AreFronts a b s t → AreFronts (x ∷ a) (y ∷ b) s t
  on_front z x y s t a b p q (equal e f) = equal (ap (λ (h : X). h ∷ a) (sym p ∙ q) ∙ ap (λ l. y ∷ l) e) f
  on_front z x y s t a b p q (shorter l e) = shorter l (ap (λ (h : X). h ∷ b) (sym q ∙ p) ∙ ap (λ l. x ∷ l) e)
  on_front z x y s t a b p q (longer l e) = longer l (ap (λ (h : X). h ∷ a) (sym p ∙ q) ∙ ap (λ l. y ∷ l) e)

  -- two fronts of one list
  pub fronts : (k : ℕ) (w a b r q : List X) (s t : X) → w ++ all k a ≡ a ++ s ∷ r → w ++ all k b ≡ b ++ t ∷ q →
      AreFronts a b s t
  fronts k [] [] b r q s t e f = absurd (no_front k s r e)
  fronts k [] (x ∷ a) b r q s t e f = absurd (not_parts k x a (s ∷ r) e)
  fronts k (z ∷ w) [] [] r q s t e f = equal refl (sym (first_of k z s w r e) ∙ first_of k z t w q f)
  fronts k (z ∷ w) [] (y ∷ b) r q s t e f =
      let p = step k z y w b (b ++ t ∷ q) f in
      shorter b (ap (λ (h : X). h ∷ b) (sym p.0 ∙ first_of k z s w r e))
  fronts k (z ∷ w) (x ∷ a) [] r q s t e f =
      let p = step k z x w a (a ++ s ∷ r) e in
      longer a (ap (λ (h : X). h ∷ a) (sym p.0 ∙ first_of k z t w q f))
  fronts k (z ∷ w) (x ∷ a) (y ∷ b) r q s t e f =
      let m = step k z x w a (a ++ s ∷ r) e in
      let n = step k z y w b (b ++ t ∷ q) f in
      on_front z x y s t a b m.0 n.0 (fronts (suc k) (w ++ parts k z) a b r q s t m.1 n.1)

  -- a front, and the whole list
  pub front_of_whole : (k : ℕ) (w a r x : List X) (s : X) → w ++ all k a ≡ a ++ s ∷ r → x ≡ w ++ all k x →
      (z : List X) × (x ≡ a ++ s ∷ z)
  front_of_whole k [] [] r x s e f = absurd (no_front k s r e)
  front_of_whole k [] (y ∷ a) r x s e f = absurd (not_parts k y a (s ∷ r) e)
  front_of_whole k (z ∷ w) a r [] s e f = absurd cc
  front_of_whole k (z ∷ w) [] r (u ∷ x) s e f =
      let q = step k z u w x x (sym f) in
      (x, ap (λ (h : X). h ∷ x) (sym q.0 ∙ first_of k z s w r e))
  front_of_whole k (z ∷ w) (y ∷ a) r (u ∷ x) s e f =
      let p = step k z y w a (a ++ s ∷ r) e in
      let q = step k z u w x x (sym f) in
      let o = front_of_whole (suc k) (w ++ parts k z) a r x s p.1 (sym q.1) in
      (o.0, ap (λ (h : X). h ∷ x) (sym q.0 ∙ p.0) ∙ ap (λ l. y ∷ l) o.1)
