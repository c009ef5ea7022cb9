-- Routines in one table.
use Rattle.std.proofs.Common.{◌≡◌, ℕ, zero, suc, ◌+◌, ◌-◌, ◌<◌, ◌≤◌, List, [], ◌∷◌, ◌++◌, length, take, drop, refl, sym, ap, subst, ◌∙◌, ⊎_elim, inl, inr, ◌⊎◌, arith, append_assoc, length-append}
use Rattle.std.specs.Prelude.{flat_map, Some, None, slice_get}
use Rattle.asn_base.specs.Types.{Resolved}
use Rattle.codec_code.specs.declared.step.Step.{Step}
use Rattle.codec_code.specs.Routines.{routine_of, routine_at, table_of, starts_from, starts_of}

some_same : {A : Type 0} {x y : A} → Some x ≡ Some y → x ≡ y
some_same e = cc

take_front : (xs ys : List Step) → take (length xs) (xs ++ ys) ≡ xs
take_front [] ys = refl
take_front (x ∷ xs) ys = ap (λ q. x ∷ q) (take_front xs ys)

drop_front : (xs ys : List Step) → drop (length xs) (xs ++ ys) ≡ ys
drop_front [] ys = refl
drop_front (x ∷ xs) ys = drop_front xs ys

-- the steps before a routine, the routine, and the steps after it
pub record RoutineAt (s : List Resolved) (n : ℕ) (rs : List Resolved) (t : ℕ) (r : Resolved) : Type 0 where
  pub front : List Step
  pub following : List Step
  pub whole : flat_map (routine_of s) rs ≡ front ++ (routine_of s r ++ following)
  pub from : slice_get (starts_from s n rs) t ≡ Some (n + length front)
  pub to : slice_get (starts_from s n rs) (suc t) ≡ Some (n + length front + length (routine_of s r))

starts_first : (s : List Resolved) (n : ℕ) (rs : List Resolved) → slice_get (starts_from s n rs) 0 ≡ Some n
starts_first s n [] = refl
starts_first s n (r ∷ rs) = refl

pub is_at : (s : List Resolved) (n : ℕ) (rs : List Resolved) (t : ℕ) (r : Resolved) → slice_get rs t ≡ Some r → RoutineAt s n rs t r
is_at s n [] t r e = absurd (cc)
is_at s n (q ∷ rs) zero r e =
    let same : q ≡ r = some_same e in
    record {
      front = [];
      following = flat_map (routine_of s) rs;
      whole = ap (λ k. routine_of s k ++ flat_map (routine_of s) rs) same;
      from = ap Some (let z : n ≡ n + 0 = omega arith in z);
      to = starts_first s (n + length (routine_of s q)) rs ∙ ap (λ k. Some (n + length (routine_of s k))) same ∙ ap Some (let z : n + length (routine_of s r) ≡ n + 0 + length (routine_of s r) = omega arith in z);
    }
is_at s n (q ∷ rs) (suc t) r e =
    let p = is_at s (n + length (routine_of s q)) rs t r e in
    let l = length-append (routine_of s q) p.front in
    record {
      front = routine_of s q ++ p.front;
      following = p.following;
      whole = ap (λ k. routine_of s q ++ k) p.whole ∙ sym (append_assoc (routine_of s q) p.front (routine_of s r ++ p.following));
      from = p.from ∙ ap Some (omega (arith, l));
      to = p.to ∙ ap Some (omega (arith, l));
    }

-- a type that the schema has
pub found : (s : List Resolved) (t : ℕ) → t < length s → (r : Resolved) × (slice_get s t ≡ Some r)
found [] t h = absurd (omega arith)
found (r ∷ s) zero h = (r, refl)
found (r ∷ s) (suc t) h = found s t (omega arith)

none_some : {A : Type 0} {x : A} → Some x ≡ None → ⊥
none_some e = cc

next : (t : ℕ) → t + 1 ≡ suc t
next t = omega arith

-- the last start is the end of the table
starts_end : (s : List Resolved) (n : ℕ) (rs : List Resolved) (t : ℕ) → length rs < t → slice_get (starts_from s n rs) t ≡ None
starts_end s n [] zero h = absurd (omega arith)
starts_end s n [] (suc t) h = refl
starts_end s n (r ∷ rs) zero h = absurd (omega arith)
starts_end s n (r ∷ rs) (suc t) h = starts_end s (n + length (routine_of s r)) rs t (omega arith)

less : (m n : ℕ) → (m < n) ⊎ (n ≤ m)
less zero zero = inr (omega arith)
less zero (suc n) = inl (omega arith)
less (suc m) zero = inr (omega arith)
less (suc m) (suc n) = ⊎_elim (λ l. inl (omega arith)) (λ g. inr (omega arith)) (less m n)

-- there is no type after the last one
past : (s : List Resolved) (t : ℕ) → length s ≤ t → slice_get s t ≡ None
past [] t h = refl
past (r ∷ s) zero h = absurd (omega arith)
past (r ∷ s) (suc t) h = past s t (omega arith)

no_routine : (s : List Resolved) (t : ℕ) → length s ≤ t → routine_at s t ≡ []
no_routine s t h = ap (λ o. elim o [ None ↦ [] | Some k ↦ routine_of s k ]) (past s t h)

record Between (steps : List Step) (s : List Resolved) (t a b : ℕ) : Type 0 where
  order : a ≤ b
  within : b ≤ length steps
  is : take (b - a) (drop a steps) ≡ routine_at s t

-- the routine between two starts
between_there : (s : List Resolved) (t a b : ℕ) → t < length s → slice_get (starts_of s) t ≡ Some a → slice_get (starts_of s) (t + 1) ≡ Some b → Between (table_of s) s t a b
between_there s t a b h f g' =
    let q = found s t h in
    let r = q.0 in
    let g : slice_get (starts_of s) (suc t) ≡ Some b = ap (slice_get (starts_of s)) (sym (next t)) ∙ g' in
    let p = is_at s 0 s t r q.1 in
    let i : a ≡ length p.front = some_same (sym f ∙ p.from) ∙ (let z : 0 + length p.front ≡ length p.front = omega arith in z) in
    let j : b ≡ length p.front + length (routine_of s r) = some_same (sym g ∙ p.to) ∙ (let z : 0 + length p.front + length (routine_of s r) ≡ length p.front + length (routine_of s r) = omega arith in z) in
    let w = ap length p.whole in
    let l = length-append p.front (routine_of s r ++ p.following) in
    let m = length-append (routine_of s r) p.following in
    let d : drop a (table_of s) ≡ routine_of s r ++ p.following = ap (λ k. drop k (table_of s)) i ∙ ap (drop (length p.front)) p.whole ∙ drop_front p.front (routine_of s r ++ p.following) in
    let n : b - a ≡ length (routine_of s r) = omega (arith, i, j) in
    record {
      order = omega (arith, i, j);
      within = omega (arith, j, w, l, m);
      is = ap (λ k. take k (drop a (table_of s))) n ∙ ap (take (length (routine_of s r))) d ∙ take_front (routine_of s r) p.following
          ∙ sym (ap (λ o. elim o [ None ↦ [] | Some k ↦ routine_of s k ]) q.1);
    }

between : (steps : List Step) (starts : List ℕ) (s : List Resolved) (t a b : ℕ) → steps ≡ table_of s → starts ≡ starts_of s → slice_get starts t ≡ Some a → slice_get starts (t + 1) ≡ Some b → Between steps s t a b
between steps starts s t a b d e f g =
    let f' : slice_get (starts_of s) t ≡ Some a = ap (λ k. slice_get k t) (sym e) ∙ f in
    let g' : slice_get (starts_of s) (t + 1) ≡ Some b = ap (λ k. slice_get k (t + 1)) (sym e) ∙ g in
    ⊎_elim (λ l. subst (λ k. Between k s t a b) (sym d) (between_there s t a b l f' g'))
    (λ n. absurd (none_some (sym g' ∙ starts_end s 0 s (t + 1) (omega arith))))
    (less t (length s))

pub is_order : (steps : List Step) (starts : List ℕ) (s : List Resolved) (t a b : ℕ) → steps ≡ table_of s → starts ≡ starts_of s → slice_get starts t ≡ Some a → slice_get starts (t + 1) ≡ Some b → a ≤ b
is_order steps starts s t a b d e f g = (between steps starts s t a b d e f g).order

pub is_within : (steps : List Step) (starts : List ℕ) (s : List Resolved) (t a b : ℕ) → steps ≡ table_of s → starts ≡ starts_of s → slice_get starts t ≡ Some a → slice_get starts (t + 1) ≡ Some b → b ≤ length steps
is_within steps starts s t a b d e f g = (between steps starts s t a b d e f g).within

pub is_routine : (steps : List Step) (starts : List ℕ) (s : List Resolved) (t a b : ℕ) → steps ≡ table_of s → starts ≡ starts_of s → slice_get starts t ≡ Some a → slice_get starts (t + 1) ≡ Some b → take (b - a) (drop a steps) ≡ routine_at s t
is_routine steps starts s t a b d e f g = (between steps starts s t a b d e f g).is

pub no_start : (starts : List ℕ) (s : List Resolved) (t : ℕ) → starts ≡ starts_of s → slice_get starts t ≡ None → [] ≡ routine_at s t
no_start starts s t d e = ⊎_elim
    (λ l. let q = found s t l in absurd (none_some (sym (is_at s 0 s t q.0 q.1).from ∙ ap (λ k. slice_get k t) (sym d) ∙ e)))
    (λ g. sym (no_routine s t g))
    (less t (length s))

pub no_end : (starts : List ℕ) (s : List Resolved) (t : ℕ) → starts ≡ starts_of s → slice_get starts (t + 1) ≡ None → [] ≡ routine_at s t
no_end starts s t d e = ⊎_elim
    (λ l. let q = found s t l in absurd (none_some (sym (is_at s 0 s t q.0 q.1).to ∙ ap (slice_get (starts_of s)) (sym (next t)) ∙ ap (λ k. slice_get k (t + 1)) (sym d) ∙ e)))
    (λ g. sym (no_routine s t g))
    (less t (length s))
