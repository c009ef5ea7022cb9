-- The types that a type leads to, one by one.
use Rattle.std.proofs.Common.{◌≡◌, ◌⊎◌, inl, inr, ℕ, zero, suc, ◌+◌, ◌-◌, ◌<◌, ◌≤◌, List, [], ◌∷◌, ◌++◌, Option, Some, None, length, refl, sym, ap, ◌∙◌, subst, arith}
use Rattle.std.specs.Prelude.{slice_get}
use Rattle.type_table.specs.Walks.{onward, follow}
use Rattle.type_table.specs.proving.Walks.{walk_walk, stops}
use Rattle.type_table.specs.Table.{Type', WrittenKind, walk, next, IsUnderlying, IsLinked}
use Rattle.range_ends.specs.Ends.{IsTypeOfKind}
use Rattle.constraints.specs.proving.Columns.{IsNoted, IsTrail}

-- ---- walks

-- no walk is as long as there are types
pub never_long : (ts : List Type') (i at : ℕ) → IsLinked ts → i < length ts → walk ts (length ts) i ≡ Some at → ⊥
never_long ts i at w l e =
    let c = w.unfolds i l in
    let r : ℕ = length ts - suc c.1.steps in
    let f = c.1.few in
    let q : c.1.steps + suc r ≡ length ts = omega (arith, f) in
    let n : None ≡ Some at = sym (stops (next ts) c.1.steps r i c.0 c.1.chain c.1.ends) ∙ ap (λ k. walk ts k i) q ∙ e in
    absurd cc

le_or : (a b : ℕ) → (a ≤ b) ⊎ (b ≤ a)
le_or zero b = inl (omega arith)
le_or (suc a) zero = inr (omega arith)
le_or (suc a) (suc b) =
    elim (le_or a b) [
      | inl h ↦ inl (omega (arith, h))
      | inr h ↦ inr (omega (arith, h))
    ]

after_end : (ts : List Type') (r c d : ℕ) → next ts c ≡ None → walk ts r c ≡ Some d → d ≡ c
after_end ts zero c d e f = let q : c ≡ d = cc in sym q
after_end ts (suc r) c d e f = let g = ap (λ o. onward o (λ j. follow (next ts) r j)) e in absurd cc

ends_before : (ts : List Type') (i c d k l : ℕ) → k ≤ l → walk ts k i ≡ Some c → next ts c ≡ None → walk ts l i ≡ Some d → d ≡ c
ends_before ts i c d k l h e f g =
    let r : ℕ = l - k in
    let s : k + r ≡ l = omega (arith, h) in
    after_end ts r c d f (sym (walk_walk (next ts) k r i c e) ∙ ap (λ j. walk ts j i) s ∙ g)

-- a type has one core
pub core_once : (ts : List Type') (i c d : ℕ) → IsUnderlying ts i c → IsUnderlying ts i d → c ≡ d
core_once ts i c d u v =
    elim (le_or u.steps v.steps) [
      | inl h ↦ sym (ends_before ts i c d u.steps v.steps h u.chain u.ends v.chain)
      | inr h ↦ ends_before ts i d c v.steps u.steps h v.chain v.ends u.chain
    ]

-- and one kind
pub kind_once : (ts : List Type') (i : ℕ) (k l : WrittenKind) → IsTypeOfKind ts i k → IsTypeOfKind ts i l → k ≡ l
kind_once ts i k l u v =
    let c = core_once ts i u.core v.core u.chain v.chain in
    let q : Some u.type ≡ Some v.type = sym u.there ∙ ap (slice_get ts) c ∙ v.there in
    let t : u.type ≡ v.type = cc in
    sym u.kind ∙ ap (λ (w : Type'). w.kind) t ∙ v.kind

on_first : (ts : List Type') (s j c : ℕ) (o : Option ℕ) → o ≡ Some j → onward o (λ k. follow (next ts) s k) ≡ Some c → walk ts s j ≡ Some c
on_first ts s j c None e f = absurd cc
on_first ts s j c (Some k) e f = let q : k ≡ j = cc in subst (λ m. walk ts s m ≡ Some c) q f

target_core : (ts : List Type') (i j c s : ℕ) →
    next ts i ≡ Some j →
    walk ts s i ≡ Some c →
    next ts c ≡ None →
    s < length ts →
    IsUnderlying ts j c
target_core ts i j c zero e f g l = let q : i ≡ c = cc in let n : None ≡ Some j = sym g ∙ ap (next ts) (sym q) ∙ e in absurd cc
target_core ts i j c (suc s) e f g l = record {
  steps = s;
  few = omega (arith, l);
  chain = on_first ts s j c (next ts i) e f;
  ends = g;
}

-- a type that another leads to has the same kind
pub target_kind : (ts : List Type') (i j : ℕ) (k : WrittenKind) → next ts i ≡ Some j → IsTypeOfKind ts i k →
    IsTypeOfKind ts j k
target_kind ts i j k e u = record {
  core = u.core;
  type = u.type;
  chain = target_core ts i j u.core u.chain.steps e u.chain.chain u.chain.ends u.chain.few;
  there = u.there;
  kind = u.kind;
}

-- ---- trails

-- the list begins with type start, and type at comes after its last one
pub record IsFront (ts : List Type') (start at : ℕ) (v : List ℕ) : Type 0 where
  pub inside : (n i : ℕ) → slice_get v n ≡ Some i → i < length ts
  pub follows : (n i j : ℕ) → slice_get v n ≡ Some i → next ts i ≡ Some j →
      (slice_get v (n + 1) ≡ Some j) ⊎ ((n + 1 ≡ length v) × (j ≡ at))
  pub first : ((length v ≡ 0) × (at ≡ start)) ⊎ (slice_get v 0 ≡ Some start)

pub front_start : (ts : List Type') (start : ℕ) → IsFront ts start start []
front_start ts start = record {
  inside = λ n i e. absurd cc;
  follows = λ n i j e f. absurd cc;
  first = inl (refl, refl);
}

got_push : {A : Type 0} (v : List A) (x y : A) (n : ℕ) →
    slice_get (v ++ x ∷ []) n ≡ Some y →
    (slice_get v n ≡ Some y) ⊎ ((n ≡ length v) × (y ≡ x))
got_push [] x y zero e = let q : x ≡ y = cc in inr (refl, sym q)
got_push [] x y (suc n) e = absurd cc
got_push (z ∷ v) x y zero e = inl e
got_push (z ∷ v) x y (suc n) e =
    elim (got_push v x y n e) [
      | inl f ↦ inl f
      | inr f ↦ inr (ap suc f.0, f.1)
    ]

pub got_front : {A : Type 0} (v : List A) (x y : A) (n : ℕ) → slice_get v n ≡ Some y → slice_get (v ++ x ∷ []) n ≡ Some y
got_front [] x y n e = absurd cc
got_front (z ∷ v) x y zero e = e
got_front (z ∷ v) x y (suc n) e = got_front v x y n e

pub got_last : {A : Type 0} (v : List A) (x : A) → slice_get (v ++ x ∷ []) (length v) ≡ Some x
got_last [] x = refl
got_last (z ∷ v) x = got_last v x

long_push : {A : Type 0} (v : List A) (x : A) → length (v ++ x ∷ []) ≡ length v + 1
long_push [] x = refl
long_push (z ∷ v) x = let e = long_push v x in omega (arith, e)

module _ (ts : List Type') (start at : ℕ) (v w : List ℕ) (u : IsFront ts start at v) (l : at < length ts) (e : w ≡ v ++ at ∷ []) where
  pushed_inside : (n i : ℕ) → slice_get (v ++ at ∷ []) n ≡ Some i → i < length ts
  pushed_inside n i f =
      elim (got_push v at i n f) [
        | inl g ↦ u.inside n i g
        | inr g ↦ (let q = g.1 in omega (arith, q, l))
      ]

  pushed_first : slice_get (v ++ at ∷ []) 0 ≡ Some start
  pushed_first =
      elim u.first [
        | inl g ↦ (ap (slice_get (v ++ at ∷ [])) (sym g.0) ∙ got_last v at ∙ ap Some g.1)
        | inr g ↦ got_front v at start 0 g
      ]

  -- the last one leads to nothing
  pub front_ends : (at' : List (Option ℕ)) → next ts at ≡ None → IsTrail ts at' start w
  front_ends at' f = subst (IsTrail ts at' start) (sym e) (record {
    inside = pushed_inside;
    follows = λ n i j g h. elim (got_push v at i n g) [
      | inl a ↦ elim (u.follows n i j a h) [
        | inl b ↦ inr (got_front v at j (n + 1) b)
        | inr b ↦ inr (ap (slice_get (v ++ at ∷ [])) b.0 ∙ got_last v at ∙ ap Some (sym b.1))
      ]
      | inr a ↦ (let q : None ≡ Some j = sym f ∙ ap (next ts) (sym a.1) ∙ h in absurd cc)
    ];
    first = inr pushed_first;
  })

  pub front_more : (j : ℕ) → next ts at ≡ Some j → IsFront ts start j w
  front_more j f = subst (IsFront ts start j) (sym e) (record {
    inside = pushed_inside;
    follows = λ n i m g h. elim (got_push v at i n g) [
      | inl a ↦ elim (u.follows n i m a h) [
        | inl b ↦ inl (got_front v at m (n + 1) b)
        | inr b ↦ inl (ap (slice_get (v ++ at ∷ [])) b.0 ∙ got_last v at ∙ ap Some (sym b.1))
      ]
      | inr a ↦ (let q : Some j ≡ Some m = sym f ∙ ap (next ts) (sym a.1) ∙ h in
          let s : j ≡ m = cc in
          let n1 = a.0 in
          let lp = long_push v at in
          inr (omega (arith, n1, lp), sym s))
    ];
    first = inr pushed_first;
  })

-- a limit is noted for the next one
pub front_known : (ts : List Type') (at' : List (Option ℕ)) (start at : ℕ) (v : List ℕ) →
    IsFront ts start at v →
    IsNoted at' at →
    IsTrail ts at' start v
front_known ts at' start at v u k = record {
  inside = u.inside;
  follows = λ n i j g h. elim (u.follows n i j g h) [
    | inl a ↦ inr a
    | inr a ↦ inl (subst (IsNoted at') (sym a.1) k)
  ];
  first = elim u.first [
    | inl a ↦ inl (subst (IsNoted at') a.1 k)
    | inr a ↦ inr a
  ];
}
