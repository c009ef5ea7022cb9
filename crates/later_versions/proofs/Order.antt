-- Lists of places, breadth first.
use Rattle.std.proofs.Common.{arith, inl, inr, ◌≡◌, ℕ, ◌+◌, ◌<◌, ◌≤◌, List, [], ◌∷◌, ◌++◌, length, refl, sym, ap, subst, ◌∙◌}
use Rattle.std.specs.Prelude.{◌⊎◌}
use Rattle.std.proofs.lemmas.Bool.{cases_lt}
use Rattle.later_versions.specs.Differences.{IsBefore, IsSmaller}

longer : (ps : List ℕ) (i : ℕ) → length (ps ++ i ∷ []) ≡ length ps + 1
longer [] i = omega arith
longer (j ∷ ps) i = let h = longer ps i in omega (arith, h)

smaller_more : (ps qs xs ys : List ℕ) → IsSmaller ps qs → IsSmaller (ps ++ xs) (qs ++ ys)
smaller_more [] qs xs ys h = absurd h
smaller_more (i ∷ ps) [] xs ys h = absurd h
smaller_more (i ∷ ps) (j ∷ qs) xs ys h = elim h [ inl a ↦ inl a | inr b ↦ inr (b.0, smaller_more ps qs xs ys b.1) ]

smaller_last : (ps : List ℕ) (i j : ℕ) → i < j → IsSmaller (ps ++ i ∷ []) (ps ++ j ∷ [])
smaller_last [] i j l = inl l
smaller_last (k ∷ ps) i j l = inr (refl, smaller_last ps i j l)

smaller_twice : (ps qs rs : List ℕ) → IsSmaller ps qs → IsSmaller qs rs → IsSmaller ps rs
smaller_twice [] qs rs a b = absurd a
smaller_twice (i ∷ ps) [] rs a b = absurd a
smaller_twice (i ∷ ps) (j ∷ qs) [] a b = absurd b
smaller_twice (i ∷ ps) (j ∷ qs) (k ∷ rs) a b = elim a [
  | inl l ↦ elim b [ inl m ↦ inl (omega (arith, l, m)) | inr n ↦ inl (let e = n.0 in omega (arith, l, e)) ]
  | inr l ↦ elim b [
    | inl m ↦ inl (let e = l.0 in omega (arith, m, e))
    | inr n ↦ inr (l.0 ∙ n.0, smaller_twice ps qs rs l.1 n.1)
  ]
]

not_smaller : (ps : List ℕ) → IsSmaller ps ps → ⊥
not_smaller [] h = h
not_smaller (i ∷ ps) h = elim h [ inl l ↦ absurd (omega (arith, l)) | inr b ↦ not_smaller ps b.1 ]

pub before_more : (ps qs : List ℕ) (i j : ℕ) → IsBefore ps qs → IsBefore (ps ++ i ∷ []) (qs ++ j ∷ [])
before_more ps qs i j h =
    let a = longer ps i in
    let b = longer qs j in
    elim h [
      | inl l ↦ inl (omega (arith, a, b, l))
      | inr e ↦ inr ((let l = e.0 in omega (arith, a, b, l)), smaller_more ps qs (i ∷ []) (j ∷ []) e.1)
    ]

pub before_last : (ps : List ℕ) (i j : ℕ) → i < j → IsBefore (ps ++ i ∷ []) (ps ++ j ∷ [])
before_last ps i j l = inr ((let a = longer ps i in let b = longer ps j in omega (arith, a, b)), smaller_last ps i j l)

pub before_own : (ps : List ℕ) (i : ℕ) → IsBefore ps (ps ++ i ∷ [])
before_own ps i = inl (let a = longer ps i in omega (arith, a))

pub before_twice : (ps qs rs : List ℕ) → IsBefore ps qs → IsBefore qs rs → IsBefore ps rs
before_twice ps qs rs a b = elim a [
  | inl l ↦ elim b [ inl m ↦ inl (omega (arith, l, m)) | inr n ↦ inl (let e = n.0 in omega (arith, l, e)) ]
  | inr l ↦ elim b [
    | inl m ↦ inl (let e = l.0 in omega (arith, m, e))
    | inr n ↦ inr (l.0 ∙ n.0, smaller_twice ps qs rs l.1 n.1)
  ]
]

pub not_before : (ps : List ℕ) → IsBefore ps ps → ⊥
not_before ps h = elim h [ inl l ↦ absurd (omega (arith, l)) | inr e ↦ not_smaller ps e.1 ]

-- before, or the same
abbrev pub IsAtMost : List ℕ → List ℕ → Type 0
IsAtMost ps qs = (ps ≡ qs) ⊎ IsBefore ps qs

pub most_before : (ps qs rs : List ℕ) → IsAtMost ps qs → IsBefore qs rs → IsBefore ps rs
most_before ps qs rs a b = elim a [
  | inl e ↦ subst (λ p. IsBefore p rs) (sym e) b
  | inr h ↦ before_twice ps qs rs h b
]

pub before_most : (ps qs rs : List ℕ) → IsBefore ps qs → IsAtMost qs rs → IsBefore ps rs
before_most ps qs rs a b = elim b [
  | inl e ↦ subst (IsBefore ps) e a
  | inr h ↦ before_twice ps qs rs a h
]

pub most_twice : (ps qs rs : List ℕ) → IsAtMost ps qs → IsAtMost qs rs → IsAtMost ps rs
most_twice ps qs rs a b = elim b [
  | inl e ↦ subst (IsAtMost ps) e a
  | inr h ↦ inr (most_before ps qs rs a h)
]

pub most_more : (ps qs : List ℕ) (i : ℕ) → IsAtMost ps qs → IsAtMost (ps ++ i ∷ []) (qs ++ i ∷ [])
most_more ps qs i a = elim a [ inl e ↦ inl (ap (λ p. p ++ i ∷ []) e) | inr h ↦ inr (before_more ps qs i i h) ]

pub most_last : (ps : List ℕ) (i j : ℕ) → i ≤ j → IsAtMost (ps ++ i ∷ []) (ps ++ j ∷ [])
most_last ps i j l = elim (cases_lt i j) [
  | inl a ↦ inr (before_last ps i j a)
  | inr b ↦ inl (let e : i ≡ j = omega (arith, b, l) in ap (λ k. ps ++ k ∷ []) e)
]

-- a list is before another one if a longer one is
pub front_before : (ps : List ℕ) (i : ℕ) (xs qs : List ℕ) → IsBefore (ps ++ i ∷ xs) qs → IsBefore ps qs
front_before ps i xs qs h = inl (let l = shorter ps i xs in elim h [ inl m ↦ omega (arith, l, m) | inr e ↦ (let m = e.0 in omega (arith, l, m)) ])
  where
    shorter : (ps : List ℕ) (i : ℕ) (xs : List ℕ) → length ps < length (ps ++ i ∷ xs)
    shorter [] i xs = omega arith
    shorter (p ∷ ps) i xs = let h = shorter ps i xs in omega (arith, h)
