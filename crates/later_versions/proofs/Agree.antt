-- Sets of ranges that agree below all edges and at each edge agree everywhere.
use Rattle.std.proofs.Common.{arith, inl, inr, ◌≡◌, ℤ, pos, ◌+ℤ◌, ◌-ℤ◌, ◌≤ℤ◌, ◌<ℤ◌, Some, None, refl, sym, ap, subst, ◌∙◌}
use Rattle.std.specs.Prelude.{◌⊎◌, ◌↔◌, List, [], ◌∷◌, ◌++◌, Option, IfSome}
use Rattle.std.proofs.lemmas.Int.{ints, by_lt_z}
use Rattle.asn_base.specs.Types.{Range}
use Rattle.asn_base.specs.Typed.{IsInSome}
use Rattle.later_versions.specs.proving.Edges.{HasNoBeginning, IsAfter, IsEdge, IsEdgeOfSome}

-- e is the last of some numbers up to z of which P holds, or z is below all
abbrev LastOrNone : (ℤ → Type 0) → ℤ → Type 0
LastOrNone P z =
    ((b : ℤ) × P b × (b ≤ℤ z) × ((e : ℤ) → P e → e ≤ℤ z → e ≤ℤ b))
    ⊎ ((e : ℤ) → P e → z <ℤ e)

-- one number more
one_more : (P : ℤ → Type 0) (k z : ℤ) → LastOrNone P z → LastOrNone (λ e. (e ≡ k) ⊎ P e) z
one_more P k z (inl h) = by_lt_z z k
    (λ lt. inl (
      h.0,
      inr h.1,
      h.2,
      λ e p l. elim p [
        | inl q ↦ absurd (let m = subst (λ x. x ≤ℤ z) q l in omega (arith, ints))
        | inr q ↦ h.3 e q l
      ],
    ))
    (λ le. by_lt_z h.0 k
    (λ lt. inl (
      k,
      inl refl,
      le,
      λ e p l. elim p [
        | inl q ↦ (let m = subst (λ x. x ≤ℤ x) q (itself e) in subst (λ x. x ≤ℤ k) (sym q) (itself k))
        | inr q ↦ (let n = h.3 e q l in omega (arith, ints))
      ],
    ))
    (λ ge. inl (
      h.0,
      inr h.1,
      h.2,
      λ e p l. elim p [
        | inl q ↦ subst (λ x. x ≤ℤ h.0) (sym q) ge
        | inr q ↦ h.3 e q l
      ],
    )))
  where
    itself : (x : ℤ) → x ≤ℤ x
    itself x = omega (arith, ints)
one_more P k z (inr h) = by_lt_z z k
    (λ lt. inr (λ e p. elim p [ inl q ↦ subst (λ x. z <ℤ x) (sym q) lt | inr q ↦ h e q ]))
    (λ le. inl (
      k,
      inl refl,
      le,
      λ e p l. elim p [
        | inl q ↦ subst (λ x. x ≤ℤ k) (sym q) (itself k)
        | inr q ↦ absurd (let n = h e q in omega (arith, ints))
      ],
    ))
  where
    itself : (x : ℤ) → x ≤ℤ x
    itself x = omega (arith, ints)

-- the same for a property that says the same
carried : (P Q : ℤ → Type 0) (z : ℤ) → ((e : ℤ) → P e → Q e) → ((e : ℤ) → Q e → P e) → LastOrNone P z → LastOrNone Q z
carried P Q z f g (inl h) = inl (h.0, f h.0 h.1, h.2, λ e q l. h.3 e (g e q) l)
carried P Q z f g (inr h) = inr (λ e q. h e (g e q))

abbrev IsEnd : Option ℤ → ℤ → Type 0
IsEnd o z = (g : ℤ) × (o ≡ Some g) × IsAfter g z

with_least : (P : ℤ → Type 0) (o : Option ℤ) (z : ℤ) → LastOrNone P z → LastOrNone (λ e. (o ≡ Some e) ⊎ P e) z
with_least P None z h =
    carried P (λ e. (None ≡ Some e) ⊎ P e) z (λ e p. inr p) (λ e p. elim p [ inl q ↦ absurd (cc) | inr q ↦ q ]) h
with_least P (Some k) z h =
    carried (λ e. (e ≡ k) ⊎ P e) (λ e. (Some k ≡ Some e) ⊎ P e) z
    (λ e p. elim p [ inl q ↦ inl (ap Some (sym q)) | inr q ↦ inr q ])
    (λ e p. elim p [ inl q ↦ inl (let s : e ≡ k = cc in s) | inr q ↦ inr q ])
    (one_more P k z h)

with_end : (P : ℤ → Type 0) (o : Option ℤ) (z : ℤ) → LastOrNone P z → LastOrNone (λ e. IsEnd o e ⊎ P e) z
with_end P None z h =
    carried P (λ e. IsEnd None e ⊎ P e) z (λ e p. inr p) (λ e p. elim p [ inl q ↦ absurd (let r = q.1 in cc) | inr q ↦ q ]) h
with_end P (Some g) z h =
    carried (λ e. (e ≡ (g +ℤ pos 1)) ⊎ P e) (λ e. IsEnd (Some g) e ⊎ P e) z
    (λ e p. elim p [ inl q ↦ inl (g, refl, q) | inr q ↦ inr q ])
    (λ e p. elim p [
      | inl q ↦ inl (let s : q.0 ≡ g = (let r = q.1 in cc) in subst (λ x. e ≡ (x +ℤ pos 1)) s q.2)
      | inr q ↦ inr q
    ])
    (one_more P (g +ℤ pos 1) z h)

last_edge : (rs : List Range) (z : ℤ) → LastOrNone (IsEdgeOfSome rs) z
last_edge [] z = inr (λ e p. absurd p)
last_edge (r ∷ rs) z =
    let a = with_end (IsEdgeOfSome rs) r.greatest z (last_edge rs z) in
    let b = with_least (λ e. IsEnd r.greatest e ⊎ IsEdgeOfSome rs e) r.least z a in
    carried (λ e. (r.least ≡ Some e) ⊎ (IsEnd r.greatest e ⊎ IsEdgeOfSome rs e)) (IsEdgeOfSome (r ∷ rs)) z
    (λ e p. elim p [ inl q ↦ inl (inl q) | inr q ↦ elim q [ inl u ↦ inl (inr u) | inr u ↦ inr u ] ])
    (λ e p. elim p [ inl q ↦ elim q [ inl u ↦ inl u | inr u ↦ inr (inl u) ] | inr q ↦ inr (inr q) ])
    b

-- between two numbers no range begins or ends
abbrev NoneBetween : (ℤ → Type 0) → ℤ → ℤ → Type 0
NoneBetween P b z = (e : ℤ) → P e → e ≤ℤ z → e ≤ℤ b

in_range : (l g : Option ℤ) (b z : ℤ)
    → b ≤ℤ z
    → NoneBetween (λ e. (l ≡ Some e) ⊎ IsEnd g e) b z
    → (IfSome l (λ k. k ≤ℤ z) × IfSome g (λ k. z ≤ℤ k)) ↔ (IfSome l (λ k. k ≤ℤ b) × IfSome g (λ k. b ≤ℤ k))
in_range None None b z h n = (λ p. p, λ p. p)
in_range (Some k) None b z h n = (λ p. (n k (inl refl) p.0, tt), λ p. (let q = p.0 in omega (arith, ints), tt))
in_range None (Some g) b z h n = (
  λ p. (tt, let q = p.1 in omega (arith, ints)),
  λ p. (
    tt,
    by_lt_z g z
        (λ lt. absurd (let m = n (g +ℤ pos 1) (inr (g, refl, refl)) (omega (arith, ints)) in let q = p.1 in omega (arith, ints)))
        (λ le. le),
  ),
)
in_range (Some k) (Some g) b z h n = (
  λ p. (n k (inl refl) p.0, let q = p.1 in omega (arith, ints)),
  λ p. (
    let q = p.0 in omega (arith, ints),
    by_lt_z g z
        (λ lt. absurd (let m = n (g +ℤ pos 1) (inr (g, refl, refl)) (omega (arith, ints)) in let q = p.1 in omega (arith, ints)))
        (λ le. le),
  ),
)

in_some : (rs : List Range) (b z : ℤ) → b ≤ℤ z → NoneBetween (IsEdgeOfSome rs) b z → IsInSome z rs ↔ IsInSome b rs
in_some [] b z h n = (λ p. p, λ p. p)
in_some (r ∷ rs) b z h n =
    let a = in_range r.least r.greatest b z h (λ e p l. n e (inl p) l) in
    let c = in_some rs b z h (λ e p l. n e (inr p) l) in (
      λ p. elim p [ inl q ↦ inl (a.0 q) | inr q ↦ inr (c.0 q) ],
      λ p. elim p [ inl q ↦ inl (a.1 q) | inr q ↦ inr (c.1 q) ],
    )

edge_left : (rs ss : List Range) (z : ℤ) → IsEdgeOfSome rs z → IsEdgeOfSome (rs ++ ss) z
edge_left [] ss z h = absurd h
edge_left (r ∷ rs) ss z (inl h) = inl h
edge_left (r ∷ rs) ss z (inr h) = inr (edge_left rs ss z h)

edge_right : (rs ss : List Range) (z : ℤ) → IsEdgeOfSome ss z → IsEdgeOfSome (rs ++ ss) z
edge_right [] ss z h = h
edge_right (r ∷ rs) ss z h = inr (edge_right rs ss z h)

edge_of : (rs ss : List Range) (z : ℤ) → IsEdgeOfSome (rs ++ ss) z → IsEdgeOfSome rs z ⊎ IsEdgeOfSome ss z
edge_of [] ss z h = inr h
edge_of (r ∷ rs) ss z (inl h) = inl (inl h)
edge_of (r ∷ rs) ss z (inr h) = elim (edge_of rs ss z h) [ inl p ↦ inl (inr p) | inr p ↦ inr p ]

-- below all edges are the numbers of a range without a beginning
below_range : (l g : Option ℤ) (z : ℤ)
    → ((e : ℤ) → (l ≡ Some e) ⊎ IsEnd g e → z <ℤ e)
    → (IfSome l (λ k. k ≤ℤ z) × IfSome g (λ k. z ≤ℤ k)) ↔ (l ≡ None)
below_range (Some k) g z n = (λ p. absurd (let m = n k (inl refl) in let q = p.0 in omega (arith, ints)), λ p. absurd (cc))
below_range None None z n = (λ p. refl, λ p. (tt, tt))
below_range None (Some g) z n =
    (λ p. refl, λ p. (tt, let m = n (g +ℤ pos 1) (inr (g, refl, refl)) in omega (arith, ints)))

below_all : (rs : List Range) (z : ℤ) → ((e : ℤ) → IsEdgeOfSome rs e → z <ℤ e) → IsInSome z rs ↔ HasNoBeginning rs
below_all [] z n = (λ p. p, λ p. p)
below_all (r ∷ rs) z n =
    let a = below_range r.least r.greatest z (λ e p. n e (inl p)) in
    let b = below_all rs z (λ e p. n e (inr p)) in (
      λ p. elim p [ inl q ↦ inl (a.0 q) | inr q ↦ inr (b.0 q) ],
      λ p. elim p [ inl q ↦ inl (a.1 q) | inr q ↦ inr (b.1 q) ],
    )

-- what agrees below all edges, and at each, agrees everywhere
agree_everywhere : (rs ss : List Range)
    → (HasNoBeginning rs ↔ HasNoBeginning ss)
    → ((e : ℤ) → IsEdgeOfSome rs e → (IsInSome e rs ↔ IsInSome e ss))
    → ((e : ℤ) → IsEdgeOfSome ss e → (IsInSome e rs ↔ IsInSome e ss))
    → (z : ℤ)
    → IsInSome z rs ↔ IsInSome z ss
agree_everywhere rs ss low first second z = elim (last_edge (rs ++ ss) z) [
  | inl h ↦ (
      let a = in_some rs h.0 z h.2 (λ e p l. h.3 e (edge_left rs ss e p) l) in
      let b = in_some ss h.0 z h.2 (λ e p l. h.3 e (edge_right rs ss e p) l) in
      let c : IsInSome h.0 rs ↔ IsInSome h.0 ss = elim (edge_of rs ss h.0 h.1) [ inl p ↦ first h.0 p | inr p ↦ second h.0 p ] in
      (λ p. b.1 (c.0 (a.0 p)), λ p. a.1 (c.1 (b.0 p)))
      )
  | inr h ↦ (
      let a = below_all rs z (λ e p. h e (edge_left rs ss e p)) in
      let b = below_all ss z (λ e p. h e (edge_right rs ss e p)) in
      (λ p. b.1 (low.0 (a.0 p)), λ p. a.1 (low.1 (b.0 p)))
      )
]

-- and back: sets that agree everywhere agree below all edges
lowest : (rs : List Range) → (z : ℤ) × ((e : ℤ) → IsEdgeOfSome rs e → z <ℤ e)
lowest [] = (pos 0, λ e p. absurd p)
lowest (r ∷ rs) =
    let a = lowest rs in
    let b = below_end r.greatest a.0 in
    let c = below_least r.least b.0 in (
      c.0,
      λ e p. elim p [
        | inl q ↦ elim q [ inl u ↦ c.2 e u | inr u ↦ (let m = b.2 e u in let n = c.1 in omega (arith, ints)) ]
        | inr q ↦ (let m = a.1 e q in let n = b.1 in let o = c.1 in omega (arith, ints))
      ],
    )
  where
    below_least : (o : Option ℤ) (y : ℤ) → (z : ℤ) × (z ≤ℤ y) × ((e : ℤ) → o ≡ Some e → z <ℤ e)
    below_least None y = (y, omega (arith, ints), λ e q. absurd (cc))
    below_least (Some k) y = by_lt_z y k
        (λ lt. (y, omega (arith, ints), λ e q. (let s : k ≡ e = cc in subst (λ x. y <ℤ x) s lt)))
        (λ le. (k -ℤ pos 1, omega (arith, ints), λ e q. (let s : k ≡ e = cc in subst (λ x. (k -ℤ pos 1) <ℤ x) s (omega (arith, ints)))))

    below_end : (o : Option ℤ) (y : ℤ) → (z : ℤ) × (z ≤ℤ y) × ((e : ℤ) → IsEnd o e → z <ℤ e)
    below_end None y = (y, omega (arith, ints), λ e q. absurd (let r = q.1 in cc))
    below_end (Some k) y =
        let h = below_least (Some (k +ℤ pos 1)) y in
        (h.0, h.1, λ e q. h.2 e (let s : k ≡ q.0 = (let r = q.1 in cc) in ap (λ x. Some (x +ℤ pos 1)) s ∙ ap Some (sym q.2)))

agree_below : (rs ss : List Range)
    → ((z : ℤ) → IsInSome z rs ↔ IsInSome z ss)
    → HasNoBeginning rs ↔ HasNoBeginning ss
agree_below rs ss h =
    let l = lowest (rs ++ ss) in
    let a = below_all rs l.0 (λ e p. l.1 e (edge_left rs ss e p)) in
    let b = below_all ss l.0 (λ e p. l.1 e (edge_right rs ss e p)) in
    (λ p. b.0 ((h l.0).0 (a.1 p)), λ p. a.0 ((h l.0).1 (b.1 p)))

-- both sets agree at the edges of some ranges
abbrev pub AgreeAt : (rs ss edges : List Range) → Type 0
AgreeAt rs ss edges = (z : ℤ) → IsEdgeOfSome edges z → (IsInSome z rs ↔ IsInSome z ss)

pub agree_here : (rs ss : List Range) (e : Range) (es left : List Range) {W : Type 0}
    → left ≡ e ∷ es
    → ((z : ℤ) → IsEdge e z → (IsInSome z rs ↔ IsInSome z ss))
    → W ↔ AgreeAt rs ss left
    → W ↔ AgreeAt rs ss es
agree_here rs ss e es left q f w = (
  λ p z h. w.0 p z (subst (λ x. IsEdgeOfSome x z) (sym q) (inr h)),
  λ p. w.1 (λ z h. elim (subst (λ x. IsEdgeOfSome x z) q h) [ inl a ↦ f z a | inr a ↦ p z a ]),
)

pub agree_not : (rs ss : List Range) (e : Range) (es left : List Range) {W : Type 0}
    → left ≡ e ∷ es
    → (((z : ℤ) → IsEdge e z → (IsInSome z rs ↔ IsInSome z ss)) → ⊥)
    → W ↔ AgreeAt rs ss left
    → W
    → ⊥
agree_not rs ss e es left q f w p = f (λ z h. w.0 p z (subst (λ x. IsEdgeOfSome x z) (sym q) (inl h)))

-- the edges of a range are its beginning and the number after its end
pub at_edges : (P : ℤ → Type 0) (r : Range)
    → ((z : ℤ) → r.least ≡ Some z → P z)
    → ((g : ℤ) → r.greatest ≡ Some g → (z : ℤ) → IsAfter g z → P z)
    → (z : ℤ)
    → IsEdge r z
    → P z
at_edges P r f g z (inl e) = f z e
at_edges P r f g z (inr e) = g e.0 e.1 z e.2

-- sets that were seen as lists
pub sets_same : (rs ss xs ys : List Range)
    → xs ≡ rs
    → ys ≡ ss
    → (HasNoBeginning xs ↔ HasNoBeginning ys)
    → AgreeAt rs ss xs
    → AgreeAt rs ss ys
    → (z : ℤ)
    → IsInSome z rs ↔ IsInSome z ss
sets_same rs ss xs ys e f low first second =
    agree_everywhere rs ss
    (subst (λ q. HasNoBeginning q ↔ HasNoBeginning ss) e (subst (λ q. HasNoBeginning xs ↔ HasNoBeginning q) f low))
    (subst (AgreeAt rs ss) e first) (subst (AgreeAt rs ss) f second)

pub same_below : (rs ss xs ys : List Range)
    → xs ≡ rs
    → ys ≡ ss
    → ((z : ℤ) → IsInSome z rs ↔ IsInSome z ss)
    → HasNoBeginning xs ↔ HasNoBeginning ys
same_below rs ss xs ys e f h =
    subst (λ q. HasNoBeginning q ↔ HasNoBeginning ys) (sym e)
    (subst (λ q. HasNoBeginning rs ↔ HasNoBeginning q) (sym f) (agree_below rs ss h))

pub end_only : {B : Type 0} (P : ℤ → Type 0) (o : Option ℤ) (k : ℤ)
    → o ≡ Some k
    → B ↔ ((z : ℤ) → IsAfter k z → P z)
    → B ↔ ((g : ℤ) → o ≡ Some g → (z : ℤ) → IsAfter g z → P z)
end_only P o k e h = (
  λ b g f z i. h.0 b z (let s : g ≡ k = (let q = sym f ∙ e in cc) in subst (λ x. IsAfter x z) s i),
  λ a. h.1 (a k e),
)
