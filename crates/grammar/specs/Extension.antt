-- Lists with an extension marker: what their readers read is in the grammar.
use Rattle.std.proofs.Common.{◌≡◌, ℕ, zero, suc, inl, inr, List, [], ◌∷◌, ◌++◌, length, Option, Some, Ok, Err, refl, sym, ap, subst, ◌∙◌ as ◌⋆◌, append_assoc}
use Rattle.text.specs.declared.token.Mark.TheVariants.{Comma, Ellipsis}
use Rattle.grammar.specs.Lexeme.{Lexeme, Mark}
use Rattle.grammar.specs.Grammar.{Grammar, ◌∙◌, ◌⇒◌, many, optional, preceded, marked, extensible}
use Rattle.grammar.specs.Reading.{Limit, Read, Reader, ◌>>=◌, after_commas_at, Extensible, next_marker, additions_at, put, or_marker, more_at}
use Rattle.grammar.specs.Laws.{Sound, commas_sound, is_preceded, front_preceded}
use Rattle.grammar.specs.Rules.{Same}

-- parts, each after a comma
abbrev pub commas : {A : Type 0} → Grammar A → Grammar (List A)
commas a = many (preceded (Mark Comma) a)

-- what comes after the first part
abbrev pub tail : {A B : Type 0} → Grammar A → Grammar B → Grammar (Extensible A B)
tail a b = commas a ∙ optional (preceded (Mark Comma) (marked b))

abbrev pub first_and : {A B : Type 0} → A × Extensible A B → Extensible A B
first_and p = (p.0 ∷ p.1.0, p.1.1)

-- a first part, and what comes after it, make a list with an extension marker
pub extensible_same : {A B : Type 0} (a : Grammar A) (b : Grammar B)
    → Same ((a ∙ tail a b) ⇒ first_and) (extensible a b)
extensible_same {A} {B} a b = record {
  to = record { is = to_is; on = to_on };
  back =
      record { is = back_is; on = back_on };
}
  where
    to_is : (x : Extensible A B) (u : List Lexeme) → ((a ∙ tail a b) ⇒ first_and).Is x u → (extensible a b).Is x u
    to_is x u (p, d, (v, w, e, ha, (w1, w2, q, hm, ho))) = (
      v ++ w1,
      w2,
      e ⋆ ap (λ (l : List Lexeme). v ++ l) q
          ⋆ sym (append_assoc v w1 w2),
      ((p.0, p.1.0), ap (λ (y : Extensible A B). y.0) d, (v, w1, refl, ha, hm)),
      of_last x.1 p.1.1 w2 (ap (λ (y : Extensible A B). y.1) d) ho,
    )
      where
        of_last : (o o' : Option (List B)) (w : List Lexeme)
            → o ≡ o'
            → (optional (preceded (Mark Comma) (marked b))).Is o' w
            → (optional (preceded (Mark Comma) (marked b))).Is o w
        of_last o o' w e h = subst (λ (o : Option (List B)). (optional (preceded (Mark Comma) (marked b))).Is o w)
            (sym e) h

    to_on : (u : List Lexeme) → (a ∙ tail a b).IsPrefix u → (extensible a b).IsPrefix u
    to_on u (inl h) = inl (inl h)
    to_on u (inr (x, v, w, e, ha, inl hw)) = inl (inr (x, v, w, e, ha, hw))
    to_on u (inr (x, v, w, e, ha, inr (xs, w1, w2, q, hm, ho))) =
        inr (
          x ∷ xs,
          v ++ w1,
          w2,
          e ⋆ ap (λ (l : List Lexeme). v ++ l) q
              ⋆ sym (append_assoc v w1 w2),
          ((x, xs), refl, (v, w1, refl, ha, hm)),
          ho,
        )

    back_is : (x : Extensible A B) (u : List Lexeme) → (extensible a b).Is x u → ((a ∙ tail a b) ⇒ first_and).Is x u
    back_is x u (v, w, e, (p, d, (v1, v2, q, ha, hm)), ho) = (
      (p.0, (p.1, x.1)),
      ap (λ (l : List A). (l, x.1)) d,
      (v1, v2 ++ w, e ⋆ ap (λ (l : List Lexeme). l ++ w) q ⋆ append_assoc v1 v2 w, ha, (v2, w, refl, hm, ho)),
    )

    back_on : (u : List Lexeme) → (extensible a b).IsPrefix u → (a ∙ tail a b).IsPrefix u
    back_on u (inl (inl h)) = inl h
    back_on u (inl (inr (x, v, w, e, ha, hw))) = inr (x, v, w, e, ha, inl hw)
    back_on u (inr (xs, v, w, e, (p, d, (v1, v2, q, ha, hm)), ho)) =
        inr (
          p.0,
          v1,
          v2 ++ w,
          e ⋆ ap (λ (l : List Lexeme). l ++ w) q
              ⋆ append_assoc v1 v2 w,
          ha,
          inr (p.1, v2, w, refl, hm, ho),
        )

module _ (over : Limit → ℕ) {A B : Type 0} (a : Grammar A) (b : Grammar B) (ra : Reader A) (rb : Reader B)
    (s : (us : List Lexeme) → Sound over a us (ra us)) (sb : (us : List Lexeme) → Sound over b us (rb us)) where
  abbrev spelled : Read (List B) → Read (Extensible A B)
  spelled r = r >>= λ ys. Ok (([], Some ys.0), ys.1)

  -- after a comma and the marker
  marked_sound : (rest : List Lexeme) (r : Read (List B))
      → Sound over (commas b) rest r
      → Sound over (tail a b) (Mark Comma ∷ Mark Ellipsis ∷ rest) (spelled r)
  marked_sound rest (Ok ys) (u, e, h) = (
    Mark Comma ∷ Mark Ellipsis ∷ u,
    ap (λ (l : List Lexeme). Mark Comma ∷ Mark Ellipsis ∷ l) e,
    (
      [],
      Mark Comma ∷ Mark Ellipsis ∷ u,
      refl,
      refl,
      is_preceded (Mark Comma) (marked b) ys.0 (Mark Ellipsis ∷ u)
          (is_preceded (Mark Ellipsis) (commas b) ys.0 u h),
    ),
  )
  marked_sound rest (Err f) (u, back, e, n, h) = (
    Mark Comma ∷ Mark Ellipsis ∷ u,
    back,
    ap (λ (l : List Lexeme). Mark Comma ∷ Mark Ellipsis ∷ l) e,
    n,
    inr (
      [],
      [],
      Mark Comma ∷ Mark Ellipsis ∷ u,
      refl,
      refl,
      inr
          (front_preceded (Mark Comma) (marked b) (Mark Ellipsis ∷ u) (front_preceded (Mark Ellipsis) (commas b) u h)),
    ),
  )

  module _ (rest back : List Lexeme) (x : A) (u : List Lexeme) (e : rest ≡ u ++ back) (h : a.Is x u) where
    whole : (v vs : List Lexeme) → back ≡ v ++ vs → Mark Comma ∷ rest ≡ ((Mark Comma ∷ u) ++ v) ++ vs
    whole v vs q = ap (λ (l : List Lexeme). Mark Comma ∷ l)
        (e ⋆ ap (λ (l : List Lexeme). u ++ l) q ⋆ sym (append_assoc u v vs))

    one_is : (y : Extensible A B) (v : List Lexeme)
        → (tail a b).Is y v
        → (tail a b).Is (x ∷ y.0, y.1) ((Mark Comma ∷ u) ++ v)
    one_is y v (v1, v2, d, hm, hb) = (
      (Mark Comma ∷ u) ++ v1,
      v2,
      ap (λ (l : List Lexeme). (Mark Comma ∷ u) ++ l) d
          ⋆ sym (append_assoc (Mark Comma ∷ u) v1 v2),
      (Mark Comma ∷ u, v1, refl, is_preceded (Mark Comma) a x u h, hm),
      hb,
    )

    commas_on : (v : List Lexeme) → (commas a).IsPrefix v → (commas a).IsPrefix ((Mark Comma ∷ u) ++ v)
    commas_on v (xs, v1, v2, d, hm, hv) = (
      x ∷ xs,
      (Mark Comma ∷ u) ++ v1,
      v2,
      ap (λ (l : List Lexeme). (Mark Comma ∷ u) ++ l) d
          ⋆ sym (append_assoc (Mark Comma ∷ u) v1 v2),
      (Mark Comma ∷ u, v1, refl, is_preceded (Mark Comma) a x u h, hm),
      hv,
    )

    one_on : (v : List Lexeme) → (tail a b).IsPrefix v → (tail a b).IsPrefix ((Mark Comma ∷ u) ++ v)
    one_on v (inl c) = inl (commas_on v c)
    one_on v (inr (xs, v1, v2, d, hm, hb)) =
        inr (
          x ∷ xs,
          (Mark Comma ∷ u) ++ v1,
          v2,
          ap (λ (l : List Lexeme). (Mark Comma ∷ u) ++ l) d
              ⋆ sym (append_assoc (Mark Comma ∷ u) v1 v2),
          (Mark Comma ∷ u, v1, refl, is_preceded (Mark Comma) a x u h, hm),
          hb,
        )

    put_sound : (r : Read (Extensible A B))
        → Sound over (tail a b) back r
        → Sound over (tail a b) (Mark Comma ∷ rest) (put x r)
    put_sound (Ok y) (v, q, k) = ((Mark Comma ∷ u) ++ v, whole v y.1 q, one_is y.0 v k)
    put_sound (Err f) (v, vs, q, n, k) = ((Mark Comma ∷ u) ++ v, vs, whole v vs q, n, one_on v k)

  plain_sound : (rest : List Lexeme) (r : Read A) (more : Reader (Extensible A B))
      → Sound over a rest r
      → ((us : List Lexeme) → Sound over (tail a b) us (more us))
      → Sound over (tail a b) (Mark Comma ∷ rest) (r >>= λ x. put x.0 (more x.1))
  plain_sound rest (Ok x) more (u, e, h) m = put_sound rest x.1 x.0 u e h (more x.1) (m x.1)
  plain_sound rest (Err f) more (u, back, e, n, h) m = (
    Mark Comma ∷ u,
    back,
    ap (λ (l : List Lexeme). Mark Comma ∷ l) e,
    n,
    inl
        ([], [], Mark Comma ∷ u, refl, refl, front_preceded (Mark Comma) a u h),
  )

  or_sound : (rest : List Lexeme) (more : Reader (Extensible A B))
      → ((us : List Lexeme) → Sound over (tail a b) us (more us))
      → Sound over (tail a b) (Mark Comma ∷ rest) (or_marker ra rb more (next_marker rest) rest)
  unfolding next_marker additions_at
  or_sound [] more m = plain_sound [] (ra []) more (s []) m
  or_sound (Mark Ellipsis ∷ rest) more m = marked_sound rest (after_commas_at rb (length rest) rest)
      (commas_sound over b rb sb (length rest) rest)
  or_sound (t ∷ rest) more m = plain_sound (t ∷ rest) (ra (t ∷ rest)) more (s (t ∷ rest)) m

  pub more_sound : (k : ℕ) (ts : List Lexeme) → Sound over (tail a b) ts (more_at ra rb k ts)
  unfolding more_at
  more_sound zero ts = ([], refl, ([], [], refl, refl, refl))
  more_sound (suc k) [] = ([], refl, ([], [], refl, refl, refl))
  more_sound (suc k) (Mark Comma ∷ ts) = or_sound ts (more_at ra rb k) (more_sound k)
  more_sound (suc k) (t ∷ ts) = ([], refl, ([], [], refl, refl, refl))
