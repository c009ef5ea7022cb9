-- Lists with an extension marker: readers refuse no prefix of the grammar before its end, and read each whole.
use Rattle.std.proofs.Common.{◌≡◌, ℕ, zero, suc, ◌≤◌, ◌⊎◌, inl, inr, Bool, true, false, List, [], ◌∷◌, ◌++◌, length, Option, Some, None, Ok, Err, refl, sym, ap, subst, ◌∙◌ as ◌⋆◌, append_assoc, arith, length-append}
use Rattle.std.proofs.lemmas.List.{append-nil}
use Rattle.text.specs.declared.token.Mark.TheVariants.{Comma, Ellipsis}
use Rattle.grammar.specs.Lexeme.{Lexeme, Mark}
use Rattle.grammar.specs.Grammar.{Grammar, IsMany, optional, preceded, marked}
use Rattle.grammar.specs.Reading.{Limit, Unexpected, Beyond, Read, Reader, ◌>>=◌, after_commas_at, Extensible, next_marker, additions_at, put, or_marker, more_at}
use Rattle.grammar.specs.Laws.{Follows, Passes, ReadsAs, Finds, passes_on, passes_made, reads_as_made, is_comma, preceded_is, preceded_front, front_preceded, follows_many, commas_shrink, commas_front, commas_whole}
use Rattle.grammar.specs.Lists.{IsSolid, head_is, with_comma}
use Rattle.grammar.specs.Rules.{either, no_left, no_right}
use Rattle.grammar.specs.Extension.{commas, tail}

module _ {A B : Type 0} (within : Limit → Type 0) (a : Grammar A) (b : Grammar B)
    (starts ends starts-b ends-b : Lexeme → Bool) (ra : Reader A) (rb : Reader B) (fa : Finds within a starts ends ra)
    (fb : Finds within b starts-b ends-b rb) (solid : IsSolid a) (apart : ends (Mark Comma) ≡ false)
    (apart-b : ends-b (Mark Comma) ≡ false) (no_mark : starts (Mark Ellipsis) ≡ false) where
  le_same : (us : List Lexeme) → length us ≤ length us
  le_same us = omega arith

  one_less : (t : Lexeme) (us : List Lexeme) → length us ≤ length (t ∷ us)
  one_less t us = omega arith

  plain_passes : (us : List Lexeme) (r : Read A) (more : Reader (Extensible A B))
      → ((vs : List Lexeme) → Passes within vs (more vs))
      → Passes within us r
      → Passes within us (r >>= λ x. put x.0 (more x.1))
  plain_passes us (Ok x) more all h = passes_on within us x.1 _ h
      (passes_made within x.1 (more x.1) (λ e. (x.0 ∷ e.0, e.1)) (all x.1))
  plain_passes us (Err (Unexpected n)) more all h = h
  plain_passes us (Err (Beyond l n)) more all h = h

  or_shrink : (us : List Lexeme) (more : Reader (Extensible A B))
      → ((vs : List Lexeme) → Passes within vs (more vs))
      → Passes within us (or_marker ra rb more (next_marker us) us)
  unfolding next_marker additions_at
  or_shrink [] more all = plain_passes [] (ra []) more all (fa.front [] [] fa.nil)
  or_shrink (Mark Ellipsis ∷ us) more all = passes_on within (Mark Ellipsis ∷ us) us _ (one_less (Mark Ellipsis) us)
      (passes_made within us (after_commas_at rb (length us) us) (λ ys. ([], Some ys))
      (commas_shrink within b starts-b ends-b rb fb (length us) us))
  or_shrink (t ∷ us) more all = plain_passes (t ∷ us) (ra (t ∷ us)) more all (fa.front [] (t ∷ us) fa.nil)

  more_shrink : (k : ℕ) (us : List Lexeme) → Passes within us (more_at ra rb k us)
  unfolding more_at
  more_shrink zero us = le_same us
  more_shrink (suc k) [] = le_same []
  more_shrink (suc k) (Mark Comma ∷ us) = passes_on within (Mark Comma ∷ us) us _ (one_less (Mark Comma) us)
      (or_shrink us (more_at ra rb k) (more_shrink k))
  more_shrink (suc k) (t ∷ us) = le_same (t ∷ us)

  -- after one more comma, for which there is fuel
  at_comma : (k : ℕ) (rest us ts : List Lexeme)
      → length ts ≤ k
      → ts ≡ Mark Comma ∷ rest
      → ((j : ℕ) → length rest ≤ j → Passes within us (or_marker ra rb (more_at ra rb j) (next_marker rest) rest))
      → Passes within us (more_at ra rb k ts)
  unfolding more_at
  at_comma zero rest us ts le e go = absurd (omega (arith, ap length e))
  at_comma (suc k) rest us ts le e go = subst (λ (l : List Lexeme). Passes within us (more_at ra rb (suc k) l)) (sym e)
      (go k (omega (arith, ap length e)))

  no_marker : (t : Lexeme) (r : List Lexeme) → starts t ≡ true → next_marker (t ∷ r) ≡ None
  unfolding next_marker
  no_marker (Mark Ellipsis) r e = let d = sym no_mark ⋆ e in absurd cc
  no_marker t r e = refl

  -- if a part begins here, the part is read
  at_part : (P : Read (Extensible A B) → Type 0) (t : Lexeme) (r : List Lexeme) (more : Reader (Extensible A B))
      → starts t ≡ true
      → P (ra (t ∷ r) >>= λ x. put x.0 (more x.1))
      → P (or_marker ra rb more (next_marker (t ∷ r)) (t ∷ r))
  at_part P t r more e h = subst (λ (o : Option (List Lexeme)). P (or_marker ra rb more o (t ∷ r)))
      (sym (no_marker t r e)) h

  -- a prefix of a part
  part_front : (j : ℕ) (w us : List Lexeme)
      → a.IsPrefix w
      → Passes within us (or_marker ra rb (more_at ra rb j) (next_marker (w ++ us)) (w ++ us))
  part_front j [] us h = or_shrink us (more_at ra rb j) (more_shrink j)
  part_front j (t ∷ w) us h = at_part (Passes within us) t (w ++ us) (more_at ra rb j) (fa.first t w h)
      (plain_passes us (ra (t ∷ (w ++ us))) (more_at ra rb j) (more_shrink j) (fa.front (t ∷ w) us h))

  -- a prefix of the marker and what comes after it
  marked_front : (j : ℕ) (w us : List Lexeme)
      → (marked b).IsPrefix w
      → Passes within us (or_marker ra rb (more_at ra rb j) (next_marker (w ++ us)) (w ++ us))
  unfolding next_marker additions_at
  marked_front j w us h = elim
      (preceded_front (Mark Ellipsis) (commas b) w ([], [], [], refl, refl, inl (inl refl)) h) [
        | inl e ↦ subst (λ (l : List Lexeme). Passes within us
            (or_marker ra rb (more_at ra rb j) (next_marker (l ++ us)) (l ++ us))) (sym e)
            (or_shrink us (more_at ra rb j) (more_shrink j))
        | inr (v, e, (xs, v1, v2, d, hm, hv)) ↦ subst
            (λ (l : List Lexeme). Passes within us
            (or_marker ra rb (more_at ra rb j) (next_marker (l ++ us)) (l ++ us)))
            (sym (e ⋆ ap (λ (l : List Lexeme). Mark Ellipsis ∷ l) d))
            (passes_made within us (after_commas_at rb (length ((v1 ++ v2) ++ us)) ((v1 ++ v2) ++ us))
            (λ ys. ([], Some ys))
            (commas_front within b starts-b ends-b rb fb apart-b (length ((v1 ++ v2) ++ us)) xs v1 v2 us
            (le_same ((v1 ++ v2) ++ us)) hm hv))
      ]

  -- after the whole parts there is nothing, or a comma and a prefix of a part or of the marker
  abbrev Last : List Lexeme → Type 0
  Last w = (w ≡ []) ⊎ ((v : List Lexeme) × (w ≡ Mark Comma ∷ v) × (a.IsPrefix v ⊎ (marked b).IsPrefix v))

  last_front : (k : ℕ) (w us : List Lexeme)
      → length (w ++ us) ≤ k
      → Last w
      → Passes within us (more_at ra rb k (w ++ us))
  last_front k w us le (inl e) = subst (λ (l : List Lexeme). Passes within us (more_at ra rb k (l ++ us))) (sym e)
      (more_shrink k us)
  last_front k w us le (inr (v, e, inl h)) = at_comma k (v ++ us) us (w ++ us) le (ap (λ (l : List Lexeme). l ++ us) e)
      (λ j lj. part_front j v us h)
  last_front k w us le (inr (v, e, inr h)) = at_comma k (v ++ us) us (w ++ us) le (ap (λ (l : List Lexeme). l ++ us) e)
      (λ j lj. marked_front j v us h)

  reads_as_more : (x : A) (us vs : List Lexeme) (r : Read A) (more : Reader (Extensible A B))
      → ReadsAs within r x vs
      → Passes within us (more vs)
      → Passes within us (r >>= λ x. put x.0 (more x.1))
  reads_as_more x us vs r more (inl e) h = subst (λ (q : Read A). Passes within us (q >>= λ x. put x.0 (more x.1)))
      (sym e) (passes_made within us (more vs) (λ e. (x ∷ e.0, e.1)) h)
  reads_as_more x us vs r more (inr w) h = subst (λ (q : Read A). Passes within us (q >>= λ x. put x.0 (more x.1)))
      (sym w.2) (inr w.1)

  -- what comes after a part begins with a comma, or is empty
  begins : (xs : List A) (q w : List Lexeme)
      → IsMany (preceded (Mark Comma) a) xs q
      → Last w
      → (q ++ w ≡ []) ⊎ ((v : List Lexeme) × (q ++ w ≡ Mark Comma ∷ v))
  begins [] q w h (inl e) = inl (ap (λ (l : List Lexeme). l ++ w) h ⋆ e)
  begins [] q w h (inr (v, e, k)) = inr (v, ap (λ (l : List Lexeme). l ++ w) h ⋆ e)
  begins (x ∷ xs) q w (p, q', e, hp, hq) l =
      let c = preceded_is (Mark Comma) a x p hp in
      inr ((c.0 ++ q') ++ w, ap (λ (l : List Lexeme). l ++ w) (e ⋆ ap (λ (l : List Lexeme). l ++ q') c.1))

  follows_comma : (ts w : List Lexeme) → ts ≡ Mark Comma ∷ w → Follows ends ts
  follows_comma ts w e = subst (Follows ends) (sym e) apart

  -- a whole part is read, and then the rest
  one_front : (j : ℕ) (x : A) (p rest us : List Lexeme)
      → a.Is x p
      → (rest ≡ []) ⊎ ((v : List Lexeme) × (rest ≡ Mark Comma ∷ v))
      → Passes within us (more_at ra rb j (rest ++ us))
      → Passes within us (or_marker ra rb (more_at ra rb j) (next_marker (p ++ (rest ++ us))) (p ++ (rest ++ us)))
  one_front j x [] rest us h c m = absurd (solid.no_empty x h)
  one_front j x (t ∷ p) rest us h (inl e) m =
      subst (λ (l : List Lexeme). Passes within us
      (or_marker ra rb (more_at ra rb j) (next_marker ((t ∷ p) ++ (l ++ us))) ((t ∷ p) ++ (l ++ us)))) (sym e)
      (part_front j (t ∷ p) us (fa.part x (t ∷ p) h))
  one_front j x (t ∷ p) rest us h (inr (v, e)) m =
      at_part (Passes within us) t (p ++ (rest ++ us)) (more_at ra rb j) (fa.first t p (fa.part x (t ∷ p) h))
      (reads_as_more x us (rest ++ us) (ra ((t ∷ p) ++ (rest ++ us))) (more_at ra rb j)
      (fa.whole x (t ∷ p) (rest ++ us) h
      (follows_comma (rest ++ us) (v ++ us) (ap (λ (l : List Lexeme). l ++ us) e))) m)

  all_front : (k : ℕ) (xs : List A) (u w us : List Lexeme)
      → length ((u ++ w) ++ us) ≤ k
      → IsMany (preceded (Mark Comma) a) xs u
      → Last w
      → Passes within us (more_at ra rb k ((u ++ w) ++ us))
  all_front k [] u w us le h l = subst (λ (v : List Lexeme). Passes within us (more_at ra rb k (v ++ us)))
      (sym (ap (λ (v : List Lexeme). v ++ w) h))
      (last_front k w us
      (omega (arith, le, ap length h, length-append u w, length-append (u ++ w) us, length-append w us)) l)
  all_front k (x ∷ xs) u w us le (p, q, e, hp, hq) l =
      let c = preceded_is (Mark Comma) a x p hp in
      let shape : (u ++ w) ++ us ≡ Mark Comma ∷ (c.0 ++ ((q ++ w) ++ us)) =
      ap (λ (l : List Lexeme). (l ++ w) ++ us) (e ⋆ ap (λ (l : List Lexeme). l ++ q) c.1)
      ⋆ ap (λ (l : List Lexeme). Mark Comma ∷ l)
      (ap (λ (l : List Lexeme). l ++ us) (append_assoc c.0 q w) ⋆ append_assoc c.0 (q ++ w) us) in
      at_comma k (c.0 ++ ((q ++ w) ++ us)) us ((u ++ w) ++ us) le shape
      (λ j lj. one_front j x c.0 (q ++ w) us c.2 (begins xs q w hq l)
      (all_front j xs q w us (omega (arith, lj, length-append c.0 ((q ++ w) ++ us))) hq l))

  last_of : (w : List Lexeme) → (preceded (Mark Comma) a).IsPrefix w → Last w
  last_of w h = elim (preceded_front (Mark Comma) a w fa.nil h) [
    | inl e ↦ inl e
    | inr (v, e, k) ↦ inr (v, e, inl k)
  ]

  last_marked : (w : List Lexeme) → (optional (preceded (Mark Comma) (marked b))).IsPrefix w → Last w
  last_marked w (inl e) = inl e
  last_marked w (inr h) = elim (preceded_front (Mark Comma) (marked b) w (inl (inl refl)) h) [
    | inl e ↦ inl e
    | inr (v, e, k) ↦ inr (v, e, inr k)
  ]

  -- no prefix is refused before its end
  tail_front : (u us : List Lexeme)
      → (tail a b).IsPrefix u
      → Passes within us (more_at ra rb (length (u ++ us)) (u ++ us))
  tail_front u us (inl (xs, v, w, e, hv, hw)) =
      subst (λ (l : List Lexeme). Passes within us (more_at ra rb (length (l ++ us)) (l ++ us))) (sym e)
      (all_front (length ((v ++ w) ++ us)) xs v w us (le_same ((v ++ w) ++ us)) hv (last_of w hw))
  tail_front u us (inr (xs, v, w, e, hv, hw)) =
      subst (λ (l : List Lexeme). Passes within us (more_at ra rb (length (l ++ us)) (l ++ us))) (sym e)
      (all_front (length ((v ++ w) ++ us)) xs v w us (le_same ((v ++ w) ++ us)) hv (last_marked w hw))

  -- ---- each whole is read

  abbrev end_of : Lexeme → Bool
  end_of = with_comma (either ends ends-b)

  ends_follow : (us : List Lexeme) → Follows end_of us → Follows ends us
  ends_follow [] f = tt
  ends_follow (Mark Comma ∷ us) f = absurd cc
  ends_follow (t ∷ us) f = no_left (ends t) (ends-b t) f

  ends_follow_b : (us : List Lexeme) → Follows end_of us → Follows ends-b us
  ends_follow_b [] f = tt
  ends_follow_b (Mark Comma ∷ us) f = absurd cc
  ends_follow_b (t ∷ us) f = no_right (ends t) (ends-b t) f

  no_commas : (us : List Lexeme) → Follows end_of us → Follows is_comma us
  no_commas [] f = tt
  no_commas (Mark Comma ∷ us) f = absurd cc
  no_commas (t ∷ us) f = refl

  more_none : (k : ℕ) (us : List Lexeme) → Follows end_of us → more_at ra rb k us ≡ Ok (([], None), us)
  unfolding more_at
  more_none zero us f = refl
  more_none (suc k) [] f = refl
  more_none (suc k) (Mark Comma ∷ us) f = absurd cc
  more_none (suc k) (t ∷ us) f = refl

  -- after one more comma, for which there is fuel
  whole_at_comma : (k : ℕ) (y : Extensible A B) (rest us ts : List Lexeme)
      → length ts ≤ k
      → ts ≡ Mark Comma ∷ rest
      → ((j : ℕ) → length rest ≤ j → ReadsAs within (or_marker ra rb (more_at ra rb j) (next_marker rest) rest) y us)
      → ReadsAs within (more_at ra rb k ts) y us
  unfolding more_at
  whole_at_comma zero y rest us ts le e go = absurd (omega (arith, ap length e))
  whole_at_comma (suc k) y rest us ts le e go =
      subst (λ (l : List Lexeme). ReadsAs within (more_at ra rb (suc k) l) y us) (sym e)
      (go k (omega (arith, ap length e)))

  reads_as_both : (x : A) (y : Extensible A B) (us vs : List Lexeme) (r : Read A) (more : Reader (Extensible A B))
      → ReadsAs within r x vs
      → ReadsAs within (more vs) y us
      → ReadsAs within (r >>= λ x. put x.0 (more x.1)) (x ∷ y.0, y.1) us
  reads_as_both x y us vs r more (inl e) (inl h) =
      inl (ap (λ (q : Read A). q >>= λ x. put x.0 (more x.1)) e ⋆ ap (put x) h)
  reads_as_both x y us vs r more (inl e) (inr h) =
      inr (h.0, h.1, ap (λ (q : Read A). q >>= λ x. put x.0 (more x.1)) e ⋆ ap (put x) h.2)
  reads_as_both x y us vs r more (inr w) h = inr (w.0, w.1, ap (λ (q : Read A). q >>= λ x. put x.0 (more x.1)) w.2)

  -- the marker and the additions are read
  marked_whole : (j : ℕ) (ys : List B) (w us : List Lexeme)
      → (marked b).Is ys w
      → Follows end_of us
      → ReadsAs within (or_marker ra rb (more_at ra rb j) (next_marker (w ++ us)) (w ++ us)) ([], Some ys) us
  unfolding next_marker additions_at
  marked_whole j ys w us h f =
      let m = preceded_is (Mark Ellipsis) (commas b) ys w h in
      subst (λ (l : List Lexeme). ReadsAs within (or_marker ra rb (more_at ra rb j) (next_marker (l ++ us)) (l ++ us))
      ([], Some ys) us) (sym m.1)
      (reads_as_made within us (after_commas_at rb (length (m.0 ++ us)) (m.0 ++ us)) ys (λ ys. ([], Some ys))
      (commas_whole within b starts-b ends-b rb fb apart-b (length (m.0 ++ us)) ys m.0 us (le_same (m.0 ++ us)) m.2
      (ends_follow_b us f) (no_commas us f)))

  last_whole : (k : ℕ) (o : Option (List B)) (w us : List Lexeme)
      → length (w ++ us) ≤ k
      → (optional (preceded (Mark Comma) (marked b))).Is o w
      → Follows end_of us
      → ReadsAs within (more_at ra rb k (w ++ us)) ([], o) us
  last_whole k None w us le h f = subst (λ (l : List Lexeme). ReadsAs within (more_at ra rb k (l ++ us)) ([], None) us)
      (sym h) (inl (more_none k us f))
  last_whole k (Some ys) w us le h f =
      let m = preceded_is (Mark Comma) (marked b) ys w h in
      whole_at_comma k ([], Some ys) (m.0 ++ us) us (w ++ us) le (ap (λ (l : List Lexeme). l ++ us) m.1)
      (λ j lj. marked_whole j ys m.0 us m.2 f)

  -- a part doesn't end before what comes after it
  last_follows : (o : Option (List B)) (w us : List Lexeme)
      → (optional (preceded (Mark Comma) (marked b))).Is o w
      → Follows end_of us
      → Follows ends (w ++ us)
  last_follows None w us h f = subst (λ (l : List Lexeme). Follows ends (l ++ us)) (sym h) (ends_follow us f)
  last_follows (Some ys) w us h f = let m = preceded_is (Mark Comma) (marked b) ys w h in follows_comma (w ++ us)
      (m.0 ++ us) (ap (λ (l : List Lexeme). l ++ us) m.1)

  tail_follows : (xs : List A) (o : Option (List B)) (v w us : List Lexeme)
      → IsMany (preceded (Mark Comma) a) xs v
      → (optional (preceded (Mark Comma) (marked b))).Is o w
      → Follows end_of us
      → Follows ends (v ++ (w ++ us))
  tail_follows xs o v w us h ho f = follows_many within a starts ends ra fa apart xs v (w ++ us) h
      (last_follows o w us ho f)

  one_whole : (j : ℕ) (x : A) (y : Extensible A B) (p rest us : List Lexeme)
      → a.Is x p
      → Follows ends (rest ++ us)
      → ReadsAs within (more_at ra rb j (rest ++ us)) y us
      →
      ReadsAs within (or_marker ra rb (more_at ra rb j) (next_marker (p ++ (rest ++ us))) (p ++ (rest ++ us)))
      (x ∷ y.0, y.1) us
  one_whole j x y [] rest us h f m = absurd (solid.no_empty x h)
  one_whole j x y (t ∷ p) rest us h f m =
      at_part (λ (r : Read (Extensible A B)). ReadsAs within r (x ∷ y.0, y.1) us) t (p ++ (rest ++ us))
      (more_at ra rb j) (fa.first t p (fa.part x (t ∷ p) h))
      (reads_as_both x y us (rest ++ us) (ra ((t ∷ p) ++ (rest ++ us))) (more_at ra rb j)
      (fa.whole x (t ∷ p) (rest ++ us) h f) m)

  all_whole : (k : ℕ) (xs : List A) (o : Option (List B)) (v w us : List Lexeme)
      → length ((v ++ w) ++ us) ≤ k
      → IsMany (preceded (Mark Comma) a) xs v
      → (optional (preceded (Mark Comma) (marked b))).Is o w
      → Follows end_of us
      → ReadsAs within (more_at ra rb k ((v ++ w) ++ us)) (xs, o) us
  all_whole k [] o v w us le h ho f = subst (λ (l : List Lexeme). ReadsAs within (more_at ra rb k (l ++ us)) ([], o) us)
      (sym (ap (λ (l : List Lexeme). l ++ w) h))
      (last_whole k o w us
      (omega (arith, le, ap length h, length-append v w, length-append (v ++ w) us, length-append w us)) ho f)
  all_whole k (x ∷ xs) o v w us le (p, q, e, hp, hq) ho f =
      let c = preceded_is (Mark Comma) a x p hp in
      let shape : (v ++ w) ++ us ≡ Mark Comma ∷ (c.0 ++ ((q ++ w) ++ us)) =
      ap (λ (l : List Lexeme). (l ++ w) ++ us) (e ⋆ ap (λ (l : List Lexeme). l ++ q) c.1)
      ⋆ ap (λ (l : List Lexeme). Mark Comma ∷ l)
      (ap (λ (l : List Lexeme). l ++ us) (append_assoc c.0 q w) ⋆ append_assoc c.0 (q ++ w) us) in
      whole_at_comma k (x ∷ xs, o) (c.0 ++ ((q ++ w) ++ us)) us ((v ++ w) ++ us) le shape
      (λ j lj. one_whole j x (xs, o) c.0 (q ++ w) us c.2
      (subst (Follows ends) (sym (append_assoc q w us)) (tail_follows xs o q w us hq ho f))
      (all_whole j xs o q w us (omega (arith, lj, length-append c.0 ((q ++ w) ++ us))) hq ho f))

  tail_whole : (y : Extensible A B) (u us : List Lexeme)
      → (tail a b).Is y u
      → Follows end_of us
      → ReadsAs within (more_at ra rb (length (u ++ us)) (u ++ us)) y us
  tail_whole y u us (v, w, e, hv, hw) f =
      subst (λ (l : List Lexeme). ReadsAs within (more_at ra rb (length (l ++ us)) (l ++ us)) y us) (sym e)
      (all_whole (length ((v ++ w) ++ us)) y.0 y.1 v w us (le_same ((v ++ w) ++ us)) hv hw f)

  tail_first : (t : Lexeme) (u : List Lexeme) → (tail a b).IsPrefix (t ∷ u) → is_comma t ≡ true
  tail_first t u h = elim (front_begins (t ∷ u) h) [
    | inl e ↦ absurd cc
    | inr (v, e) ↦ subst (λ (t : Lexeme). is_comma t ≡ true) (sym (head_is t (Mark Comma) u v e)) refl
  ]
    where
      shaped : (u v : List Lexeme)
          → u ≡ v
          → (v ≡ []) ⊎ ((w : List Lexeme) × (v ≡ Mark Comma ∷ w))
          → (u ≡ []) ⊎ ((w : List Lexeme) × (u ≡ Mark Comma ∷ w))
      shaped u v e (inl q) = inl (e ⋆ q)
      shaped u v e (inr (w, q)) = inr (w, e ⋆ q)

      front_begins : (u : List Lexeme) → (tail a b).IsPrefix u → (u ≡ []) ⊎ ((v : List Lexeme) × (u ≡ Mark Comma ∷ v))
      front_begins u (inl (xs, v, w, e, hv, hw)) = shaped u (v ++ w) e (begins xs v w hv (last_of w hw))
      front_begins u (inr (xs, v, w, e, hv, hw)) = shaped u (v ++ w) e (begins xs v w hv (last_marked w hw))

  tail_part : (y : Extensible A B) (u : List Lexeme) → (tail a b).Is y u → (tail a b).IsPrefix u
  tail_part y u (v, w, e, hv, hw) = inr (y.0, v, w, e, hv, last_part y.1 w hw)
    where
      last_part : (o : Option (List B)) (w : List Lexeme)
          → (optional (preceded (Mark Comma) (marked b))).Is o w
          → (optional (preceded (Mark Comma) (marked b))).IsPrefix w
      last_part None w h = inl h
      last_part (Some ys) w h =
          let m = preceded_is (Mark Comma) (marked b) ys w h in
          let n = preceded_is (Mark Ellipsis) (commas b) ys m.0 m.2 in
          inr (subst (preceded (Mark Comma) (marked b)).IsPrefix (sym m.1)
          (front_preceded (Mark Comma) (marked b) m.0
          (subst (marked b).IsPrefix (sym n.1)
          (front_preceded (Mark Ellipsis) (commas b) n.0
          (ys, n.0, [], sym (append-nil n.0), n.2, inl (inl refl))))))

  pub tail_finds : Finds within (tail a b) is_comma end_of (λ us. more_at ra rb (length us) us)
  tail_finds = record {
    nil = inl ([], [], [], refl, refl, inl (inl refl));
    part = tail_part;
    first =
        tail_first;
    whole = tail_whole;
    front = tail_front;
  }
