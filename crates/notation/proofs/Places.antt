-- What is read from a place on is a value there, all of them are read, and a fault is the first one.
use Rattle.std.proofs.Common.{◌≡◌, ℕ, zero, suc, ◌≤◌, ◌+◌, ◌||◌, inl, inr, Bool, true, List, [], ◌∷◌, ◌++◌, Ok, refl, sym, ap, subst, ◌∙◌ as ◌⋆◌, arith}
use Rattle.text.specs.declared.token.Mark.TheVariants.{Colon}
use Rattle.grammar.specs.Lexeme.{Lexeme, Ident, Mark}
use Rattle.grammar.specs.Grammar.{Grammar, token, number_of, ◌∙◌, many, preceded, listed, braces}
use Rattle.grammar.specs.Grows.{Grows, same_grows, number_grows, seq_grows, made_grows, either_grows, many_grows, preceded_grows, listed_grows, braces_grows}
use Rattle.grammar.specs.Reading.{Limit, Nesting, Integer, TagNumber, Read}
use Rattle.grammar.specs.Laws.{past, everywhere, Sound, Follows, ReadsAs, Finds, preceded_is}
use Rattle.grammar.specs.Places.{Limits, any, small, bounded, Within, raised, free}
use Rattle.grammar.specs.Answers.{Closed, joined, joined_second, Reads}
use Rattle.trees.specs.Values.{Tree, chosen, numbers, items, fields, trees, named_trees}
use Rattle.notation.specs.Value.{simple, nested, value, values}
use Rattle.notation.specs.Reading.{step_at, value_at}
use Rattle.notation.proofs.Sounds.{chosen_of, empty_braces, three_numbers, numbers_of, items_of, fields_of, value_sound, value_deeper, value_wider, value_higher}
use Rattle.notation.specs.Laws.{starts, goes_on, ValueLaws}
use Rattle.notation.proofs.Values.{simple_whole, colon_reads_as, braced_whole}
use Rattle.notation.proofs.Whole.{v_part, v_solid, v_number, v_name, v_after_number, v_after_name, zero_colon, zero_brace, zero_step, suc_step, suc_colon, suc_brace, value_finds}

-- ---- a whole is read if the next lexeme can't continue it

module _ (fits fits' : ℕ → Bool) (room : (n : ℕ) → fits' n ≡ true → Unit {0} → fits n ≡ true) where
  at_colon : (x : List ℕ) (us : List Lexeme) → Closed (free values) (Ident x ∷ []) us → Follows goes_on us
  at_colon x [] c = tt
  at_colon x ((Mark Colon) ∷ us) c = absurd (c (Mark Colon) us refl (record { nesting = suc zero; number = any; tag = any }, (inr (inl (inr (x, Ident x ∷ [], (Mark Colon) ∷ [], refl, refl, inl (inr (tt, refl))))))))
  at_colon x (t ∷ us) c = refl

  closed_name : (u us : List Lexeme) → Closed (free values) u us → (x : List ℕ) → u ≡ Ident x ∷ [] → Follows goes_on us
  closed_name u us c x e = at_colon x us (subst (λ (l : List Lexeme). Closed (free values) l us) e c)

  closed_inside : (x : List ℕ) (w u us : List Lexeme)
      → u ≡ Ident x ∷ (Mark Colon) ∷ w
      → Closed (free values) u us
      → Closed (free values) w us
  closed_inside x w u us e c t r d (a, h) =
      c t r d (record { nesting = suc a.nesting; number = a.number; tag = a.tag }, subst (λ (l : List Lexeme). (value a.number (suc a.nesting)).IsPrefix (l ++ t ∷ [])) (sym e) (inr (inl (inr (x, Ident x ∷ [], (Mark Colon) ∷ (w ++ t ∷ []), refl, refl, inr (tt, (Mark Colon) ∷ [], w ++ t ∷ [], refl, refl, h))))))

  to_zero : (z : Tree) (u us : List Lexeme)
      → ReadsAs everywhere (step_at fits zero (value_at fits zero) (u ++ us)) z us
      → ReadsAs everywhere (value_at fits zero (u ++ us)) z us
  to_zero z u us h = subst (λ (q : Read Tree). ReadsAs everywhere q z us) (zero_step everywhere fits fits' room (u ++ us)) h

  to_suc : (n : ℕ) (z : Tree) (u us : List Lexeme)
      → ReadsAs everywhere (step_at fits (suc n) (value_at fits n) (u ++ us)) z us
      → ReadsAs everywhere (value_at fits (suc n) (u ++ us)) z us
  to_suc n z u us h = subst (λ (q : Read Tree). ReadsAs everywhere q z us) (suc_step everywhere fits fits' room n (u ++ us)) h

  pub value_closed : (n m : ℕ) (z : Tree) (u us : List Lexeme)
      → m ≤ n
      → (value fits' m).Is z u
      → Closed (free values) u us
      → ReadsAs everywhere (value_at fits n (u ++ us)) z us
  value_closed zero zero z u us le h c = to_zero z u us (simple_whole everywhere fits fits' room zero (value_at fits zero) (zero_colon everywhere fits fits' room) (zero_brace everywhere fits fits' room) z u us (closed_name u us c) h)
  value_closed zero (suc m) z u us le h c = absurd (omega arith)
  value_closed (suc n) zero z u us le h c =
      let f = value_finds everywhere fits fits' room n zero (λ e. omega arith) in
      to_suc n z u us (simple_whole everywhere fits fits' room (suc n) (value_at fits n) (suc_colon everywhere fits fits' room n f) (suc_brace everywhere fits fits' room n f) z u us (closed_name u us c) h)
  value_closed (suc n) (suc m) z u us le (inl h) c =
      let f = value_finds everywhere fits fits' room n zero (λ e. omega arith) in
      to_suc n z u us (simple_whole everywhere fits fits' room (suc n) (value_at fits n) (suc_colon everywhere fits fits' room n f) (suc_brace everywhere fits fits' room n f) z u us (closed_name u us c) h)
  value_closed (suc n) (suc m) z u us le (inr (inl (x, d, (p, q, e, hp, hq)))) c =
      let f = value_finds everywhere fits fits' room n zero (λ e. omega arith) in
      let b = preceded_is (Mark Colon) (value fits' m) x.1 q hq in
      let shape = e ⋆ ap (λ (l : List Lexeme). l ++ q) hp ⋆ ap (λ (l : List Lexeme). Ident x.0 ∷ l) b.1 in
      to_suc n z u us (colon_reads_as everywhere fits fits' room (suc n) (value_at fits n) (suc_colon everywhere fits fits' room n f) (suc_brace everywhere fits fits' room n f) (value fits' m) (value_finds everywhere fits fits' room n m (λ e. omega arith)) (v_solid fits' m) (v_number fits' m) (v_name fits' m) (v_after_number fits' m) (v_after_name fits' m) (λ ts us z r h. h)
      x.0 x.1 z b.0 u us d shape (value_closed n m x.1 b.0 us (omega arith) b.2 (closed_inside x.0 b.0 u us shape c)))
  value_closed (suc n) (suc m) z u us le (inr (inr h)) c =
      let f = value_finds everywhere fits fits' room n zero (λ e. omega arith) in
      to_suc n z u us (braced_whole everywhere fits fits' room (suc n) (value_at fits n) (suc_colon everywhere fits fits' room n f) (suc_brace everywhere fits fits' room n f) (value fits' m) (value_finds everywhere fits fits' room n m (λ e. omega arith)) (v_solid fits' m) (v_number fits' m) (v_name fits' m) (v_after_number fits' m) (v_after_name fits' m) (λ ts us z r h. h) z u us h)

-- with more numbers there are more values
module _ (fits fits' : ℕ → Bool) (grows : (n : ℕ) → fits n ≡ true → fits' n ≡ true) where
  simple_grows : Grows (simple fits) (simple fits')
  simple_grows = record { is = is; on = on }
    where
      is : (x : Tree) (u : List Lexeme) → (simple fits).Is x u → (simple fits').Is x u
      is x u (inr (inr (inr (inl (n, e, h))))) = inr (inr (inr (inl (n, e, (grows n h.0, h.1)))))
      is x u (inl h) = inl h
      is x u (inr (inl h)) = inr (inl h)
      is x u (inr (inr (inl h))) = inr (inr (inl h))
      is x u (inr (inr (inr (inr h)))) = inr (inr (inr (inr h)))

      on : (u : List Lexeme) → (simple fits).IsPrefix u → (simple fits').IsPrefix u
      on u (inr (inr (inr (inl h)))) = inr (inr (inr (inl ((number_grows fits fits' grows).on u h))))
      on u (inl h) = inl h
      on u (inr (inl h)) = inr (inl h)
      on u (inr (inr (inl h))) = inr (inr (inl h))
      on u (inr (inr (inr (inr h)))) = inr (inr (inr (inr h)))

  three_grow : Grows (three_numbers fits) (three_numbers fits')
  three_grow =
      seq_grows (number_of fits) (number_of fits') (number_of fits ∙ many (number_of fits)) (number_of fits' ∙ many (number_of fits')) (number_grows fits fits' grows)
      (seq_grows (number_of fits) (number_of fits') (many (number_of fits)) (many (number_of fits')) (number_grows fits fits' grows) (many_grows (number_of fits) (number_of fits') (number_grows fits fits' grows)))

  nested_grows : (v v' : Grammar Tree) → Grows v v' → Grows (nested fits v) (nested fits' v')
  nested_grows v v' g =
      either_grows (chosen_of v) (chosen_of v') _ _ (made_grows (token Ident ∙ preceded (Mark Colon) v) (token Ident ∙ preceded (Mark Colon) v') (λ p. chosen p.0 p.1) (seq_grows (token Ident) (token Ident) (preceded (Mark Colon) v) (preceded (Mark Colon) v') (same_grows (token Ident)) (preceded_grows (Mark Colon) v v' g)))
      (either_grows empty_braces empty_braces _ _ (same_grows empty_braces)
      (either_grows (numbers_of fits) (numbers_of fits') _ _ (made_grows (braces (three_numbers fits)) (braces (three_numbers fits')) (λ p. numbers (p.0 ∷ p.1.0 ∷ p.1.1)) (braces_grows (three_numbers fits) (three_numbers fits') three_grow))
      (either_grows (items_of v) (items_of v') (fields_of v) (fields_of v') (made_grows (braces (listed v)) (braces (listed v')) (λ vs. items (trees vs)) (braces_grows (listed v) (listed v') (listed_grows v v' g)))
      (made_grows (braces (listed (token Ident ∙ v))) (braces (listed (token Ident ∙ v'))) (λ ms. fields (named_trees ms)) (braces_grows (listed (token Ident ∙ v)) (listed (token Ident ∙ v')) (listed_grows (token Ident ∙ v) (token Ident ∙ v') (seq_grows (token Ident) (token Ident) v v' (same_grows (token Ident)) g)))))))

  pub value_grows : (n : ℕ) → Grows (value fits n) (value fits' n)
  value_grows zero = simple_grows
  value_grows (suc n) = either_grows (simple fits) (simple fits') (nested fits (value fits n)) (nested fits' (value fits' n)) simple_grows (nested_grows (value fits n) (value fits' n) (value_grows n))

-- A list of lexemes is one value at most.
pub one_tree : (u : List Lexeme) (v w : Tree) → (free values).Is v u → (free values).Is w u → v ≡ w
one_tree u v w (a, h) (b, l) =
    let m = a.nesting in
    let k = b.nesting in
    let p = value_closed any a.number (λ n e t. refl) (m + k) m v u [] (omega arith) h (λ t r e. absurd cc) in
    let q = value_closed any b.number (λ n e t. refl) (m + k) k w u [] (omega arith) l (λ t r e. absurd cc) in
    same (m + k) p q
  where
    one_result : (x y : Tree × List Lexeme) (r : Read Tree) → r ≡ Ok x → r ≡ Ok y → x ≡ y
    one_result x y r p q = let e = sym p ⋆ q in cc

    same : (n : ℕ)
        → ReadsAs everywhere (value_at any n (u ++ [])) v []
        → ReadsAs everywhere (value_at any n (u ++ [])) w []
        → v ≡ w
    same n (inl p) (inl q) = ap (λ (x : Tree × List Lexeme). x.0) (one_result (v, []) (w, []) (value_at any n (u ++ [])) p q)
    same n (inl p) (inr (g, k, q)) = absurd (k tt)
    same n (inr (g, k, p)) q = absurd (k tt)

-- if a limit is passed, the lexemes can go on once only that limit is raised
values_passed : (n : ℕ) (l : Limit)
    → (b : Limits) × ((ts : List Lexeme) → Sound (past l) (values (raised l (bounded n) b)) ts (value_at small n ts))
values_passed n Nesting = (bounded (suc n), value_deeper small n)
values_passed n Integer = (record { nesting = n; number = any; tag = any }, value_wider small n)
values_passed n TagNumber = (bounded n, value_higher small n)

pub values_found : (a b : Limits)
    → Finds (λ l. Within l b a) (value b.number b.nesting) (starts b.number) goes_on (value_at a.number a.nesting)
values_found a b = value_finds (λ l. Within l b a) a.number b.number (λ n e w. w n e) a.nesting b.nesting (λ w. w)

pub value_reads : (n : ℕ) → Reads values (bounded n) (value_at small n)
value_reads n = record {
  grows = λ b. value_grows b.number (λ k. small k || b.number k) (joined_second small b.number) b.nesting;
  front = λ b u us h. (values_found (bounded n) (joined (bounded n) b)).front u us h;
  whole = λ b x u h. (values_found (bounded n) (joined (bounded n) b)).whole x u [] h tt;
  part = v_part small n;
  sound = value_sound small n;
  passed = values_passed n;
  closed = λ x u us h c. within_itself (value_at small n (u ++ us)) x us (value_closed small small (λ k e t. e) n n x u us (omega arith) h c);
}
  where
    within_itself : (r : Read Tree) (x : Tree) (us : List Lexeme)
        → ReadsAs everywhere r x us
        → ReadsAs (λ l. Within l (bounded n) (bounded n)) r x us
    within_itself r x us (inl e) = inl e
    within_itself r x us (inr (p, k, e)) = absurd (k tt)

pub laws : ValueLaws
laws = record {
  sound = value_sound small;
  sound_any = value_wider small;
  sound_higher = value_higher small;
  sound_deeper = value_deeper small;
  finds = values_found;
  grows = value_grows;
  solid = v_solid;
}
