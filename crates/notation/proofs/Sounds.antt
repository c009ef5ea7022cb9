-- What is read as a value is one, and the lexemes before a fault can go on.
use Rattle.std.proofs.Common.{◌≡◌, ℕ, zero, suc, inl, inr, Bool, true, false, List, [], ◌∷◌, length, None, Ok, Err, refl, sym, ap, arith}
use Rattle.text.specs.declared.token.Mark.TheVariants.{Colon, Dot, Minus, OpenBrace, CloseBrace}
use Rattle.text.specs.declared.reserved.Word.TheVariants.{True, False, Null}
use Rattle.grammar.specs.Lexeme.{Lexeme, TypeRef, Ident, Number, BString, HString, CString, Word, Mark}
use Rattle.grammar.specs.Grammar.{Grammar, token, mark, number_of, ◌∙◌, ◌∣◌, ◌⇒◌, many, preceded, listed, braces}
use Rattle.grammar.specs.Reading.{Limit, Nesting, Integer, Read, Reader, ◌>>=◌, stop, closed_at, listed_at, named_at, fitting, opened}
use Rattle.grammar.specs.Laws.{nowhere, deeper, wider, higher, more as left_when, Sound, seq_sound, is_preceded, front_preceded}
use Rattle.grammar.specs.Lists.{left_sound, right_sound, stop_sound, closed_sound, listed_sound, brace_sound, named_sound}
use Rattle.grammar.specs.Numbers.{Past, fitting_sound}
use Rattle.grammar.specs.Places.{any}
use Rattle.trees.specs.Values.{Tree, yes, no, null, binary, hex, chars, reference, chosen, nothing, numbers, items, fields, trees, named_trees}
use Rattle.notation.specs.Value.{positive, simple, nested, value}
use Rattle.notation.specs.Reading.{negative_at, ref_name_at, ref_dot_at, referred, numbers_at, items_at, fields_at, follows_name, by_name_at, two_numbers_at, by_number_at, braced_at, alternative_at, step_at, value_at}

-- the productions of what opens
abbrev pub chosen_of : Grammar Tree → Grammar Tree
chosen_of v = (token Ident ∙ preceded (Mark Colon) v) ⇒ (λ p. chosen p.0 p.1)

abbrev pub empty_braces : Grammar Tree
empty_braces = (mark OpenBrace ∙ mark CloseBrace) ⇒ (λ _. nothing)

abbrev pub three_numbers : (ℕ → Bool) → Grammar (ℕ × (ℕ × List ℕ))
three_numbers fits = number_of fits ∙ (number_of fits ∙ many (number_of fits))

abbrev pub numbers_of : (ℕ → Bool) → Grammar Tree
numbers_of fits = braces (three_numbers fits) ⇒ (λ p. numbers (p.0 ∷ p.1.0 ∷ p.1.1))

abbrev pub items_of : Grammar Tree → Grammar Tree
items_of v = braces (listed v) ⇒ (λ vs. items (trees vs))

abbrev pub fields_of : Grammar Tree → Grammar Tree
fields_of v = braces (listed (token Ident ∙ v)) ⇒ (λ ms. fields (named_trees ms))

-- fits is the reader's test on numbers, fits' the grammar's
module _ (over : Limit → ℕ) (fits fits' : ℕ → Bool) (grows : (n : ℕ) → fits n ≡ true → fits' n ≡ true)
    (past : Past (over Integer) ((n : ℕ) → fits' n ≡ true)) where
  abbrev more : Grammar (List ℕ)
  more = many (number_of fits')

  next_number_sound : (n : ℕ) (ts : List Lexeme)
      → fits' n ≡ true
      → (r : Read (List ℕ))
      → Sound over more ts r
      → Sound over more (Number n ∷ ts) (r >>= λ ns. Ok (n ∷ ns.0, ns.1))
  next_number_sound n ts f (Ok ns) s = (Number n ∷ s.0, ap (λ (l : List Lexeme). Number n ∷ l) s.1, (Number n ∷ [], s.0, refl, (f, refl), s.2))
  next_number_sound n ts f (Err g) (u, rest, e, k, (ns, v, w, p, hv, hw)) =
      (Number n ∷ u, rest, ap (λ (l : List Lexeme). Number n ∷ l) e, k, (n ∷ ns, Number n ∷ v, w, ap (λ (l : List Lexeme). Number n ∷ l) p, (Number n ∷ [], v, refl, (f, refl), hv), hw))

  numbers_sound : (ts : List Lexeme) → Sound over more ts (numbers_at fits ts)
  unfolding numbers_at
  numbers_sound [] = ([], refl, refl)
  numbers_sound (Number n ∷ ts) =
      fitting_sound over fits fits' past more (fits n) n [] ts _ ([], [], [], refl, refl, inl refl) (λ f. ([], [], Number n ∷ [], refl, refl, inr (n, f, refl)))
      (λ f. next_number_sound n ts (grows n f) (numbers_at fits ts) (numbers_sound ts))
  numbers_sound (t ∷ ts) = ([], refl, refl)

  -- two numbers and more, in braces
  all_numbers : (a b : ℕ)
      → fits' a ≡ true
      → fits' b ≡ true
      → (ts : List Lexeme) (r : Read Tree)
      → Sound over ((more ∙ mark CloseBrace) ⇒ (λ p. numbers (a ∷ b ∷ p.0))) ts r
      →
      Sound over ((three_numbers fits' ∙ mark CloseBrace) ⇒ (λ p. numbers (p.0.0 ∷ p.0.1.0 ∷ p.0.1.1))) (Number a ∷ Number b ∷ ts) r
  all_numbers a b fa fb ts (Ok x) (u, e, (p, q, (v, w, d, hv, hw))) = (
    Number a ∷ Number b ∷ u,
    ap (λ (l : List Lexeme). Number a ∷ Number b ∷ l) e,
    (((a, (b, p.0)), p.1), q, (Number a ∷ Number b ∷ v, w, ap (λ (l : List Lexeme). Number a ∷ Number b ∷ l) d, (Number a ∷ [], Number b ∷ v, refl, (fa, refl), (Number b ∷ [], v, refl, (fb, refl), hv)), hw)),
  )
  all_numbers a b fa fb ts (Err f) (u, rest, e, k, inl h) = (
    Number a ∷ Number b ∷ u,
    rest,
    ap (λ (l : List Lexeme). Number a ∷ Number b ∷ l) e,
    k,
    inl (inr (a, Number a ∷ [], Number b ∷ u, refl, (fa, refl), inr (b, Number b ∷ [], u, refl, (fb, refl), h))),
  )
  all_numbers a b fa fb ts (Err f) (u, rest, e, k, inr (ns, v, w, d, hv, hw)) = (
    Number a ∷ Number b ∷ u,
    rest,
    ap (λ (l : List Lexeme). Number a ∷ Number b ∷ l) e,
    k,
    inr ((a, (b, ns)), Number a ∷ Number b ∷ v, w, ap (λ (l : List Lexeme). Number a ∷ Number b ∷ l) d, (Number a ∷ [], Number b ∷ v, refl, (fa, refl), (Number b ∷ [], v, refl, (fb, refl), hv)), hw),
  )

  two_numbers_sound : (a b : ℕ)
      → fits' a ≡ true
      → fits' b ≡ true
      → (ts : List Lexeme)
      → Sound over (numbers_of fits') (Mark OpenBrace ∷ Number a ∷ Number b ∷ ts) (two_numbers_at fits a b ts)
  unfolding two_numbers_at
  two_numbers_sound a b fa fb ts =
      brace_sound over (three_numbers fits') (λ p. numbers (p.0 ∷ p.1.0 ∷ p.1.1)) (Number a ∷ Number b ∷ ts) _
      (all_numbers a b fa fb ts (two_numbers_at fits a b ts) (seq_sound over more (mark CloseBrace) (λ p. numbers (a ∷ b ∷ p.0)) ts (numbers_at fits ts) closed_at (numbers_sound ts) (closed_sound over)))

  module _ (v : Grammar Tree) (read : Reader Tree) (s : (us : List Lexeme) → Sound over v us (read us)) where
    abbrev all : Grammar Tree
    all = simple fits' ∣ nested fits' v

    -- from the productions of what opens to all
    up : (ts : List Lexeme) (r : Read Tree) → Sound over (nested fits' v) ts r → Sound over all ts r
    up ts r h = right_sound over (simple fits') (nested fits' v) ts r h

    up_numbers : (ts : List Lexeme) (r : Read Tree) → Sound over (numbers_of fits') ts r → Sound over all ts r
    up_numbers ts r h = up ts r (right_sound over (chosen_of v) _ ts r (right_sound over empty_braces _ ts r (left_sound over (numbers_of fits') _ ts r h)))

    up_items : (ts : List Lexeme) (r : Read Tree) → Sound over (items_of v) ts r → Sound over all ts r
    up_items ts r h = up ts r (right_sound over (chosen_of v) _ ts r (right_sound over empty_braces _ ts r (right_sound over (numbers_of fits') _ ts r (left_sound over (items_of v) (fields_of v) ts r h))))

    up_fields : (ts : List Lexeme) (r : Read Tree) → Sound over (fields_of v) ts r → Sound over all ts r
    up_fields ts r h = up ts r (right_sound over (chosen_of v) _ ts r (right_sound over empty_braces _ ts r (right_sound over (numbers_of fits') _ ts r (right_sound over (items_of v) (fields_of v) ts r h))))

    items_sound : (ts : List Lexeme) → Sound over all (Mark OpenBrace ∷ ts) (items_at read ts)
    unfolding items_at
    items_sound ts =
        up_items (Mark OpenBrace ∷ ts) (items_at read ts)
        (brace_sound over (listed v) (λ vs. items (trees vs)) ts (items_at read ts) (seq_sound over (listed v) (mark CloseBrace) (λ p. items (trees p.0)) ts (listed_at read ts) closed_at (listed_sound over v read s ts) (closed_sound over)))

    fields_sound : (ts : List Lexeme) → Sound over all (Mark OpenBrace ∷ ts) (fields_at read ts)
    unfolding fields_at
    fields_sound ts =
        up_fields (Mark OpenBrace ∷ ts) (fields_at read ts)
        (brace_sound over (listed (token Ident ∙ v)) (λ ms. fields (named_trees ms)) ts (fields_at read ts) (seq_sound over (listed (token Ident ∙ v)) (mark CloseBrace) (λ p. fields (named_trees p.0)) ts (listed_at (named_at read) ts) closed_at (listed_sound over (token Ident ∙ v) (named_at read) (named_sound over v read s) ts) (closed_sound over)))

    by_name_sound : (b : Bool) (ts : List Lexeme) → Sound over all (Mark OpenBrace ∷ ts) (by_name_at b read ts)
    unfolding by_name_at
    by_name_sound true ts = items_sound ts
    by_name_sound false ts = fields_sound ts

    -- numbers in braces, as far as they have come
    front_one : (a : ℕ) → fits' a ≡ true → all.IsPrefix (Mark OpenBrace ∷ Number a ∷ [])
    front_one a fa = inr (inr (inr (inl (inr (tt, Mark OpenBrace ∷ [], Number a ∷ [], refl, refl, inl (inl (inr (a, fa, refl))))))))

    front_two : (a b : ℕ) → fits' a ≡ true → fits' b ≡ true → all.IsPrefix (Mark OpenBrace ∷ Number a ∷ Number b ∷ [])
    front_two a b fa fb = inr (inr (inr (inl (inr (tt, Mark OpenBrace ∷ [], Number a ∷ Number b ∷ [], refl, refl, inl (inr (a, Number a ∷ [], Number b ∷ [], refl, (fa, refl), inl (inr (b, fb, refl)))))))))

    by_number_sound : (a : ℕ)
        → fits' a ≡ true
        → (ts : List Lexeme)
        → Sound over all (Mark OpenBrace ∷ Number a ∷ ts) (by_number_at fits read a ts)
    unfolding by_number_at
    by_number_sound a fa [] = items_sound (Number a ∷ [])
    by_number_sound a fa (Number b ∷ ts) =
        fitting_sound over fits fits' past all (fits b) b (Mark OpenBrace ∷ Number a ∷ []) ts (two_numbers_at fits a b ts) (front_one a fa) (λ fb. front_two a b fa fb)
        (λ f. up_numbers (Mark OpenBrace ∷ Number a ∷ Number b ∷ ts) (two_numbers_at fits a b ts) (two_numbers_sound a b fa (grows b f) ts))
    by_number_sound a fa (t ∷ ts) = items_sound (Number a ∷ t ∷ ts)

    braced_sound : (ts : List Lexeme) → Sound over all (Mark OpenBrace ∷ ts) (braced_at fits read ts)
    unfolding braced_at
    braced_sound [] = items_sound []
    braced_sound (Mark CloseBrace ∷ ts) = (Mark OpenBrace ∷ Mark CloseBrace ∷ [], refl, inr (inr (inl ((tt, tt), refl, (Mark OpenBrace ∷ [], Mark CloseBrace ∷ [], refl, refl, refl)))))
    braced_sound (Number a ∷ ts) =
        fitting_sound over fits fits' past all (fits a) a (Mark OpenBrace ∷ []) ts (by_number_at fits read a ts) (inr (inr (inl (inl (inr (tt, refl)))))) (λ fa. front_one a fa)
        (λ f. by_number_sound a (grows a f) ts)
    braced_sound (Ident x ∷ ts) = by_name_sound (follows_name ts) (Ident x ∷ ts)
    braced_sound (t ∷ ts) = items_sound (t ∷ ts)

    chosen_sound : (x : List ℕ) (ts : List Lexeme) (r : Read Tree)
        → Sound over v ts r
        → Sound over (chosen_of v) (Ident x ∷ Mark Colon ∷ ts) (r >>= λ t. Ok (chosen x t.0, t.1))
    chosen_sound x ts (Ok t) (u, e, h) = (Ident x ∷ Mark Colon ∷ u, ap (λ (l : List Lexeme). Ident x ∷ Mark Colon ∷ l) e, ((x, t.0), refl, (Ident x ∷ [], Mark Colon ∷ u, refl, refl, is_preceded (Mark Colon) v t.0 u h)))
    chosen_sound x ts (Err f) (u, rest, e, k, h) = (Ident x ∷ Mark Colon ∷ u, rest, ap (λ (l : List Lexeme). Ident x ∷ Mark Colon ∷ l) e, k, inr (x, Ident x ∷ [], Mark Colon ∷ u, refl, refl, front_preceded (Mark Colon) v u h))

  -- ---- the first lexeme of a value

  at_module : (m : List ℕ) → (simple fits').IsPrefix (TypeRef m ∷ [])
  at_module m = inr (inr (inr (inr (inr (inr (inr (inr (inr (inl (inr (m, refl)))))))))))

  at_dot : (m : List ℕ) → (simple fits').IsPrefix (TypeRef m ∷ Mark Dot ∷ [])
  at_dot m = inr (inr (inr (inr (inr (inr (inr (inr (inr (inr (m, TypeRef m ∷ [], Mark Dot ∷ [], refl, refl, front_preceded (Mark Dot) (token Ident) [] (inl refl)))))))))))

  value_name_sound : (m : List ℕ) (ts : List Lexeme)
      → Sound over (simple fits') (TypeRef m ∷ Mark Dot ∷ ts) (referred (ref_name_at m ts))
  unfolding ref_name_at
  value_name_sound m [] = (TypeRef m ∷ Mark Dot ∷ [], [], refl, refl, at_dot m)
  value_name_sound m (Ident x ∷ ts) = (TypeRef m ∷ Mark Dot ∷ Ident x ∷ [], refl, inr (inr (inr (inr (inr (inr (inr (inr (inr ((m, x), refl, (TypeRef m ∷ [], Mark Dot ∷ Ident x ∷ [], refl, refl, is_preceded (Mark Dot) (token Ident) x (Ident x ∷ []) refl)))))))))))
  value_name_sound m (t ∷ ts) = (TypeRef m ∷ Mark Dot ∷ [], t ∷ ts, refl, refl, at_dot m)

  qualified_sound : (m : List ℕ) (ts : List Lexeme)
      → Sound over (simple fits') (TypeRef m ∷ ts) (referred (ref_dot_at m ts))
  unfolding ref_dot_at
  qualified_sound m [] = (TypeRef m ∷ [], [], refl, refl, at_module m)
  qualified_sound m (Mark Dot ∷ ts) = value_name_sound m ts
  qualified_sound m (t ∷ ts) = (TypeRef m ∷ [], t ∷ ts, refl, refl, at_module m)

  at_minus : (simple fits').IsPrefix (Mark Minus ∷ [])
  at_minus = inr (inr (inr (inr (inl (front_preceded (Mark Minus) (token Number) [] (inl refl))))))

  negative_sound : (ts : List Lexeme) → Sound over (simple fits') (Mark Minus ∷ ts) (negative_at ts)
  unfolding negative_at
  negative_sound [] = (Mark Minus ∷ [], [], refl, refl, at_minus)
  negative_sound (Number n ∷ ts) = (Mark Minus ∷ Number n ∷ [], refl, inr (inr (inr (inr (inl (n, refl, is_preceded (Mark Minus) (token Number) n (Number n ∷ []) refl))))))
  negative_sound (t ∷ ts) = (Mark Minus ∷ [], t ∷ ts, refl, refl, at_minus)

  -- a bare name
  name_sound : (x : List ℕ) (ts : List Lexeme) → Sound over (simple fits') (Ident x ∷ ts) (Ok (reference None x, ts))
  name_sound x ts = (Ident x ∷ [], refl, inr (inr (inr (inr (inr (inr (inr (inr (inl (x, refl, refl))))))))))

  module _ (g : Grammar Tree) (n : ℕ) (read : Reader Tree)
      (lift : (ts : List Lexeme) (r : Read Tree) → Sound over (simple fits') ts r → Sound over g ts r)
      (open_name : (x : List ℕ) (ts : List Lexeme) → Sound over g (Ident x ∷ Mark Colon ∷ ts) (opened n (Mark Colon ∷ ts) (read ts >>= λ v. Ok (chosen x v.0, v.1))))
      (open_brace : (ts : List Lexeme) → Sound over g (Mark OpenBrace ∷ ts) (opened n (Mark OpenBrace ∷ ts) (braced_at fits read ts)))
    where
      alternative_sound : (x : List ℕ) (ts : List Lexeme) → Sound over g (Ident x ∷ ts) (alternative_at fits n read x ts)
      unfolding alternative_at
      alternative_sound x [] = lift (Ident x ∷ []) (Ok (reference None x, [])) (name_sound x [])
      alternative_sound x (Mark Colon ∷ ts) = open_name x ts
      alternative_sound x (t ∷ ts) = lift (Ident x ∷ t ∷ ts) (Ok (reference None x, t ∷ ts)) (name_sound x (t ∷ ts))

      number_sound : (m : ℕ) (ts : List Lexeme)
          → Sound over (simple fits') (Number m ∷ ts) (fitting (fits m) (Number m ∷ ts) (Ok (positive m, ts)))
      number_sound m ts = fitting_sound over fits fits' past (simple fits') (fits m) m [] ts (Ok (positive m, ts)) (inl (inl refl)) (λ f. inr (inr (inr (inl (inr (m, f, refl))))))
          (λ f. (Number m ∷ [], refl, inr (inr (inr (inl (m, refl, (grows m f, refl)))))))

      step_sound : (ts : List Lexeme) → Sound over g ts (step_at fits n read ts)
      unfolding step_at
      step_sound [] = lift [] (stop []) (stop_sound over (simple fits') [] (inl (inl refl)))
      step_sound (Word True ∷ ts) = lift (Word True ∷ ts) (Ok (yes, ts)) (Word True ∷ [], refl, inl (tt, refl, refl))
      step_sound (Word False ∷ ts) = lift (Word False ∷ ts) (Ok (no, ts)) (Word False ∷ [], refl, inr (inl (tt, refl, refl)))
      step_sound (Word Null ∷ ts) = lift (Word Null ∷ ts) (Ok (null, ts)) (Word Null ∷ [], refl, inr (inr (inl (tt, refl, refl))))
      step_sound (Number m ∷ ts) = lift (Number m ∷ ts) (fitting (fits m) (Number m ∷ ts) (Ok (positive m, ts))) (number_sound m ts)
      step_sound (Mark Minus ∷ ts) = lift (Mark Minus ∷ ts) (negative_at ts) (negative_sound ts)
      step_sound (BString b ∷ ts) = lift (BString b ∷ ts) (Ok (binary b, ts)) (BString b ∷ [], refl, inr (inr (inr (inr (inr (inl (b, refl, refl)))))))
      step_sound (HString b ∷ ts) = lift (HString b ∷ ts) (Ok (hex b, ts)) (HString b ∷ [], refl, inr (inr (inr (inr (inr (inr (inl (b, refl, refl))))))))
      step_sound (CString b ∷ ts) = lift (CString b ∷ ts) (Ok (chars b, ts)) (CString b ∷ [], refl, inr (inr (inr (inr (inr (inr (inr (inl (b, refl, refl)))))))))
      step_sound (TypeRef m ∷ ts) = lift (TypeRef m ∷ ts) (referred (ref_dot_at m ts)) (qualified_sound m ts)
      step_sound (Ident x ∷ ts) = alternative_sound x ts
      step_sound (Mark OpenBrace ∷ ts) = open_brace ts
      step_sound (t ∷ ts) = lift (t ∷ ts) (stop (t ∷ ts)) (stop_sound over (simple fits') (t ∷ ts) (inl (inl refl)))

  -- one more level around a value
  inner_sound : (n : ℕ) (v : Grammar Tree) (read : Reader Tree)
      → ((us : List Lexeme) → Sound over v us (read us))
      → (ts : List Lexeme)
      → Sound over (simple fits' ∣ nested fits' v) ts (step_at fits (suc n) read ts)
  inner_sound n v read s ts =
      step_sound (simple fits' ∣ nested fits' v) (suc n) read (λ ts r s. left_sound over (simple fits') (nested fits' v) ts r s)
      (λ x ts. let r = read ts >>= (λ v. Ok (chosen x v.0, v.1)) in up v read s (Ident x ∷ Mark Colon ∷ ts) r (left_sound over (chosen_of v) _ (Ident x ∷ Mark Colon ∷ ts) r (chosen_sound v read s x ts (read ts) (s ts))))
      (λ ts. braced_sound v read s ts) ts

module _ (fits : ℕ → Bool) where
  same_fits : (n : ℕ) → fits n ≡ true → fits n ≡ true
  same_fits n e = e

  all_fit : (n : ℕ) → fits n ≡ true → any n ≡ true
  all_fit n e = refl

  past_any : (n : ℕ) → any n ≡ true
  past_any n = refl

  -- What is read stays so if the faults of nesting and of numbers are before the lexeme that passes the limit.
  unmoved : (over : Limit → ℕ)
      → over Nesting ≡ 0
      → Past (over Integer) ((n : ℕ) → fits n ≡ true)
      → (n : ℕ) (ts : List Lexeme)
      → Sound over (value fits n) ts (value_at fits n ts)
  unfolding value_at
  unmoved over e past zero ts =
      step_sound over fits fits same_fits past (simple fits) zero stop (λ ts r s. s)
      (λ x ts. (Ident x ∷ [], Mark Colon ∷ ts, refl, ap (λ (k : ℕ). left_when k (length (Mark Colon ∷ ts))) (sym e), inr (inr (inr (inr (inr (inr (inr (inr (inl (inr (x, refl))))))))))))
      (λ ts. ([], Mark OpenBrace ∷ ts, refl, ap (λ (k : ℕ). left_when k (length (Mark OpenBrace ∷ ts))) (sym e), inl (inl refl))) ts
  unmoved over e past (suc n) ts = inner_sound over fits fits same_fits past n (value fits n) (value_at fits n) (unmoved over e past n) ts

  pub value_sound : (n : ℕ) (ts : List Lexeme) → Sound nowhere (value fits n) ts (value_at fits n ts)
  value_sound = unmoved nowhere refl tt

  pub value_higher : (n : ℕ) (ts : List Lexeme) → Sound higher (value fits n) ts (value_at fits n ts)
  value_higher = unmoved higher refl tt

  -- The same with all numbers, if the fault of a number is after that lexeme.
  pub value_wider : (n : ℕ) (ts : List Lexeme) → Sound wider (value any n) ts (value_at fits n ts)
  unfolding value_at
  value_wider zero ts =
      step_sound wider fits any all_fit past_any (simple any) zero stop (λ ts r s. s)
      (λ x ts. (Ident x ∷ [], Mark Colon ∷ ts, refl, refl, inr (inr (inr (inr (inr (inr (inr (inr (inl (inr (x, refl))))))))))))
      (λ ts. ([], Mark OpenBrace ∷ ts, refl, refl, inl (inl refl))) ts
  value_wider (suc n) ts = inner_sound wider fits any all_fit past_any n (value any n) (value_at fits n) (value_wider n) ts

  -- The same with one more level, if the fault of nesting is after that lexeme.
  pub value_deeper : (n : ℕ) (ts : List Lexeme) → Sound deeper (value fits (suc n)) ts (value_at fits n ts)
  unfolding value_at
  value_deeper zero ts =
      step_sound deeper fits fits same_fits tt (value fits 1) zero stop (λ ts r s. left_sound deeper (simple fits) (nested fits (simple fits)) ts r s)
      (λ x ts. (Ident x ∷ Mark Colon ∷ [], ts, refl, omega arith, inr (inl (inr (x, Ident x ∷ [], Mark Colon ∷ [], refl, refl, front_preceded (Mark Colon) (simple fits) [] (inl (inl refl)))))))
      (λ ts. (Mark OpenBrace ∷ [], ts, refl, omega arith, inr (inr (inl (inl (inr (tt, refl))))))) ts
  value_deeper (suc n) ts = inner_sound deeper fits fits same_fits tt n (value fits (suc n)) (value_at fits n) (value_deeper n) ts
