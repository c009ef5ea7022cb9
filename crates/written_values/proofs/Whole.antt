-- What is answered for all tokens of a text, which should be those of one value.
use Rattle.std.proofs.lemmas.Bool.Decides.{nat_tests}
use Rattle.std.proofs.lemmas.List.{append-nil, length-map, take_at, take-append-drop}
use Rattle.std.proofs.Common.{◌≡◌, ◌==◌, ℕ, zero, suc, ◌+◌, ◌-◌, ◌<◌, ◌≤◌, ◌⊎◌, inl, inr, true, false, List, [], ◌∷◌, ◌++◌, length, take, drop, Ok, Err, refl, sym, ap, subst, ◌∙◌ as ◌⋆◌, arith, length-append, length-drop}
use Rattle.text.specs.declared.token.Token.{Token}
use Rattle.grammar.specs.Answers.{within_all}
use Rattle.grammar.specs.Lexeme.{Lexeme, lexeme_of, lexemes}
use Rattle.grammar.specs.Laws.{nowhere, past, more_than, left_of, Sound, Passes, ReadsAs}
use Rattle.grammar.specs.Places.{Limits, any, bounded, small, Within, raised, free, between, Stops, Ends, PassesLimit}
use Rattle.grammar.specs.Reading.{Fault, Unexpected, Beyond, Limit, Nesting, Integer, TagNumber, Read}
use Rattle.parser_combinators.specs.declared.read_error.Limit.{Limit as Limit'}
use Rattle.parser_combinators.specs.Given.{limit_of}
use Rattle.notation.specs.Answer.{IsRightNotationFault}
use Rattle.notation.specs.Laws.{ValueLaws}
use Rattle.notation.specs.Reading.{value_at}
use Rattle.notation.specs.Value.{value, values}
use Rattle.notation.specs.declared.syntax_fault.SyntaxFault.TheVariants as faults
use Rattle.trees.specs.Values.{Tree}

plain : (f : Fault) (n : ℕ) → more_than f nowhere n ≡ n
plain (Unexpected k) n = refl
plain (Beyond l k) n = refl

module _ (laws : ValueLaws) (n : ℕ) (ts : List Lexeme) where
  abbrev a : Limits
  a = bounded n

  abbrev read : Read Tree
  read = value_at small n ts

  -- what is read with no lexeme left is the whole
  pub whole_is : (v : Tree) → read ≡ Ok (v, []) → (values a).Is v ts
  whole_is v e =
      let s : Sound nowhere (values a) ts (Ok (v, [])) = subst (Sound nowhere (values a) ts) e (laws.sound n ts) in
      subst ((values a).Is v) (sym (s.1 ⋆ append-nil s.0)) s.2

  -- u has the lexemes up to a place
  front_at : (u rest : List Lexeme)
      → ts ≡ u ++ rest
      → (length ts - length rest ≤ length ts) × (u ≡ between ts 0 (length ts - length rest))
  front_at u rest e =
      let m : (length ts - length rest) - 0 ≡ length u = omega (arith, ap length e, length-append u rest) in
      (omega arith, sym (ap (λ (l : List Lexeme). take ((length ts - length rest) - 0) l) e ⋆ take_at u rest ((length ts - length rest) - 0) (sym m)))

  rest_fits : (u rest : List Lexeme) → ts ≡ u ++ rest → length rest ≤ length ts
  rest_fits u rest e = omega (arith, ap length e, length-append u rest)

  -- the lexemes after a place
  abbrev beyond : ℕ → List Lexeme
  beyond j = drop (j - 0) ts

  beyond_long : (j : ℕ) → j ≤ length ts → length (beyond j) ≡ length ts - j
  beyond_long j to = omega (arith, length-drop (j - 0) ts)

  -- the reader comes as far as the lexemes can go on
  come : (b : Limits) (j : ℕ) → (values b).IsPrefix (between ts 0 j) → Passes (λ l. Within l b a) (beyond j) read
  come b j h =
      subst (λ (l : List Lexeme). Passes (λ l. Within l b a) (beyond j) (value_at small n l)) (take-append-drop (j - 0) ts) ((laws.finds a b).front (between ts 0 j) (beyond j) h)

  -- ---- lexemes are left after a value

  pub first_rest : (v : Tree) (rest : List Lexeme)
      → read ≡ Ok (v, rest)
      → 1 ≤ length rest
      → Ends values a ts 0 (length ts - length rest)
  first_rest v rest e some =
      let s : Sound nowhere (values a) ts (Ok (v, rest)) = subst (Sound nowhere (values a) ts) e (laws.sound n ts) in
      let f = front_at s.0 rest s.1 in
      let fits = rest_fits s.0 rest s.1 in
      let never : (b : Limits) (j : ℕ) → length ts - length rest < j → j ≤ length ts → (values b).IsPrefix (between ts 0 j) → ⊥ =
      λ b j lt to c.
      let p : length rest ≤ length (beyond j) = subst (Passes (λ l. Within l b a) (beyond j)) e (come b j c) in
      omega (arith, p, lt, to, fits, beyond_long j to) in
      record {
        stops = record { from = omega arith; to = f.0; before = subst (values a).IsPrefix f.1 ((laws.finds a a).part v s.0 s.2); longest = never a };
        always = never;
        none = λ k. absurd (omega (arith, k, some, fits));
      }

  -- ---- a fault

  far : (f : Fault) (us : List Lexeme) → Passes {A = Tree} (λ l. Within l a a) us (Err f) → left_of f ≤ length us
  far (Unexpected k) us h = h
  far (Beyond l k) us (inl h) = h
  far (Beyond l k) us (inr w) = absurd (w (within_all l a))

  stops_at : (f : Fault) → read ≡ Err f → Stops values a ts 0 (length ts - left_of f)
  stops_at f q =
      let s : Sound nowhere (values a) ts (Err f) = subst (Sound nowhere (values a) ts) q (laws.sound n ts) in
      let d : left_of f ≡ length s.1 = s.3 ⋆ plain f (length s.1) in
      let p = front_at s.0 s.1 s.2 in
      let fits = rest_fits s.0 s.1 s.2 in
      subst (λ (k : ℕ). Stops values a ts 0 (length ts - k)) (sym d) (record {
        from = omega arith;
        to = p.0;
        before = subst (values a).IsPrefix p.1 s.4;
        longest = λ j lt to c.
            let m = far f (beyond j) (subst (Passes (λ l. Within l a a) (beyond j)) q (come a j c)) in
            absurd (omega (arith, m, d, lt, to, fits, beyond_long j to));
      })

  pub left_fits : (f : Fault) → read ≡ Err f → left_of f ≤ length ts
  left_fits f q =
      let s : Sound nowhere (values a) ts (Err f) = subst (Sound nowhere (values a) ts) q (laws.sound n ts) in
      let d : left_of f ≡ length s.1 = s.3 ⋆ plain f (length s.1) in
      omega (arith, d, rest_fits s.0 s.1 s.2)

  pub rest_is_short : (v : Tree) (rest : List Lexeme) → read ≡ Ok (v, rest) → length rest ≤ length ts
  rest_is_short v rest e =
      let s : Sound nowhere (values a) ts (Ok (v, rest)) = subst (Sound nowhere (values a) ts) e (laws.sound n ts) in
      rest_fits s.0 rest s.1

  -- At the end of the lexemes they aren't a whole.
  no_whole : (k : ℕ) (u : List Lexeme) (x : Tree)
      → value_at small n (u ++ []) ≡ Err (Unexpected k)
      → (free values).Is x u
      → ⊥
  no_whole k u x q (b, w) = elim ((laws.finds a b).whole x u [] w tt) [
    | inl e ↦ let d = sym e ⋆ q in absurd cc
    | inr (p, m, e) ↦ let d = sym e ⋆ q in absurd cc
  ]

  none_at : (k : ℕ) (u rest : List Lexeme)
      → ts ≡ u ++ rest
      → k ≡ length rest
      → value_at small n (u ++ rest) ≡ Err (Unexpected k)
      → length ts - k ≡ length ts
      → (x : Tree)
      → (free values).Is x (between ts 0 (length ts - k))
      → ⊥
  none_at k u [] e d q le x w =
      let f = front_at u [] e in
      no_whole k u x q (subst (λ (l : List Lexeme). (free values).Is x l) (ap (λ (k : ℕ). between ts 0 (length ts - k)) d ⋆ sym f.1) w)
  none_at k u (t ∷ r) e d q le x w = absurd (omega (arith, d, le, rest_fits u (t ∷ r) e))

  pub first_left : (k : ℕ) → read ≡ Err (Unexpected k) → Ends values a ts 0 (length ts - k)
  first_left k q =
      let s : Sound nowhere (values a) ts (Err (Unexpected k)) = subst (Sound nowhere (values a) ts) q (laws.sound n ts) in
      let fits = rest_fits s.0 s.1 s.2 in
      let d = s.3 in
      record {
        stops = stops_at (Unexpected k) q;
        always = λ b j lt to c.
            let m : k ≤ length (beyond j) = subst (Passes (λ l. Within l b a) (beyond j)) q (come b j c) in
            absurd (omega (arith, m, lt, to, fits, d, beyond_long j to));
        none = none_at k s.0 s.1 s.2 s.3 (subst (λ (l : List Lexeme). value_at small n l ≡ Err (Unexpected k)) s.2 q);
      }

  -- ---- a limit

  -- limits under which the lexemes can go on once this one is raised
  passed : (l : Limit) → (b : Limits) × Sound (past l) (values (raised l a b)) ts read
  passed Nesting = (bounded (suc n), laws.sound_deeper n ts)
  passed Integer = (record { nesting = n; number = any; tag = any }, laws.sound_any n ts)
  passed TagNumber = (bounded n, laws.sound_higher n ts)

  its_own : (l : Limit) (k m : ℕ) → more_than (Beyond l k) (past l) m ≡ suc m
  its_own Nesting k m = refl
  its_own Integer k m = refl
  its_own TagNumber k m = refl

  limit_at : (l : Limit) (k : ℕ) → read ≡ Err (Beyond l k) → PassesLimit values a ts 0 (length ts - k) l
  limit_at l k q =
      let b = (passed l).0 in
      let s : Sound (past l) (values (raised l a b)) ts (Err (Beyond l k)) = subst (Sound (past l) (values (raised l a b)) ts) q (passed l).1 in
      let f = front_at s.0 s.1 s.2 in
      let d : k ≡ suc (length s.1) = s.3 ⋆ its_own l k (length s.1) in
      let m = left_fits (Beyond l k) q in
      record {
        stops = stops_at (Beyond l k) q;
        others = b;
        further = length ts - length s.1;
        longer = omega (arith, d, m);
        to = f.0;
        goes_on = subst (values (raised l a b)).IsPrefix f.1 s.4;
      }

-- ---- the same for the tokens of a text

module _ (laws : ValueLaws) (x : List ℕ) (ts : List Token) where
  long : (us : List Token) → length (lexemes x us) ≡ length us
  long us = length-map us (lexeme_of x)

  pub rest_short : (v : Tree) (rest : List Token)
      → value_at small 128 (lexemes x ts) ≡ Ok (v, lexemes x rest)
      → length rest ≤ length ts
  rest_short v rest e = omega (arith, rest_is_short laws 128 (lexemes x ts) v (lexemes x rest) e, long ts, long rest)

  pub left_short : (f : Fault) → value_at small 128 (lexemes x ts) ≡ Err f → left_of f ≤ length ts
  left_short f e = omega (arith, left_fits laws 128 (lexemes x ts) f e, long ts)

  pub whole_read : (v : Tree) (rest : List Token)
      → rest ≡ []
      → value_at small 128 (lexemes x ts) ≡ Ok (v, lexemes x rest)
      → (values (bounded 128)).Is v (lexemes x ts)
  whole_read v rest q e = whole_is laws 128 (lexemes x ts) v (e ⋆ ap (λ (l : List Token). Ok (v, lexemes x l)) q)

  pub rest_ends : (v : Tree) (rest : List Token)
      → value_at small 128 (lexemes x ts) ≡ Ok (v, lexemes x rest)
      → 1 ≤ length rest
      → Ends values (bounded 128) (lexemes x ts) 0 (length ts - length rest)
  rest_ends v rest e some =
      let same : length (lexemes x ts) - length (lexemes x rest) ≡ length ts - length rest = ap (λ (k : ℕ). k - length (lexemes x rest)) (long ts) ⋆ ap (λ (k : ℕ). length ts - k) (long rest) in
      subst (λ (k : ℕ). Ends values (bounded 128) (lexemes x ts) 0 k) same
      (first_rest laws 128 (lexemes x ts) v (lexemes x rest) e (omega (arith, long rest, some)))

  pub left_ends : (k : ℕ)
      → value_at small 128 (lexemes x ts) ≡ Err (Unexpected k)
      → Ends values (bounded 128) (lexemes x ts) 0 (length ts - k)
  left_ends k e = subst (λ (m : ℕ). Ends values (bounded 128) (lexemes x ts) 0 (m - k)) (long ts) (first_left laws 128 (lexemes x ts) k e)

  pub limit_passed : (l : Limit') (k : ℕ)
      → value_at small 128 (lexemes x ts) ≡ Err (Beyond (limit_of l) k)
      → IsRightNotationFault values (lexemes x ts) 0 (bounded 128) (faults.Limit l (length ts - k))
  limit_passed l k e = subst (λ (m : ℕ). PassesLimit values (bounded 128) (lexemes x ts) 0 (m - k) (limit_of l)) (long ts) (limit_at laws 128 (lexemes x ts) (limit_of l) k e)

not_zero : (n : ℕ) → (suc n == 0) ≡ true → ⊥
not_zero n e = grind (arith, nat_tests)

pub is_nil : (l : List Token) → (length l == 0) ≡ true → l ≡ []
is_nil [] e = refl
is_nil (t ∷ l) e = absurd (not_zero (length l) e)

pub not_nil : (n : ℕ) → (n == 0) ≡ false → 1 ≤ n
not_nil n e = grind (arith, nat_tests)
