-- What is read from a place on is a constraint or a size there, all of them are read, and a fault is the first one.
use Rattle.std.proofs.Common.{◌≡◌, ℕ, ◌||◌, inl, inr, Bool, true, List, [], ◌∷◌, ◌++◌, Option, Some, None, Ok, refl, sym, ap, ◌∙◌ as ◌⋆◌}
use Rattle.text.specs.declared.token.Mark.TheVariants.{Range, OpenParenthesis, CloseParenthesis, Minus}
use Rattle.text.specs.declared.reserved.Word.TheVariants.{From, Size, Min, Max}
use Rattle.grammar.specs.Lexeme.{Lexeme, Number, Word, Mark}
use Rattle.grammar.specs.Grammar.{Grammar, token, mark, word, number_of, ◌∙◌, ◌∣◌, ◌⇒◌, many, preceded}
use Rattle.grammar.specs.Grows.{Grows, same_grows, number_grows, seq_grows, made_grows, either_grows, many_grows, preceded_grows}
use Rattle.grammar.specs.Reading.{Limit, Nesting, Integer, TagNumber, Read, Reader}
use Rattle.grammar.specs.Laws.{nowhere, deeper, wider, higher, past, Sound, Follows, ReadsAs, Finds}
use Rattle.grammar.specs.Lists.{no_lexeme}
use Rattle.grammar.specs.Numbers.{Past}
use Rattle.grammar.specs.Places.{Limits, any, small, bounded, Within, raised}
use Rattle.grammar.specs.Answers.{joined, joined_first, joined_second, within_all, Reads}
use Rattle.grammar.specs.Rules.{Rules, Ruled}
use Rattle.trees.specs.Constraints.{EndTree, name_end, only, between, values_in, sizes_in, chars_in}
use Rattle.notation.specs.ConstraintGrammar.{positive_end, negative_end, marker, with_marker, union_mark, by_union_mark, value_reference, chars, end, range, ranges, size, constraint, flat}
use Rattle.grammar.specs.Grammar.{parens}
use Rattle.notation.specs.ConstraintReading.{is_size, size_at, constraint_at}
use Rattle.grammar.specs.Reading.{is_open}
use Rattle.notation.proofs.ConstraintParts.{rule_size, rule_constraint}

-- ---- with more numbers there are more constraints

parens_grows : {A : Type 0} (a b : Grammar A) → Grows a b → Grows (parens a) (parens b)
parens_grows a b g =
    made_grows (mark OpenParenthesis ∙ (a ∙ mark CloseParenthesis)) (mark OpenParenthesis ∙ (b ∙ mark CloseParenthesis)) (λ p. p.1.0)
    (seq_grows (mark OpenParenthesis) (mark OpenParenthesis) (a ∙ mark CloseParenthesis) (b ∙ mark CloseParenthesis) (same_grows (mark OpenParenthesis)) (seq_grows a b (mark CloseParenthesis) (mark CloseParenthesis) g (same_grows (mark CloseParenthesis))))

by_union_mark_grows : {A : Type 0} (a b : Grammar A) → Grows a b → Grows (by_union_mark a) (by_union_mark b)
by_union_mark_grows a b g =
    made_grows (a ∙ many ((union_mark ∙ a) ⇒ (λ p. p.1))) (b ∙ many ((union_mark ∙ b) ⇒ (λ p. p.1))) (λ p. p.0 ∷ p.1)
    (seq_grows a b (many ((union_mark ∙ a) ⇒ (λ p. p.1))) (many ((union_mark ∙ b) ⇒ (λ p. p.1))) g
    (many_grows ((union_mark ∙ a) ⇒ (λ p. p.1)) ((union_mark ∙ b) ⇒ (λ p. p.1)) (made_grows (union_mark ∙ a) (union_mark ∙ b) (λ p. p.1) (seq_grows union_mark union_mark a b (same_grows union_mark) g))))

module _ (fits fits' : ℕ → Bool) (grows : (n : ℕ) → fits n ≡ true → fits' n ≡ true) where
  end_grows : Grows (end fits) (end fits')
  end_grows =
      either_grows (number_of fits ⇒ positive_end) (number_of fits' ⇒ positive_end) _ _ (made_grows (number_of fits) (number_of fits') (positive_end) (number_grows fits fits' grows))
      (same_grows (preceded (Mark Minus) (token Number) ⇒ negative_end ∣ value_reference ⇒ (λ p. name_end p.0 p.1)))

  -- an end, or a word for none
  abbrev or_word : Grammar EndTree → Grammar (Unit {0}) → Grammar (Option EndTree)
  or_word e w = e ⇒ Some ∣ w ⇒ (λ _. None)

  bound_grows : (w : Grammar (Unit {0})) → Grows (or_word (end fits) w) (or_word (end fits') w)
  bound_grows w = either_grows (end fits ⇒ Some) (end fits' ⇒ Some) (w ⇒ (λ _. None)) (w ⇒ (λ _. None)) (made_grows (end fits) (end fits') Some end_grows) (same_grows (w ⇒ (λ _. None)))

  range_grows : Grows (range fits) (range fits')
  range_grows =
      either_grows (end fits ⇒ only) (end fits' ⇒ only) _ _ (made_grows (end fits) (end fits') only end_grows)
      (made_grows (or_word (end fits) (word Min) ∙ preceded (Mark Range) (or_word (end fits) (word Max))) (or_word (end fits') (word Min) ∙ preceded (Mark Range) (or_word (end fits') (word Max))) (λ p. between p.0 p.1)
      (seq_grows (or_word (end fits) (word Min)) (or_word (end fits') (word Min)) (preceded (Mark Range) (or_word (end fits) (word Max))) (preceded (Mark Range) (or_word (end fits') (word Max))) (bound_grows (word Min))
      (preceded_grows (Mark Range) (or_word (end fits) (word Max)) (or_word (end fits') (word Max)) (bound_grows (word Max)))))

  ranges_grows : Grows (ranges fits) (ranges fits')
  ranges_grows = made_grows (by_union_mark (range fits) ∙ marker) (by_union_mark (range fits') ∙ marker) with_marker (seq_grows (by_union_mark (range fits)) (by_union_mark (range fits')) marker marker (by_union_mark_grows (range fits) (range fits') range_grows) (same_grows marker))

  pub size_grows : Grows (size fits) (size fits')
  size_grows =
      made_grows (preceded (Word Size) (parens (ranges fits))) (preceded (Word Size) (parens (ranges fits'))) sizes_in
      (preceded_grows (Word Size) (parens (ranges fits)) (parens (ranges fits')) (parens_grows (ranges fits) (ranges fits') ranges_grows))

  pub constraint_grows : Grows (constraint fits) (constraint fits')
  constraint_grows =
      either_grows (parens (ranges fits) ⇒ values_in) (parens (ranges fits') ⇒ values_in) _ _ (made_grows (parens (ranges fits)) (parens (ranges fits')) values_in (parens_grows (ranges fits) (ranges fits') ranges_grows))
      (either_grows (parens (size fits)) (parens (size fits')) _ _ (parens_grows (size fits) (size fits') size_grows) (same_grows (parens (preceded (Word From) (parens (by_union_mark chars))) ⇒ chars_in)))

-- ---- a part that nothing can continue is read in any place

all_follow : (us : List Lexeme) → Follows no_lexeme us
all_follow [] = tt
all_follow (t ∷ us) = refl

module _ {A : Type 0} (g : (ℕ → Bool) → Grammar A) (starts : Lexeme → Bool) (read : (ℕ → Bool) → Reader A)
    (ruled : Ruled g starts read)
    (grows : (fits fits' : ℕ → Bool) → ((n : ℕ) → fits n ≡ true → fits' n ≡ true) → Grows (g fits) (g fits')) where
  rules : (over : Limit → ℕ)
      → over Integer ≡ 0
      → Rules over (λ l. Within l (bounded 0) (bounded 0)) (g small) starts no_lexeme (read small)
  rules over e = ruled over (bounded 0) (bounded 0) (λ n e. e) (none (over Integer) e)
    where
      none : (k : ℕ) → k ≡ 0 → Past k ((n : ℕ) → small n ≡ true)
      none ℕ.zero e = tt
      none (ℕ.suc k) e = absurd cc

  abbrev numberless : Limits
  numberless = record { nesting = 0; number = any; tag = any }

  -- if a limit is passed, the lexemes can go on once only that limit is raised
  flat_passed : (l : Limit)
      → (b : Limits) × ((ts : List Lexeme) → Sound (past l) (flat g (raised l (bounded 0) b)) ts (read small ts))
  flat_passed Nesting = (bounded 0, (rules deeper refl).sound tt)
  flat_passed Integer = (numberless, (ruled wider (bounded 0) numberless (λ n e. refl) (λ n. refl)).sound tt)
  flat_passed TagNumber = (bounded 0, (rules higher refl).sound tt)

  flat_finds : (b : Limits)
      →
      Finds (λ l. Within l (joined (bounded 0) b) (bounded 0)) (flat g (joined (bounded 0) b)) starts no_lexeme (read small)
  flat_finds b = (ruled nowhere (bounded 0) (joined (bounded 0) b) (joined_first small b.number) tt).finds tt

  pub flat_reads : Reads (flat g) (bounded 0) (read small)
  flat_reads = record {
    grows = λ b. grows b.number (λ k. small k || b.number k) (joined_second small b.number);
    front = λ b u us h. (flat_finds b).front u us h;
    whole = λ b x u h. (flat_finds b).whole x u [] h tt;
    part = ((rules nowhere refl).finds tt).part;
    sound = (rules nowhere refl).sound tt;
    passed = flat_passed;
    closed = λ x u us h c. ((rules nowhere refl).finds tt).whole x u us h (all_follow us);
  }

  -- a list of lexemes is one tree at most
  pub flat_one : (u : List Lexeme) (v w : A) → (g any).Is v u → (g any).Is w u → v ≡ w
  flat_one u v w h k =
      let f = (ruled nowhere numberless numberless (λ n e. e) tt).finds tt in
      same (f.whole v u [] h tt) (f.whole w u [] k tt)
    where
      one_result : (x y : A × List Lexeme) (r : Read A) → r ≡ Ok x → r ≡ Ok y → x ≡ y
      one_result x y r p q = let e = sym p ⋆ q in cc

      same : ReadsAs (λ l. Within l numberless numberless) (read any (u ++ [])) v []
          → ReadsAs (λ l. Within l numberless numberless) (read any (u ++ [])) w []
          → v ≡ w
      same (inl p) (inl q) = ap (λ (x : A × List Lexeme). x.0) (one_result (v, []) (w, []) (read any (u ++ [])) p q)
      same (inl p) (inr (g, n, q)) = absurd (n (within_all g.0 numberless))
      same (inr (g, n, p)) q = absurd (n (within_all g.0 numberless))

pub constraint_ruled : Ruled constraint is_open constraint_at
constraint_ruled over a b grows past = rule_constraint over (λ l. Within l b a) a.number b.number grows past (λ n e w. w n e)

pub size_ruled : Ruled size is_size size_at
size_ruled over a b grows past = rule_size over (λ l. Within l b a) a.number b.number grows past (λ n e w. w n e)
