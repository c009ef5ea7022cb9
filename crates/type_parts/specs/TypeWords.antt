-- What the readers of the words of types, and of the numbers of tags, fulfil.
use Rattle.std.proofs.Common.{◌≡◌, ℕ, zero, suc, ◌<◌, ◌≤◌, ◌^◌, inl, inr, Bool, true, false, List, [], ◌∷◌, ◌++◌, length, Option, Some, None, Ok, Err, refl, sym, ap, subst, ◌∙◌ as ◌⋆◌, arith}
use Rattle.std.proofs.Props.{props}
use Rattle.std.proofs.lemmas.Bool.Decides.{nat_tests}
use Rattle.std.specs.Prelude.{nat_lt}
use Rattle.text.specs.declared.reserved.Word.{Word as Word'}
use Rattle.grammar.specs.Lexeme.{Lexeme, Number, Word}
use Rattle.grammar.specs.Reading.{Limit, TagNumber as TagLimit, Beyond}
use Rattle.grammar.specs.Laws.{more, Sound, Passes, ReadsAs}
use Rattle.grammar.specs.Lists.{no_lexeme, head_is}
use Rattle.grammar.specs.Numbers.{Past}
use Rattle.grammar.specs.Parts.{SoundReader}
use Rattle.grammar.specs.Rules.{Rules, bor, bor_left, bor_right, is_number}
use Rattle.trees.specs.Types.{Plain}
use Rattle.type_parts.specs.PlainGrammar.{type_of_word, one_word, TagNumber, tag_number}
use Rattle.type_parts.specs.PlainReading.{tag_fits, known, one_word_at, by_limit, tag_number_at}

le_same : (us : List Lexeme) → length us ≤ length us
le_same us = omega arith

-- ---- a word alone

abbrev is_some_type : Option Plain → Bool
is_some_type (Some t) = true
is_some_type None = false

abbrev pub is_type_word : Lexeme → Bool
is_type_word (Word w) = is_some_type (type_of_word w)
is_type_word t = false

module _ (over : Limit → ℕ) (within : Limit → Type 0) where
  word_sound : SoundReader over one_word one_word_at
  unfolding one_word_at
  word_sound [] = ([], [], refl, refl, inl refl)
  word_sound (Word w ∷ ts) = go (type_of_word w) refl
    where
      go : (o : Option Plain) → type_of_word w ≡ o → Sound over one_word (Word w ∷ ts) (known o (Word w ∷ ts) ts)
      go (Some t) e = (Word w ∷ [], refl, (w, e, refl))
      go None e = ([], Word w ∷ ts, refl, refl, inl refl)
  word_sound (t ∷ ts) = ([], t ∷ ts, refl, refl, inl refl)

  word_passes : (us : List Lexeme) → Passes within us (one_word_at us)
  unfolding one_word_at
  word_passes [] = le_same []
  word_passes (Word w ∷ us) = go (type_of_word w)
    where
      less : length us ≤ length (Word w ∷ us)
      less = omega arith

      go : (o : Option Plain) → Passes within (Word w ∷ us) (known o (Word w ∷ us) us)
      go (Some t) = less
      go None = le_same (Word w ∷ us)
  word_passes (t ∷ us) = le_same (t ∷ us)

  word_is : (w : Word') (x : Plain) (us : List Lexeme)
      → type_of_word w ≡ Some x
      → one_word_at (Word w ∷ us) ≡ Ok (x, us)
  unfolding one_word_at
  word_is w x us e = ap (λ (o : Option Plain). known o (Word w ∷ us) us) e

  word_front : (u us : List Lexeme) → one_word.IsPrefix u → Passes within us (one_word_at (u ++ us))
  word_front u us (inl e) = subst (λ (l : List Lexeme). Passes within us (one_word_at (l ++ us))) (sym e)
      (word_passes us)
  word_front u us (inr (w, x, e, q)) = subst (Passes within us)
      (sym (ap (λ (l : List Lexeme). one_word_at (l ++ us)) q ⋆ word_is w x us e)) (le_same us)

  word_first : (t : Lexeme) (u : List Lexeme) → one_word.IsPrefix (t ∷ u) → is_type_word t ≡ true
  word_first t u (inl e) = absurd cc
  word_first t u (inr (w, x, e, q)) = ap is_type_word (head_is t (Word w) u [] q) ⋆ ap is_some_type e

  pub rule_one_word : Rules over within one_word is_type_word no_lexeme one_word_at
  rule_one_word = record {
    sound = λ q. word_sound;
    finds = λ q. record {
      nil = inl refl;
      part = λ x u h. inr (h.0, x, h.1, h.2);
      first = word_first;
      whole = λ x u us h g. inl (ap (λ (l : List Lexeme). one_word_at (l ++ us)) h.2 ⋆ word_is h.0 x us h.1);
      front = word_front;
    };
    solid = record { no_empty = λ x h. let e = h.2 in absurd cc };
  }

-- ---- a tag's number

below_prop : (n : ℕ) → IsProp (n < 2147483648)
below_prop n = hlevel props

number_same : (n : ℕ) (p q : n < 2147483648) → ◌≡◌ {A = TagNumber} (n, p) (n, q)
number_same n p q = ap (λ (z : n < 2147483648). (n, z)) (below_prop n p q)

not_below : (n : ℕ) → nat_lt n 2147483648 ≡ false → n < 2147483648 → ⊥
not_below n e h = grind (arith, nat_tests)

true_false : (b : Bool) → b ≡ true → b ≡ false → ⊥
true_false b p q = absurd (let e = sym p ⋆ q in cc)

-- What must be true of a reader whose test on numbers is fits, and of a grammar with this test on the numbers of tags.
pub record TagRule (over : Limit → ℕ) (within : Limit → Type 0) (fits tags : ℕ → Bool) : Type 0 where
  pub grows : (n : ℕ) → tag_fits fits n ≡ true → tags n ≡ true
  pub past : Past (over TagLimit) ((n : ℕ) → tags n ≡ true)
  pub room : (n : ℕ) → tags n ≡ true → within TagLimit → tag_fits fits n ≡ true

module _ (over : Limit → ℕ) (within : Limit → Type 0) (fits tags : ℕ → Bool) (rule : TagRule over within fits tags)
  where
    great_sound : (k : ℕ)
        → over TagLimit ≡ k
        → Past k ((n : ℕ) → tags n ≡ true)
        → (n : ℕ) (ts : List Lexeme)
        → Sound over (tag_number tags) (Number n ∷ ts) (Err (Beyond TagLimit (length (Number n ∷ ts))))
    great_sound zero e p n ts = (
      [],
      Number n ∷ ts,
      refl,
      ap (λ (k : ℕ). more k (length (Number n ∷ ts)))
          (sym e),
      inl refl,
    )
    great_sound (suc k) e p n ts =
        (Number n ∷ [], ts, refl, long ⋆ ap (λ (k : ℕ). more k (length ts)) (sym e), inr (n, p n, refl))
      where
        long : length (Number n ∷ ts) ≡ more (suc k) (length ts)
        long = omega arith

    limit_sound : (u : Bool)
        → fits (2 ^ 127) ≡ u
        → (n : ℕ) (b : Bool) (e : nat_lt n 2147483648 ≡ b) (ts : List Lexeme)
        → Sound over (tag_number tags) (Number n ∷ ts) (by_limit u n b e ts)
    limit_sound u d n true e ts =
        (Number n ∷ [], refl, (rule.grows n (bor_left (nat_lt n 2147483648) (fits (2 ^ 127)) e), refl))
    limit_sound true d n false e ts = (
      Number n ∷ [],
      ts,
      refl,
      refl,
      inr
          (n, rule.grows n (bor_right (nat_lt n 2147483648) (fits (2 ^ 127)) d), refl),
    )
    limit_sound false d n false e ts = great_sound (over TagLimit) refl rule.past n ts

    tag_sound : SoundReader over (tag_number tags) (tag_number_at fits)
    unfolding tag_number_at
    tag_sound [] = ([], [], refl, refl, inl refl)
    tag_sound (Number n ∷ ts) = limit_sound (fits (2 ^ 127)) refl n (nat_lt n 2147483648) refl ts
    tag_sound (t ∷ ts) = ([], t ∷ ts, refl, refl, inl refl)

    limit_passes : (u : Bool) (n : ℕ) (b : Bool) (e : nat_lt n 2147483648 ≡ b) (us : List Lexeme)
        → Passes within (Number n ∷ us) (by_limit u n b e us)
    limit_passes u n true e us = omega arith
    limit_passes true n false e us = omega arith
    limit_passes false n false e us = inl (le_same (Number n ∷ us))

    tag_passes : (us : List Lexeme) → Passes within us (tag_number_at fits us)
    unfolding tag_number_at
    tag_passes [] = le_same []
    tag_passes (Number n ∷ us) = limit_passes (fits (2 ^ 127)) n (nat_lt n 2147483648) refl us
    tag_passes (t ∷ us) = le_same (t ∷ us)

    limit_front : (u : Bool)
        → fits (2 ^ 127) ≡ u
        → (n : ℕ) (b : Bool) (e : nat_lt n 2147483648 ≡ b) (us : List Lexeme)
        → tags n ≡ true
        → Passes within us (by_limit u n b e us)
    limit_front u d n true e us h = le_same us
    limit_front true d n false e us h = le_same us
    limit_front false d n false e us h =
        inr (λ w. true_false (tag_fits fits n) (rule.room n h w) (none (nat_lt n 2147483648) (fits (2 ^ 127)) e d))
      where
        none : (x y : Bool) → x ≡ false → y ≡ false → bor x y ≡ false
        none true y p q = absurd cc
        none false y p q = q

    tag_front : (u us : List Lexeme) → (tag_number tags).IsPrefix u → Passes within us (tag_number_at fits (u ++ us))
    unfolding tag_number_at
    tag_front u us (inl e) = subst (λ (l : List Lexeme). Passes within us (tag_number_at fits (l ++ us))) (sym e)
        (tag_passes us)
    tag_front u us (inr (n, h, e)) = subst (λ (l : List Lexeme). Passes within us (tag_number_at fits (l ++ us)))
        (sym e) (limit_front (fits (2 ^ 127)) refl n (nat_lt n 2147483648) refl us h)

    limit_whole : (u : Bool) (x : TagNumber) (b : Bool) (e : nat_lt x.0 2147483648 ≡ b) (us : List Lexeme)
        → ReadsAs within (by_limit u x.0 b e us) x us
    limit_whole u x true e us = inl (ap (λ (z : TagNumber). Ok (z, us)) (number_same x.0 _ x.1))
    limit_whole u x false e us = absurd (not_below x.0 e x.1)

    tag_whole : (x : TagNumber) (u us : List Lexeme)
        → (tag_number tags).Is x u
        → ReadsAs within (tag_number_at fits (u ++ us)) x us
    unfolding tag_number_at
    tag_whole x u us h = subst (λ (l : List Lexeme). ReadsAs within (tag_number_at fits (l ++ us)) x us) (sym h.1)
        (limit_whole (fits (2 ^ 127)) x (nat_lt x.0 2147483648) refl us)

    tag_first : (t : Lexeme) (u : List Lexeme) → (tag_number tags).IsPrefix (t ∷ u) → is_number t ≡ true
    tag_first t u (inl e) = absurd cc
    tag_first t u (inr (n, h, e)) = ap is_number (head_is t (Number n) u [] e)

    pub rule_tag_number : Rules over within (tag_number tags) is_number no_lexeme (tag_number_at fits)
    rule_tag_number = record {
      sound = λ q. tag_sound;
      finds = λ q. record {
        nil = inl refl;
        part = λ x u h. inr (x.0, h.0, h.1);
        first = tag_first;
        whole = λ x u us h g. tag_whole x u us h;
        front = tag_front;
      };
      solid = record { no_empty = λ x h. absurd (let e = h.1 in cc) };
    }
