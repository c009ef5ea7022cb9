-- What is read as a type is one; the reader refuses no front of a type, and reads each whole one.
use Rattle.std.proofs.Common.{◌≡◌, ℕ, zero, suc, ◌+◌, ◌≤◌, ◌^◌, inl, inr, Bool, true, false, List, ◌++◌, length, Ok, Err, refl, sym, subst, arith}
use Rattle.grammar.specs.Lexeme.{Lexeme}
use Rattle.grammar.specs.Grammar.{Grammar, cut_off}
use Rattle.grammar.specs.Grows.{Grows}
use Rattle.grammar.specs.Reading.{Unexpected, Beyond, Read, Reader, Limit, Nesting, Integer, TagNumber as TagLimit, stop}
use Rattle.grammar.specs.Laws.{nowhere, deeper, wider, higher, Passes, ReadsAs, Finds}
use Rattle.grammar.specs.Lists.{IsSolid, no_lexeme}
use Rattle.grammar.specs.Numbers.{Past}
use Rattle.grammar.specs.Parts.{SoundReader, cut_off_finds, cut_off_solid}
use Rattle.grammar.specs.Places.{Limits, any, small, tag_small, bounded, Within}
use Rattle.notation.specs.Laws.{starts, goes_on, ValueLaws}
use Rattle.grammar.specs.Rules.{Owes, Rules, bor, bor_left}
use Rattle.notation.specs.ConstraintGrammar.{size, constraint}
use Rattle.notation.specs.ConstraintReading.{is_size, size_at, constraint_at}
use Rattle.grammar.specs.Reading.{is_open}
use Rattle.notation.specs.Value.{value}
use Rattle.notation.specs.Reading.{value_at}
use Rattle.type_syntax.specs.TypeGrammar.{type}
use Rattle.type_parts.specs.PlainReading.{tag_fits}
use Rattle.type_parts.specs.PartLaws.{PartLaws}
use Rattle.type_syntax.specs.TypeReading.{type_at}
use Rattle.type_syntax.specs.TypeLaws.{type_ends, Allows}
use Rattle.type_parts.specs.TypeWords.{TagRule}
use Rattle.type_syntax.proofs.TypeSteps.{type_starts, rule_step}
use Rattle.type_syntax.proofs.TypeGrows.{types_grow}

le_same : (us : List Lexeme) → length us ≤ length us
le_same us = omega arith

none_owed : {A : Type 0} (f : Type 0) (over : Limit → ℕ) (within : Limit → Type 0) (starts ends : Lexeme → Bool)
    → Owes {A = A} ⊥ f over within cut_off starts ends stop
none_owed f over within starts ends = record { sound = λ q. absurd q; finds = λ q. cut_off_finds within starts ends stop le_same; solid = cut_off_solid }

-- fits is the reader's test on numbers, fits' the grammar's
module _ (over : Limit → ℕ) (within : Limit → Type 0) (fits fits' : ℕ → Bool)
    (grows : (n : ℕ) → fits n ≡ true → fits' n ≡ true) (past : Past (over Integer) ((n : ℕ) → fits' n ≡ true))
    (tags : ℕ → Bool) (tag_rule : TagRule over within fits tags)
    (room : (n : ℕ) → fits' n ≡ true → within Integer → fits n ≡ true)
    (constraints : Rules over within (constraint fits') is_open no_lexeme (constraint_at fits))
    (sizes : Rules over within (size fits') is_size no_lexeme (size_at fits)) (value_starts : Lexeme → Bool)
    (solid : (n : ℕ) → IsSolid (value fits' n)) where
  abbrev ValuesSound : Type 0 → Type 0
  ValuesSound s = s → (n m : ℕ) → m ≡ over Nesting + n → SoundReader over (value fits' m) (value_at fits n)

  abbrev ValuesFound : Type 0 → Type 0
  ValuesFound f = f → (n m : ℕ) → (within Nesting → m ≤ n) → Finds within (value fits' m) value_starts goes_on (value_at fits n)

  values : (s f : Type 0)
      → ValuesSound s
      → ValuesFound f
      → (n m : ℕ)
      → (s → m ≡ over Nesting + n)
      → (f → within Nesting → m ≤ n)
      → Owes s f over within (value fits' m) value_starts goes_on (value_at fits n)
  values s f vs vf n m fit deep = record { sound = λ q. vs q n m (fit q); finds = λ q. vf q n m (deep q); solid = solid m }

  types : (s f : Type 0)
      → ValuesSound s
      → ValuesFound f
      → (n m : ℕ)
      → (s → m ≡ over Nesting + n)
      → (f → within Nesting → m ≤ n)
      → Owes s f over within (type fits' tags m) type_starts type_ends (type_at fits n)
  unfolding type_at
  types s f vs vf zero zero fit deep =
      rule_step over within fits fits' grows past tags tag_rule room constraints sizes s f zero zero fit deep cut_off cut_off value_starts stop stop stop stop (λ o. absurd o) (λ o. absurd o) (none_owed f over within type_starts type_ends) (none_owed f over within value_starts goes_on)
  types s f vs vf zero (suc m) fit deep =
      let deep' : f → within Nesting → m ≤ zero = λ q w. omega (arith, deep q w) in
      rule_step over within fits fits' grows past tags tag_rule room constraints sizes s f zero (suc m) fit deep (type fits' tags m) (value fits' m) value_starts stop (type_at fits zero) stop (value_at fits zero) (λ o. absurd o) (λ o. absurd o)
      (types ⊥ f (λ q. absurd q) vf zero m (λ q. absurd q) deep') (values ⊥ f (λ q. absurd q) vf zero m (λ q. absurd q) deep')
  types s f vs vf (suc n) zero fit deep =
      let fit' : s → zero ≡ over Nesting + n = λ q. omega (arith, fit q) in
      let deep' : f → within Nesting → zero ≤ n = λ q w. omega arith in
      rule_step over within fits fits' grows past tags tag_rule room constraints sizes s f (suc n) zero fit deep (type fits' tags zero) (value fits' zero) value_starts (type_at fits n) (type_at fits n) (value_at fits n) (value_at fits n)
      (λ o. types s f vs vf n zero fit' deep') (λ o. values s f vs vf n zero fit' deep') (types ⊥ f (λ q. absurd q) vf n zero (λ q. absurd q) deep') (values ⊥ f (λ q. absurd q) vf n zero (λ q. absurd q) deep')
  types s f vs vf (suc n) (suc m) fit deep =
      let fit' : s → m ≡ over Nesting + n = λ q. omega (arith, fit q) in
      let deep' : f → within Nesting → m ≤ n = λ q w. omega (arith, deep q w) in
      rule_step over within fits fits' grows past tags tag_rule room constraints sizes s f (suc n) (suc m) fit deep (type fits' tags m) (value fits' m) value_starts (type_at fits n) (type_at fits n) (value_at fits n) (value_at fits n)
      (λ o. types s f vs vf n m fit' deep') (λ o. values s f vs vf n m fit' deep') (types ⊥ f (λ q. absurd q) vf n m (λ q. absurd q) deep') (values ⊥ f (λ q. absurd q) vf n m (λ q. absurd q) deep')

-- the reader's limit on the numbers of tags is 2 to the 31
low_is : (x : Bool) → bor x false ≡ true → x ≡ true
low_is true e = refl
low_is false e = e

pub small_tags : (n : ℕ) → tag_fits small n ≡ true → tag_small n ≡ true
small_tags n e = low_is (tag_small n) e

pub tags_small : (n : ℕ) → tag_small n ≡ true → tag_fits small n ≡ true
tags_small n e = bor_left (tag_small n) (small (2 ^ 127)) e

abbrev at : ℕ → Limits → Limits
at n a = record { nesting = n; number = a.number; tag = a.tag }

at_same : (P : ℕ → Type 0) (n m : ℕ) → m ≡ n → P n → P m
at_same P n m e h = subst P (sym e) h

-- if less is within the limits, more is a way out
finds_weaker : {A : Type 0} (within within' : Limit → Type 0) (g : Grammar A) (starts ends : Lexeme → Bool)
    (read : Reader A)
    → ((l : Limit) → within l → within' l)
    → Finds within' g starts ends read
    → Finds within g starts ends read
finds_weaker {A} within within' g starts ends read less f = record {
  nil = f.nil;
  part = f.part;
  first = f.first;
  whole = λ x u us h e. reads_as (read (u ++ us)) x us (f.whole x u us h e);
  front = λ u us h. passes us (read (u ++ us)) (f.front u us h);
}
  where
    reads_as : (r : Read A) (x : A) (us : List Lexeme) → ReadsAs within' r x us → ReadsAs within r x us
    reads_as r x us (inl e) = inl e
    reads_as r x us (inr (p, k, e)) = inr (p, (λ w. k (less p.0 w)), e)

    passes : (us : List Lexeme) (r : Read A) → Passes within' us r → Passes within us r
    passes us (Ok x) h = h
    passes us (Err (Unexpected n)) h = h
    passes us (Err (Beyond l n)) (inl h) = inl h
    passes us (Err (Beyond l n)) (inr h) = inr (λ w. h (less l w))

module _ (laws : PartLaws) where
  let_values : ValueLaws
  let_values = laws.values

  -- of what is read under the limits
  sound_at : (over : Limit → ℕ) (b : Limits)
      → ((n : ℕ) → small n ≡ true → b.number n ≡ true)
      → Past (over Integer) ((n : ℕ) → b.number n ≡ true)
      → ((n : ℕ) → tag_small n ≡ true → b.tag n ≡ true)
      → Past (over TagLimit) ((n : ℕ) → b.tag n ≡ true)
      → ((n m : ℕ) → m ≡ over Nesting + n → SoundReader over (value b.number m) (value_at small n))
      → (n m : ℕ)
      → m ≡ over Nesting + n
      → Owes (Unit {0}) ⊥ over (λ l. ⊥) (type b.number b.tag m) type_starts type_ends (type_at small n)
  sound_at over b grows past grows_tags past_tags vs n m e =
      types over (λ l. ⊥) small b.number grows past b.tag (record { grows = λ n t. grows_tags n (small_tags n t); past = past_tags; room = λ n t w. absurd w }) (λ n t w. absurd w)
      (any_rules (laws.constraints over (bounded 0) b grows past)) (any_rules (laws.sizes over (bounded 0) b grows past)) (starts b.number) (let_values.solid b.number) (Unit {0}) ⊥
      (λ q. vs) (λ q. absurd q) n m (λ q. e) (λ q. absurd q)
    where
      any_rules : {A : Type 0} {g : Grammar A} {starts ends : Lexeme → Bool} {read : Reader A}
          → Rules over (λ l. Within l b (bounded 0)) g starts ends read
          → Rules over (λ l. ⊥) g starts ends read
      any_rules {A} {g} {starts} {ends} {read} k = record { sound = k.sound; finds = λ q. finds_weaker (λ l. ⊥) (λ l. Within l b (bounded 0)) g starts ends read (λ l w. absurd w) (k.finds tt); solid = k.solid }

  pub types_read : (n : ℕ)
      → Owes (Unit {0}) ⊥ nowhere (λ l. ⊥) (type small tag_small n) type_starts type_ends (type_at small n)
  types_read n = sound_at nowhere (bounded n) (λ n e. e) tt (λ n e. e) tt (λ n m e. at_same (λ (k : ℕ). SoundReader nowhere (value small k) (value_at small n)) n m (omega (arith, e)) (let_values.sound n)) n n (omega arith)

  pub type_sound : (n : ℕ) → SoundReader nowhere (type small tag_small n) (type_at small n)
  type_sound n = (types_read n).sound tt

  pub type_wider : (n : ℕ) → SoundReader wider (type any tag_small n) (type_at small n)
  type_wider n =
      (sound_at wider (record { nesting = n; number = any; tag = tag_small }) (λ n e. refl) (λ n. refl) (λ n e. e) tt
      (λ n m e. at_same (λ (k : ℕ). SoundReader wider (value any k) (value_at small n)) n m (omega (arith, e)) (let_values.sound_any n)) n n (omega arith)).sound tt

  pub type_higher : (n : ℕ) → SoundReader higher (type small any n) (type_at small n)
  type_higher n =
      (sound_at higher (record { nesting = n; number = small; tag = any }) (λ n e. e) tt (λ n e. refl) (λ n. refl)
      (λ n m e. at_same (λ (k : ℕ). SoundReader higher (value small k) (value_at small n)) n m (omega (arith, e)) (let_values.sound_higher n)) n n (omega arith)).sound tt

  pub type_deeper : (n : ℕ) → SoundReader deeper (type small tag_small (suc n)) (type_at small n)
  type_deeper n =
      (sound_at deeper (bounded (suc n)) (λ n e. e) tt (λ n e. e) tt
      (λ n m e. at_same (λ (k : ℕ). SoundReader deeper (value small k) (value_at small n)) (suc n) m (omega (arith, e)) (let_values.sound_deeper n)) n (suc n) (omega arith)).sound tt

  -- a are the reader's limits, b the grammar's
  pub type_owed : (a b : Limits)
      → Allows a b
      →
      Owes ⊥ (Unit {0}) nowhere (λ l. Within l b a) (type b.number b.tag b.nesting) type_starts type_ends (type_at a.number a.nesting)
  type_owed a b allows =
      types nowhere (λ l. Within l b a) a.number b.number allows.number tt b.tag (record { grows = allows.tag; past = tt; room = λ n e w. allows.own n (w n e) }) (λ n e w. w n e)
      (laws.constraints nowhere a b allows.number tt) (laws.sizes nowhere a b allows.number tt) (starts b.number) (let_values.solid b.number) ⊥ (Unit {0}) (λ q. absurd q)
      (λ q n m d. finds_weaker (λ l. Within l b a) (λ l. Within l (at m b) (at n a)) (value b.number m) (starts b.number) goes_on (value_at a.number n) (deeper_within n m d) (let_values.finds (at n a) (at m b)))
      a.nesting b.nesting (λ q. absurd q) (λ q w. w)
    where
      deeper_within : (n m : ℕ) → (Within Nesting b a → m ≤ n) → (l : Limit) → Within l b a → Within l (at m b) (at n a)
      deeper_within n m d Nesting w = d w
      deeper_within n m d Integer w = w
      deeper_within n m d TagLimit w = w

  pub type_grows : (a b : Limits)
      → ((n : ℕ) → a.number n ≡ true → b.number n ≡ true)
      → ((n : ℕ) → a.tag n ≡ true → b.tag n ≡ true)
      → (n : ℕ)
      → Grows (type a.number a.tag n) (type b.number b.tag n)
  type_grows a b grows grows_tags = types_grow a.number b.number grows a.tag b.tag grows_tags (laws.constraints_grow a.number b.number grows) (laws.sizes_grow a.number b.number grows) (let_values.grows a.number b.number grows)
