-- What a reader guarantees for its production, made of what the readers of its parts guarantee.
use Rattle.std.proofs.Common.{◌≡◌, ℕ, ◌≤◌, inl, inr, Bool, true, false, List, [], ◌∷◌, ◌++◌, length, Ok, Err, refl, sym, ap, subst, arith}
use Rattle.text.specs.declared.token.Mark.TheVariants.{Comma}
use Rattle.grammar.specs.Lexeme.{Lexeme, Number, Mark}
use Rattle.grammar.specs.Grammar.{Grammar, token, number_of, ◌∙◌, ◌∣◌, ◌⇒◌, many, optional, preceded, listed, only}
use Rattle.grammar.specs.Grows.{Grows}
use Rattle.grammar.specs.Reading.{Limit, Integer, Read, Reader, ◌>>=◌, stop, fitting, many_at, listed_at}
use Rattle.grammar.specs.Laws.{Sound, Follows, Passes, ReadsAs, Finds, then_read, seq_sound, seq_front, seq_whole, seq_part}
use Rattle.grammar.specs.Lists.{IsSolid, no_lexeme, head_is, seq_first, seq_solid, with_comma, listed_sound, finds_listed}
use Rattle.grammar.specs.Places.{Limits, Within}
use Rattle.grammar.specs.Numbers.{Past, fitting_sound, fitting_passes, fitting_shrinks, fitting_reads_as}
use Rattle.grammar.specs.Parts.{SoundReader, IsKind, token_sound, token_finds, token_solid, made_sound, made_finds, made_solid, seq_finds, open_finds, open_solid, pair_sound, pair_finds, pair_solid, pick, pick_sound, pick_finds, either_solid, perhaps, optional_sound, optional_finds, same_sound, same_finds}
use Rattle.grammar.specs.Manies.{many_sound, many_finds}

-- What a reader guarantees for a production. If s holds, what is read is in the grammar. If f holds, no prefix is
-- refused, and each whole is read.
pub record OwesLoosely {A : Type 0} (s f : Type 0) (over : Limit → ℕ) (within : Limit → Type 0) (g : Grammar A)
    (starts ends : Lexeme → Bool) (read : Reader A) : Type 0 where
  pub sound : s → SoundReader over g read
  pub finds : f → Finds within g starts ends read

-- the same, and no whole is empty
pub record Owes {A : Type 0} (s f : Type 0) (over : Limit → ℕ) (within : Limit → Type 0) (g : Grammar A)
    (starts ends : Lexeme → Bool) (read : Reader A) : Type 0 where
  pub sound : s → SoundReader over g read
  pub finds : f → Finds within g starts ends read
  pub solid : IsSolid g

-- both guarantees hold
abbrev pub Loose : {A : Type 0} → (Limit → ℕ) → (Limit → Type 0) → Grammar A → (Lexeme → Bool) → (Lexeme → Bool)
    → Reader A → Type 0
Loose over within g starts ends read = OwesLoosely (Unit {0}) (Unit {0}) over within g starts ends read

abbrev pub Rules : {A : Type 0} → (Limit → ℕ) → (Limit → Type 0) → Grammar A → (Lexeme → Bool) → (Lexeme → Bool)
    → Reader A → Type 0
Rules over within g starts ends read = Owes (Unit {0}) (Unit {0}) over within g starts ends read

-- a reader with both guarantees has each of them
pub asked : {A : Type 0} {s f : Type 0} {over : Limit → ℕ} {within : Limit → Type 0} {g : Grammar A}
    {starts ends : Lexeme → Bool} {read : Reader A}
    → Rules over within g starts ends read
    → Owes s f over within g starts ends read
asked k = record { sound = λ q. k.sound tt; finds = λ q. k.finds tt; solid = k.solid }

-- one test or the other
abbrev pub bor : Bool → Bool → Bool
bor true b = true
bor false b = b

pub bor_left : (x y : Bool) → x ≡ true → bor x y ≡ true
bor_left true y e = refl
bor_left false y e = absurd cc

pub bor_right : (x y : Bool) → y ≡ true → bor x y ≡ true
bor_right true y e = refl
bor_right false y e = e

pub no_left : (x y : Bool) → bor x y ≡ false → x ≡ false
no_left true y e = absurd cc
no_left false y e = refl

pub no_right : (x y : Bool) → bor x y ≡ false → y ≡ false
no_right true y e = absurd cc
no_right false y e = e

abbrev pub either : (Lexeme → Bool) → (Lexeme → Bool) → Lexeme → Bool
either p q t = bor (p t) (q t)

-- two grammars with the same wholes and the same prefixes
pub record Same {A : Type 0} (a b : Grammar A) : Type 0 where
  pub to : Grows a b
  pub back : Grows b a

module _ {s f : Type 0} {over : Limit → ℕ} {within : Limit → Type 0} where
  pub rule_token : {A : Type 0} {kind : A → Lexeme} {test : Lexeme → Bool} {read : Reader A}
      → IsKind kind test read
      → Owes s f over within (token kind) test no_lexeme read
  rule_token {A} {kind} {test} {read} is =
      record {
        sound = λ q. token_sound kind test read is over;
        finds = λ q. token_finds kind test read is within;
        solid = token_solid kind;
      }

  pub rule_made : {A B : Type 0} {a : Grammar A} {starts ends : Lexeme → Bool} {read : Reader A} (g : A → B)
      → Owes s f over within a starts ends read
      → Owes s f over within (a ⇒ g) starts ends (λ ts. read ts >>= λ x. Ok (g x.0, x.1))
  rule_made {A} {B} {a} {starts} {ends} {read} g r =
      record {
        sound = λ q. made_sound over a g read (r.sound q);
        finds = λ q. made_finds within a g starts ends read
            (r.finds q);
        solid = made_solid a g r.solid;
      }

  pub rule_seq : {A B C : Type 0} {a : Grammar A} {b : Grammar B} {starts-a ends-a starts-b ends-b : Lexeme → Bool}
      {ra : Reader A} {rb : Reader B} (g : A × B → C)
      → Owes s f over within a starts-a ends-a ra
      → Owes s f over within b starts-b ends-b rb
      → ((t : Lexeme) → starts-b t ≡ true → ends-a t ≡ false)
      → Owes s f over within ((a ∙ b) ⇒ g) starts-a ends-b (then_read g ra rb)
  rule_seq {A} {B} {C} {a} {b} {starts-a} {ends-a} {starts-b} {ends-b} {ra} {rb} g ka kb apart = record {
    sound = λ q ts. seq_sound over a b g ts (ra ts) rb (ka.sound q ts) (kb.sound q);
    finds = λ q. seq_finds within a b g starts-a ends-a starts-b ends-b ra rb (ka.finds q) (kb.finds q) ka.solid
        kb.solid apart;
    solid = seq_solid a b g ka.solid;
  }

  -- a part after a lexeme that nothing else continues
  pub rule_preceded : {A : Type 0} {l : Lexeme} {a : Grammar A} {test starts ends : Lexeme → Bool}
      {rs : Reader (Unit {0})} {ra : Reader A}
      → Owes s f over within (only l) test no_lexeme rs
      → Owes s f over within a starts ends ra
      → Owes s f over within (preceded l a) test ends (then_read (λ p. p.1) rs ra)
  rule_preceded ks ka = rule_seq (λ p. p.1) ks ka (λ t e. refl)

  -- a part that may be empty, after one that is never empty
  pub rule_tail : {A B C : Type 0} {a : Grammar A} {b : Grammar B} {starts-a ends-a starts-b ends-b : Lexeme → Bool}
      {ra : Reader A} {rb : Reader B} (g : A × B → C)
      → Owes s f over within a starts-a ends-a ra
      → OwesLoosely s f over within b starts-b ends-b rb
      → ((t : Lexeme) → starts-b t ≡ true → ends-a t ≡ false)
      → Owes s f over within ((a ∙ b) ⇒ g) starts-a (either ends-a ends-b) (then_read g ra rb)
  rule_tail {A} {B} {C} {a} {b} {starts-a} {ends-a} {starts-b} {ends-b} {ra} {rb} g ka kb apart = record {
    sound = λ q ts. seq_sound over a b g ts (ra ts) rb (ka.sound q ts) (kb.sound q);
    finds = λ q. all (ka.finds q) (kb.finds q);
    solid = seq_solid a b g ka.solid;
  }
    where
      last : (us : List Lexeme) → Follows (either ends-a ends-b) us → Follows ends-b us
      last [] h = tt
      last (t ∷ us) h = no_right (ends-a t) (ends-b t) h

      after : Finds within b starts-b ends-b rb
          → (y : B) (v us : List Lexeme)
          → b.Is y v
          → Follows (either ends-a ends-b) us
          → Follows ends-a (v ++ us)
      after fb y [] [] h e = tt
      after fb y [] (t ∷ us) h e = no_left (ends-a t) (ends-b t) e
      after fb y (t ∷ v) us h e = apart t (fb.first t v (fb.part y (t ∷ v) h))

      all : Finds within a starts-a ends-a ra
          → Finds within b starts-b ends-b rb
          → Finds within ((a ∙ b) ⇒ g) starts-a (either ends-a ends-b) (then_read g ra rb)
      all fa fb = record {
        nil = inl fa.nil;
        part = seq_part within a b g starts-a ends-a starts-b ends-b (either ends-a ends-b) ra rb fa fb;
        first = seq_first a b starts-a ka.solid fa.part fa.first;
        whole = seq_whole within a b g starts-a ends-a starts-b ends-b (either ends-a ends-b) ra rb fa fb
            (after fb) last;
        front = seq_front within a b g starts-a ends-a starts-b ends-b (either ends-a ends-b) ra rb fa fb apart;
      }

  pub rule_pair : {A B : Type 0} (a : Grammar A) (b : Grammar B) {starts ends : Lexeme → Bool} {read : Reader (A × B)}
      → IsSolid a
      → Owes s f over within ((a ∙ b) ⇒ (λ p. p)) starts ends read
      → Owes s f over within (a ∙ b) starts ends read
  rule_pair {A} {B} a b {starts} {ends} {read} solid k =
      record {
        sound = λ q. pair_sound over a b read (k.sound q);
        finds = λ q. pair_finds within a b starts ends read
            (k.finds q);
        solid = pair_solid a b solid;
      }

  pub rule_pick : {A : Type 0} {a b : Grammar A} {starts-a ends-a starts-b ends-b : Lexeme → Bool} {ra rb : Reader A}
      → Owes s f over within a starts-a ends-a ra
      → Owes s f over within b starts-b ends-b rb
      → ((t : Lexeme) → starts-b t ≡ true → starts-a t ≡ false)
      → Owes s f over within (a ∣ b) (either starts-a starts-b) (either ends-a ends-b) (pick starts-a ra rb)
  rule_pick {A} {a} {b} {starts-a} {ends-a} {starts-b} {ends-b} {ra} {rb} ka kb apart = record {
    sound = λ q. pick_sound over a b starts-a ra rb (ka.sound q) (kb.sound q);
    finds = λ q. pick_finds within a b starts-a starts-b (either starts-a starts-b) ends-a ends-b (either ends-a ends-b)
        ra rb (ka.finds q) (kb.finds q) apart ka.solid kb.solid
        (λ t. bor_left (starts-a t) (starts-b t)) (λ t. bor_right (starts-a t) (starts-b t))
        (λ t. no_left (ends-a t) (ends-b t)) (λ t. no_right (ends-a t) (ends-b t));
    solid = either_solid a b ka.solid kb.solid;
  }

  pub loose_optional : {A : Type 0} {a : Grammar A} {starts ends : Lexeme → Bool} {read : Reader A}
      → Owes s f over within a starts ends read
      → OwesLoosely s f over within (optional a) starts (either starts ends) (perhaps starts read)
  loose_optional {A} {a} {starts} {ends} {read} k = record {
    sound = λ q. optional_sound over a starts read (k.sound q);
    finds = λ q. optional_finds within a starts ends (either starts ends) read (k.finds q) k.solid
        (λ t. no_left (starts t) (ends t)) (λ t. no_right (starts t) (ends t));
  }

  pub loose_many : {A : Type 0} {a : Grammar A} {starts ends : Lexeme → Bool} {read : Reader A}
      → Owes s f over within a starts ends read
      → ((t : Lexeme) → starts t ≡ true → ends t ≡ false)
      → OwesLoosely s f over within (many a) starts (either starts ends) (λ us. many_at starts read (length us) us)
  loose_many {A} {a} {starts} {ends} {read} k apart = record {
    sound = λ q ts. many_sound over a starts read (k.sound q) (length ts) ts;
    finds = λ q. many_finds within a starts ends (either starts ends) read (k.finds q) k.solid apart
        (λ t. no_left (starts t) (ends t)) (λ t. no_right (starts t) (ends t));
  }

  -- the tree made of a part that may be empty
  pub loose_made : {A B : Type 0} {a : Grammar A} {starts ends : Lexeme → Bool} {read : Reader A} (g : A → B)
      → OwesLoosely s f over within a starts ends read
      → OwesLoosely s f over within (a ⇒ g) starts ends (λ ts. read ts >>= λ x. Ok (g x.0, x.1))
  loose_made {A} {B} {a} {starts} {ends} {read} g r =
      record {
        sound = λ q. made_sound over a g read (r.sound q);
        finds = λ q. made_finds within a g starts ends read
            (r.finds q);
      }

  -- a part that may be empty, before one that is never empty
  pub rule_lead : {A B C : Type 0} {a : Grammar A} {b : Grammar B} {starts-a ends-a starts-b ends-b : Lexeme → Bool}
      {ra : Reader A} {rb : Reader B} (g : A × B → C)
      → OwesLoosely s f over within a starts-a ends-a ra
      → Owes s f over within b starts-b ends-b rb
      → ((t : Lexeme) → starts-b t ≡ true → ends-a t ≡ false)
      → Owes s f over within ((a ∙ b) ⇒ g) (either starts-a starts-b) ends-b (then_read g ra rb)
  rule_lead {A} {B} {C} {a} {b} {starts-a} {ends-a} {starts-b} {ends-b} {ra} {rb} g ka kb apart = record {
    sound = λ q ts. seq_sound over a b g ts (ra ts) rb (ka.sound q ts) (kb.sound q);
    finds = λ q. open_finds within a b g (either starts-a starts-b) starts-a ends-a starts-b ends-b ra rb (ka.finds q)
        (kb.finds q) kb.solid apart (λ t. bor_left (starts-a t) (starts-b t))
        (λ t. bor_right (starts-a t) (starts-b t));
    solid = open_solid a b g kb.solid;
  }

  -- parts with commas between them
  pub rule_listed : {A : Type 0} {a : Grammar A} {starts ends : Lexeme → Bool} {read : Reader A}
      → Owes s f over within a starts ends read
      → ends (Mark Comma) ≡ false
      → Owes s f over within (listed a) starts (with_comma ends) (listed_at read)
  rule_listed {A} {a} {starts} {ends} {read} k e = record {
    sound = λ q. listed_sound over a read (k.sound q);
    finds = λ q. finds_listed within a starts ends read (k.finds q) e k.solid;
    solid = seq_solid a (many (preceded (Mark Comma) a)) (λ p. p.0 ∷ p.1) k.solid;
  }

  -- for a reader with the same results
  pub rule_read : {A : Type 0} {a : Grammar A} {starts ends : Lexeme → Bool} {r : Reader A} (r' : Reader A)
      → ((ts : List Lexeme) → r ts ≡ r' ts)
      → Owes s f over within a starts ends r
      → Owes s f over within a starts ends r'
  rule_read {A} {a} {starts} {ends} {r} r' e k =
      record {
        sound = λ q. same_sound over a r r' e (k.sound q);
        finds = λ q. same_finds within a starts ends r r' e
            (k.finds q);
        solid = k.solid;
      }

  -- with tests that are true of at least as many lexemes
  pub rule_tests : {A : Type 0} {a : Grammar A} {starts ends : Lexeme → Bool} {read : Reader A}
      (starts' ends' : Lexeme → Bool)
      → ((t : Lexeme) → starts t ≡ true → starts' t ≡ true)
      → ((t : Lexeme) → ends' t ≡ false → ends t ≡ false)
      → Owes s f over within a starts ends read
      → Owes s f over within a starts' ends' read
  rule_tests {A} {a} {starts} {ends} {read} starts' ends' gs ge k =
      record { sound = k.sound; finds = λ q. all (k.finds q); solid = k.solid }
    where
      go : (us : List Lexeme) → Follows ends' us → Follows ends us
      go [] h = tt
      go (t ∷ us) h = ge t h

      all : Finds within a starts ends read → Finds within a starts' ends' read
      all fa = record {
        nil = fa.nil;
        part = fa.part;
        first = λ t u h. gs t (fa.first t u h);
        whole = λ x u us h e. fa.whole x u us h (go us e);
        front = fa.front;
      }

  -- for the same grammar in another form
  pub rule_same : {A : Type 0} {a : Grammar A} (b : Grammar A) {starts ends : Lexeme → Bool} {read : Reader A}
      → Same a b
      → Owes s f over within a starts ends read
      → Owes s f over within b starts ends read
  rule_same {A} {a} b {starts} {ends} {read} same k =
      record {
        sound = λ q ts. go ts (read ts) (k.sound q ts);
        finds = λ q. all (k.finds q);
        solid =
            record { no_empty = λ x h. k.solid.no_empty x (same.back.is x [] h) };
      }
    where
      go : (ts : List Lexeme) (r : Read A) → Sound over a ts r → Sound over b ts r
      go ts (Ok x) h = (h.0, h.1, same.to.is x.0 h.0 h.2)
      go ts (Err e) h = (h.0, h.1, h.2, h.3, same.to.on h.0 h.4)

      all : Finds within a starts ends read → Finds within b starts ends read
      all fa = record {
        nil = same.to.on [] fa.nil;
        part = λ x u h. same.to.on u (fa.part x u (same.back.is x u h));
        first = λ t u h. fa.first t u (same.back.on (t ∷ u) h);
        whole = λ x u us h e. fa.whole x u us (same.back.is x u h) e;
        front = λ u us h. fa.front u us (same.back.on u h);
      }

-- ---- a number under a limit

abbrev pub is_number : Lexeme → Bool
is_number (Number n) = true
is_number t = false

unfoldable pub number_at : (ℕ → Bool) → Reader ℕ
number_at fits (Number n ∷ rest) = fitting (fits n) (Number n ∷ rest) (Ok (n, rest))
number_at fits ts = stop ts

-- `fits` is the reader's test of numbers, and `fits'` is the grammar's
module _ (over : Limit → ℕ) (within : Limit → Type 0) (fits fits' : ℕ → Bool)
    (grows : (n : ℕ) → fits n ≡ true → fits' n ≡ true) (past : Past (over Integer) ((n : ℕ) → fits' n ≡ true))
    (room : (n : ℕ) → fits' n ≡ true → within Integer → fits n ≡ true) where
  le_same : (us : List Lexeme) → length us ≤ length us
  le_same us = omega arith

  number_sound : SoundReader over (number_of fits') (number_at fits)
  unfolding number_at
  number_sound [] = ([], [], refl, refl, inl refl)
  number_sound (Number n ∷ ts) =
      fitting_sound over fits fits' past (number_of fits') (fits n) n [] ts (Ok (n, ts)) (inl refl)
      (λ f. inr (n, f, refl)) (λ f. (Number n ∷ [], refl, (grows n f, refl)))
  number_sound (t ∷ ts) = ([], t ∷ ts, refl, refl, inl refl)

  number_passes : (us : List Lexeme) → Passes within us (number_at fits us)
  unfolding number_at
  number_passes [] = le_same []
  number_passes (Number n ∷ us) = fitting_shrinks within (fits n) n us (Ok (n, us)) (le_same us)
  number_passes (t ∷ us) = le_same (t ∷ us)

  number_front : (u us : List Lexeme) → (number_of fits').IsPrefix u → Passes within us (number_at fits (u ++ us))
  unfolding number_at
  number_front u us (inl e) = subst (λ (l : List Lexeme). Passes within us (number_at fits (l ++ us))) (sym e)
      (number_passes us)
  number_front u us (inr (n, f, e)) = subst (λ (l : List Lexeme). Passes within us (number_at fits (l ++ us))) (sym e)
      (fitting_passes within (fits n) us (Number n ∷ us) (Ok (n, us)) (room n f) (le_same us))

  number_whole : (n : ℕ) (u us : List Lexeme) → (number_of fits').Is n u
      → ReadsAs within (number_at fits (u ++ us)) n us
  unfolding number_at
  number_whole n u us h = subst (λ (l : List Lexeme). ReadsAs within (number_at fits (l ++ us)) n us) (sym h.1)
      (fitting_reads_as within (fits n) (Number n ∷ us) us (Ok (n, us)) n (room n h.0) (inl refl))

  number_first : (t : Lexeme) (u : List Lexeme) → (number_of fits').IsPrefix (t ∷ u) → is_number t ≡ true
  number_first t u (inl e) = absurd cc
  number_first t u (inr (n, f, e)) = subst (λ (t : Lexeme). is_number t ≡ true) (sym (head_is t (Number n) u [] e)) refl

  pub rule_number : Rules over within (number_of fits') is_number no_lexeme (number_at fits)
  rule_number = record {
    sound = λ q. number_sound;
    finds = λ q. record {
      nil = inl refl;
      part = λ n u h. inr (n, h.0, h.1);
      first = number_first;
      whole =
          λ n u us h f. number_whole n u us h;
      front = number_front;
    };
    solid = record { no_empty = λ n h. let e = h.1 in absurd cc };
  }

-- the tree of a number that is read
pub fitting_made : {A : Type 0} (f : ℕ → A) (b : Bool) (n : ℕ) (ts rest : List Lexeme)
    → (fitting b ts (Ok (n, rest)) >>= λ x. Ok (f x.0, x.1)) ≡ fitting b ts (Ok (f n, rest))
fitting_made f true n ts rest = refl
fitting_made f false n ts rest = refl

-- the tree made of what is read
abbrev pub made : {A B : Type 0} → (A → B) → Read A → Read B
made f r = r >>= λ x. Ok (f x.0, x.1)

-- a result stays the same if it is taken apart and put together
pub read_again : {A : Type 0} (r : Read A) → (r >>= λ x. Ok (x.0, x.1)) ≡ r
read_again (Ok x) = refl
read_again (Err e) = refl

-- ---- one lexeme

abbrev pub taken : Bool → List Lexeme → List Lexeme → Read (Unit {0})
taken true ts rest = Ok (tt, rest)
taken false ts rest = stop ts

abbrev pub one_at : (Lexeme → Bool) → Reader (Unit {0})
one_at test [] = stop []
one_at test (t ∷ ts) = taken (test t) (t ∷ ts) ts

pub one_is : (s : Lexeme) (test : Lexeme → Bool)
    → test s ≡ true
    → ((t : Lexeme) → test t ≡ true → t ≡ s)
    → IsKind (λ (x : Unit {0}). s) test (one_at test)
one_is s test holds one = record {
  yes = λ x. holds;
  one = λ t e. (tt, one t e);
  nil = refl;
  hit =
      λ x ts. ap (λ (b : Bool). taken b (s ∷ ts) ts) holds;
  miss = λ t ts e. ap (λ (b : Bool). taken b (t ∷ ts) ts) e;
}

-- what a reader guarantees for its production under limits: a are the reader's limits, and b are the grammar's
abbrev pub Ruled : {A : Type 0} → ((ℕ → Bool) → Grammar A) → (Lexeme → Bool) → ((ℕ → Bool) → Reader A) → Type 0
Ruled g starts read = (over : Limit → ℕ) (a b : Limits)
    → ((n : ℕ) → a.number n ≡ true → b.number n ≡ true)
    → Past (over Integer) ((n : ℕ) → b.number n ≡ true)
    → Rules over (λ l. Within l b a) (g b.number) starts no_lexeme (read a.number)
