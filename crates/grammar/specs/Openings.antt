-- What readers guarantee for parts that open a nested part, and small rules.
use Rattle.std.proofs.Common.{◌≡◌, ℕ, zero, suc, ◌+◌, ◌≤◌, inl, inr, Bool, true, false, List, [], ◌∷◌, ◌++◌, length, Ok, Err, refl, sym, ap, subst, ◌∙◌ as ◌⋆◌, arith}
use Rattle.text.specs.declared.token.Mark.TheVariants.{OpenBrace, CloseBrace}
use Rattle.grammar.specs.Lexeme.{Lexeme, Ident, Mark}
use Rattle.grammar.specs.Grammar.{Grammar, token, mark, only, ◌∙◌, ◌⇒◌, preceded, braces, cut_off, opens}
use Rattle.grammar.specs.Grows.{same_grows}
use Rattle.grammar.specs.Reading.{Limit, Nesting, Read, Reader, stop, closed_at, opened, inside_at, braces_at, named_at}
use Rattle.grammar.specs.Laws.{more, Sound, Follows, Passes, ReadsAs, Finds, passes_on, then_read, after_read}
use Rattle.grammar.specs.Single.{is_closed, closed_is}
use Rattle.grammar.specs.Lists.{no_lexeme, is_ident, seq_first, seq_solid, named_sound, finds_named}
use Rattle.grammar.specs.Parts.{SoundReader, token_finds, token_solid, cut_off_finds, cut_off_solid, pair_sound, pair_finds, pair_solid, same_sound, same_finds}
use Rattle.grammar.specs.Rules.{Owes, OwesLoosely, Same, either, rule_token, rule_seq, rule_lead, rule_preceded, rule_read, rule_same, made, read_again, taken, one_at, one_is}
use Rattle.grammar.specs.Lexemes.{closed_one}

-- ---- small rules

pub loosely : {A : Type 0} {s f : Type 0} {over : Limit → ℕ} {within : Limit → Type 0} {g : Grammar A}
    {starts ends : Lexeme → Bool} {read : Reader A}
    → Owes s f over within g starts ends read
    → OwesLoosely s f over within g starts ends read
loosely k = record { sound = k.sound; finds = k.finds }

-- for a reader with the same results
pub loose_read : {A : Type 0} {s f : Type 0} {over : Limit → ℕ} {within : Limit → Type 0} {g : Grammar A}
    {starts ends : Lexeme → Bool} {r : Reader A} (r' : Reader A)
    → ((ts : List Lexeme) → r ts ≡ r' ts)
    → OwesLoosely s f over within g starts ends r
    → OwesLoosely s f over within g starts ends r'
loose_read {A} {s} {f} {over} {within} {g} {starts} {ends} {r} r' e k =
    record {
      sound = λ q. same_sound over g r r' e (k.sound q);
      finds = λ q. same_finds within g starts ends r r' e
          (k.finds q);
    }

-- a pair, of which the first part may be empty
pub rule_both : {A B : Type 0} {s f : Type 0} {over : Limit → ℕ} {within : Limit → Type 0} (a : Grammar A)
    (b : Grammar B) {starts ends : Lexeme → Bool} {read : Reader (A × B)}
    → Owes s f over within ((a ∙ b) ⇒ (λ p. p)) starts ends read
    → Owes s f over within (a ∙ b) starts ends read
rule_both {A} {B} {s} {f} {over} {within} a b {starts} {ends} {read} k =
    record {
      sound = λ q. pair_sound over a b read (k.sound q);
      finds = λ q. pair_finds within a b starts ends read
          (k.finds q);
      solid = record { no_empty = λ p h. k.solid.no_empty p (p, refl, h) };
    }

-- a part after a name
pub rule_named : {A : Type 0} {s f : Type 0} {over : Limit → ℕ} {within : Limit → Type 0} {a : Grammar A}
    {starts ends : Lexeme → Bool} {read : Reader A}
    → OwesLoosely s f over within a starts ends read
    → Owes s f over within (token Ident ∙ a) is_ident ends (named_at read)
rule_named {A} {s} {f} {over} {within} {a} {starts} {ends} {read} k =
    record {
      sound = λ q. named_sound over a read (k.sound q);
      finds = λ q. finds_named within a starts ends read
          (k.finds q);
      solid = pair_solid (token Ident) a (token_solid Ident);
    }

-- the tree of a tree that is made of two parts
pub after_made : {A B C D : Type 0} (g : C → D) (f : A × B → C) (r : Read A) (rb : Reader B)
    → made g (after_read f r rb) ≡ after_read (λ p. g (f p)) r rb
after_made {A} {B} {C} {D} g f (Ok x) rb = go (rb x.1)
  where
    go : (q : Read B) → made g (made (λ y. f (x.0, y)) q) ≡ made (λ y. g (f (x.0, y))) q
    go (Ok y) = refl
    go (Err e) = refl
after_made g f (Err e) rb = refl

-- ---- a part after a lexeme that opens it

abbrev pub IsOpenable : ℕ → Type 0
IsOpenable zero = ⊥
IsOpenable (suc n) = Unit {0}

abbrev pub barred : {A : Type 0} → Bool → ℕ → List Lexeme → Read A → Read A
barred true n ts read = opened n ts read
barred false n ts read = stop ts

-- `read` reads what comes after the lexeme
abbrev pub opened_by : {A : Type 0} → (Lexeme → Bool) → ℕ → Reader A → Reader A
opened_by test n read [] = stop []
opened_by test n read (t ∷ ts) = barred (test t) n (t ∷ ts) (read ts)

opened_same : {A : Type 0} (test : Lexeme → Bool) (n : ℕ) (read : Reader A) (ts : List Lexeme)
    → then_read (λ (p : Unit {0} × A). p.1) (one_at test) read ts ≡ opened_by test (suc n) read ts
opened_same test n read [] = refl
opened_same {A} test n read (t ∷ ts) = go (test t)
  where
    go : (b : Bool)
        → after_read (λ (p : Unit {0} × A). p.1) (taken b (t ∷ ts) ts) read ≡ barred b (suc n) (t ∷ ts) (read ts)
    go true = read_again (read ts)
    go false = refl

le_same : (us : List Lexeme) → length us ≤ length us
le_same us = omega arith

module _ {A : Type 0} (s f : Type 0) (over : Limit → ℕ) (within : Limit → Type 0) (l : Lexeme) (test : Lexeme → Bool)
    (holds : test l ≡ true) (one : (t : Lexeme) → test t ≡ true → t ≡ l) (b : Grammar A) (starts ends : Lexeme → Bool)
    (read : Reader A) where
  zero_passes : (us : List Lexeme) → Passes within us (opened_by test zero read us)
  zero_passes [] = le_same []
  zero_passes (t ∷ us) = go (test t)
    where
      go : (c : Bool) → Passes within (t ∷ us) (barred c zero (t ∷ us) (read us))
      go true = inl (le_same (t ∷ us))
      go false = le_same (t ∷ us)

  more_passes : (n : ℕ)
      → Finds within b starts ends read
      → (us : List Lexeme)
      → Passes within us (opened_by test (suc n) read us)
  more_passes n fb [] = le_same []
  more_passes n fb (t ∷ us) = go (test t)
    where
      go : (c : Bool) → Passes within (t ∷ us) (barred c (suc n) (t ∷ us) (read us))
      go true = passes_on within (t ∷ us) us (read us) (omega arith) (fb.front [] us fb.nil)
      go false = le_same (t ∷ us)

  -- no more parts may be open, for the reader and for the grammar
  none_sound : over Nesting ≡ 0 → SoundReader over cut_off (opened_by test zero read)
  none_sound e [] = ([], [], refl, refl, refl)
  none_sound e (t ∷ ts) = go (test t)
    where
      go : (c : Bool) → Sound over cut_off (t ∷ ts) (barred c zero (t ∷ ts) (read ts))
      go true = ([], t ∷ ts, refl, ap (λ (k : ℕ). more k (length (t ∷ ts))) (sym e), refl)
      go false = ([], t ∷ ts, refl, refl, refl)

  -- one more part may be open for the grammar
  one_sound : (m : ℕ) → over Nesting ≡ suc m → SoundReader over (preceded l b) (opened_by test zero read)
  one_sound m e [] = ([], [], refl, refl, inl (inl refl))
  one_sound m e (t ∷ ts) = go (test t) refl
    where
      long : length (t ∷ ts) ≡ more (suc m) (length ts)
      long = omega arith

      go : (c : Bool) → test t ≡ c → Sound over (preceded l b) (t ∷ ts) (barred c zero (t ∷ ts) (read ts))
      go true q = (
        t ∷ [],
        ts,
        refl,
        long
            ⋆ ap (λ (k : ℕ). more k (length ts)) (sym e),
        inl (inr (tt, ap (λ (u : Lexeme). u ∷ []) (one t q))),
      )
      go false q = ([], t ∷ ts, refl, refl, inl (inl refl))

  -- at a lexeme where no more parts may be open, the limit is passed, if not all is within it
  out_reads_as : (within Nesting → ⊥)
      → (x : A) (t : Lexeme) (ts us : List Lexeme)
      → test t ≡ true
      → ReadsAs within (opened_by test zero read (t ∷ ts)) x us
  out_reads_as w x t ts us e = inr
      ((Nesting, length (t ∷ ts)), w, ap (λ (c : Bool). barred c zero (t ∷ ts) (read ts)) e)

  out_passes : (within Nesting → ⊥)
      → (t : Lexeme) (ts us : List Lexeme)
      → test t ≡ true
      → Passes within us (opened_by test zero read (t ∷ ts))
  out_passes w t ts us e = subst (λ (c : Bool). Passes within us (barred c zero (t ∷ ts) (read ts))) (sym e) (inr w)

  one_finds : (within Nesting → ⊥)
      → ((x : A) (u : List Lexeme) → b.Is x u → b.IsPrefix u)
      → Finds within (preceded l b) test ends (opened_by test zero read)
  one_finds w part = record {
    nil = inl (inl refl);
    part = λ x u h. preceded_part x u h;
    first = first;
    whole =
        whole;
    front = front;
  }
    where
      preceded_part : (x : A) (u : List Lexeme) → (preceded l b).Is x u → (preceded l b).IsPrefix u
      preceded_part x u (p, d, (v, y, q, hv, hy)) = inr (tt, v, y, q, hv, part p.1 y hy)

      first : (t : Lexeme) (u : List Lexeme) → (preceded l b).IsPrefix (t ∷ u) → test t ≡ true
      first =
          let ft = token_finds (λ (x : Unit {0}). l) test (one_at test) (one_is l test holds one) within in
          seq_first (only l) b test (token_solid (λ (x : Unit {0}). l)) ft.part ft.first

      whole : (x : A) (u us : List Lexeme)
          → (preceded l b).Is x u
          → Follows ends us
          → ReadsAs within (opened_by test zero read (u ++ us)) x us
      whole x [] us h g = absurd ((seq_solid (only l) b (λ p. p.1) (token_solid (λ (x : Unit {0}). l))).no_empty x h)
      whole x (t ∷ u) us h g = out_reads_as w x t (u ++ us) us (first t u (preceded_part x (t ∷ u) h))

      front : (u us : List Lexeme) → (preceded l b).IsPrefix u → Passes within us (opened_by test zero read (u ++ us))
      front [] us h = zero_passes us
      front (t ∷ u) us h = out_passes w t (u ++ us) us (first t u h)

-- n is the number of parts that may still be open for the reader, and m is that for the grammar
module _ {A : Type 0} {s f : Type 0} {over : Limit → ℕ} {within : Limit → Type 0} (l : Lexeme) (test : Lexeme → Bool)
    (holds : test l ≡ true) (one : (t : Lexeme) → test t ≡ true → t ≡ l) (b : Grammar A) {starts ends : Lexeme → Bool}
    {read : Reader A} where
  pub rule_opens : (n m : ℕ)
      → (s → m ≡ over Nesting + n)
      → (f → within Nesting → m ≤ n)
      → (f → (x : A) (u : List Lexeme) → b.Is x u → b.IsPrefix u)
      → (IsOpenable n → Owes s f over within b starts ends read)
      → Owes s f over within (opens m (preceded l b)) test ends (opened_by test n read)
  rule_opens zero zero fit deep part k = record {
    sound = λ q. none_sound s f over within l test holds one b starts ends read (let e = fit q in omega (arith, e));
    finds = λ q. cut_off_finds within test ends (opened_by test zero read)
        (zero_passes s f over within l test holds one b starts ends read);
    solid = cut_off_solid;
  }
  rule_opens zero (suc m) fit deep part k = record {
    sound = λ q. one_sound s f over within l test holds one b starts ends read m (let e = fit q in omega (arith, e));
    finds = λ q. one_finds s f over within l test holds one b starts ends read (λ d. omega (arith, deep q d)) (part q);
    solid = seq_solid (only l) b (λ p. p.1) (token_solid (λ (x : Unit {0}). l));
  }
  rule_opens (suc n) zero fit deep part k = record {
    sound = λ q. absurd (let e = fit q in omega (arith, e));
    finds = λ q. cut_off_finds within test ends (opened_by test (suc n) read)
        (more_passes s f over within l test holds one b starts ends read n ((k tt).finds q));
    solid = cut_off_solid;
  }
  rule_opens (suc n) (suc m) fit deep part k = rule_read (opened_by test (suc n) read) (opened_same test n read)
      (rule_preceded (rule_token (one_is l test holds one)) (k tt))

-- ---- a part in braces

abbrev pub is_lbrace : Lexeme → Bool
is_lbrace (Mark OpenBrace) = true
is_lbrace t = false

pub lbrace_one : (t : Lexeme) → is_lbrace t ≡ true → t ≡ Mark OpenBrace
lbrace_one (Mark OpenBrace) e = refl
lbrace_one t e = absurd cc

abbrev pub inside : {A : Type 0} → Grammar A → Grammar A
inside a = (a ∙ mark CloseBrace) ⇒ (λ p. p.0)

braces_same : {A : Type 0} (a : Grammar A) → Same (preceded (Mark OpenBrace) (inside a)) (braces a)
braces_same {A} a = record { to = record { is = to; on = λ u h. h }; back = record { is = back; on = λ u h. h } }
  where
    to : (x : A) (u : List Lexeme) → (preceded (Mark OpenBrace) (inside a)).Is x u → (braces a).Is x u
    to x u (p, d, (v, w, q, hv, (r, e, hw))) = ((p.0, r), d ⋆ e, (v, w, q, hv, hw))

    back : (x : A) (u : List Lexeme) → (braces a).Is x u → (preceded (Mark OpenBrace) (inside a)).Is x u
    back x u (p, d, (v, w, q, hv, hw)) = ((p.0, p.1.0), d, (v, w, q, hv, (p.1, refl, hw)))

opens_same : {A : Type 0} (m : ℕ) (a b : Grammar A) → Same a b → Same (opens m a) (opens m b)
opens_same zero a b e = record { to = same_grows cut_off; back = same_grows cut_off }
opens_same (suc m) a b e = e

pub rule_braces : {A : Type 0} {s f : Type 0} {over : Limit → ℕ} {within : Limit → Type 0} (a : Grammar A)
    {starts ends : Lexeme → Bool} {read : Reader A} (n m : ℕ)
    → (s → m ≡ over Nesting + n)
    → (f → within Nesting → m ≤ n)
    → (f → (x : A) (u : List Lexeme) → (inside a).Is x u → (inside a).IsPrefix u)
    → (IsOpenable n → Owes s f over within (inside a) starts ends read)
    → Owes s f over within (opens m (braces a)) is_lbrace ends (opened_by is_lbrace n read)
rule_braces a n m fit deep part k =
    rule_same (opens m (braces a)) (opens_same m (preceded (Mark OpenBrace) (inside a)) (braces a) (braces_same a))
    (rule_opens (Mark OpenBrace) is_lbrace refl lbrace_one (inside a) n m fit deep part k)

inside_same : {A : Type 0} (read : Reader A) (ts : List Lexeme)
    → then_read (λ (p : A × Unit {0}). p.0) read closed_at ts ≡ inside_at read ts
unfolding inside_at
inside_same read ts = refl

braces_read : {A : Type 0} (n : ℕ) (read : Reader A) (ts : List Lexeme)
    → opened_by is_lbrace n (inside_at read) ts ≡ braces_at n read ts
unfolding braces_at
braces_read n read [] = refl
braces_read n read (Mark OpenBrace ∷ ts) = refl
braces_read n read (t ∷ ts) = refl

close_apart : (ends : Lexeme → Bool)
    → ends (Mark CloseBrace) ≡ false
    → (t : Lexeme)
    → is_closed t ≡ true
    → ends t ≡ false
close_apart ends e t h = subst (λ (t : Lexeme). ends t ≡ false) (sym (closed_one t h)) e

-- a part that is never empty, up to the closing brace
pub rule_inside : {A : Type 0} {s f : Type 0} {over : Limit → ℕ} {within : Limit → Type 0} {a : Grammar A}
    {starts ends : Lexeme → Bool} {read : Reader A}
    → Owes s f over within a starts ends read
    → ends (Mark CloseBrace) ≡ false
    → Owes s f over within (inside a) starts no_lexeme (inside_at read)
rule_inside {A} {s} {f} {over} {within} {a} {starts} {ends} {read} k e = rule_read (inside_at read) (inside_same read)
    (rule_seq (λ p. p.0) k (rule_token closed_is) (close_apart ends e))

-- a part that may be empty, up to the closing brace
pub rule_inside_loose : {A : Type 0} {s f : Type 0} {over : Limit → ℕ} {within : Limit → Type 0} {a : Grammar A}
    {starts ends : Lexeme → Bool} {read : Reader A}
    → OwesLoosely s f over within a starts ends read
    → ends (Mark CloseBrace) ≡ false
    → Owes s f over within (inside a) (either starts is_closed) no_lexeme (inside_at read)
rule_inside_loose {A} {s} {f} {over} {within} {a} {starts} {ends} {read} k e = rule_read (inside_at read)
    (inside_same read) (rule_lead (λ p. p.0) k (rule_token closed_is) (close_apart ends e))

-- a part in braces; n more parts may be open for the reader, and m for the grammar
pub rule_in_braces : {A : Type 0} {s f : Type 0} {over : Limit → ℕ} {within : Limit → Type 0} (a : Grammar A)
    {starts : Lexeme → Bool} (read : Reader A) (n m : ℕ)
    → (s → m ≡ over Nesting + n)
    → (f → within Nesting → m ≤ n)
    → (f → (x : A) (u : List Lexeme) → (inside a).Is x u → (inside a).IsPrefix u)
    → (IsOpenable n → Owes s f over within (inside a) starts no_lexeme (inside_at read))
    → Owes s f over within (opens m (braces a)) is_lbrace no_lexeme (braces_at n read)
rule_in_braces {A} {s} {f} {over} {within} a {starts} read n m fit deep part k = rule_read (braces_at n read)
    (braces_read n read) (rule_braces a n m fit deep part k)
