-- What readers of lists with an extension marker, and of version brackets, guarantee.
use Rattle.std.proofs.Common.{◌≡◌, ℕ, ◌⊎◌, inl, inr, Bool, true, false, List, [], ◌∷◌, length, Option, Some, Ok, Err, refl, sym, ap, subst, ◌∙◌ as ◌⋆◌}
use Rattle.text.specs.declared.token.Mark.TheVariants.{Colon, Comma, Ellipsis, OpenVersion, CloseVersion}
use Rattle.grammar.specs.Lexeme.{Lexeme, Number, Mark}
use Rattle.grammar.specs.Grammar.{Grammar, number_of, mark, ◌∙◌, ◌∣◌, ◌⇒◌, preceded, listed, marked, extensible, rootless, version, addition}
use Rattle.grammar.specs.Reading.{Limit, Integer, Read, Reader, ◌>>=◌, fitting, after_commas_at, listed_at, Extensible, next_marker, additions_at, more_at, extensible_at, rootless_at, colon_at, close_version_at, version_at, version_parts_at, addition_at}
use Rattle.grammar.specs.Laws.{commas_sound, is_comma, then_read, after_read}
use Rattle.grammar.specs.Lists.{no_lexeme, with_comma, finds_many}
use Rattle.grammar.specs.Numbers.{Past}
use Rattle.grammar.specs.Parts.{pick, perhaps}
use Rattle.grammar.specs.Rules.{Owes, OwesLoosely, Same, asked, either, rule_token, rule_made, rule_seq, rule_preceded, rule_tail, rule_lead, rule_pick, rule_listed, loose_optional, rule_read, rule_same, rule_number, is_number, number_at, made, read_again, one_at, one_is}
use Rattle.grammar.specs.Openings.{rule_both}
use Rattle.grammar.specs.Extension.{commas, tail, first_and, extensible_same, more_sound}
use Rattle.grammar.specs.ExtensionFront.{tail_finds}
use Rattle.grammar.specs.Lexemes.{comma_one, ellipsis_one, is_ellipsis}

comma_apart : (ends : Lexeme → Bool) → ends (Mark Comma) ≡ false → (t : Lexeme) → is_comma t ≡ true → ends t ≡ false
comma_apart ends e t h = subst (λ (t : Lexeme). ends t ≡ false) (sym (comma_one t h)) e

-- ---- the marker

abbrev unrooted : {A B : Type 0} → List B → Extensible A B
unrooted ys = ([], Some ys)

starts_apart : (starts : Lexeme → Bool)
    → starts (Mark Ellipsis) ≡ false
    → (t : Lexeme)
    → starts t ≡ true
    → is_ellipsis t ≡ false
starts_apart starts e (Mark Ellipsis) h = absurd (let d = sym e ⋆ h in cc)
starts_apart starts e t h = refl

module _ {A B : Type 0} (ra : Reader A) (rb : Reader B) where
  extensible_read : (ts : List Lexeme)
      → then_read first_and ra (λ us. more_at ra rb (length us) us) ts ≡ extensible_at ra rb ts
  unfolding extensible_at
  extensible_read ts = refl

  abbrev after_marker : Reader (List B)
  after_marker = then_read (λ (p : Unit {0} × List B). p.1) (one_at is_ellipsis)
      (λ us. after_commas_at rb (length us) us)

  abbrev marked_read : Reader (Extensible A B)
  marked_read ts = after_marker ts >>= λ ys. Ok (unrooted ys.0, ys.1)

  rootless_same : (ts : List Lexeme) → pick is_ellipsis marked_read (extensible_at ra rb) ts ≡ rootless_at ra rb ts
  unfolding extensible_at rootless_at next_marker additions_at
  rootless_same [] = refl
  rootless_same (Mark Ellipsis ∷ ts) = ap (made unrooted) (read_again (after_commas_at rb (length ts) ts))
  rootless_same (t ∷ ts) = refl

module _ {A B : Type 0} (s f : Type 0) (over : Limit → ℕ) (within : Limit → Type 0) (a : Grammar A) (b : Grammar B)
    (starts ends starts-b ends-b : Lexeme → Bool) (ra : Reader A) (rb : Reader B)
    (ka : Owes s f over within a starts ends ra) (kb : Owes s f over within b starts-b ends-b rb)
    (apart : ends (Mark Comma) ≡ false) (apart-b : ends-b (Mark Comma) ≡ false)
    (no_mark : starts (Mark Ellipsis) ≡ false) where
  loose_commas :
      OwesLoosely s f over within (commas b) is_comma (with_comma ends-b) (λ us. after_commas_at rb (length us) us)
  loose_commas = record {
    sound = λ q ts. commas_sound over b rb (kb.sound q) (length ts) ts;
    finds =
        λ q. finds_many within b starts-b ends-b rb (kb.finds q) apart-b;
  }

  loose_tail :
      OwesLoosely s f over within (tail a b) is_comma (with_comma (either ends ends-b))
      (λ us. more_at ra rb (length us) us)
  loose_tail = record {
    sound = λ q ts. more_sound over a b ra rb (ka.sound q) (kb.sound q) (length ts) ts;
    finds = λ q. tail_finds within a b starts ends starts-b ends-b ra rb (ka.finds q) (kb.finds q) ka.solid apart
        apart-b no_mark;
  }

  extensible_owed :
      Owes s f over within (extensible a b) starts (either ends (with_comma (either ends ends-b))) (extensible_at ra rb)
  extensible_owed = rule_same (extensible a b) (extensible_same a b)
      (rule_read (extensible_at ra rb) (extensible_read ra rb)
      (rule_tail first_and ka loose_tail (comma_apart ends apart)))

  marked_owed :
      Owes s f over within (marked b ⇒ unrooted {A = A}) is_ellipsis (either no_lexeme (with_comma ends-b))
      (marked_read ra rb)
  marked_owed = rule_made unrooted
      (rule_tail (λ p. p.1) (rule_token (one_is (Mark Ellipsis) is_ellipsis refl ellipsis_one)) loose_commas
      (λ t e. refl))

  rootless_owed :
      Owes s f over within (rootless a b) (either is_ellipsis starts)
      (either (either no_lexeme (with_comma ends-b)) (either ends (with_comma (either ends ends-b))))
      (rootless_at ra rb)
  rootless_owed = rule_read (rootless_at ra rb) (rootless_same ra rb)
      (rule_pick marked_owed extensible_owed (starts_apart starts no_mark))

pub rule_extensible : {A B : Type 0} {s f : Type 0} {over : Limit → ℕ} {within : Limit → Type 0} {a : Grammar A}
    {b : Grammar B} {starts ends starts-b ends-b : Lexeme → Bool} {ra : Reader A} {rb : Reader B}
    → Owes s f over within a starts ends ra
    → Owes s f over within b starts-b ends-b rb
    → ends (Mark Comma) ≡ false
    → ends-b (Mark Comma) ≡ false
    → starts (Mark Ellipsis) ≡ false
    → Owes s f over within (extensible a b) starts (either ends (with_comma (either ends ends-b))) (extensible_at ra rb)
rule_extensible {A} {B} {s} {f} {over} {within} {a} {b} {starts} {ends} {starts-b} {ends-b} {ra} {rb} ka kb apart
    apart-b no_mark = extensible_owed s f over within a b starts ends starts-b ends-b ra rb ka kb apart apart-b no_mark

pub rule_rootless : {A B : Type 0} {s f : Type 0} {over : Limit → ℕ} {within : Limit → Type 0} {a : Grammar A}
    {b : Grammar B} {starts ends starts-b ends-b : Lexeme → Bool} {ra : Reader A} {rb : Reader B}
    → Owes s f over within a starts ends ra
    → Owes s f over within b starts-b ends-b rb
    → ends (Mark Comma) ≡ false
    → ends-b (Mark Comma) ≡ false
    → starts (Mark Ellipsis) ≡ false
    →
    Owes s f over within (rootless a b) (either is_ellipsis starts)
    (either (either no_lexeme (with_comma ends-b)) (either ends (with_comma (either ends ends-b))))
    (rootless_at ra rb)
rule_rootless {A} {B} {s} {f} {over} {within} {a} {b} {starts} {ends} {starts-b} {ends-b} {ra} {rb} ka kb apart apart-b
    no_mark = rootless_owed s f over within a b starts ends starts-b ends-b ra rb ka kb apart apart-b no_mark

-- ---- version brackets

abbrev pub is_open_version : Lexeme → Bool
is_open_version (Mark OpenVersion) = true
is_open_version t = false

open_version_one : (t : Lexeme) → is_open_version t ≡ true → t ≡ Mark OpenVersion
open_version_one (Mark OpenVersion) e = refl
open_version_one t e = absurd cc

abbrev is_close_version : Lexeme → Bool
is_close_version (Mark CloseVersion) = true
is_close_version t = false

close_version_only : (t : Lexeme) → is_close_version t ≡ true → t ≡ Mark CloseVersion
close_version_only (Mark CloseVersion) e = refl
close_version_only t e = absurd cc

close_version_same : (ts : List Lexeme) → one_at is_close_version ts ≡ close_version_at ts
unfolding close_version_at
close_version_same [] = refl
close_version_same (Mark CloseVersion ∷ ts) = refl
close_version_same (t ∷ ts) = refl

abbrev is_colon : Lexeme → Bool
is_colon (Mark Colon) = true
is_colon t = false

colon_one : (t : Lexeme) → is_colon t ≡ true → t ≡ Mark Colon
colon_one (Mark Colon) e = refl
colon_one t e = absurd cc

colon_same : (ts : List Lexeme) → one_at is_colon ts ≡ colon_at ts
unfolding colon_at
colon_same [] = refl
colon_same (Mark Colon ∷ ts) = refl
colon_same (t ∷ ts) = refl

close_apart : (ends : Lexeme → Bool)
    → ends (Mark CloseVersion) ≡ false
    → (t : Lexeme)
    → is_close_version t ≡ true
    → ends t ≡ false
close_apart ends e t h = subst (λ (t : Lexeme). ends t ≡ false) (sym (close_version_only t h)) e

abbrev Version : Type 0
Version = Option (ℕ × Unit {0})

-- the number's value is dropped
abbrev forgot : Version → Unit {0}
forgot v = tt

abbrev version_read : (ℕ → Bool) → Reader Version
version_read fits = perhaps is_number (then_read (λ p. p) (number_at fits) colon_at)

colon_again : (n : ℕ) (r : Read (Unit {0})) → made forgot (made (λ x. Some x) (made (λ (u : Unit {0}). (n, u)) r)) ≡ r
colon_again n (Ok x) = refl
colon_again n (Err e) = refl

number_again : (b : Bool) (n : ℕ) (ts rest : List Lexeme)
    →
    made forgot (made (λ x. Some x) (after_read (λ p. p) (fitting b ts (Ok (n, rest))) colon_at)) ≡ fitting b ts
    (colon_at rest)
number_again true n ts rest = colon_again n (colon_at rest)
number_again false n ts rest = refl

version_same : (fits : ℕ → Bool) (ts : List Lexeme) → made forgot (version_read fits ts) ≡ version_at fits ts
unfolding version_at number_at
version_same fits [] = refl
version_same fits (Number n ∷ ts) = number_again (fits n) n (Number n ∷ ts) ts
version_same fits (t ∷ ts) = refl

-- a choice of two productions is the same in the other order
turned : {A : Type 0} (a b : Grammar A) → Same (a ∣ b) (b ∣ a)
turned {A} a b = record { to = record { is = is a b; on = on a b }; back = record { is = is b a; on = on b a } }
  where
    is : (a b : Grammar A) (x : A) (u : List Lexeme) → (a ∣ b).Is x u → (b ∣ a).Is x u
    is a b x u (inl h) = inr h
    is a b x u (inr h) = inl h

    on : (a b : Grammar A) (u : List Lexeme) → (a ∣ b).IsPrefix u → (b ∣ a).IsPrefix u
    on a b u (inl h) = inr h
    on a b u (inr h) = inl h

rule_turned : {A : Type 0} {s f : Type 0} {over : Limit → ℕ} {within : Limit → Type 0} {a b : Grammar A}
    {starts ends : Lexeme → Bool} {read : Reader A}
    → Owes s f over within (a ∣ b) starts ends read
    → Owes s f over within (b ∣ a) starts ends read
rule_turned {A} {s} {f} {over} {within} {a} {b} k = rule_same (b ∣ a) (turned a b) k

abbrev bracket : {A : Type 0} → Version × (List A × Unit {0}) → A ⊎ List A
bracket p = inr p.1.0

module _ {A : Type 0} (fits : ℕ → Bool) (read : Reader A) where
  abbrev parts_read : Reader (List A × Unit {0})
  parts_read = then_read (λ p. p) (listed_at read) close_version_at

  abbrev inside_read : Reader (Version × (List A × Unit {0}))
  inside_read = then_read (λ p. p) (version_read fits) parts_read

  abbrev bracket_read : Reader (A ⊎ List A)
  bracket_read ts = then_read (λ (p : Unit {0} × (Version × (List A × Unit {0}))). p.1) (one_at is_open_version)
      inside_read ts >>= λ x. Ok (bracket x.0, x.1)

  abbrev whole_read : Reader (A ⊎ List A)
  whole_read = pick is_open_version bracket_read (λ ts. read ts >>= λ x. Ok (inl x.0, x.1))

  closing : (v : Version) (xs : List A) (r : Read (Unit {0}))
      →
      made bracket (made (λ (y : List A × Unit {0}). (v, y)) (made (λ (y : Unit {0}). (xs, y)) r))
      ≡ (r >>= λ c. Ok (inr xs, c.1))
  closing v xs (Ok c) = refl
  closing v xs (Err e) = refl

  listing : (v : Version) (r : Read (List A))
      →
      made bracket (made (λ (y : List A × Unit {0}). (v, y)) (after_read (λ p. p) r close_version_at))
      ≡ (r >>= λ xs. close_version_at xs.1 >>= λ c. Ok (inr xs.0, c.1))
  listing v (Ok xs) = closing v xs.0 (close_version_at xs.1)
  listing v (Err e) = refl

  after_version : (r : Read Version)
      →
      made bracket (after_read (λ p. p) r parts_read)
      ≡ (made forgot r >>= λ v. listed_at read v.1 >>= λ xs. close_version_at xs.1 >>= λ c. Ok (inr xs.0, c.1))
  after_version (Ok v) = listing v.0 (listed_at read v.1)
  after_version (Err e) = refl

  addition_same : (ts : List Lexeme) → whole_read ts ≡ addition_at fits read ts
  unfolding addition_at version_parts_at
  addition_same [] = refl
  addition_same (Mark OpenVersion ∷ ts) =
      ap (made bracket) (read_again (inside_read ts)) ⋆ after_version (version_read fits ts)
      ⋆ ap (λ (r : Read (Unit {0})). r >>= λ v. listed_at read v.1 >>= λ xs. close_version_at xs.1 >>= λ c. Ok
      (inr xs.0, c.1)) (version_same fits ts)
  addition_same (t ∷ ts) = refl

-- lexemes with which parts in version brackets must not begin or continue
pub record FitsBrackets (starts ends : Lexeme → Bool) : Type 0 where
  pub comma : ends (Mark Comma) ≡ false
  pub close : ends (Mark CloseVersion) ≡ false
  pub bracket : starts (Mark OpenVersion) ≡ false
  pub number : (n : ℕ) → starts (Number n) ≡ false

open_apart : (starts : Lexeme → Bool)
    → starts (Mark OpenVersion) ≡ false
    → (t : Lexeme)
    → starts t ≡ true
    → is_open_version t ≡ false
open_apart starts e (Mark OpenVersion) h = absurd (let d = sym e ⋆ h in cc)
open_apart starts e t h = refl

numbers_apart : (starts : Lexeme → Bool)
    → ((n : ℕ) → starts (Number n) ≡ false)
    → (t : Lexeme)
    → starts t ≡ true
    → either is_number no_lexeme t ≡ false
numbers_apart starts e (Number n) h = absurd (let d = sym (e n) ⋆ h in cc)
numbers_apart starts e t h = refl

-- `fits` is the reader's test of numbers, and `fits'` is the grammar's
module _ (s f : Type 0) (over : Limit → ℕ) (within : Limit → Type 0) (fits fits' : ℕ → Bool)
    (grows : (n : ℕ) → fits n ≡ true → fits' n ≡ true) (past : Past (over Integer) ((n : ℕ) → fits' n ≡ true))
    (room : (n : ℕ) → fits' n ≡ true → within Integer → fits n ≡ true) {A : Type 0} (a : Grammar A)
    (starts ends : Lexeme → Bool) (read : Reader A) (k : Owes s f over within a starts ends read)
    (e : FitsBrackets starts ends) where
  loose_version : OwesLoosely s f over within (version fits') is_number (either is_number no_lexeme) (version_read fits)
  loose_version = loose_optional
      (rule_both (number_of fits') (mark Colon)
      (rule_seq (λ p. p) (asked (rule_number over within fits fits' grows past room))
      (rule_read colon_at colon_same (rule_token (one_is (Mark Colon) is_colon refl colon_one))) (λ t e. refl)))

  rule_parts : Owes s f over within (listed a ∙ mark CloseVersion) starts no_lexeme (parts_read fits read)
  rule_parts = rule_both (listed a) (mark CloseVersion)
      (rule_seq (λ p. p) (rule_listed k e.comma)
      (rule_read close_version_at close_version_same
      (rule_token (one_is (Mark CloseVersion) is_close_version refl close_version_only)))
      (close_apart (with_comma ends) e.close))

  rule_bracket :
      Owes s f over within (preceded (Mark OpenVersion) (version fits' ∙ (listed a ∙ mark CloseVersion)) ⇒ bracket)
      is_open_version no_lexeme (bracket_read fits read)
  rule_bracket =
      rule_made bracket (rule_preceded (rule_token (one_is (Mark OpenVersion) is_open_version refl open_version_one))
      (rule_both (version fits') (listed a ∙ mark CloseVersion)
      (rule_lead (λ p. p) loose_version rule_parts (numbers_apart starts e.number))))

  addition_owed :
      Owes s f over within (addition fits' a) (either is_open_version starts) (either no_lexeme ends)
      (addition_at fits read)
  addition_owed = rule_read (addition_at fits read) (addition_same fits read)
      (rule_turned (rule_pick rule_bracket (rule_made inl k) (open_apart starts e.bracket)))

pub rule_addition : {A : Type 0} {s f : Type 0} (over : Limit → ℕ) (within : Limit → Type 0) (fits fits' : ℕ → Bool)
    → ((n : ℕ) → fits n ≡ true → fits' n ≡ true)
    → Past (over Integer) ((n : ℕ) → fits' n ≡ true)
    → ((n : ℕ) → fits' n ≡ true → within Integer → fits n ≡ true)
    → {a : Grammar A} {starts ends : Lexeme → Bool} {read : Reader A}
    → Owes s f over within a starts ends read
    → FitsBrackets starts ends
    →
    Owes s f over within (addition fits' a) (either is_open_version starts) (either no_lexeme ends)
    (addition_at fits read)
rule_addition {A} {s} {f} over within fits fits' grows past room {a} {starts} {ends} {read} k e =
    addition_owed s f over within fits fits' grows past room a starts ends read k e
