-- What the readers of the parts of types that hold no type fulfil.
use Rattle.std.proofs.Common.{◌≡◌, ℕ, ℤ, ◌+◌, ◌≤◌, Bool, true, false, List, [], ◌∷◌, Option, Ok, Err, refl, ap}
use Rattle.text.specs.declared.token.Mark.TheVariants.{OpenBrace, Dot, Minus}
use Rattle.text.specs.declared.reserved.Word.TheVariants as words
use Rattle.asn_base.specs.declared.tag.Tag.{Tag}
use Rattle.grammar.specs.Lexeme.{Lexeme, TypeRef, Number, Word, Mark}
use Rattle.grammar.specs.Grammar.{number_of, word, ◌∙◌, ◌⇒◌, listed, parens, extensible}
use Rattle.grammar.specs.Reading.{Limit, Nesting, Integer, Read, Reader, ◌>>=◌, is_open, parens_at, inside_at, braces_at, listed_at, extensible_at}
use Rattle.grammar.specs.Laws.{then_read, after_read}
use Rattle.grammar.specs.Lists.{no_lexeme, is_ident}
use Rattle.grammar.specs.Numbers.{Past}
use Rattle.grammar.specs.Parts.{pick, perhaps}
use Rattle.grammar.specs.Parens.{rule_parens}
use Rattle.grammar.specs.Rules.{Owes, OwesLoosely, Rules, asked, either, rule_token, rule_made, rule_seq, rule_preceded, rule_tail, rule_pick, rule_listed, loose_optional, loose_made, rule_read, rule_tests, is_number, number_at, rule_number, fitting_made, made, read_again, one_at}
use Rattle.grammar.specs.Openings.{loosely, loose_read, rule_named, rule_both, is_lbrace, inside, rule_inside, rule_in_braces}
use Rattle.grammar.specs.Extensions.{rule_extensible}
use Rattle.grammar.specs.Single.{module_name_at, is_typeref, typeref_is}
use Rattle.trees.specs.Values.{Name}
use Rattle.trees.specs.declared.types.Keyword.{Keyword}
use Rattle.trees.specs.declared.types.Keyword.TheVariants as keywords
use Rattle.trees.specs.Types.{Plain, an_octet_string, an_object_identifier, FormTree}
use Rattle.type_parts.specs.PlainGrammar.{reference_form, integer_with, bits_with, enumerated_of, keyword_of, positive_number, negative_number, TagNumber, application, private, context, tag_of, type_reference, keyword, signed, named_number, named_bit, item, integer, bit_string, enumerated, plain_type, tag_end, tag}
use Rattle.type_parts.specs.PlainReading.{string_at, identifier_at, one_word_at, type_in_at, ref_at, keyword_at, tag_end_at, class_at, tag_at, negative_at, signed_at, named_number_at, named_bit_at, item_at, integer_at, bits_at, bit_string_at, enumerated_at, simple_at}
use Rattle.type_parts.specs.TypeLexemes.{is_object_word, is_octet_word, is_bit_word, is_integer_word, is_enumerated_word, is_implicit_word, is_explicit_word, is_application_word, is_private_word, is_dot, is_minus, rule_object_word, rule_octet_word, rule_bit_word, rule_integer_word, rule_string, rule_identifier, rule_enumerated_word, rule_implicit_word, rule_explicit_word, rule_application_word, rule_private_word, rule_dot, rule_minus, digits_at, rule_digits, rule_bracket}
use Rattle.type_parts.specs.TypeWords.{is_type_word, rule_one_word, TagRule, rule_tag_number}

-- ---- parts that hold no number

explicit_no_implicit : (t : Lexeme) → is_explicit_word t ≡ true → is_implicit_word t ≡ false
explicit_no_implicit (Word words.Implicit) e = absurd cc
explicit_no_implicit t e = refl

abbrev pub is_keyword : Lexeme → Bool
is_keyword = either is_implicit_word is_explicit_word

abbrev keyword_read : Reader Keyword
keyword_read ts = perhaps is_keyword
    (pick is_implicit_word (λ ts. one_at is_implicit_word ts >>= λ x. Ok (keywords.Implicit, x.1))
    (λ ts. one_at is_explicit_word ts >>= λ x. Ok (keywords.Explicit, x.1))) ts >>= λ x. Ok (keyword_of x.0, x.1)

keyword_same : (ts : List Lexeme) → keyword_read ts ≡ keyword_at ts
unfolding keyword_at
keyword_same [] = refl
keyword_same (Word words.Implicit ∷ ts) = refl
keyword_same (Word words.Explicit ∷ ts) = refl
keyword_same (t ∷ ts) = refl

abbrev dot_read : Reader Name
dot_read = then_read (λ (p : Unit {0} × Name). p.1) (one_at is_dot) module_name_at

dot_same : (x : Name) (ts : List Lexeme)
    → made (λ (o : Option Name). reference_form (x, o)) (perhaps is_dot dot_read ts) ≡ ref_at x ts
unfolding ref_at type_in_at module_name_at
dot_same x [] = refl
dot_same x (Mark Dot ∷ []) = refl
dot_same x (Mark Dot ∷ TypeRef y ∷ ts) = refl
dot_same x (Mark Dot ∷ t ∷ ts) = refl
dot_same x (t ∷ ts) = refl

abbrev pub ref_read : Reader FormTree
ref_read = then_read reference_form module_name_at (perhaps is_dot dot_read)

pub ref_same : (x : Name) (ts : List Lexeme) → ref_read (TypeRef x ∷ ts) ≡ ref_at x ts
unfolding module_name_at
ref_same x ts = dot_same x ts

module _ {s f : Type 0} {over : Limit → ℕ} {within : Limit → Type 0} where
  pub loose_keyword :
      OwesLoosely s f over within keyword is_keyword (either is_keyword (either no_lexeme no_lexeme)) keyword_at
  loose_keyword = loose_read keyword_at keyword_same
      (loose_made keyword_of (loose_optional
      (rule_pick (rule_made (λ _. keywords.Implicit) rule_implicit_word)
      (rule_made (λ _. keywords.Explicit) rule_explicit_word) explicit_no_implicit)))

  pub rule_ref : Owes s f over within type_reference is_typeref (either no_lexeme (either is_dot no_lexeme)) ref_read
  rule_ref = rule_tail reference_form (rule_token typeref_is)
      (loose_optional (rule_preceded rule_dot (rule_token typeref_is))) (λ t e. refl)

-- ---- parts that hold numbers

module _ (fits : ℕ → Bool) where
  abbrev integer_read : ℕ → Reader Plain
  integer_read n = then_read (λ (p : Unit {0} × Option (List (Name × ℤ))). integer_with p.1) (one_at is_integer_word)
      (perhaps is_lbrace (braces_at n (listed_at (named_number_at fits))))

  integer_same : (n : ℕ) (ts : List Lexeme) → integer_read n (Word words.Integer ∷ ts) ≡ integer_at fits n ts
  unfolding integer_at
  integer_same n ts = refl

  abbrev string_bits : ℕ → Reader (Unit {0} × Option (List (Name × ℕ)))
  string_bits n = then_read (λ p. p) string_at (perhaps is_lbrace (braces_at n (listed_at (named_bit_at fits))))

  abbrev bits_read : ℕ → Reader Plain
  bits_read n = then_read (λ (p : Unit {0} × (Unit {0} × Option (List (Name × ℕ)))). bits_with p.1.1)
      (one_at is_bit_word) (string_bits n)

  after_string : (r : Read (Option (List (Name × ℕ))))
      →
      made (λ (p : Unit {0} × Option (List (Name × ℕ))). bits_with p.1)
      (made (λ (o : Option (List (Name × ℕ))). (tt, o)) r) ≡ made bits_with r
  after_string (Ok o) = refl
  after_string (Err e) = refl

  string_then : (n : ℕ) (r : Read (Unit {0}))
      →
      made (λ (p : Unit {0} × Option (List (Name × ℕ))). bits_with p.1)
      (after_read (λ p. p) r (perhaps is_lbrace (braces_at n (listed_at (named_bit_at fits)))))
      ≡ (r >>= λ s. bits_at fits n s.1)
  unfolding bits_at
  string_then n (Ok s) = after_string (perhaps is_lbrace (braces_at n (listed_at (named_bit_at fits))) s.1)
  string_then n (Err e) = refl

  bits_same : (n : ℕ) (ts : List Lexeme) → bits_read n (Word words.Bit ∷ ts) ≡ bit_string_at fits n ts
  unfolding bit_string_at
  bits_same n ts = string_then n (string_at ts)

  abbrev items_read : ℕ → Reader Plain
  items_read n = then_read (λ (p : Unit {0} × (List (Name × Option ℤ) × Option (List (Name × Option ℤ)))). enumerated_of
      p.1) (one_at is_enumerated_word) (braces_at n (extensible_at (item_at fits) (item_at fits)))

  items_same : (n : ℕ) (ts : List Lexeme) → items_read n (Word words.Enumerated ∷ ts) ≡ enumerated_at fits n ts
  unfolding enumerated_at
  items_same n ts = refl

  abbrev simple_read : ℕ → Reader Plain
  simple_read n =
      pick is_type_word one_word_at
      (pick is_object_word (then_read (λ (p : Unit {0} × Unit {0}). an_object_identifier) (one_at is_object_word)
      identifier_at)
      (pick is_octet_word (then_read (λ (p : Unit {0} × Unit {0}). an_octet_string) (one_at is_octet_word) string_at)
      (pick is_integer_word (integer_read n) (pick is_bit_word (bits_read n) (items_read n)))))

  simple_same : (n : ℕ) (ts : List Lexeme) → simple_read n ts ≡ simple_at fits n ts
  unfolding simple_at one_word_at
  simple_same n [] = refl
  simple_same n (Word words.Object ∷ ts) = refl
  simple_same n (Word words.Octet ∷ ts) = refl
  simple_same n (Word words.Integer ∷ ts) = integer_same n ts
  simple_same n (Word words.Bit ∷ ts) = bits_same n ts
  simple_same n (Word words.Enumerated ∷ ts) = items_same n ts
  simple_same n (t ∷ ts) = refl

abbrev pub simple_starts : Lexeme → Bool
simple_starts = either is_type_word
    (either is_object_word (either is_octet_word (either is_integer_word (either is_bit_word is_enumerated_word))))

abbrev braced : Lexeme → Bool
braced = either no_lexeme (either is_lbrace no_lexeme)

simple_ends : (t : Lexeme)
    → is_lbrace t ≡ false
    → either no_lexeme (either no_lexeme (either no_lexeme (either braced (either braced no_lexeme)))) t ≡ false
simple_ends (Mark OpenBrace) e = absurd cc
simple_ends t e = refl

-- a lexeme begins only one of these types
enumerated_no_bit : (t : Lexeme) → is_enumerated_word t ≡ true → is_bit_word t ≡ false
enumerated_no_bit (Word words.Bit) e = absurd cc
enumerated_no_bit t e = refl

rest_no_integer : (t : Lexeme) → either is_bit_word is_enumerated_word t ≡ true → is_integer_word t ≡ false
rest_no_integer (Word words.Integer) e = absurd cc
rest_no_integer t e = refl

rest_no_octet : (t : Lexeme)
    → either is_integer_word (either is_bit_word is_enumerated_word) t ≡ true
    → is_octet_word t ≡ false
rest_no_octet (Word words.Octet) e = absurd cc
rest_no_octet t e = refl

rest_no_object : (t : Lexeme)
    → either is_octet_word (either is_integer_word (either is_bit_word is_enumerated_word)) t ≡ true
    → is_object_word t ≡ false
rest_no_object (Word words.Object) e = absurd cc
rest_no_object t e = refl

rest_no_word : (t : Lexeme)
    →
    either is_object_word (either is_octet_word (either is_integer_word (either is_bit_word is_enumerated_word))) t
    ≡ true
    → is_type_word t ≡ false
rest_no_word (Word words.Object) e = refl
rest_no_word (Word words.Octet) e = refl
rest_no_word (Word words.Integer) e = refl
rest_no_word (Word words.Bit) e = refl
rest_no_word (Word words.Enumerated) e = refl
rest_no_word t e = absurd cc

-- fits is the reader's test on numbers, fits' the grammar's
module _ (over : Limit → ℕ) (within : Limit → Type 0) (fits fits' : ℕ → Bool)
    (grows : (n : ℕ) → fits n ≡ true → fits' n ≡ true) (past : Past (over Integer) ((n : ℕ) → fits' n ≡ true))
    (tags : ℕ → Bool) (tag_rule : TagRule over within fits tags)
    (room : (n : ℕ) → fits' n ≡ true → within Integer → fits n ≡ true) where
  rule_num : Rules over within (number_of fits') is_number no_lexeme (number_at fits)
  rule_num = rule_number over within fits fits' grows past room

  abbrev signed_read : Reader ℤ
  signed_read = pick is_number (λ ts. number_at fits ts >>= λ n. Ok (positive_number n.0, n.1))
      (λ ts. then_read (λ (p : Unit {0} × ℕ). p.1) (one_at is_minus) digits_at ts >>= λ n. Ok
      (negative_number n.0, n.1))

  minus_same : (ts : List Lexeme) → signed_read (Mark Minus ∷ ts) ≡ signed_at fits (Mark Minus ∷ ts)
  unfolding signed_at negative_at digits_at
  minus_same [] = refl
  minus_same (Number n ∷ ts) = refl
  minus_same (t ∷ ts) = refl

  signed_same : (ts : List Lexeme) → signed_read ts ≡ signed_at fits ts
  unfolding signed_at number_at
  signed_same [] = refl
  signed_same (Number n ∷ ts) = fitting_made positive_number (fits n) n (Number n ∷ ts) ts
  signed_same (Mark Minus ∷ ts) = minus_same ts
  signed_same (t ∷ ts) = refl

  minus_no_number : (t : Lexeme) → is_minus t ≡ true → is_number t ≡ false
  minus_no_number (Number n) e = absurd cc
  minus_no_number t e = refl

  rule_signed :
      Rules over within (signed fits') (either is_number is_minus) (either no_lexeme no_lexeme) (signed_at fits)
  rule_signed = rule_read (signed_at fits) signed_same
      (rule_pick (rule_made positive_number rule_num) (rule_made negative_number (rule_preceded rule_minus rule_digits))
      minus_no_number)

  rule_given : Rules over within (parens (signed fits')) is_open no_lexeme (parens_at (signed_at fits))
  rule_given = rule_parens rule_signed refl

  pub rule_number_named : Rules over within (named_number fits') is_ident no_lexeme (named_number_at fits)
  rule_number_named = rule_named (loosely rule_given)

  pub rule_bit_named : Rules over within (named_bit fits') is_ident no_lexeme (named_bit_at fits)
  rule_bit_named = rule_named (loosely (rule_parens rule_num refl))

  pub rule_item : Rules over within (item fits') is_ident (either is_open no_lexeme) (item_at fits)
  rule_item = rule_named (loose_optional rule_given)

  rule_numbers :
      Rules over within (inside (listed (named_number fits'))) is_ident no_lexeme
      (inside_at (listed_at (named_number_at fits)))
  rule_numbers = rule_inside (rule_listed rule_number_named refl) refl

  rule_bits :
      Rules over within (inside (listed (named_bit fits'))) is_ident no_lexeme
      (inside_at (listed_at (named_bit_at fits)))
  rule_bits = rule_inside (rule_listed rule_bit_named refl) refl

  rule_items :
      Rules over within (inside (extensible (item fits') (item fits'))) is_ident no_lexeme
      (inside_at (extensible_at (item_at fits) (item_at fits)))
  rule_items = rule_inside (rule_extensible rule_item rule_item refl refl refl) refl

  -- ---- their types

  module _ (s f : Type 0) (n m : ℕ) (fit : s → m ≡ over Nesting + n) (deep : f → within Nesting → m ≤ n) where
    rule_integer :
        Owes s f over within (integer fits' m) is_integer_word (either no_lexeme (either is_lbrace no_lexeme))
        (integer_read fits n)
    rule_integer = rule_tail (λ p. integer_with p.1) rule_integer_word
        (loose_optional (rule_in_braces (listed (named_number fits')) (listed_at (named_number_at fits)) n m fit deep
        (λ q. (rule_numbers.finds tt).part) (λ o. asked rule_numbers))) (λ t e. refl)

    rule_bit_string :
        Owes s f over within (bit_string fits' m) is_bit_word (either no_lexeme (either is_lbrace no_lexeme))
        (bits_read fits n)
    rule_bit_string =
        rule_seq (λ p. bits_with p.1.1) rule_bit_word
        (rule_both _ _ (rule_tail (λ p. p) rule_string
        (loose_optional (rule_in_braces (listed (named_bit fits')) (listed_at (named_bit_at fits)) n m fit deep
        (λ q. (rule_bits.finds tt).part) (λ o. asked rule_bits))) (λ t e. refl))) (λ t e. refl)

    rule_enumerated : Owes s f over within (enumerated fits' m) is_enumerated_word no_lexeme (items_read fits n)
    rule_enumerated = rule_seq (λ p. enumerated_of p.1) rule_enumerated_word
        (rule_in_braces (extensible (item fits') (item fits')) (extensible_at (item_at fits) (item_at fits)) n m fit
        deep (λ q. (rule_items.finds tt).part) (λ o. asked rule_items)) (λ t e. refl)

    rule_object :
        Owes s f over within ((word words.Object ∙ word words.Identifier) ⇒ (λ _. an_object_identifier)) is_object_word
        no_lexeme (then_read (λ (p : Unit {0} × Unit {0}). an_object_identifier) (one_at is_object_word)
        identifier_at)
    rule_object = rule_seq (λ p. an_object_identifier) rule_object_word rule_identifier (λ t e. refl)

    rule_octets :
        Owes s f over within ((word words.Octet ∙ word words.String) ⇒ (λ _. an_octet_string)) is_octet_word no_lexeme
        (then_read (λ (p : Unit {0} × Unit {0}). an_octet_string) (one_at is_octet_word) string_at)
    rule_octets = rule_seq (λ p. an_octet_string) rule_octet_word rule_string (λ t e. refl)

    pub rule_simple : Owes s f over within (plain_type fits' m) simple_starts is_lbrace (simple_at fits n)
    rule_simple =
        rule_tests simple_starts is_lbrace (λ t e. e) simple_ends (rule_read (simple_at fits n) (simple_same fits n)
        (rule_pick (asked (rule_one_word over within))
        (rule_pick rule_object (rule_pick rule_octets
        (rule_pick rule_integer (rule_pick rule_bit_string rule_enumerated enumerated_no_bit) rest_no_integer)
        rest_no_octet) rest_no_object) rest_no_word))

  -- ---- tags

  pub rule_tag_end : Rules over within (tag_end tags) is_number no_lexeme (tag_end_at fits)
  unfolding tag_end_at
  rule_tag_end = rule_seq (λ p. p.0) (rule_tag_number over within fits tags tag_rule) rule_bracket (λ t e. refl)

  abbrev tag_read : Reader Tag
  tag_read =
      pick is_application_word (λ ts. then_read (λ (p : Unit {0} × TagNumber). p.1) (one_at is_application_word)
      (tag_end_at fits) ts >>= λ n. Ok (tag_of application n.0, n.1))
      (pick is_private_word (λ ts. then_read (λ (p : Unit {0} × TagNumber). p.1) (one_at is_private_word)
      (tag_end_at fits) ts >>= λ n. Ok (tag_of private n.0, n.1))
      (λ ts. tag_end_at fits ts >>= λ n. Ok (tag_of context n.0, n.1)))

  tag_same : (ts : List Lexeme) → tag_read ts ≡ tag_at fits ts
  unfolding tag_at class_at
  tag_same [] = refl
  tag_same (Word words.Application ∷ ts) = ap (made (tag_of application)) (read_again (tag_end_at fits ts))
  tag_same (Word words.Private ∷ ts) = ap (made (tag_of private)) (read_again (tag_end_at fits ts))
  tag_same (t ∷ ts) = refl

  number_no_private : (t : Lexeme) → is_number t ≡ true → is_private_word t ≡ false
  number_no_private (Word words.Private) e = absurd cc
  number_no_private t e = refl

  rest_no_application : (t : Lexeme) → either is_private_word is_number t ≡ true → is_application_word t ≡ false
  rest_no_application (Word words.Application) e = absurd cc
  rest_no_application t e = refl

  pub rule_tag :
      Rules over within (tag tags) (either is_application_word (either is_private_word is_number))
      (either no_lexeme (either no_lexeme no_lexeme)) (tag_at fits)
  rule_tag =
      rule_read (tag_at fits) tag_same
      (rule_pick (rule_made (tag_of application) (rule_preceded rule_application_word rule_tag_end))
      (rule_pick (rule_made (tag_of private) (rule_preceded rule_private_word rule_tag_end))
      (rule_made (tag_of context) rule_tag_end) number_no_private) rest_no_application)
