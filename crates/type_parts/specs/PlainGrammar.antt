-- The grammar of the parts of types that hold no type (X.680, clauses 17 to 33 and 41).
use Rattle.std.specs.Prelude.{◌≡◌, ◌⊎◌, ◌<◌, ℕ, ℤ, pos, neg_ℤ, Bool, IsTrue, List, [], ◌∷◌, Option, Some, None}
use Rattle.text.specs.declared.token.Mark.TheVariants.{Dot, Minus, CloseBracket}
use Rattle.text.specs.declared.reserved.Word.{Word as Word'}
use Rattle.text.specs.declared.reserved.Word.TheVariants as words
use Rattle.asn_base.specs.declared.strings.StringKind.TheVariants as kinds
use Rattle.asn_base.specs.declared.tag.Class.{Class}
use Rattle.asn_base.specs.declared.tag.Class.TheVariants as classes
use Rattle.asn_base.specs.declared.tag.Tag.{Tag}
use Rattle.grammar.specs.Lexeme.{TypeRef, Ident, Number, Word, Mark}
use Rattle.grammar.specs.Grammar.{Grammar, token, mark, word, number_of, ◌∙◌, ◌∣◌, ◌⇒◌, optional, preceded, listed, braces, parens, opens, extensible}
use Rattle.trees.specs.Values.{Name, Tree}
use Rattle.trees.specs.Constraints.{ConstraintTree}
use Rattle.notation.specs.ConstraintGrammar.{size}
use Rattle.trees.specs.declared.types.Keyword.{Keyword}
use Rattle.trees.specs.declared.types.Keyword.TheVariants as keywords
use Rattle.trees.specs.Types.{PresenceTree, mandatory, optional as may_be_absent, default, Plain, a_boolean, an_integer, a_bit_string, an_octet_string, a_null, an_object_identifier, a_relative_oid, an_enumerated, a_utf8_string, a_restricted_string, FormTree, a_reference}

-- ---- trees made of parts

-- the types that one word stands for
abbrev pub type_of_word : Word' → Option Plain
type_of_word words.Boolean = Some a_boolean
type_of_word words.Null = Some a_null
type_of_word words.RelativeOid = Some a_relative_oid
type_of_word words.Utf8String = Some a_utf8_string
type_of_word words.NumericString = Some (a_restricted_string kinds.Numeric)
type_of_word words.PrintableString = Some (a_restricted_string kinds.Printable)
type_of_word words.Ia5String = Some (a_restricted_string kinds.Ia5)
type_of_word words.VisibleString = Some (a_restricted_string kinds.Visible)
type_of_word words.Iso646String = Some (a_restricted_string kinds.Visible)
type_of_word w = None

-- a name, or a module's name and a name in it
abbrev pub reference_form : Name × Option Name → FormTree
reference_form (x, None) = a_reference None x
reference_form (m, Some x) = a_reference (Some m) x

-- INTEGER, with these named numbers or with none (X.680, clause 19)
abbrev pub integer_with : Option (List (Name × ℤ)) → Plain
integer_with None = an_integer []
integer_with (Some ns) = an_integer ns

-- BIT STRING, with these named bits or with none (X.680, clause 22)
abbrev pub bits_with : Option (List (Name × ℕ)) → Plain
bits_with None = a_bit_string []
bits_with (Some bs) = a_bit_string bs

-- ENUMERATED, with the items of the root, and those after the marker, if it is there (X.680, clause 20)
abbrev pub enumerated_of : List (Name × Option ℤ) × Option (List (Name × Option ℤ)) → Plain
enumerated_of p = an_enumerated p.0 p.1

-- what is written of a component's absence: OPTIONAL, DEFAULT, or nothing, which makes it mandatory (X.680, clause 25)
abbrev pub present : Option PresenceTree → PresenceTree
present None = mandatory
present (Some p) = p

-- the keyword after a tag, Absent if none is written
abbrev pub keyword_of : Option Keyword → Keyword
keyword_of None = keywords.Absent
keyword_of (Some k) = k

-- the number of a named number or item without a minus
abbrev pub positive_number : ℕ → ℤ
positive_number n = pos n

-- the number of a named number or item after a minus
abbrev pub negative_number : ℕ → ℤ
negative_number n = neg_ℤ (pos n)

-- a number that a tag may have, below 2^31 (own rule: a limit)
abbrev pub TagNumber : Type 0
TagNumber = (n : ℕ) × (n < 2147483648)

-- APPLICATION is not UNIVERSAL
pub not_application : classes.Application ≡ classes.Universal → ⊥
not_application e = absurd cc

-- PRIVATE is not UNIVERSAL
pub not_private : classes.Private ≡ classes.Universal → ⊥
not_private e = absurd cc

-- the context-specific class is not UNIVERSAL
pub not_context : classes.Context ≡ classes.Universal → ⊥
not_context e = absurd cc

-- a class that a written tag may have: one that is not UNIVERSAL (own rule; X.680, clause 31)
abbrev pub TagClass : Type 0
TagClass = (c : Class) × (c ≡ classes.Universal → ⊥)

-- APPLICATION, as the class of a written tag
abbrev pub application : TagClass
application = (classes.Application, not_application)

-- PRIVATE, as the class of a written tag
abbrev pub private : TagClass
private = (classes.Private, not_private)

-- the context-specific class, that of a written tag without a class
abbrev pub context : TagClass
context = (classes.Context, not_context)

-- the tag of this class with this number
abbrev pub tag_of : TagClass → TagNumber → Tag
tag_of c n = record { class = c.0; number = n.0; in_range = n.1; not_reserved = λ e. absurd (c.1 e) }

-- ---- productions that hold no number

-- a type of one reserved word, as BOOLEAN or IA5String (X.680, clauses 17, 18, 24, 33 and 41)
abbrev pub one_word : Grammar Plain
one_word = record {
  Is = λ t ts. (w : Word') × (type_of_word w ≡ Some t) × (ts ≡ Word w ∷ []);
  IsPrefix = λ ts. (ts ≡ []) ⊎ ((w : Word') × (t : Plain) × (type_of_word w ≡ Some t) × (ts ≡ Word w ∷ []));
}

-- a reference to a type: its name, after a module's name and a dot, or alone (X.680, clause 14)
abbrev pub type_reference : Grammar FormTree
type_reference = (token TypeRef ∙ optional (preceded (Mark Dot) (token TypeRef))) ⇒ reference_form

-- IMPLICIT, EXPLICIT or nothing, after a tag (X.680, clause 31)
abbrev pub keyword : Grammar Keyword
keyword =
    optional (word words.Implicit ⇒ (λ _. keywords.Implicit) ∣ word words.Explicit ⇒ (λ _. keywords.Explicit)) ⇒
    keyword_of

-- OPTIONAL, DEFAULT with a value, or nothing, after a component's type (X.680, clause 25)
abbrev pub presence : Grammar Tree → Grammar PresenceTree
presence v = optional (word words.Optional ⇒ (λ _. may_be_absent) ∣ preceded (Word words.Default) v ⇒ default) ⇒ present

-- ---- productions that hold numbers

-- A limit on the numbers of tags is a test that they must pass.
module _ (tags : ℕ → Bool) where
  -- the number of a tag; without a limit on these numbers, one that no tag can have may begin a tag, but is never a
  -- whole one
  abbrev pub tag_number : Grammar TagNumber
  tag_number = record {
    Is = λ x ts. IsTrue (tags x.0) × (ts ≡ Number x.0 ∷ []);
    IsPrefix = λ ts. (ts ≡ []) ⊎ ((n : ℕ) × IsTrue (tags n) × (ts ≡ Number n ∷ []));
  }

  -- the number of a tag, and the bracket that closes it
  abbrev pub tag_end : Grammar TagNumber
  tag_end = (tag_number ∙ mark CloseBracket) ⇒ (λ p. p.0)

  -- what comes after the open bracket of a tag: its class, if one is written, its number, and the bracket that closes
  -- it (X.680, clause 31)
  abbrev pub tag : Grammar Tag
  tag =
      preceded (Word words.Application) tag_end ⇒ tag_of application
      ∣ preceded (Word words.Private) tag_end ⇒ tag_of private
      ∣ tag_end ⇒ tag_of context

-- A limit on numbers is a test: numbers without a minus must pass it.
module _ (fits : ℕ → Bool) where
  -- a number, with a minus before it or none
  abbrev pub signed : Grammar ℤ
  signed = number_of fits ⇒ positive_number ∣ preceded (Mark Minus) (token Number) ⇒ negative_number

  -- a named number of an INTEGER, with its number in parentheses (X.680, clause 19)
  abbrev pub named_number : Grammar (Name × ℤ)
  named_number = token Ident ∙ parens signed

  -- a named bit of a BIT STRING, with its place in parentheses (X.680, clause 22)
  abbrev pub named_bit : Grammar (Name × ℕ)
  named_bit = token Ident ∙ parens (number_of fits)

  -- an item of an enumeration, with its number in parentheses or without one (X.680, clause 20)
  abbrev pub item : Grammar (Name × Option ℤ)
  item = token Ident ∙ optional (parens signed)

  -- INTEGER, and named numbers in braces, if they are there; n more parts may be open (X.680, clause 19)
  abbrev pub integer : ℕ → Grammar Plain
  integer n = (word words.Integer ∙ optional (opens n (braces (listed named_number)))) ⇒ (λ p. integer_with p.1)

  -- BIT STRING, and named bits in braces, if they are there; n more parts may be open (X.680, clause 22)
  abbrev pub bit_string : ℕ → Grammar Plain
  bit_string n =
      (word words.Bit ∙ (word words.String ∙ optional (opens n (braces (listed named_bit))))) ⇒ (λ p. bits_with p.1.1)

  -- ENUMERATED, and items in braces, with or without an extension marker; n more parts may be open (X.680, clause 20)
  abbrev pub enumerated : ℕ → Grammar Plain
  enumerated n = (word words.Enumerated ∙ opens n (braces (extensible item item))) ⇒ (λ p. enumerated_of p.1)

  -- the types that hold no type; n more parts may be open
  abbrev pub plain_type : ℕ → Grammar Plain
  plain_type n =
      one_word
      ∣ (word words.Object ∙ word words.Identifier) ⇒ (λ _. an_object_identifier)
      ∣ (word words.Octet ∙ word words.String) ⇒ (λ _. an_octet_string)
      ∣ integer n
      ∣ bit_string n
      ∣ enumerated n

  -- the size of a SEQUENCE OF or SET OF, written before OF, in parentheses or not; None if none is written (X.680,
  -- clause 49)
  abbrev pub list_size : Grammar (Option ConstraintTree)
  list_size = optional (size fits ∣ parens (size fits))
