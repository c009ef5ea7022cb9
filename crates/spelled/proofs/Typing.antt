-- What is read as a type is spelled as the notation asks.
use Rattle.std.proofs.Common.{◌⊎◌, ◌≤◌, arith, ℕ, zero, suc, ℤ, Bool, true, false, List, [], ◌∷◌, ◌++◌, length, map, Option, Some, None, inl, inr, subst}
use Rattle.std.specs.List.{AllByRecursion}
use Rattle.asn_base.specs.Names.{IsIdentifier}
use Rattle.text.specs.declared.token.Mark.TheVariants.{OpenBracket, Dot}
use Rattle.text.specs.declared.reserved.Word.{Word as Word'}
use Rattle.text.specs.declared.reserved.Word.TheVariants as words
use Rattle.grammar.specs.Lexeme.{TypeRef, Ident, Word, Mark}
use Rattle.grammar.specs.Grammar.{Grammar, token, word, number_of, ◌∙◌, ◌∣◌, ◌⇒◌, many, optional, preceded, listed, braces, parens, cut_off, opens, extensible, rootless, addition}
use Rattle.trees.specs.Values.{Name, Tree}
use Rattle.trees.specs.declared.types.ListKind.TheVariants as lists
use Rattle.trees.specs.declared.types.Standing.TheVariants as standings
use Rattle.trees.specs.Types.{mandatory, MemberTree, TypeTree, a_type, a_simple, a_tagged, type_members, Plain, an_object_identifier, an_octet_string}
use Rattle.notation.specs.ConstraintGrammar.{constraint}
use Rattle.notation.specs.Value.{value}
use Rattle.type_parts.specs.PlainGrammar.{type_of_word, one_word, signed, named_number, named_bit, item, integer, bit_string, enumerated, plain_type, integer_with, bits_with, enumerated_of, type_reference, reference_form, keyword, presence, tag, list_size}
use Rattle.type_syntax.specs.TypeGrammar.{ComponentTree, Listing, a_member, addition_members, members_after_marker, all_members, of_listing, list_kind, listing_of, list_type, constrained, sequence_or_set, member, alternative, tagged, component_list, choice, one_type, plain, list, type_with, type}
use Rattle.type_table.specs.Items.{additions_of}
use Rattle.spelled.specs.Written.{IsSpelledPlain, roots_in, IsSpelledTree, IsSpelledForm, AreSpelledMembers}
use Rattle.spelled.proofs.Keeping.{Keeps, Nothing, keeps_nothing, keeps_name, keeps_pair, keeps_either, keeps_made, keeps_preceded, keeps_listed, keeps_braces, keeps_cut_off, keeps_opens, OfOption, keeps_optional, OfListing, keeps_extensible, keeps_rootless, OfAddition, keeps_addition, all_joined, all_mapped}

-- ---- types that hold no type

-- the name of a pair
abbrev Named : {A : Type 0} → Name × A → Type 0
Named p = IsIdentifier p.0

keeps_named : {A : Type 0} (a : Grammar A) → Keeps (token Ident ∙ a) Named
keeps_named a p ts h i = (keeps_pair (token Ident) a IsIdentifier Nothing keeps_name (keeps_nothing a) p ts h i).0

all_named : {A : Type 0} (xs : List (Name × A)) → AllByRecursion Named xs → AllByRecursion IsIdentifier (map (λ p. p.0) xs)
all_named xs h = all_mapped Named IsIdentifier (λ p. p.0) (λ p i. i) xs h

word_spelled : (w : Word') → OfOption IsSpelledPlain (type_of_word w)
word_spelled words.Boolean = tt
word_spelled w = tt

one_word_spelled : Keeps one_word IsSpelledPlain
one_word_spelled t ts h (w, e, q) = subst (OfOption IsSpelledPlain) e (word_spelled w)

more_named : (more : Option (List (Name × Option ℤ)))
    → OfOption (AllByRecursion Named) more
    → AllByRecursion Named (additions_of more)
more_named None h = tt
more_named (Some is) h = h

items_spelled : (p : List (Name × Option ℤ) × Option (List (Name × Option ℤ)))
    → (1 ≤ length p.0) × OfListing Named Named p
    → IsSpelledPlain (enumerated_of p)
items_spelled p h =
    (h.0, all_named (p.0 ++ additions_of p.1) (all_joined Named p.0 (additions_of p.1) h.1.0 (more_named p.1 h.1.1)))

bits_spelled : (o : Option (List (Name × ℕ))) → OfOption (AllByRecursion Named) o → IsSpelledPlain (bits_with o)
bits_spelled None h = tt
bits_spelled (Some bs) h = all_named bs h

numbers_spelled : (o : Option (List (Name × ℤ))) → OfOption (AllByRecursion Named) o → IsSpelledPlain (integer_with o)
numbers_spelled None h = tt
numbers_spelled (Some ns) h = all_named ns h

-- what is made of a part that says nothing
spelled_anyway : {A B : Type 0} (a : Grammar A) (f : A → B) (Q : B → Type 0) → ((x : A) → Q (f x)) → Keeps (a ⇒ f) Q
spelled_anyway a f Q k = keeps_made a f Nothing Q (keeps_nothing a) (λ x h. k x)

module _ (fits : ℕ → Bool) (n : ℕ) where
  abbrev numbers : Grammar (List (Name × ℤ))
  numbers = opens n (braces (listed (named_number fits)))

  numbers_keep : Keeps numbers (AllByRecursion Named)
  numbers_keep =
      keeps_opens n (braces (listed (named_number fits))) (AllByRecursion Named)
      (keeps_braces (listed (named_number fits)) (AllByRecursion Named) (λ ns ts h i. (keeps_listed (named_number fits) Named (keeps_named (parens (signed fits))) ns ts h i).1))

  integer_spelled : Keeps (integer fits n) IsSpelledPlain
  integer_spelled =
      keeps_made (word words.Integer ∙ optional numbers) (λ p. integer_with p.1) (λ p. Unit {0} × OfOption (AllByRecursion Named) p.1) IsSpelledPlain
      (keeps_pair (word words.Integer) (optional numbers) Nothing (OfOption (AllByRecursion Named)) (keeps_nothing (word words.Integer)) (keeps_optional numbers (AllByRecursion Named) numbers_keep))
      (λ p h. numbers_spelled p.1 h.1)

  abbrev bits : Grammar (List (Name × ℕ))
  bits = opens n (braces (listed (named_bit fits)))

  bits_keep : Keeps bits (AllByRecursion Named)
  bits_keep =
      keeps_opens n (braces (listed (named_bit fits))) (AllByRecursion Named)
      (keeps_braces (listed (named_bit fits)) (AllByRecursion Named) (λ bs ts h i. (keeps_listed (named_bit fits) Named (keeps_named (parens (number_of fits))) bs ts h i).1))

  bit_string_spelled : Keeps (bit_string fits n) IsSpelledPlain
  bit_string_spelled =
      keeps_made (word words.Bit ∙ (word words.String ∙ optional bits)) (λ p. bits_with p.1.1) (λ p. Unit {0} × (Unit {0} × OfOption (AllByRecursion Named) p.1.1)) IsSpelledPlain
      (keeps_pair (word words.Bit) (word words.String ∙ optional bits) Nothing (λ p. Unit {0} × OfOption (AllByRecursion Named) p.1) (keeps_nothing (word words.Bit))
      (keeps_pair (word words.String) (optional bits) Nothing (OfOption (AllByRecursion Named)) (keeps_nothing (word words.String)) (keeps_optional bits (AllByRecursion Named) bits_keep)))
      (λ p h. bits_spelled p.1.1 h.1.1)

  abbrev Items : List (Name × Option ℤ) × Option (List (Name × Option ℤ)) → Type 0
  Items p = (1 ≤ length p.0) × OfListing Named Named p

  abbrev items : Grammar (List (Name × Option ℤ) × Option (List (Name × Option ℤ)))
  items = extensible (item fits) (item fits)

  items_keep : Keeps (opens n (braces items)) Items
  items_keep =
      keeps_opens n (braces items) Items
      (keeps_braces items Items (keeps_extensible (item fits) (item fits) Named Named (keeps_named (optional (parens (signed fits)))) (keeps_named (optional (parens (signed fits))))))

  enumerated_spelled : Keeps (enumerated fits n) IsSpelledPlain
  enumerated_spelled =
      keeps_made (word words.Enumerated ∙ opens n (braces items)) (λ p. enumerated_of p.1) (λ p. Unit {0} × Items p.1) IsSpelledPlain
      (keeps_pair (word words.Enumerated) (opens n (braces items)) Nothing Items (keeps_nothing (word words.Enumerated)) items_keep)
      (λ p h. items_spelled p.1 h.1)

  abbrev object : Grammar Plain
  object = (word words.Object ∙ word words.Identifier) ⇒ (λ _. an_object_identifier)

  abbrev octets : Grammar Plain
  octets = (word words.Octet ∙ word words.String) ⇒ (λ _. an_octet_string)

  pub simple_spelled : Keeps (plain_type fits n) IsSpelledPlain
  simple_spelled =
      keeps_either one_word (object ∣ octets ∣ integer fits n ∣ bit_string fits n ∣ enumerated fits n) IsSpelledPlain one_word_spelled
      (keeps_either object (octets ∣ integer fits n ∣ bit_string fits n ∣ enumerated fits n) IsSpelledPlain (spelled_anyway (word words.Object ∙ word words.Identifier) (λ _. an_object_identifier) IsSpelledPlain (λ x. tt))
      (keeps_either octets (integer fits n ∣ bit_string fits n ∣ enumerated fits n) IsSpelledPlain (spelled_anyway (word words.Octet ∙ word words.String) (λ _. an_octet_string) IsSpelledPlain (λ x. tt))
      (keeps_either (integer fits n) (bit_string fits n ∣ enumerated fits n) IsSpelledPlain integer_spelled
      (keeps_either (bit_string fits n) (enumerated fits n) IsSpelledPlain bit_string_spelled enumerated_spelled))))

-- ---- lists of members

-- the name and the type of a member
abbrev IsMember : Name × ComponentTree → Type 0
IsMember m = IsIdentifier m.0 × IsSpelledTree m.1.0

abbrev IsSpelledMember : MemberTree → Type 0
IsSpelledMember m = IsIdentifier m.name × IsSpelledTree m.type

members_are : (ms : List MemberTree) → AllByRecursion IsSpelledMember ms → AreSpelledMembers (type_members ms)
members_are [] h = tt
members_are (m ∷ ms) h = (h.0.0, h.0.1, members_are ms h.1)

added_are : (n : ℕ) (xs : List ((Name × ComponentTree) ⊎ List (Name × ComponentTree)))
    → AllByRecursion (OfAddition IsMember) xs
    → AllByRecursion IsSpelledMember (addition_members n xs)
added_are n [] h = tt
added_are n (inl m ∷ xs) h = (h.0, added_are n xs h.1)
added_are n (inr ms ∷ xs) h =
    all_joined IsSpelledMember (map (a_member (standings.Addition (Some n))) ms) (addition_members (suc n) xs)
    (all_mapped IsMember IsSpelledMember (a_member (standings.Addition (Some n))) (λ m h. h) ms h.0)
    (added_are (suc n) xs h.1)

additions_are : (o : Option (List ((Name × ComponentTree) ⊎ List (Name × ComponentTree))))
    → OfOption (AllByRecursion (OfAddition IsMember)) o
    → AllByRecursion IsSpelledMember (members_after_marker o)
additions_are None h = tt
additions_are (Some xs) h = added_are 0 xs h

all_are : (l : Listing) → OfListing IsMember (OfAddition IsMember) l → AreSpelledMembers (type_members (all_members l))
all_are l h =
    members_are (all_members l)
    (all_joined IsSpelledMember (map (a_member standings.Root) l.0) (members_after_marker l.1)
    (all_mapped IsMember IsSpelledMember (a_member standings.Root) (λ m h. h) l.0 h.0)
    (additions_are l.1 h.1))

-- a member of the root, if there is one, is one of those before the marker
some_root : (ms : List (Name × ComponentTree)) (more : List MemberTree)
    → 1 ≤ length ms
    → 1 ≤ roots_in (type_members (map (a_member standings.Root) ms ++ more))
some_root [] more h = absurd (omega (arith, h))
some_root (m ∷ ms) more h = omega arith

listing_or : (o : Option Listing)
    → OfOption (OfListing IsMember (OfAddition IsMember)) o
    → OfListing IsMember (OfAddition IsMember) (listing_of o)
listing_or None h = (tt, tt)
listing_or (Some l) h = h

list_spelled : (set : Bool) (l : Listing)
    → OfListing IsMember (OfAddition IsMember) l
    → IsSpelledForm (of_listing (list_kind set) l)
list_spelled false l h = (all_are l h, tt)
list_spelled true l h = (all_are l h, tt)

-- ---- types

module _ (fits : ℕ → Bool) (n : ℕ) (t : Grammar TypeTree) (v : Grammar Tree) (k : Keeps t IsSpelledTree) where
  abbrev Listed : Listing → Type 0
  Listed = OfListing IsMember (OfAddition IsMember)

  member_keeps : Keeps (member t v) IsMember
  member_keeps m ts h i =
      let p = keeps_pair (token Ident) (t ∙ presence v) IsIdentifier (λ c. IsSpelledTree c.0 × Unit {0}) keeps_name (keeps_pair t (presence v) IsSpelledTree Nothing k (keeps_nothing (presence v))) m ts h i in
      (p.0, p.1.0)

  alternative_keeps : Keeps (alternative t) IsMember
  alternative_keeps =
      keeps_pair (token Ident) (t ⇒ (λ t. (t, mandatory))) IsIdentifier (λ c. IsSpelledTree c.0) keeps_name
      (keeps_made t (λ t. (t, mandatory)) IsSpelledTree (λ c. IsSpelledTree c.0) k (λ t h. h))

  abbrev inner : Grammar (Option Listing)
  inner = optional (rootless (member t v) (addition fits (member t v)))

  members_keep : Keeps (component_list fits n t v) Listed
  members_keep =
      keeps_made (opens n (braces inner)) listing_of (OfOption Listed) Listed
      (keeps_opens n (braces inner) (OfOption Listed) (keeps_braces inner (OfOption Listed)
      (keeps_optional (rootless (member t v) (addition fits (member t v))) Listed
      (keeps_rootless (member t v) (addition fits (member t v)) IsMember (OfAddition IsMember) member_keeps (keeps_addition fits (member t v) IsMember member_keeps)))))
      listing_or

  abbrev alternatives : Grammar Listing
  alternatives = extensible (alternative t) (addition fits (alternative t))

  abbrev Chosen : Listing → Type 0
  Chosen l = (1 ≤ length l.0) × Listed l

  choice_keeps : Keeps (choice fits n t) IsSpelledForm
  choice_keeps =
      keeps_made (word words.Choice ∙ opens n (braces alternatives)) (λ p. of_listing lists.Choice p.1) (λ p. Unit {0} × Chosen p.1) IsSpelledForm
      (keeps_pair (word words.Choice) (opens n (braces alternatives)) Nothing Chosen (keeps_nothing (word words.Choice))
      (keeps_opens n (braces alternatives) Chosen (keeps_braces alternatives Chosen
      (keeps_extensible (alternative t) (addition fits (alternative t)) IsMember (OfAddition IsMember) alternative_keeps (keeps_addition fits (alternative t) IsMember alternative_keeps)))))
      (λ p h. (all_are p.1 h.1.1, some_root p.1.0 (members_after_marker p.1.1) h.1.0))

  referred_spelled : (p : Name × Option Name) → IsSpelledForm (reference_form p)
  referred_spelled (x, None) = tt
  referred_spelled (m, Some x) = tt

  plain_keeps : Keeps (plain fits n t v) IsSpelledForm
  plain_keeps =
      keeps_either (one_type fits n t) ((sequence_or_set ∙ component_list fits n t v) ⇒ (λ p. of_listing (list_kind p.0) p.1)) IsSpelledForm
      (keeps_either (plain_type fits n ⇒ a_simple) (type_reference ∣ choice fits n t) IsSpelledForm
      (keeps_made (plain_type fits n) a_simple IsSpelledPlain IsSpelledForm (simple_spelled fits n) (λ p h. h))
      (keeps_either type_reference (choice fits n t) IsSpelledForm
      (spelled_anyway (token TypeRef ∙ optional (preceded (Mark Dot) (token TypeRef))) reference_form IsSpelledForm referred_spelled) choice_keeps))
      (keeps_made (sequence_or_set ∙ component_list fits n t v) (λ p. of_listing (list_kind p.0) p.1) (λ p. Unit {0} × Listed p.1) IsSpelledForm
      (keeps_pair sequence_or_set (component_list fits n t v) Nothing Listed
      (keeps_nothing sequence_or_set) members_keep)
      (λ p h. list_spelled p.0 p.1 h.1))

  abbrev element : Grammar TypeTree
  element = opens n (preceded (Word words.Of) t)

  list_keeps : Keeps (list fits n t) IsSpelledTree
  list_keeps =
      keeps_made (sequence_or_set ∙ (list_size fits ∙ element)) (λ p. list_type p.0 p.1.0 p.1.1) (λ p. Unit {0} × (Unit {0} × IsSpelledTree p.1.1)) IsSpelledTree
      (keeps_pair sequence_or_set (list_size fits ∙ element) Nothing (λ p. Unit {0} × IsSpelledTree p.1) (keeps_nothing sequence_or_set)
      (keeps_pair (list_size fits) element Nothing IsSpelledTree (keeps_nothing (list_size fits))
      (keeps_opens n (preceded (Word words.Of) t) IsSpelledTree (keeps_preceded (Word words.Of) t IsSpelledTree k))))
      (λ p h. h.1.1)

  module _ (tags : ℕ → Bool) where
    abbrev tagging : Grammar TypeTree
    tagging = (tag tags ∙ (keyword ∙ t)) ⇒ (λ p. a_type (a_tagged p.0 p.1.0 p.1.1) [])

    tagged_keeps : Keeps (tagged tags n t) IsSpelledTree
    tagged_keeps =
        keeps_opens n (preceded (Mark OpenBracket) tagging) IsSpelledTree (keeps_preceded (Mark OpenBracket) tagging IsSpelledTree
        (keeps_made (tag tags ∙ (keyword ∙ t)) (λ p. a_type (a_tagged p.0 p.1.0 p.1.1) []) (λ p. Unit {0} × (Unit {0} × IsSpelledTree p.1.1)) IsSpelledTree
        (keeps_pair (tag tags) (keyword ∙ t) Nothing (λ p. Unit {0} × IsSpelledTree p.1) (keeps_nothing (tag tags)) (keeps_pair keyword t Nothing IsSpelledTree (keeps_nothing keyword) k))
        (λ p h. h.1.1)))

    type_with_keeps : Keeps (type_with fits tags n t v) IsSpelledTree
    type_with_keeps =
        keeps_either (tagged tags n t) ((plain fits n t v ∙ many (constraint fits)) ⇒ constrained ∣ list fits n t) IsSpelledTree tagged_keeps
        (keeps_either ((plain fits n t v ∙ many (constraint fits)) ⇒ constrained) (list fits n t) IsSpelledTree
        (keeps_made (plain fits n t v ∙ many (constraint fits)) constrained (λ p. IsSpelledForm p.0 × Unit {0}) IsSpelledTree
        (keeps_pair (plain fits n t v) (many (constraint fits)) IsSpelledForm Nothing plain_keeps (keeps_nothing (many (constraint fits))))
        (λ p h. h.0)) list_keeps)

pub type_keeps : (fits tags : ℕ → Bool) (n : ℕ) → Keeps (type fits tags n) IsSpelledTree
type_keeps fits tags zero = type_with_keeps fits zero cut_off cut_off (keeps_cut_off IsSpelledTree) tags
type_keeps fits tags (suc n) = type_with_keeps fits (suc n) (type fits tags n) (value fits n) (type_keeps fits tags n) tags
