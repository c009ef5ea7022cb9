-- The grammar of types (X.680, clauses 17 to 33, 41 and 49).
use Rattle.std.specs.Prelude.{◌⊎◌, ℕ, zero, suc, Bool, true, false, is_some, List, [], ◌∷◌, ◌++◌, map, Option, Some, None}
use Rattle.std.proofs.Common.{inl, inr}
use Rattle.text.specs.declared.token.Mark.TheVariants.{OpenBracket}
use Rattle.text.specs.declared.reserved.Word.TheVariants as words
use Rattle.grammar.specs.Lexeme.{Ident, Word, Mark}
use Rattle.grammar.specs.Grammar.{Grammar, token, word, ◌∙◌, ◌∣◌, ◌⇒◌, many, optional, preceded, braces, cut_off, opens, extensible, rootless, addition}
use Rattle.trees.specs.Values.{Name, Tree}
use Rattle.trees.specs.Constraints.{ConstraintTree}
use Rattle.notation.specs.ConstraintGrammar.{constraint}
use Rattle.notation.specs.Value.{value}
use Rattle.trees.specs.declared.types.ListKind.{ListKind}
use Rattle.trees.specs.declared.types.ListKind.TheVariants as lists
use Rattle.trees.specs.declared.types.ElementsKind.{ElementsKind}
use Rattle.trees.specs.declared.types.ElementsKind.TheVariants as elements
use Rattle.trees.specs.declared.types.Standing.{Standing}
use Rattle.trees.specs.declared.types.Standing.TheVariants as standings
use Rattle.trees.specs.Types.{PresenceTree, mandatory, MemberTree, TypeTree, a_type, FormTree, a_simple, a_list, an_elements, a_tagged, type_members}
use Rattle.type_parts.specs.PlainGrammar.{type_reference, keyword, presence, tag, plain_type, list_size}

-- ---- lists of members

-- a member's type, and whether it may be absent
abbrev pub ComponentTree : Type 0
ComponentTree = TypeTree × PresenceTree

-- the members of the root, and those after the marker, if it is there: each is alone or in version brackets
abbrev pub Listing : Type 0
Listing = List (Name × ComponentTree) × Option (List ((Name × ComponentTree) ⊎ List (Name × ComponentTree)))

-- the tree of a member, as one of the root or as an addition
abbrev pub a_member : Standing → Name × ComponentTree → MemberTree
a_member s m = record { name = m.0; type = m.1.0; presence = m.1.1; standing = s }

-- the trees of the members after a marker; the first version brackets have number n, the next n + 1
abbrev pub addition_members : ℕ → List ((Name × ComponentTree) ⊎ List (Name × ComponentTree)) → List MemberTree
addition_members n [] = []
addition_members n (inl m ∷ xs) = a_member (standings.Addition None) m ∷ addition_members n xs
addition_members n (inr ms ∷ xs) = map (a_member (standings.Addition (Some n))) ms ++ addition_members (suc n) xs

-- the trees of the members after the marker of a list, none if there is no marker
abbrev pub members_after_marker : Option (List ((Name × ComponentTree) ⊎ List (Name × ComponentTree))) → List MemberTree
members_after_marker None = []
members_after_marker (Some xs) = addition_members 0 xs

-- the trees of all members in order, each as one of the root or as an addition
abbrev pub all_members : Listing → List MemberTree
all_members l = map (a_member standings.Root) l.0 ++ members_after_marker l.1

-- the tree of a SEQUENCE, SET or CHOICE with these members, and with an extension marker if they have one
abbrev pub of_listing : ListKind → Listing → FormTree
of_listing k l = a_list k (is_some l.1) (type_members (all_members l))

-- ---- trees made of parts

-- SET if the truth value is true, else SEQUENCE
abbrev pub list_kind : Bool → ListKind
list_kind false = lists.Sequence
list_kind true = lists.Set

-- SET OF if the truth value is true, else SEQUENCE OF
abbrev pub elements_kind : Bool → ElementsKind
elements_kind false = elements.SequenceOf
elements_kind true = elements.SetOf

-- the members in braces; none if the braces are empty
abbrev pub listing_of : Option Listing → Listing
listing_of None = ([], None)
listing_of (Some l) = l

-- the constraints of a list with this size before OF: that size, if there is one (X.680, clauses 26, 28 and 49)
abbrev pub size_constraints : Option ConstraintTree → List ConstraintTree
size_constraints None = []
size_constraints (Some c) = c ∷ []

-- the tree of a SET OF or SEQUENCE OF: whether it is SET OF, its size before OF, if there is one, and the type of its
-- elements
abbrev pub list_type : Bool → Option ConstraintTree → TypeTree → TypeTree
list_type set s t = a_type (an_elements (elements_kind set) t) (size_constraints s)

-- the tree of a type with the constraints after it
abbrev pub constrained : FormTree × List ConstraintTree → TypeTree
constrained p = a_type p.0 p.1

-- ---- productions

-- SEQUENCE or SET, true for SET
abbrev pub sequence_or_set : Grammar Bool
sequence_or_set = word words.Sequence ⇒ (λ _. false) ∣ word words.Set ⇒ (λ _. true)

-- a component: its identifier, its type, and OPTIONAL, DEFAULT or nothing (X.680, clause 25)
abbrev pub member : Grammar TypeTree → Grammar Tree → Grammar (Name × ComponentTree)
member t v = token Ident ∙ (t ∙ presence v)

-- an alternative of a CHOICE: its identifier and its type (X.680, clause 29)
abbrev pub alternative : Grammar TypeTree → Grammar (Name × ComponentTree)
alternative t = token Ident ∙ (t ⇒ (λ t. (t, mandatory)))

-- A limit on the numbers of tags is a test that they must pass.
module _ (tags : ℕ → Bool) where
  -- a tagged type: a tag, a keyword or none, and a type; n more parts may be open (X.680, clause 31)
  abbrev pub tagged : ℕ → Grammar TypeTree → Grammar TypeTree
  tagged n t =
      opens n (preceded (Mark OpenBracket) ((tag tags ∙ (keyword ∙ t)) ⇒ (λ p. a_type (a_tagged p.0 p.1.0 p.1.1) [])))

-- A limit on numbers is a test: numbers without a minus must pass it.
module _ (fits : ℕ → Bool) where
  -- the components of a SEQUENCE or SET, in braces; n more parts may be open (X.680, clauses 25 and 27)
  abbrev pub component_list : ℕ → Grammar TypeTree → Grammar Tree → Grammar Listing
  component_list n t v = opens n (braces (optional (rootless (member t v) (addition fits (member t v))))) ⇒ listing_of

  -- CHOICE, and its alternatives in braces; n more parts may be open (X.680, clause 29)
  abbrev pub choice : ℕ → Grammar TypeTree → Grammar FormTree
  choice n t =
      (word words.Choice ∙ opens n (braces (extensible (alternative t) (addition fits (alternative t)))))
      ⇒ (λ p. of_listing lists.Choice p.1)

  -- a type without tags that is no SEQUENCE, SET, SEQUENCE OF or SET OF
  abbrev pub one_type : ℕ → Grammar TypeTree → Grammar FormTree
  one_type n t = plain_type fits n ⇒ a_simple ∣ type_reference ∣ choice n t

  -- a type that constraints may come after: one without tags that is no SEQUENCE OF or SET OF
  abbrev pub plain : ℕ → Grammar TypeTree → Grammar Tree → Grammar FormTree
  plain n t v = one_type n t ∣ (sequence_or_set ∙ component_list n t v) ⇒ (λ p. of_listing (list_kind p.0) p.1)

  -- a SEQUENCE OF or SET OF, with a size before OF or none (X.680, clauses 26, 28 and 49)
  abbrev pub list : ℕ → Grammar TypeTree → Grammar TypeTree
  list n t = (sequence_or_set ∙ (list_size fits ∙ opens n (preceded (Word words.Of) t))) ⇒
      (λ p. list_type p.0 p.1.0 p.1.1)

  -- types in which n more braces, tags and lists may be open, with these types and values inside (X.680, clause 17)
  abbrev pub type_with : (ℕ → Bool) → ℕ → Grammar TypeTree → Grammar Tree → Grammar TypeTree
  type_with tags n t v = tagged tags n t ∣ (plain n t v ∙ many (constraint fits)) ⇒ constrained ∣ list n t

  -- the types with at most n braces, tags and lists nested in each other
  abbrev pub type : (ℕ → Bool) → ℕ → Grammar TypeTree
  type tags zero = type_with tags zero cut_off cut_off
  type tags (suc n) = type_with tags (suc n) (type tags n) (value fits n)
