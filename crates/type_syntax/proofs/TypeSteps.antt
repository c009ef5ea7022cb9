-- What is owed for types, of what is owed for the types and values inside.
use Rattle.std.proofs.Common.{◌≡◌, ℕ, ◌+◌, ◌≤◌, inl, inr, Bool, true, false, List, [], ◌∷◌, ◌++◌, Option, Some, Ok, Err, refl, sym, ap, ◌∙◌ as ◌⋆◌, append_assoc}
use Rattle.text.specs.declared.token.Mark.TheVariants.{OpenBrace, OpenParenthesis, OpenBracket, Dot}
use Rattle.text.specs.declared.reserved.Word.TheVariants as words
use Rattle.asn_base.specs.declared.tag.Tag.{Tag}
use Rattle.grammar.specs.Lexeme.{Lexeme, TypeRef, Word, Mark}
use Rattle.grammar.specs.Grammar.{Grammar, ◌∙◌, ◌∣◌, ◌⇒◌, many, optional, preceded, opens, extensible, rootless, addition}
use Rattle.grammar.specs.Reading.{Limit, Nesting, Integer, Read, Reader, ◌>>=◌, named_at, is_open, parens_at, inside_at, braces_at, extensible_at, rootless_at, addition_at}
use Rattle.grammar.specs.Extensions.{FitsBrackets, rule_extensible, rule_rootless, rule_addition}
use Rattle.grammar.specs.Laws.{then_read, after_read}
use Rattle.grammar.specs.Lists.{no_lexeme, is_ident}
use Rattle.grammar.specs.Numbers.{Past}
use Rattle.grammar.specs.Parts.{pick, perhaps}
use Rattle.notation.specs.Laws.{goes_on}
use Rattle.grammar.specs.Parens.{rule_parens}
use Rattle.grammar.specs.Rules.{Owes, OwesLoosely, Rules, Same, asked, either, rule_made, rule_seq, rule_preceded, rule_tail, rule_lead, rule_pick, loose_optional, loose_many, loose_made, rule_read, rule_tests, rule_same, is_number, made, one_at}
use Rattle.grammar.specs.Openings.{loosely, loose_read, rule_both, rule_named, after_made, IsOpenable, opened_by, is_lbrace, inside, rule_opens, rule_inside, rule_inside_loose, rule_in_braces}
use Rattle.trees.specs.Values.{Name, Tree}
use Rattle.trees.specs.Constraints.{ConstraintTree}
use Rattle.notation.specs.ConstraintGrammar.{size, constraint}
use Rattle.notation.specs.ConstraintReading.{is_size, size_at, constraint_at}
use Rattle.trees.specs.declared.types.Keyword.{Keyword}
use Rattle.trees.specs.declared.types.ListKind.TheVariants as lists
use Rattle.trees.specs.Types.{PresenceTree, mandatory, optional as may_be_absent, default, TypeTree, a_type, FormTree, a_simple, a_tagged}
use Rattle.type_parts.specs.PlainGrammar.{present, keyword, presence, plain_type, list_size, type_reference, tag}
use Rattle.type_parts.specs.PlainReading.{keyword_at, presence_at, tag_at, one_word_at, simple_at, constraints_at, some_size_at, size_in_parens_at, list_size_at}
use Rattle.type_parts.specs.TypeLexemes.{is_choice_word, is_sequence_word, is_set_word, is_of_word, of_word_one, is_optional_word, is_default_word, is_open_bracket, open_bracket_one, is_application_word, is_private_word, is_dot, rule_choice_word, rule_sequence_word, rule_set_word, rule_optional_word, rule_default_word}
use Rattle.type_parts.specs.TypeWords.{TagRule}
use Rattle.type_parts.specs.TypeParts.{is_keyword, loose_keyword, ref_read, ref_same, rule_ref, simple_starts, rule_simple, rule_tag}
use Rattle.grammar.specs.Single.{is_closed, is_typeref}
use Rattle.type_syntax.specs.TypeGrammar.{ComponentTree, Listing, of_listing, list_kind, listing_of, list_type, constrained, sequence_or_set, member, alternative, component_list, choice, tagged, one_type, type_with}
use Rattle.type_syntax.specs.TypeLaws.{type_ends}
use Rattle.type_syntax.specs.TypeReading.{component_at, alternative_type_at, is_listing, listing_at, body_at, alternatives_at, choice_at, inside_tag_at, tagged_at, plain_form_at, one_type_at, with_constraints_at, plain_at, element_type_at, list_at, structure_at, after_keyword_at, type_step}

-- ---- what a type begins with, and what goes on with it

abbrev pub one_starts : Lexeme → Bool
one_starts = either is_typeref (either is_choice_word simple_starts)

abbrev pub is_which : Lexeme → Bool
is_which = either is_sequence_word is_set_word

abbrev pub type_starts : Lexeme → Bool
type_starts = either is_open_bracket (either one_starts is_which)

abbrev one_ends : Lexeme → Bool
one_ends (Mark OpenBrace) = true
one_ends (Mark Dot) = true
one_ends t = false

abbrev which_read : Reader Bool
which_read = pick is_sequence_word (λ ts. one_at is_sequence_word ts >>= λ x. Ok (false, x.1)) (λ ts. one_at is_set_word ts >>= λ x. Ok (true, x.1))

set_no_sequence : (t : Lexeme) → is_set_word t ≡ true → is_sequence_word t ≡ false
set_no_sequence (Word words.Sequence) e = absurd cc
set_no_sequence t e = refl

module _ {s f : Type 0} {over : Limit → ℕ} {within : Limit → Type 0} where
  rule_which : Owes s f over within sequence_or_set is_which (either no_lexeme no_lexeme) which_read
  rule_which = rule_pick (rule_made (λ _. false) rule_sequence_word) (rule_made (λ _. true) rule_set_word) set_no_sequence

-- ---- what members are made of

abbrev is_presence : Lexeme → Bool
is_presence = either is_optional_word is_default_word

default_no_optional : (t : Lexeme) → is_default_word t ≡ true → is_optional_word t ≡ false
default_no_optional (Word words.Optional) e = absurd cc
default_no_optional t e = refl

abbrev presence_read : Reader Tree → Reader PresenceTree
presence_read value ts =
    perhaps is_presence (pick is_optional_word (λ ts. one_at is_optional_word ts >>= λ x. Ok (may_be_absent, x.1)) (λ ts. then_read (λ (p : Unit {0} × Tree). p.1) (one_at is_default_word) value ts >>= λ x. Ok (default x.0, x.1))) ts
    >>= λ x. Ok (present x.0, x.1)

default_same : (r : Read Tree)
    → made present (made (λ x. Some x) (made default (r >>= λ y. Ok (y.0, y.1)))) ≡ made default r
default_same (Ok v) = refl
default_same (Err e) = refl

presence_same : (value : Reader Tree) (ts : List Lexeme) → presence_read value ts ≡ presence_at value ts
unfolding presence_at
presence_same value [] = refl
presence_same value (Word words.Optional ∷ ts) = refl
presence_same value (Word words.Default ∷ ts) = default_same (value ts)
presence_same value (t ∷ ts) = refl

-- ---- tags and elements

abbrev tag_tree : Tag × (Keyword × TypeTree) → TypeTree
tag_tree p = a_type (a_tagged p.0 p.1.0 p.1.1) []

inside_same : (fits : ℕ → Bool) (read : Reader TypeTree) (ts : List Lexeme)
    → then_read tag_tree (tag_at fits) (then_read (λ p. p) keyword_at read) ts ≡ inside_tag_at fits read ts
unfolding inside_tag_at
inside_same fits read ts = go (tag_at fits ts)
  where
    go : (r : Read Tag)
        →
        after_read tag_tree r (then_read (λ p. p) keyword_at read) ≡ (r >>= λ g. keyword_at g.1 >>= λ k. read k.1 >>= λ t. Ok (a_type (a_tagged g.0 k.0 t.0) [], t.1))
    go (Ok g) = after_made (λ (y : Keyword × TypeTree). tag_tree (g.0, y)) (λ (p : Keyword × TypeTree). p) (keyword_at g.1) read
    go (Err e) = refl

tagged_same : (fits : ℕ → Bool) (n : ℕ) (read : Reader TypeTree) (ts : List Lexeme)
    → opened_by is_open_bracket n (inside_tag_at fits read) ts ≡ tagged_at fits n read ts
unfolding tagged_at
tagged_same fits n read [] = refl
tagged_same fits n read (Mark OpenBracket ∷ ts) = refl
tagged_same fits n read (t ∷ ts) = refl

of_same : (fits : ℕ → Bool) (n : ℕ) (read : Reader TypeTree) (ts : List Lexeme)
    → opened_by is_of_word n read ts ≡ element_type_at fits n read ts
unfolding element_type_at
of_same fits n read [] = refl
of_same fits n read (Word words.Of ∷ ts) = refl
of_same fits n read (t ∷ ts) = refl

size_same : (fits : ℕ → Bool) (ts : List Lexeme)
    →
    perhaps (either is_size is_open) (pick is_size (size_at fits) (parens_at (size_at fits))) ts ≡ list_size_at fits ts
unfolding list_size_at some_size_at size_in_parens_at
size_same fits [] = refl
size_same fits (Word words.Size ∷ ts) = refl
size_same fits (Mark OpenParenthesis ∷ ts) = refl
size_same fits (t ∷ ts) = refl

open_no_size : (t : Lexeme) → is_open t ≡ true → is_size t ≡ false
open_no_size (Word words.Size) e = absurd cc
open_no_size t e = refl

abbrev size_ends : Lexeme → Bool
size_ends = either (either is_size is_open) (either no_lexeme no_lexeme)

of_apart : (t : Lexeme) → is_of_word t ≡ true → size_ends t ≡ false
of_apart (Word words.Of) e = refl
of_apart t e = absurd cc

-- ---- lists

component_read : (read : Reader TypeTree) (value : Reader Tree) (ts : List Lexeme)
    → then_read (λ p. p) read (presence_at value) ts ≡ component_at read value ts
unfolding component_at
component_read read value ts = refl

abbrev body_read : (ℕ → Bool) → ℕ → Reader TypeTree → Reader Tree → Reader Listing
body_read fits n read value ts = braces_at n (listing_at fits (named_at (component_at read value))) ts >>= λ l. Ok (listing_of l.0, l.1)

body_same : (fits : ℕ → Bool) (n : ℕ) (read : Reader TypeTree) (value : Reader Tree) (ts : List Lexeme)
    → body_read fits n read value ts ≡ body_at fits n read value ts
unfolding body_at
body_same fits n read value ts = refl

listing_same : (fits : ℕ → Bool) (part : Reader (Name × ComponentTree)) (ts : List Lexeme)
    → perhaps is_listing (rootless_at part (addition_at fits part)) ts ≡ listing_at fits part ts
unfolding listing_at
listing_same fits part ts = refl

alternatives_same : (fits : ℕ → Bool) (read : Reader TypeTree) (ts : List Lexeme)
    →
    extensible_at (named_at (alternative_type_at read)) (addition_at fits (named_at (alternative_type_at read))) ts ≡ alternatives_at fits read ts
unfolding alternatives_at
alternatives_same fits read ts = refl

abbrev choice_read : (ℕ → Bool) → ℕ → Reader TypeTree → Reader FormTree
choice_read fits n read = then_read (λ (p : Unit {0} × Listing). of_listing lists.Choice p.1) (one_at is_choice_word) (braces_at n (alternatives_at fits read))

choice_same : (fits : ℕ → Bool) (n : ℕ) (read : Reader TypeTree) (ts : List Lexeme)
    → choice_read fits n read (Word words.Choice ∷ ts) ≡ choice_at fits n read ts
unfolding choice_at
choice_same fits n read ts = refl

-- ---- the readers of types

module _ (fits : ℕ → Bool) (n : ℕ) (read : Reader TypeTree) (value : Reader Tree) where
  abbrev form_read : Reader FormTree
  form_read ts = simple_at fits n ts >>= λ s. Ok (a_simple s.0, s.1)

  abbrev one_read : Reader FormTree
  one_read = pick is_typeref ref_read (pick is_choice_word (choice_read fits n read) form_read)

  one_same : (ts : List Lexeme) → one_read ts ≡ one_type_at fits n read ts
  unfolding one_type_at plain_form_at
  one_same [] = refl
  one_same (Word words.Choice ∷ ts) = choice_same fits n read ts
  one_same (TypeRef x ∷ ts) = ref_same x ts
  one_same (t ∷ ts) = refl

  abbrev Rest : Type 0
  Rest = Bool → TypeTree

  abbrev set_or_not : Listing × List ConstraintTree → Rest
  set_or_not p set = constrained (of_listing (list_kind set) p.0, p.1)

  abbrev list_or_not : Option ConstraintTree × TypeTree → Rest
  list_or_not p set = list_type set p.0 p.1

  abbrev rest_read : Reader Rest
  rest_read = pick is_lbrace (then_read set_or_not (body_at fits n read value) (constraints_at fits)) (then_read list_or_not (list_size_at fits) (element_type_at fits n read))

  rest_same : (set : Bool) (ts : List Lexeme)
      → made (λ (g : Rest). g set) (rest_read ts) ≡ after_keyword_at fits n read value set ts
  unfolding after_keyword_at structure_at list_at with_constraints_at
  rest_same set [] = after_made (λ (g : Rest). g set) list_or_not (list_size_at fits []) (element_type_at fits n read)
  rest_same set (Mark OpenBrace ∷ ts) = after_made (λ (g : Rest). g set) set_or_not (body_at fits n read value (Mark OpenBrace ∷ ts)) (constraints_at fits)
  rest_same set (t ∷ ts) = after_made (λ (g : Rest). g set) list_or_not (list_size_at fits (t ∷ ts)) (element_type_at fits n read)

  abbrev type_read : Reader TypeTree
  type_read = pick is_open_bracket (tagged_at fits n read) (pick one_starts (then_read constrained (one_type_at fits n read) (constraints_at fits)) (then_read (λ (p : Bool × Rest). p.1 p.0) which_read rest_read))

  type_same : (ts : List Lexeme) → type_read ts ≡ type_step fits n read value ts
  unfolding type_step plain_at with_constraints_at one_type_at plain_form_at simple_at one_word_at
  type_same [] = refl
  type_same (Mark OpenBracket ∷ ts) = refl
  type_same (Word words.Sequence ∷ ts) = rest_same false ts
  type_same (Word words.Set ∷ ts) = rest_same true ts
  type_same (t ∷ ts) = refl

-- ---- the grammar, with one front for all that SEQUENCE or SET begins

module _ (fits tags : ℕ → Bool) (m : ℕ) (t : Grammar TypeTree) (v : Grammar Tree) where
  abbrev of_members : Listing × List ConstraintTree → Bool → TypeTree
  of_members p set = constrained (of_listing (list_kind set) p.0, p.1)

  abbrev of_element : Option ConstraintTree × TypeTree → Bool → TypeTree
  of_element p set = list_type set p.0 p.1

  abbrev split : Grammar TypeTree
  split =
      tagged tags m t
      ∣ (one_type fits m t ∙ many (constraint fits)) ⇒ constrained
      ∣ (sequence_or_set ∙ ((component_list fits m t v ∙ many (constraint fits)) ⇒ of_members ∣ (list_size fits ∙ opens m (preceded (Word words.Of) t)) ⇒ of_element)) ⇒ (λ p. p.1 p.0)

  type_is_split : Same split (type_with fits tags m t v)
  type_is_split = record { to = record { is = to_is; on = to_on }; back = record { is = back_is; on = back_on } }
    where
      to_is : (x : TypeTree) (u : List Lexeme) → split.Is x u → (type_with fits tags m t v).Is x u
      to_is x u (inl h) = inl h
      to_is x u (inr (inl (p, d, (a, b, q, ha, hb)))) = inr (inl (p, d, (a, b, q, inl ha, hb)))
      to_is x u (inr (inr (p, d, (a, b, q, ha, inl (r, e, (a', b', q', hm, hc)))))) =
          inr (inl ((of_listing (list_kind p.0) r.0, r.1), d ⋆ ap (λ (g : Bool → TypeTree). g p.0) e, (a ++ a', b', q ⋆ ap (λ (l : List Lexeme). a ++ l) q' ⋆ sym (append_assoc a a' b'), inr ((p.0, r.0), refl, (a, a', refl, ha, hm)), hc)))
      to_is x u (inr (inr (p, d, (a, b, q, ha, inr (r, e, h))))) = inr (inr ((p.0, r), d ⋆ ap (λ (g : Bool → TypeTree). g p.0) e, (a, b, q, ha, h)))

      to_on : (u : List Lexeme) → split.IsPrefix u → (type_with fits tags m t v).IsPrefix u
      to_on u (inl h) = inl h
      to_on u (inr (inl (inl h))) = inr (inl (inl (inl h)))
      to_on u (inr (inl (inr (y, a, b, q, ha, hb)))) = inr (inl (inr (y, a, b, q, inl ha, hb)))
      to_on u (inr (inr (inl h))) = inr (inr (inl h))
      to_on u (inr (inr (inr (k, a, b, q, ha, inl (inl hm))))) = inr (inl (inl (inr (inr (k, a, b, q, ha, hm)))))
      to_on u (inr (inr (inr (k, a, b, q, ha, inl (inr (ms, a', b', q', hm, hc)))))) =
          inr (inl (inr (of_listing (list_kind k) ms, a ++ a', b', q ⋆ ap (λ (l : List Lexeme). a ++ l) q' ⋆ sym (append_assoc a a' b'), inr ((k, ms), refl, (a, a', refl, ha, hm)), hc)))
      to_on u (inr (inr (inr (k, a, b, q, ha, inr h)))) = inr (inr (inr (k, a, b, q, ha, h)))

      back_is : (x : TypeTree) (u : List Lexeme) → (type_with fits tags m t v).Is x u → split.Is x u
      back_is x u (inl h) = inl h
      back_is x u (inr (inl (p, d, (a, b, q, inl h, hc)))) = inr (inl (p, d, (a, b, q, h, hc)))
      back_is x u (inr (inl (p, d, (a, b, q, inr (r, e, (a', b', q', hw, hm)), hc)))) =
          inr (inr ((r.0, of_members (r.1, p.1)), d ⋆ ap (λ (y : FormTree). constrained (y, p.1)) e, (a', b' ++ b, q ⋆ ap (λ (l : List Lexeme). l ++ b) q' ⋆ append_assoc a' b' b, hw, inl ((r.1, p.1), refl, (b', b, refl, hm, hc)))))
      back_is x u (inr (inr (p, d, (a, b, q, hw, h)))) = inr (inr ((p.0, of_element p.1), d, (a, b, q, hw, inr (p.1, refl, h))))

      back_on : (u : List Lexeme) → (type_with fits tags m t v).IsPrefix u → split.IsPrefix u
      back_on u (inl h) = inl h
      back_on u (inr (inl (inl (inl h)))) = inr (inl (inl h))
      back_on u (inr (inl (inl (inr (inl h))))) = inr (inr (inl h))
      back_on u (inr (inl (inl (inr (inr (k, a, b, q, ha, hm)))))) = inr (inr (inr (k, a, b, q, ha, inl (inl hm))))
      back_on u (inr (inl (inr (y, a, b, q, inl ha, hb)))) = inr (inl (inr (y, a, b, q, ha, hb)))
      back_on u (inr (inl (inr (y, a, b, q, inr (r, e, (a', b', q', hw, hm)), hb)))) =
          inr (inr (inr (r.0, a', b' ++ b, q ⋆ ap (λ (l : List Lexeme). l ++ b) q' ⋆ append_assoc a' b' b, hw, inl (inr (r.1, b', b, refl, hm, hb)))))
      back_on u (inr (inr (inl h))) = inr (inr (inl h))
      back_on u (inr (inr (inr (k, a, b, q, ha, hb)))) = inr (inr (inr (k, a, b, q, ha, inr hb)))

-- ---- what begins one part begins no other

simple_no_choice : (t : Lexeme) → simple_starts t ≡ true → is_choice_word t ≡ false
simple_no_choice (Word words.Choice) e = absurd cc
simple_no_choice t e = refl

rest_no_typeref : (t : Lexeme) → either is_choice_word simple_starts t ≡ true → is_typeref t ≡ false
rest_no_typeref (TypeRef x) e = absurd cc
rest_no_typeref t e = refl

which_no_plain : (t : Lexeme) → is_which t ≡ true → one_starts t ≡ false
which_no_plain (Word words.Sequence) e = refl
which_no_plain (Word words.Set) e = refl
which_no_plain t e = absurd cc

rest_no_bracket : (t : Lexeme) → either one_starts is_which t ≡ true → is_open_bracket t ≡ false
rest_no_bracket (Mark OpenBracket) e = absurd cc
rest_no_bracket t e = refl

type_no_keyword : (t : Lexeme) → type_starts t ≡ true → either is_keyword (either no_lexeme no_lexeme) t ≡ false
type_no_keyword (Word words.Implicit) e = absurd cc
type_no_keyword (Word words.Explicit) e = absurd cc
type_no_keyword t e = refl

presence_apart : (t : Lexeme) → is_presence t ≡ true → type_ends t ≡ false
presence_apart (Word words.Optional) e = refl
presence_apart (Word words.Default) e = refl
presence_apart t e = absurd cc

constraint_apart : (t : Lexeme) → is_open t ≡ true → one_ends t ≡ false
constraint_apart (Mark OpenParenthesis) e = refl
constraint_apart t e = absurd cc

abbrev list_starts : Lexeme → Bool
list_starts = either (either is_size is_open) is_of_word

list_no_brace : (t : Lexeme) → list_starts t ≡ true → is_lbrace t ≡ false
list_no_brace (Mark OpenBrace) e = absurd cc
list_no_brace t e = refl

abbrev none : Lexeme → Bool
none = no_lexeme

one_ends_are : (t : Lexeme)
    → one_ends t ≡ false
    → either (either none (either is_dot none)) (either none is_lbrace) t ≡ false
one_ends_are (Mark OpenBrace) e = absurd cc
one_ends_are (Mark Dot) e = absurd cc
one_ends_are t e = refl

type_ends_are : (t : Lexeme)
    → type_ends t ≡ false
    →
    either type_ends (either (either one_ends (either is_open none)) (either (either none (either is_open none)) type_ends)) t ≡ false
type_ends_are (Mark OpenBrace) e = absurd cc
type_ends_are (Mark Dot) e = absurd cc
type_ends_are (Mark OpenParenthesis) e = absurd cc
type_ends_are t e = refl

-- ---- what is owed for members and alternatives

abbrev presence_ends : Lexeme → Bool
presence_ends = either is_presence (either no_lexeme goes_on)

abbrev member_ends : Lexeme → Bool
member_ends = either type_ends presence_ends

module _ {s f : Type 0} {over : Limit → ℕ} {within : Limit → Type 0} {v : Grammar Tree} {value_starts : Lexeme → Bool}
    {value : Reader Tree} where
  loose_presence : Owes s f over within v value_starts goes_on value
      → OwesLoosely s f over within (presence v) is_presence presence_ends (presence_at value)
  loose_presence kv = loose_read (presence_at value) (presence_same value) (loose_made present (loose_optional (rule_pick (rule_made (λ _. may_be_absent) rule_optional_word) (rule_made default (rule_preceded rule_default_word kv)) default_no_optional)))

module _ {s f : Type 0} {over : Limit → ℕ} {within : Limit → Type 0} {t : Grammar TypeTree} {v : Grammar Tree}
    {value_starts : Lexeme → Bool} {read : Reader TypeTree} {value : Reader Tree} where
  pub rule_member : Owes s f over within t type_starts type_ends read
      → Owes s f over within v value_starts goes_on value
      → Owes s f over within (member t v) is_ident member_ends (named_at (component_at read value))
  rule_member kt kv = rule_named (loosely (rule_read (component_at read value) (component_read read value) (rule_both t (presence v) (rule_tail (λ p. p) kt (loose_presence kv) presence_apart))))

module _ {s f : Type 0} {over : Limit → ℕ} {within : Limit → Type 0} {t : Grammar TypeTree} {read : Reader TypeTree}
  where
    pub rule_alternative : Owes s f over within t type_starts type_ends read
        → Owes s f over within (alternative t) is_ident type_ends (named_at (alternative_type_at read))
    unfolding alternative_type_at
    rule_alternative kt = rule_named (loosely (rule_made (λ t. (t, mandatory)) kt))

member_fits : FitsBrackets is_ident member_ends
member_fits = record { comma = refl; close = refl; bracket = refl; number = λ n. refl }

alternative_fits : FitsBrackets is_ident type_ends
alternative_fits = record { comma = refl; close = refl; bracket = refl; number = λ n. refl }

-- ---- what is owed for types

-- fits is the reader's test on numbers, fits' the grammar's
module _ (over : Limit → ℕ) (within : Limit → Type 0) (fits fits' : ℕ → Bool)
    (grows : (n : ℕ) → fits n ≡ true → fits' n ≡ true) (past : Past (over Integer) ((n : ℕ) → fits' n ≡ true))
    (tags : ℕ → Bool) (tag_rule : TagRule over within fits tags)
    (room : (n : ℕ) → fits' n ≡ true → within Integer → fits n ≡ true)
    (constraints : Rules over within (constraint fits') is_open no_lexeme (constraint_at fits))
    (sizes : Rules over within (size fits') is_size no_lexeme (size_at fits)) where
  rule_size : Rules over within (size fits') is_size no_lexeme (size_at fits)
  rule_size = sizes

  module _ (s f : Type 0) where
    loose_constraints :
        OwesLoosely s f over within (many (constraint fits')) is_open (either is_open no_lexeme) (constraints_at fits)
    unfolding constraints_at
    loose_constraints = loose_many (asked (constraints)) (λ t e. refl)

    loose_size : OwesLoosely s f over within (list_size fits') (either is_size is_open) size_ends (list_size_at fits)
    loose_size = loose_read (list_size_at fits) (size_same fits) (loose_optional (rule_pick (asked rule_size) (rule_parens (asked rule_size) refl) open_no_size))

  rule_inside_tag : {s f : Type 0} {t : Grammar TypeTree} {read : Reader TypeTree}
      → Owes s f over within t type_starts type_ends read
      →
      Owes s f over within ((tag tags ∙ (keyword ∙ t)) ⇒ tag_tree) (either is_application_word (either is_private_word is_number)) type_ends (inside_tag_at fits read)
  rule_inside_tag {s} {f} {t} {read} kt =
      rule_read (inside_tag_at fits read) (inside_same fits read) (rule_seq tag_tree (asked (rule_tag over within fits fits' grows past tags tag_rule room)) (rule_both keyword t (rule_lead (λ p. p) loose_keyword kt type_no_keyword)) (λ t e. refl))

  module _ {s f : Type 0} {t : Grammar TypeTree} {v : Grammar Tree} {value_starts : Lexeme → Bool}
      {read : Reader TypeTree} {value : Reader Tree} where
    rule_members : Owes s f over within t type_starts type_ends read
        → Owes s f over within v value_starts goes_on value
        →
        Owes s f over within (inside (optional (rootless (member t v) (addition fits' (member t v))))) (either is_listing is_closed) no_lexeme (inside_at (listing_at fits (named_at (component_at read value))))
    rule_members kt kv =
        rule_inside_loose (loose_read (listing_at fits (named_at (component_at read value))) (listing_same fits (named_at (component_at read value)))
        (loose_optional (rule_rootless (rule_member kt kv) (rule_addition over within fits fits' grows past room (rule_member kt kv) member_fits) refl refl refl))) refl

  module _ {s f : Type 0} {t : Grammar TypeTree} {read : Reader TypeTree} where
    rule_alternatives : Owes s f over within t type_starts type_ends read
        →
        Owes s f over within (inside (extensible (alternative t) (addition fits' (alternative t)))) is_ident no_lexeme (inside_at (alternatives_at fits read))
    rule_alternatives kt =
        rule_inside (rule_read (alternatives_at fits read) (alternatives_same fits read)
        (rule_extensible (rule_alternative kt) (rule_addition over within fits fits' grows past room (rule_alternative kt) alternative_fits) refl refl refl)) refl

  -- n: how many more things may be open for the reader, and m for the grammar
  module _ (s f : Type 0) (n m : ℕ) (fit : s → m ≡ over Nesting + n) (deep : f → within Nesting → m ≤ n)
      (t : Grammar TypeTree) (v : Grammar Tree) (value_starts : Lexeme → Bool) (read read0 : Reader TypeTree)
      (value value0 : Reader Tree) (kt : IsOpenable n → Owes s f over within t type_starts type_ends read)
      (kv : IsOpenable n → Owes s f over within v value_starts goes_on value)
      (kt0 : Owes ⊥ f over within t type_starts type_ends read0)
      (kv0 : Owes ⊥ f over within v value_starts goes_on value0) where
    rule_body : Owes s f over within (component_list fits' m t v) is_lbrace no_lexeme (body_at fits n read value)
    rule_body =
        rule_read (body_at fits n read value) (body_same fits n read value)
        (rule_made listing_of (rule_in_braces (optional (rootless (member t v) (addition fits' (member t v)))) (listing_at fits (named_at (component_at read value))) n m fit deep (λ q. ((rule_members kt0 kv0).finds q).part) (λ o. rule_members (kt o) (kv o))))

    rule_choice : Owes s f over within (choice fits' m t) is_choice_word no_lexeme (choice_read fits n read)
    rule_choice =
        rule_seq (λ p. of_listing lists.Choice p.1) rule_choice_word
        (rule_in_braces (extensible (alternative t) (addition fits' (alternative t))) (alternatives_at fits read) n m fit deep (λ q. ((rule_alternatives kt0).finds q).part) (λ o. rule_alternatives (kt o))) (λ t e. refl)

    abbrev first_form : Grammar FormTree
    first_form = plain_type fits' m ⇒ a_simple

    rule_form :
        Owes s f over within (choice fits' m t ∣ first_form) (either is_choice_word simple_starts) (either none is_lbrace) (pick is_choice_word (choice_read fits n read) (form_read fits n read value))
    rule_form = rule_pick rule_choice (rule_made a_simple (rule_simple over within fits fits' grows past tags tag_rule room s f n m fit deep)) simple_no_choice

    one_turned : Same (type_reference ∣ (choice fits' m t ∣ first_form)) (one_type fits' m t)
    one_turned = record { to = record { is = λ x u h. to_is x u h; on = λ u h. to_on u h }; back = record { is = λ x u h. back_is x u h; on = λ u h. back_on u h } }
      where
        to_is : (x : FormTree) (u : List Lexeme)
            → (type_reference ∣ (choice fits' m t ∣ first_form)).Is x u
            → (one_type fits' m t).Is x u
        to_is x u (inl h) = inr (inl h)
        to_is x u (inr (inl h)) = inr (inr h)
        to_is x u (inr (inr h)) = inl h

        to_on : (u : List Lexeme) → (type_reference ∣ (choice fits' m t ∣ first_form)).IsPrefix u →
            (one_type fits' m t).IsPrefix u
        to_on u (inl h) = inr (inl h)
        to_on u (inr (inl h)) = inr (inr h)
        to_on u (inr (inr h)) = inl h

        back_is : (x : FormTree) (u : List Lexeme)
            → (one_type fits' m t).Is x u
            → (type_reference ∣ (choice fits' m t ∣ first_form)).Is x u
        back_is x u (inl h) = inr (inr h)
        back_is x u (inr (inl h)) = inl h
        back_is x u (inr (inr h)) = inr (inl h)

        back_on : (u : List Lexeme) → (one_type fits' m t).IsPrefix u → (type_reference ∣ (choice fits' m t ∣ first_form)).IsPrefix u
        back_on u (inl h) = inr (inr h)
        back_on u (inr (inl h)) = inl h
        back_on u (inr (inr h)) = inr (inl h)

    rule_one : Owes s f over within (one_type fits' m t) one_starts one_ends (one_type_at fits n read)
    rule_one =
        rule_tests one_starts one_ends (λ t e. e) one_ends_are (rule_read (one_type_at fits n read) (one_same fits n read value)
        (rule_same (one_type fits' m t) one_turned (rule_pick rule_ref rule_form rest_no_typeref)))

    rule_tagged : Owes s f over within (tagged tags m t) is_open_bracket type_ends (tagged_at fits n read)
    rule_tagged = rule_read (tagged_at fits n read) (tagged_same fits n read) (rule_opens (Mark OpenBracket) is_open_bracket refl open_bracket_one ((tag tags ∙ (keyword ∙ t)) ⇒ tag_tree) n m fit deep (λ q. ((rule_inside_tag kt0).finds q).part) (λ o. rule_inside_tag (kt o)))

    rule_of : Owes s f over within (opens m (preceded (Word words.Of) t)) is_of_word type_ends (element_type_at fits n read)
    rule_of = rule_read (element_type_at fits n read) (of_same fits n read) (rule_opens (Word words.Of) is_of_word refl of_word_one t n m fit deep (λ q. (kt0.finds q).part) kt)

    pub rule_step :
        Owes s f over within (type_with fits' tags m t v) type_starts type_ends (type_step fits n read value)
    rule_step =
        rule_tests type_starts type_ends (λ t e. e) type_ends_are (rule_same (type_with fits' tags m t v) (type_is_split fits' tags m t v) (rule_read (type_step fits n read value) (type_same fits n read value)
        (rule_pick rule_tagged
        (rule_pick (rule_tail constrained rule_one (loose_constraints s f) constraint_apart)
        (rule_seq (λ p. p.1 p.0) rule_which (rule_pick (rule_tail (of_members fits' tags m t v) rule_body (loose_constraints s f) (λ t e. refl)) (rule_lead (of_element fits' tags m t v) (loose_size s f) rule_of of_apart) list_no_brace) (λ t e. refl)) which_no_plain) rest_no_bracket)))
