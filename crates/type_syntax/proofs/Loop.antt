-- One step of the reader of types, what its parts leave, and the trees of what it makes.
use Rattle.std.proofs.Common.{◌≡◌, ℕ, zero, suc, ◌-◌, ◌≤◌, Bool, true, false, List, [], ◌∷◌, length, map, Option, Ok, Err, refl, ap, ◌∙◌ as ◌⋆◌, arith}
use Rattle.std.specs.Global.{Vec}
use Rattle.text.specs.declared.token.Mark.TheVariants.{OpenBrace, OpenBracket}
use Rattle.text.specs.declared.reserved.Word.TheVariants as words
use Rattle.grammar.specs.Lexeme.{Lexeme, Word, Mark}
use Rattle.grammar.specs.Laws.{after_read}
use Rattle.grammar.specs.Loops.{Shrinks, sound_short}
use Rattle.grammar.specs.Places.{small, tag_small}
use Rattle.grammar.specs.Reading.{Read, Reader, ◌>>=◌, stop, braces_at}
use Rattle.grammar.specs.Rules.{made}
use Rattle.grammar.specs.Short.{Short, less, bind_leaves, short_of}
use Rattle.trees.specs.Constraints.{ConstraintTree, constraint_of}
use Rattle.trees.specs.Values.{Tree}
use Rattle.trees.specs.declared.constraint.ConstraintSyntax.{ConstraintSyntax}
use Rattle.trees.specs.declared.types.TypeSyntax.{TypeSyntax, roll-TypeSyntax}
use Rattle.trees.specs.declared.types.TypeSyntax.TheShapes.{former-TypeSyntax-form, former-TypeSyntax-form-at-8}
use Rattle.trees.specs.declared.types.TypeSyntax.TheFolds.{fold-roll-TypeSyntax}
use Rattle.trees.specs.declared.types.TypeForm.{TypeForm}
use Rattle.trees.specs.declared.types.TypeForm.TheVariants as forms
use Rattle.trees.specs.declared.types.Member.{Member}
use Rattle.trees.specs.Types.{MemberTree, TypeTree, a_type, FormTree, a_list, type_members, member_layer, form_layer, type_layer, type_tree_of, type_member_of}
use Rattle.notation.specs.Reading.{value_at}
use Rattle.notation.specs.Value.{value}
use Rattle.type_parts.specs.PartLaws.{PartLaws}
use Rattle.type_parts.specs.PlainReading.{presence_at, list_size_at}
use Rattle.type_syntax.specs.TypeGrammar.{list_type, type}
use Rattle.type_syntax.specs.TypeReading.{component_at, alternative_type_at, body_at, choice_at, tagged_at, one_type_at, with_constraints_at, plain_at, element_type_at, list_at, structure_at, after_keyword_at, type_step, type_at}
use Rattle.type_syntax.specs.Listings.{form_tree}
use Rattle.type_syntax.proofs.Typing.{types_read}

-- ---- if nothing more may be open, what is inside is not read

abbrev list_pair : Bool → Option ConstraintTree × TypeTree → TypeTree
list_pair set p = list_type set p.0 p.1

module _ (fits : ℕ → Bool) (r r' : Reader TypeTree) (v v' : Reader Tree) where
  of_none : (ts : List Lexeme) → element_type_at fits zero r ts ≡ element_type_at fits zero r' ts
  unfolding element_type_at
  of_none [] = refl
  of_none (Word words.Of ∷ ts) = refl
  of_none (t ∷ ts) = refl

  list_none : (set : Bool) (ts : List Lexeme) → list_at fits zero r set ts ≡ list_at fits zero r' set ts
  unfolding list_at
  list_none set ts = go (list_size_at fits ts)
    where
      go : (q : Read (Option ConstraintTree))
          → after_read (list_pair set) q (element_type_at fits zero r) ≡ after_read (list_pair set) q (element_type_at fits zero r')
      go (Ok s) = ap (made (λ (t : TypeTree). list_pair set (s.0, t))) (of_none s.1)
      go (Err e) = refl

  after_keyword_none : (set : Bool) (ts : List Lexeme) → after_keyword_at fits zero r v set ts ≡ after_keyword_at fits zero r' v' set ts
  unfolding after_keyword_at structure_at body_at braces_at
  after_keyword_none set [] = list_none set []
  after_keyword_none set (Mark OpenBrace ∷ ts) = refl
  after_keyword_none set (t ∷ ts) = list_none set (t ∷ ts)

  choice_none : (ts : List Lexeme) → choice_at fits zero r ts ≡ choice_at fits zero r' ts
  unfolding choice_at braces_at
  choice_none [] = refl
  choice_none (Mark OpenBrace ∷ ts) = refl
  choice_none (t ∷ ts) = refl

  one_none : (ts : List Lexeme) → one_type_at fits zero r ts ≡ one_type_at fits zero r' ts
  unfolding one_type_at
  one_none [] = refl
  one_none (Word words.Choice ∷ ts) = choice_none ts
  one_none (t ∷ ts) = refl

  plain_none : (ts : List Lexeme) → plain_at fits zero r ts ≡ plain_at fits zero r' ts
  unfolding plain_at
  plain_none ts = ap (λ (q : Read FormTree). q >>= λ f. with_constraints_at fits f.0 f.1) (one_none ts)

  none_open : (ts : List Lexeme) → type_step fits zero r v ts ≡ type_step fits zero r' v' ts
  unfolding type_step tagged_at
  none_open [] = plain_none []
  none_open (Mark OpenBracket ∷ ts) = refl
  none_open (Word words.Sequence ∷ ts) = after_keyword_none false ts
  none_open (Word words.Set ∷ ts) = after_keyword_none true ts
  none_open (t ∷ ts) = plain_none (t ∷ ts)

pub type_stepped : (fits : ℕ → Bool) (n : ℕ) (ts : List Lexeme)
    → type_at fits n ts ≡ type_step fits n (type_at fits (n - 1)) (value_at fits (n - 1)) ts
unfolding type_at
type_stepped fits zero ts = none_open fits stop (type_at fits zero) stop (value_at fits zero) ts
type_stepped fits (suc n) ts = let e : n ≡ suc n - 1 = omega arith in ap (λ (k : ℕ). type_step fits (suc n) (type_at fits k) (value_at fits k) ts) e

-- ---- readers leave no more than they are given

same : (n : ℕ) → n ≤ n
same n = omega arith

one_less : (t : Lexeme) (ts : List Lexeme) → length ts ≤ length (t ∷ ts)
one_less t ts = omega arith

presence_short : (v : Reader Tree) → Short v → Short (presence_at v)
unfolding presence_at
presence_short v s [] = same 0
presence_short v s (Word words.Optional ∷ ts) = one_less (Word words.Optional) ts
presence_short v s (Word words.Default ∷ ts) = less (length ts) (length (Word words.Default ∷ ts)) _ (one_less (Word words.Default) ts) (bind_leaves (length ts) (v ts) _ (s ts) (λ x. same (length x.1)))
presence_short v s (t ∷ ts) = same (length (t ∷ ts))

module _ (laws : PartLaws) (n : ℕ) where
  type_shrinks : Shrinks (type_at small n)
  type_shrinks = record { shorter = λ ts x e. sound_short (type small tag_small n) ts (type_at small n ts) x e ((types_read laws n).sound tt ts) }

  value_shrinks : Shrinks (value_at small n)
  value_shrinks = record { shorter = λ ts x e. sound_short (value small n) ts (value_at small n ts) x e (laws.values.sound n ts) }

  type_short : Short (type_at small n)
  type_short = short_of (type_at small n) type_shrinks

  value_short : Short (value_at small n)
  value_short = short_of (value_at small n) value_shrinks

  pub component_short : Short (component_at (type_at small n) (value_at small n))
  unfolding component_at
  component_short ts = bind_leaves (length ts) (type_at small n ts) _ (type_short ts) (λ t. bind_leaves (length t.1) (presence_at (value_at small n) t.1) _ (presence_short (value_at small n) value_short t.1) (λ p. same (length p.1)))

  pub alternative_type_short : Short (alternative_type_at (type_at small n))
  unfolding alternative_type_at
  alternative_type_short ts = bind_leaves (length ts) (type_at small n ts) _ (type_short ts) (λ t. same (length t.1))

-- ---- trees

form_is : (f : TypeForm TypeSyntax)
    → form_layer (former-TypeSyntax-form.map TypeSyntax TypeTree type_tree_of f) ≡ form_tree f
form_is (forms.Simple s) = refl
form_is (forms.Reference r) = refl
form_is (forms.List k marker ms) = ap (λ (l : List MemberTree). a_list k marker (type_members l)) (together ms.items)
  where
    together : (l : List (Member TypeSyntax))
        →
        map member_layer (map (former-TypeSyntax-form-at-8.map TypeSyntax TypeTree type_tree_of) l) ≡ map type_member_of l
    together [] = refl
    together (m ∷ l) = ap (λ (r : List MemberTree). type_member_of m ∷ r) (together l)
form_is (forms.Elements k t) = refl
form_is (forms.Tagged tag word t) = refl

pub type_tree : (at : ℕ) (f : TypeForm TypeSyntax) (cs : Vec ConstraintSyntax)
    →
    type_tree_of (roll-TypeSyntax (record { at = at; form = f; constraints = cs })) ≡ a_type (form_tree f) (map constraint_of cs.items)
type_tree at f cs =
    fold-roll-TypeSyntax TypeTree type_layer (record { at = at; form = f; constraints = cs })
    ⋆ ap (λ (g : FormTree). a_type g (map constraint_of cs.items)) (form_is f)
