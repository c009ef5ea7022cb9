-- What is read as a module is spelled as the notation asks.
use Rattle.std.proofs.Common.{◌≤◌, ℕ, Bool, List, [], ◌∷◌, length}
use Rattle.std.specs.List.{All, AllByRecursion}
use Rattle.std.proofs.lemmas.List.Elements.{All-head, All-tail}
use Rattle.text.specs.declared.token.Token.{Token}
use Rattle.text.specs.declared.token.TokenKind.{TokenKind}
use Rattle.text.specs.declared.token.TokenKind.TheVariants as kinds
use Rattle.text.specs.declared.token.Mark.TheVariants.{Assign}
use Rattle.text.specs.declared.reserved.Word.TheVariants.{End}
use Rattle.text.specs.Items.{IsTokenOfKind}
use Rattle.text.specs.Text.{IsTokenOf}
use Rattle.grammar.specs.Lexeme.{lexeme_at, lexemes, TypeRef, Ident, Mark}
use Rattle.grammar.specs.Grammar.{Grammar, token, word, ◌∙◌, ◌⇒◌, many, preceded}
use Rattle.grammar.specs.Places.{Limits}
use Rattle.trees.specs.Types.{TypeTree}
use Rattle.trees.specs.Modules.{AssignmentTree, assigns_type, assigns_value, ModuleTree}
use Rattle.notation.specs.Value.{value}
use Rattle.type_syntax.specs.TypeGrammar.{type}
use Rattle.module_head.specs.Heading.{head}
use Rattle.syntax.specs.Syntax.{assignment, module_text, module_tree}
use Rattle.spelled.specs.Written.{IsSpelledTree, IsSpelledAssignment, IsSpelledModule}
use Rattle.spelled.proofs.Words.{identifier_is}
use Rattle.spelled.proofs.Keeping.{Keeps, Nothing, IsGood, AreGood, keeps_nothing, keeps_pair, keeps_either, keeps_made, keeps_many, keeps_preceded}
use Rattle.spelled.proofs.Typing.{type_keeps}

-- ---- lexemes of a text

lexeme_good : (x : List ℕ) (k : TokenKind) (i j : ℕ) → j ≤ length x → IsTokenOfKind x k i j → IsGood (lexeme_at x k i j)
lexeme_good x kinds.Identifier i j le h = identifier_is x i j le h
lexeme_good x kinds.TypeReference i j le h = tt
lexeme_good x kinds.Number i j le h = tt
lexeme_good x kinds.BinaryString i j le h = tt
lexeme_good x kinds.HexString i j le h = tt
lexeme_good x kinds.CharacterString i j le h = tt
lexeme_good x (kinds.Reserved w) i j le h = tt
lexeme_good x (kinds.Mark m) i j le h = tt

pub lexemes_good : (x : List ℕ) (ts : List Token) → All (IsTokenOf x) ts → AreGood (lexemes x ts)
lexemes_good x [] h = tt
lexemes_good x (t ∷ ts) h =
    let k = All-head (IsTokenOf x) t ts h in
    (lexeme_good x t.kind t.span.start t.span.end k.span.within k.token, lexemes_good x ts (All-tail (IsTokenOf x) t ts h))

-- ---- modules

module _ (fits tags : ℕ → Bool) (n : ℕ) where
  abbrev types : Grammar TypeTree
  types = type fits tags n

  assignment_keeps : Keeps (assignment fits tags n) IsSpelledAssignment
  assignment_keeps =
      keeps_either ((token TypeRef ∙ preceded (Mark Assign) types) ⇒ (λ p. assigns_type p.0 p.1)) ((token Ident ∙ (types ∙ preceded (Mark Assign) (value fits n))) ⇒ (λ p. assigns_value p.0 p.1.0 p.1.1)) IsSpelledAssignment
      (keeps_made (token TypeRef ∙ preceded (Mark Assign) types) (λ p. assigns_type p.0 p.1) (λ p. Unit {0} × IsSpelledTree p.1) IsSpelledAssignment
      (keeps_pair (token TypeRef) (preceded (Mark Assign) types) Nothing IsSpelledTree (keeps_nothing (token TypeRef)) (keeps_preceded (Mark Assign) types IsSpelledTree (type_keeps fits tags n)))
      (λ p h. h.1))
      (keeps_made (token Ident ∙ (types ∙ preceded (Mark Assign) (value fits n))) (λ p. assigns_value p.0 p.1.0 p.1.1) (λ p. Unit {0} × (IsSpelledTree p.1.0 × Unit {0})) IsSpelledAssignment
      (keeps_pair (token Ident) (types ∙ preceded (Mark Assign) (value fits n)) Nothing (λ p. IsSpelledTree p.0 × Unit {0}) (keeps_nothing (token Ident))
      (keeps_pair types (preceded (Mark Assign) (value fits n)) IsSpelledTree Nothing (type_keeps fits tags n) (keeps_nothing (preceded (Mark Assign) (value fits n)))))
      (λ p h. h.1.0))

module _ (a : Limits) where
  abbrev assigned : Grammar (List AssignmentTree)
  assigned = (many (assignment a.number a.tag a.nesting) ∙ word End) ⇒ (λ p. p.0)

  assigned_keep : Keeps assigned (AllByRecursion IsSpelledAssignment)
  assigned_keep =
      keeps_made (many (assignment a.number a.tag a.nesting) ∙ word End) (λ p. p.0) (λ p. AllByRecursion IsSpelledAssignment p.0 × Unit {0}) (AllByRecursion IsSpelledAssignment)
      (keeps_pair (many (assignment a.number a.tag a.nesting)) (word End) (AllByRecursion IsSpelledAssignment) Nothing (keeps_many (assignment a.number a.tag a.nesting) IsSpelledAssignment (assignment_keeps a.number a.tag a.nesting)) (keeps_nothing (word End)))
      (λ p h. h.0)

  module_keeps : Keeps (module_text a) IsSpelledModule
  module_keeps =
      keeps_made (head a.number ∙ assigned) (λ p. module_tree p.0 p.1) (λ p. Unit {0} × AllByRecursion IsSpelledAssignment p.1) IsSpelledModule
      (keeps_pair (head a.number) assigned Nothing (AllByRecursion IsSpelledAssignment) (keeps_nothing (head a.number)) assigned_keep)
      (λ p h. h.1)

  pub module_spelled : (x : List ℕ) (ts : List Token) (m : ModuleTree)
      → All (IsTokenOf x) ts
      → (module_text a).Is m (lexemes x ts)
      → IsSpelledModule m
  module_spelled x ts m h i = module_keeps m (lexemes x ts) (lexemes_good x ts h) i
