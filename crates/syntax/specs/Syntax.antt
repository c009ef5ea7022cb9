-- The grammar of assignments and modules (X.680, clauses 13 and 16).
use Rattle.std.specs.Prelude.{ℕ, Bool, List}
use Rattle.text.specs.declared.token.Mark.TheVariants.{Assign}
use Rattle.text.specs.declared.reserved.Word.TheVariants.{End}
use Rattle.grammar.specs.Lexeme.{TypeRef, Ident, Mark}
use Rattle.grammar.specs.Grammar.{Grammar, token, word, ◌∙◌, ◌∣◌, ◌⇒◌, many, preceded}
use Rattle.grammar.specs.Places.{Limited}
use Rattle.notation.specs.Value.{value}
use Rattle.type_syntax.specs.TypeGrammar.{type}
use Rattle.trees.specs.Modules.{AssignmentTree, assigns_type, assigns_value, ModuleTree}
use Rattle.module_head.specs.Heading.{HeadTree, head}

-- a module from its head and its assignments
abbrev pub module_tree : HeadTree → List AssignmentTree → ModuleTree
module_tree h xs = record {
  name = h.name;
  tag_default = h.tag_default;
  exports = h.exports;
  imports = h.imports;
  assignments = xs;
}

-- An assignment of a type or of a value, in which n more parts may be open (X.680, clause 16). A limit on numbers, or
-- on the numbers of tags, is a test that these must pass.
abbrev pub assignment : (ℕ → Bool) → (ℕ → Bool) → ℕ → Grammar AssignmentTree
assignment fits tags n =
    (token TypeRef ∙ preceded (Mark Assign) (type fits tags n)) ⇒ (λ p. assigns_type p.0 p.1)
    ∣ (token Ident ∙ (type fits tags n ∙ preceded (Mark Assign) (value fits n)))
    ⇒ (λ p. assigns_value p.0 p.1.0 p.1.1)

-- A module within limits (X.680, clause 13). The limit on nesting must allow at least one open brace: that of an object
-- identifier in the head, inside which nothing else is open.
abbrev pub module_text : Limited ModuleTree
module_text a =
    (head a.number ∙ ((many (assignment a.number a.tag a.nesting) ∙ word End) ⇒ (λ p. p.0)))
    ⇒ (λ p. module_tree p.0 p.1)
