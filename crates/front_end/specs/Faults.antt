-- Why texts aren't accepted (X.680, clauses 12 to 51): which fault is true, the first one in reading order. Each text
-- is read in turn, its octets and then its tokens. After all texts come names, tags and constraints, and last
-- additions, DEFAULTs and value assignments. These are faults of the modules as they are written, with their offsets.
use Rattle.std.specs.Prelude.{◌≡◌, ◌<◌, ℕ, List, Some, slice_get}
use Rattle.std.specs.List.{AllZip}
use Rattle.text.specs.declared.lex_fault.LexFault.{LexFault}
use Rattle.text.specs.declared.lex_fault.LexFault.TheVariants as lexing
use Rattle.text.specs.declared.token.Token.{Token}
use Rattle.text.specs.Text as texts
use Rattle.grammar.specs.Lexeme.{lexemes}
use Rattle.grammar.specs.Places.{bounded}
use Rattle.parser_combinators.specs.Given.{IsLexed}
use Rattle.notation.specs.Answer as answers
use Rattle.notation.specs.declared.syntax_fault.SyntaxFault.{SyntaxFault}
use Rattle.notation.specs.declared.syntax_fault.SyntaxFault.TheVariants as parsing
use Rattle.trees.specs.Modules.{ModuleTree}
use Rattle.trees.specs.declared.module.Module.{Module as ModuleSyntax}
use Rattle.syntax.specs.Syntax.{module_text}
use Rattle.names.specs.declared.fault.NameFault.TheVariants as linking
use Rattle.resolve.specs.First.{IsFirstOfWritten, IsTextOf, trees_of}
use Rattle.resolve.specs.Links.{Links, IsLinkFault}
use Rattle.resolve.specs.Program.{Program, WrittenProgram}
use Rattle.tagging.specs.Faults as tagging
use Rattle.tagging.specs.FirstFault as first_tags
use Rattle.tagging.specs.Tagged.{IsTagged}
use Rattle.tagging.specs.declared.fault.TagFault.TheVariants as tags
use Rattle.constraints.specs.Bounded.{AreBounded}
use Rattle.constraints.specs.Faults as bounding
use Rattle.constraints.specs.First as first_bounds
use Rattle.constraints.specs.declared.fault.BoundFault.TheVariants as bounds
use Rattle.value_diagnostics.specs.typed_values.declared.fault.ValueFault.{ValueFault}
use Rattle.extensions.specs.Faults as settling
use Rattle.extensions.specs.declared.fault.ExtFault.TheVariants as settled
use Rattle.value_diagnostics.specs.Diagnosed.{IsDiagnostic}
use Rattle.value_diagnostics.specs.declared.value_diagnostic.ValueDiagnostic.{ValueDiagnostic}
use Rattle.front_end.specs.Accepted.{IsModule}
use Rattle.front_end.specs.declared.fault.CompileError.{CompileError}
use Rattle.front_end.specs.declared.fault.CompileError.TheVariants as faults

-- ---- texts

-- the text has no tokens, for the reason that the fault gives
pub record HasNoTokens (x : List ℕ) (f : LexFault) : Type 0 where
  pub no_memory : f ≡ lexing.Memory → ⊥
  pub is_so : texts.IsRightTextFault x f

-- the text has tokens, and they aren't a module, for the reason that the fault gives
pub record IsNoModule (x : List ℕ) (f : SyntaxFault) : Type 0 where
  pub no_memory : f ≡ parsing.Memory → ⊥
  pub tokens : List Token
  pub lexed : IsLexed x tokens
  pub is_so : answers.IsRightNotationFault module_text (lexemes x tokens) 0 (bounded 128) f

-- P holds of text k, and the texts before it are modules
pub record IsFirstRefused (xs : List (List ℕ)) (k : ℕ) (P : List ℕ → Type 0) : Type 0 where
  pub text : List ℕ
  pub there : slice_get xs k ≡ Some text
  pub is_so : P text
  pub before : (i : ℕ) (y : List ℕ) → i < k → slice_get xs i ≡ Some y → (m : ModuleTree) × IsModule y m

-- ---- linked modules

-- what is reported for a fault of a value for which P holds
pub record Reports (p : Program) (P : ValueFault → Type 0) (t : ValueDiagnostic) : Type 0 where
  pub fault : ValueFault
  pub is_so : P fault
  pub diagnostic : IsDiagnostic p fault t

-- The fault is the first one of linked modules, with its offset in their text: of their tags; otherwise of their
-- constraints; otherwise of an addition, of a DEFAULT, or of a value assignment. `Memory` says nothing.
abbrev pub IsLinkedFault : WrittenProgram → CompileError → Type 0
IsLinkedFault w faults.Memory = Unit {0}
IsLinkedFault w (faults.Tag f) =
    (f ≡ tags.Memory → ⊥)
    × tagging.IsRightTagFault w.program f
    × first_tags.IsFirstTagFault w.program w.types f
IsLinkedFault w (faults.Bound f) =
    IsTagged w.program.types
    × (f ≡ bounds.Memory → ⊥)
    × bounding.IsRightFault w.program f
    × first_bounds.IsFirst w.program w.types w.assignments f
IsLinkedFault w (faults.Additions f) =
    IsTagged w.program.types
    × AreBounded w.program
    × settling.IsRightExtensionFault w (settled.Additions f)
IsLinkedFault w (faults.Default t) =
    IsTagged w.program.types
    × AreBounded w.program
    × Reports w.program (λ f. settling.IsRightExtensionFault w (settled.Default f)) t
IsLinkedFault w (faults.Assigned t) =
    IsTagged w.program.types
    × AreBounded w.program
    × Reports w.program (λ f. settling.IsRightExtensionFault w (settled.Assigned f)) t
IsLinkedFault w fault = ⊥

-- ---- modules

-- the modules, which are given as they are written, are linked, and P holds of their program with its text
pub record HaveProgram (ws : List ModuleSyntax) (P : WrittenProgram → Type 0) : Type 0 where
  pub program : WrittenProgram
  pub links : Links (trees_of ws) program.program
  pub text : IsTextOf ws program
  pub such : P program

-- The fault is the first one of modules, which are given as they are written, with its offset there: of their names, or
-- otherwise of the linked modules. `Memory` says nothing.
abbrev pub IsModulesFault : List ModuleSyntax → CompileError → Type 0
IsModulesFault ws faults.Memory = Unit {0}
IsModulesFault ws (faults.Text k f) = ⊥
IsModulesFault ws (faults.Tree k f) = ⊥
IsModulesFault ws (faults.Name f) =
    (f ≡ linking.Memory → ⊥) × IsLinkFault (trees_of ws) f × IsFirstOfWritten ws f
IsModulesFault ws fault = HaveProgram ws (λ w. IsLinkedFault w fault)

-- each text is a module, and the fault is true of the modules
pub record AreNoProgram (xs : List (List ℕ)) (fault : CompileError) : Type 0 where
  pub modules : List ModuleSyntax
  pub are : AllZip IsModule xs (trees_of modules)
  pub is_so : IsModulesFault modules fault

-- ---- all together

-- The fault is true: of the first text that isn't a module, or otherwise of the modules. `Memory` says nothing of
-- texts.
abbrev pub IsRightCompileError : List (List ℕ) → CompileError → Type 0
IsRightCompileError xs faults.Memory = Unit {0}
IsRightCompileError xs (faults.Text k f) = IsFirstRefused xs k (λ x. HasNoTokens x f)
IsRightCompileError xs (faults.Tree k f) = IsFirstRefused xs k (λ x. IsNoModule x f)
IsRightCompileError xs fault = AreNoProgram xs fault
