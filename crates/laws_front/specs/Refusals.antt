-- Why texts of modules are refused: by which layer, and that no other layer refuses them (X.680, clauses 12 to 51).
use Rattle.std.specs.Prelude.{◌≡◌, ℕ, List, Ok, Err}
use Rattle.std.specs.List.{AllZip}
use Rattle.asn_base.specs.Types.{Resolved}
use Rattle.text.specs.declared.lex_fault.LexFault.{LexFault}
use Rattle.notation.specs.declared.syntax_fault.SyntaxFault.{SyntaxFault}
use Rattle.trees.specs.declared.module.Module.{Module as ModuleSyntax}
use Rattle.names.specs.declared.fault.NameFault.{NameFault}
use Rattle.type_table.specs.FirstInList.{IsSameLocation, ReportsAlike}
use Rattle.resolve.specs.First.{IsTextOf, trees_of}
use Rattle.resolve.specs.Links.{Links}
use Rattle.resolve.specs.Program.{Program, WrittenProgram}
use Rattle.tagging.specs.FirstFault.{ReportOneRule}
use Rattle.tagging.specs.declared.fault.TagFault.{TagFault}
use Rattle.constraints.specs.First as constraints
use Rattle.constraints.specs.declared.fault.BoundFault.{BoundFault}
use Rattle.additions.specs.First as additions
use Rattle.additions.specs.declared.fault.ExtFault.{ExtFault as AdditionFault}
use Rattle.value_diagnostics.specs.declared.value_diagnostic.ValueDiagnostic.{ValueDiagnostic}
use Rattle.named_values.specs.front_end.Accepted.{AreAccepted, IsModule}
use Rattle.named_values.specs.front_end.Faults.{IsLinkedFault, IsModulesFault, IsRightCompileError}
use Rattle.named_values.specs.front_end.Layers.{layer_of_fault}
use Rattle.named_values.specs.front_end.OneReport.{ReportOneReason}
use Rattle.named_values.specs.front_end.declared.fault.CompileError.{CompileError}
use Rattle.named_values.specs.front_end.declared.fault.CompileError.TheVariants as faults
use Rattle.laws_front.specs.Calls.{IsOpenResult}

-- What the front end promises of texts of modules that are refused.
pub record AreRightlyRefused (texts : List (List ℕ)) : Type 0 where
  -- a fault that `open` returns is true, of the first layer that refuses and of the first text that it refuses
  pub refused : (e : CompileError) → IsOpenResult texts (Err e) → IsRightCompileError texts e
  -- it excludes that the texts are accepted, unless an allocation failed
  pub not_accepted : (p : Program) (e : CompileError)
      → (e ≡ faults.Memory → ⊥)
      → IsOpenResult texts (Err e)
      → AreAccepted texts p
      → ⊥
  -- a true fault excludes that `open` succeeds
  pub not_opened : (p : Program) (s : List Resolved) (e : CompileError)
      → (e ≡ faults.Memory → ⊥)
      → IsOpenResult texts (Ok (p, s))
      → IsRightCompileError texts e
      → ⊥
  -- each other true fault is in the layer of the one that is returned
  pub one_layer : (e f : CompileError)
      → (e ≡ faults.Memory → ⊥)
      → (f ≡ faults.Memory → ⊥)
      → IsOpenResult texts (Err e)
      → IsRightCompileError texts f
      → layer_of_fault f ≡ layer_of_fault e
  -- a fault of octets is the only one of octets
  pub one_of_octets : (k j : ℕ) (e f : LexFault)
      → IsOpenResult texts (Err (faults.Text k e))
      → IsRightCompileError texts (faults.Text j f)
      → (j ≡ k) × (f ≡ e)
  -- a fault of tokens is the only one of tokens
  pub one_of_tokens : (k j : ℕ) (e f : SyntaxFault)
      → IsOpenResult texts (Err (faults.Tree k e))
      → IsRightCompileError texts (faults.Tree j f)
      → (j ≡ k) × (f ≡ e)
  -- linked modules, as they are written, have at most one fault of tags: it is of one rule, module, name and offset
  pub one_of_tags : (ws : List ModuleSyntax) (w : WrittenProgram) (e f : TagFault)
      → IsTextOf ws w
      → IsLinkedFault w (faults.Tag e)
      → IsLinkedFault w (faults.Tag f)
      → ReportOneRule IsSameLocation e f
  -- the same of constraints
  pub one_of_constraints : (ws : List ModuleSyntax) (w : WrittenProgram) (e f : BoundFault)
      → Links (trees_of ws) w.program
      → IsTextOf ws w
      → IsLinkedFault w (faults.Bound e)
      → IsLinkedFault w (faults.Bound f)
      → constraints.ReportsSame e f
  -- the same of additions after markers
  pub one_of_additions : (w : WrittenProgram) (e f : AdditionFault)
      → IsLinkedFault w (faults.Additions e)
      → IsLinkedFault w (faults.Additions f)
      → additions.ReportOneAddition e f
  -- modules, as they are written, have at most one fault of names: it is of one rule, module, name and offset
  pub one_of_names : (ws : List ModuleSyntax) (e f : NameFault)
      → IsModulesFault ws (faults.Name e)
      → IsModulesFault ws (faults.Name f)
      → ReportsAlike e f
  -- the modules of texts have at most one fault of DEFAULTs: it has one reason, module, name and offset
  pub one_of_defaults : (ws : List ModuleSyntax) (w : WrittenProgram) (t u : ValueDiagnostic)
      → AllZip IsModule texts (trees_of ws)
      → Links (trees_of ws) w.program
      → IsLinkedFault w (faults.Default t)
      → IsLinkedFault w (faults.Default u)
      → ReportOneReason t u
  -- the same of value assignments
  pub one_of_values : (ws : List ModuleSyntax) (w : WrittenProgram) (t u : ValueDiagnostic)
      → AllZip IsModule texts (trees_of ws)
      → Links (trees_of ws) w.program
      → IsLinkedFault w (faults.Assigned t)
      → IsLinkedFault w (faults.Assigned u)
      → ReportOneReason t u
  -- texts have no fault of octets and one of tokens
  pub not_of_both : (k j : ℕ) (e : LexFault) (f : SyntaxFault)
      → IsRightCompileError texts (faults.Text k e)
      → IsRightCompileError texts (faults.Tree j f)
      → ⊥
