-- When two reports of faults of values say the same to a user.
use Rattle.std.specs.Prelude.{◌≡◌}
use Rattle.type_table.specs.FirstInList.{IsSameLocation}
use Rattle.value_diagnostics.specs.declared.value_diagnostic.ValueDiagnostic.{ValueDiagnostic}

-- the reports have one reason, and one module, name and offset
pub record ReportOneReason (t u : ValueDiagnostic) : Type 0 where
  pub reason : t.reason ≡ u.reason
  pub location : IsSameLocation t.source_location u.source_location
