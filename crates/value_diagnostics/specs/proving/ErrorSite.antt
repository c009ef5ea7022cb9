-- A reason with its module, name and offset, before these are copied.
use Rattle.std.specs.Prelude.{◌≡◌, ℕ}
use Rattle.trees.specs.Values.{Name}
use Rattle.value_diagnostics.specs.declared.value_diagnostic.Reason.{Reason}
use Rattle.value_diagnostics.specs.declared.value_diagnostic.ErrorSite.{ErrorSite}

pub record IsErrorSite (q : ErrorSite) (r : Reason) (M x : Name) (n : ℕ) : Type 0 where
  pub reason : q.reason ≡ r
  pub within : q.within.now ≡ M
  pub name : q.name.now ≡ x
  pub at : q.at ≡ n
