use Rattle.std.proofs.Common.{◌≡◌, string_bytes}
use Rattle.std.specs.Prelude.{drop}
use Rattle.asnc.specs.ErrorSites.{with_opens, path_of}
use Rattle.asnc.proofs.error_site.path_to.Given as goal

abbrev pub invariant-loop-i : goal.invariant-loop-i
invariant-loop-i l = with_opens l.schema (string_bytes l.path) (drop l.i l.values) ≡ path_of l.schema l.values
