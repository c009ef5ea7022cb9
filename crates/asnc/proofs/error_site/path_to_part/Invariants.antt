use Rattle.std.proofs.Common.{◌≡◌, [], string_bytes}
use Rattle.std.specs.Prelude.{drop}
use Rattle.asnc.specs.Unpacking.{with_parts}
use Rattle.asnc.proofs.error_site.path_to_part.Given as goal

abbrev pub invariant-loop-i : goal.invariant-loop-i
invariant-loop-i l = with_parts l.schema l.ty.index (string_bytes l.path) (drop l.i l.parts) ≡ with_parts l.schema l.fn.id.index [] l.parts
