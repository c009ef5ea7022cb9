use Rattle.std.proofs.Common.{◌≡◌, [], string_bytes}
use Rattle.std.specs.Prelude.{drop}
use Rattle.later_versions.specs.DifferenceText.{with_members}
use Rattle.later_versions.proofs.text_of.member_path.Given as goal

abbrev pub invariant-loop-i : goal.invariant-loop-i
invariant-loop-i l =
    with_members l.schema l.ty.index (string_bytes l.path) (drop l.i l.places) ≡ with_members l.schema l.fn.id.index [] l.places
