use Rattle.std.proofs.Common.{◌≡◌, ◌++◌, string_bytes}
use Rattle.std.specs.List.{flat_map}
use Rattle.row_format.specs.Rows.{margin}
use Rattle.row_format.proofs.layout.with_lines.Given as goal

abbrev pub invariant-loop-line : goal.invariant-loop-line
invariant-loop-line l =
    string_bytes l.text ≡ string_bytes l.fn.text ++ flat_map (λ x. margin x.now ++ x.now) l.yielded
