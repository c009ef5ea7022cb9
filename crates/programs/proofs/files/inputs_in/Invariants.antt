-- What is left has as many inputs as are not counted yet, or more; while few are counted, just as many.
use Rattle.std.proofs.Common.{◌+◌, ◌≤◌, ◌<◌, drop}
use Rattle.programs.specs.Jobs.{count_inputs, names}
use Rattle.programs.proofs.files.inputs_in.Given as goal

abbrev pub invariant-loop-file : goal.invariant-loop-file
invariant-loop-file l =
    (l.count + count_inputs (names (drop l.file-index l.files)) ≤ count_inputs (names l.files))
    × (l.count < 18446744073709551615 → count_inputs (names l.files) ≤ l.count + count_inputs (names (drop l.file-index l.files)))
