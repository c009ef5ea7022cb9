-- What a reader of lines has left.
use Rattle.std.specs.Prelude.{ℕ, List, Option, drop}
use Rattle.std.specs.Io.KnownBytes.{prepend_known}
use Rattle.input_lines.specs.declared.lines.InputLines.{InputLines}

-- the octets that are still to be taken, if they are known: those of the part that was read last, then the reader's
abbrev pub remaining_of : {R : Type 0} → (R → Option (List ℕ)) → InputLines R → Option (List ℕ)
remaining_of remaining l = prepend_known (drop l.at l.part.items) (remaining l.reader)
