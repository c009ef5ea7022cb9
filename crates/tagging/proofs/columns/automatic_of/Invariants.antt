use Rattle.std.proofs.Common.{◌≡◌, take}
use Rattle.type_table.specs.Seen.{types_of}
use Rattle.tagging.specs.proving.Columns.{all_automatic}
use Rattle.tagging.proofs.columns.automatic_of.Given as goal

abbrev pub invariant-loop-ty : goal.invariant-loop-ty
invariant-loop-ty l = l.automatic.items ≡ take l.ty (all_automatic (types_of l.types))
