-- What faults of extension additions mean (X.680, clauses 20, 25, 27 and 29), for bounded modules as they are written.
-- Names are lists of octets.
use Rattle.resolve.specs.Program.{WrittenProgram}
use Rattle.additions.specs.First.{IsFirstAdditionAt}
use Rattle.additions.specs.declared.check.Rule.TheVariants as rules
use Rattle.additions.specs.declared.fault.ExtFault.{ExtFault}
use Rattle.additions.specs.declared.fault.ExtFault.TheVariants.{Memory, MarkerPlace, AdditionOrder, DefaultAddition}

-- The fault is the first one of these modules, by the numbers of their types. It has the module, the name of the
-- assignment, and the offset in the modules' text. `Memory` says nothing.
abbrev pub IsRightAdditionsFault : WrittenProgram → ExtFault → Type 0
IsRightAdditionsFault w Memory = Unit {0}
IsRightAdditionsFault w (MarkerPlace s) = IsFirstAdditionAt w rules.MarkerPlace s
IsRightAdditionsFault w (AdditionOrder s) = IsFirstAdditionAt w rules.AdditionOrder s
IsRightAdditionsFault w (DefaultAddition s) = IsFirstAdditionAt w rules.DefaultAddition s
