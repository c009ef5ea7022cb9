use Rattle.std.proofs.Common.{take}
use Rattle.names.specs.proving.Tabled.{IsTableOf}
use Rattle.names.proofs.exports.fill.Given as goal

abbrev pub invariant-loop-name : goal.invariant-loop-name
invariant-loop-name l = IsTableOf (take l.name-index l.names) l.table
