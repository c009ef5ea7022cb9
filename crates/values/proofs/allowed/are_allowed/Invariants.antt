use Rattle.std.proofs.Common.{take}
use Rattle.std.specs.List.{AllByRecursion}
use Rattle.asn_base.specs.declared.strings.StringKind.{StringKind}
use Rattle.trees.specs.Types.{a_restricted_string}
use Rattle.type_table.specs.Table.{simple}
use Rattle.range_ends.specs.Ends.{IsTypeOfKind}
use Rattle.values.specs.Allowing.{AllowsCode}
use Rattle.values.proofs.allowed.are_allowed.Given as goal

abbrev pub invariant-loop-octet : goal.invariant-loop-octet
invariant-loop-octet l =
    (s : StringKind) → IsTypeOfKind l.fn.bounded.program.types l.fn.ty.index (simple (a_restricted_string s)) →
    AllByRecursion (AllowsCode l.fn.bounded.program l.fn.ty.index) (take l.octet-index l.octets)
