use Rattle.std.proofs.Common.{◌≡◌, ◌++◌, map, drop}
use Rattle.asn_base.specs.Seen.{component_of}
use Rattle.codec_code.specs.Routines.{fields_from}
use Rattle.codec_code.proofs.routine.push_fields.Given as goal

abbrev pub invariant-loop-i : goal.invariant-loop-i
invariant-loop-i l =
    l.out.items ++ fields_from l.i (map component_of (drop l.i l.components))
    ≡ l.fn.out.items ++ fields_from 0 (map component_of l.components)
