use Rattle.std.proofs.Common.{◌≡◌, ◌++◌, drop}
use Rattle.asn_base.specs.Abstract.{abstract}
use Rattle.packed_code.specs.Meaning.{map_bits, members_of}
use Rattle.packed_writer.specs.proving.Values.{fields_in}
use Rattle.packed_writer.proofs.fields.push_map.Given as goal

abbrev pub invariant-loop-i : goal.invariant-loop-i
invariant-loop-i l =
    l.out ++ map_bits (members_of l.code l.typed.id.index (abstract l.typed.value.now)) (fields_in (drop l.i l.steps))
    ≡ l.fn.out ++ map_bits (members_of l.code l.typed.id.index (abstract l.typed.value.now)) (fields_in l.steps)
