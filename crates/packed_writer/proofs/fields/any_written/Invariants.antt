use Rattle.std.proofs.Common.{◌≡◌, drop}
use Rattle.asn_base.specs.Abstract.{abstract}
use Rattle.packed_code.specs.Meaning.{any_written, members_of}
use Rattle.packed_writer.specs.proving.Values.{fields_in}
use Rattle.packed_writer.proofs.fields.any_written.Given as goal

abbrev pub invariant-loop-i : goal.invariant-loop-i
invariant-loop-i l =
    any_written (members_of l.code l.typed.id.index (abstract l.typed.value.now)) (fields_in l.steps)
    ≡ any_written (members_of l.code l.typed.id.index (abstract l.typed.value.now)) (fields_in (drop l.i l.steps))
