use Rattle.std.proofs.Common.{◌≡◌, ◌++◌, drop}
use Rattle.asn_base.specs.Abstract.{abstract}
use Rattle.packed_code.specs.Meaning.{addition_map, members_of}
use Rattle.packed_writer.proofs.fields.push_addition_map.Given as goal

abbrev pub invariant-loop-i : goal.invariant-loop-i
invariant-loop-i l =
    l.out ++ addition_map (members_of l.code l.typed.id.index (abstract l.typed.value.now)) (drop l.i l.steps)
    ≡ l.fn.out ++ addition_map (members_of l.code l.typed.id.index (abstract l.typed.value.now)) l.steps
