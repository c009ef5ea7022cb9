use Rattle.std.proofs.Common.{◌≡◌, arith, length, map, sym, ◌∙◌}
use Rattle.trees.specs.Types.{bit_of}
use Rattle.asn_base.specs.Seen.{named_bit_of}
use Rattle.extensions.proofs.CoreKinds.{bits_core, named_core}
use Rattle.extensions.proofs.Whole.{none_mapped, some_mapped}
use Rattle.extensions.proofs.simple.bit_string.Goals as goal

pub returns-in-Ok : goal.returns-in-Ok
returns-in-Ok c M =
    let none : length c.args.bits.now ≡ 0 = grind (arith, c.is_empty.ensures, c.if-is_empty.true) in
    bits_core c.args.bounded.now.program c.args.ty.index M (map bit_of c.args.bits.now) _
    (none_mapped bit_of c.args.bits.now none)
    c.requires.is (c.in-Ok.ensures _ c.requires.is)

pub returns-in-Ok-named_bits : goal.returns-in-Ok-named_bits
returns-in-Ok-named_bits c M =
    named_core c.args.bounded.now.program c.args.ty.index M (map bit_of c.args.bits.now) (map named_bit_of c.in-Ok-named_bits.named.items)
    (some_mapped bit_of c.args.bits.now (sym c.if-is_empty.false ∙ c.is_empty.ensures))
    c.in-Ok-named_bits.ensures
