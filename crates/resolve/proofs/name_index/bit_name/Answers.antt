use Rattle.std.proofs.Common.{ap, sym, ◌∙◌, arith, Some}
use Rattle.trees.specs.Values.{name_at}
use Rattle.trees.specs.Types.{bit_of}
use Rattle.trees.specs.declared.types.NamedBit.{NamedBit}
use Rattle.resolve.proofs.ListedNames.{name_here, no_name}
use Rattle.resolve.proofs.name_index.bit_name.Goals as goal

pub returns-then-place-bits : goal.returns-then-place-bits
returns-then-place-bits c =
    let r = c.index-bits-place.result in
    ap Some c.as_str.ensures.value ∙ ap (λ (z : NamedBit). Some (name_at z.name)) (sym c.index-bits-place.is)
    ∙ sym (name_here bit_of (λ e. e.0) c.args.bits.now c.args.place r (omega (arith, c.if-place-bits.true)) c.index-bits-place.is)

pub returns-else-place-bits : goal.returns-else-place-bits
returns-else-place-bits c =
    sym (no_name bit_of (λ e. e.0) c.args.bits.now c.args.place (omega (arith, c.if-place-bits.false)))
