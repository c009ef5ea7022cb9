use Rattle.std.proofs.Common.{◌∙◌, ap, sym, option_map}
use Rattle.asn_base.specs.Abstract.{bits_of}
use Rattle.trees.specs.Values.{tree_of}
use Rattle.type_table.specs.Seen.{kind_of}
use Rattle.resolve.specs.Listed.{bits_listed}
use Rattle.value_notations.proofs.BitForms.{binary_bits}
use Rattle.value_notations.proofs.bit_strings.bits_in.Goals as goal

pub returns-in-Ok-clause-ok : goal.returns-in-Ok-clause-ok
returns-in-Ok-clause-ok c =
    binary_bits (bits_listed (kind_of c.args.shape.now)) (tree_of c.args.notation.now) c.in-Some.digits.now (bits_of c.in-Ok.string)
    (sym c.binary_in.ensures ∙ ap (option_map (λ d. d.now)) c.in-Some.is)
    (c.are_below.ensures.below c.if-not-are_below.false) c.in-Ok.ensures
