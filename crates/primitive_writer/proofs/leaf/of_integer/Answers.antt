use Rattle.std.proofs.Common.{rules, ap, subst, ◌∙◌}
use mir.Syntax.{w128}
use mir.Val.{SFits}
use Rattle.std.proofs.lemmas.Int.{to_z-of_z}
use Rattle.encodings.specs.Contents.{Number}
use Rattle.asn_base.specs.Abstract.{abstract}
use Rattle.primitive_writer.specs.Pieces.{joined_pieces}
use Rattle.primitive_writer.proofs.Contents.{has_integer}
use Rattle.primitive_writer.proofs.leaf.of_integer.Goals as goal

pub returns-in-Int : goal.returns-in-Int
returns-in-Int c =
    let f : SFits w128 c.in-Int.number = search rules in
    has_integer (ap abstract c.in-Int.is ∙ c.lemma_abstract_values.ensures.int c.in-Int.number) (subst (λ z. Number z (joined_pieces c.number_pieces.result)) (to_z-of_z w128 c.in-Int.number f) c.number_pieces.ensures)
