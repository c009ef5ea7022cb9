use Rattle.std.proofs.Common.{rules, ap, subst, ◌∙◌}
use mir.Syntax.{w128}
use mir.Val.{SFits}
use Rattle.std.proofs.lemmas.Int.{to_z-of_z}
use Rattle.encodings.specs.Contents.{Number}
use Rattle.asn_base.specs.Abstract.{abstract}
use Rattle.primitive_writer.specs.Pieces.{short_octets}
use Rattle.primitive_writer.proofs.Contents.{has_enumerated}
use Rattle.primitive_writer.proofs.leaf.short_enumerated.Goals as goal

pub returns-in-Some : goal.returns-in-Some
returns-in-Some c =
    let f : SFits w128 c.in-Enum.number = search rules in
    has_enumerated (ap abstract c.in-Enum.is ∙ c.lemma_abstract_values.ensures.enum_ c.in-Enum.number) (subst (λ z. Number z (short_octets c.in-Some.octets)) (to_z-of_z w128 c.in-Enum.number f) c.in-Some.ensures)
