use Rattle.values.specs.Allowing.{Allows, AllowsCode}
use Rattle.printed_values.proofs.Notations.{notated, SchemaLaws}
use Rattle.printed_values.proofs.law.lemma_printed_is_a_notation.Goals as goal

pub returns : goal.returns
returns c =
    let l = c.lemma_parts_are_written.ensures in
    let laws : SchemaLaws = record { items = l.items; groups = l.groups; alternatives = l.alternatives } in
    λ p s os M i v schema of h line. notated laws p (Allows p) (AllowsCode p) s schema of h line os M
