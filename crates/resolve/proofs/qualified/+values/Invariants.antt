use Rattle.std.proofs.Common.{map, drop}
use Rattle.trees.specs.Values.{tree_of, member_of}
use Rattle.resolve.specs.Places.{field_places, value_places}
use Rattle.resolve.specs.Qualified.{each, qualified}
use Rattle.resolve.proofs.Turns.{Left}
use Rattle.resolve.proofs.qualified.+values.Given as goal

abbrev pub invariant-names_in_fields-loop-field : goal.invariant-names_in_fields-loop-field
invariant-names_in_fields-loop-field l = Left l.linked.program.modules l.within (each (λ m. qualified m.1) (map member_of l.fields)) (each (λ m. qualified m.1) (map member_of (drop l.field-index l.fields)))
    (each field_places l.fields) (each field_places (drop l.field-index l.fields))

abbrev pub invariant-names_in_items-loop-value : goal.invariant-names_in_items-loop-value
invariant-names_in_items-loop-value l = Left l.linked.program.modules l.within (each qualified (map tree_of l.values)) (each qualified (map tree_of (drop l.value-index l.values)))
    (each value_places l.values) (each value_places (drop l.value-index l.values))
