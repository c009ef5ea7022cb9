use Rattle.std.proofs.Common.{◌+◌, ◌*◌, ℕ, map, drop}
use Rattle.std.specs.Prelude.{option_map}
use Rattle.asn_base.specs.Abstract.{abstract, row_of_options, row_of_list}
use Rattle.asn_base.specs.Seen.{component_of}
use Rattle.asn_base.specs.Typed.{AreComponents, AreElements}
use Rattle.asn_base.proofs.Parts.{ComponentsFrom, ElementsFrom}
use Rattle.asn_base.proofs.few_levels.+few.Given as goal

abbrev pub decreases-has_levels : goal.decreases-has_levels
decreases-has_levels l = 4 * l.levels

abbrev pub decreases-hold_levels : goal.decreases-hold_levels
decreases-hold_levels l = 4 * l.levels + 3

abbrev pub decreases-have_levels : goal.decreases-have_levels
decreases-have_levels l = 4 * l.levels + 2

abbrev pub decreases-component_has_levels : goal.decreases-component_has_levels
decreases-component_has_levels l = 4 * l.levels + 1

abbrev pub decreases-elements_have_levels : goal.decreases-elements_have_levels
decreases-elements_have_levels l = 4 * l.levels + 1

abbrev pub invariant-have_levels-loop-i : goal.invariant-have_levels-loop-i
invariant-have_levels-loop-i l = ComponentsFrom l.types l.levels (map component_of l.components) (map (option_map abstract) l.values) l.i
    × ((m : ℕ) × AreComponents l.types m (drop l.i (map component_of l.components)) (row_of_options (drop l.i (map (option_map abstract) l.values))))

abbrev pub invariant-elements_have_levels-loop-i : goal.invariant-elements_have_levels-loop-i
invariant-elements_have_levels-loop-i l = ElementsFrom l.types l.levels l.element.index (map abstract l.values) l.i
    × ((m : ℕ) × AreElements l.types m l.element.index (row_of_list (drop l.i (map abstract l.values))))
