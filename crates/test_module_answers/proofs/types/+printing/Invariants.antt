use Rattle.std.proofs.Common.{◌+◌, ◌*◌}
use Rattle.test_module_answers.proofs.types.+printing.Given as goal

abbrev pub decreases-put_nested : goal.decreases-put_nested
decreases-put_nested l = 4 * l.printing.levels

abbrev pub decreases-put_core : goal.decreases-put_core
decreases-put_core l = 4 * l.printing.levels + 3

abbrev pub decreases-put_alternatives : goal.decreases-put_alternatives
decreases-put_alternatives l = 4 * l.printing.levels + 2

abbrev pub decreases-put_components : goal.decreases-put_components
decreases-put_components l = 4 * l.printing.levels + 1

abbrev pub decreases-put_some_alternatives : goal.decreases-put_some_alternatives
decreases-put_some_alternatives l = 4 * l.printing.levels + 1
