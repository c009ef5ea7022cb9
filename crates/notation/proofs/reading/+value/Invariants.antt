use Rattle.std.proofs.Common.{◌+◌, ◌*◌}
use Rattle.notation.proofs.reading.+value.Given as goal

-- from a value of depth n + 1 five calls lead to one of depth n
abbrev pub decreases-alternative : goal.decreases-alternative
decreases-alternative l = 5 * l.depth

abbrev pub decreases-step : goal.decreases-step
decreases-step l = 5 * l.depth + 1

abbrev pub decreases-value : goal.decreases-value
decreases-value l = 5 * l.depth + 2

abbrev pub decreases-listed-fn_parser : goal.decreases-listed-fn_parser
decreases-listed-fn_parser l = 5 * l.depth + 3

abbrev pub decreases-listed : goal.decreases-listed
decreases-listed l = 5 * l.depth + 4

abbrev pub decreases-braced : goal.decreases-braced
decreases-braced l = 5 * l.depth + 5
