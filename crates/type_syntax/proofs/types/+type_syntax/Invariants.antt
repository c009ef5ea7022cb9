use Rattle.std.proofs.Common.{◌+◌, ◌*◌}
use Rattle.type_syntax.proofs.types.+type_syntax.Given as goal

-- from a type of depth n + 1 at most nine calls lead to one of depth n
abbrev pub decreases-choice : goal.decreases-choice
decreases-choice l = 10 * l.depth + 1

abbrev pub decreases-choice_braces : goal.decreases-choice_braces
decreases-choice_braces l = 10 * l.depth + 0

abbrev pub decreases-one_type : goal.decreases-one_type
decreases-one_type l = 10 * l.depth + 2

abbrev pub decreases-plain : goal.decreases-plain
decreases-plain l = 10 * l.depth + 3

abbrev pub decreases-tagged : goal.decreases-tagged
decreases-tagged l = 10 * l.depth + 0

abbrev pub decreases-after_keyword : goal.decreases-after_keyword
decreases-after_keyword l = 10 * l.depth + 3

abbrev pub decreases-structure : goal.decreases-structure
decreases-structure l = 10 * l.depth + 2

abbrev pub decreases-body : goal.decreases-body
decreases-body l = 10 * l.depth + 1

abbrev pub decreases-list_braces : goal.decreases-list_braces
decreases-list_braces l = 10 * l.depth + 0

abbrev pub decreases-list : goal.decreases-list
decreases-list l = 10 * l.depth + 2

abbrev pub decreases-element_type : goal.decreases-element_type
decreases-element_type l = 10 * l.depth + 1

abbrev pub decreases-step : goal.decreases-step
decreases-step l = 10 * l.depth + 4

abbrev pub decreases-type_syntax : goal.decreases-type_syntax
decreases-type_syntax l = 10 * l.depth + 5

abbrev pub decreases-inside_tag : goal.decreases-inside_tag
decreases-inside_tag l = 10 * l.depth + 6

abbrev pub decreases-alternative_type : goal.decreases-alternative_type
decreases-alternative_type l = 10 * l.depth + 6

abbrev pub decreases-component : goal.decreases-component
decreases-component l = 10 * l.depth + 6

abbrev pub decreases-inside_choice-fn_parser : goal.decreases-inside_choice-fn_parser
decreases-inside_choice-fn_parser l = 10 * l.depth + 7

abbrev pub decreases-inside_list-fn_parser : goal.decreases-inside_list-fn_parser
decreases-inside_list-fn_parser l = 10 * l.depth + 7

abbrev pub decreases-inside_choice : goal.decreases-inside_choice
decreases-inside_choice l = 10 * l.depth + 8

abbrev pub decreases-inside_list : goal.decreases-inside_list
decreases-inside_list l = 10 * l.depth + 8
