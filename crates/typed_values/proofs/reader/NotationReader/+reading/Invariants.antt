use Rattle.std.proofs.Common.{◌≡◌, ◌+◌, ◌*◌, map, take}
use Rattle.trees.specs.Values.{member_of, tree_of}
use Rattle.type_table.specs.Seen.{part_of}
use Rattle.typed_values.specs.proving.Reading.{GoesOn, MakeFields, MakeRow, Returns}
use Rattle.typed_values.proofs.reader.NotationReader.+reading.Given as goal

-- from a notation at one level at most fifteen calls lead to one at the next
abbrev pub decreases-read : goal.decreases-read
decreases-read g l = 16 * l.levels + 5

abbrev pub decreases-read_now : goal.decreases-read_now
decreases-read_now g l = 16 * l.levels + 1

abbrev pub decreases-read_itself : goal.decreases-read_itself
decreases-read_itself g l = 16 * l.levels + 2

abbrev pub decreases-judge_last : goal.decreases-judge_last
decreases-judge_last g l = 16 * l.levels + 3

abbrev pub decreases-foresee : goal.decreases-foresee
decreases-foresee g l = 16 * l.levels + 4

abbrev pub decreases-led : goal.decreases-led
decreases-led g l = 16 * l.levels

abbrev pub decreases-value_of : goal.decreases-value_of
decreases-value_of g l = 16 * l.followed.now.levels + 12

abbrev pub decreases-list : goal.decreases-list
decreases-list g l = 16 * l.followed.now.levels + 11

abbrev pub decreases-all : goal.decreases-all
decreases-all g l = 16 * l.followed.now.levels + 10

abbrev pub decreases-chosen : goal.decreases-chosen
decreases-chosen g l = 16 * l.followed.now.levels + 11

abbrev pub decreases-fields : goal.decreases-fields
decreases-fields g l = 16 * l.followed.now.levels + 11

abbrev pub decreases-all_fields : goal.decreases-all_fields
decreases-all_fields g l = 16 * l.followed.now.levels + 10

abbrev pub decreases-field : goal.decreases-field
decreases-field g l = 16 * l.followed.now.levels + 9

abbrev pub decreases-whole_default : goal.decreases-whole_default
decreases-whole_default g l = 16 * l.levels + 7

abbrev pub decreases-read_default : goal.decreases-read_default
decreases-read_default g l = 16 * l.levels + 6

abbrev pub invariant-all-loop-i : goal.invariant-all-loop-i
invariant-all-loop-i g l = record {
  read : MakeRow g.O.Outcome.shows l.fn.self.bounded.now.program l.followed.levels l.fn.self.left l.self.left l.fn.self.opened.now
      l.followed.within.now l.element.index (map tree_of (take l.i l.notations))
      l.self.defaults.now l.values.items;
  returns : Returns l.fn.self l.self;
  ready : GoesOn l.fn.self l.self;
  same_table : l.self.defaults.ghost_name ≡ l.fn.self.defaults.ghost_name;
}

abbrev pub invariant-all_fields-loop-i : goal.invariant-all_fields-loop-i
invariant-all_fields-loop-i g l = record {
  read : MakeFields g.O.Outcome.shows l.fn.self.bounded.now.program l.followed.levels l.fn.self.left l.self.left l.fn.self.opened.now
      l.followed.within.now l.followed.home.now (map member_of l.given) (map part_of (take l.i l.components))
      l.self.defaults.now l.values.items;
  returns : Returns l.fn.self l.self;
  ready : GoesOn l.fn.self l.self;
  same_table : l.self.defaults.ghost_name ≡ l.fn.self.defaults.ghost_name;
}
