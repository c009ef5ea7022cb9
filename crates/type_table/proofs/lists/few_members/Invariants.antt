use Rattle.std.proofs.Common.{◌≡◌, ◌+◌, ◌≤◌, drop, map}
use Rattle.type_table.specs.Lists.{root_count, addition_count}
use Rattle.type_table.specs.Seen.{part_of}
use Rattle.type_table.proofs.lists.few_members.Given as goal

abbrev pub invariant-loop-component : goal.invariant-loop-component
invariant-loop-component l = record {
  root : l.counted.root + root_count (map part_of (drop l.component-index l.given)) ≡ root_count (map part_of l.given);
  more :
      l.counted.more + addition_count (map part_of (drop l.component-index l.given))
      ≡ addition_count (map part_of l.given);
  few_root : l.counted.root ≤ 256;
  few_more : l.counted.more ≤ 64;
}
