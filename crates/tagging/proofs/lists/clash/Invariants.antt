use Rattle.std.specs.Prelude.{map}
use Rattle.type_table.specs.Seen.{part_of}
use Rattle.std.proofs.Common.{List, ℕ}
use Rattle.type_table.specs.Table.{Type'}
use Rattle.tagging.specs.proving.Lists.{Collected, tag_lists, IsClear, Meets}
use Rattle.tagging.proofs.lists.clash.Given as goal

abbrev pub invariant-loop-place : goal.invariant-loop-place
invariant-loop-place l = record {
  meets : Meets l.kind (map part_of l.members) (tag_lists l.firsts) l.place l.seen.keys;
  clear : (ts : List Type') → Collected ts (map part_of l.members) (tag_lists l.firsts) → (p : ℕ) →
      IsClear ts l.kind (map part_of l.members) p l.place;
}
