use Rattle.std.proofs.Common.{◌≡◌, ◌≤◌, ◌++◌, drop, map}
use Rattle.asn_base.specs.Seen.{component_of}
use Rattle.asn_base.specs.proving.Firsts.{flat, in_runs}
use Rattle.asn_base.proofs.first_tags.add_runs.Given as goal

abbrev pub invariant-loop-i : goal.invariant-loop-i
invariant-loop-i l = (l.run ≤ l.i) × (l.keys.items ++ flat l.types (in_runs l.run (drop l.i (map component_of l.components))) ≡ l.fn.keys.items ++ flat l.types (in_runs 0 (map component_of l.components)))
