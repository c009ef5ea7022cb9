use Rattle.std.proofs.Common.{◌≡◌, ◌≤◌, ◌-◌, length}
use Rattle.range_ends.specs.proving.Keys.{key_between, texts}
use Rattle.range_ends.proofs.keys.key_of.Given as goal

abbrev pub invariant-loop-round : goal.invariant-loop-round
invariant-loop-round l = record {
  inside : l.high ≤ length l.names;
  same : key_between (length (texts l.names) - l.round) (texts l.names) l.name l.low l.high
      ≡ key_between (length (texts l.names)) (texts l.names) l.name 0 (length (texts l.names));
}
