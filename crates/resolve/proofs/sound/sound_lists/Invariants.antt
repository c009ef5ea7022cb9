use Rattle.std.proofs.Common.{ℕ, ◌<◌}
use Rattle.resolve.proofs.Exclusion.{SoundAt}
use Rattle.resolve.proofs.sound.sound_lists.Given as goal

abbrev pub invariant-loop-index : goal.invariant-loop-index
invariant-loop-index l = (k : ℕ) → k < l.index → SoundAt l.linked.program k
