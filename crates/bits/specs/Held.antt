-- What is kept beside a block of memory.
use Rattle.std.specs.Prelude.{◌≡◌, ℕ, length}
use Rattle.bits.specs.declared.memory.Memory.{Memory}

-- the numbers that are kept beside a block are those of its words and of its places
pub record Counts (memory : Memory) (len room : ℕ) : Type 0 where
  pub long : len ≡ length memory.words
  pub wide : room ≡ memory.room
