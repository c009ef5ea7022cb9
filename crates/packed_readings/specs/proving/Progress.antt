-- What was read so far.
use Rattle.std.specs.Prelude.{◌≡◌, ℕ, ◌+◌, ◌≤◌, List, ◌++◌}
use Rattle.bits.specs.Words.{low_bits}
use Rattle.packed_encodings.specs.Lengths.{Bits}
use Rattle.packed_readings.specs.declared.refusal.PackedFault.{PackedFault}
use Rattle.packed_readings.specs.Outcome.{Outcome, found, onward, each_from, IsFault}

-- i items, which f reads one after the other, were added to a list
pub record Added {X : Type 0} (f : Bits → Outcome X) (i : ℕ) (first : Bits) (old new : List X) (left : Bits) : Type 0
  where
    pub values : List X
    pub joined : new ≡ old ++ values
    pub goes_on : (m : ℕ) → each_from f (i + m) first ≡ onward (each_from f m left) (λ ys s. found (values ++ ys) s)

-- one of the first i items is at fault, so no list of i items or more is read
abbrev pub Faults : {X : Type 0} → (Bits → Outcome X) → ℕ → (first : Bits) → PackedFault → (rest : Bits) → Type 0
Faults f i first e rest = (n : ℕ) → i ≤ n → IsFault (each_from f n first) e rest

-- the bits start with the low w bits of a number
pub record Starts (w n : ℕ) (b : Bits) : Type 0 where
  pub rest : Bits
  pub is : b ≡ low_bits w n ++ rest
