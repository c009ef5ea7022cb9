-- The octets that a sink has taken.
use Rattle.std.specs.Prelude.{◌≡◌, ℕ, ◌+◌, ◌<◌, List, length, take, Option}
use Rattle.std.specs.Io.KnownBytes.{Appends}

-- the octets that a sink has taken, if they are known, and how many calls failed
pub record SinkState : Type 0 where
  pub taken : Option (List ℕ)
  pub failed : ℕ

abbrev pub state : Option (List ℕ) → ℕ → SinkState
state t n = record { taken = t; failed = n }

-- the sink has taken exactly these octets, and no call failed
pub record SentAll (a b : SinkState) (o : List ℕ) : Type 0 where
  pub taken : Appends a.taken b.taken o
  pub none_failed : b.failed ≡ a.failed

-- the sink has taken exactly the first n of these octets, not all, and one call failed
pub record SentFront (a b : SinkState) (o : List ℕ) (n : ℕ) : Type 0 where
  pub fewer : n < length o
  pub taken : Appends a.taken b.taken (take n o)
  pub one_failed : b.failed ≡ a.failed + 1
