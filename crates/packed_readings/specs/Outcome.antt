-- What is read from the start of some bits.
use Rattle.std.specs.Prelude.{◌≡◌, ℕ, zero, suc, ◌^◌, ◌<◌, nat_lt, Bool, false, if◌then◌else◌, List, [], ◌∷◌, ◌++◌}
use Rattle.std.specs.Prelude.{length, take, drop, Result, Ok, Err}
use Rattle.bits.specs.Words.{low_bits}
use Rattle.packed_encodings.specs.Lengths.{Bits, worth}
use Rattle.packed_readings.specs.declared.refusal.PackedFault.{PackedFault}
use Rattle.packed_readings.specs.declared.refusal.PackedFault.TheVariants.{Memory, Refused}
use Rattle.decode_faults.specs.declared.refusal.Refusal.{Refusal}
use Rattle.decode_faults.specs.declared.refusal.Refusal.TheVariants.{Truncated}

-- what is found at the start, and the bits after it; or the first fault, and the bits from its place on
pub data Outcome (X : Type 0) : Type 0 where
  found : X → (rest : Bits) → Outcome X
  stops : Refusal → (rest : Bits) → Outcome X

-- what a call returns, with the bits that are left after it
abbrev pub outcome : {X : Type 0} → Result X Refusal → (rest : Bits) → Outcome X
outcome (Ok v) r = found v r
outcome (Err e) r = stops e r

abbrev pub outcome_by : {X Y : Type 0} → (X → Y) → Result X Refusal → (rest : Bits) → Outcome Y
outcome_by h (Ok v) r = found (h v) r
outcome_by h (Err e) r = stops e r

-- a call's fault: that of the bits, with the bits that are left after it; or memory that ran out
abbrev pub IsFault : {X : Type 0} → Outcome X → PackedFault → (rest : Bits) → Type 0
IsFault o Memory r = Unit {0}
IsFault o (Refused e) r = o ≡ stops e r

-- what is read after what was found
abbrev pub onward : {X Y : Type 0} → Outcome X → (X → Bits → Outcome Y) → Outcome Y
onward (found v r) g = g v r
onward (stops e r) g = stops e r

-- the value that was read, or why it is refused
pub data Judged (X : Type 0) : Type 0 where
  good : X → Judged X
  bad : Refusal → Judged X

abbrev pub and_then : {X Y : Type 0} → Judged X → (X → Judged Y) → Judged Y
and_then (good v) j = j v
and_then (bad e) j = bad e

abbrev pub verdict : {X : Type 0} → Judged X → (at rest : Bits) → Outcome X
verdict (good v) at rest = found v rest
verdict (bad e) at rest = stops e at

-- what is read and then checked; the place of a fault is where the reading begins
abbrev pub judging : {X Y : Type 0} → (X → Judged Y) → (Bits → Outcome X) → Bits → Outcome Y
judging j f b = onward (f b) (λ v r. verdict (j v) b r)

-- ---- bits and numbers

abbrev pub bit_from : Bits → Outcome Bool
bit_from [] = stops Truncated []
bit_from (x ∷ r) = found x r

-- the next n bits, as h sees them
abbrev pub block_from : {X : Type 0} → ℕ → (Bits → X) → Bits → Outcome X
block_from n h b = if nat_lt (length b) n then stops Truncated b else found (h (take n b)) (drop n b)

-- the number in the next n bits
abbrev pub field_from : ℕ → Bits → Outcome ℕ
field_from n = block_from n worth

-- a small number (11.6.1): after a bit 0 come its six bits; a bit 1 is refused with e
abbrev pub small_from : Refusal → Bits → Outcome ℕ
small_from e b = onward (judging (λ x. if x then bad e else good x) bit_from b) (λ x r. field_from 6 r)

-- n items that f reads, one after the other
abbrev pub each_from : {X : Type 0} → (Bits → Outcome X) → ℕ → Bits → Outcome (List X)
each_from f zero b = found [] b
each_from f (suc n) b = onward (f b) (λ x r. onward (each_from f n r) (λ xs s. found (x ∷ xs) s))

-- ---- what is read

abbrev pub IsBit : Bool → Bits → Type 0
IsBit v x = x ≡ v ∷ []

-- the number in n bits
pub record IsField (n v : ℕ) (x : Bits) : Type 0 where
  pub fits : v < 2 ^ n
  pub is : x ≡ low_bits n v

-- a number below 64 in its small form (11.6.1)
pub record IsSmall (v : ℕ) (x : Bits) : Type 0 where
  pub fits : v < 64
  pub is : x ≡ false ∷ low_bits 6 v

-- ---- laws

-- The function f reads what P says: values, each with its bits.
pub record IsReading {X : Type 0} (P : X → Bits → Type 0) (f : Bits → Outcome X) : Type 0 where
  -- what is found is at the start
  pub sound : (b r : Bits) (v : X) → f b ≡ found v r → (x : Bits) × P v x × (b ≡ x ++ r)
  -- what is at the start is found, whatever follows it
  pub whole : (v : X) (x r : Bits) → P v x → f (x ++ r) ≡ found v r
  -- a fault other than Truncated is returned whatever follows, with the same place
  pub firm : (b r m : Bits) (e : Refusal) → f b ≡ stops e r → (e ≡ Truncated → ⊥) → f (b ++ m) ≡ stops e (r ++ m)
  -- the place of a fault is within the bits, or at their end
  pub inside : (b r : Bits) (e : Refusal) → f b ≡ stops e r → (x : Bits) × (b ≡ x ++ r)

-- first what P says, then what Q says after it
pub record Then {X Y : Type 0} (P : X → Bits → Type 0) (Q : X → Y → Bits → Type 0) (w : Y) (z : Bits) : Type 0 where
  pub first : X
  pub front : Bits
  pub back : Bits
  pub is_first : P first front
  pub is_next : Q first w back
  pub whole : z ≡ front ++ back

-- what P says, checked and found to be w
pub record IsJudged {X Y : Type 0} (P : X → Bits → Type 0) (j : X → Judged Y) (w : Y) (x : Bits) : Type 0 where
  pub read : X
  pub is_read : P read x
  pub judged : j read ≡ good w
