-- The result of decoding the front of bits, and the part of a value that has a fault (X.691, 11).
use Rattle.std.specs.Prelude.{◌≡◌, ◌-◌, ℕ, Bool, if◌then◌else◌, List, [], ◌∷◌, ◌++◌, length, take}
use Rattle.packed_encodings.specs.Lengths.{Bits}
use Rattle.decode_faults.specs.declared.refusal.Refusal.{Refusal}
use Rattle.decode_faults.specs.declared.refusal.Refusal.TheVariants.{Truncated}
use Rattle.packed_readings.specs.Outcome.{Outcome, found, stops}
use Rattle.packed_reader.specs.declared.part.Part.{Part}

-- the reason of a fault, and the parts of the value that it is in, the outermost first
pub record Fault : Type 0 where
  pub why : Refusal
  pub path : List Part

-- the value at the front and the bits after it, or the first fault and the bits from its place on
pub data Reading (X : Type 0) : Type 0 where
  read : X → (rest : Bits) → Reading X
  refused : Fault → (rest : Bits) → Reading X

abbrev pub stop : {X : Type 0} → Refusal → Bits → Reading X
stop e r = refused (record { why = e; path = [] }) r

-- the second reading of the bits that the first one leaves
abbrev pub next : {X Y : Type 0} → Reading X → (X → Bits → Reading Y) → Reading Y
next (read v r) g = g v r
next (refused e r) g = refused e r

-- a reading within this part, which is then in the path of a fault
abbrev pub in_part : {X : Type 0} → Part → Reading X → Reading X
in_part p (read v r) = read v r
in_part p (refused e r) = refused (record { why = e.why; path = p ∷ e.path }) r

-- the reading of an outcome, in which a fault has an empty path
abbrev pub plain : {X : Type 0} → Outcome X → Reading X
plain (found v r) = read v r
plain (stops e r) = stop e r

-- A reading whose value must pass a test. The place of this fault is where the value begins.
abbrev pub tested : {X : Type 0} → (X → Bool) → Refusal → (Bits → Reading X) → Bits → Reading X
tested test e f b = next (f b) (λ v r. if test v then read v r else stop e b)

-- a reading whose value comes with its bits
abbrev pub with_bits : {X : Type 0} → (Bits → Reading X) → Bits → Reading (X × Bits)
with_bits f b = next (f b) (λ v r. read (v, take (length b - length r) b) r)

-- a value, how many additions that its type lacks were skipped within it, and how many values may still begin
pub record Taken (X : Type 0) : Type 0 where
  pub it : X
  pub skipped : ℕ
  pub left : ℕ

abbrev pub taken : {X : Type 0} → X → ℕ → ℕ → Taken X
taken v k n = record { it = v; skipped = k; left = n }

-- The function f decodes exactly the values and bits for which P holds.
pub record IsExact {X : Type 0} (P : X → Bits → Type 0) (f : Bits → Reading X) : Type 0 where
  -- a decoded value is at the front
  pub sound : (b r : Bits) (v : X) → f b ≡ read v r → (x : Bits) × P v x × (b ≡ x ++ r)
  -- a value at the front is decoded, whatever follows it
  pub whole : (v : X) (x r : Bits) → P v x → f (x ++ r) ≡ read v r
  -- a fault other than `Truncated` stays the same, at the same place, whatever follows
  pub firm : (b r m : Bits) (e : Fault) → f b ≡ refused e r → (e.why ≡ Truncated → ⊥) → f (b ++ m) ≡ refused e (r ++ m)
  -- the place of a fault is one of the bits, or their end
  pub inside : (b r : Bits) (e : Fault) → f b ≡ refused e r → (x : Bits) × (b ≡ x ++ r)
