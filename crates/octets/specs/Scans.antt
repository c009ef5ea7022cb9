-- The parts of a header at the start of octets, and why a part isn't there.
use Rattle.std.specs.Prelude.{◌≡◌, ℕ, ◌+◌, ◌<◌, ◌≤◌, ◌^◌, Bool, List, [], ◌∷◌, ◌++◌, length, map}
use Rattle.std.specs.Int.Digits.{number_from_digits_after, AllBelowBase}
use Rattle.asn_base.specs.declared.tag.Tag.{Tag}
use Rattle.encodings.specs.Header.{Octets, identifier, LengthOf}
use Rattle.octets.specs.declared.header_fault.HeaderFault.{HeaderFault}
use Rattle.octets.specs.declared.header_fault.HeaderFault.TheVariants as faults
use Rattle.octets.specs.Fronts.{HasBadTag}

-- septets with the top bit come first, worth m together with those before them; then what follows them
pub record Goes (high m : ℕ) (o rest : Octets) : Type 0 where
  pub digits : List ℕ
  pub below : AllBelowBase 128 digits
  pub worth : number_from_digits_after 128 high digits ≡ m
  pub whole : o ≡ map (λ d. 128 + d) digits ++ rest

-- septets that end too early, or are worth too much
pub data NoSeptets (high : ℕ) (o : Octets) : HeaderFault → Type 0 where
  unended : {m : ℕ} → Goes high m o [] → m < 2 ^ 24 → NoSeptets high o faults.Truncated
  endless : {m : ℕ} (rest : Octets) → Goes high m o rest → 2 ^ 24 ≤ m → NoSeptets high o faults.BadTag

-- septets that are no number of a tag's long form
pub data NoNumber (o : Octets) : HeaderFault → Type 0 where
  unended_number : {m : ℕ}
      → Goes 0 m o []
      → m < 2 ^ 24
      → ((rest : Octets) → o ≡ 128 ∷ rest → ⊥)
      → NoNumber o faults.Truncated
  small : (n : ℕ) (rest : Octets) → n ≤ 30 → o ≡ n ∷ rest → NoNumber o faults.BadTag
  zero_first : (rest : Octets) → o ≡ 128 ∷ rest → NoNumber o faults.BadTag
  endless_number : {m : ℕ} (rest : Octets) → Goes 0 m o rest → 2 ^ 24 ≤ m → NoNumber o faults.BadTag

-- identifier octets at the start, and what follows them
pub record IdentifierAt (t : Tag) (c : Bool) (rest o : Octets) : Type 0 where
  pub whole : o ≡ identifier t.class t.number c ++ rest

pub data NoIdentifier (o : Octets) : HeaderFault → Type 0 where
  cut_identifier : (t : Tag) (c : Bool) (missing : Octets)
      → identifier t.class t.number c ≡ o ++ missing
      → 1 ≤ length missing
      → NoIdentifier o faults.Truncated
  bad_identifier : HasBadTag o → NoIdentifier o faults.BadTag

-- length octets at the start, of a length that a message has, and what follows them
pub record SizeAt (n : ℕ) (rest o : Octets) : Type 0 where
  pub size : Octets
  pub is_size : LengthOf n size
  pub few : n ≤ 16777216
  pub whole : o ≡ size ++ rest

pub data NoSize (o : Octets) : HeaderFault → Type 0 where
  cut_size : {n : ℕ} {size : Octets} (missing : Octets)
      → LengthOf n size
      → size ≡ o ++ missing
      → 1 ≤ length missing
      → NoSize o faults.Truncated
  indefinite : (rest : Octets) → o ≡ 128 ∷ rest → NoSize o faults.Indefinite
  reserved_size : (rest : Octets) → o ≡ 255 ∷ rest → NoSize o faults.BadLength
  great_size : {n : ℕ} {size : Octets} (rest : Octets)
      → LengthOf n size
      → 16777216 < n
      → o ≡ size ++ rest
      → NoSize o faults.BadLength
