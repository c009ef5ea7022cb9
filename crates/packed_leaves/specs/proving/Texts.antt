-- The characters of an alphabet as bits.
use Rattle.std.specs.Prelude.{◌≡◌, ◌<◌, ◌≤◌, ◌^◌, ℕ, false, List, length, slice_index}
use Rattle.packed_encodings.specs.Computed.{all_below, code_place}
use Rattle.packed_encodings.specs.Leaves.{place_width}
use Rattle.packed_leaves.specs.declared.text.Alphabet.{Alphabet}

-- the place of each octet among the codes, and how many codes there are for an octet that isn't one of them
pub record ArePlaces (codes places : List ℕ) : Type 0 where
  pub many : length places ≡ 256
  pub are : (c : ℕ) → c < 256 → slice_index places c ≡ code_place codes c

-- the alphabet has these codes, and the width that they need
pub record IsWide (codes : List ℕ) (a : Alphabet) : Type 0 where
  pub same : a.codes.now ≡ codes
  pub wide : a.width ≡ place_width (length codes)
  pub few : a.width ≤ 8
  pub tested : a.by_code ≡ all_below (2 ^ place_width (length codes)) codes

-- and the places of octets among them, if characters are written by their places
pub record IsOf (codes : List ℕ) (a : Alphabet) : Type 0 where
  pub is : IsWide codes a
  pub placed : a.by_code ≡ false → ArePlaces codes a.places.now
