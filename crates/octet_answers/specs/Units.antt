-- An encoding at the start of octets: a header, and as many octets of contents as it promises (X.690, 8.1.1).
use Rattle.std.specs.Prelude.{◌≡◌, ℕ, ◌≤◌, Bool, ◌++◌, length}
use Rattle.asn_base.specs.declared.tag.Tag.{Tag}
use Rattle.encodings.specs.Header.{Octets, Header}

-- a header of k octets, its contents x, and what follows them
pub record UnitAt (g : Tag) (c : Bool) (k : ℕ) (x rest o : Octets) : Type 0 where
  pub header : Octets
  pub is_header : Header g c (length x) header
  pub few : length x ≤ 16777216
  pub long : length header ≡ k
  pub whole : o ≡ header ++ (x ++ rest)
