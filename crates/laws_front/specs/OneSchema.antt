-- When two schemas are the same (X.680, clauses 17 to 33, 41 and 51). Their types have the same tags, kinds, names,
-- numbers, DEFAULTs and bounds. A constraint may be given by other ranges, if these contain the same numbers.
use Rattle.std.specs.Prelude.{◌≡◌, ◌↔◌, ℕ, ℤ, List, Some, length, slice_get}
use Rattle.asn_base.specs.Schemas.{IsNumber, IsSize}
use Rattle.asn_base.specs.Types.{Constraint, Kind, Resolved, an_integer, a_bit_string, an_octet_string, a_utf8_string}
use Rattle.asn_base.specs.Types.{a_restricted_string, a_sequence_of, a_set_of}
use Rattle.asn_base.specs.Typed.{IsAllowed}

-- constraints c and d, on the numbers or sizes for which P holds, allow the same, and their roots have the same bounds
pub record AllowTheSame (P : ℤ → Type 0) (c d : Constraint) : Type 0 where
  pub allowed : (z : ℤ) → P z → (IsAllowed c z ↔ IsAllowed d z)
  pub visible : c.visible ≡ d.visible

-- two kinds are the same, but for the ranges of their constraints
abbrev pub IsSameKind : Kind → Kind → Type 0
IsSameKind (an_integer c) (an_integer d) = AllowTheSame IsNumber c d
IsSameKind (a_bit_string c) (a_bit_string d) = AllowTheSame IsSize c d
IsSameKind (an_octet_string c) (an_octet_string d) = AllowTheSame IsSize c d
IsSameKind (a_utf8_string c) (a_utf8_string d) = AllowTheSame IsSize c d
IsSameKind (a_restricted_string k codes c) (a_restricted_string l others d) =
    (k ≡ l) × (codes ≡ others) × AllowTheSame IsSize c d
IsSameKind (a_sequence_of c t) (a_sequence_of d u) = (t ≡ u) × AllowTheSame IsSize c d
IsSameKind (a_set_of c t) (a_set_of d u) = (t ≡ u) × AllowTheSame IsSize c d
IsSameKind k l = k ≡ l

-- two resolved types have the same tags, and the same kind
pub record IsSameType (r q : Resolved) : Type 0 where
  pub tags : r.tags ≡ q.tags
  pub kind : IsSameKind r.kind q.kind

-- two schemas have as many types, and types with the same number are the same
pub record IsSameSchema (s u : List Resolved) : Type 0 where
  pub as_many : length s ≡ length u
  pub types : (i : ℕ) (r q : Resolved) → slice_get s i ≡ Some r → slice_get u i ≡ Some q → IsSameType r q
