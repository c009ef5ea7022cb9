-- Which primitive contents octets are refused, and why.
use Rattle.std.specs.Prelude.{◌≡◌, ℕ, ℤ, ◌≤◌, Bool, List, [], ◌∷◌, length, flat_map, IsTrue, IsUtf8}
use Rattle.std.specs.List.{AllByRecursion}
use Rattle.asn_base.specs.Schemas.{is_character}
use Rattle.asn_base.specs.Typed.{IsWithinLimit, IsObjectIdentifier, IsRelativeOid}
use Rattle.encodings.specs.Header.{Octets, septets}
use Rattle.encodings.specs.Strings.{WholeBits}
use Rattle.encodings.specs.Contents.{Number, joined}
use Rattle.encodings.specs.declared.leaf_kind.LeafKind.{LeafKind}
use Rattle.encodings.specs.declared.leaf_kind.LeafKind.TheVariants as kinds
use Rattle.primitive_reader.specs.declared.fault.LeafFault.{LeafFault}
use Rattle.primitive_reader.specs.declared.fault.LeafFault.TheVariants as faults

-- octets are at least one number in septets, one after the other (8.19.2)
pub record AreNumbers (x : Octets) (ns : List ℕ) : Type 0 where
  pub some : 1 ≤ length ns
  pub whole : x ≡ flat_map septets ns

-- octets have the form of contents of this kind, whatever the limits on numbers
abbrev pub HasForm : LeafKind → Octets → Type 0
HasForm kinds.Boolean x = (n : ℕ) × (x ≡ n ∷ [])  -- 8.2.1
HasForm kinds.Integer x = (z : ℤ) × Number z x  -- 8.3
HasForm kinds.Enumerated x = (z : ℤ) × Number z x  -- 8.4
HasForm kinds.BitString x = (s : List Bool) × WholeBits s x  -- 8.6.2
HasForm kinds.NamedBits x = (s : List Bool) × WholeBits s x
HasForm kinds.OctetString x = Unit {0}  -- 8.7
HasForm kinds.Null x = x ≡ []  -- 8.8
HasForm kinds.ObjectIdentifier x = (ns : List ℕ) × AreNumbers x ns  -- 8.19
HasForm kinds.RelativeOid x = (ns : List ℕ) × AreNumbers x ns  -- 8.20
HasForm kinds.Utf8String x = IsUtf8 x  -- 8.23.10
HasForm (kinds.RestrictedString k) x = AllByRecursion (λ c. IsTrue (is_character k c)) x  -- 8.23.5

-- BadContents: the octets don't have the form of contents of the kind; the other faults: they have it, and pass a limit
pub data IsRightFault : LeafFault → LeafKind → Octets → Type 0 where
  without_form : {k : LeafKind} {x : Octets} → (HasForm k x → ⊥) → IsRightFault faults.BadContents k x
  integer_past : {z : ℤ} {x : Octets}
      → Number z x
      → (IsWithinLimit z → ⊥)
      → IsRightFault faults.IntegerLimit kinds.Integer x
  enumerated_past : {z : ℤ} {x : Octets}
      → Number z x
      → (IsWithinLimit z → ⊥)
      → IsRightFault faults.IntegerLimit kinds.Enumerated x
  -- the first number in septets encodes the first two numbers of the value
  oid_past : {ns : List ℕ} {x : Octets}
      → AreNumbers x ns
      → ((ms : List ℕ) → IsObjectIdentifier ms → joined ms ≡ ns → ⊥)
      → IsRightFault faults.OidLimit kinds.ObjectIdentifier x
  relative_past : {ns : List ℕ} {x : Octets}
      → AreNumbers x ns
      → (IsRelativeOid ns → ⊥)
      → IsRightFault faults.OidLimit kinds.RelativeOid x
