-- What a value shows of itself, a level at a time (X.680, clauses 18 to 33 and 41).
use Rattle.std.specs.Prelude.{◌≡◌, ℕ, ◌<◌, Option, Some, None}
use Rattle.asn_base.specs.declared.node.ValueKind.{ValueKind}
use Rattle.asn_base.specs.declared.node.ValueKind.TheVariants as kind
use Rattle.asn_base.specs.Abstract.{AbstractValue, boolean, integer, enumerated, bits, bits_in, octets, text, null, oid}
use Rattle.asn_base.specs.Abstract.{relative_oid, fields, list, alternative, placed, Row, end, present, row_of_options}

-- what a node shows that stands for value v. It says which value another node stands for, which components there are,
-- and which elements.
abbrev pub Shows : {N F E : Type 0} → (N → AbstractValue) → (F → ℕ → Option AbstractValue) → (E → Row) → AbstractValue
    → ValueKind N F E
    → Type 0
Shows value part row v (kind.Bool b) = v ≡ boolean b
Shows value part row v (kind.Int z) = v ≡ integer z
Shows value part row v (kind.Enum z) = v ≡ enumerated z
Shows value part row v (kind.Bits unused os) = (v ≡ bits (bits_in unused os.now)) × (unused < 8)
Shows value part row v (kind.Octets os) = v ≡ octets os.now
Shows value part row v (kind.Text s) = v ≡ text s.now
Shows value part row v kind.Null = v ≡ null
Shows value part row v (kind.Oid ns) = v ≡ oid ns.now
Shows value part row v (kind.RelativeOid ns) = v ≡ relative_oid ns.now
Shows value part row v (kind.Fields size f) = v ≡ fields (row_of_options (placed size (λ i. part f i)))
Shows value part row v (kind.List e) = v ≡ list (row e)
Shows value part row v (kind.Alternative i n) = v ≡ alternative i (value n)

-- the first of the elements that are left is taken, or none is left
abbrev pub IsTaken : {N E : Type 0} → (N → AbstractValue) → (E → Row) → E → Option N → E → Type 0
IsTaken value row e None f = row e ≡ end
IsTaken value row e (Some n) f = row e ≡ present (value n) (row f)
