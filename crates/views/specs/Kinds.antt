-- What a reference to a value shows, of whatever kind the value is.
use Rattle.std.specs.Prelude.{◌≡◌, ℕ, ◌<◌, length, Option}
use Rattle.asn_base.specs.declared.node.ValueKind.{ValueKind}
use Rattle.asn_base.specs.declared.node.ValueKind.TheVariants as value_kind
use Rattle.views.specs.Tree.{boolean, integer, enumerated, bits, octets, text, null, oid, relative_oid, ViewMembers}
use Rattle.views.specs.Tree.{ViewTree, leaf, fields, list, alternative}

-- what a reference to a value shows that is this tree
abbrev pub Shows : ViewTree → ValueKind ViewTree ViewMembers ViewMembers → Type 0
Shows t (value_kind.Bool b) = t ≡ leaf (boolean b)
Shows t (value_kind.Int z) = t ≡ leaf (integer z)
Shows t (value_kind.Enum z) = t ≡ leaf (enumerated z)
Shows t (value_kind.Bits unused os) =
    (at : Option ℕ) × (t ≡ leaf (bits unused os.now at)) × (unused < 8) × (length os.now ≡ 0 → unused ≡ 0)
Shows t (value_kind.Octets os) = (at : Option ℕ) × (t ≡ leaf (octets os.now at))
Shows t (value_kind.Text s) = (at : Option ℕ) × (t ≡ leaf (text s.now at))
Shows t value_kind.Null = t ≡ leaf null
Shows t (value_kind.Oid ns) = t ≡ leaf (oid ns.now)
Shows t (value_kind.RelativeOid ns) = t ≡ leaf (relative_oid ns.now)
Shows t (value_kind.Fields size ms) = t ≡ fields size ms
Shows t (value_kind.List ms) = t ≡ list ms
Shows t (value_kind.Alternative i u) = t ≡ alternative i u
