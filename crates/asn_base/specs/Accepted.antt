-- Schemas of simple types alone: BOOLEAN, INTEGER, OCTET STRING, and SEQUENCEs of these.
use Rattle.std.specs.Prelude.{◌≡◌, ◌<◌, ◌≤◌, false, List, length, map, slice_get, IsSomeAnd}
use Rattle.std.specs.List.{AllByRecursion}
use Rattle.asn_base.specs.Names.{AreNames}
use Rattle.asn_base.specs.Types.{any_number, any_size, Kind, a_boolean, an_integer, an_octet_string, a_sequence}
use Rattle.asn_base.specs.Types.{mandatory, Component, Resolved}

-- BOOLEAN, INTEGER and OCTET STRING without constraints
abbrev pub IsSimple : Kind → Type 0
IsSimple a_boolean = Unit {0}
IsSimple (an_integer c) = c ≡ any_number
IsSimple (an_octet_string c) = c ≡ any_size
IsSimple k = ⊥

-- a mandatory component whose type is BOOLEAN, INTEGER or OCTET STRING without constraints
abbrev pub IsSimpleMember : List Resolved → Component → Type 0
IsSimpleMember s c = (c.presence ≡ mandatory) × IsSomeAnd (slice_get s c.type) (λ r. IsSimple r.kind)

-- mandatory components of simple types, at most 256, whose names are distinct identifiers
pub record AreSimpleMembers (s : List Resolved) (cs : List Component) : Type 0 where
  pub few : length cs ≤ 256
  pub names : AreNames (map (λ c. c.name) cs)
  pub members : AllByRecursion (IsSimpleMember s) cs

-- a simple kind, or a SEQUENCE of simple components without an extension marker
abbrev pub IsOfFirstStage : List Resolved → Kind → Type 0
IsOfFirstStage s (a_sequence e cs) = (e ≡ false) × AreSimpleMembers s cs
IsOfFirstStage s k = IsSimple k

-- a type of a simple kind, or of such a SEQUENCE, with one to six tags
pub record IsSimpleType (s : List Resolved) (r : Resolved) : Type 0 where
  pub tagged : 0 < length r.tags
  pub few_tags : length r.tags ≤ 6
  pub kind : IsOfFirstStage s r.kind

-- each type of the schema is an accepted type
abbrev pub AllSimple : List Resolved → Type 0
AllSimple s = AllByRecursion (IsSimpleType s) s
