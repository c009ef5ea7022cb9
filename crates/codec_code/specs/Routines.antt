-- The routine of each type, for encodings with tags (X.690, 8.1 and 8.9 to 8.14).
use Rattle.std.specs.Prelude.{ℕ, suc, ◌+◌, Bool, true, false, if◌then◌else◌, List, []}
use Rattle.std.specs.Prelude.{◌∷◌, ◌++◌, length, map, flat_map, replicate, Option, Some, None, slice_get}
use Rattle.asn_base.specs.declared.tag.Tag.{Tag}
use Rattle.asn_base.specs.declared.schema.TypeId.{TypeId}
use Rattle.asn_base.specs.Schemas.{components}
use Rattle.asn_base.specs.Order.{place_among}
use Rattle.asn_base.specs.Types.{TypeNumber, Presence, mandatory, optional, default, addition, Component, Alternative}
use Rattle.asn_base.specs.Types.{Kind, a_boolean, an_integer, an_enumerated, a_bit_string, a_named_bit_string}
use Rattle.asn_base.specs.Types.{an_octet_string, a_null, an_object_identifier, a_relative_oid, a_utf8_string}
use Rattle.asn_base.specs.Types.{a_restricted_string, a_sequence, a_set, a_sequence_of, a_set_of, a_choice, Resolved}
use Rattle.codec_code.specs.declared.step.RowKind.{RowKind}
use Rattle.codec_code.specs.declared.step.RowKind.TheVariants as rows
use Rattle.encodings.specs.declared.leaf_kind.LeafKind.TheVariants as leaves
use Rattle.codec_code.specs.declared.step.FieldPresence.{FieldPresence}
use Rattle.codec_code.specs.declared.step.FieldPresence.TheVariants.{Mandatory, Optional, Default, Addition}
use Rattle.codec_code.specs.declared.step.Coding.{Coding}
use Rattle.codec_code.specs.declared.step.Coding.TheVariants.{Tagged, Per}
use Rattle.codec_code.specs.declared.step.Field.{Field as Field'}
use Rattle.codec_code.specs.declared.step.Step.{Step}
use Rattle.codec_code.specs.declared.step.Step.TheVariants.{Head, Leaf, Field, SetComponent, Each, EachSorted, Pick}
use Rattle.codec_code.specs.declared.step.Step.TheVariants.{Call, Rest, End}

abbrev pub id_of : TypeNumber → TypeId
id_of t = record { index = t }

-- ---- headers

-- the kind of a header's row in an account, before contents of this kind; a CHOICE has only headers of explicit tags
abbrev pub row_of : Kind → RowKind
row_of (a_sequence e cs) = rows.Sequence
row_of (a_set e cs) = rows.Set
row_of (a_sequence_of c u) = rows.SequenceOf
row_of (a_set_of c u) = rows.SetOf
row_of (a_choice root e more) = rows.Wrap
row_of k = rows.Leaf

abbrev pub is_constructed : RowKind → Bool
is_constructed rows.Leaf = false
is_constructed k = true

-- a header for each tag, the outermost first; all but the last are explicit (8.14)
abbrev pub heads : List Tag → RowKind → List Step
heads [] k = []
heads (g ∷ []) k = Head (record { tag = g; constructed = is_constructed k; row = k }) ∷ []
heads (g ∷ f ∷ gs) k = Head (record { tag = g; constructed = true; row = rows.Wrap }) ∷ heads (f ∷ gs) k

abbrev pub ends : ℕ → List Step
ends n = replicate n End

-- ---- components

abbrev pub need_of : Presence → FieldPresence
need_of mandatory = Mandatory
need_of optional = Optional
need_of (default d) = Default
need_of (addition o g) = Addition

-- how many of the components come before type t in the canonical order of their tags (X.680, 8.6)
abbrev pub rank : List Resolved → List Component → TypeNumber → ℕ
rank s cs t = place_among s (map (λ c. c.type) cs) t

abbrev pub field_of : ℕ → Component → Field'
field_of i c = record { place = i; need = need_of c.presence; ty = id_of c.type }

-- the steps of components in order of definition; the first one has place i
abbrev pub fields_from : ℕ → List Component → List Step
fields_from i [] = []
fields_from i (c ∷ cs) = Field (field_of i c) ∷ fields_from (suc i) cs

-- the steps of components of a SET, of which `all` are the components; the first step has place i
abbrev pub ranked_from : List Resolved → (all : List Component) → ℕ → List Component → List Step
ranked_from s all i [] = []
ranked_from s all i (c ∷ cs) = SetComponent (field_of i c) (rank s all c.type) ∷ ranked_from s all (suc i) cs

abbrev pub rest_if : Bool → List Step
rest_if extensible = if extensible then Rest ∷ [] else []

-- component i of type t, if there is one
abbrev pub component_in : List Resolved → TypeNumber → ℕ → Option Component
component_in s t i = elim (slice_get s t) [ None ↦ None | Some r ↦ slice_get (components r.kind) i ]

-- ---- alternatives

abbrev pub calls : List Alternative → List Step
calls = map (λ a. Call (id_of a.type))

abbrev pub choice_of : List Alternative → List Step
choice_of as' = Pick (length as') ∷ calls as'

-- ---- routines

-- the steps within the headers
abbrev pub body : List Resolved → Kind → List Step
body s a_boolean = Leaf leaves.Boolean ∷ []
body s (an_integer c) = Leaf leaves.Integer ∷ []
body s (an_enumerated root e more) = Leaf leaves.Enumerated ∷ []
body s (a_bit_string c) = Leaf leaves.BitString ∷ []
body s (a_named_bit_string bs) = Leaf leaves.NamedBits ∷ []
body s (an_octet_string c) = Leaf leaves.OctetString ∷ []
body s a_null = Leaf leaves.Null ∷ []
body s an_object_identifier = Leaf leaves.ObjectIdentifier ∷ []
body s a_relative_oid = Leaf leaves.RelativeOid ∷ []
body s (a_utf8_string c) = Leaf leaves.Utf8String ∷ []
body s (a_restricted_string k codes c) = Leaf (leaves.RestrictedString k) ∷ []
body s (a_sequence e cs) = fields_from 0 cs ++ rest_if e
body s (a_set e cs) = ranked_from s cs 0 cs ++ rest_if e
body s (a_sequence_of c u) = Each (id_of u) ∷ []
body s (a_set_of c u) = EachSorted (id_of u) ∷ []
body s (a_choice root e more) = choice_of (root ++ more)

unfoldable pub routine_of : List Resolved → Resolved → List Step
routine_of s r = heads r.tags (row_of r.kind) ++ (body s r.kind ++ ends (length r.tags))

-- the routine of a type for encodings with tags; it has no steps if there is no such type
abbrev pub routine_at : List Resolved → TypeNumber → List Step
routine_at s t = elim (slice_get s t) [ None ↦ [] | Some r ↦ routine_of s r ]

-- the routine of a type; for packed encodings it has no steps
abbrev pub steps_at : List Resolved → Coding → TypeNumber → List Step
steps_at s Tagged t = routine_at s t
steps_at s Per t = []

-- ---- one table

-- all routines, one after the other
abbrev pub table_of : List Resolved → List Step
table_of s = flat_map (routine_of s) s

-- the numbers of the steps at which the routines of some types start, from n on, and at which the last one ends
abbrev pub starts_from : List Resolved → ℕ → List Resolved → List ℕ
starts_from s n [] = n ∷ []
starts_from s n (r ∷ rs) = n ∷ starts_from s (n + length (routine_of s r)) rs

abbrev pub starts_of : List Resolved → List ℕ
starts_of s = starts_from s 0 s
