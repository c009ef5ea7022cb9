-- Types with the tags before their contents, and items in order.
use Rattle.std.proofs.Common.{◌≡◌, ℕ, zero, suc, ◌<◌, true, false, List, [], ◌∷◌, Option, Some, None, refl, subst, arith, lit<}
use Rattle.std.proofs.lemmas.Option.{same_Some}
use Rattle.std.specs.Prelude.{ℤ, pos, negsuc, slice_get}
use Rattle.asn_base.specs.declared.tag.Tag.{Tag}
use Rattle.asn_base.specs.declared.tag.Class.TheVariants.{Universal, Application, Context}
use Rattle.asn_base.specs.declared.strings.StringKind.TheVariants.{Visible}
use Rattle.asn_base.specs.Types.{Resolved}
use Rattle.asn_base.specs.Types as types
use Rattle.trees.specs.declared.types.Keyword.TheVariants.{Absent, Implicit as ImplicitWord}
use Rattle.trees.specs.declared.types.ListKind.TheVariants.{Choice}
use Rattle.trees.specs.declared.types.Standing.TheVariants.{Root}
use Rattle.trees.specs.declared.module.TagDefault.{TagDefault}
use Rattle.trees.specs.declared.module.TagDefault.TheVariants.{Explicit as ExplicitTags, Automatic}
use Rattle.trees.specs.Types.{a_restricted_string, a_boolean, mandatory}
use Rattle.type_table.specs.Table.{IsUnderlying, walk, WrittenKind, Type', simple, reference, tagged, members, IsWrittenType}
use Rattle.resolve.specs.Program.{Program, IsAssignment}
use Rattle.schema_of.specs.values.Allowing.{Allows, AllowsCode}
use Rattle.schema_of.specs.SchemaOf.{IsTypeOf, boolean as boolean_kind}
use Rattle.tagging.specs.declared.path.TagForm.TheVariants.{Implicit, Explicit}
use Rattle.tagging.specs.Tags.{Path, label, universal_tag, WrittenTags, core, target, inside, as_written, numbered}
use Rattle.settled.specs.Settled.{standing, HasTags, ItemsAscend, IsProgramType, IsProgramSchema}

-- ---- the worked example of X.690, clause 8.14, in a module with EXPLICIT TAGS: `Type1 ::= VisibleString`,
-- `Type2 ::= [APPLICATION 3] IMPLICIT Type1`, `Type3 ::= [2] Type2`, `Type4 ::= [APPLICATION 7] IMPLICIT Type3` and
-- `Type5 ::= [2] IMPLICIT Type2`. The octets before the contents of "Jones" are 1A 05; 43 05; A2 07 43 05; 67 07 43 05;
-- and 82 05.

visible_string : Tag
visible_string = record { class = Universal; number = 26; in_range = lit< tt; not_reserved = λ e. lit< tt }

application_3 : Tag
application_3 = record { class = Application; number = 3; in_range = lit< tt; not_reserved = λ e. lit< tt }

application_7 : Tag
application_7 = record { class = Application; number = 7; in_range = lit< tt; not_reserved = λ e. lit< tt }

context_2 : Tag
context_2 = record { class = Context; number = 2; in_range = lit< tt; not_reserved = λ e. lit< tt }

abbrev type_of : WrittenKind → TagDefault → Option (ℕ × ℕ) → Type'
type_of k d at = record { kind = k; constraints = []; default = d; place = at; assignment = 0 }

abbrev program : List Type' → Program
program ts = record { modules = []; headers = []; assignments = []; types = ts; values = [] }

ts : List Type'
ts =
    type_of (simple (a_restricted_string Visible)) ExplicitTags None
    ∷ type_of (tagged application_3 ImplicitWord 5) ExplicitTags None
    ∷ type_of (tagged context_2 Absent 6) ExplicitTags None
    ∷ type_of (tagged application_7 ImplicitWord 7) ExplicitTags None
    ∷ type_of (tagged context_2 ImplicitWord 8) ExplicitTags None
    ∷ type_of (reference 0) ExplicitTags None
    ∷ type_of (reference 1) ExplicitTags None
    ∷ type_of (reference 2) ExplicitTags None
    ∷ type_of (reference 1) ExplicitTags None
    ∷ []

path_1 : Path
path_1 = (universal_tag 26, Explicit) ∷ []

path_2 : Path
path_2 = (label application_3, Implicit) ∷ path_1

path_3 : Path
path_3 = (label context_2, Explicit) ∷ path_2

path_4 : Path
path_4 = (label application_7, Implicit) ∷ path_3

path_5 : Path
path_5 = (label context_2, Implicit) ∷ path_2

is : (i : ℕ) (k : WrittenKind) → slice_get ts i ≡ Some (type_of k ExplicitTags None) →
    IsWrittenType ts i k ExplicitTags None
is i k e = record { constraints = []; assignment = 0; found = e }

written_1 : WrittenTags ts 0 path_1
unfolding ts path_1
written_1 = core (is 0 _ refl) refl

written_2 : WrittenTags ts 1 path_2
unfolding ts path_2
written_2 = inside (is 1 _ refl) (target (is 5 _ refl) written_1) refl

written_3 : WrittenTags ts 2 path_3
unfolding ts path_3
written_3 = inside (is 2 _ refl) (target (is 6 _ refl) written_2) refl

written_4 : WrittenTags ts 3 path_4
unfolding ts path_4
written_4 = inside (is 3 _ refl) (target (is 7 _ refl) written_3) refl

written_5 : WrittenTags ts 4 path_5
unfolding ts path_5
written_5 = inside (is 4 _ refl) (target (is 8 _ refl) written_2) refl

abbrev with_tags : List Tag → Resolved
with_tags gs = record { tags = gs; kind = types.a_restricted_string Visible [] types.any_size }

tags_1 : HasTags (program ts) 0 (with_tags (visible_string ∷ []))
unfolding ts path_1 visible_string
tags_1 = record { path = path_1; tags = as_written refl written_1; same = refl }

tags_2 : HasTags (program ts) 1 (with_tags (application_3 ∷ []))
unfolding ts path_1 path_2
tags_2 = record { path = path_2; tags = as_written refl written_2; same = refl }

tags_3 : HasTags (program ts) 2 (with_tags (context_2 ∷ application_3 ∷ []))
unfolding ts path_1 path_2 path_3
tags_3 = record { path = path_3; tags = as_written refl written_3; same = refl }

tags_4 : HasTags (program ts) 3 (with_tags (application_7 ∷ application_3 ∷ []))
unfolding ts path_1 path_2 path_3 path_4
tags_4 = record { path = path_4; tags = as_written refl written_4; same = refl }

tags_5 : HasTags (program ts) 4 (with_tags (context_2 ∷ []))
unfolding ts path_1 path_2 path_5
tags_5 = record { path = path_5; tags = as_written refl written_5; same = refl }

-- ---- `C ::= CHOICE {a BOOLEAN}` in an AUTOMATIC module: no tag before C, and [0] alone before its alternative

the_choice : List Type'
the_choice =
    type_of (members Choice false (record { name = 97 ∷ []; ty = 1; presence = mandatory; standing = Root } ∷ [])) Automatic None
    ∷ type_of (simple a_boolean) Automatic (Some (0, 0))
    ∷ []

context_0 : Tag
context_0 = record { class = Context; number = 0; in_range = lit< tt; not_reserved = λ e. absurd cc }

no_tag : HasTags (program the_choice) 0 (with_tags [])
unfolding the_choice
no_tag = record { path = []; tags = as_written refl (core (record { constraints = []; assignment = 0; found = refl }) refl); same = refl }

automatic_tag : HasTags (program the_choice) 1 (with_tags (context_0 ∷ []))
unfolding the_choice context_0
automatic_tag = record {
  path = (label context_0, Implicit) ∷ (universal_tag 1, Explicit) ∷ [];
  tags = numbered refl (core (record { constraints = []; assignment = 0; found = refl }) refl) refl;
  same = refl;
}

-- ---- the whole of the program `T ::= [2] BOOLEAN` in module M: its two types are settled, with these tags

the_tagged : Program
the_tagged = record {
  modules = [];
  headers = (77 ∷ [], ExplicitTags) ∷ [];
  assignments = (0, 84 ∷ []) ∷ [];
  types = type_of (tagged context_2 Absent 1) ExplicitTags None ∷ type_of (simple a_boolean) ExplicitTags None ∷ [];
  values = [];
}

boolean : Tag
boolean = record { class = Universal; number = 1; in_range = lit< tt; not_reserved = λ e. lit< tt }

the_types : List Resolved
the_types =
    record { tags = context_2 ∷ boolean ∷ []; kind = types.a_boolean }
    ∷ record { tags = boolean ∷ []; kind = types.a_boolean }
    ∷ []

chain : (i steps : ℕ) → steps < 2 → walk the_tagged.types steps i ≡ Some 1 → IsUnderlying the_tagged.types i 1
unfolding the_tagged
chain i n l e = record { steps = n; few = l; chain = e; ends = refl }

is_so : IsAssignment the_tagged 0 (77 ∷ []) (84 ∷ [])
unfolding the_tagged
is_so = record { owner = 0; tags = ExplicitTags; assigned = refl; header = refl }

-- both types are BOOLEAN after the tag
is_boolean : (i : ℕ) → IsUnderlying the_tagged.types i 1 → IsTypeOf the_tagged (Allows the_tagged) (AllowsCode the_tagged) i types.a_boolean
unfolding the_tagged
is_boolean i l = record {
  core = 1;
  type = type_of (simple a_boolean) ExplicitTags None;
  chain = l;
  there = refl;
  within = 77 ∷ [];
  assigns = 84 ∷ [];
  is_so = is_so;
  kind = boolean_kind;
}

of_boolean : (i : ℕ) (gs : List Tag) → IsUnderlying the_tagged.types i 1 → HasTags the_tagged i (record { tags = gs; kind = types.a_boolean }) →
    IsProgramType the_tagged i (record { tags = gs; kind = types.a_boolean })
unfolding the_tagged
of_boolean i gs l h = record {
  tags = h;
  kind = simple a_boolean;
  is = record { core = 1; type = type_of (simple a_boolean) ExplicitTags None; chain = l; there = refl; kind = refl };
  constrained = tt;
  items = tt;
}

own_tag : WrittenTags the_tagged.types 1 ((universal_tag 1, Explicit) ∷ [])
unfolding the_tagged
own_tag = core (record { constraints = []; assignment = 0; found = refl }) refl

two_tags : HasTags the_tagged 0 (record { tags = context_2 ∷ boolean ∷ []; kind = types.a_boolean })
unfolding the_tagged context_2 boolean
two_tags = record {
  path = (label context_2, Explicit) ∷ (universal_tag 1, Explicit) ∷ [];
  tags = as_written refl (inside (record { constraints = []; assignment = 0; found = refl }) own_tag refl);
  same = refl;
}

one_tag : HasTags the_tagged 1 (record { tags = boolean ∷ []; kind = types.a_boolean })
unfolding the_tagged boolean
one_tag = record { path = (universal_tag 1, Explicit) ∷ []; tags = as_written refl own_tag; same = refl }

is_type : (i : ℕ) (r : Resolved) → slice_get the_types i ≡ Some r → IsTypeOf the_tagged (Allows the_tagged) (AllowsCode the_tagged) i r.kind
unfolding the_tagged the_types
is_type zero r e = subst (λ (r : Resolved). IsTypeOf the_tagged (Allows the_tagged) (AllowsCode the_tagged) 0 r.kind) (same_Some _ r e) (is_boolean 0 (chain 0 1 (omega arith) refl))
is_type (suc zero) r e = subst (λ (r : Resolved). IsTypeOf the_tagged (Allows the_tagged) (AllowsCode the_tagged) 1 r.kind) (same_Some _ r e) (is_boolean 1 (chain 1 0 (omega arith) refl))
is_type (suc (suc i)) r e = absurd cc

each_type : (i : ℕ) (r : Resolved) → slice_get the_types i ≡ Some r → IsProgramType the_tagged i r
unfolding the_tagged the_types
each_type zero r e = subst (IsProgramType the_tagged 0) (same_Some _ r e) (of_boolean 0 _ (chain 0 1 (omega arith) refl) two_tags)
each_type (suc zero) r e = subst (IsProgramType the_tagged 1) (same_Some _ r e) (of_boolean 1 _ (chain 1 0 (omega arith) refl) one_tag)
each_type (suc (suc i)) r e = absurd cc

is_program_schema : IsProgramSchema the_tagged the_types
unfolding the_tagged the_types
is_program_schema = record { types = record { as_many = refl; each = is_type }; each = each_type }

-- ---- `ENUMERATED {low(-5), red(0), ..., new(1), last(7)}`

abbrev item : ℕ → ℤ → types.Item
item x z = record { name = x ∷ []; number = z }

in_order : ItemsAscend (types.an_enumerated (item 108 (negsuc 4) ∷ item 114 (pos 0) ∷ []) true (item 110 (pos 1) ∷ item 109 (pos 7) ∷ []))
in_order = (((omega arith, tt), (tt, tt)), ((omega arith, tt), (tt, tt)))

root_as_written : ItemsAscend (types.an_enumerated (item 114 (pos 0) ∷ item 108 (negsuc 4) ∷ []) true []) → ⊥
root_as_written h = absurd (omega (arith, h.0.0.0))

additions_fall : ItemsAscend (types.an_enumerated (item 114 (pos 0) ∷ []) true (item 109 (pos 7) ∷ item 110 (pos 1) ∷ [])) → ⊥
additions_fall h = absurd (omega (arith, h.1.0.0))

numbers_stand_once : ItemsAscend (types.an_enumerated (item 114 (pos 0) ∷ item 108 (pos 0) ∷ []) true []) → ⊥
numbers_stand_once h = absurd (omega (arith, h.0.0.0))

-- additions may have lesser numbers than the root
below_the_root : ItemsAscend (types.an_enumerated (item 114 (pos 5) ∷ []) true (item 110 (pos 1) ∷ []))
below_the_root = ((tt, tt), (tt, tt))
