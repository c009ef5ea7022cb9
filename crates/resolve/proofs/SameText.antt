-- Programs with one text have the same first faults, whatever their addresses in memory.
use Rattle.std.proofs.Common.{◌≡◌, ℕ, ◌++◌, List, [], ◌∷◌, map, Some, refl, sym, subst, ap, ◌∙◌}
use Rattle.std.specs.Prelude.{slice_get}
use Rattle.std.proofs.lemmas.Option.{same_Some}
use Rattle.trees.specs.Values.{Name}
use Rattle.trees.specs.declared.location.SourceLocation.{SourceLocation}
use Rattle.trees.specs.declared.module.Module.{Module as ModuleSyntax}
use Rattle.trees.specs.declared.value.ValueSyntax.{ValueSyntax}
use Rattle.names.specs.declared.fault.NameFault.{NameFault}
use Rattle.names.specs.declared.fault.NameFault.TheVariants as faults
use Rattle.names.specs.declared.sources.ValueAt.{ValueAt}
use Rattle.names.specs.Faults.{fault_module, fault_name}
use Rattle.names.specs.Sources.{Value, value_seen}
use Rattle.names.specs.proving.Distinct.{mapped, occurs_map}
use Rattle.trees.specs.declared.types.TypeSyntax.{TypeSyntax}
use Rattle.type_table.specs.declared.table.ListMember.{ListMember}
use Rattle.type_table.specs.declared.table.Shape.{Shape}
use Rattle.type_table.specs.declared.table.Shape.TheVariants as shapes
use Rattle.type_table.specs.declared.table.TypeNode.{TypeNode}
use Rattle.type_table.specs.FirstInList.{IsFirstInList, IsFirstMember, IsFirstPlain}
use Rattle.type_table.specs.Lists.{IsSoundKind}
use Rattle.type_table.specs.Seen.{kind_of, part_of, type_of, types_of}
use Rattle.type_table.specs.Table.{Part, Type', WrittenKind, members}
use Rattle.type_table.specs.Written.{AreWrittenTypes, MemberText, TypeText, member_kept, members_kept, plain_kept, text_kept}
use Rattle.resolve.specs.First.{IsFirstInCircle, IsFirstInType, IsFirstList, IsFirstOfProgram, IsFirstUnknown, IsTextOf, in_circle, in_list, in_type, in_value}
use Rattle.resolve.specs.Places.{constraint_places, default_places, shape_places, type_places}
use Rattle.resolve.specs.Program.{Program, WrittenProgram, IsAssignment}
use Rattle.resolve.specs.Qualified.{each, qualified_in}

-- ---- members

-- the members of a kind, or none if it isn't that of a list
abbrev parts_in : WrittenKind → List Part
parts_in (members l m cs) = cs
parts_in k = []

abbrev IsList : WrittenKind → Type 0
IsList (members l m cs) = Unit {0}
IsList k = ⊥

-- the members of a shape, or none if it isn't that of a list
abbrev list_of : Shape → List ListMember
list_of (shapes.Members k m cs) = cs.items
list_of s = []

list_kept : (s : Shape) → members_kept s ≡ map member_kept (list_of s)
list_kept (shapes.Simple p) = refl
list_kept (shapes.Reference j) = refl
list_kept (shapes.Tagged t w j) = refl
list_kept (shapes.Members k m cs) = refl
list_kept (shapes.Elements k j) = refl

list_parts : (s : Shape) → parts_in (kind_of s) ≡ map part_of (list_of s)
list_parts (shapes.Simple p) = refl
list_parts (shapes.Reference j) = refl
list_parts (shapes.Tagged t w j) = refl
list_parts (shapes.Members k m cs) = refl
list_parts (shapes.Elements k j) = refl

list_places : (s : Shape) → shape_places s ≡ each default_places (list_of s)
list_places (shapes.Simple p) = refl
list_places (shapes.Reference j) = refl
list_places (shapes.Tagged t w j) = refl
list_places (shapes.Members k m cs) = refl
list_places (shapes.Elements k j) = refl

one_member : (c d : ListMember) → member_kept c ≡ member_kept d → part_of c ≡ part_of d → c ≡ d
one_member c d e f =
    ap (λ z. record { name = z; ty = c.ty; presence = c.presence; standing = c.standing }) (ap (λ (x : MemberText). x.name) e)
    ∙ ap (λ (z : ℕ). record { name = d.name; ty = z; presence = c.presence; standing = c.standing }) (ap (λ (x : Part). x.ty) f)
    ∙ ap (λ z. record { name = d.name; ty = d.ty; presence = z; standing = c.standing }) (ap (λ (x : MemberText). x.presence) e)
    ∙ ap (λ z. record { name = d.name; ty = d.ty; presence = d.presence; standing = z }) (ap (λ (x : MemberText). x.standing) e)

one_members : (cs ds : List ListMember) → map member_kept cs ≡ map member_kept ds → map part_of cs ≡ map part_of ds →
    cs ≡ ds
one_members [] [] e f = refl
one_members [] (d ∷ ds) e f = absurd cc
one_members (c ∷ cs) [] e f = absurd cc
one_members (c ∷ cs) (d ∷ ds) e f =
    let a : member_kept c ≡ member_kept d = cc in
    let b : part_of c ≡ part_of d = cc in
    let g : map member_kept cs ≡ map member_kept ds = cc in
    let h : map part_of cs ≡ map part_of ds = cc in
    ap (λ z. z ∷ cs) (one_member c d a b) ∙ ap (λ l. d ∷ l) (one_members cs ds g h)

-- ---- two types with one text

pub record IsLike (w u : TypeNode) : Type 0 where
  pub type : type_of w ≡ type_of u
  pub text : text_kept w ≡ text_kept u

module _ (s r : Shape) (plain : plain_kept s ≡ plain_kept r) (list : members_kept s ≡ members_kept r)
    (kind : kind_of s ≡ kind_of r) where
  same_list : list_of s ≡ list_of r
  same_list =
      one_members (list_of s) (list_of r) (sym (list_kept s) ∙ list ∙ list_kept r) (sym (list_parts s) ∙ ap parts_in kind ∙ list_parts r)

  same_places : shape_places s ≡ shape_places r
  same_places = list_places s ∙ ap (each default_places) same_list ∙ sym (list_places r)

in_plain : (M a : Name) (s r : Shape) (e : NameFault) (p : _) → Some p ≡ plain_kept r → IsFirstPlain M a p e →
    IsFirstInList M a r e
in_plain M a s (shapes.Simple q) e p h f = subst (λ z. IsFirstPlain M a z e) (same_Some p q h) f
in_plain M a s (shapes.Reference j) e p h f = absurd cc
in_plain M a s (shapes.Tagged t w j) e p h f = absurd cc
in_plain M a s (shapes.Members k m cs) e p h f = absurd cc
in_plain M a s (shapes.Elements k j) e p h f = absurd cc

in_members : (M a : Name) (r : Shape) (e : NameFault) (cs : List ListMember) → cs ≡ list_of r → IsList (kind_of r) →
    IsFirstMember M a cs e → IsFirstInList M a r e
in_members M a (shapes.Members k m ds) e cs q l f = subst (λ z. IsFirstMember M a z e) q f
in_members M a (shapes.Simple p) e cs q l f = absurd l
in_members M a (shapes.Reference j) e cs q l f = absurd l
in_members M a (shapes.Tagged t w j) e cs q l f = absurd l
in_members M a (shapes.Elements k j) e cs q l f = absurd l

moved_shape : (M a : Name) (s r : Shape) (e : NameFault) → plain_kept s ≡ plain_kept r → members_kept s ≡ members_kept r →
    kind_of s ≡ kind_of r → IsFirstInList M a s e → IsFirstInList M a r e
moved_shape M a (shapes.Simple p) r e x y z f = in_plain M a (shapes.Simple p) r e p x f
moved_shape M a (shapes.Members k m cs) r e x y z f =
    in_members M a r e cs.items (same_list (shapes.Members k m cs) r x y z) (subst IsList z tt) f
moved_shape M a (shapes.Reference j) r e x y z f = absurd f
moved_shape M a (shapes.Tagged t w j) r e x y z f = absurd f
moved_shape M a (shapes.Elements k j) r e x y z f = absurd f

module _ (w u : TypeNode) (l : IsLike w u) where
  pub same_at : w.at ≡ u.at
  same_at = ap (λ (x : TypeText). x.at) l.text

  pub same_assignment : w.assignment ≡ u.assignment
  same_assignment = ap (λ (x : Type'). x.assignment) l.type

  same_kind : kind_of w.shape ≡ kind_of u.shape
  same_kind = ap (λ (x : Type'). x.kind) l.type

  same_plain : plain_kept w.shape ≡ plain_kept u.shape
  same_plain = ap (λ (x : TypeText). x.plain) l.text

  same_members : members_kept w.shape ≡ members_kept u.shape
  same_members = ap (λ (x : TypeText). x.members) l.text

  same_type_places : type_places w ≡ type_places u
  same_type_places =
      ap (λ z. z ++ each constraint_places w.constraints.items) (same_places w.shape u.shape same_plain same_members same_kind)
      ∙ ap (λ z. shape_places u.shape ++ each constraint_places z) (ap (λ (x : TypeText). x.constraints) l.text)

-- ---- two tables with one text

module _ (ws us : List TypeNode) (types : types_of ws ≡ types_of us) (texts : map text_kept ws ≡ map text_kept us) where
  -- types at one place
  pub like : (i j : ℕ) (w u : TypeNode) → i ≡ j → slice_get ws i ≡ Some w → slice_get us j ≡ Some u → IsLike w u
  like i j w u q e f = record {
    type = same_Some (type_of w) (type_of u) (sym (occurs_map type_of ws i w e) ∙ ap (λ l. slice_get l i) types ∙ ap (λ k. slice_get (types_of us) k) q ∙ occurs_map type_of us j u f);
    text = same_Some (text_kept w) (text_kept u) (sym (occurs_map text_kept ws i w e) ∙ ap (λ l. slice_get l i) texts ∙ ap (λ k. slice_get (map text_kept us) k) q ∙ occurs_map text_kept us j u f);
  }

  other : (i : ℕ) (w : TypeNode) → slice_get ws i ≡ Some w → (u : TypeNode) × (slice_get us i ≡ Some u) × IsLike w u
  other i w e =
      let m = mapped type_of us i (type_of w) (ap (λ l. slice_get l i) (sym types) ∙ occurs_map type_of ws i w e) in
      (m.0, m.1, like i i w m.0 refl e m.1)

  module _ (p : Program) where
    moved_list : (e : NameFault) → IsFirstList p ws e → IsFirstList p us e
    moved_list e a =
        let o = other a.number a.written a.there in
        let w = a.written in
        record {
          number = a.number;
          written = o.0;
          there = o.1;
          within = a.within;
          assigns = a.assigns;
          is_so = subst (λ z. IsAssignment p z a.within a.assigns) (same_assignment w o.0 o.2) a.is_so;
          wrong = subst (λ z. IsSoundKind z → ⊥) (same_kind w o.0 o.2) a.wrong;
          fault = moved_shape a.within a.assigns w.shape o.0.shape e (same_plain w o.0 o.2) (same_members w o.0 o.2) (same_kind w o.0 o.2) a.fault;
          before = a.before;
        }

    moved_circle : (s : SourceLocation) → IsFirstInCircle p ws s → IsFirstInCircle p us s
    moved_circle s a =
        let o = other a.number a.written a.there in
        record {
          number = a.number;
          written = o.0;
          there = o.1;
          is_so = subst (λ z. IsAssignment p z (fault_module s) (fault_name s)) (same_assignment a.written o.0 o.2) a.is_so;
          at = a.at ∙ same_at a.written o.0 o.2;
          circle = a.circle;
        }

    moved_type : (s : SourceLocation) → IsFirstInType p ws s → IsFirstInType p us s
    moved_type s a =
        let o = other a.number a.written a.there in
        let M = fault_module s in
        record {
          number = a.number;
          written = o.0;
          there = o.1;
          assigns = a.assigns;
          is_so = subst (λ z. IsAssignment p z M a.assigns) (same_assignment a.written o.0 o.2) a.is_so;
          first =
              subst (λ z. IsFirstUnknown p.modules M (qualified_in (type_of o.0)) z (fault_name s) s.at) (same_type_places a.written o.0 o.2)
              (subst (λ z. IsFirstUnknown p.modules M (qualified_in z) (type_places a.written) (fault_name s) s.at) (type_like a.written o.0 o.2) a.first);
          before = a.before;
        }
      where
        type_like : (w u : TypeNode) → IsLike w u → type_of w ≡ type_of u
        type_like w u l = l.type

    -- a first fault is one of each table with this text
    pub moved_first : (vs : List ValueAt) (e : NameFault) → IsFirstOfProgram p ws vs e → IsFirstOfProgram p us vs e
    moved_first vs e (in_list a) = in_list (moved_list e a)
    moved_first vs (faults.Circular s) (in_circle g a) = in_circle g (moved_circle s a)
    moved_first vs (faults.UnknownName s) (in_type g d a) = in_type g d (moved_type s a)
    moved_first vs (faults.UnknownName s) (in_value g d m a) = in_value g d m a

-- ---- values

one_value : (x y : ValueAt) → x.syntax ≡ y.syntax → value_seen x ≡ value_seen y → x ≡ y
one_value x y e f =
    ap (λ (n : ℕ). record { assignment = n; ty = x.ty; syntax = x.syntax }) (ap (λ (v : Value). v.assignment) f)
    ∙ ap (λ (n : ℕ). record { assignment = y.assignment; ty = n; syntax = x.syntax }) (ap (λ (v : Value). v.ty) f)
    ∙ ap (λ (s : ValueSyntax). record { assignment = y.assignment; ty = y.ty; syntax = s }) e

one_values : (xs ys : List ValueAt) →
    map (λ (v : ValueAt). v.syntax) xs ≡ map (λ (v : ValueAt). v.syntax) ys →
    map value_seen xs ≡ map value_seen ys →
    xs ≡ ys
one_values [] [] e f = refl
one_values [] (y ∷ ys) e f = absurd cc
one_values (x ∷ xs) [] e f = absurd cc
one_values (x ∷ xs) (y ∷ ys) e f =
    let a : x.syntax ≡ y.syntax = cc in
    let b : value_seen x ≡ value_seen y = cc in
    let c : map (λ (v : ValueAt). v.syntax) xs ≡ map (λ (v : ValueAt). v.syntax) ys = cc in
    let d : map value_seen xs ≡ map value_seen ys = cc in
    ap (λ z. z ∷ xs) (one_value x y a b) ∙ ap (λ zs. y ∷ zs) (one_values xs ys c d)

-- ---- programs

-- written types have at most one text
abbrev pub OneText : Type 0
OneText = (tops : List TypeSyntax) (ws us : List TypeNode) → AreWrittenTypes tops ws → AreWrittenTypes tops us →
    map text_kept ws ≡ map text_kept us

module _ (ws : List ModuleSyntax) (v w : WrittenProgram) (e : v.program ≡ w.program) (a : IsTextOf ws v) (b : IsTextOf ws w) where
  pub same_values : v.values ≡ w.values
  same_values = one_values v.values w.values (a.values ∙ sym b.values) (a.same.values ∙ ap (λ p. p.values) e ∙ sym b.same.values)

  pub same_types : types_of v.types ≡ types_of w.types
  same_types = a.same.types ∙ ap (λ p. p.types) e ∙ sym b.same.types
