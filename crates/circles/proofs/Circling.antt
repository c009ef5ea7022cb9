-- Circles through defaults, and the parts of types.
use Rattle.std.proofs.Common.{◌≡◌, ℕ, ◌<◌, List, length, Some, Vec, Global, refl, sym, subst, ap, ◌∙◌}
use Rattle.circles.proofs.Marking.{same_at}
use Rattle.std.specs.Prelude.{Bool, slice_get}
use Rattle.std.proofs.lemmas.Option.{slice_get_within, get_or_from_slice_get}
use Rattle.type_table.specs.trees.Values.{Tree}
use Rattle.type_table.specs.trees.Types.{PresenceTree, mandatory, optional, default}
use Rattle.type_table.specs.trees.declared.types.ListKind.{ListKind}
use Rattle.type_table.specs.declared.table.Shape.{Shape}
use Rattle.type_table.specs.declared.table.Shape.TheVariants as shapes
use Rattle.type_table.specs.declared.table.ListMember.{ListMember}
use Rattle.type_table.specs.Seen.{kind_of}
use Rattle.type_table.specs.Table.{Part, WrittenKind, simple, reference, tagged, members, elements, Type', target, target_of, IsWrittenType, IsClosed, HasMembers, HasElements}
use Rattle.circles.specs.Circles.{IsPart, referred, target_tag, member, element, Reaches, IsWrittenDefaultCircle}
use Rattle.circles.specs.proving.Reach.{HasParts, IsDefault, DefaultPath}

is_default : (o : PresenceTree) → IsDefault o → (v : Tree) × (o ≡ default v)
is_default mandatory h = absurd h
is_default optional h = absurd h
is_default (default v) h = (v, refl)

pub circle_of_leads : (ts : List Type') (i : ℕ) (t : Type') (l : ListKind) (marker : Bool) (cs : List Part) →
    slice_get ts i ≡ Some t → t.kind ≡ members l marker cs → DefaultPath ts cs i → IsWrittenDefaultCircle ts i
circle_of_leads ts i t l marker cs e k h =
    let v = is_default h.defaulted.component.presence h.defaulted.defaulted in
    record {
      written = t;
      there = e;
      list = l;
      marker = marker;
      components = cs;
      is = k;
      number = h.defaulted.number;
      component = h.defaulted.component;
      held = h.defaulted.held;
      notation = v.0;
      defaulted = v.1;
      back = subst (λ z. Reaches ts z i) (sym h.defaulted.ty) h.reaches;
    }

same_members : (l k : ListKind) (m n : Bool) (cs ds : List Part) → members l m cs ≡ members k n ds → cs ≡ ds
same_members l k m n cs ds e = cc

pub leads_of_circle : (ts : List Type') (i : ℕ) (t : Type') (l : ListKind) (marker : Bool) (cs : List Part) →
    slice_get ts i ≡ Some t → t.kind ≡ members l marker cs → IsWrittenDefaultCircle ts i → DefaultPath ts cs i
leads_of_circle ts i t l marker cs e k h =
    let w : h.written ≡ t = same_at ts i h.written t h.there e in
    let c : h.components ≡ cs = same_members h.list l h.marker marker h.components cs (sym h.is ∙ ap (λ (z : Type'). z.kind) w ∙ k) in
    record {
      from = h.component.ty;
      defaulted = record { number = h.number; component = h.component; held = subst (λ z. slice_get z h.number ≡ Some h.component) c h.held; defaulted = subst IsDefault (sym h.defaulted) tt; ty = refl };
      reaches = h.back;
    }

no_members : (s : Shape) → ((l : ListKind) (m : Bool) (cs : Vec ListMember Global) → s ≡ shapes.Members l m cs → ⊥) →
    (l : ListKind) (m : Bool) (ps : List Part) → kind_of s ≡ members l m ps → ⊥
no_members (shapes.Simple p) n l m ps e = absurd cc
no_members (shapes.Reference j) n l m ps e = absurd cc
no_members (shapes.Tagged t k j) n l m ps e = absurd cc
no_members (shapes.Members k b cs) n l m ps e = n k b cs refl
no_members (shapes.Elements k j) n l m ps e = absurd cc

-- what is no list is in no circle
pub no_list : (ts : List Type') (i : ℕ) (t : Type') (s : Shape) → slice_get ts i ≡ Some t → t.kind ≡ kind_of s →
    ((l : ListKind) (m : Bool) (cs : Vec ListMember Global) → s ≡ shapes.Members l m cs → ⊥) →
    IsWrittenDefaultCircle ts i → ⊥
no_list ts i t s e k n h = no_members s n h.list h.marker h.components (sym k ∙ ap (λ (z : Type'). z.kind) (same_at ts i t h.written e h.there) ∙ h.is)

is_of : (ts : List Type') (i : ℕ) (t : Type') (k : WrittenKind) → slice_get ts i ≡ Some t → t.kind ≡ k →
    IsWrittenType ts i k t.default t.place
is_of ts i t k e q = record { constraints = t.constraints; assignment = t.assignment; found = e ∙ ap (λ z. Some (record { kind = z; constraints = t.constraints; default = t.default; place = t.place; assignment = t.assignment })) q }

part_below : (ts : List Type') (i j : ℕ) (t : Type') (k : WrittenKind) → IsClosed ts → HasMembers ts → HasElements ts →
    slice_get ts i ≡ Some t → t.kind ≡ k → IsPart j k → j < length ts
part_below ts i j t (simple s) closed parts inner e q h = elim h [ ]
part_below ts i j t (reference k) closed parts inner e q referred = closed i k (ap target_of e ∙ ap target q)
part_below ts i j t (tagged g w k) closed parts inner e q target_tag = closed i k (ap target_of e ∙ ap target q)
part_below ts i j t (members l m cs) closed parts inner e q (member n c h y) =
    let all = parts i l m cs t.default t.place (is_of ts i t (members l m cs) e q) n c (slice_get_within cs n c h) in
    subst (λ z. z < length ts) (ap (λ (p : Part). p.ty) (get_or_from_slice_get cs n c c h) ∙ y) all
part_below ts i j t (elements o k) closed parts inner e q element = inner i k o t.default t.place (is_of ts i t (elements o k) e q)

pub has_parts : (ts : List Type') → IsClosed ts → HasMembers ts → HasElements ts → HasParts ts
has_parts ts closed parts inner i j t e p = part_below ts i j t t.kind closed parts inner e refl p
