-- Fields that are arranged: what that excludes, and groups of additions among their values.
use Rattle.std.proofs.Common.{◌≡◌, inl, inr, ℕ, suc, false, List, ◌∷◌, Option, Some, refl, ap, map}
use Rattle.asn_base.specs.Abstract.{Row}
use Rattle.asn_base.specs.Types as types
use Rattle.asn_base.specs.Typed.{group_of, HasOfGroup, LacksOfGroup, GroupsAreWhole}
use Rattle.trees.specs.declared.types.ListKind.{ListKind}
use Rattle.trees.specs.declared.types.ListKind.TheVariants.{Sequence, Set, Choice}
use Rattle.trees.specs.declared.types.Standing.{Standing}
use Rattle.trees.specs.declared.types.Standing.TheVariants.{Root, Addition}
use Rattle.trees.specs.Types.{PresenceTree, mandatory, optional, default}
use Rattle.trees.specs.Values.{Name, Tree}
use Rattle.names.specs.Modules.{OccursIn, AreDifferent}
use Rattle.names.specs.proving.Distinct.{occurs_map}
use Rattle.type_table.specs.Table.{Part}
use Rattle.resolve.specs.Program.{Program}
use Rattle.value_notations.specs.Notations.{AreArranged, Fields, component_of, presence_without_value, field_names, part_names, no_part, part_absent, part_present}
use Rattle.value_notations.specs.Wrong.{IsDisarranged, NotationTrouble, strange, twice, lacking, lacking_in_group, jumbled}
use Rattle.values.specs.Arranged.{IsArranged}
use Rattle.values.proofs.Orders.{part_in}

-- ---- arranged, or not

known_in : (k : ListKind) (cs fs : List Name) (x : Name) → AreArranged k cs fs → OccursIn fs x → OccursIn cs x
known_in Sequence cs fs x a s = part_in x s.0 a.1 s.1
known_in Set cs fs x a s = a.1 x s
known_in Choice cs fs x a s = absurd a

distinct_in : (k : ListKind) (cs fs : List Name) → AreArranged k cs fs → AreDifferent fs
distinct_in Sequence cs fs a = a.0
distinct_in Set cs fs a = a.0
distinct_in Choice cs fs a = absurd a

pub excluded : {k : ListKind} {cs : List Part} {fs : List Name} {ps : List (Option ℕ)} {t : NotationTrouble} →
    IsArranged k cs fs ps → IsDisarranged k cs fs t → ⊥
excluded {k} {cs} {fs} a (strange {x = x} s none) = none (known_in k (part_names cs) fs x a.arranged s)
excluded {k} {cs} {fs} a (twice {x = x} i s) = distinct_in k (part_names cs) fs a.arranged x s
excluded a (lacking {x = x} i d m) = a.complete x m
excluded a (lacking_in_group {x = x} i d m) = a.whole x m
excluded a (jumbled i d m g none b o) = none a.arranged.1

-- ---- groups

group_is : (t : PresenceTree) (s : Standing) (g : ℕ) → group_of (presence_without_value t s) ≡ Some g →
    s ≡ Addition (Some g)
group_is mandatory Root g e = absurd cc
group_is optional Root g e = absurd cc
group_is (default d) Root g e = absurd cc
group_is mandatory (Addition o) g e = ap Addition e
group_is optional (Addition o) g e = ap Addition e
group_is (default d) (Addition o) g e = ap Addition e

needed_is : (t : PresenceTree) (s : Standing) (g : ℕ) → presence_without_value t s ≡ types.addition false (Some g) →
    (t ≡ mandatory) × (s ≡ Addition (Some g))
needed_is mandatory Root g e = absurd cc
needed_is optional Root g e = absurd cc
needed_is (default d) Root g e = absurd cc
needed_is mandatory (Addition o) g e = (refl, ap Addition (ap group_of e))
needed_is optional (Addition o) g e = absurd cc
needed_is (default d) (Addition o) g e = absurd cc

-- a component of the group that has a field
record HasField (fs : List Name) (cs : List Part) (g : ℕ) : Type 0 where
  part : Part
  there : OccursIn cs part
  standing : part.standing ≡ Addition (Some g)
  present : OccursIn fs part.name

-- one that isn't OPTIONAL and has none
record LacksField (fs : List Name) (cs : List Part) (g : ℕ) : Type 0 where
  part : Part
  there : OccursIn cs part
  standing : part.standing ≡ Addition (Some g)
  needed : part.presence ≡ mandatory
  none : OccursIn fs part.name → ⊥

has_later : {fs : List Name} {cs : List Part} {g : ℕ} (c : Part) → HasField fs cs g → HasField fs (c ∷ cs) g
has_later c h = record { part = h.part; there = (suc h.there.0, h.there.1); standing = h.standing; present = h.present }

lacks_later : {fs : List Name} {cs : List Part} {g : ℕ} (c : Part) → LacksField fs cs g → LacksField fs (c ∷ cs) g
lacks_later c h =
    record { part = h.part; there = (suc h.there.0, h.there.1); standing = h.standing; needed = h.needed; none = h.none }

module _ {p : Program} {os : List ℕ} {M : Name} {fs : List (Name × Tree)} (g : ℕ) where
  has_field : {cs : List Part} {r : Row} → Fields p os M fs cs r → HasOfGroup g (map component_of cs) r →
      HasField (field_names fs) cs g
  has_field no_part h = absurd h
  has_field (part_absent {c = c} n t f) h = has_later c (has_field f h)
  has_field (part_present {c = c} {n = m} s v f) (inl e) =
      record {
        part = c;
        there = (0, refl);
        standing = group_is c.presence c.standing g e;
        present = (s.0, occurs_map (λ (z : Name × Tree). z.0) fs s.0 (c.name, m) s.1);
      }
  has_field (part_present {c = c} s v f) (inr h) = has_later c (has_field f h)

  lacks_field : {cs : List Part} {r : Row} → Fields p os M fs cs r → LacksOfGroup g (map component_of cs) r →
      LacksField (field_names fs) cs g
  lacks_field no_part h = absurd h
  lacks_field (part_absent {c = c} n t f) (inl e) =
      let q = needed_is c.presence c.standing g e in
      record { part = c; there = (0, refl); standing = q.1; needed = q.0; none = n }
  lacks_field (part_absent {c = c} n t f) (inr h) = lacks_later c (lacks_field f h)
  lacks_field (part_present {c = c} s v f) h = lacks_later c (lacks_field f h)

pub groups_of : {p : Program} {os : List ℕ} {M : Name} {k : ListKind} {cs : List Part} {fs : List (Name × Tree)}
    {ps : List (Option ℕ)} {r : Row} → IsArranged k cs (field_names fs) ps → Fields p os M fs cs r →
    GroupsAreWhole (map component_of cs) r
groups_of a f g h l =
    let one = has_field g f h in
    let other = lacks_field g f l in
    a.whole other.part.name
    (record {
      group = g;
      part = other.part;
      there = other.there;
      named = refl;
      standing = other.standing;
      needed = other.needed;
      none = other.none;
      other = one.part;
      other_there = one.there;
      other_standing = one.standing;
      other_present = one.present;
    })
