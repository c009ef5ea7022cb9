-- Types that are the same after references and tags, with constraints that leave the same values. What one of them is
-- in a schema, the other is.
use Rattle.std.proofs.Common.{◌≡◌, ℕ, ℤ, pos, Option, Some, None, List, [], ◌∷◌, refl, sym, ap, subst, ◌∙◌}
use Rattle.std.specs.Prelude.{◌↔◌, ◌⊎◌, map, slice_get}
use Rattle.std.proofs.Common.{inl, inr}
use Rattle.asn_base.specs.declared.tag.Tag.{Tag}
use Rattle.asn_base.specs.declared.strings.StringKind.{StringKind}
use Rattle.asn_base.specs.Names.{IsMember}
use Rattle.asn_base.specs.Schemas.{IsLeast, IsGreatest}
use Rattle.asn_base.specs.Types.{Constraint, Resolved, Bounds}
use Rattle.asn_base.specs.Types as types
use Rattle.asn_base.specs.Typed as typed
use Rattle.trees.specs.Values.{Name}
use Rattle.trees.specs.Types.{a_restricted_string}
use Rattle.type_table.specs.Table.{Type', WrittenKind, simple, IsUnderlying}
use Rattle.resolve.specs.Program.{Program}
use Rattle.range_ends.specs.Ends.{IsTypeOfKind}
use Rattle.tagging.specs.Tags.{Path, Tags, label}
use Rattle.constraints.specs.Allowed.{IsNumberAllowed, IsInRoot, IsInAlphabet, IsExtensible, IsCounted, AreVisible, IsConstraintOf, AreCodesOf, LeaveTheSame, HaveOneAlphabet}
use Rattle.settled.specs.values.Allowing.{Allows, AllowsCode}
use Rattle.settled.specs.schema_of.SchemaOf.{IsKindOf, IsTypeOf, AllowsNumbersOf, AllowsSizesOf}
use Rattle.settled.specs.schema_of.SchemaOf as schema_of
use Rattle.settled.specs.Settled.{IsConstrained, IsProgramType, standing}
use Rattle.extensions.specs.proving.Cores.{AreAlike}
use Rattle.extensions.specs.proving.Tables.{IsResolved}
use Rattle.extensions.proofs.CoreKinds.{one_core, one_kind}

-- ---- the other way round

turn_same : {p : Program} {k : WrittenKind} {i j : ℕ} → LeaveTheSame p k i j → LeaveTheSame p k j i
turn_same {p} {k} {i} {j} s = record {
  root = λ z. ((s.root z).1, (s.root z).0);
  extensible = (s.extensible.1, s.extensible.0);
  alphabet = turned k s.alphabet;
}
  where
    turned : (k : WrittenKind) → HaveOneAlphabet p k i j → HaveOneAlphabet p k j i
    turned (simple (a_restricted_string s)) h = λ c. ((h c).1, (h c).0)
    turned k h = tt

pub turn : {p : Program} {i j : ℕ} → AreAlike p i j → AreAlike p j i
turn a = record { core = a.core; one = a.other; other = a.one; same = λ k u v. turn_same (a.same k v u) }

-- ---- kinds

pub kind_too : {p : Program} {i j : ℕ} {k : WrittenKind} → AreAlike p i j → IsTypeOfKind p.types i k →
    IsTypeOfKind p.types j k
kind_too {p} {i} {j} a u = record {
  core = u.core;
  type = u.type;
  chain = subst (λ (c : ℕ). IsUnderlying p.types j c) (one_core p.types i a.core u.core a.one u.chain) a.other;
  there = u.there;
  kind = u.kind;
}

-- ---- what is allowed

allowed_too : {p : Program} {k : WrittenKind} {i j : ℕ} {z : ℤ} → LeaveTheSame p k i j → IsNumberAllowed p k i z → IsNumberAllowed p k j z
allowed_too {z = z} s (inl r) = inl ((s.root z).0 r)
allowed_too s (inr r) = inr (r.0, s.extensible.0 r.1)

number_too : {p : Program} {i j : ℕ} (z : ℤ) → AreAlike p i j → Allows p i z → Allows p j z
number_too z a h k v = let u = kind_too (turn a) v in allowed_too (a.same k u v) (h k u)

code_too : {p : Program} {i j : ℕ} (x : ℕ) → AreAlike p i j → AllowsCode p i x → AllowsCode p j x
code_too x a h s v = let u = kind_too (turn a) v in ((a.same (simple (a_restricted_string s)) u v).alphabet x).0 (h s u)

numbers_too : {p : Program} {i j : ℕ} (c : Constraint) → AreAlike p i j → AllowsNumbersOf (Allows p) i c → AllowsNumbersOf (Allows p) j c
numbers_too c a h z = (λ x. number_too z a ((h z).0 x), λ x. (h z).1 (number_too z (turn a) x))

sizes_too : {p : Program} {i j : ℕ} (c : Constraint) → AreAlike p i j → AllowsSizesOf (Allows p) i c → AllowsSizesOf (Allows p) j c
sizes_too c a h n = (λ x. number_too (pos n) a ((h n).0 x), λ x. (h n).1 (number_too (pos n) (turn a) x))

-- ---- kinds in a schema

pub kind_of_too : {p : Program} {i j : ℕ} {M : Name} {k : WrittenKind} {r : types.Kind}
    → AreAlike p i j
    → IsKindOf p (Allows p) (AllowsCode p) i M k r
    → IsKindOf p (Allows p) (AllowsCode p) j M k r
kind_of_too a schema_of.boolean = schema_of.boolean
kind_of_too a (schema_of.integer {c = c} h) = schema_of.integer (numbers_too c a h)
kind_of_too a (schema_of.enumerated h) = schema_of.enumerated h
kind_of_too a (schema_of.bits {c = c} h) = schema_of.bits (sizes_too c a h)
kind_of_too a (schema_of.named_bits h) = schema_of.named_bits h
kind_of_too a (schema_of.octets {c = c} h) = schema_of.octets (sizes_too c a h)
kind_of_too a schema_of.null = schema_of.null
kind_of_too a schema_of.object_identifier = schema_of.object_identifier
kind_of_too a schema_of.relative_oid = schema_of.relative_oid
kind_of_too a (schema_of.utf8 {c = c} h) = schema_of.utf8 (sizes_too c a h)
kind_of_too a (schema_of.restricted {c = d} c h) =
    schema_of.restricted (λ x. (λ m. code_too x a ((c x).0 m), λ m. (c x).1 (code_too x (turn a) m))) (sizes_too d a h)
kind_of_too a (schema_of.sequence h) = schema_of.sequence h
kind_of_too a (schema_of.set h) = schema_of.set h
kind_of_too a (schema_of.sequence_of {c = c} h) = schema_of.sequence_of (sizes_too c a h)
kind_of_too a (schema_of.set_of {c = c} h) = schema_of.set_of (sizes_too c a h)
kind_of_too a (schema_of.choice h) = schema_of.choice h

pub type_too : {p : Program} {i j : ℕ} {r : types.Kind}
    → AreAlike p i j
    → IsTypeOf p (Allows p) (AllowsCode p) i r
    → IsTypeOf p (Allows p) (AllowsCode p) j r
type_too {p} {i} {j} a h = record {
  core = h.core;
  type = h.type;
  chain = subst (λ (c : ℕ). IsUnderlying p.types j c) (one_core p.types i a.core h.core a.one h.chain) a.other;
  there = h.there;
  within = h.within;
  assigns = h.assigns;
  is_so = h.is_so;
  kind = kind_of_too a h.kind;
}

-- ---- what constraints leave

same_least : (P Q : ℤ → Type 0) (o : Option ℤ) → ((z : ℤ) → (P z ↔ Q z)) → IsLeast P o → IsLeast Q o
same_least P Q None s l = λ m h. l m (λ z i. h z ((s z).0 i))
same_least P Q (Some z) s l = ((s z).0 l.0, λ y i. l.1 y ((s y).1 i))

same_greatest : (P Q : ℤ → Type 0) (o : Option ℤ) → ((z : ℤ) → (P z ↔ Q z)) → IsGreatest P o → IsGreatest Q o
same_greatest P Q None s l = λ m h. l m (λ z i. h z ((s z).0 i))
same_greatest P Q (Some z) s l = ((s z).0 l.0, λ y i. l.1 y ((s y).1 i))

visible_too : {p : Program} {k : WrittenKind} {i j : ℕ} (b : Bounds) → LeaveTheSame p k i j → AreVisible p k i b → AreVisible p k j b
visible_too {p} {k} {i} {j} b s v = record {
  least = same_least (IsInRoot p k i) (IsInRoot p k j) b.least s.root v.least;
  greatest = same_greatest (IsInRoot p k i) (IsInRoot p k j) b.greatest s.root v.greatest;
  extensible = (λ h. s.extensible.0 (v.extensible.0 h), λ h. v.extensible.1 (s.extensible.1 h));
}

constraint_too : {p : Program} {k : WrittenKind} {i j : ℕ} {c : Constraint} → LeaveTheSame p k i j → IsConstraintOf p k i c → IsConstraintOf p k j c
constraint_too {c = c} s h = record {
  numbers = h.numbers;
  sizes = h.sizes;
  allowed = λ z n. (λ x. allowed_too s ((h.allowed z n).0 x), λ x. (h.allowed z n).1 (allowed_too (turn_same s) x));
  visible = visible_too c.visible s h.visible;
}

constrained_too : {p : Program} {i j : ℕ} {M : Name} {k : WrittenKind} {r : types.Kind}
    → IsKindOf p (Allows p) (AllowsCode p) i M k r
    → LeaveTheSame p k i j
    → IsConstrained p k i r
    → IsConstrained p k j r
constrained_too schema_of.boolean s h = tt
constrained_too (schema_of.integer g) s h = constraint_too s h
constrained_too (schema_of.enumerated g) s h = tt
constrained_too (schema_of.bits g) s h = constraint_too s h
constrained_too (schema_of.named_bits g) s h = tt
constrained_too (schema_of.octets g) s h = constraint_too s h
constrained_too schema_of.null s h = tt
constrained_too schema_of.object_identifier s h = tt
constrained_too schema_of.relative_oid s h = tt
constrained_too (schema_of.utf8 g) s h = constraint_too s h
constrained_too (schema_of.restricted d g) s h =
    (record { alphabet = h.0.alphabet; same = λ c. (λ m. (s.alphabet c).0 ((h.0.same c).0 m), λ m. (h.0.same c).1 ((s.alphabet c).1 m)) }, constraint_too s h.1)
constrained_too (schema_of.sequence g) s h = tt
constrained_too (schema_of.set g) s h = tt
constrained_too (schema_of.sequence_of g) s h = constraint_too s h
constrained_too (schema_of.set_of g) s h = constraint_too s h
constrained_too (schema_of.choice g) s h = tt

own : {p : Program} {i : ℕ} {r : types.Kind} (h : IsTypeOf p (Allows p) (AllowsCode p) i r) → IsTypeOfKind p.types i h.type.kind
own h = record { core = h.core; type = h.type; chain = h.chain; there = h.there; kind = refl }

settled_too : {p : Program} {i j : ℕ} (ts us : List Tag) (r : types.Kind)
    → AreAlike p i j
    → IsTypeOf p (Allows p) (AllowsCode p) i r
    → IsProgramType p i (record { tags = ts; kind = r })
    → (q : Path) × Tags p.types j q × (map label us ≡ standing q)
    → IsProgramType p j (record { tags = us; kind = r })
settled_too {p} {i} {j} ts us r a h f t =
    let same = one_kind p.types i f.kind h.type.kind f.is (own h) in
    let u = own h in
    let v = kind_too a u in
    record {
      tags = record { path = t.0; tags = t.1; same = t.2 };
      kind = h.type.kind;
      is = v;
      constrained = constrained_too h.kind (a.same h.type.kind u v) (subst (λ (k : WrittenKind). IsConstrained p k i r) same f.constrained);
      items = f.items;
    }

pub resolved_too : (p : Program) (i j : ℕ) (ts us : List Tag) (r : types.Kind)
    → AreAlike p i j
    → IsResolved p i (record { tags = ts; kind = r })
    → (q : Path) × Tags p.types j q × (map label us ≡ standing q)
    → IsResolved p j (record { tags = us; kind = r })
resolved_too p i j ts us r a h t = record { is = type_too a h.is; settled = settled_too ts us r a h.is h.settled t }
