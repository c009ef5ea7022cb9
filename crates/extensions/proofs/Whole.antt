-- A resolved type of its parts.
use Rattle.std.proofs.Common.{◌≡◌, ℕ, refl, sym, ap, subst, ◌∙◌}
use Rattle.std.specs.Prelude.{Bool, true, false, List, [], ◌∷◌, map, length, ◌==◌, Some, slice_get}
use Rattle.asn_base.specs.declared.tag.Tag.{Tag}
use Rattle.asn_base.specs.Types.{Resolved}
use Rattle.asn_base.specs.Types as types
use Rattle.type_table.specs.declared.table.Shape.{Shape}
use Rattle.type_table.specs.Seen.{kind_of}
use Rattle.type_table.specs.Table.{WrittenKind}
use Rattle.resolve.specs.Program.{Program}
use Rattle.tagging.specs.Tags.{Path, Tags, label}
use Rattle.settled.specs.values.Allowing.{Allows, AllowsCode}
use Rattle.settled.specs.schema_of.SchemaOf.{IsKindOf, IsTypeOf}
use Rattle.settled.specs.Settled.{IsProgramType, standing}
use Rattle.extensions.specs.proving.Cores.{IsCoreIn, IsCoreOf, IsCoreType}

pub none_mapped : {A B : Type 0} (f : A → B) (xs : List A) → length xs ≡ 0 → map f xs ≡ []
none_mapped f [] e = refl
none_mapped f (x ∷ xs) e = absurd cc

pub some_mapped : {A B : Type 0} (f : A → B) (xs : List A) → false ≡ (length xs == 0) → map f xs ≡ [] → ⊥
some_mapped f [] e q = let r : false ≡ true = e in cc
some_mapped f (x ∷ xs) e q = cc

-- what is seen of the linked modules is seen of the bounded ones
pub same_core : (q p : Program) (i : ℕ) (s : Shape) (k : WrittenKind) → q ≡ p → kind_of s ≡ k → IsCoreType q i (kind_of s) → IsCoreType p i k
same_core q p i s k e f t = subst (λ x. IsCoreType x i k) e (subst (λ x. IsCoreType q i x) f t)

pub core_in : (p : Program) (i : ℕ) (k : WrittenKind) (r : types.Kind) (t : IsCoreType p i k) → IsCoreOf p i t.within k r → IsCoreIn p i r
core_in p i k r t h = record { kind = k; is = t; such = h }

pub is_type : (p : Program) (i : ℕ) (r : types.Kind) → IsCoreIn p i r → IsTypeOf p (Allows p) (AllowsCode p) i r
is_type p i r h = record {
  core = h.is.core;
  type = h.is.type;
  chain = h.is.chain;
  there = h.is.there;
  within = h.is.within;
  assigns = h.is.assigns;
  is_so = h.is.is_so;
  kind = subst (λ k. IsKindOf p (Allows p) (AllowsCode p) i h.is.within k r) (sym h.is.kind) h.such.kind;
}

pub is_program_schema : (p : Program) (i : ℕ) (ts : List Tag) (r : types.Kind)
    → (q : Path) × Tags p.types i q × (map label ts ≡ standing q)
    → IsCoreIn p i r
    → IsProgramType p i (record { tags = ts; kind = r })
is_program_schema p i ts r t h = record {
  tags = record { path = t.0; tags = t.1; same = t.2 };
  kind = h.kind;
  is = record { core = h.is.core; type = h.is.type; chain = h.is.chain; there = h.is.there; kind = h.is.kind };
  constrained = h.such.constrained;
  items = h.such.items;
}
