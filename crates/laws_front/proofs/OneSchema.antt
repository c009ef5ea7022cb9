-- A program has one schema, but for the ranges of its constraints.
use Rattle.std.proofs.Common.{◌≡◌, ℕ, List, Some, sym, subst, ◌∙◌}
use Rattle.std.specs.Prelude.{slice_get}
use Rattle.asn_base.specs.Types.{Resolved}
use Rattle.trees.specs.Values.{Name}
use Rattle.type_table.specs.Table.{WrittenKind, Type'}
use Rattle.resolve.specs.Program.{Program, IsAssignment}
use Rattle.schema_of.specs.SchemaOf.{IsKindOf, IsTypeOf}
use Rattle.settled.specs.Settled.{IsConstrained, IsProgramSchema, IsProgramType}
use Rattle.values.specs.Allowing.{Allows, AllowsCode}
use Rattle.laws_front.specs.OneSchema.{IsSameKind, IsSameSchema}
use Rattle.laws_front.proofs.Cores.{kind_of_core, one_home, one_type}
use Rattle.laws_front.proofs.OneKind.{OneNotation, one_kind}

-- both schemas have the kind of one written type
same_kind : (p : Program) (i : ℕ) (r q : Resolved)
    → OneNotation p
    → IsTypeOf p (Allows p) (AllowsCode p) i r.kind
    → IsTypeOf p (Allows p) (AllowsCode p) i q.kind
    → IsProgramType p i r
    → IsProgramType p i q
    → IsSameKind r.kind q.kind
same_kind p i r q one a b c d =
    let t : b.type ≡ a.type = one_type p.types i b.core a.core b.type a.type b.chain b.there a.chain a.there in
    let home : b.within ≡ a.within =
    one_home p a.type.assignment b.within a.within b.assigns a.assigns
    (subst (λ (w : Type'). IsAssignment p w.assignment b.within b.assigns) t b.is_so)
    a.is_so in
    let other : IsKindOf p (Allows p) (AllowsCode p) i a.within a.type.kind q.kind =
    subst (λ (M : Name). IsKindOf p (Allows p) (AllowsCode p) i M a.type.kind q.kind) home
    (subst (λ (w : Type'). IsKindOf p (Allows p) (AllowsCode p) i b.within w.kind q.kind) t b.kind) in
    let e : c.kind ≡ a.type.kind = kind_of_core p.types i a.core a.type c.kind a.chain a.there c.is in
    let f : d.kind ≡ a.type.kind = kind_of_core p.types i a.core a.type d.kind a.chain a.there d.is in
    one_kind p i a.within a.type.kind r.kind q.kind one a.kind other
    (subst (λ (k : WrittenKind). IsConstrained p k i r.kind) e c.constrained)
    (subst (λ (k : WrittenKind). IsConstrained p k i q.kind) f d.constrained)
    c.items
    d.items

-- the tags of a type are those of both schemas
abbrev pub OneTags : Type 0
OneTags = (p : Program) (s u : List Resolved) (i : ℕ) (r q : Resolved) →
    IsProgramSchema p s →
    IsProgramSchema p u →
    slice_get s i ≡ Some r →
    slice_get u i ≡ Some q →
    r.tags ≡ q.tags

pub one_schema : OneTags → (p : Program) (s u : List Resolved)
    → OneNotation p
    → IsProgramSchema p s
    → IsProgramSchema p u
    → IsSameSchema s u
one_schema tags p s u one a b = record {
  as_many = a.types.as_many ∙ sym b.types.as_many;
  types = λ i r q e f. record {
    tags = tags p s u i r q a b e f;
    kind = same_kind p i r q one (a.types.each i r e) (b.types.each i q f) (a.each i r e) (b.each i q f);
  };
}
