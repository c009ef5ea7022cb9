-- One place in two lists, and what is read there.
use Rattle.std.proofs.Common.{inl, inr, ◌≡◌, ℕ, refl, sym, ap, ap₂, map, subst, ◌∙◌, Some, Bool}
use Rattle.std.specs.Prelude.{List, [], ◌∷◌, ◌++◌, ◌⊎◌, slice_get}
use Rattle.asn_base.specs.Abstract.{Row}
use Rattle.trees.specs.declared.types.ListKind.{ListKind}
use Rattle.trees.specs.declared.types.PresenceSyntax.{PresenceSyntax}
use Rattle.trees.specs.declared.types.PresenceSyntax.TheVariants as syntax
use Rattle.trees.specs.declared.value.Named.{Named}
use Rattle.trees.specs.declared.value.ValueSyntax.{ValueSyntax}
use Rattle.trees.specs.Values.{Name, Tree, member_of, name_at}
use Rattle.names.specs.Modules.{OccursIn, AreDifferent}
use Rattle.names.specs.proving.Distinct.{occurs_map}
use Rattle.type_table.specs.declared.table.ListMember.{ListMember}
use Rattle.type_table.specs.declared.table.TypeNode.{TypeNode}
use Rattle.type_table.specs.Table.{Type', Part, next}
use Rattle.resolve.specs.Program.{Program, WrittenProgram, IsAssignment}
use Rattle.value_notations.specs.Notations.{Fields, NotatedElements, field_names}
use Rattle.value_notations.specs.Written.{list_members}
use Rattle.value_notations.specs.proving.Places.{one_some, one_place, mapped_at}
use Rattle.value_notations.specs.proving.Following.{walks_to_one, one_header}
use Rattle.typed_values.specs.declared.fault.ValueFault.{ValueFault}
use Rattle.typed_values.specs.Faults.{IsRightValueFault, IsListIn, IsWrittenDefault}

-- ---- lists

-- an element is at the same place of a list, or at an earlier or a later one
pub split_order : {A : Type 0} (xs : List A) (x : A) (us ys : List A) (y : A) (vs : List A) → xs ++ x ∷ us ≡ ys ++ y ∷ vs →
    ((xs ≡ ys) × (x ≡ y))
    ⊎ (((zs : List A) × (ys ≡ xs ++ x ∷ zs)) ⊎ ((zs : List A) × (xs ≡ ys ++ y ∷ zs)))
split_order [] x us [] y vs e = let f : x ≡ y = cc in inl (refl, f)
split_order [] x us (b ∷ ys) y vs e = let f : b ≡ x = cc in inr (inl (ys, ap (λ z. z ∷ ys) f))
split_order (a ∷ xs) x us [] y vs e = let f : a ≡ y = cc in inr (inr (xs, ap (λ z. z ∷ xs) f))
split_order (a ∷ xs) x us (b ∷ ys) y vs e =
    let f : a ≡ b = cc in
    let g : xs ++ x ∷ us ≡ ys ++ y ∷ vs = cc in
    elim (split_order xs x us ys y vs g) [
      | inl h ↦ inl (ap₂ (λ z zs. z ∷ zs) f h.0, h.1)
      | inr h ↦ elim h [
        | inl l ↦ inr (inl (l.0, ap₂ (λ z zs. z ∷ zs) (sym f) l.1))
        | inr l ↦ inr (inr (l.0, ap₂ (λ z zs. z ∷ zs) f l.1))
      ]
    ]

pub one_written : (q : PresenceSyntax) (d e : ValueSyntax) → IsWrittenDefault q d → IsWrittenDefault q e → d ≡ e
one_written (syntax.Default b) d e f g = sym f ∙ g
one_written syntax.Mandatory d e f g = absurd f
one_written syntax.Optional d e f g = absurd f

pub one_named : (fs : List (Named ValueSyntax)) (f g : Named ValueSyntax) → AreDifferent (field_names (map member_of fs)) →
    OccursIn fs f → OccursIn fs g → name_at f.name ≡ name_at g.name → f ≡ g
one_named fs f g d s t e =
    let name = λ (z : Name × Tree). z.0 in
    let first = mapped_at name (map member_of fs) s.0 (member_of f) (occurs_map member_of fs s.0 f s.1) in
    let second = mapped_at name (map member_of fs) t.0 (member_of g) (occurs_map member_of fs t.0 g t.1) in
    let places = one_place (field_names (map member_of fs)) (name_at g.name) s.0 t.0 d (first ∙ ap Some e) second in
    one_some (slice_get fs s.0) f g s.1 (subst (λ (i : ℕ). slice_get fs i ≡ Some g) (sym places) t.1)

-- ---- what is read the same

pub moved_fault : {w : WrittenProgram} {n rest more a b : ℕ} {ps qs : List ℕ} {K L : Name} {l m : ValueSyntax} {f : ValueFault} →
    rest ≡ more → ps ≡ qs → K ≡ L → a ≡ b → l ≡ m →
    IsRightValueFault w n more qs L b m f → IsRightValueFault w n rest ps K a l f
moved_fault {w} {n} {rest} {more} {a} {b} {ps} {qs} {K} {L} {l} {m} {f} c d e g h x =
    subst (λ (z : ℕ). IsRightValueFault w n z ps K a l f) (sym c)
    (subst (λ (z : List ℕ). IsRightValueFault w n more z K a l f) (sym d)
    (subst (λ (z : Name). IsRightValueFault w n more qs z a l f) (sym e)
    (subst (λ (z : ℕ). IsRightValueFault w n more qs L z l f) (sym g)
    (subst (λ (z : ValueSyntax). IsRightValueFault w n more qs L b z f) (sym h) x))))

pub moved_elements : {p : Program} {ps qs : List ℕ} {K L : Name} {a b : ℕ} {ts : List Tree} {r : Row} →
    ps ≡ qs → K ≡ L → a ≡ b → NotatedElements p qs L b ts r → NotatedElements p ps K a ts r
moved_elements {p} {ps} {qs} {K} {L} {a} {b} {ts} {r} d e g x =
    subst (λ (z : List ℕ). NotatedElements p z K a ts r) (sym d)
    (subst (λ (z : Name). NotatedElements p qs z a ts r) (sym e)
    (subst (λ (z : ℕ). NotatedElements p qs L z ts r) (sym g) x))

pub moved_fields : {p : Program} {ps qs : List ℕ} {K L : Name} {fs gs : List (Named ValueSyntax)} {cs : List Part} {r : Row} →
    ps ≡ qs → K ≡ L → fs ≡ gs → Fields p qs L (map member_of gs) cs r → Fields p ps K (map member_of fs) cs r
moved_fields {p} {ps} {qs} {K} {L} {fs} {gs} {cs} {r} d e g x =
    subst (λ (z : List ℕ). Fields p z K (map member_of fs) cs r) (sym d)
    (subst (λ (z : Name). Fields p qs z (map member_of fs) cs r) (sym e)
    (subst (λ (z : List (Named ValueSyntax)). Fields p qs L (map member_of z) cs r) (sym g) x))

-- two lists of a type are one list, written once
pub one_list : {w : WrittenProgram} {i : ℕ} {k j : ListKind} {d e : Bool} {cs bs : List ListMember} {N O : Name} →
    IsListIn w i k d cs N → IsListIn w i j e bs O → (N ≡ O) × (cs ≡ bs)
one_list {w} {i} {k} {j} {d} {e} {cs} {bs} {N} {O} x y =
    let p = w.program in
    let a = x.written in
    let b = y.written in
    let cores = walks_to_one (next p.types) a.chain.steps b.chain.steps i a.core b.core a.chain.chain a.chain.ends b.chain.chain b.chain.ends in
    let types = one_some (slice_get p.types a.core) a.type b.type a.there
    (subst (λ (z : ℕ). slice_get p.types z ≡ Some b.type) (sym cores) b.there) in
    let nodes = one_some (slice_get w.types a.core) x.text.node y.text.node x.text.there
    (subst (λ (z : ℕ). slice_get w.types z ≡ Some y.text.node) (sym cores) y.text.there) in (
      one_header p a.type.assignment N O a.assigns b.assigns a.is_so
          (subst (λ (t : Type'). IsAssignment p t.assignment O b.assigns) (sym types) b.is_so),
      sym x.text.members ∙ ap (λ (t : TypeNode). list_members t.shape) nodes ∙ y.text.members,
    )
