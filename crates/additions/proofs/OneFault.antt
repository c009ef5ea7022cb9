-- A program has at most one first fault of additions.
use Rattle.std.proofs.Common.{◌≡◌, ℕ, Bool, inl, inr, List, Some, refl, sym, subst, ap, ◌∙◌}
use Rattle.std.specs.Prelude.{Option, None, option_map, slice_get}
use Rattle.std.proofs.lemmas.Bool.{cases_order}
use Rattle.trees.specs.declared.module.TagDefault.{TagDefault}
use Rattle.trees.specs.declared.location.SourceLocation.{SourceLocation}
use Rattle.trees.specs.declared.types.EnumeratedItem.{EnumeratedItem}
use Rattle.trees.specs.declared.types.ListKind.{ListKind}
use Rattle.trees.specs.declared.types.Simple.TheVariants as simples
use Rattle.trees.specs.Types.{an_enumerated}
use Rattle.trees.specs.Values.{Name}
use Rattle.names.specs.Faults.{fault_module, fault_name}
use Rattle.resolve.specs.Program.{Program, WrittenProgram}
use Rattle.tagging.specs.Faults.{IsWrittenIn}
use Rattle.type_table.specs.declared.table.ListMember.{ListMember}
use Rattle.type_table.specs.declared.table.Shape.{Shape}
use Rattle.type_table.specs.declared.table.Shape.TheVariants as shapes
use Rattle.type_table.specs.declared.table.TypeNode.{TypeNode}
use Rattle.type_table.specs.FirstInList.{IsSameLocation}
use Rattle.type_table.specs.Table.{Part, Type', WrittenKind, simple, members, IsWrittenType}
use Rattle.additions.specs.declared.check.Rule.{Rule}
use Rattle.additions.specs.declared.check.Rule.TheVariants.{MarkerPlace, AdditionOrder, DefaultAddition}
use Rattle.additions.specs.declared.fault.ExtFault.{ExtFault}
use Rattle.additions.specs.declared.fault.ExtFault.TheVariants as faults
use Rattle.additions.specs.Additions.{IsDefaultAddition, IsFirstBreak, IsMisplaced, IsPlacedAt, HasNoDefaultAt, BreaksIn, unmarked, after_addition, out_of_brackets, Breaks, in_list, in_items}
use Rattle.additions.specs.Faults.{IsRightAdditionsFault}
use Rattle.additions.specs.First.{IsFirstAdditionAt, IsFirstNamed, ReportOneAddition}
use Rattle.additions.specs.proving.Checks.{IsItemAt, IsMemberAt, IsNamedAt}
use Rattle.additions.proofs.Breaking.{no_break}

same : {X : Type 0} {a b : X} → Some a ≡ Some b → a ≡ b
same h = cc

misplaced : (marker : Bool) (cs : List Part) (n : ℕ) → IsMisplaced marker cs n → IsPlacedAt marker cs n → ⊥
misplaced marker cs n (unmarked c e a f) g = let x = (g c e).marked a in absurd cc
misplaced marker cs n (after_addition q c x e l f a nay) g = nay ((g c e).following q x l f a)
misplaced marker cs n (out_of_brackets s) g =
    s.left ((g s.member s.there).together s.one s.other s.group s.within s.outside s.in_turn s.before s.at_one s.at_other s.within_group s.of_group)

defaulted : (cs : List Part) (n : ℕ) → IsDefaultAddition cs n → HasNoDefaultAt cs n → ⊥
defaulted cs n d g = let x = g d.member d.there d.added in let y = d.has_value in absurd cc

module _ (ts : List Type') where
  -- a member breaks one rule, that which is checked first
  one_in_list : (r q : Rule) (k : ListKind) (m : Bool) (cs : List Part) (n : ℕ) → BreaksIn ts r k m cs n →
      BreaksIn ts q k m cs n → r ≡ q
  one_in_list MarkerPlace MarkerPlace k m cs n b c = refl
  one_in_list MarkerPlace DefaultAddition k m cs n b c = absurd (misplaced m cs n b c.1)
  one_in_list MarkerPlace AdditionOrder k m cs n b c = absurd (misplaced m cs n b c.2)
  one_in_list DefaultAddition MarkerPlace k m cs n b c = absurd (misplaced m cs n c b.1)
  one_in_list DefaultAddition DefaultAddition k m cs n b c = refl
  one_in_list DefaultAddition AdditionOrder k m cs n b c = absurd (defaulted cs n b.0 c.3)
  one_in_list AdditionOrder MarkerPlace k m cs n b c = absurd (misplaced m cs n c b.2)
  one_in_list AdditionOrder DefaultAddition k m cs n b c = absurd (defaulted cs n c.0 b.3)
  one_in_list AdditionOrder AdditionOrder k m cs n b c = refl

  one_kind : (i : ℕ) (k l : WrittenKind) (d e : TagDefault) (p q : _) → IsWrittenType ts i k d p →
      IsWrittenType ts i l e q → k ≡ l
  one_kind i k l d e p q a b = ap (λ (t : Type'). t.kind) (same (sym a.found ∙ b.found))

  moved : (r : Rule) (k l : ListKind) (m o : Bool) (cs ds : List Part) (n : ℕ) → members k m cs ≡ members l o ds →
      BreaksIn ts r k m cs n → BreaksIn ts r l o ds n
  moved r k l m o cs ds n e b =
      let a : k ≡ l = cc in
      let f : m ≡ o = cc in
      let g : cs ≡ ds = cc in
      subst (λ z. BreaksIn ts r l o z n) g (subst (λ z. BreaksIn ts r l z cs n) f (subst
      (λ z. BreaksIn ts r z m cs n) a b))

  one_rule : (r q : Rule) (i n : ℕ) → Breaks ts r i n → Breaks ts q i n → r ≡ q
  one_rule r q i n (in_list k m cs d p h b) (in_list l o ds e w g c) =
      one_in_list r q l o ds n (moved r k l m o cs ds n (one_kind i (members k m cs) (members l o ds) d e p w h g) b) c
  one_rule r AdditionOrder i n (in_list k m cs d p h b) (in_items root more e w g c) =
      let x = one_kind i (members k m cs) (simple (an_enumerated root more)) d e p w h g in absurd cc
  one_rule AdditionOrder q i n (in_items root more d p h b) (in_list l o ds e w g c) =
      let x = one_kind i (simple (an_enumerated root more)) (members l o ds) d e p w h g in absurd cc
  one_rule AdditionOrder AdditionOrder i n (in_items root more d p h b) (in_items roots mores e w g c) = refl

  one_type : (r q : Rule) (i j : ℕ) → IsFirstBreak ts r i → IsFirstBreak ts q j → i ≡ j
  one_type r q i j a b =
      elim (cases_order i j) [
        | inl e ↦ e
        | inr s ↦ elim s [
          | inl l ↦ absurd (no_break ts r i a.number a.breaks (b.types_before i a.number l))
          | inr l ↦ absurd (no_break ts q j b.number b.breaks (a.types_before j b.number l))
        ]
      ]

  one_place : (r q : Rule) (i : ℕ) (a : IsFirstBreak ts r i) (b : IsFirstBreak ts q i) → a.number ≡ b.number
  one_place r q i a b =
      elim (cases_order a.number b.number) [
        | inl e ↦ e
        | inr s ↦ elim s [
          | inl l ↦ absurd (no_break ts r i a.number a.breaks (b.places_before a.number l))
          | inr l ↦ absurd (no_break ts q i b.number b.breaks (a.places_before b.number l))
        ]
      ]

  one_break : (r q : Rule) (i j : ℕ) → IsFirstBreak ts r i → IsFirstBreak ts q j → (r ≡ q) × (i ≡ j)
  one_break r q i j a b =
      let e = one_type r q i j a b in
      let c = subst (λ z. IsFirstBreak ts q z) (sym e) b in
      (one_rule r q i a.number a.breaks (subst (λ z. Breaks ts q i z) (sym (one_place r q i a c)) c.breaks), e)

-- ---- the module and the assignment

one_home : (p : Program) (i j : ℕ) (M x N y : Name) → i ≡ j → IsWrittenIn p i M x → IsWrittenIn p j N y →
    (M ≡ N) × (x ≡ y)
one_home p i j M x N y e a b =
    let t = same (sym a.found ∙ ap (λ k. slice_get p.types k) e ∙ b.found) in
    let s = same (sym a.assigned.assigned ∙ ap (λ (z : Type'). slice_get p.assignments z.assignment) t ∙ b.assigned.assigned) in
    let h = same (sym a.assigned.header ∙ ap (λ z. slice_get p.headers z.0) s ∙ b.assigned.header) in
    (ap (λ z. z.0) h, ap (λ z. z.1) s)

-- the name of a member or of an item is at one offset
one_item : (o : Option (List EnumeratedItem)) (n j k : ℕ) → IsItemAt o n j → IsItemAt o n k → j ≡ k
one_item None n j k a b = absurd a
one_item (Some is) n j k a b =
    sym a.2 ∙ ap (λ (i : EnumeratedItem). i.name.at) (same (sym a.1 ∙ b.1)) ∙ b.2

one_member : (cs : List ListMember) (n j k : ℕ) → IsMemberAt cs n j → IsMemberAt cs n k → j ≡ k
one_member cs n j k a b = sym a.2 ∙ ap (λ (c : ListMember). c.name.at) (same (sym a.1 ∙ b.1)) ∙ b.2

one_offset : (s : Shape) (n j k : ℕ) → IsNamedAt s n j → IsNamedAt s n k → j ≡ k
one_offset (shapes.Members l m cs) n j k a b = one_member cs.items n j k a b
one_offset (shapes.Simple (simples.Enumerated e)) n j k a b =
    one_item (option_map (λ is. is.items) e.value.additions) n j k a b
one_offset (shapes.Simple simples.Boolean) n j k a b = absurd a
one_offset (shapes.Simple (simples.Integer ns)) n j k a b = absurd a
one_offset (shapes.Simple (simples.BitString bs)) n j k a b = absurd a
one_offset (shapes.Simple simples.OctetString) n j k a b = absurd a
one_offset (shapes.Simple simples.Null) n j k a b = absurd a
one_offset (shapes.Simple simples.ObjectIdentifier) n j k a b = absurd a
one_offset (shapes.Simple simples.RelativeOid) n j k a b = absurd a
one_offset (shapes.Simple simples.Utf8String) n j k a b = absurd a
one_offset (shapes.Simple (simples.Restricted r)) n j k a b = absurd a
one_offset (shapes.Reference i) n j k a b = absurd a
one_offset (shapes.Tagged t w i) n j k a b = absurd a
one_offset (shapes.Elements l i) n j k a b = absurd a

-- two first faults of one type are at one offset
same_offset : (ts : List Type') (ws : List TypeNode) (r q : Rule) (i j m n : ℕ) → i ≡ j →
    IsFirstNamed ts ws r i m → IsFirstNamed ts ws q j n → m ≡ n
same_offset ts ws r q i j m n e a b =
    let c = subst (λ z. IsFirstNamed ts ws q z n) (sym e) b in
    let w = same (sym a.there ∙ c.there) in
    let d = subst (λ (v : TypeNode). IsNamedAt v.shape c.first.number n) (sym w) c.named in
    one_offset a.written.shape a.first.number m n a.named
    (subst (λ z. IsNamedAt a.written.shape z n) (sym (one_place ts r q i a.first c.first)) d)

one_spot : (w : WrittenProgram) (r q : Rule) (s t : SourceLocation) → IsFirstAdditionAt w r s →
    IsFirstAdditionAt w q t → (r ≡ q) × IsSameLocation s t
one_spot w r q s t a b =
    let o = one_break w.program.types r q a.ty b.ty a.first.first b.first.first in
    let h = one_home w.program a.ty b.ty (fault_module s) (fault_name s) (fault_module t) (fault_name t) o.1 a.is_so b.is_so in
    (o.0, (h.0, h.1, same_offset w.program.types w.types r q a.ty b.ty s.at t.at o.1 a.first b.first))

pub one_fault : (w : WrittenProgram) (e f : ExtFault) → IsRightAdditionsFault w e → IsRightAdditionsFault w f →
    ReportOneAddition e f
one_fault w faults.Memory f a b = tt
one_fault w (faults.MarkerPlace s) faults.Memory a b = tt
one_fault w (faults.MarkerPlace s) (faults.MarkerPlace t) a b = (one_spot w MarkerPlace MarkerPlace s t a b).1
one_fault w (faults.MarkerPlace s) (faults.AdditionOrder t) a b =
    let q = (one_spot w MarkerPlace AdditionOrder s t a b).0 in absurd cc
one_fault w (faults.MarkerPlace s) (faults.DefaultAddition t) a b =
    let q = (one_spot w MarkerPlace DefaultAddition s t a b).0 in absurd cc
one_fault w (faults.AdditionOrder s) faults.Memory a b = tt
one_fault w (faults.AdditionOrder s) (faults.MarkerPlace t) a b =
    let q = (one_spot w AdditionOrder MarkerPlace s t a b).0 in absurd cc
one_fault w (faults.AdditionOrder s) (faults.AdditionOrder t) a b =
    (one_spot w AdditionOrder AdditionOrder s t a b).1
one_fault w (faults.AdditionOrder s) (faults.DefaultAddition t) a b =
    let q = (one_spot w AdditionOrder DefaultAddition s t a b).0 in absurd cc
one_fault w (faults.DefaultAddition s) faults.Memory a b = tt
one_fault w (faults.DefaultAddition s) (faults.MarkerPlace t) a b =
    let q = (one_spot w DefaultAddition MarkerPlace s t a b).0 in absurd cc
one_fault w (faults.DefaultAddition s) (faults.AdditionOrder t) a b =
    let q = (one_spot w DefaultAddition AdditionOrder s t a b).0 in absurd cc
one_fault w (faults.DefaultAddition s) (faults.DefaultAddition t) a b =
    (one_spot w DefaultAddition DefaultAddition s t a b).1
