-- What each part of a definition says of the place of a fault of a value: the fault has a notation of the text, and not
-- only one with the same tree.
use Rattle.std.proofs.Common.{◌≡◌, ◌<◌, ◌⊎◌, ◌∙◌, ℕ, List, [], ◌∷◌, ◌++◌, Option, Some, inl, inr, zero, suc, ap, map, refl, sym, subst, arith}
use Rattle.std.specs.Prelude.{slice_get}
use Rattle.std.proofs.lemmas.Option.{same_Some}
use Rattle.asn_base.specs.Abstract.{Row}
use Rattle.asn_base.specs.Typed.{row_nodes}
use Rattle.trees.specs.declared.types.PresenceSyntax.{PresenceSyntax}
use Rattle.trees.specs.declared.types.PresenceSyntax.TheVariants as presence
use Rattle.trees.specs.declared.value.Named.{Named}
use Rattle.trees.specs.declared.value.ValueForm.{ValueForm}
use Rattle.trees.specs.declared.value.ValueForm.TheVariants as forms
use Rattle.trees.specs.declared.value.ValueSyntax.{ValueSyntax}
use Rattle.trees.specs.declared.value.ValueSyntax.TheViews.{out-ValueSyntax}
use Rattle.trees.specs.Values.{Name, Tree, tree_of, reference}
use Rattle.names.specs.declared.sources.ValueAt.{ValueAt}
use Rattle.names.specs.Modules.{OccursIn}
use Rattle.type_table.specs.declared.table.ListMember.{ListMember}
use Rattle.type_table.specs.declared.table.TypeNode.{TypeNode}
use Rattle.type_table.specs.Table.{Part, WrittenKind}
use Rattle.trees.specs.declared.types.ListKind.{ListKind}
use Rattle.resolve.specs.Program.{Program, WrittenProgram}
use Rattle.value_notations.specs.Notations.{NotatedElements, no_element}
use Rattle.value_notations.specs.References.{IsLast, own, referred}
use Rattle.value_notations.specs.Written.{IsFirstInBraces, IsLastAt, IsReachedNotation, assigned, chosen_at, braced_fields, form_chosen, form_fields, form_values, itself, list_members, braced_values}
use Rattle.typed_values.specs.Faults.{AreLeftFor, HasLeafIn, HasNames, IsCause, IsCircularNameIn, IsLostAt, IsRightValueFault, IsUnknownBitIn, IsWrittenDefault}
use Rattle.typed_values.specs.Faults as faults
use Rattle.typed_values.specs.declared.fault.Cause.TheVariants as cause
use Rattle.typed_values.specs.declared.fault.ValueFault.{ValueFault}
use Rattle.extensions.specs.Faults.{IsFirstDefault, IsFirstValue, IsWrong}
use Rattle.named_values.specs.front_end.Faults.{Reports}
use Rattle.named_values.specs.front_end.ValueError.{HasNoValue}
use Rattle.value_diagnostics.specs.declared.value_diagnostic.ValueDiagnostic.{ValueDiagnostic}

-- ---- references

-- the notation of the value assignment to which references led last
reached_last : (w : WrittenProgram) (os : List ℕ) (n l : ValueSyntax) (i : ℕ) (ps : List ℕ) → IsReachedNotation w os n (i ∷ ps) l
    → ((i ∷ ps ≡ os) × (l ≡ n)) ⊎ ((v : ValueAt) × (slice_get w.values i ≡ Some v) × (v.syntax ≡ l))
reached_last w os n l i ps itself = inl (refl, refl)
reached_last w os n l i ps (assigned h v) = inr (v.value, v.there, v.notation)

lost_text : (w : WrittenProgram) (k : WrittenKind) (os : List ℕ) (M K : Name) (n l : ValueSyntax)
    (h : IsLostAt w k os M n K l)
    → IsReachedNotation w os n h.meant.lost.opened l
lost_text w k os M K n l h = h.text

round_text : (w : WrittenProgram) (k : WrittenKind) (os : List ℕ) (M K : Name) (i : ℕ) (n l : ValueSyntax)
    (h : IsCircularNameIn w k os M n i K l)
    → IsReachedNotation w os n h.meant.round.opened l
round_text w k os M K i n l h = h.text

names_text : (w : WrittenProgram) (os : List ℕ) (M K : Name) (i : ℕ) (n l : ValueSyntax)
    (P : ListKind → List Part → List Name → Type 0) (h : HasNames w os M K i n l P)
    → IsReachedNotation w os n h.opened l
names_text w os M K i n l P h = h.last.text

-- ---- bits

bit_text : (w : WrittenProgram) (os : List ℕ) (M K : Name) (i : ℕ) (n b : ValueSyntax)
    (h : HasLeafIn w os M K i n (IsUnknownBitIn b))
    → IsReachedNotation w os n h.opened h.notation × IsFirstInBraces h.notation b
bit_text w os M K i n b h = (h.last.text, h.such.1)

module _ (n b : ValueSyntax) (h : IsFirstInBraces n b) where
  in_braces : braced_values n ≡ Some h.0
  in_braces = h.1

  bit_there : slice_get h.0 h.2.number ≡ Some b
  bit_there = h.2.there

  first_bit : (m : ℕ) (c : ValueSyntax) → m < h.2.number → slice_get h.0 m ≡ Some c → tree_of c ≡ tree_of b → ⊥
  first_bit = h.2.before

-- ---- nested notations

-- a component with this presence has notation m as its DEFAULT
abbrev HasDefault : PresenceSyntax → ValueSyntax → Type 0
HasDefault (presence.Default b) m = b.value ≡ m
HasDefault q m = ⊥

held : (q : PresenceSyntax) (m : ValueSyntax) → IsWrittenDefault q m → HasDefault q m
held (presence.Default b) m e = e
held presence.Mandatory m e = absurd e
held presence.Optional m e = absurd e

-- notation m is a part of notation l, or a DEFAULT that is written in a list of the modules
data IsPart (w : WrittenProgram) (l m : ValueSyntax) : Type 0 where
  element : (ns : List ValueSyntax) → braced_values l ≡ Some ns → OccursIn ns m → IsPart w l m
  chosen : (x : Name) → chosen_at l ≡ Some (x, m) → IsPart w l m
  field : (fs : List (Named ValueSyntax)) (g : Named ValueSyntax) → braced_fields l ≡ Some fs → OccursIn fs g → g.value ≡ m →
      IsPart w l m
  default : (i : ℕ) (node : TypeNode) (c : ListMember) → slice_get w.types i ≡ Some node →
      OccursIn (list_members node.shape) c → HasDefault c.presence m → IsPart w l m

-- what a fault has if only one level is left: its notation is this one, or a part of the one that references lead to
record IsNested (w : WrittenProgram) (os : List ℕ) (n m : ValueSyntax) : Type 0 where
  pub opened : List ℕ
  pub last : ValueSyntax
  pub reached : IsReachedNotation w os n opened last
  pub part : IsPart w last m

middle : {A : Type 0} (xs : List A) (x : A) (ys : List A) → OccursIn (xs ++ x ∷ ys) x
middle [] x ys = (zero, refl)
middle (z ∷ xs) x ys = let m = middle xs x ys in (suc m.0, m.1)

own_notation : (w : WrittenProgram) (left : ℕ) (os : List ℕ) (M : Name) (i : ℕ) (n : ValueSyntax) (f : ValueFault)
    → IsRightValueFault w 0 left os M i n f
    → (f.cause ≡ cause.Memory → ⊥)
    → f.at.notation.now ≡ n
own_notation w left os M i n f (faults.no_memory e) m = absurd (m e)
own_notation w left os M i n f (faults.itself a b c g h) m = c

nested : (w : WrittenProgram) (left : ℕ) (os : List ℕ) (M : Name) (i : ℕ) (n : ValueSyntax) (f : ValueFault)
    → IsRightValueFault w 1 left os M i n f
    → (f.cause ≡ cause.Memory → ⊥)
    → (f.at.notation.now ≡ n) ⊎ IsNested w os n f.at.notation.now
nested w left os M i n f (faults.no_memory e) m = absurd (m e)
nested w left os M i n f (faults.itself a b c g h) m = inl c
nested w left os M i n f (faults.in_element {rest = rest} {ps = ps} {K = K} {a = a} {l = l} {m = u} before after k e v r b q s) m =
    let here = own_notation w rest ps K a u f s m in
    inr (record {
      opened = ps;
      last = l;
      reached = e.text;
      part = subst (λ (z : ValueSyntax). IsPart w l z) (sym here) (element (before ++ u ∷ after) v (middle before u after));
    })
nested w left os M i n f (faults.in_alternative {left = rest} {ps = ps} {K = K} {l = l} {m = u} {x = x} c k e q a y s) m =
    let here = own_notation w rest ps K c.ty u f s m in
    inr (record {
      opened = ps;
      last = l;
      reached = e.text;
      part = subst (λ (z : ValueSyntax). IsPart w l z) (sym here) (chosen x q);
    })
nested w left os M i n f (faults.in_field {rest = rest} {ps = ps} {K = K} {fs = fs} c g r t e s) m =
    let here = own_notation w rest ps K c.ty g.value f s m in
    inr (record {
      opened = ps;
      last = r.notation;
      reached = r.last.text;
      part = field fs g r.in_braces t (sym here);
    })
nested w left os M i n f (faults.in_default {ps = ps} {N = N} {d = d} c r out x y s) m =
    let here = own_notation w 16777216 [] N c.ty d f s m in
    let t = r.list.text in
    let at = subst (λ (cs : List ListMember). OccursIn cs c) (sym r.split) (middle r.before c r.after) in
    inr (record {
      opened = ps;
      last = r.notation;
      reached = r.last.text;
      part = subst (λ (z : ValueSyntax). IsPart w r.notation z) (sym here)
          (default r.list.written.core t.node c t.there (subst (λ (cs : List ListMember). OccursIn cs c) (sym t.members) at)
          (held c.presence d y));
    })

-- ---- DEFAULTs, value assignments and notations that a caller gives

value_text : (w : WrittenProgram) (f : ValueFault) (h : IsFirstValue w f)
    → (slice_get w.values h.number ≡ Some h.value)
    × IsRightValueFault w 64 16777216 [] h.within h.value.ty h.value.syntax f
value_text w f h = (h.text, h.wrong.is_so)

default_text : (w : WrittenProgram) (f : ValueFault) (h : IsFirstDefault w f)
    → (node : TypeNode) × (slice_get w.types h.number ≡ Some node) × (list_members node.shape ≡ h.parts)
    × (slice_get h.parts h.first.number ≡ Some h.first.part)
    × ((n : ValueSyntax) × HasDefault h.first.part.presence n
    × IsRightValueFault w 64 16777216 [] h.within h.first.part.ty n f)
default_text w f h =
    let d = h.first.wrong in
    (h.text.node, h.text.there, h.text.members, h.first.there, (d.0, held h.first.part.presence d.0 d.1, d.2.is_so))

given_text : (p : Program) (M : Name) (i : ℕ) (n : ValueSyntax) (t : ValueDiagnostic) (h : HasNoValue p M i n t)
    → (h.text.program ≡ p) × Reports p (IsWrong h.text M i n) t
given_text p M i n t h = (h.of, h.report)

-- ---- two equal notations in braces, with nodes for the braces and the first alone: the fault has the second one

no_level : (w : WrittenProgram) (left : ℕ) (os : List ℕ) (M : Name) (i : ℕ) (n : ValueSyntax) (f : ValueFault)
    → f.cause ≡ cause.Nodes
    → IsRightValueFault w 0 left os M i n f
    → ⊥
no_level w left os M i n f e (faults.no_memory h) = let z = sym h ∙ e in absurd cc
no_level w left os M i n f e (faults.itself a b c g h) = subst (λ c. AreLeftFor 0 left c) e g refl

one_level : (w : WrittenProgram) (left : ℕ) (os : List ℕ) (M : Name) (i : ℕ) (n : ValueSyntax) (f : ValueFault)
    → f.cause ≡ cause.Nodes
    → IsRightValueFault w 1 left os M i n f
    → (left ≡ 0) × (f.at.notation.now ≡ n)
one_level w left os M i n f e (faults.no_memory h) = let z = sym h ∙ e in absurd cc
one_level w left os M i n f e (faults.itself a b c g h) = (subst (λ c. IsCause w 1 left os M i n c) e h, c)
one_level w left os M i n f e (faults.in_element before after k d v r b q s) = absurd (no_level w _ _ _ _ _ f e s)
one_level w left os M i n f e (faults.in_alternative c k d q a y s) = absurd (no_level w _ _ _ _ _ f e s)
one_level w left os M i n f e (faults.in_field c g r t d s) = absurd (no_level w _ _ _ _ _ f e s)
one_level w left os M i n f e (faults.in_default c r out x y s) = absurd (no_level w _ _ _ _ _ f e s)

abbrev IsNoReference : Tree → Type 0
IsNoReference n = (q : Option Name) (x : Name) → n ≡ reference q x → ⊥

none_opened : {p : Program} {k : WrittenKind} {os ps : List ℕ} {M K : Name} {n l : Tree} → IsNoReference n
    → IsLast p k os M n ps K l
    → ps ≡ os
none_opened none (own h) = refl
none_opened none (referred {q = q} {x = x} i a r f v h) = absurd (none q x refl)

none_reached : {w : WrittenProgram} {n l : ValueSyntax} {ps : List ℕ} → IsReachedNotation w [] n ps l → ps ≡ [] → l ≡ n
none_reached itself e = refl
none_reached (assigned h v) e = absurd cc

module _ (w : WrittenProgram) (M : Name) (i : ℕ) (n a b : ValueSyntax) (f : ValueFault) (none : IsNoReference (tree_of n))
    (braces : braced_values n ≡ Some (a ∷ b ∷ [])) (same : tree_of a ≡ tree_of b) (nodes : f.cause ≡ cause.Nodes) where
  at_last : {k : WrittenKind} {ps : List ℕ} {K : Name} {l : ValueSyntax} → IsLastAt w k [] M n ps K l → l ≡ n
  at_last h = none_reached h.text (none_opened none h.last)

  no_fields : (x : ValueForm ValueSyntax) (fs : List (Named ValueSyntax)) → form_values x ≡ Some (a ∷ b ∷ [])
      → form_fields x ≡ Some fs
      → ⊥
  no_fields forms.True fs e g = absurd cc
  no_fields forms.False fs e g = absurd cc
  no_fields forms.Null fs e g = absurd cc
  no_fields (forms.Number z) fs e g = absurd cc
  no_fields (forms.BinaryString z) fs e g = absurd cc
  no_fields (forms.HexString z) fs e g = absurd cc
  no_fields (forms.CharacterString z) fs e g = absurd cc
  no_fields (forms.Reference z) fs e g = absurd cc
  no_fields (forms.Chosen y z) fs e g = absurd cc
  no_fields forms.Empty fs e g = absurd cc
  no_fields (forms.Numbers z) fs e g = absurd cc
  no_fields (forms.Items z) fs e g = absurd cc
  no_fields (forms.Fields z) fs e g = absurd cc

  no_choice : (x : ValueForm ValueSyntax) (c : Name × ValueSyntax) → form_values x ≡ Some (a ∷ b ∷ [])
      → form_chosen x ≡ Some c
      → ⊥
  no_choice forms.True c e g = absurd cc
  no_choice forms.False c e g = absurd cc
  no_choice forms.Null c e g = absurd cc
  no_choice (forms.Number z) c e g = absurd cc
  no_choice (forms.BinaryString z) c e g = absurd cc
  no_choice (forms.HexString z) c e g = absurd cc
  no_choice (forms.CharacterString z) c e g = absurd cc
  no_choice (forms.Reference z) c e g = absurd cc
  no_choice (forms.Chosen y z) c e g = absurd cc
  no_choice forms.Empty c e g = absurd cc
  no_choice (forms.Numbers z) c e g = absurd cc
  no_choice (forms.Items z) c e g = absurd cc
  no_choice (forms.Fields z) c e g = absurd cc

  after_one : {p : Program} {ps : List ℕ} {K : Name} {j : ℕ} {r : Row} (before after : List ValueSyntax)
      (u : ValueSyntax)
      → NotatedElements p ps K j (map tree_of before) r
      → row_nodes r ≡ 1
      → before ++ u ∷ after ≡ a ∷ b ∷ []
      → u ≡ b
  after_one [] after u no_element e q = absurd cc
  after_one (x ∷ []) after u h e q = cc
  after_one (x ∷ y ∷ []) after u h e q = absurd cc
  after_one (x ∷ y ∷ z ∷ before) after u h e q = absurd cc

  second_of_two : IsRightValueFault w 2 2 [] M i n f → f.at.notation.now ≡ b
  second_of_two (faults.no_memory h) = let z = sym h ∙ nodes in absurd cc
  second_of_two (faults.itself x y z g h) = let e = subst (λ c. IsCause w 2 2 [] M i n c) nodes h in absurd cc
  second_of_two (faults.in_element {m = u} before after k d v r t q s) =
      let o = one_level w _ _ _ _ _ f nodes s in
      let left = o.0 in
      let there = ap braced_values (sym (at_last d)) ∙ v in
      o.1 ∙ after_one before after u r (omega (arith, q, left)) (same_Some _ _ (sym there ∙ braces))
  second_of_two (faults.in_alternative c k d q x y s) =
      absurd (no_choice (out-ValueSyntax n).form _ braces (ap chosen_at (sym (at_last d)) ∙ q))
  second_of_two (faults.in_field c g r t d s) =
      absurd (no_fields (out-ValueSyntax n).form _ braces (ap braced_fields (sym (at_last r.last)) ∙ r.in_braces))
  second_of_two (faults.in_default c r out x y s) =
      absurd (no_fields (out-ValueSyntax n).form _ braces (ap braced_fields (sym (at_last r.last)) ∙ r.in_braces))
