-- Two faults of a notation are those of one notation in it.
use Rattle.std.proofs.Common.{inl, inr, ◌≡◌, ℕ, suc, ◌+◌, ◌≤◌, refl, sym, ap, ap₂, map, subst, ◌∙◌, Some, Bool, arith}
use Rattle.std.specs.Prelude.{List, [], ◌∷◌, ◌++◌, Option, slice_get}
use Rattle.asn_base.specs.Abstract.{AbstractValue, Row, alternative, fields, list, absent, present}
use Rattle.asn_base.specs.Typed.{nodes, row_nodes}
use Rattle.trees.specs.declared.types.ListKind.{ListKind}
use Rattle.trees.specs.declared.types.ListKind.TheVariants.{Choice}
use Rattle.trees.specs.declared.types.ElementsKind.{ElementsKind}
use Rattle.trees.specs.declared.value.Named.{Named}
use Rattle.trees.specs.declared.value.ValueSyntax.{ValueSyntax}
use Rattle.trees.specs.Values.{Name, Tree, member_of, name_at, tree_of}
use Rattle.trees.specs.Values as trees
use Rattle.names.specs.Modules.{OccursIn, AreDifferent}
use Rattle.names.specs.proving.Distinct.{occurs_map}
use Rattle.type_table.specs.declared.table.ListMember.{ListMember}
use Rattle.type_table.specs.Table.{WrittenKind, elements, Part}
use Rattle.type_table.specs.Table as table
use Rattle.type_table.specs.Seen.{part_of}
use Rattle.resolve.specs.Program.{Program, WrittenProgram}
use Rattle.range_ends.specs.Ends.{IsTypeOfKind}
use Rattle.value_notations.specs.References.{IsLast}
use Rattle.value_notations.specs.Notations.{Notation, NotationOf, Fields, NotatedElements, field_names, part_names, values_in}
use Rattle.value_notations.specs.Notations as family
use Rattle.value_notations.specs.Values.{AreNotatedComponents, AreNotatedElements}
use Rattle.value_notations.specs.Wrong.{NotationTrouble, IsDisarranged}
use Rattle.value_notations.specs.Wrong as wrong
use Rattle.value_notations.specs.Outside.{IsLeftOut}
use Rattle.value_notations.specs.Written.{IsLastAt, chosen_at, braced_fields, braced_values}
use Rattle.value_notations.specs.proving.Places.{one_some, some_none, one_place, mapped_at, occurs_mapped}
use Rattle.value_notations.specs.proving.Following.{one_kind, sound_kind, one_last}
use Rattle.values.specs.Allowing.{Allows, AllowsCode}
use Rattle.values.specs.Arranged.{IsArranged}
use Rattle.typed_values.specs.declared.fault.Cause.{Cause}
use Rattle.typed_values.specs.declared.fault.Cause.TheVariants as cause
use Rattle.typed_values.specs.declared.fault.ValueFault.{ValueFault}
use Rattle.typed_values.specs.Faults.{IsRightValueFault, IsCause, AreLeftFor, AreWithin, AreReadTo, IsWrittenDefault, HasNames}
use Rattle.typed_values.specs.Faults as faults
use Rattle.typed_values.specs.proving.Reading.{IsWrongField}
use Rattle.typed_values.specs.proving.Reading as reading
use Rattle.typed_values.proofs.Braces.{chosen_found, fields_found, values_found}
use Rattle.typed_values.proofs.Places.{middle}
use Rattle.typed_values.proofs.Readings.{default_tree, of_kind}
use Rattle.typed_values.proofs.Reached.{one_end, lost_alone, round_alone}
use Rattle.typed_values.proofs.Misfits.{fits, misfit_fields}
use Rattle.typed_values.proofs.Splits.{split_order, one_written, one_named, moved_fault, moved_elements, moved_fields, one_list}
use Rattle.typed_values.proofs.Excluding.{OneValue, NoneWrong, IsKept, split_map, distinct_fields, no_choice, one_field, same_value, at_last, element_at, field_at, absent_at, default_of, occurs_none}

-- ---- both at one notation

-- the fault is that of this notation itself
pub record IsAt (w : WrittenProgram) (levels left : ℕ) (os : List ℕ) (M : Name) (i : ℕ) (n : ValueSyntax) (f : ValueFault)
    : Type 0 where
  pub within : f.at.within.now ≡ M
  pub type : f.at.ty.index ≡ i
  pub notation : f.at.notation.now ≡ n
  pub enough : AreLeftFor levels left f.cause
  pub caused : IsCause w levels left os M i n f.cause

-- the faults are those of one notation itself
pub record AreAtOne (w : WrittenProgram) (f g : ValueFault) : Type 0 where
  pub levels : ℕ
  pub left : ℕ
  pub opened : List ℕ
  pub within : Name
  pub type : ℕ
  pub notation : ValueSyntax
  pub here : IsAt w levels left opened within type notation f
  pub there : IsAt w levels left opened within type notation g

-- what the crate below says of names in braces
abbrev pub NotBoth : Type 0
NotBoth = (k : ListKind) (cs : List Part) (fs : List Name) (ps : List (Option ℕ)) (t : NotationTrouble) →
    IsArranged k cs fs ps → IsDisarranged k cs fs t → ⊥

module _ (text : WrittenProgram) (s : IsKept text.program) (one : OneValue) (none_wrong : NoneWrong) (not_both : NotBoth) where
  abbrev p : Program
  p = text.program

  one_row : {os : List ℕ} {K : Name} {a : ℕ} {ts : List Tree} {r q : Row} →
      NotatedElements p os K a ts r → NotatedElements p os K a ts q → r ≡ q
  one_row family.no_element family.no_element = refl
  one_row (family.one_element h k) (family.one_element g j) =
      ap₂ (λ v r. present v r) (same_value text s one none_wrong h g) (one_row k j)

  one_fields : {os : List ℕ} {K : Name} {fs : List (Name × Tree)} {cs : List Part} {r q : Row} → AreDifferent (field_names fs) →
      Fields p os K fs cs r → Fields p os K fs cs q → r ≡ q
  one_fields d family.no_part family.no_part = refl
  one_fields d (family.part_absent away may h) (family.part_absent x y k) = ap (λ r. absent r) (one_fields d h k)
  one_fields {fs = fs} d (family.part_absent {c = c} away may h) (family.part_present {n = l} u x k) =
      absurd (away (occurs_mapped (λ (f : Name × Tree). f.0) fs (c.name, l) u))
  one_fields {fs = fs} d (family.part_present {c = c} {n = l} u x k) (family.part_absent away may h) =
      absurd (away (occurs_mapped (λ (f : Name × Tree). f.0) fs (c.name, l) u))
  one_fields {os = os} {K = K} {fs = fs} d (family.part_present {c = c} {n = l} {v = v} u h k) (family.part_present {n = m} {v = w} x y z) =
      let trees = one_field fs c.name l m d u x in
      ap₂ (λ v r. present v r)
      (same_value text s one none_wrong (subst (λ (q : Tree). Notation p os K c.ty q v) trees h) y) (one_fields d k z)

  -- ---- elements

  record InList (levels left rest : ℕ) (os : List ℕ) (M : Name) (i : ℕ) (n : ValueSyntax) (ps : List ℕ) (K : Name) (a : ℕ)
      (m : ValueSyntax) : Type 0 where
    pub kind : ElementsKind
    pub row : Row
    pub before : List ValueSyntax
    pub after : List ValueSyntax
    pub notation : ValueSyntax
    pub is : IsTypeOfKind p.types i (elements kind a)
    pub last : IsLastAt text (elements kind a) os M n ps K notation
    pub in_braces : braced_values notation ≡ Some (before ++ m ∷ after)
    pub stand : NotatedElements p ps K a (map tree_of before) row
    pub values : AreNotatedElements p (Allows p) (AllowsCode p) levels a row
    pub counted : left ≡ suc (row_nodes row + rest)

  in_list : {levels left rest : ℕ} {os ps : List ℕ} {M K : Name} {i a : ℕ} {n l m : ValueSyntax} {k : ElementsKind} {r : Row}
      (before after : List ValueSyntax) →
      IsTypeOfKind p.types i (elements k a) →
      IsLastAt text (elements k a) os M n ps K l →
      braced_values l ≡ Some (before ++ m ∷ after) →
      NotatedElements p ps K a (map tree_of before) r →
      AreNotatedElements p (Allows p) (AllowsCode p) levels a r →
      left ≡ suc (row_nodes r + rest) →
      InList levels left rest os M i n ps K a m
  in_list {l = l} {k = k} {r = r} before after a b c d e f = record {
    kind = k;
    row = r;
    before = before;
    after = after;
    notation = l;
    is = a;
    last = b;
    in_braces = c;
    stand = d;
    values = e;
    counted = f;
  }

  record IsOneList (ps : List ℕ) (K : Name) (a : ℕ) (xs : List ValueSyntax) (qs : List ℕ) (L : Name) (b : ℕ) (ys : List ValueSyntax)
      : Type 0 where
    pub opened : ps ≡ qs
    pub within : K ≡ L
    pub type : a ≡ b
    pub in_braces : xs ≡ ys

  same_list : {levels left rest more : ℕ} {os ps qs : List ℕ} {M K L : Name} {i a b : ℕ} {n l m : ValueSyntax}
      (x : InList levels left rest os M i n ps K a l) (y : InList levels left more os M i n qs L b m) →
      IsOneList ps K a (x.before ++ l ∷ x.after) qs L b (y.before ++ m ∷ y.after)
  same_list {os = os} {ps = ps} {qs = qs} {M = M} {K = K} {L = L} {i = i} {a = a} {b = b} {n = n} {l = l} {m = m} x y =
      let kinds = one_kind p.types i (elements y.kind b) (elements x.kind a) y.is x.is in
      let types : a ≡ b = cc in
      let ends = one_end s.apart x.last (subst (λ (z : WrittenKind). IsLastAt text z os M n qs L y.notation) kinds y.last) in
      record {
        opened = ends.opened;
        within = ends.within;
        type = types;
        in_braces = one_some (braced_values x.notation) (x.before ++ l ∷ x.after) (y.before ++ m ∷ y.after) x.in_braces
            (subst (λ (z : ValueSyntax). braced_values z ≡ Some (y.before ++ m ∷ y.after)) (sym ends.notation) y.in_braces);
      }

  element_values : {levels a b : ℕ} {r : Row} → a ≡ b → AreNotatedElements p (Allows p) (AllowsCode p) levels b r →
      AreNotatedElements p (Allows p) (AllowsCode p) levels a r
  element_values {levels} {a} {b} {r} e h = subst (λ (z : ℕ). AreNotatedElements p (Allows p) (AllowsCode p) levels z r) (sym e) h

  no_earlier_element : {levels left rest more : ℕ} {os ps qs : List ℕ} {M K L : Name} {i a b : ℕ} {n l m : ValueSyntax} {f : ValueFault}
      (x : InList levels left rest os M i n ps K a l) (y : InList levels left more os M i n qs L b m) (zs : List ValueSyntax) →
      y.before ≡ x.before ++ l ∷ zs →
      IsRightValueFault text levels rest ps K a l f →
      (f.cause ≡ cause.Memory → ⊥) →
      ⊥
  no_earlier_element {ps = ps} {K = K} {a = a} {l = l} x y zs e d u =
      let same = same_list x y in
      let stand = subst (λ (ts : List Tree). NotatedElements p ps K a ts y.row) (ap (map tree_of) e ∙ split_map tree_of x.before l zs)
      (moved_elements same.opened same.within same.type y.stand) in
      let v = element_at text s one none_wrong (map tree_of x.before) (map tree_of zs) stand x.stand (element_values same.type y.values) in
      let few = v.3 in
      let first = x.counted in
      let second = y.counted in
      occurs_none text s one none_wrong d u v.1 v.2 (omega (arith, few, first, second))

  record IsOneReading (rest : ℕ) (ps : List ℕ) (K : Name) (a : ℕ) (l : ValueSyntax) (more : ℕ) (qs : List ℕ) (L : Name) (b : ℕ)
      (m : ValueSyntax) : Type 0 where
    pub left : rest ≡ more
    pub opened : ps ≡ qs
    pub within : K ≡ L
    pub type : a ≡ b
    pub notation : l ≡ m

  same_element : {levels left rest more : ℕ} {os ps qs : List ℕ} {M K L : Name} {i a b : ℕ} {n l m : ValueSyntax} {f g : ValueFault}
      (x : InList levels left rest os M i n ps K a l) (y : InList levels left more os M i n qs L b m) →
      IsRightValueFault text levels rest ps K a l f →
      IsRightValueFault text levels more qs L b m g →
      (f.cause ≡ cause.Memory → ⊥) →
      (g.cause ≡ cause.Memory → ⊥) →
      IsOneReading rest ps K a l more qs L b m
  same_element {rest = rest} {more = more} {ps = ps} {K = K} {a = a} {l = l} {m = m} x y d e u v =
      let same = same_list x y in
      let equal : (x.before ≡ y.before) × (l ≡ m) =
      elim (split_order x.before l x.after y.before m y.after same.in_braces) [
        | inl h ↦ h
        | inr h ↦ elim h [
          | inl t ↦ absurd (no_earlier_element x y t.0 t.1 d u)
          | inr t ↦ absurd (no_earlier_element y x t.0 t.1 e v)
        ]
      ] in
      let rows = ap row_nodes (one_row x.stand (subst (λ (ts : List ValueSyntax). NotatedElements p ps K a (map tree_of ts) y.row) (sym equal.0)
      (moved_elements same.opened same.within same.type y.stand))) in
      let first = x.counted in
      let second = y.counted in
      let lefts : rest ≡ more = omega (arith, rows, first, second) in
      record { left = lefts; opened = same.opened; within = same.within; type = same.type; notation = equal.1 }

  outside_list : {levels left rest : ℕ} {os ps : List ℕ} {M K : Name} {i a : ℕ} {n m : ValueSyntax} {f : ValueFault} {k : WrittenKind}
      {v : AbstractValue} (x : InList levels left rest os M i n ps K a m) →
      k ≡ elements x.kind a →
      AreWithin p (suc levels) k v →
      nodes v ≤ left →
      NotationOf p ps K (elements x.kind a) (tree_of x.notation) v →
      IsRightValueFault text levels rest ps K a m f →
      (f.cause ≡ cause.Memory → ⊥) →
      ⊥
  outside_list {levels = levels} {ps = ps} {K = K} {a = a} {m = m} x e within few (family.of_list {ts = ts} {r = r} g h) d u =
      let values = subst (λ (z : WrittenKind). AreWithin p (suc levels) z (list r)) e within in
      let both = values_found x.notation (x.before ++ m ∷ x.after) x.in_braces ∙ ap Some (split_map tree_of x.before m x.after) in
      let trees = one_some (values_in (tree_of x.notation)) ts (map tree_of x.before ++ tree_of m ∷ map tree_of x.after) g both in
      let q = element_at text s one none_wrong (map tree_of x.before) (map tree_of x.after)
      (subst (λ (z : List Tree). NotatedElements p ps K a z r) trees h) x.stand values in
      let more = q.3 in
      let counted = x.counted in
      occurs_none text s one none_wrong d u q.1 q.2 (omega (arith, few, more, counted))

  -- nothing is wrong with a list itself, one of whose elements has a fault
  element_alone : {levels left rest : ℕ} {os ps : List ℕ} {M K : Name} {i a : ℕ} {n m : ValueSyntax} {f : ValueFault} (c : Cause) →
      (c ≡ cause.Memory → ⊥) →
      IsCause text (suc levels) left os M i n c →
      InList levels left rest os M i n ps K a m →
      IsRightValueFault text levels rest ps K a m f →
      (f.cause ≡ cause.Memory → ⊥) →
      ⊥
  element_alone cause.Memory u w x d v = u refl
  element_alone cause.Depth u w x d v = absurd cc
  element_alone cause.Nodes u w x d v = let e = x.counted in omega (arith, w, e)
  element_alone (cause.NoMeaning L l) u w x d v = lost_alone s.apart w.is w.such.meant.lost x.is x.last.last
  element_alone (cause.Circular j L l) u w x d v = round_alone s.apart w.is w.such.meant.round x.is x.last.last
  element_alone {m = m} cause.NotOfType u w x d v =
      some_none (values_in (tree_of x.notation)) _ (values_found x.notation (x.before ++ m ∷ x.after) x.in_braces) (fits s.apart w x.is x.last.last)
  element_alone {i = i} (cause.UnknownBit L l) u w x d v = let e = one_kind p.types i _ _ w.is x.is in absurd cc
  element_alone {i = i} cause.Oid u w x d v = let e = one_kind p.types i _ _ w.leaf.is x.is in absurd cc
  element_alone {i = i} cause.UnknownAlternative u w x d v = let e = one_kind p.types i _ _ w.is x.is in absurd cc
  element_alone {i = i} (cause.UnknownField j L l) u w x d v = let e = one_kind p.types i _ _ w.is x.is in absurd cc
  element_alone {i = i} (cause.Repeated j L l) u w x d v = let e = one_kind p.types i _ _ w.is x.is in absurd cc
  element_alone {i = i} (cause.Missing j L l) u w x d v = let e = one_kind p.types i _ _ w.is x.is in absurd cc
  element_alone {i = i} (cause.OutOfOrder j L l) u w x d v = let e = one_kind p.types i _ _ w.is x.is in absurd cc
  element_alone {i = i} {a = a} cause.Outside u w x d v =
      let o = w.outside in
      outside_list x (one_kind p.types i o.kind (elements x.kind a) o.is x.is) w.within w.few
      (at_last text s one none_wrong x.is x.last.last o.is_so) d v

  -- ---- alternatives

  record InChoice (levels left : ℕ) (os : List ℕ) (M : Name) (i : ℕ) (n : ValueSyntax) (ps : List ℕ) (K : Name) (c : Part)
      (m : ValueSyntax) : Type 0 where
    pub marked : Bool
    pub parts : List Part
    pub name : Name
    pub notation : ValueSyntax
    pub is : IsTypeOfKind p.types i (table.members Choice marked parts)
    pub last : IsLastAt text (table.members Choice marked parts) os M n ps K notation
    pub chosen : chosen_at notation ≡ Some (name, m)
    pub there : OccursIn parts c
    pub named : c.name ≡ name

  in_choice : {levels left : ℕ} {os ps : List ℕ} {M K : Name} {i : ℕ} {n l m : ValueSyntax} {e : Bool} {cs : List Part} {x : Name}
      (c : Part) →
      IsTypeOfKind p.types i (table.members Choice e cs) →
      IsLastAt text (table.members Choice e cs) os M n ps K l →
      chosen_at l ≡ Some (x, m) →
      OccursIn cs c →
      c.name ≡ x →
      InChoice levels left os M i n ps K c m
  in_choice {l = l} {e = e} {cs = cs} {x = x} c a b d f g = record {
    marked = e;
    parts = cs;
    name = x;
    notation = l;
    is = a;
    last = b;
    chosen = d;
    there = f;
    named = g;
  }

  same_alternative : {levels left : ℕ} {os ps qs : List ℕ} {M K L : Name} {i : ℕ} {n l m : ValueSyntax} {b c : Part}
      (x : InChoice levels left os M i n ps K b l) (y : InChoice levels left os M i n qs L c m) →
      IsOneReading left ps K b.ty l left qs L c.ty m
  same_alternative {os = os} {qs = qs} {M = M} {L = L} {i = i} {n = n} {l = l} {m = m} {b = b} {c = c} x y =
      let k = table.members Choice x.marked x.parts in
      let kinds = one_kind p.types i (table.members Choice y.marked y.parts) k y.is x.is in
      let parts : y.parts ≡ x.parts = cc in
      let ends = one_end s.apart x.last (subst (λ (z : WrittenKind). IsLastAt text z os M n qs L y.notation) kinds y.last) in
      let both = one_some (chosen_at x.notation) (x.name, l) (y.name, m) x.chosen
      (subst (λ (z : ValueSyntax). chosen_at z ≡ Some (y.name, m)) (sym ends.notation) y.chosen) in
      let there : slice_get x.parts y.there.0 ≡ Some c =
      subst (λ (z : List Part). slice_get z y.there.0 ≡ Some c) parts y.there.1 in
      let first = mapped_at (λ (q : Part). q.name) x.parts x.there.0 b x.there.1 ∙ ap Some x.named in
      let second = mapped_at (λ (q : Part). q.name) x.parts y.there.0 c there
      ∙ ap Some (y.named ∙ sym (ap (λ (z : Name × ValueSyntax). z.0) both)) in
      let places = one_place (part_names x.parts) x.name x.there.0 y.there.0 (sound_kind p.types i k s.sound x.is).names first second in
      let alternatives = one_some (slice_get x.parts x.there.0) b c x.there.1
      (subst (λ (z : ℕ). slice_get x.parts z ≡ Some c) (sym places) there) in
      record {
        left = refl;
        opened = ends.opened;
        within = ends.within;
        type = ap (λ (q : Part). q.ty) alternatives;
        notation = ap (λ (z : Name × ValueSyntax). z.1) both;
      }

  left_out_choice : (i : ℕ) {ps : List ℕ} {K : Name} {k : WrittenKind} {e : Bool} {cs : List Part} {l : Tree} {v : AbstractValue} →
      k ≡ table.members Choice e cs →
      IsLeftOut (Allows p) (AllowsCode p) i k v →
      NotationOf p ps K (table.members Choice e cs) l v →
      ⊥
  left_out_choice i f o (family.of_fields {cs = cs} {fs = fs} g a h w) = no_choice cs fs a
  left_out_choice i f o (family.of_choice {a = a} {v = v} g k h) =
      subst (λ (z : WrittenKind). IsLeftOut (Allows p) (AllowsCode p) i z (alternative a v)) f o

  -- nothing is wrong with the notation of a CHOICE itself whose alternative has a fault
  alternative_alone : {levels left : ℕ} {os ps : List ℕ} {M K : Name} {i : ℕ} {n m : ValueSyntax} {b : Part} (c : Cause) →
      (c ≡ cause.Memory → ⊥) →
      IsCause text (suc levels) (suc left) os M i n c →
      InChoice levels left os M i n ps K b m →
      ⊥
  alternative_alone cause.Memory u w x = u refl
  alternative_alone cause.Depth u w x = absurd cc
  alternative_alone cause.Nodes u w x = absurd cc
  alternative_alone (cause.NoMeaning L l) u w x = lost_alone s.apart w.is w.such.meant.lost x.is x.last.last
  alternative_alone (cause.Circular j L l) u w x = round_alone s.apart w.is w.such.meant.round x.is x.last.last
  alternative_alone {m = m} cause.NotOfType u w x =
      fits s.apart w x.is x.last.last x.name (tree_of m) (chosen_found x.notation x.name m x.chosen)
  alternative_alone {i = i} (cause.UnknownBit L l) u w x = let e = one_kind p.types i _ _ w.is x.is in absurd cc
  alternative_alone {i = i} cause.Oid u w x = let e = one_kind p.types i _ _ w.leaf.is x.is in absurd cc
  alternative_alone {os = os} {M = M} {i = i} {n = n} {m = m} {b = b} cause.UnknownAlternative u w x =
      let kinds = one_kind p.types i (table.members Choice w.marked w.parts) (table.members Choice x.marked x.parts) w.is x.is in
      let parts : x.parts ≡ w.parts = cc in
      let ends = one_last s.apart (subst (λ (z : WrittenKind). IsLast p z os M (tree_of n) w.opened w.within (trees.chosen w.name w.inner)) kinds w.last)
      x.last.last in
      let both = ends.notation ∙ chosen_found x.notation x.name m x.chosen in
      let names : x.name ≡ w.name = cc in
      w.none (subst (λ (z : List Part). OccursIn (part_names z) w.name) parts
      (x.there.0, mapped_at (λ (q : Part). q.name) x.parts x.there.0 b x.there.1 ∙ ap Some (x.named ∙ names)))
  alternative_alone {i = i} (cause.UnknownField j L l) u w x =
      let e = one_kind p.types i _ _ w.is x.is in let f : w.list ≡ Choice = cc in w.no_choice f
  alternative_alone {i = i} (cause.Repeated j L l) u w x =
      let e = one_kind p.types i _ _ w.is x.is in let f : w.list ≡ Choice = cc in w.no_choice f
  alternative_alone {i = i} (cause.Missing j L l) u w x =
      let e = one_kind p.types i _ _ w.is x.is in let f : w.list ≡ Choice = cc in w.no_choice f
  alternative_alone {i = i} (cause.OutOfOrder j L l) u w x =
      let e = one_kind p.types i _ _ w.is x.is in let f : w.list ≡ Choice = cc in w.no_choice f
  alternative_alone {i = i} cause.Outside u w x =
      let o = w.outside in
      left_out_choice i (one_kind p.types i o.kind (table.members Choice x.marked x.parts) o.is x.is) o.left_out
      (at_last text s one none_wrong x.is x.last.last o.is_so)

  -- ---- components

  record AreOneList (ps : List ℕ) (K N : Name) (fs : List (Named ValueSyntax)) (cs : List ListMember) (qs : List ℕ) (L O : Name)
      (gs : List (Named ValueSyntax)) (bs : List ListMember) : Type 0 where
    pub opened : ps ≡ qs
    pub within : K ≡ L
    pub home : N ≡ O
    pub fields : fs ≡ gs
    pub members : cs ≡ bs

  same_fields : {levels left rest more : ℕ} {os ps qs : List ℕ} {M K L N O : Name} {i : ℕ} {n : ValueSyntax}
      {fs gs : List (Named ValueSyntax)} {b c : ListMember} (x : AreReadTo text levels left rest os M i n ps K N fs b)
      (y : AreReadTo text levels left more os M i n qs L O gs c) → AreOneList ps K N fs x.members qs L O gs y.members
  same_fields {os = os} {qs = qs} {M = M} {L = L} {i = i} {n = n} {fs = fs} {gs = gs} x y =
      let lists = one_list x.list y.list in
      let kinds = one_kind p.types i (table.members y.kind y.marked (map part_of y.members)) (table.members x.kind x.marked (map part_of x.members))
      (of_kind y.list.written) (of_kind x.list.written) in
      let ends = one_end s.apart x.last (subst (λ (z : WrittenKind). IsLastAt text z os M n qs L y.notation) kinds y.last) in
      record {
        opened = ends.opened;
        within = ends.within;
        home = lists.0;
        fields = one_some (braced_fields x.notation) fs gs x.in_braces
            (subst (λ (z : ValueSyntax). braced_fields z ≡ Some gs) (sym ends.notation) y.in_braces);
        members = lists.1;
      }

  component_values : {levels : ℕ} {N O : Name} {cs : List Part} {r : Row} → N ≡ O →
      AreNotatedComponents p (Allows p) (AllowsCode p) levels O cs r → AreNotatedComponents p (Allows p) (AllowsCode p) levels N cs r
  component_values {levels} {N} {O} {cs} {r} e h =
      subst (λ (z : Name). AreNotatedComponents p (Allows p) (AllowsCode p) levels z cs r) (sym e) h

  names_differ : {levels left rest : ℕ} {os ps : List ℕ} {M K N : Name} {i : ℕ} {n : ValueSyntax} {fs : List (Named ValueSyntax)}
      {c : ListMember} → AreReadTo text levels left rest os M i n ps K N fs c → AreDifferent (field_names (map member_of fs))
  names_differ {fs = fs} x = distinct_fields x.kind (map part_of x.members) (map member_of fs) x.arranged.arranged

  -- a component that is read has no fault
  component_none : {levels left rest : ℕ} {os ps : List ℕ} {M K N : Name} {i : ℕ} {n : ValueSyntax} {fs : List (Named ValueSyntax)}
      {c : ListMember} {f : ValueFault} {r : Row} (more : ℕ) (zs : List Part) (x : AreReadTo text levels left rest os M i n ps K N fs c) →
      Fields p ps K (map member_of fs) (map part_of x.before ++ part_of c ∷ zs) r →
      AreNotatedComponents p (Allows p) (AllowsCode p) levels N (map part_of x.before ++ part_of c ∷ zs) r →
      left ≡ suc (row_nodes r + more) →
      IsWrongField text levels rest ps K N fs c f →
      (f.cause ≡ cause.Memory → ⊥) →
      ⊥
  component_none more zs x stand values counted (reading.no_memory e) u = u e
  component_none {fs = fs} {c = c} more zs x stand values counted (reading.in_field g t e d) u =
      let there : OccursIn (map member_of fs) (name_at c.name, tree_of g.value) =
      (t.0, occurs_map member_of fs t.0 g t.1 ∙ ap (λ (y : Name). Some (y, tree_of g.value)) e) in
      let q = field_at text s one none_wrong (part_of c) (map part_of x.before) zs (names_differ x) there stand x.stand values in
      let few = q.3 in
      let first = x.counted in
      occurs_none text s one none_wrong d u q.1 q.2 (omega (arith, few, first, counted))
  component_none {c = c} more zs x stand values counted (reading.in_default out r) u =
      let t = middle (map part_of x.before) (part_of c) zs in
      let q = absent_at text s one none_wrong t.0 (part_of c) stand values t.1 out in
      let e = default_tree c.presence r.default r.presence in
      let z = default_of text s one none_wrong q r.standing e in
      occurs_none text s one none_wrong r.fault u z.1 z.2 z.3

  no_earlier_component : {levels left rest more : ℕ} {os ps qs : List ℕ} {M K L N O : Name} {i : ℕ} {n : ValueSyntax}
      {fs gs : List (Named ValueSyntax)} {b c : ListMember} {f : ValueFault} (x : AreReadTo text levels left rest os M i n ps K N fs b)
      (y : AreReadTo text levels left more os M i n qs L O gs c) (zs : List ListMember) →
      y.before ≡ x.before ++ b ∷ zs →
      IsWrongField text levels rest ps K N fs b f →
      (f.cause ≡ cause.Memory → ⊥) →
      ⊥
  no_earlier_component {levels = levels} {more = more} {ps = ps} {K = K} {N = N} {fs = fs} {b = b} x y zs e d u =
      let same = same_fields x y in
      let parts = ap (map part_of) e ∙ split_map part_of x.before b zs in
      component_none more (map part_of zs) x
      (subst (λ (cs : List Part). Fields p ps K (map member_of fs) cs y.row) parts (moved_fields same.opened same.within same.fields y.stand))
      (subst (λ (cs : List Part). AreNotatedComponents p (Allows p) (AllowsCode p) levels N cs y.row) parts
      (component_values same.home y.values)) y.counted d u

  record IsOneComponent (rest : ℕ) (ps : List ℕ) (K N : Name) (fs : List (Named ValueSyntax)) (b : ListMember) (more : ℕ) (qs : List ℕ)
      (L O : Name) (gs : List (Named ValueSyntax)) (c : ListMember) : Type 0 where
    pub left : rest ≡ more
    pub opened : ps ≡ qs
    pub within : K ≡ L
    pub home : N ≡ O
    pub fields : fs ≡ gs
    pub component : b ≡ c

  same_component : {levels left rest more : ℕ} {os ps qs : List ℕ} {M K L N O : Name} {i : ℕ} {n : ValueSyntax}
      {fs gs : List (Named ValueSyntax)} {b c : ListMember} {f g : ValueFault} (x : AreReadTo text levels left rest os M i n ps K N fs b)
      (y : AreReadTo text levels left more os M i n qs L O gs c) →
      IsWrongField text levels rest ps K N fs b f →
      IsWrongField text levels more qs L O gs c g →
      (f.cause ≡ cause.Memory → ⊥) →
      (g.cause ≡ cause.Memory → ⊥) →
      IsOneComponent rest ps K N fs b more qs L O gs c
  same_component {rest = rest} {more = more} {ps = ps} {K = K} {fs = fs} {b = b} {c = c} x y d e u v =
      let same = same_fields x y in
      let equal : (x.before ≡ y.before) × (b ≡ c) =
      elim (split_order x.before b x.after y.before c y.after (sym x.split ∙ same.members ∙ y.split)) [
        | inl h ↦ h
        | inr h ↦ elim h [
          | inl t ↦ absurd (no_earlier_component x y t.0 t.1 d u)
          | inr t ↦ absurd (no_earlier_component y x t.0 t.1 e v)
        ]
      ] in
      let rows = ap row_nodes (one_fields (names_differ x) x.stand
      (subst (λ (cs : List ListMember). Fields p ps K (map member_of fs) (map part_of cs) y.row) (sym equal.0)
      (moved_fields same.opened same.within same.fields y.stand))) in
      let first = x.counted in
      let second = y.counted in
      let lefts : rest ≡ more = omega (arith, rows, first, second) in
      record {
        left = lefts;
        opened = same.opened;
        within = same.within;
        home = same.home;
        fields = same.fields;
        component = equal.1;
      }

  names_alone : {levels left rest : ℕ} {os ps : List ℕ} {M K L N : Name} {i : ℕ} {n l : ValueSyntax} {fs : List (Named ValueSyntax)}
      {c : ListMember} {P : ListKind → List Part → List Name → Type 0} (w : HasNames text os M L i n l P) (t : NotationTrouble) →
      IsDisarranged w.list w.parts (field_names (map member_of w.fields)) t →
      AreReadTo text levels left rest os M i n ps K N fs c →
      ⊥
  names_alone {os = os} {M = M} {L = L} {i = i} {n = n} {l = l} {fs = fs} w t d x =
      let kinds = one_kind p.types i (table.members w.list w.marked w.parts) (table.members x.kind x.marked (map part_of x.members)) w.is
      (of_kind x.list.written) in
      let lists : w.list ≡ x.kind = cc in
      let parts : w.parts ≡ map part_of x.members = cc in
      let ends = one_end s.apart (subst (λ (z : WrittenKind). IsLastAt text z os M n w.opened L l) kinds w.last) x.last in
      let fields = one_some (braced_fields x.notation) w.fields fs
      (subst (λ (z : ValueSyntax). braced_fields z ≡ Some w.fields) ends.notation w.in_braces) x.in_braces in
      not_both x.kind (map part_of x.members) (field_names (map member_of fs)) x.places t x.arranged
      (subst (λ (z : ListKind). IsDisarranged z (map part_of x.members) (field_names (map member_of fs)) t) lists
      (subst (λ (z : List Part). IsDisarranged w.list z (field_names (map member_of fs)) t) parts
      (subst (λ (z : List (Named ValueSyntax)). IsDisarranged w.list w.parts (field_names (map member_of z)) t) fields d)))

  left_out_fields : (i : ℕ) {ps : List ℕ} {K : Name} {k : WrittenKind} {j : ListKind} {e : Bool} {cs : List Part} {l : Tree}
      {v : AbstractValue} →
      (j ≡ Choice → ⊥) →
      k ≡ table.members j e cs →
      IsLeftOut (Allows p) (AllowsCode p) i k v →
      NotationOf p ps K (table.members j e cs) l v →
      ⊥
  left_out_fields i none f o (family.of_fields {r = r} g a h w) =
      subst (λ (z : WrittenKind). IsLeftOut (Allows p) (AllowsCode p) i z (fields r)) f o
  left_out_fields i none f o (family.of_choice g k h) = none refl

  -- nothing is wrong with a notation itself, one of whose components has a fault
  component_alone : {levels left rest : ℕ} {os ps : List ℕ} {M K N : Name} {i : ℕ} {n : ValueSyntax} {fs : List (Named ValueSyntax)}
      {b : ListMember} (c : Cause) →
      (c ≡ cause.Memory → ⊥) →
      IsCause text (suc levels) left os M i n c →
      AreReadTo text levels left rest os M i n ps K N fs b →
      ⊥
  component_alone cause.Memory u w x = u refl
  component_alone cause.Depth u w x = absurd cc
  component_alone cause.Nodes u w x = let e = x.counted in omega (arith, w, e)
  component_alone (cause.NoMeaning L l) u w x = lost_alone s.apart w.is w.such.meant.lost (of_kind x.list.written) x.last.last
  component_alone (cause.Circular j L l) u w x = round_alone s.apart w.is w.such.meant.round (of_kind x.list.written) x.last.last
  component_alone {fs = fs} cause.NotOfType u w x =
      misfit_fields x.kind x.marked (map part_of x.members) (tree_of x.notation) (map member_of fs) x.no_choice
      (fields_found x.notation fs x.in_braces) (fits s.apart w (of_kind x.list.written) x.last.last)
  component_alone {i = i} (cause.UnknownBit L l) u w x =
      let e = one_kind p.types i _ _ w.is (of_kind x.list.written) in absurd cc
  component_alone {i = i} cause.Oid u w x = let e = one_kind p.types i _ _ w.leaf.is (of_kind x.list.written) in absurd cc
  component_alone {i = i} cause.UnknownAlternative u w x =
      let e = one_kind p.types i _ _ w.is (of_kind x.list.written) in let f : x.kind ≡ Choice = cc in x.no_choice f
  component_alone (cause.UnknownField j L l) u w x = names_alone w (wrong.unknown_item w.such.name) w.such.wrong x
  component_alone (cause.Repeated j L l) u w x = names_alone w (wrong.repeated w.such.name) w.such.wrong x
  component_alone (cause.Missing j L l) u w x = names_alone w (wrong.missing w.such.part.name) w.such.wrong x
  component_alone (cause.OutOfOrder j L l) u w x = names_alone w (wrong.out_of_order w.such.name w.such.other) w.such.wrong x
  component_alone {i = i} cause.Outside u w x =
      let o = w.outside in
      let is = of_kind x.list.written in
      left_out_fields i x.no_choice (one_kind p.types i o.kind (table.members x.kind x.marked (map part_of x.members)) o.is is) o.left_out
      (at_last text s one none_wrong is x.last.last o.is_so)

  -- ---- the second fault, beside the first

  beside_itself : {levels left i : ℕ} {os : List ℕ} {M : Name} {n : ValueSyntax} {f g : ValueFault} →
      IsAt text levels left os M i n f →
      IsRightValueFault text levels left os M i n g →
      (f.cause ≡ cause.Memory → ⊥) →
      (g.cause ≡ cause.Memory → ⊥) →
      AreAtOne text f g
  beside_itself x (faults.no_memory e) u v = absurd (v e)
  beside_itself {levels} {left} {i} {os} {M} {n} x (faults.itself a b c d e) u v = record {
    levels = levels;
    left = left;
    opened = os;
    within = M;
    type = i;
    notation = n;
    here = x;
    there = record { within = a; type = b; notation = c; enough = d; caused = e };
  }
  beside_itself {f = f} x (faults.in_element before after a b c d e h y) u v =
      absurd (element_alone f.cause u x.caused (in_list before after a b c d e h) y v)
  beside_itself {f = f} x (faults.in_alternative c a b d e h y) u v = absurd (alternative_alone f.cause u x.caused (in_choice c a b d e h))
  beside_itself {f = f} x (faults.in_field c g r t e y) u v = absurd (component_alone f.cause u x.caused r)
  beside_itself {f = f} x (faults.in_default c r a b d y) u v = absurd (component_alone f.cause u x.caused r)

  beside_element : {levels left rest i a : ℕ} {os ps : List ℕ} {M K : Name} {n m : ValueSyntax} {f g : ValueFault} →
      InList levels left rest os M i n ps K a m →
      IsRightValueFault text levels rest ps K a m f →
      (IsRightValueFault text levels rest ps K a m g → AreAtOne text f g) →
      IsRightValueFault text (suc levels) left os M i n g →
      (f.cause ≡ cause.Memory → ⊥) →
      (g.cause ≡ cause.Memory → ⊥) →
      AreAtOne text f g
  beside_element x d again (faults.no_memory e) u v = absurd (v e)
  beside_element {g = g} x d again (faults.itself o t z r w) u v = absurd (element_alone g.cause v w x d u)
  beside_element x d again (faults.in_element before after a b c h e l y) u v =
      let same = same_element x (in_list before after a b c h e l) d y u v in
      again (moved_fault same.left same.opened same.within same.type same.notation y)
  beside_element {i = i} x d again (faults.in_alternative c a b h e l y) u v =
      let e = one_kind p.types i _ _ x.is a in absurd cc
  beside_element {i = i} x d again (faults.in_field c g r t e y) u v =
      let e = one_kind p.types i _ _ x.is (of_kind r.list.written) in absurd cc
  beside_element {i = i} x d again (faults.in_default c r a b h y) u v =
      let e = one_kind p.types i _ _ x.is (of_kind r.list.written) in absurd cc

  beside_alternative : {levels left i : ℕ} {os ps : List ℕ} {M K : Name} {n m : ValueSyntax} {b : Part} {f g : ValueFault} →
      InChoice levels left os M i n ps K b m →
      (IsRightValueFault text levels left ps K b.ty m g → AreAtOne text f g) →
      IsRightValueFault text (suc levels) (suc left) os M i n g →
      (g.cause ≡ cause.Memory → ⊥) →
      AreAtOne text f g
  beside_alternative x again (faults.no_memory e) v = absurd (v e)
  beside_alternative {g = g} x again (faults.itself o t z r w) v = absurd (alternative_alone g.cause v w x)
  beside_alternative {i = i} x again (faults.in_element before after a b c h e l y) v =
      let e = one_kind p.types i _ _ x.is a in absurd cc
  beside_alternative x again (faults.in_alternative c a b h e l y) v =
      let same = same_alternative x (in_choice c a b h e l) in
      again (moved_fault same.left same.opened same.within same.type same.notation y)
  beside_alternative {i = i} x again (faults.in_field c g r t e y) v =
      let e = one_kind p.types i _ _ x.is (of_kind r.list.written) in let f : r.kind ≡ Choice = cc in absurd (r.no_choice f)
  beside_alternative {i = i} x again (faults.in_default c r a b h y) v =
      let e = one_kind p.types i _ _ x.is (of_kind r.list.written) in let f : r.kind ≡ Choice = cc in absurd (r.no_choice f)

  field_found : {fs gs : List (Named ValueSyntax)} {b c : ListMember} (g : Named ValueSyntax) → fs ≡ gs → b ≡ c → OccursIn fs g →
      name_at g.name ≡ name_at b.name → OccursIn (field_names (map member_of gs)) (name_at c.name)
  field_found {fs} {gs} {b} {c} g e f t h =
      subst (λ (z : ListMember). OccursIn (field_names (map member_of gs)) (name_at z.name)) f
      (subst (λ (z : List (Named ValueSyntax)). OccursIn (field_names (map member_of z)) (name_at b.name)) e
      (t.0, mapped_at (λ (z : Name × Tree). z.0) (map member_of fs) t.0 (member_of g) (occurs_map member_of fs t.0 g t.1) ∙ ap Some h))

  beside_field : {levels left rest i : ℕ} {os ps : List ℕ} {M K N : Name} {n : ValueSyntax} {fs : List (Named ValueSyntax)} {b : ListMember}
      {o : Named ValueSyntax} {f g : ValueFault} →
      AreReadTo text levels left rest os M i n ps K N fs b →
      OccursIn fs o →
      name_at o.name ≡ name_at b.name →
      IsRightValueFault text levels rest ps K b.ty o.value f →
      (IsRightValueFault text levels rest ps K b.ty o.value g → AreAtOne text f g) →
      IsRightValueFault text (suc levels) left os M i n g →
      (f.cause ≡ cause.Memory → ⊥) →
      (g.cause ≡ cause.Memory → ⊥) →
      AreAtOne text f g
  beside_field x t h d again (faults.no_memory e) u v = absurd (v e)
  beside_field {g = g} x t h d again (faults.itself a b c r w) u v = absurd (component_alone g.cause v w x)
  beside_field {i = i} x t h d again (faults.in_element before after a b c e l r y) u v =
      let e = one_kind p.types i _ _ (of_kind x.list.written) a in absurd cc
  beside_field {i = i} x t h d again (faults.in_alternative c a b e l r y) u v =
      let e = one_kind p.types i _ _ (of_kind x.list.written) a in let f : x.kind ≡ Choice = cc in absurd (x.no_choice f)
  beside_field {fs = fs} {b = b} {o = o} x t h d again (faults.in_field c q r k e y) u v =
      let same = same_component x r (reading.in_field o t h d) (reading.in_field q k e y) u v in
      let there = subst (λ (z : List (Named ValueSyntax)). OccursIn z q) (sym same.fields) k in
      let names = h ∙ ap (λ (z : ListMember). name_at z.name) same.component ∙ sym e in
      let values = ap (λ (z : Named ValueSyntax). z.value) (one_named fs o q (names_differ x) t there names) in
      again (moved_fault same.left same.opened same.within (ap (λ (z : ListMember). z.ty) same.component) values y)
  beside_field {o = o} x t h d again (faults.in_default {d = l} c r out a b y) u v =
      let same = same_component x r (reading.in_field o t h d)
      (reading.in_default out (record { default = l; standing = a; presence = b; fault = y })) u v in
      absurd (out (field_found o same.fields same.component t h))

  beside_default : {levels left rest i : ℕ} {os ps : List ℕ} {M K N : Name} {n l : ValueSyntax} {fs : List (Named ValueSyntax)}
      {b : ListMember} {f g : ValueFault} →
      AreReadTo text levels left rest os M i n ps K N fs b →
      (OccursIn (field_names (map member_of fs)) (name_at b.name) → ⊥) →
      IsWrittenDefault b.presence l →
      IsWrongField text levels rest ps K N fs b f →
      (IsRightValueFault text levels 16777216 [] N b.ty l g → AreAtOne text f g) →
      IsRightValueFault text (suc levels) left os M i n g →
      (f.cause ≡ cause.Memory → ⊥) →
      (g.cause ≡ cause.Memory → ⊥) →
      AreAtOne text f g
  beside_default x out t d again (faults.no_memory e) u v = absurd (v e)
  beside_default {g = g} x out t d again (faults.itself a b c r w) u v = absurd (component_alone g.cause v w x)
  beside_default {i = i} x out t d again (faults.in_element before after a b c e l r y) u v =
      let e = one_kind p.types i _ _ (of_kind x.list.written) a in absurd cc
  beside_default {i = i} x out t d again (faults.in_alternative c a b e l r y) u v =
      let e = one_kind p.types i _ _ (of_kind x.list.written) a in let f : x.kind ≡ Choice = cc in absurd (x.no_choice f)
  beside_default x out t d again (faults.in_field c q r k e y) u v =
      let same = same_component x r d (reading.in_field q k e y) u v in
      absurd (out (field_found q (sym same.fields) (sym same.component) k e))
  beside_default {l = l} {b = b} x out t d again (faults.in_default {d = m} c r none standing presence y) u v =
      let same = same_component x r d (reading.in_default none (record { default = m; standing = standing; presence = presence; fault = y })) u v in
      let values = one_written b.presence l m t (subst (λ (z : ListMember). IsWrittenDefault z.presence m) (sym same.component) presence) in
      again (moved_fault refl refl same.home (ap (λ (z : ListMember). z.ty) same.component) values y)

  pub at_one : {levels left i : ℕ} {os : List ℕ} {M : Name} {n : ValueSyntax} {f g : ValueFault} →
      IsRightValueFault text levels left os M i n f →
      IsRightValueFault text levels left os M i n g →
      (f.cause ≡ cause.Memory → ⊥) →
      (g.cause ≡ cause.Memory → ⊥) →
      AreAtOne text f g
  at_one (faults.no_memory e) h u v = absurd (u e)
  at_one (faults.itself a b c d e) h u v =
      beside_itself (record { within = a; type = b; notation = c; enough = d; caused = e }) h u v
  at_one (faults.in_element before after a b c d e r y) h u v =
      beside_element (in_list before after a b c d e r) y (λ z. at_one y z u v) h u v
  at_one (faults.in_alternative c a b d e r y) h u v = beside_alternative (in_choice c a b d e r) (λ z. at_one y z u v) h v
  at_one (faults.in_field c o r t e y) h u v = beside_field r t e y (λ z. at_one y z u v) h u v
  at_one (faults.in_default {d = l} c r out a b y) h u v =
      beside_default r out b (reading.in_default out (record { default = l; standing = a; presence = b; fault = y })) (λ z. at_one y z u v) h u v
