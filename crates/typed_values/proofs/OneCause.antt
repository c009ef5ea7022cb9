-- Two causes of faults at one notation are one cause.
use Rattle.std.proofs.Common.{inl, inr, ◌≡◌, ℕ, refl, sym, ap, ap₂, map, subst, ◌∙◌, Some, None, Bool}
use Rattle.std.specs.Prelude.{ℤ, List, Option, slice_get}
use Rattle.asn_base.specs.Abstract.{AbstractValue}
use Rattle.trees.specs.declared.types.ListKind.{ListKind}
use Rattle.trees.specs.declared.types.ListKind.TheVariants.{Choice}
use Rattle.trees.specs.declared.value.Named.{Named}
use Rattle.trees.specs.declared.value.ValueSyntax.{ValueSyntax}
use Rattle.trees.specs.Values.{Name, Tree, Trees, reference, member_of, tree_of}
use Rattle.trees.specs.Types.{Plain}
use Rattle.names.specs.Modules.{AreDifferent}
use Rattle.names.specs.Names.{under}
use Rattle.type_table.specs.Table.{WrittenKind, Part, simple}
use Rattle.type_table.specs.Table as table
use Rattle.resolve.specs.Program.{Program, WrittenProgram}
use Rattle.range_ends.specs.Ends.{IsTypeOfKind}
use Rattle.value_notations.specs.References.{IsLast}
use Rattle.value_notations.specs.Leaves.{IsLeafNotation}
use Rattle.value_notations.specs.Leaves as leaves
use Rattle.value_notations.specs.Notations.{Notation, field_names, part_names}
use Rattle.value_notations.specs.Notations as family
use Rattle.value_notations.specs.Wrong.{NotationTrouble, IsWrongHere, IsDisarranged, IsUnknownBit, HasUnknownBit, HasNoMeaning, not_of_type}
use Rattle.value_notations.specs.Wrong as wrong
use Rattle.value_notations.specs.Outside.{IsLeftOut, HasPast}
use Rattle.value_notations.specs.Faults.{IsPastOidLimit}
use Rattle.value_notations.specs.Written.{IsLastAt, IsFirstAmong, braced_fields, braced_values}
use Rattle.value_notations.specs.proving.Places.{one_some, some_none, less_or_more}
use Rattle.value_notations.specs.proving.Following.{one_kind, sound_kind}
use Rattle.values.specs.Allowing.{Allows, AllowsCode}
use Rattle.values.specs.Arranged.{IsNamesFault}
use Rattle.values.specs.declared.arranging.NamesFault.{NamesFault}
use Rattle.values.specs.declared.arranging.NamesFault.TheVariants as named
use Rattle.typed_values.specs.declared.fault.Cause.{Cause}
use Rattle.typed_values.specs.declared.fault.Cause.TheVariants as cause
use Rattle.typed_values.specs.Faults.{AreLeftFor, IsCause, IsLostAt, IsCircularNameIn, HasLeaf, HasLeafIn, IsUnknownBitIn, HasNames, HasNoAlternative, IsOutsideAlone}
use Rattle.typed_values.specs.Laws.{WrittenCause, written_cause}
use Rattle.typed_values.specs.Laws as written
use Rattle.typed_values.proofs.Braces.{fields_found}
use Rattle.typed_values.proofs.Reached.{one_end, lost_alone, round_alone, lost_round, one_lost, one_round}
use Rattle.typed_values.proofs.Misfits.{of_misfit, fits, misfit_fields}
use Rattle.typed_values.proofs.Excluding.{OneValue, NoneWrong, IsKept, same_value, wrong_none}

-- ---- bits

one_unknown : {bs : List (Name × ℕ)} {x y : Name} {ts : Trees} → IsUnknownBit bs x ts → IsUnknownBit bs y ts → x ≡ y
one_unknown (wrong.first_bit e) (wrong.first_bit f) = refl
one_unknown {bs} {x} (wrong.first_bit e) (wrong.later_bit {place = i} f u) = absurd (some_none (under x bs) i f e)
one_unknown {bs} {y = y} (wrong.later_bit {place = i} e t) (wrong.first_bit f) = absurd (some_none (under y bs) i e f)
one_unknown (wrong.later_bit e t) (wrong.later_bit f u) = one_unknown t u

one_bit : {k : Plain} {l : Tree} {x y : Name} → HasUnknownBit k l x → HasUnknownBit k l y → x ≡ y
one_bit {y = y} a b =
    let e = sym a.is ∙ b.is in
    let f = sym a.in_braces ∙ b.in_braces in
    let bits : b.bits ≡ a.bits = cc in
    let names : b.names ≡ a.names = cc in
    one_unknown a.unknown
    (subst (λ (z : List (Name × ℕ)). IsUnknownBit z y a.names) bits (subst (λ (z : Trees). IsUnknownBit b.bits y z) names b.unknown))

one_first : {ns : List ValueSyntax} {b c : ValueSyntax} → IsFirstAmong ns b → IsFirstAmong ns c → tree_of b ≡ tree_of c → b ≡ c
one_first {ns} {b} {c} x y e =
    elim (less_or_more x.number y.number) [
      | inl h ↦ one_some (slice_get ns x.number) b c x.there (subst (λ (i : ℕ). slice_get ns i ≡ Some c) (sym h) y.there)
      | inr h ↦ elim h [
        | inl l ↦ absurd (y.before x.number b l x.there e)
        | inr l ↦ absurd (x.before y.number c l y.there (sym e))
      ]
    ]

-- ---- values

-- constraints exclude no object identifier
past_out : (A : ℕ → ℤ → Type 0) (C : ℕ → ℕ → Type 0) (i : ℕ) {k : Plain} {l : Tree} {v : AbstractValue} →
    IsLeafNotation k l v → HasPast v → IsLeftOut A C i (simple k) v → ⊥
past_out A C i leaves.truth q o = q
past_out A C i leaves.falsehood q o = q
past_out A C i leaves.written_number q o = q
past_out A C i (leaves.named_number e) q o = q
past_out A C i (leaves.named_item e) q o = q
past_out A C i (leaves.bit_digits e f) q o = q
past_out A C i (leaves.bit_hex e f) q o = q
past_out A C i (leaves.no_named_bit e) q o = q
past_out A C i (leaves.named_bits e f) q o = q
past_out A C i (leaves.octet_digits e) q o = q
past_out A C i (leaves.octet_hex e) q o = q
past_out A C i leaves.nothing_more q o = q
past_out A C i (leaves.identifier e) q o = o
past_out A C i leaves.relative q o = o
past_out A C i leaves.relative_alone q o = o
past_out A C i (leaves.utf8 e) q o = q
past_out A C i (leaves.restricted e) q o = q

-- ---- what is wrong, by how much of the notation is read

-- something is wrong with the form of the notation to which the references lead
data HasWrongForm (w : WrittenProgram) (os : List ℕ) (M : Name) (i : ℕ) (n : ValueSyntax) : WrittenCause → Type 0 where
  misfit : IsWrongHere w.program os M i (tree_of n) not_of_type → HasWrongForm w os M i n written.not_of_type
  bit : {K : Name} {b : ValueSyntax} →
      HasLeafIn w os M K i n (IsUnknownBitIn b) →
      HasWrongForm w os M i n (written.unknown_bit K b)
  other : HasNoAlternative w.program os M i (tree_of n) → HasWrongForm w os M i n written.unknown_alternative
  names : {K : Name} {l : ValueSyntax} (f : NamesFault) →
      (f ≡ named.Memory → ⊥) →
      HasNames w os M K i n l (λ k cs fs. IsNamesFault k cs fs f) →
      HasWrongForm w os M i n (written.disarranged f K l)

-- the notation stands for a value that the type excludes
data HasWrongValue (w : WrittenProgram) (levels left : ℕ) (os : List ℕ) (M : Name) (i : ℕ) (n : ValueSyntax)
    : WrittenCause → Type 0 where
  past : HasLeaf w os M i n (λ k l. IsPastOidLimit k (tree_of l)) → HasWrongValue w levels left os M i n written.past_oid
  out : IsOutsideAlone w.program levels left os M i (tree_of n) → HasWrongValue w levels left os M i n written.outside

abbrev AreLeft : (levels left : ℕ) → Type 0
AreLeft levels left = (levels ≡ 0 → ⊥) × (left ≡ 0 → ⊥)

data HasReason (w : WrittenProgram) (levels left : ℕ) (os : List ℕ) (M : Name) (i : ℕ) (n : ValueSyntax)
    : WrittenCause → Type 0 where
  deep : levels ≡ 0 → HasReason w levels left os M i n written.no_level
  many : (levels ≡ 0 → ⊥) → left ≡ 0 → HasReason w levels left os M i n written.no_node
  lost : {k : WrittenKind} {K : Name} {l : ValueSyntax} →
      AreLeft levels left →
      IsTypeOfKind w.program.types i k →
      IsLostAt w k os M n K l →
      HasReason w levels left os M i n (written.no_meaning K l)
  round : {k : WrittenKind} {K : Name} {l : ValueSyntax} (j : ℕ) →
      AreLeft levels left →
      IsTypeOfKind w.program.types i k →
      IsCircularNameIn w k os M n j K l →
      HasReason w levels left os M i n (written.circular j K l)
  form : {c : WrittenCause} →
      AreLeft levels left →
      HasWrongForm w os M i n c →
      HasReason w levels left os M i n c
  value : {c : WrittenCause} →
      AreLeft levels left →
      HasWrongValue w levels left os M i n c →
      HasReason w levels left os M i n c

reason_of : {w : WrittenProgram} {levels left : ℕ} {os : List ℕ} {M : Name} {i : ℕ} {n : ValueSyntax} (c : Cause) →
    (c ≡ cause.Memory → ⊥) → AreLeftFor levels left c → IsCause w levels left os M i n c →
    HasReason w levels left os M i n (written_cause c)
reason_of cause.Memory u a h = absurd (u refl)
reason_of cause.Depth u a h = deep h
reason_of cause.Nodes u a h = many a h
reason_of (cause.NoMeaning K l) u a h = lost a h.is h.such
reason_of (cause.Circular j K l) u a h = round j a h.is h.such
reason_of cause.NotOfType u a h = form a (misfit h)
reason_of (cause.UnknownBit K l) u a h = form a (bit h)
reason_of cause.Oid u a h = value a (past h)
reason_of cause.UnknownAlternative u a h = form a (other h)
reason_of (cause.UnknownField j K l) u a h = form a (names (named.Unknown j) (λ e. absurd cc) h)
reason_of (cause.Repeated j K l) u a h = form a (names (named.Repeated j) (λ e. absurd cc) h)
reason_of (cause.Missing j K l) u a h = form a (names (named.Missing j) (λ e. absurd cc) h)
reason_of (cause.OutOfOrder j K l) u a h = form a (names (named.OutOfOrder j) (λ e. absurd cc) h)
reason_of cause.Outside u a h = value a (out h)

named_trouble : {k : ListKind} {cs : List Part} {fs : List Name} (f : NamesFault) → (f ≡ named.Memory → ⊥) →
    IsNamesFault k cs fs f → (t : NotationTrouble) × IsDisarranged k cs fs t
named_trouble named.Memory u h = absurd (u refl)
named_trouble (named.Unknown j) u h = (wrong.unknown_item h.name, h.wrong)
named_trouble (named.Repeated j) u h = (wrong.repeated h.name, h.wrong)
named_trouble (named.Missing j) u h = (wrong.missing h.part.name, h.wrong)
named_trouble (named.OutOfOrder j) u h = (wrong.out_of_order h.name h.other, h.wrong)

-- the references of a notation have an end
record HasEnd (p : Program) (os : List ℕ) (M : Name) (i : ℕ) (n : Tree) : Type 0 where
  pub opened : List ℕ
  pub kind : WrittenKind
  pub within : Name
  pub notation : Tree
  pub is : IsTypeOfKind p.types i kind
  pub last : IsLast p kind os M n opened within notation

of_end : {p : Program} {os ps : List ℕ} {M K : Name} {i : ℕ} {n l : Tree} {k : WrittenKind} → IsTypeOfKind p.types i k →
    IsLast p k os M n ps K l → HasEnd p os M i n
of_end {ps = ps} {K = K} {l = l} {k = k} a d = record { opened = ps; kind = k; within = K; notation = l; is = a; last = d }

-- a notation of wrong form has one
form_end : {w : WrittenProgram} {os : List ℕ} {M : Name} {i : ℕ} {n : ValueSyntax} {c : WrittenCause} → HasWrongForm w os M i n c →
    HasEnd w.program os M i (tree_of n)
form_end (misfit h) = let m = of_misfit h in of_end m.is m.last
form_end (bit h) = of_end h.is h.last.last
form_end (other h) = of_end h.is h.last
form_end (names f u h) = of_end h.is h.last.last

form_wrong : {w : WrittenProgram} {os : List ℕ} {M : Name} {i : ℕ} {n : ValueSyntax} {c : WrittenCause} → HasWrongForm w os M i n c →
    (t : NotationTrouble) × IsWrongHere w.program os M i (tree_of n) t
form_wrong (misfit h) = (not_of_type, h)
form_wrong (bit h) = (wrong.unknown_item h.such.0.name, wrong.bit h.is h.last.last h.such.0.unknown)
form_wrong (other h) = (wrong.unknown_item h.name, wrong.other_alternative h.is h.last h.none)
form_wrong (names {l = l} f u h) =
    let t = named_trouble f u h.such in
    (t.0, wrong.names h.is h.no_choice h.last.last (fields_found l h.fields h.in_braces) t.1)

lost_wrong : {p : Program} {os : List ℕ} {M : Name} {i : ℕ} {n : Tree} {k : WrittenKind} (q : Option Name) (x : Name) →
    IsTypeOfKind p.types i k → HasNoMeaning p k os M n q x → (t : NotationTrouble) × IsWrongHere p os M i n t
lost_wrong None x a h = (wrong.unknown_item x, wrong.lost_item a h)
lost_wrong (Some q) x a h = (wrong.unknown_name x, wrong.lost_name a h)

value_of : {w : WrittenProgram} {levels left : ℕ} {os : List ℕ} {M : Name} {i : ℕ} {n : ValueSyntax} {c : WrittenCause} →
    HasWrongValue w levels left os M i n c → (v : AbstractValue) × Notation w.program os M i (tree_of n) v
value_of (past h) = let l = h.leaf in (l.such.value, family.notation l.is l.last.last (family.of_leaf l.such.is_so))
value_of (out h) = (h.outside.value, h.outside.is_so)

-- what the crate below says of names in braces
abbrev pub OneNames : Type 0
OneNames = (k : ListKind) (cs : List Part) (fs : List Name) (f g : NamesFault) →
    AreDifferent (part_names cs) → (f ≡ named.Memory → ⊥) → (g ≡ named.Memory → ⊥) →
    IsNamesFault k cs fs f → IsNamesFault k cs fs g → f ≡ g

module _ (text : WrittenProgram) (s : IsKept text.program) (one : OneValue) (none_wrong : NoneWrong) (one_names : OneNames) where
  abbrev p : Program
  p = text.program

  different_parts : {k : ListKind} {e : Bool} {cs : List Part} (i : ℕ) → (k ≡ Choice → ⊥) → IsTypeOfKind p.types i (table.members k e cs) →
      AreDifferent (part_names cs)
  different_parts {k} {e} {cs} i none a = (sound_kind p.types i (table.members k e cs) s.sound a).names

  one_disarranged : {os : List ℕ} {M K L : Name} {i : ℕ} {n l m : ValueSyntax} (f g : NamesFault) → (f ≡ named.Memory → ⊥) →
      (g ≡ named.Memory → ⊥) →
      HasNames text os M K i n l (λ k cs fs. IsNamesFault k cs fs f) →
      HasNames text os M L i n m (λ k cs fs. IsNamesFault k cs fs g) →
      written.disarranged f K l ≡ written.disarranged g L m
  one_disarranged {os} {M} {K} {L} {i} {n} {l} {m} f g u v x y =
      let kinds = one_kind p.types i (table.members y.list y.marked y.parts) (table.members x.list x.marked x.parts) y.is x.is in
      let lists : y.list ≡ x.list = cc in
      let parts : y.parts ≡ x.parts = cc in
      let ends = one_end s.apart x.last (subst (λ (z : WrittenKind). IsLastAt text z os M n y.opened L m) kinds y.last) in
      let fields = one_some (braced_fields l) y.fields x.fields
      (subst (λ (z : ValueSyntax). braced_fields z ≡ Some y.fields) (sym ends.notation) y.in_braces) x.in_braces in
      let such = subst (λ (z : ListKind). IsNamesFault z x.parts (field_names (map member_of x.fields)) g) lists
      (subst (λ (z : List Part). IsNamesFault y.list z (field_names (map member_of x.fields)) g) parts
      (subst (λ (z : List (Named ValueSyntax)). IsNamesFault y.list y.parts (field_names (map member_of z)) g) fields y.such)) in
      let a = one_names x.list x.parts (field_names (map member_of x.fields)) f g (different_parts i x.no_choice x.is) u v x.such such in
      let b = ends.within in
      let c = ends.notation in
      cc

  one_unknown_bit : {os : List ℕ} {M K L : Name} {i : ℕ} {n b c : ValueSyntax} → HasLeafIn text os M K i n (IsUnknownBitIn b) →
      HasLeafIn text os M L i n (IsUnknownBitIn c) → written.unknown_bit K b ≡ written.unknown_bit L c
  one_unknown_bit {os} {M} {K} {L} {i} {n} {b} {c} x y =
      let kinds = one_kind p.types i (simple y.plain) (simple x.plain) y.is x.is in
      let plains : y.plain ≡ x.plain = cc in
      let ends = one_end s.apart x.last (subst (λ (z : WrittenKind). IsLastAt text z os M n y.opened L y.notation) kinds y.last) in
      let such = subst (λ (z : Plain). IsUnknownBitIn c z x.notation) plains
      (subst (λ (z : ValueSyntax). IsUnknownBitIn c y.plain z) (sym ends.notation) y.such) in
      let names = one_bit x.such.0.unknown such.0.unknown in
      let trees = x.such.0.notation ∙ ap (λ (z : Name). reference None z) names ∙ sym such.0.notation in
      let first = x.such.1 in
      let second = such.1 in
      let lists = one_some (braced_values x.notation) second.0 first.0 second.1 first.1 in
      let bits = one_first first.2 (subst (λ (z : List ValueSyntax). IsFirstAmong z c) lists second.2) trees in
      ap₂ (λ z u. written.unknown_bit z u) ends.within bits

  one_form : {os : List ℕ} {M : Name} {i : ℕ} {n : ValueSyntax} {c d : WrittenCause} → HasWrongForm text os M i n c →
      HasWrongForm text os M i n d → c ≡ d
  one_form (misfit h) (misfit g) = refl
  one_form (misfit h) (bit g) = absurd ((fits s.apart h g.is g.last.last).1 g.such.0.name g.such.0.unknown)
  one_form (misfit h) (other g) = absurd (fits s.apart h g.is g.last g.name g.inner refl)
  one_form (misfit h) (names {l = l} f u g) =
      absurd (misfit_fields g.list g.marked g.parts (tree_of l) (map member_of g.fields) g.no_choice (fields_found l g.fields g.in_braces)
      (fits s.apart h g.is g.last.last))
  one_form (bit g) (misfit h) = absurd ((fits s.apart h g.is g.last.last).1 g.such.0.name g.such.0.unknown)
  one_form (bit h) (bit g) = one_unknown_bit h g
  one_form {i = i} (bit h) (other g) = let e = one_kind p.types i _ _ h.is g.is in absurd cc
  one_form {i = i} (bit h) (names f u g) = let e = one_kind p.types i _ _ h.is g.is in absurd cc
  one_form (other g) (misfit h) = absurd (fits s.apart h g.is g.last g.name g.inner refl)
  one_form {i = i} (other h) (bit g) = let e = one_kind p.types i _ _ h.is g.is in absurd cc
  one_form (other h) (other g) = refl
  one_form {i = i} (other h) (names f u g) =
      let e = one_kind p.types i _ _ g.is h.is in let f : g.list ≡ Choice = cc in absurd (g.no_choice f)
  one_form (names {l = l} f u g) (misfit h) =
      absurd (misfit_fields g.list g.marked g.parts (tree_of l) (map member_of g.fields) g.no_choice (fields_found l g.fields g.in_braces)
      (fits s.apart h g.is g.last.last))
  one_form {i = i} (names f u h) (bit g) = let e = one_kind p.types i _ _ h.is g.is in absurd cc
  one_form {i = i} (names f u g) (other h) =
      let e = one_kind p.types i _ _ g.is h.is in let f : g.list ≡ Choice = cc in absurd (g.no_choice f)
  one_form (names f u h) (names g v k) = one_disarranged f g u v h k

  past_alone : {levels left : ℕ} {os : List ℕ} {M : Name} {i : ℕ} {n : ValueSyntax} →
      HasLeaf text os M i n (λ k l. IsPastOidLimit k (tree_of l)) → IsOutsideAlone p levels left os M i (tree_of n) → ⊥
  past_alone {i = i} x y =
      let l = x.leaf in
      let o = y.outside in
      let values = same_value text s one none_wrong o.is_so (family.notation l.is l.last.last (family.of_leaf l.such.is_so)) in
      let kinds = one_kind p.types i o.kind (simple l.plain) o.is l.is in
      past_out (Allows p) (AllowsCode p) i l.such.is_so l.such.past
      (subst (λ (z : WrittenKind). IsLeftOut (Allows p) (AllowsCode p) i z l.such.value) kinds
      (subst (λ (z : AbstractValue). IsLeftOut (Allows p) (AllowsCode p) i o.kind z) values o.left_out))

  one_wrong_value : {levels left : ℕ} {os : List ℕ} {M : Name} {i : ℕ} {n : ValueSyntax} {c d : WrittenCause} →
      HasWrongValue text levels left os M i n c → HasWrongValue text levels left os M i n d → c ≡ d
  one_wrong_value (past h) (past g) = refl
  one_wrong_value (past h) (out g) = absurd (past_alone h g)
  one_wrong_value (out h) (past g) = absurd (past_alone g h)
  one_wrong_value (out h) (out g) = refl

  no_value : {levels left : ℕ} {os : List ℕ} {M : Name} {i : ℕ} {n : ValueSyntax} {c : WrittenCause} →
      (t : NotationTrouble) × IsWrongHere p os M i (tree_of n) t → HasWrongValue text levels left os M i n c → ⊥
  no_value t h = let v = value_of h in wrong_none text s one none_wrong t.0 t.1 v.1

  lost_no_value : {levels left : ℕ} {os : List ℕ} {M K : Name} {i : ℕ} {n l : ValueSyntax} {k : WrittenKind} {c : WrittenCause} →
      IsTypeOfKind p.types i k → IsLostAt text k os M n K l → HasWrongValue text levels left os M i n c → ⊥
  lost_no_value a h v = no_value (lost_wrong h.meant.prefix h.meant.name a h.meant.lost) v

  round_no_value : {levels left : ℕ} {os : List ℕ} {M K : Name} {i : ℕ} {n l : ValueSyntax} {k : WrittenKind} {c : WrittenCause} (j : ℕ) →
      IsTypeOfKind p.types i k → IsCircularNameIn text k os M n j K l → HasWrongValue text levels left os M i n c → ⊥
  round_no_value j a h v = no_value (wrong.circular j, wrong.round a h.meant.round) v

  lost_no_form : {os : List ℕ} {M K : Name} {i : ℕ} {n l : ValueSyntax} {k : WrittenKind} {c : WrittenCause} →
      IsTypeOfKind p.types i k → IsLostAt text k os M n K l → HasWrongForm text os M i n c → ⊥
  lost_no_form a h f = let e = form_end f in lost_alone s.apart a h.meant.lost e.is e.last

  round_no_form : {os : List ℕ} {M K : Name} {i j : ℕ} {n l : ValueSyntax} {k : WrittenKind} {c : WrittenCause} →
      IsTypeOfKind p.types i k → IsCircularNameIn text k os M n j K l → HasWrongForm text os M i n c → ⊥
  round_no_form a h f = let e = form_end f in round_alone s.apart a h.meant.round e.is e.last

  one_reason : {levels left : ℕ} {os : List ℕ} {M : Name} {i : ℕ} {n : ValueSyntax} {c d : WrittenCause} →
      HasReason text levels left os M i n c → HasReason text levels left os M i n d → c ≡ d
  one_reason (deep e) (deep f) = refl
  one_reason (deep e) (many f g) = absurd (f e)
  one_reason (deep e) (lost f a h) = absurd (f.0 e)
  one_reason (deep e) (round j f a h) = absurd (f.0 e)
  one_reason (deep e) (form f h) = absurd (f.0 e)
  one_reason (deep e) (value f h) = absurd (f.0 e)
  one_reason (many e g) (deep f) = absurd (e f)
  one_reason (many e g) (many f h) = refl
  one_reason (many e g) (lost f a h) = absurd (f.1 g)
  one_reason (many e g) (round j f a h) = absurd (f.1 g)
  one_reason (many e g) (form f h) = absurd (f.1 g)
  one_reason (many e g) (value f h) = absurd (f.1 g)
  one_reason (lost f a h) (deep e) = absurd (f.0 e)
  one_reason (lost f a h) (many e g) = absurd (f.1 g)
  one_reason (lost f a h) (lost e b g) = let z = one_lost s.apart a h b g in ap₂ (λ u v. written.no_meaning u v) z.0 z.1
  one_reason (lost f a h) (round j e b g) = absurd (lost_round s.apart a h.meant.lost b g.meant.round)
  one_reason (lost f a h) (form e g) = absurd (lost_no_form a h g)
  one_reason (lost f a h) (value e g) = absurd (lost_no_value a h g)
  one_reason (round j f a h) (deep e) = absurd (f.0 e)
  one_reason (round j f a h) (many e g) = absurd (f.1 g)
  one_reason (round j f a h) (lost e b g) = absurd (lost_round s.apart b g.meant.lost a h.meant.round)
  one_reason (round j f a h) (round m e b g) =
      let z = one_round j m s.apart a h b g in
      let x = z.0 in
      let y = z.1 in
      let t = z.2 in
      cc
  one_reason (round j f a h) (form e g) = absurd (round_no_form a h g)
  one_reason (round j f a h) (value e g) = absurd (round_no_value j a h g)
  one_reason (form f h) (deep e) = absurd (f.0 e)
  one_reason (form f h) (many e g) = absurd (f.1 g)
  one_reason (form f h) (lost e b g) = absurd (lost_no_form b g h)
  one_reason (form f h) (round j e b g) = absurd (round_no_form b g h)
  one_reason (form f h) (form e g) = one_form h g
  one_reason (form f h) (value e g) = absurd (no_value (form_wrong h) g)
  one_reason (value f h) (deep e) = absurd (f.0 e)
  one_reason (value f h) (many e g) = absurd (f.1 g)
  one_reason (value f h) (lost e b g) = absurd (lost_no_value b g h)
  one_reason (value f h) (round j e b g) = absurd (round_no_value j b g h)
  one_reason (value f h) (form e g) = absurd (no_value (form_wrong g) h)
  one_reason (value f h) (value e g) = one_wrong_value h g

  pub one_cause : (levels left : ℕ) (os : List ℕ) (M : Name) (i : ℕ) (n : ValueSyntax) (c d : Cause) →
      (c ≡ cause.Memory → ⊥) →
      (d ≡ cause.Memory → ⊥) →
      AreLeftFor levels left c →
      AreLeftFor levels left d →
      IsCause text levels left os M i n c →
      IsCause text levels left os M i n d →
      written_cause c ≡ written_cause d
  one_cause levels left os M i n c d u v a b h g =
      let first : HasReason text levels left os M i n (written_cause c) = reason_of c u a h in
      let second : HasReason text levels left os M i n (written_cause d) = reason_of d v b g in
      one_reason first second
