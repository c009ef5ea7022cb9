-- A notation with a fault isn't that of a value of its type within the limits.
use Rattle.std.proofs.Common.{inl, inr, ◌≡◌, ℕ, zero, suc, ◌+◌, ◌≤◌, refl, sym, ap, map, subst, ◌∙◌, Some, None, Bool, arith}
use Rattle.std.specs.Prelude.{List, [], ◌∷◌, ◌++◌, Option, slice_get}
use Rattle.std.proofs.lemmas.Option.{same_Some}
use Rattle.asn_base.specs.Abstract.{AbstractValue, boolean, integer, enumerated, bits, octets, text, null, oid, relative_oid, fields, list, alternative, Row}
use Rattle.asn_base.specs.Typed.{nodes, row_nodes, IsObjectIdentifier, arcs, IsRelativeOid}
use Rattle.trees.specs.declared.types.ListKind.{ListKind}
use Rattle.trees.specs.declared.types.ListKind.TheVariants.{Sequence, Set, Choice}
use Rattle.trees.specs.declared.types.ElementsKind.{ElementsKind}
use Rattle.trees.specs.declared.types.Standing.TheVariants.{Root}
use Rattle.trees.specs.declared.value.ValueSyntax.{ValueSyntax}
use Rattle.trees.specs.Values.{Name, Tree, chosen, member_of, name_at, tree_of}
use Rattle.trees.specs.Types.{Plain, PresenceTree, mandatory, optional, default, a_bit_string}
use Rattle.names.specs.Modules.{OccursIn, AreDifferent}
use Rattle.names.specs.Names.{IsApart}
use Rattle.names.specs.proving.Distinct.{occurs_map}
use Rattle.type_table.specs.Table.{Type', WrittenKind, simple, elements, Part, next}
use Rattle.type_table.specs.Table as table
use Rattle.type_table.specs.Lists.{AreSound}
use Rattle.type_table.specs.Seen.{part_of}
use Rattle.resolve.specs.Program.{Program, WrittenProgram, IsAssignment}
use Rattle.range_ends.specs.Ends.{IsTypeOfKind}
use Rattle.value_notations.specs.References.{IsLast}
use Rattle.value_notations.specs.Leaves.{IsLeafNotation}
use Rattle.value_notations.specs.Leaves as leaves
use Rattle.value_notations.specs.Notations.{Notation, NotationOf, Fields, NotatedElements, AreArranged, field_names, part_names, fields_in, values_in}
use Rattle.value_notations.specs.Notations as family
use Rattle.value_notations.specs.Values.{NotatedValueIn, NotatedValueOf, AreNotatedComponents, AreNotatedElements, MayLackValue, IsPlainValue, value_in}
use Rattle.value_notations.specs.Values as values
use Rattle.value_notations.specs.Wrong.{NotationTrouble, IsRead, IsWrongHere, HasNoMeaning, IsDisarranged}
use Rattle.value_notations.specs.Wrong as wrong
use Rattle.value_notations.specs.Outside.{IsLeftOut, HasPast, ArePast}
use Rattle.values.specs.Allowing.{Allows, AllowsCode}
use Rattle.typed_values.specs.declared.fault.Cause.{Cause}
use Rattle.typed_values.specs.declared.fault.Cause.TheVariants as cause
use Rattle.typed_values.specs.declared.fault.ValueFault.{ValueFault}
use Rattle.typed_values.specs.Faults.{HasKindIn, IsRightValueFault, IsCause, HasKindAfterReferences, HasLeaf, HasNames, HasNoAlternative}
use Rattle.typed_values.specs.Faults as faults
use Rattle.typed_values.proofs.Braces.{chosen_found, fields_found, values_found}
use Rattle.typed_values.proofs.Places.{middle}
use Rattle.value_notations.specs.proving.Places.{one_some, some_none, one_place, mapped_at, occurs_mapped}
use Rattle.value_notations.specs.proving.Following.{one_kind, sound_kind, one_last, walks_to_one, one_header}
use Rattle.typed_values.proofs.Readings.{default_tree, of_kind}

pub split_map : {A B : Type 0} (f : A → B) (xs : List A) (x : A) (ys : List A) → map f (xs ++ x ∷ ys) ≡ map f xs ++ f x ∷ map f ys
split_map f [] x ys = refl
split_map f (z ∷ xs) x ys = ap (λ zs. f z ∷ zs) (split_map f xs x ys)

-- what the crate below says of notations
abbrev pub OneValue : Type 0
OneValue = (p : Program) (os : List ℕ) (M : Name) (i : ℕ) (n : Tree) (v w : AbstractValue) →
    IsApart p.modules → AreSound p.types → Notation p os M i n v → Notation p os M i n w → v ≡ w

abbrev pub NoneWrong : Type 0
NoneWrong = (p : Program) (os qs : List ℕ) (M K : Name) (i j : ℕ) (n m : Tree) (t : NotationTrouble) (v : AbstractValue) →
    IsApart p.modules → AreSound p.types → IsRead p os M i n qs K j m → IsWrongHere p qs K j m t →
    Notation p os M i n v → ⊥

some_node : (v : AbstractValue) → nodes v ≡ 0 → ⊥
some_node (boolean b) e = absurd cc
some_node (integer z) e = absurd cc
some_node (enumerated z) e = absurd cc
some_node (bits s) e = absurd cc
some_node (octets s) e = absurd cc
some_node (text s) e = absurd cc
some_node null e = absurd cc
some_node (oid s) e = absurd cc
some_node (relative_oid s) e = absurd cc
some_node (fields r) e = absurd cc
some_node (list r) e = absurd cc
some_node (alternative i v) e = absurd cc

pub distinct_fields : (k : ListKind) (cs : List Part) (fs : List (Name × Tree)) →
    AreArranged k (part_names cs) (field_names fs) → AreDifferent (field_names fs)
distinct_fields Sequence cs fs a = a.0
distinct_fields Set cs fs a = a.0
distinct_fields Choice cs fs a = absurd a

pub no_choice : (cs : List Part) (fs : List (Name × Tree)) → AreArranged Choice (part_names cs) (field_names fs) → ⊥
no_choice cs fs a = a

pub one_field : (fs : List (Name × Tree)) (x : Name) (n m : Tree) →
    AreDifferent (field_names fs) → OccursIn fs (x, n) → OccursIn fs (x, m) → n ≡ m
one_field fs x n m d a b =
    let first = mapped_at (λ (f : Name × Tree). f.0) fs a.0 (x, n) a.1 in
    let second = mapped_at (λ (f : Name × Tree). f.0) fs b.0 (x, m) b.1 in
    let same = one_place (field_names fs) x a.0 b.0 d first second in
    ap (λ (f : Name × Tree). f.1)
    (one_some (slice_get fs a.0) (x, n) (x, m) a.1 (subst (λ (i : ℕ). slice_get fs i ≡ Some (x, m)) (sym same) b.1))

carried : {p : Program} {os ps : List ℕ} {K L : Name} {k j : WrittenKind} {l m : Tree} {w : AbstractValue} →
    j ≡ k → ps ≡ os → L ≡ K → m ≡ l → NotationOf p ps L j m w → NotationOf p os K k l w
carried {p} {os} {ps} {K} {L} {k} {j} {l} {m} {w} e f g h d =
    subst (λ (x : Tree). NotationOf p os K k x w) h
    (subst (λ (x : Name). NotationOf p os x k m w) g
    (subst (λ (x : List ℕ). NotationOf p x L k m w) f (subst (λ (x : WrittenKind). NotationOf p ps L x m w) e d)))

-- ---- what is left out

bits_left : (p : Program) (i : ℕ) (bs : List (Name × ℕ)) (s : List Bool) →
    IsLeftOut (Allows p) (AllowsCode p) i (simple (a_bit_string bs)) (bits s) →
    IsPlainValue (Allows p) (AllowsCode p) i (a_bit_string bs) (bits s) → ⊥
bits_left p i [] s o h = o h
bits_left p i (b ∷ bs) s o h = o

plain_left : (p : Program) (i : ℕ) {k : Plain} {l : Tree} {v : AbstractValue} →
    IsLeafNotation k l v →
    IsLeftOut (Allows p) (AllowsCode p) i (simple k) v →
    IsPlainValue (Allows p) (AllowsCode p) i k v → ⊥
plain_left p i leaves.truth o h = o
plain_left p i leaves.falsehood o h = o
plain_left p i leaves.written_number o h = o h.1
plain_left p i (leaves.named_number e) o h = o h.1
plain_left p i (leaves.named_item e) o h = o
plain_left p i (leaves.bit_digits {bs = bs} {s = s} e f) o h = bits_left p i bs s o h
plain_left p i (leaves.bit_hex {bs = bs} {s = s} e f) o h = bits_left p i bs s o h
plain_left p i (leaves.no_named_bit {bs = bs} e) o h = bits_left p i bs [] o h
plain_left p i (leaves.named_bits {bs = bs} {s = s} e f) o h = bits_left p i bs s o h
plain_left p i (leaves.octet_digits e) o h = o h.1
plain_left p i (leaves.octet_hex e) o h = o h.1
plain_left p i leaves.nothing_more o h = o
plain_left p i (leaves.identifier e) o h = o
plain_left p i leaves.relative o h = o
plain_left p i leaves.relative_alone o h = o
plain_left p i (leaves.utf8 e) o h = o h.1
plain_left p i (leaves.restricted e) o h = elim o [
  | inl a ↦ a h.1
  | inr b ↦ b h.0
]

value_left : (p : Program) (n i : ℕ) (N : Name) {os : List ℕ} {K : Name} {k : WrittenKind} {l : Tree} {v : AbstractValue} →
    NotationOf p os K k l v →
    IsLeftOut (Allows p) (AllowsCode p) i k v →
    NotatedValueOf p (Allows p) (AllowsCode p) n i N k v → ⊥
value_left p n i N (family.of_leaf h) o (values.of_leaf a) = plain_left p i h o a
value_left p n i N (family.of_fields e a h w) o (values.of_fields none m g) = o
value_left p n i N (family.of_list e h) o (values.of_list m a) = o a
value_left p n i N (family.of_choice s e h) o (values.of_choice t m) = o

-- ---- what passes the limit on identifiers

identifier_past : (ns : List ℕ) → IsObjectIdentifier ns → ArePast ns → ⊥
identifier_past ns (arcs {x = x} {y = y} {zs = zs} a b c d e) q =
    elim q [
      | inl l ↦ omega (arith, l, e)
      | inr s ↦ s (omega (arith, a), (c, d))
    ]

relative_past : (ns : List ℕ) → IsRelativeOid ns → ArePast ns → ⊥
relative_past ns r q = let m = r.at_most in elim q [
  | inl l ↦ omega (arith, l, m)
  | inr s ↦ s r.small
]

past_none : (p : Program) (i : ℕ) {k : Plain} {l : Tree} {v : AbstractValue} →
    IsLeafNotation k l v →
    HasPast v →
    IsPlainValue (Allows p) (AllowsCode p) i k v → ⊥
past_none p i leaves.truth o h = o
past_none p i leaves.falsehood o h = o
past_none p i leaves.written_number o h = o
past_none p i (leaves.named_number e) o h = o
past_none p i (leaves.named_item e) o h = o
past_none p i (leaves.bit_digits e f) o h = o
past_none p i (leaves.bit_hex e f) o h = o
past_none p i (leaves.no_named_bit e) o h = o
past_none p i (leaves.named_bits e f) o h = o
past_none p i (leaves.octet_digits e) o h = o
past_none p i (leaves.octet_hex e) o h = o
past_none p i leaves.nothing_more o h = o
past_none p i (leaves.identifier {ns = ns} e) o h = identifier_past ns h o
past_none p i (leaves.relative {n = n} {ns = ns}) o h = relative_past (n ∷ ns) h o
past_none p i (leaves.relative_alone {n = n}) o h = relative_past (n ∷ []) h o
past_none p i (leaves.utf8 e) o h = o
past_none p i (leaves.restricted e) o h = o

-- ---- what a value is under a kind

pub record IsKept (p : Program) : Type 0 where
  pub apart : IsApart p.modules
  pub sound : AreSound p.types

module _ (text : WrittenProgram) (s : IsKept text.program) (one : OneValue) (none_wrong : NoneWrong) where
  abbrev p : Program
  p = text.program

  pub at_last : {os ps : List ℕ} {M K : Name} {i : ℕ} {n l : Tree} {k : WrittenKind} {v : AbstractValue} →
      IsTypeOfKind p.types i k → IsLast p k os M n ps K l → Notation p os M i n v → NotationOf p ps K k l v
  at_last {os} {ps} {M} {K} {i} {n} {l} {k} {v} a e (family.notation {ps = qs} {K = L} {l = m} {k = j} b f g) =
      let kinds = one_kind p.types i j k b a in
      let lasts = one_last s.apart (subst (λ (x : WrittenKind). IsLast p x os M n qs L m) kinds f) e in
      carried kinds lasts.opened lasts.within lasts.notation g

  pub same_value : {os : List ℕ} {M : Name} {i : ℕ} {n : Tree} {v w : AbstractValue} →
      Notation p os M i n v → Notation p os M i n w → v ≡ w
  same_value {os} {M} {i} {n} {v} {w} h g = one p os M i n v w s.apart s.sound h g

  -- a value of type i is one of its kind, with fewer levels
  record HasValueOf (n i : ℕ) (k : WrittenKind) (v : AbstractValue) : Type 0 where
    pub levels : ℕ
    pub fewer : n ≡ suc levels
    pub within : Name
    pub written : HasKindIn p i k within
    pub value : NotatedValueOf p (Allows p) (AllowsCode p) levels i within k v

  of_value : {n i : ℕ} {k : WrittenKind} {v : AbstractValue} →
      IsTypeOfKind p.types i k → NotatedValueIn p (Allows p) (AllowsCode p) n i v → HasValueOf n i k v
  of_value {n} {i} {k} {v} a (value_in {n = m} {core = core} {t = t} {M = M} {x = x} c e f h) =
      let b : IsTypeOfKind p.types i t.kind = record { core = core; type = t; chain = c; there = e; kind = refl } in
      let kinds = one_kind p.types i t.kind k b a in
      record {
        levels = m;
        fewer = refl;
        within = M;
        written = record { core = core; type = t; chain = c; there = e; kind = kinds; assigns = x; is_so = f };
        value = subst (λ (z : WrittenKind). NotatedValueOf p (Allows p) (AllowsCode p) m i M z v) kinds h;
      }

  one_home : {i : ℕ} {k : WrittenKind} {M N : Name} → HasKindIn p i k M → HasKindIn p i k N → M ≡ N
  one_home {i} {k} {M} {N} a b =
      let cores = walks_to_one (next p.types) a.chain.steps b.chain.steps i a.core b.core a.chain.chain a.chain.ends b.chain.chain b.chain.ends in
      let types = one_some (slice_get p.types a.core) a.type b.type a.there
      (subst (λ (x : ℕ). slice_get p.types x ≡ Some b.type) (sym cores) b.there) in
      one_header p a.type.assignment M N a.assigns b.assigns a.is_so
      (subst (λ (t : Type'). IsAssignment p t.assignment N b.assigns) (sym types) b.is_so)

  -- a notation in the notation has a value, of its type and with few nodes
  record HasPart (n left : ℕ) (os : List ℕ) (K : Name) (i : ℕ) (m : Tree) : Type 0 where
    pub part : AbstractValue
    pub is_so : Notation p os K i m part
    pub value : NotatedValueIn p (Allows p) (AllowsCode p) n i part
    pub few : nodes part ≤ left

  pub element_at : {n a : ℕ} {os : List ℕ} {K : Name} {m : Tree} (before after : List Tree) {r q : Row} →
      NotatedElements p os K a (before ++ m ∷ after) r →
      NotatedElements p os K a before q →
      AreNotatedElements p (Allows p) (AllowsCode p) n a r →
      (w : AbstractValue) × Notation p os K a m w × NotatedValueIn p (Allows p) (AllowsCode p) n a w
      × (row_nodes q + nodes w ≤ row_nodes r)
  element_at [] after (family.one_element {v = v} {r = r} h k) family.no_element (values.one_element g j) =
      (v, h, g, omega arith)
  element_at (t ∷ before) after (family.one_element {v = v} {r = r} h k) (family.one_element {v = w} {r = q} x y) (values.one_element g j) =
      let e = ap nodes (same_value h x) in
      let f = element_at before after k y j in
      let l = f.3 in
      (f.0, f.1, f.2, omega (arith, e, l))

  element_in : {n i a left rest : ℕ} {N K : Name} {os : List ℕ} {k : ElementsKind} {l m : Tree} {before : List Tree}
      {q : Row} {v : AbstractValue} (after : List Tree) →
      NotationOf p os K (elements k a) l v →
      NotatedValueOf p (Allows p) (AllowsCode p) n i N (elements k a) v →
      values_in l ≡ Some (before ++ m ∷ after) →
      NotatedElements p os K a before q →
      left ≡ suc (row_nodes q + rest) →
      nodes v ≤ left →
      HasPart n rest os K a m
  element_in {n} {i} {a} {left} {rest} {N} {K} {os} {k} {l} {m} {before} {q} after (family.of_list {ts = ts} {r = r} e h) (values.of_list g o) f d c b =
      let same = one_some (values_in l) ts (before ++ m ∷ after) e f in
      let w = element_at before after (subst (λ (x : List Tree). NotatedElements p os K a x r) same h) d g in
      let z = w.3 in
      record { part = w.0; is_so = w.1; value = w.2; few = omega (arith, b, c, z) }

  chosen_in : {n i left : ℕ} {N K : Name} {os : List ℕ} {e : Bool} {cs : List Part} {x : Name} {m : Tree} {c : Part}
      {v : AbstractValue} →
      AreDifferent (part_names cs) →
      NotationOf p os K (table.members Choice e cs) (chosen x m) v →
      NotatedValueOf p (Allows p) (AllowsCode p) n i N (table.members Choice e cs) v →
      OccursIn cs c →
      c.name ≡ x →
      nodes v ≤ suc left →
      HasPart n left os K c.ty m
  chosen_in d (family.of_fields {cs = cs} {fs = fs} g a h w) o t f b = absurd (no_choice cs fs a)
  chosen_in {n} {i} {left} {N} {K} {os} {e} {cs} {x} {m} {c} d (family.of_choice {c = y} {a = a} {v = w} g k h) (values.of_choice {c = z} u o) t f b =
      let first = mapped_at (λ (q : Part). q.name) cs a y g ∙ ap Some k in
      let second = mapped_at (λ (q : Part). q.name) cs t.0 c t.1 ∙ ap Some f in
      let places = one_place (part_names cs) x a t.0 d first second in
      let there = subst (λ (j : ℕ). slice_get cs j ≡ Some c) (sym places) t.1 in
      let parts = one_some (slice_get cs a) y c g there in
      let others = one_some (slice_get cs a) z c u there in
      record {
        part = w;
        is_so = subst (λ (q : Part). Notation p os K q.ty m w) parts h;
        value = subst (λ (q : Part). NotatedValueIn p (Allows p) (AllowsCode p) n q.ty w) others o;
        few = omega (arith, b);
      }

  pub field_at : {n : ℕ} {os : List ℕ} {K N : Name} {fs : List (Name × Tree)} {m : Tree} {r q : Row} (c : Part) (before after : List Part) →
      AreDifferent (field_names fs) →
      OccursIn fs (c.name, m) →
      Fields p os K fs (before ++ c ∷ after) r →
      Fields p os K fs before q →
      AreNotatedComponents p (Allows p) (AllowsCode p) n N (before ++ c ∷ after) r →
      (w : AbstractValue) × Notation p os K c.ty m w × NotatedValueIn p (Allows p) (AllowsCode p) n c.ty w
      × (row_nodes q + nodes w ≤ row_nodes r)
  field_at {fs = fs} {m = m} c [] after d t (family.part_absent away may h) family.no_part o =
      absurd (away (occurs_mapped (λ (f : Name × Tree). f.0) fs (c.name, m) t))
  field_at {os = os} {K = K} {fs = fs} {m = m} c [] after d t (family.part_present {n = l} {v = v} u h k) family.no_part (values.component_present g j) =
      let e = one_field fs c.name l m d u t in
      (v, subst (λ (z : Tree). Notation p os K c.ty z v) e h, g, omega arith)
  field_at c (b ∷ before) after d t (family.part_absent away may h) (family.part_absent x y k) (values.component_absent g j) =
      field_at c before after d t h k j
  field_at {fs = fs} c (b ∷ before) after d t (family.part_absent away may h) (family.part_present {n = l} u x k) o =
      absurd (away (occurs_mapped (λ (f : Name × Tree). f.0) fs (b.name, l) u))
  field_at {fs = fs} c (b ∷ before) after d t (family.part_present {n = l} u x k) (family.part_absent away may h) o =
      absurd (away (occurs_mapped (λ (f : Name × Tree). f.0) fs (b.name, l) u))
  field_at {os = os} {K = K} {fs = fs} c (b ∷ before) after d t (family.part_present {n = l} {v = v} u h k) (family.part_present {n = m} {v = w} x y z) (values.component_present g j) =
      let trees = one_field fs b.name l m d u x in
      let e = ap nodes (same_value (subst (λ (q : Tree). Notation p os K b.ty q v) trees h) y) in
      let f = field_at c before after d t k z j in
      let a = f.3 in
      (f.0, f.1, f.2, omega (arith, e, a))

  field_in : {n i left rest : ℕ} {N K : Name} {os : List ℕ} {k : ListKind} {e : Bool} {l m : Tree} {before : List Part}
      {fs : List (Name × Tree)} {q : Row} {v : AbstractValue} (c : Part) (after : List Part) →
      (k ≡ Choice → ⊥) →
      NotationOf p os K (table.members k e (before ++ c ∷ after)) l v →
      NotatedValueOf p (Allows p) (AllowsCode p) n i N (table.members k e (before ++ c ∷ after)) v →
      fields_in l ≡ Some fs →
      Fields p os K fs before q →
      OccursIn fs (c.name, m) →
      left ≡ suc (row_nodes q + rest) →
      nodes v ≤ left →
      HasPart n rest os K c.ty m
  field_in {K = K} {os = os} {k = k} {l = l} {before = before} {fs = fs} c after none (family.of_fields {fs = gs} {r = r} f a h w) (values.of_fields never g j) y d t x b =
      let same = one_some (fields_in l) gs fs f y in
      let far = distinct_fields k (before ++ c ∷ after) fs
      (subst (λ (z : List (Name × Tree)). AreArranged k (part_names (before ++ c ∷ after)) (field_names z)) same a) in
      let u = field_at c before after far t
      (subst (λ (z : List (Name × Tree)). Fields p os K z (before ++ c ∷ after) r) same h) d g in
      let z = u.3 in
      record { part = u.0; is_so = u.1; value = u.2; few = omega (arith, b, x, z) }
  field_in c after none (family.of_choice g a h) o y d t x b = absurd (none refl)

  pub absent_at : {n : ℕ} {os : List ℕ} {K N : Name} {fs : List (Name × Tree)} {cs : List Part} {r : Row} (j : ℕ) (c : Part) →
      Fields p os K fs cs r →
      AreNotatedComponents p (Allows p) (AllowsCode p) n N cs r →
      slice_get cs j ≡ Some c →
      (OccursIn (field_names fs) c.name → ⊥) →
      MayLackValue p (Allows p) (AllowsCode p) n N c
  absent_at j c family.no_part o e none = absurd (some_none (slice_get [] j) c e refl)
  absent_at {n = n} {N = N} zero c (family.part_absent {c = b} away may h) (values.component_absent g o) e none =
      subst (λ (z : Part). MayLackValue p (Allows p) (AllowsCode p) n N z) (same_Some b c e) g
  absent_at {fs = fs} zero c (family.part_present {c = b} {n = l} t h k) o e none =
      absurd (none (subst (λ (z : Part). OccursIn (field_names fs) z.name) (same_Some b c e)
      (occurs_mapped (λ (f : Name × Tree). f.0) fs (b.name, l) t)))
  absent_at (suc j) c (family.part_absent away may h) (values.component_absent g o) e none = absent_at j c h o e none
  absent_at (suc j) c (family.part_present t h k) (values.component_present g o) e none = absent_at j c k o e none

  absent_in : {n i : ℕ} {N K : Name} {os : List ℕ} {k : ListKind} {e : Bool} {l : Tree} {cs : List Part} {c : Part}
      {fs : List (Name × Tree)} {v : AbstractValue} →
      (k ≡ Choice → ⊥) →
      NotationOf p os K (table.members k e cs) l v →
      NotatedValueOf p (Allows p) (AllowsCode p) n i N (table.members k e cs) v →
      fields_in l ≡ Some fs →
      OccursIn cs c →
      (OccursIn (field_names fs) c.name → ⊥) →
      MayLackValue p (Allows p) (AllowsCode p) n N c
  absent_in {K = K} {os = os} {l = l} {cs = cs} {c = c} {fs = fs} none (family.of_fields {fs = gs} {r = r} f a h w) (values.of_fields never g j) y t out =
      let same = one_some (fields_in l) gs fs f y in
      absent_at t.0 c (subst (λ (z : List (Name × Tree)). Fields p os K z cs r) same h) g t.1 out
  absent_in none (family.of_choice g a h) o y t out = absurd (none refl)

  presence_default : (t : PresenceTree) (d e : Tree) → t ≡ default d → t ≡ default e → d ≡ e
  presence_default mandatory d e f g = absurd cc
  presence_default optional d e f g = absurd cc
  presence_default (default x) d e f g = let a : x ≡ d = cc in let b : x ≡ e = cc in sym a ∙ b

  pub default_of : {n : ℕ} {N : Name} {c : Part} {d : Tree} →
      MayLackValue p (Allows p) (AllowsCode p) n N c →
      c.standing ≡ Root →
      c.presence ≡ default d →
      (w : AbstractValue) × Notation p [] N c.ty d w × NotatedValueIn p (Allows p) (AllowsCode p) n c.ty w × (nodes w ≤ 16777216)
  default_of (values.where_optional e) f g = let x = sym e ∙ g in absurd cc
  default_of (values.where_addition e) f g = let x = sym e ∙ f in absurd cc
  default_of {n} {N} {c} {d} (values.where_default {d = b} {v = v} e f h a l) x y =
      (v, subst (λ (z : Tree). Notation p [] N c.ty z v) (presence_default c.presence b d f y) h, a, l)

  -- ---- what is wrong with the notation itself

  pub wrong_none : {os : List ℕ} {M : Name} {i : ℕ} {n : Tree} {v : AbstractValue} (t : NotationTrouble) →
      IsWrongHere p os M i n t → Notation p os M i n v → ⊥
  wrong_none {os} {M} {i} {n} {v} t w h = none_wrong p os os M M i i n n t v s.apart s.sound wrong.itself w h

  lost_none : {os : List ℕ} {M : Name} {i : ℕ} {n : Tree} {v : AbstractValue} {k : WrittenKind} (q : Option Name)
      (x : Name) →
      IsTypeOfKind p.types i k → HasNoMeaning p k os M n q x → Notation p os M i n v → ⊥
  lost_none None x a l h = wrong_none (wrong.unknown_item x) (wrong.lost_item a l) h
  lost_none (Some q) x a l h = wrong_none (wrong.unknown_name x) (wrong.lost_name a l) h

  names_none : {os : List ℕ} {M K : Name} {i : ℕ} {n l : ValueSyntax} {v : AbstractValue}
      {P : ListKind → List Part → List Name → Type 0}
      (h : HasNames text os M K i n l P) (t : NotationTrouble) →
      IsDisarranged h.list h.parts (field_names (map member_of h.fields)) t →
      Notation p os M i (tree_of n) v → ⊥
  names_none {l = l} h t d g =
      wrong_none t (wrong.names h.is h.no_choice h.last.last (fields_found l h.fields h.in_braces) d) g

  leaf_in : {os : List ℕ} {K : Name} {k : Plain} {l : Tree} {v : AbstractValue} → NotationOf p os K (simple k) l v → IsLeafNotation k l v
  leaf_in (family.of_leaf h) = h

  plain_in : {n i : ℕ} {N : Name} {k : Plain} {v : AbstractValue} →
      NotatedValueOf p (Allows p) (AllowsCode p) n i N (simple k) v → IsPlainValue (Allows p) (AllowsCode p) i k v
  plain_in (values.of_leaf a) = a

  no_level : {n i : ℕ} {v : AbstractValue} → NotatedValueIn p (Allows p) (AllowsCode p) n i v → n ≡ 0 → ⊥
  no_level (value_in c e f h) z = absurd cc

  cause_none : {n left i : ℕ} {os : List ℕ} {M : Name} {v : AbstractValue} (t : ValueSyntax) (c : Cause) →
      (c ≡ cause.Memory → ⊥) →
      IsCause text n left os M i t c →
      Notation p os M i (tree_of t) v →
      NotatedValueIn p (Allows p) (AllowsCode p) n i v →
      nodes v ≤ left → ⊥
  cause_none t cause.Memory m w h a b = m refl
  cause_none t cause.Depth m w h a b = no_level a w
  cause_none {v = v} t cause.Nodes m w h a b = some_node v (omega (arith, w, b))
  cause_none t (cause.NoMeaning K l) m w h a b =
      lost_none w.such.meant.prefix w.such.meant.name w.is w.such.meant.lost h
  cause_none t (cause.Circular j K l) m w h a b = wrong_none (wrong.circular j) (wrong.round w.is w.such.meant.round) h
  cause_none t cause.NotOfType m w h a b = wrong_none wrong.not_of_type w h
  cause_none t (cause.UnknownBit K l) m w h a b =
      wrong_none (wrong.unknown_item w.such.0.name) (wrong.bit w.is w.last.last w.such.0.unknown) h
  cause_none {v = v} t cause.Oid m w h a b =
      let l = w.leaf in
      let g = leaf_in (at_last l.is l.last.last h) in
      let o = of_value l.is a in
      let e = same_value (family.notation l.is l.last.last (family.of_leaf l.such.is_so)) h in
      past_none p _ g (subst HasPast e l.such.past) (plain_in o.value)
  cause_none t cause.UnknownAlternative m w h a b =
      wrong_none (wrong.unknown_item w.name) (wrong.other_alternative w.is w.last w.none) h
  cause_none t (cause.UnknownField j K l) m w h a b = names_none w (wrong.unknown_item w.such.name) w.such.wrong h
  cause_none t (cause.Repeated j K l) m w h a b = names_none w (wrong.repeated w.such.name) w.such.wrong h
  cause_none t (cause.Missing j K l) m w h a b = names_none w (wrong.missing w.such.part.name) w.such.wrong h
  cause_none t (cause.OutOfOrder j K l) m w h a b =
      names_none w (wrong.out_of_order w.such.name w.such.other) w.such.wrong h
  cause_none {i = i} {v = v} t cause.Outside m w h a b =
      let u = w.outside in
      let e = same_value u.is_so h in
      let o = of_value u.is a in
      outside h (subst (λ (z : AbstractValue). IsLeftOut (Allows p) (AllowsCode p) i u.kind z) e u.left_out) o u.is
    where
      outside : {n i : ℕ} {os : List ℕ} {M : Name} {t : Tree} {v : AbstractValue} {k : WrittenKind} →
          Notation p os M i t v → IsLeftOut (Allows p) (AllowsCode p) i k v → HasValueOf n i k v → IsTypeOfKind p.types i k → ⊥
      outside {n} {i} {v = v} {k = k} (family.notation {ps = ps} {K = K} {l = l} {k = j} x y z) q o is =
          let kinds = one_kind p.types i j k x is in
          value_left p o.levels i o.within (subst (λ (u : WrittenKind). NotationOf p ps K u l v) kinds z) q o.value

  -- ---- the place of the fault

  level_of : {m i : ℕ} {k : WrittenKind} {v : AbstractValue} (o : HasValueOf (suc m) i k v) →
      NotatedValueOf p (Allows p) (AllowsCode p) m i o.within k v
  level_of {m} {i} {k} {v} o =
      let e : o.levels ≡ m = let f = o.fewer in omega (arith, f) in
      subst (λ (z : ℕ). NotatedValueOf p (Allows p) (AllowsCode p) z i o.within k v) e o.value

  pub occurs_none : {n left i : ℕ} {os : List ℕ} {M : Name} {t : ValueSyntax} {f : ValueFault} {v : AbstractValue} →
      IsRightValueFault text n left os M i t f →
      (f.cause ≡ cause.Memory → ⊥) →
      Notation p os M i (tree_of t) v →
      NotatedValueIn p (Allows p) (AllowsCode p) n i v →
      nodes v ≤ left → ⊥
  occurs_none (faults.no_memory e) m h a b = m e
  occurs_none {t = t} {f = f} (faults.itself x y z r w) m h a b = cause_none t f.cause m w h a b
  occurs_none (faults.in_element {l = l} {m = u} before after k d e g y c w) m h a b =
      let o = of_value k a in
      let both = values_found l (before ++ u ∷ after) e ∙ ap Some (split_map tree_of before u after) in
      let q = element_in (map tree_of after) (at_last k d.last h) (level_of o) both g c b in
      occurs_none w m q.is_so q.value q.few
  occurs_none {i = i} {v = v} (faults.in_alternative {ps = ps} {K = K} {l = l} {m = u} {e = e} {cs = cs} {x = x} c k d q t y w) m h a b =
      let o = of_value k a in
      let far = (sound_kind p.types i (table.members Choice e cs) s.sound k).names in
      let says = subst (λ (z : Tree). NotationOf p ps K (table.members Choice e cs) z v) (chosen_found l x u q) (at_last k d.last h) in
      let z = chosen_in far says (level_of o) t y b in
      occurs_none w m z.is_so z.value z.few
  occurs_none {i = i} {v = v} (faults.in_field {levels = n} {ps = ps} {K = K} {fs = fs} c g r t e w) m h a b =
      let k = of_kind r.list.written in
      let o = of_value k a in
      let parts = ap (map part_of) r.split ∙ split_map part_of r.before c r.after in
      let says = subst (λ (z : List Part). NotationOf p ps K (table.members r.kind r.marked z) (tree_of r.notation) v) parts
      (at_last k r.last.last h) in
      let is = subst (λ (z : List Part). NotatedValueOf p (Allows p) (AllowsCode p) n i o.within (table.members r.kind r.marked z) v) parts
      (level_of o) in
      let there : OccursIn (map member_of fs) (name_at c.name, tree_of g.value) =
      (t.0, occurs_map member_of fs t.0 g t.1 ∙ ap (λ (y : Name). Some (y, tree_of g.value)) e) in
      let q = field_in (part_of c) (map part_of r.after) r.no_choice says is (fields_found r.notation fs r.in_braces) r.stand there r.counted b in
      occurs_none w m q.is_so q.value q.few
  occurs_none {i = i} (faults.in_default {levels = n} {N = N} {d = d} {fs = fs} c r out x y w) m h a b =
      let k = of_kind r.list.written in
      let o = of_value k a in
      let parts = ap (map part_of) r.split ∙ split_map part_of r.before c r.after in
      let t = subst (λ (cs : List Part). OccursIn cs (part_of c)) (sym parts)
      (middle (map part_of r.before) (part_of c) (map part_of r.after)) in
      let q = absent_in r.no_choice (at_last k r.last.last h) (level_of o) (fields_found r.notation fs r.in_braces) t out in
      let homes = one_home o.written r.list.written in
      let e = default_tree c.presence d y in
      let z = default_of (subst (λ (M : Name). MayLackValue p (Allows p) (AllowsCode p) n M (part_of c)) homes q) x e in
      occurs_none w m z.1 z.2 z.3
