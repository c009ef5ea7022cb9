-- What the parts of a reading answer, put together.
use Rattle.std.proofs.Common.{◌≡◌, ℕ, zero, suc, ◌+◌, ◌<◌, Bool, List, [], ◌∷◌, ◌++◌, Option, Some, None, refl, sym, ap, ◌∙◌, length, map, arith, subst, get_or, cond, option_map, take, drop, ◌-◌, Box}
use native.Mathlib.Numerals.{unary_clauses}
use Rattle.std.specs.Global.{Global}
use Rattle.std.specs.Prelude.{slice_get, pos, All, true, false, bytes_eq, Vec}
use Rattle.std.proofs.lemmas.List.{length-map}
use Rattle.std.proofs.lemmas.Option.{same_Some}
use Rattle.asn_base.specs.declared.tag.Tag.{Tag}
use Rattle.trees.specs.declared.types.Keyword.{Keyword}
use Rattle.trees.specs.declared.value.Named.{Named}
use Rattle.trees.specs.declared.value.ValueSyntax.{ValueSyntax}
use Rattle.names.specs.proving.Distinct.{same_bytes, equal_bytes, occurs_map}
use Rattle.type_table.specs.declared.table.Shape.{Shape}
use Rattle.type_table.specs.declared.table.Shape.TheVariants as shapes
use Rattle.type_table.specs.declared.table.TypeNode.{TypeNode}
use Rattle.type_table.specs.Seen.{part_of, type_of, types_of}
use Rattle.values.specs.Arranged.{IsArranged, first_place}
use Rattle.type_table.specs.declared.table.ListMember.{ListMember}
use Rattle.typed_values.proofs.Rows.{got_or, got_plain, place_below, split, taken, one_more, one_field_more}
use Rattle.asn_base.specs.Abstract.{AbstractValue, Row, row_of_list, row_of_options, fields, list, alternative}
use Rattle.asn_base.specs.Typed.{nodes, members, GroupsAreWhole}
use Rattle.trees.specs.declared.types.ListKind.{ListKind}
use Rattle.trees.specs.declared.types.ListKind.TheVariants.{Sequence, Set, Choice}
use Rattle.trees.specs.declared.types.ElementsKind.{ElementsKind}
use Rattle.trees.specs.Values.{Name, Tree, chosen, name_at, member_of, tree_of}
use Rattle.trees.specs.declared.types.Standing.{Standing}
use Rattle.trees.specs.declared.types.Standing.TheVariants.{Root, Addition}
use Rattle.trees.specs.declared.types.PresenceSyntax.{PresenceSyntax}
use Rattle.trees.specs.declared.types.PresenceSyntax.TheVariants as syntax
use Rattle.trees.specs.Types.{Plain, PresenceTree, presence_tree, mandatory, optional, default}
use Rattle.names.specs.Modules.{OccursIn}
use Rattle.type_table.specs.Table.{Type', WrittenKind, simple, reference, tagged, elements, Part, IsWrittenType, IsLinked, IsUnderlying, next, target, target_of}
use Rattle.type_table.specs.Table as table
use Rattle.resolve.specs.Program.{Program, WrittenProgram, IsHome}
use Rattle.range_ends.specs.Ends.{IsTypeOfKind}
use Rattle.value_notations.specs.References.{IsLast}
use Rattle.value_notations.specs.Written.{IsLastAt, chosen_at, braced_fields, list_members, braced_values}
use Rattle.value_notations.specs.Leaves.{IsLeafNotation}
use Rattle.value_notations.specs.Leaves as leaves
use Rattle.value_notations.specs.Notations.{Notation, NotationOf, Fields, NotatedElements, notation, of_choice, of_list, component_of, field_names, part_names, fields_in, values_in, may_lack_value}
use Rattle.value_notations.specs.Notations as family
use Rattle.value_notations.specs.Values.{NotatedValueIn, NotatedValueOf, value_in, IsPlainValue, MayLackValue}
use Rattle.value_notations.specs.Values as values
use Rattle.value_notations.specs.Wrong.{IsWrongHere, IsMisfit, misfit, not_of_type}
use Rattle.value_notations.specs.Outside.{IsLeftOut}
use Rattle.values.specs.Allowing.{Allows, AllowsCode}
use Rattle.typed_values.specs.declared.fault.ValueFault.{ValueFault}
use Rattle.typed_values.specs.declared.fault.Cause.{Cause}
use Rattle.typed_values.specs.declared.fault.Cause.TheVariants as cause
use Rattle.typed_values.specs.Faults.{HasKindIn, IsListIn, IsRightValueFault, IsCause, HasNoAlternative, AreLeftFor, IsOutsideAlone, AreReadTo, IsWrittenDefault}
use Rattle.typed_values.specs.Faults as faults
use Rattle.typed_values.specs.proving.Reading.{HasShapeIn, Means, MeanRow, MeanFields, FailsInOne, FailsInField, IsWrongField, IsWrongDefault, ArePlaced, IsField, option_nodes}
use Rattle.typed_values.specs.proving.Reading as reading

pub of_kind : {p : Program} {i : ℕ} {k : WrittenKind} {N : Name} → HasKindIn p i k N → IsTypeOfKind p.types i k
of_kind w = record { core = w.core; type = w.type; chain = w.chain; there = w.there; kind = w.kind }

-- a value of what the type is
pub shaped : {p : Program} {n i : ℕ} {k : WrittenKind} {N : Name} {v : AbstractValue} →
    HasKindIn p i k N →
    NotatedValueOf p (Allows p) (AllowsCode p) n i N k v →
    NotatedValueIn p (Allows p) (AllowsCode p) (suc n) i v
shaped {p} {n} {i} {k} {N} {v} w h =
    value_in w.chain w.there w.is_so
    (subst (λ (x : WrittenKind). NotatedValueOf p (Allows p) (AllowsCode p) n i N x v) (sym w.kind) h)

-- ---- leaves

leaf_nodes : {k : Plain} {n : Tree} {v : AbstractValue} → IsLeafNotation k n v → nodes v ≡ 1
leaf_nodes leaves.truth = refl
leaf_nodes leaves.falsehood = refl
leaf_nodes leaves.written_number = refl
leaf_nodes (leaves.named_number e) = refl
leaf_nodes (leaves.named_item e) = refl
leaf_nodes (leaves.bit_digits e f) = refl
leaf_nodes (leaves.bit_hex e f) = refl
leaf_nodes (leaves.no_named_bit e) = refl
leaf_nodes (leaves.named_bits e f) = refl
leaf_nodes (leaves.octet_digits e) = refl
leaf_nodes (leaves.octet_hex e) = refl
leaf_nodes leaves.nothing_more = refl
leaf_nodes (leaves.identifier e) = refl
leaf_nodes leaves.relative = refl
leaf_nodes leaves.relative_alone = refl
leaf_nodes (leaves.utf8 e) = refl
leaf_nodes (leaves.restricted e) = refl

pub leaf_means : {p : Program} {n left i : ℕ} {k : Plain} {N : Name} {os ps : List ℕ} {M K : Name} {t l : Tree}
    {v : AbstractValue} →
    HasKindIn p i (simple k) N →
    IsLast p (simple k) os M t ps K l →
    IsLeafNotation k l v →
    IsPlainValue (Allows p) (AllowsCode p) i k v →
    Means p (suc n) (suc left) left os M i t v
leaf_means w e h a =
    let c = leaf_nodes h in
    record {
      is_so = notation (of_kind w) e (family.of_leaf h);
      value = shaped w (values.of_leaf a);
      counted = omega (arith, c);
    }

pub leaf_outside : {p : Program} {n left i : ℕ} {k : Plain} {N : Name} {os ps : List ℕ} {M K : Name} {t l : Tree}
    {v : AbstractValue} →
    HasKindIn p i (simple k) N →
    IsLast p (simple k) os M t ps K l →
    IsLeafNotation k l v →
    IsLeftOut (Allows p) (AllowsCode p) i (simple k) v →
    IsOutsideAlone p (suc n) (suc left) os M i t
leaf_outside {k = k} {v = v} w e h o =
    let c = leaf_nodes h in
    record {
      outside = record { kind = simple k; is = of_kind w; value = v; is_so = notation (of_kind w) e (family.of_leaf h); left_out = o };
      within = tt;
      few = omega (arith, c);
    }

-- ---- lists

pub list_means : {p : Program} {n before after i a : ℕ} {k : ElementsKind} {N : Name} {os ps : List ℕ} {M K : Name}
    {t l : Tree} {ts : List Tree} {r : Row} →
    HasKindIn p i (elements k a) N →
    IsLast p (elements k a) os M t ps K l →
    values_in l ≡ Some ts →
    MeanRow p n before after ps K a ts r →
    Allows p i (pos (members r)) →
    Means p (suc n) (suc before) after os M i t (list r)
list_means w e f m a =
    let c = m.counted in
    record {
      is_so = notation (of_kind w) e (of_list f m.stand);
      value = shaped w (values.of_list m.values a);
      counted = omega (arith, c);
    }

pub list_outside : {p : Program} {n before after i a : ℕ} {k : ElementsKind} {N : Name} {os ps : List ℕ} {M K : Name}
    {t l : Tree} {ts : List Tree} {r : Row} →
    HasKindIn p i (elements k a) N →
    IsLast p (elements k a) os M t ps K l →
    values_in l ≡ Some ts →
    MeanRow p n before after ps K a ts r →
    (Allows p i (pos (members r)) → ⊥) →
    IsOutsideAlone p (suc n) (suc before) os M i t
list_outside {a = a} {k = k} {r = r} w e f m o =
    let c = m.counted in
    record {
      outside = record {
        kind = elements k a;
        is = of_kind w;
        value = list r;
        is_so = notation (of_kind w) e (of_list f m.stand);
        left_out = o;
      };
      within = m.values;
      few = omega (arith, c);
    }

pub list_fault : {w : WrittenProgram} {n left i a : ℕ} {k : ElementsKind} {N : Name} {os ps : List ℕ} {M K : Name}
    {t l : ValueSyntax} {ns : List ValueSyntax} {f : ValueFault} →
    HasKindIn w.program i (elements k a) N →
    IsLastAt w (elements k a) os M t ps K l →
    braced_values l ≡ Some ns →
    FailsInOne w n left ps K a ns f →
    IsRightValueFault w (suc n) (suc left) os M i t f
list_fault w e g s =
    let c = s.counted in
    faults.in_element s.before s.after (of_kind w) e (g ∙ ap Some s.split) s.stand s.values (omega (arith, c)) s.fault

pub list_misfit : {p : Program} {i a : ℕ} {k : ElementsKind} {N : Name} {os ps : List ℕ} {M K : Name} {t l : Tree} →
    HasKindIn p i (elements k a) N →
    IsLast p (elements k a) os M t ps K l →
    values_in l ≡ None →
    IsWrongHere p os M i t not_of_type
list_misfit w e f = misfit (of_kind w) e f

-- ---- alternatives

pub choice_means : {p : Program} {n before after i a : ℕ} {e : Bool} {cs : List Part} {N : Name} {os ps : List ℕ}
    {M K x : Name} {t l m : Tree} {v : AbstractValue} (c : Part) →
    HasKindIn p i (table.members Choice e cs) N →
    IsLast p (table.members Choice e cs) os M t ps K l →
    l ≡ chosen x m →
    slice_get cs a ≡ Some c →
    c.name ≡ x →
    Means p n before after ps K c.ty m v →
    Means p (suc n) (suc before) after os M i t (alternative a v)
choice_means {p} {e = e} {cs = cs} {os = os} {ps = ps} {M = M} {K = K} {t = t} c w d q s f h =
    let b = h.counted in
    record {
      is_so = notation (of_kind w) (subst (λ (z : Tree). IsLast p (table.members Choice e cs) os M t ps K z) q d)
          (of_choice s f h.is_so);
      value = shaped w (values.of_choice s h.value);
      counted = omega (arith, b);
    }

pub choice_fault : {w : WrittenProgram} {n left i : ℕ} {e : Bool} {cs : List Part} {N : Name} {os ps : List ℕ}
    {M K x : Name} {t l m : ValueSyntax} {f : ValueFault} (c : Part) →
    HasKindIn w.program i (table.members Choice e cs) N →
    IsLastAt w (table.members Choice e cs) os M t ps K l →
    chosen_at l ≡ Some (x, m) →
    OccursIn cs c →
    c.name ≡ x →
    IsRightValueFault w n left ps K c.ty m f →
    IsRightValueFault w (suc n) (suc left) os M i t f
choice_fault c w d q s g h = faults.in_alternative c (of_kind w) d q s g h

-- ---- components

pub fields_fault : {w : WrittenProgram} {n left i : ℕ} {k : ListKind} {e : Bool} {cs : List ListMember} {N : Name}
    {os ps : List ℕ} {M K : Name} {t l : ValueSyntax} {fs : List (Named ValueSyntax)} {qs : List (Option ℕ)}
    {f : ValueFault} →
    IsListIn w i k e cs N →
    (k ≡ Choice → ⊥) →
    IsLastAt w (table.members k e (map part_of cs)) os M t ps K l →
    braced_fields l ≡ Some fs →
    IsArranged k (map part_of cs) (field_names (map member_of fs)) qs →
    FailsInField w n left ps K N fs cs f →
    IsRightValueFault w (suc n) (suc left) os M i t f
fields_fault {w} {n} {left} {i} {k} {e} {cs} {N} {os} {ps} {M} {K} {t} {l} {fs} {qs} {f} is none d g a s = by s.fault
  where
    to : AreReadTo w n (suc left) s.rest os M i t ps K N fs s.one
    to =
        let c = s.counted in
        record {
          kind = k;
          marked = e;
          members = cs;
          list = is;
          no_choice = none;
          notation = l;
          last = d;
          in_braces = g;
          places = qs;
          arranged = a;
          before = s.before;
          after = s.after;
          split = s.split;
          row = s.row;
          stand = s.stand;
          values = s.values;
          counted = omega (arith, c);
        }

    by : IsWrongField w n s.rest ps K N fs s.one f → IsRightValueFault w (suc n) (suc left) os M i t f
    by (reading.no_memory m) = faults.no_memory m
    by (reading.in_field h b m o) = faults.in_field s.one h to b m o
    by (reading.in_default h o) = faults.in_default s.one to h o.standing o.presence o.fault

pub fields_mean : {p : Program} {n before after i : ℕ} {k : ListKind} {e : Bool} {cs : List Part} {N : Name}
    {os ps : List ℕ} {M K : Name} {t l : Tree} {fs : List (Name × Tree)} {r : Row} →
    HasKindIn p i (table.members k e cs) N →
    (k ≡ Choice → ⊥) →
    IsLast p (table.members k e cs) os M t ps K l →
    NotationOf p ps K (table.members k e cs) l (fields r) →
    GroupsAreWhole (map component_of cs) r →
    MeanFields p n before after ps K N fs cs r →
    Means p (suc n) (suc before) after os M i t (fields r)
fields_mean w none d h g m =
    let c = m.counted in
    record {
      is_so = notation (of_kind w) d h;
      value = shaped w (values.of_fields none m.values g);
      counted = omega (arith, c);
    }

-- ---- types

pub in_core : {p : Program} {i : ℕ} {k : WrittenKind} {N : Name} (w : HasKindIn p i k N) → IsWrittenType p.types w.core k w.type.default w.type.place
in_core {p} w =
    subst (λ (x : WrittenKind). IsWrittenType p.types w.core x w.type.default w.type.place) w.kind
    (record { constraints = w.type.constraints; assignment = w.type.assignment; found = w.there })

one_below : (n : ℕ) (cs : List Part) (j : ℕ) (c : Part) → All (λ x. x.ty < n) cs → slice_get cs j ≡ Some c → c.ty < n
one_below n [] j c a e = absurd cc
one_below n (x ∷ cs) zero c a e = let s : x ≡ c = cc in subst (λ z. z.ty < n) s (a zero x (omega arith))
one_below n (x ∷ cs) (suc j) c a e = one_below n cs j c (λ m d l. a (suc m) d (omega arith)) e

pub member_there : {p : Program} {i : ℕ} {k : ListKind} {e : Bool} {cs : List Part} {N : Name} →
    IsLinked p.types → HasKindIn p i (table.members k e cs) N →
    (j : ℕ) (c : Part) → slice_get cs j ≡ Some c → c.ty < length p.types
member_there {p} {i} {k} {e} {cs} l w j c s =
    one_below (length p.types) cs j c (l.parts w.core k e cs w.type.default w.type.place (in_core w)) s

pub element_there : {p : Program} {i j : ℕ} {k : ElementsKind} {N : Name} →
    IsLinked p.types → HasKindIn p i (elements k j) N → j < length p.types
element_there {p} {i} {j} {k} l w = l.inner w.core j k w.type.default w.type.place (in_core w)

reference_next : (t : WrittenKind) (j : ℕ) → t ≡ reference j → target t ≡ None → ⊥
reference_next t j e f = let g : target (reference j) ≡ None = subst (λ x. target x ≡ None) e f in absurd cc

pub no_reference : {p : Program} {i j : ℕ} {N : Name} → HasKindIn p i (reference j) N → ⊥
no_reference {p} {i} {j} w =
    reference_next w.type.kind j w.kind (sym (ap target_of w.there) ∙ w.chain.ends)

tagged_next : (t : WrittenKind) (g : Tag) (y : Keyword) (j : ℕ) → t ≡ tagged g y j → target t ≡ None → ⊥
tagged_next t g y j e f = let h : target (tagged g y j) ≡ None = subst (λ x. target x ≡ None) e f in absurd cc

pub no_tagged : {p : Program} {i j : ℕ} {g : Tag} {y : Keyword} {N : Name} → HasKindIn p i (tagged g y j) N → ⊥
no_tagged {p} {i} {j} {g} {y} w =
    tagged_next w.type.kind g y j w.kind (sym (ap target_of w.there) ∙ w.chain.ends)

-- the type at a place of a table
pub node_at : (ws : List TypeNode) (i : ℕ) → i < length ws → (x : TypeNode) × (slice_get ws i ≡ Some x)
node_at [] i l = absurd (omega (arith, l))
node_at (x ∷ ws) zero l = (x, refl)
node_at (x ∷ ws) (suc i) l = node_at ws i (omega (arith, l))

pub shape_of : {w : WrittenProgram} (ws : List TypeNode) (i core : ℕ) (x : TypeNode) (M y : Name) →
    types_of ws ≡ w.program.types → ws ≡ w.types → slice_get ws core ≡ Some x →
    IsUnderlying w.program.types i core → IsHome w.program core M y → HasShapeIn w i x.shape M
shape_of {w} ws i core x M y e f s c h =
    let t : slice_get w.program.types core ≡ Some (type_of x) = ap (λ ts. slice_get ts core) (sym e) ∙ occurs_map type_of ws core x s in
    record {
      written = record { core = core; type = type_of x; chain = c; there = t; kind = refl; assigns = y; is_so = h (type_of x) t };
      node = x;
      there = ap (λ ts. slice_get ts core) (sym f) ∙ s;
      shape = refl;
    }

-- a shape that is a list
pub list_in : {w : WrittenProgram} {i : ℕ} {s : Shape} {N : Name} (k : ListKind) (e : Bool) (ms : Vec ListMember Global) →
    s ≡ shapes.Members k e ms → HasShapeIn w i s N → IsListIn w i k e ms.items N
list_in {w} {i} {s} {N} k e ms q h =
    by (subst (λ (z : Shape). HasShapeIn w i z N) q h)
  where
    by : HasShapeIn w i (shapes.Members k e ms) N → IsListIn w i k e ms.items N
    by h = record { written = h.written; text = record { node = h.node; there = h.there; members = ap list_members h.shape } }

pub list_as : {w : WrittenProgram} {i : ℕ} {k : ListKind} {e : Bool} {ms ns : List ListMember} {N : Name} → ms ≡ ns →
    IsListIn w i k e ms N → IsListIn w i k e ns N
list_as {w} {i} {k} {e} {ms} {ns} {N} q h = subst (λ (z : List ListMember). IsListIn w i k e z N) q h

pub shape_in : {v w : WrittenProgram} {i : ℕ} {s : Shape} {N : Name} → v ≡ w → HasShapeIn v i s N → HasShapeIn w i s N
shape_in {v} {w} {i} {s} {N} e h = subst (λ (x : WrittenProgram). HasShapeIn x i s N) e h

pub written_of : {p : Program} {i : ℕ} {k j : WrittenKind} {N : Name} → k ≡ j → HasKindIn p i k N → HasKindIn p i j N
written_of {p} {i} {k} {j} {N} e w = subst (λ (x : WrittenKind). HasKindIn p i x N) e w

pub last_of : {w : WrittenProgram} {k j : WrittenKind} {os ps : List ℕ} {M K : Name} {n l : ValueSyntax} → k ≡ j →
    IsLastAt w k os M n ps K l → IsLastAt w j os M n ps K l
last_of {w} {k} {j} {os} {ps} {M} {K} {n} {l} e h = subst (λ (x : WrittenKind). IsLastAt w x os M n ps K l) e h

-- ---- names

named_there : (cs : List Part) (i : ℕ) (c : Part) (x : Name) → slice_get cs i ≡ Some c → slice_get (part_names cs) i ≡ Some x →
    c.name ≡ x
named_there cs i c x e f = same_Some c.name x (sym (occurs_map (λ (c : Part). c.name) cs i c e) ∙ f)

pub alternative_named : (cs : List Part) (i : ℕ) (c : Part) (x : Name) → slice_get cs i ≡ Some c →
    slice_get (part_names cs) i ≡ Some x → c.name ≡ x
alternative_named = named_there

there_on : (x y : Name) (ys : List Name) (i : ℕ) (b : Bool) → bytes_eq x y ≡ b →
    cond b (Some 0) (option_map suc (first_place x ys)) ≡ Some i →
    ((j : ℕ) → first_place x ys ≡ Some j → slice_get ys j ≡ Some x) → slice_get (y ∷ ys) i ≡ Some x
there_on x y ys i true q e go =
    subst (λ k. slice_get (y ∷ ys) k ≡ Some x) (same_Some 0 i e) (ap Some (sym (equal_bytes x y q)))
there_on x y ys i false q e go = by (first_place x ys) refl e
  where
    by : (o : Option ℕ) → first_place x ys ≡ o → option_map suc o ≡ Some i → slice_get (y ∷ ys) i ≡ Some x
    by None r f = absurd cc
    by (Some j) r f = subst (λ k. slice_get (y ∷ ys) k ≡ Some x) (same_Some (suc j) i f) (go j r)

place_there : (x : Name) (xs : List Name) (i : ℕ) → first_place x xs ≡ Some i → slice_get xs i ≡ Some x
place_there x [] i e = absurd cc
place_there x (y ∷ ys) i e = there_on x y ys i (bytes_eq x y) refl e (place_there x ys)

none_on : (x y : Name) (ys : List Name) (b : Bool) → bytes_eq x y ≡ b →
    cond b (Some 0) (option_map suc (first_place x ys)) ≡ None → (first_place x ys ≡ None → OccursIn ys x → ⊥) →
    (i : ℕ) → slice_get (y ∷ ys) i ≡ Some x → ⊥
none_on x y ys true q e go i s = absurd cc
none_on x y ys false q e go zero s =
    let n : y ≡ x = same_Some y x s in
    let t : bytes_eq x y ≡ true = ap (bytes_eq x) n ∙ same_bytes x in
    absurd cc
none_on x y ys false q e go (suc i) s = by (first_place x ys) refl e
  where
    by : (o : Option ℕ) → first_place x ys ≡ o → option_map suc o ≡ None → ⊥
    by None r f = go r (i, s)
    by (Some j) r f = absurd cc

pub place_none : (x : Name) (xs : List Name) → first_place x xs ≡ None → OccursIn xs x → ⊥
place_none x [] e s = absurd cc
place_none x (y ∷ ys) e s = none_on x y ys (bytes_eq x y) refl e (place_none x ys) s.0 s.1

-- a field with a name is at the name's place
pub field_there : (gs : List (Named ValueSyntax)) (x : Name) (j : ℕ) → first_place x (field_names (map member_of gs)) ≡ Some j →
    j < length gs
field_there gs x j e =
    let l = place_below (field_names (map member_of gs)) j x (place_there x (field_names (map member_of gs)) j e) in
    let a = length-map (map member_of gs) (λ (f : Name × Tree). f.0) in
    let b = length-map gs member_of in
    omega (arith, l, a, b)

pub field_stands : (gs : List (Named ValueSyntax)) (x : Name) (j : ℕ) (d : Named ValueSyntax) →
    first_place x (field_names (map member_of gs)) ≡ Some j →
    OccursIn (map member_of gs) (x, tree_of (get_or gs j d).value)
field_stands gs x j d e =
    let s = place_there x (field_names (map member_of gs)) j e in
    let h = got_or member_of gs j d (field_there gs x j e) in
    let n = occurs_map (λ (f : Name × Tree). f.0) (map member_of gs) j (member_of (get_or gs j d)) h in
    let same = same_Some (name_at (get_or gs j d).name) x (sym n ∙ s) in
    (j, h ∙ ap (λ (y : Name). Some (y, tree_of (get_or gs j d).value)) same)

pub field_is : (gs : List (Named ValueSyntax)) (x : Name) (j : ℕ) (d : Named ValueSyntax) →
    first_place x (field_names (map member_of gs)) ≡ Some j →
    OccursIn gs (get_or gs j d) × (name_at (get_or gs j d).name ≡ x)
field_is gs x j d e =
    let s = place_there x (field_names (map member_of gs)) j e in
    let l = field_there gs x j e in
    let h = got_or member_of gs j d l in
    let n = occurs_map (λ (f : Name × Tree). f.0) (map member_of gs) j (member_of (get_or gs j d)) h in
    ((j, got_plain gs j d l), same_Some (name_at (get_or gs j d).name) x (sym n ∙ s))

pub placed : (k : ListKind) (cs : List Part) (fs : List Name) (ps : List (Option ℕ)) → IsArranged k cs fs ps → ArePlaced cs fs ps
placed k cs fs ps a = record { placed = a.placed; may = λ i c e f. may i c e f (may_lack_value c) refl }
  where
    may : (i : ℕ) (c : Part) → slice_get cs i ≡ Some c → slice_get ps i ≡ Some None → (b : Bool) →
        may_lack_value c ≡ b →
        may_lack_value c ≡ true
    may i c e f true q = q
    may i c e f false q =
        let names = occurs_map (λ (c : Part). c.name) cs i c e in
        let at = occurs_map (λ x. first_place x fs) (part_names cs) i c.name names in
        let none = same_Some (first_place c.name fs) None (sym at ∙ ap (λ (qs : List (Option ℕ)). slice_get qs i) (sym a.placed) ∙ f) in
        absurd (a.complete c.name
        (record { part = c; there = (i, e); named = refl; needed = q; none = place_none c.name fs none }))

-- the place of a component's field, and that the component may be absent if it has no place
pub place_at : (cs : List Part) (fs : List Name) (ps : List (Option ℕ)) (i : ℕ) (c : Part) (d : Option ℕ) → ArePlaced cs fs ps →
    slice_get cs i ≡ Some c → i < length ps →
    (get_or ps i d ≡ first_place c.name fs) × (get_or ps i d ≡ None → may_lack_value c ≡ true)
place_at cs fs ps i c d a e l =
    let names = occurs_map (λ (c : Part). c.name) cs i c e in
    let at = occurs_map (λ x. first_place x fs) (part_names cs) i c.name names in
    let here = got_plain ps i d l in
    let same = same_Some (get_or ps i d) (first_place c.name fs) (sym here ∙ ap (λ (qs : List (Option ℕ)). slice_get qs i) a.placed ∙ at) in
    (same, λ n. a.may i c e (here ∙ ap Some n))

pub as_many : (cs : List Part) (fs : List Name) (ps : List (Option ℕ)) → ArePlaced cs fs ps → length ps ≡ length cs
as_many cs fs ps a =
    let q = length-map (part_names cs) (λ x. first_place x fs) in
    let r = length-map cs (λ (c : Part). c.name) in
    ap length a.placed ∙ q ∙ r

are_left : (levels left : ℕ) → (levels ≡ 0 → ⊥) → (left ≡ 0 → ⊥) → (c : Cause) → AreLeftFor levels left c
are_left levels left a b cause.Memory = tt
are_left levels left a b cause.Depth = tt
are_left levels left a b cause.Nodes = a
are_left levels left a b (cause.NoMeaning K l) = (a, b)
are_left levels left a b (cause.Circular j K l) = (a, b)
are_left levels left a b cause.NotOfType = (a, b)
are_left levels left a b (cause.UnknownBit K l) = (a, b)
are_left levels left a b cause.Oid = (a, b)
are_left levels left a b cause.UnknownAlternative = (a, b)
are_left levels left a b (cause.UnknownField j K l) = (a, b)
are_left levels left a b (cause.Repeated j K l) = (a, b)
are_left levels left a b (cause.Missing j K l) = (a, b)
are_left levels left a b (cause.OutOfOrder j K l) = (a, b)
are_left levels left a b cause.Outside = (a, b)

more_than_none : (n : ℕ) → suc n ≡ 0 → ⊥
more_than_none n e = omega (arith, e)

-- a fault of the notation itself, with a level and a node left
pub reached_fault : {w : WrittenProgram} {levels left : ℕ} {os : List ℕ} {M : Name} {i : ℕ} {n : ValueSyntax}
    (f : ValueFault) →
    f.at.within.now ≡ M → f.at.ty.index ≡ i → f.at.notation.now ≡ n →
    (levels ≡ 0 → ⊥) → (left ≡ 0 → ⊥) →
    IsCause w levels left os M i n f.cause → IsRightValueFault w levels left os M i n f
reached_fault {levels = levels} {left = left} f a b c g h d = faults.itself a b c (are_left levels left g h f.cause) d

-- the same
pub own_fault : {w : WrittenProgram} {levels left : ℕ} {os : List ℕ} {M : Name} {i : ℕ} {n : ValueSyntax}
    (f : ValueFault) →
    f.at.within.now ≡ M → f.at.ty.index ≡ i → f.at.notation.now ≡ n →
    IsCause w (suc levels) (suc left) os M i n f.cause → IsRightValueFault w (suc levels) (suc left) os M i n f
own_fault {levels = levels} {left = left} f a b c d =
    reached_fault f a b c (more_than_none levels) (more_than_none left) d

pub opened_as : {w : WrittenProgram} {levels left : ℕ} {os ps : List ℕ} {M : Name} {i : ℕ} {n : ValueSyntax}
    {f : ValueFault} → ps ≡ os →
    IsRightValueFault w levels left ps M i n f → IsRightValueFault w levels left os M i n f
opened_as {w} {levels} {left} {os} {ps} {M} {i} {n} {f} e h = subst (λ (x : List ℕ). IsRightValueFault w levels left x M i n f) e h

pub means_as : {p : Program} {levels before after : ℕ} {os ps : List ℕ} {M : Name} {i : ℕ} {n : Tree} {v : AbstractValue} →
    ps ≡ os → Means p levels before after ps M i n v → Means p levels before after os M i n v
means_as {p} {levels} {before} {after} {os} {ps} {M} {i} {n} {v} e h =
    subst (λ (x : List ℕ). Means p levels before after x M i n v) e h

pub value_as : {p : Program} {levels before after i : ℕ} {os : List ℕ} {M : Name} {n : Tree} {v w : AbstractValue} →
    v ≡ w → Means p levels before after os M i n v → Means p levels before after os M i n w
value_as {p} {levels} {before} {after} {i} {os} {M} {n} e h =
    subst (λ (x : AbstractValue). Means p levels before after os M i n x) e h

-- a list's elements, one after another
pub row_wrong : {w : WrittenProgram} {levels before between : ℕ} {os ps : List ℕ} {M : Name} {a : ℕ} {f : ValueFault}
    (us : List AbstractValue) (xs : List ValueSyntax) (i : ℕ) (x : ValueSyntax) →
    i < length xs → x ≡ get_or xs i x →
    MeanRow w.program levels before between os M a (map tree_of (take i xs)) (row_of_list us) →
    ps ≡ os →
    IsRightValueFault w levels between ps M a x f →
    FailsInOne w levels before os M a xs f
row_wrong {between = between} us xs i x l e r q h =
    let c = r.counted in
    record {
      before = take i xs;
      one = x;
      after = drop (i + 1) xs;
      split = split xs i x l e;
      row = row_of_list us;
      stand = r.stand;
      values = r.values;
      rest = between;
      counted = omega (arith, c);
      fault = opened_as q h;
    }

pub row_more : {p : Program} {levels before between after : ℕ} {os ps : List ℕ} {M : Name} {a : ℕ}
    (us : List AbstractValue) (v : AbstractValue) (xs : List ValueSyntax) (i : ℕ) (x : ValueSyntax) →
    i < length xs → x ≡ get_or xs i x →
    MeanRow p levels before between os M a (map tree_of (take i xs)) (row_of_list us) →
    ps ≡ os →
    Means p levels between after ps M a (tree_of x) v →
    MeanRow p levels before after os M a (map tree_of (take (i + 1) xs)) (row_of_list (us ++ v ∷ []))
row_more {p} {levels} {before} {between} {after} {os} {ps} {M} {a} us v xs i x l e r q h =
    let more = one_more p levels os M a before between after (map tree_of (take i xs)) us (tree_of x) v r (means_as q h) in
    subst (λ (ts : List Tree). MeanRow p levels before after os M a ts (row_of_list (us ++ v ∷ [])))
    (sym (taken tree_of xs i x l e)) more

-- components, one after another
wrong_as : {w : WrittenProgram} {levels left : ℕ} {os ps : List ℕ} {K N : Name} {fs : List (Named ValueSyntax)}
    {c : ListMember} {f : ValueFault} →
    ps ≡ os → IsWrongField w levels left ps K N fs c f → IsWrongField w levels left os K N fs c f
wrong_as {w} {levels} {left} {os} {ps} {K} {N} {fs} {c} {f} e h =
    subst (λ (x : List ℕ). IsWrongField w levels left x K N fs c f) e h

pub fields_wrong : {w : WrittenProgram} {levels before between : ℕ} {os ps : List ℕ} {K N : Name}
    {fs : List (Named ValueSyntax)} {f : ValueFault} (us : List (Option AbstractValue)) (xs : List ListMember) (i : ℕ)
    (x : ListMember) →
    i < length xs → x ≡ get_or xs i x →
    MeanFields w.program levels before between os K N (map member_of fs) (map part_of (take i xs)) (row_of_options us) →
    ps ≡ os →
    IsWrongField w levels between ps K N fs x f →
    FailsInField w levels before os K N fs xs f
fields_wrong {between = between} us xs i x l e r q h =
    let c = r.counted in
    record {
      before = take i xs;
      one = x;
      after = drop (i + 1) xs;
      split = split xs i x l e;
      row = row_of_options us;
      stand = r.stand;
      values = r.values;
      rest = between;
      counted = omega (arith, c);
      fault = wrong_as q h;
    }

field_as : (p : Program) (levels : ℕ) {os ps : List ℕ} (K N : Name) (fs : List (Name × Tree)) (c : Part) (o : Option AbstractValue) →
    ps ≡ os → IsField p levels ps K N fs c o → IsField p levels os K N fs c o
field_as p levels {os} {ps} K N fs c o e h = subst (λ (x : List ℕ). IsField p levels x K N fs c o) e h

pub fields_more : {p : Program} {levels before between after : ℕ} {os ps : List ℕ} {K N : Name} {fs : List (Name × Tree)}
    (us : List (Option AbstractValue)) (v : Option AbstractValue) (xs : List ListMember) (i : ℕ) (x : ListMember) →
    i < length xs → x ≡ get_or xs i x →
    MeanFields p levels before between os K N fs (map part_of (take i xs)) (row_of_options us) →
    ps ≡ os →
    IsField p levels ps K N fs (part_of x) v →
    between ≡ after + option_nodes v →
    MeanFields p levels before after os K N fs (map part_of (take (i + 1) xs)) (row_of_options (us ++ v ∷ []))
fields_more {p} {levels} {before} {between} {after} {os} {ps} {K} {N} {fs} us v xs i x l e r q h b =
    let more = one_field_more p levels os K N fs before between after (map part_of (take i xs)) us (part_of x) v r
    (field_as p levels K N fs (part_of x) v q h) b in
    subst (λ (ts : List Part). MeanFields p levels before after os K N fs ts (row_of_options (us ++ v ∷ [])))
    (sym (taken part_of xs i x l e)) more

-- alternatives
pub alternative_below : (xs : List ListMember) (i : ℕ) (x : Name) → slice_get (part_names (map part_of xs)) i ≡ Some x → i < length xs
alternative_below xs i x e =
    let l = place_below (part_names (map part_of xs)) i x e in
    let a = length-map (map part_of xs) (λ (c : Part). c.name) in
    let b = length-map xs part_of in
    omega (arith, l, a, b)

pub alternative_at : (xs : List ListMember) (i : ℕ) (d : ListMember) (x : Name) → slice_get (part_names (map part_of xs)) i ≡ Some x →
    slice_get (map part_of xs) i ≡ Some (part_of (get_or xs i d))
alternative_at xs i d x e = got_or part_of xs i d (alternative_below xs i x e)

pub alternative_name : (xs : List ListMember) (i : ℕ) (d : ListMember) (x : Name) → slice_get (part_names (map part_of xs)) i ≡ Some x →
    (part_of (get_or xs i d)).name ≡ x
alternative_name xs i d x e = named_there (map part_of xs) i (part_of (get_or xs i d)) x (alternative_at xs i d x e) e

pub no_alternative : {p : Program} {i : ℕ} {e : Bool} {cs : List Part} {N : Name} {os ps : List ℕ} {M K : Name} {t l : Tree}
    (x : Name) (m : Tree) →
    HasKindIn p i (table.members Choice e cs) N →
    IsLast p (table.members Choice e cs) os M t ps K l →
    l ≡ chosen x m →
    (OccursIn (part_names cs) x → ⊥) →
    HasNoAlternative p os M i t
no_alternative {p} {i} {e} {cs} {N} {os} {ps} {M} {K} {t} x m w h q none =
    record {
      marked = e;
      parts = cs;
      is = of_kind w;
      opened = ps;
      within = K;
      name = x;
      inner = m;
      last = subst (λ (z : Tree). IsLast p (table.members Choice e cs) os M t ps K z) q h;
      none = none;
    }

-- absent components
pub absent_addition : {p : Program} {levels : ℕ} {N : Name} (c : ListMember) (g : Option ℕ) → c.standing ≡ Addition g →
    MayLackValue p (Allows p) (AllowsCode p) levels N (part_of c)
absent_addition c g e = values.where_addition e

pub default_tree : (q : PresenceSyntax) (d : ValueSyntax) → IsWrittenDefault q d → presence_tree q ≡ default (tree_of d)
default_tree (syntax.Default b) d e = ap (λ z. default (tree_of z)) e
default_tree syntax.Mandatory d e = absurd e
default_tree syntax.Optional d e = absurd e

pub written_default : (q : PresenceSyntax) (b : Box ValueSyntax Global) (d : ValueSyntax) → q ≡ syntax.Default b → d ≡ b.value →
    IsWrittenDefault q d
written_default q b d e f = subst (λ z. IsWrittenDefault z d) (sym e) (sym f)

pub absent_optional : {p : Program} {levels : ℕ} {N : Name} (c : ListMember) → c.presence ≡ syntax.Optional →
    MayLackValue p (Allows p) (AllowsCode p) levels N (part_of c)
absent_optional c e = values.where_optional (ap presence_tree e)

-- one that has to be there isn't absent
pub absent_mandatory : {p : Program} {levels : ℕ} {N : Name} (c : ListMember) → c.standing ≡ Root → c.presence ≡ syntax.Mandatory →
    may_lack_value (part_of c) ≡ true →
    MayLackValue p (Allows p) (AllowsCode p) levels N (part_of c)
absent_mandatory {p} {levels} {N} c e f m = absurd (by (presence_tree c.presence) c.standing (ap presence_tree f) e m)
  where
    by : (t : PresenceTree) (s : Standing) → t ≡ mandatory → s ≡ Root →
        may_lack_value (record { name = name_at c.name; ty = c.ty; presence = t; standing = s }) ≡ true → ⊥
    by mandatory Root q r z = absurd cc
    by mandatory (Addition g) q r z = absurd cc
    by optional s q r z = absurd cc
    by (default d) s q r z = absurd cc

pub names_misfit : (k : ListKind) (e : Bool) (cs : List Part) (l : Tree) → (k ≡ Choice → ⊥) → fields_in l ≡ None →
    IsMisfit (table.members k e cs) l
names_misfit Sequence e cs l none f = f
names_misfit Set e cs l none f = f
names_misfit Choice e cs l none f = absurd (none refl)

pub row_count : (vs : List AbstractValue) → members (row_of_list vs) ≡ length vs
row_count [] = refl
row_count (v ∷ vs) = ap suc (row_count vs)

-- at a level and a node less
pub read_stands : {w : WrittenProgram} {i : ℕ} {os : List ℕ} {M : Name} {n : ValueSyntax} {f : ValueFault}
    (levels left : ℕ) →
    (levels ≡ 0 → ⊥) → (left ≡ 0 → ⊥) →
    IsRightValueFault w (suc (levels - 1)) (suc (left - 1)) os M i n f → IsRightValueFault w levels left os M i n f
read_stands zero left a b h = absurd (a refl)
read_stands (suc levels) zero a b h = absurd (b refl)
read_stands (suc levels) (suc left) a b h = simp unary_clauses at h

pub stands_as : {w : WrittenProgram} {levels left i : ℕ} {os ps : List ℕ} {M : Name} {n : ValueSyntax} {f : ValueFault} →
    ps ≡ os → IsRightValueFault w levels left ps M i n f → IsRightValueFault w levels left os M i n f
stands_as {w} {levels} {left} {i} {os} {ps} {M} {n} {f} e h = subst (λ (x : List ℕ). IsRightValueFault w levels left x M i n f) e h
