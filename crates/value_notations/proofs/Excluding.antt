-- A notation with which something is wrong stands for no value.
use Rattle.std.proofs.Common.{inl, inr, ◌≡◌, ℕ, zero, suc, refl, sym, ap, subst, ◌∙◌, Some, Bool, true, false, arith}
use Rattle.std.specs.Prelude.{List, [], map, slice_get, IsTrue}
use Rattle.std.proofs.lemmas.Option.{same_Some}
use Rattle.asn_base.specs.Abstract.{AbstractValue, Row}
use Rattle.asn_base.specs.Types as types
use Rattle.asn_base.specs.Typed.{group_of, HasOfGroup, LacksOfGroup, GroupsAreWhole}
use Rattle.trees.specs.declared.types.ListKind.{ListKind}
use Rattle.trees.specs.declared.types.ListKind.TheVariants.{Sequence, Set, Choice}
use Rattle.trees.specs.declared.types.ElementsKind.{ElementsKind}
use Rattle.trees.specs.declared.types.Standing.{Standing}
use Rattle.trees.specs.declared.types.Standing.TheVariants.{Addition}
use Rattle.trees.specs.Types.{PresenceTree, mandatory, optional, default, Plain, a_bit_string}
use Rattle.trees.specs.Values.{Name, Tree, Trees, items, chosen}
use Rattle.names.specs.Modules.{OccursIn, AreDifferent}
use Rattle.names.specs.Names.{under}
use Rattle.type_table.specs.Table.{WrittenKind, Part, simple, members, elements}
use Rattle.resolve.specs.Program.{Program}
use Rattle.range_ends.specs.Ends.{IsTypeOfKind}
use Rattle.value_notations.specs.References.{IsLast}
use Rattle.value_notations.specs.Leaves.{IsLeafNotation, AreBitNames}
use Rattle.value_notations.specs.Leaves as leaves
use Rattle.value_notations.specs.Notations.{Notation, NotationOf, Fields, NotatedElements, AreArranged, IsPartOf, field_names, part_names, fields_in, values_in, may_lack_value, presence_without_value, component_of}
use Rattle.value_notations.specs.Notations as family
use Rattle.value_notations.specs.Wrong.{NotationTrouble, IsMisfit, IsUnknownBit, HasUnknownBit, IsMissing, IsMissingInGroup, IsDisarranged, IsWrongHere, IsRead}
use Rattle.value_notations.specs.Wrong as wrong
use Rattle.value_notations.specs.proving.Places.{one_some, some_none, one_place, mapped_at, occurs_mapped}
use Rattle.value_notations.specs.proving.Following.{one_kind, sound_kind, one_last}
use Rattle.value_notations.proofs.Circles.{lost_without_end, round_without_end}
use Rattle.value_notations.proofs.SameValue.{IsKept, carried, distinct_fields, one_field}

-- the value of a notation under the kind of its type, after its references
at_last : {p : Program} {os ps : List ℕ} {M K : Name} {i : ℕ} {n l : Tree} {k : WrittenKind} {v : AbstractValue}
    → IsKept p
    → IsTypeOfKind p.types i k
    → IsLast p k os M n ps K l
    → Notation p os M i n v
    → NotationOf p ps K k l v
at_last {p} {os} {ps} {M} {K} {i} {n} {l} {k} {v} s a e (family.notation {ps = qs} {K = L} {l = m} {k = j} b f g) =
    let kinds = one_kind p.types i j k b a in
    let lasts = one_last s.apart (subst (λ (x : WrittenKind). IsLast p x os M n qs L m) kinds f) e in
    carried kinds lasts.opened lasts.within lasts.notation g

-- a notation that stands for a value has an end of its references
ends : {p : Program} {os : List ℕ} {M : Name} {i : ℕ} {n : Tree} {k : WrittenKind} {v : AbstractValue}
    → IsTypeOfKind p.types i k
    → Notation p os M i n v
    → (ps : List ℕ) × (K : Name) × (l : Tree) × IsLast p k os M n ps K l
ends {p} {os} {M} {i} {n} {k} {v} a (family.notation {ps = qs} {K = L} {l = m} {k = j} b f g) =
    (qs, L, m, subst (λ (x : WrittenKind). IsLast p x os M n qs L m) (one_kind p.types i j k b a) f)

-- ---- parts

field_value : {p : Program} {os : List ℕ} {M : Name} {fs : List (Name × Tree)} {cs : List Part} {r : Row} (a : ℕ) (c : Part) (m : Tree)
    → AreDifferent (field_names fs)
    → Fields p os M fs cs r
    → slice_get cs a ≡ Some c
    → OccursIn fs (c.name, m)
    → (w : AbstractValue) × Notation p os M c.ty m w
field_value a c m d family.no_part e s = absurd (some_none (slice_get [] a) c e refl)
field_value {fs = fs} zero c m d (family.part_absent {c = b} none x h) e s =
    absurd (none (subst (λ (z : Part). OccursIn (field_names fs) z.name) (sym (same_Some b c e))
    (occurs_mapped (λ (f : Name × Tree). f.0) fs (c.name, m) s)))
field_value {p} {os} {M} {fs} zero c m d (family.part_present {c = b} {n = n} {v = v} t g h) e s =
    let same = same_Some b c e in
    let notes = one_field fs c.name n m d (subst (λ (z : Part). OccursIn fs (z.name, n)) same t) s in
    (v, subst (λ (z : Tree). Notation p os M c.ty z v) notes (subst (λ (z : Part). Notation p os M z.ty n v) same g))
field_value (suc a) c m d (family.part_absent none x h) e s = field_value a c m d h e s
field_value (suc a) c m d (family.part_present t g h) e s = field_value a c m d h e s

element_value : {p : Program} {os : List ℕ} {M : Name} {j : ℕ} {ts : List Tree} {r : Row} (a : ℕ) (m : Tree)
    → NotatedElements p os M j ts r
    → slice_get ts a ≡ Some m
    → (w : AbstractValue) × Notation p os M j m w
element_value a m family.no_element e = absurd (some_none (slice_get [] a) m e refl)
element_value {p} {os} {M} {j} zero m (family.one_element {n = n} {v = v} g h) e =
    (v, subst (λ (z : Tree). Notation p os M j z v) (same_Some n m e) g)
element_value (suc a) m (family.one_element g h) e = element_value a m h e

named_at : (cs : List Part) (i : ℕ) (c : Part) (x : Name)
    → slice_get cs i ≡ Some c
    → c.name ≡ x
    → slice_get (part_names cs) i ≡ Some x
named_at cs i c x e f = mapped_at (λ (c : Part). c.name) cs i c e ∙ ap Some f

fields_value : {p : Program} {os : List ℕ} {K : Name} {k : ListKind} {e : Bool} {cs : List Part} {l m : Tree} {fs : List (Name × Tree)}
    {c : Part} {v : AbstractValue}
    → (k ≡ Choice → ⊥)
    → fields_in l ≡ Some fs
    → OccursIn cs c
    → OccursIn fs (c.name, m)
    → NotationOf p os K (members k e cs) l v
    → (w : AbstractValue) × Notation p os K c.ty m w
fields_value {p} {os} {K} {k} {e} {cs} {l} {m} {fs} {c} none f s t (family.of_fields {fs = gs} {r = r} g a h w) =
    let same = one_some (fields_in l) gs fs g f in
    field_value s.0 c m
    (distinct_fields k cs fs (subst (λ (x : List (Name × Tree)). AreArranged k (part_names cs) (field_names x)) same a))
    (subst (λ (x : List (Name × Tree)). Fields p os K x cs r) same h) s.1 t
fields_value none f s t (family.of_choice g a h) = absurd (none refl)

elements_value : {p : Program} {os : List ℕ} {K : Name} {k : ElementsKind} {j : ℕ} {l m : Tree} {ts : List Tree} {v : AbstractValue}
    → values_in l ≡ Some ts
    → OccursIn ts m
    → NotationOf p os K (elements k j) l v
    → (w : AbstractValue) × Notation p os K j m w
elements_value {p} {os} {K} {k} {j} {l} {m} {ts} f s (family.of_list {ts = us} {r = r} g h) =
    element_value s.0 m (subst (λ (x : List Tree). NotatedElements p os K j x r) (one_some
    (values_in l) us ts g f) h) s.1

no_choice : (cs : List Part) (fs : List (Name × Tree)) → AreArranged Choice (part_names cs) (field_names fs) → ⊥
no_choice cs fs a = a

choice_value : {p : Program} {os : List ℕ} {K : Name} {e : Bool} {cs : List Part} {x : Name} {m : Tree} {c : Part} {v : AbstractValue}
    → AreDifferent (part_names cs)
    → OccursIn cs c
    → c.name ≡ x
    → NotationOf p os K (members Choice e cs) (chosen x m) v
    → (w : AbstractValue) × Notation p os K c.ty m w
choice_value {cs = cs} d s f (family.of_fields {fs = fs} g a h w) = absurd (no_choice cs fs a)
choice_value {p} {os} {K} {e} {cs} {x} {m} {c} d s f (family.of_choice {c = b} {a = i} {v = w} g k h) =
    let places = one_place (part_names cs) x i s.0 d (named_at cs i b x g k) (named_at cs s.0 c x s.1 f) in
    let parts = one_some (slice_get cs s.0) b c (subst (λ (z : ℕ). slice_get cs z ≡ Some b) places g) s.1 in
    (w, subst (λ (z : Part). Notation p os K z.ty m w) parts h)

-- a notation in one of a value is that of a value
pub read_value : {p : Program} {os qs : List ℕ} {M K : Name} {i j : ℕ} {n m : Tree} {v : AbstractValue}
    → IsKept p
    → IsRead p os M i n qs K j m
    → Notation p os M i n v
    → (w : AbstractValue) × Notation p qs K j m w
read_value {v = v} s wrong.itself h = (v, h)
read_value s (wrong.in_field a none e f t u r) h =
    let w = fields_value none f t u (at_last s a e h) in read_value s r w.1
read_value s (wrong.in_element a e f t r) h =
    let w = elements_value f t (at_last s a e h) in read_value s r w.1
read_value {p} {i = i} s (wrong.in_alternative {e = e} {cs = cs} a l t f r) h =
    let w = choice_value (sound_kind p.types i (members Choice e cs) s.sound a).names t f (at_last s a l h) in
    read_value s r w.1

-- ---- what is wrong here

misfit_none : {p : Program} {os : List ℕ} {K : Name} {k : WrittenKind} {l : Tree} {v : AbstractValue}
    → IsMisfit k l
    → NotationOf p os K k l v
    → ⊥
misfit_none {v = v} m (family.of_leaf h) = m.0 v h
misfit_none m (family.of_fields {k = Sequence} e a h w) = some_none _ _ e m
misfit_none m (family.of_fields {k = Set} e a h w) = some_none _ _ e m
misfit_none m (family.of_fields {k = Choice} e a h w) = a
misfit_none m (family.of_list e h) = some_none _ _ e m
misfit_none m (family.of_choice {n = n} {x = x} g a h) = m x n refl

unknown_bit : (bs : List (Name × ℕ)) (x : Name) {ts : Trees} {ps : List ℕ}
    → IsUnknownBit bs x ts
    → AreBitNames bs ts ps
    → ⊥
unknown_bit bs x (wrong.first_bit e) (leaves.bit_and {place = q} f h) = some_none (under x bs) q f e
unknown_bit bs x (wrong.later_bit e u) (leaves.bit_and f h) = unknown_bit bs x u h

bits_none : (bs : List (Name × ℕ)) (ts : Trees) (x : Name) {v : AbstractValue}
    → IsUnknownBit bs x ts
    → IsLeafNotation (a_bit_string bs) (items ts) v
    → ⊥
bits_none bs ts x u (leaves.named_bits a e) = unknown_bit bs x u a

bit_none : (k : Plain) (l : Tree) (x : Name) (v : AbstractValue) → HasUnknownBit k l x → IsLeafNotation k l v → ⊥
bit_none k l x v u h =
    bits_none u.bits u.names x u.unknown
    (subst (λ (z : Tree). IsLeafNotation (a_bit_string u.bits) z v) u.in_braces (subst (λ
    (z : Plain). IsLeafNotation z l v) u.is h))

leaf_of : {p : Program} {os : List ℕ} {K : Name} {k : Plain} {l : Tree} {v : AbstractValue} → NotationOf p os K (simple k) l v → IsLeafNotation k l v
leaf_of (family.of_leaf h) = h

other_none : {p : Program} {os : List ℕ} {K : Name} {e : Bool} {cs : List Part} {x : Name} {m : Tree} {v : AbstractValue}
    → (OccursIn (part_names cs) x → ⊥)
    → NotationOf p os K (members Choice e cs) (chosen x m) v
    → ⊥
other_none {cs = cs} none (family.of_fields {fs = fs} g a h w) = no_choice cs fs a
other_none {cs = cs} {x = x} none (family.of_choice {c = c} {a = i} g f h) = none (i, named_at cs i c x g f)

part_in : {A : Type 0} {xs ys : List A} (x : A) (i : ℕ) → IsPartOf xs ys → slice_get xs i ≡ Some x → OccursIn ys x
part_in x i family.none_left e = absurd (some_none (slice_get [] i) x e refl)
part_in x i (family.left_out h) e = let s = part_in x i h e in (suc s.0, s.1)
part_in x zero (family.taken h) e = (0, e)
part_in x (suc i) (family.taken h) e = let s = part_in x i h e in (suc s.0, s.1)

arranged_in : (k : ListKind) (cs fs : List Name) (x : Name) → AreArranged k cs fs → OccursIn fs x → OccursIn cs x
arranged_in Sequence cs fs x a s = part_in x s.0 a.1 s.1
arranged_in Set cs fs x a s = a.1 x s
arranged_in Choice cs fs x a s = absurd a

-- a component without a field may be absent
absent_may : {p : Program} {os : List ℕ} {M : Name} {fs : List (Name × Tree)} {cs : List Part} {r : Row} (a : ℕ) (c : Part)
    → Fields p os M fs cs r
    → slice_get cs a ≡ Some c
    → (OccursIn (field_names fs) c.name → ⊥)
    → IsTrue (may_lack_value c)
absent_may a c family.no_part e none = absurd (some_none (slice_get [] a) c e refl)
absent_may zero c (family.part_absent {c = b} x t h) e none = subst (λ (z : Part). IsTrue (may_lack_value z)) (same_Some b c e) t
absent_may {fs = fs} zero c (family.part_present {c = b} {n = n} t g h) e none =
    absurd (none (subst (λ (z : Part). OccursIn (field_names fs) z.name) (same_Some b c e)
    (occurs_mapped (λ (f : Name × Tree). f.0) fs (b.name, n) t)))
absent_may (suc a) c (family.part_absent x t h) e none = absent_may a c h e none
absent_may (suc a) c (family.part_present t g h) e none = absent_may a c h e none

-- ---- groups

in_group : (t : PresenceTree) (s : Standing) (g : ℕ) → s ≡ Addition (Some g) →
    group_of (presence_without_value t s) ≡ Some g
in_group mandatory s g e = rw e refl
in_group optional s g e = rw e refl
in_group (default d) s g e = rw e refl

needed_in : (t : PresenceTree) (s : Standing) (g : ℕ)
    → t ≡ mandatory
    → s ≡ Addition (Some g)
    → presence_without_value t s ≡ types.addition false (Some g)
needed_in t s g e f = rw (e, f) refl

has_group : {p : Program} {os : List ℕ} {M : Name} {fs : List (Name × Tree)} {cs : List Part} {r : Row} (g a : ℕ) (c : Part)
    → Fields p os M fs cs r
    → slice_get cs a ≡ Some c
    → c.standing ≡ Addition (Some g)
    → OccursIn (field_names fs) c.name
    → HasOfGroup g (map component_of cs) r
has_group g a c family.no_part e f s = absurd (some_none (slice_get [] a) c e refl)
has_group {fs = fs} g zero c (family.part_absent {c = b} none t h) e f s =
    absurd (none (subst (λ (z : Part). OccursIn (field_names fs) z.name) (sym (same_Some b c e)) s))
has_group g zero c (family.part_present {c = b} t n h) e f s =
    inl (in_group b.presence b.standing g (ap (λ (z : Part). z.standing) (same_Some b c e) ∙ f))
has_group g (suc a) c (family.part_absent none t h) e f s = has_group g a c h e f s
has_group g (suc a) c (family.part_present t n h) e f s = inr (has_group g a c h e f s)

lacks_group : {p : Program} {os : List ℕ} {M : Name} {fs : List (Name × Tree)} {cs : List Part} {r : Row} (g a : ℕ) (c : Part)
    → Fields p os M fs cs r
    → slice_get cs a ≡ Some c
    → c.standing ≡ Addition (Some g)
    → c.presence ≡ mandatory
    → (OccursIn (field_names fs) c.name → ⊥)
    → LacksOfGroup g (map component_of cs) r
lacks_group g a c family.no_part e f q none = absurd (some_none (slice_get [] a) c e refl)
lacks_group g zero c (family.part_absent {c = b} x t h) e f q none =
    let same = same_Some b c e in
    inl (needed_in b.presence b.standing g (ap (λ (z : Part). z.presence) same ∙ q) (ap (λ (z : Part). z.standing) same ∙ f))
lacks_group {fs = fs} g zero c (family.part_present {c = b} {n = n} t k h) e f q none =
    absurd (none (subst (λ (z : Part). OccursIn (field_names fs) z.name) (same_Some b c e)
    (occurs_mapped (λ (f : Name × Tree). f.0) fs (b.name, n) t)))
lacks_group g (suc a) c (family.part_absent x t h) e f q none = inr (lacks_group g a c h e f q none)
lacks_group g (suc a) c (family.part_present t k h) e f q none = lacks_group g a c h e f q none

disarranged_none : {p : Program} {os : List ℕ} {M : Name} {k : ListKind} {cs : List Part} {fs : List (Name × Tree)} {r : Row} {t : NotationTrouble}
    → IsDisarranged k cs (field_names fs) t
    → AreArranged k (part_names cs) (field_names fs)
    → Fields p os M fs cs r
    → GroupsAreWhole (map component_of cs) r
    → ⊥
disarranged_none {k = k} {cs = cs} {fs = fs} (wrong.strange {x = x} s none) a h w = none (arranged_in k (part_names cs) (field_names fs) x a s)
disarranged_none {k = k} {cs = cs} {fs = fs} (wrong.twice {x = x} i s) a h w = distinct_fields k cs fs a x s
disarranged_none {fs = fs} (wrong.lacking {x = x} i d m) a h w =
    let may = absent_may m.there.0 m.part h m.there.1 (λ s. m.none (subst (λ (z : Name). OccursIn (field_names fs) z) m.named s)) in
    let e : false ≡ true = sym m.needed ∙ may in
    absurd (grind arith)
disarranged_none {fs = fs} (wrong.lacking_in_group {x = x} i d m) a h w =
    w m.group (has_group m.group m.other_there.0 m.other h m.other_there.1 m.other_standing m.other_present)
    (lacks_group m.group m.there.0 m.part h m.there.1 m.standing m.needed
    (λ s. m.none (subst (λ (z : Name). OccursIn (field_names fs) z) m.named s)))
disarranged_none (wrong.jumbled i d m g none before behind) a h w = none a.1

names_none : {p : Program} {os : List ℕ} {K : Name} {k : ListKind} {e : Bool} {cs : List Part} {l : Tree} {fs : List (Name × Tree)}
    {t : NotationTrouble} {v : AbstractValue}
    → (k ≡ Choice → ⊥)
    → fields_in l ≡ Some fs
    → IsDisarranged k cs (field_names fs) t
    → NotationOf p os K (members k e cs) l v
    → ⊥
names_none {p} {os} {K} {k} {e} {cs} {l} {fs} {t} none f d (family.of_fields {fs = gs} {r = r} g a h w) =
    let same = one_some (fields_in l) gs fs g f in
    disarranged_none d
    (subst (λ (x : List (Name × Tree)). AreArranged k (part_names cs) (field_names x)) same a)
    (subst (λ (x : List (Name × Tree)). Fields p os K x cs r) same h) w
names_none none f d (family.of_choice g a h) = none refl

-- a notation with which something is wrong stands for no value
pub wrong_none : {p : Program} {os : List ℕ} {M : Name} {i : ℕ} {n : Tree} {t : NotationTrouble} {v : AbstractValue}
    → IsKept p
    → IsWrongHere p os M i n t
    → Notation p os M i n v
    → ⊥
wrong_none s (wrong.lost_name a l) h = let e = ends a h in lost_without_end s.apart l e.3
wrong_none s (wrong.lost_item a l) h = let e = ends a h in lost_without_end s.apart l e.3
wrong_none s (wrong.round a c) h = let e = ends a h in round_without_end s.apart c e.3
wrong_none s (wrong.misfit a l m) h = misfit_none m (at_last s a l h)
wrong_none {v = v} s (wrong.bit {k = k} {l = l} {x = x} a e u) h = bit_none k l x v u (leaf_of (at_last s a e h))
wrong_none s (wrong.other_alternative a l none) h = other_none none (at_last s a l h)
wrong_none s (wrong.names a none l f d) h = names_none none f d (at_last s a l h)
