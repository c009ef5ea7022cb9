-- Components that are written.
use Rattle.std.proofs.Common.{◌≡◌, ℕ, zero, suc, ◌+◌, ◌-◌, ◌<◌, ◌≤◌, Bool, true, false, List, [], ◌∷◌, ◌++◌, length, drop, get_or, refl, sym, ap, subst, ◌∙◌, arith, append_assoc}
use Rattle.std.specs.Prelude.{Some, None, not, ◌||◌, if◌then◌else◌, slice_get}
use Rattle.std.specs.List.{AllByRecursion}
use Rattle.asn_base.specs.declared.tag.Tag.{Tag}
use Rattle.asn_base.specs.Abstract.{AbstractValue, boolean, integer, enumerated, bits, octets, text, null, oid, relative_oid, fields, list, alternative, Row, end, absent, present}
use Rattle.asn_base.specs.Types.{Component, Kind, a_null, Resolved, Is}
use Rattle.asn_base.specs.Schemas.{components}
use Rattle.asn_base.specs.Typed.{ValueIn, value_in, ValueOf, of_leaf, of_sequence, of_set, AreComponents, component_absent, component_present}
use Rattle.packed_encodings.specs.Computed.{is_default, members_by, bits_by, bits_of, kind_at, DefaultTest}
use Rattle.packed_encodings.specs.Lengths.{Bits}
use Rattle.packed_encodings.specs.Orders.{Member, missing, standing}
use Rattle.packed_code.specs.declared.step.PackedField.{PackedField}
use Rattle.packed_code.specs.declared.step.PackedStep.{PackedStep}
use Rattle.packed_code.specs.declared.step.PackedStep.TheVariants as steps
use Rattle.packed_code.specs.Meaning.{any_written, is_written, bits_at, members_of, map_bits, field_bits}
use Rattle.packed_code.specs.Routines.{field_of}
use Rattle.packed_writer.specs.proving.Values.{row_at, value_at, HasComponent, LeftOut, Written, fields_in}
use Rattle.packed_writer.proofs.Defaults.{no_default}
use Rattle.packed_writer.specs.proving.Fields.{fields_append}

pub kind_is : {s : List Resolved} {t : ℕ} {tags : List Tag} {k : Kind} → Is s t tags k → kind_at s t ≡ k
kind_is i = ap (λ o. elim o [ None ↦ a_null | Some r ↦ r.kind ]) i.found

if_true : {X : Type 0} (b : Bool) (x y : X) → b ≡ true → (if b then x else y) ≡ x
if_true b x y e = ap (λ t. if t then x else y) e

if_false : {X : Type 0} (b : Bool) (x y : X) → b ≡ false → (if b then x else y) ≡ y
if_false b x y e = ap (λ t. if t then x else y) e

-- ---- members by place

none_by : (test : DefaultTest) (s : List Resolved) (ws : Row) (cs : List Component) (i : ℕ) → row_at ws i ≡ None → (is_written (members_by test s ws cs) i ≡ false) × (bits_at (members_by test s ws cs) i ≡ [])
none_by test s end cs i e = (refl, refl)
none_by test s (absent ws) [] i e = (refl, refl)
none_by test s (present w ws) [] i e = (refl, refl)
none_by test s (absent ws) (c ∷ cs) zero e = (refl, refl)
none_by test s (present w ws) (c ∷ cs) zero e = absurd (cc)
none_by test s (absent ws) (c ∷ cs) (suc i) e = none_by test s ws cs i e
none_by test s (present w ws) (c ∷ cs) (suc i) e = by (test c w) (none_by test s ws cs i e)
  where
    by : (b : Bool) → (is_written (members_by test s ws cs) i ≡ false) × (bits_at (members_by test s ws cs) i ≡ []) → (is_written ((if b then missing c else standing c (bits_by test s w c.type)) ∷ members_by test s ws cs) (suc i) ≡ false) × (bits_at ((if b then missing c else standing c (bits_by test s w c.type)) ∷ members_by test s ws cs) (suc i) ≡ [])
    by true r = r
    by false r = r

some_same : {A : Type 0} {x y : A} → Some x ≡ Some y → x ≡ y
some_same e = cc

-- a component that is there is written, unless the test says that it is its DEFAULT
some_by : (test : DefaultTest) (s : List Resolved) (ws : Row) (cs : List Component) (i : ℕ) (w : AbstractValue) (c : Component) → row_at ws i ≡ Some w → slice_get cs i ≡ Some c → (is_written (members_by test s ws cs) i ≡ not (test c w)) × (bits_at (members_by test s ws cs) i ≡ (if test c w then [] else bits_by test s w c.type))
some_by test s end cs i w c e f = absurd (cc)
some_by test s (absent ws) [] i w c e f = absurd (cc)
some_by test s (present v ws) [] i w c e f = absurd (cc)
some_by test s (absent ws) (d ∷ cs) zero w c e f = absurd (cc)
some_by test s (present v ws) (d ∷ cs) zero w c e f = subst (λ q. (is_written ((if test d v then missing d else standing d (bits_by test s v d.type)) ∷ members_by test s ws cs) zero ≡ not (test q w)) × (bits_at ((if test d v then missing d else standing d (bits_by test s v d.type)) ∷ members_by test s ws cs) zero ≡ (if test q w then [] else bits_by test s w q.type))) (some_same f)
    (subst (λ q. (is_written ((if test d v then missing d else standing d (bits_by test s v d.type)) ∷ members_by test s ws cs) zero ≡ not (test d q)) × (bits_at ((if test d v then missing d else standing d (bits_by test s v d.type)) ∷ members_by test s ws cs) zero ≡ (if test d q then [] else bits_by test s q d.type))) (some_same e) (by (test d v)))
  where
    by : (b : Bool) → (is_written ((if b then missing d else standing d (bits_by test s v d.type)) ∷ members_by test s ws cs) zero ≡ not b) × (bits_at ((if b then missing d else standing d (bits_by test s v d.type)) ∷ members_by test s ws cs) zero ≡ (if b then [] else bits_by test s v d.type))
    by true = (refl, refl)
    by false = (refl, refl)
some_by test s (absent ws) (d ∷ cs) (suc i) w c e f = some_by test s ws cs i w c e f
some_by test s (present v ws) (d ∷ cs) (suc i) w c e f = by (test d v) (some_by test s ws cs i w c e f)
  where
    by : (b : Bool) → (is_written (members_by test s ws cs) i ≡ not (test c w)) × (bits_at (members_by test s ws cs) i ≡ (if test c w then [] else bits_by test s w c.type)) → (is_written ((if b then missing d else standing d (bits_by test s v d.type)) ∷ members_by test s ws cs) (suc i) ≡ not (test c w)) × (bits_at ((if b then missing d else standing d (bits_by test s v d.type)) ∷ members_by test s ws cs) (suc i) ≡ (if test c w then [] else bits_by test s w c.type))
    by true r = r
    by false r = r

-- ---- components of a value

pub none_written : (s : List Resolved) (t : ℕ) (v : AbstractValue) (f : PackedField) → value_at v f.place ≡ None → LeftOut s t v f
none_written s t (fields ws) f e = let r = none_by (is_default s) s ws (components (kind_at s t)) f.place e in record { not_written = r.0; no_bits = r.1 }
none_written s t q f e = record { not_written = refl; no_bits = refl }

-- its row
record HasRow (v : AbstractValue) (i : ℕ) (w : AbstractValue) : Type 0 where
  row : Row
  is : v ≡ fields row
  at : row_at row i ≡ Some w

has_row : (v : AbstractValue) (i : ℕ) (w : AbstractValue) → value_at v i ≡ Some w → HasRow v i w
has_row (fields ws) i w e = record { row = ws; is = refl; at = e }
has_row q i w e = absurd (cc)

pub default_left_out : (s : List Resolved) (t : ℕ) (v w : AbstractValue) (f : PackedField) (c : Component) → value_at v f.place ≡ Some w → HasComponent s t f.place c → is_default s c w ≡ true → LeftOut s t v f
default_left_out s t v w f c e h d =
    let r = has_row v f.place w e in
    let m = some_by (is_default s) s r.row (components (kind_at s t)) f.place w c r.at h in
    subst (λ q. LeftOut s t q f) (sym r.is) (record { not_written = m.0 ∙ ap not d; no_bits = m.1 ∙ if_true (is_default s c w) [] (bits_of s w c.type) d })

below_one : {s : List Resolved} {n : ℕ} (ws : Row) (cs : List Component) (i : ℕ) (w : AbstractValue) (c : Component) → AreComponents s n cs ws → row_at ws i ≡ Some w → slice_get cs i ≡ Some c → ValueIn s n c.type w
below_one end cs i w c a e f = absurd (cc)
below_one (absent ws) (d ∷ cs) zero w c a e f = absurd (cc)
below_one {s} {n} (present v ws) (d ∷ cs) zero w c (component_present h a) e f = subst (λ q. ValueIn s n q.type w) (some_same f) (subst (λ q. ValueIn s n d.type q) (some_same e) h)
below_one (absent ws) (d ∷ cs) (suc i) w c (component_absent m a) e f = below_one ws cs i w c a e f
below_one (present v ws) (d ∷ cs) (suc i) w c (component_present h a) e f = below_one ws cs i w c a e f
below_one (absent ws) [] i w c a e f = absurd (cc)
below_one (present v ws) [] i w c a e f = absurd (cc)

pub component_in : (s : List Resolved) (t n : ℕ) (v w : AbstractValue) (i : ℕ) (c : Component) → ValueIn s n t v → value_at v i ≡ Some w → HasComponent s t i c → ValueIn s (n - 1) c.type w
component_in s t n v w i c a e h = by a (has_row v i w e)
  where
    less : (m : ℕ) → m ≡ suc m - 1
    less m = omega arith

    of_kind : {m : ℕ} {k : Kind} (row : Row) → ValueOf s m k (fields row) → kind_at s t ≡ k → row_at row i ≡ Some w → ValueIn s m c.type w
    of_kind row (of_leaf f) e r = elim f [ ]
    of_kind row (of_sequence {cs = cs} a g) e r = below_one row cs i w c a r (ap (λ q. slice_get (components q) i) (sym e) ∙ h)
    of_kind row (of_set {cs = cs} a g) e r = below_one row cs i w c a r (ap (λ q. slice_get (components q) i) (sym e) ∙ h)

    by : {n : ℕ} → ValueIn s n t v → HasRow v i w → ValueIn s (n - 1) c.type w
    by (value_in {n = m} {k = k} j o) r = subst (λ q. ValueIn s q c.type w) (less m) (of_kind r.row (subst (ValueOf s m k) r.is o) (kind_is j) r.at)

pub is_there : (s : List Resolved) (t n : ℕ) (v w : AbstractValue) (f : PackedField) (c : Component) → ValueIn s n t v → value_at v f.place ≡ Some w → HasComponent s t f.place c → f ≡ field_of f.place c → is_default s c w ≡ false → Written s t v f n w
is_there s t n v w f c a e h i d =
    let r = has_row v f.place w e in
    let m = some_by (is_default s) s r.row (components (kind_at s t)) f.place w c r.at h in
    let u : f.ty.index ≡ c.type = ap (λ q. q.ty.index) i in
    record {
      written = ap (λ q. is_written (members_of s t q) f.place) r.is ∙ m.0 ∙ ap not d;
      bits = ap (λ q. bits_at (members_of s t q) f.place) r.is ∙ m.1 ∙ if_false (is_default s c w) [] (bits_of s w c.type) d ∙ ap (bits_of s w) (sym u);
      is = subst (λ q. ValueIn s (n - 1) q w) (sym u) (component_in s t n v w f.place c a e h);
    }

pub without_default : (s : List Resolved) (w : AbstractValue) (f : PackedField) (c : Component) → f ≡ field_of f.place c → f.with_default ≡ false → is_default s c w ≡ false
without_default s w f c i e = no_default s c w (sym (ap (λ q. q.with_default) i) ∙ e)

-- ---- fields of steps

map_append : (ms : List (Member Bits)) (fs gs : List PackedField) → map_bits ms (fs ++ gs) ≡ map_bits ms fs ++ map_bits ms gs
map_append ms [] gs = refl
map_append ms (f ∷ fs) gs = by f.with_bit (map_append ms fs gs)
  where
    by : (b : Bool) → map_bits ms (fs ++ gs) ≡ map_bits ms fs ++ map_bits ms gs → (if b then is_written ms f.place ∷ map_bits ms (fs ++ gs) else map_bits ms (fs ++ gs)) ≡ (if b then is_written ms f.place ∷ map_bits ms fs else map_bits ms fs) ++ map_bits ms gs
    by true r = ap (λ q. is_written ms f.place ∷ q) r
    by false r = r

bits_append : (ms : List (Member Bits)) (fs gs : List PackedField) → field_bits ms (fs ++ gs) ≡ field_bits ms fs ++ field_bits ms gs
bits_append ms [] gs = refl
bits_append ms (f ∷ fs) gs = ap (λ q. bits_at ms f.place ++ q) (bits_append ms fs gs) ∙ sym (append_assoc (bits_at ms f.place) (field_bits ms fs) (field_bits ms gs))

any_append : (ms : List (Member Bits)) (fs gs : List PackedField) → any_written ms (fs ++ gs) ≡ (any_written ms fs || any_written ms gs)
any_append ms [] gs = refl
any_append ms (f ∷ fs) gs = by (is_written ms f.place) (any_append ms fs gs)
  where
    by : (b : Bool) → any_written ms (fs ++ gs) ≡ (any_written ms fs || any_written ms gs) → (b || any_written ms (fs ++ gs)) ≡ ((b || any_written ms fs) || any_written ms gs)
    by true r = refl
    by false r = r

pub step_at : (ss : List PackedStep) (i : ℕ) (st : PackedStep) → i < length ss → st ≡ get_or ss i st → drop i ss ≡ st ∷ drop (i + 1) ss
step_at [] i st h e = absurd (omega (arith, h))
step_at (x ∷ ss) zero st h e = ap (λ q. q ∷ ss) (sym e)
step_at (x ∷ ss) (suc i) st h e = step_at ss i st (omega (arith, h)) e ∙ ap (λ q. st ∷ drop q (x ∷ ss)) (let c : suc (i + 1) ≡ suc i + 1 = omega arith in c)

pub map_step : (ms : List (Member Bits)) (ss : List PackedStep) (i : ℕ) (st : PackedStep) (b d whole : Bits) → drop i ss ≡ st ∷ drop (i + 1) ss → b ++ map_bits ms (fields_in (drop i ss)) ≡ whole → d ≡ b ++ map_bits ms (fields_in (st ∷ [])) → d ++ map_bits ms (fields_in (drop (i + 1) ss)) ≡ whole
map_step ms ss i st b d whole e v n =
    ap (λ q. q ++ map_bits ms (fields_in (drop (i + 1) ss))) n ∙ append_assoc b (map_bits ms (fields_in (st ∷ []))) (map_bits ms (fields_in (drop (i + 1) ss)))
    ∙ ap (λ q. b ++ q) (sym (map_append ms (fields_in (st ∷ [])) (fields_in (drop (i + 1) ss))) ∙ ap (map_bits ms) (sym (fields_append st (drop (i + 1) ss)) ∙ ap fields_in (sym e)))
    ∙ v

pub fields_step : (ms : List (Member Bits)) (ss : List PackedStep) (i : ℕ) (st : PackedStep) (b d whole : Bits) → drop i ss ≡ st ∷ drop (i + 1) ss → b ++ field_bits ms (fields_in (drop i ss)) ≡ whole → d ≡ b ++ field_bits ms (fields_in (st ∷ [])) → d ++ field_bits ms (fields_in (drop (i + 1) ss)) ≡ whole
fields_step ms ss i st b d whole e v n =
    ap (λ q. q ++ field_bits ms (fields_in (drop (i + 1) ss))) n ∙ append_assoc b (field_bits ms (fields_in (st ∷ []))) (field_bits ms (fields_in (drop (i + 1) ss)))
    ∙ ap (λ q. b ++ q) (sym (bits_append ms (fields_in (st ∷ [])) (fields_in (drop (i + 1) ss))) ∙ ap (field_bits ms) (sym (fields_append st (drop (i + 1) ss)) ∙ ap fields_in (sym e)))
    ∙ v

pub any_step : (ms : List (Member Bits)) (ss : List PackedStep) (i : ℕ) (st : PackedStep) → drop i ss ≡ st ∷ drop (i + 1) ss → any_written ms (fields_in (drop i ss)) ≡ (any_written ms (fields_in (st ∷ [])) || any_written ms (fields_in (drop (i + 1) ss)))
any_step ms ss i st e = ap (λ q. any_written ms (fields_in q)) e ∙ ap (any_written ms) (fields_append st (drop (i + 1) ss)) ∙ any_append ms (fields_in (st ∷ [])) (fields_in (drop (i + 1) ss))

-- ---- facts of some steps

pub all_at : {X : Type 0} (P : X → Type 0) (xs : List X) (i : ℕ) (x : X) → i < length xs → x ≡ get_or xs i x → AllByRecursion P xs → P x
all_at P [] i x h e a = absurd (omega (arith, h))
all_at P (y ∷ xs) zero x h e a = subst P (sym e) a.0
all_at P (y ∷ xs) (suc i) x h e a = all_at P xs i x (omega (arith, h)) e a.1

pub split_at : (ss : List PackedStep) (i : ℕ) → i < length ss → (st : PackedStep) × (drop i ss ≡ st ∷ drop (i + 1) ss)
split_at [] i h = absurd (omega (arith, h))
split_at (x ∷ ss) zero h = (x, refl)
split_at (x ∷ ss) (suc i) h = let r = split_at ss i (omega (arith, h)) in (r.0, r.1 ∙ ap (λ q. r.0 ∷ drop q (x ∷ ss)) (let c : suc (i + 1) ≡ suc i + 1 = omega arith in c))

-- the step at a place is the first of those from there on
pub step_there : (ss : List PackedStep) (i : ℕ) (st : PackedStep) → i < length ss → drop i ss ≡ get_or ss i st ∷ drop (i + 1) ss
step_there [] i st h = absurd (omega (arith, h))
step_there (x ∷ ss) zero st h = refl
step_there (x ∷ ss) (suc i) st h = step_there ss i st (omega (arith, h)) ∙ ap (λ q. get_or ss i st ∷ drop q (x ∷ ss)) (let c : suc (i + 1) ≡ suc i + 1 = omega arith in c)

pub levels_up : {s : List Resolved} (n m t : ℕ) (v : AbstractValue) → ((s : List Resolved) (t m n : ℕ) (v : AbstractValue) → m ≤ n → ValueIn s m t v → ValueIn s n t v) → n - 1 ≤ m → ValueIn s (n - 1) t v → ValueIn s m t v
levels_up {s} n m t v law h a = law s t (n - 1) m v h a

pub not_true : (b : Bool) → not b ≡ true → b ≡ false
not_true true e = absurd (cc)
not_true false e = refl

pub not_false : (b : Bool) → not b ≡ false → b ≡ true
not_false true e = refl
not_false false e = absurd (cc)
