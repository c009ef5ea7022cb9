-- Whether two values are alike, part by part.
use Rattle.std.proofs.Common.{arith, ◌≡◌, ◌⊎◌, inl, inr, ℕ, zero, suc, ◌+◌, ◌-◌, ◌<◌, ◌≤◌, Bool, false, List, [], ◌∷◌, ◌++◌, length, replicate, drop, take, get_or, refl, sym, subst, ap, ◌∙◌}
use Rattle.std.specs.Prelude.{◌↔◌, IsTrue, Option, Some, None, slice_get}
use Rattle.std.proofs.lemmas.Bool.{ltb-true, lt-ltb}
use Rattle.std.proofs.Math.Dec.{ltb}
use Rattle.asn_base.specs.declared.schema.Core.{Core}
use Rattle.asn_base.specs.declared.schema.Core.TheVariants as cores
use Rattle.asn_base.specs.Abstract.{AbstractValue, bits, fields, list, alternative, Row, row_of_options, row_of_list}
use Rattle.asn_base.specs.Decided.{IsFlat, AreAlikeBits, HasDefaultAlike, AlikeChosen, IsChosen, AlikeAt, Count, counted, passed, no_more, IsRarer, IsComponent}
use Rattle.asn_base.specs.Seen.{kind_of}
use Rattle.asn_base.specs.Types.{Constraint, NamedBit, Alternative, Kind, a_named_bit_string, a_sequence, a_set, a_sequence_of, a_set_of, a_choice, Presence, default, Component, Resolved, Is}
use Rattle.asn_base.specs.Typed.{IsPrimitive, fits_boolean, fits_integer, fits_enumerated, fits_bits, fits_named_bits, fits_octets, fits_null, fits_oid, fits_relative_oid, fits_utf8, fits_restricted, ValueIn, ValueOf, of_leaf, of_sequence, of_set, of_sequence_of, of_set_of, of_choice, MayBeAbsent, AreComponents, AreElements, no_element, one_element}
use Rattle.asn_base.specs.Same.{IsLeaf, Alike, alike, AlikeBy, equal, zeros, alike_sequence, alike_set, alike_sequence_of, alike_set_of, alike_choice, AlikeComponents, no_components, both_absent, both_present, first_default, second_default, AlikeElements, no_elements, alike_element, AlikeInAnyOrder}
use Rattle.asn_base.proofs.AlikeOrNot.{back, un_sequence, un_set, un_sequence_of, un_set_of, un_choice, un_element}
use Rattle.asn_base.proofs.Counts.{one_count, rarer_before, all_paired, as_many_members}
use Rattle.asn_base.proofs.Parts.{first_and_rest, in_kind, in_default, split_elements, member_count}
use Rattle.asn_base.proofs.Sameness.{alike_sym, fits_leaf}
use Rattle.asn_base.specs.proving.Lists.{onward}
use Rattle.asn_base.specs.proving.OneDefault.{value_at, same_alternative}

-- ---- values that hold no others

fits_flat : {k : Kind} {v : AbstractValue} → IsPrimitive k v → IsFlat v
fits_flat fits_boolean = tt
fits_flat (fits_integer l a) = tt
fits_flat (fits_enumerated l a) = tt
fits_flat (fits_bits a) = tt
fits_flat fits_named_bits = tt
fits_flat (fits_octets b a) = tt
fits_flat fits_null = tt
fits_flat (fits_oid a) = tt
fits_flat (fits_relative_oid a) = tt
fits_flat (fits_utf8 a z) = tt
fits_flat (fits_restricted a z) = tt

abbrev IsNamed : Kind → Type 0
IsNamed (a_named_bit_string ns) = Unit {0}
IsNamed k = ⊥

alike_equal : {s : List Resolved} {k : Kind} {v w : AbstractValue} → (IsNamed k → ⊥) → IsLeaf k → AlikeBy s k v w → v ≡ w
alike_equal n l (equal m) = refl
alike_equal n l (zeros a b e) = absurd (n tt)
alike_equal n l (alike_sequence a) = absurd l
alike_equal n l (alike_set a) = absurd l
alike_equal n l (alike_sequence_of a) = absurd l
alike_equal n l (alike_set_of a) = absurd l
alike_equal n l (alike_choice g a) = absurd l

pub plain : (s : List Resolved) {k : Kind} {v w : AbstractValue} {r : Bool} → (IsNamed k → ⊥) → (IsFlat v → IsTrue r ↔ (v ≡ w)) → IsPrimitive k v → IsTrue r ↔ AlikeBy s k v w
plain s {k} {v} n f x = onward (f (fits_flat x)) (λ e. subst (AlikeBy s k v) e (equal (fits_leaf x))) (alike_equal n (fits_leaf x))

pub not_named : (core : Core) → ((bs : _) → core ≡ cores.NamedBits bs → ⊥) → IsNamed (kind_of core) → ⊥
not_named cores.Boolean h n = n
not_named (cores.Integer x) h n = n
not_named (cores.Enumerated x) h n = n
not_named (cores.BitString x) h n = n
not_named (cores.NamedBits x) h n = h x refl
not_named (cores.OctetString x) h n = n
not_named cores.Null h n = n
not_named cores.ObjectIdentifier h n = n
not_named cores.RelativeOid h n = n
not_named (cores.Utf8String x) h n = n
not_named (cores.RestrictedString x y z) h n = n
not_named (cores.Sequence x y) h n = n
not_named (cores.Set x y) h n = n
not_named (cores.SequenceOf x y) h n = n
not_named (cores.SetOf x y) h n = n
not_named (cores.Choice x) h n = n

zero_bits : (m i : ℕ) → get_or (replicate m false) i false ≡ false
zero_bits zero i = refl
zero_bits (suc m) zero = refl
zero_bits (suc m) (suc i) = zero_bits m i

with_zeros : (a : List Bool) (m i : ℕ) → get_or (a ++ replicate m false) i false ≡ get_or a i false
with_zeros [] m i = zero_bits m i
with_zeros (x ∷ a) m zero = refl
with_zeros (x ∷ a) m (suc i) = with_zeros a m i

same_bits : {s : List Resolved} {ns : List NamedBit} {a b : List Bool} → AlikeBy s (a_named_bit_string ns) (bits a) (bits b) → AreAlikeBits a b
same_bits (equal l) = λ i. refl
same_bits {a = a} {b = b} (zeros m n e) = λ i. sym (with_zeros a m i) ∙ ap (λ q. get_or q i false) e ∙ with_zeros b n i

zeros_for : (a b : List Bool) → AreAlikeBits a b → (m : ℕ) × (n : ℕ) × (a ++ replicate m false ≡ b ++ replicate n false)
zeros_for [] [] f = (0, 0, refl)
zeros_for [] (y ∷ b) f = let z = zeros_for [] b (λ i. f (suc i)) in let h : false ≡ y = f 0 in (suc z.0, z.1, ap (λ q. false ∷ q) z.2 ∙ ap (λ q. q ∷ (b ++ replicate z.1 false)) h)
zeros_for (x ∷ a) [] f = let z = zeros_for a [] (λ i. f (suc i)) in let h : x ≡ false = f 0 in (z.0, suc z.1, ap (λ q. q ∷ (a ++ replicate z.0 false)) h ∙ ap (λ q. false ∷ q) z.2)
zeros_for (x ∷ a) (y ∷ b) f = let z = zeros_for a b (λ i. f (suc i)) in let h : x ≡ y = f 0 in (z.0, z.1, ap (λ q. q ∷ (a ++ replicate z.0 false)) h ∙ ap (λ q. y ∷ q) z.2)

-- what is asked of a comparison
abbrev pub Compares : List Resolved → ℕ → Kind → AbstractValue → AbstractValue → Bool → Type 0
Compares s n k v w r = ValueOf s n k v → ValueOf s n k w → IsTrue r ↔ AlikeBy s k v w

pub named_alike : (s : List Resolved) {k : Kind} {v w : AbstractValue} {ns : List NamedBit} {a b : List Bool} {r : Bool} → k ≡ a_named_bit_string ns → v ≡ bits a → w ≡ bits b → IsTrue r ↔ AreAlikeBits a b → IsTrue r ↔ AlikeBy s k v w
named_alike s {k} {v} {w} {ns} {a} {b} {r} e f g h =
    subst (λ q. IsTrue r ↔ AlikeBy s q v w) (sym e)
    (subst (λ q. IsTrue r ↔ AlikeBy s (a_named_bit_string ns) q w) (sym f)
    (subst (λ q. IsTrue r ↔ AlikeBy s (a_named_bit_string ns) (bits a) q) (sym g)
    (onward h (λ x. let z = zeros_for a b x in zeros z.0 z.1 z.2) same_bits)))

-- ---- kinds

record OfRow (s : List Resolved) (n : ℕ) (cs : List Component) (v : AbstractValue) : Type 0 where
  row : Row
  is : v ≡ fields row
  are : AreComponents s n cs row

record OfList (s : List Resolved) (n u : ℕ) (v : AbstractValue) : Type 0 where
  row : Row
  is : v ≡ list row
  are : AreElements s n u row

record OfAlternative (s : List Resolved) (n : ℕ) (as' : List Alternative) (v : AbstractValue) : Type 0 where
  number : ℕ
  inner : AbstractValue
  is : v ≡ alternative number inner
  chosen : IsChosen s n as' number inner

in_sequence : {s : List Resolved} {n : ℕ} {e : Bool} {cs : List Component} {v : AbstractValue} → ValueOf s n (a_sequence e cs) v → OfRow s n cs v
in_sequence (of_leaf f) = elim f [ ]
in_sequence (of_sequence {vs = vs} a g) = record { row = vs; is = refl; are = a }

in_set : {s : List Resolved} {n : ℕ} {e : Bool} {cs : List Component} {v : AbstractValue} → ValueOf s n (a_set e cs) v → OfRow s n cs v
in_set (of_leaf f) = elim f [ ]
in_set (of_set {vs = vs} a g) = record { row = vs; is = refl; are = a }

in_list : {s : List Resolved} {n u : ℕ} {c : Constraint} {v : AbstractValue} → ValueOf s n (a_sequence_of c u) v → OfList s n u v
in_list (of_leaf f) = elim f [ ]
in_list (of_sequence_of {vs = vs} a z) = record { row = vs; is = refl; are = a }

in_bag : {s : List Resolved} {n u : ℕ} {c : Constraint} {v : AbstractValue} → ValueOf s n (a_set_of c u) v → OfList s n u v
in_bag (of_leaf f) = elim f [ ]
in_bag (of_set_of {vs = vs} a z) = record { row = vs; is = refl; are = a }

in_choice : {s : List Resolved} {n : ℕ} {e : Bool} {root more : List Alternative} {v : AbstractValue} → ValueOf s n (a_choice root e more) v → OfAlternative s n (root ++ more) v
in_choice (of_leaf f) = elim f [ ]
in_choice (of_choice {i = i} {a = a} {v = v} g x) = record { number = i; inner = v; is = refl; chosen = (a, g, x) }

-- of two values that are known by equations
at_both : (s : List Resolved) (k : Kind) {v v' w w' : AbstractValue} {r : Bool} → v ≡ v' → w ≡ w' → IsTrue r ↔ AlikeBy s k v' w' → IsTrue r ↔ AlikeBy s k v w
at_both s k {v} {v'} {w} {w'} {r} f g a = subst (λ q. IsTrue r ↔ AlikeBy s k q w) (sym f) (subst (λ q. IsTrue r ↔ AlikeBy s k v' q) (sym g) a)

-- what holds of two rows holds of equal ones
pub rowwise : (P : Row → Type 0) (Q : Row → Row → Type 0) {b : Bool} {r q vs ws : Row} → r ≡ vs → q ≡ ws → (P r → P q → IsTrue b ↔ Q r q) → P vs → P ws → IsTrue b ↔ Q vs ws
rowwise P Q {b} {r} {q} {vs} {ws} e f h =
    subst (λ x. P x → P ws → IsTrue b ↔ Q x ws) e (subst (λ y. P r → P y → IsTrue b ↔ Q r y) f h)

pub sequences : (s : List Resolved) (n : ℕ) {k : Kind} {e : Bool} {cs : List Component} {v w : AbstractValue} {r : Bool} → k ≡ a_sequence e cs → ((vs ws : Row) → v ≡ fields vs → w ≡ fields ws → AreComponents s n cs vs → AreComponents s n cs ws → IsTrue r ↔ AlikeComponents s cs vs ws) → Compares s n k v w r
sequences s n {e = e} {cs = cs} {v = v} {w = w} {r = r} same f = subst (λ q. Compares s n q v w r) (sym same) (λ a b.
    let x = in_sequence a in
    let y = in_sequence b in
    at_both s (a_sequence e cs) x.is y.is (onward (f x.row y.row x.is y.is x.are y.are) alike_sequence un_sequence))

pub sets : (s : List Resolved) (n : ℕ) {k : Kind} {e : Bool} {cs : List Component} {v w : AbstractValue} {r : Bool} → k ≡ a_set e cs → ((vs ws : Row) → v ≡ fields vs → w ≡ fields ws → AreComponents s n cs vs → AreComponents s n cs ws → IsTrue r ↔ AlikeComponents s cs vs ws) → Compares s n k v w r
sets s n {e = e} {cs = cs} {v = v} {w = w} {r = r} same f = subst (λ q. Compares s n q v w r) (sym same) (λ a b.
    let x = in_set a in
    let y = in_set b in
    at_both s (a_set e cs) x.is y.is (onward (f x.row y.row x.is y.is x.are y.are) alike_set un_set))

pub lists_of : (s : List Resolved) (n : ℕ) {k : Kind} {c : Constraint} {u : ℕ} {v w : AbstractValue} {r : Bool} → k ≡ a_sequence_of c u → ((vs ws : Row) → v ≡ list vs → w ≡ list ws → AreElements s n u vs → AreElements s n u ws → IsTrue r ↔ AlikeElements s u vs ws) → Compares s n k v w r
lists_of s n {c = c} {u = u} {v = v} {w = w} {r = r} same f = subst (λ q. Compares s n q v w r) (sym same) (λ a b.
    let x = in_list a in
    let y = in_list b in
    at_both s (a_sequence_of c u) x.is y.is (onward (f x.row y.row x.is y.is x.are y.are) alike_sequence_of un_sequence_of))

pub bags_of : (s : List Resolved) (n : ℕ) {k : Kind} {c : Constraint} {u : ℕ} {v w : AbstractValue} {r : Bool} → k ≡ a_set_of c u → ((vs ws : Row) → v ≡ list vs → w ≡ list ws → AreElements s n u vs → AreElements s n u ws → IsTrue r ↔ AlikeInAnyOrder s u vs ws) → Compares s n k v w r
bags_of s n {c = c} {u = u} {v = v} {w = w} {r = r} same f = subst (λ q. Compares s n q v w r) (sym same) (λ a b.
    let x = in_bag a in
    let y = in_bag b in
    at_both s (a_set_of c u) x.is y.is (onward (f x.row y.row x.is y.is x.are y.are) alike_set_of un_set_of))

to_choice : {s : List Resolved} {e : Bool} {root more : List Alternative} {i j : ℕ} {v w : AbstractValue} → (i ≡ j) × AlikeChosen s (root ++ more) i v w → AlikeBy s (a_choice root e more) (alternative i v) (alternative j w)
to_choice {s} {e} {root} {more} {i} {v = v} {w = w} p = subst (λ q. AlikeBy s (a_choice root e more) (alternative i v) (alternative q w)) p.0 (alike_choice p.1.1 p.1.2)

pub choices : (s : List Resolved) (n : ℕ) {k : Kind} {e : Bool} {root more : List Alternative} {v w : AbstractValue} {r : Bool} → k ≡ a_choice root e more → ((i j : ℕ) (x y : AbstractValue) → v ≡ alternative i x → w ≡ alternative j y → IsChosen s n (root ++ more) i x → IsChosen s n (root ++ more) j y → IsTrue r ↔ ((i ≡ j) × AlikeChosen s (root ++ more) i x y)) → Compares s n k v w r
choices s n {e = e} {root = root} {more = more} {v = v} {w = w} {r = r} same f = subst (λ q. Compares s n q v w r) (sym same) (λ a b.
    let x = in_choice a in
    let y = in_choice b in
    at_both s (a_choice root e more) x.is y.is (onward (f x.number y.number x.inner y.inner x.is y.is x.chosen y.chosen) to_choice (λ c. let u = un_choice x.chosen.1 c in (u.0, (x.chosen.0, x.chosen.1, u.1)))))

pub chosen_alike : (s : List Resolved) (n : ℕ) (as' : List Alternative) (i t : ℕ) {v w : AbstractValue} {r : Bool} (a : Alternative) → slice_get as' i ≡ Some a → a.type ≡ t → (ValueIn s n t v → ValueIn s n t w → IsTrue r ↔ Alike s t v w) → IsChosen s n as' i v → IsChosen s n as' i w → IsTrue r ↔ AlikeChosen s as' i v w
chosen_alike s n as' i t {v} {w} a g h f x y =
    onward (f (value_at (same_alternative g x.1 ∙ h) x.2) (value_at (same_alternative g y.1 ∙ h) y.2))
    (λ l. (a, g, subst (λ q. Alike s q v w) (sym h) l))
    (λ p. subst (λ q. Alike s q v w) (same_alternative g p.1 ∙ h) p.2)

pub none_alike_chosen : (s : List Resolved) (n : ℕ) (as' : List Alternative) (i : ℕ) {v : AbstractValue} → slice_get as' i ≡ None → IsChosen s n as' i v → ⊥
none_alike_chosen s n as' i g p = let h = sym g ∙ p.1 in cc

pub of_type : (s : List Resolved) (n t : ℕ) (r : Resolved) {v w : AbstractValue} {b : Bool} → 0 < n → slice_get s t ≡ Some r → Compares s (n - 1) r.kind v w b → ValueIn s n t v → ValueIn s n t w → IsTrue b ↔ Alike s t v w
of_type s n t r {v} {w} l e f x y =
    let m : n ≡ suc (n - 1) = omega arith in
    let at : Is s t r.tags r.kind = record { found = e } in
    onward (f (in_kind e (subst (λ q. ValueIn s q t v) m x)) (in_kind e (subst (λ q. ValueIn s q t w) m y))) (alike at) (back at)

-- ---- components

split_alike : {s : List Resolved} {c : Component} {cs : List Component} (o p : Option AbstractValue) (os ps : List (Option AbstractValue)) → AlikeComponents s (c ∷ cs) (row_of_options (o ∷ os)) (row_of_options (p ∷ ps)) → AlikeAt s c o p × AlikeComponents s cs (row_of_options os) (row_of_options ps)
split_alike None None os ps (both_absent a) = (tt, a)
split_alike None (Some w) os ps (first_default {d = d} q e a) = ((d, q, e), a)
split_alike (Some v) None os ps (second_default {d = d} q e a) = ((d, q, alike_sym e), a)
split_alike (Some v) (Some w) os ps (both_present e a) = (e, a)

join_alike : {s : List Resolved} {c : Component} {cs : List Component} (o p : Option AbstractValue) (os ps : List (Option AbstractValue)) → AlikeAt s c o p → AlikeComponents s cs (row_of_options os) (row_of_options ps) → AlikeComponents s (c ∷ cs) (row_of_options (o ∷ os)) (row_of_options (p ∷ ps))
join_alike None None os ps e a = both_absent a
join_alike None (Some w) os ps e a = first_default e.1 e.2 a
join_alike (Some v) None os ps e a = second_default e.1 (alike_sym e.2) a
join_alike (Some v) (Some w) os ps e a = both_present e a

-- what two rows of components come down to, from a place on
pub record FieldsLeft (s : List Resolved) (n : ℕ) (cs : List Component) (vs ws : List (Option AbstractValue)) (ds : List Component) (os ps : List (Option AbstractValue)) : Type 0 where
  pub first : AreComponents s n ds (row_of_options os)
  pub second : AreComponents s n ds (row_of_options ps)
  pub left : AlikeComponents s cs (row_of_options vs) (row_of_options ws) ↔ AlikeComponents s ds (row_of_options os) (row_of_options ps)

abbrev pub FieldsFrom : List Resolved → ℕ → List Component → List (Option AbstractValue) → List (Option AbstractValue) → ℕ → Type 0
FieldsFrom s n cs vs ws i =
    AreComponents s n cs (row_of_options vs) → AreComponents s n cs (row_of_options ws) → FieldsLeft s n cs vs ws (drop i cs) (drop i vs) (drop i ws)

pub record OpenedFields (s : List Resolved) (n : ℕ) (cs : List Component) (vs ws : List (Option AbstractValue)) (c : Component) (o p : Option AbstractValue) (ds : List Component) (os ps : List (Option AbstractValue)) : Type 0 where
  pub one : IsComponent s n c o
  pub other : IsComponent s n c p
  pub first : AreComponents s n ds (row_of_options os)
  pub second : AreComponents s n ds (row_of_options ps)
  pub left : AlikeComponents s cs (row_of_options vs) (row_of_options ws) ↔ (AlikeAt s c o p × AlikeComponents s ds (row_of_options os) (row_of_options ps))

fields_left_at : {s : List Resolved} {n : ℕ} {cs : List Component} {vs ws : List (Option AbstractValue)} {ds ds' : List Component} {os os' ps ps' : List (Option AbstractValue)} → ds ≡ ds' → os ≡ os' → ps ≡ ps' → FieldsLeft s n cs vs ws ds os ps → FieldsLeft s n cs vs ws ds' os' ps'
fields_left_at {s} {n} {cs} {vs} {ws} {ds} {ds'} {os} {os'} {ps} {ps'} e f g a =
    subst (λ q. FieldsLeft s n cs vs ws q os' ps') e (subst (λ q. FieldsLeft s n cs vs ws ds q ps') f (subst (λ q. FieldsLeft s n cs vs ws ds os q) g a))

pub opened_fields : {s : List Resolved} {n : ℕ} {cs : List Component} {vs ws : List (Option AbstractValue)} {ds : List Component} {os ps : List (Option AbstractValue)} {c : Component} {o p : Option AbstractValue} {ds' : List Component} {os' ps' : List (Option AbstractValue)} → ds ≡ c ∷ ds' → os ≡ o ∷ os' → ps ≡ p ∷ ps' → FieldsLeft s n cs vs ws ds os ps → OpenedFields s n cs vs ws c o p ds' os' ps'
opened_fields {o = o} {p = p} {os' = os'} {ps' = ps'} e f g a =
    let b = fields_left_at e f g a in
    let x = (first_and_rest o os').0 b.first in
    let y = (first_and_rest p ps').0 b.second in
    record { one = x.0; other = y.0; first = x.1; second = y.1; left = onward b.left (split_alike o p os' ps') (λ q. join_alike o p os' ps' q.0 q.1) }

pub fields_next : {s : List Resolved} {n : ℕ} {cs : List Component} {vs ws : List (Option AbstractValue)} {c : Component} {o p : Option AbstractValue} {ds : List Component} {os ps : List (Option AbstractValue)} → OpenedFields s n cs vs ws c o p ds os ps → AlikeAt s c o p → FieldsLeft s n cs vs ws ds os ps
fields_next a e = record { first = a.first; second = a.second; left = onward a.left (λ q. q.1) (λ q. (e, q)) }

pub fields_end : {s : List Resolved} {n : ℕ} {cs : List Component} {vs ws : List (Option AbstractValue)} {ds : List Component} {os ps : List (Option AbstractValue)} → ds ≡ [] → os ≡ [] → ps ≡ [] → FieldsLeft s n cs vs ws ds os ps → AlikeComponents s cs (row_of_options vs) (row_of_options ws)
fields_end e f g a = (fields_left_at e f g a).left.1 no_components

pub default_alike : (s : List Resolved) (n : ℕ) (c : Component) {v d : AbstractValue} {r : Bool} → c.presence ≡ default d → (ValueIn s n c.type d → ValueIn s n c.type v → IsTrue r ↔ Alike s c.type d v) → MayBeAbsent s n c.type c.presence → ValueIn s n c.type v → IsTrue r ↔ HasDefaultAlike s c v
default_alike s n c {v} {d} e f a b =
    onward (f (in_default (subst (MayBeAbsent s n c.type) e a)) b) (λ x. (d, e, x)) (λ p. subst (λ q. Alike s c.type q v) (same_default p.1 e) p.2)
  where
    same_default : {p : Presence} {d e : AbstractValue} → p ≡ default d → p ≡ default e → d ≡ e
    same_default a b = let h = sym a ∙ b in cc

-- ---- elements

pub record ElementsLeft (s : List Resolved) (n u : ℕ) (vs ws os ps : List AbstractValue) : Type 0 where
  pub first : AreElements s n u (row_of_list os)
  pub second : AreElements s n u (row_of_list ps)
  pub left : AlikeElements s u (row_of_list vs) (row_of_list ws) ↔ AlikeElements s u (row_of_list os) (row_of_list ps)

elements_left_at : {s : List Resolved} {n u : ℕ} {vs ws os os' ps ps' : List AbstractValue} → os ≡ os' → ps ≡ ps' → ElementsLeft s n u vs ws os ps → ElementsLeft s n u vs ws os' ps'
elements_left_at {s} {n} {u} {vs} {ws} {os} {os'} {ps} {ps'} f g a = subst (λ q. ElementsLeft s n u vs ws q ps') f (subst (λ q. ElementsLeft s n u vs ws os q) g a)

abbrev pub PairsFrom : List Resolved → ℕ → ℕ → List AbstractValue → List AbstractValue → ℕ → Type 0
PairsFrom s n u vs ws i = AreElements s n u (row_of_list vs) → AreElements s n u (row_of_list ws) → ElementsLeft s n u vs ws (drop i vs) (drop i ws)

pub record OpenedElements (s : List Resolved) (n u : ℕ) (vs ws : List AbstractValue) (v w : AbstractValue) (os ps : List AbstractValue) : Type 0 where
  pub one : ValueIn s n u v
  pub other : ValueIn s n u w
  pub first : AreElements s n u (row_of_list os)
  pub second : AreElements s n u (row_of_list ps)
  pub left : AlikeElements s u (row_of_list vs) (row_of_list ws) ↔ (Alike s u v w × AlikeElements s u (row_of_list os) (row_of_list ps))

pub opened_pairs : {s : List Resolved} {n u : ℕ} {vs ws os ps : List AbstractValue} {v w : AbstractValue} {os' ps' : List AbstractValue} → os ≡ v ∷ os' → ps ≡ w ∷ ps' → ElementsLeft s n u vs ws os ps → OpenedElements s n u vs ws v w os' ps'
opened_pairs f g a =
    let b = elements_left_at f g a in
    let x = split_elements b.first in
    let y = split_elements b.second in
    record { one = x.0; other = y.0; first = x.1; second = y.1; left = onward b.left un_element (λ q. alike_element q.0 q.1) }

pub pairs_next : {s : List Resolved} {n u : ℕ} {vs ws : List AbstractValue} {v w : AbstractValue} {os ps : List AbstractValue} → OpenedElements s n u vs ws v w os ps → Alike s u v w → ElementsLeft s n u vs ws os ps
pairs_next a e = record { first = a.first; second = a.second; left = onward a.left (λ q. q.1) (λ q. (e, q)) }

pub pairs_end : {s : List Resolved} {n u : ℕ} {vs ws os ps : List AbstractValue} → os ≡ [] → ps ≡ [] → ElementsLeft s n u vs ws os ps → AlikeElements s u (row_of_list vs) (row_of_list ws)
pairs_end f g a = (elements_left_at f g a).left.1 no_elements

pub as_many_pairs : {s : List Resolved} {u : ℕ} (vs ws : List AbstractValue) → AlikeElements s u (row_of_list vs) (row_of_list ws) → length vs ≡ length ws
as_many_pairs [] [] a = refl
as_many_pairs [] (w ∷ ws) a = elim a [ ]
as_many_pairs (v ∷ vs) [] a = elim a [ ]
as_many_pairs (v ∷ vs) (w ∷ ws) a = ap suc (as_many_pairs vs ws (un_element a).1)

-- ---- in any order

-- each member of the first row up to place i is alike to more members of the second than there are such before it
abbrev pub RarerTo : List Resolved → ℕ → ℕ → List AbstractValue → List AbstractValue → ℕ → Type 0
RarerTo s n u vs ws i = AreElements s n u (row_of_list vs) → AreElements s n u (row_of_list ws) → (j : ℕ) (x : AbstractValue) (os : List AbstractValue) → j < i → drop j vs ≡ x ∷ os → IsRarer s u x (row_of_list (take j vs)) (row_of_list ws)

-- the members of a row from a place on are of the type
elements_from : {s : List Resolved} {n u : ℕ} (j : ℕ) (vs : List AbstractValue) → AreElements s n u (row_of_list vs) → AreElements s n u (row_of_list (drop j vs))
elements_from zero vs a = a
elements_from (suc j) [] a = a
elements_from (suc j) (v ∷ vs) a = elements_from j vs (split_elements a).1

-- the members of a row before a place are of the type
pub elements_to : {s : List Resolved} {n u : ℕ} (j : ℕ) (vs : List AbstractValue) → AreElements s n u (row_of_list vs) → AreElements s n u (row_of_list (take j vs))
elements_to zero vs a = no_element
elements_to (suc j) [] a = no_element
elements_to (suc j) (v ∷ vs) a = let b = split_elements a in one_element b.0 (elements_to j vs b.1)

-- the member at a place is of the type
pub element_at : {s : List Resolved} {n u : ℕ} {x : AbstractValue} {os : List AbstractValue} (j : ℕ) (vs : List AbstractValue) → drop j vs ≡ x ∷ os → AreElements s n u (row_of_list vs) → ValueIn s n u x
element_at {s} {n} {u} j vs e a = (split_elements (subst (λ q. AreElements s n u (row_of_list q)) e (elements_from j vs a))).0

pub rarer_next : {s : List Resolved} {n u i : ℕ} {vs : List AbstractValue} (ws : List AbstractValue) {v : AbstractValue} {os : List AbstractValue} → RarerTo s n u vs ws i → drop i vs ≡ v ∷ os → (AreElements s n u (row_of_list vs) → AreElements s n u (row_of_list ws) → IsRarer s u v (row_of_list (take i vs)) (row_of_list ws)) → RarerTo s n u vs ws (i + 1)
rarer_next {s} {n} {u} {i} {vs} ws {v} f e r a b j x ps l d = elim (less_or_equal j i (omega arith)) [
  | inl m ↦ f a b j x ps m d
  | inr m ↦
      let q : v ≡ x = first_alike (sym e ∙ ap (λ k. drop k vs) (sym m) ∙ d) in
      subst (λ k. IsRarer s u x (row_of_list (take k vs)) (row_of_list ws)) (sym m) (subst (λ k. IsRarer s u k (row_of_list (take i vs)) (row_of_list ws)) q (r a b))
]
  where
    less_or_equal : (j i : ℕ) → j < suc i → (j < i) ⊎ (j ≡ i)
    less_or_equal zero zero l = inr refl
    less_or_equal zero (suc i) l = inl (omega arith)
    less_or_equal (suc j) zero l = absurd (omega arith)
    less_or_equal (suc j) (suc i) l = elim (less_or_equal j i (omega arith)) [ inl m ↦ inl (omega arith) | inr m ↦ inr (ap suc m) ]

    first_alike : {v x : AbstractValue} {os ps : List AbstractValue} → v ∷ os ≡ x ∷ ps → v ≡ x
    first_alike e = cc

pub rarer_end : {s : List Resolved} {n u i : ℕ} {vs : List AbstractValue} (ws : List AbstractValue) → length vs ≤ i → length vs ≡ length ws → AreElements s n u (row_of_list vs) → AreElements s n u (row_of_list ws) → RarerTo s n u vs ws i → AlikeInAnyOrder s u (row_of_list vs) (row_of_list ws)
rarer_end {vs = vs} ws l e a b f = all_paired vs a b (member_count vs ∙ e ∙ sym (member_count ws)) (λ j x os m d. f a b j x os (omega arith) d)

pub not_rarer : {s : List Resolved} {n u : ℕ} (i : ℕ) (vs ws : List AbstractValue) {v : AbstractValue} {os : List AbstractValue} → AreElements s n u (row_of_list vs) → drop i vs ≡ v ∷ os → (IsRarer s u v (row_of_list (take i vs)) (row_of_list ws) → ⊥) → AlikeInAnyOrder s u (row_of_list vs) (row_of_list ws) → ⊥
not_rarer i vs ws a e f b = f (rarer_before i vs e (element_at i vs e a) a b)

pub as_many_in_any : {s : List Resolved} {u : ℕ} (vs ws : List AbstractValue) → AlikeInAnyOrder s u (row_of_list vs) (row_of_list ws) → length vs ≡ length ws
as_many_in_any vs ws a = sym (member_count vs) ∙ as_many_members a ∙ member_count ws

pub fewer_counted : (s : List Resolved) (u : ℕ) (x : AbstractValue) (vs ws : Row) (m n : ℕ) → Count s u x vs m → Count s u x ws n → IsTrue (ltb m n) ↔ IsRarer s u x vs ws
fewer_counted s u x vs ws m n a b = (
  λ t. (m, n, ltb-true m n t, a, b),
  λ p. lt-ltb m n (let c = one_count a p.3 in let d = one_count b p.4 in let l = p.2 in omega arith),
)

-- ---- counting

pub record Counting (s : List Resolved) (n u : ℕ) (x : AbstractValue) (vs os : List AbstractValue) (found : ℕ) : Type 0 where
  pub rest : AreElements s n u (row_of_list os)
  pub whole : (m : ℕ) → Count s u x (row_of_list os) m → Count s u x (row_of_list vs) (found + m)

abbrev pub CountFrom : List Resolved → ℕ → ℕ → AbstractValue → List AbstractValue → ℕ → ℕ → Type 0
CountFrom s n u x vs found i = ValueIn s n u x → AreElements s n u (row_of_list vs) → Counting s n u x vs (drop i vs) found

counting_at : {s : List Resolved} {n u : ℕ} {x : AbstractValue} {vs os os' : List AbstractValue} {found : ℕ} → os ≡ os' → Counting s n u x vs os found → Counting s n u x vs os' found
counting_at {s} {n} {u} {x} {vs} {found = found} e a = subst (λ q. Counting s n u x vs q found) e a

pub one_of : {s : List Resolved} {n u : ℕ} {x v : AbstractValue} {vs os os' : List AbstractValue} {found : ℕ} → os ≡ v ∷ os' → Counting s n u x vs os found → ValueIn s n u v
one_of e a = (split_elements (counting_at e a).rest).0

pub count_one : {s : List Resolved} {n u : ℕ} {x v : AbstractValue} {vs os os' : List AbstractValue} {found : ℕ} → os ≡ v ∷ os' → Counting s n u x vs os found → Alike s u x v → Counting s n u x vs os' (found + 1)
count_one {s} {n} {u} {x} {v} {vs} {os} {os'} {found} e a h =
    let b = counting_at e a in
    record {
      rest = (split_elements b.rest).1;
      whole = λ m c. subst (λ q. Count s u x (row_of_list vs) q) (let f : found + suc m ≡ (found + 1) + m = omega arith in f) (b.whole (suc m) (counted h c));
    }

pub count_none : {s : List Resolved} {n u : ℕ} {x v : AbstractValue} {vs os os' : List AbstractValue} {found : ℕ} → os ≡ v ∷ os' → Counting s n u x vs os found → (Alike s u x v → ⊥) → Counting s n u x vs os' found
count_none e a h =
    let b = counting_at e a in
    record { rest = (split_elements b.rest).1; whole = λ m c. b.whole m (passed h c) }

pub count_end : {s : List Resolved} {n u : ℕ} {x : AbstractValue} {vs os : List AbstractValue} {found : ℕ} → os ≡ [] → Counting s n u x vs os found → Count s u x (row_of_list vs) found
count_end {s} {n} {u} {x} {vs} {found = found} e a = subst (λ q. Count s u x (row_of_list vs) q) (let f : found + 0 ≡ found = omega arith in f) ((counting_at e a).whole 0 no_more)
