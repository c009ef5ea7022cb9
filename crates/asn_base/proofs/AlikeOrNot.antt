-- Whether two values of a type are alike can be decided.
use Rattle.std.proofs.Common.{arith, ◌≡◌, ℕ, zero, suc, ◌⊎◌, inl, inr, Bool, true, false, List, [], ◌∷◌, ◌++◌, length, replicate, refl, sym, ap, subst, ◌∙◌}
use Rattle.std.specs.Prelude.{ℤ, pos, negsuc, Some, slice_get}
use Rattle.asn_base.specs.declared.tag.Tag.{Tag}
use Rattle.asn_base.specs.Abstract.{AbstractValue, boolean, integer, enumerated, bits, octets, text, oid, relative_oid, fields, list, alternative, Row, end, absent, present}
use Rattle.asn_base.specs.Types.{Constraint, Kind, NamedBit, a_named_bit_string, a_sequence, a_set, a_sequence_of, a_set_of, a_choice, Alternative, Presence, default, Component, Resolved, Is}
use Rattle.asn_base.specs.Typed.{IsPrimitive, fits_boolean, fits_integer, fits_enumerated, fits_bits, fits_named_bits, fits_octets, fits_null, fits_oid, fits_relative_oid, fits_utf8, fits_restricted, ValueIn, value_in, ValueOf, of_leaf, of_sequence, of_set, of_sequence_of, of_set_of, of_choice, MayBeAbsent, where_optional, where_default, where_addition, AreComponents, no_component, component_absent, component_present, AreElements, no_element, one_element}
use Rattle.asn_base.specs.Same.{IsLeaf, Inserted, here, there, Alike, alike, AlikeBy, equal, zeros, alike_sequence, alike_set, alike_sequence_of, alike_set_of, alike_choice, AlikeComponents, no_components, both_absent, both_present, first_default, second_default, AlikeElements, no_elements, alike_element, AlikeInAnyOrder, none_left, pair}
use Rattle.asn_base.proofs.Sameness.{by_at, alike_sym, alike_trans, alike_self, any_order_self, any_order_sym, any_order_trans}
use Rattle.asn_base.specs.proving.OneKind.{same_kind}
use Rattle.asn_base.proofs.Levels.{take_out}
use Rattle.asn_base.specs.proving.OneDefault.{value_of_at, value_at, same_alternative, default_in}

abbrev pub Decided : Type 0 → Type 0
Decided P = P ⊎ (P → ⊥)

mapped : {P Q : Type 0} → (P → Q) → (Q → P) → Decided P → Decided Q
mapped f g (inl p) = inl (f p)
mapped f g (inr n) = inr (λ q. n (g q))

both : {P Q R : Type 0} → (P → Q → R) → (R → P) → (R → Q) → Decided P → Decided Q → Decided R
both f g h (inl p) (inl q) = inl (f p q)
both f g h (inl p) (inr n) = inr (λ r. n (h r))
both f g h (inr n) d = inr (λ r. n (g r))

pub numbers : (m n : ℕ) → Decided (m ≡ n)
numbers zero zero = inl refl
numbers zero (suc n) = inr (λ e. omega arith)
numbers (suc m) zero = inr (λ e. omega arith)
numbers (suc m) (suc n) = mapped (λ e. ap suc e) (λ e. omega arith) (numbers m n)

truths : (a b : Bool) → Decided (a ≡ b)
truths true true = inl refl
truths true false = inr (λ e. cc)
truths false true = inr (λ e. cc)
truths false false = inl refl

wholes : (a b : ℤ) → Decided (a ≡ b)
wholes (pos m) (pos n) = mapped (λ e. ap pos e) (λ e. cc) (numbers m n)
wholes (pos m) (negsuc n) = inr (λ e. cc)
wholes (negsuc m) (pos n) = inr (λ e. cc)
wholes (negsuc m) (negsuc n) = mapped (λ e. ap negsuc e) (λ e. cc) (numbers m n)

pub lists : {A : Type 0} → ((a b : A) → Decided (a ≡ b)) → (xs ys : List A) → Decided (xs ≡ ys)
lists d [] [] = inl refl
lists d [] (y ∷ ys) = inr (λ e. cc)
lists d (x ∷ xs) [] = inr (λ e. cc)
lists d (x ∷ xs) (y ∷ ys) = both (λ e f. cc) (λ e. cc) (λ e. cc) (d x y) (lists d xs ys)

-- bits without trailing zeros
abbrev ButForZeros : List Bool → List Bool → Type 0
ButForZeros a b = (m : ℕ) × (n : ℕ) × (a ++ replicate m false ≡ b ++ replicate n false)

abbrev tail_bits : List Bool → List Bool
tail_bits [] = []
tail_bits (b ∷ bs) = bs

abbrev head_bit : List Bool → Bool
head_bit [] = false
head_bit (b ∷ bs) = b

first_zero : (b : List Bool) → ButForZeros [] (false ∷ b) → ButForZeros [] b
first_zero b (zero, n, e) = absurd (let l = ap length e in omega arith)
first_zero b (suc m, n, e) = (m, n, ap tail_bits e)

second_zero : (a : List Bool) → ButForZeros (false ∷ a) [] → ButForZeros a []
second_zero a (m, zero, e) = absurd (let l = ap length e in omega arith)
second_zero a (m, suc n, e) = (m, n, ap tail_bits e)

no_first : (b : List Bool) → ButForZeros [] (true ∷ b) → ⊥
no_first b (zero, n, e) = let l = ap length e in omega arith
no_first b (suc m, n, e) = let h : false ≡ true = ap head_bit e in cc

no_second : (a : List Bool) → ButForZeros (true ∷ a) [] → ⊥
no_second a (m, zero, e) = let l = ap length e in omega arith
no_second a (m, suc n, e) = let h : true ≡ false = ap head_bit e in cc

cons_bits : (x y : Bool) (a b : List Bool) → x ≡ y → ButForZeros a b → ButForZeros (x ∷ a) (y ∷ b)
cons_bits x y a b e (m, n, f) = (m, n, ap (λ q. q ∷ (a ++ replicate m false)) e ∙ ap (λ q. y ∷ q) f)

but_for_zeros : (a b : List Bool) → Decided (ButForZeros a b)
but_for_zeros [] [] = inl (0, 0, refl)
but_for_zeros [] (false ∷ b) = mapped (λ z. (suc z.0, z.1, ap (λ q. false ∷ q) z.2)) (first_zero b) (but_for_zeros [] b)
but_for_zeros [] (true ∷ b) = inr (no_first b)
but_for_zeros (false ∷ a) [] = mapped (λ z. (z.0, suc z.1, ap (λ q. false ∷ q) z.2)) (second_zero a) (but_for_zeros a [])
but_for_zeros (true ∷ a) [] = inr (no_second a)
but_for_zeros (x ∷ a) (y ∷ b) = both (cons_bits x y a b) (λ z. ap head_bit z.2) (λ z. (z.0, z.1, ap tail_bits z.2)) (truths x y) (but_for_zeros a b)

-- ---- values that hold no others

abbrev IsPlain : Kind → Type 0
IsPlain (a_named_bit_string ns) = ⊥
IsPlain k = IsLeaf k

plain_leaf : (k : Kind) → IsPlain k → IsLeaf k
plain_leaf (a_named_bit_string ns) p = tt
plain_leaf k p = p

plain_equal : {s : List Resolved} {k : Kind} {v w : AbstractValue} → IsPlain k → AlikeBy s k v w → v ≡ w
plain_equal p (equal l) = refl
plain_equal p (zeros m n e) = absurd p
plain_equal p (alike_sequence a) = absurd p
plain_equal p (alike_set a) = absurd p
plain_equal p (alike_sequence_of a) = absurd p
plain_equal p (alike_set_of a) = absurd p
plain_equal p (alike_choice g a) = absurd p

plain_alike : {s : List Resolved} {k : Kind} {v w : AbstractValue} → IsPlain k → Decided (v ≡ w) → Decided (AlikeBy s k v w)
plain_alike {s} {k} {v} {w} p d = mapped (λ e. subst (AlikeBy s k v) e (equal (plain_leaf k p))) (plain_equal p) d

abbrev truth_in : AbstractValue → Bool
truth_in (boolean b) = b
truth_in v = false

abbrev number_in : AbstractValue → ℤ
number_in (integer z) = z
number_in (enumerated z) = z
number_in v = pos 0

abbrev bits_in : AbstractValue → List Bool
bits_in (bits b) = b
bits_in v = []

abbrev octets_in : AbstractValue → List ℕ
octets_in (octets o) = o
octets_in (text o) = o
octets_in (oid o) = o
octets_in (relative_oid o) = o
octets_in v = []

zeros_of : {s : List Resolved} {ns : List NamedBit} {v w : AbstractValue} → AlikeBy s (a_named_bit_string ns) v w → ButForZeros (bits_in v) (bits_in w)
zeros_of (equal l) = (0, 0, refl)
zeros_of (zeros m n e) = (m, n, e)

leaf_decided : {s : List Resolved} {k : Kind} {v w : AbstractValue} → IsPrimitive k v → IsPrimitive k w → Decided (AlikeBy s k v w)
leaf_decided (fits_boolean {b = a}) (fits_boolean {b = b}) = plain_alike tt (mapped (λ e. ap boolean e) (λ e. ap truth_in e) (truths a b))
leaf_decided (fits_integer {z = a} l m) (fits_integer {z = b} l' m') = plain_alike tt (mapped (λ e. ap integer e) (λ e. ap number_in e) (wholes a b))
leaf_decided (fits_enumerated {z = a} l m) (fits_enumerated {z = b} l' m') = plain_alike tt (mapped (λ e. ap enumerated e) (λ e. ap number_in e) (wholes a b))
leaf_decided (fits_bits {s = a} l) (fits_bits {s = b} l') = plain_alike tt (mapped (λ e. ap bits e) (λ e. ap bits_in e) (lists truths a b))
leaf_decided (fits_named_bits {s = a}) (fits_named_bits {s = b}) = mapped (λ z. zeros z.0 z.1 z.2) zeros_of (but_for_zeros a b)
leaf_decided (fits_octets {o = a} l m) (fits_octets {o = b} l' m') = plain_alike tt (mapped (λ e. ap octets e) (λ e. ap octets_in e) (lists numbers a b))
leaf_decided fits_null fits_null = inl (equal tt)
leaf_decided (fits_oid {ns = a} l) (fits_oid {ns = b} l') = plain_alike tt (mapped (λ e. ap oid e) (λ e. ap octets_in e) (lists numbers a b))
leaf_decided (fits_relative_oid {ns = a} l) (fits_relative_oid {ns = b} l') = plain_alike tt (mapped (λ e. ap relative_oid e) (λ e. ap octets_in e) (lists numbers a b))
leaf_decided (fits_utf8 {o = a} l m) (fits_utf8 {o = b} l' m') = plain_alike tt (mapped (λ e. ap text e) (λ e. ap octets_in e) (lists numbers a b))
leaf_decided (fits_restricted {o = a} l m) (fits_restricted {o = b} l' m') = plain_alike tt (mapped (λ e. ap text e) (λ e. ap octets_in e) (lists numbers a b))

-- ---- values that hold others

pub back : {s : List Resolved} {t : ℕ} {tags : List Tag} {k : Kind} {v w : AbstractValue} → Is s t tags k → Alike s t v w → AlikeBy s k v w
back i (alike j a) = by_at (same_kind i j) a

pub un_sequence : {s : List Resolved} {e : Bool} {cs : List Component} {vs ws : Row} → AlikeBy s (a_sequence e cs) (fields vs) (fields ws) → AlikeComponents s cs vs ws
un_sequence (equal l) = absurd l
un_sequence (alike_sequence a) = a

pub un_set : {s : List Resolved} {e : Bool} {cs : List Component} {vs ws : Row} → AlikeBy s (a_set e cs) (fields vs) (fields ws) → AlikeComponents s cs vs ws
un_set (equal l) = absurd l
un_set (alike_set a) = a

pub un_sequence_of : {s : List Resolved} {u : ℕ} {c : Constraint} {vs ws : Row} → AlikeBy s (a_sequence_of c u) (list vs) (list ws) → AlikeElements s u vs ws
un_sequence_of (equal l) = absurd l
un_sequence_of (alike_sequence_of a) = a

pub un_set_of : {s : List Resolved} {u : ℕ} {c : Constraint} {vs ws : Row} → AlikeBy s (a_set_of c u) (list vs) (list ws) → AlikeInAnyOrder s u vs ws
un_set_of (equal l) = absurd l
un_set_of (alike_set_of a) = a

-- the same alternative, and alike
pub un_choice : {s : List Resolved} {i j : ℕ} {e : Bool} {root more : List Alternative} {b : Alternative} {v w : AbstractValue} → slice_get (root ++ more) i ≡ Some b → AlikeBy s (a_choice root e more) (alternative i v) (alternative j w) → (i ≡ j) × Alike s b.type v w
un_choice g (equal l) = absurd l
un_choice {s} {v = v} {w = w} g (alike_choice h a) = (refl, subst (λ t. Alike s t v w) (same_alternative g h) a)

un_absent : {s : List Resolved} {c : Component} {cs : List Component} {vs ws : Row} → AlikeComponents s (c ∷ cs) (absent vs) (absent ws) → AlikeComponents s cs vs ws
un_absent (both_absent a) = a

un_present : {s : List Resolved} {c : Component} {cs : List Component} {v w : AbstractValue} {vs ws : Row} → AlikeComponents s (c ∷ cs) (present v vs) (present w ws) → Alike s c.type v w × AlikeComponents s cs vs ws
un_present (both_present e a) = (e, a)

pub un_element : {s : List Resolved} {u : ℕ} {v w : AbstractValue} {vs ws : Row} → AlikeElements s u (present v vs) (present w ws) → Alike s u v w × AlikeElements s u vs ws
un_element (alike_element e a) = (e, a)

-- the default of a component and whether P holds of it, or none
abbrev OfDefault : Presence → (AbstractValue → Type 0) → Type 0
OfDefault p P = ((d : AbstractValue) × (p ≡ default d) × P d) ⊎ ((d : AbstractValue) → p ≡ default d → ⊥)

default_for : {s : List Resolved} {n t : ℕ} {p : Presence} → MayBeAbsent s n t p → OfDefault p (ValueIn s n t)
default_for where_optional = inr (λ d e. cc)
default_for (where_default {d = d} v) = inl (d, refl, v)
default_for where_addition = inr (λ d e. cc)

no_first_default : {s : List Resolved} {c : Component} {cs : List Component} {w : AbstractValue} {vs ws : Row} → ((d : AbstractValue) → c.presence ≡ default d → ⊥) → AlikeComponents s (c ∷ cs) (absent vs) (present w ws) → ⊥
no_first_default n (first_default {d = d} p e a) = n d p

no_second_default : {s : List Resolved} {c : Component} {cs : List Component} {v : AbstractValue} {vs ws : Row} → ((d : AbstractValue) → c.presence ≡ default d → ⊥) → AlikeComponents s (c ∷ cs) (present v vs) (absent ws) → ⊥
no_second_default n (second_default {d = d} p e a) = n d p

un_first : {s : List Resolved} {c : Component} {cs : List Component} {d w : AbstractValue} {vs ws : Row} → c.presence ≡ default d → AlikeComponents s (c ∷ cs) (absent vs) (present w ws) → Alike s c.type d w × AlikeComponents s cs vs ws
un_first {s} {c} {w = w} q (first_default p e a) = (subst (λ x. Alike s c.type x w) (ap default_in (sym p ∙ q)) e, a)

un_second : {s : List Resolved} {c : Component} {cs : List Component} {d v : AbstractValue} {vs ws : Row} → c.presence ≡ default d → AlikeComponents s (c ∷ cs) (present v vs) (absent ws) → Alike s c.type v d × AlikeComponents s cs vs ws
un_second {s} {c} {v = v} q (second_default p e a) = (subst (λ x. Alike s c.type v x) (ap default_in (sym p ∙ q)) e, a)

absent_present : {s : List Resolved} {c : Component} {cs : List Component} {w : AbstractValue} {vs ws : Row} → OfDefault c.presence (λ d. Decided (Alike s c.type d w)) → Decided (AlikeComponents s cs vs ws) → Decided (AlikeComponents s (c ∷ cs) (absent vs) (present w ws))
absent_present (inl (d, q, h)) r = both (λ e a. first_default q e a) (λ x. (un_first q x).0) (λ x. (un_first q x).1) h r
absent_present (inr n) r = inr (no_first_default n)

present_absent : {s : List Resolved} {c : Component} {cs : List Component} {n : ℕ} {v : AbstractValue} {vs ws : Row} → OfDefault c.presence (ValueIn s n c.type) → ((d : AbstractValue) → ValueIn s n c.type d → Decided (Alike s c.type v d)) → Decided (AlikeComponents s cs vs ws) → Decided (AlikeComponents s (c ∷ cs) (present v vs) (absent ws))
present_absent (inl (d, q, x)) h r = both (λ e a. second_default q e a) (λ x. (un_second q x).0) (λ x. (un_second q x).1) (h d x) r
present_absent (inr n) h r = inr (no_second_default n)

-- an element of the row that v is alike, and the others
record Found (s : List Resolved) (n u : ℕ) (v : AbstractValue) (ws : Row) : Type 0 where
  w : AbstractValue
  left : Row
  with_it : Alike s u v w
  at : Inserted w left ws
  rest : AreElements s n u left

abbrev NotFound : List Resolved → ℕ → AbstractValue → Row → Type 0
NotFound s u v ws = (w : AbstractValue) (left : Row) → Inserted w left ws → Alike s u v w → ⊥

none_in : {w : AbstractValue} {left ws : Row} → Inserted w left ws → ws ≡ end → ⊥
none_in here e = cc
none_in (there i) e = cc

find : {s : List Resolved} {n u : ℕ} {v : AbstractValue} {ws : Row} → ((w : AbstractValue) → ValueIn s n u w → Decided (Alike s u v w)) → AreElements s n u ws → Found s n u v ws ⊎ NotFound s u v ws
find d no_element = inr (λ w left i e. none_in i refl)
find {s} {n} {u} {v} d (one_element {v = w} {vs = ws} x a) = by (d w x) (find d a)
  where
    by : Decided (Alike s u v w) → Found s n u v ws ⊎ NotFound s u v ws → Found s n u v (present w ws) ⊎ NotFound s u v (present w ws)
    by (inl e) f = inl (record { w = w; left = ws; with_it = e; at = here; rest = a })
    by (inr unlike) (inl f) = inl (record { w = f.w; left = present w f.left; with_it = f.with_it; at = there f.at; rest = one_element x f.rest })
    by (inr unlike) (inr none) = inr (λ y left i e. neither i e)
      where
        neither : {y : AbstractValue} {left : Row} → Inserted y left (present w ws) → Alike s u v y → ⊥
        neither here e = unlike e
        neither (there i) e = none _ _ i e

-- what is left if one or another of two that are alike is taken out
swapped : {s : List Resolved} {n u : ℕ} {v w : AbstractValue} {ls ms ws : Row} → Alike s u v w → Inserted v ls ws → Inserted w ms ws → AreElements s n u ws → AlikeInAnyOrder s u ms ls
swapped e here here (one_element x a) = any_order_self a
swapped e here (there j) (one_element x a) = pair e (any_order_self (take_out j a).rest) j
swapped e (there i) here (one_element x a) = any_order_sym (pair (alike_sym e) (any_order_self (take_out i a).rest) i)
swapped e (there i) (there j) (one_element x a) = pair (alike_self x) (swapped e i j a) here

others : {s : List Resolved} {n u : ℕ} {v w : AbstractValue} {vs ls ws : Row} → Alike s u v w → Inserted w ls ws → AreElements s n u ws → AlikeInAnyOrder s u (present v vs) ws → AlikeInAnyOrder s u vs ls
others e i b (pair f a j) = any_order_trans a (swapped (alike_trans (alike_sym e) f) i j b)

none_alike : {s : List Resolved} {u : ℕ} {v : AbstractValue} {vs ws : Row} → NotFound s u v ws → AlikeInAnyOrder s u (present v vs) ws → ⊥
none_alike n (pair e a i) = n _ _ i e

one_and_others : {s : List Resolved} {n u : ℕ} {v : AbstractValue} {vs ws : Row} → AreElements s n u ws → Found s n u v ws ⊎ NotFound s u v ws → ((ls : Row) → AreElements s n u ls → Decided (AlikeInAnyOrder s u vs ls)) → Decided (AlikeInAnyOrder s u (present v vs) ws)
one_and_others b (inl f) h = mapped (λ a. pair f.with_it a f.at) (others f.with_it f.at b) (h f.left f.rest)
one_and_others b (inr n) h = inr (none_alike n)

-- of two alternatives
chosen : {s : List Resolved} {i j m : ℕ} {e : Bool} {root more : List Alternative} {b b' : Alternative} {v w : AbstractValue} → slice_get (root ++ more) i ≡ Some b → slice_get (root ++ more) j ≡ Some b' → Decided (i ≡ j) → ((x : AbstractValue) → ValueIn s m b.type x → Decided (Alike s b.type v x)) → ValueIn s m b'.type w → Decided (AlikeBy s (a_choice root e more) (alternative i v) (alternative j w))
chosen {s} {i} {e = e} {root = root} {more = more} {v = v} {w = w} g h (inl same) d y =
    let h' = ap (slice_get (root ++ more)) same ∙ h in
    subst (λ q. Decided (AlikeBy s (a_choice root e more) (alternative i v) (alternative q w))) same
    (mapped (λ a. alike_choice g a) (λ a. (un_choice g a).1) (d w (value_at (same_alternative g h') y)))
chosen g h (inr other) d y = inr (λ a. other (un_choice g a).0)

mutual
  pub decided : {s : List Resolved} {m n t : ℕ} {v w : AbstractValue} → ValueIn s n t v → ValueIn s m t w → Decided (Alike s t v w)
  decided (value_in i a) (value_in j b) = mapped (λ e. alike i e) (back i) (by_decided a (value_of_at (same_kind i j) b))

  by_decided : {s : List Resolved} {m n : ℕ} {k : Kind} {v w : AbstractValue} → ValueOf s n k v → ValueOf s m k w → Decided (AlikeBy s k v w)
  by_decided (of_leaf f) (of_leaf g) = leaf_decided f g
  by_decided (of_leaf f) (of_sequence y h) = elim f [ ]
  by_decided (of_leaf f) (of_set y h) = elim f [ ]
  by_decided (of_leaf f) (of_sequence_of y h) = elim f [ ]
  by_decided (of_leaf f) (of_set_of y h) = elim f [ ]
  by_decided (of_leaf f) (of_choice g y) = elim f [ ]
  by_decided (of_sequence x g) (of_leaf f) = elim f [ ]
  by_decided (of_set x g) (of_leaf f) = elim f [ ]
  by_decided (of_sequence_of x g) (of_leaf f) = elim f [ ]
  by_decided (of_set_of x g) (of_leaf f) = elim f [ ]
  by_decided (of_choice g x) (of_leaf f) = elim f [ ]
  by_decided (of_sequence x g) (of_sequence y h) = mapped alike_sequence un_sequence (components_decided x y)
  by_decided (of_set x g) (of_set y h) = mapped alike_set un_set (components_decided x y)
  by_decided (of_sequence_of x g) (of_sequence_of y h) = mapped alike_sequence_of un_sequence_of (elements_decided x y)
  by_decided (of_set_of x g) (of_set_of y h) = mapped alike_set_of un_set_of (any_decided x y)
  by_decided (of_choice {i = i} {root = root} {more = more} {a = b} g x) (of_choice {i = j} {a = b'} h y) =
      chosen g h (numbers i j) (λ w z. decided x z) y

  components_decided : {s : List Resolved} {m n : ℕ} {cs : List Component} {vs ws : Row} → AreComponents s n cs vs → AreComponents s m cs ws → Decided (AlikeComponents s cs vs ws)
  components_decided no_component no_component = inl no_components
  components_decided (component_absent b x) (component_absent c y) = mapped both_absent un_absent (components_decided x y)
  components_decided (component_absent b x) (component_present w y) = absent_present (absent_decided b w) (components_decided x y)
  components_decided (component_present v x) (component_absent b y) = present_absent (default_for b) (λ d z. decided v z) (components_decided x y)
  components_decided (component_present v x) (component_present w y) = both both_present (λ q. (un_present q).0) (λ q. (un_present q).1) (decided v w) (components_decided x y)

  absent_decided : {s : List Resolved} {m n t : ℕ} {p : Presence} {w : AbstractValue} → MayBeAbsent s n t p → ValueIn s m t w → OfDefault p (λ d. Decided (Alike s t d w))
  absent_decided where_optional w = inr (λ d e. cc)
  absent_decided (where_default {d = d} v) w = inl (d, refl, decided v w)
  absent_decided where_addition w = inr (λ d e. cc)

  elements_decided : {s : List Resolved} {m n u : ℕ} {vs ws : Row} → AreElements s n u vs → AreElements s m u ws → Decided (AlikeElements s u vs ws)
  elements_decided no_element no_element = inl no_elements
  elements_decided no_element (one_element w y) = inr (λ a. elim a [ ])
  elements_decided (one_element v x) no_element = inr (λ a. elim a [ ])
  elements_decided (one_element v x) (one_element w y) = both alike_element (λ q. (un_element q).0) (λ q. (un_element q).1) (decided v w) (elements_decided x y)

  any_decided : {s : List Resolved} {m n u : ℕ} {vs ws : Row} → AreElements s n u vs → AreElements s m u ws → Decided (AlikeInAnyOrder s u vs ws)
  any_decided no_element no_element = inl none_left
  any_decided no_element (one_element w y) = inr (λ a. elim a [ ])
  any_decided (one_element v x) y = one_and_others y (find (λ w z. decided v z) y) (λ ls z. any_decided x z)
