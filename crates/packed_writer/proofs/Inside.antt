-- What values of a kind are.
use Rattle.std.proofs.Common.{◌≡◌, ℕ, zero, suc, ◌+◌, ◌-◌, ◌≤◌, inl, inr, ⊎_elim, Bool, false, List, [], ◌∷◌, ◌++◌, length, map, drop, refl, sym, ap, subst, ◌∙◌, arith, append_assoc}
use Rattle.std.specs.Prelude.{Some, None, slice_get, pos, IfSome}
use Rattle.std.proofs.lemmas.List.{length-map}
use Rattle.std.specs.List.{AllByRecursion}
use Rattle.asn_base.specs.declared.value.Value.{Value}
use Rattle.asn_base.specs.Abstract.{AbstractValue, list, alternative, Row, abstract, row_of_list}
use Rattle.asn_base.specs.Same.{IsLeaf}
use Rattle.asn_base.specs.Types.{a_null, Alternative, Constraint, Kind, Resolved, an_integer, a_sequence_of, a_set_of, a_choice}
use Rattle.asn_base.specs.Typed.{IsPrimitive, fits_integer, ValueIn, value_in, ValueOf, of_leaf, of_sequence, of_set, of_sequence_of, of_set_of, of_choice, AreElements, one_element, IsAllowedSize, IsInSome, members}
use Rattle.asn_base.specs.Schemas.{AreBounds, IsSize, IsSound}
use Rattle.packed_encodings.specs.Computed.{kind_at, bits_of, sized_bits, sorted}
use Rattle.packed_encodings.specs.Lengths.{Bits, IsInRootBounds, Items}
use Rattle.packed_encodings.specs.Computed.{IsEncoding}
use Rattle.packed_encodings.specs.proving.Bounding.{InRoot, least_in, greatest_in, least_size}
use Rattle.packed_counts.specs.Counts.{HasLeast}
use Rattle.packed_code.specs.declared.step.PackedStep.{PackedStep}
use Rattle.packed_code.specs.Meaning.{items_of, listed_bits}
use Rattle.packed_code.specs.Routines.{root_calls, more_calls}
use Rattle.asn_base.specs.declared.schema.TypeId.{TypeId}
use Rattle.packed_writer.specs.declared.typed.Typed.{Typed}
use Rattle.packed_writer.specs.declared.typed.Elements.{Elements}
use Rattle.packed_writer.specs.proving.Values.{IsIn, AreIn, IsCalled, IsNumber, IsListOf, IsPick, all_items}
use Rattle.packed_writer.proofs.Components.{kind_is}

-- ---- levels

pub some_levels : (s : List Resolved) (n t : ℕ) (v : AbstractValue) → ValueIn s n t v → 1 ≤ n
some_levels s n t v (value_in i o) = omega arith

pub is_in : (s : List Resolved) (x : Typed) (n t : ℕ) (w : Value) → x.levels ≡ n → n ≤ 64 → x.id.index ≡ t → x.value.now ≡ w → ValueIn s n t (abstract w) → IsIn s x
is_in s x n t w el few et ew v = record {
  few = subst (λ q. q ≤ 64) (sym el) few;
  is = subst (λ q. ValueIn s q x.id.index (abstract x.value.now)) (sym el) (subst (λ q. ValueIn s n q (abstract x.value.now)) (sym et) (subst (λ q. ValueIn s n t (abstract q)) (sym ew) v));
}

-- ---- kinds

of_leaf_kind : {s : List Resolved} {m : ℕ} {j : Kind} {v : AbstractValue} → ValueOf s m j v → IsLeaf j → IsPrimitive j v
of_leaf_kind (of_leaf f) l = f
of_leaf_kind q l = absurd l

pub leaf_fits : (s : List Resolved) (n t : ℕ) (v : AbstractValue) (k : Kind) → ValueIn s n t v → kind_at s t ≡ k → IsLeaf (kind_at s t) → IsPrimitive k v
leaf_fits s n t v k (value_in {k = j} i o) e l = subst (λ q. IsPrimitive q v) (sym (kind_is i) ∙ e) (of_leaf_kind o (subst IsLeaf (kind_is i) l))

a_number : {c : Constraint} {v : AbstractValue} → IsPrimitive (an_integer c) v → IsNumber v
a_number (fits_integer {z = z} l h) = (z, refl)

pub is_number : (s : List Resolved) (n t : ℕ) (v : AbstractValue) (c : Constraint) → ValueIn s n t v → kind_at s t ≡ an_integer c → IsNumber v
is_number s n t v c a e = a_number (leaf_fits s n t v (an_integer c) a e (subst IsLeaf (sym e) tt))

-- the elements of a list
pub record IsListed (s : List Resolved) (n u : ℕ) (c : Constraint) (v : AbstractValue) : Type 0 where
  pub row : Row
  pub is : v ≡ list row
  pub elements : AreElements s (n - 1) u row
  pub allowed : IsAllowedSize c (members row)

less : (m : ℕ) → m ≡ suc m - 1
less m = omega arith

pub sequence_of : (s : List Resolved) (n t u : ℕ) (c : Constraint) (v : AbstractValue) → ValueIn s n t v → kind_at s t ≡ a_sequence_of c u → IsListed s n u c v
sequence_of s n t u c v (value_in {n = m} {k = k} i o) e = by (subst (λ q. ValueOf s m q v) (sym (kind_is i) ∙ e) o)
  where
    by : {v : AbstractValue} → ValueOf s m (a_sequence_of c u) v → IsListed s (suc m) u c v
    by (of_sequence_of {vs = row} a z) = record { row = row; is = refl; elements = subst (λ q. AreElements s q u row) (less m) a; allowed = z }
    by (of_leaf f) = elim f [ ]

pub set_of : (s : List Resolved) (n t u : ℕ) (c : Constraint) (v : AbstractValue) → ValueIn s n t v → kind_at s t ≡ a_set_of c u → IsListed s n u c v
set_of s n t u c v (value_in {n = m} {k = k} i o) e = by (subst (λ q. ValueOf s m q v) (sym (kind_is i) ∙ e) o)
  where
    by : {v : AbstractValue} → ValueOf s m (a_set_of c u) v → IsListed s (suc m) u c v
    by (of_set_of {vs = row} a z) = record { row = row; is = refl; elements = subst (λ q. AreElements s q u row) (less m) a; allowed = z }
    by (of_leaf f) = elim f [ ]

-- the alternative of a CHOICE
pub record IsChosen (s : List Resolved) (n : ℕ) (as' : List Alternative) (v : AbstractValue) : Type 0 where
  pub index : ℕ
  pub value : AbstractValue
  pub alternative' : Alternative
  pub is : v ≡ alternative index value
  pub there : slice_get as' index ≡ Some alternative'
  pub within : ValueIn s (n - 1) alternative'.type value

pub choice : (s : List Resolved) (n t : ℕ) (root more : List Alternative) (x : Bool) (v : AbstractValue) → ValueIn s n t v → kind_at s t ≡ a_choice root x more → IsChosen s n (root ++ more) v
choice s n t root more x v (value_in {n = m} {k = k} i o) e = by (subst (λ q. ValueOf s m q v) (sym (kind_is i) ∙ e) o)
  where
    by : {v : AbstractValue} → ValueOf s m (a_choice root x more) v → IsChosen s (suc m) (root ++ more) v
    by (of_choice {i = i} {a = a} {v = w} g h) = record { index = i; value = w; alternative' = a; is = refl; there = g; within = subst (λ q. ValueIn s q a.type w) (less m) h }
    by (of_leaf f) = elim f [ ]

-- ---- elements

list_same : {v w : Row} → list v ≡ list w → v ≡ w
list_same e = cc

pub same_row : (v : AbstractValue) (r q : Row) → v ≡ list r → v ≡ list q → r ≡ q
same_row v r q e f = list_same (sym e ∙ f)

pub all_in : {s : List Resolved} {n u : ℕ} (vs : List AbstractValue) → AreElements s n u (row_of_list vs) → AllByRecursion (ValueIn s n u) vs
all_in [] a = tt
all_in (v ∷ vs) (one_element h a) = (h, all_in vs a)

pub as_many : (vs : List AbstractValue) → members (row_of_list vs) ≡ length vs
as_many [] = refl
as_many (v ∷ vs) = ap suc (as_many vs)

pub items_are : (s : List Resolved) (u : ℕ) (vs : List AbstractValue) → items_of s u (list (row_of_list vs)) ≡ all_items s u vs
items_are s u [] = refl
items_are s u (v ∷ vs) = ap (λ q. bits_of s v u ∷ q) (items_are s u vs)

-- ---- sizes

pub in_bounds : (c : Constraint) (n : ℕ) → AreBounds IsSize c → IsAllowedSize c n → c.visible.extensible ≡ false → IsInRootBounds c.visible (pos n)
in_bounds c n b a e =
    let q : InRoot IsSize b.root (pos n) = (tt, subst (λ r. IfSome r (IsInSome (pos n))) (b.not_extensible e) a) in
    (least_in (InRoot IsSize b.root) c.visible.least (pos n) b.least q, greatest_in (InRoot IsSize b.root) c.visible.greatest (pos n) b.greatest q)

pub has_least : (c : Constraint) → AreBounds IsSize c → HasLeast c.visible
has_least c b = least_size (InRoot IsSize b.root) c.visible.least (λ z q. q.0) b.least

-- ---- what a schema has

pub kind_found : (s r : List Resolved) (t : ℕ) (x : Resolved) → r ≡ s → slice_get r t ≡ Some x → kind_at s t ≡ x.kind
kind_found s r t x e h = ap (λ q. kind_at q t) (sym e) ∙ ap (λ o. elim o [ None ↦ a_null | Some r ↦ r.kind ]) h

pub of_sequence_of' : (s : List Resolved) (t u : ℕ) (k : Kind) (c : Constraint) → kind_at s t ≡ k → IsSound s k → k ≡ a_sequence_of c u → IsListOf s t c
of_sequence_of' s t u k c e ok f = record { element = u; kind = inl (e ∙ f); bounds = (subst (IsSound s) f ok).bounds }

pub of_set_of' : (s : List Resolved) (t u : ℕ) (k : Kind) (c : Constraint) → kind_at s t ≡ k → IsSound s k → k ≡ a_set_of c u → IsListOf s t c
of_set_of' s t u k c e ok f = record { element = u; kind = inr (e ∙ f); bounds = (subst (IsSound s) f ok).bounds }

size_same : {c k : Constraint} {e u : ℕ} → a_sequence_of c e ≡ a_sequence_of k u → c ≡ k
size_same e = cc

set_size_same : {c k : Constraint} {e u : ℕ} → a_set_of c e ≡ a_set_of k u → c ≡ k
set_size_same e = cc

not_set : {c k : Constraint} {e u : ℕ} → a_set_of c e ≡ a_sequence_of k u → ⊥
not_set e = cc

not_sequence : {c k : Constraint} {e u : ℕ} → a_sequence_of c e ≡ a_set_of k u → ⊥
not_sequence e = cc

pub sequence_size : (s r : List Resolved) (t u : ℕ) (c k : Constraint) → r ≡ s → IsListOf r t c → kind_at s t ≡ a_sequence_of k u → c ≡ k
sequence_size s r t u c k e l f =
    let g : kind_at r t ≡ a_sequence_of k u = ap (λ q. kind_at q t) e ∙ f in
    ⊎_elim (λ h. size_same (sym h ∙ g)) (λ h. absurd (not_set (sym h ∙ g))) l.kind

pub set_size : (s r : List Resolved) (t u : ℕ) (c k : Constraint) → r ≡ s → IsListOf r t c → kind_at s t ≡ a_set_of k u → c ≡ k
set_size s r t u c k e l f =
    let g : kind_at r t ≡ a_set_of k u = ap (λ q. kind_at q t) e ∙ f in
    ⊎_elim (λ h. absurd (not_sequence (sym h ∙ g))) (λ h. set_size_same (sym h ∙ g)) l.kind

-- what lists have
pub record Elements' (s : List Resolved) (n u : ℕ) (c : Constraint) (vs : List Value) : Type 0 where
  pub all : AllByRecursion (ValueIn s (n - 1) u) (map abstract vs)
  pub allowed : IsAllowedSize c (length vs)

listed_elements : {s : List Resolved} {n u : ℕ} {k c : Constraint} {v : AbstractValue} (vs : List Value) → c ≡ k → IsListed s n u k v → v ≡ list (row_of_list (map abstract vs)) → Elements' s n u c vs
listed_elements {s} {n} {u} {k} {c} {v} vs e l f =
    let r : l.row ≡ row_of_list (map abstract vs) = same_row v l.row (row_of_list (map abstract vs)) l.is f in
    record {
      all = all_in (map abstract vs) (subst (AreElements s (n - 1) u) r l.elements);
      allowed = subst (λ q. IsAllowedSize q (length vs)) (sym e) (subst (IsAllowedSize k) (ap members r ∙ as_many (map abstract vs) ∙ length-map vs abstract) l.allowed);
    }

pub in_sequence : (s r : List Resolved) (n t u : ℕ) (c k : Constraint) (v : AbstractValue) (vs : List Value) → r ≡ s → IsListOf r t c → kind_at s t ≡ a_sequence_of k u → ValueIn s n t v → v ≡ list (row_of_list (map abstract vs)) → Elements' s n u c vs
in_sequence s r n t u c k v vs e l f a g = listed_elements vs (sequence_size s r t u c k e l f) (sequence_of s n t u k v a f) g

pub in_set : (s r : List Resolved) (n t u : ℕ) (c k : Constraint) (v : AbstractValue) (vs : List Value) → r ≡ s → IsListOf r t c → kind_at s t ≡ a_set_of k u → ValueIn s n t v → v ≡ list (row_of_list (map abstract vs)) → Elements' s n u c vs
in_set s r n t u c k v vs e l f a g = listed_elements vs (set_size s r t u c k e l f) (set_of s n t u k v a f) g

pub are_in : (s : List Resolved) (x : Elements) (n t : ℕ) (vs : List Value) → x.levels ≡ n → n ≤ 64 → x.id.index ≡ t → x.values.now ≡ vs → AllByRecursion (ValueIn s n t) (map abstract vs) → AreIn s x
are_in s x n t vs el few et ev a = record {
  few = subst (λ q. q ≤ 64) (sym el) few;
  are = subst (λ q. AllByRecursion (ValueIn s q x.id.index) (map abstract x.values.now)) (sym el) (subst (λ q. AllByRecursion (ValueIn s n q) (map abstract x.values.now)) (sym et) (subst (λ q. AllByRecursion (ValueIn s n t) (map abstract q)) (sym ev) a));
}

-- ---- what is listed

pub sequence_listed : (s r : List Resolved) (t u : ℕ) (c k : Constraint) (v : AbstractValue) (vs : List Value) → r ≡ s → IsListOf r t c → kind_at s t ≡ a_sequence_of k u → v ≡ list (row_of_list (map abstract vs)) → listed_bits (kind_at s t) (items_of s u v) ≡ sized_bits c.visible (all_items s u (map abstract vs))
sequence_listed s r t u c k v vs e l f g =
    ap (λ q. listed_bits q (items_of s u v)) f ∙ ap (λ q. sized_bits q.visible (items_of s u v)) (sym (sequence_size s r t u c k e l f))
    ∙ ap (λ q. sized_bits c.visible (items_of s u q)) g ∙ ap (sized_bits c.visible) (items_are s u (map abstract vs))

pub set_listed : (s r : List Resolved) (t u : ℕ) (c k : Constraint) (v : AbstractValue) (vs : List Value) → r ≡ s → IsListOf r t c → kind_at s t ≡ a_set_of k u → v ≡ list (row_of_list (map abstract vs)) → listed_bits (kind_at s t) (sorted (items_of s u v)) ≡ sized_bits c.visible (sorted (all_items s u (map abstract vs)))
set_listed s r t u c k v vs e l f g =
    ap (λ q. listed_bits q (sorted (items_of s u v))) f ∙ ap (λ q. sized_bits q.visible (sorted (items_of s u v))) (sym (set_size s r t u c k e l f))
    ∙ ap (λ q. sized_bits c.visible (sorted (items_of s u q))) g ∙ ap (λ q. sized_bits c.visible (sorted q)) (items_are s u (map abstract vs))

pub all_encodings : (s : List Resolved) (u n : ℕ) (ws : List AbstractValue) → ((w : AbstractValue) → ValueIn s n u w → IsEncoding s u (bits_of s w u)) → AllByRecursion (ValueIn s n u) ws → AllByRecursion (IsEncoding s u) (all_items s u ws)
all_encodings s u n [] h a = tt
all_encodings s u n (w ∷ ws) h a = (h w a.0, all_encodings s u n ws h a.1)

pub item_found : (s : List Resolved) (u : ℕ) (ws : List AbstractValue) (i : ℕ) (w : AbstractValue) → slice_get ws i ≡ Some w → drop i (all_items s u ws) ≡ bits_of s w u ∷ drop (i + 1) (all_items s u ws)
item_found s u [] i w e = absurd (cc)
item_found s u (x ∷ ws) zero w e = ap (λ q. bits_of s q u ∷ all_items s u ws) (one_same e)
  where
    one_same : {x y : AbstractValue} → Some x ≡ Some y → x ≡ y
    one_same e = cc
item_found s u (x ∷ ws) (suc i) w e = item_found s u ws i w e ∙ ap (λ q. bits_of s w u ∷ drop q (all_items s u (x ∷ ws))) (let c : suc (i + 1) ≡ suc i + 1 = omega arith in c)

pub one_in : (s : List Resolved) (n u : ℕ) (ws : List AbstractValue) (i : ℕ) (w : AbstractValue) → slice_get ws i ≡ Some w → AllByRecursion (ValueIn s n u) ws → ValueIn s n u w
one_in s n u [] i w e a = absurd (cc)
one_in s n u (x ∷ ws) zero w e a = subst (ValueIn s n u) (one_same e) a.0
  where
    one_same : {x y : AbstractValue} → Some x ≡ Some y → x ≡ y
    one_same e = cc
one_in s n u (x ∷ ws) (suc i) w e a = one_in s n u ws i w e a.1

pub collect_step : (xs : Items) (i : ℕ) (x : Bits) (b d whole : Items) → drop i xs ≡ x ∷ drop (i + 1) xs → b ++ drop i xs ≡ whole → d ≡ b ++ x ∷ [] → d ++ drop (i + 1) xs ≡ whole
collect_step xs i x b d whole e v n = ap (λ q. q ++ drop (i + 1) xs) n ∙ append_assoc b (x ∷ []) (drop (i + 1) xs) ∙ ap (λ q. b ++ q) (sym e) ∙ v

-- ---- parts

pub part_bits : (s : List Resolved) (x : Typed) (w : Value) (t : TypeId) → x.value.now ≡ w → x.id ≡ t → bits_of s (abstract x.value.now) x.id.index ≡ bits_of s (abstract w) t.index
part_bits s x w t e f = ap (λ q. bits_of s (abstract q) x.id.index) e ∙ ap (λ q. bits_of s (abstract w) q.index) f

-- ---- alternatives

some_same : {A : Type 0} {x y : A} → Some x ≡ Some y → x ≡ y
some_same e = cc

more_called : (s : List Resolved) (n j i : ℕ) (w : AbstractValue) (as' : List Alternative) (a : Alternative) → slice_get as' i ≡ Some a → ValueIn s n a.type w → IsCalled s n w (slice_get (more_calls j as') i)
more_called s n j i w [] a e v = absurd (cc)
more_called s n j zero w (b ∷ as') a e v = subst (λ q. ValueIn s n q.type w) (sym (some_same e)) v
more_called s n j (suc i) w (b ∷ as') a e v = more_called s n (suc j) i w as' a e v

root_called : (s : List Resolved) (n : ℕ) (x : Bool) (w : AbstractValue) (all as' more : List Alternative) (i : ℕ) (a : Alternative) → slice_get (as' ++ more) i ≡ Some a → ValueIn s n a.type w → IsCalled s n w (slice_get (root_calls s x all as' ++ more_calls 0 more) i)
root_called s n x w all [] more i a e v = more_called s n 0 i w more a e v
root_called s n x w all (b ∷ as') more zero a e v = subst (λ q. ValueIn s n q.type w) (sym (some_same e)) v
root_called s n x w all (b ∷ as') more (suc i) a e v = root_called s n x w all as' more i a e v

alternative_same : {i j : ℕ} {v w : AbstractValue} → alternative i v ≡ alternative j w → (i ≡ j) × (v ≡ w)
alternative_same e = (cc, cc)

pub is_called : (s : List Resolved) (n t : ℕ) (v w : AbstractValue) (i : ℕ) (ss : List PackedStep) → ValueIn s n t v → IsPick s t ss → v ≡ alternative i w → IsCalled s (n - 1) w (slice_get ss i)
is_called s n t v w i ss a p e =
    let c = choice s n t p.root p.more p.extensible v a p.kind in
    let f = alternative_same (sym c.is ∙ e) in
    subst (λ q. IsCalled s (n - 1) w (slice_get q i)) (sym p.calls)
    (root_called s (n - 1) p.extensible w p.root p.root p.more i c.alternative' (ap (slice_get (p.root ++ p.more)) (sym f.0) ∙ c.there) (subst (ValueIn s (n - 1) c.alternative'.type) f.1 c.within))

pub is_choice : (s : List Resolved) (n t : ℕ) (v : AbstractValue) (ss : List PackedStep) → ValueIn s n t v → IsPick s t ss → (i : ℕ) × (w : AbstractValue) × (v ≡ alternative i w)
is_choice s n t v ss a p = let c = choice s n t p.root p.more p.extensible v a p.kind in (c.index, c.value, c.is)
