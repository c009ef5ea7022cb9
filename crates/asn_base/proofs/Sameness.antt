-- Being alike is an equivalence on the values of a type.
use Rattle.std.proofs.Common.{arith, ◌≡◌, ℕ, zero, suc, ◌+◌, Bool, false, List, ◌∷◌, ◌++◌, replicate, sym, ap, subst, ◌∙◌, append_assoc}
use Rattle.asn_base.specs.Abstract.{AbstractValue, Row, present}
use Rattle.asn_base.specs.Types.{Kind, Component, Resolved}
use Rattle.asn_base.specs.Typed.{IsPrimitive, fits_boolean, fits_integer, fits_enumerated, fits_bits, fits_named_bits, fits_octets, fits_null, fits_oid, fits_relative_oid, fits_utf8, fits_restricted, ValueIn, value_in, ValueOf, of_leaf, of_sequence, of_set, of_sequence_of, of_set_of, of_choice, AreComponents, no_component, component_absent, component_present, AreElements, no_element, one_element}
use Rattle.asn_base.specs.Same.{IsLeaf, Inserted, here, there, Alike, alike, AlikeBy, equal, zeros, alike_sequence, alike_set, alike_sequence_of, alike_set_of, alike_choice, AlikeComponents, no_components, both_absent, both_present, first_default, second_default, AlikeElements, no_elements, alike_element, AlikeInAnyOrder, none_left, pair, Same}
use Rattle.asn_base.specs.proving.OneKind.{same_kind}
use Rattle.asn_base.specs.proving.OneDefault.{same_default, same_alternative}

pub fits_leaf : {k : Kind} {v : AbstractValue} → IsPrimitive k v → IsLeaf k
fits_leaf fits_boolean = tt
fits_leaf (fits_integer l a) = tt
fits_leaf (fits_enumerated l a) = tt
fits_leaf (fits_bits a) = tt
fits_leaf fits_named_bits = tt
fits_leaf (fits_octets b a) = tt
fits_leaf fits_null = tt
fits_leaf (fits_oid a) = tt
fits_leaf (fits_relative_oid a) = tt
fits_leaf (fits_utf8 a z) = tt
fits_leaf (fits_restricted a z) = tt

mutual
  pub alike_self : {s : List Resolved} {n t : ℕ} {v : AbstractValue} → ValueIn s n t v → Alike s t v v
  alike_self (value_in i a) = alike i (by_self a)

  by_self : {s : List Resolved} {n : ℕ} {k : Kind} {v : AbstractValue} → ValueOf s n k v → AlikeBy s k v v
  by_self (of_leaf f) = equal (fits_leaf f)
  by_self (of_sequence a g) = alike_sequence (components_self a)
  by_self (of_set a g) = alike_set (components_self a)
  by_self (of_sequence_of a z) = alike_sequence_of (elements_self a)
  by_self (of_set_of a z) = alike_set_of (any_order_self a)
  by_self (of_choice g a) = alike_choice g (alike_self a)

  components_self : {s : List Resolved} {n : ℕ} {cs : List Component} {vs : Row} → AreComponents s n cs vs → AlikeComponents s cs vs vs
  components_self no_component = no_components
  components_self (component_absent m a) = both_absent (components_self a)
  components_self (component_present v a) = both_present (alike_self v) (components_self a)

  elements_self : {s : List Resolved} {n u : ℕ} {vs : Row} → AreElements s n u vs → AlikeElements s u vs vs
  elements_self no_element = no_elements
  elements_self (one_element v a) = alike_element (alike_self v) (elements_self a)

  pub any_order_self : {s : List Resolved} {n u : ℕ} {vs : Row} → AreElements s n u vs → AlikeInAnyOrder s u vs vs
  any_order_self no_element = none_left
  any_order_self (one_element v a) = pair (alike_self v) (any_order_self a) here

-- one more pair, at any place of the first row
pair_at : {s : List Resolved} {u : ℕ} {v w : AbstractValue} {vs ws xs : Row} → Alike s u w v → AlikeInAnyOrder s u ws vs → Inserted w ws xs → AlikeInAnyOrder s u xs (present v vs)
pair_at e a here = pair e a here
pair_at e (pair f b i) (there j) = pair f (pair_at e b j) (there i)

mutual
  pub alike_sym : {s : List Resolved} {t : ℕ} {v w : AbstractValue} → Alike s t v w → Alike s t w v
  alike_sym (alike i a) = alike i (by_sym a)

  by_sym : {s : List Resolved} {k : Kind} {v w : AbstractValue} → AlikeBy s k v w → AlikeBy s k w v
  by_sym (equal l) = equal l
  by_sym (zeros m n e) = zeros n m (sym e)
  by_sym (alike_sequence a) = alike_sequence (components_sym a)
  by_sym (alike_set a) = alike_set (components_sym a)
  by_sym (alike_sequence_of a) = alike_sequence_of (elements_sym a)
  by_sym (alike_set_of a) = alike_set_of (any_order_sym a)
  by_sym (alike_choice g a) = alike_choice g (alike_sym a)

  components_sym : {s : List Resolved} {cs : List Component} {vs ws : Row} → AlikeComponents s cs vs ws → AlikeComponents s cs ws vs
  components_sym no_components = no_components
  components_sym (both_absent a) = both_absent (components_sym a)
  components_sym (both_present e a) = both_present (alike_sym e) (components_sym a)
  components_sym (first_default p e a) = second_default p (alike_sym e) (components_sym a)
  components_sym (second_default p e a) = first_default p (alike_sym e) (components_sym a)

  elements_sym : {s : List Resolved} {u : ℕ} {vs ws : Row} → AlikeElements s u vs ws → AlikeElements s u ws vs
  elements_sym no_elements = no_elements
  elements_sym (alike_element e a) = alike_element (alike_sym e) (elements_sym a)

  pub any_order_sym : {s : List Resolved} {u : ℕ} {vs ws : Row} → AlikeInAnyOrder s u vs ws → AlikeInAnyOrder s u ws vs
  any_order_sym none_left = none_left
  any_order_sym (pair e a i) = pair_at (alike_sym e) (any_order_sym a) i

pub by_at : {s : List Resolved} {k k' : Kind} {v w : AbstractValue} → k' ≡ k → AlikeBy s k' v w → AlikeBy s k v w
by_at {s} {v = v} {w = w} e a = subst (λ q. AlikeBy s q v w) e a

more_zeros : (a b : List Bool) (m n k : ℕ) → a ++ replicate m false ≡ b ++ replicate n false → a ++ replicate (m + k) false ≡ b ++ replicate (n + k) false
more_zeros a b m n k e = longer a m ∙ ap (λ q. q ++ replicate k false) e ∙ sym (longer b n)
  where
    added : (m : ℕ) → replicate (m + k) false ≡ replicate m false ++ replicate k false
    added zero = ap (λ q. replicate q false) (let h : 0 + k ≡ k = omega arith in h)
    added (suc m) = ap (λ q. replicate q false) (let h : suc m + k ≡ suc (m + k) = omega arith in h) ∙ ap (λ q. false ∷ q) (added m)

    longer : (c : List Bool) (m : ℕ) → c ++ replicate (m + k) false ≡ (c ++ replicate m false) ++ replicate k false
    longer c m = ap (λ q. c ++ q) (added m) ∙ sym (append_assoc c (replicate m false) (replicate k false))

zeros_trans : (a b c : List Bool) (m n p q : ℕ) → a ++ replicate m false ≡ b ++ replicate n false → b ++ replicate p false ≡ c ++ replicate q false → a ++ replicate (m + p) false ≡ c ++ replicate (q + n) false
zeros_trans a b c m n p q e f = more_zeros a b m n p e ∙ ap (λ r. b ++ replicate r false) (let h : n + p ≡ p + n = omega arith in h) ∙ more_zeros b c p q n f

-- what is paired with a member of the middle row, and the rest
record Partner (s : List Resolved) (u : ℕ) (w : AbstractValue) (ws zs : Row) : Type 0 where
  z : AbstractValue
  left : Row
  with_it : Alike s u w z
  others : AlikeInAnyOrder s u ws left
  at : Inserted z left zs

-- x and y may be put in either first
exchange : {x y : AbstractValue} {ls bs cs : Row} → Inserted x ls bs → Inserted y bs cs → (ds : Row) × Inserted y ls ds × Inserted x ds cs
exchange {x} {y} {ls} i here = (present y ls, here, there i)
exchange here (there j) = (_, j, here)
exchange (there {y = b} i) (there j) = let r = exchange i j in (present b r.0, there r.1, there r.2)

partner : {s : List Resolved} {u : ℕ} {w : AbstractValue} {ws xs zs : Row} → Inserted w ws xs → AlikeInAnyOrder s u xs zs → Partner s u w ws zs
partner here (pair {w = z} {ws = left} e a i) = record { z = z; left = left; with_it = e; others = a; at = i }
partner (there i) (pair e a j) =
    let p = partner i a in
    let x = exchange p.at j in
    record { z = p.z; left = x.0; with_it = p.with_it; others = pair e p.others x.1; at = x.2 }

alike_at : {s : List Resolved} {t u : ℕ} {v w : AbstractValue} → u ≡ t → Alike s u v w → Alike s t v w
alike_at {s} {v = v} {w = w} e a = subst (λ q. Alike s q v w) e a

from_here : {s : List Resolved} {t : ℕ} {v w x : AbstractValue} → w ≡ v → Alike s t w x → Alike s t v x
from_here {s} {t} {x = x} e a = subst (λ q. Alike s t q x) e a

mutual
  pub alike_trans : {s : List Resolved} {t : ℕ} {v w x : AbstractValue} → Alike s t v w → Alike s t w x → Alike s t v x
  alike_trans (alike i a) (alike j b) = alike i (by_trans a (by_at (same_kind i j) b))

  by_trans : {s : List Resolved} {k : Kind} {v w x : AbstractValue} → AlikeBy s k v w → AlikeBy s k w x → AlikeBy s k v x
  by_trans (equal l) b = b
  by_trans (zeros m n e) (equal l) = zeros m n e
  by_trans (zeros {a = a} {b = b} m n e) (zeros {b = c} p q f) = zeros (m + p) (q + n) (zeros_trans a b c m n p q e f)
  by_trans (alike_sequence a) (equal l) = alike_sequence a
  by_trans (alike_sequence a) (alike_sequence b) = alike_sequence (components_trans a b)
  by_trans (alike_set a) (equal l) = alike_set a
  by_trans (alike_set a) (alike_set b) = alike_set (components_trans a b)
  by_trans (alike_sequence_of a) (equal l) = alike_sequence_of a
  by_trans (alike_sequence_of a) (alike_sequence_of b) = alike_sequence_of (elements_trans a b)
  by_trans (alike_set_of a) (equal l) = alike_set_of a
  by_trans (alike_set_of a) (alike_set_of b) = alike_set_of (any_order_trans a b)
  by_trans (alike_choice g a) (equal l) = alike_choice g a
  by_trans (alike_choice g a) (alike_choice h b) = alike_choice g (alike_trans a (alike_at (same_alternative g h) b))

  components_trans : {s : List Resolved} {cs : List Component} {vs ws xs : Row} → AlikeComponents s cs vs ws → AlikeComponents s cs ws xs → AlikeComponents s cs vs xs
  components_trans no_components b = b
  components_trans (both_absent a) (both_absent b) = both_absent (components_trans a b)
  components_trans (both_absent a) (first_default p e b) = first_default p e (components_trans a b)
  components_trans (both_present d a) (both_present e b) = both_present (alike_trans d e) (components_trans a b)
  components_trans (both_present d a) (second_default p e b) = second_default p (alike_trans d e) (components_trans a b)
  components_trans (first_default p d a) (both_present e b) = first_default p (alike_trans d e) (components_trans a b)
  components_trans (first_default p d a) (second_default q e b) = both_absent (components_trans a b)
  components_trans (second_default p d a) (both_absent b) = second_default p d (components_trans a b)
  components_trans (second_default p d a) (first_default q e b) = both_present (alike_trans d (from_here (same_default q p) e)) (components_trans a b)

  elements_trans : {s : List Resolved} {u : ℕ} {vs ws xs : Row} → AlikeElements s u vs ws → AlikeElements s u ws xs → AlikeElements s u vs xs
  elements_trans no_elements b = b
  elements_trans (alike_element d a) (alike_element e b) = alike_element (alike_trans d e) (elements_trans a b)

  pub any_order_trans : {s : List Resolved} {u : ℕ} {vs ws xs : Row} → AlikeInAnyOrder s u vs ws → AlikeInAnyOrder s u ws xs → AlikeInAnyOrder s u vs xs
  any_order_trans none_left b = b
  any_order_trans (pair d a i) b = let p = partner i b in pair (alike_trans d p.with_it) (any_order_trans a p.others) p.at

pub same_self : (s : List Resolved) (t : ℕ) (v : AbstractValue) → ValueIn s 64 t v → Same s t v v
same_self s t v a = record { first = a; second = a; are_alike = alike_self a }

pub same_sym : (s : List Resolved) (t : ℕ) (v w : AbstractValue) → Same s t v w → Same s t w v
same_sym s t v w a = record { first = a.second; second = a.first; are_alike = alike_sym a.are_alike }

pub same_trans : (s : List Resolved) (t : ℕ) (v w x : AbstractValue) → Same s t v w → Same s t w x → Same s t v x
same_trans s t v w x a b = record { first = a.first; second = b.second; are_alike = alike_trans a.are_alike b.are_alike }
