-- Names of bits, and the bits that they set.
use Rattle.std.proofs.Common.{◌≡◌, ℕ, zero, suc, ◌≤◌, ◌<◌, ◌+◌, Bool, true, false, List, [], ◌∷◌, ◌++◌, take, map, cond, Some, None, Option, refl, sym, ap, ◌∙◌, subst, arith}
use Rattle.std.specs.Prelude.{slice_get, bytes_eq}
use Rattle.std.proofs.lemmas.Option.{same_Some}
use Rattle.trees.specs.declared.value.ValueSyntax.{ValueSyntax}
use Rattle.trees.specs.Values.{Name, Tree, Trees, trees, reference, tree_and, tree_of}
use Rattle.names.specs.Names.{under}
use Rattle.names.specs.proving.Distinct.{occurs_map}
use Rattle.value_builders.specs.Made as made
use Rattle.value_notations.specs.Leaves.{AreBitNames, AreSetBits}
use Rattle.value_notations.specs.Leaves as leaves
use Rattle.value_notations.specs.Wrong.{IsUnknownBit}
use Rattle.value_notations.specs.Wrong as wrong
use Rattle.value_notations.specs.Written.{IsFirstAmong}
use Rattle.value_notations.specs.proving.Forms.{name_in}
use Rattle.value_notations.specs.proving.Bits.{AreWithin}
use Rattle.value_notations.proofs.Inversions.{name_is}
use Rattle.value_notations.proofs.Lists.{taken_more}
use Rattle.value_notations.specs.proving.Places.{some_none}

-- ---- names

pub names_more : (bs : List (Name × ℕ)) (xs : List Tree) (ps : List ℕ) (x : Name) (q : ℕ)
    → AreBitNames bs (trees xs) ps
    → under x bs ≡ Some q
    → AreBitNames bs (trees (xs ++ reference None x ∷ [])) (ps ++ q ∷ [])
names_more bs [] ps x q leaves.no_bit e = leaves.bit_and e leaves.no_bit
names_more bs (n ∷ xs) ps x q (leaves.bit_and {places = qs} f a) e = leaves.bit_and f (names_more bs xs qs x q a e)

pub record AreNoNames (bs : List (Name × ℕ)) (ts : Trees) : Type 0 where
  pub none : (ps : List ℕ) → AreBitNames bs ts ps → ⊥
  pub unknown : (x : Name) → IsUnknownBit bs x ts → ⊥

no_names_here : {bs : List (Name × ℕ)} {n : Tree} {ts : Trees} {ps : List ℕ}
    → name_in n ≡ None
    → AreBitNames bs (tree_and n ts) ps
    → ⊥
no_names_here e (leaves.bit_and f a) = absurd cc

not_unknown_here : {bs : List (Name × ℕ)} {n : Tree} {ts : Trees} {x : Name}
    → name_in n ≡ None
    → IsUnknownBit bs x (tree_and n ts)
    → ⊥
not_unknown_here e (wrong.first_bit f) = absurd cc
not_unknown_here e (wrong.later_bit f u) = absurd cc

names_after : {bs : List (Name × ℕ)} {n : Tree} {ts : Trees} {ps : List ℕ}
    → AreNoNames bs ts
    → AreBitNames bs (tree_and n ts) ps
    → ⊥
names_after r (leaves.bit_and {places = qs} f a) = r.none qs a

unknown_after : {bs : List (Name × ℕ)} {y x : Name} {q : ℕ} {ts : Trees}
    → AreNoNames bs ts
    → under y bs ≡ Some q
    → IsUnknownBit bs x (tree_and (reference None y) ts)
    → ⊥
unknown_after {bs} {y} {q = q} r e (wrong.first_bit f) = some_none (under y bs) q e f
unknown_after {x = x} r e (wrong.later_bit f u) = r.unknown x u

pub names_stop : (bs : List (Name × ℕ)) (xs : List Tree) (ps : List ℕ) (i : ℕ) (n : Tree)
    → AreBitNames bs (trees (take i xs)) ps
    → slice_get xs i ≡ Some n
    → name_in n ≡ None
    → AreNoNames bs (trees xs)
names_stop bs [] ps i n a s e = absurd cc
names_stop bs (y ∷ xs) ps zero n a s e =
    let f : name_in y ≡ None = ap name_in (same_Some y n s) ∙ e in
    record { none = λ qs b. no_names_here f b; unknown = λ x u. not_unknown_here f u }
names_stop bs (y ∷ xs) ps (suc i) n (leaves.bit_and {places = qs} f a) s e =
    let r = names_stop bs xs qs i n a s e in
    record { none = λ rs b. names_after r b; unknown = λ x u. unknown_after r f u }

pub names_unknown : (bs : List (Name × ℕ)) (xs : List Tree) (ps : List ℕ) (i : ℕ) (x : Name)
    → AreBitNames bs (trees (take i xs)) ps
    → slice_get xs i ≡ Some (reference None x)
    → under x bs ≡ None
    → IsUnknownBit bs x (trees xs)
names_unknown bs [] ps i x a s e = absurd cc
names_unknown bs (y ∷ xs) ps zero x a s e =
    subst (λ (z : Tree). IsUnknownBit bs x (tree_and z (trees xs))) (sym (same_Some y (reference None x) s)) (wrong.first_bit e)
names_unknown bs (y ∷ xs) ps (suc i) x (leaves.bit_and {places = qs} f a) s e =
    wrong.later_bit f (names_unknown bs xs qs i x a s e)

-- ---- places within the limit

first_or : (P : ℕ → Type 0) (b : Bool) (v q : ℕ) (o : Option ℕ)
    → P v
    → (o ≡ Some q → P q)
    → cond b (Some v) o ≡ Some q
    → P q
first_or P true v q o h go e = subst P (same_Some v q e) h
first_or P false v q o h go e = go e

under_within : (bs : List (Name × ℕ)) (x : Name) (q : ℕ)
    → ((i : ℕ) (b : Name × ℕ) → slice_get bs i ≡ Some b → b.1 ≤ 65535)
    → under x bs ≡ Some q
    → q ≤ 65535
under_within [] x q h e = absurd cc
under_within (b ∷ bs) x q h e =
    first_or (λ z. z ≤ 65535) (bytes_eq x b.0) b.1 q (under x bs) (h 0 b refl)
    (under_within bs x q (λ i c f. h (suc i) c f)) e

pub names_within : (bs : List (Name × ℕ)) (ts : Trees) (ps : List ℕ)
    → ((i : ℕ) (b : Name × ℕ) → slice_get bs i ≡ Some b → b.1 ≤ 65535)
    → AreBitNames bs ts ps
    → AreWithin ps
names_within bs ts ps h leaves.no_bit = tt
names_within bs ts ps h (leaves.bit_and {x = x} {ts = us} {place = q} {places = qs} e a) =
    (under_within bs x q h e, names_within bs us qs h a)

-- ---- bits that are set

pub set_alike : (ps : List ℕ) (s : List Bool) → made.AreSetBits ps s → AreSetBits ps s
set_alike ps s h = record {
  set = λ i. (λ e. let p = (h.set i).0 e in (p.place, p.there), λ o. (h.set i).1 (record { place = o.0; there = o.1 }));
  greatest = λ n e. let p = h.greatest n e in (p.place, p.there);
}

-- ---- names, one after another

pub names_step : (bs : List (Name × ℕ)) (xs : List Tree) (ps : List ℕ) (i : ℕ) (n : Tree) (x : Name) (q : ℕ)
    → AreBitNames bs (trees (take i xs)) ps
    → slice_get xs i ≡ Some n
    → name_in n ≡ Some x
    → under x bs ≡ Some q
    → AreBitNames bs (trees (take (i + 1) xs)) (ps ++ q ∷ [])
names_step bs xs ps i n x q a s e f =
    subst (λ (z : List Tree). AreBitNames bs (trees z) (ps ++ q ∷ []))
    (sym (taken_more xs i (reference None x) (s ∙ ap Some (name_is n x e)))) (names_more bs (take i xs) ps x q a f)

pub names_wrong : (bs : List (Name × ℕ)) (xs : List Tree) (ps : List ℕ) (i : ℕ) (n : Tree)
    → AreBitNames bs (trees (take i xs)) ps
    → slice_get xs i ≡ Some n
    → name_in n ≡ None
    → ((qs : List ℕ) → AreBitNames bs (trees xs) qs → ⊥) × ((x : Name) → IsUnknownBit bs x (trees xs) → ⊥)
names_wrong bs xs ps i n a s e = let r = names_stop bs xs ps i n a s e in (r.none, r.unknown)

pub names_lost : (bs : List (Name × ℕ)) (xs : List Tree) (ps : List ℕ) (i : ℕ) (n : Tree) (x : Name)
    → AreBitNames bs (trees (take i xs)) ps
    → slice_get xs i ≡ Some n
    → name_in n ≡ Some x
    → under x bs ≡ None
    → (y : Name) × (n ≡ reference None y) × IsUnknownBit bs y (trees xs)
names_lost bs xs ps i n x a s e f =
    (x, name_is n x e, names_unknown bs xs ps i x a (s ∙ ap Some (name_is n x e)) f)

-- those before the first name that is no bit's are names of bits
pub names_known : (bs : List (Name × ℕ)) (xs : List Tree) (ps : List ℕ) (i m : ℕ) (t : Tree)
    → AreBitNames bs (trees (take i xs)) ps
    → m < i
    → slice_get xs m ≡ Some t
    → (x : Name) × (q : ℕ) × (t ≡ reference None x) × (under x bs ≡ Some q)
names_known bs [] ps i m t a l s = absurd cc
names_known bs (y ∷ xs) ps zero m t a l s = absurd (omega (arith, l))
names_known bs (y ∷ xs) ps (suc i) zero t (leaves.bit_and {x = x} {place = q} {places = qs} f a) l s =
    (x, q, sym (same_Some (reference None x) t s), f)
names_known bs (y ∷ xs) ps (suc i) (suc m) t (leaves.bit_and {places = qs} f a) l s =
    names_known bs xs qs i m t a (omega (arith, l)) s

pub first_lost : (bs : List (Name × ℕ)) (ns : List ValueSyntax) (ps : List ℕ) (i : ℕ) (b : ValueSyntax) (x : Name)
    → AreBitNames bs (trees (take i (map tree_of ns))) ps
    → slice_get ns i ≡ Some b
    → name_in (tree_of b) ≡ Some x
    → under x bs ≡ None
    → IsFirstAmong ns b
first_lost bs ns ps i b x a s e f = record {
  number = i;
  there = s;
  before = λ m c l g h.
      let k = names_known bs (map tree_of ns) ps i m (tree_of c) a l (occurs_map tree_of ns m c g) in
      let same : k.0 ≡ x = same_Some k.0 x (sym (ap name_in k.2) ∙ ap name_in h ∙ e) in
      some_none (under x bs) k.1 (subst (λ y. under y bs ≡ Some k.1) same k.3) f;
}
