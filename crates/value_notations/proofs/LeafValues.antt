-- The value of a notation under a kind without other values in it is one of that kind, apart from constraints.
use Rattle.std.proofs.Common.{◌≡◌, ◌^◌, ℕ, zero, ◌<◌, ◌≤◌, ◌+◌, ◌*◌, Bool, ℤ, pos, suc, Some, None, option_map, List, [], ◌∷◌, ◌++◌, length, take, drop, refl, sym, ap, ◌∙◌, subst, arith, inl, inr}
use Rattle.std.specs.Prelude.{◌⊎◌, IfErr, Option, Result, slice_get, slice_index, replicate}
use Rattle.std.specs.List.{AllByRecursion}
use Rattle.std.specs.Int.Digits.{AllBelowBase}
use Rattle.std.proofs.lemmas.Int.Digits.{number_lt}
use Rattle.std.proofs.lemmas.Option.{same_Some, slice_get-map}
use Rattle.std.proofs.lemmas.Result.{IfErr-weaker}
use Rattle.std.proofs.Math.Nat.{pow-le-pow_right}
use Rattle.asn_base.specs.declared.strings.StringKind.{StringKind}
use Rattle.asn_base.specs.Abstract.{AbstractValue, integer, enumerated, bits, oid, relative_oid}
use Rattle.asn_base.specs.Typed.{IsWithinLimit, IsObjectIdentifier, arcs, IsRelativeOid}
use Rattle.trees.specs.declared.value.ValueSyntax.{ValueSyntax}
use Rattle.trees.specs.Values.{Name, Tree}
use Rattle.trees.specs.Types.{Plain, a_boolean, an_integer, a_bit_string, an_octet_string, a_null, an_object_identifier, a_relative_oid, an_enumerated, a_utf8_string, a_restricted_string}
use Rattle.names.specs.Modules.{OccursIn}
use Rattle.names.specs.Names.{names_of}
use Rattle.type_table.specs.Items.{WrittenItem, additions_of, root_numbers, addition_numbers, numbers_of}
use Rattle.type_table.specs.Lists.{IsSoundEnumeration}
use Rattle.type_table.specs.Table.{simple}
use Rattle.value_notations.specs.Leaves.{IsLeafNotation, IsItem, AreOctets, IsRooted, is_rooted}
use Rattle.value_notations.specs.Leaves as leaves
use Rattle.value_notations.specs.Wrong.{IsMisfit}
use Rattle.value_notations.specs.declared.leaves.LeafFault.{LeafFault}
use Rattle.value_notations.specs.declared.leaves.LeafFault.TheVariants as fault
use Rattle.value_notations.specs.Faults.{IsUnconstrained, IsBitAt, IsLeafFault, IsLeafValue, IsPastOidLimit}
use Rattle.value_notations.specs.proving.Items.{IsNumberless}
use Rattle.value_notations.specs.proving.Forms.{name_in, IsNone, ArePastLimit, IsPastLimit}
use Rattle.value_notations.proofs.Groups.{below_group}
use Rattle.value_notations.proofs.Inversions.{name_is}
use Rattle.value_notations.specs.proving.Places.{one_place, some_none}

-- ---- no value, and no unknown bit

abbrev pub IsNoBitString : Plain → Type 0
IsNoBitString (a_bit_string bs) = ⊥
IsNoBitString k = Unit {0}

misfit : (k : Plain) (n : Tree) → IsNoBitString k → IsNone k n → IsMisfit (simple k) n
misfit k n b f = (f, λ x u. subst IsNoBitString u.is b)

pub misfit_boolean : (n : Tree) → IsNone a_boolean n → IsMisfit (simple a_boolean) n
misfit_boolean n f = misfit a_boolean n tt f

pub misfit_integer : (ns : List (Name × ℤ)) (n : Tree) → IsNone (an_integer ns) n → IsMisfit (simple (an_integer ns)) n
misfit_integer ns n f = misfit (an_integer ns) n tt f

pub misfit_octets : (n : Tree) → IsNone an_octet_string n → IsMisfit (simple an_octet_string) n
misfit_octets n f = misfit an_octet_string n tt f

pub misfit_null : (n : Tree) → IsNone a_null n → IsMisfit (simple a_null) n
misfit_null n f = misfit a_null n tt f

pub misfit_identifier : (n : Tree) → IsNone an_object_identifier n → IsMisfit (simple an_object_identifier) n
misfit_identifier n f = misfit an_object_identifier n tt f

pub misfit_relative : (n : Tree) → IsNone a_relative_oid n → IsMisfit (simple a_relative_oid) n
misfit_relative n f = misfit a_relative_oid n tt f

pub misfit_enumerated : (root : List WrittenItem) (more : Option (List WrittenItem)) (n : Tree)
    → IsNone (an_enumerated root more) n
    → IsMisfit (simple (an_enumerated root more)) n
misfit_enumerated root more n f = misfit (an_enumerated root more) n tt f

pub misfit_utf8 : (n : Tree) → IsNone a_utf8_string n → IsMisfit (simple a_utf8_string) n
misfit_utf8 n f = misfit a_utf8_string n tt f

pub misfit_restricted : (k : StringKind) (n : Tree)
    → IsNone (a_restricted_string k) n
    → IsMisfit (simple (a_restricted_string k)) n
misfit_restricted k n f = misfit (a_restricted_string k) n tt f

-- ---- values

free_boolean : {n : Tree} {v : AbstractValue} → IsLeafNotation a_boolean n v → IsUnconstrained a_boolean v
free_boolean leaves.truth = tt
free_boolean leaves.falsehood = tt

pub value_boolean : (n : Tree) (v : AbstractValue) → IsLeafNotation a_boolean n v → IsLeafValue a_boolean n v
value_boolean n v l = record { is_so = l; within = free_boolean l }

pub value_integer : (ns : List (Name × ℤ)) (n : Tree) (z : ℤ)
    → IsLeafNotation (an_integer ns) n (integer z)
    → IsWithinLimit z
    → IsLeafValue (an_integer ns) n (integer z)
value_integer ns n z l w = record { is_so = l; within = (w, tt) }

free_null : {n : Tree} {v : AbstractValue} → IsLeafNotation a_null n v → IsUnconstrained a_null v
free_null leaves.nothing_more = tt

pub value_null : (n : Tree) (v : AbstractValue) → IsLeafNotation a_null n v → IsLeafValue a_null n v
value_null n v l = record { is_so = l; within = free_null l }

free_enumerated : {root : List WrittenItem} {more : Option (List WrittenItem)} {n : Tree} {v : AbstractValue}
    → IsLeafNotation (an_enumerated root more) n v
    → IsUnconstrained (an_enumerated root more) v
free_enumerated (leaves.named_item a) = (a.place, a.numbered)

pub value_enumerated : (root : List WrittenItem) (more : Option (List WrittenItem)) (n : Tree) (v : AbstractValue)
    → IsLeafNotation (an_enumerated root more) n v
    → IsLeafValue (an_enumerated root more) n v
value_enumerated root more n v l = record { is_so = l; within = free_enumerated l }

free_bits : (bs : List (Name × ℕ)) (s : List Bool) → IsUnconstrained (a_bit_string bs) (bits s)
free_bits [] s = tt
free_bits (b ∷ bs) s = tt

pub value_bits : (bs : List (Name × ℕ)) (n : Tree) (s : List Bool)
    → IsLeafNotation (a_bit_string bs) n (bits s)
    → IsLeafValue (a_bit_string bs) n (bits s)
value_bits bs n s l = record { is_so = l; within = free_bits bs s }

each_below : (os : List ℕ) → ((i : ℕ) → i < length os → slice_index os i < 256) → AllBelowBase 256 os
each_below [] h = tt
each_below (o ∷ os) h = (h 0 (omega arith), each_below os (λ i l. h (suc i) (omega (arith, l))))

short_take : (n : ℕ) (ds : List ℕ) → length (take n ds) ≤ n
short_take zero ds = omega arith
short_take (suc n) [] = omega arith
short_take (suc n) (d ∷ ds) = let r = short_take n ds in omega (arith, r)

below_octets : (base most : ℕ) (ds os : List ℕ) → 0 < base → base ^ most ≡ 256 → AreOctets base most ds os → AllBelowBase 256 os
below_octets base most ds os z e a =
    each_below os (λ i l.
    let g = take most (drop (most * i) (ds ++ replicate a.zeros 0)) in
    let b = below_group base most (most * i) a.zeros ds (ds ++ replicate a.zeros 0) z a.digits_of refl in
    let m = number_lt base g b in
    let p : base ^ length g ≤ base ^ most =
    pow-le-pow_right z (short_take most (drop (most * i) (ds ++ replicate a.zeros 0))) in
    let s = a.each i l in
    omega (arith, m, p, s, e))

free_octets : {n : Tree} {v : AbstractValue} → IsLeafNotation an_octet_string n v → IsUnconstrained an_octet_string v
free_octets (leaves.octet_digits {ds = ds} {os = os} a) = (below_octets 2 8 ds os (omega arith) refl a, tt)
free_octets (leaves.octet_hex {ds = ds} {os = os} a) = (below_octets 16 2 ds os (omega arith) refl a, tt)

pub value_octets : (n : Tree) (v : AbstractValue) → IsLeafNotation an_octet_string n v → IsLeafValue an_octet_string n v
value_octets n v l = record { is_so = l; within = free_octets l }

all_free : (o : List ℕ) → AllByRecursion (λ c. Unit {0}) o
all_free [] = tt
all_free (c ∷ o) = (tt, all_free o)

free_utf8 : {n : Tree} {v : AbstractValue} → IsLeafNotation a_utf8_string n v → IsUnconstrained a_utf8_string v
free_utf8 (leaves.utf8 a) = (a, tt)

pub value_utf8 : (n : Tree) (v : AbstractValue) → IsLeafNotation a_utf8_string n v → IsLeafValue a_utf8_string n v
value_utf8 n v l = record { is_so = l; within = free_utf8 l }

free_restricted : {k : StringKind} {n : Tree} {v : AbstractValue}
    → IsLeafNotation (a_restricted_string k) n v
    → IsUnconstrained (a_restricted_string k) v
free_restricted (leaves.restricted {o = o} a) = (all_free o, tt)

pub value_restricted : (k : StringKind) (n : Tree) (v : AbstractValue)
    → IsLeafNotation (a_restricted_string k) n v
    → IsLeafValue (a_restricted_string k) n v
value_restricted k n v l = record { is_so = l; within = free_restricted l }

-- ---- numbers within the limit

below_or_not : (m n : ℕ) → (m < n) ⊎ (n ≤ m)
below_or_not m n = grind arith

small_or_not : (ns : List ℕ)
    → AllByRecursion (λ n. n < 2 ^ 64) ns ⊎ (AllByRecursion (λ n. n < 2 ^ 64) ns → ⊥)
small_or_not [] = inl tt
small_or_not (n ∷ ns) =
    elim (below_or_not n (2 ^ 64)) [
      | inl l ↦ elim (small_or_not ns) [ inl a ↦ inl (l, a) | inr f ↦ inr (λ a. f a.1) ]
      | inr l ↦ inr (λ a. absurd (let b = a.0 in omega (arith, l, b)))
    ]

few_numbers : (ns : List ℕ) → (ArePastLimit ns → ⊥) → length ns ≤ 64
few_numbers ns f =
    elim (below_or_not 64 (length ns)) [
      | inl l ↦ absurd (f (inl l))
      | inr l ↦ l
    ]

small_numbers : (ns : List ℕ) → (ArePastLimit ns → ⊥) → AllByRecursion (λ n. n < 2 ^ 64) ns
small_numbers ns f =
    elim (small_or_not ns) [
      | inl a ↦ a
      | inr g ↦ absurd (f (inr g))
    ]

small_after : (x y : ℕ) (ns : List ℕ)
    → AllByRecursion (λ n. n < 2 ^ 64) (x ∷ y ∷ ns)
    → (y < 2 ^ 64) × AllByRecursion (λ n. n < 2 ^ 64) ns
small_after x y ns (a, (b, r)) = (b, r)

identifier_of : (ns : List ℕ) → IsRooted ns → (ArePastLimit ns → ⊥) → IsObjectIdentifier ns
identifier_of [] r f = elim r [ ]
identifier_of (x ∷ []) r f = elim r [ ]
identifier_of (x ∷ y ∷ ns) (is_rooted l m) f =
    let few = few_numbers (x ∷ y ∷ ns) f in
    let small = small_after x y ns (small_numbers (x ∷ y ∷ ns) f) in
    arcs l m small.0 small.1 (omega (arith, few))

free_identifier : {n : Tree} {v : AbstractValue}
    → (IsPastLimit an_object_identifier n → ⊥)
    → IsLeafNotation an_object_identifier n v
    → IsUnconstrained an_object_identifier v
free_identifier f (leaves.identifier {ns = ns} r) =
    identifier_of ns r (λ past. f (ns, inl (leaves.identifier r), past))

pub value_identifier : (n : Tree) (v : AbstractValue)
    → IsLeafNotation an_object_identifier n v
    → (IsPastLimit an_object_identifier n → ⊥)
    → IsLeafValue an_object_identifier n v
value_identifier n v l f = record { is_so = l; within = free_identifier f l }

relative_of : (n : ℕ) (ns : List ℕ) → (ArePastLimit (n ∷ ns) → ⊥) → IsRelativeOid (n ∷ ns)
relative_of n ns f = record {
  some = omega arith;
  at_most = few_numbers (n ∷ ns) f;
  small = small_numbers (n ∷ ns) f;
}

free_relative : {n : Tree} {v : AbstractValue}
    → (IsPastLimit a_relative_oid n → ⊥)
    → IsLeafNotation a_relative_oid n v
    → IsUnconstrained a_relative_oid v
free_relative f (leaves.relative {n = m} {ns = ns}) = relative_of m ns (λ past. f (m ∷ ns, inr leaves.relative, past))
free_relative f (leaves.relative_alone {n = m}) = relative_of m [] (λ past. f (m ∷ [], inr leaves.relative_alone, past))

pub value_relative : (n : Tree) (v : AbstractValue)
    → IsLeafNotation a_relative_oid n v
    → (IsPastLimit a_relative_oid n → ⊥)
    → IsLeafValue a_relative_oid n v
value_relative n v l f = record { is_so = l; within = free_relative f l }

pub past_stands : (k : Plain) (n : Tree) → IsPastLimit k n → IsPastOidLimit k n
past_stands k n (ns, inl l, past) = record { value = oid ns; is_so = l; past = past }
past_stands k n (ns, inr l, past) = record { value = relative_oid ns; is_so = l; past = past }

-- ---- items

slice_get_after : {X : Type 0} (xs ys : List X) (i : ℕ) (x : X)
    → slice_get ys i ≡ Some x
    → slice_get (xs ++ ys) (length xs + i) ≡ Some x
slice_get_after {X = X} [] ys i x e = let q : length {A = X} [] + i ≡ i = omega arith in rw q e
slice_get_after (y ∷ xs) ys i x e =
    let q : length (y ∷ xs) + i ≡ suc (length xs + i) = omega arith in
    rw q (slice_get_after xs ys i x e)

pub no_great : (root more : List WrittenItem) (i : ℕ)
    → IsSoundEnumeration root more
    → slice_get (addition_numbers root more) i ≡ Some (pos (2 ^ 127))
    → ⊥
no_great root more i s e =
    let there = slice_get_after (root_numbers root) (addition_numbers root more) i (pos (2 ^ 127)) e in
    let w = s.within (length (root_numbers root) + i) (pos (2 ^ 127)) there in
    absurd (omega (arith, w))

item_named : (is : List WrittenItem) (x : Name) (i : ℕ)
    → slice_get (names_of is) i ≡ Some x
    → (t : WrittenItem) × (slice_get is i ≡ Some t) × (t.0 ≡ x)
item_named [] x i e = absurd cc
item_named (t ∷ is) x zero e = (t, refl, same_Some t.0 x e)
item_named (t ∷ is) x (suc i) e = item_named is x i e

pub value_item : (root : List WrittenItem) (more : Option (List WrittenItem)) (n : Tree) (x : Name) (place : ℕ) (z : ℤ)
    → name_in n ≡ Some x
    → slice_get (names_of (root ++ additions_of more)) place ≡ Some x
    → slice_get (numbers_of root (additions_of more)) place ≡ Some z
    → IsLeafValue (an_enumerated root more) n (enumerated z)
value_item root more n x place z e f g =
    let i = item_named (root ++ additions_of more) x place f in
    let l = leaves.named_item (record { place = place; item = i.0; there = i.1; named = i.2; numbered = g }) in
    value_enumerated root more n (enumerated z)
    (subst (λ (t : Tree). IsLeafNotation (an_enumerated root more) t (enumerated z)) (sym (name_is n x e)) l)

not_item : {root : List WrittenItem} {more : Option (List WrittenItem)} {n : Tree} {v : AbstractValue}
    → ((x : Name) (z : ℤ) → name_in n ≡ Some x → IsItem root (additions_of more) x z → ⊥)
    → IsLeafNotation (an_enumerated root more) n v
    → ⊥
not_item f (leaves.named_item {x = x} {z = z} a) = f x z refl a

-- a name that no item has
pub misfit_unnamed : (root : List WrittenItem) (more : Option (List WrittenItem)) (n : Tree) (x : Name)
    → name_in n ≡ Some x
    → (OccursIn (names_of (root ++ additions_of more)) x → ⊥)
    → IsMisfit (simple (an_enumerated root more)) n
misfit_unnamed root more n x e f =
    misfit_enumerated root more n (λ v l. not_item {root = root} {more = more} {n = n} {v = v} (λ y z h a.
    let same : y ≡ x = same_Some y x (sym h ∙ e) in
    f (
      a.place,
      slice_get-map (λ i. i.0) (root ++ additions_of more) a.place ∙ ap (option_map (λ i. i.0)) a.there
          ∙ ap Some (a.named ∙ same),
    )) l)

pub misfit_item : (root : List WrittenItem) (more : Option (List WrittenItem)) (n : Tree) (x : Name) (place : ℕ)
    → IsSoundEnumeration root (additions_of more)
    → name_in n ≡ Some x
    → slice_get (names_of (root ++ additions_of more)) place ≡ Some x
    → slice_get (numbers_of root (additions_of more)) place ≡ None
    → IsMisfit (simple (an_enumerated root more)) n
misfit_item root more n x place s e f g =
    misfit_enumerated root more n (λ v l. not_item {root = root} {more = more} {n = n} {v = v} (λ y z h a.
    let same : y ≡ x = same_Some y x (sym h ∙ e) in
    let there : slice_get (names_of (root ++ additions_of more)) a.place ≡ Some x =
    slice_get-map (λ i. i.0) (root ++ additions_of more) a.place ∙ ap (option_map (λ i. i.0)) a.there
    ∙ ap Some (a.named ∙ same) in
    let one = one_place (names_of (root ++ additions_of more)) x a.place place s.names there f in
    some_none (slice_get (numbers_of root (additions_of more)) place) z
    (subst (λ (j : ℕ). slice_get (numbers_of root (additions_of more)) j ≡ Some z) one a.numbered) g) l)

pub numberless : (root : List WrittenItem) (more : Option (List WrittenItem)) (n : Tree) (x : Name) (place : ℕ)
    (f : LeafFault)
    → IsSoundEnumeration root (additions_of more)
    → name_in n ≡ Some x
    → slice_get (names_of (root ++ additions_of more)) place ≡ Some x
    → IsNumberless root (additions_of more) place f
    → IsLeafFault (an_enumerated root more) n f
numberless root more n x place fault.Memory s e g h = tt
numberless root more n x place fault.NotOfType s e g h = misfit_item root more n x place s e g h
numberless root more n x place (fault.UnknownBit b) s e g h = absurd h
numberless root more n x place fault.Oid s e g h = absurd h

-- ---- bits

bit_none : (k : Plain) (l : Tree) (n : ValueSyntax) → IsNoBitString k → (e : LeafFault) → IsLeafFault k l e → IsBitAt n e
bit_none k l n none fault.Memory h = tt
bit_none k l n none fault.NotOfType h = tt
bit_none k l n none (fault.UnknownBit b) h = absurd (subst IsNoBitString h.unknown.is none)
bit_none k l n none fault.Oid h = tt

-- a type that is no BIT STRING has no unknown bit
pub no_bit : {A : Type 0} (k : Plain) (l : Tree) (n : ValueSyntax) (r : Result A LeafFault) → IsNoBitString k →
    IfErr r (IsLeafFault k l) → IfErr r (IsBitAt n)
no_bit k l n r none h = IfErr-weaker r (IsLeafFault k l) (IsBitAt n) (bit_none k l n none) h
