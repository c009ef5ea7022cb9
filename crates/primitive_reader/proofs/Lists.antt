-- Bits, characters, and numbers that are those of an OBJECT IDENTIFIER or a RELATIVE-OID.
use Rattle.std.proofs.Common.{arith, ◌≡◌, ℕ, zero, suc, ◌+◌, ◌-◌, ◌*◌, ◌<◌, ◌≤◌, ◌^◌, Bool, true, false, List, [], ◌∷◌, ◌++◌, length, take, drop, refl, sym, ap, subst, ◌∙◌, ⊎_elim, length-append}
use Rattle.std.specs.Prelude.{flat_map, Option}
use Rattle.std.specs.Int.Digits.{AllBelowBase}
use Rattle.std.proofs.lemmas.Bool.{cases_lt}
use Rattle.asn_base.specs.Abstract.{bits_of_octet}
use Rattle.asn_base.specs.Typed.{IsObjectIdentifier, arcs, IsRelativeOid}
use Rattle.encodings.specs.Header.{septets}
use Rattle.encodings.specs.Strings.{WholeBits}
use Rattle.encodings.specs.Contents.{joined}
use Rattle.encodings.specs.declared.leaf_kind.LeafKind.TheVariants.{ObjectIdentifier, RelativeOid}
use Rattle.primitive_reader.specs.declared.fault.LeafFault.TheVariants.{BadContents, OidLimit}
use Rattle.primitive_reader.specs.Leaves.{bits_but}
use Rattle.primitive_reader.specs.Refused.{AreNumbers, IsRightFault, without_form, oid_past, relative_past}
use Rattle.primitive_reader.specs.Arcs.{Front}
use Rattle.primitive_reader.specs.proving.Spelled.{AreSmall, IsJudged, Counted}
use Rattle.primitive_reader.proofs.Spelling.{one_front, none_first}
use Rattle.std.proofs.lemmas.List.{append-nil}

-- ---- bits

pub eight_each : (xs : List ℕ) → length (flat_map bits_of_octet xs) ≡ 8 * length xs
eight_each [] = refl
eight_each (x ∷ xs) =
    let e : length (flat_map bits_of_octet (x ∷ xs)) ≡ 8 + length (flat_map bits_of_octet xs) = length-append (bits_of_octet x) (flat_map bits_of_octet xs) in
    let h = eight_each xs in
    omega arith

pub take_drop : (n : ℕ) (xs : List Bool) → take n xs ++ drop n xs ≡ xs
take_drop zero xs = refl
take_drop (suc n) [] = refl
take_drop (suc n) (x ∷ xs) = ap (λ q. x ∷ q) (take_drop n xs)

drop_length : (n : ℕ) (xs : List Bool) → length (drop n xs) ≡ length xs - n
drop_length zero xs = omega arith
drop_length (suc n) [] = omega arith
drop_length (suc n) (x ∷ xs) = let h = drop_length n xs in omega (arith, h)

pub are_bits : (n : ℕ) (os o : List ℕ) → o ≡ n ∷ os → n < 8 → (length os ≡ 0 → n ≡ 0) → AllBelowBase 256 os → WholeBits (bits_but n os) o
are_bits n os o e few none all =
    let bs = flat_map bits_of_octet os in
    let k = 8 * length os - n in
    let some : n ≤ 8 * length os = ⊎_elim (λ l. (let z = none (omega arith) in omega arith)) (λ g. omega arith) (cases_lt (length os) 1) in
    record {
      unused = n;
      octets = os;
      filling = drop k bs;
      few = few;
      are_octets = all;
      is = e;
      bits = sym (take_drop k bs);
      as_many = drop_length k bs ∙ omega (arith, some, eight_each os);
    }

pub no_bits : (o : List ℕ) → length o ≡ 0 → (s : List Bool) → WholeBits s o → ⊥
no_bits o e s w = let f = ap length w.is in omega (arith, e, f)

pub head_same : {x y : ℕ} {a b : List ℕ} → x ∷ a ≡ y ∷ b → x ≡ y
head_same {x} e = ap (λ q. elim q [ [] ↦ x | z ∷ zs ↦ z ]) e

pub tail_same : {x y : ℕ} {a b : List ℕ} → x ∷ a ≡ y ∷ b → a ≡ b
tail_same {a = a} e = ap (λ q. elim q [ [] ↦ a | z ∷ zs ↦ zs ]) e

pub many_unused : (n : ℕ) (os o : List ℕ) → o ≡ n ∷ os → 7 < n → (s : List Bool) → WholeBits s o → ⊥
many_unused n os o e l s w =
    let f : n ≡ w.unused = head_same (sym e ∙ w.is) in
    let k = w.few in
    omega (arith, f, k, l)

pub unused_of_none : (n : ℕ) (os o : List ℕ) → o ≡ n ∷ os → length os ≡ 0 → 0 < n → (s : List Bool) → WholeBits s o → ⊥
unused_of_none n os o e z l s w =
    let f : n ≡ w.unused = head_same (sym e ∙ w.is) in
    let g : os ≡ w.octets = tail_same (sym e ∙ w.is) in
    let h = ap length w.bits in
    omega (arith, f, ap length g, z, l, h, eight_each w.octets, length-append s w.filling, w.as_many)

-- ---- numbers of OBJECT IDENTIFIER and RELATIVE-OID

-- the first two numbers of one
record Parts (n : ℕ) : Type 0 where
  former : ℕ
  latter : ℕ
  is : n ≡ 40 * former + latter
  least : former ≤ 2
  most : former < 2 → latter < 40
  below : latter < 2 ^ 64

parts : (n : ℕ) → n < 18446744073709551696 → Parts n
parts n l = ⊎_elim none (λ g. ⊎_elim (one g) two (cases_lt n 80)) (cases_lt n 40)
  where
    none : n < 40 → Parts n
    none h = record { former = 0; latter = n; is = omega arith; least = omega arith; most = λ k. h; below = omega arith }

    one : 40 ≤ n → n < 80 → Parts n
    one g h = record { former = 1; latter = n - 40; is = omega arith; least = omega arith; most = λ k. omega arith; below = omega arith }

    two : 80 ≤ n → Parts n
    two g = record { former = 2; latter = n - 80; is = omega arith; least = omega arith; most = λ k. omega arith; below = omega arith }

pub judged_true : (ns : List ℕ) → IsJudged true ns → AreSmall ns
judged_true ns j = j

with_numbers : (arc : Option ℕ) (count : ℕ) (small : Bool) (rest o : List ℕ) → (f : Front arc rest o) → (c : Counted count small [] rest) → AreNumbers o (f.number ∷ c.numbers)
with_numbers arc count small rest o f c = record {
  some = omega arith;
  whole = f.whole ∙ ap (λ q. septets f.number ++ q) (c.whole ∙ append-nil (flat_map septets c.numbers));
}

pub is_oid : (arc : Option ℕ) (count : ℕ) (small : Bool) (rest o : List ℕ) → (f : Front arc rest o) → (c : Counted count small [] rest) → f.number < 18446744073709551696 → small ≡ true → count ≤ 62 → (ns : List ℕ) × IsObjectIdentifier ns × (o ≡ flat_map septets (joined ns))
is_oid arc count small rest o f c l s m =
    let p = parts f.number l in
    let a = with_numbers arc count small rest o f c in
    let few = c.as_many in (
      p.former ∷ p.latter ∷ c.numbers,
      arcs p.least p.most p.below (subst (λ q. IsJudged q c.numbers) s c.judged) (omega (arith, few, m)),
      a.whole ∙ ap (λ q. flat_map septets (q ∷ c.numbers)) p.is,
    )

first_small : (ms ns : List ℕ) (n : ℕ) → IsObjectIdentifier ms → joined ms ≡ n ∷ ns → (n < 18446744073709551696) × AreSmall ns × (length ns ≤ 62)
first_small ms ns n (arcs {x = x} {y = y} {zs = zs} a b l all m) e =
    let f : 40 * x + y ≡ n = head_same e in
    let g : zs ≡ ns = tail_same e in
    (⊎_elim (λ lt. (let k = b lt in omega (arith, f, k, lt))) (λ ge. omega (arith, f, a, l)) (cases_lt x 2), subst AreSmall g all, omega (arith, m, ap length g))

-- a first number, or others, past the limit
pub oid_great : (arc : Option ℕ) (count : ℕ) (small : Bool) (rest o : List ℕ) → (f : Front arc rest o) → Counted count small [] rest → (f.number < 18446744073709551696 → ⊥) → IsRightFault OidLimit ObjectIdentifier o
oid_great arc count small rest o f c h = oid_past (with_numbers arc count small rest o f c) (λ ms a e. h ((first_small ms c.numbers f.number a e).0))

pub oid_others : (arc : Option ℕ) (count : ℕ) (small : Bool) (rest o : List ℕ) → Front arc rest o → Counted count small [] rest → small ≡ false → IsRightFault OidLimit ObjectIdentifier o
oid_others arc count small rest o f c s = oid_past (with_numbers arc count small rest o f c) (λ ms a e. subst (λ q. IsJudged q c.numbers) s c.judged ((first_small ms c.numbers f.number a e).1))

pub oid_many : (arc : Option ℕ) (count : ℕ) (small : Bool) (rest o : List ℕ) → Front arc rest o → Counted count small [] rest → 62 < count → IsRightFault OidLimit ObjectIdentifier o
oid_many arc count small rest o f c l = oid_past (with_numbers arc count small rest o f c) (λ ms a e. (let k = (first_small ms c.numbers f.number a e).2 in let few = c.as_many in omega (arith, k, few, l)))

no_numbers_first : (o : List ℕ) → ((n : ℕ) (rest : List ℕ) → o ≡ septets n ++ rest → ⊥) → (ns : List ℕ) → AreNumbers o ns → ⊥
no_numbers_first o h [] a = let s = a.some in omega (arith, s)
no_numbers_first o h (n ∷ ns) a = h n (flat_map septets ns) a.whole

no_numbers_after : (o rest : List ℕ) (m : ℕ) → o ≡ septets m ++ rest → ((ns : List ℕ) → rest ≡ flat_map septets ns → ⊥) → (ns : List ℕ) → AreNumbers o ns → ⊥
no_numbers_after o rest m e h [] a = let s = a.some in omega (arith, s)
no_numbers_after o rest m e h (n ∷ ns) a = h ns ((one_front m n rest (flat_map septets ns) (sym e ∙ a.whole)).1)

pub oid_without_first : (o : List ℕ) → ((n : ℕ) (rest : List ℕ) → o ≡ septets n ++ rest → ⊥) → IsRightFault BadContents ObjectIdentifier o
oid_without_first o h = without_form (λ f. no_numbers_first o h f.0 f.1)

pub oid_without_others : (arc : Option ℕ) (o rest : List ℕ) → Front arc rest o → ((ns : List ℕ) → rest ≡ flat_map septets ns → ⊥) → IsRightFault BadContents ObjectIdentifier o
oid_without_others arc o rest f h = without_form (λ g. no_numbers_after o rest f.number f.whole h g.0 g.1)

relative_numbers : (count : ℕ) (small : Bool) (o : List ℕ) → (c : Counted count small [] o) → 0 < count → AreNumbers o c.numbers
relative_numbers count small o c l = let m = c.as_many in record { some = omega (arith, m, l); whole = c.whole ∙ append-nil (flat_map septets c.numbers) }

pub is_relative : (count : ℕ) (small : Bool) (o : List ℕ) → Counted count small [] o → 0 < count → small ≡ true → count ≤ 64 → (ns : List ℕ) × IsRelativeOid ns × (o ≡ flat_map septets ns)
is_relative count small o c l s m =
    let k = c.as_many in (
      c.numbers,
      record { some = omega (arith, k, l); at_most = omega (arith, k, m); small = subst (λ q. IsJudged q c.numbers) s c.judged },
      c.whole ∙ append-nil (flat_map septets c.numbers),
    )

pub relative_none : (o : List ℕ) → ((ns : List ℕ) → o ≡ flat_map septets ns → ⊥) → IsRightFault BadContents RelativeOid o
relative_none o h = without_form (λ f. h f.0 f.1.whole)

no_octets : (ns : List ℕ) → length (flat_map septets ns) ≡ 0 → ns ≡ []
no_octets [] e = refl
no_octets (n ∷ ns) e = absurd (none_first (flat_map septets (n ∷ ns)) e n (flat_map septets ns) refl)

pub relative_empty : (count : ℕ) (small : Bool) (o : List ℕ) → Counted count small [] o → count ≡ 0 → IsRightFault BadContents RelativeOid o
relative_empty count small o c e = without_form (λ f. empty c.numbers (c.as_many ∙ e) c.whole f.0 f.1)
  where
    empty : (ms : List ℕ) → length ms ≡ 0 → o ≡ flat_map septets ms ++ [] → (ns : List ℕ) → AreNumbers o ns → ⊥
    empty [] l g ns a = let z = no_octets ns (ap length (sym a.whole ∙ g)) in let s = a.some in omega (arith, s, ap length z)
    empty (m ∷ ms) l g ns a = omega (arith, l)

pub relative_others : (count : ℕ) (small : Bool) (o : List ℕ) → Counted count small [] o → 0 < count → small ≡ false → IsRightFault OidLimit RelativeOid o
relative_others count small o c l s = relative_past (relative_numbers count small o c l) (λ r. subst (λ q. IsJudged q c.numbers) s c.judged r.small)

pub relative_many : (count : ℕ) (small : Bool) (o : List ℕ) → Counted count small [] o → 0 < count → 64 < count → IsRightFault OidLimit RelativeOid o
relative_many count small o c l m = relative_past (relative_numbers count small o c l) (λ r. (let k = r.at_most in let e = c.as_many in omega (arith, k, e, m)))
