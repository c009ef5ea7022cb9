-- Numbers in septets, one after the other (X.690, 8.19 and 8.20).
use Rattle.std.proofs.Common.{arith, ◌≡◌, ℕ, ◌+◌, ◌-◌, ◌*◌, ◌/◌, ◌%◌, ◌<◌, ◌≤◌, ◌^◌, Bool, true, false, List, [], ◌∷◌, ◌++◌, length, refl, sym, ap, subst, ◌∙◌, ⊎_elim}
use Rattle.std.specs.Prelude.{nat_lt, ◌==◌, ◌&&◌, if◌then◌else◌, flat_map, option_map, Option, Some, None}
use Rattle.std.specs.List.{AllByRecursion}
use Rattle.std.proofs.lemmas.Bool.{cases_lt, lt-ltb, le-ltb, ltb-true, ltb-false, eqb-true, eqb-false, false_from_ne_true}
use Rattle.std.specs.Int.Digits.{AllBelowBase}
use Rattle.asn_base.specs.Abstract.{AbstractValue, oid, relative_oid}
use Rattle.asn_base.specs.Typed.{IsObjectIdentifier, arcs, IsRelativeOid, IsPrimitive, fits_oid, fits_relative_oid}
use Rattle.asn_base.specs.Types.{an_object_identifier, a_relative_oid}
use Rattle.encodings.specs.Contents.{Contents, joined, of_oid as contents_oid, of_relative_oid as contents_relative}
use Rattle.encodings.specs.Rules.{Basic}
use Rattle.encodings.specs.declared.leaf_kind.LeafKind.TheVariants as kinds
use Rattle.primitive_reader.specs.declared.fault.LeafFault.TheVariants as leaf_faults
use Rattle.primitive_reader.specs.declared.leaf.Leaf.{Leaf as ReadLeaf}
use Rattle.primitive_reader.specs.Leaves.{ReadsContents}
use Rattle.primitive_reader.specs.Refused.{IsRightFault, without_form, oid_past, relative_past}
use Rattle.packed_readings.specs.Code.{judge_oid, judge_relative}
use Rattle.encodings.specs.Header.{Octets, septets}
use Rattle.encodings.specs.proving.Fronts.{head_or_0}
use Rattle.encodings.specs.proving.Septets.{Septets, last_septet, more_septets, number_spelled, spelling_read, never_zero}
use Rattle.packed_encodings.specs.Computed.{all_below}
use Rattle.packed_encodings.specs.Lengths.{Bits, CountedOctets}
use Rattle.packed_encodings.specs.Leaves.{LeafPer, of_oid, of_relative_oid}
use Rattle.decode_faults.specs.declared.refusal.Refusal.TheVariants as why
use Rattle.packed_readings.specs.Outcome.{good, bad, found, onward, verdict, IsReading, IsJudged, judging}
use Rattle.packed_readings.specs.Composing.{judged, same}
use Rattle.packed_readings.specs.Counts.{octets_from}
use Rattle.packed_readings.specs.Leaves.{arcs_after, two_arcs, object_identifier, relative_identifier, IsLeafOf}
use Rattle.packed_readings.proofs.Fields.{if_true, if_false}
use Rattle.packed_encodings.specs.proving.Tests.{both_true, true_both, below_true, below_is}
use Rattle.packed_readings.proofs.Sizes.{good_is, not_good}
use Rattle.packed_readings.proofs.Octets.{octets}

-- ---- all numbers

some_same : {A : Type 0} {x y : A} → Some x ≡ Some y → x ≡ y
some_same e = cc

none_some : {A : Type 0} {x : A} → None ≡ Some x → ⊥
none_some e = cc

abbrev with_one : ℕ → Option (List ℕ) → Option (List ℕ)
with_one n = option_map (λ ns. n ∷ ns)

record WithOne (n : ℕ) (o : Option (List ℕ)) (ms : List ℕ) : Type 0 where
  others : List ℕ
  are : o ≡ Some others
  whole : ms ≡ n ∷ others

with_one_is : (n : ℕ) (o : Option (List ℕ)) (ms : List ℕ) → with_one n o ≡ Some ms → WithOne n o ms
with_one_is n None ms e = absurd (none_some e)
with_one_is n (Some ns) ms e = record { others = ns; are = refl; whole = sym (some_same e) }

goes_on : {h n : ℕ} {o rest : Octets} → Septets h o n rest → arcs_after (Some h) o ≡ with_one n (arcs_after None rest)
goes_on {h} (last_septet {x = x} {n = n} {rest = rest} l e) =
    if_true (nat_lt x 128) (with_one (128 * h + x) (arcs_after None rest)) (arcs_after (Some (128 * h + (x - 128))) rest) (lt-ltb x 128 l)
    ∙ ap (λ q. with_one q (arcs_after None rest)) (let k : 128 * h + x ≡ n = omega (arith, e) in k)
goes_on {h} (more_septets {x = x} {y = y} {n = n} {o = o} {rest = rest} l e s) =
    if_false (nat_lt y 128) (with_one (128 * h + y) (arcs_after None o)) (arcs_after (Some (128 * h + (y - 128))) o) (le-ltb y 128 (omega (arith, e)))
    ∙ ap (λ q. arcs_after (Some q) o) (let k : 128 * h + (y - 128) ≡ h * 128 + x = omega (arith, e) in k)
    ∙ goes_on s

begins : (x : ℕ) (o : Octets) → (x ≡ 128 → ⊥) → arcs_after None (x ∷ o) ≡ arcs_after (Some 0) (x ∷ o)
begins x o n = ⊎_elim
    (λ l. if_true (nat_lt x 128) (with_one x (arcs_after None o)) later (lt-ltb x 128 l)
    ∙ ap (λ q. with_one q (arcs_after None o)) (let k : x ≡ 128 * 0 + x = omega arith in k)
    ∙ sym (if_true (nat_lt x 128) (with_one (128 * 0 + x) (arcs_after None o)) (arcs_after (Some (128 * 0 + (x - 128))) o) (lt-ltb x 128 l)))
    (λ g. if_false (nat_lt x 128) (with_one x (arcs_after None o)) later (le-ltb x 128 g)
    ∙ if_false (x == 128) None (arcs_after (Some (x - 128)) o) (false_from_ne_true (x == 128) (λ e. n (eqb-true x 128 e)))
    ∙ ap (λ q. arcs_after (Some q) o) (let k : x - 128 ≡ 128 * 0 + (x - 128) = omega arith in k)
    ∙ sym (if_false (nat_lt x 128) (with_one (128 * 0 + x) (arcs_after None o)) (arcs_after (Some (128 * 0 + (x - 128))) o) (le-ltb x 128 g)))
    (cases_lt x 128)
  where
    later : Option (List ℕ)
    later = if x == 128 then None else arcs_after (Some (x - 128)) o

one_arc : (n : ℕ) (r : Octets) → arcs_after None (septets n ++ r) ≡ with_one n (arcs_after None r)
one_arc n r = by (septets n ++ r) refl (spelling_read n (septets n ++ r) r refl)
  where
    by : (o : Octets) → septets n ++ r ≡ o → Septets 0 o n r → arcs_after None o ≡ with_one n (arcs_after None r)
    by [] e s = elim s [ ]
    by (x ∷ o) e s = begins x o (λ f. never_zero n (x ∷ o) r f (sym e)) ∙ goes_on s

pub are_arcs : (ns : List ℕ) → arcs_after None (flat_map septets ns) ≡ Some ns
are_arcs [] = refl
are_arcs (n ∷ ns) = one_arc n (flat_map septets ns) ∙ ap (with_one n) (are_arcs ns)

record Ends (high : ℕ) (o : Octets) (ms : List ℕ) : Type 0 where
  number : ℕ
  others : List ℕ
  rest : Octets
  whole : ms ≡ number ∷ others
  septets_are : Septets high o number rest
  rest_is : rest ≡ flat_map septets others

by_first : (high x : ℕ) (o : Octets) (ms : List ℕ) → x < 256 → (t : Bool) → nat_lt x 128 ≡ t → (if t then with_one (128 * high + x) (arcs_after None o) else arcs_after (Some (128 * high + (x - 128))) o) ≡ Some ms → ((ns : List ℕ) → arcs_after None o ≡ Some ns → o ≡ flat_map septets ns) → (arcs_after (Some (128 * high + (x - 128))) o ≡ Some ms → Ends (128 * high + (x - 128)) o ms) → Ends high (x ∷ o) ms
by_first high x o ms b true f e all more =
    let w = with_one_is (128 * high + x) (arcs_after None o) ms e in
    record {
      number = 128 * high + x;
      others = w.others;
      rest = o;
      whole = w.whole;
      septets_are = last_septet (ltb-true x 128 f) (omega arith);
      rest_is = all w.others w.are;
    }
by_first high x o ms b false f e all more =
    let k = more e in
    let g = ltb-false x 128 f in
    record {
      number = k.number;
      others = k.others;
      rest = k.rest;
      whole = k.whole;
      septets_are = more_septets (let l : x - 128 < 128 = omega (arith, b) in l) (omega (arith, g)) (subst (λ q. Septets q o k.number k.rest) (let q : 128 * high + (x - 128) ≡ high * 128 + (x - 128) = omega arith in q) k.septets_are);
      rest_is = k.rest_is;
    }

not_first : (x : ℕ) (o : Octets) → (x ≡ 128 → ⊥) → (b : Octets) → x ∷ o ≡ 128 ∷ b → ⊥
not_first x o n b e = n (ap head_or_0 e)

begin_one : (x : ℕ) (o : Octets) (ns : List ℕ) → x < 256 → (t : Bool) → nat_lt x 128 ≡ t → (u : Bool) → (x == 128) ≡ u → (if t then with_one x (arcs_after None o) else (if u then None else arcs_after (Some (x - 128)) o)) ≡ Some ns → ((ns : List ℕ) → arcs_after None o ≡ Some ns → o ≡ flat_map septets ns) → (arcs_after (Some (x - 128)) o ≡ Some ns → Ends (x - 128) o ns) → x ∷ o ≡ flat_map septets ns
begin_one x o ns b true f u h e all more =
    let w = with_one_is x (arcs_after None o) ns e in
    let l = ltb-true x 128 f in
    number_spelled x (x ∷ o) o (last_septet l (omega arith)) (not_first x o (λ g. (let k : x ≡ 128 = g in omega (arith, k, l))))
    ∙ ap (λ q. septets x ++ q) (all w.others w.are) ∙ ap (flat_map septets) (sym w.whole)
begin_one x o ns b false f true h e all more = absurd (none_some e)
begin_one x o ns b false f false h e all more =
    let k = more e in
    let g = ltb-false x 128 f in
    let s : Septets 0 (x ∷ o) k.number k.rest = more_septets (let l : x - 128 < 128 = omega (arith, b) in l) (omega (arith, g)) (subst (λ q. Septets q o k.number k.rest) (let q : x - 128 ≡ 0 * 128 + (x - 128) = omega arith in q) k.septets_are) in
    number_spelled k.number (x ∷ o) k.rest s (not_first x o (λ g. eqb-false x 128 h g))
    ∙ ap (λ q. septets k.number ++ q) k.rest_is ∙ ap (flat_map septets) (sym k.whole)

mutual
  ends : (high : ℕ) (o : Octets) (ms : List ℕ) → AllBelowBase 256 o → arcs_after (Some high) o ≡ Some ms → Ends high o ms
  ends high [] ms a e = absurd (none_some e)
  ends high (x ∷ o) ms a e = by_first high x o ms a.0 (nat_lt x 128) refl e (λ ns f. arcs_are o ns a.1 f) (λ f. ends (128 * high + (x - 128)) o ms a.1 f)

  arcs_are : (o : Octets) (ns : List ℕ) → AllBelowBase 256 o → arcs_after None o ≡ Some ns → o ≡ flat_map septets ns
  arcs_are [] ns a e = ap (flat_map septets) (some_same e)
  arcs_are (x ∷ o) ns a e = begin_one x o ns a.0 (nat_lt x 128) refl (x == 128) refl e (λ ns f. arcs_are o ns a.1 f) (λ f. ends (x - 128) o ns a.1 f)

-- ---- OBJECT IDENTIFIER

record IsOid (w : AbstractValue) (o : Octets) : Type 0 where
  numbers : List ℕ
  is : w ≡ oid numbers
  identifier : IsObjectIdentifier numbers
  contents : o ≡ flat_map septets (joined numbers)

two : (n : ℕ) (ns : List ℕ) → n < 2 ^ 64 + 80 → AllByRecursion (λ z. z < 2 ^ 64) ns → length ns ≤ 62 → IsObjectIdentifier (two_arcs n ns) × (joined (two_arcs n ns) ≡ n ∷ ns)
two n ns l a k = by (nat_lt n 80) refl
  where
    by : (t : Bool) → nat_lt n 80 ≡ t → IsObjectIdentifier (if t then (n / 40) ∷ ((n % 40) ∷ ns) else 2 ∷ ((n - 80) ∷ ns)) × (joined (if t then (n / 40) ∷ ((n % 40) ∷ ns) else 2 ∷ ((n - 80) ∷ ns)) ≡ n ∷ ns)
    by true e =
        let h = ltb-true n 80 e in (
          arcs (let q : n / 40 ≤ 2 = omega (arith, h) in q) (λ f. (let q : n % 40 < 40 = omega arith in q)) (let q : n % 40 < 2 ^ 64 = omega arith in q) a k,
          ap (λ q. q ∷ ns) (let q : 40 * (n / 40) + n % 40 ≡ n = omega arith in q),
        )
    by false e =
        let h = ltb-false n 80 e in (
          arcs (omega arith) (λ f. absurd (omega (arith, f))) (let q : n - 80 < 2 ^ 64 = omega (arith, l, h) in q) a k,
          ap (λ q. q ∷ ns) (let q : 40 * 2 + (n - 80) ≡ n = omega (arith, h) in q),
        )

abbrev small_oid : ℕ → List ℕ → Bool
small_oid n ns = nat_lt n (2 ^ 64 + 80) && (all_below (2 ^ 64) ns && nat_lt (length ns) 63)

oid_at : (o : Octets) (w : AbstractValue) (a : Option (List ℕ)) → ((ns : List ℕ) → a ≡ Some ns → o ≡ flat_map septets ns) → object_identifier a ≡ good w → IsOid w o
oid_at o w None f e = absurd (not_good e)
oid_at o w (Some []) f e = absurd (not_good e)
oid_at o w (Some (n ∷ ns)) f e = by (small_oid n ns) refl e
  where
    by : (t : Bool) → small_oid n ns ≡ t → (if t then good (oid (two_arcs n ns)) else bad why.OidLimit) ≡ good w → IsOid w o
    by true g e =
        let p = true_both (nat_lt n (2 ^ 64 + 80)) (all_below (2 ^ 64) ns && nat_lt (length ns) 63) g in
        let q = true_both (all_below (2 ^ 64) ns) (nat_lt (length ns) 63) p.1 in
        let k = ltb-true (length ns) 63 q.1 in
        let t = two n ns (ltb-true n (2 ^ 64 + 80) p.0) (below_is (2 ^ 64) ns q.0) (omega (arith, k)) in
        record { numbers = two_arcs n ns; is = sym (good_is e); identifier = t.0; contents = f (n ∷ ns) refl ∙ ap (flat_map septets) (sym t.1) }
    by false g e = absurd (not_good e)

arcs_again : (x y : ℕ) (zs : List ℕ) → x ≤ 2 → (x < 2 → y < 40) → two_arcs (40 * x + y) zs ≡ x ∷ (y ∷ zs)
arcs_again x y zs l h = ⊎_elim
    (λ k. (let b = h k in
    if_true (nat_lt (40 * x + y) 80) (((40 * x + y) / 40) ∷ (((40 * x + y) % 40) ∷ zs)) (2 ∷ ((40 * x + y - 80) ∷ zs)) (lt-ltb (40 * x + y) 80 (omega (arith, k, b)))
    ∙ ap (λ q. q ∷ (((40 * x + y) % 40) ∷ zs)) (let q : (40 * x + y) / 40 ≡ x = omega (arith, b) in q)
    ∙ ap (λ q. x ∷ (q ∷ zs)) (let q : (40 * x + y) % 40 ≡ y = omega (arith, b) in q)))
    (λ k. (
    if_false (nat_lt (40 * x + y) 80) (((40 * x + y) / 40) ∷ (((40 * x + y) % 40) ∷ zs)) (2 ∷ ((40 * x + y - 80) ∷ zs)) (le-ltb (40 * x + y) 80 (omega (arith, k)))
    ∙ ap (λ q. q ∷ ((40 * x + y - 80) ∷ zs)) (let q : 2 ≡ x = omega (arith, l, k) in q)
    ∙ ap (λ q. x ∷ (q ∷ zs)) (let q : 40 * x + y - 80 ≡ y = omega (arith, l, k) in q)))
    (cases_lt x 2)

oid_of : (o : Octets) (ns : List ℕ) (w : AbstractValue) → IsObjectIdentifier ns → w ≡ oid ns → o ≡ flat_map septets (joined ns) → object_identifier (arcs_after None o) ≡ good w
oid_of o ns w (arcs {x = x} {y = y} {zs = zs} a b c d f) e g =
    ap object_identifier (ap (arcs_after None) g ∙ are_arcs ((40 * x + y) ∷ zs))
    ∙ if_true (small_oid (40 * x + y) zs) (good (oid (two_arcs (40 * x + y) zs))) (bad why.OidLimit)
    (both_true (nat_lt (40 * x + y) (2 ^ 64 + 80)) (all_below (2 ^ 64) zs && nat_lt (length zs) 63) (lt-ltb (40 * x + y) (2 ^ 64 + 80) (omega (arith, a, c)))
    (both_true (all_below (2 ^ 64) zs) (nat_lt (length zs) 63) (below_true (2 ^ 64) zs d) (lt-ltb (length zs) 63 (omega (arith, f)))))
    ∙ ap (λ q. good (oid q)) (arcs_again x y zs a b) ∙ ap good (sym e)

taken_oid : {w : AbstractValue} {b : Bits} → LeafPer an_object_identifier w b → (o : Octets) × IsOid w o × CountedOctets o b
taken_oid (of_oid {ns = ns} i c) = (flat_map septets (joined ns), record { numbers = ns; is = refl; identifier = i; contents = refl }, c)

pub object_identifiers : IsReading (IsLeafOf an_object_identifier) (judging judge_oid octets_from)
object_identifiers = same to from (judged judge_oid octets)
  where
    to : (w : AbstractValue) (b : Bits) → IsJudged CountedOctets judge_oid w b → IsLeafOf an_object_identifier w b
    to w b j =
        let t = oid_at j.read w (arcs_after None j.read) (λ ns e. arcs_are j.read ns j.is_read.octets e) j.judged in
        record {
          leaf = subst (λ q. LeafPer an_object_identifier q b) (sym t.is) (of_oid t.identifier (subst (λ q. CountedOctets q b) t.contents j.is_read));
          fits = subst (IsPrimitive an_object_identifier) (sym t.is) (fits_oid t.identifier);
        }

    from : (w : AbstractValue) (b : Bits) → IsLeafOf an_object_identifier w b → IsJudged CountedOctets judge_oid w b
    from w b l =
        let t = taken_oid l.leaf in
        record { read = t.0; is_read = t.2; judged = oid_of t.0 t.1.numbers w t.1.identifier t.1.is t.1.contents }

-- ---- RELATIVE-OID

record IsRelative (w : AbstractValue) (o : Octets) : Type 0 where
  numbers : List ℕ
  is : w ≡ relative_oid numbers
  identifier : IsRelativeOid numbers
  contents : o ≡ flat_map septets numbers

abbrev small_relative : List ℕ → Bool
small_relative ns = all_below (2 ^ 64) ns && nat_lt (length ns) 65

relative_at : (o : Octets) (w : AbstractValue) (a : Option (List ℕ)) → ((ns : List ℕ) → a ≡ Some ns → o ≡ flat_map septets ns) → relative_identifier a ≡ good w → IsRelative w o
relative_at o w None f e = absurd (not_good e)
relative_at o w (Some []) f e = absurd (not_good e)
relative_at o w (Some (n ∷ ns)) f e = by (small_relative (n ∷ ns)) refl e
  where
    by : (t : Bool) → small_relative (n ∷ ns) ≡ t → (if t then good (relative_oid (n ∷ ns)) else bad why.OidLimit) ≡ good w → IsRelative w o
    by true g e =
        let p = true_both (all_below (2 ^ 64) (n ∷ ns)) (nat_lt (length (n ∷ ns)) 65) g in
        let k = ltb-true (length (n ∷ ns)) 65 p.1 in
        record {
          numbers = n ∷ ns;
          is = sym (good_is e);
          identifier = record { some = omega arith; at_most = omega (arith, k); small = below_is (2 ^ 64) (n ∷ ns) p.0 };
          contents = f (n ∷ ns) refl;
        }
    by false g e = absurd (not_good e)

relative_of : (o : Octets) (ns : List ℕ) (w : AbstractValue) → IsRelativeOid ns → w ≡ relative_oid ns → o ≡ flat_map septets ns → relative_identifier (arcs_after None o) ≡ good w
relative_of o [] w i e g = absurd (let l = i.some in omega (arith, l))
relative_of o (n ∷ ns) w i e g =
    let k = i.at_most in
    ap relative_identifier (ap (arcs_after None) g ∙ are_arcs (n ∷ ns))
    ∙ if_true (small_relative (n ∷ ns)) (good (relative_oid (n ∷ ns))) (bad why.OidLimit) (both_true (all_below (2 ^ 64) (n ∷ ns)) (nat_lt (length (n ∷ ns)) 65) (below_true (2 ^ 64) (n ∷ ns) i.small) (lt-ltb (length (n ∷ ns)) 65 (omega (arith, k))))
    ∙ ap good (sym e)

taken_relative : {w : AbstractValue} {b : Bits} → LeafPer a_relative_oid w b → (o : Octets) × IsRelative w o × CountedOctets o b
taken_relative (of_relative_oid {ns = ns} i c) = (flat_map septets ns, record { numbers = ns; is = refl; identifier = i; contents = refl }, c)

pub relative_identifiers : IsReading (IsLeafOf a_relative_oid) (judging judge_relative octets_from)
relative_identifiers = same to from (judged judge_relative octets)
  where
    to : (w : AbstractValue) (b : Bits) → IsJudged CountedOctets judge_relative w b → IsLeafOf a_relative_oid w b
    to w b j =
        let t = relative_at j.read w (arcs_after None j.read) (λ ns e. arcs_are j.read ns j.is_read.octets e) j.judged in
        record {
          leaf = subst (λ q. LeafPer a_relative_oid q b) (sym t.is) (of_relative_oid t.identifier (subst (λ q. CountedOctets q b) t.contents j.is_read));
          fits = subst (IsPrimitive a_relative_oid) (sym t.is) (fits_relative_oid t.identifier);
        }

    from : (w : AbstractValue) (b : Bits) → IsLeafOf a_relative_oid w b → IsJudged CountedOctets judge_relative w b
    from w b l =
        let t = taken_relative l.leaf in
        record { read = t.0; is_read = t.2; judged = relative_of t.0 t.1.numbers w t.1.identifier t.1.is t.1.contents }

-- ---- as calls judge them

numbers_of : {v : AbstractValue} {x : Octets} → Contents Basic an_object_identifier v false x → (ns : List ℕ) × IsObjectIdentifier ns × (x ≡ flat_map septets (joined ns))
numbers_of (contents_oid {ns = ns} i) = (ns, i, refl)

relative_numbers : {v : AbstractValue} {x : Octets} → Contents Basic a_relative_oid v false x → (ns : List ℕ) × IsRelativeOid ns × (x ≡ flat_map septets ns)
relative_numbers (contents_relative {ns = ns} i) = (ns, i, refl)

pub oid_there : (x : Octets) (l : ReadLeaf) → ReadsContents kinds.ObjectIdentifier x l → (ns : List ℕ) × IsObjectIdentifier ns × (x ≡ flat_map septets (joined ns))
oid_there x l r = numbers_of r.is_read.contents

pub oid_outside : (x : Octets) → AllBelowBase 256 x → IsRightFault leaf_faults.BadContents kinds.ObjectIdentifier x → judge_oid x ≡ bad why.Outside
oid_outside x b (without_form h) = by (arcs_after None x) refl
  where
    by : (o : Option (List ℕ)) → arcs_after None x ≡ o → object_identifier o ≡ bad why.Outside
    by None e = refl
    by (Some []) e = refl
    by (Some (n ∷ ns)) e = absurd (h (n ∷ ns, record { some = omega arith; whole = arcs_are x (n ∷ ns) b e }))

some_arcs : (x : Octets) (ns : List ℕ) → x ≡ flat_map septets ns → arcs_after None x ≡ Some ns
some_arcs x ns e = ap (arcs_after None) e ∙ are_arcs ns

pub oid_limit : (x : Octets) → IsRightFault leaf_faults.OidLimit kinds.ObjectIdentifier x → judge_oid x ≡ bad why.OidLimit
oid_limit x (oid_past {ns = ns} a h) = ap object_identifier (some_arcs x ns a.whole) ∙ by ns a.some h
  where
    by : (ns : List ℕ) → 1 ≤ length ns → ((ms : List ℕ) → IsObjectIdentifier ms → joined ms ≡ ns → ⊥) → object_identifier (Some ns) ≡ bad why.OidLimit
    by [] l h = absurd (omega (arith, l))
    by (n ∷ ns) l h = small (small_oid n ns) refl
      where
        small : (t : Bool) → small_oid n ns ≡ t → (if t then good (oid (two_arcs n ns)) else bad why.OidLimit) ≡ bad why.OidLimit
        small true g =
            let p = true_both (nat_lt n (2 ^ 64 + 80)) (all_below (2 ^ 64) ns && nat_lt (length ns) 63) g in
            let q = true_both (all_below (2 ^ 64) ns) (nat_lt (length ns) 63) p.1 in
            let k = ltb-true (length ns) 63 q.1 in
            let t = two n ns (ltb-true n (2 ^ 64 + 80) p.0) (below_is (2 ^ 64) ns q.0) (omega (arith, k)) in
            absurd (h (two_arcs n ns) t.0 t.1)
        small false g = refl

pub oid_never : (x : Octets) → IsRightFault leaf_faults.IntegerLimit kinds.ObjectIdentifier x → ⊥
oid_never x s = elim s [ ]

pub relative_there : (x : Octets) (l : ReadLeaf) → ReadsContents kinds.RelativeOid x l → (ns : List ℕ) × IsRelativeOid ns × (x ≡ flat_map septets ns)
relative_there x l r = relative_numbers r.is_read.contents

pub relative_outside : (x : Octets) → AllBelowBase 256 x → IsRightFault leaf_faults.BadContents kinds.RelativeOid x → judge_relative x ≡ bad why.Outside
relative_outside x b (without_form h) = by (arcs_after None x) refl
  where
    by : (o : Option (List ℕ)) → arcs_after None x ≡ o → relative_identifier o ≡ bad why.Outside
    by None e = refl
    by (Some []) e = refl
    by (Some (n ∷ ns)) e = absurd (h (n ∷ ns, record { some = omega arith; whole = arcs_are x (n ∷ ns) b e }))

pub relative_limit : (x : Octets) → IsRightFault leaf_faults.OidLimit kinds.RelativeOid x → judge_relative x ≡ bad why.OidLimit
relative_limit x (relative_past {ns = ns} a h) = ap relative_identifier (some_arcs x ns a.whole) ∙ by ns a.some h
  where
    by : (ns : List ℕ) → 1 ≤ length ns → (IsRelativeOid ns → ⊥) → relative_identifier (Some ns) ≡ bad why.OidLimit
    by [] l h = absurd (omega (arith, l))
    by (n ∷ ns) l h = small (small_relative (n ∷ ns)) refl
      where
        small : (t : Bool) → small_relative (n ∷ ns) ≡ t → (if t then good (relative_oid (n ∷ ns)) else bad why.OidLimit) ≡ bad why.OidLimit
        small true g =
            let p = true_both (all_below (2 ^ 64) (n ∷ ns)) (nat_lt (length (n ∷ ns)) 65) g in
            let k = ltb-true (length (n ∷ ns)) 65 p.1 in
            absurd (h (record { some = omega arith; at_most = omega (arith, k); small = below_is (2 ^ 64) (n ∷ ns) p.0 }))
        small false g = refl

pub relative_never : (x : Octets) → IsRightFault leaf_faults.IntegerLimit kinds.RelativeOid x → ⊥
relative_never x s = elim s [ ]

pub oid_answer : (b r : Bits) (o ns v : List ℕ) → octets_from b ≡ found o r → IsObjectIdentifier ns → o ≡ flat_map septets (joined ns) → v ≡ ns → judging judge_oid octets_from b ≡ found (oid v) r
oid_answer b r o ns v e i g h =
    ap (λ q. onward q (λ v s. verdict (judge_oid v) b s)) e ∙ ap (λ k. verdict k b r) (oid_of o ns (oid ns) i refl g) ∙ ap (λ q. found (oid q) r) (sym h)

pub relative_answer : (b r : Bits) (o ns v : List ℕ) → octets_from b ≡ found o r → IsRelativeOid ns → o ≡ flat_map septets ns → v ≡ ns → judging judge_relative octets_from b ≡ found (relative_oid v) r
relative_answer b r o ns v e i g h =
    ap (λ q. onward q (λ v s. verdict (judge_relative v) b s)) e ∙ ap (λ k. verdict k b r) (relative_of o ns (relative_oid ns) i refl g) ∙ ap (λ q. found (relative_oid q) r) (sym h)
