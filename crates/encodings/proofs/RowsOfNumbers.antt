-- Worked rows of numbers in seven bits an octet: the greatest, and octets that are none.
use Rattle.std.proofs.Common.{arith, lit<, ◌≡◌, ℕ, ◌+◌, ◌/◌, ◌%◌, ◌<◌, ◌≤◌, ◌^◌, ⊎_elim, Bool, false, List, [], ◌∷◌, ◌++◌, length, map, get_or, refl, sym, ap, subst, ◌∙◌, length-append}
use Rattle.std.proofs.lemmas.Int.Digits.{first_digits_of}
use Rattle.std.specs.Prelude.{flat_map}
use Rattle.std.specs.Int.Digits.{digits_of}
use Rattle.asn_base.specs.Abstract.{AbstractValue, relative_oid}
use Rattle.asn_base.specs.Types.{Constraint, an_integer, an_object_identifier, a_relative_oid}
use Rattle.asn_base.specs.Typed.{IsObjectIdentifier, arcs}
use Rattle.encodings.specs.Rules.{Rules, Basic, Distinguished}
use Rattle.encodings.specs.Header.{identifier, septets}
use Rattle.encodings.specs.Fewest.{shortest_header}
use Rattle.encodings.specs.Contents.{joined, Contents, of_integer, of_oid, of_relative_oid}
use Rattle.encodings.specs.Encoding.{innermost, EncodesTo, says, ContentsEncode, leaf}
use Rattle.encodings.proofs.Headers.{shortest_is}
use Rattle.encodings.specs.proving.Marked.{septets_some}
use Rattle.encodings.proofs.Shortests.{lt_or_ge}
use Rattle.encodings.proofs.RowTypes.{rows, u2, u6}
use Rattle.encodings.proofs.RowsThatHold.{short_header, some_octet}
use Rattle.encodings.proofs.RowsThatFail.{inside}
use Rattle.encodings.proofs.RowsOfSizes.{greatest_number}
use Rattle.encodings.proofs.RowsOfClasses.{more, u13}

-- RELATIVE-OID {18446744073709551615} is 0D0A81FFFFFFFFFFFFFFFF7F
one_number : {r : Rules} (n : ℕ) (o : List ℕ) → n < 2 ^ 64 → septets n ≡ o → Contents r a_relative_oid (relative_oid (n ∷ [])) false (o ++ [])
one_number {r} n o l e = subst (λ q. Contents r a_relative_oid (relative_oid (n ∷ [])) false (q ++ [])) e (of_relative_oid (record { some = omega arith; at_most = omega arith; small = (l, tt) }))

pub greatest_relative : EncodesTo more Distinguished 10 (relative_oid (18446744073709551615 ∷ [])) 0 (13 ∷ 10 ∷ 129 ∷ 255 ∷ 255 ∷ 255 ∷ 255 ∷ 255 ∷ 255 ∷ 255 ∷ 255 ∷ 127 ∷ [])
unfolding identifier shortest_header
greatest_relative = says (record { found = refl }) (leaf (one_number 18446744073709551615 (129 ∷ 255 ∷ 255 ∷ 255 ∷ 255 ∷ 255 ∷ 255 ∷ 255 ∷ 255 ∷ 127 ∷ []) (lit< tt) greatest_number)) (innermost (shortest_is u13 false 10 (lit< tt)))

-- no number begins with 80
abbrev first_octet : List ℕ → ℕ
first_octet [] = 0
first_octet (x ∷ xs) = x

begins_above_80 : (n : ℕ) (ds xs : List ℕ) → digits_of 128 (n / 128) ≡ ds → first_octet ((map (λ d. 128 + d) ds ++ (n % 128) ∷ []) ++ xs) ≡ 128 → ⊥
begins_above_80 n [] xs e f = omega arith
begins_above_80 n (d ∷ ds) xs e f = ⊎_elim
    (λ l. (let g : 0 < get_or (d ∷ ds) 0 0 = subst (λ q. 0 < get_or q 0 0) e (first_digits_of 128 (n / 128) (omega arith) l) in omega arith))
    (λ g. (let z : n / 128 ≡ 0 = omega arith in let m = ap length (sym e ∙ ap (digits_of 128) z) in omega arith))
    (lt_or_ge 0 (n / 128))

not_80 : (ns xs : List ℕ) → flat_map septets ns ≡ 128 ∷ xs → ⊥
not_80 [] xs e = let l = ap length e in omega arith
not_80 (n ∷ ns) xs e = begins_above_80 n (digits_of 128 (n / 128)) (flat_map septets ns) refl (ap first_octet e)

not_none : (ns : List ℕ) → 1 ≤ length ns → flat_map septets ns ≡ [] → ⊥
not_none [] l e = omega arith
not_none (n ∷ ns) l e = let k = ap length e in omega (arith, k, septets_some n, length-append (septets n) (flat_map septets ns))

joined_some : {ns : List ℕ} → IsObjectIdentifier ns → 1 ≤ length (joined ns)
joined_some (arcs a b c d e) = omega arith

-- 0D00 and 0D028001, 0600 and 06028001 say nothing
relative_of_none : {r : Rules} {w : AbstractValue} {n : ℕ} {c : Bool} {x : List ℕ} → ContentsEncode more r a_relative_oid w n c x → x ≡ [] → ⊥
relative_of_none (leaf (of_relative_oid {ns = ns} a)) e = not_none ns a.some e

relative_from_80 : {r : Rules} {w : AbstractValue} {n : ℕ} {c : Bool} {x : List ℕ} → ContentsEncode more r a_relative_oid w n c x → x ≡ 128 ∷ 1 ∷ [] → ⊥
relative_from_80 (leaf (of_relative_oid {ns = ns} a)) e = not_80 ns (1 ∷ []) e

oid_of_none : {r : Rules} {w : AbstractValue} {n : ℕ} {c : Bool} {x : List ℕ} → ContentsEncode rows r an_object_identifier w n c x → x ≡ [] → ⊥
oid_of_none (leaf (of_oid {ns = ns} a)) e = not_none (joined ns) (joined_some a) e

oid_from_80 : {r : Rules} {w : AbstractValue} {n : ℕ} {c : Bool} {x : List ℕ} → ContentsEncode rows r an_object_identifier w n c x → x ≡ 128 ∷ 1 ∷ [] → ⊥
oid_from_80 (leaf (of_oid {ns = ns} a)) e = not_80 (joined ns) (1 ∷ []) e

pub no_relative_of_none : (w : AbstractValue) (n : ℕ) → EncodesTo more Basic 10 w n (13 ∷ 0 ∷ []) → ⊥
unfolding identifier
no_relative_of_none w n a = relative_of_none (inside {x = []} (record { found = refl }) (short_header u13 false 0 (lit< tt)) refl a) refl

pub no_relative_from_80 : (w : AbstractValue) (n : ℕ) → EncodesTo more Basic 10 w n (13 ∷ 2 ∷ 128 ∷ 1 ∷ []) → ⊥
unfolding identifier
no_relative_from_80 w n a = relative_from_80 (inside {x = 128 ∷ 1 ∷ []} (record { found = refl }) (short_header u13 false 2 (lit< tt)) refl a) refl

pub no_oid_of_none : (w : AbstractValue) (n : ℕ) → EncodesTo rows Basic 6 w n (6 ∷ 0 ∷ []) → ⊥
unfolding identifier
no_oid_of_none w n a = oid_of_none (inside {x = []} (record { found = refl }) (short_header u6 false 0 (lit< tt)) refl a) refl

pub no_oid_from_80 : (w : AbstractValue) (n : ℕ) → EncodesTo rows Basic 6 w n (6 ∷ 2 ∷ 128 ∷ 1 ∷ []) → ⊥
unfolding identifier
no_oid_from_80 w n a = oid_from_80 (inside {x = 128 ∷ 1 ∷ []} (record { found = refl }) (short_header u6 false 2 (lit< tt)) refl a) refl

-- nor does 0200
integer_of_none : {r : Rules} {k : Constraint} {w : AbstractValue} {n : ℕ} {c : Bool} {x : List ℕ} → ContentsEncode rows r (an_integer k) w n c x → x ≡ [] → ⊥
integer_of_none (leaf (of_integer a)) e = let l = some_octet a.is in let m = ap length e in omega arith

pub no_integer_of_none : (w : AbstractValue) (n : ℕ) → EncodesTo rows Basic 1 w n (2 ∷ 0 ∷ []) → ⊥
unfolding identifier
no_integer_of_none w n a = integer_of_none (inside {x = []} (record { found = refl }) (short_header u2 false 0 (lit< tt)) refl a) refl
