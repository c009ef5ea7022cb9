-- Worked rows of single rules: lengths, tags, runs, orders, and unknown additions of a SET.
use Rattle.std.proofs.Common.{arith, lit<, ◌≡◌, ℕ, ◌+◌, ⊎_elim, inl, inr, Bool, true, false, List, [], ◌∷◌, ◌++◌, length, refl, sym, ap, subst, ◌∙◌}
use Rattle.std.specs.List.{AllByRecursion}
use Rattle.asn_base.specs.declared.tag.Class.TheVariants.{Application}
use Rattle.asn_base.specs.Abstract.{AbstractValue, boolean, fields, end, present}
use Rattle.asn_base.specs.Types.{a_boolean, a_set, mandatory, optional, Is}
use Rattle.asn_base.specs.Tags.{First, first_tag, TagBefore, first_run, RunsApart}
use Rattle.encodings.specs.Rules.{Basic, Distinguished}
use Rattle.encodings.specs.Header.{identifier, Header, LengthOf, short, long}
use Rattle.encodings.specs.Fewest.{shortest_header}
use Rattle.encodings.specs.Contents.{of_true}
use Rattle.encodings.specs.Orders.{AtMost, BeginsWith, ascending_one, permutes_none, permutes_more, here as list_here, Merges, merges_none, merges_first, merges_second}
use Rattle.encodings.specs.Encoding.{Framed, innermost, outer, Unknown, no_unknown, unknown, extensible, last_run, EncodesTo, says, ContentsEncode, leaf, set, no_member, left_out, member}
use Rattle.encodings.proofs.Headers.{shortest_is}
use Rattle.encodings.proofs.Identifiers.{any_front}
use Rattle.encodings.proofs.Units.{IsUnit, says_unit}
use Rattle.encodings.proofs.Firsts.{one_tag, units_list, unknown_units}
use Rattle.encodings.proofs.Least.{framed_at}
use Rattle.asn_base.specs.proving.OneKind.{same_tags}
use Rattle.encodings.proofs.RowTypes.{rows, u2, u17, c0, c1, c2, a_component, rows_tagged, first_only}
use Rattle.encodings.proofs.RowsThatHold.{short_header, must_stand}
use Rattle.encodings.proofs.RowsThatFail.{inside}

abbrev first_octet : List ℕ → ℕ
first_octet [] = 0
first_octet (x ∷ xs) = x

-- 80 is the indefinite form and FF is kept back: neither begins a length
pub not_indefinite : {n : ℕ} {o : List ℕ} → LengthOf n o → first_octet o ≡ 128 → ⊥
not_indefinite (short h) e = omega arith
not_indefinite (long f) e = let l = f.some in omega arith

pub not_255 : {n : ℕ} {o : List ℕ} → LengthOf n o → first_octet o ≡ 255 → ⊥
not_255 (short h) e = omega arith
not_255 (long f) e = let l = f.at_most in omega arith

-- headers of the fewest octets
pub header_128 : shortest_header u2 false 128 ≡ 2 ∷ 129 ∷ 128 ∷ []
unfolding identifier shortest_header
header_128 = refl

-- a short list is filled with zeros
pub filled_up : AtMost (1 ∷ 0 ∷ []) (1 ∷ [])
filled_up = inr (refl, (refl, tt))

pub filled_down : AtMost (1 ∷ []) (1 ∷ 0 ∷ [])
filled_down = inr (refl, tt)

pub not_at_most : AtMost (1 ∷ 1 ∷ []) (1 ∷ []) → ⊥
not_at_most h = ⊎_elim (λ l. omega arith) (λ p. let e : 1 ≡ 0 = p.1.0 in omega arith) h

-- [APPLICATION 31] is before [0]
pub application_first : TagBefore (record { class = Application; number = 31; in_range = lit< tt; not_reserved = λ e. lit< tt }) c0
application_first = inl (lit< tt)

-- runs: the last one begins after the last component that must be present
pub after_the_last : last_run (a_component 14 optional ∷ a_component 0 mandatory ∷ a_component 9 optional ∷ []) ≡ a_component 9 optional ∷ []
after_the_last = refl

pub up_to_the_next : first_run (a_component 14 optional ∷ a_component 0 mandatory ∷ a_component 9 optional ∷ []) ≡ a_component 14 optional ∷ a_component 0 mandatory ∷ []
up_to_the_next = refl

-- the components of SEQUENCE {a INTEGER OPTIONAL, b INTEGER} can't be distinguished by their tags
pub clash : RunsApart rows (a_component 1 optional ∷ a_component 1 mandatory ∷ []) → ⊥
clash h = (h.0 refl).0 u2 (first_tag {ts = []} (record { found = refl })) (first_tag {ts = []} (record { found = refl }))

-- 81038201FF says nothing of [1] EXPLICIT [2] IMPLICIT BOOLEAN: an explicit tag is constructed
primitive_outside : Header c1 false 3 (129 ∷ 3 ∷ [])
unfolding identifier
primitive_outside = short_header c1 false 3 (lit< tt)

not_constructed : {c : Bool} {x o : List ℕ} → Framed Basic (c1 ∷ c2 ∷ []) c x o → o ≡ (129 ∷ 3 ∷ []) ++ (130 ∷ 1 ∷ 255 ∷ []) → ⊥
not_constructed (outer {h = h} {y = y} f a) e =
    let r = any_front c1 c1 true false (length y) 3 h (129 ∷ 3 ∷ []) y (130 ∷ 1 ∷ 255 ∷ []) a.header primitive_outside e in
    let g : true ≡ false = r.forms in cc

pub explicit_is_constructed : (w : AbstractValue) (n : ℕ) → EncodesTo rows Basic 12 w n (129 ∷ 3 ∷ 130 ∷ 1 ∷ 255 ∷ []) → ⊥
explicit_is_constructed w n (says i h fr) = not_constructed (framed_at (same_tags (is_12) i) fr) refl
  where
    is_12 : Is rows 12 (c1 ∷ c2 ∷ []) a_boolean
    is_12 = record { found = refl }

-- SET {a [1] BOOLEAN, ...}: 31068001008101FF encodes {a TRUE} with one unknown addition, which may be anywhere
true_at : EncodesTo rows Distinguished 9 (boolean true) 0 (129 ∷ 1 ∷ 255 ∷ [])
unfolding identifier shortest_header
true_at = says (record { found = refl }) (leaf (of_true (lit< tt) (lit< tt) refl)) (innermost (shortest_is c1 false 1 (lit< tt)))

other : First rows 9 c0 → ⊥
other f = let e = ap (λ g. g.number) (first_only {t = 9} refl f) in omega arith

pub unknown_in_front : EncodesTo rows Distinguished 24 (fields (present (boolean true) end)) 1 (49 ∷ 6 ∷ 128 ∷ 1 ∷ 0 ∷ 129 ∷ 1 ∷ 255 ∷ [])
unfolding identifier shortest_header
unknown_in_front = says (record { found = refl })
    (set (member true_at (λ z d. must_stand d.0 d.1) no_member) (permutes_more permutes_none list_here) ascending_one
    (extensible (unknown {g = c0} {c = false} {h = 128 ∷ 1 ∷ []} (0 ∷ []) (short_header c0 false 1 (lit< tt)) (lit< tt, tt) ((λ f. other f), tt) no_unknown))
    (merges_second (merges_first merges_none)))
    (innermost (shortest_is u17 true 6 (lit< tt)))

-- 31068101FF8101FF isn't an encoding of it: a known component is there twice
begins_known : BeginsWith c1 (129 ∷ 1 ∷ 255 ∷ [])
unfolding identifier
begins_known = record { constructed = false; count = 1; header = 129 ∷ 1 ∷ []; rest = 255 ∷ []; is_header = short_header c1 false 1 (lit< tt); whole = refl }

known_unit : IsUnit (129 ∷ 1 ∷ 255 ∷ [])
unfolding identifier
known_unit = record { tag = c1; constructed = false; header = 129 ∷ 1 ∷ []; rest = 255 ∷ []; is_header = short_header c1 false 1 (lit< tt); whole = refl }

is_known : First rows 9 c1
is_known = first_tag {ts = []} (record { found = refl })

none_known : {k : ℕ} {us : List (List ℕ)} (x : List ℕ) (xs : List (List ℕ)) → Unknown rows (a_component 9 mandatory ∷ []) k us → us ≡ x ∷ xs → x ≡ 129 ∷ 1 ∷ 255 ∷ [] → ⊥
none_known x xs no_unknown e f = let l = ap length e in omega arith
none_known x xs (unknown {g = g} {c = c} {h = h} y hd b n u) e f =
    let begins : BeginsWith g (129 ∷ 1 ∷ 255 ∷ []) = subst (BeginsWith g) (ap head_of e ∙ f) (record { constructed = c; count = length y; header = h; rest = y; is_header = hd; whole = refl }) in
    n.0 (subst (First rows 9) (one_tag c1 g (129 ∷ 1 ∷ 255 ∷ []) begins_known begins) is_known)
  where
    head_of : List (List ℕ) → List ℕ
    head_of [] = []
    head_of (x ∷ xs) = x

abbrev IsKnown : List ℕ → Type 0
IsKnown x = x ≡ 129 ∷ 1 ∷ 255 ∷ []

of_second : (P : List ℕ → Type 0) {zs us ms : List (List ℕ)} → Merges zs us ms → AllByRecursion P ms → AllByRecursion P us
of_second P merges_none a = tt
of_second P (merges_first m) a = of_second P m a.1
of_second P (merges_second m) a = (a.0, of_second P m a.1)

of_both : (P : List ℕ → Type 0) {zs us ms : List (List ℕ)} → Merges zs us ms → AllByRecursion P zs → AllByRecursion P us → AllByRecursion P ms
of_both P merges_none a b = tt
of_both P (merges_first m) a b = (a.0, of_both P m a.1 b)
of_both P (merges_second m) a b = (b.0, of_both P m a b.1)

merged_length : {zs us ms : List (List ℕ)} → Merges zs us ms → length ms ≡ length zs + length us
merged_length merges_none = refl
merged_length (merges_first m) = let e = merged_length m in omega arith
merged_length (merges_second m) = let e = merged_length m in omega arith

one_of : {k : ℕ} (us : List (List ℕ)) → Unknown rows (a_component 9 mandatory ∷ []) k us → AllByRecursion IsKnown us → length us ≡ 1 → ⊥
one_of [] u a l = omega arith
one_of (x ∷ xs) u a l = none_known x xs u refl a.0

twice : {w : AbstractValue} {n : ℕ} {c : Bool} {x : List ℕ} → ContentsEncode rows Basic (a_set true (a_component 9 mandatory ∷ [])) w n c x → x ≡ 129 ∷ 1 ∷ 255 ∷ 129 ∷ 1 ∷ 255 ∷ [] → ⊥
twice (set (left_out m ms) p st (extensible u) mg) e = let f : true ≡ false = m in cc
twice (set {us = us} {ys = ys} (member {x = x} a nd no_member) (permutes_more permutes_none list_here) st (extensible u) mg) e =
    let ys_are = units_list ys ((129 ∷ 1 ∷ 255 ∷ []) ∷ (129 ∷ 1 ∷ 255 ∷ []) ∷ []) (of_both IsUnit mg (says_unit rows_tagged a, tt) (unknown_units u)) (known_unit, (known_unit, tt)) e in
    let l = ap length ys_are in
    one_of us u (of_second IsKnown mg (subst (AllByRecursion IsKnown) (sym ys_are) (refl, (refl, tt)))) (omega (arith, l, merged_length mg))
twice (leaf con) e = elim con [ ]

pub component_twice : (w : AbstractValue) (n : ℕ) → EncodesTo rows Basic 24 w n (49 ∷ 6 ∷ 129 ∷ 1 ∷ 255 ∷ 129 ∷ 1 ∷ 255 ∷ []) → ⊥
unfolding identifier
component_twice w n a = twice (inside {x = 129 ∷ 1 ∷ 255 ∷ 129 ∷ 1 ∷ 255 ∷ []} (record { found = refl }) (short_header u17 true 6 (lit< tt)) refl a) refl
