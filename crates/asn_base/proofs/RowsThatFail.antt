-- Worked rows: what is no value of a type, and what is not alike.
use Rattle.std.proofs.Common.{arith, ◌≡◌, ℕ, suc, ⊎_elim, inl, Bool, true, false, List, [], ◌∷◌, ◌++◌, length, replicate, refl, sym, ap, ◌∙◌}
use Rattle.std.proofs.lemmas.Int.{ints}
use Rattle.std.specs.Prelude.{ℤ, pos, Some, None, chars}
use Rattle.asn_base.specs.declared.strings.StringKind.TheVariants.{Numeric}
use Rattle.asn_base.specs.Abstract.{AbstractValue, integer, enumerated, bits, octets, text, null, fields, list, alternative, Row, end, absent, present}
use Rattle.asn_base.specs.Names.{IsMember, is_first, is_later}
use Rattle.asn_base.specs.Types.{Constraint, NamedBit, Alternative, Presence, mandatory, optional, default, addition, Component, Kind, a_boolean, an_integer, an_enumerated, a_bit_string, a_named_bit_string, an_octet_string, a_null, a_utf8_string, a_restricted_string, a_sequence, a_set, a_sequence_of, a_set_of, a_choice, Resolved}
use Rattle.asn_base.specs.Typed.{IsPrimitive, fits_integer, fits_enumerated, fits_bits, fits_octets, fits_utf8, fits_restricted, ValueOf, of_leaf, of_sequence, of_set, of_sequence_of, of_set_of, of_choice, members, component_absent, component_present}
use Rattle.asn_base.specs.Same.{Alike, alike, AlikeBy, equal, zeros, alike_choice, AlikeComponents, first_default, AlikeElements, alike_element, AlikeInAnyOrder, none_left, pair, Inserted, here, there}
use Rattle.asn_base.specs.Tags.{first_tag, AllHaveDistinctTags}
use Rattle.asn_base.proofs.Rows.{to_7, row}
use Rattle.asn_base.proofs.Sameness.{by_at}
use Rattle.asn_base.specs.proving.OneKind.{same_kind}
use Rattle.asn_base.specs.proving.OneDefault.{default_in}

-- ---- sizes and ranges: eight if at most seven are allowed

pub nine : IsPrimitive (an_integer to_7) (integer (pos 9)) → ⊥
nine (fits_integer l a) = ⊎_elim (λ h. (let g = h.1 in omega (arith, ints))) (λ b. b) a

pub eight_bits : (s : List Bool) → length s ≡ 8 → IsPrimitive (a_bit_string to_7) (bits s) → ⊥
eight_bits s e (fits_bits a) = ⊎_elim (λ h. (let g = h.1 in omega (arith, ints))) (λ b. b) a

pub eight_octets : (o : List ℕ) → length o ≡ 8 → IsPrimitive (an_octet_string to_7) (octets o) → ⊥
eight_octets o e (fits_octets b a) = ⊎_elim (λ h. (let g = h.1 in omega (arith, ints))) (λ b. b) a

pub eight_characters : (o : List ℕ) → length o ≡ 8 → IsPrimitive (a_restricted_string Numeric (48 ∷ []) to_7) (text o) → ⊥
eight_characters o e (fits_restricted m a) = ⊎_elim (λ h. (let g = h.1 in omega (arith, ints))) (λ b. b) a

pub eight_of_utf8 : (o : List ℕ) → length (chars o) ≡ 8 → IsPrimitive (a_utf8_string to_7) (text o) → ⊥
eight_of_utf8 o e (fits_utf8 u a) = ⊎_elim (λ h. (let g = h.1 in omega (arith, ints))) (λ b. b) a

pub eight_in_list : (s : List Resolved) (n u : ℕ) (vs : Row) → members vs ≡ 8 → ValueOf s n (a_sequence_of to_7 u) (list vs) → ⊥
eight_in_list s n u vs e (of_sequence_of es a) = ⊎_elim (λ h. (let g = h.1 in omega (arith, ints))) (λ b. b) a
eight_in_list s n u vs e (of_leaf f) = elim f [ ]

pub eight_in_set : (s : List Resolved) (n u : ℕ) (vs : Row) → members vs ≡ 8 → ValueOf s n (a_set_of to_7 u) (list vs) → ⊥
eight_in_set s n u vs e (of_set_of es a) = ⊎_elim (λ h. (let g = h.1 in omega (arith, ints))) (λ b. b) a
eight_in_set s n u vs e (of_leaf f) = elim f [ ]

-- '1' is not in the alphabet '0'
one_of_zero : {x : ℕ} → IsMember x (48 ∷ []) → x ≡ 49 → ⊥
one_of_zero is_first e = omega arith
one_of_zero (is_later m) e = elim m [ ]

pub other_character : (c : Constraint) → IsPrimitive (a_restricted_string Numeric (48 ∷ []) c) (text (48 ∷ 49 ∷ [])) → ⊥
other_character c (fits_restricted m a) = one_of_zero m.1.0 refl

-- an item that an enumeration lacks
pub other_item : IsPrimitive (an_enumerated (record { name = []; number = pos 0 } ∷ []) false []) (enumerated (pos 1)) → ⊥
other_item (fits_enumerated l h) = ⊎_elim (λ e. omega (arith, ints)) (λ b. b) h

-- a number isn't a value of a BOOLEAN, nor is a text one of an OCTET STRING
pub number_of_boolean : IsPrimitive a_boolean (integer (pos 1)) → ⊥
number_of_boolean f = elim f [ ]

pub text_of_octets : (c : Constraint) → IsPrimitive (an_octet_string c) (text []) → ⊥
text_of_octets c f = elim f [ ]

-- ---- components and alternatives

abbrev part : Presence → Component
part p = record { name = []; type = 0; presence = p }

abbrev s : List Resolved
s = row a_null ∷ []

-- {} and {NULL, NULL} of SEQUENCE {a NULL}, and {NULL} of SEQUENCE {}
pub lacks_one : {n : ℕ} → ValueOf s n (a_sequence false (part mandatory ∷ [])) (fields (absent end)) → ⊥
lacks_one (of_sequence (component_absent m a) g) = elim m [ ]
lacks_one (of_leaf f) = elim f [ ]

pub lacks_one_of_set : {n : ℕ} → ValueOf s n (a_set false (part mandatory ∷ [])) (fields (absent end)) → ⊥
lacks_one_of_set (of_set (component_absent m a) g) = elim m [ ]
lacks_one_of_set (of_leaf f) = elim f [ ]

pub one_too_few : {n : ℕ} → ValueOf s n (a_sequence false (part optional ∷ [])) (fields end) → ⊥
one_too_few (of_sequence a g) = elim a [ ]
one_too_few (of_leaf f) = elim f [ ]

pub one_too_many : {n : ℕ} → ValueOf s n (a_sequence true (part mandatory ∷ [])) (fields (present null (present null end))) → ⊥
one_too_many (of_sequence (component_present v a) g) = elim a [ ]
one_too_many (of_leaf f) = elim f [ ]

abbrev an_alternative : ℕ → Alternative
an_alternative t = record { name = []; type = t }

pub third_alternative : {n : ℕ} {v : AbstractValue} → ValueOf s n (a_choice (an_alternative 0 ∷ []) true (an_alternative 0 ∷ [])) (alternative 2 v) → ⊥
third_alternative (of_choice g a) = cc
third_alternative (of_leaf f) = elim f [ ]

-- ---- what is not alike

-- two alternatives of a CHOICE
abbrev place_of : AbstractValue → ℕ
place_of (alternative i v) = i
place_of v = 0

pub same_alternative : {s : List Resolved} {root more : List Alternative} {e : Bool} {v w : AbstractValue} → AlikeBy s (a_choice root e more) v w → place_of v ≡ place_of w
same_alternative (equal l) = refl
same_alternative (alike_choice g a) = refl

-- numbers
pub same_number : {s : List Resolved} {c : Constraint} {v w : AbstractValue} → AlikeBy s (an_integer c) v w → v ≡ w
same_number (equal l) = refl

-- bits without names, zeros that trail among them
pub same_bits : {s : List Resolved} {c : Constraint} {v w : AbstractValue} → AlikeBy s (a_bit_string c) v w → v ≡ w
same_bits (equal l) = refl

-- '01'B and '1'B under named bits
abbrev first_bit : List Bool → Bool
first_bit [] = false
first_bit (b ∷ bs) = b

abbrev bits_in : AbstractValue → List Bool
bits_in (bits b) = b
bits_in v = []

pub leading_zero : {s : List Resolved} {ns : List NamedBit} {v w : AbstractValue} → AlikeBy s (a_named_bit_string ns) v w → v ≡ bits (false ∷ true ∷ []) → w ≡ bits (true ∷ []) → ⊥
leading_zero (equal l) e f = let g : false ≡ true = ap (λ q. first_bit (bits_in q)) (sym e ∙ f) in cc
leading_zero (zeros {a = a} {b = b} m n h) e f =
    let g : (false ∷ true ∷ []) ++ replicate m false ≡ (true ∷ []) ++ replicate n false = ap (λ q. q ++ replicate m false) (sym (ap bits_in e)) ∙ h ∙ ap (λ q. q ++ replicate n false) (ap bits_in f) in
    let k : false ≡ true = ap first_bit g in cc

-- lists of as many elements, in any order, and with each as often
inserted_members : {v : AbstractValue} {ws xs : Row} → Inserted v ws xs → members xs ≡ suc (members ws)
inserted_members here = refl
inserted_members (there i) = ap suc (inserted_members i)

pub as_many : {s : List Resolved} {u : ℕ} {vs ws : Row} → AlikeInAnyOrder s u vs ws → members vs ≡ members ws
as_many none_left = refl
as_many (pair e a i) = ap suc (as_many a) ∙ sym (inserted_members i)

-- {1, 2} and {2, 1} of a SEQUENCE OF
abbrev numbers : List Resolved
numbers = row (an_integer to_7) ∷ []

abbrev number_of : AbstractValue → ℤ
number_of (integer z) = z
number_of v = pos 0

numbers_alike : {v w : AbstractValue} → Alike numbers 0 v w → v ≡ w
numbers_alike (alike i a) = same_number (by_at (same_kind (record { found = refl }) i) a)

pub other_order : AlikeElements numbers 0 (present (integer (pos 1)) (present (integer (pos 2)) end)) (present (integer (pos 2)) (present (integer (pos 1)) end)) → ⊥
other_order (alike_element e a) = let h : pos 1 ≡ pos 2 = ap number_of (numbers_alike e) in omega (arith, ints)

-- {} and {a 6} of SEQUENCE {a INTEGER DEFAULT 5}
pub other_default : AlikeComponents numbers (part (default (integer (pos 5))) ∷ []) (absent end) (present (integer (pos 6)) end) → ⊥
other_default (first_default e a b) = let h : pos 5 ≡ pos 6 = ap number_of (ap default_in e ∙ numbers_alike a) in omega (arith, ints)

-- {} and {a 6} of SEQUENCE {a INTEGER OPTIONAL}
pub no_default : AlikeComponents numbers (part optional ∷ []) (absent end) (present (integer (pos 6)) end) → ⊥
no_default (first_default e a b) = cc

-- ---- groups: half of one is in no value

abbrev of_group : Bool → Component
of_group o = part (addition o (Some 1))

pub half_a_group : {n : ℕ} → ValueOf s n (a_sequence true (of_group false ∷ of_group true ∷ [])) (fields (absent (present null end))) → ⊥
half_a_group (of_sequence a g) = g 1 (inl refl) (inl refl)
half_a_group (of_leaf f) = elim f [ ]

pub half_a_group_of_set : {n : ℕ} → ValueOf s n (a_set true (of_group false ∷ of_group true ∷ [])) (fields (absent (present null end))) → ⊥
half_a_group_of_set (of_set a g) = g 1 (inl refl) (inl refl)
half_a_group_of_set (of_leaf f) = elim f [ ]

-- ---- first tags that are not distinct: SET, CHOICE with an addition, and SEQUENCE of two NULL

abbrev twice : Kind → List Resolved
twice k = row a_null ∷ row k ∷ []

pub twice_in_set : AllHaveDistinctTags (twice (a_set false (part mandatory ∷ part mandatory ∷ []))) → ⊥
twice_in_set a = (a 1 _ _ (record { found = refl })).0.0 _ (first_tag (record { found = refl })) (first_tag (record { found = refl }))

pub twice_in_choice : AllHaveDistinctTags (twice (a_choice (an_alternative 0 ∷ []) true (an_alternative 0 ∷ []))) → ⊥
twice_in_choice a = (a 1 _ _ (record { found = refl })).0.0 _ (first_tag (record { found = refl })) (first_tag (record { found = refl }))

pub twice_in_sequence : AllHaveDistinctTags (twice (a_sequence true (part optional ∷ part (addition false None) ∷ []))) → ⊥
twice_in_sequence a = ((a 1 _ _ (record { found = refl })).0 refl).0 _ (first_tag (record { found = refl })) (first_tag (record { found = refl }))
