-- Worked rows: the front of some octets.
use Rattle.std.proofs.Common.{Bool, arith, lit<, ◌≡◌, ℕ, zero, suc, true, false, List, [], ◌∷◌, ◌++◌, length, replicate, refl, sym, ap, ◌∙◌}
use Rattle.std.specs.Int.Digits.{AllBelowBase}
use Rattle.std.proofs.lemmas.List.{append-nil}
use Rattle.asn_base.specs.declared.tag.Class.TheVariants.{Universal, Application, Context}
use Rattle.asn_base.specs.declared.tag.Tag.{Tag}
use Rattle.encodings.specs.Header.{identifier, septets, short, long}
use Rattle.octets.specs.Fronts.{HeaderAt, EndsEarly, in_header, in_contents, IsIndefinite, HasBadLength, reserved, too_great, HasBadTag, of_number_0, to_30, zeros_first, from_2_31}
use Rattle.encodings.specs.proving.Septets.{Septets, last_septet, more_septets}
use Rattle.encodings.specs.proving.Septets.{number_spelled}
use Rattle.encodings.specs.proving.Fronts.{head_or_0}
use Rattle.octets.specs.proving.Identifiers.{low, high}

abbrev integer : Tag
integer = record { class = Universal; number = 2; in_range = lit< tt; not_reserved = λ e. lit< tt }

abbrev octet_string : Tag
octet_string = record { class = Universal; number = 4; in_range = lit< tt; not_reserved = λ e. lit< tt }

abbrev application_31 : Tag
application_31 = record { class = Application; number = 31; in_range = lit< tt; not_reserved = λ e. lit< tt }

abbrev context_128 : Tag
context_128 = record { class = Context; number = 128; in_range = lit< tt; not_reserved = λ e. lit< tt }

abbrev greatest : Tag
greatest = record { class = Context; number = 2147483647; in_range = lit< tt; not_reserved = λ e. lit< tt }

an_integer : identifier Universal 2 false ≡ 2 ∷ []
an_integer = low Universal 2 false (lit< tt)

an_octet_string : identifier Universal 4 false ≡ 4 ∷ []
an_octet_string = low Universal 4 false (lit< tt)

after : (x : ℕ) (i rest : List ℕ) → i ≡ x ∷ [] → x ∷ rest ≡ i ++ rest
after x i rest e = ap (λ q. q ++ rest) (sym e)

-- ---- 02 84 00000001 05, and 02 FE with 125 octets 00 and 01, and 05: one octet of contents

pub leading_zeros : HeaderAt integer false 1 6 (2 ∷ 132 ∷ 0 ∷ 0 ∷ 0 ∷ 1 ∷ 5 ∷ [])
leading_zeros = record {
  header = identifier Universal 2 false ++ (132 ∷ 0 ∷ 0 ∷ 0 ∷ 1 ∷ []);
  rest = 5 ∷ [];
  is_header = record { size = 132 ∷ 0 ∷ 0 ∷ 0 ∷ 1 ∷ []; is_size = long {ds = 0 ∷ 0 ∷ 0 ∷ 1 ∷ []} (record { some = lit< tt; at_most = lit< tt; octets = (lit< tt, (lit< tt, (lit< tt, (lit< tt, tt)))); worth = refl }); whole = refl };
  few = omega arith;
  long = ap (λ q. length (q ++ (132 ∷ 0 ∷ 0 ∷ 0 ∷ 1 ∷ []))) an_integer;
  whole = ap (λ q. (q ++ (132 ∷ 0 ∷ 0 ∷ 0 ∷ 1 ∷ [])) ++ (5 ∷ [])) (sym an_integer);
  follow = omega arith;
}

zeros : (n : ℕ) → AllBelowBase 256 (replicate n 0 ++ (1 ∷ []))
zeros zero = (lit< tt, tt)
zeros (suc n) = (omega arith, zeros n)

abbrev longest_size : List ℕ
longest_size = 254 ∷ (replicate 125 0 ++ (1 ∷ []))

pub longest_form : HeaderAt integer false 1 128 (2 ∷ (longest_size ++ (5 ∷ [])))
longest_form = record {
  header = identifier Universal 2 false ++ longest_size;
  rest = 5 ∷ [];
  is_header = record { size = longest_size; is_size = long {ds = replicate 125 0 ++ (1 ∷ [])} (record { some = lit< tt; at_most = lit< tt; octets = zeros 125; worth = refl }); whole = refl };
  few = omega arith;
  long = ap (λ q. length (q ++ longest_size)) an_integer;
  whole = ap (λ q. (q ++ longest_size) ++ (5 ∷ [])) (sym an_integer);
  follow = omega arith;
}

-- ---- 5F1F 00, 9F8100 00 and 9F87FFFFFF7F 00: the least and the greatest numbers of the long form

-- the header of no contents with a number in the long form
without_contents : (t : Tag) (c : Bool) (front : List ℕ)
    → identifier t.class t.number c ≡ front
    → HeaderAt t c 0 (length (front ++ (0 ∷ []))) (front ++ (0 ∷ []))
without_contents t c front e = record {
  header = identifier t.class t.number c ++ (0 ∷ []);
  rest = [];
  is_header = record { size = 0 ∷ []; is_size = short (lit< tt); whole = refl };
  few = omega arith;
  long = ap (λ q. length (q ++ (0 ∷ []))) e;
  whole = sym (append-nil (front ++ (0 ∷ []))) ∙ ap (λ q. (q ++ (0 ∷ [])) ++ []) (sym e);
  follow = omega arith;
}

pub number_31 : HeaderAt application_31 false 0 3 (95 ∷ 31 ∷ 0 ∷ [])
number_31 = without_contents application_31 false (95 ∷ 31 ∷ []) (high Application 31 false (lit< tt))

pub number_128 : HeaderAt context_128 false 0 4 (159 ∷ 129 ∷ 0 ∷ 0 ∷ [])
number_128 = without_contents context_128 false (159 ∷ 129 ∷ 0 ∷ []) (high Context 128 false (lit< tt))

pub greatest_number : HeaderAt greatest true 0 7 (191 ∷ 135 ∷ 255 ∷ 255 ∷ 255 ∷ 127 ∷ 0 ∷ [])
greatest_number =
    let s : Septets 0 (135 ∷ 255 ∷ 255 ∷ 255 ∷ 127 ∷ []) 2147483647 [] =
    more_septets {x = 7} (lit< tt) refl (more_septets {x = 127} (lit< tt) refl (more_septets {x = 127} (lit< tt) refl (more_septets {x = 127} (lit< tt) refl (last_septet {x = 127} (lit< tt) refl)))) in
    let n : 135 ∷ 255 ∷ 255 ∷ 255 ∷ 127 ∷ [] ≡ septets 2147483647 = number_spelled 2147483647 (135 ∷ 255 ∷ 255 ∷ 255 ∷ 127 ∷ []) [] s (λ b f. (let g = ap head_or_0 f in omega arith)) ∙ append-nil (septets 2147483647) in
    without_contents greatest true (191 ∷ 135 ∷ 255 ∷ 255 ∷ 255 ∷ 127 ∷ [])
    (high Context 2147483647 true (omega arith) ∙ ap (λ q. 191 ∷ q) (sym n))

-- ---- 80: nothing, 02, 9F81, 0284 0000, 0284 0200, 0202 05 and 0484 01000000

pub nothing : EndsEarly []
nothing = in_header {t = integer} {c = false} (identifier Universal 2 false ++ (0 ∷ [])) (record { size = 0 ∷ []; is_size = short (lit< tt); whole = refl }) refl (let e = ap (λ q. length (q ++ (0 ∷ []))) an_integer in omega arith)

pub no_length : EndsEarly (2 ∷ [])
no_length = in_header {t = integer} {c = false} (0 ∷ []) (record { size = 0 ∷ []; is_size = short (lit< tt); whole = ap (λ q. q ++ (0 ∷ [])) (sym an_integer) }) refl (lit< tt)

pub half_a_number : EndsEarly (159 ∷ 129 ∷ [])
half_a_number =
    let e : identifier Context 128 false ≡ 159 ∷ 129 ∷ 0 ∷ [] = high Context 128 false (lit< tt) in
    in_header {t = context_128} {c = false} (0 ∷ 0 ∷ []) (record { size = 0 ∷ []; is_size = short (lit< tt); whole = ap (λ q. q ++ (0 ∷ [])) (sym e) }) refl (lit< tt)

pub half_a_length : EndsEarly (2 ∷ 132 ∷ 2 ∷ 0 ∷ [])
half_a_length = in_header {t = integer} {c = false} (0 ∷ 0 ∷ []) (record { size = 132 ∷ 2 ∷ 0 ∷ 0 ∷ 0 ∷ []; is_size = long {ds = 2 ∷ 0 ∷ 0 ∷ 0 ∷ []} (record { some = lit< tt; at_most = lit< tt; octets = (lit< tt, (lit< tt, (lit< tt, (lit< tt, tt)))); worth = refl }); whole = ap (λ q. q ++ (132 ∷ 2 ∷ 0 ∷ 0 ∷ 0 ∷ [])) (sym an_integer) }) refl (lit< tt)

pub one_of_two : EndsEarly (2 ∷ 2 ∷ 5 ∷ [])
one_of_two = in_contents {t = integer} {c = false} {n = 2} (5 ∷ []) (record { size = 2 ∷ []; is_size = short (lit< tt); whole = refl }) (lit< tt) (ap (λ q. (q ++ (2 ∷ [])) ++ (5 ∷ [])) (sym an_integer)) (lit< tt)

pub none_of_the_most : EndsEarly (4 ∷ 132 ∷ 1 ∷ 0 ∷ 0 ∷ 0 ∷ [])
none_of_the_most = in_contents {t = octet_string} {c = false} {n = 16777216} [] (record { size = 132 ∷ 1 ∷ 0 ∷ 0 ∷ 0 ∷ []; is_size = long {ds = 1 ∷ 0 ∷ 0 ∷ 0 ∷ []} (record { some = lit< tt; at_most = lit< tt; octets = (lit< tt, (lit< tt, (lit< tt, (lit< tt, tt)))); worth = refl }); whole = refl }) (omega arith) (ap (λ q. (q ++ (132 ∷ 1 ∷ 0 ∷ 0 ∷ 0 ∷ [])) ++ []) (sym an_octet_string)) (lit< tt)

-- ---- 81: 0280

pub indefinite : IsIndefinite (2 ∷ 128 ∷ [])
indefinite = record { tag = integer; constructed = false; rest = []; whole = after 2 (identifier Universal 2 false) (128 ∷ []) an_integer }

-- ---- 82: 02FF and 0484 01000001

pub reserved_length : HasBadLength (2 ∷ 255 ∷ [])
reserved_length = reserved integer false [] (after 2 (identifier Universal 2 false) (255 ∷ []) an_integer)

pub one_too_long : HasBadLength (4 ∷ 132 ∷ 1 ∷ 0 ∷ 0 ∷ 1 ∷ [])
one_too_long = too_great octet_string false {n = 16777217} {size = 132 ∷ 1 ∷ 0 ∷ 0 ∷ 1 ∷ []} [] (long {ds = 1 ∷ 0 ∷ 0 ∷ 1 ∷ []} (record { some = lit< tt; at_most = lit< tt; octets = (lit< tt, (lit< tt, (lit< tt, (lit< tt, tt)))); worth = refl })) (omega arith) (after 4 (identifier Universal 4 false) (132 ∷ 1 ∷ 0 ∷ 0 ∷ 1 ∷ []) an_octet_string)

-- ---- 83: 1F02 0105, 5F1E 00, 20 00, 1F801F and BF8880808000

pub number_2 : HasBadTag (31 ∷ 2 ∷ 1 ∷ 5 ∷ [])
number_2 = to_30 Universal false 2 (1 ∷ 5 ∷ []) (lit< tt) refl

pub number_30 : HasBadTag (95 ∷ 30 ∷ 0 ∷ [])
number_30 = to_30 Application false 30 (0 ∷ []) (lit< tt) refl

pub number_0 : HasBadTag (32 ∷ 0 ∷ [])
number_0 = of_number_0 true (0 ∷ []) refl

pub zero_septet : HasBadTag (31 ∷ 128 ∷ 31 ∷ [])
zero_septet = zeros_first Universal false (31 ∷ []) refl

pub number_2_31 : HasBadTag (191 ∷ 136 ∷ 128 ∷ 128 ∷ 128 ∷ 0 ∷ [])
number_2_31 = from_2_31 Context true (8 ∷ 0 ∷ 0 ∷ 0 ∷ []) (0 ∷ []) (lit< tt, (lit< tt, (lit< tt, (lit< tt, tt)))) (omega arith) refl
