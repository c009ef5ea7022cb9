-- Rows as they lie in memory.
use Rattle.std.proofs.Common.{◌≡◌, ℕ, zero, suc, ◌+◌, ◌-◌, ◌<◌, ◌≤◌, Bool, true, cond, rules, List, [], ◌∷◌, ◌++◌, length, set, refl, sym, ap, ◌∙◌, arith, length-append}
use Rattle.std.proofs.lemmas.List.{length-map, map-append, map-set}
use Rattle.asn_base.specs.declared.tag.Tag.{Tag}
use Rattle.encodings.specs.Account.{Numbers}
use Rattle.std.specs.Int.Digits.{digits_of}
use Rattle.std.specs.Prelude.{nat_lt}
use Rattle.encodings.specs.Header.{identifier, class_bits, form_bit, septets}
use Rattle.encodings.specs.Fewest.{shortest_header, shortest_size}
use Rattle.octet_account.specs.declared.row.Row.{Row}
use Rattle.octet_account.specs.Seen.{flat_row, flat}
use Rattle.der_layout.specs.Rows.{listed, capped_header}

pub flat_more : (rs : List Row) (r : Row) → flat (rs ++ r ∷ []) ≡ flat rs ++ flat_row r.listed ∷ []
flat_more rs r = map-append (λ q. flat_row q.listed) rs (r ∷ [])

pub flat_set : (rs : List Row) (i : ℕ) (r : Row) → flat (set rs i r) ≡ set (flat rs) i (flat_row r.listed)
flat_set rs i r = map-set (λ q. flat_row q.listed) rs i r

pub flat_length : (rs : List Row) → length (flat rs) ≡ length rs
flat_length rs = length-map rs (λ q. flat_row q.listed)

-- past the end nothing is replaced
pub set_past : {A : Type 0} (xs : List A) (i : ℕ) (x : A) → length xs ≤ i → set xs i x ≡ xs
set_past [] i x h = refl
set_past (y ∷ xs) zero x h = absurd (omega (arith, h))
set_past (y ∷ xs) (suc i) x h = ap (λ q. y ∷ q) (set_past xs i x (omega (arith, h)))

pub header_length : (g : Tag) (c : Bool) (n : ℕ) → length (shortest_header g c n) ≡ length (identifier g.class g.number c) + length (shortest_size n)
unfolding shortest_header
header_length g c n = length-append (identifier g.class g.number c) (shortest_size n)

size_of_none : length (shortest_size 0) ≡ 1
size_of_none = refl

-- the identifier of a header without contents is all but one octet
pub identifier_of : (g : Tag) (c : Bool) (h : ℕ) → length (shortest_header g c 0) ≡ h → h ≡ length (identifier g.class g.number c) + 1
identifier_of g c h e = sym e ∙ header_length g c 0 ∙ ap (λ q. length (identifier g.class g.number c) + q) size_of_none

abbrev numbers : ℕ → ℕ → ℕ → Numbers
numbers i s m = record { identifier = i; size = s; contents = m }

pub numbers_capped : (g : Tag) (n h k i s m : ℕ) → ((c : Bool) → length (shortest_header g c 0) ≡ h) → ((c : Bool) → length (shortest_header g c n) ≡ k)
    → i ≡ listed (h - 1) → s ≡ listed (k - (h - 1)) → m ≡ listed n → (c : Bool) → numbers i s m ≡ capped_header g c n
numbers_capped g n h k i s m first whole e f w c =
    let a : h - 1 ≡ length (identifier g.class g.number c) = (let z = identifier_of g c h (first c) in omega (arith, z)) in
    let b : k - (h - 1) ≡ length (shortest_size n) = (let z = header_length g c n in let y = whole c in omega (arith, a, z, y)) in
    ap (λ q. numbers q s m) (e ∙ ap listed a) ∙ ap (λ q. numbers (listed (length (identifier g.class g.number c))) q m) (f ∙ ap listed b)
    ∙ ap (λ q. numbers (listed (length (identifier g.class g.number c))) (listed (length (shortest_size n))) q) w

one_octet : (g : Tag) (c : Bool) → g.number < 31 → length (identifier g.class g.number c) ≡ 1
unfolding identifier
one_octet g c h = ap (λ q. length (cond q ((class_bits g.class + form_bit c + g.number) ∷ []) ((class_bits g.class + form_bit c + 31) ∷ septets g.number))) (below g.number 31 h)
  where
    below : (m n : ℕ) → m < n → nat_lt m n ≡ true
    below m n h = search rules

one_size : (n : ℕ) → n < 128 → length (shortest_size n) ≡ 1
one_size n h = ap (λ q. length (cond q (n ∷ []) ((128 + length (digits_of 256 n)) ∷ digits_of 256 n))) (below n 128 h)
  where
    below : (m n : ℕ) → m < n → nat_lt m n ≡ true
    below m n h = search rules

-- the numbers of a header of two octets
pub short_capped : (g : Tag) (n : ℕ) → g.number < 31 → n < 128 → (c : Bool) → numbers 1 1 n ≡ capped_header g c n
short_capped g n low few c =
    let m : n ≡ listed n = omega (arith, few) in
    ap (λ q. numbers (listed q) 1 n) (sym (one_octet g c low))
    ∙ ap (λ q. numbers (listed (length (identifier g.class g.number c))) (listed q) n) (sym (one_size n few))
    ∙ ap (λ q. numbers (listed (length (identifier g.class g.number c))) (listed (length (shortest_size n))) q) m
