-- Worked rows at the edges of the limits: what is within a limit, and what is one past it, which must not hold.
use Rattle.std.proofs.Common.{arith, lit<, ◌≡◌, ℕ, zero, suc, ◌<◌, ◌≤◌, ◌^◌, ⊎_elim, inr, Bool, true, false, List, [], ◌∷◌, ◌++◌, length, map, refl, sym, ap, subst, ◌∙◌}
use Rattle.std.proofs.lemmas.Int.{ints}
use Rattle.std.specs.Prelude.{◌+◌, ◌-◌, ◌%◌, pos, negsuc, ◌<ℤ◌, Option, None, Some, slice_get}
use Rattle.std.specs.List.{AllByRecursion}
use Rattle.asn_base.specs.declared.strings.StringKind.TheVariants.{Ia5}
use Rattle.asn_base.specs.declared.tag.Class.{Class}
use Rattle.asn_base.specs.declared.tag.Class.TheVariants.{Universal, Application, Context, Private}
use Rattle.asn_base.specs.declared.tag.Tag.{Tag}
use Rattle.asn_base.specs.Abstract.{AbstractValue, list, null, Row, end, present}
use Rattle.asn_base.specs.Names.{goes_on, IsIdentifier, IsMember, is_first, is_later, AreDistinct, AreNames}
use Rattle.asn_base.specs.Types.{any_size, Item, NamedBit, Alternative, Presence, mandatory, default, addition, Component, Kind, a_null, a_sequence_of, Resolved, Is}
use Rattle.asn_base.specs.Typed.{HasNumber, IsWithinLimit, IsObjectIdentifier, arcs, IsRelativeOid, IsPrimitive, ValueIn, value_in, ValueOf, of_leaf, of_sequence, of_set, of_sequence_of, of_set_of, of_choice, AreElements, no_element, one_element, fits_null, row_nodes, IsValue}
use Rattle.asn_base.specs.Tags.{First, first_tag, first_of_choice, class_rank, TagBefore}
use Rattle.asn_base.specs.Schemas.{IsAlphabet, NumbersAscend, AreItems, AreNamedBits, HasTag, TagsAscend, is_addition, HasValue, GroupsTogether, AreListed, AreAlternatives}
use Rattle.asn_base.proofs.Rows.{row}
use Rattle.asn_base.proofs.Lists.{or_else}
use Rattle.asn_base.proofs.Schemas.{nil_right}

-- ---- names of any number, each longer than those after it

abbrev letters : ℕ → List ℕ
letters zero = []
letters (suc n) = 97 ∷ letters n

abbrev names : ℕ → List (List ℕ)
names zero = []
names (suc n) = (97 ∷ letters n) ∷ names n

letters_go_on : (n : ℕ) → goes_on false (letters n) ≡ true
letters_go_on zero = refl
letters_go_on (suc n) = letters_go_on n

letters_length : (n : ℕ) → length (letters n) ≡ n
letters_length zero = refl
letters_length (suc n) = ap suc (letters_length n)

shorter : (n : ℕ) (x : List ℕ) → IsMember x (names n) → length x ≤ n
shorter zero x m = elim m [ ]
shorter (suc n) x is_first = omega (arith, letters_length n)
shorter (suc n) x (is_later m) = let l = shorter n x m in omega arith

all_identifiers : (n : ℕ) → AllByRecursion IsIdentifier (names n)
all_identifiers zero = tt
all_identifiers (suc n) = (letters_go_on n, all_identifiers n)

all_distinct : (n : ℕ) → AreDistinct (names n)
all_distinct zero = tt
all_distinct (suc n) = ((λ m. omega (arith, shorter n (97 ∷ letters n) m, letters_length n)), all_distinct n)

are_names : (n : ℕ) → AreNames (names n)
are_names n = record { identifiers = all_identifiers n; distinct = all_distinct n }

-- ---- 256 components in a root, 64 after a marker

abbrev several : Presence → ℕ → List Component
several p zero = []
several p (suc n) = record { name = 97 ∷ letters n; type = 0; presence = p } ∷ several p n

several_long : (p : Presence) (n : ℕ) → length (several p n) ≡ n
several_long p zero = refl
several_long p (suc n) = ap suc (several_long p n)

several_names : (p : Presence) (n : ℕ) → names n ≡ map (λ c. c.name) (several p n)
several_names p zero = refl
several_names p (suc n) = ap (λ q. (97 ∷ letters n) ∷ q) (several_names p n)

all_several : (P : Component → Type 0) (p : Presence) (n : ℕ) → ((x : List ℕ) → P (record { name = x; type = 0; presence = p })) → AllByRecursion P (several p n)
all_several P p zero f = tt
all_several P p (suc n) f = (f (97 ∷ letters n), all_several P p n f)

abbrev one : List Resolved
one = row a_null ∷ []

no_default : (p : Presence) → ((d : AbstractValue) → p ≡ default d → ⊥) → (n : ℕ) → AllByRecursion (HasValue one) (several p n)
no_default p f n = all_several (HasValue one) p n (λ x d e. absurd (f d e))

in_root : (n : ℕ) → n ≤ 256 → AreListed one false (several mandatory n)
in_root n h = record {
  root = several mandatory n;
  more = [];
  parts = nil_right (several mandatory n);
  in_root = all_several (λ c. is_addition c ≡ false) mandatory n (λ x. refl);
  behind = tt;
  groups = tt;
  marked = λ e. refl;
  few_root = omega (arith, h, several_long mandatory n);
  few_more = omega arith;
  names = subst AreNames (several_names mandatory n) (are_names n);
  types = all_several (λ c. c.type < 1) mandatory n (λ x. omega arith);
  defaults = no_default mandatory (λ d e. cc) n;
}

groups_apart : (n : ℕ) → GroupsTogether (several (addition false None) n)
groups_apart zero = tt
groups_apart (suc zero) = tt
groups_apart (suc (suc n)) = ((λ g e. absurd (cc)), groups_apart (suc n))

pub additions_64 : AreListed one true (several (addition false None) 64)
additions_64 = record {
  root = [];
  more = several (addition false None) 64;
  parts = refl;
  in_root = tt;
  behind = all_several (λ c. is_addition c ≡ true) (addition false None) 64 (λ x. refl);
  groups = groups_apart 64;
  marked = λ e. absurd (cc);
  few_root = omega arith;
  few_more = omega (arith, several_long (addition false None) 64);
  names = subst AreNames (several_names (addition false None) 64) (are_names 64);
  types = all_several (λ c. c.type < 1) (addition false None) 64 (λ x. omega arith);
  defaults = no_default (addition false None) (λ d e. cc) 64;
}

pub components_256 : AreListed one false (several mandatory 256)
components_256 = in_root 256 (lit< tt)

none_after : (root more : List Component) → AllByRecursion (λ c. is_addition c ≡ false) (root ++ more) → AllByRecursion (λ c. is_addition c ≡ true) more → length (root ++ more) ≡ length root
none_after [] [] a b = refl
none_after [] (c ∷ cs) a b = absurd (let e : false ≡ true = sym a.0 ∙ b.0 in cc)
none_after (c ∷ root) more a b = ap suc (none_after root more a.1 b)

all_after : (root more : List Component) → AllByRecursion (λ c. is_addition c ≡ true) (root ++ more) → AllByRecursion (λ c. is_addition c ≡ false) root → length (root ++ more) ≡ length more
all_after [] more a b = refl
all_after (c ∷ root) more a b = absurd (let e : true ≡ false = sym a.0 ∙ b.0 in cc)

pub components_257 : {s : List Resolved} {e : Bool} → AreListed s e (several mandatory 257) → ⊥
components_257 a =
    let l = none_after a.root a.more (subst (AllByRecursion (λ c. is_addition c ≡ false)) a.parts (all_several (λ c. is_addition c ≡ false) mandatory 257 (λ x. refl))) a.behind in
    let m = ap length a.parts in
    omega (arith, l, m, a.few_root, several_long mandatory 257)

pub additions_65 : {s : List Resolved} {e : Bool} → AreListed s e (several (addition false None) 65) → ⊥
additions_65 a =
    let l = all_after a.root a.more (subst (AllByRecursion (λ c. is_addition c ≡ true)) a.parts (all_several (λ c. is_addition c ≡ true) (addition false None) 65 (λ x. refl))) a.in_root in
    let m = ap length a.parts in
    omega (arith, l, m, a.few_more, several_long (addition false None) 65)

-- ---- 1,024 items in a root, 64 after a marker: -n to -1

abbrev items : ℕ → List Item
items zero = []
items (suc n) = record { name = 97 ∷ letters n; number = negsuc n } ∷ items n

items_long : (n : ℕ) → length (items n) ≡ n
items_long zero = refl
items_long (suc n) = ap suc (items_long n)

items_names : (n : ℕ) → names n ≡ map (λ i. i.name) (items n)
items_names zero = refl
items_names (suc n) = ap (λ q. (97 ∷ letters n) ∷ q) (items_names n)

items_above : (m n : ℕ) → n ≤ m → AllByRecursion (λ j. negsuc m <ℤ j.number) (items n)
items_above m zero h = tt
items_above m (suc n) h = (omega (arith, ints), items_above m n (omega arith))

items_ascend : (n : ℕ) → NumbersAscend (items n)
items_ascend zero = tt
items_ascend (suc n) = (items_above n n (omega arith), items_ascend n)

items_within : (n : ℕ) → n ≤ 1024 → AllByRecursion (λ i. IsWithinLimit i.number) (items n)
items_within zero h = tt
items_within (suc n) h = ((omega arith), items_within n (omega arith))

items_apart : (n : ℕ) → AllByRecursion (λ i. HasNumber (record { name = 98 ∷ []; number = pos 0 } ∷ []) i.number → ⊥) (items n)
items_apart zero = tt
items_apart (suc n) = ((λ h. ⊎_elim (λ e. omega (arith, ints)) (λ b. b) h), items_apart n)

pub items_1024 : AreItems false (items 1024) []
items_1024 = record {
  some = omega (arith, items_long 1024);
  names = subst AreNames (items_names 1024 ∙ ap (map (λ i. i.name)) (nil_right (items 1024))) (are_names 1024);
  limits = subst (AllByRecursion (λ i. IsWithinLimit i.number)) (nil_right (items 1024)) (items_within 1024 (omega arith));
  root_ascends = items_ascend 1024;
  more_ascend = tt;
  apart = tt;
  marked = λ e. refl;
  few_root = omega (arith, items_long 1024);
  few_more = omega arith;
}

pub items_1025 : {e : Bool} {more : List Item} → AreItems e (items 1025) more → ⊥
items_1025 a = omega (arith, a.few_root, items_long 1025)

abbrev first_of : List ℕ → ℕ
first_of [] = 0
first_of (x ∷ xs) = x

not_b : (n : ℕ) {x : List ℕ} → IsMember x (names n) → x ≡ 98 ∷ [] → ⊥
not_b zero m e = elim m [ ]
not_b (suc n) is_first e = let h = ap first_of e in omega arith
not_b (suc n) (is_later m) e = not_b n m e

pub items_64_after : AreItems true (record { name = 98 ∷ []; number = pos 0 } ∷ []) (items 64)
items_64_after = record {
  some = omega arith;
  names = record { identifiers = (refl, subst (AllByRecursion IsIdentifier) (items_names 64) (all_identifiers 64)); distinct = ((λ m. not_b 64 (subst (IsMember (98 ∷ [])) (sym (items_names 64)) m) refl), subst AreDistinct (items_names 64) (all_distinct 64)) };
  limits = (lit< tt, items_within 64 (omega arith));
  root_ascends = (tt, tt);
  more_ascend = items_ascend 64;
  apart = items_apart 64;
  marked = λ e. absurd (cc);
  few_root = omega arith;
  few_more = omega (arith, items_long 64);
}

pub items_65_after : {e : Bool} {root : List Item} → AreItems e root (items 65) → ⊥
items_65_after a = omega (arith, a.few_more, items_long 65)

-- ---- 256 alternatives in a root

abbrev alternatives : ℕ → List Alternative
alternatives zero = []
alternatives (suc n) = record { name = 97 ∷ letters n; type = 0 } ∷ alternatives n

alternatives_long : (n : ℕ) → length (alternatives n) ≡ n
alternatives_long zero = refl
alternatives_long (suc n) = ap suc (alternatives_long n)

alternatives_names : (n : ℕ) → names n ≡ map (λ a. a.name) (alternatives n)
alternatives_names zero = refl
alternatives_names (suc n) = ap (λ q. (97 ∷ letters n) ∷ q) (alternatives_names n)

alternatives_tagged : (n : ℕ) → AllByRecursion (λ a. HasTag one a.type) (alternatives n)
alternatives_tagged zero = tt
alternatives_tagged (suc n) = (omega arith, alternatives_tagged n)

pub alternatives_256 : AreAlternatives one false (alternatives 256) []
alternatives_256 = record {
  some = omega (arith, alternatives_long 256);
  names = subst AreNames (alternatives_names 256 ∙ ap (map (λ a. a.name)) (nil_right (alternatives 256))) (are_names 256);
  types = subst (AllByRecursion (λ a. HasTag one a.type)) (nil_right (alternatives 256)) (alternatives_tagged 256);
  more_ascend = tt;
  marked = λ e. refl;
  few_root = omega (arith, alternatives_long 256);
  few_more = omega arith;
}

pub alternatives_257 : {s : List Resolved} {e : Bool} {more : List Alternative} → AreAlternatives s e (alternatives 257) more → ⊥
alternatives_257 a = omega (arith, a.few_root, alternatives_long 257)

-- 64 alternatives after a marker: types 0 to 63 have the tags [64] to [1], and the alternatives are of types 63 to 0
abbrev IsContext : Class → Type 0
IsContext Universal = ⊥
IsContext Application = ⊥
IsContext Context = Unit {0}
IsContext Private = ⊥

abbrev context : ℕ → Tag
context n = record { class = Context; number = n % 128; in_range = omega arith; not_reserved = λ e. absurd (subst IsContext e tt) }

abbrev tagged : ℕ → List Resolved
tagged zero = []
tagged (suc n) = record { tags = context (suc n) ∷ []; kind = a_null } ∷ tagged n

abbrev behind : ℕ → List Alternative
behind zero = []
behind (suc n) = record { name = 97 ∷ letters n; type = n } ∷ behind n

after_long : (n : ℕ) → length (behind n) ≡ n
after_long zero = refl
after_long (suc n) = ap suc (after_long n)

after_names : (n : ℕ) → names n ≡ map (λ a. a.name) (behind n)
after_names zero = refl
after_names (suc n) = ap (λ q. (97 ∷ letters n) ∷ q) (after_names n)

abbrev IsTagOnly : ℕ → List Tag → Type 0
IsTagOnly n [] = ⊥
IsTagOnly n (g ∷ gs) = (g.class ≡ Context) × (g.number ≡ n % 128)

equal_to : (m n : ℕ) → 0 + m ≡ n → n ≡ m
equal_to m n l = omega arith

tags_are : (n i m : ℕ) (r : Resolved) → i + m ≡ n → slice_get (tagged n) i ≡ Some r → IsTagOnly m r.tags
tags_are zero i m r l e = absurd (cc)
tags_are (suc n) zero m r l e = subst (λ q. IsTagOnly m q.tags) (ap (or_else r) e) (refl, ap (λ q. q % 128) (equal_to m (suc n) l))
tags_are (suc n) (suc i) m r l e = tags_are n i m r (omega arith) e

first_is : (i m : ℕ) {g : Tag} → i + m ≡ 64 → First (tagged 64) i g → (g.class ≡ Context) × (g.number ≡ m % 128)
first_is i m l (first_tag j) = tags_are 64 i m _ l j.found
first_is i m l (first_of_choice k j g h) = absurd (tags_are 64 i m _ l j.found)

before : (k m : ℕ) (g f : Tag) → k < m → m ≤ 63 → First (tagged 64) m g → First (tagged 64) k f → TagBefore g f
before k m g f l h a b =
    let x = first_is m (64 - m) (omega arith) a in
    let y = first_is k (64 - k) (omega arith) b in
    let p = x.1 in let q = y.1 in
    inr (ap class_rank (x.0 ∙ sym y.0), omega arith)

all_before : (m n : ℕ) → n ≤ m → m ≤ 63 → AllByRecursion (λ b. (g f : Tag) → First (tagged 64) m g → First (tagged 64) b.type f → TagBefore g f) (behind n)
all_before m zero l h = tt
all_before m (suc n) l h = ((λ g f. before n m g f (omega arith) h), all_before m n (omega arith) h)

all_ascend : (n : ℕ) → n ≤ 64 → TagsAscend (tagged 64) (behind n)
all_ascend zero h = tt
all_ascend (suc n) h = (all_before n n (omega arith) (omega arith), all_ascend n (omega arith))

tag_there : (n i : ℕ) → i < n → HasTag (tagged n) i
tag_there zero i l = absurd (omega arith)
tag_there (suc n) zero l = omega arith
tag_there (suc n) (suc i) l = tag_there n i (omega arith)

all_there : (n : ℕ) → n ≤ 64 → AllByRecursion (λ a. HasTag (tagged 64) a.type) (behind n)
all_there zero h = tt
all_there (suc n) h = (tag_there 64 n (omega arith), all_there n (omega arith))

pub alternatives_64_after : AreAlternatives (tagged 64) true (record { name = 98 ∷ []; type = 0 } ∷ []) (behind 64)
alternatives_64_after = record {
  some = omega arith;
  names = record { identifiers = (refl, subst (AllByRecursion IsIdentifier) (after_names 64) (all_identifiers 64)); distinct = ((λ m. not_b 64 (subst (IsMember (98 ∷ [])) (sym (after_names 64)) m) refl), subst AreDistinct (after_names 64) (all_distinct 64)) };
  types = (tag_there 64 0 (omega arith), all_there 64 (omega arith));
  more_ascend = all_ascend 64 (omega arith);
  marked = λ e. absurd (cc);
  few_root = omega arith;
  few_more = omega (arith, after_long 64);
}

pub alternatives_65_after : {s : List Resolved} {e : Bool} {root : List Alternative} → AreAlternatives s e root (alternatives 65) → ⊥
alternatives_65_after a = omega (arith, a.few_more, alternatives_long 65)

-- ---- a named bit at 65,535, a character 127

abbrev a_bit : ℕ → NamedBit
a_bit n = record { name = 97 ∷ []; place = n }

pub bit_65535 : AreNamedBits (a_bit 65535 ∷ [])
bit_65535 = record { some = omega arith; names = are_names 1; places = ((λ m. elim m [ ]), tt); limits = (omega arith, tt) }

pub bit_65536 : AreNamedBits (a_bit 65536 ∷ []) → ⊥
bit_65536 a = let l = a.limits.0 in omega arith

pub character_127 : IsAlphabet Ia5 (127 ∷ [])
character_127 = record { some = omega arith; ascend = (tt, tt); below_128 = (omega arith, tt); are_characters = (refl, tt) }

pub character_128 : IsAlphabet Ia5 (128 ∷ []) → ⊥
character_128 a = let l = a.below_128.0 in omega arith

-- ---- object identifiers of 64 numbers

abbrev zeros : ℕ → List ℕ
zeros zero = []
zeros (suc n) = 0 ∷ zeros n

zeros_long : (n : ℕ) → length (zeros n) ≡ n
zeros_long zero = refl
zeros_long (suc n) = ap suc (zeros_long n)

zeros_small : (n : ℕ) → AllByRecursion (λ z. z < 2 ^ 64) (zeros n)
zeros_small zero = tt
zeros_small (suc n) = (lit< tt, zeros_small n)

pub arcs_64 : IsObjectIdentifier (2 ∷ 18446744073709551615 ∷ zeros 62)
arcs_64 = arcs (lit< tt) (λ h. absurd (omega arith)) (lit< tt) (zeros_small 62) (omega (arith, zeros_long 62))

pub arcs_65 : IsObjectIdentifier (2 ∷ 0 ∷ zeros 63) → ⊥
arcs_65 (arcs a b c d e) = omega (arith, e, zeros_long 63)

pub second_too_great : IsObjectIdentifier (2 ∷ 18446744073709551616 ∷ []) → ⊥
second_too_great (arcs a b c d e) = omega arith

pub first_too_great : IsObjectIdentifier (3 ∷ 0 ∷ []) → ⊥
first_too_great (arcs a b c d e) = omega arith

pub third_too_great : IsObjectIdentifier (2 ∷ 0 ∷ 18446744073709551616 ∷ []) → ⊥
third_too_great (arcs a b c d e) = let h = d.0 in omega arith

pub numbers_64 : IsRelativeOid (zeros 64)
numbers_64 = record { some = omega (arith, zeros_long 64); at_most = omega (arith, zeros_long 64); small = zeros_small 64 }

pub numbers_65 : IsRelativeOid (zeros 65) → ⊥
numbers_65 a = omega (arith, a.at_most, zeros_long 65)

-- ---- 64 levels, and 16,777,216 nodes

-- A ::= SEQUENCE OF A, and {{{..{}..}}}
abbrev nests : List Resolved
nests = row (a_sequence_of any_size 0) ∷ []

abbrev nest : ℕ → AbstractValue
nest zero = list end
nest (suc n) = list (present (nest n) end)

nest_in : (n : ℕ) → ValueIn nests (suc n) 0 (nest n)
nest_in zero = value_in (record { found = refl }) (of_sequence_of no_element tt)
nest_in (suc n) = value_in (record { found = refl }) (of_sequence_of (one_element (nest_in n) no_element) tt)

abbrev row_in : AbstractValue → Row
row_in (list vs) = vs
row_in v = end

abbrev first_in : Row → AbstractValue
first_in (present v vs) = v
first_in vs = null

abbrev element_in : Kind → ℕ
element_in (a_sequence_of c u) = u
element_in k = 0

no_leaf : {k : Kind} {v : AbstractValue} → k ≡ a_sequence_of any_size 0 → IsPrimitive k v → ⊥
no_leaf {v = v} e f = by (subst (λ q. IsPrimitive q v) e f)
  where
    by : IsPrimitive (a_sequence_of any_size 0) v → ⊥
    by f = elim f [ ]

abbrev kind_in : Option Resolved → Kind
kind_in None = a_null
kind_in (Some r) = r.kind

kind_at : {t : ℕ} {tags : List Tag} {k : Kind} → t ≡ 0 → Is nests t tags k → k ≡ a_sequence_of any_size 0
kind_at e i = ap kind_in (sym i.found) ∙ ap (λ q. kind_in (slice_get nests q)) e

mutual
  too_deep : (n : ℕ) {m t : ℕ} {v : AbstractValue} → t ≡ 0 → ValueIn nests m t v → v ≡ nest n → n < m
  too_deep n z (value_in i a) e = too_deep_list n (kind_at z i) a e

  too_deep_list : (n : ℕ) {m : ℕ} {k : Kind} {v : AbstractValue} → k ≡ a_sequence_of any_size 0 → ValueOf nests m k v → v ≡ nest n → n < suc m
  too_deep_list n z (of_leaf f) e = absurd (no_leaf z f)
  too_deep_list zero z a e = omega arith
  too_deep_list (suc n) z (of_sequence_of es a) e = let l = too_deep_row n (ap element_in z) es (ap row_in e) in omega arith
  too_deep_list (suc n) z (of_sequence a g) e = absurd (cc)
  too_deep_list (suc n) z (of_set a g) e = absurd (cc)
  too_deep_list (suc n) z (of_set_of a g) e = absurd (cc)
  too_deep_list (suc n) z (of_choice g a) e = absurd (cc)

  too_deep_row : (n : ℕ) {m u : ℕ} {vs : Row} → u ≡ 0 → AreElements nests m u vs → vs ≡ present (nest n) end → n < m
  too_deep_row n z no_element e = absurd (cc)
  too_deep_row n z (one_element v es) e = too_deep n z v (ap first_in e)

pub levels_64 : ValueIn nests 64 0 (nest 63)
levels_64 = nest_in 63

pub levels_65 : ValueIn nests 64 0 (nest 64) → ⊥
levels_65 a = let l = too_deep 64 refl a refl in omega arith

abbrev many : ℕ → Row
many zero = end
many (suc n) = present null (many n)

many_nodes : (n : ℕ) → row_nodes (many n) ≡ n
many_nodes zero = refl
many_nodes (suc n) = let e = many_nodes n in omega arith

many_in : (n m : ℕ) → AreElements (row a_null ∷ row (a_sequence_of any_size 0) ∷ []) (suc m) 0 (many n)
many_in zero m = no_element
many_in (suc n) m = one_element (value_in (record { found = refl }) (of_leaf fits_null)) (many_in n m)

pub nodes_at_most : (n : ℕ) → n ≡ 16777215 → IsValue (row a_null ∷ row (a_sequence_of any_size 0) ∷ []) 1 (list (many n))
nodes_at_most n e = record { shaped = value_in (record { found = refl }) (of_sequence_of (many_in n 62) tt); few_nodes = omega (arith, e, many_nodes n) }

pub nodes_too_many : (n : ℕ) → n ≡ 16777216 → IsValue (row a_null ∷ row (a_sequence_of any_size 0) ∷ []) 1 (list (many n)) → ⊥
nodes_too_many n e a = omega (arith, e, a.few_nodes, many_nodes n)
