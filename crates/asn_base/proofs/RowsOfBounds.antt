-- Worked rows: bounds, alphabets, items, bits and names that a schema keeps, and those that it must not have.
use Rattle.std.proofs.Common.{arith, lit<, ◌≡◌, ℕ, ⊎_elim, inl, inr, Bool, true, false, List, [], ◌∷◌, ◌++◌, length, refl, sym, ap, subst, ◌∙◌}
use Rattle.std.proofs.lemmas.Int.{ints}
use Rattle.std.specs.Prelude.{ℤ, pos, negsuc, ◌≤ℤ◌, Option, None, Some, IfSome}
use Rattle.std.specs.List.{AllByRecursion}
use Rattle.asn_base.specs.declared.tag.Class.{Class}
use Rattle.asn_base.specs.declared.tag.Class.TheVariants.{Universal, Application, Context, Private}
use Rattle.asn_base.specs.declared.tag.Tag.{Tag}
use Rattle.asn_base.specs.declared.strings.StringKind.TheVariants.{Numeric, Printable, Visible}
use Rattle.asn_base.specs.Abstract.{AbstractValue, integer, null}
use Rattle.asn_base.specs.Names.{IsMember, is_first, is_later, AreNames}
use Rattle.asn_base.specs.Types.{Range, Bounds, Constraint, Item, NamedBit, Alternative, Presence, mandatory, optional, default, addition, Component, Kind, a_null, a_choice, Resolved}
use Rattle.asn_base.specs.Tags.{First, first_tag, first_of_choice, class_rank, TagBefore, HasFewTags, AllTagged, AllApart}
use Rattle.asn_base.specs.Typed.{IsInRange, IsInSome, IsWithinLimit, IsPrimitive, fits_null, ValueIn, value_in, ValueOf, of_leaf, of_sequence, of_set, of_sequence_of, of_set_of, of_choice}
use Rattle.asn_base.specs.Schemas.{AreBounds, IsNumber, IsSize, IsAlphabet, AreItems, AreNamedBits, is_addition, GroupsTogether, AreListed, AreAlternatives, AreElementsOf}
use Rattle.asn_base.proofs.Rows.{to_7, row}
use Rattle.asn_base.specs.proving.OneKind.{same_kind}

-- ---- ranges

abbrev range : ℤ → ℤ → Range
range l g = record { least = Some l; greatest = Some g }

abbrev between : ℤ → ℤ → Bool → Bounds
between l g e = record { least = Some l; greatest = Some g; extensible = e }

-- (0..1 | 5) has 5, and 3 in neither
in_the_second : IsInSome (pos 5) (range (pos 0) (pos 1) ∷ range (pos 5) (pos 5) ∷ [])
in_the_second = inr (inl (omega (arith, ints), omega (arith, ints)))

in_neither : IsInSome (pos 3) (range (pos 0) (pos 1) ∷ range (pos 5) (pos 5) ∷ []) → ⊥
in_neither h = ⊎_elim (λ a. let b = a.1 in omega (arith, ints)) (λ h. ⊎_elim (λ a. let b = a.0 in omega (arith, ints)) (λ b. b) h) h

-- -1 is below (0..7), and in (MIN..0)
below_the_least : IsInRange (negsuc 0) (range (pos 0) (pos 7)) → ⊥
below_the_least h = let l = h.0 in omega (arith, ints)

without_a_least : IsInRange (negsuc 0) (record { least = None; greatest = Some (pos 0) })
without_a_least = (tt, omega (arith, ints))

greatest_number : IsWithinLimit (pos 170141183460469231731687303715884105727)
greatest_number = lit< tt

-- ---- bounds

-- INTEGER (0..7)
pub bounds_of_0_to_7 : AreBounds IsNumber to_7
bounds_of_0_to_7 = record {
  root = Some (range (pos 0) (pos 7) ∷ []);
  least = ((tt, inl (omega (arith, ints), omega (arith, ints))), λ z h. ⊎_elim (λ a. a.0) (λ b. absurd b) h.1);
  greatest = ((tt, inl (omega (arith, ints), omega (arith, ints))), λ z h. ⊎_elim (λ a. a.1) (λ b. absurd b) h.1);
  not_extensible = λ e. refl;
  extensible = λ e. absurd (cc);
}

-- INTEGER (0..7, ...) allows every number
pub bounds_of_0_to_7_and_more : AreBounds IsNumber (record { allowed = None; visible = between (pos 0) (pos 7) true })
bounds_of_0_to_7_and_more = record {
  root = Some (range (pos 0) (pos 7) ∷ []);
  least = ((tt, inl (omega (arith, ints), omega (arith, ints))), λ z h. ⊎_elim (λ a. a.0) (λ b. absurd b) h.1);
  greatest = ((tt, inl (omega (arith, ints), omega (arith, ints))), λ z h. ⊎_elim (λ a. a.1) (λ b. absurd b) h.1);
  not_extensible = λ e. absurd (cc);
  extensible = λ e. refl;
}

-- SIZE (MIN..7) begins at 0
pub sizes_to_7 : AreBounds IsSize (record { allowed = Some (record { least = None; greatest = Some (pos 7) } ∷ []); visible = between (pos 0) (pos 7) false })
sizes_to_7 = record {
  root = Some (record { least = None; greatest = Some (pos 7) } ∷ []);
  least = ((tt, inl (tt, omega (arith, ints))), at_least_0);
  greatest = ((tt, inl (tt, omega (arith, ints))), λ z h. ⊎_elim (λ a. a.1) (λ b. absurd b) h.1);
  not_extensible = λ e. refl;
  extensible = λ e. absurd (cc);
}
  where
    at_least_0 : (z : ℤ) → IsSize z × IfSome (Some (record { least = None; greatest = Some (pos 7) } ∷ [])) (IsInSome z) → pos 0 ≤ℤ z
    at_least_0 (pos n) h = omega (arith, ints)
    at_least_0 (negsuc n) h = absurd h.0

-- no constraint has bounds 9 to 3: 9 would be in its root
pub no_bounds_9_to_3 : (P : ℤ → Type 0) (a : Option (List Range)) (e : Bool) → AreBounds P (record { allowed = a; visible = between (pos 9) (pos 3) e }) → ⊥
no_bounds_9_to_3 P a e b = let l : pos 9 ≤ℤ pos 3 = b.greatest.1 (pos 9) b.least.0 in omega (arith, ints)

-- nor is 9 the least number of (9..3), which has none
pub no_least_of_nothing : (g : Option ℤ) → AreBounds IsNumber (record { allowed = Some (range (pos 9) (pos 3) ∷ []); visible = record { least = Some (pos 9); greatest = g; extensible = false } }) → ⊥
no_least_of_nothing g b =
    let r = b.not_extensible refl in
    let h : IfSome (Some (range (pos 9) (pos 3) ∷ [])) (IsInSome (pos 9)) = subst (λ q. IfSome q (IsInSome (pos 9))) (sym r) b.least.0.1 in
    ⊎_elim (λ a. (let l = a.1 in omega (arith, ints))) (λ b. b) h

-- 1 is not the least of (0..7), nor 6 the greatest
pub least_is_least : (g : Option ℤ) → AreBounds IsNumber (record { allowed = Some (range (pos 0) (pos 7) ∷ []); visible = record { least = Some (pos 1); greatest = g; extensible = false } }) → ⊥
least_is_least g b =
    let r = b.not_extensible refl in
    let l : pos 1 ≤ℤ pos 0 = b.least.1 (pos 0) (tt, subst (λ q. IfSome q (IsInSome (pos 0))) r (inl (omega (arith, ints), omega (arith, ints)))) in
    omega (arith, ints)

pub greatest_is_greatest : (l : Option ℤ) → AreBounds IsNumber (record { allowed = Some (range (pos 0) (pos 7) ∷ []); visible = record { least = l; greatest = Some (pos 6); extensible = false } }) → ⊥
greatest_is_greatest l b =
    let r = b.not_extensible refl in
    let h : pos 7 ≤ℤ pos 6 = b.greatest.1 (pos 7) (tt, subst (λ q. IfSome q (IsInSome (pos 7))) r (inl (omega (arith, ints), omega (arith, ints)))) in
    omega (arith, ints)

-- (0..7) has a least number and a greatest one
pub some_least : (g : Option ℤ) → AreBounds IsNumber (record { allowed = Some (range (pos 0) (pos 7) ∷ []); visible = record { least = None; greatest = g; extensible = false } }) → ⊥
some_least g b =
    let r = b.not_extensible refl in
    b.least (pos 0) (λ z h. ⊎_elim (λ a. a.0) (λ b. absurd b) (subst (λ q. IfSome q (IsInSome z)) (sym r) h.1))

pub some_greatest : (l : Option ℤ) → AreBounds IsNumber (record { allowed = Some (range (pos 0) (pos 7) ∷ []); visible = record { least = l; greatest = None; extensible = false } }) → ⊥
some_greatest l b =
    let r = b.not_extensible refl in
    b.greatest (pos 7) (λ z h. ⊎_elim (λ a. a.1) (λ b. absurd b) (subst (λ q. IfSome q (IsInSome z)) (sym r) h.1))

-- a size is not negative
pub no_negative_size : (a : Option (List Range)) (g : Option ℤ) (e : Bool) → AreBounds IsSize (record { allowed = a; visible = record { least = Some (negsuc 0); greatest = g; extensible = e } }) → ⊥
no_negative_size a g e b = b.least.0.0

-- with a marker everything is allowed
pub marked_allows_all : (l g : Option ℤ) → AreBounds IsNumber (record { allowed = Some (range (pos 0) (pos 7) ∷ []); visible = record { least = l; greatest = g; extensible = true } }) → ⊥
marked_allows_all l g b = let e : Some (range (pos 0) (pos 7) ∷ []) ≡ None = b.extensible refl in cc

-- ---- alphabets

pub digits_and_space : IsAlphabet Numeric (32 ∷ 48 ∷ 57 ∷ [])
digits_and_space = record { some = omega arith; ascend = ((omega arith, (omega arith, tt)), ((omega arith, tt), (tt, tt))); below_128 = (omega arith, (omega arith, (omega arith, tt))); are_characters = (refl, (refl, (refl, tt))) }

pub no_character : IsAlphabet Numeric [] → ⊥
no_character a = let l = a.some in omega arith

pub characters_descend : IsAlphabet Numeric (57 ∷ 48 ∷ []) → ⊥
characters_descend a = let l = a.ascend.0.0 in omega arith

pub character_twice : IsAlphabet Numeric (57 ∷ 57 ∷ []) → ⊥
character_twice a = let l = a.ascend.0.0 in omega arith

pub letter_of_numeric : IsAlphabet Numeric (65 ∷ []) → ⊥
letter_of_numeric a = let e : false ≡ true = a.are_characters.0 in cc

pub star_of_printable : IsAlphabet Printable (42 ∷ []) → ⊥
star_of_printable a = let e : false ≡ true = a.are_characters.0 in cc

pub delete_of_visible : IsAlphabet Visible (127 ∷ []) → ⊥
delete_of_visible a = let e : false ≡ true = a.are_characters.0 in cc

-- ---- names

abbrev a_name : List ℕ
a_name = 97 ∷ []

abbrev b_name : List ℕ
b_name = 98 ∷ []

head_or_0 : List ℕ → ℕ
head_or_0 [] = 0
head_or_0 (x ∷ xs) = x

apart_names : {x : List ℕ} → IsMember x (b_name ∷ []) → head_or_0 x ≡ 97 → ⊥
unfolding head_or_0
apart_names is_first e = omega arith
apart_names (is_later m) e = elim m [ ]

pub two_names : AreNames (a_name ∷ b_name ∷ [])
unfolding head_or_0
two_names = record { identifiers = (refl, (refl, tt)); distinct = ((λ m. apart_names m refl), ((λ m. elim m [ ]), tt)) }

pub name_twice : AreNames (a_name ∷ b_name ∷ a_name ∷ []) → ⊥
name_twice a = a.distinct.0 (is_later is_first)

pub capital_name : AreNames ((65 ∷ []) ∷ []) → ⊥
capital_name a = let e : false ≡ true = a.identifiers.0 in cc

-- ---- items and bits

abbrev item : List ℕ → ℤ → Item
item x z = record { name = x; number = z }

-- ENUMERATED {b(0), ..., a(2)}
pub an_item_after : AreItems true (item b_name (pos 0) ∷ []) (item a_name (pos 2) ∷ [])
unfolding head_or_0
an_item_after = record {
  some = omega arith;
  names = record { identifiers = (refl, (refl, tt)); distinct = ((λ m. apart m refl), ((λ m. elim m [ ]), tt)) };
  limits = (lit< tt, (lit< tt, tt));
  root_ascends = (tt, tt);
  more_ascend = (tt, tt);
  apart = ((λ h. ⊎_elim (λ e. omega (arith, ints)) (λ b. b) h), tt);
  marked = λ e. absurd (cc);
  few_root = omega arith;
  few_more = omega arith;
}
  where
    apart : {x : List ℕ} → IsMember x (a_name ∷ []) → head_or_0 x ≡ 98 → ⊥
    apart is_first e = omega arith
    apart (is_later m) e = elim m [ ]

pub no_marker_no_item : {e : Bool} → e ≡ false → AreItems e (item b_name (pos 0) ∷ []) (item a_name (pos 2) ∷ []) → ⊥
no_marker_no_item e a = let f = ap length (a.marked e) in omega arith

pub items_that_descend : {e : Bool} {more : List Item} → AreItems e (item a_name (pos 2) ∷ item b_name (pos 0) ∷ []) more → ⊥
items_that_descend a = let l = a.root_ascends.0.0 in omega (arith, ints)

pub number_twice : {e : Bool} {more : List Item} → AreItems e (item a_name (pos 2) ∷ item b_name (pos 2) ∷ []) more → ⊥
number_twice a = let l = a.root_ascends.0.0 in omega (arith, ints)

pub number_of_root : {e : Bool} → AreItems e (item a_name (pos 2) ∷ []) (item b_name (pos 2) ∷ []) → ⊥
number_of_root a = a.apart.0 (inl refl)

pub new_items_descend : {e : Bool} {root : List Item} → AreItems e root (item a_name (pos 2) ∷ item b_name (pos 0) ∷ []) → ⊥
new_items_descend a = let l = a.more_ascend.0.0 in omega (arith, ints)

pub no_items : {e : Bool} {more : List Item} → AreItems e [] more → ⊥
no_items a = let l = a.some in omega arith

pub item_name_twice : {e : Bool} → AreItems e (item a_name (pos 0) ∷ []) (item a_name (pos 2) ∷ []) → ⊥
item_name_twice a = a.names.distinct.0 is_first

pub item_past_the_limit : {e : Bool} {more : List Item} → AreItems e (item a_name (pos 170141183460469231731687303715884105728) ∷ []) more → ⊥
item_past_the_limit a = let l = a.limits.0 in omega arith

abbrev bit : List ℕ → ℕ → NamedBit
bit x n = record { name = x; place = n }

one_place : {x : ℕ} → IsMember x (0 ∷ []) → x ≡ 9 → ⊥
one_place is_first e = omega arith
one_place (is_later m) e = elim m [ ]

-- BIT STRING {a(9), b(0)}
pub two_bits : AreNamedBits (bit a_name 9 ∷ bit b_name 0 ∷ [])
unfolding head_or_0
two_bits = record { some = omega arith; names = record { identifiers = (refl, (refl, tt)); distinct = ((λ m. apart_names m refl), ((λ m. elim m [ ]), tt)) }; places = ((λ m. one_place m refl), ((λ m. elim m [ ]), tt)); limits = (omega arith, (omega arith, tt)) }

pub no_bits : AreNamedBits [] → ⊥
no_bits a = let l = a.some in omega arith

pub place_twice : AreNamedBits (bit a_name 9 ∷ bit b_name 9 ∷ []) → ⊥
place_twice a = a.places.0 is_first

pub bit_name_twice : AreNamedBits (bit a_name 9 ∷ bit a_name 0 ∷ []) → ⊥
bit_name_twice a = a.names.distinct.0 is_first

-- ---- tags

-- the six pairs of classes, whatever the numbers
universal_before : (g f : Tag) → g.class ≡ Universal → (f.class ≡ Universal → ⊥) → TagBefore g f
universal_before g f e n = by f.class refl
  where
    by : (c : Class) → f.class ≡ c → TagBefore g f
    by Universal d = absurd (n d)
    by Application d = inl (let x = ap class_rank e in let y = ap class_rank d in omega arith)
    by Context d = inl (let x = ap class_rank e in let y = ap class_rank d in omega arith)
    by Private d = inl (let x = ap class_rank e in let y = ap class_rank d in omega arith)

application_before_context : (g f : Tag) → g.class ≡ Application → f.class ≡ Context → TagBefore g f
application_before_context g f e d = inl (let x = ap class_rank e in let y = ap class_rank d in omega arith)

before_private : (g f : Tag) → (g.class ≡ Private → ⊥) → f.class ≡ Private → TagBefore g f
before_private g f n d = by g.class refl
  where
    by : (c : Class) → g.class ≡ c → TagBefore g f
    by Universal e = inl (let x = ap class_rank e in let y = ap class_rank d in omega arith)
    by Application e = inl (let x = ap class_rank e in let y = ap class_rank d in omega arith)
    by Context e = inl (let x = ap class_rank e in let y = ap class_rank d in omega arith)
    by Private e = absurd (n e)

-- a tag isn't before itself, nor is [0] before [APPLICATION 1], nor [1] before [0]
pub not_before_itself : (g : Tag) → TagBefore g g → ⊥
not_before_itself g h = ⊎_elim (λ l. omega arith) (λ p. (let l = p.1 in omega arith)) h

pub context_after_application : (g f : Tag) → g.class ≡ Context → f.class ≡ Application → TagBefore g f → ⊥
context_after_application g f e d h =
    let x = ap class_rank e in let y = ap class_rank d in
    ⊎_elim (λ l. omega arith) (λ p. (let l = p.0 in omega arith)) h

pub one_after_zero : (g f : Tag) → g.class ≡ Context → f.class ≡ Context → g.number ≡ 1 → f.number ≡ 0 → TagBefore g f → ⊥
one_after_zero g f e d i j h =
    let x = ap class_rank e in let y = ap class_rank d in
    ⊎_elim (λ l. omega arith) (λ p. (let l = p.1 in omega arith)) h

-- seven tags are too many; a type without a tag is a CHOICE
pub seven_tags : (g : Tag) → HasFewTags (record { tags = g ∷ g ∷ g ∷ g ∷ g ∷ g ∷ g ∷ []; kind = a_null } ∷ []) → ⊥
seven_tags g h = let l = h 0 _ _ (record { found = refl }) in omega arith

pub null_without_tag : AllTagged (record { tags = []; kind = a_null } ∷ []) → ⊥
null_without_tag h = h 0 _ (record { found = refl })

-- An untagged CHOICE begins with the tags of its alternatives, those after the marker included. A tagged CHOICE begins
-- with its own tag.
abbrev an_alternative : List ℕ → ℕ → Alternative
an_alternative x t = record { name = x; type = t }

abbrev choices : Tag → Tag → List Resolved
choices g f = record { tags = g ∷ []; kind = a_null } ∷ record { tags = f ∷ []; kind = a_null }
    ∷ record { tags = []; kind = a_choice (an_alternative a_name 0 ∷ []) true (an_alternative b_name 1 ∷ []) } ∷ []

pub begins_with_the_first : (g f : Tag) → First (choices g f) 2 g
begins_with_the_first g f = first_of_choice 0 (record { found = refl }) refl (first_tag (record { found = refl }))

pub begins_with_the_new : (g f : Tag) → First (choices g f) 2 f
begins_with_the_new g f = first_of_choice 1 (record { found = refl }) refl (first_tag (record { found = refl }))

-- so it is not apart from either
pub not_apart : (g f : Tag) → AllApart (choices g f) (0 ∷ 2 ∷ []) → ⊥
not_apart g f h = h.0.0 g (first_tag (record { found = refl })) (begins_with_the_first g f)

pub not_apart_after : (g f : Tag) → AllApart (choices g f) (2 ∷ 0 ∷ 1 ∷ []) → ⊥
not_apart_after g f h = h.0.1.0 f (begins_with_the_new g f) (first_tag (record { found = refl }))

-- ---- components and alternatives

abbrev component : List ℕ → Presence → Component
component x p = record { name = x; type = 0; presence = p }

abbrev nulls : List Resolved
nulls = row a_null ∷ []

pub no_marker_no_addition : {s : List Resolved} → AreListed s false (component a_name (addition false None) ∷ []) → ⊥
no_marker_no_addition a = by a.root a.more a.parts (a.marked refl) a.in_root
  where
    by : (root more : List Component) → component a_name (addition false None) ∷ [] ≡ root ++ more → more ≡ [] → AllByRecursion (λ c. is_addition c ≡ false) root → ⊥
    by [] more e f h = let l = ap length (e ∙ f) in omega arith
    by (c ∷ cs) more e f h = let g : true ≡ false = ap is_new (ap first e) ∙ h.0 in cc
      where
        first : List Component → Component
        first [] = c
        first (d ∷ ds) = d

        is_new : Component → Bool
        is_new d = is_addition d

pub addition_in_front : {s : List Resolved} {e : Bool} → AreListed s e (component a_name (addition false None) ∷ component b_name mandatory ∷ []) → ⊥
addition_in_front a = by a.root a.more a.parts a.in_root a.behind
  where
    is_new : Component → Bool
    is_new d = is_addition d

    first : List Component → Component
    first [] = component a_name optional
    first (d ∷ ds) = d

    second : List Component → Component
    second (c ∷ d ∷ ds) = d
    second ds = component a_name optional

    by : (root more : List Component) → component a_name (addition false None) ∷ component b_name mandatory ∷ [] ≡ root ++ more → AllByRecursion (λ c. is_addition c ≡ false) root → AllByRecursion (λ c. is_addition c ≡ true) more → ⊥
    by [] [] e h i = let l = ap length e in omega arith
    by [] (c ∷ []) e h i = let l = ap length e in omega arith
    by [] (c ∷ d ∷ ds) e h i = let g : false ≡ true = ap is_new (ap second e) ∙ i.1.0 in cc
    by (c ∷ cs) more e h i = let g : true ≡ false = ap is_new (ap first e) ∙ h.0 in cc

pub component_name_twice : {s : List Resolved} {e : Bool} → AreListed s e (component a_name mandatory ∷ component a_name optional ∷ []) → ⊥
component_name_twice a = a.names.distinct.0 is_first

pub component_of_no_type : {e : Bool} → AreListed [] e (component a_name mandatory ∷ []) → ⊥
component_of_no_type a = let l = a.types.0 in omega arith

-- a DEFAULT is a value of its type, so that of a NULL isn't a number
abbrev IsNull : AbstractValue → Type 0
IsNull null = Unit {0}
IsNull v = ⊥

null_alone : {v : AbstractValue} → IsPrimitive a_null v → IsNull v
null_alone fits_null = tt

kind_alone : {n : ℕ} {k : Kind} {v : AbstractValue} → k ≡ a_null → ValueOf nulls n k v → IsNull v
kind_alone {v = v} e (of_leaf f) = null_alone (subst (λ q. IsPrimitive q v) e f)
kind_alone e (of_sequence a g) = absurd (cc)
kind_alone e (of_set a g) = absurd (cc)
kind_alone e (of_sequence_of a z) = absurd (cc)
kind_alone e (of_set_of a z) = absurd (cc)
kind_alone e (of_choice g a) = absurd (cc)

default_alone : {n : ℕ} {v : AbstractValue} → ValueIn nulls n 0 v → IsNull v
default_alone (value_in i a) = kind_alone (same_kind (record { found = refl }) i) a

pub default_of_null : {e : Bool} → AreListed nulls e (component a_name (default (integer (pos 5))) ∷ []) → ⊥
default_of_null a = default_alone (a.defaults.0 (integer (pos 5)) refl).shaped

-- members of a group are next to each other
abbrev of_group : ℕ → List ℕ → Component
of_group g x = component x (addition false (Some g))

pub one_group : GroupsTogether (of_group 1 a_name ∷ of_group 1 b_name ∷ [])
one_group = ((λ g e. inl e), tt)

pub group_cut : GroupsTogether (of_group 1 a_name ∷ of_group 2 b_name ∷ of_group 1 (99 ∷ []) ∷ []) → ⊥
group_cut h = ⊎_elim (λ e. (let f : 2 ≡ 1 = ap group_in e in omega arith)) (λ a. a.1.0 refl) (h.0 1 refl)
  where
    group_in : Option ℕ → ℕ
    group_in None = 0
    group_in (Some g) = g

pub groups_cut_by_none : GroupsTogether (of_group 1 a_name ∷ component b_name (addition false None) ∷ of_group 1 (99 ∷ []) ∷ []) → ⊥
groups_cut_by_none h = ⊎_elim (λ e. (let f : 0 ≡ 1 = ap group_in e in omega arith)) (λ a. a.1.0 refl) (h.0 1 refl)
  where
    group_in : Option ℕ → ℕ
    group_in None = 0
    group_in (Some g) = g

pub no_alternative : {s : List Resolved} {e : Bool} {more : List Alternative} → AreAlternatives s e [] more → ⊥
no_alternative a = let l = a.some in omega arith

pub alternative_name_twice : {s : List Resolved} {e : Bool} → AreAlternatives s e (an_alternative a_name 0 ∷ []) (an_alternative a_name 1 ∷ []) → ⊥
alternative_name_twice a = a.names.distinct.0 is_first

pub no_marker_no_alternative : {s : List Resolved} → AreAlternatives s false (an_alternative a_name 0 ∷ []) (an_alternative b_name 1 ∷ []) → ⊥
no_marker_no_alternative a = let l = ap length (a.marked refl) in omega arith

-- alternatives after the marker are in the order of their tags, and each has a tag
pub alternatives_that_descend : {e : Bool} {root : List Alternative} (g f : Tag) → TagBefore g f → AreAlternatives (choices f g) e root (an_alternative a_name 0 ∷ an_alternative b_name 1 ∷ []) → ⊥
alternatives_that_descend g f b a =
    let h : TagBefore f g = a.more_ascend.0.0 f g (first_tag (record { found = refl })) (first_tag (record { found = refl })) in
    both g f b h
  where
    both : (g f : Tag) → TagBefore g f → TagBefore f g → ⊥
    both g f b h = ⊎_elim (λ l. ⊎_elim (λ m. omega arith) (λ m. (let k = m.0 in omega arith)) h) (λ l. (let i = l.0 in let j = l.1 in ⊎_elim (λ m. omega arith) (λ m. (let k = m.1 in omega arith)) h)) b

pub alternative_without_tag : {e : Bool} {more : List Alternative} (g f : Tag) → AreAlternatives (choices g f) e (an_alternative a_name 2 ∷ []) more → ⊥
alternative_without_tag g f a = let l = a.types.0 in omega arith

pub elements_of_no_type : {c : Constraint} → AreElementsOf nulls c 1 → ⊥
elements_of_no_type a = let l = a.type in omega arith
