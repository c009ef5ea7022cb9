-- A schema with every kind of type, for worked rows. Its types can be distinguished by their tags.
use Rattle.std.proofs.Common.{arith, lit<, ◌≡◌, ℕ, zero, suc, ◌<◌, true, false, List, [], ◌∷◌, length, refl, sym, ap, subst, ◌∙◌}
use Rattle.std.specs.Prelude.{◌+◌, pos, Option, Some, None, slice_get}
use Rattle.std.specs.List.{AllByRecursion}
use Rattle.asn_base.specs.declared.tag.Class.{Class}
use Rattle.asn_base.specs.declared.tag.Class.TheVariants.{Universal, Application, Context, Private}
use Rattle.asn_base.specs.declared.tag.Tag.{Tag}
use Rattle.asn_base.specs.Abstract.{AbstractValue, integer, fields, list, end, present}
use Rattle.asn_base.specs.declared.strings.StringKind.TheVariants.{Numeric}
use Rattle.asn_base.specs.Types.{Constraint, any_number, any_size, Alternative, Presence, mandatory, optional, default, Component, Kind, a_boolean, an_integer, an_enumerated, a_bit_string, a_named_bit_string, an_octet_string, a_null, an_object_identifier, a_utf8_string, a_restricted_string, a_sequence, a_set, a_sequence_of, a_set_of, a_choice, Resolved}
use Rattle.asn_base.specs.Tags.{First, first_tag, first_of_choice, AreApart, HasDistinctTags, AllHaveDistinctTags, IsChoice, AllTagged}

abbrev pub universal : (n : ℕ) → n < 2147483648 → 0 < n → Tag
universal n h k = record { class = Universal; number = n; in_range = h; not_reserved = λ e. k }

abbrev IsContext : Class → Type 0
IsContext Universal = ⊥
IsContext Application = ⊥
IsContext Context = Unit {0}
IsContext Private = ⊥

abbrev pub context : (n : ℕ) → n < 2147483648 → Tag
context n h = record { class = Context; number = n; in_range = h; not_reserved = λ e. absurd (subst IsContext e tt) }

abbrev pub free : Constraint
free = any_number

abbrev pub u1 : Tag
u1 = universal 1 (lit< tt) (lit< tt)

abbrev pub u2 : Tag
u2 = universal 2 (lit< tt) (lit< tt)

abbrev pub u3 : Tag
u3 = universal 3 (lit< tt) (lit< tt)

abbrev pub u4 : Tag
u4 = universal 4 (lit< tt) (lit< tt)

abbrev pub u5 : Tag
u5 = universal 5 (lit< tt) (lit< tt)

abbrev pub u6 : Tag
u6 = universal 6 (lit< tt) (lit< tt)

abbrev pub u10 : Tag
u10 = universal 10 (lit< tt) (lit< tt)

abbrev pub u12 : Tag
u12 = universal 12 (lit< tt) (lit< tt)

abbrev pub u16 : Tag
u16 = universal 16 (lit< tt) (lit< tt)

abbrev pub u17 : Tag
u17 = universal 17 (lit< tt) (lit< tt)

abbrev pub u18 : Tag
u18 = universal 18 (lit< tt) (lit< tt)

abbrev pub c0 : Tag
c0 = context 0 (lit< tt)

abbrev pub c1 : Tag
c1 = context 1 (lit< tt)

abbrev pub c2 : Tag
c2 = context 2 (lit< tt)

abbrev type : List Tag → Kind → Resolved
type ts k = record { tags = ts; kind = k }

abbrev pub a_component : ℕ → Presence → Component
a_component t p = record { name = (97 + t) ∷ []; type = t; presence = p }

abbrev pub an_alternative : ℕ → Alternative
an_alternative t = record { name = (97 + t) ∷ []; type = t }

-- SET OF INTEGER {1, 2}
abbrev pub one_and_two : AbstractValue
one_and_two = list (present (integer (pos 1)) (present (integer (pos 2)) end))

-- {a 7}
abbrev pub seven : AbstractValue
seven = fields (present (integer (pos 7)) end)

abbrev pub rows : List Resolved
rows =
    type (u1 ∷ []) a_boolean  -- 0
    ∷ type (u2 ∷ []) (an_integer free)  -- 1
    ∷ type (u3 ∷ []) (a_bit_string any_size)  -- 2
    ∷ type (u4 ∷ []) (an_octet_string any_size)  -- 3
    ∷ type (u3 ∷ []) (a_named_bit_string (record { name = 97 ∷ []; place = 0 } ∷ record { name = 98 ∷ []; place = 9 } ∷ []))  -- 4
    ∷ type (u5 ∷ []) a_null  -- 5
    ∷ type (u6 ∷ []) an_object_identifier  -- 6
    ∷ type (u17 ∷ []) (a_set_of any_size 1)  -- 7
    ∷ type (u16 ∷ []) (a_sequence false (a_component 7 (default one_and_two) ∷ []))  -- 8
    ∷ type (c1 ∷ []) a_boolean  -- 9
    ∷ type (c0 ∷ []) a_boolean  -- 10
    ∷ type (u17 ∷ []) (a_set false (a_component 9 mandatory ∷ a_component 10 mandatory ∷ []))  -- 11
    ∷ type (c1 ∷ c2 ∷ []) a_boolean  -- 12
    ∷ type (u16 ∷ []) (a_sequence false (a_component 0 mandatory ∷ []))  -- 13
    ∷ type (c0 ∷ []) (an_integer free)  -- 14
    ∷ type (u16 ∷ []) (a_sequence true (a_component 14 optional ∷ []))  -- 15
    ∷ type [] (a_choice (an_alternative 5 ∷ []) true (an_alternative 0 ∷ []))  -- 16
    ∷ type (c0 ∷ []) (a_choice (an_alternative 5 ∷ an_alternative 0 ∷ []) false [])  -- 17
    ∷ type (u16 ∷ []) (a_sequence_of any_size 16)  -- 18
    ∷ type (u12 ∷ []) (a_utf8_string any_size)  -- 19
    ∷ type (u18 ∷ []) (a_restricted_string Numeric (32 ∷ 48 ∷ 57 ∷ []) any_size)  -- 20
    ∷ type (u10 ∷ []) (an_enumerated (record { name = 97 ∷ []; number = pos 0 } ∷ []) true (record { name = 98 ∷ []; number = pos 2 } ∷ []))  -- 21
    ∷ type (u16 ∷ []) (a_sequence_of any_size 22)  -- 22
    ∷ type (u16 ∷ []) (a_sequence false (a_component 15 (default seven) ∷ []))  -- 23
    ∷ type (u17 ∷ []) (a_set true (a_component 9 mandatory ∷ []))  -- 24
    ∷ []

abbrev Fine : Resolved → Type 0
Fine r = ((r.tags ≡ []) → IsChoice r.kind) × HasDistinctTags rows r.kind

abbrev pub tags_in : Option Resolved → List Tag
tags_in None = []
tags_in (Some r) = r.tags

abbrev IsFound : Option Resolved → Type 0
IsFound None = ⊥
IsFound (Some r) = Unit {0}

-- the only first tag of a type that has one
pub first_only : {s : List Resolved} {t : ℕ} {f g : Tag} {fs : List Tag} → tags_in (slice_get s t) ≡ f ∷ fs → First s t g → g ≡ f
first_only e (first_tag i) = ap head (sym (ap tags_in i.found) ∙ e)
  where
    head : List Tag → Tag
    head [] = u1
    head (t ∷ ts) = t
first_only e (first_of_choice i j g h) = absurd (let l : 0 ≡ suc _ = ap length (sym (ap tags_in j.found) ∙ e) in omega arith)

by_number : {t u : ℕ} {f g : Tag} {fs gs : List Tag} → tags_in (slice_get rows t) ≡ f ∷ fs → tags_in (slice_get rows u) ≡ g ∷ gs → (f.number ≡ g.number → ⊥) → AreApart rows t u
by_number e d n h a b = n (ap (λ q. q.number) (sym (first_only e a) ∙ first_only d b))

some_tag : {g : Tag} {gs : List Tag} {P : Type 0} → g ∷ gs ≡ [] → P
some_tag e = absurd (let l = ap length e in omega arith)

fine : AllByRecursion Fine rows
fine = (
  (some_tag, tt),
  (
    (some_tag, tt),
    (
      (some_tag, tt),
      (
        (some_tag, tt),
        (
          (some_tag, tt),
          (
            (some_tag, tt),
            (
              (some_tag, tt),
              (
                (some_tag, tt),
                (
                  (some_tag, ((λ f. tt), tt)),
                  (
                    (some_tag, tt),
                    (
                      (some_tag, tt),
                      (
                        (some_tag, ((by_number {t = 9} {u = 10} refl refl (λ e. omega arith), tt), (tt, tt))),
                        (
                          (some_tag, tt),
                          (
                            (some_tag, ((λ f. tt), tt)),
                            (
                              (some_tag, tt),
                              (
                                (some_tag, ((λ f. tt), tt)),
                                (
                                  ((λ e. tt), ((by_number {t = 5} {u = 0} refl refl (λ e. omega arith), tt), (tt, tt))),
                                  (
                                    (some_tag, ((by_number {t = 5} {u = 0} refl refl (λ e. omega arith), tt), (tt, tt))),
                                    (
                                      (some_tag, tt),
                                      (
                                        (some_tag, tt),
                                        (
                                          (some_tag, tt),
                                          (
                                            (some_tag, tt),
                                            (
                                              (some_tag, tt),
                                              (
                                                (some_tag, ((λ f. tt), tt)),
                                                (
                                                  (some_tag, (tt, tt)),
                                                  tt,
                                                ),
                                              ),
                                            ),
                                          ),
                                        ),
                                      ),
                                    ),
                                  ),
                                ),
                              ),
                            ),
                          ),
                        ),
                      ),
                    ),
                  ),
                ),
              ),
            ),
          ),
        ),
      ),
    ),
  ),
)

pub place : (P : Resolved → Type 0) (xs : List Resolved) (t : ℕ) (r : Resolved) → AllByRecursion P xs → slice_get xs t ≡ Some r → P r
place P [] t r a e = absurd (subst IsFound (sym e) tt)
place P (x ∷ xs) zero r a e = subst P (ap found e) a.0
  where
    found : Option Resolved → Resolved
    found None = x
    found (Some q) = q
place P (x ∷ xs) (suc t) r a e = place P xs t r a.1 e

-- the premises of the laws are met by a schema with every kind
pub rows_tagged : AllTagged rows
rows_tagged t k i = (place Fine rows t _ fine i.found).0 refl

pub rows_tellable : AllHaveDistinctTags rows
rows_tellable t tags k i = (place Fine rows t _ fine i.found).1
