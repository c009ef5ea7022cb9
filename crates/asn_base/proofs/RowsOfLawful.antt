-- A worked row: a schema with every kind of type keeps all that a schema keeps; and one whose default leads back to its
-- own type does not.
use Rattle.std.proofs.Common.{arith, lit<, ◌≡◌, ℕ, suc, ◌<◌, ◌≤◌, inl, true, false, List, [], ◌∷◌, length, refl, sym, ap, subst, ◌∙◌}
use Rattle.std.proofs.lemmas.Int.{ints}
use Rattle.std.specs.Prelude.{pos, Some, None, slice_get}
use Rattle.std.specs.List.{AllByRecursion}
use Rattle.asn_base.specs.declared.tag.Class.{Class}
use Rattle.asn_base.specs.declared.tag.Class.TheVariants.{Universal, Application, Context, Private}
use Rattle.asn_base.specs.declared.tag.Tag.{Tag}
use Rattle.asn_base.specs.declared.strings.StringKind.TheVariants.{Numeric}
use Rattle.asn_base.specs.Abstract.{AbstractValue, integer, fields, end, absent}
use Rattle.asn_base.specs.Names.{IsMember, is_first, is_later}
use Rattle.asn_base.specs.Types.{Constraint, any_size, Alternative, mandatory, optional, default, addition, Component, Kind, a_boolean, an_integer, an_enumerated, a_bit_string, a_named_bit_string, an_octet_string, a_null, an_object_identifier, a_relative_oid, a_utf8_string, a_restricted_string, a_sequence, a_set, a_sequence_of, a_set_of, a_choice, Resolved, Is}
use Rattle.asn_base.specs.Tags.{First, first_tag, first_of_choice, AreApart, HasDistinctTags, IsChoice}
use Rattle.asn_base.specs.Typed.{fits_integer, value_in, of_leaf, IsValue}
use Rattle.asn_base.specs.Schemas.{HasValue, AreListed, AreAlternatives, IsSound, components, types_in, PathLeadsTo, leads_itself, leads_onward, IsSchema}
use Rattle.asn_base.proofs.Lists.{at_place}
use Rattle.asn_base.proofs.Rows.{to_7}
use Rattle.asn_base.proofs.Schemas.{all_sizes}
use Rattle.asn_base.proofs.RowsOfBounds.{bounds_of_0_to_7, sizes_to_7, digits_and_space, two_names, an_item_after, two_bits}
use Rattle.asn_base.specs.proving.OneKind.{kind_at, tags_at}
use Rattle.asn_base.specs.proving.OneDefault.{default_in}

abbrev universal : (n : ℕ) → n < 2147483648 → 0 < n → Tag
universal n h k = record { class = Universal; number = n; in_range = h; not_reserved = λ e. k }

abbrev IsContext : Class → Type 0
IsContext Universal = ⊥
IsContext Application = ⊥
IsContext Context = Unit {0}
IsContext Private = ⊥

abbrev c0 : Tag
c0 = record { class = Context; number = 0; in_range = lit< tt; not_reserved = λ e. absurd (subst IsContext e tt) }

abbrev of_tag : (n : ℕ) → n < 2147483648 → 0 < n → Kind → Resolved
of_tag n h k kind = record { tags = universal n h k ∷ []; kind = kind }

abbrev a_name : List ℕ
a_name = 97 ∷ []

abbrev b_name : List ℕ
b_name = 98 ∷ []

abbrev to_7_octets : Constraint
to_7_octets = record { allowed = Some (record { least = None; greatest = Some (pos 7) } ∷ []); visible = record { least = Some (pos 0); greatest = Some (pos 7); extensible = false } }

-- {a INTEGER (0..7) DEFAULT 5, ..., [[b BOOLEAN]]}, {a NULL, b BOOLEAN OPTIONAL} and CHOICE {a NULL, ..., b BOOLEAN}
abbrev with_a_default : List Component
with_a_default = record { name = a_name; type = 1; presence = default (integer (pos 5)) } ∷ record { name = b_name; type = 0; presence = addition false (Some 0) } ∷ []

abbrev with_an_option : List Component
with_an_option = record { name = a_name; type = 6; presence = mandatory } ∷ record { name = b_name; type = 0; presence = optional } ∷ []

abbrev old : List Alternative
old = record { name = a_name; type = 6 } ∷ []

abbrev new : List Alternative
new = record { name = b_name; type = 0 } ∷ []

abbrev every : List Resolved
every =
    of_tag 1 (lit< tt) (lit< tt) a_boolean  -- 0
    ∷ of_tag 2 (lit< tt) (lit< tt) (an_integer to_7)  -- 1
    ∷ of_tag 10 (lit< tt) (lit< tt) (an_enumerated (record { name = b_name; number = pos 0 } ∷ []) true (record { name = a_name; number = pos 2 } ∷ []))  -- 2
    ∷ of_tag 3 (lit< tt) (lit< tt) (a_bit_string any_size)  -- 3
    ∷ of_tag 3 (lit< tt) (lit< tt) (a_named_bit_string (record { name = a_name; place = 9 } ∷ record { name = b_name; place = 0 } ∷ []))  -- 4
    ∷ of_tag 4 (lit< tt) (lit< tt) (an_octet_string to_7_octets)  -- 5
    ∷ of_tag 5 (lit< tt) (lit< tt) a_null  -- 6
    ∷ of_tag 6 (lit< tt) (lit< tt) an_object_identifier  -- 7
    ∷ of_tag 13 (lit< tt) (lit< tt) a_relative_oid  -- 8
    ∷ of_tag 12 (lit< tt) (lit< tt) (a_utf8_string any_size)  -- 9
    ∷ of_tag 18 (lit< tt) (lit< tt) (a_restricted_string Numeric (32 ∷ 48 ∷ 57 ∷ []) any_size)  -- 10
    ∷ of_tag 16 (lit< tt) (lit< tt) (a_sequence true with_a_default)  -- 11
    ∷ of_tag 17 (lit< tt) (lit< tt) (a_set false with_an_option)  -- 12
    ∷ of_tag 16 (lit< tt) (lit< tt) (a_sequence_of any_size 13)  -- 13
    ∷ of_tag 17 (lit< tt) (lit< tt) (a_set_of any_size 15)  -- 14
    ∷ record { tags = []; kind = a_choice old true new }  -- 15
    ∷ record { tags = c0 ∷ universal 1 (lit< tt) (lit< tt) ∷ []; kind = a_boolean }  -- 16
    ∷ []

-- ---- first tags

first_only : {s : List Resolved} {t : ℕ} {f g : Tag} {fs : List Tag} → tags_at (slice_get s t) ≡ f ∷ fs → First s t g → g ≡ f
first_only {f = f} e (first_tag i) = ap head (sym (ap tags_at i.found) ∙ e)
  where
    head : List Tag → Tag
    head [] = f
    head (t ∷ ts) = t
first_only e (first_of_choice i j g h) = absurd (let l : 0 ≡ suc _ = ap length (sym (ap tags_at j.found) ∙ e) in omega arith)

by_number : {t u : ℕ} {f g : Tag} {fs gs : List Tag} → tags_at (slice_get every t) ≡ f ∷ fs → tags_at (slice_get every u) ≡ g ∷ gs → (f.number ≡ g.number → ⊥) → AreApart every t u
by_number e d n h a b = n (ap (λ q. q.number) (sym (first_only e a) ∙ first_only d b))

-- ---- lists

default_is_value : HasValue every (record { name = a_name; type = 1; presence = default (integer (pos 5)) })
default_is_value d e = subst (IsValue every 1) (ap default_in e) (record { shaped = value_in (record { found = refl }) (of_leaf (fits_integer (lit< tt) (inl (omega (arith, ints), omega (arith, ints))))); few_nodes = omega arith })

sequence_is_listed : AreListed every true with_a_default
sequence_is_listed = record {
  root = record { name = a_name; type = 1; presence = default (integer (pos 5)) } ∷ [];
  more = record { name = b_name; type = 0; presence = addition false (Some 0) } ∷ [];
  parts = refl;
  in_root = (refl, tt);
  behind = (refl, tt);
  groups = tt;
  marked = λ e. absurd (cc);
  few_root = omega arith;
  few_more = omega arith;
  names = two_names;
  types = (omega arith, (omega arith, tt));
  defaults = (default_is_value, ((λ d e. absurd (cc)), tt));
}

set_is_listed : AreListed every false with_an_option
set_is_listed = record {
  root = with_an_option;
  more = [];
  parts = refl;
  in_root = (refl, (refl, tt));
  behind = tt;
  groups = tt;
  marked = λ e. refl;
  few_root = omega arith;
  few_more = omega arith;
  names = two_names;
  types = (omega arith, (omega arith, tt));
  defaults = ((λ d e. absurd (cc)), ((λ d e. absurd (cc)), tt));
}

choice_is : AreAlternatives every true old new
choice_is = record {
  some = omega arith;
  names = two_names;
  types = (omega arith, (omega arith, tt));
  more_ascend = (tt, tt);
  marked = λ e. absurd (cc);
  few_root = omega arith;
  few_more = omega arith;
}

-- ---- each type

-- only an INTEGER has a DEFAULT
abbrev Defaults : Kind → Type 0
Defaults k = AllByRecursion (λ c. (d : AbstractValue) → c.presence ≡ default d → c.type ≡ 1) (components k)

record Fine (r : Resolved) : Type 0 where
  tagged : r.tags ≡ [] → IsChoice r.kind
  few : length r.tags ≤ 6
  distinct_tags : HasDistinctTags every r.kind
  sound : IsSound every r.kind
  defaults : Defaults r.kind

-- one that holds no others, or elements
plain : (n : ℕ) (h : n < 2147483648) (l : 0 < n) (k : Kind) → HasDistinctTags every k → IsSound every k → Defaults k → Fine (of_tag n h l k)
plain n h l k t a d = record { tagged = λ e. absurd (let m = ap length e in omega arith); few = omega arith; distinct_tags = t; sound = a; defaults = d }

all_fine : AllByRecursion Fine every
all_fine = (
  plain 1 (lit< tt) (lit< tt) a_boolean tt tt tt,
  (
    plain 2 (lit< tt) (lit< tt) (an_integer to_7) tt bounds_of_0_to_7 tt,
    (
      plain 10 (lit< tt) (lit< tt) _ tt an_item_after tt,
      (
        plain 3 (lit< tt) (lit< tt) (a_bit_string any_size) tt all_sizes tt,
        (
          plain 3 (lit< tt) (lit< tt) _ tt two_bits tt,
          (
            plain 4 (lit< tt) (lit< tt) (an_octet_string to_7_octets) tt sizes_to_7 tt,
            (
              plain 5 (lit< tt) (lit< tt) a_null tt tt tt,
              (
                plain 6 (lit< tt) (lit< tt) an_object_identifier tt tt tt,
                (
                  plain 13 (lit< tt) (lit< tt) a_relative_oid tt tt tt,
                  (
                    plain 12 (lit< tt) (lit< tt) (a_utf8_string any_size) tt all_sizes tt,
                    (
                      plain 18 (lit< tt) (lit< tt) _ tt (digits_and_space, all_sizes) tt,
                      (
                        plain 16 (lit< tt) (lit< tt) (a_sequence true with_a_default) ((λ e. (by_number {t = 1} {u = 0} refl refl (λ e. omega arith), tt)), ((λ e. tt), tt)) sequence_is_listed ((λ d e. refl), ((λ d e. absurd (cc)), tt)),
                        (
                          plain 17 (lit< tt) (lit< tt) (a_set false with_an_option) ((by_number {t = 6} {u = 0} refl refl (λ e. omega arith), tt), (tt, tt)) (set_is_listed, (omega arith, (omega arith, tt))) ((λ d e. absurd (cc)), ((λ d e. absurd (cc)), tt)),
                          (
                            plain 16 (lit< tt) (lit< tt) (a_sequence_of any_size 13) tt (record { bounds = all_sizes; type = omega arith }) tt,
                            (
                              plain 17 (lit< tt) (lit< tt) (a_set_of any_size 15) tt (record { bounds = all_sizes; type = omega arith }) tt,
                              (
                                record { tagged = λ e. tt; few = omega arith; distinct_tags = ((by_number {t = 6} {u = 0} refl refl (λ e. omega arith), tt), (tt, tt)); sound = choice_is; defaults = tt },
                                (
                                  record { tagged = λ e. absurd (let m = ap length e in omega arith); few = omega arith; distinct_tags = tt; sound = tt; defaults = tt },
                                  tt,
                                ),
                              ),
                            ),
                          ),
                        ),
                      ),
                    ),
                  ),
                ),
              ),
            ),
          ),
        ),
      ),
    ),
  ),
)

-- ---- no default depends on itself

member_of_none : {A : Type 0} {x : A} {xs : List A} → xs ≡ [] → IsMember x xs → ⊥
member_of_none e m = by (subst (IsMember _) e m)
  where
    by : {A : Type 0} {x : A} → IsMember x [] → ⊥
    by m = elim m [ ]

integer_there : {t : ℕ} {tags : List Tag} {k : Kind} → t ≡ 1 → Is every t tags k → k ≡ an_integer to_7
integer_there e i = ap kind_at (sym i.found) ∙ ap (λ q. kind_at (slice_get every q)) e

leads_to_integer : {k : Kind} {t : ℕ} → t ≡ 1 → PathLeadsTo every k t → k ≡ an_integer to_7
leads_to_integer e (leads_itself i) = integer_there e i
leads_to_integer e (leads_onward i m l) = absurd (member_of_none (ap types_in (integer_there e i)) m)

default_before : (cs : List Component) {c : Component} (d : AbstractValue) → AllByRecursion (λ c. (d : AbstractValue) → c.presence ≡ default d → c.type ≡ 1) cs → IsMember c cs → c.presence ≡ default d → c.type ≡ 1
default_before [] d a m e = elim m [ ]
default_before (b ∷ bs) d a is_first e = a.0 d e
default_before (b ∷ bs) d a (is_later m) e = default_before bs d a.1 m e

-- every kind is lawful
pub every_kind : IsSchema every
every_kind = record {
  tagged = λ t k i. (at_place Fine every t _ i.found all_fine).tagged refl;
  distinct_tags = λ t tags k i. (at_place Fine every t _ i.found all_fine).distinct_tags;
  few_tags = λ t tags k i. (at_place Fine every t _ i.found all_fine).few;
  sound = λ t tags k i. (at_place Fine every t _ i.found all_fine).sound;
  no_circle = λ t q. (let f = (at_place Fine every t _ q.is.found all_fine).defaults in
      let k = leads_to_integer (default_before (components q.kind) q.value f q.stands q.has_default) q.back in
      member_of_none (ap components k) q.stands);
}

-- A ::= SEQUENCE {a A DEFAULT {}}
abbrev circle : List Component
circle = record { name = a_name; type = 0; presence = default (fields (absent end)) } ∷ []

pub a_circle : (g : Tag) → IsSchema (record { tags = g ∷ []; kind = a_sequence false circle } ∷ []) → ⊥
a_circle g a = a.no_circle 0 (record { tags = g ∷ []; kind = a_sequence false circle; is = record { found = refl }; component = _; stands = is_first; value = fields (absent end); has_default = refl; back = leads_itself (record { found = refl }) })

-- B ::= SET {a A DEFAULT {}}, A ::= SEQUENCE OF B: a circle through elements
abbrev wide_circle : List Component
wide_circle = record { name = a_name; type = 1; presence = default (fields (absent end)) } ∷ []

pub a_wide_circle : (g f : Tag) → IsSchema (record { tags = g ∷ []; kind = a_set false wide_circle } ∷ record { tags = f ∷ []; kind = a_sequence_of any_size 0 } ∷ []) → ⊥
a_wide_circle g f a = a.no_circle 0 (record { tags = g ∷ []; kind = a_set false wide_circle; is = record { found = refl }; component = _; stands = is_first; value = fields (absent end); has_default = refl; back = leads_onward (record { found = refl }) is_first (leads_itself (record { found = refl })) })
