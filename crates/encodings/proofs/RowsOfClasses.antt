-- Worked rows of tag classes in order, of short and negative values, and of additions that the type has or lacks.
use Rattle.std.proofs.Common.{arith, lit<, ◌≡◌, true, false, List, [], ◌∷◌, refl, ap, subst, inl, inr}
use Rattle.std.specs.Prelude.{negsuc, None}
use Rattle.asn_base.specs.declared.tag.Class.TheVariants.{Application, Private}
use Rattle.asn_base.specs.declared.tag.Tag.{Tag}
use Rattle.asn_base.specs.Abstract.{AbstractValue, boolean, enumerated, oid, relative_oid, fields, end, absent, present}
use Rattle.asn_base.specs.Types.{Presence, mandatory, optional, default, addition, a_boolean, an_enumerated, an_object_identifier, a_relative_oid, a_sequence, a_set, Resolved}
use Rattle.asn_base.specs.Typed.{arcs}
use Rattle.asn_base.specs.Tags.{First}
use Rattle.encodings.specs.Rules.{Distinguished}
use Rattle.encodings.specs.Header.{identifier}
use Rattle.encodings.specs.Fewest.{shortest_header}
use Rattle.encodings.specs.Contents.{of_false, of_true, of_oid, of_relative_oid, of_enumerated}
use Rattle.encodings.specs.Orders.{ascending_one, ascending_more, InTagOrder, permutes_none, permutes_more, here as list_here, there as list_there, merges_none, merges_first, merges_second}
use Rattle.encodings.specs.Encoding.{innermost, closed, extensible, no_unknown, unknown, EncodesTo, says, leaf, sequence, set, no_member, left_out, member}
use Rattle.encodings.proofs.Headers.{shortest_is}
use Rattle.encodings.proofs.RowTypes.{universal, context, u1, u6, u10, u16, u17, c0, c1, c2, a_component, first_only}
use Rattle.encodings.proofs.RowsThatHold.{short_header, is_minus_1, must_stand}

abbrev a0 : Tag
a0 = record { class = Application; number = 5; in_range = lit< tt; not_reserved = λ e. lit< tt }

abbrev p0 : Tag
p0 = record { class = Private; number = 3; in_range = lit< tt; not_reserved = λ e. lit< tt }

abbrev pub u13 : Tag
u13 = universal 13 (lit< tt) (lit< tt)

abbrev c3 : Tag
c3 = context 3 (lit< tt)

abbrev c4 : Tag
c4 = context 4 (lit< tt)

abbrev pub more : List Resolved
more = record { tags = u1 ∷ []; kind = a_boolean }
    ∷ record { tags = a0 ∷ []; kind = a_boolean }
    ∷ record { tags = c0 ∷ []; kind = a_boolean }
    ∷ record { tags = p0 ∷ []; kind = a_boolean }
    ∷ record { tags = u17 ∷ []; kind = a_set false (a_component 3 mandatory ∷ a_component 2 mandatory ∷ a_component 1 mandatory ∷ a_component 0 mandatory ∷ []) }
    ∷ record { tags = u10 ∷ []; kind = an_enumerated (record { name = []; number = negsuc 0 } ∷ []) false [] }
    ∷ record { tags = u6 ∷ []; kind = an_object_identifier }
    ∷ record { tags = u16 ∷ []; kind = a_sequence true (a_component 0 mandatory ∷ a_component 2 (addition false None) ∷ []) }
    ∷ record { tags = c1 ∷ []; kind = a_boolean }  -- 8
    ∷ record { tags = u17 ∷ []; kind = a_set true (a_component 2 mandatory ∷ a_component 8 mandatory ∷ []) }  -- 9
    ∷ record { tags = u13 ∷ []; kind = a_relative_oid }  -- 10
    ∷ []

no_default : (d : AbstractValue) → addition false None ≡ default d → ⊥
no_default d e = subst IsAddition e tt
  where
    IsAddition : Presence → Type 0
    IsAddition mandatory = ⊥
    IsAddition optional = ⊥
    IsAddition (default d) = ⊥
    IsAddition (addition o g) = Unit {0}

false_0 : EncodesTo more Distinguished 0 (boolean false) 0 (1 ∷ 1 ∷ 0 ∷ [])
unfolding identifier shortest_header
false_0 = says (record { found = refl }) (leaf of_false) (innermost (shortest_is u1 false 1 (lit< tt)))

false_1 : EncodesTo more Distinguished 1 (boolean false) 0 (69 ∷ 1 ∷ 0 ∷ [])
unfolding identifier shortest_header
false_1 = says (record { found = refl }) (leaf of_false) (innermost (shortest_is a0 false 1 (lit< tt)))

false_2 : EncodesTo more Distinguished 2 (boolean false) 0 (128 ∷ 1 ∷ 0 ∷ [])
unfolding identifier shortest_header
false_2 = says (record { found = refl }) (leaf of_false) (innermost (shortest_is c0 false 1 (lit< tt)))

false_3 : EncodesTo more Distinguished 3 (boolean false) 0 (195 ∷ 1 ∷ 0 ∷ [])
unfolding identifier shortest_header
false_3 = says (record { found = refl }) (leaf of_false) (innermost (shortest_is p0 false 1 (lit< tt)))

order_1 : InTagOrder (1 ∷ 1 ∷ 0 ∷ []) (69 ∷ 1 ∷ 0 ∷ [])
unfolding identifier
order_1 = record {
  former = u1;
  latter = a0;
  begins_former = record { constructed = false; count = 1; header = 1 ∷ 1 ∷ []; rest = 0 ∷ []; is_header = short_header u1 false 1 (lit< tt); whole = refl };
  begins_latter = record { constructed = false; count = 1; header = 69 ∷ 1 ∷ []; rest = 0 ∷ []; is_header = short_header a0 false 1 (lit< tt); whole = refl };
  before = inl (lit< tt);
}

order_2 : InTagOrder (69 ∷ 1 ∷ 0 ∷ []) (128 ∷ 1 ∷ 0 ∷ [])
unfolding identifier
order_2 = record {
  former = a0;
  latter = c0;
  begins_former = record { constructed = false; count = 1; header = 69 ∷ 1 ∷ []; rest = 0 ∷ []; is_header = short_header a0 false 1 (lit< tt); whole = refl };
  begins_latter = record { constructed = false; count = 1; header = 128 ∷ 1 ∷ []; rest = 0 ∷ []; is_header = short_header c0 false 1 (lit< tt); whole = refl };
  before = inl (lit< tt);
}

order_3 : InTagOrder (128 ∷ 1 ∷ 0 ∷ []) (195 ∷ 1 ∷ 0 ∷ [])
unfolding identifier
order_3 = record {
  former = c0;
  latter = p0;
  begins_former = record { constructed = false; count = 1; header = 128 ∷ 1 ∷ []; rest = 0 ∷ []; is_header = short_header c0 false 1 (lit< tt); whole = refl };
  begins_latter = record { constructed = false; count = 1; header = 195 ∷ 1 ∷ []; rest = 0 ∷ []; is_header = short_header p0 false 1 (lit< tt); whole = refl };
  before = inl (lit< tt);
}

-- SET {a [PRIVATE 3], b [0], c [APPLICATION 5], d BOOLEAN}: 310C010100450100800100C30100
pub classes : EncodesTo more Distinguished 4 (fields (present (boolean false) (present (boolean false) (present (boolean false) (present (boolean false) end))))) 0 (49 ∷ 12 ∷ 1 ∷ 1 ∷ 0 ∷ 69 ∷ 1 ∷ 0 ∷ 128 ∷ 1 ∷ 0 ∷ 195 ∷ 1 ∷ 0 ∷ [])
unfolding identifier shortest_header
classes = says (record { found = refl })
    (set (member false_3 (λ z d. must_stand d.0 d.1) (member false_2 (λ z d. must_stand d.0 d.1) (member false_1 (λ z d. must_stand d.0 d.1) (member false_0 (λ z d. must_stand d.0 d.1) no_member))))
    (permutes_more (permutes_more (permutes_more (permutes_more permutes_none list_here) (list_there list_here)) (list_there (list_there list_here))) (list_there (list_there (list_there list_here))))
    (ascending_more order_1 (ascending_more order_2 (ascending_more order_3 ascending_one)))
    closed (merges_first (merges_first (merges_first (merges_first merges_none)))))
    (innermost (shortest_is u17 true 12 (lit< tt)))

-- ENUMERATED {a(-1)}: 0A01FF; {1 2}: 06012A
pub minus_item : EncodesTo more Distinguished 5 (enumerated (negsuc 0)) 0 (10 ∷ 1 ∷ 255 ∷ [])
unfolding identifier shortest_header
minus_item = says (record { found = refl }) (leaf (of_enumerated is_minus_1)) (innermost (shortest_is u10 false 1 (lit< tt)))

pub two_arcs : EncodesTo more Distinguished 6 (oid (1 ∷ 2 ∷ [])) 0 (6 ∷ 1 ∷ 42 ∷ [])
unfolding identifier shortest_header
two_arcs = says (record { found = refl }) (leaf (of_oid (arcs (lit< tt) (λ h. lit< tt) (lit< tt) tt (omega arith)))) (innermost (shortest_is u6 false 1 (lit< tt)))

-- SEQUENCE {a BOOLEAN, ..., b [0] BOOLEAN}, with the addition and without it
pub with_addition : EncodesTo more Distinguished 7 (fields (present (boolean false) (present (boolean false) end))) 0 (48 ∷ 6 ∷ 1 ∷ 1 ∷ 0 ∷ 128 ∷ 1 ∷ 0 ∷ [])
unfolding identifier shortest_header
with_addition = says (record { found = refl })
    (sequence (member false_0 (λ z d. must_stand d.0 d.1) (member false_2 (λ z d. no_default d.0 d.1) no_member)) (extensible no_unknown)) (innermost (shortest_is u16 true 6 (lit< tt)))

pub without_addition : EncodesTo more Distinguished 7 (fields (present (boolean false) (absent end))) 0 (48 ∷ 3 ∷ 1 ∷ 1 ∷ 0 ∷ [])
unfolding identifier shortest_header
without_addition = says (record { found = refl })
    (sequence (member false_0 (λ z d. must_stand d.0 d.1) (left_out refl no_member)) (extensible no_unknown)) (innermost (shortest_is u16 true 3 (lit< tt)))

-- SET {a [0] BOOLEAN, b [1] BOOLEAN, ...}: unknown additions before, between and after the known components
true_8 : EncodesTo more Distinguished 8 (boolean true) 0 (129 ∷ 1 ∷ 255 ∷ [])
unfolding identifier shortest_header
true_8 = says (record { found = refl }) (leaf (of_true (lit< tt) (lit< tt) refl)) (innermost (shortest_is c1 false 1 (lit< tt)))

not_0 : {g : Tag} → (g.number ≡ 0 → ⊥) → First more 2 g → ⊥
not_0 n f = n (ap (λ g. g.number) (first_only {t = 2} refl f))

not_1 : {g : Tag} → (g.number ≡ 1 → ⊥) → First more 8 g → ⊥
not_1 n f = n (ap (λ g. g.number) (first_only {t = 8} refl f))

known_order : InTagOrder (128 ∷ 1 ∷ 0 ∷ []) (129 ∷ 1 ∷ 255 ∷ [])
unfolding identifier
known_order = record {
  former = c0;
  latter = c1;
  begins_former = record { constructed = false; count = 1; header = 128 ∷ 1 ∷ []; rest = 0 ∷ []; is_header = short_header c0 false 1 (lit< tt); whole = refl };
  begins_latter = record { constructed = false; count = 1; header = 129 ∷ 1 ∷ []; rest = 255 ∷ []; is_header = short_header c1 false 1 (lit< tt); whole = refl };
  before = inr (refl, lit< tt);
}

pub mixed_set : EncodesTo more Distinguished 9 (fields (present (boolean false) (present (boolean true) end))) 3 (49 ∷ 13 ∷ 130 ∷ 1 ∷ 7 ∷ 128 ∷ 1 ∷ 0 ∷ 131 ∷ 0 ∷ 129 ∷ 1 ∷ 255 ∷ 132 ∷ 0 ∷ [])
unfolding identifier shortest_header
mixed_set = says (record { found = refl })
    (set (member false_2 (λ z d. must_stand d.0 d.1) (member true_8 (λ z d. must_stand d.0 d.1) no_member))
    (permutes_more (permutes_more permutes_none list_here) list_here)
    (ascending_more known_order ascending_one)
    (extensible (unknown {g = c2} {c = false} {h = 130 ∷ 1 ∷ []} (7 ∷ []) (short_header c2 false 1 (lit< tt)) (lit< tt, tt) ((λ f. not_0 {g = c2} (λ e. omega arith) f), ((λ f. not_1 {g = c2} (λ e. omega arith) f), tt))
    (unknown {g = c3} {c = false} {h = 131 ∷ 0 ∷ []} [] (short_header c3 false 0 (lit< tt)) tt ((λ f. not_0 {g = c3} (λ e. omega arith) f), ((λ f. not_1 {g = c3} (λ e. omega arith) f), tt))
    (unknown {g = c4} {c = false} {h = 132 ∷ 0 ∷ []} [] (short_header c4 false 0 (lit< tt)) tt ((λ f. not_0 {g = c4} (λ e. omega arith) f), ((λ f. not_1 {g = c4} (λ e. omega arith) f), tt)) no_unknown))))
    (merges_second (merges_first (merges_second (merges_first (merges_second merges_none))))))
    (innermost (shortest_is u17 true 13 (lit< tt)))

-- the same without unknown additions
pub extensible_set : EncodesTo more Distinguished 9 (fields (present (boolean false) (present (boolean true) end))) 0 (49 ∷ 6 ∷ 128 ∷ 1 ∷ 0 ∷ 129 ∷ 1 ∷ 255 ∷ [])
unfolding identifier shortest_header
extensible_set = says (record { found = refl })
    (set (member false_2 (λ z d. must_stand d.0 d.1) (member true_8 (λ z d. must_stand d.0 d.1) no_member))
    (permutes_more (permutes_more permutes_none list_here) list_here)
    (ascending_more known_order ascending_one) (extensible no_unknown) (merges_first (merges_first merges_none)))
    (innermost (shortest_is u17 true 6 (lit< tt)))

-- RELATIVE-OID {8571 3 2} is 0D04C27B0302
pub relative_is : EncodesTo more Distinguished 10 (relative_oid (8571 ∷ 3 ∷ 2 ∷ [])) 0 (13 ∷ 4 ∷ 194 ∷ 123 ∷ 3 ∷ 2 ∷ [])
unfolding identifier shortest_header
relative_is = says (record { found = refl }) (leaf (of_relative_oid (record { some = lit< tt; at_most = lit< tt; small = (lit< tt, (lit< tt, (lit< tt, tt))) }))) (innermost (shortest_is u13 false 4 (lit< tt)))
