-- Each value of a type of a schema has an encoding by the distinguished rules, or none at all because no lengths are
-- long enough for it.
use Rattle.std.proofs.Common.{arith, ◌≡◌, ℕ, suc, ◌+◌, ◌<◌, ◌≤◌, ◌^◌, ◌⊎◌, inl, inr, ⊎_elim, Bool, true, false, List, [], ◌∷◌, ◌++◌, length, map, refl, sym, ap, subst, ◌∙◌, length-append}
use Rattle.std.proofs.lemmas.List.{append-nil}
use Rattle.std.proofs.lemmas.Int.Digits.{length-digits_of-le}
use Rattle.std.specs.List.{concat, AllByRecursion}
use Rattle.std.specs.Int.Digits.{digits_of}
use Rattle.asn_base.specs.declared.tag.Class.{Class}
use Rattle.asn_base.specs.declared.tag.Class.TheVariants.{Universal, Application, Context, Private}
use Rattle.asn_base.specs.declared.tag.Tag.{Tag}
use Rattle.asn_base.specs.Abstract.{AbstractValue, null, fields, list, alternative, Row, end, absent, present}
use Rattle.asn_base.specs.Types.{Constraint, Alternative, Kind, a_sequence, a_set, a_sequence_of, a_set_of, a_choice, Presence, mandatory, optional, default, addition, Component, Resolved, Is}
use Rattle.asn_base.specs.Tags.{First, AreApart, AllApart, class_rank, TagBefore, HasDistinctTags, AllTagged, is_mandatory}
use Rattle.asn_base.specs.Typed.{IsAllowedSize, GroupsAreWhole, members, ValueIn, value_in, ValueOf, of_leaf, of_sequence, of_set, of_sequence_of, of_set_of, of_choice, MayBeAbsent, where_optional, where_default, where_addition, AreComponents, no_component, component_absent, component_present, AreElements, no_element as no_value, one_element}
use Rattle.asn_base.specs.Same.{Alike, alike, AlikeBy, equal, alike_sequence, alike_set, alike_sequence_of, alike_set_of, alike_choice, AlikeComponents, no_components, both_absent, both_present, first_default, second_default, AlikeElements, no_elements, alike_element, AlikeInAnyOrder, none_left, pair, Inserted, here, there}
use Rattle.asn_base.specs.Schemas.{HasValue, IsSound, IsSchema}
use Rattle.std.specs.Prelude.{Some, slice_get}
use Rattle.encodings.specs.Rules.{Basic, Distinguished}
use Rattle.encodings.specs.Orders.{AtMost, InTagOrder, Ascending, ascending_none, ascending_one, ascending_more, Merges, merges_none, merges_first}
use Rattle.encodings.specs.Encoding.{UnknownIf, closed, extensible, no_unknown, IsDefault, EncodesTo, says, ContentsEncode, leaf, sequence, set, sequence_of, set_of, choice, Members, no_member, left_out, member, Elements, no_element, element, Ber, Der}
use Rattle.encodings.specs.Weight.{weight, row_weight}
use Rattle.asn_base.specs.proving.OneTag.{tag_same}
use Rattle.encodings.proofs.Least.{concat_permutes, alike_by_at, holds_at, framed_at, alternative_type, alike_at, says_at, take_out, holds_least}
use Rattle.asn_base.specs.proving.OneKind.{same_tags, same_kind}
use Rattle.encodings.specs.proving.Weaker.{unsorted_holds}
use Rattle.encodings.proofs.Firsts.{FirstOf, says_first}
use Rattle.encodings.proofs.Sorts.{Either, AllEither, sorted, at_most_either}
use Rattle.encodings.proofs.Shortests.{lt_or_ge}
use Rattle.encodings.proofs.Utf8.{utf8_octets}
use Rattle.encodings.proofs.Leaves.{NoFrame, frame, leaf_in}

-- ---- tags in order

rank_back : (b c : Class) → class_rank b ≡ class_rank c → b ≡ c
rank_back Universal Universal e = refl
rank_back Universal Application e = absurd (omega arith)
rank_back Universal Context e = absurd (omega arith)
rank_back Universal Private e = absurd (omega arith)
rank_back Application Universal e = absurd (omega arith)
rank_back Application Application e = refl
rank_back Application Context e = absurd (omega arith)
rank_back Application Private e = absurd (omega arith)
rank_back Context Universal e = absurd (omega arith)
rank_back Context Application e = absurd (omega arith)
rank_back Context Context e = refl
rank_back Context Private e = absurd (omega arith)
rank_back Private Universal e = absurd (omega arith)
rank_back Private Application e = absurd (omega arith)
rank_back Private Context e = absurd (omega arith)
rank_back Private Private e = refl

tag_order : (g f : Tag) → TagBefore g f ⊎ (TagBefore f g ⊎ (g ≡ f))
tag_order g f = ⊎_elim (λ l. inl (inl l)) (λ ge. ⊎_elim (λ l. inr (inl (inl l))) (λ ge'. by (let e : class_rank g.class ≡ class_rank f.class = omega arith in e)) (lt_or_ge (class_rank f.class) (class_rank g.class))) (lt_or_ge (class_rank g.class) (class_rank f.class))
  where
    by : class_rank g.class ≡ class_rank f.class → TagBefore g f ⊎ (TagBefore f g ⊎ (g ≡ f))
    by e = ⊎_elim (λ l. inl (inr (e, l))) (λ ge. ⊎_elim (λ l. inr (inl (inr (sym e, l)))) (λ ge'. inr (inr (tag_same g f (rank_back g.class f.class e) (omega arith)))) (lt_or_ge f.number g.number)) (lt_or_ge g.number f.number)

in_order : (s : List Resolved) (t u : ℕ) (x y : List ℕ) → AreApart s t u → FirstOf s t x → FirstOf s u y → Either InTagOrder x y
in_order s t u x y apart a b = ⊎_elim
    (λ l. inl (record { former = a.tag; latter = b.tag; begins_former = a.begins; begins_latter = b.begins; before = l }))
    (λ r. ⊎_elim (λ l. inr (record { former = b.tag; latter = a.tag; begins_former = b.begins; begins_latter = a.begins; before = l })) (λ e. absurd (apart b.tag (subst (First s t) e a.is_first) b.is_first)) r)
    (tag_order a.tag b.tag)

abbrev types : List Component → List ℕ
types cs = map (λ c. c.type) cs

one_ordered : {s : List Resolved} {cs : List Component} {ws : Row} {n : ℕ} {xs : List (List ℕ)} → AllTagged s → (t : ℕ) (x : List ℕ) → FirstOf s t x → AllByRecursion (AreApart s t) (types cs) → Members s Distinguished cs ws n xs → AllByRecursion (Either InTagOrder x) xs
one_ordered all t x f a no_member = tt
one_ordered all t x f a (left_out m ms) = one_ordered all t x f a.1 ms
one_ordered {s} {cs = c ∷ cs} all t x f a (member {x = y} m nd ms) = (in_order s t c.type x y a.0 f (says_first all m), one_ordered all t x f a.1 ms)

all_ordered : {s : List Resolved} {cs : List Component} {ws : Row} {n : ℕ} {xs : List (List ℕ)} → AllTagged s → AllApart s (types cs) → Members s Distinguished cs ws n xs → AllEither InTagOrder xs
all_ordered all a no_member = tt
all_ordered all a (left_out m ms) = all_ordered all a.1 ms
all_ordered {cs = c ∷ cs} all a (member {x = x} m nd ms) = (one_ordered all c.type x (says_first all m) a.0 ms, all_ordered all a.1 ms)

pub none_lacking : {s : List Resolved} {cs : List Component} (e : Bool) → UnknownIf s cs e 0 []
none_lacking false = closed
none_lacking true = extensible no_unknown

pub merged_alone : (zs : List (List ℕ)) → Merges zs [] zs
merged_alone [] = merges_none
merged_alone (z ∷ zs) = merges_first (merged_alone zs)

-- ---- absent components

abbrev pub mandatory_is : Presence → Bool
mandatory_is mandatory = true
mandatory_is optional = false
mandatory_is (default d) = false
mandatory_is (addition o g) = false

pub not_mandatory : {s : List Resolved} {n t : ℕ} {p : Presence} → MayBeAbsent s n t p → (c : Component) → c.presence ≡ p → is_mandatory c ≡ false
not_mandatory where_optional c e = ap mandatory_is e
not_mandatory (where_default v) c e = ap mandatory_is e
not_mandatory where_addition c e = ap mandatory_is e

pub default_or_not : (p : Presence) → ((d : AbstractValue) × (p ≡ default d)) ⊎ ((d : AbstractValue) → p ≡ default d → ⊥)
default_or_not mandatory = inr (λ d e. cc)
default_or_not optional = inr (λ d e. cc)
default_or_not (default d) = inl (d, refl)
default_or_not (addition o g) = inr (λ d e. cc)

abbrev pub default_in : Presence → AbstractValue
default_in mandatory = null
default_in optional = null
default_in (default d) = d
default_in (addition o g) = null

-- ---- values in the order of their encodings

data Rows (s : List Resolved) (n u : ℕ) : Row → List (List ℕ) → Type 0 where
  rows_none : Rows s n u end []
  rows_more : {w : AbstractValue} {ws : Row} {x : List ℕ} {xs : List (List ℕ)} → ValueIn s n u w → EncodesTo s Distinguished u w 0 x → Rows s n u ws xs → Rows s n u (present w ws) (x ∷ xs)

rows_values : {s : List Resolved} {n u : ℕ} {ws : Row} {xs : List (List ℕ)} → Rows s n u ws xs → AreElements s n u ws
rows_values rows_none = no_value
rows_values (rows_more v a r) = one_element v (rows_values r)

rows_elements : {s : List Resolved} {n u : ℕ} {ws : Row} {xs : List (List ℕ)} → Rows s n u ws xs → Elements s Distinguished u ws 0 xs
rows_elements rows_none = no_element
rows_elements (rows_more v a r) = element a (rows_elements r)

record PutRow (s : List Resolved) (n u : ℕ) (w : AbstractValue) (x : List ℕ) (ws : Row) (xs : List (List ℕ)) : Type 0 where
  row : Row
  list : List (List ℕ)
  at : Inserted w ws row
  are : Rows s n u row list
  long : length (concat list) ≡ length x + length (concat xs)
  count : members row ≡ suc (members ws)

-- the element is put after p, or before all others
record PutAfter (s : List Resolved) (n u : ℕ) (w : AbstractValue) (p x : List ℕ) (ws : Row) (xs : List (List ℕ)) : Type 0 where
  put : PutRow s n u w x ws xs
  ascends : Ascending AtMost (p ∷ put.list)

record PutFirst (s : List Resolved) (n u : ℕ) (w : AbstractValue) (x : List ℕ) (ws : Row) (xs : List (List ℕ)) : Type 0 where
  put : PutRow s n u w x ws xs
  ascends : Ascending AtMost put.list

put_front : {s : List Resolved} {n u : ℕ} {w : AbstractValue} {x : List ℕ} {ws : Row} {xs : List (List ℕ)} → ValueIn s n u w → EncodesTo s Distinguished u w 0 x → Rows s n u ws xs → PutRow s n u w x ws xs
put_front {w = w} {x = x} {ws = ws} {xs = xs} v a r = record { row = present w ws; list = x ∷ xs; at = here; are = rows_more v a r; long = length-append x (concat xs); count = refl }

put_later : {s : List Resolved} {n u : ℕ} {w y : AbstractValue} {x z : List ℕ} {ws : Row} {xs : List (List ℕ)} → ValueIn s n u y → EncodesTo s Distinguished u y 0 z → PutRow s n u w x ws xs → PutRow s n u w x (present y ws) (z ∷ xs)
put_later {y = y} {z = z} {xs = xs} v a p = record {
  row = present y p.row;
  list = z ∷ p.list;
  at = there p.at;
  are = rows_more v a p.are;
  long = omega (arith, p.long, length-append z (concat p.list), length-append z (concat xs));
  count = ap suc p.count;
}

put_after : {s : List Resolved} {n u : ℕ} {w : AbstractValue} {p x : List ℕ} {ws : Row} {xs : List (List ℕ)} → ValueIn s n u w → EncodesTo s Distinguished u w 0 x → AtMost p x → Rows s n u ws xs → Ascending AtMost (p ∷ xs) → PutAfter s n u w p x ws xs
unfolding put_front put_later
put_after v a h rows_none asc = record { put = put_front v a rows_none; ascends = ascending_more h ascending_one }
put_after {x = x} v a h (rows_more {x = z} v' a' r) (ascending_more k asc) = ⊎_elim
    (λ l. record { put = put_front v a (rows_more v' a' r); ascends = ascending_more h (ascending_more l asc) })
    (λ g. (let q = put_after v a g r asc in record { put = put_later v' a' q.put; ascends = ascending_more k q.ascends }))
    (at_most_either x z)

put_first : {s : List Resolved} {n u : ℕ} {w : AbstractValue} {x : List ℕ} {ws : Row} {xs : List (List ℕ)} → ValueIn s n u w → EncodesTo s Distinguished u w 0 x → Rows s n u ws xs → Ascending AtMost xs → PutFirst s n u w x ws xs
unfolding put_front put_later
put_first v a rows_none asc = record { put = put_front v a rows_none; ascends = ascending_one }
put_first {x = x} v a (rows_more {x = z} v' a' r) asc = ⊎_elim
    (λ l. record { put = put_front v a (rows_more v' a' r); ascends = ascending_more l asc })
    (λ g. (let q = put_after v a g r asc in record { put = put_later v' a' q.put; ascends = q.ascends }))
    (at_most_either x z)

alike_count : {s : List Resolved} {u : ℕ} {vs ws : Row} → AlikeElements s u vs ws → members vs ≡ members ws
alike_count no_elements = refl
alike_count (alike_element e a) = ap suc (alike_count a)

-- ---- encodings

record Encoded (s : List Resolved) (n t : ℕ) (v : AbstractValue) : Type 0 where
  w : AbstractValue
  value : ValueIn s n t w
  same : Alike s t v w
  octets : List ℕ
  is : EncodesTo s Distinguished t w 0 octets
  few : length octets ≤ weight v

record Held (s : List Resolved) (n : ℕ) (k : Kind) (v : AbstractValue) : Type 0 where
  w : AbstractValue
  value : ValueOf s n k w
  same : AlikeBy s k v w
  form : Bool
  octets : List ℕ
  is : ContentsEncode s Distinguished k w 0 form octets
  few : length octets + 800 ≤ weight v

record MembersIn (s : List Resolved) (n : ℕ) (cs : List Component) (vs : Row) : Type 0 where
  ws : Row
  values : AreComponents s n cs ws
  same : AlikeComponents s cs vs ws
  xs : List (List ℕ)
  are : Members s Distinguished cs ws 0 xs
  few : length (concat xs) ≤ row_weight vs

record ElementsIn (s : List Resolved) (n u : ℕ) (vs : Row) : Type 0 where
  ws : Row
  values : AreElements s n u ws
  same : AlikeElements s u vs ws
  xs : List (List ℕ)
  are : Elements s Distinguished u ws 0 xs
  few : length (concat xs) ≤ row_weight vs

record SetIn (s : List Resolved) (n u : ℕ) (vs : Row) : Type 0 where
  ws : Row
  same : AlikeInAnyOrder s u vs ws
  xs : List (List ℕ)
  are : Rows s n u ws xs
  ascends : Ascending AtMost xs
  few : length (concat xs) ≤ row_weight vs
  count : members ws ≡ members vs

-- what has no encoding at all, whatever is alike: it is too long
record NotEncoded (most : ℕ) (s : List Resolved) (t : ℕ) (v : AbstractValue) : Type 0 where
  heavy : most ≤ weight v
  none : {w : AbstractValue} {n : ℕ} {p : List ℕ} → Alike s t v w → EncodesTo s Basic t w n p → n ≡ 0 → ⊥

record NotHeld (most : ℕ) (s : List Resolved) (k : Kind) (v : AbstractValue) : Type 0 where
  heavy : most ≤ weight v
  none : {w : AbstractValue} {n : ℕ} {c : Bool} {y : List ℕ} → AlikeBy s k v w → ContentsEncode s Basic k w n c y → n ≡ 0 → ⊥

record NoMembers (most : ℕ) (s : List Resolved) (cs : List Component) (vs : Row) : Type 0 where
  heavy : most ≤ row_weight vs
  none : {ws : Row} {n : ℕ} {xs : List (List ℕ)} → AlikeComponents s cs vs ws → Members s Basic cs ws n xs → n ≡ 0 → ⊥

record NoElements (most : ℕ) (s : List Resolved) (u : ℕ) (vs : Row) : Type 0 where
  heavy : most ≤ row_weight vs
  none : {ws : Row} {n : ℕ} {xs : List (List ℕ)} → AlikeElements s u vs ws → Elements s Basic u ws n xs → n ≡ 0 → ⊥

record NoSet (most : ℕ) (s : List Resolved) (u : ℕ) (vs : Row) : Type 0 where
  heavy : most ≤ row_weight vs
  none : {ws : Row} {n : ℕ} {xs : List (List ℕ)} → AlikeInAnyOrder s u vs ws → Elements s Basic u ws n xs → n ≡ 0 → ⊥

no_sequence : {most : ℕ} {s : List Resolved} {e : Bool} {cs : List Component} {vs : Row} → NoMembers most s cs vs → {w : AbstractValue} {n : ℕ} {c : Bool} {y : List ℕ} → AlikeBy s (a_sequence e cs) (fields vs) w → ContentsEncode s Basic (a_sequence e cs) w n c y → n ≡ 0 → ⊥
no_sequence q (equal l) h z = l
no_sequence q (alike_sequence a) (leaf con) z = elim con [ ]
no_sequence q (alike_sequence a) (sequence ms u) z = q.none a ms (omega arith)

no_set : {most : ℕ} {s : List Resolved} {e : Bool} {cs : List Component} {vs : Row} → NoMembers most s cs vs → {w : AbstractValue} {n : ℕ} {c : Bool} {y : List ℕ} → AlikeBy s (a_set e cs) (fields vs) w → ContentsEncode s Basic (a_set e cs) w n c y → n ≡ 0 → ⊥
no_set q (equal l) h z = l
no_set q (alike_set a) (leaf con) z = elim con [ ]
no_set q (alike_set a) (set ms p st u m) z = q.none a ms (omega arith)

no_sequence_of : {most : ℕ} {s : List Resolved} {k : Constraint} {u : ℕ} {vs : Row} → NoElements most s u vs → {w : AbstractValue} {n : ℕ} {c : Bool} {y : List ℕ} → AlikeBy s (a_sequence_of k u) (list vs) w → ContentsEncode s Basic (a_sequence_of k u) w n c y → n ≡ 0 → ⊥
no_sequence_of q (equal l) h z = l
no_sequence_of q (alike_sequence_of a) (leaf con) z = elim con [ ]
no_sequence_of q (alike_sequence_of a) (sequence_of es) z = q.none a es z

no_set_of : {most : ℕ} {s : List Resolved} {k : Constraint} {u : ℕ} {vs : Row} → NoSet most s u vs → {w : AbstractValue} {n : ℕ} {c : Bool} {y : List ℕ} → AlikeBy s (a_set_of k u) (list vs) w → ContentsEncode s Basic (a_set_of k u) w n c y → n ≡ 0 → ⊥
no_set_of q (equal l) h z = l
no_set_of q (alike_set_of a) (leaf con) z = elim con [ ]
no_set_of q (alike_set_of a) (set_of es st) z = q.none a es z

no_choice : {most : ℕ} {s : List Resolved} {i : ℕ} {e : Bool} {root more : List Alternative} {a : Alternative} {v : AbstractValue} → slice_get (root ++ more) i ≡ Some a → NotEncoded most s a.type v → {w : AbstractValue} {n : ℕ} {c : Bool} {y : List ℕ} → AlikeBy s (a_choice root e more) (alternative i v) w → ContentsEncode s Basic (a_choice root e more) w n c y → n ≡ 0 → ⊥
no_choice g q (equal l) h z = l
no_choice g q (alike_choice f a) (leaf con) z = elim con [ ]
no_choice g q (alike_choice f a) (choice h b) z = q.none (alike_at (alternative_type g f) a) (says_at (alternative_type g h) b) z

-- members of which one has no encoding, or others have none
none_absent : {most : ℕ} {s : List Resolved} {c : Component} {cs : List Component} {vs : Row} → NoMembers most s cs vs → {ws : Row} {n : ℕ} {xs : List (List ℕ)} → AlikeComponents s (c ∷ cs) (absent vs) ws → Members s Basic (c ∷ cs) ws n xs → n ≡ 0 → ⊥
none_absent q (both_absent a) (left_out m ms) z = q.none a ms z
none_absent q (first_default e sm a) (member b d ms) z = q.none a ms (omega arith)

none_present : {most : ℕ} {s : List Resolved} {c : Component} {cs : List Component} {v : AbstractValue} {vs : Row} → NoMembers most s cs vs → {ws : Row} {n : ℕ} {xs : List (List ℕ)} → AlikeComponents s (c ∷ cs) (present v vs) ws → Members s Basic (c ∷ cs) ws n xs → n ≡ 0 → ⊥
none_present q (both_present sm a) (member b d ms) z = q.none a ms (omega arith)
none_present q (second_default e sm a) (left_out m ms) z = q.none a ms z

none_member : {most : ℕ} {s : List Resolved} {c : Component} {cs : List Component} {v : AbstractValue} {vs : Row} → NotEncoded most s c.type v → (IsDefault s c v → ⊥) → {ws : Row} {n : ℕ} {xs : List (List ℕ)} → AlikeComponents s (c ∷ cs) (present v vs) ws → Members s Basic (c ∷ cs) ws n xs → n ≡ 0 → ⊥
none_member q nd (both_present sm a) (member b d ms) z = q.none sm b (omega arith)
none_member q nd (second_default {d = d} e sm a) (left_out m ms) z = nd (d, e, sm)

none_element : {most : ℕ} {s : List Resolved} {u : ℕ} {v : AbstractValue} {vs : Row} → NotEncoded most s u v → {ws : Row} {n : ℕ} {xs : List (List ℕ)} → AlikeElements s u (present v vs) ws → Elements s Basic u ws n xs → n ≡ 0 → ⊥
none_element q (alike_element sm a) (element b es) z = q.none sm b (omega arith)

none_elements : {most : ℕ} {s : List Resolved} {u : ℕ} {v : AbstractValue} {vs : Row} → NoElements most s u vs → {ws : Row} {n : ℕ} {xs : List (List ℕ)} → AlikeElements s u (present v vs) ws → Elements s Basic u ws n xs → n ≡ 0 → ⊥
none_elements q (alike_element sm a) (element b es) z = q.none a es (omega arith)

none_of_set : {most : ℕ} {s : List Resolved} {u : ℕ} {v : AbstractValue} {vs : Row} → NotEncoded most s u v → {ws : Row} {n : ℕ} {xs : List (List ℕ)} → AlikeInAnyOrder s u (present v vs) ws → Elements s Basic u ws n xs → n ≡ 0 → ⊥
none_of_set q (pair sm a at) es z = let o = take_out at es in let k = o.sum in q.none sm o.it (omega arith)

none_in_set : {most : ℕ} {s : List Resolved} {u : ℕ} {v : AbstractValue} {vs : Row} → NoSet most s u vs → {ws : Row} {n : ℕ} {xs : List (List ℕ)} → AlikeInAnyOrder s u (present v vs) ws → Elements s Basic u ws n xs → n ≡ 0 → ⊥
none_in_set q (pair sm a at) es z = let o = take_out at es in let k = o.sum in q.none a o.rest (omega arith)

-- one or the other, turned into one or the other
either : {A B C D : Type 0} → (A → C) → (B → D) → A ⊎ B → C ⊎ D
either f g (inl a) = inl (f a)
either f g (inr b) = inr (g b)

module _ (s : List Resolved) (schema : IsSchema s)
    (turn : (t : ℕ) (v w : AbstractValue) → Alike s t v w → Alike s t w v)
    (follow : (t : ℕ) (v w x : AbstractValue) → Alike s t v w → Alike s t w x → Alike s t v x)
    (groups : (cs : List Component) (vs ws : Row) → AlikeComponents s cs vs ws → GroupsAreWhole cs vs → GroupsAreWhole cs ws)
    (levels : (m n t : ℕ) (v w : AbstractValue) → Alike s t v w → ValueIn s n t v → ValueIn s m t w → ValueIn s n t w)
    (decide : (m n t : ℕ) (v w : AbstractValue) → ValueIn s n t v → ValueIn s m t w → Alike s t v w ⊎ (Alike s t v w → ⊥))
    (most : ℕ) (digits : (n : ℕ) → n < most → length (digits_of 256 n) ≤ 126) where
  -- a component that is the same as its DEFAULT is left out
  without_it : {n : ℕ} {c : Component} {cs : List Component} {v d : AbstractValue} {vs : Row} → c.presence ≡ default d → ValueIn s n c.type v → ValueIn s 64 c.type d → Alike s c.type v d → MembersIn s n cs vs → MembersIn s n (c ∷ cs) (present v vs)
  without_it {n} {c} {v = v} {d = d} {vs = vs} q a x e m = record {
    ws = absent m.ws;
    values = component_absent (subst (MayBeAbsent s n c.type) (sym q) (where_default (levels 64 n c.type v d e a x))) m.values;
    same = second_default q e m.same;
    xs = m.xs;
    are = left_out (ap mandatory_is q) m.are;
    few = omega (arith, m.few);
  }

  with_it : {n : ℕ} {c : Component} {cs : List Component} {v : AbstractValue} {vs : Row} → (IsDefault s c v → ⊥) → MembersIn s n cs vs → Encoded s n c.type v → MembersIn s n (c ∷ cs) (present v vs)
  with_it {c = c} {v = v} {vs = vs} nd m r = record {
    ws = present r.w m.ws;
    values = component_present r.value m.values;
    same = both_present r.same m.same;
    xs = r.octets ∷ m.xs;
    are = member r.is (λ z i. nd (i.0, i.1, follow c.type v r.w i.0 r.same i.2)) m.are;
    few = omega (arith, r.few, m.few, length-append r.octets (concat m.xs));
  }

  -- a component is the same as its DEFAULT or not
  is_default : {n : ℕ} (c : Component) (v : AbstractValue) → HasValue s c → ValueIn s n c.type v → IsDefault s c v ⊎ (IsDefault s c v → ⊥)
  is_default {n} c v h a = ⊎_elim
      (λ p. either (λ e. (p.0, p.1, e)) (λ no i. no (subst (Alike s c.type v) (ap default_in (sym i.1 ∙ p.1)) i.2)) (decide 64 n c.type v p.0 a (h p.0 p.1).shaped))
      (λ none. inr (λ i. none i.0 i.1))
      (default_or_not c.presence)

  joined : {n : ℕ} {c : Component} {cs : List Component} {v : AbstractValue} {vs : Row} → HasValue s c → ValueIn s n c.type v → MembersIn s n cs vs → IsDefault s c v ⊎ (IsDefault s c v → ⊥) → Encoded s n c.type v ⊎ NotEncoded most s c.type v → MembersIn s n (c ∷ cs) (present v vs) ⊎ NoMembers most s (c ∷ cs) (present v vs)
  joined h a m (inl i) r = inl (without_it i.1 a (h i.0 i.1).shaped i.2 m)
  joined h a m (inr nd) (inl r) = inl (with_it nd m r)
  joined h a m (inr nd) (inr q) = inr (record { heavy = (let k = q.heavy in omega arith); none = none_member q nd })

  -- contents that are alike aren't shorter
  no_shorter : {t n : ℕ} {tags : List Tag} {k : Kind} {v w x : AbstractValue} {b c : Bool} {o y : List ℕ} → Is s t tags k → Alike s t v w → Alike s t v x → ContentsEncode s Distinguished k w 0 b o → ContentsEncode s Basic k x n c y → n ≡ 0 → length o ≤ length y
  no_shorter {t} {k = k} {v = v} {w = w} {x = x} {o = o} {y = y} i e f h g z = by (follow t w v x (turn t v w e) f)
    where
      by : Alike s t w x → length o ≤ length y
      by (alike j a) = holds_least s turn (unsorted_holds h) refl (alike_by_at (same_kind i j) a) g z

  no_frame : {t n : ℕ} {tags : List Tag} {k : Kind} {v w x : AbstractValue} {b : Bool} {o p : List ℕ} → Is s t tags k → AlikeBy s k v w → ContentsEncode s Distinguished k w 0 b o → NoFrame most tags o → Alike s t v x → EncodesTo s Basic t x n p → n ≡ 0 → ⊥
  no_frame i e h q f (says j g fr) z = q.none (no_shorter i (alike i e) f h (holds_at (same_kind i j) g) z) (framed_at (same_tags i j) fr)

  not_held : {t n : ℕ} {tags : List Tag} {k : Kind} {v x : AbstractValue} {p : List ℕ} → Is s t tags k → NotHeld most s k v → Alike s t v x → EncodesTo s Basic t x n p → n ≡ 0 → ⊥
  not_held i q (alike j a) (says k g fr) z = q.none (alike_by_at (same_kind i j) a) (holds_at (same_kind i k) g) z

  framed_in : {n t : ℕ} {tags : List Tag} {k : Kind} {v : AbstractValue} → Is s t tags k → Held s n k v ⊎ NotHeld most s k v → Encoded s (suc n) t v ⊎ NotEncoded most s t v
  framed_in i (inr q) = inr (record { heavy = q.heavy; none = not_held i q })
  framed_in {tags = tags} i (inl r) = either
      (λ f. (let l = schema.few_tags _ _ _ i in let k = r.few in let g = f.few in
      record { w = r.w; value = value_in i r.value; same = alike i r.same; octets = f.octets; is = says i r.is f.framed; few = omega arith }))
      (λ q. (let l = schema.few_tags _ _ _ i in let k = r.few in let g = q.heavy in
      record { heavy = omega arith; none = no_frame i r.same r.is q }))
      (frame most digits tags r.form r.octets)

  one_more : {n u : ℕ} {v : AbstractValue} {vs : Row} → Encoded s n u v ⊎ NotEncoded most s u v → ElementsIn s n u vs ⊎ NoElements most s u vs → ElementsIn s n u (present v vs) ⊎ NoElements most s u (present v vs)
  one_more (inr q) m = inr (record { heavy = (let k = q.heavy in omega arith); none = none_element q })
  one_more (inl r) (inr q) = inr (record { heavy = (let k = q.heavy in omega arith); none = none_elements q })
  one_more (inl r) (inl m) = inl (record { ws = present r.w m.ws; values = one_element r.value m.values; same = alike_element r.same m.same; xs = r.octets ∷ m.xs; are = element r.is m.are; few = omega (arith, r.few, m.few, length-append r.octets (concat m.xs)) })

  one_put : {n u : ℕ} {v : AbstractValue} {vs : Row} → Encoded s n u v ⊎ NotEncoded most s u v → SetIn s n u vs ⊎ NoSet most s u vs → SetIn s n u (present v vs) ⊎ NoSet most s u (present v vs)
  one_put (inr q) m = inr (record { heavy = (let k = q.heavy in omega arith); none = none_of_set q })
  one_put (inl r) (inr q) = inr (record { heavy = (let k = q.heavy in omega arith); none = none_in_set q })
  one_put (inl r) (inl m) =
      let p = put_first r.value r.is m.are m.ascends in
      inl (record { ws = p.put.row; same = pair r.same m.same p.put.at; xs = p.put.list; are = p.put.are; ascends = p.ascends; few = omega (arith, r.few, m.few, p.put.long); count = p.put.count ∙ ap suc m.count })

  mutual
    encoded : {n t : ℕ} {v : AbstractValue} → ValueIn s n t v → Encoded s n t v ⊎ NotEncoded most s t v
    encoded (value_in i a) = framed_in i (held (schema.sound _ _ _ i) (schema.distinct_tags _ _ _ i) a)

    held : {n : ℕ} {k : Kind} {v : AbstractValue} → IsSound s k → HasDistinctTags s k → ValueOf s n k v → Held s n k v ⊎ NotHeld most s k v
    held sound tell (of_leaf f) = let l = leaf_in s utf8_octets sound f in inl (record { w = l.w; value = of_leaf l.fits; same = l.same; form = false; octets = l.octets; is = leaf l.contents; few = l.few })
    held sound tell (of_sequence {e = e} {cs = cs} {vs = vs} a g) = either
        (λ m. (let k = m.few in
        let l = ap (λ q. length (concat q)) (append-nil m.xs) in
        record { w = fields m.ws; value = of_sequence m.values (groups cs vs m.ws m.same g); same = alike_sequence m.same; form = true; octets = concat (m.xs ++ []); is = sequence m.are (none_lacking e); few = omega arith }))
        (λ q. record { heavy = (let k = q.heavy in omega arith); none = no_sequence q })
        (members_in sound.defaults a)
    held sound tell (of_set {e = e} {cs = cs} {vs = vs} a g) = either
        (λ m. (let k = m.few in
        let z = sorted InTagOrder m.xs (all_ordered schema.tagged tell m.are) in
        record { w = fields m.ws; value = of_set m.values (groups cs vs m.ws m.same g); same = alike_set m.same; form = true; octets = concat z.list; is = set m.are z.permutes z.ascends (none_lacking e) (merged_alone z.list); few = omega (arith, k, concat_permutes z.permutes) }))
        (λ q. record { heavy = (let k = q.heavy in omega arith); none = no_set q })
        (members_in sound.0.defaults a)
    held sound tell (of_sequence_of {c = c} a z) = either
        (λ m. (let k = m.few in
        record { w = list m.ws; value = of_sequence_of m.values (subst (IsAllowedSize c) (alike_count m.same) z); same = alike_sequence_of m.same; form = true; octets = concat m.xs; is = sequence_of m.are; few = omega arith }))
        (λ q. record { heavy = (let k = q.heavy in omega arith); none = no_sequence_of q })
        (elements_in a)
    held sound tell (of_set_of {c = c} a z) = either
        (λ m. (let k = m.few in
        record { w = list m.ws; value = of_set_of (rows_values m.are) (subst (IsAllowedSize c) (sym m.count) z); same = alike_set_of m.same; form = true; octets = concat m.xs; is = set_of (rows_elements m.are) m.ascends; few = omega arith }))
        (λ q. record { heavy = (let k = q.heavy in omega arith); none = no_set_of q })
        (set_in a)
    held sound tell (of_choice {i = i} g a) = either
        (λ r. (let k = r.few in
        record { w = alternative i r.w; value = of_choice g r.value; same = alike_choice g r.same; form = true; octets = r.octets; is = choice g r.is; few = omega arith }))
        (λ q. record { heavy = (let k = q.heavy in omega arith); none = no_choice g q })
        (encoded a)

    members_in : {n : ℕ} {cs : List Component} {vs : Row} → AllByRecursion (HasValue s) cs → AreComponents s n cs vs → MembersIn s n cs vs ⊎ NoMembers most s cs vs
    members_in d no_component = inl (record { ws = end; values = no_component; same = no_components; xs = []; are = no_member; few = omega arith })
    members_in d (component_absent {c = c} b a) = either
        (λ m. record { ws = absent m.ws; values = component_absent b m.values; same = both_absent m.same; xs = m.xs; are = left_out (not_mandatory b c refl) m.are; few = m.few })
        (λ q. record { heavy = q.heavy; none = none_absent q })
        (members_in d.1 a)
    members_in d (component_present {c = c} {v = v} b a) = ⊎_elim
        (λ m. joined d.0 b m (is_default c v d.0 b) (encoded b))
        (λ q. inr (record { heavy = (let k = q.heavy in omega arith); none = none_present q }))
        (members_in d.1 a)

    elements_in : {n u : ℕ} {vs : Row} → AreElements s n u vs → ElementsIn s n u vs ⊎ NoElements most s u vs
    elements_in no_value = inl (record { ws = end; values = no_value; same = no_elements; xs = []; are = no_element; few = omega arith })
    elements_in (one_element v a) = one_more (encoded v) (elements_in a)

    set_in : {n u : ℕ} {vs : Row} → AreElements s n u vs → SetIn s n u vs ⊎ NoSet most s u vs
    set_in no_value = inl (record { ws = end; same = none_left; xs = []; are = rows_none; ascends = ascending_none; few = omega arith; count = refl })
    set_in (one_element v a) = one_put (encoded v) (set_in a)

  pub encodable : (t : ℕ) (v : AbstractValue) → ValueIn s 64 t v → weight v < most → (o : List ℕ) × Der s t v 0 o × (length o ≤ weight v)
  encodable t v a h = by (encoded a)
    where
      by : Encoded s 64 t v ⊎ NotEncoded most s t v → (o : List ℕ) × Der s t v 0 o × (length o ≤ weight v)
      by (inl r) = (r.octets, (r.w, record { first = a; second = r.value; are_alike = r.same }, r.is), r.few)
      by (inr q) = absurd (let k = q.heavy in omega arith)

  -- a value without an encoding by the distinguished rules has none by the basic ones
  pub encodable_or_none : (t : ℕ) (v : AbstractValue) → ValueIn s 64 t v → ((o : List ℕ) × Der s t v 0 o) ⊎ ((p : List ℕ) → Ber s t v 0 p → ⊥)
  encodable_or_none t v a = either (λ r. (r.octets, (r.w, record { first = a; second = r.value; are_alike = r.same }, r.is))) (λ q p b. q.none b.1.are_alike b.2 refl) (encoded a)

-- a length has at most 126 octets
pub few_digits : (n : ℕ) → n < 256 ^ 126 → length (digits_of 256 n) ≤ 126
few_digits n h = length-digits_of-le 256 126 n (omega arith) h
