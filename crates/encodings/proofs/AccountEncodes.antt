-- The octets that an account describes are an encoding by the distinguished rules, except for the order in sets. The
-- account describes no other octets.
use Rattle.std.proofs.Common.{arith, ◌≡◌, ℕ, suc, Bool, true, List, [], ◌∷◌, refl, sym, ap, subst, ◌∙◌}
use Rattle.std.specs.List.{concat, AllByRecursion}
use Rattle.std.proofs.lemmas.List.{append-nil}
use Rattle.asn_base.specs.declared.tag.Tag.{Tag}
use Rattle.asn_base.specs.Abstract.{AbstractValue, fields, list, alternative, Row, end, absent, present}
use Rattle.asn_base.specs.Types.{Kind, a_sequence, Component, Resolved, Is}
use Rattle.asn_base.specs.Typed.{IsAllowedSize, GroupsAreWhole, members, ValueIn, value_in, ValueOf, of_leaf, of_sequence, of_set, of_sequence_of, of_set_of, of_choice, MayBeAbsent, where_default, AreComponents, no_component, component_absent, component_present, AreElements, no_element as no_value, one_element, IsPrimitive, fits_named_bits}
use Rattle.asn_base.specs.Same.{IsLeaf, Inserted, here, there, Alike, alike, AlikeBy, equal, zeros, alike_sequence, alike_set, alike_sequence_of, alike_set_of, alike_choice, AlikeComponents, no_components, both_absent, both_present, second_default, AlikeElements, no_elements, alike_element, AlikeInAnyOrder, none_left, pair}
use Rattle.asn_base.specs.Schemas.{HasValue, IsSound, IsSchema}
use Rattle.encodings.specs.Rules.{Unsorted, Distinguished}
use Rattle.encodings.specs.Header.{HeaderBy}
use Rattle.encodings.specs.Orders.{EncodingInserted as ListInserted, here as list_here, there as list_there, Permutes, permutes_none, permutes_more}
use Rattle.encodings.specs.Encoding.{Framed, bare, innermost, outer, EncodesTo, says, ContentsEncode, leaf, sequence, set, sequence_of, set_of, choice, Members, no_member, left_out, member, Elements, no_element, element, EncodesBy}
use Rattle.encodings.specs.Account.{Account, header, Inside, leaf_row, wrap_row, seq_row, seqof_row, set_row, setof_row, Rows, no_row, absent_row, default_row, written, Headed, headed_bare, headed_innermost, headed_outer, ArePlacedAt, Describes, describes, ContentsHaveRows, leaf_listed, sequence_listed, set_listed, sequence_of_listed, set_of_listed, choice_listed, MembersHaveRows, no_member_listed, absent_listed, absent_default_listed, default_listed, member_listed, ElementsHaveRows, no_element_listed, element_listed}
use Rattle.encodings.specs.proving.LeafForms.{leaf_form}
use Rattle.encodings.proofs.Frames.{frames_only}
use Rattle.encodings.proofs.Least.{alike_by_at, alternative_type, leaves_best}
use Rattle.asn_base.specs.proving.OneKind.{same_tags, same_kind}
use Rattle.encodings.specs.proving.Weaker.{unsorted_holds}
use Rattle.encodings.proofs.Encodable.{none_lacking, merged_alone, not_mandatory, mandatory_is}
use Rattle.encodings.specs.proving.Placing.{placing_permutes, one_placing}

value_of_at : {s : List Resolved} {n : ℕ} {k k' : Kind} {v : AbstractValue} → k' ≡ k → ValueOf s n k' v → ValueOf s n k v
value_of_at {s} {n} {v = v} e a = subst (λ q. ValueOf s n q v) e a

value_at : {s : List Resolved} {n t u : ℕ} {v : AbstractValue} → u ≡ t → ValueIn s n u v → ValueIn s n t v
value_at {s} {n} {v = v} e a = subst (λ q. ValueIn s n q v) e a

header_unsorted : {t : Tag} {c : Bool} {n : ℕ} {h : List ℕ} → HeaderBy Distinguished t c n h → HeaderBy Unsorted t c n h
header_unsorted a = record { header = a.header; fewest = a.fewest }

framed_of : {ts : List Tag} {c : Bool} {x o : List ℕ} {i : Inside} {a : Account} → Headed ts c x i o a → Framed Unsorted ts c x o
framed_of headed_bare = bare
framed_of (headed_innermost h) = innermost (header_unsorted h.is_header)
framed_of (headed_outer f h) = outer (framed_of f) (header_unsorted h.is_header)

fits_alike : {s : List Resolved} {k : Kind} {v w : AbstractValue} → AlikeBy s k v w → IsPrimitive k v → IsPrimitive k w
fits_alike (equal l) f = f
fits_alike (zeros m n e) f = fits_named_bits
fits_alike (alike_sequence a) f = elim f [ ]
fits_alike (alike_set a) f = elim f [ ]
fits_alike (alike_sequence_of a) f = elim f [ ]
fits_alike (alike_set_of a) f = elim f [ ]
fits_alike (alike_choice g a) f = elim f [ ]

leaf_value : {s : List Resolved} {n : ℕ} {k : Kind} {v w : AbstractValue} → IsLeaf k → AlikeBy s k v w → ValueOf s n k v → ValueOf s n k w
leaf_value l e (of_leaf f) = of_leaf (fits_alike e f)
leaf_value l e (of_sequence a g) = absurd l
leaf_value l e (of_set a g) = absurd l
leaf_value l e (of_sequence_of a z) = absurd l
leaf_value l e (of_set_of a z) = absurd l
leaf_value l e (of_choice g a) = absurd l

record Said (s : List Resolved) (n t : ℕ) (v : AbstractValue) (o : List ℕ) : Type 0 where
  w : AbstractValue
  value : ValueIn s n t w
  same : Alike s t v w
  is : EncodesTo s Unsorted t w 0 o

record Within (s : List Resolved) (n : ℕ) (k : Kind) (v : AbstractValue) (c : Bool) (x : List ℕ) : Type 0 where
  w : AbstractValue
  value : ValueOf s n k w
  same : AlikeBy s k v w
  is : ContentsEncode s Unsorted k w 0 c x

record MembersSaid (s : List Resolved) (n : ℕ) (cs : List Component) (vs : Row) (xs : List (List ℕ)) : Type 0 where
  ws : Row
  values : AreComponents s n cs ws
  same : AlikeComponents s cs vs ws
  are : Members s Unsorted cs ws 0 xs

record ElementsSaid (s : List Resolved) (n u : ℕ) (vs : Row) (xs : List (List ℕ)) : Type 0 where
  ws : Row
  values : AreElements s n u ws
  same : AlikeElements s u vs ws
  are : Elements s Unsorted u ws 0 xs
  count : members ws ≡ members vs

-- the same in another order
record SetSaid (s : List Resolved) (n u : ℕ) (vs : Row) (xs : List (List ℕ)) : Type 0 where
  ws : Row
  values : AreElements s n u ws
  same : AlikeInAnyOrder s u vs ws
  are : Elements s Unsorted u ws 0 xs
  count : members ws ≡ members vs

record PutIn (s : List Resolved) (n u : ℕ) (w : AbstractValue) (ws : Row) (zs : List (List ℕ)) : Type 0 where
  row : Row
  at : Inserted w ws row
  values : AreElements s n u row
  are : Elements s Unsorted u row 0 zs
  count : members row ≡ suc (members ws)

put_in : {s : List Resolved} {n u : ℕ} {w : AbstractValue} {x : List ℕ} → ValueIn s n u w → EncodesTo s Unsorted u w 0 x → {ws : Row} {j : ℕ} {ys zs : List (List ℕ)} → AreElements s n u ws → Elements s Unsorted u ws j ys → j ≡ 0 → ListInserted x ys zs → PutIn s n u w ws zs
put_in {s} {u = u} {w = w} v a {ws = ws} {ys = ys} vs es z list_here = record { row = present w ws; at = here; values = one_element v vs; are = element a (subst (λ q. Elements s Unsorted u ws q ys) z es); count = refl }
put_in v a no_value es z (list_there i) = elim es [ ]
put_in {s} {u = u} v a (one_element {v = y} v' vs) (element {j = j} {n = k} {x = x} b es) z (list_there {y = y'} i) =
    let q : j ≡ 0 = omega arith in
    let r : k ≡ 0 = omega arith in
    let p = put_in v a vs es r i in
    record { row = present y p.row; at = there p.at; values = one_element v' p.values; are = element (subst (λ q. EncodesTo s Unsorted u y q x) q b) p.are; count = ap suc p.count }

reordered : {s : List Resolved} {n u : ℕ} {vs ws : Row} {j : ℕ} {xs zs : List (List ℕ)} → AreElements s n u ws → AlikeElements s u vs ws → Elements s Unsorted u ws j xs → j ≡ 0 → members ws ≡ members vs → Permutes xs zs → SetSaid s n u vs zs
reordered no_value no_elements no_element z c permutes_none = record { ws = end; values = no_value; same = none_left; are = no_element; count = refl }
reordered {s} {u = u} (one_element {v = w} v vs) (alike_element sm se) (element {j = j} {n = k} {x = x} a es) z c (permutes_more p i) =
    let q : j ≡ 0 = omega arith in
    let r : k ≡ 0 = omega arith in
    let m = reordered vs se es r (omega arith) p in
    let t = put_in v (subst (λ q. EncodesTo s Unsorted u w q x) q a) m.values m.are refl i in
    record { ws = t.row; values = t.values; same = pair sm m.same t.at; are = t.are; count = t.count ∙ ap suc m.count }

module _ (s : List Resolved) (schema : IsSchema s)
    (follow : (t : ℕ) (v w x : AbstractValue) → Alike s t v w → Alike s t w x → Alike s t v x)
    (groups : (cs : List Component) (vs ws : Row) → AlikeComponents s cs vs ws → GroupsAreWhole cs vs → GroupsAreWhole cs ws)
    (levels : (m n t : ℕ) (v w : AbstractValue) → Alike s t v w → ValueIn s n t v → ValueIn s m t w → ValueIn s n t w) where
  mutual
    said : {n t : ℕ} {v : AbstractValue} {o : List ℕ} {a : Account} → Describes s t v o a → ValueIn s n t v → Said s n t v o
    said (describes i d h) (value_in j b) =
        let m = within (schema.sound _ _ _ i) d (value_of_at (same_kind i j) b) in
        record { w = m.w; value = value_in i m.value; same = alike i m.same; is = says i m.is (framed_of h) }

    within : {n : ℕ} {k : Kind} {v : AbstractValue} {c : Bool} {x : List ℕ} {i : Inside} → IsSound s k → ContentsHaveRows s k v c x i → ValueOf s n k v → Within s n k v c x
    within sound (leaf_listed {w = w} l e con) b = record { w = w; value = leaf_value l e b; same = e; is = unsorted_holds (leaf con) }
    within sound (sequence_listed d) (of_leaf f) = elim f [ ]
    within sound (sequence_listed {e = e} {cs = cs} {vs = vs} {xs = xs} d) (of_sequence b g) =
        let m = members_said sound.defaults d b in
        record { w = fields m.ws; value = of_sequence m.values (groups cs vs m.ws m.same g); same = alike_sequence m.same; is = subst (λ q. ContentsEncode s Unsorted (a_sequence e cs) (fields m.ws) 0 true (concat q)) (append-nil xs) (sequence m.are (none_lacking e)) }
    within sound (set_listed d at) (of_leaf f) = elim f [ ]
    within sound (set_listed {e = e} {cs = cs} {vs = vs} {zs = zs} d at) (of_set b g) =
        let m = members_said sound.0.defaults d b in
        record { w = fields m.ws; value = of_set m.values (groups cs vs m.ws m.same g); same = alike_set m.same; is = set m.are (placing_permutes at) tt (none_lacking e) (merged_alone zs) }
    within sound (sequence_of_listed d) (of_leaf f) = elim f [ ]
    within sound (sequence_of_listed {c = c} d) (of_sequence_of b z) =
        let m = elements_said d b in
        record { w = list m.ws; value = of_sequence_of m.values (subst (IsAllowedSize c) (sym m.count) z); same = alike_sequence_of m.same; is = sequence_of m.are }
    within sound (set_of_listed d at) (of_leaf f) = elim f [ ]
    within sound (set_of_listed {c = c} d at) (of_set_of b z) =
        let e = elements_said d b in
        let m = reordered e.values e.same e.are refl e.count (placing_permutes at) in
        record { w = list m.ws; value = of_set_of m.values (subst (IsAllowedSize c) (sym m.count) z); same = alike_set_of m.same; is = set_of m.are tt }
    within sound (choice_listed g d) (of_leaf f) = elim f [ ]
    within sound (choice_listed {i = i} g d) (of_choice h b) =
        let m = said d (value_at (alternative_type g h) b) in
        record { w = alternative i m.w; value = of_choice g m.value; same = alike_choice g m.same; is = choice g m.is }

    members_said : {n : ℕ} {cs : List Component} {vs : Row} {xs : List (List ℕ)} {rs : Rows} → AllByRecursion (HasValue s) cs → MembersHaveRows s cs vs xs rs → AreComponents s n cs vs → MembersSaid s n cs vs xs
    members_said h no_member_listed no_component = record { ws = end; values = no_component; same = no_components; are = no_member }
    members_said h (absent_listed {c = c} e d) (component_absent b bs) =
        let m = members_said h.1 d bs in
        record { ws = absent m.ws; values = component_absent b m.values; same = both_absent m.same; are = left_out (not_mandatory b c refl) m.are }
    members_said h (absent_default_listed {c = c} x e d) (component_absent b bs) =
        let m = members_said h.1 d bs in
        record { ws = absent m.ws; values = component_absent b m.values; same = both_absent m.same; are = left_out (not_mandatory b c refl) m.are }
    members_said {n} h (default_listed {c = c} {v = v} f d) (component_present b bs) =
        let m = members_said h.1 d bs in
        let e = levels 64 n c.type v f.0 f.2 b (h.0 f.0 f.1).shaped in
        record { ws = absent m.ws; values = component_absent (subst (MayBeAbsent s n c.type) (sym f.1) (where_default e)) m.values; same = second_default f.1 f.2 m.same; are = left_out (ap mandatory_is f.1) m.are }
    members_said h (member_listed {c = c} {v = v} never a d) (component_present b bs) =
        let r = said a b in
        let m = members_said h.1 d bs in
        record { ws = present r.w m.ws; values = component_present r.value m.values; same = both_present r.same m.same; are = member r.is (λ z f. never (f.0, f.1, follow c.type v r.w f.0 r.same f.2)) m.are }

    elements_said : {n u : ℕ} {vs : Row} {xs : List (List ℕ)} {rs : Rows} → ElementsHaveRows s u vs xs rs → AreElements s n u vs → ElementsSaid s n u vs xs
    elements_said no_element_listed no_value = record { ws = end; values = no_value; same = no_elements; are = no_element; count = refl }
    elements_said (element_listed a d) (one_element b bs) =
        let r = said a b in
        let m = elements_said d bs in
        record { ws = present r.w m.ws; values = one_element r.value m.values; same = alike_element r.same m.same; are = element r.is m.are; count = ap suc m.count }

  pub listed : (t : ℕ) (v : AbstractValue) (o : List ℕ) (a : Account) → ValueIn s 64 t v → Describes s t v o a → EncodesBy Unsorted s t v 0 o
  listed t v o a b d = let r = said d b in (r.w, record { first = b; second = r.value; are_alike = r.same }, r.is)

-- ---- one account, one list of octets

both : {x y : List ℕ} {xs ys : List (List ℕ)} → y ≡ x → ys ≡ xs → (y ∷ ys) ≡ (x ∷ xs)
both e f = cc

abbrev inside_of : Account → Inside
inside_of (header z i) = i

abbrev wrapped_in : Account → Inside → Account
wrapped_in d (wrap_row a) = a
wrapped_in d i = d

abbrev rows_in : Inside → Rows
rows_in leaf_row = no_row
rows_in (wrap_row a) = no_row
rows_in (seq_row rs) = rs
rows_in (seqof_row rs) = rs
rows_in (set_row rs p q) = rs
rows_in (setof_row rs p q) = rs

abbrev places_in : Inside → List ℕ
places_in leaf_row = []
places_in (wrap_row a) = []
places_in (seq_row rs) = []
places_in (seqof_row rs) = []
places_in (set_row rs p q) = p
places_in (setof_row rs p q) = p

abbrev inverse_in : Inside → List ℕ
inverse_in leaf_row = []
inverse_in (wrap_row a) = []
inverse_in (seq_row rs) = []
inverse_in (seqof_row rs) = []
inverse_in (set_row rs p q) = q
inverse_in (setof_row rs p q) = q

abbrev first_row : Account → Rows → Account
first_row d no_row = d
first_row d (absent_row rs) = d
first_row d (default_row rs) = d
first_row d (written a rs) = a

abbrev other_rows : Rows → Rows
other_rows no_row = no_row
other_rows (absent_row rs) = rs
other_rows (default_row rs) = rs
other_rows (written a rs) = rs

headed_at : {ts us : List Tag} {c : Bool} {x o : List ℕ} {i : Inside} {a : Account} → us ≡ ts → Headed us c x i o a → Headed ts c x i o a
headed_at {c = c} {x = x} {o = o} {i = i} {a = a} e h = subst (λ q. Headed q c x i o a) e h

same_inside : {ts : List Tag} {c d : Bool} {x y o p : List ℕ} {i j : Inside} {a b : Account} → Headed ts c x i o a → Headed ts d y j p b → a ≡ b → i ≡ j
same_inside headed_bare headed_bare e = ap wrap_row e
same_inside (headed_innermost h) (headed_innermost k) e = ap inside_of e
same_inside (headed_outer {a = a} f h) (headed_outer g k) e = same_inside f g (ap (λ q. wrapped_in a (inside_of q)) e)

framed_strictly : {ts : List Tag} {c : Bool} {x o : List ℕ} {i : Inside} {a : Account} → Headed ts c x i o a → Framed Distinguished ts c x o
framed_strictly headed_bare = bare
framed_strictly (headed_innermost h) = innermost h.is_header
framed_strictly (headed_outer f h) = outer (framed_strictly f) h.is_header

placed_at : {p q p' q' : List ℕ} {xs xs' zs : List (List ℕ)} → p' ≡ p → q' ≡ q → xs' ≡ xs → ArePlacedAt p' q' xs' zs → ArePlacedAt p q xs zs
placed_at {p} {q} {p'} {q'} {xs} {xs'} {zs} e f g a = subst (λ k. ArePlacedAt p q k zs) g (subst (λ k. ArePlacedAt p k xs' zs) f (subst (λ k. ArePlacedAt k q' xs' zs) e a))

describes_at : {s : List Resolved} {t u : ℕ} {v : AbstractValue} {o : List ℕ} {a : Account} → u ≡ t → Describes s u v o a → Describes s t v o a
describes_at {s} {v = v} {o = o} {a = a} e d = subst (λ q. Describes s q v o a) e d

inside_at : {s : List Resolved} {k k' : Kind} {v : AbstractValue} {c : Bool} {x : List ℕ} {i : Inside} → k' ≡ k → ContentsHaveRows s k' v c x i → ContentsHaveRows s k v c x i
inside_at {s} {v = v} {c = c} {x = x} {i = i} e d = subst (λ q. ContentsHaveRows s q v c x i) e d

module _ (s : List Resolved) (turn : (t : ℕ) (v w : AbstractValue) → Alike s t v w → Alike s t w v) (follow : (t : ℕ) (v w x : AbstractValue) → Alike s t v w → Alike s t w x → Alike s t v x) where
  same_leaf : {t : ℕ} {tags : List Tag} {k : Kind} {v w x : AbstractValue} → Is s t tags k → AlikeBy s k v w → AlikeBy s k v x → AlikeBy s k w x
  same_leaf {t} {k = k} {v = v} {w = w} {x = x} i e f = by (follow t w v x (turn t v w (alike i e)) (alike i f))
    where
      by : Alike s t w x → AlikeBy s k w x
      by (alike j a) = alike_by_at (same_kind i j) a

  mutual
    one_listed : {t : ℕ} {v : AbstractValue} {o p : List ℕ} {a b : Account} → Describes s t v o a → Describes s t v p b → a ≡ b → p ≡ o
    one_listed (describes i d h) (describes j d' h') e =
        let k = headed_at (same_tags i j) h' in
        let r = one_inside i d (inside_at (same_kind i j) d') (same_inside h k e) in
        frames_only (framed_strictly h) (framed_strictly k) (sym r.0) r.1

    one_inside : {t : ℕ} {tags : List Tag} {k : Kind} {v : AbstractValue} {c c' : Bool} {x y : List ℕ} {i j : Inside} → Is s t tags k → ContentsHaveRows s k v c x i → ContentsHaveRows s k v c' y j → i ≡ j → (c' ≡ c) × (y ≡ x)
    one_inside t (leaf_listed l e con) (leaf_listed l' e' con') f = (leaf_form con' ∙ sym (leaf_form con), (leaves_best (same_leaf t e e') con con').only)
    one_inside t (leaf_listed l e con) (sequence_listed d) f = absurd l
    one_inside t (leaf_listed l e con) (set_listed d at) f = absurd l
    one_inside t (leaf_listed l e con) (sequence_of_listed d) f = absurd l
    one_inside t (leaf_listed l e con) (set_of_listed d at) f = absurd l
    one_inside t (leaf_listed l e con) (choice_listed g d) f = absurd l
    one_inside t (sequence_listed d) (leaf_listed l e con) f = absurd l
    one_inside t (sequence_listed d) (sequence_listed d') f = (refl, ap concat (one_members d d' (ap rows_in f)))
    one_inside t (set_listed d at) (leaf_listed l e con) f = absurd l
    one_inside t (set_listed d at) (set_listed d' at') f =
        (refl, ap concat (one_placing at (placed_at (sym (ap places_in f)) (sym (ap inverse_in f)) (one_members d d' (ap rows_in f)) at')))
    one_inside t (sequence_of_listed d) (leaf_listed l e con) f = absurd l
    one_inside t (sequence_of_listed d) (sequence_of_listed d') f = (refl, ap concat (one_elements d d' (ap rows_in f)))
    one_inside t (set_of_listed d at) (leaf_listed l e con) f = absurd l
    one_inside t (set_of_listed d at) (set_of_listed d' at') f =
        (refl, ap concat (one_placing at (placed_at (sym (ap places_in f)) (sym (ap inverse_in f)) (one_elements d d' (ap rows_in f)) at')))
    one_inside t (choice_listed g d) (leaf_listed l e con) f = absurd l
    one_inside t (choice_listed {a = a} g d) (choice_listed g' d') f = (refl, one_listed d (describes_at (alternative_type g g') d') (ap (wrapped_in a) f))

    one_members : {cs : List Component} {vs : Row} {xs ys : List (List ℕ)} {rs rs' : Rows} → MembersHaveRows s cs vs xs rs → MembersHaveRows s cs vs ys rs' → rs ≡ rs' → ys ≡ xs
    one_members no_member_listed no_member_listed e = refl
    one_members (absent_listed n d) (absent_listed n' d') e = one_members d d' (ap other_rows e)
    one_members (absent_listed n d) (absent_default_listed x f d') e = absurd (n x f)
    one_members (absent_default_listed x f d) (absent_listed n d') e = absurd (n x f)
    one_members (absent_default_listed x f d) (absent_default_listed x' f' d') e = one_members d d' (ap other_rows e)
    one_members (default_listed f d) (default_listed f' d') e = one_members d d' (ap other_rows e)
    one_members (default_listed f d) (member_listed n a d') e = absurd (n f)
    one_members (member_listed n a d) (default_listed f d') e = absurd (n f)
    one_members (member_listed {a = b} n a d) (member_listed n' a' d') e = both (one_listed a a' (ap (first_row b) e)) (one_members d d' (ap other_rows e))

    one_elements : {u : ℕ} {vs : Row} {xs ys : List (List ℕ)} {rs rs' : Rows} → ElementsHaveRows s u vs xs rs → ElementsHaveRows s u vs ys rs' → rs ≡ rs' → ys ≡ xs
    one_elements no_element_listed no_element_listed e = refl
    one_elements (element_listed {a = b} a d) (element_listed a' d') e = both (one_listed a a' (ap (first_row b) e)) (one_elements d d' (ap other_rows e))

  pub one_list : (t : ℕ) (v : AbstractValue) (o p : List ℕ) (a : Account) → Describes s t v o a → Describes s t v p a → p ≡ o
  one_list t v o p a d e = one_listed d e refl
