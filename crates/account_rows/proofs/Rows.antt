-- The routines of a schema give accounts of its values.
use Rattle.std.proofs.Common.{◌≡◌, ℕ, zero, suc, ◌+◌, ◌<◌, ◌^◌, Bool, true, false, List, [], ◌∷◌, ◌++◌, length, refl, sym, ap, subst, ◌∙◌, arith, append_assoc, append-nil, length-append}
use Rattle.std.specs.Prelude.{Some, slice_get, drop}
use Rattle.std.specs.List.{concat, AllByRecursion, sum_by}
use Rattle.std.specs.List.Sorted.{IsPermutation}
use Rattle.std.proofs.lemmas.List.Sums.{sum_by-cons}
use Rattle.std.proofs.lemmas.List.Sorted.{sum_by-IsPermutation}
use Rattle.asn_base.specs.declared.tag.Tag.{Tag}
use Rattle.asn_base.specs.declared.schema.TypeId.{TypeId}
use Rattle.asn_base.specs.Abstract.{AbstractValue, fields, list, alternative, Row, end, present}
use Rattle.asn_base.specs.Types.{Constraint, Alternative, Kind, a_sequence, a_set, a_sequence_of, a_set_of, a_choice, Component, Resolved, Is}
use Rattle.asn_base.specs.Typed.{ValueIn, value_in, ValueOf, of_leaf, of_sequence, of_set, of_sequence_of, of_set_of, of_choice, AreComponents, no_component, component_absent, component_present, AreElements, no_element as no_value, one_element}
use Rattle.asn_base.specs.Same.{IsLeaf, Alike, alike, AlikeBy}
use Rattle.asn_base.specs.Schemas.{HasValue, IsSchema}
use Rattle.asn_base.specs.Tags.{IsChoice}
use Rattle.encodings.specs.Rules.{Distinguished}
use Rattle.encodings.specs.Contents.{Contents}
use Rattle.encodings.specs.Header.{HeaderBy}
use Rattle.encodings.specs.Fewest.{shortest_header}
use Rattle.encodings.specs.Account.{Numbers, Account, header, Inside as Within, leaf_row, wrap_row, seq_row, seqof_row, set_row, setof_row, Rows, no_row, written, Describes, ContentsHaveRows, leaf_listed, sequence_listed, set_listed, sequence_of_listed, set_of_listed, choice_listed, MembersHaveRows, no_member_listed, member_listed, ElementsHaveRows, no_element_listed, element_listed}
use Rattle.codec_code.specs.declared.step.RowKind.{RowKind}
use Rattle.codec_code.specs.declared.step.RowKind.TheVariants.{Leaf as LeafRow}
use Rattle.codec_code.specs.declared.step.Step.{Step}
use Rattle.codec_code.specs.declared.step.Step.TheVariants.{Call}
use Rattle.codec_code.specs.Events.{Event, puts, leaves_out, ends_member, by_octets, by_rank, Tree, done, piece, lacking, Members as Group, no_member as no_part, no_component as lacking_part, member as part, flat, flats, SetMember, encodings_of}
use Rattle.codec_code.specs.Routines.{id_of, body, calls, ends, fields_from, ranked_from, rest_if, row_of, is_constructed, routine_at, need_of, rank}
use Rattle.codec_code.specs.Steps.{Steps, component_at, has_default, Elements as ElementSteps, no_element as no_steps, element as element_steps, SortedElements as PartSteps, no_part as no_part_steps, part as part_steps}
use Rattle.codec_code.specs.Steps.{IsTheDefault as DefaultIn}
use Rattle.octet_account.specs.Flat.{FlatRow, a_wrap, a_seq, a_seqof, a_set, a_setof, rows_of, member_rows, count}
use Rattle.account_rows.specs.RowLayout.{header_row, left_row, rows_in, rows_among, RowLayout, MemberRows}
use Rattle.account_rows.specs.Meaning.{GivesRows}
use Rattle.account_rows.specs.Lengths.{octets_in, members_in}
use Rattle.account_rows.proofs.Joins.{rows_join, octets_join, joined}
use Rattle.codec_code.specs.proving.Join.{join, flat_join}
use Rattle.account_rows.proofs.Placing.{standing_length}
use Rattle.codec_code.specs.proving.Inversion.{field_in, ranked_in, leaf_in as leaf_step_in, each_in, sorted_in, pick_in, rest_in, ended}
use Rattle.account_rows.proofs.Leaves.{LeafHeld, LeafStep, leaf_step}
use Rattle.encodings.specs.proving.LeafForms.{leaf_form}
use Rattle.account_rows.proofs.RowLayout.{ListedOf, Inside, plain, grouped, whole, LeftListed, absent_left, omitted_left, absent_back, omitted_back, stood_back, default_from}
use Rattle.codec_code.specs.proving.Present.{Placed, Present, omitted, written as is_written, present_in, absent_in}
use Rattle.asn_base.specs.proving.OneKind.{same_kind}

calls_at : (as' : List Alternative) (ss : List Step) (i : ℕ) (a : Alternative) → slice_get as' i ≡ Some a → slice_get (calls as' ++ ss) i ≡ Some (Call (id_of a.type))
calls_at [] ss i a e = absurd (cc)
calls_at (x ∷ as') ss zero a e = let f : x ≡ a = cc in ap (λ q. Some (Call (id_of q.type))) f
calls_at (x ∷ as') ss (suc i) a e = calls_at as' ss i a e

calls_over : (as' : List Alternative) (ss : List Step) → drop (length as') (calls as' ++ ss) ≡ ss
calls_over [] ss = refl
calls_over (a ∷ as') ss = calls_over as' ss

same_call : (t t' : TypeId) → Some (Call t) ≡ Some (Call t') → t.index ≡ t'.index
same_call t t' e = let f : Call t ≡ Call t' = cc in let g : t ≡ t' = cc in ap (λ q. q.index) g

length_is : (ps : List SetMember) → length (concat (encodings_of ps)) ≡ sum_by (λ p. length p.octets) ps
length_is [] = refl
length_is (p ∷ ps) = length-append p.octets (concat (encodings_of ps)) ∙ ap (λ n. length p.octets + n) (length_is ps) ∙ sym (sum_by-cons (λ q. length q.octets) p ps)

permuted_length : (ps qs : List SetMember) → IsPermutation ps qs → length (concat (encodings_of qs)) ≡ length (concat (encodings_of ps))
permuted_length ps qs h = length_is qs ∙ sum_by-IsPermutation (λ p. length p.octets) ps qs h ∙ sym (length_is ps)

one_more : (n : ℕ) → 1 + n ≡ suc n
one_more n = omega arith

-- ---- the events of parts of a value

-- these members, with their octets and rows
record MembersIn (s : List Resolved) (cs : List Component) (vs : Row) (xs : List (List ℕ)) (rows : List FlatRow) (n : ℕ) : Type 0 where
  rs : Rows
  listed : MembersHaveRows s cs vs xs rs
  are : rows ≡ member_rows rs
  counted : n ≡ count rs

record ElementsIn (s : List Resolved) (u : ℕ) (vs : Row) (xs : List (List ℕ)) (rows : List FlatRow) (n : ℕ) : Type 0 where
  rs : Rows
  listed : ElementsHaveRows s u vs xs rs
  are : rows ≡ member_rows rs
  counted : n ≡ count rs

record MembersListed (s : List Resolved) (t : ℕ) (cs : List Component) (vs ws : Row) (ss : List Step) (es : List Event) : Type 0 where
  tree : Tree
  left : List Event
  is : es ≡ flat tree ++ left
  rest : Steps s t ss (fields ws) left
  holds : (o : List ℕ) (rs : List FlatRow) → RowLayout tree o rs → length o < 2 ^ 64 → (xs : List (List ℕ)) × MembersIn s cs vs xs rs (rows_in tree) × (o ≡ concat xs)
  as_many : (xs : List (List ℕ)) (rs : Rows) → MembersHaveRows s cs vs xs rs → length (concat xs) ≡ octets_in tree

record RankedListed (s : List Resolved) (t : ℕ) (all cs : List Component) (vs ws : Row) (ss : List Step) (es : List Event) : Type 0 where
  group : Group
  left : List Event
  is : es ≡ flats group ++ left
  rest : Steps s t ss (fields ws) left
  holds : (ps : List SetMember) (rs : List FlatRow) → MemberRows group ps rs → length (concat (encodings_of ps)) < 2 ^ 64 → MembersIn s cs vs (encodings_of ps) rs (rows_among group)
  as_many : (xs : List (List ℕ)) (rs : Rows) → MembersHaveRows s cs vs xs rs → length (concat xs) ≡ members_in group

record ElementsListed (s : List Resolved) (u : ℕ) (vs : Row) (es : List Event) : Type 0 where
  tree : Tree
  is : es ≡ flat tree
  holds : (o : List ℕ) (rs : List FlatRow) → RowLayout tree o rs → length o < 2 ^ 64 → (xs : List (List ℕ)) × ElementsIn s u vs xs rs (rows_in tree) × (o ≡ concat xs)
  as_many : (xs : List (List ℕ)) (rs : Rows) → ElementsHaveRows s u vs xs rs → length (concat xs) ≡ octets_in tree

record PartedListed (s : List Resolved) (u : ℕ) (vs : Row) (es : List Event) : Type 0 where
  group : Group
  is : es ≡ flats group
  holds : (ps : List SetMember) (rs : List FlatRow) → MemberRows group ps rs → length (concat (encodings_of ps)) < 2 ^ 64 → ElementsIn s u vs (encodings_of ps) rs (rows_among group)
  as_many : (xs : List (List ℕ)) (rs : Rows) → ElementsHaveRows s u vs xs rs → length (concat xs) ≡ members_in group

-- one that is left out before others
left_first : {s : List Resolved} {c : Component} {cs : List Component} {vs vs' : Row} {xs : List (List ℕ)} {d : Bool} {others rs : List FlatRow} {n : ℕ}
    → d ≡ has_default (need_of c.presence)
    → (m : MembersIn s cs vs xs others n) → LeftListed s c cs vs' xs m.rs → rs ≡ left_row d ∷ others → MembersIn s (c ∷ cs) vs' xs rs (suc n)
left_first {c = c} {others = others} e m l f = record {
  rs = l.all;
  listed = l.listed;
  are = f ∙ ap (λ q. left_row q ∷ others) e ∙ ap (λ q. left_row (has_default (need_of c.presence)) ∷ q) m.are ∙ sym l.rows;
  counted = ap suc m.counted ∙ sym l.counted;
}

one_piece : (x o : List ℕ) (rs : List FlatRow) → RowLayout (piece x done) o rs → (o ≡ x) × (rs ≡ [])
one_piece x o rs h = (h.2 ∙ ap (λ q. x ++ q) h.1.0 ∙ append-nil x, h.1.1)

leaf_row_is : (k : RowKind) (z : Numbers) → k ≡ LeafRow → header_row k z 0 [] [] ∷ [] ≡ rows_of (header z leaf_row)
leaf_row_is k z e = ap (λ q. header_row q z 0 [] [] ∷ []) e

-- ---- what accounts say of contents

no_octets : {s : List Resolved} {xs : List (List ℕ)} {rs : Rows} → MembersHaveRows s [] end xs rs → length (concat xs) ≡ 0
no_octets no_member_listed = refl

no_element_octets : {s : List Resolved} {u : ℕ} {xs : List (List ℕ)} {rs : Rows} → ElementsHaveRows s u end xs rs → length (concat xs) ≡ 0
no_element_octets no_element_listed = refl

record Element (s : List Resolved) (u : ℕ) (v : AbstractValue) (vs : Row) (xs : List (List ℕ)) : Type 0 where
  octets : List ℕ
  account : Account
  others : List (List ℕ)
  rows : Rows
  describes : Describes s u v octets account
  more : ElementsHaveRows s u vs others rows
  are : xs ≡ octets ∷ others

element_back : {s : List Resolved} {u : ℕ} {v : AbstractValue} {vs : Row} {xs : List (List ℕ)} {rs : Rows} → ElementsHaveRows s u (present v vs) xs rs → Element s u v vs xs
element_back (element_listed {x = x} {xs = xs} {a = a} {rs = rs} b d) = record { octets = x; account = a; others = xs; rows = rs; describes = b; more = d; are = refl }

both_lengths : (x : List ℕ) (others xs : List (List ℕ)) (m n : ℕ) → xs ≡ x ∷ others → length x ≡ m → length (concat others) ≡ n → length (concat xs) ≡ m + n
both_lengths x others xs m n e f g = let l = ap (λ q. length (concat q)) e ∙ length-append x (concat others) in omega (arith, l, f, g)

sequence_length : {s : List Resolved} {e : Bool} {cs : List Component} {vs : Row} {c : Bool} {x : List ℕ} {i : Within} {n : ℕ}
    → ((xs : List (List ℕ)) (rs : Rows) → MembersHaveRows s cs vs xs rs → length (concat xs) ≡ n) → ContentsHaveRows s (a_sequence e cs) (fields vs) c x i → (c ≡ true) × (length x ≡ n)
sequence_length h (leaf_listed l e con) = absurd l
sequence_length h (sequence_listed {xs = xs} {rs = rs} d) = (refl, h xs rs d)

set_length : {s : List Resolved} {e : Bool} {cs : List Component} {vs : Row} {c : Bool} {x : List ℕ} {i : Within} {n : ℕ}
    → ((xs : List (List ℕ)) (rs : Rows) → MembersHaveRows s cs vs xs rs → length (concat xs) ≡ n) → ContentsHaveRows s (a_set e cs) (fields vs) c x i → (c ≡ true) × (length x ≡ n)
set_length h (leaf_listed l e con) = absurd l
set_length h (set_listed {xs = xs} {rs = rs} d at) = (refl, standing_length at ∙ h xs rs d)

sequence_of_length : {s : List Resolved} {z : Constraint} {u : ℕ} {vs : Row} {c : Bool} {x : List ℕ} {i : Within} {n : ℕ}
    → ((xs : List (List ℕ)) (rs : Rows) → ElementsHaveRows s u vs xs rs → length (concat xs) ≡ n) → ContentsHaveRows s (a_sequence_of z u) (list vs) c x i → (c ≡ true) × (length x ≡ n)
sequence_of_length h (leaf_listed l e con) = absurd l
sequence_of_length h (sequence_of_listed {xs = xs} {rs = rs} d) = (refl, h xs rs d)

set_of_length : {s : List Resolved} {z : Constraint} {u : ℕ} {vs : Row} {c : Bool} {x : List ℕ} {i : Within} {n : ℕ}
    → ((xs : List (List ℕ)) (rs : Rows) → ElementsHaveRows s u vs xs rs → length (concat xs) ≡ n) → ContentsHaveRows s (a_set_of z u) (list vs) c x i → (c ≡ true) × (length x ≡ n)
set_of_length h (leaf_listed l e con) = absurd l
set_of_length h (set_of_listed {xs = xs} {rs = rs} d at) = (refl, standing_length at ∙ h xs rs d)

alternative_type : {a b : Alternative} → Some a ≡ Some b → b.type ≡ a.type
alternative_type {a} {b} e = let f : a ≡ b = cc in ap (λ q. q.type) (sym f)

choice_length : {s : List Resolved} {j : ℕ} {e : Bool} {root more : List Alternative} {b : Alternative} {v : AbstractValue} {c : Bool} {x : List ℕ} {i : Within} {n : ℕ}
    → slice_get (root ++ more) j ≡ Some b → ((o : List ℕ) (a : Account) → Describes s b.type v o a → length o ≡ n) → ContentsHaveRows s (a_choice root e more) (alternative j v) c x i → (c ≡ true) × (length x ≡ n)
choice_length g h (leaf_listed l e con) = absurd l
choice_length {s} {v = v} g h (choice_listed {x = x} {a = a} g' d) = (refl, h x a (subst (λ q. Describes s q v x a) (alternative_type (sym g ∙ g')) d))

leaf_length : {s : List Resolved} {k : Kind} {v : AbstractValue} {c : Bool} {x y : List ℕ} {i : Within} → IsLeaf k → LeafHeld s k v y
    → ((w x : AbstractValue) → AlikeBy s k v w → AlikeBy s k v x → AlikeBy s k w x)
    → ((v w : AbstractValue) (x y : List ℕ) → AlikeBy s k v w → Contents Distinguished k v false x → Contents Distinguished k w false y → y ≡ x)
    → ContentsHaveRows s k v c x i → (c ≡ false) × (length x ≡ length y)
leaf_length {k = k} {x = x} {y = y} l h both one (leaf_listed {w = w} l' e con) =
    (leaf_form con, ap length (sym (one w h.w x y (both w h.w e h.same) (subst (λ q. Contents Distinguished k w q x) (leaf_form con) con) h.contents)))
leaf_length l h both one (sequence_listed d) = absurd l
leaf_length l h both one q = absurd l

leaf_inside : {s : List Resolved} {t : ℕ} (tags : List Tag) {k : Kind} {v : AbstractValue} (fs : List Event)
    → ((w x : AbstractValue) → AlikeBy s k v w → AlikeBy s k v x → AlikeBy s k w x)
    → ((v w : AbstractValue) (x y : List ℕ) → AlikeBy s k v w → Contents Distinguished k v false x → Contents Distinguished k w false y → y ≡ x)
    → (tags ≡ [] → ⊥) → LeafStep s k v → Steps s t (body s k ++ ends (length tags)) v fs → Inside s tags k v fs
leaf_inside {s} {t} tags {k} {v} fs both only_one some l d =
    let p = leaf_step_in (subst (λ q. Steps s t (q ++ ends (length tags)) v fs) l.steps d) in
    let h = l.to p.0 p.2 in
    record {
      content = plain (piece p.0 done);
      suits = tt;
      is = p.4 ∙ ap (λ q. puts p.0 ∷ q) (ended (length tags) p.3);
      one = λ e. absurd (some e);
      holds = λ x f m lt.
          let o = one_piece p.0 x m.0 m.1 in
          record {
            inside = leaf_row;
            is = subst (λ q. ContentsHaveRows s k v (is_constructed q) x leaf_row) (sym l.row) (leaf_listed l.is_leaf h.same (subst (λ q. Contents Distinguished k h.w false q) (sym o.0) h.contents));
            rows = λ z. m.2 z ∙ ap (λ q. header_row (row_of k) z 0 [] [] ∷ q) o.1 ∙ leaf_row_is (row_of k) z l.row;
            bare = λ e. absurd (some e);
          };
      as_many = λ c x i a. let r = leaf_length l.is_leaf h both only_one a in (r.0 ∙ sym (ap is_constructed l.row), (let n = r.1 in omega (arith, n)));
    }

next_place : (i j : ℕ) → i + suc j ≡ suc i + j
next_place i j = omega arith

module _ (s : List Resolved) (schema : IsSchema s)
    (turn : (t : ℕ) (v w : AbstractValue) → Alike s t v w → Alike s t w v)
    (follow : (t : ℕ) (v w x : AbstractValue) → Alike s t v w → Alike s t w x → Alike s t v x)
    (levels : (m n t : ℕ) (v w : AbstractValue) → Alike s t v w → ValueIn s n t v → ValueIn s m t w → ValueIn s n t w)
    (header_is : (t : Tag) (c : Bool) (n : ℕ) → n < 2 ^ 64 → HeaderBy Distinguished t c n (shortest_header t c n))
    (only : (t : Tag) (c : Bool) (n : ℕ) (h : List ℕ) → HeaderBy Distinguished t c n h → h ≡ shortest_header t c n)
    (one_leaf : (k : Kind) (v w : AbstractValue) (x y : List ℕ) → AlikeBy s k v w → Contents Distinguished k v false x → Contents Distinguished k w false y → y ≡ x) where
  -- ---- a component of a SEQUENCE

  member_left : {t : ℕ} {c : Component} {cs : List Component} {vs vs' ws : Row} {ss : List Step} {es : List Event}
      → ((xs : List (List ℕ)) (rs : Rows) → MembersHaveRows s cs vs xs rs → LeftListed s c cs vs' xs rs)
      → ((xs : List (List ℕ)) (rs : Rows) → MembersHaveRows s (c ∷ cs) vs' xs rs → (qs : Rows) × MembersHaveRows s cs vs xs qs)
      → (fs : List Event) → MembersListed s t cs vs ws ss fs → es ≡ leaves_out (has_default (need_of c.presence)) ∷ fs → MembersListed s t (c ∷ cs) vs' ws ss es
  member_left {c = c} grow back fs m e =
      let d = has_default (need_of c.presence) in
      record {
        tree = lacking d m.tree;
        left = m.left;
        is = e ∙ ap (λ q. leaves_out d ∷ q) m.is;
        rest = m.rest;
        holds = λ o rs ot lt. let h = m.holds o ot.0 ot.1 lt in (h.0, left_first refl h.1 (grow h.0 h.1.rs h.1.listed) ot.2, h.2);
        as_many = λ xs rs a. let q = back xs rs a in m.as_many xs q.0 q.1;
      }

  member_stood : {t n : ℕ} {c : Component} {cs : List Component} {v : AbstractValue} {vs ws : Row} {ss : List Step} {es : List Event}
      → HasValue s c → ValueIn s n c.type v → (DefaultIn s c v → ⊥)
      → (xs fs : List Event) → ListedOf s c.type v xs → MembersListed s t cs vs ws ss fs → es ≡ xs ++ fs → MembersListed s t (c ∷ cs) (present v vs) ws ss es
  member_stood h b differs xs fs x m e = record {
    tree = join x.tree m.tree;
    left = m.left;
    is = e ∙ ap (λ q. q ++ fs) x.is ∙ ap (λ q. flat x.tree ++ q) m.is ∙ sym (append_assoc (flat x.tree) (flat m.tree) m.left) ∙ ap (λ q. q ++ m.left) (sym (flat_join x.tree m.tree));
    rest = m.rest;
    holds = λ o rs ot lt.
        let j = joined x.tree m.tree o rs ot in
        let l : length o ≡ length j.first + length j.second = ap length j.whole ∙ length-append j.first j.second in
        let k = m.holds j.second j.second_rows j.two (omega (arith, l)) in
        let y = x.holds j.first j.first_rows j.one (omega (arith, l)) in (
          j.first ∷ k.0,
          record {
            rs = written y.account k.1.rs;
            listed = member_listed (λ q. differs (default_from s turn levels h b q)) y.describes k.1.listed;
            are = j.rows ∙ ap (λ q. q ++ j.second_rows) y.rows ∙ ap (λ q. rows_of y.account ++ q) k.1.are;
            counted = rows_join x.tree m.tree ∙ ap (λ q. q + rows_in m.tree) x.one ∙ one_more (rows_in m.tree) ∙ ap suc k.1.counted;
          },
          j.whole ∙ ap (λ q. j.first ++ q) k.2,
        );
    as_many = λ ys rs a.
        let q = stood_back (λ q. differs (default_from s turn levels h b q)) a in
        both_lengths q.octets q.others ys (octets_in x.tree) (octets_in m.tree) q.are (x.as_many q.octets q.account q.describes) (m.as_many q.others q.rows q.more) ∙ sym (octets_join x.tree m.tree);
  }

  member_present : {t n i : ℕ} {c : Component} {cs : List Component} {v : AbstractValue} {vs ws : Row} {ss ts : List Step} {es : List Event}
      → HasValue s c → ValueIn s n c.type v
      → ((xs : List Event) → Steps s c.type (routine_at s c.type) v xs → ListedOf s c.type v xs)
      → ((fs : List Event) → Steps s t ts (fields ws) fs → MembersListed s t cs vs ws ss fs)
      → Present s t i c v [] ts ws es → MembersListed s t (c ∷ cs) (present v vs) ws ss es
  member_present {c = c} h b one others (omitted fs a d e) = member_left (λ xs rs m. omitted_left a m) (λ xs rs m. omitted_back a m) fs (others fs d) e
  member_present h b one others (is_written xs fs differs x d e) = member_stood h b differs xs fs (one xs x) (others fs d) e

  -- ---- a component of a SET

  ranked_left : {t : ℕ} {all : List Component} {c : Component} {cs : List Component} {vs vs' ws : Row} {ss : List Step} {es : List Event}
      → ((xs : List (List ℕ)) (rs : Rows) → MembersHaveRows s cs vs xs rs → LeftListed s c cs vs' xs rs)
      → ((xs : List (List ℕ)) (rs : Rows) → MembersHaveRows s (c ∷ cs) vs' xs rs → (qs : Rows) × MembersHaveRows s cs vs xs qs)
      → (fs : List Event) → RankedListed s t all cs vs ws ss fs → es ≡ leaves_out (has_default (need_of c.presence)) ∷ fs → RankedListed s t all (c ∷ cs) vs' ws ss es
  ranked_left {c = c} grow back fs m e =
      let d = has_default (need_of c.presence) in
      record {
        group = lacking_part d m.group;
        left = m.left;
        is = e ∙ ap (λ q. leaves_out d ∷ q) m.is;
        rest = m.rest;
        holds = λ ps rs a lt. let h = m.holds ps a.0 a.1 lt in left_first refl h (grow (encodings_of ps) h.rs h.listed) a.2;
        as_many = λ xs rs a. let q = back xs rs a in m.as_many xs q.0 q.1;
      }

  ranked_stood : {t n : ℕ} {all : List Component} {c : Component} {cs : List Component} {v : AbstractValue} {vs ws : Row} {ss : List Step} {es : List Event}
      → HasValue s c → ValueIn s n c.type v → (DefaultIn s c v → ⊥)
      → (xs fs : List Event) → ListedOf s c.type v xs → RankedListed s t all cs vs ws ss fs → es ≡ xs ++ ends_member (rank s all c.type) ∷ fs → RankedListed s t all (c ∷ cs) (present v vs) ws ss es
  ranked_stood {all = all} {c = c} {cs = cs} {v = v} {vs = vs} h b differs xs fs x m e = record {
    group = part (rank s all c.type) x.tree m.group;
    left = m.left;
    is = e ∙ ap (λ q. q ++ ends_member (rank s all c.type) ∷ fs) x.is ∙ ap (λ q. flat x.tree ++ ends_member (rank s all c.type) ∷ q) m.is ∙ sym (append_assoc (flat x.tree) (ends_member (rank s all c.type) ∷ flats m.group) m.left);
    rest = m.rest;
    holds = λ ps rs a lt.
        let e' = ap (λ q. length (concat (encodings_of q))) a.6 in
        let l : length (concat (encodings_of ps)) ≡ length a.0 + length (concat (encodings_of a.1)) = e' ∙ length-append a.0 (concat (encodings_of a.1)) in
        let y = x.holds a.0 a.2 a.4 (omega (arith, l)) in
        let k = m.holds a.1 a.3 a.5 (omega (arith, l)) in
        record {
          rs = written y.account k.rs;
          listed = subst (λ q. MembersHaveRows s (c ∷ cs) (present v vs) (encodings_of q) (written y.account k.rs)) (sym a.6) (member_listed (λ q. differs (default_from s turn levels h b q)) y.describes k.listed);
          are = a.7 ∙ ap (λ q. q ++ a.3) y.rows ∙ ap (λ q. rows_of y.account ++ q) k.are;
          counted = ap (λ q. q + rows_among m.group) x.one ∙ one_more (rows_among m.group) ∙ ap suc k.counted;
        };
    as_many = λ ys rs a.
        let q = stood_back (λ q. differs (default_from s turn levels h b q)) a in
        both_lengths q.octets q.others ys (octets_in x.tree) (members_in m.group) q.are (x.as_many q.octets q.account q.describes) (m.as_many q.others q.rows q.more);
  }

  ranked_present : {t n i : ℕ} {all : List Component} {c : Component} {cs : List Component} {v : AbstractValue} {vs ws : Row} {ss ts : List Step} {es : List Event}
      → HasValue s c → ValueIn s n c.type v
      → ((xs : List Event) → Steps s c.type (routine_at s c.type) v xs → ListedOf s c.type v xs)
      → ((fs : List Event) → Steps s t ts (fields ws) fs → RankedListed s t all cs vs ws ss fs)
      → Present s t i c v (ends_member (rank s all c.type) ∷ []) ts ws es → RankedListed s t all (c ∷ cs) (present v vs) ws ss es
  ranked_present {c = c} h b one others (omitted fs a d e) = ranked_left (λ xs rs m. omitted_left a m) (λ xs rs m. omitted_back a m) fs (others fs d) e
  ranked_present h b one others (is_written xs fs differs x d e) = ranked_stood h b differs xs fs (one xs x) (others fs d) e

  -- ---- what is within the headers of lists

  sequence_inside : {t : ℕ} (tags : List Tag) {e : Bool} {cs : List Component} {vs : Row} (fs : List Event) → (tags ≡ [] → ⊥) → MembersListed s t cs vs vs (rest_if e ++ ends (length tags)) fs → Inside s tags (a_sequence e cs) (fields vs) fs
  sequence_inside tags {e} {cs} {vs} fs some m =
      record {
        content = plain m.tree;
        suits = tt;
        is = m.is ∙ ap (λ q. flat m.tree ++ q) (ended (length tags) (rest_in e m.rest));
        one = λ q. absurd (some q);
        holds = λ x f n lt.
            let h = m.holds x n.0 n.1 lt in
            record {
              inside = seq_row h.1.rs;
              is = subst (λ q. ContentsHaveRows s (a_sequence e cs) (fields vs) true q (seq_row h.1.rs)) (sym h.2) (sequence_listed h.1.listed);
              rows = λ z. n.2 z ∙ ap (λ q. a_seq z q ∷ n.0) h.1.counted ∙ ap (λ q. a_seq z (count h.1.rs) ∷ q) h.1.are;
              bare = λ q. absurd (some q);
            };
        as_many = λ c x i a. sequence_length m.as_many a;
      }

  set_inside : {t : ℕ} (tags : List Tag) {e : Bool} {cs : List Component} {vs : Row} (fs : List Event) → (tags ≡ [] → ⊥) → RankedListed s t cs cs vs vs (rest_if e ++ ends (length tags)) fs → Inside s tags (a_set e cs) (fields vs) fs
  set_inside tags {e} {cs} {vs} fs some m =
      record {
        content = grouped by_rank m.group;
        suits = (refl, some);
        is = m.is ∙ ap (λ q. flats m.group ++ q) (ended (length tags) (rest_in e m.rest));
        one = λ q. absurd (some q);
        holds = λ x f n lt.
            let l : length (concat (encodings_of n.0)) ≡ length x = sym (permuted_length n.0 n.1 n.6.same) ∙ ap length (sym n.8) in
            let h = m.holds n.0 n.2 n.5 (omega (arith, l)) in
            record {
              inside = set_row h.rs n.3 n.4;
              is = subst (λ q. ContentsHaveRows s (a_set e cs) (fields vs) true q (set_row h.rs n.3 n.4)) (sym n.8) (set_listed h.listed n.7);
              rows = λ z. n.9 z ∙ ap (λ q. a_set z q n.3 n.4 ∷ n.2) h.counted ∙ ap (λ q. a_set z (count h.rs) n.3 n.4 ∷ q) h.are;
              bare = λ q. absurd (some q);
            };
        as_many = λ c x i a. set_length m.as_many a;
      }

  each_inside : {t : ℕ} (tags : List Tag) {c : Constraint} {u : ℕ} {vs : Row} (fs xs gs : List Event) → (tags ≡ [] → ⊥) → ElementsListed s u vs xs → Steps s t (ends (length tags)) (list vs) gs → fs ≡ xs ++ gs → Inside s tags (a_sequence_of c u) (list vs) fs
  each_inside tags {c} {u} {vs} fs xs gs some m d f' =
      record {
        content = plain m.tree;
        suits = tt;
        is = f' ∙ ap (λ q. q ++ gs) m.is ∙ ap (λ q. flat m.tree ++ q) (ended (length tags) d);
        one = λ q. absurd (some q);
        holds = λ x f n lt.
            let h = m.holds x n.0 n.1 lt in
            record {
              inside = seqof_row h.1.rs;
              is = subst (λ q. ContentsHaveRows s (a_sequence_of c u) (list vs) true q (seqof_row h.1.rs)) (sym h.2) (sequence_of_listed h.1.listed);
              rows = λ z. n.2 z ∙ ap (λ q. a_seqof z q ∷ n.0) h.1.counted ∙ ap (λ q. a_seqof z (count h.1.rs) ∷ q) h.1.are;
              bare = λ q. absurd (some q);
            };
        as_many = λ c x i a. sequence_of_length m.as_many a;
      }

  sorted_inside : {t : ℕ} (tags : List Tag) {c : Constraint} {u : ℕ} {vs : Row} (fs xs gs : List Event) → (tags ≡ [] → ⊥) → PartedListed s u vs xs → Steps s t (ends (length tags)) (list vs) gs → fs ≡ xs ++ gs → Inside s tags (a_set_of c u) (list vs) fs
  sorted_inside tags {c} {u} {vs} fs xs gs some m d f' =
      record {
        content = grouped by_octets m.group;
        suits = (refl, some);
        is = f' ∙ ap (λ q. q ++ gs) m.is ∙ ap (λ q. flats m.group ++ q) (ended (length tags) d);
        one = λ q. absurd (some q);
        holds = λ x f n lt.
            let l : length (concat (encodings_of n.0)) ≡ length x = sym (permuted_length n.0 n.1 n.6.same) ∙ ap length (sym n.8) in
            let h = m.holds n.0 n.2 n.5 (omega (arith, l)) in
            record {
              inside = setof_row h.rs n.3 n.4;
              is = subst (λ q. ContentsHaveRows s (a_set_of c u) (list vs) true q (setof_row h.rs n.3 n.4)) (sym n.8) (set_of_listed h.listed n.7);
              rows = λ z. n.9 z ∙ ap (λ q. a_setof z q n.3 n.4 ∷ n.2) h.counted ∙ ap (λ q. a_setof z (count h.rs) n.3 n.4 ∷ q) h.are;
              bare = λ q. absurd (some q);
            };
        as_many = λ c x i a. set_of_length m.as_many a;
      }

  choice_inside : {t i : ℕ} (tags : List Tag) {e : Bool} {root more : List Alternative} {a : Alternative} {v : AbstractValue} (fs xs gs : List Event) → slice_get (root ++ more) i ≡ Some a → ListedOf s a.type v xs → Steps s t (ends (length tags)) (alternative i v) gs → fs ≡ xs ++ gs → Inside s tags (a_choice root e more) (alternative i v) fs
  choice_inside {i = i} tags fs xs gs g m d f' =
      record {
        content = plain m.tree;
        suits = tt;
        is = f' ∙ ap (λ q. q ++ gs) m.is ∙ ap (λ q. flat m.tree ++ q) (ended (length tags) d);
        one = λ q. m.one;
        holds = λ x f n lt.
            let h = m.holds x n.0 n.1 lt in
            record { inside = wrap_row h.account; is = choice_listed g h.describes; rows = λ z. n.2 z ∙ ap (λ q. a_wrap z ∷ q) h.rows; bare = λ q. (h.account, refl) };
        as_many = λ c x i a. choice_length g m.as_many a;
      }

  -- what isn't a CHOICE has a tag
  tagged : {t : ℕ} {tags : List Tag} {k : Kind} → Is s t tags k → (IsChoice k → ⊥) → tags ≡ [] → ⊥
  tagged {t} {k = k} i differs z = differs (schema.tagged t k (subst (λ q. Is s t q k) z i))

  alike_by : {t : ℕ} {tags : List Tag} {k : Kind} {v w : AbstractValue} → Is s t tags k → Alike s t v w → AlikeBy s k v w
  alike_by {v = v} {w = w} i (alike j a) = subst (λ q. AlikeBy s q v w) (same_kind i j) a

  alike_leaf : {t : ℕ} {tags : List Tag} {k : Kind} {v : AbstractValue} → Is s t tags k → (w x : AbstractValue) → AlikeBy s k v w → AlikeBy s k v x → AlikeBy s k w x
  alike_leaf {t} {v = v} i w x e f = alike_by i (follow t w v x (turn t v w (alike i e)) (alike i f))

  mutual
    describes : {n t : ℕ} {v : AbstractValue} → ValueIn s n t v → (es : List Event) → Steps s t (routine_at s t) v es → ListedOf s t v es
    describes (value_in i a) es d = whole s header_is only i es d (λ fs f. inside i a fs f)

    inside : {n t : ℕ} {tags : List Tag} {k : Kind} {v : AbstractValue} → Is s t tags k → ValueOf s n k v → (fs : List Event) → Steps s t (body s k ++ ends (length tags)) v fs → Inside s tags k v fs
    inside {tags = tags} i (of_leaf f) fs d = let l = leaf_step f in leaf_inside tags fs (alike_leaf i) (one_leaf _) (tagged i l.no_choice) l d
    inside {t = t} {tags = tags} i (of_sequence {e = e} {cs = cs} {vs = vs} a g) fs d =
        sequence_inside tags fs (tagged i (λ h. h)) (of_members vs 0 (schema.sound _ _ _ i).defaults a
        (λ j. ap (component_at vs) (let z : 0 + j ≡ j = omega arith in z))
        (λ j c e. record { tags = tags; kind = _; is = i; at = ap (slice_get cs) (let z : 0 + j ≡ j = omega arith in z) ∙ e })
        (rest_if e ++ ends (length tags)) fs (subst (λ q. Steps s t q (fields vs) fs) (append_assoc (fields_from 0 cs) (rest_if e) (ends (length tags))) d))
    inside {t = t} {tags = tags} i (of_set {e = e} {cs = cs} {vs = vs} a g) fs d =
        set_inside tags fs (tagged i (λ h. h)) (of_ranked cs vs 0 (schema.sound _ _ _ i).0.defaults a
        (λ j. ap (component_at vs) (let z : 0 + j ≡ j = omega arith in z))
        (λ j c e. record { tags = tags; kind = _; is = i; at = ap (slice_get cs) (let z : 0 + j ≡ j = omega arith in z) ∙ e })
        (rest_if e ++ ends (length tags)) fs (subst (λ q. Steps s t q (fields vs) fs) (append_assoc (ranked_from s cs 0 cs) (rest_if e) (ends (length tags))) d))
    inside {tags = tags} i (of_sequence_of a z) fs d =
        let p = each_in d in each_inside tags fs p.0 p.1 (tagged i (λ h. h)) (of_elements a p.0 p.2) p.3 p.4
    inside {tags = tags} i (of_set_of a z) fs d =
        let p = sorted_in d in sorted_inside tags fs p.0 p.1 (tagged i (λ h. h)) (of_parts a p.0 p.2) p.3 p.4
    inside {t = t} {tags = tags} i (of_choice {i = j} {root = root} {more = more} {a = a} {v = w} g b) fs d =
        let p = pick_in d in
        let same : p.0.index ≡ a.type = same_call p.0 (id_of a.type) (sym p.4 ∙ calls_at (root ++ more) (ends (length tags)) j a g) in
        choice_inside tags fs p.1 p.2 g (describes b p.1 (subst (λ q. Steps s q (routine_at s q) w p.1) same p.5))
        (subst (λ q. Steps s t q (alternative j w) p.2) (calls_over (root ++ more) (ends (length tags))) p.6) p.7

    of_members : {n t : ℕ} {cs : List Component} {vs : Row} (ws : Row) (i : ℕ) → AllByRecursion (HasValue s) cs → AreComponents s n cs vs
        → ((j : ℕ) → component_at ws (i + j) ≡ component_at vs j)
        → ((j : ℕ) (c : Component) → slice_get cs j ≡ Some c → Placed s t (i + j) c)
        → (ss : List Step) (es : List Event) → Steps s t (fields_from i cs ++ ss) (fields ws) es → MembersListed s t cs vs ws ss es
    of_members ws i h no_component at placed ss es d = record { tree = done; left = es; is = refl; rest = d; holds = λ o rs ot lt. ([], record { rs = no_row; listed = no_member_listed; are = ot.1; counted = refl }, ot.0); as_many = λ xs rs a. no_octets a }
    of_members {n} {t} ws i h (component_absent {c = c} m a) at placed ss es d =
        let p = absent_in c (ap (component_at ws) (let z : i ≡ i + 0 = omega arith in z) ∙ at 0) (field_in d) in
        member_left (λ xs rs r. absent_left m refl r) (λ xs rs r. absent_back r) p.0
        (of_members ws (suc i) h.1 a (λ j. ap (component_at ws) (sym (next_place i j)) ∙ at (suc j)) (λ j q e. subst (λ z. Placed s t z q) (next_place i j) (placed (suc j) q e)) ss p.0 p.1)
        p.2
    of_members {n} {t} ws i h (component_present {c = c} b a) at placed ss es d =
        member_present h.0 b (λ xs x. describes b xs x)
        (λ fs f. of_members ws (suc i) h.1 a (λ j. ap (component_at ws) (sym (next_place i j)) ∙ at (suc j)) (λ j q e. subst (λ z. Placed s t z q) (next_place i j) (placed (suc j) q e)) ss fs f)
        (present_in (subst (λ z. Placed s t z c) (let z : i + 0 ≡ i = omega arith in z) (placed 0 c refl)) (ap (component_at ws) (let z : i ≡ i + 0 = omega arith in z) ∙ at 0) (field_in d))

    of_ranked : {n t : ℕ} (all : List Component) {cs : List Component} {vs : Row} (ws : Row) (i : ℕ) → AllByRecursion (HasValue s) cs → AreComponents s n cs vs
        → ((j : ℕ) → component_at ws (i + j) ≡ component_at vs j)
        → ((j : ℕ) (c : Component) → slice_get cs j ≡ Some c → Placed s t (i + j) c)
        → (ss : List Step) (es : List Event) → Steps s t (ranked_from s all i cs ++ ss) (fields ws) es → RankedListed s t all cs vs ws ss es
    of_ranked all ws i h no_component at placed ss es d = record {
      group = no_part;
      left = es;
      is = refl;
      rest = d;
      holds = λ ps rs e lt. record { rs = no_row; listed = subst (λ q. MembersHaveRows s [] end (encodings_of q) no_row) (sym e.0) no_member_listed; are = e.1; counted = refl };
      as_many = λ xs rs a. no_octets a;
    }
    of_ranked {n} {t} all ws i h (component_absent {c = c} m a) at placed ss es d =
        let p = absent_in c (ap (component_at ws) (let z : i ≡ i + 0 = omega arith in z) ∙ at 0) (ranked_in d) in
        ranked_left (λ xs rs r. absent_left m refl r) (λ xs rs r. absent_back r) p.0
        (of_ranked all ws (suc i) h.1 a (λ j. ap (component_at ws) (sym (next_place i j)) ∙ at (suc j)) (λ j q e. subst (λ z. Placed s t z q) (next_place i j) (placed (suc j) q e)) ss p.0 p.1)
        p.2
    of_ranked {n} {t} all ws i h (component_present {c = c} b a) at placed ss es d =
        ranked_present h.0 b (λ xs x. describes b xs x)
        (λ fs f. of_ranked all ws (suc i) h.1 a (λ j. ap (component_at ws) (sym (next_place i j)) ∙ at (suc j)) (λ j q e. subst (λ z. Placed s t z q) (next_place i j) (placed (suc j) q e)) ss fs f)
        (present_in (subst (λ z. Placed s t z c) (let z : i + 0 ≡ i = omega arith in z) (placed 0 c refl)) (ap (component_at ws) (let z : i ≡ i + 0 = omega arith in z) ∙ at 0) (ranked_in d))

    of_elements : {n u : ℕ} {vs : Row} → AreElements s n u vs → (es : List Event) → ElementSteps s u vs es → ElementsListed s u vs es
    of_elements no_value es no_steps = record { tree = done; is = refl; holds = λ o rs ot lt. ([], record { rs = no_row; listed = no_element_listed; are = ot.1; counted = refl }, ot.0); as_many = λ xs rs a. no_element_octets a }
    of_elements (one_element b a) es (element_steps {xs = xs} {es = fs} x d e) =
        let y = describes b xs x in
        let m = of_elements a fs d in
        record {
          tree = join y.tree m.tree;
          is = e ∙ ap (λ q. q ++ fs) y.is ∙ ap (λ q. flat y.tree ++ q) m.is ∙ sym (flat_join y.tree m.tree);
          holds = λ o rs ot lt.
              let j = joined y.tree m.tree o rs ot in
              let l : length o ≡ length j.first + length j.second = ap length j.whole ∙ length-append j.first j.second in
              let h = m.holds j.second j.second_rows j.two (omega (arith, l)) in
              let w = y.holds j.first j.first_rows j.one (omega (arith, l)) in (
                j.first ∷ h.0,
                record {
                  rs = written w.account h.1.rs;
                  listed = element_listed w.describes h.1.listed;
                  are = j.rows ∙ ap (λ q. q ++ j.second_rows) w.rows ∙ ap (λ q. rows_of w.account ++ q) h.1.are;
                  counted = rows_join y.tree m.tree ∙ ap (λ q. q + rows_in m.tree) y.one ∙ one_more (rows_in m.tree) ∙ ap suc h.1.counted;
                },
                j.whole ∙ ap (λ q. j.first ++ q) h.2,
              );
          as_many = λ ys rs c.
              let q = element_back c in
              both_lengths q.octets q.others ys (octets_in y.tree) (octets_in m.tree) q.are (y.as_many q.octets q.account q.describes) (m.as_many q.others q.rows q.more) ∙ sym (octets_join y.tree m.tree);
        }

    of_parts : {n u : ℕ} {vs : Row} → AreElements s n u vs → (es : List Event) → PartSteps s u vs es → PartedListed s u vs es
    of_parts {n} {u} no_value es no_part_steps = record { group = no_part; is = refl; holds = λ ps rs e lt. record { rs = no_row; listed = subst (λ q. ElementsHaveRows s u end (encodings_of q) no_row) (sym e.0) no_element_listed; are = e.1; counted = refl }; as_many = λ xs rs a. no_element_octets a }
    of_parts {n} {u} (one_element {v = v} {vs = vs} b a) es (part_steps {xs = xs} {es = fs} x d e) =
        let y = describes b xs x in
        let m = of_parts a fs d in
        record {
          group = part 0 y.tree m.group;
          is = e ∙ ap (λ q. q ++ ends_member 0 ∷ fs) y.is ∙ ap (λ q. flat y.tree ++ ends_member 0 ∷ q) m.is;
          holds = λ ps rs h lt.
              let l : length (concat (encodings_of ps)) ≡ length h.0 + length (concat (encodings_of h.1)) = ap (λ q. length (concat (encodings_of q))) h.6 ∙ length-append h.0 (concat (encodings_of h.1)) in
              let w = y.holds h.0 h.2 h.4 (omega (arith, l)) in
              let k = m.holds h.1 h.3 h.5 (omega (arith, l)) in
              record {
                rs = written w.account k.rs;
                listed = subst (λ q. ElementsHaveRows s u (present v vs) (encodings_of q) (written w.account k.rs)) (sym h.6) (element_listed w.describes k.listed);
                are = h.7 ∙ ap (λ q. q ++ h.3) w.rows ∙ ap (λ q. rows_of w.account ++ q) k.are;
                counted = ap (λ q. q + rows_among m.group) y.one ∙ one_more (rows_among m.group) ∙ ap suc k.counted;
              };
          as_many = λ ys rs c.
              let q = element_back c in
              both_lengths q.octets q.others ys (octets_in y.tree) (members_in m.group) q.are (y.as_many q.octets q.account q.describes) (m.as_many q.others q.rows q.more);
        }

  pub lemma_routine_rows : (t : ℕ) (v : AbstractValue) (es : List Event) → ValueIn s 64 t v → Steps s t (routine_at s t) v es → GivesRows s t v es
  lemma_routine_rows t v es a d = let p = describes a es d in record { tree = p.tree; listed = p.is; account = p.holds; as_many = p.as_many }
