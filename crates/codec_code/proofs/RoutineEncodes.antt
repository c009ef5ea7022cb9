-- The routines of a schema stand for its types.
use Rattle.std.proofs.Common.{◌≡◌, ℕ, zero, suc, ◌+◌, ◌<◌, ◌≤◌, ◌^◌, Bool, true, false, List, [], ◌∷◌, ◌++◌, length, refl, sym, ap, subst, ◌∙◌, arith, append_assoc, append-nil, length-append}
use Rattle.std.specs.Prelude.{Some, slice_get, drop}
use Rattle.std.specs.List.{concat, AllByRecursion}
use Rattle.asn_base.specs.declared.tag.Tag.{Tag}
use Rattle.asn_base.specs.declared.schema.TypeId.{TypeId}
use Rattle.asn_base.specs.Abstract.{AbstractValue, fields, list, alternative, Row, end, absent, present}
use Rattle.asn_base.specs.Types.{Constraint, Alternative, Kind, a_sequence, a_set, a_sequence_of, a_set_of, a_choice, Component, Resolved, Is}
use Rattle.asn_base.specs.Typed.{IsAllowedSize, GroupsAreWhole, members, ValueIn, value_in, ValueOf, of_leaf, of_sequence, of_set, of_sequence_of, of_set_of, of_choice, IsPrimitive, AreComponents, no_component, component_absent, component_present, AreElements, no_element as no_value, one_element}
use Rattle.asn_base.specs.Same.{Alike, alike_sequence, alike_set, alike_sequence_of, alike_set_of, alike_choice, AlikeComponents}
use Rattle.asn_base.specs.Schemas.{HasValue, HasTag, IsSchema}
use Rattle.encodings.specs.Rules.{Distinguished}
use Rattle.encodings.specs.Contents.{Contents}
use Rattle.encodings.specs.Header.{HeaderBy}
use Rattle.encodings.specs.Fewest.{shortest_header}
use Rattle.encodings.specs.Orders.{Merges, merges_none, merges_first}
use Rattle.encodings.specs.Encoding.{ContentsEncode, leaf, sequence, set, sequence_of, set_of, choice, UnknownIf, closed, extensible, no_unknown}
use Rattle.codec_code.specs.declared.step.Step.{Step}
use Rattle.codec_code.specs.declared.step.Step.TheVariants.{Call}
use Rattle.codec_code.specs.Events.{Event, puts, leaves_out, ends_member, by_octets, by_rank, Tree, done, piece, lacking, Members as Group, no_member as no_part, no_component as lacking_part, member as part, flat, flats, SetMember, encodings_of, HasOctets, PartsOf}
use Rattle.codec_code.specs.Routines.{id_of, body, calls, ends, fields_from, ranked_from, rest_if, is_constructed, routine_at, need_of, rank}
use Rattle.codec_code.specs.Steps.{Steps, component_at, has_default, Elements as ElementSteps, no_element as no_steps, element as element_steps, SortedElements as PartSteps, no_part as no_part_steps, part as part_steps}
use Rattle.codec_code.specs.Steps.{IsTheDefault as DefaultIn}
use Rattle.codec_code.proofs.Joins.{joined}
use Rattle.codec_code.specs.proving.Join.{join, flat_join}
use Rattle.codec_code.specs.proving.Inversion.{field_in, ranked_in, leaf_in as leaf_step_in, each_in, sorted_in, pick_in, rest_in, ended}
use Rattle.codec_code.proofs.Leaves.{LeafStep, leaf_step}
use Rattle.codec_code.proofs.Permuted.{permutes_from, all_from, permuted_length}
use Rattle.codec_code.proofs.Ranks.{HasRank, ordered_all, times, times_same, rising, members_at, once}
use Rattle.codec_code.proofs.EventsEncode.{EventsEncode, Inside, plain, grouped, whole, RowIn, row_none, row_absent, row_omitted, row_encodes, has_rank, Rows, rows_none, rows_more, elements_in, set_in}
use Rattle.codec_code.specs.proving.Present.{Placed, Present, omitted, written, present_in, absent_in}

pub none_lacking : {s : List Resolved} {cs : List Component} (e : Bool) → UnknownIf s cs e 0 []
none_lacking false = closed
none_lacking true = extensible no_unknown

merged_alone : (zs : List (List ℕ)) → Merges zs [] zs
merged_alone [] = merges_none
merged_alone (z ∷ zs) = merges_first (merged_alone zs)

-- ---- alternatives

pub calls_at : (as' : List Alternative) (ss : List Step) (i : ℕ) (a : Alternative) → slice_get as' i ≡ Some a → slice_get (calls as' ++ ss) i ≡ Some (Call (id_of a.type))
calls_at [] ss i a e = absurd (cc)
calls_at (x ∷ as') ss zero a e = let f : x ≡ a = cc in ap (λ q. Some (Call (id_of q.type))) f
calls_at (x ∷ as') ss (suc i) a e = calls_at as' ss i a e

pub calls_over : (as' : List Alternative) (ss : List Step) → drop (length as') (calls as' ++ ss) ≡ ss
calls_over [] ss = refl
calls_over (a ∷ as') ss = calls_over as' ss

same_call : (t t' : TypeId) → Some (Call t) ≡ Some (Call t') → t.index ≡ t'.index
same_call t t' e = let f : Call t ≡ Call t' = cc in let g : t ≡ t' = cc in ap (λ q. q.index) g

-- ---- the events of parts of a value

record MembersEncode (s : List Resolved) (t n : ℕ) (cs : List Component) (vs ws : Row) (ss : List Step) (es : List Event) : Type 0 where
  tree : Tree
  left : List Event
  is : es ≡ flat tree ++ left
  rest : Steps s t ss (fields ws) left
  holds : (o : List ℕ) → HasOctets tree o → length o < 2 ^ 64 → (xs : List (List ℕ)) × RowIn s n cs vs xs × (o ≡ concat xs)

record SetMembersEncode (s : List Resolved) (t n : ℕ) (all cs : List Component) (vs ws : Row) (ss : List Step) (es : List Event) : Type 0 where
  group : Group
  left : List Event
  is : es ≡ flats group ++ left
  rest : Steps s t ss (fields ws) left
  holds : (ps : List SetMember) → PartsOf group ps → length (concat (encodings_of ps)) < 2 ^ 64 → RowIn s n cs vs (encodings_of ps) × AllByRecursion (HasRank s all) ps × ((r : ℕ) → times r ps ≤ members_at s all r cs)

record ElementsEncode (s : List Resolved) (n u : ℕ) (vs : Row) (es : List Event) : Type 0 where
  tree : Tree
  is : es ≡ flat tree
  holds : (o : List ℕ) → HasOctets tree o → length o < 2 ^ 64 → (xs : List (List ℕ)) × Rows s n u vs xs × (o ≡ concat xs)

record SortedElementsEncode (s : List Resolved) (n u : ℕ) (vs : Row) (es : List Event) : Type 0 where
  group : Group
  is : es ≡ flats group
  holds : (ps : List SetMember) → PartsOf group ps → length (concat (encodings_of ps)) < 2 ^ 64 → Rows s n u vs (encodings_of ps)

one_piece : (x o : List ℕ) → HasOctets (piece x done) o → o ≡ x
one_piece x o h = h.2 ∙ ap (λ q. x ++ q) h.1 ∙ append-nil x

leaf_inside : {s : List Resolved} {t n : ℕ} (tags : List Tag) {k : Kind} {v : AbstractValue} (fs : List Event) → IsPrimitive k v → LeafStep s k v → Steps s t (body s k ++ ends (length tags)) v fs → Inside s n tags k v fs
leaf_inside {s} {t} tags {k} {v} fs f l d =
    let p = leaf_step_in (subst (λ q. Steps s t (q ++ ends (length tags)) v fs) l.steps d) in
    let h = l.to p.0 p.2 in
    record {
      content = plain (piece p.0 done);
      suits = tt;
      is = p.4 ∙ ap (λ q. puts p.0 ∷ q) (ended (length tags) p.3);
      holds = λ y ot lt. record {
        w = h.w;
        value = of_leaf h.fits;
        same = h.same;
        is = subst (λ q. ContentsEncode s Distinguished k h.w 0 (is_constructed q) y) (sym l.row) (leaf (subst (λ q. Contents Distinguished k h.w false q) (sym (one_piece p.0 y ot)) h.contents));
      };
    }

module _ (s : List Resolved) (schema : IsSchema s)
    (turn : (t : ℕ) (v w : AbstractValue) → Alike s t v w → Alike s t w v)
    (follow : (t : ℕ) (v w x : AbstractValue) → Alike s t v w → Alike s t w x → Alike s t v x)
    (groups : (cs : List Component) (vs ws : Row) → AlikeComponents s cs vs ws → GroupsAreWhole cs vs → GroupsAreWhole cs ws)
    (levels : (m n t : ℕ) (v w : AbstractValue) → Alike s t v w → ValueIn s n t v → ValueIn s m t w → ValueIn s n t w)
    (header : (t : Tag) (c : Bool) (n : ℕ) → n < 2 ^ 64 → HeaderBy Distinguished t c n (shortest_header t c n)) where
  -- ---- a component of a SEQUENCE

  member_absent : {t n : ℕ} {c : Component} {cs : List Component} {vs ws : Row} {ss : List Step} {es : List Event}
      → ((xs : List (List ℕ)) → RowIn s n cs vs xs → RowIn s n (c ∷ cs) (absent vs) xs)
      → (fs : List Event) → MembersEncode s t n cs vs ws ss fs → (d : Bool) → es ≡ leaves_out d ∷ fs → MembersEncode s t n (c ∷ cs) (absent vs) ws ss es
  member_absent grow fs m d e = record {
    tree = lacking d m.tree;
    left = m.left;
    is = e ∙ ap (λ q. leaves_out d ∷ q) m.is;
    rest = m.rest;
    holds = λ o ot lt. let h = m.holds o ot lt in (h.0, grow h.0 h.1, h.2);
  }

  member_omitted : {t n : ℕ} {c : Component} {cs : List Component} {v : AbstractValue} {vs ws : Row} {ss : List Step} {es : List Event}
      → HasValue s c → ValueIn s n c.type v → DefaultIn s c v
      → (fs : List Event) → MembersEncode s t n cs vs ws ss fs → (d : Bool) → es ≡ leaves_out d ∷ fs → MembersEncode s t n (c ∷ cs) (present v vs) ws ss es
  member_omitted h b a fs m d e = record {
    tree = lacking d m.tree;
    left = m.left;
    is = e ∙ ap (λ q. leaves_out d ∷ q) m.is;
    rest = m.rest;
    holds = λ o ot lt. let k = m.holds o ot lt in (k.0, row_omitted s turn follow levels h b a k.1, k.2);
  }

  member_encodes : {t n : ℕ} {c : Component} {cs : List Component} {v : AbstractValue} {vs ws : Row} {ss : List Step} {es : List Event}
      → HasValue s c → ValueIn s n c.type v → (DefaultIn s c v → ⊥)
      → (xs fs : List Event) → EventsEncode s n c.type v xs → MembersEncode s t n cs vs ws ss fs → es ≡ xs ++ fs → MembersEncode s t n (c ∷ cs) (present v vs) ws ss es
  member_encodes h b differs xs fs x m e = record {
    tree = join x.tree m.tree;
    left = m.left;
    is = e ∙ ap (λ q. q ++ fs) x.is ∙ ap (λ q. flat x.tree ++ q) m.is ∙ sym (append_assoc (flat x.tree) (flat m.tree) m.left) ∙ ap (λ q. q ++ m.left) (sym (flat_join x.tree m.tree));
    rest = m.rest;
    holds = λ o ot lt.
        let j = joined x.tree m.tree o ot in
        let l : length o ≡ length j.first + length j.second = ap length j.whole ∙ length-append j.first j.second in
        let k = m.holds j.second j.two (omega (arith, l)) in
        (j.first ∷ k.0, row_encodes s turn follow levels h b differs (x.holds j.first j.one (omega (arith, l))) k.1, j.whole ∙ ap (λ q. j.first ++ q) k.2);
  }

  member_present : {t n i : ℕ} {c : Component} {cs : List Component} {v : AbstractValue} {vs ws : Row} {ss ts : List Step} {es : List Event}
      → HasValue s c → ValueIn s n c.type v
      → ((xs : List Event) → Steps s c.type (routine_at s c.type) v xs → EventsEncode s n c.type v xs)
      → ((fs : List Event) → Steps s t ts (fields ws) fs → MembersEncode s t n cs vs ws ss fs)
      → Present s t i c v [] ts ws es → MembersEncode s t n (c ∷ cs) (present v vs) ws ss es
  member_present {c = c} h b one others (omitted fs a d e) = member_omitted h b a fs (others fs d) (has_default (need_of c.presence)) e
  member_present h b one others (written xs fs differs x d e) = member_encodes h b differs xs fs (one xs x) (others fs d) e

  -- ---- a component of a SET

  ranked_absent : {t n : ℕ} {all : List Component} {c : Component} {cs : List Component} {vs vs' ws : Row} {ss : List Step} {es : List Event}
      → ((xs : List (List ℕ)) → RowIn s n cs vs xs → RowIn s n (c ∷ cs) vs' xs)
      → (fs : List Event) → SetMembersEncode s t n all cs vs ws ss fs → (d : Bool) → es ≡ leaves_out d ∷ fs → SetMembersEncode s t n all (c ∷ cs) vs' ws ss es
  ranked_absent grow fs m d e = record {
    group = lacking_part d m.group;
    left = m.left;
    is = e ∙ ap (λ q. leaves_out d ∷ q) m.is;
    rest = m.rest;
    holds = λ ps a lt. let h = m.holds ps a lt in (grow (encodings_of ps) h.0, h.1, λ r. let z = h.2 r in omega (arith, z));
  }

  set_member_encodes : {t n : ℕ} {all : List Component} {c : Component} {cs : List Component} {v : AbstractValue} {vs ws : Row} {ss : List Step} {es : List Event}
      → HasValue s c → HasTag s c.type → ValueIn s n c.type v → (DefaultIn s c v → ⊥)
      → (xs fs : List Event) → EventsEncode s n c.type v xs → SetMembersEncode s t n all cs vs ws ss fs → es ≡ xs ++ ends_member (rank s all c.type) ∷ fs → SetMembersEncode s t n all (c ∷ cs) (present v vs) ws ss es
  set_member_encodes {n = n} {all = all} {c = c} {cs = cs} {v = v} {vs = vs} h g b differs xs fs x m e = record {
    group = part (rank s all c.type) x.tree m.group;
    left = m.left;
    is = e ∙ ap (λ q. q ++ ends_member (rank s all c.type) ∷ fs) x.is ∙ ap (λ q. flat x.tree ++ ends_member (rank s all c.type) ∷ q) m.is ∙ sym (append_assoc (flat x.tree) (ends_member (rank s all c.type) ∷ flats m.group) m.left);
    rest = m.rest;
    holds = λ ps a lt.
        let e' = ap (λ q. length (concat (encodings_of q))) a.4 in
        let l : length (concat (encodings_of ps)) ≡ length a.0 + length (concat (encodings_of a.1)) = e' ∙ length-append a.0 (concat (encodings_of a.1)) in
        let y = x.holds a.0 a.2 (omega (arith, l)) in
        let k = m.holds a.1 a.3 (omega (arith, l)) in (
          subst (λ q. RowIn s n (c ∷ cs) (present v vs) (encodings_of q)) (sym a.4) (row_encodes s turn follow levels h b differs y k.0),
          subst (λ q. AllByRecursion (HasRank s all) q) (sym a.4) (has_rank g y.is, k.1),
          λ r. let z = k.2 r in let w = ap (times r) a.4 in omega (arith, z, w),
        );
  }

  ranked_present : {t n i : ℕ} {all : List Component} {c : Component} {cs : List Component} {v : AbstractValue} {vs ws : Row} {ss ts : List Step} {es : List Event}
      → HasValue s c → HasTag s c.type → ValueIn s n c.type v
      → ((xs : List Event) → Steps s c.type (routine_at s c.type) v xs → EventsEncode s n c.type v xs)
      → ((fs : List Event) → Steps s t ts (fields ws) fs → SetMembersEncode s t n all cs vs ws ss fs)
      → Present s t i c v (ends_member (rank s all c.type) ∷ []) ts ws es → SetMembersEncode s t n all (c ∷ cs) (present v vs) ws ss es
  ranked_present {c = c} h g b one others (omitted fs a d e) = ranked_absent (λ xs r. row_omitted s turn follow levels h b a r) fs (others fs d) (has_default (need_of c.presence)) e
  ranked_present h g b one others (written xs fs differs x d e) = set_member_encodes h g b differs xs fs (one xs x) (others fs d) e

  -- ---- what is within the headers of lists

  sequence_inside : {t n : ℕ} (tags : List Tag) {e : Bool} {cs : List Component} {vs : Row} (fs : List Event) → GroupsAreWhole cs vs → MembersEncode s t n cs vs vs (rest_if e ++ ends (length tags)) fs → Inside s n tags (a_sequence e cs) (fields vs) fs
  sequence_inside tags {e} {cs} {vs} fs g m =
      record {
        content = plain m.tree;
        suits = tt;
        is = m.is ∙ ap (λ q. flat m.tree ++ q) (ended (length tags) (rest_in e m.rest));
        holds = λ x ot lt.
            let h = m.holds x ot lt in
            let r = h.1 in
            record {
              w = fields r.row;
              value = of_sequence r.values (groups cs vs r.row r.same g);
              same = alike_sequence r.same;
              is = subst (λ q. ContentsEncode s Distinguished (a_sequence e cs) (fields r.row) 0 true q) (ap concat (append-nil h.0) ∙ sym h.2) (sequence r.are (none_lacking e));
            };
      }

  set_inside : {t n : ℕ} (tags : List Tag) {e : Bool} {cs : List Component} {vs : Row} (fs : List Event) → (tags ≡ [] → ⊥) → ((r : ℕ) → members_at s cs r cs ≤ 1) → GroupsAreWhole cs vs → SetMembersEncode s t n cs cs vs vs (rest_if e ++ ends (length tags)) fs → Inside s n tags (a_set e cs) (fields vs) fs
  set_inside tags {e} {cs} {vs} fs some single g m =
      record {
        content = grouped by_rank m.group;
        suits = (refl, some);
        is = m.is ∙ ap (λ q. flats m.group ++ q) (ended (length tags) (rest_in e m.rest));
        holds = λ x ot lt.
            let ps = ot.0 in
            let qs = ot.1 in
            let perm = permutes_from ps qs ot.3.same in
            let l : length (concat (encodings_of ps)) ≡ length x = permuted_length perm ∙ ap length (sym ot.4) in
            let h = m.holds ps ot.2 (omega (arith, l)) in
            let r = h.0 in
            record {
              w = fields r.row;
              value = of_set r.values (groups cs vs r.row r.same g);
              same = alike_set r.same;
              is = subst (λ q. ContentsEncode s Distinguished (a_set e cs) (fields r.row) 0 true q) (sym ot.4)
                  (set r.are perm (ordered_all s cs qs (all_from (HasRank s cs) ps qs ot.3.same h.1)
                  (rising qs (λ r. let z = h.2 r in let o = single r in let w = times_same r ps qs ot.3.same in omega (arith, z, o, w)) ot.3.in_order)) (none_lacking e) (merged_alone (encodings_of qs)));
            };
      }

  each_inside : {t n : ℕ} (tags : List Tag) {c : Constraint} {u : ℕ} {vs : Row} (fs xs gs : List Event) → IsAllowedSize c (members vs) → ElementsEncode s n u vs xs → Steps s t (ends (length tags)) (list vs) gs → fs ≡ xs ++ gs → Inside s n tags (a_sequence_of c u) (list vs) fs
  each_inside tags {c} {u} {vs} fs xs gs z m d f =
      record {
        content = plain m.tree;
        suits = tt;
        is = f ∙ ap (λ q. q ++ gs) m.is ∙ ap (λ q. flat m.tree ++ q) (ended (length tags) d);
        holds = λ x ot lt.
            let h = m.holds x ot lt in
            let r = elements_in h.1 in
            record {
              w = list r.row;
              value = of_sequence_of r.values (subst (IsAllowedSize c) r.count z);
              same = alike_sequence_of r.same;
              is = subst (λ q. ContentsEncode s Distinguished (a_sequence_of c u) (list r.row) 0 true q) (sym h.2) (sequence_of r.are);
            };
      }

  sorted_inside : {t n : ℕ} (tags : List Tag) {c : Constraint} {u : ℕ} {vs : Row} (fs xs gs : List Event) → (tags ≡ [] → ⊥) → IsAllowedSize c (members vs) → SortedElementsEncode s n u vs xs → Steps s t (ends (length tags)) (list vs) gs → fs ≡ xs ++ gs → Inside s n tags (a_set_of c u) (list vs) fs
  sorted_inside tags {c} {u} {vs} fs xs gs some z m d f =
      record {
        content = grouped by_octets m.group;
        suits = (refl, some);
        is = f ∙ ap (λ q. q ++ gs) m.is ∙ ap (λ q. flats m.group ++ q) (ended (length tags) d);
        holds = λ x ot lt.
            let ps = ot.0 in
            let qs = ot.1 in
            let perm = permutes_from ps qs ot.3.same in
            let l : length (concat (encodings_of ps)) ≡ length x = permuted_length perm ∙ ap length (sym ot.4) in
            let r = set_in (m.holds ps ot.2 (omega (arith, l))) perm in
            record {
              w = list r.row;
              value = of_set_of r.values (subst (IsAllowedSize c) r.count z);
              same = alike_set_of r.same;
              is = subst (λ q. ContentsEncode s Distinguished (a_set_of c u) (list r.row) 0 true q) (sym ot.4) (set_of r.are ot.3.in_order);
            };
      }

  choice_inside : {t n i : ℕ} (tags : List Tag) {e : Bool} {root more : List Alternative} {a : Alternative} {v : AbstractValue} (fs xs gs : List Event) → slice_get (root ++ more) i ≡ Some a → EventsEncode s n a.type v xs → Steps s t (ends (length tags)) (alternative i v) gs → fs ≡ xs ++ gs → Inside s n tags (a_choice root e more) (alternative i v) fs
  choice_inside {i = i} tags fs xs gs g m d f =
      record {
        content = plain m.tree;
        suits = tt;
        is = f ∙ ap (λ q. q ++ gs) m.is ∙ ap (λ q. flat m.tree ++ q) (ended (length tags) d);
        holds = λ x ot lt. let r = m.holds x ot lt in record { w = alternative i r.w; value = of_choice g r.value; same = alike_choice g r.same; is = choice g r.is };
      }

  -- a list that isn't a CHOICE has a tag
  set_tagged : {t : ℕ} {tags : List Tag} {e : Bool} {cs : List Component} → Is s t tags (a_set e cs) → tags ≡ [] → ⊥
  set_tagged {t} {e = e} {cs = cs} i z = schema.tagged t (a_set e cs) (subst (λ q. Is s t q (a_set e cs)) z i)

  set_of_tagged : {t u : ℕ} {tags : List Tag} {c : Constraint} → Is s t tags (a_set_of c u) → tags ≡ [] → ⊥
  set_of_tagged {t} {u} {c = c} i z = schema.tagged t (a_set_of c u) (subst (λ q. Is s t q (a_set_of c u)) z i)

  next_place : (i j : ℕ) → i + suc j ≡ suc i + j
  next_place i j = omega arith

  mutual
    pub describes : {n t : ℕ} {v : AbstractValue} → ValueIn s n t v → (es : List Event) → Steps s t (routine_at s t) v es → EventsEncode s n t v es
    describes (value_in i a) es d = whole s header i es d (λ fs f. inside i a fs f)

    inside : {n t : ℕ} {tags : List Tag} {k : Kind} {v : AbstractValue} → Is s t tags k → ValueOf s n k v → (fs : List Event) → Steps s t (body s k ++ ends (length tags)) v fs → Inside s n tags k v fs
    inside {tags = tags} i (of_leaf f) fs d = leaf_inside tags fs f (leaf_step f) d
    inside {t = t} {tags = tags} i (of_sequence {e = e} {cs = cs} {vs = vs} a g) fs d =
        sequence_inside tags fs g (of_members vs 0 (schema.sound _ _ _ i).defaults a
        (λ j. ap (component_at vs) (let z : 0 + j ≡ j = omega arith in z))
        (λ j c e. record { tags = tags; kind = _; is = i; at = ap (slice_get cs) (let z : 0 + j ≡ j = omega arith in z) ∙ e })
        (rest_if e ++ ends (length tags)) fs (subst (λ q. Steps s t q (fields vs) fs) (append_assoc (fields_from 0 cs) (rest_if e) (ends (length tags))) d))
    inside {t = t} {tags = tags} i (of_set {e = e} {cs = cs} {vs = vs} a g) fs d =
        set_inside tags fs (set_tagged i) (once s cs (schema.distinct_tags _ _ _ i) (schema.sound _ _ _ i).1) g (of_ranked cs vs 0 (schema.sound _ _ _ i).0.defaults (schema.sound _ _ _ i).1 a
        (λ j. ap (component_at vs) (let z : 0 + j ≡ j = omega arith in z))
        (λ j c e. record { tags = tags; kind = _; is = i; at = ap (slice_get cs) (let z : 0 + j ≡ j = omega arith in z) ∙ e })
        (rest_if e ++ ends (length tags)) fs (subst (λ q. Steps s t q (fields vs) fs) (append_assoc (ranked_from s cs 0 cs) (rest_if e) (ends (length tags))) d))
    inside {tags = tags} i (of_sequence_of a z) fs d =
        let p = each_in d in each_inside tags fs p.0 p.1 z (of_elements a p.0 p.2) p.3 p.4
    inside {tags = tags} i (of_set_of a z) fs d =
        let p = sorted_in d in sorted_inside tags fs p.0 p.1 (set_of_tagged i) z (of_parts a p.0 p.2) p.3 p.4
    inside {t = t} {tags = tags} i (of_choice {i = j} {root = root} {more = more} {a = a} {v = w} g b) fs d =
        let p = pick_in d in
        let same : p.0.index ≡ a.type = same_call p.0 (id_of a.type) (sym p.4 ∙ calls_at (root ++ more) (ends (length tags)) j a g) in
        choice_inside tags fs p.1 p.2 g (describes b p.1 (subst (λ q. Steps s q (routine_at s q) w p.1) same p.5))
        (subst (λ q. Steps s t q (alternative j w) p.2) (calls_over (root ++ more) (ends (length tags))) p.6) p.7

    of_members : {n t : ℕ} {cs : List Component} {vs : Row} (ws : Row) (i : ℕ) → AllByRecursion (HasValue s) cs → AreComponents s n cs vs
        → ((j : ℕ) → component_at ws (i + j) ≡ component_at vs j)
        → ((j : ℕ) (c : Component) → slice_get cs j ≡ Some c → Placed s t (i + j) c)
        → (ss : List Step) (es : List Event) → Steps s t (fields_from i cs ++ ss) (fields ws) es → MembersEncode s t n cs vs ws ss es
    of_members {n} ws i h no_component at placed ss es d = record { tree = done; left = es; is = refl; rest = d; holds = λ o ot lt. ([], row_none s n, ot) }
    of_members {n} {t} ws i h (component_absent {c = c} m a) at placed ss es d =
        let p = absent_in c (ap (component_at ws) (let z : i ≡ i + 0 = omega arith in z) ∙ at 0) (field_in d) in
        member_absent (λ xs r. row_absent m r) p.0
        (of_members ws (suc i) h.1 a (λ j. ap (component_at ws) (sym (next_place i j)) ∙ at (suc j)) (λ j q e. subst (λ z. Placed s t z q) (next_place i j) (placed (suc j) q e)) ss p.0 p.1)
        (has_default (need_of c.presence)) p.2
    of_members {n} {t} ws i h (component_present {c = c} b a) at placed ss es d =
        member_present h.0 b (λ xs x. describes b xs x)
        (λ fs f. of_members ws (suc i) h.1 a (λ j. ap (component_at ws) (sym (next_place i j)) ∙ at (suc j)) (λ j q e. subst (λ z. Placed s t z q) (next_place i j) (placed (suc j) q e)) ss fs f)
        (present_in (subst (λ z. Placed s t z c) (let z : i + 0 ≡ i = omega arith in z) (placed 0 c refl)) (ap (component_at ws) (let z : i ≡ i + 0 = omega arith in z) ∙ at 0) (field_in d))

    of_ranked : {n t : ℕ} (all : List Component) {cs : List Component} {vs : Row} (ws : Row) (i : ℕ) → AllByRecursion (HasValue s) cs → AllByRecursion (λ c. HasTag s c.type) cs → AreComponents s n cs vs
        → ((j : ℕ) → component_at ws (i + j) ≡ component_at vs j)
        → ((j : ℕ) (c : Component) → slice_get cs j ≡ Some c → Placed s t (i + j) c)
        → (ss : List Step) (es : List Event) → Steps s t (ranked_from s all i cs ++ ss) (fields ws) es → SetMembersEncode s t n all cs vs ws ss es
    of_ranked {n} all ws i h g no_component at placed ss es d = record {
      group = no_part;
      left = es;
      is = refl;
      rest = d;
      holds = λ ps e lt. (subst (λ q. RowIn s n [] end (encodings_of q)) (sym e) (row_none s n), subst (λ q. AllByRecursion (HasRank s all) q) (sym e) tt, λ r. let w = ap (times r) e in omega (arith, w));
    }
    of_ranked {n} {t} all ws i h g (component_absent {c = c} m a) at placed ss es d =
        let p = absent_in c (ap (component_at ws) (let z : i ≡ i + 0 = omega arith in z) ∙ at 0) (ranked_in d) in
        ranked_absent (λ xs r. row_absent m r) p.0
        (of_ranked all ws (suc i) h.1 g.1 a (λ j. ap (component_at ws) (sym (next_place i j)) ∙ at (suc j)) (λ j q e. subst (λ z. Placed s t z q) (next_place i j) (placed (suc j) q e)) ss p.0 p.1)
        (has_default (need_of c.presence)) p.2
    of_ranked {n} {t} all ws i h g (component_present {c = c} b a) at placed ss es d =
        ranked_present h.0 g.0 b (λ xs x. describes b xs x)
        (λ fs f. of_ranked all ws (suc i) h.1 g.1 a (λ j. ap (component_at ws) (sym (next_place i j)) ∙ at (suc j)) (λ j q e. subst (λ z. Placed s t z q) (next_place i j) (placed (suc j) q e)) ss fs f)
        (present_in (subst (λ z. Placed s t z c) (let z : i + 0 ≡ i = omega arith in z) (placed 0 c refl)) (ap (component_at ws) (let z : i ≡ i + 0 = omega arith in z) ∙ at 0) (ranked_in d))

    of_elements : {n u : ℕ} {vs : Row} → AreElements s n u vs → (es : List Event) → ElementSteps s u vs es → ElementsEncode s n u vs es
    of_elements no_value es no_steps = record { tree = done; is = refl; holds = λ o ot lt. ([], rows_none, ot) }
    of_elements (one_element b a) es (element_steps {xs = xs} {es = fs} x d e) =
        let y = describes b xs x in
        let m = of_elements a fs d in
        record {
          tree = join y.tree m.tree;
          is = e ∙ ap (λ q. q ++ fs) y.is ∙ ap (λ q. flat y.tree ++ q) m.is ∙ sym (flat_join y.tree m.tree);
          holds = λ o ot lt.
              let j = joined y.tree m.tree o ot in
              let l : length o ≡ length j.first + length j.second = ap length j.whole ∙ length-append j.first j.second in
              let h = m.holds j.second j.two (omega (arith, l)) in
              (j.first ∷ h.0, rows_more (y.holds j.first j.one (omega (arith, l))) h.1, j.whole ∙ ap (λ q. j.first ++ q) h.2);
        }

    of_parts : {n u : ℕ} {vs : Row} → AreElements s n u vs → (es : List Event) → PartSteps s u vs es → SortedElementsEncode s n u vs es
    of_parts {n} {u} no_value es no_part_steps = record { group = no_part; is = refl; holds = λ ps e lt. subst (λ q. Rows s n u end (encodings_of q)) (sym e) rows_none }
    of_parts {n} {u} (one_element {v = v} {vs = vs} b a) es (part_steps {xs = xs} {es = fs} x d e) =
        let y = describes b xs x in
        let m = of_parts a fs d in
        record {
          group = part 0 y.tree m.group;
          is = e ∙ ap (λ q. q ++ ends_member 0 ∷ fs) y.is ∙ ap (λ q. flat y.tree ++ ends_member 0 ∷ q) m.is;
          holds = λ ps h lt.
              let l : length (concat (encodings_of ps)) ≡ length h.0 + length (concat (encodings_of h.1)) = ap (λ q. length (concat (encodings_of q))) h.4 ∙ length-append h.0 (concat (encodings_of h.1)) in
              subst (λ q. Rows s n u (present v vs) (encodings_of q)) (sym h.4) (rows_more (y.holds h.0 h.2 (omega (arith, l))) (m.holds h.1 h.3 (omega (arith, l))));
        }
