-- An encoding by the distinguished rules has an account.
use Rattle.std.proofs.Common.{arith, ◌≡◌, ◌⊎◌, inl, inr, ⊎_elim, ℕ, zero, suc, ◌<◌, Bool, true, List, [], ◌∷◌, length, map, refl, sym, ap, subst, ◌∙◌, length-append}
use Rattle.std.specs.Prelude.{Some, slice_get}
use Rattle.std.specs.List.{concat}
use Rattle.asn_base.specs.declared.tag.Tag.{Tag}
use Rattle.asn_base.specs.Abstract.{AbstractValue, fields, Row}
use Rattle.asn_base.specs.Tags.{IsChoice, AllTagged}
use Rattle.asn_base.specs.Types.{Kind, a_sequence, a_set, Component, Resolved, Is}
use Rattle.asn_base.specs.Same.{Alike, alike, AlikeBy, equal, alike_sequence, alike_set, alike_sequence_of, alike_set_of, alike_choice, AlikeComponents, no_components, both_absent, both_present, first_default, second_default, AlikeElements, no_elements, alike_element, AlikeInAnyOrder, none_left, pair}
use Rattle.encodings.specs.Rules.{Distinguished}
use Rattle.encodings.specs.Header.{identifier, HeaderBy}
use Rattle.encodings.specs.Orders.{EncodingInserted as ListInserted, here as list_here, there as list_there, Permutes, permutes_none, permutes_more}
use Rattle.encodings.specs.Encoding.{Framed, bare, innermost, outer, EncodesTo, says, ContentsEncode, leaf, sequence, set, sequence_of, set_of, choice, Members, no_member, left_out, member, Elements, no_element, element}
use Rattle.encodings.specs.Account.{Numbers, Account, header, Inside, wrap_row, seq_row, set_row, Rows, no_row, absent_row, default_row, written, HeaderHasNumbers, Headed, headed_bare, headed_innermost, headed_outer, ArePlacedAt, Describes, describes, ContentsHaveRows, leaf_listed, sequence_listed, set_listed, sequence_of_listed, set_of_listed, choice_listed, MembersHaveRows, no_member_listed, absent_listed, absent_default_listed, default_listed, member_listed, ElementsHaveRows, no_element_listed, element_listed}
use Rattle.encodings.proofs.LeafLaws.{contents_leaf}
use Rattle.encodings.proofs.Least.{holds_at, framed_at, alternative_type, says_at, none_unknown, no_more, merged_alone, take_out}
use Rattle.asn_base.specs.proving.OneKind.{same_tags, same_kind}
use Rattle.encodings.proofs.Encodable.{default_or_not}
use Rattle.encodings.specs.proving.LeafForms.{no_leaf}
use Rattle.encodings.specs.proving.Placing.{same_some}

-- ---- headers

listed_header : (t : Tag) (c : Bool) (n : ℕ) (h : List ℕ) → HeaderBy Distinguished t c n h → (z : Numbers) × HeaderHasNumbers t c n h z
listed_header t c n h a =
    let i = identifier t.class t.number c in
    let z : Numbers = record { identifier = length i; size = length a.header.size; contents = n } in
    (z, record { is_header = a; identifier_counted = refl; size_counted = sym (ap length a.header.whole ∙ length-append i a.header.size); contents_counted = refl })

-- what is within headers if there are no tags
abbrev WithinNone : List Tag → Inside → Type 0
WithinNone ts i = ts ≡ [] → (a : Account) × (i ≡ wrap_row a)

headed : {ts : List Tag} {c : Bool} {x o : List ℕ} (i : Inside) → WithinNone ts i → Framed Distinguished ts c x o → (a : Account) × Headed ts c x i o a
headed {c = c} {x = x} i w bare = let r = w refl in (r.0, subst (λ q. Headed [] c x q x r.0) (sym r.1) headed_bare)
headed {x = x} i w (innermost {t = t} {c = c} {h = h} a) = let z = listed_header t c (length x) h a in (header z.0 i, headed_innermost z.1)
headed i w (outer {t = t} {h = h} {y = y} f a) =
    let r = headed i (λ e. absurd (let l = ap length e in omega arith)) f in
    let z = listed_header t true (length y) h a in
    (header z.0 (wrap_row r.0), headed_outer r.1 z.1)

-- ---- places

-- each place from j on one further
abbrev raise : ℕ → ℕ → ℕ
raise zero k = suc k
raise (suc j) zero = zero
raise (suc j) (suc k) = suc (raise j k)

-- 0 put in at j
abbrev put_0 : ℕ → List ℕ → List ℕ
put_0 zero q = zero ∷ q
put_0 (suc j) [] = zero ∷ []
put_0 (suc j) (k ∷ q) = k ∷ put_0 j q

at_raised : (j k : ℕ) (q : List ℕ) → j < suc (length q) → slice_get (put_0 j q) (raise j k) ≡ slice_get q k
at_raised zero k q h = refl
at_raised (suc j) k [] h = absurd (omega arith)
at_raised (suc j) zero (i ∷ q) h = refl
at_raised (suc j) (suc k) (i ∷ q) h = at_raised j k q (omega arith)

at_put : (j : ℕ) (q : List ℕ) → j < suc (length q) → slice_get (put_0 j q) j ≡ Some 0
at_put zero q h = refl
at_put (suc j) [] h = absurd (omega arith)
at_put (suc j) (k ∷ q) h = at_put j q (omega arith)

put_length : (j : ℕ) (q : List ℕ) → length (put_0 j q) ≡ suc (length q)
put_length zero q = refl
put_length (suc j) [] = refl
put_length (suc j) (k ∷ q) = ap suc (put_length j q)

-- a place is j, or one of the others
raised_or : (j k : ℕ) → (k ≡ j) ⊎ ((l : ℕ) × (raise j l ≡ k))
raised_or zero zero = inl refl
raised_or zero (suc k) = inr (k, refl)
raised_or (suc j) zero = inr (zero, refl)
raised_or (suc j) (suc k) = ⊎_elim (λ e. inl (ap suc e)) (λ r. inr (suc r.0, ap suc r.1)) (raised_or j k)

-- the place at which it was put in
record PutAt (x : List ℕ) (ys zs : List (List ℕ)) : Type 0 where
  place : ℕ
  within : place < suc (length ys)
  it : slice_get zs place ≡ Some x
  others : (k : ℕ) → slice_get zs (raise place k) ≡ slice_get ys k
  longer : length zs ≡ suc (length ys)

put_at : {x : List ℕ} {ys zs : List (List ℕ)} → ListInserted x ys zs → PutAt x ys zs
put_at list_here = record { place = zero; within = omega arith; it = refl; others = λ k. refl; longer = refl }
put_at {x} (list_there {y = y} {xs = xs} {ys = zs} i) =
    let r = put_at i in
    record { place = suc r.place; within = (let w = r.within in omega arith); it = r.it; others = others r; longer = ap suc r.longer }
  where
    others : (r : PutAt x xs zs) (k : ℕ) → slice_get (y ∷ zs) (raise (suc r.place) k) ≡ slice_get (y ∷ xs) k
    others r zero = refl
    others r (suc k) = r.others k

record PlacedAt (xs zs : List (List ℕ)) : Type 0 where
  places : List ℕ
  inverse : List ℕ
  stand : ArePlacedAt places inverse xs zs

get_map : (f : ℕ → ℕ) (p : List ℕ) (i j : ℕ) → slice_get (map f p) i ≡ Some j → (k : ℕ) × (slice_get p i ≡ Some k) × (f k ≡ j)
get_map f [] i j e = absurd (cc)
get_map f (k ∷ p) zero j e = (k, refl, same_some e)
get_map f (k ∷ p) (suc i) j e = get_map f p i j e

map_get : (f : ℕ → ℕ) (p : List ℕ) (i j : ℕ) → slice_get p i ≡ Some j → slice_get (map f p) i ≡ Some (f j)
map_get f [] i j e = absurd (cc)
map_get f (k ∷ p) zero j e = ap (λ q. Some (f q)) (same_some e)
map_get f (k ∷ p) (suc i) j e = map_get f p i j e

map_length : (f : ℕ → ℕ) (p : List ℕ) → length (map f p) ≡ length p
map_length f [] = refl
map_length f (k ∷ p) = ap suc (map_length f p)

module _ {x : List ℕ} {xs ys zs : List (List ℕ)} (s : PlacedAt xs ys) (at : PutAt x ys zs) where
  first_places : List ℕ
  first_places = at.place ∷ map (raise at.place) s.places

  first_inverse : List ℕ
  first_inverse = put_0 at.place (map suc s.inverse)

  in_time : at.place < suc (length (map suc s.inverse))
  in_time =
      let w = at.within in
      let l : length (map suc s.inverse) ≡ length ys = map_length suc s.inverse ∙ s.stand.are_places.each_place ∙ sym s.stand.as_many in
      omega arith

  there : (i j : ℕ) → slice_get first_places i ≡ Some j → slice_get first_inverse j ≡ Some i
  unfolding first_places first_inverse
  there zero j e =
      ap (slice_get first_inverse) (sym (same_some e)) ∙ at_put at.place (map suc s.inverse) in_time
  there (suc i) j e =
      let r = get_map (raise at.place) s.places i j e in
      ap (slice_get first_inverse) (sym r.2) ∙ at_raised at.place r.0 (map suc s.inverse) in_time ∙ map_get suc s.inverse r.0 i (s.stand.are_places.there i r.0 r.1)

  back : (i j : ℕ) → slice_get first_inverse j ≡ Some i → slice_get first_places i ≡ Some j
  unfolding first_places first_inverse
  back i j e = ⊎_elim at_place at_other (raised_or at.place j)
    where
      at_place : j ≡ at.place → slice_get first_places i ≡ Some j
      at_place f =
          let z : 0 ≡ i = same_some (sym (at_put at.place (map suc s.inverse) in_time) ∙ ap (slice_get first_inverse) (sym f) ∙ e) in
          ap (slice_get first_places) (sym z) ∙ ap Some (sym f)

      at_other : (l : ℕ) × (raise at.place l ≡ j) → slice_get first_places i ≡ Some j
      at_other f =
          let m = get_map suc s.inverse f.0 i (sym (at_raised at.place f.0 (map suc s.inverse) in_time) ∙ ap (slice_get first_inverse) f.1 ∙ e) in
          ap (slice_get first_places) (sym m.2) ∙ map_get (raise at.place) s.places m.0 f.0 (s.stand.are_places.back m.0 f.0 m.1) ∙ ap Some f.1

  each : (i j : ℕ) → slice_get first_places i ≡ Some j → slice_get zs j ≡ slice_get (x ∷ xs) i
  unfolding first_places
  each zero j e = ap (slice_get zs) (sym (same_some e)) ∙ at.it
  each (suc i) j e =
      let r = get_map (raise at.place) s.places i j e in
      ap (slice_get zs) (sym r.2) ∙ at.others r.0 ∙ s.stand.each i r.0 r.1

  one_placing_more : PlacedAt (x ∷ xs) zs
  unfolding first_places first_inverse
  one_placing_more = record {
    places = first_places;
    inverse = first_inverse;
    stand = record {
      are_places = record {
        each_member = ap suc (map_length (raise at.place) s.places ∙ s.stand.are_places.each_member);
        each_place = put_length at.place (map suc s.inverse) ∙ ap suc (map_length suc s.inverse ∙ s.stand.are_places.each_place);
        there = there;
        back = back;
      };
      as_many = at.longer ∙ ap suc s.stand.as_many;
      each = each;
    };
  }

nothing_at : (i j : ℕ) {P : Type 0} → slice_get {X = ℕ} [] i ≡ Some j → P
nothing_at i j e = absurd (cc)

placing_of : {xs zs : List (List ℕ)} → Permutes xs zs → PlacedAt xs zs
placing_of permutes_none = record { places = []; inverse = []; stand = record { are_places = record { each_member = refl; each_place = refl; there = λ i j. nothing_at i j; back = λ i j. nothing_at j i }; as_many = refl; each = λ i j. nothing_at i j } }
placing_of (permutes_more p i) = one_placing_more (placing_of p) (put_at i)

-- ---- accounts

record MembersListed (s : List Resolved) (cs : List Component) (vs : Row) (xs : List (List ℕ)) : Type 0 where
  rows : Rows
  listed : MembersHaveRows s cs vs xs rows

record ElementsListed (s : List Resolved) (u : ℕ) (vs : Row) (xs : List (List ℕ)) : Type 0 where
  rows : Rows
  listed : ElementsHaveRows s u vs xs rows

-- in the order of another value
record SetListed (s : List Resolved) (u : ℕ) (vs : Row) (xs : List (List ℕ)) : Type 0 where
  list : List (List ℕ)
  rows : Rows
  listed : ElementsHaveRows s u vs list rows
  permutes : Permutes list xs

record WithinListed (s : List Resolved) (k : Kind) (v : AbstractValue) (c : Bool) (x : List ℕ) : Type 0 where
  inside : Inside
  listed : ContentsHaveRows s k v c x inside
  wrapped : IsChoice k → (a : Account) × (inside ≡ wrap_row a)

not_choice : {s : List Resolved} {k : Kind} {v : AbstractValue} {c : Bool} {x : List ℕ} {i : Inside} → (IsChoice k → ⊥) → ContentsHaveRows s k v c x i → WithinListed s k v c x
not_choice {i = i} n d = record { inside = i; listed = d; wrapped = λ p. absurd (n p) }

module _ (s : List Resolved) (turn : (t : ℕ) (v w : AbstractValue) → Alike s t v w → Alike s t w v) (follow : (t : ℕ) (v w x : AbstractValue) → Alike s t v w → Alike s t w x → Alike s t v x) (all : AllTagged s) where
  mutual
    accounted : {t j : ℕ} {v w : AbstractValue} {o : List ℕ} → EncodesTo s Distinguished t w j o → j ≡ 0 → Alike s t v w → (a : Account) × Describes s t v o a
    accounted {t} (says i h f) z (alike {tags = tags} {k = k} j e) =
        let m = accounted_within (holds_at (same_kind j i) h) z e in
        let r = headed m.inside (λ n. m.wrapped (all t k (subst (λ q. Is s t q k) n j))) (framed_at (same_tags j i) f) in
        (r.0, describes j m.listed r.1)

    accounted_within : {k : Kind} {j : ℕ} {v w : AbstractValue} {c : Bool} {x : List ℕ} → ContentsEncode s Distinguished k w j c x → j ≡ 0 → AlikeBy s k v w → WithinListed s k v c x
    accounted_within (leaf con) z e = not_choice (λ p. no_leaf p con) (leaf_listed (contents_leaf con) e con)
    accounted_within (sequence ms u) z (equal l) = absurd l
    accounted_within {v = v} (sequence {xs = xs} {us = us} ms u) z (alike_sequence {e = e} {cs = cs} {vs = vs} a) =
        let m = members_accounted ms (omega arith) a in
        not_choice (λ p. p) (subst (λ q. ContentsHaveRows s (a_sequence e cs) (fields vs) true q (seq_row m.rows)) (sym (no_more xs us (none_unknown u (omega arith)))) (sequence_listed m.listed))
    accounted_within (set ms p st u m) z (equal l) = absurd l
    accounted_within (set {zs = zs} ms p st u m) z (alike_set {e = e} {cs = cs} {vs = vs} a) =
        let r = members_accounted ms (omega arith) a in
        let q = placing_of p in
        not_choice (λ n. n) (subst (λ y. ContentsHaveRows s (a_set e cs) (fields vs) true (concat y) (set_row r.rows q.places q.inverse)) (sym (merged_alone m (none_unknown u (omega arith)))) (set_listed r.listed q.stand))
    accounted_within (sequence_of es) z (equal l) = absurd l
    accounted_within (sequence_of es) z (alike_sequence_of a) = let m = elements_accounted es z a in not_choice (λ p. p) (sequence_of_listed m.listed)
    accounted_within (set_of es st) z (equal l) = absurd l
    accounted_within (set_of es st) z (alike_set_of a) =
        let m = set_accounted es z a in
        let q = placing_of m.permutes in
        not_choice (λ p. p) (set_of_listed m.listed q.stand)
    accounted_within (choice g b) z (equal l) = absurd l
    accounted_within (choice {x = x} g b) z (alike_choice f a) =
        let r = accounted (says_at (alternative_type f g) b) z a in
        record { inside = wrap_row r.0; listed = choice_listed f r.1; wrapped = λ p. (r.0, refl) }

    members_accounted : {cs : List Component} {ws : Row} {j : ℕ} {xs : List (List ℕ)} → Members s Distinguished cs ws j xs → j ≡ 0 → {vs : Row} → AlikeComponents s cs vs ws → MembersListed s cs vs xs
    members_accounted no_member z no_components = record { rows = no_row; listed = no_member_listed }
    members_accounted (left_out {c = c} m ms) z (both_absent a) =
        let r = members_accounted ms z a in
        ⊎_elim
        (λ d. record { rows = default_row r.rows; listed = absent_default_listed d.0 d.1 r.listed })
        (λ n. record { rows = absent_row r.rows; listed = absent_listed n r.listed })
        (default_or_not c.presence)
    members_accounted (left_out m ms) z (second_default {d = d} e sm a) =
        let r = members_accounted ms z a in
        record { rows = default_row r.rows; listed = default_listed (d, e, sm) r.listed }
    members_accounted (member {c = c} {w = w} b nd ms) z (both_present {v = v} sm a) =
        let r = members_accounted ms (omega arith) a in
        let t = accounted b (omega arith) sm in
        record { rows = written t.0 r.rows; listed = member_listed (λ d. nd (omega arith) (d.0, d.1, follow c.type w v d.0 (turn c.type v w sm) d.2)) t.1 r.listed }
    members_accounted (member {c = c} {w = w} b nd ms) z (first_default {d = d} e sm a) = absurd (nd (omega arith) (d, e, turn c.type d w sm))

    elements_accounted : {u : ℕ} {ws : Row} {j : ℕ} {xs : List (List ℕ)} → Elements s Distinguished u ws j xs → j ≡ 0 → {vs : Row} → AlikeElements s u vs ws → ElementsListed s u vs xs
    elements_accounted no_element z no_elements = record { rows = no_row; listed = no_element_listed }
    elements_accounted (element b es) z (alike_element sm a) =
        let r = elements_accounted es (omega arith) a in
        let t = accounted b (omega arith) sm in
        record { rows = written t.0 r.rows; listed = element_listed t.1 r.listed }

    set_accounted : {u : ℕ} {ws : Row} {j : ℕ} {xs : List (List ℕ)} → Elements s Distinguished u ws j xs → j ≡ 0 → {vs : Row} → AlikeInAnyOrder s u vs ws → SetListed s u vs xs
    set_accounted no_element z none_left = record { list = []; rows = no_row; listed = no_element_listed; permutes = permutes_none }
    set_accounted es z (pair sm a at) =
        let q = take_out at es in
        let e = q.sum in
        let r = set_accounted q.rest (omega arith) a in
        let t = accounted q.it (omega arith) sm in
        record { list = q.y ∷ r.list; rows = written t.0 r.rows; listed = element_listed t.1 r.listed; permutes = permutes_more r.permutes q.at }

  pub has_account : (t : ℕ) (v w : AbstractValue) (o : List ℕ) → Alike s t v w → EncodesTo s Distinguished t w 0 o → (a : Account) × Describes s t v o a
  has_account t v w o e d = accounted d refl e
