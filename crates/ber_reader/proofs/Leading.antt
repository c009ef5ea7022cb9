-- The way to the innermost value that isn't one of its type, among the tokens that show the value.
use Rattle.std.proofs.Common.{arith, ◌≡◌, ◌⊎◌, inl, inr, ℕ, zero, suc, ◌+◌, ◌<◌, true, false, List, [], ◌∷◌, ◌++◌, map, refl, sym, ap, subst, ◌∙◌, append_assoc}
use Rattle.std.proofs.lemmas.List.{append-nil, map-append}
use Rattle.std.specs.Prelude.{Some, None, Result, IfOk, length, replicate, slice_get}
use Rattle.asn_base.specs.declared.schema.TypeId.{TypeId}
use Rattle.asn_base.specs.Abstract.{AbstractValue, boolean, integer, enumerated, bits, octets, text, null, oid, relative_oid, fields, list, alternative, Row, end, absent, present}
use Rattle.asn_base.specs.Schemas.{components}
use Rattle.asn_base.specs.Types.{TypeNumber, Kind, a_null, a_boolean, an_integer, an_enumerated, a_bit_string, a_named_bit_string, an_octet_string, an_object_identifier, a_relative_oid, a_utf8_string, a_restricted_string, a_sequence, a_set, a_sequence_of, a_set_of, a_choice, Alternative, Component, Resolved, Is}
use Rattle.asn_base.specs.declared.tag.Tag.{Tag}
use Rattle.encodings.specs.declared.leaf_kind.LeafKind.{LeafKind}
use Rattle.codec_code.specs.declared.step.Step.TheVariants.{Leaf}
use Rattle.codec_code.specs.Routines.{id_of, body}
use Rattle.octet_answers.specs.States.{State, Token, component, chosen, begun, ended, held, passed}
use Rattle.laws_reading.specs.TokensShow.{TokensShow, shows, ShowsOf, shows_leaf, shows_sequence, shows_set, shows_sequence_of, shows_set_of, shows_choice, ShowsFields, no_field, absent_field, present_field, ShowsMixed, nothing_mixed, passed_mixed, component_mixed, ShowsElements, no_element_shown, element_shown, with_at}
use Rattle.ber_reader.specs.declared.open.OpenValue.{OpenValue}
use Rattle.ber_reader.specs.declared.open.Part.{Part}
use Rattle.ber_reader.specs.declared.open.Part.TheVariants as a_part
use Rattle.ber_reader.specs.Opened.{opened, with_part, part_or, entered, after_part, on_last, but_last, opens, opens_after, opens_from}
use Rattle.ber_reader.specs.Paths.{begun_in, on_path, Leads, BeginsBefore, no_token, leads_here, leads_on, none_begins, AreOpenBefore}
use Rattle.ber_reader.specs.Stops.{IsAt, IsEntered, IsStop}
use Rattle.ber_reader.specs.declared.stop.ErrorPosition.{ErrorPosition}
use Rattle.ber_reader.specs.Judged.{Piece, piece, Placed, placed, kind_at, element_of, alternatives, component_pieces, element_pieces, parts, FirstWrong, wrong_here, right_here, IsOpenAt, Innermost, is_itself, is_within, IsPathToWrong, Extends, IsBeforeWrong}
use Rattle.ber_reader.specs.Readings.{IsBeforeInnermost}
use Rattle.ber_reader.proofs.Plain.{none_some, some_same, cons_nil, front_or, rest_of}
use Rattle.ber_reader.proofs.Opened.{on_last_one, but_last_one}
use Rattle.ber_reader.proofs.Rows.{at_row, blank_none}

-- ---- the last of the open values

opens_more : (os : List OpenValue) (xs ys : List Token) → opens_from os (xs ++ ys) ≡ opens_from (opens_from os xs) ys
opens_more os [] ys = refl
opens_more os (x ∷ xs) ys = opens_more (opens_after os x) xs ys

-- ---- tokens of whole values

-- the innermost open value stays so
record Stays (os : List OpenValue) (o : OpenValue) (ts : List Token) : Type 0 where
  last : OpenValue
  same : last.ty ≡ o.ty
  stays : opens_from (os ++ o ∷ []) ts ≡ os ++ last ∷ []

stays_on : {os : List OpenValue} {o : OpenValue} {xs : List Token} (ys : List Token) → (a : Stays os o xs) → Stays os a.last ys → Stays os o (xs ++ ys)
stays_on {os} {o} {xs} ys a b = record {
  last = b.last;
  same = b.same ∙ a.same;
  stays = opens_more (os ++ o ∷ []) xs ys ∙ ap (λ q. opens_from q ys) a.stays ∙ b.stays;
}

stays_as : {os : List OpenValue} {o : OpenValue} {xs ys : List Token} → ys ≡ xs → Stays os o xs → Stays os o ys
stays_as {os} {o} e a = subst (Stays os o) (sym e) a

abbrev emitted_part : (os : List OpenValue) (o : OpenValue) (i : ℕ) → Stays os o (component i ∷ [])
emitted_part os o i = record { last = with_part (Some (a_part.Component i)) o; same = refl; stays = on_last_one (with_part (Some (a_part.Component i))) os o }

passed_over : (os : List OpenValue) (o : OpenValue) (n : ℕ) → opens_from (os ++ o ∷ []) (replicate n passed) ≡ os ++ o ∷ []
passed_over os o zero = refl
passed_over os o (suc n) = passed_over os o n

mutual
  -- after a whole value the part that it is was decoded
  through : {s : List Resolved} {t : TypeNumber} {w : AbstractValue} {xs : List Token} → TokensShow s t w xs → (os : List OpenValue) (o : OpenValue) → opens_from (os ++ o ∷ []) xs ≡ os ++ after_part o ∷ []
  through {t = t} (shows {ts = ts} i h e) os o =
      let inner = within h (os ++ entered o ∷ []) (opened (id_of t)) in
      ap (opens_from (os ++ o ∷ [])) e
      ∙ ap (λ q. opens_from (q ++ opened (id_of t) ∷ []) (ts ++ ended ∷ [])) (on_last_one entered os o)
      ∙ opens_more ((os ++ entered o ∷ []) ++ opened (id_of t) ∷ []) ts (ended ∷ [])
      ∙ ap (λ q. on_last after_part (but_last q)) inner.stays
      ∙ ap (on_last after_part) (but_last_one (os ++ entered o ∷ []) inner.last)
      ∙ on_last_one after_part os (entered o)

  within : {s : List Resolved} {k : Kind} {w : AbstractValue} {ts : List Token} → ShowsOf s k w ts → (os : List OpenValue) (o : OpenValue) → Stays os o ts
  within (shows_leaf levels l b c) os o = record { last = o; same = refl; stays = refl }
  within (shows_sequence {ts = ts} n f e) os o =
      let a = within_fields f os o in
      stays_as e (stays_on (replicate n passed) a (record { last = a.last; same = refl; stays = passed_over os a.last n }))
  within (shows_set m) os o = within_mixed m os o
  within (shows_sequence_of m) os o = within_elements m os o
  within (shows_set_of m) os o = within_elements m os o
  within (shows_choice {i = i} {ts = ts} f h) os o =
      let emitted = with_part (Some (a_part.Alternative i)) o in
      record { last = after_part emitted; same = refl; stays = ap (λ q. opens_from q ts) (on_last_one (with_part (Some (a_part.Alternative i))) os o) ∙ through h os emitted }

  within_fields : {s : List Resolved} {i : ℕ} {cs : List Component} {ws : Row} {ts : List Token} → ShowsFields s i cs ws ts → (os : List OpenValue) (o : OpenValue) → Stays os o ts
  within_fields no_field os o = record { last = o; same = refl; stays = refl }
  within_fields (absent_field f) os o = within_fields f os o
  within_fields (present_field {i = i} {xs = xs} {ts = ts} x f e) os o =
      let a = emitted_part os o i in
      let b : Stays os a.last xs = record { last = after_part a.last; same = refl; stays = through x os a.last } in
      stays_as e (stays_on (xs ++ ts) a (stays_on ts b (within_fields f os b.last)))

  within_mixed : {s : List Resolved} {cs : List Component} {ws : Row} {ts : List Token} → ShowsMixed s cs ws ts → (os : List OpenValue) (o : OpenValue) → Stays os o ts
  within_mixed nothing_mixed os o = record { last = o; same = refl; stays = refl }
  within_mixed (passed_mixed m) os o = let a = within_mixed m os o in record { last = a.last; same = a.same; stays = a.stays }
  within_mixed (component_mixed {i = i} {xs = xs} {ts = ts} f g x m v e) os o =
      let a = emitted_part os o i in
      let b : Stays os a.last xs = record { last = after_part a.last; same = refl; stays = through x os a.last } in
      stays_as e (stays_on (xs ++ ts) a (stays_on ts b (within_mixed m os b.last)))

  within_elements : {s : List Resolved} {u : TypeNumber} {ws : Row} {ts : List Token} → ShowsElements s u ws ts → (os : List OpenValue) (o : OpenValue) → Stays os o ts
  within_elements no_element_shown os o = record { last = o; same = refl; stays = refl }
  within_elements (element_shown {xs = xs} {ts = ts} x m e) os o =
      let b : Stays os o xs = record { last = after_part o; same = refl; stays = through x os o } in
      stays_as e (stays_on ts b (within_elements m os b.last))

-- no value is open after a whole one that nothing is around
pub closed : {s : List Resolved} {t : TypeNumber} {w : AbstractValue} {xs : List Token} → TokensShow s t w xs → opens xs ≡ []
closed {t = t} (shows {ts = ts} i h e) =
    let inner = within h [] (opened (id_of t)) in
    ap opens e
    ∙ opens_more (opened (id_of t) ∷ []) ts (ended ∷ [])
    ∙ ap (λ q. on_last after_part (but_last q)) inner.stays

-- the end of a message that was read, where no value is open
pub at_last : {o : List ℕ} {u w : ErrorPosition} {z : State} → z.here.at ≡ length o → opens z.emitted ≡ [] → IsAt o u z → IsEntered u w → (w.place ≡ length o) × (w.values.items ≡ [])
at_last p n a e = (e.place ∙ a.place ∙ p, e.values ∙ ap (on_last entered) (a.values ∙ n))

-- ---- a part among them

-- tokens that show a part, and what is open before them
record HasPart (s : List Resolved) (q : Placed) (os : List OpenValue) (o : OpenValue) (ts : List Token) : Type 0 where
  before : List Token
  inner : List Token
  following : List Token
  whole : ts ≡ before ++ (inner ++ following)
  shown : TokensShow s q.piece.type q.piece.value inner
  round : OpenValue
  same : round.ty ≡ o.ty
  is_part : part_or round.part round.read ≡ Some q.part
  opens_round : opens_from (os ++ o ∷ []) before ≡ os ++ round ∷ []

part_after : {s : List Resolved} {q : Placed} {os : List OpenValue} {o : OpenValue} {xs ts : List Token} (ys : List Token) → ts ≡ xs ++ ys → (a : Stays os o xs) → HasPart s q os a.last ys → HasPart s q os o ts
part_after {os = os} {o = o} {xs = xs} ys e a p = record {
  before = xs ++ p.before;
  inner = p.inner;
  following = p.following;
  whole = e ∙ ap (λ z. xs ++ z) p.whole ∙ sym (append_assoc xs p.before (p.inner ++ p.following));
  shown = p.shown;
  round = p.round;
  same = p.same ∙ a.same;
  is_part = p.is_part;
  opens_round = opens_more (os ++ o ∷ []) xs p.before ∙ ap (λ z. opens_from z p.before) a.stays ∙ p.opens_round;
}

part_before : {s : List Resolved} {q : Placed} {os : List OpenValue} {o : OpenValue} {xs ts : List Token} (ys : List Token) → ts ≡ xs ++ ys → HasPart s q os o xs → HasPart s q os o ts
part_before {xs = xs} ys e p = record {
  before = p.before;
  inner = p.inner;
  following = p.following ++ ys;
  whole = e ∙ ap (λ z. z ++ ys) p.whole ∙ append_assoc p.before (p.inner ++ p.following) ys ∙ ap (λ z. p.before ++ z) (append_assoc p.inner p.following ys);
  shown = p.shown;
  round = p.round;
  same = p.same;
  is_part = p.is_part;
  opens_round = p.opens_round;
}

-- the part that begins, and the token before it, if there is one
part_here : {s : List Resolved} {os : List OpenValue} {o : OpenValue} {p : Part} {t : TypeNumber} {w : AbstractValue} {xs ts : List Token} (ys : List Token) → ts ≡ xs ++ ys → part_or o.part o.read ≡ Some p → TokensShow s t w xs → HasPart s (placed p t w) os o ts
part_here {o = o} {xs = xs} ys e f x = record { before = []; inner = xs; following = ys; whole = e; shown = x; round = o; same = refl; is_part = f; opens_round = refl }

none_first : {A : Type 0} {s : List Resolved} {q : Placed} {ps : List Placed} → ps ≡ [] → FirstWrong s ps (Some q) → A
none_first {A} {s} {q} e f = by (subst (λ z. FirstWrong s z (Some q)) e f)
  where
    by : FirstWrong s [] (Some q) → A
    by g = elim g [ ]

field_part : {s : List Resolved} {i : ℕ} {cs : List Component} {ws : Row} {ts : List Token} {q : Placed} → ShowsFields s i cs ws ts → FirstWrong s (component_pieces i cs ws) (Some q) → (os : List OpenValue) (o : OpenValue) → HasPart s q os o ts
field_part no_field f os o = elim f [ ]
field_part (absent_field g) f os o = field_part g f os o
field_part (present_field {i = i} {xs = xs} {ts = ts} x g e) (wrong_here n) os o =
    part_after (xs ++ ts) e (emitted_part os o i) (part_here ts refl refl x)
field_part (present_field {i = i} {xs = xs} {ts = ts} x g e) (right_here v f) os o =
    let a = emitted_part os o i in
    let b : Stays os a.last xs = record { last = after_part a.last; same = refl; stays = through x os a.last } in
    part_after (xs ++ ts) e a (part_after ts refl b (field_part g f os b.last))

element_part : {s : List Resolved} {i : ℕ} {u : TypeNumber} {ws : Row} {ts : List Token} {q : Placed} → ShowsElements s u ws ts → FirstWrong s (element_pieces i u ws) (Some q) → (os : List OpenValue) (o : OpenValue) → o.part ≡ None → o.read ≡ i → HasPart s q os o ts
element_part no_element_shown f os o n m = elim f [ ]
element_part (element_shown {xs = xs} {ts = ts} x g e) (wrong_here w) os o n m = part_here ts e (ap (λ z. part_or z o.read) n ∙ ap (λ z. Some (a_part.Element z)) m) x
element_part (element_shown {xs = xs} {ts = ts} x g e) (right_here v f) os o n m =
    let b : Stays os o xs = record { last = after_part o; same = refl; stays = through x os o } in
    part_after ts e b (element_part g f os b.last refl (ap suc m))

-- the component at a place
record AtPlace (i : ℕ) (cs : List Component) (ws : Row) (q : Placed) : Type 0 where
  place : ℕ
  component : Component
  value : AbstractValue
  has : slice_get cs place ≡ Some component
  is_at : at_row ws place ≡ Some value
  is : q ≡ placed (a_part.Component (i + place)) component.type value

placed_later : {i : ℕ} {cs : List Component} {c : Component} {vs ws : Row} {q : Placed} → ((j : ℕ) → at_row vs (suc j) ≡ at_row ws j) → AtPlace (suc i) cs ws q → AtPlace i (c ∷ cs) vs q
placed_later {i} h a = record {
  place = suc a.place;
  component = a.component;
  value = a.value;
  has = a.has;
  is_at = h a.place ∙ a.is_at;
  is = a.is ∙ (let e : suc i + a.place ≡ i + suc a.place = omega arith in ap (λ z. placed (a_part.Component z) a.component.type a.value) e);
}

at_place : {s : List Resolved} {q : Placed} (i : ℕ) (cs : List Component) (ws : Row) → FirstWrong s (component_pieces i cs ws) (Some q) → AtPlace i cs ws q
at_place i [] ws f = elim f [ ]
at_place i (c ∷ cs) end f = elim f [ ]
at_place i (c ∷ cs) (absent ws) f = placed_later (λ j. refl) (at_place (suc i) cs ws f)
at_place i (c ∷ cs) (present w ws) (wrong_here n) = record {
  place = 0;
  component = c;
  value = w;
  has = refl;
  is_at = refl;
  is = (let e : i ≡ i + 0 = omega arith in ap (λ z. placed (a_part.Component z) c.type w) e);
}
at_place i (c ∷ cs) (present w ws) (right_here v f) = placed_later (λ j. refl) (at_place (suc i) cs ws f)

-- a value in a row was put there, or was in it before
at_with : {v : AbstractValue} (ws : Row) (i j : ℕ) (w : AbstractValue) → at_row (with_at ws i w) j ≡ Some v → ((i ≡ j) × (w ≡ v)) ⊎ (at_row ws j ≡ Some v)
at_with end i j w e = none_some e
at_with (absent ws) zero zero w e = inl (refl, some_same e)
at_with (absent ws) zero (suc j) w e = inr e
at_with (present x ws) zero zero w e = inr e
at_with (present x ws) zero (suc j) w e = inr e
at_with (absent ws) (suc i) zero w e = none_some e
at_with (present x ws) (suc i) zero w e = inr e
at_with {v = v} (absent ws) (suc i) (suc j) w e = later (at_with ws i j w e)
  where
    later : ((i ≡ j) × (w ≡ v)) ⊎ (at_row ws j ≡ Some v) → ((suc i ≡ suc j) × (w ≡ v)) ⊎ (at_row ws j ≡ Some v)
    later (inl p) = inl (ap suc p.0, p.1)
    later (inr p) = inr p
at_with {v = v} (present x ws) (suc i) (suc j) w e = later (at_with ws i j w e)
  where
    later : ((i ≡ j) × (w ≡ v)) ⊎ (at_row ws j ≡ Some v) → ((suc i ≡ suc j) × (w ≡ v)) ⊎ (at_row ws j ≡ Some v)
    later (inl p) = inl (ap suc p.0, p.1)
    later (inr p) = inr p

mixed_part : {s : List Resolved} {cs : List Component} {ws : Row} {ts : List Token} (j : ℕ) (c : Component) (v : AbstractValue) → slice_get cs j ≡ Some c → at_row ws j ≡ Some v → ShowsMixed s cs ws ts → (os : List OpenValue) (o : OpenValue) → HasPart s (placed (a_part.Component j) c.type v) os o ts
mixed_part {cs = cs} j c v h r nothing_mixed os o = none_some (sym (blank_none cs j) ∙ r)
mixed_part j c v h r (passed_mixed {ts = ts} m) os o =
    part_after {xs = passed ∷ []} ts refl (record { last = o; same = refl; stays = refl }) (mixed_part j c v h r m os o)
mixed_part {s} {cs} {ts = all} j c v h r (component_mixed {i = i} {c = d} {w = w} {ws = ws} {xs = xs} {ts = ts} f g x m z e) os o =
    by (λ p q. mixed_part j c v h p m os q) (at_with ws i j w (ap (λ q. at_row q j) (sym z) ∙ r))
  where
    here : (i ≡ j) → (w ≡ v) → HasPart s (placed (a_part.Component j) c.type v) os o all
    here p q =
        let same : d ≡ c = some_same (sym f ∙ ap (slice_get cs) p ∙ h) in
        let y : TokensShow s c.type v xs = subst (λ k. TokensShow s k.type v xs) same (subst (λ k. TokensShow s d.type k xs) q x) in
        part_after (xs ++ ts) e (emitted_part os o i) (part_here ts refl (ap (λ k. Some (a_part.Component k)) p) y)

    by : (at_row ws j ≡ Some v → (q : OpenValue) → HasPart s (placed (a_part.Component j) c.type v) os q ts) → ((i ≡ j) × (w ≡ v)) ⊎ (at_row ws j ≡ Some v) → HasPart s (placed (a_part.Component j) c.type v) os o all
    by rest (inl p) = here p.0 p.1
    by rest (inr p) =
        let a = emitted_part os o i in
        let b : Stays os a.last xs = record { last = after_part a.last; same = refl; stays = through x os a.last } in
        part_after (xs ++ ts) e a (part_after ts refl b (rest p b.last))

-- a kind whose values hold no others
record IsBare (k : Kind) : Type 0 where
  no_components : components k ≡ []
  no_elements : element_of k ≡ None
  no_alternatives : alternatives k ≡ []

leaf_bare : (s : List Resolved) (k : Kind) (l : LeafKind) → body s k ≡ Leaf l ∷ [] → IsBare k
leaf_bare s a_boolean l e = record { no_components = refl; no_elements = refl; no_alternatives = refl }
leaf_bare s (an_integer c) l e = record { no_components = refl; no_elements = refl; no_alternatives = refl }
leaf_bare s (an_enumerated r x m) l e = record { no_components = refl; no_elements = refl; no_alternatives = refl }
leaf_bare s (a_bit_string c) l e = record { no_components = refl; no_elements = refl; no_alternatives = refl }
leaf_bare s (a_named_bit_string bs) l e = record { no_components = refl; no_elements = refl; no_alternatives = refl }
leaf_bare s (an_octet_string c) l e = record { no_components = refl; no_elements = refl; no_alternatives = refl }
leaf_bare s a_null l e = record { no_components = refl; no_elements = refl; no_alternatives = refl }
leaf_bare s an_object_identifier l e = record { no_components = refl; no_elements = refl; no_alternatives = refl }
leaf_bare s a_relative_oid l e = record { no_components = refl; no_elements = refl; no_alternatives = refl }
leaf_bare s (a_utf8_string c) l e = record { no_components = refl; no_elements = refl; no_alternatives = refl }
leaf_bare s (a_restricted_string k codes c) l e = record { no_components = refl; no_elements = refl; no_alternatives = refl }
leaf_bare s (a_sequence true []) l e = absurd (cc)
leaf_bare s (a_sequence false []) l e = absurd (cc)
leaf_bare s (a_sequence x (c ∷ cs)) l e = absurd (cc)
leaf_bare s (a_set true []) l e = absurd (cc)
leaf_bare s (a_set false []) l e = absurd (cc)
leaf_bare s (a_set x (c ∷ cs)) l e = absurd (cc)
leaf_bare s (a_sequence_of c u) l e = absurd (cc)
leaf_bare s (a_set_of c u) l e = absurd (cc)
leaf_bare s (a_choice root x more) l e = absurd (cc)

no_components_pieces : (i : ℕ) (cs : List Component) (vs : Row) → cs ≡ [] → component_pieces i cs vs ≡ []
no_components_pieces i cs vs e = ap (λ q. component_pieces i q vs) e

no_parts : (k : Kind) (w : AbstractValue) → IsBare k → parts k w ≡ []
no_parts k (boolean b) a = refl
no_parts k (integer z) a = refl
no_parts k (enumerated z) a = refl
no_parts k (bits b) a = refl
no_parts k (octets o) a = refl
no_parts k (text o) a = refl
no_parts k null a = refl
no_parts k (oid o) a = refl
no_parts k (relative_oid o) a = refl
no_parts k (fields vs) a = no_components_pieces 0 (components k) vs a.no_components
no_parts k (list vs) a = ap (λ q. elim q [ None ↦ [] | Some u ↦ element_pieces 0 u vs ]) a.no_elements
no_parts k (alternative i v) a = ap (λ q. elim (slice_get q i) [ None ↦ [] | Some b ↦ placed (a_part.Alternative i) b.type v ∷ [] ]) a.no_alternatives

choice_part : {s : List Resolved} {q : Placed} {v : AbstractValue} {ts : List Token} (i : ℕ) (b : Alternative) → FirstWrong s (placed (a_part.Alternative i) b.type v ∷ []) (Some q) → TokensShow s b.type v ts → (os : List OpenValue) (o : OpenValue) → HasPart s q os o (chosen i ∷ ts)
choice_part {ts = ts} i b (wrong_here n) x os o =
    part_after {xs = chosen i ∷ []} ts refl (record { last = with_part (Some (a_part.Alternative i)) o; same = refl; stays = on_last_one (with_part (Some (a_part.Alternative i))) os o }) (part_here [] (sym (append-nil ts)) refl x)
choice_part i b (right_here v f) x os o = elim f [ ]

part_in : {s : List Resolved} {k : Kind} {w : AbstractValue} {ts : List Token} {q : Placed} → ShowsOf s k w ts → FirstWrong s (parts k w) (Some q) → (os : List OpenValue) (o : OpenValue) → o.part ≡ None → o.read ≡ 0 → HasPart s q os o ts
part_in {s} {k} {w} (shows_leaf {lk = l} levels few b c) f os o n m = none_first (no_parts k w (leaf_bare s k l b)) f
part_in (shows_sequence {ts = ts} count g e) f os o n m = part_before (replicate count passed) e (field_part g f os o)
part_in {s} {ts = ts} {q = q} (shows_set {cs = cs} {ws = ws} g) f os o n m =
    let a = at_place 0 cs ws f in
    let z : 0 + a.place ≡ a.place = omega arith in
    subst (λ p. HasPart s p os o ts) (sym (a.is ∙ ap (λ i. placed (a_part.Component i) a.component.type a.value) z))
    (mixed_part a.place a.component a.value a.has a.is_at g os o)
part_in (shows_sequence_of g) f os o n m = element_part g f os o n m
part_in (shows_set_of g) f os o n m = element_part g f os o n m
part_in {s} {q = q} (shows_choice {i = i} {a = b} {w = v} has x) f os o n m =
    choice_part i b (subst (λ z. FirstWrong s (elim z [ None ↦ [] | Some c ↦ placed (a_part.Alternative i) c.type v ∷ [] ]) (Some q)) has f) x os o

-- ---- the way

-- a value begins among the tokens, and the values of the way are open around it in these tokens
record Reached (path os : List OpenValue) (ts : List Token) : Type 0 where
  before : List Token
  value : TypeId
  following : List Token
  whole : ts ≡ before ++ begun value ∷ following
  leads : map on_path (on_last entered (opens_from os before)) ≡ map on_path (on_last entered os) ++ map on_path path

kind_is : {s : List Resolved} {t : TypeNumber} {tags : List Tag} {k : Kind} → Is s t tags k → kind_at s t ≡ k
kind_is i = ap (λ o. elim o [ None ↦ a_null | Some r ↦ r.kind ]) i.found

-- an open value that is at the part
on_path_is : {o : OpenValue} {t : TypeNumber} {p : Part} (r : OpenValue) → IsOpenAt o t p → r.ty ≡ id_of t → part_or r.part r.read ≡ Some p → on_path (entered r) ≡ on_path o
on_path_is {o} {t} {p} r i e f =
    let a : r.ty ≡ o.ty = e ∙ sym (ap id_of i.of_type) in
    ap (λ z. record { ty = z; part = part_or r.part r.read; read = 0 }) a ∙ ap (λ z. record { ty = o.ty; part = z; read = 0 }) (f ∙ sym i.at_part)

reach : {s : List Resolved} {p r : Piece} {path : List OpenValue} {xs : List Token} → Innermost s p path r → TokensShow s p.type p.value xs → (os : List OpenValue) → Reached path os xs
reach (is_itself n f) (shows {t = t} {ts = ts} i h e) os = record { before = []; value = id_of t; following = ts ++ ended ∷ []; whole = e; leads = sym (append-nil (map on_path (on_last entered os))) }
reach {s} {p} {path = path} (is_within {q = q} {o = o} {os = rest} f a j) (shows {t = t} {k = k} {w = w} {ts = ts} i h e) os =
    let outer = on_last entered os in
    let part = part_in h (subst (λ z. FirstWrong s (parts z w) (Some q)) (kind_is i) f) outer (opened (id_of t)) refl refl in
    let inner = reach j part.shown (outer ++ part.round ∷ []) in
    record {
      before = begun (id_of t) ∷ (part.before ++ inner.before);
      value = inner.value;
      following = inner.following ++ (part.following ++ ended ∷ []);
      whole = e
          ∙ ap (λ z. begun (id_of t) ∷ (z ++ ended ∷ [])) part.whole
          ∙ ap (λ z. begun (id_of t) ∷ ((part.before ++ (z ++ part.following)) ++ ended ∷ [])) inner.whole
          ∙ ap (λ z. begun (id_of t) ∷ z) (regroup part.before inner.before (begun inner.value ∷ inner.following) part.following (ended ∷ []));
      leads = ap (λ z. map on_path (on_last entered z)) (opens_more (outer ++ opened (id_of t) ∷ []) part.before inner.before ∙ ap (λ z. opens_from z inner.before) part.opens_round)
          ∙ inner.leads
          ∙ ap (λ z. map on_path z ++ map on_path rest) (on_last_one entered outer part.round)
          ∙ ap (λ z. z ++ map on_path rest) (map-append on_path outer (entered part.round ∷ []))
          ∙ append_assoc (map on_path outer) (on_path (entered part.round) ∷ []) (map on_path rest)
          ∙ ap (λ z. map on_path outer ++ (z ∷ map on_path rest)) (on_path_is part.round a part.same part.is_part);
    }
  where
    regroup : (a b c d e : List Token) → (a ++ ((b ++ c) ++ d)) ++ e ≡ (a ++ b) ++ (c ++ (d ++ e))
    regroup a b c d e =
        ap (λ z. (a ++ z) ++ e) (append_assoc b c d)
        ∙ ap (λ z. z ++ e) (sym (append_assoc a b (c ++ d)))
        ∙ append_assoc (a ++ b) (c ++ d) e
        ∙ ap (λ z. (a ++ b) ++ z) (append_assoc c d e)

-- ---- the first value to which it leads

-- n values begin before one to which the way leads
record Found (path os : List OpenValue) (ts : List Token) (n : ℕ) : Type 0 where
  before : List Token
  value : TypeId
  following : List Token
  whole : ts ≡ before ++ begun value ∷ following
  as_many : begun_in before ≡ n
  leads : Leads path (opens_from os before)

found_more : {path os : List OpenValue} {ts : List Token} {n : ℕ} (t : Token) (m : ℕ) → begun_in (t ∷ []) + n ≡ m → Found path (opens_after os t) ts n → Found path os (t ∷ ts) m
found_more {n = n} t m e f = record {
  before = t ∷ f.before;
  value = f.value;
  following = f.following;
  whole = ap (λ z. t ∷ z) f.whole;
  as_many = begun_first t f.before ∙ ap (λ z. begun_in (t ∷ []) + z) f.as_many ∙ e;
  leads = f.leads;
}
  where
    begun_first : (t : Token) (ts : List Token) → begun_in (t ∷ ts) ≡ begun_in (t ∷ []) + begun_in ts
    begun_first (begun u) ts = omega arith
    begun_first (component i) ts = omega arith
    begun_first (chosen i) ts = omega arith
    begun_first ended ts = omega arith
    begun_first (held k c x at) ts = omega arith
    begun_first passed ts = omega arith

no_front : {A : Type 0} (x : Token) (xs ys : List Token) → [] ≡ xs ++ x ∷ ys → A
no_front x [] ys e = absurd (cc)
no_front x (z ∷ xs) ys e = absurd (cc)

find : {path os : List OpenValue} {ts : List Token} {n : ℕ} (before : List Token) (u : TypeId) (following : List Token) → BeginsBefore path os ts n → ts ≡ before ++ begun u ∷ following → Leads path (opens_from os before) → Found path os ts n
find xs u ys no_token e l = no_front (begun u) xs ys e
find xs u ys (leads_here {t = t} {ts = ts} h) e l = record { before = []; value = t; following = ts; whole = refl; as_many = refl; leads = h }
find [] u ys (leads_on h b) e l = absurd (h l)
find {path} {os} (x ∷ xs) u ys (leads_on {t = t} {n = n} h b) e l =
    found_more (begun t) (suc n) (omega arith) (find xs u ys b (ap rest_of e) (subst (λ z. Leads path (opens_from (opens_after os z) xs)) (sym (ap (front_or x) e)) l))
find {path} {os} [] u ys (none_begins {t = t} {ts = ts} h b) e l = absurd (let f = ap (λ z. begun_in (front_or t z ∷ [])) e in omega arith)
find {path} {os} (x ∷ xs) u ys (none_begins {t = t} {n = n} h b) e l =
    found_more t n (omega arith) (find xs u ys b (ap rest_of e) (subst (λ z. Leads path (opens_from (opens_after os z) xs)) (sym (ap (front_or x) e)) l))

-- ---- the values that are open there

-- a way as long, through the same parts, leads there as well
same_path : {s : List Resolved} {p r : Piece} {path : List OpenValue} (os : List OpenValue) → Innermost s p path r → map on_path os ≡ map on_path path → Innermost s p os r
same_path [] (is_itself n f) e = is_itself n f
same_path (x ∷ xs) (is_itself n f) e = cons_nil e
same_path [] (is_within f a j) e = cons_nil (sym e)
same_path (x ∷ xs) (is_within {o = o} f a j) e =
    let h : on_path x ≡ on_path o = ap (front_or (on_path x)) e in
    is_within f (record { of_type = ap (λ z. z.ty.index) h ∙ a.of_type; at_part = ap (λ z. z.part) h ∙ a.at_part }) (same_path xs j (ap rest_of e))

pub before_wrong : {s : List Resolved} {p : Piece} {path : List OpenValue} {emitted : List Token} {n : ℕ} → IsPathToWrong s p path → TokensShow s p.type p.value emitted → BeginsBefore path [] emitted n → IsBeforeWrong s p emitted n
before_wrong {path = path} l h b =
    let r = reach l.is_innermost h [] in
    let f = find r.before r.value r.following b r.whole r.leads in
    record {
      values = opens f.before;
      before = record { before = f.before; value = f.value; following = f.following; whole = f.whole; as_many = f.as_many; opened = refl };
      path_to_wrong = record { inner = l.inner; is_innermost = same_path (on_last entered (opens f.before)) l.is_innermost f.leads };
    }

-- a way after no others
pub path_alone : {s : List Resolved} {p q : Piece} {os all : List OpenValue} → os ≡ [] → p ≡ q → Extends s p os all → IsPathToWrong s q all
path_alone {s} {p} {q} {os} {all} e f l =
    let g : all ≡ l.path = l.whole ∙ ap (λ z. z ++ l.path) e in
    subst (λ z. IsPathToWrong s z all) f (subst (IsPathToWrong s p) (sym g) l.path_to_wrong)

-- ---- one front before n values

-- one more begins than do before it
pub fewer_begin : {emitted : List Token} {n : ℕ} {os : List OpenValue} → AreOpenBefore emitted n os → n < begun_in emitted
fewer_begin a =
    let e = ap begun_in a.whole in
    let f = begun_both a.before (begun a.value ∷ a.following) in
    let g = a.as_many in
    omega arith
  where
    begun_both : (xs ys : List Token) → begun_in (xs ++ ys) ≡ begun_in xs + begun_in ys
    begun_both [] ys = omega arith
    begun_both (begun t ∷ xs) ys = let r = begun_both xs ys in omega arith
    begun_both (component i ∷ xs) ys = begun_both xs ys
    begun_both (chosen i ∷ xs) ys = begun_both xs ys
    begun_both (ended ∷ xs) ys = begun_both xs ys
    begun_both (held k c x at ∷ xs) ys = begun_both xs ys
    begun_both (passed ∷ xs) ys = begun_both xs ys

one_more : (xs : List Token) (t : TypeId) → begun_in (begun t ∷ xs) ≡ 0 → ⊥
one_more xs t e = omega arith

fronts_once : (xs ys vs ws : List Token) (t u : TypeId) → xs ++ begun t ∷ vs ≡ ys ++ begun u ∷ ws → begun_in xs ≡ begun_in ys → xs ≡ ys
fronts_once [] [] vs ws t u e n = refl
fronts_once [] (y ∷ ys) vs ws t u e n = absurd (one_more ys t (sym (n ∙ ap (λ z. begun_in (z ∷ ys)) (sym (ap (front_or y) e)))))
fronts_once (x ∷ xs) [] vs ws t u e n = absurd (one_more xs u (sym (sym n ∙ ap (λ z. begun_in (z ∷ xs)) (ap (front_or x) e))))
fronts_once (x ∷ xs) (y ∷ ys) vs ws t u e n =
    let h : x ≡ y = ap (front_or x) e in
    ap (λ z. z ∷ xs) h ∙ ap (λ z. y ∷ z) (fronts_once xs ys vs ws t u (ap rest_of e) (same_rest y (ap (λ z. begun_in (z ∷ xs)) (sym h) ∙ n)))
  where
    same_rest : (y : Token) → begun_in (y ∷ xs) ≡ begun_in (y ∷ ys) → begun_in xs ≡ begun_in ys
    same_rest (begun v) k = omega arith
    same_rest (component i) k = k
    same_rest (chosen i) k = k
    same_rest ended k = k
    same_rest (held l c o at) k = k
    same_rest passed k = k

-- the values that are open before n others are determined
pub open_once : {emitted : List Token} {n : ℕ} {os ps : List OpenValue} → AreOpenBefore emitted n os → AreOpenBefore emitted n ps → os ≡ ps
open_once a b =
    a.opened
    ∙ ap opens (fronts_once a.before b.before a.following b.following a.value b.value (sym a.whole ∙ b.whole) (a.as_many ∙ sym b.as_many))
    ∙ sym b.opened

-- decoding stops before n values, and the value that isn't decoded is entered
pub leads_there : {s : List Resolved} {t : TypeId} {o : List ℕ} {v : AbstractValue} {emitted all : List Token} {n : ℕ} {w : ErrorPosition}
    → emitted ≡ all
    → IsBeforeWrong s (piece t.index v) emitted n
    → (u : ErrorPosition)
    → IsStop s t o n u
    → (n < begun_in all → AreOpenBefore all n u.values.items)
    → IsEntered u w
    → IsBeforeInnermost s t o all v w
leads_there {s} {t} {v = v} {n = n} {w = w} e b u stop h i =
    let c = subst (λ q. IsBeforeWrong s (piece t.index v) q n) e b in
    let few = fewer_begin c.before in
    let same = open_once (h few) c.before in
    record {
      most = n;
      fewer = few;
      stopped = u;
      stop = stop;
      part = i;
      path_to_wrong = subst (IsPathToWrong s (piece t.index v)) (sym (i.values ∙ ap (on_last entered) same)) c.path_to_wrong;
    }

pub never_leads : {E : Type 0} (s : List Resolved) (t : TypeId) (o : List ℕ) (emitted : List Token) (v : AbstractValue) (r : Result ErrorPosition E) → ⊥ → IfOk r (IsBeforeInnermost s t o emitted v)
never_leads s t o emitted v r e = absurd e
