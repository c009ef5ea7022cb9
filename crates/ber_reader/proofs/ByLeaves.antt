-- A value whose tokens fit is one of its type, if values of the type are judged leaf by leaf.
use Rattle.std.proofs.Common.{arith, ◌≡◌, ℕ, zero, suc, ◌≤◌, Bool, true, false, List, [], ◌∷◌, ◌++◌, refl, sym, ap, subst, ◌∙◌}
use Rattle.std.specs.Prelude.{Some, None, slice_get, replicate}
use Rattle.std.specs.List.{AllByRecursion}
use Rattle.asn_base.specs.Abstract.{AbstractValue, octets, fields, list, alternative, Row, end, absent, present}
use Rattle.asn_base.specs.Decided.{IsFlat}
use Rattle.asn_base.specs.Schemas.{IsSchema, IsSound, HasValue}
use Rattle.asn_base.specs.Typed.{IsAllowedSize, IsValueWithoutNodes, members, group_of, GroupsAreWhole, ValueIn, value_in, ValueOf, of_leaf, of_sequence, of_set, of_sequence_of, of_set_of, of_choice, MayBeAbsent, where_optional, where_default, where_addition, AreComponents, no_component, component_absent, component_present, AreElements, no_element, one_element}
use Rattle.asn_base.specs.Types.{TypeNumber, Constraint, Alternative, Kind, a_sequence, a_set, a_sequence_of, a_set_of, a_choice, Presence, mandatory, optional, default, addition, Component, Resolved, Is}
use Rattle.asn_base.specs.declared.tag.Tag.{Tag}
use Rattle.encodings.specs.Header.{Octets, Encodings}
use Rattle.encodings.specs.Rules.{Basic}
use Rattle.encodings.specs.Encoding.{EncodesTo, says, ContentsEncode, leaf, sequence, set, sequence_of, set_of, choice, Members, no_member, left_out, member, Elements, no_element as no_element', element}
use Rattle.codec_code.specs.ByLeaves.{AllowsAnySome, ByLeaves, IsByLeaves, IsEasy, KindByLeaves}
use Rattle.codec_code.specs.Routines.{id_of}
use Rattle.octet_answers.specs.States.{Token, component, ended, passed}
use Rattle.ber_source.specs.Fits.{Last, after, after_all, at_first, AllFit}
use Rattle.laws_reading.specs.TokensShow.{blank, with_at, IsAbsentAt, TokensShow, shows, ShowsOf, shows_leaf, shows_sequence, shows_set, shows_sequence_of, shows_set_of, shows_choice, ShowsFields, no_field, absent_field, present_field, ShowsMixed, nothing_mixed, passed_mixed, component_mixed, ShowsElements, no_element_shown, element_shown}
use Rattle.ber_reader.proofs.Plain.{none_some, some_same}

-- ---- tokens

fit_first : (s : List Resolved) (l : Last) (xs ys : List Token) → AllFit s l (xs ++ ys) → AllFit s l xs
fit_first s l [] ys a = tt
fit_first s l (x ∷ xs) ys a = (a.0, fit_first s (after l x) xs ys a.1)

fit_second : (s : List Resolved) (l : Last) (xs ys : List Token) → AllFit s l (xs ++ ys) → AllFit s (after_all l xs) ys
fit_second s l [] ys a = a
fit_second s l (x ∷ xs) ys a = fit_second s (after l x) xs ys a.1

-- ---- rows

-- some octets encode the value
record Encoded (s : List Resolved) (t : TypeNumber) (w : AbstractValue) : Type 0 where
  count : ℕ
  octets' : Octets
  is : EncodesTo s Basic t w count octets'

-- `P` holds for each component that is present
abbrev Each : (TypeNumber → AbstractValue → Type 0) → List Component → Row → Type 0
Each P (c ∷ cs) (present w ws) = P c.type w × Each P cs ws
Each P (c ∷ cs) (absent ws) = Each P cs ws
Each P cs ws = Unit {0}

abbrev HasPlace : Row → ℕ → Type 0
HasPlace end i = ⊥
HasPlace (absent ws) zero = Unit {0}
HasPlace (present w ws) zero = Unit {0}
HasPlace (absent ws) (suc i) = HasPlace ws i
HasPlace (present w ws) (suc i) = HasPlace ws i

each_blank : (P : TypeNumber → AbstractValue → Type 0) (cs : List Component) → Each P cs (blank cs)
each_blank P [] = tt
each_blank P (c ∷ cs) = each_blank P cs

-- one more component, at a place that was empty
each_with : (P : TypeNumber → AbstractValue → Type 0) (cs : List Component) (ws : Row) (i : ℕ) (c : Component) (w : AbstractValue)
    → slice_get cs i ≡ Some c
    → IsAbsentAt ws i
    → (HasPlace ws i → P c.type w)
    → Each P cs ws
    → Each P cs (with_at ws i w)
each_with P [] end i c w e a p h = tt
each_with P [] (absent ws) zero c w e a p h = tt
each_with P [] (absent ws) (suc i) c w e a p h = tt
each_with P [] (present v ws) zero c w e a p h = tt
each_with P [] (present v ws) (suc i) c w e a p h = tt
each_with P (d ∷ cs) end i c w e a p h = tt
each_with P (d ∷ cs) (absent ws) zero c w e a p h = (subst (λ q. P q.type w) (sym (some_same e)) (p tt), h)
each_with P (d ∷ cs) (absent ws) (suc i) c w e a p h = each_with P cs ws i c w e a p h
each_with P (d ∷ cs) (present v ws) zero c w e a p h = absurd a
each_with P (d ∷ cs) (present v ws) (suc i) c w e a p h = (h.0, each_with P cs ws i c w e a p h.1)

-- the same components, one fewer
each_apart : (P : TypeNumber → AbstractValue → Type 0) (cs : List Component) (ws : Row) (i : ℕ) (c : Component) (w : AbstractValue)
    → slice_get cs i ≡ Some c
    → IsAbsentAt ws i
    → Each P cs (with_at ws i w)
    → Each P cs ws × (HasPlace ws i → P c.type w)
each_apart P [] ws i c w e a h = none_some e
each_apart P (d ∷ cs) end i c w e a h = (tt, λ p. absurd p)
each_apart P (d ∷ cs) (absent ws) zero c w e a h = (h.1, λ p. subst (λ q. P q.type w) (some_same e) h.0)
each_apart P (d ∷ cs) (absent ws) (suc i) c w e a h = each_apart P cs ws i c w e a h
each_apart P (d ∷ cs) (present v ws) zero c w e a h = absurd a
each_apart P (d ∷ cs) (present v ws) (suc i) c w e a h = let r = each_apart P cs ws i c w e a h.1 in ((h.0, r.0), r.1)

-- ---- encodings

encoded_row : {s : List Resolved} {cs : List Component} {ws : Row} {n : ℕ} {xs : Encodings} → Members s Basic cs ws n xs → Each (Encoded s) cs ws
encoded_row no_member = tt
encoded_row (left_out m ms) = encoded_row ms
encoded_row (member e st ms) = (record { count = _; octets' = _; is = e }, encoded_row ms)

record Contained (s : List Resolved) (k : Kind) (w : AbstractValue) : Type 0 where
  count : ℕ
  constructed : Bool
  octets' : Octets
  is : ContentsEncode s Basic k w count constructed octets'

contained : {s : List Resolved} {t : TypeNumber} {w : AbstractValue} {j : ℕ} {o : Octets} (tags : List Tag) (k : Kind) → Is s t tags k → EncodesTo s Basic t w j o → Contained s k w
contained {s} {w = w} tags k i (says i' ce f) = subst (λ q. Contained s q w) (ap (λ r. r.kind) (some_same (sym i'.found ∙ i.found))) (record { count = _; constructed = _; octets' = _; is = ce })

record HasMembers (s : List Resolved) (cs : List Component) (ws : Row) : Type 0 where
  count : ℕ
  octets' : Encodings
  is : Members s Basic cs ws count octets'

sequence_members : {s : List Resolved} {e : Bool} {cs : List Component} {ws : Row} → Contained s (a_sequence e cs) (fields ws) → HasMembers s cs ws
sequence_members d = by d.is
  where
    by : {s : List Resolved} {e c : Bool} {cs : List Component} {ws : Row} {n : ℕ} {x : Octets} → ContentsEncode s Basic (a_sequence e cs) (fields ws) n c x → HasMembers s cs ws
    by (leaf x) = elim x [ ]
    by (sequence ms u) = record { count = _; octets' = _; is = ms }

set_members : {s : List Resolved} {e : Bool} {cs : List Component} {ws : Row} → Contained s (a_set e cs) (fields ws) → HasMembers s cs ws
set_members d = by d.is
  where
    by : {s : List Resolved} {e c : Bool} {cs : List Component} {ws : Row} {n : ℕ} {x : Octets} → ContentsEncode s Basic (a_set e cs) (fields ws) n c x → HasMembers s cs ws
    by (leaf x) = elim x [ ]
    by (set ms p so u m) = record { count = _; octets' = _; is = ms }

-- all members of a list are encoded
abbrev EachElement : (AbstractValue → Type 0) → Row → Type 0
EachElement P end = Unit {0}
EachElement P (absent ws) = EachElement P ws
EachElement P (present w ws) = P w × EachElement P ws

encoded_elements : {s : List Resolved} {u : TypeNumber} {ws : Row} {n : ℕ} {xs : Encodings} → Elements s Basic u ws n xs → EachElement (Encoded s u) ws
encoded_elements no_element' = tt
encoded_elements (element e es) = (record { count = _; octets' = _; is = e }, encoded_elements es)

sequence_elements : {s : List Resolved} {z : Constraint} {u : TypeNumber} {ws : Row} → Contained s (a_sequence_of z u) (list ws) → EachElement (Encoded s u) ws
sequence_elements d = by d.is
  where
    by : {s : List Resolved} {z : Constraint} {u : TypeNumber} {ws : Row} {c : Bool} {n : ℕ} {x : Octets} → ContentsEncode s Basic (a_sequence_of z u) (list ws) n c x → EachElement (Encoded s u) ws
    by (leaf x) = elim x [ ]
    by (sequence_of es) = encoded_elements es

set_elements : {s : List Resolved} {z : Constraint} {u : TypeNumber} {ws : Row} → Contained s (a_set_of z u) (list ws) → EachElement (Encoded s u) ws
set_elements d = by d.is
  where
    by : {s : List Resolved} {z : Constraint} {u : TypeNumber} {ws : Row} {c : Bool} {n : ℕ} {x : Octets} → ContentsEncode s Basic (a_set_of z u) (list ws) n c x → EachElement (Encoded s u) ws
    by (leaf x) = elim x [ ]
    by (set_of es so) = encoded_elements es

chosen_encoded : {s : List Resolved} {e : Bool} {root more : List Alternative} {i : ℕ} {a : Alternative} {w : AbstractValue} → slice_get (root ++ more) i ≡ Some a → Contained s (a_choice root e more) (alternative i w) → Encoded s a.type w
chosen_encoded {a = a} g d = by g d.is
  where
    by : {s : List Resolved} {e c : Bool} {root more : List Alternative} {i n : ℕ} {w : AbstractValue} {x : Octets} → slice_get (root ++ more) i ≡ Some a → ContentsEncode s Basic (a_choice root e more) (alternative i w) n c x → Encoded s a.type w
    by g (leaf x) = elim x [ ]
    by {s = s} {w = w} g (choice h e) = subst (λ q. Encoded s q.type w) (some_same (sym h ∙ g)) (record { count = _; octets' = _; is = e })

-- ---- what is absent

flat_value : {s : List Resolved} {m t : ℕ} {d : AbstractValue} (n : ℕ) → IsFlat d → ValueIn s m t d → ValueIn s (suc n) t d
flat_value n f (value_in i (of_leaf p)) = value_in i (of_leaf p)
flat_value n f (value_in i (of_sequence a g)) = absurd f
flat_value n f (value_in i (of_set a g)) = absurd f
flat_value n f (value_in i (of_sequence_of a g)) = absurd f
flat_value n f (value_in i (of_set_of a g)) = absurd f
flat_value n f (value_in i (of_choice a g)) = absurd f

abbrev must_be_there : Presence → Bool
must_be_there p = elim p [ mandatory ↦ true | optional ↦ false | default d ↦ false | addition o g ↦ false ]

absent_fits : (s : List Resolved) (n t : ℕ) (p : Presence) → must_be_there p ≡ false → ByLeaves s n t → IsEasy p → ((d : AbstractValue) → p ≡ default d → ValueIn s 64 t d) → MayBeAbsent s n t p
absent_fits s zero t p m b e h = absurd b
absent_fits s (suc n) t mandatory m b e h = absurd (let f : true ≡ false = m in cc)
absent_fits s (suc n) t optional m b e h = where_optional
absent_fits s (suc n) t (default d) m b e h = where_default (flat_value n e (h d refl))
absent_fits s (suc n) t (addition o g) m b e h = where_addition

easy_group : (p : Presence) → IsEasy p → group_of p ≡ None
easy_group mandatory e = refl
easy_group optional e = refl
easy_group (default d) e = refl
easy_group (addition o g) e = e

abbrev AreEasy : List Resolved → ℕ → List Component → Type 0
AreEasy s n cs = AllByRecursion (λ c. ByLeaves s n c.type × IsEasy c.presence) cs

ungrouped : (s : List Resolved) (n : ℕ) (cs : List Component) → AreEasy s n cs → AllByRecursion (λ c. group_of c.presence ≡ None) cs
ungrouped s n [] b = tt
ungrouped s n (c ∷ cs) b = (easy_group c.presence b.0.1, ungrouped s n cs b.1)

component_type : (s : List Resolved) (n : ℕ) (cs : List Component) (i : ℕ) (c : Component) → slice_get cs i ≡ Some c → AreEasy s n cs → ByLeaves s n c.type
component_type s n [] i c e b = none_some e
component_type s n (d ∷ cs) zero c e b = subst (λ q. ByLeaves s n q.type) (some_same e) b.0.0
component_type s n (d ∷ cs) (suc i) c e b = component_type s n cs i c e b.1

alternative_type : (s : List Resolved) (n : ℕ) (as' : List Alternative) (i : ℕ) (a : Alternative) → slice_get as' i ≡ Some a → AllByRecursion (λ a. ByLeaves s n a.type) as' → ByLeaves s n a.type
alternative_type s n [] i a e b = none_some e
alternative_type s n (d ∷ as') zero a e b = subst (λ q. ByLeaves s n q.type) (some_same e) b.0
alternative_type s n (d ∷ as') (suc i) a e b = alternative_type s n as' i a e b.1

row_fits : {s : List Resolved} {cs : List Component} {ws : Row} {k : ℕ} {xs : Encodings} (n : ℕ) → Members s Basic cs ws k xs → AreEasy s n cs → AllByRecursion (HasValue s) cs → Each (ValueIn s n) cs ws → AreComponents s n cs ws
row_fits n no_member b v h = no_component
row_fits {s} n (left_out {c = c} m ms) b v h = component_absent (absent_fits s n c.type c.presence m b.0.0 b.0.1 (λ d e. (v.0 d e).shaped)) (row_fits n ms b.1 v.1 h)
row_fits n (member e st ms) b v h = component_present h.0 (row_fits n ms b.1 v.1 h.1)

-- ---- sizes

list_size : (c : Constraint) (ws : Row) → AllowsAnySome c → (ws ≡ end → IsAllowedSize c 0) → IsAllowedSize c (members ws)
list_size c end f g = g refl
list_size c (absent ws) f g = f (members (absent ws)) (omega arith)
list_size c (present w ws) f g = f (members (present w ws)) (omega arith)

none_shown : {s : List Resolved} {u : TypeNumber} {ws : Row} {ts : List Token} → ShowsElements s u ws ts → ws ≡ end → ts ≡ []
none_shown no_element_shown e = refl
none_shown (element_shown {w = w} {ws = ws} sh es all) e = absurd (let f : present w ws ≡ end = e in cc)

-- ---- values

module _ (s : List Resolved) (schema : IsSchema s) (groups : (cs : List Component) (vs : Row) → AllByRecursion (λ c. group_of c.presence ≡ None) cs → GroupsAreWhole cs vs) where
  mutual
    value_fits : (n : ℕ) (l : Last) {t : TypeNumber} {w : AbstractValue} {ts : List Token} → ByLeaves s n t → Encoded s t w → TokensShow s t w ts → AllFit s l ts → ValueIn s n t w
    value_fits zero l b d sh a = absurd b
    value_fits (suc n) l b d (shows {t = t} {tags = tags} {k = k} {ts = ts} i o e) a =
        let own = subst (λ r. KindByLeaves (ByLeaves s n) r.kind) (some_same (sym b.1 ∙ i.found)) b.2 in
        value_in i (kind_fits n k t tags i own (contained tags k i d.is) o (schema.sound t tags k i) (subst (AllFit s l) e a).1)

    kind_fits : (n : ℕ) (k : Kind) {w : AbstractValue} {ts : List Token} (t : TypeNumber) (tags : List Tag) → Is s t tags k → KindByLeaves (ByLeaves s n) k → Contained s k w → ShowsOf s k w ts → IsSound s k → AllFit s (record { type = id_of t; fresh = true }) (ts ++ ended ∷ []) → ValueOf s n k w
    kind_fits n k {w = w} t tags i b d (shows_leaf levels few steps c) sound a = of_leaf (a.0 (record { tags = tags; kind = k }) w levels i.found c)
    kind_fits n (a_sequence e cs) t tags i b d (shows_sequence {ws = ws} {ts = ts} j fs all) sound a =
        let l : Last = record { type = id_of t; fresh = true } in
        let m = sequence_members d in
        let one = fit_first s l (ts ++ replicate j passed) (ended ∷ []) (subst (λ q. AllFit s l (q ++ ended ∷ [])) all a) in
        let two = fit_first s l ts (replicate j passed) one in
        of_sequence (row_fits n m.is b sound.defaults (fields_fit n l fs b (encoded_row m.is) two)) (groups cs ws (ungrouped s n cs b))
    kind_fits n (a_set e cs) {ts = ts} t tags i b d (shows_set {ws = ws} ms) sound a =
        let l : Last = record { type = id_of t; fresh = true } in
        let m = set_members d in
        of_set (row_fits n m.is b sound.0.defaults (mixed_fit n l ms b (encoded_row m.is) (fit_first s l ts (ended ∷ []) a))) (groups cs ws (ungrouped s n cs b))
    kind_fits n (a_sequence_of c u) t tags i b d (shows_sequence_of {ws = ws} {ts = ts} es) sound a =
        let l : Last = record { type = id_of t; fresh = true } in
        of_sequence_of (elements_fit n l es b.0 (sequence_elements d) (fit_first s l ts (ended ∷ []) a))
        (list_size c ws b.1 (λ e. (subst (λ q. AllFit s l (q ++ ended ∷ [])) (none_shown es e) a).0 refl (record { tags = tags; kind = a_sequence_of c u }) i.found))
    kind_fits n (a_set_of c u) t tags i b d (shows_set_of {ws = ws} {ts = ts} es) sound a =
        let l : Last = record { type = id_of t; fresh = true } in
        of_set_of (elements_fit n l es b.0 (set_elements d) (fit_first s l ts (ended ∷ []) a))
        (list_size c ws b.1 (λ e. (subst (λ q. AllFit s l (q ++ ended ∷ [])) (none_shown es e) a).0 refl (record { tags = tags; kind = a_set_of c u }) i.found))
    kind_fits n (a_choice root e more) t tags i b d (shows_choice {i = j} {a = x} {ts = ts} g sh) sound a =
        let l : Last = record { type = id_of t; fresh = true } in
        of_choice g (value_fits n l (alternative_type s n (root ++ more) j x g b) (chosen_encoded g d) sh (fit_first s l ts (ended ∷ []) a.1))

    fields_fit : (n : ℕ) (l : Last) {i : ℕ} {cs : List Component} {ws : Row} {ts : List Token} → ShowsFields s i cs ws ts → AreEasy s n cs → Each (Encoded s) cs ws → AllFit s l ts → Each (ValueIn s n) cs ws
    fields_fit n l no_field b d a = tt
    fields_fit n l (absent_field fs) b d a = fields_fit n l fs b.1 d a
    fields_fit n l (present_field {xs = xs} {ts = ts} sh fs all) b d a =
        let c = (subst (AllFit s l) all a).1 in
        (value_fits n l b.0.0 d.0 sh (fit_first s l xs ts c), fields_fit n (after_all l xs) fs b.1 d.1 (fit_second s l xs ts c))

    mixed_fit : (n : ℕ) (l : Last) {cs : List Component} {ws : Row} {ts : List Token} → ShowsMixed s cs ws ts → AreEasy s n cs → Each (Encoded s) cs ws → AllFit s l ts → Each (ValueIn s n) cs ws
    mixed_fit n l {cs = cs} nothing_mixed b d a = each_blank (ValueIn s n) cs
    mixed_fit n l (passed_mixed ms) b d a = mixed_fit n l ms b d a.1
    mixed_fit n l {cs = cs} (component_mixed {i = i} {c = c} {w = w} {ws = ws} {xs = xs} {ts = ts} has none sh ms with all) b d a =
        let f = (subst (AllFit s l) all a).1 in
        let p = each_apart (Encoded s) cs ws i c w has none (subst (Each (Encoded s) cs) with d) in
        subst (Each (ValueIn s n) cs) (sym with) (each_with (ValueIn s n) cs ws i c w has none
        (λ q. value_fits n l (component_type s n cs i c has b) (p.1 q) sh (fit_first s l xs ts f))
        (mixed_fit n (after_all l xs) ms b p.0 (fit_second s l xs ts f)))

    elements_fit : (n : ℕ) (l : Last) {u : TypeNumber} {ws : Row} {ts : List Token} → ShowsElements s u ws ts → ByLeaves s n u → EachElement (Encoded s u) ws → AllFit s l ts → AreElements s n u ws
    elements_fit n l no_element_shown b d a = no_element
    elements_fit n l (element_shown {xs = xs} {ts = ts} sh es all) b d a =
        let f = subst (AllFit s l) all a in
        one_element (value_fits n l b d.0 sh (fit_first s l xs ts f)) (elements_fit n (after_all l xs) es b d.1 (fit_second s l xs ts f))

-- a value whose tokens fit is one of the type
pub by_leaves : (s : List Resolved) → IsSchema s
    → ((cs : List Component) (vs : Row) → AllByRecursion (λ c. group_of c.presence ≡ None) cs → GroupsAreWhole cs vs)
    → ((t m n : ℕ) (v : AbstractValue) → m ≤ n → ValueIn s m t v → ValueIn s n t v)
    → (t : TypeNumber) (w : AbstractValue) (k : ℕ) (o : Octets) (ts : List Token)
    → IsByLeaves s t
    → EncodesTo s Basic t w k o
    → TokensShow s t w ts
    → AllFit s at_first ts
    → IsValueWithoutNodes s t w
by_leaves s schema groups grow t w k o ts b d sh a =
    grow t b.levels 64 w b.few (value_fits s schema groups b.levels at_first b.by (record { count = k; octets' = o; is = d }) sh a)
