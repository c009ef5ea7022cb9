-- What octets say is read by the routine of the type.
use Rattle.std.proofs.Common.{arith, ◌≡◌, ℕ, zero, suc, ◌≤◌, Bool, true, false, List, [], ◌∷◌, ◌++◌, length, refl, sym, ap, subst, ◌∙◌}
use Rattle.std.specs.Prelude.{Some, max, IsTrue}
use Rattle.std.specs.List.{AllByRecursion}
use Rattle.asn_base.specs.declared.tag.Tag.{Tag}
use Rattle.asn_base.specs.declared.schema.TypeId.{TypeId}
use Rattle.asn_base.specs.declared.strings.StringKind.{StringKind}
use Rattle.asn_base.specs.Abstract.{AbstractValue, Row}
use Rattle.asn_base.specs.Names.{IsMember, is_first, is_later}
use Rattle.asn_base.specs.Types.{TypeNumber, any_number, any_size, Kind, a_boolean, an_integer, an_enumerated, a_bit_string, a_named_bit_string, an_octet_string, a_null, an_object_identifier, a_relative_oid, a_utf8_string, a_restricted_string, a_sequence, a_set, a_sequence_of, a_set_of, a_choice, Component, Resolved, Is}
use Rattle.asn_base.specs.Tags.{First, first_tag, first_of_choice, IsChoice, AllTagged}
use Rattle.asn_base.specs.Schemas.{IsSchema, IsSound, is_character}
use Rattle.asn_base.specs.Typed.{fits_boolean, fits_integer, fits_enumerated, fits_bits, fits_named_bits, fits_octets, fits_null, fits_oid, fits_relative_oid, fits_utf8, fits_restricted, ValueIn, value_in, ValueOf, of_leaf, of_sequence, of_set, of_sequence_of, of_set_of, of_choice, AreComponents, no_component, component_absent, component_present, AreElements, one_element, nodes, row_nodes, IsValueWithoutNodes}
use Rattle.asn_base.specs.Typed.{no_element as no_typed}
use Rattle.encodings.specs.Rules.{Basic}
use Rattle.encodings.specs.Encoding.{Framed, bare, innermost, outer, UnknownIf, closed, extensible, no_unknown, unknown, EncodesTo, says, ContentsEncode, leaf, sequence, set, sequence_of, set_of, choice, Members, no_member, left_out, member, Elements, no_element, element}
use Rattle.encodings.specs.Levels.{levels, inner_levels, member_levels, element_levels, unknown_levels}
use Rattle.encodings.specs.declared.leaf_kind.LeafKind.TheVariants as leaves
use Rattle.codec_code.specs.Routines.{row_of, is_constructed}
use Rattle.codec_source.specs.Events.{Event}
use Rattle.octet_answers.specs.States.{State, front}
use Rattle.octet_answers.specs.Answers.{Answers, Takes}
use Rattle.laws_reading.specs.Saying.{IsReadTo, AreUnit}
use Rattle.laws_reading.proofs.Leaves.{itself, to_integer, to_enumerated, to_bits, to_named_bits, to_octets, to_utf8, to_restricted}
use Rattle.laws_reading.proofs.Readers.{Fronted, Reader, wider, BodyReader, reader, inner_nodes}
use Rattle.laws_reading.proofs.Bodies.{leaf_reader, AreReaders, no_reader, one_reader, each_reader, sorted_reader, choice_reader, AreFields, no_fields, absent_one, present_one, Foreign, foreigners, sequence_reader}
use Rattle.laws_reading.proofs.Drawn.{set_reader}
use Rattle.asn_base.specs.proving.OneKind.{same_kind}

some_same : {A : Type 0} {x y : A} → Some x ≡ Some y → x ≡ y
some_same e = cc

framed_front : {g : Tag} {ts : List Tag} {c : Bool} {x o : List ℕ} → Framed Basic (g ∷ ts) c x o → Fronted g o
framed_front {c = c} {x = x} (innermost {h = h} a) = record { constructed = c; header = h; contents = x; is_header = a.header; whole = refl }
framed_front (outer {h = h} {y = y} f a) = record { constructed = true; header = h; contents = y; is_header = a.header; whole = refl }

bare_front : {g : Tag} {c : Bool} {x o : List ℕ} → Framed Basic [] c x o → Fronted g x → Fronted g o
bare_front bare f = f

-- constructed kinds are constructed
form_of : {s : List Resolved} {k : Kind} {w : AbstractValue} {n : ℕ} {c : Bool} {x : List ℕ} → ContentsEncode s Basic k w n c x → is_constructed (row_of k) ≡ true → c ≡ true
form_of {k = a_boolean} (leaf con) e = absurd (let f : false ≡ true = e in cc)
form_of {k = an_integer z} (leaf con) e = absurd (let f : false ≡ true = e in cc)
form_of {k = an_enumerated r m q} (leaf con) e = absurd (let f : false ≡ true = e in cc)
form_of {k = a_bit_string z} (leaf con) e = absurd (let f : false ≡ true = e in cc)
form_of {k = a_named_bit_string z} (leaf con) e = absurd (let f : false ≡ true = e in cc)
form_of {k = an_octet_string z} (leaf con) e = absurd (let f : false ≡ true = e in cc)
form_of {k = a_null} (leaf con) e = absurd (let f : false ≡ true = e in cc)
form_of {k = an_object_identifier} (leaf con) e = absurd (let f : false ≡ true = e in cc)
form_of {k = a_relative_oid} (leaf con) e = absurd (let f : false ≡ true = e in cc)
form_of {k = a_utf8_string z} (leaf con) e = absurd (let f : false ≡ true = e in cc)
form_of {k = a_restricted_string q z y} (leaf con) e = absurd (let f : false ≡ true = e in cc)
form_of {k = a_sequence e' cs} (leaf con) e = elim con [ ]
form_of {k = a_set e' cs} (leaf con) e = elim con [ ]
form_of {k = a_sequence_of z u} (leaf con) e = elim con [ ]
form_of {k = a_set_of z u} (leaf con) e = elim con [ ]
form_of {k = a_choice r q m} (leaf con) e = elim con [ ]
form_of (sequence ms u) e = refl
form_of (set ms p st u m) e = refl
form_of (sequence_of es) e = refl
form_of (set_of es st) e = refl
form_of (choice g a) e = refl

none_if : {s : List Resolved} {cs : List Component} {e : Bool} {k : ℕ} {us : List (List ℕ)} → UnknownIf s cs e k us → e ≡ false → us ≡ []
none_if closed f = refl
none_if (extensible u) f = absurd (let g : true ≡ false = f in cc)

only_if : {s : List Resolved} {cs : List Component} {e : Bool} {k : ℕ} {us : List (List ℕ)} → UnknownIf s cs e k us → 1 ≤ length us → e ≡ true
only_if closed l = absurd (omega arith)
only_if (extensible u) l = refl

one_level : {s : List Resolved} {cs : List Component} {e : Bool} {k : ℕ} {us : List (List ℕ)} (u : UnknownIf s cs e k us) → 1 ≤ length us → 1 ≤ unknown_levels u
one_level closed l = absurd (omega arith)
one_level (extensible no_unknown) l = absurd (omega arith)
one_level (extensible (unknown x h b f u)) l = omega arith

all_characters : (k : StringKind) (alphabet : List ℕ) (o : List ℕ) → AllByRecursion (λ c. IsTrue (is_character k c)) alphabet → AllByRecursion (λ x. IsMember x alphabet) o → AllByRecursion (λ x. IsTrue (is_character k x)) o
all_characters k alphabet [] a m = tt
all_characters k alphabet (x ∷ o) a m = (of_member a m.0, all_characters k alphabet o a m.1)
  where
    of_member : {x : ℕ} {xs : List ℕ} → AllByRecursion (λ c. IsTrue (is_character k c)) xs → IsMember x xs → IsTrue (is_character k x)
    of_member a is_first = a.0
    of_member a (is_later m) = of_member a.1 m

module _ (s : List Resolved) (schema : IsSchema s) (tk : (a b : State) (e : Event) → Answers a e b → Takes a e b) where
  -- the first tag of an encoding
  record FirstFront (t : TypeNumber) (o : List ℕ) : Type 0 where
    tag : Tag
    first : First s t tag
    front : Fronted tag o

  foreign_if : {cs : List Component} {e : Bool} {k : ℕ} {us : List (List ℕ)} → UnknownIf s cs e k us → AllByRecursion (Foreign s tk cs) us
  foreign_if closed = tt
  foreign_if (extensible u) = foreigners s tk u

  mutual
    value_reader : {t k : ℕ} {w : AbstractValue} {o : List ℕ} (n : ℕ) (d : EncodesTo s Basic t w k o) → ValueIn s n t w → Reader s tk t o n (levels d) (nodes w)
    value_reader zero d v = elim v [ ]
    value_reader {t = t} {w = w} {o = o} (suc n) (says {tags = []} {k = k} {c = c} {x = x} i h fr) (value_in i' v) =
        let v2 = subst (λ q. ValueOf s n q w) (same_kind i i') v in
        let is_choice = schema.tagged t k i in
        let f = front_of k n h v2 is_choice i in
        let whole : Fronted f.tag o = bare_front fr f.front in
        reader s tk t [] k w f.tag i fr (λ e. is_choice) (form_of h) (body_reader t [] k n h i (schema.sound t [] k i) v2) f.first whole
    value_reader {t = t} {w = w} (suc n) (says {tags = g ∷ ts} {k = k} i h fr) (value_in i' v) =
        let v2 = subst (λ q. ValueOf s n q w) (same_kind i i') v in
        reader s tk t (g ∷ ts) k w g i fr (λ e. absurd (let l = ap length e in omega arith)) (form_of h) (body_reader t (g ∷ ts) k n h i (schema.sound t (g ∷ ts) k i) v2) (first_tag i) (framed_front fr)

    front_of : (k : Kind) (n : ℕ) {t j : ℕ} {w : AbstractValue} {c : Bool} {x : List ℕ} → ContentsEncode s Basic k w j c x → ValueOf s n k w → IsChoice k → Is s t [] k → FirstFront t x
    front_of (a_choice root e more) n (leaf con) v h i = elim con [ ]
    front_of (a_choice root e more) n (choice g a) (of_leaf f) h i = elim f [ ]
    front_of (a_choice root e more) n (choice {i = m} {w = w} g a) (of_choice g' v) h i =
        let same = some_same (sym g' ∙ g) in
        let r = value_reader n a (subst (λ q. ValueIn s n q.type w) same v) in
        record { tag = r.tag; first = first_of_choice m i g r.first; front = r.front }
    front_of a_boolean n q v h i = absurd h
    front_of (an_integer z) n q v h i = absurd h
    front_of (an_enumerated z y x) n q v h i = absurd h
    front_of (a_bit_string z) n q v h i = absurd h
    front_of (a_named_bit_string z) n q v h i = absurd h
    front_of (an_octet_string z) n q v h i = absurd h
    front_of a_null n q v h i = absurd h
    front_of an_object_identifier n q v h i = absurd h
    front_of a_relative_oid n q v h i = absurd h
    front_of (a_utf8_string z) n q v h i = absurd h
    front_of (a_restricted_string z y x) n q v h i = absurd h
    front_of (a_sequence z y) n q v h i = absurd h
    front_of (a_set z y) n q v h i = absurd h
    front_of (a_sequence_of z y) n q v h i = absurd h
    front_of (a_set_of z y) n q v h i = absurd h

    body_reader : (t : TypeNumber) (tags : List Tag) (k : Kind) (n : ℕ) {j : ℕ} {w : AbstractValue} {c : Bool} {x : List ℕ} (h : ContentsEncode s Basic k w j c x) → Is s t tags k → IsSound s k → ValueOf s n k w → BodyReader s tk t k c x n (inner_levels h) (inner_nodes w)
    body_reader t tags a_boolean n (leaf con) i a (of_leaf fits_boolean) = leaf_reader s tk t leaves.Boolean a_boolean refl (itself a_boolean) tt (λ q. q) con
    body_reader t tags (an_integer z) n (leaf con) i a (of_leaf (fits_integer l m)) = leaf_reader s tk t leaves.Integer (an_integer z) refl (to_integer z any_number) l (λ q. q) con
    body_reader t tags (an_enumerated r e q) n (leaf con) i a (of_leaf (fits_enumerated l m)) = leaf_reader s tk t leaves.Enumerated (an_enumerated r e q) refl (to_enumerated r [] q [] e false) l (λ q. q) con
    body_reader t tags (a_bit_string z) n (leaf con) i a (of_leaf (fits_bits m)) = leaf_reader s tk t leaves.BitString (a_bit_string z) refl (to_bits z any_size) tt (λ q. q) con
    body_reader t tags (a_named_bit_string bs) n (leaf con) i a (of_leaf fits_named_bits) = leaf_reader s tk t leaves.NamedBits (a_named_bit_string bs) refl (to_named_bits bs []) tt (λ q. q) con
    body_reader t tags (an_octet_string z) n (leaf con) i a (of_leaf (fits_octets b m)) = leaf_reader s tk t leaves.OctetString (an_octet_string z) refl (to_octets z any_size) tt (λ q. q) con
    body_reader t tags a_null n (leaf con) i a (of_leaf fits_null) = leaf_reader s tk t leaves.Null a_null refl (itself a_null) tt (λ q. q) con
    body_reader t tags an_object_identifier n (leaf con) i a (of_leaf (fits_oid o)) = leaf_reader s tk t leaves.ObjectIdentifier an_object_identifier refl (itself an_object_identifier) tt (λ q. q) con
    body_reader t tags a_relative_oid n (leaf con) i a (of_leaf (fits_relative_oid o)) = leaf_reader s tk t leaves.RelativeOid a_relative_oid refl (itself a_relative_oid) tt (λ q. q) con
    body_reader t tags (a_utf8_string z) n (leaf con) i a (of_leaf (fits_utf8 u m)) = leaf_reader s tk t leaves.Utf8String (a_utf8_string z) refl (to_utf8 z any_size) u (λ q. q) con
    body_reader t tags (a_restricted_string k codes z) n (leaf con) i a (of_leaf (fits_restricted {o = o} q m)) = leaf_reader s tk t (leaves.RestrictedString k) (a_restricted_string k codes z) refl (to_restricted k codes [] z any_size) (all_characters k codes o a.0.are_characters q) (λ q. q) con
    body_reader t tags (a_sequence e cs) n (leaf con) i a v = elim con [ ]
    body_reader t tags (a_set e cs) n (leaf con) i a v = elim con [ ]
    body_reader t tags (a_sequence_of z u) n (leaf con) i a v = elim con [ ]
    body_reader t tags (a_set_of z u) n (leaf con) i a v = elim con [ ]
    body_reader t tags (a_choice r q m) n (leaf con) i a v = elim con [ ]
    body_reader t tags (a_sequence e cs) n (sequence ms u) i a (of_leaf f) = elim f [ ]
    body_reader t tags (a_sequence e cs) n (sequence ms u) i a (of_sequence comps groups) =
        sequence_reader s tk t e i (schema.distinct_tags t tags (a_sequence e cs) i) (members_readers n ms comps (max (member_levels ms) (unknown_levels u)) (omega arith)) (none_if u) (foreign_if u) (λ l. let o = one_level u l in omega arith)
    body_reader t tags (a_set e cs) n (set ms p st u m) i a (of_leaf f) = elim f [ ]
    body_reader t tags (a_set e cs) n (set ms p st u m) i a (of_set comps groups) =
        set_reader s tk t e i (schema.distinct_tags t tags (a_set e cs) i) (members_readers n ms comps (max (member_levels ms) (unknown_levels u)) (omega arith)) p m (none_if u) (only_if u) (foreign_if u) (λ l. let o = one_level u l in omega arith)
    body_reader t tags (a_sequence_of z u) n (sequence_of es) i a (of_leaf f) = elim f [ ]
    body_reader t tags (a_sequence_of z u) n (sequence_of es) i a (of_sequence_of vs size) = each_reader s tk t (a_sequence_of z u) refl (λ q. q) (elements_readers n es vs (element_levels es) (omega arith))
    body_reader t tags (a_set_of z u) n (set_of es st) i a (of_leaf f) = elim f [ ]
    body_reader t tags (a_set_of z u) n (set_of es st) i a (of_set_of vs size) = sorted_reader s tk t (a_set_of z u) refl (λ q. q) (elements_readers n es vs (element_levels es) (omega arith))
    body_reader t tags (a_choice root e more) n (choice g d) i a (of_leaf f) = elim f [ ]
    body_reader t tags (a_choice root e more) n (choice {i = m} {a = b} {w = w} g d) i a (of_choice g' v) =
        choice_reader s tk t root more e m b (schema.distinct_tags t tags (a_choice root e more) i) g (value_reader n d (subst (λ q. ValueIn s n q.type w) (some_same (sym g' ∙ g)) v))

    members_readers : (n : ℕ) {cs : List Component} {ws : Row} {j : ℕ} {xs : List (List ℕ)} (ms : Members s Basic cs ws j xs) → AreComponents s n cs ws → (l : ℕ) → member_levels ms ≤ l → AreFields s tk n l cs xs (row_nodes ws)
    members_readers n no_member no_component l f = no_fields
    members_readers n (left_out m ms) (component_absent b cs) l f = absent_one m (members_readers n ms cs l f)
    members_readers n (member a d ms) (component_present v cs) l f = present_one (wider s tk l (omega arith) (value_reader n a v)) (members_readers n ms cs l (omega arith))

    elements_readers : (n : ℕ) {u : TypeNumber} {ws : Row} {j : ℕ} {xs : List (List ℕ)} (es : Elements s Basic u ws j xs) → AreElements s n u ws → (l : ℕ) → element_levels es ≤ l → AreReaders s tk u n l xs (row_nodes ws)
    elements_readers n no_element no_typed l f = no_reader
    elements_readers n (element a es) (one_element v vs) l f = one_reader (wider s tk l (omega arith) (value_reader n a v)) (elements_readers n es vs l (omega arith))

pub completed : (s : List Resolved) → IsSchema s → ((a b : State) (e : Event) → Answers a e b → Takes a e b) → (t : TypeId) (w : AbstractValue) (k : ℕ) (o rest : List ℕ) (budget : ℕ)
    → (d : EncodesTo s Basic t.index w k o)
    → IsValueWithoutNodes s t.index w
    → levels d ≤ 400
    → length o ≤ 16777216
    → nodes w ≤ budget
    → IsReadTo s t o rest budget
completed s schema tk t w k o rest budget d v l q m =
    let r = value_reader s schema tk 64 d v in
    let g = r.goes (front s (o ++ rest) budget) rest (record { schema = refl; values = omega arith; levels = omega arith; budget = m }) q refl in
    record { last = g.state; reads = g.reads; following = g.past.octets }

record FrontTag (o : List ℕ) : Type 0 where
  tag : Tag
  front : Fronted tag o

bare_tag : {c : Bool} {x o : List ℕ} → Framed Basic [] c x o → FrontTag x → FrontTag o
bare_tag bare f = f

mutual
  says_front : {s : List Resolved} {t k : ℕ} {w : AbstractValue} {o : List ℕ} → AllTagged s → EncodesTo s Basic t w k o → FrontTag o
  says_front all (says {t = t} {tags = []} {k = k} i h fr) = bare_tag fr (holds_front all k h (all t k i))
  says_front all (says {tags = g ∷ ts} i h fr) = record { tag = g; front = framed_front fr }

  holds_front : {s : List Resolved} {j : ℕ} {w : AbstractValue} {c : Bool} {x : List ℕ} → AllTagged s → (k : Kind) → ContentsEncode s Basic k w j c x → IsChoice k → FrontTag x
  holds_front all (a_choice root e more) (leaf con) h = elim con [ ]
  holds_front all (a_choice root e more) (choice g a) h = says_front all a
  holds_front all a_boolean q h = absurd h
  holds_front all (an_integer z) q h = absurd h
  holds_front all (an_enumerated z y x) q h = absurd h
  holds_front all (a_bit_string z) q h = absurd h
  holds_front all (a_named_bit_string z) q h = absurd h
  holds_front all (an_octet_string z) q h = absurd h
  holds_front all a_null q h = absurd h
  holds_front all an_object_identifier q h = absurd h
  holds_front all a_relative_oid q h = absurd h
  holds_front all (a_utf8_string z) q h = absurd h
  holds_front all (a_restricted_string z y x) q h = absurd h
  holds_front all (a_sequence z y) q h = absurd h
  holds_front all (a_set z y) q h = absurd h
  holds_front all (a_sequence_of z y) q h = absurd h
  holds_front all (a_set_of z y) q h = absurd h

pub is_unit : (s : List Resolved) → IsSchema s → (t k : ℕ) (w : AbstractValue) (o : List ℕ) → EncodesTo s Basic t w k o → AreUnit o
is_unit s schema t k w o d =
    let r = says_front schema.tagged d in
    let f = r.front in
    record { tag = r.tag; constructed = f.constructed; header = f.header; contents = f.contents; is_header = f.is_header; whole = f.whole }
