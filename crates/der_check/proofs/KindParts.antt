-- What octets say, kind by kind: by the distinguished rules it is what they say by the basic ones, with more asked.
use Rattle.std.proofs.Common.{◌≡◌, ℕ, zero, suc, ◌+◌, ◌≤◌, Bool, true, false, List, [], ◌∷◌, ◌++◌, length, refl, sym, ap, subst, ◌∙◌}
use Rattle.std.specs.Prelude.{Some, None, slice_get}
use Rattle.std.specs.List.{concat, AllByRecursion}
use Rattle.asn_base.specs.declared.tag.Tag.{Tag}
use Rattle.asn_base.specs.Abstract.{AbstractValue, fields, list, alternative, Row}
use Rattle.asn_base.specs.Types.{TypeNumber, Constraint, Alternative, Kind, a_sequence, a_set, a_sequence_of, a_set_of, a_choice, a_boolean, an_integer, an_enumerated, a_bit_string, a_named_bit_string, an_octet_string, a_null, an_object_identifier, a_relative_oid, a_utf8_string, a_restricted_string, Component, Resolved, Is}
use Rattle.asn_base.specs.Tags.{first_tag, first_of_choice, IsChoice, AllTagged}
use Rattle.encodings.specs.Rules.{Rules, Distinguished}
use Rattle.encodings.specs.Contents.{Contents, of_false, of_true, of_integer, of_enumerated, of_bits, of_named_bits, of_octets, of_null, of_oid, of_relative_oid, of_utf8, of_restricted}
use Rattle.encodings.specs.Orders.{Ascending, AtMost}
use Rattle.encodings.specs.Encoding.{Framed, bare, innermost, outer, Unknown, no_unknown, unknown, UnknownIf, closed, extensible, last_run, EncodesTo, says, ContentsEncode, leaf, sequence, set, sequence_of, set_of, choice, Members, no_member, left_out, member, Elements, no_element, element}
use Rattle.codec_code.specs.declared.step.RowKind.{RowKind}
use Rattle.codec_code.specs.declared.step.Step.{Step}
use Rattle.codec_code.specs.Routines.{routine_at, routine_of, heads, row_of, is_constructed, body, ends, fields_from, ranked_from, rest_if}
use Rattle.der_check.specs.Units.{IsUnit, AreUnits}
use Rattle.der_check.specs.Heads.{IsBare, IsWithinHeaders, no_head, in_head}
use Rattle.der_check.specs.Places.{BeginsType}
use Rattle.der_check.specs.Strict.{form_of}
use Rattle.der_check.proofs.Split.{HeadersApart, AllUnits, split_front, units_list}
use Rattle.asn_base.specs.proving.OneKind.{same_tags as tags_same, same_kind as kinds_same}
use Rattle.encodings.specs.proving.LeafForms.{no_leaf, bare_is}

none_some : {A : Type 0} {x : A} → None ≡ Some x → ⊥
none_some e = cc

some_same : {A : Type 0} {x y : A} → Some x ≡ Some y → x ≡ y
some_same e = cc

-- ---- the type

pub same_tags : {s : List Resolved} {t : ℕ} {ts us : List Tag} {j k : Kind} → Is s t ts j → Is s t us k → ts ≡ us
same_tags a b = tags_same b a

pub same_kind : {s : List Resolved} {t : ℕ} {ts us : List Tag} {j k : Kind} → Is s t ts j → Is s t us k → j ≡ k
same_kind a b = kinds_same b a

pub routine_is : (s : List Resolved) (t : TypeNumber) (tags : List Tag) (k : Kind) → Is s t tags k → routine_at s t ≡ heads tags (row_of k) ++ (body s k ++ ends (length tags))
unfolding routine_of
routine_is s t tags k i = ap (λ o. elim o [ None ↦ [] | Some r ↦ routine_of s r ]) i.found

-- ---- encodings are units, which begin with a first tag

framed_unit : {r : Rules} {g : Tag} {ts : List Tag} {c : Bool} {x o : List ℕ} → Framed r (g ∷ ts) c x o → IsUnit g o
framed_unit {c = c} {x = x} (innermost {h = h} a) = record { constructed = c; header = h; contents = x; is_header = a.header; whole = refl }
framed_unit (outer {h = h} {y = y} f a) = record { constructed = true; header = h; contents = y; is_header = a.header; whole = refl }

begins_at : {s : List Resolved} {t : ℕ} {x o : List ℕ} → o ≡ x → BeginsType s t x → BeginsType s t o
begins_at {s} {t} e f = subst (BeginsType s t) (sym e) f

mutual
  pub says_begins : {s : List Resolved} {r : Rules} {t n : ℕ} {v : AbstractValue} {o : List ℕ} → AllTagged s → EncodesTo s r t v n o → BeginsType s t o
  says_begins all (says {tags = []} i h fr) = begins_at (bare_is fr) (holds_begins all (all _ _ i) i h)
  says_begins all (says {tags = g ∷ ts} i h fr) = record { tag = g; unit = framed_unit fr; is_first = first_tag i }

  holds_begins : {s : List Resolved} {r : Rules} {t : ℕ} {k : Kind} {n : ℕ} {v : AbstractValue} {c : Bool} {x : List ℕ} → AllTagged s → IsChoice k → Is s t [] k → ContentsEncode s r k v n c x → BeginsType s t x
  holds_begins all h j (leaf con) = absurd (no_leaf h con)
  holds_begins all h j (sequence ms u) = absurd h
  holds_begins all h j (set ms p st u m) = absurd h
  holds_begins all h j (sequence_of es) = absurd h
  holds_begins all h j (set_of es st) = absurd h
  holds_begins all h j (choice {i = i} g a) = let f = says_begins all a in record { tag = f.tag; unit = f.unit; is_first = first_of_choice i j g f.is_first }

pub members_units : {s : List Resolved} {r : Rules} {cs : List Component} {vs : Row} {n : ℕ} {xs : List (List ℕ)} → AllTagged s → Members s r cs vs n xs → AllUnits xs
members_units all no_member = tt
members_units all (left_out m ms) = members_units all ms
members_units all (member a d ms) = (let b = says_begins all a in (b.tag, b.unit), members_units all ms)

pub elements_units : {s : List Resolved} {r : Rules} {u n : ℕ} {vs : Row} {xs : List (List ℕ)} → AllTagged s → Elements s r u vs n xs → AllUnits xs
elements_units all no_element = tt
elements_units all (element a es) = (let b = says_begins all a in (b.tag, b.unit), elements_units all es)

pub unknown_units : {s : List Resolved} {cs : List Component} {k : ℕ} {us : List (List ℕ)} → Unknown s cs k us → AllUnits us
unknown_units no_unknown = tt
unknown_units (unknown {g = g} {c = c} {h = h} x hd b f u) = ((g, record { constructed = c; header = h; contents = x; is_header = hd; whole = refl }), unknown_units u)

pub others_units : {s : List Resolved} {cs : List Component} {e : Bool} {k : ℕ} {us : List (List ℕ)} → UnknownIf s cs e k us → AllUnits us
others_units closed = tt
others_units (extensible u) = unknown_units u

counted_all : {s : List Resolved} {cs : List Component} {k : ℕ} {us : List (List ℕ)} → Unknown s cs k us → k ≡ length us
counted_all no_unknown = refl
counted_all (unknown x h b f u) = ap suc (counted_all u)

pub counted : {s : List Resolved} {cs : List Component} {e : Bool} {k : ℕ} {us : List (List ℕ)} → UnknownIf s cs e k us → k ≡ length us
counted closed = refl
counted (extensible u) = counted_all u

pub all_both : (P : List ℕ → Type 0) (xs ys : List (List ℕ)) → AllByRecursion P xs → AllByRecursion P ys → AllByRecursion P (xs ++ ys)
all_both P [] ys a b = b
all_both P (x ∷ xs) ys a b = (a.0, all_both P xs ys a.1 b)

-- ---- headers

bare_ends : (n : ℕ) → IsBare (ends n)
bare_ends zero = tt
bare_ends (suc n) = tt

bare_rest : (e : Bool) (n : ℕ) → IsBare (rest_if e ++ ends n)
bare_rest true n = tt
bare_rest false n = bare_ends n

assoc : (a b c : List Step) → (a ++ b) ++ c ≡ a ++ (b ++ c)
assoc [] b c = refl
assoc (x ∷ a) b c = ap (λ q. x ∷ q) (assoc a b c)

pub fields_split : (e : Bool) (cs : List Component) (n : ℕ) → (fields_from 0 cs ++ rest_if e) ++ ends n ≡ fields_from 0 cs ++ (rest_if e ++ ends n)
fields_split e cs n = assoc (fields_from 0 cs) (rest_if e) (ends n)

pub ranked_split : (s : List Resolved) (e : Bool) (cs : List Component) (n : ℕ) → (ranked_from s cs 0 cs ++ rest_if e) ++ ends n ≡ ranked_from s cs 0 cs ++ (rest_if e ++ ends n)
ranked_split s e cs n = assoc (ranked_from s cs 0 cs) (rest_if e) (ends n)

-- the steps of a kind begin with no header
pub bare_body : (s : List Resolved) (k : Kind) (n : ℕ) → IsBare (body s k ++ ends n)
bare_body s a_boolean n = tt
bare_body s (an_integer c) n = tt
bare_body s (an_enumerated r e m) n = tt
bare_body s (a_bit_string c) n = tt
bare_body s (a_named_bit_string bs) n = tt
bare_body s (an_octet_string c) n = tt
bare_body s a_null n = tt
bare_body s an_object_identifier n = tt
bare_body s a_relative_oid n = tt
bare_body s (a_utf8_string c) n = tt
bare_body s (a_restricted_string k codes c) n = tt
bare_body s (a_sequence e []) n = bare_rest e n
bare_body s (a_sequence e (c ∷ cs)) n = tt
bare_body s (a_set e []) n = bare_rest e n
bare_body s (a_set e (c ∷ cs)) n = tt
bare_body s (a_sequence_of c u) n = tt
bare_body s (a_set_of c u) n = tt
bare_body s (a_choice root e more) n = tt

-- what is within headers, framed
pub record IsFramed (ss : List Step) (tags : List Tag) (c : Bool) (rs : List Step) (x o : List ℕ) : Type 0 where
  pub steps : rs ≡ ss
  pub framed : Framed Distinguished tags c x o

bare_within : {ss rs : List Step} {x o : List ℕ} → IsBare ss → IsWithinHeaders ss o rs x → (rs ≡ ss) × (x ≡ o)
bare_within b (no_head a) = (refl, refl)
bare_within b (in_head i w) = absurd b

pub heads_framed : (tags : List Tag) (r : RowKind) (ss : List Step) {rs : List Step} {x o : List ℕ} → IsBare ss → IsWithinHeaders (heads tags r ++ ss) o rs x → IsFramed ss tags (is_constructed r) rs x o
heads_framed [] r ss {rs} {x} {o} b w = let e = bare_within b w in record { steps = e.0; framed = subst (λ q. Framed Distinguished [] (is_constructed r) q o) (sym e.1) bare }
heads_framed (g ∷ []) r ss b (no_head a) = absurd a
heads_framed (g ∷ []) r ss {rs = rs} {x = y} {o = o} b (in_head {x = x} i w) =
    let e = bare_within b w in
    record {
      steps = e.0;
      framed = subst (λ q. Framed Distinguished (g ∷ []) (is_constructed r) q o) (sym e.1) (subst (λ q. Framed Distinguished (g ∷ []) (is_constructed r) x q) (sym i.whole) (innermost i.is_header));
    }
heads_framed (g ∷ f ∷ gs) r ss b (no_head a) = absurd a
heads_framed (g ∷ f ∷ gs) r ss {rs = rs} {x = y} {o = o} b (in_head {x = x} i w) =
    let e = heads_framed (f ∷ gs) r ss b w in
    record { steps = e.steps; framed = subst (λ q. Framed Distinguished (g ∷ f ∷ gs) (is_constructed r) y q) (sym i.whole) (outer e.framed i.is_header) }

pub framed_heads : (tags : List Tag) (r : RowKind) (ss : List Step) {x o : List ℕ} → IsBare ss → Framed Distinguished tags (is_constructed r) x o → IsWithinHeaders (heads tags r ++ ss) o ss x
framed_heads [] r ss b bare = no_head b
framed_heads (g ∷ []) r ss b (innermost {h = h} a) = in_head (record { header = h; is_header = a; whole = refl }) (no_head b)
framed_heads (g ∷ f ∷ gs) r ss b (outer {h = h} w a) = in_head (record { header = h; is_header = a; whole = refl }) (framed_heads (f ∷ gs) r ss b w)

-- frames with one tag list hold one contents
pub record SameContents (c d : Bool) (x y : List ℕ) : Type 0 where
  pub forms : c ≡ d
  pub inside : x ≡ y

pub frames_contents : HeadersApart → {r r' : Rules} {g : Tag} {ts : List Tag} {c d : Bool} {x y o p : List ℕ} → Framed r (g ∷ ts) c x o → Framed r' (g ∷ ts) d y p → o ≡ p → SameContents c d x y
frames_contents law {c = c} {d = d} {x = x} {y = y} (innermost {t = t} {h = h} a) (innermost {h = h'} b) e =
    let r = law t t c d (length x) (length y) h h' x y a.header b.header e in
    record { forms = r.1; inside = r.4 }
frames_contents law (outer {t = t} {h = h} {y = z} f a) (outer {h = h'} {y = z'} f' b) e =
    let r = law t t true true (length z) (length z') h h' z z' a.header b.header e in
    frames_contents law f f' r.4

leaf_form : {k : Kind} {v : AbstractValue} {c : Bool} {x : List ℕ} → Contents Distinguished k v c x → c ≡ form_of k
leaf_form of_false = refl
leaf_form (of_true a l e) = refl
leaf_form (of_integer a) = refl
leaf_form (of_enumerated a) = refl
leaf_form (of_bits a e y) = e
leaf_form (of_named_bits a e y z) = e
leaf_form (of_octets a e) = e
leaf_form of_null = refl
leaf_form (of_oid a) = refl
leaf_form (of_relative_oid a) = refl
leaf_form (of_utf8 a e) = e
leaf_form (of_restricted a e) = e

pub strict_form : {s : List Resolved} {k : Kind} {v : AbstractValue} {n : ℕ} {c : Bool} {x : List ℕ} → ContentsEncode s Distinguished k v n c x → c ≡ form_of k
strict_form (leaf con) = leaf_form con
strict_form (sequence ms u) = refl
strict_form (set ms p st u m) = refl
strict_form (sequence_of es) = refl
strict_form (set_of es st) = refl
strict_form (choice g a) = refl

choice_form : {s : List Resolved} {r : Rules} {k : Kind} {v : AbstractValue} {n : ℕ} {c : Bool} {x : List ℕ} → IsChoice k → ContentsEncode s r k v n c x → c ≡ form_of k
choice_form h (leaf con) = absurd (no_leaf h con)
choice_form h (sequence ms u) = absurd h
choice_form h (set ms p st u m) = absurd h
choice_form h (sequence_of es) = absurd h
choice_form h (set_of es st) = absurd h
choice_form h (choice g a) = refl

-- the contents in headers by the distinguished rules are those in any headers
pub same_frame : HeadersApart → {s : List Resolved} {r : Rules} {k : Kind} {v : AbstractValue} {n : ℕ} {c : Bool} {x y o : List ℕ} (tags : List Tag) → (tags ≡ [] → IsChoice k) → Framed Distinguished tags (form_of k) y o → Framed r tags c x o → ContentsEncode s r k v n c x → ContentsEncode s r k v n (form_of k) y
same_frame law {s} {r} {k} {v} {n} {c} {x} {y} [] ch f g h =
    subst (λ q. ContentsEncode s r k v n (form_of k) q) (sym (bare_is g) ∙ bare_is f) (subst (λ q. ContentsEncode s r k v n q x) (choice_form (ch refl) h) h)
same_frame law {s} {r} {k} {v} {n} {c} {x} {y} (t ∷ ts) ch f g h =
    let e = frames_contents law f g refl in
    subst (λ q. ContentsEncode s r k v n (form_of k) q) (sym e.inside) (subst (λ q. ContentsEncode s r k v n q x) (sym e.forms) h)

-- ---- components

lengths_same : {s : List Resolved} {q r : Rules} {cs : List Component} {ws : Row} {j n : ℕ} {xs ys : List (List ℕ)} → Members s q cs ws j xs → Members s r cs ws n ys → length xs ≡ length ys
lengths_same no_member no_member = refl
lengths_same (left_out m ms) (left_out m' ms') = lengths_same ms ms'
lengths_same (member a d ms) (member a' d' ms') = ap suc (lengths_same ms ms')

-- the parts of a SEQUENCE's contents
pub record SequenceParts (s : List Resolved) (r : Rules) (e : Bool) (cs : List Component) (ws : Row) (n : ℕ) (o : List ℕ) : Type 0 where
  pub known : List (List ℕ)
  pub others : List (List ℕ)
  pub count : ℕ
  pub skipped : ℕ
  pub members : Members s r cs ws count known
  pub unknown_ones : UnknownIf s (last_run cs) e skipped others
  pub whole : o ≡ concat (known ++ others)
  pub counts : n ≡ count + skipped

pub sequence_parts : {s : List Resolved} {r : Rules} {e : Bool} {cs : List Component} {ws : Row} {n : ℕ} {c : Bool} {o : List ℕ} → ContentsEncode s r (a_sequence e cs) (fields ws) n c o → SequenceParts s r e cs ws n o
sequence_parts (leaf con) = elim con [ ]
sequence_parts (sequence {j = j} {k = k} {xs = xs} {us = us} ms u) = record { known = xs; others = us; count = j; skipped = k; members = ms; unknown_ones = u; whole = refl; counts = refl }

pub sequence_units : {s : List Resolved} {r : Rules} {e : Bool} {cs : List Component} {ws : Row} {n : ℕ} {o : List ℕ} → AllTagged s → length o ≤ 16777216 → (p : SequenceParts s r e cs ws n o) → AreUnits (p.known ++ p.others) o
sequence_units all l p = record { units = all_both _ p.known p.others (members_units all p.members) (others_units p.unknown_ones); whole = p.whole; short = l }

-- the same by other rules
pub sequence_same : HeadersApart → {s : List Resolved} {q r : Rules} {e : Bool} {cs : List Component} {ws : Row} {j n : ℕ} {o : List ℕ} → AllTagged s → (p : SequenceParts s q e cs ws j o) (p' : SequenceParts s r e cs ws n o) → (p'.known ≡ p.known) × (p'.others ≡ p.others)
sequence_same law all p p' =
    let a = all_both _ p.known p.others (members_units all p.members) (others_units p.unknown_ones) in
    let b = all_both _ p'.known p'.others (members_units all p'.members) (others_units p'.unknown_ones) in
    let e = units_list law (p'.known ++ p'.others) (p.known ++ p.others) b a (sym p'.whole ∙ p.whole) in
    split_front p'.known p.known p'.others p.others (lengths_same p'.members p.members) e

-- ---- elements

pub elements_of : HeadersApart → {s : List Resolved} {c : Constraint} {u : TypeNumber} {ws : Row} {n : ℕ} {b : Bool} {o : List ℕ} (xs : List (List ℕ)) → AllTagged s → AllUnits xs → ContentsEncode s Distinguished (a_sequence_of c u) (list ws) n b o → o ≡ concat xs → Elements s Distinguished u ws n xs
elements_of law xs all a (leaf con) e = elim con [ ]
elements_of law {s} {u = u} {ws = ws} {n = n} xs all a (sequence_of {xs = ys} es) e = subst (λ q. Elements s Distinguished u ws n q) (units_list law ys xs (elements_units all es) a e) es

pub members_of : HeadersApart → {s : List Resolved} {c : Constraint} {u : TypeNumber} {ws : Row} {n : ℕ} {b : Bool} {o : List ℕ} (xs : List (List ℕ)) → AllTagged s → AllUnits xs → ContentsEncode s Distinguished (a_set_of c u) (list ws) n b o → o ≡ concat xs → Elements s Distinguished u ws n xs × Ascending AtMost xs
members_of law xs all a (leaf con) e = elim con [ ]
members_of law {s} {u = u} {ws = ws} {n = n} xs all a (set_of {xs = ys} es st) e =
    let f = units_list law ys xs (elements_units all es) a e in
    (subst (λ q. Elements s Distinguished u ws n q) f es, subst (Ascending AtMost) f st)

-- the elements, with their encodings
pub record ListParts (s : List Resolved) (r : Rules) (u : TypeNumber) (ws : Row) (n : ℕ) (o : List ℕ) : Type 0 where
  pub encodings : List (List ℕ)
  pub elements : Elements s r u ws n encodings
  pub whole : o ≡ concat encodings

pub sequence_of_parts : {s : List Resolved} {r : Rules} {c : Constraint} {u : TypeNumber} {ws : Row} {n : ℕ} {b : Bool} {o : List ℕ} → ContentsEncode s r (a_sequence_of c u) (list ws) n b o → ListParts s r u ws n o
sequence_of_parts (leaf con) = elim con [ ]
sequence_of_parts (sequence_of {xs = xs} es) = record { encodings = xs; elements = es; whole = refl }

pub set_of_parts : {s : List Resolved} {r : Rules} {c : Constraint} {u : TypeNumber} {ws : Row} {n : ℕ} {b : Bool} {o : List ℕ} → ContentsEncode s r (a_set_of c u) (list ws) n b o → ListParts s r u ws n o
set_of_parts (leaf con) = elim con [ ]
set_of_parts (set_of {xs = xs} es st) = record { encodings = xs; elements = es; whole = refl }

pub list_units : {s : List Resolved} {r : Rules} {u : TypeNumber} {ws : Row} {n : ℕ} {o : List ℕ} → AllTagged s → length o ≤ 16777216 → (p : ListParts s r u ws n o) → AreUnits p.encodings o
list_units all l p = record { units = elements_units all p.elements; whole = p.whole; short = l }

-- ---- an alternative

pub chosen : {s : List Resolved} {r : Rules} {root more : List Alternative} {e : Bool} {i n : ℕ} {w : AbstractValue} {b : Bool} {x : List ℕ} {a : Alternative} → ContentsEncode s r (a_choice root e more) (alternative i w) n b x → slice_get (root ++ more) i ≡ Some a → EncodesTo s r a.type w n x
chosen (leaf con) e = elim con [ ]
chosen {s} {r} {n = n} {w = w} {x = x} (choice {a = d} g h) e = subst (λ q. EncodesTo s r q.type w n x) (some_same (sym g ∙ e)) h

pub record ChoiceParts (s : List Resolved) (r : Rules) (root more : List Alternative) (i n : ℕ) (w : AbstractValue) (x : List ℕ) : Type 0 where
  pub alternative_there : Alternative
  pub is_at : slice_get (root ++ more) i ≡ Some alternative_there
  pub says_it : EncodesTo s r alternative_there.type w n x

pub choice_parts : {s : List Resolved} {r : Rules} {root more : List Alternative} {e : Bool} {i n : ℕ} {w : AbstractValue} {b : Bool} {x : List ℕ} → ContentsEncode s r (a_choice root e more) (alternative i w) n b x → ChoiceParts s r root more i n w x
choice_parts (leaf con) = elim con [ ]
choice_parts (choice {a = d} g h) = record { alternative_there = d; is_at = g; says_it = h }
