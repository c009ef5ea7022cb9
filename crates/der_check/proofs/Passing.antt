-- What a quick test finds of a whole by what it finds of its parts.
use Rattle.std.proofs.Common.{arith, ◌≡◌, ℕ, zero, suc, ◌+◌, ◌-◌, ◌≤◌, Bool, true, false, List, [], ◌∷◌, ◌++◌, length, take, drop, refl, sym, ap, subst, ◌∙◌, append_assoc, length-append}
use Rattle.std.specs.Prelude.{◌↔◌, ◌==◌, ◌&&◌, IsTrue, Option, Some, None, slice_get, nat_lt, if◌then◌else◌}
use Rattle.asn_base.specs.declared.tag.Tag.{Tag}
use Rattle.asn_base.specs.declared.schema.TypeId.{TypeId}
use Rattle.asn_base.specs.Abstract.{AbstractValue, alternative, Row, end, row_of_options}
use Rattle.asn_base.specs.Schemas.{IsSchema}
use Rattle.asn_base.specs.Types.{TypeNumber, Alternative, Kind, a_sequence, a_set, Component, Resolved}
use Rattle.asn_base.specs.Typed.{ValueIn}
use Rattle.encodings.specs.Header.{Header, HeaderBy, FewestOctets, identifier}
use Rattle.encodings.specs.Fewest.{shortest_header}
use Rattle.encodings.specs.Rules.{Rules, Basic, Distinguished}
use Rattle.encodings.specs.Contents.{Contents, of_false, of_true, of_integer, of_enumerated, of_bits, of_named_bits, of_octets, of_null, of_oid, of_relative_oid, of_utf8, of_restricted}
use Rattle.encodings.specs.Leaves.{plain}
use Rattle.encodings.specs.Encoding.{EncodesTo, ContentsEncode, leaf, sequence, set, sequence_of, set_of, choice, Elements, no_element}
use Rattle.encodings.specs.declared.leaf_kind.LeafKind.{LeafKind}
use Rattle.encodings.specs.declared.leaf_kind.LeafKind.TheVariants as leaves
use Rattle.codec_code.specs.declared.step.Head.{Head as Head'}
use Rattle.codec_code.specs.declared.step.Step.{Step}
use Rattle.codec_code.specs.declared.step.Step.TheVariants.{Head, Leaf, Pick, End}
use Rattle.codec_code.specs.Routines.{routine_at, body, ends, rest_if, choice_of, id_of, field_of, need_of, component_in}
use Rattle.codec_code.specs.Steps.{IsDefaultAt}
use Rattle.codec_code.specs.declared.step.Field.{Field as Field'}
use Rattle.octet_answers.specs.Units.{UnitAt}
use Rattle.der_check.specs.Sets.{ReadsComponents}
use Rattle.der_check.specs.Units.{IsUnit, AreUnits}
use Rattle.der_check.specs.Heads.{IsInside, IsBare, IsWithinHeaders, no_head, in_head}
use Rattle.der_check.specs.Strict.{form_of, ValueGiven, ContentsGiven, MemberGiven, MemberBy, PartGiven, PartBy, ComesFirst, SequenceBy}
use Rattle.der_check.proofs.Split.{HeadersApart, one_unit}
use Rattle.der_check.proofs.Shortened.{tag_shorter}
use Rattle.der_check.proofs.Leafs.{HoldsOthers}
use Rattle.der_check.proofs.KindParts.{says_begins}
use Rattle.der_check.proofs.Taking.{SequenceLeft, SequenceTaken, sequence_end, ElementsLeft, ElementTaken, is_none}
use Rattle.der_check.proofs.Deciding.{choice_given, leaf_given, value_opened, Opened, next_given, next_first, field_type, default_at}

-- ---- headers

identifier_some : (t : Tag) (c : Bool) → 1 ≤ length (identifier t.class t.number c)
unfolding identifier
identifier_some t c = by _ _ _ (nat_lt t.number 31)
  where
    by : (x y : ℕ) (ys : List ℕ) (b : Bool) → 1 ≤ length (if b then x ∷ [] else y ∷ ys)
    by x y ys true = omega arith
    by x y ys false = omega arith

-- no header has fewer than two octets
pub fewest_two : {t : Tag} {c : Bool} {n : ℕ} (h : List ℕ) → length h ≡ 2 → FewestOctets t c n h
fewest_two {t} {c} h e p a = let i = identifier_some t c in let s = tag_shorter a in omega (arith, e, i, s)

pub fewest_least : {g : Tag} {c : Bool} {n : ℕ} (h : List ℕ) → ((t : Tag) (c : Bool) (n : ℕ) (p : List ℕ) → Header t c n p → length (shortest_header t c n) ≤ length p) → length h ≡ length (shortest_header g c n) → FewestOctets g c n h
fewest_least {g} {c} {n} h least e p a = let l = least g c n p a in omega (arith, e, l)

-- the encoding at the start of octets is in this header
abbrev pub IsFirst : Head' → List ℕ → List ℕ → List ℕ → Type 0
IsFirst h x r o = (y : List ℕ) × IsInside h x y × (o ≡ y ++ r)

pub first_unit : (h : Head') {g : Tag} {c : Bool} {k : ℕ} {x r o : List ℕ} → (u : UnitAt g c k x r o) → g ≡ h.tag → c ≡ h.constructed → FewestOctets g c (length x) u.header → IsFirst h x r o
first_unit h {g} {c} {k} {x} {r} {o} u e f few =
    let by : HeaderBy Distinguished g c (length x) u.header = record { header = u.is_header; fewest = few } in (
      u.header ++ x,
      record {
        header = u.header;
        is_header = subst (λ q. HeaderBy Distinguished q h.constructed (length x) u.header) e (subst (λ q. HeaderBy Distinguished g q (length x) u.header) f by);
        whole = refl;
      },
      u.whole ∙ sym (append_assoc u.header x r),
    )

inside_is_unit : {h : Head'} {x y : List ℕ} → IsInside h x y → IsUnit h.tag y
inside_is_unit {h} {x} i = record { constructed = h.constructed; header = i.header; contents = x; is_header = i.is_header.header; whole = i.whole }

-- ---- a value

-- what is found of the value of a type: its encoding x has n octets, and is by the distinguished rules
abbrev pub ValuePasses : List Resolved → TypeNumber → AbstractValue → List ℕ → ℕ → Type 0
ValuePasses s t v x n = (n ≡ length x) × ((j : ℕ) × EncodesTo s Distinguished t v j x)

some_levels : {s : List Resolved} {n t : ℕ} {v : AbstractValue} → ValueIn s n t v → (m : ℕ) × (n ≡ suc m)
some_levels {n = zero} h = elim h [ ]
some_levels {n = suc m} h = (m, refl)

-- an encoding in a header at the start of octets is that of the value there
there_first : HeadersApart → {s : List Resolved} {t n : ℕ} {v : AbstractValue} {h : Head'} {z y x o : List ℕ} (q r : List ℕ) → IsSchema s → IsInside h z y → o ≡ y ++ q → ValueGiven s t n v x → o ≡ x ++ r → y ≡ x
there_first law {h = h} q r sch i e g f = (one_unit law (inside_is_unit i) (says_begins sch.tagged g.says_it).unit (sym e ∙ f)).octets

-- the number of its octets
counted_first : {n : ℕ} {x y o : List ℕ} (q : List ℕ) → o ≡ y ++ q → n ≡ length o - length q → y ≡ x → n ≡ length x
counted_first {y = y} q e f g = let a = ap length e in let b = length-append y q in let d = ap length g in omega (arith, a, b, d, f)

pub divided_first : (x r : List ℕ) {o front back : List ℕ} (n : ℕ) → o ≡ x ++ r → n ≡ length x → front ≡ take n o → back ≡ drop n o → (front ≡ x) × (back ≡ r)
divided_first x r {o} n e f g h = (
  g ∙ ap (take n) e ∙ ap (λ q. take q (x ++ r)) f ∙ front_of x,
  h ∙ ap (drop n) e ∙ ap (λ q. drop q (x ++ r)) f ∙ back_of x,
)
  where
    front_of : (x : List ℕ) → take (length x) (x ++ r) ≡ x
    front_of [] = refl
    front_of (a ∷ x) = ap (λ q. a ∷ q) (front_of x)

    back_of : (x : List ℕ) → drop (length x) (x ++ r) ≡ r
    back_of [] = refl
    back_of (a ∷ x) = back_of x

-- ---- contents that hold no others

abbrev begins_leaf : List Step → Bool
begins_leaf [] = false
begins_leaf (Leaf k ∷ ss) = true
begins_leaf (p ∷ ss) = false

never_true : {b : Bool} → true ≡ b → b ≡ false → ⊥
never_true e f = cc

no_leaf_ends : (n : ℕ) → begins_leaf (ends n) ≡ false
no_leaf_ends zero = refl
no_leaf_ends (suc n) = refl

no_leaf_rest : (e : Bool) (n : ℕ) → begins_leaf (rest_if e ++ ends n) ≡ false
no_leaf_rest true n = refl
no_leaf_rest false n = no_leaf_ends n

no_leaf_sequence : (s : List Resolved) (e : Bool) (cs : List Component) (n : ℕ) → begins_leaf (body s (a_sequence e cs) ++ ends n) ≡ false
no_leaf_sequence s e [] n = no_leaf_rest e n
no_leaf_sequence s e (c ∷ cs) n = refl

no_leaf_set : (s : List Resolved) (e : Bool) (cs : List Component) (n : ℕ) → begins_leaf (body s (a_set e cs) ++ ends n) ≡ false
no_leaf_set s e [] n = no_leaf_rest e n
no_leaf_set s e (c ∷ cs) n = refl

holds_none : {r : Rules} {k : Kind} {v : AbstractValue} {c : Bool} {x : List ℕ} → Contents r k v c x → HoldsOthers v → ⊥
holds_none of_false h = h
holds_none (of_true a l e) h = h
holds_none (of_integer a) h = h
holds_none (of_enumerated a) h = h
holds_none (of_bits a e y) h = h
holds_none (of_named_bits a e y z) h = h
holds_none (of_octets a e) h = h
holds_none of_null h = h
holds_none (of_oid a) h = h
holds_none (of_relative_oid a) h = h
holds_none (of_utf8 a e) h = h
holds_none (of_restricted a e) h = h

-- a value whose steps begin with a leaf holds no others
leaf_flat : {s : List Resolved} {t n : ℕ} {k : LeafKind} {ss : List Step} {v : AbstractValue} {kd : Kind} {x : List ℕ} → ContentsGiven s t n (Leaf k ∷ ss) v kd x → HoldsOthers v → ⊥
leaf_flat {s} {k = k} {ss = ss} g = by g.holds_it (ap begins_leaf g.steps)
  where
    by : {kd : Kind} {m : ℕ} {c : Bool} {v : AbstractValue} {y : List ℕ} → ContentsEncode s Basic kd v m c y → true ≡ begins_leaf (body s kd ++ ends g.ended) → HoldsOthers v → ⊥
    by (leaf con) e h = holds_none con h
    by (sequence {e = b} {cs = cs} ms u) e h = never_true e (no_leaf_sequence s b cs g.ended)
    by (set {e = b} {cs = cs} ms p st u m) e h = never_true e (no_leaf_set s b cs g.ended)
    by (sequence_of es) e h = never_true e refl
    by (set_of es st) e h = never_true e refl
    by (choice q a) e h = never_true e refl

-- contents of most kinds have no other form by the distinguished rules
pub others_strict : (k : LeafKind) → (k ≡ leaves.Boolean → ⊥) → (k ≡ leaves.BitString → ⊥) → (k ≡ leaves.NamedBits → ⊥) → {v : AbstractValue} {x : List ℕ} → Contents Basic (plain k) v false x → Contents Distinguished (plain k) v false x
others_strict leaves.Boolean a b c h = absurd (a refl)
others_strict leaves.BitString a b c h = absurd (b refl)
others_strict leaves.NamedBits a b c h = absurd (c refl)
others_strict leaves.Integer a b c (of_integer p) = of_integer p
others_strict leaves.Enumerated a b c (of_enumerated p) = of_enumerated p
others_strict leaves.OctetString a b c (of_octets p e) = of_octets p refl
others_strict leaves.Null a b c of_null = of_null
others_strict leaves.ObjectIdentifier a b c (of_oid p) = of_oid p
others_strict leaves.RelativeOid a b c (of_relative_oid p) = of_relative_oid p
others_strict leaves.Utf8String a b c (of_utf8 p e) = of_utf8 p refl
others_strict (leaves.RestrictedString k) a b c (of_restricted p e) = of_restricted p refl

leaf_same : {k l : LeafKind} {ss rs : List Step} → Leaf k ∷ ss ≡ Leaf l ∷ rs → k ≡ l
leaf_same e = cc

-- what is found of a leaf with a short header at the start of octets
abbrev pub IsShortLeaf : Head' → LeafKind → ℕ → List ℕ → Type 0
IsShortLeaf h k n o = (z : List ℕ) × (y : List ℕ) × (q : List ℕ) × IsInside h z y × (o ≡ y ++ q) × (n ≡ length o - length q) × ((v : AbstractValue) → Contents Basic (plain k) v false z → Contents Distinguished (plain k) v false z)

pub leaf_passes : HeadersApart → {s : List Resolved} {t n c : ℕ} {v : AbstractValue} {h : Head'} {k : LeafKind} {x o : List ℕ} (r : List ℕ) → IsSchema s → routine_at s t ≡ Head h ∷ Leaf k ∷ End ∷ [] → IsShortLeaf h k c o → ValueGiven s t n v x → o ≡ x ++ r → ValuePasses s t v x c
leaf_passes law {s} {t} {n} {c} {v} {h} {k} {x} {o} r sch e f g a =
    let z = f.0 in
    let same = there_first law f.2 r sch f.3 f.4 g a in
    let lev = some_levels g.value in
    let w : IsWithinHeaders (Head h ∷ Leaf k ∷ End ∷ []) x (Leaf k ∷ End ∷ []) z = in_head (subst (IsInside h z) same f.3) (no_head tt) in
    let op = value_opened law lev.0 lev.1 sch (sym e) g w in
    let l = leaf_given (leaf_flat op.given) op.given in
    let kind = leaf_same l.steps in
    (counted_first f.2 f.4 f.5 same, (0, op.there 0 (l.back (subst (λ p. Contents Distinguished (plain p) v false z) kind (f.6 v (subst (λ p. Contents Basic (plain p) v false z) (sym kind) l.basic))))))

-- ---- by steps

-- contents are by the distinguished rules, if the answer about them is true
abbrev pub ContentsPass : List Resolved → TypeNumber → ℕ → List Step → AbstractValue → List ℕ → Bool → Type 0
ContentsPass s t n ss v z b = (k : Kind) → ContentsGiven s t n ss v k z → IsTrue b → (j : ℕ) × ContentsEncode s Distinguished k v j (form_of k) z

-- what is found of octets within a header, whose steps may begin with more headers
abbrev pub InsidePasses : List Resolved → TypeNumber → ℕ → List Step → AbstractValue → List ℕ → Type 0
InsidePasses s t n st v o = (ss : List Step) × (z : List ℕ) × IsWithinHeaders st o ss z × ((k : Kind) → ContentsGiven s t n ss v k z → (j : ℕ) × ContentsEncode s Distinguished k v j (form_of k) z)

pub framed_passes : HeadersApart → {s : List Resolved} {t n c : ℕ} {v : AbstractValue} {h : Head'} {p : Step} {st f : List Step} {z q x o : List ℕ} (r : List ℕ) (m : ℕ) → n ≡ suc m → IsSchema s → st ≡ routine_at s t → st ≡ p ∷ f → p ≡ Head h → IsFirst h z q o → c ≡ length o - length q → InsidePasses s t m f v z → ValueGiven s t n v x → o ≡ x ++ r → ValuePasses s t v x c
framed_passes law {h = h} {f = f} {z = z} {q = q} {x = x} r m lev sch e d i w a b g ar =
    let same = there_first law q r sch w.1 w.2 g ar in
    let op = value_opened law m lev sch (ap (λ p. p ∷ f) (sym i) ∙ sym d ∙ e) g (in_head (subst (IsInside h z) same w.1) b.2) in
    let l = b.3 op.kind op.given in
    (counted_first q w.2 a same, (l.0, op.there l.0 l.1))

choice_opened : HeadersApart → {s : List Resolved} {t n k : ℕ} {v w : AbstractValue} {p : Step} {st f : List Step} {x : List ℕ} (m : ℕ) → n ≡ suc m → IsSchema s → st ≡ routine_at s t → st ≡ p ∷ f → p ≡ Pick k → v ≡ w → ValueGiven s t n v x → Opened s t m w st x x
choice_opened law {s} {t} {n} {k} {w = w} {st = st} {f = f} {x = x} m lev sch e d i same g = value_opened law m lev sch e (subst (λ q. ValueGiven s t n q x) same g) (no_head (subst IsBare (sym (d ∙ ap (λ q. q ∷ f) i)) tt))

-- ---- contents

pub contents_as : {s : List Resolved} {t n : ℕ} {ss : List Step} {v w : AbstractValue} {z : List ℕ} {b : Bool} → v ≡ w → ContentsPass s t n ss w z b → ContentsPass s t n ss v z b
contents_as {s} {t} {n} {ss} {z = z} {b = b} e = subst (λ q. ContentsPass s t n ss q z b) (sym e)

some_same : {A : Type 0} {x y : A} → Some x ≡ Some y → x ≡ y
some_same e = cc

none_some : {A : Type 0} {x : A} → None ≡ Some x → ⊥
none_some e = cc

-- the alternative's value at the start of octets
pub record ChosenGiven (s : List Resolved) (n : ℕ) (u : TypeId) (k : Kind) (i : ℕ) (w : AbstractValue) (x : List ℕ) : Type 0 where
  pub given : ValueGiven s u.index n w x
  pub there : (j : ℕ) → EncodesTo s Distinguished u.index w j x → ContentsEncode s Distinguished k (alternative i w) j (form_of k) x

pub chosen_given : {s : List Resolved} {t n i : ℕ} {ss : List Step} {x : List ℕ} {w : AbstractValue} {o : Option TypeId} (u : TypeId) → o ≡ Some u → ((as' : List Alternative) (rest : List Step) (a : Alternative) → ss ≡ choice_of as' ++ rest → slice_get as' i ≡ Some a → o ≡ Some (id_of a.type)) → (k : Kind) → ContentsGiven s t n ss (alternative i w) k x → ChosenGiven s n u k i w x
chosen_given {s} {n = n} {x = x} {w = w} u e f k g =
    let q = choice_given k g in
    let ty : u ≡ id_of q.alternative_there.type = some_same (sym e ∙ f q.all q.rest q.alternative_there q.steps q.is_at) in
    record {
      given = subst (λ z. ValueGiven s z.index n w x) (sym ty) q.given;
      there = λ j d. q.there j (subst (λ z. EncodesTo s Distinguished z.index w j x) ty d);
    }

-- the value of a CHOICE without a tag passes if that of its alternative does
pub record ChoicePasses (s : List Resolved) (t m : ℕ) (u : TypeId) (v w : AbstractValue) (x : List ℕ) : Type 0 where
  pub given : ValueGiven s u.index m w x
  pub there : (j : ℕ) → EncodesTo s Distinguished u.index w j x → EncodesTo s Distinguished t v j x

pub choice_passes : HeadersApart → {s : List Resolved} {t n k i : ℕ} {v w : AbstractValue} {p : Step} {st f : List Step} {x : List ℕ} {o : Option TypeId} (m : ℕ) → n ≡ suc m → IsSchema s → st ≡ routine_at s t → st ≡ p ∷ f → p ≡ Pick k → v ≡ alternative i w → (u : TypeId) → o ≡ Some u → ((as' : List Alternative) (rest : List Step) (a : Alternative) → st ≡ choice_of as' ++ rest → slice_get as' i ≡ Some a → o ≡ Some (id_of a.type)) → ValueGiven s t n v x → ChoicePasses s t m u v w x
choice_passes law {s} {t} {x = x} m lev sch e d q same u f h g =
    let op = choice_opened law m lev sch e d q same g in
    let c = chosen_given u f h op.kind op.given in
    record {
      given = c.given;
      there = λ j a. subst (λ z. EncodesTo s Distinguished t z j x) (sym same) (op.there j (c.there j a));
    }

pub leaf_contents : {s : List Resolved} {t n : ℕ} {ss : List Step} {v w : AbstractValue} {z : List ℕ} {b : Bool} → v ≡ w → (HoldsOthers w → ⊥) → ((lk : LeafKind) (rest : List Step) (u : AbstractValue) → ss ≡ Leaf lk ∷ rest → Contents Basic (plain lk) u false z → IsTrue b ↔ Contents Distinguished (plain lk) u false z) → ContentsPass s t n ss v z b
leaf_contents {w = w} e flat f = contents_as e (λ k g y. let l = leaf_given flat g in (0, l.back ((f l.kind l.rest w l.steps l.basic).0 y)))

-- ---- components

both_true : (a b : Bool) → IsTrue (a && b) ↔ (IsTrue a × IsTrue b)
both_true true b = (λ e. (refl, e), λ p. p.1)
both_true false b = (λ e. absurd cc, λ p. p.0)

-- what is left of components, of which those before are by the distinguished rules
abbrev pub SequencePasses : List Resolved → ℕ → List Component → Row → List (List ℕ) → List (List ℕ) → ℕ → List (Option AbstractValue) → List ℕ → ℕ → Type 0
SequencePasses s n cs ws xs us i os rest total = (whole : Bool) × SequenceLeft s n cs ws xs us i os whole rest total

pub sequence_next : {s : List Resolved} {t : TypeNumber} {n : ℕ} {ss : List Step} {cs : List Component} {ws : Row} {xs us : List (List ℕ)} {i : ℕ} {o : Option AbstractValue} {os : List (Option AbstractValue)} {whole : Bool} {rest : List ℕ} {total : ℕ} (k : SequenceTaken s t n ss cs ws xs us i o os whole rest total) → (j : ℕ) × PartBy s k.component o k.encoding j → SequencePasses s n cs ws xs us (i + 1) os k.following total
sequence_next {whole = whole} k p = let b = p.0 == 0 in (whole && b, k.next p.0 b (whole && b) p.1 (is_none b p.0 refl) (both_true whole b))

pub sequence_passed : {s : List Resolved} {n i : ℕ} {cs : List Component} {os all : List (Option AbstractValue)} {xs us : List (List ℕ)} {rest : List ℕ} {total : ℕ} → SequencePasses s n cs (row_of_options all) xs us i os rest total → os ≡ [] → (j : ℕ) × SequenceBy s all cs xs us j
sequence_passed {rest = rest} l e =
    let b = length rest == 0 in
    let d = sequence_end l.1 e (is_none b (length rest) refl) (both_true l.0 b) in
    (d.0, d.1)

-- the next component
pub member_first : {s : List Resolved} {t n i : ℕ} {ss : List Step} {o : Option AbstractValue} {c : Component} (v : AbstractValue) (x r octets : List ℕ) → o ≡ Some v → PartGiven s t n ss o i c x → ComesFirst o x r octets → MemberGiven s t n ss v i c x × (octets ≡ x ++ r) × (length octets ≤ 16777216)
member_first v x r octets e p f = let z = next_first x r octets v e f in (next_given v e p, z.0, z.1)

pub member_by : {s : List Resolved} {c : Component} {x : List ℕ} {o : Option AbstractValue} (v : AbstractValue) → o ≡ Some v → (j : ℕ) × MemberBy s c v x j → (j : ℕ) × PartBy s c o x j
member_by {s} {c} {x} v e p = subst (λ q. (j : ℕ) × PartBy s c q x j) (sym e) p

pub absent_by : (s : List Resolved) (c : Component) (x r octets : List ℕ) {o : Option AbstractValue} → o ≡ None → ComesFirst o x r octets → (octets ≡ r) × ((j : ℕ) × PartBy s c o x j)
absent_by s c x r octets e f = (subst (λ q. ComesFirst q x r octets) e f, subst (λ q. (j : ℕ) × PartBy s c q x j) (sym e) (0, refl))

-- ---- elements

abbrev pub ElementsPass : List Resolved → TypeNumber → ℕ → Row → List (List ℕ) → Row → List ℕ → ℕ → Type 0
ElementsPass s t n ws xs vs rest total = (whole : Bool) × ElementsLeft s t n ws xs vs whole rest total

pub elements_next : {s : List Resolved} {t : TypeNumber} {n : ℕ} {ws : Row} {xs : List (List ℕ)} {v : AbstractValue} {vs : Row} {whole : Bool} {rest : List ℕ} {total : ℕ} (k : ElementTaken s t n ws xs v vs whole rest total) → (j : ℕ) × EncodesTo s Distinguished t v j k.encoding → ElementsPass s t n ws xs vs k.following total
elements_next {whole = whole} k p = let b = p.0 == 0 in (whole && b, k.next p.0 b (whole && b) p.1 (is_none b p.0 refl) (both_true whole b))

-- ---- a component that isn't the same as its DEFAULT

pub record MemberPasses (s : List Resolved) (n : ℕ) (u : TypeNumber) (c : Component) (v : AbstractValue) (x : List ℕ) : Type 0 where
  pub given : ValueGiven s u n v x
  pub there : (j : ℕ) → EncodesTo s Distinguished u v j x → MemberBy s c v x j

pub member_given : {s : List Resolved} {t n i : ℕ} {ss : List Step} {v : AbstractValue} {c : Component} {x : List ℕ} (o : Option Field') (f : Field') (b : Bool) → o ≡ Some f → ((cs : List Component) (d : Component) → ReadsComponents cs 0 ss → slice_get cs i ≡ Some d → o ≡ Some (field_of i d)) → ((d : Component) → component_in s t f.place ≡ Some d → f.need ≡ need_of d.presence → IsTrue b → IsDefaultAt s t f.place v → ⊥) → IsTrue b → IsSchema s → ((s : List Resolved) (t m n : ℕ) (v : AbstractValue) → m ≤ n → ValueIn s m t v → ValueIn s n t v) → MemberGiven s t n ss v i c x → MemberPasses s n f.ty.index c v x
member_given {s} {t} {n} {i} {v = v} {c = c} {x = x} o f b e h q y sch grow m =
    let ty = field_type o f e h m in
    let is = some_same (sym e ∙ h m.all c m.steps.reads m.is_at) in
    let place = ap (λ z. z.place) is in
    let at = m.steps.placed i c m.is_at in
    let no = q c (subst (λ z. component_in s t z ≡ Some c) (sym place) at) (ap (λ z. z.need) is) y in
    record {
      given = subst (λ z. ValueGiven s z n v x) (sym ty) m.given;
      there = λ j d. record {
        says_it = subst (λ z. EncodesTo s Distinguished z v j x) ty d;
        no_default = λ z w. no (subst (λ p. IsDefaultAt s t p v) (sym place) (default_at sch grow at m.given.few m.given.value w));
      };
    }

-- no octets are left after the last element
pub elements_left : {s : List Resolved} {t : TypeNumber} {n : ℕ} {ws : Row} {xs : List (List ℕ)} {vs : Row} {whole : Bool} {rest : List ℕ} {total : ℕ} → ElementsLeft s t n ws xs vs whole rest total → vs ≡ end → length rest ≡ 0
elements_left {s} {t} {rest = rest} l e = by (subst (λ q. Elements s Basic t q l.count l.todo) e l.says_them) l.units
  where
    by : {k : ℕ} {todo : List (List ℕ)} → Elements s Basic t end k todo → AreUnits todo rest → length rest ≡ 0
    by no_element u = ap length u.whole
