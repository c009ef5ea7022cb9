-- Octets that break a rule aren't those of the distinguished rules.
use Rattle.std.proofs.Common.{◌≡◌, ℕ, ◌+◌, Bool, true, false, List, ◌++◌, refl, sym, ap, subst, ◌∙◌}
use Rattle.std.specs.List.{concat}
use Rattle.asn_base.specs.declared.tag.Tag.{Tag}
use Rattle.asn_base.specs.Abstract.{AbstractValue, Row}
use Rattle.asn_base.specs.Schemas.{IsSchema}
use Rattle.asn_base.specs.Types.{TypeNumber, Kind, a_set, Component, Resolved, Is}
use Rattle.encodings.specs.Strings.{whole_bits}
use Rattle.encodings.specs.Contents.{Contents, of_true, of_bits, of_named_bits}
use Rattle.encodings.specs.Orders.{Ascending, InTagOrder}
use Rattle.encodings.specs.Rules.{Basic, Distinguished}
use Rattle.encodings.specs.Encoding.{Framed, EncodesTo, says, ContentsEncode, leaf, sequence, set, sequence_of, set_of, choice, Members, left_out, member, Elements, element}
use Rattle.der_check.specs.declared.rule.RuleOfDer.{RuleOfDer}
use Rattle.der_check.specs.Broken.{PrimitiveBreaks, other_true, one_unused, one_unused_named, zero_last, HasMember, member_first, after_absent, after_present, HasElement, element_first, element_later, Breaks, long_length, in_segments, by_contents, ContentsBreak, by_primitive, in_sequence, in_set, by_tag, in_sequence_of, in_set_of, by_element, in_choice, MemberBreaks, in_member, by_default}
use Rattle.der_check.specs.Strict.{MemberBy, form_of}
use Rattle.der_check.proofs.Deciding.{OneCount}
use Rattle.der_check.proofs.Frames.{long_framed, innermost_framed, long_not, one_form, one_contents, breaks_form}
use Rattle.der_check.proofs.KindParts.{same_tags, same_kind, strict_form, SequenceParts, sequence_parts, sequence_same, elements_units, elements_of, members_of, chosen}
use Rattle.der_check.proofs.Leafs.{is_plain}
use Rattle.der_check.proofs.Orders.{falls_not}
use Rattle.der_check.proofs.SetParts.{SetParts, set_parts, set_same}
use Rattle.der_check.proofs.Split.{HeadersApart}

-- ---- contents

primitive_not : {s : List Resolved} {k : Kind} {v : AbstractValue} {c : Bool} {x : List ℕ} {r : RuleOfDer} {j n : ℕ} → PrimitiveBreaks k v x r n → ContentsEncode s Distinguished k v j c x → ⊥
primitive_not (other_true a b n) (leaf (of_true a' b' e)) = n e
primitive_not (one_unused w f) (leaf (of_bits p e z)) = f z
primitive_not (one_unused_named w f) (leaf (of_named_bits p e z y)) = f z
primitive_not (zero_last w z f) (leaf (of_named_bits p e z' y)) = f y

member_at : {s : List Resolved} {cs : List Component} {ws : Row} {xs : List (List ℕ)} {c : Component} {w : AbstractValue} {x : List ℕ} {m n : ℕ} → HasMember cs ws xs c w x m → Members s Distinguished cs ws n xs → (j : ℕ) × MemberBy s c w x j
member_at member_first (member {j = j} a d ms) = (j, record { says_it = a; no_default = d })
member_at (after_absent h) (left_out e ms) = member_at h ms
member_at (after_present h) (member a d ms) = member_at h ms

pub element_at : {s : List Resolved} {u : TypeNumber} {ws : Row} {xs : List (List ℕ)} {w : AbstractValue} {x : List ℕ} {m n : ℕ} → HasElement ws xs w x m → Elements s Distinguished u ws n xs → (j : ℕ) × EncodesTo s Distinguished u w j x
element_at element_first (element {j = j} a es) = (j, a)
element_at (element_later h) (element a es) = element_at h es

module _ (law : HeadersApart) {s : List Resolved} (sch : IsSchema s) (one : OneCount s) where
  mutual
    pub breaks_not : {t : TypeNumber} {v : AbstractValue} {o : List ℕ} {r : RuleOfDer} {j n : ℕ} → Breaks s t v o r n → EncodesTo s Distinguished t v j o → ⊥
    breaks_not {o = o} (long_length i h l) (says {c = d} {x = y} i' h' f) = long_not law l (subst (λ q. Framed Distinguished q d y o) (same_tags i' i) f) refl
    breaks_not {v = v} {o = o} (in_segments {k = k} i con p) (says {k = k'} {c = d} {x = y} i' h' f) =
        let form = one_form law p (subst (λ q. Framed Distinguished q d y o) (same_tags i' i) f) refl in
        let e : true ≡ false = form ∙ strict_form h' ∙ ap form_of (same_kind i' i) ∙ (is_plain s con).form in
        cc
    breaks_not {v = v} {o = o} {j = j} (by_contents {tags = tags} {k = k} {c = c} {x = x} i fr b) (says {k = k'} {c = d} {x = y} i' h' f) =
        let inside = one_contents law tags fr (subst (λ q. Framed Distinguished q d y o) (same_tags i' i) f) in
        let form : d ≡ c = strict_form h' ∙ ap form_of (same_kind i' i) ∙ sym (breaks_form b) in
        contents_not i b (subst (λ q. ContentsEncode s Distinguished k v j c q) (sym inside) (subst (λ q. ContentsEncode s Distinguished k v j q y) form (subst (λ q. ContentsEncode s Distinguished q v j d y) (same_kind i' i) h')))

    contents_not : {t : TypeNumber} {tags : List Tag} {k : Kind} {v : AbstractValue} {c : Bool} {x : List ℕ} {r : RuleOfDer} {j n : ℕ} → Is s t tags k → ContentsBreak s k v c x r n → ContentsEncode s Distinguished k v j c x → ⊥
    contents_not i (by_primitive p) h = primitive_not p h
    contents_not i (in_sequence {j = j} {k = k} {cs = cs} {ws = ws} {xs = xs} {us = us} ms u m b) h =
        let p : SequenceParts s Basic _ cs ws (j + k) (concat (xs ++ us)) = record { known = xs; others = us; count = j; skipped = k; members = ms; unknown_ones = u; whole = refl; counts = refl } in
        let q = sequence_parts h in
        member_not b (member_at m (subst (Members s Distinguished cs ws q.count) (sequence_same law sch.tagged p q).0 q.members)).1
    contents_not {t} {tags} i (in_set {j = j} {k = k} {e = e} {cs = cs} {ws = ws} {xs = xs} {zs = zs} {us = us} {ys = ys} ms pm u mg m st b) h =
        let p : SetParts s Basic e cs ws (j + k) (concat ys) = record { known = xs; in_order = zs; others = us; all = ys; count = j; skipped = k; members = ms; permutes = pm; sorted = tt; unknown_ones = u; merges = mg; whole = refl; counts = refl } in
        let q = set_parts h in
        member_not b (member_at m (subst (Members s Distinguished cs ws q.count) (set_same law sch.tagged (sch.distinct_tags t tags (a_set e cs) i) p q).known q.members)).1
    contents_not {t} {tags} i (by_tag {j = j} {k = k} {e = e} {cs = cs} {ws = ws} {xs = xs} {zs = zs} {us = us} {ys = ys} ms pm u mg f st) h =
        let p : SetParts s Basic e cs ws (j + k) (concat ys) = record { known = xs; in_order = zs; others = us; all = ys; count = j; skipped = k; members = ms; permutes = pm; sorted = tt; unknown_ones = u; merges = mg; whole = refl; counts = refl } in
        let q = set_parts h in
        falls_not f (subst (Ascending InTagOrder) (set_same law sch.tagged (sch.distinct_tags t tags (a_set e cs) i) p q).in_order q.sorted)
    contents_not i (in_sequence_of {xs = xs} es m b) h = breaks_not b (element_at m (elements_of law xs sch.tagged (elements_units sch.tagged es) h refl)).1
    contents_not i (in_set_of {xs = xs} es m b) h = breaks_not b (element_at m (members_of law xs sch.tagged (elements_units sch.tagged es) h refl).0).1
    contents_not i (by_element {xs = xs} es f) h = falls_not f (members_of law xs sch.tagged (elements_units sch.tagged es) h refl).1
    contents_not i (in_choice at b) h = breaks_not b (chosen h at)

    pub member_not : {c : Component} {v : AbstractValue} {x : List ℕ} {r : RuleOfDer} {j n : ℕ} → MemberBreaks s c v x r n → MemberBy s c v x j → ⊥
    member_not (in_member b) m = breaks_not b m.says_it
    member_not {c = c} {v = v} {x = x} {j = j} (by_default d e) m = m.no_default (one c.type j 0 v v x m.says_it d) e

-- ---- what breaks a rule is an encoding by the basic rules

primitive_basic : {k : Kind} {v : AbstractValue} {x : List ℕ} {r : RuleOfDer} {n : ℕ} → PrimitiveBreaks k v x r n → Contents Basic k v false x
primitive_basic (other_true a b e) = of_true a b tt
primitive_basic (one_unused w f) = of_bits (whole_bits w) tt tt
primitive_basic (one_unused_named w f) = of_named_bits (whole_bits w) tt tt tt
primitive_basic (zero_last w f e) = of_named_bits (whole_bits w) tt tt tt

mutual
  pub breaks_basic : {s : List Resolved} {t : TypeNumber} {v : AbstractValue} {o : List ℕ} {r : RuleOfDer} {n : ℕ} → Breaks s t v o r n → (k : ℕ) × EncodesTo s Basic t v k o
  breaks_basic (long_length {j = j} i h l) = (j, says i h (long_framed l))
  breaks_basic (in_segments i con p) = (0, says i (leaf con) (innermost_framed p))
  breaks_basic (by_contents i f b) = let c = contents_basic b in (c.0, says i c.1 f)

  contents_basic : {s : List Resolved} {k : Kind} {v : AbstractValue} {c : Bool} {x : List ℕ} {r : RuleOfDer} {n : ℕ} → ContentsBreak s k v c x r n → (j : ℕ) × ContentsEncode s Basic k v j c x
  contents_basic (by_primitive p) = (0, leaf (primitive_basic p))
  contents_basic (in_sequence {j = j} {k = k} ms u m b) = (j + k, sequence ms u)
  contents_basic (in_set {j = j} {k = k} ms p u m h st b) = (j + k, set ms p tt u m)
  contents_basic (by_tag {j = j} {k = k} ms p u m f st) = (j + k, set ms p tt u m)
  contents_basic (in_sequence_of {j = j} es m b) = (j, sequence_of es)
  contents_basic (in_set_of {j = j} es m b) = (j, set_of es tt)
  contents_basic (by_element {j = j} es f) = (j, set_of es tt)
  contents_basic (in_choice at b) = let c = breaks_basic b in (c.0, choice at c.1)
