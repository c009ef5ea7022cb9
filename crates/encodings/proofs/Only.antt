-- An encoding by the distinguished rules is the only one by them of values that are alike.
use Rattle.std.proofs.Common.{arith, ◌≡◌, ℕ, Bool, List, [], ◌∷◌, refl, sym, ap, subst, ◌∙◌}
use Rattle.std.specs.List.{concat, AllByRecursion}
use Rattle.asn_base.specs.Abstract.{AbstractValue, Row}
use Rattle.asn_base.specs.Types.{Kind, Component, Resolved}
use Rattle.asn_base.specs.Same.{Alike, alike, AlikeBy, equal, alike_sequence, alike_set, alike_sequence_of, alike_set_of, alike_choice, AlikeComponents, no_components, both_absent, both_present, first_default, second_default, AlikeElements, no_elements, alike_element, AlikeInAnyOrder, none_left, pair}
use Rattle.asn_base.specs.Tags.{AllTagged}
use Rattle.encodings.specs.Rules.{Rules, Distinguished}
use Rattle.encodings.specs.Orders.{Permutes, permutes_none, permutes_more, EncodingInserted as ListInserted, here as list_here, AtMost, InTagOrder}
use Rattle.encodings.specs.Encoding.{EncodesTo, says, ContentsEncode, leaf, sequence, set, sequence_of, set_of, choice, Members, no_member, left_out, member, Elements, no_element, element}
use Rattle.encodings.proofs.LeafLaws.{contents_leaf}
use Rattle.encodings.specs.proving.LeafForms.{leaf_form}
use Rattle.encodings.proofs.Sorting.{permutes_sym, permutes_trans, sorted_same}
use Rattle.encodings.proofs.Units.{IsUnit, says_unit, units_apart, at_most_trans, tag_order_trans, tag_order_anti}
use Rattle.encodings.proofs.Frames.{frames_only}
use Rattle.encodings.proofs.Least.{alike_by_at, holds_at, framed_at, alternative_type, alike_at, says_at, leaves_best, leaf_in, none_unknown, no_more, merged_alone, take_out}
use Rattle.asn_base.specs.proving.OneKind.{same_tags, same_kind}

elements_units : {s : List Resolved} {r : Rules} {u n : ℕ} {vs : Row} {xs : List (List ℕ)} → AllTagged s → Elements s r u vs n xs → AllByRecursion IsUnit xs
elements_units all no_element = tt
elements_units all (element a es) = (says_unit all a, elements_units all es)

permutes_self : (xs : List (List ℕ)) → Permutes xs xs
permutes_self [] = permutes_none
permutes_self (x ∷ xs) = permutes_more (permutes_self xs) list_here

abbrev Anything : List ℕ → Type 0
Anything x = Unit {0}

all_anything : (xs : List (List ℕ)) → AllByRecursion Anything xs
all_anything [] = tt
all_anything (x ∷ xs) = (tt, all_anything xs)

-- two forms and two contents are one
abbrev Same2 : Bool → Bool → List ℕ → List ℕ → Type 0
Same2 b c x y = (c ≡ b) × (y ≡ x)

one_more : {x y : List ℕ} {xs ys : List (List ℕ)} → y ≡ x → ys ≡ xs → (y ∷ ys) ≡ (x ∷ xs)
one_more e f = cc

module _ (s : List Resolved) (turn : (t : ℕ) (v w : AbstractValue) → Alike s t v w → Alike s t w v) (all : AllTagged s) where
  mutual
    -- by the distinguished rules there is one encoding
    pub only : {t j : ℕ} {v : AbstractValue} {o : List ℕ} → EncodesTo s Distinguished t v j o → j ≡ 0 → {w : AbstractValue} {n : ℕ} {p : List ℕ} → Alike s t v w → EncodesTo s Distinguished t w n p → n ≡ 0 → p ≡ o
    only (says i h fr) z (alike j a) (says k g fr') y =
        let e = holds_only h z (alike_by_at (same_kind i j) a) (holds_at (same_kind i k) g) y in
        frames_only fr (framed_at (same_tags i k) fr') (sym e.0) e.1

    holds_only : {k : Kind} {j : ℕ} {v : AbstractValue} {b : Bool} {x : List ℕ} → ContentsEncode s Distinguished k v j b x → j ≡ 0 → {w : AbstractValue} {n : ℕ} {c : Bool} {y : List ℕ} → AlikeBy s k v w → ContentsEncode s Distinguished k w n c y → n ≡ 0 → Same2 b c x y
    holds_only (leaf con) z a g y =
        let con' = leaf_in (contents_leaf con) g in
        (leaf_form con' ∙ sym (leaf_form con), (leaves_best a con con').only)
    holds_only (sequence ms u) z (equal l) g y = absurd l
    holds_only (sequence ms u) z (alike_sequence a) (leaf con) y = elim con [ ]
    holds_only (sequence {xs = xs} {us = us} ms u) z (alike_sequence a) (sequence {xs = ys} {us = us'} ms' u') y =
        (refl, no_more ys us' (none_unknown u' (omega arith)) ∙ ap concat (members_only ms (omega arith) a ms' (omega arith)) ∙ sym (no_more xs us (none_unknown u (omega arith))))
    holds_only (set ms p st u m) z (equal l) g y = absurd l
    holds_only (set ms p st u m) z (alike_set a) (leaf con) y = elim con [ ]
    holds_only (set {xs = xs} {zs = zs} ms p st u m) z (alike_set a) (set {xs = xs'} {zs = zs'} ms' p' st' u' m') y =
        let e : xs' ≡ xs = members_only ms (omega arith) a ms' (omega arith) in
        let q : Permutes zs zs' = permutes_trans (permutes_sym p) (subst (λ l. Permutes l zs') e p') in
        let sorted : zs' ≡ zs = sorted_same InTagOrder tag_order_trans Anything (λ x y f h k l. absurd (tag_order_anti x y k l)) (all_anything zs) q st st' in
        (refl, ap concat (merged_alone m' (none_unknown u' (omega arith))) ∙ ap concat sorted ∙ sym (ap concat (merged_alone m (none_unknown u (omega arith)))))
    holds_only (sequence_of es) z (equal l) g y = absurd l
    holds_only (sequence_of es) z (alike_sequence_of a) (leaf con) y = elim con [ ]
    holds_only (sequence_of es) z (alike_sequence_of a) (sequence_of es') y = (refl, ap concat (elements_only es z a es' y))
    holds_only (set_of es st) z (equal l) g y = absurd l
    holds_only (set_of es st) z (alike_set_of a) (leaf con) y = elim con [ ]
    holds_only (set_of es st) z (alike_set_of a) (set_of es' st') y =
        (refl, ap concat (sorted_same AtMost at_most_trans IsUnit units_apart (elements_units all es) (any_only es z a es' y) st st'))
    holds_only (choice g b) z (equal l) h y = absurd l
    holds_only (choice g b) z (alike_choice f a) (leaf con) y = elim con [ ]
    holds_only (choice g b) z (alike_choice f a) (choice h b') y =
        (refl, only b z (alike_at (alternative_type g f) a) (says_at (alternative_type g h) b') y)

    members_only : {cs : List Component} {vs : Row} {j : ℕ} {xs : List (List ℕ)} → Members s Distinguished cs vs j xs → j ≡ 0 → {ws : Row} {n : ℕ} {ys : List (List ℕ)} → AlikeComponents s cs vs ws → Members s Distinguished cs ws n ys → n ≡ 0 → ys ≡ xs
    members_only no_member z no_components no_member y = refl
    members_only (left_out m ms) z (both_absent sc) (left_out m' ns) y = members_only ms z sc ns y
    members_only (left_out m ms) z (first_default {d = d} {w = w} e sm sc) (member b nd ns) y = absurd (nd (omega arith) (d, e, turn _ d w sm))
    members_only (member a nd ms) z (both_present sm sc) (member b nd' ns) y = one_more (only a (omega arith) sm b (omega arith)) (members_only ms (omega arith) sc ns (omega arith))
    members_only (member a nd ms) z (second_default {d = d} e sm sc) (left_out m ns) y = absurd (nd (omega arith) (d, e, sm))

    elements_only : {u : ℕ} {vs : Row} {j : ℕ} {xs : List (List ℕ)} → Elements s Distinguished u vs j xs → j ≡ 0 → {ws : Row} {n : ℕ} {ys : List (List ℕ)} → AlikeElements s u vs ws → Elements s Distinguished u ws n ys → n ≡ 0 → ys ≡ xs
    elements_only no_element z no_elements no_element y = refl
    elements_only (element a es) z (alike_element sm se) (element b ns) y = one_more (only a (omega arith) sm b (omega arith)) (elements_only es (omega arith) se ns (omega arith))

    any_only : {u : ℕ} {vs : Row} {j : ℕ} {xs : List (List ℕ)} → Elements s Distinguished u vs j xs → j ≡ 0 → {ws : Row} {n : ℕ} {ys : List (List ℕ)} → AlikeInAnyOrder s u vs ws → Elements s Distinguished u ws n ys → n ≡ 0 → Permutes xs ys
    any_only no_element z none_left no_element y = permutes_none
    any_only (element a es) z {ys = ys} (pair sm se at) b y =
        let out = take_out at b in
        let sum = out.sum in
        let e = only a (omega arith) sm out.it (omega arith) in
        permutes_more (any_only es (omega arith) se out.rest (omega arith)) (subst (λ q. ListInserted q out.ys ys) e out.at)
