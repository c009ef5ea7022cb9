-- An encoding by the distinguished rules, in any order within sets, isn't longer than any encoding of a value that is
-- alike.
use Rattle.std.proofs.Common.{arith, ◌≡◌, ℕ, ◌+◌, ◌≤◌, Bool, false, List, [], ◌∷◌, ◌++◌, length, replicate, refl, sym, ap, subst, ◌∙◌, length-append}
use Rattle.std.specs.Prelude.{Option, Some, None}
use Rattle.std.specs.List.{concat, AllByRecursion}
use Rattle.std.proofs.lemmas.List.{append-nil}
use Rattle.asn_base.specs.declared.tag.Tag.{Tag}
use Rattle.asn_base.specs.Abstract.{AbstractValue, Row}
use Rattle.asn_base.specs.Types.{Alternative, Kind, Component, Resolved}
use Rattle.asn_base.specs.Same.{IsLeaf, Inserted, here, there, Alike, alike, AlikeBy, equal, zeros, alike_sequence, alike_set, alike_sequence_of, alike_set_of, alike_choice, AlikeComponents, no_components, both_absent, both_present, first_default, second_default, AlikeElements, no_elements, alike_element, AlikeInAnyOrder, none_left, pair}
use Rattle.encodings.specs.Rules.{Rules, Basic, Unsorted, Distinguished, Strictly}
use Rattle.encodings.specs.Contents.{Contents, EndsInOne, of_named_bits}
use Rattle.encodings.specs.Orders.{Permutes, permutes_none, permutes_more, EncodingInserted as ListInserted, here as list_here, there as list_there, Merges, merges_none, merges_first, merges_second}
use Rattle.encodings.specs.Encoding.{Framed, no_unknown, unknown, UnknownIf, closed, extensible, EncodesTo, says, ContentsEncode, leaf, sequence, set, sequence_of, set_of, choice, Members, no_member, left_out, member, Elements, no_element, element}
use Rattle.encodings.proofs.BitLaws.{trimmed_short, trimmed_same}
use Rattle.encodings.proofs.LeafLaws.{Best, contents_best, contents_leaf, bits_best}
use Rattle.encodings.proofs.Frames.{frames_least}
use Rattle.encodings.specs.proving.Weaker.{strict_frame, strict_contents}
use Rattle.asn_base.specs.proving.OneKind.{same_tags, same_kind}

pub alike_by_at : {s : List Resolved} {k k' : Kind} {v w : AbstractValue} → k' ≡ k → AlikeBy s k' v w → AlikeBy s k v w
alike_by_at {s} {v = v} {w = w} e a = subst (λ q. AlikeBy s q v w) e a

pub holds_at : {s : List Resolved} {r : Rules} {k k' : Kind} {w : AbstractValue} {n : ℕ} {c : Bool} {x : List ℕ} → k' ≡ k → ContentsEncode s r k' w n c x → ContentsEncode s r k w n c x
holds_at {s} {r} {w = w} {n = n} {c = c} {x = x} e a = subst (λ q. ContentsEncode s r q w n c x) e a

pub framed_at : {r : Rules} {ts us : List Tag} {c : Bool} {x o : List ℕ} → us ≡ ts → Framed r us c x o → Framed r ts c x o
framed_at {r} {c = c} {x = x} {o = o} e f = subst (λ q. Framed r q c x o) e f

pub alternative_type : {o : Option Alternative} {a b : Alternative} → o ≡ Some a → o ≡ Some b → b.type ≡ a.type
alternative_type e f = ap type_in (sym f ∙ e)
  where
    type_in : Option Alternative → ℕ
    type_in None = 0
    type_in (Some a) = a.type

pub alike_at : {s : List Resolved} {t u : ℕ} {v w : AbstractValue} → u ≡ t → Alike s u v w → Alike s t v w
alike_at {s} {v = v} {w = w} e a = subst (λ q. Alike s q v w) e a

pub says_at : {s : List Resolved} {r : Rules} {t u n : ℕ} {w : AbstractValue} {x : List ℕ} → u ≡ t → EncodesTo s r u w n x → EncodesTo s r t w n x
says_at {s} {r} {n = n} {w = w} {x = x} e a = subst (λ q. EncodesTo s r q w n x) e a

trimmed : (r : Rules) (a b : List Bool) (m n : ℕ) → a ++ replicate m false ≡ b ++ replicate n false → EndsInOne a → Strictly r (EndsInOne b) → Strictly r (a ≡ b)
trimmed Basic a b m n e t u = tt
trimmed Unsorted a b m n e t u = trimmed_same a b m n t u e
trimmed Distinguished a b m n e t u = trimmed_same a b m n t u e

pub leaves_best : {s : List Resolved} {r : Rules} {k : Kind} {v w : AbstractValue} {b c : Bool} {x y : List ℕ} → AlikeBy s k v w → Contents Distinguished k v b x → Contents r k w c y → Best r x y
leaves_best (equal l) con con' = contents_best con con'
leaves_best {r = r} (zeros {a = a} {b = b} m n e) (of_named_bits x f g t) (of_named_bits y h i u) = bits_best r x f g y h i (trimmed_short a b m n t e) (trimmed r a b m n e t u)
leaves_best (alike_sequence a) con con' = elim con [ ]
leaves_best (alike_set a) con con' = elim con [ ]
leaves_best (alike_sequence_of a) con con' = elim con [ ]
leaves_best (alike_set_of a) con con' = elim con [ ]
leaves_best (alike_choice g a) con con' = elim con [ ]

pub leaf_in : {s : List Resolved} {r : Rules} {k : Kind} {w : AbstractValue} {n : ℕ} {c : Bool} {x : List ℕ} → IsLeaf k → ContentsEncode s r k w n c x → Contents r k w c x
leaf_in l (leaf con) = con
leaf_in l (sequence ms u) = absurd l
leaf_in l (set ms p st u m) = absurd l
leaf_in l (sequence_of es) = absurd l
leaf_in l (set_of es st) = absurd l
leaf_in l (choice g a) = absurd l

-- without additions that a type lacks there are no encodings of them
pub none_unknown : {s : List Resolved} {cs : List Component} {e : Bool} {k : ℕ} {us : List (List ℕ)} → UnknownIf s cs e k us → k ≡ 0 → us ≡ []
none_unknown closed z = refl
none_unknown (extensible no_unknown) z = refl
none_unknown (extensible (unknown x h b f u)) z = absurd (omega arith)

pub no_more : (xs us : List (List ℕ)) → us ≡ [] → concat (xs ++ us) ≡ concat xs
no_more xs us e = ap (λ q. concat (xs ++ q)) e ∙ ap concat (append-nil xs)

pub merged_alone : {zs us ys : List (List ℕ)} → Merges zs us ys → us ≡ [] → ys ≡ zs
merged_alone merges_none e = refl
merged_alone (merges_first {x = x} m) e = ap (λ q. x ∷ q) (merged_alone m e)
merged_alone (merges_second m) e = absurd (let l = ap length e in omega arith)

all_inserted : (P : List ℕ → Type 0) {x : List ℕ} {xs ys : List (List ℕ)} → P x → AllByRecursion P xs → ListInserted x xs ys → AllByRecursion P ys
all_inserted P p a list_here = (p, a)
all_inserted P p a (list_there i) = (a.0, all_inserted P p a.1 i)

pub all_permutes : (P : List ℕ → Type 0) {xs ys : List (List ℕ)} → Permutes xs ys → AllByRecursion P xs → AllByRecursion P ys
all_permutes P permutes_none a = tt
all_permutes P (permutes_more p i) a = all_inserted P a.0 (all_permutes P p a.1) i

concat_inserted : {x : List ℕ} {xs ys : List (List ℕ)} → ListInserted x xs ys → length (concat ys) ≡ length x + length (concat xs)
concat_inserted (list_here {x = x} {xs = xs}) = length-append x (concat xs)
concat_inserted (list_there {y = y} {xs = xs} {ys = ys} i) = omega (arith, length-append y (concat ys), length-append y (concat xs), concat_inserted i)

pub concat_permutes : {xs ys : List (List ℕ)} → Permutes xs ys → length (concat ys) ≡ length (concat xs)
concat_permutes permutes_none = refl
concat_permutes (permutes_more {x = x} {xs = xs} p i) = omega (arith, concat_inserted i, concat_permutes p, length-append x (concat xs))

-- the element at some place, and the others
pub record TakenOut (s : List Resolved) (r : Rules) (u : ℕ) (w : AbstractValue) (ws : Row) (n : ℕ) (xs : List (List ℕ)) : Type 0 where
  pub j : ℕ
  pub k : ℕ
  pub y : List ℕ
  pub ys : List (List ℕ)
  pub it : EncodesTo s r u w j y
  pub rest : Elements s r u ws k ys
  pub at : ListInserted y ys xs
  pub sum : j + k ≡ n

pub take_out : {s : List Resolved} {r : Rules} {u : ℕ} {w : AbstractValue} {ws us : Row} {n : ℕ} {xs : List (List ℕ)} → Inserted w ws us → Elements s r u us n xs → TakenOut s r u w ws n xs
take_out here (element {j = j} {n = k} {x = x} {xs = xs} a es) = record { j = j; k = k; y = x; ys = xs; it = a; rest = es; at = list_here; sum = refl }
take_out (there i) (element {j = j} {n = k} {x = x} {xs = xs} a es) =
    let o = take_out i es in
    record { j = o.j; k = j + o.k; y = o.y; ys = x ∷ o.ys; it = o.it; rest = element a o.rest; at = list_there o.at; sum = (let e = o.sum in omega arith) }

module _ (s : List Resolved) (turn : (t : ℕ) (v w : AbstractValue) → Alike s t v w → Alike s t w v) where
  mutual
    -- an encoding by the distinguished rules, in any order within sets, has no more octets than any other
    pub least : {r : Rules} {t j : ℕ} {v : AbstractValue} {o : List ℕ} → EncodesTo s Unsorted t v j o → j ≡ 0 → {w : AbstractValue} {n : ℕ} {p : List ℕ} → Alike s t v w → EncodesTo s r t w n p → n ≡ 0 → length o ≤ length p
    least (says i h fr) z (alike j a) (says k g fr') y =
        frames_least (strict_frame fr) (framed_at (same_tags i k) fr') (holds_least h z (alike_by_at (same_kind i j) a) (holds_at (same_kind i k) g) y)

    pub holds_least : {r : Rules} {k : Kind} {j : ℕ} {v : AbstractValue} {b : Bool} {x : List ℕ} → ContentsEncode s Unsorted k v j b x → j ≡ 0 → {w : AbstractValue} {n : ℕ} {c : Bool} {y : List ℕ} → AlikeBy s k v w → ContentsEncode s r k w n c y → n ≡ 0 → length x ≤ length y
    holds_least (leaf con) z a g y = (leaves_best a (strict_contents con) (leaf_in (contents_leaf con) g)).least
    holds_least (sequence ms u) z (equal l) g y = absurd l
    holds_least (sequence ms u) z (alike_sequence a) (leaf con) y = elim con [ ]
    holds_least (sequence {xs = xs} {us = us} ms u) z (alike_sequence a) (sequence {xs = ys} {us = us'} ms' u') y =
        let m = members_least ms (omega arith) a ms' (omega arith) in
        let e = ap length (no_more xs us (none_unknown u (omega arith))) in
        let f = ap length (no_more ys us' (none_unknown u' (omega arith))) in
        omega (arith, m, e, f)
    holds_least (set ms p st u m) z (equal l) g y = absurd l
    holds_least (set ms p st u m) z (alike_set a) (leaf con) y = elim con [ ]
    holds_least (set ms p st u m) z (alike_set a) (set ms' p' st' u' m') y =
        let l = members_least ms (omega arith) a ms' (omega arith) in
        let e = ap (λ q. length (concat q)) (merged_alone m (none_unknown u (omega arith))) in
        let f = ap (λ q. length (concat q)) (merged_alone m' (none_unknown u' (omega arith))) in
        omega (arith, l, e, f, concat_permutes p, concat_permutes p')
    holds_least (sequence_of es) z (equal l) g y = absurd l
    holds_least (sequence_of es) z (alike_sequence_of a) (leaf con) y = elim con [ ]
    holds_least (sequence_of es) z (alike_sequence_of a) (sequence_of es') y = elements_least es z a es' y
    holds_least (set_of es st) z (equal l) g y = absurd l
    holds_least (set_of es st) z (alike_set_of a) (leaf con) y = elim con [ ]
    holds_least (set_of es st) z (alike_set_of a) (set_of es' st') y = any_least es z a es' y
    holds_least (choice g b) z (equal l) h y = absurd l
    holds_least (choice g b) z (alike_choice f a) (leaf con) y = elim con [ ]
    holds_least (choice g b) z (alike_choice f a) (choice h b') y =
        least b z (alike_at (alternative_type g f) a) (says_at (alternative_type g h) b') y

    members_least : {r : Rules} {cs : List Component} {vs : Row} {j : ℕ} {xs : List (List ℕ)} → Members s Unsorted cs vs j xs → j ≡ 0 → {ws : Row} {n : ℕ} {ys : List (List ℕ)} → AlikeComponents s cs vs ws → Members s r cs ws n ys → n ≡ 0 → length (concat xs) ≤ length (concat ys)
    members_least no_member z no_components no_member y = omega arith
    members_least (left_out m ms) z (both_absent sc) (left_out m' ns) y = members_least ms z sc ns y
    members_least (left_out m ms) z (first_default e sm sc) (member {x = p} {xs = ps} b nd ns) y =
        let l = members_least ms z sc ns (omega arith) in omega (arith, l, length-append p (concat ps))
    members_least (member {x = o} {xs = os} a nd ms) z (both_present sm sc) (member {x = p} {xs = ps} b nd' ns) y =
        let k = least a (omega arith) sm b (omega arith) in
        let l = members_least ms (omega arith) sc ns (omega arith) in
        omega (arith, k, l, length-append o (concat os), length-append p (concat ps))
    members_least (member a nd ms) z (second_default {d = d} e sm sc) (left_out m ns) y = absurd (nd (omega arith) (d, e, sm))

    elements_least : {r : Rules} {u : ℕ} {vs : Row} {j : ℕ} {xs : List (List ℕ)} → Elements s Unsorted u vs j xs → j ≡ 0 → {ws : Row} {n : ℕ} {ys : List (List ℕ)} → AlikeElements s u vs ws → Elements s r u ws n ys → n ≡ 0 → length (concat xs) ≤ length (concat ys)
    elements_least no_element z no_elements no_element y = omega arith
    elements_least (element {x = o} {xs = os} a es) z (alike_element sm se) (element {x = p} {xs = ps} b ns) y =
        let k = least a (omega arith) sm b (omega arith) in
        let l = elements_least es (omega arith) se ns (omega arith) in
        omega (arith, k, l, length-append o (concat os), length-append p (concat ps))

    any_least : {r : Rules} {u : ℕ} {vs : Row} {j : ℕ} {xs : List (List ℕ)} → Elements s Unsorted u vs j xs → j ≡ 0 → {ws : Row} {n : ℕ} {ys : List (List ℕ)} → AlikeInAnyOrder s u vs ws → Elements s r u ws n ys → n ≡ 0 → length (concat xs) ≤ length (concat ys)
    any_least no_element z none_left no_element y = omega arith
    any_least (element {x = o} {xs = os} a es) z (pair sm se at) b y =
        let out = take_out at b in
        let sum = out.sum in
        let k = least a (omega arith) sm out.it (omega arith) in
        let l = any_least es (omega arith) se out.rest (omega arith) in
        omega (arith, k, l, length-append o (concat os), concat_inserted out.at)
