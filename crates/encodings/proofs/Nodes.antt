-- A value that octets say has no more nodes than there are octets.
use Rattle.std.proofs.Common.{arith, ◌≡◌, ℕ, zero, suc, ◌+◌, ◌≤◌, ◌<◌, Bool, true, false, cond, List, [], ◌∷◌, ◌++◌, length, refl, ap, subst, length-append}
use Rattle.std.specs.Prelude.{Some, slice_get, IsSomeAnd, nat_lt}
use Rattle.std.specs.List.{concat, AllByRecursion}
use Rattle.asn_base.specs.declared.tag.Tag.{Tag}
use Rattle.asn_base.specs.Abstract.{AbstractValue, Row}
use Rattle.asn_base.specs.Types.{Kind, Alternative, Component, Resolved, Is}
use Rattle.asn_base.specs.Tags.{IsChoice}
use Rattle.asn_base.specs.Typed.{nodes, row_nodes, IsValue, ValueIn}
use Rattle.asn_base.specs.Schemas.{HasTag, IsSound, IsSchema}
use Rattle.encodings.specs.Rules.{Rules}
use Rattle.encodings.specs.Header.{identifier, septets, Header, LengthOf, short, long}
use Rattle.encodings.specs.Contents.{Contents, of_false, of_true, of_integer, of_enumerated, of_bits, of_named_bits, of_octets, of_null, of_oid, of_relative_oid, of_utf8, of_restricted}
use Rattle.encodings.specs.Orders.{Merges, merges_none, merges_first, merges_second}
use Rattle.encodings.specs.Encoding.{Framed, innermost, outer, EncodesTo, says, ContentsEncode, leaf, sequence, set, sequence_of, set_of, choice, Members, no_member, left_out, member, Elements, no_element, element}
use Rattle.encodings.specs.proving.Lengths.{identifier_long}
use Rattle.encodings.proofs.Least.{concat_permutes}
use Rattle.encodings.specs.proving.LeafForms.{no_leaf, bare_is}

size_some : {n : ℕ} {o : List ℕ} → LengthOf n o → 1 ≤ length o
size_some (short h) = omega arith
size_some (long f) = omega arith

one_at_least : (t : Bool) (k : ℕ) → 1 ≤ cond t 1 (1 + k)
one_at_least true k = omega arith
one_at_least false k = omega arith

header_two : {t : Tag} {c : Bool} {n : ℕ} {h : List ℕ} → Header t c n h → 2 ≤ length h
header_two {t} {c} a =
    let l = ap length a.whole in
    omega (arith, l, length-append (identifier t.class t.number c) a.size, size_some a.is_size, identifier_long t.class t.number c, one_at_least (nat_lt t.number 31) (length (septets t.number)))

framed_two : {r : Rules} {g : Tag} {ts : List Tag} {c : Bool} {x o : List ℕ} → Framed r (g ∷ ts) c x o → length x + 2 ≤ length o
framed_two {x = x} (innermost {h = h} a) = omega (arith, header_two a.header, length-append h x)
framed_two (outer {h = h} {y = y} f a) = omega (arith, framed_two f, header_two a.header, length-append h y)

leaf_nodes : {r : Rules} {k : Kind} {w : AbstractValue} {c : Bool} {x : List ℕ} → Contents r k w c x → nodes w ≡ 1
leaf_nodes of_false = refl
leaf_nodes (of_true a l e) = refl
leaf_nodes (of_integer a) = refl
leaf_nodes (of_enumerated a) = refl
leaf_nodes (of_bits a e y) = refl
leaf_nodes (of_named_bits a e y z) = refl
leaf_nodes (of_octets a e) = refl
leaf_nodes of_null = refl
leaf_nodes (of_oid a) = refl
leaf_nodes (of_relative_oid a) = refl
leaf_nodes (of_utf8 a e) = refl
leaf_nodes (of_restricted a e) = refl

concat_front : (xs us : List (List ℕ)) → length (concat xs) ≤ length (concat (xs ++ us))
concat_front [] us = omega arith
concat_front (x ∷ xs) us = omega (arith, concat_front xs us, length-append x (concat xs), length-append x (concat (xs ++ us)))

concat_merged : {zs us ys : List (List ℕ)} → Merges zs us ys → length (concat zs) ≤ length (concat ys)
concat_merged merges_none = omega arith
concat_merged (merges_first {x = x} {xs = xs} {zs = zs} m) = omega (arith, concat_merged m, length-append x (concat xs), length-append x (concat zs))
concat_merged (merges_second {y = y} {zs = zs} m) = omega (arith, concat_merged m, length-append y (concat zs))

alternative_at : (P : Alternative → Type 0) (qs : List Alternative) (j : ℕ) (b : Alternative) → AllByRecursion P qs → slice_get qs j ≡ Some b → P b
alternative_at P [] j b a e = absurd (cc)
alternative_at P (q ∷ qs) zero b a e = subst P (let f : q ≡ b = cc in f) a.0
alternative_at P (q ∷ qs) (suc j) b a e = alternative_at P qs j b a.1 e

no_tag : {s : List Resolved} {t : ℕ} {k : Kind} → Is s t [] k → HasTag s t → ⊥
no_tag {s} i h = let l = subst (λ o. IsSomeAnd o (λ r. 0 < length r.tags)) i.found h in omega arith

module _ (s : List Resolved) (schema : IsSchema s) where
  mutual
    pub says_nodes : {r : Rules} {t n : ℕ} {w : AbstractValue} {o : List ℕ} → EncodesTo s r t w n o → nodes w ≤ length o
    says_nodes (says {tags = []} {k = k} i h fr) = let e = ap length (bare_is fr) in let l = untagged_nodes (schema.tagged _ _ i) (schema.sound _ _ k i) h in omega arith
    says_nodes (says {tags = g ∷ ts} i h fr) = omega (arith, holds_nodes h, framed_two fr)

    -- a value of a type with a tag takes one octet more
    tagged_nodes : {r : Rules} {t n : ℕ} {w : AbstractValue} {o : List ℕ} → HasTag s t → EncodesTo s r t w n o → suc (nodes w) ≤ length o
    tagged_nodes tag (says {tags = []} i h fr) = absurd (no_tag i tag)
    tagged_nodes tag (says {tags = g ∷ ts} i h fr) = omega (arith, holds_nodes h, framed_two fr)

    untagged_nodes : {r : Rules} {k : Kind} {n : ℕ} {w : AbstractValue} {c : Bool} {x : List ℕ} → IsChoice k → IsSound s k → ContentsEncode s r k w n c x → nodes w ≤ length x
    untagged_nodes ch sound (leaf con) = absurd (no_leaf ch con)
    untagged_nodes ch sound (sequence ms u) = absurd ch
    untagged_nodes ch sound (set ms p st u m) = absurd ch
    untagged_nodes ch sound (sequence_of es) = absurd ch
    untagged_nodes ch sound (set_of es st) = absurd ch
    untagged_nodes ch sound (choice {i = i} {root = root} {more = more} {a = b} g a) = tagged_nodes (alternative_at (λ q. HasTag s q.type) (root ++ more) i b sound.types g) a

    holds_nodes : {r : Rules} {k : Kind} {n : ℕ} {w : AbstractValue} {c : Bool} {x : List ℕ} → ContentsEncode s r k w n c x → nodes w ≤ suc (length x)
    holds_nodes (leaf con) = let e = leaf_nodes con in omega arith
    holds_nodes (sequence {xs = xs} {us = us} ms u) = omega (arith, members_nodes ms, concat_front xs us)
    holds_nodes (set ms p st u m) = omega (arith, members_nodes ms, concat_permutes p, concat_merged m)
    holds_nodes (sequence_of es) = let l = elements_nodes es in omega arith
    holds_nodes (set_of es st) = let l = elements_nodes es in omega arith
    holds_nodes (choice g a) = let l = says_nodes a in omega arith

    members_nodes : {r : Rules} {cs : List Component} {ws : Row} {n : ℕ} {xs : List (List ℕ)} → Members s r cs ws n xs → row_nodes ws ≤ length (concat xs)
    members_nodes no_member = omega arith
    members_nodes (left_out m ms) = members_nodes ms
    members_nodes (member {x = x} {xs = xs} a d ms) = omega (arith, says_nodes a, members_nodes ms, length-append x (concat xs))

    elements_nodes : {r : Rules} {u n : ℕ} {ws : Row} {xs : List (List ℕ)} → Elements s r u ws n xs → row_nodes ws ≤ length (concat xs)
    elements_nodes no_element = omega arith
    elements_nodes (element {x = x} {xs = xs} a es) = omega (arith, says_nodes a, elements_nodes es, length-append x (concat xs))

pub few_nodes : (s : List Resolved) (r : Rules) (t k : ℕ) (w : AbstractValue) (o : List ℕ) → IsSchema s → EncodesTo s r t w k o → nodes w ≤ length o
few_nodes s r t k w o schema a = says_nodes s schema a

pub message_value : (s : List Resolved) (r : Rules) (t k : ℕ) (w : AbstractValue) (o : List ℕ) → IsSchema s → ValueIn s 64 t w → EncodesTo s r t w k o → length o ≤ 16777216 → IsValue s t w
message_value s r t k w o schema v a l = record { shaped = v; few_nodes = let m = says_nodes s schema a in omega arith }
