-- A value has one contents of a kind at most.
use Rattle.std.proofs.Common.{◌≡◌, ℕ, zero, suc, ◌+◌, Bool, false, List, [], ◌∷◌, ◌++◌, replicate, sym, ap, ◌∙◌, append_assoc, arith}
use Rattle.asn_base.specs.Abstract.{AbstractValue}
use Rattle.asn_base.specs.Types.{Kind, Resolved}
use Rattle.asn_base.specs.Same.{AlikeBy, equal, zeros}
use Rattle.encodings.specs.Rules.{Distinguished}
use Rattle.encodings.specs.Contents.{Contents}
use Rattle.encodings.specs.declared.leaf_kind.LeafKind.{LeafKind}
use Rattle.encodings.specs.declared.leaf_kind.LeafKind.TheVariants.{Boolean, Integer, Enumerated, BitString, NamedBits, OctetString, Null, ObjectIdentifier, RelativeOid, Utf8String, RestrictedString}
use Rattle.encodings.specs.Leaves.{plain, HasContents}

zeros_add : (m n : ℕ) → replicate (m + n) false ≡ replicate m false ++ replicate n false
zeros_add zero n = ap (λ k. replicate k false) (let e : 0 + n ≡ n = omega arith in e)
zeros_add (suc m) n = ap (λ k. replicate k false) (let e : suc m + n ≡ suc (m + n) = omega arith in e) ∙ ap (λ q. false ∷ q) (zeros_add m n)

more_zeros : (a : List Bool) (m n : ℕ) → (a ++ replicate m false) ++ replicate n false ≡ a ++ replicate (m + n) false
more_zeros a m n = append_assoc a (replicate m false) (replicate n false) ∙ ap (λ q. a ++ q) (sym (zeros_add m n))

both : (a b c : List Bool) (m n p q : ℕ) → a ++ replicate m false ≡ b ++ replicate n false → a ++ replicate p false ≡ c ++ replicate q false → b ++ replicate (n + p) false ≡ c ++ replicate (q + m) false
both a b c m n p q e f =
    sym (more_zeros b n p)
    ∙ ap (λ x. x ++ replicate p false) (sym e)
    ∙ more_zeros a m p
    ∙ ap (λ k. a ++ replicate k false) (let g : m + p ≡ p + m = omega arith in g)
    ∙ sym (more_zeros a p m)
    ∙ ap (λ x. x ++ replicate m false) f
    ∙ more_zeros c q m

alike_two : (k : LeafKind) {v t u : AbstractValue} → AlikeBy [] (plain k) v t → AlikeBy [] (plain k) v u → AlikeBy [] (plain k) t u
alike_two Boolean (equal l) (equal m) = equal tt
alike_two Integer (equal l) (equal m) = equal tt
alike_two Enumerated (equal l) (equal m) = equal tt
alike_two BitString (equal l) (equal m) = equal tt
alike_two NamedBits (equal l) (equal m) = equal tt
alike_two NamedBits (equal l) (zeros m n e) = zeros m n e
alike_two NamedBits (zeros m n e) (equal l) = zeros n m (sym e)
alike_two NamedBits (zeros {a = a} {b = b} m n e) (zeros {b = c} p q f) = zeros (n + p) (q + m) (both a b c m n p q e f)
alike_two OctetString (equal l) (equal m) = equal tt
alike_two Null (equal l) (equal m) = equal tt
alike_two ObjectIdentifier (equal l) (equal m) = equal tt
alike_two RelativeOid (equal l) (equal m) = equal tt
alike_two Utf8String (equal l) (equal m) = equal tt
alike_two (RestrictedString k) (equal l) (equal m) = equal tt

pub one_of : ((s : List Resolved) (k : Kind) (v w : AbstractValue) (x y : List ℕ) → AlikeBy s k v w → Contents Distinguished k v false x → Contents Distinguished k w false y → y ≡ x) → (k : LeafKind) (v : AbstractValue) (x y : List ℕ) → HasContents k v x → HasContents k v y → x ≡ y
one_of law k v x y h g = sym (law [] (plain k) h.trimmed g.trimmed x y (alike_two k h.same g.same) h.contents g.contents)
