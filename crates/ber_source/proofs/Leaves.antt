-- Leaves of views, by what contents octets hold.
use Rattle.std.proofs.Common.{arith, ◌≡◌, ℕ, ◌*◌, ◌-◌, ◌<◌, ◌≤◌, Bool, true, false, List, [], ◌∷◌, ◌++◌, length, refl, sym, ap, subst, ◌∙◌, length-append}
use Rattle.std.specs.Prelude.{take, flat_map, Result, Ok, Err, OnOk}
use Rattle.std.proofs.Math.Seq.{take-append_seam}
use Rattle.asn_base.specs.Abstract.{AbstractValue, bits, octets, text, bits_of_octet}
use Rattle.asn_base.specs.Types.{Kind}
use Rattle.encodings.specs.Rules.{Basic}
use Rattle.encodings.specs.Strings.{WholeBits, whole, whole_bits}
use Rattle.encodings.specs.Contents.{Contents, of_bits, of_named_bits, of_octets, of_utf8, of_restricted}
use Rattle.encodings.specs.declared.leaf_kind.LeafKind.{LeafKind}
use Rattle.primitive_reader.specs.Leaves.{IsReadAs, Denotes, ReadsContents}
use Rattle.primitive_reader.specs.declared.leaf.Leaf.{Leaf}
use Rattle.segmented_strings.specs.Joining.{IsJoinedAs, Denotes as DenotesJoined, ReadsContents as Joins}
use Rattle.segmented_strings.specs.declared.read.Reassembled.{Reassembled as Reassembled'}
use Rattle.ber_source.specs.PrimitiveValue.{AreReadAs}
use Rattle.ber_source.specs.declared.token.PrimitiveValue.TheVariants.{Whole, Reassembled}
use Rattle.views.specs.Tree.{bits_in}
use Rattle.ber_source.specs.Wants.{AreHeld}

-- ---- what contents hold

pub octets_whole : {k : Kind} {s x : List ℕ} → Contents Basic k (octets s) false x → s ≡ x
octets_whole (of_octets (whole b) e) = refl

pub text_whole : {k : Kind} {s x : List ℕ} → Contents Basic k (text s) false x → s ≡ x
text_whole (of_utf8 (whole b) e) = refl
text_whole (of_restricted (whole b) e) = refl

pub bits_whole : {k : Kind} {s : List Bool} {x : List ℕ} → Contents Basic k (bits s) false x → WholeBits s x
bits_whole (of_bits (whole_bits w) e f) = w
bits_whole (of_named_bits (whole_bits w) e f t) = w

-- ---- bits

pub eight : (o : List ℕ) → length (flat_map bits_of_octet o) ≡ 8 * length o
eight [] = refl
eight (x ∷ o) = let r = eight o in let l = length-append (bits_of_octet x) (flat_map bits_of_octet o) in omega arith

record Unused (s : List Bool) (n : ℕ) (o : List ℕ) : Type 0 where
  pub few : n < 8
  pub none : length o ≡ 0 → n ≡ 0
  pub is : bits_in n o ≡ s

abbrev first_of : List ℕ → ℕ
first_of [] = 0
first_of (x ∷ xs) = x

abbrev tail_of : List ℕ → List ℕ
tail_of [] = []
tail_of (x ∷ xs) = xs

unused_of : {s : List Bool} {x : List ℕ} (n : ℕ) (o : List ℕ) → WholeBits s x → x ≡ n ∷ o → Unused s n o
unused_of {s} {x} n o w e =
    let h : n ∷ o ≡ w.unused ∷ w.octets = sym e ∙ w.is in
    let hn : n ≡ w.unused = ap first_of h in
    let ho : o ≡ w.octets = ap tail_of h in
    let all : flat_map bits_of_octet o ≡ s ++ w.filling = ap (λ q. flat_map bits_of_octet q) ho ∙ w.bits in
    let l1 = ap length all in
    let l2 = length-append s w.filling in
    let l3 = eight o in
    let l4 = w.as_many in
    let f = w.few in
    record {
      few = omega arith;
      none = λ z. omega arith;
      is = ap (λ q. take (8 * length o - n) q) all ∙ ap (λ q. take q (s ++ w.filling)) (let d : 8 * length o - n ≡ length s = omega arith in d) ∙ take-append_seam s w.filling;
    }

pub few_unused : {s : List Bool} {x : List ℕ} (n : ℕ) (o : List ℕ) → WholeBits s x → x ≡ n ∷ o → n < 8
few_unused n o w e = (unused_of n o w e).few

pub none_unused : {s : List Bool} {x : List ℕ} (n : ℕ) (o : List ℕ) → WholeBits s x → x ≡ n ∷ o → length o ≡ 0 → n ≡ 0
none_unused n o w e = (unused_of n o w e).none

pub bits_are : {s : List Bool} {x : List ℕ} (n : ℕ) (o : List ℕ) → WholeBits s x → x ≡ n ∷ o → bits (bits_in n o) ≡ bits s
bits_are n o w e = ap bits (unused_of n o w e).is

pub no_bits : {s : List Bool} {x : List ℕ} → WholeBits s x → x ≡ [] → ⊥
no_bits w e = let l = ap length w.is in let m = ap length e in omega arith

-- ---- the value that was read is the one that is held

pub denotes_of : {k : LeafKind} {x : List ℕ} {at : ℕ} {v : AbstractValue} {l : Leaf}
    → ((w u : AbstractValue) → IsReadAs k w x → IsReadAs k u x → w ≡ u)
    → AreHeld k false x at v
    → ReadsContents k x l
    → Denotes l v
denotes_of {v = v} {l = l} one h r = subst (Denotes l) (one r.value v r.is_read h.contents) r.means

pub within : {k : LeafKind} {x : List ℕ} {at : ℕ} {v : AbstractValue} → AreHeld k true x at v → IsJoinedAs k v 400 x
within h = let a = h.contents in let f = a.few in let g = h.few in record { contents = a.contents; suits = a.suits; few = omega arith }

pub joined_of : {k : LeafKind} {x : List ℕ} {at : ℕ} {v : AbstractValue} {j : Reassembled'}
    → ((w u : AbstractValue) → IsJoinedAs k w 400 x → IsJoinedAs k u 400 x → w ≡ u)
    → AreHeld k true x at v
    → Joins k 400 x j
    → DenotesJoined j v
joined_of {v = v} {j = j} one h r = subst (DenotesJoined j) (one r.value v r.is_joined (within h)) r.means

-- primitive contents octets are read whole, constructed ones joined
pub whole_of : {k : LeafKind} {x : List ℕ} {l : Leaf} (c : Bool) → AreReadAs c k x (Whole l) → (c ≡ false) × ReadsContents k x l
whole_of false h = (refl, h)
whole_of true h = absurd h

pub joined_in : {k : LeafKind} {x : List ℕ} {j : Reassembled'} (c : Bool) → AreReadAs c k x (Reassembled j) → (c ≡ true) × AreReadAs true k x (Reassembled j)
joined_in true h = (refl, h)
joined_in false h = absurd h

pub widened : {k : LeafKind} {x : List ℕ} {j : Reassembled'} {room : ℕ} → room ≤ 400 → Joins k room x j → Joins k 400 x j
widened l r = record {
  value = r.value;
  means = r.means;
  is_joined = (let a = r.is_joined in let f = a.few in record { contents = a.contents; suits = a.suits; few = omega arith });
}

-- the property of a result that is Ok
pub then_ok : {A E : Type 0} {P Q : Type 0} (r : Result A E) → (P → Q) → OnOk r P → OnOk r Q
then_ok (Ok a) f p = f p
then_ok (Err e) f p = tt
