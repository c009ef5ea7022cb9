-- The distinguished rules of contents octets.
use Rattle.std.proofs.Common.{arith, ◌≡◌, ℕ, zero, suc, ◌-◌, ◌/◌, ◌%◌, ◌^◌, ◌<◌, ◌≤◌, Bool, true, false, List, [], ◌∷◌, ◌++◌, length, take, drop, refl, sym, ap, subst, ◌∙◌, ⊎_elim, length-append, append_assoc, inl, inr}
use Rattle.std.specs.Prelude.{flat_map, replicate, IsTrue, ◌↔◌, ◌==◌}
use Rattle.std.proofs.lemmas.List.{append-nil, length-take-le}
use Rattle.asn_base.specs.Abstract.{AbstractValue, bits_of_octet}
use Rattle.encodings.specs.Rules.{Basic, Distinguished}
use Rattle.encodings.specs.Strings.{WholeBits, whole_bits}
use Rattle.encodings.specs.Contents.{Contents, EndsInOne, FilledWithZeros, of_false, of_true, of_integer, of_enumerated, of_bits, of_named_bits, of_octets, of_null, of_oid, of_relative_oid, of_utf8, of_restricted}
use Rattle.encodings.specs.declared.leaf_kind.LeafKind.{LeafKind}
use Rattle.encodings.specs.declared.leaf_kind.LeafKind.TheVariants as kinds
use Rattle.encodings.specs.Leaves.{plain}
use Rattle.primitive_reader.specs.proving.Zeros.{IsTruth, low_bits, one_bit}
use Rattle.primitive_reader.proofs.Lists.{eight_each, head_same, tail_same, take_drop}
use Rattle.primitive_reader.proofs.Exact.{front_same}

abbrev all_bits : List ℕ → List Bool
all_bits = flat_map bits_of_octet

bits_append : (xs ys : List ℕ) → all_bits (xs ++ ys) ≡ all_bits xs ++ all_bits ys
bits_append [] ys = refl
bits_append (x ∷ xs) ys = ap (λ q. bits_of_octet x ++ q) (bits_append xs ys) ∙ sym (append_assoc (bits_of_octet x) (all_bits xs) (all_bits ys))

one_more : (xs : List ℕ) (x : ℕ) → all_bits (xs ++ x ∷ []) ≡ all_bits xs ++ bits_of_octet x
one_more xs x = bits_append xs (x ∷ []) ∙ ap (λ q. all_bits xs ++ q) (append-nil (bits_of_octet x))

drop_at : (s f : List Bool) → drop (length s) (s ++ f) ≡ f
drop_at [] f = refl
drop_at (b ∷ s) f = drop_at s f

-- bits in their octets
record Within (s : List Bool) (n last : ℕ) (front : List ℕ) (filling : List Bool) : Type 0 where
  joined : s ++ filling ≡ all_bits front ++ bits_of_octet last
  count : length filling ≡ n

within : (s : List Bool) (x os front : List ℕ) (n last : ℕ) → x ≡ n ∷ os → os ≡ front ++ last ∷ [] → (w : WholeBits s x) → Within s n last front w.filling
within s x os front n last e f w =
    let u : w.unused ≡ n = head_same (sym w.is ∙ e) in
    let p : w.octets ≡ os = tail_same (sym w.is ∙ e) in
    record { joined = sym w.bits ∙ ap all_bits (p ∙ f) ∙ one_more front last; count = w.as_many ∙ u }

-- the bits are those before the last ones, which fill the octet
record Parts (s : List Bool) (n last : ℕ) (front : List ℕ) (filling : List Bool) : Type 0 where
  bits : s ≡ all_bits front ++ take (8 - n) (bits_of_octet last)
  filled : filling ≡ low_bits n last

parts : (s : List Bool) (n last : ℕ) (front : List ℕ) (filling : List Bool) → n < 8 → Within s n last front filling → Parts s n last front filling
parts s n last front filling l w =
    let t = all_bits front ++ take (8 - n) (bits_of_octet last) in
    let g = low_bits n last in
    let e : s ++ filling ≡ t ++ g =
    w.joined ∙ ap (λ q. all_bits front ++ q) (sym (take_drop (8 - n) (bits_of_octet last)))
    ∙ sym (append_assoc (all_bits front) (take (8 - n) (bits_of_octet last)) g) in
    let k : length (take (8 - n) (bits_of_octet last)) ≡ 8 - n = length-take-le (8 - n) (bits_of_octet last) (omega arith) in
    let m : length s ≡ length t = omega (arith, l, k, w.count, ap length w.joined, length-append s filling, length-append (all_bits front) (bits_of_octet last), length-append (all_bits front) (take (8 - n) (bits_of_octet last))) in
    let same : s ≡ t = front_same s t filling g e m in
    record { bits = same; filled = sym (drop_at s filling) ∙ ap (drop (length s)) e ∙ ap (λ k. drop k (t ++ g)) m ∙ drop_at t g }

pub filled_iff : (b : Bool) (s : List Bool) (x os front : List ℕ) (n last : ℕ) → x ≡ n ∷ os → os ≡ front ++ last ∷ [] → n < 8 → IsTrue b ↔ (low_bits n last ≡ replicate n false) → WholeBits s x → IsTrue b ↔ FilledWithZeros s x
filled_iff b s x os front n last e f l h w =
    let p = parts s n last front w.filling l (within s x os front n last e f w) in
    let u : w.unused ≡ n = head_same (sym w.is ∙ e) in (
      λ t. (w.unused, w.octets, w.is, w.bits ∙ ap (λ q. s ++ q) (p.filled ∙ h.0 t ∙ ap (λ k. replicate k false) (sym u))),
      λ d.
          let m : d.0 ≡ n = head_same (sym d.2 ∙ e) in
          let o : w.octets ≡ d.1 = tail_same (sym w.is ∙ d.2) in
          let g : s ++ w.filling ≡ s ++ replicate d.0 false = sym w.bits ∙ ap all_bits o ∙ d.3 in
          let c : w.filling ≡ replicate d.0 false = sym (drop_at s w.filling) ∙ ap (drop (length s)) g ∙ drop_at s (replicate d.0 false) in
          h.1 (sym p.filled ∙ c ∙ ap (λ k. replicate k false) m),
    )

none_is : (f : List Bool) (n : ℕ) → length f ≡ n → n ≡ 0 → f ≡ replicate n false
none_is [] n e z = ap (λ k. replicate k false) (sym z)
none_is (b ∷ f) n e z = absurd (omega (arith, e, z))

nothing : (s : List Bool) (x os : List ℕ) (n : ℕ) → x ≡ n ∷ os → length os ≡ 0 → (w : WholeBits s x) → (length s ≡ 0) × (w.unused ≡ 0)
nothing s x os n e l w =
    let p : w.octets ≡ os = tail_same (sym w.is ∙ e) in
    let k = ap length w.bits in
    let m = length-append s w.filling in
    let z = eight_each w.octets in
    (omega (arith, l, ap length p, k, m, z), omega (arith, l, ap length p, k, m, z, w.as_many))

pub filled_none : (s : List Bool) (x os : List ℕ) (n : ℕ) → x ≡ n ∷ os → length os ≡ 0 → WholeBits s x → IsTrue true ↔ FilledWithZeros s x
filled_none s x os n e l w = (
  λ t. (w.unused, w.octets, w.is, w.bits ∙ ap (λ q. s ++ q) (none_is w.filling w.unused w.as_many (nothing s x os n e l w).1)),
  λ d. refl,
)

-- ---- bits that end in a one

some_bit : (t : List Bool) (b : Bool) → 1 ≤ length (t ++ b ∷ [])
some_bit [] b = omega arith
some_bit (x ∷ t) b = omega arith

abbrev head_bit : List Bool → Bool
head_bit [] = false
head_bit (b ∷ bs) = b

abbrev tail_bits : List Bool → List Bool
tail_bits [] = []
tail_bits (b ∷ bs) = bs

ends_after : (s : List Bool) → EndsInOne (s ++ true ∷ [])
ends_after [] [] e = let h : true ≡ false = ap head_bit e in absurd (cc)
ends_after [] (x ∷ t) e = let l = ap length e in omega (arith, l, some_bit t false)
ends_after (b ∷ s) [] e = let l = ap length e in omega (arith, l, some_bit s true)
ends_after (b ∷ s) (x ∷ t) e = ends_after s t (ap tail_bits e)

ends_iff' : (p : List Bool) (b : Bool) → (b ≡ true) ↔ EndsInOne (p ++ b ∷ [])
ends_iff' p true = (λ e. ends_after p, λ h. refl)
ends_iff' p false = (λ e. absurd (cc), λ h. absurd (h p refl))

last_one : (n x : ℕ) → n < 8 → x < 256 → take (8 - n) (bits_of_octet x) ≡ take (7 - n) (bits_of_octet x) ++ one_bit n x ∷ []
last_one zero x l m = ap (λ q. take 7 (bits_of_octet x) ++ (q == 1) ∷ []) (let e : x % 2 ≡ x / 2 ^ 0 % 2 = omega arith in e)
last_one (suc (suc (suc (suc (suc (suc (suc zero))))))) x l m = ap (λ q. (q == 1) ∷ []) (let e : x / 128 ≡ x / 2 ^ 7 % 2 = omega arith in e)
last_one (suc (suc (suc (suc (suc (suc (suc (suc n)))))))) x l m = absurd (omega arith)
last_one q x l m = refl

pub ends_iff : (b : Bool) (s : List Bool) (x os front : List ℕ) (n last : ℕ) → x ≡ n ∷ os → os ≡ front ++ last ∷ [] → n < 8 → last < 256 → IsTrue b ↔ (one_bit n last ≡ true) → WholeBits s x → IsTrue b ↔ EndsInOne s
ends_iff b s x os front n last e f l m h w =
    let p = parts s n last front w.filling l (within s x os front n last e f w) in
    let q : s ≡ (all_bits front ++ take (7 - n) (bits_of_octet last)) ++ one_bit n last ∷ [] =
    p.bits ∙ ap (λ k. all_bits front ++ k) (last_one n last l m) ∙ sym (append_assoc (all_bits front) (take (7 - n) (bits_of_octet last)) (one_bit n last ∷ [])) in
    let i = ends_iff' (all_bits front ++ take (7 - n) (bits_of_octet last)) (one_bit n last) in
    (λ t. subst EndsInOne (sym q) (i.0 (h.0 t)), λ d. h.1 (i.1 (subst EndsInOne q d)))

pub ends_none : (s : List Bool) (x os : List ℕ) (n : ℕ) → x ≡ n ∷ os → length os ≡ 0 → WholeBits s x → IsTrue true ↔ EndsInOne s
ends_none s x os n e l w = (λ t u g. (let k = ap length g in let z = (nothing s x os n e l w).0 in omega (arith, k, z, some_bit u false)), λ d. refl)

pub both_true : (b : Bool) (P Q : Type 0) → IsTrue true ↔ P → IsTrue b ↔ Q → IsTrue b ↔ (P × Q)
both_true b P Q h i = (λ t. (h.0 refl, i.0 t), λ d. i.1 d.1)

pub both_false : (b : Bool) (P Q : Type 0) → b ≡ false → IsTrue b ↔ P → IsTrue b ↔ (P × Q)
both_false b P Q e h = (λ t. absurd (cc), λ d. h.1 d.0)

-- ---- contents

truth : (b : Bool) (v : AbstractValue) (x : List ℕ) → IsTrue b ↔ IsTruth x → Contents Basic (plain kinds.Boolean) v false x → IsTrue b ↔ Contents Distinguished (plain kinds.Boolean) v false x
truth b v x h of_false = (λ t. of_false, λ d. h.1 (inl refl))
truth b v x h (of_true {x = n} p q r) = (λ t. of_true p q (⊎_elim (λ z. absurd (omega (arith, z, p))) (λ z. z) (h.0 t)), λ d. h.1 (inr (strict d)))
  where
    strict : Contents Distinguished (plain kinds.Boolean) v false (n ∷ []) → n ≡ 255
    strict (of_true i j k) = k

filled : (b : Bool) (v : AbstractValue) (x : List ℕ) → ((s : List Bool) → WholeBits s x → IsTrue b ↔ FilledWithZeros s x) → Contents Basic (plain kinds.BitString) v false x → IsTrue b ↔ Contents Distinguished (plain kinds.BitString) v false x
filled b v x h (of_bits {s = s} (whole_bits w) p q) = (λ t. of_bits (whole_bits w) refl ((h s w).0 t), λ d. (h s w).1 (strict d))
  where
    strict : Contents Distinguished (plain kinds.BitString) v false x → FilledWithZeros s x
    strict (of_bits k i j) = j

trimmed : (b : Bool) (v : AbstractValue) (x : List ℕ) → ((s : List Bool) → WholeBits s x → IsTrue b ↔ (FilledWithZeros s x × EndsInOne s)) → Contents Basic (plain kinds.NamedBits) v false x → IsTrue b ↔ Contents Distinguished (plain kinds.NamedBits) v false x
trimmed b v x h (of_named_bits {s = s} (whole_bits w) p q r) = (λ t. (let k = (h s w).0 t in of_named_bits (whole_bits w) refl k.0 k.1), λ d. (h s w).1 (strict d))
  where
    strict : Contents Distinguished (plain kinds.NamedBits) v false x → FilledWithZeros s x × EndsInOne s
    strict (of_named_bits k i j l) = (j, l)

-- of these kinds the distinguished rules ask nothing besides
abbrev pub AsksNothing : LeafKind → Type 0
AsksNothing k = (v : AbstractValue) (x : List ℕ) → Contents Basic (plain k) v false x → Contents Distinguished (plain k) v false x

pub of_numbers : AsksNothing kinds.Integer
of_numbers v x (of_integer a) = of_integer a

pub of_items : AsksNothing kinds.Enumerated
of_items v x (of_enumerated a) = of_enumerated a

pub of_strings : AsksNothing kinds.OctetString
of_strings v x (of_octets a p) = of_octets a refl

pub of_nulls : AsksNothing kinds.Null
of_nulls v x of_null = of_null

pub of_oids : AsksNothing kinds.ObjectIdentifier
of_oids v x (of_oid a) = of_oid a

pub of_relatives : AsksNothing kinds.RelativeOid
of_relatives v x (of_relative_oid a) = of_relative_oid a

pub of_texts : AsksNothing kinds.Utf8String
of_texts v x (of_utf8 a p) = of_utf8 a refl

pub of_characters : (k : Rattle.asn_base.specs.declared.strings.StringKind.StringKind) → AsksNothing (kinds.RestrictedString k)
of_characters k v x (of_restricted a p) = of_restricted a refl

pub always : {k m : LeafKind} (x : List ℕ) → k ≡ m → AsksNothing m → (v : AbstractValue) → Contents Basic (plain k) v false x → IsTrue true ↔ Contents Distinguished (plain k) v false x
always {k} {m} x e a v c = (λ t. subst (λ q. Contents Distinguished (plain q) v false x) (sym e) (a v x (subst (λ q. Contents Basic (plain q) v false x) e c)), λ d. refl)

pub where_truth : {k : LeafKind} (b : Bool) (x : List ℕ) → k ≡ kinds.Boolean → IsTrue b ↔ IsTruth x → (v : AbstractValue) → Contents Basic (plain k) v false x → IsTrue b ↔ Contents Distinguished (plain k) v false x
where_truth {k} b x e h v = subst (λ q. Contents Basic (plain q) v false x → IsTrue b ↔ Contents Distinguished (plain q) v false x) (sym e) (truth b v x h)

pub where_filled : {k : LeafKind} (b : Bool) (x : List ℕ) → k ≡ kinds.BitString → ((s : List Bool) → WholeBits s x → IsTrue b ↔ FilledWithZeros s x) → (v : AbstractValue) → Contents Basic (plain k) v false x → IsTrue b ↔ Contents Distinguished (plain k) v false x
where_filled {k} b x e h v = subst (λ q. Contents Basic (plain q) v false x → IsTrue b ↔ Contents Distinguished (plain q) v false x) (sym e) (filled b v x h)

pub where_trimmed : {k : LeafKind} (b : Bool) (x : List ℕ) → k ≡ kinds.NamedBits → ((s : List Bool) → WholeBits s x → IsTrue b ↔ (FilledWithZeros s x × EndsInOne s)) → (v : AbstractValue) → Contents Basic (plain k) v false x → IsTrue b ↔ Contents Distinguished (plain k) v false x
where_trimmed {k} b x e h v = subst (λ q. Contents Basic (plain q) v false x → IsTrue b ↔ Contents Distinguished (plain q) v false x) (sym e) (trimmed b v x h)
