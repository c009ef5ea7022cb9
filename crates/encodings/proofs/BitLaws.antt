-- Bits in octets: whole bits are the fewest, and filled with zeros the only ones.
use Rattle.std.proofs.Common.{arith, ◌≡◌, ℕ, zero, suc, ◌+◌, ◌*◌, ◌/◌, ◌%◌, ◌<◌, ◌≤◌, Bool, false, cond, List, [], ◌∷◌, ◌++◌, length, replicate, refl, sym, ap, subst, ◌∙◌, length-append}
use Rattle.std.specs.Prelude.{◌==◌, flat_map}
use Rattle.std.specs.Int.Digits.{AllBelowBase}
use Rattle.asn_base.specs.Abstract.{bits_of_octet}
use Rattle.encodings.specs.Strings.{WholeBits, BitPieces, whole_bits, cut_bits, BitSegments, last_segment, bit_segment}
use Rattle.encodings.specs.Contents.{EndsInOne, FilledWithZeros}

pub replicate_length : (n : ℕ) (b : Bool) → length (replicate n b) ≡ n
replicate_length zero b = refl
replicate_length (suc n) b = ap suc (replicate_length n b)

pub bits_length : (o : List ℕ) → length (flat_map bits_of_octet o) ≡ 8 * length o
bits_length [] = refl
bits_length (n ∷ o) = let e = bits_length o in omega (arith, length-append (bits_of_octet n) (flat_map bits_of_octet o), e)

-- octets that hold bits are enough
whole_long : {s : List Bool} {o : List ℕ} → WholeBits s o → length s + 8 ≤ 8 * length o
whole_long {s} {o} w =
    let e = ap length w.bits in
    let l = ap length w.is in
    omega (arith, e, l, bits_length w.octets, length-append s w.filling)

mutual
  pub bits_long : {s : List Bool} {c : Bool} {o : List ℕ} → BitPieces s c o → length s + 8 ≤ 8 * length o
  bits_long (whole_bits w) = whole_long w
  bits_long (cut_bits g) = segments_long g

  segments_long : {s : List Bool} {o : List ℕ} → BitSegments s o → length s + 8 ≤ 8 * length o
  segments_long (last_segment {h = h} {p = p} hd ps) = omega (arith, bits_long ps, length-append h p)
  segments_long (bit_segment {h = h} {p = p} {o = o} {x = x} {s = s} hd ps m gs) =
      omega (arith, bits_long ps, segments_long gs, length-append x s, length-append (h ++ p) o, length-append h p)

-- whole bits take no octet more than they need
pub whole_short : {s : List Bool} {o : List ℕ} → WholeBits s o → 8 * length o ≤ length s + 15
whole_short {s} {o} w =
    let e = ap length w.bits in
    let l = ap length w.is in
    let n = w.as_many in
    let f : w.unused < 8 = w.few in
    omega (arith, e, l, bits_length w.octets, length-append s w.filling, n, f)

pub bits_least : {a b : List Bool} {c : Bool} {o p : List ℕ} → WholeBits a o → BitPieces b c p → length a ≤ length b → length o ≤ length p
bits_least w ps le = omega (arith, whole_short w, bits_long ps)

-- a digit that is 0 or 1
abbrev pub digit : Bool → ℕ
digit b = cond b 1 0

digit_back : (x : ℕ) → x < 2 → digit (x == 1) ≡ x
digit_back zero h = refl
digit_back (suc zero) h = refl
digit_back (suc (suc x)) h = absurd (omega arith)

-- the octet of eight bits
abbrev pub octet_of : List Bool → ℕ
octet_of (a ∷ b ∷ c ∷ d ∷ e ∷ f ∷ g ∷ h ∷ bs) = 128 * digit a + 64 * digit b + 32 * digit c + 16 * digit d + 8 * digit e + 4 * digit f + 2 * digit g + digit h
octet_of bs = 0

abbrev after_octet : List Bool → List Bool
after_octet (a ∷ b ∷ c ∷ d ∷ e ∷ f ∷ g ∷ h ∷ bs) = bs
after_octet bs = []

octet_back : (n : ℕ) (bs : List Bool) → n < 256 → octet_of (bits_of_octet n ++ bs) ≡ n
octet_back n bs h =
    let a = digit_back (n / 128) (omega arith) in
    let b = digit_back (n / 64 % 2) (omega arith) in
    let c = digit_back (n / 32 % 2) (omega arith) in
    let d = digit_back (n / 16 % 2) (omega arith) in
    let e = digit_back (n / 8 % 2) (omega arith) in
    let f = digit_back (n / 4 % 2) (omega arith) in
    let g = digit_back (n / 2 % 2) (omega arith) in
    let i = digit_back (n % 2) (omega arith) in
    omega arith

pub octets_back : (o p : List ℕ) → AllBelowBase 256 o → AllBelowBase 256 p → flat_map bits_of_octet o ≡ flat_map bits_of_octet p → o ≡ p
octets_back [] [] a b e = refl
octets_back [] (n ∷ p) a b e = absurd (let h = ap length e in omega (arith, h, length-append (bits_of_octet n) (flat_map bits_of_octet p)))
octets_back (m ∷ o) [] a b e = absurd (let h = ap length e in omega (arith, h, length-append (bits_of_octet m) (flat_map bits_of_octet o)))
octets_back (m ∷ o) (n ∷ p) a b e =
    let h : m ≡ n = sym (octet_back m (flat_map bits_of_octet o) a.0) ∙ ap octet_of e ∙ octet_back n (flat_map bits_of_octet p) b.0 in
    let t : o ≡ p = octets_back o p a.1 b.1 (ap after_octet e) in
    cc

-- the octet before the bits, and these
abbrev rest_of : List ℕ → List ℕ
rest_of [] = []
rest_of (x ∷ xs) = xs

abbrev first_of : List ℕ → ℕ
first_of [] = 0
first_of (x ∷ xs) = x

-- whole bits filled with zeros are the only ones
filled_same : (s t : List Bool) (o p : List ℕ) → WholeBits s o → WholeBits t p → FilledWithZeros s o → FilledWithZeros t p → s ≡ t → p ≡ o
filled_same s t o p w x f g e =
    let lo = ap length w.bits in
    let lp = ap length x.bits in
    let few : w.unused < 8 = w.few in
    let few' : x.unused < 8 = x.few in
    let n = w.as_many in
    let n' = x.as_many in
    let le = ap length e in
    let wo : w.unused ∷ w.octets ≡ f.0 ∷ f.1 = sym w.is ∙ f.2 in
    let xo : x.unused ∷ x.octets ≡ g.0 ∷ g.1 = sym x.is ∙ g.2 in
    let so = ap length (ap rest_of wo) in
    let sp = ap length (ap rest_of xo) in
    let un : w.unused ≡ x.unused = omega (arith, lo, lp, few, few', n, n', le, bits_length w.octets, bits_length x.octets, length-append s w.filling, length-append t x.filling) in
    let counts : f.0 ≡ g.0 = sym (ap first_of wo) ∙ un ∙ ap first_of xo in
    let same : flat_map bits_of_octet f.1 ≡ flat_map bits_of_octet g.1 = f.3 ∙ ap (λ q. q ++ replicate f.0 false) e ∙ ap (λ q. t ++ replicate q false) counts ∙ sym g.3 in
    let os : f.1 ≡ g.1 = octets_back f.1 g.1 (subst (AllBelowBase 256) (ap rest_of wo) w.are_octets) (subst (AllBelowBase 256) (ap rest_of xo) x.are_octets) same in
    g.2 ∙ ap (λ q. q ∷ g.1) (sym counts) ∙ ap (λ q. f.0 ∷ q) (sym os) ∙ sym f.2

pub pieces_are_whole : {s : List Bool} {c : Bool} {o : List ℕ} → BitPieces s c o → c ≡ false → WholeBits s o
pieces_are_whole (whole_bits w) e = w
pieces_are_whole (cut_bits g) e = absurd (cc)

pub filled_only : {a b : List Bool} {c d : Bool} {o p : List ℕ} → BitPieces a c o → BitPieces b d p → c ≡ false → d ≡ false → FilledWithZeros a o → FilledWithZeros b p → a ≡ b → p ≡ o
filled_only {a} {b} {o = o} {p = p} x y e f g h same = filled_same a b o p (pieces_are_whole x e) (pieces_are_whole y f) g h same

-- trailing zeros

all_zeros : (a r : List Bool) (n : ℕ) → a ++ r ≡ replicate n false → a ≡ replicate (length a) false
all_zeros [] r n e = refl
all_zeros (x ∷ a) r zero e = absurd (let h = ap length e in omega arith)
all_zeros (x ∷ a) r (suc n) e =
    let h : x ≡ false = ap head_bit e in
    let t : a ≡ replicate (length a) false = all_zeros a r n (ap tail_bits e) in
    ap (λ q. q ∷ a) h ∙ ap (λ q. false ∷ q) t
  where
    head_bit : List Bool → Bool
    head_bit [] = false
    head_bit (b ∷ bs) = b

    tail_bits : List Bool → List Bool
    tail_bits [] = []
    tail_bits (b ∷ bs) = bs

last_zero : (n : ℕ) → replicate (suc n) false ≡ replicate n false ++ (false ∷ [])
last_zero zero = refl
last_zero (suc n) = ap (λ q. false ∷ q) (last_zero n)

-- bits that end in one are no longer than the same with other zeros
pub trimmed_short : (a b : List Bool) (m n : ℕ) → EndsInOne a → a ++ replicate m false ≡ b ++ replicate n false → length a ≤ length b
trimmed_short [] b m n t e = omega arith
trimmed_short (x ∷ a) [] m n t e =
    absurd (t (replicate (length a) false) (all_zeros (x ∷ a) (replicate m false) n e ∙ last_zero (length a)))
trimmed_short (x ∷ a) (y ∷ b) m n t e =
    let r = trimmed_short a b m n (λ q f. t (x ∷ q) (ap (λ z. x ∷ z) f)) (ap tail_bits e) in omega arith
  where
    tail_bits : List Bool → List Bool
    tail_bits [] = []
    tail_bits (b ∷ bs) = bs

pub bits_front : (a b x y : List Bool) → length a ≡ length b → a ++ x ≡ b ++ y → a ≡ b
bits_front [] [] x y l e = refl
bits_front [] (d ∷ b) x y l e = absurd (omega arith)
bits_front (c ∷ a) [] x y l e = absurd (omega arith)
bits_front (c ∷ a) (d ∷ b) x y l e =
    let h : c ≡ d = ap head_bit e in
    let t : a ≡ b = bits_front a b x y (omega arith) (ap tail_bits e) in
    cc
  where
    head_bit : List Bool → Bool
    head_bit [] = false
    head_bit (b ∷ bs) = b

    tail_bits : List Bool → List Bool
    tail_bits [] = []
    tail_bits (b ∷ bs) = bs

pub trimmed_same : (a b : List Bool) (m n : ℕ) → EndsInOne a → EndsInOne b → a ++ replicate m false ≡ b ++ replicate n false → a ≡ b
trimmed_same a b m n s t e = bits_front a b (replicate m false) (replicate n false) (omega (arith, trimmed_short a b m n s e, trimmed_short b a n m t (sym e))) e
