-- Bits have octets that hold them, and bits without their trailing zeros end in one.
use Rattle.std.proofs.Common.{arith, ◌≡◌, ℕ, suc, ◌/◌, ◌%◌, ◌<◌, ◌≤◌, Bool, true, false, List, [], ◌∷◌, ◌++◌, length, replicate, refl, ap, ◌∙◌}
use Rattle.std.specs.Prelude.{◌==◌, flat_map}
use Rattle.std.specs.Int.Digits.{AllBelowBase}
use Rattle.asn_base.specs.Abstract.{bits_of_octet}
use Rattle.encodings.specs.Strings.{WholeBits}
use Rattle.encodings.specs.Contents.{EndsInOne, FilledWithZeros}
use Rattle.encodings.proofs.BitLaws.{digit, octet_of, replicate_length}

bit_back : (x : ℕ) (b : Bool) → x ≡ digit b → (x == 1) ≡ b
bit_back x true e = ap (λ q. q == 1) e
bit_back x false e = ap (λ q. q == 1) e

digit_small : (b : Bool) → digit b < 2
digit_small true = omega arith
digit_small false = omega arith

octet_small : (a b c d e f g h : Bool) → octet_of (a ∷ b ∷ c ∷ d ∷ e ∷ f ∷ g ∷ h ∷ []) < 256
octet_small a b c d e f g h = omega (arith, digit_small a, digit_small b, digit_small c, digit_small d, digit_small e, digit_small f, digit_small g, digit_small h)

eight_cons : {a b c d e f g h p q r s t u v w : Bool} → p ≡ a → q ≡ b → r ≡ c → s ≡ d → t ≡ e → u ≡ f → v ≡ g → w ≡ h → (p ∷ q ∷ r ∷ s ∷ t ∷ u ∷ v ∷ w ∷ []) ≡ (a ∷ b ∷ c ∷ d ∷ e ∷ f ∷ g ∷ h ∷ [])
eight_cons i j k l m n o p = cc

eight : (a b c d e f g h : Bool) → bits_of_octet (octet_of (a ∷ b ∷ c ∷ d ∷ e ∷ f ∷ g ∷ h ∷ [])) ≡ a ∷ b ∷ c ∷ d ∷ e ∷ f ∷ g ∷ h ∷ []
eight a b c d e f g h =
    let n = octet_of (a ∷ b ∷ c ∷ d ∷ e ∷ f ∷ g ∷ h ∷ []) in
    let da = digit_small a in let db = digit_small b in let dc = digit_small c in let dd = digit_small d in
    let de = digit_small e in let df = digit_small f in let dg = digit_small g in let dh = digit_small h in
    eight_cons
    (bit_back (n / 128) a (omega arith)) (bit_back (n / 64 % 2) b (omega arith)) (bit_back (n / 32 % 2) c (omega arith)) (bit_back (n / 16 % 2) d (omega arith))
    (bit_back (n / 8 % 2) e (omega arith)) (bit_back (n / 4 % 2) f (omega arith)) (bit_back (n / 2 % 2) g (omega arith)) (bit_back (n % 2) h (omega arith))

record Packed (s : List Bool) : Type 0 where
  octets : List ℕ
  zeros : ℕ
  few : zeros < 8
  below : AllBelowBase 256 octets
  same : flat_map bits_of_octet octets ≡ s ++ replicate zeros false

one_octet : (s : List Bool) (n : ℕ) (a b c d e f g h : Bool) → n < 8 → (a ∷ b ∷ c ∷ d ∷ e ∷ f ∷ g ∷ h ∷ []) ≡ s ++ replicate n false → Packed s
one_octet s n a b c d e f g h l eq = record {
  octets = octet_of (a ∷ b ∷ c ∷ d ∷ e ∷ f ∷ g ∷ h ∷ []) ∷ [];
  zeros = n;
  few = l;
  below = (octet_small a b c d e f g h, tt);
  same = ap (λ q. q ++ []) (eight a b c d e f g h) ∙ eq;
}

packed : (s : List Bool) → Packed s
packed [] = record { octets = []; zeros = 0; few = omega arith; below = tt; same = refl }
packed (a ∷ []) = one_octet (a ∷ []) 7 a false false false false false false false (omega arith) refl
packed (a ∷ b ∷ []) = one_octet (a ∷ b ∷ []) 6 a b false false false false false false (omega arith) refl
packed (a ∷ b ∷ c ∷ []) = one_octet (a ∷ b ∷ c ∷ []) 5 a b c false false false false false (omega arith) refl
packed (a ∷ b ∷ c ∷ d ∷ []) = one_octet (a ∷ b ∷ c ∷ d ∷ []) 4 a b c d false false false false (omega arith) refl
packed (a ∷ b ∷ c ∷ d ∷ e ∷ []) = one_octet (a ∷ b ∷ c ∷ d ∷ e ∷ []) 3 a b c d e false false false (omega arith) refl
packed (a ∷ b ∷ c ∷ d ∷ e ∷ f ∷ []) = one_octet (a ∷ b ∷ c ∷ d ∷ e ∷ f ∷ []) 2 a b c d e f false false (omega arith) refl
packed (a ∷ b ∷ c ∷ d ∷ e ∷ f ∷ g ∷ []) = one_octet (a ∷ b ∷ c ∷ d ∷ e ∷ f ∷ g ∷ []) 1 a b c d e f g false (omega arith) refl
packed (a ∷ b ∷ c ∷ d ∷ e ∷ f ∷ g ∷ h ∷ s) =
    let r = packed s in
    record {
      octets = octet_of (a ∷ b ∷ c ∷ d ∷ e ∷ f ∷ g ∷ h ∷ []) ∷ r.octets;
      zeros = r.zeros;
      few = r.few;
      below = (octet_small a b c d e f g h, r.below);
      same = ap (λ q. q ++ flat_map bits_of_octet r.octets) (eight a b c d e f g h) ∙ ap (λ q. a ∷ b ∷ c ∷ d ∷ e ∷ f ∷ g ∷ h ∷ q) r.same;
    }

-- octets of bits, filled with zeros
pub record FilledBits (s : List Bool) : Type 0 where
  pub octets : List ℕ
  pub whole : WholeBits s octets
  pub filled : FilledWithZeros s octets

pub filled_bits : (s : List Bool) → FilledBits s
filled_bits s =
    let p = packed s in
    record {
      octets = p.zeros ∷ p.octets;
      whole = record { unused = p.zeros; octets = p.octets; filling = replicate p.zeros false; few = p.few; are_octets = p.below; is = refl; bits = p.same; as_many = replicate_length p.zeros false };
      filled = (p.zeros, p.octets, refl, p.same);
    }

-- bits without trailing zeros
pub record Trimmed (s : List Bool) : Type 0 where
  pub bits : List Bool
  pub zeros : ℕ
  pub same : s ≡ bits ++ replicate zeros false
  pub ends : EndsInOne bits
  pub short : length bits ≤ length s

some_bit : (t : List Bool) → 1 ≤ length (t ++ false ∷ [])
some_bit [] = omega arith
some_bit (x ∷ t) = omega arith

abbrev tail_bits : List Bool → List Bool
tail_bits [] = []
tail_bits (b ∷ bs) = bs

abbrev head_bit : List Bool → Bool
head_bit [] = false
head_bit (b ∷ bs) = b

ends_empty : EndsInOne []
ends_empty t e = let l = ap length e in omega (arith, l, some_bit t)

ends_one : EndsInOne (true ∷ [])
ends_one [] e = let h : true ≡ false = ap head_bit e in cc
ends_one (x ∷ t) e = let l = ap length e in omega (arith, l, some_bit t)

ends_more : (b x : Bool) (t : List Bool) → EndsInOne (x ∷ t) → EndsInOne (b ∷ x ∷ t)
ends_more b x t h [] e = let l = ap length e in omega arith
ends_more b x t h (y ∷ u) e = h u (ap tail_bits e)

one_more : (b : Bool) (s t : List Bool) (n : ℕ) → s ≡ t ++ replicate n false → EndsInOne t → length t ≤ length s → Trimmed (b ∷ s)
one_more false s [] n e h l = record { bits = []; zeros = suc n; same = ap (λ q. false ∷ q) e; ends = ends_empty; short = omega arith }
one_more true s [] n e h l = record { bits = true ∷ []; zeros = n; same = ap (λ q. true ∷ q) e; ends = ends_one; short = omega arith }
one_more b s (x ∷ t) n e h l = record { bits = b ∷ x ∷ t; zeros = n; same = ap (λ q. b ∷ q) e; ends = ends_more b x t h; short = omega arith }

pub trimmed_bits : (s : List Bool) → Trimmed s
trimmed_bits [] = record { bits = []; zeros = 0; same = refl; ends = ends_empty; short = omega arith }
trimmed_bits (b ∷ s) = let r = trimmed_bits s in one_more b s r.bits r.zeros r.same r.ends r.short
