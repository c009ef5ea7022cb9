-- Bits filled to octets.
use Rattle.std.proofs.Common.{◌≡◌, ℕ, ◌≤◌, List, [], ◌∷◌, ◌++◌, length, refl, sym, ap, subst, ◌∙◌, arith}
use Rattle.std.specs.Int.Digits.{AllBelowBase}
use Rattle.bits.specs.Adds.{Pads}
use Rattle.bits.specs.Words.{octet_bits, low_bits}
use Rattle.packed_encodings.specs.Computed.{open_bits}
use Rattle.packed_encodings.specs.Lengths.{Bits, Counted}
use Rattle.packed_encodings.specs.Padding.{Padded, padded_none, padded, Open, open_type}
use Rattle.packed_counts.specs.Counts.{Adds}
use Rattle.std.specs.Prelude.{map}

pub no_bits : (b : Bits) (o : List ℕ) → length b ≡ 0 → o ≡ 0 ∷ [] → Padded b o
no_bits [] o e f = subst (Padded []) (sym f) padded_none
no_bits (x ∷ b) o e f = absurd (omega (arith, e))

pub some_bits : (b full : Bits) (o : List ℕ) → (length b ≡ 0 → ⊥) → Pads b full → octet_bits o ≡ full → AllBelowBase 256 o → Padded b o
some_bits b full o n p e h = padded p.zeros (some b n) p.few h (e ∙ p.joined)
  where
    some : (b : Bits) → (length b ≡ 0 → ⊥) → 1 ≤ length b
    some [] n = absurd (n refl)
    some (x ∷ b) n = omega arith

pub opened : ((x y : Bits) → Open x y → open_bits x ≡ y) → (b : Bits) (o : List ℕ) (old new : Bits) → Padded b o → AllBelowBase 256 o → Adds (Counted (map (low_bits 8) o)) old new → new ≡ old ++ open_bits b
opened law b o old new p h a = a.whole ∙ ap (λ q. old ++ q) (sym (law b a.bits (open_type p (record { octets = h; counted = a.is }))))
