-- Octets after their number are read as they are.
use Rattle.std.proofs.Common.{◌≡◌, ℕ, List, [], ◌∷◌, refl, ap, subst, ◌∙◌, map}
use Rattle.std.specs.Int.Digits.{AllBelowBase}
use Rattle.bits.specs.Words.{low_bits}
use Rattle.packed_encodings.specs.Lengths.{Bits, Items, Counted, CountedOctets}
use Rattle.packed_readings.specs.Outcome.{IsReading}
use Rattle.packed_readings.specs.Composing.{same}
use Rattle.packed_readings.specs.Counts.{EachHas, none_has, one_has, IsOctet, any_total, several_octets, octets_from}
use Rattle.packed_readings.proofs.Fields.{octets_read}
use Rattle.packed_readings.proofs.Parts.{counted}

pub record AreOctets (o : List ℕ) (xs : Items) : Type 0 where
  pub below : AllBelowBase 256 o
  pub words : xs ≡ map (low_bits 8) o

octet_first : {n : ℕ} {o : List ℕ} {x : Bits} {xs : Items} → IsOctet n x → AreOctets o xs → AreOctets (n ∷ o) (x ∷ xs)
octet_first {n} {o} {x} p a = record { below = (p.fits, a.below); words = ap (λ q. x ∷ q) a.words ∙ ap (λ q. q ∷ map (low_bits 8) o) p.is }

pub octets_of_items : {o : List ℕ} {xs : Items} → EachHas IsOctet o xs → AreOctets o xs
octets_of_items none_has = record { below = tt; words = refl }
octets_of_items (one_has p e) = octet_first p (octets_of_items e)

pub items_of_octets : (o : List ℕ) → AllBelowBase 256 o → EachHas IsOctet o (map (low_bits 8) o)
items_of_octets [] a = none_has
items_of_octets (n ∷ o) a = one_has (record { fits = a.0; is = refl }) (items_of_octets o a.1)

pub octets : IsReading CountedOctets octets_from
octets = same
    (λ o x c. (let a = octets_of_items c.are in record { octets = a.below; counted = subst (λ q. Counted q x) a.words c.counted }))
    (λ o x c. record { items = map (low_bits 8) o; are = items_of_octets o c.octets; passed = refl; counted = c.counted })
    (counted any_total several_octets octets_read)
