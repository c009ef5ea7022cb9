use Rattle.std.proofs.Common.{arith, ◌≡◌, ◌<◌, ◌≤◌, ℕ, List, ◌∷◌}
use Rattle.std.specs.Prelude.{◌↔◌}
use Rattle.std.specs.Int.Digits.{AllBelowBase}
use Rattle.asn_base.specs.Names.{IsMember, is_first, is_later}
use Rattle.packed_readings.proofs.character.is_among.Goals as goal

-- a code of an alphabet of octets is below 256
below : {x : ℕ} {xs : List ℕ} → IsMember x xs → AllBelowBase 256 xs → x < 256
below is_first a = a.0
below (is_later m) a = below m a.1

pub returns-then-code-gt255 : goal.returns-then-code-gt255
returns-then-code-gt255 c = (λ t. absurd (cc), λ m. absurd (omega (arith, c.if-code-gt255.true, below m c.are_octets.ensures)))
