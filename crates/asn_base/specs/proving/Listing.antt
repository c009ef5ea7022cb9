-- Octets of a name, names in a list, and components in version brackets.
use Rattle.std.specs.Prelude.{ℕ, ◌⊎◌, Bool, true, false, not, ◌&&◌, ◌==◌, if◌then◌else◌, List, [], ◌∷◌, Option, Some, None, map}
use Rattle.std.specs.Char.{is_ascii_alphanumeric}
use Rattle.std.specs.Borrow.{Bor}
use Rattle.std.specs.List.{AllByRecursion}
use Rattle.asn_base.specs.Types.{Component}
use Rattle.asn_base.specs.Typed.{IsOfGroup}

-- whether octet x is a hyphen, if it can follow in a name; the flag says that a hyphen came directly before
abbrev pub next_flag : Bool → ℕ → Option Bool
next_flag after x = if (x == 45) && not after then Some true else (if is_ascii_alphanumeric x then Some false else None)

abbrev pub texts : List (Bor (List ℕ)) → List (List ℕ)
texts = map (λ n. n.now)

-- if component c is in version brackets, the next one is in the same ones, or no later one is
abbrev pub AreTogether : Component → List Component → Type 0
AreTogether c [] = Unit {0}
AreTogether c (d ∷ cs) = (g : ℕ) → IsOfGroup g c → IsOfGroup g d ⊎ AllByRecursion (λ b. IsOfGroup g b → ⊥) (d ∷ cs)
