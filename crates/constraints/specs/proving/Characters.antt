-- The results for texts and ranges of characters.
use Rattle.std.specs.Prelude.{◌↔◌, ◌⊎◌, ◌<◌, ◌≤◌, ℕ, List}
use Rattle.asn_base.specs.Names.{IsMember}
use Rattle.names.specs.Modules.{OccursIn}
use Rattle.range_ends.specs.Characters.{IsCharacter, CharsTree, IsAmong, IsFit, HasNoCharacter, IsTurned}
use Rattle.constraints.specs.declared.characters.CharsFault.{CharsFault}
use Rattle.constraints.specs.declared.characters.CharsFault.TheVariants as faults

-- these are the codes of the first and the last character
pub record AreFrom (first last : List ℕ) (a b : ℕ) : Type 0 where
  pub starts : IsCharacter first a
  pub ends : IsCharacter last b
  pub order : a ≤ b

abbrev pub IsCharsFault : CharsTree → CharsFault → Type 0
IsCharsFault x (faults.NoCharacter at) = HasNoCharacter x
IsCharsFault x (faults.Reversed at) = IsTurned x

abbrev pub AreCharsWrong : List CharsTree → CharsFault → Type 0
AreCharsWrong xs f = (x : CharsTree) × OccursIn xs x × IsCharsFault x f

-- the text or range is right, and its characters are added
pub record Adds (x : CharsTree) (old new : List ℕ) : Type 0 where
  pub fit : IsFit x
  pub members : (c : ℕ) → (IsMember c new ↔ (IsMember c old ⊎ (IsAmong x c × (c < 128))))
