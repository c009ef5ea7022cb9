-- The words so far begin with the product's name.
use Rattle.std.proofs.Common.{◌≡◌, ◌∷◌, ℕ, List, map, string_bytes}
use Rattle.programs.proofs.words.words_of.Given as goal

abbrev pub invariant-loop-word : goal.invariant-loop-word
invariant-loop-word l = (rest : List (List ℕ)) × (map string_bytes l.words.items ≡ l.program ∷ rest)
