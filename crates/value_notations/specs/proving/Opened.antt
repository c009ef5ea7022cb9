-- What a call adds to the values whose notations are being read.
use Rattle.std.specs.Prelude.{◌≡◌, ℕ, ◌<◌, true, List, ◌++◌, length, eqb}
use Rattle.std.specs.List.{IsDistinct, list_any}

-- `count` values below n, no two alike, were added to `os`
pub record IsGrown (os ps : List ℕ) (n count : ℕ) : Type 0 where
  pub added : List ℕ
  pub joined : ps ≡ added ++ os
  pub long : length added ≡ count
  pub distinct : IsDistinct eqb added
  pub below : (q : ℕ) → list_any (eqb q) added ≡ true → q < n
