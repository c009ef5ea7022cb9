-- What a writer has written.
use Rattle.std.specs.Prelude.{◌≡◌, List, ◌++◌, Result, OnOk}
use Rattle.json.specs.Token.{Token}
use Rattle.json.specs.Written.{Written}

-- the tokens are appended, and what was there before is unchanged
pub record Appends {E : Type 0} (r : Result (Unit {0}) E) (old new : Written) (ts : List Token) : Type 0 where
  pub ok : OnOk r (new.tokens ≡ old.tokens ++ ts)
  pub before : new.before ≡ old.before
