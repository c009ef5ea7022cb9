-- The tokens that a view received.
use Rattle.std.specs.Prelude.{ℕ, suc, List, [], ◌∷◌, ◌++◌}
use Rattle.octet_answers.specs.States.{Token, component, chosen, begun, ended, held, passed}
use Rattle.ber_source.specs.Seen.{token_of}
use Rattle.ber_source.specs.declared.log.Log.{Log}
use Rattle.ber_source.specs.declared.log.Log.TheOpen.{Log-F}
use Rattle.ber_source.specs.declared.log.Log.TheOpen.Log-F.{Empty, More}
use Rattle.ber_source.specs.declared.log.Log.TheFolds.{fold-Log}

abbrev pub level : Log-F (List Token) → List Token
level Empty = []
level (More t before) = before.value ++ token_of t.value ∷ []

abbrev pub logged : Log → List Token
logged = fold-Log (List Token) level

-- the number of skipped additions among the tokens
abbrev pub passes : List Token → ℕ
passes [] = 0
passes (passed ∷ ts) = suc (passes ts)
passes (component i ∷ ts) = passes ts
passes (chosen i ∷ ts) = passes ts
passes (begun t ∷ ts) = passes ts
passes (ended ∷ ts) = passes ts
passes (held k c x at ∷ ts) = passes ts
