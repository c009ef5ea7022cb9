-- Events within a header that isn't among the open ones.
use Rattle.std.specs.Prelude.{List, ◌++◌}
use Rattle.codec_code.specs.Events.{Event}
use Rattle.codec_machine.specs.declared.open_row.OpenRow.{OpenRow}

-- Events were added within the open row. Whichever events led to the first state, these and the added ones lead to the
-- second one.
abbrev pub Carries : {S : Type 0} → (S → List Event → OpenRow → S → Type 0) → OpenRow → S → List Event → S → Type 0
Carries {S} opened row b es c = (a : S) (ds : List Event) → opened a ds row b → opened a (ds ++ es) row c
