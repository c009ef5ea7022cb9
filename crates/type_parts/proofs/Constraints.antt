-- A constraint takes something of what is read.
use Rattle.grammar.specs.Laws.{nowhere}
use Rattle.grammar.specs.Manies.{Consumes, consumes}
use Rattle.grammar.specs.Places.{small, bounded}
use Rattle.notation.specs.ConstraintGrammar.{constraint}
use Rattle.notation.specs.ConstraintReading.{constraint_at}
use Rattle.type_parts.specs.PartLaws.{PartLaws}

pub constraint_consumes : PartLaws → Consumes (constraint_at small)
constraint_consumes laws = let k = laws.constraints nowhere (bounded 0) (bounded 0) (λ n e. e) tt in consumes (constraint small) (constraint_at small) k.solid (k.sound tt)
