use Rattle.schema_of.specs.values.Allowing.{Allows, AllowsCode}
use Rattle.settled.proofs.Circles.{no_circle}
use Rattle.settled.proofs.law.no_default_circles.Goals as goal

pub returns : goal.returns
returns c p s t whole sound settled h = no_circle p (Allows p) (AllowsCode p) s settled.types whole.linked.places sound.defaults t h
