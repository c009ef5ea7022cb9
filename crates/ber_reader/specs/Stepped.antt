-- What the steps of a routine read, after the headers at its start.
use Rattle.std.specs.Prelude.{List, [], ◌∷◌, Option, Some, None}
use Rattle.asn_base.specs.declared.schema.TypeId.{TypeId}
use Rattle.codec_code.specs.declared.step.Step.{Step}
use Rattle.codec_code.specs.declared.step.Step.TheVariants.{Head, Each, EachSorted, Call}

-- the steps after the headers with which the steps start
abbrev pub after_heads : List Step → List Step
after_heads [] = []
after_heads (Head h ∷ ss) = after_heads ss
after_heads (p ∷ ss) = p ∷ ss

-- the type of the elements that a step reads, if it reads elements
abbrev pub element_in : Step → Option TypeId
element_in (Each u) = Some u
element_in (EachSorted u) = Some u
element_in p = None

-- the type whose routine a step calls, if it calls one
abbrev pub called_in : Step → Option TypeId
called_in (Call u) = Some u
called_in p = None
