-- Which node a view has for a value of each type, by the steps of the type's routine.
use Rattle.std.specs.Prelude.{suc, List, [], ◌∷◌, length}
use Rattle.asn_base.specs.Types.{Kind, a_sequence, a_set, a_sequence_of, a_set_of}
use Rattle.codec_code.specs.declared.step.Step.{Step}
use Rattle.codec_code.specs.declared.step.Step.TheVariants.{Head, Leaf, Field, SetComponent, Each, EachSorted, Pick}
use Rattle.codec_code.specs.declared.step.Step.TheVariants.{Call, Rest, End}
use Rattle.codec_code.specs.Summaries.{fields_in}
use Rattle.ber_source.specs.declared.shape.Shape.{Shape}
use Rattle.ber_source.specs.declared.shape.Shape.TheVariants as shapes

-- a row with the number of its components, a list, or no node of its own
abbrev pub shape_of : Kind → Shape
shape_of (a_sequence e cs) = shapes.Row (length cs)
shape_of (a_set e cs) = shapes.Row (length cs)
shape_of (a_sequence_of c u) = shapes.List
shape_of (a_set_of c u) = shapes.List
shape_of k = shapes.Bare

-- the node by the steps of a routine
abbrev pub shape_in : List Step → Shape
shape_in [] = shapes.Bare
shape_in (Head h ∷ ss) = shape_in ss
shape_in (Leaf k ∷ ss) = shapes.Bare
shape_in (Pick n ∷ ss) = shapes.Bare
shape_in (Call t ∷ ss) = shapes.Bare
shape_in (Each t ∷ ss) = shapes.List
shape_in (EachSorted t ∷ ss) = shapes.List
shape_in (Field f ∷ ss) = shapes.Row (suc (fields_in ss))
shape_in (SetComponent f r ∷ ss) = shapes.Row (suc (fields_in ss))
shape_in (Rest ∷ ss) = shapes.Row 0
shape_in (End ∷ ss) = shapes.Row 0
