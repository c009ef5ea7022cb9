-- The node of a value whose routine is a header around components, and of one that has no node of its own.
use Rattle.std.proofs.Common.{◌≡◌, ℕ, List, [], ◌∷◌, refl, ap, sym, ◌∙◌}
use Rattle.codec_code.specs.declared.step.Head.{Head as Head'}
use Rattle.codec_code.specs.declared.step.Step.{Step}
use Rattle.codec_code.specs.declared.step.Step.TheVariants.{Head, Leaf, Field, SetComponent, Each, EachSorted, Pick}
use Rattle.codec_code.specs.declared.step.Step.TheVariants.{Call, Rest, End}
use Rattle.ber_source.specs.Seen.{IsBare}
use Rattle.codec_code.specs.Summaries.{AreComponents, fields_in}
use Rattle.ber_source.specs.declared.shape.Shape.TheVariants as shapes
use Rattle.ber_source.specs.Shapes.{shape_in}

pub row_in : (ss : List Step) (h : Head') (rest : List Step) (n : ℕ) → ss ≡ Head h ∷ rest → AreComponents rest n → shapes.Row n ≡ shape_in ss
row_in ss h rest n e a =
    ap (λ k. shapes.Row k) (sym a.as_many) ∙ ap (λ q. shapes.Row (fields_in q)) a.are
    ∙ sym (ap shape_in e ∙ ap shape_in a.are)

-- a value that holds no others, or whose routine begins with a choice, has no node of its own
pub bare_in : (ss : List Step) → IsBare ss → shape_in ss ≡ shapes.Bare
bare_in (Head h ∷ Leaf k ∷ ss) b = refl
bare_in (Pick n ∷ ss) b = refl
bare_in (Head h ∷ []) b = absurd b
bare_in (Head h ∷ Head i ∷ ss) b = absurd b
bare_in (Head h ∷ Field f ∷ ss) b = absurd b
bare_in (Head h ∷ SetComponent f r ∷ ss) b = absurd b
bare_in (Head h ∷ Each t ∷ ss) b = absurd b
bare_in (Head h ∷ EachSorted t ∷ ss) b = absurd b
bare_in (Head h ∷ Pick n ∷ ss) b = absurd b
bare_in (Head h ∷ Call t ∷ ss) b = absurd b
bare_in (Head h ∷ Rest ∷ ss) b = absurd b
bare_in (Head h ∷ End ∷ ss) b = absurd b
bare_in [] b = absurd b
bare_in (Leaf k ∷ ss) b = absurd b
bare_in (Field f ∷ ss) b = absurd b
bare_in (SetComponent f r ∷ ss) b = absurd b
bare_in (Each t ∷ ss) b = absurd b
bare_in (EachSorted t ∷ ss) b = absurd b
bare_in (Call t ∷ ss) b = absurd b
bare_in (Rest ∷ ss) b = absurd b
bare_in (End ∷ ss) b = absurd b
