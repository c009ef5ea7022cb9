use Rattle.std.proofs.Common.{◌≡◌, ◌⊎◌, inl, inr, sym, ap}
use Rattle.text.specs.declared.reserved.Word.{Word}
use Rattle.text.specs.declared.reserved.Word.TheVariants as words
use Rattle.notation.specs.Answer.{is_refused_word}
use Rattle.notation.proofs.refused.is_refused_word.Goals as goal

either : {P Q R : Type 0} → (P → R) → (Q → R) → P ⊎ Q → R
either f g (inl p) = f p
either f g (inr q) = g q

-- a word is refused where it is one that is
module _ (w : Word) where
  one : (v : Word) → w ≡ v → is_refused_word v ≡ is_refused_word w
  one v e = sym (ap is_refused_word e)

pub returns-in-Real : goal.returns-in-Real
returns-in-Real c = either (one c.args.word words.Real) (either (one c.args.word words.GeneralizedTime) (either (one c.args.word words.UtcTime) (either (one c.args.word words.External) (either (one c.args.word words.Embedded) (either (one c.args.word words.Character) (either (one c.args.word words.OidIri) (either (one c.args.word words.ObjectDescriptor) (either (one c.args.word words.BmpString) (either (one c.args.word words.UniversalString) (either (one c.args.word words.TeletexString) (either (one c.args.word words.T61String) (either (one c.args.word words.GeneralString) (either (one c.args.word words.GraphicString) (either (one c.args.word words.VideotexString) (either (one c.args.word words.Class) (either (one c.args.word words.TypeIdentifier) (either (one c.args.word words.AbstractSyntax) (either (one c.args.word words.Instance) (either (one c.args.word words.Universal) (either (one c.args.word words.Components) (either (one c.args.word words.With) (either (one c.args.word words.Containing) (either (one c.args.word words.Pattern) (either (one c.args.word words.Includes) (either (one c.args.word words.Intersection) (either (one c.args.word words.Except) (either (one c.args.word words.Extensibility) (either (one c.args.word words.PlusInfinity) (one c.args.word words.MinusInfinity))))))))))))))))))))))))))))) c.in-Real.is
