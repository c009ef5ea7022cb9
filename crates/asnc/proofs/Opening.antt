-- The kit of a program is that of any program that the texts are accepted as.
use Rattle.std.proofs.Common.{◌≡◌, Result, Ok, Err, ◌∙◌}
use Rattle.std.specs.Prelude.{IfOk, IfErr, MatchResult}
use Rattle.resolve.specs.Program.{Program}
use Rattle.judging.specs.messages.declared.fault.Fault.{Fault}
use Rattle.judging.specs.messages.declared.fault.Fault.TheVariants.{Memory}

pub kit_answers : {K : Type 0} (program : K → Program) (l p : Program) (r : Result K Fault) → l ≡ p →
    IfOk r (λ k. program k ≡ l) → IfErr r (λ e. e ≡ Memory) → MatchResult r (λ k. program k ≡ p) (λ e. e ≡ Memory)
kit_answers program l p (Ok k) q i h = i ∙ q
kit_answers program l p (Err e) q i h = h
