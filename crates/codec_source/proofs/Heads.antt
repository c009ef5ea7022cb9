-- A header that steps begin with.
use Rattle.std.proofs.Common.{arith, ◌≡◌, ℕ, List, ◌∷◌, sym, subst}
use Rattle.std.specs.Prelude.{None}
use Rattle.codec_code.specs.declared.step.Head.{Head as Head'}
use Rattle.codec_code.specs.declared.step.Step.{Step}
use Rattle.codec_code.specs.declared.step.Step.TheVariants.{Head}
use Rattle.codec_source.specs.declared.frame.Frame.{Frame}
use Rattle.codec_source.specs.Events.{Event, opens, IsOneAnswer, Question, to_open}
use Rattle.codec_source.specs.Reading.{head}
use Rattle.codec_source.specs.proving.Frames.{Same, Never, Before, BeforeStops}
use Rattle.codec_source.proofs.Asking.{no_head}
use Rattle.codec_source.proofs.Running.{asked_before, never_asked}
use Rattle.codec_source.proofs.Halting.{asked_stops, before_none, nothing_asked}

module _ {S : Type 0} (r : ℕ → List Step) (takes : S → Event → S → Type 0) (one : IsOneAnswer takes) (ss b : List Step) (h : Head') (fs : List Frame) (e : ss ≡ Head h ∷ b) where
  pub head_opened : (x a : S) → takes x (opens h) a → Same (Before r takes ss fs x) (Before r takes b fs a)
  head_opened x a o = subst (λ q. Same (Before r takes q fs x) (Before r takes b fs a)) (sym e) (asked_before r takes one (Head h ∷ b) b None fs x a (head o))

  pub never_opened : (x : S) → ((y : S) → takes x (opens h) y → ⊥) → Never (Before r takes ss fs x)
  never_opened x n = subst (λ q. Never (Before r takes q fs x)) (sym e) (never_asked r takes one (Head h ∷ b) fs x (omega arith) (no_head takes h b x n))

module _ {S : Type 0} (r : ℕ → List Step) (takes : S → Event → S → Type 0) (refuses : S → Question → S → Type 0) (ss b : List Step) (h : Head') (fs : List Frame) (e : ss ≡ Head h ∷ b) where
  pub opened_stops : (x a z : S) → takes x (opens h) a → BeforeStops r takes refuses b fs a z → BeforeStops r takes refuses ss fs x z
  opened_stops x a z o s = subst (λ q. BeforeStops r takes refuses q fs x z) (sym e) (asked_stops r takes refuses (Head h ∷ b) b None fs x a z (head o) (before_none r takes refuses b fs a z s))

  pub header_stops : (x z : S) → ((y : S) → takes x (opens h) y → ⊥) → refuses x (to_open h) z → BeforeStops r takes refuses ss fs x z
  header_stops x z n l = subst (λ q. BeforeStops r takes refuses q fs x z) (sym e) (nothing_asked r takes refuses (Head h ∷ b) fs x z (omega arith) (no_head takes h b x n) l)
