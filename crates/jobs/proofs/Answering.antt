-- The answer to a line that is refused, and to one that isn't.
use Rattle.std.proofs.Common.{◌≡◌, ◌==◌, ◌||◌, ℕ, ◌<◌, ◌≤◌, Bool, true, false, List, [], ◌∷◌, ◌++◌, length, codes, if◌then◌else◌, eqb-true, Result, Ok, Err, refl, ap, ◌∙◌}
use Rattle.std.specs.Prelude.{IfOk, decimal}
use Rattle.asn_base.specs.Types.{Resolved}
use Rattle.resolve.specs.Program.{Program}
use Rattle.check_jobs.specs.Inputs.{line_of}
use Rattle.asnc.specs.messages.declared.fault.Fault.TheVariants as faults
use Rattle.jobs.specs.Answers.{IsLineAnswer, IsLineRefused, IsMarkedReport, IsAnswerText, comment_of, has_end, without_ends}
use Rattle.jobs.specs.declared.commands_of_lines.LineCommand.{LineCommand}
use Rattle.jobs.specs.declared.refusals.LineFault.{LineFault}
use Rattle.jobs.specs.declared.refusals.LineFault.TheVariants as line_faults

-- an octet that isn't a line end, or a space in its place
not_end : (c : ℕ) (b : Bool) → (c == 10) ≡ b → ((if b then 32 else c) == 10) ≡ false
not_end c true h = refl
not_end c false h = h

-- a text without line ends has none
no_end : (xs : List ℕ) → has_end (without_ends xs) ≡ false
no_end [] = refl
no_end (x ∷ xs) = rw (not_end x (x == 10) refl) (no_end xs)

-- the answer to a line for which the fault is true
pub refused_line : (c : LineCommand) (p : Program) (s : List Resolved) (ty l : List ℕ) (fault : LineFault)
    (text output : List ℕ) → IsMarkedReport fault text
    → (fault ≡ line_faults.Refused faults.Memory → ⊥)
    → output ≡ line_of text
    → IsLineRefused c p s ty l fault
    → IsLineAnswer c p s ty l false output
refused_line c p s ty l fault text output m other e r = record {
  text = text;
  output_is = e;
  one_line = ap has_end m.text_is ∙ no_end m.report;
  short = λ h. absurd cc;
  prints = λ h. absurd cc;
  refuses = λ _. record { fault = fault; refused = r; no_memory = other; marked = m };
}

-- the answer to a line of which a command prints a text
pub printed_line : (c : LineCommand) (p : Program) (s : List Resolved) (ty l text output : List ℕ)
    → IsAnswerText c p s ty l text
    → has_end text ≡ false
    → length l ≤ 33554432
    → output ≡ line_of text
    → IsLineAnswer c p s ty l true output
printed_line c p s ty l text output t n w e = record {
  text = text;
  output_is = e;
  one_line = n;
  short = λ _. w;
  prints = λ _. t;
  refuses = λ h. absurd cc;
}

-- the comment if additions were skipped
comment_by : (k : ℕ) (b : Bool) → (k == 0) ≡ b → (k ≡ 0 → ⊥)
    → (if b then [] else (codes " -- skipped " ++ decimal k)) ≡ codes " -- skipped " ++ decimal k
comment_by k true e h = absurd (h (eqb-true k 0 e))
comment_by k false e h = refl

pub comment_some : (k : ℕ) → (k ≡ 0 → ⊥) → comment_of k ≡ codes " -- skipped " ++ decimal k
comment_some k h = comment_by k (k == 0) refl h

-- what follows of each answer follows of an answer
pub if_ok_then : {A E : Type 0} (P Q : A → Type 0) (r : Result A E) → ((x : A) → P x → Q x) → IfOk r P → IfOk r Q
if_ok_then P Q (Ok x) f h = f x h
if_ok_then P Q (Err e) f h = tt
