-- Worked rows: the line of a verdict, the octets that a job gives, and what each part of a conclusion says, in full.
use Rattle.std.proofs.Common.{◌≡◌, ℕ, List, [], ◌∷◌, Bool, true, false, Option, Some, None, Vec, length, map, refl}
use Rattle.std.specs.Prelude.{IsSome, codes, string_bytes}
use Rattle.std.specs.declared.alloc.Global.{Global}
use Rattle.hex.proofs.OnLiterals.{hex_on_literals}
use Rattle.account_checker.specs.declared.reason.Reason.TheVariants as reasons
use Rattle.account_checker.specs.declared.reason.Verdict.TheVariants.{Yes, No}
use Rattle.command_line.specs.declared.request.Given.TheVariants as given
use Rattle.command_line.specs.declared.request.Job.{Job}
use Rattle.command_line.specs.declared.request.Verb.TheVariants as verbs
use Rattle.judging.specs.front_end.Accepted.{octets_of}
use Rattle.judging.specs.Judged.{IsJudged, answer_of}
use Rattle.sinks.specs.Sent.{SinkState, SentAll, SentFront}
use Rattle.check_jobs.specs.declared.inputs.Inputs.{Inputs}
use Rattle.check_jobs.specs.Checks.{IsChecked, IsCheckedInPart, IsVerdictLine, is_yes}
use Rattle.check_jobs.specs.Inputs.{AreInputsOf, HasFile, contents, given_in, hex_line, line_of, octets_given}

-- ---- lines

yes_line : line_of (answer_of Yes) ≡ codes "yes\n"
yes_line = refl

no_line : line_of (answer_of (No reasons.Length)) ≡ codes "no Length\n"
no_line = refl

yes_is_yes : is_yes Yes ≡ true
yes_is_yes = refl

no_is_no : is_yes (No reasons.Header) ≡ false
no_is_no = refl

hexadecimal : hex_line (48 ∷ 6 ∷ 255 ∷ []) ≡ codes "3006FF\n"
unfolding hex_on_literals
hexadecimal = refl

no_octets_in_a_line : hex_line [] ≡ codes "\n"
unfolding hex_on_literals
no_octets_in_a_line = refl

-- ---- octets

no_octets : (file : Option (Vec ℕ Global)) → octets_given given.Nothing file ≡ []
no_octets file = refl

octets_of_words : (v : Vec ℕ Global) → octets_given (given.Octets v) None ≡ v.items
octets_of_words v = refl

octets_of_a_file : (v : Vec ℕ Global) (job : Job) → octets_given (given.Path job.ty) (Some v) ≡ v.items
octets_of_a_file v job = refl

-- ---- conclusions

module _ (job : Job) (inputs : Inputs) (yes : Bool) (o : List ℕ) (r : IsVerdictLine job inputs yes o) where
  line_verdict : IsJudged (map octets_of inputs.files.items) (string_bytes job.ty) (given_in job.value)
      (octets_given job.octets inputs.octets) (contents inputs.account) r.verdict
  line_verdict = r.judged

  line_text : o ≡ line_of (answer_of r.verdict)
  line_text = r.output_is

  line_answer : yes ≡ is_yes r.verdict
  line_answer = r.yes_is

module _ (job : Job) (inputs : Inputs) (yes : Bool) (a b : SinkState) (r : IsChecked job inputs yes a b) where
  checked_line : IsVerdictLine job inputs yes r.output
  checked_line = r.line

  checked_sent : SentAll a b r.output
  checked_sent = r.sent

module _ (job : Job) (inputs : Inputs) (a b : SinkState) (n : ℕ) (r : IsCheckedInPart job inputs a b n) where
  part_line : IsVerdictLine job inputs r.yes r.output
  part_line = r.line

  part_sent : SentFront a b r.output n
  part_sent = r.sent

-- ---- inputs

inputs_are : (job : Job) (inputs : Inputs)
    → length inputs.files.items ≡ length job.files.items
    → length inputs.newer.items ≡ length job.newer.items
    → HasFile job.octets inputs.octets
    → (job.verb ≡ verbs.Check → IsSome inputs.account)
    → ((job.verb ≡ verbs.Check → ⊥) → inputs.account ≡ None)
    → AreInputsOf job inputs
inputs_are job inputs f n o a e = record { files = f; newer = n; octets = o; account = a; no_account = e }

no_file : HasFile given.Nothing None
no_file = refl
