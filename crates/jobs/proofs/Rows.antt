-- Worked rows: lines of octets and of values, and what each part of a conclusion says, in full.
use Rattle.std.proofs.Common.{◌≡◌, ◌⊎◌, ℕ, List, [], ◌∷◌, ◌++◌, Bool, true, false, ap, map, refl}
use Rattle.std.specs.Prelude.{codes, string_bytes, String, None, Some}
use Rattle.std.specs.declared.alloc.Global.{Global}
use Rattle.std.specs.Fmt.{digits}
use Rattle.hex.proofs.OnLiterals.{hex_on_literals}
use Rattle.asn_base.specs.Types.{Resolved}
use Rattle.encodings.specs.Rules.{Basic, Distinguished}
use Rattle.resolve.specs.Program.{Program}
use Rattle.asnc.specs.front_end.Accepted.{Accepted, AreAccepted, octets_of}
use Rattle.asnc.specs.front_end.declared.fault.CompileError.{CompileError}
use Rattle.asnc.specs.Kits.{IsNotOpened}
use Rattle.asnc.specs.Packing.{IsPacked}
use Rattle.asnc.specs.Reading.{IsReadAs}
use Rattle.asnc.specs.Showing.{IsNotShownAs, IsShownAs}
use Rattle.asnc.specs.Unpacking.{IsUnpackedAs}
use Rattle.asnc.specs.Differences.{AreCompared}
use Rattle.later_versions.specs.DifferenceText.{says_later}
use Rattle.later_versions.specs.declared.reason.Explained.TheVariants as explained
use Rattle.asnc.specs.Writing.{IsAccountOf, IsEncoded}
use Rattle.asnc.specs.messages.declared.fault.Fault.{Fault}
use Rattle.asnc.specs.messages.declared.fault.Fault.TheVariants as faults
use Rattle.asnc.specs.messages.declared.fault.DecodeError.{DecodeError}
use Rattle.later_versions.specs.declared.reason.Difference.{Difference}
use Rattle.diagnostics.specs.Heading.{heading_of, Begins}
use Rattle.sinks.specs.Sent.{SinkState, SentAll, SentFront}
use Rattle.command_line.specs.declared.request.Job.{Job}
use Rattle.command_line.specs.declared.request.Verb.TheVariants as verbs
use Rattle.check_jobs.specs.Checks.{IsNotChecked, IsVerdictLine}
use Rattle.check_jobs.specs.Inputs.{given_in, line_of, octets_given}
use Rattle.check_jobs.specs.declared.inputs.Inputs.{Inputs}
use Rattle.jobs.specs.Done.{IsDone, IsDoneInPart}
use Rattle.jobs.specs.Outputs.{IsAnswerLine, IsCommandOutput, IsOutput, Prints, PrintsAccount, PrintsBer, PrintsDer}
use Rattle.jobs.specs.Outputs.{PrintsUnper, PrintsUper, answer_text, octets_or_line, rules_if, value_lines}
use Rattle.jobs.specs.Refusals.{AreNewerRefused, AreWithoutType, IsCommandRefused, IsNoAnswer, IsNoOutput, LacksType}
use Rattle.jobs.specs.Refusals.{Refuses}
use Rattle.jobs.specs.Shown.{EndsInRefusal, IsRefusalLine, IsShownOutput, IsShowRefused, PrintsShown}

-- ---- lines

raw_octets : octets_or_line true (48 ∷ 6 ∷ 255 ∷ []) ≡ 48 ∷ 6 ∷ 255 ∷ []
raw_octets = refl

octets_in_a_line : octets_or_line false (48 ∷ 6 ∷ 255 ∷ []) ≡ codes "3006FF\n"
unfolding hex_on_literals
octets_in_a_line = refl

a_value : value_lines (codes "TRUE") 0 ≡ codes "TRUE\nskipped 0\n"
unfolding digits
a_value = refl

skipped : value_lines (codes "{a 5}") 12 ≡ codes "{a 5}\nskipped 12\n"
unfolding digits
skipped = refl

strict : rules_if true ≡ Distinguished
strict = refl

basic : rules_if false ≡ Basic
basic = refl

later_version : line_of (answer_text explained.Later) ≡ codes "yes\n"
later_version = refl

other_version : (d : Difference) (t : String Global)
    → string_bytes t ≡ codes "at a.b: other numbers are allowed"
    → line_of (answer_text (explained.Differs d t)) ≡ codes "no: at a.b: other numbers are allowed\n"
other_version d t e = ap (λ x. line_of (codes "no: " ++ x)) e

yes_of_later : says_later explained.Later ≡ true
yes_of_later = refl

no_of_others : (d : Difference) (t : String Global) → says_later (explained.Differs d t) ≡ false
no_of_others d t = refl

-- ---- what commands print

module _ (p : Program) (s : List Resolved) (job : Job) (out : List ℕ) (r : PrintsDer p s job out) where
  der_octets : IsEncoded p s (string_bytes job.ty) (given_in job.value) r.octets r.account
  der_octets = r.encoded

  der_output : out ≡ octets_or_line job.raw r.octets
  der_output = r.output_is

module _ (p : Program) (s : List Resolved) (job : Job) (o out : List ℕ) (r : PrintsBer p s job o out) where
  ber_value : IsReadAs p s (rules_if job.strict) (string_bytes job.ty) o r.printed r.skipped
  ber_value = r.read

  ber_lines : out ≡ value_lines r.printed r.skipped
  ber_lines = r.output_is

module _ (p : Program) (s : List Resolved) (job : Job) (out : List ℕ) (r : PrintsUper p s job out) where
  uper_octets : IsPacked p s (string_bytes job.ty) (given_in job.value) r.octets
  uper_octets = r.packed

  uper_output : out ≡ octets_or_line job.raw r.octets
  uper_output = r.output_is

module _ (p : Program) (s : List Resolved) (job : Job) (o out : List ℕ) (r : PrintsUnper p s job o out) where
  unper_value : IsUnpackedAs p s (string_bytes job.ty) o r.printed r.skipped
  unper_value = r.read

  unper_lines : out ≡ value_lines r.printed r.skipped
  unper_lines = r.output_is

module _ (p : Program) (s : List Resolved) (job : Job) (out : List ℕ) (r : PrintsAccount p s job out) where
  account_text : IsAccountOf p s (string_bytes job.ty) (given_in job.value) r.text
  account_text = r.account

  account_line : out ≡ line_of r.text
  account_line = r.output_is

module _ (job : Job) (inputs : Inputs) (yes : Bool) (out : List ℕ) (r : IsAnswerLine job inputs yes out) where
  older_texts : Accepted (map octets_of inputs.files.items) r.older r.older_types
  older_texts = r.older_accepted

  newer_texts : Accepted (map octets_of inputs.newer.items) r.newer r.newer_types
  newer_texts = r.newer_accepted

  later_answer : AreCompared r.older r.older_types r.newer r.newer_types (string_bytes job.ty) r.answer
  later_answer = r.compared

  later_yes : yes ≡ says_later r.answer
  later_yes = r.yes_is

  later_line : out ≡ line_of (answer_text r.answer)
  later_line = r.output_is

-- the octets are accepted: the lines alone
shown_lines : (lines : List ℕ) → EndsInRefusal lines None true lines
shown_lines lines = (refl, refl)

-- the octets are refused: lines without a refusal are no output, nor is a yes
no_yes_of_refused : (lines output : List ℕ) (u : DecodeError) → EndsInRefusal lines (Some u) true output → ⊥
no_yes_of_refused lines output u h = let e : true ≡ false = h.0 in cc

no_no_of_accepted : (lines output : List ℕ) → EndsInRefusal lines None false output → ⊥
no_no_of_accepted lines output h = let e : false ≡ true = h.0 in cc

module _ (lines out : List ℕ) (u : DecodeError) (r : IsRefusalLine lines u out) where
  refusal_begins : Begins (heading_of (faults.DecodeError u)) r.report
  refusal_begins = r.begins

  refusal_line : out ≡ line_of (lines ++ r.report)
  refusal_line = r.output_is

module _ (p : Program) (s : List Resolved) (ty o : List ℕ) (yes : Bool) (out : List ℕ)
    (r : PrintsShown p s ty o yes out) where
  shown_listing : IsShownAs p s ty o r.listing
  shown_listing = r.shown

  shown_output : EndsInRefusal (string_bytes r.listing.lines) r.listing.refusal yes out
  shown_output = r.printed

-- ---- jobs

module _ (job : Job) (inputs : Inputs) (yes : Bool) (out : List ℕ) (r : IsShownOutput job inputs yes out) where
  source_text : Accepted (map octets_of inputs.files.items) r.program r.types
  source_text = r.accepted

  shown_prints : PrintsShown r.program r.types (string_bytes job.ty) (octets_given job.octets inputs.octets) yes out
  shown_prints = r.prints

module _ (job : Job) (inputs : Inputs) (e : Fault) (r : IsShowRefused job inputs e) where
  not_shown_texts : Accepted (map octets_of inputs.files.items) r.program r.types
  not_shown_texts = r.accepted

  not_shown : IsNotShownAs r.program (string_bytes job.ty) e
  not_shown = r.refused

module _ (job : Job) (inputs : Inputs) (out : List ℕ) (r : IsCommandOutput job inputs out) where
  command_texts : Accepted (map octets_of inputs.files.items) r.program r.types
  command_texts = r.accepted

  command_prints : Prints job.verb r.program r.types job (octets_given job.octets inputs.octets) out
  command_prints = r.prints

module _ (job : Job) (inputs : Inputs) (yes : Bool) (out : List ℕ) (r : IsOutput job inputs yes out) where
  output_of_a_check : job.verb ≡ verbs.Check → IsVerdictLine job inputs yes out
  output_of_a_check = r.check

  output_of_later : job.verb ≡ verbs.Later → IsAnswerLine job inputs yes out
  output_of_later = r.later

  output_of_show : job.verb ≡ verbs.Show → IsShownOutput job inputs yes out
  output_of_show = r.show

  output_of_a_command : (job.verb ≡ verbs.Check → ⊥)
      → (job.verb ≡ verbs.Later → ⊥)
      → (job.verb ≡ verbs.Show → ⊥)
      → IsCommandOutput job inputs out
  output_of_a_command = r.command

  answer_of_a_command : (job.verb ≡ verbs.Check → ⊥)
      → (job.verb ≡ verbs.Later → ⊥)
      → (job.verb ≡ verbs.Show → ⊥)
      → yes ≡ true
  answer_of_a_command = r.no_no

module _ (job : Job) (inputs : Inputs) (e : Fault) (r : IsCommandRefused job inputs e) where
  refused_texts : Accepted (map octets_of inputs.files.items) r.program r.types
  refused_texts = r.accepted

  refused_command : Refuses job.verb r.program r.types job (octets_given job.octets inputs.octets) e
  refused_command = r.refuses

module _ (job : Job) (inputs : Inputs) (e : Fault) (r : IsNoOutput job inputs e) where
  no_verdict : job.verb ≡ verbs.Check → IsNotChecked job inputs e
  no_verdict = r.check

  no_answer : job.verb ≡ verbs.Later
      → IsNoAnswer (map octets_of inputs.files.items) (map octets_of inputs.newer.items) (string_bytes job.ty) e
  no_answer = r.later

  nothing_shown : job.verb ≡ verbs.Show → IsNotOpened (map octets_of inputs.files.items) e ⊎ IsShowRefused job inputs e
  nothing_shown = r.show

  no_output : (job.verb ≡ verbs.Check → ⊥)
      → (job.verb ≡ verbs.Later → ⊥)
      → (job.verb ≡ verbs.Show → ⊥)
      → IsNotOpened (map octets_of inputs.files.items) e ⊎ IsCommandRefused job inputs e
  no_output = r.command

module _ (older newer : List (List ℕ)) (f : CompileError) (r : AreNewerRefused older newer f) where
  older_are_accepted : AreAccepted older r.program
  older_are_accepted = r.accepted

  newer_are_refused : IsNotOpened newer (faults.Front f)
  newer_are_refused = r.refused

module _ (older newer : List (List ℕ)) (name : List ℕ) (e : Fault) (r : AreWithoutType older newer name e) where
  older_have_no_type : AreAccepted older r.program
  older_have_no_type = r.accepted

  newer_have_no_type : AreAccepted newer r.newer_program
  newer_have_no_type = r.newer_accepted

  name_lacks : LacksType r.program r.newer_program name e
  name_lacks = r.lacks

module _ (job : Job) (inputs : Inputs) (yes : Bool) (a b : SinkState) (r : IsDone job inputs yes a b) where
  done_output : IsOutput job inputs yes r.output
  done_output = r.asked

  done_sent : SentAll a b r.output
  done_sent = r.sent

module _ (job : Job) (inputs : Inputs) (a b : SinkState) (n : ℕ) (r : IsDoneInPart job inputs a b n) where
  part_output : IsOutput job inputs r.yes r.output
  part_output = r.asked

  part_sent : SentFront a b r.output n
  part_sent = r.sent
