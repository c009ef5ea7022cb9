-- What each command of asnc prints, in octets.
use Rattle.std.specs.Prelude.{◌≡◌, ℕ, List, ◌++◌, Bool, true, false, codes, decimal, map, string_bytes}
use Rattle.asn_base.specs.Types.{Resolved}
use Rattle.encodings.specs.Account.{Account}
use Rattle.encodings.specs.Rules.{Rules, Basic, Distinguished}
use Rattle.resolve.specs.Program.{Program}
use Rattle.asnc.specs.front_end.Accepted.{Accepted, octets_of}
use Rattle.asnc.specs.Packing.{IsPacked}
use Rattle.asnc.specs.Reading.{IsReadAs}
use Rattle.asnc.specs.type_listing.Listing.{IsTypeListing}
use Rattle.asnc.specs.Unpacking.{IsUnpackedAs}
use Rattle.asnc.specs.Differences.{AreCompared}
use Rattle.later_versions.specs.DifferenceText.{says_later}
use Rattle.later_versions.specs.declared.reason.Explained.{Explained}
use Rattle.later_versions.specs.declared.reason.Explained.TheVariants as explained
use Rattle.asnc.specs.Writing.{IsAccountOf, IsEncoded}
use Rattle.command_line.specs.declared.request.Job.{Job}
use Rattle.command_line.specs.declared.request.Verb.{Verb}
use Rattle.command_line.specs.declared.request.Verb.TheVariants as verbs
use Rattle.check_jobs.specs.Checks.{IsVerdictLine}
use Rattle.check_jobs.specs.Inputs.{given_in, hex_line, line_of, octets_given}
use Rattle.check_jobs.specs.declared.inputs.Inputs.{Inputs}
use Rattle.jobs.specs.Shown.{IsShownOutput}

-- a printed value, and the number of skipped additions, a line each
abbrev pub value_lines : List ℕ → ℕ → List ℕ
value_lines printed k = line_of (printed ++ (codes "\nskipped " ++ decimal k))

-- the text of an answer of `later`: `yes`, or `no`, a colon and the text of the difference
abbrev pub answer_text : Explained → List ℕ
answer_text explained.Later = codes "yes"
answer_text (explained.Differs d text) = codes "no: " ++ string_bytes text

-- what is printed of octets: with `--raw` the octets, otherwise a line of hexadecimal digits
abbrev pub octets_or_line : Bool → List ℕ → List ℕ
octets_or_line true octets = octets
octets_or_line false octets = hex_line octets

-- the rules by which octets are read: with `--strict` the distinguished ones
abbrev pub rules_if : Bool → Rules
rules_if true = Distinguished
rules_if false = Basic

-- `der` prints the one DER encoding of the given value under the named type.
pub record PrintsDer (p : Program) (s : List Resolved) (job : Job) (output : List ℕ) : Type 0 where
  pub octets : List ℕ
  pub account : Account
  pub encoded : IsEncoded p s (string_bytes job.ty) (given_in job.value) octets account
  pub output_is : output ≡ octets_or_line job.raw octets

-- `ber` prints the one value of the named type that the octets encode by the rules, and how many additions that the
-- type lacks are skipped.
pub record PrintsBer (p : Program) (s : List Resolved) (job : Job) (octets output : List ℕ) : Type 0 where
  pub printed : List ℕ
  pub skipped : ℕ
  pub read : IsReadAs p s (rules_if job.strict) (string_bytes job.ty) octets printed skipped
  pub output_is : output ≡ value_lines printed skipped

-- `uper` prints the one message of canonical PER of the given value under the named type.
pub record PrintsUper (p : Program) (s : List Resolved) (job : Job) (output : List ℕ) : Type 0 where
  pub octets : List ℕ
  pub packed : IsPacked p s (string_bytes job.ty) (given_in job.value) octets
  pub output_is : output ≡ octets_or_line job.raw octets

-- `unper` prints the one value of the named type that the octets are a message of in canonical PER, and how many
-- additions that the type lacks are skipped.
pub record PrintsUnper (p : Program) (s : List Resolved) (job : Job) (octets output : List ℕ) : Type 0 where
  pub printed : List ℕ
  pub skipped : ℕ
  pub read : IsUnpackedAs p s (string_bytes job.ty) octets printed skipped
  pub output_is : output ≡ value_lines printed skipped

-- `account` prints the text of the account of the one DER encoding.
pub record PrintsAccount (p : Program) (s : List Resolved) (job : Job) (output : List ℕ) : Type 0 where
  pub text : List ℕ
  pub account : IsAccountOf p s (string_bytes job.ty) (given_in job.value) text
  pub output_is : output ≡ line_of text

-- What a command of asnc prints in a program with its types. `octets` are those that the job gives. `list` prints the
-- lines of all types. `later` needs two programs, `show` can say no, and `check` is of octcheck.
abbrev pub Prints : Verb → Program → List Resolved → Job → (octets output : List ℕ) → Type 0
Prints verbs.Der p s job octets output = PrintsDer p s job output
Prints verbs.Ber p s job octets output = PrintsBer p s job octets output
Prints verbs.Uper p s job octets output = PrintsUper p s job output
Prints verbs.Unper p s job octets output = PrintsUnper p s job octets output
Prints verbs.Account p s job octets output = PrintsAccount p s job output
Prints verbs.List p s job octets output = IsTypeListing p s output
Prints verbs.Later p s job octets output = ⊥
Prints verbs.Show p s job octets output = ⊥
Prints verbs.Check p s job octets output = ⊥

-- The texts of the job's files are accepted, as this program with these types, and the output is what the command
-- prints in this program.
pub record IsCommandOutput (job : Job) (inputs : Inputs) (output : List ℕ) : Type 0 where
  pub program : Program
  pub types : List Resolved
  pub accepted : Accepted (map octets_of inputs.files.items) program types
  pub prints : Prints job.verb program types job (octets_given job.octets inputs.octets) output

-- `later` compares the type of the job's name in the older and in the newer texts (X.680, clauses 7, 20, 25 and 29). It
-- prints the line `yes`, or `no` with where and why if `yes` is false.
pub record IsAnswerLine (job : Job) (inputs : Inputs) (yes : Bool) (output : List ℕ) : Type 0 where
  pub older : Program
  pub older_types : List Resolved
  -- the texts of the job's files are accepted, as the older program
  pub older_accepted : Accepted (map octets_of inputs.files.items) older older_types
  pub newer : Program
  pub newer_types : List Resolved
  -- the texts of its newer files are accepted, as the newer program
  pub newer_accepted : Accepted (map octets_of inputs.newer.items) newer newer_types
  -- The name finds a type in each. The answer is yes exactly if the newer one is a later version of the older one, and
  -- otherwise where both differ, and why.
  pub answer : Explained
  pub compared : AreCompared older older_types newer newer_types (string_bytes job.ty) answer
  pub yes_is : yes ≡ says_later answer
  pub output_is : output ≡ line_of (answer_text answer)

-- The output is what the job asks for. `yes` is false if and only if that is a `no` of octcheck or of `later`, or the
-- refusal of octets that `show` shows.
pub record IsOutput (job : Job) (inputs : Inputs) (yes : Bool) (output : List ℕ) : Type 0 where
  pub check : job.verb ≡ verbs.Check → IsVerdictLine job inputs yes output
  pub later : job.verb ≡ verbs.Later → IsAnswerLine job inputs yes output
  pub show : job.verb ≡ verbs.Show → IsShownOutput job inputs yes output
  pub command : (job.verb ≡ verbs.Check → ⊥)
      → (job.verb ≡ verbs.Later → ⊥)
      → (job.verb ≡ verbs.Show → ⊥)
      → IsCommandOutput job inputs output
  pub no_no : (job.verb ≡ verbs.Check → ⊥)
      → (job.verb ≡ verbs.Later → ⊥)
      → (job.verb ≡ verbs.Show → ⊥)
      → yes ≡ true
