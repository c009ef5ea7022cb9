-- The octets that a job has: those of the texts of its modules, those that it gives, and those of its account. Also the
-- value that it gives, the lines that it prints, and the fault of words that ask for no job.
use Rattle.std.specs.Prelude.{◌≡◌, ℕ, List, [], ◌∷◌, ◌++◌, Option, Some, None, IsSome, Vec, length, string_bytes}
use Rattle.std.specs.declared.alloc.Global.{Global}
use Rattle.hex.specs.Hex.{encode_upper}
use Rattle.command_line.specs.declared.fault.WordsFault.{WordsFault}
use Rattle.command_line.specs.declared.fault.WordsFault.TheVariants as words
use Rattle.command_line.specs.declared.request.Given.{Given}
use Rattle.command_line.specs.declared.request.Given.TheVariants as given
use Rattle.command_line.specs.declared.request.Job.{Job}
use Rattle.command_line.specs.declared.request.ValueWords.{ValueWords}
use Rattle.command_line.specs.declared.request.ValueWords.TheVariants as values
use Rattle.command_line.specs.declared.request.Verb.TheVariants as verbs
use Rattle.judging.specs.messages.declared.fault.Fault.{Fault}
use Rattle.judging.specs.messages.declared.fault.Fault.TheVariants as faults
use Rattle.judging.specs.named_values.Given.{Given as GivenValue, named, written}
use Rattle.check_jobs.specs.declared.inputs.Inputs.{Inputs}

-- the octets of a file; none if there is no file
abbrev pub contents : Option (Vec ℕ Global) → List ℕ
contents None = []
contents (Some v) = v.items

-- the octets that a job gives: those of its words, or those of the file that its words name; lines are not among them
abbrev pub octets_given : Given → Option (Vec ℕ Global) → List ℕ
octets_given given.Nothing file = []
octets_given given.Lines file = []
octets_given (given.Octets v) file = v.items
octets_given (given.Path name) file = contents file

-- the value that a job gives: by its name, or by the text of a notation; without either it has the empty name
abbrev pub given_in : ValueWords → GivenValue
given_in values.Nothing = named []
given_in values.Lines = named []
given_in (values.Named s) = named (string_bytes s)
given_in (values.Written s) = written (string_bytes s)

-- a line of output: a text and a line end
abbrev pub line_of : List ℕ → List ℕ
line_of text = text ++ (10 ∷ [])

-- a line of octets in hexadecimal digits of upper case, two for each octet
abbrev pub hex_line : List ℕ → List ℕ
hex_line octets = line_of (encode_upper octets)

-- the words of a job name a file of octets exactly if there is one
abbrev pub HasFile : Given → Option (Vec ℕ Global) → Type 0
HasFile (given.Path name) file = IsSome file
HasFile given.Nothing file = file ≡ None
HasFile given.Lines file = file ≡ None
HasFile (given.Octets v) file = file ≡ None

-- What the files that a job names contain: a text for each of its modules and of its newer modules, and the other files
-- exactly if the job names them. Only the job of octcheck names an account.
pub record AreInputsOf (job : Job) (inputs : Inputs) : Type 0 where
  pub files : length inputs.files.items ≡ length job.files.items
  pub newer : length inputs.newer.items ≡ length job.newer.items
  pub octets : HasFile job.octets inputs.octets
  pub account : job.verb ≡ verbs.Check → IsSome inputs.account
  pub no_account : (job.verb ≡ verbs.Check → ⊥) → inputs.account ≡ None

-- the same fault of words among those of all requests
abbrev pub fault_of_words : WordsFault → Fault
fault_of_words words.Memory = faults.Memory
fault_of_words (words.Help t) = faults.Help t
fault_of_words (words.BadWords t) = faults.BadWords t
