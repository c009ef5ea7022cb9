-- Why the words of a command line give no job, and why the files of a job can't be read (own rule: programs and files
-- are outside the standards).
use Rattle.std.specs.Prelude.{◌≡◌, ◌⊎◌, ◌+◌, ◌≤◌, ℕ, suc, if◌then◌else◌, List, [], ◌∷◌, Some, String, codes, map}
use Rattle.std.specs.Prelude.{slice_get, string_bytes}
use Rattle.std.specs.Global.{Global}
use Rattle.std.specs.Str.{bytes_eq}
use Rattle.check_jobs.specs.Inputs.{fault_of_words}
use Rattle.command_line.specs.CommandLine.{IsRefused}
use Rattle.command_line.specs.declared.fault.WordsFault.{WordsFault}
use Rattle.command_line.specs.declared.request.Given.{Given}
use Rattle.command_line.specs.declared.request.Given.TheVariants as given
use Rattle.command_line.specs.declared.request.Job.{Job}
use Rattle.command_line.specs.declared.request.Verb.TheVariants as verbs
use Rattle.diagnostics.specs.messages.declared.fault.Fault.{Fault}
use Rattle.diagnostics.specs.messages.declared.fault.Fault.TheVariants as faults

-- ---- words

-- The words of a command line can't be read: an allocation failed, or a word is not text.
abbrev pub AreUnread : Fault → Type 0
AreUnread faults.Memory = Unit {0}
AreUnread (faults.BadWords t) = string_bytes t ≡ codes "found a word that is not UTF-8, expected text"
AreUnread f = ⊥

-- Words are refused as `command_line` says. The first of them is the program's name.
pub record AreRefused (program : List ℕ) (f : Fault) : Type 0 where
  pub rest : List (List ℕ)
  pub fault : WordsFault
  pub refused : IsRefused (program ∷ rest) fault
  pub same : f ≡ fault_of_words fault

-- Words ask for no job, for this fault: they can't be read, or they are refused.
abbrev pub IsNoJob : List ℕ → Fault → Type 0
IsNoJob program f = AreUnread f ⊎ AreRefused program f

-- ---- files

-- The fault is that a file can't be read whose name has property P, or that an allocation failed.
abbrev pub IsFileFault : (List ℕ → Type 0) → Fault → Type 0
IsFileFault P faults.Memory = Unit {0}
IsFileFault P (faults.File x) = P (string_bytes x)
IsFileFault P (faults.NoFile x) = P (string_bytes x)
IsFileFault P (faults.Folder x) = P (string_bytes x)
IsFileFault P f = ⊥

-- the names of these files
abbrev pub names : List (String Global) → List (List ℕ)
names = map string_bytes

-- the name is one of these
abbrev pub IsAmong : List (List ℕ) → List ℕ → Type 0
IsAmong xs x = (i : ℕ) × (slice_get xs i ≡ Some x)

-- the name is that of the file of octets
abbrev pub IsOctetsFile : Given → List ℕ → Type 0
IsOctetsFile (given.Path name) x = string_bytes name ≡ x
IsOctetsFile g x = ⊥

-- A job names a file: that of its octets, that of its account, the text of a module, or that of a newer module.
pub data NamesFile (job : Job) (x : List ℕ) : Type 0 where
  octets : IsOctetsFile job.octets x → NamesFile job x
  account : job.verb ≡ verbs.Check → string_bytes job.account ≡ x → NamesFile job x
  text : IsAmong (names job.files.items) x → NamesFile job x
  newer : IsAmong (names job.newer.items) x → NamesFile job x

-- how many of these files are standard input, whose name is a hyphen
abbrev pub count_inputs : List (List ℕ) → ℕ
count_inputs [] = 0
count_inputs (x ∷ xs) = if bytes_eq x (codes "-") then suc (count_inputs xs) else count_inputs xs

-- The files of a job can't be read, for this fault: one that the job names, or standard input, which would be read more
-- than once.
abbrev pub IsNoInput : Job → Fault → Type 0
IsNoInput job (faults.BadWords t) = 2 ≤ count_inputs (names job.files.items) + count_inputs (names job.newer.items)
IsNoInput job f = IsFileFault (NamesFile job) f
