-- Why a job prints nothing.
use Rattle.std.specs.Prelude.{◌≡◌, ◌⊎◌, ⊤, ℕ, List, map, string_bytes}
use Rattle.asn_base.specs.Types.{Resolved}
use Rattle.resolve.specs.Program.{Program}
use Rattle.asnc.specs.front_end.Accepted.{Accepted, AreAccepted, octets_of}
use Rattle.asnc.specs.front_end.declared.fault.CompileError.{CompileError}
use Rattle.asnc.specs.messages.declared.fault.Fault.{Fault}
use Rattle.asnc.specs.messages.declared.fault.Fault.TheVariants as faults
use Rattle.asnc.specs.Kits.{IsNotOpened}
use Rattle.asnc.specs.Packing.{IsNotPacked}
use Rattle.asnc.specs.Reading.{IsNotReadAs}
use Rattle.asnc.specs.Unpacking.{IsNotUnpackedAs}
use Rattle.asnc.specs.Writing.{IsNotEncoded}
use Rattle.command_line.specs.declared.request.Job.{Job}
use Rattle.command_line.specs.declared.request.Verb.{Verb}
use Rattle.command_line.specs.declared.request.Verb.TheVariants as verbs
use Rattle.check_jobs.specs.Checks.{IsNotChecked}
use Rattle.check_jobs.specs.Inputs.{given_in, octets_given}
use Rattle.check_jobs.specs.declared.inputs.Inputs.{Inputs}
use Rattle.asnc.specs.named_values.Named.{TypeNamed}
use Rattle.jobs.specs.Outputs.{rules_if}
use Rattle.jobs.specs.Shown.{IsShowRefused}

-- Why a command of asnc prints nothing in a program with its types. `octets` are those that the job gives. `list` is
-- refused for memory alone.
abbrev pub Refuses : Verb → Program → List Resolved → Job → (octets : List ℕ) → Fault → Type 0
Refuses verbs.Der p s job octets e = IsNotEncoded p s (string_bytes job.ty) (given_in job.value) e
Refuses verbs.Ber p s job octets e = IsNotReadAs p s (rules_if job.strict) (string_bytes job.ty) octets e
Refuses verbs.Uper p s job octets e = IsNotPacked p s (string_bytes job.ty) (given_in job.value) e
Refuses verbs.Unper p s job octets e = IsNotUnpackedAs p s (string_bytes job.ty) octets e
Refuses verbs.Account p s job octets e = IsNotEncoded p s (string_bytes job.ty) (given_in job.value) e
Refuses verbs.List p s job octets e = e ≡ faults.Memory
Refuses verbs.Later p s job octets e = ⊥
Refuses verbs.Show p s job octets e = ⊥
Refuses verbs.Check p s job octets e = ⊥

-- the texts of the job's files are accepted, and the command is refused in their program
pub record IsCommandRefused (job : Job) (inputs : Inputs) (e : Fault) : Type 0 where
  pub program : Program
  pub types : List Resolved
  pub accepted : Accepted (map octets_of inputs.files.items) program types
  pub refuses : Refuses job.verb program types job (octets_given job.octets inputs.octets) e

-- the older texts are accepted, and the newer ones have this first fault in reading order
pub record AreNewerRefused (older newer : List (List ℕ)) (f : CompileError) : Type 0 where
  pub program : Program
  pub accepted : AreAccepted older program
  pub refused : IsNotOpened newer (faults.Front f)

-- The fault of the newer texts is true. `Memory` says nothing of them.
abbrev pub IsNewerFault : (newer : List (List ℕ)) → Fault → Type 0
IsNewerFault newer faults.Memory = ⊤
IsNewerFault newer (faults.Newer f) = IsNotOpened newer (faults.Front f)
IsNewerFault newer fault = ⊥

-- the name finds no type in the older program p, or one there and none in the newer program q; `Memory` says nothing
abbrev pub LacksType : (p q : Program) (name : List ℕ) → Fault → Type 0
LacksType p q name faults.Memory = ⊤
LacksType p q name (faults.NoType x) = (string_bytes x ≡ name) × ((t : ℕ) → TypeNamed p name t → ⊥)
LacksType p q name (faults.NoNewerType x) =
    (string_bytes x ≡ name) × ((t : ℕ) × TypeNamed p name t) × ((t : ℕ) → TypeNamed q name t → ⊥)
LacksType p q name fault = ⊥

-- both texts are accepted, and the name finds no type in one of their programs
pub record AreWithoutType (older newer : List (List ℕ)) (name : List ℕ) (e : Fault) : Type 0 where
  pub program : Program
  pub accepted : AreAccepted older program
  pub newer_program : Program
  pub newer_accepted : AreAccepted newer newer_program
  pub lacks : LacksType program newer_program name e

-- Why older and newer texts give no answer about the type of a name. The first fault is that of the older texts, then
-- that of the newer ones, then the name without a type in the older ones, then in the newer ones. `Memory` says nothing
-- of the texts.
abbrev pub IsNoAnswer : (older newer : List (List ℕ)) (name : List ℕ) → Fault → Type 0
IsNoAnswer older newer name faults.Memory = ⊤
IsNoAnswer older newer name (faults.Front f) = IsNotOpened older (faults.Front f)
IsNoAnswer older newer name (faults.Newer f) = AreNewerRefused older newer f
IsNoAnswer older newer name (faults.NoType x) = AreWithoutType older newer name (faults.NoType x)
IsNoAnswer older newer name (faults.NoNewerType x) = AreWithoutType older newer name (faults.NoNewerType x)
IsNoAnswer older newer name fault = ⊥

-- The job prints nothing. Its texts have this first fault, or they are accepted and its command is refused.
pub record IsNoOutput (job : Job) (inputs : Inputs) (e : Fault) : Type 0 where
  pub check : job.verb ≡ verbs.Check → IsNotChecked job inputs e
  pub later : job.verb ≡ verbs.Later
      → IsNoAnswer (map octets_of inputs.files.items) (map octets_of inputs.newer.items) (string_bytes job.ty) e
  pub show : job.verb ≡ verbs.Show → IsNotOpened (map octets_of inputs.files.items) e ⊎ IsShowRefused job inputs e
  pub command : (job.verb ≡ verbs.Check → ⊥)
      → (job.verb ≡ verbs.Later → ⊥)
      → (job.verb ≡ verbs.Show → ⊥)
      → IsNotOpened (map octets_of inputs.files.items) e ⊎ IsCommandRefused job inputs e
