-- Why the checker gives no verdict on a value that is given, octets and the text of an account.
use Rattle.std.specs.Prelude.{◌≡◌, ℕ, List}
use Rattle.asn_base.specs.Abstract.{AbstractValue}
use Rattle.encodings.specs.Account.{Account}
use Rattle.account_text.specs.declared.stop.Stop.{Stop}
use Rattle.account_text.specs.Stops.{IsStop}
use Rattle.resolve.specs.Program.{Program}
use Rattle.named_values.specs.front_end.Accepted.{AreAccepted}
use Rattle.named_values.specs.front_end.Faults.{IsRightCompileError}
use Rattle.named_values.specs.front_end.declared.fault.CompileError.TheVariants as texts
use Rattle.named_values.specs.messages.declared.fault.Fault.{Fault}
use Rattle.named_values.specs.messages.declared.fault.Fault.TheVariants as faults
use Rattle.named_values.specs.Meant.{IsMeant, IsNotMeant}
use Rattle.named_values.specs.Given.{Given}
use Rattle.judging.specs.Judged.{IsAccountIn}

-- the octets aren't the text of an account, and stop being one there; `Memory` says nothing of the octets
abbrev pub IsNoAccount : List ℕ → Fault → Type 0
IsNoAccount octets faults.Memory = Unit {0}
IsNoAccount octets (faults.NotAccount s) = ((a : Account) → IsAccountIn octets a → ⊥) × IsStop octets s
IsNoAccount octets fault = ⊥

-- the two texts mean a value, and the third isn't the text of an account, and stops being one there
pub record HasNoAccount (p : Program) (first : List ℕ) (second : Given) (account : List ℕ) (s : Stop) : Type 0 where
  pub type : ℕ
  pub value : AbstractValue
  pub meant : IsMeant p first second type value
  pub none : (a : Account) → IsAccountIn account a → ⊥
  pub stop : IsStop account s

-- There is no verdict in a program: the texts mean no value, or otherwise there is no account.
abbrev pub IsNotJudgedOn : Program → (first : List ℕ) → (second : Given) → (account : List ℕ) → Fault → Type 0
IsNotJudgedOn p first second account (faults.NotAccount s) = HasNoAccount p first second account s
IsNotJudgedOn p first second account fault = IsNotMeant p first second fault

-- the texts are accepted, and there is no verdict in their program
pub record IsNotJudgedIn (xs : List (List ℕ)) (first : List ℕ) (second : Given) (account : List ℕ) (fault : Fault)
    : Type 0 where
  pub program : Program
  pub accepted : AreAccepted xs program
  pub on : IsNotJudgedOn program first second account fault

-- There is no verdict. A fault of the texts is true, the first one in reading order; or otherwise there is no verdict
-- in their program. `Memory` says nothing.
abbrev pub IsNotJudged : List (List ℕ) → (first : List ℕ) → (second : Given) → (account : List ℕ) → Fault → Type 0
IsNotJudged xs first second account faults.Memory = Unit {0}
IsNotJudged xs first second account (faults.Front f) = (f ≡ texts.Memory → ⊥) × IsRightCompileError xs f
IsNotJudged xs first second account fault = IsNotJudgedIn xs first second account fault
