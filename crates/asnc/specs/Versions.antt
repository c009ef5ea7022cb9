-- Types of one name in two programs, of which the second may be a later version of the first. Each program decodes the
-- messages of the other (X.680, clauses 7, 20, 25 and 29).
use Rattle.std.specs.Prelude.{◌≡◌, ◌⊎◌, ◌↔◌, ℕ, ◌<◌, List, Bool, IsTrue, length, string_bytes}
use Rattle.asn_base.specs.Abstract.{AbstractValue}
use Rattle.asn_base.specs.Same.{Same}
use Rattle.asn_base.specs.Types.{Resolved}
use Rattle.later_versions.specs.Projected.{projected, left_out}
use Rattle.later_versions.specs.Later.{Later}
use Rattle.version_laws.specs.LeftOut.{left_out_packed}
use Rattle.version_laws.specs.Lifted.{lifted}
use Rattle.value_text.specs.Print.{print}
use Rattle.resolve.specs.Program.{Program}
use Rattle.judging.specs.messages.declared.fault.Fault.{Fault}
use Rattle.judging.specs.messages.declared.fault.Fault.TheVariants as faults
use Rattle.judging.specs.named_values.Named.{Names, TypeNamed}

-- The name finds one type in program p, whose types are s, and one in program q, whose types are r. The answer is yes
-- exactly if the second type is a later version of the first.
pub record IsCompared (p : Program) (s : List Resolved) (q : Program) (r : List Resolved) (name : List ℕ) (b : Bool)
    : Type 0 where
  pub older : ℕ
  pub newer : ℕ
  pub older_named : Names p name older
  pub newer_named : Names q name newer
  pub newer_there : newer < length r
  pub is : IsTrue b ↔ Later s older r newer

-- Types are not compared, for the reason that the refusal gives: the name finds no type in one program at least.
-- `Memory` says nothing of the programs.
abbrev pub IsNotCompared : Program → Program → List ℕ → Fault → Type 0
IsNotCompared p q name faults.Memory = Unit {0}
IsNotCompared p q name (faults.NoType x) =
    (string_bytes x ≡ name) × (((t : ℕ) → TypeNamed p name t → ⊥) ⊎ ((t : ℕ) → TypeNamed q name t → ⊥))
IsNotCompared p q name fault = ⊥

-- The printed text is what the older type, which has this name, keeps of a value v of the newer one; as many additions
-- were skipped as it leaves out.
pub record IsKeptAnswer (p : Program) (s : List Resolved) (name printed : List ℕ) (k : ℕ) (v : AbstractValue)
    : Type 0 where
  pub type : ℕ
  pub named : TypeNamed p name type
  pub value : AbstractValue
  pub same : Same s type (projected s type v) value
  pub text : printed ≡ print s type value
  pub skipped : k ≡ left_out s type v

-- The printed text is that of value v of the older type in the newer type, which has this name. What was appended is
-- absent, and no additions were skipped.
pub record IsWidenedAnswer (q : Program) (r : List Resolved) (name printed : List ℕ) (k : ℕ) (v : AbstractValue)
    : Type 0 where
  pub type : ℕ
  pub named : TypeNamed q name type
  pub value : AbstractValue
  pub same : Same r type (lifted r type v) value
  pub text : printed ≡ print r type value
  pub none_skipped : k ≡ 0

-- The printed text is what the older type, which has this name, keeps of a value v of the newer one. As many additions
-- were skipped as the older type leaves out in PER, where those in version brackets count as one (X.691, clause 19).
pub record IsPackedKeptAnswer (p : Program) (s r : List Resolved) (newer : ℕ) (name printed : List ℕ) (k : ℕ)
    (v : AbstractValue) : Type 0 where
  pub type : ℕ
  pub named : TypeNamed p name type
  pub value : AbstractValue
  pub same : Same s type (projected s type v) value
  pub text : printed ≡ print s type value
  pub skipped : k ≡ left_out_packed s type r newer v
