-- Where and why the type of a name in a second program is no later version of that in the first.
use Rattle.std.specs.Prelude.{◌↔◌, ℕ, ◌<◌, List, IsTrue, length}
use Rattle.asn_base.specs.Types.{Resolved}
use Rattle.later_versions.specs.Differences.{IsComparison}
use Rattle.later_versions.specs.Later.{Later}
use Rattle.later_versions.specs.DifferenceText.{HasText, comparison_of, says_later}
use Rattle.later_versions.specs.declared.reason.Explained.{Explained}
use Rattle.resolve.specs.Program.{Program}
use Rattle.judging.specs.named_values.Named.{Names}

-- The name finds one type in program p, whose types are s, and one in program q, whose types are r. This is what their
-- comparison answers.
pub record AreCompared (p : Program) (s : List Resolved) (q : Program) (r : List Resolved) (name : List ℕ)
    (answer : Explained) : Type 0 where
  pub older : ℕ
  pub newer : ℕ
  pub older_named : Names p name older
  pub newer_named : Names q name newer
  pub newer_there : newer < length r
  -- yes exactly if the second type is a later version of the first
  pub yes : IsTrue (says_later answer) ↔ Later s older r newer
  -- otherwise the first places at which both differ, and the reason
  pub is : IsComparison s older r newer (comparison_of answer)
  -- and the text that says so
  pub text_of : HasText s older r answer
