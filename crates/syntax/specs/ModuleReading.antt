-- Reading a module from left to right.
use Rattle.std.specs.Prelude.{ℕ, Bool, Ok}
use Rattle.grammar.specs.Reading.{Reader, ◌>>=◌}
use Rattle.trees.specs.Modules.{ModuleTree}
use Rattle.module_head.specs.HeadReading.{head_at}
use Rattle.syntax.specs.Syntax.{module_tree}
use Rattle.syntax.specs.Reading.{assignments_at}

-- fits: the test that numbers without a minus must pass
module _ (fits : ℕ → Bool) where
  unfoldable pub module_at : ℕ → Reader ModuleTree
  module_at n ts = head_at fits ts >>= λ h. assignments_at fits n h.1 >>= λ xs. Ok (module_tree h.0 xs.0, xs.1)
