-- The order in which faults are reported, layer by layer (own rule).
use Rattle.std.specs.Prelude.{ℕ}
use Rattle.front_end.specs.declared.fault.CompileError.{CompileError}
use Rattle.front_end.specs.declared.fault.CompileError.TheVariants as faults

-- The place of a fault's layer in that order: texts, names, tags, constraints, additions after markers, DEFAULTs and
-- value assignments. `Memory` is in no layer.
abbrev pub layer_of_fault : CompileError → ℕ
layer_of_fault faults.Memory = 0
layer_of_fault (faults.Text k f) = 1
layer_of_fault (faults.Tree k f) = 1
layer_of_fault (faults.Name f) = 2
layer_of_fault (faults.Tag f) = 3
layer_of_fault (faults.Bound f) = 4
layer_of_fault (faults.Additions f) = 5
layer_of_fault (faults.Default t) = 6
layer_of_fault (faults.Assigned t) = 7
