-- Object identifiers: their beginnings, and their limit.
use Rattle.std.proofs.Common.{◌≡◌, ℕ, ◌<◌, ◌≤◌, arith}
use Rattle.std.specs.Prelude.{List, [], ◌∷◌, length, slice_index_or}
use Rattle.value_notations.specs.Leaves.{IsRooted, is_rooted}
use Rattle.value_notations.specs.proving.Forms.{IsLimitFault}
use Rattle.value_notations.specs.declared.leaf.NumbersFault.{NumbersFault}
use Rattle.value_notations.specs.declared.leaf.NumbersFault.TheVariants.{Memory, Oid}

pub rooted_two : (ns : List ℕ) → 2 ≤ length ns → slice_index_or ns 0 0 ≡ 2 → IsRooted ns
rooted_two [] h e = absurd (omega arith)
rooted_two (x ∷ []) h e = absurd (omega arith)
rooted_two (x ∷ y ∷ ns) h e = is_rooted (omega arith) (λ l. absurd (omega arith))

pub rooted_less : (ns : List ℕ) → 2 ≤ length ns → slice_index_or ns 0 0 < 2 → slice_index_or ns 1 0 < 40 → IsRooted ns
rooted_less [] h e f = absurd (omega arith)
rooted_less (x ∷ []) h e f = absurd (omega arith)
rooted_less (x ∷ y ∷ ns) h e f = is_rooted (omega arith) (λ l. f)

pub limit_more : (P Q : Type 0) (f : NumbersFault) → (P → Q) → IsLimitFault P f → IsLimitFault Q f
limit_more P Q Memory g h = tt
limit_more P Q Oid g h = g h
