-- What a `&` to a block of memory holds says the same to every thread.
use Rattle.bits.specs.Ownership.{memory_lends}
use Rattle.bits.specs.contracts.memory.Memory.{the_row, the_type}
use Rattle.std.proofs.Common.{ℕ, List, length}
use denote.Array.{Array}
use denote.Builtin.{u64}
use denote.Param.Send.{IsSync, Common, struct_sync, sendable}
use denote.RawPtr.{Ptr, block_ptr, null_ptr}
use denote.Struct.Owning.{shape, to}

words_sync : (n : ℕ) → IsSync (Array u64 n)
words_sync n = search sendable

lent : (p : Ptr) (ws : List ℕ) → Common (memory_lends p ws)
lent (block_ptr b o) ws κ = (tt, (words_sync (length ws)).shared ws b o κ)
lent null_ptr ws κ = (tt, (words_sync (length ws)).shared ws 0 0 κ)

pub sync : IsSync the_row
sync = record { shared = λ d b o κ. ((struct_sync (shape the_type) (search sendable, tt)).shared (to the_type d) b o κ, lent d.start d.words κ) }
