-- The memory that a block owns, and that it gives out as a slice.
use Rattle.std.specs.Prelude.{ℕ, List, length}
use Rattle.std.specs.Allocator.{block_with_items}
use Rattle.std.specs.contracts.impls.GlobalAllocator.TheImpl.{ghosts}
use Rattle.std.specs.declared.alloc.Global.{Global}
use base.Fml.{Fml, Lft}
use denote.Array.{Array}
use denote.Builtin.{u64}
use denote.RawPtr.{Ptr}
use denote.Struct.Lending.{lent_at}

-- the heap
abbrev pub heap : Global
heap = record { memory = record { seal = tt } }

-- these words are at p, room for more is after them, and the owner has the right to free the block
abbrev pub memory_owns : Ptr → List ℕ → ℕ → Fml
memory_owns p ws n = block_with_items (ghosts.dealloc_token heap) u64 p (length ws) n ws

-- what a `&` of the block gives: the words
abbrev pub memory_lends : Ptr → List ℕ → Lft → Fml
memory_lends p ws κ = lent_at (Array u64 (length ws)) p ws κ
