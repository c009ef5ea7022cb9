-- What a block of memory owns says the same to every thread.
use Rattle.bits.specs.Ownership.{memory_owns, heap}
use Rattle.bits.specs.contracts.memory.Memory.{the_row, the_type}
use Rattle.std.proofs.Common.{ℕ, List, length}
use Rattle.std.proofs.Crossing.{frees}
use Rattle.std.specs.Allocator.{array_of}
use base.Fraction.{full_share}
use base.Shift.{Keyless}
use denote.Array.{Array}
use denote.Builtin.{u64}
use denote.Param.Send.{IsSend, AllSend, part_keyless, owning_send, sendable}
use denote.RawPtr.{Ptr, block_ptr, null_ptr}
use denote.Struct.Owning.{fields}

words_send : (n : ℕ) → IsSend (Array u64 n)
words_send n = search sendable

owned : (p : Ptr) (ws : List ℕ) (n : ℕ) → Keyless (memory_owns p ws n)
owned (block_ptr b o) ws n = (part_keyless (Array u64 (length ws)) (words_send (length ws)) full_share ws b o, (tt, frees.frees heap (array_of u64 n) (block_ptr b o)))
owned null_ptr ws n = (tt, (tt, frees.frees heap (array_of u64 n) null_ptr))

all_send : AllSend (fields the_type)
all_send = (search sendable, tt)

pub send : IsSend the_row
send = owning_send the_type all_send (λ d. owned d.start d.words d.room) (λ k d w. tt)
