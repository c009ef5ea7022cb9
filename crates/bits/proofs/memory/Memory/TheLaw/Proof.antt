-- A `&` to a block is made from one to its words.
use Rattle.bits.proofs.memory.Memory.TheLaw.Statement.{statement}
use Rattle.bits.specs.contracts.memory.Memory as C
use Rattle.bits.proofs.Cells.{word_laws}
use Rattle.std.proofs.Common.{ℕ, length}
use base.Fraction.{full_share}
use denote.Array.{Array}
use denote.Builtin.{u64}
use denote.Param.Laws.{Laws, array_laws}
use denote.Param.Shared.{copy_shared}
use denote.RattleType.{RattleType}
use denote.RawPtr.{lies_at}
use denote.Struct.Field.{RawPtr-field}
use denote.Struct.Laws.{RawPtr-copy}
use denote.Struct.Lending.{lent_at, lent_at_shr_laws, Lends-lies, Lends-first, of_Lends}

abbrev Row : ℕ → RattleType
Row n = Array u64 n

row_laws : (n : ℕ) → Laws (Row n)
row_laws n = array_laws u64 word_laws n

pub shares : statement
shares = of_Lends C.struct C.the_codes C.the_heap C.the_lent
    (λ d p. lent_at_shr_laws (Row (length d.words)) (row_laws (length d.words)).shr_laws d.start d.words)
    (copy_shared RawPtr-field RawPtr-copy, tt)
    (λ M 𝓤 𝓛 d p. Lends-first 𝓛 (lies_at (Row (length d.words)) full_share d.start d.words) _ (lent_at (Row (length d.words)) d.start d.words) _
    (Lends-lies 𝓛 (Row (length d.words)) _ d.start d.words ((row_laws (length d.words)).shares 𝓛 d.words)))
