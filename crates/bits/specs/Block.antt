-- Words in memory.
use Rattle.std.specs.Int.RustNames.{bit_or}
use Rattle.std.specs.Prelude.{ℕ, List, [], ◌^◌, Option, Some, None, refl, slice_index, slice_set}
use Rattle.std.specs.Coded.{Coded, code_by, coded×, coded_list, coded_ℕ}

-- some words, and the number of words that fit in the block
pub record Block : Type 0 where
  pub items : List ℕ
  pub room : ℕ

abbrev pub block : List ℕ → ℕ → Block
block ws n = record { items = ws; room = n }

abbrev pub block_code : Coded Block
block_code =
    code_by (List ℕ × ℕ) (coded× (coded_list coded_ℕ) coded_ℕ) (λ b. (b.items, b.room)) (λ p. block p.0 p.1)
    (λ _. refl)

-- without a block there are no words, and no room
abbrev pub block_or : Option Block → Block
block_or None = block [] 0
block_or (Some b) = b

-- the one bits of a word added to the word at a place
abbrev pub mixed : Block → ℕ → ℕ → Block
mixed b place w = block (slice_set b.items place (bit_or (slice_index b.items place) w)) b.room

-- the most words that there is room for
abbrev pub max_words : ℕ
max_words = 2 ^ 56
