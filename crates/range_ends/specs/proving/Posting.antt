-- One signpost more.
use Rattle.std.specs.Prelude.{◌≡◌, ℕ, ◌+◌, List, Option, Some, None}
use Rattle.trees.specs.Values.{Name}
use Rattle.resolve.specs.Program.{Program}
use Rattle.range_ends.specs.proving.Keys.{key_in}
use Rattle.range_ends.specs.proving.Trees.{IsChanged, leaf_in}
use Rattle.range_ends.specs.proving.Signs.{bare_at}
use Rattle.range_ends.specs.declared.forks.Forks.{Forks}
use Rattle.range_ends.specs.declared.signposts.Signpost.{Signpost}

-- if the notation of value i is a name alone, this is its number
abbrev pub IsLabel : Program → List Name → ℕ → Option ℕ → Type 0
IsLabel p ns i o = (x : Name) → bare_at p i ≡ Some x → key_in ns x ≡ o

-- a signpost at the last value of a way leads to itself
pub record IsLast (f : Forks) (place value : ℕ) (post : Signpost) : Type 0 where
  pub value_is : post.value ≡ value
  pub rest : post.rest ≡ 0
  pub leads : (n : ℕ) → leaf_in f post.root n ≡ Some place

-- the tree of a new signpost leads to itself for the number of its value's name, and for others as the next one does
abbrev pub IsRerouted : Forks → Forks → (place : ℕ) → Option ℕ → (before after : ℕ) → Type 0
IsRerouted f g place None before after = after ≡ before
IsRerouted f g place (Some key) before after = IsChanged f g before after key place

pub record IsNext (f g : Forks) (place value : ℕ) (label : Option ℕ) (after post : Signpost) : Type 0 where
  pub value_is : post.value ≡ value
  pub rest : post.rest ≡ after.rest + 1
  pub leads : IsRerouted f g place label after.root post.root

-- a new signpost, before the one at the value that its value refers to, if there is one
abbrev pub IsMade : Forks → Forks → (place value : ℕ) → Option ℕ → Option Signpost → Signpost → Type 0
IsMade f g place value label None post = IsLast g place value post
IsMade f g place value label (Some after) post = IsNext f g place value label after post
