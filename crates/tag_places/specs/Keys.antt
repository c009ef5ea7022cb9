-- Keys of types: numbers that are in the canonical order of their outermost tags (X.680, clause 8.6).
use Rattle.std.specs.Prelude.{ℕ, ◌+◌, ◌*◌, nat_lt, List, map, Option, Some, None}
use Rattle.std.specs.List.{count_by}
use Rattle.std.specs.List.Sorted.{IsNonDecreasing, IsPermutation}
use Rattle.asn_base.specs.declared.tag.Tag.{Tag}
use Rattle.asn_base.specs.Order.{tag_at}
use Rattle.asn_base.specs.Tags.{class_rank}
use Rattle.asn_base.specs.Types.{TypeNumber, Resolved}

abbrev pub tag_key : Tag → ℕ
tag_key g = class_rank g.class * 4294967296 + g.number

-- a number above the keys of all tags
abbrev pub untagged : ℕ
untagged = 1099511627776

-- the key of a tag, n if there is no tag
abbrev pub key_of : ℕ → Option Tag → ℕ
key_of n None = n
key_of n (Some g) = tag_key g

-- the key of the outermost tag of type t of schema s, n if it has none
abbrev pub key_at : ℕ → List Resolved → TypeNumber → ℕ
key_at n s t = key_of n (tag_at s t)

-- how many of the keys are below k
abbrev pub below : List ℕ → ℕ → ℕ
below ks k = count_by (λ x. nat_lt x k) ks

-- these are the keys of the types with numbers us, in ascending order
pub record AreSortedKeys (s : List Resolved) (us : List TypeNumber) (ks : List ℕ) : Type 0 where
  pub ascending : IsNonDecreasing ks
  pub same : IsPermutation (map (key_at untagged s) us) ks
