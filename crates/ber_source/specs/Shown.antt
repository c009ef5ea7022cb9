-- How a view shows the contents octets that were read: as a slice of the message, or as a copy.
use Rattle.std.specs.Prelude.{◌≡◌, ℕ, suc, Bool, true, false, List, [], ◌∷◌, ◌++◌, Some, None}
use Rattle.encodings.specs.Header.{Octets}
use Rattle.octet_answers.specs.States.{Token, component, chosen, begun, ended, held, passed}
use Rattle.views.specs.Tree.{Leaf, bits, octets, text, ViewTree, leaf, fields, list, alternative, ViewMembers, no_member, member}

-- A string that is primitive is shown with the offset of its contents octets in the message, for a BIT STRING from the
-- second one on. A string that was joined from segments is shown without an offset.
abbrev pub IsShownAs : Bool → Octets → ℕ → Leaf → Type 0
IsShownAs false x at (octets o p) = (o ≡ x) × (p ≡ Some at)
IsShownAs false x at (text o p) = (o ≡ x) × (p ≡ Some at)
IsShownAs false x at (bits n o p) = (x ≡ n ∷ o) × (p ≡ Some (suc at))
IsShownAs true x at (octets o p) = p ≡ None
IsShownAs true x at (text o p) = p ≡ None
IsShownAs true x at (bits n o p) = p ≡ None
IsShownAs c x at l = Unit {0}

abbrev mutual
  -- the values in a tree that hold no others, in the order of the message
  pub leaves_of : ViewTree → List Leaf
  leaves_of (leaf l) = l ∷ []
  leaves_of (fields n ms) = leaves_in ms
  leaves_of (list ms) = leaves_in ms
  leaves_of (alternative i t) = leaves_of t

  pub leaves_in : ViewMembers → List Leaf
  leaves_in no_member = []
  leaves_in (member k t ms) = leaves_of t ++ leaves_in ms

-- For each token with contents octets, in order, there is a leaf that shows these octets, and there are no other
-- leaves.
abbrev pub AreShown : List Token → List Leaf → Type 0
AreShown [] [] = Unit {0}
AreShown [] (l ∷ ls) = ⊥
AreShown (held k c x at ∷ ts) [] = ⊥
AreShown (held k c x at ∷ ts) (l ∷ ls) = IsShownAs c x at l × AreShown ts ls
AreShown (component i ∷ ts) ls = AreShown ts ls
AreShown (chosen i ∷ ts) ls = AreShown ts ls
AreShown (begun t ∷ ts) ls = AreShown ts ls
AreShown (ended ∷ ts) ls = AreShown ts ls
AreShown (passed ∷ ts) ls = AreShown ts ls
