-- How a view is built of tokens, one by one: the condition under which the tree of a value is built in the end.
use Rattle.std.specs.Prelude.{◌≡◌, ℕ, ◌+◌, ◌^◌, ◌<◌, ◌≤◌, Bool, true, false, List, [], ◌∷◌, length}
use Rattle.asn_base.specs.Abstract.{AbstractValue}
use Rattle.asn_base.specs.Types.{Resolved}
use Rattle.encodings.specs.Header.{Octets}
use Rattle.encodings.specs.declared.leaf_kind.LeafKind.{LeafKind}
use Rattle.codec_code.specs.Routines.{routine_at}
use Rattle.octet_answers.specs.States.{Token, component, chosen, begun, ended, held, passed}
use Rattle.octet_answers.specs.Answers.{AreContents}
use Rattle.views.specs.Building.{Building, Waiting, begun as begun', opened, open_fields, open_list, open_alternative}
use Rattle.views.specs.Building.{with_leaf, with_tree, IsClosed}
use Rattle.views.specs.Seen.{HasBuilt}
use Rattle.views.specs.Tree.{Leaf, leaf_value, ViewTree, value_of, IsBorrowed}
use Rattle.ber_source.specs.declared.shape.Shape.{Shape}
use Rattle.ber_source.specs.declared.shape.Shape.TheVariants as shapes
use Rattle.ber_source.specs.declared.build.Build.{Build}
use Rattle.ber_source.specs.Shapes.{shape_in}
use Rattle.ber_source.specs.Shown.{IsShownAs, leaves_of, AreShown}

-- the octets are the contents octets of a value, within a message
pub record AreHeld (k : LeafKind) (c : Bool) (x : Octets) (at : ℕ) (v : AbstractValue) : Type 0 where
  pub levels : ℕ
  pub few : levels ≤ 400
  pub short : at + length x ≤ 16777216
  pub contents : AreContents c k v levels x

-- `Then` holds for each leaf that shows the value of these contents octets
pub record ForEachLeaf (k : LeafKind) (c : Bool) (x : Octets) (at : ℕ) (Then : Leaf → Type 0) : Type 0 where
  pub value : AbstractValue
  pub held : AreHeld k c x at value
  pub then : (l : Leaf) → leaf_value l ≡ value → IsShownAs c x at l → Then l

-- `Then` holds for the building after the innermost open node is closed
pub record Closed (b : Building) (Then : Building → Type 0) : Type 0 where
  pub building : Building
  pub wait : Waiting
  pub waits : List Waiting
  pub tree : ViewTree
  pub closed : IsClosed b wait waits tree building
  pub then : Then building

-- a message, and the tokens that are read of it
pub record Reading : Type 0 where
  pub message : Octets
  pub tokens : List Token

-- The whole value is built, and nothing else. What is shown with an offset is in the message at that offset, and each
-- string is shown as its token has it.
pub record IsBuilt (m : Reading) (w : AbstractValue) (b : Building) : Type 0 where
  pub tree : ViewTree
  pub whole : b ≡ with_tree 0 tree begun'
  pub shows : value_of tree ≡ w
  pub borrowed : IsBorrowed m.message tree
  pub shown : AreShown m.tokens (leaves_of tree)

-- the building after a value of this shape began, as component n; a value with a node of its own opens this node
abbrev pub begun_as : Shape → ℕ → Building → Building
begun_as (shapes.Row size) n b = opened n (open_fields size) b
begun_as shapes.List n b = opened n open_list b
begun_as shapes.Bare n b = b

-- the number of the value's next part after the value began; a value without a node of its own keeps its number
abbrev pub number_as : Shape → ℕ → ℕ
number_as (shapes.Row size) n = 0
number_as shapes.List n = 0
number_as shapes.Bare n = n

-- The rest of the tokens gives the tree of the value. n is the number of the next value, h says whether the last token
-- had contents octets, and b is built so far.
abbrev pub Wants : List Resolved → Reading → AbstractValue → List Token → ℕ → Bool → Building → Type 0
Wants s m w [] n h b = IsBuilt m w b
Wants s m w (component i ∷ ts) n h b = (i < 2 ^ 32) × Wants s m w ts i false b
Wants s m w (chosen i ∷ ts) n h b = Wants s m w ts 0 false (opened n (open_alternative i) b)
Wants s m w (begun t ∷ ts) n h b =
    Wants s m w ts
    (number_as (shape_in (routine_at s t.index)) n)
    false
    (begun_as (shape_in (routine_at s t.index)) n b)
Wants s m w (ended ∷ ts) n true b = Wants s m w ts 0 false b
Wants s m w (ended ∷ ts) n false b = Closed b (λ c. Wants s m w ts 0 false c)
Wants s m w (held k c x at ∷ ts) n h b = ForEachLeaf k c x at (λ l. Wants s m w ts 0 true (with_leaf n l b))
Wants s m w (passed ∷ ts) n h b = Wants s m w ts n h b

-- a builder before it gets these tokens
pub record IsBefore (s : List Resolved) (m : Reading) (w : AbstractValue) (ts : List Token) (b : Build) : Type 0 where
  pub building : Building
  pub holds : HasBuilt b.builder building
  pub wants : Wants s m w ts b.number b.held building
