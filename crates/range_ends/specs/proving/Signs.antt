-- Signposts at values of long ways.
use Rattle.std.specs.Prelude.{◌≡◌, ◌⊎◌, ℕ, ◌+◌, ◌<◌, ◌≤◌, List, Option, Some, None, slice_get}
use Rattle.trees.specs.Values.{Name, Tree, reference}
use Rattle.names.specs.Sources.{Value}
use Rattle.type_table.specs.Walks.{follow}
use Rattle.resolve.specs.Program.{Program}
use Rattle.range_ends.specs.proving.Steps.{listed}
use Rattle.range_ends.specs.proving.Keys.{key_in, texts}
use Rattle.range_ends.specs.proving.Trees.{leaf_in}
use Rattle.range_ends.specs.declared.signposts.Signpost.{Signpost}
use Rattle.range_ends.specs.declared.signposts.Signposts.{Signposts}

-- the name that a notation is, without a module's name before it
abbrev pub bare_of : Tree → Option Name
bare_of (reference None x) = Some x
bare_of n = None

abbrev pub bare_by : Option Value → Option Name
bare_by None = None
bare_by (Some v) = bare_of v.notation

-- the name that the notation of value i is, without a module's name before it
abbrev pub bare_at : Program → ℕ → Option Name
bare_at p i = bare_by (slice_get p.values i)

-- the references lead from one signpost to another, and no value before that has as its notation a name alone of which
-- P is true
pub record IsAhead (p : Program) (os : List (Option ℕ)) (P : Name → Type 0) (post to : Signpost) : Type 0 where
  pub steps : ℕ
  pub chain : follow (listed os) steps post.value ≡ Some to.value
  pub rest : steps + to.rest ≡ post.rest
  pub clear : (t q : ℕ) (x : Name) →
      t < steps →
      follow (listed os) t post.value ≡ Some q →
      bare_at p q ≡ Some x →
      P x → ⊥

-- the signpost leads for this key to one that is before the first value whose notation is a name with the key, or at it
pub record Shows (p : Program) (os : List (Option ℕ)) (s : Signposts) (post : Signpost) (key : ℕ) : Type 0 where
  pub place : ℕ
  pub to : Signpost
  pub leads : leaf_in s.forks post.root key ≡ Some place
  pub there : slice_get s.posts.items place ≡ Some to
  pub ahead : IsAhead p os (λ x. key_in (texts s.names.items) x ≡ Some key) post to

-- the signpost is one of these
abbrev pub IsOneOf : Signposts → Signpost → Type 0
IsOneOf s post = (i : ℕ) × (slice_get s.posts.items i ≡ Some post)

-- each signpost leads so for each key
abbrev pub AreSigned : Program → List (Option ℕ) → Signposts → Type 0
AreSigned p os s = (post : Signpost) (key : ℕ) → IsOneOf s post → Shows p os s post key

-- the name has a key, and the signpost leads for the key to another one
pub record IsShownFor (p : Program) (os : List (Option ℕ)) (ns : List Name) (x : Name)
    (post to : Signpost) : Type 0 where
  pub key : ℕ
  pub key_is : key_in ns x ≡ Some key
  pub ahead : IsAhead p os (λ y. key_in ns y ≡ Some key) post to

-- of two signposts on a way, the one that has more references after it
abbrev pub IsNearer : (one other nearest : Signpost) → Type 0
IsNearer one other nearest =
    ((nearest ≡ other) × (one.rest < other.rest)) ⊎ ((nearest ≡ one) × (other.rest ≤ one.rest))
