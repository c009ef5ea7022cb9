-- The numbers of written types (X.680, clause 16): first come the types of the assignments, in order, and then the
-- parts of each type.
use Rattle.std.specs.Prelude.{◌≡◌, ℕ, suc, ◌+◌, List, [], ◌∷◌, ◌++◌, Some, None, length, slice_get}
use Rattle.trees.specs.Values.{Name}
use Rattle.trees.specs.Constraints.{ConstraintTree}
use Rattle.trees.specs.declared.module.TagDefault.{TagDefault}
use Rattle.trees.specs.Types.{TypeTree, a_type, FormTree, a_simple, a_reference, a_list, an_elements, a_tagged, TypeMembers, no_member, member_and}
use Rattle.names.specs.declared.scope.Assigned.TheVariants as assigned
use Rattle.names.specs.Names.{Module, Refers}
use Rattle.names.specs.Sources.{Source}
use Rattle.type_table.specs.Table.{Part, WrittenKind, simple, reference, tagged, members, elements, Type'}

-- the form of a type, without its constraints
abbrev pub type_form : TypeTree → FormTree
type_form (a_type f cs) = f

-- the constraints after a type
abbrev pub constraints_of : TypeTree → List ConstraintTree
constraints_of (a_type f cs) = cs

-- the types of the members of list i, from member n on, in assignment a
abbrev pub member_sources : ℕ → ℕ → ℕ → TypeMembers → List Source
member_sources a i n no_member = []
member_sources a i n (member_and x t o g ms) =
    record { tree = t; assignment = a; place = Some (i, n) } ∷ member_sources a i (suc n) ms

-- one type that isn't a member of a list
abbrev pub inner_source : ℕ → TypeTree → List Source
inner_source a t = record { tree = t; assignment = a; place = None } ∷ []

-- the types directly in type i, which has this form
abbrev pub form_parts : ℕ → ℕ → FormTree → List Source
form_parts a i (a_list l m us) = member_sources a i 0 us
form_parts a i (an_elements e t) = inner_source a t
form_parts a i (a_tagged g w t) = inner_source a t
form_parts a i (a_simple p) = []
form_parts a i (a_reference N x) = []

-- the types directly in type i, which is tree t
abbrev pub parts_of : ℕ → ℕ → TypeTree → List Source
parts_of a i t = form_parts a i (type_form t)

-- the parts of these types in order, where the first type has number i
abbrev pub all_parts : ℕ → List Source → List Source
all_parts i [] = []
all_parts i (s ∷ ss) = parts_of s.assignment i s.tree ++ all_parts (suc i) ss

-- the members of a list, whose types have the numbers from n on
abbrev pub numbered : ℕ → TypeMembers → List Part
numbered n no_member = []
numbered n (member_and x t o g ms) = record { name = x; ty = n; presence = o; standing = g } ∷ numbered (suc n) ms

-- the kind of a type with this form in module M, whose parts have the numbers from n on
abbrev pub IsKind : List (Name × Module) → Name → ℕ → FormTree → WrittenKind → Type 0
IsKind ms M n (a_simple p) k = k ≡ simple p
IsKind ms M n (a_reference N x) k = (j : ℕ) × Refers ms M N x (assigned.Type j) × (k ≡ reference j)
IsKind ms M n (a_list l m us) k = k ≡ members l m (numbered n us)
IsKind ms M n (an_elements e t) k = k ≡ elements e n
IsKind ms M n (a_tagged g w t) k = k ≡ tagged g w n

-- a type of this form is a reference to name x, which is not the name of a type in module M
abbrev pub RefersToNothing : List (Name × Module) → Name → FormTree → Name → Type 0
RefersToNothing ms M (a_reference N x) y = (x ≡ y) × ((j : ℕ) → Refers ms M N x (assigned.Type j) → ⊥)
RefersToNothing ms M f y = ⊥

-- Type t of the table is the written type s, and its parts have the numbers from n on. The names and tag defaults of
-- modules are in hs, and the assignments in gs.
pub record IsTop
    (ms : List (Name × Module)) (hs : List (Name × TagDefault)) (gs : List (ℕ × Name))
    (n : ℕ) (s : Source) (t : Type') : Type 0 where
  pub owner : ℕ
  pub assigns : Name
  pub within : Name
  pub assigned : slice_get gs s.assignment ≡ Some (owner, assigns)
  pub header : slice_get hs owner ≡ Some (within, t.default)
  pub kind : IsKind ms within n (type_form s.tree) t.kind
  pub constraints : t.constraints ≡ constraints_of s.tree
  pub place : t.place ≡ s.place
  pub assignment : t.assignment ≡ s.assignment

-- the types of the table are the written ones, where the first has number i and the parts have the numbers from n on
abbrev pub AreTops :
    List (Name × Module) → List (Name × TagDefault) → List (ℕ × Name) → ℕ → ℕ → List Source → List Type' → Type 0
AreTops ms hs gs i n [] [] = Unit {0}
AreTops ms hs gs i n (s ∷ ss) (t ∷ ts) =
    IsTop ms hs gs n s t × AreTops ms hs gs (suc i) (n + length (parts_of s.assignment i s.tree)) ss ts
AreTops ms hs gs i n ss ts = ⊥

-- the types of the table are exactly those in the assignments
pub record AreNumberedTypes
    (ms : List (Name × Module)) (hs : List (Name × TagDefault)) (gs : List (ℕ × Name))
    (roots : List Source) (ts : List Type') : Type 0 where
  pub sources : List Source
  pub all : sources ≡ roots ++ all_parts 0 sources
  pub tops : AreTops ms hs gs 0 (length roots) sources ts

-- type t is in assignment a, directly or in another type
pub data Occurs (roots : List Source) (a : ℕ) : TypeTree → Type 0 where
  directly : (k : ℕ) (s : Source) → slice_get roots k ≡ Some s → s.assignment ≡ a → Occurs roots a s.tree
  inside : {t : TypeTree} (i k : ℕ) (s : Source) →
      Occurs roots a t →
      slice_get (parts_of a i t) k ≡ Some s →
      Occurs roots a s.tree

-- there are more than n types in these assignments, and type n is in assignment a
abbrev pub AreMore : ℕ → ℕ → List Source → Type 0
AreMore n a roots = (ss : List Source) →
    ss ≡ roots ++ all_parts 0 ss →
    (s : Source) × (slice_get ss n ≡ Some s) × (s.assignment ≡ a)
