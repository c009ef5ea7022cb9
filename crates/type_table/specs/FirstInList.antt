-- Which of several faults in the list of a type is reported, and where in the text (X.680, clauses 19.5, 19.6, 20.3 to
-- 20.6, 22.4, 25.7, 27.3 and 29.3): the first one in the order of the list. Of one name its own fault comes first, then
-- a limit, then its number. The limits on the length of a list come before its names, and the names of all items before
-- their numbers.
use Rattle.std.specs.Prelude.{◌≡◌, ◌⊎◌, ◌<◌, ◌≤◌, ◌+◌, ◌++◌, ◌^◌, ℕ, ℤ, pos, List, [], Option, Some, None, String, Vec, map, length, slice_get, take}
use Rattle.std.specs.Global.{Global}
use Rattle.trees.specs.declared.location.At.{At}
use Rattle.trees.specs.declared.location.SourceLocation.{SourceLocation}
use Rattle.trees.specs.declared.types.EnumeratedItem.{EnumeratedItem}
use Rattle.trees.specs.declared.types.EnumeratedSyntax.{EnumeratedSyntax}
use Rattle.trees.specs.declared.types.NamedBit.{NamedBit}
use Rattle.trees.specs.declared.types.NamedNumber.{NamedNumber}
use Rattle.trees.specs.declared.types.Simple.{Simple}
use Rattle.trees.specs.declared.types.Simple.TheVariants as simples
use Rattle.trees.specs.Values.{Name, name_at}
use Rattle.trees.specs.Types.{bit_of, numbered_name}
use Rattle.names.specs.declared.fault.Limit.{Limit}
use Rattle.names.specs.declared.fault.Limit.TheVariants as limits
use Rattle.names.specs.declared.fault.NameFault.{NameFault}
use Rattle.names.specs.declared.fault.NameFault.TheVariants as faults
use Rattle.names.specs.Faults.{fault_module, fault_name}
pub use Rattle.names.specs.Faults.{IsSameLocation, ReportsAlike}
use Rattle.names.specs.Modules.{AreDifferent, OccursIn}
use Rattle.type_table.specs.declared.table.ListMember.{ListMember}
use Rattle.type_table.specs.declared.table.Shape.{Shape}
use Rattle.type_table.specs.declared.table.Shape.TheVariants as shapes
use Rattle.type_table.specs.Items.{WrittenItem, addition_numbers, numbers_of}
use Rattle.type_table.specs.Lists.{AreWithinLimit, addition_count, root_count}
use Rattle.type_table.specs.Seen.{more_of, part_of, root_items}
use Rattle.type_table.specs.Table.{Part}

-- a name with its offset in the text
abbrev pub Placed : Type 0
Placed = At (String Global)

-- ---- what a fault says

-- `Limit` has this offset
abbrev pub IsLimitAt : ℕ → NameFault → Type 0
IsLimitAt n faults.Memory = Unit {0}
IsLimitAt n (faults.Limit l s) = s.at ≡ n
IsLimitAt n e = ⊥

-- Element i of xs is among those before it, which are distinct. The fault has name i and its offset.
pub record IsSecond {X : Type 0} (names : List Placed) (xs : List X) (i : ℕ) (s : SourceLocation) : Type 0 where
  pub name : Placed
  pub named : slice_get names i ≡ Some name
  pub reported : fault_name s ≡ name_at name
  pub at : s.at ≡ name.at
  pub element : X
  pub there : slice_get xs i ≡ Some element
  pub again : OccursIn (take i xs) element
  pub before : AreDifferent (take i xs)

-- `Twice` for the first element of xs that is also before its place, at index i, for which P holds; M is the module
abbrev pub ReportsSecond : {X : Type 0} → Name → List Placed → List X → (ℕ → Type 0) → NameFault → Type 0
ReportsSecond M names xs P faults.Memory = Unit {0}
ReportsSecond M names xs P (faults.Twice s) = (fault_module s ≡ M) × (i : ℕ) × IsSecond names xs i s × P i
ReportsSecond M names xs P e = ⊥

-- `Limit` with limit l, module M, the name of assignment a, and the offset of name i, for which P holds
abbrev pub ReportsPassed : Limit → Name → Name → List Placed → (ℕ → Type 0) → NameFault → Type 0
ReportsPassed l M a names P faults.Memory = Unit {0}
ReportsPassed l M a names P (faults.Limit k s) =
    (k ≡ l)
    × (fault_module s ≡ M)
    × (fault_name s ≡ a)
    × (i : ℕ)
    × (name : Placed)
    × (slice_get names i ≡ Some name)
    × (s.at ≡ name.at)
    × P i
ReportsPassed l M a names P e = ⊥

-- ---- named numbers and named bits

-- the names of named numbers, with their offsets
abbrev pub number_names : List NamedNumber → List Placed
number_names ns = map (λ (n : NamedNumber). n.name) ns

-- the names and numbers of named numbers, without offsets
abbrev pub numbers_named : List NamedNumber → List Name
numbers_named ns = map (λ (n : Name × ℤ). n.0) (map numbered_name ns)

-- the numbers of named numbers
abbrev pub numbers_given : List NamedNumber → List ℤ
numbers_given ns = map (λ (n : Name × ℤ). n.1) (map numbered_name ns)

-- the first named number whose name, or whose number, is also before it
abbrev pub IsFirstNumber : Name → List NamedNumber → NameFault → Type 0
IsFirstNumber M ns e =
    ReportsSecond M (number_names ns) (numbers_named ns) (λ i. AreDifferent (take i (numbers_given ns))) e
    ⊎ ReportsSecond M (number_names ns) (numbers_given ns) (λ i. AreDifferent (take (i + 1) (numbers_named ns))) e

-- the names of named bits, with their offsets
abbrev pub bit_names : List NamedBit → List Placed
bit_names bs = map (λ (b : NamedBit). b.name) bs

-- the names and places of named bits, without offsets
abbrev pub bits_named : List NamedBit → List Name
bits_named bs = map (λ (b : Name × ℕ). b.0) (map bit_of bs)

-- the places of named bits
abbrev pub bit_places : List NamedBit → List ℕ
bit_places bs = map (λ (b : Name × ℕ). b.1) (map bit_of bs)

-- the first n places are at most 65,535
abbrev pub AreNear : ℕ → List NamedBit → Type 0
AreNear n bs = (k : ℕ) (b : Name × ℕ) → k < n → slice_get (map bit_of bs) k ≡ Some b → b.1 ≤ 65535

-- bit i has a place that is greater than 65,535, and it is the first fault of named bits
pub record IsFarBit (bs : List NamedBit) (i : ℕ) : Type 0 where
  pub place : ℕ
  pub there : slice_get (bit_places bs) i ≡ Some place
  pub far : 65535 < place
  pub names : AreDifferent (take (i + 1) (bits_named bs))
  pub places : AreDifferent (take i (bit_places bs))
  pub near : AreNear i bs

-- The first named bit whose name is also before it, whose place is too great, or whose place is also before it. M is
-- the module, and a the name of the assignment.
abbrev pub IsFirstBit : Name → Name → List NamedBit → NameFault → Type 0
IsFirstBit M a bs e =
    ReportsSecond M (bit_names bs) (bits_named bs) (λ i. AreDifferent (take i (bit_places bs)) × AreNear i bs) e
    ⊎ (ReportsPassed limits.NamedBit M a (bit_names bs) (IsFarBit bs) e
    ⊎ ReportsSecond M (bit_names bs) (bit_places bs)
    (λ i. AreDifferent (take (i + 1) (bits_named bs)) × AreNear (i + 1) bs) e)

-- ---- enumerations

-- the items after the extension marker, or none if there is no marker
abbrev pub items_or_none : Option (Vec EnumeratedItem Global) → List EnumeratedItem
items_or_none None = []
items_or_none (Some v) = v.items

-- the items of an enumeration after the extension marker
abbrev pub items_after : EnumeratedSyntax → List EnumeratedItem
items_after e = items_or_none e.additions

-- the names of items, with their offsets
abbrev pub item_places : List EnumeratedItem → List Placed
item_places is = map (λ (i : EnumeratedItem). i.name) is

-- the names of all items, those of the root first
abbrev pub all_names : EnumeratedSyntax → List Name
all_names e = map (λ (i : WrittenItem). i.0) (root_items e ++ more_of e)

-- the names of all items, with their offsets
abbrev pub all_places : EnumeratedSyntax → List Placed
all_places e = item_places e.root.items ++ item_places (items_after e)

-- the enumeration has at most 1,024 items in its root, and at most 64 additions
abbrev pub HasFewItems : EnumeratedSyntax → Type 0
HasFewItems e = (length (root_items e) ≤ 1024) × (length (more_of e) ≤ 64)

-- addition i is the first that gets the number 2^127
pub record IsGreatItem (e : EnumeratedSyntax) (i : ℕ) : Type 0 where
  pub few : HasFewItems e
  pub names : AreDifferent (all_names e)
  pub great : slice_get (addition_numbers (root_items e) (more_of e)) i ≡ Some (pos (2 ^ 127))
  pub before : AreWithinLimit (take i (addition_numbers (root_items e) (more_of e)))

-- item 1,024 of the root, or addition 64 (both counted from 0), which is past the limit
abbrev pub IsPassedItem : Name → Name → EnumeratedSyntax → NameFault → Type 0
IsPassedItem M a e f =
    ReportsPassed limits.Items M a (item_places e.root.items) (λ i. i ≡ 1024) f
    ⊎ ReportsPassed limits.Items M a (item_places (items_after e)) (λ i. (i ≡ 64) × (length (root_items e) ≤ 1024)) f

-- an addition that gets too great a number, or else the first item whose number is also before it
abbrev pub IsItemNumber : Name → Name → EnumeratedSyntax → NameFault → Type 0
IsItemNumber M a e f =
    ReportsPassed limits.Integer M a (item_places (items_after e)) (IsGreatItem e) f
    ⊎ ReportsSecond M (all_places e) (numbers_of (root_items e) (more_of e))
    (λ i. HasFewItems e × AreDifferent (all_names e) × AreWithinLimit (numbers_of (root_items e) (more_of e))) f

-- The first fault of an enumeration: an item past the limit; then the first name that is also before it; then a number.
abbrev pub IsFirstItem : Name → Name → EnumeratedSyntax → NameFault → Type 0
IsFirstItem M a e f =
    IsPassedItem M a e f
    ⊎ (ReportsSecond M (all_places e) (all_names e) (λ i. HasFewItems e) f ⊎ IsItemNumber M a e f)

-- ---- members

-- the names of members, with their offsets
abbrev pub member_places : List ListMember → List Placed
member_places cs = map (λ (c : ListMember). c.name) cs

-- the names of members
abbrev pub members_named : List ListMember → List Name
members_named cs = map (λ (c : Part). c.name) (map part_of cs)

-- at most 256 members are in the root, and at most 64 are additions
abbrev pub HasFewMembers : List ListMember → Type 0
HasFewMembers cs = (root_count (map part_of cs) ≤ 256) × (addition_count (map part_of cs) ≤ 64)

-- member i is the first that is past a limit
abbrev pub IsPastMember : List ListMember → ℕ → Type 0
IsPastMember cs i = HasFewMembers (take i cs) × (HasFewMembers (take (i + 1) cs) → ⊥)

-- The first fault of a list of members: the first member past a limit; or else the first name that is also before it.
abbrev pub IsFirstMember : Name → Name → List ListMember → NameFault → Type 0
IsFirstMember M a cs e =
    ReportsPassed limits.Members M a (member_places cs) (IsPastMember cs) e
    ⊎ ReportsSecond M (member_places cs) (members_named cs) (λ i. HasFewMembers cs) e

-- ---- types

-- the first fault in the list of a type that holds no other type
abbrev pub IsFirstPlain : Name → Name → Simple → NameFault → Type 0
IsFirstPlain M a (simples.Integer ns) e = IsFirstNumber M ns.items e
IsFirstPlain M a (simples.BitString bs) e = IsFirstBit M a bs.items e
IsFirstPlain M a (simples.Enumerated is) e = IsFirstItem M a is.value e
IsFirstPlain M a s e = ⊥

-- the first fault in the list of a type of this shape, in the assignment of name a in module M
abbrev pub IsFirstInList : Name → Name → Shape → NameFault → Type 0
IsFirstInList M a (shapes.Simple s) e = IsFirstPlain M a s e
IsFirstInList M a (shapes.Members k m cs) e = IsFirstMember M a cs.items e
IsFirstInList M a s e = ⊥
