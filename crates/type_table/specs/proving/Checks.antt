-- The results of the checks of one type, one list and one name (X.680, clauses 17, 20, 22, 25, 27 and 29).
use Rattle.std.specs.Prelude.{◌≡◌, ◌<◌, ◌+◌, ◌^◌, ℕ, ℤ, pos, List, Option, Some, length, map, slice_get, string_bytes, take, String}
use Rattle.std.specs.Global.{Global}
use Rattle.trees.specs.Values.{Name}
use Rattle.trees.specs.Types.{FormTree}
use Rattle.trees.specs.declared.module.TagDefault.{TagDefault}
use Rattle.names.specs.declared.fault.NameFault.{NameFault}
use Rattle.names.specs.declared.fault.NameFault.TheVariants as faults
use Rattle.names.specs.declared.fault.Limit.{Limit}
use Rattle.names.specs.declared.fault.Limit.TheVariants as limits
use Rattle.names.specs.declared.scope.Assigned.TheVariants as assigned
use Rattle.names.specs.Faults.{fault_module, fault_name}
use Rattle.names.specs.Modules.{AreDifferent, OccursIn}
use Rattle.names.specs.Names.{Module, Refers}
use Rattle.names.specs.Sources.{Source}
use Rattle.names.specs.proving.Gathering.{ReportsTwice}
use Rattle.type_table.specs.declared.items.NumberFault.{NumberFault}
use Rattle.type_table.specs.declared.items.NumberFault.TheVariants as numbers
use Rattle.type_table.specs.Items.{WrittenItem, additions_from}
use Rattle.type_table.specs.Lists.{AreWithinLimit}
use Rattle.type_table.specs.ListFaults.{IsTwiceIn, HasPassed}
use Rattle.type_table.specs.Numbering.{RefersToNothing, type_form, parts_of}
use Rattle.type_table.specs.Table.{WrittenKind}

-- names as octets, without their places in memory
abbrev pub texts : List (String Global) → List Name
texts = map string_bytes

-- ---- numbering

-- `Memory`; or `UnknownName`, and this name is not the name of a type in module M
abbrev pub IsNothing : List (Name × Module) → Name → Option Name → Name → NameFault → Type 0
IsNothing ms M N x faults.Memory = Unit {0}
IsNothing ms M N x (faults.UnknownName s) =
    (fault_module s ≡ M) × (fault_name s ≡ x) × ((j : ℕ) → Refers ms M N x (assigned.Type j) → ⊥)
IsNothing ms M N x e = ⊥

-- `Memory`; or `UnknownName`, and the type is a reference to a name that is not the name of a type in module M
abbrev pub IsUnknown : List (Name × Module) → Name → FormTree → NameFault → Type 0
IsUnknown ms M f faults.Memory = Unit {0}
IsUnknown ms M f (faults.UnknownName s) = (fault_module s ≡ M) × RefersToNothing ms M f (fault_name s)
IsUnknown ms M f e = ⊥

-- `Memory`; or the limit of types is passed at name x of module M
abbrev pub IsTypesLimit : Name → Name → NameFault → Type 0
IsTypesLimit M x faults.Memory = Unit {0}
IsTypesLimit M x (faults.Limit limits.Types s) = (fault_module s ≡ M) × (fault_name s ≡ x)
IsTypesLimit M x e = ⊥

-- a reason why type i, whose parts would get the numbers from n on, can't be numbered
abbrev pub IsSourceFault :
    List (Name × Module) → List (Name × TagDefault) → List (ℕ × Name) → ℕ → ℕ → Source → NameFault → Type 0
IsSourceFault ms hs gs i n s faults.Memory = Unit {0}
IsSourceFault ms hs gs i n s (faults.UnknownName z) =
    (owner : ℕ)
    × (assigns : Name)
    × (d : TagDefault)
    × (slice_get gs s.assignment ≡ Some (owner, assigns))
    × (slice_get hs owner ≡ Some (fault_module z, d))
    × RefersToNothing ms (fault_module z) (type_form s.tree) (fault_name z)
IsSourceFault ms hs gs i n s (faults.Limit limits.Types z) =
    (owner : ℕ)
    × (d : TagDefault)
    × (slice_get gs s.assignment ≡ Some (owner, fault_name z))
    × (slice_get hs owner ≡ Some (fault_module z, d))
    × (65536 < n + length (parts_of s.assignment i s.tree))
IsSourceFault ms hs gs i n s e = ⊥

-- ---- lists

-- `Memory`; or `Twice` with module M and name x
abbrev pub ReportsName : Name → Name → NameFault → Type 0
ReportsName M x = ReportsTwice (λ m y. (m ≡ M) × (y ≡ x))

-- `Memory`; or `Limit` with this limit, module M and name a
abbrev pub ReportsLimit : Limit → Name → Name → NameFault → Type 0
ReportsLimit l M a faults.Memory = Unit {0}
ReportsLimit l M a (faults.Limit k s) = (k ≡ l) × (fault_module s ≡ M) × (fault_name s ≡ a)
ReportsLimit l M a e = ⊥

-- `Memory`; or `Twice` for number z of name x, which is already among these numbers in module M
abbrev pub IsNumberFault : {Z : Type 0} → Name → Name → Z → List Z → NameFault → Type 0
IsNumberFault M x z zs = ReportsTwice (λ m y. (m ≡ M) × (y ≡ x) × OccursIn zs z)

-- a reason why the list of a type in assignment a of module M breaks a rule
abbrev pub IsKindFault : Name → Name → WrittenKind → NameFault → Type 0
IsKindFault M a k faults.Memory = Unit {0}
IsKindFault M a k (faults.Twice s) = (fault_module s ≡ M) × IsTwiceIn k (fault_name s)
IsKindFault M a k (faults.Limit l s) = (fault_module s ≡ M) × (fault_name s ≡ a) × HasPassed l k
IsKindFault M a k e = ⊥

-- `Memory`; or the number of this addition after root items with these numbers is 2^127
abbrev pub IsGreatAt : List ℤ → List WrittenItem → NumberFault → Type 0
IsGreatAt root more numbers.Memory = Unit {0}
IsGreatAt root more (numbers.TooGreat i) = slice_get (additions_from root 0 more) i ≡ Some (pos (2 ^ 127))

-- no addition before this one gets a number past the limit
abbrev pub IsGreatFirst : List ℤ → List WrittenItem → NumberFault → Type 0
IsGreatFirst root more numbers.Memory = Unit {0}
IsGreatFirst root more (numbers.TooGreat i) = AreWithinLimit (take i (additions_from root 0 more))

-- number i is among those before it, which are distinct
abbrev pub IsAgain : List ℤ → ℕ → Type 0
IsAgain zs i = (z : ℤ) × (slice_get zs i ≡ Some z) × OccursIn (take i zs) z × AreDifferent (take i zs)
