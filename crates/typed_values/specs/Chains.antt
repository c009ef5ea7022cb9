-- Chains of names, which a table has found: from the notation of a value assignment on, each notation is a name of the
-- next value assignment. What ends a chain under a type is the first notation that is a name of the type itself, or
-- else the chain's last notation (X.680, clauses 17.11, 19.10 and 20.8).
use Rattle.std.specs.Prelude.{◌≡◌, ◌⊎◌, ◌≤◌, ◌<◌, ℕ, zero, suc, ◌/◌, ◌%◌, ◌==◌, if◌then◌else◌, List, [], ◌∷◌, Option, Some, None, get_or, slice_get, length}
use Rattle.trees.specs.Values.{Name, Tree, reference}
use Rattle.names.specs.declared.scope.Assigned.TheVariants as assigned
use Rattle.names.specs.Modules.{OccursIn}
use Rattle.names.specs.Names.{Refers, under}
use Rattle.names.specs.Scopes.{seen}
use Rattle.type_table.specs.Table.{WrittenKind}
use Rattle.resolve.specs.Program.{Program}
use Rattle.range_ends.specs.Ends.{IsValueAt}
use Rattle.value_notations.specs.References.{IsLast, IsOwn}
use Rattle.typed_values.specs.declared.chains.NameChain.{NameChain}
use Rattle.typed_values.specs.declared.chains.NameChains.{NameChains}
use Rattle.typed_values.specs.declared.stops.Branch.{Branch}
use Rattle.typed_values.specs.declared.stops.Stops.{Stops}

-- no value is in both lists
abbrev pub AreApart : (os rs : List ℕ) → Type 0
AreApart os rs = (x : ℕ) → OccursIn os x → OccursIn rs x → ⊥

-- t is the turn of value i; a value that the list has no turn of has the last turn of all
abbrev pub HasTurn : (turns : List ℕ) → (i t : ℕ) → Type 0
HasTurn turns i t = t ≡ get_or turns i 4294967295

-- none of these values has a later turn than `latest`
abbrev pub AreBy : (turns : List ℕ) → (latest : ℕ) → List ℕ → Type 0
AreBy turns latest rs = (r : ℕ) → OccursIn rs r → (t : ℕ) × HasTurn turns r t × (t ≤ latest)

-- value assignment r has a turn, `earliest` or a later one
pub record HasTurnSince (turns : List ℕ) (earliest r : ℕ) : Type 0 where
  pub turn : ℕ
  pub has : HasTurn turns r turn
  pub given : turn < 4294967295
  pub since : earliest ≤ turn

-- the same of each of these value assignments but `end`
abbrev pub AreSince : (turns : List ℕ) → (earliest end : ℕ) → List ℕ → Type 0
AreSince turns earliest end rs = (r : ℕ) → OccursIn rs r → (r ≡ end → ⊥) → HasTurnSince turns earliest r

-- The notation of each of these value assignments, but for the last one, is a name of the next one. None of them is
-- among those after it.
pub data IsWay (p : Program) : List ℕ → Type 0 where
  ends : {i : ℕ} {N : Name} {n : Tree} →
      IsValueAt p i N n →
      IsWay p (i ∷ [])
  goes : {i j : ℕ} {is : List ℕ} {N : Name} {q : Option Name} {x : Name} →
      IsValueAt p i N (reference q x) →
      Refers p.modules N q x (assigned.Value j) →
      (OccursIn (j ∷ is) i → ⊥) →
      IsWay p (j ∷ is) →
      IsWay p (i ∷ j ∷ is)

-- value assignment y is among these, and there are d of them from it on
pub data IsLeft : List ℕ → (d y : ℕ) → Type 0 where
  here : {is : List ℕ} {d y : ℕ} →
      d ≡ suc (length is) →
      IsLeft (y ∷ is) d y
  after : {is : List ℕ} {i d y : ℕ} →
      IsLeft is d y →
      IsLeft (i ∷ is) d y

-- the notation of value assignment y is name x, with no module's name before it
pub record IsBare (p : Program) (y : ℕ) (x : Name) : Type 0 where
  pub within : Name
  pub there : IsValueAt p y within (reference None x)

-- `ps` are the values that are being read after references led to value `end`, and `os` those that were before. Besides
-- `end` they are some of `named`.
pub record AreOpenedTo (end : ℕ) (os named ps : List ℕ) : Type 0 where
  pub before : List ℕ
  pub opened : ps ≡ end ∷ before
  pub each : (y : ℕ) → OccursIn before y → OccursIn os y ⊎ (OccursIn named y × (y ≡ end → ⊥))

-- The names from the notation of value assignment c.number on lead under a type of kind k to that of value assignment
-- `end`, which is no reference to a value. They do so unless one of the values `named` is being read. These are all on
-- the way, and none of them has a later turn than the chain says.
pub record LeadsUnder (p : Program) (turns : List ℕ) (k : WrittenKind) (c : NameChain) (end : ℕ) : Type 0 where
  pub within : Name
  pub notation : Tree
  pub there : IsValueAt p c.number within notation
  pub last_within : Name
  pub last : Tree
  pub end_there : IsValueAt p end last_within last
  pub own : IsOwn k last
  pub named : List ℕ
  pub itself : OccursIn named c.number
  pub end_named : OccursIn named end
  pub by : AreBy turns c.latest named
  pub since : AreSince turns c.earliest c.end named
  pub leads : (os : List ℕ) → AreApart os named →
      (ps : List ℕ) × IsLast p k (c.number ∷ os) within notation ps last_within last × AreOpenedTo end os named ps

-- ---- trees of names

-- what a branch has for a number: for half of it
abbrev pub side : Branch → ℕ → ℕ
side b x = if (x % 2) == 0 then b.even else b.odd

-- a tree of this height has y for number x
abbrev pub Has : List Branch → (height tree x y : ℕ) → Type 0
Has bs zero t x y = y ≡ t
Has bs (suc h) t x y = (b : Branch) × (slice_get bs t ≡ Some b) × Has bs h (side b x) (x / 2) y

-- the number of a name
abbrev pub number_of : Stops → Name → Option ℕ
number_of s x = under x (seen (λ n. n) s.numbers.entries)

-- ---- chains

-- a tree says of name x a chain that begins with at least d value assignments left
pub record IsFoundFor (t : NameChains) (tree d : ℕ) (x : Name) : Type 0 where
  pub number : ℕ
  pub place : ℕ
  pub chain : NameChain
  pub numbered : number_of t.stops x ≡ Some number
  pub has : Has t.stops.branches.items t.stops.height tree number (suc place)
  pub there : slice_get t.chains.items place ≡ Some chain
  pub near : d ≤ chain.count

-- chain c leads over these value assignments, and its tree finds for each name the nearest one whose notation it is
pub record IsOver (p : Program) (turns : List ℕ) (t : NameChains) (is : List ℕ) (c : NameChain) : Type 0 where
  pub long : length is ≡ c.count
  pub by : AreBy turns c.latest is
  pub since : AreSince turns c.earliest c.end is
  pub whole : (x : ℕ) → (y : ℕ) × Has t.stops.branches.items t.stops.height c.names x y
  pub finds : (d y : ℕ) (x : Name) → IsLeft is d y → IsBare p y x → IsFoundFor t c.names d x
  pub found : (x place : ℕ) →
      Has t.stops.branches.items t.stops.height c.names x (suc place) →
      (e : NameChain) × (slice_get t.chains.items place ≡ Some e) × IsLeft is e.count e.number

-- the names from the notation of value assignment c.number on lead over value assignments to the last one, c.end
pub record IsNameChain (p : Program) (turns : List ℕ) (t : NameChains) (c : NameChain) : Type 0 where
  pub way : List ℕ
  pub goes : IsWay p (c.number ∷ way)
  pub last : IsLeft (c.number ∷ way) 1 c.end
  pub over : IsOver p turns t (c.number ∷ way) c

-- what is said of these chains is true, and tree 0 has no names
pub record AreLed (p : Program) (turns : List ℕ) (t : NameChains) : Type 0 where
  pub empty : (x : ℕ) → Has t.stops.branches.items t.stops.height 0 x 0
  pub chains : (c : NameChain) → OccursIn t.chains.items c → IsNameChain p turns t c
