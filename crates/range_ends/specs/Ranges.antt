-- The numbers that ranges allow (X.680, clauses 50.1, 51.2, 51.4 and 51.5). Ends are read in module M, in a constraint
-- on a type of kind k.
use Rattle.std.specs.Prelude.{◌≡◌, ◌⊎◌, ℕ, ℤ, ◌≤ℤ◌, ◌<ℤ◌, List, [], ◌∷◌, Option, Some, None}
use Rattle.std.specs.List.{AllByRecursion}
use Rattle.trees.specs.Values.{Name}
use Rattle.trees.specs.Constraints.{EndTree, RangeTree, only, between}
use Rattle.type_table.specs.Table.{WrittenKind}
use Rattle.resolve.specs.Program.{Program}
use Rattle.range_ends.specs.Ends.{EndIs, HasNoNumber, IsCircularEnd, notation_of}

-- z is not below the lower end. MIN sets no bound.
abbrev pub IsFrom : Program → WrittenKind → Name → Option EndTree → ℤ → Type 0
IsFrom p k M None z = Unit {0}
IsFrom p k M (Some e) z = (l : ℤ) × EndIs p k M e l × (l ≤ℤ z)

-- z is not above the upper end. MAX sets no bound.
abbrev pub IsUpTo : Program → WrittenKind → Name → Option EndTree → ℤ → Type 0
IsUpTo p k M None z = Unit {0}
IsUpTo p k M (Some e) z = (g : ℤ) × EndIs p k M e g × (z ≤ℤ g)

-- number z is in the range
abbrev pub IsWithinRange : Program → WrittenKind → Name → RangeTree → ℤ → Type 0
IsWithinRange p k M (only e) z = EndIs p k M e z
IsWithinRange p k M (between a b) z = IsFrom p k M a z × IsUpTo p k M b z

-- number z is in one of the ranges
abbrev pub IsWithinOne : Program → WrittenKind → Name → List RangeTree → ℤ → Type 0
IsWithinOne p k M [] z = ⊥
IsWithinOne p k M (r ∷ rs) z = IsWithinRange p k M r z ⊎ IsWithinOne p k M rs z

-- ---- what ranges need; P is true of the numbers that may be ends

-- the end stands for exactly one number, for which P is true
pub record IsEnd (p : Program) (k : WrittenKind) (M : Name) (P : ℤ → Type 0) (e : EndTree) : Type 0 where
  pub number : ℤ
  pub is_so : EndIs p k M e number
  pub only_one : (z : ℤ) → EndIs p k M e z → z ≡ number
  pub such : P number

-- the end, if it is not MIN or MAX, stands for exactly one number, for which P is true
abbrev pub IsEndIfAny : Program → WrittenKind → Name → (ℤ → Type 0) → Option EndTree → Type 0
IsEndIfAny p k M P None = Unit {0}
IsEndIfAny p k M P (Some e) = IsEnd p k M P e

-- the lower end is not above the upper one
abbrev pub AreInOrder : Program → WrittenKind → Name → Option EndTree → Option EndTree → Type 0
AreInOrder p k M (Some a) (Some b) = (l g : ℤ) → EndIs p k M a l → EndIs p k M b g → l ≤ℤ g
AreInOrder p k M a b = Unit {0}

-- each end of the range stands for one number, for which P is true, and the lower one is not above the upper one
abbrev pub IsRange : Program → WrittenKind → Name → (ℤ → Type 0) → RangeTree → Type 0
IsRange p k M P (only e) = IsEnd p k M P e
IsRange p k M P (between a b) = IsEndIfAny p k M P a × IsEndIfAny p k M P b × AreInOrder p k M a b

-- each of these ranges has the ends that it needs, in order
abbrev pub AreRanges : Program → WrittenKind → Name → (ℤ → Type 0) → List RangeTree → Type 0
AreRanges p k M P rs = AllByRecursion (IsRange p k M P) rs

-- ---- what is wrong with ranges

-- e is an end of the range
abbrev pub IsEndOf : RangeTree → EndTree → Type 0
IsEndOf (only a) e = a ≡ e
IsEndOf (between a b) e = (a ≡ Some e) ⊎ (b ≡ Some e)

-- an end of the range stands for no number, or for one for which P is false
pub record HasNoEnd (p : Program) (k : WrittenKind) (M : Name) (P : ℤ → Type 0) (r : RangeTree) : Type 0 where
  pub end : EndTree
  pub is_so : IsEndOf r end
  pub none : HasNoNumber p k M (notation_of end) ⊎ ((z : ℤ) × EndIs p k M end z × (P z → ⊥))

-- an end of the range leads into a circle, and value i is the first that is met a second time
pub record GoesRound (p : Program) (k : WrittenKind) (M : Name) (i : ℕ) (r : RangeTree) : Type 0 where
  pub end : EndTree
  pub is_so : IsEndOf r end
  pub round : IsCircularEnd p k M (notation_of end) i

-- both ends stand for numbers for which P is true, and the lower one is the greater one
pub record IsReversed (p : Program) (k : WrittenKind) (M : Name) (P : ℤ → Type 0) (r : RangeTree) : Type 0 where
  pub lower : EndTree
  pub upper : EndTree
  pub is : r ≡ between (Some lower) (Some upper)
  pub least : IsEnd p k M P lower
  pub greatest : IsEnd p k M P upper
  pub reversed : greatest.number <ℤ least.number
