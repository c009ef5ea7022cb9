-- What is borrowed while it is built, and in parts.
use Rattle.std.proofs.Common.{◌≡◌, ℕ, ◌==◌, true, false, List, cond, sym, ap, subst}
use Rattle.std.specs.Prelude.{Bool, Option, Some, None}
use Rattle.views.specs.Tree.{AreBorrowed, IsBorrowed, ViewTree, ViewMembers, no_member, member, joined, component}
use Rattle.views.specs.Building.{Building, IsBorrowedSoFar, AreWaitingBorrowed, IsClosed, Header, Closes, closes_fields, closes_list, closes_alternative, Waiting}

pub joined_borrowed : (m : List ℕ) (ms ns : ViewMembers) → AreBorrowed m ms → AreBorrowed m ns → AreBorrowed m (joined ms ns)
joined_borrowed m no_member ns a b = b
joined_borrowed m (member k t ms) ns a b = (a.0, joined_borrowed m ms ns a.1 b)

closes_borrowed : (m : List ℕ) (h : Header) (ms : ViewMembers) (t : ViewTree) → Closes h ms t → AreBorrowed m ms → IsBorrowed m t
closes_borrowed m h ms t closes_fields a = a
closes_borrowed m h ms t closes_list a = a
closes_borrowed m h ms t closes_alternative a = a.0

pub closed_borrowed : (m : List ℕ) (b c : Building) (w : Waiting) (ws : List Waiting) (t : ViewTree)
    → IsBorrowedSoFar m b
    → IsClosed b w ws t c
    → IsBorrowedSoFar m c
closed_borrowed m b c w ws t a d =
    let waits = subst (λ q. AreWaitingBorrowed m q) d.is_open a.waits in
    let tree = closes_borrowed m w.header b.here t d.tree a.here in
    subst (λ q. IsBorrowedSoFar m q) (sym d.closed)
    (record { here = joined_borrowed m w.before (member w.number t no_member) waits.0 (tree, tt); waits = waits.1 })

-- the value in an option, or d
abbrev held : {A : Type 0} → A → Option A → A
held d None = d
held d (Some x) = x

pub component_borrowed : (m : List ℕ) (k : ℕ) (ms : ViewMembers) (t : ViewTree) → AreBorrowed m ms → component ms k ≡ Some t → IsBorrowed m t
component_borrowed m k no_member t b e = absurd (cc)
component_borrowed m k (member n u ms) t b e = by (n == k) (component_borrowed m k ms t b.1) e
  where
    by : (x : Bool) → (component ms k ≡ Some t → IsBorrowed m t) → cond x (Some u) (component ms k) ≡ Some t → IsBorrowed m t
    by true f e = subst (λ q. IsBorrowed m q) (ap (held u) e) b.0
    by false f e = f e
