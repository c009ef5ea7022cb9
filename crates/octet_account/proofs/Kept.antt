-- Rows are read as their account.
use Rattle.std.proofs.Common.{◌≡◌, List, sym, ap, subst, ◌∙◌}
use Rattle.encodings.specs.Account.{Account}
use Rattle.octet_account.specs.Flat.{FlatRow, AreRows}
use Rattle.octet_account.specs.proving.Trees.{tree_of}
use Rattle.octet_account.specs.proving.Codes.{tree_back}

pub kept : (a : Account) (rs : List FlatRow) → AreRows a rs → AreRows (tree_of rs) rs
kept a rs p = subst (λ q. AreRows q rs) (sym (tree_back a) ∙ ap tree_of (sym p.are)) p

pub one : (a b : Account) (rs : List FlatRow) → AreRows a rs → AreRows b rs → a ≡ b
one a b rs p q = sym (tree_back a) ∙ ap tree_of (sym p.are ∙ q.are) ∙ tree_back b
