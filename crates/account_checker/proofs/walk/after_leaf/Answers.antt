use Rattle.encodings.specs.Account.{header}
use Rattle.octet_account.specs.Seen.{flat}
use Rattle.octet_account.specs.declared.row.RowLayout.TheVariants as listed
use Rattle.account_checker.specs.Follows.{leaf_follows}
use Rattle.account_checker.proofs.ByKind.{leaf_parts}
use Rattle.account_checker.proofs.RowLayout.{to_header, from_header, row_opened_at, no_leaf}
use Rattle.account_checker.proofs.walk.after_leaf.Goals as goal

pub returns-then-is_leaf : goal.returns-then-is_leaf
returns-then-is_leaf c = λ s z i rest e.
    let o = row_opened_at c.args.listed.now (listed.Leaf c.in-Leaf.z) (header z i) (flat c.args.described.rows.now) rest c.in-Leaf.is e in
    let r = (c.is_leaf.ensures s).0 c.if-is_leaf.true in
    (to_header o.0 (leaf_follows r.0 r.1 r.2), o.1)

pub returns-else-is_leaf : goal.returns-else-is_leaf
returns-else-is_leaf c = λ s z i rest e l d.
    let o = row_opened_at c.args.listed.now (listed.Leaf c.in-Leaf.z) (header z i) (flat c.args.described.rows.now) rest c.in-Leaf.is e in
    let p = leaf_parts l (from_header o.0 d) in
    let r = (c.is_leaf.ensures s).1 (l, p.1, p.2) in cc

pub returns-in_default : goal.returns-in_default
returns-in_default c = λ s z i rest e l d.
    no_leaf c.args.listed.now z i (flat c.args.described.rows.now) rest e c.in_default.not-Leaf (leaf_parts l d).0
