use Rattle.std.proofs.Common.{sym, subst}
use Rattle.octet_account.specs.Flat.{AreRows}
use Rattle.octet_account.specs.Seen.{flat}
use Rattle.octet_account.specs.proving.Trees.{tree_of}
use Rattle.octet_account.proofs.Kept.{kept}
use Rattle.octet_account.proofs.account.Account.of.Goals as goal

pub invariant_of-result : goal.invariant_of-result
invariant_of-result c = kept c.requires.0 (flat c.with_ends-rows.result.items) (subst (AreRows c.requires.0) (sym c.with_ends-rows.ensures) c.requires.1)

pub returns : goal.returns
returns c = subst (AreRows (tree_of (flat c.with_ends-rows.result.items))) c.with_ends-rows.ensures (kept c.requires.0 (flat c.with_ends-rows.result.items) (subst (AreRows c.requires.0) (sym c.with_ends-rows.ensures) c.requires.1))
