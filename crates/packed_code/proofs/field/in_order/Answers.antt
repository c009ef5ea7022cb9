use Rattle.std.proofs.Common.{rules, ◌≡◌, subst}
use Rattle.std.proofs.lemmas.Fn.{always_returns_same}
use Rattle.std.proofs.lemmas.List.Sorted.{IsNonDecreasingBy-from_sort}
use Rattle.std.specs.List.Sorted.{IsStableByKey}
use Rattle.std.specs.Ordering.{nat_cmp}
use Rattle.asn_base.specs.Seen.{types_of}
use Rattle.packed_code.proofs.Canonical.{key_of_placed, canonical_is}
use Rattle.packed_code.proofs.field.in_order.Goals as goal

pub returns : goal.returns
returns c =
    let s = types_of c.args.types.now in
    let k = key_of_placed s in
    let all = c.sort_by_key.new.self.items in
    let calls = always_returns_same _ (λ a r. r ≡ k a.0.now) _ (λ a r f' h. search rules) in
    canonical_is s (c.key_law.ensures s) c.args.root.now all c.requires
    (IsNonDecreasingBy-from_sort k all (c.in_ok-sort_by_key.ensures.sorted k calls))
    (subst (λ xs. IsStableByKey k nat_cmp xs all) c.in_ok-sorted.ensures.items (c.sort_by_key.ensures.stable k calls))
