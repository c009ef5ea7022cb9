use Rattle.std.proofs.Common.{◌≡◌, ◌⊎◌, ◌↔◌, true, rules, subst, to_z, of_z}
use Rattle.std.specs.Prelude.{IsTrue}
use Rattle.std.specs.Int.{w128}
use Rattle.asn_base.specs.Typed.{IsInSome}
use Rattle.type_table.specs.Seen.{kind_of}
use Rattle.constraints.specs.Allowed.{IsCounted}
use Rattle.constraints.proofs.Bounding.{left_allows}
use Rattle.constraints.proofs.bounded.allows_number.Goals as goal

pub returns-in-Some : goal.returns-in-Some
returns-in-Some c =
    let l = c.in-Some.limit.now in
    let q : to_z w128 (of_z w128 c.args.number) ≡ c.args.number = search rules in
    left_allows c.args.bounded.now.program c.args.ty.index (kind_of c.shape.result.now) l c.args.number (IsTrue c.leaves.result)
    c.shape.ensures c.in-Some.ensures
    (subst (λ z. IsTrue c.leaves.result ↔ (IsInSome z l.numbers ⊎ ((l.extensible ≡ true) × IsCounted (kind_of c.shape.result.now) z)))
    q c.leaves.ensures)
