use Rattle.std.proofs.Common.{◌≡◌, rules, subst}
use mir.Syntax.{w128}
use mir.Val.{SFits, to_z, of_z}
use Rattle.std.specs.Ordering.{int_cmp}
use Rattle.std.proofs.lemmas.Cmp.{int_cmp_total}
use Rattle.std.proofs.lemmas.Int.{to_z-of_z}
use Rattle.type_table.specs.proving.Sets.{Puts}
use Rattle.asn_base.specs.Typed.{IsWithinLimit}
use Rattle.type_table.proofs.Limits.{within_puts}
use Rattle.type_table.proofs.Sets.{int_exact, puts}
use Rattle.type_table.proofs.items.put.Goals as goal

pub returns-clause-added : goal.returns-clause-added
returns-clause-added c =
    let f : SFits w128 c.args.number = search rules in
    let z = to_z w128 (of_z w128 c.args.number) in
    let same : z ≡ c.args.number = to_z-of_z w128 c.args.number f in
    subst (λ n. Puts c.args.set.now.keys c.insert.new.self.keys n) same (puts int_cmp int_cmp_total int_exact c.args.set.now.keys c.insert.new.self.keys z c.in_ok-insert.ensures.updates.0)

pub returns-clause-within : goal.returns-clause-within
returns-clause-within c =
    let f : SFits w128 c.args.number = search rules in
    let z = to_z w128 (of_z w128 c.args.number) in
    let same : z ≡ c.args.number = to_z-of_z w128 c.args.number f in
    let put = subst (λ n. Puts c.args.set.now.keys c.insert.new.self.keys n) same (puts int_cmp int_cmp_total int_exact c.args.set.now.keys c.insert.new.self.keys z c.in_ok-insert.ensures.updates.0) in
    λ w. within_puts c.args.set.now.keys c.insert.new.self.keys c.args.number put w (subst IsWithinLimit same c.lemma_integer_within_limit.ensures)
