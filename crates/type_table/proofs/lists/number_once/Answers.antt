use Rattle.std.proofs.Common.{sym, subst, ◌∙◌, to_z, of_z, rules}
use mir.Syntax.{w128}
use mir.Val.{SFits}
use Rattle.std.specs.Ordering.{int_cmp}
use Rattle.std.proofs.lemmas.Cmp.{int_cmp_total}
use Rattle.std.proofs.lemmas.Int.{to_z-of_z}
use Rattle.names.specs.Modules.{OccursIn}
use Rattle.type_table.specs.proving.Sets.{Puts}
use Rattle.type_table.proofs.Sets.{int_exact, has, has_not, puts}
use Rattle.type_table.proofs.lists.number_once.Goals as goal

pub returns-then-contains-clause-fault : goal.returns-then-contains-clause-fault
returns-then-contains-clause-fault c =
    let f : SFits w128 c.args.number = search rules in
    let z = to_z w128 (of_z w128 c.args.number) in
    let ks = c.args.numbers.now.keys in
    let e = c.in_ok-source_location.ensures in
    (e.within, e.name ∙ c.as_str.ensures.value, subst (λ n. OccursIn ks n) (to_z-of_z w128 c.args.number f) (has int_cmp int_cmp_total int_exact ks z (sym c.if-contains.ensures)))

pub returns-clause-fresh : goal.returns-clause-fresh
returns-clause-fresh c =
    let f : SFits w128 c.args.number = search rules in
    let z = to_z w128 (of_z w128 c.args.number) in
    let ks = c.args.numbers.now.keys in
    λ s. has_not int_cmp int_cmp_total int_exact ks z (sym c.if-contains.ensures) (subst (λ n. OccursIn ks n) (sym (to_z-of_z w128 c.args.number f)) s)

pub returns-clause-added : goal.returns-clause-added
returns-clause-added c =
    let f : SFits w128 c.args.number = search rules in
    let z = to_z w128 (of_z w128 c.args.number) in
    let ks = c.args.numbers.now.keys in
    subst (λ n. Puts ks c.insert.new.self.keys n) (to_z-of_z w128 c.args.number f) (puts int_cmp int_cmp_total int_exact ks c.insert.new.self.keys z c.in_ok-insert.ensures.updates.0)
