use Rattle.std.proofs.Common.{sym, ◌∙◌}
use Rattle.std.specs.Ordering.{nat_cmp}
use Rattle.std.proofs.lemmas.Cmp.{nat_cmp_total}
use Rattle.type_table.proofs.Sets.{nat_exact, has, has_not, puts}
use Rattle.type_table.proofs.lists.place_once.Goals as goal

pub returns-then-contains-clause-fault : goal.returns-then-contains-clause-fault
returns-then-contains-clause-fault c =
    let e = c.in_ok-source_location.ensures in
    (e.within, e.name ∙ c.as_str.ensures.value, has nat_cmp nat_cmp_total nat_exact c.args.places.now.keys c.args.place (sym c.if-contains.ensures))

pub returns-clause-fresh : goal.returns-clause-fresh
returns-clause-fresh c = has_not nat_cmp nat_cmp_total nat_exact c.args.places.now.keys c.args.place (sym c.if-contains.ensures)

pub returns-clause-added : goal.returns-clause-added
returns-clause-added c = puts nat_cmp nat_cmp_total nat_exact c.args.places.now.keys c.insert.new.self.keys c.args.place c.in_ok-insert.ensures.updates.0
