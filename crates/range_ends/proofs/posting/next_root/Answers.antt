use Rattle.std.proofs.Common.{refl, sym, subst}
use Rattle.std.specs.Prelude.{IfOk}
use Rattle.range_ends.specs.proving.Posting.{IsRerouted}
use Rattle.range_ends.proofs.posting.next_root.Goals as goal

pub returns-in-None-clause-rerouted : goal.returns-in-None-clause-rerouted
returns-in-None-clause-rerouted c =
    subst (λ o. IsRerouted c.args.forks.now c.args.forks.now c.args.place o c.args.root c.args.root) (sym c.in-None.is) refl

pub returns-in-Some-clause-rerouted : goal.returns-in-Some-clause-rerouted
returns-in-Some-clause-rerouted c =
    subst (λ o. IfOk c.changed_tree.result (IsRerouted c.args.forks.now c.changed_tree.new.forks c.args.place o c.args.root))
    (sym c.in-Some.is) c.changed_tree.ensures.leads
