use Rattle.std.proofs.Common.{sym, subst, ap}
use Rattle.trees.specs.Types.{a_boolean}
use Rattle.type_table.specs.Table.{simple}
use Rattle.value_notations.specs.proving.Next.{IsNameOf}
use Rattle.resolve.specs.Program.{Program, WrittenProgram}
use Rattle.range_ends.specs.Ends.{IsValueAt}
use Rattle.typed_values.specs.declared.chains.NameChain.{NameChain}
use Rattle.typed_values.specs.proving.Stopping.{GoesOnBy}
use Rattle.typed_values.proofs.Ways.{begins, goes_on}
use Rattle.typed_values.proofs.levels.Defaults.rest_after.Goals as goal

pub returns-in-Itself : goal.returns-in-Itself
returns-in-Itself c =
    let w = c.in-Itself.ensures in
    let there = subst (λ (p : Program). IsValueAt p c.args.number w.within w.notation) (ap (λ (w : WrittenProgram). w.program) c.linked.ensures) w.there in
    subst (λ (r : NameChain). GoesOnBy c.args.bounded.now.program c.args.self.now.named.turns.items c.args.self.now.chains c.args.number r)
    (sym c.no_chain.ensures) (begins c.args.number c.requires.known.chains there)

pub returns-in-Nothing : goal.returns-in-Nothing
returns-in-Nothing c =
    let w = c.in-Nothing.ensures in
    let there = subst (λ (p : Program). IsValueAt p c.args.number w.within w.notation) (ap (λ (w : WrittenProgram). w.program) c.linked.ensures) w.there in
    subst (λ (r : NameChain). GoesOnBy c.args.bounded.now.program c.args.self.now.named.turns.items c.args.self.now.chains c.args.number r)
    (sym c.no_chain-in-Nothing.ensures) (begins c.args.number c.requires.known.chains there)

pub returns-then-turn-chain : goal.returns-then-turn-chain
returns-then-turn-chain c =
    let w = c.in-Referred.ensures in
    let same = ap (λ (w : WrittenProgram). w.program) c.linked.ensures in
    let there = subst (λ (p : Program). IsValueAt p c.args.number w.within w.notation) same w.there in
    let x = c.in-Some.ensures in
    let name = subst (λ (p : Program). IsNameOf p (simple a_boolean) w.within w.notation c.in-Referred.next) same w.reports.0 in
    goes_on c.args.number c.turn.result c.in-Some.chain (c.requires.known.chains.chains c.in-Some.chain x.there) there
    (subst (λ j. IsNameOf c.args.bounded.now.program (simple a_boolean) w.within w.notation j) (sym x.number) name)
    c.turn.ensures c.if-turn-chain.true
