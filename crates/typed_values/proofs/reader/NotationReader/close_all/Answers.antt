use Rattle.std.proofs.Common.{◌∙◌, refl, sym, subst, arith}
use Rattle.resolve.specs.Program.{Program}
use Rattle.typed_values.specs.proving.Reading.{CanClose, IsEnded}
use Rattle.typed_values.proofs.Closing.{all_closed, can_close, grown_to}
use Rattle.typed_values.proofs.Found.{later_on, later_same}
use Rattle.typed_values.proofs.Going.{not_moved, on_and_on}
use Rattle.typed_values.proofs.reader.NotationReader.close_all.Goals as goal

pub loop-step-init : goal.loop-step-init
loop-step-init c =
    let many = c.count-many.ensures in
    record {
      closed = λ most before after os M n v l h. h;
      long = omega (arith, many);
      later = later_same _;
      lowest = refl;
      left = refl;
      ready = not_moved c.requires.ready;
      same_table = refl;
    }

pub close_one-requires-clause-ended : goal.close_one-requires-clause-ended
close_one-requires-clause-ended c =
    let i = c.loop-step.invariant in
    let long = i.long in
    let test = c.loop-step-test.true in
    subst (λ (p : Program). CanClose p c.args.ty.index c.args.levels c.args.nodes c.loop-step.self.opened.now c.loop-step.self.defaults.now)
    (sym i.ready.same)
    (can_close c.requires.ended i.closed i.lowest (omega (arith, long, test)))

pub close_one-requires-clause-ready : goal.close_one-requires-clause-ready
close_one-requires-clause-ready c = c.loop-step.invariant.ready.ready

pub loop-step-preserved : goal.loop-step-preserved
loop-step-preserved c =
    let i = c.loop-step.invariant in
    let x = c.close_one.ensures in
    let long = i.long in
    let test = c.loop-step-test.true in
    let one = x.one in
    record {
      closed = λ most before after os M n v l h.
          subst (λ (p : Program). IsEnded p most before after os M c.args.ty.index n c.close_one.new.self.opened.now
          c.close_one.new.self.defaults.now v) i.ready.same
          (x.closed most before after os M n v (omega (arith, l, long, test))
          (subst (λ (p : Program). IsEnded p most before after os M c.args.ty.index n c.loop-step.self.opened.now
          c.loop-step.self.defaults.now v) (sym i.ready.same) (i.closed most before after os M n v l h)));
      long = omega (arith, long, one);
      later = later_on i.later x.later;
      lowest = x.lowest ∙ i.lowest;
      left = x.left ∙ i.left;
      ready = on_and_on i.ready x.ready;
      same_table = x.same_table ∙ i.same_table;
    }

pub returns-clause-closed : goal.returns-clause-closed
returns-clause-closed c = λ most before after os M n v l h.
    let i = c.loop-step.invariant in
    let long = i.long in
    let grown = grown_to c.requires.ended in
    let many = c.count-many.ensures in
    let test = c.loop-step-test.false in
    let end = c.loop-step.auto.step-end in
    all_closed (omega (arith, l, long, grown, many, test, end)) (i.closed most before after os M n v l h)
