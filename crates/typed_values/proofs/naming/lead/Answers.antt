use Rattle.std.proofs.Common.{◌≡◌, ◌+◌, ℕ, List, ap, sym, ◌∙◌, subst, length, arith}
use Rattle.std.proofs.lemmas.List.{length-map}
use Rattle.trees.specs.Values.{Name, tree_of}
use Rattle.names.specs.Sources.{value_seen}
use Rattle.resolve.specs.Program.{WrittenProgram}
use Rattle.type_table.specs.Seen.{kind_of}
use Rattle.value_notations.specs.Wrong.{OpenedPath}
use Rattle.value_notations.specs.Wrong as wrong
use Rattle.value_notations.specs.Written.{IsLastAt, IsReachedNotation, assigned, itself}
use Rattle.value_notations.specs.proving.Opened.{IsGrown}
use Rattle.value_notations.specs.proving.Paths.{leads_lost, leads_more, leads_own, leads_round, none_more, one_more, few_more}
use Rattle.typed_values.specs.Faults.{IsCircularNameIn, IsLostAt}
use Rattle.typed_values.proofs.naming.lead.Goals as goal

pub loop-step-init : goal.loop-step-init
loop-step-init t c = record {
  chain = subst (λ (M : Name). OpenedPath c.linked-linked.result.now.program (kind_of c.args.unfollowed.now.shape.now) c.args.opened.now
      c.args.unfollowed.now.at.within.now (tree_of c.args.unfollowed.now.at.notation.now) c.args.opened.now M
      (tree_of c.args.unfollowed.now.at.notation.now)) (sym c.within-module.ensures) wrong.there;
  reached = itself;
  grown = none_more c.args.opened.now (length c.linked-linked.result.now.program.values);
  text = c.within-module.utf8;
}

pub returns-in-Itself-clause-led : goal.returns-in-Itself-clause-led
returns-in-Itself-clause-led t c =
    let u = c.args.unfollowed.now in
    subst (λ (w : WrittenProgram). IsLastAt w (kind_of u.shape.now) c.args.opened.now u.at.within.now u.at.notation.now c.loop-step.opened c.loop-step.module.now c.loop-step.at.now)
    c.linked-linked.ensures
    (record { last = leads_own c.loop-step.invariant.chain c.in-Itself.ensures; text = c.loop-step.invariant.reached })

pub returns-in-Nothing-clause-fault : goal.returns-in-Nothing-clause-fault
returns-in-Nothing-clause-fault t c =
    let u = c.args.unfollowed.now in
    subst (λ (w : WrittenProgram). IsLostAt w (kind_of u.shape.now) c.args.opened.now u.at.within.now u.at.notation.now c.loop-step.module.now c.loop-step.at.now)
    c.linked-linked.ensures
    (record { meant = leads_lost c.loop-step.invariant.chain c.in-Nothing.ensures; text = c.loop-step.invariant.reached })

pub returns-in-Again-clause-fault : goal.returns-in-Again-clause-fault
returns-in-Again-clause-fault t c =
    let u = c.args.unfollowed.now in
    subst (λ (w : WrittenProgram). IsCircularNameIn w (kind_of u.shape.now) c.args.opened.now u.at.within.now u.at.notation.now c.in-Again.number c.loop-step.module.now c.loop-step.at.now)
    c.linked-linked.ensures
    (record {
      meant = leads_round c.in-Again.number c.loop-step.invariant.chain c.in-Again.ensures.0 c.in-Again.ensures.1;
      text = c.loop-step.invariant.reached;
    })

pub loop-step-preserved : goal.loop-step-preserved
loop-step-preserved t c =
    let p = c.linked-linked.result.now.program in
    let k = kind_of c.args.unfollowed.now.shape.now in
    let os = c.args.opened.now in
    let ps = c.loop-step.opened in
    let N = c.notation_at.result.0.now in
    let m = tree_of c.notation_at.result.1.now in
    let i = c.in-Referred.number in
    let e = c.in-Ok.ensures.ok in
    record {
      chain = subst (λ (z : List ℕ). OpenedPath p k os c.args.unfollowed.now.at.within.now (tree_of c.args.unfollowed.now.at.notation.now) z N m) (sym e)
          (leads_more i c.loop-step.invariant.chain c.in-Referred.ensures.0 c.in-Referred.ensures.1 c.notation_at.ensures.is_so);
      reached = subst
          (λ (z : List ℕ). IsReachedNotation c.linked-linked.result.now os c.args.unfollowed.now.at.notation.now z c.notation_at.result.1.now)
          (sym e) (assigned c.loop-step.invariant.reached c.notation_at.ensures.written);
      grown = subst (λ (z : List ℕ). IsGrown os z (length p.values) (c.loop-step.step + 1)) (sym e)
          (one_more os ps (length p.values) c.loop-step.step i c.loop-step.invariant.grown c.in-Referred.ensures.2
          c.in-Referred.ensures.1);
      text = c.notation_at.ensures.text;
    }

pub returns-clause-fault : goal.returns-clause-fault
returns-clause-fault t c =
    let p = c.linked-linked.result.now.program in
    let few = few_more c.args.opened.now c.loop-step.opened (length p.values) c.loop-step.step c.loop-step.invariant.grown in
    let long : length p.values ≡ length c.values-count.result.now =
    sym (ap length c.values-count.ensures.values) ∙ length-map c.values-count.result.now value_seen in
    absurd (omega (arith, few, long, c.loop-step-test.false, c.loop-step.auto.step-end))
