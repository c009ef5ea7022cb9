use Rattle.std.proofs.Common.{arith, ◌<◌, length, sym, ap, ◌∙◌}
use Rattle.std.specs.Prelude.{Some, option_map}
use Rattle.asn_base.specs.Abstract.{abstract, row_of_options, row_of_list}
use Rattle.asn_base.proofs.Leaves.{yes, no}
use Rattle.asn_base.proofs.Equals.{options_long, values_long, same_at, same_next, some_is, values_parted, values_next}
use Rattle.asn_base.proofs.equal.+equality.Goals.{equal_fields-in-Some+in-Some-second+else-not-equal, equal_fields-in-None+in-None-second-2}
use Rattle.asn_base.proofs.equal.+equality.Goals as goal
use Rattle.asn_base.specs.proving.Lists.{drop_is, drop_end}

pub equal_fields-returns-then-first-second : goal.equal_fields-returns-then-first-second
equal_fields-returns-then-first-second t c = no (λ e. c.if-first-second.true (options_long (option_map abstract) c.args.first.now c.args.second.now e))

pub equal_fields-returns-then-not-equal : goal.equal_fields-returns-then-not-equal
equal_fields-returns-then-not-equal t c =
    no (λ h.
    let s = same_at (option_map abstract) c.args.first.now c.args.second.now c.loop-i.i c.index-first-i.result c.index-second-i.result c.loop-i-test.true c.index-first-i.is (omega arith) c.index-second-i.is c.loop-i.invariant h in
    let f = c.equal.ensures.1 (some_is (sym (ap (option_map abstract) c.in-Some.is) ∙ s ∙ ap (option_map abstract) c.in-Some-second.is)) in
    cc)

pub equal_fields-returns-in-None-second : goal.equal_fields-returns-in-None-second
equal_fields-returns-in-None-second t c =
    no (λ h.
    let s = same_at (option_map abstract) c.args.first.now c.args.second.now c.loop-i.i c.index-first-i.result c.index-second-i.result c.loop-i-test.true c.index-first-i.is (omega arith) c.index-second-i.is c.loop-i.invariant h in
    let f = sym (ap (option_map abstract) c.in-Some.is) ∙ s ∙ ap (option_map abstract) c.in-None-second.is in
    cc)

pub equal_fields-returns-in-Some-second-2 : goal.equal_fields-returns-in-Some-second-2
equal_fields-returns-in-Some-second-2 t c =
    no (λ h.
    let s = same_at (option_map abstract) c.args.first.now c.args.second.now c.loop-i.i c.index-first-i.result c.index-second-i-in-None.result c.loop-i-test.true c.index-first-i.is (omega arith) c.index-second-i-in-None.is c.loop-i.invariant h in
    let f = sym (ap (option_map abstract) c.in-None.is) ∙ s ∙ ap (option_map abstract) c.in-Some-second-2.is in
    cc)

pub equal_fields-loop-i-preserved : goal.equal_fields-loop-i-preserved
equal_fields-loop-i-preserved t c =
    elim c.match-first-i.branch [
      | equal_fields-in-Some+in-Some-second+else-not-equal w ↦
          same_next (option_map abstract) c.args.first.now c.args.second.now c.loop-i.i c.index-first-i.result w.index-second-i.result c.loop-i-test.true c.index-first-i.is (omega arith) w.index-second-i.is c.loop-i.invariant
          (ap (option_map abstract) w.in-Some.is ∙ ap Some (w.equal.ensures.0 w.if-not-equal.false) ∙ sym (ap (option_map abstract) w.in-Some-second.is))
      | equal_fields-in-None+in-None-second-2 w ↦
          same_next (option_map abstract) c.args.first.now c.args.second.now c.loop-i.i c.index-first-i.result w.index-second-i-in-None.result c.loop-i-test.true c.index-first-i.is (omega arith) w.index-second-i-in-None.is c.loop-i.invariant
          (ap (option_map abstract) w.in-None.is ∙ sym (ap (option_map abstract) w.in-None-second-2.is))
    ]

pub equal_fields-returns : goal.equal_fields-returns
equal_fields-returns t c =
    yes (c.loop-i.invariant.1 (ap row_of_options (drop_end (option_map abstract) c.args.first.now c.loop-i.i c.loop-i-test.false ∙ sym (drop_end (option_map abstract) c.args.second.now c.loop-i.i (omega arith)))))

pub equal_lists-returns-then-first-second : goal.equal_lists-returns-then-first-second
equal_lists-returns-then-first-second t c = no (λ e. c.if-first-second.true (values_long abstract c.args.first.now c.args.second.now e))

pub equal_lists-returns-then-not-equal : goal.equal_lists-returns-then-not-equal
equal_lists-returns-then-not-equal t c =
    let lt : c.loop-i.i < length c.args.second.now = omega arith in
    let a = drop_is abstract c.args.first.now c.loop-i.i c.index-first-i.result c.loop-i-test.true c.index-first-i.is in
    let b = drop_is abstract c.args.second.now c.loop-i.i c.index-second-i.result lt c.index-second-i.is in
    no (λ e. let f = c.equal.ensures.1 (values_parted _ _ c.loop-i.i a b (c.loop-i.invariant.0 e)).0 in cc)

pub equal_lists-loop-i-preserved : goal.equal_lists-loop-i-preserved
equal_lists-loop-i-preserved t c =
    let lt : c.loop-i.i < length c.args.second.now = omega arith in
    let a = drop_is abstract c.args.first.now c.loop-i.i c.index-first-i.result c.loop-i-test.true c.index-first-i.is in
    let b = drop_is abstract c.args.second.now c.loop-i.i c.index-second-i.result lt c.index-second-i.is in
    values_next _ _ c.loop-i.i a b (c.equal.ensures.0 c.if-not-equal.false) c.loop-i.invariant

pub equal_lists-returns : goal.equal_lists-returns
equal_lists-returns t c =
    yes (c.loop-i.invariant.1 (ap row_of_list (drop_end abstract c.args.first.now c.loop-i.i c.loop-i-test.false ∙ sym (drop_end abstract c.args.second.now c.loop-i.i (omega arith)))))
