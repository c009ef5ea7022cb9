use Rattle.std.proofs.Common.{ap, sym}
use Rattle.std.specs.Prelude.{option_map}
use Rattle.asn_base.specs.Abstract.{abstract}
use Rattle.later_versions.specs.Projected.{members_of}
use Rattle.later_versions.proofs.Keeps.{elements_left, elements_next, elements_whole, kept_absent, kept_present, kept_whole, left_after, left_present}
use Rattle.later_versions.proofs.projection.+keeping.Goals.{project_fields-in-Some+in-Some-member_at+in-Ok-Some+in_ok-add-in-Ok-Some, project_fields-in-None+in_ok-pass-in-None}
use Rattle.later_versions.proofs.projection.+keeping.Goals as goal

pub project_elements-returns-in-Ok-None : goal.project_elements-returns-in-Ok-None
project_elements-returns-in-Ok-None t c =
    let e = rw c.in-Ok-None.field-0-is at c.in-Ok-None.ensures in
    elements_left abstract c.args.schema.now c.args.element.index c.args.values.now c.loop-i.all.items c.loop-i.i c.index-values-i.result c.loop-i-test.true c.index-values-i.is e c.loop-i.invariant

pub project_elements-loop-i-preserved : goal.project_elements-loop-i-preserved
project_elements-loop-i-preserved t c =
    let e = rw c.in-Ok-Some.field-0-is at c.in-Ok-Some.ensures in
    elements_next abstract c.args.schema.now c.args.element.index c.args.values.now c.loop-i.all.items c.add.new.list.items c.loop-i.i c.index-values-i.result c.in-Ok-Some.one c.loop-i-test.true c.index-values-i.is e.0 e.1 c.in_ok-add-in-Ok-Some.ensures c.loop-i.invariant

pub project_elements-returns : goal.project_elements-returns
project_elements-returns t c =
    elements_whole abstract c.args.schema.now c.args.element.index c.args.values.now c.loop-i.all.items c.loop-i.i c.loop-i-test.false c.loop-i.invariant

pub project_fields-loop-i-preserved : goal.project_fields-loop-i-preserved
project_fields-loop-i-preserved t c =
    elim c.match-values-i.branch [
      | project_fields-in-Some+in-Some-member_at+in-Ok-Some+in_ok-add-in-Ok-Some w ↦ (
          let e = rw w.in-Ok-Some.field-0-is at w.in-Ok-Some.ensures in
          rw w.all-is
          (kept_present abstract c.args.schema.now (members_of c.args.schema.now c.args.id.index) c.args.values.now c.loop-i.all.items w.add.new.list.items c.loop-i.i w.in-Some-member_at.ty.index c.index-values-i.result w.in-Some.value w.in-Ok-Some.one
          c.loop-i-test.true c.index-values-i.is w.in-Some.is (sym w.in-Some-member_at.ensures) e.0 e.1 w.in_ok-add-in-Ok-Some.ensures c.loop-i.invariant)
          )
      | project_fields-in-None+in_ok-pass-in-None w ↦
          rw w.all-is
          (kept_absent abstract c.args.schema.now (members_of c.args.schema.now c.args.id.index) c.args.values.now c.loop-i.all.items w.pass.new.list.items c.loop-i.i c.index-values-i.result
          c.loop-i-test.true c.index-values-i.is w.in-None.is w.in_ok-pass-in-None.ensures.known w.in_ok-pass-in-None.ensures.unknown c.loop-i.invariant)
    ]

pub project_fields-returns-in-Ok-None : goal.project_fields-returns-in-Ok-None
project_fields-returns-in-Ok-None t c =
    let e = rw c.in-Ok-None.field-0-is at c.in-Ok-None.ensures in
    left_present abstract c.args.schema.now (members_of c.args.schema.now c.args.id.index) c.args.values.now c.loop-i.all.items c.loop-i.i c.in-Some-member_at.ty.index c.index-values-i.result c.in-Some.value
    c.loop-i-test.true c.index-values-i.is c.in-Some.is (sym c.in-Some-member_at.ensures) e c.loop-i.invariant

pub project_fields-returns : goal.project_fields-returns
project_fields-returns t c =
    kept_whole (option_map abstract) c.args.schema.now (members_of c.args.schema.now c.args.id.index) c.args.values.now c.loop-i.all.items c.loop-i.i c.loop-i-test.false c.loop-i.invariant

pub project_fields-returns-in-None-member_at : goal.project_fields-returns-in-None-member_at
project_fields-returns-in-None-member_at t c =
    left_after (option_map abstract) c.args.schema.now (members_of c.args.schema.now c.args.id.index) c.args.values.now c.loop-i.all.items c.loop-i.i c.index-values-i.result (abstract c.in-Some.value)
    c.loop-i-test.true c.index-values-i.is (sym c.in-None-member_at.ensures) (ap (option_map abstract) c.in-Some.is) c.loop-i.invariant
