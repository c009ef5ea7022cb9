use Rattle.std.proofs.Common.{◌≡◌, map, option_map, refl}
use Rattle.std.proofs.lemmas.Option.{slice_get_read}
use Rattle.std.specs.Prelude.{Some, slice_get}
use Rattle.names.specs.proving.Distinct.{item_at}
use Rattle.type_table.specs.Seen.{part_of}
use Rattle.type_table.specs.Table.{Part}
use Rattle.extensions.specs.proving.Defaults.{IsDefaultOf}
use Rattle.extensions.specs.Faults.{IsFirstIn, IsWrongDefault}
use Rattle.extensions.specs.proving.Tables.{defaults_seen, shared_seen}
use Rattle.extensions.proofs.Each.{one_more, one_default, reports_more, typed_before}
use Rattle.extensions.proofs.defaults.defaults_in.Goals as goal

pub default_of-requires-clause-there : goal.default_of-requires-clause-there
default_of-requires-clause-there c =
    c.requires.there c.loop-at.at (part_of c.index-components-at.result)
    (item_at part_of c.args.components.now c.loop-at.at c.index-components-at.result c.loop-at-test.true c.index-components-at.is)

pub returns-in-Err-clause-fault : goal.returns-in-Err-clause-fault
returns-in-Err-clause-fault c =
    let p = c.args.builder.bounded.now.program in
    let t = c.args.builder.bounded.now in
    let M = c.args.within.now in
    let ms = c.args.components.now in
    let cs = map part_of ms in
    let part = c.index-components-at.result in
    let there = slice_get_read ms _ c.loop-at.at part refl c.loop-at-test.true c.index-components-at.is in
    reports_more (IsWrongDefault t M part) (IsFirstIn t M ms) c.in-Err.wrong
    (λ f w. record {
      number = c.loop-at.at;
      part = part;
      there = there;
      wrong = w;
      before = typed_before p M cs c.loop-at.at (defaults_seen c.loop-at.values.items) c.loop-at.invariant.0;
    })
    c.in-Err.ensures.fault

pub loop-at-preserved : goal.loop-at-preserved
loop-at-preserved c =
    let p = c.args.builder.bounded.now.program in
    let M = c.args.within.now in
    let cs = map part_of c.args.components.now in
    let part = part_of c.index-components-at.result in
    let there = item_at part_of c.args.components.now c.loop-at.at c.index-components-at.result c.loop-at-test.true c.index-components-at.is in (
      one_more (λ m v. (d : Part) → slice_get cs m ≡ Some d → IsDefaultOf p M d v) c.loop-at.at
          (defaults_seen c.loop-at.values.items) (defaults_seen c.add.new.values.items) (option_map shared_seen c.in-Ok.value)
          c.loop-at.invariant.0 c.in-Ok-add.ensures
          (one_default p M cs c.loop-at.at part (option_map shared_seen c.in-Ok.value) there c.in-Ok.ensures.value),
      c.default_of.ensures.known,
    )
