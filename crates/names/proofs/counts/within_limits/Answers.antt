use Rattle.std.proofs.Common.{arith, ◌<◌, length, refl, sym, ap, ◌∙◌}
use Rattle.std.proofs.lemmas.Option.{slice_get_read}
use Rattle.trees.specs.Values.{name_at}
use Rattle.names.specs.declared.fault.Limit.TheVariants as limits
use Rattle.names.specs.declared.fault.NameFault.TheVariants as faults
use Rattle.names.proofs.Counting.{passed_fault}
use Rattle.names.proofs.counts.within_limits.Goals as goal

pub returns-then-modules-gt-MAX_MODULES-clause-at : goal.returns-then-modules-gt-MAX_MODULES-clause-at
returns-then-modules-gt-MAX_MODULES-clause-at c =
    let ms = c.args.modules.now in
    let m = c.index-modules-256.result in
    let there : 256 < length ms = omega arith in
    let back = ap (λ z. name_at z.name) (sym c.index-modules-256.is) in
    let e = c.in_ok-source_location.ensures in (
      m,
      slice_get_read ms (length ms) 256 m refl there c.index-modules-256.is,
      e.within ∙ c.as_str.ensures.value ∙ back,
      e.name ∙ c.as_str-then-modules-gt-MAX_MODULES.ensures.value ∙ back,
      e.at ∙ ap (λ z. z.name.at) (sym c.index-modules-256.is),
    )

pub returns-then-modules-gt-MAX_MODULES-clause-fault : goal.returns-then-modules-gt-MAX_MODULES-clause-fault
returns-then-modules-gt-MAX_MODULES-clause-fault c =
    passed_fault c.args.modules.now (faults.Limit limits.Modules c.in_ok-source_location.field-0) (returns-then-modules-gt-MAX_MODULES-clause-at c)

pub returns-in-Err-clause-fault : goal.returns-in-Err-clause-fault
returns-in-Err-clause-fault c = passed_fault c.args.modules.now c.in-Err.fault c.in-Err.ensures.at
