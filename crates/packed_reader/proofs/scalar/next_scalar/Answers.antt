use Rattle.std.proofs.Common.{arith, ◌≤◌, ◌+◌, ◌-◌, length, ◌∙◌}
use Rattle.bits.specs.Left.{bits_left}
use Rattle.packed_reader.specs.proving.Running.{run_value}
use Rattle.packed_reader.proofs.ValueRun.{value_steps}
use Rattle.packed_reader.proofs.scalar.next_scalar.Goals as goal

pub returns-in-Some-clause-got : goal.returns-in-Some-clause-got
returns-in-Some-clause-got c =
    let s = c.args.reader.code.now in
    let l = c.args.reader.levels in
    let p = c.args.progress.now in
    value_steps c.running_laws.ensures s l c.args.reader.id.index p.skipped p.left (bits_left c.args.bits.now)
    (let h = c.if-reader-eq0.false in omega (arith, h)) (let h = c.if-progress-eq0.false in omega (arith, h))
    ∙ c.in-Some.ensures.steps (l - 1) p.skipped (p.left - 1) (run_value s (l - 1))

pub returns-in-Some-clause-advanced : goal.returns-in-Some-clause-advanced
returns-in-Some-clause-advanced c =
    let p = c.args.progress.now in
    let h = c.in-Some.ensures.shorter in
    record {
      left = (let k : p.left - 1 ≤ p.left = omega arith in k);
      room = (let k : p.skipped + length (bits_left c.read_scalar.new.bits) ≤ p.skipped + length (bits_left c.args.bits.now) = omega (arith, h) in k);
    }
