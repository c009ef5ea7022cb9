use Rattle.std.proofs.Common.{arith}
use Rattle.std.specs.Cmp.Lexicographic.{slice_cmp}
use Rattle.std.specs.Ordering.{nat_cmp}
use Rattle.asn_base.proofs.Differing.{kept_next, kept_last, twice, text_exact, text_itself, is_new, is_old}
use Rattle.asn_base.proofs.distinct.are_different_names.Goals as goal
use Rattle.asn_base.specs.proving.Lists.{drop_at, drop_end}

pub returns-in-Ok-false : goal.returns-in-Ok-false
returns-in-Ok-false c =
    twice (λ n. n.now) (slice_cmp nat_cmp) c.args.names.now c.loop-name.before.keys c.loop-name.name-index (record { ref_ptr = (0, 0); now = _ })
    (drop_at (λ n. n.now) c.args.names.now c.loop-name.name-index _ c.loop-name-test.true) (is_old c.in-Ok-false.ensures.added c.in-Ok-false.field-0-test) c.loop-name.invariant

pub loop-name-preserved : goal.loop-name-preserved
loop-name-preserved c =
    kept_next (λ n. n.now) (slice_cmp nat_cmp) text_exact text_itself c.args.names.now c.loop-name.before.keys c.insert.new.self.keys c.loop-name.name-index (record { ref_ptr = (0, 0); now = _ })
    (drop_at (λ n. n.now) c.args.names.now c.loop-name.name-index _ c.loop-name-test.true) (is_new c.in-Ok-true.ensures.added c.in-Ok-true.field-0-test) c.in-Ok-true.ensures.updates.0 c.loop-name.invariant

pub returns : goal.returns
returns c =
    kept_last (λ n. n.now) (slice_cmp nat_cmp) c.args.names.now c.loop-name.before.keys c.loop-name.name-index
    (drop_end (λ n. n.now) c.args.names.now c.loop-name.name-index (omega (arith, c.loop-name-test.false, c.loop-name.auto.name-index-end))) c.loop-name.invariant
