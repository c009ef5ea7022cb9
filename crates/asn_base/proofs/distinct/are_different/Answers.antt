use Rattle.std.proofs.Common.{nat_cmp, subst}
use Rattle.std.specs.Prelude.{◌↔◌, IsTrue}
use Rattle.asn_base.specs.Names.{AreDistinct}
use Rattle.asn_base.proofs.Differing.{kept_next, kept_last, twice, is_new, is_old, same_list}
use Rattle.asn_base.proofs.distinct.are_different.Goals as goal
use Rattle.asn_base.specs.proving.Lists.{drop_at, drop_end}
use Rattle.asn_base.specs.proving.Orderings.{nat_exact, nat_itself}

pub returns-in-Ok-false : goal.returns-in-Ok-false
returns-in-Ok-false c =
    subst (λ q. IsTrue _ ↔ AreDistinct q) (same_list c.args.numbers.now)
    (twice (λ n. n) nat_cmp c.args.numbers.now c.loop-i.before.keys c.loop-i.i _ (drop_at (λ n. n) c.args.numbers.now c.loop-i.i 0 c.loop-i-test.true) (is_old c.in-Ok-false.ensures.added c.in-Ok-false.field-0-test) c.loop-i.invariant)

pub loop-i-preserved : goal.loop-i-preserved
loop-i-preserved c =
    kept_next (λ n. n) nat_cmp nat_exact nat_itself c.args.numbers.now c.loop-i.before.keys c.insert.new.self.keys c.loop-i.i _ (drop_at (λ n. n) c.args.numbers.now c.loop-i.i 0 c.loop-i-test.true) (is_new c.in-Ok-true.ensures.added c.in-Ok-true.field-0-test)
    c.in-Ok-true.ensures.updates.0 c.loop-i.invariant

pub returns : goal.returns
returns c =
    subst (λ q. IsTrue _ ↔ AreDistinct q) (same_list c.args.numbers.now)
    (kept_last (λ n. n) nat_cmp c.args.numbers.now c.loop-i.before.keys c.loop-i.i (drop_end (λ n. n) c.args.numbers.now c.loop-i.i c.loop-i-test.false) c.loop-i.invariant)
