use Rattle.std.specs.List.{AllByRecursion}
use Rattle.std.proofs.Common.{sym, ◌∙◌, true≢false}
use Rattle.asn_base.specs.Names.{IsIdentifier}
use Rattle.asn_base.proofs.Leaves.{no}
use Rattle.asn_base.proofs.distinct.are_identifiers.Goals as goal
use Rattle.asn_base.specs.proving.Lists.{drop_at, left_at, onward}

pub returns-then-not-is_identifier : goal.returns-then-not-is_identifier
returns-then-not-is_identifier c =
    let a = left_at (AllByRecursion IsIdentifier) _ _ c.loop-i.i (drop_at (λ n. n.now) c.args.names.now c.loop-i.i _ c.loop-i-test.true) c.loop-i.invariant in
    no (λ f. true≢false (sym (a.0 f).0 ∙ sym c.is_identifier.ensures ∙ c.if-not-is_identifier.true))

pub loop-i-preserved : goal.loop-i-preserved
loop-i-preserved c =
    let a = left_at (AllByRecursion IsIdentifier) _ _ c.loop-i.i (drop_at (λ n. n.now) c.args.names.now c.loop-i.i _ c.loop-i-test.true) c.loop-i.invariant in
    onward a (λ p. p.1) (λ p. (sym c.is_identifier.ensures ∙ c.if-not-is_identifier.false, p))
