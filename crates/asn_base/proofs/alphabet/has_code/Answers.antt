use Rattle.std.proofs.Common.{inl}
use Rattle.asn_base.specs.Names.{IsMember}
use Rattle.asn_base.proofs.Leaves.{yes, no, not_here, member_at, no_member}
use Rattle.asn_base.proofs.alphabet.has_code.Goals as goal
use Rattle.asn_base.specs.proving.Lists.{drop_here, drop_past, left_at, onward}

pub returns-then-alphabet-i : goal.returns-then-alphabet-i
returns-then-alphabet-i c = yes ((left_at (IsMember c.args.code) _ _ c.loop-i.i (drop_here c.args.alphabet.now c.loop-i.i 0 c.loop-i-test.true) c.loop-i.invariant).1 (member_at.1 (inl c.if-alphabet-i.true)))

pub loop-i-preserved : goal.loop-i-preserved
loop-i-preserved c =
    let a = left_at (IsMember c.args.code) _ _ c.loop-i.i (drop_here c.args.alphabet.now c.loop-i.i 0 c.loop-i-test.true) c.loop-i.invariant in
    not_here (onward a member_at.0 member_at.1) c.if-alphabet-i.false

pub returns : goal.returns
returns c = no (λ m. no_member ((left_at (IsMember c.args.code) _ _ c.loop-i.i (drop_past c.args.alphabet.now c.loop-i.i c.loop-i-test.false) c.loop-i.invariant).0 m))
