use Rattle.std.proofs.Common.{inl, inr, refl, arith}
use Rattle.range_ends.proofs.signposts.nearer.Goals as goal

pub returns-then-one-other : goal.returns-then-one-other
returns-then-one-other c = let test = c.if-one-other.true in inl (refl, omega (arith, test))

pub returns-else-one-other : goal.returns-else-one-other
returns-else-one-other c = let test = c.if-one-other.false in inr (refl, omega (arith, test))
