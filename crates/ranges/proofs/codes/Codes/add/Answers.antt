use Rattle.std.proofs.Common.{inl, inr, arith}
use Rattle.ranges.specs.proving.Masking.{IsBetween}
use Rattle.ranges.proofs.Bits.{member_either}
use Rattle.ranges.proofs.codes.Codes.add.Goals as goal

pub returns-then-first-lt128 : goal.returns-then-first-lt128
returns-then-first-lt128 c x =
    rw (← c.self.view_is)
    (member_either c.self.inside.bits c.between.result x (IsBetween c.args.first c.args.last x) (c.between.ensures x))

pub returns-else-first-lt128 : goal.returns-else-first-lt128
returns-else-first-lt128 c x =
    let past = c.if-first-lt128.false in
    (λ m. inl m, λ m. elim m [ inl k ↦ k | inr k ↦ absurd (let a = k.0.0 in let b = k.1 in omega arith) ])
