use Rattle.std.proofs.Common.{arith}
use Rattle.std.proofs.lemmas.Nat.Bits.{ones_shl}
use Rattle.ranges.proofs.Bits.{masked}
use Rattle.ranges.proofs.codes.between.Goals as goal

pub returns : goal.returns
returns c x below =
    let m = masked c.args.first c.args.last x c.requires below in
    rw (c.min.ensures, ones_shl 128 c.args.first (let h = c.requires in omega arith)) m
