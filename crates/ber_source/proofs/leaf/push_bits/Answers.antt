use Rattle.std.proofs.Common.{arith, ◌+◌, suc, ap, ◌≡◌}
use Rattle.std.specs.Prelude.{Some}
use Rattle.views.specs.Tree as tree
use Rattle.ber_source.proofs.Leaves.{none_unused, bits_are, then_ok}
use Rattle.ber_source.proofs.leaf.push_bits.Goals as goal

pub push_bits-requires-clause-unused_in_octets : goal.push_bits-requires-clause-unused_in_octets
push_bits-requires-clause-unused_in_octets c e = none_unused c.in-Some.unused.now c.in-Some.following.now c.requires.whole.1 c.in-Some.ensures.cases.0 e

pub returns-in-Some : goal.returns-in-Some
returns-in-Some c s b w h =
    let n = c.in-Some.unused.now in
    let o = c.in-Some.following.now in
    let place : c.args.at + 1 ≡ suc c.args.at = omega arith in
    then_ok c.push_bits.result (λ q. (tree.bits n o (Some (c.args.at + 1)), bits_are n o w c.in-Some.ensures.cases.0, (c.in-Some.ensures.cases.0, ap Some place), q)) (c.push_bits.ensures b h)
