use Rattle.std.proofs.Common.{rules, ◌≡◌, ◌≤◌, length, refl}
use Rattle.ber_reader.proofs.follower.Follower.new.Goals as goal

pub at_front-requires : goal.at_front-requires
at_front-requires c κs =
    let l : length c.args.octets.now ≤ 16777216 = search rules in
    ((refl, (refl, tt)), (l, (c.new.ensures.suits c.args.code.now, c.new.ensures.nothing)))
