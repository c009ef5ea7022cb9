use Rattle.packed_encodings.specs.Computed.{character_bits}
use Rattle.packed_leaves.proofs.Groups.{next_group}
use Rattle.packed_leaves.proofs.text.push_each.Goals as goal

pub loop-front-preserved : goal.loop-front-preserved
loop-front-preserved c =
    next_group (character_bits c.args.alphabet.codes.now) 8 c.loop-front.rest.now c.in-Some.front.now c.in-Some.after.now c.loop-front.out c.push_group.new.out _
    c.in-Some.ensures.cases.0 c.in-Some.ensures.cases.1 c.in_ok-push_group.ensures c.loop-front.invariant
