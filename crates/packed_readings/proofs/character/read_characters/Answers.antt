use Rattle.std.proofs.Common.{arith, ◌-◌, ◌≡◌, subst}
use Rattle.bits.specs.Left.{bits_left}
use Rattle.packed_readings.specs.Leaves.{character_from}
use Rattle.packed_readings.specs.proving.Progress.{Added, Faults}
use Rattle.packed_readings.proofs.Steps.{added_none, added_more, added_all, added_fault}
use Rattle.packed_readings.proofs.character.read_characters.Goals as goal

pub loop-left-init : goal.loop-left-init
loop-left-init c = record {
  few = omega arith;
  added = subst (λ q. Added (character_from c.args.alphabet.now) q (bits_left c.args.bits.now) c.args.out.now.items c.args.out.now.items (bits_left c.args.bits.now)) (let k : 0 ≡ c.args.count - c.args.count = omega arith in k) (added_none (character_from c.args.alphabet.now) (bits_left c.args.bits.now) c.args.out.now.items);
}

pub returns-in-Err-clause-err : goal.returns-in-Err-clause-err
returns-in-Err-clause-err c =
    added_fault (character_from c.args.alphabet.now) (c.args.count - c.loop-left.left) c.loop-left.left c.args.count (bits_left c.args.bits.now) (bits_left c.loop-left.bits)
    (bits_left c.read_next.new.bits) c.args.out.now.items c.loop-left.out.items c.in-Err.fault c.loop-left.invariant.added
    (subst (λ q. Faults (character_from q) c.loop-left.left (bits_left c.loop-left.bits) c.in-Err.fault (bits_left c.read_next.new.bits)) c.alphabet_of-known.ensures c.in-Err.ensures.err)
    (omega (arith, c.loop-left.invariant.few))

pub loop-left-preserved : goal.loop-left-preserved
loop-left-preserved c = record {
  few = omega (arith, c.loop-left.invariant.few);
  added =
      added_more (character_from c.args.alphabet.now) (c.args.count - c.loop-left.left) c.in-Ok.taken (c.args.count - (c.loop-left.left - c.in-Ok.taken))
      (bits_left c.args.bits.now) (bits_left c.loop-left.bits) (bits_left c.read_next.new.bits) c.args.out.now.items c.loop-left.out.items c.read_next.new.out.items
      c.loop-left.invariant.added
      (subst (λ q. Added (character_from q) c.in-Ok.taken (bits_left c.loop-left.bits) c.loop-left.out.items c.read_next.new.out.items (bits_left c.read_next.new.bits)) c.alphabet_of-known.ensures c.in-Ok.ensures.ok)
      (omega (arith, c.loop-left.invariant.few, c.in-Ok.ensures.some.1));
}

pub returns-clause-ok : goal.returns-clause-ok
returns-clause-ok c =
    added_all (character_from c.args.alphabet.now) (c.args.count - c.loop-left.left) c.args.count (bits_left c.args.bits.now) (bits_left c.loop-left.bits) c.args.out.now.items
    c.loop-left.out.items c.loop-left.invariant.added (omega (arith, c.loop-left-test.false))
