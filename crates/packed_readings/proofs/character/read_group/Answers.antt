use Rattle.std.proofs.Common.{arith, ◌≡◌, subst}
use Rattle.bits.specs.Left.{bits_left}
use Rattle.packed_readings.specs.Leaves.{character_from}
use Rattle.packed_readings.specs.proving.Progress.{Added}
use Rattle.packed_readings.proofs.Known.{first_known, next_known, later_known}
use Rattle.packed_readings.proofs.Steps.{added_none, added_one, added_stops}
use Rattle.packed_readings.proofs.character.read_group.Goals as goal

pub loop-i-init : goal.loop-i-init
loop-i-init c = record {
  added = added_none (character_from c.args.alphabet.codes.now) (bits_left c.args.bits.now) c.args.out.now.items;
  known = first_known c.args.count c.args.alphabet.width c.take-number.result (bits_left c.args.bits.now) (bits_left c.take-number.new.self) c.take-number.ensures.taken;
}

pub take_known-requires-clause-known : goal.take_known-requires-clause-known
take_known-requires-clause-known c =
    next_known c.args.count c.loop-i.i c.args.alphabet.width c.take-number.result (bits_left c.loop-i.bits) c.loop-i-test.true c.loop-i.invariant.known

pub returns-in-Err-clause-err : goal.returns-in-Err-clause-err
returns-in-Err-clause-err c = λ n l.
    added_stops (character_from c.args.alphabet.codes.now) c.loop-i.i n (bits_left c.args.bits.now) (bits_left c.loop-i.bits)
    (bits_left c.take_known.new.bits) c.args.out.now.items c.loop-i.out.items c.in-Err.refusal c.loop-i.invariant.added (omega (arith, c.loop-i-test.true, l)) c.in-Err.ensures.is

pub loop-i-preserved : goal.loop-i-preserved
loop-i-preserved c = record {
  added =
      added_one (character_from c.args.alphabet.codes.now) c.loop-i.i (bits_left c.args.bits.now) (bits_left c.loop-i.bits) (bits_left c.take_known.new.bits)
      c.args.out.now.items c.loop-i.out.items c.push.new.self.items c.in-Ok.code c.loop-i.invariant.added c.in-Ok.ensures.is c.in-Ok-push.ensures.items;
  known =
      later_known c.args.count c.loop-i.i c.args.alphabet.width c.take-number.result (bits_left c.loop-i.bits) c.loop-i-test.true c.loop-i.invariant.known
      (bits_left c.take_known.new.bits) c.in-Ok.ensures.taken;
}

pub returns-clause-ok : goal.returns-clause-ok
returns-clause-ok c =
    let e : c.loop-i.i ≡ c.args.count = omega (arith, c.loop-i-test.false, c.loop-i.auto.i-end) in
    subst (λ q. Added (character_from c.args.alphabet.codes.now) q (bits_left c.args.bits.now) c.args.out.now.items c.loop-i.out.items (bits_left c.loop-i.bits)) e c.loop-i.invariant.added
