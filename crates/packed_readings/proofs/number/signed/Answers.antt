use Rattle.std.proofs.Common.{length, sym}
use Rattle.std.proofs.lemmas.Bool.{eqb-false}
use Rattle.packed_readings.proofs.Shortest.{signed_past, signed_good, signed_long}
use Rattle.packed_readings.proofs.number.signed.Goals as goal

pub returns-in-Ok-Int-clause-ok : goal.returns-in-Ok-Int-clause-ok
returns-in-Ok-Int-clause-ok c = signed_good c.args.octets.now _ c.in-Ok-Int.field-0-is c.in-Ok-Int.ensures.ok

pub returns-in-Err-IntegerLimit-clause-err : goal.returns-in-Err-IntegerLimit-clause-err
returns-in-Err-IntegerLimit-clause-err c =
    signed_past c.args.octets.now c.in-Err-IntegerLimit.field-0-is c.in-Err-IntegerLimit.ensures.err

pub returns-in-Err-BadContents-clause-err : goal.returns-in-Err-BadContents-clause-err
returns-in-Err-BadContents-clause-err c =
    signed_long c.args.octets.now (eqb-false (length c.args.octets.now) 0 (sym c.if-is_empty.ensures)) c.are_octets.ensures c.in-Err-BadContents.field-0-is c.in-Err-BadContents.ensures.err
