use Rattle.std.specs.Prelude.{string_bytes}
use Rattle.asn_base.specs.Seen.{constraint_of}
use Rattle.packed_readings.proofs.LeavesRead.{utf8_none, utf8_read, utf8_refused}
use Rattle.packed_readings.proofs.text.utf8.Goals as goal

pub returns-in-None-clause-err : goal.returns-in-None-clause-err
returns-in-None-clause-err c = utf8_none (constraint_of c.args.constraint.now) c.args.octets.items c.in-None.ensures.none

pub returns-then-not-has_allowed_length-clause-err : goal.returns-then-not-has_allowed_length-clause-err
returns-then-not-has_allowed_length-clause-err c =
    utf8_refused (constraint_of c.args.constraint.now) c.args.octets.items (string_bytes c.in-Some.text) c.as_str.result.now c.has_allowed_length.result
    c.in-Some.ensures.some.0 c.as_str.ensures.value c.has_allowed_length.ensures c.if-not-has_allowed_length.true

pub returns-clause-ok : goal.returns-clause-ok
returns-clause-ok c =
    utf8_read (constraint_of c.args.constraint.now) c.args.octets.items (string_bytes c.in-Some.text) c.as_str.result.now c.has_allowed_length.result
    c.in-Some.ensures.some.0 c.in-Some.ensures.some.1 c.as_str.ensures.value c.has_allowed_length.ensures c.if-not-has_allowed_length.false
