use Rattle.std.proofs.Common.{string_bytes}
use Rattle.diagnostics.proofs.Places.{part, whole}
use Rattle.diagnostics.proofs.describe_readings.at_unit.Goals as goal

pub returns-then-is_empty : goal.returns-then-is_empty
returns-then-is_empty c =
    whole c.args.unit.now c.args.place c.args.path.now (string_bytes c.in_ok-words.words) c.is_empty.result
    c.format.result c.is_empty.ensures c.if-is_empty.true c.format.ensures.ok

pub returns : goal.returns
returns c =
    part c.args.unit.now c.args.place c.args.path.now (string_bytes c.in_ok-path.path)
    (string_bytes c.in_ok-words.words) c.is_empty.result c.format-2.result c.is_empty.ensures c.if-is_empty.false
    c.in_ok-path.ensures.text c.format-2.ensures.ok
