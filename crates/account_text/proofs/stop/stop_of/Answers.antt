use Rattle.std.proofs.Common.{Err, sym, ap, subst, ◌∙◌}
use Rattle.std.specs.Str.{IsValidUpTo}
use Rattle.account_text.specs.Stops.{not_text}
use Rattle.account_text.proofs.Stops.{no_array, after_rows, no_row}
use Rattle.account_text.proofs.stop.stop_of.Goals as goal

pub returns-in-Err : goal.returns-in-Err
returns-in-Err c = not_text (subst (IsValidUpTo c.args.octets.now) (sym c.valid_up_to.ensures) c.in-Err.ensures.cases.1)

pub returns-then-not-take_begin_array : goal.returns-then-not-take_begin_array
returns-then-not-take_begin_array c =
    no_array c.args.octets.now c.in-Ok.text.now c.in-Ok.ensures.cases.0 c.in-Ok-new.reader c.take_begin_array.new.reader
    c.in-Ok-new.ensures.ok c.in-Ok.ensures.cases.1 c.if-not-take_begin_array.ensures

pub returns-in-Ok-rows : goal.returns-in-Ok-rows
returns-in-Ok-rows c =
    after_rows c.args.octets.now c.in-Ok.text.now c.in-Ok.ensures.cases.0 c.in-Ok-new.reader c.take_begin_array.new.reader
    c.in-Ok-new.ensures.ok c.if-not-take_begin_array.ensures c.rows.new.found.items c.len.result (c.len.ensures ∙ c.rows.new.found.ok.0)
    c.rows.new.reader c.after_rows.result c.in-Ok-rows.ensures.read.0 c.in-Ok-rows.ensures.read.1
    c.after_rows.ensures

pub returns : goal.returns
returns c =
    no_row c.args.octets.now c.in-Ok.text.now c.in-Ok.ensures.cases.0 c.in-Ok-new.reader c.take_begin_array.new.reader
    c.in-Ok-new.ensures.ok c.if-not-take_begin_array.ensures c.rows.new.found.items c.len-row.result (c.len-row.ensures ∙ c.rows.new.found.ok.0)
    c.offset_within-offset.result
    c.offset_within-offset.ensures (c.in-Err-NotAccount.ensures.stops (ap Err c.in-Err-NotAccount.field-0-is))
