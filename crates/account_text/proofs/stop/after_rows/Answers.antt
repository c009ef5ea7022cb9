use Rattle.std.proofs.Common.{sym, ◌∙◌}
use Rattle.account_text.proofs.Stops.{more_after, all_after}
use Rattle.account_text.proofs.Texts.{ended}
use Rattle.account_text.proofs.stop.after_rows.Goals as goal

pub returns-then-is_some : goal.returns-then-is_some
returns-then-is_some c =
    more_after c.args.octets c.args.rows c.offset_within.result c.next.result c.args.reader.now c.next.new.self
    c.offset_within.ensures c.next.ensures.value (sym c.is_some.ensures ∙ c.if-is_some.true)

pub returns : goal.returns
returns c =
    all_after c.args.octets c.args.rows c.args.reader.now
    (ended c.next.result c.args.reader.now c.next.new.self c.next.ensures.value (sym c.is_some.ensures ∙ c.if-is_some.false))
