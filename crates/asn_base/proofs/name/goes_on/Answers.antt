use Rattle.std.proofs.Common.{◌+◌, drop, get_or, sym, ap, ◌∙◌}
use Rattle.asn_base.specs.Names.{goes_on}
use Rattle.asn_base.proofs.Naming.{goes_end, goes_more, goes_not}
use Rattle.asn_base.proofs.name.goes_on.Goals as goal
use Rattle.asn_base.specs.proving.Lists.{drop_here, drop_past}

pub returns-in-None : goal.returns-in-None
returns-in-None c =
    sym (c.loop-i.invariant ∙ ap (goes_on c.loop-i.after_hyphen) (drop_here c.args.octets.now c.loop-i.i 0 c.loop-i-test.true)
    ∙ goes_not c.loop-i.after_hyphen (get_or c.args.octets.now c.loop-i.i 0) (drop (c.loop-i.i + 1) c.args.octets.now) (sym c.next_flag.ensures ∙ c.in-None.is))

pub loop-i-preserved : goal.loop-i-preserved
loop-i-preserved c =
    c.loop-i.invariant ∙ ap (goes_on c.loop-i.after_hyphen) (drop_here c.args.octets.now c.loop-i.i 0 c.loop-i-test.true)
    ∙ goes_more c.loop-i.after_hyphen (get_or c.args.octets.now c.loop-i.i 0) (drop (c.loop-i.i + 1) c.args.octets.now) c.in-Some.hyphen (sym c.next_flag.ensures ∙ c.in-Some.is)

pub returns : goal.returns
returns c =
    sym (c.loop-i.invariant ∙ ap (goes_on c.loop-i.after_hyphen) (drop_past c.args.octets.now c.loop-i.i c.loop-i-test.false) ∙ goes_end c.loop-i.after_hyphen)
