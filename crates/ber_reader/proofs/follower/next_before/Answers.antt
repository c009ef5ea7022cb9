use Rattle.std.proofs.Common.{ap, sym, ◌∙◌}
use Rattle.std.specs.Prelude.{None}
use Rattle.ber_source.specs.Log.{logged}
use Rattle.ber_reader.specs.Followed.{found_by}
use Rattle.ber_reader.specs.Opened.{opens}
use Rattle.ber_reader.specs.Paths.{begun_in}
use Rattle.ber_reader.proofs.Led.{found_is}
use Rattle.ber_reader.proofs.follower.next_before.Goals as goal

pub returns-then-leads : goal.returns-then-leads
returns-then-leads c = λ s h.
    let p = c.args.receiver.now in
    let k = c.in_ok-begun.begun in
    ap (λ q. found_by q k None) (sym c.if-leads.true)
    ∙ found_is c.args.path.now _ (opens (logged p.log)) c.leads.result k (begun_in (logged p.log)) c.args.before c.in-None.is c.leads.ensures
    (c.as_slice.ensures.value ∙ (h c.in_ok-begun.ensures.sound).opened) (c.in_ok-begun.ensures.begun s h)

pub returns-else-leads : goal.returns-else-leads
returns-else-leads c = λ s h.
    let p = c.args.receiver.now in
    let k = c.in_ok-begun.begun in
    ap (λ q. found_by q k None) (sym c.if-leads.false)
    ∙ found_is c.args.path.now _ (opens (logged p.log)) c.leads.result k (begun_in (logged p.log)) c.args.before c.in-None.is c.leads.ensures
    (c.as_slice.ensures.value ∙ (h c.in_ok-begun.ensures.sound).opened) (c.in_ok-begun.ensures.begun s h)
