use Rattle.std.proofs.Common.{arith, ap, refl, Err, length}
use Rattle.ber_reader.specs.Messages.{budget_of}
use Rattle.ber_reader.specs.Readings.{judged}
use Rattle.ber_reader.proofs.Leading.{at_last, closed, leads_there, never_leads}
use Rattle.ber_reader.proofs.Reading.{stop_some, stop_most, never_stops}
use Rattle.ber_reader.proofs.WholeMessage.{says_type}
use Rattle.ber_reader.proofs.place.locate_error.Goals as goal

pub returns-in_ok-enter-in-Ok-clause-is : goal.returns-in_ok-enter-in-Ok-clause-is
returns-in_ok-enter-in-Ok-clause-is c =
    judged (record {
      most = c.in_ok-most-in-Ok.most;
      stopped = c.in_ok-stop-in-Ok.stop;
      stop = c.in_ok-stop-in-Ok.ensures.is;
      part = c.in_ok-enter-in-Ok.ensures;
    })

pub returns-in_ok-enter-in-Ok-clause-innermost : goal.returns-in_ok-enter-in-Ok-clause-innermost
returns-in_ok-enter-in-Ok-clause-innermost c = λ r n.
    leads_there refl (c.in_ok-most-in-Ok.ensures.wrong r n) c.in_ok-stop-in-Ok.stop c.in_ok-stop-in-Ok.ensures.is (c.in_ok-stop-in-Ok.ensures.before r n.short) c.in_ok-enter-in-Ok.ensures

pub returns-in_ok-enter-in-Ok-clause-whole : goal.returns-in_ok-enter-in-Ok-clause-whole
returns-in_ok-enter-in-Ok-clause-whole c = λ e.
    let v = c.in-Ok.ensures.ok in
    at_last {z = v.read.last} v.place (closed v.message.shown) (c.in_ok-stop-in-Ok.ensures.whole v.read e.short (c.in_ok-most-in-Ok.ensures.right e)) c.in_ok-enter-in-Ok.ensures

pub returns-in_ok-enter-in-Ok-clause-first : goal.returns-in_ok-enter-in-Ok-clause-first
returns-in_ok-enter-in-Ok-clause-first c = λ none few. absurd (none _ c.in-Ok.ensures.ok.message)

pub returns-else-is_memory : goal.returns-else-is_memory
returns-else-is_memory c =
    let s = c.args.code.now in
    let o = c.args.octets.now in
    record {
      is = stop_some s c.args.id o _ c.stop_before-in-Err.result c.stop_before-in-Err.ensures.is;
      judged = λ r has few. never_stops s c.args.id o c.stop_before-in-Err.result
          (c.in-Err.ensures.err (λ e. c.is_memory.ensures c.if-is_memory.false e)
          (λ e. let f = c.in-Err.ensures.long (ap Err e) in omega (arith, f, few)) has r);
      first = λ none few. stop_most s c.args.id o _ (budget_of (length o)) c.stop_before-in-Err.result (c.most_values.ensures few) c.stop_before-in-Err.ensures.is;
      place = c.stop_before-in-Err.ensures.place;
      innermost = λ r n. let few = n.short in never_leads s c.args.id o r.last.emitted n.value c.stop_before-in-Err.result
          (c.in-Err.ensures.err (λ e. c.is_memory.ensures c.if-is_memory.false e)
          (λ e. let f = c.in-Err.ensures.long (ap Err e) in omega (arith, f, few)) (says_type n.is_encoded) r);
      whole = λ e. absurd (c.is_memory.ensures c.if-is_memory.false (c.in-Err.ensures.read e));
    }
