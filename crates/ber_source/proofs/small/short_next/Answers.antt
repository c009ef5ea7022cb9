use Rattle.std.proofs.Common.{arith}
use Rattle.ber_source.specs.Seen.{outer_contents}
use Rattle.ber_source.proofs.Windows.{as_many}
use Rattle.ber_source.proofs.small.short_next.Goals as goal

pub returns-in-Ok : goal.returns-in-Ok
returns-in-Ok g c =
    let p = c.args.place.now in
    let m = as_many (outer_contents p.outer) in
    record {
      primitive = c.if-head.false;
      unit = c.in-Some.ensures;
      read = c.in-Ok.ensures.ok;
      has_budget = (let t = c.if-place-eq0.false in omega (arith, t));
      few_values = omega (arith, c.len.ensures, c.if-len-ge-MAX_OPEN.false);
      few_headers = omega (arith, m, c.len-2.ensures, c.if-len-ge-MAX_HEADERS.false);
    }
