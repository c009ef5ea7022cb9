use Rattle.ber_source.specs.Seen.{open_contents_of}
use Rattle.ber_source.proofs.Shorts.{inside}
use Rattle.ber_source.proofs.small.pass_short.Goals as goal

pub returns-clause-within : goal.returns-clause-within
returns-clause-within g c = record {
  here = (inside (open_contents_of c.args.place.now.here) c.requires.within.here c.requires.short.1.unit).rest;
  outer = c.requires.within.outer;
  suited = c.emit_short.ensures.suits c.args.place.now.code.now c.requires.within.suited;
}
