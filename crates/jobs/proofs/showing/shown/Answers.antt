use Rattle.std.proofs.Common.{subst}
use Rattle.asnc.specs.Showing.{IsShownAs}
use Rattle.jobs.proofs.showing.shown.Goals as goal

-- the name of the type is that of the job
pub returns-in-Ok-listing_output-clause-printed : goal.returns-in-Ok-listing_output-clause-printed
returns-in-Ok-listing_output-clause-printed c = record {
  listing = c.in-Ok.listing;
  shown = subst (λ t. IsShownAs c.args.kit.now.program c.args.kit.now.types t c.args.octets.now c.in-Ok.listing)
      c.as_str.ensures.value c.in-Ok.ensures.shown;
  printed = c.in-Ok-listing_output.ensures.printed;
}
