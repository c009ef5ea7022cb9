use Rattle.std.proofs.Common.{length, ◌++◌}
use Rattle.header_listing.proofs.Parts.{header_at}
use Rattle.header_listing.proofs.first.first_encoding.Goals as goal

pub returns-in-Err-clause-none : goal.returns-in-Err-clause-none
returns-in-Err-clause-none c = λ t d i z x r f. c.lemma_one_front.ensures.either c.in-Err.field-0 t d (length x) (length (i ++ z)) c.args.octets.now c.in-Err.ensures.err (header_at f)
