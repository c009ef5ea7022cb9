use Rattle.encodings.proofs.Headers.{shortest_is, shortest_only, shortest_least}
use Rattle.encodings.proofs.TagLaws.{one_header}
use Rattle.encodings.proofs.header_law.header_laws.Goals as goal

pub returns : goal.returns
returns c = record { is = shortest_is; only = shortest_only; none_begins_another = one_header; least = shortest_least }
