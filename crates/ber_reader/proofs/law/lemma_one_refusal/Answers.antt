use Rattle.octets.specs.declared.header_fault.HeaderFault.TheVariants.{Truncated}
use Rattle.std.proofs.Common.{length}
use Rattle.ber_reader.specs.Messages.{budget_of}
use Rattle.ber_reader.proofs.WholeMessage.{headed}
use Rattle.ber_reader.proofs.Refused.{refused_once, refused_or_read}
use Rattle.ber_reader.proofs.law.lemma_one_refusal.Goals as goal

pub returns-clause-once : goal.returns-clause-once
returns-clause-once c = refused_once c.lemma_stops_once.ensures.once c.lemma_stops_once.ensures.either

pub returns-clause-either : goal.returns-clause-either
returns-clause-either c s t o e schema below short type refused read =
    let i = c.lemma_read_is_encoded.ensures s t o (budget_of (length o)) read.last schema type below read.reads in
    let u = c.lemma_encoded_is_read.ensures.unit s t.index i.count i.value i.octets schema i.is_encoded in
    let h = headed read.last.here.octets o u i.whole short in
    refused_or_read c.lemma_stops_once.ensures.either c.lemma_stops_once.ensures.reading s t o e short type
    (λ x. c.lemma_one_front.ensures.either Truncated h.tag h.constructed h.count h.size o x h.header) refused read
