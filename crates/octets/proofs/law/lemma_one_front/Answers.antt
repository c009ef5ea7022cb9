use Rattle.octets.proofs.OneFront.{one_header, one_fault, never_both}
use Rattle.octets.proofs.law.lemma_one_front.Goals as goal

pub returns : goal.returns
returns c =
    let p = c.part_laws.ensures in
    let h = c.header_laws.ensures.none_begins_another in
    record {
      header = one_header p.identifiers p.lengths h;
      fault = one_fault p.identifiers p.lengths h;
      either = never_both p.identifiers p.lengths h;
    }
