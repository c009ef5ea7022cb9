use Rattle.asnc.proofs.ReadBack.{refused_by}
use Rattle.asnc.proofs.unpacking.unpacked.Goals as goal

pub returns-in-Ok-clause-read : goal.returns-in-Ok-clause-read
returns-in-Ok-clause-read c = record {
  reads = c.in-Ok.ensures.reads;
  short = c.in-Ok.ensures.few;
  only = c.in-Ok.ensures.only;
}

pub returns-in-Err-clause-refused : goal.returns-in-Err-clause-refused
returns-in-Err-clause-refused c =
    refused_by c.args.code.now c.args.id.index c.args.octets.now c.read_uper.result c.in-Err.fault c.in-Err.is
    c.read_uper.ensures.read c.read_uper.ensures.limit c.read_uper.ensures.long c.read_uper.ensures.err c.read_uper.ensures.truncated
