use Rattle.octets.specs.Forms.{is_constructed}
use Rattle.octets.proofs.Standing.{header_holds, contents_cut, identifier_holds, size_holds, no_longer}
use Rattle.octets.proofs.read.header_at.Goals as goal

pub returns-in-Err-clause-err : goal.returns-in-Err-clause-err
returns-in-Err-clause-err c = identifier_holds c.in-Err.fault c.args.octets.now c.in-Err.ensures.err

pub returns-in-Err-read_size-clause-err : goal.returns-in-Err-read_size-clause-err
returns-in-Err-read_size-clause-err c = size_holds c.in-Err-read_size.fault c.in-Ok.read.0 (is_constructed c.in-Ok.read.1) c.in-Ok.read.2.now c.args.octets.now c.in-Ok.ensures.ok c.in-Err-read_size.ensures.err

pub returns-then-after-contents-clause-err : goal.returns-then-after-contents-clause-err
returns-then-after-contents-clause-err c = contents_cut c.in-Ok.read.0 (is_constructed c.in-Ok.read.1) c.in-Ok-read_size.read.0 c.in-Ok-read_size.read.1.now c.in-Ok.read.2.now c.args.octets.now c.in-Ok.ensures.ok c.in-Ok-read_size.ensures.ok c.if-after-contents.true

pub overflow_sub-result : goal.overflow_sub-result
overflow_sub-result c = no_longer c.in-Ok.read.0 (is_constructed c.in-Ok.read.1) c.in-Ok-read_size.read.0 c.in-Ok-read_size.read.1.now c.in-Ok.read.2.now c.args.octets.now c.in-Ok.ensures.ok c.in-Ok-read_size.ensures.ok

pub returns-clause-ok : goal.returns-clause-ok
returns-clause-ok c = header_holds c.in-Ok.read.0 (is_constructed c.in-Ok.read.1) c.in-Ok-read_size.read.0 c.in-Ok-read_size.read.1.now c.in-Ok.read.2.now c.args.octets.now c.in-Ok.ensures.ok c.in-Ok-read_size.ensures.ok c.if-after-contents.false
