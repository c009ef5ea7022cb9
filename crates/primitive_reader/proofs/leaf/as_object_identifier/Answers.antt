use Rattle.std.proofs.Common.{refl}
use Rattle.asn_base.specs.Abstract.{oid}
use Rattle.primitive_reader.proofs.Decoding.{oid_contents}
use Rattle.primitive_reader.proofs.leaf.as_object_identifier.Goals as goal

pub returns-in-Ok-clause-ok : goal.returns-in-Ok-clause-ok
returns-in-Ok-clause-ok c =
    let a = c.in-Ok.ensures.ok in
    record { value = oid a.0; means = (a.0, refl, a.1, a.2); is_read = oid_contents c.args.contents.now a.0 a.1 a.2 }

pub returns-in-Err-clause-err : goal.returns-in-Err-clause-err
returns-in-Err-clause-err c = c.in-Err.ensures.err
