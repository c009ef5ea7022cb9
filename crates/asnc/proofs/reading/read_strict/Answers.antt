use Rattle.std.proofs.Common.{refl}
use Rattle.asnc.proofs.MessagesRead.{unread_by}
use Rattle.asnc.proofs.reading.read_strict.Goals as goal

pub returns-in-Ok-clause-read : goal.returns-in-Ok-clause-read
returns-in-Ok-clause-read c =
    let q = c.in-Ok.ensures.ok in
    record { reading = q.reading; only = λ w j e. c.in-Ok.ensures.only w j e; by_rules = q.strict }

pub returns-in-Err-clause-refused : goal.returns-in-Err-clause-refused
returns-in-Err-clause-refused c = λ n.
    unread_by c.args.code.now _ c.args.id.index c.args.octets.now c.read_der.result c.in-Err.fault c.in-Err.is n
    c.read_der.ensures.read c.read_der.ensures.basic (λ m. (let d = c.read_der.ensures.not_der m in (refl, record { is = d.0; not_strict = d.1 })))
    c.read_der.ensures.limit c.read_der.ensures.long c.read_der.ensures.more c.read_der.ensures.trailing c.read_der.ensures.truncated_value c.read_der.ensures.refused
