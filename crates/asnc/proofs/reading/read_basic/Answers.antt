use Rattle.encodings.specs.Rules.{Basic}
use Rattle.ber_reader.specs.Readings.{IsRefused}
use Rattle.asnc.proofs.MessagesRead.{unread_by, of_any}
use Rattle.asnc.proofs.reading.read_basic.Goals as goal

pub returns-in-Ok-clause-read : goal.returns-in-Ok-clause-read
returns-in-Ok-clause-read c = record { reading = c.in-Ok.ensures.ok; only = λ w j e. c.in-Ok.ensures.only w j e; by_rules = c.in-Ok.ensures.ok.encodes.says_it }

pub returns-in-Err-clause-refused : goal.returns-in-Err-clause-refused
returns-in-Err-clause-refused c = λ n.
    unread_by c.args.code.now Basic c.args.id.index c.args.octets.now c.read_ber.result c.in-Err.fault c.in-Err.is n
    (λ i a. c.read_ber.ensures.read i) (λ i a. absurd (a i.is_encoded)) (λ m. absurd (c.read_ber.ensures.not_der m))
    c.read_ber.ensures.limit c.read_ber.ensures.long c.read_ber.ensures.more c.read_ber.ensures.trailing c.read_ber.ensures.truncated_value
    (of_any (IsRefused c.args.code.now c.args.id c.args.octets.now) c.read_ber.result c.read_ber.ensures.refused)
