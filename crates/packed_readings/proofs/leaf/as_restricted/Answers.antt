use Rattle.std.specs.Prelude.{string_bytes}
use Rattle.asn_base.specs.Abstract.{abstract}
use Rattle.asn_base.specs.Seen.{constraint_of}
use Rattle.asn_base.specs.declared.value.Value.TheVariants.{Text}
use Rattle.bits.specs.Left.{bits_left}
use Rattle.packed_readings.proofs.LeavesRead.{text_answer, text_fault}
use Rattle.packed_readings.proofs.leaf.as_restricted.Goals as goal

pub returns-in-Ok-clause-ok : goal.returns-in-Ok-clause-ok
returns-in-Ok-clause-ok c =
    text_answer c.as_slice.result.now c.args.alphabet.now.items (constraint_of c.args.constraint.now) (bits_left c.args.bits.now)
    (bits_left c.read_restricted_string.new.bits) (string_bytes c.in-Ok.text) (abstract (Text c.in-Ok.text)) c.as_slice.ensures.value c.in-Ok.ensures.ok
    (c.lemma_abstract_values.ensures.text_ c.in-Ok.text)

pub returns-in-Err-clause-err : goal.returns-in-Err-clause-err
returns-in-Err-clause-err c =
    text_fault c.as_slice.result.now c.args.alphabet.now.items (constraint_of c.args.constraint.now) (bits_left c.args.bits.now)
    (bits_left c.read_restricted_string.new.bits) c.in-Err.fault c.as_slice.ensures.value c.in-Err.ensures.err
