use Rattle.std.proofs.Common.{arith, ◌≡◌, ◌≤◌, ◌-◌, ◌∙◌, length, sym}
use Rattle.asn_base.specs.Abstract.{abstract}
use Rattle.bits.specs.Left.{bits_left}
use Rattle.packed_reader.proofs.MessageRun.{decode_ok, decode_stop, message_room}
use Rattle.packed_reader.proofs.message.decode.Goals as goal

pub read_message-requires-clause-room : goal.read_message-requires-clause-room
read_message-requires-clause-room c =
    let h = c.if-octets-gt-MAX_MESSAGE.false in
    let few : length c.args.octets.now ≤ 16777216 = omega (arith, h) in
    message_room c.args.octets.now (bits_left c.of-bits.result) few c.of-bits.ensures

pub returns-in-Ok-clause-ok : goal.returns-in-Ok-clause-ok
returns-in-Ok-clause-ok c =
    let s = c.args.code.now in
    let t = c.args.id.index in
    let h = c.if-octets-gt-MAX_MESSAGE.false in
    let few : length c.args.octets.now ≤ 16777216 = omega (arith, h) in
    decode_ok s t (λ n b. c.step_laws.ensures s 64 t n b c.lemma_invariant.ensures) c.args.octets.now (bits_left c.of-bits.result) (abstract c.in-Ok.value) c.read_message.new.progress.skipped c.read_message.new.progress.left
    (sym c.is_empty.ensures ∙ c.if-is_empty.false) few c.of-bits.ensures c.in-Ok.ensures.ok

pub returns-in-Err-clause-err : goal.returns-in-Err-clause-err
returns-in-Err-clause-err c =
    let s = c.args.code.now in
    let t = c.args.id.index in
    let h = c.if-octets-gt-MAX_MESSAGE.false in
    let few : length c.args.octets.now ≤ 16777216 = omega (arith, h) in
    let b = bits_left c.of-bits.result in
    let r = bits_left c.read_message.new.bits in
    let a = c.len-all.ensures in
    let d = c.len.ensures in
    let q = c.saturating_sub.ensures in
    let j : c.saturating_sub.result ≡ length b - length r = omega (arith, a, d, q) in
    decode_stop s t (λ n y. c.step_laws.ensures s 64 t n y c.lemma_invariant.ensures) c.args.octets.now b r c.in-Err.stop c.saturating_sub.result c.refusal_at.result
    (sym c.is_empty.ensures ∙ c.if-is_empty.false) few c.of-bits.ensures c.in-Err.ensures.err j c.refusal_at.ensures
