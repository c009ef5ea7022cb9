use Rattle.std.proofs.Common.{arith, ◌≡◌, ◌+◌, ◌-◌, ◌*◌, ◌<◌, false, length, get_or, ap, sym, ◌∙◌}
use Rattle.std.proofs.lemmas.Grind.{get_or_default_zero}
use Rattle.asn_base.specs.Abstract.{bits_of_octet}
use Rattle.asn_base.proofs.BitSteps.{bit_at}
use Rattle.asn_base.proofs.bits.bit.Goals.{else-octet-count-2-via-then-octet-count-2+else-place-bits, else-octet-count-2-via-else-octet-count-2}
use Rattle.asn_base.proofs.bits.bit.Goals as goal

pub returns : goal.returns
returns c =
    let o = c.args.bits.now.octets.items in
    let many : c.len-count.result ≡ length c.args.bits.now.octets.items = grind arith in
    let few : c.args.bits.now.unused < 8 = c.args.bits.now.few_unused in
    let l : c.args.octet < length c.args.bits.now.octets.items = omega (arith, many, c.if-octet-count.false) in
    let within : 8 * c.args.octet + c.args.place < 8 * length c.args.bits.now.octets.items - c.args.bits.now.unused =
    elim c.else-octet-count-2.branch [
      | else-octet-count-2-via-then-octet-count-2+else-place-bits w ↦ omega (arith, many, few, w.if-place-bits.false, w.if-octet-count-2.true)
      | else-octet-count-2-via-else-octet-count-2 w ↦ omega (arith, many, few, c.requires, w.if-octet-count-2.false)
    ] in
    let zero_for = get_or_default_zero o c.args.octet c.index.result.now l in
    c.bit_of_octet.ensures
    ∙ ap (λ x. get_or (bits_of_octet x) c.args.place false) (c.index.ensures ∙ zero_for)
    ∙ sym (bit_at o c.args.bits.now.unused c.args.octet c.args.place c.requires l within)
