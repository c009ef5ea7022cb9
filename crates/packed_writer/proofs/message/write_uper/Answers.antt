use Rattle.std.proofs.Common.{◌≡◌, ◌≤◌, ◌<◌, ◌++◌, length, sym, ap, subst, ◌∙◌, arith, inr}
use Rattle.asn_base.specs.Abstract.{abstract}
use Rattle.asn_base.specs.Typed.{IsValue}
use Rattle.packed_encodings.specs.Computed.{bits_of}
use Rattle.packed_encodings.specs.Packing.{Packed}
use Rattle.packed_writer.proofs.Messages.{message, longer}
use Rattle.packed_writer.proofs.message.write_uper.Goals as goal

pub returns-then-len-gt-MAX_MESSAGE-clause-longer : goal.returns-then-len-gt-MAX_MESSAGE-clause-longer
returns-then-len-gt-MAX_MESSAGE-clause-longer c = λ e.
    let s = c.args.code.now in
    let t = c.args.id.index in
    let v = abstract c.args.value.now in
    let a : IsValue s t v = subst (λ q. IsValue q t v) c.schema.ensures (c.is_value.ensures.0 c.if-not-is_value.false) in
    let x : c.push_value.new.out ≡ bits_of s v t = c.in_ok-push_value.ensures ∙ ap (λ q. q ++ bits_of s v t) c.new-bits.ensures in
    let k : Packed s t v c.push_value.new.out = subst (Packed s t v) (sym x) (c.computing_laws.ensures.packed s t v c.lemma_invariant.ensures a.shaped) in
    let n : c.len.result ≡ length c.in_ok-octets.octets.items = grind arith in
    let l : 16777216 < length c.in_ok-octets.octets.items = let g = c.if-len-gt-MAX_MESSAGE.true in omega (arith, n, g) in
    inr (longer c.writing_laws.ensures.one_list c.message_laws.ensures.one_filling s t v c.push_value.new.out c.in_ok-octets.octets.items c.lemma_invariant.ensures (c.lemma_sameness.ensures.itself s t v a.shaped) k c.in_ok-octets.ensures l)

pub returns-clause-message : goal.returns-clause-message
returns-clause-message c =
    let s = c.args.code.now in
    let t = c.args.id.index in
    let v = abstract c.args.value.now in
    let a : IsValue s t v = subst (λ q. IsValue q t v) c.schema.ensures (c.is_value.ensures.0 c.if-not-is_value.false) in
    let x : c.push_value.new.out ≡ bits_of s v t = c.in_ok-push_value.ensures ∙ ap (λ q. q ++ bits_of s v t) c.new-bits.ensures in
    let k : Packed s t v c.push_value.new.out = subst (Packed s t v) (sym x) (c.computing_laws.ensures.packed s t v c.lemma_invariant.ensures a.shaped) in
    let n : c.len.result ≡ length c.in_ok-octets.octets.items = grind arith in
    let l : length c.in_ok-octets.octets.items ≤ 16777216 = let g = c.if-len-gt-MAX_MESSAGE.false in omega (arith, n, g) in
    message c.writing_laws.ensures.one_list c.message_laws.ensures.one_filling s t v c.push_value.new.out c.in_ok-octets.octets.items c.lemma_invariant.ensures (c.lemma_sameness.ensures.itself s t v a.shaped) a (c.is_light.ensures.light c.if-not-is_light.false) k c.in_ok-octets.ensures l
