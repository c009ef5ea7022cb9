use Rattle.std.proofs.Common.{arith, ◌≡◌, ◌/◌, ◌%◌, ◌<◌, ◌++◌, length, take, sym, ap, ◌∙◌, append_assoc}
use Rattle.std.specs.Prelude.{slice_index}
use Rattle.bits.specs.Words.{octet_bits, low_bits}
use Rattle.packed_leaves.proofs.Front.{whole_only, with_rest}
use Rattle.packed_leaves.proofs.bit_string.push_first.Goals as goal

pub returns-in_ok-push_word : goal.returns-in_ok-push_word
returns-in_ok-push_word c =
    let n = c.args.count in
    let o = c.args.octets.now in
    let front = octet_bits (take (n / 8) o) in
    let l : n / 8 < length o = let k = c.requires in let r = c.if-rest-gt0.true in omega (arith, k, r) in
    c.in_ok-push_word.ensures.ok ∙ ap (λ q. c.push_octets.new.self ++ q) c.high_bits.ensures
    ∙ ap (λ q. q ++ take (n % 8) (low_bits 8 (slice_index o (n / 8)))) (c.in_ok-push_octets.ensures.ok ∙ ap (λ q. c.args.out.now ++ octet_bits q) c.front.ensures)
    ∙ append_assoc c.args.out.now front (take (n % 8) (low_bits 8 (slice_index o (n / 8))))
    ∙ ap (λ q. c.args.out.now ++ q) (sym (with_rest n o l))

pub returns-else-rest-gt0 : goal.returns-else-rest-gt0
returns-else-rest-gt0 c =
    let z : c.args.count % 8 ≡ 0 = let r = c.if-rest-gt0.false in omega (arith, r) in
    c.in_ok-push_octets.ensures.ok ∙ ap (λ q. c.args.out.now ++ octet_bits q) c.front.ensures ∙ ap (λ q. c.args.out.now ++ q) (sym (whole_only c.args.count c.args.octets.now z))
