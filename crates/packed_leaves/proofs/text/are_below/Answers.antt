use Rattle.std.proofs.Common.{◌≡◌, ◌^◌, ap, ◌∙◌, nat_lt, slice_index, length, ◌-◌, arith}
use Rattle.packed_leaves.proofs.Texts.{small_power, last_is}
use Rattle.packed_leaves.proofs.text.are_below.Goals as goal

pub returns : goal.returns
returns c =
    let n : length c.args.codes.now ≡ 0 → ⊥ = λ e. (let f = c.if-is_empty.false in grind (arith, e, f)) in
    ap (nat_lt (slice_index c.args.codes.now (length c.args.codes.now - 1))) (small_power c.args.width c.requires.small) ∙ last_is (2 ^ c.args.width) c.args.codes.now n c.requires.ascend
