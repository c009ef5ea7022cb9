use Rattle.std.proofs.Common.{[], ◌++◌, ◌∷◌, ap, subst, ◌∙◌, sym}
use Rattle.std.specs.Int.Digits.{AllBelowBase}
use Rattle.packed_writer.proofs.Filling.{no_bits, some_bits}
use Rattle.packed_writer.proofs.open.filled.Goals as goal

pub returns-then-len-eq0 : goal.returns-then-len-eq0
returns-then-len-eq0 c = no_bits c.args.bits c.push.new.self.items (sym c.len.ensures ∙ c.if-len-eq0.true) (c.in_ok-push.ensures.items ∙ ap (λ q. q ++ 0 ∷ []) c.new-octets.ensures.items)

pub returns : goal.returns
returns c =
    some_bits c.args.bits c.pad.new.self c.in_ok-octets.octets.items (λ e. c.if-len-eq0.false (c.len.ensures ∙ e)) c.in_ok-pad.ensures.ok c.in_ok-octets.ensures (subst (AllBelowBase 256) c.as_slice.ensures.value c.are_octets.ensures)
