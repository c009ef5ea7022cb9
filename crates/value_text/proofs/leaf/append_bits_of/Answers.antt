use Rattle.std.proofs.Common.{arith, ◌≡◌, ◌+◌, ◌<◌, length}
use Rattle.value_text.proofs.Bits.{at_last, before_last}
use Rattle.value_text.proofs.leaf.append_bits_of.Goals as goal
use Rattle.value_text.proofs.leaf.append_bits_of.Goals.{then-i-octets, else-i-octets}

pub loop-i-preserved : goal.loop-i-preserved
loop-i-preserved c =
    let os = c.args.octets.now in
    let lt : c.loop-i.i < length os = c.loop-i-test.true in
    elim c.if-i-octets.branch [
      | then-i-octets w ↦
          at_last os c.args.unused c.loop-i.i c.if-i-octets.count _ _ _ lt c.loop-i.invariant c.in_ok-append_octet_bits.ensures w.if-i-octets.true w.count-is
      | else-i-octets w ↦
          let no : c.loop-i.i + 1 ≡ length os → ⊥ = w.if-i-octets.false in
          let more : c.loop-i.i + 1 < length os = grind (arith) in
          before_last os c.args.unused c.loop-i.i c.if-i-octets.count _ _ _ lt c.loop-i.invariant c.in_ok-append_octet_bits.ensures c.requires.few_unused more w.count-is
    ]
