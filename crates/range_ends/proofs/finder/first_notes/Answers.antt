use Rattle.range_ends.proofs.Marks.{none_right, right_push, itself}
use Rattle.range_ends.proofs.finder.first_notes.Goals as goal

pub loop-value-init : goal.loop-value-init
loop-value-init c = λ p os. none_right p os c.new-all.result.items c.new-all.ensures.items

pub loop-value-preserved : goal.loop-value-preserved
loop-value-preserved c = λ p os.
    right_push p os c.loop-value.all.items c.push.new.self.items _ c.in_ok-push.ensures.items (c.loop-value.invariant p os)
    (itself p os 18446744073709551615 c.loop-value.value)
