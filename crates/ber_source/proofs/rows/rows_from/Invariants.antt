use Rattle.std.proofs.Common.{◌≡◌, ◌+◌, ◌<◌, ◌≤◌, List, length}
use Rattle.std.specs.Prelude.{false}
use Rattle.asn_base.specs.Types.{Resolved}
use Rattle.codec_code.specs.Routines.{routine_at}
use Rattle.codec_source.specs.proving.Wholes.{Chain, ReadsElement}
use Rattle.octet_answers.specs.Answers.{Takes}
use Rattle.octet_answers.specs.States.{State}
use Rattle.ber_source.specs.Rows.{moved}
use Rattle.ber_source.proofs.rows.rows_from.Given as goal

abbrev pub invariant-loop-budget : goal.invariant-loop-budget
invariant-loop-budget g l =
    ((a : State) → a.schema ≡ l.own → length a.values < 63 → length a.outer < 399
    → Chain (ReadsElement (routine_at l.code) Takes l.rows.id false)
    (moved a l.initial.next.octets.now l.initial.next.at (g.T.TokenSink.tokens l.initial.emitted) l.initial.budget)
    (moved a l.next.octets.now l.next.at (g.T.TokenSink.tokens l.emitted) l.budget))
    × (l.next.at + length l.next.octets.now ≤ 16777216)
    × ((s : List Resolved) → g.T.TokenSink.suits l.initial.emitted s → g.T.TokenSink.suits l.emitted s)

abbrev pub decreases-loop-budget : goal.decreases-loop-budget
decreases-loop-budget g l = l.budget
