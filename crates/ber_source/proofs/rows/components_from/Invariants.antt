use Rattle.std.proofs.Common.{◌≡◌, ◌+◌, ◌<◌, ◌≤◌, List, length}
use Rattle.asn_base.specs.Types.{Resolved}
use Rattle.codec_code.specs.Routines.{routine_at}
use Rattle.codec_source.specs.proving.Wholes.{ReadsOn}
use Rattle.octet_answers.specs.Answers.{Takes}
use Rattle.octet_answers.specs.States.{State}
use Rattle.ber_source.specs.Rows.{ArePlain, moved}
use Rattle.ber_source.proofs.rows.components_from.Given as goal

abbrev pub invariant-loop-field : goal.invariant-loop-field
invariant-loop-field g l =
    ((a : State) → a.schema ≡ l.own → length a.values < 64 → length a.outer < 400
    → ReadsOn (routine_at l.code) Takes l.initial.row.left.now l.row.left.now
    (moved a l.initial.row.here.octets.now l.initial.row.here.at (g.T.TokenSink.tokens l.initial.emitted) l.initial.row.budget)
    (moved a l.row.here.octets.now l.row.here.at (g.T.TokenSink.tokens l.emitted) l.row.budget))
    × (l.row.here.at + length l.row.here.octets.now ≤ 16777216)
    × (l.row.budget ≤ l.initial.row.budget)
    × ((s : List Resolved) → g.T.TokenSink.suits l.initial.emitted s → g.T.TokenSink.suits l.emitted s)
    × ArePlain l.code l.own l.row.left.now

abbrev pub decreases-loop-field : goal.decreases-loop-field
decreases-loop-field g l = length l.row.left.now
