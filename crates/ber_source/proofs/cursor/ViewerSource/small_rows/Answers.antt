use Rattle.std.proofs.Common.{subst}
use Rattle.std.specs.Prelude.{IfOk, MatchOption, false}
use Rattle.codec_code.specs.Routines.{routine_at}
use Rattle.codec_source.specs.proving.Wholes.{Chain, ReadsElement, ReadsInto}
use Rattle.octet_answers.specs.Answers.{Takes}
use Rattle.ber_source.specs.Seen.{state_of}
use Rattle.ber_source.specs.Log.{logged}
use Rattle.ber_source.proofs.cursor.ViewerSource.small_rows.Goals as goal

pub returns-clause-ok : goal.returns-clause-ok
returns-clause-ok c =
    let r = routine_at c.args.code.now in
    let z = state_of (λ t. logged t.log) c.small_rows.new.place in
    subst (λ x. IfOk c.small_rows.result (λ o. MatchOption o (Chain (ReadsElement r Takes c.args.id false) x z) (λ left. ReadsInto r Takes c.args.id left.now x z))) c.self.view_is c.small_rows.ensures.ok
