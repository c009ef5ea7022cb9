use Rattle.std.proofs.Common.{false, refl}
use Rattle.ber_source.specs.Seen.{value_token}
use Rattle.ber_source.proofs.Fitting.{knows_more}
use Rattle.ber_source.proofs.judge.follow_held.Goals as goal

pub returns : goal.returns
returns c ts i =
    let j = c.args.judge.now in
    knows_more c.args.code.now j (record { last = j.last; fresh = false; fits = c.both-judge.result }) ts (value_token c.args.held) i refl (λ h. let q = c.both-judge.ensures h in (q.0, c.fits_type-fits.ensures q.1))
