use Rattle.std.proofs.Common.{rules, ◌≡◌, ◌≤◌, length}
use Rattle.ber_source.specs.Seen.{token_of}
use Rattle.ber_reader.proofs.Followed.{seen_more}
use Rattle.ber_reader.proofs.open_sink.receive.Goals as goal

pub returns-clause-seen : goal.returns-clause-seen
returns-clause-seen c =
    let p = c.args.receiver.now in
    let l : length p.begun.items ≤ 18446744073709551615 = search rules in
    seen_more p _ (token_of c.args.token) l c.in_ok-take.ensures c.in_ok-count.ensures c.add.ensures
