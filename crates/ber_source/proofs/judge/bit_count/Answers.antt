use Rattle.std.proofs.Common.{arith, ◌≡◌, ◌*◌, ◌-◌, length, sym, ◌∙◌}
use Rattle.ber_source.proofs.Fitting.{count_of}
use Rattle.ber_source.proofs.judge.bit_count.Goals as goal

pub returns-clause-count : goal.returns-clause-count
returns-clause-count c =
    let e : c.saturating_sub.result ≡ 8 * length c.args.octets.now - c.args.unused = grind arith in
    e ∙ sym (count_of c.args.unused c.args.octets.now)
