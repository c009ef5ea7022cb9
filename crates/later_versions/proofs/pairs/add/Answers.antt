use Rattle.std.proofs.Common.{◌<◌, ℕ, subst}
use Rattle.std.specs.Prelude.{◌%◌, ◌⊎◌, ◌↔◌}
use Rattle.asn_base.specs.Names.{IsMember}
use Rattle.ranges.specs.proving.Masking.{IsBetween}
use Rattle.later_versions.specs.proving.Pairs.{pair_of}
use Rattle.later_versions.proofs.Pairing.{put_pair}
use Rattle.later_versions.proofs.pairs.add.Goals as goal

pub returns-in-Ok-clause-added : goal.returns-in-Ok-clause-added
returns-in-Ok-clause-added c = λ t.
    let p = pair_of c.args.pair in
    put_pair c.args.known.now c.insert.new.self p c.add.new.self c.in-Ok.ensures.updates.0
    (subst (λ cs. (x : ℕ) → IsMember x c.add.new.self ↔ (IsMember x cs ⊎ (IsBetween (p.1 % 128) (p.1 % 128) x × (x < 128))))
    c.codes_at-codes.ensures c.add.ensures)
