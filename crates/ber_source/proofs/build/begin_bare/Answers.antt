use Rattle.std.proofs.Common.{false, subst}
use Rattle.codec_code.specs.Routines.{routine_at}
use Rattle.ber_source.specs.Wants.{Wants, begun_as, number_as}
use Rattle.ber_source.proofs.Summary.{bare_in}
use Rattle.ber_source.proofs.build.begin_bare.Goals as goal

pub returns : goal.returns
returns c m w ts i =
    let b = c.args.build.now in
    record {
      building = i.building;
      holds = i.holds;
      wants = subst (λ q. Wants c.args.code.now m w ts (number_as q b.number) false (begun_as q b.number i.building)) (bare_in (routine_at c.args.code.now c.args.id.index) c.requires) i.wants;
    }
