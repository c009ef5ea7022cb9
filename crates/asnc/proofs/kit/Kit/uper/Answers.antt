use Rattle.std.proofs.Common.{inr, refl, subst}
use Rattle.asn_base.specs.Abstract.{abstract}
use Rattle.packed_writer.specs.Message.{IsTooLong}
use Rattle.asnc.specs.Kits.{Opened}
use Rattle.asnc.proofs.kit.Kit.uper.Goals as goal

pub returns-in-Err-TooLong-clause-refused : goal.returns-in-Err-TooLong-clause-refused
returns-in-Err-TooLong-clause-refused c =
    let t = c.in-Ok.found.0.index in
    let v = abstract c.in-Ok.found.1 in
    inr (
      refl,
      record {
        type = t;
        value = v;
        meant = c.in-Ok.ensures.meant;
        longer = subst (λ (k : Opened). IsTooLong k.types t v) c.self.view_is
            (subst (λ s. IsTooLong s t v) c.self.invariant.2 (c.in-Err-TooLong.ensures.longer c.in-Err-TooLong.field-0-is));
      },
    )
