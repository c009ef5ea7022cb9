use Rattle.std.proofs.Common.{refl, sym, subst}
use Rattle.octets.specs.Forms.{is_constructed}
use Rattle.ber_source.specs.PrimitiveValue.{AreReadAs}
use Rattle.ber_source.specs.declared.token.PrimitiveValue.TheVariants.{Whole}
use Rattle.ber_source.proofs.small.emit_short.Goals as goal

pub hold-requires : goal.hold-requires
hold-requires g c k = (
  (refl, tt),
  record {
    short = c.requires.short;
    read = subst (λ q. AreReadAs (is_constructed q) c.args.held.kind c.args.held.octets.now (Whole c.args.leaf)) (sym c.requires.form) c.requires.read;
  },
)
