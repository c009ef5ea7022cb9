use Rattle.std.proofs.Common.{subst, sym}
use Rattle.asn_base.specs.Typed.{IsPrimitive}
use Rattle.octets.specs.Forms.{is_constructed}
use Rattle.ber_source.specs.PrimitiveValue.{AreReadAs}
use Rattle.ber_source.proofs.Fitting.{kind_there, means_leaf}
use Rattle.ber_source.proofs.judge.fits_type.Goals as goal

pub returns-in-Whole : goal.returns-in-Whole
returns-in-Whole c h r v levels there contents =
    let k = c.args.held.kind in
    let x = c.args.held.octets.now in
    let cc' = is_constructed c.args.held.form in
    let read = subst (AreReadAs cc' k x) c.in-Whole.is c.requires.read in
    subst (λ q. IsPrimitive q v) (kind_there c.in-Some.ensures.1 there)
    (c.fits_whole.ensures h v (means_leaf (λ k v w x. c.lemma_one_reading.ensures.value k v w x) cc' k v levels x _ read contents))
