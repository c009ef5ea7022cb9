use mir.Syntax.{w128}
use Rattle.std.proofs.Common.{rules, SFits, sym, subst}
use Rattle.std.proofs.lemmas.Int.{to_z-of_z}
use Rattle.asn_base.specs.Abstract.{integer, enumerated}
use Rattle.asn_base.specs.Seen.{kind_of}
use Rattle.asn_base.specs.Typed.{IsPrimitive}
use Rattle.primitive_reader.specs.Leaves.{Denotes, bits_but}
use Rattle.ber_source.proofs.Fitting.{oid_fits, relative_oid_fits}
use Rattle.ber_source.proofs.judge.fits_whole.Goals as goal

pub returns-in-Bool : goal.returns-in-Bool
returns-in-Bool c h v d = subst (IsPrimitive (kind_of c.args.core.now)) (sym (subst (λ q. Denotes q v) c.in-Bool.is d)) (c.fits_boolean.ensures.0 h)

pub returns-in-Int : goal.returns-in-Int
returns-in-Int c h v d =
    let f : SFits w128 c.in-Int.number = search rules in
    subst (IsPrimitive (kind_of c.args.core.now)) (sym (subst (λ q. Denotes q v) c.in-Int.is d))
    (subst (λ z. IsPrimitive (kind_of c.args.core.now) (integer z)) (to_z-of_z w128 c.in-Int.number f) (c.fits_integer.ensures.0 h))

pub returns-in-Enum : goal.returns-in-Enum
returns-in-Enum c h v d =
    let f : SFits w128 c.in-Enum.number = search rules in
    subst (IsPrimitive (kind_of c.args.core.now)) (sym (subst (λ q. Denotes q v) c.in-Enum.is d))
    (subst (λ z. IsPrimitive (kind_of c.args.core.now) (enumerated z)) (to_z-of_z w128 c.in-Enum.number f) (c.fits_enumerated.ensures.0 h))

pub returns-in-Bits : goal.returns-in-Bits
returns-in-Bits c h v d =
    let s = bits_but c.in-Bits.unused c.in-Bits.octets.now in
    subst (IsPrimitive (kind_of c.args.core.now)) (sym (subst (λ q. Denotes q v) c.in-Bits.is d)) ((c.fits_bits.ensures s (sym c.bit_count.ensures.count)).0 h)

pub returns-in-Octets : goal.returns-in-Octets
returns-in-Octets c h v d = subst (IsPrimitive (kind_of c.args.core.now)) (sym (subst (λ q. Denotes q v) c.in-Octets.is d)) (c.fits_octets.ensures.0 h)

pub returns-in-Text : goal.returns-in-Text
returns-in-Text c h v d = subst (IsPrimitive (kind_of c.args.core.now)) (sym (subst (λ q. Denotes q v) c.in-Text.is d)) (c.fits_text.ensures.0 h)

pub returns-in-Null : goal.returns-in-Null
returns-in-Null c h v d = subst (IsPrimitive (kind_of c.args.core.now)) (sym (subst (λ q. Denotes q v) c.in-Null.is d)) (c.fits_null.ensures.0 h)

pub returns-in-Oid : goal.returns-in-Oid
returns-in-Oid c h v d = let m = subst (λ q. Denotes q v) c.in-Oid.is d in oid_fits (c.is_object_identifier.ensures h) m.1 m.2

pub returns-in-RelativeOid : goal.returns-in-RelativeOid
returns-in-RelativeOid c h v d = let m = subst (λ q. Denotes q v) c.in-RelativeOid.is d in relative_oid_fits (c.is_relative_oid.ensures h) m.1 m.2
