use Rattle.std.proofs.Common.{refl, subst}
use Rattle.segmented_strings.specs.Refusing.{Joins}
use Rattle.segmented_strings.proofs.ByKind.{octets_read, octets_refused}
use Rattle.asn_base.specs.Abstract.{octets}
use Rattle.segmented_strings.proofs.read.as_octets.Goals as goal

pub returns-in-Ok-clause-ok : goal.returns-in-Ok-clause-ok
returns-in-Ok-clause-ok c =
    let j = subst (λ q. Joins c.args.room c.args.contents.now q c.add_octets.new.out.items) c.new-octets.ensures.items c.in-Ok.ensures.ok in
    record { value = octets c.add_octets.new.out.items; means = refl; is_joined = octets_read c.args.room c.args.contents.now c.add_octets.new.out.items j }

pub returns-in-Err-clause-err : goal.returns-in-Err-clause-err
returns-in-Err-clause-err c = octets_refused c.args.room c.args.contents.now c.in-Err.fault c.in-Err.ensures.err
