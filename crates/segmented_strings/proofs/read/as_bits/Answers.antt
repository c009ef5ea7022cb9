use Rattle.std.proofs.Common.{subst}
use Rattle.segmented_strings.specs.Refusing.{JoinsBits}
use Rattle.segmented_strings.proofs.ByKind.{bits_read, few_bits, bits_refused}
use Rattle.segmented_strings.proofs.read.as_bits.Goals as goal

pub returns-in-Ok-clause-ok : goal.returns-in-Ok-clause-ok
returns-in-Ok-clause-ok c =
    let j = subst (λ q. JoinsBits c.args.room c.args.contents.now q c.add_bits.new.out.items c.in-Ok.unused) c.new-octets.ensures.items c.in-Ok.ensures.ok in
    let r = bits_read c.args.kind c.args.room c.in-Ok.unused c.args.contents.now c.add_bits.new.out.items c.requires.kind j in
    record { value = r.0; means = r.1; is_joined = r.2 }

pub returns-in-Ok-clause-few_unused : goal.returns-in-Ok-clause-few_unused
returns-in-Ok-clause-few_unused c =
    few_bits c.args.room c.in-Ok.unused c.args.contents.now c.add_bits.new.out.items
    (subst (λ q. JoinsBits c.args.room c.args.contents.now q c.add_bits.new.out.items c.in-Ok.unused) c.new-octets.ensures.items c.in-Ok.ensures.ok)

pub returns-in-Err-clause-err : goal.returns-in-Err-clause-err
returns-in-Err-clause-err c = bits_refused c.args.kind c.args.room c.args.contents.now c.in-Err.fault c.requires.kind c.in-Err.ensures.err
