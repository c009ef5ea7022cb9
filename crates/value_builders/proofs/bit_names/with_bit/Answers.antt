use Rattle.std.proofs.Common.{rules, ◌<◌, arith}
use Rattle.value_builders.proofs.SetOctets.{has_room, set_already, set_now}
use Rattle.value_builders.proofs.bit_names.with_bit.Goals as goal

pub overflow_add-result : goal.overflow_add-result
overflow_add-result c =
    let few : c.args.octet < 256 = omega (arith, c.ranges.octet.fits) in
    let room = has_room c.args.octet c.args.place c.requires few c.if-octet-value-eq1.false in
    search rules

pub returns-then-octet-value-eq1 : goal.returns-then-octet-value-eq1
returns-then-octet-value-eq1 c =
    set_already c.args.octet c.args.place c.requires (omega (arith, c.ranges.octet.fits)) c.if-octet-value-eq1.true

pub returns-else-octet-value-eq1 : goal.returns-else-octet-value-eq1
returns-else-octet-value-eq1 c =
    set_now c.args.octet c.args.place c.requires (omega (arith, c.ranges.octet.fits)) c.if-octet-value-eq1.false
