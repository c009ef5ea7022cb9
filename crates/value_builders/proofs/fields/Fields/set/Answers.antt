use Rattle.std.proofs.Common.{◌<◌, length, sym, subst}
use Rattle.value_builders.proofs.Setting.{place_in}
use Rattle.value_builders.proofs.fields.Fields.set.Goals as goal

pub is_absent_at-requires : goal.is_absent_at-requires
is_absent_at-requires c =
    subst (λ q. c.in-Some.place < length q) (sym c.as_slice.ensures.value)
    (place_in c.self.inside.components.now c.args.name.now c.in-Some.place c.self.inside.values.items c.in-Some.ensures c.self.invariant)

pub put-requires : goal.put-requires
put-requires c = place_in c.self.inside.components.now c.args.name.now c.in-Some.place c.self.inside.values.items c.in-Some.ensures c.self.invariant
