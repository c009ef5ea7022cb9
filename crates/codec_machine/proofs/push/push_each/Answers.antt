use Rattle.std.proofs.Common.{refl, [], ◌∷◌, ◌++◌}
use Rattle.codec_machine.specs.declared.frame.Frame.TheVariants.{Elements}
use Rattle.codec_machine.proofs.Inversion.{of_each}
use Rattle.codec_machine.proofs.Replacing as r
use Rattle.codec_machine.proofs.push.push_each.Goals as goal

pub returns-in_ok-add-in-Some-clause-ok : goal.returns-in_ok-add-in-Some-clause-ok
returns-in_ok-add-in-Some-clause-ok c =
    r.each_in c.args.rest.code.now c.args.rest.id c.args.frames.now.items c.args.rest.steps c.args.rest.value c.args.of c.add.new.frames.items
    (c.add.new.frames.items ++ Elements c.args.of c.in-Some.values ∷ []) c.in-Some.values c.in-Some.ensures c.in_ok-add-in-Some.ensures refl

pub returns-in-None-clause-refused : goal.returns-in-None-clause-refused
returns-in-None-clause-refused c = λ e es d. (let p = of_each d in c.in-None.ensures p.row p.is)
