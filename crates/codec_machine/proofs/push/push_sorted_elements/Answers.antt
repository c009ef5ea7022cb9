use Rattle.std.proofs.Common.{arith, refl, subst, sym, ◌∷◌, ◌++◌}
use Rattle.codec_machine.specs.declared.frame.Frame.TheVariants.{Routine}
use Rattle.std.proofs.Common.{map, []}
use Rattle.asn_base.specs.Abstract.{abstract, row_of_list}
use Rattle.codec_code.specs.Steps.{SortedElements, no_part}
use Rattle.codec_machine.specs.Weights.{weights, total}
use Rattle.std.proofs.Common.{suc}
use Rattle.codec_machine.proofs.Replacing as r
use Rattle.codec_machine.proofs.push.push_sorted_elements.Goals as goal

pub returns-in-None : goal.returns-in-None
returns-in-None c =
    let s = c.args.code.now in
    r.none_in s c.args.id c.args.frames.now.items (SortedElements s c.args.id.index (row_of_list (map abstract c.args.values.now)))
    (suc (weights (total s) (row_of_list (map abstract c.args.values.now))))
    (subst (λ q. SortedElements s c.args.id.index (row_of_list (map abstract q)) []) (sym c.in-None.ensures) no_part) (omega arith)

pub returns-in_ok-add-in-Some-2 : goal.returns-in_ok-add-in-Some-2
returns-in_ok-add-in-Some-2 c =
    r.part_in c.args.code.now c.args.id c.args.frames.now.items c.add.new.frames.items c.add-in-Some.new.frames.items
    (c.add-in-Some.new.frames.items ++ Routine c.args.id c.steps-steps.result c.in-Some.first ∷ []) c.steps-steps.result c.in-Some.first c.args.values c.in-Some.others c.in-Some.ensures c.steps-steps.ensures
    c.in_ok-add-in-Some.ensures c.in_ok-add-in-Some-2.ensures refl
