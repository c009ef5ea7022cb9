use Rattle.std.proofs.Common.{◌<◌, ◌≤◌, length, get_or, Some, sym, subst, ap, ◌∙◌, arith, rules}
use Rattle.std.specs.Prelude.{pos}
use mir.Syntax.{w128}
use mir.Val.{SFits}
use Rattle.std.proofs.lemmas.Int.{to_z-of_z}
use Rattle.std.proofs.lemmas.Option.{slice_get-get_or}
use Rattle.std.proofs.lemmas.List.{take_all}
use Rattle.type_table.specs.proving.Sets.{IsSetOf}
use Rattle.type_table.proofs.Fronts.{front_set}
use Rattle.type_table.proofs.items.set_of.Goals as goal

pub loop-i-preserved : goal.loop-i-preserved
loop-i-preserved c =
    let l : c.loop-i.i < length c.args.numbers.now = omega arith in
    let f : SFits w128 (get_or c.args.numbers.now c.loop-i.i (pos 0)) = search rules in
    record {
      same = front_set c.args.numbers.now c.loop-i.i _ (slice_get-get_or c.args.numbers.now c.loop-i.i (pos 0) l ∙ ap Some (sym (to_z-of_z w128 (get_or c.args.numbers.now c.loop-i.i (pos 0)) f))) c.loop-i.set.keys c.put.new.set.keys c.loop-i.invariant.same c.in_ok-put.ensures.added;
      within = c.in_ok-put.ensures.within c.loop-i.invariant.within;
    }

pub returns-clause-same : goal.returns-clause-same
returns-clause-same c =
    let l : length c.args.numbers.now ≤ c.loop-i.i = omega arith in
    subst (λ q. IsSetOf c.loop-i.set.keys q) (take_all c.loop-i.i c.args.numbers.now l) c.loop-i.invariant.same
