use Rattle.std.proofs.Common.{◌≡◌, ◌<◌, ◌++◌, ◌∷◌, [], length, length-append, map, sym, subst, ap, ◌∙◌, arith, rules}
use Rattle.std.specs.Prelude.{Some, max}
use mir.Syntax.{w128}
use mir.Val.{SFits, to_z, of_z}
use Rattle.std.proofs.lemmas.Int.{to_z-of_z}
use Rattle.asn_base.specs.Typed.{IsWithinLimit}
use Rattle.trees.specs.Types.{item_of}
use Rattle.type_table.specs.Items.{number_or, additions_from, past}
use Rattle.type_table.specs.proving.Sets.{IsSetOf}
use Rattle.type_table.specs.Lists.{AreWithinLimit}
use Rattle.type_table.proofs.Limits.{within_more}
use Rattle.type_table.proofs.Stepping.{additions_step, addition_here}
use Rattle.type_table.proofs.FirstFaults.{within_front}
use Rattle.type_table.proofs.items.with_additions.Goals as goal

pub returns-in-None-clause-fault : goal.returns-in-None-clause-fault
returns-in-None-clause-fault c =
    let l : c.loop-i.i < length c.args.items.now = omega arith in
    let set = subst (λ q. IsSetOf c.in_ok-used.used.keys q) (c.deref.ensures.value) c.in_ok-used.ensures.same in
    addition_here c.args.root.items c.loop-i.numbers.items c.loop-i.next c.loop-i.i c.args.items.now c.index-items-i.result l c.index-items-i.is c.loop-i.invariant.long c.loop-i.invariant.numbers
    ∙ ap (λ q. Some (number_or c.loop-i.next c.args.root.items q.number)) c.index-items-i.is
    ∙ ap Some (c.in-None.ensures c.args.root.items set)

pub loop-i-preserved : goal.loop-i-preserved
loop-i-preserved c =
    let l : c.loop-i.i < length c.args.items.now = omega arith in
    let set = subst (λ q. IsSetOf c.in_ok-used.used.keys q) (c.deref.ensures.value) c.in_ok-used.ensures.same in
    let f : SFits w128 c.in-Some.number = search rules in
    let same = to_z-of_z w128 c.in-Some.number f in
    let more : c.push.new.self.items ≡ c.loop-i.numbers.items ++ to_z w128 (of_z w128 c.in-Some.number) ∷ [] = c.in_ok-push-in-Some.ensures.items in
    let items = more ∙ ap (λ y. c.loop-i.numbers.items ++ y ∷ []) same in
    let next : c.max-next.result ≡ max c.loop-i.next (past c.in-Some.number) = c.max-next.ensures ∙ ap (max c.loop-i.next) (c.above.ensures.past ∙ ap past same) in
    let past_small = c.above.ensures.small in
    record {
      numbers = additions_step c.args.root.items c.loop-i.numbers.items c.push.new.self.items c.loop-i.next c.max-next.result c.loop-i.i c.args.items.now c.index-items-i.result c.in-Some.number (c.args.root.items ++ additions_from c.args.root.items 0 (map item_of c.args.items.now)) l c.index-items-i.is c.loop-i.invariant.numbers (c.in-Some.ensures c.args.root.items set ∙ ap (λ q. number_or c.loop-i.next c.args.root.items q.number) (sym c.index-items-i.is)) next items;
      long = omega (arith, c.loop-i.invariant.long, ap length items, length-append c.loop-i.numbers.items (c.in-Some.number ∷ []));
      within = subst (λ q. AreWithinLimit q) (sym items) (within_more c.loop-i.numbers.items c.in-Some.number c.loop-i.invariant.within (subst IsWithinLimit same c.lemma_integer_within_limit.ensures));
      small = omega (arith, past_small, c.max-next.ensures, c.loop-i.invariant.small);
    }

pub returns-in-None-clause-before : goal.returns-in-None-clause-before
returns-in-None-clause-before c =
    within_front c.args.root.items c.loop-i.numbers.items _ (additions_from c.args.root.items 0 (map item_of c.args.items.now)) c.loop-i.i c.loop-i.invariant.numbers c.loop-i.invariant.long c.loop-i.invariant.within
