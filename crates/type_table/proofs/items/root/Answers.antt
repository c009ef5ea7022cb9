use Rattle.std.proofs.Common.{◌≡◌, ◌<◌, ◌++◌, ◌^◌, ◌∷◌, [], suc, length, map, sym, subst, ap, ◌∙◌, arith, rules}
use Rattle.std.specs.Prelude.{pos}
use mir.Syntax.{w128}
use mir.Val.{SFits, to_z, of_z}
use Rattle.std.proofs.lemmas.Int.{to_z_pos, to_z-of_z}
use Rattle.trees.specs.Types.{item_of}
use Rattle.type_table.specs.Items.{given_numbers, least_free, number_or, counted_to, root_numbers}
use Rattle.asn_base.specs.Typed.{IsWithinLimit}
use Rattle.type_table.specs.Lists.{AreWithinLimit}
use Rattle.type_table.specs.proving.Sets.{IsSetOf}
use Rattle.type_table.proofs.Free.{free_is, one_free}
use Rattle.type_table.proofs.Limits.{within_more}
use Rattle.type_table.proofs.Stepping.{root_step}
use Rattle.type_table.proofs.items.root.Goals as goal
use Rattle.type_table.proofs.items.root.Goals.{in-Some+in_ok-push-in-Some, in-None+in_ok-push-in-None}

pub loop-item-preserved : goal.loop-item-preserved
loop-item-preserved c =
    let l : c.loop-item.item-index < length c.args.items.now = omega arith in
    let given = given_numbers (map item_of c.args.items.now) in
    let set = subst (λ q. IsSetOf c.in_ok-used.used.keys q) (c.deref.ensures.value ∙ c.in_ok-written.ensures) c.in_ok-used.ensures.same in
    elim c.match-item.branch [
      | in-Some+in_ok-push-in-Some w ↦ (
          let f : SFits w128 w.in-Some.number = search rules in
          let same = to_z-of_z w128 w.in-Some.number f in
          let more : w.push.new.self.items ≡ c.loop-item.numbers.items ++ to_z w128 (of_z w128 w.in-Some.number) ∷ [] = w.in_ok-push-in-Some.ensures.items in
          let items = ap (λ v. v.items) w.numbers-is ∙ more ∙ ap (λ y. c.loop-item.numbers.items ++ y ∷ []) same in
          record {
            numbers = root_step given c.loop-item.numbers.items c.match-item.numbers.items c.loop-item.next c.match-item.next c.loop-item.item-index c.args.items.now c.item-item.result w.in-Some.number (root_numbers (map item_of c.args.items.now)) l c.item-item.is c.loop-item.invariant.numbers (sym (ap (number_or c.loop-item.next given) w.in-Some.is)) (w.next-is ∙ sym (ap (counted_to c.loop-item.next given) w.in-Some.is)) items;
            within = subst (λ q. AreWithinLimit q) (sym items) (within_more c.loop-item.numbers.items w.in-Some.number c.loop-item.invariant.within (subst IsWithinLimit same w.lemma_integer_within_limit.ensures));
            small = (let n = w.next-is in omega (arith, n, c.loop-item.invariant.small));
          })
      | in-None+in_ok-push-in-None w ↦ (
          let few = w.free-number.ensures.few in
          let small : w.free-number.result < 2 ^ 127 = omega (arith, few, c.loop-item.invariant.small, l) in
          let z : to_z w128 w.free-number.result ≡ pos w.free-number.result = to_z_pos w128 w.free-number.result small in
          let e = one_free c.in_ok-used.used.keys given c.loop-item.next w.free-number.result (least_free c.loop-item.next given) (λ y. (set y).0) (λ y. (set y).1) w.free-number.ensures.free (free_is given c.loop-item.next) in
          let more : w.push-in-None.new.self.items ≡ c.loop-item.numbers.items ++ to_z w128 w.free-number.result ∷ [] = w.in_ok-push-in-None.ensures.items in
          let items = ap (λ v. v.items) w.numbers-is ∙ more ∙ ap (λ y. c.loop-item.numbers.items ++ y ∷ []) z in
          let next : c.match-item.next ≡ suc w.free-number.result = (let n = w.next-is in omega (arith, n)) in
          record {
            numbers = root_step given c.loop-item.numbers.items c.match-item.numbers.items c.loop-item.next c.match-item.next c.loop-item.item-index c.args.items.now c.item-item.result (pos w.free-number.result) (root_numbers (map item_of c.args.items.now)) l c.item-item.is c.loop-item.invariant.numbers (ap pos e ∙ sym (ap (number_or c.loop-item.next given) w.in-None.is)) (next ∙ ap suc e ∙ sym (ap (counted_to c.loop-item.next given) w.in-None.is)) items;
            within = subst (λ q. AreWithinLimit q) (sym items) (within_more c.loop-item.numbers.items (pos w.free-number.result) c.loop-item.invariant.within small);
            small = omega (arith, next, few, c.loop-item.invariant.small);
          })
    ]
