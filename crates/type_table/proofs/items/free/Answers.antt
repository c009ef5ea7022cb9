use Rattle.std.proofs.Common.{◌≡◌, ◌<◌, ◌+◌, ◌^◌, suc, true, false, sym, subst, ap, ◌∙◌, arith}
use mir.Syntax.{w128}
use mir.Val.{to_z}
use Rattle.std.specs.Prelude.{pos}
use Rattle.std.proofs.lemmas.Int.{to_z_pos}
use Rattle.type_table.specs.Items.{is_among}
use Rattle.type_table.proofs.Free.{AreTaken, among_occurs, not_among, taken_more, taken_all}
use Rattle.type_table.proofs.items.free.Goals as goal

pub returns-then-at-ge170141183460469231731687303715884105728-clause-free : goal.returns-then-at-ge170141183460469231731687303715884105728-clause-free
returns-then-at-ge170141183460469231731687303715884105728-clause-free c = record {
  from = omega (arith, c.loop-turn.invariant.reached);
  unused = λ s. (let w = c.requires.within s.0 (pos c.loop-turn.at) s.1 in absurd (omega (arith, w)));
  taken = c.loop-turn.invariant.taken;
}

pub returns-then-not-contains-clause-free : goal.returns-then-not-contains-clause-free
returns-then-not-contains-clause-free c =
    let small : c.loop-turn.at < 2 ^ 127 = omega arith in
    let q : to_z w128 c.loop-turn.at ≡ pos c.loop-turn.at = to_z_pos w128 c.loop-turn.at small in
    let none : is_among (pos c.loop-turn.at) c.args.used.now.keys ≡ false = ap (λ z. is_among z c.args.used.now.keys) (sym q) ∙ sym c.if-not-contains.ensures in
    record {
      from = omega (arith, c.loop-turn.invariant.reached);
      unused = not_among (pos c.loop-turn.at) c.args.used.now.keys none;
      taken = c.loop-turn.invariant.taken;
    }

pub loop-turn-preserved : goal.loop-turn-preserved
loop-turn-preserved c =
    let small : c.loop-turn.at < 2 ^ 127 = omega arith in
    let q : to_z w128 c.loop-turn.at ≡ pos c.loop-turn.at = to_z_pos w128 c.loop-turn.at small in
    let here : is_among (pos c.loop-turn.at) c.args.used.now.keys ≡ true = ap (λ z. is_among z c.args.used.now.keys) (sym q) ∙ sym c.if-not-contains.ensures in
    let e : c.loop-turn.at + 1 ≡ suc c.loop-turn.at = omega arith in
    record {
      taken = subst (λ m. AreTaken c.args.used.now.keys c.args.from m) (sym e) (taken_more c.args.used.now.keys c.args.from c.loop-turn.at c.loop-turn.invariant.taken (among_occurs (pos c.loop-turn.at) c.args.used.now.keys here));
      reached = omega (arith, c.loop-turn.invariant.reached);
      small = omega (arith, small);
    }

pub returns-clause-free : goal.returns-clause-free
returns-clause-free c =
    let long = c.len-turn-end.ensures.len in
    record {
      from = omega (arith, c.loop-turn.invariant.reached);
      unused = taken_all c.args.used.now.keys c.args.from c.loop-turn.at (omega (arith, c.loop-turn.invariant.reached, long)) c.loop-turn.invariant.taken;
      taken = c.loop-turn.invariant.taken;
    }
