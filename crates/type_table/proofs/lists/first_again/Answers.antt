use Rattle.std.proofs.Common.{get_or, sym, subst, to_z, of_z, rules}
use Rattle.std.specs.Prelude.{pos}
use mir.Syntax.{w128}
use mir.Val.{SFits}
use Rattle.std.specs.Ordering.{int_cmp}
use Rattle.std.proofs.lemmas.Cmp.{int_cmp_total}
use Rattle.std.proofs.lemmas.Int.{to_z-of_z}
use Rattle.std.proofs.lemmas.Option.{slice_get-get_or}
use Rattle.names.specs.Modules.{OccursIn}
use Rattle.type_table.specs.proving.Sets.{Puts}
use Rattle.type_table.proofs.Fronts.{kept_in_start, kept_in_more, kept_in_twice, kept_in_all}
use Rattle.type_table.proofs.Sets.{int_exact, has, has_not, puts}
use Rattle.type_table.proofs.lists.first_again.Goals as goal

pub loop-i-init : goal.loop-i-init
loop-i-init c = kept_in_start c.args.numbers.now c.new-before.result.keys c.new-before.ensures.empty

pub loop-i-preserved : goal.loop-i-preserved
loop-i-preserved c =
    let ns = c.args.numbers.now in
    let ks = c.loop-i.before.keys in
    let n = get_or ns c.loop-i.i (pos 0) in
    let f : SFits w128 n = search rules in
    let same = to_z-of_z w128 n f in
    let z = to_z w128 (of_z w128 n) in
    let put = subst (λ y. Puts ks c.insert.new.self.keys y) same (puts int_cmp int_cmp_total int_exact ks c.insert.new.self.keys z c.in_ok-insert.ensures.updates.0) in
    let fresh = subst (λ y. OccursIn ks y → ⊥) same (has_not int_cmp int_cmp_total int_exact ks z (sym c.if-contains.ensures)) in
    kept_in_more ns ks c.insert.new.self.keys c.loop-i.i n (slice_get-get_or ns c.loop-i.i (pos 0) c.loop-i-test.true) c.loop-i.invariant put fresh

pub returns-then-contains : goal.returns-then-contains
returns-then-contains c =
    let ns = c.args.numbers.now in
    let ks = c.loop-i.before.keys in
    let n = get_or ns c.loop-i.i (pos 0) in
    let f : SFits w128 n = search rules in
    let here = slice_get-get_or ns c.loop-i.i (pos 0) c.loop-i-test.true in
    let s = subst (λ y. OccursIn ks y) (to_z-of_z w128 n f) (has int_cmp int_cmp_total int_exact ks (to_z w128 (of_z w128 n)) (sym c.if-contains.ensures)) in
    record {
      again = (n, here, kept_in_twice ns ks c.loop-i.i n here c.loop-i.invariant s);
      first = (n, here, (c.loop-i.invariant.same n).0 s, c.loop-i.invariant.apart);
    }

pub returns : goal.returns
returns c = record {
  again = kept_in_all c.args.numbers.now c.loop-i.before.keys c.loop-i.i c.loop-i-test.false c.loop-i.invariant;
  first = tt;
}
