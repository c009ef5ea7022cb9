use Rattle.std.proofs.Common.{rules, arith, ◌≡◌, ◌∷◌, [], map, subst, ap}
use Rattle.std.proofs.lemmas.Grind.{common_steps}
use Rattle.trees.specs.Modules.{module_tree_of}
use Rattle.names.proofs.Gatherings.{ArePartly, partly_step, partly_end, partly_fault}
use Rattle.names.proofs.Gatherings.{partly_first}
use Rattle.names.proofs.Offsets.{AreHalfway, halfway_end, halfway_fault, halfway_step}
use Rattle.names.proofs.gather.add_modules.Goals as goal

pub loop-given-init : goal.loop-given-init
loop-given-init c =
    let e : c.into_iter-given-iterator.result.rest.items ≡ c.args.modules.items = search rules in
    record {
      partly = record { done = []; splits = ap (map module_tree_of) e; gathered = c.requires.gathered };
      halfway = record { done = []; splits = e; gathered = c.requires.gathered; written = c.requires.written };
    }

pub loop-given-preserved : goal.loop-given-preserved
loop-given-preserved c =
    let e : c.loop-given.given-iterator.rest.items ≡ c.in-Some.given ∷ c.next.new.self.rest.items = search rules in
    let p = subst (λ l. ArePartly (map module_tree_of c.args.modules.items) (map module_tree_of l) c.loop-given.gathered) e c.loop-given.invariant.partly in
    record {
      partly = partly_step (map module_tree_of c.args.modules.items) (map module_tree_of c.next.new.self.rest.items) (module_tree_of c.in-Some.given) c.loop-given.gathered c.add_module.new.gathered p c.in-Ok.ensures.ok;
      halfway = halfway_step c.args.modules.items c.next.new.self.rest.items c.in-Some.given c.loop-given.gathered c.add_module.new.gathered
          (subst (λ l. AreHalfway c.args.modules.items l c.loop-given.gathered) e c.loop-given.invariant.halfway) c.in-Ok.ensures.ok c.in-Ok.ensures.written;
    }

pub returns-in-Err-clause-fault : goal.returns-in-Err-clause-fault
returns-in-Err-clause-fault c =
    let e : c.loop-given.given-iterator.rest.items ≡ c.in-Some.given ∷ c.next.new.self.rest.items = search rules in
    let p = subst (λ l. ArePartly (map module_tree_of c.args.modules.items) (map module_tree_of l) c.loop-given.gathered) e c.loop-given.invariant.partly in
    partly_fault (map module_tree_of c.args.modules.items) (map module_tree_of c.next.new.self.rest.items) (module_tree_of c.in-Some.given) c.loop-given.gathered c.in-Err.fault p c.in-Err.ensures.fault

pub returns-clause-ok : goal.returns-clause-ok
returns-clause-ok c =
    let e : c.loop-given.given-iterator.rest.items ≡ [] = grind (arith, common_steps) in
    partly_end (map module_tree_of c.args.modules.items) c.loop-given.gathered (subst (λ l. ArePartly (map module_tree_of c.args.modules.items) (map module_tree_of l) c.loop-given.gathered) e c.loop-given.invariant.partly)

pub returns-in-Err-clause-first : goal.returns-in-Err-clause-first
returns-in-Err-clause-first c =
    let e : c.loop-given.given-iterator.rest.items ≡ c.in-Some.given ∷ c.next.new.self.rest.items = search rules in
    let p = subst (λ l. ArePartly (map module_tree_of c.args.modules.items) (map module_tree_of l) c.loop-given.gathered) e c.loop-given.invariant.partly in
    partly_first (map module_tree_of c.args.modules.items) (map module_tree_of c.next.new.self.rest.items) (module_tree_of c.in-Some.given) c.loop-given.gathered c.in-Err.fault p c.in-Err.ensures.first

pub returns-in-Err-clause-place : goal.returns-in-Err-clause-place
returns-in-Err-clause-place c =
    let e : c.loop-given.given-iterator.rest.items ≡ c.in-Some.given ∷ c.next.new.self.rest.items = search rules in
    halfway_fault c.args.modules.items c.next.new.self.rest.items c.in-Some.given c.loop-given.gathered c.in-Err.fault
    (subst (λ l. AreHalfway c.args.modules.items l c.loop-given.gathered) e c.loop-given.invariant.halfway) c.in-Err.ensures.place

pub returns-clause-written : goal.returns-clause-written
returns-clause-written c =
    let e : c.loop-given.given-iterator.rest.items ≡ [] = grind (arith, common_steps) in
    halfway_end c.args.modules.items c.loop-given.gathered (subst (λ l. AreHalfway c.args.modules.items l c.loop-given.gathered) e c.loop-given.invariant.halfway)
