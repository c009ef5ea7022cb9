use Rattle.std.proofs.Common.{map, subst}
use Rattle.trees.specs.Modules.{module_tree_of}
use Rattle.front_end.specs.Accepted.{IsModule, octets_of}
use Rattle.front_end.proofs.Lists.{zip_more}
use Rattle.front_end.proofs.Texts.{first_refused}
use Rattle.front_end.proofs.reading.modules_of.Goals as goal

pub returns-in-Err-clause-fault : goal.returns-in-Err-clause-fault
returns-in-Err-clause-fault c =
    first_refused c.args.texts.now c.loop-number.number c.index-texts-number.result c.as_slice.result.now (map module_tree_of c.loop-number.modules.items) c.in-Err.fault c.loop-number-test.true c.index-texts-number.is c.as_slice.ensures.value
    c.loop-number.invariant c.in-Err.ensures.fault

pub loop-number-preserved : goal.loop-number-preserved
loop-number-preserved c =
    zip_more IsModule octets_of module_tree_of c.args.texts.now c.loop-number.number c.index-texts-number.result c.loop-number.modules.items c.push.new.self.items c.in-Ok.module c.loop-number-test.true c.index-texts-number.is c.loop-number.invariant
    c.in_ok-push-in-Ok.ensures.items (subst (λ x. IsModule x (module_tree_of c.in-Ok.module)) c.as_slice.ensures.value c.in-Ok.ensures.module)
