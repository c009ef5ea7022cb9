use mir.Syntax.{w128}
use mir.Val.{SFits}
use Rattle.std.proofs.Common.{rules, subst, ◌↔◌}
use Rattle.std.specs.Prelude.{IsTrue}
use Rattle.std.proofs.lemmas.Int.{to_z-of_z}
use Rattle.asn_base.specs.Abstract.{abstract}
use Rattle.trees.specs.Types.{an_integer}
use Rattle.type_table.specs.Table.{simple}
use Rattle.values.specs.Allowing.{Allows}
use Rattle.values.proofs.Judgings.{decided, judge_integer}
use Rattle.values.proofs.allowed.allows_integer.Goals as goal

pub returns-in-Some : goal.returns-in-Some
returns-in-Some c = λ ns is u.
    let p = c.args.bounded.now.program in
    let i = c.args.ty.index in
    let f : SFits w128 c.in-Some.number = search rules in
    judge_integer p i ns (abstract c.args.value.now) c.in-Some.number c.allows_number.result c.in-Some.ensures
    (subst (λ z. IsTrue c.allows_number.result ↔ Allows p i z) (to_z-of_z w128 c.in-Some.number f)
    (decided p i (simple (an_integer ns)) _ _ is c.allows_number.ensures)) is u
