use Rattle.std.proofs.Common.{◌≡◌, ◌++◌, subst}
use Rattle.std.specs.Prelude.{OnOk}
use Rattle.asn_base.specs.Abstract.{abstract}
use Rattle.primitive_writer.specs.Pieces.{joined_pieces}
use Rattle.primitive_writer.proofs.push.push_leaf.Goals as goal

pub returns-clause-ok : goal.returns-clause-ok
returns-clause-ok c = λ x h.
    subst (λ q. OnOk c.push_pieces.result (c.push_pieces.new.out.items ≡ c.args.out.now.items ++ q))
    (c.lemma_one_contents.ensures c.args.kind (abstract c.args.value.now) (joined_pieces c.in-Some.octets) x c.in-Some.ensures h)
    c.push_pieces.ensures.ok
