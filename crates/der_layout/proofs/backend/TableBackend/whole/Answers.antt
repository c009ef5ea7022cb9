use Rattle.der_layout.specs.Tables.{state_of}
use Rattle.der_layout.proofs.Leaf.{whole_runs}
use Rattle.der_layout.proofs.backend.TableBackend.whole.Goals as goal

pub returns-in-Ok-clause-ok : goal.returns-in-Ok-clause-ok
returns-in-Ok-clause-ok c =
    let h = c.in-Ok.ensures.adds in (
      h.0,
      h.1,
      whole_runs c.args.head h.0 (state_of c.args.self.now) (state_of c.add_whole.new.table) c.requires h.2,
    )
