use Rattle.std.proofs.Common.{◌∷◌, []}
use Rattle.codec_code.specs.Events.{opens, puts, closes}
use Rattle.der_layout.specs.Tables.{state_of, within_row, runs_more}
use Rattle.der_layout.proofs.Leaf.{whole_runs}
use Rattle.der_layout.proofs.Rowed.{still_among, whole_in}
use Rattle.der_layout.proofs.backend.TableBackend.whole_in_row.Goals as goal

pub returns-in-Ok-clause-ok : goal.returns-in-Ok-clause-ok
returns-in-Ok-clause-ok c =
    let h = c.in-Ok.ensures.adds in
    let e = c.args.head in
    let row = c.args._row in
    let a = state_of c.args.self.now in
    let b = state_of c.put_whole.new.table in (
      h.0,
      h.1,
      λ z ds o. record {
        placed = still_among row a.rows b.rows _ h.2.rows_are o.placed;
        runs = runs_more ds (opens e.tag e.constructed e.row ∷ puts h.0 ∷ closes ∷ []) (state_of z) (within_row row a) (within_row row b) o.runs
            (whole_runs e h.0 (within_row row a) (within_row row b) c.requires (whole_in row e h.0 a b o.placed h.2));
      },
    )
