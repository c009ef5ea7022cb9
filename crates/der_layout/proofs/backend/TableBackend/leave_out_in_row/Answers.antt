use Rattle.std.proofs.Common.{refl, ◌∷◌, []}
use Rattle.codec_code.specs.Events.{leaves_out}
use Rattle.der_layout.specs.Tables.{state_of, within_row, runs_more}
use Rattle.der_layout.proofs.Rowed.{left_out_in, still_among}
use Rattle.der_layout.proofs.backend.TableBackend.leave_out_in_row.Goals as goal

pub returns : goal.returns
returns c =
    let row = c.args._row in
    let a = state_of c.args.self.now in
    let b = state_of c.put_left_out.new.table in
    let w = c.in_ok-put_left_out.ensures in
    λ z ds o. record {
      placed = still_among row a.rows b.rows _ w.rows_are o.placed;
      runs = runs_more ds (leaves_out c.args.with_default ∷ []) (state_of z) (within_row row a) (within_row row b) o.runs
          (within_row row b, left_out_in row c.args.with_default a b o.placed w, refl);
    }
