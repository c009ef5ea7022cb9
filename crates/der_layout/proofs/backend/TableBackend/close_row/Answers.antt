use Rattle.std.proofs.Common.{rules, ◌≡◌, ◌-◌, ◌∷◌, [], suc, length, refl, sym, ap, ◌∙◌}
use Rattle.codec_code.specs.Events.{closes}
use Rattle.octet_account.specs.Seen.{flat}
use Rattle.der_layout.specs.Rows.{listed}
use Rattle.der_layout.specs.Tables.{state_of, within_row, runs_more}
use Rattle.der_layout.proofs.Rowed.{row_closes}
use Rattle.der_layout.proofs.Seen.{flat_length}
use Rattle.der_layout.proofs.backend.TableBackend.close_row.Goals as goal

pub returns : goal.returns
returns c =
    let t = c.args.self.now in
    let row = c.args.row in
    let a = state_of t in
    let b = state_of c.close_plain.new.table in
    let all : c.len-rows.result ≡ length t.rows.items = search rules in
    let n = c.members_in-self.ensures ∙ ap (λ q. listed (q - suc row.row)) (all ∙ sym (flat_length t.rows.items)) in
    λ z ds o. runs_more ds (closes ∷ []) (state_of z) (within_row row a) b o.runs
    (b, row_closes row a b c.open_of-one.result c.members_in-self.result c.open_of-one.ensures.same n c.in_ok-close_plain.ensures, refl)
