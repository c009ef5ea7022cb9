use Rattle.std.proofs.Common.{rules, ◌≡◌, ◌-◌, ◌∷◌, [], ◌++◌, suc, length, sym, ap, subst, ◌∙◌}
use Rattle.der_layout.specs.Rows.{listed}
use Rattle.der_layout.specs.Tables.{Runs, state_of}
use Rattle.der_layout.proofs.Rowed.{row_kept}
use Rattle.der_layout.proofs.Seen.{flat_length}
use Rattle.der_layout.proofs.backend.TableBackend.keep_row.Goals as goal

pub returns : goal.returns
returns c =
    let t = c.args.self.now in
    let row = c.args.row in
    let a = state_of t in
    let all : c.len-rows.result ≡ length t.rows.items = search rules in
    let n = c.members_in-self.ensures ∙ ap (λ q. listed (q - suc row.row)) (all ∙ sym (flat_length t.rows.items)) in
    λ z ds o. subst (λ q. Runs ds (state_of z) q)
    (row_kept row a c.add_open.new.list.items c.members_in-self.result (c.in_ok-add_open.ensures ∙ ap (λ q. a.opened ++ q ∷ []) c.open_of-one.ensures.same) n) o.runs
