use Rattle.std.proofs.Common.{rules, ◌≡◌, ◌+◌, ◌<◌, ◌∷◌, [], ◌++◌, length, refl, sym, ap, ◌∙◌, arith, length-append}
use Rattle.octet_account.specs.Flat.{an_absent}
use Rattle.octet_account.specs.Seen.{flat}
use Rattle.der_layout.proofs.Rowed.{a_row, none_in, place_among}
use Rattle.der_layout.proofs.Seen.{flat_length}
use Rattle.der_layout.proofs.steps.open_apart.Goals as goal

pub returns-clause-opens : goal.returns-clause-opens
returns-clause-opens c =
    let t = c.args.table.now in
    let n : c.len-row.result ≡ length (flat t.rows.items) = (let all : c.len-row.result ≡ length t.rows.items = search rules in all ∙ sym (flat_length t.rows.items)) in
    record {
      octets_are = c.in_ok-place.ensures.octets;
      opened_are = ap (λ q. t.opened.items ++ q ∷ []) (a_row c.args.tag c.args.constructed t.members c.in_ok-place.ensures.place n);
      groups_are = refl;
      rows_are = c.in_ok-add_row.ensures;
      members_are = none_in (flat t.rows.items) (flat c.add_row.new.list.items) an_absent c.in_ok-add_row.ensures n;
    }

pub returns-clause-placed : goal.returns-clause-placed
returns-clause-placed c =
    let t = c.args.table.now in
    let n : c.len-row.result ≡ length (flat t.rows.items) = (let all : c.len-row.result ≡ length t.rows.items = search rules in all ∙ sym (flat_length t.rows.items)) in
    place_among (flat t.rows.items) (flat c.add_row.new.list.items) an_absent c.in_ok-add_row.ensures n
