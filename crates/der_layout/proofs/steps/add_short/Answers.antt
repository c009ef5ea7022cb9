use Rattle.std.proofs.Common.{[], ◌∷◌, ◌++◌, ◌<◌, length, refl, sym, ap, ◌∙◌, arith}
use Rattle.octet_account.specs.Flat.{a_leaf}
use Rattle.octet_account.specs.Seen.{flat}
use Rattle.primitive_writer.specs.Pieces.{short_octets}
use Rattle.der_layout.specs.Rows.{capped_header}
use Rattle.der_layout.proofs.Room.{short_header}
use Rattle.der_layout.proofs.steps.add_short.Goals as goal

pub returns : goal.returns
returns c =
    let t = c.args.table.now in
    let o = t.octets.items in
    let x = short_octets c.args.octets in
    let g = c.args.head.tag in
    let b = c.args.head.constructed in
    let few : length x < 128 = (let l = c.short_len.ensures.count in let m = c.short_len.ensures.few in omega (arith, l, m)) in
    record {
      octets_are = c.in_ok-push_short.ensures ∙ ap (λ q. o ++ (q ++ x)) (sym (short_header g b c.args.first (length x) c.requires few));
      opened_are = refl;
      groups_are = refl;
      rows_are = c.in_ok-add_row.ensures
          ∙ ap (λ q. flat t.rows.items ++ q ∷ []) (c.leaf_row.ensures b ∙ ap (λ q. a_leaf (capped_header g b q)) c.short_len.ensures.count);
      members_are = refl;
    }
