use Rattle.std.proofs.Common.{[], ◌∷◌, ◌++◌, length, refl, sym, ap, ◌∙◌, append_assoc}
use Rattle.encodings.specs.Fewest.{shortest_header}
use Rattle.primitive_writer.specs.Pieces.{joined_pieces}
use Rattle.octet_account.specs.Flat.{a_leaf}
use Rattle.octet_account.specs.Seen.{flat}
use Rattle.der_layout.specs.Rows.{capped_header}
use Rattle.der_layout.proofs.steps.add_any.Goals as goal

pub returns-in_ok-add_row-in-Some-clause-adds : goal.returns-in_ok-add_row-in-Some-clause-adds
returns-in_ok-add_row-in-Some-clause-adds c =
    let t = c.args.table.now in
    let g = c.args.head.tag in
    let b = c.args.head.constructed in
    let x = joined_pieces c.in-Some.octets in
    let n = c.octet_count-contents.ensures in (
      x,
      c.in-Some.ensures,
      record {
        octets_are = c.in_ok-push_contents-in-Some.ensures
            ∙ ap (λ q. q ++ x) (c.in_ok-push_header-in-Some.ensures ∙ ap (λ q. t.octets.items ++ shortest_header g b q) (sym n))
            ∙ append_assoc t.octets.items (shortest_header g b (length x)) x;
        opened_are = refl;
        groups_are = refl;
        rows_are = c.in_ok-add_row-in-Some.ensures
            ∙ ap (λ q. flat t.rows.items ++ q ∷ []) (c.leaf_row.ensures b ∙ ap (λ q. a_leaf (capped_header g b q)) (sym n));
        members_are = refl;
      },
    )
