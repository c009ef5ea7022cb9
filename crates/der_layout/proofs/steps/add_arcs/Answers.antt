use Rattle.std.proofs.Common.{rules, ◌≡◌, ◌+◌, ◌-◌, [], ◌∷◌, ◌++◌, length, arith, refl, ap, ◌∙◌, length-append}
use Rattle.std.specs.Prelude.{flat_map}
use Rattle.encodings.specs.Header.{identifier, septets}
use Rattle.octet_account.specs.Flat.{a_leaf}
use Rattle.octet_account.specs.Seen.{flat}
use Rattle.der_layout.specs.Rows.{capped_header}
use Rattle.der_layout.specs.Tables.{with_size}
use Rattle.der_layout.proofs.Trees.{closed_octets}
use Rattle.der_layout.proofs.steps.add_arcs.Goals as goal

pub returns : goal.returns
returns c =
    let t = c.args.table.now in
    let o = t.octets.items in
    let g = c.args.head.tag in
    let b = c.args.head.constructed in
    let f = o ++ identifier g.class g.number b in
    let x = septets c.args.first ++ flat_map septets c.args.others.now in
    let place : c.in_ok-place.place ≡ length f = c.in_ok-place.ensures.place in
    let all : c.push_arcs.new.out.items ≡ (f ++ 0 ∷ []) ++ x = c.in_ok-push_arcs.ensures ∙ ap (λ q. q ++ x) c.in_ok-place.ensures.octets in
    let long : c.len.result ≡ length c.push_arcs.new.out.items = search rules in
    let sum : length c.push_arcs.new.out.items ≡ length f + 1 + length x = ap length all ∙ length-append (f ++ 0 ∷ []) x ∙ ap (λ q. q + length x) (length-append f (0 ∷ [])) in
    let contents : c.len.result - c.in_ok-place.place - 1 ≡ length x = omega (arith, long, sum, place) in
    record {
      octets_are = c.in_ok-close_length.ensures
          ∙ ap (λ q. with_size q c.push_arcs.new.out.items) place
          ∙ ap (with_size (length f)) all
          ∙ closed_octets o x g b;
      opened_are = refl;
      groups_are = refl;
      rows_are = c.in_ok-add_row.ensures ∙ ap (λ q. flat t.rows.items ++ q ∷ []) (c.leaf_row.ensures b ∙ ap (λ q. a_leaf (capped_header g b q)) contents);
      members_are = refl;
    }
