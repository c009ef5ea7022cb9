-- A header, contents and the end of the header at once.
use Rattle.std.proofs.Common.{◌≡◌, ℕ, inr, List, [], ◌∷◌, ◌++◌, length, refl, sym, ap, subst, ◌∙◌}
use Rattle.encodings.specs.Header.{identifier}
use Rattle.codec_code.specs.declared.step.Head.{Head as Head'}
use Rattle.codec_code.specs.declared.step.RowKind.TheVariants.{Leaf}
use Rattle.codec_code.specs.Events.{opens, puts, closes}
use Rattle.octet_account.specs.Flat.{an_absent}
use Rattle.account_rows.specs.RowLayout.{header_row}
use Rattle.der_layout.specs.Rows.{listed, capped_header}
use Rattle.der_layout.specs.Tables.{State, an_open, taken, GroupBegins, GroupEnds, WholeAdded, Runs}
use Rattle.der_layout.proofs.Lists.{set_end, after_held}
use Rattle.der_layout.proofs.Trees.{state, closed_octets}

pub whole_runs : (h : Head') (x : List ℕ) (a b : State)
    → h.row ≡ Leaf
    → WholeAdded h x a b
    → Runs (opens h.tag h.constructed h.row ∷ puts x ∷ closes ∷ []) a b
whole_runs h x a b row w =
    let g = h.tag in
    let c = h.constructed in
    let f = a.octets ++ identifier g.class g.number c in
    let open' = an_open g c h.row a in
    let b1 = state (f ++ 0 ∷ []) (a.opened ++ open' ∷ []) a.groups (a.rows ++ an_absent ∷ []) 0 in
    let b2 = state ((f ++ 0 ∷ []) ++ x) (a.opened ++ open' ∷ []) a.groups (a.rows ++ an_absent ∷ []) 0 in (
      b1,
      (
        b1,
        record { octets_are = refl; opened_are = refl; groups_are = refl; rows_are = refl; members_are = refl },
        subst (λ q. GroupBegins q b1 b1) (sym row) refl,
      ),
      (
        b2,
        record { octets_are = refl; opened_are = refl; groups_are = refl; rows_are = refl; members_are = refl },
        (
          b,
          inr (record {
            one = open';
            others = a.opened;
            within = taken b2 a.opened;
            places = [];
            inverse = [];
            from = refl;
            group_ends = subst (λ q. GroupEnds q [] [] (taken b2 a.opened) (taken b2 a.opened)) (sym row) (refl, refl, refl);
            header_closes = λ _. record {
              octets_are = w.octets_are ∙ sym (closed_octets a.octets x g c);
              opened_are = w.opened_are;
              groups_are = w.groups_are;
              rows_are = w.rows_are
                  ∙ ap (λ q. a.rows ++ header_row q (capped_header g c (length x)) (listed 0) [] [] ∷ []) (sym row)
                  ∙ ap (λ q. a.rows ++ header_row h.row (capped_header g c (length q)) (listed 0) [] [] ∷ []) (sym (after_held f x))
                  ∙ sym (set_end a.rows an_absent _);
              members_are = w.members_are;
            };
          }),
          refl,
        ),
      ),
    )
