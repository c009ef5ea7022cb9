-- Trees one after the other, with their rows.
use Rattle.std.proofs.Common.{◌≡◌, ℕ, ◌+◌, true, List, [], ◌∷◌, ◌++◌, length, refl, sym, ap, ◌∙◌, arith, append_assoc}
use Rattle.encodings.specs.Fewest.{shortest_header}
use Rattle.codec_code.specs.Events.{row_of_order, Tree, done, piece, lacking, within, ordered, Members, no_member, no_component, member, SetMember, HasOctets, PartsOf}
use Rattle.octet_account.specs.Flat.{FlatRow}
use Rattle.account_rows.specs.Lengths.{octets_in}
use Rattle.account_rows.specs.RowLayout.{header_numbers, header_row, left_row, rows_in, rows_among, RowLayout, MemberRows}
use Rattle.codec_code.specs.proving.Join.{join}

pub rows_join : (t u : Tree) → rows_in (join t u) ≡ rows_in t + rows_in u
rows_join done u = omega arith
rows_join (piece x t) u = rows_join t u
rows_join (lacking d t) u = let e = rows_join t u in omega (arith, e)
rows_join (within g c k i t) u = let e = rows_join t u in omega (arith, e)
rows_join (ordered g o ms t) u = let e = rows_join t u in omega (arith, e)

pub octets_join : (t u : Tree) → octets_in (join t u) ≡ octets_in t + octets_in u
octets_join done u = omega arith
octets_join (piece x t) u = let e = octets_join t u in omega (arith, e)
octets_join (lacking d t) u = octets_join t u
octets_join (within g c k i t) u = let e = octets_join t u in omega (arith, e)
octets_join (ordered g o ms t) u = let e = octets_join t u in omega (arith, e)

pub record Joined (t u : Tree) (o : List ℕ) (rs : List FlatRow) : Type 0 where
  pub first : List ℕ
  pub second : List ℕ
  pub first_rows : List FlatRow
  pub second_rows : List FlatRow
  pub one : RowLayout t first first_rows
  pub two : RowLayout u second second_rows
  pub whole : o ≡ first ++ second
  pub rows : rs ≡ first_rows ++ second_rows

after_header : (d x y z : List ℕ) → d ++ (x ++ (y ++ z)) ≡ (d ++ (x ++ y)) ++ z
after_header d x y z = ap (λ q. d ++ q) (sym (append_assoc x y z)) ∙ sym (append_assoc d (x ++ y) z)

pub joined : (t u : Tree) (o : List ℕ) (rs : List FlatRow) → RowLayout (join t u) o rs → Joined t u o rs
joined done u o rs h = record { first = []; second = o; first_rows = []; second_rows = rs; one = (refl, refl); two = h; whole = refl; rows = refl }
joined (piece x t) u o rs h =
    let p = joined t u h.0 rs h.1 in
    record { first = x ++ p.first; second = p.second; first_rows = p.first_rows; second_rows = p.second_rows; one = (p.first, p.one, refl); two = p.two; whole = h.2 ∙ ap (λ q. x ++ q) p.whole ∙ sym (append_assoc x p.first p.second); rows = p.rows }
joined (lacking d t) u o rs h =
    let p = joined t u o h.0 h.1 in
    record { first = p.first; second = p.second; first_rows = left_row d ∷ p.first_rows; second_rows = p.second_rows; one = (p.first_rows, p.one, refl); two = p.two; whole = p.whole; rows = h.2 ∙ ap (λ q. left_row d ∷ q) p.rows }
joined (within g c k i t) u o rs h =
    let p = joined t u h.1 h.3 h.5 in
    let d = shortest_header g c (length h.0) in
    let r = header_row k (header_numbers g c (length h.0)) (rows_in i) [] [] in
    record {
      first = d ++ (h.0 ++ p.first);
      second = p.second;
      first_rows = r ∷ (h.2 ++ p.first_rows);
      second_rows = p.second_rows;
      one = (h.0, p.first, h.2, p.first_rows, h.4, p.one, refl, refl);
      two = p.two;
      whole = h.6 ∙ ap (λ q. d ++ (h.0 ++ q)) p.whole ∙ after_header d h.0 p.first p.second;
      rows = h.7 ∙ ap (λ q. r ∷ (h.2 ++ q)) p.rows ∙ ap (λ q. r ∷ q) (sym (append_assoc h.2 p.first_rows p.second_rows));
    }
joined (ordered g o' ms t) u o rs h =
    let p = joined t u h.3 h.5 h.12 in
    let d = shortest_header g true (length h.2) in
    let r = header_row (row_of_order o') (header_numbers g true (length h.2)) (rows_among ms) h.6 h.7 in
    record {
      first = d ++ (h.2 ++ p.first);
      second = p.second;
      first_rows = r ∷ (h.4 ++ p.first_rows);
      second_rows = p.second_rows;
      one = (h.0, h.1, h.2, p.first, h.4, p.first_rows, h.6, h.7, h.8, h.9, h.10, h.11, p.one, refl, refl);
      two = p.two;
      whole = h.13 ∙ ap (λ q. d ++ (h.2 ++ q)) p.whole ∙ after_header d h.2 p.first p.second;
      rows = h.14 ∙ ap (λ q. r ∷ (h.4 ++ q)) p.rows ∙ ap (λ q. r ∷ q) (sym (append_assoc h.4 p.first_rows p.second_rows));
    }

-- octets with rows are octets of the tree
mutual
  pub is_at : (t : Tree) (o : List ℕ) (rs : List FlatRow) → RowLayout t o rs → HasOctets t o
  is_at done o rs h = h.0
  is_at (piece x t) o rs h = (h.0, is_at t h.0 rs h.1, h.2)
  is_at (lacking d t) o rs h = is_at t o h.0 h.1
  is_at (within g c k i t) o rs h = (h.0, h.1, is_at i h.0 h.2 h.4, is_at t h.1 h.3 h.5, h.6)
  is_at (ordered g a ms t) o rs h = (h.0, h.1, h.2, h.3, parts_stand ms h.0 h.4 h.8, h.9, h.11, is_at t h.3 h.5 h.12, h.13)

  parts_stand : (ms : Members) (ps : List SetMember) (rs : List FlatRow) → MemberRows ms ps rs → PartsOf ms ps
  parts_stand no_member ps rs h = h.0
  parts_stand (no_component d ms) ps rs h = parts_stand ms ps h.0 h.1
  parts_stand (member r i ms) ps rs h = (h.0, h.1, is_at i h.0 h.2 h.4, parts_stand ms h.1 h.3 h.5, h.6)
