-- Trees one after the other.
use Rattle.std.proofs.Common.{◌≡◌, ℕ, true, List, [], ◌++◌, length, refl, sym, ap, ◌∙◌, append_assoc}
use Rattle.encodings.specs.Fewest.{shortest_header}
use Rattle.codec_code.specs.Events.{Tree, done, piece, lacking, within, ordered, HasOctets}
use Rattle.codec_code.specs.proving.Join.{join}

pub record Joined (t u : Tree) (o : List ℕ) : Type 0 where
  pub first : List ℕ
  pub second : List ℕ
  pub one : HasOctets t first
  pub two : HasOctets u second
  pub whole : o ≡ first ++ second

rest_after_header : (d x y z : List ℕ) → d ++ (x ++ (y ++ z)) ≡ (d ++ (x ++ y)) ++ z
rest_after_header d x y z = ap (λ q. d ++ q) (sym (append_assoc x y z)) ∙ sym (append_assoc d (x ++ y) z)

pub joined : (t u : Tree) (o : List ℕ) → HasOctets (join t u) o → Joined t u o
joined done u o h = record { first = []; second = o; one = refl; two = h; whole = refl }
joined (piece x t) u o h =
    let p = joined t u h.0 h.1 in
    record { first = x ++ p.first; second = p.second; one = (p.first, p.one, refl); two = p.two; whole = h.2 ∙ ap (λ q. x ++ q) p.whole ∙ sym (append_assoc x p.first p.second) }
joined (lacking d t) u o h =
    let p = joined t u o h in
    record { first = p.first; second = p.second; one = p.one; two = p.two; whole = p.whole }
joined (within g c k i t) u o h =
    let p = joined t u h.1 h.3 in
    let d = shortest_header g c (length h.0) in
    record {
      first = d ++ (h.0 ++ p.first);
      second = p.second;
      one = (h.0, p.first, h.2, p.one, refl);
      two = p.two;
      whole = h.4 ∙ ap (λ q. d ++ (h.0 ++ q)) p.whole ∙ rest_after_header d h.0 p.first p.second;
    }
joined (ordered g o' ms t) u o h =
    let p = joined t u h.3 h.7 in
    let d = shortest_header g true (length h.2) in
    record {
      first = d ++ (h.2 ++ p.first);
      second = p.second;
      one = (h.0, h.1, h.2, p.first, h.4, h.5, h.6, p.one, refl);
      two = p.two;
      whole = h.8 ∙ ap (λ q. d ++ (h.2 ++ q)) p.whole ∙ rest_after_header d h.2 p.first p.second;
    }
