-- Trees one after the other.
use Rattle.std.proofs.Common.{◌≡◌, true, ◌∷◌, ◌++◌, refl, sym, ap, ◌∙◌, append_assoc}
use Rattle.codec_code.specs.Events.{opens, puts, closes, leaves_out, row_of_order, Tree, done, piece, lacking, within}
use Rattle.codec_code.specs.Events.{ordered, flat, flats}

abbrev pub join : Tree → Tree → Tree
join done u = u
join (piece x t) u = piece x (join t u)
join (lacking d t) u = lacking d (join t u)
join (within g c k i t) u = within g c k i (join t u)
join (ordered g o ms t) u = ordered g o ms (join t u)

pub flat_join : (t u : Tree) → flat (join t u) ≡ flat t ++ flat u
flat_join done u = refl
flat_join (piece x t) u = ap (λ q. puts x ∷ q) (flat_join t u)
flat_join (lacking d t) u = ap (λ q. leaves_out d ∷ q) (flat_join t u)
flat_join (within g c k i t) u =
    ap (λ q. opens g c k ∷ q) (ap (λ q. flat i ++ closes ∷ q) (flat_join t u)
    ∙ sym (append_assoc (flat i) (closes ∷ flat t) (flat u)))
flat_join (ordered g o ms t) u =
    ap (λ q. opens g true (row_of_order o) ∷ q) (ap (λ q. flats ms ++ closes ∷ q) (flat_join t u)
    ∙ sym (append_assoc (flats ms) (closes ∷ flat t) (flat u)))
