-- A table as it is in memory, and as definitions see it.
use Rattle.std.proofs.Common.{◌≡◌, ℕ, ◌<◌, ◌++◌, List, length, Some, sym, ap, ◌∙◌, get_or, arith, replicate, take}
use Rattle.std.specs.Prelude.{slice_get}
use Rattle.std.proofs.Math.Seq.{take-append_seam}
use Rattle.std.proofs.lemmas.Option.{slice_get_within, slice_get-get_or, get_or_from_slice_get}
use Rattle.std.proofs.lemmas.List.{length-map, length-replicate, get_or-replicate}
use Rattle.names.specs.proving.Distinct.{item_at}
use Rattle.type_table.specs.proving.Cores.{AreCores}
use Rattle.type_table.specs.proving.Notes.{AreUnknown}
use Rattle.type_table.specs.declared.table.TypeNode.{TypeNode}
use Rattle.type_table.specs.Seen.{type_of, types_of}
use Rattle.type_table.specs.Table.{Type', AllUnfold, target, target_of, next}

pub type_at : (ws : List TypeNode) (i : ℕ) (w : TypeNode) →
    i < length ws →
    w ≡ get_or ws i w →
    slice_get (types_of ws) i ≡ Some (type_of w)
type_at ws i w l e = item_at type_of ws i w l e

pub next_at : (ws : List TypeNode) (i : ℕ) (w : TypeNode) →
    i < length ws →
    w ≡ get_or ws i w →
    next (types_of ws) i ≡ target (type_of w).kind
next_at ws i w l e = ap target_of (type_at ws i w l e)

pub as_long : (ws : List TypeNode) → length (types_of ws) ≡ length ws
as_long ws = length-map ws type_of

-- ---- cores

-- if all cores are found, all types unfold
pub all_unfold : (ts : List Type') (cores : List ℕ) → AreCores ts cores → AllUnfold ts
all_unfold ts cores a i l =
    let w : i < length cores = omega (arith, l, a.long) in
    let e = slice_get-get_or cores i 0 w in
    (_, (a.each i _ e).1)

pub alike : (n z j k : ℕ) → slice_get (replicate n z) j ≡ Some k → k ≡ z
alike n z j k e =
    let within : j < n = omega (arith, slice_get_within (replicate n z) j k e, length-replicate n z) in
    sym (get_or_from_slice_get (replicate n z) j k z e) ∙ get_or-replicate n j z z within

-- if each place holds the number of types, no type has a note
pub none_known : (n m : ℕ) → AreUnknown m (replicate n m)
none_known n m i k = let q = alike n m i k.0 k.1 in absurd (omega (arith, q, k.2))

-- a list of as many numbers that is written back is read as it was
pub written_back : (n : ℕ) (new rest : List ℕ) → n ≡ length new → take n (new ++ rest) ≡ new
written_back n new rest e = ap (λ k. take k (new ++ rest)) e ∙ take-append_seam new rest
