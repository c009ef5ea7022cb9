-- The lines of routines, from one type on.
use Rattle.std.proofs.Common.{arith, ◌≡◌, ℕ, zero, suc, ◌+◌, ◌<◌, List, [], ◌∷◌, ◌++◌, length, drop, append_assoc, ap, sym, ◌∙◌, codes, decimal}
use Rattle.std.specs.Prelude.{None, Some, slice_get}
use Rattle.asn_base.specs.Types.{Resolved}
use Rattle.codec_code.specs.Listing.{routine_text, routines_text, steps_text}
use Rattle.codec_code.specs.Routines.{routine_at, routine_of}

-- the lines of the first type that is left come before those of the others
pub next : (s ss : List Resolved) (t i : ℕ) → i < length ss → routines_text s t (drop i ss)
    ≡ codes "type " ++ (decimal t ++ (codes "\n" ++ (steps_text (elim (slice_get ss i) [ None ↦ [] | Some r ↦ routine_of s r ])
    ++ routines_text s (t + 1) (drop (i + 1) ss))))
next s [] t i h = absurd (omega arith)
next s (x ∷ ss) t zero h =
    let e : suc t ≡ t + 1 = omega arith in
    ap (λ k. codes "type " ++ (decimal t ++ (codes "\n" ++ (steps_text (routine_of s x) ++ routines_text s k ss)))) e
next s (x ∷ ss) t (suc i) h =
    let e : suc (i + 1) ≡ suc i + 1 = omega arith in
    next s ss t i (omega arith)
    ∙ ap (λ k. codes "type " ++ (decimal t ++ (codes "\n" ++ (steps_text (elim (slice_get ss i) [ None ↦ [] | Some r ↦ routine_of s r ])
    ++ routines_text s (t + 1) (drop k (x ∷ ss)))))) e

-- the lines of one type are added, and those of the types after it are left
pub step : (s : List Resolved) (i : ℕ) (one more all : List ℕ) → i < length s → more ≡ one ++ routine_text s i
    → one ++ routines_text s i (drop i s) ≡ all → more ++ routines_text s (i + 1) (drop (i + 1) s) ≡ all
step s i one more all h e k =
    let rest : List ℕ = routines_text s (i + 1) (drop (i + 1) s) in
    ap (λ q. q ++ rest) e
    ∙ append_assoc one (routine_text s i) rest
    ∙ ap (λ q. one ++ (codes "type " ++ q)) (append_assoc (decimal i) (codes "\n" ++ steps_text (routine_at s i)) rest)
    ∙ ap (λ q. one ++ q) (sym (next s s i i h))
    ∙ k
