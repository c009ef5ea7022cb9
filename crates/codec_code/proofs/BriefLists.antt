-- What is said of routines, one more of them.
use Rattle.std.proofs.Common.{◌≡◌, ℕ, zero, suc, List, [], ◌∷◌, ◌++◌, length, sym, subst}
use Rattle.std.specs.Prelude.{Some, slice_get}
use Rattle.asn_base.specs.Types.{Resolved}
use Rattle.codec_code.specs.declared.summary.Summary.{Summary}
use Rattle.codec_code.specs.Summaries.{AreSummaries, IsSummary}
use Rattle.codec_code.specs.Routines.{routine_at}

some_same : {x y : Summary} → Some x ≡ Some y → x ≡ y
some_same e = cc

one_more : (P : ℕ → Summary → Type 0) (bs : List Summary) (b : Summary) → ((t : ℕ) (c : Summary) → slice_get bs t ≡ Some c → P t c) → P (length bs) b
    → (t : ℕ) (c : Summary) → slice_get (bs ++ b ∷ []) t ≡ Some c → P t c
one_more P [] b h g zero c e = subst (P 0) (some_same e) g
one_more P [] b h g (suc t) c e = absurd cc
one_more P (x ∷ bs) b h g zero c e = h zero c e
one_more P (x ∷ bs) b h g (suc t) c e = one_more (λ n. P (suc n)) bs b (λ n d f. h (suc n) d f) g t c e

pub more_briefs : (s : List Resolved) (bs : List Summary) (b : Summary) (i : ℕ) → length bs ≡ i → AreSummaries s bs → IsSummary b (routine_at s i) → AreSummaries s (bs ++ b ∷ [])
more_briefs s bs b i e a h = one_more (λ t c. IsSummary c (routine_at s t)) bs b a (subst (λ t. IsSummary b (routine_at s t)) (sym e) h)

pub no_briefs : (s : List Resolved) → AreSummaries s []
no_briefs s t b e = absurd cc
