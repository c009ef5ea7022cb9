-- The ends of references.
use Rattle.std.proofs.Common.{◌≡◌, ◌⊎◌, inl, inr, ℕ, zero, suc, ◌+◌, ◌-◌, ◌<◌, ◌≤◌, Option, Some, None, refl, sym, ap, ◌∙◌, arith}
use Rattle.type_table.specs.Walks.{onward, follow, EndsAt, IsWithin}
use Rattle.type_table.specs.proving.Walks.{walk_walk}

below_on : (next : ℕ → Option ℕ) (n k i q : ℕ) (o : Option ℕ) →
    next i ≡ o →
    IsWithin next n →
    ((j : ℕ) → j < n → follow next k j ≡ Some q → q < n) →
    onward o (λ j. follow next k j) ≡ Some q →
    q < n
below_on next n k i q None e c go h = absurd cc
below_on next n k i q (Some j) e c go h = go j (c i j e) h

-- a walk stays within the places
pub below : (next : ℕ → Option ℕ) (n k i q : ℕ) → IsWithin next n → i < n → follow next k i ≡ Some q → q < n
below next n zero i q c l e = let s : i ≡ q = cc in omega arith
below next n (suc k) i q c l e = below_on next n k i q (next i) refl c (λ j m. below next n k j q c m) e

pub le_or : (a b : ℕ) → (a ≤ b) ⊎ (b ≤ a)
le_or zero b = inl (omega arith)
le_or (suc a) zero = inr (omega arith)
le_or (suc a) (suc b) =
    elim (le_or a b) [
      | inl h ↦ inl (omega (arith, h))
      | inr h ↦ inr (omega (arith, h))
    ]

pub after_end : (next : ℕ → Option ℕ) (r c d : ℕ) → next c ≡ None → follow next r c ≡ Some d → d ≡ c
after_end next zero c d e f = let q : c ≡ d = cc in sym q
after_end next (suc r) c d e f = let g = ap (λ o. onward o (λ j. follow next r j)) e in absurd cc

ends_before : (next : ℕ → Option ℕ) (i c d k l : ℕ) →
    k ≤ l →
    follow next k i ≡ Some c →
    next c ≡ None →
    follow next l i ≡ Some d →
    d ≡ c
ends_before next i c d k l h e f g =
    let r : ℕ = l - k in
    let s : k + r ≡ l = omega (arith, h) in
    after_end next r c d f (sym (walk_walk next k r i c e) ∙ ap (λ j. follow next j i) s ∙ g)

-- references end at one place alone
pub ends_unique : (next : ℕ → Option ℕ) (i c d : ℕ) → EndsAt next i c → EndsAt next i d → c ≡ d
ends_unique next i c d u v =
    elim (le_or u.steps v.steps) [
      | inl h ↦ sym (ends_before next i c d u.steps v.steps h u.chain u.ends v.chain)
      | inr h ↦ ends_before next i d c v.steps u.steps h v.chain v.ends u.chain
    ]

-- what comes before the end has that end
pub ends_after : (next : ℕ → Option ℕ) (i p c k : ℕ) → follow next k i ≡ Some p → EndsAt next i c → EndsAt next p c
ends_after next i p c k e u =
    elim (le_or k u.steps) [
      | inl h ↦ (let r : ℕ = u.steps - k in
          let s : k + r ≡ u.steps = omega (arith, h) in
          record {
            steps = r;
            chain = sym (walk_walk next k r i p e) ∙ ap (λ j. follow next j i) s ∙ u.chain;
            ends = u.ends;
          })
      | inr h ↦ (let q : p ≡ c = ends_before next i c p u.steps k h u.chain u.ends e in
          record { steps = 0; chain = ap Some q; ends = u.ends })
    ]

pub ends_next : (next : ℕ → Option ℕ) (i j c : ℕ) → next i ≡ Some j → EndsAt next j c → EndsAt next i c
ends_next next i j c e u = record {
  steps = suc u.steps;
  chain = ap (λ o. onward o (λ k. follow next u.steps k)) e ∙ u.chain;
  ends = u.ends;
}
