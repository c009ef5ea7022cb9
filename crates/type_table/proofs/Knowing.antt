-- Walks and cores.
use Rattle.std.proofs.Common.{◌≡◌, ◌⊎◌, inl, inr, ℕ, zero, suc, ◌+◌, ◌<◌, List, [], ◌∷◌, length, Some, None, refl, sym, ap, ◌∙◌, arith}
use Rattle.type_table.specs.Table.{Type', next, walk, IsUnderlying, IsClosed, IsCircular}
use Rattle.type_table.specs.Walks.{onward}
use Rattle.type_table.specs.proving.Walks.{walk_walk, ended_few, ends_not_back}

core_steps : (ts : List Type') (i j c k : ℕ) → walk ts k i ≡ Some c → next ts c ≡ None → next ts i ≡ Some j →
    k < length ts → IsUnderlying ts j c
core_steps ts i j c zero w f e l =
    let q : i ≡ c = cc in
    let g = sym e ∙ ap (next ts) q ∙ f in
    absurd cc
core_steps ts i j c (suc k) w f e l =
    record { steps = k; few = omega arith; chain = sym (ap (λ o. onward o (λ q. walk ts k q)) e) ∙ w; ends = f }

-- the type that a reference or a tag leads to has the same core
pub core_on : (ts : List Type') (i j c : ℕ) → IsUnderlying ts i c → next ts i ≡ Some j → IsUnderlying ts j c
core_on ts i j c u e = core_steps ts i j c u.steps u.chain u.ends e u.few

-- so has each type before it
pub core_before : (ts : List Type') (k i at c : ℕ) → IsClosed ts → i < length ts → walk ts k i ≡ Some at →
    IsUnderlying ts at c → IsUnderlying ts i c
core_before ts k i at c closed l w u =
    let w' : walk ts (k + u.steps) i ≡ Some c = walk_walk (next ts) k u.steps i at w ∙ u.chain in
    record { steps = k + u.steps; few = ended_few (next ts) (length ts) (k + u.steps) i c closed l w' u.ends; chain = w'; ends = u.ends }

-- a walk that ends comes to a core
pub core_ended : (ts : List Type') (k i c : ℕ) → IsClosed ts → i < length ts → walk ts k i ≡ Some c →
    next ts c ≡ None → IsUnderlying ts i c
core_ended ts k i c closed l w f = record { steps = k; few = ended_few (next ts) (length ts) k i c closed l w f; chain = w; ends = f }

pub core_not_circular : (ts : List Type') (i c : ℕ) → IsUnderlying ts i c → IsCircular ts i → ⊥
core_not_circular ts i c u v = ends_not_back (next ts) i c (record { steps = u.steps; chain = u.chain; ends = u.ends }) v
