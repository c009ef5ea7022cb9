-- Worked rows: what a text names.
use Rattle.std.proofs.Common.{arith, ◌≡◌, ℕ, zero, suc, ◌<◌, [], ◌∷◌, length, refl, get_or}
use Rattle.std.specs.Prelude.{codes}
use Rattle.trees.specs.Values.{Name}
use Rattle.named_values.specs.Named.{IsQualified}

-- the name M
abbrev module_name : Name
module_name = 77 ∷ []

less_is_other : (n m : ℕ) → m < n → n ≡ m → ⊥
less_is_other n m l e = omega (arith, l, e)

-- the name has no dot
no_dot : (i : ℕ) → i < length module_name → get_or module_name i 0 ≡ 46 → ⊥
no_dot zero l e = less_is_other 77 46 (omega arith) e
no_dot (suc i) l e = let k : suc i < 1 = l in absurd (omega (arith, k))

-- M.x is x in the module M
a_name : IsQualified (codes "M.x") module_name (codes "x")
a_name = record { spelled = refl; plain = no_dot }

-- M.x.y is x.y in the module M, and not y in a module M.x
a_dot_behind : IsQualified (codes "M.x.y") module_name (codes "x.y")
a_dot_behind = record { spelled = refl; plain = no_dot }

no_dot_before : IsQualified (codes "M.x.y") (codes "M.x") (codes "y") → ⊥
no_dot_before q = q.plain 1 (omega arith) refl
