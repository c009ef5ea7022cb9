-- Searches by halves.
use Rattle.std.proofs.Common.{◌≡◌, ℕ, zero, suc, ◌+◌, ◌<◌, ◌≤◌, List, Some, None, refl, ap, ◌∙◌, option_map}
use Rattle.std.specs.Prelude.{slice_get, if◌then◌else◌}
use Rattle.std.proofs.lemmas.Bool.{lt-ltb, le-ltb}
use Rattle.std.specs.Ordering.{nat_cmp}
use Rattle.std.specs.Cmp.Lexicographic.{slice_cmp}
use Rattle.std.specs.declared.cmp.Ordering.{Ordering}
use Rattle.std.specs.declared.cmp.Ordering.TheVariants.{Less, Equal, Greater}
use Rattle.trees.specs.Values.{Name}
use Rattle.range_ends.specs.proving.Keys.{compared, by_order, middle, key_between}

module _ (ns : List Name) (x : Name) where
  pub over : (r low high : ℕ) → high ≤ low → key_between r ns x low high ≡ None
  over zero low high l = refl
  over (suc r) low high l =
      ap (λ b. if b
      then by_order (compared ns x (middle low high)) (key_between r ns x (middle low high + 1) high) (Some (middle low high))
      (key_between r ns x low (middle low high))
      else None) (le-ltb low high l)

  module _ (r low high : ℕ) (y : Name) (l : low < high) (e : slice_get ns (middle low high) ≡ Some y) where
    by_comparison : (o : Ordering) →
        slice_cmp nat_cmp y x ≡ o →
        key_between (suc r) ns x low high
        ≡ by_order (Some o) (key_between r ns x (middle low high + 1) high) (Some (middle low high))
        (key_between r ns x low (middle low high))
    by_comparison o c =
        ap (λ b. if b
        then by_order (compared ns x (middle low high)) (key_between r ns x (middle low high + 1) high) (Some (middle low high))
        (key_between r ns x low (middle low high))
        else None) (lt-ltb low high l)
        ∙ ap (λ q. by_order q (key_between r ns x (middle low high + 1) high) (Some (middle low high))
        (key_between r ns x low (middle low high)))
        (ap (option_map (λ z. slice_cmp nat_cmp z x)) e ∙ ap Some c)

    pub goes_up : slice_cmp nat_cmp y x ≡ Less → key_between (suc r) ns x low high ≡ key_between r ns x (middle low high + 1) high
    goes_up c = by_comparison Less c

    pub is_found : slice_cmp nat_cmp y x ≡ Equal → key_between (suc r) ns x low high ≡ Some (middle low high)
    is_found c = by_comparison Equal c

    pub goes_down : slice_cmp nat_cmp y x ≡ Greater → key_between (suc r) ns x low high ≡ key_between r ns x low (middle low high)
    goes_down c = by_comparison Greater c
