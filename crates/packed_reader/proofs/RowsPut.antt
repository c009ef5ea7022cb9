-- Values at their places, in memory.
use Rattle.std.proofs.Common.{◌≡◌, ℕ, zero, suc, List, [], ◌∷◌, length, set, Option, Some, None, refl, sym, ap, ◌∙◌}
use Rattle.std.specs.Prelude.{replicate}
use Rattle.asn_base.specs.Abstract.{absent, present, abstract}
use Rattle.asn_base.specs.declared.value.Value.{Value}
use Rattle.asn_base.specs.Types.{Component}
use Rattle.packed_reader.specs.Structures.{no_row, with_value}
use Rattle.packed_reader.specs.proving.Code.{row_of_values}

pub none_present : (cs : List Component) (n : ℕ) (xs : List (Option Value)) → length cs ≡ n → xs ≡ replicate n None → row_of_values xs ≡ no_row cs
none_present cs n xs e h = ap row_of_values (h ∙ ap (λ m. replicate m None) (sym e)) ∙ rows cs
  where
    rows : (ds : List Component) → row_of_values (replicate (length ds) None) ≡ no_row ds
    rows [] = refl
    rows (d ∷ ds) = ap absent (rows ds)

pub put_at : (xs : List (Option Value)) (i : ℕ) (v : Value) → row_of_values (set xs i (Some v)) ≡ with_value i (abstract v) (row_of_values xs)
put_at [] i v = refl
put_at (None ∷ xs) zero v = refl
put_at (Some w ∷ xs) zero v = refl
put_at (None ∷ xs) (suc i) v = ap absent (put_at xs i v)
put_at (Some w ∷ xs) (suc i) v = ap (present (abstract w)) (put_at xs i v)
