-- Names with a table of them.
use Rattle.std.proofs.Common.{◌≡◌, inl, inr, ℕ, suc, true, false, Bool, ◌||◌, cond, take, get_or, ◌<◌, ◌+◌, length, List, [], ◌∷◌, Some, map, refl, sym, ap, ◌∙◌}
use Rattle.std.specs.Prelude.{String, bytes_eq}
use Rattle.std.specs.Global.{Global}
use Rattle.std.specs.List.{list_any}
use Rattle.std.proofs.Math.Bool.{or-false, or-true}
use Rattle.std.proofs.lemmas.Bool.{or_cases}
use Rattle.std.proofs.lemmas.List.Folds.{list_any_more}
use Rattle.std.proofs.lemmas.Map.Keys.{any_passes_from_place}
use Rattle.trees.specs.declared.location.At.{At}
use Rattle.trees.specs.Values.{Name, name_at}
use Rattle.names.specs.First.{name_spot}
use Rattle.names.specs.Modules.{OccursIn}
use Rattle.names.specs.Names.{names_of}
use Rattle.names.specs.proving.Distinct.{mapped, same_bytes, equal_bytes}

abbrev is_name : Name → At (String Global) → Bool
is_name x n = bytes_eq x (name_at n)

-- names, and the same with their offsets
pub spots_named : (ns : List (At (String Global))) → names_of (map name_spot ns) ≡ map name_at ns
spots_named [] = refl
spots_named (n ∷ ns) = ap (λ l. name_at n ∷ l) (spots_named ns)

pub any_occurs : (x : Name) (ns : List (At (String Global))) → list_any (λ n. bytes_eq x (name_at n)) ns ≡ true →
    OccursIn (map name_at ns) x
any_occurs x [] e = absurd cc
any_occurs x (n ∷ ns) e =
    elim (or_cases (bytes_eq x (name_at n)) (list_any (is_name x) ns) e) [
      | inl a ↦ (0, ap Some (sym (equal_bytes x (name_at n) a)))
      | inr b ↦ (let s = any_occurs x ns b in (suc s.0, s.1))
    ]

pub occurs_any : (x : Name) (ns : List (At (String Global))) → OccursIn (map name_at ns) x →
    list_any (λ n. bytes_eq x (name_at n)) ns ≡ true
occurs_any x ns s =
    let m = mapped name_at ns s.0 x s.1 in
    any_passes_from_place (is_name x) ns s.0 m.0 m.1 (ap (bytes_eq x) m.2 ∙ same_bytes x)

-- one name more
pub any_more : (x : Name) (ns : List (At (String Global))) (i : ℕ) (n : At (String Global)) → i < length ns →
    n ≡ get_or ns i n →
    list_any (λ n. bytes_eq x (name_at n)) (take (i + 1) ns)
    ≡ (list_any (λ n. bytes_eq x (name_at n)) (take i ns) || bytes_eq x (name_at n))
any_more x ns i n l e = list_any_more (is_name x) ns i n l ∙ ap (λ m. list_any (is_name x) (take i ns) || is_name x m) (sym e)

-- which of two names is tested makes no difference
pub either_way : (x y : Name) (b : Bool) → cond (bytes_eq y x) true b ≡ (b || bytes_eq x y)
either_way x y b = by (bytes_eq y x) refl (bytes_eq x y) refl
  where
    by : (p : Bool) → bytes_eq y x ≡ p → (q : Bool) → bytes_eq x y ≡ q → cond p true b ≡ (b || q)
    by true e true f = sym (or-true b)
    by false e false f = sym (or-false b)
    by true e false f =
        let s : y ≡ x = equal_bytes y x e in
        let t : bytes_eq x y ≡ true = ap (bytes_eq x) s ∙ same_bytes x in
        absurd cc
    by false e true f =
        let s : x ≡ y = equal_bytes x y f in
        let t : bytes_eq y x ≡ true = ap (bytes_eq y) s ∙ same_bytes y in
        absurd cc
