-- The components of a value, by their places.
use Rattle.std.proofs.Common.{◌≡◌, ℕ, zero, suc, ◌+◌, ◌<◌, ◌≤◌, true, false, List, [], ◌∷◌, length, get_or, map, refl, sym, ap, ◌∙◌, arith}
use Rattle.std.specs.Prelude.{Option, Some, None, option_map}
use Rattle.asn_base.specs.declared.value.Value.{Value}
use Rattle.asn_base.specs.Abstract.{AbstractValue, boolean, integer, enumerated, bits, octets, text, null, oid, relative_oid, fields, list, alternative, Row, end, absent, present, abstract, row_of_options}
use Rattle.packed_code.specs.Meaning.{any_from, mark_bit}
use Rattle.packed_writer.specs.proving.Values.{row_at, value_at}

pub past : (xs : List (Option Value)) (i : ℕ) → length xs ≤ i → row_at (row_of_options (map (option_map abstract) xs)) i ≡ None
past [] i h = refl
past (x ∷ xs) zero h = absurd (omega (arith, h))
past (None ∷ xs) (suc i) h = past xs i (omega (arith, h))
past (Some x ∷ xs) (suc i) h = past xs i (omega (arith, h))

pub there : (xs : List (Option Value)) (i : ℕ) (x : Option Value) → i < length xs → x ≡ get_or xs i x → row_at (row_of_options (map (option_map abstract) xs)) i ≡ option_map abstract x
there [] i x h e = absurd (omega (arith, h))
there (None ∷ xs) zero x h e = ap (option_map abstract) (sym e)
there (Some y ∷ xs) zero x h e = ap (option_map abstract) (sym e)
there (None ∷ xs) (suc i) x h e = there xs i x (omega (arith, h)) e
there (Some y ∷ xs) (suc i) x h e = there xs i x (omega (arith, h)) e

-- ---- whether one is present

pub any_at : (ws : Row) (i : ℕ) (w : AbstractValue) → row_at ws i ≡ Some w → any_from i ws ≡ true
any_at end i w e = absurd (cc)
any_at (absent ws) zero w e = absurd (cc)
any_at (present x ws) zero w e = refl
any_at (absent ws) (suc i) w e = any_at ws i w e
any_at (present x ws) (suc i) w e = any_at ws i w e

any_rest : (ws : Row) (i : ℕ) → row_at ws i ≡ None → any_from i ws ≡ any_from (suc i) ws
any_rest end i e = refl
any_rest (absent ws) zero e = refl
any_rest (present x ws) zero e = absurd (cc)
any_rest (absent ws) (suc i) e = any_rest ws i e
any_rest (present x ws) (suc i) e = any_rest ws i e

pub any_next : (ws : Row) (i : ℕ) → row_at ws i ≡ None → any_from i ws ≡ any_from (i + 1) ws
any_next ws i e = any_rest ws i e ∙ ap (λ q. any_from q ws) (let c : suc i ≡ i + 1 = omega arith in c)

pub any_end : (xs : List (Option Value)) (i : ℕ) → length xs ≤ i → any_from i (row_of_options (map (option_map abstract) xs)) ≡ false
any_end [] i h = refl
any_end (x ∷ xs) zero h = absurd (omega (arith, h))
any_end (None ∷ xs) (suc i) h = any_end xs i (omega (arith, h))
any_end (Some x ∷ xs) (suc i) h = any_end xs i (omega (arith, h))

-- ---- values of other kinds

pub no_fields : (v : AbstractValue) (i : ℕ) → ((row : Row) → v ≡ fields row → ⊥) → value_at v i ≡ None
no_fields (fields ws) i n = absurd (n ws refl)
no_fields q i n = refl

pub no_mark : (v : AbstractValue) (i : ℕ) → ((row : Row) → v ≡ fields row → ⊥) → mark_bit i v ≡ false
no_mark (fields ws) i n = absurd (n ws refl)
no_mark q i n = refl
