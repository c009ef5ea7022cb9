-- Components at places.
use Rattle.std.proofs.Common.{◌≡◌, ℕ, zero, suc, true, false, List, [], ◌∷◌, map, refl, sym, ap, subst, ◌∙◌, ◌<◌, ◌≤◌, length, get_or, arith}
use Rattle.std.specs.Prelude.{Option, Some, None, option_map, MatchOption}
use Rattle.asn_base.specs.declared.value.Value.{Value}
use Rattle.asn_base.specs.Abstract.{AbstractValue, abstract, fields, Row, row_of_options}
use Rattle.asn_base.specs.Types.{Resolved}
use Rattle.codec_code.specs.declared.step.Field.{Field as Field'}
use Rattle.codec_code.specs.Steps.{component_at, has_default, may_be_absent, IsDefaultAt, IsLeftOut, is_absent, is_default}
use Rattle.codec_machine.specs.Frames.{HasNoField, LeavesOut, WritesIt}
use Rattle.codec_machine.proofs.Inversion.{same_row}

some_same : {A : Type 0} {x y : A} → Some x ≡ Some y → x ≡ y
some_same e = cc

get_place : (xs : List (Option Value)) (i : ℕ) (d : Option Value)
    → i < length xs
    → component_at (row_of_options (map (option_map abstract) xs)) i ≡ Some (option_map abstract (get_or xs i d))
get_place [] i d h = absurd (omega arith)
get_place (None ∷ xs) zero d h = refl
get_place (Some x ∷ xs) zero d h = refl
get_place (None ∷ xs) (suc i) d h = get_place xs i d (omega arith)
get_place (Some x ∷ xs) (suc i) d h = get_place xs i d (omega arith)

pub place_is : (xs : List (Option Value)) (i : ℕ) (o : Option Value)
    → i < length xs
    → o ≡ get_or xs i o
    → component_at (row_of_options (map (option_map abstract) xs)) i ≡ Some (option_map abstract o)
place_is xs i o h e = get_place xs i o h ∙ ap (λ q. Some (option_map abstract q)) (sym e)

-- there is no such place
pub no_place : (xs : List (Option Value)) (i : ℕ)
    → length xs ≤ i
    → component_at (row_of_options (map (option_map abstract) xs)) i ≡ None
no_place [] i h = refl
no_place (None ∷ xs) zero h = absurd (omega arith)
no_place (Some x ∷ xs) zero h = absurd (omega arith)
no_place (None ∷ xs) (suc i) h = no_place xs i (omega arith)
no_place (Some x ∷ xs) (suc i) h = no_place xs i (omega arith)

pub match_none : {X : Type 0} {A : Type 0} (B : X → Type 0) (o : Option X) → MatchOption o A B → o ≡ None → A
match_none B None m e = m
match_none B (Some x) m e = absurd (cc)

pub match_some : {X : Type 0} (A : Type 0) (B : X → Type 0) (o : Option X) (x : X)
    → MatchOption o A B
    → o ≡ Some x
    → B x
match_some A B None x m e = absurd (cc)
match_some A B (Some y) x m e = subst B (some_same e) m

-- what is left out, of a component that is there
pub left_out_of : {s : List Resolved} {t : ℕ} {f : Field'} {v w : AbstractValue} (row : Row)
    → v ≡ fields row
    → component_at row f.place ≡ Some (Some w)
    → (has_default f.need ≡ true) × IsDefaultAt s t f.place w
    → LeavesOut s t f v
left_out_of row e at d = record { row = row; is = e; left_out = is_default d.0 at d.1 }

pub written_of : {s : List Resolved} {t : ℕ} {f : Field'} {v w : AbstractValue} (row : Row)
    → v ≡ fields row
    → component_at row f.place ≡ Some (Some w)
    → (has_default f.need ≡ true → IsDefaultAt s t f.place w → ⊥)
    → WritesIt s t f v w
written_of row e at d = record { row = row; is = e; written = record { is_at = at; no_default = d } }

-- ---- a component that is neither left out nor written

found_in : {v : AbstractValue} {row other : Row} {o : Option (Option AbstractValue)} (i : ℕ)
    → v ≡ fields row
    → component_at row i ≡ o
    → v ≡ fields other
    → component_at other i ≡ o
found_in i e at h = ap (λ q. component_at q i) (same_row (sym h ∙ e)) ∙ at

left_out_found : {s : List Resolved} {t : ℕ} {f : Field'} {row : Row}
    → component_at row f.place ≡ None
    → IsLeftOut s t f row
    → ⊥
left_out_found n (is_absent m a) = (let e : None ≡ Some None = sym n ∙ a in cc)
left_out_found n (is_default {w = w} h a d) = (let e : None ≡ Some (Some w) = sym n ∙ a in cc)

-- no such place
pub no_field_there : {s : List Resolved} {t : ℕ} {f : Field'} {v : AbstractValue} {row : Row}
    → v ≡ fields row
    → component_at row f.place ≡ None
    → HasNoField s t f v
no_field_there {f = f} e at = (λ l. left_out_found (found_in f.place e at l.is) l.left_out, λ w o. (let h : None ≡ Some (Some w) = sym (found_in f.place e at o.is) ∙ o.written.is_at in cc))

needed : {s : List Resolved} {t : ℕ} {f : Field'} {row : Row}
    → component_at row f.place ≡ Some None
    → false ≡ may_be_absent f.need
    → IsLeftOut s t f row
    → ⊥
needed at m (is_absent b a) = (let e : false ≡ true = m ∙ b in cc)
needed at m (is_default {w = w} h a d) = (let e : None ≡ Some w = some_same (sym at ∙ a) in cc)

-- absent, and must not be
pub needed_field : {s : List Resolved} {t : ℕ} {f : Field'} {v : AbstractValue} {row : Row}
    → v ≡ fields row
    → component_at row f.place ≡ Some None
    → false ≡ may_be_absent f.need
    → HasNoField s t f v
needed_field {f = f} e at m = (λ l. needed (found_in f.place e at l.is) m l.left_out, λ w o. (let h : None ≡ Some w = some_same (sym (found_in f.place e at o.is) ∙ o.written.is_at) in cc))
