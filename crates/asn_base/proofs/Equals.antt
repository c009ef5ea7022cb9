-- Whether two rows are equal, place by place.
use Rattle.std.proofs.Common.{◌≡◌, ℕ, suc, ◌+◌, List, [], ◌∷◌, length, map, drop, get_or, ◌<◌, refl, sym, ap, ◌∙◌}
use Rattle.std.specs.Prelude.{◌↔◌, Option, Some, None}
use Rattle.asn_base.specs.Abstract.{AbstractValue, null, Row, end, absent, present, row_of_options, row_of_list}
use Rattle.asn_base.specs.proving.Lists.{onward, drop_is, length_mapped}

abbrev first_in : Row → Option AbstractValue
first_in end = None
first_in (absent r) = None
first_in (present v r) = Some v

abbrev value_in : Row → AbstractValue
value_in end = null
value_in (absent r) = null
value_in (present v r) = v

abbrev rest_of : Row → Row
rest_of end = end
rest_of (absent r) = r
rest_of (present v r) = r

-- the parts of equal rows are equal
option_parts : (x y : Option AbstractValue) (xs ys : List (Option AbstractValue)) → row_of_options (x ∷ xs) ≡ row_of_options (y ∷ ys) → (x ≡ y) × (row_of_options xs ≡ row_of_options ys)
option_parts None None xs ys e = (refl, ap rest_of e)
option_parts None (Some w) xs ys e = (ap first_in e, ap rest_of e)
option_parts (Some v) None xs ys e = (ap first_in e, ap rest_of e)
option_parts (Some v) (Some w) xs ys e = (ap first_in e, ap rest_of e)

option_joined : (x y : Option AbstractValue) (xs ys : List (Option AbstractValue)) → x ≡ y → row_of_options xs ≡ row_of_options ys → row_of_options (x ∷ xs) ≡ row_of_options (y ∷ ys)
option_joined x y xs ys e f = joined x xs ys f ∙ ap (λ q. row_of_options (q ∷ ys)) e
  where
    joined : (x : Option AbstractValue) (xs ys : List (Option AbstractValue)) → row_of_options xs ≡ row_of_options ys → row_of_options (x ∷ xs) ≡ row_of_options (x ∷ ys)
    joined None xs ys f = ap absent f
    joined (Some v) xs ys f = ap (present v) f

value_parts : (v w : AbstractValue) (vs ws : List AbstractValue) → row_of_list (v ∷ vs) ≡ row_of_list (w ∷ ws) → (v ≡ w) × (row_of_list vs ≡ row_of_list ws)
value_parts v w vs ws e = (ap value_in e, ap rest_of e)

abbrev length_of : Row → ℕ
length_of end = 0
length_of (absent r) = suc (length_of r)
length_of (present v r) = suc (length_of r)

pub option_length : (xs : List (Option AbstractValue)) → length_of (row_of_options xs) ≡ length xs
option_length [] = refl
option_length (None ∷ xs) = ap suc (option_length xs)
option_length (Some v ∷ xs) = ap suc (option_length xs)

value_length : (vs : List AbstractValue) → length_of (row_of_list vs) ≡ length vs
value_length [] = refl
value_length (v ∷ vs) = ap suc (value_length vs)

-- equal rows are equally long
pub options_long : {A : Type 0} (f : A → Option AbstractValue) (xs ys : List A) → row_of_options (map f xs) ≡ row_of_options (map f ys) → length xs ≡ length ys
options_long f xs ys e =
    sym (length_mapped f xs) ∙ sym (option_length (map f xs)) ∙ ap length_of e ∙ option_length (map f ys) ∙ length_mapped f ys

pub values_long : {A : Type 0} (f : A → AbstractValue) (xs ys : List A) → row_of_list (map f xs) ≡ row_of_list (map f ys) → length xs ≡ length ys
values_long f xs ys e =
    sym (length_mapped f xs) ∙ sym (value_length (map f xs)) ∙ ap length_of e ∙ value_length (map f ys) ∙ length_mapped f ys

-- the whole rows are equal exactly if their parts from a place on are
abbrev pub OptionsFrom : List (Option AbstractValue) → List (Option AbstractValue) → ℕ → Type 0
OptionsFrom xs ys i = (row_of_options xs ≡ row_of_options ys) ↔ (row_of_options (drop i xs) ≡ row_of_options (drop i ys))

abbrev pub ValuesFrom : List AbstractValue → List AbstractValue → ℕ → Type 0
ValuesFrom xs ys i = (row_of_list xs ≡ row_of_list ys) ↔ (row_of_list (drop i xs) ≡ row_of_list (drop i ys))

pub options_parted : (xs ys : List (Option AbstractValue)) (i : ℕ) {x y : Option AbstractValue} → drop i xs ≡ x ∷ drop (i + 1) xs → drop i ys ≡ y ∷ drop (i + 1) ys → row_of_options (drop i xs) ≡ row_of_options (drop i ys) → (x ≡ y) × (row_of_options (drop (i + 1) xs) ≡ row_of_options (drop (i + 1) ys))
options_parted xs ys i {x} {y} a b e = option_parts x y _ _ (ap row_of_options (sym a) ∙ e ∙ ap row_of_options b)

pub options_next : (xs ys : List (Option AbstractValue)) (i : ℕ) {x y : Option AbstractValue} → drop i xs ≡ x ∷ drop (i + 1) xs → drop i ys ≡ y ∷ drop (i + 1) ys → x ≡ y → OptionsFrom xs ys i → OptionsFrom xs ys (i + 1)
options_next xs ys i {x} {y} a b e f =
    onward f (λ g. (options_parted xs ys i a b g).1) (λ g. ap row_of_options a ∙ option_joined x y _ _ e g ∙ ap row_of_options (sym b))

-- the same of rows in memory, from the elements at a place
pub same_at : {A : Type 0} (f : A → Option AbstractValue) (xs ys : List A) (i : ℕ) (d e : A) → i < length xs → d ≡ get_or xs i d → i < length ys → e ≡ get_or ys i e
    → OptionsFrom (map f xs) (map f ys) i → row_of_options (map f xs) ≡ row_of_options (map f ys) → f d ≡ f e
same_at f xs ys i d e l is l' is' g h = (options_parted (map f xs) (map f ys) i (drop_is f xs i d l is) (drop_is f ys i e l' is') (g.0 h)).0

pub same_next : {A : Type 0} (f : A → Option AbstractValue) (xs ys : List A) (i : ℕ) (d e : A) → i < length xs → d ≡ get_or xs i d → i < length ys → e ≡ get_or ys i e
    → OptionsFrom (map f xs) (map f ys) i → f d ≡ f e → OptionsFrom (map f xs) (map f ys) (i + 1)
same_next f xs ys i d e l is l' is' g h = options_next (map f xs) (map f ys) i (drop_is f xs i d l is) (drop_is f ys i e l' is') h g

pub values_parted : (xs ys : List AbstractValue) (i : ℕ) {x y : AbstractValue} → drop i xs ≡ x ∷ drop (i + 1) xs → drop i ys ≡ y ∷ drop (i + 1) ys → row_of_list (drop i xs) ≡ row_of_list (drop i ys) → (x ≡ y) × (row_of_list (drop (i + 1) xs) ≡ row_of_list (drop (i + 1) ys))
values_parted xs ys i {x} {y} a b e = value_parts x y _ _ (ap row_of_list (sym a) ∙ e ∙ ap row_of_list b)

pub values_next : (xs ys : List AbstractValue) (i : ℕ) {x y : AbstractValue} → drop i xs ≡ x ∷ drop (i + 1) xs → drop i ys ≡ y ∷ drop (i + 1) ys → x ≡ y → ValuesFrom xs ys i → ValuesFrom xs ys (i + 1)
values_next xs ys i {x} {y} a b e f =
    onward f (λ g. (values_parted xs ys i a b g).1) (λ g. ap row_of_list a ∙ (λ k. present (e k) (g k)) ∙ ap row_of_list (sym b))

abbrev value_or : AbstractValue → Option AbstractValue → AbstractValue
value_or d None = d
value_or d (Some x) = x

pub some_is : {v w : AbstractValue} → Some v ≡ Some w → v ≡ w
some_is {v} e = ap (value_or v) e
