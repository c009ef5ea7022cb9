-- The levels of defaults in a table.
use Rattle.std.proofs.Common.{arith, ◌≡◌, ℕ, zero, suc, ◌+◌, ◌<◌, ◌≤◌, Bool, List, [], ◌∷◌, ◌++◌, length, map, get_or, inl, inr, refl, sym, subst, ap, ◌∙◌}
use Rattle.std.specs.Prelude.{◌↔◌, ◌⊎◌, IsTrue, IfSome, Option, Some, None, option_map, slice_get, Vec, leb}
use Rattle.std.specs.declared.alloc.Global.{Global}
use Rattle.std.proofs.lemmas.Bool.{leb-true, le-leb}
use Rattle.asn_base.specs.declared.schema.Presence.{Presence as Presence'}
use Rattle.asn_base.specs.declared.schema.Presence.TheVariants as presences
use Rattle.asn_base.specs.Abstract.{AbstractValue, Row}
use Rattle.asn_base.specs.declared.schema.Resolved.{Resolved as Resolved'}
use Rattle.asn_base.specs.Seen.{presence_of, resolved_of}
use Rattle.asn_base.specs.Depths.{in_row, row_at, depth_at, rows_of, IsDepth, IsDepthRow, AreDepths, AreKnown, AreOf, NoneAbove}
use Rattle.asn_base.specs.Schemas.{components}
use Rattle.asn_base.specs.Types.{Kind, Presence, default, Component, Resolved}
use Rattle.asn_base.specs.Typed.{ValueIn, value_in, ValueOf, of_leaf, of_sequence, of_set, of_sequence_of, of_set_of, of_choice, MayBeAbsent, where_optional, where_default, where_addition, AreComponents, no_component, component_absent, component_present, AreElements, no_element, one_element}
use Rattle.asn_base.proofs.Parts.{by_default, no_levels}
use Rattle.asn_base.specs.proving.Lists.{length_mapped, onward}

-- ---- a value of some levels is one of more

mutual
  pub one_level_more : {s : List Resolved} {n t : ℕ} {v : AbstractValue} → ValueIn s n t v → ValueIn s (suc n) t v
  one_level_more (value_in i a) = value_in i (more_of a)

  more_of : {s : List Resolved} {n : ℕ} {k : Kind} {v : AbstractValue} → ValueOf s n k v → ValueOf s (suc n) k v
  more_of (of_leaf f) = of_leaf f
  more_of (of_sequence a g) = of_sequence (more_components a) g
  more_of (of_set a g) = of_set (more_components a) g
  more_of (of_sequence_of a z) = of_sequence_of (more_elements a) z
  more_of (of_set_of a z) = of_set_of (more_elements a) z
  more_of (of_choice g a) = of_choice g (one_level_more a)

  more_absent : {s : List Resolved} {n t : ℕ} {p : Presence} → MayBeAbsent s n t p → MayBeAbsent s (suc n) t p
  more_absent where_optional = where_optional
  more_absent (where_default a) = where_default (one_level_more a)
  more_absent where_addition = where_addition

  more_components : {s : List Resolved} {n : ℕ} {cs : List Component} {vs : Row} → AreComponents s n cs vs → AreComponents s (suc n) cs vs
  more_components no_component = no_component
  more_components (component_absent m a) = component_absent (more_absent m) (more_components a)
  more_components (component_present v a) = component_present (one_level_more v) (more_components a)

  more_elements : {s : List Resolved} {n u : ℕ} {vs : Row} → AreElements s n u vs → AreElements s (suc n) u vs
  more_elements no_element = no_element
  more_elements (one_element v a) = one_element (one_level_more v) (more_elements a)

below_or : (m n : ℕ) → (m ≤ n) ⊎ (n < m)
below_or zero n = inl (omega arith)
below_or (suc m) zero = inr (omega arith)
below_or (suc m) (suc n) = elim (below_or m n) [ inl l ↦ inl (omega arith) | inr l ↦ inr (omega arith) ]

pub more_levels : (s : List Resolved) (t m n : ℕ) (v : AbstractValue) → m ≤ n → ValueIn s m t v → ValueIn s n t v
more_levels s t m n v l a = go n (omega arith)
  where
    go : (k : ℕ) → m ≤ k → ValueIn s k t v
    go zero h = subst (λ q. ValueIn s q t v) (let e : m ≡ 0 = omega arith in e) a
    go (suc k) h = elim (below_or m k) [
      | inl i ↦ one_level_more (go k i)
      | inr i ↦ subst (λ q. ValueIn s q t v) (let e : m ≡ suc k = omega arith in e) a
    ]

-- ---- tables

pub row_end : (rows : List (List ℕ)) (t : ℕ) → length rows ≤ t → row_at rows t ≡ []
row_end [] t l = refl
row_end (r ∷ rows) zero l = absurd (omega arith)
row_end (r ∷ rows) (suc t) l = row_end rows t (omega arith)

pub row_here : (vs : List (Vec ℕ Global)) (t : ℕ) (d : Vec ℕ Global) → t < length vs → row_at (rows_of vs) t ≡ (get_or vs t d).items
row_here [] t d l = absurd (omega arith)
row_here (v ∷ vs) zero d l = refl
row_here (v ∷ vs) (suc t) d l = row_here vs t d (omega arith)

pub in_row_end : (row : List ℕ) (j : ℕ) → length row ≤ j → in_row row j ≡ 1
in_row_end [] j l = refl
in_row_end (r ∷ row) zero l = absurd (omega arith)
in_row_end (r ∷ row) (suc j) l = in_row_end row j (omega arith)

pub in_row_here : (row : List ℕ) (j : ℕ) → j < length row → in_row row j ≡ get_or row j 0
in_row_here [] j l = absurd (omega arith)
in_row_here (r ∷ row) zero l = refl
in_row_here (r ∷ row) (suc j) l = in_row_here row j (omega arith)

pub no_row : (rows : List (Vec ℕ Global)) (t j : ℕ) → length rows ≤ t → depth_at (rows_of rows) t j ≡ 1
no_row rows t j l = let e = length_mapped (λ v. v.items) rows in ap (λ q. in_row q j) (row_end (rows_of rows) t (omega (arith, e)))

-- the component at a place
pub component_at : {A : Type 0} (f : A → Component) (xs : List A) (i : ℕ) (d : A) → i < length xs → d ≡ get_or xs i d → slice_get (map f xs) i ≡ Some (f d)
component_at f [] i d l e = absurd (omega arith)
component_at f (x ∷ xs) zero d l e = ap (λ q. Some (f q)) (sym e)
component_at f (x ∷ xs) (suc i) d l e = component_at f xs i d (omega arith) e

pub known_at : (s : List Resolved) (b t i : ℕ) (cs : List Component) (c : Component) (table : Option (Vec (Vec ℕ Global) Global)) → AreKnown s b table → AreOf s t cs → slice_get cs i ≡ Some c → IfSome (option_map (λ v. depth_at (rows_of v.items) t i) table) (IsDepth s b c)
known_at s b t i cs c None k o e = tt
known_at s b t i cs c (Some v) k o e = k t o.0 o.1 i c (ap (λ q. slice_get q i) o.2 ∙ e)

pub known_row : (s : List Resolved) (b t i : ℕ) (cs : List Component) (c : Component) (table : Option (Vec (Vec ℕ Global) Global)) → AreKnown s b table → AreOf s t cs → slice_get cs i ≡ Some c → IfSome table (λ v. IsDepth s b c (depth_at (rows_of v.items) t i))
known_row s b t i cs c None k o e = tt
known_row s b t i cs c (Some v) k o e = k t o.0 o.1 i c (ap (λ q. slice_get q i) o.2 ∙ e)

pub before_depth : (s : List Resolved) (b : ℕ) (c : Component) (t i : ℕ) (table : Option (Vec (Vec ℕ Global) Global)) (l : ℕ) → IfSome table (λ v. IsDepth s b c (depth_at (rows_of v.items) t i)) → Some l ≡ option_map (λ v. depth_at (rows_of v.items) t i) table → IsDepth s b c l
before_depth s b c t i None l k e = absurd (cc)
before_depth s b c t i (Some v) l k e = subst (λ q. IsDepth s b c q) (let h : depth_at (rows_of v.items) t i ≡ l = cc in h) k

pub type_at : (xs : List Resolved') (i : ℕ) (d : Resolved') → i < length xs → d ≡ get_or xs i d → slice_get (map resolved_of xs) i ≡ Some (resolved_of d)
type_at [] i d l e = absurd (omega arith)
type_at (x ∷ xs) zero d l e = ap (λ q. Some (resolved_of q)) (sym e)
type_at (x ∷ xs) (suc i) d l e = type_at xs i d (omega arith) e

-- ---- a component that is absent

pub by_depth : (s : List Resolved) (b : ℕ) (c : Component) {d : AbstractValue} {r : Bool} (l : ℕ) → c.presence ≡ default d → IsDepth s b c l → IsTrue r ↔ (l ≤ b) → IsTrue r ↔ MayBeAbsent s b c.type c.presence
by_depth s b c {d} l e k a = let f = k d e b (omega arith) in by_default e (onward a f.0 f.1)

pub at_most : (m n : ℕ) → IsTrue (leb m n) ↔ (m ≤ n)
at_most m n = (λ t. leb-true m n t, λ l. le-leb m n l)

-- ---- one more level

same_default : {p : Presence} {d e : AbstractValue} → p ≡ default d → p ≡ default e → d ≡ e
same_default a b = let h = sym a ∙ b in cc

pub not_default : (p : Presence') → ((v : _) → p ≡ presences.Default v → ⊥) → (d : AbstractValue) → presence_of p ≡ default d → ⊥
not_default presences.Mandatory f d e = cc
not_default presences.Optional f d e = cc
not_default (presences.Default v) f d e = f v refl
not_default (presences.Addition a) f d e = cc

pub kept_depth : (s : List Resolved) (b : ℕ) (c : Component) (l : ℕ) → IsDepth s b c l → l ≤ b → IsDepth s (b + 1) c l
kept_depth s b c l k h d e n m = (
  λ i. elim (below_or n b) [
    | inl x ↦ (k d e n x).0 i
    | inr x ↦ more_levels s c.type b n d (omega arith) ((k d e b (omega arith)).0 h)
  ],
  λ v. elim (below_or n b) [ inl x ↦ (k d e n x).1 v | inr x ↦ omega arith ],
)

not_yet : (s : List Resolved) (b : ℕ) (c : Component) (l : ℕ) → IsDepth s b c l → b < l → (d : AbstractValue) → c.presence ≡ default d → (n : ℕ) → ValueIn s n c.type d → b < n
not_yet s b c l k h d e n v = elim (below_or n b) [ inl x ↦ absurd (let i = (k d e n x).1 v in omega arith) | inr x ↦ x ]

pub found_depth : (s : List Resolved) (b : ℕ) (c : Component) (l : ℕ) {f : AbstractValue} → IsDepth s b c l → b < l → c.presence ≡ default f → ValueIn s (b + 1) c.type f → IsDepth s (b + 1) c (b + 1)
found_depth s b c l {f} k h p v d e n m = (
  λ i.
      let w = subst (λ q. ValueIn s (b + 1) c.type q) (same_default p e) v in
      subst (λ q. ValueIn s q c.type d) (let g : b + 1 ≡ n = omega arith in g) w,
  λ w. let i = not_yet s b c l k h d e n w in omega arith,
)

pub later_depth : (s : List Resolved) (b : ℕ) (c : Component) (l : ℕ) {f : AbstractValue} → IsDepth s b c l → b < l → c.presence ≡ default f → (ValueIn s (b + 1) c.type f → ⊥) → IsDepth s (b + 1) c (b + 2)
later_depth s b c l {f} k h p v d e n m = (
  λ i. absurd (omega arith),
  λ w.
      let i = not_yet s b c l k h d e n w in
      let g : n ≡ b + 1 = omega arith in
      absurd (v (subst (λ q. ValueIn s (b + 1) c.type q) (same_default e p) (subst (λ q. ValueIn s q c.type d) g w))),
)

-- ---- rows and tables, made from the front

abbrev pub RowSoFar : List Resolved → ℕ → List Component → List ℕ → ℕ → Type 0
RowSoFar s b cs row i = (length row ≡ i) × ((j : ℕ) (c : Component) → j < i → slice_get cs j ≡ Some c → IsDepth s b c (in_row row j))

pub row_start : (s : List Resolved) (b : ℕ) (cs : List Component) (row : List ℕ) → row ≡ [] → RowSoFar s b cs row 0
row_start s b cs row e = (ap length e, λ j c l f. absurd (omega arith))

in_front : (row : List ℕ) (l j : ℕ) → j < length row → in_row (row ++ l ∷ []) j ≡ in_row row j
in_front [] l j h = absurd (omega arith)
in_front (r ∷ row) l zero h = refl
in_front (r ∷ row) l (suc j) h = in_front row l j (omega arith)

in_last : (row : List ℕ) (l : ℕ) → in_row (row ++ l ∷ []) (length row) ≡ l
in_last [] l = refl
in_last (r ∷ row) l = in_last row l

one_longer : {A : Type 0} (xs : List A) (x : A) → length (xs ++ x ∷ []) ≡ length xs + 1
one_longer [] x = refl
one_longer (y ∷ xs) x = let h = one_longer xs x in omega arith

same_found : {A : Type 0} {o : Option A} {x y : A} → o ≡ Some x → o ≡ Some y → x ≡ y
same_found a b = let h = sym a ∙ b in cc

pub row_step : (s : List Resolved) (b : ℕ) (cs : List Component) (row row' : List ℕ) (i l : ℕ) (c : Component) → slice_get cs i ≡ Some c → IsDepth s b c l → row' ≡ row ++ l ∷ [] → RowSoFar s b cs row i → RowSoFar s b cs row' (i + 1)
row_step s b cs row row' i l c e k more a = (
  ap length more ∙ one_longer row l ∙ ap (λ n. n + 1) a.0,
  λ j d h f.
      let lng : length row ≡ i = a.0 in
      elim (below_or i j) [
        | inl x ↦
            let at : j ≡ length row = omega arith in
            let it : c ≡ d = same_found e (ap (slice_get cs) (let g : i ≡ j = omega arith in g) ∙ f) in
            subst (λ q. IsDepth s b q (in_row row' j)) it (subst (λ q. IsDepth s b c q) (sym (ap (λ q. in_row q j) more ∙ ap (in_row (row ++ l ∷ [])) at ∙ in_last row l)) k)
        | inr x ↦ subst (λ q. IsDepth s b d q) (sym (ap (λ q. in_row q j) more ∙ in_front row l j (omega arith))) (a.1 j d x f)
      ],
)

found_below : {A : Type 0} (xs : List A) (j : ℕ) (x : A) → slice_get xs j ≡ Some x → j < length xs
found_below [] j x e = cc
found_below (y ∷ xs) zero x e = omega arith
found_below (y ∷ xs) (suc j) x e = let h = found_below xs j x e in omega arith

pub row_done : (s : List Resolved) (b : ℕ) (cs : List Component) (row : List ℕ) (i : ℕ) → length cs ≤ i → RowSoFar s b cs row i → IsDepthRow s b cs row
row_done s b cs row i l a j c e = let h = found_below cs j c e in a.1 j c (omega arith) e

abbrev pub RowsSoFar : List Resolved → ℕ → List (List ℕ) → ℕ → Type 0
RowsSoFar s b rows i = (length rows ≡ i) × ((t : ℕ) (r : Resolved) → t < i → slice_get s t ≡ Some r → IsDepthRow s b (components r.kind) (row_at rows t))

pub rows_start : (s : List Resolved) (b : ℕ) (rows : List (List ℕ)) → rows ≡ [] → RowsSoFar s b rows 0
rows_start s b rows e = (ap length e, λ j c l f. absurd (omega arith))

row_in_front : (rows : List (List ℕ)) (row : List ℕ) (t : ℕ) → t < length rows → row_at (rows ++ row ∷ []) t ≡ row_at rows t
row_in_front [] row t h = absurd (omega arith)
row_in_front (r ∷ rows) row zero h = refl
row_in_front (r ∷ rows) row (suc t) h = row_in_front rows row t (omega arith)

row_last : (rows : List (List ℕ)) (row : List ℕ) → row_at (rows ++ row ∷ []) (length rows) ≡ row
row_last [] row = refl
row_last (r ∷ rows) row = row_last rows row

pub rows_step : (s : List Resolved) (b : ℕ) (rows rows' : List (List ℕ)) (i : ℕ) (row : List ℕ) (r : Resolved) → slice_get s i ≡ Some r → IsDepthRow s b (components r.kind) row → rows' ≡ rows ++ row ∷ [] → RowsSoFar s b rows i → RowsSoFar s b rows' (i + 1)
rows_step s b rows rows' i row r e k more a = (
  ap length more ∙ one_longer rows row ∙ ap (λ n. n + 1) a.0,
  λ t q h f.
      let lng : length rows ≡ i = a.0 in
      elim (below_or i t) [
        | inl x ↦
            let at : t ≡ length rows = omega arith in
            let it : r ≡ q = same_found e (ap (slice_get s) (let g : i ≡ t = omega arith in g) ∙ f) in
            subst (λ z. IsDepthRow s b (components z.kind) (row_at rows' t)) it (subst (λ z. IsDepthRow s b (components r.kind) z) (sym (ap (λ z. row_at z t) more ∙ ap (row_at (rows ++ row ∷ [])) at ∙ row_last rows row)) k)
        | inr x ↦ subst (λ z. IsDepthRow s b (components q.kind) z) (sym (ap (λ z. row_at z t) more ∙ row_in_front rows row t (omega arith))) (a.1 t q x f)
      ],
)

pub rows_done : (s : List Resolved) (b : ℕ) (rows : List (List ℕ)) (i : ℕ) → length s ≤ i → RowsSoFar s b rows i → AreDepths s b rows
rows_done s b rows i l a t r e = let h = found_below s t r e in a.1 t r (omega arith) e

-- one more row after those in memory
pub rows_more : (vs ws : List (Vec ℕ Global)) (v : Vec ℕ Global) → ws ≡ vs ++ v ∷ [] → rows_of ws ≡ rows_of vs ++ v.items ∷ []
rows_more vs ws v e = ap rows_of e ∙ mapped vs
  where
    mapped : (vs : List (Vec ℕ Global)) → rows_of (vs ++ v ∷ []) ≡ rows_of vs ++ v.items ∷ []
    mapped [] = refl
    mapped (w ∷ vs) = ap (λ q. w.items ∷ q) (mapped vs)

-- ---- the whole table

pub first_depths : (s : List Resolved) (rows : List (List ℕ)) → rows ≡ [] → AreDepths s 0 rows
first_depths s rows e t r f j c g d h n l =
    let one : depth_at rows t j ≡ 1 = ap (λ q. depth_at q t j) e in (
      λ i. absurd (omega arith),
      λ v. absurd (no_levels (let z : n ≡ 0 = omega arith in z) v),
    )

pub deep_enough : (s : List Resolved) (b m : ℕ) (rows : List (List ℕ)) → AreDepths s b rows → NoneAbove b rows → AreDepths s m rows
deep_enough s b m rows a most t r e j c f d g n l =
    let h : depth_at rows t j ≤ b = most t j in
    elim (below_or n b) [
      | inl x ↦ a t r e j c f d g n x
      | inr x ↦ (
        λ i. more_levels s c.type b n d (omega arith) ((a t r e j c f d g b (omega arith)).0 h),
        λ v. omega arith,
      )
    ]

pub none_above : (n : ℕ) (rows : List (List ℕ)) → ((t : ℕ) → t < length rows → (j : ℕ) → in_row (row_at rows t) j ≤ n) → 0 < n → NoneAbove n rows
none_above n rows f h t j = elim (below_or (length rows) t) [
  | inl x ↦ let e : depth_at rows t j ≡ 1 = ap (λ q. in_row q j) (row_end rows t x) in omega arith
  | inr x ↦ f t x j
]

pub all_below : (n : ℕ) (row : List ℕ) → ((j : ℕ) → j < length row → get_or row j 0 ≤ n) → 0 < n → (j : ℕ) → in_row row j ≤ n
all_below n row f h j = elim (below_or (length row) j) [
  | inl x ↦ let e = in_row_end row j x in omega arith
  | inr x ↦ let e = in_row_here row j x in let g = f j x in omega arith
]
