-- Components and elements as the loops take them, one after another.
use Rattle.std.proofs.Common.{arith, ◌≡◌, ℕ, zero, suc, ◌+◌, ◌*◌, ◌<◌, ◌≤◌, Bool, false, List, [], ◌∷◌, ◌++◌, length, drop, map, refl, sym, ap, ◌∙◌, append_assoc, get_or, Option, Some, None, codes, string_bytes}
use Rattle.asn_base.specs.declared.schema.Component.{Component as Component'}
use Rattle.asn_base.specs.Abstract.{AbstractValue, alternative, fields, list, placed, Row, end, present, row_of_options}
use Rattle.asn_base.specs.Seen.{component_of}
use Rattle.asn_base.specs.Typed.{nodes, row_nodes}
use Rattle.asn_base.specs.Types.{Component, Resolved}
use Rattle.value_text.specs.Print.{comma_after, print, print_elements, print_fields}
use Rattle.value_text.proofs.Steps.{drop_at, glued, none_left, over}
use Rattle.asn_base.specs.proving.Lists.{place_is, places}

-- ---- a member has fewer nodes than all

pub below_fields : (v : AbstractValue) (row : Row) (d : ℕ) → 2 * nodes v ≡ d → v ≡ fields row → 2 * row_nodes row + 1 < d
below_fields v row d e f = let g = ap nodes f in omega (arith, e, g)

pub below_list : (v : AbstractValue) (row : Row) (d : ℕ) → 2 * nodes v ≡ d → v ≡ list row → 2 * row_nodes row + 1 < d
below_list v row d e f = let g = ap nodes f in omega (arith, e, g)

pub below_alternative : (v w : AbstractValue) (i d : ℕ) → 2 * nodes v ≡ d → v ≡ alternative i w → 2 * nodes w < d
below_alternative v w i d e f = let g = ap nodes f in omega (arith, e, g)

-- a member has no more nodes than all members
pub below_members : (n r d : ℕ) → 2 * r + 1 ≡ d → n ≤ r → 2 * n < d
below_members n r d e l = omega (arith, e, l)

first_nodes : (o : Option AbstractValue) (os : List (Option AbstractValue)) → row_nodes (row_of_options os) ≤ row_nodes (row_of_options (o ∷ os))
first_nodes None os = omega arith
first_nodes (Some v) os = omega arith

pub placed_nodes : (n : ℕ) (f : ℕ → Option AbstractValue) (i : ℕ) (v : AbstractValue) → i < n → f i ≡ Some v → nodes v ≤ row_nodes (row_of_options (placed n f))
placed_nodes zero f i v l e = absurd (omega (arith, l))
placed_nodes (suc n) f zero v l e =
    let g = ap (λ o. row_nodes (row_of_options (o ∷ placed n (λ j. f (j + 1))))) e in
    omega (arith, g)
placed_nodes (suc n) f (suc i) v l e =
    let k : i + 1 ≡ suc i = omega arith in
    let g = placed_nodes n (λ j. f (j + 1)) i v (omega (arith, l)) (ap f k ∙ e) in
    let h = first_nodes (f 0) (placed n (λ j. f (j + 1))) in
    omega (arith, g, h)

pub taken_nodes : (row rest : Row) (v : AbstractValue) → row ≡ present v rest → row_nodes row ≡ nodes v + row_nodes rest
taken_nodes row rest v e = ap row_nodes e

-- ---- elements

-- the elements before those left are printed
abbrev pub Listed : List Resolved → ℕ → Bool → Row → List ℕ → List ℕ → Type 0
Listed s u first left out total = out ++ print_elements s u (comma_after first) left ≡ total

pub element_step : (s : List Resolved) (u : ℕ) (first : Bool) (out a new total : List ℕ) (row : Row) (v : AbstractValue) (rest : Row) → row ≡ present v rest
    → out ++ print_elements s u (comma_after first) row ≡ total
    → a ≡ out ++ comma_after first
    → new ≡ a ++ print s u v
    → new ++ print_elements s u (codes ", ") rest ≡ total
element_step s u first out a new total row v rest is e f g =
    let d : print_elements s u (comma_after first) row ≡ comma_after first ++ (print s u v ++ print_elements s u (codes ", ") rest) =
    ap (λ q. print_elements s u (comma_after first) q) is in
    let w = glued out (comma_after first) (print s u v ++ print_elements s u (codes ", ") rest) _ a total d e f in
    glued a (print s u v) (print_elements s u (codes ", ") rest) _ new total refl w g

pub elements_over : (s : List Resolved) (u : ℕ) (first : Bool) (out total : List ℕ) (row : Row) → row ≡ end → out ++ print_elements s u (comma_after first) row ≡ total → out ≡ total
elements_over s u first out total row is e = over out _ total (ap (print_elements s u (comma_after first)) is) e

-- nothing is printed yet
pub opened : (out new rest : List ℕ) → new ≡ out ++ codes "{" → new ++ rest ≡ out ++ (codes "{" ++ rest)
opened out new rest e = ap (λ l. l ++ rest) e ∙ append_assoc out (codes "{") rest

-- ---- components

nothing : (s : List Resolved) (cs : List Component) (before : List ℕ) → print_fields s cs before end ≡ []
nothing s [] before = refl
nothing s (c ∷ cs) before = refl

-- the components before place i are printed: the others are found among those left, and their text is what is left
pub record Printed (s : List Resolved) (cs : List Component') (size : ℕ) (all left : ℕ → Option AbstractValue) (i : ℕ) (first : Bool) (out total : List ℕ) : Type 0 where
  pub same : (j : ℕ) → i ≤ j → all j ≡ left j
  pub text : out ++ print_fields s (map component_of (drop i cs)) (comma_after first) (row_of_options (drop i (placed size all))) ≡ total

module _ (s : List Resolved) (cs : List Component') (size : ℕ) (all left : ℕ → Option AbstractValue) (i : ℕ) (first : Bool) (out total : List ℕ) (so_far : Printed s cs size all left i first out total) where
  abbrev text_from : List Component' → List ℕ → List (Option AbstractValue) → List ℕ
  text_from ds before os = print_fields s (map component_of ds) before (row_of_options os)

  module _ (inside : i < size) (c : Component') (in_components : i < length cs) (is_c : c ≡ get_or cs i c) (after : ℕ → Option AbstractValue) (later : (j : ℕ) → i < j → after j ≡ left j) where
    others : (j : ℕ) → i + 1 ≤ j → all j ≡ after j
    others j l = so_far.same j (omega (arith, l)) ∙ sym (later j (omega (arith, l)))

    abbrev rest : List ℕ → List ℕ
    rest before = text_from (drop (i + 1) cs) before (drop (i + 1) (placed size all))

    -- the text from this component on
    from_here : (o : Option AbstractValue) → left i ≡ o → text_from (drop i cs) (comma_after first) (drop i (placed size all)) ≡ text_from (c ∷ drop (i + 1) cs) (comma_after first) (o ∷ drop (i + 1) (placed size all))
    from_here o e =
        ap (λ ds. text_from ds (comma_after first) (drop i (placed size all))) (drop_at cs i c c in_components is_c)
        ∙ ap (text_from (c ∷ drop (i + 1) cs) (comma_after first)) (place_is size all i inside ∙ ap (λ q. q ∷ drop (i + 1) (placed size all)) (so_far.same i (omega arith) ∙ e))

    pub with_present : (v : AbstractValue) (a b m new : List ℕ) → Some v ≡ left i → a ≡ out ++ comma_after first → b ≡ a ++ string_bytes c.name → m ≡ b ++ codes " "
        → new ≡ m ++ print s c.ty.index v → Printed s cs size all after (i + 1) false new total
    with_present v a b m new is f g h k =
        let text = print s c.ty.index v in
        let w = glued out (comma_after first) (string_bytes c.name ++ (codes " " ++ (text ++ rest (codes ", ")))) _ a total (from_here (Some v) (sym is)) so_far.text f in
        let x = glued a (string_bytes c.name) (codes " " ++ (text ++ rest (codes ", "))) _ b total refl w g in
        let y = glued b (codes " ") (text ++ rest (codes ", ")) _ m total refl x h in
        record { same = others; text = glued m text (rest (codes ", ")) _ new total refl y k }

    pub with_absent : None ≡ left i → Printed s cs size all after (i + 1) first out total
    with_absent is = record { same = others; text = ap (λ l. out ++ l) (sym (from_here None (sym is))) ∙ so_far.text }

  -- components after those of the value are left out
  pub with_none : size ≤ i → Printed s cs size all left (i + 1) first out total
  with_none l =
      let p = places size all in
      let e : drop i (placed size all) ≡ [] = none_left (placed size all) i (omega (arith, l, p)) in
      let f : drop (i + 1) (placed size all) ≡ [] = none_left (placed size all) (i + 1) (omega (arith, l, p)) in
      record {
        same = λ j m. so_far.same j (omega (arith, m));
        text = ap (λ os. out ++ text_from (drop (i + 1) cs) (comma_after first) os) f
            ∙ ap (λ l. out ++ l) (nothing s (map component_of (drop (i + 1) cs)) (comma_after first) ∙ sym (nothing s (map component_of (drop i cs)) (comma_after first)))
            ∙ ap (λ os. out ++ text_from (drop i cs) (comma_after first) os) (sym e) ∙ so_far.text;
      }

  pub all_printed : length cs ≤ i → out ≡ total
  all_printed l = over out _ total (ap (λ ds. text_from ds (comma_after first) (drop i (placed size all))) (none_left cs i l)) so_far.text
