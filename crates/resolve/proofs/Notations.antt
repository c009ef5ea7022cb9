-- The names in a value, by the form in which it is written.
use Rattle.std.proofs.Common.{◌≡◌, ℕ, ◌++◌, List, [], ◌∷◌, map, Option, Some, refl, sym, subst, ap, ◌∙◌, arith}
use Rattle.std.specs.Prelude.{slice_get, Vec, Box, String}
use Rattle.std.specs.Global.{Global}
use Rattle.trees.specs.declared.location.Reference.{Reference}
use Rattle.trees.specs.declared.value.Named.{Named}
use Rattle.trees.specs.declared.value.ValueForm.{ValueForm}
use Rattle.trees.specs.declared.value.ValueForm.TheVariants as forms
use Rattle.trees.specs.declared.value.ValueSyntax.{ValueSyntax}
use Rattle.trees.specs.declared.value.ValueSyntax.TheViews.{out-ValueSyntax}
use Rattle.trees.specs.declared.value.ValueSyntax.TheFolds.{fold_out-ValueSyntax, map-ValueSyntax}
use Rattle.trees.specs.Values.{Name, Tree, trees, named_trees, member_of, name_at, tree_of, layer, value_layer}
use Rattle.names.specs.declared.scope.Assigned.TheVariants as assigned
use Rattle.names.specs.Names.{Module, Refers}
use Rattle.resolve.specs.First.{IsFirstUnknown}
use Rattle.resolve.specs.Places.{field_places, form_places, layer_places, place_after, reference_place, value_places}
use Rattle.resolve.specs.Qualified.{each, after_module, qualified, qualified_each, qualified_fields}
use Rattle.resolve.specs.proving.Unknown.{named}

-- ---- offsets

-- the offsets of the names in a value whose form is this
abbrev places_seen : ℕ → ValueForm ValueSyntax → List ℕ
places_seen n f = form_places (map-ValueSyntax ValueSyntax (List ℕ) value_places (record { at = n; form = f })).form

places_by_form : (v : ValueSyntax) (f : ValueForm ValueSyntax) → (out-ValueSyntax v).form ≡ f →
    value_places v ≡ places_seen (out-ValueSyntax v).at f
places_by_form v f e = fold_out-ValueSyntax (List ℕ) layer_places v ∙ ap (places_seen (out-ValueSyntax v).at) e

item_places : (h : ValueSyntax → List ℕ) → ((v : ValueSyntax) → h v ≡ value_places v) → (vs : List ValueSyntax) →
    each (λ ps. ps) (map h vs) ≡ each value_places vs
item_places h e [] = refl
item_places h e (v ∷ vs) =
    ap (λ l. l ++ each (λ ps. ps) (map h vs)) (e v) ∙ ap (λ l. value_places v ++ l) (item_places h e vs)

named_places : (h : Named ValueSyntax → Named (List ℕ)) →
    ((n : Named ValueSyntax) → (h n).value ≡ field_places n) → (fs : List (Named ValueSyntax)) →
    each (λ (f : Named (List ℕ)). f.value) (map h fs) ≡ each field_places fs
named_places h e [] = refl
named_places h e (f ∷ fs) =
    ap (λ l. l ++ each (λ (n : Named (List ℕ)). n.value) (map h fs)) (e f) ∙ ap (λ l. field_places f ++ l) (named_places h e fs)

pub places_of_reference : (v : ValueSyntax) (r : Reference) → (out-ValueSyntax v).form ≡ forms.Reference r →
    value_places v ≡ reference_place r
places_of_reference v r e = places_by_form v (forms.Reference r) e

pub places_of_chosen : (v : ValueSyntax) (x : String Global) (b : Box ValueSyntax Global) →
    (out-ValueSyntax v).form ≡ forms.Chosen x b → value_places v ≡ value_places b.value
places_of_chosen v x b e = places_by_form v (forms.Chosen x b) e

pub places_of_items : (v : ValueSyntax) (vs : Vec ValueSyntax Global) → (out-ValueSyntax v).form ≡ forms.Items vs →
    value_places v ≡ each value_places vs.items
places_of_items v vs e = places_by_form v (forms.Items vs) e ∙ item_places _ (λ n. refl) vs.items

pub places_of_fields : (v : ValueSyntax) (fs : Vec (Named ValueSyntax) Global) →
    (out-ValueSyntax v).form ≡ forms.Fields fs → value_places v ≡ each field_places fs.items
places_of_fields v fs e = places_by_form v (forms.Fields fs) e ∙ named_places _ (λ n. refl) fs.items

-- ---- names

-- the tree of a value whose form is this
abbrev seen : ℕ → ValueForm ValueSyntax → Tree
seen n f = layer (map-ValueSyntax ValueSyntax Tree tree_of (record { at = n; form = f })).form

by_form : (v : ValueSyntax) (f : ValueForm ValueSyntax) → (out-ValueSyntax v).form ≡ f →
    tree_of v ≡ seen (out-ValueSyntax v).at f
by_form v f e = fold_out-ValueSyntax Tree value_layer v ∙ ap (seen (out-ValueSyntax v).at) e

all_each : (vs : List Tree) → qualified_each (trees vs) ≡ each qualified vs
all_each [] = refl
all_each (v ∷ vs) = ap (λ l. qualified v ++ l) (all_each vs)

all_fields : (vs : List (Name × Tree)) → qualified_fields (named_trees vs) ≡ each (λ m. qualified m.1) vs
all_fields [] = refl
all_fields (v ∷ vs) = ap (λ l. qualified v.1 ++ l) (all_fields vs)

same_members : (h : Named ValueSyntax → Named Tree) →
    ((n : Named ValueSyntax) → (name_at (h n).name, (h n).value) ≡ member_of n) → (xs : List (Named ValueSyntax)) →
    map (λ n. (name_at n.name, n.value)) (map h xs) ≡ map member_of xs
same_members h e [] = refl
same_members h e (x ∷ xs) = ap (λ m. m ∷ map (λ n. (name_at n.name, n.value)) (map h xs)) (e x) ∙ ap (λ ms. member_of x ∷ ms) (same_members h e xs)

pub reference_names : (v : ValueSyntax) (r : Reference) → (out-ValueSyntax v).form ≡ forms.Reference r →
    qualified (tree_of v) ≡ named r
reference_names v r e = ap qualified (by_form v (forms.Reference r) e)

pub chosen_names : (v : ValueSyntax) (x : String Global) (b : Box ValueSyntax Global) →
    (out-ValueSyntax v).form ≡ forms.Chosen x b → qualified (tree_of v) ≡ qualified (tree_of b.value)
chosen_names v x b e = ap qualified (by_form v (forms.Chosen x b) e)

pub items_names : (v : ValueSyntax) (vs : Vec ValueSyntax Global) → (out-ValueSyntax v).form ≡ forms.Items vs →
    qualified (tree_of v) ≡ each qualified (map tree_of vs.items)
items_names v vs e = ap qualified (by_form v (forms.Items vs) e) ∙ all_each (map tree_of vs.items)

pub fields_names : (v : ValueSyntax) (fs : Vec (Named ValueSyntax) Global) →
    (out-ValueSyntax v).form ≡ forms.Fields fs →
    qualified (tree_of v) ≡ each (λ m. qualified m.1) (map member_of fs.items)
fields_names v fs e =
    ap qualified (by_form v (forms.Fields fs) e) ∙ ap (λ ms. qualified_fields (named_trees ms)) (same_members _ (λ n. refl) fs.items) ∙ all_fields (map member_of fs.items)

-- a name after the name of module N, at offset n, isn't that of a value
pub after_none : (ms : List (Name × Module)) (M : Name) (o : Option Name) (N : Name) (x m y : Name)
    (n at : ℕ) → o ≡ Some N → m ≡ M → y ≡ x → at ≡ n →
    ((i : ℕ) → Refers ms M o x (assigned.Value i) → ⊥) →
    (m ≡ M) × IsFirstUnknown ms M (after_module o x) (place_after o n) y at
after_none ms M o N x m y n at q e f p none = (
  e,
  record {
    number = 0;
    owner = N;
    there = ap (λ p. slice_get (after_module p x) 0) q ∙ ap (λ z. Some (N, z)) (sym f);
    reported = ap (λ z. slice_get (place_after z n) 0) q ∙ ap Some (sym p);
    nothing = λ i r. none i (subst (λ p. Refers ms M p x (assigned.Value i)) (sym q) (subst (λ z. Refers ms M (Some N) z (assigned.Value i)) f r));
    before = λ k K z l h. absurd (omega (arith, l));
  },
)
