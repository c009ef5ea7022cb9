-- What is in a notation is in its tree.
use Rattle.std.proofs.Common.{◌≡◌, ◌∙◌, ℕ, ◌∷◌, [], List, Some, None, refl, sym, ap, map, option_map, string_bytes}
use Rattle.std.proofs.lemmas.Option.{same_Some}
use Rattle.trees.specs.Values.{Name, Tree, chosen, layer, member_of, name_at, tree_of, value_layer}
use Rattle.trees.specs.Values as trees
use Rattle.trees.specs.declared.value.Named.{Named}
use Rattle.trees.specs.declared.value.ValueForm.{ValueForm}
use Rattle.trees.specs.declared.value.ValueForm.TheVariants as forms
use Rattle.trees.specs.declared.value.ValueSyntax.{ValueSyntax}
use Rattle.trees.specs.declared.value.ValueSyntax.TheViews.{out-ValueSyntax}
use Rattle.trees.specs.declared.value.ValueSyntax.TheFolds.{fold_out-ValueSyntax, map-ValueSyntax}
use Rattle.value_notations.specs.Notations.{list_of, named_list, values_in, fields_in}
use Rattle.value_notations.specs.Written.{braced_values, braced_fields, chosen_at, form_values, form_fields, form_chosen}

listed : (ts : List Tree) → list_of (trees.trees ts) ≡ ts
listed [] = refl
listed (t ∷ ts) = ap (λ us. t ∷ us) (listed ts)

named : (ms : List (Name × Tree)) → named_list (trees.named_trees ms) ≡ ms
named [] = refl
named (m ∷ ms) = ap (λ ns. m ∷ ns) (named ms)

abbrev named_tree : Named ValueSyntax → Named Tree
named_tree f = record { name = f.name; value = tree_of f.value }

same_members : (xs : List (Named ValueSyntax)) →
    map (λ (f : Named Tree). (name_at f.name, f.value)) (map named_tree xs) ≡ map member_of xs
same_members [] = refl
same_members (x ∷ xs) = ap (λ ys. member_of x ∷ ys) (same_members xs)

-- the tree of a value whose form is this
abbrev seen : ℕ → ValueForm ValueSyntax → Tree
seen n f = layer (map-ValueSyntax ValueSyntax Tree tree_of (record { at = n; form = f })).form

by_form : (v : ValueSyntax) → tree_of v ≡ seen (out-ValueSyntax v).at (out-ValueSyntax v).form
by_form v = fold_out-ValueSyntax Tree value_layer v

values_seen : (n : ℕ) (f : ValueForm ValueSyntax) → values_in (seen n f) ≡ option_map (map tree_of) (form_values f)
values_seen n forms.True = refl
values_seen n forms.False = refl
values_seen n forms.Null = refl
values_seen n (forms.Number z) = refl
values_seen n (forms.BinaryString b) = refl
values_seen n (forms.HexString h) = refl
values_seen n (forms.CharacterString c) = refl
values_seen n (forms.Reference r) = refl
values_seen n (forms.Chosen x v) = refl
values_seen n forms.Empty = refl
values_seen n (forms.Numbers ns) = refl
values_seen n (forms.Items vs) = ap Some (listed (map tree_of vs.items))
values_seen n (forms.Fields fs) = refl

fields_seen : (n : ℕ) (f : ValueForm ValueSyntax) → fields_in (seen n f) ≡ option_map (map member_of) (form_fields f)
fields_seen n forms.True = refl
fields_seen n forms.False = refl
fields_seen n forms.Null = refl
fields_seen n (forms.Number z) = refl
fields_seen n (forms.BinaryString b) = refl
fields_seen n (forms.HexString h) = refl
fields_seen n (forms.CharacterString c) = refl
fields_seen n (forms.Reference r) = refl
fields_seen n (forms.Chosen x v) = refl
fields_seen n forms.Empty = refl
fields_seen n (forms.Numbers ns) = refl
fields_seen n (forms.Items vs) = refl
fields_seen n (forms.Fields fs) =
    ap (λ ms. Some (named_list (trees.named_trees ms))) (same_members fs.items) ∙ ap Some (named (map member_of fs.items))

chosen_seen : (n : ℕ) (f : ValueForm ValueSyntax) (x : Name) (m : ValueSyntax) → form_chosen f ≡ Some (x, m) →
    seen n f ≡ chosen x (tree_of m)
chosen_seen n forms.True x m e = absurd cc
chosen_seen n forms.False x m e = absurd cc
chosen_seen n forms.Null x m e = absurd cc
chosen_seen n (forms.Number z) x m e = absurd cc
chosen_seen n (forms.BinaryString b) x m e = absurd cc
chosen_seen n (forms.HexString h) x m e = absurd cc
chosen_seen n (forms.CharacterString c) x m e = absurd cc
chosen_seen n (forms.Reference r) x m e = absurd cc
chosen_seen n (forms.Chosen y v) x m e =
    ap (λ (c : Name × ValueSyntax). chosen c.0 (tree_of c.1)) (same_Some (string_bytes y, v.value) (x, m) e)
chosen_seen n forms.Empty x m e = absurd cc
chosen_seen n (forms.Numbers ns) x m e = absurd cc
chosen_seen n (forms.Items vs) x m e = absurd cc
chosen_seen n (forms.Fields fs) x m e = absurd cc

values_tree : (v : ValueSyntax) → values_in (tree_of v) ≡ option_map (map tree_of) (braced_values v)
values_tree v = ap values_in (by_form v) ∙ values_seen (out-ValueSyntax v).at (out-ValueSyntax v).form

fields_tree : (v : ValueSyntax) → fields_in (tree_of v) ≡ option_map (map member_of) (braced_fields v)
fields_tree v = ap fields_in (by_form v) ∙ fields_seen (out-ValueSyntax v).at (out-ValueSyntax v).form

pub values_found : (v : ValueSyntax) (ns : List ValueSyntax) → braced_values v ≡ Some ns →
    values_in (tree_of v) ≡ Some (map tree_of ns)
values_found v ns e = values_tree v ∙ ap (option_map (map tree_of)) e

pub values_none_found : (v : ValueSyntax) → None ≡ braced_values v → values_in (tree_of v) ≡ None
values_none_found v e = values_tree v ∙ ap (option_map (map tree_of)) (sym e)

pub fields_found : (v : ValueSyntax) (fs : List (Named ValueSyntax)) → braced_fields v ≡ Some fs →
    fields_in (tree_of v) ≡ Some (map member_of fs)
fields_found v fs e = fields_tree v ∙ ap (option_map (map member_of)) e

pub fields_none_found : (v : ValueSyntax) → None ≡ braced_fields v → fields_in (tree_of v) ≡ None
fields_none_found v e = fields_tree v ∙ ap (option_map (map member_of)) (sym e)

pub chosen_found : (v : ValueSyntax) (x : Name) (m : ValueSyntax) → chosen_at v ≡ Some (x, m) →
    tree_of v ≡ chosen x (tree_of m)
chosen_found v x m e = by_form v ∙ chosen_seen (out-ValueSyntax v).at (out-ValueSyntax v).form x m e
