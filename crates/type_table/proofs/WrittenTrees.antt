-- The tree of a type in memory, one level at a time, and the types directly in it.
use Rattle.std.proofs.Common.{◌≡◌, ℕ, suc, List, [], ◌∷◌, length, map, refl, sym, ap, ◌∙◌}
use Rattle.std.proofs.lemmas.List.{length-map}
use Rattle.names.specs.declared.fault.NameFault.{NameFault}
use Rattle.names.specs.declared.fault.NameFault.TheVariants as faults
use Rattle.trees.specs.declared.types.TypeSyntax.{TypeSyntax}
use Rattle.trees.specs.declared.types.TypeSyntax.TheShapes.{former-TypeSyntax-form, former-TypeSyntax-form-at-8}
use Rattle.trees.specs.declared.types.TypeSyntax.TheFolds.{fold_out-TypeSyntax}
use Rattle.trees.specs.declared.types.TypeSyntax.{out-TypeSyntax}
use Rattle.trees.specs.declared.types.TypeForm.{TypeForm}
use Rattle.trees.specs.declared.types.TypeForm.TheVariants as forms
use Rattle.trees.specs.declared.types.Member.{Member}
use Rattle.trees.specs.Constraints.{constraint_of}
use Rattle.trees.specs.Types.{TypeTree, MemberTree, a_type, a_list, type_members, member_layer, type_member_of, type_layer, type_tree_of, form_layer}
use Rattle.type_table.specs.Numbering.{member_sources, type_form, constraints_of}
use Rattle.type_table.specs.Seen.{form_seen}

pub form_is : (f : TypeForm TypeSyntax) →
    form_layer (former-TypeSyntax-form.map TypeSyntax TypeTree type_tree_of f) ≡ form_seen f
form_is (forms.Simple s) = refl
form_is (forms.Reference r) = refl
form_is (forms.List k marker ms) = ap (λ l. a_list k marker (type_members l)) (together ms.items)
  where
    together : (l : List (Member TypeSyntax)) →
        map member_layer (map (former-TypeSyntax-form-at-8.map TypeSyntax TypeTree type_tree_of) l)
        ≡ map type_member_of l
    together [] = refl
    together (m ∷ l) = ap (λ r. type_member_of m ∷ r) (together l)
form_is (forms.Elements k t) = refl
form_is (forms.Tagged tag word t) = refl

pub tree_is : (t : TypeSyntax) →
    type_tree_of t ≡ a_type (form_seen (out-TypeSyntax t).form) (map constraint_of (out-TypeSyntax t).constraints.items)
tree_is t = fold_out-TypeSyntax TypeTree type_layer t ∙ ap (λ f. a_type f (map constraint_of (out-TypeSyntax t).constraints.items)) (form_is (out-TypeSyntax t).form)

pub form_is_seen : (t : TypeSyntax) → type_form (type_tree_of t) ≡ form_seen (out-TypeSyntax t).form
form_is_seen t = ap type_form (tree_is t)

pub constraints_are : (t : TypeSyntax) →
    map constraint_of (out-TypeSyntax t).constraints.items ≡ constraints_of (type_tree_of t)
constraints_are t = sym (ap constraints_of (tree_is t))

count : (a i n : ℕ) (ms : List MemberTree) → length (member_sources a i n (type_members ms)) ≡ length ms
count a i n [] = refl
count a i n (m ∷ ms) = ap suc (count a i (suc n) ms)

pub count_is : (a i n : ℕ) (ms : List (Member TypeSyntax)) →
    length (member_sources a i n (type_members (map type_member_of ms))) ≡ length ms
count_is a i n ms = count a i n (map type_member_of ms) ∙ length-map ms type_member_of
