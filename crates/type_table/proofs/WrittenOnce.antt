-- The types in written types, with their places in the text, are determined by those that are assigned.
use Rattle.std.proofs.Common.{◌≡◌, ℕ, zero, suc, ◌+◌, ◌<◌, ◌≤◌, List, [], ◌∷◌, ◌++◌, length, map, refl, sym, ap, ◌∙◌, arith}
use Rattle.trees.specs.Types.{type_members, type_member_of, type_tree_of}
use Rattle.trees.specs.declared.types.Member.{Member}
use Rattle.trees.specs.declared.types.TypeForm.{TypeForm}
use Rattle.trees.specs.declared.types.TypeForm.TheVariants as forms
use Rattle.trees.specs.declared.types.TypeSyntax.{TypeSyntax, out-TypeSyntax}
use Rattle.type_table.specs.declared.table.TypeNode.{TypeNode}
use Rattle.type_table.specs.Seen.{form_seen}
use Rattle.type_table.specs.Written.{AreWrittenTypes, all_parts_written, parts_written, text_kept, text_written}
use Rattle.type_table.proofs.Once.{form_weight, weight, weights}
use Rattle.type_table.proofs.Queues.{AreFronts, fronts, one_whole}
use Rattle.type_table.proofs.WrittenTrees.{tree_is}

-- ---- how many types a type is written with

abbrev size : TypeSyntax → ℕ
size t = weight (type_tree_of t)

abbrev sizes : List TypeSyntax → ℕ
sizes [] = zero
sizes (t ∷ ts) = size t + sizes ts

members_sized : (ms : List (Member TypeSyntax)) →
    weights (type_members (map type_member_of ms)) ≡ sizes (map (λ m. m.syntax) ms)
members_sized [] = refl
members_sized (m ∷ ms) = ap (λ n. size m.syntax + n) (members_sized ms)

form_sized : (f : TypeForm TypeSyntax) → form_weight (form_seen f) ≡ suc (sizes (parts_written f))
form_sized (forms.Simple s) = refl
form_sized (forms.Reference r) = refl
form_sized (forms.List k marker ms) = ap suc (members_sized ms.items)
form_sized (forms.Elements k t) = let n = size t.value in omega arith
form_sized (forms.Tagged tag word t) = let n = size t.value in omega arith

sized : (t : TypeSyntax) → size t ≡ suc (sizes (parts_written (out-TypeSyntax t).form))
sized t = ap weight (tree_is t) ∙ form_sized (out-TypeSyntax t).form

joined : (xs ys : List TypeSyntax) → sizes (xs ++ ys) ≡ sizes xs + sizes ys
joined [] ys = let n = sizes ys in omega arith
joined (x ∷ xs) ys = let e = joined xs ys in omega (arith, e)

grows : (xs ys : List TypeSyntax) → sizes xs ≤ sizes (xs ++ ys)
grows xs ys = let a = joined xs ys in omega (arith, a)

-- the types directly in some types are fewer
fewer : (xs : List TypeSyntax) → sizes (all_parts_written xs) + length xs ≡ sizes xs
fewer [] = refl
fewer (x ∷ xs) =
    let p = parts_written (out-TypeSyntax x).form in
    let e = fewer xs in
    let f = joined p (all_parts_written xs) in
    let g = sized x in
    omega (arith, e, f, g)

abbrev parts : ℕ → TypeSyntax → List TypeSyntax
parts i t = parts_written (out-TypeSyntax t).form

abbrev all : ℕ → List TypeSyntax → List TypeSyntax
all i ts = all_parts_written ts

less : (i : ℕ) (t : TypeSyntax) (ts : List TypeSyntax) → sizes (all i (t ∷ ts)) < sizes (t ∷ ts)
less i t ts = let e = fewer (t ∷ ts) in omega (arith, e)

-- two fronts of the types in written types
pub written_fronts : (w a b r q : List TypeSyntax) (s t : TypeSyntax) → w ++ all_parts_written a ≡ a ++ s ∷ r →
    w ++ all_parts_written b ≡ b ++ t ∷ q → AreFronts a b s t
written_fronts w a b r q s t e f = fronts parts all sizes (λ i. refl) (λ i x xs. refl) less grows 0 w a b r q s t e f

-- written types have at most one text
pub one_text : (tops : List TypeSyntax) (ws vs : List TypeNode) → AreWrittenTypes tops ws → AreWrittenTypes tops vs →
    map text_kept ws ≡ map text_kept vs
one_text tops ws vs a b =
    let q = one_whole parts all sizes (λ i. refl) (λ i x xs. refl) less grows 0 tops a.types b.types a.all b.all in
    a.texts ∙ ap (map text_written) q ∙ sym b.texts
