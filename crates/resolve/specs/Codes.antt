-- A code for written values, by which proofs show that two values differ. It has the parts of a value in postfix order,
-- and three stacks give the value back.
use Rattle.std.specs.Prelude.{◌≡◌, ◌⊎◌, ℕ, zero, suc, ℤ, List, [], ◌∷◌, ◌++◌, Option}
use Rattle.std.proofs.Common.{refl, ap, ◌∙◌, inl, inr, append_assoc}
use Rattle.std.specs.Coded.{Coded, code_by, coded_ℕ, coded_ℤ, coded_list, coded_option, coded×, coded⊎}
use Rattle.trees.specs.Values.{Tree, yes, no, null, number, binary, hex, chars, reference, chosen, nothing, numbers, items, fields, Trees, no_tree, tree_and, NamedTrees, no_member, member_and}

-- a part of the code: it joins the newest values, or it is a value without others
abbrev Part : Type 0
Part = ℕ ⊎ (ℤ ⊎ (List ℕ ⊎ (List ℕ ⊎ (List ℕ ⊎ ((Option (List ℕ) × List ℕ) ⊎ (List ℕ ⊎ (List ℕ ⊎ List ℕ)))))))

abbrev join : ℕ → Part
join n = inl n

abbrev chose : List ℕ → Part
chose x = inr (inr (inr (inr (inr (inr (inl x))))))

abbrev list_of : List ℕ → Part
list_of ns = inr (inr (inr (inr (inr (inr (inr (inl ns)))))))

abbrev named : List ℕ → Part
named x = inr (inr (inr (inr (inr (inr (inr (inr x)))))))

abbrev mutual
  parts : Tree → List Part
  parts yes = join 0 ∷ []
  parts no = join 1 ∷ []
  parts null = join 2 ∷ []
  parts (number z) = inr (inl z) ∷ []
  parts (binary s) = inr (inr (inl s)) ∷ []
  parts (hex s) = inr (inr (inr (inl s))) ∷ []
  parts (chars s) = inr (inr (inr (inr (inl s)))) ∷ []
  parts (reference m x) = inr (inr (inr (inr (inr (inl (m, x)))))) ∷ []
  parts (chosen x t) = parts t ++ chose x ∷ []
  parts nothing = join 3 ∷ []
  parts (numbers ns) = list_of ns ∷ []
  parts (items ts) = trees_parts ts ++ join 4 ∷ []
  parts (fields ms) = members_parts ms ++ join 5 ∷ []

  trees_parts : Trees → List Part
  trees_parts no_tree = join 6 ∷ []
  trees_parts (tree_and t ts) = parts t ++ (trees_parts ts ++ join 7 ∷ [])

  members_parts : NamedTrees → List Part
  members_parts no_member = join 8 ∷ []
  members_parts (member_and x t ms) = parts t ++ (members_parts ms ++ named x ∷ [])

abbrev top : List Tree → Tree
top [] = null
top (v ∷ vs) = v

abbrev below : {X : Type 0} → List X → List X
below [] = []
below (v ∷ vs) = vs

abbrev top_trees : List Trees → Trees
top_trees [] = no_tree
top_trees (r ∷ rs) = r

abbrev top_members : List NamedTrees → NamedTrees
top_members [] = no_member
top_members (r ∷ rs) = r

abbrev Rest : Type 0
Rest = List Tree → List Trees → List NamedTrees → Tree

abbrev joined : ℕ → Rest → Rest
joined zero go vs ts ms = go (yes ∷ vs) ts ms
joined (suc zero) go vs ts ms = go (no ∷ vs) ts ms
joined (suc (suc zero)) go vs ts ms = go (null ∷ vs) ts ms
joined (suc (suc (suc zero))) go vs ts ms = go (nothing ∷ vs) ts ms
joined (suc (suc (suc (suc zero)))) go vs ts ms = go (items (top_trees ts) ∷ vs) (below ts) ms
joined (suc (suc (suc (suc (suc zero))))) go vs ts ms = go (fields (top_members ms) ∷ vs) ts (below ms)
joined (suc (suc (suc (suc (suc (suc zero)))))) go vs ts ms = go vs (no_tree ∷ ts) ms
joined (suc (suc (suc (suc (suc (suc (suc zero))))))) go vs ts ms =
    go (below vs) (tree_and (top vs) (top_trees ts) ∷ below ts) ms
joined n go vs ts ms = go vs ts (no_member ∷ ms)

abbrev step : Part → Rest → Rest
step (inl n) go vs ts ms = joined n go vs ts ms
step (inr (inl z)) go vs ts ms = go (number z ∷ vs) ts ms
step (inr (inr (inl s))) go vs ts ms = go (binary s ∷ vs) ts ms
step (inr (inr (inr (inl s)))) go vs ts ms = go (hex s ∷ vs) ts ms
step (inr (inr (inr (inr (inl s))))) go vs ts ms = go (chars s ∷ vs) ts ms
step (inr (inr (inr (inr (inr (inl p)))))) go vs ts ms = go (reference p.0 p.1 ∷ vs) ts ms
step (inr (inr (inr (inr (inr (inr (inl x))))))) go vs ts ms = go (chosen x (top vs) ∷ below vs) ts ms
step (inr (inr (inr (inr (inr (inr (inr (inl s)))))))) go vs ts ms = go (numbers s ∷ vs) ts ms
step (inr (inr (inr (inr (inr (inr (inr (inr x)))))))) go vs ts ms =
    go (below vs) ts (member_and x (top vs) (top_members ms) ∷ below ms)

abbrev run : List Part → Rest
run [] vs ts ms = top vs
run (p ∷ ps) vs ts ms = step p (run ps) vs ts ms

mutual
  run_parts : (v : Tree) (ps : List Part) (vs : List Tree) (ts : List Trees) (ms : List NamedTrees) →
      run (parts v ++ ps) vs ts ms ≡ run ps (v ∷ vs) ts ms
  run_parts yes ps vs ts ms = refl
  run_parts no ps vs ts ms = refl
  run_parts null ps vs ts ms = refl
  run_parts (number z) ps vs ts ms = refl
  run_parts (binary s) ps vs ts ms = refl
  run_parts (hex s) ps vs ts ms = refl
  run_parts (chars s) ps vs ts ms = refl
  run_parts (reference m x) ps vs ts ms = refl
  run_parts nothing ps vs ts ms = refl
  run_parts (numbers s) ps vs ts ms = refl
  run_parts (chosen x t) ps vs ts ms =
      ap (λ q. run q vs ts ms) (append_assoc (parts t) (chose x ∷ []) ps) ∙ run_parts t (chose x ∷ ps) vs ts ms
  run_parts (items us) ps vs ts ms =
      ap (λ q. run q vs ts ms) (append_assoc (trees_parts us) (join 4 ∷ []) ps) ∙ run_trees us (join 4 ∷ ps) vs ts ms
  run_parts (fields us) ps vs ts ms =
      ap (λ q. run q vs ts ms) (append_assoc (members_parts us) (join 5 ∷ []) ps)
      ∙ run_members us (join 5 ∷ ps) vs ts ms

  run_trees : (us : Trees) (ps : List Part) (vs : List Tree) (ts : List Trees) (ms : List NamedTrees) →
      run (trees_parts us ++ ps) vs ts ms ≡ run ps vs (us ∷ ts) ms
  run_trees no_tree ps vs ts ms = refl
  run_trees (tree_and t us) ps vs ts ms =
      ap (λ q. run q vs ts ms) (append_assoc (parts t) (trees_parts us ++ join 7 ∷ []) ps)
      ∙ run_parts t ((trees_parts us ++ join 7 ∷ []) ++ ps) vs ts ms
      ∙ ap (λ q. run q (t ∷ vs) ts ms) (append_assoc (trees_parts us) (join 7 ∷ []) ps)
      ∙ run_trees us (join 7 ∷ ps) (t ∷ vs) ts ms

  run_members : (us : NamedTrees) (ps : List Part) (vs : List Tree) (ts : List Trees) (ms : List NamedTrees) →
      run (members_parts us ++ ps) vs ts ms ≡ run ps vs ts (us ∷ ms)
  run_members no_member ps vs ts ms = refl
  run_members (member_and x t us) ps vs ts ms =
      ap (λ q. run q vs ts ms) (append_assoc (parts t) (members_parts us ++ named x ∷ []) ps)
      ∙ run_parts t ((members_parts us ++ named x ∷ []) ++ ps) vs ts ms
      ∙ ap (λ q. run q (t ∷ vs) ts ms) (append_assoc (members_parts us) (named x ∷ []) ps)
      ∙ run_members us (named x ∷ ps) (t ∷ vs) ts ms

abbrev together : List Part → Tree
together ps = run ps [] [] []

pub back : (v : Tree) → together (parts v) ≡ v
back v = ap together (append-nil' (parts v)) ∙ run_parts v [] [] [] []
  where
    append-nil' : (xs : List Part) → xs ≡ xs ++ []
    append-nil' [] = refl
    append-nil' (x ∷ xs) = ap (λ q. x ∷ q) (append-nil' xs)

abbrev name_code : Coded (List ℕ)
name_code = coded_list coded_ℕ

abbrev part_code : Coded Part
part_code =
    coded⊎ coded_ℕ (coded⊎ coded_ℤ (coded⊎ name_code (coded⊎ name_code (coded⊎ name_code
    (coded⊎ (coded× (coded_option name_code) name_code) (coded⊎ name_code (coded⊎ name_code name_code)))))))

abbrev pub tree_code : Coded Tree
tree_code = code_by (List Part) (coded_list part_code) parts together back
