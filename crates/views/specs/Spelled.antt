-- The tree that a list of nodes spells, and a code of trees, by which a proof can tell them apart: their nodes (own
-- rule).
use Rattle.std.specs.Prelude.{◌≡◌, ◌⊎◌, ◌≤◌, ℕ, zero, suc, ◌+◌, ◌*◌, ◌-◌, ℤ, Bool, List, [], ◌∷◌, ◌++◌, length, take, drop, Option}
use Rattle.std.proofs.Common.{refl, sym, ap, ◌∙◌, inl, inr, arith, length-append}
use Rattle.std.proofs.Math.Seq.{drop-append_seam, take-append_seam}
use Rattle.std.specs.Coded.{Coded, code_by, coded×, coded_ℕ, coded_ℤ, coded_bool, coded_list, coded_option, coded⊎}
use Rattle.views.specs.Tree.{boolean, integer, enumerated, bits, octets, text, null, oid, relative_oid, Leaf, ViewTree}
use Rattle.views.specs.Tree.{leaf, fields, list, alternative, ViewMembers, no_member, member}
use Rattle.views.specs.Nodes.{NodeContent, a_leaf, some_fields, some_elements, an_alternative, Node, node, nodes}
use Rattle.views.specs.Nodes.{member_nodes, extent}

-- the tree whose first node says this, with the tree or the members below it
abbrev tree_by : NodeContent → ViewTree → ViewMembers → ViewTree
tree_by (a_leaf l) t ms = leaf l
tree_by (some_fields size e) t ms = fields size ms
tree_by (some_elements e) t ms = list ms
tree_by (an_alternative i e) t ms = alternative i t

abbrev mutual
  -- the same as below, in so many steps
  tree_within : ℕ → List Node → ViewTree
  tree_within zero ns = leaf null
  tree_within (suc n) [] = leaf null
  tree_within (suc n) (x ∷ xs) = tree_by x.content (tree_within n xs) (members_within n xs)

  members_within : ℕ → List Node → ViewMembers
  members_within zero ns = no_member
  members_within (suc n) [] = no_member
  members_within (suc n) (x ∷ xs) =
      member x.number (tree_within n (x ∷ take (extent x.content - 1) xs))
      (members_within n (drop (extent x.content - 1) xs))

-- the tree that these nodes spell; a NULL if they spell none
abbrev pub tree_from : List Node → ViewTree
tree_from ns = tree_within (2 * length ns) ns

-- the members that these nodes spell
abbrev pub members_from : List Node → ViewMembers
members_from ns = members_within (2 * length ns) ns

-- the first node of a tree, and those below it
record Headed (k : ℕ) (t : ViewTree) : Type 0 where
  pub content : NodeContent
  pub below : List Node
  pub are : nodes k t ≡ node k content ∷ below
  pub long : extent content ≡ length below + 1

headed : (k : ℕ) (t : ViewTree) → Headed k t
headed k (leaf l) = record { content = a_leaf l; below = []; are = refl; long = refl }
headed k (fields n ms) = record {
  content = some_fields n (length (member_nodes ms) + 1);
  below = member_nodes ms;
  are = refl;
  long = refl;
}
headed k (list ms) = record {
  content = some_elements (length (member_nodes ms) + 1);
  below = member_nodes ms;
  are = refl;
  long = refl;
}
headed k (alternative i t) = record {
  content = an_alternative i (length (nodes 0 t) + 1);
  below = nodes 0 t;
  are = refl;
  long = refl;
}

taken_front : (n : ℕ) (xs ys : List Node) → n ≡ length xs → take n (xs ++ ys) ≡ xs
taken_front n xs ys e = ap (λ q. take q (xs ++ ys)) e ∙ take-append_seam xs ys

dropped_front : (n : ℕ) (xs ys : List Node) → n ≡ length xs → drop n (xs ++ ys) ≡ ys
dropped_front n xs ys e = ap (λ q. drop q (xs ++ ys)) e ∙ drop-append_seam xs ys

mutual
  tree_back : (k : ℕ) (t : ViewTree) (n : ℕ) → 2 * length (nodes k t) ≤ n + 1 → tree_within n (nodes k t) ≡ t
  tree_back k (leaf l) zero h = absurd (omega (arith, h))
  tree_back k (leaf l) (suc n) h = refl
  tree_back k (fields z ms) zero h = absurd (omega (arith, h))
  tree_back k (fields z ms) (suc n) h = ap (fields z) (members_back ms n (omega (arith, h)))
  tree_back k (list ms) zero h = absurd (omega (arith, h))
  tree_back k (list ms) (suc n) h = ap list (members_back ms n (omega (arith, h)))
  tree_back k (alternative i t) zero h = absurd (omega (arith, h))
  tree_back k (alternative i t) (suc n) h = ap (alternative i) (tree_back 0 t n (omega (arith, h)))

  members_back : (ms : ViewMembers) (n : ℕ) → 2 * length (member_nodes ms) ≤ n → members_within n (member_nodes ms) ≡ ms
  members_back no_member zero h = refl
  members_back no_member (suc n) h = refl
  members_back (member k t ms) zero h =
      let head = headed k t in
      let size = length-append (nodes k t) (member_nodes ms) in
      let some = ap length head.are in
      absurd (omega (arith, h, size, some))
  members_back (member k t ms) (suc n) h =
      let head = headed k t in
      let size = length-append (nodes k t) (member_nodes ms) in
      let some = ap length head.are in
      let long : extent head.content - 1 ≡ length head.below = (let e = head.long in omega (arith, e)) in
      ap (λ q. members_within (suc n) (q ++ member_nodes ms)) head.are
      ∙ ap (λ q. member k (tree_within n (node k head.content ∷ q))
      (members_within n (drop (extent head.content - 1) (head.below ++ member_nodes ms))))
      (taken_front (extent head.content - 1) head.below (member_nodes ms) long)
      ∙ ap (λ q. member k (tree_within n (node k head.content ∷ head.below)) (members_within n q))
      (dropped_front (extent head.content - 1) head.below (member_nodes ms) long)
      ∙ ap (λ q. member k (tree_within n q) (members_within n (member_nodes ms))) (sym head.are)
      ∙ ap (λ q. member k q (members_within n (member_nodes ms))) (tree_back k t n (omega (arith, h, size, some)))
      ∙ ap (member k t) (members_back ms n (omega (arith, h, size, some)))

-- the nodes of a tree spell it
pub tree_spelled : (k : ℕ) (t : ViewTree) → tree_from (nodes k t) ≡ t
tree_spelled k t = tree_back k t (2 * length (nodes k t)) (omega arith)

-- the nodes of members spell them
pub members_spelled : (ms : ViewMembers) → members_from (member_nodes ms) ≡ ms
members_spelled ms = members_back ms (2 * length (member_nodes ms)) (omega arith)

-- ---- codes

-- a leaf as a sum of what its kinds hold
abbrev Kinds : Type 0
Kinds =
    Bool ⊎ (ℤ ⊎ (ℤ
    ⊎ ((ℕ × (List ℕ × Option ℕ)) ⊎ ((List ℕ × Option ℕ) ⊎ ((List ℕ × Option ℕ) ⊎ (List ℕ ⊎ (List ℕ ⊎ ℕ)))))))

abbrev kinds : Leaf → Kinds
kinds (boolean b) = inl b
kinds (integer z) = inr (inl z)
kinds (enumerated z) = inr (inr (inl z))
kinds (bits unused os at) = inr (inr (inr (inl (unused, (os, at)))))
kinds (octets os at) = inr (inr (inr (inr (inl (os, at)))))
kinds (text os at) = inr (inr (inr (inr (inr (inl (os, at))))))
kinds (oid ns) = inr (inr (inr (inr (inr (inr (inl ns))))))
kinds (relative_oid ns) = inr (inr (inr (inr (inr (inr (inr (inl ns)))))))
kinds null = inr (inr (inr (inr (inr (inr (inr (inr 0)))))))

abbrev leaf_by : Kinds → Leaf
leaf_by (inl b) = boolean b
leaf_by (inr (inl z)) = integer z
leaf_by (inr (inr (inl z))) = enumerated z
leaf_by (inr (inr (inr (inl p)))) = bits p.0 p.1.0 p.1.1
leaf_by (inr (inr (inr (inr (inl p))))) = octets p.0 p.1
leaf_by (inr (inr (inr (inr (inr (inl p)))))) = text p.0 p.1
leaf_by (inr (inr (inr (inr (inr (inr (inl ns))))))) = oid ns
leaf_by (inr (inr (inr (inr (inr (inr (inr (inl ns)))))))) = relative_oid ns
leaf_by (inr (inr (inr (inr (inr (inr (inr (inr n)))))))) = null

pub leaf_back : (l : Leaf) → leaf_by (kinds l) ≡ l
leaf_back (boolean b) = refl
leaf_back (integer z) = refl
leaf_back (enumerated z) = refl
leaf_back (bits unused os at) = refl
leaf_back (octets os at) = refl
leaf_back (text os at) = refl
leaf_back (oid ns) = refl
leaf_back (relative_oid ns) = refl
leaf_back null = refl

abbrev string_code : Coded (List ℕ × Option ℕ)
string_code = coded× (coded_list coded_ℕ) (coded_option coded_ℕ)

abbrev kinds_code : Coded Kinds
kinds_code =
    coded⊎ coded_bool (coded⊎ coded_ℤ (coded⊎ coded_ℤ (coded⊎ (coded× coded_ℕ string_code) (coded⊎ string_code
    (coded⊎ string_code (coded⊎ (coded_list coded_ℕ) (coded⊎ (coded_list coded_ℕ) coded_ℕ)))))))

abbrev leaf_code : Coded Leaf
leaf_code = code_by Kinds kinds_code kinds leaf_by leaf_back

abbrev Contents : Type 0
Contents = Leaf ⊎ ((ℕ × ℕ) ⊎ (ℕ ⊎ (ℕ × ℕ)))

abbrev contents : NodeContent → Contents
contents (a_leaf l) = inl l
contents (some_fields size e) = inr (inl (size, e))
contents (some_elements e) = inr (inr (inl e))
contents (an_alternative i e) = inr (inr (inr (i, e)))

abbrev content_by : Contents → NodeContent
content_by (inl l) = a_leaf l
content_by (inr (inl p)) = some_fields p.0 p.1
content_by (inr (inr (inl e))) = some_elements e
content_by (inr (inr (inr p))) = an_alternative p.0 p.1

pub content_back : (c : NodeContent) → content_by (contents c) ≡ c
content_back (a_leaf l) = refl
content_back (some_fields size e) = refl
content_back (some_elements e) = refl
content_back (an_alternative i e) = refl

abbrev content_code : Coded NodeContent
content_code =
    code_by Contents (coded⊎ leaf_code (coded⊎ (coded× coded_ℕ coded_ℕ) (coded⊎ coded_ℕ (coded× coded_ℕ coded_ℕ))))
    contents content_by content_back

abbrev node_code : Coded Node
node_code =
    code_by (ℕ × NodeContent) (coded× coded_ℕ content_code) (λ n. (n.number, n.content)) (λ p. node p.0 p.1) (λ n. refl)

-- a tree is coded as its nodes, and so are members
abbrev pub tree_code : Coded ViewTree
tree_code = code_by (List Node) (coded_list node_code) (nodes 0) tree_from (tree_spelled 0)

abbrev pub members_code : Coded ViewMembers
members_code = code_by (List Node) (coded_list node_code) member_nodes members_from members_spelled
