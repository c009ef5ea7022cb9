-- The tree or the members that nodes spell are those that are read from them.
use Rattle.std.proofs.Common.{arith, ◌≡◌, ℕ, ◌+◌, ◌<◌, ◌≤◌, Bool, true, false, eqb-true, List, length, drop, refl, sym, ap, subst, ◌∙◌, append-nil, Some}
use Rattle.std.specs.Prelude.{◌==◌, cond}
use Rattle.std.specs.List.{slice_range}
use Rattle.views.specs.declared.node.NodeContent.{NodeContent as NodeContent'}
use Rattle.views.specs.declared.node.NodeContent.TheVariants as content
use Rattle.views.specs.declared.node.Node.{Node as Node'}
use Rattle.views.specs.Tree.{ViewTree, leaf, fields, list, alternative, ViewMembers, no_member, member, members_in, component, left_after, nodes_in, nodes_left}
use Rattle.views.specs.Building.{begun, with_tree}
use Rattle.views.specs.Nodes.{NodeContent, nodes}
use Rattle.views.specs.Seen.{SideLists, content_of, AreBuilt, AreWithin, Spell, Left, IsNext, FirstIs, first_leaf, first_fields, first_list, first_alternative, IsSpelled, AreSpelled, tree_of, members_of, IsHead, BeginWith}
use Rattle.views.specs.Spelled.{tree_from, members_from, tree_spelled, members_spelled}
use Rattle.views.proofs.Fronts.{members_none}

pub tree_seen : (s : SideLists) (ns : List Node') (k : ℕ) (t : ViewTree) → Spell s ns k t → tree_of s ns ≡ t
tree_seen s ns k t p = ap tree_from p.nodes ∙ tree_spelled k t

-- what a finished builder has built is the tree that its nodes spell
pub built_seen : (s : SideLists) (ns : List Node') (hs : List ℕ) (t : ViewTree) → AreBuilt s ns hs (with_tree 0 t begun) → tree_of s ns ≡ t
built_seen s ns hs t b = tree_seen s ns 0 t (record { nodes = b.nodes ∙ append-nil (nodes 0 t); within = b.within })

pub members_seen : (s : SideLists) (ns : List Node') (at : ℕ) (ms : ViewMembers) → Left s ns at ms → members_of s ns at ≡ ms
members_seen s ns at ms p = ap members_from p.nodes ∙ members_spelled ms

pub spelled_as : (s : SideLists) (ns : List Node') → (i : IsSpelled s ns) → Spell s ns i.0 (tree_of s ns)
spelled_as s ns i = subst (Spell s ns i.0) (sym (tree_seen s ns i.0 i.1 i.2)) i.2

head_of : (s : SideLists) (ns : List Node') (w : NodeContent) (t : ViewTree) → AreWithin s ns → FirstIs s (drop 1 ns) w t → IsHead s ns w t
head_of s ns w t a first_leaf = refl
head_of s ns w t a (first_fields {size = n} {ms = ms} p) =
    let l : Left s ns 1 ms = record { nodes = p.nodes; within = a } in
    (ap (fields n) (sym (members_seen s ns 1 ms l)), (ms, l))
head_of s ns w t a (first_list {ms = ms} p) =
    let l : Left s ns 1 ms = record { nodes = p.nodes; within = a } in
    (ap list (sym (members_seen s ns 1 ms l)), (ms, l))
head_of s ns w t a (first_alternative {i = i} {t = u} p) =
    (ap (alternative i) (sym (tree_seen s (drop 1 ns) 0 u p)), (0, u, p))

pub head : (s : SideLists) (ns : List Node') (w : NodeContent) → IsSpelled s ns → ((k : ℕ) (t : ViewTree) → Spell s ns k t → FirstIs s (drop 1 ns) w t) → IsHead s ns w (tree_of s ns)
head s ns w i f = head_of s ns w (tree_of s ns) i.2.within (f i.0 (tree_of s ns) (spelled_as s ns i))

pub begins : (s : SideLists) (ns : List Node') (at number end : ℕ) → AreSpelled s ns at → ((ms : ViewMembers) → Left s ns at ms → IsNext s ns at number end ms) → BeginWith s ns at number end
begins s ns at number end i f =
    let n = f i.0 i.1 in
    record {
      are =
          members_seen s ns at i.0 i.1
          ∙ n.is
          ∙ ap (λ q. member number q n.rest) (sym (tree_seen s (slice_range ns at end) number n.tree n.first))
          ∙ ap (member number (tree_of s (slice_range ns at end))) (sym (members_seen s ns end n.rest n.after));
      first = (number, n.tree, n.first);
      after = (n.rest, n.after);
    }

-- the members of a leaf or an alternative: none
pub no_members_in : (s : SideLists) (ns : List Node') (w : NodeContent') (t : ViewTree)
    → IsSpelled s ns
    → FirstIs s (drop 1 ns) (content_of s w) (tree_of s ns)
    → ((size e : ℕ) → w ≡ content.Fields size e → ⊥)
    → ((e : ℕ) → w ≡ content.List e → ⊥)
    → tree_of s ns ≡ t
    → Left s ns (length ns) (members_in t)
no_members_in s ns w t i f g h e =
    subst (λ q. Left s ns (length ns) (members_in q)) e
    (members_none s ns i.0 (tree_of s ns) w (length ns) (spelled_as s ns i) f g h (omega arith))

-- ---- members that are taken in the order of their numbers

pub later : (i j : ℕ) (ms : ViewMembers) → i < j → component (left_after i ms) j ≡ component ms j
later i j no_member l = refl
later i j (member k t ms) l = by (k == i) refl
  where
    other : (b : Bool) → (k == j) ≡ b → k ≡ i → component ms j ≡ cond b (Some t) (component ms j)
    other true h e = let f = eqb-true k j h in absurd (omega (arith, l, e, f))
    other false h e = refl

    by : (b : Bool) → (k == i) ≡ b → component (cond b ms (member k t ms)) j ≡ cond (k == j) (Some t) (component ms j)
    by true h = other (k == j) refl (eqb-true k i h)
    by false h = refl

pub fewer : (i : ℕ) (ms : ViewMembers) → nodes_left (left_after i ms) ≤ nodes_left ms
fewer i no_member = omega arith
fewer i (member k t ms) = by (k == i)
  where
    by : (b : Bool) → nodes_left (cond b ms (member k t ms)) ≤ nodes_in t + nodes_left ms
    by true = omega arith
    by false = omega arith

pub within : (i : ℕ) (ms : ViewMembers) (t : ViewTree) → component ms i ≡ Some t → nodes_in t ≤ nodes_left ms
within i no_member t e = absurd cc
within i (member k u ms) t e = by (k == i) (within i ms t) e
  where
    by : (b : Bool) → (component ms i ≡ Some t → nodes_in t ≤ nodes_left ms) → cond b (Some u) (component ms i) ≡ Some t → nodes_in t ≤ nodes_in u + nodes_left ms
    by true w e = let f : u ≡ t = cc in let g = ap nodes_in f in omega (arith, g)
    by false w e = let f = w e in omega (arith, f)

pub some_nodes : (t : ViewTree) → 1 ≤ nodes_in t
some_nodes (leaf l) = omega arith
some_nodes (fields n ms) = omega arith
some_nodes (list ms) = omega arith
some_nodes (alternative i t) = omega arith
