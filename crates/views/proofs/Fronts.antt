-- Nodes are read from the front: a member, and what follows it.
use Rattle.std.proofs.Common.{arith, ◌≡◌, ℕ, zero, suc, ◌+◌, ◌-◌, ◌<◌, ◌≤◌, List, [], ◌∷◌, ◌++◌, length, map, take, drop, get_or, refl, sym, ap, subst, ◌∙◌, length-append}
use Rattle.std.specs.List.{slice_range, AllByRecursion}
use Rattle.std.proofs.lemmas.List.{take-map, drop-map, length-drop}
use Rattle.std.proofs.Math.Seq.{drop-append_seam}
use Rattle.asn_base.specs.Abstract.{AbstractValue}
use Rattle.views.specs.declared.node.NodeContent.{NodeContent as NodeContent'}
use Rattle.views.specs.declared.node.NodeContent.TheVariants as content
use Rattle.views.specs.declared.node.Node.{Node as Node'}
use Rattle.views.specs.Tree.{leaf_value, value_of, members_in, Leaf, ViewTree, leaf, fields, list, alternative, ViewMembers, no_member, member}
use Rattle.views.specs.Nodes.{NodeContent, a_leaf, some_fields, some_elements, an_alternative, Node, node, nodes, member_nodes, extent}
use Rattle.views.specs.Seen.{SideLists, content_of, node_of, nodes_of, IsContentWithin, AreWithin, Spell, SpellMembers, Left, IsNext, FirstIs, first_leaf, first_fields, first_list, first_alternative}
use Rattle.views.proofs.Ranges.{take_kept, take_all}

drop_none : {A : Type 0} (b : ℕ) → drop b (let e : List A = [] in e) ≡ []
drop_none zero = refl
drop_none (suc b) = refl

drop_by : {A : Type 0} (a b : ℕ) (xs : List A) → a ≡ b → drop a xs ≡ drop b xs
drop_by a b xs e = ap (λ q. drop q xs) e

drop_more : {A : Type 0} (a b : ℕ) (xs : List A) → drop (a + b) xs ≡ drop b (drop a xs)
drop_more zero b xs = drop_by (0 + b) b xs (omega arith)
drop_more (suc a) b [] = drop_none (suc a + b) ∙ sym (drop_none b)
drop_more (suc a) b (x ∷ xs) = drop_by (suc a + b) (suc (a + b)) (x ∷ xs) (omega arith) ∙ drop_more a b xs

pub drop_at : {A : Type 0} (xs : List A) (i : ℕ) (x : A) → i < length xs → x ≡ get_or xs i x → drop i xs ≡ x ∷ drop (suc i) xs
drop_at [] i x h e = absurd (omega arith)
drop_at (y ∷ xs) zero x h e = ap (λ q. q ∷ xs) (sym e)
drop_at (y ∷ xs) (suc i) x h e = drop_at xs i x (omega arith) e

all_taken : {A : Type 0} (P : A → Type 0) (n : ℕ) (xs : List A) → AllByRecursion P xs → AllByRecursion P (take n xs)
all_taken P zero xs a = tt
all_taken P (suc n) [] a = tt
all_taken P (suc n) (x ∷ xs) a = (a.0, all_taken P n xs a.1)

all_dropped : {A : Type 0} (P : A → Type 0) (n : ℕ) (xs : List A) → AllByRecursion P xs → AllByRecursion P (drop n xs)
all_dropped P zero xs a = a
all_dropped P (suc n) [] a = tt
all_dropped P (suc n) (x ∷ xs) a = all_dropped P n xs a.1

-- the first node of a tree, and those below it
pub record Headed (k : ℕ) (t : ViewTree) : Type 0 where
  pub content : NodeContent
  pub below : List Node
  pub are : nodes k t ≡ node k content ∷ below
  pub long : extent content ≡ length below + 1

pub headed : (k : ℕ) (t : ViewTree) → Headed k t
headed k (leaf l) = record { content = a_leaf l; below = []; are = refl; long = refl }
headed k (fields n ms) = record { content = some_fields n (length (member_nodes ms) + 1); below = member_nodes ms; are = refl; long = refl }
headed k (list ms) = record { content = some_elements (length (member_nodes ms) + 1); below = member_nodes ms; are = refl; long = refl }
headed k (alternative i t) = record { content = an_alternative i (length (nodes 0 t) + 1); below = nodes 0 t; are = refl; long = refl }

abbrev first_or : {A : Type 0} → A → List A → A
first_or d [] = d
first_or d (x ∷ xs) = x

same_first : {A : Type 0} (x y : A) (xs ys : List A) → x ∷ xs ≡ y ∷ ys → x ≡ y
same_first x y xs ys e = ap (first_or x) e

pub same_rest : {A : Type 0} (x y : A) (xs ys : List A) → x ∷ xs ≡ y ∷ ys → xs ≡ ys
same_rest x y xs ys e = ap (drop 1) e

-- the first member of those from a place on
pub record Front (s : SideLists) (ns : List Node') (at : ℕ) (n : Node') (left : ViewMembers) : Type 0 where
  pub tree : ViewTree
  pub rest : ViewMembers
  pub is : left ≡ member n.number tree rest
  pub inside : at + extent (content_of s n.content) ≤ length ns
  pub some : 1 ≤ extent (content_of s n.content)
  pub first : Spell s (slice_range ns at (at + extent (content_of s n.content))) n.number tree
  pub after : SpellMembers s (drop (at + extent (content_of s n.content)) ns) rest

length_mapped : {A B : Type 0} (f : A → B) (xs : List A) → length (map f xs) ≡ length xs
length_mapped f [] = refl
length_mapped f (x ∷ xs) = ap suc (length_mapped f xs)

front_by : (s : SideLists) (ns : List Node') (at : ℕ) (n : Node') (left : ViewMembers)
    → at < length ns
    → drop at ns ≡ n ∷ drop (suc at) ns
    → AreWithin s ns
    → nodes_of s (drop at ns) ≡ member_nodes left
    → Front s ns at n left
front_by s ns at n no_member h d w e = absurd (none (nodes_of s (drop (suc at) ns)) (sym (ap (nodes_of s) d) ∙ e))
  where
    none : (xs : List Node) → node_of s n ∷ xs ≡ [] → ⊥
    none xs e = cc
front_by s ns at n (member k t ms) h d w e =
    let head = headed k t in
    let split : node_of s n ∷ nodes_of s (drop (suc at) ns) ≡ node k head.content ∷ (head.below ++ member_nodes ms) =
    sym (ap (nodes_of s) d) ∙ e ∙ ap (λ q. q ++ member_nodes ms) head.are in
    let first = same_first (node_of s n) (node k head.content) _ _ split in
    let number : k ≡ n.number = sym (ap (λ q. q.number) first) in
    let matches : content_of s n.content ≡ head.content = ap (λ q. q.content) first in
    let x = extent (content_of s n.content) in
    let big : x ≡ length head.below + 1 = ap extent matches ∙ head.long in
    let size : length (nodes k t) ≡ x = ap length head.are ∙ (let e : suc (length head.below) ≡ x = omega arith in e) in
    let whole = sym (length_mapped (node_of s) (drop at ns)) ∙ ap length e ∙ length-append (nodes k t) (member_nodes ms) in
    let left_over = length-drop at ns in
    record {
      tree = t;
      rest = ms;
      is = ap (λ q. member q t ms) number;
      inside = omega arith;
      some = omega arith;
      first = record {
        nodes =
            ap (λ q. nodes_of s (take q (drop at ns))) (let f : (at + x) - at ≡ x = omega arith in f)
            ∙ sym (take-map (node_of s) x (drop at ns))
            ∙ ap (take x) e
            ∙ take_kept x (nodes k t) (member_nodes ms) (omega arith)
            ∙ take_all x (nodes k t) (omega arith)
            ∙ ap (λ q. nodes q t) number;
        within = all_taken (λ m. IsContentWithin s m.content) ((at + x) - at) (drop at ns) (all_dropped (λ m. IsContentWithin s m.content) at ns w);
      };
      after = record {
        nodes =
            ap (nodes_of s) (drop_more at x ns)
            ∙ sym (drop-map (node_of s) x (drop at ns))
            ∙ ap (drop x) e
            ∙ ap (λ q. drop q (nodes k t ++ member_nodes ms)) (sym size)
            ∙ drop-append_seam (nodes k t) (member_nodes ms);
        within = all_dropped (λ m. IsContentWithin s m.content) (at + x) ns w;
      };
    }

pub front_of : (s : SideLists) (ns : List Node') (at : ℕ) (n : Node') (left : ViewMembers) → Left s ns at left → at < length ns → n ≡ get_or ns at n → Front s ns at n left
front_of s ns at n left l h is = front_by s ns at n left h (drop_at ns at n h is) l.within l.nodes

pub left_after : (s : SideLists) (ns : List Node') (at : ℕ) (n : Node') (left : ViewMembers) (end : ℕ) → Left s ns at left → (f : Front s ns at n left) → end ≡ at + extent (content_of s n.content) → Left s ns end f.rest
left_after s ns at n left end l f e = record { nodes = ap (λ q. nodes_of s (drop q ns)) e ∙ f.after.nodes; within = l.within }

drop_all : {A : Type 0} (i : ℕ) (xs : List A) → length xs ≤ i → drop i xs ≡ []
drop_all zero [] h = refl
drop_all zero (x ∷ xs) h = absurd (omega arith)
drop_all (suc i) [] h = refl
drop_all (suc i) (x ∷ xs) h = drop_all i xs (omega arith)

pub none_left : (s : SideLists) (ns : List Node') (at : ℕ) (left : ViewMembers) → Left s ns at left → length ns ≤ at → left ≡ no_member
none_left s ns at left l h = by left (sym (ap (nodes_of s) (drop_all at ns h)) ∙ l.nodes)
  where
    by : (ms : ViewMembers) → [] ≡ member_nodes ms → ms ≡ no_member
    by no_member e = refl
    by (member k t ms) e = absurd (let head = headed k t in none head.below (member_nodes ms) (node k head.content) (e ∙ ap (λ q. q ++ member_nodes ms) head.are))
      where
        none : (xs ys : List Node) (x : Node) → [] ≡ (x ∷ xs) ++ ys → ⊥
        none xs ys x e = cc

-- ---- the first node of a tree determines its kind

-- the node at the front
pub front_is : (s : SideLists) (ns : List Node') (k : ℕ) (t : ViewTree) (n : Node') → Spell s ns k t → n ≡ get_or ns 0 n → node_of s n ∷ nodes_of s (drop 1 ns) ≡ nodes k t
front_is s [] k t n p is = absurd (let h = headed k t in none h.below (node k h.content) (p.nodes ∙ h.are))
  where
    none : (xs : List Node) (x : Node) → [] ≡ x ∷ xs → ⊥
    none xs x e = cc
front_is s (m ∷ ns) k t n p is = ap (λ q. node_of s q ∷ nodes_of s ns) is ∙ p.nodes

pub some_nodes : (s : SideLists) (ns : List Node') (k : ℕ) (t : ViewTree) → Spell s ns k t → 1 ≤ length ns
some_nodes s ns k t p =
    let h = headed k t in
    let e = sym (length_mapped (node_of s) ns) ∙ ap length (p.nodes ∙ h.are) in
    omega arith

pub first_within : (s : SideLists) (ns : List Node') (n : Node') → AreWithin s ns → 1 ≤ length ns → n ≡ get_or ns 0 n → IsContentWithin s n.content
first_within s [] n w h is = absurd (omega arith)
first_within s (m ∷ ns) n w h is = subst (λ q. IsContentWithin s q.content) (sym is) w.0

content_first : (s : SideLists) (ns below : List Node') (k : ℕ) (t : ViewTree) (n : Node') (w : NodeContent)
    → node n.number w ∷ nodes_of s below ≡ nodes k t
    → AreWithin s below
    → FirstIs s below w t
content_first s ns below k (leaf l) n w e a =
    subst (λ q. FirstIs s below q (leaf l)) (sym (ap (λ q. q.content) (same_first _ (node k (a_leaf l)) _ [] e))) first_leaf
content_first s ns below k (fields size ms) n w e a =
    subst (λ q. FirstIs s below q (fields size ms)) (sym (ap (λ q. q.content) (same_first _ (node k (some_fields size (length (member_nodes ms) + 1))) _ (member_nodes ms) e)))
    (first_fields (record { nodes = same_rest _ _ _ _ e; within = a }))
content_first s ns below k (list ms) n w e a =
    subst (λ q. FirstIs s below q (list ms)) (sym (ap (λ q. q.content) (same_first _ (node k (some_elements (length (member_nodes ms) + 1))) _ (member_nodes ms) e)))
    (first_list (record { nodes = same_rest _ _ _ _ e; within = a }))
content_first s ns below k (alternative i t) n w e a =
    subst (λ q. FirstIs s below q (alternative i t)) (sym (ap (λ q. q.content) (same_first _ (node k (an_alternative i (length (nodes 0 t) + 1))) _ (nodes 0 t) e)))
    (first_alternative (record { nodes = same_rest _ _ _ _ e; within = a }))

pub content_says : (s : SideLists) (ns : List Node') (k : ℕ) (t : ViewTree) (n : Node') → Spell s ns k t → n ≡ get_or ns 0 n → FirstIs s (drop 1 ns) (content_of s n.content) t
content_says s ns k t n p is = content_first s ns (drop 1 ns) k t n (content_of s n.content) (front_is s ns k t n p is) (all_dropped (λ m. IsContentWithin s m.content) 1 ns p.within)

pub next_of : (s : SideLists) (ns : List Node') (at : ℕ) (n : Node') (left : ViewMembers) (end : ℕ)
    → Left s ns at left
    → at < length ns
    → n ≡ get_or ns at n
    → end ≡ at + extent (content_of s n.content)
    → IsNext s ns at n.number end left
next_of s ns at n left end l h is e =
    let f = front_of s ns at n left l h is in
    record {
      tree = f.tree;
      rest = f.rest;
      is = f.is;
      first = subst (λ q. Spell s (slice_range ns at q) n.number f.tree) (sym e) f.first;
      after = left_after s ns at n left end l f e;
    }

-- ---- the tree of each kind of node

pub content_of_fields : (s : SideLists) (below : List Node') (w : NodeContent) (t : ViewTree) (size e : ℕ) → FirstIs s below w t → w ≡ some_fields size e → (ms : ViewMembers) × SpellMembers s below ms × (t ≡ fields size ms)
content_of_fields s below w t size e first_leaf f = absurd (cc)
content_of_fields s below w t size e (first_fields {size = z} {ms = ms} p) f = (ms, p, ap (λ q. fields q ms) (ap size_or f))
  where
    size_or : NodeContent → ℕ
    size_or (some_fields n e) = n
    size_or _ = 0
content_of_fields s below w t size e (first_list p) f = absurd (cc)
content_of_fields s below w t size e (first_alternative p) f = absurd (cc)

pub content_of_list : (s : SideLists) (below : List Node') (w : NodeContent) (t : ViewTree) (e : ℕ) → FirstIs s below w t → w ≡ some_elements e → (ms : ViewMembers) × SpellMembers s below ms × (t ≡ list ms)
content_of_list s below w t e first_leaf f = absurd (cc)
content_of_list s below w t e (first_fields p) f = absurd (cc)
content_of_list s below w t e (first_list {ms = ms} p) f = (ms, p, refl)
content_of_list s below w t e (first_alternative p) f = absurd (cc)

pub content_of_alternative : (s : SideLists) (below : List Node') (w : NodeContent) (t : ViewTree) (i e : ℕ) → FirstIs s below w t → w ≡ an_alternative i e → (u : ViewTree) × Spell s below 0 u × (t ≡ alternative i u)
content_of_alternative s below w t i e first_leaf f = absurd (cc)
content_of_alternative s below w t i e (first_fields p) f = absurd (cc)
content_of_alternative s below w t i e (first_list p) f = absurd (cc)
content_of_alternative s below w t i e (first_alternative {t = u} p) f = (u, p, ap (λ q. alternative q u) (ap index_or f))
  where
    index_or : NodeContent → ℕ
    index_or (an_alternative n e) = n
    index_or _ = 0

content_of_leaf : (s : SideLists) (below : List Node') (w : NodeContent) (t : ViewTree) (l : Leaf) → FirstIs s below w t → w ≡ a_leaf l → (m : Leaf) × (w ≡ a_leaf m) × (t ≡ leaf m)
content_of_leaf s below w t l (first_leaf {l = m}) f = (m, refl, refl)
content_of_leaf s below w t l (first_fields p) f = absurd (cc)
content_of_leaf s below w t l (first_list p) f = absurd (cc)
content_of_leaf s below w t l (first_alternative p) f = absurd (cc)

-- a tree whose node is a leaf is that leaf
pub leaf_is : (s : SideLists) (below : List Node') (w : NodeContent) (t : ViewTree) (l : Leaf) → FirstIs s below w t → w ≡ a_leaf l → t ≡ leaf l
leaf_is s below w t l (first_leaf {l = m}) f = ap leaf (ap leaf_or f)
  where
    leaf_or : NodeContent → Leaf
    leaf_or (a_leaf n) = n
    leaf_or _ = l
leaf_is s below w t l (first_fields p) f = absurd (cc)
leaf_is s below w t l (first_list p) f = absurd (cc)
leaf_is s below w t l (first_alternative p) f = absurd (cc)

-- a node without others is a leaf
pub leaf_shown : {v : AbstractValue} (s : SideLists) (below : List Node') (w : NodeContent') (t : ViewTree)
    → FirstIs s below (content_of s w) t
    → ((size e : ℕ) → w ≡ content.Fields size e → ⊥)
    → ((e : ℕ) → w ≡ content.List e → ⊥)
    → ((i e : ℕ) → w ≡ content.Alternative i e → ⊥)
    → ((l : Leaf) → content_of s w ≡ a_leaf l → v ≡ leaf_value l)
    → v ≡ value_of t
leaf_shown s below w t p f g h value_kind = by w p f g h value_kind
  where
    by : {v : AbstractValue} (w : NodeContent') → FirstIs s below (content_of s w) t
        → ((size e : ℕ) → w ≡ content.Fields size e → ⊥)
        → ((e : ℕ) → w ≡ content.List e → ⊥)
        → ((i e : ℕ) → w ≡ content.Alternative i e → ⊥)
        → ((l : Leaf) → content_of s w ≡ a_leaf l → v ≡ leaf_value l)
        → v ≡ value_of t
    by (content.Fields size e) p f g h value_kind = absurd (f size e refl)
    by (content.List e) p f g h value_kind = absurd (g e refl)
    by (content.Alternative i e) p f g h value_kind = absurd (h i e refl)
    by u p f g h value_kind = let q = content_of_leaf s below _ t _ p refl in value_kind q.0 q.1 ∙ ap value_of (sym q.2)

-- the members of a tree follow its first node
pub members_fields : (s : SideLists) (ns : List Node') (k : ℕ) (t : ViewTree) (w : NodeContent) (size e : ℕ) → Spell s ns k t → FirstIs s (drop 1 ns) w t → w ≡ some_fields size e → Left s ns 1 (members_in t)
members_fields s ns k t w size e p q f =
    let d = content_of_fields s (drop 1 ns) w t size e q f in
    subst (λ u. Left s ns 1 (members_in u)) (sym d.2) (record { nodes = d.1.nodes; within = p.within })

pub members_list : (s : SideLists) (ns : List Node') (k : ℕ) (t : ViewTree) (w : NodeContent) (e : ℕ) → Spell s ns k t → FirstIs s (drop 1 ns) w t → w ≡ some_elements e → Left s ns 1 (members_in t)
members_list s ns k t w e p q f =
    let d = content_of_list s (drop 1 ns) w t e q f in
    subst (λ u. Left s ns 1 (members_in u)) (sym d.2) (record { nodes = d.1.nodes; within = p.within })

pub members_none : (s : SideLists) (ns : List Node') (k : ℕ) (t : ViewTree) (w : NodeContent') (at : ℕ)
    → Spell s ns k t
    → FirstIs s (drop 1 ns) (content_of s w) t
    → ((size e : ℕ) → w ≡ content.Fields size e → ⊥)
    → ((e : ℕ) → w ≡ content.List e → ⊥)
    → length ns ≤ at
    → Left s ns at (members_in t)
members_none s ns k t w at p q f g l = record { nodes = ap (nodes_of s) (drop_all at ns l) ∙ ap member_nodes (sym (none w (content_of s w) t q refl f g)); within = p.within }
  where
    by : (w : NodeContent') (size e : ℕ) → content_of s w ≡ some_fields size e → (d : ℕ) × (w ≡ content.Fields size d)
    by (content.Fields n d) size e f = (d, ap (λ q. content.Fields q d) (ap size_or f))
      where
        size_or : NodeContent → ℕ
        size_or (some_fields n e) = n
        size_or _ = 0
    by _ size e f = absurd (cc)

    by_list : (w : NodeContent') (e : ℕ) → content_of s w ≡ some_elements e → (d : ℕ) × (w ≡ content.List d)
    by_list (content.List d) e f = (d, refl)
    by_list _ e f = absurd (cc)

    none : (w : NodeContent') (v : NodeContent) (t : ViewTree) → FirstIs s (drop 1 ns) v t → content_of s w ≡ v → ((size e : ℕ) → w ≡ content.Fields size e → ⊥) → ((e : ℕ) → w ≡ content.List e → ⊥) → members_in t ≡ no_member
    none w v t first_leaf e f g = refl
    none w v t (first_fields {size = n} {e = d} m) e f g = absurd (let q = by w n d e in f n q.0 q.1)
    none w v t (first_list {e = d} m) e f g = absurd (let q = by_list w d e in g q.0 q.1)
    none w v t (first_alternative m) e f g = refl
