-- What is left of the ranges of a tree within another range.
use Rattle.std.proofs.lemmas.List.{length-append}
use Rattle.std.proofs.Common.{arith, ◌<◌, length, ◌≡◌, ◌∙◌, ap, refl, subst, true, false, Some}
use Rattle.std.specs.Prelude.{◌++◌, [], ◌∷◌, List, Option}
use Rattle.std.specs.Global.{Global}
use Rattle.std.specs.declared.rc.Rc.{Rc}
use Rattle.asn_base.specs.Types.{Range}
use Rattle.ranges.specs.Numbers.{EndsBefore, AreApart}
use Rattle.asn_base.specs.declared.range_node.Node.{Node, out-Node}
use Rattle.ranges.specs.proving.Joining.{holds_some}
use Rattle.ranges.specs.proving.Meeting.{common}
use Rattle.asn_base.specs.Trees.{ranges_in}
use Rattle.ranges.specs.proving.Trees.{within, kept, onwards, up_to}
use Rattle.ranges.proofs.Unrolled.{unrolled, there, least_of, greatest_of, top}
use Rattle.ranges.proofs.TreeLists.{apart_left, apart_right, only_before, only_after, both_sides}

pub opened : (l : Option (Rc Node Global)) (r : Rc Node Global) (m : Node)
    → l ≡ Some r
    → m ≡ r.value
    → ranges_in l ≡ least_of m ++ (top m ∷ greatest_of m)
opened l r m e f = there l r m e f ∙ unrolled m

-- the parts of a tree of ranges that are apart
pub before_apart : (l : Option (Rc Node Global)) (r : Rc Node Global) (m : Node)
    → l ≡ Some r
    → m ≡ r.value
    → AreApart (ranges_in l)
    → AreApart (ranges_in (out-Node m).before)
before_apart l r m e f a = apart_left (least_of m) (top m ∷ greatest_of m) (subst AreApart (opened l r m e f) a)

pub after_apart : (l : Option (Rc Node Global)) (r : Rc Node Global) (m : Node)
    → l ≡ Some r
    → m ≡ r.value
    → AreApart (ranges_in l)
    → AreApart (ranges_in (out-Node m).after)
after_apart l r m e f a = (apart_right (least_of m) (top m ∷ greatest_of m) (subst AreApart (opened l r m e f) a)).2

-- and there are fewer ranges in each of them
pub fewer_before : (l : Option (Rc Node Global)) (r : Rc Node Global) (m : Node)
    → l ≡ Some r
    → m ≡ r.value
    → length (ranges_in (out-Node m).before) < length (ranges_in l)
fewer_before l r m e f =
    let o = ap length (opened l r m e f) in
    let a = length-append (least_of m) (top m ∷ greatest_of m) in
    omega (arith, o, a)

pub fewer_after : (l : Option (Rc Node Global)) (r : Rc Node Global) (m : Node)
    → l ≡ Some r
    → m ≡ r.value
    → length (ranges_in (out-Node m).after) < length (ranges_in l)
fewer_after l r m e f =
    let o = ap length (opened l r m e f) in
    let a = length-append (least_of m) (top m ∷ greatest_of m) in
    omega (arith, o, a)

pub clip_after : (l : Option (Rc Node Global)) (r : Rc Node Global) (n m : Node) (x : Range)
    → l ≡ Some r
    → n ≡ r.value
    → m ≡ r.value
    → AreApart (ranges_in l)
    → EndsBefore (top n) x
    → within x (greatest_of m) ≡ within x (ranges_in l)
clip_after l r n m x e f g a b =
    let o = opened l r r.value e refl in
    let b' : EndsBefore (top r.value) x = subst (λ n. EndsBefore (top n) x) f b in
    rw (g, o) (only_after x (least_of r.value) (top r.value) (greatest_of r.value) (subst AreApart o a) b')

pub clip_before : (l : Option (Rc Node Global)) (r : Rc Node Global) (n m : Node) (x : Range)
    → l ≡ Some r
    → n ≡ r.value
    → m ≡ r.value
    → AreApart (ranges_in l)
    → EndsBefore x (top n)
    → within x (least_of m) ≡ within x (ranges_in l)
clip_before l r n m x e f g a b =
    let o = opened l r r.value e refl in
    let b' : EndsBefore x (top r.value) = subst (λ n. EndsBefore x (top n)) f b in
    rw (g, o) (only_before x (least_of r.value) (top r.value) (greatest_of r.value) (subst AreApart o a) b')

-- a node whose range isn't before or after the other one: its own range and its parts are clipped
pub record IsSplit (l : Option (Rc Node Global)) (x part : Range) (bs zs : List Range) : Type 0 where
  pub node : Rc Node Global
  pub n : Node
  pub b : Node
  pub a : Node
  pub own : Range
  pub is : l ≡ Some node
  pub n_is : n ≡ node.value
  pub b_is : b ≡ node.value
  pub a_is : a ≡ node.value
  pub own_is : own ≡ top n
  pub apart : AreApart (ranges_in l)
  pub not_before : EndsBefore own x → ⊥
  pub not_after : EndsBefore x own → ⊥
  pub before : bs ≡ within (onwards x) (least_of b)
  pub after : zs ≡ within (up_to x) (greatest_of a)
  pub common_is : part ≡ common own x

sides : (l : Option (Rc Node Global)) (x part : Range) (bs zs : List Range)
    → IsSplit l x part bs zs
    → bs ++ (kept part ++ zs) ≡ within x (ranges_in l)
sides l x part bs zs s =
    let v = s.node.value in
    let o = opened l s.node v s.is refl in
    let w : s.own ≡ top v = s.own_is ∙ ap top s.n_is in
    let n : EndsBefore (top v) x → ⊥ = subst (λ r. EndsBefore r x → ⊥) w s.not_before in
    let m : EndsBefore x (top v) → ⊥ = subst (λ r. EndsBefore x r → ⊥) w s.not_after in
    rw (s.before, s.after, s.common_is, s.b_is, s.a_is, w, o)
    (both_sides x (least_of v) (top v) (greatest_of v) (subst AreApart o s.apart) n m)

pub clip_with : (l : Option (Rc Node Global)) (x part : Range) (bs zs us : List Range)
    → IsSplit l x part bs zs
    → holds_some part.least part.greatest ≡ true
    → us ≡ bs ++ (part ∷ zs)
    → us ≡ within x (ranges_in l)
clip_with l x part bs zs us s h e =
    let k : kept part ≡ part ∷ [] = rw h refl in
    e ∙ (rw k at (sides l x part bs zs s))

pub clip_without : (l : Option (Rc Node Global)) (x part : Range) (bs zs us : List Range)
    → IsSplit l x part bs zs
    → holds_some part.least part.greatest ≡ false
    → us ≡ bs ++ zs
    → us ≡ within x (ranges_in l)
clip_without l x part bs zs us s h e =
    let k : kept part ≡ [] = rw h refl in
    e ∙ (rw k at (sides l x part bs zs s))
