-- The ranges of a tree, by those of its parts.
use Rattle.std.proofs.Common.{◌≡◌, ap, ◌∙◌, refl, sym, arith, ℕ, ◌+◌, ◌-◌, ◌<◌, length, take, drop, map, add-one, drop-cons}
use Rattle.std.proofs.lemmas.List.{append_assoc, map-append, take-append-drop, take_all, length-drop}
use Rattle.std.specs.Prelude.{◌++◌, ◌∷◌, [], IfOk, List, Option, Some, None, Result, Ok, Err, slice_index_or}
use Rattle.std.specs.Global.{Global}
use Rattle.std.specs.declared.rc.Rc.{Rc}
use Rattle.asn_base.specs.declared.constraint.Range.{Range as Range'}
use Rattle.asn_base.specs.Types.{Range}
use Rattle.asn_base.specs.Seen.{range_of}
use Rattle.asn_base.specs.declared.range_node.Node.{Node, out-Node}
use Rattle.asn_base.specs.declared.range_node.Node.TheShapes.{former-Node-before}
use Rattle.asn_base.specs.declared.range_node.Node.TheFolds.{fold_out-Node}
use Rattle.asn_base.specs.Trees.{level, part, in_order, ranges_in}

held : (b : Option (Rc Node Global)) → part (λ r. r.value) (former-Node-before.map Node (List Range) in_order b) ≡ ranges_in b
held None = refl
held (Some r) = refl

pub unrolled : (n : Node)
    → in_order n ≡ ranges_in (out-Node n).before ++ ((out-Node n).range ∷ ranges_in (out-Node n).after)
unrolled n =
    fold_out-Node (List Range) level n
    ∙ rw (held (out-Node n).before, held (out-Node n).after) refl

-- a part that is there has the ranges of its tree
pub there : (l : Option (Rc Node Global)) (r : Rc Node Global) (m : Node)
    → l ≡ Some r
    → m ≡ r.value
    → ranges_in l ≡ in_order m
there l r m e f = ap ranges_in e ∙ ap in_order (sym f)

pub nothing : (l : Option (Rc Node Global)) → l ≡ None → ranges_in l ≡ []
nothing l e = ap ranges_in e

pub first_here : (n : Node) → (out-Node n).before ≡ None
    → in_order n ≡ (out-Node n).range ∷ ranges_in (out-Node n).after
first_here n e = rw (unrolled n, nothing (out-Node n).before e) refl

pub first_there : (n m : Node) (r : Rc Node Global) (x : Range) (rs : List Range)
    → (out-Node n).before ≡ Some r
    → m ≡ r.value
    → in_order m ≡ x ∷ rs
    → in_order n ≡ x ∷ (rs ++ ((out-Node n).range ∷ ranges_in (out-Node n).after))
first_there n m r x rs e f g = rw (unrolled n, there (out-Node n).before r m e f, g) refl

pub last_here : (n : Node) → (out-Node n).after ≡ None
    → in_order n ≡ ranges_in (out-Node n).before ++ ((out-Node n).range ∷ [])
last_here n e = rw (unrolled n, nothing (out-Node n).after e) refl

pub last_there : (n m : Node) (r : Rc Node Global) (x : Range) (rs : List Range)
    → (out-Node n).after ≡ Some r
    → m ≡ r.value
    → in_order m ≡ rs ++ (x ∷ [])
    → in_order n ≡ (ranges_in (out-Node n).before ++ ((out-Node n).range ∷ rs)) ++ (x ∷ [])
last_there n m r x rs e f g =
    rw (unrolled n, there (out-Node n).after r m e f, g) (sym (append_assoc (ranges_in (out-Node n).before) ((out-Node n).range ∷ rs) (x ∷ [])))

-- ---- turns

abbrev pub least_of : Node → List Range
least_of n = ranges_in (out-Node n).before

abbrev pub greatest_of : Node → List Range
greatest_of n = ranges_in (out-Node n).after

abbrev pub top : Node → Range
top n = (out-Node n).range

-- what a call gives has the ranges of equal lists too
pub keeps : {A E : Type 0} (r : Result A E) (f : A → List Range) (x y : List Range)
    → IfOk r (λ a. f a ≡ x)
    → x ≡ y
    → IfOk r (λ a. f a ≡ y)
keeps (Ok a) f x y p e = p ∙ e
keeps (Err _) f x y p e = tt

pub once_before : (n : Node) (y : Range) (zs ts : List Range)
    → ts ≡ greatest_of n ++ (y ∷ zs)
    → least_of n ++ (top n ∷ ts) ≡ in_order n ++ (y ∷ zs)
once_before n y zs ts e = rw (unrolled n, e) (sym (append_assoc (least_of n) (top n ∷ greatest_of n) (y ∷ zs)))

pub once_after : (n : Node) (y : Range) (bs ts : List Range)
    → ts ≡ bs ++ (y ∷ least_of n)
    → ts ++ (top n ∷ greatest_of n) ≡ bs ++ (y ∷ in_order n)
once_after n y bs ts e = rw (unrolled n, e) (append_assoc bs (y ∷ least_of n) (top n ∷ greatest_of n))

pub twice_before : (n m : Node) (r : Rc Node Global) (y : Range) (zs ls rs : List Range)
    → (out-Node n).after ≡ Some r
    → m ≡ r.value
    → ls ≡ least_of n ++ (top n ∷ least_of m)
    → rs ≡ greatest_of m ++ (y ∷ zs)
    → ls ++ (top m ∷ rs) ≡ in_order n ++ (y ∷ zs)
twice_before n m r y zs ls rs e f i j =
    let t : in_order n ≡ least_of n ++ (top n ∷ (least_of m ++ (top m ∷ greatest_of m))) =
    rw (unrolled n, there (out-Node n).after r m e f, unrolled m) refl in
    rw (t, i, j) (simp append_assoc refl)

pub twice_after : (n m : Node) (r : Rc Node Global) (y : Range) (bs ls rs : List Range)
    → (out-Node n).before ≡ Some r
    → m ≡ r.value
    → rs ≡ greatest_of m ++ (top n ∷ greatest_of n)
    → ls ≡ bs ++ (y ∷ least_of m)
    → ls ++ (top m ∷ rs) ≡ bs ++ (y ∷ in_order n)
twice_after n m r y bs ls rs e f i j =
    let t : in_order n ≡ (least_of m ++ (top m ∷ greatest_of m)) ++ (top n ∷ greatest_of n) =
    rw (unrolled n, there (out-Node n).before r m e f, unrolled m) refl in
    rw (t, i, j) (simp append_assoc refl)

pub hung_after : (b : Option (Rc Node Global)) (m : Node) (r : Rc Node Global) (y : Range) (zs ts : List Range)
    → b ≡ Some r
    → m ≡ r.value
    → ts ≡ greatest_of m ++ (y ∷ zs)
    → least_of m ++ (top m ∷ ts) ≡ ranges_in b ++ (y ∷ zs)
hung_after b m r y zs ts e f i = rw (there b r m e f) (once_before m y zs ts i)

pub hung_before : (a : Option (Rc Node Global)) (m : Node) (r : Rc Node Global) (y : Range) (bs ts : List Range)
    → a ≡ Some r
    → m ≡ r.value
    → ts ≡ bs ++ (y ∷ least_of m)
    → ts ++ (top m ∷ greatest_of m) ≡ bs ++ (y ∷ ranges_in a)
hung_before a m r y bs ts e f i = rw (there a r m e f) (once_after m y bs ts i)

-- ---- all ranges but the first one

pub rest_here : (n : Node) → (out-Node n).before ≡ None → greatest_of n ≡ drop 1 (in_order n)
rest_here n e = rw (first_here n e) refl

front : (xs ys zs : List Range) (x : Range) → drop 1 ((xs ++ (x ∷ ys)) ++ zs) ≡ drop 1 (xs ++ (x ∷ ys)) ++ zs
front [] ys zs x = refl
front (w ∷ xs) ys zs x = refl

pub rest_there : (n m : Node) (r : Rc Node Global) (ts : List Range)
    → (out-Node n).before ≡ Some r
    → m ≡ r.value
    → ts ≡ drop 1 (in_order m)
    → ts ++ (top n ∷ greatest_of n) ≡ drop 1 (in_order n)
rest_there n m r ts e f i =
    rw (unrolled n, there (out-Node n).before r m e f, i, unrolled m) (sym (front (least_of m) (greatest_of m) (top n ∷ greatest_of n) (top m)))

pub glued : (a : Option (Rc Node Global)) (m : Node) (r : Rc Node Global) (x : Range) (bs rs ts : List Range)
    → a ≡ Some r
    → m ≡ r.value
    → in_order m ≡ x ∷ rs
    → ts ≡ drop 1 (in_order m)
    → bs ++ (x ∷ ts) ≡ bs ++ ranges_in a
glued a m r x bs rs ts e f g i =
    let i' : ts ≡ rs = rw g at i in
    rw (there a r m e f, g, i') refl

-- ---- lists that are cut in two

-- the ranges from place i on: the one at i, then those after it
pub from_place : (xs : List Range') (i : ℕ) (d : Range')
    → i < length xs
    → map range_of (drop i xs) ≡ range_of (slice_index_or xs i d) ∷ map range_of (drop (i + 1) xs)
from_place xs i d h = rw (drop-cons xs i d h, add-one) refl

-- the ranges before a place, the one there, and those after it
pub cut : (xs : List Range') (m : ℕ) (d : Range')
    → m < length xs
    → map range_of (take m xs)
    ++ (range_of (slice_index_or xs m d) ∷ map range_of (take (length xs - (m + 1)) (drop (m + 1) xs)))
    ≡ map range_of xs
cut xs m d h =
    let a : take (length xs - (m + 1)) (drop (m + 1) xs) ≡ drop (m + 1) xs =
    take_all (length xs - (m + 1)) (drop (m + 1) xs) (let l = length-drop (m + 1) xs in omega (arith, l)) in
    let b : map range_of (take m xs) ++ map range_of (drop m xs) ≡ map range_of xs =
    sym (map-append range_of (take m xs) (drop m xs)) ∙ ap (map range_of) (take-append-drop m xs) in
    rw a (rw (from_place xs m d h) at b)
