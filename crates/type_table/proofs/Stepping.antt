-- Numbers of items, one after the other.
use Rattle.std.proofs.Common.{◌≡◌, ℕ, ◌+◌, ◌<◌, ◌++◌, List, [], ◌∷◌, length, map, drop, get_or, Some, sym, ap, ◌∙◌, append_assoc, arith}
use Rattle.std.specs.Prelude.{slice_get, ℤ, max}
use Rattle.trees.specs.declared.types.EnumeratedItem.{EnumeratedItem}
use Rattle.trees.specs.Types.{item_of}
use Rattle.names.specs.proving.Distinct.{right, drop_at}
use Rattle.type_table.specs.Items.{number_or, counted_to, root_from, past, additions_from}

step_more : {X : Type 0} (zs : List X) (y z : X) (rest more all : List X) → zs ++ y ∷ rest ≡ all → z ≡ y →
    more ≡ rest → (zs ++ z ∷ []) ++ more ≡ all
step_more zs y z rest more all h e f = append_assoc zs (z ∷ []) more ∙ ap (λ q. zs ++ q ∷ more) e ∙ ap (λ q. zs ++ y ∷ q) f ∙ h

pub root_step : (given zs new : List ℤ) (n m i : ℕ) (items : List EnumeratedItem) (item : EnumeratedItem) (z : ℤ)
    (all : List ℤ) → i < length items → item ≡ get_or items i item →
    zs ++ root_from given n (map item_of (drop i items)) ≡ all → z ≡ number_or n given item.number → m ≡ counted_to n given item.number → new ≡ zs ++ z ∷ [] →
    new ++ root_from given m (map item_of (drop (i + 1) items)) ≡ all
root_step given zs new n m i items item z all l e h a b c =
    ap (λ q. q ++ root_from given m (map item_of (drop (i + 1) items))) c
    ∙ step_more zs (number_or n given item.number) z (root_from given (counted_to n given item.number) (map item_of (drop (i + 1) items))) (root_from given m (map item_of (drop (i + 1) items))) all
    (ap (λ q. zs ++ root_from given n (map item_of q)) (sym (drop_at items i item l e)) ∙ h)
    a
    (ap (λ k. root_from given k (map item_of (drop (i + 1) items))) b)

-- what is left of additions begins with this turn's number
pub additions_left : (root zs : List ℤ) (n i : ℕ) (items : List EnumeratedItem) (item : EnumeratedItem)
    (all : List ℤ) → i < length items → item ≡ get_or items i item →
    zs ++ additions_from root n (map item_of (drop i items)) ≡ all →
    zs ++ number_or n root item.number ∷ additions_from root (max n (past (number_or n root item.number))) (map item_of (drop (i + 1) items)) ≡ all
additions_left root zs n i items item all l e h = ap (λ q. zs ++ additions_from root n (map item_of q)) (sym (drop_at items i item l e)) ∙ h

pub additions_step : (root zs new : List ℤ) (n m i : ℕ) (items : List EnumeratedItem) (item : EnumeratedItem)
    (z : ℤ) (all : List ℤ) → i < length items → item ≡ get_or items i item →
    zs ++ additions_from root n (map item_of (drop i items)) ≡ all → z ≡ number_or n root item.number → m ≡ max n (past z) → new ≡ zs ++ z ∷ [] →
    new ++ additions_from root m (map item_of (drop (i + 1) items)) ≡ all
additions_step root zs new n m i items item z all l e h a b c =
    ap (λ q. q ++ additions_from root m (map item_of (drop (i + 1) items))) c
    ∙ step_more zs (number_or n root item.number) z (additions_from root (max n (past (number_or n root item.number))) (map item_of (drop (i + 1) items))) (additions_from root m (map item_of (drop (i + 1) items))) all
    (additions_left root zs n i items item all l e h)
    a
    (ap (λ k. additions_from root k (map item_of (drop (i + 1) items))) (b ∙ ap (λ q. max n (past q)) a))

-- the number of this turn's addition, in all of them
pub addition_here : (root zs : List ℤ) (n i : ℕ) (items : List EnumeratedItem) (item : EnumeratedItem) →
    i < length items → item ≡ get_or items i item → length zs ≡ length root + i →
    zs ++ additions_from root n (map item_of (drop i items)) ≡ root ++ additions_from root 0 (map item_of items) →
    slice_get (additions_from root 0 (map item_of items)) i ≡ Some (number_or n root item.number)
addition_here root zs n i items item l e long h =
    let rest = additions_from root (max n (past (number_or n root item.number))) (map item_of (drop (i + 1) items)) in
    let z : length root + i ≡ length zs + 0 = omega (arith, long) in
    sym (right root (additions_from root 0 (map item_of items)) i)
    ∙ ap (λ k. slice_get (root ++ additions_from root 0 (map item_of items)) k) z
    ∙ ap (λ q. slice_get q (length zs + 0)) (sym (additions_left root zs n i items item (root ++ additions_from root 0 (map item_of items)) l e h))
    ∙ right zs (number_or n root item.number ∷ rest) 0
