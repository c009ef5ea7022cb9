-- The lines of types, from one type on.
use Rattle.std.proofs.Common.{arith, ◌≡◌, ℕ, zero, suc, ◌+◌, ◌<◌, ◌≤◌, List, [], ◌∷◌, ◌++◌, length, drop, get_or, append_assoc, sym, subst, ◌∙◌, ap, refl}
use Rattle.std.proofs.lemmas.List.{length-map}
use Rattle.std.specs.Prelude.{Some, slice_get}
use Rattle.asn_base.specs.Types.{Resolved}
use Rattle.names.specs.Sources.{place_of}
use Rattle.resolve.specs.Program.{Program, IsAssignment}
use Rattle.trees.specs.Values.{Name}
use Rattle.type_table.specs.Seen.{type_of, types_of}
use Rattle.type_table.specs.Table.{Type'}
use Rattle.type_table.specs.declared.table.TypeNode.{TypeNode}
use Rattle.type_listing.specs.Listing.{AreListed, none, more, type_lines}

drop_none : {A : Type 0} (i : ℕ) → drop {A = A} i [] ≡ []
drop_none zero = refl
drop_none (suc i) = refl

-- the list has an element at each place before its end
pub there : {A : Type 0} (xs : List A) (i : ℕ) → i < length xs → (x : A) × (slice_get xs i ≡ Some x)
there [] i h = absurd (omega arith)
there (x ∷ xs) zero h = (x, refl)
there (x ∷ xs) (suc i) h = there xs i (omega arith)

-- a place among the types in memory is one of the program's types
pub within : (ws : List TypeNode) (ns : List Type') (i : ℕ) → types_of ws ≡ ns → i < length ws → i < length ns
within ws ns i e h = subst (λ q. i < length q) e (subst (λ k. i < k) (sym (length-map ws type_of)) h)

-- a place after those in memory is after the program's types
pub beyond : (ws : List TypeNode) (ns : List Type') (i : ℕ) → types_of ws ≡ ns → length ws ≤ i → length ns ≤ i
beyond ws ns i e h = subst (λ q. length q ≤ i) e (subst (λ k. k ≤ i) (sym (length-map ws type_of)) h)

-- no type is left after the last one
pub none_left : (p : Program) (s : List Resolved) (ns : List Type') (t i : ℕ) → length ns ≤ i → AreListed p s t (drop i ns) []
none_left p s [] t i h = subst (λ q. AreListed p s t q []) (sym (drop_none i)) none
none_left p s (n ∷ ns) t zero h = absurd (omega arith)
none_left p s (n ∷ ns) t (suc i) h = none_left p s ns t i (omega arith)

-- the lines of the first type that is left come before those of the others
pub next : (p : Program) (s : List Resolved) (ns : List Type') (t i : ℕ) (n : Type') (M x : Name) (rest : List ℕ)
    → slice_get ns i ≡ Some n → IsAssignment p n.assignment M x → AreListed p s (t + 1) (drop (i + 1) ns) rest
    → AreListed p s t (drop i ns) (type_lines p s t n M x ++ rest)
next p s [] t i n M x rest at m ls = absurd (cc)
next p s (k ∷ ns) t zero n M x rest at m ls =
    let e : n ≡ k = cc in
    let f : t + 1 ≡ suc t = omega arith in
    subst (λ q. AreListed p s t (q ∷ ns) (type_lines p s t n M x ++ rest)) e
    (more m (subst (λ j. AreListed p s j ns rest) f ls))
next p s (k ∷ ns) t (suc i) n M x rest at m ls =
    let e : suc i + 1 ≡ suc (i + 1) = omega arith in
    next p s ns t i n M x rest at m (subst (λ j. AreListed p s (t + 1) (drop j (k ∷ ns)) rest) e ls)

-- the lines of one type are added, and those of the types after it are left
pub step : (p : Program) (s : List Resolved) (i : ℕ) (n : Type') (M x : Name) (one both rest : List ℕ)
    → slice_get p.types i ≡ Some n → IsAssignment p n.assignment M x → both ≡ one ++ type_lines p s i n M x
    → ((after : List ℕ) → AreListed p s i (drop i p.types) after → AreListed p s 0 p.types (one ++ after))
    → AreListed p s (i + 1) (drop (i + 1) p.types) rest → AreListed p s 0 p.types (both ++ rest)
step p s i n M x one both rest at m e before ls =
    subst (AreListed p s 0 p.types)
    (sym (ap (λ q. q ++ rest) e ∙ append_assoc one (type_lines p s i n M x) rest))
    (before (type_lines p s i n M x ++ rest) (next p s p.types i i n M x rest at m ls))

-- the place of a type in memory is that of the program's type
pub placed : (ws : List TypeNode) (i : ℕ) (d : TypeNode) (n : Type') → i < length ws → slice_get (types_of ws) i ≡ Some n
    → place_of (get_or ws i d).place ≡ n.place
placed [] i d n h e = absurd (omega arith)
placed (w ∷ ws) zero d n h e =
    let f : type_of w ≡ n = cc in
    ap (λ t. t.place) f
placed (w ∷ ws) (suc i) d n h e = placed ws i d n (omega arith) e
