-- Components at their places in a row.
use Rattle.std.proofs.Common.{arith, ◌≡◌, ℕ, zero, suc, ◌+◌, ◌<◌, ◌≤◌, Bool, true, false, List, [], ◌∷◌, ◌++◌, length, map, Option, Some, None, refl, sym, ap, subst, ◌∙◌}
use Rattle.std.specs.Prelude.{if◌then◌else◌}
use Rattle.std.specs.List.{AllByRecursion}
use Rattle.asn_base.specs.Abstract.{AbstractValue, Row, end, absent, present}
use Rattle.asn_base.specs.Types.{Component, Resolved}
use Rattle.asn_base.specs.Typed.{members, group_of}
use Rattle.packed_encodings.specs.Weights.{row_weight}
use Rattle.asn_base.specs.Schemas.{is_addition}
use Rattle.asn_base.specs.Order.{precedes}
use Rattle.packed_encodings.specs.Orders.{Member, missing, standing, component, Beside, beside_none, beside_absent, beside_present, root_members, past_marker, placed_by_tag, canonical, Addition, alone, bracketed, is_of_group, in_front, additions}
use Rattle.packed_code.specs.Routines.{placed_from, place_in}
use Rattle.packed_reader.specs.Structures.{no_row, with_value, with_members, members_in}
use Rattle.packed_encodings.specs.proving.Natural.{canonical_same, on_additions}
use Rattle.packed_reader.proofs.Members.{all_weight, member_weight}

-- ---- members in another order

-- the second list is the first with one more at some place
pub data Put {X : Type 0} (m : X) : List X → List X → Type 0 where
  put_here : {xs : List X} → Put m xs (m ∷ xs)
  put_there : {x : X} {xs ys : List X} → Put m xs ys → Put m (x ∷ xs) (x ∷ ys)

pub data Mixed {X : Type 0} : List X → List X → Type 0 where
  mixed_none : Mixed [] []
  mixed_more : {m : X} {xs ys zs : List X} → Mixed xs ys → Put m ys zs → Mixed (m ∷ xs) zs

put_all : {X : Type 0} (P : X → Type 0) {m : X} {xs ys : List X} → Put m xs ys → P m → AllByRecursion P xs → AllByRecursion P ys
put_all P put_here p a = (p, a)
put_all P (put_there q) p a = (a.0, put_all P q p a.1)

put_back : {X : Type 0} (P : X → Type 0) {m : X} {xs ys : List X} → Put m xs ys → AllByRecursion P ys → P m × AllByRecursion P xs
put_back P put_here a = (a.0, a.1)
put_back P (put_there q) a = let r = put_back P q a.1 in (r.0, (a.0, r.1))

pub mixed_all : {X : Type 0} (P : X → Type 0) {xs ys : List X} → Mixed xs ys → AllByRecursion P xs → AllByRecursion P ys
mixed_all P mixed_none a = tt
mixed_all P (mixed_more q p) a = put_all P p a.0 (mixed_all P q a.1)

pub mixed_back : {X : Type 0} (P : X → Type 0) {xs ys : List X} → Mixed xs ys → AllByRecursion P ys → AllByRecursion P xs
mixed_back P mixed_none a = tt
mixed_back P (mixed_more q p) a = let r = put_back P p a in (r.0, mixed_back P q r.1)

put_weight : {m : Member AbstractValue} {xs ys : List (Member AbstractValue)} → Put m xs ys → all_weight ys ≡ member_weight m + all_weight xs
put_weight put_here = refl
put_weight (put_there q) = let e = put_weight q in omega arith

pub mixed_weight : {xs ys : List (Member AbstractValue)} → Mixed xs ys → all_weight ys ≡ all_weight xs
mixed_weight mixed_none = refl
mixed_weight (mixed_more q p) = let e = mixed_weight q in let f = put_weight p in omega arith

pub mixed_itself : {X : Type 0} (xs : List X) → Mixed xs xs
mixed_itself [] = mixed_none
mixed_itself (x ∷ xs) = mixed_more (mixed_itself xs) put_here

pub all_first : {X : Type 0} (P : X → Type 0) (xs ys : List X) → AllByRecursion P (xs ++ ys) → AllByRecursion P xs
all_first P [] ys a = tt
all_first P (x ∷ xs) ys a = (a.0, all_first P xs ys a.1)

pub all_second : {X : Type 0} (P : X → Type 0) (xs ys : List X) → AllByRecursion P (xs ++ ys) → AllByRecursion P ys
all_second P [] ys a = a
all_second P (x ∷ xs) ys a = all_second P xs ys a.1

pub all_both : {X : Type 0} (P : X → Type 0) (xs ys : List X) → AllByRecursion P xs → AllByRecursion P ys → AllByRecursion P (xs ++ ys)
all_both P [] ys a b = b
all_both P (x ∷ xs) ys a b = (a.0, all_both P xs ys a.1 b)

put_middle : {X : Type 0} (m : X) (xs ys : List X) → Put m (xs ++ ys) (xs ++ (m ∷ ys))
put_middle m [] ys = put_here
put_middle m (x ∷ xs) ys = put_there (put_middle m xs ys)

put_before : {X : Type 0} {m : X} {xs zs : List X} (ys : List X) → Put m xs zs → Put m (xs ++ ys) (zs ++ ys)
put_before ys put_here = put_here
put_before ys (put_there q) = put_there (put_before ys q)

-- the root and what is after the marker
pub root_mixed : {X : Type 0} (ms : List (Member X)) → Mixed ms (root_members ms ++ past_marker ms)
root_mixed [] = mixed_none
root_mixed (m ∷ ms) = mixed_more (root_mixed ms) (by (is_addition (component m)))
  where
    by : (b : Bool) → Put m (root_members ms ++ past_marker ms) ((if b then root_members ms else m ∷ root_members ms) ++ (if b then m ∷ past_marker ms else past_marker ms))
    by true = put_middle m (root_members ms) (past_marker ms)
    by false = put_here

placed_put : {X : Type 0} (s : List Resolved) (m : Member X) (ns : List (Member X)) → Put m ns (placed_by_tag s m ns)
placed_put s m [] = put_here
placed_put s m (n ∷ ns) = by (precedes s (component n).type (component m).type) (placed_put s m ns)
  where
    by : (b : Bool) → Put m ns (placed_by_tag s m ns) → Put m (n ∷ ns) (if b then n ∷ placed_by_tag s m ns else m ∷ (n ∷ ns))
    by true r = put_there r
    by false r = put_here

canonical_mixed : {X : Type 0} (s : List Resolved) (ms : List (Member X)) → Mixed ms (canonical s ms)
canonical_mixed s [] = mixed_none
canonical_mixed s (m ∷ ms) = mixed_more (canonical_mixed s ms) (placed_put s m (canonical s ms))

-- the order of a SEQUENCE, or that of a SET
abbrev pub ordered : {X : Type 0} → Bool → List Resolved → List (Member X) → List (Member X)
ordered false s ms = ms
ordered true s ms = canonical s ms

pub ordered_mixed : {X : Type 0} (set : Bool) (s : List Resolved) (ms : List (Member X)) → Mixed ms (ordered set s ms)
ordered_mixed false s ms = mixed_itself ms
ordered_mixed true s ms = canonical_mixed s ms

pub ordered_same : {X Y : Type 0} (set : Bool) (s : List Resolved) (f : Member X → Member Y) → ((m : Member X) → component (f m) ≡ component m) → (ms : List (Member X)) → ordered set s (map f ms) ≡ map f (ordered set s ms)
ordered_same false s f e ms = refl
ordered_same true s f e ms = canonical_same f e s ms

-- all of them are in one of the two
pub of_parts : {X : Type 0} (P : Member X → Type 0) (set : Bool) (s : List Resolved) (ms : List (Member X)) → AllByRecursion P (ordered set s (root_members ms)) → AllByRecursion P (past_marker ms) → AllByRecursion P ms
of_parts P set s ms a b = mixed_back P (root_mixed ms) (all_both P (root_members ms) (past_marker ms) (mixed_back P (ordered_mixed set s (root_members ms)) a) b)

pub root_part : {X : Type 0} (P : Member X → Type 0) (set : Bool) (s : List Resolved) (ms : List (Member X)) → AllByRecursion P ms → AllByRecursion P (ordered set s (root_members ms))
root_part P set s ms a = mixed_all P (ordered_mixed set s (root_members ms)) (all_first P (root_members ms) (past_marker ms) (mixed_all P (root_mixed ms) a))

pub more_part : {X : Type 0} (P : Member X → Type 0) (ms : List (Member X)) → AllByRecursion P ms → AllByRecursion P (past_marker ms)
more_part P ms a = all_second P (root_members ms) (past_marker ms) (mixed_all P (root_mixed ms) a)

weight_both : (xs ys : List (Member AbstractValue)) → all_weight (xs ++ ys) ≡ all_weight xs + all_weight ys
weight_both [] ys = let z : all_weight ys ≡ 0 + all_weight ys = omega arith in z
weight_both (x ∷ xs) ys = let e = weight_both xs ys in omega arith

pub part_weight : (set : Bool) (s : List Resolved) (ms : List (Member AbstractValue)) → all_weight (ordered set s (root_members ms)) + all_weight (past_marker ms) ≡ all_weight ms
part_weight set s ms =
    let a = mixed_weight (ordered_mixed set s (root_members ms)) in
    let b = weight_both (root_members ms) (past_marker ms) in
    let c = mixed_weight (root_mixed ms) in
    omega arith

-- ---- distinct places

abbrev pub NotAt : ℕ → List (Member ℕ) → Type 0
NotAt i ms = AllByRecursion (λ m. place_in m ≡ i → ⊥) ms

abbrev pub Distinct : List (Member ℕ) → Type 0
Distinct [] = Unit {0}
Distinct (m ∷ ms) = NotAt (place_in m) ms × Distinct ms

put_distinct : {m : Member ℕ} {xs ys : List (Member ℕ)} → Put m xs ys → NotAt (place_in m) xs → Distinct xs → Distinct ys
put_distinct put_here n d = (n, d)
put_distinct {m} (put_there {x = x} q) n d = (put_all (λ k. place_in k ≡ place_in x → ⊥) q (λ e. n.0 (sym e)) d.0, put_distinct q n.1 d.1)

-- in front of others
mixed_distinct : {xs ys : List (Member ℕ)} (zs : List (Member ℕ)) → Mixed xs ys → Distinct (xs ++ zs) → Distinct (ys ++ zs)
mixed_distinct zs mixed_none d = d
mixed_distinct zs (mixed_more {m = m} {xs = xs} {ys = ys} q p) d =
    let n = all_both (λ k. place_in k ≡ place_in m → ⊥) ys zs (mixed_all (λ k. place_in k ≡ place_in m → ⊥) q (all_first (λ k. place_in k ≡ place_in m → ⊥) xs zs d.0)) (all_second (λ k. place_in k ≡ place_in m → ⊥) xs zs d.0) in
    put_distinct (put_before zs p) n (mixed_distinct zs q d.1)

with_none : (xs : List (Member ℕ)) → xs ++ [] ≡ xs
with_none [] = refl
with_none (x ∷ xs) = ap (λ q. x ∷ q) (with_none xs)

from_on : (i j : ℕ) (cs : List Component) → i < j → NotAt i (placed_from j cs)
from_on i j [] l = tt
from_on i j (c ∷ cs) l = ((λ e. omega arith), from_on i (suc j) cs (omega arith))

placed_distinct : (i : ℕ) (cs : List Component) → Distinct (placed_from i cs)
placed_distinct i [] = tt
placed_distinct i (c ∷ cs) = (from_on i (suc i) cs (omega arith), placed_distinct (suc i) cs)

pub parts_distinct : (set : Bool) (s : List Resolved) (cs : List Component) → Distinct (ordered set s (root_members (placed_from 0 cs)) ++ past_marker (placed_from 0 cs))
parts_distinct set s cs =
    let ps = placed_from 0 cs in
    let d : Distinct (ps ++ []) = subst Distinct (sym (with_none ps)) (placed_distinct 0 cs) in
    let e = subst Distinct (with_none (root_members ps ++ past_marker ps)) (mixed_distinct [] (root_mixed ps) d) in
    mixed_distinct (past_marker ps) (ordered_mixed set s (root_members ps)) e

abbrev pub Below : ℕ → List (Member ℕ) → Type 0
Below n ms = AllByRecursion (λ m. place_in m < n) ms

placed_below : (i n : ℕ) (cs : List Component) → i + length cs ≤ n → Below n (placed_from i cs)
placed_below i n [] l = tt
placed_below i n (c ∷ cs) l = (omega arith, placed_below (suc i) n cs (omega arith))

pub parts_below : (set : Bool) (s : List Resolved) (cs : List Component) → Below (length cs) (ordered set s (root_members (placed_from 0 cs)) ++ past_marker (placed_from 0 cs))
parts_below set s cs =
    let ps = placed_from 0 cs in
    let b = placed_below 0 (length cs) cs (omega arith) in
    all_both (λ m. place_in m < length cs) (ordered set s (root_members ps)) (past_marker ps) (root_part (λ m. place_in m < length cs) set s ps b) (more_part (λ m. place_in m < length cs) ps b)

-- ---- rows

abbrev pub row_get : Row → ℕ → Option AbstractValue
row_get end i = None
row_get (absent ws) zero = None
row_get (present w ws) zero = Some w
row_get (absent ws) (suc i) = row_get ws i
row_get (present w ws) (suc i) = row_get ws i

abbrev pub member_of : Component → Option AbstractValue → Member AbstractValue
member_of c None = missing c
member_of c (Some w) = standing c w

-- the member that a row has at a place
abbrev pub seen : Row → Member ℕ → Member AbstractValue
seen ws m = member_of (component m) (row_get ws (place_in m))

one_component : (c : Component) (o : Option AbstractValue) → component (member_of c o) ≡ c
one_component c None = refl
one_component c (Some w) = refl

pub seen_component : (ws : Row) (m : Member ℕ) → component (seen ws m) ≡ component m
seen_component ws m = one_component (component m) (row_get ws (place_in m))

abbrev row_drop : ℕ → Row → Row
row_drop zero ws = ws
row_drop (suc i) end = end
row_drop (suc i) (absent ws) = row_drop i ws
row_drop (suc i) (present w ws) = row_drop i ws

get_drop : (i : ℕ) (ws : Row) → row_get ws i ≡ row_get (row_drop i ws) 0
get_drop zero ws = refl
get_drop (suc i) end = refl
get_drop (suc i) (absent ws) = get_drop i ws
get_drop (suc i) (present w ws) = get_drop i ws

drop_one : (i : ℕ) (ws : Row) → row_drop (suc i) ws ≡ row_drop 1 (row_drop i ws)
drop_one zero ws = refl
drop_one (suc i) end = refl
drop_one (suc i) (absent ws) = drop_one i ws
drop_one (suc i) (present w ws) = drop_one i ws

beside_from : (cs : List Component) (i : ℕ) (ws us : Row) → row_drop i ws ≡ us → members us ≡ length cs → Beside cs us (map (seen ws) (placed_from i cs))
beside_from [] i ws end e l = beside_none
beside_from [] i ws (absent us) e l = absurd (omega arith)
beside_from [] i ws (present u us) e l = absurd (omega arith)
beside_from (c ∷ cs) i ws end e l = absurd (omega arith)
beside_from (c ∷ cs) i ws (absent us) e l =
    let g : row_get ws i ≡ None = get_drop i ws ∙ ap (λ q. row_get q 0) e in
    subst (λ q. Beside (c ∷ cs) (absent us) (member_of c q ∷ map (seen ws) (placed_from (suc i) cs))) (sym g)
    (beside_absent (beside_from cs (suc i) ws us (drop_one i ws ∙ ap (row_drop 1) e) (omega arith)))
beside_from (c ∷ cs) i ws (present u us) e l =
    let g : row_get ws i ≡ Some u = get_drop i ws ∙ ap (λ q. row_get q 0) e in
    subst (λ q. Beside (c ∷ cs) (present u us) (member_of c q ∷ map (seen ws) (placed_from (suc i) cs))) (sym g)
    (beside_present (beside_from cs (suc i) ws us (drop_one i ws ∙ ap (row_drop 1) e) (omega arith)))

pub beside_seen : (cs : List Component) (ws : Row) → members ws ≡ length cs → Beside cs ws (map (seen ws) (placed_from 0 cs))
beside_seen cs ws l = beside_from cs 0 ws ws refl l

one_beside : {cs : List Component} {ws : Row} {ms ns : List (Member AbstractValue)} → Beside cs ws ms → Beside cs ws ns → ms ≡ ns
one_beside beside_none beside_none = refl
one_beside (beside_absent {c = c} a) (beside_absent b) = ap (λ q. missing c ∷ q) (one_beside a b)
one_beside (beside_present {c = c} {w = w} a) (beside_present b) = ap (λ q. standing c w ∷ q) (one_beside a b)

beside_many : {cs : List Component} {ws : Row} {ms : List (Member AbstractValue)} → Beside cs ws ms → members ws ≡ length cs
beside_many beside_none = refl
beside_many (beside_absent a) = let e = beside_many a in omega arith
beside_many (beside_present a) = let e = beside_many a in omega arith

pub beside_is : {cs : List Component} {ws : Row} {ms : List (Member AbstractValue)} → Beside cs ws ms → ms ≡ map (seen ws) (placed_from 0 cs)
beside_is {cs} {ws} a = one_beside a (beside_seen cs ws (beside_many a))

pub beside_weight : {cs : List Component} {ws : Row} {ms : List (Member AbstractValue)} → Beside cs ws ms → row_weight ws ≡ all_weight ms
beside_weight beside_none = refl
beside_weight (beside_absent a) = let e = beside_weight a in omega arith
beside_weight (beside_present a) = let e = beside_weight a in omega arith

-- ---- values at places

set_many : (i : ℕ) (w : AbstractValue) (ws : Row) → members (with_value i w ws) ≡ members ws
set_many i w end = refl
set_many zero w (absent ws) = refl
set_many zero w (present v ws) = refl
set_many (suc i) w (absent ws) = let e = set_many i w ws in omega arith
set_many (suc i) w (present v ws) = let e = set_many i w ws in omega arith

get_set : (i : ℕ) (w : AbstractValue) (ws : Row) → i < members ws → row_get (with_value i w ws) i ≡ Some w
get_set i w end l = absurd (omega arith)
get_set zero w (absent ws) l = refl
get_set zero w (present v ws) l = refl
get_set (suc i) w (absent ws) l = get_set i w ws (omega arith)
get_set (suc i) w (present v ws) l = get_set i w ws (omega arith)

get_other : (i j : ℕ) (w : AbstractValue) (ws : Row) → (i ≡ j → ⊥) → row_get (with_value i w ws) j ≡ row_get ws j
get_other i j w end n = refl
get_other zero zero w (absent ws) n = absurd (n refl)
get_other zero zero w (present v ws) n = absurd (n refl)
get_other zero (suc j) w (absent ws) n = refl
get_other zero (suc j) w (present v ws) n = refl
get_other (suc i) zero w (absent ws) n = refl
get_other (suc i) zero w (present v ws) n = refl
get_other (suc i) (suc j) w (absent ws) n = get_other i j w ws (λ e. n (ap suc e))
get_other (suc i) (suc j) w (present v ws) n = get_other i j w ws (λ e. n (ap suc e))

pub all_many : (ms : List (Member ℕ)) (rs : List (Member AbstractValue)) (ws : Row) → members (with_members ms rs ws) ≡ members ws
all_many [] rs ws = refl
all_many (m ∷ ms) [] ws = refl
all_many (m ∷ ms) (missing c ∷ rs) ws = all_many ms rs ws
all_many (m ∷ ms) (standing c w ∷ rs) ws = all_many ms rs (with_value (place_in m) w ws) ∙ set_many (place_in m) w ws

elsewhere : (ms : List (Member ℕ)) (rs : List (Member AbstractValue)) (ws : Row) (i : ℕ) → NotAt i ms → row_get (with_members ms rs ws) i ≡ row_get ws i
elsewhere [] rs ws i n = refl
elsewhere (m ∷ ms) [] ws i n = refl
elsewhere (m ∷ ms) (missing c ∷ rs) ws i n = elsewhere ms rs ws i n.1
elsewhere (m ∷ ms) (standing c w ∷ rs) ws i n = elsewhere ms rs (with_value (place_in m) w ws) i n.1 ∙ get_other (place_in m) i w ws n.0

abbrev Blank : Row → List (Member ℕ) → Type 0
Blank ws ms = AllByRecursion (λ m. row_get ws (place_in m) ≡ None) ms

still_blank : (i : ℕ) (w : AbstractValue) (ws : Row) (ms : List (Member ℕ)) → NotAt i ms → Blank ws ms → Blank (with_value i w ws) ms
still_blank i w ws [] n b = tt
still_blank i w ws (m ∷ ms) n b = (get_other i (place_in m) w ws (λ e. n.0 (sym e)) ∙ b.0, still_blank i w ws ms n.1 b.1)

-- of the same components
pub data Parallel {X Y : Type 0} : List (Member X) → List (Member Y) → Type 0 where
  parallel_none : Parallel [] []
  parallel_more : {m : Member X} {r : Member Y} {ms : List (Member X)} {rs : List (Member Y)} → component m ≡ component r → Parallel ms rs → Parallel (m ∷ ms) (r ∷ rs)

two_same : {X : Type 0} {x y : X} {xs ys : List X} → x ≡ y → xs ≡ ys → x ∷ xs ≡ y ∷ ys
two_same e f = cc

pub seen_members : (ms : List (Member ℕ)) (rs : List (Member AbstractValue)) (ws : Row) → Distinct ms → Below (members ws) ms → Blank ws ms → Parallel ms rs → map (seen (with_members ms rs ws)) ms ≡ rs
seen_members [] _ ws d l b parallel_none = refl
seen_members (m ∷ ms) (missing c ∷ rs) ws d l b (parallel_more e p) =
    two_same (ap (member_of (component m)) (elsewhere ms rs ws (place_in m) d.0 ∙ b.0) ∙ ap missing e) (seen_members ms rs ws d.1 l.1 b.1 p)
seen_members (m ∷ ms) (standing c w ∷ rs) ws d l b (parallel_more e p) =
    let us = with_value (place_in m) w ws in
    two_same (ap (member_of (component m)) (elsewhere ms rs us (place_in m) d.0 ∙ get_set (place_in m) w ws l.0) ∙ ap (λ q. standing q w) e)
    (seen_members ms rs us d.1 (subst (λ n. Below n ms) (sym (set_many (place_in m) w ws)) l.1) (still_blank (place_in m) w ws ms d.0 b.1) p)
seen_members (m ∷ ms) [] ws d l b p = elim p [ ]

none_in : (cs : List Component) (i : ℕ) → row_get (no_row cs) i ≡ None
none_in [] i = refl
none_in (c ∷ cs) zero = refl
none_in (c ∷ cs) (suc i) = none_in cs i

pub no_row_blank : (cs : List Component) (ms : List (Member ℕ)) → Blank (no_row cs) ms
no_row_blank cs [] = tt
no_row_blank cs (m ∷ ms) = (none_in cs (place_in m), no_row_blank cs ms)

pub no_row_many : (cs : List Component) → members (no_row cs) ≡ length cs
no_row_many [] = refl
no_row_many (c ∷ cs) = let e = no_row_many cs in omega arith

-- ---- additions as members

flat_same : {X : Type 0} (b : Bool) (m n : Member X) (ns : List (Member X)) (ds : List (Addition X)) → members_in (if b then bracketed (m ∷ (n ∷ ns)) ∷ ds else bracketed (m ∷ []) ∷ (bracketed (n ∷ ns) ∷ ds)) ≡ m ∷ (n ∷ (ns ++ members_in ds))
flat_same true m n ns ds = refl
flat_same false m n ns ds = refl

flat_front : {X : Type 0} (g : Option ℕ) (m : Member X) (ds : List (Addition X)) → members_in (in_front g m ds) ≡ m ∷ members_in ds
flat_front None m ds = refl
flat_front (Some g) m [] = refl
flat_front (Some g) m (alone n ∷ ds) = refl
flat_front (Some g) m (bracketed [] ∷ ds) = refl
flat_front (Some g) m (bracketed (n ∷ ns) ∷ ds) = flat_same (is_of_group g n) m n ns ds

pub flat_additions : {X : Type 0} (ms : List (Member X)) → members_in (additions ms) ≡ ms
flat_additions [] = refl
flat_additions (m ∷ ms) = flat_front (group_of (component m).presence) m (additions ms) ∙ ap (λ q. m ∷ q) (flat_additions ms)

-- lists of one length that begin alike
pub split_lists : {X : Type 0} (xs xs' ys ys' : List X) → length xs ≡ length xs' → xs ++ ys ≡ xs' ++ ys' → (xs ≡ xs') × (ys ≡ ys')
split_lists [] [] ys ys' l e = (refl, e)
split_lists [] (x ∷ xs') ys ys' l e = absurd (omega arith)
split_lists (x ∷ xs) [] ys ys' l e = absurd (omega arith)
split_lists (x ∷ xs) (x' ∷ xs') ys ys' l e =
    let h : x ≡ x' = cc in
    let t : xs ++ ys ≡ xs' ++ ys' = cc in
    let r = split_lists xs xs' ys ys' (omega arith) t in
    (two_same h r.0, r.1)

-- additions of the same components
pub data ParallelAdditions {X Y : Type 0} : List (Addition X) → List (Addition Y) → Type 0 where
  parallel_nothing : ParallelAdditions [] []
  parallel_alone : {m : Member X} {r : Member Y} {ds : List (Addition X)} {rs : List (Addition Y)} → component m ≡ component r → ParallelAdditions ds rs → ParallelAdditions (alone m ∷ ds) (alone r ∷ rs)
  parallel_group : {ms : List (Member X)} {ns : List (Member Y)} {ds : List (Addition X)} {rs : List (Addition Y)} → Parallel ms ns → ParallelAdditions ds rs → ParallelAdditions (bracketed ms ∷ ds) (bracketed ns ∷ rs)

pub parallel_length : {X Y : Type 0} {ms : List (Member X)} {rs : List (Member Y)} → Parallel ms rs → length ms ≡ length rs
parallel_length parallel_none = refl
parallel_length (parallel_more e p) = ap suc (parallel_length p)

parallel_both : {X Y : Type 0} {ms ns : List (Member X)} {rs us : List (Member Y)} → Parallel ms rs → Parallel ns us → Parallel (ms ++ ns) (rs ++ us)
parallel_both parallel_none q = q
parallel_both (parallel_more e p) q = parallel_more e (parallel_both p q)

pub flat_parallel : {X Y : Type 0} {ds : List (Addition X)} {rs : List (Addition Y)} → ParallelAdditions ds rs → Parallel (members_in ds) (members_in rs)
flat_parallel parallel_nothing = parallel_none
flat_parallel (parallel_alone e p) = parallel_more e (flat_parallel p)
flat_parallel (parallel_group q p) = parallel_both q (flat_parallel p)

pub with_both : {X Y : Type 0} {ms ns : List (Member X)} {rs us : List (Member Y)} → Parallel ms rs → Parallel ns us → Parallel (ms ++ ns) (rs ++ us)
with_both p q = parallel_both p q

map_length : {X Y : Type 0} (f : X → Y) (xs : List X) → length (map f xs) ≡ length xs
map_length f [] = refl
map_length f (x ∷ xs) = ap suc (map_length f xs)

map_both : {X Y : Type 0} (f : X → Y) (xs ys : List X) → map f (xs ++ ys) ≡ map f xs ++ map f ys
map_both f [] ys = refl
map_both f (x ∷ xs) ys = ap (λ q. f x ∷ q) (map_both f xs ys)

pub map_parts : {X Y : Type 0} (f : X → Y) (xs ys : List X) (us vs : List Y) → length xs ≡ length us → map f (xs ++ ys) ≡ us ++ vs → (map f xs ≡ us) × (map f ys ≡ vs)
map_parts f xs ys us vs l e = split_lists (map f xs) us (map f ys) vs (map_length f xs ∙ l) (sym (map_both f xs ys) ∙ e)

-- what a row has of additions is told by their members
pub same_additions : (f : Member ℕ → Member AbstractValue) (ds : List (Addition ℕ)) (rs : List (Addition AbstractValue)) → ParallelAdditions ds rs → map f (members_in ds) ≡ members_in rs → map (on_additions f) ds ≡ rs
same_additions f _ _ parallel_nothing e = refl
same_additions f _ _ (parallel_alone {m = m} {r = r} {ds = ds} {rs = rs} h p) e =
    let i : f m ≡ r = cc in
    let t : map f (members_in ds) ≡ members_in rs = cc in
    two_same (ap alone i) (same_additions f ds rs p t)
same_additions f _ _ (parallel_group {ms = ms} {ns = ns} {ds = ds} {rs = rs} q p) e =
    let r = map_parts f ms (members_in ds) ns (members_in rs) (parallel_length q) e in
    two_same (ap bracketed r.0) (same_additions f ds rs p r.1)
