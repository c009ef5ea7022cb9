-- Additions that are together in a group.
use Rattle.std.proofs.Common.{◌≡◌, ℕ, suc, zero, ◌+◌, Bool, true, false, List, [], ◌∷◌, ◌++◌, length, map, take, drop, refl, sym, ap, ◌∙◌, arith, append_assoc}
use Rattle.std.proofs.lemmas.Bool.{eqb-true}
use Rattle.std.specs.Prelude.{if◌then◌else◌, ◌==◌, Option, Some, None}
use Rattle.asn_base.specs.Typed.{group_of}
use Rattle.packed_encodings.specs.Orders.{Member, component, Addition, alone, bracketed, is_of_group, in_front, additions}
use Rattle.packed_code.specs.declared.field.Placed.{Placed}
use Rattle.packed_code.specs.declared.step.PackedStep.{PackedStep}
use Rattle.packed_code.specs.declared.step.PackedStep.TheVariants.{Added, Group}
use Rattle.packed_code.specs.Placed.{placed_of}
use Rattle.packed_code.specs.Routines.{field_at, addition_steps, member_steps}
use Rattle.packed_code.specs.Runs.{is_member, run}

-- what is in front of others has a group of its own, or begins with the member
head_in_front : {X : Type 0} (o : Option ℕ) (n : Member X) (ds : List (Addition X)) (g : ℕ) (m : Member X) → (elim o [ None ↦ false | Some h ↦ g == h ]) ≡ false → group_of (component n).presence ≡ o → in_front (Some g) m (in_front o n ds) ≡ bracketed (m ∷ []) ∷ in_front o n ds
head_in_front None n ds g m e h = refl
head_in_front (Some j) n [] g m e h = ap (λ b. if b then bracketed (m ∷ (n ∷ [])) ∷ [] else bracketed (m ∷ []) ∷ (bracketed (n ∷ []) ∷ [])) (ap (λ q. elim q [ None ↦ false | Some i ↦ g == i ]) h ∙ e)
head_in_front (Some j) n (alone k ∷ ds) g m e h = ap (λ b. if b then bracketed (m ∷ (n ∷ [])) ∷ (alone k ∷ ds) else bracketed (m ∷ []) ∷ (bracketed (n ∷ []) ∷ (alone k ∷ ds))) (ap (λ q. elim q [ None ↦ false | Some i ↦ g == i ]) h ∙ e)
head_in_front (Some j) n (bracketed [] ∷ ds) g m e h = ap (λ b. if b then bracketed (m ∷ (n ∷ [])) ∷ (bracketed [] ∷ ds) else bracketed (m ∷ []) ∷ (bracketed (n ∷ []) ∷ (bracketed [] ∷ ds))) (ap (λ q. elim q [ None ↦ false | Some i ↦ g == i ]) h ∙ e)
head_in_front {X} (Some j) n (bracketed (k ∷ ks) ∷ ds) g m e h = by (is_of_group j k)
  where
    head : (if is_of_group g n then bracketed (m ∷ (n ∷ [])) ∷ [] else bracketed (m ∷ []) ∷ []) ≡ (if is_of_group g n then bracketed (m ∷ (n ∷ [])) ∷ [] else bracketed (m ∷ []) ∷ [])
    head = refl

    by : (b : Bool) → in_front (Some g) m (if b then bracketed (n ∷ (k ∷ ks)) ∷ ds else bracketed (n ∷ []) ∷ (bracketed (k ∷ ks) ∷ ds)) ≡ bracketed (m ∷ []) ∷ (if b then bracketed (n ∷ (k ∷ ks)) ∷ ds else bracketed (n ∷ []) ∷ (bracketed (k ∷ ks) ∷ ds))
    by true = ap (λ b. if b then bracketed (m ∷ (n ∷ (k ∷ ks))) ∷ ds else bracketed (m ∷ []) ∷ (bracketed (n ∷ (k ∷ ks)) ∷ ds)) (ap (λ q. elim q [ None ↦ false | Some i ↦ g == i ]) h ∙ e)
    by false = ap (λ b. if b then bracketed (m ∷ (n ∷ [])) ∷ (bracketed (k ∷ ks) ∷ ds) else bracketed (m ∷ []) ∷ (bracketed (n ∷ []) ∷ (bracketed (k ∷ ks) ∷ ds))) (ap (λ q. elim q [ None ↦ false | Some i ↦ g == i ]) h ∙ e)

in_group : (o : Option ℕ) (g : ℕ) → (elim o [ None ↦ false | Some h ↦ g == h ]) ≡ true → o ≡ Some g
in_group None g e = absurd (cc)
in_group (Some h) g e = ap Some (sym (eqb-true g h e))

pub one_group : {X : Type 0} (g : ℕ) (m : Member X) (ms : List (Member X)) → group_of (component m).presence ≡ Some g → additions (m ∷ ms) ≡ bracketed (m ∷ take (run g ms) ms) ∷ additions (drop (run g ms) ms)
one_group g m [] e = ap (λ o. in_front o m []) e
one_group {X} g m (n ∷ ms) e = by (is_member g (component n)) refl (one_group g n ms)
  where
    by : (b : Bool) → is_member g (component n) ≡ b → (group_of (component n).presence ≡ Some g → additions (n ∷ ms) ≡ bracketed (n ∷ take (run g ms) ms) ∷ additions (drop (run g ms) ms)) → additions (m ∷ (n ∷ ms)) ≡ bracketed (m ∷ take (if b then suc (run g ms) else 0) (n ∷ ms)) ∷ additions (drop (if b then suc (run g ms) else 0) (n ∷ ms))
    by true h r =
        ap (λ o. in_front o m (additions (n ∷ ms))) e
        ∙ ap (in_front (Some g) m) (r (in_group (group_of (component n).presence) g h))
        ∙ ap (λ b. if b then bracketed (m ∷ (n ∷ take (run g ms) ms)) ∷ additions (drop (run g ms) ms) else bracketed (m ∷ []) ∷ (bracketed (n ∷ take (run g ms) ms) ∷ additions (drop (run g ms) ms))) h
    by false h r =
        ap (λ o. in_front o m (additions (n ∷ ms))) e
        ∙ head_in_front (group_of (component n).presence) n (additions ms) g m h refl

length_map : {X Y : Type 0} (f : X → Y) (xs : List X) → length (map f xs) ≡ length xs
length_map f [] = refl
length_map f (x ∷ xs) = ap (λ q. suc q) (length_map f xs)

map_take : {X Y : Type 0} (f : X → Y) (n : ℕ) (xs : List X) → map f (take n xs) ≡ take n (map f xs)
map_take f zero xs = refl
map_take f (suc n) [] = refl
map_take f (suc n) (x ∷ xs) = ap (λ q. f x ∷ q) (map_take f n xs)

map_drop : {X Y : Type 0} (f : X → Y) (n : ℕ) (xs : List X) → map f (drop n xs) ≡ drop n (map f xs)
map_drop f zero xs = refl
map_drop f (suc n) [] = refl
map_drop f (suc n) (x ∷ xs) = map_drop f n xs

-- an addition by itself
alone_is : (m : Placed) (ms : List Placed) → group_of (component (placed_of m)).presence ≡ None → additions (map placed_of (m ∷ ms)) ≡ alone (placed_of m) ∷ additions (map placed_of ms)
alone_is m ms e = ap (λ o. in_front o (placed_of m) (additions (map placed_of ms))) e

-- a group
group_is : (g : ℕ) (m : Placed) (ms : List Placed) (n : ℕ) → group_of (component (placed_of m)).presence ≡ Some g → n ≡ run g (map placed_of ms) → additions (map placed_of (m ∷ ms)) ≡ bracketed (placed_of m ∷ map placed_of (take n ms)) ∷ additions (map placed_of (drop n ms))
group_is g m ms n e h =
    one_group g (placed_of m) (map placed_of ms) e
    ∙ ap (λ q. bracketed (placed_of m ∷ take q (map placed_of ms)) ∷ additions (drop q (map placed_of ms))) (sym h)
    ∙ ap (λ q. bracketed (placed_of m ∷ q) ∷ additions (drop n (map placed_of ms))) (sym (map_take placed_of n ms))
    ∙ ap (λ q. bracketed (placed_of m ∷ map placed_of (take n ms)) ∷ additions q) (sym (map_drop placed_of n ms))

pub alone_count : (m : Placed) (ms : List Placed) → group_of (component (placed_of m)).presence ≡ None → length (additions (map placed_of (m ∷ ms))) ≡ length (additions (map placed_of ms)) + 1
alone_count m ms e = let h = ap length (alone_is m ms e) in omega (arith, h)

pub group_count : (g : ℕ) (m : Placed) (ms : List Placed) (n : ℕ) → group_of (component (placed_of m)).presence ≡ Some g → n ≡ run g (map placed_of ms) → length (additions (map placed_of (m ∷ ms))) ≡ length (additions (map placed_of (drop n ms))) + 1
group_count g m ms n e h = let k = ap length (group_is g m ms n e h) in omega (arith, k)

pub alone_steps : (m : Placed) (ms : List Placed) → group_of (component (placed_of m)).presence ≡ None → addition_steps (additions (map placed_of (m ∷ ms))) ≡ Added (field_at (placed_of m)) ∷ addition_steps (additions (map placed_of ms))
alone_steps m ms e = ap addition_steps (alone_is m ms e)

pub group_steps : (g : ℕ) (m : Placed) (ms : List Placed) (n : ℕ) → group_of (component (placed_of m)).presence ≡ Some g → n ≡ run g (map placed_of ms) → addition_steps (additions (map placed_of (m ∷ ms))) ≡ Group (length (placed_of m ∷ map placed_of (take n ms))) ∷ (member_steps (placed_of m ∷ map placed_of (take n ms)) ++ addition_steps (additions (map placed_of (drop n ms))))
group_steps g m ms n e h = ap addition_steps (group_is g m ms n e h)

pub group_pushed : (old : List PackedStep) (as' : List Placed) (m : Placed) (ms rest : List Placed) (g n : ℕ) (mid new : List PackedStep) → as' ≡ m ∷ ms → group_of (component (placed_of m)).presence ≡ Some g → n ≡ run g (map placed_of ms) → rest ≡ drop n ms → mid ≡ old ++ (Group (length (placed_of m ∷ map placed_of (take n ms))) ∷ member_steps (placed_of m ∷ map placed_of (take n ms))) → new ≡ mid ++ addition_steps (additions (map placed_of rest)) → new ≡ old ++ addition_steps (additions (map placed_of as'))
group_pushed old as' m ms rest g n mid new a e h f b d =
    let st = Group (length (placed_of m ∷ map placed_of (take n ms))) in
    let us = member_steps (placed_of m ∷ map placed_of (take n ms)) in
    let r = addition_steps (additions (map placed_of (drop n ms))) in
    d ∙ ap (λ q. mid ++ addition_steps (additions (map placed_of q))) f ∙ ap (λ q. q ++ r) b ∙ append_assoc old (st ∷ us) r
    ∙ ap (λ q. old ++ q) (sym (group_steps g m ms n e h))
    ∙ ap (λ q. old ++ addition_steps (additions (map placed_of q))) (sym a)

pub group_counted : (as' : List Placed) (m : Placed) (ms rest : List Placed) (g n r : ℕ) → as' ≡ m ∷ ms → group_of (component (placed_of m)).presence ≡ Some g → n ≡ run g (map placed_of ms) → rest ≡ drop n ms → r ≡ length (additions (map placed_of rest)) → r + 1 ≡ length (additions (map placed_of as'))
group_counted as' m ms rest g n r a e h f d =
    let k : r ≡ length (additions (map placed_of (drop n ms))) = d ∙ ap (λ q. length (additions (map placed_of q))) f in
    ap (λ q. q + 1) k ∙ sym (group_count g m ms n e h) ∙ ap (λ q. length (additions (map placed_of q))) (sym a)
