-- Names that are gathered, the root and the additions of components, and version brackets.
use Rattle.std.proofs.Common.{arith, ◌≡◌, ℕ, zero, suc, ◌+◌, ◌-◌, ◌<◌, ◌≤◌, Bool, true, false, List, [], ◌∷◌, ◌++◌, length, map, drop, take, get_or, inl, inr, refl, sym, subst, ap, ◌∙◌}
use Rattle.std.specs.Prelude.{◌↔◌, IsTrue, OnOk, Result, Ok, Err, Some, slice_get, if◌then◌else◌}
use Rattle.std.specs.Borrow.{Bor}
use Rattle.std.specs.List.{AllByRecursion}
use Rattle.std.proofs.lemmas.List.{append_assoc, length-append, map-append}
use Rattle.asn_base.specs.declared.schema.Component.{Component as Component'}
use Rattle.asn_base.specs.Seen.{component_of}
use Rattle.asn_base.specs.Types.{Component}
use Rattle.asn_base.specs.Typed.{IsOfGroup, group_of}
use Rattle.asn_base.specs.Schemas.{is_addition, GroupsTogether}
use Rattle.asn_base.specs.Rules.{root_of, additions_of}
use Rattle.asn_base.specs.proving.Listing.{AreTogether, texts}
use Rattle.asn_base.proofs.Ruled.{parts}
use Rattle.asn_base.specs.proving.Lists.{length_mapped}

-- ---- two lists

pub all_split : {A : Type 0} (P : A → Type 0) (xs ys : List A) → AllByRecursion P (xs ++ ys) → AllByRecursion P xs × AllByRecursion P ys
all_split P [] ys h = (tt, h)
all_split P (x ∷ xs) ys h = let s = all_split P xs ys h.1 in ((h.0, s.0), s.1)

all_joined : {A : Type 0} (P : A → Type 0) (xs ys : List A) → AllByRecursion P xs → AllByRecursion P ys → AllByRecursion P (xs ++ ys)
all_joined P [] ys a b = b
all_joined P (x ∷ xs) ys a b = (a.0, all_joined P xs ys a.1 b)

-- ---- names

pub drop_twice : {A B C : Type 0} (f : B → C) (g : A → B) (xs : List A) (i : ℕ) (d : A) → i < length xs → drop i (map f (map g xs)) ≡ f (g (get_or xs i d)) ∷ drop (i + 1) (map f (map g xs))
drop_twice f g [] i d h = absurd (omega arith)
drop_twice f g (x ∷ xs) zero d h = refl
drop_twice f g (x ∷ xs) (suc i) d h =
    let e : suc (i + 1) ≡ suc i + 1 = omega arith in
    drop_twice f g xs i d (omega arith) ∙ ap (λ k. f (g (get_or xs i d)) ∷ drop k (f (g x) ∷ map f (map g xs))) e

pub drop_twice_end : {A B C : Type 0} (f : B → C) (g : A → B) (xs : List A) (i : ℕ) → length xs ≤ i → drop i (map f (map g xs)) ≡ []
drop_twice_end f g [] zero h = refl
drop_twice_end f g [] (suc i) h = refl
drop_twice_end f g (x ∷ xs) zero h = absurd (omega arith)
drop_twice_end f g (x ∷ xs) (suc i) h = drop_twice_end f g xs i (omega arith)

pub gathered : (old new : List (Bor (List ℕ))) (x : Bor (List ℕ)) (a : List ℕ) (before xs : List (List ℕ)) (i : ℕ) → new ≡ old ++ x ∷ [] → x.now ≡ a → drop i xs ≡ a ∷ drop (i + 1) xs → texts old ++ drop i xs ≡ before ++ xs → texts new ++ drop (i + 1) xs ≡ before ++ xs
gathered old new x a before xs i e f d h =
    ap (λ q. texts q ++ drop (i + 1) xs) e
    ∙ ap (λ q. q ++ drop (i + 1) xs) (map-append (λ (n : Bor (List ℕ)). n.now) old (x ∷ []))
    ∙ ap (λ q. (texts old ++ q ∷ []) ++ drop (i + 1) xs) f
    ∙ joined (texts old) a (drop (i + 1) xs)
    ∙ ap (λ q. texts old ++ q) (sym d)
    ∙ h
  where
    joined : (ys : List (List ℕ)) (y : List ℕ) (zs : List (List ℕ)) → (ys ++ y ∷ []) ++ zs ≡ ys ++ y ∷ zs
    joined [] y zs = refl
    joined (z ∷ ys) y zs = ap (λ q. z ∷ q) (joined ys y zs)

none_after : (ys : List (List ℕ)) → ys ++ [] ≡ ys
none_after [] = refl
none_after (y ∷ ys) = ap (λ q. y ∷ q) (none_after ys)

pub all_gathered : (new : List (Bor (List ℕ))) (before xs : List (List ℕ)) (i : ℕ) → drop i xs ≡ [] → texts new ++ drop i xs ≡ before ++ xs → texts new ≡ before ++ xs
all_gathered new before xs i d h = sym (none_after (texts new)) ∙ ap (λ q. texts new ++ q) (sym d) ∙ h

-- ---- lists that a call adds to

pub adds_same : {A T E : Type 0} (r : Result T E) (new old xs ys : List A) → OnOk r (new ≡ old ++ xs) → xs ≡ ys → OnOk r (new ≡ old ++ ys)
adds_same (Ok t) new old xs ys p e = p ∙ ap (λ q. old ++ q) e
adds_same (Err x) new old xs ys p e = tt

pub adds_both : {A T E : Type 0} (r : Result T E) (new mid old xs ys zs : List A) → OnOk r (new ≡ mid ++ ys) → mid ≡ old ++ xs → xs ++ ys ≡ zs → OnOk r (new ≡ old ++ zs)
adds_both (Ok t) new mid old xs ys zs p f e = p ∙ ap (λ q. q ++ ys) f ∙ append_assoc old xs ys ∙ ap (λ q. old ++ q) e
adds_both (Err x) new mid old xs ys zs p f e = tt

-- ---- the root and the additions

root_here : (c : Component) (cs : List Component) → is_addition c ≡ true → root_of (c ∷ cs) ≡ []
root_here c cs e = ap (λ q. if q then [] else c ∷ root_of cs) e

root_next : (c : Component) (cs : List Component) → is_addition c ≡ false → root_of (c ∷ cs) ≡ c ∷ root_of cs
root_next c cs e = ap (λ q. if q then [] else c ∷ root_of cs) e

pub counted_to : (all : List Component) (i : ℕ) (c : Component) (cs : List Component) → drop i all ≡ c ∷ cs → is_addition c ≡ true → length (root_of all) ≡ i + length (root_of (drop i all)) → i ≡ length (root_of all)
counted_to all i c cs d e h = let z = ap (λ q. length (root_of q)) d ∙ ap length (root_here c cs e) in omega (arith, h, z)

pub counted_more : (all : List Component) (i : ℕ) (c : Component) → drop i all ≡ c ∷ drop (i + 1) all → is_addition c ≡ false → length (root_of all) ≡ i + length (root_of (drop i all)) → length (root_of all) ≡ i + 1 + length (root_of (drop (i + 1) all))
counted_more all i c d e h = let z = ap (λ q. length (root_of q)) d ∙ ap length (root_next c (drop (i + 1) all) e) in omega (arith, h, z)

pub counted_all : (all : List Component) (i : ℕ) → drop i all ≡ [] → length (root_of all) ≡ i + length (root_of (drop i all)) → i ≡ length (root_of all)
counted_all all i d h = let z = ap (λ q. length (root_of q)) d in omega (arith, h, z)

pub both_counted : (cs : List Component') → length (root_of (map component_of cs)) + length (additions_of (map component_of cs)) ≡ length cs
both_counted cs =
    let p = ap length (parts (map component_of cs)) ∙ length-append (root_of (map component_of cs)) (additions_of (map component_of cs)) in
    sym p ∙ length_mapped component_of cs

pub additions_drop : (cs : List Component') → map component_of (drop (length (root_of (map component_of cs))) cs) ≡ additions_of (map component_of cs)
additions_drop [] = refl
additions_drop (c ∷ cs) = go (additions_drop cs) (is_addition (component_of c))
  where
    go : map component_of (drop (length (root_of (map component_of cs))) cs) ≡ additions_of (map component_of cs) → (b : Bool)
        → map component_of (drop (length (if b then [] else component_of c ∷ root_of (map component_of cs))) (c ∷ cs)) ≡ (if b then component_of c ∷ map component_of cs else additions_of (map component_of cs))
    go h true = refl
    go h false = h

-- ---- version brackets

pub together_else : (c d : Component) (cs : List Component) (n : ℕ) {b : Bool} → group_of c.presence ≡ Some n → (IsOfGroup n d → ⊥) → IsTrue b ↔ AllByRecursion (λ e. IsOfGroup n e → ⊥) (d ∷ cs) → IsTrue b ↔ AreTogether c (d ∷ cs)
together_else c d cs n e f a = (
  λ t g i. inr (subst (λ q. AllByRecursion (λ z. IsOfGroup q z → ⊥) (d ∷ cs)) (same (sym e ∙ i)) (a.0 t)),
  λ h. elim (h n e) [ inl i ↦ absurd (f i) | inr q ↦ a.1 q ],
)
  where
    same : {m k : ℕ} → Some m ≡ Some k → m ≡ k
    same q = cc

pub groups_split : (c : Component) (cs : List Component) → GroupsTogether (c ∷ cs) ↔ (AreTogether c cs × GroupsTogether cs)
groups_split c [] = (λ h. (tt, tt), λ h. tt)
groups_split c (d ∷ cs) = (λ h. h, λ h. h)

pub twice_is : {A B C : Type 0} (f : B → C) (g : A → B) (xs : List A) (i : ℕ) (d : A) → i < length xs → d ≡ get_or xs i d → drop i (map f (map g xs)) ≡ f (g d) ∷ drop (i + 1) (map f (map g xs))
twice_is f g xs i d h e = drop_twice f g xs i d h ∙ ap (λ x. f (g x) ∷ drop (i + 1) (map f (map g xs))) (sym e)

pub map_drop : {A B : Type 0} (f : A → B) (n : ℕ) (xs : List A) → map f (drop n xs) ≡ drop n (map f xs)
map_drop f zero xs = refl
map_drop f (suc n) [] = refl
map_drop f (suc n) (x ∷ xs) = map_drop f n xs

take_whole : {A : Type 0} (m : ℕ) (xs : List A) → length xs ≤ m → take m xs ≡ xs
take_whole zero [] h = refl
take_whole zero (x ∷ xs) h = absurd (omega arith)
take_whole (suc m) [] h = refl
take_whole (suc m) (x ∷ xs) h = ap (λ q. x ∷ q) (take_whole m xs (omega arith))

few_left : {A : Type 0} (n : ℕ) (xs : List A) → length (drop n xs) ≤ length xs - n
few_left zero xs = omega arith
few_left (suc n) [] = omega arith
few_left (suc n) (x ∷ xs) = let h = few_left n xs in omega (arith, h)

-- a part of a slice from a place on
pub part_from : {A : Type 0} (n : ℕ) (xs : List A) → take (length xs - n) (drop n xs) ≡ drop n xs
part_from n xs = take_whole (length xs - n) (drop n xs) (few_left n xs)

pub part_map : {A B : Type 0} (f : A → B) (n : ℕ) (xs : List A) → map f (take (length xs - n) (drop n xs)) ≡ drop n (map f xs)
part_map f n xs = ap (map f) (part_from n xs) ∙ map_drop f n xs

pub headed : {A B : Type 0} (f : A → B) (xs : List A) (x : A) → slice_get xs 0 ≡ Some x → map f xs ≡ f x ∷ drop 1 (map f xs)
headed f [] x e = absurd cc
headed f (y ∷ xs) x e = let q : y ≡ x = cc in ap (λ z. f z ∷ map f xs) q

-- ---- numbers that are gathered

pub kept_adding : (old new : List ℕ) (x : ℕ) (xs : List ℕ) (i : ℕ) → new ≡ old ++ x ∷ [] → drop i xs ≡ x ∷ drop (i + 1) xs → old ++ drop i xs ≡ xs → new ++ drop (i + 1) xs ≡ xs
kept_adding old new x xs i e d h =
    ap (λ q. q ++ drop (i + 1) xs) e ∙ joined old x (drop (i + 1) xs) ∙ ap (λ q. old ++ q) (sym d) ∙ h
  where
    joined : (ys : List ℕ) (y : ℕ) (zs : List ℕ) → (ys ++ y ∷ []) ++ zs ≡ ys ++ y ∷ zs
    joined [] y zs = refl
    joined (z ∷ ys) y zs = ap (λ q. z ∷ q) (joined ys y zs)

pub kept_added : (new xs : List ℕ) (i : ℕ) → drop i xs ≡ [] → new ++ drop i xs ≡ xs → new ≡ xs
kept_added new xs i d h = sym (none new) ∙ ap (λ q. new ++ q) (sym d) ∙ h
  where
    none : (ys : List ℕ) → ys ++ [] ≡ ys
    none [] = refl
    none (y ∷ ys) = ap (λ q. y ∷ q) (none ys)
