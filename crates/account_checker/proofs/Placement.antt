-- Octets at places: slices of encodings, one after another.
use Rattle.std.proofs.Common.{arith, ◌≡◌, ℕ, zero, suc, ◌+◌, ◌<◌, List, [], ◌∷◌, ◌++◌, length, map, take, drop, get_or, refl, sym, ap, subst, ◌∙◌, append_assoc, length-append}
use Rattle.std.specs.Prelude.{Option, Some, None, slice_get}
use Rattle.std.specs.List.{sum, concat}
use Rattle.std.proofs.lemmas.Option.{slice_get_within}
use Rattle.encodings.specs.Orders.{EncodingInserted, here, there, Permutes, permutes_none, permutes_more}
use Rattle.encodings.specs.Account.{ArePlacedAt, ArePlaces}
use Rattle.encodings.specs.proving.Placing.{placing_permutes}
use Rattle.account_checker.specs.Follows.{SliceAt, before, by_place}
use Rattle.account_checker.proofs.Members.{sum_append}

abbrev pub lens : List (List ℕ) → List ℕ
lens xs = map length xs

sum_cons : (n : ℕ) (ns : List ℕ) → sum (n ∷ ns) ≡ n + sum ns
sum_cons n ns = let e = sum_append (n ∷ []) ns in let f : sum (n ∷ []) ≡ n = omega arith in omega arith

inserted_long : {x : List ℕ} {xs ys : List (List ℕ)} → EncodingInserted x xs ys → length (concat ys) ≡ length x + length (concat xs)
inserted_long (here {x = x} {xs = xs}) = length-append x (concat xs)
inserted_long (there {x = x} {y = y} {xs = xs} {ys = ys} i) = omega (arith, inserted_long i, length-append y (concat ys), length-append y (concat xs))

permutes_long : {xs ys : List (List ℕ)} → Permutes xs ys → length (concat ys) ≡ length (concat xs)
permutes_long permutes_none = refl
permutes_long (permutes_more {x = x} {xs = xs} p i) = omega (arith, inserted_long i, permutes_long p, length-append x (concat xs))

pub standing_long : {p q : List ℕ} {xs zs : List (List ℕ)} → ArePlacedAt p q xs zs → length (concat zs) ≡ length (concat xs)
standing_long a = permutes_long (placing_permutes a)

some_or : {A : Type 0} → A → Option A → A
some_or d None = d
some_or d (Some x) = x

pub one_some : {A : Type 0} {x y : A} → Some x ≡ Some y → x ≡ y
unfolding some_or
one_some {x = x} e = ap (some_or x) e

-- the slice of the list with this number, if the lists come one after another
pub slice_of : (zs : List (List ℕ)) (j : ℕ) (y : List ℕ) → slice_get zs j ≡ Some y → SliceAt (concat zs) (sum (take j (lens zs))) (length y) y
slice_of [] j y e = absurd (cc)
slice_of (z ∷ zs) zero y e = record { front = []; following = concat zs; whole = ap (λ w. w ++ concat zs) (one_some e); there = refl; as_many = refl }
slice_of (z ∷ zs) (suc j) y e =
    let r = slice_of zs j y e in
    record {
      front = z ++ r.front;
      following = r.following;
      whole = ap (λ w. z ++ w) r.whole ∙ sym (append_assoc z r.front (y ++ r.following));
      there = (let f = r.there in let g = sum_cons (length z) (take j (lens zs)) in omega (arith, length-append z r.front));
      as_many = refl;
    }

get_len : (xs : List (List ℕ)) (i : ℕ) (z : List ℕ) → slice_get xs i ≡ Some z → get_or (lens xs) i 0 ≡ length z
get_len [] i z e = absurd (cc)
get_len (x ∷ xs) zero z e = ap length (one_some e)
get_len (x ∷ xs) (suc i) z e = get_len xs i z e

pub lens_by : (xs zs : List (List ℕ)) (q : List ℕ) → length zs ≡ length q → ((j i : ℕ) → slice_get q j ≡ Some i → slice_get zs j ≡ slice_get xs i) → lens zs ≡ by_place (lens xs) q
lens_by xs [] [] l h = refl
lens_by xs [] (i ∷ q) l h = absurd (omega arith)
lens_by xs (z ∷ zs) [] l h = absurd (omega arith)
lens_by xs (z ∷ zs) (i ∷ q) l h =
    ap (λ n. n ∷ lens zs) (sym (get_len xs i z (sym (h 0 i refl)))) ∙ ap (λ ns. get_or (lens xs) i 0 ∷ ns) (lens_by xs zs q (omega arith) (λ j k e. h (suc j) k e))

found_at : (p : List ℕ) (i : ℕ) → i < length p → slice_get p i ≡ Some (get_or p i 0)
found_at [] i h = absurd (omega arith)
found_at (j ∷ p) zero h = refl
found_at (j ∷ p) (suc i) h = found_at p i (omega arith)

-- each member is at its place
pub member_is_at : {p q : List ℕ} {xs zs : List (List ℕ)} {ns : List ℕ} → ArePlacedAt p q xs zs → ns ≡ lens xs → (i : ℕ) (y : List ℕ) → slice_get xs i ≡ Some y → SliceAt (concat zs) (before (by_place ns q) (get_or p i 0)) (length y) y
member_is_at {p} {q} {xs} {zs} {ns} a e i y f =
    let r = a.are_places in
    let w = slice_get_within xs i y f in
    let g = found_at p i (let m = r.each_member in omega arith) in
    let b = lens_by xs zs q (a.as_many ∙ sym r.each_place) (λ j k h. a.each k j (r.back k j h)) in
    subst (λ ms. SliceAt (concat zs) (before ms (get_or p i 0)) (length y) y) (b ∙ ap (λ ms. by_place ms q) (sym e)) (slice_of zs (get_or p i 0) y (a.each i (get_or p i 0) g ∙ f))

-- ---- what comes after a place

drop_front : (f x : List ℕ) → drop (length f) (f ++ x) ≡ x
drop_front [] x = refl
drop_front (a ∷ f) x = drop_front f x

pub drop_all : (x : List ℕ) → drop (length x) x ≡ []
drop_all [] = refl
drop_all (a ∷ x) = drop_all x

-- the octets at a place, and those after them
pub next_slice : (o : List ℕ) (p n : ℕ) (x : List ℕ) → SliceAt o p n x → drop p o ≡ x ++ drop (p + n) o
next_slice o p n x a =
    let e : length (a.front ++ x) ≡ p + n = length-append a.front x ∙ (let f = a.there in let g = a.as_many in omega arith) in
    ap (drop p) a.whole ∙ ap (λ k. drop k (a.front ++ (x ++ a.following))) (sym a.there) ∙ drop_front a.front (x ++ a.following)
    ∙ ap (λ r. x ++ r) (sym (ap (λ k. drop k o) (sym e) ∙ ap (drop (length (a.front ++ x))) (a.whole ∙ sym (append_assoc a.front x a.following)) ∙ drop_front (a.front ++ x) a.following))

chain : (zs : List (List ℕ)) (o : List ℕ) (b : ℕ) → ((j : ℕ) (y : List ℕ) → slice_get zs j ≡ Some y → SliceAt o (b + sum (take j (lens zs))) (length y) y) → drop b o ≡ concat zs ++ drop (b + sum (lens zs)) o
chain [] o b h = ap (λ k. drop k o) (let f : b ≡ b + 0 = omega arith in f)
chain (z ∷ zs) o b h =
    let first = subst (λ k. SliceAt o k (length z) z) (let f : b + 0 ≡ b = omega arith in f) (h 0 z refl) in
    let rest = chain zs o (b + length z) (λ j y e. subst (λ k. SliceAt o k (length y) y) (let f = sum_cons (length z) (take j (lens zs)) in let g : b + sum (length z ∷ take j (lens zs)) ≡ (b + length z) + sum (take j (lens zs)) = omega arith in g) (h (suc j) y e)) in
    next_slice o b (length z) z first ∙ ap (λ w. z ++ w) rest ∙ sym (append_assoc z (concat zs) (drop ((b + length z) + sum (lens zs)) o))
    ∙ ap (λ k. (z ++ concat zs) ++ drop k o) (let f = sum_cons (length z) (lens zs) in let g : (b + length z) + sum (lens zs) ≡ b + sum (length z ∷ lens zs) = omega arith in g)

sum_lens : (xs : List (List ℕ)) → sum (lens xs) ≡ length (concat xs)
sum_lens [] = refl
sum_lens (x ∷ xs) = let e = sum_cons (length x) (lens xs) in let f = sum_lens xs in let g = length-append x (concat xs) in omega arith

map_get : (f : ℕ → List ℕ) (q : List ℕ) (j i : ℕ) → slice_get q j ≡ Some i → slice_get (map f q) j ≡ Some (f i)
map_get f [] j i e = absurd (cc)
map_get f (k ∷ q) zero i e = ap (λ n. Some (f n)) (one_some e)
map_get f (k ∷ q) (suc j) i e = map_get f q j i e

map_get_back : (f : ℕ → List ℕ) (q : List ℕ) (j : ℕ) (y : List ℕ) → slice_get (map f q) j ≡ Some y → (i : ℕ) × (slice_get q j ≡ Some i) × (f i ≡ y)
map_get_back f [] j y e = absurd (cc)
map_get_back f (k ∷ q) zero y e = (k, refl, one_some e)
map_get_back f (k ∷ q) (suc j) y e = map_get_back f q j y e

get_found : (xs : List (List ℕ)) (i : ℕ) → i < length xs → slice_get xs i ≡ Some (get_or xs i [])
get_found [] i h = absurd (omega arith)
get_found (x ∷ xs) zero h = refl
get_found (x ∷ xs) (suc i) h = get_found xs i (omega arith)

map_long : {A B : Type 0} (f : A → B) (xs : List A) → length (map f xs) ≡ length xs
map_long f [] = refl
map_long f (x ∷ xs) = ap suc (map_long f xs)

nil_after : (xs : List ℕ) → xs ++ [] ≡ xs
nil_after [] = refl
nil_after (x ∷ xs) = ap (λ w. x ∷ w) (nil_after xs)

module _ (p q : List ℕ) (xs : List (List ℕ)) (ns o : List ℕ) (r : ArePlaces (length ns) p q) (e : ns ≡ lens xs) (h : (i : ℕ) (y : List ℕ) → slice_get xs i ≡ Some y → SliceAt o (before (by_place ns q) (get_or p (0 + i) 0)) (length y) y) (l : length o ≡ sum ns) where
  abbrev zs : List (List ℕ)
  zs = map (λ i. get_or xs i []) q

  many : length ns ≡ length xs
  many = ap length e ∙ map_long length xs

  is_at : (i j : ℕ) → slice_get p i ≡ Some j → slice_get (map (λ i. get_or xs i []) q) j ≡ slice_get xs i
  is_at i j f =
      let w = slice_get_within p i j f in
      map_get (λ i. get_or xs i []) q j i (r.there i j f) ∙ sym (get_found xs i (let m = r.each_member in let n = many in omega arith))

  at : ArePlacedAt p q xs zs
  at = record {
    are_places = subst (λ m. ArePlaces m p q) many r;
    as_many = map_long (λ i. get_or xs i []) q ∙ r.each_place ∙ many;
    each = is_at;
  }

  by : by_place ns q ≡ lens zs
  by = ap (λ ms. by_place ms q) e ∙ sym (lens_by xs (map (λ i. get_or xs i []) q) q (map_long (λ i. get_or xs i []) q) (λ j i f. is_at i j (r.back i j f)))

  slices : (j : ℕ) (y : List ℕ) → slice_get zs j ≡ Some y → SliceAt o (0 + sum (take j (lens zs))) (length y) y
  slices j y f =
      let g = map_get_back (λ i. get_or xs i []) q j y f in
      let k = r.back g.0 j g.1 in
      let w = slice_get_within p g.0 j k in
      let m = one_some (sym (found_at p g.0 w) ∙ k) in
      let a = h g.0 y (get_found xs g.0 (let c = r.each_member in let d = many in omega arith) ∙ ap Some g.2) in
      let b : get_or p (0 + g.0) 0 ≡ j = ap (λ z. get_or p z 0) (let c : 0 + g.0 ≡ g.0 = omega arith in c) ∙ m in
      subst (λ ms. SliceAt o (0 + sum (take j ms)) (length y) y) by (subst (λ c. SliceAt o c (length y) y) (let c : sum (take j (by_place ns q)) ≡ 0 + sum (take j (by_place ns q)) = omega arith in c) (subst (λ c. SliceAt o (before (by_place ns q) c) (length y) y) b a))

  joined : o ≡ concat zs
  joined =
      let c = chain zs o 0 slices in
      let f = standing_long at in
      let g = sum_lens zs in
      let i = sum_lens xs in
      let j = ap sum e in
      let k : 0 + sum (lens zs) ≡ length o = omega arith in
      c ∙ ap (λ n. concat zs ++ drop n o) k ∙ ap (λ w. concat zs ++ w) (drop_all o) ∙ nil_after (concat zs)

pub stand_up : (p q : List ℕ) (xs : List (List ℕ)) (ns o : List ℕ) → ArePlaces (length ns) p q → ns ≡ lens xs → ((i : ℕ) (y : List ℕ) → slice_get xs i ≡ Some y → SliceAt o (before (by_place ns q) (get_or p (0 + i) 0)) (length y) y) → length o ≡ sum ns → (zs : List (List ℕ)) × ArePlacedAt p q xs zs × (o ≡ concat zs)
stand_up p q xs ns o r e h l = (zs p q xs ns o r e h l, at p q xs ns o r e h l, joined p q xs ns o r e h l)
