-- What two texts have in common at the start, from a place on.
use Rattle.std.proofs.Common.{◌≡◌, ℕ, ◌+◌, ◌-◌, ◌<◌, ◌≤◌, List, Bool, true, false, arith, sym, ap, ◌∙◌, subst}
use Rattle.std.proofs.Common.{drop, get_or, length, min, reverse, length-drop}
use Rattle.std.specs.Char.{eq_ignore_ascii_case}
use Rattle.std.specs.List.{common_prefix_len}
use Rattle.std.proofs.lemmas.List.{get_or-reverse, length-reverse}
use Rattle.std.proofs.lemmas.List.Sums.{common_prefix_len-drop_no, common_prefix_len-drop_yes, common_prefix_len-le}
use Rattle.suggestions.specs.Near.{common_end, common_front}

none_more : (a k f : ℕ) → a ≡ k + f → f ≡ 0 → k ≡ a
none_more a k f h z = omega (arith, h, z)

one_more : (a k f g : ℕ) → a ≡ k + f → f ≡ 1 + g → a ≡ k + 1 + g
one_more a k f g h z = omega (arith, h, z)

none_below : (f a b n : ℕ) → f ≤ a - n → f ≤ b - n → n ≡ min a b → f ≡ 0
none_below f a b n h i e = omega (arith, h, i, e)

-- nothing is left in common after the shorter of the texts
pub nothing_left : (x y : List ℕ) (n : ℕ) → n ≡ min (length x) (length y) → common_front (drop n x) (drop n y) ≡ 0
nothing_left x y n e =
    let both = common_prefix_len-le eq_ignore_ascii_case (drop n x) (drop n y) in
    none_below (common_front (drop n x) (drop n y)) (length x) (length y) n
    (subst (λ m. common_front (drop n x) (drop n y) ≤ m) (length-drop n x) both.0)
    (subst (λ m. common_front (drop n x) (drop n y) ≤ m) (length-drop n y) both.1)
    e

pub whole_front : (x y : List ℕ) (n : ℕ) → n ≡ min (length x) (length y)
    → common_front x y ≡ n + common_front (drop n x) (drop n y)
    → n ≡ common_front x y
whole_front x y n e h = none_more (common_front x y) n (common_front (drop n x) (drop n y)) h (nothing_left x y n e)

-- the octets at a place, counted from the end
pub last_at : (x : List ℕ) (k : ℕ) → k < length x → get_or (reverse x) k 0 ≡ get_or x (length x - 1 - k) 0
last_at x k l = get_or-reverse x k 0 l

-- the octets at a place of both, counted from the end, are alike or not
pub likeness : (x y : List ℕ) (k : ℕ) (b : Bool) → k < length x → k < length y
    → eq_ignore_ascii_case (get_or x (length x - 1 - k) 0) (get_or y (length y - 1 - k) 0) ≡ b
    → eq_ignore_ascii_case (get_or (reverse x) k 0) (get_or (reverse y) k 0) ≡ b
likeness x y k b l m h =
    ap (λ c. eq_ignore_ascii_case c (get_or (reverse y) k 0)) (last_at x k l)
    ∙ (ap (λ c. eq_ignore_ascii_case (get_or x (length x - 1 - k) 0) c) (last_at y k m) ∙ h)

within_reverse : (x : List ℕ) (k : ℕ) → k < length x → k < length (reverse x)
within_reverse x k l = subst (λ n. k < n) (sym (length-reverse x)) l

pub stops_at : (x y : List ℕ) (k : ℕ) → k < length x → k < length y
    → common_end x y ≡ k + common_front (drop k (reverse x)) (drop k (reverse y))
    → eq_ignore_ascii_case (get_or x (length x - 1 - k) 0) (get_or y (length y - 1 - k) 0) ≡ false
    → k ≡ common_end x y
stops_at x y k l m h unlike =
    none_more (common_end x y) k (common_front (drop k (reverse x)) (drop k (reverse y))) h
    (common_prefix_len-drop_no eq_ignore_ascii_case (reverse x) (reverse y) k 0 0
    (within_reverse x k l) (within_reverse y k m) (likeness x y k false l m unlike))

pub goes_on : (x y : List ℕ) (k : ℕ) → k < length x → k < length y
    → common_end x y ≡ k + common_front (drop k (reverse x)) (drop k (reverse y))
    → eq_ignore_ascii_case (get_or x (length x - 1 - k) 0) (get_or y (length y - 1 - k) 0) ≡ true
    → common_end x y ≡ k + 1 + common_front (drop (k + 1) (reverse x)) (drop (k + 1) (reverse y))
goes_on x y k l m h alike =
    one_more (common_end x y) k (common_front (drop k (reverse x)) (drop k (reverse y)))
    (common_front (drop (k + 1) (reverse x)) (drop (k + 1) (reverse y))) h
    (common_prefix_len-drop_yes eq_ignore_ascii_case (reverse x) (reverse y) k 0 0
    (within_reverse x k l) (within_reverse y k m) (likeness x y k true l m alike))

pub whole_end : (x y : List ℕ) (n : ℕ) → n ≡ min (length x) (length y)
    → common_end x y ≡ n + common_front (drop n (reverse x)) (drop n (reverse y))
    → n ≡ common_end x y
whole_end x y n e h =
    let e' : n ≡ min (length (reverse x)) (length (reverse y)) =
    rw (length-reverse x, length-reverse y) e in
    none_more (common_end x y) n (common_front (drop n (reverse x)) (drop n (reverse y))) h
    (nothing_left (reverse x) (reverse y) n e')
