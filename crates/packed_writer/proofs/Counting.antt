-- Items after their number.
use Rattle.std.proofs.Common.{◌≡◌, ℕ, zero, suc, ◌+◌, ◌<◌, ◌≤◌, List, [], ◌∷◌, ◌++◌, length, take, drop, get_or, map, refl, sym, ap, ◌∙◌, arith, append_assoc}
use Rattle.std.proofs.lemmas.List.{length-map, take-map}
use Rattle.asn_base.specs.declared.value.Value.{Value}
use Rattle.asn_base.specs.Abstract.{abstract}
use Rattle.asn_base.specs.Types.{Resolved}
use Rattle.packed_encodings.specs.Computed.{bits_of}
use Rattle.packed_encodings.specs.Lengths.{Bits, Items, all_bits, Counted}
use Rattle.packed_counts.specs.Counts.{items_next, count_bits, Adds}
use Rattle.packed_leaves.specs.proving.Counting.{drop-map, AtOnce, Part, all_at_once, first_part}
use Rattle.packed_writer.specs.proving.Values.{all_items}

-- ---- elements

pub items_long : (s : List Resolved) (u : ℕ) (vs : List Value) → length vs ≡ length (all_items s u (map abstract vs))
items_long s u vs = sym (length-map (map abstract vs) (λ w. bits_of s w u) ∙ length-map vs abstract)

pub values_at_once : (once : AtOnce) (s : List Resolved) (u : ℕ) (vs : List Value) (n : ℕ) (a b d : Bits) → n ≡ length vs → n < 16384 → b ≡ a ++ count_bits n → d ≡ b ++ all_bits (all_items s u (map abstract vs)) → Adds (Counted (all_items s u (map abstract vs))) a d
values_at_once once s u vs n a b d k l e f = all_at_once once (all_items s u (map abstract vs)) n a b d (k ∙ items_long s u vs) l e f

pub values_part : (part : Part) (s : List Resolved) (u : ℕ) (vs xs ys : List Value) (n m : ℕ) (a b d f : Bits) → n ≡ length vs → 16384 ≤ n → m ≡ items_next n → xs ≡ take m vs → ys ≡ drop m vs → b ≡ a ++ count_bits n → d ≡ b ++ all_bits (all_items s u (map abstract xs)) → Adds (Counted (all_items s u (map abstract ys))) d f → Adds (Counted (all_items s u (map abstract vs))) a f
values_part part s u vs xs ys n m a b d f k h em ex ey eb ed r =
    first_part part (all_items s u (map abstract vs)) (all_items s u (map abstract xs)) (all_items s u (map abstract ys)) n m a b d f (k ∙ items_long s u vs) h em
    (ap (λ q. all_items s u (map abstract q)) ex ∙ ap (all_items s u) (sym (take-map abstract m vs)) ∙ sym (take-map (λ w. bits_of s w u) m (map abstract vs)))
    (ap (λ q. all_items s u (map abstract q)) ey ∙ ap (all_items s u) (sym (drop-map abstract m vs)) ∙ sym (drop-map (λ w. bits_of s w u) m (map abstract vs)))
    eb ed r

-- ---- items one by one

pub item_at : (xs : Items) (i : ℕ) (x : Bits) → i < length xs → x ≡ get_or xs i x → drop i xs ≡ x ∷ drop (i + 1) xs
item_at [] i x h e = absurd (omega (arith, h))
item_at (y ∷ xs) zero x h e = ap (λ q. q ∷ xs) (sym e)
item_at (y ∷ xs) (suc i) x h e = item_at xs i x (omega (arith, h)) e ∙ ap (λ q. x ∷ drop q (y ∷ xs)) (let c : suc (i + 1) ≡ suc i + 1 = omega arith in c)

pub item_step : (xs : Items) (i : ℕ) (x b d whole : Bits) → drop i xs ≡ x ∷ drop (i + 1) xs → b ++ all_bits (drop i xs) ≡ whole → d ≡ b ++ x → d ++ all_bits (drop (i + 1) xs) ≡ whole
item_step xs i x b d whole e v n = ap (λ q. q ++ all_bits (drop (i + 1) xs)) n ∙ append_assoc b x (all_bits (drop (i + 1) xs)) ∙ ap (λ q. b ++ all_bits q) (sym e) ∙ v

pub drop_all : {X : Type 0} (xs : List X) (i : ℕ) → length xs ≤ i → drop i xs ≡ []
drop_all [] zero h = refl
drop_all [] (suc i) h = refl
drop_all (x ∷ xs) zero h = absurd (omega (arith, h))
drop_all (x ∷ xs) (suc i) h = drop_all xs i (omega (arith, h))
