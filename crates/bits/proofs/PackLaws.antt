-- Bits in words.
use Rattle.std.proofs.Common.{arith, subst, inl, inr, ◌≡◌, ℕ, suc, ◌+◌, ◌-◌, ◌*◌, ◌/◌, ◌%◌, ◌^◌, ◌<◌, ◌≤◌, Bool, false, List, [], ◌∷◌, ◌++◌, length, refl, sym, ap, ◌∙◌, length-append, append_assoc, take, drop, get_or, set}
use Rattle.std.specs.Prelude.{replicate, flat_map, ◌⊎◌}
use Rattle.std.specs.Int.RustNames.{bit_or}
use Rattle.std.proofs.Math.Nat.{suc-mul}
use Rattle.std.proofs.lemmas.Nat.{or_shifted, shr_below, shr_split}
use Rattle.std.proofs.lemmas.List.{append-nil, length-replicate, take_at, take_more, take_all, set_at, length-take-le, replicate-append-replicate, take-append-drop, drop_more}
use Rattle.bits.specs.Words.{low_bits, word_bits}
use Rattle.bits.specs.Packed.{Holds, first_bits}
use Rattle.bits.proofs.SplitLaws.{word_split, word_length, word_up, word_both, word_cut, no_bits, fronts}

pub view_is : (ws : List ℕ) (n : ℕ) (bits : List Bool) → Holds ws n bits → first_bits ws n ≡ bits
view_is ws n bits h = ap (take n) h.fills.joined ∙ take_at bits (replicate h.fills.zeros false) n h.long

pub held : (ws : List ℕ) (n : ℕ) (bits : List Bool) → Holds ws n bits → Holds ws n (first_bits ws n)
held ws n bits h = rw (view_is ws n bits h) h

pub flat_append : (w : ℕ) (xs ys : List ℕ) → flat_map (low_bits w) (xs ++ ys) ≡ flat_map (low_bits w) xs ++ flat_map (low_bits w) ys
flat_append w [] ys = refl
flat_append w (x ∷ xs) ys = ap (λ q. low_bits w x ++ q) (flat_append w xs ys) ∙ sym (append_assoc (low_bits w x) (flat_map (low_bits w) xs) (flat_map (low_bits w) ys))

pub flat_push : (w : ℕ) (xs : List ℕ) (y : ℕ) → flat_map (low_bits w) (xs ++ y ∷ []) ≡ flat_map (low_bits w) xs ++ low_bits w y
flat_push w xs y = flat_append w xs (y ∷ []) ∙ ap (λ q. flat_map (low_bits w) xs ++ q) (append-nil (low_bits w y))

pub flat_long : (w : ℕ) (xs : List ℕ) → length (flat_map (low_bits w) xs) ≡ length xs * w
flat_long w [] = let z : 0 ≡ 0 * w = omega arith in z
flat_long w (x ∷ xs) =
    let m : suc (length xs) * w ≡ w + length xs * w = omega (arith, suc-mul (length xs) w) in
    length-append (low_bits w x) (flat_map (low_bits w) xs) ∙ ap (λ q. q + length (flat_map (low_bits w) xs)) (word_length w x) ∙ ap (λ q. w + q) (flat_long w xs) ∙ sym m

-- Words of w bits, whose last one, the i-th, holds u bits and then j zero bits.
module _ (w i u j n : ℕ) (ws : List ℕ) (bits : List Bool) (s : u + j ≡ w) (l : length ws ≡ i + 1) (nb : length bits ≡ i * w + u) (f : flat_map (low_bits w) ws ≡ bits ++ replicate j false) where
  abbrev last : ℕ
  last = get_or ws i 0

  abbrev init : List ℕ
  init = take i ws

  init_long : length init ≡ i
  init_long = length-take-le i ws (omega (arith, l))

  parts : ws ≡ init ++ last ∷ []
  parts = sym (take_all (i + 1) ws (omega (arith, l))) ∙ take_more ws i 0 (omega (arith, l))

  both : (bits ≡ flat_map (low_bits w) init ++ low_bits u (last / 2 ^ j)) × (replicate j false ≡ low_bits j last)
  both =
      let a : bits ++ replicate j false ≡ (flat_map (low_bits w) init ++ low_bits u (last / 2 ^ j)) ++ low_bits j last =
      sym f ∙ ap (flat_map (low_bits w)) parts ∙ flat_push w init last
      ∙ ap (λ q. flat_map (low_bits w) init ++ q) (word_split u j w last s)
      ∙ sym (append_assoc (flat_map (low_bits w) init) (low_bits u (last / 2 ^ j)) (low_bits j last)) in
      let b : length bits ≡ length (flat_map (low_bits w) init ++ low_bits u (last / 2 ^ j)) =
      nb ∙ ap (λ q. q * w + u) (sym init_long) ∙ ap (λ q. q + u) (sym (flat_long w init))
      ∙ ap (λ q. length (flat_map (low_bits w) init) + q) (sym (word_length u (last / 2 ^ j)))
      ∙ sym (length-append (flat_map (low_bits w) init) (low_bits u (last / 2 ^ j))) in
      fronts bits (replicate j false) (flat_map (low_bits w) init ++ low_bits u (last / 2 ^ j)) (low_bits j last) b a

  last_low : last % 2 ^ j ≡ 0
  last_low = no_bits j last (sym both.1)

  -- a low_bits is put after them
  module _ (k left y : ℕ) (b : List Bool) (fits : left < 2 ^ w) (is : y ≡ bit_or last (left / 2 ^ u)) (lb : length b ≡ k) (few : k ≤ w) (wl : low_bits w left ≡ b ++ replicate (w - k) false) where
    high_fits : left / 2 ^ u < 2 ^ j
    high_fits = shr_below left j u (rw (let c : j + u ≡ w = omega (arith, s) in c) fits)

    sum : y ≡ last + left / 2 ^ u
    sum =
        let whole : last ≡ last / 2 ^ j * 2 ^ j = sym (shr_split last j) ∙ ap (λ q. last / 2 ^ j * 2 ^ j + q) last_low ∙ (let z : last / 2 ^ j * 2 ^ j + 0 ≡ last / 2 ^ j * 2 ^ j = omega arith in z) in
        is ∙ ap (λ q. bit_or q (left / 2 ^ u)) whole ∙ or_shifted (last / 2 ^ j) j (left / 2 ^ u) high_fits ∙ ap (λ q. q + left / 2 ^ u) (sym whole)

    new_last : low_bits w y ≡ low_bits u (last / 2 ^ j) ++ low_bits j (left / 2 ^ u)
    new_last = ap (low_bits w) sum ∙ word_both u j w last (left / 2 ^ u) s last_low high_fits

    -- and what follows
    laid : (rest : List ℕ) → flat_map (low_bits w) (init ++ y ∷ rest) ≡ bits ++ (low_bits j (left / 2 ^ u) ++ flat_map (low_bits w) rest)
    laid rest =
        flat_append w init (y ∷ rest)
        ∙ ap (λ q. flat_map (low_bits w) init ++ (q ++ flat_map (low_bits w) rest)) new_last
        ∙ ap (λ q. flat_map (low_bits w) init ++ q) (append_assoc (low_bits u (last / 2 ^ j)) (low_bits j (left / 2 ^ u)) (flat_map (low_bits w) rest))
        ∙ sym (append_assoc (flat_map (low_bits w) init) (low_bits u (last / 2 ^ j)) (low_bits j (left / 2 ^ u) ++ flat_map (low_bits w) rest))
        ∙ ap (λ q. q ++ (low_bits j (left / 2 ^ u) ++ flat_map (low_bits w) rest)) (sym both.0)

    halves : low_bits j (left / 2 ^ u) ++ low_bits u left ≡ b ++ replicate (w - k) false
    halves = sym (word_split j u w left (omega (arith, s))) ∙ wl

    -- it has room
    pub put_within : k ≤ j → flat_map (low_bits w) (set ws i y) ≡ (bits ++ b) ++ replicate (j - k) false
    put_within m =
        let zeros : replicate (w - k) false ≡ replicate (j - k) false ++ replicate u false =
        ap (λ q. replicate q false) (let c : w - k ≡ (j - k) + u = omega (arith, s, m) in c) ∙ sym (replicate-append-replicate (j - k) u false) in
        let a : low_bits j (left / 2 ^ u) ++ low_bits u left ≡ (b ++ replicate (j - k) false) ++ replicate u false =
        halves ∙ ap (λ q. b ++ q) zeros ∙ sym (append_assoc b (replicate (j - k) false) (replicate u false)) in
        let len : length (low_bits j (left / 2 ^ u)) ≡ length (b ++ replicate (j - k) false) =
        word_length j (left / 2 ^ u) ∙ (let c : j ≡ k + (j - k) = omega (arith, m) in c) ∙ ap (λ q. q + (j - k)) (sym lb) ∙ ap (λ q. length b + q) (sym (length-replicate (j - k) false)) ∙ sym (length-append b (replicate (j - k) false)) in
        let front = (fronts (low_bits j (left / 2 ^ u)) (low_bits u left) (b ++ replicate (j - k) false) (replicate u false) len a).0 in
        ap (flat_map (low_bits w)) (ap (λ q. set q i y) parts ∙ set_at init last [] y i init_long)
        ∙ laid []
        ∙ ap (λ q. bits ++ q) (append-nil (low_bits j (left / 2 ^ u)) ∙ front)
        ∙ sym (append_assoc bits b (replicate (j - k) false))

    -- it has not
    pub put_across : (r : ℕ) → r ≡ left * 2 ^ j % 2 ^ w → flat_map (low_bits w) (set (ws ++ r ∷ []) i y) ≡ (bits ++ b) ++ replicate (w - k + j) false
    put_across r e =
        let low : low_bits w r ≡ low_bits u left ++ replicate j false = ap (low_bits w) e ∙ word_cut w w (left * 2 ^ j) (omega arith) ∙ word_up u j w left s in
        let at : set (ws ++ r ∷ []) i y ≡ init ++ y ∷ r ∷ [] =
        ap (λ q. set (q ++ r ∷ []) i y) parts ∙ ap (λ q. set q i y) (append_assoc init (last ∷ []) (r ∷ [])) ∙ set_at init last (r ∷ []) y i init_long in
        ap (flat_map (low_bits w)) at ∙ laid (r ∷ [])
        ∙ ap (λ q. bits ++ (low_bits j (left / 2 ^ u) ++ q)) (append-nil (low_bits w r) ∙ low)
        ∙ ap (λ q. bits ++ q) (sym (append_assoc (low_bits j (left / 2 ^ u)) (low_bits u left) (replicate j false)) ∙ ap (λ q. q ++ replicate j false) halves ∙ append_assoc b (replicate (w - k) false) (replicate j false) ∙ ap (λ q. b ++ q) (replicate-append-replicate (w - k) j false))
        ∙ sym (append_assoc bits b (replicate (w - k + j) false))

-- ---- words of 64 bits

module _ (ws : List ℕ) (n k left : ℕ) (bits b : List Bool) (h : Holds ws n bits) (lb : length b ≡ k) (few : k ≤ 64) (some : 0 < k) (wl : low_bits 64 left ≡ b ++ replicate (64 - k) false) where
  words_long : length ws * 64 ≡ n + h.fills.zeros
  words_long =
      sym (flat_long 64 ws) ∙ ap length h.fills.joined ∙ length-append bits (replicate h.fills.zeros false)
      ∙ ap (λ q. q + length (replicate h.fills.zeros false)) h.long ∙ ap (λ q. n + q) (length-replicate h.fills.zeros false)

  length_is : length (bits ++ b) ≡ n + k
  length_is = length-append bits b ∙ ap (λ q. q + length b) h.long ∙ ap (λ q. n + q) lb

  -- a new low_bits, after whole words
  pub put_fresh : n % 64 ≡ 0 → Holds (ws ++ left ∷ []) (n + k) (bits ++ b)
  put_fresh z =
      let none : h.fills.zeros ≡ 0 = omega (arith, words_long, h.fills.few, z) in
      let whole : word_bits ws ≡ bits = h.fills.joined ∙ ap (λ q. bits ++ replicate q false) none ∙ append-nil bits in
      record {
        fills = record {
          zeros = 64 - k;
          few = omega (arith, some);
          joined = flat_push 64 ws left ∙ ap (λ q. q ++ low_bits 64 left) whole ∙ ap (λ q. bits ++ q) wl ∙ sym (append_assoc bits b (replicate (64 - k) false));
        };
        long = length_is;
      }

  module _ (y : ℕ) (fits : left < 2 ^ 64) (used : 0 < n % 64) (is : y ≡ bit_or (get_or ws (n / 64) 0) (left / 2 ^ (n % 64))) where
    zeros_are : n % 64 + h.fills.zeros ≡ 64
    zeros_are = omega (arith, words_long, h.fills.few, used)

    last_at : length ws ≡ n / 64 + 1
    last_at = omega (arith, words_long, h.fills.few, used)

    bits_are : length bits ≡ n / 64 * 64 + n % 64
    bits_are = h.long ∙ (let c : n ≡ n / 64 * 64 + n % 64 = omega arith in c)

    -- the low_bits has room in the last one
    pub put_in : n % 64 + k ≤ 64 → Holds (set ws (n / 64) y) (n + k) (bits ++ b)
    put_in m = record {
      fills = record {
        zeros = h.fills.zeros - k;
        few = omega (arith, h.fills.few);
        joined = put_within 64 (n / 64) (n % 64) h.fills.zeros n ws bits zeros_are last_at bits_are h.fills.joined k left y b fits is lb few wl (omega (arith, zeros_are, m));
      };
      long = length_is;
    }

    -- it goes on in a new one
    pub put_over : 64 < n % 64 + k → (r : ℕ) → r ≡ left * 2 ^ (64 - n % 64) % 2 ^ 64 → Holds (set (ws ++ r ∷ []) (n / 64) y) (n + k) (bits ++ b)
    put_over m r e =
        let z : 64 - n % 64 ≡ h.fills.zeros = omega (arith, zeros_are) in
        record {
          fills = record {
            zeros = 64 - k + h.fills.zeros;
            few = omega (arith, zeros_are, m, few);
            joined = put_across 64 (n / 64) (n % 64) h.fills.zeros n ws bits zeros_are last_at bits_are h.fills.joined k left y b fits is lb few wl r (e ∙ ap (λ q. left * 2 ^ q % 2 ^ 64) z);
          };
          long = length_is;
        }

-- the low k bits of a number, moved to the front
pub moved : (k number : ℕ) → k ≤ 64 → low_bits 64 (number * 2 ^ (64 - k) % 2 ^ 64) ≡ low_bits k number ++ replicate (64 - k) false
moved k number l = word_cut 64 64 (number * 2 ^ (64 - k)) (omega arith) ∙ word_up k (64 - k) 64 number (omega (arith, l))

-- ---- there is room, and a last low_bits

pub words_of : (ws : List ℕ) (n : ℕ) (bits : List Bool) → Holds ws n bits → (z : ℕ) × (length ws * 64 ≡ n + z) × (z < 64)
words_of ws n bits h = (h.fills.zeros, words_long ws n 64 0 bits (low_bits 64 0) h refl (omega arith) (omega arith) (sym (append-nil (low_bits 64 0))), h.fills.few)

pub inside : (ws : List ℕ) (n : ℕ) (bits : List Bool) → Holds ws n bits → n ≤ 64 * length ws
inside ws n bits h = let w = words_of ws n bits h in omega (arith, w.1)

pub is_last : (ws : List ℕ) (n : ℕ) (bits : List Bool) → Holds ws n bits → 0 < n % 64 → n / 64 < length ws
is_last ws n bits h u = let w = words_of ws n bits h in omega (arith, w.1, w.2, u)

pub one_more : (ws : List ℕ) (n k r : ℕ) (bits : List Bool) → Holds ws n bits → n + k ≤ 64 * r → (n % 64 ≡ 0) ⊎ (64 < n % 64 + k) → 0 < k → length ws < r
one_more ws n k r bits h m (inl z) s = let w = words_of ws n bits h in omega (arith, w.1, w.2, m, z, s)
one_more ws n k r bits h m (inr z) s = let w = words_of ws n bits h in omega (arith, w.1, w.2, m, z, s)

-- ---- other words

-- whole words of others
pub whole_words : (others : List ℕ) (count : ℕ) → count % 64 ≡ 0 → count ≤ 64 * length others → word_bits (take (count / 64) others) ≡ first_bits others count
whole_words others count z l =
    let long : length (word_bits (take (count / 64) others)) ≡ count = flat_long 64 (take (count / 64) others) ∙ ap (λ q. q * 64) (length-take-le (count / 64) others (omega (arith, l))) ∙ (let c : count / 64 * 64 ≡ count = omega (arith, z) in c) in
    sym (take_at (word_bits (take (count / 64) others)) (word_bits (drop (count / 64) others)) count long)
    ∙ ap (take count) (sym (flat_append 64 (take (count / 64) others) (drop (count / 64) others)) ∙ ap word_bits (take-append-drop (count / 64) others))

-- and some bits of the next
pub rest_of_words : (others : List ℕ) (count : ℕ) → 0 < count % 64 → count ≤ 64 * length others → word_bits (take (count / 64) others) ++ low_bits (count % 64) (get_or others (count / 64) 0 / 2 ^ (64 - count % 64)) ≡ first_bits others count
rest_of_words others count z l =
    let i = count / 64 in
    let r = count % 64 in
    let x = get_or others i 0 in
    let at : i < length others = omega (arith, z, l) in
    let long : length (word_bits (take i others) ++ low_bits r (x / 2 ^ (64 - r))) ≡ count =
    length-append (word_bits (take i others)) (low_bits r (x / 2 ^ (64 - r))) ∙ ap (λ q. length (word_bits (take i others)) + q) (word_length r (x / 2 ^ (64 - r)))
    ∙ ap (λ q. q + r) (flat_long 64 (take i others) ∙ ap (λ q. q * 64) (length-take-le i others (omega (arith, at)))) ∙ (let c : i * 64 + r ≡ count = omega arith in c) in
    let split : word_bits others ≡ (word_bits (take i others) ++ low_bits r (x / 2 ^ (64 - r))) ++ (low_bits (64 - r) x ++ word_bits (drop (i + 1) others)) =
    ap word_bits (sym (take-append-drop i others) ∙ ap (λ q. take i others ++ q) (drop_more others i 0 at))
    ∙ flat_append 64 (take i others) (x ∷ drop (i + 1) others)
    ∙ ap (λ q. word_bits (take i others) ++ (q ++ word_bits (drop (i + 1) others))) (word_split r (64 - r) 64 x (omega arith))
    ∙ ap (λ q. word_bits (take i others) ++ q) (append_assoc (low_bits r (x / 2 ^ (64 - r))) (low_bits (64 - r) x) (word_bits (drop (i + 1) others)))
    ∙ sym (append_assoc (word_bits (take i others)) (low_bits r (x / 2 ^ (64 - r))) (low_bits (64 - r) x ++ word_bits (drop (i + 1) others))) in
    sym (ap (take count) split ∙ take_at (word_bits (take i others) ++ low_bits r (x / 2 ^ (64 - r))) (low_bits (64 - r) x ++ word_bits (drop (i + 1) others)) count long)

module _ (new : List ℕ) (len count : ℕ) (before : List Bool) (others : List ℕ) (l : count ≤ 64 * length others) (h : Holds new (len + 64 * length (take (count / 64) others)) (before ++ word_bits (take (count / 64) others))) where
  whole_long : length (take (count / 64) others) ≡ count / 64
  whole_long = length-take-le (count / 64) others (omega (arith, l))

  -- no bits are left
  pub put_all : count % 64 ≡ 0 → Holds new (len + count) (before ++ first_bits others count)
  put_all z =
      let n : len + 64 * length (take (count / 64) others) ≡ len + count = let w = whole_long in omega (arith, w, z) in
      subst (λ (q : ℕ). Holds new q (before ++ first_bits others count)) n (subst (λ (b : List Bool). Holds new (len + 64 * length (take (count / 64) others)) (before ++ b)) (whole_words others count z l) h)

  -- some are
  pub put_rest : (more : List ℕ) → 0 < count % 64
      → Holds more (len + 64 * (count / 64) + count % 64) (first_bits new (len + 64 * (count / 64)) ++ low_bits (count % 64) (get_or others (count / 64) 0 / 2 ^ (64 - count % 64)))
      → Holds more (len + count) (before ++ first_bits others count)
  put_rest more z m =
      let x = get_or others (count / 64) 0 in
      let v : first_bits new (len + 64 * (count / 64)) ≡ before ++ word_bits (take (count / 64) others) =
      ap (λ q. first_bits new (len + 64 * q)) (sym whole_long) ∙ view_is new (len + 64 * length (take (count / 64) others)) (before ++ word_bits (take (count / 64) others)) h in
      let e : first_bits new (len + 64 * (count / 64)) ++ low_bits (count % 64) (x / 2 ^ (64 - count % 64)) ≡ before ++ first_bits others count =
      ap (λ q. q ++ low_bits (count % 64) (x / 2 ^ (64 - count % 64))) v
      ∙ append_assoc before (word_bits (take (count / 64) others)) (low_bits (count % 64) (x / 2 ^ (64 - count % 64)))
      ∙ ap (λ q. before ++ q) (rest_of_words others count z l) in
      let n : len + 64 * (count / 64) + count % 64 ≡ len + count = omega arith in
      subst (λ (q : ℕ). Holds more q (before ++ first_bits others count)) n (subst (λ (b : List Bool). Holds more (len + 64 * (count / 64) + count % 64) b) e m)
