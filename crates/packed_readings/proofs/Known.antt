-- Characters whose bits were taken as one number.
use Rattle.std.proofs.Common.{arith, ◌≡◌, ℕ, suc, ◌+◌, ◌-◌, ◌*◌, ◌/◌, ◌%◌, ◌^◌, ◌<◌, ◌≤◌, ◌⊎◌, inl, inr, ⊎_elim, max, Bool, true, false, true≢false, nat_lt, List, ◌∷◌, ◌++◌, length, length-append, get_or, drop, refl, sym, ap, ◌∙◌, append_assoc}
use Rattle.std.specs.Prelude.{◌&&◌}
use Rattle.std.specs.Ordering.{nat_cmp, ord_max}
use Rattle.std.proofs.lemmas.Bool.{lt-ltb, le-ltb, cases_lt}
use Rattle.std.proofs.Math.Seq.{drop-cons, drop-length}
use Rattle.packed_encodings.specs.Computed.{all_below}
use Rattle.std.specs.Int.RustNames.{bit_and}
use Rattle.std.proofs.Math.Nat.{suc-mul}
use Rattle.std.proofs.lemmas.Nat.{pow_pos, mod_below}
use Rattle.std.proofs.lemmas.List.{drop_at}
use Rattle.bits.specs.Words.{low_bits}
use Rattle.packed_encodings.specs.Lengths.{Bits}
use Rattle.packed_encodings.specs.Leaves.{place_width}
use Rattle.decode_faults.specs.declared.refusal.Refusal.{Refusal}
use Rattle.packed_readings.specs.Outcome.{found, stops, onward, verdict, good, bad, field_from}
use Rattle.packed_readings.specs.Leaves.{character_of, character_from}
use Rattle.packed_readings.specs.proving.Progress.{Starts}
use Rattle.packed_encodings.specs.proving.Words.{word_length, worth_of_word, word_split, masked}
use Rattle.packed_readings.proofs.Fields.{word_of_block}
use Rattle.packed_readings.proofs.Steps.{field_taken}

word_mod : (w n : ℕ) → low_bits w (n % 2 ^ w) ≡ low_bits w n
word_mod w n = ap (low_bits w) (sym (worth_of_word w n)) ∙ word_of_block w (low_bits w n) (word_length w n)

-- ---- one character

pub enough : (w n : ℕ) (b : Bits) → Starts w n b → w ≤ length b
enough w n b s =
    let e = ap length s.is in
    let a : length (low_bits w n ++ s.rest) ≡ length (low_bits w n) + length s.rest = length-append (low_bits w n) s.rest in
    let k = word_length w n in
    omega (arith, e, a, k)

after_it : (w n : ℕ) (b : Bits) (s : Starts w n b) → drop w b ≡ s.rest
after_it w n b s = ap (drop w) s.is ∙ drop_at (low_bits w n) s.rest w (word_length w n)

abbrev low : ℕ → ℕ → ℕ
low w n = bit_and n (1 * 2 ^ w % 18446744073709551616 - 1)

number_taken : (w n : ℕ) (b : Bits) → w ≤ 8 → (s : Starts w n b) → field_from w b ≡ found (low w n) (drop w b)
number_taken w n b h s =
    field_taken w (n % 2 ^ w) b s.rest (s.is ∙ ap (λ q. q ++ s.rest) (sym (word_mod w n))) (mod_below n (2 ^ w) (pow_pos w))
    ∙ ap (λ q. found q s.rest) (sym (masked w n h))
    ∙ ap (λ q. found (low w n) q) (sym (after_it w n b s))

judged_so : (a : List ℕ) (w n : ℕ) (b : Bits) → w ≡ place_width (length a) → w ≤ 8 → Starts w n b → character_from a b ≡ verdict (character_of a (low w n)) b (drop w b)
judged_so a w n b e h s =
    ap (λ q. onward (field_from q b) (λ v r. verdict (character_of a v) b r)) (sym e)
    ∙ ap (λ q. onward q (λ v r. verdict (character_of a v) b r)) (number_taken w n b h s)

pub known_found : (a : List ℕ) (w n c : ℕ) (b new : Bits) → w ≡ place_width (length a) → w ≤ 8 → Starts w n b → character_of a (low w n) ≡ good c → new ≡ drop w b → character_from a b ≡ found c new
known_found a w n c b new e h s g d = judged_so a w n b e h s ∙ ap (λ q. verdict q b (drop w b)) g ∙ ap (λ q. found c q) (sym d)

pub known_stops : (a : List ℕ) (w n : ℕ) (f : Refusal) (b : Bits) → w ≡ place_width (length a) → w ≤ 8 → Starts w n b → character_of a (low w n) ≡ bad f → character_from a b ≡ stops f b
known_stops a w n f b e h s g = judged_so a w n b e h s ∙ ap (λ q. verdict q b (drop w b)) g

-- ---- one after the other

pub first_known : (count w n : ℕ) (b r : Bits) → b ≡ low_bits (count * w) n ++ r → Starts ((count - 0) * w) n b
first_known count w n b r e = record { rest = r; is = e ∙ ap (λ q. low_bits (q * w) n ++ r) (let k : count ≡ count - 0 = omega arith in k) }

module _ (count i w n : ℕ) (b : Bits) (l : i < count) (s : Starts ((count - i) * w) n b) where
  abbrev following : ℕ
  following = (count - 1 - i) * w

  many : w + following ≡ (count - i) * w
  many =
      let e : (count - i) * w ≡ suc (count - 1 - i) * w = ap (λ q. q * w) (let k : count - i ≡ suc (count - 1 - i) = omega (arith, l) in k) in
      let m : suc (count - 1 - i) * w ≡ (count - 1 - i) * w + w = suc-mul (count - 1 - i) w in
      omega (arith, e, m)

  whole : b ≡ low_bits w (n / 2 ^ following) ++ (low_bits following n ++ s.rest)
  whole = s.is ∙ ap (λ q. q ++ s.rest) (word_split w following ((count - i) * w) n many) ∙ append_assoc (low_bits w (n / 2 ^ following)) (low_bits following n) s.rest

  pub next_known : Starts w (n / 2 ^ following) b
  next_known = record { rest = low_bits following n ++ s.rest; is = whole }

  pub later_known : (new : Bits) → new ≡ drop w b → Starts ((count - (i + 1)) * w) n new
  unfolding next_known
  later_known new d = record {
    rest = s.rest;
    is =
        d ∙ after_it w (n / 2 ^ following) b next_known
        ∙ ap (λ q. low_bits (q * w) n ++ s.rest) (let k : count - 1 - i ≡ count - (i + 1) = omega (arith, l) in k);
  }

-- ---- the greatest code

pub starts_at_none : (n : ℕ) (cs : List ℕ) → 0 < n → all_below n cs ≡ (nat_lt 0 n && all_below n cs)
starts_at_none n cs l = sym (ap (λ q. q && all_below n cs) (lt-ltb 0 n l))

both_below : (n g c m : ℕ) (r : Bool) → g ≤ m → c ≤ m → (m ≡ g) ⊎ (m ≡ c) → (nat_lt g n && (nat_lt c n && r)) ≡ (nat_lt m n && r)
both_below n g c m r a b e = ⊎_elim (λ l. below l) (λ l. above l) (cases_lt m n)
  where
    below : m < n → (nat_lt g n && (nat_lt c n && r)) ≡ (nat_lt m n && r)
    below l =
        ap (λ q. q && (nat_lt c n && r)) (lt-ltb g n (omega (arith, a, l)))
        ∙ ap (λ q. q && r) (lt-ltb c n (omega (arith, b, l)))
        ∙ sym (ap (λ q. q && r) (lt-ltb m n l))

    none : (x y : Bool) → (x ≡ false) ⊎ (y ≡ false) → (x && (y && r)) ≡ false
    none false y e = refl
    none true false e = refl
    none true true e = ⊎_elim (λ f. absurd (true≢false f)) (λ f. absurd (true≢false f)) e

    above : n ≤ m → (nat_lt g n && (nat_lt c n && r)) ≡ (nat_lt m n && r)
    above l =
        none (nat_lt g n) (nat_lt c n) (⊎_elim (λ f. inl (le-ltb g n (omega (arith, f, l)))) (λ f. inr (le-ltb c n (omega (arith, f, l)))) e)
        ∙ sym (ap (λ q. q && r) (le-ltb m n l))

greater : (g c : ℕ) → (max g c ≡ g) ⊎ (max g c ≡ c)
greater g c = ⊎_elim (λ l. inr (omega (arith, l))) (λ l. inl (omega (arith, l))) (cases_lt g c)

is_max : (a b : ℕ) → ord_max nat_cmp a b ≡ max a b
is_max a b = grind arith

pub one_more : (n g i m : ℕ) (cs : List ℕ) → m ≡ ord_max nat_cmp g (get_or cs i 0) → i < length cs → all_below n cs ≡ (nat_lt g n && all_below n (drop i cs)) → all_below n cs ≡ (nat_lt m n && all_below n (drop (i + 1) cs))
one_more n g i m cs f l e =
    let c : ℕ = get_or cs i 0 in
    let d : drop i cs ≡ c ∷ drop (i + 1) cs = drop-cons cs i 0 l ∙ ap (λ q. c ∷ drop q cs) (let k : suc i ≡ i + 1 = omega arith in k) in
    e ∙ ap (λ q. nat_lt g n && all_below n q) d
    ∙ both_below n g c (max g c) (all_below n (drop (i + 1) cs)) (omega arith) (omega arith) (greater g c)
    ∙ ap (λ q. nat_lt q n && all_below n (drop (i + 1) cs)) (sym (f ∙ is_max g c))

pub none_more : (n g i : ℕ) (cs : List ℕ) → i ≡ length cs → all_below n cs ≡ (nat_lt g n && all_below n (drop i cs)) → all_below n cs ≡ nat_lt g n
none_more n g i cs l e = e ∙ ap (λ q. nat_lt g n && all_below n q) (ap (λ q. drop q cs) l ∙ drop-length cs) ∙ and_true (nat_lt g n)
  where
    and_true : (b : Bool) → (b && true) ≡ b
    and_true true = refl
    and_true false = refl
