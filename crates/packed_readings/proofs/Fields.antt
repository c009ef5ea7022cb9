-- Bits, numbers of some bits, and several of them are read as they are.
use Rattle.std.proofs.Common.{arith, ◌≡◌, ℕ, zero, suc, ◌+◌, ◌*◌, ◌^◌, ◌<◌, ◌≤◌, ⊎_elim, Bool, true, false, List, [], ◌∷◌, ◌++◌, length, refl, sym, ap, subst, ◌∙◌, length-append, take, drop}
use Rattle.std.specs.Prelude.{nat_lt, if◌then◌else◌}
use Rattle.std.proofs.lemmas.Bool.{lt-ltb, le-ltb, cases_lt}
use Rattle.std.proofs.lemmas.List.{take_at, drop_at, take-append-drop, length-take-le, append-nil, length-drop}
use Rattle.bits.specs.Words.{low_bits}
use Rattle.packed_encodings.specs.proving.Words.{word_length, worth_word, worth_below}
use Rattle.packed_encodings.specs.Lengths.{Bits, Items, all_bits, worth}
use Rattle.packed_encodings.specs.Leaves.{singly}
use Rattle.decode_faults.specs.declared.refusal.Refusal.{Refusal}
use Rattle.decode_faults.specs.declared.refusal.Refusal.TheVariants.{Truncated}
use Rattle.packed_readings.specs.Outcome.{Outcome, found, stops, Judged, good, bad, bit_from, block_from, field_from, small_from, each_from, IsBit, IsField, IsSmall, IsReading, Then, IsJudged}
use Rattle.packed_readings.specs.Composing.{found_value, found_rest, stops_why, stops_where, not_both, not_either, next, judged, same}
use Rattle.packed_readings.specs.Counts.{EachHas, none_has, one_has, AreSeveral, several_bits, several_octets, octets_in, IsOctet}

-- ---- numbers as bits

pub worth_same : (a b : Bits) → length a ≡ length b → worth a ≡ worth b → a ≡ b
worth_same [] [] l e = refl
worth_same [] (y ∷ b) l e = absurd (omega arith)
worth_same (x ∷ a) [] l e = absurd (omega arith)
worth_same (true ∷ a) (true ∷ b) l e =
    let m : length a ≡ length b = omega (arith, l) in
    let p : 2 ^ length a ≡ 2 ^ length b = ap (λ q. 2 ^ q) m in
    ap (λ q. true ∷ q) (worth_same a b m (omega (arith, e, p)))
worth_same (false ∷ a) (false ∷ b) l e = ap (λ q. false ∷ q) (worth_same a b (omega (arith, l)) (omega (arith, e)))
worth_same (true ∷ a) (false ∷ b) l e =
    let p : 2 ^ length a ≡ 2 ^ length b = ap (λ q. 2 ^ q) (let m : length a ≡ length b = omega (arith, l) in m) in
    absurd (let h = worth_below b in omega (arith, e, p, h))
worth_same (false ∷ a) (true ∷ b) l e =
    let p : 2 ^ length a ≡ 2 ^ length b = ap (λ q. 2 ^ q) (let m : length a ≡ length b = omega (arith, l) in m) in
    absurd (let h = worth_below a in omega (arith, e, p, h))

pub word_worth : (b : Bits) → low_bits (length b) (worth b) ≡ b
word_worth b = worth_same (low_bits (length b) (worth b)) b (word_length (length b) (worth b)) (worth_word (length b) (worth b) (worth_below b))

-- ---- blocks of bits

pub if_true : {X : Type 0} (b : Bool) (x y : X) → b ≡ true → (if b then x else y) ≡ x
if_true b x y e = ap (λ t. if t then x else y) e

pub if_false : {X : Type 0} (b : Bool) (x y : X) → b ≡ false → (if b then x else y) ≡ y
if_false b x y e = ap (λ t. if t then x else y) e

pub block_short : {X : Type 0} (n : ℕ) (h : Bits → X) (b : Bits) → length b < n → block_from n h b ≡ stops Truncated b
block_short n h b l = if_true (nat_lt (length b) n) (stops Truncated b) (found (h (take n b)) (drop n b)) (lt-ltb (length b) n l)

pub block_full : {X : Type 0} (n : ℕ) (h : Bits → X) (b : Bits) → n ≤ length b → block_from n h b ≡ found (h (take n b)) (drop n b)
block_full n h b l = if_false (nat_lt (length b) n) (stops Truncated b) (found (h (take n b)) (drop n b)) (le-ltb (length b) n l)

-- a block at the front
pub block_found : {X : Type 0} (n : ℕ) (h : Bits → X) (x r : Bits) → length x ≡ n → block_from n h (x ++ r) ≡ found (h x) r
block_found n h x r l =
    block_full n h (x ++ r) (let e = length-append x r in omega (arith, e, l))
    ∙ ap (λ q. found (h q) (drop n (x ++ r))) (take_at x r n l) ∙ ap (λ q. found (h x) q) (drop_at x r n l)

module _ {X : Type 0} (P : X → Bits → Type 0) (n : ℕ) (h : Bits → X) where
  pub block : ((x : Bits) → length x ≡ n → P (h x) x) → ((v : X) (x : Bits) → P v x → (length x ≡ n) × (h x ≡ v)) → IsReading P (block_from n h)
  block to from = record {
    sound = λ b r v e. ⊎_elim (λ l. absurd (not_both (sym (block_short n h b l) ∙ e))) (λ l. reads b r v l (sym (block_full n h b l) ∙ e)) (cases_lt (length b) n);
    whole = λ v x r p. (let f = from v x p in block_found n h x r f.0 ∙ ap (λ q. found q r) f.1);
    firm = λ b r m e d t. absurd (⊎_elim (λ l. t (stops_why d (block_short n h b l))) (λ l. not_either (sym (block_full n h b l) ∙ d)) (cases_lt (length b) n));
    inside = λ b r e d. ⊎_elim (λ l. ([], stops_where (block_short n h b l) d)) (λ l. absurd (not_either (sym (block_full n h b l) ∙ d))) (cases_lt (length b) n);
  }
    where
      reads : (b r : Bits) (v : X) → n ≤ length b → found (h (take n b)) (drop n b) ≡ found v r → (x : Bits) × P v x × (b ≡ x ++ r)
      reads b r v l e = (
        take n b,
        subst (λ q. P q (take n b)) (found_value e) (to (take n b) (length-take-le n b l)),
        sym (take-append-drop n b) ∙ ap (λ q. take n b ++ q) (found_rest e),
      )

pub field : (n : ℕ) → IsReading (IsField n) (field_from n)
field n = block (IsField n) n worth
    (λ x l. record { fits = subst (λ q. worth x < 2 ^ q) l (worth_below x); is = sym (word_worth x) ∙ ap (λ q. low_bits q (worth x)) l })
    (λ v x p. (ap length p.is ∙ word_length n v, ap worth p.is ∙ worth_word n v p.fits))

pub bit : IsReading IsBit bit_from
bit = record {
  sound = sound;
  whole = λ v x r p. ap (λ q. bit_from (q ++ r)) p;
  firm = firm;
  inside = inside;
}
  where
    sound : (b r : Bits) (v : Bool) → bit_from b ≡ found v r → (x : Bits) × IsBit v x × (b ≡ x ++ r)
    sound [] r v e = absurd (not_both e)
    sound (x ∷ b) r v e = (v ∷ [], refl, ap (λ q. q ∷ b) (found_value e) ∙ ap (λ q. v ∷ q) (found_rest e))

    firm : (b r m : Bits) (e : Refusal) → bit_from b ≡ stops e r → (e ≡ Truncated → ⊥) → bit_from (b ++ m) ≡ stops e (r ++ m)
    firm [] r m e d t = absurd (t (stops_why d refl))
    firm (x ∷ b) r m e d t = absurd (not_either d)

    inside : (b r : Bits) (e : Refusal) → bit_from b ≡ stops e r → (x : Bits) × (b ≡ x ++ r)
    inside [] r e d = ([], stops_where refl d)
    inside (x ∷ b) r e d = absurd (not_either d)

-- nothing is read
pub nothing : {X : Type 0} (u : X) → IsReading (λ v x. (v ≡ u) × (x ≡ [])) (found u)
nothing u = record {
  sound = λ b r v e. ([], (sym (found_value e), refl), found_rest e);
  whole = λ v x r p. ap (λ q. found u (q ++ r)) p.1 ∙ ap (λ q. found q r) (sym p.0);
  firm = λ b r m e d t. absurd (not_either d);
  inside = λ b r e d. absurd (not_either d);
}

-- ---- a small number

abbrev zero_bit : Refusal → Bool → Judged Bool
zero_bit e = λ x. if x then bad e else good x

not_good : {X : Type 0} {e : Refusal} {v : X} → bad e ≡ good v → ⊥
not_good d = absurd (cc)

pub small : (e : Refusal) → IsReading IsSmall (small_from e)
small e = same to from (next (judged (zero_bit e) bit) (λ x. field 6))
  where
    zero_is : (x y : Bool) → zero_bit e x ≡ good y → x ≡ false
    zero_is true y d = absurd (not_good d)
    zero_is false y d = refl

    to : (v : ℕ) (x : Bits) → Then (IsJudged IsBit (zero_bit e)) (λ x. IsField 6) v x → IsSmall v x
    to v x t = record {
      fits = t.is_next.fits;
      is =
          t.whole ∙ ap (λ q. q ++ t.back) (t.is_first.is_read ∙ ap (λ q. q ∷ []) (zero_is t.is_first.read t.first t.is_first.judged))
          ∙ ap (λ q. false ∷ q) t.is_next.is;
    }

    from : (v : ℕ) (x : Bits) → IsSmall v x → Then (IsJudged IsBit (zero_bit e)) (λ x. IsField 6) v x
    from v x s = record {
      first = false;
      front = false ∷ [];
      back = low_bits 6 v;
      is_first = record { read = false; is_read = refl; judged = refl };
      is_next = record { fits = s.fits; is = refl };
      whole = s.is;
    }

-- ---- several

pub single_bits : (v : Bits) → EachHas IsBit v (singly v)
single_bits [] = none_has
single_bits (b ∷ v) = one_has refl (single_bits v)

single_all : (v : Bits) → all_bits (singly v) ≡ v
single_all [] = refl
single_all (b ∷ v) = ap (λ q. b ∷ q) (single_all v)

single_length : (v : Bits) → length (singly v) ≡ length v
single_length [] = refl
single_length (b ∷ v) = ap suc (single_length v)

pub singles : {v : Bits} {xs : Items} → EachHas IsBit v xs → xs ≡ singly v
singles none_has = refl
singles (one_has {v = b} {vs = v} p e) = step (singles e) ∙ ap (λ q. q ∷ singly v) p
  where
    step : {x : Bits} {xs ys : Items} → xs ≡ ys → x ∷ xs ≡ x ∷ ys
    step e = cc

pub bits_read : (n : ℕ) → IsReading (AreSeveral IsBit n) (several_bits n)
bits_read n = block (AreSeveral IsBit n) n (λ x. x)
    (λ x l. record { items = singly x; are = single_bits x; many = single_length x ∙ l; whole = sym (single_all x) })
    (λ v x p. (let e = singles p.are in (
      ap length (p.whole ∙ ap all_bits e ∙ single_all v) ∙ sym (single_length v) ∙ ap length (sym e) ∙ p.many,
      p.whole ∙ ap all_bits e ∙ single_all v,
    )))

pub word_of_block : (n : ℕ) (x : Bits) → length x ≡ n → low_bits n (worth x) ≡ x
word_of_block n x l = ap (λ q. low_bits q (worth x)) (sym l) ∙ word_worth x

-- the octets of this number of bits
octets_of : (n : ℕ) (x : Bits) → length x ≡ 8 * n → AreSeveral IsOctet n (octets_in n x) x
octets_of zero [] l = record { items = []; are = none_has; many = refl; whole = refl }
octets_of zero (b ∷ x) l = absurd (omega arith)
octets_of (suc n) x l =
    let f : length (take 8 x) ≡ 8 = length-take-le 8 x (omega (arith, l)) in
    let g : length (drop 8 x) ≡ 8 * n = (let h = length-drop 8 x in omega (arith, l, h)) in
    let t = octets_of n (drop 8 x) g in
    let w : low_bits 8 (worth (take 8 x)) ≡ take 8 x = word_of_block 8 (take 8 x) f in
    record {
      items = take 8 x ∷ t.items;
      are = one_has (record { fits = subst (λ q. worth (take 8 x) < 2 ^ q) f (worth_below (take 8 x)); is = sym w }) t.are;
      many = ap suc t.many;
      whole = sym (take-append-drop 8 x) ∙ ap (λ q. take 8 x ++ q) t.whole;
    }

octets_back : {vs : List ℕ} {xs : Items} → EachHas IsOctet vs xs → (length (all_bits xs) ≡ 8 * length xs) × (octets_in (length xs) (all_bits xs) ≡ vs)
octets_back none_has = (refl, refl)
octets_back (one_has {v = v} {x = x} {vs = vs} {xs = xs} p e) =
    let h = octets_back e in
    let l : length x ≡ 8 = ap length p.is ∙ word_length 8 v in
    let a : length (x ++ all_bits xs) ≡ length x + length (all_bits xs) = length-append x (all_bits xs) in
    let h0 = h.0 in (
      omega (arith, l, a, h0),
      ap (λ q. worth q ∷ octets_in (length xs) (drop 8 (x ++ all_bits xs))) (take_at x (all_bits xs) 8 l ∙ p.is)
          ∙ ap (λ q. q ∷ octets_in (length xs) (drop 8 (x ++ all_bits xs))) (worth_word 8 v p.fits)
          ∙ ap (λ q. v ∷ octets_in (length xs) q) (drop_at x (all_bits xs) 8 l)
          ∙ ap (λ q. v ∷ q) h.1,
    )

pub octets_read : (n : ℕ) → IsReading (AreSeveral IsOctet n) (several_octets n)
octets_read n = block (AreSeveral IsOctet n) (8 * n) (octets_in n)
    (λ x l. octets_of n x l)
    (λ v x p. (let h = octets_back p.are in (
      ap length p.whole ∙ h.0 ∙ ap (λ q. 8 * q) p.many,
      ap (octets_in n) p.whole ∙ ap (λ q. octets_in q (all_bits p.items)) (sym p.many) ∙ h.1,
    )))

module _ {X : Type 0} {P : X → Bits → Type 0} {f : Bits → Outcome X} (F : IsReading P f) where
  abbrev Tail : ℕ → X → List X → Bits → Type 0
  Tail n v = Then (AreSeveral P n) (λ vs w x. (w ≡ v ∷ vs) × (x ≡ []))

  no_items : (vs : List X) (x : Bits) → (vs ≡ []) × (x ≡ []) → AreSeveral P 0 vs x
  no_items vs x p = record { items = []; are = subst (λ q. EachHas P q []) (sym p.0) none_has; many = refl; whole = p.1 }

  items_none : {vs : List X} {xs : Items} → EachHas P vs xs → length xs ≡ 0 → (vs ≡ []) × (all_bits xs ≡ [])
  items_none none_has l = (refl, refl)
  items_none (one_has p e) l = absurd (omega (arith, l))

  to : (n : ℕ) (vs : List X) (x : Bits) → Then P (Tail n) vs x → AreSeveral P (suc n) vs x
  to n vs x t =
      let u = t.is_next in
      let s = u.is_first in
      record {
        items = t.front ∷ s.items;
        are = subst (λ q. EachHas P q (t.front ∷ s.items)) (sym u.is_next.0) (one_has t.is_first s.are);
        many = ap suc s.many;
        whole =
            t.whole ∙ ap (λ q. t.front ++ q) (u.whole ∙ ap (λ q. u.front ++ q) u.is_next.1 ∙ append-nil u.front ∙ s.whole);
      }

  from_items : (n : ℕ) {vs : List X} {xs : Items} (x : Bits) → EachHas P vs xs → length xs ≡ suc n → x ≡ all_bits xs → Then P (Tail n) vs x
  from_items n x none_has l w = absurd (omega (arith, l))
  from_items n x (one_has {v = v} {x = y} {vs = vs} {xs = xs} p e) l w = record {
    first = v;
    front = y;
    back = all_bits xs;
    is_first = p;
    is_next = record {
      first = vs;
      front = all_bits xs;
      back = [];
      is_first = record { items = xs; are = e; many = omega (arith, l); whole = refl };
      is_next = (refl, refl);
      whole = sym (append-nil (all_bits xs));
    };
    whole = w;
  }

  pub each : (n : ℕ) → IsReading (AreSeveral P n) (each_from f n)
  each zero = same no_items (λ vs x s. (let h = items_none s.are s.many in (h.0, s.whole ∙ h.1))) (nothing [])
  each (suc n) = same (to n) (λ vs x s. from_items n x s.are s.many s.whole) (next F (λ v. next (each n) (λ vs. nothing (v ∷ vs))))
