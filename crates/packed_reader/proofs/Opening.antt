-- Open types, and bits that hold an encoding alone.
use Rattle.std.proofs.Common.{arith, ◌≡◌, ℕ, zero, suc, ◌*◌, ◌-◌, ◌<◌, ◌≤◌, ◌==◌, ◌&&◌, Bool, true, false, [], ◌∷◌, ◌++◌, length, map, replicate, refl, sym, ap, subst, ◌∙◌, append_assoc, length-append, append-nil}
use Rattle.std.specs.Prelude.{if◌then◌else◌, nat_lt}
use Rattle.std.proofs.lemmas.List.{length-replicate}
use Rattle.std.proofs.lemmas.Bool.{lt-ltb, ltb-true, eqb-true, ne_eqb}
use Rattle.std.specs.Int.Digits.{AllBelowBase}
use Rattle.bits.specs.Words.{low_bits, octet_bits}
use Rattle.encodings.specs.Header.{Octets}
use Rattle.packed_encodings.specs.Lengths.{Bits, Items, all_bits, Counted, short, long, fragment, CountedOctets}
use Rattle.packed_encodings.specs.Padding.{Padded, padded_none, padded, Open, open_type}
use Rattle.packed_encodings.specs.proving.Tests.{both_true, true_both}
use Rattle.decode_faults.specs.declared.refusal.Refusal.TheVariants as why
use Rattle.packed_readings.specs.Outcome.{found, IsReading, Then}
use Rattle.packed_readings.specs.Counts.{octets_from}
use Rattle.packed_reader.specs.Readings.{Fault, Reading, read, refused, stop, next, plain, IsExact}
use Rattle.packed_readings.specs.Composing as composing
use Rattle.packed_reader.specs.Structures.{all_clear, is_filling, filled_from, before_rest, at_least_one, contents_from, open_from}
use Rattle.packed_reader.proofs.Exact.{not_both, one_value, one_fault, same_fault, same_value, further, in_three, plain_exact}

pub not_true : false ≡ true → ⊥
not_true e = absurd (cc)

-- ---- zero bits

clear_zeros : (z : Bits) → all_clear z ≡ true → z ≡ replicate (length z) false
clear_zeros [] e = refl
clear_zeros (false ∷ z) e = ap (λ q. false ∷ q) (clear_zeros z e)
clear_zeros (true ∷ z) e = absurd (not_true e)

zeros_clear : (n : ℕ) → all_clear (replicate n false) ≡ true
zeros_clear zero = refl
zeros_clear (suc n) = zeros_clear n

-- the number of octets, by that of their bits
pub octets_length : (o : Octets) → length (octet_bits o) ≡ 8 * length o
octets_length [] = refl
octets_length (x ∷ o) = let e = octets_length o in let l = length-append (low_bits 8 x) (octet_bits o) in omega arith

module _ (front : (o r : Octets) (a b p q : Bits) → CountedOctets o a → CountedOctets r b → a ++ p ≡ b ++ q → (o ≡ r) × (p ≡ q)) where
  -- an octet of eight zero bits
  one_zero : (x : ℕ) → AllBelowBase 256 (x ∷ []) → low_bits 8 x ≡ low_bits 8 0 → (x ∷ []) ≡ (0 ∷ [])
  one_zero x h e =
      let counted : (y : ℕ) → AllBelowBase 256 (y ∷ []) → CountedOctets (y ∷ []) (false ∷ (low_bits 7 1 ++ (low_bits 8 y ++ [])))
      = λ y i. record { octets = i; counted = short (omega arith) } in
      (front (x ∷ []) (0 ∷ []) (false ∷ (low_bits 7 1 ++ (low_bits 8 x ++ []))) (false ∷ (low_bits 7 1 ++ (low_bits 8 0 ++ []))) [] [] (counted x h) (counted 0 (omega arith, tt)) (ap (λ q. (false ∷ (low_bits 7 1 ++ (q ++ []))) ++ []) e)).0

  pub filling_padded : (x z : Bits) (o : Octets) → AllBelowBase 256 o → octet_bits o ≡ x ++ z → is_filling (length x) z ≡ true → Padded x o
  filling_padded [] z [] h e f =
      let p = true_both (all_clear z) (length z == 8) f in
      let k = eqb-true (length z) 8 p.1 in
      let l : 0 ≡ length z = ap length e in
      absurd (omega arith)
  filling_padded [] z (a ∷ []) h e f =
      let p = true_both (all_clear z) (length z == 8) f in
      let w : low_bits 8 a ≡ low_bits 8 0 = sym (append-nil (low_bits 8 a)) ∙ e ∙ clear_zeros z p.0 ∙ ap (λ n. replicate n false) (eqb-true (length z) 8 p.1) in
      subst (λ q. Padded [] q) (sym (one_zero a h w)) padded_none
  filling_padded [] z (a ∷ b ∷ o) h e f =
      let p = true_both (all_clear z) (length z == 8) f in
      let k = eqb-true (length z) 8 p.1 in
      let l : length (octet_bits (a ∷ b ∷ o)) ≡ length z = ap length e in
      let m = octets_length (a ∷ b ∷ o) in
      absurd (omega arith)
  filling_padded (c ∷ x) z o h e f =
      let p = true_both (all_clear z) (nat_lt (length z) 8) (sym (ap (λ q. all_clear z && (if q then length z == 8 else nat_lt (length z) 8)) (ne_eqb (length (c ∷ x)) 0 (λ n. omega arith))) ∙ f) in
      padded (length z) (omega arith) (ltb-true (length z) 8 p.1) h (e ∙ ap (λ q. (c ∷ x) ++ q) (clear_zeros z p.0))

-- the bits behind an encoding
pub record Filling (x : Bits) (o : Octets) : Type 0 where
  pub zeros : Bits
  pub whole : octet_bits o ≡ x ++ zeros
  pub fill : is_filling (length x) zeros ≡ true

pub padded_filling : {x : Bits} {o : Octets} → Padded x o → Filling x o
padded_filling padded_none = record { zeros = octet_bits (0 ∷ []); whole = refl; fill = refl }
padded_filling (padded {b = b} n some few below e) =
    let l = length-replicate n false in
    record {
      zeros = replicate n false;
      whole = e;
      fill = both_true (all_clear (replicate n false)) (if length b == 0 then length (replicate n false) == 8 else nat_lt (length (replicate n false)) 8) (zeros_clear n)
          (ap (λ q. if q then length (replicate n false) == 8 else nat_lt (length (replicate n false)) 8) (ne_eqb (length b) 0 (λ h. omega arith)) ∙ lt-ltb (length (replicate n false)) 8 (omega arith));
    }

pub used_length : (x z : Bits) → length (x ++ z) - length z ≡ length x
used_length x z = let l = length-append x z in omega arith

-- ---- bits that hold an encoding alone

-- octets hold what P says, filled
pub record Held {X : Type 0} (P : X → Bits → Type 0) (o : Octets) (v : X) : Type 0 where
  pub inside : Bits
  pub is : P v inside
  pub is_padded : Padded inside o

-- an open type holds it
pub record Opened {X : Type 0} (P : X → Bits → Type 0) (v : X) (y : Bits) : Type 0 where
  pub inside : Bits
  pub is : P v inside
  pub is_open : Open inside y

-- bits before other bits
abbrev pub Before : Bits → Bits → Type 0
Before b r = (x : Bits) × (b ≡ x ++ r)

module _ (front : (o r : Octets) (a b p q : Bits) → CountedOctets o a → CountedOctets r b → a ++ p ≡ b ++ q → (o ≡ r) × (p ≡ q))
    {X : Type 0} {P : X → Bits → Type 0} {f : Bits → Reading X} (F : IsExact P f) where
  by_filling : (t : Bool) (v w : X) (z r : Bits) → (if t then read v [] else stop why.Padding z) ≡ read w r → (t ≡ true) × (v ≡ w) × (r ≡ [])
  by_filling true v w z r e = let i = one_value e in (refl, i.0, sym i.1)
  by_filling false v w z r e = absurd (not_both (sym e))

  held_by : (o : Octets) (v : X) (r : Bits) (g : Reading X) → AllBelowBase 256 o → f (octet_bits o) ≡ g → next g (λ v z. if is_filling (length (octet_bits o) - length z) z then read v [] else stop why.Padding z) ≡ read v r → Held P o v × (r ≡ [])
  held_by o v r (read w z) h e k =
      let i = by_filling (is_filling (length (octet_bits o) - length z) z) w v z r k in
      let p = F.sound (octet_bits o) z w e in
      let u : length (octet_bits o) - length z ≡ length p.0 = ap (λ q. length q - length z) p.2 ∙ used_length p.0 z in
      (record { inside = p.0; is = subst (λ q. P q p.0) i.1 p.1; is_padded = filling_padded front p.0 z o h p.2 (ap (λ q. is_filling q z) (sym u) ∙ i.0) }, i.2)
  held_by o v r (refused d z) h e k = absurd (not_both (sym k))

  pub filled_sound : (o : Octets) (v : X) (r : Bits) → AllBelowBase 256 o → filled_from f (octet_bits o) ≡ read v r → Held P o v × (r ≡ [])
  filled_sound o v r h e = held_by o v r (f (octet_bits o)) h refl e

  pub filled_whole : (o : Octets) (v : X) → Held P o v → filled_from f (octet_bits o) ≡ read v []
  filled_whole o v h =
      let p = padded_filling h.is_padded in
      let e : f (octet_bits o) ≡ read v p.zeros = ap f p.whole ∙ F.whole v h.inside p.zeros h.is in
      let u : length (octet_bits o) - length p.zeros ≡ length h.inside = ap (λ q. length q - length p.zeros) p.whole ∙ used_length h.inside p.zeros in
      ap (λ q. next q (λ v z. if is_filling (length (octet_bits o) - length z) z then read v [] else stop why.Padding z)) e
      ∙ ap (λ q. if is_filling q p.zeros then read v [] else stop why.Padding p.zeros) u
      ∙ ap (λ q. if q then read v [] else stop why.Padding p.zeros) p.fill

  refused_by : (t : Bool) (v : X) (z r : Bits) (d : Fault) → (if t then read v [] else stop why.Padding z) ≡ refused d r → z ≡ r
  refused_by true v z r d e = absurd (not_both e)
  refused_by false v z r d e = (one_fault e).1

  filled_place : (b r : Bits) (d : Fault) (g : Reading X) → f b ≡ g → next g (λ v z. if is_filling (length b - length z) z then read v [] else stop why.Padding z) ≡ refused d r → Before b r
  filled_place b r d (read v z) e k =
      let p = F.sound b z v e in
      (p.0, p.2 ∙ ap (λ q. p.0 ++ q) (refused_by (is_filling (length b - length z) z) v z r d k))
  filled_place b r d (refused c z) e k = let i = one_fault k in F.inside b r d (e ∙ same_fault i.0 i.1)

  pub filled_inside : (b r : Bits) (d : Fault) → filled_from f b ≡ refused d r → Before b r
  filled_inside b r d e = filled_place b r d (f b) refl e

-- ---- open types

-- octets after their number, of which there is at least one
pub record AreContents (o : Octets) (b : Bits) : Type 0 where
  pub counted : CountedOctets o b
  pub some : 1 ≤ length o

-- the same octets, and no bits
record AreThese (o r : Octets) (z : Bits) : Type 0 where
  same : r ≡ o
  none : z ≡ []
  some : 1 ≤ length o

some_octets : (o : Octets) → IsReading (AreThese o) (at_least_one o)
some_octets [] = record {
  sound = λ b r v e. absurd (composing.not_both e);
  whole = λ v x r p. absurd (let s = p.some in omega (arith, s));
  firm = λ b r m e h n. absurd (n (sym (composing.stops_why refl h)));
  inside = λ b r e h. ([], composing.stops_where refl h);
}
some_octets (x ∷ o) = record {
  sound = λ b r v e. ([], record { same = sym (composing.found_value e); none = refl; some = omega arith }, composing.found_rest e);
  whole = λ v y r p. ap (λ q. found (x ∷ o) (q ++ r)) p.none ∙ ap (λ q. found q r) (sym p.same);
  firm = λ b r m e h n. absurd (composing.not_either h);
  inside = λ b r e h. absurd (composing.not_either h);
}

-- the octets of an open type are read
pub contents_read : IsReading CountedOctets octets_from → IsReading AreContents contents_from
contents_read octets = composing.same to from (composing.next octets some_octets)
  where
    to : (o : Octets) (b : Bits) → Then CountedOctets AreThese o b → AreContents o b
    to o b t =
        let n = t.is_next in
        let e : b ≡ t.front = t.whole ∙ ap (λ q. t.front ++ q) n.none ∙ append-nil t.front in
        record {
          counted = subst (λ q. CountedOctets q b) (sym n.same) (subst (λ q. CountedOctets t.first q) (sym e) t.is_first);
          some = subst (λ q. 1 ≤ length q) (sym n.same) n.some;
        }

    from : (o : Octets) (b : Bits) → AreContents o b → Then CountedOctets AreThese o b
    from o b a = record {
      first = o;
      front = b;
      back = [];
      is_first = a.counted;
      is_next = record { same = refl; none = refl; some = a.some };
      whole = sym (append-nil b);
    }

-- what fills octets has one at least
pub some_filled : {x : Bits} {o : Octets} → Padded x o → 1 ≤ length o
some_filled padded_none = omega arith
some_filled (padded {b = x} {o = []} n some few h e) = absurd (let a = ap length e in let l = length-append x (replicate n false) in omega arith)
some_filled (padded {o = y ∷ o} n some few h e) = omega arith

-- octets of one number stand together
pub all_octets : (o : Octets) → all_bits (map (low_bits 8) o) ≡ octet_bits o
all_octets [] = refl
all_octets (x ∷ o) = ap (λ q. low_bits 8 x ++ q) (all_octets o)

as_many : (o : Octets) → length (map (low_bits 8) o) ≡ length o
as_many [] = refl
as_many (x ∷ o) = ap suc (as_many o)

together_by : (o : Octets) (is : Items) {y : Bits} → is ≡ map (low_bits 8) o → length o < 16384 → Counted is y → (h : Bits) × (y ≡ h ++ octet_bits o)
together_by o xs e l (short k) = (false ∷ low_bits 7 (length xs), ap (λ q. false ∷ (low_bits 7 (length xs) ++ q)) (ap all_bits e ∙ all_octets o))
together_by o xs e l (long k m) = (true ∷ (false ∷ low_bits 14 (length xs)), ap (λ q. true ∷ (false ∷ (low_bits 14 (length xs) ++ q))) (ap all_bits e ∙ all_octets o))
together_by o is e l (fragment m xs ys some few many great c) =
    let k : length (xs ++ ys) ≡ length o = ap length e ∙ as_many o in
    let j = length-append xs ys in
    absurd (omega arith)

pub together : (o : Octets) {y : Bits} → length o < 16384 → CountedOctets o y → (h : Bits) × (y ≡ h ++ octet_bits o)
together o l c = together_by o (map (low_bits 8) o) refl l c.counted

module _ (front : (o r : Octets) (a b p q : Bits) → CountedOctets o a → CountedOctets r b → a ++ p ≡ b ++ q → (o ≡ r) × (p ≡ q))
    (octets : IsReading CountedOctets octets_from)
    {X : Type 0} {P : X → Bits → Type 0} {f : Bits → Reading X} (F : IsExact P f) where
  Octets' : IsExact AreContents (λ b. plain (contents_from b))
  Octets' = plain_exact (contents_read octets)

  read_before_rest : (w : Bool) (g : Reading X) (r s : Bits) (v : X) → before_rest w g r ≡ read v s → (z : Bits) × (g ≡ read v z) × (r ≡ s)
  read_before_rest w (read u z) r s v e = let i = one_value e in (z, same_value i.0 refl, i.1)
  read_before_rest w (refused d z) r s v e = absurd (not_both (sym e))

  open_sound : (b s : Bits) (v : X) (g : Reading Octets) → plain (contents_from b) ≡ g → next g (λ o r. before_rest (nat_lt (length o) 16384) (filled_from f (octet_bits o)) r) ≡ read v s → (y : Bits) × Opened P v y × (b ≡ y ++ s)
  open_sound b s v (read o r) h e =
      let c = Octets'.sound b r o h in
      let k = read_before_rest (nat_lt (length o) 16384) (filled_from f (octet_bits o)) r s v e in
      let held = (filled_sound front F o v k.0 c.1.counted.octets k.1).0 in
      (c.0, record { inside = held.inside; is = held.is; is_open = open_type held.is_padded c.1.counted }, c.2 ∙ ap (λ q. c.0 ++ q) k.2)
  open_sound b s v (refused d r) h e = absurd (not_both (sym e))

  open_whole : (v : X) (y r x : Bits) → P v x → Open x y → open_from f (y ++ r) ≡ read v r
  open_whole v y r x p (open_type {o = o} a c) =
      ap (λ q. next q (λ o r. before_rest (nat_lt (length o) 16384) (filled_from f (octet_bits o)) r)) (Octets'.whole o y r (record { counted = c; some = some_filled a }))
      ∙ ap (λ q. before_rest (nat_lt (length o) 16384) q r) (filled_whole front F o v (record { inside = x; is = p; is_padded = a }))

  before_rest_firm : (w : Bool) (g : Reading X) (r s m : Bits) (d : Fault) → before_rest w g r ≡ refused d s → before_rest w g (r ++ m) ≡ refused d (s ++ m)
  before_rest_firm w (read u z) r s m d e = absurd (not_both e)
  before_rest_firm true (refused c z) r s m d e = let i = one_fault e in same_fault i.0 (sym (append_assoc z r m) ∙ ap (λ q. q ++ m) i.1)
  before_rest_firm false (refused c z) r s m d e = let i = one_fault e in same_fault i.0 (ap (λ q. q ++ m) i.1)

  open_firm : (b s m : Bits) (d : Fault) (g : Reading Octets) → plain (contents_from b) ≡ g → next g (λ o r. before_rest (nat_lt (length o) 16384) (filled_from f (octet_bits o)) r) ≡ refused d s → (d.why ≡ why.Truncated → ⊥) → open_from f (b ++ m) ≡ refused d (s ++ m)
  open_firm b s m d (read o r) h e n =
      let c = Octets'.sound b r o h in
      ap (open_from f) (further c.0 r m c.2)
      ∙ ap (λ q. next q (λ o r. before_rest (nat_lt (length o) 16384) (filled_from f (octet_bits o)) r)) (Octets'.whole o c.0 (r ++ m) c.1)
      ∙ before_rest_firm (nat_lt (length o) 16384) (filled_from f (octet_bits o)) r s m d e
  open_firm b s m d (refused c r) h e n =
      let i = one_fault e in
      ap (λ q. next q (λ o r. before_rest (nat_lt (length o) 16384) (filled_from f (octet_bits o)) r)) (Octets'.firm b s m d (h ∙ same_fault i.0 i.1) n)

  before_rest_place : (w : Bool) (o : Octets) (b y r s : Bits) (d : Fault) (g : Reading X) → nat_lt (length o) 16384 ≡ w → CountedOctets o y → b ≡ y ++ r → filled_from f (octet_bits o) ≡ g → before_rest w g r ≡ refused d s → Before b s
  before_rest_place w o b y r s d (read u z) t c i h e = absurd (not_both e)
  before_rest_place true o b y r s d (refused k z) t c i h e =
      let q = together o (ltb-true (length o) 16384 t) c in
      let p = filled_inside front F (octet_bits o) z k h in
      let j : y ≡ (q.0 ++ p.0) ++ z = in_three q.0 p.0 z q.1 p.1 in
      (q.0 ++ p.0, i ∙ ap (λ x. x ++ r) j ∙ append_assoc (q.0 ++ p.0) z r ∙ ap (λ x. (q.0 ++ p.0) ++ x) (one_fault e).1)
  before_rest_place false o b y r s d (refused k z) t c i h e = (y, i ∙ ap (λ x. y ++ x) (one_fault e).1)

  open_place : (b s : Bits) (d : Fault) (g : Reading Octets) → plain (contents_from b) ≡ g → next g (λ o r. before_rest (nat_lt (length o) 16384) (filled_from f (octet_bits o)) r) ≡ refused d s → Before b s
  open_place b s d (read o r) h e =
      let c = Octets'.sound b r o h in
      before_rest_place (nat_lt (length o) 16384) o b c.0 r s d (filled_from f (octet_bits o)) refl c.1.counted c.2 refl e
  open_place b s d (refused c r) h e = let i = one_fault e in Octets'.inside b s d (h ∙ same_fault i.0 i.1)

  pub open_exact : IsExact (Opened P) (open_from f)
  open_exact = record {
    sound = λ b s v e. open_sound b s v (plain (contents_from b)) refl e;
    whole = λ v y r p. open_whole v y r p.inside p.is p.is_open;
    firm = λ b s m d h n. open_firm b s m d (plain (contents_from b)) refl h n;
    inside = λ b s d h. open_place b s d (plain (contents_from b)) refl h;
  }
