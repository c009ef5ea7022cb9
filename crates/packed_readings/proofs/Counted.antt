-- Items after their number, as calls read them.
use Rattle.std.proofs.Common.{arith, ◌≡◌, ℕ, zero, suc, ◌+◌, ◌*◌, ◌<◌, ◌≤◌, Bool, true, false, List, [], ◌++◌, length, refl, sym, ap, subst, ◌∙◌, length-append}
use Rattle.std.specs.Prelude.{◌==◌, cond, Option}
use Rattle.packed_encodings.specs.Lengths.{Bits}
use Rattle.decode_faults.specs.declared.refusal.Refusal.{Refusal}
use Rattle.packed_readings.specs.declared.refusal.PackedFault.{PackedFault}
use Rattle.packed_readings.specs.declared.refusal.PackedFault.TheVariants as faults
use Rattle.packed_readings.specs.declared.strings.Next.{Next}
use Rattle.packed_readings.specs.Outcome.{Outcome, found, stops, onward, Judged, good, bad, verdict, judging, IsFault}
use Rattle.packed_readings.specs.Composing.{found_rest, not_both}
use Rattle.packed_readings.specs.declared.strings.Form.{Form}
use Rattle.packed_readings.specs.declared.strings.Form.TheVariants as forms
use Rattle.packed_readings.specs.Counts.{Count, last, part, StatedCount, stated_count, canonical_count, count_from, IsCount, short_count, long_count, part_count, Several, total, items_of, parts_from, counted_from}
use Rattle.packed_readings.specs.Code.{Gained, IsFew, IsStep, several_of}
use Rattle.packed_readings.proofs.Fields.{octets_read, each}
use Rattle.packed_readings.proofs.Items.{a_character}
use Rattle.packed_readings.proofs.Parts.{count}

few_of : {full : Bool} {c : Count} {h : Bits} → IsCount full c h → IsFew c
few_of (short_count l) = omega (arith, l)
few_of (long_count k l) = l
few_of (part_count k l) = l

pub few_count : (full : Bool) (b r : Bits) (c : Count) → count_from full b ≡ found c r → IsFew c
few_count full b r c e = few_of ((count full).sound b r c e).1

shorter : (full : Bool) (b r : Bits) (c : Count) → count_from full b ≡ found c r → length r < length b
shorter full b r c e =
    let s = (count full).sound b r c e in
    let l = ap length s.2 in
    let a : length (s.0 ++ r) ≡ length s.0 + length r = length-append s.0 r in
    let o = some s.1 in
    omega (arith, l, a, o)
  where
    some : {full : Bool} {c : Count} {h : Bits} → IsCount full c h → 1 ≤ length h
    some (short_count l) = omega arith
    some (long_count k l) = omega arith
    some (part_count k l) = omega arith

pub few_of_stated : (full : Bool) (b r : Bits) (t : StatedCount) (c : Count) → stated_count b ≡ found t r → canonical_count full t ≡ good c → IsFew c
few_of_stated full b r t c e f = few_count full b r c (ap (λ o. onward o (λ v r. verdict (canonical_count full v) b r)) e ∙ ap (λ k. verdict k b r) f)

-- ---- items of one number

module _ {X : Type 0} (test : ℕ → Option Refusal) (items : Several X) (full : Bool) (before : List X) where
  abbrev Stated : Bits → Outcome Count
  Stated = judging (total test (length before)) (count_from full)

  abbrev Step : ℕ → Bits → Outcome (List X)
  Step k b = parts_from (suc k) test items full before b

  pub step_last : (b m r : Bits) (n : ℕ) (after : List X) (k : ℕ) → Stated b ≡ found (last n) m → Gained (items n m) before after r → Step k b ≡ found after r
  step_last b m r n after k e g =
      ap (λ o. onward o (λ c r. items_of items before c r (λ f xs s. parts_from k test items f xs s))) e
      ∙ ap (λ o. onward o (λ xs s. found (before ++ xs) s)) g.is ∙ ap (λ q. found q r) (sym g.joined)

  pub step_part : (b m r : Bits) (n : ℕ) (after : List X) (k : ℕ) → Stated b ≡ found (part n) m → Gained (items (16384 * n) m) before after r → Step k b ≡ parts_from k test items (n == 4) after r
  step_part b m r n after k e g =
      ap (λ o. onward o (λ c r. items_of items before c r (λ f xs s. parts_from k test items f xs s))) e
      ∙ ap (λ o. onward o (λ xs s. parts_from k test items (n == 4) (before ++ xs) s)) g.is
      ∙ ap (λ q. parts_from k test items (n == 4) q r) (sym g.joined)

  pub stop_last : (b m r : Bits) (n : ℕ) (e : PackedFault) (k : ℕ) → Stated b ≡ found (last n) m → IsFault (items n m) e r → IsFault (Step k b) e r
  stop_last b m r n faults.Memory k e d = tt
  stop_last b m r n (faults.Refused f) k e d =
      ap (λ o. onward o (λ c r. items_of items before c r (λ f xs s. parts_from k test items f xs s))) e
      ∙ ap (λ o. onward o (λ xs s. found (before ++ xs) s)) d

  pub stop_part : (b m r : Bits) (n : ℕ) (e : PackedFault) (k : ℕ) → Stated b ≡ found (part n) m → IsFault (items (16384 * n) m) e r → IsFault (Step k b) e r
  stop_part b m r n faults.Memory k e d = tt
  stop_part b m r n (faults.Refused f) k e d =
      ap (λ o. onward o (λ c r. items_of items before c r (λ f xs s. parts_from k test items f xs s))) e
      ∙ ap (λ o. onward o (λ xs s. parts_from k test items (n == 4) (before ++ xs) s)) d

  pub stop_count : (b r : Bits) (e : Refusal) (k : ℕ) → Stated b ≡ stops e r → Step k b ≡ stops e r
  stop_count b r e k d = ap (λ o. onward o (λ c r. items_of items before c r (λ f xs s. parts_from k test items f xs s))) d

  pub stated_shorter : (b m : Bits) (c : Count) → Stated b ≡ found c m → length m < length b
  stated_shorter b m c e = by (count_from full b) refl e
    where
      by : (o : Outcome Count) → count_from full b ≡ o → onward o (λ v r. verdict (total test (length before) v) b r) ≡ found c m → length m < length b
      by (found d s) f e = subst (λ q. length q < length b) (rest_is (total test (length before) d) e) (shorter full b s d f)
        where
          rest_is : (j : Judged Count) → verdict j b s ≡ found c m → s ≡ m
          rest_is (good v) e = found_rest e
          rest_is (bad f) e = absurd (not_both e)
      by (stops f s) g e = absurd (not_both e)

  -- the same if the number is known by an equation, and how many were before too
  pub stated_at : (d : ℕ) (b m : Bits) (c e : Count) → d ≡ length before → c ≡ e → judging (total test d) (count_from full) b ≡ found c m → Stated b ≡ found e m
  stated_at d b m c e f g h = subst (λ q. judging (total test q) (count_from full) b ≡ found e m) f (subst (λ q. judging (total test d) (count_from full) b ≡ found q m) g h)

  pub stops_at : (d : ℕ) (b r : Bits) (e : Refusal) → d ≡ length before → judging (total test d) (count_from full) b ≡ stops e r → Stated b ≡ stops e r
  stops_at d b r e f h = subst (λ q. judging (total test q) (count_from full) b ≡ stops e r) f h

-- no more bits are left after items
pub items_shorter : (form : Form) (n : ℕ) (b r : Bits) (before after : List ℕ) → Gained (several_of form n b) before after r → length r ≤ length b
items_shorter forms.Octets n b r before after g = by ((octets_read n).sound b r g.values g.is).0 ((octets_read n).sound b r g.values g.is).2
  where
    by : (x : Bits) → b ≡ x ++ r → length r ≤ length b
    by x e = let l = ap length e in let a : length (x ++ r) ≡ length x + length r = length-append x r in omega (arith, l, a)
items_shorter (forms.Characters s) n b r before after g = by ((each (a_character s.now) n).sound b r g.values g.is).0 ((each (a_character s.now) n).sound b r g.values g.is).2
  where
    by : (x : Bits) → b ≡ x ++ r → length r ≤ length b
    by x e = let l = ap length e in let a : length (x ++ r) ≡ length x + length r = length-append x r in omega (arith, l, a)

-- ---- number after number

-- what is known of the whole, whether more comes or not
abbrev pub IsSoFar : {X : Type 0} → (ℕ → Option Refusal) → Several X → Outcome (List X) → (more full : Bool) → (before : List X) → Bits → Type 0
IsSoFar test items whole true full before b = (k : ℕ) × (length b < k) × (whole ≡ parts_from k test items full before b)
IsSoFar test items whole false full before b = whole ≡ found before b

module _ {X : Type 0} (test : ℕ → Option Refusal) (items : Several X) where
  pub so_far_first : (b : Bits) (before : List X) → before ≡ [] → IsSoFar test items (counted_from test items b) true true before b
  so_far_first b before e = (suc (length b), omega arith, ap (λ q. parts_from (suc (length b)) test items true q b) (sym e))

  here : (whole : Outcome (List X)) (more full : Bool) (before : List X) (b : Bits) → more ≡ true → IsSoFar test items whole more full before b → IsSoFar test items whole true full before b
  here whole more full before b e s = subst (λ q. IsSoFar test items whole q full before b) e s

  pub so_far_last : (whole : Outcome (List X)) (more full : Bool) (before after : List X) (b r : Bits) → more ≡ true → IsSoFar test items whole more full before b → ((k : ℕ) → parts_from (suc k) test items full before b ≡ found after r) → whole ≡ found after r
  so_far_last whole more full before after b r m s f = let t = here whole more full before b m s in by t.0 t.1 t.2
    where
      by : (k : ℕ) → length b < k → whole ≡ parts_from k test items full before b → whole ≡ found after r
      by zero l e = absurd (omega (arith, l))
      by (suc k) l e = e ∙ f k

  pub so_far_more : (whole : Outcome (List X)) (more full next : Bool) (before after : List X) (b r : Bits) → more ≡ true → IsSoFar test items whole more full before b → ((k : ℕ) → parts_from (suc k) test items full before b ≡ parts_from k test items next after r) → length r < length b → IsSoFar test items whole more next after r
  so_far_more whole more full next before after b r m s f h = let t = here whole more full before b m s in subst (λ q. IsSoFar test items whole q next after r) (sym m) (by t.0 t.1 t.2)
    where
      by : (k : ℕ) → length b < k → whole ≡ parts_from k test items full before b → IsSoFar test items whole true next after r
      by zero l e = absurd (omega (arith, l))
      by (suc k) l e = (k, (let j : length r < k = omega (arith, l, h) in j), e ∙ f k)

  pub so_far_stops : (whole : Outcome (List X)) (more full : Bool) (before : List X) (b r : Bits) (e : PackedFault) → more ≡ true → IsSoFar test items whole more full before b → ((k : ℕ) → IsFault (parts_from (suc k) test items full before b) e r) → IsFault whole e r
  so_far_stops whole more full before b r e m s f = let t = here whole more full before b m s in by t.0 t.1 t.2
    where
      by : (k : ℕ) → length b < k → whole ≡ parts_from k test items full before b → IsFault whole e r
      by zero l g = absurd (omega (arith, l))
      by (suc k) l g = subst (λ o. IsFault o e r) (sym g) (f k)

pub step_at : (test : ℕ → Option Refusal) (items : Several ℕ) (full : Bool) (before after : List ℕ) (n m : Next) (b r : Bits) → n ≡ m → IsStep test items full before after n b r → IsStep test items full before after m b r
step_at test items full before after n m b r e s = subst (λ q. IsStep test items full before after q b r) e s

-- the first more of two facts, or none
pub one_less : (m : Bool) (a b : ℕ) → m ≡ true → a < b → a + 0 < b + cond m 1 0
one_less m a b e l = omega (arith, l)
