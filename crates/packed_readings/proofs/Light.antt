-- Leaves within a limit, and characters that take no bits.
use Rattle.std.proofs.Common.{arith, ◌≡◌, ℕ, zero, suc, ◌+◌, ◌*◌, ◌<◌, ◌≤◌, Bool, true, false, List, [], ◌∷◌, length, take, drop, replicate, refl, sym, ap, subst, ◌∙◌}
use Rattle.std.specs.Prelude.{if◌then◌else◌, ◌&&◌, ◌==◌, nat_lt, Option}
use Rattle.std.proofs.lemmas.Bool.{le-ltb, lt-ltb, ltb-false}
use Rattle.std.proofs.lemmas.List.{length-replicate, replicate-append-replicate}
use Rattle.asn_base.specs.Abstract.{AbstractValue, text}
use Rattle.asn_base.specs.Types.{Constraint, Kind, a_restricted_string}
use Rattle.asn_base.specs.declared.strings.StringKind.{StringKind}
use Rattle.packed_encodings.specs.Lengths.{Bits, worth}
use Rattle.packed_encodings.specs.Weights.{characters}
use Rattle.decode_faults.specs.declared.refusal.Refusal.{Refusal}
use Rattle.decode_faults.specs.declared.refusal.Refusal.TheVariants as why
use Rattle.packed_readings.specs.Outcome.{Outcome, found, stops, onward, good, bad, verdict, judging, field_from, each_from, IsReading, IsJudged}
use Rattle.packed_readings.specs.Composing.{judged, same}
use Rattle.packed_readings.specs.Counts.{Count, last, part, count_from, total, counted_from, at_once, counted, size_from, size_fault, after_size, sized_from}
use Rattle.packed_readings.specs.declared.refusal.PackedFault.TheVariants as faults
use Rattle.packed_readings.proofs.Counted.{IsSoFar, so_far_first, so_far_last, so_far_more, so_far_stops, step_last, step_part, stop_count, stated_at, stops_at, stated_shorter}
use Rattle.packed_readings.specs.Code.{Gained, IsFew}
use Rattle.packed_readings.specs.Leaves.{at_place, is_code, character_of, character_from, leaf_from, light_leaf, leaf_within, IsLeafOf, IsLeafWithin}

-- ---- the limit

light_good : (n : ℕ) (v w : AbstractValue) → light_leaf n v ≡ good w → (v ≡ w) × (characters v ≤ n)
light_good n v w e = by (nat_lt n (characters v)) refl e
  where
    by : (t : Bool) → nat_lt n (characters v) ≡ t → (if t then bad why.NodesLimit else good v) ≡ good w → (v ≡ w) × (characters v ≤ n)
    by true h e = absurd (cc)
    by false h e = (cc, ltb-false n (characters v) h)

pub is_light : (n : ℕ) (v : AbstractValue) → characters v ≤ n → light_leaf n v ≡ good v
is_light n v h = ap (λ t. if t then bad why.NodesLimit else good v) (le-ltb n (characters v) h)

pub is_heavy : (n : ℕ) (v : AbstractValue) → n < characters v → light_leaf n v ≡ bad why.NodesLimit
is_heavy n v h = ap (λ t. if t then bad why.NodesLimit else good v) (lt-ltb n (characters v) h)

pub within : (n : ℕ) (k : Kind) → IsReading (IsLeafOf k) (leaf_from k) → IsReading (IsLeafWithin n k) (leaf_within n k)
within n k F = same to from (judged (light_leaf n) F)
  where
    to : (w : AbstractValue) (x : Bits) → IsJudged (IsLeafOf k) (light_leaf n) w x → IsLeafWithin n k w x
    to w x t = let g = light_good n t.read w t.judged in record { is_leaf = subst (λ q. IsLeafOf k q x) g.0 t.is_read; few = subst (λ q. characters q ≤ n) g.0 g.1 }

    from : (w : AbstractValue) (x : Bits) → IsLeafWithin n k w x → IsJudged (IsLeafOf k) (light_leaf n) w x
    from w x l = record { read = w; is_read = l.is_leaf; judged = is_light n w l.few }

-- ---- answers of calls

-- the leaf is read, and is light or not
pub light_found : (n : ℕ) (k : Kind) (b r : Bits) (v : AbstractValue) → leaf_from k b ≡ found v r → characters v ≤ n → leaf_within n k b ≡ found v r
light_found n k b r v e h = ap (λ o. onward o (λ v r. verdict (light_leaf n v) b r)) e ∙ ap (λ j. verdict j b r) (is_light n v h)

pub heavy_stops : (n : ℕ) (k : Kind) (b r : Bits) (v : AbstractValue) → leaf_from k b ≡ found v r → n < characters v → leaf_within n k b ≡ stops why.NodesLimit b
heavy_stops n k b r v e h = ap (λ o. onward o (λ v r. verdict (light_leaf n v) b r)) e ∙ ap (λ j. verdict j b r) (is_heavy n v h)

pub leaf_stops : (n : ℕ) (k : Kind) (b r : Bits) (e : Refusal) → leaf_from k b ≡ stops e r → leaf_within n k b ≡ stops e r
leaf_stops n k b r e h = ap (λ o. onward o (λ v r. verdict (light_leaf n v) b r)) h

-- ---- characters that take no bits

no_field : (b : Bits) → field_from 0 b ≡ found 0 b
no_field b = ap (λ t. if t then stops why.Truncated b else found (worth (take 0 b)) (drop 0 b)) (le-ltb (length b) 0 (omega arith))

by_place : (x : ℕ) → character_of (suc x ∷ []) 0 ≡ good (suc x)
by_place x = ap (λ t. if t && true then (if is_code (suc x ∷ []) 0 then good 0 else bad why.Outside) else at_place why.Outside (suc x ∷ []) 0) (le-ltb (suc x) 1 (omega arith))

-- one character of an alphabet of one code
one_code : (x : ℕ) (b : Bits) → character_from (x ∷ []) b ≡ found x b
one_code zero b = ap (λ o. onward o (λ v r. verdict (character_of (0 ∷ []) v) b r)) (no_field b)
one_code (suc x) b = ap (λ o. onward o (λ v r. verdict (character_of (suc x ∷ []) v) b r)) (no_field b) ∙ ap (λ j. verdict j b b) (by_place x)

-- several of them
pub free_characters : (x n : ℕ) (b : Bits) → each_from (character_from (x ∷ [])) n b ≡ found (replicate n x) b
free_characters x zero b = refl
free_characters x (suc n) b =
    ap (λ o. onward o (λ c r. onward (each_from (character_from (x ∷ [])) n r) (λ cs s. found (c ∷ cs) s))) (one_code x b)
    ∙ ap (λ o. onward o (λ cs s. found (x ∷ cs) s)) (free_characters x n b)

-- n more of them after k
pub free_gained : (x k n m : ℕ) (b : Bits) → m ≡ k + n → Gained (each_from (character_from (x ∷ [])) n b) (replicate k x) (replicate m x) b
free_gained x k n m b e = record {
  values = replicate n x;
  is = free_characters x n b;
  joined = ap (λ q. replicate q x) e ∙ sym (replicate-append-replicate k n x);
}

-- what is known before the next number, if n characters are promised so far
pub record AreFree (test : ℕ → Option Refusal) (start : Bits) (more full : Bool) (n : ℕ) (b : Bits) : Type 0 where
  pub so_far : (x : ℕ) → IsSoFar test (each_from (character_from (x ∷ []))) (counted_from test (each_from (character_from (x ∷ []))) start) more full (replicate n x) b
  pub few : n + 65536 * length b ≤ 65536 * length start
  pub short : length start < 18446744073709551616

module _ (test : ℕ → Option Refusal) (start : Bits) where
  pub free_first : (l : ℕ) → l ≡ length start → l < 18446744073709551616 → AreFree test start true true 0 start
  free_first l e h = record {
    so_far = λ x. so_far_first test (each_from (character_from (x ∷ []))) start [] refl;
    few = omega arith;
    short = omega (arith, e, h);
  }

  module _ (more full : Bool) (n : ℕ) (b r : Bits) (yes : more ≡ true) (known : AreFree test start more full n b) where
    -- the next number
    stated : (x : ℕ) (c d : Count) → c ≡ d → judging (total test n) (count_from full) b ≡ found c r → judging (total test (length (replicate n x))) (count_from full) b ≡ found d r
    stated x c d e h = stated_at test (each_from (character_from (x ∷ []))) full (replicate n x) n b r c d (sym (length-replicate n x)) e h

    pub stated_less : (c : Count) → judging (total test n) (count_from full) b ≡ found c r → length r < length b
    stated_less c h = stated_shorter test (each_from (character_from (0 ∷ []))) full (replicate n 0) b r c (stated 0 c c refl h)

    pub free_last : (c : Count) (m k : ℕ) → c ≡ last m → judging (total test n) (count_from full) b ≡ found c r → IsFew c → k ≡ n + m → AreFree test start false full k r
    free_last c m k e h l s = record {
      so_far = λ x. (let items = each_from (character_from (x ∷ [])) in
          so_far_last test items (counted_from test items start) more full (replicate n x) (replicate k x) b r yes (known.so_far x)
          (λ j. step_last test items full (replicate n x) b r r m (replicate k x) j (stated x c (last m) e h) (free_gained x n m k r s)));
      few = (let t = stated_less c h in let f = known.few in let z : k + 65536 * length r ≤ 65536 * length start = (let m' : m < 16384 = subst IsFew e l in omega (arith, t, f, m', s)) in z);
      short = known.short;
    }

    pub free_part : (c : Count) (m k : ℕ) → c ≡ part m → judging (total test n) (count_from full) b ≡ found c r → IsFew c → k ≡ n + 16384 * m → AreFree test start more (m == 4) k r
    free_part c m k e h l s = record {
      so_far = λ x. (let items = each_from (character_from (x ∷ [])) in
          so_far_more test items (counted_from test items start) more full (m == 4) (replicate n x) (replicate k x) b r yes (known.so_far x)
          (λ j. step_part test items full (replicate n x) b r r m (replicate k x) j (stated x c (part m) e h) (free_gained x n (16384 * m) k r s)) (stated_less c h));
      few = (let t = stated_less c h in let f = known.few in let z : k + 65536 * length r ≤ 65536 * length start = (let m' : m ≤ 4 = subst IsFew e l in omega (arith, t, f, m', s)) in z);
      short = known.short;
    }

    pub free_stop : (e : Refusal) → judging (total test n) (count_from full) b ≡ stops e r → (x : ℕ) → counted_from test (each_from (character_from (x ∷ []))) start ≡ stops e r
    free_stop e h x =
        let items = each_from (character_from (x ∷ [])) in
        so_far_stops test items (counted_from test items start) more full (replicate n x) b r (faults.Refused e) yes (known.so_far x)
        (λ j. stop_count test items full (replicate n x) b r e j (stops_at test items full (replicate n x) n b r e (sym (length-replicate n x)) h))

  pub free_done : (more full : Bool) (n : ℕ) (b : Bits) → more ≡ false → AreFree test start more full n b → (x : ℕ) → counted_from test (each_from (character_from (x ∷ []))) start ≡ found (replicate n x) b
  free_done more full n b ends known x =
      let items = each_from (character_from (x ∷ [])) in
      subst (λ q. IsSoFar test items (counted_from test items start) q full (replicate n x) b) ends (known.so_far x)

-- a string whose size is known at once
pub free_at_once : (c : Constraint) (n : ℕ) (b r : Bits) → size_from c b ≡ found (at_once n) r → (x : ℕ) → sized_from c (each_from (character_from (x ∷ []))) b ≡ found (replicate n x) r
free_at_once c n b r h x = ap (λ o. onward o (λ z r. after_size c (each_from (character_from (x ∷ []))) z r)) h ∙ free_characters x n r

-- a string whose characters are counted
pub free_counted : (c : Constraint) (outside : Bool) (b m : Bits) (o : ℕ → Outcome (List ℕ)) → size_from c b ≡ found (counted outside) m → ((x : ℕ) → counted_from (size_fault c outside) (each_from (character_from (x ∷ []))) m ≡ o x) → (x : ℕ) → sized_from c (each_from (character_from (x ∷ []))) b ≡ o x
free_counted c outside b m o h g x = ap (λ o. onward o (λ z r. after_size c (each_from (character_from (x ∷ []))) z r)) h ∙ g x

-- a size that is refused
pub free_size : (c : Constraint) (b r : Bits) (e : Refusal) → size_from c b ≡ stops e r → (x : ℕ) → sized_from c (each_from (character_from (x ∷ []))) b ≡ stops e r
free_size c b r e h x = ap (λ o. onward o (λ z r. after_size c (each_from (character_from (x ∷ []))) z r)) h

single : (a : List ℕ) → length a ≡ 1 → (x : ℕ) × (a ≡ x ∷ [])
single [] e = absurd (omega (arith, e))
single (x ∷ []) e = (x, refl)
single (x ∷ y ∷ a) e = absurd (omega (arith, e))

module _ (n : ℕ) (k : StringKind) (a : List ℕ) (c : Constraint) (b r : Bits) (one : length a ≡ 1) where
  text_is : (o : Outcome (List ℕ)) → ((x : ℕ) → sized_from c (each_from (character_from (x ∷ []))) b ≡ o) → leaf_from (a_restricted_string k a c) b ≡ onward o (λ o r. found (text o) r)
  text_is o h =
      let s = single a one in
      ap (λ q. leaf_from (a_restricted_string k q c) b) s.1 ∙ ap (λ q. onward q (λ o r. found (text o) r)) (h s.0)

  -- the characters are too many
  pub free_heavy : (m : ℕ) → ((x : ℕ) → sized_from c (each_from (character_from (x ∷ []))) b ≡ found (replicate m x) r) → n < m → leaf_within n (a_restricted_string k a c) b ≡ stops why.NodesLimit b
  free_heavy m h l =
      let s = single a one in
      let z = length-replicate m s.0 in
      heavy_stops n (a_restricted_string k a c) b r (text (replicate m s.0))
      (ap (λ q. leaf_from (a_restricted_string k q c) b) s.1 ∙ ap (λ q. onward q (λ o r. found (text o) r)) (h s.0))
      (omega (arith, z, l))

  -- their size has a fault
  pub free_stops : (e : Refusal) → ((x : ℕ) → sized_from c (each_from (character_from (x ∷ []))) b ≡ stops e r) → leaf_within n (a_restricted_string k a c) b ≡ stops e r
  free_stops e h = leaf_stops n (a_restricted_string k a c) b r e (text_is (stops e r) h)
