-- Elements after their number, as calls read them.
use Rattle.std.proofs.Common.{arith, ◌≡◌, ◌≤◌, ◌<◌, ◌*◌, ◌==◌, ℕ, zero, suc, Bool, true, false, Option, length, sym, ap, subst, ◌∙◌}
use Rattle.packed_encodings.specs.Lengths.{Bits}
use Rattle.decode_faults.specs.declared.refusal.Refusal.{Refusal}
use Rattle.packed_readings.specs.declared.count.Count.TheVariants.{Last as last, Part as part}
use Rattle.packed_readings.specs.Counts.{count_from, total}
use Rattle.packed_readings.specs.Outcome.{judging, found}
use Rattle.packed_reader.specs.declared.reader.Progress.{Progress}
use Rattle.packed_reader.specs.declared.stop.Stop.{Stop}
use Rattle.packed_reader.specs.Readings.{Reading, read, next, plain, Taken, taken}
use Rattle.packed_reader.specs.proving.Code.{IsStop}
use Rattle.packed_reader.specs.proving.Running.{Elements, RunsElement, run_elements, run_part, run_parts}
use Rattle.packed_reader.proofs.Flow.{stop_as, stop_next}

-- What is read so far of parts: either others follow, with fuel for as many as values may begin; or all is read.
abbrev pub IsSoFar : RunsElement → Bool → (ℕ → Option Refusal) → Reading (Taken Elements) → (more full : Bool) → Elements → Progress → Bits → Type 0
IsSoFar value sorted test all true full es p r = (f : ℕ) × (p.left ≤ f) × (run_parts value sorted test (suc f) full es p.skipped p.left r ≡ all)
IsSoFar value sorted test all false full es p r = all ≡ read (taken es p.skipped p.left) r

module _ (value : RunsElement) (sorted : Bool) (test : ℕ → Option Refusal) where
  pub part_last : (f : ℕ) (full : Bool) (es es' : Elements) (k n k' n' m : ℕ) (b r0 r : Bits) → judging (total test (length es.values)) (count_from full) b ≡ found (last m) r0 → run_elements value sorted m es k n r0 ≡ read (taken es' k' n') r → run_parts value sorted test (suc f) full es k n b ≡ read (taken es' k' n') r
  part_last f full es es' k n k' n' m b r0 r e h = ap (λ o. next (plain o) (λ c z. run_part value sorted es k n c (run_parts value sorted test f) z)) e ∙ h

  pub part_more : (f : ℕ) (full : Bool) (es es' : Elements) (k n k' n' m : ℕ) (b r0 r : Bits) → judging (total test (length es.values)) (count_from full) b ≡ found (part m) r0 → run_elements value sorted (16384 * m) es k n r0 ≡ read (taken es' k' n') r → run_parts value sorted test (suc f) full es k n b ≡ run_parts value sorted test f (m == 4) es' k' n' r
  part_more f full es es' k n k' n' m b r0 r e h =
      ap (λ o. next (plain o) (λ c z. run_part value sorted es k n c (run_parts value sorted test f) z)) e
      ∙ ap (λ o. next o (λ w z. run_parts value sorted test f (m == 4) w.it w.skipped w.left z)) h

  pub stop_last : (f : ℕ) (full : Bool) (es : Elements) (k n m : ℕ) (b r0 r : Bits) (x : Stop) → judging (total test (length es.values)) (count_from full) b ≡ found (last m) r0 → IsStop (run_elements value sorted m es k n r0) x r → IsStop (run_parts value sorted test (suc f) full es k n b) x r
  stop_last f full es k n m b r0 r x e h =
      stop_as (run_parts value sorted test (suc f) full es k n b) (run_elements value sorted m es k n r0) x r
      (ap (λ o. next (plain o) (λ c z. run_part value sorted es k n c (run_parts value sorted test f) z)) e) h

  pub stop_more : (f : ℕ) (full : Bool) (es : Elements) (k n m : ℕ) (b r0 r : Bits) (x : Stop) → judging (total test (length es.values)) (count_from full) b ≡ found (part m) r0 → IsStop (run_elements value sorted (16384 * m) es k n r0) x r → IsStop (run_parts value sorted test (suc f) full es k n b) x r
  stop_more f full es k n m b r0 r x e h =
      stop_as (run_parts value sorted test (suc f) full es k n b)
      (next (run_elements value sorted (16384 * m) es k n r0) (λ w z. run_parts value sorted test f (m == 4) w.it w.skipped w.left z)) x r
      (ap (λ o. next (plain o) (λ c z. run_part value sorted es k n c (run_parts value sorted test f) z)) e)
      (stop_next (run_elements value sorted (16384 * m) es k n r0) (λ w z. run_parts value sorted test f (m == 4) w.it w.skipped w.left z) x r h)

  module _ (all : Reading (Taken Elements)) where
    abbrev SoFar : Bool → Bool → Elements → Progress → Bits → Type 0
    SoFar = IsSoFar value sorted test all

    pub so_far_first : (full : Bool) (es : Elements) (p : Progress) (b : Bits) → run_parts value sorted test (suc p.left) full es p.skipped p.left b ≡ all → SoFar true full es p b
    so_far_first full es p b e = (p.left, (let k : p.left ≤ p.left = omega arith in k), e)

    pub so_far_last : (more full full' : Bool) (es es' : Elements) (p q : Progress) (b r : Bits) → more ≡ true → SoFar more full es p b → ((f : ℕ) → run_parts value sorted test (suc f) full es p.skipped p.left b ≡ read (taken es' q.skipped q.left) r) → SoFar false full' es' q r
    so_far_last true full full' es es' p q b r m h g = sym h.2 ∙ g h.0
    so_far_last false full full' es es' p q b r m h g = absurd (cc)

    more_by : (f : ℕ) (full next' : Bool) (es es' : Elements) (p q : Progress) (b r : Bits) → p.left ≤ f → q.left < p.left → run_parts value sorted test (suc f) full es p.skipped p.left b ≡ all → ((g : ℕ) → run_parts value sorted test (suc g) full es p.skipped p.left b ≡ run_parts value sorted test g next' es' q.skipped q.left r) → SoFar true next' es' q r
    more_by zero full next' es es' p q b r l k h g = absurd (omega (arith, l, k))
    more_by (suc f) full next' es es' p q b r l k h g = (f, (let j : q.left ≤ f = omega (arith, l, k) in j), sym (g (suc f)) ∙ h)

    pub so_far_more : (more full next' : Bool) (es es' : Elements) (p q : Progress) (b r : Bits) → more ≡ true → q.left < p.left → SoFar more full es p b → ((g : ℕ) → run_parts value sorted test (suc g) full es p.skipped p.left b ≡ run_parts value sorted test g next' es' q.skipped q.left r) → SoFar true next' es' q r
    so_far_more true full next' es es' p q b r m k h g = more_by h.0 full next' es es' p q b r h.1 k h.2 g
    so_far_more false full next' es es' p q b r m k h g = absurd (cc)

    pub so_far_stops : (more full : Bool) (es : Elements) (p : Progress) (b r : Bits) (x : Stop) → more ≡ true → SoFar more full es p b → ((f : ℕ) → IsStop (run_parts value sorted test (suc f) full es p.skipped p.left b) x r) → IsStop all x r
    so_far_stops true full es p b r x m h g = subst (λ o. IsStop o x r) h.2 (g h.0)
    so_far_stops false full es p b r x m h g = absurd (cc)

    pub so_far_all : (more full : Bool) (es : Elements) (p : Progress) (b : Bits) → more ≡ false → SoFar more full es p b → all ≡ read (taken es p.skipped p.left) b
    so_far_all false full es p b m h = h
    so_far_all true full es p b m h = absurd (cc)
