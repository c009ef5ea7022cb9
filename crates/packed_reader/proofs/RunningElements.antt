-- Elements that are read one after the other, each put after those before it.
use Rattle.std.proofs.Common.{arith, ◌≡◌, ℕ, zero, suc, ◌+◌, ◌*◌, ◌==◌, Bool, true, false, List, [], ◌∷◌, ◌++◌, length, map, take, refl, sym, ap, ◌∙◌, append_assoc, append-nil}
use Rattle.std.specs.Prelude.{◌-◌, if◌then◌else◌, Option}
use Rattle.asn_base.specs.Abstract.{AbstractValue, present}
use Rattle.asn_base.specs.Types.{Constraint}
use Rattle.packed_encodings.specs.Lengths.{Bits}
use Rattle.decode_faults.specs.declared.refusal.Refusal.{Refusal}
use Rattle.decode_faults.specs.declared.refusal.Refusal.TheVariants as why
use Rattle.packed_readings.specs.Outcome.{judging}
use Rattle.packed_readings.specs.declared.count.Count.{Count}
use Rattle.packed_readings.specs.declared.count.Count.TheVariants.{Last as last, Part as part}
use Rattle.packed_readings.specs.declared.size.Sizing.{Sizing}
use Rattle.packed_readings.specs.declared.size.Sizing.TheVariants.{AtOnce as at_once, Counted as counted}
use Rattle.packed_readings.specs.Counts.{count_from, total, size_from, size_fault}
use Rattle.packed_reader.specs.declared.part.Part.TheVariants.{Element}
use Rattle.packed_reader.specs.Readings.{Reading, read, refused, stop, next, in_part, plain, Taken, taken}
use Rattle.packed_reader.specs.Structures.{joined}
use Rattle.packed_reader.specs.Lists.{Element', row_of_elements, ReadsElement, an_element, in_order, element_from, elements_from, last_bits, both, part_from, parts_from, after_size, list_from}
use Rattle.packed_reader.specs.proving.Running.{past, RunsElement, Elements, and_one, with_its_bits, run_element, run_elements, run_part, run_parts, no_elements, run_sized, run_list, row_of_values}
use Rattle.packed_reader.proofs.RunningState.{plus_none, past_by, same_read, Always, always_next, always_after, after, onto, nothing_asked, with_others}

abbrev beside : Taken AbstractValue → Bits → Taken AbstractValue × Bits
beside w x = (w, x)

abbrev pub only_value : Element' → AbstractValue
only_value x = x.0

-- these elements and one more, or more
abbrev pub with_one : Elements → Element' → Elements
with_one es x = record { values = es.values ++ (x.0 ∷ []); before = x.1 }

abbrev pub with_all : Elements → List Element' → Elements
with_all es xs = record { values = es.values ++ map only_value xs; before = last_bits es.before xs }

abbrev elements : List AbstractValue → Bits → Elements
elements vs b = record { values = vs; before = b }

with_none : (es : Elements) → es ≡ with_all es []
with_none es = ap (λ vs. elements vs es.before) (sym (append-nil es.values))

one_first : (es : Elements) (x : Element') (xs : List Element') → with_all (with_one es x) xs ≡ with_all es (x ∷ xs)
one_first es x xs = ap (λ vs. elements vs (last_bits x.1 xs)) (append_assoc es.values (x.0 ∷ []) (map only_value xs))

mapped : (xs ys : List Element') → map only_value xs ++ map only_value ys ≡ map only_value (xs ++ ys)
mapped [] ys = refl
mapped (x ∷ xs) ys = ap (λ q. x.0 ∷ q) (mapped xs ys)

last_of : (b : Bits) (xs ys : List Element') → last_bits (last_bits b xs) ys ≡ last_bits b (xs ++ ys)
last_of b [] ys = refl
last_of b (x ∷ xs) ys = last_of x.1 xs ys

all_first : (es : Elements) (xs ys : List Element') → with_all (with_all es xs) ys ≡ with_all es (xs ++ ys)
all_first es xs ys =
    ap (λ vs. elements vs (last_bits (last_bits es.before xs) ys)) (append_assoc es.values (map only_value xs) (map only_value ys) ∙ ap (λ q. es.values ++ q) (mapped xs ys))
    ∙ ap (elements (es.values ++ map only_value (xs ++ ys))) (last_of es.before xs ys)

longer : (vs : List AbstractValue) (v : AbstractValue) → length (vs ++ (v ∷ [])) ≡ suc (length vs)
longer [] v = refl
longer (w ∷ vs) v = ap suc (longer vs v)

much_longer : (vs : List AbstractValue) (xs : List Element') → length (vs ++ map only_value xs) ≡ length vs + length xs
much_longer [] [] = refl
much_longer [] (x ∷ xs) = let e = much_longer [] xs in omega arith
much_longer (v ∷ vs) xs = let e = much_longer vs xs in omega arith

pub rows_same : (xs : List Element') → row_of_values (map only_value xs) ≡ row_of_elements xs
rows_same [] = refl
rows_same (x ∷ xs) = ap (present x.0) (rows_same xs)

module _ (value : ReadsElement) (sorted : Bool) where
  abbrev run : RunsElement
  run k n b = past k (value n b)

  element_same : (es : Elements) (k n : ℕ) (b : Bits) → run_element run sorted es k n b ≡ past_by (with_one es) k (element_from value sorted (length es.values) es.before n b)
  element_same es k n b = by (value n b)
    where
      which : (w : Taken AbstractValue) (x r : Bits) (c : Bool)
          → next (in_part (Element (length es.values)) (if c then read (beside (taken w.it (k + w.skipped) w.left) x) r else stop why.NotCanonical b)) (λ p r. read (and_one es (with_its_bits p)) r)
          ≡ past_by (with_one es) k (next (in_part (Element (length es.values)) (if c then read (beside w x) r else stop why.NotCanonical b)) (λ p r. read (an_element p) r))
      which w x r true = refl
      which w x r false = refl

      by : (o : Reading (Taken AbstractValue))
          → next (in_part (Element (length es.values)) (next (next (past k o) (λ v r. read (beside v (take (length b - length r) b)) r)) (λ v r. if in_order sorted es.before v then read v r else stop why.NotCanonical b))) (λ p r. read (and_one es (with_its_bits p)) r)
          ≡ past_by (with_one es) k (next (in_part (Element (length es.values)) (next (next o (λ v r. read (beside v (take (length b - length r) b)) r)) (λ v r. if in_order sorted es.before v then read v r else stop why.NotCanonical b))) (λ p r. read (an_element p) r))
      by (read w r) = which w (take (length b - length r) b) r (in_order sorted es.before (beside w (take (length b - length r) b)))
      by (refused e r) = refl

  elements_same : (m : ℕ) (es : Elements) (k n : ℕ) (b : Bits) → run_elements run sorted m es k n b ≡ past_by (with_all es) k (elements_from value sorted m (length es.values) es.before n b)
  elements_same zero es k n b = same_read n b (with_none es) (plus_none k)
  elements_same (suc m) es k n b =
      onto (λ t. Unit {0}) (with_one es) (with_all es) k
      (element_from value sorted (length es.values) es.before n b)
      (run_element run sorted es k n b)
      (λ t r. next (elements_from value sorted m (suc (length es.values)) t.it.1 t.left r) (λ ts z. read (joined t ts) z))
      (λ w r. run_elements run sorted m w.it w.skipped w.left r)
      (nothing_asked (element_from value sorted (length es.values) es.before n b))
      (element_same es k n b)
      (λ t r u. elements_same m (with_one es t.it) (k + t.skipped) t.left r
      ∙ ap (λ i. past_by (with_all (with_one es t.it)) (k + t.skipped) (elements_from value sorted m i t.it.1 t.left r)) (longer es.values t.it.0)
      ∙ with_others (with_all (with_one es t.it)) (with_all es) k t.skipped (λ ts. t.it ∷ ts) (elements_from value sorted m (suc (length es.values)) t.it.1 t.left r) (λ ts. one_first es t.it ts))

  elements_many : (m i : ℕ) (before : Bits) (n : ℕ) (b : Bits) → Always (λ t. length t.it ≡ m) (elements_from value sorted m i before n b)
  elements_many zero i before n b = refl
  elements_many (suc m) i before n b =
      always_after (λ t. length t.it ≡ suc m) (element_from value sorted i before n b) (λ t r. next (elements_from value sorted m (suc i) t.it.1 t.left r) (λ ts z. read (joined t ts) z))
      (λ t r. always_next (λ t. length t.it ≡ m) (λ t. length t.it ≡ suc m) (elements_from value sorted m (suc i) t.it.1 t.left r) (λ ts z. read (joined t ts) z) (elements_many m (suc i) t.it.1 t.left r) (λ ts z e. ap suc e))

  abbrev parts : (ℕ → Option Refusal) → ℕ → Bool → ℕ → Bits → ℕ → Bits → Reading (Taken (List Element'))
  parts test fuel = parts_from value sorted test fuel

  -- the elements after a part
  others_same : (test : ℕ → Option Refusal) (fuel m : ℕ) (es : Elements) (k : ℕ) (t : Taken (List Element')) (r : Bits)
      → ((full : Bool) (es : Elements) (k n : ℕ) (b : Bits) → run_parts run sorted test fuel full es k n b ≡ past_by (with_all es) k (parts test fuel full (length es.values) es.before n b))
      → length t.it ≡ 16384 * m
      → run_parts run sorted test fuel (m == 4) (with_all es t.it) (k + t.skipped) t.left r
      ≡ past_by (with_all es) k (next (parts test fuel (m == 4) (length es.values + 16384 * m) (last_bits es.before t.it) t.left r) (λ ts z. read (both t ts) z))
  others_same test fuel m es k t r ih e =
      ih (m == 4) (with_all es t.it) (k + t.skipped) t.left r
      ∙ ap (λ i. past_by (with_all (with_all es t.it)) (k + t.skipped) (parts test fuel (m == 4) i (last_bits es.before t.it) t.left r)) (much_longer es.values t.it ∙ ap (λ j. length es.values + j) e)
      ∙ with_others (with_all (with_all es t.it)) (with_all es) k t.skipped (λ ts. t.it ++ ts) (parts test fuel (m == 4) (length es.values + 16384 * m) (last_bits es.before t.it) t.left r) (λ ts. all_first es t.it ts)

  part_same : (test : ℕ → Option Refusal) (fuel : ℕ) (es : Elements) (k n : ℕ) (c : Count) (b : Bits)
      → ((full : Bool) (es : Elements) (k n : ℕ) (b : Bits) → run_parts run sorted test fuel full es k n b ≡ past_by (with_all es) k (parts test fuel full (length es.values) es.before n b))
      → run_part run sorted es k n c (run_parts run sorted test fuel) b ≡ past_by (with_all es) k (part_from value sorted (length es.values) es.before n c (parts test fuel) b)
  part_same test fuel es k n (last m) b ih = elements_same m es k n b
  part_same test fuel es k n (part m) b ih =
      onto (λ t. length t.it ≡ 16384 * m) (with_all es) (with_all es) k
      (elements_from value sorted (16384 * m) (length es.values) es.before n b)
      (run_elements run sorted (16384 * m) es k n b)
      (λ t r. next (parts test fuel (m == 4) (length es.values + 16384 * m) (last_bits es.before t.it) t.left r) (λ ts z. read (both t ts) z))
      (λ w r. run_parts run sorted test fuel (m == 4) w.it w.skipped w.left r)
      (elements_many (16384 * m) (length es.values) es.before n b)
      (elements_same (16384 * m) es k n b)
      (λ t r e. others_same test fuel m es k t r ih e)

  parts_same : (test : ℕ → Option Refusal) (fuel : ℕ) (full : Bool) (es : Elements) (k n : ℕ) (b : Bits) → run_parts run sorted test fuel full es k n b ≡ past_by (with_all es) k (parts test fuel full (length es.values) es.before n b)
  parts_same test zero full es k n b = refl
  parts_same test (suc fuel) full es k n b =
      after (with_all es) k (plain (judging (total test (length es.values)) (count_from full) b))
      (λ c r. part_from value sorted (length es.values) es.before n c (parts test fuel) r)
      (λ c r. run_part run sorted es k n c (run_parts run sorted test fuel) r)
      (λ c r. part_same test fuel es k n c r (λ full es k n b. parts_same test fuel full es k n b))

  sized_same : (c : Constraint) (k n : ℕ) (z : Sizing) (b : Bits) → run_sized run sorted c k n z b ≡ past_by (with_all no_elements) k (after_size value sorted c n z b)
  sized_same c k n (at_once m) b = elements_same m no_elements k n b
  sized_same c k n (counted outside) b = parts_same (size_fault c outside) (suc n) true no_elements k n b

  pub list_same : (c : Constraint) (k n : ℕ) (b : Bits) → run_list run sorted c k n b ≡ past_by (with_all no_elements) k (list_from value sorted c n b)
  list_same c k n b = after (with_all no_elements) k (plain (size_from c b)) (λ z r. after_size value sorted c n z r) (λ z r. run_sized run sorted c k n z r) (λ z r. sized_same c k n z r)
