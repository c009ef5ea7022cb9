-- SEQUENCE OF and SET OF, decoded from the front of bits (X.691, 11.9, 20 and 22).
use Rattle.std.specs.Prelude.{ℕ, zero, suc, ◌+◌, ◌*◌, ◌==◌, Bool, true, false, not, ◌&&◌, ◌||◌, List, [], ◌∷◌, ◌++◌}
use Rattle.std.specs.Prelude.{Option}
use Rattle.asn_base.specs.Abstract.{AbstractValue, Row, end, present}
use Rattle.asn_base.specs.Types.{Constraint}
use Rattle.packed_encodings.specs.Lengths.{Bits, Items}
use Rattle.decode_faults.specs.declared.refusal.Refusal.{Refusal}
use Rattle.decode_faults.specs.declared.refusal.Refusal.TheVariants as why
use Rattle.packed_readings.specs.Outcome.{judging}
use Rattle.packed_readings.specs.declared.count.Count.{Count}
use Rattle.packed_readings.specs.declared.count.Count.TheVariants.{Last as last, Part as part}
use Rattle.packed_readings.specs.declared.size.Sizing.{Sizing}
use Rattle.packed_readings.specs.declared.size.Sizing.TheVariants.{AtOnce as at_once, Counted as counted}
use Rattle.packed_readings.specs.Counts.{count_from, total, size_from, size_fault}
use Rattle.packed_reader.specs.declared.part.Part.TheVariants.{Element}
use Rattle.packed_reader.specs.Readings.{Reading, read, stop, next, in_part, plain, tested, with_bits, Taken, taken}
use Rattle.packed_reader.specs.Structures.{joined}

-- the first bits aren't after the second, if the shorter ones are filled with zeros
abbrev pub at_most : Bits → Bits → Bool
at_most [] ys = true
at_most (x ∷ xs) [] = not x && at_most xs []
at_most (false ∷ xs) (true ∷ ys) = true
at_most (true ∷ xs) (false ∷ ys) = false
at_most (false ∷ xs) (false ∷ ys) = at_most xs ys
at_most (true ∷ xs) (true ∷ ys) = at_most xs ys

-- an element with its bits
abbrev pub Element' : Type 0
Element' = AbstractValue × Bits

abbrev pub row_of_elements : List Element' → Row
row_of_elements [] = end
row_of_elements (x ∷ xs) = present x.0 (row_of_elements xs)

abbrev pub items_of : List Element' → Items
items_of [] = []
items_of (x ∷ xs) = x.1 ∷ items_of xs

-- a function that decodes an element, given how many values may still begin
abbrev pub ReadsElement : Type 0
ReadsElement = ℕ → Bits → Reading (Taken AbstractValue)

abbrev pub an_element : Taken AbstractValue × Bits → Taken Element'
an_element p = taken (p.0.it, p.1) p.0.skipped p.0.left

-- in a SET OF the bits of an element aren't before those of the previous one (22.1)
abbrev pub in_order : Bool → (before : Bits) → Taken AbstractValue × Bits → Bool
in_order sorted before p = not sorted || at_most before p.1

-- the element with number i
abbrev pub element_from : ReadsElement → Bool → ℕ → (before : Bits) → ℕ → Bits → Reading (Taken Element')
element_from value sorted i before n b =
    next (in_part (Element i) (tested (in_order sorted before) why.NotCanonical (with_bits (value n)) b))
    (λ p r. read (an_element p) r)

-- `count` elements, of which the first has number i
abbrev pub elements_from : ReadsElement → Bool → (count i : ℕ) → (before : Bits) → ℕ → Bits
    → Reading (Taken (List Element'))
elements_from value sorted zero i before n b = read (taken [] 0 n) b
elements_from value sorted (suc k) i before n b =
    next (element_from value sorted i before n b) (λ t r.
    next (elements_from value sorted k (suc i) t.it.1 t.left r) (λ ts z. read (joined t ts) z))

-- the bits of the last element, or those before if there are no elements
abbrev pub last_bits : Bits → List Element' → Bits
last_bits before [] = before
last_bits before (x ∷ xs) = last_bits x.1 xs

abbrev pub both : Taken (List Element') → Taken (List Element') → Taken (List Element')
both t ts = taken (t.it ++ ts.it) (t.skipped + ts.skipped) ts.left

-- the elements of one number, from element i on; after a fragment others follow
abbrev pub part_from : ReadsElement → Bool → (i : ℕ) → (before : Bits) → ℕ → Count
    → (Bool → ℕ → Bits → ℕ → Bits → Reading (Taken (List Element'))) → Bits → Reading (Taken (List Element'))
part_from value sorted i before n (last k) others b = elements_from value sorted k i before n b
part_from value sorted i before n (part m) others b =
    next (elements_from value sorted (16384 * m) i before n b) (λ t r.
    next (others (m == 4) (i + 16384 * m) (last_bits before t.it) t.left r) (λ ts z. read (both t ts) z))

-- fragments of elements, where the fuel is enough because values begin in each fragment
abbrev pub parts_from : ReadsElement → Bool → (ℕ → Option Refusal) → ℕ → Bool → (i : ℕ) → (before : Bits) → ℕ → Bits
    → Reading (Taken (List Element'))
parts_from value sorted test zero full i before n b = stop why.NodesLimit b
parts_from value sorted test (suc fuel) full i before n b =
    next (plain (judging (total test i) (count_from full) b)) (λ c r.
    part_from value sorted i before n c (parts_from value sorted test fuel) r)

abbrev pub after_size : ReadsElement → Bool → Constraint → ℕ → Sizing → Bits → Reading (Taken (List Element'))
after_size value sorted c n (at_once k) b = elements_from value sorted k 0 [] n b
after_size value sorted c n (counted outside) b =
    parts_from value sorted (size_fault c outside) (suc n) true 0 [] n b

-- elements after their number, by the bounds of SIZE
abbrev pub list_from : ReadsElement → Bool → Constraint → ℕ → Bits → Reading (Taken (List Element'))
list_from value sorted c n b = next (plain (size_from c b)) (λ z r. after_size value sorted c n z r)
