-- Numbers of items, and items after their number (X.691, 11.9).
use Rattle.std.specs.Prelude.{◌≡◌, ℕ, zero, suc, ◌+◌, ◌-◌, ◌*◌, ◌==◌, ◌<◌, ◌≤◌, nat_lt, Bool, true, false, ◌&&◌}
use Rattle.std.specs.Prelude.{if◌then◌else◌, ℤ, pos, List, [], ◌∷◌, ◌++◌, length, take, drop, Option, Some, None}
use Rattle.asn_base.specs.Types.{Range, Constraint}
use Rattle.bits.specs.Words.{low_bits}
use Rattle.asn_base.specs.Typed.{IsAllowedSize}
use Rattle.packed_encodings.specs.Lengths.{Bits, Items, all_bits, fewest_bits, Counted, IsNarrow, Sized, worth}
use Rattle.packed_encodings.specs.Leaves.{root_bit}
use Rattle.packed_encodings.specs.Computed.{is_from, is_to, is_in_root}
use Rattle.decode_faults.specs.declared.refusal.Refusal.{Refusal}
use Rattle.decode_faults.specs.declared.refusal.Refusal.TheVariants.{Truncated, NotCanonical, Outside}
pub use Rattle.packed_readings.specs.declared.count.Count.{Count}
pub use Rattle.packed_readings.specs.declared.count.Count.TheVariants.{Last as last, Part as part}
pub use Rattle.packed_readings.specs.declared.count.StatedCount.{StatedCount}
pub use Rattle.packed_readings.specs.declared.count.StatedCount.TheVariants.{In7Bits as in_7_bits}
pub use Rattle.packed_readings.specs.declared.count.StatedCount.TheVariants.{In14Bits as in_14_bits}
pub use Rattle.packed_readings.specs.declared.count.StatedCount.TheVariants.{InParts as in_parts}
pub use Rattle.packed_readings.specs.declared.size.Sizing.{Sizing}
pub use Rattle.packed_readings.specs.declared.size.Sizing.TheVariants.{AtOnce as at_once, Counted as counted}
use Rattle.packed_readings.specs.Outcome.{Outcome, found, stops, onward, Judged, good, bad, judging, bit_from}
use Rattle.packed_readings.specs.Outcome.{field_from, block_from, IsField}

-- ---- numbers of items

abbrev pub stated_count : Bits → Outcome StatedCount
stated_count b =
    onward (bit_from b) (λ x r. if x
    then onward (bit_from r) (λ y s. if y
    then onward (field_from 6 s) (λ n t. found (in_parts n) t)  -- 11.9.3.8
    else onward (field_from 14 s) (λ n t. found (in_14_bits n) t))  -- 11.9.3.7
    else onward (field_from 7 r) (λ n s. found (in_7_bits n) s))  -- 11.9.3.6

-- If `full` is true a part may come: as the first one, and after a part of four times 16,384 items.
abbrev pub canonical_count : Bool → StatedCount → Judged Count
canonical_count full (in_7_bits n) = good (last n)
canonical_count full (in_14_bits n) = if nat_lt n 128 then bad NotCanonical else good (last n)
canonical_count full (in_parts m) = if full && (nat_lt 0 m && nat_lt m 5) then good (part m) else bad NotCanonical

abbrev pub count_from : Bool → Bits → Outcome Count
count_from full = judging (canonical_count full) stated_count

-- the bits of a number of items in its canonical form
pub data IsCount : Bool → Count → Bits → Type 0 where
  short_count : {full : Bool} {n : ℕ}
      → n < 128
      → IsCount full (last n) (false ∷ low_bits 7 n)  -- 11.9.3.6
  long_count : {full : Bool} {n : ℕ}
      → 128 ≤ n
      → n < 16384
      → IsCount full (last n) (true ∷ (false ∷ low_bits 14 n))  -- 11.9.3.7
  part_count : {m : ℕ}
      → 1 ≤ m
      → m ≤ 4
      → IsCount true (part m) (true ∷ (true ∷ low_bits 6 m))  -- 11.9.3.8

-- items with their numbers, part by part; if `full` is true, the items are all that are counted
pub data InParts : Bool → Items → Bits → Type 0 where
  last_items : {full : Bool} {h : Bits} (xs : Items)
      → IsCount full (last (length xs)) h
      → InParts full xs (h ++ all_bits xs)
  part_items : {m : ℕ} {h b : Bits} (xs ys : Items)
      → IsCount true (part m) h
      → length xs ≡ 16384 * m
      → InParts (m == 4) ys b
      → InParts true (xs ++ ys) (h ++ (all_bits xs ++ b))

-- ---- items after their number

-- values, and the bits of each
pub data EachHas {X : Type 0} (P : X → Bits → Type 0) : List X → Items → Type 0 where
  none_has : EachHas P [] []
  one_has : {v : X} {x : Bits} {vs : List X} {xs : Items}
      → P v x
      → EachHas P vs xs
      → EachHas P (v ∷ vs) (x ∷ xs)

-- n values, one after the other
pub record AreSeveral {X : Type 0} (P : X → Bits → Type 0) (n : ℕ) (vs : List X) (b : Bits) : Type 0 where
  pub items : Items
  pub are : EachHas P vs items
  pub many : length items ≡ n
  pub whole : b ≡ all_bits items

-- values after their number, which passes a test
pub record AreCounted {X : Type 0} (P : X → Bits → Type 0) (test : ℕ → Option Refusal) (vs : List X) (b : Bits)
    : Type 0 where
  pub items : Items
  pub are : EachHas P vs items
  pub passed : test (length items) ≡ None
  pub counted : Counted items b

-- a function that reads n items
abbrev pub Several : Type 0 → Type 0
Several X = ℕ → Bits → Outcome (List X)

-- the number of all items is tested once the last number is read; `before` items came before
abbrev pub total : (ℕ → Option Refusal) → ℕ → Count → Judged Count
total test before (part m) = good (part m)
total test before (last n) = elim (test (before + n)) [ None ↦ good (last n) | Some e ↦ bad e ]

-- the items of one number, after those before; more items follow a part
abbrev pub items_of : {X : Type 0} → Several X → (before : List X) → Count → Bits
    → (Bool → List X → Bits → Outcome (List X)) → Outcome (List X)
items_of items before (last n) r next = onward (items n r) (λ xs s. found (before ++ xs) s)
items_of items before (part m) r next = onward (items (16384 * m) r) (λ xs s. next (m == 4) (before ++ xs) s)

-- items part by part; fuel limits the number of parts, each of which takes some bits
abbrev pub parts_from : {X : Type 0} → ℕ → (ℕ → Option Refusal) → Several X → Bool → (before : List X) → Bits
    → Outcome (List X)
parts_from zero test items full before b = stops Truncated b
parts_from (suc fuel) test items full before b =
    onward (judging (total test (length before)) (count_from full) b) (λ c r.
    items_of items before c r (λ f xs s. parts_from fuel test items f xs s))

-- items after their number, refused if the number fails a test
abbrev pub counted_from : {X : Type 0} → (ℕ → Option Refusal) → Several X → Bits → Outcome (List X)
counted_from test items b = parts_from (suc (length b)) test items true [] b

abbrev pub any_total : ℕ → Option Refusal
any_total n = None

-- ---- octets and bits

abbrev pub octets_in : ℕ → Bits → List ℕ
octets_in zero b = []
octets_in (suc n) b = worth (take 8 b) ∷ octets_in n (drop 8 b)

abbrev pub several_octets : Several ℕ
several_octets n = block_from (8 * n) (octets_in n)

abbrev pub several_bits : Several Bool
several_bits n = block_from n (λ x. x)

abbrev pub IsOctet : ℕ → Bits → Type 0
IsOctet = IsField 8

-- octets after their number, such as those of an open type
abbrev pub octets_from : Bits → Outcome (List ℕ)
octets_from = counted_from any_total several_octets

-- ---- sizes

abbrev pub is_in_range : ℤ → Range → Bool
is_in_range z r = is_from r.least z && is_to r.greatest z

abbrev pub is_in_some : ℤ → List Range → Bool
is_in_some z [] = false
is_in_some z (r ∷ rs) = if is_in_range z r then true else is_in_some z rs

-- the constraint allows the number as a value
abbrev pub is_allowed : Constraint → ℤ → Bool
is_allowed c z = elim c.allowed [ None ↦ true | Some rs ↦ is_in_some z rs ]

-- the size l + n, from the least l to the greatest l + m
abbrev pub size_of : Constraint → (l m n : ℕ) → Judged Sizing
size_of c l m n =
    if nat_lt m n
    then bad Outside
    else (if is_allowed c (pos (l + n)) then good (at_once (l + n)) else bad Outside)

abbrev pub root_size : Constraint → (least greatest : Option ℤ) → Bits → Outcome Sizing
root_size c (Some (pos l)) (Some (pos u)) b =
    if nat_lt u 65536
    then judging (size_of c l (u - l)) (field_from (fewest_bits (u - l))) b  -- 11.9.4.1
    else found (counted false) b
root_size c l u b = found (counted false) b  -- 11.9.4.2

-- the size of an extensible SIZE comes after a bit, 1 if it is outside the root (16.6, 17.3, 20.4)
abbrev pub size_from : Constraint → Bits → Outcome Sizing
size_from c b =
    if c.visible.extensible
    then onward (bit_from b) (λ x r. if x
    then found (counted true) r
    else root_size c c.visible.least c.visible.greatest r)
    else root_size c c.visible.least c.visible.greatest b

-- why a number of items is refused that is given as one of the root, or as one outside it
abbrev pub size_fault : Constraint → Bool → ℕ → Option Refusal
size_fault c outside n =
    if is_in_root c.visible (pos n)
    then (if outside then Some NotCanonical else (if is_allowed c (pos n) then None else Some Outside))
    else (if outside && is_allowed c (pos n) then None else Some Outside)

abbrev pub after_size : {X : Type 0} → Constraint → Several X → Sizing → Bits → Outcome (List X)
after_size c items (at_once n) b = items n b
after_size c items (counted outside) b = counted_from (size_fault c outside) items b

-- items after their number, in the form that SIZE gives it
abbrev pub sized_from : {X : Type 0} → Constraint → Several X → Bits → Outcome (List X)
sized_from c items b = onward (size_from c b) (λ z r. after_size c items z r)

-- the bits of a size, before items
pub data IsSizing (c : Constraint) : Sizing → Bits → Type 0 where
  narrow_size : (l m n : ℕ)
      → c.visible.least ≡ Some (pos l)
      → c.visible.greatest ≡ Some (pos (l + m))
      → l + m < 65536
      → n ≤ m
      → IsAllowedSize c (l + n)
      → IsSizing c (at_once (l + n)) (root_bit c.visible.extensible ++ low_bits (fewest_bits m) n)  -- 11.9.4.1
  wide_size : (IsNarrow c.visible.greatest → ⊥)
      → IsSizing c (counted false) (root_bit c.visible.extensible)  -- 11.9.4.2
  outside_size : c.visible.extensible ≡ true
      → IsSizing c (counted true) (true ∷ [])  -- 16.6, 17.3, 20.4

-- items after the bits of their size: at once, or part by part
pub data InSize (c : Constraint) : Items → Bits → Type 0 where
  items_at_once : {h : Bits} (xs : Items)
      → IsSizing c (at_once (length xs)) h
      → InSize c xs (h ++ all_bits xs)
  items_in_parts : {outside : Bool} {h b : Bits} (xs : Items)
      → IsSizing c (counted outside) h
      → size_fault c outside (length xs) ≡ None
      → InParts true xs b
      → InSize c xs (h ++ b)

-- as many values as SIZE allows, in the form that SIZE gives them
pub record AreSized {X : Type 0} (P : X → Bits → Type 0) (c : Constraint) (vs : List X) (b : Bits) : Type 0 where
  pub items : Items
  pub are : EachHas P vs items
  pub allowed : IsAllowedSize c (length items)
  pub sized : Sized c.visible items b
