-- At most one fault of names is true, apart from `Memory`.
use Rattle.std.proofs.Common.{◌≡◌, ◌<◌, inl, inr, ℕ, List, refl, ap, arith}
use Rattle.trees.specs.declared.types.ListKind.{ListKind}
use Rattle.trees.specs.Values.{Name}
use Rattle.names.specs.Modules.{OccursIn, AreDifferent}
use Rattle.type_table.specs.Table.{Part}
use Rattle.value_notations.specs.Notations.{part_names}
use Rattle.value_notations.specs.Wrong.{AreIn, IsBefore, IsDisarranged, unknown_item, repeated, missing, out_of_order, strange, twice, lacking, lacking_in_group, jumbled}
use Rattle.values.specs.Arranged.{IsNamesFault, IsWrongField, IsRepeatedField, IsFirstMissing, IsMissingPart, IsOutOfOrder, of_root, of_group}
use Rattle.values.specs.declared.arranging.NamesFault.{NamesFault}
use Rattle.values.specs.declared.arranging.NamesFault.TheVariants.{Memory, Unknown, Repeated, Missing, OutOfOrder}
use Rattle.values.proofs.Lookups.{in_front, to_front}
use Rattle.values.proofs.Orders.{less_or_more, not_both, part_before}

-- a place that is neither before nor after another is the same
neither : (i j : ℕ) → (i < j → ⊥) → (j < i → ⊥) → i ≡ j
neither i j l m = elim (less_or_more i j) [
  | inl e ↦ e
  | inr h ↦ elim h [
    | inl a ↦ absurd (l a)
    | inr b ↦ absurd (m b)
  ]
]

-- ---- what a fault says of all names

strange_known : {k : ListKind} {cs : List Part} {fs : List Name} {x : Name} →
    IsDisarranged k cs fs (unknown_item x) → AreIn fs (part_names cs) → ⊥
strange_known {x = x} (strange s n) a = n (a x s)

strange_name : {k : ListKind} {cs : List Part} {fs : List Name} {x : Name} →
    IsDisarranged k cs fs (unknown_item x) → OccursIn (part_names cs) x → ⊥
strange_name (strange s n) = n

twice_known : {k : ListKind} {cs : List Part} {fs : List Name} {x : Name} →
    IsDisarranged k cs fs (repeated x) → AreIn fs (part_names cs)
twice_known (twice a s) = a

twice_occurs : {k : ListKind} {cs : List Part} {fs : List Name} {x : Name} →
    IsDisarranged k cs fs (repeated x) → AreDifferent fs → ⊥
twice_occurs {x = x} (twice a s) d = d x s

missing_known : {k : ListKind} {cs : List Part} {fs : List Name} {x : Name} →
    IsDisarranged k cs fs (missing x) → AreIn fs (part_names cs)
missing_known (lacking a d m) = a
missing_known (lacking_in_group a d m) = a

missing_distinct : {k : ListKind} {cs : List Part} {fs : List Name} {x : Name} →
    IsDisarranged k cs fs (missing x) → AreDifferent fs
missing_distinct (lacking a d m) = d
missing_distinct (lacking_in_group a d m) = d

disordered_known : {k : ListKind} {cs : List Part} {fs : List Name} {x y : Name} →
    IsDisarranged k cs fs (out_of_order x y) → AreIn fs (part_names cs)
disordered_known (jumbled a d m n h b o) = a

disordered_distinct : {k : ListKind} {cs : List Part} {fs : List Name} {x y : Name} →
    IsDisarranged k cs fs (out_of_order x y) → AreDifferent fs
disordered_distinct (jumbled a d m n h b o) = d

disordered_turned : {k : ListKind} {cs : List Part} {fs : List Name} {x y : Name} →
    IsDisarranged k cs fs (out_of_order x y) → IsBefore (part_names cs) x y
disordered_turned (jumbled a d m n h b o) = b

disordered_there : {k : ListKind} {cs : List Part} {fs : List Name} {x y z : Name} →
    IsDisarranged k cs fs (out_of_order x y) → IsDisarranged k cs fs (missing z) → ⊥
disordered_there {z = z} (jumbled a d m n h b o) (lacking e f g) = m z g
disordered_there {z = z} (jumbled a d m n h b o) (lacking_in_group e f g) = n z g

module _ (k : ListKind) (cs : List Part) (fs : List Name) where
  -- ---- of two faults of a kind neither is before the other

  wrong_later : (i j : ℕ) → IsWrongField k cs fs i → IsWrongField k cs fs j → i < j → ⊥
  wrong_later i j a b l = strange_name a.wrong (b.known_before a.name (i, to_front fs j i a.name l a.there))

  repeated_later : (i j : ℕ) → IsRepeatedField k cs fs i → IsRepeatedField k cs fs j → i < j → ⊥
  repeated_later i j a b l =
      let h = in_front fs i a.again.0 a.name a.again.1 in
      let m = h.0 in
      b.distinct_before a.name
      (record {
        first = a.again.0;
        second = i;
        apart = m;
        here = to_front fs j a.again.0 a.name (omega (arith, l, m)) h.1;
        there = to_front fs j i a.name l a.there;
      })

  missing_later : (i j : ℕ) → IsMissingPart k cs fs i → IsMissingPart k cs fs j → i < j → ⊥
  missing_later i j a b l = by a.first b.first
    where
      by : IsFirstMissing cs fs i a.part.name → IsFirstMissing cs fs j b.part.name → ⊥
      by (of_root m n) (of_root o q) = q i a.part l a.there m
      by (of_root m n) (of_group none o q) = none a.part.name m
      by (of_group none m n) (of_root o q) = none b.part.name o
      by (of_group none m n) (of_group never o q) = q i a.part l a.there m

  disordered_later : AreDifferent (part_names cs) → (i j : ℕ) → IsOutOfOrder k cs fs i → IsOutOfOrder k cs fs j → i < j → ⊥
  disordered_later d i j a b l =
      let n = a.next in
      not_both a.name a.other d (disordered_turned a.wrong)
      (part_before a.before i a.other a.name b.ordered_before (omega (arith, n))
      (to_front fs j a.before a.other (omega (arith, n, l)) a.other_there) (to_front fs j i a.name l a.there))

  -- ---- one fault

  pub one : AreDifferent (part_names cs) → (f g : NamesFault) → (f ≡ Memory → ⊥) → (g ≡ Memory → ⊥) →
      IsNamesFault k cs fs f → IsNamesFault k cs fs g → f ≡ g
  one d Memory g m n a b = absurd (m refl)
  one d f Memory m n a b = absurd (n refl)
  one d (Unknown i) (Unknown j) m n a b = ap Unknown (neither i j (wrong_later i j a b) (wrong_later j i b a))
  one d (Unknown i) (Repeated j) m n a b = absurd (strange_known a.wrong (twice_known b.wrong))
  one d (Unknown i) (Missing j) m n a b = absurd (strange_known a.wrong (missing_known b.wrong))
  one d (Unknown i) (OutOfOrder j) m n a b = absurd (strange_known a.wrong (disordered_known b.wrong))
  one d (Repeated i) (Unknown j) m n a b = absurd (strange_known b.wrong (twice_known a.wrong))
  one d (Repeated i) (Repeated j) m n a b = ap Repeated (neither i j (repeated_later i j a b) (repeated_later j i b a))
  one d (Repeated i) (Missing j) m n a b = absurd (twice_occurs a.wrong (missing_distinct b.wrong))
  one d (Repeated i) (OutOfOrder j) m n a b = absurd (twice_occurs a.wrong (disordered_distinct b.wrong))
  one d (Missing i) (Unknown j) m n a b = absurd (strange_known b.wrong (missing_known a.wrong))
  one d (Missing i) (Repeated j) m n a b = absurd (twice_occurs b.wrong (missing_distinct a.wrong))
  one d (Missing i) (Missing j) m n a b = ap Missing (neither i j (missing_later i j a b) (missing_later j i b a))
  one d (Missing i) (OutOfOrder j) m n a b = absurd (disordered_there b.wrong a.wrong)
  one d (OutOfOrder i) (Unknown j) m n a b = absurd (strange_known b.wrong (disordered_known a.wrong))
  one d (OutOfOrder i) (Repeated j) m n a b = absurd (twice_occurs b.wrong (disordered_distinct a.wrong))
  one d (OutOfOrder i) (Missing j) m n a b = absurd (disordered_there a.wrong b.wrong)
  one d (OutOfOrder i) (OutOfOrder j) m n a b = ap OutOfOrder (neither i j (disordered_later d i j a b) (disordered_later d j i b a))
