-- Names of fields that are arranged, and those that are not, as the checks find them one after another.
use Rattle.std.proofs.Common.{◌≡◌, ℕ, List, Some, Option, refl, sym, subst, true, false, arith, take}
use Rattle.std.specs.Prelude.{slice_get}
use Rattle.trees.specs.declared.types.ListKind.{ListKind}
use Rattle.trees.specs.declared.types.ListKind.TheVariants.{Sequence, Set, Choice}
use Rattle.trees.specs.Values.{Name}
use Rattle.names.specs.Modules.{OccursIn, AreDifferent}
use Rattle.type_table.specs.Table.{Part}
use Rattle.value_notations.specs.Notations.{part_names, IsPartOf, may_lack_value}
use Rattle.value_notations.specs.Wrong.{AreIn, IsMissing, IsMissingInGroup, strange, twice, lacking, lacking_in_group, jumbled}
use Rattle.values.specs.Arranged.{IsArranged, IsWrongField, IsRepeatedField, IsMissingPart, IsOutOfOrder, of_root, of_group}
use Rattle.values.specs.proving.Arranging.{IsAbsent, IsDue, IsJumbled, NoneDue, NoneMissing}
use Rattle.values.proofs.Lookups.{twice_of}
use Rattle.values.proofs.Missings.{places_of, none_missing, none_missing_before, one_missing, none_lacking, none_lacking_before, one_lacking}
use Rattle.values.proofs.Orders.{turned_none}

-- what has no field may be absent
abbrev pub AllThere : List Part → List (Option ℕ) → Type 0
AllThere cs ps = (i : ℕ) (c : Part) → IsAbsent cs ps i c → may_lack_value c ≡ true

-- what has no field isn't due
abbrev pub AllWhole : List Part → List (Option ℕ) → Type 0
AllWhole cs ps = (i : ℕ) (c : Part) → IsAbsent cs ps i c → IsDue c cs ps → ⊥

module _ (k : ListKind) (cs : List Part) (fs : List Name) where
  pub strange_at : (i : ℕ) →
      (x : Name) × (slice_get fs i ≡ Some x) × (OccursIn (part_names cs) x → ⊥) × AreIn (take i fs) (part_names cs) →
      IsWrongField k cs fs i
  strange_at i h = record { name = h.0; there = h.1; wrong = strange (i, h.1) h.2; known_before = h.3 }

  pub twice_at : (i : ℕ) → AreIn fs (part_names cs) →
      (x : Name) × (slice_get fs i ≡ Some x) × OccursIn (take i fs) x × AreDifferent (take i fs) → IsRepeatedField k cs fs i
  twice_at i a h =
      record {
        name = h.0;
        there = h.1;
        wrong = twice a (twice_of fs i h.0 h.1 h.2);
        again = h.2;
        distinct_before = h.3;
      }

  pub lacking_at : (ps : List (Option ℕ)) (i : ℕ) → ps ≡ places_of cs fs → AreDifferent (part_names cs) →
      AreIn fs (part_names cs) → AreDifferent fs →
      (c : Part) × IsAbsent cs ps i c × (may_lack_value c ≡ false) × NoneMissing cs ps i → IsMissingPart k cs fs i
  lacking_at ps i e s a d h =
      let m = one_missing cs fs i h.0 (subst (λ qs. IsAbsent cs qs i h.0) e h.1) h.2 in
      record {
        part = h.0;
        there = h.1.there;
        wrong = lacking a d m;
        first = of_root m (none_missing_before cs fs i s (subst (λ qs. NoneMissing cs qs i) e h.3));
      }

  pub due_at : (ps : List (Option ℕ)) (i : ℕ) → ps ≡ places_of cs fs → AllThere cs ps → AreDifferent (part_names cs) →
      AreIn fs (part_names cs) → AreDifferent fs →
      (c : Part) × IsAbsent cs ps i c × IsDue c cs ps × NoneDue cs ps i → IsMissingPart k cs fs i
  due_at ps i e t s a d h =
      let m = one_lacking cs fs i h.0 (subst (λ qs. IsAbsent cs qs i h.0) e h.1) (subst (λ qs. IsDue h.0 cs qs) e h.2) in
      record {
        part = h.0;
        there = h.1.there;
        wrong = lacking_in_group a d m;
        first = of_group (none_missing cs fs (subst (AllThere cs) e t)) m
            (none_lacking_before cs fs i s (subst (λ qs. NoneDue cs qs i) e h.3));
      }

  module _ (ps : List (Option ℕ)) (e : ps ≡ places_of cs fs)
      (m : AllThere cs ps)
      (n : AllWhole cs ps) where
    pub complete : (x : Name) → IsMissing cs fs x → ⊥
    complete = none_missing cs fs (subst (AllThere cs) e m)

    pub whole : (x : Name) → IsMissingInGroup cs fs x → ⊥
    whole = none_lacking cs fs (subst (AllWhole cs) e n)

    pub in_order : k ≡ Sequence → AreDifferent fs → IsPartOf fs (part_names cs) → IsArranged k cs fs ps
    in_order q d h =
        subst (λ (l : ListKind). IsArranged l cs fs ps) (sym q)
        (record { arranged = (d, h); complete = complete; whole = whole; placed = e })

    pub in_any_order : (k ≡ Sequence → ⊥) → (k ≡ Choice → ⊥) → AreDifferent fs → AreIn fs (part_names cs) → IsArranged k cs fs ps
    in_any_order s c d a = any k refl
      where
        any : (l : ListKind) → l ≡ k → IsArranged k cs fs ps
        any Sequence q = absurd (s (sym q))
        any Choice q = absurd (c (sym q))
        any Set q =
            subst (λ (l : ListKind). IsArranged l cs fs ps) q
            (record { arranged = (d, a); complete = complete; whole = whole; placed = e })

    pub disordered_at : (i : ℕ) → k ≡ Sequence → AreDifferent (part_names cs) → AreDifferent fs → AreIn fs (part_names cs) →
        IsJumbled (part_names cs) fs i × IsPartOf (take i fs) (part_names cs) → IsOutOfOrder k cs fs i
    disordered_at i q s d a h =
        let j = h.0 in
        let n = j.next in
        subst (λ (l : ListKind). IsOutOfOrder l cs fs i) (sym q)
        (record {
          before = j.before;
          next = j.next;
          name = j.name;
          other = j.other;
          there = j.there;
          other_there = j.other_there;
          wrong = jumbled a d complete whole (turned_none s j) j.turned
              (record { first = j.before; second = i; apart = omega (arith, n); here = j.other_there; there = j.there });
          ordered_before = h.1;
        })
