-- The list of a type has at most one first fault, at one place.
use Rattle.std.proofs.Common.{◌≡◌, ◌<◌, ◌≤◌, ◌+◌, ◌^◌, ℕ, zero, suc, List, [], ◌∷◌, length, map, take, Some, inl, inr, refl, sym, subst, ap, ◌∙◌, arith}
use Rattle.std.specs.Prelude.{pos, slice_get, option_map, Option, None, Vec}
use Rattle.std.specs.Global.{Global}
use Rattle.std.proofs.lemmas.Bool.{cases_order}
use Rattle.std.proofs.lemmas.List.{length-map}
use Rattle.std.proofs.lemmas.Option.{same_Some, slice_get_within}
use Rattle.trees.specs.declared.location.SourceLocation.{SourceLocation}
use Rattle.trees.specs.declared.types.EnumeratedItem.{EnumeratedItem}
use Rattle.trees.specs.declared.types.EnumeratedSyntax.{EnumeratedSyntax}
use Rattle.trees.specs.declared.types.NamedBit.{NamedBit}
use Rattle.trees.specs.declared.types.NamedNumber.{NamedNumber}
use Rattle.trees.specs.declared.types.Simple.{Simple}
use Rattle.trees.specs.declared.types.Simple.TheVariants as simples
use Rattle.trees.specs.Types.{bit_of, item_of}
use Rattle.trees.specs.Values.{Name, name_at}
use Rattle.names.specs.declared.fault.Limit.{Limit}
use Rattle.names.specs.declared.fault.Limit.TheVariants as limits
use Rattle.names.specs.declared.fault.NameFault.{NameFault}
use Rattle.names.specs.declared.fault.NameFault.TheVariants as faults
use Rattle.names.specs.Faults.{fault_module, fault_name}
use Rattle.names.specs.Modules.{AreDifferent, OccursIn}
use Rattle.names.specs.proving.Distinct.{mapped, of_front, right, to_front}
use Rattle.names.specs.proving.Reports.{with_memory}
use Rattle.type_table.specs.declared.table.ListMember.{ListMember}
use Rattle.type_table.specs.declared.table.Shape.{Shape}
use Rattle.type_table.specs.declared.table.Shape.TheVariants as shapes
use Rattle.type_table.specs.FirstInList.{AreNear, HasFewItems, HasFewMembers, IsFarBit, IsFirstBit, IsFirstInList, IsFirstItem, IsFirstMember, IsFirstNumber, IsFirstPlain, IsGreatItem, IsItemNumber, IsPassedItem, IsPastMember, IsSameLocation, IsSecond, Placed, ReportsAlike, ReportsPassed, ReportsSecond}
use Rattle.type_table.specs.FirstInList.{all_names, all_places, bit_names, bit_places, bits_named, item_places, items_after, items_or_none, member_places, members_named, number_names, numbers_given, numbers_named}
use Rattle.type_table.specs.Items.{addition_numbers, additions_of, numbers_of, root_numbers}
use Rattle.type_table.specs.Lists.{AreWithinLimit}
use Rattle.type_table.specs.Seen.{more_of, root_items}
use Rattle.type_table.proofs.FirstFaults.{addition_split, root_split}

-- ---- fronts of lists

-- an element that is also before its place is not among distinct ones
not_both : {X : Type 0} (xs : List X) (i j : ℕ) (x : X) → i < j → slice_get xs i ≡ Some x → OccursIn (take i xs) x →
    AreDifferent (take j xs) → ⊥
not_both xs i j x l h s d =
    let f = of_front xs i s.0 x s.1 in
    let k = f.0 in
    d x (record { first = s.0; second = i; apart = k; here = to_front xs j s.0 x (omega (arith, l, k)) f.1; there = to_front xs j i x l h })

not_all : {X : Type 0} (xs : List X) (i : ℕ) (x : X) → slice_get xs i ≡ Some x → OccursIn (take i xs) x → AreDifferent xs → ⊥
not_all xs i x h s d =
    let f = of_front xs i s.0 x s.1 in
    d x (record { first = s.0; second = i; apart = f.0; here = f.1; there = h })

by_order : (i j : ℕ) → (i < j → ⊥) → (j < i → ⊥) → i ≡ j
by_order i j f g = elim (cases_order i j) [ inl q ↦ q | inr r ↦ elim r [ inl l ↦ absurd (f l) | inr l ↦ absurd (g l) ] ]

one_second : {X : Type 0} (names : List Placed) (xs : List X) (i j : ℕ) (s t : SourceLocation) → IsSecond names xs i s →
    IsSecond names xs j t → i ≡ j
one_second names xs i j s t a b =
    by_order i j (λ l. not_both xs i j a.element l a.there a.again b.before) (λ l. not_both xs j i b.element l b.there b.again a.before)

same_location : (names : List Placed) (i j : ℕ) (m n : Placed) (M : Name) (s t : SourceLocation) (x y : Name) →
    slice_get names i ≡ Some m → slice_get names j ≡ Some n → i ≡ j → fault_module s ≡ M → fault_module t ≡ M →
    fault_name s ≡ x → fault_name t ≡ y → (m ≡ n → x ≡ y) → s.at ≡ m.at → t.at ≡ n.at → IsSameLocation s t
same_location names i j m n M s t x y a b q u v f g e p h =
    let k : m ≡ n = same_Some m n (sym a ∙ ap (λ z. slice_get names z) q ∙ b) in
    (u ∙ sym v, f ∙ e k ∙ sym g, p ∙ ap (λ (z : Placed). z.at) k ∙ sym h)

-- ---- two faults

module _ (M a : Name) where
  module _ {X Y : Type 0} (names : List Placed) (xs : List X) (ys : List Y) (P Q : ℕ → Type 0)
      (one : (i j : ℕ) (s t : SourceLocation) → IsSecond names xs i s → P i → IsSecond names ys j t → Q j → i ≡ j) where
    two_second : (e f : NameFault) → ReportsSecond M names xs P e → ReportsSecond M names ys Q f → ReportsAlike e f
    two_second faults.Memory f u v = tt
    two_second (faults.Twice s) faults.Memory u v = tt
    two_second (faults.Twice s) (faults.Twice t) u v =
        let p = u.2 in
        let q = v.2 in
        same_location names u.1 v.1 p.name q.name M s t (name_at p.name) (name_at q.name) p.named q.named (one u.1 v.1 s t p u.3 q v.3) u.0 v.0 p.reported q.reported (λ k. ap name_at k) p.at q.at
    two_second (faults.Twice s) (faults.Limit l t) u v = absurd v
    two_second (faults.Twice s) (faults.UnknownName t) u v = absurd v
    two_second (faults.Twice s) (faults.NotExported t) u v = absurd v
    two_second (faults.Twice s) (faults.Circular t) u v = absurd v
    two_second (faults.Twice s) (faults.UnknownModule t) u v = absurd v
    two_second (faults.Limit l s) f u v = absurd u
    two_second (faults.UnknownName s) f u v = absurd u
    two_second (faults.NotExported s) f u v = absurd u
    two_second (faults.Circular s) f u v = absurd u
    two_second (faults.UnknownModule s) f u v = absurd u

  module _ (l k : Limit) (names more : List Placed) (P Q : ℕ → Type 0)
      (one : (i j : ℕ) (m n : Placed) → slice_get names i ≡ Some m → P i → slice_get more j ≡ Some n → Q j →
      (l ≡ k) × (names ≡ more) × (i ≡ j)) where
    two_passed : (e f : NameFault) → ReportsPassed l M a names P e → ReportsPassed k M a more Q f → ReportsAlike e f
    two_passed faults.Memory f u v = tt
    two_passed (faults.Limit h s) faults.Memory u v = tt
    two_passed (faults.Limit h s) (faults.Limit g t) u v =
        let r = one u.3 v.3 u.4 v.4 u.5 u.7 v.5 v.7 in
        let there = ap (λ (z : List Placed). slice_get z v.3) r.1 ∙ v.5 in
        (u.0 ∙ r.0 ∙ sym v.0, same_location names u.3 v.3 u.4 v.4 M s t a a u.5 there r.2 u.1 v.1 u.2 v.2 (λ k. refl) u.6 v.6)
    two_passed (faults.Limit h s) (faults.Twice t) u v = absurd v
    two_passed (faults.Limit h s) (faults.UnknownName t) u v = absurd v
    two_passed (faults.Limit h s) (faults.NotExported t) u v = absurd v
    two_passed (faults.Limit h s) (faults.Circular t) u v = absurd v
    two_passed (faults.Limit h s) (faults.UnknownModule t) u v = absurd v
    two_passed (faults.Twice s) f u v = absurd u
    two_passed (faults.UnknownName s) f u v = absurd u
    two_passed (faults.NotExported s) f u v = absurd u
    two_passed (faults.Circular s) f u v = absurd u
    two_passed (faults.UnknownModule s) f u v = absurd u

  module _ {X : Type 0} (l : Limit) (names more : List Placed) (xs : List X) (P Q : ℕ → Type 0)
      (none : (i j : ℕ) (s : SourceLocation) (n : Placed) → IsSecond names xs i s → P i → slice_get more j ≡ Some n → Q j → ⊥) where
    second_passed : (e f : NameFault) → ReportsSecond M names xs P e → ReportsPassed l M a more Q f → ReportsAlike e f
    second_passed faults.Memory f u v = tt
    second_passed (faults.Twice s) faults.Memory u v = tt
    second_passed (faults.Twice s) (faults.Limit h t) u v = absurd (none u.1 v.3 s v.4 u.2 u.3 v.5 v.7)
    second_passed (faults.Twice s) (faults.Twice t) u v = absurd v
    second_passed (faults.Twice s) (faults.UnknownName t) u v = absurd v
    second_passed (faults.Twice s) (faults.NotExported t) u v = absurd v
    second_passed (faults.Twice s) (faults.Circular t) u v = absurd v
    second_passed (faults.Twice s) (faults.UnknownModule t) u v = absurd v
    second_passed (faults.Limit h s) f u v = absurd u
    second_passed (faults.UnknownName s) f u v = absurd u
    second_passed (faults.NotExported s) f u v = absurd u
    second_passed (faults.Circular s) f u v = absurd u
    second_passed (faults.UnknownModule s) f u v = absurd u

    passed_second : (e f : NameFault) → ReportsPassed l M a more Q e → ReportsSecond M names xs P f → ReportsAlike e f
    passed_second e faults.Memory u v = with_memory e
    passed_second faults.Memory (faults.Twice t) u v = tt
    passed_second (faults.Limit h s) (faults.Twice t) u v = absurd (none v.1 u.3 t u.4 v.2 v.3 u.5 u.7)
    passed_second (faults.Twice s) (faults.Twice t) u v = absurd u
    passed_second (faults.UnknownName s) (faults.Twice t) u v = absurd u
    passed_second (faults.NotExported s) (faults.Twice t) u v = absurd u
    passed_second (faults.Circular s) (faults.Twice t) u v = absurd u
    passed_second (faults.UnknownModule s) (faults.Twice t) u v = absurd u
    passed_second e (faults.Limit h t) u v = absurd v
    passed_second e (faults.UnknownName t) u v = absurd v
    passed_second e (faults.NotExported t) u v = absurd v
    passed_second e (faults.Circular t) u v = absurd v
    passed_second e (faults.UnknownModule t) u v = absurd v

  -- ---- named numbers

  module _ (ns : List NamedNumber) where
    name_or_number : (i j : ℕ) (s t : SourceLocation) → IsSecond (number_names ns) (numbers_named ns) i s →
        AreDifferent (take i (numbers_given ns)) → IsSecond (number_names ns) (numbers_given ns) j t →
        AreDifferent (take (j + 1) (numbers_named ns)) → ⊥
    name_or_number i j s t p d q g =
        elim (cases_order i j) [
          | inl r ↦ not_both (numbers_named ns) i (j + 1) p.element (omega (arith, r)) p.there p.again g
          | inr r ↦ elim r [
            | inl l ↦ not_both (numbers_named ns) i (j + 1) p.element (omega (arith, l)) p.there p.again g
            | inr l ↦ not_both (numbers_given ns) j i q.element l q.there q.again d
          ]
        ]

    one_number : (e f : NameFault) → IsFirstNumber M ns e → IsFirstNumber M ns f → ReportsAlike e f
    one_number e f (inl u) (inl v) = two_second (number_names ns) (numbers_named ns) (numbers_named ns) _ _ (λ i j s t p d q g. one_second (number_names ns) (numbers_named ns) i j s t p q) e f u v
    one_number e f (inl u) (inr v) = two_second (number_names ns) (numbers_named ns) (numbers_given ns) _ _ (λ i j s t p d q g. absurd (name_or_number i j s t p d q g)) e f u v
    one_number e f (inr u) (inl v) = two_second (number_names ns) (numbers_given ns) (numbers_named ns) _ _ (λ i j s t p d q g. absurd (name_or_number j i t s q g p d)) e f u v
    one_number e f (inr u) (inr v) = two_second (number_names ns) (numbers_given ns) (numbers_given ns) _ _ (λ i j s t p d q g. one_second (number_names ns) (numbers_given ns) i j s t p q) e f u v

  -- ---- named bits

  module _ (bs : List NamedBit) where
    far_not_near : (i j : ℕ) → IsFarBit bs i → AreNear j bs → i < j → ⊥
    far_not_near i j f n l =
        let o = mapped (λ (b : Name × ℕ). b.1) (map bit_of bs) i f.place f.there in
        let low = n i o.0 l o.1 in
        let same = o.2 in
        let far = f.far in
        absurd (omega (arith, low, same, far))

    name_or_far : (i j : ℕ) (s : SourceLocation) → IsSecond (bit_names bs) (bits_named bs) i s → AreNear i bs → IsFarBit bs j → ⊥
    name_or_far i j s p n f =
        elim (cases_order j i) [
          | inl r ↦ not_both (bits_named bs) i (j + 1) p.element (omega (arith, r)) p.there p.again f.names
          | inr r ↦ elim r [
            | inl l ↦ far_not_near j i f n l
            | inr l ↦ not_both (bits_named bs) i (j + 1) p.element (omega (arith, l)) p.there p.again f.names
          ]
        ]

    place_or_far : (i j : ℕ) (s : SourceLocation) → IsSecond (bit_names bs) (bit_places bs) i s → AreNear (i + 1) bs →
        IsFarBit bs j → ⊥
    place_or_far i j s p n f =
        elim (cases_order j i) [
          | inl r ↦ far_not_near j (i + 1) f n (omega (arith, r))
          | inr r ↦ elim r [
            | inl l ↦ far_not_near j (i + 1) f n (omega (arith, l))
            | inr l ↦ not_both (bit_places bs) i j p.element l p.there p.again f.places
          ]
        ]

    name_or_place : (i j : ℕ) (s t : SourceLocation) → IsSecond (bit_names bs) (bits_named bs) i s →
        AreDifferent (take i (bit_places bs)) → IsSecond (bit_names bs) (bit_places bs) j t →
        AreDifferent (take (j + 1) (bits_named bs)) → ⊥
    name_or_place i j s t p d q g =
        elim (cases_order i j) [
          | inl r ↦ not_both (bits_named bs) i (j + 1) p.element (omega (arith, r)) p.there p.again g
          | inr r ↦ elim r [
            | inl l ↦ not_both (bits_named bs) i (j + 1) p.element (omega (arith, l)) p.there p.again g
            | inr l ↦ not_both (bit_places bs) j i q.element l q.there q.again d
          ]
        ]

    one_far : (i j : ℕ) → IsFarBit bs i → IsFarBit bs j → i ≡ j
    one_far i j f g = by_order i j (far_not_near i j f g.near) (far_not_near j i g f.near)

    one_bit : (e f : NameFault) → IsFirstBit M a bs e → IsFirstBit M a bs f → ReportsAlike e f
    one_bit e f (inl u) (inl v) = two_second (bit_names bs) (bits_named bs) (bits_named bs) _ _ (λ i j s t p d q g. one_second (bit_names bs) (bits_named bs) i j s t p q) e f u v
    one_bit e f (inl u) (inr (inl v)) = second_passed limits.NamedBit (bit_names bs) (bit_names bs) (bits_named bs) _ (IsFarBit bs) (λ i j s n p d h g. name_or_far i j s p d.1 g) e f u v
    one_bit e f (inl u) (inr (inr v)) = two_second (bit_names bs) (bits_named bs) (bit_places bs) _ _ (λ i j s t p d q g. absurd (name_or_place i j s t p d.0 q g.0)) e f u v
    one_bit e f (inr (inl u)) (inl v) = passed_second limits.NamedBit (bit_names bs) (bit_names bs) (bits_named bs) _ (IsFarBit bs) (λ i j s n p d h g. name_or_far i j s p d.1 g) e f u v
    one_bit e f (inr (inl u)) (inr (inl v)) = two_passed limits.NamedBit limits.NamedBit (bit_names bs) (bit_names bs) (IsFarBit bs) (IsFarBit bs) (λ i j m n p d q g. (refl, refl, one_far i j d g)) e f u v
    one_bit e f (inr (inl u)) (inr (inr v)) = passed_second limits.NamedBit (bit_names bs) (bit_names bs) (bit_places bs) _ (IsFarBit bs) (λ i j s n p d h g. place_or_far i j s p d.1 g) e f u v
    one_bit e f (inr (inr u)) (inl v) = two_second (bit_names bs) (bit_places bs) (bits_named bs) _ _ (λ i j s t p d q g. absurd (name_or_place j i t s q g.0 p d.0)) e f u v
    one_bit e f (inr (inr u)) (inr (inl v)) = second_passed limits.NamedBit (bit_names bs) (bit_names bs) (bit_places bs) _ (IsFarBit bs) (λ i j s n p d h g. place_or_far i j s p d.1 g) e f u v
    one_bit e f (inr (inr u)) (inr (inr v)) = two_second (bit_names bs) (bit_places bs) (bit_places bs) _ _ (λ i j s t p d q g. one_second (bit_names bs) (bit_places bs) i j s t p q) e f u v

  -- ---- enumerations

  module _ (e : EnumeratedSyntax) where
    behind : (o : Option (Vec EnumeratedItem Global)) →
        map item_of (items_or_none o) ≡ additions_of (option_map (λ (v : Vec EnumeratedItem Global). map item_of v.items) o)
    behind None = refl
    behind (Some v) = refl

    many_root : (i : ℕ) (n : Placed) → slice_get (item_places e.root.items) i ≡ Some n → i ≡ 1024 →
        length (root_items e) ≤ 1024 → ⊥
    many_root i n h q few =
        let w = slice_get_within (item_places e.root.items) i n h in
        absurd (omega (arith, w, q, few, length-map e.root.items (λ (k : EnumeratedItem). k.name), length-map e.root.items item_of))

    many_more : (i : ℕ) (n : Placed) → slice_get (item_places (items_after e)) i ≡ Some n → i ≡ 64 →
        length (more_of e) ≤ 64 → ⊥
    many_more i n h q few =
        let w = slice_get_within (item_places (items_after e)) i n h in
        absurd (omega (arith, w, q, few, length-map (items_after e) (λ (k : EnumeratedItem). k.name), length-map (items_after e) item_of, ap length (behind e.additions)))

    great_not_within : (i : ℕ) → IsGreatItem e i → AreWithinLimit (numbers_of (root_items e) (more_of e)) → ⊥
    great_not_within i g w =
        let l = w (length (root_numbers (root_items e)) + i) (pos (2 ^ 127)) (right (root_numbers (root_items e)) (addition_numbers (root_items e) (more_of e)) i ∙ g.great) in
        absurd (omega (arith, l))

    great_before : (i j : ℕ) → IsGreatItem e i → IsGreatItem e j → i < j → ⊥
    great_before i j g h l =
        let w = h.before i (pos (2 ^ 127)) (to_front (addition_numbers (root_items e) (more_of e)) j i (pos (2 ^ 127)) l g.great) in
        absurd (omega (arith, w))

    one_great : (i j : ℕ) → IsGreatItem e i → IsGreatItem e j → i ≡ j
    one_great i j g h = by_order i j (great_before i j g h) (great_before j i h g)

    two_passed_items : (b f : NameFault) → IsPassedItem M a e b → IsPassedItem M a e f → ReportsAlike b f
    two_passed_items b f (inl u) (inl v) = two_passed limits.Items limits.Items (item_places e.root.items) (item_places e.root.items) _ _ (λ i j m n p d q g. (refl, refl, d ∙ sym g)) b f u v
    two_passed_items b f (inl u) (inr v) = two_passed limits.Items limits.Items (item_places e.root.items) (item_places (items_after e)) _ _ (λ i j m n p d q g. absurd (many_root i m p d g.1)) b f u v
    two_passed_items b f (inr u) (inl v) = two_passed limits.Items limits.Items (item_places (items_after e)) (item_places e.root.items) _ _ (λ i j m n p d q g. absurd (many_root j n q g d.1)) b f u v
    two_passed_items b f (inr u) (inr v) = two_passed limits.Items limits.Items (item_places (items_after e)) (item_places (items_after e)) _ _ (λ i j m n p d q g. (refl, refl, d.0 ∙ sym g.0)) b f u v

    -- a passed limit, and a fault that comes only where no limit is passed
    module _ {X : Type 0} (xs : List X) (P : ℕ → Type 0) (few : (i : ℕ) → P i → HasFewItems e) where
      passed_later : (b f : NameFault) → IsPassedItem M a e b → ReportsSecond M (all_places e) xs P f → ReportsAlike b f
      passed_later b f (inl u) v = passed_second limits.Items (all_places e) (item_places e.root.items) xs P _ (λ i j s n p d h g. many_root j n h g (few i d).0) b f u v
      passed_later b f (inr u) v = passed_second limits.Items (all_places e) (item_places (items_after e)) xs P _ (λ i j s n p d h g. many_more j n h g.0 (few i d).1) b f u v

      later_passed : (b f : NameFault) → ReportsSecond M (all_places e) xs P b → IsPassedItem M a e f → ReportsAlike b f
      later_passed b f u (inl v) = second_passed limits.Items (all_places e) (item_places e.root.items) xs P _ (λ i j s n p d h g. many_root j n h g (few i d).0) b f u v
      later_passed b f u (inr v) = second_passed limits.Items (all_places e) (item_places (items_after e)) xs P _ (λ i j s n p d h g. many_more j n h g.0 (few i d).1) b f u v

    passed_number : (b f : NameFault) → IsPassedItem M a e b → IsItemNumber M a e f → ReportsAlike b f
    passed_number b f (inl u) (inl v) = two_passed limits.Items limits.Integer (item_places e.root.items) (item_places (items_after e)) _ (IsGreatItem e) (λ i j m n p d q g. absurd (many_root i m p d g.few.0)) b f u v
    passed_number b f (inr u) (inl v) = two_passed limits.Items limits.Integer (item_places (items_after e)) (item_places (items_after e)) _ (IsGreatItem e) (λ i j m n p d q g. absurd (many_more i m p d.0 g.few.1)) b f u v
    passed_number b f u (inr v) = passed_later (numbers_of (root_items e) (more_of e)) _ (λ i p. p.0) b f u v

    number_passed : (b f : NameFault) → IsItemNumber M a e b → IsPassedItem M a e f → ReportsAlike b f
    number_passed b f (inl u) (inl v) = two_passed limits.Integer limits.Items (item_places (items_after e)) (item_places e.root.items) (IsGreatItem e) _ (λ i j m n p d q g. absurd (many_root j n q g d.few.0)) b f u v
    number_passed b f (inl u) (inr v) = two_passed limits.Integer limits.Items (item_places (items_after e)) (item_places (items_after e)) (IsGreatItem e) _ (λ i j m n p d q g. absurd (many_more j n q g.0 d.few.1)) b f u v
    number_passed b f (inr u) v = later_passed (numbers_of (root_items e) (more_of e)) _ (λ i p. p.0) b f u v

    name_number : (b f : NameFault) → ReportsSecond M (all_places e) (all_names e) (λ i. HasFewItems e) b → IsItemNumber M a e f →
        ReportsAlike b f
    name_number b f u (inl v) = second_passed limits.Integer (all_places e) (item_places (items_after e)) (all_names e) _ (IsGreatItem e) (λ i j s n p d h g. not_all (all_names e) i p.element p.there p.again g.names) b f u v
    name_number b f u (inr v) = two_second (all_places e) (all_names e) (numbers_of (root_items e) (more_of e)) _ _ (λ i j s t p d q g. absurd (not_all (all_names e) i p.element p.there p.again g.1)) b f u v

    number_name : (b f : NameFault) → IsItemNumber M a e b → ReportsSecond M (all_places e) (all_names e) (λ i. HasFewItems e) f →
        ReportsAlike b f
    number_name b f (inl u) v = passed_second limits.Integer (all_places e) (item_places (items_after e)) (all_names e) _ (IsGreatItem e) (λ i j s n p d h g. not_all (all_names e) i p.element p.there p.again g.names) b f u v
    number_name b f (inr u) v = two_second (all_places e) (numbers_of (root_items e) (more_of e)) (all_names e) _ _ (λ i j s t p d q g. absurd (not_all (all_names e) j q.element q.there q.again d.1)) b f u v

    two_numbers : (b f : NameFault) → IsItemNumber M a e b → IsItemNumber M a e f → ReportsAlike b f
    two_numbers b f (inl u) (inl v) = two_passed limits.Integer limits.Integer (item_places (items_after e)) (item_places (items_after e)) (IsGreatItem e) (IsGreatItem e) (λ i j m n p d q g. (refl, refl, one_great i j d g)) b f u v
    two_numbers b f (inl u) (inr v) = passed_second limits.Integer (all_places e) (item_places (items_after e)) (numbers_of (root_items e) (more_of e)) _ (IsGreatItem e) (λ i j s n p d h g. great_not_within j g d.2) b f u v
    two_numbers b f (inr u) (inl v) = second_passed limits.Integer (all_places e) (item_places (items_after e)) (numbers_of (root_items e) (more_of e)) _ (IsGreatItem e) (λ i j s n p d h g. great_not_within j g d.2) b f u v
    two_numbers b f (inr u) (inr v) = two_second (all_places e) (numbers_of (root_items e) (more_of e)) (numbers_of (root_items e) (more_of e)) _ _ (λ i j s t p d q g. one_second (all_places e) (numbers_of (root_items e) (more_of e)) i j s t p q) b f u v

    one_item : (b f : NameFault) → IsFirstItem M a e b → IsFirstItem M a e f → ReportsAlike b f
    one_item b f (inl u) (inl v) = two_passed_items b f u v
    one_item b f (inl u) (inr (inl v)) = passed_later (all_names e) _ (λ i p. p) b f u v
    one_item b f (inl u) (inr (inr v)) = passed_number b f u v
    one_item b f (inr (inl u)) (inl v) = later_passed (all_names e) _ (λ i p. p) b f u v
    one_item b f (inr (inl u)) (inr (inl v)) = two_second (all_places e) (all_names e) (all_names e) _ _ (λ i j s t p d q g. one_second (all_places e) (all_names e) i j s t p q) b f u v
    one_item b f (inr (inl u)) (inr (inr v)) = name_number b f u v
    one_item b f (inr (inr u)) (inl v) = number_passed b f u v
    one_item b f (inr (inr u)) (inr (inl v)) = number_name b f u v
    one_item b f (inr (inr u)) (inr (inr v)) = two_numbers b f u v

  -- ---- members

  fewer : (n : ℕ) (cs : List ListMember) → HasFewMembers cs → HasFewMembers (take n cs)
  fewer n cs f = let a = f.0 in let b = f.1 in (omega (arith, a, root_split n cs), omega (arith, b, addition_split n cs))

  take_take : {X : Type 0} (n m : ℕ) (xs : List X) → n ≤ m → take n (take m xs) ≡ take n xs
  take_take zero m xs l = refl
  take_take (suc n) zero xs l = absurd (omega (arith, l))
  take_take (suc n) (suc m) [] l = refl
  take_take (suc n) (suc m) (x ∷ xs) l = ap (λ r. x ∷ r) (take_take n m xs (omega (arith, l)))

  module _ (cs : List ListMember) where
    past_before : (i j : ℕ) → IsPastMember cs i → IsPastMember cs j → i < j → ⊥
    past_before i j p q l = p.1 (subst HasFewMembers (take_take (i + 1) j cs (omega (arith, l))) (fewer (i + 1) (take j cs) q.0))

    one_past : (i j : ℕ) → IsPastMember cs i → IsPastMember cs j → i ≡ j
    one_past i j p q = by_order i j (past_before i j p q) (past_before j i q p)

    one_member : (e f : NameFault) → IsFirstMember M a cs e → IsFirstMember M a cs f → ReportsAlike e f
    one_member e f (inl u) (inl v) = two_passed limits.Members limits.Members (member_places cs) (member_places cs) (IsPastMember cs) (IsPastMember cs) (λ i j m n p d q g. (refl, refl, one_past i j d g)) e f u v
    one_member e f (inl u) (inr v) = passed_second limits.Members (member_places cs) (member_places cs) (members_named cs) _ (IsPastMember cs) (λ i j s n p d h g. g.1 (fewer (j + 1) cs d)) e f u v
    one_member e f (inr u) (inl v) = second_passed limits.Members (member_places cs) (member_places cs) (members_named cs) _ (IsPastMember cs) (λ i j s n p d h g. g.1 (fewer (j + 1) cs d)) e f u v
    one_member e f (inr u) (inr v) = two_second (member_places cs) (members_named cs) (members_named cs) _ _ (λ i j s t p d q g. one_second (member_places cs) (members_named cs) i j s t p q) e f u v

  -- ---- types

  one_plain : (k : Simple) (e f : NameFault) → IsFirstPlain M a k e → IsFirstPlain M a k f → ReportsAlike e f
  one_plain (simples.Integer ns) e f u v = one_number ns.items e f u v
  one_plain (simples.BitString bs) e f u v = one_bit bs.items e f u v
  one_plain (simples.Enumerated is) e f u v = one_item is.value e f u v
  one_plain simples.Boolean e f u v = absurd u
  one_plain simples.OctetString e f u v = absurd u
  one_plain simples.Null e f u v = absurd u
  one_plain simples.ObjectIdentifier e f u v = absurd u
  one_plain simples.RelativeOid e f u v = absurd u
  one_plain simples.Utf8String e f u v = absurd u
  one_plain (simples.Restricted k) e f u v = absurd u

  pub one_in_list : (k : Shape) (e f : NameFault) → IsFirstInList M a k e → IsFirstInList M a k f → ReportsAlike e f
  one_in_list (shapes.Simple s) e f u v = one_plain s e f u v
  one_in_list (shapes.Members k m cs) e f u v = one_member cs.items e f u v
  one_in_list (shapes.Reference j) e f u v = absurd u
  one_in_list (shapes.Tagged t w j) e f u v = absurd u
  one_in_list (shapes.Elements k j) e f u v = absurd u
