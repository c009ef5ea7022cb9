-- Components that are missing, by the places of fields and by their names.
use Rattle.std.proofs.Common.{◌≡◌, ℕ, ◌+◌, ◌<◌, ◌≤◌, List, Option, Some, None, refl, sym, subst, ap, ◌∙◌, map, length, Bool, true, false, arith, below_more}
use Rattle.std.specs.Prelude.{slice_get}
use Rattle.std.proofs.lemmas.Option.{same_Some, slice_get_within}
use Rattle.trees.specs.declared.types.Standing.{Standing}
use Rattle.trees.specs.declared.types.Standing.TheVariants.{Root, Addition}
use Rattle.trees.specs.Types.{PresenceTree, mandatory, optional, default}
use Rattle.trees.specs.Values.{Name}
use Rattle.names.specs.Modules.{OccursIn, AreDifferent}
use Rattle.names.specs.proving.Distinct.{occurs_map}
use Rattle.type_table.specs.Table.{Part}
use Rattle.value_notations.specs.Notations.{part_names, may_lack_value}
use Rattle.value_notations.specs.Wrong.{IsMissing, IsMissingInGroup}
use Rattle.values.specs.Arranged.{NoneBefore, first_place}
use Rattle.values.specs.proving.Arranging.{IsAbsent, HasOther, IsDue, NoneDue, NoneMissing, group_in, needed_in}
use Rattle.values.proofs.Lookups.{place_none, place_there, no_place, first_of}
use Rattle.values.proofs.Orders.{one_place}

abbrev pub places_of : List Part → List Name → List (Option ℕ)
places_of cs fs = map (λ x. first_place x fs) (part_names cs)

-- the place of the field of component i
placed : (cs : List Part) (fs : List Name) (i : ℕ) (c : Part) → slice_get cs i ≡ Some c →
    slice_get (places_of cs fs) i ≡ Some (first_place c.name fs)
placed cs fs i c e =
    occurs_map (λ (x : Name). first_place x fs) (part_names cs) i c.name (occurs_map (λ (p : Part). p.name) cs i c e)

absent_of : (cs : List Part) (fs : List Name) (i : ℕ) (c : Part) → slice_get cs i ≡ Some c →
    (OccursIn fs c.name → ⊥) → IsAbsent cs (places_of cs fs) i c
absent_of cs fs i c e n = record { there = e; none = placed cs fs i c e ∙ ap Some (no_place c.name fs n) }

absent_none : (cs : List Part) (fs : List Name) (i : ℕ) (c : Part) → IsAbsent cs (places_of cs fs) i c →
    OccursIn fs c.name → ⊥
absent_none cs fs i c a s =
    place_none c.name fs (same_Some (first_place c.name fs) None (sym (placed cs fs i c a.there) ∙ a.none)) s

pub none_missing : (cs : List Part) (fs : List Name) →
    ((i : ℕ) (c : Part) → IsAbsent cs (places_of cs fs) i c → may_lack_value c ≡ true) → (x : Name) → IsMissing cs fs x → ⊥
none_missing cs fs f x m =
    let a = absent_of cs fs m.there.0 m.part m.there.1 (λ s. m.none (subst (OccursIn fs) m.named s)) in
    let t = f m.there.0 m.part a in
    let n = m.needed in
    absurd cc

pub one_missing : (cs : List Part) (fs : List Name) (i : ℕ) (c : Part) → IsAbsent cs (places_of cs fs) i c →
    may_lack_value c ≡ false → IsMissing cs fs c.name
one_missing cs fs i c a n =
    record { part = c; there = (i, a.there); named = refl; needed = n; none = absent_none cs fs i c a }

grouped : (s : Standing) (g : ℕ) → s ≡ Addition (Some g) → group_in s ≡ Some g
grouped s g e = ap group_in e

group_is : (s : Standing) (g : ℕ) → group_in s ≡ Some g → s ≡ Addition (Some g)
group_is Root g e = absurd cc
group_is (Addition o) g e = ap Addition e

needed_of : (t : PresenceTree) (s : Standing) (g : ℕ) → t ≡ mandatory → s ≡ Addition (Some g) → needed_in t s ≡ Some g
needed_of t s g e f = rw (e, f) refl

needed_is : (t : PresenceTree) (s : Standing) (g : ℕ) → needed_in t s ≡ Some g → (t ≡ mandatory) × (s ≡ Addition (Some g))
needed_is mandatory s g e = (refl, group_is s g e)
needed_is optional s g e = absurd cc
needed_is (default d) s g e = absurd cc

due_of : (cs : List Part) (fs : List Name) (x : Name) (m : IsMissingInGroup cs fs x) → IsDue m.part cs (places_of cs fs)
due_of cs fs x m =
    let o = first_of m.other.name fs m.other_present.0 m.other_present.1 in
    record {
      group = m.group;
      needed = needed_of m.part.presence m.part.standing m.group m.needed m.standing;
      other = record {
        place = m.other_there.0;
        part = m.other;
        field = o.place;
        there = m.other_there.1;
        present = placed cs fs m.other_there.0 m.other m.other_there.1 ∙ ap Some o.is;
        grouped = grouped m.other.standing m.group m.other_standing;
      };
    }

pub none_lacking : (cs : List Part) (fs : List Name) →
    ((i : ℕ) (c : Part) → IsAbsent cs (places_of cs fs) i c → IsDue c cs (places_of cs fs) → ⊥) → (x : Name) →
    IsMissingInGroup cs fs x → ⊥
none_lacking cs fs f x m =
    let a = absent_of cs fs m.there.0 m.part m.there.1 (λ s. m.none (subst (OccursIn fs) m.named s)) in
    f m.there.0 m.part a (due_of cs fs x m)

-- a name is that of one component
one_part : (cs : List Part) → AreDifferent (part_names cs) → (i j : ℕ) (c d : Part) → slice_get cs i ≡ Some c →
    slice_get cs j ≡ Some d → c.name ≡ d.name → i ≡ j
one_part cs s i j c d e f q =
    one_place (part_names cs) d.name i j s (occurs_map (λ (p : Part). p.name) cs i c e ∙ ap Some q)
    (occurs_map (λ (p : Part). p.name) cs j d f)

pub none_missing_before : (cs : List Part) (fs : List Name) (i : ℕ) → AreDifferent (part_names cs) →
    NoneMissing cs (places_of cs fs) i → NoneBefore (IsMissing cs fs) cs i
none_missing_before cs fs i s f j d l e m =
    let same = one_part cs s m.there.0 j m.part d m.there.1 e m.named in
    let a = absent_of cs fs m.there.0 m.part m.there.1 (λ t. m.none (subst (OccursIn fs) m.named t)) in
    let t = f m.there.0 (subst (λ k. k < i) (sym same) l) m.part a in
    let n = m.needed in
    absurd cc

pub none_lacking_before : (cs : List Part) (fs : List Name) (i : ℕ) → AreDifferent (part_names cs) →
    NoneDue cs (places_of cs fs) i → NoneBefore (IsMissingInGroup cs fs) cs i
none_lacking_before cs fs i s f j d l e m =
    let same = one_part cs s m.there.0 j m.part d m.there.1 e m.named in
    let a = absent_of cs fs m.there.0 m.part m.there.1 (λ t. m.none (subst (OccursIn fs) m.named t)) in
    f m.there.0 (subst (λ k. k < i) (sym same) l) m.part a (due_of cs fs d.name m)

pub one_lacking : (cs : List Part) (fs : List Name) (i : ℕ) (c : Part) → IsAbsent cs (places_of cs fs) i c →
    IsDue c cs (places_of cs fs) → IsMissingInGroup cs fs c.name
one_lacking cs fs i c a d =
    let n = needed_is c.presence c.standing d.group d.needed in
    let o = d.other in
    let s = place_there o.part.name fs o.field
    (same_Some (first_place o.part.name fs) (Some o.field) (sym (placed cs fs o.place o.part o.there) ∙ o.present)) in
    record {
      group = d.group;
      part = c;
      there = (i, a.there);
      named = refl;
      standing = n.1;
      needed = n.0;
      none = absent_none cs fs i c a;
      other = o.part;
      other_there = (o.place, o.there);
      other_standing = group_is o.part.standing d.group o.grouped;
      other_present = (o.field, s);
    }

-- ---- walks over components

pub missing_next : (cs : List Part) (ps : List (Option ℕ)) (i : ℕ) (c : Part) (o : Option ℕ) → slice_get cs i ≡ Some c →
    slice_get ps i ≡ Some o → ((o ≡ None) × (may_lack_value c ≡ false) → ⊥) → NoneMissing cs ps i → NoneMissing cs ps (i + 1)
missing_next cs ps i c o e f n a =
    below_more (λ k. (d : Part) → IsAbsent cs ps k d → may_lack_value d ≡ true) i a
    (λ d b. let same = same_Some c d (sym e ∙ b.there) in
    true_or (may_lack_value d) (λ q. n (same_Some o None (sym f ∙ b.none), ap may_lack_value same ∙ q)))
  where
    true_or : (b : Bool) → (b ≡ false → ⊥) → b ≡ true
    true_or true h = refl
    true_or false h = absurd (h refl)

pub missing_all : (cs : List Part) (ps : List (Option ℕ)) (i : ℕ) → length cs ≤ i → NoneMissing cs ps i → (k : ℕ) (c : Part) →
    IsAbsent cs ps k c → may_lack_value c ≡ true
missing_all cs ps i l a k c b = let w = slice_get_within cs k c b.there in a k (omega (arith, w, l)) c b

pub due_next : (cs : List Part) (ps : List (Option ℕ)) (i : ℕ) (c : Part) (o : Option ℕ) → slice_get cs i ≡ Some c →
    slice_get ps i ≡ Some o → ((o ≡ None) × IsDue c cs ps → ⊥) → NoneDue cs ps i → NoneDue cs ps (i + 1)
due_next cs ps i c o e f n a =
    below_more (λ k. (d : Part) → IsAbsent cs ps k d → IsDue d cs ps → ⊥) i a
    (λ d b u. n (same_Some o None (sym f ∙ b.none), subst (λ (z : Part). IsDue z cs ps) (sym (same_Some c d (sym e ∙ b.there))) u))

pub due_all : (cs : List Part) (ps : List (Option ℕ)) (i : ℕ) → length cs ≤ i → NoneDue cs ps i → (k : ℕ) (c : Part) →
    IsAbsent cs ps k c → IsDue c cs ps → ⊥
due_all cs ps i l a k c b = let w = slice_get_within cs k c b.there in a k (omega (arith, w, l)) c b

-- none of the first i components has a field and is of group g
abbrev pub NoOther : ℕ → List Part → List (Option ℕ) → ℕ → Type 0
NoOther g cs ps i = (k : ℕ) → k < i → (c : Part) (f : ℕ) → slice_get cs k ≡ Some c → slice_get ps k ≡ Some (Some f) →
    group_in c.standing ≡ Some g → ⊥

pub other_next : (g : ℕ) (cs : List Part) (ps : List (Option ℕ)) (i : ℕ) (c : Part) (o : Option ℕ) → slice_get cs i ≡ Some c →
    slice_get ps i ≡ Some o → (((f : ℕ) × (o ≡ Some f)) × (group_in c.standing ≡ Some g) → ⊥) → NoOther g cs ps i →
    NoOther g cs ps (i + 1)
other_next g cs ps i c o e f n a =
    below_more (λ k. (d : Part) (j : ℕ) → slice_get cs k ≡ Some d → slice_get ps k ≡ Some (Some j) → group_in d.standing ≡ Some g → ⊥)
    i a
    (λ d j h q r. n ((j, same_Some o (Some j) (sym f ∙ q)), ap (λ (z : Part). group_in z.standing) (same_Some c d (sym e ∙ h)) ∙ r))

pub other_here : (g : ℕ) (cs : List Part) (ps : List (Option ℕ)) (i : ℕ) (c : Part) (o : Option ℕ) → slice_get cs i ≡ Some c →
    slice_get ps i ≡ Some o → ((f : ℕ) × (o ≡ Some f)) × (group_in c.standing ≡ Some g) → HasOther g cs ps
other_here g cs ps i c o e f h =
    record { place = i; part = c; field = h.0.0; there = e; present = f ∙ ap Some h.0.1; grouped = h.1 }

pub other_all : (g : ℕ) (cs : List Part) (ps : List (Option ℕ)) (i : ℕ) → length cs ≤ i → NoOther g cs ps i → HasOther g cs ps → ⊥
other_all g cs ps i l a o =
    let w = slice_get_within cs o.place o.part o.there in
    a o.place (omega (arith, w, l)) o.part o.field o.there o.present o.grouped

pub absent_here : (cs : List Part) (ps : List (Option ℕ)) (i : ℕ) (c : Part) (o : Option ℕ) → slice_get cs i ≡ Some c →
    slice_get ps i ≡ Some o → o ≡ None → IsAbsent cs ps i c
absent_here cs ps i c o e f n = record { there = e; none = f ∙ ap Some n }
