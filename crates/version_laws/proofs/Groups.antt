-- Groups of a value that was widened are whole: none of those that were appended takes in a component of before.
use Rattle.std.proofs.Common.{arith, ◌≡◌, ℕ, zero, suc, ◌<◌, ◌≤◌, ◌⊎◌, inl, inr, Bool, false, List, [], ◌∷◌, length, refl, ap, subst, ◌∙◌}
use Rattle.std.specs.Prelude.{slice_get, Option, Some}
use Rattle.asn_base.specs.Abstract.{Row, end, absent, present}
use Rattle.asn_base.specs.Types.{Presence, addition, Component, Resolved}
use Rattle.asn_base.specs.Typed.{group_of, IsOfGroup, HasOfGroup, LacksOfGroup, GroupsAreWhole, AreComponents, no_component, component_absent, component_present}
use Rattle.later_versions.specs.Later.{IsMarkedAlike, both_mandatory, both_optional, both_default, both_additions, AreInOneGroup, AreLater}
use Rattle.version_laws.specs.Lifted.{all_absent, lifted_row}
use Rattle.version_laws.proofs.Beside.{types, Beside, appended, beside}
use Rattle.version_laws.proofs.Apart.{nothing}

-- ---- what is at a place of a row

abbrev IsPresentAt : Row → ℕ → Type 0
IsPresentAt end i = ⊥
IsPresentAt (absent vs) zero = ⊥
IsPresentAt (present v vs) zero = Unit {0}
IsPresentAt (absent vs) (suc i) = IsPresentAt vs i
IsPresentAt (present v vs) (suc i) = IsPresentAt vs i

abbrev IsAbsentAt : Row → ℕ → Type 0
IsAbsentAt end i = ⊥
IsAbsentAt (absent vs) zero = Unit {0}
IsAbsentAt (present v vs) zero = ⊥
IsAbsentAt (absent vs) (suc i) = IsAbsentAt vs i
IsAbsentAt (present v vs) (suc i) = IsAbsentAt vs i

record Having (g : ℕ) (cs : List Component) (vs : Row) : Type 0 where
  place : ℕ
  component : Component
  at : slice_get cs place ≡ Some component
  of_group : IsOfGroup g component
  here : IsPresentAt vs place

record Lacking (g : ℕ) (cs : List Component) (vs : Row) : Type 0 where
  place : ℕ
  component : Component
  at : slice_get cs place ≡ Some component
  marked : component.presence ≡ addition false (Some g)
  here : IsAbsentAt vs place

having_later : {g : ℕ} {c : Component} {cs : List Component} {vs ws : Row} → ((i : ℕ) → IsPresentAt vs i → IsPresentAt ws (suc i)) → Having g cs vs → Having g (c ∷ cs) ws
having_later f h = record { place = suc h.place; component = h.component; at = h.at; of_group = h.of_group; here = f h.place h.here }

lacking_later : {g : ℕ} {c : Component} {cs : List Component} {vs ws : Row} → ((i : ℕ) → IsAbsentAt vs i → IsAbsentAt ws (suc i)) → Lacking g cs vs → Lacking g (c ∷ cs) ws
lacking_later f h = record { place = suc h.place; component = h.component; at = h.at; marked = h.marked; here = f h.place h.here }

having : (g : ℕ) (cs : List Component) (vs : Row) → HasOfGroup g cs vs → Having g cs vs
having g [] end h = absurd h
having g [] (absent vs) h = absurd h
having g [] (present v vs) h = absurd h
having g (c ∷ cs) end h = absurd h
having g (c ∷ cs) (absent vs) h = having_later (λ i q. q) (having g cs vs h)
having g (c ∷ cs) (present v vs) (inl e) = record { place = zero; component = c; at = refl; of_group = e; here = tt }
having g (c ∷ cs) (present v vs) (inr h) = having_later (λ i q. q) (having g cs vs h)

lacking : (g : ℕ) (cs : List Component) (vs : Row) → LacksOfGroup g cs vs → Lacking g cs vs
lacking g [] end h = absurd h
lacking g [] (absent vs) h = absurd h
lacking g [] (present v vs) h = absurd h
lacking g (c ∷ cs) end h = absurd h
lacking g (c ∷ cs) (present v vs) h = lacking_later (λ i q. q) (lacking g cs vs h)
lacking g (c ∷ cs) (absent vs) (inl e) = record { place = zero; component = c; at = refl; marked = e; here = tt }
lacking g (c ∷ cs) (absent vs) (inr h) = lacking_later (λ i q. q) (lacking g cs vs h)

has_at : (g : ℕ) (cs : List Component) (vs : Row) (i : ℕ) {b : Component} → slice_get cs i ≡ Some b → IsOfGroup g b → IsPresentAt vs i → HasOfGroup g cs vs
has_at g [] vs i e f h = absurd (nothing e)
has_at g (c ∷ cs) end i e f h = absurd h
has_at g (c ∷ cs) (absent vs) zero e f h = absurd h
has_at g (c ∷ cs) (absent vs) (suc i) e f h = has_at g cs vs i e f h
has_at g (c ∷ cs) (present v vs) zero {b} e f h = inl (let s : b ≡ c = cc in subst (IsOfGroup g) s f)
has_at g (c ∷ cs) (present v vs) (suc i) e f h = inr (has_at g cs vs i e f h)

lacks_at : (g : ℕ) (cs : List Component) (vs : Row) (i : ℕ) {b : Component} → slice_get cs i ≡ Some b → b.presence ≡ addition false (Some g) → IsAbsentAt vs i → LacksOfGroup g cs vs
lacks_at g [] vs i e f h = absurd (nothing e)
lacks_at g (c ∷ cs) end i e f h = absurd h
lacks_at g (c ∷ cs) (present v vs) zero e f h = absurd h
lacks_at g (c ∷ cs) (present v vs) (suc i) e f h = lacks_at g cs vs i e f h
lacks_at g (c ∷ cs) (absent vs) zero {b} e f h = inl (let s : b ≡ c = cc in subst (λ q. q.presence ≡ addition false (Some g)) s f)
lacks_at g (c ∷ cs) (absent vs) (suc i) e f h = inr (lacks_at g cs vs i e f h)

-- ---- a row that was widened

none_present : (us : List ℕ) (i : ℕ) → IsPresentAt (all_absent us) i → ⊥
none_present [] i h = h
none_present (u ∷ us) zero h = h
none_present (u ∷ us) (suc i) h = none_present us i h

-- what is present was, of a component of before
present_before : {s s' : List Resolved} {n : ℕ} {cs ds : List Component} {vs : Row} (i : ℕ) → Beside s s' cs ds → AreComponents s n cs vs → IsPresentAt (lifted_row s' (types ds) vs) i → IsPresentAt vs i × (i < length cs)
present_before i (appended {ds = ds} a) no_component h = absurd (none_present (types ds) i h)
present_before zero (beside l mk b) (component_absent mb v) h = absurd h
present_before zero (beside l mk b) (component_present x v) h = (tt, omega arith)
present_before (suc i) (beside l mk b) (component_absent mb v) h = let r = present_before i b v h in (r.0, (let q = r.1 in omega (arith, q)))
present_before (suc i) (beside l mk b) (component_present x v) h = let r = present_before i b v h in (r.0, (let q = r.1 in omega (arith, q)))

absent_before : {s s' : List Resolved} {n : ℕ} {cs ds : List Component} {vs : Row} (i : ℕ) → Beside s s' cs ds → AreComponents s n cs vs → i < length cs → IsAbsentAt (lifted_row s' (types ds) vs) i → IsAbsentAt vs i
absent_before i (appended a) no_component l h = absurd (omega (arith, l))
absent_before zero (beside l mk b) (component_absent mb v) m h = tt
absent_before zero (beside l mk b) (component_present x v) m h = h
absent_before (suc i) (beside l mk b) (component_absent mb v) m h = absent_before i b v (omega (arith, m)) h
absent_before (suc i) (beside l mk b) (component_present x v) m h = absent_before i b v (omega (arith, m)) h

-- ---- groups

before_or_after : (i n : ℕ) → (i < n) ⊎ (n ≤ i)
before_or_after i zero = inr (omega arith)
before_or_after zero (suc n) = inl (omega arith)
before_or_after (suc i) (suc n) = elim (before_or_after i n) [ inl l ↦ inl (omega (arith, l)) | inr l ↦ inr (omega (arith, l)) ]

-- an addition that must be present if its group is has the same in the earlier version, in some group
must_be_present : {s : List Resolved} {t : ℕ} {p q : Presence} (g h : ℕ) → IsMarkedAlike s t p q → q ≡ addition false (Some g) → group_of p ≡ Some h → p ≡ addition false (Some h)
must_be_present g h both_mandatory e f = absurd (cc)
must_be_present g h both_optional e f = absurd (cc)
must_be_present g h (both_default z m) e f = absurd (cc)
must_be_present g h (both_additions {o = o} {g = x} {h = y}) e f = ap (λ w. addition o w) f ∙ ap (λ w. addition w (Some h)) (same_mark e)
  where
    same_mark : {o : Bool} {y : Option ℕ} → addition o y ≡ addition false (Some g) → o ≡ false
    same_mark e = cc

of_its_group : {p : Presence} {g : ℕ} → p ≡ addition false (Some g) → group_of p ≡ Some g
of_its_group e = ap group_of e

pub groups_widened : {s s' : List Resolved} {n : ℕ} {cs ds : List Component} {vs : Row} → AreLater s cs ds → Beside s s' cs ds → AreComponents s n cs vs → GroupsAreWhole cs vs → GroupsAreWhole ds (lifted_row s' (types ds) vs)
groups_widened {s} {s'} {n} {cs} {ds} {vs} a b v whole g has lacks =
    let p = having g ds (lifted_row s' (types ds) vs) has in
    let q = lacking g ds (lifted_row s' (types ds) vs) lacks in
    let here = present_before p.place b v p.here in
    let one : AreInOneGroup ds p.place q.place = record {
      group = g;
      first = p.component;
      second = q.component;
      at_first = p.at;
      at_second = q.at;
      of_first = p.of_group;
      of_second = of_its_group q.marked;
    } in
    elim (before_or_after q.place (length cs)) [
      | inl l ↦ (let before = (a.groups p.place q.place here.1 l).1 one in
          let mark = (a.front.projected q.place before.second q.component before.at_second q.at).mark in
          whole before.group (has_at before.group cs vs p.place before.at_first before.of_first here.0)
          (lacks_at before.group cs vs q.place before.at_second (must_be_present g before.group mark q.marked before.of_second) (absent_before q.place b v l q.here)))
      | inr l ↦ a.whole p.place q.place here.1 l one
    ]
