-- Components and elements that a node shows, as loops judge them one by one.
use Rattle.std.proofs.Common.{arith, ◌≡◌, ℕ, ◌+◌, ◌-◌, ◌<◌, ◌≤◌, List, [], ◌∷◌, length, drop, map, inl, refl, sym, ap, subst, ◌∙◌, get_or}
use Rattle.std.specs.Prelude.{◌↔◌, Option, Some, None, Vec}
use Rattle.std.specs.declared.alloc.Global.{Global}
use Rattle.asn_base.specs.declared.schema.Component.{Component as Component'}
use Rattle.asn_base.specs.Abstract.{AbstractValue, Row, end, present, placed, row_of_options}
use Rattle.asn_base.specs.Decided.{IsComponent, IsDue, IsPresentOf, nodes_of}
use Rattle.asn_base.specs.Depths.{AreOf, IsReady}
use Rattle.asn_base.specs.Seen.{component_of}
use Rattle.asn_base.specs.Types.{Component, Resolved}
use Rattle.asn_base.specs.Typed.{AreComponents, AreElements, GroupsAreWhole, HasOfGroup, IsOfGroup, LacksOfGroup, ValueIn, nodes, no_element, row_nodes, one_element}
use Rattle.asn_base.proofs.Bracketed.{GroupsFrom, HasFrom, groups_at, groups_all, has_at, has_none}
use Rattle.asn_base.proofs.Leaves.{not_here}
use Rattle.asn_base.proofs.Parts.{ComponentsFrom, all_components, as_many, left_after, next_component, no_first, opened, row_at, split_elements}
use Rattle.asn_base.specs.proving.Lists.{length_mapped, drop_end, drop_is, onward, place_is, places, drop_past}

-- the components as a row, as many as the type has
abbrev pub row_in : List Component' → (ℕ → Option AbstractValue) → List (Option AbstractValue)
row_in cs f = placed (length cs) f

past_row : (cs : List Component') (f : ℕ → Option AbstractValue) (i : ℕ) → length cs ≤ i → drop i (row_in cs f) ≡ []
past_row cs f i l = drop_past (row_in cs f) i (let e = places (length cs) f in omega (arith, e, l))

-- ---- a search for a component of a group

-- What the search comes down to when the components before place i were passed. Those that are left are the same.
pub record Sought (g : ℕ) (cs : List Component') (f left : ℕ → Option AbstractValue) (i : ℕ) : Type 0 where
  pub same : (j : ℕ) → i ≤ j → left j ≡ f j
  pub has : HasFrom g (map component_of cs) (row_in cs f) i

pub sought_found : {g : ℕ} {cs : List Component'} {f left : ℕ → Option AbstractValue} {i : ℕ} {o : Option AbstractValue} → Sought g cs f left i → (c : Component') → i < length cs → c ≡ get_or cs i c → o ≡ left i → IsPresentOf g (component_of c) o
    → HasOfGroup g (map component_of cs) (row_of_options (row_in cs f))
sought_found {g} {cs} {f} {left} {i} so_far c l is e h =
    (has_at g (map component_of cs) (row_in cs f) i (drop_is component_of cs i c l is) (place_is (length cs) f i l) so_far.has).1 (inl (subst (IsPresentOf g (component_of c)) (e ∙ so_far.same i (omega arith)) h))

pub sought_more : {g : ℕ} {cs : List Component'} {f left : ℕ → Option AbstractValue} {i : ℕ} (after : ℕ → Option AbstractValue) {o : Option AbstractValue} → Sought g cs f left i → (c : Component') → i < length cs → c ≡ get_or cs i c → o ≡ left i
    → ((j : ℕ) → i < j → after j ≡ left j)
    → (IsPresentOf g (component_of c) o → ⊥)
    → Sought g cs f after (i + 1)
sought_more {g} {cs} {f} {left} {i} after so_far c l is e b n = record {
  same = λ j m. b j (omega (arith, m)) ∙ so_far.same j (omega (arith, m));
  has = not_here (has_at g (map component_of cs) (row_in cs f) i (drop_is component_of cs i c l is) (place_is (length cs) f i l) so_far.has) (λ h. n (subst (IsPresentOf g (component_of c)) (sym (e ∙ so_far.same i (omega arith))) h));
}

-- one of another group
pub sought_other : {g : ℕ} {cs : List Component'} {f left : ℕ → Option AbstractValue} {i : ℕ} → Sought g cs f left i → (c : Component') → i < length cs → c ≡ get_or cs i c
    → (IsOfGroup g (component_of c) → ⊥)
    → Sought g cs f left (i + 1)
sought_other {g} {left = left} {i} so_far c l is n = sought_more left {o = left i} so_far c l is refl (λ j m. refl) (none (left i))
  where
    none : (o : Option AbstractValue) → IsPresentOf g (component_of c) o → ⊥
    none None h = h
    none (Some v) h = n h

pub sought_over : {g : ℕ} {cs : List Component'} {f left : ℕ → Option AbstractValue} {i : ℕ} → Sought g cs f left i → length cs ≤ i → HasOfGroup g (map component_of cs) (row_of_options (row_in cs f)) → ⊥
sought_over {g} {cs} {f} {i = i} so_far l = has_none g (map component_of cs) (row_in cs f) i (drop_end component_of cs i l) so_far.has

-- ---- components

-- What the whole comes down to when the components before place i were judged. The nodes of those before were
-- subtracted.
pub record Judged (s : List Resolved) (n : ℕ) (cs : List Component') (f left : ℕ → Option AbstractValue) (i before now : ℕ) : Type 0 where
  pub same : (j : ℕ) → i ≤ j → left j ≡ f j
  pub parts : ComponentsFrom s n (map component_of cs) (row_in cs f) i
  pub groups : GroupsFrom (map component_of cs) (row_in cs f) i
  pub nodes : now - row_nodes (row_of_options (drop i (row_in cs f))) ≡ before - row_nodes (row_of_options (row_in cs f))

-- what a component has to be among the others
abbrev pub IsKept : List Component' → (ℕ → Option AbstractValue) → Component → Option AbstractValue → Type 0
IsKept cs f c o = (g : ℕ) → IsDue g c o → HasOfGroup g (map component_of cs) (row_of_options (row_in cs f)) → ⊥

here : {s : List Resolved} {n : ℕ} {cs : List Component'} {f left : ℕ → Option AbstractValue} {i before now : ℕ} → Judged s n cs f left i before now → {o : Option AbstractValue} → i < length cs → o ≡ left i → drop i (row_in cs f) ≡ o ∷ drop (i + 1) (row_in cs f)
here {cs = cs} {f = f} {i = i} so_far l e =
    place_is (length cs) f i l ∙ ap (λ q. q ∷ drop (i + 1) (row_in cs f)) (sym (e ∙ so_far.same i (omega arith)))

parts_at : {s : List Resolved} {n : ℕ} {cs : List Component'} {f left : ℕ → Option AbstractValue} {i before now : ℕ} → Judged s n cs f left i before now → (c : Component') {o : Option AbstractValue} → i < length cs → c ≡ get_or cs i c → o ≡ left i
    → AreComponents s n (map component_of cs) (row_of_options (row_in cs f)) ↔ (IsComponent s n (component_of c) o × AreComponents s n (drop (i + 1) (map component_of cs)) (row_of_options (drop (i + 1) (row_in cs f))))
parts_at {s} {n} {cs} {f} {i = i} so_far c l is e = opened s n (map component_of cs) (row_in cs f) i (drop_is component_of cs i c l is) (here so_far l e) so_far.parts

groups_there : {s : List Resolved} {n : ℕ} {cs : List Component'} {f left : ℕ → Option AbstractValue} {i before now : ℕ} → Judged s n cs f left i before now → (c : Component') {o : Option AbstractValue} → i < length cs → c ≡ get_or cs i c → o ≡ left i
    → GroupsAreWhole (map component_of cs) (row_of_options (row_in cs f)) ↔ (IsKept cs f (component_of c) o
    × ((g : ℕ) → HasOfGroup g (map component_of cs) (row_of_options (row_in cs f)) → LacksOfGroup g (drop (i + 1) (map component_of cs)) (row_of_options (drop (i + 1) (row_in cs f))) → ⊥))
groups_there {cs = cs} {f = f} {i = i} so_far c l is e = groups_at (map component_of cs) (row_in cs f) i (drop_is component_of cs i c l is) (here so_far l e) so_far.groups

pub judged_more : (s : List Resolved) (n : ℕ) (cs : List Component') (f left after : ℕ → Option AbstractValue) (i before now next : ℕ) (c : Component') (o : Option AbstractValue)
    (so_far : Judged s n cs f left i before now)
    → i < length cs
    → c ≡ get_or cs i c
    → o ≡ left i
    → ((j : ℕ) → i < j → after j ≡ left j)
    → IsComponent s n (component_of c) o
    → IsKept cs f (component_of c) o
    → next ≡ now - nodes_of o
    → Judged s n cs f after (i + 1) before next
judged_more s n cs f left after i before now next c o so_far l is e b h k m = record {
  same = λ j m. b j (omega (arith, m)) ∙ so_far.same j (omega (arith, m));
  parts = next_component (parts_at so_far c l is e) h;
  groups = next_component (groups_there so_far c l is e) k;
  nodes = left_after now next (nodes_of o) _ _ m (ap (λ q. now - q) (sym (row_at (row_in cs f) i (here so_far l e))) ∙ so_far.nodes);
}

-- the component at place i isn't one of its type
pub judged_wrong : {s : List Resolved} {n : ℕ} {cs : List Component'} {f left : ℕ → Option AbstractValue} {i before now : ℕ} (c : Component') {o : Option AbstractValue} {G : Type 0}
    (so_far : Judged s n cs f left i before now)
    → i < length cs
    → c ≡ get_or cs i c
    → o ≡ left i
    → (IsComponent s n (component_of c) o → ⊥)
    → AreComponents s n (map component_of cs) (row_of_options (row_in cs f)) × G → ⊥
judged_wrong c so_far l is e h p = no_first (parts_at so_far c l is e) h p.0

-- the component at place i is missing in its group
pub judged_missing : {s : List Resolved} {n : ℕ} {cs : List Component'} {f left : ℕ → Option AbstractValue} {i before now : ℕ} (c : Component') {o : Option AbstractValue} {P : Type 0}
    (so_far : Judged s n cs f left i before now)
    → i < length cs
    → c ≡ get_or cs i c
    → o ≡ left i
    → (IsKept cs f (component_of c) o → ⊥)
    → P × GroupsAreWhole (map component_of cs) (row_of_options (row_in cs f)) → ⊥
judged_missing c so_far l is e h p = no_first (groups_there so_far c l is e) h p.1

pub judged_all : {s : List Resolved} {n : ℕ} {cs : List Component'} {f left : ℕ → Option AbstractValue} {i before now : ℕ}
    → Judged s n cs f left i before now
    → length cs ≤ i
    → AreComponents s n (map component_of cs) (row_of_options (row_in cs f)) × GroupsAreWhole (map component_of cs) (row_of_options (row_in cs f))
judged_all {s} {n} {cs} {f} {i = i} so_far l =
    let end' = drop_end component_of cs i l in
    (all_components s n (map component_of cs) (row_in cs f) i end' (past_row cs f i l) so_far.parts, groups_all (map component_of cs) (row_in cs f) i end' so_far.groups)

pub judged_nodes : {s : List Resolved} {n : ℕ} {cs : List Component'} {f left : ℕ → Option AbstractValue} {i before now : ℕ}
    → Judged s n cs f left i before now
    → length cs ≤ i
    → now ≡ before - row_nodes (row_of_options (row_in cs f))
judged_nodes {cs = cs} {f = f} {i = i} so_far l =
    let none = ap (λ q. row_nodes (row_of_options q)) (past_row cs f i l) in
    omega (arith, none, so_far.nodes)

-- components are as many as the places of the row
pub size_is : {s : List Resolved} {n : ℕ} (cs : List Component') (size : ℕ) (f : ℕ → Option AbstractValue) → AreComponents s n (map component_of cs) (row_of_options (placed size f)) → length cs ≡ size
size_is cs size f a = sym (length_mapped component_of cs) ∙ as_many (map component_of cs) (placed size f) a ∙ places size f

-- ---- elements

-- what all elements come down to, when those before the ones left were judged, and their nodes subtracted
pub record Listed (s : List Resolved) (n u : ℕ) (all left : Row) (before now : ℕ) : Type 0 where
  pub elements : AreElements s n u all ↔ AreElements s n u left
  pub nodes : now - row_nodes left ≡ before - row_nodes all

elements_at : {s : List Resolved} {n u : ℕ} (all left after : Row) (v : AbstractValue) → left ≡ present v after → AreElements s n u all ↔ AreElements s n u left → AreElements s n u all ↔ (ValueIn s n u v × AreElements s n u after)
elements_at {s} {n} {u} all left after v e a =
    onward (subst (λ q. AreElements s n u all ↔ AreElements s n u q) e a) split_elements (λ p. one_element p.0 p.1)

pub element_more : {s : List Resolved} {n u before now : ℕ} (next : ℕ) {all left : Row} (after : Row) (v : AbstractValue) → left ≡ present v after → ValueIn s n u v → next ≡ now - nodes v → Listed s n u all left before now → Listed s n u all after before next
element_more {now = now} next {all = all} {left = left} after v e h m a =
    record {
      elements = next_component (elements_at all left after v e a.elements) h;
      nodes = left_after now next (nodes v) _ _ m (ap (λ q. now - q) (ap row_nodes (sym e)) ∙ a.nodes);
    }

pub element_wrong : {s : List Resolved} {n u before now : ℕ} {all left : Row} (after : Row) (v : AbstractValue) {S : Type 0} → left ≡ present v after → (ValueIn s n u v → ⊥) → Listed s n u all left before now → AreElements s n u all × S → ⊥
element_wrong {all = all} {left = left} after v e h a p = no_first (elements_at all left after v e a.elements) h p.0

pub elements_over : {s : List Resolved} {n u before now : ℕ} {all left : Row} → left ≡ end → Listed s n u all left before now → AreElements s n u all
elements_over {s} {n} {u} e a = a.elements.1 (subst (AreElements s n u) (sym e) no_element)

-- ---- components of a type

pub few_of : {s : List Resolved} {table : Option (Vec (Vec ℕ Global) Global)} (t : ℕ) (cs : List Component') → IsReady s table → AreOf s t (map component_of cs) → length cs ≤ 4294967295
few_of t cs r o = let a = r.numbered _ o.0 o.1 in let e = ap length o.2 in omega (arith, a, e, length_mapped component_of cs)
