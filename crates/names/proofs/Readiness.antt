-- What is gathered refers to what is there.
use Rattle.std.proofs.Common.{◌≡◌, inl, inr, ℕ, zero, suc, ◌+◌, ◌<◌, ◌≤◌, List, [], ◌∷◌, length, Some, refl, sym, subst, ap, ◌∙◌, length-append, arith}
use Rattle.std.specs.Prelude.{slice_get}
use Rattle.std.proofs.lemmas.List.{length-map}
use Rattle.std.proofs.lemmas.Option.{same_Some}
use Rattle.trees.specs.Values.{Name}
use Rattle.trees.specs.Modules.{AssignmentTree, assigns_type, assigns_value, ModuleTree}
use Rattle.names.specs.declared.gather.ModuleTables.{ModuleTables}
use Rattle.names.specs.declared.scope.Assigned.{Assigned}
use Rattle.names.specs.declared.scope.Assigned.TheVariants as assigned
use Rattle.names.specs.proving.Gathering.{HasGathered}
use Rattle.names.specs.proving.Ready.{AreThere, IsReady, IsGiven}
use Rattle.names.specs.Modules.{name_of, OccursIn, value_count, all_assignments}
use Rattle.names.specs.ByNumber.{headers_of, named_from, roots_from, roots_of, values_from, values_of, owned_by, scopes_from, owned_from}
use Rattle.names.specs.Names.{Module, Meaning, own, imported, IsApart}
use Rattle.names.specs.Sources.{AllAssigned, HaveNoPlace, Value, assignment_of, header_of, source_of, value_seen}
use Rattle.names.proofs.After.{length_roots, length_values, length_all_owned, values_count}
use Rattle.names.specs.proving.Distinct.{either, occurs_map, under_some}
use Rattle.names.proofs.Standings.{are_apart}

all_roots : (n t : ℕ) (gs : List AssignmentTree) → n + length gs ≤ t → AllAssigned t (roots_from n gs)
all_roots n t [] h = tt
all_roots n t (assigns_type x u ∷ gs) h = (omega (arith, h), all_roots (suc n) t gs (omega (arith, h)))
all_roots n t (assigns_value x u w ∷ gs) h = (omega (arith, h), all_roots (suc n) t gs (omega (arith, h)))

no_places : (n : ℕ) (gs : List AssignmentTree) → HaveNoPlace (roots_from n gs)
no_places n [] = tt
no_places n (assigns_type x u ∷ gs) = (refl, no_places (suc n) gs)
no_places n (assigns_value x u w ∷ gs) = (refl, no_places (suc n) gs)

owned_one : (m : ℕ) (gs : List AssignmentTree) (i : ℕ) (a : ℕ × Name) → slice_get (owned_by m gs) i ≡ Some a → a.0 ≡ m
owned_one m [] i a e = absurd cc
owned_one m (g ∷ gs) zero a e = ap (λ z. z.0) (sym (same_Some (m, name_of g) a e))
owned_one m (g ∷ gs) (suc i) a e = owned_one m gs i a e

owned_there : (k : ℕ) (ms : List ModuleTree) (i : ℕ) (a : ℕ × Name) → slice_get (owned_from k ms) i ≡ Some a →
    a.0 < k + length ms
owned_there k [] i a e = absurd cc
owned_there k (m ∷ ms) i a e =
    elim (either (owned_by k m.assignments) (owned_from (suc k) ms) i a e) [
      | inl f ↦ (let q = owned_one k m.assignments i a f in omega (arith, q))
      | inr r ↦ (let w = owned_there (suc k) ms r.0 a r.2 in omega (arith, w))
    ]

valued_there : (n t : ℕ) (gs : List AssignmentTree) → n + length gs ≤ t → (i : ℕ) (v : Value) →
    slice_get (values_from n gs) i ≡ Some v → (v.ty < t) × (v.assignment < t)
valued_there n t [] h i v e = absurd cc
valued_there n t (assigns_type x u ∷ gs) h i v e = valued_there (suc n) t gs (omega (arith, h)) i v e
valued_there n t (assigns_value x u w ∷ gs) h zero v e =
    let q = same_Some (record { assignment = n; ty = n; notation = w }) v e in
    let a : n ≡ v.ty = ap (λ z. z.ty) q in
    let b : n ≡ v.assignment = ap (λ z. z.assignment) q in
    (omega (arith, a, h), omega (arith, b, h))
valued_there n t (assigns_value x u w ∷ gs) h (suc i) v e = valued_there (suc n) t gs (omega (arith, h)) i v e

given_there : (n v t w : ℕ) (gs : List AssignmentTree) → n + length gs ≤ t → v + value_count gs ≤ w → (i : ℕ)
    (x : Name) (a : Assigned) → slice_get (named_from n v gs) i ≡ Some (x, a) → IsGiven t w a
given_there n v t w [] h k i x a e = absurd cc
given_there n v t w (assigns_type y u ∷ gs) h k zero x a e =
    let q : assigned.Type n ≡ a = ap (λ z. z.1) (same_Some (y, assigned.Type n) (x, a) e) in
    let l : n < t = omega (arith, h) in
    subst (IsGiven t w) q l
given_there n v t w (assigns_type y u ∷ gs) h k (suc i) x a e = given_there (suc n) v t w gs (omega (arith, h)) k i x a e
given_there n v t w (assigns_value y u z ∷ gs) h k zero x a e =
    let q : assigned.Value v ≡ a = ap (λ z. z.1) (same_Some (y, assigned.Value v) (x, a) e) in
    let l : v < w = omega (arith, k) in
    subst (IsGiven t w) q l
given_there n v t w (assigns_value y u z ∷ gs) h k (suc i) x a e = given_there (suc n) (suc v) t w gs (omega (arith, h)) (omega (arith, k)) i x a e

scopes_there : (n v t w : ℕ) (ms : List ModuleTree) → n + length (all_assignments ms) ≤ t →
    v + value_count (all_assignments ms) ≤ w → (k : ℕ) (M : Name) (m : Module) →
    slice_get (scopes_from n v ms) k ≡ Some (M, m) →
    (x : Name) (a : Assigned) → OccursIn m.assigned (x, a) → IsGiven t w a
scopes_there n v t w [] h j k M m e x a s = absurd cc
scopes_there n v t w (u ∷ ms) h j zero M m e x a s =
    let q = ap (λ z. z.1.assigned) (sym (same_Some _ (M, m) e)) in
    let la = length-append u.assignments (all_assignments ms) in
    let lv = values_count u.assignments (all_assignments ms) in
    given_there n v t w u.assignments (omega (arith, h, la)) (omega (arith, j, lv)) s.0 x a (ap (λ l. slice_get l s.0) (sym q) ∙ s.1)
scopes_there n v t w (u ∷ ms) h j (suc k) M m e x a s =
    let la = length-append u.assignments (all_assignments ms) in
    let lv = values_count u.assignments (all_assignments ms) in
    scopes_there (n + length u.assignments) (v + value_count u.assignments) t w ms (omega (arith, h, la)) (omega (arith, j, lv)) k M m e x a s

meaning_there : (ms : List ModuleTree) (t w : ℕ) → length (all_assignments ms) ≤ t →
    value_count (all_assignments ms) ≤ w → (M x : Name) (a : Assigned) → Meaning (scopes_from 0 0 ms) M x a →
    IsGiven t w a
meaning_there ms t w h j M x a (own m e f) =
    let s = under_some M (scopes_from 0 0 ms) m e in
    scopes_there 0 0 t w ms (omega (arith, h)) (omega (arith, j)) s.0 M m s.1 x a (under_some x m.assigned a f)
meaning_there ms t w h j M x a (imported m n N e f g k) =
    let s = under_some N (scopes_from 0 0 ms) n g in
    scopes_there 0 0 t w ms (omega (arith, h)) (omega (arith, j)) s.0 N n s.1 x a (under_some x n.assigned a k)

pub ready : (ms : List ModuleTree) (g : ModuleTables) → HasGathered ms g → IsReady g
ready ms g h =
    let gs = all_assignments ms in
    let lh : length g.headers.items ≡ length ms = sym (length-map g.headers.items header_of) ∙ ap length h.headers ∙ length-map ms (λ m. (m.name, m.tag_default)) in
    let lg : length g.tables.assignments.items ≡ length gs = sym (length-map g.tables.assignments.items assignment_of) ∙ ap length h.assignments ∙ length_all_owned 0 ms in
    let lr : length g.tables.roots.items ≡ length gs = sym (length-map g.tables.roots.items source_of) ∙ ap length h.roots ∙ length_roots 0 gs in
    let lv : length g.tables.values.items ≡ value_count gs = sym (length-map g.tables.values.items value_seen) ∙ ap length h.values ∙ length_values 0 gs in
    record {
      apart = subst IsApart (sym h.scopes) (are_apart ms h.apart);
      pairs = lr ∙ sym lg;
      assigned = subst (AllAssigned (length g.tables.assignments.items)) (sym h.roots) (all_roots 0 (length g.tables.assignments.items) gs (omega (arith, lg)));
      unplaced = subst HaveNoPlace (sym h.roots) (no_places 0 gs);
      placed = λ k a e.
          let w = owned_there 0 ms k (assignment_of a) (ap (λ l. slice_get l k) (sym h.assignments) ∙ occurs_map assignment_of g.tables.assignments.items k a e) in
          omega (arith, w, lh);
      named = λ M x a m. meaning_there ms (length g.tables.roots.items) (length g.tables.values.items) (omega (arith, lr)) (omega (arith, lv)) M x a (subst (λ l. Meaning l M x a) h.scopes m);
      valued = λ k v e.
          let w = valued_there 0 (length gs) gs (omega arith) k (value_seen v) (ap (λ l. slice_get l k) (sym h.values) ∙ occurs_map value_seen g.tables.values.items k v e) in
          (omega (arith, w.0, lr), omega (arith, w.1, lg));
    }

pub all_there : (ms : List ModuleTree) → AreThere ms
all_there ms =
    let gs = all_assignments ms in
    let lh : length (headers_of ms) ≡ length ms = length-map ms (λ (m : ModuleTree). (m.name, m.tag_default)) in
    let lr : length (roots_of ms) ≡ length gs = length_roots 0 gs in
    let lv : length (values_of ms) ≡ value_count gs = length_values 0 gs in
    let lg : length (owned_from 0 ms) ≡ length gs = length_all_owned 0 ms in
    record {
      unplaced = no_places 0 gs;
      placed = λ k a e.
          let w = owned_there 0 ms k a e in
          omega (arith, w, lh);
      named = λ M x a m. meaning_there ms (length (roots_of ms)) (length (values_of ms)) (omega (arith, lr)) (omega (arith, lv)) M x a m;
      valued = λ k v e.
          let w = valued_there 0 (length gs) gs (omega arith) k v e in
          (omega (arith, w.0, lr), omega (arith, w.1, lg));
    }
