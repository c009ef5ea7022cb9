-- Assignments counted one by one, and the first place at which a limit is passed.
use Rattle.std.proofs.Common.{◌≡◌, ℕ, ◌+◌, ◌++◌, ◌<◌, ◌≤◌, List, [], ◌∷◌, length, map, get_or, Some, take, drop, refl, sym, subst, ap, ◌∙◌, arith}
use Rattle.std.specs.Prelude.{slice_get}
use Rattle.std.proofs.lemmas.List.{map-append, take-append-drop}
use Rattle.std.proofs.lemmas.Option.{get_or_from_slice_get, slice_get_read, slice_get_within}
use Rattle.trees.specs.Values.{Name, name_at}
use Rattle.trees.specs.declared.location.SourceLocation.{SourceLocation}
use Rattle.trees.specs.declared.module.Assignment.{Assignment}
use Rattle.trees.specs.declared.module.Assignment.TheVariants as givens
use Rattle.trees.specs.declared.module.Module.{Module}
use Rattle.trees.specs.Modules.{AssignmentTree, ModuleTree, assignment_tree_of as given_of, module_tree_of}
use Rattle.names.specs.declared.fault.NameFault.{NameFault}
use Rattle.names.specs.declared.fault.NameFault.TheVariants as faults
use Rattle.names.specs.declared.fault.Limit.{Limit}
use Rattle.names.specs.declared.fault.Limit.TheVariants as limits
use Rattle.names.specs.First.{IsLimitIn, IsPassedLimitAt, IsPastAt, IsPastIn, IsOneTooMany, name_place}
use Rattle.names.specs.proving.Gathering.{IsNamingFault}
use Rattle.names.specs.Modules.{name_of, type_count, value_count, all_assignments}
use Rattle.names.specs.Faults.{IsPast, fault_module, fault_name}
use Rattle.names.specs.proving.Distinct.{drop_at, occurs_map}
use Rattle.names.proofs.After.{types_count, values_count, all_after}

-- one module more
pub types_drop_module : (ms : List Module) (i : ℕ) (m : Module) → i < length ms → m ≡ get_or ms i m →
    type_count (all_assignments (map module_tree_of (drop i ms)))
    ≡ type_count (map given_of m.assignments.items) + type_count
    (all_assignments (map module_tree_of (drop (i + 1) ms)))
types_drop_module ms i m l e = ap (λ z. type_count (all_assignments (map module_tree_of z))) (drop_at ms i m l e) ∙ types_count (map given_of m.assignments.items) (all_assignments (map module_tree_of (drop (i + 1) ms)))

pub values_drop_module : (ms : List Module) (i : ℕ) (m : Module) → i < length ms → m ≡ get_or ms i m →
    value_count (all_assignments (map module_tree_of (drop i ms)))
    ≡ value_count (map given_of m.assignments.items) + value_count
    (all_assignments (map module_tree_of (drop (i + 1) ms)))
values_drop_module ms i m l e = ap (λ z. value_count (all_assignments (map module_tree_of z))) (drop_at ms i m l e) ∙ values_count (map given_of m.assignments.items) (all_assignments (map module_tree_of (drop (i + 1) ms)))

-- ---- what passes a limit

module _ (count : List AssignmentTree → ℕ) (add : (gs ks : List AssignmentTree) → count (gs ++ ks) ≡ count gs + count ks) where
  -- what is counted so far is what comes before
  before_here : (gs : List Assignment) (i k now : ℕ) →
      now + count (map given_of (drop i gs)) ≡ k + count (map given_of gs) → now ≡ k + count (map given_of (take i gs))
  before_here gs i k now sum =
      let s : map given_of (take i gs) ++ map given_of (drop i gs) ≡ map given_of gs = sym (map-append given_of (take i gs) (drop i gs)) ∙ ap (map given_of) (take-append-drop i gs) in
      let a : count (map given_of gs) ≡ count (map given_of (take i gs)) + count (map given_of (drop i gs)) = ap count (sym s) ∙ add (map given_of (take i gs)) (map given_of (drop i gs)) in
      omega (arith, sum, a)

  before_module : (ms : List Module) (i k : ℕ) →
      k + count (all_assignments (map module_tree_of (drop i ms))) ≡ count (all_assignments (map module_tree_of ms)) →
      k ≡ count (all_assignments (map module_tree_of (take i ms)))
  before_module ms i k sum =
      let front = map module_tree_of (take i ms) in
      let rest = map module_tree_of (drop i ms) in
      let s : front ++ rest ≡ map module_tree_of ms = sym (map-append module_tree_of (take i ms) (drop i ms)) ∙ ap (map module_tree_of) (take-append-drop i ms) in
      let a : count (all_assignments (map module_tree_of ms)) ≡ count (all_assignments front) + count (all_assignments rest) =
      ap (λ z. count (all_assignments z)) (sym s) ∙ ap count (all_after front rest) ∙ add (all_assignments front) (all_assignments rest) in
      omega (arith, sum, a)

  -- an assignment that passes a limit is counted too
  pub past_more : (n : ℕ) (ms : List ModuleTree) (M x : Name) → IsPast count n ms M x → n < count (all_assignments ms)
  past_more n ms M x p =
      let h = p.here in
      let a : count (all_assignments ms) ≡ count (all_assignments p.before) + count (all_assignments (p.tree ∷ p.after)) =
      ap (λ z. count (all_assignments z)) (sym p.splits) ∙ ap count (all_after p.before (p.tree ∷ p.after)) ∙ add (all_assignments p.before) (all_assignments (p.tree ∷ p.after)) in
      let b : count (all_assignments (p.tree ∷ p.after)) ≡ count p.tree.assignments + count (all_assignments p.after) = add p.tree.assignments (all_assignments p.after) in
      let c : count p.tree.assignments ≡ count h.before + count (h.given ∷ h.after) = ap count (sym h.splits) ∙ add h.before (h.given ∷ h.after) in
      let d : count (h.given ∷ h.after) ≡ count (h.given ∷ []) + count h.after = add (h.given ∷ []) h.after in
      omega (arith, a, b, c, d, h.full, h.counted)

-- the assignment of this turn passes a limit
pub past_in : (l : Limit) (t v n m : ℕ) (gs : List Assignment) (i : ℕ) (g : Assignment) (s : SourceLocation) →
    i < length gs → g ≡ get_or gs i g →
    n + type_count (map given_of (drop i gs)) ≡ t + type_count (map given_of gs) →
    m + value_count (map given_of (drop i gs)) ≡ v + value_count (map given_of gs) → IsOneTooMany l n m g →
    fault_name s ≡ name_of (given_of g) → s.at ≡ name_place g → IsPastIn l t v gs s
past_in l t v n m gs i g s w e a b p q r = record {
  number = i;
  given = g;
  there = slice_get_read gs (length gs) i g refl w e;
  passes =
      subst (λ z. IsOneTooMany l z (v + value_count (map given_of (take i gs))) g) (before_here type_count types_count gs i t n a)
      (subst (λ z. IsOneTooMany l n z g) (before_here value_count values_count gs i v m b) p);
  named = q;
  reported = r;
}

past_at : (l : Limit) (ms : List Module) (i : ℕ) (m : Module) (t v : ℕ) (M : Name) (gs : List Assignment)
    (s : SourceLocation) → i < length ms → m ≡ get_or ms i m → M ≡ name_at m.name → gs ≡ m.assignments.items →
    t + type_count (all_assignments (map module_tree_of (drop i ms))) ≡ type_count (all_assignments (map module_tree_of ms)) →
    v + value_count (all_assignments (map module_tree_of (drop i ms))) ≡ value_count (all_assignments (map module_tree_of ms)) →
    fault_module s ≡ M → IsPastIn l t v gs s → IsPastAt l ms s
past_at l ms i m t v M gs s w e q r a b f p = record {
  number = i;
  written = m;
  there = slice_get_read ms (length ms) i m refl w e;
  within = f ∙ q;
  here =
      subst (λ z. IsPastIn l z (value_count (all_assignments (map module_tree_of (take i ms)))) m.assignments.items s) (before_module type_count types_count ms i t a)
      (subst (λ z. IsPastIn l t z m.assignments.items s) (before_module value_count values_count ms i v b) (subst (λ z. IsPastIn l t v z s) r p));
}

-- what passes a limit in one module passes it in all, at the same place
pub limit_at : (ms : List Module) (i : ℕ) (m : Module) (t v : ℕ) (M : Name) (gs : List Assignment) (e : NameFault) →
    length ms ≤ 256 → i < length ms → m ≡ get_or ms i m → M ≡ name_at m.name → gs ≡ m.assignments.items →
    t + type_count (all_assignments (map module_tree_of (drop i ms))) ≡ type_count (all_assignments (map module_tree_of ms)) →
    v + value_count (all_assignments (map module_tree_of (drop i ms))) ≡ value_count (all_assignments (map module_tree_of ms)) →
    IsLimitIn t v M gs e → IsPassedLimitAt ms e
limit_at ms i m t v M gs faults.Memory n l d r q a b p = tt
limit_at ms i m t v M gs (faults.Limit limits.Types s) n l d r q a b p = (n, past_at limits.Types ms i m t v M gs s l d r q a b p.0 p.1)
limit_at ms i m t v M gs (faults.Limit limits.Values s) n l d r q a b p = (n, past_at limits.Values ms i m t v M gs s l d r q a b p.0 p.1)
limit_at ms i m t v M gs (faults.Limit limits.Modules s) n l d r q a b p = absurd p.1.passes
limit_at ms i m t v M gs (faults.Limit limits.Members s) n l d r q a b p = absurd p.1.passes
limit_at ms i m t v M gs (faults.Limit limits.Items s) n l d r q a b p = absurd p.1.passes
limit_at ms i m t v M gs (faults.Limit limits.NamedBit s) n l d r q a b p = absurd p.1.passes
limit_at ms i m t v M gs (faults.Limit limits.Integer s) n l d r q a b p = absurd p.1.passes
limit_at ms i m t v M gs (faults.Twice s) n l d r q a b p = absurd p
limit_at ms i m t v M gs (faults.UnknownName s) n l d r q a b p = absurd p
limit_at ms i m t v M gs (faults.NotExported s) n l d r q a b p = absurd p
limit_at ms i m t v M gs (faults.Circular s) n l d r q a b p = absurd p
limit_at ms i m t v M gs (faults.UnknownModule s) n l d r q a b p = absurd p

-- ---- what the place says of the modules

around : {X : Type 0} (xs : List X) (i : ℕ) (x : X) → slice_get xs i ≡ Some x → take i xs ++ x ∷ drop (i + 1) xs ≡ xs
around xs i x h =
    let e : x ≡ get_or xs i x = sym (get_or_from_slice_get xs i x x h) in
    ap (λ r. take i xs ++ r) (sym (drop_at xs i x (slice_get_within xs i x h) e)) ∙ take-append-drop i xs

around_seen : {X Y : Type 0} (f : X → Y) (xs : List X) (i : ℕ) (x : X) → slice_get xs i ≡ Some x →
    map f (take i xs) ++ f x ∷ map f (drop (i + 1) xs) ≡ map f xs
around_seen f xs i x h = sym (map-append f (take i xs) (x ∷ drop (i + 1) xs)) ∙ ap (map f) (around xs i x h)

passes_types : (t v : ℕ) (g : Assignment) → IsOneTooMany limits.Types t v g →
    (t ≡ 4096) × (type_count (given_of g ∷ []) ≡ 1)
passes_types t v (givens.Type a) p = (p.0, refl)
passes_types t v (givens.Value a) p = absurd p

passes_values : (t v : ℕ) (g : Assignment) → IsOneTooMany limits.Values t v g →
    (v ≡ 65536) × (value_count (given_of g ∷ []) ≡ 1)
passes_values t v (givens.Type a) p = absurd p
passes_values t v (givens.Value a) p = (p.1, refl)

is_past : (l : Limit) (ws : List Module) (s : SourceLocation) (p : IsPastAt l ws s) (count : List AssignmentTree → ℕ)
    (n : ℕ) →
    count (all_assignments (map module_tree_of (take p.number ws))) + count (map given_of (take p.here.number p.written.assignments.items)) ≡ n →
    count (given_of p.here.given ∷ []) ≡ 1 → IsPast count n (map module_tree_of ws) (fault_module s) (fault_name s)
is_past l ws s p count n full counted =
    let h = p.here in
    let gs = p.written.assignments.items in
    record {
      before = map module_tree_of (take p.number ws);
      tree = module_tree_of p.written;
      after = map module_tree_of (drop (p.number + 1) ws);
      splits = around_seen module_tree_of ws p.number p.written p.there;
      named = sym p.within;
      here = record {
        before = map given_of (take h.number gs);
        given = given_of h.given;
        after = map given_of (drop (h.number + 1) gs);
        splits = around_seen given_of gs h.number h.given h.there;
        assigns = sym h.named;
        full = full;
        counted = counted;
      };
    }

-- a passed limit is a fault of the modules
pub passed_fault : (ws : List Module) (e : NameFault) → IsPassedLimitAt ws e → IsNamingFault (map module_tree_of ws) e
passed_fault ws faults.Memory p = tt
passed_fault ws (faults.Limit limits.Modules s) p =
    record { tree = module_tree_of p.0; there = occurs_map module_tree_of ws 256 p.0 p.1; named = sym p.2; same = p.3 ∙ sym p.2 }
passed_fault ws (faults.Limit limits.Types s) p =
    let q = passes_types _ _ p.1.here.given p.1.here.passes in
    is_past limits.Types ws s p.1 type_count 4096 q.0 q.1
passed_fault ws (faults.Limit limits.Values s) p =
    let q = passes_values _ _ p.1.here.given p.1.here.passes in
    is_past limits.Values ws s p.1 value_count 65536 q.0 q.1
passed_fault ws (faults.Limit limits.Members s) p = absurd p
passed_fault ws (faults.Limit limits.Items s) p = absurd p
passed_fault ws (faults.Limit limits.NamedBit s) p = absurd p
passed_fault ws (faults.Limit limits.Integer s) p = absurd p
passed_fault ws (faults.Twice s) p = absurd p
passed_fault ws (faults.UnknownName s) p = absurd p
passed_fault ws (faults.NotExported s) p = absurd p
passed_fault ws (faults.Circular s) p = absurd p
passed_fault ws (faults.UnknownModule s) p = absurd p
