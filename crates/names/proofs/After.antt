-- Tables of assignments and modules, and of others after them.
use Rattle.std.proofs.Common.{◌≡◌, ℕ, suc, ◌+◌, ◌++◌, List, [], ◌∷◌, length, map, refl, sym, ap, ◌∙◌, append_assoc, length-append, arith}
use Rattle.std.proofs.lemmas.List.{length-map}
use Rattle.trees.specs.Modules.{AssignmentTree, assigns_type, assigns_value, ModuleTree}
use Rattle.names.specs.Names.{names_of}
use Rattle.names.specs.declared.scope.Assigned.TheVariants as assigned
use Rattle.names.specs.Modules.{name_of, type_count, value_count, all_assignments}
use Rattle.names.specs.ByNumber.{root_of, named_from, roots_from, values_from, owned_by, scope_of, scopes_from, owned_from}

pub named_after : (n v : ℕ) (gs ks : List AssignmentTree) →
    named_from n v (gs ++ ks) ≡ named_from n v gs ++ named_from (n + length gs) (v + value_count gs) ks
named_after n v [] ks = let a : n + 0 ≡ n = omega arith in let b : v + 0 ≡ v = omega arith in rw (a, b) refl
named_after n v (assigns_type x t ∷ gs) ks =
    let a : n + suc (length gs) ≡ suc n + length gs = omega arith in
    rw a (ap (λ l. (x, assigned.Type n) ∷ l) (named_after (suc n) v gs ks))
named_after n v (assigns_value x t w ∷ gs) ks =
    let a : n + suc (length gs) ≡ suc n + length gs = omega arith in
    let b : v + suc (value_count gs) ≡ suc v + value_count gs = omega arith in
    rw (a, b) (ap (λ l. (x, assigned.Value v) ∷ l) (named_after (suc n) (suc v) gs ks))

pub roots_after : (n : ℕ) (gs ks : List AssignmentTree) →
    roots_from n (gs ++ ks) ≡ roots_from n gs ++ roots_from (n + length gs) ks
roots_after n [] ks = let a : n + 0 ≡ n = omega arith in rw a refl
roots_after n (g ∷ gs) ks =
    let a : n + suc (length gs) ≡ suc n + length gs = omega arith in
    rw a (ap (λ l. root_of n g ∷ l) (roots_after (suc n) gs ks))

pub values_after : (n : ℕ) (gs ks : List AssignmentTree) →
    values_from n (gs ++ ks) ≡ values_from n gs ++ values_from (n + length gs) ks
values_after n [] ks = let a : n + 0 ≡ n = omega arith in rw a refl
values_after n (assigns_type x t ∷ gs) ks =
    let a : n + suc (length gs) ≡ suc n + length gs = omega arith in
    rw a (values_after (suc n) gs ks)
values_after n (assigns_value x t w ∷ gs) ks =
    let a : n + suc (length gs) ≡ suc n + length gs = omega arith in
    rw a (ap (λ l. record { assignment = n; ty = n; notation = w } ∷ l) (values_after (suc n) gs ks))

pub names_named : (n v : ℕ) (gs : List AssignmentTree) → names_of (named_from n v gs) ≡ map name_of gs
names_named n v [] = refl
names_named n v (assigns_type x t ∷ gs) = ap (λ l. x ∷ l) (names_named (suc n) v gs)
names_named n v (assigns_value x t w ∷ gs) = ap (λ l. x ∷ l) (names_named (suc n) (suc v) gs)

pub length_roots : (n : ℕ) (gs : List AssignmentTree) → length (roots_from n gs) ≡ length gs
length_roots n [] = refl
length_roots n (g ∷ gs) = ap suc (length_roots (suc n) gs)

pub length_values : (n : ℕ) (gs : List AssignmentTree) → length (values_from n gs) ≡ value_count gs
length_values n [] = refl
length_values n (assigns_type x t ∷ gs) = length_values (suc n) gs
length_values n (assigns_value x t w ∷ gs) = ap suc (length_values (suc n) gs)

pub length_owned : (k : ℕ) (gs : List AssignmentTree) → length (owned_by k gs) ≡ length gs
length_owned k gs = length-map gs (λ g. (k, name_of g))

pub values_count : (gs ks : List AssignmentTree) → value_count (gs ++ ks) ≡ value_count gs + value_count ks
values_count [] ks = omega arith
values_count (assigns_type x t ∷ gs) ks = values_count gs ks
values_count (assigns_value x t w ∷ gs) ks = omega (arith, values_count gs ks)

pub types_count : (gs ks : List AssignmentTree) → type_count (gs ++ ks) ≡ type_count gs + type_count ks
types_count [] ks = omega arith
types_count (assigns_type x t ∷ gs) ks = omega (arith, types_count gs ks)
types_count (assigns_value x t w ∷ gs) ks = types_count gs ks

pub all_after : (ms ks : List ModuleTree) → all_assignments (ms ++ ks) ≡ all_assignments ms ++ all_assignments ks
all_after [] ks = refl
all_after (m ∷ ms) ks = ap (λ l. m.assignments ++ l) (all_after ms ks) ∙ sym (append_assoc m.assignments (all_assignments ms) (all_assignments ks))

pub scopes_after : (n v : ℕ) (ms ks : List ModuleTree) →
    scopes_from n v (ms ++ ks)
    ≡ scopes_from n v ms ++ scopes_from (n + length (all_assignments ms)) (v + value_count (all_assignments ms)) ks
scopes_after n v [] ks = let a : n + 0 ≡ n = omega arith in let b : v + 0 ≡ v = omega arith in rw (a, b) refl
scopes_after n v (m ∷ ms) ks =
    let gs = m.assignments in
    let hs = all_assignments ms in
    let a : n + length gs + length hs ≡ n + length (gs ++ hs) = omega (arith, length-append gs hs) in
    let b : v + value_count gs + value_count hs ≡ v + value_count (gs ++ hs) = omega (arith, values_count gs hs) in
    ap (λ l. (m.name, scope_of n v m) ∷ l) (scopes_after (n + length gs) (v + value_count gs) ms ks ∙ ap (λ z. scopes_from (n + length gs) (v + value_count gs) ms ++ scopes_from z (v + value_count gs + value_count hs) ks) a ∙ ap (λ z. scopes_from (n + length gs) (v + value_count gs) ms ++ scopes_from (n + length (gs ++ hs)) z ks) b)

pub owned_after : (k : ℕ) (ms ks : List ModuleTree) →
    owned_from k (ms ++ ks) ≡ owned_from k ms ++ owned_from (k + length ms) ks
owned_after k [] ks = let a : k + 0 ≡ k = omega arith in rw a refl
owned_after k (m ∷ ms) ks =
    let a : k + suc (length ms) ≡ suc k + length ms = omega arith in
    rw a (ap (λ l. owned_by k m.assignments ++ l) (owned_after (suc k) ms ks) ∙ sym (append_assoc (owned_by k m.assignments) (owned_from (suc k) ms) (owned_from (suc k + length ms) ks)))

pub length_all_owned : (k : ℕ) (ms : List ModuleTree) → length (owned_from k ms) ≡ length (all_assignments ms)
length_all_owned k [] = refl
length_all_owned k (m ∷ ms) = length-append (owned_by k m.assignments) (owned_from (suc k) ms) ∙ ap (λ z. z + length (owned_from (suc k) ms)) (length_owned k m.assignments) ∙ ap (λ z. length m.assignments + z) (length_all_owned (suc k) ms) ∙ sym (length-append m.assignments (all_assignments ms))

pub names_scopes : (n v : ℕ) (ms : List ModuleTree) → names_of (scopes_from n v ms) ≡ map (λ m. m.name) ms
names_scopes n v [] = refl
names_scopes n v (m ∷ ms) = ap (λ l. m.name ∷ l) (names_scopes (n + length m.assignments) (v + value_count m.assignments) ms)
