-- Assignments, imports and modules that are gathered, one after another.
use Rattle.std.proofs.Common.{◌≡◌, ◌<◌, inl, inr, ℕ, ◌+◌, ◌++◌, List, [], ◌∷◌, Some, None, length, map, take, refl, sym, subst, ap, ◌∙◌, append_assoc, length-append, arith}
use Rattle.std.specs.Prelude.{slice_get}
use Rattle.std.proofs.Math.Seq.{take-append_seam}
use Rattle.std.proofs.lemmas.List.{append-nil, length-map, map-append, take-append-le}
use Rattle.std.proofs.lemmas.Option.{slice_get_within}
use Rattle.trees.specs.declared.location.SourceLocation.{SourceLocation}
use Rattle.trees.specs.Values.{Name}
use Rattle.trees.specs.Modules.{AssignmentTree, ModuleTree}
use Rattle.names.specs.declared.fault.NameFault.{NameFault}
use Rattle.names.specs.declared.fault.NameFault.TheVariants as faults
use Rattle.names.specs.declared.gather.ModuleTables.{ModuleTables}
use Rattle.names.specs.declared.gather.Tables.{Tables}
use Rattle.names.specs.declared.scope.Assigned.{Assigned}
use Rattle.names.specs.proving.Gathering.{ReportsTwice, IsTwice, IsTaken, IsRepeated, IsTwiceFirst, Adds, HasGathered, IsNamingFault}
use Rattle.names.specs.Faults.{IsFirstAgain, IsFirstTwice, fault_module, fault_name}
use Rattle.names.specs.Names.{names_of, Module, under}
use Rattle.names.specs.Modules.{name_of, OccursIn, OccursTwice, AreDifferent, names_in, value_count, all_assignments}
use Rattle.names.specs.ByNumber.{named_from, roots_from, values_from, owned_by, scope_of, scopes_from, owned_from}
use Rattle.names.specs.Scopes.{scopes}
use Rattle.names.specs.Sources.{assignment_of, header_of, sources_of, value_seen}
use Rattle.names.proofs.After.{named_after, roots_after, values_after, names_named, length_values, length_owned, length_all_owned, all_after, scopes_after, owned_after, names_scopes}
use Rattle.names.specs.proving.Distinct.{again_twice, either, left, right, occurs_either, occurs_once, twice_across, distinct_none, distinct_more, under_none, name_under}

-- ---- assignments

-- assignments of module k that are added so far, and those that wait
pub record ArePlaced (k : ℕ) (all rest : List AssignmentTree) (old now : Tables) (names : List (Name × Assigned)) : Type 0 where
  pub done : List AssignmentTree
  pub splits : done ++ rest ≡ all
  pub named : names ≡ named_from (length old.assignments.items) (length old.values.items) done
  pub distinct : AreDifferent (map name_of done)
  pub adds : Adds k done old now

pub placed_start : (k : ℕ) (all : List AssignmentTree) (old : Tables) (names : List (Name × Assigned)) →
    names ≡ [] → ArePlaced k all all old old names
placed_start k all old names e = record {
  done = [];
  splits = refl;
  named = e;
  distinct = distinct_none;
  adds = record { owned = sym (append-nil (map assignment_of old.assignments.items)); roots = sym (append-nil (sources_of old.roots.items)); values = sym (append-nil (map value_seen old.values.items)) };
}

more_owned : (k : ℕ) (gs : List AssignmentTree) (old now : Tables) → Adds k gs old now →
    length now.assignments.items ≡ length old.assignments.items + length gs
more_owned k gs old now a =
    sym (length-map now.assignments.items assignment_of) ∙ ap length a.owned ∙ length-append (map assignment_of old.assignments.items) (owned_by k gs) ∙ ap (λ z. z + length (owned_by k gs)) (length-map old.assignments.items assignment_of) ∙ ap (λ z. length old.assignments.items + z) (length_owned k gs)

more_values : (k : ℕ) (gs : List AssignmentTree) (old now : Tables) → Adds k gs old now →
    length now.values.items ≡ length old.values.items + value_count gs
more_values k gs old now a =
    sym (length-map now.values.items value_seen) ∙ ap length a.values ∙ length-append (map value_seen old.values.items) (values_from (length old.assignments.items) gs) ∙ ap (λ z. z + length (values_from (length old.assignments.items) gs)) (length-map old.values.items value_seen) ∙ ap (λ z. length old.values.items + z) (length_values (length old.assignments.items) gs)

adds_more : (k : ℕ) (gs ks : List AssignmentTree) (old now new : Tables) → Adds k gs old now → Adds k ks now new →
    Adds k (gs ++ ks) old new
adds_more k gs ks old now new a b =
    let n = length old.assignments.items in
    let la = more_owned k gs old now a in
    record {
      owned = b.owned ∙ ap (λ z. z ++ owned_by k ks) a.owned ∙ append_assoc (map assignment_of old.assignments.items) (owned_by k gs) (owned_by k ks) ∙ ap (λ z. map assignment_of old.assignments.items ++ z) (sym (map-append (λ g. (k, name_of g)) gs ks));
      roots = b.roots ∙ ap (λ z. sources_of now.roots.items ++ roots_from z ks) la ∙ ap (λ z. z ++ roots_from (n + length gs) ks) a.roots ∙ append_assoc (sources_of old.roots.items) (roots_from n gs) (roots_from (n + length gs) ks) ∙ ap (λ z. sources_of old.roots.items ++ z) (sym (roots_after n gs ks));
      values = b.values ∙ ap (λ z. map value_seen now.values.items ++ values_from z ks) la ∙ ap (λ z. z ++ values_from (n + length gs) ks) a.values ∙ append_assoc (map value_seen old.values.items) (values_from n gs) (values_from (n + length gs) ks) ∙ ap (λ z. map value_seen old.values.items ++ z) (sym (values_after n gs ks));
    }

pub placed_step : (k : ℕ) (all rest : List AssignmentTree) (g : AssignmentTree) (old now new : Tables)
    (names names' : List (Name × Assigned)) → ArePlaced k all (g ∷ rest) old now names →
    names' ≡ names ++ named_from (length now.assignments.items) (length now.values.items) (g ∷ []) → under (name_of g) names ≡ None → Adds k (g ∷ []) now new → ArePlaced k all rest old new names'
placed_step k all rest g old now new names names' p e u b =
    let n = length old.assignments.items in
    let v = length old.values.items in
    let la = more_owned k p.done old now p.adds in
    let lv = more_values k p.done old now p.adds in
    let same : names_of names ≡ map name_of p.done = ap names_of p.named ∙ names_named n v p.done in
    record {
      done = p.done ++ g ∷ [];
      splits = append_assoc p.done (g ∷ []) rest ∙ p.splits;
      named = e ∙ ap (λ z. names ++ named_from z (length now.values.items) (g ∷ [])) la ∙ ap (λ z. names ++ named_from (n + length p.done) z (g ∷ [])) lv ∙ ap (λ z. z ++ named_from (n + length p.done) (v + value_count p.done) (g ∷ [])) p.named ∙ sym (named_after n v p.done (g ∷ []));
      distinct = subst AreDifferent (sym (map-append name_of p.done (g ∷ []))) (distinct_more (map name_of p.done) (name_of g) p.distinct (λ s. under_none (name_of g) names u (subst (λ l. OccursIn l (name_of g)) (sym same) s)));
      adds = adds_more k p.done (g ∷ []) old now new p.adds b;
    }

pub placed_end : (k : ℕ) (all : List AssignmentTree) (old now : Tables) (names : List (Name × Assigned)) →
    ArePlaced k all [] old now names →
    (names ≡ named_from (length old.assignments.items) (length old.values.items) all) × AreDifferent (map name_of all) × Adds k all old now
placed_end k all old now names p =
    let e : p.done ≡ all = sym (append-nil p.done) ∙ p.splits in
    (p.named ∙ ap (named_from (length old.assignments.items) (length old.values.items)) e, subst (λ l. AreDifferent (map name_of l)) e p.distinct, subst (λ l. Adds k l old now) e p.adds)

-- the names that are added so far are distinct
pub placed_distinct : (k : ℕ) (all rest : List AssignmentTree) (old now : Tables) (names : List (Name × Assigned)) →
    ArePlaced k all rest old now names → AreDifferent (names_of names)
placed_distinct k all rest old now names p =
    let same : names_of names ≡ map name_of p.done = ap names_of p.named ∙ names_named (length old.assignments.items) (length old.values.items) p.done in
    subst AreDifferent (sym same) p.distinct

-- what follows from `Twice` or `Memory`
tells : (Q : Name → Name → Type 0) (P : NameFault → Type 0) → P faults.Memory →
    ((s : SourceLocation) → Q (fault_module s) (fault_name s) → P (faults.Twice s)) → (e : NameFault) → ReportsTwice Q e → P e
tells Q P m t faults.Memory q = m
tells Q P m t (faults.Twice s) q = t s q
tells Q P m t (faults.UnknownName s) q = absurd q
tells Q P m t (faults.Limit l s) q = absurd q
tells Q P m t (faults.NotExported s) q = absurd q
tells Q P m t (faults.Circular s) q = absurd q
tells Q P m t (faults.UnknownModule s) q = absurd q

-- a name after distinct ones that is one of them is the first of all that is also before its place
first_again : (x : Name) (xs ys : List Name) → AreDifferent xs → OccursIn xs x → IsFirstAgain (xs ++ x ∷ ys) x
first_again x xs ys d s =
    let z : length xs ≡ length xs + 0 = omega arith in
    let f : take (length xs) (xs ++ x ∷ ys) ≡ xs = take-append_seam xs (x ∷ ys) in
    record {
      number = length xs;
      there = ap (λ k. slice_get (xs ++ x ∷ ys) k) z ∙ right xs (x ∷ ys) 0;
      again = subst (λ l. OccursIn l x) (sym f) s;
      before = subst AreDifferent (sym f) d;
    }

-- a name that is taken is the first of all that is given twice
taken_twice : (M x : Name) (xs ys all : List Name) (e : NameFault) → xs ++ x ∷ ys ≡ all → AreDifferent xs →
    IsTaken M x xs e → IsRepeated M all e
taken_twice M x xs ys all e q d t =
    tells (λ m y. (m ≡ M) × (y ≡ x) × OccursIn xs x) (IsRepeated M all) tt (λ s u. (u.0, subst (λ z. IsFirstAgain all z) (sym u.1) (subst (λ l. IsFirstAgain l x) q (first_again x xs ys d u.2)))) e t

twice_taken : {X : Type 0} (M x : Name) (es : List (Name × X)) (e : NameFault) → IsTwice M x es e →
    IsTaken M x (names_of es) e
twice_taken {X} M x es e t =
    tells (λ m y. (m ≡ M) × (y ≡ x) × (a : X) × (under x es ≡ Some a)) (IsTaken M x (names_of es)) tt (λ s u. (u.0, u.1, name_under x es u.2 u.3)) e t

pub placed_fault : (k : ℕ) (all rest : List AssignmentTree) (g : AssignmentTree) (old now : Tables)
    (names : List (Name × Assigned)) (M : Name) (e : NameFault) → ArePlaced k all (g ∷ rest) old now names →
    IsTwice M (name_of g) names e → IsRepeated M (map name_of all) e
placed_fault k all rest g old now names M e p t =
    let same : names_of names ≡ map name_of p.done = ap names_of p.named ∙ names_named (length old.assignments.items) (length old.values.items) p.done in
    taken_twice M (name_of g) (map name_of p.done) (map name_of rest) (map name_of all) e (sym (map-append name_of p.done (g ∷ rest)) ∙ ap (map name_of) p.splits) p.distinct (subst (λ l. IsTaken M (name_of g) l e) same (twice_taken M (name_of g) names e t))

-- ---- imports

pub import_distinct : (as' : List (Name × Assigned)) (is is' : List (Name × Name)) (x N : Name) →
    AreDifferent (names_of as' ++ names_of is) → under x as' ≡ None → under x is ≡ None → is' ≡ is ++ (x, N) ∷ [] →
    AreDifferent (names_of as' ++ names_of is')
import_distinct as' is is' x N d u w e =
    let same : (names_of as' ++ names_of is) ++ x ∷ [] ≡ names_of as' ++ names_of is' = append_assoc (names_of as') (names_of is) (x ∷ []) ∙ ap (λ l. names_of as' ++ l) (sym (ap names_of e ∙ map-append (λ (p : Name × Name). p.0) is ((x, N) ∷ []))) in
    subst AreDifferent same (distinct_more (names_of as' ++ names_of is) x d (λ s. elim (occurs_either (names_of as') (names_of is) x s) [
      | inl a ↦ under_none x as' u a
      | inr b ↦ under_none x is w b
    ]))

pub import_sum : {X : Type 0} (is is' rest all : List X) (i : X) → is ++ i ∷ rest ≡ all → is' ≡ is ++ i ∷ [] →
    is' ++ rest ≡ all
import_sum is is' rest all i q e = ap (λ l. l ++ rest) e ∙ append_assoc is (i ∷ []) rest ∙ q

pub import_fault : (M x N : Name) (xs : List Name) (is rest all : List (Name × Name)) (e : NameFault) →
    is ++ (x, N) ∷ rest ≡ all → AreDifferent (xs ++ names_of is) → IsTaken M x (xs ++ names_of is) e → IsRepeated M (xs ++ names_of all) e
import_fault M x N xs is rest all e q d t =
    taken_twice M x (xs ++ names_of is) (names_of rest) (xs ++ names_of all) e (append_assoc xs (names_of is) (x ∷ names_of rest) ∙ ap (λ l. xs ++ l) (sym (map-append (λ (p : Name × Name). p.0) is ((x, N) ∷ rest)) ∙ ap names_of q)) d t

pub imports_sum : {X : Type 0} (is is' one rest all : List X) → is ++ (one ++ rest) ≡ all → is' ≡ is ++ one →
    is' ++ rest ≡ all
imports_sum is is' one rest all q e = ap (λ l. l ++ rest) e ∙ append_assoc is one rest ∙ q

-- the same in a longer list
again_left : (xs ys : List Name) (x : Name) → IsFirstAgain xs x → IsFirstAgain (xs ++ ys) x
again_left xs ys x a =
    let w = slice_get_within xs a.number x a.there in
    let f : take a.number (xs ++ ys) ≡ take a.number xs = take-append-le a.number xs ys (omega (arith, w)) in
    record {
      number = a.number;
      there = left xs ys a.number x a.there;
      again = subst (λ l. OccursIn l x) (sym f) a.again;
      before = subst AreDifferent (sym f) a.before;
    }

pub repeated_more : (M : Name) (xs ys all : List Name) (e : NameFault) → xs ++ ys ≡ all → IsRepeated M xs e →
    IsRepeated M all e
repeated_more M xs ys all e q t =
    tells (λ m y. (m ≡ M) × IsFirstAgain xs y) (IsRepeated M all) tt (λ s u. (u.0, subst (λ l. IsFirstAgain l (fault_name s)) q (again_left xs ys (fault_name s) u.1))) e t

pub imports_fault : (M : Name) (xs : List Name) (is one rest all : List (Name × Name)) (e : NameFault) →
    is ++ (one ++ rest) ≡ all → IsRepeated M (xs ++ names_of (is ++ one)) e → IsRepeated M (xs ++ names_of all) e
imports_fault M xs is one rest all e q t =
    repeated_more M (xs ++ names_of (is ++ one)) (names_of rest) (xs ++ names_of all) e (append_assoc xs (names_of (is ++ one)) (names_of rest) ∙ ap (λ l. xs ++ l) (sym (map-append (λ (p : Name × Name). p.0) (is ++ one) rest) ∙ ap names_of (append_assoc is one rest ∙ q))) t

-- ---- modules

occurs_last : {X : Type 0} (P : X → Type 0) (xs : List X) (x : X) → ((y : X) → OccursIn xs y → P y) → P x →
    (y : X) → OccursIn (xs ++ x ∷ []) y → P y
occurs_last P xs x f p y s =
    elim (occurs_either xs (x ∷ []) y s) [
      | inl a ↦ f y a
      | inr b ↦ subst P (occurs_once x y b) p
    ]

pub gathered_more : (ms : List ModuleTree) (t : ModuleTree) (g g' : ModuleTables) → HasGathered ms g →
    under t.name (scopes g.modules.entries) ≡ None →
    scopes g'.modules.entries ≡ scopes g.modules.entries ++ (t.name, scope_of (length g.tables.assignments.items) (length g.tables.values.items) t) ∷ [] →
    map header_of g'.headers.items ≡ map header_of g.headers.items ++ (t.name, t.tag_default) ∷ [] →
    Adds (length g.headers.items) t.assignments g.tables g'.tables → AreDifferent (names_in t) → HasGathered (ms ++ t ∷ []) g'
gathered_more ms t g g' h u s d a n =
    let gs = all_assignments ms in
    let lh : length g.headers.items ≡ length ms = sym (length-map g.headers.items header_of) ∙ ap length h.headers ∙ length-map ms (λ m. (m.name, m.tag_default)) in
    let lg : length g.tables.assignments.items ≡ length gs = sym (length-map g.tables.assignments.items assignment_of) ∙ ap length h.assignments ∙ length_all_owned 0 ms in
    let lv : length g.tables.values.items ≡ value_count gs = sym (length-map g.tables.values.items value_seen) ∙ ap length h.values ∙ length_values 0 gs in
    let zg : length gs ≡ 0 + length gs = omega arith in
    let zv : value_count gs ≡ 0 + value_count gs = omega arith in
    let zh : length ms ≡ 0 + length ms = omega arith in
    let all : all_assignments (ms ++ t ∷ []) ≡ gs ++ t.assignments = all_after ms (t ∷ []) ∙ ap (λ l. gs ++ l) (append-nil t.assignments) in
    let same : names_of (scopes g.modules.entries) ≡ map (λ m. m.name) ms = ap names_of h.scopes ∙ names_scopes 0 0 ms in
    record {
      scopes = s ∙ ap (λ z. scopes g.modules.entries ++ scopes_from z (length g.tables.values.items) (t ∷ [])) (lg ∙ zg) ∙ ap (λ z. scopes g.modules.entries ++ scopes_from (0 + length gs) z (t ∷ [])) (lv ∙ zv) ∙ ap (λ z. z ++ scopes_from (0 + length gs) (0 + value_count gs) (t ∷ [])) h.scopes ∙ sym (scopes_after 0 0 ms (t ∷ []));
      headers = d ∙ ap (λ z. z ++ (t.name, t.tag_default) ∷ []) h.headers ∙ sym (map-append (λ m. (m.name, m.tag_default)) ms (t ∷ []));
      assignments = a.owned ∙ ap (λ z. map assignment_of g.tables.assignments.items ++ owned_by z t.assignments) (lh ∙ zh) ∙ ap (λ z. z ++ owned_by (0 + length ms) t.assignments) h.assignments ∙ ap (λ z. owned_from 0 ms ++ z) (sym (append-nil (owned_by (0 + length ms) t.assignments))) ∙ sym (owned_after 0 ms (t ∷ []));
      roots = a.roots ∙ ap (λ z. sources_of g.tables.roots.items ++ roots_from z t.assignments) (lg ∙ zg) ∙ ap (λ z. z ++ roots_from (0 + length gs) t.assignments) h.roots ∙ sym (roots_after 0 gs t.assignments) ∙ ap (roots_from 0) (sym all);
      values = a.values ∙ ap (λ z. map value_seen g.tables.values.items ++ values_from z t.assignments) (lg ∙ zg) ∙ ap (λ z. z ++ values_from (0 + length gs) t.assignments) h.values ∙ sym (values_after 0 gs t.assignments) ∙ ap (values_from 0) (sym all);
      distinct = subst AreDifferent (sym (map-append (λ m. m.name) ms (t ∷ []))) (distinct_more (map (λ m. m.name) ms) t.name h.distinct (λ z. under_none t.name (scopes g.modules.entries) u (subst (λ l. OccursIn l t.name) (sym same) z)));
      apart = occurs_last (λ m. AreDifferent (names_in m)) ms t h.apart n;
    }

-- the name of a module is that of one before it
pub module_twice : (ms rest : List ModuleTree) (t : ModuleTree) (g : ModuleTables) (m : Module) → HasGathered ms g →
    under t.name (scopes g.modules.entries) ≡ Some m → OccursTwice (map (λ m. m.name) (ms ++ t ∷ rest)) t.name
module_twice ms rest t g m h u =
    let same : names_of (scopes g.modules.entries) ≡ map (λ m. m.name) ms = ap names_of h.scopes ∙ names_scopes 0 0 ms in
    let s = subst (λ l. OccursIn l t.name) same (name_under t.name (scopes g.modules.entries) m u) in
    subst (λ l. OccursTwice l t.name) (sym (map-append (λ m. m.name) ms (t ∷ rest))) (twice_across (map (λ m. m.name) ms) (t.name ∷ map (λ m. m.name) rest) t.name s (0, refl))

pub scope_fault : (ms rest : List ModuleTree) (t : ModuleTree) (M : Name) (e : NameFault) → M ≡ t.name →
    IsRepeated M (names_in t) e → IsNamingFault (ms ++ t ∷ rest) e
scope_fault ms rest t M e q r =
    tells (λ m y. (m ≡ M) × IsFirstAgain (names_in t) y) (IsNamingFault (ms ++ t ∷ rest)) tt (λ s u. inr (record { number = length ms + 0; tree = t; there = right ms (t ∷ rest) 0; named = sym q ∙ sym u.0; twice = again_twice (names_in t) (fault_name s) u.1 })) e r

-- ---- the first name that is given twice

module _ (ms rest : List ModuleTree) (t : ModuleTree) (g : ModuleTables) (h : HasGathered ms g) where
  taken_modules : take (length ms) (ms ++ t ∷ rest) ≡ ms
  taken_modules = take-append_seam ms (t ∷ rest)

  earlier : (k : ℕ) (m : ModuleTree) → k < length ms → slice_get (ms ++ t ∷ rest) k ≡ Some m → AreDifferent (names_in m)
  earlier k m l e =
      elim (either ms (t ∷ rest) k m e) [
        | inl f ↦ h.apart m (k, f)
        | inr r ↦ (let q = r.1 in absurd (omega (arith, l, q)))
      ]

  here : slice_get (ms ++ t ∷ rest) (length ms) ≡ Some t
  here =
      let z : length ms ≡ length ms + 0 = omega arith in
      ap (λ k. slice_get (ms ++ t ∷ rest) k) z ∙ right ms (t ∷ rest) 0

  same_names : names_of (scopes g.modules.entries) ≡ map (λ m. m.name) ms
  same_names = ap names_of h.scopes ∙ names_scopes 0 0 ms

  modules_first : (s : SourceLocation) (m : Module) → under t.name (scopes g.modules.entries) ≡ Some m → fault_module s ≡ t.name →
      fault_name s ≡ t.name → IsFirstTwice (ms ++ t ∷ rest) (fault_module s) (fault_name s)
  modules_first s m u a b =
      let there = subst (λ l. OccursIn l t.name) same_names (name_under t.name (scopes g.modules.entries) m u) in
      let known = subst (λ l. OccursIn (map (λ m. m.name) l) t.name) (sym taken_modules) there in
      record {
        number = length ms;
        tree = t;
        there = here;
        named = a;
        modules = subst (λ l. AreDifferent (map (λ m. m.name) l)) (sym taken_modules) h.distinct;
        names = earlier;
        first = inl (b ∙ sym a, subst (λ z. OccursIn (map (λ m. m.name) (take (length ms) (ms ++ t ∷ rest))) z) (sym a) known);
      }

  pub module_first : (e : NameFault) (m : Module) → under t.name (scopes g.modules.entries) ≡ Some m →
      ReportsTwice (λ M x. (M ≡ t.name) × (x ≡ t.name)) e → IsTwiceFirst (ms ++ t ∷ rest) e
  module_first e m u r =
      tells (λ M x. (M ≡ t.name) × (x ≡ t.name)) (IsTwiceFirst (ms ++ t ∷ rest)) tt (λ s v. modules_first s m u v.0 v.1) e r

  pub scope_first : (M : Name) (e : NameFault) → M ≡ t.name → under t.name (scopes g.modules.entries) ≡ None →
      IsRepeated M (names_in t) e → IsTwiceFirst (ms ++ t ∷ rest) e
  scope_first M e q u r =
      let fresh : OccursIn (map (λ m. m.name) (take (length ms) (ms ++ t ∷ rest))) t.name → ⊥ = λ z. under_none t.name (scopes g.modules.entries) u (subst (λ l. OccursIn l t.name) (sym same_names) (subst (λ l. OccursIn (map (λ m. m.name) l) t.name) taken_modules z)) in
      tells (λ m y. (m ≡ M) × IsFirstAgain (names_in t) y) (IsTwiceFirst (ms ++ t ∷ rest)) tt
      (λ s v. record {
        number = length ms;
        tree = t;
        there = here;
        named = v.0 ∙ q;
        modules = subst (λ l. AreDifferent (map (λ m. m.name) l)) (sym taken_modules) h.distinct;
        names = earlier;
        first = inr (subst (λ z. OccursIn (map (λ m. m.name) (take (length ms) (ms ++ t ∷ rest))) z → ⊥) (sym (v.0 ∙ q)) fresh, v.1);
      }) e r

-- modules that are gathered so far, and those that wait
pub record ArePartly (all rest : List ModuleTree) (g : ModuleTables) : Type 0 where
  pub done : List ModuleTree
  pub splits : done ++ rest ≡ all
  pub gathered : HasGathered done g

pub partly_step : (all rest : List ModuleTree) (t : ModuleTree) (g g' : ModuleTables) → ArePartly all (t ∷ rest) g →
    ((ms : List ModuleTree) → HasGathered ms g → HasGathered (ms ++ t ∷ []) g') → ArePartly all rest g'
partly_step all rest t g g' p f = record { done = p.done ++ t ∷ []; splits = append_assoc p.done (t ∷ []) rest ∙ p.splits; gathered = f p.done p.gathered }

pub partly_end : (all : List ModuleTree) (g : ModuleTables) → ArePartly all [] g → HasGathered all g
partly_end all g p = subst (λ l. HasGathered l g) (sym (append-nil p.done) ∙ p.splits) p.gathered

pub partly_fault : (all rest : List ModuleTree) (t : ModuleTree) (g : ModuleTables) (e : NameFault) →
    ArePartly all (t ∷ rest) g → ((ms rest : List ModuleTree) → HasGathered ms g → IsNamingFault (ms ++ t ∷ rest) e) →
    IsNamingFault all e
partly_fault all rest t g e p f = subst (λ l. IsNamingFault l e) p.splits (f p.done rest p.gathered)

pub partly_first : (all rest : List ModuleTree) (t : ModuleTree) (g : ModuleTables) (e : NameFault) →
    ArePartly all (t ∷ rest) g → ((ms rest : List ModuleTree) → HasGathered ms g → IsTwiceFirst (ms ++ t ∷ rest) e) →
    IsTwiceFirst all e
partly_first all rest t g e p f = subst (λ l. IsTwiceFirst l e) p.splits (f p.done rest p.gathered)
