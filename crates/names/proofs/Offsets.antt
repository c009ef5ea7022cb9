-- Offsets of names that are given twice.
use Rattle.std.proofs.Common.{◌≡◌, ◌≤◌, inl, inr, ℕ, ◌+◌, ◌++◌, List, [], ◌∷◌, Option, Some, None, length, map, take, refl, sym, subst, ap, ◌∙◌, append_assoc, length-append, option_map, string_bytes, suc, arith}
use Rattle.std.specs.Prelude.{slice_get, String}
use Rattle.std.specs.Global.{Global}
use Rattle.std.proofs.Math.Seq.{take-append_seam}
use Rattle.std.proofs.lemmas.List.{append-nil, map-append, take-append-le}
use Rattle.std.proofs.lemmas.Option.{slice_get_within}
use Rattle.trees.specs.declared.location.SourceLocation.{SourceLocation}
use Rattle.trees.specs.declared.module.Module.{Module as ModuleSyntax}
use Rattle.trees.specs.Modules.{ModuleTree, module_tree_of}
use Rattle.trees.specs.Values.{Name, name_at}
use Rattle.names.specs.declared.fault.NameFault.{NameFault}
use Rattle.names.specs.declared.fault.NameFault.TheVariants as faults
use Rattle.names.specs.declared.gather.ModuleTables.{ModuleTables}
use Rattle.names.specs.Faults.{fault_module, fault_name}
use Rattle.names.specs.First.{IsAgain, IsFirstSpot, IsSpotOf, IsTwiceAt, IsTwiceOf, assigned_spots, import_spots, itself, of_assignment}
use Rattle.names.specs.Modules.{AreDifferent, OccursIn, names_in}
use Rattle.names.specs.Names.{Module, names_of, under}
use Rattle.names.specs.Scopes.{scopes, seen}
use Rattle.names.specs.proving.Distinct.{left, name_under, right, under_none, under_some}
use Rattle.names.specs.proving.Gathering.{HasGathered, HasWritten, IsAgainIn, IsTaken, IsTwice, ReportsTwice}
use Rattle.names.specs.proving.Meanings.{under_seen}
use Rattle.names.proofs.After.{names_scopes}
use Rattle.names.proofs.Entries.{none_map}

-- the names of a table, whatever is seen of its values
pub names_seen : {X Y Z : Type 0} (f : X → Y) (g : X → Z) (es : List (String Global × X)) →
    names_of (seen f es) ≡ names_of (seen g es)
names_seen f g [] = refl
names_seen f g (e ∷ es) = ap (λ l. string_bytes e.0 ∷ l) (names_seen f g es)

pub none_seen : {X Y Z : Type 0} (f : X → Y) (g : X → Z) (es : List (String Global × X)) (x : Name) →
    under x (seen f es) ≡ None → under x (seen g es) ≡ None
none_seen f g es x e =
    let n = none_map f _ (sym (under_seen f es x) ∙ e) in
    under_seen g es x ∙ ap (option_map g) n

-- what follows from `Twice` with an offset, or from `Memory`
tells_at : (Q : Name → Name → Type 0) (n : ℕ) (P : NameFault → Type 0) → P faults.Memory →
    ((s : SourceLocation) → Q (fault_module s) (fault_name s) → s.at ≡ n → P (faults.Twice s)) → (e : NameFault) →
    ReportsTwice Q e → IsTwiceAt n e → P e
tells_at Q n P m t faults.Memory q a = m
tells_at Q n P m t (faults.Twice s) q a = t s q a
tells_at Q n P m t (faults.UnknownName s) q a = absurd q
tells_at Q n P m t (faults.Limit l s) q a = absurd q
tells_at Q n P m t (faults.NotExported s) q a = absurd q
tells_at Q n P m t (faults.Circular s) q a = absurd q
tells_at Q n P m t (faults.UnknownModule s) q a = absurd q

-- a name after distinct ones that is one of them is the first of all that is also before its place
again_here : (as' is xs ys : List (Name × ℕ)) (x : Name) (own at : ℕ) → xs ++ (x, own) ∷ ys ≡ as' ++ is →
    AreDifferent (names_of xs) → OccursIn (names_of xs) x → IsSpotOf as' (length xs) x own at → IsAgain as' is x at
again_here as' is xs ys x own at q d s r =
    let z : length xs ≡ length xs + 0 = omega arith in
    let f : take (length xs) (as' ++ is) ≡ xs = ap (take (length xs)) (sym q) ∙ take-append_seam xs ((x, own) ∷ ys) in
    record {
      number = length xs;
      own = own;
      there = ap (λ l. slice_get l (length xs)) (sym q) ∙ ap (λ k. slice_get (xs ++ (x, own) ∷ ys) k) z ∙ right xs ((x, own) ∷ ys) 0;
      again = subst (λ l. OccursIn (names_of l) x) (sym f) s;
      before = subst (λ l. AreDifferent (names_of l)) (sym f) d;
      reported = r;
    }

-- the same with more imported names
again_more : (as' is ys : List (Name × ℕ)) (x : Name) (at : ℕ) → IsAgain as' is x at → IsAgain as' (is ++ ys) x at
again_more as' is ys x at a =
    let w = slice_get_within (as' ++ is) a.number (x, a.own) a.there in
    let s : (as' ++ is) ++ ys ≡ as' ++ (is ++ ys) = append_assoc as' is ys in
    let f : take a.number (as' ++ (is ++ ys)) ≡ take a.number (as' ++ is) = ap (take a.number) (sym s) ∙ take-append-le a.number (as' ++ is) ys (omega (arith, w)) in
    record {
      number = a.number;
      own = a.own;
      there = ap (λ l. slice_get l a.number) (sym s) ∙ left (as' ++ is) ys a.number (x, a.own) a.there;
      again = subst (λ l. OccursIn (names_of l) x) (sym f) a.again;
      before = subst (λ l. AreDifferent (names_of l)) (sym f) a.before;
      reported = a.reported;
    }

pub again_in : (M : Name) (as' is ys all : List (Name × ℕ)) (e : NameFault) → is ++ ys ≡ all → IsAgainIn M as' is e →
    IsAgainIn M as' all e
again_in M as' is ys all faults.Memory q t = tt
again_in M as' is ys all (faults.Twice s) q t =
    (t.0, subst (λ l. IsAgain as' l (fault_name s) s.at) q (again_more as' is ys (fault_name s) s.at t.1))
again_in M as' is ys all (faults.UnknownName s) q t = absurd t
again_in M as' is ys all (faults.Limit l s) q t = absurd t
again_in M as' is ys all (faults.NotExported s) q t = absurd t
again_in M as' is ys all (faults.Circular s) q t = absurd t
again_in M as' is ys all (faults.UnknownModule s) q t = absurd t

-- ---- assignments

-- these names of a table are taken, and g has one of them
pub assigned_again : {X : Type 0} (M : Name) (es : List (Name × X)) (done rest : List (Name × ℕ)) (x : Name) (own : ℕ)
    (all : List (Name × ℕ)) (e : NameFault) → done ++ (x, own) ∷ rest ≡ all → names_of es ≡ names_of done →
    AreDifferent (names_of done) → IsTwice M x es e → IsTwiceAt own e → IsAgainIn M all [] e
assigned_again {X} M es done rest x own all e q n d t a =
    tells_at (λ m y. (m ≡ M) × (y ≡ x) × (v : X) × (under x es ≡ Some v)) own (IsAgainIn M all []) tt
    (λ s u h.
    let taken : OccursIn (names_of done) x = subst (λ l. OccursIn l x) n (name_under x es u.2 u.3) in
    let long : length all ≡ length done + suc (length rest) = ap length (sym q) ∙ length-append done ((x, own) ∷ rest) in
    let spot : IsSpotOf all (length done) x own s.at = itself (λ l z. absurd (omega (arith, l, long))) h in
    (u.0, subst (λ z. IsAgain all [] z s.at) (sym u.1) (again_here all [] done rest x own s.at (q ∙ sym (append-nil all)) d taken spot)))
    e t a

-- ---- imports

spot_of : (as' : List (Name × ℕ)) (k : ℕ) (x : Name) (own : ℕ) (e : NameFault) (o : Option ℕ) → under x as' ≡ o →
    length as' ≤ k → ((n : ℕ) → under x as' ≡ Some n → IsTwiceAt n e) → (under x as' ≡ None → IsTwiceAt own e) →
    (n : ℕ) × IsTwiceAt n e × IsSpotOf as' k x own n
spot_of as' k x own e (Some n) u l f g = (n, f n u, of_assignment l (under_some x as' n u))
spot_of as' k x own e None u l f g = (own, g u, itself (λ z w. under_none x as' u w) refl)

-- name x is imported after these names of a module, and it is one of them
pub imported_again : (M x : Name) (own : ℕ) (names : List Name) (as' is rest all : List (Name × ℕ)) (e : NameFault) →
    is ++ (x, own) ∷ rest ≡ all → names ≡ names_of as' ++ names_of is → AreDifferent names → IsTaken M x names e →
    ((n : ℕ) → under x as' ≡ Some n → IsTwiceAt n e) → (under x as' ≡ None → IsTwiceAt own e) → IsAgainIn M as' all e
imported_again M x own names as' is rest all e q n d t f g =
    let same : names ≡ names_of (as' ++ is) = n ∙ sym (map-append (λ (p : Name × ℕ). p.0) as' is) in
    let few : length as' ≤ length (as' ++ is) = omega (arith, length-append as' is) in
    let spot = spot_of as' (length (as' ++ is)) x own e (under x as') refl few f g in
    tells_at (λ m y. (m ≡ M) × (y ≡ x) × OccursIn names x) spot.0 (IsAgainIn M as' all) tt
    (λ s u h. (
      u.0,
      subst (λ z. IsAgain as' all z s.at) (sym u.1)
          (again_here as' all (as' ++ is) rest x own s.at (append_assoc as' is ((x, own) ∷ rest) ∙ ap (λ l. as' ++ l) q)
          (subst AreDifferent same d) (subst (λ l. OccursIn l x) same u.2) (subst (IsSpotOf as' (length (as' ++ is)) x own) (sym h) spot.2)),
    ))
    e t spot.1

-- ---- modules

module _ (ws rest : List ModuleSyntax) (m : ModuleSyntax) (g : ModuleTables) (h : HasGathered (map module_tree_of ws) g) where
  taken_modules : take (length ws) (ws ++ m ∷ rest) ≡ ws
  taken_modules = take-append_seam ws (m ∷ rest)

  here : slice_get (ws ++ m ∷ rest) (length ws) ≡ Some m
  here =
      let z : length ws ≡ length ws + 0 = omega arith in
      ap (λ k. slice_get (ws ++ m ∷ rest) k) z ∙ right ws (m ∷ rest) 0

  same_names : names_of (scopes g.modules.entries) ≡ map (λ (t : ModuleTree). t.name) (map module_tree_of ws)
  same_names = ap names_of h.scopes ∙ names_scopes 0 0 (map module_tree_of ws)

  back : (x : Name) → OccursIn (names_of (scopes g.modules.entries)) x →
      OccursIn (map (λ (t : ModuleTree). t.name) (map module_tree_of (take (length ws) (ws ++ m ∷ rest)))) x
  back x o =
      subst (λ l. OccursIn (map (λ (t : ModuleTree). t.name) (map module_tree_of l)) x) (sym taken_modules) (subst (λ l. OccursIn l x) same_names o)

  forth : (x : Name) →
      OccursIn (map (λ (t : ModuleTree). t.name) (map module_tree_of (take (length ws) (ws ++ m ∷ rest)))) x →
      OccursIn (names_of (scopes g.modules.entries)) x
  forth x o =
      subst (λ l. OccursIn l x) (sym same_names) (subst (λ l. OccursIn (map (λ (t : ModuleTree). t.name) (map module_tree_of l)) x) taken_modules o)

  pub module_spot : (s : SourceLocation) (k : Module) → under (name_at m.name) (scopes g.modules.entries) ≡ Some k →
      fault_module s ≡ name_at m.name → fault_name s ≡ name_at m.name → s.at ≡ m.name.at →
      IsFirstSpot (ws ++ m ∷ rest) s
  module_spot s k u a b c = record {
    number = length ws;
    written = m;
    there = here;
    named = a;
    modules = subst (λ l. AreDifferent (map (λ (t : ModuleTree). t.name) (map module_tree_of l))) (sym taken_modules) h.distinct;
    names = subst (λ l. (t : ModuleTree) → OccursIn (map module_tree_of l) t → AreDifferent (names_in t)) (sym taken_modules) h.apart;
    first = inl (b ∙ sym a, subst (λ z. OccursIn (map (λ (t : ModuleTree). t.name) (map module_tree_of (take (length ws) (ws ++ m ∷ rest)))) z) (sym a) (back (name_at m.name) (name_under (name_at m.name) (scopes g.modules.entries) k u)), c);
  }

  scope_spot : (s : SourceLocation) → under (name_at m.name) (scopes g.modules.entries) ≡ None →
      fault_module s ≡ name_at m.name →
      IsAgain (assigned_spots m.assignments.items) (import_spots m.imports.items) (fault_name s) s.at →
      IsFirstSpot (ws ++ m ∷ rest) s
  scope_spot s u a r = record {
    number = length ws;
    written = m;
    there = here;
    named = a;
    modules = subst (λ l. AreDifferent (map (λ (t : ModuleTree). t.name) (map module_tree_of l))) (sym taken_modules) h.distinct;
    names = subst (λ l. (t : ModuleTree) → OccursIn (map module_tree_of l) t → AreDifferent (names_in t)) (sym taken_modules) h.apart;
    first = inr (subst (λ z. OccursIn (map (λ (t : ModuleTree). t.name) (map module_tree_of (take (length ws) (ws ++ m ∷ rest)))) z → ⊥) (sym a) (λ o. under_none (name_at m.name) (scopes g.modules.entries) u (forth (name_at m.name) o)), r);
  }

  pub scope_twice : (M : Name) (e : NameFault) → M ≡ name_at m.name →
      under (name_at m.name) (scopes g.modules.entries) ≡ None →
      IsAgainIn M (assigned_spots m.assignments.items) (import_spots m.imports.items) e → IsTwiceOf (ws ++ m ∷ rest) e
  scope_twice M faults.Memory q u t = tt
  scope_twice M (faults.Twice s) q u t = scope_spot s u (t.0 ∙ q) t.1
  scope_twice M (faults.UnknownName s) q u t = absurd t
  scope_twice M (faults.Limit l s) q u t = absurd t
  scope_twice M (faults.NotExported s) q u t = absurd t
  scope_twice M (faults.Circular s) q u t = absurd t
  scope_twice M (faults.UnknownModule s) q u t = absurd t

-- modules that are gathered so far, and those that wait
pub record AreHalfway (all rest : List ModuleSyntax) (g : ModuleTables) : Type 0 where
  pub done : List ModuleSyntax
  pub splits : done ++ rest ≡ all
  pub gathered : HasGathered (map module_tree_of done) g
  pub written : HasWritten done g

pub halfway_step : (all rest : List ModuleSyntax) (m : ModuleSyntax) (g g' : ModuleTables) →
    AreHalfway all (m ∷ rest) g →
    ((ms : List ModuleTree) → HasGathered ms g → HasGathered (ms ++ module_tree_of m ∷ []) g') →
    ((ws : List ModuleSyntax) → HasWritten ws g → HasWritten (ws ++ m ∷ []) g') → AreHalfway all rest g'
halfway_step all rest m g g' p f w = record {
  done = p.done ++ m ∷ [];
  splits = append_assoc p.done (m ∷ []) rest ∙ p.splits;
  gathered = subst (λ l. HasGathered l g') (sym (map-append module_tree_of p.done (m ∷ []))) (f (map module_tree_of p.done) p.gathered);
  written = w p.done p.written;
}

pub halfway_end : (all : List ModuleSyntax) (g : ModuleTables) → AreHalfway all [] g → HasWritten all g
halfway_end all g p = subst (λ l. HasWritten l g) (sym (append-nil p.done) ∙ p.splits) p.written

pub halfway_fault : (all rest : List ModuleSyntax) (m : ModuleSyntax) (g : ModuleTables) (e : NameFault) →
    AreHalfway all (m ∷ rest) g →
    ((ws rest : List ModuleSyntax) → HasGathered (map module_tree_of ws) g → IsTwiceOf (ws ++ m ∷ rest) e) →
    IsTwiceOf all e
halfway_fault all rest m g e p f = subst (λ l. IsTwiceOf l e) p.splits (f p.done rest p.gathered)
