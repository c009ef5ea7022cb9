-- Types have one kind, and references one end.
use Rattle.std.proofs.Common.{◌≡◌, ℕ, zero, suc, refl, sym, ap, subst, ◌∙◌, Some, None}
use Rattle.std.specs.Prelude.{List, ◌∷◌, Option, slice_get}
use Rattle.trees.specs.declared.module.TagDefault.{TagDefault}
use Rattle.trees.specs.Values.{Name, Tree, reference}
use Rattle.names.specs.declared.scope.Assigned.{Assigned}
use Rattle.names.specs.declared.scope.Assigned.TheVariants as assigned
use Rattle.names.specs.Names.{Module, Meaning, own, imported, Refers, bare, within, across, IsApart, under}
use Rattle.names.specs.Sources.{Value}
use Rattle.type_table.specs.Table.{Type', WrittenKind, next}
use Rattle.type_table.specs.Walks.{onward, follow}
use Rattle.type_table.specs.Lists.{AreSound, IsSoundKind}
use Rattle.resolve.specs.Program.{Program, IsAssignment}
use Rattle.range_ends.specs.Ends.{IsTypeOfKind, IsValueAt}
use Rattle.value_notations.specs.References.{IsNamed, IsOwn, IsLast}
use Rattle.value_notations.specs.References as last
use Rattle.value_notations.specs.proving.Places.{one_some, some_none}

-- ---- kinds

onward_some : (o : Option ℕ) (f : ℕ → Option ℕ) (c : ℕ) → onward o f ≡ Some c → (j : ℕ) × (o ≡ Some j) × (f j ≡ Some c)
onward_some None f c e = absurd (some_none None c e refl)
onward_some (Some j) f c e = (j, refl, e)

pub walks_to_one : (next : ℕ → Option ℕ) (k m i c d : ℕ)
    → follow next k i ≡ Some c
    → next c ≡ None
    → follow next m i ≡ Some d
    → next d ≡ None
    → c ≡ d
walks_to_one next zero zero i c d e n f o = one_some (Some i) c d e f
walks_to_one next zero (suc m) i c d e n f o =
    let j = onward_some (next i) (λ j. follow next m j) d f in
    absurd (some_none (next i) j.0 j.1 (subst (λ (x : ℕ). next x ≡ None) (sym (one_some (Some i) i c refl e)) n))
walks_to_one next (suc k) zero i c d e n f o =
    let j = onward_some (next i) (λ j. follow next k j) c e in
    absurd (some_none (next i) j.0 j.1 (subst (λ (x : ℕ). next x ≡ None) (sym (one_some (Some i) i d refl f)) o))
walks_to_one next (suc k) (suc m) i c d e n f o =
    let a = onward_some (next i) (λ j. follow next k j) c e in
    let b = onward_some (next i) (λ j. follow next m j) d f in
    let same = one_some (next i) b.0 a.0 b.1 a.1 in
    walks_to_one next k m a.0 c d a.2 n (subst (λ (x : ℕ). follow next m x ≡ Some d) same b.2) o

pub one_kind : (ts : List Type') (i : ℕ) (k l : WrittenKind) → IsTypeOfKind ts i k → IsTypeOfKind ts i l → k ≡ l
one_kind ts i k l a b =
    let same = walks_to_one (next ts) a.chain.steps b.chain.steps i a.core b.core a.chain.chain a.chain.ends
    b.chain.chain b.chain.ends in
    let types = one_some (slice_get ts a.core) a.type b.type a.there
    (subst (λ (x : ℕ). slice_get ts x ≡ Some b.type) (sym same) b.there) in
    sym a.kind ∙ ap (λ (t : Type'). t.kind) types ∙ b.kind

pub sound_kind : (ts : List Type') (i : ℕ) (k : WrittenKind) → AreSound ts → IsTypeOfKind ts i k → IsSoundKind k
sound_kind ts i k s a = subst (λ (x : WrittenKind). IsSoundKind x) a.kind (s a.core a.type a.there)

-- ---- names

one_meaning : (ms : List (Name × Module)) (M x : Name) (a b : Assigned)
    → IsApart ms
    → Meaning ms M x a
    → Meaning ms M x b
    → a ≡ b
one_meaning ms M x a b apart (own m e f) (own n g h) =
    let same = one_some (under M ms) n m g e in
    one_some (under x m.assigned) a b f (subst (λ (y : Module). under x y.assigned ≡ Some b) same h)
one_meaning ms M x a b apart (own m e f) (imported n o N g h i j) =
    let same = one_some (under M ms) n m g e in
    absurd (some_none (under x m.assigned) a f
    (apart M x N m e (subst (λ (y : Module). under x y.imports ≡ Some N) same h)))
one_meaning ms M x a b apart (imported n o N g h i j) (own m e f) =
    let same = one_some (under M ms) n m g e in
    absurd (some_none (under x m.assigned) b f
    (apart M x N m e (subst (λ (y : Module). under x y.imports ≡ Some N) same h)))
one_meaning ms M x a b apart (imported m o N e f g h) (imported n q L i j k l) =
    let same = one_some (under M ms) n m i e in
    let from = one_some (under x m.imports) L N (subst (λ (y : Module). under x y.imports ≡ Some L) same j) f in
    let there = one_some (under N ms) q o (subst (λ (y : Name). under y ms ≡ Some q) from k) g in
    one_some (under x o.assigned) a b h (subst (λ (y : Module). under x y.assigned ≡ Some b) there l)

pub meaning_of : (ms : List (Name × Module)) (M : Name) (q : Option Name) (x : Name) (a : Assigned)
    → Refers ms M q x a
    → Meaning ms M x a
meaning_of ms M q x a (bare m) = m
meaning_of ms M q x a (within m) = m
meaning_of ms M q x a (across o N e f m) = m

abbrev number_in : Assigned → ℕ
number_in (assigned.Value i) = i
number_in (assigned.Type i) = i

pub one_value_meant : (ms : List (Name × Module)) (M : Name) (q : Option Name) (x : Name) (i j : ℕ)
    → IsApart ms
    → Refers ms M q x (assigned.Value i)
    → Refers ms M q x (assigned.Value j)
    → i ≡ j
one_value_meant ms M q x i j apart a b =
    ap number_in
    (one_meaning ms M x (assigned.Value i) (assigned.Value j) apart (meaning_of ms M q x (assigned.Value i) a)
    (meaning_of ms M q x (assigned.Value j) b))

pub one_header : (p : Program) (g : ℕ) (M N x y : Name) → IsAssignment p g M x → IsAssignment p g N y → M ≡ N
one_header p g M N x y a b =
    let owners = ap (λ (o : ℕ × Name). o.0)
    (one_some (slice_get p.assignments g) (a.owner, x) (b.owner, y) a.assigned b.assigned) in
    ap (λ (h : Name × TagDefault). h.0)
    (one_some (slice_get p.headers a.owner) (M, a.tags) (N, b.tags) a.header
    (subst (λ (o : ℕ). slice_get p.headers o ≡ Some (N, b.tags)) (sym owners) b.header))

pub one_module : (p : Program) (i : ℕ) (M N : Name) (n m : Tree)
    → IsValueAt p i M n
    → IsValueAt p i N m
    → (M ≡ N) × (n ≡ m)
one_module p i M N n m a b =
    let values = one_some (slice_get p.values i) a.value b.value a.there b.there in (
      one_header p a.value.assignment M N a.assigns b.assigns a.is_so
          (subst (λ (v : Value). IsAssignment p v.assignment N b.assigns) (sym values) b.is_so),
      sym a.notation ∙ ap (λ (v : Value). v.notation) values ∙ b.notation,
    )

-- ---- references

-- the same values being read, module and notation
pub record Same (os : List ℕ) (M : Name) (n : Tree) (ps : List ℕ) (K : Name) (l : Tree) : Type 0 where
  pub opened : os ≡ ps
  pub within : M ≡ K
  pub notation : n ≡ l

not_named : (k : WrittenKind) (q : Option Name) (x : Name) → (IsNamed k q x → ⊥) → IsOwn k (reference q x) → ⊥
not_named k q x without named = without named

pub moved : {p : Program} {k : WrittenKind} {os ps : List ℕ} {K N O : Name} {l u w : Tree} (i j : ℕ)
    → i ≡ j
    → N ≡ O
    → u ≡ w
    → IsLast p k (j ∷ os) O w ps K l
    → IsLast p k (i ∷ os) N u ps K l
moved {p} {k} {os} {ps} {K} {N} {O} {l} {u} {w} i j e f g d =
    subst (λ (z : Tree). IsLast p k (i ∷ os) N z ps K l) (sym g)
    (subst (λ (z : Name). IsLast p k (i ∷ os) z w ps K l) (sym f)
    (subst (λ (z : ℕ). IsLast p k (z ∷ os) O w ps K l) (sym e) d))

pub one_last : {p : Program} {k : WrittenKind} {os ps qs : List ℕ} {M K L : Name} {n l m : Tree}
    → IsApart p.modules
    → IsLast p k os M n ps K l
    → IsLast p k os M n qs L m
    → Same ps K l qs L m
one_last apart (last.own o) (last.own u) = record { opened = refl; within = refl; notation = refl }
one_last {k = k} apart (last.own o) (last.referred {q = q} {x = x} i none r f v a) = absurd (not_named k q x none o)
one_last {k = k} apart (last.referred {q = q} {x = x} i none r f v a) (last.own o) = absurd (not_named k q x none o)
one_last {p} {M = M} apart (last.referred {N = N} {q = q} {x = x} {m = u} i none r f v a)
    (last.referred {N = O} {m = w} j without s g y b) =
    let same = one_value_meant p.modules M q x i j apart r s in
    let at = one_module p i N O u w v (subst (λ (z : ℕ). IsValueAt p z O w) (sym same) y) in
    one_last apart a (moved i j same at.0 at.1 b)
