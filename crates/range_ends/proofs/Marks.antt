-- Notes of where references lead.
use Rattle.std.proofs.Common.{◌≡◌, ◌⊎◌, inl, inr, ℕ, zero, suc, ◌+◌, ◌<◌, List, [], ◌∷◌, ◌++◌, length, Option, Some, None, refl, sym, ap, ◌∙◌, subst, arith}
use Rattle.std.specs.Prelude.{slice_get, slice_set}
use Rattle.type_table.specs.Table.{Type', WrittenKind}
use Rattle.type_table.specs.Walks.{onward, follow, ArrivesAt}
use Rattle.type_table.specs.proving.Walks.{walk_walk}
use Rattle.resolve.specs.Program.{Program, IsWhole}
use Rattle.range_ends.specs.Cores.{HasKind}
use Rattle.range_ends.specs.declared.notes.Note.{Note}
use Rattle.range_ends.specs.proving.Steps.{listed, next, AreReferred}
use Rattle.range_ends.specs.proving.Noted.{AreRight, IsPath, Leads}
use Rattle.range_ends.proofs.Circles.{below}
use Rattle.range_ends.proofs.References.{some_same, refers_within}
use Rattle.range_ends.proofs.Following.{next_listed, within_next}

-- ---- kinds

pub same_kind : (ts : List Type') (i : ℕ) (k l : WrittenKind) → HasKind ts i k → HasKind ts i l → k ≡ l
same_kind ts i k l a b =
    sym a.kind ∙ ap (λ t. t.kind) (some_same a.type b.type (sym a.there ∙ b.there)) ∙ b.kind

-- ---- where references lead

pub arrives_below : (p : Program) (k : WrittenKind) (os : List (Option ℕ)) (i c : ℕ) →
    IsWhole p →
    AreReferred p os →
    i < length p.values →
    ArrivesAt (next p k os) i c →
    c < length p.values
arrives_below p k os i c w a l t =
    let b = below (next p k os) (length os) t.steps i c (within_next p k os (refers_within p os w a)) (omega (arith, l, a.all)) t.chain in
    omega (arith, b, a.all)

pub itself : (p : Program) (os : List (Option ℕ)) (core i : ℕ) → Leads p os core i i
itself p os core i = λ k h. record { steps = 0; chain = refl }

pub leads_all : (p : Program) (os : List (Option ℕ)) (core : ℕ) (k : WrittenKind) (i c : ℕ) →
    HasKind p.types core k →
    ArrivesAt (next p k os) i c →
    Leads p os core i c
leads_all p os core k i c h a = λ l g. subst (λ m. ArrivesAt (next p m os) i c) (same_kind p.types core k l h g) a

pub path_leads : (p : Program) (k : WrittenKind) (os : List (Option ℕ)) (s i c : ℕ) →
    IsPath p k os s i c →
    ArrivesAt (next p k os) i c
path_leads p k os s i c w = record {
  steps = s + w.goes.steps;
  chain = walk_walk (next p k os) s w.goes.steps i w.place w.chain ∙ w.goes.chain;
}

one_step : (f : ℕ → Option ℕ) (s i c : ℕ) (o : Option ℕ) →
    f i ≡ o →
    onward o (λ j. follow f s j) ≡ Some c →
    (j : ℕ) × (f i ≡ Some j) × (follow f s j ≡ Some c)
one_step f s i c None e g = absurd cc
one_step f s i c (Some j) e g = (j, e, g)

-- one step on a path
pub path_on : (p : Program) (k : WrittenKind) (os : List (Option ℕ)) (s i j c : ℕ) →
    listed os i ≡ Some j →
    IsPath p k os (suc s) i c →
    IsPath p k os s j c
path_on p k os s i j c e w =
    let n = one_step (next p k os) s i w.place (next p k os i) refl w.chain in
    let q = some_same n.0 j (sym (next_listed p k os i n.0 n.1) ∙ e) in
    record { place = w.place; chain = subst (λ h. follow (next p k os) s h ≡ Some w.place) q n.2; goes = w.goes }

-- ---- lists of notes

set_one_of : {A : Type 0} (xs : List A) (i j : ℕ) (x y : A) →
    slice_get (slice_set xs i x) j ≡ Some y →
    (x ≡ y) ⊎ (slice_get xs j ≡ Some y)
set_one_of [] i j x y e = absurd cc
set_one_of (z ∷ xs) zero zero x y e = let q : x ≡ y = cc in inl q
set_one_of (z ∷ xs) zero (suc j) x y e = inr e
set_one_of (z ∷ xs) (suc i) zero x y e = inr e
set_one_of (z ∷ xs) (suc i) (suc j) x y e = set_one_of xs i j x y e

pub push_one_of : {A : Type 0} (xs : List A) (j : ℕ) (x y : A) →
    slice_get (xs ++ x ∷ []) j ≡ Some y →
    (x ≡ y) ⊎ (slice_get xs j ≡ Some y)
push_one_of [] zero x y e = let q : x ≡ y = cc in inl q
push_one_of [] (suc j) x y e = absurd cc
push_one_of (z ∷ xs) zero x y e = inr e
push_one_of (z ∷ xs) (suc j) x y e = push_one_of xs j x y e

pub none_right : (p : Program) (os : List (Option ℕ)) (ns : List Note) → ns ≡ [] → AreRight p os ns
none_right p os ns e = λ i n h. let f : None ≡ Some n = ap (λ xs. slice_get xs i) (sym e) ∙ h in absurd cc

pub right_set : (p : Program) (os : List (Option ℕ)) (ns : List Note) (i : ℕ) (n : Note) →
    AreRight p os ns →
    Leads p os n.core n.start n.reached →
    AreRight p os (slice_set ns i n)
right_set p os ns i n a h = λ j m e.
    elim (set_one_of ns i j n m e) [
      | inl q ↦ subst (λ (y : Note). Leads p os y.core y.start y.reached) q h
      | inr g ↦ a j m g
    ]

pub right_push : (p : Program) (os : List (Option ℕ)) (ns ms : List Note) (n : Note) →
    ms ≡ ns ++ n ∷ [] →
    AreRight p os ns →
    Leads p os n.core n.start n.reached →
    AreRight p os ms
right_push p os ns ms n q a h = λ j m e.
    elim (push_one_of ns j n m (ap (λ xs. slice_get xs j) (sym q) ∙ e)) [
      | inl r ↦ subst (λ (y : Note). Leads p os y.core y.start y.reached) r h
      | inr g ↦ a j m g
    ]
