-- The first fault in the list of a type: what the check of one name, one number or one limit says of it.
use Rattle.std.proofs.Common.{◌≡◌, ◌<◌, ◌≤◌, ◌+◌, ◌++◌, ℕ, zero, suc, List, [], ◌∷◌, length, map, take, drop, Some, inl, inr, sym, subst, ap, ◌∙◌, arith}
use Rattle.std.specs.Prelude.{ℤ, slice_get}
use Rattle.std.proofs.lemmas.List.{map-append, take-append-drop, take-append-le}
use Rattle.std.proofs.lemmas.Option.{slice_get_within}
use Rattle.trees.specs.Values.{Name, name_at}
use Rattle.names.specs.declared.fault.Limit.{Limit}
use Rattle.names.specs.declared.fault.NameFault.{NameFault}
use Rattle.names.specs.declared.fault.NameFault.TheVariants as faults
use Rattle.names.specs.First.{IsTwiceAt}
use Rattle.names.specs.Modules.{AreDifferent, OccursIn}
use Rattle.names.specs.proving.Distinct.{either, left, right}
use Rattle.names.specs.proving.Gathering.{IsTaken}
use Rattle.type_table.specs.declared.table.ListMember.{ListMember}
use Rattle.type_table.specs.FirstInList.{IsLimitAt, IsSecond, Placed, ReportsPassed, ReportsSecond}
use Rattle.type_table.specs.Lists.{AreWithinLimit, addition_count, root_count}
use Rattle.type_table.specs.Seen.{part_of}
use Rattle.type_table.specs.Table.{Part}
use Rattle.type_table.specs.proving.Checks.{IsNumberFault, ReportsLimit, ReportsName}
use Rattle.type_table.proofs.Fronts.{Kept, KeptIn}

-- ---- one fault

pub second_taken : (M : Name) (names : List Placed) (xs done : List Name) (i : ℕ) (n : Placed) (P : ℕ → Type 0)
    (e : NameFault) → slice_get names i ≡ Some n → slice_get xs i ≡ Some (name_at n) → Kept xs done i → P i →
    IsTaken M (name_at n) done e → IsTwiceAt n.at e → ReportsSecond M names xs P e
second_taken M names xs done i n P faults.Memory a b k p t q = tt
second_taken M names xs done i n P (faults.Twice s) a b k p t q =
    (t.0, i, record { name = n; named = a; reported = t.1; at = q; element = name_at n; there = b; again = subst (λ d. OccursIn d (name_at n)) k.same t.2; before = k.apart }, p)
second_taken M names xs done i n P (faults.Limit l s) a b k p t q = absurd t
second_taken M names xs done i n P (faults.UnknownName s) a b k p t q = absurd t
second_taken M names xs done i n P (faults.NotExported s) a b k p t q = absurd t
second_taken M names xs done i n P (faults.Circular s) a b k p t q = absurd t
second_taken M names xs done i n P (faults.UnknownModule s) a b k p t q = absurd t

pub second_reported : {Z : Type 0} (M : Name) (names : List Placed) (zs : List Z) (i : ℕ) (n : Placed) (z : Z)
    (P : ℕ → Type 0) (e : NameFault) → slice_get names i ≡ Some n → slice_get zs i ≡ Some z →
    OccursIn (take i zs) z → AreDifferent (take i zs) → P i → ReportsName M (name_at n) e → IsTwiceAt n.at e →
    ReportsSecond M names zs P e
second_reported M names zs i n z P faults.Memory a b s d p t q = tt
second_reported M names zs i n z P (faults.Twice s) a b w d p t q =
    (t.0, i, record { name = n; named = a; reported = t.1; at = q; element = z; there = b; again = w; before = d }, p)
second_reported M names zs i n z P (faults.Limit l s) a b w d p t q = absurd t
second_reported M names zs i n z P (faults.UnknownName s) a b w d p t q = absurd t
second_reported M names zs i n z P (faults.NotExported s) a b w d p t q = absurd t
second_reported M names zs i n z P (faults.Circular s) a b w d p t q = absurd t
second_reported M names zs i n z P (faults.UnknownModule s) a b w d p t q = absurd t

pub second_numbered : {Z : Type 0} (M : Name) (names : List Placed) (zs keys : List Z) (i : ℕ) (n : Placed) (z : Z)
    (P : ℕ → Type 0) (e : NameFault) → slice_get names i ≡ Some n → slice_get zs i ≡ Some z → KeptIn zs keys i →
    P i → IsNumberFault M (name_at n) z keys e → IsTwiceAt n.at e → ReportsSecond M names zs P e
second_numbered M names zs keys i n z P faults.Memory a b k p t q = tt
second_numbered M names zs keys i n z P (faults.Twice s) a b k p t q =
    (t.0, i, record { name = n; named = a; reported = t.1; at = q; element = z; there = b; again = (k.same z).0 t.2; before = k.apart }, p)
second_numbered M names zs keys i n z P (faults.Limit l s) a b k p t q = absurd t
second_numbered M names zs keys i n z P (faults.UnknownName s) a b k p t q = absurd t
second_numbered M names zs keys i n z P (faults.NotExported s) a b k p t q = absurd t
second_numbered M names zs keys i n z P (faults.Circular s) a b k p t q = absurd t
second_numbered M names zs keys i n z P (faults.UnknownModule s) a b k p t q = absurd t

pub passed_at : (l : Limit) (M a : Name) (names : List Placed) (i : ℕ) (n : Placed) (P : ℕ → Type 0) (e : NameFault) →
    slice_get names i ≡ Some n → P i → ReportsLimit l M a e → IsLimitAt n.at e → ReportsPassed l M a names P e
passed_at l M a names i n P faults.Memory h p t q = tt
passed_at l M a names i n P (faults.Limit k s) h p t q = (t.0, t.1, t.2, i, n, h, q, p)
passed_at l M a names i n P (faults.Twice s) h p t q = absurd t
passed_at l M a names i n P (faults.UnknownName s) h p t q = absurd t
passed_at l M a names i n P (faults.NotExported s) h p t q = absurd t
passed_at l M a names i n P (faults.Circular s) h p t q = absurd t
passed_at l M a names i n P (faults.UnknownModule s) h p t q = absurd t

-- ---- what follows from one fault

wide : {X : Type 0} (names more : List Placed) (xs ys : List X) (i : ℕ) (s : _) → IsSecond names xs i s →
    IsSecond (names ++ more) (xs ++ ys) i s
wide names more xs ys i s d =
    let w = slice_get_within xs i d.element d.there in
    let e : take i (xs ++ ys) ≡ take i xs = take-append-le i xs ys (omega (arith, w)) in
    record {
      name = d.name;
      named = left names more i d.name d.named;
      reported = d.reported;
      at = d.at;
      element = d.element;
      there = left xs ys i d.element d.there;
      again = subst (λ l. OccursIn l d.element) (sym e) d.again;
      before = subst AreDifferent (sym e) d.before;
    }

-- the same with more known of the index, and in a longer list
pub second_wide : {X : Type 0} (M : Name) (names more all : List Placed) (xs ys zs : List X) (P Q : ℕ → Type 0)
    (e : NameFault) → names ++ more ≡ all → xs ++ ys ≡ zs → ((i : ℕ) → P i → Q i) →
    ReportsSecond M names xs P e → ReportsSecond M all zs Q e
second_wide M names more all xs ys zs P Q faults.Memory a b f t = tt
second_wide M names more all xs ys zs P Q (faults.Twice s) a b f t =
    (t.0, t.1, subst (λ l. IsSecond l zs t.1 s) a (subst (λ l. IsSecond (names ++ more) l t.1 s) b (wide names more xs ys t.1 s t.2)), f t.1 t.3)
second_wide M names more all xs ys zs P Q (faults.Limit l s) a b f t = absurd t
second_wide M names more all xs ys zs P Q (faults.UnknownName s) a b f t = absurd t
second_wide M names more all xs ys zs P Q (faults.NotExported s) a b f t = absurd t
second_wide M names more all xs ys zs P Q (faults.Circular s) a b f t = absurd t
second_wide M names more all xs ys zs P Q (faults.UnknownModule s) a b f t = absurd t

pub second_such : {X : Type 0} (M : Name) (names all : List Placed) (xs zs : List X) (P Q : ℕ → Type 0) (e : NameFault) →
    names ≡ all → xs ≡ zs → ((i : ℕ) → P i → Q i) → ReportsSecond M names xs P e → ReportsSecond M all zs Q e
second_such M names all xs zs P Q faults.Memory a b f t = tt
second_such M names all xs zs P Q (faults.Twice s) a b f t =
    (t.0, t.1, subst (λ l. IsSecond l zs t.1 s) a (subst (λ l. IsSecond names l t.1 s) b t.2), f t.1 t.3)
second_such M names all xs zs P Q (faults.Limit l s) a b f t = absurd t
second_such M names all xs zs P Q (faults.UnknownName s) a b f t = absurd t
second_such M names all xs zs P Q (faults.NotExported s) a b f t = absurd t
second_such M names all xs zs P Q (faults.Circular s) a b f t = absurd t
second_such M names all xs zs P Q (faults.UnknownModule s) a b f t = absurd t

-- the place of an element in a list after another one
pub right_at : {X : Type 0} (before xs : List X) (n i : ℕ) (x : X) → length before ≡ n → slice_get xs i ≡ Some x →
    slice_get (before ++ xs) (n + i) ≡ Some x
right_at before xs n i x e h = subst (λ k. slice_get (before ++ xs) (k + i) ≡ Some x) e (right before xs i ∙ h)

-- ---- counts

roots : (xs ys : List Part) → root_count (xs ++ ys) ≡ root_count xs + root_count ys
roots [] ys = omega arith
roots (x ∷ xs) ys = omega (arith, roots xs ys)

extras : (xs ys : List Part) → addition_count (xs ++ ys) ≡ addition_count xs + addition_count ys
extras [] ys = omega arith
extras (x ∷ xs) ys = omega (arith, extras xs ys)

module _ (n : ℕ) (cs : List ListMember) where
  halves : map part_of cs ≡ map part_of (take n cs) ++ map part_of (drop n cs)
  halves = ap (λ l. map part_of l) (sym (take-append-drop n cs)) ∙ map-append part_of (take n cs) (drop n cs)

  pub root_split : root_count (map part_of cs) ≡ root_count (map part_of (take n cs)) + root_count (map part_of (drop n cs))
  root_split = ap root_count halves ∙ roots (map part_of (take n cs)) (map part_of (drop n cs))

  pub addition_split : addition_count (map part_of cs)
      ≡ addition_count (map part_of (take n cs)) + addition_count (map part_of (drop n cs))
  addition_split = ap addition_count halves ∙ extras (map part_of (take n cs)) (map part_of (drop n cs))

-- ---- numbers of additions

taken : {X : Type 0} (xs : List X) (i k : ℕ) (x : X) → slice_get (take i xs) k ≡ Some x → (k < i) × (slice_get xs k ≡ Some x)
taken [] zero k x h = absurd cc
taken [] (suc i) k x h = absurd cc
taken (y ∷ ys) zero k x h = absurd cc
taken (y ∷ ys) (suc i) zero x h = (omega arith, h)
taken (y ∷ ys) (suc i) (suc k) x h = let r = taken ys i k x h in (omega (arith, r.0), r.1)

-- what is found so far is within the limit, so the numbers before this place are
pub within_front : (root found rest all : List ℤ) (i : ℕ) → found ++ rest ≡ root ++ all →
    length found ≡ length root + i → AreWithinLimit found → AreWithinLimit (take i all)
within_front root found rest all i e l w k z h =
    let t = taken all i k z h in
    let there = ap (λ q. slice_get q (length root + k)) e ∙ right root all k ∙ t.1 in
    elim (either found rest (length root + k) z there) [
      | inl a ↦ w (length root + k) z a
      | inr r ↦ (let f = t.0 in absurd (omega (arith, r.1, l, f)))
    ]
