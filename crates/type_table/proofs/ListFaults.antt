-- What the faults of one name, one number or one count say of the list of a type.
use Rattle.std.proofs.Common.{◌≡◌, ℕ, List, Some, sym, subst, ap, ◌∙◌, inr}
use Rattle.std.specs.Prelude.{slice_get}
use Rattle.trees.specs.Values.{Name}
use Rattle.names.specs.declared.fault.Limit.{Limit}
use Rattle.names.specs.declared.fault.NameFault.{NameFault}
use Rattle.names.specs.declared.fault.NameFault.TheVariants as faults
use Rattle.names.specs.Faults.{IsFirstAgain}
use Rattle.names.specs.Modules.{OccursIn, OccursTwice}
use Rattle.names.specs.proving.Distinct.{again_twice}
use Rattle.names.specs.proving.Gathering.{IsTaken, IsRepeated, ReportsTwice}
use Rattle.type_table.specs.ListFaults.{IsTwiceAmong, IsTwiceIn, HasPassed}
use Rattle.type_table.specs.Table.{WrittenKind}
use Rattle.type_table.specs.proving.Checks.{IsKindFault, IsNumberFault, ReportsLimit, ReportsName}
use Rattle.type_table.proofs.Fronts.{Kept, KeptIn, kept_in_twice}

pub kind_twice : (M a : Name) (k : WrittenKind) (Q : Name → Name → Type 0) (e : NameFault) →
    ((m y : Name) → Q m y → (m ≡ M) × IsTwiceIn k y) → ReportsTwice Q e → IsKindFault M a k e
kind_twice M a k Q faults.Memory f t = tt
kind_twice M a k Q (faults.Twice s) f t = f _ _ t
kind_twice M a k Q (faults.Limit l s) f t = absurd t
kind_twice M a k Q (faults.UnknownName s) f t = absurd t
kind_twice M a k Q (faults.NotExported s) f t = absurd t
kind_twice M a k Q (faults.Circular s) f t = absurd t
kind_twice M a k Q (faults.UnknownModule s) f t = absurd t

pub kind_limit : (M a : Name) (k : WrittenKind) (l : Limit) (e : NameFault) → HasPassed l k → ReportsLimit l M a e →
    IsKindFault M a k e
kind_limit M a k l faults.Memory h t = tt
kind_limit M a k l (faults.Limit m s) h t = (t.1, t.2, subst (λ z. HasPassed z k) (sym t.0) h)
kind_limit M a k l (faults.Twice s) h t = absurd t
kind_limit M a k l (faults.UnknownName s) h t = absurd t
kind_limit M a k l (faults.NotExported s) h t = absurd t
kind_limit M a k l (faults.Circular s) h t = absurd t
kind_limit M a k l (faults.UnknownModule s) h t = absurd t

-- a name that is twice in the list
pub kind_repeated : (M a : Name) (k : WrittenKind) (xs : List Name) (e : NameFault) →
    ((y : Name) → OccursTwice xs y → IsTwiceIn k y) → IsRepeated M xs e → IsKindFault M a k e
kind_repeated M a k xs e f t = kind_twice M a k (λ m y. (m ≡ M) × IsFirstAgain xs y) e (λ m y q. (q.0, f y (again_twice xs y q.1))) t

-- the next name is one of those before it
pub taken_repeated : (M : Name) (xs done : List Name) (i : ℕ) (x : Name) (e : NameFault) → slice_get xs i ≡ Some x →
    Kept xs done i → IsTaken M x done e → IsRepeated M xs e
taken_repeated M xs done i x faults.Memory here kept t = tt
taken_repeated M xs done i x (faults.Twice s) here kept t =
    (t.0, subst (λ z. IsFirstAgain xs z) (sym t.1) (record { number = i; there = here; again = subst (λ l. OccursIn l x) kept.same t.2; before = kept.apart }))
taken_repeated M xs done i x (faults.Limit l s) here kept t = absurd t
taken_repeated M xs done i x (faults.UnknownName s) here kept t = absurd t
taken_repeated M xs done i x (faults.NotExported s) here kept t = absurd t
taken_repeated M xs done i x (faults.Circular s) here kept t = absurd t
taken_repeated M xs done i x (faults.UnknownModule s) here kept t = absurd t

pub kind_taken : (M a : Name) (k : WrittenKind) (xs done : List Name) (i : ℕ) (x : Name) (e : NameFault) →
    ((y : Name) → OccursTwice xs y → IsTwiceIn k y) → slice_get xs i ≡ Some x → Kept xs done i → IsTaken M x done e →
    IsKindFault M a k e
kind_taken M a k xs done i x e f here kept t = kind_repeated M a k xs e f (taken_repeated M xs done i x e here kept t)

-- the next number is one of those before it
pub kind_numbered : {Z : Type 0} (M a : Name) (k : WrittenKind) (xs : List Name) (zs keys : List Z) (i : ℕ) (x : Name)
    (z : Z) (e : NameFault) → ((y : Name) → IsTwiceAmong xs zs y → IsTwiceIn k y) → slice_get xs i ≡ Some x →
    slice_get zs i ≡ Some z →
    KeptIn zs keys i → IsNumberFault M x z keys e → IsKindFault M a k e
kind_numbered M a k xs zs keys i x z e f name here kept t =
    kind_twice M a k (λ m y. (m ≡ M) × (y ≡ x) × OccursIn keys z) e
    (λ m y q. (q.0, f y (inr (record { place = i; number = z; named = name ∙ ap Some (sym q.1); has = here; twice = kept_in_twice zs keys i z here kept q.2 })))) t

-- this number is there twice
pub kind_again : {Z : Type 0} (M a : Name) (k : WrittenKind) (xs : List Name) (zs : List Z) (i : ℕ) (x : Name) (z : Z)
    (e : NameFault) → ((y : Name) → IsTwiceAmong xs zs y → IsTwiceIn k y) → slice_get xs i ≡ Some x →
    slice_get zs i ≡ Some z →
    OccursTwice zs z → ReportsName M x e → IsKindFault M a k e
kind_again M a k xs zs i x z e f name here twice t =
    kind_twice M a k (λ m y. (m ≡ M) × (y ≡ x)) e (λ m y q. (q.0, f y (inr (record { place = i; number = z; named = name ∙ ap Some (sym q.1); has = here; twice = twice })))) t
