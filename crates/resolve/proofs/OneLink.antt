-- Modules have at most one first fault of linking, at one offset. Each stage of linking excludes the faults of the
-- stages before it.
use Rattle.std.proofs.Common.{◌≡◌, ◌⊎◌, inl, inr, ◌<◌, ◌≤◌, ℕ, List, [], Some, length, map, refl, sym, subst, ap, ◌∙◌, arith}
use Rattle.std.specs.Prelude.{slice_get}
use Rattle.std.proofs.lemmas.List.{length-map}
use Rattle.std.proofs.lemmas.Option.{same_Some}
use Rattle.trees.specs.Values.{Name}
use Rattle.trees.specs.declared.location.SourceLocation.{SourceLocation}
use Rattle.trees.specs.declared.module.Module.{Module as ModuleSyntax}
use Rattle.trees.specs.declared.module.TagDefault.{TagDefault}
use Rattle.trees.specs.declared.types.TypeSyntax.{TypeSyntax}
use Rattle.trees.specs.Modules.{ModuleTree}
use Rattle.names.specs.declared.fault.Limit.{Limit}
use Rattle.names.specs.declared.fault.Limit.TheVariants as limits
use Rattle.names.specs.declared.fault.NameFault.{NameFault}
use Rattle.names.specs.declared.fault.NameFault.TheVariants as faults
use Rattle.names.specs.ByNumber.{headers_of, owned_from, roots_of, scopes_from}
use Rattle.names.specs.Faults.{IsNamesFault, IsSameLocation, ReportsAlike, fault_module, fault_name}
use Rattle.names.specs.First.{IsFirstExports, IsFirstSpot, IsPassedLimitAt, all_written}
use Rattle.names.specs.Modules.{AreDifferent, AreFew, AreNamed, OccursIn, names_in}
use Rattle.names.specs.Names.{Module}
use Rattle.names.specs.Sources.{Source}
use Rattle.names.specs.Written.{written_types}
use Rattle.names.specs.proving.Reports.{known, with_memory}
use Rattle.type_table.specs.Faults.{HasTooMany, IsFirstCircle, IsFirstNumbering}
use Rattle.type_table.specs.Numbering.{AreNumberedTypes}
use Rattle.type_table.specs.Seen.{type_of, types_of}
use Rattle.type_table.specs.Table.{AllUnfold, Type'}
use Rattle.type_table.specs.Written.{type_place}
use Rattle.resolve.specs.First.{HaveOneMeaning, IsFirstCircular, IsFirstLink, IsFirstOfProgram, IsTextOf, ReportsFirstOfProgram, of_counts, of_many, of_meanings, of_offers, of_program, of_types, of_unfolding, trees_of}
use Rattle.resolve.specs.Links.{IsProgramOf}
use Rattle.resolve.specs.Program.{Program, WrittenProgram, IsAssignment}
use Rattle.resolve.proofs.Exclusion.{one_module, one_name}
use Rattle.resolve.proofs.OneFault.{OneInList, one_fault}
use Rattle.resolve.proofs.Programs.{Apart, NamesExclude, OneTable, numbered_of, one_program}
use Rattle.resolve.proofs.SameText.{OneText, like, moved_first, same_assignment, same_at, same_types, same_values}

-- what the laws of names and of the table say
pub record Laws : Type 0 where
  pub apart : Apart
  pub table : OneTable
  pub names : NamesExclude
  pub in_list : OneInList
  pub text : OneText
  pub limit : (ws : List ModuleSyntax) (e f : NameFault) → IsPassedLimitAt ws e → IsPassedLimitAt ws f → ReportsAlike e f
  pub few : (ws : List ModuleSyntax) (l : Limit) (s : SourceLocation) → IsPassedLimitAt ws (faults.Limit l s) → AreFew (trees_of ws) → ⊥
  pub twice : (ws : List ModuleSyntax) (s t : SourceLocation) → IsFirstSpot ws s → IsFirstSpot ws t → IsSameLocation s t
  pub different : (ws : List ModuleSyntax) (s : SourceLocation) → IsFirstSpot ws s →
      AreDifferent (map (λ (m : ModuleTree). m.name) (trees_of ws)) →
      ((m : ModuleTree) → OccursIn (trees_of ws) m → AreDifferent (names_in m)) → ⊥
  pub offers : (ws : List ModuleSyntax) (e f : NameFault) →
      IsFirstExports (scopes_from 0 0 (trees_of ws)) (all_written ws) e →
      IsFirstExports (scopes_from 0 0 (trees_of ws)) (all_written ws) f → ReportsAlike e f
  pub numbering : (ms : List (Name × Module)) (hs : List (Name × TagDefault)) (gs : List (ℕ × Name)) (roots : List Source)
      (given : List TypeSyntax) (e f : NameFault) → IsFirstNumbering ms hs gs roots given e →
      IsFirstNumbering ms hs gs roots given f → ReportsAlike e f
  pub numbered : (ms : List (Name × Module)) (hs : List (Name × TagDefault)) (gs : List (ℕ × Name)) (roots : List Source)
      (given : List TypeSyntax) (ts : List Type') (e : NameFault) → (e ≡ faults.Memory → ⊥) →
      IsFirstNumbering ms hs gs roots given e → AreNumberedTypes ms hs gs roots ts → length ts ≤ 65536 → ⊥
  pub many : (hs : List (Name × TagDefault)) (gs : List (ℕ × Name)) (roots : List Source) (M N x y : Name) →
      HasTooMany hs gs roots M x → HasTooMany hs gs roots N y → (M ≡ N) × (x ≡ y)
  pub circle : (ts : List Type') (p q : ℕ) → IsFirstCircle ts p → IsFirstCircle ts q → p ≡ q
  pub unfolds : (ts : List Type') (p : ℕ) → IsFirstCircle ts p → AllUnfold ts → ⊥
  pub roots : (ms : List (Name × Module)) (hs : List (Name × TagDefault)) (gs : List (ℕ × Name)) (roots : List Source)
      (ts : List Type') → AreNumberedTypes ms hs gs roots ts → length roots ≤ length ts

-- a fault of this stage, or one of a later stage, which C admits
abbrev Stage : (NameFault → Type 0) → Type 0 → (NameFault → Type 0) → NameFault → Type 0
Stage A C B e = A e ⊎ (C × B e)

stage : (A : NameFault → Type 0) (C : Type 0) (B : NameFault → Type 0) (e f : NameFault) →
    (A e → A f → ReportsAlike e f) → (A e → C → ⊥) → (A f → C → ⊥) → (B e → B f → ReportsAlike e f) → Stage A C B e →
    Stage A C B f → ReportsAlike e f
stage A C B e f one not_e not_f more (inl a) (inl b) = one a b
stage A C B e f one not_e not_f more (inl a) (inr b) = absurd (not_e a b.0)
stage A C B e f one not_e not_f more (inr a) (inl b) = absurd (not_f b a.0)
stage A C B e f one not_e not_f more (inr a) (inr b) = more a.1 b.1

alike : (e f g h : NameFault) → e ≡ g → f ≡ h → ReportsAlike g h → ReportsAlike e f
alike e f g h p q r = subst (λ z. ReportsAlike z f) (sym p) (subst (λ z. ReportsAlike g z) (sym q) r)

module _ (ws : List ModuleSyntax) where
  abbrev ms : List ModuleTree
  ms = trees_of ws

  abbrev roots : List Source
  roots = roots_of ms

  abbrev NumbersAs : List Type' → Type 0
  NumbersAs ts = AreNumberedTypes (scopes_from 0 0 ms) (headers_of ms) (owned_from 0 ms) roots ts

  abbrev Counts : NameFault → Type 0
  Counts e = (l : Limit) × (s : SourceLocation) × (e ≡ faults.Limit l s) × IsPassedLimitAt ws (faults.Limit l s)

  abbrev Meanings : NameFault → Type 0
  Meanings e = (s : SourceLocation) × (e ≡ faults.Twice s) × IsFirstSpot ws s

  abbrev Offers : NameFault → Type 0
  Offers e = AreFew ms × IsNamesFault ms e × IsFirstExports (scopes_from 0 0 ms) (all_written ws) e

  record IsMany (e : NameFault) : Type 0 where
    place : SourceLocation
    is : e ≡ faults.Limit limits.Types place
    written : TypeSyntax
    more : 65536 < length roots
    such : HasTooMany (headers_of ms) (owned_from 0 ms) roots (fault_module place) (fault_name place)
    there : slice_get (written_types ws) 65536 ≡ Some written
    at : place.at ≡ type_place written

  abbrev Types : NameFault → Type 0
  Types e = IsFirstNumbering (scopes_from 0 0 ms) (headers_of ms) (owned_from 0 ms) roots (written_types ws) e

  abbrev HasTable : Type 0
  HasTable = (ts : List Type') × NumbersAs ts × (length ts ≤ 65536)

  abbrev Unfolding : NameFault → Type 0
  Unfolding e = (s : SourceLocation) × (e ≡ faults.Circular s) × AreNamed ms × IsFirstCircular ws s

  abbrev Unfolds : Type 0
  Unfolds = (ts : List Type') × NumbersAs ts × AllUnfold ts

  record IsOfProgram (e : NameFault) : Type 0 where
    program : WrittenProgram
    named : AreNamed ms
    is : IsProgramOf ms program.program
    text : IsTextOf ws program
    first : ReportsFirstOfProgram program.program program.types program.values e

  abbrev InTypes : NameFault → Type 0
  InTypes e = Stage Types HasTable (Stage Unfolding Unfolds IsOfProgram) e

  abbrev AfterNames : NameFault → Type 0
  AfterNames e = Stage IsMany (length roots ≤ 65536) InTypes e

  abbrev AfterMeanings : NameFault → Type 0
  AfterMeanings e = Stage Offers (AreNamed ms) AfterNames e

  abbrev AfterCounts : NameFault → Type 0
  AfterCounts e = Stage Meanings (HaveOneMeaning ms) AfterMeanings e

  abbrev All : NameFault → Type 0
  All e = Stage Counts (AreFew ms) AfterCounts e

  -- ---- which stage a fault is of

  after : (e : NameFault) → AreNamed ms → AreFew ms → AfterNames e → All e
  after e n f x = inr (f, inr ((n.modules, n.names), inr (n, x)))

  module _ (law : Laws) where
    few_roots : (ts : List Type') → NumbersAs ts → length ts ≤ 65536 → length roots ≤ 65536
    few_roots ts a l =
        let r = law.roots (scopes_from 0 0 ms) (headers_of ms) (owned_from 0 ms) roots ts a in
        omega (arith, r, l)

    sort : (e : NameFault) → IsFirstLink ws e → All e
    sort (faults.Limit l s) (of_counts f p) = inl (l, s, refl, p)
    sort (faults.Twice s) (of_meanings f p) = inr (f, inl (s, refl, p))
    sort e (of_offers f m n p) = inr (f, inr (m, inl (f, n, p)))
    sort (faults.Limit limits.Types s) (of_many t n f l h w a) =
        after (faults.Limit limits.Types s) n f (inl (record { place = s; is = refl; written = t; more = l; such = h; there = w; at = a }))
    sort e (of_types n f l p) = after e n f (inr (l, inl p))
    sort (faults.Circular s) (of_unfolding n f c) =
        let few = c.few in
        let l : length (types_of c.table) ≤ 65536 = omega (arith, length-map c.table type_of, few) in
        after (faults.Circular s) n f (inr (few_roots (types_of c.table) c.numbered l, inr ((types_of c.table, c.numbered, l), inl (s, refl, n, c))))
    sort e (of_program p n f i l u t r) =
        let a = numbered_of ms p.program i in
        after e n f (inr (few_roots p.program.types a l, inr ((p.program.types, a, l), inr ((p.program.types, a, u), record { program = p; named = n; is = i; text = t; first = r }))))

    -- ---- two faults of one stage

    two_many : (e f : NameFault) → IsMany e → IsMany f → ReportsAlike e f
    two_many e f a b =
        let r = law.many (headers_of ms) (owned_from 0 ms) roots (fault_module a.place) (fault_module b.place) (fault_name a.place) (fault_name b.place) a.such b.such in
        let w = same_Some a.written b.written (sym a.there ∙ b.there) in
        alike e f (faults.Limit limits.Types a.place) (faults.Limit limits.Types b.place) a.is b.is (refl, (r.0, r.1, a.at ∙ ap type_place w ∙ sym b.at))

    -- the program of the assignments alone
    abbrev assignments : Program
    assignments = record { modules = []; headers = headers_of ms; assignments = owned_from 0 ms; types = []; values = [] }

    two_circular : (s t : SourceLocation) → AreNamed ms → IsFirstCircular ws s → IsFirstCircular ws t → IsSameLocation s t
    two_circular s t n a b =
        let types = law.table (scopes_from 0 0 ms) (headers_of ms) (owned_from 0 ms) roots (types_of a.table) (types_of b.table) (law.apart ms n.names) a.numbered b.numbered in
        let texts = law.text (written_types ws) a.table b.table a.places b.places in
        let q = law.circle (types_of b.table) a.number b.number (subst (λ z. IsFirstCircle z a.number) types a.circle) b.circle in
        let l = like a.table b.table types texts a.number b.number a.written b.written q a.there b.there in
        let k = b.written.assignment in
        let h : IsAssignment assignments k (fault_module s) (fault_name s) = record {
          owner = a.owner;
          tags = a.default;
          assigned = subst (λ z. slice_get (owned_from 0 ms) z ≡ Some (a.owner, fault_name s)) (same_assignment a.written b.written l) a.assigned;
          header = a.header;
        } in
        let g : IsAssignment assignments k (fault_module t) (fault_name t) = record { owner = b.owner; tags = b.default; assigned = b.assigned; header = b.header } in (
          one_module assignments k (fault_module s) (fault_name s) (fault_module t) (fault_name t) h g,
          one_name assignments k (fault_module s) (fault_name s) (fault_module t) (fault_name t) h g,
          a.at ∙ same_at a.written b.written l ∙ sym b.at,
        )

    -- a fault of a program, other than `Memory`
    program_fault : (p : WrittenProgram) (e : NameFault) → (e ≡ faults.Memory → ⊥) →
        ReportsFirstOfProgram p.program p.types p.values e → IsFirstOfProgram p.program p.types p.values e
    program_fault p faults.Memory n r = absurd (n refl)
    program_fault p (faults.Limit l s) n r = r
    program_fault p (faults.Twice s) n r = r
    program_fault p (faults.UnknownName s) n r = r
    program_fault p (faults.NotExported s) n r = r
    program_fault p (faults.Circular s) n r = r
    program_fault p (faults.UnknownModule s) n r = r

    two_program : (e f : NameFault) → (e ≡ faults.Memory → ⊥) → (f ≡ faults.Memory → ⊥) → IsOfProgram e →
        IsOfProgram f → ReportsAlike e f
    two_program e f n k a b =
        let p = a.program in
        let q = b.program in
        let same = one_program law.apart law.table ms p.program q.program a.named a.is b.is in
        let texts = law.text (written_types ws) p.types q.types a.text.types b.text.types in
        let x = program_fault p e n a.first in
        let y = subst (λ z. IsFirstOfProgram z p.types q.values e) same (subst (λ z. IsFirstOfProgram p.program p.types z e) (same_values ws p q same a.text b.text) x) in
        let z = moved_first p.types q.types (same_types ws p q same a.text b.text) texts q.program q.values e y in
        one_fault q.program q.types q.values b.text.same law.in_list e f z (program_fault q f k b.first)

    -- ---- all stages

    module _ (e f : NameFault) (n : e ≡ faults.Memory → ⊥) (k : f ≡ faults.Memory → ⊥) where
      one_counts : Counts e → Counts f → ReportsAlike e f
      one_counts a b = alike e f (faults.Limit a.0 a.1) (faults.Limit b.0 b.1) a.2 b.2 (law.limit ws (faults.Limit a.0 a.1) (faults.Limit b.0 b.1) a.3 b.3)

      one_meanings : Meanings e → Meanings f → ReportsAlike e f
      one_meanings a b = alike e f (faults.Twice a.0) (faults.Twice b.0) a.1 b.1 (law.twice ws a.0 b.0 a.2 b.2)

      one_unfolding : Unfolding e → Unfolding f → ReportsAlike e f
      one_unfolding a b = alike e f (faults.Circular a.0) (faults.Circular b.0) a.1 b.1 (two_circular a.0 b.0 a.2 a.3 b.3)

      no_counts : (g : NameFault) → Counts g → AreFew ms → ⊥
      no_counts g a c = law.few ws a.0 a.1 a.3 c

      no_meanings : (g : NameFault) → Meanings g → HaveOneMeaning ms → ⊥
      no_meanings g a c = law.different ws a.0 a.2 c.0 c.1

      no_offers : (g : NameFault) → Offers g → AreNamed ms → ⊥
      no_offers g a c = law.names ms g a.1 c a.0

      no_many : (g : NameFault) → IsMany g → length roots ≤ 65536 → ⊥
      no_many g a c = let m = a.more in absurd (omega (arith, m, c))

      no_types : (g : NameFault) → (g ≡ faults.Memory → ⊥) → Types g → HasTable → ⊥
      no_types g m a c = law.numbered (scopes_from 0 0 ms) (headers_of ms) (owned_from 0 ms) roots (written_types ws) c.0 g m a c.1 c.2

      no_unfolding : (g : NameFault) → Unfolding g → Unfolds → ⊥
      no_unfolding g a c =
          let t = law.table (scopes_from 0 0 ms) (headers_of ms) (owned_from 0 ms) roots (types_of a.3.table) c.0 (law.apart ms a.2.names) a.3.numbered c.1 in
          law.unfolds c.0 a.3.number (subst (λ z. IsFirstCircle z a.3.number) t a.3.circle) c.2

      one_unfolds : Stage Unfolding Unfolds IsOfProgram e → Stage Unfolding Unfolds IsOfProgram f → ReportsAlike e f
      one_unfolds = stage Unfolding Unfolds IsOfProgram e f one_unfolding (no_unfolding e) (no_unfolding f) (two_program e f n k)

      one_types : InTypes e → InTypes f → ReportsAlike e f
      one_types =
          stage Types HasTable (Stage Unfolding Unfolds IsOfProgram) e f (law.numbering (scopes_from 0 0 ms) (headers_of ms) (owned_from 0 ms) roots (written_types ws) e f) (no_types e n) (no_types f k) one_unfolds

      one_many : AfterNames e → AfterNames f → ReportsAlike e f
      one_many = stage IsMany (length roots ≤ 65536) InTypes e f (two_many e f) (no_many e) (no_many f) one_types

      one_offers : AfterMeanings e → AfterMeanings f → ReportsAlike e f
      one_offers = stage Offers (AreNamed ms) AfterNames e f (λ a b. law.offers ws e f a.2 b.2) (no_offers e) (no_offers f) one_many

      one_after : AfterCounts e → AfterCounts f → ReportsAlike e f
      one_after = stage Meanings (HaveOneMeaning ms) AfterMeanings e f one_meanings (no_meanings e) (no_meanings f) one_offers

      one_all : All e → All f → ReportsAlike e f
      one_all = stage Counts (AreFew ms) AfterCounts e f one_counts (no_counts e) (no_counts f) one_after

    pub one_link : (e f : NameFault) → IsFirstLink ws e → IsFirstLink ws f → ReportsAlike e f
    one_link e f a b =
        elim (known e) [
          | inl q ↦ subst (λ z. ReportsAlike z f) (sym q) tt
          | inr n ↦ elim (known f) [
            | inl q ↦ subst (λ z. ReportsAlike e z) (sym q) (with_memory e)
            | inr k ↦ one_all e f n k (sort e a) (sort f b)
          ]
        ]
