-- A program has at most one first fault of constraints, at one place.
use Rattle.std.proofs.Common.{◌≡◌, inl, inr, ℕ, suc, ◌+◌, ◌-◌, ◌<◌, true, List, [], Option, Some, None, length, refl, sym, ap, ◌∙◌, subst, arith}
use Rattle.std.specs.Prelude.{slice_get}
use Rattle.std.proofs.lemmas.Bool.{cases_order}
use Rattle.std.proofs.lemmas.Option.{slice_get_within}
use Rattle.asn_base.specs.Names.{IsMember}
use Rattle.trees.specs.declared.location.SourceLocation.{SourceLocation}
use Rattle.trees.specs.Constraints.{ConstraintTree, constraint_of}
use Rattle.trees.specs.Types.{a_restricted_string}
use Rattle.trees.specs.Values.{Name}
use Rattle.names.specs.declared.sources.AssignedAt.{AssignedAt}
use Rattle.names.specs.Faults.{fault_module, fault_name}
use Rattle.names.specs.Sources.{Value}
use Rattle.type_table.specs.declared.table.TypeNode.{TypeNode}
use Rattle.type_table.specs.Seen.{type_of}
use Rattle.type_table.specs.Table.{Type', WrittenKind, simple, next, walk}
use Rattle.type_table.specs.Walks.{onward, follow}
use Rattle.type_table.specs.proving.Walks.{walk_walk, ended_few}
use Rattle.resolve.specs.Program.{Program, IsAssignment, IsWhole}
use Rattle.tagging.specs.Faults.{IsWrittenIn}
use Rattle.range_ends.specs.Ends.{IsTypeOfKind}
use Rattle.range_ends.specs.First.{HaveOneMeaning}
use Rattle.constraints.specs.Allowed.{BearsConstraint}
use Rattle.constraints.specs.Bounded.{HasCharacters}
use Rattle.constraints.specs.Constraints.{has_alphabet}
use Rattle.constraints.specs.First.{IsLimitWrong, of_one, empty, IsTypeFault, IsFirstFault, IsFirstAt, IsFirstCircularEnd, AreWritten, IsFirst, IsSameSpot, ReportsSame}
use Rattle.constraints.specs.declared.column.Fault.{Fault}
use Rattle.constraints.specs.declared.column.Fault.TheVariants as faults
use Rattle.constraints.specs.declared.fault.BoundFault.{BoundFault}
use Rattle.constraints.specs.declared.fault.BoundFault.TheVariants as reported
use Rattle.constraints.specs.declared.limit.Limit.{Limit}
use Rattle.constraints.specs.declared.meaning.Rule.{Rule}
use Rattle.constraints.specs.declared.meaning.Rule.TheVariants as rules
use Rattle.constraints.specs.declared.meaning.ConstraintFault.{ConstraintFault}
use Rattle.constraints.specs.declared.meaning.ConstraintFault.TheVariants as wrongs
use Rattle.constraints.specs.proving.Columns.{IsLimitOf, Inherits, fault_of}
use Rattle.constraints.specs.proving.Limits.{Narrows}
use Rattle.constraints.proofs.Bounding.{le_or, there_by, characters_by}
use Rattle.constraints.proofs.Leaving.{assignment_once, number_back, codes_left, reconstrained_by, written_is}
use Rattle.constraints.proofs.Low.{character_low}
use Rattle.constraints.proofs.OneWrong.{OneWrong, NoWrong, same, seen, no_next, one_limit}
use Rattle.constraints.proofs.Trails.{kind_once}

-- ---- what a type that leads to another has of it

module _ (p : Program) (s i o : ℕ) (way : walk p.types s i ≡ Some o) where
  bears_from : (M : Name) (c : ConstraintTree) → BearsConstraint p o M c → BearsConstraint p i M c
  bears_from M c b = record {
    steps = s + b.steps;
    target = b.target;
    type = b.type;
    assigns = b.assigns;
    chain = walk_walk (next p.types) s b.steps i o way ∙ b.chain;
    there = b.there;
    written = b.written;
    is_so = b.is_so;
  }

  kind_from : (k : WrittenKind) → IsWhole p → o < length p.types → IsTypeOfKind p.types o k → IsTypeOfKind p.types i k
  kind_from k w l u =
      let e = walk_walk (next p.types) s u.chain.steps i o way ∙ u.chain.chain in
      record {
        core = u.core;
        type = u.type;
        chain = record {
          steps = s + u.chain.steps;
          few = ended_few (next p.types) (length p.types) (s + u.chain.steps) i u.core w.linked.closed
              (there_by p.types i o s way l (le_or i (length p.types))) e u.chain.ends;
          chain = e;
          ends = u.chain.ends;
        };
        there = u.there;
        kind = u.kind;
      }

  characters_from : (k : WrittenKind) → HasCharacters p k i → HasCharacters p k o
  characters_from (simple (a_restricted_string a)) h = (
    h.0,
    record {
      character = h.1.character;
      allowed = λ M c b. h.1.allowed M c (bears_from M c b);
    },
  )
  characters_from k h = tt

-- a type that is left no codes has no characters
no_characters : (p : Program) (o : ℕ) (k : WrittenKind) (M x : Name) (t : Type') (start l : Limit) →
    slice_get p.types o ≡ Some t →
    IsAssignment p t.assignment M x →
    Inherits p o start k →
    Narrows p k M t.constraints (length t.constraints) start l →
    has_alphabet k ≡ true →
    l.codes ≡ [] →
    HasCharacters p k o →
    ⊥
no_characters p o (simple (a_restricted_string a)) M x t start l here home inh nar h e c =
    let m = (codes_left p o a M x t start l here home inh nar
    (λ d f. character_low a d ((inh.codes d).0 f).0) c.0).1 c.1 in
    elim (subst (IsMember c.0) e m) [ ]
no_characters p o k M x t start l here home inh nar h e c = absurd cc

-- ---- one type

one_of : (v w : ConstraintFault) (i : ℕ) (f g : Fault) → f ≡ fault_of v i → g ≡ fault_of w i → v ≡ w → f ≡ g
one_of v w i f g a b e = a ∙ ap (λ z. fault_of z i) e ∙ sym b

-- two spots have one module and one name
abbrev IsAlike : SourceLocation → SourceLocation → Type 0
IsAlike s t = (fault_module s ≡ fault_module t) × (fault_name s ≡ fault_name t)

-- the module and the name of a value
circle_home : (p : Program) (ws vs : List TypeNode) (gs hs : List AssignedAt) (s t : SourceLocation)
    (a : IsFirstCircularEnd p ws gs s) (b : IsFirstCircularEnd p vs hs t) →
    a.value ≡ b.value →
    IsAlike s t
circle_home p ws vs gs hs s t a b e =
    let o = same
    (sym a.is_so.assigned ∙ ap (λ (z : Value). slice_get p.assignments z.assignment) e ∙ b.is_so.assigned) in
    let h = same (sym a.is_so.header ∙ ap (λ z. slice_get p.headers z.0) o ∙ b.is_so.header) in
    (ap (λ z. z.0) h, ap (λ z. z.1) o)

module _ (p : Program) (single : HaveOneMeaning p) (one : OneWrong) (none : NoWrong) (whole : IsWhole p)
    (ws : List TypeNode) (gs : List AssignedAt) (written : AreWritten p ws gs) where
  some_wrong : (f : Fault) (i : ℕ) (w : ConstraintFault) →
      (f ≡ faults.Memory → ⊥) →
      f ≡ fault_of w i →
      w ≡ wrongs.Memory →
      ⊥
  some_wrong f i w n a e = n (a ∙ ap (λ z. fault_of z i) e)

  same_type : (i : ℕ) (f g : Fault) →
      (f ≡ faults.Memory → ⊥) →
      (g ≡ faults.Memory → ⊥) →
      IsTypeFault p ws i f →
      IsTypeFault p ws i g →
      f ≡ g
  same_type i f g m n x y =
      let t = same (sym x.there ∙ y.there) in
      let k = kind_once p.types i x.kind y.kind x.of_kind y.of_kind in
      let h = assignment_once p x.written.assignment x.within y.within x.assigns y.assigns x.is_so
      (subst (λ (w : TypeNode). IsAssignment p w.assignment y.within y.assigns) (sym t) y.is_so) in
      let a = subst (λ (w : TypeNode). IsLimitWrong p y.kind y.within w.constraints.items y.start w.at y.wrong) (sym t) y.fault in
      let b = subst (λ M. IsLimitWrong p y.kind M x.written.constraints.items y.start x.written.at y.wrong) (sym h) a in
      let d = subst (λ j. IsLimitWrong p j x.within x.written.constraints.items y.start x.written.at y.wrong) (sym k) b in
      let u = x.starts.inherits x.kind x.of_kind in
      let v = y.starts.inherits x.kind x.of_kind in
      one_of x.wrong y.wrong i f g x.reported y.reported
      (one_limit p single one none x.kind x.within x.written.constraints.items x.start y.start x.written.at x.wrong y.wrong
      (some_wrong f i x.wrong m x.reported) (some_wrong g i y.wrong n y.reported)
      (λ e. v.extensible.1 (u.extensible.0 e)) (λ e. u.extensible.1 (v.extensible.0 e)) x.fault d)

  -- ---- a type with a fault has no limit, and neither has one that leads to it

  not_limited_by : (s i o : ℕ) (k : WrittenKind) (M x : Name) (w : TypeNode) (start l : Limit) (v : ConstraintFault) →
      (v ≡ wrongs.Memory → ⊥) →
      walk p.types s i ≡ Some o →
      slice_get p.types o ≡ Some (type_of w) →
      IsTypeOfKind p.types o k →
      IsAssignment p w.assignment M x →
      Inherits p o start k →
      IsLimitOf p i l →
      IsLimitWrong p k M w.constraints.items start w.at v →
      ⊥
  not_limited_by s i o k M x w start l v n way here kind home inh lim (of_one y) =
      let c = constraint_of y.constraint in
      let e = seen constraint_of w.constraints.items y.number y.constraint y.there in
      no_next p single one none k M w.constraints.items start y.number y.constraint v n y.fault
      (lim.good.fitting s o y.number k M c way (written_is p o k M x (type_of w) y.number c here kind home e))
      (λ a. lim.good.last s o way (reconstrained_by p o k M x (type_of w) start y.number c here inh e a))
  not_limited_by s i o k M x w start l v n way here kind home inh lim (empty y e) =
      let f = lim.left k (kind_from p s i o way k whole (slice_get_within p.types o (type_of w) here) kind) in
      elim y.nothing [
        | inl nothing ↦ (
            let z = f.some.number in
            let r = (f.numbers z.0).0 z.1 in
            nothing z.0 (number_back p o k M x (type_of w) start y.limit here home inh y.narrows z.0 (record {
              counted = r.counted;
              allowed = λ N c b. r.allowed N c (bears_from p s i o way N c b);
            })))
        | inr nothing ↦ no_characters p o k M x (type_of w) start y.limit here home inh y.narrows nothing.0 nothing.1
            (characters_from p s i o way k (characters_by p k i l f))
      ]

  not_limited : (s i o : ℕ) (f : Fault) (l : Limit) →
      (f ≡ faults.Memory → ⊥) →
      walk p.types s i ≡ Some o →
      IsTypeFault p ws o f →
      IsLimitOf p i l →
      ⊥
  not_limited s i o f l n way x lim =
      let here = ap (λ ts. slice_get ts o) (sym written.types) ∙ seen type_of ws o x.written x.there in
      not_limited_by s i o x.kind x.within x.assigns x.written x.start l x.wrong (some_wrong f o x.wrong n x.reported)
      way here x.of_kind x.is_so (x.starts.inherits x.kind x.of_kind) lim x.fault

  -- ---- the program

  step_on : (r d : ℕ) (t : Option ℕ) → onward t (λ j. follow (next p.types) r j) ≡ Some d →
      (j : ℕ) × (t ≡ Some j) × (walk p.types r j ≡ Some d)
  step_on r d None e = absurd cc
  step_on r d (Some j) e = (j, refl, e)

  -- a type doesn't lead to another one with a fault, if both are reported for it
  not_after : (r i j : ℕ) (f g : Fault) →
      (g ≡ faults.Memory → ⊥) →
      walk p.types (suc r) i ≡ Some j →
      IsTypeFault p ws i f →
      IsTypeFault p ws j g →
      ⊥
  not_after r i j f g n way x y =
      let m = step_on r j (next p.types i) way in
      let l = x.starts.limited m.0 m.1 in
      not_limited r m.0 j g l.0 n m.2 y l.1

  further : (s u i a b : ℕ) → s < u → walk p.types s i ≡ Some a → walk p.types u i ≡ Some b →
      (r : ℕ) × (walk p.types (suc r) a ≡ Some b)
  further s u i a b l e f =
      let r : ℕ = u - suc s in
      let q : s + suc r ≡ u = omega (arith, l) in
      (r, sym (walk_walk (next p.types) s (suc r) i a e) ∙ ap (λ k. walk p.types k i) q ∙ f)

  one_after : (n s u a b : ℕ) (f g : Fault) →
      (f ≡ faults.Memory → ⊥) →
      (g ≡ faults.Memory → ⊥) →
      walk p.types s n ≡ Some a →
      walk p.types u n ≡ Some b →
      IsTypeFault p ws a f →
      IsTypeFault p ws b g →
      a ≡ b
  one_after n s u a b f g i j d e x y =
      elim (cases_order s u) [
        | inl q ↦ same (sym d ∙ ap (λ k. walk p.types k n) q ∙ e)
        | inr o ↦ elim o [
          | inl l ↦ (let h = further s u n a b l d e in absurd (not_after h.0 a b f g j h.1 x y))
          | inr l ↦ (let h = further u s n b a l e d in absurd (not_after h.0 b a g f i h.1 y x))
        ]
      ]

  one_type : (f g : Fault) →
      (f ≡ faults.Memory → ⊥) →
      (g ≡ faults.Memory → ⊥) →
      (x : IsFirstFault p ws f) (y : IsFirstFault p ws g) →
      x.of ≡ y.of
  one_type f g i j x y =
      elim (cases_order x.number y.number) [
        | inl e ↦ one_after x.number x.steps y.steps x.of y.of f g i j x.chain
            (ap (λ n. walk p.types y.steps n) e ∙ y.chain) x.fault y.fault
        | inr s ↦ elim s [
          | inl b ↦ (let l = y.before x.number b in absurd (not_limited x.steps x.number x.of f l.0 i x.chain x.fault l.1))
          | inr b ↦ (let l = x.before y.number b in absurd (not_limited y.steps y.number y.of g l.0 j y.chain y.fault l.1))
        ]
      ]

  one_first : (f g : Fault) →
      (f ≡ faults.Memory → ⊥) →
      (g ≡ faults.Memory → ⊥) →
      IsFirstFault p ws f →
      IsFirstFault p ws g →
      f ≡ g
  one_first f g i j x y =
      same_type x.of f g i j x.fault (subst (λ t. IsTypeFault p ws t g) (sym (one_type f g i j x y)) y.fault)

  -- ---- the module, the assignment and the place

  one_home : (i j : ℕ) (M x N y : Name) →
      i ≡ j →
      IsWrittenIn p i M x →
      IsWrittenIn p j N y →
      (M ≡ N) × (x ≡ y)
  one_home i j M x N y e a b =
      let t = same (sym a.found ∙ ap (λ k. slice_get p.types k) e ∙ b.found) in
      let s = same
      (sym a.assigned.assigned ∙ ap (λ (z : Type'). slice_get p.assignments z.assignment) t ∙ b.assigned.assigned) in
      let h = same (sym a.assigned.header ∙ ap (λ z. slice_get p.headers z.0) s ∙ b.assigned.header) in
      (ap (λ z. z.0) h, ap (λ z. z.1) s)

  same_spot : (r q : Rule) (s t : SourceLocation) → IsFirstAt p ws r s → IsFirstAt p ws q t → (r ≡ q) × IsSameSpot s t
  same_spot r q s t a b =
      let e = one_first (faults.At r a.ty s.at) (faults.At q b.ty t.at) (λ e. absurd cc) (λ e. absurd cc) a.first b.first in
      let f : r ≡ q = cc in
      let i : a.ty ≡ b.ty = cc in
      let at : s.at ≡ t.at = cc in
      let h = one_home a.ty b.ty (fault_module s) (fault_name s) (fault_module t) (fault_name t) i a.is_so b.is_so in
      (f, (h.0, h.1, at))

  not_round : (r : Rule) (s t : SourceLocation) → IsFirstAt p ws r s → IsFirstCircularEnd p ws gs t → ⊥
  not_round r s t a b =
      let e = one_first (faults.At r a.ty s.at) (faults.Circular b.number) (λ e. absurd cc) (λ e. absurd cc) a.first b.first in
      absurd cc

  same_circle : (s t : SourceLocation) →
      IsFirstCircularEnd p ws gs s →
      IsFirstCircularEnd p ws gs t →
      IsSameSpot s t
  same_circle s t a b =
      let e = one_first (faults.Circular a.number) (faults.Circular b.number) (λ e. absurd cc) (λ e. absurd cc) a.first b.first in
      let n : a.number ≡ b.number = cc in
      let v = same (sym a.there ∙ ap (slice_get p.values) n ∙ b.there) in
      let h = circle_home p ws ws gs gs s t a b v in
      let g = same (sym a.written ∙ ap (λ (z : Value). slice_get gs z.assignment) v ∙ b.written) in
      (h.0, h.1, a.at ∙ ap (λ (z : AssignedAt). z.name.at) g ∙ sym b.at)

  pub one_fault : (e f : BoundFault) → IsFirst p ws gs e → IsFirst p ws gs f → ReportsSame e f
  one_fault reported.Memory f a b = tt
  one_fault (reported.Circular s) reported.Memory a b = tt
  one_fault (reported.Circular s) (reported.Circular t) a b = same_circle s t a b
  one_fault (reported.Circular s) (reported.Empty t) a b = absurd (not_round rules.Empty t s b a)
  one_fault (reported.Circular s) (reported.WrongKind t) a b = absurd (not_round rules.WrongKind t s b a)
  one_fault (reported.Circular s) (reported.Reconstrained t) a b = absurd (not_round rules.Reconstrained t s b a)
  one_fault (reported.Circular s) (reported.LowerAboveUpper t) a b = absurd (not_round rules.LowerAboveUpper t s b a)
  one_fault (reported.Circular s) (reported.MarkerPlace t) a b = absurd (not_round rules.MarkerPlace t s b a)
  one_fault (reported.Empty s) reported.Memory a b = tt
  one_fault (reported.Empty s) (reported.Circular t) a b = absurd (not_round rules.Empty s t a b)
  one_fault (reported.Empty s) (reported.Empty t) a b = (same_spot rules.Empty rules.Empty s t a b).1
  one_fault (reported.Empty s) (reported.WrongKind t) a b = let q = (same_spot rules.Empty rules.WrongKind s t a b).0 in absurd cc
  one_fault (reported.Empty s) (reported.Reconstrained t) a b = let q = (same_spot rules.Empty rules.Reconstrained s t a b).0 in absurd cc
  one_fault (reported.Empty s) (reported.LowerAboveUpper t) a b = let q = (same_spot rules.Empty rules.LowerAboveUpper s t a b).0 in absurd cc
  one_fault (reported.Empty s) (reported.MarkerPlace t) a b = let q = (same_spot rules.Empty rules.MarkerPlace s t a b).0 in absurd cc
  one_fault (reported.WrongKind s) reported.Memory a b = tt
  one_fault (reported.WrongKind s) (reported.Circular t) a b = absurd (not_round rules.WrongKind s t a b)
  one_fault (reported.WrongKind s) (reported.Empty t) a b = let q = (same_spot rules.WrongKind rules.Empty s t a b).0 in absurd cc
  one_fault (reported.WrongKind s) (reported.WrongKind t) a b = (same_spot rules.WrongKind rules.WrongKind s t a b).1
  one_fault (reported.WrongKind s) (reported.Reconstrained t) a b = let q = (same_spot rules.WrongKind rules.Reconstrained s t a b).0 in absurd cc
  one_fault (reported.WrongKind s) (reported.LowerAboveUpper t) a b = let q = (same_spot rules.WrongKind rules.LowerAboveUpper s t a b).0 in absurd cc
  one_fault (reported.WrongKind s) (reported.MarkerPlace t) a b = let q = (same_spot rules.WrongKind rules.MarkerPlace s t a b).0 in absurd cc
  one_fault (reported.Reconstrained s) reported.Memory a b = tt
  one_fault (reported.Reconstrained s) (reported.Circular t) a b = absurd (not_round rules.Reconstrained s t a b)
  one_fault (reported.Reconstrained s) (reported.Empty t) a b = let q = (same_spot rules.Reconstrained rules.Empty s t a b).0 in absurd cc
  one_fault (reported.Reconstrained s) (reported.WrongKind t) a b = let q = (same_spot rules.Reconstrained rules.WrongKind s t a b).0 in absurd cc
  one_fault (reported.Reconstrained s) (reported.Reconstrained t) a b = (same_spot rules.Reconstrained rules.Reconstrained s t a b).1
  one_fault (reported.Reconstrained s) (reported.LowerAboveUpper t) a b = let q = (same_spot rules.Reconstrained rules.LowerAboveUpper s t a b).0 in absurd cc
  one_fault (reported.Reconstrained s) (reported.MarkerPlace t) a b = let q = (same_spot rules.Reconstrained rules.MarkerPlace s t a b).0 in absurd cc
  one_fault (reported.LowerAboveUpper s) reported.Memory a b = tt
  one_fault (reported.LowerAboveUpper s) (reported.Circular t) a b = absurd (not_round rules.LowerAboveUpper s t a b)
  one_fault (reported.LowerAboveUpper s) (reported.Empty t) a b = let q = (same_spot rules.LowerAboveUpper rules.Empty s t a b).0 in absurd cc
  one_fault (reported.LowerAboveUpper s) (reported.WrongKind t) a b = let q = (same_spot rules.LowerAboveUpper rules.WrongKind s t a b).0 in absurd cc
  one_fault (reported.LowerAboveUpper s) (reported.Reconstrained t) a b = let q = (same_spot rules.LowerAboveUpper rules.Reconstrained s t a b).0 in absurd cc
  one_fault (reported.LowerAboveUpper s) (reported.LowerAboveUpper t) a b = (same_spot rules.LowerAboveUpper rules.LowerAboveUpper s t a b).1
  one_fault (reported.LowerAboveUpper s) (reported.MarkerPlace t) a b = let q = (same_spot rules.LowerAboveUpper rules.MarkerPlace s t a b).0 in absurd cc
  one_fault (reported.MarkerPlace s) reported.Memory a b = tt
  one_fault (reported.MarkerPlace s) (reported.Circular t) a b = absurd (not_round rules.MarkerPlace s t a b)
  one_fault (reported.MarkerPlace s) (reported.Empty t) a b = let q = (same_spot rules.MarkerPlace rules.Empty s t a b).0 in absurd cc
  one_fault (reported.MarkerPlace s) (reported.WrongKind t) a b = let q = (same_spot rules.MarkerPlace rules.WrongKind s t a b).0 in absurd cc
  one_fault (reported.MarkerPlace s) (reported.Reconstrained t) a b = let q = (same_spot rules.MarkerPlace rules.Reconstrained s t a b).0 in absurd cc
  one_fault (reported.MarkerPlace s) (reported.LowerAboveUpper t) a b = let q = (same_spot rules.MarkerPlace rules.LowerAboveUpper s t a b).0 in absurd cc
  one_fault (reported.MarkerPlace s) (reported.MarkerPlace t) a b = (same_spot rules.MarkerPlace rules.MarkerPlace s t a b).1
