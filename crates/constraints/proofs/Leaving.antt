-- What the constraints of a type leave, and what is wrong with them.
use Rattle.std.proofs.Common.{◌≡◌, ◌⊎◌, ◌↔◌, inl, inr, ℕ, zero, suc, ◌<◌, ℤ, List, [], ◌∷◌, Option, Some, None, true, false, length, refl, sym, ap, ◌∙◌, subst, arith}
use Rattle.std.specs.Prelude.{slice_get}
use Rattle.std.proofs.lemmas.Option.{slice_get_within}
use Rattle.asn_base.specs.declared.strings.StringKind.{StringKind}
use Rattle.asn_base.specs.Names.{IsMember}
use Rattle.asn_base.specs.Typed.{IsInSome}
use Rattle.trees.specs.Values.{Name}
use Rattle.trees.specs.Constraints.{ConstraintTree, values_in, sizes_in, chars_in}
use Rattle.trees.specs.Types.{a_restricted_string}
use Rattle.names.specs.Modules.{OccursIn}
use Rattle.type_table.specs.Walks.{onward, follow}
use Rattle.type_table.specs.Table.{Type', WrittenKind, simple, walk, next}
use Rattle.resolve.specs.Program.{Program, IsAssignment, IsWhole}
use Rattle.range_ends.specs.Ends.{IsTypeOfKind, RefersFar, directly, through, IsMetTwice, here as met_here, later as met_later}
use Rattle.constraints.specs.Constraints.{IsFitting, AllowsNumber, has_marker, has_alphabet}
use Rattle.constraints.specs.Allowed.{BearsConstraint, IsInRoot, IsInAlphabet, IsExtensible}
use Rattle.constraints.specs.Bounded.{IsWritten, IsListed, IsReconstrained, IsEmpty, HasCharacters, IsRound}
use Rattle.constraints.specs.declared.limit.Limit.{Limit}
use Rattle.constraints.specs.declared.meaning.Rule.TheVariants as rules
use Rattle.constraints.specs.declared.meaning.ConstraintFault.{ConstraintFault}
use Rattle.constraints.specs.declared.meaning.ConstraintFault.TheVariants as wrongs
use Rattle.constraints.specs.proving.Limits.{IsFirst, IsSame, HasCodes, Narrows, IsMarkedIn, LeavesNone, LeavesSome, IsLimitFault}
use Rattle.constraints.specs.proving.Columns.{HasAlphabet, IsLeft, HasGoodConstraints, IsLimitOf, BearsTarget, HasTargetCodes, Inherits, IsStartOf, IsShared, IsFault, fault_of}
use Rattle.constraints.proofs.Trails.{kind_once, target_kind}

some_same : {X : Type 0} (x y : X) → Some x ≡ Some y → x ≡ y
some_same x y e = cc

pub assignment_once : (p : Program) (a : ℕ) (M N x y : Name) → IsAssignment p a M x → IsAssignment p a N y → M ≡ N
assignment_once p a M N x y u v =
    let f = some_same (u.owner, x) (v.owner, y) (sym u.assigned ∙ v.assigned) in
    let g = some_same (M, u.tags) (N, v.tags) (sym u.header ∙ ap (λ w. slice_get p.headers w.0) f ∙ v.header) in
    ap (λ w. w.0) g

there_is : {X : Type 0} (xs : List X) (i : ℕ) → i < length xs → (x : X) × (slice_get xs i ≡ Some x)
there_is [] i l = absurd (omega (arith, l))
there_is (x ∷ xs) zero l = (x, refl)
there_is (x ∷ xs) (suc i) l = there_is xs i (omega (arith, l))

-- each type is written in an assignment
home_is : (p : Program) (i : ℕ) (t : Type') → IsWhole p → slice_get p.types i ≡ Some t → (M : Name) × (x : Name) × IsAssignment p t.assignment M x
home_is p i t w e =
    let a = there_is p.assignments t.assignment (w.typed i t e) in
    let h = there_is p.headers a.0.0 (w.placed t.assignment a.0 a.1) in
    (h.0.0, a.0.1, record { owner = a.0.0; tags = h.0.1; assigned = a.1; header = h.1 })

-- ---- what a type bears

-- constraint c stands on type i itself
record Own (p : Program) (i : ℕ) (M : Name) (c : ConstraintTree) : Type 0 where
  type : Type'
  assigns : Name
  there : slice_get p.types i ≡ Some type
  written : OccursIn type.constraints c
  is_so : IsAssignment p type.assignment M assigns

cases_on : (p : Program) (i : ℕ) (M : Name) (c : ConstraintTree) (s : ℕ) (o : Option ℕ) (b : ℕ) (t : Type') (x : Name) →
    next p.types i ≡ o →
    onward o (λ j. follow (next p.types) s j) ≡ Some b →
    slice_get p.types b ≡ Some t →
    OccursIn t.constraints c →
    IsAssignment p t.assignment M x →
    BearsTarget p i M c
cases_on p i M c s None b t x e f g h k = absurd cc
cases_on p i M c s (Some j) b t x e f g h k = record {
  target = j;
  chain = e;
  bears = record { steps = s; target = b; type = t; assigns = x; chain = f; there = g; written = h; is_so = k };
}

cases_by : (p : Program) (i : ℕ) (M : Name) (c : ConstraintTree) (s b : ℕ) (t : Type') (x : Name) →
    walk p.types s i ≡ Some b →
    slice_get p.types b ≡ Some t →
    OccursIn t.constraints c →
    IsAssignment p t.assignment M x →
    Own p i M c ⊎ BearsTarget p i M c
cases_by p i M c zero b t x f g h k =
    let q : i ≡ b = cc in
    inl (record { type = t; assigns = x; there = ap (slice_get p.types) q ∙ g; written = h; is_so = k })
cases_by p i M c (suc s) b t x f g h k = inr (cases_on p i M c s (next p.types i) b t x refl f g h k)

bears_cases : (p : Program) (i : ℕ) (M : Name) (c : ConstraintTree) → BearsConstraint p i M c → Own p i M c ⊎ BearsTarget p i M c
bears_cases p i M c b = cases_by p i M c b.steps b.target b.type b.assigns b.chain b.there b.written b.is_so

bears_own : (p : Program) (i : ℕ) (M x : Name) (c : ConstraintTree) (t : Type') (n : ℕ) →
    slice_get p.types i ≡ Some t →
    slice_get t.constraints n ≡ Some c →
    IsAssignment p t.assignment M x →
    BearsConstraint p i M c
bears_own p i M x c t n e f g =
    record { steps = 0; target = i; type = t; assigns = x; chain = refl; there = e; written = (n, f); is_so = g }

bears_target : (p : Program) (i : ℕ) (M : Name) (c : ConstraintTree) → BearsTarget p i M c → BearsConstraint p i M c
bears_target p i M c b = record {
  steps = suc b.bears.steps;
  target = b.bears.target;
  type = b.bears.type;
  assigns = b.bears.assigns;
  chain = ap (λ o. onward o (λ j. follow (next p.types) b.bears.steps j)) b.chain ∙ b.bears.chain;
  there = b.bears.there;
  written = b.bears.written;
  is_so = b.bears.is_so;
}

-- ---- a type with its own constraints

module _ (p : Program) (i : ℕ) (k : WrittenKind) (M x : Name) (t : Type') (start l : Limit)
    (here : slice_get p.types i ≡ Some t)
    (home : IsAssignment p t.assignment M x)
    (inh : Inherits p i start k)
    (nar : Narrows p k M t.constraints (length t.constraints) start l) where
  own_type : (N : Name) (c : ConstraintTree) (o : Own p i N c) → o.type ≡ t
  own_type N c o = some_same o.type t (sym o.there ∙ here)

  own_module : (N : Name) (c : ConstraintTree) → Own p i N c → M ≡ N
  own_module N c o =
      assignment_once p t.assignment M N x o.assigns home
      (subst (λ (u : Type'). IsAssignment p u.assignment N o.assigns) (own_type N c o) o.is_so)

  own_at : (N : Name) (c : ConstraintTree) → Own p i N c → (n : ℕ) × (slice_get t.constraints n ≡ Some c)
  own_at N c o = subst (λ (u : Type'). OccursIn u.constraints c) (own_type N c o) o.written

  number_there : (z : ℤ) → IsInSome z l.numbers → IsInRoot p k i z
  number_there z m =
      let g = (inh.numbers z).0 (nar.fewer z m) in
      let own = (nar.numbers z g.0).0 m in
      record {
        counted = g.0;
        allowed = λ N c b. elim (bears_cases p i N c b) [
          | inl o ↦ (let w = own_at N c o in
              subst (λ K. AllowsNumber p k K c z) (own_module N c o)
              (own.1 w.0 c (slice_get_within t.constraints w.0 c w.1) w.1))
          | inr o ↦ g.1 N c o
        ];
      }

  pub number_back : (z : ℤ) → IsInRoot p k i z → IsInSome z l.numbers
  number_back z r =
      (nar.numbers z r.counted).1 (
        (inh.numbers z).1 (r.counted, λ N c b. r.allowed N c (bears_target p i N c b)),
        λ n c s e. r.allowed M c (bears_own p i M x c t n here e home),
      )

  mark_there : (start.extensible ≡ true) ⊎ IsMarkedIn t.constraints (length t.constraints) → IsExtensible p i
  mark_there (inl e) =
      let f = inh.extensible.0 e in
      record { within = f.0; constraint = f.1; bears = bears_target p i f.0 f.1 f.2; marked = f.3 }
  mark_there (inr m) = record {
    within = M;
    constraint = m.constraint;
    bears = bears_own p i M x m.constraint t m.number here m.there home;
    marked = m.marked;
  }

  mark_by : (N : Name) (c : ConstraintTree) → has_marker c ≡ true → Own p i N c ⊎ BearsTarget p i N c →
      (start.extensible ≡ true) ⊎ IsMarkedIn t.constraints (length t.constraints)
  mark_by N c m (inl o) =
      let w = own_at N c o in
      inr (record { number = w.0; constraint = c; before = slice_get_within t.constraints w.0 c w.1; there = w.1; marked = m })
  mark_by N c m (inr b) = inl (inh.extensible.1 (N, c, b, m))

  mark_back : IsExtensible p i → l.extensible ≡ true
  mark_back r = nar.marked.1 (mark_by r.within r.constraint r.marked (bears_cases p i r.within r.constraint r.bears))

-- the characters that are left
pub codes_left : (p : Program) (i : ℕ) (s : StringKind) (M x : Name) (t : Type') (start l : Limit) →
    slice_get p.types i ≡ Some t →
    IsAssignment p t.assignment M x →
    Inherits p i start (simple (a_restricted_string s)) →
    Narrows p (simple (a_restricted_string s)) M t.constraints (length t.constraints) start l →
    ((c : ℕ) → IsMember c start.codes → c < 128) →
    (c : ℕ) → (IsMember c l.codes ↔ IsInAlphabet p s i c)
codes_left p i s M x t start l here home inh nar low c = (λ m. forth m, λ r. back r)
  where
    forth : IsMember c l.codes → IsInAlphabet p s i c
    forth m =
        let f = nar.fewer_codes c m in
        let g = (inh.codes c).0 f in
        let own = (nar.codes c (low c f)).0 m in
        record {
          character = g.0;
          allowed = λ N d b. elim (bears_cases p i N d b) [
            | inl o ↦ (let w = own_at p i (simple (a_restricted_string s)) M x t start l here home inh nar N d o in
                own.1 w.0 d (slice_get_within t.constraints w.0 d w.1) w.1)
            | inr o ↦ g.1 N d o
          ];
        }

    back : IsInAlphabet p s i c → IsMember c l.codes
    back r =
        let f = (inh.codes c).1 (r.character, λ N d b. r.allowed N d (bears_target p i N d b)) in
        (nar.codes c (low c f)).1 (f, λ n d b e. r.allowed M d (bears_own p i M x d t n here e home))

alphabet_left : (p : Program) (i : ℕ) (k : WrittenKind) (M x : Name) (t : Type') (start l : Limit) →
    slice_get p.types i ≡ Some t →
    IsAssignment p t.assignment M x →
    Inherits p i start k →
    Narrows p k M t.constraints (length t.constraints) start l →
    ((c : ℕ) → IsMember c start.codes → c < 128) →
    HasAlphabet p k i l.codes
alphabet_left p i (simple (a_restricted_string s)) M x t start l here home inh nar low =
    codes_left p i s M x t start l here home inh nar low
alphabet_left p i k M x t start l here home inh nar low = tt

left_by : (p : Program) (i : ℕ) (k : WrittenKind) (M x : Name) (t : Type') (start l : Limit) →
    slice_get p.types i ≡ Some t →
    IsAssignment p t.assignment M x →
    Inherits p i start k →
    Narrows p k M t.constraints (length t.constraints) start l →
    ((c : ℕ) → IsMember c start.codes → c < 128) →
    LeavesSome k l →
    IsLeft p k i l
left_by p i k M x t start l here home inh nar low some = record {
  numbers = λ z. (
    λ m. number_there p i k M x t start l here home inh nar z m,
    λ r. number_back p i k M x t start l here home inh nar z r,
  );
  codes = alphabet_left p i k M x t start l here home inh nar low;
  extensible = (
    λ e. mark_there p i k M x t start l here home inh nar (nar.marked.0 e),
    λ r. mark_back p i k M x t start l here home inh nar r,
  );
  some = some;
}

-- ---- whether a type is good

module _ (p : Program) (i : ℕ) (k : WrittenKind) (M x : Name) (t : Type') (start l : Limit)
    (w : IsWhole p)
    (kind : IsTypeOfKind p.types i k)
    (here : slice_get p.types i ≡ Some t)
    (home : IsAssignment p t.assignment M x)
    (inh : Inherits p i start k)
    (limited : (j : ℕ) → next p.types i ≡ Some j → (m : Limit) × IsLimitOf p j m)
    (nar : Narrows p k M t.constraints (length t.constraints) start l) where
  fits_here : (n : ℕ) (h : WrittenKind) (N : Name) (c : ConstraintTree) → IsWritten p i n h N c → IsFitting p h N c
  fits_here n h N c u =
      let q = some_same u.type t (sym u.there ∙ here) in
      let e = subst (λ (v : Type'). slice_get v.constraints n ≡ Some c) q u.written in
      let m = assignment_once p t.assignment M N x u.assigns home
      (subst (λ (v : Type'). IsAssignment p v.assignment N u.assigns) q u.is_so) in
      let d = kind_once p.types i k h kind u.kind in
      subst (λ K. IsFitting p h K c) m
      (subst (λ j. IsFitting p j M c) d (nar.fitting n c (slice_get_within t.constraints n c e) e))

  fits_on : (s j n : ℕ) (o : Option ℕ) (h : WrittenKind) (N : Name) (c : ConstraintTree) →
      next p.types i ≡ o →
      onward o (λ m. follow (next p.types) s m) ≡ Some j →
      IsWritten p j n h N c →
      IsFitting p h N c
  fits_on s j n None h N c e f u = absurd cc
  fits_on s j n (Some m) h N c e f u = (limited m e).1.good.fitting s j n h N c f u

  fits : (s j n : ℕ) (h : WrittenKind) (N : Name) (c : ConstraintTree) →
      walk p.types s i ≡ Some j →
      IsWritten p j n h N c →
      IsFitting p h N c
  fits zero j n h N c f u =
      let q : i ≡ j = cc in
      fits_here n h N c (subst (λ m. IsWritten p m n h N c) (sym q) u)
  fits (suc s) j n h N c f u = fits_on s j n (next p.types i) h N c refl f u

  same_limit : (n other : ℕ) (c d : ConstraintTree) →
      IsListed p i n c →
      IsListed p i other d →
      other < n →
      has_marker d ≡ true →
      ⊥
  same_limit n other c d u v b m =
      let q = some_same u.type t (sym u.there ∙ here) in
      let r = some_same v.type t (sym v.there ∙ here) in
      let e = subst (λ (y : Type'). slice_get y.constraints n ≡ Some c) q u.written in
      let f = subst (λ (y : Type'). slice_get y.constraints other ≡ Some d) r v.written in
      nar.last n (slice_get_within t.constraints n c e)
      (inr (record { number = other; constraint = d; before = b; there = f; marked = m }))

  target_on : (s b other n : ℕ) (o : Option ℕ) (c d : ConstraintTree) →
      next p.types i ≡ o →
      onward o (λ m. follow (next p.types) s m) ≡ Some b →
      IsListed p i n c →
      IsListed p b other d →
      has_marker d ≡ true →
      ⊥
  target_on s b other n None c d e f u v m = absurd cc
  target_on s b other n (Some j) c d e f u v m =
      let q = some_same u.type t (sym u.there ∙ here) in
      let g = subst (λ (y : Type'). slice_get y.constraints n ≡ Some c) q u.written in
      let a = home_is p b v.type w v.there in
      let bears : BearsTarget p i a.0 d = record {
        target = j;
        chain = e;
        bears = record {
          steps = s;
          target = b;
          type = v.type;
          assigns = a.1;
          chain = f;
          there = v.there;
          written = (other, v.written);
          is_so = a.2;
        };
      } in
      nar.last n (slice_get_within t.constraints n c g) (inl (inh.extensible.1 (a.0, d, bears, m)))

  last_by : (n b other s : ℕ) (c d : ConstraintTree) →
      IsListed p i n c →
      walk p.types s i ≡ Some b →
      IsListed p b other d →
      ((s ≡ 0) × (other < n)) ⊎ (0 < s) →
      has_marker d ≡ true →
      ⊥
  last_by n b other zero c d u f v (inl h) m =
      let q : i ≡ b = cc in
      same_limit n other c d u (subst (λ j. IsListed p j other d) (sym q) v) h.1 m
  last_by n b other zero c d u f v (inr h) m = absurd (omega (arith, h))
  last_by n b other (suc s) c d u f v h m = target_on s b other n (next p.types i) c d refl f u v m

  marked_on : (s j : ℕ) (o : Option ℕ) →
      next p.types i ≡ o →
      onward o (λ m. follow (next p.types) s m) ≡ Some j →
      IsReconstrained p j →
      ⊥
  marked_on s j None e f r = absurd cc
  marked_on s j (Some m) e f r = (limited m e).1.good.last s j f r

  marked_here : IsReconstrained p i → ⊥
  marked_here r = last_by r.number r.target r.other r.steps r.constraint r.earlier r.listed r.chain r.stood r.before r.marked

  marked : (s j : ℕ) → walk p.types s i ≡ Some j → IsReconstrained p j → ⊥
  marked zero j f r =
      let q : i ≡ j = cc in
      marked_here (subst (IsReconstrained p) (sym q) r)
  marked (suc s) j f r = marked_on s j (next p.types i) refl f r

  good_by : HasGoodConstraints p i
  good_by = record { fitting = fits; last = marked }

pub limit_is : (p : Program) (i : ℕ) (k : WrittenKind) (M x : Name) (t : Type') (start l : Limit) →
    IsWhole p →
    IsTypeOfKind p.types i k →
    slice_get p.types i ≡ Some t →
    IsAssignment p t.assignment M x →
    IsStartOf p i start →
    ((c : ℕ) → IsMember c start.codes → c < 128) →
    Narrows p k M t.constraints (length t.constraints) start l →
    LeavesSome k l →
    IsLimitOf p i l
limit_is p i k M x t start l w kind here home s low nar some = record {
  left = λ h u. subst (λ y. IsLeft p y i l) (kind_once p.types i k h kind u)
      (left_by p i k M x t start l here home (s.inherits k kind) nar low some);
  good = good_by p i k M x t start l w kind here home (s.inherits k kind) s.limited nar;
}

pub characters_none : (p : Program) (k : WrittenKind) (i : ℕ) (l : Limit) →
    has_alphabet k ≡ true →
    HasAlphabet p k i l.codes →
    l.codes ≡ [] →
    HasCharacters p k i →
    ⊥
characters_none p (simple (a_restricted_string s)) i l h a e c =
    let m = subst (IsMember c.0) e ((a c.0).1 c.1) in
    elim m [ ]
characters_none p k i l h a e c = absurd cc

pub empty_is : (p : Program) (i : ℕ) (k : WrittenKind) (M x : Name) (t : Type') (start : Limit) →
    IsWhole p →
    IsTypeOfKind p.types i k →
    slice_get p.types i ≡ Some t →
    IsAssignment p t.assignment M x →
    IsStartOf p i start →
    ((c : ℕ) → IsMember c start.codes → c < 128) →
    LeavesNone p k M t.constraints start →
    IsEmpty p i
empty_is p i k M x t start w kind here home s low e = record {
  kind = k;
  is = kind;
  fitting = λ steps j n N c f u. fits p i k M x t start e.limit w kind here home (s.inherits k kind) s.limited e.narrows steps j n k N c f u;
  nothing = elim e.nothing [
    | inl none ↦ inl (λ z r. none z (number_back p i k M x t start e.limit here home (s.inherits k kind) e.narrows z r))
    | inr none ↦ inr (characters_none p k i e.limit none.0
        (alphabet_left p i k M x t start e.limit here home (s.inherits k kind) e.narrows low) none.1)
  ];
}

-- ---- faults

pub written_is : (p : Program) (i : ℕ) (k : WrittenKind) (M x : Name) (t : Type') (n : ℕ) (c : ConstraintTree) →
    slice_get p.types i ≡ Some t →
    IsTypeOfKind p.types i k →
    IsAssignment p t.assignment M x →
    slice_get t.constraints n ≡ Some c →
    IsWritten p i n k M c
written_is p i k M x t n c here kind home e =
    record { type = t; assigns = x; there = here; written = e; kind = kind; is_so = home }

leads_within : (p : Program) (k : WrittenKind) (i j : ℕ) → RefersFar p k i j → i < length p.values
leads_within p k i j (directly t) = slice_get_within p.values i t.at.value t.at.there
leads_within p k i j (through h t r) = slice_get_within p.values i t.at.value t.at.there

twice_within : (p : Program) (k : WrittenKind) (i v : ℕ) → IsMetTwice p k i v → v < length p.values
twice_within p k i v (met_here r) = leads_within p k i i r
twice_within p k i v (met_later j n t m) = twice_within p k j v m

value_within : (p : Program) (k : WrittenKind) (M : Name) (v : ℕ) (c : ConstraintTree) → IsRound p v k M c → v < length p.values
value_within p k M v (values_in r) w = let u = w.2.round in twice_within p k u.start v u.twice
value_within p k M v (sizes_in r) w = let u = w.2.round in twice_within p k u.start v u.twice
value_within p k M v (chars_in xs) w = absurd w

pub reconstrained_by : (p : Program) (i : ℕ) (k : WrittenKind) (M x : Name) (t : Type') (start : Limit) (n : ℕ) (c : ConstraintTree) →
    slice_get p.types i ≡ Some t →
    Inherits p i start k →
    slice_get t.constraints n ≡ Some c →
    (start.extensible ≡ true) ⊎ IsMarkedIn t.constraints n →
    IsReconstrained p i
reconstrained_by p i k M x t start n c here inh e (inl h) =
    let f = inh.extensible.0 h in
    let b = f.2.bears in
    record {
      number = n;
      constraint = c;
      listed = record { type = t; there = here; written = e };
      steps = suc b.steps;
      target = b.target;
      chain = ap (λ o. onward o (λ j. follow (next p.types) b.steps j)) f.2.chain ∙ b.chain;
      other = b.written.0;
      earlier = f.1;
      stood = record { type = b.type; there = b.there; written = b.written.1 };
      before = inr (omega arith);
      marked = f.3;
    }
reconstrained_by p i k M x t start n c here inh e (inr m) = record {
  number = n;
  constraint = c;
  listed = record { type = t; there = here; written = e };
  steps = 0;
  target = i;
  chain = refl;
  other = m.number;
  earlier = m.constraint;
  stood = record { type = t; there = here; written = m.there };
  before = inl (refl, m.before);
  marked = m.marked;
}

pub fault_is : (p : Program) (i : ℕ) (k : WrittenKind) (M x : Name) (t : Type') (start : Limit) (w : ConstraintFault) →
    IsWhole p →
    IsTypeOfKind p.types i k →
    slice_get p.types i ≡ Some t →
    IsAssignment p t.assignment M x →
    IsStartOf p i start →
    ((c : ℕ) → IsMember c start.codes → c < 128) →
    IsLimitFault p k M t.constraints start w →
    IsFault p (fault_of w i)
fault_is p i k M x t start wrongs.Memory w kind here home s low e = tt
fault_is p i k M x t start (wrongs.Circular v) w kind here home s low e = (
  (i, record { number = e.0; kind = k; within = M; constraint = e.1; written = written_is p i k M x t e.0 e.1 here kind home e.2; such = e.3 }),
  value_within p k M v e.1 e.3,
)
fault_is p i k M x t start (wrongs.At rules.Empty at) w kind here home s low e =
    (slice_get_within p.types i t here, empty_is p i k M x t start w kind here home s low e)
fault_is p i k M x t start (wrongs.At rules.Reconstrained at) w kind here home s low e =
    (slice_get_within p.types i t here, reconstrained_by p i k M x t start e.0 e.1 here (s.inherits k kind) e.2 e.3)
fault_is p i k M x t start (wrongs.At rules.WrongKind at) w kind here home s low e = (
  slice_get_within p.types i t here,
  record { number = e.0; kind = k; within = M; constraint = e.1; written = written_is p i k M x t e.0 e.1 here kind home e.2; such = e.3 },
)
fault_is p i k M x t start (wrongs.At rules.LowerAboveUpper at) w kind here home s low e = (
  slice_get_within p.types i t here,
  record { number = e.0; kind = k; within = M; constraint = e.1; written = written_is p i k M x t e.0 e.1 here kind home e.2; such = e.3 },
)
fault_is p i k M x t start (wrongs.At rules.MarkerPlace at) w kind here home s low e = (
  slice_get_within p.types i t here,
  record { number = e.0; kind = k; within = M; constraint = e.1; written = written_is p i k M x t e.0 e.1 here kind home e.2; such = e.3 },
)

-- ---- before the own constraints of a type

no_target : (p : Program) (i : ℕ) (M : Name) (c : ConstraintTree) → next p.types i ≡ None → BearsTarget p i M c → ⊥
no_target p i M c e b = let f : None ≡ Some b.target = sym e ∙ b.chain in absurd cc

kind_here : (p : Program) (i : ℕ) (t : Type') (k : WrittenKind) →
    slice_get p.types i ≡ Some t →
    next p.types i ≡ None →
    IsTypeOfKind p.types i k →
    t.kind ≡ k
kind_here p i t k here e u =
    kind_once p.types i t.kind k (record {
      core = i;
      type = t;
      chain = record { steps = 0; few = (let l = slice_get_within p.types i t here in omega (arith, l)); chain = refl; ends = e };
      there = here;
      kind = refl;
    }) u

first_codes : (p : Program) (i : ℕ) (k : WrittenKind) (cs : List ℕ) →
    next p.types i ≡ None →
    HasCodes k cs →
    HasTargetCodes p k i cs
first_codes p i (simple (a_restricted_string s)) cs e h =
    λ x. (λ m. ((h x).0 m, λ M c b. absurd (no_target p i M c e b)), λ m. (h x).1 m.0)
first_codes p i k cs e h = tt

first_inherits : (p : Program) (i : ℕ) (k : WrittenKind) (l : Limit) → next p.types i ≡ None → IsFirst k l →
    Inherits p i l k
first_inherits p i k l e f = record {
  numbers = λ z. (λ m. ((f.numbers z).0 m, λ M c b. absurd (no_target p i M c e b)), λ m. (f.numbers z).1 m.0);
  codes = first_codes p i k l.codes e f.codes;
  extensible = (
    λ h. (let q : false ≡ true = sym f.extensible ∙ h in absurd cc),
    λ h. absurd (no_target p i h.0 h.1 e h.2),
  );
}

pub first_start : (p : Program) (i : ℕ) (t : Type') (l : Limit) →
    slice_get p.types i ≡ Some t →
    next p.types i ≡ None →
    IsFirst t.kind l →
    IsStartOf p i l
first_start p i t l here e f = record {
  inherits = λ k u. subst (Inherits p i l) (kind_here p i t k here e u) (first_inherits p i t.kind l e f);
  limited = λ j g. (let q : None ≡ Some j = sym e ∙ g in absurd cc);
}

target_is : (p : Program) (i j : ℕ) (M : Name) (c : ConstraintTree) → next p.types i ≡ Some j → BearsTarget p i M c →
    BearsConstraint p j M c
target_is p i j M c e b = subst (λ m. BearsConstraint p m M c) (some_same b.target j (sym b.chain ∙ e)) b.bears

target_of : (p : Program) (i j : ℕ) (M : Name) (c : ConstraintTree) → next p.types i ≡ Some j →
    BearsConstraint p j M c → BearsTarget p i M c
target_of p i j M c e b = record { target = j; chain = e; bears = b }

target_codes : (p : Program) (i j : ℕ) (k : WrittenKind) (cs : List ℕ) →
    next p.types i ≡ Some j →
    HasAlphabet p k j cs →
    HasTargetCodes p k i cs
target_codes p i j (simple (a_restricted_string s)) cs e h = λ x. (
  λ m. (let r = (h x).0 m in (r.character, λ M c b. r.allowed M c (target_is p i j M c e b))),
  λ m. (h x).1 (record { character = m.0; allowed = λ M c b. m.1 M c (target_of p i j M c e b) }),
)
target_codes p i j k cs e h = tt

target_inherits : (p : Program) (i j : ℕ) (k : WrittenKind) (l : Limit) → next p.types i ≡ Some j → IsLeft p k j l →
    Inherits p i l k
target_inherits p i j k l e f = record {
  numbers = λ z. (
    λ m. (let r = (f.numbers z).0 m in (r.counted, λ M c b. r.allowed M c (target_is p i j M c e b))),
    λ m. (f.numbers z).1 (record { counted = m.0; allowed = λ M c b. m.1 M c (target_of p i j M c e b) }),
  );
  codes = target_codes p i j k l.codes e f.codes;
  extensible = (
    λ h. (let r = f.extensible.0 h in (r.within, r.constraint, target_of p i j r.within r.constraint e r.bears, r.marked)),
    λ h. f.extensible.1 (record { within = h.0; constraint = h.1; bears = target_is p i j h.0 h.1 e h.2; marked = h.3 }),
  );
}

same_left : (p : Program) (k : WrittenKind) (i : ℕ) (l m : Limit) → IsSame l m → IsLeft p k i l → IsLeft p k i m
same_left p k i l m s f = record {
  numbers = λ z. subst (λ ns. IsInSome z ns ↔ IsInRoot p k i z) s.numbers (f.numbers z);
  codes = subst (HasAlphabet p k i) s.codes f.codes;
  extensible = subst (λ e. e ≡ true ↔ IsExtensible p i) s.extensible f.extensible;
  some = record {
    numbers = subst (λ ns. 0 < length ns) s.numbers f.some.numbers;
    number = subst (λ ns. (z : ℤ) × IsInSome z ns) s.numbers f.some.number;
    codes = λ h. subst (λ cs. 0 < length cs) s.codes (f.some.codes h);
  };
}

pub copied_start : (p : Program) (i j : ℕ) (l m : Limit) →
    next p.types i ≡ Some j →
    IsLimitOf p j l →
    IsSame l m →
    IsStartOf p i m
copied_start p i j l m e f s = record {
  inherits = λ k u. target_inherits p i j k m e (same_left p k j l m s (f.left k (target_kind p.types i j k e u)));
  limited = λ h g. (l, subst (λ n. IsLimitOf p n l) (some_same j h (sym e ∙ g)) f);
}

-- ---- a type without constraints

no_own : (p : Program) (i j : ℕ) (M : Name) (c : ConstraintTree) → IsShared p.types i j → Own p i M c → ⊥
no_own p i j M c s o =
    let q = some_same o.type s.type (sym o.there ∙ s.there) in
    let e = subst (λ (u : Type'). OccursIn u.constraints c) q o.written in
    let f : slice_get [] e.0 ≡ Some c = subst (λ cs. slice_get cs e.0 ≡ Some c) s.none e.1 in
    absurd cc

shared_target : (p : Program) (i j : ℕ) (M : Name) (c : ConstraintTree) → IsShared p.types i j →
    BearsConstraint p i M c → BearsConstraint p j M c
shared_target p i j M c s b = elim (bears_cases p i M c b) [
  | inl o ↦ absurd (no_own p i j M c s o)
  | inr o ↦ target_is p i j M c s.chain o
]

shared_before : (p : Program) (i j : ℕ) (M : Name) (c : ConstraintTree) → IsShared p.types i j →
    BearsConstraint p j M c → BearsConstraint p i M c
shared_before p i j M c s b = bears_target p i M c (target_of p i j M c s.chain b)

shared_codes : (p : Program) (i j : ℕ) (k : WrittenKind) (cs : List ℕ) → IsShared p.types i j → HasAlphabet p k j cs →
    HasAlphabet p k i cs
shared_codes p i j (simple (a_restricted_string a)) cs s h = λ x. (
  λ m. (let r = (h x).0 m in record {
    character = r.character;
    allowed = λ M c b. r.allowed M c
        (shared_target p i j M c s b);
  }),
  λ r. (h x).1 (record { character = r.character; allowed = λ M c b. r.allowed M c (shared_before p i j M c s b) }),
)
shared_codes p i j k cs s h = tt

shared_left : (p : Program) (i j : ℕ) (k : WrittenKind) (l : Limit) → IsShared p.types i j → IsLeft p k j l →
    IsLeft p k i l
shared_left p i j k l s f = record {
  numbers = λ z. (
    λ m. (let r = (f.numbers z).0 m in record {
      counted = r.counted;
      allowed = λ M c b. r.allowed M c
          (shared_target p i j M c s b);
    }),
    λ r. (f.numbers z).1 (record {
      counted = r.counted;
      allowed = λ M c b. r.allowed M c
          (shared_before p i j M c s b);
    }),
  );
  codes = shared_codes p i j k l.codes s f.codes;
  extensible = (
    λ h. (let r = f.extensible.0 h in
        record { within = r.within; constraint = r.constraint; bears = shared_before p i j r.within r.constraint s r.bears; marked = r.marked }),
    λ r. f.extensible.1 (record {
      within = r.within;
      constraint = r.constraint;
      bears = shared_target p i j r.within r.constraint s r.bears;
      marked = r.marked;
    }),
  );
  some = f.some;
}

not_listed : (p : Program) (i j n : ℕ) (c : ConstraintTree) (t : Type') → IsShared p.types i j →
    slice_get p.types i ≡ Some t → slice_get t.constraints n ≡ Some c → ⊥
not_listed p i j n c t s e f =
    let q = some_same t s.type (sym e ∙ s.there) in
    let g : slice_get [] n ≡ Some c = subst (λ cs. slice_get cs n ≡ Some c) (ap (λ
    (u : Type'). u.constraints) q ∙ s.none) f in
    absurd cc

shared_on : (p : Program) (i j s b n : ℕ) (o : Option ℕ) (h : WrittenKind) (N : Name) (c : ConstraintTree) →
    HasGoodConstraints p j →
    o ≡ Some j →
    onward o (λ m. follow (next p.types) s m) ≡ Some b →
    IsWritten p b n h N c →
    IsFitting p h N c
shared_on p i j s b n None h N c g e f u = absurd cc
shared_on p i j s b n (Some m) h N c g e f u =
    let q = some_same m j e in
    g.fitting s b n h N c (subst (λ d. follow (next p.types) s d ≡ Some b) q f) u

shared_fits : (p : Program) (i j s b n : ℕ) (h : WrittenKind) (N : Name) (c : ConstraintTree) →
    IsShared p.types i j →
    HasGoodConstraints p j →
    walk p.types s i ≡ Some b →
    IsWritten p b n h N c →
    IsFitting p h N c
shared_fits p i j zero b n h N c s g f u =
    let q : i ≡ b = cc in
    absurd (not_listed p i j n c u.type s (ap (slice_get p.types) q ∙ u.there) u.written)
shared_fits p i j (suc a) b n h N c s g f u = shared_on p i j a b n (next p.types i) h N c g s.chain f u

shared_last_on : (p : Program) (j s b : ℕ) (o : Option ℕ) →
    HasGoodConstraints p j →
    o ≡ Some j →
    onward o (λ m. follow (next p.types) s m) ≡ Some b →
    IsReconstrained p b →
    ⊥
shared_last_on p j s b None g e f r = absurd cc
shared_last_on p j s b (Some m) g e f r =
    let q = some_same m j e in
    g.last s b (subst (λ d. follow (next p.types) s d ≡ Some b) q f) r

shared_last : (p : Program) (i j s b : ℕ) →
    IsShared p.types i j →
    HasGoodConstraints p j →
    walk p.types s i ≡ Some b →
    IsReconstrained p b →
    ⊥
shared_last p i j zero b s g f r =
    let q : i ≡ b = cc in
    let l = r.listed in
    not_listed p i j r.number r.constraint l.type s (ap (slice_get p.types) q ∙ l.there) l.written
shared_last p i j (suc a) b s g f r = shared_last_on p j a b (next p.types i) g s.chain f r

pub shared_limit : (p : Program) (i j : ℕ) (l : Limit) → IsShared p.types i j → IsLimitOf p j l → IsLimitOf p i l
shared_limit p i j l s f = record {
  left = λ k u. shared_left p i j k l s (f.left k (target_kind p.types i j k s.chain u));
  good = record {
    fitting = λ a b n h N c e u. shared_fits p i j a b n h N c s f.good e u;
    last = λ a b e r. shared_last p i j a b s f.good e r;
  };
}
