-- Faults of types and names in a program, and that they exclude a sound one.
use Rattle.std.proofs.Common.{◌≡◌, ◌⊎◌, ◌^◌, inl, inr, ℕ, pos, List, length, map, get_or, ◌<◌, ◌+◌, Some, refl, sym, subst, ap, ◌∙◌, arith}
use Rattle.std.specs.Prelude.{slice_get}
use Rattle.std.proofs.lemmas.Option.{same_Some}
use Rattle.trees.specs.declared.location.SourceLocation.{SourceLocation}
use Rattle.trees.specs.Values.{Name, tree_of}
use Rattle.trees.specs.Types.{Plain, an_integer, a_bit_string, an_enumerated}
use Rattle.trees.specs.declared.module.TagDefault.{TagDefault}
use Rattle.names.specs.declared.fault.NameFault.{NameFault}
use Rattle.names.specs.declared.fault.NameFault.TheVariants as faults
use Rattle.names.specs.declared.fault.Limit.{Limit}
use Rattle.names.specs.declared.fault.Limit.TheVariants as limits
use Rattle.names.specs.declared.scope.Assigned.TheVariants as assigned
use Rattle.names.specs.declared.sources.ValueAt.{ValueAt}
use Rattle.names.specs.Faults.{fault_module, fault_name}
use Rattle.names.specs.Modules.{OccursIn, AreDifferent}
use Rattle.names.specs.Names.{Refers}
use Rattle.names.specs.Sources.{Value}
use Rattle.names.specs.proving.Distinct.{item_at, mapped, right}
use Rattle.type_table.specs.Items.{additions_of, root_numbers, addition_numbers}
use Rattle.circles.specs.Circles.{IsFirstDefaultCircle, NoDefaultCircles}
use Rattle.type_table.specs.declared.table.TypeNode.{TypeNode}
use Rattle.type_table.specs.FirstInList.{IsFirstInList}
use Rattle.type_table.specs.Lists.{AreSound, IsSoundPlain, IsSoundKind}
use Rattle.type_table.specs.ListFaults.{IsTwiceAmong, IsTwicePlain, IsTwiceIn, HasManyMembers, HasManyItems, HasFarBit, HasGreatNumber, HasPassed}
use Rattle.type_table.specs.Seen.{kind_of, type_of}
use Rattle.type_table.specs.Table.{WrittenKind, simple, members, Type'}
use Rattle.type_table.specs.proving.Checks.{IsKindFault}
use Rattle.resolve.specs.First.{IsFirstList, IsFirstUnknown, ReportsFirstOfProgram, TypeMeans, ValueMeans, in_circle, in_list, in_type, in_value}
use Rattle.resolve.specs.Places.{type_places, value_places}
use Rattle.resolve.specs.Program.{Program, IsAssignment, IsTypeIn, IsValueIn}
use Rattle.resolve.specs.Qualified.{qualified, qualified_in, MeanValues}
use Rattle.resolve.specs.Sound.{IsSoundProgram, IsSoundFault, TypesMean}
use Rattle.resolve.specs.proving.Unknown.{IsUnknownIn}

-- the element of this turn, in the list as a program has it
pub turn_there : {X Y : Type 0} (f : X → Y) (xs : List X) (zs : List Y) (i : ℕ) (x : X) → map f xs ≡ zs →
    i < length xs → x ≡ get_or xs i x → slice_get zs i ≡ Some (f x)
turn_there f xs zs i x e l h = ap (λ z. slice_get z i) (sym e) ∙ item_at f xs i x l h

-- ---- the module of an assignment

one_header : (p : Program) (o o' : ℕ) (M N : Name) (d d' : TagDefault) → o ≡ o' →
    slice_get p.headers o ≡ Some (M, d) → slice_get p.headers o' ≡ Some (N, d') → M ≡ N
one_header p o o' M N d d' q e f =
    let s : (M, d) ≡ (N, d') = same_Some (M, d) (N, d') (sym e ∙ ap (slice_get p.headers) q ∙ f) in
    ap (λ z. z.0) s

pub one_module : (p : Program) (k : ℕ) (M x N y : Name) → IsAssignment p k M x → IsAssignment p k N y → M ≡ N
one_module p k M x N y a b =
    let s : (a.owner, x) ≡ (b.owner, y) = same_Some (a.owner, x) (b.owner, y) (sym a.assigned ∙ b.assigned) in
    one_header p a.owner b.owner M N a.tags b.tags (ap (λ z. z.0) s) a.header b.header

pub one_name : (p : Program) (k : ℕ) (M x N y : Name) → IsAssignment p k M x → IsAssignment p k N y → x ≡ y
one_name p k M x N y a b =
    let s : (a.owner, x) ≡ (b.owner, y) = same_Some (a.owner, x) (b.owner, y) (sym a.assigned ∙ b.assigned) in
    ap (λ z. z.1) s

moved : (p : Program) (k : ℕ) (M N x y : Name) → N ≡ M → y ≡ x → IsAssignment p k M x → IsAssignment p k N y
moved p k M N x y q r a = subst (λ z. IsAssignment p k N z) (sym r) (subst (λ z. IsAssignment p k z x) (sym q) a)

-- ---- what holds of type or value i

-- the list of type i keeps the rules
abbrev pub SoundAt : Program → ℕ → Type 0
SoundAt p i = (t : Type') → slice_get p.types i ≡ Some t → IsSoundKind t.kind

pub sound_at : (p : Program) (i : ℕ) (t : Type') → slice_get p.types i ≡ Some t → IsSoundKind t.kind → SoundAt p i
sound_at p i t e h u f = subst (λ z. IsSoundKind z.kind) (same_Some t u (sym e ∙ f)) h

pub type_means : (p : Program) (i : ℕ) (t : Type') (M x : Name) → slice_get p.types i ≡ Some t →
    IsAssignment p t.assignment M x → MeanValues p.modules M (qualified_in t) → TypeMeans p i
type_means p i t M x e a m u N y f b =
    let q : t ≡ u = same_Some t u (sym e ∙ f) in
    let c : IsAssignment p t.assignment N y = subst (λ z. IsAssignment p z.assignment N y) (sym q) b in
    subst (λ z. MeanValues p.modules z (qualified_in u)) (one_module p t.assignment M x N y a c) (subst (λ z. MeanValues p.modules M (qualified_in z)) q m)

pub value_means : (p : Program) (i : ℕ) (v : Value) (M x : Name) → slice_get p.values i ≡ Some v →
    IsAssignment p v.assignment M x → MeanValues p.modules M (qualified v.notation) → ValueMeans p i
value_means p i v M x e a m u N y f b =
    let q : v ≡ u = same_Some v u (sym e ∙ f) in
    let c : IsAssignment p v.assignment N y = subst (λ z. IsAssignment p z.assignment N y) (sym q) b in
    subst (λ z. MeanValues p.modules z (qualified u.notation)) (one_module p v.assignment M x N y a c) (subst (λ z. MeanValues p.modules M (qualified z.notation)) q m)

-- ---- faults of one type or value are faults of the program

pub kind_fault : (p : Program) (i : ℕ) (t : Type') (M a : Name) (e : NameFault) → slice_get p.types i ≡ Some t →
    IsAssignment p t.assignment M a → IsKindFault M a t.kind e → IsSoundFault p e
kind_fault p i t M a faults.Memory h s u = tt
kind_fault p i t M a (faults.Twice z) h s u =
    record { assigns = a; written = record { number = i; written = t; there = h; is_so = moved p t.assignment M (fault_module z) a a u.0 refl s; such = u.1 } }
kind_fault p i t M a (faults.Limit l z) h s u = record { number = i; written = t; there = h; is_so = moved p t.assignment M (fault_module z) a (fault_name z) u.0 u.1 s; such = u.2 }
kind_fault p i t M a (faults.UnknownName z) h s u = absurd u
kind_fault p i t M a (faults.NotExported z) h s u = u
kind_fault p i t M a (faults.Circular z) h s u = absurd u
kind_fault p i t M a (faults.UnknownModule z) h s u = u

-- names in a type or a value of which one stands for nothing
abbrev IsWrittenIn : Program → Name → Name → Name → Name → Type 0
IsWrittenIn p M a N x = IsTypeIn p M a (λ t. OccursIn (qualified_in t) (N, x)) ⊎ IsValueIn p M a (λ v. OccursIn (qualified v.notation) (N, x))

unknown_fault : (p : Program) (M a : Name) (rs : List (Name × Name)) (ps : List ℕ) (e : NameFault) →
    ((m N x : Name) → m ≡ M → OccursIn rs (N, x) → IsWrittenIn p m a N x) → IsUnknownIn p.modules M rs ps e →
    IsSoundFault p e
unknown_fault p M a rs ps faults.Memory w u = tt
unknown_fault p M a rs ps (faults.UnknownName s) w u = record {
  owner = u.1.owner;
  assigns = a;
  written = w (fault_module s) u.1.owner (fault_name s) u.0 (u.1.number, u.1.there);
  nothing = subst (λ z. (i : ℕ) → Refers p.modules z (Some u.1.owner) (fault_name s) (assigned.Value i) → ⊥) (sym u.0) u.1.nothing;
}
unknown_fault p M a rs ps (faults.Limit l s) w u = absurd u
unknown_fault p M a rs ps (faults.Twice s) w u = absurd u
unknown_fault p M a rs ps (faults.NotExported s) w u = absurd u
unknown_fault p M a rs ps (faults.Circular s) w u = absurd u
unknown_fault p M a rs ps (faults.UnknownModule s) w u = absurd u

pub type_fault : (p : Program) (i : ℕ) (t : Type') (ps : List ℕ) (M a : Name) (e : NameFault) →
    slice_get p.types i ≡ Some t → IsAssignment p t.assignment M a → IsUnknownIn p.modules M (qualified_in t) ps e →
    IsSoundFault p e
type_fault p i t ps M a e h s u = unknown_fault p M a (qualified_in t) ps e (λ m N x q r. inl (record { number = i; written = t; there = h; is_so = moved p t.assignment M m a a q refl s; such = r })) u

pub value_fault : (p : Program) (i : ℕ) (v : Value) (ps : List ℕ) (M a : Name) (e : NameFault) →
    slice_get p.values i ≡ Some v → IsAssignment p v.assignment M a →
    IsUnknownIn p.modules M (qualified v.notation) ps e → IsSoundFault p e
value_fault p i v ps M a e h s u = unknown_fault p M a (qualified v.notation) ps e (λ m N x q r. inr (record { number = i; value = v; there = h; is_so = moved p v.assignment M m a a q refl s; such = r })) u

-- ---- a sound program has no fault

twice_among : {Z : Type 0} (xs : List Name) (zs : List Z) (x : Name) → AreDifferent xs → AreDifferent zs →
    IsTwiceAmong xs zs x → ⊥
twice_among xs zs x d e (inl t) = d x t
twice_among xs zs x d e (inr t) = e t.number t.twice

twice_plain : (s : Plain) (x : Name) → IsTwicePlain s x → IsSoundPlain s → ⊥
twice_plain (an_integer ns) x t g = twice_among _ _ x g.0 g.1 t
twice_plain (a_bit_string bs) x t g = twice_among _ _ x g.0 g.1 t
twice_plain (an_enumerated root more) x t g = twice_among _ _ x g.names g.numbers t
twice_plain k x t g = absurd t

twice_in : (k : WrittenKind) (x : Name) → IsTwiceIn k x → IsSoundKind k → ⊥
twice_in (simple s) x t g = twice_plain s x t g
twice_in (members l m cs) x t g = g.names x t
twice_in k x t g = absurd t

many_members : (k : WrittenKind) → HasManyMembers k → IsSoundKind k → ⊥
many_members (members l m cs) (inl h) g = let few = g.root_few in absurd (omega (arith, h, few))
many_members (members l m cs) (inr h) g = let few = g.more_few in absurd (omega (arith, h, few))
many_members k h g = absurd h

many_items : (k : WrittenKind) → HasManyItems k → IsSoundKind k → ⊥
many_items (simple (an_enumerated root more)) (inl h) g = let few = g.root_few in absurd (omega (arith, h, few))
many_items (simple (an_enumerated root more)) (inr h) g = let few = g.more_few in absurd (omega (arith, h, few))
many_items k h g = absurd h

far_bit : (k : WrittenKind) → HasFarBit k → IsSoundKind k → ⊥
far_bit (simple (a_bit_string bs)) h g =
    let r = mapped (λ (b : Name × ℕ). b.1) bs h.1.0 h.0 h.1.1 in
    let low = g.2 h.1.0 r.0 r.1 in
    let same = r.2 in
    let far = h.2 in
    absurd (omega (arith, low, same, far))
far_bit k h g = absurd h

great_number : (k : WrittenKind) → HasGreatNumber k → IsSoundKind k → ⊥
great_number (simple (an_enumerated root more)) h g =
    let l = g.within (length (root_numbers root) + h.0) (pos (2 ^ 127)) (right (root_numbers root) (addition_numbers root (additions_of more)) h.0 ∙ h.1) in
    absurd (omega (arith, l))
great_number k h g = absurd h

passed : (l : Limit) (k : WrittenKind) → HasPassed l k → IsSoundKind k → ⊥
passed limits.Members k h g = many_members k h g
passed limits.Items k h g = many_items k h g
passed limits.NamedBit k h g = far_bit k h g
passed limits.Integer k h g = great_number k h g
passed limits.Modules k h g = h
passed limits.Types k h g = h
passed limits.Values k h g = h

-- a type with a fault of its list doesn't keep the rules of lists
kind_not_sound : (M a : Name) (k : WrittenKind) (e : NameFault) → (e ≡ faults.Memory → ⊥) → IsKindFault M a k e →
    IsSoundKind k → ⊥
kind_not_sound M a k faults.Memory n f g = n refl
kind_not_sound M a k (faults.Twice s) n f g = twice_in k (fault_name s) f.1 g
kind_not_sound M a k (faults.Limit l s) n f g = passed l k f.2 g
kind_not_sound M a k (faults.UnknownName s) n f g = f
kind_not_sound M a k (faults.NotExported s) n f g = f
kind_not_sound M a k (faults.Circular s) n f g = f
kind_not_sound M a k (faults.UnknownModule s) n f g = f

no_value : (p : Program) (M x N a : Name) → ((i : ℕ) → Refers p.modules M (Some N) x (assigned.Value i) → ⊥) →
    IsSoundProgram p → IsWrittenIn p M a N x → ⊥
no_value p M x N a none g (inl t) = let r = g.types t.number t.written M a t.there t.is_so t.such.0 N x t.such.1 in none r.0 r.1
no_value p M x N a none g (inr v) = let r = g.values v.number v.value M a v.there v.is_so v.such.0 N x v.such.1 in none r.0 r.1

pub fault_not_sound : (p : Program) (e : NameFault) → (e ≡ faults.Memory → ⊥) → IsSoundFault p e → IsSoundProgram p → ⊥
fault_not_sound p faults.Memory n f g = n refl
fault_not_sound p (faults.Twice s) n f g = twice_in f.written.written.kind (fault_name s) f.written.such (g.lists f.written.number f.written.written f.written.there)
fault_not_sound p (faults.Limit l s) n f g = passed l f.written.kind f.such (g.lists f.number f.written f.there)
fault_not_sound p (faults.UnknownName s) n f g = no_value p (fault_module s) (fault_name s) f.owner f.assigns f.nothing g f.written
fault_not_sound p (faults.NotExported s) n f g = f
fault_not_sound p (faults.Circular s) n f g = g.defaults f.number f.circle
fault_not_sound p (faults.UnknownModule s) n f g = f

-- ---- the first fault

moved_first : (p : Program) (M N x : Name) (rs : List (Name × Name)) (ps : List ℕ) (at : ℕ) → N ≡ M →
    IsFirstUnknown p.modules M rs ps x at → IsFirstUnknown p.modules N rs ps x at
moved_first p M N x rs ps at q u = subst (λ z. IsFirstUnknown p.modules z rs ps x at) (sym q) u

module _ (p : Program) (ws : List TypeNode) (vs : List ValueAt) where
  -- the first fault in the list of type i, for which the lists of all types before it were checked
  listed : (i : ℕ) (w : TypeNode) (M a : Name) (e : NameFault) → (e ≡ faults.Memory → ⊥) → slice_get ws i ≡ Some w →
      IsAssignment p w.assignment M a → IsKindFault M a (kind_of w.shape) e → IsFirstInList M a w.shape e →
      ((k : ℕ) → k < i → SoundAt p k) → IsFirstList p ws e
  listed i w M a e n h u k f b = record {
    number = i;
    written = w;
    there = h;
    within = M;
    assigns = a;
    is_so = u;
    wrong = kind_not_sound M a (kind_of w.shape) e n k;
    fault = f;
    before = λ j t l g. b j l t g;
  }

  pub first_list : (i : ℕ) (w : TypeNode) (M a : Name) (e : NameFault) → slice_get ws i ≡ Some w →
      IsAssignment p w.assignment M a → IsKindFault M a (kind_of w.shape) e → IsFirstInList M a w.shape e →
      ((k : ℕ) → k < i → SoundAt p k) → ReportsFirstOfProgram p ws vs e
  first_list i w M a faults.Memory h u k f b = tt
  first_list i w M a (faults.Limit l z) h u k f b = (in_list (listed i w M a (faults.Limit l z) (λ q. cc) h u k f b))
  first_list i w M a (faults.Twice z) h u k f b = (in_list (listed i w M a (faults.Twice z) (λ q. cc) h u k f b))
  first_list i w M a (faults.UnknownName z) h u k f b = absurd k
  first_list i w M a (faults.NotExported z) h u k f b = absurd k
  first_list i w M a (faults.Circular z) h u k f b = absurd k
  first_list i w M a (faults.UnknownModule z) h u k f b = absurd k

  -- a list in a circle of DEFAULTs, after lists were checked
  pub first_circle : (i : ℕ) (w : TypeNode) (M a : Name) (s : SourceLocation) → AreSound p.types →
      slice_get ws i ≡ Some w → IsAssignment p w.assignment M a → fault_module s ≡ M → fault_name s ≡ a →
      s.at ≡ w.at → IsFirstDefaultCircle p.types i → ReportsFirstOfProgram p ws vs (faults.Circular s)
  first_circle i w M a s l h u m x n c =
      (in_circle l (record { number = i; written = w; there = h; is_so = moved p w.assignment M (fault_module s) a (fault_name s) m x u; at = n; circle = c }))

  module _ (l : AreSound p.types) (d : NoDefaultCircles p.types) where
    -- the fault of a name in a type, after lists and circles were checked
    pub first_type : (i : ℕ) (w : TypeNode) (M a : Name) (e : NameFault) → slice_get ws i ≡ Some w →
        IsAssignment p w.assignment M a → ((k : ℕ) → k < i → TypeMeans p k) →
        IsUnknownIn p.modules M (qualified_in (type_of w)) (type_places w) e → ReportsFirstOfProgram p ws vs e
    first_type i w M a faults.Memory h s b u = tt
    first_type i w M a (faults.UnknownName z) h s b u =
        (in_type l d (record { number = i; written = w; there = h; assigns = a; is_so = moved p w.assignment M (fault_module z) a a u.0 refl s; first = moved_first p M (fault_module z) (fault_name z) (qualified_in (type_of w)) (type_places w) z.at u.0 u.1; before = b }))
    first_type i w M a (faults.Limit k z) h s b u = absurd u
    first_type i w M a (faults.Twice z) h s b u = absurd u
    first_type i w M a (faults.NotExported z) h s b u = absurd u
    first_type i w M a (faults.Circular z) h s b u = absurd u
    first_type i w M a (faults.UnknownModule z) h s b u = absurd u

    -- the fault of a name in a value, after lists, circles and types were checked
    pub first_value : (i : ℕ) (v : ValueAt) (M a : Name) (e : NameFault) → TypesMean p → slice_get vs i ≡ Some v →
        IsAssignment p v.assignment M a → ((k : ℕ) → k < i → ValueMeans p k) →
        IsUnknownIn p.modules M (qualified (tree_of v.syntax)) (value_places v.syntax) e → ReportsFirstOfProgram p ws vs e
    first_value i v M a faults.Memory m h s b u = tt
    first_value i v M a (faults.UnknownName z) m h s b u =
        (in_value l d m (record { number = i; written = v; there = h; assigns = a; is_so = moved p v.assignment M (fault_module z) a a u.0 refl s; first = moved_first p M (fault_module z) (fault_name z) (qualified (tree_of v.syntax)) (value_places v.syntax) z.at u.0 u.1; before = b }))
    first_value i v M a (faults.Limit k z) m h s b u = absurd u
    first_value i v M a (faults.Twice z) m h s b u = absurd u
    first_value i v M a (faults.NotExported z) m h s b u = absurd u
    first_value i v M a (faults.Circular z) m h s b u = absurd u
    first_value i v M a (faults.UnknownModule z) m h s b u = absurd u

-- the types and values are these as well
pub moved_places : (p : Program) (ws us : List TypeNode) (vs xs : List ValueAt) (e : NameFault) → ws ≡ us → vs ≡ xs →
    ReportsFirstOfProgram p ws vs e → ReportsFirstOfProgram p us xs e
moved_places p ws us vs xs e a b f =
    subst (λ z. ReportsFirstOfProgram p us z e) b (subst (λ z. ReportsFirstOfProgram p z vs e) a f)
