-- Lists of which something holds at each place, one element after the other; and the DEFAULTs in such lists.
use Rattle.std.proofs.Common.{◌≡◌, ◌+◌, ◌<◌, ◌≤◌, ◌⊎◌, inl, inr, ℕ, zero, suc, refl, sym, ap, subst, ◌∙◌, arith}
use Rattle.std.specs.Global.{Global}
use Rattle.std.specs.Prelude.{Bool, List, [], ◌∷◌, ◌++◌, length, map, Option, Some, None, slice_get, Result, Ok, Err, IfErr, All, Vec}
use Rattle.std.proofs.lemmas.List.Elements.{All-head, All-tail}
use Rattle.std.proofs.lemmas.List.{length-append}
use Rattle.std.proofs.lemmas.Option.{none-some, same_Some, slice_get_within, slice_get_cases}
use Rattle.asn_base.specs.Abstract.{AbstractValue}
use Rattle.asn_base.specs.Types.{Resolved}
use Rattle.trees.specs.declared.types.ListKind.{ListKind}
use Rattle.trees.specs.Values.{Name, Tree}
use Rattle.trees.specs.Types.{default}
use Rattle.names.specs.proving.Distinct.{either}
use Rattle.type_table.specs.declared.table.ListMember.{ListMember}
use Rattle.type_table.specs.declared.table.Shape.TheVariants as shapes
use Rattle.type_table.specs.declared.table.TypeNode.{TypeNode}
use Rattle.type_table.specs.Seen.{kind_of, part_of, type_of}
use Rattle.type_table.specs.Table.{Part, Type', WrittenKind, members, IsUnderlying, IsLinked}
use Rattle.resolve.specs.Program.{Program, WrittenProgram, IsAssignment}
use Rattle.value_notations.specs.Values.{IsTyped}
use Rattle.value_notations.specs.Written.{IsWrittenWith, list_members}
use Rattle.settled.specs.values.Allowing.{Allows, AllowsCode}
use Rattle.settled.specs.Settled.{IsTypedDefault, AreTypedDefaults, IsProgramSchema}
use Rattle.extensions.proofs.CoreKinds.{one_core}
use Rattle.extensions.specs.proving.Defaults.{IsDefaultOf, AreDefaultsOf, HasDefaults}
use Rattle.typed_values.specs.declared.fault.ValueFault.{ValueFault}
use Rattle.extensions.specs.declared.wrong.Wrong.{Wrong}
use Rattle.extensions.specs.declared.wrong.Wrong.TheVariants.{Memory, At}
use Rattle.extensions.specs.Faults.{IsList, IsFirstIn, HasTypedDefaults}
use Rattle.extensions.specs.proving.Tables.{AreEach, AreDefaultsAt, AreTabled, HaveTypes, IsFirstAt, IsResolved, Reports}

-- ---- one after the other

pub none_each : {B : Type 0} (R : ℕ → B → Type 0) → AreEach R 0 []
none_each R = record { as_many = refl; each = λ i b e. absurd (none-some b e) }

last_at : {B : Type 0} (R : ℕ → B → Type 0) (n m i : ℕ) (b d : B)
    → slice_get (b ∷ []) m ≡ Some d
    → i ≡ n + m
    → R n b
    → R i d
last_at R n zero i b d e q r =
    let same : n ≡ i = omega (arith, q) in
    subst (λ x. R i x) (same_Some b d e) (subst (λ j. R j b) same r)
last_at R n (suc m) i b d e q r = absurd (none-some d e)

pub one_more : {B : Type 0} (R : ℕ → B → Type 0) (n : ℕ) (bs cs : List B) (b : B)
    → AreEach R n bs
    → cs ≡ bs ++ b ∷ []
    → R n b
    → AreEach R (n + 1) cs
one_more R n bs cs b s e r = record {
  as_many =
      let l : length cs ≡ length (bs ++ b ∷ []) = ap length e in
      let m = length-append bs (b ∷ []) in
      let k = s.as_many in
      omega (arith, l, m, k);
  each = λ i d f.
      elim (either bs (b ∷ []) i d (sym (ap (λ x. slice_get x i) e) ∙ f)) [
        | inl g ↦ s.each i d g
        | inr q ↦ last_at R n q.0 i b d q.2 (q.1 ∙ ap (λ k. k + q.0) s.as_many) r
      ];
}

-- the element at a place
pub there_is : {B : Type 0} (bs : List B) (i : ℕ) → i < length bs → (b : B) × (slice_get bs i ≡ Some b)
there_is [] i l = absurd (omega (arith, l))
there_is (b ∷ bs) zero l = (b, refl)
there_is (b ∷ bs) (suc i) l = there_is bs i (omega (arith, l))

-- ---- DEFAULTs

same_default : (n m : Tree) → default n ≡ default m → n ≡ m
same_default n m e = cc

is_typed : (p : Program) (M : Name) (c : Part) (v : Option AbstractValue) → IsDefaultOf p M c v → IsTypedDefault p M c
is_typed p M c None d n e = absurd (d n e)
is_typed p M c (Some v) d n e =
    (v, subst (λ m. IsTyped p (Allows p) (AllowsCode p) M c.ty m v) (sym (same_default n d.0 (sym e ∙ d.1))) d.2)

-- the first n components' DEFAULTs
abbrev pub DefaultsUpTo : Program → Name → List Part → ℕ → List (Option AbstractValue) → Type 0
DefaultsUpTo p M cs n vs = AreEach (λ m v. (c : Part) → slice_get cs m ≡ Some c → IsDefaultOf p M c v) n vs

pub typed_before : (p : Program) (M : Name) (cs : List Part) (n : ℕ) (vs : List (Option AbstractValue))
    → DefaultsUpTo p M cs n vs
    → (m : ℕ) (c : Part)
    → m < n
    → slice_get cs m ≡ Some c
    → IsTypedDefault p M c
typed_before p M cs n vs s m c l e =
    let long = s.as_many in
    let v = there_is vs m (omega (arith, l, long)) in
    is_typed p M c v.0 (s.each m v.0 v.1 c e)

pub one_default : (p : Program) (M : Name) (cs : List Part) (n : ℕ) (c : Part) (v : Option AbstractValue)
    → slice_get cs n ≡ Some c
    → IsDefaultOf p M c v
    → (d : Part)
    → slice_get cs n ≡ Some d
    → IsDefaultOf p M d v
one_default p M cs n c v e i d f = subst (λ x. IsDefaultOf p M x v) (same_Some c d (sym e ∙ f)) i

pub all_default : (p : Program) (M : Name) (cs : List Part) (n : ℕ) (vs : List (Option AbstractValue))
    → DefaultsUpTo p M cs n vs
    → n ≡ length cs
    → AreDefaultsOf p M cs vs
all_default p M cs n vs s e = record {
  as_many = s.as_many ∙ e;
  each = λ m c v f g. s.each m v g c f;
}

-- ---- lists

one_home : (p : Program) (a : ℕ) (M N x y : Name) → IsAssignment p a M x → IsAssignment p a N y → M ≡ N
one_home p a M N x y f g =
    let owners = same_Some (f.owner, x) (g.owner, y) (sym f.assigned ∙ g.assigned) in
    let owner : f.owner ≡ g.owner = ap (λ (k : ℕ × Name). k.0) owners in
    let heads = same_Some (M, f.tags) (N, g.tags) (sym f.header ∙ ap (slice_get p.headers) owner ∙ g.header) in
    ap (λ (k : Name × _). k.0) heads

abbrev parts_of : WrittenKind → List Part
parts_of (members l m cs) = cs
parts_of k = []

-- a list is written in one module, and has its components
pub same_list : (p : Program) (i : ℕ) (M N : Name) (cs ds : List Part) → IsList p i M cs → IsList p i N ds → (M ≡ N) × (cs ≡ ds)
same_list p i M N cs ds f g =
    let types = same_Some f.type g.type (sym f.there ∙ g.there) in
    let kinds : members f.list f.marked cs ≡ members g.list g.marked ds =
    sym f.is ∙ ap (λ (t : Type'). t.kind) types ∙ g.is in
    let is_so = subst (λ (t : Type'). IsAssignment p t.assignment M f.assigns) types f.is_so in
    (one_home p g.type.assignment M N f.assigns g.assigns is_so g.is_so, ap parts_of kinds)

pub at_list : (p : Program) (i : ℕ) (M N : Name) (cs ds : List Part) (vs : List (Option AbstractValue))
    → IsList p i M cs
    → AreDefaultsOf p M cs vs
    → IsList p i N ds
    → AreDefaultsOf p N ds vs
at_list p i M N cs ds vs f a g =
    let same = same_list p i M N cs ds f g in
    subst (λ X. AreDefaultsOf p X ds vs) same.0 (subst (λ xs. AreDefaultsOf p M xs vs) same.1 a)

-- a type that isn't a list has none
pub no_list : (p : Program) (i : ℕ) (t : Type') (k : WrittenKind) (vs : List (Option AbstractValue))
    → slice_get p.types i ≡ Some t
    → t.kind ≡ k
    → ((l : ListKind) (m : _) (cs : List Part) → k ≡ members l m cs → ⊥)
    → AreDefaultsAt p i vs
no_list p i t k vs e q none M cs g =
    let types = same_Some t g.type (sym e ∙ g.there) in
    absurd (none g.list g.marked cs (sym q ∙ ap (λ (x : Type'). x.kind) types ∙ g.is))

-- ---- tables

pub tabled_typed : (p : Program) (n i : ℕ) (table : List (List (Option AbstractValue)))
    → AreTabled p n table
    → i < n
    → HasTypedDefaults p i
tabled_typed p n i table t l M cs m c is e =
    let long = t.as_many in
    let vs = there_is table i (omega (arith, l, long)) in
    let all = t.each i vs.0 vs.1 M cs is in
    let w = slice_get_within cs m c e in
    let many = all.as_many in
    let v = there_is vs.0 m (omega (arith, w, many)) in
    is_typed p M c v.0 (all.each m c v.0 e v.1)

pub all_typed : (p : Program) (table : List (List (Option AbstractValue)))
    → AreTabled p (length p.types) table
    → AreTypedDefaults p
all_typed p table t i u M x l m cs c there home is s =
    tabled_typed p (length p.types) i table t (slice_get_within p.types i u there) M cs s.0 c
    (record { type = u; there = there; assigns = x; is_so = home; list = l; marked = m; is = is })
    s.1

-- ---- one core

-- the DEFAULTs of a type are those of its core
pub of_core : (p : Program) (i core : ℕ) (vs : List (Option AbstractValue)) (table : List (List (Option AbstractValue)))
    → AreTabled p (length p.types) table
    → IsUnderlying p.types i core
    → slice_get table core ≡ Some vs
    → HasDefaults p i vs
of_core p i core vs table t is e other u M x l m cs chain there home kind =
    let same = one_core p.types i other core chain is in
    t.each core vs e M cs (record {
      type = u;
      there = sym (ap (slice_get p.types) same) ∙ there;
      assigns = x;
      is_so = home;
      list = l;
      marked = m;
      is = kind;
    })

-- ---- types

pub settled : (p : Program) (n : ℕ) (rs : List Resolved)
    → AreEach (IsResolved p) n rs
    → n ≡ length p.types
    → IsProgramSchema p rs
settled p n rs s e = record {
  types = record { as_many = s.as_many ∙ e; each = λ i r f. (s.each i r f).is };
  each = λ i r f. (s.each i r f).settled;
}

-- ---- the faults

pub reports_more : (P Q : ValueFault → Type 0) (w : Wrong) → ((f : ValueFault) → P f → Q f) → Reports P w → Reports Q w
reports_more P Q Memory more t = tt
reports_more P Q (At f) more t = more f t

pub err_more : {A : Type 0} (r : Result A Wrong) (P Q : ValueFault → Type 0) → ((f : ValueFault) → P f → Q f)
    → IfErr r (Reports P)
    → IfErr r (Reports Q)
err_more (Ok a) P Q more t = tt
err_more (Err w) P Q more t = reports_more P Q w more t

-- a fault is the first one of the list that is type i
pub first_at : (w : WrittenProgram) (i : ℕ) (M : Name) (cs : List ListMember) (f : ValueFault)
    → IsList w.program i M (map part_of cs)
    → IsWrittenWith w i cs
    → IsFirstIn w M cs f
    → IsFirstAt w i f
first_at w i M cs f l t s = record { within = M; parts = cs; list = l; text = t; first = s }

-- type i, whose shape is known, is written with these members
pub written_with : (w : WrittenProgram) (i : ℕ) (node : TypeNode) (l : ListKind) (m : Bool) (v : Vec ListMember Global)
    (cs : List ListMember)
    → slice_get w.types i ≡ Some node
    → node.shape ≡ shapes.Members l m v
    → cs ≡ v.items
    → IsWrittenWith w i cs
written_with w i node l m v cs e k q = record { node = node; there = e; members = ap list_members k ∙ sym q }

-- written type i, whose shape is known, is a list
pub list_is : (p : Program) (i : ℕ) (w : TypeNode) (M x : Name) (l : ListKind) (m : Bool) (cs : List Part)
    → slice_get p.types i ≡ Some (type_of w)
    → kind_of w.shape ≡ members l m cs
    → IsAssignment p w.assignment M x
    → IsList p i M cs
list_is p i w M x l m cs e k a = record {
  type = type_of w;
  there = e;
  assigns = x;
  is_so = a;
  list = l;
  marked = m;
  is = k;
}

one_below : (n : ℕ) (cs : List Part) (j : ℕ) (c : Part) → All (λ d. d.ty < n) cs → slice_get cs j ≡ Some c → c.ty < n
one_below n [] j c a e = absurd (none-some c e)
one_below n (d ∷ cs) zero c a e = subst (λ (x : Part). x.ty < n) (same_Some d c e) (All-head (λ (x : Part). x.ty < n) d cs a)
one_below n (d ∷ cs) (suc j) c a e = one_below n cs j c (All-tail (λ (x : Part). x.ty < n) d cs a) e

-- its components' types are there
pub types_there : (p : Program) (i : ℕ) (M : Name) (cs : List Part) → IsLinked p.types → IsList p i M cs → HaveTypes (length p.types) cs
types_there p i M cs linked l j c e =
    one_below (length p.types) cs j c
    (linked.parts i l.list l.marked cs l.type.default l.type.place (record {
      constraints = l.type.constraints;
      assignment = l.type.assignment;
      found = l.there ∙ ap (λ (x : WrittenKind). Some (record { kind = x; constraints = l.type.constraints; default = l.type.default; place = l.type.place; assignment = l.type.assignment })) l.is;
    }))
    e
