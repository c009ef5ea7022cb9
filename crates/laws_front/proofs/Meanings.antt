-- What names and notations mean in accepted texts.
use Rattle.std.proofs.Common.{arith, ◌≡◌, ℕ, zero, suc, ◌<◌, List, [], ◌∷◌, Option, Some, None, Result, Ok, Err, length}
use Rattle.std.proofs.Common.{refl, sym, ap, subst}
use Rattle.std.specs.Prelude.{MatchResult, slice_get}
use Rattle.std.proofs.lemmas.Option.{none-some}
use Rattle.asn_base.specs.Abstract.{AbstractValue}
use Rattle.asn_base.specs.Typed.{IsValue}
use Rattle.asn_base.specs.Types.{Resolved}
use Rattle.trees.specs.declared.value.ValueSyntax.{ValueSyntax}
use Rattle.trees.specs.Values.{Name, Tree, tree_of}
use Rattle.names.specs.declared.scope.Assigned.{Assigned}
use Rattle.names.specs.declared.scope.Assigned.TheVariants as assigned
use Rattle.resolve.specs.Program.{Program, IsAssignment, IsWhole}
use Rattle.value_notations.specs.Notations.{Notation}
use Rattle.named_values.specs.front_end.Accepted.{HasTypes, IsCheckedProgram}
use Rattle.named_values.specs.front_end.ValueError.{DenotesValue}
use Rattle.named_values.specs.front_end.declared.modules.ValueError.{ValueError}
use Rattle.named_values.specs.front_end.declared.modules.ValueError.TheVariants as value_error
use Rattle.named_values.specs.messages.declared.fault.Fault.{Fault}
use Rattle.named_values.specs.messages.declared.fault.Fault.TheVariants as messages
use Rattle.named_values.specs.Given.{Given}
use Rattle.named_values.specs.Meant.{IsMeant, IsNotMeant}
use Rattle.named_values.specs.Named.{IsQualifiedName, TypeNamed, ValueNamed}
use Rattle.laws_front.specs.Calls.{IsMeantResult, IsTypeResult, IsTypedResult, IsValueResult}
use Rattle.laws_front.specs.Headline.{IsOneAssigned, IsOneValue}

-- the laws of names and notations
pub record Laws : Type 0 where
  pub names : (p : Program) (text : List ℕ) (a b : Assigned) → IsCheckedProgram p → IsQualifiedName p text a → IsQualifiedName p text b → a ≡ b
  pub values : (p : Program) (s : List Resolved) (M : Name) (i : ℕ) (n : Tree) (v : AbstractValue)
      → IsCheckedProgram p
      → HasTypes p s
      → DenotesValue p M i n v
      → IsValue s i v
  pub notations : (p : Program) (M : Name) (i : ℕ) (n : Tree) (v w : AbstractValue)
      → IsCheckedProgram p
      → Notation p [] M i n v
      → Notation p [] M i n w
      → v ≡ w
  pub meant : (p : Program) (first : List ℕ) (second : Given) (t u : ℕ) (v w : AbstractValue)
      → IsCheckedProgram p
      → IsMeant p first second t v
      → IsMeant p first second u w
      → (t ≡ u) × (v ≡ w)
  pub refused : (p : Program) (first : List ℕ) (second : Given) (t : ℕ) (v : AbstractValue) (e : Fault)
      → IsCheckedProgram p
      → IsMeant p first second t v
      → IsNotMeant p first second e
      → e ≡ messages.Memory

-- ---- an element that is there

at_place : {A : Type 0} (xs : List A) (i : ℕ) → i < length xs → (x : A) × (slice_get xs i ≡ Some x)
at_place [] i l = absurd (omega (arith, l))
at_place (x ∷ xs) zero l = (x, refl)
at_place (x ∷ xs) (suc i) l = at_place xs i (omega (arith, l))

-- an assignment that is there is one of a module that is there
assignment_at : (p : Program) (a : ℕ)
    → IsWhole p
    → a < length p.assignments
    → (M : Name) × (x : Name) × IsAssignment p a M x
assignment_at p a whole l =
    let g = at_place p.assignments a l in
    let h = at_place p.headers g.0.0 (whole.placed a g.0 g.1) in
    (h.0.0, g.0.1, record { owner = g.0.0; tags = h.0.1; assigned = g.1; header = h.1 })

module _ (laws : Laws) (p : Program) (s : List Resolved) (whole : IsWhole p) (kept : IsCheckedProgram p)
    (types : HasTypes p s) where
  pub as_one : (M : Name) (i : ℕ) (n : Tree) (v : AbstractValue) → DenotesValue p M i n v → IsOneValue p s M i n
  as_one M i n v h = record {
    value = v;
    is_so = h;
    is = laws.values p s M i n v kept types h;
    only = λ w k. laws.notations p M i n w v kept k h.is_so;
  }

  -- ---- names

  no_type : (name : List ℕ) (x : Option ℕ) (t : ℕ) → IsTypeResult p name x → TypeNamed p name t → x ≡ None → ⊥
  no_type name None t r n e = r.named t n
  no_type name (Some u) t r n e = none-some u (sym e)

  type_is : (name : List ℕ) (x : Option ℕ) (t : ℕ) → IsTypeResult p name x → TypeNamed p name t → x ≡ Some t
  type_is name None t r n = absurd (r.named t n)
  type_is name (Some u) t r n = ap Some (sym (r.only.only t n))

  type_there : (name : List ℕ) (t : ℕ) → TypeNamed p name t → t < length s
  type_there name t n =
      subst (λ k. t < k) (sym types.settled.types.as_many) (whole.names n.within n.name (assigned.Type t) n.means)

  pub type_found : (name : List ℕ) (x : Option ℕ) (t : ℕ)
      → IsTypeResult p name x
      → TypeNamed p name t
      → (x ≡ Some t) × (t < length s)
  type_found name x t r n = (type_is name x t r n, type_there name t n)

  pub type_missing : (name : List ℕ) (x : Option ℕ) (t : ℕ) → IsTypeResult p name x → TypeNamed p name t → x ≡ None → ⊥
  type_missing = no_type

  one_number : (i j : ℕ) → assigned.Value i ≡ assigned.Value j → i ≡ j
  one_number i j e = let q : i ≡ j = cc in q

  value_is : (name : List ℕ) (x : Option ℕ) (i : ℕ) → IsValueResult p name x → ValueNamed p name i → x ≡ Some i
  value_is name None i r n = absurd (r.named i n)
  value_is name (Some j) i r n =
      ap Some (one_number j i (laws.names p name (assigned.Value j) (assigned.Value i) kept r.named n))

  value_there : (name : List ℕ) (i : ℕ) → ValueNamed p name i → IsOneAssigned p s i
  value_there name i n =
      let v = at_place p.values i (whole.names n.within n.name (assigned.Value i) n.means) in
      let a = assignment_at p v.0.assignment whole (whole.valued i v.0 v.1).1 in
      let w = kept.asked.values i v.0 a.0 a.1 v.1 a.2 in
      record {
        value = v.0;
        there = v.1;
        within = a.0;
        assigns = a.1;
        assigned = a.2;
        one = as_one a.0 v.0.ty v.0.notation w.0 w.1;
      }

  pub value_found : (name : List ℕ) (x : Option ℕ) (i : ℕ)
      → IsValueResult p name x
      → ValueNamed p name i
      → (x ≡ Some i) × IsOneAssigned p s i
  value_found name x i r n = (value_is name x i r n, value_there name i n)

  -- ---- notations

  pub typed : (M : Name) (i : ℕ) (n : ValueSyntax) (x : Result AbstractValue ValueError) (v : AbstractValue)
      → IsTypedResult p M i n x
      → DenotesValue p M i (tree_of n) v
      → MatchResult x (λ w. w ≡ v) (λ e. e ≡ value_error.Memory)
  typed M i n (Ok w) v r h = laws.notations p M i (tree_of n) w v kept r.value.is_so h.is_so
  typed M i n (Err value_error.Memory) v r h = refl
  typed M i n (Err (value_error.Diagnosed t)) v r h = absurd (r.fault.none v h)

  pub meant : (first : List ℕ) (second : Given) (x : Result (ℕ × AbstractValue) Fault) (t : ℕ) (v : AbstractValue)
      → IsMeantResult p first second x
      → IsMeant p first second t v
      → MatchResult x (λ r. (r.0 ≡ t) × (r.1 ≡ v)) (λ e. e ≡ messages.Memory)
  meant first second (Ok (u, w)) t v r h = laws.meant p first second u t w v kept r.meant h
  meant first second (Err e) t v r h = laws.refused p first second t v e kept h r.refused

  pub meant_value : (first : List ℕ) (second : Given) (t : ℕ) (v : AbstractValue)
      → IsMeantResult p first second (Ok (t, v))
      → IsValue s t v
  meant_value first second t v r = laws.values p s r.meant.within t r.meant.notation v kept types r.meant.is_so
