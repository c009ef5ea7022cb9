-- References lead to one notation of the text, or to one name without a value.
use Rattle.std.proofs.Common.{◌≡◌, ℕ, ◌≤◌, refl, sym, ap, subst, ◌∙◌, Some, arith}
use Rattle.std.specs.Prelude.{List, ◌∷◌, Option, slice_get, length}
use Rattle.trees.specs.Values.{Name, Tree, reference}
use Rattle.trees.specs.declared.value.ValueSyntax.{ValueSyntax}
use Rattle.names.specs.declared.scope.Assigned.{Assigned}
use Rattle.names.specs.declared.scope.Assigned.TheVariants as assigned
use Rattle.names.specs.declared.sources.ValueAt.{ValueAt}
use Rattle.names.specs.Modules.{OccursIn}
use Rattle.names.specs.Names.{Module, Refers, IsApart}
use Rattle.type_table.specs.Table.{WrittenKind}
use Rattle.resolve.specs.Program.{Program, WrittenProgram}
use Rattle.range_ends.specs.Ends.{IsTypeOfKind, IsValueAt}
use Rattle.value_notations.specs.References.{IsNamed, IsOwn, IsLast}
use Rattle.value_notations.specs.References as last
use Rattle.value_notations.specs.Written.{IsNotationOf, IsReachedNotation, IsLastAt}
use Rattle.value_notations.specs.Written as written
use Rattle.value_notations.specs.Wrong.{OpenedPath, HasNoMeaning, IsCircularName}
use Rattle.value_notations.specs.Wrong as wrong
use Rattle.value_notations.specs.proving.Places.{one_some}
use Rattle.value_notations.specs.proving.Following.{Same, one_kind, one_last, one_value_meant, one_module}
use Rattle.typed_values.specs.Faults.{IsLostAt, IsCircularNameIn}

-- ---- the text

grown : {w : WrittenProgram} {os : List ℕ} {n : ValueSyntax} {ps : List ℕ} {l : ValueSyntax} → IsReachedNotation w os n ps l → length os ≤ length ps
grown written.itself = omega arith
grown (written.assigned h s) = let few = grown h in omega (arith, few)

one_notation : {w : WrittenProgram} {l m : ValueSyntax} (i j : ℕ) → i ≡ j → IsNotationOf w i l → IsNotationOf w j m → l ≡ m
one_notation {w} i j e s t =
    let values = one_some (slice_get w.values i) s.value t.value s.there
    (subst (λ (x : ℕ). slice_get w.values x ≡ Some t.value) (sym e) t.there) in
    sym s.notation ∙ ap (λ (v : ValueAt). v.syntax) values ∙ t.notation

one_text : {w : WrittenProgram} {os ps qs : List ℕ} {n l m : ValueSyntax} → ps ≡ qs →
    IsReachedNotation w os n ps l → IsReachedNotation w os n qs m → l ≡ m
one_text e written.itself written.itself = refl
one_text e written.itself (written.assigned h s) =
    let few = grown h in let long = ap length e in absurd (omega (arith, few, long))
one_text e (written.assigned h s) written.itself =
    let few = grown h in let long = ap length e in absurd (omega (arith, few, long))
one_text e (written.assigned {i = i} h s) (written.assigned {i = j} g t) =
    let same : i ≡ j = cc in one_notation i j same s t

-- ---- where no reference leads on

abbrev IsStuck : Program → WrittenKind → List ℕ → Name → Tree → Type 0
IsStuck p k ps K l = (i : ℕ) (q : Option Name) (x : Name) →
    l ≡ reference q x →
    (IsNamed k q x → ⊥) →
    Refers p.modules K q x (assigned.Value i) →
    (OccursIn ps i → ⊥) →
    ⊥

moved_refers : {ms : List (Name × Module)} {M N x y : Name} {q r : Option Name} {a : Assigned} → M ≡ N →
    reference q x ≡ reference r y → Refers ms N r y a → Refers ms M q x a
moved_refers {ms} {M} {N} {x} {y} {q} {r} {a} e f h =
    let b : q ≡ r = cc in
    let c : x ≡ y = cc in
    subst (λ (z : Name). Refers ms z q x a) (sym e)
    (subst (λ (z : Name). Refers ms N q z a) (sym c) (subst (λ (z : Option Name). Refers ms N z y a) (sym b) h))

own_stuck : (p : Program) (k : WrittenKind) (ps : List ℕ) (K : Name) (l : Tree) → IsOwn k l → IsStuck p k ps K l
own_stuck p k ps K l o = λ i q x e none r f. none (subst (λ (z : Tree). IsOwn k z) e o)

lost_stuck : {p : Program} {k : WrittenKind} {os : List ℕ} {M : Name} {n : Tree} {q : Option Name} {x : Name}
    (s : HasNoMeaning p k os M n q x) → IsStuck p k s.opened s.within (reference q x)
lost_stuck s = λ i r y e none h f. s.no_value i (moved_refers refl e h)

round_stuck : {p : Program} {k : WrittenKind} {os : List ℕ} {M : Name} {n : Tree} {i : ℕ} → IsApart p.modules →
    (c : IsCircularName p k os M n i) → IsStuck p k c.opened c.within (reference c.prefix c.name)
round_stuck {p} {i = i} apart c = λ j r y e none h f.
    f (subst (λ (z : ℕ). OccursIn c.opened z) (one_value_meant p.modules c.within c.prefix c.name i j apart c.refers
    (moved_refers refl e h)) c.again)

moved_path : {p : Program} {k : WrittenKind} {os ps : List ℕ} {K N O : Name} {l u w : Tree} (i j : ℕ) → i ≡ j → N ≡ O →
    u ≡ w → OpenedPath p k (j ∷ os) O w ps K l → OpenedPath p k (i ∷ os) N u ps K l
moved_path {p} {k} {os} {ps} {K} {N} {O} {l} {u} {w} i j e f g d =
    subst (λ (z : Tree). OpenedPath p k (i ∷ os) N z ps K l) (sym g)
    (subst (λ (z : Name). OpenedPath p k (i ∷ os) z w ps K l) (sym f)
    (subst (λ (z : ℕ). OpenedPath p k (z ∷ os) O w ps K l) (sym e) d))

one_opened : {p : Program} {k : WrittenKind} {os ps qs : List ℕ} {M K L : Name} {n l m : Tree} → IsApart p.modules →
    OpenedPath p k os M n ps K l → IsStuck p k ps K l → OpenedPath p k os M n qs L m → IsStuck p k qs L m →
    Same ps K l qs L m
one_opened apart wrong.there x wrong.there y = record { opened = refl; within = refl; notation = refl }
one_opened apart wrong.there x (wrong.onward {q = q} {x = z} i none r f a h) y = absurd (x i q z refl none r f)
one_opened apart (wrong.onward {q = q} {x = z} i none r f a h) x wrong.there y = absurd (y i q z refl none r f)
one_opened {p} {M = M} apart (wrong.onward {N = N} {q = q} {x = z} {m = u} i none r f a h) x
    (wrong.onward {N = O} {m = w} j without t g b d) y =
    let same = one_value_meant p.modules M q z i j apart r t in
    let at = one_module p i N O u w a (subst (λ (c : ℕ). IsValueAt p c O w) (sym same) b) in
    one_opened apart h x (moved_path i j same at.0 at.1 d) y

last_opened : {p : Program} {k : WrittenKind} {os ps : List ℕ} {M K : Name} {n l : Tree} → IsLast p k os M n ps K l →
    OpenedPath p k os M n ps K l × IsOwn k l
last_opened (last.own o) = (wrong.there, o)
last_opened (last.referred i none r f a d) = let e = last_opened d in (wrong.onward i none r f a e.0, e.1)

-- ---- where references lead to

-- the same values being read, module and notation of the text
pub record IsOneEnd (ps : List ℕ) (K : Name) (l : ValueSyntax) (qs : List ℕ) (L : Name) (m : ValueSyntax) : Type 0 where
  pub opened : ps ≡ qs
  pub within : K ≡ L
  pub notation : l ≡ m

pub one_end : {w : WrittenProgram} {k : WrittenKind} {os ps qs : List ℕ} {M K L : Name} {n l m : ValueSyntax} →
    IsApart w.program.modules → IsLastAt w k os M n ps K l → IsLastAt w k os M n qs L m → IsOneEnd ps K l qs L m
one_end apart d e =
    let s = one_last apart d.last e.last in
    record { opened = s.opened; within = s.within; notation = one_text s.opened d.text e.text }

lost_last : {p : Program} {k : WrittenKind} {os ps : List ℕ} {M K : Name} {n l : Tree} {q : Option Name} {x : Name} →
    IsApart p.modules → HasNoMeaning p k os M n q x → IsLast p k os M n ps K l → ⊥
lost_last {p} {k} {ps = ps} {K = K} {l = l} apart s d =
    let e = last_opened d in
    let same = one_opened apart s.chain (lost_stuck s) e.0 (own_stuck p k ps K l e.1) in
    s.none (subst (λ (z : Tree). IsOwn k z) (sym same.notation) e.1)

round_last : {p : Program} {k : WrittenKind} {os ps : List ℕ} {M K : Name} {n l : Tree} {i : ℕ} →
    IsApart p.modules → IsCircularName p k os M n i → IsLast p k os M n ps K l → ⊥
round_last {p} {k} {ps = ps} {K = K} {l = l} apart c d =
    let e = last_opened d in
    let same = one_opened apart c.chain (round_stuck apart c) e.0 (own_stuck p k ps K l e.1) in
    c.none (subst (λ (z : Tree). IsOwn k z) (sym same.notation) e.1)

lost_round_at : {p : Program} {k : WrittenKind} {os : List ℕ} {M : Name} {n : Tree} {i : ℕ} {q : Option Name}
    {x : Name} → IsApart p.modules → HasNoMeaning p k os M n q x → IsCircularName p k os M n i → ⊥
lost_round_at {i = i} apart s c =
    let same = one_opened apart s.chain (lost_stuck s) c.chain (round_stuck apart c) in
    s.no_value i (moved_refers same.within same.notation c.refers)

one_lost_at : {w : WrittenProgram} {k : WrittenKind} {os : List ℕ} {M K L : Name} {n l m : ValueSyntax} →
    IsApart w.program.modules → IsLostAt w k os M n K l → IsLostAt w k os M n L m → (K ≡ L) × (l ≡ m)
one_lost_at apart a b =
    let s = a.meant.lost in
    let t = b.meant.lost in
    let same = one_opened apart s.chain (lost_stuck s) t.chain (lost_stuck t) in
    (sym a.meant.within ∙ same.within ∙ b.meant.within, one_text same.opened a.text b.text)

one_round_at : {w : WrittenProgram} {k : WrittenKind} {os : List ℕ} {M K L : Name} {n l m : ValueSyntax} (i j : ℕ) →
    IsApart w.program.modules → IsCircularNameIn w k os M n i K l → IsCircularNameIn w k os M n j L m →
    (i ≡ j) × (K ≡ L) × (l ≡ m)
one_round_at {w} i j apart a b =
    let s = a.meant.round in
    let t = b.meant.round in
    let same = one_opened apart s.chain (round_stuck apart s) t.chain (round_stuck apart t) in (
      one_value_meant w.program.modules s.within s.prefix s.name i j apart s.refers
          (moved_refers same.within same.notation t.refers),
      sym a.meant.within ∙ same.within ∙ b.meant.within,
      one_text same.opened a.text b.text,
    )

-- ---- under the one kind of a type

pub lost_alone : {p : Program} {i : ℕ} {k j : WrittenKind} {os ps : List ℕ} {M K : Name} {n l : Tree} {q : Option Name}
    {x : Name} → IsApart p.modules → IsTypeOfKind p.types i k → HasNoMeaning p k os M n q x →
    IsTypeOfKind p.types i j → IsLast p j os M n ps K l → ⊥
lost_alone {p} {i} {k} {j} {os} {ps} {M} {K} {n} {l} apart a h b d =
    lost_last apart h (subst (λ (z : WrittenKind). IsLast p z os M n ps K l) (one_kind p.types i j k b a) d)

pub round_alone : {p : Program} {i m : ℕ} {k j : WrittenKind} {os ps : List ℕ} {M K : Name} {n l : Tree} →
    IsApart p.modules → IsTypeOfKind p.types i k → IsCircularName p k os M n m →
    IsTypeOfKind p.types i j → IsLast p j os M n ps K l → ⊥
round_alone {p} {i} {m} {k} {j} {os} {ps} {M} {K} {n} {l} apart a h b d =
    round_last apart h (subst (λ (z : WrittenKind). IsLast p z os M n ps K l) (one_kind p.types i j k b a) d)

pub lost_round : {p : Program} {i m : ℕ} {k j : WrittenKind} {os : List ℕ} {M : Name} {n : Tree} {q : Option Name}
    {x : Name} → IsApart p.modules → IsTypeOfKind p.types i k → HasNoMeaning p k os M n q x →
    IsTypeOfKind p.types i j → IsCircularName p j os M n m → ⊥
lost_round {p} {i} {m} {k} {j} {os} {M} {n} apart a h b c =
    lost_round_at apart h (subst (λ (z : WrittenKind). IsCircularName p z os M n m) (one_kind p.types i j k b a) c)

pub one_lost : {w : WrittenProgram} {i : ℕ} {k j : WrittenKind} {os : List ℕ} {M K L : Name} {n l m : ValueSyntax} →
    IsApart w.program.modules → IsTypeOfKind w.program.types i k → IsLostAt w k os M n K l →
    IsTypeOfKind w.program.types i j → IsLostAt w j os M n L m → (K ≡ L) × (l ≡ m)
one_lost {w} {i} {k} {j} {os} {M} {K} {L} {n} {l} {m} apart a h b g =
    one_lost_at apart h (subst (λ (z : WrittenKind). IsLostAt w z os M n L m) (one_kind w.program.types i j k b a) g)

pub one_round : {w : WrittenProgram} {i : ℕ} {k j : WrittenKind} {os : List ℕ} {M K L : Name} {n l m : ValueSyntax}
    (u v : ℕ) → IsApart w.program.modules → IsTypeOfKind w.program.types i k → IsCircularNameIn w k os M n u K l →
    IsTypeOfKind w.program.types i j → IsCircularNameIn w j os M n v L m → (u ≡ v) × (K ≡ L) × (l ≡ m)
one_round {w} {i} {k} {j} {os} {M} {K} {L} {n} {l} {m} u v apart a h b g =
    one_round_at u v apart h
    (subst (λ (z : WrittenKind). IsCircularNameIn w z os M n v L m) (one_kind w.program.types i j k b a) g)
