-- A notation is read to its end.
use Rattle.std.proofs.Common.{◌≡◌, ◌∙◌, ◌≤◌, ◌<◌, ◌-◌, ℕ, zero, suc, List, length, refl, sym, ap, subst, arith, Result, Ok, Err, OnOk}
use Rattle.asn_base.specs.Abstract.{AbstractValue}
use Rattle.trees.specs.declared.value.ValueSyntax.{ValueSyntax}
use Rattle.trees.specs.Values.{Name, Tree}
use Rattle.type_table.specs.Table.{WrittenKind, Part}
use Rattle.resolve.specs.Program.{Program, WrittenProgram}
use Rattle.range_ends.specs.Ends.{IsTypeOfKind}
use Rattle.value_notations.specs.Wrong.{OpenedPath}
use Rattle.typed_values.specs.declared.levels.Defaults.{Defaults}
use Rattle.typed_values.specs.declared.fault.ValueFault.{ValueFault}
use Rattle.typed_values.specs.Faults.{IsRightValueFault}
use Rattle.typed_values.specs.proving.Reading.{Answers, EndsWith, HasEnded, IsEnded, IsLater, IsRead, Makes}
use Rattle.typed_values.specs.proving.Turns.{AreLower}
use Rattle.value_notations.specs.Values.{MayLackValue}
use Rattle.values.specs.Allowing.{Allows, AllowsCode}
use Rattle.typed_values.specs.Known.{AreKnown}
use Rattle.typed_values.specs.declared.named.NamedValues.{NamedValues}
use Rattle.typed_values.proofs.Found.{found_later, later_same, lower_on, lower_same}
use Rattle.typed_values.proofs.Tables.{known_as, true_as}

pub ended_as : {p q : Program} {levels before left after : ℕ} {os rs ps : List ℕ} {M : Name} {i : ℕ} {n : Tree}
    {t : Defaults} {v : AbstractValue} → q ≡ p → rs ≡ os → left ≡ before → IsEnded q levels left after rs M i n ps t v →
    IsEnded p levels before after os M i n ps t v
ended_as {p} {q} {levels} {before} {left} {after} {os} {rs} {ps} {M} {i} {n} {t} {v} e f g h =
    subst (λ (x : Program). IsEnded x levels before after os M i n ps t v) e
    (subst (λ zs. IsEnded q levels before after zs M i n ps t v) f
    (subst (λ k. IsEnded q levels k after rs M i n ps t v) g h))

pub read_as : {p q : Program} {levels before left after : ℕ} {os : List ℕ} {M : Name} {i : ℕ} {n : Tree} {t : Defaults}
    {v : AbstractValue} → q ≡ p → left ≡ before → IsRead q levels left after os M i n t v →
    IsRead p levels before after os M i n t v
read_as {p} {q} {levels} {before} {left} {after} {os} {M} {i} {n} {t} {v} e g h =
    subst (λ (x : Program). IsRead x levels before after os M i n t v) e
    (subst (λ k. IsRead q levels k after os M i n t v) g h)

pub has_ended : {A : Type 0} {shows : A → AbstractValue → Type 0} {p : Program} {levels before after count i : ℕ}
    {os ps : List ℕ} {M : Name} {n : Tree} {t : Defaults} {x : A} → length os ≡ count →
    EndsWith shows p levels before after os M i n ps t x → HasEnded p levels before after count i ps t
has_ended {os = os} {M = M} {n = n} e h = record {
  opened = os;
  many = e;
  within = M;
  notation = n;
  value = h.value;
  ended = h.ended;
}

pub ends_as : {A : Type 0} {shows : A → AbstractValue → Type 0} {p q : Program} {levels before left after : ℕ}
    {os rs ps : List ℕ} {M : Name} {i : ℕ} {n : Tree} {t : Defaults} {x : A} → q ≡ p → rs ≡ os → left ≡ before →
    EndsWith shows q levels left after rs M i n ps t x → EndsWith shows p levels before after os M i n ps t x
ends_as e f g h = record { value = h.value; shown = h.shown; ended = ended_as e f g h.ended }

pub ends_at : {A : Type 0} {shows : A → AbstractValue → Type 0} {p : Program} {levels before after : ℕ}
    {os ps qs : List ℕ} {M : Name} {i : ℕ} {n : Tree} {t : Defaults} {x : A} → qs ≡ ps →
    EndsWith shows p levels before after os M i n ps t x → EndsWith shows p levels before after os M i n qs t x
ends_at {A} {shows} {p} {levels} {before} {after} {os} {ps} {qs} {M} {i} {n} {t} {x} e h =
    subst (λ zs. EndsWith shows p levels before after os M i n zs t x) (sym e) h

-- the last notation of references is read
pub last_ends : {A : Type 0} {shows : A → AbstractValue → Type 0} {p : Program} {levels before after : ℕ}
    {os ps : List ℕ} {M K : Name} {i : ℕ} {n l : Tree} {k : WrittenKind} {t : Defaults} {x : A} →
    IsTypeOfKind p.types i k → OpenedPath p k os M n ps K l → Makes shows p levels before after ps K i l t x →
    EndsWith shows p levels before after os M i n ps t x
last_ends t h m = record {
  value = m.value;
  shown = m.shown;
  ended = record { kind = _; is = t; within = _; last = _; path = h; read = m.read };
}

pub one_less : {a : ℕ} → 0 < a → suc (a - 1) ≡ a
one_less l = omega (arith, l)

pub makes_more : {A : Type 0} {shows : A → AbstractValue → Type 0} {p : Program} {levels left after : ℕ} {os : List ℕ}
    {M : Name} {i : ℕ} {n : Tree} {t : Defaults} {x : A} → 0 < levels → 0 < left →
    Makes shows p (suc (levels - 1)) (suc (left - 1)) after os M i n t x → Makes shows p levels left after os M i n t x
makes_more {A} {shows} {p} {levels} {left} {after} {os} {M} {i} {n} {t} {x} l m h =
    subst (λ a. Makes shows p a left after os M i n t x) (one_less l)
    (subst (λ b. Makes shows p (suc (levels - 1)) b after os M i n t x) (one_less m) h)

pub fault_as : {v w : WrittenProgram} {levels left before : ℕ} {os rs : List ℕ} {M : Name} {i : ℕ} {n : ValueSyntax}
    {f : ValueFault} → v ≡ w → rs ≡ os → left ≡ before → IsRightValueFault v levels left rs M i n f →
    IsRightValueFault w levels before os M i n f
fault_as {v} {w} {levels} {left} {before} {os} {rs} {M} {i} {n} {f} e g d h =
    subst (λ (x : WrittenProgram). IsRightValueFault x levels before os M i n f) e
    (subst (λ zs. IsRightValueFault v levels before zs M i n f) g
    (subst (λ k. IsRightValueFault v levels k rs M i n f) d h))

-- the same of what is returned
pub answers_as : {A : Type 0} (shows : A → AbstractValue → Type 0) {v w : WrittenProgram} (levels : ℕ) {left before : ℕ}
    (after : ℕ) {os rs : List ℕ} (M : Name) (i : ℕ) (n : ValueSyntax) (t : Defaults) (r : Result A ValueFault) → v ≡ w →
    rs ≡ os → left ≡ before → Answers shows v levels left after rs M i n t r → Answers shows w levels before after os M i n t r
answers_as {A} shows {v} {w} levels {left} {before} after {os} {rs} M i n t r e g d h =
    subst (λ (x : WrittenProgram). Answers shows x levels before after os M i n t r) e
    (subst (λ zs. Answers shows v levels before after zs M i n t r) g
    (subst (λ k. Answers shows v levels k after rs M i n t r) d h))

pub ok_then : {A E : Type 0} {P Q : Type 0} (r : Result A E) → OnOk r P → (P → Q) → OnOk r Q
ok_then (Ok x) h go = go h
ok_then (Err e) h go = h

pub some_left : (a : ℕ) → (a ≡ 0 → ⊥) → 0 < a
some_left zero f = absurd (f refl)
some_left (suc a) f = omega arith

pub not_none : {a : ℕ} → 0 < a → a ≡ 0 → ⊥
not_none l e = omega (arith, l, e)

pub later_then : {t w : Defaults} (u : Defaults) {lowest latest : ℕ} → AreLower t.named.turns.items u.named.turns.items →
    AreLower u.named.turns.items w.named.turns.items → lowest ≡ t.lowest → latest ≡ t.named.latest → w.lowest ≤ lowest →
    latest ≤ w.named.latest → IsLater t w
later_then {t} {w} u e g a b l m = record {
  lowest = omega (arith, a, l);
  latest = omega (arith, b, m);
  turns = lower_on e g;
}

-- the counts of a DEFAULT end, and those before it go on
pub later_default : {t u w x : Defaults} → u.named ≡ t.named → IsLater u w → x.named ≡ w.named →
    x.lowest ≤ t.lowest → IsLater t x
later_default {t} {u} {w} {x} f g h l = record {
  lowest = l;
  latest = subst (λ z. t.named.latest ≤ z.latest) (sym h) (subst (λ z. z.latest ≤ w.named.latest) f g.latest);
  turns = subst (λ z. AreLower t.named.turns.items z.turns.items) (sym h)
      (subst (λ z. AreLower z.turns.items w.named.turns.items) f g.turns);
}

pub later_named : {t x : Defaults} → x.named ≡ t.named → x.lowest ≤ t.lowest → IsLater t x
later_named {t} {x} h l = later_default {t = t} {u = t} {w = t} {x = x} refl (later_same t) h l

pub lack_in : {p q : Program} {levels : ℕ} {N : Name} {c : Part} → q ≡ p →
    MayLackValue p (Allows p) (AllowsCode p) levels N c → MayLackValue q (Allows q) (AllowsCode q) levels N c
lack_in {p} {q} {levels} {N} {c} e h =
    subst (λ (x : Program). MayLackValue x (Allows x) (AllowsCode x) levels N c) (sym e) h

-- ---- turns are counted

pub lower_named : (t u x : NamedValues) → x.turns ≡ u.turns → u ≡ t → AreLower t.turns.items x.turns.items
lower_named t u x e f =
    subst (λ z. AreLower z.turns.items x.turns.items) f
    (subst (λ z. AreLower u.turns.items z.items) (sym e) (lower_same u.turns.items))

pub later_passed : {t x : Defaults} {u : NamedValues} → x.named.turns ≡ u.turns → u ≡ t.named → x.lowest ≤ t.lowest →
    u.latest ≤ x.named.latest → IsLater t x
later_passed {t} {x} {u} e f l m = record {
  lowest = l;
  latest = subst (λ z. z.latest ≤ x.named.latest) f m;
  turns = lower_named t.named u x.named e f;
}

pub known_passed : {p : Program} {t x : Defaults} {u : NamedValues} → x.levels ≡ t.levels → x.named.turns ≡ u.turns →
    x.named.entries ≡ u.entries → u ≡ t.named → x.chains ≡ t.chains → AreKnown p t → AreKnown p x
known_passed {t = t} {x = x} {u = u} l e g f c k =
    let lower = lower_named t.named u x.named e f in
    known_as l c lower (true_as t.named x.named (g ∙ ap (λ z. z.entries) f) lower k.named) k

pub read_on : {p : Program} {levels before left after : ℕ} {os : List ℕ} {M : Name} {i : ℕ} {n : Tree} {t u : Defaults}
    {v : AbstractValue} → IsLater t u → left ≡ after → IsRead p levels before left os M i n t v →
    IsRead p levels before after os M i n u v
read_on {p} {levels} {before} {left} {after} {os} {M} {i} {n} {t} {u} {v} g e h =
    subst (λ k. IsRead p levels before k os M i n u v) e (found_later g h)
