-- Named values that a table knows.
use Rattle.std.proofs.Common.{◌≡◌, ◌-◌, ◌≤◌, ℕ, List, sym, subst, arith}
use Rattle.asn_base.specs.Abstract.{AbstractValue}
use Rattle.trees.specs.declared.value.ValueSyntax.{ValueSyntax}
use Rattle.trees.specs.Values.{Name, Tree}
use Rattle.type_table.specs.Table.{WrittenKind}
use Rattle.resolve.specs.Program.{Program, WrittenProgram}
use Rattle.range_ends.specs.Ends.{IsTypeOfKind}
use Rattle.value_notations.specs.proving.Next.{IsNameOf}
use Rattle.typed_values.specs.declared.levels.Defaults.{Defaults}
use Rattle.typed_values.specs.declared.named.NamedValue.{NamedValue}
use Rattle.typed_values.specs.declared.naming.Led.{Led}
use Rattle.typed_values.specs.proving.Reading.{CanStandFor, EndsWith, IsLed, IsLedTo, IsRead}
use Rattle.typed_values.specs.proving.Turns.{AreLower}
use Rattle.typed_values.proofs.Absences.{value_at_more}
use Rattle.typed_values.proofs.Closing.{name_stands}
use Rattle.typed_values.proofs.Found.{by_lower}

pub stands_for : {p : Program} {turns os : List ℕ} {levels nodes i number : ℕ} {e : NamedValue} {k : WrittenKind} {K : Name}
    {l : Tree} (s : CanStandFor p turns os levels nodes i number e) → IsTypeOfKind p.types i k → IsNameOf p k K l number →
    (u : Defaults) → AreLower turns u.named.turns.items → u.lowest ≤ levels - e.levels → e.latest ≤ u.named.latest →
    IsRead p levels nodes (nodes - e.nodes) os K i l u s.comes.value
stands_for {p} {turns} {os} {levels} {nodes} {i} {number} {e} {k} {K} {l} s t a u g w x =
    subst (λ j. IsRead p levels nodes (nodes - e.nodes) os K j l u s.comes.value) s.type_is record {
      named = s.comes.named;
      by = by_lower s.comes.named g x s.comes.by;
      apart = λ y o h.
          let b = s.comes.by y h in
          let c = s.later y b.0 o b.1 in
          let d = b.2 in
          omega (arith, c, d);
      holds = λ m qs y z. record {
        is_so = name_stands (subst (λ j. IsTypeOfKind p.types j k) (sym s.type_is) t)
            (subst (λ b. IsNameOf p k K l b) (sym s.number_is) a) (λ o. z e.number o s.comes.itself) s.comes.there
            (s.comes.holds qs z);
        value = value_at_more e.levels m (let c = s.levels_left in omega (arith, w, y, c)) s.comes.shaped;
        counted = let b = s.comes.counted in let c = s.nodes_left in omega (arith, b, c);
      };
    }

pub known_ends : {A : Type 0} {shows : A → AbstractValue → Type 0} {p : Program} {turns os ps : List ℕ}
    {levels nodes i : ℕ} {k : WrittenKind} {M : Name} {n : Tree} {e : NamedValue} {x : A} →
    IsTypeOfKind p.types i k → IsLedTo p turns levels nodes k os M i n ps e → ((v : AbstractValue) → shows x v) →
    (u : Defaults) → AreLower turns u.named.turns.items → u.lowest ≤ levels - e.levels → e.latest ≤ u.named.latest →
    EndsWith shows p levels nodes (nodes - e.nodes) os M i n ps u x
known_ends t h s u g w x = record {
  value = h.is_so.comes.value;
  shown = s h.is_so.comes.value;
  ended = record {
    kind = _;
    is = t;
    within = h.within;
    last = h.last;
    path = h.path;
    read = stands_for h.is_so t h.named u g w x;
  };
}

pub led_as : {A : Type 0} (shows : A → AbstractValue → Type 0) (w : WrittenProgram) (turns : List ℕ) (levels nodes : ℕ)
    (k : WrittenKind) (os : List ℕ) (M : Name) (i : ℕ) (n : ValueSyntax) (ps : List ℕ) (l m : Led A) → l ≡ m →
    IsLed shows w turns levels nodes k os M i n ps l → IsLed shows w turns levels nodes k os M i n ps m
led_as {A} shows w turns levels nodes k os M i n ps l m q h =
    subst (λ (z : Led A). IsLed shows w turns levels nodes k os M i n ps z) q h
