-- A reader that goes on, with the same modules.
use Rattle.std.proofs.Common.{◌≡◌, ◌∙◌, ◌<◌, ◌≤◌, ℕ, List, ◌∷◌, length, refl, sym, subst, arith}
use Rattle.std.specs.Prelude.{ℤ}
use Rattle.trees.specs.Values.{Name}
use Rattle.type_table.specs.Table.{WrittenKind, Part}
use Rattle.resolve.specs.Program.{Program}
use Rattle.values.specs.Allowing.{Allows}
use Rattle.typed_values.specs.declared.named.NamedValue.{NamedValue}
use Rattle.typed_values.specs.declared.reader.NotationReader.{NotationReader}
use Rattle.typed_values.specs.Faults.{HasKindIn}
use Rattle.typed_values.specs.declared.chains.NameChain.{NameChain}
use Rattle.typed_values.specs.declared.chains.NameChains.{NameChains}
use Rattle.typed_values.specs.Chains.{AreLed}
use Rattle.typed_values.specs.Known.{IsListed, ComesTo}
use Rattle.typed_values.specs.proving.Reading.{GoesOn, IsReady, Returns}
use Rattle.typed_values.specs.proving.Stopping.{GoesOnBy}
use Rattle.typed_values.specs.proving.Turns.{AreLower}
use Rattle.typed_values.proofs.Found.{by_lower, later_on, later_same, since_lower}

pub not_moved : {r : NotationReader} → IsReady r → GoesOn r r
not_moved h = record { same = refl; text = refl; ready = h }

pub on_and_on : {a b c : NotationReader} → GoesOn a b → GoesOn b c → GoesOn a c
on_and_on g h = record { same = h.same ∙ g.same; text = h.text ∙ g.text; ready = h.ready }

pub reach_on : {a b levels : ℕ} → b ≤ a → a ≤ levels → b ≤ levels
reach_on l m = omega (arith, l, m)

pub not_gone : (r : NotationReader) → Returns r r
not_gone r = record { opened = refl; later = later_same r.defaults.now }

pub back_and_back : {a b c : NotationReader} → Returns a b → Returns b c → Returns a c
back_and_back {a} {b} {c} g h = record { opened = h.opened ∙ g.opened; later = later_on g.later h.later }

-- ---- tables

pub true_lower : {p : Program} {xs ys : List ℕ} {e : NamedValue} → AreLower xs ys → ComesTo p xs e → ComesTo p ys e
true_lower g c = record {
  within = c.within;
  notation = c.notation;
  there = c.there;
  value = c.value;
  named = c.named;
  itself = c.itself;
  by = by_lower c.named g (omega arith) c.by;
  holds = c.holds;
  shaped = c.shaped;
  counted = c.counted;
}

pub lead_lower : {p : Program} {xs ys : List ℕ} {t : NameChains} → AreLower xs ys → AreLed p xs t → AreLed p ys t
lead_lower g h = record {
  empty = h.empty;
  chains = λ c s.
      let w = h.chains c s in
      let o = w.over in
      record {
        way = w.way;
        goes = w.goes;
        last = w.last;
        over = record {
          long = o.long;
          by = by_lower (c.number ∷ w.way) g (omega arith) o.by;
          since = since_lower (c.number ∷ w.way) g o.since;
          whole = o.whole;
          finds = o.finds;
          found = o.found;
        };
      };
}

pub goes_lower : {p : Program} {xs ys : List ℕ} {t : NameChains} {number : ℕ} {rest : NameChain} → AreLower xs ys →
    GoesOnBy p xs t number rest → GoesOnBy p ys t number rest
goes_lower g h =
    let o = h.over in
    record {
      way = h.way;
      goes = h.goes;
      last = h.last;
      over = record {
        long = o.long;
        by = by_lower h.way g (omega arith) o.by;
        since = since_lower h.way g o.since;
        whole = o.whole;
        finds = o.finds;
        found = o.found;
      };
    }

-- ---- the same modules

-- what is true of modules is true of the same modules, which the reader has later
pub below_in : {p q : Program} {i : ℕ} → q ≡ p → i < length p.types → i < length q.types
below_in {p} {q} {i} e h = subst (λ (x : Program). i < length x.types) (sym e) h

pub listed_in : {p q : Program} {N : Name} {c : Part} → q ≡ p → IsListed p N c → IsListed q N c
listed_in {p} {q} {N} {c} e h = subst (λ (x : Program). IsListed x N c) (sym e) h

pub kind_in : {p q : Program} {i : ℕ} {k : WrittenKind} {N : Name} → q ≡ p → HasKindIn p i k N → HasKindIn q i k N
kind_in {p} {q} {i} {k} {N} e h = subst (λ (x : Program). HasKindIn x i k N) (sym e) h

pub allows_in : {p q : Program} {i : ℕ} {z : ℤ} → q ≡ p → Allows p i z → Allows q i z
allows_in {p} {q} {i} {z} e h = subst (λ (x : Program). Allows x i z) (sym e) h
