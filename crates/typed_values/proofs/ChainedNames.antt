-- What values come to by chains of names.
use Rattle.std.proofs.Common.{inl, inr, ◌≡◌, ◌∙◌, ◌≤◌, ◌<◌, ℕ, List, [], ◌∷◌, ◌++◌, Option, Some, None, refl, sym, subst, arith}
use Rattle.std.specs.Prelude.{IfSome}
use Rattle.asn_base.specs.Abstract.{AbstractValue}
use Rattle.trees.specs.Types.{Plain}
use Rattle.trees.specs.Values.{Name, Tree}
use Rattle.type_table.specs.Table.{WrittenKind, simple}
use Rattle.resolve.specs.Program.{Program}
use Rattle.range_ends.specs.Ends.{IsTypeOfKind, IsValueAt}
use Rattle.value_notations.specs.Leaves.{IsLeafNotation}
use Rattle.value_notations.specs.Notations.{Notation, NotationOf, notation}
use Rattle.value_notations.specs.Notations as family
use Rattle.value_notations.specs.References.{IsNamed, IsOwn}
use Rattle.value_notations.specs.References as last
use Rattle.value_notations.specs.proving.Following.{one_kind, one_module}
use Rattle.value_notations.specs.Values.{NotatedValueIn}
use Rattle.values.specs.Allowing.{Allows, AllowsCode}
use Rattle.typed_values.specs.declared.chains.NameChain.{NameChain}
use Rattle.typed_values.specs.declared.named.NamedValue.{NamedValue}
use Rattle.typed_values.specs.Chains.{AreApart, AreBy, AreOpenedTo, AreSince, LeadsUnder}
use Rattle.typed_values.specs.Known.{ComesTo}
use Rattle.typed_values.specs.proving.Reading.{Means}
use Rattle.typed_values.proofs.Closing.{by_one}
use Rattle.typed_values.proofs.Found.{apart_none, in_back, in_either, in_front, none_in}
use Rattle.typed_values.proofs.Ways.{by_later}

-- ---- what the values come to

leaf_in : {p : Program} {os : List ℕ} {M : Name} {k : Plain} {n : Tree} {v : AbstractValue} →
    NotationOf p os M (simple k) n v → IsLeafNotation k n v
leaf_in (family.of_leaf h) = h

leaf_of : {p : Program} {os : List ℕ} {M : Name} {i : ℕ} {k : Plain} {n : Tree} {v : AbstractValue} →
    IsTypeOfKind p.types i (simple k) → IsOwn (simple k) n → Notation p os M i n v → IsLeafNotation k n v
leaf_of {p} {os} {M} {i} {k} {n} {v} t o (notation {k = j} u (last.own w) b) =
    leaf_in (subst (λ (x : WrittenKind). NotationOf p os M x n v) (one_kind p.types i j (simple k) u t) b)
leaf_of {p} {i = i} {k = k} t o (notation {k = j} u (last.referred {q = q} {x = x} a none r g w h) b) =
    absurd (none (subst (λ (y : WrittenKind). IsNamed y q x) (sym (one_kind p.types i j (simple k) u t)) o))

-- the chain's last notation is that of its last value assignment
pub own_end : {p : Program} {turns : List ℕ} {k : WrittenKind} {c : NameChain} {end : ℕ} {K : Name} {l : Tree} →
    LeadsUnder p turns k c end → IsValueAt p end K l → IsOwn k l
own_end {p} {k = k} {end = end} {K = K} {l = l} w v =
    let same = one_module p end w.last_within K w.last l w.end_there v in subst (λ (z : Tree). IsOwn k z) same.1 w.own

-- what the last value assignment comes to, the first one comes to as well
pub comes_by_chain : {p : Program} {turns : List ℕ} (k : Plain) (c : NameChain) (end : ℕ) (e : NamedValue) (i : ℕ) →
    IsTypeOfKind p.types i (simple k) → LeadsUnder p turns (simple k) c end → ComesTo p turns e → e.number ≡ end → e.ty ≡ i →
    ComesTo p turns (record { number = c.number; ty = i; levels = e.levels; nodes = e.nodes; latest = c.latest })
comes_by_chain {p} {turns} k c end e i t w h q r =
    let there = subst (λ j. IsValueAt p j h.within h.notation) q h.there in
    let same = one_module p end h.within w.last_within h.notation w.last there w.end_there in
    let at = subst (λ j. Notation p (e.number ∷ []) h.within j h.notation h.value) r (h.holds [] (apart_none h.named)) in
    let last_at = subst (λ (z : Tree). Notation p (e.number ∷ []) h.within i z h.value) same.1 at in
    let leaf = leaf_of t w.own last_at in
    record {
      within = w.within;
      notation = w.notation;
      there = w.there;
      value = h.value;
      named = w.named;
      itself = w.itself;
      by = w.by;
      holds = λ os a. notation t (w.leads os a).1 (family.of_leaf leaf);
      shaped = subst (λ j. NotatedValueIn p (Allows p) (AllowsCode p) e.levels j h.value) r h.shaped;
      counted = h.counted;
    }

-- a notation that is no reference stands for its value by itself
own_of : {p : Program} {os : List ℕ} {M : Name} {i : ℕ} {k : WrittenKind} {n : Tree} {v : AbstractValue} →
    IsTypeOfKind p.types i k → IsOwn k n → Notation p os M i n v → NotationOf p os M k n v
own_of {p} {os} {M} {i} {k} {n} {v} t o (notation {k = j} u (last.own w) b) =
    subst (λ (x : WrittenKind). NotationOf p os M x n v) (one_kind p.types i j k u t) b
own_of {p} {i = i} {k = k} t o (notation {k = j} u (last.referred {q = q} {x = x} a none r g w h) b) =
    absurd (none (subst (λ (y : WrittenKind). IsNamed y q x) (sym (one_kind p.types i j k u t)) o))

-- none of the values that are opened before the last one is one to which its notation leads
apart_before : {turns : List ℕ} {earliest latest end : ℕ} (os named rs ps : List ℕ) (a : AreOpenedTo end os named ps) →
    AreSince turns earliest end named → AreBy turns latest rs → latest < earliest → AreApart os rs → AreApart a.before rs
apart_before os named rs ps a since by l f x s h = elim (a.each x s) [
  | inl o ↦ f x o h
  | inr o ↦
      let g = since x o.0 o.1 in
      let b = by x h in
      let same : g.turn ≡ b.0 = g.has ∙ sym b.1 in
      let m = g.since in
      let n = b.2 in
      omega (arith, same, l, m, n)
]

-- what the last value assignment comes to, the first one comes to as well, if all others on the way have later turns
pub comes_by_way : {p : Program} {turns : List ℕ} (k : WrittenKind) (c : NameChain) (e : NamedValue) (i latest : ℕ) →
    IsTypeOfKind p.types i k → LeadsUnder p turns k c c.end → ComesTo p turns e → e.number ≡ c.end → e.ty ≡ i →
    e.latest < c.earliest → c.latest ≤ latest → e.latest ≤ latest →
    ComesTo p turns (record { number = c.number; ty = i; levels = e.levels; nodes = e.nodes; latest = latest })
comes_by_way {p} {turns} k c e i latest t w h q r early l m =
    let there = subst (λ j. IsValueAt p j h.within h.notation) q h.there in
    let same = one_module p c.end h.within w.last_within h.notation w.last there w.end_there in
    record {
      within = w.within;
      notation = w.notation;
      there = w.there;
      value = h.value;
      named = w.named ++ h.named;
      itself = (let s = w.itself in (s.0, in_front w.named h.named c.number s.0 s.1));
      by = λ y s. elim (in_either w.named h.named y s.0 s.1) [
        | inl a ↦ by_later turns y l (w.by y a)
        | inr a ↦ by_later turns y m (h.by y a)
      ];
      holds = λ os a.
          let led = w.leads os (λ y s b. a y s (let d = b in (d.0, in_front w.named h.named y d.0 d.1))) in
          let o = led.2 in
          let apart = apart_before os w.named h.named led.0 o w.since h.by early (λ y s b. a y s (in_back w.named h.named y b)) in
          let at = subst (λ j. Notation p (j ∷ o.before) h.within e.ty h.notation h.value) q (h.holds o.before apart) in
          let typed = subst (λ j. Notation p (c.end ∷ o.before) h.within j h.notation h.value) r at in
          let last_at = subst (λ M. Notation p (c.end ∷ o.before) M i w.last h.value) same.0
          (subst (λ (z : Tree). Notation p (c.end ∷ o.before) h.within i z h.value) same.1 typed) in
          notation t led.1 (own_of t w.own (subst (λ ps. Notation p ps w.last_within i w.last h.value) (sym o.opened) last_at));
      shaped = subst (λ j. NotatedValueIn p (Allows p) (AllowsCode p) e.levels j h.value) r h.shaped;
      counted = h.counted;
    }

-- the last value assignment comes to the value that its notation stands for
pub comes_to_leaf : {p : Program} {turns : List ℕ} {k : WrittenKind} (c : NameChain) (end i : ℕ) {K : Name} {l : Tree}
    (v : AbstractValue) → LeadsUnder p turns k c end → IsValueAt p end K l → ((qs : List ℕ) → Means p 1 1 0 qs K i l v) →
    ComesTo p turns (record { number = end; ty = i; levels = 1; nodes = 1; latest = c.latest })
comes_to_leaf {p} {turns} c end i {K} {l} v w there m =
    let b = w.by end w.end_named in
    let one = (m []).counted in
    record {
      within = K;
      notation = l;
      there = there;
      value = v;
      named = end ∷ [];
      itself = (0, refl);
      by = by_one turns c.latest end [] b.0 b.1 b.2 (λ r s. absurd (none_in r s));
      holds = λ os a. (m (end ∷ os)).is_so;
      shaped = (m []).value;
      counted = omega (arith, one);
    }

-- ---- results

pub some_has : {A : Type 0} {P Q : A → Type 0} (o : Option A) → IfSome o P → ((x : A) → P x → Q x) → IfSome o Q
some_has None h go = h
some_has (Some x) h go = go x h
