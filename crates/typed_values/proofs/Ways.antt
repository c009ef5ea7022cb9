-- Chains of names that lead on, and chains that grow.
use Rattle.std.proofs.Common.{inl, inr, ◌≡◌, ◌≤◌, ◌<◌, ℕ, zero, suc, ◌+◌, List, [], ◌∷◌, ◌++◌, length, Option, Some, None, refl, sym, ap, ◌∙◌, subst, arith}
use Rattle.std.specs.Prelude.{◌⊎◌, slice_get}
use Rattle.std.proofs.lemmas.Option.{same_Some}
use Rattle.trees.specs.Values.{Name, Tree, reference}
use Rattle.names.specs.Modules.{OccursIn}
use Rattle.type_table.specs.Table.{WrittenKind}
use Rattle.resolve.specs.Program.{Program}
use Rattle.range_ends.specs.Ends.{IsValueAt}
use Rattle.value_notations.specs.References.{IsLast, IsNamed, IsOwn, own_names}
use Rattle.value_notations.specs.References as last
use Rattle.value_notations.specs.proving.Following.{one_module}
use Rattle.value_notations.specs.proving.Next.{IsNameOf}
use Rattle.typed_values.specs.declared.chains.NameChain.{NameChain}
use Rattle.typed_values.specs.declared.chains.NameChains.{NameChains}
use Rattle.typed_values.specs.declared.chains.Stop.{Stop}
use Rattle.typed_values.specs.declared.stops.Stops.{Stops}
use Rattle.typed_values.specs.Chains.{AreApart, AreBy, AreLed, AreOpenedTo, AreSince, Has, HasTurn, HasTurnSince, IsBare, IsFoundFor, IsLeft, IsNameChain, IsOver, IsWay, LeadsUnder}
use Rattle.typed_values.specs.Chains as chains
use Rattle.typed_values.specs.proving.Stopping.{GoesOnBy, HasMore, IsNearest, IsNoted}
use Rattle.typed_values.proofs.Branches.{has_on, one_has}
use Rattle.typed_values.proofs.Closing.{by_one}
use Rattle.typed_values.proofs.Numbers.{numbers_same}
use Rattle.typed_values.proofs.Found.{at_end, in_front, none_in}

-- ---- value assignments on a way

none_left : (is : List ℕ) (d y : ℕ) → is ≡ [] → IsLeft is d y → ⊥
none_left is d y e (chains.here q) = absurd cc
none_left is d y e (chains.after h) = absurd cc

pub left_long : {is : List ℕ} {d y : ℕ} → IsLeft is d y → d ≤ length is
left_long (chains.here e) = omega (arith, e)
left_long (chains.after h) = let l = left_long h in omega (arith, l)

pub in_left : {is : List ℕ} {d y : ℕ} → IsLeft is d y → OccursIn is y
in_left (chains.here e) = (0, refl)
in_left (chains.after h) = let s = in_left h in (suc s.0, s.1)

pub record First (p : Program) (i : ℕ) : Type 0 where
  pub within : Name
  pub notation : Tree
  pub there : IsValueAt p i within notation

pub first_of : {p : Program} {i : ℕ} {is : List ℕ} → IsWay p (i ∷ is) → First p i
first_of (chains.ends {N = N} {n = n} v) = record { within = N; notation = n; there = v }
first_of (chains.goes {N = N} {q = q} {x = x} v r f w) = record { within = N; notation = reference q x; there = v }

-- ---- leading on

apart_more : (i : ℕ) (os is : List ℕ) → (OccursIn is i → ⊥) → AreApart os is → AreApart (i ∷ os) is
apart_more i os is f a x (zero, e) s = f (subst (λ y. OccursIn is y) (sym (same_Some i x e)) s)
apart_more i os is f a x (suc n, e) s = a x (n, e) s

not_own : {p : Program} (k : WrittenKind) (i d : ℕ) (is : List ℕ) {N : Name} (q : Option Name) (x : Name) → d ≤ length is →
    ((e y : ℕ) (z : Name) → IsLeft (i ∷ is) e y → IsBare p y z → OccursIn (own_names k) z → e ≤ d) →
    IsValueAt p i N (reference q x) → IsNamed k q x → ⊥
not_own k i d is {N} None x l f v s =
    let m = f (suc (length is)) i x (chains.here refl) (record { within = N; there = v }) s in
    omega (arith, l, m)
not_own k i d is (Some q) x l f v s = s

-- what is opened on the way from one more value assignment on, which is not the last one
opened_more : (i w : ℕ) (os is ps : List ℕ) → OccursIn is w → (OccursIn is i → ⊥) → AreOpenedTo w (i ∷ os) is ps →
    AreOpenedTo w os (i ∷ is) ps
opened_more i w os is ps h f a = record {
  before = a.before;
  opened = a.opened;
  each = λ y s. elim (a.each y s) [
    | inl o ↦ here y o.0 o.1
    | inr o ↦ inr ((let t = o.0 in (suc t.0, t.1)), o.1)
  ];
}
  where
    here : (y j : ℕ) → slice_get (i ∷ os) j ≡ Some y → OccursIn os y ⊎ (OccursIn (i ∷ is) y × (y ≡ w → ⊥))
    here y zero e =
        let same : i ≡ y = same_Some i y e in
        inr ((0, e), λ q. f (subst (λ z. OccursIn is z) (sym q ∙ sym same) h))
    here y (suc j) e = inl (j, e)

leads_on : {p : Program} (k : WrittenKind) {i d w : ℕ} {is : List ℕ} (os : List ℕ) {N K : Name} {n l : Tree} → IsWay p (i ∷ is) →
    IsLeft (i ∷ is) d w →
    ((e y : ℕ) (z : Name) → IsLeft (i ∷ is) e y → IsBare p y z → OccursIn (own_names k) z → e ≤ d) → AreApart os (i ∷ is) →
    IsValueAt p i N n → IsValueAt p w K l → IsOwn k l →
    (ps : List ℕ) × IsLast p k (i ∷ os) N n ps K l × AreOpenedTo w os (i ∷ is) ps
leads_on {p} k {i} {is = is} os {N = N} {K = K} {n = n} {l = l} w (chains.here e) f a v t o =
    let same = one_module p i N K n l v t in (
      i ∷ os,
      subst (λ M. IsLast p k (i ∷ os) N n (i ∷ os) M l) same.0
          (subst (λ (z : Tree). IsLast p k (i ∷ os) N n (i ∷ os) N z) same.1
          (last.own (subst (λ (z : Tree). IsOwn k z) (sym same.1) o))),
      record { before = os; opened = refl; each = λ y s. inl s },
    )
leads_on k os (chains.ends u) (chains.after h) f a v t o = absurd (none_left [] _ _ refl h)
leads_on {p} k {i} {d} {w} os {N = N} {K = K} {n = n} {l = l} (chains.goes {j = j} {is = js} {N = H} {q = q} {x = x} u r fresh g) (chains.after h) f a v t o =
    let same = one_module p i H N (reference q x) n u v in
    let first = first_of g in
    let apart = apart_more i os (j ∷ js) fresh (λ z b c. a z b (suc c.0, c.1)) in
    let after = leads_on k (i ∷ os) g h (λ e y z b c s. f e y z (chains.after b) c s)
    apart first.there t o in (
      after.0,
      subst (λ M. IsLast p k (i ∷ os) M n after.0 K l) same.0
          (subst (λ (z : Tree). IsLast p k (i ∷ os) H z after.0 K l) same.1
          (last.referred j (not_own k i d (j ∷ js) q x (left_long h) f u) r
          (λ s. apart j s (0, refl)) first.there after.1)),
      opened_more i w os (j ∷ js) after.0 (in_left h) fresh after.2,
    )

pub leads_under : {p : Program} {turns : List ℕ} {t : NameChains} (k : WrittenKind) (c : NameChain) (s : Stop) {best : Stop}
    {K : Name} {l : Tree} (w : IsNameChain p turns t c) →
    IsNearest p (c.number ∷ w.way) best (OccursIn (own_names k)) s → IsValueAt p s.number K l → IsOwn k l →
    LeadsUnder p turns k c s.number
leads_under k c s {K = K} {l = l} w f v o =
    let first = first_of w.goes in
    record {
      within = first.within;
      notation = first.notation;
      there = first.there;
      last_within = K;
      last = l;
      end_there = v;
      own = o;
      named = c.number ∷ w.way;
      itself = (0, refl);
      end_named = in_left f.as_near.on;
      by = w.over.by;
      since = w.over.since;
      leads = λ os a. leads_on k os w.goes f.as_near.on (λ e y z b c m. f.none z m e y b c) a first.there v o;
    }

-- a kind without names of its own stops at no name
pub last_nearest : {p : Program} {is : List ℕ} (k : WrittenKind) (s : Stop) → own_names k ≡ [] → IsLeft is s.count s.number →
    IsNearest p is s (OccursIn (own_names k)) s
last_nearest k s e l = record {
  as_near = record { on = l; near = omega arith };
  none = λ x o. absurd (none_named x (subst (λ xs. OccursIn xs x) e o));
}
  where
    none_named : (x : Name) → OccursIn {A = Name} [] x → ⊥
    none_named x s = let q = s.1 in absurd cc

not_among : (turns : List ℕ) {latest had : ℕ} (i : ℕ) (rs : List ℕ) → AreBy turns latest rs → HasTurn turns i had →
    latest < had → OccursIn rs i → ⊥
not_among turns {had = had} i rs h e l s =
    let b = h i s in
    let same : had ≡ b.0 = e ∙ sym b.1 in
    let m = b.2 in
    omega (arith, l, same, m)

-- ---- growing

-- chains have their places still
abbrev pub KeepPlaces : NameChains → NameChains → Type 0
KeepPlaces t u = (i : ℕ) (c : NameChain) → slice_get t.chains.items i ≡ Some c → slice_get u.chains.items i ≡ Some c

over_more : {p : Program} {turns is : List ℕ} {t u : NameChains} {c : NameChain} → HasMore t.stops u.stops → KeepPlaces t u →
    IsOver p turns t is c → IsOver p turns u is c
over_more {t = t} {u = u} {c = c} m k w = record {
  long = w.long;
  by = w.by;
  since = w.since;
  whole = λ x. let h = w.whole x in (h.0, has_on c.names x h.0 m h.1);
  finds = λ d y x l b.
      let f = w.finds d y x l b in
      record {
        number = f.number;
        place = f.place;
        chain = f.chain;
        numbered = m.numbers x f.number f.numbered;
        has = has_on c.names f.number (suc f.place) m f.has;
        there = k f.place f.chain f.there;
        near = f.near;
      };
  found = λ x place a.
      let h = w.whole x in
      let same = one_has u.stops.branches.items u.stops.height c.names x h.0 (suc place) (has_on c.names x h.0 m h.1) a in
      let e = w.found x place (subst (λ y. Has t.stops.branches.items t.stops.height c.names x y) same h.1) in
      (e.0, k place e.0 e.1, e.2);
}

chain_more : {p : Program} {turns : List ℕ} {t u : NameChains} {c : NameChain} → HasMore t.stops u.stops → KeepPlaces t u →
    IsNameChain p turns t c → IsNameChain p turns u c
chain_more m k w = record { way = w.way; goes = w.goes; last = w.last; over = over_more m k w.over }

abbrev grown : NameChain → (number names : ℕ) → NameChain
grown rest number names = record { number = number; end = rest.end; latest = rest.latest; earliest = rest.earliest; count = rest.count + 1; names = names }

-- one more value assignment, at the beginning
module _ {p : Program} {turns is : List ℕ} (t u : NameChains) {rest : NameChain} (number names place : ℕ) {N : Name} {n : Tree}
    (m : HasMore t.stops u.stops) (k : KeepPlaces t u) (o : IsNoted t.stops u.stops rest.names n (suc place) names)
    (v : IsValueAt p number N n) (w : IsOver p turns t is rest) where
  module _ (there : slice_get u.chains.items place ≡ Some (grown rest number names)) where
    new_for : (d i : ℕ) (x : Name) → d ≤ suc (length is) → chains.number_of u.stops x ≡ Some i →
        Has u.stops.branches.items u.stops.height names i (suc place) → IsFoundFor u names d x
    new_for d i x l q h = record {
      number = i;
      place = place;
      chain = grown rest number names;
      numbered = q;
      has = h;
      there = there;
      near = let e = w.long in omega (arith, l, e);
    }

    finds_new : (d y : ℕ) (x : Name) → IsLeft (number ∷ is) d y → IsBare p y x → IsFoundFor u names d x
    finds_new d y x (chains.here e) b =
        let same = one_module p number N b.within n (reference None x) v b.there in
        let h = o.it x same.1 in
        new_for d h.0 x (omega (arith, e)) h.1 h.2
    finds_new d y x (chains.after l) b =
        let f = w.finds d y x l b in
        let long = left_long l in
        let q = m.numbers x f.number f.numbered in
        elim (o.others f.number (suc f.place) f.has) [
          | inl h ↦ record {
            number = f.number;
            place = f.place;
            chain = f.chain;
            numbered = q;
            has = h;
            there = k f.place f.chain f.there;
            near = f.near;
          }
          | inr h ↦ new_for d f.number x (omega (arith, long)) q h
        ]

    found_new : (x i : ℕ) → Has u.stops.branches.items u.stops.height names x (suc i) →
        (e : NameChain) × (slice_get u.chains.items i ≡ Some e) × IsLeft (number ∷ is) e.count e.number
    found_new x i a =
        let h = w.whole x in
        elim (o.others x h.0 h.1) [
          | inl b ↦
              let same = one_has u.stops.branches.items u.stops.height names x h.0 (suc i) b a in
              let e = w.found x i (subst (λ y. Has t.stops.branches.items t.stops.height rest.names x y) same h.1) in
              (e.0, k i e.0 e.1, chains.after e.2)
          | inr b ↦
              let same = one_has u.stops.branches.items u.stops.height names x (suc place) (suc i) b a in
              let at : place ≡ i = omega (arith, same) in
              let long = w.long in
              (grown rest number names, subst (λ j. slice_get u.chains.items j ≡ Some (grown rest number names)) at there, chains.here (omega (arith, long)))
        ]

    pub over_new : AreBy turns rest.latest (number ∷ is) → AreSince turns rest.earliest rest.end (number ∷ is) →
        IsOver p turns u (number ∷ is) (grown rest number names)
    over_new b since = record {
      long = let e = w.long in omega (arith, e);
      by = b;
      since = since;
      whole = λ x.
          let h = w.whole x in
          elim (o.others x h.0 h.1) [
            | inl c ↦ (h.0, c)
            | inr c ↦ (suc place, c)
          ];
      finds = finds_new;
      found = found_new;
    }

got_end : {A : Type 0} (xs : List A) (x : A) → slice_get (xs ++ x ∷ []) (length xs) ≡ Some x
got_end [] x = refl
got_end (y ∷ ys) x = got_end ys x

pub by_later : (turns : List ℕ) (r : ℕ) {a b : ℕ} → a ≤ b → (t : ℕ) × HasTurn turns r t × (t ≤ a) →
    (t : ℕ) × HasTurn turns r t × (t ≤ b)
by_later turns r l h = let m = h.2 in (h.0, h.1, omega (arith, l, m))

-- what is said of all chains is true of more
pub led_more : {p : Program} {turns : List ℕ} {t u : NameChains} → HasMore t.stops u.stops → u.chains.items ≡ t.chains.items →
    AreLed p turns t → AreLed p turns u
led_more {p} {turns} {t} {u} m e h = record {
  empty = λ x. has_on 0 x 0 m (h.empty x);
  chains = λ c s. chain_more m (λ i d q. subst (λ cs. slice_get cs i ≡ Some d) (sym e) q)
      (h.chains c (subst (λ cs. OccursIn cs c) e s));
}

since_one : {turns : List ℕ} {earliest end : ℕ} (i : ℕ) (rs : List ℕ) → ((i ≡ end → ⊥) → HasTurnSince turns earliest i) →
    AreSince turns earliest end rs → AreSince turns earliest end (i ∷ rs)
since_one {turns} {earliest} {end} i rs f h r (zero, e) n =
    let same : i ≡ r = same_Some i r e in
    subst (λ y. HasTurnSince turns earliest y) same (f (λ q. n (sym same ∙ q)))
since_one i rs f h r (suc j, e) n = h r (j, e) n

pub led_new : {p : Program} {turns : List ℕ} {t u : NameChains} {rest : NameChain} (number names turn : ℕ) {N : Name}
    {n : Tree} → HasMore t.stops u.stops → (place : ℕ) → place ≡ length t.chains.items → IsNoted t.stops u.stops rest.names n (place + 1) names →
    u.chains.items ≡ t.chains.items ++ (record { number = number; end = rest.end; latest = rest.latest; earliest = rest.earliest; count = rest.count + 1; names = names }) ∷ [] →
    AreLed p turns t → GoesOnBy p turns t number rest → IsValueAt p number N n →
    HasTurn turns number turn → turn ≤ rest.latest →
    ((number ≡ rest.end → ⊥) → HasTurnSince turns rest.earliest number) → AreLed p turns u
led_new {p} {turns} {t} {u} {rest} number names turn {N} {n} m place q o e h g v s b since = record {
  empty = λ x. has_on 0 x 0 m (h.empty x);
  chains = λ c i. elim (at_end t.chains.items one c i.0 (subst (λ cs. slice_get cs i.0 ≡ Some c) e i.1)) [
    | inl a ↦ chain_more m keep (h.chains c a)
    | inr q ↦ subst (λ (d : NameChain). IsNameChain p turns u d) q made
  ];
}
  where
    one : NameChain
    one = record { number = number; end = rest.end; latest = rest.latest; earliest = rest.earliest; count = rest.count + 1; names = names }

    keep : KeepPlaces t u
    keep i c a = subst (λ cs. slice_get cs i ≡ Some c) (sym e) (in_front t.chains.items (one ∷ []) c i a)

    there : slice_get u.chains.items (length t.chains.items) ≡ Some one
    there = subst (λ cs. slice_get cs (length t.chains.items) ≡ Some one) (sym e) (got_end t.chains.items one)

    noted : IsNoted t.stops u.stops rest.names n (suc (length t.chains.items)) names
    noted =
        let same : place + 1 ≡ suc (length t.chains.items) = omega (arith, q) in
        subst (λ i. IsNoted t.stops u.stops rest.names n i names) same o

    made : IsNameChain p turns u one
    made = record {
      way = g.way;
      goes = g.goes;
      last = g.last;
      over = over_new t u number names (length t.chains.items) m keep noted v g.over there
          (by_one turns rest.latest number g.way turn s b g.over.by) (since_one number g.way since g.over.since);
    }

-- ---- chains that go on by one

no_value : {p : Program} {turns : List ℕ} {t : NameChains} (c : NameChain) → AreLed p turns t → c.count ≡ 0 → c.names ≡ 0 →
    IsOver p turns t [] c
no_value {p} {turns} {t} c h e f = record {
  long = sym e;
  by = λ r s. absurd (none_in r s);
  since = λ r s n. absurd (none_in r s);
  whole = λ x. (0, subst (λ i. Has t.stops.branches.items t.stops.height i x 0) (sym f) (h.empty x));
  finds = λ d y x l b. absurd (none_left [] d y refl l);
  found = λ x place a.
      let same = one_has t.stops.branches.items t.stops.height 0 x 0 (suc place) (h.empty x)
      (subst (λ i. Has t.stops.branches.items t.stops.height i x (suc place)) f a) in
      absurd (omega (arith, same));
}

-- the notation is no name of a value
pub begins : {p : Program} {turns : List ℕ} {t : NameChains} (i : ℕ) {N : Name} {n : Tree} → AreLed p turns t → IsValueAt p i N n →
    GoesOnBy p turns t i (record { number = i; end = i; latest = 0; earliest = 4294967295; count = 0; names = 0 })
begins i h v = record {
  way = [];
  goes = chains.ends v;
  last = chains.here refl;
  over = no_value (record { number = i; end = i; latest = 0; earliest = 4294967295; count = 0; names = 0 }) h refl refl;
}

-- the notation is a name, from whose value a chain is known
pub goes_on : {p : Program} {turns : List ℕ} {t : NameChains} (i had : ℕ) (c : NameChain) {k : WrittenKind} {N : Name} {n : Tree} →
    IsNameChain p turns t c → IsValueAt p i N n → IsNameOf p k N n c.number → HasTurn turns i had → c.latest < had →
    GoesOnBy p turns t i c
goes_on {p} {turns} i had c {N = N} w v s e l = record {
  way = c.number ∷ w.way;
  goes = chains.goes (subst (λ (z : Tree). IsValueAt p i N z) s.notation v) s.refers
      (not_among turns i (c.number ∷ w.way) w.over.by e l) w.goes;
  last = chains.after w.last;
  over = w.over;
}

-- the same with a later latest turn, and with an earlier earliest one
pub goes_with : {p : Program} {turns : List ℕ} {t : NameChains} {number : ℕ} {rest : NameChain} (latest earliest : ℕ) →
    GoesOnBy p turns t number rest → rest.latest ≤ latest → earliest ≤ rest.earliest →
    GoesOnBy p turns t number (record { number = rest.number; end = rest.end; latest = latest; earliest = earliest; count = rest.count; names = rest.names })
goes_with {turns = turns} latest earliest g l m =
    let o = g.over in
    record {
      way = g.way;
      goes = g.goes;
      last = g.last;
      over = record {
        long = o.long;
        by = λ r q. by_later turns r l (o.by r q);
        since = λ r q n.
            let h = o.since r q n in
            let k = h.since in
            record { turn = h.turn; has = h.has; given = h.given; since = omega (arith, k, m) };
        whole = o.whole;
        finds = o.finds;
        found = o.found;
      };
    }

-- the same chains and names
pub led_same : {p : Program} {turns : List ℕ} (t u : NameChains) → u.chains ≡ t.chains → u.stops ≡ t.stops → AreLed p turns t →
    AreLed p turns u
led_same t u e f h =
    led_more (numbers_same t.stops u.stops (ap (λ (s : Stops). s.numbers.entries) f) (ap (λ (s : Stops). s.branches) f)
    (ap (λ (s : Stops). s.height) f)) (ap (λ cs. cs.items) e) h

pub none_led : {p : Program} {turns : List ℕ} (t : NameChains) → t.chains.items ≡ [] →
    ((x : ℕ) → Has t.stops.branches.items t.stops.height 0 x 0) → AreLed p turns t
none_led t e h = record { empty = h; chains = λ c s. absurd (none_at c (subst (λ cs. OccursIn cs c) e s)) }
  where
    none_at : (c : NameChain) → OccursIn {A = NameChain} [] c → ⊥
    none_at c s = let q = s.1 in absurd cc
