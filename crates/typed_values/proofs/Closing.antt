-- Values to which references led, from the latest one on.
use Rattle.std.proofs.Common.{◌≡◌, ℕ, zero, suc, ◌+◌, ◌≤◌, ◌<◌, List, [], ◌∷◌, length, refl, sym, ap, ◌∙◌, subst, arith}
use Rattle.std.proofs.lemmas.Option.{same_Some, slice_get_within}
use Rattle.asn_base.specs.Abstract.{AbstractValue}
use Rattle.asn_base.specs.Typed.{nodes}
use Rattle.trees.specs.Values.{Name, Tree, reference}
use Rattle.names.specs.Modules.{OccursIn}
use Rattle.type_table.specs.Table.{WrittenKind}
use Rattle.resolve.specs.Program.{Program}
use Rattle.range_ends.specs.Ends.{IsTypeOfKind, IsValueAt}
use Rattle.value_notations.specs.Notations.{Notation, notation}
use Rattle.value_notations.specs.References.{IsLast, IsNamed, IsOwn}
use Rattle.value_notations.specs.References as last
use Rattle.value_notations.specs.Wrong.{OpenedPath}
use Rattle.value_notations.specs.Wrong as wrong
use Rattle.value_notations.specs.proving.Following.{one_kind}
use Rattle.value_notations.specs.proving.Next.{IsNameOf}
use Rattle.typed_values.specs.declared.levels.Defaults.{Defaults}
use Rattle.typed_values.specs.Chains.{AreApart, AreBy, HasTurn}
use Rattle.typed_values.specs.Known.{ComesTo}
use Rattle.typed_values.specs.proving.Reading.{CanClose, CanCloseTo, HasEnded, IsEnded, IsLater, IsRead, IsReadItself, Means}
use Rattle.typed_values.specs.proving.Turns.{AreLower}
use Rattle.typed_values.proofs.Found.{by_lower}

-- ---- paths

pub path_grows : {p : Program} {k : WrittenKind} {os ps : List ℕ} {M K : Name} {n l : Tree} → OpenedPath p k os M n ps K l →
    length os ≤ length ps
path_grows wrong.there = omega arith
path_grows (wrong.onward i none r f v h) = let g = path_grows h in omega (arith, g)

-- references lead to value a last, while the values qs are being read
pub record StepsTo (p : Program) (k : WrittenKind) (os : List ℕ) (M : Name) (n : Tree) (a : ℕ) (qs : List ℕ) (K : Name)
    (l : Tree) : Type 0 where
  pub within : Name
  pub notation : Tree
  pub path : OpenedPath p k os M n qs within notation
  pub names : IsNameOf p k within notation a
  pub fresh : OccursIn qs a → ⊥
  pub value : IsValueAt p a K l

record LastStep (p : Program) (k : WrittenKind) (os : List ℕ) (M : Name) (n : Tree) (ps : List ℕ) (K : Name) (l : Tree)
    : Type 0 where
  pub number : ℕ
  pub rest : List ℕ
  pub opened : ps ≡ number ∷ rest
  pub step : StepsTo p k os M n number rest K l

last_step : {p : Program} {k : WrittenKind} {os ps : List ℕ} {M K : Name} {n l : Tree} → OpenedPath p k os M n ps K l →
    length os < length ps → LastStep p k os M n ps K l
last_step wrong.there l = absurd (omega (arith, l))
last_step {os = os} {M = M} (wrong.onward {q = q} {x = x} i none r f v wrong.there) l = record {
  number = i;
  rest = os;
  opened = refl;
  step = record {
    within = M;
    notation = reference q x;
    path = wrong.there;
    names = record { prefix = q; name = x; notation = refl; none = none; refers = r };
    fresh = f;
    value = v;
  };
}
last_step (wrong.onward i none r f v (wrong.onward j some s g w h)) l =
    let grown = path_grows h in
    let b = last_step (wrong.onward j some s g w h) (omega (arith, grown)) in
    record {
      number = b.number;
      rest = b.rest;
      opened = b.opened;
      step = record {
        within = b.step.within;
        notation = b.step.notation;
        path = wrong.onward i none r f v b.step.path;
        names = b.step.names;
        fresh = b.step.fresh;
        value = b.step.value;
      };
    }

abbrev first_of : List ℕ → ℕ
first_of [] = 0
first_of (x ∷ xs) = x

abbrev rest_of : List ℕ → List ℕ
rest_of [] = []
rest_of (x ∷ xs) = xs

pub step_at : {p : Program} {k : WrittenKind} {os ps : List ℕ} {M K : Name} {n l : Tree} (a : ℕ) (qs : List ℕ) →
    ps ≡ a ∷ qs → OpenedPath p k os M n ps K l → length os < length ps → StepsTo p k os M n a qs K l
step_at {p} {k} {os} {ps} {M} {K} {n} {l} a qs e h m =
    let s = last_step h m in
    let same : s.number ∷ s.rest ≡ a ∷ qs = sym s.opened ∙ e in
    subst (λ b. StepsTo p k os M n b qs K l) (ap first_of same)
    (subst (λ rs. StepsTo p k os M n s.number rs K l) (ap rest_of same) s.step)

pub record Same (os ps : List ℕ) (M K : Name) (n l : Tree) : Type 0 where
  pub opened : ps ≡ os
  pub within : K ≡ M
  pub notation : l ≡ n

pub path_ends : {p : Program} {k : WrittenKind} {os ps : List ℕ} {M K : Name} {n l : Tree} → OpenedPath p k os M n ps K l →
    length ps ≡ length os → Same os ps M K n l
path_ends wrong.there e = record { opened = refl; within = refl; notation = refl }
path_ends (wrong.onward i none r f v h) e = let g = path_grows h in absurd (omega (arith, g, e))

pub path_own : {p : Program} {k : WrittenKind} {os ps : List ℕ} {M K : Name} {n l : Tree} → IsLast p k os M n ps K l →
    OpenedPath p k os M n ps K l
path_own (last.own o) = wrong.there
path_own (last.referred i none r f v h) = wrong.onward i none r f v (path_own h)

pub last_own : {p : Program} {k : WrittenKind} {os ps : List ℕ} {M K : Name} {n l : Tree} → IsLast p k os M n ps K l →
    IsOwn k l
last_own (last.own o) = o
last_own (last.referred i none r f v h) = last_own h

-- ---- one name more

-- a name stands for what its value assignment stands for, unless that is being read
pub name_stands : {p : Program} {k : WrittenKind} {i a : ℕ} {os : List ℕ} {L K : Name} {m l : Tree} {v : AbstractValue} →
    IsTypeOfKind p.types i k → IsNameOf p k L m a → (OccursIn os a → ⊥) → IsValueAt p a K l →
    Notation p (a ∷ os) K i l v → Notation p os L i m v
name_stands {p} {k} {i} {a} {os} {L} {K} {m} {l} {v} t s f w (notation {k = j} u h b) =
    let same = one_kind p.types i k j t u in
    subst (λ (z : Tree). Notation p os L i z v) (sym s.notation)
    (notation u
    (last.referred a (subst (λ (x : WrittenKind). IsNamed x s.prefix s.name → ⊥) same s.none) s.refers f w h) b)

pub name_means : {p : Program} {k : WrittenKind} {i a levels before after : ℕ} {os : List ℕ} {L K : Name} {m l : Tree}
    {v : AbstractValue} →
    IsTypeOfKind p.types i k → IsNameOf p k L m a → (OccursIn os a → ⊥) → IsValueAt p a K l →
    Means p levels before after (a ∷ os) K i l v → Means p levels before after os L i m v
name_means t s f w h = record { is_so = name_stands t s f w h.is_so; value = h.value; counted = h.counted }

pub apart_one : (a : ℕ) (qs rs : List ℕ) → AreApart qs (a ∷ rs) → (OccursIn rs a → ⊥) → AreApart (a ∷ qs) rs
apart_one a qs rs h f x (zero, e) s = f (subst (λ y. OccursIn rs y) (sym (same_Some a x e)) s)
apart_one a qs rs h f x (suc i, e) s = h x (i, e) (suc s.0, s.1)

-- the latest value that is being read is none to which its notation leads
not_itself : (a : ℕ) (qs ps rs : List ℕ) → ps ≡ a ∷ qs → AreApart ps rs → OccursIn rs a → ⊥
not_itself a qs ps rs e h s = h a (subst (λ zs. OccursIn zs a) (sym e) (0, refl)) s

pub by_one : (turns : List ℕ) (latest a : ℕ) (rs : List ℕ) (t : ℕ) → HasTurn turns a t → t ≤ latest →
    AreBy turns latest rs → AreBy turns latest (a ∷ rs)
by_one turns latest a rs t e l h r (zero, q) = (t, subst (λ y. HasTurn turns y t) (same_Some a r q) e, l)
by_one turns latest a rs t e l h r (suc i, q) = h r (i, q)

module _ {p : Program} {most before after : ℕ} {os ps : List ℕ} {M : Name} {i : ℕ} {n : Tree} {t : Defaults}
    {v : AbstractValue} (a : ℕ) (qs : List ℕ) (e : ps ≡ a ∷ qs) (h : IsEnded p most before after os M i n ps t v)
    (s : StepsTo p h.kind os M n a qs h.within h.last) where
  named_too : {turns : List ℕ} {latest turn : ℕ} → AreLower t.named.turns.items turns → t.named.latest ≤ latest →
      HasTurn turns a turn → turn ≤ latest → AreBy turns latest (a ∷ h.read.named)
  named_too {turns} {latest} {turn} g l w b = by_one turns latest a h.read.named turn w b (by_lower h.read.named g l h.read.by)

  held : (m : ℕ) (rs : List ℕ) → most ≤ m + t.lowest → AreApart rs (a ∷ h.read.named) →
      Means p m before after (a ∷ rs) h.within i h.last v
  held m rs l b = h.read.holds m (a ∷ rs) l
      (apart_one a rs h.read.named b (not_itself a qs ps h.read.named e h.read.apart))

  -- the latest value is no longer read, and its turn is counted
  pub one_closed : (u : Defaults) (turn : ℕ) → AreLower t.named.turns.items u.named.turns.items →
      t.named.latest ≤ u.named.latest → u.lowest ≡ t.lowest →
      HasTurn u.named.turns.items a turn → turn ≤ u.named.latest →
      IsEnded p most before after os M i n qs u v
  one_closed u turn g l w x b = record {
    kind = h.kind;
    is = h.is;
    within = s.within;
    last = s.notation;
    path = s.path;
    read = record {
      named = a ∷ h.read.named;
      by = named_too g l x b;
      apart = apart;
      holds = λ m rs y z. name_means h.is s.names (λ o. z a o (0, refl)) s.value
          (held m rs (subst (λ q. most ≤ m + q) w y) z);
    };
  }
    where
      apart : AreApart qs (a ∷ h.read.named)
      apart x o (zero, q) = s.fresh (subst (λ y. OccursIn qs y) (sym (same_Some a x q)) o)
      apart x o (suc j, q) = h.read.apart x (subst (λ zs. OccursIn zs x) (sym e) (suc o.0, o.1)) (j, q)

  -- what the latest value comes to
  pub one_comes : (turns : List ℕ) (levels count latest turn : ℕ) → AreLower t.named.turns.items turns →
      t.named.latest ≤ latest → HasTurn turns a turn → turn ≤ latest →
      most ≤ levels + t.lowest → before ≡ after + count →
      ComesTo p turns (record { number = a; ty = i; levels = levels; nodes = count; latest = latest })
  one_comes turns levels count latest turn g l x b y z =
      let m = h.read.holds levels ps y h.read.apart in
      let c = m.counted in
      record {
        within = h.within;
        notation = h.last;
        there = s.value;
        value = v;
        named = a ∷ h.read.named;
        itself = (0, refl);
        by = named_too g l x b;
        holds = λ rs q. (held most rs (omega arith) q).is_so;
        shaped = m.value;
        counted = omega (arith, c, z);
      }

-- what a value assignment comes to that was read alone
pub comes_itself : {p : Program} {number i most nodes : ℕ} {t : Defaults} (h : IsReadItself p number i most nodes t) →
    (turns : List ℕ) (levels latest turn : ℕ) → AreLower t.named.turns.items turns → t.named.latest ≤ latest →
    HasTurn turns number turn → turn ≤ latest → most ≤ levels + t.lowest →
    ComesTo p turns (record { number = number; ty = i; levels = levels; nodes = nodes; latest = latest })
comes_itself {number = number} {most = most} h turns levels latest turn g l x b y =
    let f = h.read in
    let m = f.holds levels (number ∷ []) y f.apart in
    let c = m.counted in
    let d = h.counted in
    record {
      within = h.within;
      notation = h.notation;
      there = h.there;
      value = h.value;
      named = number ∷ f.named;
      itself = (0, refl);
      by = by_one turns latest number f.named turn x b (by_lower f.named g l f.by);
      holds = λ rs q. (f.holds most (number ∷ rs) (omega arith)
          (apart_one number rs f.named q (not_itself number [] (number ∷ []) f.named refl f.apart))).is_so;
      shaped = m.value;
      counted = omega (arith, c, d);
    }

-- ---- the end

pub all_closed : {p : Program} {most before after : ℕ} {os ps : List ℕ} {M : Name} {i : ℕ} {n : Tree} {t : Defaults}
    {v : AbstractValue} → length ps ≡ length os → IsEnded p most before after os M i n ps t v →
    (ps ≡ os) × IsRead p most before after os M i n t v
all_closed {p} {most} {before} {after} {os} {ps} {M} {i} {n} {t} {v} e h =
    let s = path_ends h.path e in (
      s.opened,
      subst (λ (z : Tree). IsRead p most before after os M i z t v) s.notation
          (subst (λ (z : Name). IsRead p most before after os z i h.last t v) s.within
          (subst (λ (z : List ℕ). IsRead p most before after z h.within i h.last t v) s.opened h.read)),
    )

-- ---- what the reader does

pub below : {p : Program} {i levels nodes : ℕ} {ps : List ℕ} {t : Defaults} (a : ℕ) (qs : List ℕ) → ps ≡ a ∷ qs →
    CanClose p i levels nodes ps t → a < length p.values
below {p} a qs e c =
    let s = step_at a qs e c.ended.path c.fewer in
    slice_get_within p.values a s.value.value s.value.there

pub comes : {p : Program} {i levels nodes : ℕ} {ps : List ℕ} {t : Defaults} (a : ℕ) (qs : List ℕ) → ps ≡ a ∷ qs →
    CanClose p i levels nodes ps t → (turns : List ℕ) (latest turn : ℕ) → AreLower t.named.turns.items turns →
    t.named.latest ≤ latest → HasTurn turns a turn → turn ≤ latest →
    ComesTo p turns (record { number = a; ty = i; levels = levels; nodes = nodes; latest = latest })
comes {levels = levels} {nodes = nodes} a qs e c turns latest turn g l x b =
    one_comes a qs e c.ended (step_at a qs e c.ended.path c.fewer) turns levels nodes latest turn g l x b c.enough c.counted

pub closes : {p : Program} {most before after : ℕ} {os ps : List ℕ} {M : Name} {i : ℕ} {n : Tree} {t u : Defaults}
    {v : AbstractValue} (a : ℕ) (qs : List ℕ) → ps ≡ a ∷ qs → IsLater t u → u.lowest ≡ t.lowest → (turn : ℕ) →
    HasTurn u.named.turns.items a turn → turn ≤ u.named.latest → length os < length ps →
    IsEnded p most before after os M i n ps t v → IsEnded p most before after os M i n qs u v
closes {u = u} a qs e g w turn x b l h =
    one_closed a qs e h (step_at a qs e h.path l) u turn g.turns g.latest w x b

-- what is true of each reading that began with so many values being read
abbrev pub AreClosed : (p : Program) (i count : ℕ) (ps : List ℕ) (t : Defaults) (qs : List ℕ) (u : Defaults) → Type 0
AreClosed p i count ps t qs u = (most before after : ℕ) (os : List ℕ) (M : Name) (n : Tree) (v : AbstractValue) →
    length os ≡ count →
    IsEnded p most before after os M i n ps t v →
    IsEnded p most before after os M i n qs u v

pub can_close : {p : Program} {i levels nodes count : ℕ} {ps qs : List ℕ} {t u : Defaults} →
    CanCloseTo p i levels nodes count ps t → AreClosed p i count ps t qs u → u.lowest ≡ t.lowest → count < length qs →
    CanClose p i levels nodes qs u
can_close c f w l =
    let d = c.ended in
    let m = d.many in
    let h = c.enough in
    record {
      most = c.most;
      before = c.before;
      after = c.after;
      enough = omega (arith, h, w);
      counted = c.counted;
      opened = d.opened;
      fewer = omega (arith, m, l);
      within = d.within;
      notation = d.notation;
      value = d.value;
      ended = f c.most c.before c.after d.opened d.within d.notation d.value d.many d.ended;
    }

pub grown_to : {p : Program} {i levels nodes count : ℕ} {ps : List ℕ} {t : Defaults} →
    CanCloseTo p i levels nodes count ps t → count ≤ length ps
grown_to c =
    let d = c.ended in
    let m = d.many in
    let g = path_grows d.ended.path in
    omega (arith, m, g)

pub not_more : {p : Program} {levels before after count i : ℕ} {ps : List ℕ} {t : Defaults} →
    HasEnded p levels before after count i ps t → after ≤ before
not_more {levels = levels} {ps = ps} h =
    let f = h.ended.read in
    let m = (f.holds levels ps (omega arith) f.apart).counted in
    omega (arith, m)
