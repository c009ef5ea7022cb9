-- The nearest value assignments on chains.
use Rattle.std.proofs.Common.{inl, inr, ◌≡◌, ◌≤◌, ◌<◌, ◌+◌, ℕ, zero, suc, List, [], ◌∷◌, ◌++◌, Option, Some, None, length, map, refl, sym, ap, ◌∙◌, subst, arith, option_map, Vec, Box}
use Rattle.std.specs.Prelude.{◌⊎◌, slice_get}
use Rattle.std.specs.Global.{Global}
use Rattle.std.proofs.lemmas.List.{map-append}
use Rattle.std.proofs.lemmas.Option.{same_Some}
use Rattle.trees.specs.Values.{Name}
use Rattle.names.specs.Modules.{OccursIn}
use Rattle.names.specs.Names.{names_of}
use Rattle.trees.specs.declared.types.EnumeratedItem.{EnumeratedItem}
use Rattle.trees.specs.declared.types.EnumeratedSyntax.{EnumeratedSyntax}
use Rattle.trees.specs.declared.types.Simple.TheVariants as simples
use Rattle.trees.specs.Types.{item_of, plain_of}
use Rattle.type_table.specs.Items.{additions_of}
use Rattle.type_table.specs.Table.{simple}
use Rattle.value_notations.specs.References.{own_names}
use Rattle.resolve.specs.Program.{Program}
use Rattle.typed_values.specs.declared.chains.NameChain.{NameChain}
use Rattle.typed_values.specs.declared.chains.NameChains.{NameChains}
use Rattle.typed_values.specs.declared.chains.Stop.{Stop}
use Rattle.typed_values.specs.Chains.{Has, IsBare, IsLeft, IsOver, number_of}
use Rattle.typed_values.specs.proving.Stopping.{AreNoNearer, AreSeen, FindsNearest, IsAsNear, IsNearest}
use Rattle.value_notations.specs.proving.Places.{less_or_more}
use Rattle.typed_values.proofs.Found.{in_either}

-- ---- one name

-- all chains that a tree finds for a name are this one
abbrev pub FindsOne : NameChains → NameChain → Name → Option NameChain → Type 0
FindsOne t c x r = (i place : ℕ) (e : NameChain) → number_of t.stops x ≡ Some i →
    Has t.stops.branches.items t.stops.height c.names i (suc place) → slice_get t.chains.items place ≡ Some e → r ≡ Some e

module _ (t : NameChains) (c : NameChain) (x : Name) (best : Stop) where
  kept : ((p : Program) (turns is : List ℕ) → IsOver p turns t is c → AreNoNearer p is x best) →
      FindsNearest t c best (λ z. z ≡ x) best
  kept h p turns is w l = record {
    as_near = record { on = l; near = omega arith };
    none = λ z q d y a b. h p turns is w d y a (subst (λ n. IsBare p y n) q b);
  }

  pub none_nearer : FindsOne t c x None → FindsNearest t c best (λ z. z ≡ x) best
  none_nearer f = kept (λ p turns is w d y a b.
      let g = w.finds d y x a b in
      let e = f g.number g.place g.chain g.numbered g.has g.there in
      absurd cc)

  module _ (found : NameChain) (f : FindsOne t c x (Some found)) where
    all_found : (p : Program) (turns is : List ℕ) → IsOver p turns t is c → (d y : ℕ) → IsLeft is d y → IsBare p y x →
        d ≤ found.count
    all_found p turns is w d y a b =
        let g = w.finds d y x a b in
        let same = same_Some found g.chain (f g.number g.place g.chain g.numbered g.has g.there) in
        subst (λ (e : NameChain). d ≤ e.count) (sym same) g.near

    pub no_nearer : found.count ≤ best.count → FindsNearest t c best (λ z. z ≡ x) best
    no_nearer m = kept (λ p turns is w d y a b. let l = all_found p turns is w d y a b in omega (arith, l, m))

    pub one_nearer : best.count < found.count →
        (i place : ℕ) × Has t.stops.branches.items t.stops.height c.names i (suc place)
        × (slice_get t.chains.items place ≡ Some found) →
        FindsNearest t c best (λ z. z ≡ x) (record { count = found.count; number = found.number })
    one_nearer m h p turns is w l =
        let e = w.found h.0 h.1 h.2 in
        let same = same_Some e.0 found (sym e.1 ∙ h.3) in
        record {
          as_near = record { on = subst (λ (k : NameChain). IsLeft is k.count k.number) same e.2; near = omega (arith, m) };
          none = λ z q d y a b. all_found p turns is w d y a (subst (λ n. IsBare p y n) q b);
        }

-- ---- several names

pub near_on : {is : List ℕ} {a b c : Stop} → IsAsNear is a b → IsAsNear is b c → IsAsNear is a c
near_on g h = record { on = h.on; near = let l = g.near in let m = h.near in omega (arith, l, m) }

got_map : {A B : Type 0} (f : A → B) (xs : List A) (i : ℕ) (y : B) → slice_get (map f xs) i ≡ Some y →
    (x : A) × (slice_get xs i ≡ Some x) × (f x ≡ y)
got_map f [] i y e = absurd cc
got_map f (x ∷ xs) zero y e = (x, refl, same_Some (f x) y e)
got_map f (x ∷ xs) (suc i) y e = got_map f xs i y e

put_map : {A B : Type 0} (f : A → B) (xs : List A) (i : ℕ) (x : A) → slice_get xs i ≡ Some x → slice_get (map f xs) i ≡ Some (f x)
put_map f [] i x e = absurd cc
put_map f (y ∷ ys) zero x e = ap (λ z. Some (f z)) (same_Some y x e)
put_map f (y ∷ ys) (suc i) x e = put_map f ys i x e

inside : {A : Type 0} (xs : List A) (i : ℕ) (x : A) → slice_get xs i ≡ Some x → i < length xs
inside [] i x e = absurd cc
inside (y ∷ ys) zero x e = omega arith
inside (y ∷ ys) (suc i) x e = let h = inside ys i x e in omega (arith, h)

module _ {A : Type 0} (name : A → Name) (t : NameChains) (c : NameChain) (first : Stop) (xs : List A) where
  pub seen_none : AreSeen name t c first xs 0 first
  seen_none = record {
    as_near = λ p turns is w l. record { on = l; near = omega arith };
    none = λ p turns is w l j x m. absurd (omega (arith, m));
  }

  pub seen_more : (i : ℕ) (best next : Stop) (y : A) → slice_get xs i ≡ Some y → AreSeen name t c first xs i best →
      FindsNearest t c best (λ z. z ≡ name y) next → AreSeen name t c first xs (i + 1) next
  seen_more i best next y e h f = record {
    as_near = λ p turns is w l. near_on (h.as_near p turns is w l) (f p turns is w (h.as_near p turns is w l).on).as_near;
    none = λ p turns is w l j x m q d z a b.
        let g = f p turns is w (h.as_near p turns is w l).on in
        elim (less_or_more j i) [
          | inl s ↦
              let same = same_Some x y (sym q ∙ ap (slice_get xs) s ∙ e) in
              g.none (name x) (ap name same) d z a b
          | inr s ↦ elim s [
            | inl k ↦ let n = g.as_near.near in let o = h.none p turns is w l j x k q d z a b in omega (arith, n, o)
            | inr k ↦ absurd (omega (arith, k, m))
          ]
        ];
  }

  pub seen_all : (i : ℕ) (best : Stop) → length xs ≤ i → AreSeen name t c first xs i best →
      FindsNearest t c first (OccursIn (map name xs)) best
  seen_all i best many h p turns is w l = record {
    as_near = h.as_near p turns is w l;
    none = λ x s d y a b.
        let g = got_map name xs s.0 x s.1 in
        let m = inside xs s.0 g.0 g.1 in
        h.none p turns is w l s.0 g.0 (omega (arith, m, many)) g.1 d y a (subst (λ n. IsBare p y n) (sym g.2) b);
  }

pub near_names : {p : Program} {is : List ℕ} {best s : Stop} {P Q : Name → Type 0} → IsNearest p is best P s →
    ((x : Name) → Q x → P x) → IsNearest p is best Q s
near_names h go = record { as_near = h.as_near; none = λ x q. h.none x (go x q) }

pub near_both : {p : Program} {is : List ℕ} {a b c : Stop} {P Q R : Name → Type 0} → IsNearest p is a P b →
    IsNearest p is b Q c → ((x : Name) → R x → P x ⊎ Q x) → IsNearest p is a R c
near_both g h go = record {
  as_near = near_on g.as_near h.as_near;
  none = λ x r d y a b. elim (go x r) [
    | inl s ↦ let l = g.none x s d y a b in let m = h.as_near.near in omega (arith, l, m)
    | inr s ↦ h.none x s d y a b
  ];
}

pub all_names : {A X : Type 0} (f : A → Name × X) (t : NameChains) (c : NameChain) (first : Stop) (xs : List A) (i : ℕ) (best : Stop) →
    length xs ≤ i → AreSeen (λ x. (f x).0) t c first xs i best → FindsNearest t c first (OccursIn (names_of (map f xs))) best
all_names f t c first xs i best many h p turns is w l =
    near_names (seen_all (λ x. (f x).0) t c first xs i best many h p turns is w l) (λ x s.
    let g = got_map (λ e. e.0) (map f xs) s.0 x s.1 in
    let k = got_map f xs s.0 g.0 g.1 in
    (s.0, put_map (λ y. (f y).0) xs s.0 k.0 k.1 ∙ ap Some (ap (λ e. e.0) k.2 ∙ g.2)))

-- ---- the names of a type

names_either : {X : Type 0} (xs ys : List (Name × X)) (x : Name) → OccursIn (names_of (xs ++ ys)) x →
    OccursIn (names_of xs) x ⊎ OccursIn (names_of ys) x
names_either xs ys x s =
    in_either (names_of xs) (names_of ys) x s.0
    (subst (λ zs. slice_get zs s.0 ≡ Some x) (map-append (λ e. e.0) xs ys) s.1)

pub items_either : (b : Box EnumeratedSyntax Global) (e : EnumeratedSyntax) (o : Option (Vec EnumeratedItem Global))
    (x : Name) → e ≡ b.value → e.additions ≡ o →
    OccursIn (own_names (simple (plain_of (simples.Enumerated b)))) x →
    OccursIn (names_of (map item_of e.root.items)) x
    ⊎ OccursIn (names_of (additions_of (option_map (λ is. map item_of is.items) o))) x
items_either b e o x h q s =
    let t = subst (λ (d : EnumeratedSyntax).
    OccursIn (names_of (map item_of d.root.items ++ additions_of (option_map (λ is. map item_of is.items) d.additions))) x) (sym h) s in
    names_either (map item_of e.root.items) (additions_of (option_map (λ is. map item_of is.items) o)) x
    (subst (λ (a : Option (Vec EnumeratedItem Global)).
    OccursIn (names_of (map item_of e.root.items ++ additions_of (option_map (λ is. map item_of is.items) a))) x) q t)

pub same_root : (d e : EnumeratedSyntax) (x : Name) → d ≡ e →
    OccursIn (names_of (map item_of d.root.items)) x → OccursIn (names_of (map item_of e.root.items)) x
same_root d e x h s = subst (λ (e : EnumeratedSyntax). OccursIn (names_of (map item_of e.root.items)) x) h s

pub no_name : (x : Name) → OccursIn {A = Name} [] x → ⊥
no_name x s = let e = s.1 in absurd cc
