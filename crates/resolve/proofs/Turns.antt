-- Names after modules' names in lists, which are gone through from the front, and the offsets of these names.
use Rattle.std.proofs.Common.{◌≡◌, ◌<◌, ◌≤◌, ◌+◌, inl, inr, ℕ, List, [], ◌++◌, Some, length, length-append, map, drop, get_or, refl, sym, subst, ap, ◌∙◌, arith}
use Rattle.trees.specs.Values.{Name}
use Rattle.names.specs.declared.fault.NameFault.{NameFault}
use Rattle.names.specs.declared.fault.NameFault.TheVariants as faults
use Rattle.names.specs.Faults.{fault_name}
use Rattle.std.specs.Prelude.{slice_get}
use Rattle.std.proofs.lemmas.Option.{slice_get_within}
use Rattle.names.specs.Names.{Module}
use Rattle.names.specs.proving.Distinct.{drop_at, either, left, none_left, right}
use Rattle.resolve.specs.Qualified.{each, MeanValues}
use Rattle.resolve.specs.proving.Unknown.{AllMean, IsUnknownIn}

module _ (ms : List (Name × Module)) (M : Name) where
  mean_nothing : MeanValues ms M []
  mean_nothing k N x e = absurd cc

  pub all_nothing : AllMean ms M [] []
  all_nothing = record { mean = mean_nothing; long = refl }

  mean_both : (xs ys : List (Name × Name)) → MeanValues ms M xs → MeanValues ms M ys → MeanValues ms M (xs ++ ys)
  mean_both xs ys p q k N x e =
      elim (either xs ys k (N, x) e) [
        | inl f ↦ p k N x f
        | inr r ↦ q r.0 N x r.2
      ]

  pub all_both : (xs ys : List (Name × Name)) (ps qs : List ℕ) → AllMean ms M xs ps → AllMean ms M ys qs →
      AllMean ms M (xs ++ ys) (ps ++ qs)
  all_both xs ys ps qs p q = record {
    mean = mean_both xs ys p.mean q.mean;
    long =
        let a = p.long in
        let b = q.long in
        omega (arith, a, b, length-append ps qs, length-append xs ys);
  }

  -- a fault of the first names is one of all
  pub unknown_front : (xs ys : List (Name × Name)) (ps qs : List ℕ) (e : NameFault) → IsUnknownIn ms M xs ps e →
      IsUnknownIn ms M (xs ++ ys) (ps ++ qs) e
  unknown_front xs ys ps qs faults.Memory u = tt
  unknown_front xs ys ps qs (faults.UnknownName s) u =
      let r = u.1 in
      let w = slice_get_within xs r.number (r.owner, fault_name s) r.there in (
        u.0,
        record {
          number = r.number;
          owner = r.owner;
          there = left xs ys r.number (r.owner, fault_name s) r.there;
          reported = left ps qs r.number s.at r.reported;
          nothing = r.nothing;
          before = λ k N y l h.
              elim (either xs ys k (N, y) h) [
                | inl f ↦ r.before k N y l f
                | inr q ↦ (let g = q.1 in absurd (omega (arith, w, l, g)))
              ];
        },
      )
  unknown_front xs ys ps qs (faults.Limit l s) u = u
  unknown_front xs ys ps qs (faults.Twice s) u = u
  unknown_front xs ys ps qs (faults.NotExported s) u = u
  unknown_front xs ys ps qs (faults.Circular s) u = u
  unknown_front xs ys ps qs (faults.UnknownModule s) u = u

  -- a fault of the names after names that mean values is one of all
  pub unknown_after : (xs ys : List (Name × Name)) (ps qs : List ℕ) (e : NameFault) → AllMean ms M xs ps →
      IsUnknownIn ms M ys qs e → IsUnknownIn ms M (xs ++ ys) (ps ++ qs) e
  unknown_after xs ys ps qs faults.Memory m u = tt
  unknown_after xs ys ps qs (faults.UnknownName s) m u =
      let r = u.1 in (
        u.0,
        record {
          number = length xs + r.number;
          owner = r.owner;
          there = right xs ys r.number ∙ r.there;
          reported = subst (λ (n : ℕ). slice_get (ps ++ qs) (n + r.number) ≡ Some s.at) m.long (right ps qs r.number ∙ r.reported);
          nothing = r.nothing;
          before = λ k N y l h.
              elim (either xs ys k (N, y) h) [
                | inl f ↦ m.mean k N y f
                | inr q ↦ (let g = q.1 in r.before q.0 N y (omega (arith, l, g)) q.2)
              ];
        },
      )
  unknown_after xs ys ps qs (faults.Limit l s) m u = u
  unknown_after xs ys ps qs (faults.Twice s) m u = u
  unknown_after xs ys ps qs (faults.NotExported s) m u = u
  unknown_after xs ys ps qs (faults.Circular s) m u = u
  unknown_after xs ys ps qs (faults.UnknownModule s) m u = u

  -- what holds of the rest holds of the whole; all are the offsets of the whole, and these those of the rest
  pub record Left (whole rest : List (Name × Name)) (all these : List ℕ) : Type 0 where
    pub good : AllMean ms M rest these → AllMean ms M whole all
    pub fault : (e : NameFault) → IsUnknownIn ms M rest these e → IsUnknownIn ms M whole all e

  pub left_start : (whole : List (Name × Name)) (all : List ℕ) → Left whole whole all all
  left_start whole all = record { good = λ h. h; fault = λ e u. u }

  -- a list of things, where f gives the names in the view g of a thing, and h their offsets; thing x is at place i, and
  -- those before it are done
  module _ {X Y : Type 0} (f : Y → List (Name × Name)) (g : X → Y) (h : X → List ℕ) (xs : List X)
      (whole : List (Name × Name)) (all : List ℕ) (i : ℕ) where
    front : (x : X) → i < length xs → x ≡ get_or xs i x →
        each f (map g (drop i xs)) ≡ f (g x) ++ each f (map g (drop (i + 1) xs))
    front x l e = ap (λ r. each f (map g r)) (drop_at xs i x l e)

    front_places : (x : X) → i < length xs → x ≡ get_or xs i x →
        each h (drop i xs) ≡ h x ++ each h (drop (i + 1) xs)
    front_places x l e = ap (λ r. each h r) (drop_at xs i x l e)

    pub left_step : (x : X) → i < length xs → x ≡ get_or xs i x →
        Left whole (each f (map g (drop i xs))) all (each h (drop i xs)) → AllMean ms M (f (g x)) (h x) →
        Left whole (each f (map g (drop (i + 1) xs))) all (each h (drop (i + 1) xs))
    left_step x l e t m =
        let rest = each f (map g (drop (i + 1) xs)) in
        let these = each h (drop (i + 1) xs) in
        let q = front x l e in
        let o = front_places x l e in
        record {
          good = λ r. t.good (subst (λ z. AllMean ms M z (each h (drop i xs))) (sym q) (subst (AllMean ms M (f (g x) ++ rest)) (sym o) (all_both (f (g x)) rest (h x) these m r)));
          fault = λ b u. t.fault b (subst (λ z. IsUnknownIn ms M z (each h (drop i xs)) b) (sym q) (subst (λ z. IsUnknownIn ms M (f (g x) ++ rest) z b) (sym o) (unknown_after (f (g x)) rest (h x) these b m u)));
        }

    pub left_fault : (x : X) (b : NameFault) → i < length xs → x ≡ get_or xs i x →
        Left whole (each f (map g (drop i xs))) all (each h (drop i xs)) → IsUnknownIn ms M (f (g x)) (h x) b →
        IsUnknownIn ms M whole all b
    left_fault x b l e t u =
        let rest = each f (map g (drop (i + 1) xs)) in
        let these = each h (drop (i + 1) xs) in
        t.fault b (subst (λ z. IsUnknownIn ms M z (each h (drop i xs)) b) (sym (front x l e)) (subst (λ z. IsUnknownIn ms M (f (g x) ++ rest) z b) (sym (front_places x l e)) (unknown_front (f (g x)) rest (h x) these b u)))

    pub left_end : length xs ≤ i → Left whole (each f (map g (drop i xs))) all (each h (drop i xs)) →
        AllMean ms M whole all
    left_end l t =
        let n = none_left xs i l in
        t.good (subst (λ z. AllMean ms M z (each h (drop i xs))) (sym (ap (λ r. each f (map g r)) n)) (subst (λ z. AllMean ms M [] z) (sym (ap (λ r. each h r) n)) all_nothing))
