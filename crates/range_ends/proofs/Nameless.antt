-- Under a constrained type without named numbers, values lead where their references do.
use Rattle.std.proofs.Common.{◌≡◌, inl, inr, ℕ, ℤ, ◌<◌, List, length, get_or, Option, Some, None, refl, sym, ◌∙◌, arith}
use Rattle.trees.specs.Values.{Name, Tree, reference}
use Rattle.type_table.specs.Table.{WrittenKind}
use Rattle.resolve.specs.Program.{Program, IsWhole}
use Rattle.type_table.specs.Walks.{follow}
use Rattle.range_ends.specs.Ends.{direct_number}
use Rattle.range_ends.specs.proving.Steps.{MeansValue, listed, AreReferred, number_at, next}
use Rattle.range_ends.specs.proving.Ways.{Ends, EndsWithout, Turns}
use Rattle.range_ends.specs.proving.Far.{IsFar, AreFar, IsNameless}
use Rattle.range_ends.proofs.References.{refers_within}
use Rattle.range_ends.proofs.Doubling.{far_at, far_inside, far_back, same_follow}
use Rattle.range_ends.specs.proving.Turning.{ComesRound, IsFirstBack}
use Rattle.range_ends.proofs.Turning.{goes_round, round_also, first_also}
use Rattle.range_ends.proofs.Following.{number_here, next_number, next_on}

nameless_number : (p : Program) (k : WrittenKind) (M : Name) (n : Tree) (j : ℕ) → IsNameless k → MeansValue p M n j → direct_number k n ≡ None
nameless_number p k M (reference q x) j h m = h q x
nameless_number p k M n j h m = absurd m

module _ (p : Program) (k : WrittenKind) (os : List (Option ℕ)) (a : AreReferred p os) (h : IsNameless k) where
  refers_none : (i : ℕ) (z : ℤ) (o : Option ℕ) → listed os i ≡ o → number_at p k i ≡ Some z → o ≡ None
  refers_none i z None e t = refl
  refers_none i z (Some j) e t =
      let r = (a.each i j).0 e in
      let f : None ≡ Some z = sym (nameless_number p k r.within r.notation j h r.means)
      ∙ sym (number_here p k i r.within r.notation r.at) ∙ t in
      absurd cc

  next_at : (i : ℕ) (o : Option ℤ) → number_at p k i ≡ o → next p k os i ≡ listed os i
  next_at i None t = next_on p k os i t
  next_at i (Some z) t = next_number p k os i z t ∙ sym (refers_none i z (listed os i) refl t)

  pub same_next : (i : ℕ) → next p k os i ≡ listed os i
  same_next i = next_at i (number_at p k i) refl

module _ (p : Program) (k : WrittenKind) (os : List (Option ℕ)) (cs : List ℕ) (i : ℕ)
    (a : AreReferred p os)
    (w : IsWhole p)
    (h : IsNameless k)
    (f : AreFar os (length os) cs)
    (l : i < length p.values) where
  it : IsFar os (length os) i (get_or cs i 0)
  it = far_at os (length os) cs i f (omega (arith, l, f.all, a.all))

  pub it_inside : get_or cs i 0 < length os
  it_inside = far_inside os (length os) i (get_or cs i 0) (refers_within p os w a) (omega (arith, l, a.all)) it

  leads_there : follow (next p k os) it.steps i ≡ Some (get_or cs i 0)
  leads_there = same_follow (next p k os) (listed os) it.steps i (same_next p k os a h) ∙ it.chain

  pub it_ends : (z : ℤ) → number_at p k (get_or cs i 0) ≡ Some z → Ends p k os i z
  it_ends z t = record {
    last = get_or cs i 0;
    way = record { steps = it.steps; chain = leads_there; ends = next_number p k os (get_or cs i 0) z t };
    number_is = t;
  }

  pub it_is_lost : number_at p k (get_or cs i 0) ≡ None → listed os (get_or cs i 0) ≡ None → EndsWithout p k os i
  it_is_lost t e = record {
    last = get_or cs i 0;
    way = record { steps = it.steps; chain = leads_there; ends = next_on p k os (get_or cs i 0) t ∙ e };
    number_is = t;
    alone = e;
  }

  pub it_turns : (j : ℕ) → listed os (get_or cs i 0) ≡ Some j → ComesRound (listed os) i (get_or cs i 0)
  it_turns j e = record {
    reaches = record { steps = it.steps; chain = it.chain };
    back = elim it.far [
      | inl g ↦ (let b : None ≡ Some j = sym g ∙ e in absurd cc)
      | inr m ↦ far_back (listed os) (length os) it.steps i (get_or cs i 0)
          (refers_within p os w a) (omega (arith, l, a.all)) m it.chain
    ];
  }

  pub it_is_first : (j v : ℕ) → listed os (get_or cs i 0) ≡ Some j → IsFirstBack (listed os) i v → Turns p k os i v
  it_is_first j v e b =
      let r = round_also (listed os) (next p k os) (λ c d f. same_next p k os a h c ∙ f) i (get_or cs i 0) (it_turns j e) in
      first_also (next p k os) (listed os) (λ c d f. sym (same_next p k os a h c) ∙ f) i v
      (goes_round (next p k os) i (get_or cs i 0) r) b
