-- Walks that come into a circle, and the first place of the circle.
use Rattle.std.proofs.Common.{◌≡◌, ◌⊎◌, inl, inr, ℕ, zero, suc, ◌+◌, ◌-◌, ◌*◌, ◌<◌, ◌≤◌, true, false, Bool, Option, Some, None, refl, sym, ap, ◌∙◌, arith, cond, eqb}
use Rattle.std.proofs.Math.Nat.{mul-le-mul_left}
use Rattle.std.proofs.lemmas.Bool.{eqb-true, eq-eqb, cases_Bool}
use Rattle.type_table.specs.Walks.{onward, follow, ComesBack, IsWithin}
use Rattle.type_table.specs.proving.Walks.{walk_walk, one_more, ended_few, ends_not_back}
use Rattle.range_ends.specs.proving.Turning.{ComesRound, IsFirstBack, IsRound, Goes}
use Rattle.range_ends.proofs.Circles.{le_or, ends_next, ends_after}

some_place : (a b : ℕ) → Some a ≡ Some b → a ≡ b
some_place a b e = cc

-- a step and then more steps
pub first_step : (next : ℕ → Option ℕ) (s i j : ℕ) → next i ≡ Some j → follow next (suc s) i ≡ follow next s j
first_step next s i j e = ap (λ o. onward o (λ k. follow next s k)) e

-- below a number, or that number
pub less_or : (s n : ℕ) → s < n + 1 → (s < n) ⊎ (s ≡ n)
less_or zero zero l = inr refl
less_or zero (suc n) l = inl (omega arith)
less_or (suc s) zero l = absurd (omega (arith, l))
less_or (suc s) (suc n) l =
    elim (less_or s n (omega (arith, l))) [
      | inl h ↦ inl (omega (arith, h))
      | inr h ↦ inr (ap suc h)
    ]

-- ---- references that never end

pub goes_round : (next : ℕ → Option ℕ) (i c : ℕ) → ComesRound next i c → Goes next i
goes_round next i c r d e = ends_not_back next c d (ends_after next i c d r.reaches.steps r.reaches.chain e) r.back

pub back_goes : (next : ℕ → Option ℕ) (c : ℕ) → ComesBack next c → Goes next c
back_goes next c b d e = ends_not_back next c d e b

on_or_end : (next : ℕ → Option ℕ) (i : ℕ) (o : Option ℕ) → next i ≡ o → Goes next i → (j : ℕ) × (next i ≡ Some j)
on_or_end next i None e g = absurd (g i (record { steps = 0; chain = refl; ends = e }))
on_or_end next i (Some j) e g = (j, e)

pub goes_on : (next : ℕ → Option ℕ) (i : ℕ) → Goes next i → (j : ℕ) × (next i ≡ Some j)
goes_on next i g = on_or_end next i (next i) refl g

pub goes_next : (next : ℕ → Option ℕ) (i j : ℕ) → next i ≡ Some j → Goes next i → Goes next j
goes_next next i j e g c h = g c (ends_next next i j c e h)

pub goes_far : (next : ℕ → Option ℕ) (s i q : ℕ) → follow next s i ≡ Some q → Goes next i → Goes next q
goes_far next s i q e g c h =
    g c (record { steps = s + h.steps; chain = walk_walk next s h.steps i q e ∙ h.chain; ends = h.ends })

-- any number of steps lead somewhere
pub goes_all : (next : ℕ → Option ℕ) (s i : ℕ) → Goes next i → (q : ℕ) × (follow next s i ≡ Some q)
goes_all next zero i g = (i, refl)
goes_all next (suc s) i g =
    let n = goes_on next i g in
    let r = goes_all next s n.0 (goes_next next i n.0 n.1 g) in
    (r.0, first_step next s i n.0 n.1 ∙ r.1)

-- ---- the circle

-- each place of the circle is met again after as many steps as are once around
round_far : (next : ℕ → Option ℕ) (a l c q : ℕ) →
    follow next a c ≡ Some q →
    follow next l c ≡ Some c →
    follow next l q ≡ Some q
round_far next a l c q e f =
    let s : a + l ≡ l + a = omega arith in
    sym (walk_walk next a l c q e) ∙ ap (λ k. follow next k c) s ∙ walk_walk next l a c c f ∙ e

many_rounds : (next : ℕ → Option ℕ) (n s i : ℕ) → follow next (suc s) i ≡ Some i → follow next (n * suc s) i ≡ Some i
many_rounds next zero s i e = let z : zero * suc s ≡ zero = omega arith in rw z refl
many_rounds next (suc n) s i e =
    let z : suc n * suc s ≡ suc s + n * suc s = omega arith in
    rw z (walk_walk next (suc s) (n * suc s) i i e ∙ many_rounds next n s i e)

one_le : (n : ℕ) → 1 ≤ suc n
one_le n = omega arith

-- what a place of a circle leads to leads back to it
leads_back : (next : ℕ → Option ℕ) (m q c : ℕ) →
    follow next m q ≡ Some c →
    ComesBack next q →
    (b : ℕ) × (follow next b c ≡ Some q)
leads_back next m q c e v =
    let all : ℕ = suc m * suc v.steps in
    let more : m + 1 ≤ all = omega (arith, mul-le-mul_left (suc m) (one_le v.steps)) in
    let r : ℕ = all - m in
    let s : m + r ≡ all = omega (arith, more) in
    (r, sym (walk_walk next m r q c e) ∙ ap (λ k. follow next k q) s ∙ many_rounds next (suc m) v.steps q v.back)

-- two places on one way, the first of which is in a circle: the other leads to it
one_circle : (next : ℕ → Option ℕ) (s r i q c : ℕ) →
    follow next s i ≡ Some q →
    follow next r i ≡ Some c →
    ComesBack next q →
    (a : ℕ) × (follow next a c ≡ Some q)
one_circle next s r i q c e f v =
    elim (le_or r s) [
      | inl h ↦ (let a : ℕ = s - r in
          let t : r + a ≡ s = omega (arith, h) in
          (a, sym (walk_walk next r a i c f) ∙ ap (λ k. follow next k i) t ∙ e))
      | inr h ↦ (let m : ℕ = r - s in
          let t : s + m ≡ r = omega (arith, h) in
          leads_back next m q c (sym (walk_walk next s m i q e) ∙ ap (λ k. follow next k i) t ∙ f) v)
    ]

pub met_again : (next : ℕ → Option ℕ) (i c l s q : ℕ) →
    ComesRound next i c →
    IsRound next c l →
    follow next s i ≡ Some q →
    ComesBack next q →
    follow next l q ≡ Some q
met_again next i c l s q r o e v =
    let a = one_circle next s r.reaches.steps i q c e r.reaches.chain v in
    round_far next a.0 l c q a.1 o.chain

pub back_again : (next : ℕ → Option ℕ) (l c : ℕ) → 0 < l → follow next l c ≡ Some c → ComesBack next c
back_again next zero c h e = absurd (omega (arith, h))
back_again next (suc l) c h e = record { steps = l; back = e }

-- two places that are as many steps apart, each a step further
pub both_on : (next : ℕ → Option ℕ) (l at ahead on further : ℕ) →
    follow next l at ≡ Some ahead →
    next at ≡ Some on →
    next ahead ≡ Some further →
    follow next l on ≡ Some further
both_on next l at ahead on further e f g =
    let s : suc l ≡ l + 1 = omega arith in
    sym (first_step next l at on f) ∙ ap (λ k. follow next k at) s ∙ one_more next l at ahead further e g

-- ---- a circle has at most as many places as there are

abbrev unless_it : ℕ → Option ℕ → Option ℕ
unless_it c None = None
unless_it c (Some j) = cond (eqb j c) None (Some j)

-- the references that don't lead to place c
abbrev cut : (ℕ → Option ℕ) → ℕ → ℕ → Option ℕ
cut next c i = unless_it c (next i)

was_there : (c j : ℕ) (o : Option ℕ) → unless_it c o ≡ Some j → o ≡ Some j
was_there c j None e = absurd cc
was_there c j (Some i) e = kept (eqb i c) e
  where
    kept : (b : Bool) → cond b None (Some i) ≡ Some j → ◌≡◌ {A = Option ℕ} (Some i) (Some j)
    kept true g = absurd cc
    kept false g = g

also_on : (f g : ℕ → Option ℕ) (s i q : ℕ) (o : Option ℕ) →
    f i ≡ o →
    ((j : ℕ) → f i ≡ Some j → follow f s j ≡ Some q → follow g (suc s) i ≡ Some q) →
    onward o (λ k. follow f s k) ≡ Some q →
    follow g (suc s) i ≡ Some q
also_on f g s i q None d go x = absurd cc
also_on f g s i q (Some j) d go x = go j d x

-- where one leads, so does the other
pub also : (f g : ℕ → Option ℕ) (s i q : ℕ) →
    ((k j : ℕ) → f k ≡ Some j → g k ≡ Some j) →
    follow f s i ≡ Some q →
    follow g s i ≡ Some q
also f g zero i q h e = e
also f g (suc s) i q h e =
    also_on f g s i q (f i) refl (λ j d x. first_step g s i j (h i j d) ∙ also f g s j q h x) e

-- the walk that stops before place c
record StopsBefore (next : ℕ → Option ℕ) (c i : ℕ) : Type 0 where
  steps : ℕ
  last : ℕ
  chain : follow (cut next c) steps i ≡ Some last
  arrives : next last ≡ Some c

stops_later : (next : ℕ → Option ℕ) (c i j : ℕ) →
    next i ≡ Some j →
    eqb j c ≡ false →
    StopsBefore next c j →
    StopsBefore next c i
stops_later next c i j d b r =
    let on : cut next c i ≡ Some j = ap (unless_it c) d ∙ ap (λ z. cond z None (Some j)) b in
    record {
      steps = suc r.steps;
      last = r.last;
      chain = first_step (cut next c) r.steps i j on ∙ r.chain;
      arrives = r.arrives;
    }

stops_on : (next : ℕ → Option ℕ) (c t i : ℕ) (o : Option ℕ) →
    next i ≡ o →
    ((j : ℕ) → eqb j c ≡ false → follow next t j ≡ Some c → StopsBefore next c j) →
    onward o (λ k. follow next t k) ≡ Some c →
    StopsBefore next c i
stops_on next c t i None d go x = absurd cc
stops_on next c t i (Some j) d go x =
    elim (cases_Bool (eqb j c)) [
      | inl b ↦ record { steps = 0; last = i; chain = refl; arrives = d ∙ ap Some (eqb-true j c b) }
      | inr b ↦ stops_later next c i j d b (go j b x)
    ]

not_here : {A : Type 0} (j c : ℕ) → eqb j c ≡ false → Some j ≡ Some c → A
not_here j c b x =
    let q : true ≡ false = sym (eq-eqb j c (some_place j c x)) ∙ b in
    absurd cc

stops_before : (next : ℕ → Option ℕ) (c t i : ℕ) → follow next (suc t) i ≡ Some c → StopsBefore next c i
stops_before next c zero i e = stops_on next c zero i (next i) refl (λ j b x. not_here j c b x) e
stops_before next c (suc t) i e = stops_on next c (suc t) i (next i) refl (λ j b x. stops_before next c t j x) e

cut_ends : (next : ℕ → Option ℕ) (c q : ℕ) → next q ≡ Some c → cut next c q ≡ None
cut_ends next c q e = ap (unless_it c) e ∙ ap (λ z. cond z None (Some c)) (eq-eqb c c refl)

pub short_round : (next : ℕ → Option ℕ) (n c : ℕ) →
    IsWithin next n →
    c < n →
    ComesBack next c →
    (s : ℕ) × (s < n) × (follow next (s + 1) c ≡ Some c)
short_round next n c w l v =
    let r = stops_before next c v.steps c v.back in (
      r.steps,
      ended_few (cut next c) n r.steps c r.last (λ i j e. w i j (was_there c j (next i) e)) l r.chain (cut_ends next c r.last r.arrives),
      one_more next r.steps c r.last c
          (also (cut next c) next r.steps c r.last (λ k j e. was_there c j (next k) e) r.chain) r.arrives,
    )

-- ---- one way of going on that leads wherever another does

module _ (f g : ℕ → Option ℕ) (h : (k j : ℕ) → f k ≡ Some j → g k ≡ Some j) where
  pub back_also : (c : ℕ) → ComesBack f c → ComesBack g c
  back_also c v = record { steps = v.steps; back = also f g (suc v.steps) c c h v.back }

  pub round_also : (i c : ℕ) → ComesRound f i c → ComesRound g i c
  round_also i c r = record {
    reaches = record { steps = r.reaches.steps; chain = also f g r.reaches.steps i c h r.reaches.chain };
    back = back_also c r.back;
  }

  same_place : (s i v : ℕ) → Goes f i → follow g s i ≡ Some v → follow f s i ≡ Some v
  same_place s i v n e =
      let q = goes_all f s i n in
      let same = some_place q.0 v (sym (also f g s i q.0 h q.1) ∙ e) in
      q.1 ∙ ap Some same

  pub first_also : (i v : ℕ) → Goes f i → IsFirstBack g i v → IsFirstBack f i v
  first_also i v n b =
      let chain = same_place b.steps i v n b.chain in
      record {
        steps = b.steps;
        chain = chain;
        back = record {
          steps = b.back.steps;
          back = same_place (suc b.back.steps) v v (goes_far f b.steps i v chain n) b.back.back;
        };
        first = λ s q l e w. b.first s q l (also f g s i q h e) (back_also q w);
      }
