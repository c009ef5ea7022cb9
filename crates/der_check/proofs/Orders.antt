-- Encodings that ascend.
use Rattle.std.proofs.Common.{arith, ◌≡◌, ℕ, ◌+◌, ◌-◌, ◌<◌, ◌≤◌, true, false, List, [], ◌∷◌, ◌++◌, length, refl, sym, ap, subst, ◌∙◌, length-append}
use Rattle.std.specs.Prelude.{◌↔◌, IsTrue}
use Rattle.std.specs.List.{concat}
use Rattle.asn_base.specs.declared.tag.Tag.{Tag}
use Rattle.encodings.specs.Orders.{Ascending, ascending_none, ascending_one, ascending_more, AtMost}
use Rattle.der_check.specs.Broken.{FirstFall, falls_here, falls_later}
use Rattle.der_check.specs.Strict.{FallsAt}
use Rattle.der_check.specs.Units.{IsUnit, AreUnits}
use Rattle.der_check.proofs.Split.{HeadersApart, one_unit, unit_some}

pub yes : {P : Type 0} → P → IsTrue true ↔ P
yes p = (λ t. p, λ q. refl)

pub no : {P : Type 0} → (P → ⊥) → IsTrue false ↔ P
no n = (λ t. absurd (cc), λ p. absurd (n p))

pub at_zero : (P : ℕ → Type 0) (n : ℕ) → P n → P (0 + n)
at_zero P n p = subst P (let e : n ≡ 0 + n = omega arith in e) p

-- ---- encodings that ascend

-- The units that are left after the last one, which starts at an offset of a total of octets. The first one out of order
-- of these is that of all.
pub record AscendsFrom (all : List (List ℕ)) (last rest : List ℕ) (total : ℕ) : Type 0 where
  pub todo : List (List ℕ)
  pub before : ℕ
  pub units : AreUnits todo rest
  pub as_all : Ascending AtMost (last ∷ todo) → Ascending AtMost all
  pub falls : (y : List ℕ) (n : ℕ) → FirstFall AtMost (last ∷ todo) y n → FirstFall AtMost all y (before + n)
  pub reached : before + length last + length rest ≡ total

pub ascends_begin : (ys : List (List ℕ)) (o : List ℕ) → AreUnits ys o → AscendsFrom ys [] o (length o)
ascends_begin ys o u = record { todo = ys; before = 0; units = u; as_all = following ys; falls = λ y n h. at_zero (FirstFall AtMost ys y) n (falling ys y n h); reached = omega arith }
  where
    following : (ys : List (List ℕ)) → Ascending AtMost ([] ∷ ys) → Ascending AtMost ys
    following [] ascending_one = ascending_none
    following (y ∷ ys) (ascending_more h k) = k

    falling : (ys : List (List ℕ)) (y : List ℕ) (n : ℕ) → FirstFall AtMost ([] ∷ ys) y n → FirstFall AtMost ys y n
    falling [] z n h = elim h [ ]
    falling (y ∷ ys) z n (falls_here f) = absurd (f tt)
    falling (y ∷ ys) z n (falls_later {n = m} h f) = at_zero (FirstFall AtMost (y ∷ ys) z) m f

-- what follows is shorter
pub shorter : {o x : List ℕ} {g : Tag} (rest : List ℕ) → IsUnit g x → o ≡ x ++ rest → length rest < length o
shorter {x = x} rest u e = let a = ap length e in let b = length-append x rest in let c = unit_some u in omega arith

-- the first of the units that are left
pub record Front (todo : List (List ℕ)) (x rest : List ℕ) : Type 0 where
  pub more : List (List ℕ)
  pub is : todo ≡ x ∷ more
  pub units : AreUnits more rest

pub front_of : HeadersApart → (todo : List (List ℕ)) {o x rest : List ℕ} {g : Tag} → AreUnits todo o → IsUnit g x → o ≡ x ++ rest → Front todo x rest
front_of law [] {x = x} {rest = rest} u i e = absurd (let a = ap length (sym u.whole ∙ e) in let b = unit_some i in let c = length-append x rest in omega (arith, a, b, c))
front_of law (y ∷ todo) {o} {x} {rest} u i e =
    let r = one_unit law i u.units.0.1 (sym e ∙ u.whole) in
    record {
      more = todo;
      is = ap (λ q. q ∷ todo) (sym r.octets);
      units = record { units = u.units.1; whole = r.rests; short = (let a = ap length e in let b = length-append x rest in let c = u.short in omega arith) };
    }

-- there is no unit if nothing is left
pub front_there : {todo : List (List ℕ)} {o : List ℕ} → AreUnits todo o → (length o ≡ 0 → ⊥) → ((g : Tag) (x r : List ℕ) → IsUnit g x → o ≡ x ++ r → length o ≤ 16777216 → ⊥) → ⊥
front_there {todo = []} u n f = n (ap length u.whole)
front_there {todo = y ∷ ys} u n f = f u.units.0.0 y (concat ys) u.units.0.1 u.whole u.short

pub ascends_refused : {all : List (List ℕ)} {last x o rest : List ℕ} {g : Tag} {total : ℕ} (offset : ℕ) (all_octets : List ℕ) → (a : AscendsFrom all last o total) → Front a.todo x rest → IsUnit g x → o ≡ x ++ rest → (AtMost last x → ⊥) → total ≡ length all_octets → offset ≡ length all_octets - length o → FallsAt AtMost all all_octets offset
ascends_refused {all} {last = last} {x = x} {o = o} {rest = rest} offset all_octets a f u e n t d =
    let h = a.falls x (length last) (subst (λ q. FirstFall AtMost (last ∷ q) x (length last)) (sym f.is) (falls_here n)) in
    let r = a.reached in
    let l = ap length e in
    let b = length-append x rest in
    let c = unit_some u in
    let at : a.before + length last ≡ offset = omega (arith, r, t, d) in
    (x, subst (FirstFall AtMost all x) at h, omega (arith, r, t, d, l, b, c))

pub ascends_next : HeadersApart → {all : List (List ℕ)} {last x o rest : List ℕ} {g : Tag} {total : ℕ} → AscendsFrom all last o total → IsUnit g x → o ≡ x ++ rest → AtMost last x → AscendsFrom all x rest total
ascends_next law {all} {last} {x} {o} {rest} a i e m =
    let f = front_of law a.todo a.units i e in
    record {
      todo = f.more;
      before = a.before + length last;
      units = f.units;
      as_all = λ h. a.as_all (subst (λ q. Ascending AtMost (last ∷ q)) (sym f.is) (ascending_more m h));
      falls = λ y n h. subst (FirstFall AtMost all y) (let z : a.before + (length last + n) ≡ (a.before + length last) + n = omega arith in z) (a.falls y (length last + n) (subst (λ q. FirstFall AtMost (last ∷ q) y (length last + n)) (sym f.is) (falls_later m h)));
      reached = (let r = a.reached in let l = ap length e in let b = length-append x rest in omega (arith, r, l, b));
    }

pub ascends_end : {all : List (List ℕ)} {last o : List ℕ} {total : ℕ} → AscendsFrom all last o total → length o ≡ 0 → Ascending AtMost all
ascends_end {all} {last} {o} a e = a.as_all (by a.todo a.units)
  where
    by : (todo : List (List ℕ)) → AreUnits todo o → Ascending AtMost (last ∷ todo)
    by [] u = ascending_one
    by (y ∷ ys) u = absurd (let l = ap length u.whole in let b = unit_some u.units.0.1 in let c = length-append y (concat ys) in omega (arith, l, b, c, e))

-- there is one first one out of order
pub fall_one : {R : List ℕ → List ℕ → Type 0} {xs : List (List ℕ)} {y z : List ℕ} {n m : ℕ} → FirstFall R xs y n → FirstFall R xs z m → (y ≡ z) × (n ≡ m)
fall_one (falls_here f) (falls_here g) = (refl, refl)
fall_one (falls_here f) (falls_later h k) = absurd (f h)
fall_one (falls_later h k) (falls_here f) = absurd (f h)
fall_one (falls_later {x = x} h k) (falls_later h' k') = let r = fall_one k k' in (r.0, ap (λ q. length x + q) r.1)

-- what has a first one out of order doesn't ascend
pub falls_not : {R : List ℕ → List ℕ → Type 0} {xs : List (List ℕ)} {y : List ℕ} {n : ℕ} → FirstFall R xs y n → Ascending R xs → ⊥
falls_not (falls_here f) (ascending_more h k) = f h
falls_not (falls_later h f) (ascending_more h' k) = falls_not f k
