-- The ends of places. Each written member ends at the end of its place.
use Rattle.std.proofs.Common.{arith, ◌⊎◌, inl, inr, ⊎_elim, Bool, true, false, not, ◌≡◌, ℕ, zero, suc, ◌+◌, ◌-◌, ◌<◌, ◌≤◌, List, [], ◌∷◌, ◌++◌, length, take, get_or, refl, sym, ap, subst, ◌∙◌, Bor}
use Rattle.std.specs.Prelude.{◌↔◌, Some, slice_get}
use Rattle.std.specs.List.{sum}
use Rattle.std.proofs.lemmas.Option.{slice_get_within}
use Rattle.encodings.specs.Account.{Rows, ArePlaces}
use Rattle.octet_account.specs.declared.row.Places.{Places}
use Rattle.octet_account.specs.Flat.{FlatRow, member_rows}
use Rattle.account_checker.specs.declared.checks.Checks.{Checks}
use Rattle.account_checker.specs.declared.order.Order.{Order}
use Rattle.account_checker.specs.declared.order.Order.TheVariants.{Placed}
use Rattle.account_checker.specs.Follows.{Checked, sizes, before, by_place}
use Rattle.account_checker.specs.Parts.{Member, is_absent, is_default, is_written, put, size_in, size_or, count_or, end_before, EndsAt, EndsFrom, AreEnds, AreInOrder}
use Rattle.account_checker.proofs.Members.{next, LeftAt, first, passed}
use Rattle.account_checker.proofs.SentBack.{found, same_some}
use Rattle.account_checker.proofs.Skipping.{taken_next}

-- after the first place, each place begins where the one before it ends
pub end_further : (es : List ℕ) (j : ℕ) → (j ≡ 0 → ⊥) → get_or es (j - 1) 0 ≡ end_before es j
end_further es zero n = absurd (n refl)
end_further es (suc j) n = ap (λ k. get_or es k 0) (let e : suc j - 1 ≡ j = omega arith in e)

pub end_first : (es : List ℕ) (j : ℕ) → j ≡ 0 → 0 ≡ end_before es j
end_first es j e = sym (ap (end_before es) e)

-- the next member, and those after it
pub ends_step : (p es : List ℕ) (k : ℕ) (m : Member) (rs : Rows) → EndsFrom p es k (sizes (put m rs)) ↔ EndsAt p es k (size_in m) × EndsFrom p es (next m k) (sizes rs)
ends_step p es k is_absent rs = (λ d. (tt, d), λ d. d.1)
ends_step p es k is_default rs = (λ d. (tt, d), λ d. d.1)
ends_step p es k (is_written a) rs = (λ d. d, λ d. d)

-- what is left of members that are counted
abbrev pub CountsLeft : Rows → List FlatRow → List FlatRow → ℕ → ℕ → ℕ → Type 0
CountsLeft rs left rest n place number = LeftAt (Unit {0}) (λ k ms. Unit {0}) (sizes rs) left rest n place number

-- the same, if the members before it end at the ends of their places
abbrev pub EndsLeft : List ℕ → List ℕ → Rows → List FlatRow → List FlatRow → ℕ → ℕ → ℕ → Type 0
EndsLeft p es rs left rest n place number =
    LeftAt (EndsFrom p es 0 (sizes rs)) (λ k ms. EndsFrom p es k (sizes ms)) (sizes rs) left rest n place number

module _ (rs : Rows) {left left' rest : List FlatRow} {n n' place place' number number' : ℕ} where
  pub counts_next : (h : CountsLeft rs left rest n place number) (some : 0 < n) → left' ≡ member_rows (first h some).following ++ rest → suc n' ≡ n → place' ≡ place + size_or (size_in (first h some).member) → number' ≡ number + count_or (size_in (first h some).member) → CountsLeft rs left' rest n' place' number'
  counts_next h some e f g c = passed (λ k ms. Unit {0}) (λ k ms. Unit {0}) (λ m. Unit {0}) h some (λ m ms. (λ d. (tt, tt), λ d. tt)) tt e f g c

  pub ends_next : (p es : List ℕ) (h : EndsLeft p es rs left rest n place number) (some : 0 < n) → EndsAt p es number (size_in (first h some).member) → left' ≡ member_rows (first h some).following ++ rest → suc n' ≡ n → place' ≡ place + size_or (size_in (first h some).member) → number' ≡ number + count_or (size_in (first h some).member) → EndsLeft p es rs left' rest n' place' number'
  ends_next p es h some a e f g c = passed (λ k ms. EndsFrom p es k (sizes ms)) (λ k ms. EndsFrom p es k (sizes ms)) (λ m. EndsAt p es number (size_in m)) h some (ends_step p es number) a e f g c

-- each one
at_number : (p es : List ℕ) (k : ℕ) (ns : List ℕ) → EndsFrom p es k ns → (i : ℕ) → i < length ns → EndsAt p es (k + i) (Some (get_or ns i 0))
at_number p es k [] d i l = absurd (omega arith)
at_number p es k (n ∷ ns) d zero l = subst (λ j. EndsAt p es j (Some n)) (let e : k ≡ k + 0 = omega arith in e) d.0
at_number p es k (n ∷ ns) d (suc i) l = subst (λ j. EndsAt p es j (Some (get_or ns i 0))) (let e : suc k + i ≡ k + suc i = omega arith in e) (at_number p es (suc k) ns d.1 i (omega arith))

-- what a list has at a number
number_there : (xs : List ℕ) (i j : ℕ) → slice_get xs i ≡ Some j → get_or xs i 0 ≡ j
number_there xs i j e = same_some (sym (found xs i 0 (slice_get_within xs i j e)) ∙ e)

number_past : (xs : List ℕ) (i : ℕ) → length xs ≤ i → get_or xs i 0 ≡ 0
number_past [] zero l = refl
number_past [] (suc i) l = refl
number_past (x ∷ xs) zero l = absurd (omega arith)
number_past (x ∷ xs) (suc i) l = number_past xs i (omega arith)

below_or_past : (i n : ℕ) → (i < n) ⊎ (n ≤ i)
below_or_past i zero = inr (omega arith)
below_or_past zero (suc n) = inl (omega arith)
below_or_past (suc i) (suc n) = ⊎_elim (λ l. inl (let k : i < n = l in omega arith)) (λ l. inr (let k : n ≤ i = l in omega arith)) (below_or_past i n)

module _ (ns p q es : List ℕ) (a : ArePlaces (length ns) p q) (d : EndsFrom p es 0 ns) where
  -- the member at a place
  at_place : (j : ℕ) → j < length q → end_before es j + get_or ns (get_or q j 0) 0 ≡ get_or es j 0
  at_place j l =
      let f = a.back (get_or q j 0) j (found q j 0 l) in
      let w = slice_get_within p (get_or q j 0) j f in
      let m = a.each_member in
      subst (λ k. end_before es k + get_or ns (get_or q j 0) 0 ≡ get_or es k 0) (number_there p (get_or q j 0) j f)
      (subst (λ k. EndsAt p es k (Some (get_or ns (get_or q j 0) 0))) (let e : 0 + get_or q j 0 ≡ get_or q j 0 = omega arith in e) (at_number p es 0 ns d (get_or q j 0) (omega (arith, w, m))))

  up_to : (j : ℕ) → j ≤ length q → before (by_place ns q) j ≡ end_before es j
  up_to zero l = refl
  up_to (suc j) l =
      ap (λ k. sum (take k (by_place ns q))) (let e : suc j ≡ j + 1 = omega arith in e)
      ∙ taken_next ns q j (omega arith)
      ∙ ap (λ k. k + get_or ns (get_or q j 0) 0) (up_to j (omega arith))
      ∙ at_place j (omega arith)

  ends_right : (k : ℕ) → before (by_place ns q) (get_or p k 0) ≡ end_before es (get_or p k 0)
  ends_right k = by (below_or_past k (length p))
    where
      by : (k < length p) ⊎ (length p ≤ k) → before (by_place ns q) (get_or p k 0) ≡ end_before es (get_or p k 0)
      by (inl l) = up_to (get_or p k 0) (let w = slice_get_within q (get_or p k 0) k (a.there k (get_or p k 0) (found p k 0 l)) in omega arith)
      by (inr l) = ap (λ j. before (by_place ns q) j) (number_past p k l) ∙ sym (ap (end_before es) (number_past p k l))

where_asked : (b : Bool) {P : Type 0} → not b ≡ false → Checked b P → P
where_asked true e w = w
where_asked false e w = absurd (cc)

-- places of that many members, each of which ends at the end of its place
pub are_right : (s : Checks) {o : Order} (b : Bor Places) (ns : List ℕ) {n : ℕ} → o ≡ Placed b → AreInOrder s o n → not s.places ≡ false → n ≡ length ns → EndsFrom b.now.places.items b.now.ends.items 0 ns → AreEnds o ns
are_right s {o} b ns {n} g w e f d =
    subst (λ r. AreEnds r ns) (sym g)
    (ends_right ns b.now.places.items b.now.inverse.items b.now.ends.items (subst (λ k. ArePlaces k b.now.places.items b.now.inverse.items) f (where_asked s.places e (subst (λ r. AreInOrder s r n) g w))) d)
