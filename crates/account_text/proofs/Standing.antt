-- What stands for the rows that are left, from one row to the next.
use Rattle.std.proofs.Common.{drop, drop-cons, get_or, ◌≡◌, ℕ, zero, suc, ◌+◌, ◌-◌, ◌≤◌, ◌<◌, true, false, List, [], ◌∷◌, ◌++◌, length, reverse, refl, sym, ap, ◌∙◌, subst, arith, append-nil, length-append}
use Rattle.std.proofs.lemmas.List.{reverse-append, drop_all}
use Rattle.std.specs.Prelude.{Option, Some, None, option_to_list, IfSome, is_some}
use Rattle.octet_account.specs.Flat.{FlatRow, a_leaf, a_wrap, a_seq, a_seqof, a_set, a_setof, an_absent, a_default}
use Rattle.account_text.specs.declared.stack.Open.{Open}
use Rattle.account_text.specs.proving.Tokens.{IsSmallRow}
use Rattle.account_text.specs.proving.Stack.{Left, AgreesWithStack, root, inside_of, is_left_out}
use Rattle.account_text.proofs.Leaving.{MayStand, Deeper, taken, put_back, none_deeper, none_in, all_read, none_to_read, an_account, from_account}
use Rattle.encodings.specs.Account.{Account}
use Rattle.octet_account.specs.Flat.{AreRows}
use Rattle.octet_account.specs.Seen.{flat_row, flat}
use Rattle.octet_account.specs.declared.row.Row.{Row}
use Rattle.std.specs.List.{AllByRecursion}

-- the innermost is the last
turned : (fs : List Open) (f : Open) → reverse (fs ++ f ∷ []) ≡ f ∷ reverse fs
turned fs f = reverse-append fs (f ∷ [])

abbrev at : ℕ → List Open → List FlatRow → Type 0
at n fs rs = Left n (reverse fs) rs

abbrev turn : (n : ℕ) (fs : List Open) (f : Open) (rs : List FlatRow) → at n (fs ++ f ∷ []) rs → Left n (f ∷ reverse fs) rs
turn n fs f rs h = subst (λ gs. Left n gs rs) (turned fs f) h

abbrev turn_back : (n : ℕ) (fs : List Open) (f : Open) (rs : List FlatRow) → Left n (f ∷ reverse fs) rs → at n (fs ++ f ∷ []) rs
turn_back n fs f rs h = subst (λ gs. Left n gs rs) (sym (turned fs f)) h

pub closed : {all : List FlatRow} {fs : List Open} {rs : List FlatRow} (f : Open) → f.left ≡ 0 → AgreesWithStack all (fs ++ f ∷ []) rs → AgreesWithStack all fs rs
closed {all} {fs} {rs} f e h =
    let same : f ≡ record { left = 0; all_written = f.all_written } = ap (λ n. record { left = n; all_written = f.all_written }) e in
    record {
      level = suc h.level;
      deep = omega (arith, h.deep, length-append fs (f ∷ []));
      to = λ x. all_read h.level f.all_written (reverse fs) rs (subst (λ g. Left h.level (g ∷ reverse fs) rs) same (turn h.level fs f rs (h.to x)));
      from = λ x. h.from (turn_back h.level fs f rs (subst (λ g. Left h.level (g ∷ reverse fs) rs) (sym same) (none_to_read h.level f.all_written (reverse fs) rs x)));
    }

counted : (f : Open) → 0 < f.left → f ≡ record { left = suc (f.left - 1); all_written = f.all_written }
counted f h =
    let e : f.left ≡ suc (f.left - 1) = omega arith in
    ap (λ n. record { left = n; all_written = f.all_written }) e

abbrev pub one_fewer : Open → Open
one_fewer f = record { left = f.left - 1; all_written = f.all_written }

module _ (all : List FlatRow) (fs : List Open) (rs : List FlatRow) (f : Open) (r : FlatRow) (some : 0 < f.left) (h : AgreesWithStack all (fs ++ f ∷ []) (r ∷ rs)) where
  abbrev again : Open
  again = record { left = suc (f.left - 1); all_written = f.all_written }

  before_row : Left 400 (root ∷ []) all → Left h.level (again ∷ reverse fs) (r ∷ rs)
  before_row x = subst (λ g. Left h.level (g ∷ reverse fs) (r ∷ rs)) (counted f some) (turn h.level fs f (r ∷ rs) (h.to x))

  rest_of_row : Left h.level (again ∷ reverse fs) (r ∷ rs) → Left 400 (root ∷ []) all
  rest_of_row x = h.from (turn_back h.level fs f (r ∷ rs) (subst (λ g. Left h.level (g ∷ reverse fs) (r ∷ rs)) (sym (counted f some)) x))

  pub too_deep : 400 ≤ length fs → Left 400 (root ∷ []) all → ⊥
  too_deep deep x =
      let none : h.level ≡ 0 = omega (arith, h.deep, length-append fs (f ∷ [])) in
      none_deeper (f.left - 1) f.all_written (reverse fs) (r ∷ rs) (subst (λ n. Left n (again ∷ reverse fs) (r ∷ rs)) none (before_row x))

  taken_at : (n : ℕ) → Left n (again ∷ reverse fs) (r ∷ rs) → MayStand f.all_written r
  taken_at zero x = absurd (none_deeper (f.left - 1) f.all_written (reverse fs) (r ∷ rs) x)
  taken_at (suc m) x = (taken m (f.left - 1) f.all_written (reverse fs) (r ∷ rs) x).0

  pub none_left_out : is_left_out r ≡ true → f.all_written ≡ true → Left 400 (root ∷ []) all → ⊥
  none_left_out out asked x =
      let e : f.all_written ≡ false = taken_at h.level (before_row x) out in
      absurd (cc)

  stand_deeper : (m : ℕ) (gs : List Open) → length gs ≤ 1 → suc m + suc (length fs) ≡ 401
      → (Left 400 (root ∷ []) all → Deeper m gs (one_fewer f ∷ reverse fs) rs)
      → (Deeper m gs (one_fewer f ∷ reverse fs) rs → Left 400 (root ∷ []) all)
      → AgreesWithStack all ((fs ++ one_fewer f ∷ []) ++ gs) rs
  stand_deeper m [] few deep to from =
      subst (λ gs. AgreesWithStack all gs rs) (sym (append-nil (fs ++ one_fewer f ∷ [])))
      (record {
        level = suc m;
        deep = omega (arith, deep, length-append fs (one_fewer f ∷ []));
        to = λ x. turn_back (suc m) fs (one_fewer f) rs (to x);
        from = λ x. from (turn (suc m) fs (one_fewer f) rs x);
      })
  stand_deeper m (g ∷ []) few deep to from =
      let e : reverse ((fs ++ one_fewer f ∷ []) ++ g ∷ []) ≡ g ∷ one_fewer f ∷ reverse fs = turned (fs ++ one_fewer f ∷ []) g ∙ ap (λ gs. g ∷ gs) (turned fs (one_fewer f)) in
      record {
        level = m;
        deep = omega (arith, deep, length-append fs (one_fewer f ∷ []), length-append (fs ++ one_fewer f ∷ []) (g ∷ []));
        to = λ x. subst (λ gs. Left m gs rs) (sym e) (to x);
        from = λ x. from (subst (λ gs. Left m gs rs) e x);
      }
  stand_deeper m (g ∷ g' ∷ gs) few deep to from = absurd (omega arith)

  one_inside : (q : FlatRow) → length (inside_of q) ≤ 1
  one_inside (a_leaf z) = omega arith
  one_inside q = omega arith

  pub entered : IsSmallRow r → length fs < 400 → MayStand f.all_written r → AgreesWithStack all ((fs ++ one_fewer f ∷ []) ++ inside_of r) rs
  entered small room may =
      let n : h.level ≡ suc (h.level - 1) = omega (arith, h.deep, length-append fs (f ∷ [])) in
      stand_deeper (h.level - 1) (inside_of r) (one_inside r) (omega (arith, h.deep, length-append fs (f ∷ [])))
      (λ x. (taken (h.level - 1) (f.left - 1) f.all_written (reverse fs) (r ∷ rs) (subst (λ k. Left k (again ∷ reverse fs) (r ∷ rs)) n (before_row x))).1)
      (λ x. rest_of_row (subst (λ k. Left k (again ∷ reverse fs) (r ∷ rs)) (sym n)
      (put_back (h.level - 1) (f.left - 1) f.all_written (reverse fs) r rs small may x)))

-- ---- from the first row to the last

pub start : (all : List FlatRow) → AgreesWithStack all (root ∷ []) all
start all = record { level = 400; deep = refl; to = λ x. x; from = λ x. x }

pub none_expected : (all : List FlatRow) (r : FlatRow) (rs : List FlatRow) → AgreesWithStack all [] (r ∷ rs) → (a : Account) → AreRows a all → ⊥
none_expected all r rs h a x =
    let e : r ∷ rs ≡ [] = h.to (from_account a all x) in
    absurd (cc)

pub some_expected : (all : List FlatRow) (fs : List Open) (f : Open) → 0 < f.left → AgreesWithStack all (fs ++ f ∷ []) [] → (a : Account) → AreRows a all → ⊥
some_expected all fs f some h a x =
    none_in h.level (f.left - 1) f.all_written (reverse fs)
    (subst (λ g. Left h.level (g ∷ reverse fs) []) (counted f some) (turn h.level fs f [] (h.to (from_account a all x))))

pub none_left : (all : List FlatRow) → AgreesWithStack all [] [] → (a : Account) × AreRows a all
none_left all h = an_account all (h.from refl)

-- ---- the row at a place

pub row_is : (rows : List Row) (i : ℕ) (r : Row) → i < length rows → r ≡ get_or rows i r → flat (drop i rows) ≡ flat_row r.listed ∷ flat (drop (i + 1) rows)
row_is rows i r h e =
    let one_more : suc i ≡ i + 1 = omega arith in
    ap flat (drop-cons rows i r h)
    ∙ ap (λ q. flat_row q.listed ∷ flat (drop (suc i) rows)) (sym e)
    ∙ ap (λ k. flat_row r.listed ∷ flat (drop k rows)) one_more

small_at : (rows : List Row) (i : ℕ) (d : Row) → AllByRecursion IsSmallRow (flat rows) → i < length rows → IsSmallRow (flat_row (get_or rows i d).listed)
small_at [] i d h k = absurd (omega arith)
small_at (r ∷ rows) zero d h k = h.0
small_at (r ∷ rows) (suc i) d h k = small_at rows i d h.1 (omega arith)

pub small_row : (rows : List Row) (i : ℕ) (r : Row) → AllByRecursion IsSmallRow (flat rows) → i < length rows → r ≡ get_or rows i r → IsSmallRow (flat_row r.listed)
small_row rows i r h k e = subst (λ q. IsSmallRow (flat_row q.listed)) (sym e) (small_at rows i r h k)

pub none_after : (rows : List Row) (i : ℕ) → length rows ≤ i → flat (drop i rows) ≡ []
none_after rows i h = ap flat (drop_all i rows h)

module _ (all : List FlatRow) (fs : List Open) (rest : List FlatRow) (end : rest ≡ []) where
  pub all_rows : (o : Option Open) → (o ≡ None → fs ≡ []) → is_some o ≡ false → AgreesWithStack all (fs ++ option_to_list o) rest → (a : Account) × AreRows a all
  all_rows None none e h = none_left all (subst (λ gs. AgreesWithStack all (gs ++ []) []) (none refl) (subst (AgreesWithStack all (fs ++ [])) end h))
  all_rows (Some f) none e h = absurd (cc)

  pub too_few : (o : Option Open) → IfSome o (λ f. 0 < f.left) → is_some o ≡ true → AgreesWithStack all (fs ++ option_to_list o) rest → (a : Account) → AreRows a all → ⊥
  too_few None some e h = absurd (cc)
  too_few (Some f) some e h = some_expected all fs f some (subst (AgreesWithStack all (fs ++ f ∷ [])) end h)
