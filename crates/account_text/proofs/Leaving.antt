-- A row is taken from those that are left.
use Rattle.std.proofs.Common.{◌≡◌, ℕ, suc, ◌≤◌, Bool, true, false, List, [], ◌∷◌, ◌++◌, refl, sym, ap, ◌∙◌, subst, arith, append_assoc, append-nil}
use Rattle.encodings.specs.Account.{Numbers, Account, header, Inside, leaf_row, wrap_row, seq_row, seqof_row, set_row, setof_row, Rows, no_row, absent_row, default_row, written}
use Rattle.octet_account.specs.Flat.{FlatRow, a_leaf, a_wrap, a_seq, a_seqof, a_set, a_setof, an_absent, a_default}
use Rattle.octet_account.specs.Flat.{count, rows_of, member_rows, AllWritten, IsSmall, IsWithin, AreRowsWithin, AreRows}
use Rattle.account_text.specs.declared.stack.Open.{Open}
use Rattle.account_text.specs.proving.Tokens.{IsSmallRow}
use Rattle.account_text.specs.proving.Stack.{AsAsked, Left, root, inside_of, is_left_out}

abbrev pub MayStand : Bool → FlatRow → Type 0
MayStand w r = is_left_out r ≡ true → w ≡ false

-- the rows after a row that was taken and that opened these
abbrev pub Deeper : ℕ → List Open → List Open → List FlatRow → Type 0
Deeper m [] fs rs = Left (suc m) fs rs
Deeper m (g ∷ gs) fs rs = Left m (g ∷ fs) rs

abbrev pub Taken : ℕ → Open → List Open → List FlatRow → Type 0
Taken m f fs [] = ⊥
Taken m f fs (r ∷ rs) = MayStand f.all_written r × Deeper m (inside_of r) (f ∷ fs) rs

written_asked : (w : Bool) (a : Account) (ms : Rows) → AsAsked w (written a ms) → AsAsked w ms
written_asked true a ms h = h
written_asked false a ms h = tt

asked_written : (w : Bool) (a : Account) (ms : Rows) → AsAsked w ms → AsAsked w (written a ms)
asked_written true a ms h = h
asked_written false a ms h = tt

one_less : (j k : ℕ) → suc j ≡ suc k → j ≡ k
one_less j k e = omega arith

module _ (m k : ℕ) (w : Bool) (fs : List Open) where
  abbrev before : Open
  before = record { left = k; all_written = w }

  -- the members after the first
  after_first : (ms : Rows) (rest : List FlatRow) → count ms ≡ k → AreRowsWithin (suc m) ms → AsAsked w ms → Left (suc (suc m)) fs rest
      → Left (suc m) (before ∷ fs) (member_rows ms ++ rest)
  after_first ms rest n within asked others =
      record { members = ms; rest = rest; as_many = n; within = within; as_asked = asked; are = refl; after = others }

  taken_list : (left : Open) (rs ms : Rows) (rest : List FlatRow) → count rs ≡ left.left → AreRowsWithin m rs → AsAsked left.all_written rs
      → Left (suc m) (before ∷ fs) (member_rows ms ++ rest)
      → Left m (left ∷ before ∷ fs) ((member_rows rs ++ member_rows ms) ++ rest)
  taken_list left rs ms rest n within asked others =
      record {
        members = rs;
        rest = member_rows ms ++ rest;
        as_many = n;
        within = within;
        as_asked = asked;
        are = append_assoc (member_rows rs) (member_rows ms) rest;
        after = others;
      }

  never_left_out : false ≡ true → w ≡ false
  never_left_out e = absurd (cc)

  taken_from : (ms : Rows) (rest : List FlatRow) → count ms ≡ suc k → AreRowsWithin (suc m) ms → AsAsked w ms → Left (suc (suc m)) fs rest
      → Taken m before fs (member_rows ms ++ rest)
  taken_from no_row rest n within asked others = absurd (omega arith)
  taken_from (absent_row ms) rest n within asked others =
      (λ e. out w asked, after_first ms rest (one_less _ _ n) within.1 (still w asked) others)
    where
      out : (x : Bool) → AsAsked x (absent_row ms) → x ≡ false
      out true h = absurd h
      out false h = refl

      still : (x : Bool) → AsAsked x (absent_row ms) → AsAsked x ms
      still true h = absurd h
      still false h = tt
  taken_from (default_row ms) rest n within asked others =
      (λ e. out w asked, after_first ms rest (one_less _ _ n) within.1 (still w asked) others)
    where
      out : (x : Bool) → AsAsked x (default_row ms) → x ≡ false
      out true h = absurd h
      out false h = refl

      still : (x : Bool) → AsAsked x (default_row ms) → AsAsked x ms
      still true h = absurd h
      still false h = tt
  taken_from (written (header z leaf_row) ms) rest n within asked others =
      (never_left_out, after_first ms rest (one_less _ _ n) within.1 (written_asked w (header z leaf_row) ms asked) others)
  taken_from (written (header z (wrap_row a)) ms) rest n within asked others = (
    never_left_out,
    subst (Left m (record { left = 1; all_written = true } ∷ before ∷ fs))
        (ap (λ xs. (xs ++ member_rows ms) ++ rest) (append-nil (rows_of a)))
        (taken_list (record { left = 1; all_written = true }) (written a no_row) ms rest refl (within.0.1, tt) tt
        (after_first ms rest (one_less _ _ n) within.1 (written_asked w (header z (wrap_row a)) ms asked) others)),
  )
  taken_from (written (header z (seq_row rs)) ms) rest n within asked others = (
    never_left_out,
    taken_list (record { left = count rs; all_written = false }) rs ms rest refl within.0.1.1 tt
        (after_first ms rest (one_less _ _ n) within.1 (written_asked w (header z (seq_row rs)) ms asked) others),
  )
  taken_from (written (header z (seqof_row rs)) ms) rest n within asked others = (
    never_left_out,
    taken_list (record { left = count rs; all_written = true }) rs ms rest refl within.0.1.1 within.0.1.2
        (after_first ms rest (one_less _ _ n) within.1 (written_asked w (header z (seqof_row rs)) ms asked) others),
  )
  taken_from (written (header z (set_row rs p q)) ms) rest n within asked others = (
    never_left_out,
    taken_list (record { left = count rs; all_written = false }) rs ms rest refl within.0.1.1 tt
        (after_first ms rest (one_less _ _ n) within.1 (written_asked w (header z (set_row rs p q)) ms asked) others),
  )
  taken_from (written (header z (setof_row rs p q)) ms) rest n within asked others = (
    never_left_out,
    taken_list (record { left = count rs; all_written = true }) rs ms rest refl within.0.1.1 within.0.1.2
        (after_first ms rest (one_less _ _ n) within.1 (written_asked w (header z (setof_row rs p q)) ms asked) others),
  )

  abbrev whole : Open
  whole = record { left = suc k; all_written = w }

  pub taken : (rs : List FlatRow) → Left (suc m) (whole ∷ fs) rs → Taken m before fs rs
  taken rs h = subst (Taken m before fs) (sym h.are) (taken_from h.members h.rest h.as_many h.within h.as_asked h.after)

  -- ---- and back

  one_written : (ms : Rows) → count ms ≡ 1 → AllWritten ms → (a : Account) × (ms ≡ written a no_row)
  one_written no_row e h = absurd (omega arith)
  one_written (written a no_row) e h = (a, refl)
  one_written (written a (written b ms)) e h = absurd (omega arith)
  one_written q e h = absurd h

  -- the members of a header that a row opens come before the rows after it
  back_list : (i : Inside) (z : Numbers) (r : FlatRow) (inside : List FlatRow) (rs : List FlatRow) (h : Left (suc m) (before ∷ fs) rs)
      → IsWithin (suc m) (header z i) → rows_of (header z i) ≡ r ∷ inside
      → Left (suc m) (whole ∷ fs) (r ∷ (inside ++ rs))
  back_list i z r inside rs h within e =
      record {
        members = written (header z i) h.members;
        rest = h.rest;
        as_many = ap suc h.as_many;
        within = (within, h.within);
        as_asked = asked_written w (header z i) h.members h.as_asked;
        are = ap (λ xs. r ∷ (inside ++ xs)) h.are
            ∙ ap (λ xs. r ∷ xs) (sym (append_assoc inside (member_rows h.members) h.rest))
            ∙ ap (λ xs. (xs ++ member_rows h.members) ++ h.rest) (sym e);
        after = h.after;
      }

  back_left_out : (ms : Rows) (r : FlatRow) (rs : List FlatRow) (h : Left (suc m) (before ∷ fs) rs) → count ms ≡ suc (count h.members) → AreRowsWithin (suc m) ms
      → AsAsked w ms → member_rows ms ≡ r ∷ member_rows h.members → Left (suc m) (whole ∷ fs) (r ∷ rs)
  back_left_out ms r rs h n within asked e =
      record {
        members = ms;
        rest = h.rest;
        as_many = n ∙ ap suc h.as_many;
        within = within;
        as_asked = asked;
        are = ap (λ xs. r ∷ xs) h.are ∙ ap (λ xs. xs ++ h.rest) (sym e);
        after = h.after;
      }

  asks_nothing : (x : Bool) (ms : Rows) → x ≡ false → AsAsked x ms
  asks_nothing true ms e = absurd (cc)
  asks_nothing false ms e = tt

  within_by : (r : FlatRow) (i : Inside) (z : Numbers) (inside : List FlatRow) (rs rest : List FlatRow) → rs ≡ inside ++ rest
      → IsWithin (suc m) (header z i) → rows_of (header z i) ≡ r ∷ inside → Left (suc m) (before ∷ fs) rest → Left (suc m) (whole ∷ fs) (r ∷ rs)
  within_by r i z inside rs rest e within f h = subst (λ xs. Left (suc m) (whole ∷ fs) (r ∷ xs)) (sym e) (back_list i z r inside rest h within f)

  pub put_back : (r : FlatRow) (rs : List FlatRow) → IsSmallRow r → MayStand w r → Deeper m (inside_of r) (before ∷ fs) rs → Left (suc m) (whole ∷ fs) (r ∷ rs)
  put_back (a_leaf z) rs small may h = back_list leaf_row z (a_leaf z) [] rs h (small, tt) refl
  put_back (a_wrap z) rs small may h =
      let a = one_written h.members h.as_many h.as_asked in
      let within : AreRowsWithin m (written a.0 no_row) = subst (AreRowsWithin m) a.1 h.within in
      within_by (a_wrap z) (wrap_row a.0) z (rows_of a.0) rs h.rest
      (h.are ∙ ap (λ ms. member_rows ms ++ h.rest) a.1 ∙ ap (λ xs. xs ++ h.rest) (append-nil (rows_of a.0)))
      (small, within.0) refl h.after
  put_back (a_seq z n) rs small may h =
      within_by (a_seq z n) (seq_row h.members) z (member_rows h.members) rs h.rest h.are
      (small.0, (subst IsSmall (sym h.as_many) small.1, h.within)) (ap (λ k. a_seq z k ∷ member_rows h.members) h.as_many) h.after
  put_back (a_seqof z n) rs small may h =
      within_by (a_seqof z n) (seqof_row h.members) z (member_rows h.members) rs h.rest h.are
      (small.0, (subst IsSmall (sym h.as_many) small.1, h.within, h.as_asked)) (ap (λ k. a_seqof z k ∷ member_rows h.members) h.as_many) h.after
  put_back (a_set z n p q) rs small may h =
      within_by (a_set z n p q) (set_row h.members p q) z (member_rows h.members) rs h.rest h.are
      (small.0, (subst IsSmall (sym h.as_many) small.1.0, h.within, small.1.1.0, small.1.1.1)) (ap (λ k. a_set z k p q ∷ member_rows h.members) h.as_many) h.after
  put_back (a_setof z n p q) rs small may h =
      within_by (a_setof z n p q) (setof_row h.members p q) z (member_rows h.members) rs h.rest h.are
      (small.0, (subst IsSmall (sym h.as_many) small.1.0, h.within, h.as_asked, small.1.1.0, small.1.1.1)) (ap (λ k. a_setof z k p q ∷ member_rows h.members) h.as_many) h.after
  put_back an_absent rs small may h =
      back_left_out (absent_row h.members) an_absent rs h refl ((omega arith), h.within) (asks_nothing w (absent_row h.members) (may refl)) refl
  put_back a_default rs small may h =
      back_left_out (default_row h.members) a_default rs h refl ((omega arith), h.within) (asks_nothing w (default_row h.members) (may refl)) refl

-- ---- no level is left, or no member is

pub none_deeper : (k : ℕ) (w : Bool) (fs : List Open) (rs : List FlatRow) → Left 0 (record { left = suc k; all_written = w } ∷ fs) rs → ⊥
none_deeper k w fs rs h = no_level h.members h.as_many h.within
  where
    no_level : (ms : Rows) → count ms ≡ suc k → AreRowsWithin 0 ms → ⊥
    no_level no_row e x = omega arith
    no_level (absent_row ms) e x = let y : 1 ≤ 0 = x.0 in omega arith
    no_level (default_row ms) e x = let y : 1 ≤ 0 = x.0 in omega arith
    no_level (written a ms) e x = x.0

pub none_in : (n k : ℕ) (w : Bool) (fs : List Open) → Left n (record { left = suc k; all_written = w } ∷ fs) [] → ⊥
none_in n k w fs h = no_rows h.members h.as_many h.are
  where
    some_row : (a : Account) (xs : List FlatRow) → [] ≡ rows_of a ++ xs → ⊥
    some_row (header z leaf_row) xs e = absurd (cc)
    some_row q xs e = absurd (cc)

    no_rows : (ms : Rows) → count ms ≡ suc k → [] ≡ member_rows ms ++ h.rest → ⊥
    no_rows no_row e x = omega arith
    no_rows (absent_row ms) e x = absurd (cc)
    no_rows (default_row ms) e x = absurd (cc)
    no_rows (written a ms) e x = some_row a (member_rows ms ++ h.rest) (x ∙ append_assoc (rows_of a) (member_rows ms) h.rest)

pub all_read : (n : ℕ) (w : Bool) (fs : List Open) (rs : List FlatRow) → Left n (record { left = 0; all_written = w } ∷ fs) rs → Left (suc n) fs rs
all_read n w fs rs h = subst (Left (suc n) fs) (sym (none_left h.members h.as_many h.are)) h.after
  where
    none_left : (ms : Rows) → count ms ≡ 0 → rs ≡ member_rows ms ++ h.rest → rs ≡ h.rest
    none_left no_row e x = x
    none_left (absent_row ms) e x = absurd (omega arith)
    none_left (default_row ms) e x = absurd (omega arith)
    none_left (written a ms) e x = absurd (omega arith)

nothing_asked : (w : Bool) → AsAsked w no_row
nothing_asked true = tt
nothing_asked false = tt

pub none_to_read : (n : ℕ) (w : Bool) (fs : List Open) (rs : List FlatRow) → Left (suc n) fs rs → Left n (record { left = 0; all_written = w } ∷ fs) rs
none_to_read n w fs rs h =
    record { members = no_row; rest = rs; as_many = refl; within = tt; as_asked = nothing_asked w; are = refl; after = h }

-- ---- the root

pub an_account : (rs : List FlatRow) → Left 400 (root ∷ []) rs → (a : Account) × AreRows a rs
an_account rs h =
    let a = one_written 0 0 true [] h.members h.as_many h.as_asked in
    let within : AreRowsWithin 400 (written a.0 no_row) = subst (AreRowsWithin 400) a.1 h.within in (
      a.0,
      record {
        within = within.0;
        are = h.are ∙ ap (λ ms. member_rows ms ++ h.rest) a.1 ∙ ap (λ xs. (rows_of a.0 ++ []) ++ xs) h.after
            ∙ append-nil (rows_of a.0 ++ []) ∙ append-nil (rows_of a.0);
      },
    )

pub from_account : (a : Account) (rs : List FlatRow) → AreRows a rs → Left 400 (root ∷ []) rs
from_account a rs h =
    record {
      members = written a no_row;
      rest = [];
      as_many = refl;
      within = (h.within, tt);
      as_asked = tt;
      are = h.are ∙ sym (append-nil (rows_of a)) ∙ sym (append-nil (rows_of a ++ []));
      after = refl;
    }
