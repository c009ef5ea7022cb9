-- Rows after those of a member, and the octets of members.
use Rattle.std.proofs.Common.{arith, ◌≡◌, ℕ, zero, suc, ◌+◌, ◌-◌, ◌<◌, ◌≤◌, List, [], ◌∷◌, ◌++◌, length, map, take, drop, get_or, refl, sym, ap, ◌∙◌, append_assoc}
use Rattle.std.specs.Prelude.{Option, Some, None, MatchOption}
use Rattle.std.specs.List.{sum}
use Rattle.encodings.specs.Account.{header, leaf_row, wrap_row, seq_row, seqof_row, set_row, setof_row, Rows, no_row, absent_row, default_row, written}
use Rattle.octet_account.specs.Flat.{FlatRow, an_absent, a_default, count, rows_of, member_rows}
use Rattle.account_checker.specs.Follows.{sizes, before, by_place}
use Rattle.account_checker.specs.Parts.{Member, is_absent, is_default, is_written, put, rows_in, size_in, members_in}
use Rattle.account_checker.proofs.Rows.{first_or, tail_of}
use Rattle.account_checker.proofs.Members.{First, first_of, rows_put, count_put, none_left, sum_append}

-- members one after the other
abbrev joined : Rows → Rows → Rows
joined no_row ms = ms
joined (absent_row rs) ms = absent_row (joined rs ms)
joined (default_row rs) ms = default_row (joined rs ms)
joined (written a rs) ms = written a (joined rs ms)

joined_rows : (rs ms : Rows) → member_rows (joined rs ms) ≡ member_rows rs ++ member_rows ms
joined_rows no_row ms = refl
joined_rows (absent_row rs) ms = ap (λ q. an_absent ∷ q) (joined_rows rs ms)
joined_rows (default_row rs) ms = ap (λ q. a_default ∷ q) (joined_rows rs ms)
joined_rows (written a rs) ms = ap (λ q. rows_of a ++ q) (joined_rows rs ms) ∙ sym (append_assoc (rows_of a) (member_rows rs) (member_rows ms))

joined_count : (rs ms : Rows) → count (joined rs ms) ≡ count rs + count ms
joined_count no_row ms = omega arith
joined_count (absent_row rs) ms = let e = joined_count rs ms in omega arith
joined_count (default_row rs) ms = let e = joined_count rs ms in omega arith
joined_count (written a rs) ms = let e = joined_count rs ms in omega arith

-- n members are left, and then the rest
pub record Pending (left rest : List FlatRow) (n : ℕ) : Type 0 where
  pub rows : Rows
  pub are : left ≡ member_rows rows ++ rest
  pub many : count rows ≡ n

pub pending_one : {left rest : List FlatRow} (m : Member) → left ≡ rows_in m ++ rest → Pending left rest 1
pending_one {left} {rest} m e = record { rows = put m no_row; are = e ∙ by m; many = one m }
  where
    nil : (rs : List FlatRow) → (rs ++ []) ++ rest ≡ rs ++ rest
    nil rs = append_assoc rs [] rest

    by : (m : Member) → rows_in m ++ rest ≡ member_rows (put m no_row) ++ rest
    by is_absent = refl
    by is_default = refl
    by (is_written a) = sym (nil (rows_of a))

    one : (m : Member) → count (put m no_row) ≡ 1
    one is_absent = refl
    one is_default = refl
    one (is_written a) = refl

after : (rs : Rows) (r : FlatRow) (q rest : List FlatRow) → 0 < count rs → r ≡ first_or r (member_rows rs ++ rest) → q ≡ tail_of (member_rows rs ++ rest) → Pending q rest (count rs - 1 + members_in r)
after no_row r q rest l e f = absurd (omega arith)
after (absent_row rs) r q rest l e f = record { rows = rs; are = f; many = (let g = ap members_in e in omega arith) }
after (default_row rs) r q rest l e f = record { rows = rs; are = f; many = (let g = ap members_in e in omega arith) }
after (written (header z leaf_row) rs) r q rest l e f = record { rows = rs; are = f; many = (let g = ap members_in e in omega arith) }
after (written (header z (wrap_row a)) rs) r q rest l e f = record { rows = written a rs; are = f; many = (let g = ap members_in e in omega arith) }
after (written (header z (seq_row ms)) rs) r q rest l e f = record { rows = joined ms rs; are = f ∙ ap (λ w. w ++ rest) (sym (joined_rows ms rs)); many = (let g = ap members_in e in let h = joined_count ms rs in omega arith) }
after (written (header z (seqof_row ms)) rs) r q rest l e f = record { rows = joined ms rs; are = f ∙ ap (λ w. w ++ rest) (sym (joined_rows ms rs)); many = (let g = ap members_in e in let h = joined_count ms rs in omega arith) }
after (written (header z (set_row ms p i)) rs) r q rest l e f = record { rows = joined ms rs; are = f ∙ ap (λ w. w ++ rest) (sym (joined_rows ms rs)); many = (let g = ap members_in e in let h = joined_count ms rs in omega arith) }
after (written (header z (setof_row ms p i)) rs) r q rest l e f = record { rows = joined ms rs; are = f ∙ ap (λ w. w ++ rest) (sym (joined_rows ms rs)); many = (let g = ap members_in e in let h = joined_count ms rs in omega arith) }

-- one row less
pub pending_next : {left rest : List FlatRow} {n k : ℕ} (r : FlatRow) (q : List FlatRow) → Pending left rest n → (n ≡ 0 → ⊥) → left ≡ r ∷ q → k ≡ n - 1 + members_in r → Pending q rest k
pending_next {left} {rest} {n} {k} r q p some e f =
    let g = sym e ∙ p.are in
    let h = after p.rows r q rest (let m = p.many in omega arith) (ap (first_or r) g) (ap tail_of g) in
    record { rows = h.rows; are = h.are; many = (let m = p.many in let i = h.many in omega arith) }

pub pending_none : {left rest : List FlatRow} {n : ℕ} → Pending left rest n → n ≡ 0 → left ≡ rest
pending_none {rest = rest} p e = p.are ∙ ap (λ r. member_rows r ++ rest) (none_left p.rows (p.many ∙ e))

-- without rows none is left
pub pending_end : {left rest : List FlatRow} {n : ℕ} → Pending left rest n → left ≡ [] → [] ≡ rest
pending_end {rest = rest} p e = by p.rows (sym e ∙ p.are)
  where
    by : (rs : Rows) → [] ≡ member_rows rs ++ rest → [] ≡ rest
    by no_row e = e
    by (absent_row rs) e = absurd (cc)
    by (default_row rs) e = absurd (cc)
    by (written (header z leaf_row) rs) e = absurd (cc)
    by (written (header z (wrap_row a)) rs) e = absurd (cc)
    by (written (header z (seq_row ms)) rs) e = absurd (cc)
    by (written (header z (seqof_row ms)) rs) e = absurd (cc)
    by (written (header z (set_row ms p i)) rs) e = absurd (cc)
    by (written (header z (setof_row ms p i)) rs) e = absurd (cc)

-- ---- rows from a place on

take_past : {A : Type 0} (xs : List A) (n : ℕ) → length xs ≤ n → take n xs ≡ xs
take_past [] zero l = refl
take_past [] (suc n) l = refl
take_past (x ∷ xs) zero l = absurd (omega arith)
take_past (x ∷ xs) (suc n) l = ap (λ q. x ∷ q) (take_past xs n (omega arith))

pub drop_whole : {A : Type 0} (xs : List A) (i : ℕ) → take (length xs - i) (drop i xs) ≡ drop i xs
drop_whole xs zero = take_past xs (length xs - 0) (omega arith)
drop_whole {A} [] (suc i) = let e : List A = [] in take_past e (length e - suc i) (omega arith)
drop_whole (x ∷ xs) (suc i) = ap (λ n. take n (drop i xs)) (let e : length (x ∷ xs) - suc i ≡ length xs - i = omega arith in e) ∙ drop_whole xs i

pub drop_map : {A B : Type 0} (f : A → B) (xs : List A) (i : ℕ) → map f (drop i xs) ≡ drop i (map f xs)
drop_map f xs zero = refl
drop_map f [] (suc i) = refl
drop_map f (x ∷ xs) (suc i) = drop_map f xs i

pub some_is : (o : Option ℕ) (n : ℕ) → MatchOption o ⊥ (λ k. n ≡ k) → o ≡ Some n
some_is None n e = absurd e
some_is (Some k) n e = ap Some (sym e)

-- ---- sizes

-- n members are left, and the one with number k of these is number j of the whole
pub record SizesLeft (rs : Rows) (left rest : List FlatRow) (n j k : ℕ) : Type 0 where
  pub rows : Rows
  pub are : left ≡ member_rows rows ++ rest
  pub many : count rows ≡ n
  pub same : get_or (sizes rs) j 0 ≡ get_or (sizes rows) k 0

some_or : Option ℕ → ℕ
some_or None = 0
some_or (Some n) = n

first_put : (m : Member) (rs : Rows) (n : ℕ) → size_in m ≡ Some n → get_or (sizes (put m rs)) 0 0 ≡ n
unfolding some_or
first_put is_absent rs n e = absurd (cc)
first_put is_default rs n e = absurd (cc)
first_put (is_written a) rs n e = ap some_or e

further_put : (m : Member) (rs : Rows) (n k : ℕ) → size_in m ≡ Some n → (k ≡ 0 → ⊥) → get_or (sizes (put m rs)) k 0 ≡ get_or (sizes rs) (k - 1) 0
further_put is_absent rs n k e f = absurd (cc)
further_put is_default rs n k e f = absurd (cc)
further_put (is_written a) rs n zero e f = absurd (f refl)
further_put (is_written a) rs n (suc k) e f = ap (λ j. get_or (sizes rs) j 0) (let g : k ≡ suc k - 1 = omega arith in g)

same_put : (m : Member) (rs : Rows) (k : ℕ) → size_in m ≡ None → get_or (sizes (put m rs)) k 0 ≡ get_or (sizes rs) k 0
same_put is_absent rs k e = refl
same_put is_default rs k e = refl
same_put (is_written a) rs k e = absurd (cc)

pub sizes_all : {left rest : List FlatRow} {n : ℕ} (rs : Rows) (j : ℕ) → left ≡ member_rows rs ++ rest → count rs ≡ n → SizesLeft rs left rest n j j
sizes_all rs j e f = record { rows = rs; are = e; many = f; same = refl }

module _ {rs : Rows} {left rest : List FlatRow} {n j k : ℕ} (h : SizesLeft rs left rest n j k) (some : 0 < n) where
  abbrev pub next_is : First h.rows
  next_is = first_of h.rows (let e = h.many in omega arith)

  -- the rows of the next member
  pub next_rows : left ≡ rows_in next_is.member ++ (member_rows next_is.following ++ rest)
  next_rows = h.are ∙ ap (λ r. member_rows r ++ rest) next_is.is ∙ rows_put next_is.member next_is.following rest

  fewer : {n' : ℕ} → suc n' ≡ n → count next_is.following ≡ n'
  fewer e = let c = h.many in let d = ap count next_is.is ∙ count_put next_is.member next_is.following in omega arith

  pub size_found : {size : ℕ} → Some size ≡ size_in next_is.member → k ≡ 0 → size ≡ get_or (sizes rs) j 0
  size_found {size} e f = sym (h.same ∙ ap (λ i. get_or (sizes h.rows) i 0) f ∙ ap (λ r. get_or (sizes r) 0 0) next_is.is ∙ first_put next_is.member next_is.following size (sym e))

  pub size_further : {left' : List FlatRow} {n' k' size : ℕ} → Some size ≡ size_in next_is.member → (k ≡ 0 → ⊥) → left' ≡ member_rows next_is.following ++ rest → suc n' ≡ n → k' ≡ k - 1 → SizesLeft rs left' rest n' j k'
  size_further {size = size} e f g m i = record {
    rows = next_is.following;
    are = g;
    many = fewer m;
    same = h.same ∙ ap (λ r. get_or (sizes r) k 0) next_is.is ∙ further_put next_is.member next_is.following size k (sym e) f ∙ ap (λ l. get_or (sizes next_is.following) l 0) (sym i);
  }

  pub size_passed : {left' : List FlatRow} {n' k' : ℕ} → None ≡ size_in next_is.member → left' ≡ member_rows next_is.following ++ rest → suc n' ≡ n → k' ≡ k → SizesLeft rs left' rest n' j k'
  size_passed e g m i = record {
    rows = next_is.following;
    are = g;
    many = fewer m;
    same = h.same ∙ ap (λ r. get_or (sizes r) k 0) next_is.is ∙ same_put next_is.member next_is.following k (sym e) ∙ ap (λ l. get_or (sizes next_is.following) l 0) (sym i);
  }

abbrev none : List ℕ
none = []

get_none : (k : ℕ) → get_or none k 0 ≡ 0
get_none zero = refl
get_none (suc k) = refl

pub sizes_end : {rs : Rows} {left rest : List FlatRow} {n j k : ℕ} → SizesLeft rs left rest n j k → n ≡ 0 → get_or (sizes rs) j 0 ≡ 0
sizes_end {k = k} h e = h.same ∙ ap (λ r. get_or (sizes r) k 0) (none_left h.rows (h.many ∙ e)) ∙ get_none k

-- ---- octets before a place

sum_cons : (n : ℕ) (ns : List ℕ) → sum (n ∷ ns) ≡ n + sum ns
sum_cons n ns = let e = sum_append (n ∷ []) ns in let f : sum (n ∷ []) ≡ n = omega arith in omega arith

pub taken_next : (ns q : List ℕ) (j : ℕ) → j < length q → sum (take (j + 1) (by_place ns q)) ≡ sum (take j (by_place ns q)) + get_or ns (get_or q j 0) 0
taken_next ns [] j l = absurd (omega arith)
taken_next ns (x ∷ q) zero l = let e = sum_cons (get_or ns x 0) [] in e ∙ (let f : get_or ns x 0 + sum [] ≡ sum [] + get_or ns x 0 = omega arith in f)
taken_next ns (x ∷ q) (suc j) l =
    let r = taken_next ns q j (omega arith) in
    let e = sum_cons (get_or ns x 0) (take (j + 1) (by_place ns q)) in
    let f = sum_cons (get_or ns x 0) (take j (by_place ns q)) in
    ap (λ k. sum (take k (by_place ns (x ∷ q)))) (let g : suc j + 1 ≡ suc (j + 1) = omega arith in g) ∙ (let g : sum (get_or ns x 0 ∷ take (j + 1) (by_place ns q)) ≡ sum (get_or ns x 0 ∷ take j (by_place ns q)) + get_or ns (get_or q j 0) 0 = omega arith in g)

pub place_next : (ns q : List ℕ) (j i : ℕ) {octets octets' size : ℕ} → j < length q → i ≡ get_or q j 0 → octets ≡ sum (take j (by_place ns q)) → size ≡ get_or ns i 0 → octets' ≡ octets + size → octets' ≡ sum (take (j + 1) (by_place ns q))
place_next ns q j i l e f g h = h ∙ (let a = f in let b = g ∙ ap (λ k. get_or ns k 0) e in let c = taken_next ns q j l in omega arith)

many_places : (ns q : List ℕ) → length (by_place ns q) ≡ length q
many_places ns [] = refl
many_places ns (x ∷ q) = ap suc (many_places ns q)

pub places_end : (ns q : List ℕ) (j place : ℕ) {octets : ℕ} → length q ≤ j → j ≤ place → octets ≡ sum (take j (by_place ns q)) → octets ≡ before (by_place ns q) place
places_end ns q j place l m e =
    let n = many_places ns q in
    e ∙ ap sum (take_past (by_place ns q) j (omega arith) ∙ sym (take_past (by_place ns q) place (omega arith)))

pub places_here : (ns q : List ℕ) (j place : ℕ) {octets : ℕ} → j ≤ place → place ≤ j → octets ≡ sum (take j (by_place ns q)) → octets ≡ before (by_place ns q) place
places_here ns q j place l m e = e ∙ ap (λ k. sum (take k (by_place ns q))) (let f : j ≡ place = omega arith in f)
