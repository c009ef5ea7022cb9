-- What a table holds after the events of a tree.
use Rattle.std.proofs.Common.{◌≡◌, ℕ, suc, ◌+◌, ◌<◌, ◌≤◌, ◌⊎◌, Bool, true, false, List, [], ◌∷◌, ◌++◌, length, map, set, take, drop, refl, sym, ap, subst, ◌∙◌, arith, append_assoc, append-nil, length-append}
use Rattle.std.proofs.lemmas.List.{map-append}
use Rattle.std.specs.List.{concat}
use Rattle.std.specs.List.Sorted.{IsPermutation}
use Rattle.std.specs.List.{sum_by}
use Rattle.std.proofs.lemmas.List.Sums.{sum_by-cons}
use Rattle.std.proofs.lemmas.List.Sorted.{IsPermutation-map, sum_by-IsPermutation, length_permutation}
use Rattle.asn_base.specs.declared.tag.Tag.{Tag}
use Rattle.encodings.specs.Header.{identifier}
use Rattle.encodings.specs.Fewest.{shortest_header, shortest_size}
use Rattle.codec_code.specs.declared.step.RowKind.{RowKind}
use Rattle.codec_code.specs.declared.step.RowKind.TheVariants.{Leaf, Wrap, Sequence, Set, SequenceOf, SetOf}
use Rattle.codec_code.specs.Events.{Event, closes, ends_member, Order, by_octets, by_rank, row_of_order, Tree, done, piece, lacking, within, ordered, Members, no_member, no_component, member, flat, flats, SetMember as Placed, encodings_of, Arranged}
use Rattle.der_layout.specs.declared.table.Open.{Open}
use Rattle.der_layout.specs.declared.table.Member.{Member}
use Rattle.der_layout.specs.declared.table.Group.{Group}
use Rattle.encodings.specs.Account.{Numbers, ArePlacedAt}
use Rattle.octet_account.specs.Flat.{FlatRow, an_absent}
use Rattle.account_rows.specs.RowLayout.{header_numbers, header_row, left_row, rows_in, rows_among, RowLayout, MemberRows}
use Rattle.der_layout.specs.Rows.{listed, capped_numbers, capped_header, capped_row, numbers_in, places_by}
use Rattle.der_layout.specs.Tables.{State, an_open, after, with_size, span, spans, placed_of, Sorted, HeaderOpens, MembersBegin, GroupBegins, ContentsAdded, LeftOut, MemberEnds, MembersEnd, NoneEnds, GroupEnds, taken, HeaderCloses, Closes, Stepped, Runs}
use Rattle.der_layout.proofs.Lists.{last_same, no_last, set_last, only_second, take_front, drop_front, after_held, sized, held_within, span_between}
use Rattle.der_layout.proofs.Placement.{Numbered, standing}

-- some octets and rows more
abbrev pub added : State → List ℕ → List FlatRow → ℕ → State
added a o rs m = record { octets = a.octets ++ o; opened = a.opened; groups = a.groups; rows = a.rows ++ rs; members = listed (a.members + m) }

abbrev pub state : List ℕ → List Open → List Group → List FlatRow → ℕ → State
state o os gs rs m = record { octets = o; opened = os; groups = gs; rows = rs; members = m }

pub is_state : (b : State) (o : List ℕ) (os : List Open) (gs : List Group) (rs : List FlatRow) (m : ℕ) → b.octets ≡ o → b.opened ≡ os → b.groups ≡ gs → b.rows ≡ rs → b.members ≡ m → b ≡ state o os gs rs m
is_state b o os gs rs m e f g i j =
    ap (λ q. state q b.opened b.groups b.rows b.members) e ∙ ap (λ q. state o q b.groups b.rows b.members) f
    ∙ ap (λ q. state o os q b.rows b.members) g ∙ ap (λ q. state o os gs q b.members) i ∙ ap (λ q. state o os gs rs q) j

-- the number of members is within the bound of the table
abbrev pub Bound : State → Type 0
Bound a = a.members ≤ 16777217

capped_twice : (a m n k : ℕ) → k ≡ m + n → listed (listed (a + m) + n) ≡ listed (a + k)
capped_twice a m n k e = omega arith

capped_same : (a : ℕ) → a ≤ 16777217 → a ≡ listed (a + 0)
capped_same a h = omega arith

capped_most : (a : ℕ) → listed a ≤ 16777217
capped_most a = omega arith

capped_again : (n : ℕ) → listed (listed (0 + n)) ≡ listed n
capped_again n = omega arith

no_more_rows : (n : ℕ) → n ≡ 0 + n
no_more_rows n = omega arith

left_row_capped : (d : Bool) (rs : List FlatRow) → left_row d ∷ rs ≡ capped_row (left_row d) ∷ rs
left_row_capped true rs = refl
left_row_capped false rs = refl

one_more_row : (n : ℕ) → suc n ≡ 1 + n
one_more_row n = omega arith

added_twice : (a : State) (o p : List ℕ) (rs ss : List FlatRow) (i j l : ℕ) → l ≡ i + j → added (added a o rs i) p ss j ≡ added a (o ++ p) (rs ++ ss) l
added_twice a o p rs ss i j l f =
    is_state (added (added a o rs i) p ss j) (a.octets ++ (o ++ p)) a.opened a.groups (a.rows ++ (rs ++ ss)) (listed (a.members + l))
    (append_assoc a.octets o p) refl refl (append_assoc a.rows rs ss) (capped_twice a.members i j l f)

added_none : (a : State) → Bound a → a ≡ added a [] [] 0
added_none a h = is_state a (a.octets ++ []) a.opened a.groups (a.rows ++ []) (listed (a.members + 0)) (sym (append-nil a.octets)) refl refl (sym (append-nil a.rows)) (capped_same a.members h)

-- a tree's octets and rows were added
pub record Counted (t : Tree) (es : List Event) (a c : State) : Type 0 where
  pub octets : List ℕ
  pub exact : List FlatRow
  pub holds : RowLayout t octets exact
  pub more : Runs es (added a octets (map capped_row exact) (rows_in t)) c

-- members that follow one another from place k on, with these ranks and as many octets
abbrev pub AreMembers : ℕ → List Member → List Placed → Type 0
AreMembers k [] [] = Unit {0}
AreMembers k [] (p ∷ ps) = ⊥
AreMembers k (m ∷ ms) [] = ⊥
AreMembers k (m ∷ ms) (p ∷ ps) = (m.rank ≡ p.rank) × (m.start ≡ k) × (m.end ≡ k + length p.octets) × AreMembers (k + length p.octets) ms ps

-- all members were added after those that the group had
pub record Gathered (ms : Members) (es : List Event) (a : State) (gs : List Group) (g : Group) (c : State) : Type 0 where
  pub placed : List Placed
  pub news : List Member
  pub group : Group
  pub exact : List FlatRow
  pub start_is : group.start ≡ g.start
  pub next_is : group.next ≡ length (a.octets ++ concat (encodings_of placed))
  pub members_are : group.members.items ≡ g.members.items ++ news
  pub numbered : Numbered (length g.members.items) news
  pub good : AreMembers (length a.octets) news placed
  pub stand : MemberRows ms placed exact
  pub more : Runs es (state (a.octets ++ concat (encodings_of placed)) a.opened (gs ++ group ∷ []) (a.rows ++ map capped_row exact) (listed (a.members + rows_among ms))) c

-- ---- members in their order

length_is : (ps : List Placed) → length (concat (encodings_of ps)) ≡ sum_by (λ p. length p.octets) ps
length_is [] = refl
length_is (p ∷ ps) = length-append p.octets (concat (encodings_of ps)) ∙ ap (λ n. length p.octets + n) (length_is ps) ∙ sym (sum_by-cons (λ q. length q.octets) p ps)

pub permuted_length : (ps qs : List Placed) → IsPermutation ps qs → length (concat (encodings_of qs)) ≡ length (concat (encodings_of ps))
permuted_length ps qs h = length_is qs ∙ sum_by-IsPermutation (λ p. length p.octets) ps qs h ∙ sym (length_is ps)

abbrev placed_as : ℕ → List ℕ → Placed
placed_as r x = record { rank = r; octets = x }

-- the octets of members that follow one another
pub placed_same : (front further all : List ℕ) (k : ℕ) (ms : List Member) (ps : List Placed) → k ≡ length front → all ≡ front ++ (concat (encodings_of ps) ++ further) → AreMembers k ms ps → map (placed_of all) ms ≡ ps
placed_same front further all k [] [] i e h = refl
placed_same front further all k [] (p ∷ ps) i e h = absurd h
placed_same front further all k (m ∷ ms) [] i e h = absurd h
placed_same front further all k (m ∷ ms) (p ∷ ps) i e h =
    let rest = concat (encodings_of ps) ++ further in
    let whole : all ≡ front ++ (p.octets ++ rest) = e ∙ ap (λ q. front ++ q) (append_assoc p.octets (concat (encodings_of ps)) further) in
    let one : span all m ≡ p.octets = ap (λ q. span q m) whole ∙ span_between m front p.octets rest (h.1 ∙ i) (h.2 ∙ ap (λ q. q + length p.octets) i) in
    let same : placed_of all m ≡ p = ap (λ n. placed_as n (span all m)) h.0 ∙ ap (λ x. placed_as p.rank x) one in
    let others = placed_same (front ++ p.octets) further all (k + length p.octets) ms ps
    (ap (λ q. q + length p.octets) i ∙ sym (length-append front p.octets))
    (whole ∙ sym (append_assoc front p.octets rest)) h.3 in
    ap (λ q. q ∷ map (placed_of all) ms) same ∙ ap (λ q. p ∷ q) others

pub spans_are : (o : List ℕ) (ms : List Member) → spans o ms ≡ concat (encodings_of (map (placed_of o) ms))
spans_are o [] = refl
spans_are o (m ∷ ms) = ap (λ q. span o m ++ q) (spans_are o ms)

-- ---- closing a header

pub closed_octets : (o x : List ℕ) (g : Tag) (b : Bool)
    → with_size (length (o ++ identifier g.class g.number b)) (((o ++ identifier g.class g.number b) ++ 0 ∷ []) ++ x)
    ≡ o ++ (shortest_header g b (length x) ++ x)
unfolding shortest_header
closed_octets o x g b =
    let i = identifier g.class g.number b in
    let s = shortest_size (length x) in
    sized (o ++ i) x ∙ append_assoc o i (s ++ x) ∙ ap (λ q. o ++ q) (sym (append_assoc i s x))

-- the row of a header, as the table keeps it
abbrev row_at : RowKind → Tag → Bool → ℕ → ℕ → List ℕ → List ℕ → FlatRow
row_at k g b n m p q = header_row k (capped_header g b n) (listed (listed (0 + m))) p q

row_capped : (k : RowKind) (z : Numbers) (m : ℕ) (p q : List ℕ) → header_row k (capped_numbers z) (listed m) (map listed p) (map listed q) ≡ capped_row (header_row k z m p q)
row_capped Leaf z m p q = refl
row_capped Wrap z m p q = refl
row_capped Sequence z m p q = refl
row_capped SequenceOf z m p q = refl
row_capped Set z m p q = refl
row_capped SetOf z m p q = refl

row_is : (k : RowKind) (g : Tag) (b : Bool) (n m : ℕ) (p q ps qs : List ℕ) → p ≡ map listed ps → q ≡ map listed qs → row_at k g b n m p q ≡ capped_row (header_row k (header_numbers g b n) m ps qs)
row_is k g b n m p q ps qs e f =
    ap (λ y. header_row k (capped_header g b n) y p q) (capped_again m)
    ∙ ap (λ y. header_row k (capped_header g b n) (listed m) y q) e
    ∙ ap (λ y. header_row k (capped_header g b n) (listed m) (map listed ps) y) f
    ∙ row_capped k (header_numbers g b n) m ps qs

-- the octets up to the one that is held open
abbrev front_of : State → Tag → Bool → List ℕ
front_of a g b = a.octets ++ identifier g.class g.number b

closed : (a w e : State) (g : Tag) (b : Bool) (k : RowKind) (x p q : List ℕ) (rs : List FlatRow) (m : ℕ)
    → w ≡ state ((front_of a g b ++ 0 ∷ []) ++ x) a.opened a.groups ((a.rows ++ an_absent ∷ []) ++ rs) (listed (0 + m))
    → ((an_open g b k a).place < length w.octets → HeaderCloses (an_open g b k a) p q w e)
    → e ≡ added a (shortest_header g b (length x) ++ x) (row_at k g b (length x) m p q ∷ rs) 1
closed a w e g b k x p q rs m i h =
    let f = front_of a g b in
    let z = h (subst (λ y. length f < length y.octets) (sym i) (held_within f x)) in
    is_state e (a.octets ++ (shortest_header g b (length x) ++ x)) a.opened a.groups (a.rows ++ (row_at k g b (length x) m p q ∷ rs)) (listed (a.members + 1))
    (z.octets_are ∙ ap (λ y. with_size (length f) y.octets) i ∙ closed_octets a.octets x g b)
    (z.opened_are ∙ ap (λ y. y.opened) i)
    (z.groups_are ∙ ap (λ y. y.groups) i)
    (z.rows_are
    ∙ ap (λ y. set y.rows (length a.rows) (header_row k (capped_header g b (length (after (length f) y.octets))) (listed y.members) p q)) i
    ∙ ap (λ y. set ((a.rows ++ an_absent ∷ []) ++ rs) (length a.rows) (row_at k g b (length y) m p q)) (after_held f x)
    ∙ set_last a.rows rs an_absent (row_at k g b (length x) m p q))
    z.members_are

-- what is within a header
record Framing (tree t : Tree) (g : Tag) (b : Bool) (k : RowKind) (x p q : List ℕ) (rs : List FlatRow) (m : ℕ) : Type 0 where
  exact : List FlatRow
  exact_places : List ℕ
  exact_inverse : List ℕ
  rows : rs ≡ map capped_row exact
  places : p ≡ map listed exact_places
  inverse : q ≡ map listed exact_inverse
  holds : (y : List ℕ) (others : List FlatRow) → RowLayout t y others → RowLayout tree (shortest_header g b (length x) ++ (x ++ y)) (header_row k (header_numbers g b (length x)) m exact_places exact_inverse ∷ (exact ++ others))

framed : (tree t : Tree) (es : List Event) (a c : State) (g : Tag) (b : Bool) (k : RowKind) (x p q : List ℕ) (rs : List FlatRow) (m : ℕ)
    → rows_in tree ≡ 1 + rows_in t
    → Framing tree t g b k x p q rs m
    → Counted t es (added a (shortest_header g b (length x) ++ x) (row_at k g b (length x) m p q ∷ rs) 1) c
    → Counted tree es a c
framed tree t es a c g b k x p q rs m number w r =
    let hd = shortest_header g b (length x) in
    let row = row_at k g b (length x) m p q in
    let exact_row = header_row k (header_numbers g b (length x)) m w.exact_places w.exact_inverse in
    let rows : (row ∷ rs) ++ map capped_row r.exact ≡ map capped_row (exact_row ∷ (w.exact ++ r.exact)) =
    ap (λ y. y ∷ (rs ++ map capped_row r.exact)) (row_is k g b (length x) m p q w.exact_places w.exact_inverse w.places w.inverse)
    ∙ ap (λ y. capped_row exact_row ∷ y) (ap (λ y. y ++ map capped_row r.exact) w.rows ∙ sym (map-append capped_row w.exact r.exact)) in
    record {
      octets = hd ++ (x ++ r.octets);
      exact = exact_row ∷ (w.exact ++ r.exact);
      holds = w.holds r.octets r.exact r.holds;
      more = subst (λ y. Runs es y c)
          (added_twice a (hd ++ x) r.octets (row ∷ rs) (map capped_row r.exact) 1 (rows_in t) (rows_in tree) number
          ∙ ap (λ y. added a y ((row ∷ rs) ++ map capped_row r.exact) (rows_in tree)) (append_assoc hd x r.octets)
          ∙ ap (λ y. added a (hd ++ (x ++ r.octets)) y (rows_in tree)) rows)
          r.more;
    }

-- what follows a header is counted from any state
abbrev Counts : Tree → Type 0
Counts t = (es : List Event) (a c : State) → Bound a → Runs (flat t ++ es) a c → Counted t es a c

abbrev Gathers : Members → Type 0
Gathers ms = (es : List Event) (a c : State) (gs : List Group) (g : Group) → a.groups ≡ gs ++ g ∷ [] → g.next ≡ length a.octets → Bound a → Runs (flats ms ++ es) a c → Gathered ms es a gs g c

-- the state in a header that was opened
abbrev inside : State → Tag → Bool → RowKind → State
inside a g b k = state (front_of a g b ++ 0 ∷ []) (a.opened ++ an_open g b k a ∷ []) a.groups (a.rows ++ an_absent ∷ []) 0

opened_is : (a b : State) (g : Tag) (f : Bool) (k : RowKind) → HeaderOpens g f k a b → b ≡ inside a g f k
opened_is a b g f k h = is_state b _ _ _ _ 0 h.octets_are h.opened_are h.groups_are h.rows_are h.members_are

record ClosingAt (a d e : State) (g : Tag) (b : Bool) (k : RowKind) : Type 0 where
  within_it : State
  places : List ℕ
  inverse : List ℕ
  group_ends : GroupEnds k places inverse (taken d a.opened) within_it
  header_closes : (an_open g b k a).place < length within_it.octets → HeaderCloses (an_open g b k a) places inverse within_it e

closing_at : (a d e : State) (g : Tag) (b : Bool) (k : RowKind) → d.opened ≡ a.opened ++ an_open g b k a ∷ [] → Stepped closes d e → ClosingAt a d e g b k
closing_at a d e g b k i s =
    let o = an_open g b k a in
    let z : Closes d e = only_second (λ p. no_last a.opened o (sym i ∙ p.0)) s in
    let l = last_same a.opened z.others o z.one (sym i ∙ z.from) in
    record {
      within_it = z.within;
      places = z.places;
      inverse = z.inverse;
      group_ends = subst (λ q. GroupEnds k z.places z.inverse (taken d q) z.within) (sym l.0) (subst (λ q. GroupEnds q.head.row z.places z.inverse (taken d z.others) z.within) (sym l.1) z.group_ends);
      header_closes = subst (λ q. q.place < length z.within.octets → HeaderCloses q z.places z.inverse z.within e) (sym l.1) z.header_closes;
    }

-- a header around what has no members to be ordered
plain : (g : Tag) (b : Bool) (k : RowKind) (i t : Tree)
    → ((d e : State) → GroupBegins k d e → d ≡ e)
    → ((p q : List ℕ) (d e : State) → GroupEnds k p q d e → NoneEnds p q d e)
    → Counts i → Counts t → Counts (within g b k i t)
plain g b k i t begins ends inner further es a c s h =
    let d = h.0 in
    let o = h.1 in
    let e : d ≡ inside a g b k = sym (begins o.0 d o.2) ∙ opened_is a o.0 g b k o.1 in
    let p = inner (closes ∷ (flat t ++ es)) (inside a g b k) c (omega arith) (subst (λ q. Runs (flat i ++ (closes ∷ (flat t ++ es))) q c) e (subst (λ q. Runs q d c) (append_assoc (flat i) (closes ∷ flat t) es) h.2)) in
    let rs = map capped_row p.exact in
    let f = added (inside a g b k) p.octets rs (rows_in i) in
    let z = closing_at a f p.more.0 g b k refl p.more.1 in
    let n = ends z.places z.inverse (taken f a.opened) z.within_it z.group_ends in
    let w : z.within_it ≡ state ((front_of a g b ++ 0 ∷ []) ++ p.octets) a.opened a.groups ((a.rows ++ an_absent ∷ []) ++ rs) (listed (0 + rows_in i)) = sym n.2 in
    let v = closed a z.within_it p.more.0 g b k p.octets z.places z.inverse rs (rows_in i) w z.header_closes in
    let r = row_at k g b (length p.octets) (rows_in i) z.places z.inverse in
    let q = further es (added a (shortest_header g b (length p.octets) ++ p.octets) (r ∷ rs) 1) c (capped_most (a.members + 1)) (subst (λ y. Runs (flat t ++ es) y c) v p.more.2) in
    framed (within g b k i t) t es a c g b k p.octets z.places z.inverse rs (rows_in i) (one_more_row (rows_in t))
    (record {
      exact = p.exact;
      exact_places = [];
      exact_inverse = [];
      rows = refl;
      places = n.0;
      inverse = n.1;
      holds = λ y others j. (p.octets, y, p.exact, others, p.holds, j, refl, refl);
    }) q

-- ---- a header around members

record Begun (a d : State) (g : Tag) (b : Bool) (k : RowKind) : Type 0 where
  group : Group
  start_is : group.start ≡ length (front_of a g b ++ 0 ∷ [])
  next_is : group.next ≡ length (front_of a g b ++ 0 ∷ [])
  no_members : group.members.items ≡ []
  is : d ≡ state (front_of a g b ++ 0 ∷ []) (a.opened ++ an_open g b k a ∷ []) (a.groups ++ group ∷ []) (a.rows ++ an_absent ∷ []) 0

begun : (a e d : State) (g : Tag) (b : Bool) (k : RowKind) → HeaderOpens g b k a e → MembersBegin e d → Begun a d g b k
begun a e d g b k h m = record {
  group = m.group;
  start_is = m.start_is ∙ ap length h.octets_are;
  next_is = m.next_is ∙ ap length h.octets_are;
  no_members = m.no_members;
  is = is_state d _ _ _ _ 0 (m.octets_are ∙ h.octets_are) (m.opened_are ∙ h.opened_are) (m.groups_are ∙ ap (λ q. q ++ m.group ∷ []) h.groups_are) (m.rows_are ∙ h.rows_are) (m.members_are ∙ h.members_are);
}

record Ended (o : Order) (p q front x y : List ℕ) (os : List Open) (gs : List Group) (rs : List FlatRow) (m : ℕ) (ms : List Member) (w : State) : Type 0 where
  sorted : List Member
  in_order : Sorted o (front ++ (x ++ y)) ms sorted
  is : w ≡ state (front ++ (spans (front ++ (x ++ y)) sorted ++ y)) os gs rs m
  places : p ≡ map listed (places_by (numbers_in sorted))
  inverse : q ≡ map listed (numbers_in sorted)

-- the members of the group are octets x, before octets y
ended : (o : Order) (p q front x y : List ℕ) (os : List Open) (gs : List Group) (g : Group) (rs : List FlatRow) (m : ℕ) (w : State) (ms : List Member)
    → g.start ≡ length front → g.next ≡ length (front ++ x) → g.members.items ≡ ms
    → ((gs ++ g ∷ [] ≡ []) × (state (front ++ (x ++ y)) os (gs ++ g ∷ []) rs m ≡ w)) ⊎ MembersEnd o p q (state (front ++ (x ++ y)) os (gs ++ g ∷ []) rs m) w
    → Ended o p q front x y os gs rs m ms w
ended o p q front x y os gs g rs m w ms i j n s =
    let all = front ++ (x ++ y) in
    let e : MembersEnd o p q (state all os (gs ++ g ∷ []) rs m) w = only_second (λ p. no_last gs g p.0) s in
    let l = last_same gs w.groups g e.group e.from in
    let start : e.group.start ≡ length front = ap (λ q. q.start) (sym l.1) ∙ i in
    let next : e.group.next ≡ length (front ++ x) = ap (λ q. q.next) (sym l.1) ∙ j in
    record {
      sorted = e.sorted;
      in_order = subst (λ q. Sorted o all q e.sorted) (ap (λ q. q.members.items) (sym l.1) ∙ n) e.in_order;
      is = is_state w _ os gs rs m
          (e.octets_are
          ∙ ap (λ q. take q all ++ (spans all e.sorted ++ drop e.group.next all)) start
          ∙ ap (λ q. q ++ (spans all e.sorted ++ drop e.group.next all)) (take_front front (x ++ y))
          ∙ ap (λ q. front ++ (spans all e.sorted ++ drop q all)) next
          ∙ ap (λ q. front ++ (spans all e.sorted ++ drop (length (front ++ x)) q)) (sym (append_assoc front x y))
          ∙ ap (λ q. front ++ (spans all e.sorted ++ q)) (drop_front (front ++ x) y))
          e.opened_are (sym l.0) e.rows_are e.members_are;
      places = e.places_are;
      inverse = e.inverse_are;
    }

none_sorted : (ms : List Member) → IsPermutation [] ms → ms ≡ []
none_sorted [] h = refl
none_sorted (m ∷ ms) h = absurd (let l : length (m ∷ ms) ≡ length {A = Member} [] = length_permutation [] (m ∷ ms) h in omega arith)

-- a header of a SET or SET OF around a tree without members
grouped : (g : Tag) (b : Bool) (k : RowKind) (o : Order) (i t : Tree)
    → ((d e : State) → GroupBegins k d e → MembersBegin d e)
    → ((p q : List ℕ) (d e : State) → GroupEnds k p q d e → ((d.groups ≡ []) × (d ≡ e)) ⊎ MembersEnd o p q d e)
    → Counts i → Counts t → Counts (within g b k i t)
grouped g b k o i t begins ends inner further es a c s h =
    let d = h.0 in
    let m = begun a h.1.0 d g b k h.1.1 (begins h.1.0 d h.1.2) in
    let front = front_of a g b ++ 0 ∷ [] in
    let d' = state front (a.opened ++ an_open g b k a ∷ []) (a.groups ++ m.group ∷ []) (a.rows ++ an_absent ∷ []) 0 in
    let p = inner (closes ∷ (flat t ++ es)) d' c (omega arith) (subst (λ q. Runs (flat i ++ (closes ∷ (flat t ++ es))) q c) m.is (subst (λ q. Runs q d c) (append_assoc (flat i) (closes ∷ flat t) es) h.2)) in
    let f = added d' p.octets (map capped_row p.exact) (rows_in i) in
    let z = closing_at a f p.more.0 g b k refl p.more.1 in
    let rs = (a.rows ++ an_absent ∷ []) ++ map capped_row p.exact in
    let u = listed (0 + rows_in i) in
    let y = ended o z.places z.inverse front [] p.octets a.opened a.groups m.group rs u z.within_it [] m.start_is (m.next_is ∙ ap length (sym (append-nil front))) m.no_members (ends z.places z.inverse (taken f a.opened) z.within_it z.group_ends) in
    let none = none_sorted y.sorted y.in_order.same in
    let w : z.within_it ≡ state (front ++ p.octets) a.opened a.groups rs u =
    y.is ∙ ap (λ q. state (front ++ (spans (front ++ p.octets) q ++ p.octets)) a.opened a.groups rs u) none in
    let v = closed a z.within_it p.more.0 g b k p.octets z.places z.inverse (map capped_row p.exact) (rows_in i) w z.header_closes in
    let r = row_at k g b (length p.octets) (rows_in i) z.places z.inverse in
    let q = further es (added a (shortest_header g b (length p.octets) ++ p.octets) (r ∷ map capped_row p.exact) 1) c (capped_most (a.members + 1)) (subst (λ y. Runs (flat t ++ es) y c) v p.more.2) in
    framed (within g b k i t) t es a c g b k p.octets z.places z.inverse (map capped_row p.exact) (rows_in i) (one_more_row (rows_in t))
    (record {
      exact = p.exact;
      exact_places = [];
      exact_inverse = [];
      rows = refl;
      places = y.places ∙ ap (λ q. map listed (places_by (numbers_in q))) none;
      inverse = y.inverse ∙ ap (λ q. map listed (numbers_in q)) none;
      holds = λ y others j. (p.octets, y, p.exact, others, p.holds, j, refl, refl);
    }) q

-- what members say in their order
record Arrayed (o : Order) (all : List ℕ) (placed : List Placed) (sorted : List Member) : Type 0 where
  qs : List Placed
  arranged : Arranged o placed qs
  stand : ArePlacedAt (places_by (numbers_in sorted)) (numbers_in sorted) (encodings_of placed) (encodings_of qs)
  is : spans all sorted ≡ concat (encodings_of qs)

arrayed : (o : Order) (all : List ℕ) (placed : List Placed) (news sorted : List Member)
    → map (placed_of all) news ≡ placed
    → Numbered 0 news
    → Sorted o all news sorted
    → Arrayed o all placed sorted
arrayed o all placed news sorted same numbered in_order = record {
  qs = map (placed_of all) sorted;
  arranged = record {
    same = subst (λ q. IsPermutation q (map (placed_of all) sorted)) same (IsPermutation-map (placed_of all) news sorted in_order.same);
    in_order = in_order.in_order;
  };
  stand = subst (λ q. ArePlacedAt (places_by (numbers_in sorted)) (numbers_in sorted) (encodings_of q) (encodings_of (map (placed_of all) sorted))) same (standing all news sorted numbered in_order.same);
  is = spans_are all sorted;
}

in_their_order : (g : Tag) (o : Order) (ms : Members) (t : Tree)
    → ((d e : State) → GroupBegins (row_of_order o) d e → MembersBegin d e)
    → ((p q : List ℕ) (d e : State) → GroupEnds (row_of_order o) p q d e → ((d.groups ≡ []) × (d ≡ e)) ⊎ MembersEnd o p q d e)
    → Gathers ms → Counts t → Counts (ordered g o ms t)
in_their_order g o ms t begins ends inner further es a c s h =
    let k = row_of_order o in
    let d = h.0 in
    let m = begun a h.1.0 d g true k h.1.1 (begins h.1.0 d h.1.2) in
    let front = front_of a g true ++ 0 ∷ [] in
    let d' = state front (a.opened ++ an_open g true k a ∷ []) (a.groups ++ m.group ∷ []) (a.rows ++ an_absent ∷ []) 0 in
    let p = inner (closes ∷ (flat t ++ es)) d' c a.groups m.group refl m.next_is (omega arith) (subst (λ q. Runs (flats ms ++ (closes ∷ (flat t ++ es))) q c) m.is (subst (λ q. Runs q d c) (append_assoc (flats ms) (closes ∷ flat t) es) h.2)) in
    let those = concat (encodings_of p.placed) in
    let all = front ++ (those ++ []) in
    let none : front ++ those ≡ all = ap (λ q. front ++ q) (sym (append-nil those)) in
    let rs = (a.rows ++ an_absent ∷ []) ++ map capped_row p.exact in
    let u = listed (0 + rows_among ms) in
    let f = state (front ++ those) (a.opened ++ an_open g true k a ∷ []) (a.groups ++ p.group ∷ []) rs u in
    let z = closing_at a f p.more.0 g true k refl p.more.1 in
    let over = ends z.places z.inverse (taken f a.opened) z.within_it z.group_ends in
    let y = ended o z.places z.inverse front those [] a.opened a.groups p.group rs u z.within_it p.news (p.start_is ∙ m.start_is) p.next_is (p.members_are ∙ ap (λ q. q ++ p.news) m.no_members)
    (subst (λ q. ((a.groups ++ p.group ∷ [] ≡ []) × (state q a.opened (a.groups ++ p.group ∷ []) rs u ≡ z.within_it)) ⊎ MembersEnd o z.places z.inverse (state q a.opened (a.groups ++ p.group ∷ []) rs u) z.within_it) none over) in
    let numbered : Numbered 0 p.news = subst (λ q. Numbered (length q) p.news) m.no_members p.numbered in
    let same = placed_same front [] all (length front) p.news p.placed refl refl p.good in
    let found = arrayed o all p.placed p.news y.sorted same numbered y.in_order in
    let x = spans all y.sorted in
    let w : z.within_it ≡ state (front ++ x) a.opened a.groups rs u =
    y.is ∙ ap (λ q. state (front ++ q) a.opened a.groups rs u) (append-nil x) in
    let v = closed a z.within_it p.more.0 g true k x z.places z.inverse (map capped_row p.exact) (rows_among ms) w z.header_closes in
    let r = row_at k g true (length x) (rows_among ms) z.places z.inverse in
    let q = further es (added a (shortest_header g true (length x) ++ x) (r ∷ map capped_row p.exact) 1) c (capped_most (a.members + 1)) (subst (λ y. Runs (flat t ++ es) y c) v p.more.2) in
    framed (ordered g o ms t) t es a c g true k x z.places z.inverse (map capped_row p.exact) (rows_among ms) (one_more_row (rows_in t))
    (record {
      exact = p.exact;
      exact_places = places_by (numbers_in y.sorted);
      exact_inverse = numbers_in y.sorted;
      rows = refl;
      places = y.places;
      inverse = y.inverse;
      holds = λ v others j. (p.placed, found.qs, x, v, p.exact, others, places_by (numbers_in y.sorted), numbers_in y.sorted, p.stand, found.arranged, found.stand, found.is, j, refl, refl);
    }) q

-- ---- members, one by one

none_gathered : Gathers no_member
none_gathered es a c gs g at next s h = record {
  placed = [];
  news = [];
  group = g;
  exact = [];
  start_is = refl;
  next_is = next ∙ ap length (sym (append-nil a.octets));
  members_are = sym (append-nil g.members.items);
  numbered = tt;
  good = tt;
  stand = (refl, refl);
  more = subst (λ q. Runs es q c) (is_state a (a.octets ++ []) a.opened (gs ++ g ∷ []) (a.rows ++ []) (listed (a.members + 0)) (sym (append-nil a.octets)) refl at (sym (append-nil a.rows)) (capped_same a.members s)) h;
}

lacking_gathered : (d : Bool) (ms : Members) → Gathers ms → Gathers (no_component d ms)
lacking_gathered d ms others es a c gs g at next s h =
    let b = h.0 in
    let o : LeftOut d a b = h.1 in
    let n = capped_most (a.members + 1) in
    let bound : Bound b = (let e = o.members_are in omega (arith, e, n)) in
    let p = others es b c gs g (o.groups_are ∙ at) (next ∙ ap length (sym o.octets_are)) bound h.2 in
    let those = concat (encodings_of p.placed) in
    record {
      placed = p.placed;
      news = p.news;
      group = p.group;
      exact = left_row d ∷ p.exact;
      start_is = p.start_is;
      next_is = p.next_is ∙ ap (λ q. length (q ++ those)) o.octets_are;
      members_are = p.members_are;
      numbered = p.numbered;
      good = subst (λ q. AreMembers (length q) p.news p.placed) o.octets_are p.good;
      stand = (p.exact, p.stand, refl);
      more = subst (λ q. Runs es q c)
          (is_state (state (b.octets ++ those) b.opened (gs ++ p.group ∷ []) (b.rows ++ map capped_row p.exact) (listed (b.members + rows_among ms))) (a.octets ++ those) a.opened (gs ++ p.group ∷ []) (a.rows ++ map capped_row (left_row d ∷ p.exact)) (listed (a.members + suc (rows_among ms)))
          (ap (λ q. q ++ those) o.octets_are) o.opened_are refl
          (ap (λ q. q ++ map capped_row p.exact) o.rows_are ∙ append_assoc a.rows (left_row d ∷ []) (map capped_row p.exact) ∙ ap (λ q. a.rows ++ q) (left_row_capped d (map capped_row p.exact)))
          (ap (λ q. listed (q + rows_among ms)) o.members_are ∙ capped_twice a.members 1 (rows_among ms) (suc (rows_among ms)) (one_more_row (rows_among ms)))) p.more;
    }

one_gathered : (r : ℕ) (i : Tree) (ms : Members) → Counts i → Gathers ms → Gathers (member r i ms)
one_gathered r i ms inner others es a c gs g at next s h =
    let p = inner (ends_member r ∷ (flats ms ++ es)) a c s (subst (λ q. Runs q a c) (append_assoc (flat i) (ends_member r ∷ flats ms) es) h) in
    let b = p.more.0 in
    let f = added a p.octets (map capped_row p.exact) (rows_in i) in
    let m : MemberEnds r f b = only_second (λ w. no_last gs g (sym at ∙ w.0)) p.more.1 in
    let l = last_same gs m.outer g m.group (sym at ∙ m.from) in
    let bound : Bound b = (let e = m.members_are in let k = capped_most (a.members + rows_in i) in omega (arith, e, k)) in
    let q = others es b c gs m.larger (m.groups_are ∙ ap (λ w. w ++ m.larger ∷ []) (sym l.0)) (m.next_is ∙ ap length (sym m.octets_are)) bound p.more.2 in
    let those = concat (encodings_of q.placed) in
    let larger : m.larger.members.items ≡ g.members.items ++ m.member ∷ [] = m.larger_are ∙ ap (λ w. w.members.items ++ m.member ∷ []) (sym l.1) in
    let size : length m.larger.members.items ≡ suc (length g.members.items) = (let e = ap length larger ∙ length-append g.members.items (m.member ∷ []) in omega (arith, e)) in
    let sum : length b.octets ≡ length a.octets + length p.octets = ap length m.octets_are ∙ length-append a.octets p.octets in
    let whole : b.octets ++ those ≡ a.octets ++ (p.octets ++ those) = ap (λ w. w ++ those) m.octets_are ∙ append_assoc a.octets p.octets those in
    record {
      placed = record { rank = r; octets = p.octets } ∷ q.placed;
      news = m.member ∷ q.news;
      group = q.group;
      exact = p.exact ++ q.exact;
      start_is = q.start_is ∙ m.start_is ∙ ap (λ w. w.start) (sym l.1);
      next_is = q.next_is ∙ ap length whole;
      members_are = q.members_are ∙ ap (λ w. w ++ q.news) larger ∙ append_assoc g.members.items (m.member ∷ []) q.news;
      numbered = (m.number_is ∙ ap (λ w. length w.members.items) (sym l.1), subst (λ w. Numbered w q.news) size q.numbered);
      good = (
        m.rank_is,
        m.starts ∙ ap (λ w. w.next) (sym l.1) ∙ next,
        m.ends ∙ length-append a.octets p.octets,
        subst (λ w. AreMembers w q.news q.placed) sum q.good,
      );
      stand = (p.octets, q.placed, p.exact, q.exact, p.holds, q.stand, refl, refl);
      more = subst (λ w. Runs es w c)
          (is_state (state (b.octets ++ those) b.opened (gs ++ q.group ∷ []) (b.rows ++ map capped_row q.exact) (listed (b.members + rows_among ms)))
          (a.octets ++ (p.octets ++ those)) a.opened (gs ++ q.group ∷ []) (a.rows ++ map capped_row (p.exact ++ q.exact)) (listed (a.members + (rows_in i + rows_among ms)))
          whole m.opened_are refl
          (ap (λ w. w ++ map capped_row q.exact) m.rows_are ∙ append_assoc a.rows (map capped_row p.exact) (map capped_row q.exact) ∙ ap (λ w. a.rows ++ w) (sym (map-append capped_row p.exact q.exact)))
          (ap (λ w. listed (w + rows_among ms)) m.members_are ∙ capped_twice a.members (rows_in i) (rows_among ms) (rows_in i + rows_among ms) refl)) q.more;
    }

-- ---- what isn't a header

done_counted : Counts done
done_counted es a c s h = record { octets = []; exact = []; holds = (refl, refl); more = subst (λ q. Runs es q c) (added_none a s) h }

piece_counted : (x : List ℕ) (t : Tree) → Counts t → Counts (piece x t)
piece_counted x t further es a c s h =
    let b = h.0 in
    let k : ContentsAdded x a b = h.1 in
    let e : b ≡ added a x [] 0 = is_state b (a.octets ++ x) a.opened a.groups (a.rows ++ []) (listed (a.members + 0)) k.octets_are k.opened_are k.groups_are (k.rows_are ∙ sym (append-nil a.rows)) (k.members_are ∙ capped_same a.members s) in
    let q = further es (added a x [] 0) c (capped_most (a.members + 0)) (subst (λ w. Runs (flat t ++ es) w c) e h.2) in
    record {
      octets = x ++ q.octets;
      exact = q.exact;
      holds = (q.octets, q.holds, refl);
      more = subst (λ w. Runs es w c) (added_twice a x q.octets [] (map capped_row q.exact) 0 (rows_in t) (rows_in t) (no_more_rows (rows_in t))) q.more;
    }

lacking_counted : (d : Bool) (t : Tree) → Counts t → Counts (lacking d t)
lacking_counted d t further es a c s h =
    let b = h.0 in
    let o : LeftOut d a b = h.1 in
    let e : b ≡ added a [] (left_row d ∷ []) 1 = is_state b (a.octets ++ []) a.opened a.groups (a.rows ++ left_row d ∷ []) (listed (a.members + 1)) (o.octets_are ∙ sym (append-nil a.octets)) o.opened_are o.groups_are o.rows_are o.members_are in
    let q = further es (added a [] (left_row d ∷ []) 1) c (capped_most (a.members + 1)) (subst (λ w. Runs (flat t ++ es) w c) e h.2) in
    record {
      octets = q.octets;
      exact = left_row d ∷ q.exact;
      holds = (q.exact, q.holds, refl);
      more = subst (λ w. Runs es w c)
          (added_twice a [] q.octets (left_row d ∷ []) (map capped_row q.exact) 1 (rows_in t) (suc (rows_in t)) (one_more_row (rows_in t))
          ∙ ap (λ w. added a q.octets w (suc (rows_in t))) (left_row_capped d (map capped_row q.exact))) q.more;
    }

-- ---- all trees

mutual
  pub counted : (t : Tree) → Counts t
  counted done = done_counted
  counted (piece x t) = piece_counted x t (counted t)
  counted (lacking d t) = lacking_counted d t (counted t)
  counted (within g b Leaf i t) = plain g b Leaf i t (λ d e h. h) (λ p q d e h. h) (counted i) (counted t)
  counted (within g b Wrap i t) = plain g b Wrap i t (λ d e h. h) (λ p q d e h. h) (counted i) (counted t)
  counted (within g b Sequence i t) = plain g b Sequence i t (λ d e h. h) (λ p q d e h. h) (counted i) (counted t)
  counted (within g b SequenceOf i t) = plain g b SequenceOf i t (λ d e h. h) (λ p q d e h. h) (counted i) (counted t)
  counted (within g b Set i t) = grouped g b Set by_rank i t (λ d e h. h) (λ p q d e h. h) (counted i) (counted t)
  counted (within g b SetOf i t) = grouped g b SetOf by_octets i t (λ d e h. h) (λ p q d e h. h) (counted i) (counted t)
  counted (ordered g by_octets ms t) = in_their_order g by_octets ms t (λ d e h. h) (λ p q d e h. h) (gathered ms) (counted t)
  counted (ordered g by_rank ms t) = in_their_order g by_rank ms t (λ d e h. h) (λ p q d e h. h) (gathered ms) (counted t)

  pub gathered : (ms : Members) → Gathers ms
  gathered no_member = none_gathered
  gathered (no_component d ms) = lacking_gathered d ms (gathered ms)
  gathered (member r i ms) = one_gathered r i ms (counted i) (gathered ms)
