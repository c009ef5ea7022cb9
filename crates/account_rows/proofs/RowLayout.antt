-- The events of a value, as a tree whose octets and rows are those of an account of the value.
use Rattle.std.proofs.Common.{◌≡◌, ℕ, suc, ◌+◌, ◌<◌, ◌≤◌, ◌^◌, Bool, true, List, [], ◌∷◌, ◌++◌, length, refl, sym, ap, subst, ◌∙◌, arith, append-nil, length-append}
use Rattle.std.specs.Prelude.{Some, None}
use Rattle.std.specs.List.{concat}
use Rattle.asn_base.specs.declared.tag.Tag.{Tag}
use Rattle.asn_base.specs.Abstract.{AbstractValue, Row, absent, present}
use Rattle.asn_base.specs.Types.{Kind, Presence, optional, default, addition, Component, Resolved, Is}
use Rattle.asn_base.specs.Typed.{ValueIn, MayBeAbsent, where_optional, where_default, where_addition}
use Rattle.asn_base.specs.Same.{Alike}
use Rattle.asn_base.specs.Schemas.{HasValue}
use Rattle.encodings.specs.Rules.{Distinguished}
use Rattle.encodings.specs.Header.{HeaderBy, identifier}
use Rattle.encodings.specs.Fewest.{shortest_header, shortest_size}
use Rattle.encodings.specs.Encoding.{IsDefault}
use Rattle.encodings.specs.Account.{Numbers, Account, header, Inside as Within, wrap_row, Rows, absent_row, default_row, HeaderHasNumbers, Headed, headed_bare, headed_innermost, headed_outer, ArePlacedAt, Describes, describes, ContentsHaveRows, MembersHaveRows, absent_listed, absent_default_listed, default_listed, member_listed}
use Rattle.codec_code.specs.declared.step.RowKind.{RowKind}
use Rattle.codec_code.specs.Events.{Event, opens, closes, Order, by_octets, by_rank, row_of_order, Tree, done, within, ordered, Members as Group, flat, flats, SetMember, encodings_of, Arranged}
use Rattle.codec_code.specs.Routines.{heads, body, ends, row_of, is_constructed, routine_of, routine_at, need_of}
use Rattle.codec_code.specs.Steps.{Steps, IsTheDefault as DefaultIn, has_default}
use Rattle.octet_account.specs.Flat.{FlatRow, a_wrap, rows_of, member_rows, count}
use Rattle.account_rows.specs.Lengths.{octets_in, members_in}
use Rattle.account_rows.specs.RowLayout.{header_numbers, header_row, left_row, rows_in, rows_among, RowLayout, MemberRows}
use Rattle.account_rows.specs.Meaning.{HasRows}
use Rattle.codec_code.specs.proving.Wrapped.{opened, closed_by, wrapped, flat_wrapped}
use Rattle.codec_code.specs.proving.Inversion.{heads_in}
use Rattle.asn_base.specs.proving.OneKind.{same_tags, same_kind}
use Rattle.codec_code.specs.proving.Present.{needs_default}

pub record ListedOf (s : List Resolved) (t : ℕ) (v : AbstractValue) (es : List Event) : Type 0 where
  pub tree : Tree
  pub is : es ≡ flat tree
  pub one : rows_in tree ≡ 1
  pub holds : (o : List ℕ) (rs : List FlatRow) → RowLayout tree o rs → length o < 2 ^ 64 → HasRows s t v o rs
  pub as_many : (o : List ℕ) (a : Account) → Describes s t v o a → length o ≡ octets_in tree

-- ---- what is within the headers

pub data Content : Type 0 where
  plain : Tree → Content
  grouped : Order → Group → Content

abbrev pub made_of : RowKind → Content → Tag → Tree
made_of k (plain i) g = within g (is_constructed k) k i done
made_of k (grouped o ms) g = ordered g o ms done

abbrev pub bare_of : Content → Tree
bare_of (plain i) = i
bare_of (grouped o ms) = done

abbrev pub events_of : Content → List Event
events_of (plain i) = flat i
events_of (grouped o ms) = flats ms

-- contents octets, and the rows from the header around them on, by the numbers of that header
abbrev pub Means : RowKind → Content → List ℕ → (Numbers → List FlatRow) → Type 0
Means k (plain i) x f = (inside : List FlatRow) × RowLayout i x inside × ((z : Numbers) → f z ≡ header_row k z (rows_in i) [] [] ∷ inside)
Means k (grouped o ms) x f =
    (ps : List SetMember) × (qs : List SetMember) × (inside : List FlatRow) × (p : List ℕ) × (q : List ℕ)
    × MemberRows ms ps inside × Arranged o ps qs × ArePlacedAt p q (encodings_of ps) (encodings_of qs) × (x ≡ concat (encodings_of qs))
    × ((z : Numbers) → f z ≡ header_row (row_of_order o) z (rows_among ms) p q ∷ inside)

abbrev pub octets_within : Content → ℕ
octets_within (plain i) = octets_in i
octets_within (grouped o ms) = members_in ms

-- members that are put in order are in a header of their own
abbrev pub Suits : List Tag → RowKind → Content → Type 0
Suits tags k (plain i) = Unit {0}
Suits tags k (grouped o ms) = (k ≡ row_of_order o) × (tags ≡ [] → ⊥)

with_tag : (tags : List Tag) (k : RowKind) (c : Content) → Suits tags k c → (g : Tag) → flat (made_of k c g) ≡ opens g (is_constructed k) k ∷ (events_of c ++ closes ∷ [])
with_tag tags k (plain i) u g = refl
with_tag tags k (grouped by_octets ms) u g = ap (λ q. opens g (is_constructed q) q ∷ (flats ms ++ closes ∷ [])) (sym u.0)
with_tag tags k (grouped by_rank ms) u g = ap (λ q. opens g (is_constructed q) q ∷ (flats ms ++ closes ∷ [])) (sym u.0)

without_tag : (tags : List Tag) (k : RowKind) (c : Content) → Suits tags k c → tags ≡ [] → flat (bare_of c) ≡ events_of c
without_tag tags k (plain i) u e = refl
without_tag tags k (grouped o ms) u e = absurd (u.1 e)

-- contents and rows in one header
record Behind (k : RowKind) (c : Content) (g : Tag) (b : Bool) (o : List ℕ) (rs : List FlatRow) : Type 0 where
  contents : List ℕ
  from : Numbers → List FlatRow
  mean : Means k c contents from
  whole : o ≡ shortest_header g b (length contents) ++ contents
  rows : rs ≡ from (header_numbers g b (length contents))

after_one : (d x y o : List ℕ) → y ≡ [] → o ≡ d ++ (x ++ y) → o ≡ d ++ x
after_one d x y o e f = f ∙ ap (λ q. d ++ (x ++ q)) e ∙ ap (λ q. d ++ q) (append-nil x)

rows_after : (r : FlatRow) (xs ys rs : List FlatRow) → ys ≡ [] → rs ≡ r ∷ (xs ++ ys) → rs ≡ r ∷ xs
rows_after r xs ys rs e f = f ∙ ap (λ q. r ∷ (xs ++ q)) e ∙ ap (λ q. r ∷ q) (append-nil xs)

order_constructed : (o : Order) → is_constructed (row_of_order o) ≡ true
order_constructed by_octets = refl
order_constructed by_rank = refl

one_after : (tags : List Tag) (k : RowKind) (c : Content) → Suits tags k c → (g : Tag) (o : List ℕ) (rs : List FlatRow) → RowLayout (made_of k c g) o rs → Behind k c g (is_constructed k) o rs
one_after tags k (plain i) u g o rs h =
    let b = is_constructed k in
    record {
      contents = h.0;
      from = λ z. header_row k z (rows_in i) [] [] ∷ h.2;
      mean = (h.2, h.4, λ z. refl);
      whole = after_one (shortest_header g b (length h.0)) h.0 h.1 o h.5.0 h.6;
      rows = rows_after (header_row k (header_numbers g b (length h.0)) (rows_in i) [] []) h.2 h.3 rs h.5.1 h.7;
    }
one_after tags k (grouped a ms) u g o rs h =
    let e : is_constructed k ≡ true = ap is_constructed u.0 ∙ order_constructed a in
    subst (λ q. Behind k (grouped a ms) g q o rs) (sym e) (record {
      contents = h.2;
      from = λ z. header_row (row_of_order a) z (rows_among ms) h.6 h.7 ∷ h.4;
      mean = (h.0, h.1, h.4, h.6, h.7, h.8, h.9, h.10, h.11, λ z. refl);
      whole = after_one (shortest_header g true (length h.2)) h.2 h.3 o h.12.0 h.13;
      rows = rows_after (header_row (row_of_order a) (header_numbers g true (length h.2)) (rows_among ms) h.6 h.7) h.4 h.5 rs h.12.1 h.14;
    })

abbrev no_numbers : Numbers
no_numbers = record { identifier = 0; size = 0; contents = 0 }

abbrev rest_of : List FlatRow → List FlatRow
rest_of [] = []
rest_of (r ∷ rs) = rs

-- the contents of octets with these tags, and the rows
record HeadedIn (tags : List Tag) (k : RowKind) (c : Content) (o : List ℕ) (rs : List FlatRow) : Type 0 where
  contents : List ℕ
  from : Numbers → List FlatRow
  mean : Means k c contents from
  more : length contents ≤ length o
  headed : length o < 2 ^ 64 → (i : Within) → ((z : Numbers) → from z ≡ rows_of (header z i)) → (tags ≡ [] → (a : Account) × (i ≡ wrap_row a)) → (a : Account) × Headed tags (is_constructed k) contents i o a × (rs ≡ rows_of a)

header_length : (g : Tag) (c : Bool) (n : ℕ) → length (shortest_header g c n) ≡ length (identifier g.class g.number c) + length (shortest_size n)
unfolding shortest_header
header_length g c n = length-append (identifier g.class g.number c) (shortest_size n)

module _ (header_is : (t : Tag) (c : Bool) (n : ℕ) → n < 2 ^ 64 → HeaderBy Distinguished t c n (shortest_header t c n)) where
  header_listed : (g : Tag) (c : Bool) (n : ℕ) → n < 2 ^ 64 → HeaderHasNumbers g c n (shortest_header g c n) (header_numbers g c n)
  header_listed g c n l = record { is_header = header_is g c n l; identifier_counted = refl; size_counted = sym (header_length g c n); contents_counted = refl }

  headed_in : (tags : List Tag) (k : RowKind) (c : Content) → Suits tags k c → (all : List Tag) → (all ≡ [] → tags ≡ []) → (o : List ℕ) (rs : List FlatRow) → RowLayout (wrapped all (made_of k c) (bare_of c)) o rs → HeadedIn all k c o rs
  headed_in tags k (grouped a ms) u [] same o rs h = absurd (u.1 (same refl))
  headed_in tags k (plain i) u [] same o rs h = record {
    contents = o;
    from = λ z. header_row k z (rows_in i) [] [] ∷ rs;
    mean = (rs, h, λ z. refl);
    more = omega arith;
    headed = λ l w e b.
        let p = b refl in
        (p.0, subst (λ q. Headed [] (is_constructed k) o q o p.0) (sym p.1) headed_bare, ap rest_of (e no_numbers ∙ ap (λ q. rows_of (header no_numbers q)) p.1));
  }
  headed_in tags k c u (g ∷ []) same o rs h =
      let p = one_after tags k c u g o rs h in
      let d = shortest_header g (is_constructed k) (length p.contents) in
      let z = header_numbers g (is_constructed k) (length p.contents) in
      let n : length o ≡ length d + length p.contents = ap length p.whole ∙ length-append d p.contents in
      record {
        contents = p.contents;
        from = p.from;
        mean = p.mean;
        more = omega (arith, n);
        headed = λ l w e b. (
          header z w,
          subst (λ q. Headed (g ∷ []) (is_constructed k) p.contents w q (header z w)) (sym p.whole) (headed_innermost (header_listed g (is_constructed k) (length p.contents) (omega (arith, n)))),
          p.rows ∙ e z,
        );
      }
  headed_in tags k c u (g ∷ g' ∷ gs) same o rs h =
      let y = h.0 in
      let d = shortest_header g true (length y) in
      let z = header_numbers g true (length y) in
      let p = headed_in tags k c u (g' ∷ gs) (λ q. absurd (cc)) y h.2 h.4 in
      let e : o ≡ d ++ y = after_one d y h.1 o h.5.0 h.6 in
      let n : length o ≡ length d + length y = ap length e ∙ length-append d y in
      record {
        contents = p.contents;
        from = p.from;
        mean = p.mean;
        more = (let m = p.more in omega (arith, m, n));
        headed = λ l w f b.
            let j : length y < 2 ^ 64 = omega (arith, n) in
            let r = p.headed j w f (λ q. absurd (cc)) in (
              header z (wrap_row r.0),
              subst (λ q. Headed (g ∷ g' ∷ gs) (is_constructed k) p.contents w q (header z (wrap_row r.0))) (sym e) (headed_outer r.1 (header_listed g true (length y) j)),
              rows_after (a_wrap z) h.2 h.3 rs h.5.1 h.7 ∙ ap (λ q. a_wrap z ∷ q) r.2,
            );
      }

pub record HeldBy (s : List Resolved) (tags : List Tag) (k : Kind) (v : AbstractValue) (x : List ℕ) (f : Numbers → List FlatRow) : Type 0 where
  pub inside : Within
  pub is : ContentsHaveRows s k v (is_constructed (row_of k)) x inside
  pub rows : (z : Numbers) → f z ≡ rows_of (header z inside)
  pub bare : tags ≡ [] → (a : Account) × (inside ≡ wrap_row a)

pub record Inside (s : List Resolved) (tags : List Tag) (k : Kind) (v : AbstractValue) (fs : List Event) : Type 0 where
  pub content : Content
  pub suits : Suits tags (row_of k) content
  pub is : fs ≡ events_of content ++ closed_by (length tags)
  pub one : tags ≡ [] → rows_in (bare_of content) ≡ 1
  pub holds : (x : List ℕ) (f : Numbers → List FlatRow) → Means (row_of k) content x f → length x < 2 ^ 64 → HeldBy s tags k v x f
  pub as_many : (c : Bool) (x : List ℕ) (i : Within) → ContentsHaveRows s k v c x i → (c ≡ is_constructed (row_of k)) × (length x ≡ octets_within content)

routine_is : (s : List Resolved) (t : ℕ) (tags : List Tag) (k : Kind) → Is s t tags k → routine_at s t ≡ heads tags (row_of k) ++ (body s k ++ ends (length tags))
unfolding routine_of
routine_is s t tags k i = ap (λ o. elim o [ None ↦ [] | Some r ↦ routine_of s r ]) i.found

made_one : (k : RowKind) (c : Content) (g : Tag) → rows_in (made_of k c g) ≡ 1
made_one k (plain i) g = refl
made_one k (grouped o ms) g = refl

wrapped_one : (tags : List Tag) (k : RowKind) (c : Content) → (tags ≡ [] → rows_in (bare_of c) ≡ 1) → rows_in (wrapped tags (made_of k c) (bare_of c)) ≡ 1
wrapped_one [] k c h = h refl
wrapped_one (g ∷ []) k c h = made_one k c g
wrapped_one (g ∷ g' ∷ gs) k c h = refl

-- ---- how many octets

made_length : (tags : List Tag) (k : RowKind) (c : Content) → Suits tags k c → (g : Tag) → octets_in (made_of k c g) ≡ length (shortest_header g (is_constructed k) (octets_within c)) + octets_within c
made_length tags k (plain i) u g = omega arith
made_length tags k (grouped o ms) u g =
    let e : is_constructed k ≡ true = ap is_constructed u.0 ∙ order_constructed o in
    let f = ap (λ q. length (shortest_header g q (members_in ms))) e in omega (arith, f)

bare_length : (tags : List Tag) (k : RowKind) (c : Content) → Suits tags k c → tags ≡ [] → octets_in (bare_of c) ≡ octets_within c
bare_length tags k (plain i) u e = refl
bare_length tags k (grouped o ms) u e = absurd (u.1 e)

module _ (only : (t : Tag) (c : Bool) (n : ℕ) (h : List ℕ) → HeaderBy Distinguished t c n h → h ≡ shortest_header t c n) where
  headed_length : (tags : List Tag) (k : RowKind) (c : Content) → Suits tags k c → {all : List Tag} {b : Bool} {x o : List ℕ} {i : Within} {a : Account} → (all ≡ [] → tags ≡ []) → Headed all b x i o a → b ≡ is_constructed k → length x ≡ octets_within c → length o ≡ octets_in (wrapped all (made_of k c) (bare_of c))
  headed_length tags k c u same headed_bare e f = f ∙ sym (bare_length tags k c u (same refl))
  headed_length tags k c u same (headed_innermost {t = t} {c = b} {h = h} {x = x} z) e f =
      let p = ap length (only t b (length x) h z.is_header) ∙ ap (λ q. length (shortest_header t q (length x))) e ∙ ap (λ q. length (shortest_header t (is_constructed k) q)) f in
      let q = length-append h x in
      let r = made_length tags k c u t in omega (arith, p, q, r, f)
  headed_length tags k c u same (headed_outer {t = t} {u = g} {ts = ts} {h = h} {y = y} d z) e f =
      let m = headed_length tags k c u {all = g ∷ ts} (λ q. absurd (cc)) d e f in
      let p = ap length (only t true (length y) h z.is_header) ∙ ap (λ q. length (shortest_header t true q)) m in
      let q = length-append h y in omega (arith, p, q, m)

pub whole : (s : List Resolved) → ((t : Tag) (c : Bool) (n : ℕ) → n < 2 ^ 64 → HeaderBy Distinguished t c n (shortest_header t c n))
    → ((t : Tag) (c : Bool) (n : ℕ) (h : List ℕ) → HeaderBy Distinguished t c n h → h ≡ shortest_header t c n)
    → {t : ℕ} {tags : List Tag} {k : Kind} {v : AbstractValue} → Is s t tags k → (es : List Event) → Steps s t (routine_at s t) v es
    → ((fs : List Event) → Steps s t (body s k ++ ends (length tags)) v fs → Inside s tags k v fs) → ListedOf s t v es
whole s header_is only {t = t} {tags = tags} {k = k} {v = v} i es d h =
    let r = row_of k in
    let p = heads_in tags r (body s k ++ ends (length tags)) (subst (λ q. Steps s t q v es) (routine_is s t tags k i) d) in
    let w = h p.0 p.1 in
    record {
      tree = wrapped tags (made_of r w.content) (bare_of w.content);
      is = p.2 ∙ ap (λ q. opened tags r ++ q) w.is ∙ flat_wrapped tags r (made_of r w.content) (bare_of w.content) (events_of w.content) (with_tag tags r w.content w.suits) (without_tag tags r w.content w.suits);
      one = wrapped_one tags r w.content w.one;
      holds = λ o rs ot lt.
          let b = headed_in header_is tags r w.content w.suits tags (λ e. e) o rs ot in
          let x = w.holds b.contents b.from b.mean (let m = b.more in omega (arith, m)) in
          let y = b.headed lt x.inside x.rows x.bare in
          record { account = y.0; describes = describes i x.is y.1; rows = y.2 };
      as_many = λ o a q. listed_length w.content i q w.suits w.as_many;
    }
  where
    listed_length : {o : List ℕ} {a : Account} (c : Content) → Is s t tags k → Describes s t v o a → Suits tags (row_of k) c
        → ((b : Bool) (x : List ℕ) (j : Within) → ContentsHaveRows s k v b x j → (b ≡ is_constructed (row_of k)) × (length x ≡ octets_within c))
        → length o ≡ octets_in (wrapped tags (made_of (row_of k) c) (bare_of c))
    listed_length {o = o} {a = a} c i (describes {tags = tags'} {k = k'} {c = b} {x = x} {i = j} i' d f) u m =
        let r = m b x j (subst (λ q. ContentsHaveRows s q v b x j) (same_kind i i') d) in
        headed_length only tags (row_of k) c u {all = tags} (λ e. e) (subst (λ q. Headed q b x j o a) (same_tags i i') f) r.0 r.1

-- ---- components

-- the row of a component that is absent
pub record LeftListed (s : List Resolved) (c : Component) (cs : List Component) (vs : Row) (xs : List (List ℕ)) (rs : Rows) : Type 0 where
  pub all : Rows
  pub listed : MembersHaveRows s (c ∷ cs) vs xs all
  pub rows : member_rows all ≡ left_row (has_default (need_of c.presence)) ∷ member_rows rs
  pub counted : count all ≡ suc (count rs)

is_default_presence : Presence → Bool
is_default_presence p = has_default (need_of p)

pub absent_left : {s : List Resolved} {n t : ℕ} {p : Presence} → MayBeAbsent s n t p → {c : Component} {cs : List Component} {vs : Row} {xs : List (List ℕ)} {rs : Rows} → c.presence ≡ p → MembersHaveRows s cs vs xs rs → LeftListed s c cs (absent vs) xs rs
absent_left where_optional {rs = rs} e m = record { all = absent_row rs; listed = absent_listed (λ d f. absurd (let g : optional ≡ default d = sym e ∙ f in cc)) m; rows = ap (λ q. left_row (has_default (need_of q)) ∷ member_rows rs) (sym e); counted = refl }
absent_left (where_default {d = d} v) {rs = rs} e m = record { all = default_row rs; listed = absent_default_listed d e m; rows = ap (λ q. left_row (has_default (need_of q)) ∷ member_rows rs) (sym e); counted = refl }
absent_left (where_addition {o = o} {g = a}) {rs = rs} e m = record { all = absent_row rs; listed = absent_listed (λ d f. absurd (let g : addition o a ≡ default d = sym e ∙ f in cc)) m; rows = ap (λ q. left_row (has_default (need_of q)) ∷ member_rows rs) (sym e); counted = refl }

pub omitted_left : {s : List Resolved} {c : Component} {cs : List Component} {v : AbstractValue} {vs : Row} {xs : List (List ℕ)} {rs : Rows} → DefaultIn s c v → MembersHaveRows s cs vs xs rs → LeftListed s c cs (present v vs) xs rs
omitted_left {rs = rs} d m = record { all = default_row rs; listed = default_listed (d.value, d.has_default, d.same.are_alike) m; rows = ap (λ q. left_row q ∷ member_rows rs) (sym (needs_default d.has_default)); counted = refl }

-- ---- what an account says of a component

-- the component is absent, or is the same as its DEFAULT, so the octets are those of the others
pub absent_back : {s : List Resolved} {c : Component} {cs : List Component} {vs : Row} {xs : List (List ℕ)} {rs : Rows} → MembersHaveRows s (c ∷ cs) (absent vs) xs rs → (qs : Rows) × MembersHaveRows s cs vs xs qs
absent_back (absent_listed {rs = rs} n d) = (rs, d)
absent_back (absent_default_listed {rs = rs} x e d) = (rs, d)

pub omitted_back : {s : List Resolved} {c : Component} {cs : List Component} {v : AbstractValue} {vs : Row} {xs : List (List ℕ)} {rs : Rows} → DefaultIn s c v → MembersHaveRows s (c ∷ cs) (present v vs) xs rs → (qs : Rows) × MembersHaveRows s cs vs xs qs
omitted_back a (default_listed {rs = rs} e d) = (rs, d)
omitted_back a (member_listed n b d) = absurd (n (a.value, a.has_default, a.same.are_alike))

pub record Stood (s : List Resolved) (c : Component) (cs : List Component) (v : AbstractValue) (vs : Row) (xs : List (List ℕ)) : Type 0 where
  pub octets : List ℕ
  pub account : Account
  pub others : List (List ℕ)
  pub rows : Rows
  pub describes : Describes s c.type v octets account
  pub more : MembersHaveRows s cs vs others rows
  pub are : xs ≡ octets ∷ others

pub stood_back : {s : List Resolved} {c : Component} {cs : List Component} {v : AbstractValue} {vs : Row} {xs : List (List ℕ)} {rs : Rows} → (IsDefault s c v → ⊥) → MembersHaveRows s (c ∷ cs) (present v vs) xs rs → Stood s c cs v vs xs
stood_back n (default_listed e d) = absurd (n e)
stood_back n (member_listed {x = x} {xs = xs} {a = a} {rs = rs} n' b d) = record { octets = x; account = a; others = xs; rows = rs; describes = b; more = d; are = refl }

module _ (s : List Resolved)
    (turn : (t : ℕ) (v w : AbstractValue) → Alike s t v w → Alike s t w v)
    (levels : (m n t : ℕ) (v w : AbstractValue) → Alike s t v w → ValueIn s n t v → ValueIn s m t w → ValueIn s n t w) where
  -- being alike to the default is being the same
  pub default_from : {n : ℕ} {c : Component} {v : AbstractValue} → HasValue s c → ValueIn s n c.type v → IsDefault s c v → DefaultIn s c v
  default_from {n} {c} {v} h b d =
      record { value = d.0; has_default = d.1; same = record { first = levels n 64 c.type d.0 v (turn c.type v d.0 d.2) (h d.0 d.1).shaped b; second = (h d.0 d.1).shaped; are_alike = d.2 } }
