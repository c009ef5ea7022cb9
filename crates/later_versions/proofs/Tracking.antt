-- The places of members that lead to each pair that was met.
use Rattle.std.proofs.Common.{append_assoc, arith, inl, inr, ◌≡◌, ℕ, zero, suc, ◌+◌, ◌-◌, ◌<◌, ◌≤◌, List, [], ◌∷◌, ◌++◌, get_or, length, map, refl, sym, ap, subst, ◌∙◌}
use Rattle.std.specs.Prelude.{slice_get, ◌⊎◌, Err, IfOk, Ok, Result, Some, option_map}
use Rattle.std.specs.List.{AllByRecursion}
use Rattle.std.proofs.lemmas.Bool.{cases_lt}
use Rattle.std.proofs.lemmas.List.{length-map}
use Rattle.std.proofs.lemmas.Option.{slice_get_within, slice_get-map, same_Some}
use Rattle.asn_base.specs.Types.{Resolved}
use Rattle.later_versions.specs.Projected.{members_of}
use Rattle.later_versions.specs.Differences.{AreLaterBefore, IsBefore, IsDifference}
use Rattle.later_versions.specs.Later.{leads}
use Rattle.later_versions.specs.proving.Pairs.{AreBack, AreLed, AreMembersNoted, ArePaths, IsMemberPairAt, IsMetAt, IsSoFar, PairDiffers, met, met_pair}
use Rattle.later_versions.specs.declared.pairs.Pairs.{Pairs}
use Rattle.later_versions.specs.declared.reason.Difference.{Difference}
use Rattle.later_versions.specs.declared.pairs.Met.{Met}
use Rattle.later_versions.proofs.Fronts.{got, slice_get_some}
use Rattle.later_versions.proofs.Order.{IsAtMost, before_last, before_more, before_most, before_twice, front_before, most_before, most_last, most_more, most_twice, not_before}
use Rattle.later_versions.proofs.Pairing.{append-none, get_left, leads_further, leads_on, member_place}

-- the pair was met, and the places that lead to it are these ones or before
abbrev IsMetBy : List Met → List (List ℕ) → ℕ × ℕ → List ℕ → Type 0
IsMetBy ms paths q path =
    (k : ℕ) × (p : List ℕ) × (slice_get (map met_pair ms) k ≡ Some q) × (slice_get paths k ≡ Some p) × IsAtMost p path

-- Each pair has its places, which lead to it. They are in order, and below those of members of the pair at place `at`.
-- Of the pairs before that one the pairs of members were met, by their places or before.
pub record IsTracked (s : List Resolved) (t : ℕ) (s' : List Resolved) (t' : ℕ) (ms : List Met) (at : ℕ) : Type 0 where
  pub paths : List (List ℕ)
  pub many : length paths ≡ length ms
  pub are : ArePaths ms paths
  pub led : AreLed s t s' t' ms paths
  pub back : AreBack ms
  pub start : slice_get (map met_pair ms) 0 ≡ Some (t, t')
  pub sorted : (i j : ℕ) (p q : List ℕ) → i < j → slice_get paths i ≡ Some p → slice_get paths j ≡ Some q → IsBefore p q
  pub below : (own p : List ℕ) (k : ℕ) → slice_get paths at ≡ Some own → slice_get paths k ≡ Some p → IsBefore p (own ++ 0 ∷ [])
  pub noted : (i : ℕ) (p q : ℕ × ℕ) (own : List ℕ) (n : ℕ)
      → i < at
      → slice_get (map met_pair ms) i ≡ Some p
      → slice_get paths i ≡ Some own
      → IsMemberPairAt s s' p n q
      → IsMetBy ms paths q (own ++ n ∷ [])

get_right : {A : Type 0} (xs ys : List A) (i : ℕ) → length xs ≤ i → slice_get (xs ++ ys) i ≡ slice_get ys (i - length xs)
get_right [] ys i l = let e : i ≡ i - 0 = omega arith in ap (slice_get ys) e
get_right (x ∷ xs) ys zero l = absurd (omega (arith, l))
get_right (x ∷ xs) ys (suc i) l =
    let e : i - length xs ≡ suc i - suc (length xs) = omega arith in
    get_right xs ys i (omega (arith, l)) ∙ ap (slice_get ys) e

length_both : {A : Type 0} (xs ys : List A) → length (xs ++ ys) ≡ length xs + length ys
length_both [] ys = omega arith
length_both (x ∷ xs) ys = let h = length_both xs ys in omega (arith, h)

all_at : {A : Type 0} (P : A → Type 0) (xs : List A) (i : ℕ) (x : A) → AllByRecursion P xs → slice_get xs i ≡ Some x → P x
all_at P [] i x a e = absurd cc
all_at P (y ∷ xs) zero x a e = subst P (same_Some y x e) a.0
all_at P (y ∷ xs) (suc i) x a e = all_at P xs i x a.1 e

pub tracked_first : (s : List Resolved) (t : ℕ) (s' : List Resolved) (t' : ℕ) (ms : List Met) (x : Met)
    → ms ≡ x ∷ []
    → met_pair x ≡ (t, t')
    → IsTracked s t s' t' ms 0
tracked_first s t s' t' ms x e p = subst (λ q. IsTracked s t s' t' q 0) (sym e) (record {
  paths = [] ∷ [];
  many = refl;
  are = record { first = refl; next = λ k m path l g h. absurd (let w = slice_get_within (x ∷ []) k m g in omega (arith, l, w)) };
  led = led_one;
  back = λ k m l g. absurd (let w = slice_get_within (x ∷ []) k m g in omega (arith, l, w));
  start = ap Some p;
  sorted = λ i j y z l f g. absurd (let w = slice_get_within ([] ∷ []) j z g in omega (arith, l, w));
  below = λ own y k f g. inl (let a = only_empty k y g in let b = only_empty 0 own f in short own y a b);
  noted = λ i y q own n l. absurd (omega (arith, l));
})
  where
    only_empty : (k : ℕ) (y : List ℕ) → slice_get ([] ∷ []) k ≡ Some y → length y ≡ 0
    only_empty zero y e = let h = ap length (same_Some [] y e) in omega (arith, h)
    only_empty (suc k) y e = absurd cc

    short : (own y : List ℕ) → length y ≡ 0 → length own ≡ 0 → length y < length (own ++ 0 ∷ [])
    short own y a b = let h = length_both own (0 ∷ []) in omega (arith, h, a, b)

    led_one : AreLed s t s' t' (x ∷ []) ([] ∷ [])
    led_one zero q path g h =
        let a : (t, t') ≡ q = sym p ∙ same_Some (met_pair x) q g in
        subst (λ r. (leads s t r ≡ Some q.0) × (leads s' t' r ≡ Some q.1)) (same_Some [] path h)
        (ap (λ r. Some r.0) a, ap (λ r. Some r.1) a)
    led_one (suc k) q path g h = absurd (cc)

-- what is new: an earlier place, or one of the pairs that were met last
split_at : {A : Type 0} (xs ys : List A) (k : ℕ) (x : A)
    → slice_get (xs ++ ys) k ≡ Some x
    → ((k < length xs) × (slice_get xs k ≡ Some x)) ⊎ ((length xs ≤ k) × (slice_get ys (k - length xs) ≡ Some x))
split_at xs ys k x e = elim (cases_lt k (length xs)) [
  | inl l ↦ inl (l, sym (get_left xs ys k l) ∙ e)
  | inr l ↦ inr (l, sym (get_right xs ys k l) ∙ e)
]

pub tracked_more : (s : List Resolved) (t : ℕ) (s' : List Resolved) (t' : ℕ) (ms new more : List Met) (at : ℕ) (p : ℕ × ℕ)
    → slice_get (map met_pair ms) at ≡ Some p
    → new ≡ ms ++ more
    → AllByRecursion (IsMetAt s s' at p) more
    → ((i j : ℕ) (x y : Met) → i < j → slice_get more i ≡ Some x → slice_get more j ≡ Some y → x.place < y.place)
    → ((n : ℕ) (q : ℕ × ℕ)
    → IsMemberPairAt s s' p n q
    → ((k : ℕ) × (slice_get (map met_pair ms) k ≡ Some q)) ⊎ ((k : ℕ) × (x : Met) × (slice_get more k ≡ Some x) × (met_pair x ≡ q) × (x.place ≤ n)))
    → IsTracked s t s' t' ms at
    → IsTracked s t s' t' new (at + 1)
tracked_more s t s' t' ms new more at p e n a up each so = subst (λ q. IsTracked s t s' t' q (at + 1)) (sym n) (record {
  paths = all;
  many = length_both so.paths ends ∙ (let b = length_both ms more in let c = length-map more end in let d = so.many in omega (arith, b, c, d));
  are = record {
    first = get_left so.paths ends 0 (slice_get_within so.paths 0 [] so.are.first) ∙ so.are.first;
    next = λ k m path l g h. elim (split_at ms more k m g) [
      | inl b ↦ (
          let from = so.back k m l b.1 in
          let inside : m.from < length so.paths = (let c = so.many in let d = b.0 in omega (arith, c, d, from)) in
          let here : k < length so.paths = (let c = so.many in let d = b.0 in omega (arith, c, d)) in
          get_left so.paths ends k here ∙ so.are.next k m path l b.1 (sym (get_left so.paths ends m.from inside) ∙ h)
          )
      | inr b ↦ (
          let r = all_at (IsMetAt s s' at p) more (k - length ms) m a b.1 in
          let q = same_Some own.0 path (sym (get_left so.paths ends at inside_at ∙ own.1) ∙ sym (ap (slice_get all) r.0) ∙ h) in
          new_at k m b.0 b.1 ∙ ap (λ z. Some (z ++ m.place ∷ [])) q
          )
    ];
  };
  led = λ k q path g h.
      let z = slice_get_some (ms ++ more) k (let w = slice_get_within (map met_pair (ms ++ more)) k q g in let c = length-map (ms ++ more) met_pair in omega (arith, w, c)) in
      let same = same_Some (met_pair z.0) q (sym (slice_get-map met_pair (ms ++ more) k ∙ ap (option_map met_pair) z.1) ∙ g) in
      elim (split_at ms more k z.0 z.1) [
        | inl b ↦ (
            let here : k < length so.paths = (let c = so.many in let d = b.0 in omega (arith, c, d)) in
            so.led k q path (slice_get-map met_pair ms k ∙ ap (option_map met_pair) b.1 ∙ ap Some same) (sym (get_left so.paths ends k here) ∙ h)
            )
        | inr b ↦ (
            let r = all_at (IsMetAt s s' at p) more (k - length ms) z.0 a b.1 in
            let o = so.led at p own.0 e own.1 in
            let i = same_Some (own.0 ++ z.0.place ∷ []) path (sym (new_at k z.0 b.0 b.1) ∙ h) in
            subst (λ y. (leads s t y ≡ Some q.0) × (leads s' t' y ≡ Some q.1)) i (
            subst (λ y. (leads s t (own.0 ++ z.0.place ∷ []) ≡ Some y.0) × (leads s' t' (own.0 ++ z.0.place ∷ []) ≡ Some y.1)) same (
              leads_further s t p.0 z.0.pair.first.index z.0.place own.0 o.0 r.1.0,
              leads_further s' t' p.1 z.0.pair.second.index z.0.place own.0 o.1 r.1.1,
            )
            )
            )
      ];
  back = λ k m l g. elim (split_at ms more k m g) [
    | inl b ↦ so.back k m l b.1
    | inr b ↦ (let r = all_at (IsMetAt s s' at p) more (k - length ms) m a b.1 in let f = r.0 in let d = b.0 in omega (arith, f, d, within))
  ];
  start = met_left 0 (t, t') so.start;
  sorted = all_sorted;
  below = λ later y k f g.
      let o = all_sorted at (at + 1) own.0 later (omega arith) (get_left so.paths ends at inside_at ∙ own.1) f in
      elim (split_at so.paths ends k y g) [
        | inl b ↦ before_twice y (own.0 ++ 0 ∷ []) (later ++ 0 ∷ []) (so.below own.0 y k own.1 b.1) (before_more own.0 later 0 0 o)
        | inr b ↦ (
            let z = new_path (k - length so.paths) y b.1 in
            subst (λ w. IsBefore w (later ++ 0 ∷ [])) z.2 (before_more own.0 later z.0.place 0 o)
            )
      ];
  noted = λ i y q path m l f g c. elim (cases_lt i at) [
    | inl b ↦ (
        let inside : i < length ms = (let w = within in omega (arith, b, w)) in
        let d = so.noted i y q path m b (sym (met_before i inside) ∙ f) (sym (get_left so.paths ends i (let w = so.many in omega (arith, w, inside))) ∙ g) c in
        (d.0, d.1, met_left d.0 q d.2, get_left so.paths ends d.0 (slice_get_within so.paths d.0 d.1 d.3) ∙ d.3, d.4)
        )
    | inr b ↦ (
        let same : at ≡ i = omega (arith, b, l) in
        let y_is = same_Some p y (sym e ∙ sym (met_before at within) ∙ ap (slice_get (map met_pair (ms ++ more))) same ∙ f) in
        let path_is = same_Some own.0 path (sym (get_left so.paths ends at inside_at ∙ own.1) ∙ ap (slice_get all) same ∙ g) in
        subst (λ w. IsMetBy (ms ++ more) all q (w ++ m ∷ [])) path_is (member_met m q (subst (λ z. IsMemberPairAt s s' z m q) (sym y_is) c))
        )
  ];
})
  where
    met_before : (k : ℕ) → k < length ms → slice_get (map met_pair (ms ++ more)) k ≡ slice_get (map met_pair ms) k
    met_before k l =
        slice_get-map met_pair (ms ++ more) k ∙ ap (option_map met_pair) (get_left ms more k l) ∙ sym (slice_get-map met_pair ms k)

    met_left : (k : ℕ) (q : ℕ × ℕ) → slice_get (map met_pair ms) k ≡ Some q → slice_get (map met_pair (ms ++ more)) k ≡ Some q
    met_left k q g = met_before k (let w = slice_get_within (map met_pair ms) k q g in let c = length-map ms met_pair in omega (arith, w, c)) ∙ g

    within : at < length ms
    within = let w = slice_get_within (map met_pair ms) at p e in let c = length-map ms met_pair in omega (arith, w, c)

    inside_at : at < length so.paths
    inside_at = let c = so.many in let d = within in omega (arith, c, d)

    own : (path : List ℕ) × (slice_get so.paths at ≡ Some path)
    own = slice_get_some so.paths at inside_at

    end : Met → List ℕ
    end m = own.0 ++ m.place ∷ []

    ends : List (List ℕ)
    ends = map end more

    all : List (List ℕ)
    all = so.paths ++ ends

    new_at : (k : ℕ) (m : Met) → length ms ≤ k → slice_get more (k - length ms) ≡ Some m → slice_get all k ≡ Some (own.0 ++ m.place ∷ [])
    new_at k m l g =
        let c = so.many in
        let f : k - length so.paths ≡ k - length ms = ap (λ z. k - z) c in
        get_right so.paths ends k (omega (arith, c, l)) ∙ ap (slice_get ends) f ∙ slice_get-map end more (k - length ms) ∙ ap (option_map end) g

    new_path : (j : ℕ) (y : List ℕ) → slice_get ends j ≡ Some y → (m : Met) × (slice_get more j ≡ Some m) × (own.0 ++ m.place ∷ [] ≡ y)
    new_path j y g =
        let z = slice_get_some more j (let w = slice_get_within ends j y g in let c = length-map more end in omega (arith, w, c)) in
        (z.0, z.1, same_Some (end z.0) y (sym (slice_get-map end more j ∙ ap (option_map end) z.1) ∙ g))

    all_sorted : (i j : ℕ) (y z : List ℕ) → i < j → slice_get all i ≡ Some y → slice_get all j ≡ Some z → IsBefore y z
    all_sorted i j y z l f g = elim (split_at so.paths ends j z g) [
      | inl b ↦ so.sorted i j y z l (sym (get_left so.paths ends i (let d = b.0 in omega (arith, d, l))) ∙ f) b.1
      | inr b ↦ (
          let v = new_path (j - length so.paths) z b.1 in
          elim (split_at so.paths ends i y f) [
            | inl c ↦ subst (IsBefore y) v.2 (before_most y (own.0 ++ 0 ∷ []) (own.0 ++ v.0.place ∷ []) (so.below own.0 y i own.1 c.1) (most_last own.0 0 v.0.place (omega arith)))
            | inr c ↦ (
                let u = new_path (i - length so.paths) y c.1 in
                let less : i - length so.paths < j - length so.paths = (let d = b.0 in let w = c.0 in omega (arith, d, w, l)) in
                subst (λ w. IsBefore w z) u.2 (subst (IsBefore (own.0 ++ u.0.place ∷ [])) v.2
                (before_last own.0 u.0.place v.0.place (up (i - length so.paths) (j - length so.paths) u.0 v.0 less u.1 v.1)))
                )
          ]
          )
    ]

    member_met : (m : ℕ) (q : ℕ × ℕ) → IsMemberPairAt s s' p m q → IsMetBy (ms ++ more) all q (own.0 ++ m ∷ [])
    member_met m q c = elim (each m q c) [
      | inl b ↦ (
          let inside : b.0 < length so.paths = (let w = slice_get_within (map met_pair ms) b.0 q b.1 in let d = length-map ms met_pair in let f = so.many in omega (arith, w, d, f)) in
          let path = slice_get_some so.paths b.0 inside in
          (b.0, path.0, met_left b.0 q b.1, get_left so.paths ends b.0 inside ∙ path.1, inr (before_most path.0 (own.0 ++ 0 ∷ []) (own.0 ++ m ∷ []) (so.below own.0 path.0 b.0 own.1 path.1) (most_last own.0 0 m (omega arith))))
          )
      | inr b ↦ (
          let k = b.0 + length ms in
          let j : k - length ms ≡ b.0 = omega arith in
          let found : slice_get more (k - length ms) ≡ Some b.1 = ap (slice_get more) j ∙ b.2 in (
            k,
            own.0 ++ b.1.place ∷ [],
            slice_get-map met_pair (ms ++ more) k ∙ ap (option_map met_pair) (get_right ms more k (omega arith) ∙ found) ∙ ap Some b.3,
            new_at k b.1 (omega arith) found,
            most_last own.0 b.1.place m b.4,
          )
          )
    ]

pub tracked_next : (s : List Resolved) (t : ℕ) (s' : List Resolved) (t' : ℕ) (old new : Pairs) (at : ℕ) (p : ℕ × ℕ)
    → slice_get (met old) at ≡ Some p
    → AreMembersNoted s s' at p old new
    → IsTracked s t s' t' old.list.items at
    → IsTracked s t s' t' new.list.items (at + 1)
tracked_next s t s' t' old new at p e h so =
    tracked_more s t s' t' old.list.items new.list.items h.more at p e h.items h.are h.ascend
    (λ n q c. elim (h.each n q c) [
      | inl a ↦ inl (member_place a)
      | inr b ↦ inr b
    ])
    so

pub tracked_difference : (s : List Resolved) (t : ℕ) (s' : List Resolved) (t' : ℕ) (ms : List Met) (paths : List (List ℕ)) (at : ℕ) (p : ℕ × ℕ) (d : Difference)
    → AreLed s t s' t' ms paths
    → slice_get paths at ≡ Some d.places.items
    → slice_get (map met_pair ms) at ≡ Some p
    → slice_get (map met_pair ms) at ≡ Some (d.older.index, d.newer.index)
    → PairDiffers s s' p d.reason
    → ((path : List ℕ) → slice_get paths at ≡ Some path → AreLaterBefore s t s' t' path)
    → IsDifference s t s' t' d
tracked_difference s t s' t' ms paths at p d led e f g w front =
    let l = led at p d.places.items f e in
    let same = same_Some p (d.older.index, d.newer.index) (sym f ∙ g) in
    record {
      one = w.one;
      other = w.other;
      leads_older = l.0 ∙ ap (λ q. Some q.0) same;
      leads_newer = l.1 ∙ ap (λ q. Some q.1) same;
      at_older = sym (ap (λ q. slice_get s q.0) same) ∙ w.at_first;
      at_newer = sym (ap (λ q. slice_get s' q.1) same) ∙ w.at_second;
      differs = w.differs;
      first = front d.places.items e;
    }

pub met_at : (ms : List Met) (at : ℕ) (m : Met) → at < length ms → slice_get (map met_pair ms) at ≡ Some (met_pair (get_or ms at m))
met_at ms at m l = slice_get-map met_pair ms at ∙ ap (option_map met_pair) (got ms at m l)

pub if_ok : {A E : Type 0} {P Q : A → Type 0} (r : Result A E) → IfOk r P → ((x : A) → P x → Q x) → IfOk r Q
if_ok (Ok x) h f = f x h
if_ok (Err e) h f = tt

-- ---- what comes before

-- a pair that was met by places before those of the pair at place `at` comes before it
met_earlier : (paths : List (List ℕ)) (at k : ℕ) (own p : List ℕ)
    → ((i j : ℕ) (p q : List ℕ) → i < j → slice_get paths i ≡ Some p → slice_get paths j ≡ Some q → IsBefore p q)
    → slice_get paths at ≡ Some own
    → slice_get paths k ≡ Some p
    → IsBefore p own
    → k < at
met_earlier paths at k own p sorted e f h = elim (cases_lt k at) [
  | inl l ↦ l
  | inr l ↦ elim (cases_lt at k) [
    | inl m ↦ absurd (not_before p (before_twice p own p h (sorted at k own p m e f)))
    | inr m ↦ absurd (
        let s : at ≡ k = omega (arith, l, m) in
        let q = same_Some own p (sym e ∙ ap (slice_get paths) s ∙ f) in
        not_before p (subst (IsBefore p) q h)
        )
  ]
]

reached_before : (s : List Resolved) (t : ℕ) (s' : List Resolved) (t' : ℕ) (ms : List Met) (at : ℕ) (own : List ℕ)
    → (so : IsTracked s t s' t' ms at)
    → slice_get so.paths at ≡ Some own
    → (done rest : List ℕ) (v v' u u' : ℕ)
    → IsBefore (done ++ rest) own
    → IsMetBy ms so.paths (v, v') done
    → leads s v rest ≡ Some u
    → leads s' v' rest ≡ Some u'
    → IsMetBy ms so.paths (u, u') (done ++ rest)
reached_before s t s' t' ms at own so o done [] v v' u u' h m a b =
    subst (λ q. IsMetBy ms so.paths (u, u') q) (append-none done)
    (subst (λ q. IsMetBy ms so.paths (q, u') done) (same_Some v u a) (subst (λ q. IsMetBy ms so.paths (v, q) done) (same_Some v' u' b) m))
reached_before s t s' t' ms at own so o done (i ∷ rest) v v' u u' h m a b =
    let f = leads_on s rest (slice_get (members_of s v) i) u a in
    let g = leads_on s' rest (slice_get (members_of s' v') i) u' b in
    let here = front_before done i rest own h in
    let low = met_earlier so.paths at m.0 own m.1 so.sorted o m.3 (most_before m.1 done own m.4 here) in
    let n = so.noted m.0 (v, v') (f.0, g.0) m.1 i low m.2 m.3 (f.1, g.1) in
    let next : IsMetBy ms so.paths (f.0, g.0) (done ++ i ∷ []) = (n.0, n.1, n.2, n.3, most_twice n.1 (m.1 ++ i ∷ []) (done ++ i ∷ []) n.4 (most_more m.1 done i m.4)) in
    let e = append_assoc done (i ∷ []) rest in
    subst (IsMetBy ms so.paths (u, u')) e
    (reached_before s t s' t' ms at own so o (done ++ i ∷ []) rest f.0 g.0 u u' (subst (λ q. IsBefore q own) (sym e) h) next f.2 g.2)

-- places before those of the pair at place `at` lead to pairs that are fine
pub later_before : (s : List Resolved) (t : ℕ) (s' : List Resolved) (t' : ℕ) (ms : List Met) (at : ℕ) (own : List ℕ)
    → IsSoFar s t s' t' (map met_pair ms) at
    → (so : IsTracked s t s' t' ms at)
    → slice_get so.paths at ≡ Some own
    → AreLaterBefore s t s' t' own
later_before s t s' t' ms at own far so o places u u' q r h a b c d =
    let m = reached_before s t s' t' ms at own so o [] places t t' u u' h (0, [], so.start, so.are.first, inl refl) a b in
    let low = met_earlier so.paths at m.0 own m.1 so.sorted o m.3 (most_before m.1 places own m.4 h) in
    far.fine m.0 (u, u') low m.2 q r c d
