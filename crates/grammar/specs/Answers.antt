-- The results of a reader that starts at a place.
use Rattle.std.proofs.Common.{zero, suc, ◌≡◌, ℕ, ◌+◌, ◌-◌, ◌<◌, ◌≤◌, ◌||◌, ◌⊎◌, inl, inr, Bool, true, false, List, [], ◌∷◌, ◌++◌, length, take, drop, Ok, Err, refl, sym, ap, subst, ◌∙◌ as ◌⋆◌, append_assoc, arith, length-append, length-drop}
use Rattle.std.proofs.lemmas.List.{take_at, take-append-drop, append-nil}
use Rattle.grammar.specs.Lexeme.{Lexeme}
use Rattle.grammar.specs.Grammar.{Grammar}
use Rattle.grammar.specs.Grows.{Grows}
use Rattle.grammar.specs.Reading.{Limit, Nesting, Integer, TagNumber, Fault, Unexpected, Beyond, Read, Reader}
use Rattle.grammar.specs.Laws.{nowhere, past, more, more_than, left_of, Sound, Passes, ReadsAs}
use Rattle.grammar.specs.Places.{Limits, Within, raised, Limited, free, between, IsRead, Stops, Ends, PassesLimit}

-- the next lexeme, if there is one, can't continue u
abbrev pub Closed : {A : Type 0} → Grammar A → List Lexeme → List Lexeme → Type 0
Closed all u us = (t : Lexeme) (r : List Lexeme) → us ≡ t ∷ r → all.IsPrefix (u ++ t ∷ []) → ⊥

-- the limits b, but with the numbers and tags that a allows as well
abbrev pub joined : Limits → Limits → Limits
joined a b = record { nesting = b.nesting; number = λ n. a.number n || b.number n; tag = λ n. a.tag n || b.tag n }

either_left : (x y : Bool) → x ≡ true → (x || y) ≡ true
either_left true y e = refl
either_left false y e = absurd cc

either_right : (x y : Bool) → y ≡ true → (x || y) ≡ true
either_right true y e = refl
either_right false y e = e

one_of : (x y : Bool) → (x || y) ≡ true → (y ≡ true → x ≡ true) → x ≡ true
one_of true y e h = refl
one_of false y e h = h e

pub joined_first : (f g : ℕ → Bool) (n : ℕ) → f n ≡ true → (f n || g n) ≡ true
joined_first f g n = either_left (f n) (g n)

pub joined_second : (f g : ℕ → Bool) (n : ℕ) → g n ≡ true → (f n || g n) ≡ true
joined_second f g n = either_right (f n) (g n)

-- if b allows no more than a by this limit, the joined limits allow no more either
joined_within : (l : Limit) (a b : Limits) → Within l b a → Within l (joined a b) a
joined_within Nesting a b w = w
joined_within Integer a b w = λ n e. one_of (a.number n) (b.number n) e (w n)
joined_within TagNumber a b w = λ n e. one_of (a.tag n) (b.tag n) e (w n)

-- What a reader within the limits a guarantees.
pub record Reads {A : Type 0} (g : Limited A) (a : Limits) (read : Reader A) : Type 0 where
  pub grows : (b : Limits) → Grows (g b) (g (joined a b))
  pub front : (b : Limits) (u us : List Lexeme)
      → (g (joined a b)).IsPrefix u
      → Passes (λ l. Within l (joined a b) a) us (read (u ++ us))
  pub whole : (b : Limits) (x : A) (u : List Lexeme)
      → (g (joined a b)).Is x u
      → ReadsAs (λ l. Within l (joined a b) a) (read (u ++ [])) x []
  pub part : (x : A) (u : List Lexeme) → (g a).Is x u → (g a).IsPrefix u
  pub sound : (ts : List Lexeme) → Sound nowhere (g a) ts (read ts)
  pub passed : (l : Limit) → (b : Limits) × ((ts : List Lexeme) → Sound (past l) (g (raised l a b)) ts (read ts))
  pub closed : (x : A) (u us : List Lexeme)
      → (g a).Is x u
      → Closed (free g) u us
      → ReadsAs (λ l. Within l a a) (read (u ++ us)) x us

pub within_all : (l : Limit) (a : Limits) → Within l a a
within_all Nesting a = omega arith
within_all Integer a = λ n h. h
within_all TagNumber a = λ n h. h

-- raising one limit leaves the other limits unchanged
kept : (l m : Limit) (a b : Limits) → (l ≡ m) ⊎ Within m (raised l a b) a
kept Nesting Nesting a b = inl refl
kept Nesting Integer a b = inr (λ n h. h)
kept Nesting TagNumber a b = inr (λ n h. h)
kept Integer Nesting a b = inr (omega arith)
kept Integer Integer a b = inl refl
kept Integer TagNumber a b = inr (λ n h. h)
kept TagNumber Nesting a b = inr (omega arith)
kept TagNumber Integer a b = inr (λ n h. h)
kept TagNumber TagNumber a b = inl refl

plain : (f : Fault) (n : ℕ) → more_than f nowhere n ≡ n
plain (Unexpected k) n = refl
plain (Beyond l k) n = refl

its_own : (l : Limit) (n : ℕ) → more (past l l) n ≡ suc n
its_own Nesting n = refl
its_own Integer n = refl
its_own TagNumber n = refl

-- two places are the same if neither is before the other
pub same_place : (i j : ℕ) → (i < j → ⊥) → (j < i → ⊥) → i ≡ j
same_place zero zero h k = refl
same_place zero (suc j) h k = absurd (h (omega arith))
same_place (suc i) zero h k = absurd (k (omega arith))
same_place (suc i) (suc j) h k = ap suc (same_place i j (λ lt. h (omega (arith, lt))) (λ lt. k (omega (arith, lt))))

-- only one place ends the longest prefix
pub one_stop : {A : Type 0} (g : Limited A) (a : Limits) (ts : List Lexeme) (start i j : ℕ)
    → Stops g a ts start i
    → Stops g a ts start j
    → i ≡ j
one_stop g a ts start i j s s' = same_place i j (λ lt. s.longest j lt s'.to s'.before)
    (λ lt. s'.longest i lt s.to s.before)

-- if nothing can continue under any limits, no limit is passed
pub not_both : {A : Type 0} (g : Limited A) (a : Limits) (ts : List Lexeme) (start i j : ℕ) (l : Limit)
    → Ends g a ts start i
    → PassesLimit g a ts start j l
    → ⊥
not_both g a ts start i j l e p =
    let same = one_stop g a ts start i j e.stops p.stops in
    let lt = p.longer in
    e.always (raised l a p.others) p.further (omega (arith, same, lt)) p.to p.goes_on

module _ {A : Type 0} (g : Limited A) (a : Limits) (read : Reader A) (reads : Reads g a read) where
  front : (b : Limits) (u us : List Lexeme) → (g b).IsPrefix u → Passes (λ l. Within l b a) us (read (u ++ us))
  front b u us h = weaker (read (u ++ us)) (reads.front b u us ((reads.grows b).on u h))
    where
      weaker : (r : Read A) → Passes (λ l. Within l (joined a b) a) us r → Passes (λ l. Within l b a) us r
      weaker (Ok x) k = k
      weaker (Err (Unexpected n)) k = k
      weaker (Err (Beyond l n)) (inl k) = inl k
      weaker (Err (Beyond l n)) (inr k) = inr (λ w. k (joined_within l a b w))

  -- the number of lexemes from a fault on
  far : (f : Fault) (us : List Lexeme) → Passes {A = A} (λ l. Within l a a) us (Err f) → left_of f ≤ length us
  far (Unexpected k) us h = h
  far (Beyond l k) us (inl h) = h
  far (Beyond l k) us (inr w) = absurd (w (within_all l a))

  -- At the end of the lexemes, an `Unexpected` fault means that they aren't a whole.
  no_whole : (k : ℕ) (u : List Lexeme) (x : A) → read (u ++ []) ≡ Err (Unexpected k) → (free g).Is x u → ⊥
  no_whole k u x q (b, w) = elim (reads.whole b x u ((reads.grows b).is x u w)) [
    | inl e ↦ let d = sym e ⋆ q in absurd cc
    | inr (p, n, e) ↦ let d = sym e ⋆ q in absurd cc
  ]

  module _ (ts : List Lexeme) (start : ℕ) (place : start ≤ length ts) where
    -- u has the lexemes between two places
    front_at : (u rest : List Lexeme)
        → drop start ts ≡ u ++ rest
        →
        (start ≤ length ts - length rest) × (length ts - length rest ≤ length ts)
        × (u ≡ between ts start (length ts - length rest))
    front_at u rest e =
        let n : (length ts - length rest) - start ≡ length u =
        omega (arith, ap length e, length-append u rest, length-drop start ts) in (
          omega (arith, ap length e, length-append u rest, length-drop start ts),
          omega arith,
          sym
              (ap (λ (l : List Lexeme). take ((length ts - length rest) - start) l) e
              ⋆ take_at u rest ((length ts - length rest) - start) (sym n)),
        )

    next_at : (u r : List Lexeme) (t : Lexeme)
        → drop start ts ≡ u ++ t ∷ r
        → u ++ t ∷ [] ≡ between ts start ((length ts - length (t ∷ r)) + 1)
    next_at u r t e =
        let n : ((length ts - length (t ∷ r)) + 1) - start ≡ length (u ++ t ∷ []) =
        omega (arith, ap length e, length-append u (t ∷ r), length-append u (t ∷ []), length-drop start ts) in
        sym (ap (λ (l : List Lexeme). take (((length ts - length (t ∷ r)) + 1) - start) l)
        (e ⋆ sym (append_assoc u (t ∷ []) r)) ⋆ take_at (u ++ t ∷ []) r (((length ts - length (t ∷ r)) + 1) - start)
        (sym n))

    rest_fits : (u rest : List Lexeme) → drop start ts ≡ u ++ rest → length rest ≤ length ts
    rest_fits u rest e = omega (arith, ap length e, length-append u rest, length-drop start ts)

    -- the lexemes after a place
    abbrev rest_from : ℕ → List Lexeme
    rest_from j = drop (j - start) (drop start ts)

    rest_from_long : (j : ℕ) → start ≤ j → j ≤ length ts → length (rest_from j) ≡ length ts - j
    rest_from_long j from to = omega (arith, length-drop (j - start) (drop start ts), length-drop start ts)

    -- the reader comes as far as a prefix can continue
    come : (b : Limits) (j : ℕ)
        → (g b).IsPrefix (between ts start j)
        → Passes (λ l. Within l b a) (rest_from j) (read (drop start ts))
    come b j h = subst (λ (l : List Lexeme). Passes (λ l. Within l b a) (rest_from j) (read l))
        (take-append-drop (j - start) (drop start ts)) (front b (between ts start j) (rest_from j) h)

    pub found_at : (x : A × List Lexeme)
        → read (drop start ts) ≡ Ok x
        → IsRead (g a) (free g) ts start x.0 (length ts - length x.1)
    found_at x e =
        let s : Sound nowhere (g a) (drop start ts) (Ok x) = subst (Sound nowhere (g a) (drop start ts)) e
        (reads.sound (drop start ts)) in
        let f = front_at s.0 x.1 s.1 in
        let fits = rest_fits s.0 x.1 s.1 in
        let end = length ts - length x.1 in
        record {
          from = f.0;
          to = f.1;
          is = subst (λ (l : List Lexeme). (g a).Is x.0 l) f.2 s.2;
          ends = λ lt h.
              let p : length x.1 ≤ length (rest_from (end + 1)) =
              subst (Passes (λ l. Within l h.0 a) (rest_from (end + 1))) e (come h.0 (end + 1) h.1) in
              let from = f.0 in
              absurd (omega (arith, p, rest_from_long (end + 1) (omega (arith, from)) (omega (arith, lt)), fits, lt));
        }

    stopped : (f : Fault) (u rest : List Lexeme)
        → drop start ts ≡ u ++ rest
        → left_of f ≡ length rest
        → (g a).IsPrefix u
        → read (drop start ts) ≡ Err f
        → Stops g a ts start (length ts - left_of f)
    stopped f u rest e d h q =
        let p = front_at u rest e in
        let fits = rest_fits u rest e in
        let place' = p.0 in
        subst (λ (k : ℕ). Stops g a ts start (length ts - k)) (sym d) (record {
          from = p.0;
          to = p.1;
          before = subst (g a).IsPrefix p.2 h;
          longest = λ j lt to c.
              let m = far f (rest_from j) (subst (Passes (λ l. Within l a a) (rest_from j)) q (come a j c)) in
              absurd (omega (arith, m, d, lt, to, fits, rest_from_long j (omega (arith, place', lt)) to));
        })

    pub stops_at : (f : Fault) → read (drop start ts) ≡ Err f → Stops g a ts start (length ts - left_of f)
    stops_at f q =
        let s : Sound nowhere (g a) (drop start ts) (Err f) = subst (Sound nowhere (g a) (drop start ts)) q
        (reads.sound (drop start ts)) in
        stopped f s.0 s.1 s.2 (s.3 ⋆ plain f (length s.1)) s.4 q

    none_at : (k : ℕ) (u rest : List Lexeme)
        → drop start ts ≡ u ++ rest
        → k ≡ length rest
        → read (u ++ rest) ≡ Err (Unexpected k)
        → length ts - k ≡ length ts
        → (x : A)
        → (free g).Is x (between ts start (length ts - k))
        → ⊥
    none_at k u [] e d q le x w =
        let f = front_at u [] e in
        no_whole k u x q (subst (λ (l : List Lexeme). (free g).Is x l)
        (ap (λ (k : ℕ). between ts start (length ts - k)) d ⋆ sym f.2) w)
    none_at k u (t ∷ r) e d q le x w = absurd (omega (arith, d, le, rest_fits u (t ∷ r) e))

    pub unexpected_at : (k : ℕ) → read (drop start ts) ≡ Err (Unexpected k) → Ends g a ts start (length ts - k)
    unexpected_at k q =
        let s : Sound nowhere (g a) (drop start ts) (Err (Unexpected k)) = subst (Sound nowhere (g a) (drop start ts)) q
        (reads.sound (drop start ts)) in
        let stops = stops_at (Unexpected k) q in
        let from = stops.from in
        let fits = rest_fits s.0 s.1 s.2 in
        let d = s.3 in
        record {
          stops = stops;
          always = λ b j lt to c.
              let m : k ≤ length (rest_from j) = subst (Passes (λ l. Within l b a) (rest_from j)) q (come b j c) in
              absurd (omega (arith, m, lt, to, fits, d, rest_from_long j (omega (arith, from, lt)) to));
          none = none_at k s.0 s.1 s.2 s.3 (subst (λ (l : List Lexeme). read l ≡ Err (Unexpected k)) s.2 q);
        }

    pub left_le : (f : Fault) → read (drop start ts) ≡ Err f → left_of f ≤ length ts
    left_le f e =
        let s : Sound nowhere (g a) (drop start ts) (Err f) = subst (Sound nowhere (g a) (drop start ts)) e
        (reads.sound (drop start ts)) in
        let d = s.3 ⋆ plain f (length s.1) in
        omega (arith, d, rest_fits s.0 s.1 s.2)

    pub limit_at : (l : Limit) (k : ℕ)
        → read (drop start ts) ≡ Err (Beyond l k)
        → PassesLimit g a ts start (length ts - k) l
    limit_at l k q =
        let b = (reads.passed l).0 in
        let s : Sound (past l) (g (raised l a b)) (drop start ts) (Err (Beyond l k)) =
        subst (Sound (past l) (g (raised l a b)) (drop start ts)) q ((reads.passed l).1 (drop start ts)) in
        let f = front_at s.0 s.1 s.2 in
        let fits = rest_fits s.0 s.1 s.2 in
        let d : k ≡ suc (length s.1) = s.3 ⋆ its_own l (length s.1) in
        let n = left_le (Beyond l k) q in
        record {
          stops = stops_at (Beyond l k) q;
          others = b;
          further = length ts - length s.1;
          longer = omega (arith, d, n);
          to = f.1;
          goes_on = subst (g (raised l a b)).IsPrefix f.2 s.4;
        }

    pub rest_le : (x : A × List Lexeme) → read (drop start ts) ≡ Ok x → length x.1 ≤ length ts
    rest_le x e =
        let s : Sound nowhere (g a) (drop start ts) (Ok x) = subst (Sound nowhere (g a) (drop start ts)) e
        (reads.sound (drop start ts)) in
        rest_fits s.0 x.1 s.1

    -- after what is read, nothing can continue
    pub ended_at : (x : A × List Lexeme)
        → read (drop start ts) ≡ Ok x
        → 1 ≤ length x.1
        → Ends g a ts start (length ts - length x.1)
    ended_at x e some =
        let s : Sound nowhere (g a) (drop start ts) (Ok x) = subst (Sound nowhere (g a) (drop start ts)) e
        (reads.sound (drop start ts)) in
        let f = front_at s.0 x.1 s.1 in
        let from = f.0 in
        let fits = rest_fits s.0 x.1 s.1 in
        let beyond : (b : Limits) (j : ℕ) → length ts - length x.1 < j → j ≤ length ts
        → (g b).IsPrefix (between ts start j) → ⊥ =
        λ b j lt to c.
        let p : length x.1 ≤ length (rest_from j) = subst (Passes (λ l. Within l b a) (rest_from j)) e (come b j c) in
        omega (arith, p, lt, to, fits, rest_from_long j (omega (arith, from, lt)) to) in
        record {
          stops = record {
            from = f.0;
            to = f.1;
            before = subst (g a).IsPrefix f.2 (reads.part x.0 s.0 s.2);
            longest =
                beyond a;
          };
          always = beyond;
          none = λ k. absurd (omega (arith, k, some, fits));
        }

    -- a whole that nothing continues is read
    closed_at : (u us : List Lexeme) (end : ℕ)
        → drop start ts ≡ u ++ us
        → end ≡ length ts - length us
        → (end < length ts → (free g).IsPrefix (between ts start (end + 1)) → ⊥)
        → Closed (free g) u us
    closed_at u us end e d ends t r g' h =
        let shape : drop start ts ≡ u ++ t ∷ r = e ⋆ ap (λ (l : List Lexeme). u ++ l) g' in
        let long : length (t ∷ r) ≤ length ts =
        omega (arith, ap length shape, length-append u (t ∷ r), length-drop start ts) in
        let k : end ≡ length ts - length (t ∷ r) = d ⋆ ap (λ (l : List Lexeme). length ts - length l) g' in
        ends (omega arith) (subst (λ (i : ℕ). (free g).IsPrefix (between ts start (i + 1))) (sym k)
        (subst (free g).IsPrefix (next_at u r t shape) h))

    pub only_at : (x : A) (end : ℕ)
        → IsRead (g a) (free g) ts start x end
        → (us : List Lexeme) × (read (drop start ts) ≡ Ok (x, us)) × (length ts - length us ≡ end)
    only_at x end i =
        let n = end - start in
        let us = drop n (drop start ts) in
        let e : drop start ts ≡ take n (drop start ts) ++ us = sym (take-append-drop n (drop start ts)) in
        let le = i.from in
        let le' = i.to in
        let d : end ≡ length ts - length us = omega (arith, length-drop n (drop start ts), length-drop start ts) in
        elim (reads.closed x (take n (drop start ts)) us i.is (closed_at (take n (drop start ts)) us end e d i.ends)) [
          | inl q ↦ (us, subst (λ (l : List Lexeme). read l ≡ Ok (x, us)) (sym e) q, sym d)
          | inr (p, k, q) ↦ absurd (k (within_all p.0 a))
        ]

    -- ---- a limit that is passed is reported

    -- a prefix that can continue within the limits is no longer than the longest one
    no_longer : (i j : ℕ)
        → Stops g a ts start i
        → (u rest : List Lexeme)
        → drop start ts ≡ u ++ rest
        → (g a).IsPrefix u
        → i < j
        → length rest ≤ length ts - j
        → j ≤ length ts
        → ⊥
    no_longer i j s u rest e h lt le to =
        let f = front_at u rest e in
        s.longest (length ts - length rest) (omega (arith, lt, le, to)) f.1 (subst (g a).IsPrefix f.2 h)

    limit_by : (l : Limit) (i : ℕ) (p : PassesLimit g a ts start i l) (r : Read A)
        → Sound nowhere (g a) (drop start ts) r
        → Passes (λ m. Within m (raised l a p.others) a) (rest_from p.further) r
        → (k : ℕ) × (r ≡ Err (Beyond l k))
    limit_by l i p (Ok x) s c =
        let stops = p.stops in
        let from = stops.from in
        let lt = p.longer in
        let to = p.to in
        let long = rest_from_long p.further (omega (arith, from, lt)) to in
        absurd (no_longer i p.further stops s.0 x.1 s.1 (reads.part x.0 s.0 s.2) lt (omega (arith, c, long)) to)
    limit_by l i p (Err (Unexpected k)) s c =
        let stops = p.stops in
        let from = stops.from in
        let lt = p.longer in
        let to = p.to in
        let long = rest_from_long p.further (omega (arith, from, lt)) to in
        let d = s.3 in
        absurd (no_longer i p.further stops s.0 s.1 s.2 s.4 lt (omega (arith, c, long, d)) to)
    limit_by l i p (Err (Beyond m k)) s (inl c) =
        let stops = p.stops in
        let from = stops.from in
        let lt = p.longer in
        let to = p.to in
        let long = rest_from_long p.further (omega (arith, from, lt)) to in
        let d = s.3 ⋆ plain (Beyond m k) (length s.1) in
        absurd (no_longer i p.further stops s.0 s.1 s.2 s.4 lt (omega (arith, c, long, d)) to)
    limit_by l i p (Err (Beyond m k)) s (inr w) = elim (kept l m a p.others) [
      | inl e ↦ (k, ap (λ (m : Limit). Err (Beyond m k)) (sym e))
      | inr h ↦ absurd (w h)
    ]

    limit_found : (l : Limit) (i : ℕ) → PassesLimit g a ts start i l → (k : ℕ)
        × (read (drop start ts) ≡ Err (Beyond l k))
    limit_found l i p = limit_by l i p (read (drop start ts)) (reads.sound (drop start ts))
        (come (raised l a p.others) p.further p.goes_on)

    same_limit : (l m : Limit) (k n : ℕ) (r : Read A) → r ≡ Err (Beyond l k) → r ≡ Err (Beyond m n) → l ≡ m
    same_limit l m k n r p q = let e = sym p ⋆ q in cc

    -- at most one limit is passed
    pub one_limit : (l m : Limit) (i j : ℕ) → PassesLimit g a ts start i l → PassesLimit g a ts start j m → l ≡ m
    one_limit l m i j p q =
        let s = limit_found l i p in
        let t = limit_found m j q in
        same_limit l m s.0 t.0 (read (drop start ts)) s.1 t.1

-- the lexemes as a whole
module _ {A : Type 0} (g : Limited A) (a : Limits) (read : Reader A) (reads : Reads g a read) where
  pub whole_is : (ts : List Lexeme) (x : A) → read ts ≡ Ok (x, []) → (g a).Is x ts
  whole_is ts x e =
      let s : Sound nowhere (g a) ts (Ok (x, [])) = subst (Sound nowhere (g a) ts) e (reads.sound ts) in
      subst ((g a).Is x) (sym (s.1 ⋆ append-nil s.0)) s.2

  pub whole_read : (ts : List Lexeme) (x : A) → (g a).Is x ts → read ts ≡ Ok (x, [])
  whole_read ts x h = subst (λ (l : List Lexeme). read l ≡ Ok (x, [])) (append-nil ts)
      (go (reads.closed x ts [] h (λ t r e. absurd cc)))
    where
      go : ReadsAs (λ l. Within l a a) (read (ts ++ [])) x [] → read (ts ++ []) ≡ Ok (x, [])
      go (inl e) = e
      go (inr (p, n, e)) = absurd (n (within_all p.0 a))
