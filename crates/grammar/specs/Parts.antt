-- Laws of whole productions, made of the laws of their parts.
use Rattle.std.proofs.Common.{◌≡◌, ℕ, ◌≤◌, inl, inr, Bool, true, false, List, [], ◌∷◌, ◌++◌, length, Option, Some, None, Ok, Err, refl, sym, ap, subst, ◌∙◌ as ◌⋆◌, arith}
use Rattle.grammar.specs.Lexeme.{Lexeme}
use Rattle.grammar.specs.Grammar.{Grammar, token, ◌∙◌, ◌∣◌, ◌⇒◌, optional, cut_off}
use Rattle.grammar.specs.Reading.{Limit, Read, Reader, ◌>>=◌, stop}
use Rattle.grammar.specs.Laws.{Sound, Follows, Passes, ReadsAs, Finds, then_read, passes_made, reads_as_made, seq_front, seq_whole, seq_part}
use Rattle.grammar.specs.Lists.{IsSolid, head_is, seq_first, seq_solid, no_lexeme, left_sound, right_sound}

abbrev pub SoundReader : {A : Type 0} → (Limit → ℕ) → Grammar A → Reader A → Type 0
SoundReader over g read = (ts : List Lexeme) → Sound over g ts (read ts)

-- ---- one lexeme

-- A reader of one lexeme of a kind, which a test recognizes.
pub record IsKind {A : Type 0} (kind : A → Lexeme) (test : Lexeme → Bool) (read : Reader A) : Type 0 where
  pub yes : (x : A) → test (kind x) ≡ true
  pub one : (s : Lexeme) → test s ≡ true → (x : A) × (s ≡ kind x)
  pub nil : read [] ≡ stop []
  pub hit : (x : A) (ts : List Lexeme) → read (kind x ∷ ts) ≡ Ok (x, ts)
  pub miss : (s : Lexeme) (ts : List Lexeme) → test s ≡ false → read (s ∷ ts) ≡ stop (s ∷ ts)

module _ {A : Type 0} (kind : A → Lexeme) (test : Lexeme → Bool) (read : Reader A) (is : IsKind kind test read) where
  pub token_sound : (over : Limit → ℕ) → SoundReader over (token kind) read
  token_sound over [] = subst (Sound over (token kind) []) (sym is.nil) ([], [], refl, refl, inl refl)
  token_sound over (s ∷ ts) = by (test s) refl
    where
      by : (b : Bool) → test s ≡ b → Sound over (token kind) (s ∷ ts) (read (s ∷ ts))
      by true e =
          let o = is.one s e in
          subst (Sound over (token kind) (s ∷ ts)) (sym (ap (λ (s : Lexeme). read (s ∷ ts)) o.1 ⋆ is.hit o.0 ts))
          (s ∷ [], refl, ap (λ (s : Lexeme). s ∷ []) o.1)
      by false e = subst (Sound over (token kind) (s ∷ ts)) (sym (is.miss s ts e)) ([], s ∷ ts, refl, refl, inl refl)

  token_passes : (within : Limit → Type 0) (us : List Lexeme) → Passes within us (read us)
  token_passes within [] = subst (Passes within []) (sym is.nil) (le_same 0)
    where
      le_same : (n : ℕ) → n ≤ n
      le_same n = omega arith
  token_passes within (s ∷ ts) = by (test s) refl
    where
      less : length ts ≤ length (s ∷ ts)
      less = omega arith

      same : length (s ∷ ts) ≤ length (s ∷ ts)
      same = omega arith

      by : (b : Bool) → test s ≡ b → Passes within (s ∷ ts) (read (s ∷ ts))
      by true e = let o = is.one s e in subst (Passes within (s ∷ ts))
          (sym (ap (λ (s : Lexeme). read (s ∷ ts)) o.1 ⋆ is.hit o.0 ts)) less
      by false e = subst (Passes within (s ∷ ts)) (sym (is.miss s ts e)) same

  pub token_finds : (within : Limit → Type 0) → Finds within (token kind) test no_lexeme read
  token_finds within = record {
    nil = inl refl;
    part = λ x u h. inr (x, h);
    first = first;
    whole = λ x u us h f. inl (ap (λ (l : List Lexeme). read (l ++ us)) h ⋆ is.hit x us);
    front = front;
  }
    where
      first : (t : Lexeme) (u : List Lexeme) → (token kind).IsPrefix (t ∷ u) → test t ≡ true
      first t u (inl e) = absurd cc
      first t u (inr (x, e)) = subst (λ (t : Lexeme). test t ≡ true) (sym (head_is t (kind x) u [] e)) (is.yes x)

      le : (us : List Lexeme) → length us ≤ length us
      le us = omega arith

      front : (u us : List Lexeme) → (token kind).IsPrefix u → Passes within us (read (u ++ us))
      front u us (inl e) = subst (λ (l : List Lexeme). Passes within us (read (l ++ us))) (sym e)
          (token_passes within us)
      front u us (inr (x, e)) = subst (Passes within us)
          (sym (ap (λ (l : List Lexeme). read (l ++ us)) e ⋆ is.hit x us)) (le us)

pub token_solid : {A : Type 0} (kind : A → Lexeme) → IsSolid (token kind)
token_solid kind = record { no_empty = λ x e. absurd cc }

-- ---- the tree made of a part

pub made_sound : {A B : Type 0} (over : Limit → ℕ) (a : Grammar A) (f : A → B) (read : Reader A)
    → SoundReader over a read
    → SoundReader over (a ⇒ f) (λ ts. read ts >>= λ x. Ok (f x.0, x.1))
made_sound {A} {B} over a f read s ts = go (read ts) (s ts)
  where
    go : (r : Read A) → Sound over a ts r → Sound over (a ⇒ f) ts (r >>= λ x. Ok (f x.0, x.1))
    go (Ok x) (u, e, h) = (u, e, (x.0, refl, h))
    go (Err g) h = h

pub made_finds : {A B : Type 0} (within : Limit → Type 0) (a : Grammar A) (f : A → B) (starts ends : Lexeme → Bool)
    (read : Reader A)
    → Finds within a starts ends read
    → Finds within (a ⇒ f) starts ends (λ ts. read ts >>= λ x. Ok (f x.0, x.1))
made_finds {A} {B} within a f starts ends read fa = record {
  nil = fa.nil;
  part = λ y u h. fa.part h.0 u h.2;
  first = fa.first;
  whole = whole;
  front = λ u us h. passes_made within us (read (u ++ us)) f (fa.front u us h);
}
  where
    whole : (y : B) (u us : List Lexeme)
        → (a ⇒ f).Is y u
        → Follows ends us
        → ReadsAs within (read (u ++ us) >>= λ x. Ok (f x.0, x.1)) y us
    whole y u us (x, e, h) g = subst (λ (y : B). ReadsAs within (read (u ++ us) >>= λ x. Ok (f x.0, x.1)) y us) (sym e)
        (reads_as_made within us (read (u ++ us)) x f (fa.whole x u us h g))

pub made_solid : {A B : Type 0} (a : Grammar A) (f : A → B) → IsSolid a → IsSolid (a ⇒ f)
made_solid a f s = record { no_empty = λ y h. s.no_empty h.0 h.2 }

-- ---- a sequence

-- a part that is never empty, and then another that is never empty
pub seq_finds : {A B C : Type 0} (within : Limit → Type 0) (a : Grammar A) (b : Grammar B) (f : A × B → C)
    (starts-a ends-a starts-b ends-b : Lexeme → Bool) (ra : Reader A) (rb : Reader B)
    → Finds within a starts-a ends-a ra
    → Finds within b starts-b ends-b rb
    → IsSolid a
    → IsSolid b
    → ((t : Lexeme) → starts-b t ≡ true → ends-a t ≡ false)
    → Finds within ((a ∙ b) ⇒ f) starts-a ends-b (then_read f ra rb)
seq_finds {A} {B} within a b f starts-a ends-a starts-b ends-b ra rb fa fb sa sb apart = record {
  nil = inl fa.nil;
  part = seq_part within a b f starts-a ends-a starts-b ends-b ends-b ra rb fa fb;
  first = seq_first a b starts-a sa fa.part fa.first;
  whole = seq_whole within a b f starts-a ends-a starts-b ends-b ends-b ra rb fa fb after (λ us g. g);
  front = seq_front within a b f starts-a ends-a starts-b ends-b ends-b ra rb fa fb apart;
}
  where
    after : (y : B) (v us : List Lexeme) → b.Is y v → Follows ends-b us → Follows ends-a (v ++ us)
    after y [] us h g = absurd (sb.no_empty y h)
    after y (t ∷ v) us h g = apart t (fb.first t v (fb.part y (t ∷ v) h))

-- a part that may be empty, and then one that is never empty
pub open_finds : {A B C : Type 0} (within : Limit → Type 0) (a : Grammar A) (b : Grammar B) (f : A × B → C)
    (starts starts-a ends-a starts-b ends-b : Lexeme → Bool) (ra : Reader A) (rb : Reader B)
    → Finds within a starts-a ends-a ra
    → Finds within b starts-b ends-b rb
    → IsSolid b
    → ((t : Lexeme) → starts-b t ≡ true → ends-a t ≡ false)
    → ((t : Lexeme) → starts-a t ≡ true → starts t ≡ true)
    → ((t : Lexeme) → starts-b t ≡ true → starts t ≡ true)
    → Finds within ((a ∙ b) ⇒ f) starts ends-b (then_read f ra rb)
open_finds {A} {B} within a b f starts starts-a ends-a starts-b ends-b ra rb fa fb sb apart ga gb = record {
  nil = inl fa.nil;
  part = seq_part within a b f starts-a ends-a starts-b ends-b ends-b ra rb fa fb;
  first = first;
  whole = seq_whole within a b f starts-a ends-a starts-b ends-b ends-b ra rb fa fb after (λ us g. g);
  front = seq_front within a b f starts-a ends-a starts-b ends-b ends-b ra rb fa fb apart;
}
  where
    after : (y : B) (v us : List Lexeme) → b.Is y v → Follows ends-b us → Follows ends-a (v ++ us)
    after y [] us h g = absurd (sb.no_empty y h)
    after y (t ∷ v) us h g = apart t (fb.first t v (fb.part y (t ∷ v) h))

    first : (t : Lexeme) (u : List Lexeme) → (a ∙ b).IsPrefix (t ∷ u) → starts t ≡ true
    first t u (inl h) = ga t (fa.first t u h)
    first t u (inr (x, [], w, e, ha, hb)) = gb t (fb.first t u (subst b.IsPrefix (sym e) hb))
    first t u (inr (x, s ∷ v, w, e, ha, hb)) =
        ga t (subst (λ (t : Lexeme). starts-a t ≡ true) (sym (head_is t s u (v ++ w) e))
        (fa.first s v (fa.part x (s ∷ v) ha)))

pub open_solid : {A B C : Type 0} (a : Grammar A) (b : Grammar B) (f : A × B → C) → IsSolid b → IsSolid ((a ∙ b) ⇒ f)
open_solid {A} {B} {C} a b f s = record { no_empty = go }
  where
    go : (z : C) → ((a ∙ b) ⇒ f).Is z [] → ⊥
    go z (p, q, ([], w, e, ha, hb)) = s.no_empty p.1 (subst (b.Is p.1) (sym e) hb)
    go z (p, q, (t ∷ v, w, e, ha, hb)) = absurd cc

-- a pair is the tree of its parts
pub pair_sound : {A B : Type 0} (over : Limit → ℕ) (a : Grammar A) (b : Grammar B) (read : Reader (A × B))
    → SoundReader over ((a ∙ b) ⇒ (λ p. p)) read
    → SoundReader over (a ∙ b) read
pair_sound {A} {B} over a b read s ts = go (read ts) (s ts)
  where
    go : (r : Read (A × B)) → Sound over ((a ∙ b) ⇒ (λ p. p)) ts r → Sound over (a ∙ b) ts r
    go (Ok x) (u, e, (p, q, h)) = (u, e, subst (λ (p : A × B). (a ∙ b).Is p u) (sym q) h)
    go (Err g) h = h

pub pair_finds : {A B : Type 0} (within : Limit → Type 0) (a : Grammar A) (b : Grammar B) (starts ends : Lexeme → Bool)
    (read : Reader (A × B))
    → Finds within ((a ∙ b) ⇒ (λ p. p)) starts ends read
    → Finds within (a ∙ b) starts ends read
pair_finds within a b starts ends read f = record {
  nil = f.nil;
  part = λ x u h. f.part x u (x, refl, h);
  first = f.first;
  whole = λ x u us h g. f.whole x u us (x, refl, h) g;
  front = f.front;
}

pub pair_solid : {A B : Type 0} (a : Grammar A) (b : Grammar B) → IsSolid a → IsSolid (a ∙ b)
pair_solid {A} {B} a b s = record { no_empty = λ p h. (seq_solid a b (λ p. p) s).no_empty p (p, refl, h) }

-- ---- a choice of two productions by the first lexeme

abbrev pub chosen_read : {A : Type 0} → Bool → Read A → Read A → Read A
chosen_read true r s = r
chosen_read false r s = s

abbrev pub pick : {A : Type 0} → (Lexeme → Bool) → Reader A → Reader A → Reader A
pick test ra rb [] = rb []
pick test ra rb (t ∷ ts) = chosen_read (test t) (ra (t ∷ ts)) (rb (t ∷ ts))

chosen_is : {A : Type 0} (P : Read A → Type 0) (b : Bool) (r s : Read A)
    → (b ≡ true → P r)
    → (b ≡ false → P s)
    → P (chosen_read b r s)
chosen_is P true r s p q = p refl
chosen_is P false r s p q = q refl

pub pick_sound : {A : Type 0} (over : Limit → ℕ) (a b : Grammar A) (test : Lexeme → Bool) (ra rb : Reader A)
    → SoundReader over a ra
    → SoundReader over b rb
    → SoundReader over (a ∣ b) (pick test ra rb)
pick_sound over a b test ra rb sa sb [] = right_sound over a b [] (rb []) (sb [])
pick_sound over a b test ra rb sa sb (t ∷ ts) =
    chosen_is (Sound over (a ∣ b) (t ∷ ts)) (test t) (ra (t ∷ ts)) (rb (t ∷ ts))
    (λ e. left_sound over a b (t ∷ ts) (ra (t ∷ ts)) (sa (t ∷ ts)))
    (λ e. right_sound over a b (t ∷ ts) (rb (t ∷ ts)) (sb (t ∷ ts)))

either_is : (x : Bool) → x ≡ true → x ≡ false → ⊥
either_is x p q = let e = sym p ⋆ q in absurd cc

module _ {A : Type 0} (within : Limit → Type 0) (a b : Grammar A)
    (starts-a starts-b starts ends-a ends-b ends : Lexeme → Bool) (ra rb : Reader A)
    (fa : Finds within a starts-a ends-a ra) (fb : Finds within b starts-b ends-b rb)
    (apart : (t : Lexeme) → starts-b t ≡ true → starts-a t ≡ false) (sa : IsSolid a) (sb : IsSolid b)
    (ga : (t : Lexeme) → starts-a t ≡ true → starts t ≡ true) (gb : (t : Lexeme) → starts-b t ≡ true → starts t ≡ true)
    (ea : (t : Lexeme) → ends t ≡ false → ends-a t ≡ false) (eb : (t : Lexeme) → ends t ≡ false → ends-b t ≡ false)
  where
    pick_passes : (us : List Lexeme) → Passes within us (pick starts-a ra rb us)
    pick_passes [] = fb.front [] [] fb.nil
    pick_passes (t ∷ ts) = chosen_is (Passes within (t ∷ ts)) (starts-a t) (ra (t ∷ ts)) (rb (t ∷ ts))
        (λ e. fa.front [] (t ∷ ts) fa.nil) (λ e. fb.front [] (t ∷ ts) fb.nil)

    left_ends : (us : List Lexeme) → Follows ends us → Follows ends-a us
    left_ends [] f = tt
    left_ends (t ∷ us) f = ea t f

    right_ends : (us : List Lexeme) → Follows ends us → Follows ends-b us
    right_ends [] f = tt
    right_ends (t ∷ us) f = eb t f

    pick_front : (u us : List Lexeme) → (a ∣ b).IsPrefix u → Passes within us (pick starts-a ra rb (u ++ us))
    pick_front [] us h = pick_passes us
    pick_front (t ∷ u) us (inl h) =
        chosen_is (Passes within us) (starts-a t) (ra (t ∷ (u ++ us))) (rb (t ∷ (u ++ us))) (λ e. fa.front (t ∷ u) us h)
        (λ e. absurd (either_is (starts-a t) (fa.first t u h) e))
    pick_front (t ∷ u) us (inr h) =
        chosen_is (Passes within us) (starts-a t) (ra (t ∷ (u ++ us))) (rb (t ∷ (u ++ us)))
        (λ e. absurd (either_is (starts-a t) e (apart t (fb.first t u h)))) (λ e. fb.front (t ∷ u) us h)

    pick_whole : (x : A) (u us : List Lexeme)
        → (a ∣ b).Is x u
        → Follows ends us
        → ReadsAs within (pick starts-a ra rb (u ++ us)) x us
    pick_whole x [] us (inl h) f = absurd (sa.no_empty x h)
    pick_whole x [] us (inr h) f = absurd (sb.no_empty x h)
    pick_whole x (t ∷ u) us (inl h) f =
        chosen_is (λ (r : Read A). ReadsAs within r x us) (starts-a t) (ra (t ∷ (u ++ us))) (rb (t ∷ (u ++ us)))
        (λ e. fa.whole x (t ∷ u) us h (left_ends us f))
        (λ e. absurd (either_is (starts-a t) (fa.first t u (fa.part x (t ∷ u) h)) e))
    pick_whole x (t ∷ u) us (inr h) f =
        chosen_is (λ (r : Read A). ReadsAs within r x us) (starts-a t) (ra (t ∷ (u ++ us))) (rb (t ∷ (u ++ us)))
        (λ e. absurd (either_is (starts-a t) e (apart t (fb.first t u (fb.part x (t ∷ u) h)))))
        (λ e. fb.whole x (t ∷ u) us h (right_ends us f))

    pub pick_finds : Finds within (a ∣ b) starts ends (pick starts-a ra rb)
    pick_finds = record { nil = inl fa.nil; part = part; first = first; whole = pick_whole; front = pick_front }
      where
        part : (x : A) (u : List Lexeme) → (a ∣ b).Is x u → (a ∣ b).IsPrefix u
        part x u (inl h) = inl (fa.part x u h)
        part x u (inr h) = inr (fb.part x u h)

        first : (t : Lexeme) (u : List Lexeme) → (a ∣ b).IsPrefix (t ∷ u) → starts t ≡ true
        first t u (inl h) = ga t (fa.first t u h)
        first t u (inr h) = gb t (fb.first t u h)

pub either_solid : {A : Type 0} (a b : Grammar A) → IsSolid a → IsSolid b → IsSolid (a ∣ b)
either_solid {A} a b sa sb = record { no_empty = go }
  where
    go : (x : A) → (a ∣ b).Is x [] → ⊥
    go x (inl h) = sa.no_empty x h
    go x (inr h) = sb.no_empty x h

-- ---- a part, or nothing

abbrev pub perhaps : {A : Type 0} → (Lexeme → Bool) → Reader A → Reader (Option A)
perhaps test read [] = Ok (None, [])
perhaps test read (t ∷ ts) = chosen_read (test t) (read (t ∷ ts) >>= λ x. Ok (Some x.0, x.1)) (Ok (None, t ∷ ts))

pub optional_sound : {A : Type 0} (over : Limit → ℕ) (a : Grammar A) (test : Lexeme → Bool) (read : Reader A)
    → SoundReader over a read
    → SoundReader over (optional a) (perhaps test read)
optional_sound over a test read s [] = ([], refl, refl)
optional_sound {A} over a test read s (t ∷ ts) = chosen_is (Sound over (optional a) (t ∷ ts)) (test t)
    (read (t ∷ ts) >>= λ x. Ok (Some x.0, x.1)) (Ok (None, t ∷ ts)) (λ e. go (read (t ∷ ts)) (s (t ∷ ts)))
    (λ e. ([], refl, refl))
  where
    go : (r : Read A) → Sound over a (t ∷ ts) r → Sound over (optional a) (t ∷ ts) (r >>= λ x. Ok (Some x.0, x.1))
    go (Ok x) h = h
    go (Err f) (u, rest, e, k, h) = (u, rest, e, k, inr h)

module _ {A : Type 0} (within : Limit → Type 0) (a : Grammar A) (starts ends ends' : Lexeme → Bool) (read : Reader A)
    (fa : Finds within a starts ends read) (sa : IsSolid a) (es : (t : Lexeme) → ends' t ≡ false → starts t ≡ false)
    (ee : (t : Lexeme) → ends' t ≡ false → ends t ≡ false) where
  perhaps_passes : (us : List Lexeme) → Passes within us (perhaps starts read us)
  perhaps_passes [] = omega arith
  perhaps_passes (t ∷ us) = chosen_is (Passes within (t ∷ us)) (starts t) (read (t ∷ us) >>= λ x. Ok (Some x.0, x.1))
      (Ok (None, t ∷ us)) (λ e. passes_made within (t ∷ us) (read (t ∷ us)) (λ x. Some x) (fa.front [] (t ∷ us) fa.nil))
      (λ e. le (t ∷ us))
    where
      le : (us : List Lexeme) → length us ≤ length us
      le us = omega arith

  perhaps_front : (u us : List Lexeme) → (optional a).IsPrefix u → Passes within us (perhaps starts read (u ++ us))
  perhaps_front [] us h = perhaps_passes us
  perhaps_front (t ∷ u) us (inl e) = absurd cc
  perhaps_front (t ∷ u) us (inr h) =
      chosen_is (Passes within us) (starts t) (read (t ∷ (u ++ us)) >>= λ x. Ok (Some x.0, x.1))
      (Ok (None, t ∷ (u ++ us))) (λ e. passes_made within us (read (t ∷ (u ++ us))) (λ x. Some x)
      (fa.front (t ∷ u) us h)) (λ e. absurd (either_is (starts t) (fa.first t u h) e))

  none_whole : (us : List Lexeme) → Follows ends' us → ReadsAs within (perhaps starts read us) None us
  none_whole [] f = inl refl
  none_whole (t ∷ us) f = chosen_is (λ (r : Read (Option A)). ReadsAs within r None (t ∷ us)) (starts t)
      (read (t ∷ us) >>= λ x. Ok (Some x.0, x.1)) (Ok (None, t ∷ us)) (λ e. absurd (either_is (starts t) e (es t f)))
      (λ e. inl refl)

  part_ends : (us : List Lexeme) → Follows ends' us → Follows ends us
  part_ends [] f = tt
  part_ends (t ∷ us) f = ee t f

  perhaps_whole : (o : Option A) (u us : List Lexeme)
      → (optional a).Is o u
      → Follows ends' us
      → ReadsAs within (perhaps starts read (u ++ us)) o us
  perhaps_whole None u us h f = subst (λ (l : List Lexeme). ReadsAs within (perhaps starts read (l ++ us)) None us)
      (sym h) (none_whole us f)
  perhaps_whole (Some x) [] us h f = absurd (sa.no_empty x h)
  perhaps_whole (Some x) (t ∷ u) us h f =
      chosen_is (λ (r : Read (Option A)). ReadsAs within r (Some x) us) (starts t)
      (read (t ∷ (u ++ us)) >>= λ x. Ok (Some x.0, x.1)) (Ok (None, t ∷ (u ++ us)))
      (λ e. reads_as_made within us (read (t ∷ (u ++ us))) x (λ x. Some x)
      (fa.whole x (t ∷ u) us h (part_ends us f)))
      (λ e. absurd (either_is (starts t) (fa.first t u (fa.part x (t ∷ u) h)) e))

  pub optional_finds : Finds within (optional a) starts ends' (perhaps starts read)
  optional_finds = record { nil = inl refl; part = part; first = first; whole = perhaps_whole; front = perhaps_front }
    where
      part : (o : Option A) (u : List Lexeme) → (optional a).Is o u → (optional a).IsPrefix u
      part None u h = inl h
      part (Some x) u h = inr (fa.part x u h)

      first : (t : Lexeme) (u : List Lexeme) → (optional a).IsPrefix (t ∷ u) → starts t ≡ true
      first t u (inl e) = absurd cc
      first t u (inr h) = fa.first t u h

-- ---- a grammar without a whole

pub cut_off_finds : {A : Type 0} (within : Limit → Type 0) (starts ends : Lexeme → Bool) (read : Reader A)
    → ((us : List Lexeme) → Passes within us (read us))
    → Finds within cut_off starts ends read
cut_off_finds within starts ends read h = record {
  nil = refl;
  part = λ x u f. absurd f;
  first = λ t u e. absurd cc;
  whole = λ x u us f g. absurd f;
  front = λ u us e. subst (λ (l : List Lexeme). Passes within us (read (l ++ us))) (sym e) (h us);
}

pub cut_off_solid : {A : Type 0} → IsSolid (cut_off {A = A})
cut_off_solid = record { no_empty = λ x h. h }

-- ---- another reader with the same results

pub same_sound : {A : Type 0} (over : Limit → ℕ) (g : Grammar A) (r r' : Reader A)
    → ((ts : List Lexeme) → r ts ≡ r' ts)
    → SoundReader over g r
    → SoundReader over g r'
same_sound over g r r' e s ts = subst (Sound over g ts) (e ts) (s ts)

pub same_finds : {A : Type 0} (within : Limit → Type 0) (g : Grammar A) (starts ends : Lexeme → Bool) (r r' : Reader A)
    → ((ts : List Lexeme) → r ts ≡ r' ts)
    → Finds within g starts ends r
    → Finds within g starts ends r'
same_finds within g starts ends r r' e f = record {
  nil = f.nil;
  part = f.part;
  first = f.first;
  whole = λ z u us h k. subst (λ (q : Read _). ReadsAs within q z us) (e (u ++ us)) (f.whole z u us h k);
  front = λ u us h. subst (λ (q : Read _). Passes within us q) (e (u ++ us)) (f.front u us h);
}
