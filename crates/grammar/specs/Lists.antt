-- Lists with commas, parts in braces, and parts after a name.
use Rattle.std.proofs.Common.{◌≡◌, ℕ, ◌≤◌, ◌⊎◌, inl, inr, Bool, true, false, List, [], ◌∷◌, ◌++◌, length, Ok, Err, refl, sym, ap, subst, ◌∙◌ as ◌⋆◌, arith}
use Rattle.std.proofs.lemmas.List.{append-nil}
use Rattle.text.specs.declared.token.Mark.TheVariants.{Comma, OpenBrace, CloseBrace}
use Rattle.grammar.specs.Lexeme.{Lexeme, Ident, Mark}
use Rattle.grammar.specs.Grammar.{Grammar, token, mark, ◌∙◌, ◌∣◌, ◌⇒◌, many, preceded, listed, braces}
use Rattle.grammar.specs.Reading.{Limit, Read, Reader, ◌>>=◌, stop, closed_at, after_commas_at, listed_at, named_at}
use Rattle.grammar.specs.Laws.{Sound, Follows, Passes, ReadsAs, Finds, then_read, seq_sound, commas_sound, passes_on, passes_made, seq_front, seq_whole, seq_part, is_comma, begins, follows_many, commas_front, commas_whole}

-- ---- what is read is in the grammar

module _ (over : Limit → ℕ) where
  pub left_sound : {A : Type 0} (a b : Grammar A) (ts : List Lexeme) (r : Read A)
      → Sound over a ts r
      → Sound over (a ∣ b) ts r
  left_sound a b ts (Ok x) s = (s.0, s.1, inl s.2)
  left_sound a b ts (Err f) s = (s.0, s.1, s.2, s.3, inl s.4)

  pub right_sound : {A : Type 0} (a b : Grammar A) (ts : List Lexeme) (r : Read A)
      → Sound over b ts r
      → Sound over (a ∣ b) ts r
  right_sound a b ts (Ok x) s = (s.0, s.1, inr s.2)
  right_sound a b ts (Err f) s = (s.0, s.1, s.2, s.3, inr s.4)

  -- a fault at the first lexeme
  pub stop_sound : {A : Type 0} (a : Grammar A) (ts : List Lexeme) → a.IsPrefix [] → Sound over a ts (stop ts)
  stop_sound a ts nil = ([], ts, refl, refl, nil)

  pub closed_sound : (ts : List Lexeme) → Sound over (mark CloseBrace) ts (closed_at ts)
  unfolding closed_at
  closed_sound [] = stop_sound (mark CloseBrace) [] (inl refl)
  closed_sound (Mark CloseBrace ∷ ts) = (Mark CloseBrace ∷ [], refl, refl)
  closed_sound (t ∷ ts) = stop_sound (mark CloseBrace) (t ∷ ts) (inl refl)

  pub listed_sound : {A : Type 0} (a : Grammar A) (read : Reader A)
      → ((us : List Lexeme) → Sound over a us (read us))
      → (ts : List Lexeme)
      → Sound over (listed a) ts (listed_at read ts)
  unfolding listed_at
  listed_sound a read s ts = seq_sound over a (many (preceded (Mark Comma) a)) (λ p. p.0 ∷ p.1) ts (read ts)
      (λ us. after_commas_at read (length us) us) (s ts) (λ us. commas_sound over a read s (length us) us)

  -- the part in braces
  pub brace_sound : {A B : Type 0} (a : Grammar A) (f : A → B) (ts : List Lexeme) (r : Read B)
      → Sound over ((a ∙ mark CloseBrace) ⇒ (λ p. f p.0)) ts r
      → Sound over (braces a ⇒ f) ((Mark OpenBrace) ∷ ts) r
  brace_sound a f ts (Ok x) (u, e, (p, q, h)) = (
    (Mark OpenBrace) ∷ u,
    ap (λ (l : List Lexeme). (Mark OpenBrace) ∷ l) e,
    (p.0, q, ((tt, p), refl, ((Mark OpenBrace) ∷ [], u, refl, refl, h))),
  )
  brace_sound a f ts (Err g) (u, rest, e, k, h) = (
    (Mark OpenBrace) ∷ u,
    rest,
    ap (λ (l : List Lexeme). (Mark OpenBrace) ∷ l) e,
    k,
    inr
        (tt, (Mark OpenBrace) ∷ [], u, refl, refl, h),
  )

  pub named_sound : {A : Type 0} (a : Grammar A) (read : Reader A)
      → ((us : List Lexeme) → Sound over a us (read us))
      → (ts : List Lexeme)
      → Sound over (token Ident ∙ a) ts (named_at read ts)
  unfolding named_at
  named_sound a read s [] = stop_sound (token Ident ∙ a) [] (inl (inl refl))
  named_sound {A} a read s (Ident x ∷ ts) = next (read ts) (s ts)
    where
      next : (r : Read A)
          → Sound over a ts r
          → Sound over (token Ident ∙ a) (Ident x ∷ ts) (r >>= λ v. Ok ((x, v.0), v.1))
      next (Ok t) (u, e, h) = (Ident x ∷ u, ap (λ (l : List Lexeme). Ident x ∷ l) e, (Ident x ∷ [], u, refl, refl, h))
      next (Err f) (u, rest, e, k, h) =
          (Ident x ∷ u, rest, ap (λ (l : List Lexeme). Ident x ∷ l) e, k, inr (x, Ident x ∷ [], u, refl, refl, h))
  named_sound a read s (t ∷ ts) = stop_sound (token Ident ∙ a) (t ∷ ts) (inl (inl refl))

-- ---- the first lexemes of a sequence

-- a whole is never empty
pub record IsSolid {A : Type 0} (a : Grammar A) : Type 0 where
  pub no_empty : (x : A) → a.Is x [] → ⊥

pub head_is : (s t : Lexeme) (u v : List Lexeme) → s ∷ u ≡ t ∷ v → s ≡ t
head_is s t u v e = cc

pub seq_first : {A B : Type 0} (a : Grammar A) (b : Grammar B) (starts : Lexeme → Bool)
    → IsSolid a
    → ((x : A) (u : List Lexeme) → a.Is x u → a.IsPrefix u)
    → ((t : Lexeme) (u : List Lexeme) → a.IsPrefix (t ∷ u) → starts t ≡ true)
    → (t : Lexeme) (u : List Lexeme)
    → (a ∙ b).IsPrefix (t ∷ u)
    → starts t ≡ true
seq_first a b starts solid part first t u (inl h) = first t u h
seq_first a b starts solid part first t u (inr (x, [], w, e, ha, hb)) = absurd (solid.no_empty x ha)
seq_first a b starts solid part first t u (inr (x, s ∷ v, w, e, ha, hb)) = subst (λ (t : Lexeme). starts t ≡ true)
    (sym (head_is t s u (v ++ w) e)) (first s v (part x (s ∷ v) ha))

pub seq_solid : {A B C : Type 0} (a : Grammar A) (b : Grammar B) (f : A × B → C) → IsSolid a → IsSolid ((a ∙ b) ⇒ f)
seq_solid a b f solid = record { no_empty = λ z h. go z h }
  where
    go : (z : _) → ((a ∙ b) ⇒ f).Is z [] → ⊥
    go z (p, q, ([], w, e, ha, hb)) = solid.no_empty p.0 ha
    go z (p, q, (t ∷ v, w, e, ha, hb)) = absurd cc

-- the lexemes that can come after the one lexeme s
pub record Next {A : Type 0} (a : Grammar A) (s : Lexeme) (P : Lexeme → Type 0) : Type 0 where
  pub next : (t : Lexeme) (u : List Lexeme) → a.IsPrefix (s ∷ t ∷ u) → P t

pub second_is : (s t x y : Lexeme) (u v : List Lexeme) → s ∷ t ∷ u ≡ x ∷ y ∷ v → t ≡ y
second_is s t x y u v e = cc

pub seq_next : {A B : Type 0} (a : Grammar A) (b : Grammar B) (s : Lexeme) (P : Lexeme → Type 0)
    → IsSolid a
    → ((x : A) (u : List Lexeme) → a.Is x u → a.IsPrefix u)
    → Next a s P
    → ((x : A) (t : Lexeme) (u : List Lexeme) → a.Is x (s ∷ []) → b.IsPrefix (t ∷ u) → P t)
    → Next (a ∙ b) s P
seq_next a b s P solid part na nb = record { next = go }
  where
    go : (t : Lexeme) (u : List Lexeme) → (a ∙ b).IsPrefix (s ∷ t ∷ u) → P t
    go t u (inl h) = na.next t u h
    go t u (inr (x, [], w, e, ha, hb)) = absurd (solid.no_empty x ha)
    go t u (inr (x, s' ∷ [], [], e, ha, hb)) = absurd cc
    go t u (inr (x, s' ∷ [], t' ∷ w, e, ha, hb)) =
        let q : s' ≡ s = sym (head_is s s' (t ∷ u) (t' ∷ w) e) in
        subst P (sym (second_is s t s' t' u w e)) (nb x t' w (subst (λ (y : Lexeme). a.Is x (y ∷ [])) q ha) hb)
    go t u (inr (x, s' ∷ t' ∷ v, w, e, ha, hb)) =
        let q : s' ≡ s = sym (head_is s s' (t ∷ u) ((t' ∷ v) ++ w) e) in
        subst P (sym (second_is s t s' t' u (v ++ w) e))
        (na.next t' v (subst (λ (y : Lexeme). a.IsPrefix (y ∷ t' ∷ v)) q (part x (s' ∷ t' ∷ v) ha)))

pub made_next : {A B : Type 0} (a : Grammar A) (f : A → B) (s : Lexeme) (P : Lexeme → Type 0)
    → Next a s P
    → Next (a ⇒ f) s P
made_next a f s P n = record { next = n.next }

-- ---- lists

abbrev pub with_comma : (Lexeme → Bool) → Lexeme → Bool
with_comma ends (Mark Comma) = true
with_comma ends t = ends t

split_ends : (ends : Lexeme → Bool) (us : List Lexeme)
    → ends (Mark Comma) ≡ false
    → Follows (with_comma ends) us
    → Follows ends us × Follows is_comma us
split_ends ends [] apart f = (tt, tt)
split_ends ends ((Mark Comma) ∷ us) apart f = absurd cc
split_ends ends (t ∷ us) apart f = (f, refl)

comma_apart : (ends : Lexeme → Bool) → ends (Mark Comma) ≡ false → (t : Lexeme) → is_comma t ≡ true → ends t ≡ false
comma_apart ends apart (Mark Comma) e = apart
comma_apart ends apart t e = absurd cc

module _ {A : Type 0} (within : Limit → Type 0) (a : Grammar A) (starts ends : Lexeme → Bool) (read : Reader A)
    (fa : Finds within a starts ends read) (apart : ends (Mark Comma) ≡ false) where
  comma_first : (t : Lexeme) (u : List Lexeme) → (many (preceded (Mark Comma) a)).IsPrefix (t ∷ u) → is_comma t ≡ true
  comma_first t u (xs, v, w, e, hv, hw) = elim (begins within a starts ends read fa xs v w hv hw) [
    | inl n ↦ absurd (nothing_is t u (e ⋆ n))
    | inr (y, n) ↦ subst (λ (t : Lexeme). is_comma t ≡ true) (sym (head_is t (Mark Comma) u y (e ⋆ n))) refl
  ]
    where
      nothing_is : (t : Lexeme) (u : List Lexeme) → t ∷ u ≡ [] → ⊥
      nothing_is t u e = cc

  pub finds_many :
      Finds within (many (preceded (Mark Comma) a)) is_comma (with_comma ends)
      (λ us. after_commas_at read (length us) us)
  finds_many = record {
    nil = ([], [], [], refl, refl, inl (inl refl));
    part = λ xs u h. (xs, u, [], sym (append-nil u), h, inl (inl refl));
    first = comma_first;
    whole = λ xs u us h f. let p = split_ends ends us apart f in commas_whole within a starts ends read fa apart
        (length (u ++ us)) xs u us (omega arith) h p.0 p.1;
    front = λ u us h. subst (λ (l : List Lexeme). Passes within us (after_commas_at read (length (l ++ us)) (l ++ us)))
        (sym h.3) (commas_front within a starts ends read fa apart (length ((h.1 ++ h.2) ++ us)) h.0 h.1 h.2 us
        (omega arith) h.4 h.5);
  }

  pub finds_listed : IsSolid a → Finds within (listed a) starts (with_comma ends) (listed_at read)
  unfolding listed_at
  finds_listed solid = record {
    nil = inl fa.nil;
    part = seq_part within a (many (preceded (Mark Comma) a)) (λ p. p.0 ∷ p.1) starts ends is_comma (with_comma ends)
        (with_comma ends) read (λ us. after_commas_at read (length us) us) fa finds_many;
    first = seq_first a (many (preceded (Mark Comma) a)) starts solid fa.part fa.first;
    whole = seq_whole within a (many (preceded (Mark Comma) a)) (λ p. p.0 ∷ p.1) starts ends is_comma (with_comma ends)
        (with_comma ends) read (λ us. after_commas_at read (length us) us) fa finds_many
        (λ xs v us h f. follows_many within a starts ends read fa apart xs v us h (split_ends ends us apart f).0)
        (λ us f. f);
    front = seq_front within a (many (preceded (Mark Comma) a)) (λ p. p.0 ∷ p.1) starts ends is_comma (with_comma ends)
        (with_comma ends) read (λ us. after_commas_at read (length us) us) fa finds_many (comma_apart ends apart);
  }

-- ---- the end of braces

abbrev pub is_rbrace : Lexeme → Bool
is_rbrace (Mark CloseBrace) = true
is_rbrace t = false

abbrev pub no_lexeme : Lexeme → Bool
no_lexeme t = false

pub finds_closed : (within : Limit → Type 0) → Finds within (mark CloseBrace) is_rbrace no_lexeme closed_at
unfolding closed_at
finds_closed within = record {
  nil = inl refl;
  part = λ x u h. inr (tt, h);
  first = first;
  whole =
      λ x u us h f. subst (λ (l : List Lexeme). ReadsAs within (closed_at (l ++ us)) tt us) (sym h) (inl refl);
  front =
      front;
}
  where
    first : (t : Lexeme) (u : List Lexeme) → (mark CloseBrace).IsPrefix (t ∷ u) → is_rbrace t ≡ true
    first t u (inl e) = absurd cc
    first t u (inr (x, e)) = subst (λ (t : Lexeme). is_rbrace t ≡ true) (sym (head_is t (Mark CloseBrace) u [] e)) refl

    shrinks : (us : List Lexeme) → Passes within us (closed_at us)
    shrinks [] = omega arith
    shrinks ((Mark CloseBrace) ∷ us) = omega arith
    shrinks (t ∷ us) = omega arith

    front : (u us : List Lexeme) → (mark CloseBrace).IsPrefix u → Passes within us (closed_at (u ++ us))
    front u us (inl e) = subst (λ (l : List Lexeme). Passes within us (closed_at (l ++ us))) (sym e) (shrinks us)
    front u us (inr (x, e)) = let h : length us ≤ length us =
        omega arith in subst (λ (l : List Lexeme). Passes within us (closed_at (l ++ us))) (sym e) h

rbrace_apart : (ends : Lexeme → Bool)
    → ends (Mark CloseBrace) ≡ false
    → (t : Lexeme)
    → is_rbrace t ≡ true
    → with_comma ends t ≡ false
rbrace_apart ends apart (Mark CloseBrace) e = apart
rbrace_apart ends apart t e = absurd cc

module _ {A C : Type 0} (within : Limit → Type 0) (a : Grammar A) (starts ends : Lexeme → Bool) (read : Reader A)
    (fa : Finds within a starts ends read) (apart : ends (Mark Comma) ≡ false)
    (apart_end : ends (Mark CloseBrace) ≡ false) (solid : IsSolid a) (f : List A × Unit {0} → C) where
  listed_solid : IsSolid (listed a)
  listed_solid = seq_solid a (many (preceded (Mark Comma) a)) (λ p. p.0 ∷ p.1) solid

  pub finds_body :
      Finds within ((listed a ∙ mark CloseBrace) ⇒ f) starts no_lexeme (then_read f (listed_at read) closed_at)
  finds_body =
      let fl = finds_listed within a starts ends read fa apart solid in
      record {
        nil = inl fl.nil;
        part = seq_part within (listed a) (mark CloseBrace) f starts (with_comma ends) is_rbrace no_lexeme no_lexeme
            (listed_at read) closed_at fl (finds_closed within);
        first = seq_first (listed a) (mark CloseBrace) starts listed_solid fl.part fl.first;
        whole = seq_whole within (listed a) (mark CloseBrace) f starts (with_comma ends) is_rbrace no_lexeme no_lexeme
            (listed_at read) closed_at fl (finds_closed within)
            (λ y v us h g. subst (λ (l : List Lexeme). Follows (with_comma ends) (l ++ us)) (sym h) apart_end)
            (λ us g. g);
        front = seq_front within (listed a) (mark CloseBrace) f starts (with_comma ends) is_rbrace no_lexeme no_lexeme
            (listed_at read) closed_at fl (finds_closed within) (rbrace_apart ends apart_end);
      }

  -- the lexemes that can come after the first one in braces
  pub body_next : (s : Lexeme) (P : Lexeme → Type 0)
      → Next a s P
      → ((x : A) → a.Is x (s ∷ []) → (P (Mark Comma)) × (P (Mark CloseBrace)))
      → Next (listed a ∙ mark CloseBrace) s P
  body_next s P na one =
      seq_next (listed a) (mark CloseBrace) s P listed_solid
      (finds_listed within a starts ends read fa apart solid).part
      (made_next (a ∙ many (preceded (Mark Comma) a)) (λ p. p.0 ∷ p.1) s P
      (seq_next a (many (preceded (Mark Comma) a)) s P solid fa.part na
      (λ x t u h g. subst P (sym (is_comma_is t (comma_first within a starts ends read fa apart t u g)))
      (one x h).0)))
      (λ xs t u h g. subst P (sym (is_rbrace_is t ((finds_closed within).first t u g))) (single xs h).1)
    where
      is_comma_is : (t : Lexeme) → is_comma t ≡ true → t ≡ (Mark Comma)
      is_comma_is (Mark Comma) e = refl
      is_comma_is t e = absurd cc

      is_rbrace_is : (t : Lexeme) → is_rbrace t ≡ true → t ≡ (Mark CloseBrace)
      is_rbrace_is (Mark CloseBrace) e = refl
      is_rbrace_is t e = absurd cc

      -- a list of one lexeme has one part
      single : (xs : List A) → (listed a).Is xs (s ∷ []) → (P (Mark Comma)) × (P (Mark CloseBrace))
      single xs (p, q, ([], w, e, ha, hb)) = absurd (solid.no_empty p.0 ha)
      single xs (p, q, (t ∷ [], w, e, ha, hb)) =
          one p.0 (subst (λ (t : Lexeme). a.Is p.0 (t ∷ [])) (sym (head_is s t [] w e)) ha)
      single xs (p, q, (t ∷ t' ∷ v, w, e, ha, hb)) = absurd cc

-- ---- a part after a name

abbrev pub is_ident : Lexeme → Bool
is_ident (Ident x) = true
is_ident t = false

abbrev put_name : {A : Type 0} → List ℕ → Read A → Read (List ℕ × A)
put_name x r = r >>= λ v. Ok ((x, v.0), v.1)

module _ {A : Type 0} (within : Limit → Type 0) (v : Grammar A) (starts ends : Lexeme → Bool) (read : Reader A)
    (fv : Finds within v starts ends read) where
  read_named : (x : List ℕ) (us : List Lexeme) (r : Read A)
      → Passes within us r
      → Passes {A = List ℕ × A} within us (r >>= λ v. Ok ((x, v.0), v.1))
  read_named x us r h = passes_made within us r (λ t. (x, t)) h

  named_shrinks : (us : List Lexeme) → Passes within us (named_at read us)
  unfolding named_at
  named_shrinks [] = omega arith
  named_shrinks (Ident x ∷ us) = passes_on within (Ident x ∷ us) us _ (omega arith)
      (read_named x us (read us) (fv.front [] us fv.nil))
  named_shrinks (t ∷ us) = omega arith

  named_front : (u us : List Lexeme) → (token Ident ∙ v).IsPrefix u → Passes within us (named_at read (u ++ us))
  unfolding named_at
  named_front u us (inl (inl e)) = subst (λ (l : List Lexeme). Passes within us (named_at read (l ++ us))) (sym e)
      (named_shrinks us)
  named_front u us (inl (inr (x, e))) = subst (λ (l : List Lexeme). Passes within us (named_at read (l ++ us))) (sym e)
      (read_named x us (read us) (fv.front [] us fv.nil))
  named_front u us (inr (x, p, q, e, hp, hq)) =
      subst (λ (l : List Lexeme). Passes within us (named_at read (l ++ us)))
      (sym (e ⋆ ap (λ (l : List Lexeme). l ++ q) hp)) (read_named x us (read (q ++ us)) (fv.front q us hq))

  named_reads_as : (x : List ℕ) (y : A) (us : List Lexeme) (r : Read A)
      → ReadsAs within r y us
      → ReadsAs {A = List ℕ × A} within (r >>= λ v. Ok ((x, v.0), v.1)) (x, y) us
  named_reads_as x y us r (inl e) = inl (ap (put_name x) e)
  named_reads_as x y us r (inr w) = inr (w.0, w.1, ap (put_name x) w.2)

  named_whole : (m : List ℕ × A) (u us : List Lexeme)
      → (token Ident ∙ v).Is m u
      → Follows ends us
      → ReadsAs within (named_at read (u ++ us)) m us
  unfolding named_at
  named_whole m u us (p, q, e, hp, hq) f =
      subst (λ (l : List Lexeme). ReadsAs within (named_at read (l ++ us)) m us)
      (sym (e ⋆ ap (λ (l : List Lexeme). l ++ q) hp))
      (named_reads_as m.0 m.1 us (read (q ++ us)) (fv.whole m.1 q us hq f))

  pub finds_named : Finds within (token Ident ∙ v) is_ident ends (named_at read)
  finds_named = record {
    nil = inl (inl refl);
    part = λ x u h. inr (x.0, h.0, h.1, h.2, h.3, fv.part x.1 h.1 h.4);
    first = first;
    whole = named_whole;
    front = named_front;
  }
    where
      first : (t : Lexeme) (u : List Lexeme) → (token Ident ∙ v).IsPrefix (t ∷ u) → is_ident t ≡ true
      first t u (inl (inl e)) = absurd cc
      first t u (inl (inr (x, e))) = subst (λ (t : Lexeme). is_ident t ≡ true) (sym (head_is t (Ident x) u [] e)) refl
      first t u (inr (x, p, q, e, hp, hq)) = subst (λ (t : Lexeme). is_ident t ≡ true)
          (sym (head_is t (Ident x) u q (e ⋆ ap (λ (l : List Lexeme). l ++ q) hp))) refl

-- ---- the lexemes after an open brace

pub braces_is : {A : Type 0} (a : Grammar A) (z : A) (u : List Lexeme)
    → (braces a).Is z u
    → (v : List Lexeme) × (u ≡ Mark OpenBrace ∷ v) × ((a ∙ mark CloseBrace) ⇒ (λ p. p.0)).Is z v
braces_is a z u (p, e, (m, v, q, hm, hv)) = (v, q ⋆ ap (λ (l : List Lexeme). l ++ v) hm, (p.1, e, hv))

pub braces_front : {A : Type 0} (a : Grammar A) (u : List Lexeme)
    → a.IsPrefix []
    → (braces a).IsPrefix u
    → (u ≡ []) ⊎ ((v : List Lexeme) × (u ≡ Mark OpenBrace ∷ v) × (a ∙ mark CloseBrace).IsPrefix v)
braces_front a u nil (inl (inl e)) = inl e
braces_front a u nil (inl (inr (x, e))) = inr ([], e, inl nil)
braces_front a u nil (inr (x, m, v, q, hm, hv)) = inr (v, q ⋆ ap (λ (l : List Lexeme). l ++ v) hm, hv)
