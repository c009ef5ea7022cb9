-- Values, from their first lexeme on.
use Rattle.std.proofs.Common.{◌≡◌, ℕ, ◌≤◌, inl, inr, Bool, true, List, [], ◌∷◌, ◌++◌, length, None, Ok, refl, sym, ap, subst, ◌∙◌ as ◌⋆◌, arith}
use Rattle.text.specs.declared.token.Mark.TheVariants.{Colon, Dot, Minus, OpenBrace, CloseBrace}
use Rattle.text.specs.declared.reserved.Word.TheVariants.{True, False, Null}
use Rattle.grammar.specs.Lexeme.{Lexeme, TypeRef, Ident, Number, BString, HString, CString, Word, Mark}
use Rattle.grammar.specs.Grammar.{Grammar, token, mark, number_of, ◌∙◌, ◌∣◌, ◌⇒◌, preceded, listed, braces}
use Rattle.grammar.specs.Reading.{Limit, Integer, Read, Reader, ◌>>=◌, opened}
use Rattle.grammar.specs.Laws.{Follows, Passes, ReadsAs, Finds, passes_on, passes_made, preceded_is, preceded_front}
use Rattle.grammar.specs.Lists.{IsSolid, Next, braces_is, braces_front}
use Rattle.grammar.specs.Numbers.{fitting_passes, fitting_shrinks, fitting_reads_as}
use Rattle.trees.specs.Values.{Tree, yes, no, null, binary, hex, chars, reference, chosen, nothing, numbers, items, fields, trees, named_trees}
use Rattle.notation.specs.Value.{positive, simple, nested}
use Rattle.notation.specs.Reading.{negative_at, ref_name_at, ref_dot_at, referred, braced_at, alternative_at, step_at}
use Rattle.notation.proofs.Sounds.{three_numbers}
use Rattle.notation.specs.Laws.{starts, goes_on}
use Rattle.notation.proofs.Finding.{ends_item, braced_shrinks, items_front, fields_front, numbers_front, items_whole, fields_whole, numbers_whole}

-- ---- fronts

-- the values in braces
abbrev pub braced_ones : (ℕ → Bool) → Grammar Tree → Grammar Tree
braced_ones fits' v =
    (mark OpenBrace ∙ mark CloseBrace) ⇒ (λ _. nothing)
    ∣ braces (three_numbers fits') ⇒ (λ p. numbers (p.0 ∷ p.1.0 ∷ p.1.1))
    ∣ braces (listed v) ⇒ (λ vs. items (trees vs))
    ∣ braces (listed (token Ident ∙ v)) ⇒ (λ ms. fields (named_trees ms))

abbrev pub ends_item_is : Lexeme → Type 0
ends_item_is t = ends_item t ≡ true

negative_shrinks : (within : Limit → Type 0) (us : List Lexeme) → Passes within us (negative_at us)
unfolding negative_at
negative_shrinks within [] = omega arith
negative_shrinks within (Number n ∷ us) = omega arith
negative_shrinks within (t ∷ us) = omega arith

value_name_shrinks : (within : Limit → Type 0) (m : List ℕ) (us : List Lexeme)
    → Passes within us (referred (ref_name_at m us))
unfolding ref_name_at
value_name_shrinks within m [] = omega arith
value_name_shrinks within m (Ident n ∷ us) = omega arith
value_name_shrinks within m (t ∷ us) = omega arith

qualified_shrinks : (within : Limit → Type 0) (m : List ℕ) (us : List Lexeme)
    → Passes within us (referred (ref_dot_at m us))
unfolding ref_dot_at
qualified_shrinks within m [] = omega arith
qualified_shrinks within m ((Mark Dot) ∷ us) = passes_on within ((Mark Dot) ∷ us) us (referred (ref_name_at m us)) (omega arith) (value_name_shrinks within m us)
qualified_shrinks within m (t ∷ us) = omega arith

le_same : (n : ℕ) → n ≤ n
le_same n = omega arith

module _ (within : Limit → Type 0) (fits fits' : ℕ → Bool)
    (room : (n : ℕ) → fits' n ≡ true → within Integer → fits n ≡ true) (n : ℕ) (read : Reader Tree)
    (colon : (x : List ℕ) (us : List Lexeme) → Passes within ((Mark Colon) ∷ us) (opened n ((Mark Colon) ∷ us) (read us >>= λ v. Ok (chosen x v.0, v.1))))
    (brace : (us : List Lexeme) → Passes within ((Mark OpenBrace) ∷ us) (opened n ((Mark OpenBrace) ∷ us) (braced_at fits read us)))
  where
    named_shrinks : (x : List ℕ) (us : List Lexeme) → Passes within us (alternative_at fits n read x us)
    unfolding alternative_at
    named_shrinks x [] = omega arith
    named_shrinks x ((Mark Colon) ∷ us) = colon x us
    named_shrinks x (t ∷ us) = omega arith

    pub step_shrinks : (us : List Lexeme) → Passes within us (step_at fits n read us)
    unfolding step_at
    step_shrinks [] = omega arith
    step_shrinks (Word True ∷ us) = omega arith
    step_shrinks (Word False ∷ us) = omega arith
    step_shrinks (Word Null ∷ us) = omega arith
    step_shrinks (Number m ∷ us) = fitting_shrinks within (fits m) m us (Ok (positive m, us)) (le_same (length us))
    step_shrinks ((Mark Minus) ∷ us) = passes_on within ((Mark Minus) ∷ us) us (negative_at us) (omega arith) (negative_shrinks within us)
    step_shrinks (TypeRef m ∷ us) = passes_on within (TypeRef m ∷ us) us (referred (ref_dot_at m us)) (omega arith) (qualified_shrinks within m us)
    step_shrinks (Ident x ∷ us) = passes_on within (Ident x ∷ us) us (alternative_at fits n read x us) (omega arith) (named_shrinks x us)
    step_shrinks ((Mark OpenBrace) ∷ us) = brace us
    step_shrinks (t ∷ us) = omega arith

    -- a front of one token
    one : {A : Type 0} (kind : A → Lexeme)
        → ((x : A) (us : List Lexeme) → Passes within us (step_at fits n read (kind x ∷ us)))
        → (u us : List Lexeme)
        → (token kind).IsPrefix u
        → Passes within us (step_at fits n read (u ++ us))
    one kind h u us (inl e) = subst (λ (l : List Lexeme). Passes within us (step_at fits n read (l ++ us))) (sym e) (step_shrinks us)
    one kind h u us (inr (x, e)) = subst (λ (l : List Lexeme). Passes within us (step_at fits n read (l ++ us))) (sym e) (h x us)

    number_front : (u us : List Lexeme) → (number_of fits').IsPrefix u → Passes within us (step_at fits n read (u ++ us))
    unfolding step_at
    number_front u us (inl e) = subst (λ (l : List Lexeme). Passes within us (step_at fits n read (l ++ us))) (sym e) (step_shrinks us)
    number_front u us (inr (m, f, e)) = subst (λ (l : List Lexeme). Passes within us (step_at fits n read (l ++ us))) (sym e) (fitting_passes within (fits m) us (Number m ∷ us) (Ok (positive m, us)) (room m f) (le_same (length us)))

    name_front : (x : List ℕ) (us : List Lexeme) → Passes within us (step_at fits n read (Ident x ∷ us))
    unfolding step_at
    name_front x us = named_shrinks x us

    minus_front : (u us : List Lexeme)
        → (preceded (Mark Minus) (token Number)).IsPrefix u
        → Passes within us (step_at fits n read (u ++ us))
    unfolding step_at negative_at
    minus_front u us h = elim (preceded_front (Mark Minus) (token Number) u (inl refl) h) [
      | inl e ↦ subst (λ (l : List Lexeme). Passes within us (step_at fits n read (l ++ us))) (sym e) (step_shrinks us)
      | inr (w, e, inl d) ↦ subst (λ (l : List Lexeme). Passes within us (step_at fits n read (l ++ us))) (sym (e ⋆ ap (λ (l : List Lexeme). (Mark Minus) ∷ l) d)) (negative_shrinks within us)
      | inr (w, e, inr (m, d)) ↦ subst (λ (l : List Lexeme). Passes within us (step_at fits n read (l ++ us))) (sym (e ⋆ ap (λ (l : List Lexeme). (Mark Minus) ∷ l) d)) (le_same (length us))
    ]

    typeref_front : (m : List ℕ) (us : List Lexeme) → Passes within us (step_at fits n read (TypeRef m ∷ us))
    unfolding step_at
    typeref_front m us = qualified_shrinks within m us

    qualified_front : (u us : List Lexeme)
        → (token TypeRef ∙ preceded (Mark Dot) (token Ident)).IsPrefix u
        → Passes within us (step_at fits n read (u ++ us))
    unfolding step_at ref_dot_at ref_name_at
    qualified_front u us (inl h) = one TypeRef typeref_front u us h
    qualified_front u us (inr (m, p, q, e, hp, hq)) =
        let d = e ⋆ ap (λ (l : List Lexeme). l ++ q) hp in
        elim (preceded_front (Mark Dot) (token Ident) q (inl refl) hq) [
          | inl g ↦ subst (λ (l : List Lexeme). Passes within us (step_at fits n read (l ++ us))) (sym (d ⋆ ap (λ (l : List Lexeme). TypeRef m ∷ l) g)) (typeref_front m us)
          | inr (w, g, inl k) ↦ subst (λ (l : List Lexeme). Passes within us (step_at fits n read (l ++ us))) (sym (d ⋆ ap (λ (l : List Lexeme). TypeRef m ∷ l) (g ⋆ ap (λ (l : List Lexeme). (Mark Dot) ∷ l) k))) (value_name_shrinks within m us)
          | inr (w, g, inr (x, k)) ↦ subst (λ (l : List Lexeme). Passes within us (step_at fits n read (l ++ us))) (sym (d ⋆ ap (λ (l : List Lexeme). TypeRef m ∷ l) (g ⋆ ap (λ (l : List Lexeme). (Mark Dot) ∷ l) k))) (le_same (length us))
        ]

    pub simple_front : (u us : List Lexeme) → (simple fits').IsPrefix u → Passes within us (step_at fits n read (u ++ us))
    unfolding step_at
    simple_front u us (inl h) = one (λ (x : Unit {0}). (Word True)) (λ x us. le_same (length us)) u us h
    simple_front u us (inr (inl h)) = one (λ (x : Unit {0}). (Word False)) (λ x us. le_same (length us)) u us h
    simple_front u us (inr (inr (inl h))) = one (λ (x : Unit {0}). (Word Null)) (λ x us. le_same (length us)) u us h
    simple_front u us (inr (inr (inr (inl h)))) = number_front u us h
    simple_front u us (inr (inr (inr (inr (inl h))))) = minus_front u us h
    simple_front u us (inr (inr (inr (inr (inr (inl h)))))) = one BString (λ x us. le_same (length us)) u us h
    simple_front u us (inr (inr (inr (inr (inr (inr (inl h))))))) = one HString (λ x us. le_same (length us)) u us h
    simple_front u us (inr (inr (inr (inr (inr (inr (inr (inl h)))))))) = one CString (λ x us. le_same (length us)) u us h
    simple_front u us (inr (inr (inr (inr (inr (inr (inr (inr (inl h))))))))) = one Ident name_front u us h
    simple_front u us (inr (inr (inr (inr (inr (inr (inr (inr (inr h))))))))) = qualified_front u us h

    -- ---- values with values in them
    module _ (v : Grammar Tree) (fv : Finds within v (starts fits') goes_on read) (solid : IsSolid v)
        (one_number : (a : ℕ) → fits' a ≡ true → v.IsPrefix (Number a ∷ []))
        (one_name : (x : List ℕ) → v.IsPrefix (Ident x ∷ [])) (after_number : (a : ℕ) → Next v (Number a) ends_item_is)
        (after_name : (x : List ℕ) → Next v (Ident x) ends_item_is)
        (enter : (ts us : List Lexeme) (r : Read Tree) → Passes within us r → Passes within us (opened n ts r)) where
      open_brace : (w u us : List Lexeme)
          → u ≡ (Mark OpenBrace) ∷ w
          → Passes within us (braced_at fits read (w ++ us))
          → Passes within us (step_at fits n read (u ++ us))
      unfolding step_at
      open_brace w u us e h = subst (λ (l : List Lexeme). Passes within us (step_at fits n read (l ++ us))) (sym e) (enter ((Mark OpenBrace) ∷ (w ++ us)) us (braced_at fits read (w ++ us)) h)

      nothing_passes : (us : List Lexeme) → Passes within us (braced_at fits read ((Mark CloseBrace) ∷ us))
      unfolding braced_at
      nothing_passes us = le_same (length us)

      colon_front : (x : List ℕ) (w u us : List Lexeme)
          → u ≡ Ident x ∷ (Mark Colon) ∷ w
          → v.IsPrefix w
          → Passes within us (step_at fits n read (u ++ us))
      unfolding step_at alternative_at
      colon_front x w u us e h = subst (λ (l : List Lexeme). Passes within us (step_at fits n read (l ++ us))) (sym e) (enter ((Mark Colon) ∷ (w ++ us)) us (read (w ++ us) >>= λ v. Ok (chosen x v.0, v.1)) (passes_made within us (read (w ++ us)) (λ t. chosen x t) (fv.front w us h)))

      empty_at : (u us : List Lexeme) → u ≡ [] → Passes within us (step_at fits n read (u ++ us))
      empty_at u us e = subst (λ (l : List Lexeme). Passes within us (step_at fits n read (l ++ us))) (sym e) (step_shrinks us)

      brace_alone : (u us : List Lexeme) → u ≡ (Mark OpenBrace) ∷ [] → Passes within us (step_at fits n read (u ++ us))
      brace_alone u us e = open_brace [] u us e (braced_shrinks within fits fits' room v read fv solid one_number one_name after_number after_name us)

      pub nested_front : (u us : List Lexeme)
          → (nested fits' v).IsPrefix u
          → Passes within us (step_at fits n read (u ++ us))
      nested_front u us (inl (inl h)) = one Ident name_front u us h
      nested_front u us (inl (inr (x, p, q, e, hp, hq))) =
          let d = e ⋆ ap (λ (l : List Lexeme). l ++ q) hp in
          elim (preceded_front (Mark Colon) v q fv.nil hq) [
            | inl g ↦ one Ident name_front u us (inr (x, d ⋆ ap (λ (l : List Lexeme). Ident x ∷ l) g))
            | inr (w, g, k) ↦ colon_front x w u us (d ⋆ ap (λ (l : List Lexeme). Ident x ∷ l) g) k
          ]
      nested_front u us (inr (inl (inl (inl e)))) = empty_at u us e
      nested_front u us (inr (inl (inl (inr (x, e))))) = brace_alone u us e
      nested_front u us (inr (inl (inr (x, p, q, e, hp, inl g)))) = brace_alone u us (e ⋆ ap (λ (l : List Lexeme). l ++ q) hp ⋆ ap (λ (l : List Lexeme). (Mark OpenBrace) ∷ l) g)
      nested_front u us (inr (inl (inr (x, p, q, e, hp, inr (y, g))))) = open_brace ((Mark CloseBrace) ∷ []) u us (e ⋆ ap (λ (l : List Lexeme). l ++ q) hp ⋆ ap (λ (l : List Lexeme). (Mark OpenBrace) ∷ l) g) (nothing_passes us)
      nested_front u us (inr (inr (inl h))) = elim (braces_front (three_numbers fits') u (inl (inl refl)) h) [
        | inl e ↦ empty_at u us e
        | inr (w, e, k) ↦ open_brace w u us e (numbers_front within fits fits' room v read fv solid one_number one_name after_number after_name w us k)
      ]
      nested_front u us (inr (inr (inr (inl h)))) = elim (braces_front (listed v) u (inl fv.nil) h) [
        | inl e ↦ empty_at u us e
        | inr (w, e, k) ↦ open_brace w u us e (items_front within fits fits' room v read fv solid one_number one_name after_number after_name w us k)
      ]
      nested_front u us (inr (inr (inr (inr h)))) = elim (braces_front (listed (token Ident ∙ v)) u (inl (inl (inl refl))) h) [
        | inl e ↦ empty_at u us e
        | inr (w, e, k) ↦ open_brace w u us e (fields_front within fits fits' room v read fv solid one_number one_name after_number after_name w us k)
      ]

    -- ---- wholes

    at_end : (x : List ℕ) (us : List Lexeme)
        → Follows goes_on us
        → alternative_at fits n read x us ≡ Ok (reference None x, us)
    unfolding alternative_at
    at_end x [] f = refl
    at_end x ((Mark Colon) ∷ us) f = absurd cc
    at_end x (t ∷ us) f = refl

    is_one : {A : Type 0} (kind : A → Lexeme) (make : A → Tree)
        → ((x : A) (us : List Lexeme) → step_at fits n read (kind x ∷ us) ≡ Ok (make x, us))
        → (z : Tree) (u us : List Lexeme)
        → (token kind ⇒ make).Is z u
        → step_at fits n read (u ++ us) ≡ Ok (z, us)
    is_one kind make h z u us (x, d, e) =
        ap (λ (l : List Lexeme). step_at fits n read (l ++ us)) e ⋆ h x us ⋆ ap (λ (t : Tree). Ok (t, us)) (sym d)

    is_name : (z : Tree) (u us : List Lexeme)
        → ((x : List ℕ) → u ≡ Ident x ∷ [] → Follows goes_on us)
        → (token Ident ⇒ reference None).Is z u
        → step_at fits n read (u ++ us) ≡ Ok (z, us)
    unfolding step_at
    is_name z u us f (x, d, e) = ap (λ (l : List Lexeme). step_at fits n read (l ++ us)) e ⋆ at_end x us (f x e) ⋆ ap (λ (t : Tree). Ok (t, us)) (sym d)

    number_whole : (z : Tree) (u us : List Lexeme)
        → (number_of fits' ⇒ positive).Is z u
        → ReadsAs within (step_at fits n read (u ++ us)) z us
    unfolding step_at
    number_whole z u us (x, d, h) =
        subst (λ (l : List Lexeme). ReadsAs within (step_at fits n read (l ++ us)) z us) (sym h.1)
        (fitting_reads_as within (fits x) (Number x ∷ us) us (Ok (positive x, us)) z (room x h.0) (inl (ap (λ (t : Tree). Ok (t, us)) (sym d))))

    pub simple_whole : (z : Tree) (u us : List Lexeme)
        → ((x : List ℕ) → u ≡ Ident x ∷ [] → Follows goes_on us)
        → (simple fits').Is z u
        → ReadsAs within (step_at fits n read (u ++ us)) z us
    unfolding step_at negative_at ref_dot_at ref_name_at
    simple_whole z u us f (inl h) = inl (is_one (λ (x : Unit {0}). (Word True)) (λ _. yes) (λ x us. refl) z u us h)
    simple_whole z u us f (inr (inl h)) = inl (is_one (λ (x : Unit {0}). (Word False)) (λ _. no) (λ x us. refl) z u us h)
    simple_whole z u us f (inr (inr (inl h))) = inl (is_one (λ (x : Unit {0}). (Word Null)) (λ _. null) (λ x us. refl) z u us h)
    simple_whole z u us f (inr (inr (inr (inl h)))) = number_whole z u us h
    simple_whole z u us f (inr (inr (inr (inr (inl (x, d, h)))))) =
        let b = preceded_is (Mark Minus) (token Number) x u h in
        inl (ap (λ (l : List Lexeme). step_at fits n read (l ++ us)) (b.1 ⋆ ap (λ (l : List Lexeme). (Mark Minus) ∷ l) b.2) ⋆ ap (λ (t : Tree). Ok (t, us)) (sym d))
    simple_whole z u us f (inr (inr (inr (inr (inr (inl h)))))) = inl (is_one BString binary (λ x us. refl) z u us h)
    simple_whole z u us f (inr (inr (inr (inr (inr (inr (inl h))))))) = inl (is_one HString hex (λ x us. refl) z u us h)
    simple_whole z u us f (inr (inr (inr (inr (inr (inr (inr (inl h)))))))) = inl (is_one CString chars (λ x us. refl) z u us h)
    simple_whole z u us f (inr (inr (inr (inr (inr (inr (inr (inr (inl h))))))))) = inl (is_name z u us f h)
    simple_whole z u us f (inr (inr (inr (inr (inr (inr (inr (inr (inr (x, d, (p, q, e, hp, hq))))))))))) =
        let b = preceded_is (Mark Dot) (token Ident) x.1 q hq in
        inl (ap (λ (l : List Lexeme). step_at fits n read (l ++ us)) (e ⋆ ap (λ (l : List Lexeme). l ++ q) hp ⋆ ap (λ (l : List Lexeme). TypeRef x.0 ∷ l) (b.1 ⋆ ap (λ (l : List Lexeme). (Mark Dot) ∷ l) b.2)) ⋆ ap (λ (t : Tree). Ok (t, us)) (sym d))

    module _ (v : Grammar Tree) (fv : Finds within v (starts fits') goes_on read) (solid : IsSolid v)
        (one_number : (a : ℕ) → fits' a ≡ true → v.IsPrefix (Number a ∷ []))
        (one_name : (x : List ℕ) → v.IsPrefix (Ident x ∷ [])) (after_number : (a : ℕ) → Next v (Number a) ends_item_is)
        (after_name : (x : List ℕ) → Next v (Ident x) ends_item_is)
        (enters : (ts us : List Lexeme) (z : Tree) (r : Read Tree) → ReadsAs within r z us → ReadsAs within (opened n ts r) z us)
      where
        brace_reads_as : (w u us : List Lexeme) (z : Tree)
            → u ≡ (Mark OpenBrace) ∷ w
            → ReadsAs within (braced_at fits read (w ++ us)) z us
            → ReadsAs within (step_at fits n read (u ++ us)) z us
        unfolding step_at
        brace_reads_as w u us z e h = subst (λ (l : List Lexeme). ReadsAs within (step_at fits n read (l ++ us)) z us) (sym e) (enters ((Mark OpenBrace) ∷ (w ++ us)) us z (braced_at fits read (w ++ us)) h)

        nothing_reads_as : (z : Tree) (us : List Lexeme)
            → z ≡ nothing
            → ReadsAs within (braced_at fits read ((Mark CloseBrace) ∷ us)) z us
        unfolding braced_at
        nothing_reads_as z us e = inl (ap (λ (t : Tree). Ok (t, us)) (sym e))

        chosen_reads_as : (x : List ℕ) (y : Tree) (us : List Lexeme) (r : Read Tree)
            → ReadsAs within r y us
            → ReadsAs within (r >>= λ v. Ok (chosen x v.0, v.1)) (chosen x y) us
        chosen_reads_as x y us r (inl e) = inl (ap (λ (r : Read Tree). r >>= λ v. Ok (chosen x v.0, v.1)) e)
        chosen_reads_as x y us r (inr w) = inr (w.0, w.1, ap (λ (r : Read Tree). r >>= λ v. Ok (chosen x v.0, v.1)) w.2)

        pub colon_reads_as : (x : List ℕ) (y z : Tree) (w u us : List Lexeme)
            → z ≡ chosen x y
            → u ≡ Ident x ∷ (Mark Colon) ∷ w
            → ReadsAs within (read (w ++ us)) y us
            → ReadsAs within (step_at fits n read (u ++ us)) z us
        unfolding step_at alternative_at
        colon_reads_as x y z w u us d e h =
            subst (λ (t : Tree). ReadsAs within (step_at fits n read (u ++ us)) t us) (sym d)
            (subst (λ (l : List Lexeme). ReadsAs within (step_at fits n read (l ++ us)) (chosen x y) us) (sym e)
            (enters ((Mark Colon) ∷ (w ++ us)) us (chosen x y) (read (w ++ us) >>= λ v. Ok (chosen x v.0, v.1)) (chosen_reads_as x y us (read (w ++ us)) h)))

        pub braced_whole : (z : Tree) (u us : List Lexeme)
            → (braced_ones fits' v).Is z u
            → ReadsAs within (step_at fits n read (u ++ us)) z us
        braced_whole z u us (inl (x, d, (p, q, e, hp, hq))) =
            brace_reads_as ((Mark CloseBrace) ∷ []) u us z (e ⋆ ap (λ (l : List Lexeme). l ++ q) hp ⋆ ap (λ (l : List Lexeme). (Mark OpenBrace) ∷ l) hq) (nothing_reads_as z us d)
        braced_whole z u us (inr (inl (x, d, h))) =
            let b = braces_is (three_numbers fits') x u h in
            brace_reads_as b.0 u us z b.1 (numbers_whole within fits fits' room v read fv solid one_number one_name after_number after_name z b.0 us (b.2.0, d ⋆ ap (λ (x : ℕ × (ℕ × List ℕ)). numbers (x.0 ∷ x.1.0 ∷ x.1.1)) b.2.1, b.2.2))
        braced_whole z u us (inr (inr (inl (x, d, h)))) =
            let b = braces_is (listed v) x u h in
            brace_reads_as b.0 u us z b.1 (items_whole within fits fits' room v read fv solid one_number one_name after_number after_name z b.0 us (b.2.0, d ⋆ ap (λ (x : List Tree). items (trees x)) b.2.1, b.2.2))
        braced_whole z u us (inr (inr (inr (x, d, h)))) =
            let b = braces_is (listed (token Ident ∙ v)) x u h in
            brace_reads_as b.0 u us z b.1 (fields_whole within fits fits' room v read fv solid one_number one_name after_number after_name z b.0 us (b.2.0, d ⋆ ap (λ (x : List (List ℕ × Tree)). fields (named_trees x)) b.2.1, b.2.2))

        pub nested_whole : (z : Tree) (u us : List Lexeme)
            → Follows goes_on us
            → (nested fits' v).Is z u
            → ReadsAs within (step_at fits n read (u ++ us)) z us
        nested_whole z u us f (inl (x, d, (p, q, e, hp, hq))) =
            let b = preceded_is (Mark Colon) v x.1 q hq in
            colon_reads_as x.0 x.1 z b.0 u us d (e ⋆ ap (λ (l : List Lexeme). l ++ q) hp ⋆ ap (λ (l : List Lexeme). Ident x.0 ∷ l) b.1) (fv.whole x.1 b.0 us b.2 f)
        nested_whole z u us f (inr h) = braced_whole z u us h
