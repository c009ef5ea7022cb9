-- If more numbers are allowed, more types are.
use Rattle.std.proofs.Common.{◌≡◌, ℕ, zero, suc, inl, inr, Bool, true, List}
use Rattle.grammar.specs.Lexeme.{Lexeme}
use Rattle.grammar.specs.Grammar.{Grammar, number_of, ◌∙◌, ◌∣◌, ◌⇒◌, many, optional, preceded, listed, braces, parens, cut_off, opens, addition}
use Rattle.grammar.specs.Grows.{Grows, same_grows, number_grows, seq_grows, made_grows, either_grows, many_grows, preceded_grows, listed_grows, braces_grows, optional_grows, parens_grows, opens_grows, extensible_grows, rootless_grows, addition_grows}
use Rattle.notation.specs.ConstraintGrammar.{size, constraint}
use Rattle.trees.specs.Values.{Tree}
use Rattle.notation.specs.Value.{value}
use Rattle.trees.specs.Types.{TypeTree}
use Rattle.type_parts.specs.PlainGrammar.{signed, item, integer, bit_string, enumerated, plain_type, tag_number, tag_end, tag}
use Rattle.type_syntax.specs.TypeGrammar.{member, alternative, component_list, choice, tagged, one_type, list, type_with, type}

same : {A : Type 0} {a : Grammar A} → Grows a a
same {A} {a} = same_grows a

seq : {A B : Type 0} {a a' : Grammar A} {b b' : Grammar B} → Grows a a' → Grows b b' → Grows (a ∙ b) (a' ∙ b')
seq {A} {B} {a} {a'} {b} {b'} g h = seq_grows a a' b b' g h

made : {A B : Type 0} {a a' : Grammar A} {f : A → B} → Grows a a' → Grows (a ⇒ f) (a' ⇒ f)
made {A} {B} {a} {a'} {f} g = made_grows a a' f g

either : {A : Type 0} {a a' b b' : Grammar A} → Grows a a' → Grows b b' → Grows (a ∣ b) (a' ∣ b')
either {A} {a} {a'} {b} {b'} g h = either_grows a a' b b' g h

back : {A : Type 0} {l : Lexeme} {a a' : Grammar A} → Grows a a' → Grows (preceded l a) (preceded l a')
back {A} {l} {a} {a'} g = preceded_grows l a a' g

in_braces : {A : Type 0} {a a' : Grammar A} → Grows a a' → Grows (braces a) (braces a')
in_braces {A} {a} {a'} g = braces_grows a a' g

in_list : {A : Type 0} {a a' : Grammar A} → Grows a a' → Grows (listed a) (listed a')
in_list {A} {a} {a'} g = listed_grows a a' g

in_parens : {A : Type 0} {a a' : Grammar A} → Grows a a' → Grows (parens a) (parens a')
in_parens {A} {a} {a'} g = parens_grows a a' g

any_number : {A : Type 0} {a a' : Grammar A} → Grows a a' → Grows (many a) (many a')
any_number {A} {a} {a'} g = many_grows a a' g

perhaps : {A : Type 0} {a a' : Grammar A} → Grows a a' → Grows (optional a) (optional a')
perhaps {A} {a} {a'} g = optional_grows a a' g

opened : {A : Type 0} {a a' : Grammar A} (n : ℕ) → Grows a a' → Grows (opens n a) (opens n a')
opened {A} {a} {a'} n g = opens_grows n a a' g

module _ (fits fits' : ℕ → Bool) (grows : (n : ℕ) → fits n ≡ true → fits' n ≡ true) (few more : ℕ → Bool)
    (grows_tags : (n : ℕ) → few n ≡ true → more n ≡ true) (constraints : Grows (constraint fits) (constraint fits'))
    (sizes : Grows (size fits) (size fits')) where
  number : Grows (number_of fits) (number_of fits')
  number = number_grows fits fits' grows

  signed_number : Grows (signed fits) (signed fits')
  signed_number = either (made number) same

  tag_numbers : Grows (tag_number few) (tag_number more)
  tag_numbers = record { is = λ x u h. (grows_tags x.0 h.0, h.1); on = on }
    where
      on : (u : List Lexeme) → (tag_number few).IsPrefix u → (tag_number more).IsPrefix u
      on u (inl e) = inl e
      on u (inr (n, h, e)) = inr (n, grows_tags n h, e)

  tag_ends : Grows (tag_end few) (tag_end more)
  tag_ends = made (seq tag_numbers same)

  tags : Grows (tag few) (tag more)
  tags = either (made (back tag_ends)) (either (made (back tag_ends)) (made tag_ends))

  with_grows : (n : ℕ) (t t' : Grammar TypeTree) (v v' : Grammar Tree)
      → Grows t t'
      → Grows v v'
      → Grows (type_with fits few n t v) (type_with fits' more n t' v')
  with_grows n t t' v v' gt gv = either tagged_grows (either (made (seq (either one_grows (made (seq same members_grow))) (any_number constraints))) list_grows)
    where
      tagged_grows : Grows (tagged few n t) (tagged more n t')
      tagged_grows = opened n (back (made (seq tags (seq same gt))))

      component_grows : Grows (member t v) (member t' v')
      component_grows = seq same (seq gt (made (perhaps (either same (made (back gv))))))

      members_grow : Grows (component_list fits n t v) (component_list fits' n t' v')
      members_grow = made (opened n (in_braces (perhaps (rootless_grows (member t v) (member t' v') (addition fits (member t v)) (addition fits' (member t' v')) component_grows (addition_grows fits fits' grows (member t v) (member t' v') component_grows)))))

      alternative_grows : Grows (alternative t) (alternative t')
      alternative_grows = seq same (made gt)

      choices : Grows (choice fits n t) (choice fits' n t')
      choices = made (seq same (opened n (in_braces (extensible_grows (alternative t) (alternative t') (addition fits (alternative t)) (addition fits' (alternative t')) alternative_grows (addition_grows fits fits' grows (alternative t) (alternative t') alternative_grows)))))

      item_grows : Grows (item fits) (item fits')
      item_grows = seq same (perhaps (in_parens signed_number))

      integers : Grows (integer fits n) (integer fits' n)
      integers = made (seq same (perhaps (opened n (in_braces (in_list (seq same (in_parens signed_number)))))))

      bits : Grows (bit_string fits n) (bit_string fits' n)
      bits = made (seq same (seq same (perhaps (opened n (in_braces (in_list (seq same (in_parens number))))))))

      items : Grows (enumerated fits n) (enumerated fits' n)
      items = made (seq same (opened n (in_braces (extensible_grows (item fits) (item fits') (item fits) (item fits') item_grows item_grows))))

      simples : Grows (plain_type fits n) (plain_type fits' n)
      simples = either same (either same (either same (either integers (either bits items))))

      one_grows : Grows (one_type fits n t) (one_type fits' n t')
      one_grows = either (made simples) (either same choices)

      list_grows : Grows (list fits n t) (list fits' n t')
      list_grows = made (seq same (seq (perhaps (either sizes (in_parens sizes))) (opened n (back gt))))

  pub types_grow : ((n : ℕ) → Grows (value fits n) (value fits' n))
      → (n : ℕ)
      → Grows (type fits few n) (type fits' more n)
  types_grow gv zero = with_grows zero cut_off cut_off cut_off cut_off same same
  types_grow gv (suc n) = with_grows (suc n) (type fits few n) (type fits' more n) (value fits n) (value fits' n) (types_grow gv n) (gv n)
