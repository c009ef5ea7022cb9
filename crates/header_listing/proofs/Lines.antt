-- Lines that are added to a text.
use Rattle.std.proofs.Common.{◌≡◌, ℕ, List, [], ◌∷◌, ◌++◌, refl, ap, ◌∙◌, append_assoc}
use Rattle.std.specs.Prelude.{codes}
use Rattle.header_listing.specs.Shown.{Line}
use Rattle.header_listing.specs.Lines.{AreApart, AreLines, IsOneLine, start_of}

-- one more line
pub one_more : (ls : List Line) (l : Line) (before words text : List ℕ)
    → AreLines ls before
    → text ≡ before ++ (start_of l ++ (words ++ codes "\n"))
    → IsOneLine words
    → AreApart words
    → AreLines (ls ++ l ∷ []) text
one_more [] l before words text a e w p =
    (words, [], e ∙ ap (λ b. b ++ (start_of l ++ (words ++ codes "\n"))) a ∙ ap (λ q. start_of l ++ (words ++ q)) refl, w, p, refl)
one_more (k ∷ ls) l before words text a e w p =
    let more = start_of l ++ (words ++ codes "\n") in (
      a.0,
      a.1 ++ more,
      e ∙ ap (λ b. b ++ more) a.2 ∙ simp append_assoc,
      a.3,
      a.4,
      one_more ls l a.1 words (a.1 ++ more) a.5 refl w p,
    )

-- two additions to a text are one
pub joined : (a b d x y : List ℕ) → b ≡ a ++ x → d ≡ b ++ y → d ≡ a ++ (x ++ y)
joined a b d x y e f = f ∙ ap (λ q. q ++ y) e ∙ append_assoc a x y
