-- What is answered for the tokens of a text.
use Rattle.std.proofs.lemmas.Bool.Decides.{nat_tests}
use Rattle.std.proofs.Common.{◌==◌, suc, true, false, ◌≡◌, ℕ, ◌-◌, ◌≤◌, List, [], ◌∷◌, length, Ok, Err, refl, sym, ap, ◌∙◌ as ◌⋆◌, arith}
use Rattle.text.specs.declared.token.Token.{Token}
use Rattle.grammar.specs.Lexeme.{Lexeme, lexemes}
use Rattle.grammar.specs.Reading.{Fault, Unexpected, Beyond, Read}
use Rattle.grammar.specs.Laws.{left_of}
use Rattle.grammar.specs.Places.{small, bounded, Ends}
use Rattle.grammar.specs.Answers.{whole_is, whole_read}
use Rattle.grammar.specs.Texts.{rest_fits, left_fits, first, passes, stopped, from_whole}
use Rattle.parser_combinators.specs.declared.read_error.Limit.{Limit}
use Rattle.notation.specs.declared.syntax_fault.SyntaxFault.TheVariants as faults
use Rattle.parser_combinators.specs.Given.{limit_of}
use Rattle.notation.specs.Answer.{IsRightNotationFault}
use Rattle.trees.specs.Modules.{ModuleTree}
use Rattle.syntax.specs.Syntax.{module_text}
use Rattle.syntax.specs.ModuleReading.{module_at}
use Rattle.syntax.proofs.Assigned.{ModuleLaws}
use Rattle.syntax.proofs.ModuleText.{module_reads}

module _ (laws : ModuleLaws) (n : ℕ) (x : List ℕ) (ts : List Token) where
  none : 0 ≤ length ts
  none = omega arith

  pub rest_le : (m : ModuleTree) (rest : List Token)
      → module_at small n (lexemes x ts) ≡ Ok (m, lexemes x rest)
      → length rest ≤ length ts
  rest_le m rest e = rest_fits module_text (bounded n) (module_at small n) (module_reads laws n) x ts 0 none m rest (from_whole (module_at small n) x ts (Ok (m, lexemes x rest)) e)

  pub left_le : (f : Fault) → module_at small n (lexemes x ts) ≡ Err f → left_of f ≤ length ts
  left_le f e = left_fits module_text (bounded n) (module_at small n) (module_reads laws n) x ts 0 none f (from_whole (module_at small n) x ts (Err f) e)

  -- nothing is left
  nothing : (m : ModuleTree) (rest : List Token)
      → rest ≡ []
      → module_at small n (lexemes x ts) ≡ Ok (m, lexemes x rest)
      → module_at small n (lexemes x ts) ≡ Ok (m, [])
  nothing m rest q e = e ⋆ ap (λ (l : List Token). Ok (m, lexemes x l)) q

  pub is_there : (m : ModuleTree) (rest : List Token)
      → rest ≡ []
      → module_at small n (lexemes x ts) ≡ Ok (m, lexemes x rest)
      → (module_text (bounded n)).Is m (lexemes x ts)
  is_there m rest q e = whole_is module_text (bounded n) (module_at small n) (module_reads laws n) (lexemes x ts) m (nothing m rest q e)

  one_result : (v w : ModuleTree × List Lexeme) (r : Read ModuleTree) → r ≡ Ok v → r ≡ Ok w → v ≡ w
  one_result v w r p q = let e = sym p ⋆ q in cc

  no_result : (v : ModuleTree × List Lexeme) (f : Fault) (r : Read ModuleTree) → r ≡ Ok v → r ≡ Err f → ⊥
  no_result v f r p q = let e = sym p ⋆ q in absurd cc

  read_of : (m : ModuleTree)
      → (module_text (bounded n)).Is m (lexemes x ts)
      → module_at small n (lexemes x ts) ≡ Ok (m, [])
  read_of m h = whole_read module_text (bounded n) (module_at small n) (module_reads laws n) (lexemes x ts) m h

  pub is_same : (m w : ModuleTree) (rest : List Token)
      → module_at small n (lexemes x ts) ≡ Ok (m, lexemes x rest)
      → (module_text (bounded n)).Is w (lexemes x ts)
      → m ≡ w
  is_same m w rest e h = ap (λ (y : ModuleTree × List Lexeme). y.0) (one_result (m, lexemes x rest) (w, []) (module_at small n (lexemes x ts)) e (read_of w h))

  none_left : (rest : List Token) → lexemes x rest ≡ [] → 1 ≤ length rest → ⊥
  none_left [] e h = omega arith
  none_left (t ∷ rest) e h = absurd cc

  pub no_rest : (m w : ModuleTree) (rest : List Token)
      → module_at small n (lexemes x ts) ≡ Ok (m, lexemes x rest)
      → 1 ≤ length rest
      → (module_text (bounded n)).Is w (lexemes x ts)
      → ⊥
  no_rest m w rest e some h = none_left rest (ap (λ (y : ModuleTree × List Lexeme). y.1) (one_result (m, lexemes x rest) (w, []) (module_at small n (lexemes x ts)) e (read_of w h))) some

  pub no_fault : (f : Fault) (w : ModuleTree)
      → module_at small n (lexemes x ts) ≡ Err f
      → (module_text (bounded n)).Is w (lexemes x ts)
      → ⊥
  no_fault f w e h = no_result (w, []) f (module_at small n (lexemes x ts)) (read_of w h) e

  pub first_rest : (m : ModuleTree) (rest : List Token)
      → module_at small n (lexemes x ts) ≡ Ok (m, lexemes x rest)
      → 1 ≤ length rest
      → Ends module_text (bounded n) (lexemes x ts) 0 (length ts - length rest)
  first_rest m rest e some = stopped module_text (bounded n) (module_at small n) (module_reads laws n) x ts 0 none m rest (from_whole (module_at small n) x ts (Ok (m, lexemes x rest)) e) some

  pub first_left : (k : ℕ)
      → module_at small n (lexemes x ts) ≡ Err (Unexpected k)
      → Ends module_text (bounded n) (lexemes x ts) 0 (length ts - k)
  first_left k e = first module_text (bounded n) (module_at small n) (module_reads laws n) x ts 0 none k (from_whole (module_at small n) x ts (Err (Unexpected k)) e)

  pub limit_is_true : (l : Limit) (k : ℕ)
      → module_at small n (lexemes x ts) ≡ Err (Beyond (limit_of l) k)
      → IsRightNotationFault module_text (lexemes x ts) 0 (bounded n) (faults.Limit l (length ts - k))
  limit_is_true l k e = passes module_text (bounded n) (module_at small n) (module_reads laws n) x ts 0 none (limit_of l) k (from_whole (module_at small n) x ts (Err (Beyond (limit_of l) k)) e)

not_zero : (n : ℕ) → (suc n == 0) ≡ true → ⊥
not_zero n e = grind (arith, nat_tests)

pub is_nil : (l : List Token) → (length l == 0) ≡ true → l ≡ []
is_nil [] e = refl
is_nil (t ∷ l) e = absurd (not_zero (length l) e)

pub not_nil : (n : ℕ) → (n == 0) ≡ false → 1 ≤ n
not_nil n e = grind (arith, nat_tests)
