-- Windows of a cursor.
use Rattle.std.proofs.Common.{arith, ◌≡◌, ℕ, suc, ◌<◌, Bool, true, false, List, [], ◌∷◌, ◌++◌, length, map, IsTrue, ◌↔◌, refl, sym, ap, subst, ◌∙◌}
use Rattle.std.specs.Prelude.{◌==◌, Option, Some, None, IfSome, IfNone}
use Rattle.std.proofs.lemmas.Bool.Decides.{nat_tests}
use Rattle.std.specs.List.{AllByRecursion}
use Rattle.ber_source.specs.declared.open_contents.OpenContents.{OpenContents}
use Rattle.ber_source.specs.Seen.{open_contents_of, FitsMessage}

abbrev AllFit : List OpenContents → Type 0
AllFit ws = AllByRecursion FitsMessage (map open_contents_of ws)

front_fits : (ws : List OpenContents) (w : OpenContents) → AllFit (ws ++ w ∷ []) → AllFit ws
front_fits [] w h = tt
front_fits (v ∷ ws) w h = (h.0, front_fits ws w h.1)

last_fits : (ws : List OpenContents) (w : OpenContents) → AllFit (ws ++ w ∷ []) → FitsMessage (open_contents_of w)
last_fits [] w h = h.0
last_fits (v ∷ ws) w h = last_fits ws w h.1

pub one_less : (all ws : List OpenContents) (w : OpenContents) → all ≡ ws ++ w ∷ [] → AllFit all → FitsMessage (open_contents_of w) × AllFit ws
one_less all ws w e h = let k : AllFit (ws ++ w ∷ []) = subst AllFit e h in (last_fits ws w k, front_fits ws w k)

pub false_true : {A : Type 0} → false ≡ true → A
false_true e = absurd (cc)

-- a test that fails
pub fails : {P : Type 0} (b : Bool) → b ≡ false → IsTrue b ↔ P → P → ⊥
fails b e h p = false_true (sym e ∙ h.1 p)

not_zero : (n : ℕ) → (suc n == 0) ≡ true → ⊥
not_zero n e = grind (arith, nat_tests)

pub no_octets : (o : List ℕ) (b : Bool) → b ≡ (length o == 0) → b ≡ true → o ≡ []
no_octets [] b e t = refl
no_octets (x ∷ o) b e t = absurd (not_zero (length o) (sym e ∙ t))

is_zero : (0 == 0) ≡ false → ⊥
is_zero e = grind (arith, nat_tests)

pub some_octets : (o : List ℕ) (b : Bool) → b ≡ (length o == 0) → b ≡ false → 0 < length o
some_octets [] b e t = absurd (is_zero (sym e ∙ t))
some_octets (x ∷ o) b e t = omega arith

pub as_many : (ws : List OpenContents) → length (map open_contents_of ws) ≡ length ws
as_many [] = refl
as_many (w ∷ ws) = ap suc (as_many ws)

pub some_of : {A : Type 0} (P : A → Type 0) (o : Option A) (x : A) → o ≡ Some x → IfSome o P → P x
some_of P o x e h = subst (λ q. IfSome q P) e h

pub none_of : {A : Type 0} (P : Type 0) (o : Option A) → o ≡ None → IfNone o P → P
none_of P o e h = subst (λ q. IfNone q P) e h
