-- Parts of texts, one after another.
use Rattle.std.proofs.Common.{◌≡◌, ℕ, zero, suc, ◌+◌, ◌-◌, List, [], ◌∷◌, ◌++◌, length, take, drop, refl, sym, ap, subst, ◌∙◌, arith, append_assoc, length-append}
use Rattle.std.specs.Prelude.{slice_range}
use Rattle.std.specs.List.{AllByRecursion}
use Rattle.std.proofs.Math.Seq.{drop-nil, drop-append_seam, take-append_seam}
use Rattle.std.proofs.lemmas.List.{get_or-drop, map-append}
use Rattle.text.specs.declared.token.Token.{Token}
use Rattle.text.specs.declared.token.TokenKind.{TokenKind}
use Rattle.text.specs.Octets.{octet_at}
use Rattle.text.specs.Items.{IsTokenOfKind}
use Rattle.text.specs.Text.{HoldsTokens, holds_none, holds_gap, holds_token, IsNoGreatNumber}
use Rattle.grammar.specs.Lexeme.{Lexeme, lexeme_at, lexemes}
use Rattle.laws_print.specs.Lexing.{Lexes, Speaks}

-- ---- what is at a place

pub octet_on : (x y : List ℕ) (i k : ℕ) → drop i x ≡ y → octet_at x (i + k) ≡ octet_at y k
octet_on x y i k e = sym (get_or-drop i x k 0) ∙ ap (λ (l : List ℕ). octet_at l k) e

pub drop_more : (i k : ℕ) (x : List ℕ) → drop (i + k) x ≡ drop k (drop i x)
drop_more zero k x = let n : 0 + k ≡ k = omega arith in ap (λ (m : ℕ). drop m x) n
drop_more (suc i) k [] = drop-nil (suc i + k) ∙ sym (drop-nil k)
drop_more (suc i) k (c ∷ x) = let n : suc i + k ≡ suc (i + k) = omega arith in ap (λ (m : ℕ). drop m (c ∷ x)) n ∙ drop_more i k x

pub follows : (x w z : List ℕ) (i : ℕ) → drop i x ≡ w ++ z → drop (i + length w) x ≡ z
follows x w z i e = drop_more i (length w) x ∙ ap (drop (length w)) e ∙ drop-append_seam w z

pub standing : (x w z : List ℕ) (i : ℕ) → drop i x ≡ w ++ z → slice_range x i (i + length w) ≡ w
standing x w z i e =
    let n : (i + length w) - i ≡ length w = omega arith in
    ap (λ (k : ℕ). take k (drop i x)) n ∙ ap (take (length w)) e ∙ take-append_seam w z

-- ---- one after another

holds_joined : (x : List ℕ) {i j k : ℕ} {ts us : List Token} → HoldsTokens x i j ts → HoldsTokens x j k us → HoldsTokens x i k (ts ++ us)
holds_joined x {i} {j} {k} {ts} {us} (holds_none e) h = subst (λ (i : ℕ). HoldsTokens x i k us) (sym e) h
holds_joined x (holds_gap m g a) h = holds_gap m g (holds_joined x a h)
holds_joined x (holds_token t b a r) h = holds_token t b a (holds_joined x r h)

small_joined : (x : List ℕ) (ts us : List Token) → AllByRecursion (IsNoGreatNumber x) ts → AllByRecursion (IsNoGreatNumber x) us → AllByRecursion (IsNoGreatNumber x) (ts ++ us)
small_joined x [] us a b = b
small_joined x (t ∷ ts) us a b = (a.0, small_joined x ts us a.1 b)

pub lexes_joined : (x : List ℕ) (i j k : ℕ) (ls ms : List Lexeme) → Lexes x i j ls → Lexes x j k ms → Lexes x i k (ls ++ ms)
lexes_joined x i j k ls ms a b = record {
  tokens = a.tokens ++ b.tokens;
  holds = holds_joined x a.holds b.holds;
  says = map-append _ a.tokens b.tokens ∙ ap (λ (l : List Lexeme). l ++ lexemes x b.tokens) a.says ∙ ap (λ (l : List Lexeme). ls ++ l) b.says;
  small = small_joined x a.tokens b.tokens a.small b.small;
}

pub nothing_said : (P : List ℕ → Type 0) → Speaks P [] []
nothing_said P x z i e p = record { tokens = []; holds = holds_none (omega arith); says = refl; small = tt }

-- what follows the first part fits, whatever follows the second one
pub joined : (P Q : List ℕ → Type 0) (w v : List ℕ) (ls ms : List Lexeme) → Speaks P w ls → Speaks Q v ms → ((z : List ℕ) → Q z → P (v ++ z)) → Speaks Q (w ++ v) (ls ++ ms)
joined P Q w v ls ms a b fits x z i e q =
    let f : drop i x ≡ w ++ (v ++ z) = e ∙ append_assoc w v z in
    let n : (i + length w) + length v ≡ i + length (w ++ v) = omega (arith, length-append w v) in
    let r = b x z (i + length w) (follows x w (v ++ z) i f) q in
    lexes_joined x i (i + length w) (i + length (w ++ v)) ls ms (a x (v ++ z) i f (fits z q)) (subst (λ (k : ℕ). Lexes x (i + length w) k ms) n r)

-- ---- one token

pub record IsOne (x : List ℕ) (k : TokenKind) (l : Lexeme) (i j : ℕ) : Type 0 where
  pub token : IsTokenOfKind x k i j
  pub says : lexeme_at x k i j ≡ l
  pub small : IsNoGreatNumber x (record { kind = k; span = record { start = i; end = j } })

pub one : (P : List ℕ → Type 0) (w : List ℕ) (k : TokenKind) (l : Lexeme) → ((x z : List ℕ) (i : ℕ) → drop i x ≡ w ++ z → P z → IsOne x k l i (i + length w)) → Speaks P w (l ∷ [])
one P w k l each x z i e p =
    let o = each x z i e p in
    record {
      tokens = record { kind = k; span = record { start = i; end = i + length w } } ∷ [];
      holds = holds_token _ refl o.token (holds_none refl);
      says = ap (λ (l : Lexeme). l ∷ []) o.says;
      small = (o.small, tt);
    }
