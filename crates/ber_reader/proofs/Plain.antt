-- Truths, options, lists and results, whatever is in them.
use Rattle.std.proofs.Common.{◌≡◌, Bool, true, false, List, [], ◌∷◌, IsTrue, ◌↔◌, sym, ◌∙◌}
use Rattle.std.specs.Prelude.{Some, None, Result, Ok, Err, IfOk, OnOk}

pub false_true : {A : Type 0} → false ≡ true → A
false_true e = absurd (cc)

-- a test that fails
pub fails : {P Q : Type 0} (b : Bool) → b ≡ false → IsTrue b ↔ P → P → Q
fails b e h p = false_true (sym e ∙ h.1 p)

-- a test that holds
pub holds : {P : Type 0} (b : Bool) → b ≡ true → IsTrue b ↔ P → P
holds b e h = h.0 e

pub none_some : {A B : Type 0} {x : A} → None ≡ Some x → B
none_some e = absurd (cc)

pub some_same : {A : Type 0} {x y : A} → Some x ≡ Some y → x ≡ y
some_same e = cc

pub cons_nil : {A B : Type 0} {x : A} {xs : List A} → x ∷ xs ≡ [] → B
cons_nil e = absurd (cc)

abbrev pub front_or : {A : Type 0} → A → List A → A
front_or d [] = d
front_or d (x ∷ xs) = x

abbrev pub rest_of : {A : Type 0} → List A → List A
rest_of [] = []
rest_of (x ∷ xs) = xs

pub on_ok : {A E : Type 0} {P Q : Type 0} (q : Result A E) → (P → Q) → OnOk q P → OnOk q Q
on_ok (Ok a) f p = f p
on_ok (Err e) f p = p

pub if_ok : {A E : Type 0} {P Q : A → Type 0} (r : Result A E) → ((a : A) → P a → Q a) → IfOk r P → IfOk r Q
if_ok (Ok a) f p = f a p
if_ok (Err e) f p = p
