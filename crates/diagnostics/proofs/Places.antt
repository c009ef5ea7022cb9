-- The line of octets or bits that can't be read.
use Rattle.std.proofs.Common.{◌≡◌, ℕ, List, [], ◌∷◌, ◌++◌, Bool, true, false, Result, Ok, Err, String, IfOk, codes}
use Rattle.std.proofs.Common.{arith, length, refl, string_bytes, sym, ◌∙◌}
use Rattle.std.specs.Prelude.{◌==◌, decimal}
use Rattle.std.specs.declared.alloc.Global.{Global}
use Rattle.std.specs.declared.alloc.AllocError.{AllocError}
use Rattle.std.proofs.lemmas.Bool.{eqb-true}
use Rattle.source_text.specs.Shown.{shown}
use Rattle.diagnostics.specs.Places.{IsShown, SaysReading}

pub whole : (unit : List ℕ) (n : ℕ) (path w : List ℕ) (b : Bool) (r : Result (String Global) AllocError)
    → b ≡ (length path == 0)
    → b ≡ true
    → IfOk r (λ s. string_bytes s ≡ codes ": at " ++ (unit ++ (codes " " ++ (decimal n ++ (codes ": " ++ w)))))
    → IfOk r (λ s. SaysReading unit n path (string_bytes s))
whole unit n [] w b (Ok s) e t h = record { part = shown []; shown = refl; words = w; is = h }
whole unit n (c ∷ path) w b (Ok s) e t h =
    absurd (let z = eqb-true (length (c ∷ path)) 0 (sym e ∙ t) in omega arith)
whole unit n path w b (Err f) e t h = tt

pub part : (unit : List ℕ) (n : ℕ) (path v w : List ℕ) (b : Bool) (r : Result (String Global) AllocError)
    → b ≡ (length path == 0)
    → b ≡ false
    → IsShown path v
    → IfOk r (λ s. string_bytes s
    ≡ codes ": at " ++ (unit ++ (codes " " ++ (decimal n ++ (codes ", in " ++ (v ++ (codes ": " ++ w)))))))
    → IfOk r (λ s. SaysReading unit n path (string_bytes s))
part unit n [] v w b (Ok s) e t is h = absurd (let z : true ≡ false = sym e ∙ t in cc)
part unit n (c ∷ path) v w b (Ok s) e t is h = record { part = v; shown = is; words = w; is = h }
part unit n path v w b (Err f) e t is h = tt
