-- The text and the octet of a fault.
use Rattle.std.proofs.Common.{◌≡◌, ℕ, ◌+◌, ◌<◌, length, List, [], Bool, true, false, Option, None}
use Rattle.std.proofs.Common.{Some, Result, Ok, Err, IfOk, Bor, Vec, ap, sym, ◌∙◌, subst}
use Rattle.std.proofs.lemmas.Option.{slice_get_within}
use Rattle.std.specs.Prelude.{MatchOption, option_map}
use Rattle.std.specs.declared.alloc.Global.{Global}
use Rattle.std.specs.declared.alloc.AllocError.{AllocError}
use Rattle.messages.specs.declared.fault.Fault.{Fault}
use Rattle.source_text.specs.Modules.{HasNoText, IsFirstText}
use Rattle.diagnostics.specs.Locations.{is_second_module, module_of, octet_of, text_of}
use Rattle.diagnostics.specs.Places.{IsModuleText, IsOctet, IsTokenStart, or_first, text_at}
use Rattle.diagnostics.specs.Places.{again_in_first, first_text, no_text, only_text, second_text}
use Rattle.diagnostics.specs.Reports.{IsTextOf}
use Rattle.diagnostics.specs.Reports.{named, nowhere, numbered}

-- ---- octets

pub at_token : (x : List ℕ) (token octet : Option ℕ) (p n : ℕ)
    → token ≡ Some p
    → IsTokenStart x p n
    → IsOctet x token octet (Some n)
at_token x token octet p n e h = subst (λ t. IsOctet x t octet (Some n)) (sym e) h

pub at_octet : (x : List ℕ) (token octet r : Option ℕ) → token ≡ None → r ≡ octet → IsOctet x token octet r
at_octet x token octet r e h = subst (λ t. IsOctet x t octet r) (sym e) h

-- ---- texts of modules

-- what a search for the text of a module from number n on found
abbrev Search : List (Vec ℕ Global) → (n : ℕ) → List ℕ → Option ℕ → Type 0
Search xs n name o = MatchOption o (HasNoText xs n name) (IsFirstText xs n name)

pub module_none : (xs : List (Vec ℕ Global)) (name : List ℕ) (at : ℕ) (twice : Bool) (o : Option ℕ)
    → Search xs 0 name o
    → o ≡ None
    → IsModuleText xs name at twice None
module_none xs name at twice o h e = no_text (subst (λ p. Search xs 0 name p) e h)

pub module_first : (xs : List (Vec ℕ Global)) (name : List ℕ) (at : ℕ) (twice : Bool) (o : Option ℕ) (k : ℕ)
    → Search xs 0 name o
    → o ≡ Some k
    → twice ≡ false
    → IsModuleText xs name at twice (Some k)
module_first xs name at twice o k h e t =
    subst (λ b. IsModuleText xs name at b (Some k)) (sym t) (first_text (subst (λ p. Search xs 0 name p) e h))

pub module_there : (xs : List (Vec ℕ Global)) (name : List ℕ) (o : Option ℕ) (k : ℕ)
    → Search xs 0 name o
    → o ≡ Some k
    → IsFirstText xs 0 name k
module_there xs name o k h e = subst (λ p. Search xs 0 name p) e h

pub module_twice : (xs : List (Vec ℕ Global)) (name : List ℕ) (at : ℕ) (twice : Bool) (r : Result (Option ℕ) AllocError)
    → twice ≡ true
    → IfOk r (λ o. IsModuleText xs name at true o)
    → IfOk r (λ o. IsModuleText xs name at twice o)
module_twice xs name at twice (Ok o) t h = subst (λ b. IsModuleText xs name at b o) (sym t) h
module_twice xs name at twice (Err z) t h = tt

pub number_within : (xs : List (Vec ℕ Global)) (name : List ℕ) (n k : ℕ) → IsFirstText xs n name k → k < length xs
number_within xs name n k h = slice_get_within xs k h.text h.at

-- the second text that a search found
pub second_there : (xs : List (Vec ℕ Global)) (name : List ℕ) (j after : ℕ) (o : Option ℕ) (k : ℕ)
    → after ≡ j + 1
    → Search xs after name o
    → o ≡ Some k
    → IsFirstText xs (j + 1) name k
second_there xs name j after o k a g e =
    let is : IsFirstText xs after name k = subst (λ p. Search xs after name p) e g in
    subst (λ n. IsFirstText xs n name k) a is

-- the text of a module has one place for its first token
pub one_start : (xs : List (Vec ℕ Global)) (n : ℕ) (name : List ℕ) (k a b : ℕ)
    → IsFirstText xs n name k
    → IsTokenStart (text_at xs k) 0 a
    → IsTokenStart (text_at xs k) 0 b
    → a ≡ b
one_start xs n name k a b h f g =
    let here : text_at xs k ≡ h.text.items = ap (λ o. elim o [ None ↦ [] | Some v ↦ v.items ]) h.at in
    let c : IsTokenStart h.text.items 0 a = subst (λ x. IsTokenStart x 0 a) here f in
    let d : IsTokenStart h.text.items 0 b = subst (λ x. IsTokenStart x 0 b) here g in
    c.tokens h.is.tokens h.is.is h.is.within ∙ sym (d.tokens h.is.tokens h.is.is h.is.within)

pub module_second : (xs : List (Vec ℕ Global)) (name : List ℕ) (j k start at : ℕ) (x : List ℕ)
    → IsFirstText xs 0 name j
    → IsFirstText xs (j + 1) name k
    → x ≡ text_at xs k
    → IsTokenStart x 0 start
    → start ≡ at
    → IsModuleText xs name at true (Some k)
module_second xs name j k start at x h g q s e =
    second_text j h g (subst (λ n. IsTokenStart (text_at xs k) 0 n) e (subst (λ y. IsTokenStart y 0 start) q s))

pub module_again : (xs : List (Vec ℕ Global)) (name : List ℕ) (j k start at : ℕ) (x : List ℕ)
    → IsFirstText xs 0 name j
    → IsFirstText xs (j + 1) name k
    → x ≡ text_at xs k
    → IsTokenStart x 0 start
    → (start ≡ at → ⊥)
    → IsModuleText xs name at true (Some j)
module_again xs name j k start at x h g q s n =
    again_in_first k h g
    (λ t. n (one_start xs (j + 1) name k start at g (subst (λ y. IsTokenStart y 0 start) q s) t))

pub module_only : (xs : List (Vec ℕ Global)) (name : List ℕ) (at k after : ℕ) (o : Option ℕ)
    → IsFirstText xs 0 name k
    → after ≡ k + 1
    → Search xs after name o
    → o ≡ None
    → IsModuleText xs name at true (Some k)
module_only xs name at k after o h a g e =
    let is : HasNoText xs after name = subst (λ p. Search xs after name p) e g in
    only_text h (subst (λ n. HasNoText xs n name) a is)

-- ---- the text of a fault

pub by_number : (xs : List (Vec ℕ Global)) (f : Fault) (r : Option ℕ) (k : ℕ)
    → r ≡ text_of f
    → r ≡ Some k
    → IsTextOf xs f (Some k)
by_number xs f r k e h = numbered (sym e ∙ h)

pub by_module : (xs : List (Vec ℕ Global)) (f : Fault) (r : Option ℕ) (m : Option (Bor (List ℕ))) (b : Bor (List ℕ))
    (octet : Option ℕ) (at : ℕ) (twice : Bool) (found : Result (Option ℕ) AllocError)
    → r ≡ text_of f
    → r ≡ None
    → option_map (λ s. s.now) m ≡ module_of f
    → m ≡ Some b
    → octet ≡ octet_of f
    → at ≡ or_first octet
    → twice ≡ is_second_module f
    → IfOk found (λ o. IsModuleText xs b.now at twice o)
    → IfOk found (λ o. IsTextOf xs f o)
by_module xs f r m b octet at twice (Ok o) e h g i p q t is =
    named b.now (sym e ∙ h) (sym g ∙ ap (λ v. option_map (λ s. s.now) v) i)
    (subst (λ n. IsModuleText xs b.now n (is_second_module f) o) (q ∙ ap or_first p)
    (subst (λ v. IsModuleText xs b.now at v o) t is))
by_module xs f r m b octet at twice (Err z) e h g i p q t is = tt

pub by_none : (xs : List (Vec ℕ Global)) (f : Fault) (r : Option ℕ) (m : Option (Bor (List ℕ)))
    → r ≡ text_of f
    → r ≡ None
    → option_map (λ s. s.now) m ≡ module_of f
    → m ≡ None
    → IsTextOf xs f None
by_none xs f r m e h g i = nowhere (sym e ∙ h) (sym g ∙ ap (λ v. option_map (λ s. s.now) v) i)
