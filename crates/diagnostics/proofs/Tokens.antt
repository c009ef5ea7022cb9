-- Where tokens of a text begin, and how they are shown.
use Rattle.std.proofs.Common.{◌≡◌, ◌⊎◌, inl, inr, ℕ, ◌≤◌, List, [], Option, None, Some, IsUtf8, get_or, length, refl}
use Rattle.std.proofs.Common.{Result, Ok, Err, String, IfOk, slice_get, string_bytes, sym, ap, ◌∙◌, subst, arith}
use Rattle.std.specs.Prelude.{slice_range}
use Rattle.std.specs.List.{All}
use Rattle.std.specs.declared.alloc.Global.{Global}
use Rattle.std.specs.declared.alloc.AllocError.{AllocError}
use Rattle.std.proofs.lemmas.List.Elements.{All-get_or}
use Rattle.std.proofs.lemmas.Option.{get_or_from_slice_get, slice_get_within}
use Rattle.text.specs.Text.{IsText, IsTokenOf, IsWithinLimits, token_octets}
use Rattle.text.specs.declared.token.Token.{Token}
use Rattle.source_text.specs.Modules.{token_start}
use Rattle.source_text.specs.Shown.{shown}
use Rattle.diagnostics.specs.Places.{IsConstruct, IsShown, IsTokenStart, construct_words, spelled_at}

known : (x : List ℕ) (ts : List Token) (p : ℕ) (t : Token)
    → All (IsTokenOf x) ts
    → slice_get ts p ≡ Some t
    → IsTokenOf x t
known x ts p t all at =
    let here : IsTokenOf x (get_or ts p t) = All-get_or (IsTokenOf x) ts p t (slice_get_within ts p t at) all in
    subst (IsTokenOf x) (get_or_from_slice_get ts p t t at) here

-- ---- where a token begins

start_of : (x : List ℕ) (o : Option Token) (n : ℕ)
    → ((t : Token) → o ≡ Some t → n ≡ t.span.start)
    → (o ≡ None → n ≡ length x)
    → n ≡ (elim o [ None ↦ length x | Some t ↦ t.span.start ])
start_of x None n there after = after refl
start_of x (Some t) n there after = there t refl

pub start_in : (x : List ℕ) (us : List Token) (p n : ℕ)
    → ((ts : List Token) → IsText x ts → IsWithinLimits x ts → us ≡ ts)
    → ((us ≡ []) ⊎ (IsText x us × IsWithinLimits x us))
    → ((t : Token) → slice_get us p ≡ Some t → n ≡ t.span.start)
    → (slice_get us p ≡ None → n ≡ length x)
    → IsTokenStart x p n
start_in x us p n only others there after = record {
  tokens = λ ts is within. subst (λ vs. n ≡ token_start x vs p) (only ts is within)
      (start_of x (slice_get us p) n there after);
  none = λ no. elim others [
    | inl e ↦ after (ap (λ vs. slice_get vs p) e)
    | inr h ↦ absurd (no us h.0 h.1)
  ];
}

-- ---- how a token is shown

spelled_of : (x : List ℕ) (o : Option Token) (w : List ℕ)
    → ((t : Token) → o ≡ Some t → w ≡ token_octets x t)
    → (o ≡ None → w ≡ [])
    → w ≡ (elim o [ None ↦ [] | Some t ↦ token_octets x t ])
spelled_of x None w there after = after refl
spelled_of x (Some t) w there after = there t refl

if_shown : (w v : List ℕ) (r : Result (String Global) AllocError)
    → w ≡ v
    → IfOk r (λ s. string_bytes s ≡ shown w)
    → IfOk r (λ s. IsShown v (string_bytes s))
if_shown w v (Ok s) e h = subst (λ u. IsShown u (string_bytes s)) e h
if_shown w v (Err f) e h = tt

pub shown_in : (x : List ℕ) (us : List Token) (p : ℕ) (w : List ℕ) (r : Result (String Global) AllocError)
    → ((ts : List Token) → IsText x ts → IsWithinLimits x ts → us ≡ ts)
    → ((ts : List Token) → IsText x ts → IsWithinLimits x ts → All (IsTokenOf x) ts)
    → ((t : Token) → slice_get us p ≡ Some t → t.span.start ≤ t.span.end → t.span.end ≤ length x
    → IsUtf8 (slice_range x t.span.start t.span.end) → w ≡ slice_range x t.span.start t.span.end)
    → (slice_get us p ≡ None → w ≡ [])
    → IfOk r (λ s. string_bytes s ≡ shown w)
    → (ts : List Token)
    → IsText x ts
    → IsWithinLimits x ts
    → IfOk r (λ s. IsShown (spelled_at x ts p) (string_bytes s))
shown_in x us p w r only all there after h ts is within =
    let e : us ≡ ts = only ts is within in
    let each : All (IsTokenOf x) us = subst (All (IsTokenOf x)) (sym e) (all ts is within) in
    let spelled : w ≡ spelled_at x us p =
    spelled_of x (slice_get us p) w
    (λ t at. let k = known x us p t each at in
    there t at (let s = k.span.some in omega arith) k.span.within k.utf8)
    after
    in
    if_shown w (spelled_at x ts p) r (spelled ∙ ap (λ vs. spelled_at x vs p) e) h

-- ---- constructs that are left out

pub left_out_there : (x : List ℕ) (token : Option ℕ) (p : ℕ) (v : List ℕ) (r : Result (String Global) AllocError)
    → token ≡ Some p
    → ((ts : List Token) → IsText x ts → IsWithinLimits x ts → IsShown (spelled_at x ts p) v)
    → IfOk r (λ s. string_bytes s ≡ construct_words v)
    → IfOk r (λ s. IsConstruct x token (string_bytes s))
left_out_there x token p v (Ok s) e h g =
    subst (λ t. IsConstruct x t (string_bytes s)) (sym e)
    (λ ts is within. g ∙ ap construct_words (h ts is within))
left_out_there x token p v (Err f) e h g = tt

pub none_left_out : (x : List ℕ) (token : Option ℕ) (w : List ℕ) → token ≡ None → w ≡ [] → IsConstruct x token w
none_left_out x token w e h = subst (λ t. IsConstruct x t w) (sym e) h
