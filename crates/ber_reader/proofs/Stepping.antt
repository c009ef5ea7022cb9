-- What the steps within the headers of a type's routine read: its components, its elements, its alternatives.
use Rattle.std.proofs.Common.{arith, ◌≡◌, ℕ, zero, suc, ◌+◌, Bool, true, false, List, [], ◌∷◌, ◌++◌, length, refl, sym, ap, subst, ◌∙◌, append_assoc}
use Rattle.std.specs.Prelude.{Option, Some, None, option_map, slice_get}
use Rattle.asn_base.specs.declared.tag.Tag.{Tag}
use Rattle.asn_base.specs.Schemas.{components}
use Rattle.asn_base.specs.Types.{TypeNumber, Kind, a_boolean, an_integer, an_enumerated, a_bit_string, a_named_bit_string, an_octet_string, a_null, an_object_identifier, a_relative_oid, a_utf8_string, a_restricted_string, a_sequence, a_set, a_sequence_of, a_set_of, a_choice, Component, Alternative, Resolved}
use Rattle.codec_code.specs.declared.step.RowKind.{RowKind}
use Rattle.codec_code.specs.declared.step.Field.{Field as Field'}
use Rattle.codec_code.specs.declared.step.Step.{Step}
use Rattle.codec_code.specs.Routines.{routine_at, routine_of, heads, row_of, body, ends, fields_from, ranked_from, rest_if, calls, field_of, id_of}
use Rattle.octet_answers.specs.Found.{field_in}
use Rattle.ber_reader.specs.Judged.{kind_at, element_of, alternatives}
use Rattle.ber_reader.specs.Stepped.{after_heads, element_in, called_in}

-- the result for a step, if there is one
abbrev pub then_in : {A : Type 0} → (Step → Option A) → Option Step → Option A
then_in f None = None
then_in f (Some p) = f p

-- ---- after the headers

heads_off : (tags : List Tag) (r : RowKind) (ss : List Step) → after_heads (heads tags r ++ ss) ≡ after_heads ss
heads_off [] r ss = refl
heads_off (g ∷ []) r ss = refl
heads_off (g ∷ f ∷ gs) r ss = heads_off (f ∷ gs) r ss

ends_stay : (n : ℕ) → after_heads (ends n) ≡ ends n
ends_stay zero = refl
ends_stay (suc n) = refl

rest_stays : (e : Bool) (n : ℕ) → after_heads (rest_if e ++ ends n) ≡ rest_if e ++ ends n
rest_stays true n = refl
rest_stays false n = ends_stay n

body_stays : (s : List Resolved) (k : Kind) (n : ℕ) → after_heads (body s k ++ ends n) ≡ body s k ++ ends n
body_stays s a_boolean n = refl
body_stays s (an_integer c) n = refl
body_stays s (an_enumerated r e m) n = refl
body_stays s (a_bit_string c) n = refl
body_stays s (a_named_bit_string bs) n = refl
body_stays s (an_octet_string c) n = refl
body_stays s a_null n = refl
body_stays s an_object_identifier n = refl
body_stays s a_relative_oid n = refl
body_stays s (a_utf8_string c) n = refl
body_stays s (a_restricted_string k codes c) n = refl
body_stays s (a_sequence e []) n = rest_stays e n
body_stays s (a_sequence e (c ∷ cs)) n = refl
body_stays s (a_set e []) n = rest_stays e n
body_stays s (a_set e (c ∷ cs)) n = refl
body_stays s (a_sequence_of c u) n = refl
body_stays s (a_set_of c u) n = refl
body_stays s (a_choice root e more) n = refl

inner_steps : (s : List Resolved) (r : Resolved) → after_heads (routine_of s r) ≡ body s r.kind ++ ends (length r.tags)
unfolding routine_of
inner_steps s r = heads_off r.tags (row_of r.kind) (body s r.kind ++ ends (length r.tags)) ∙ body_stays s r.kind (length r.tags)

-- what holds of the steps within the headers of each kind holds of those of a type
of_type : (P : Kind → List Step → Type 0) (s : List Resolved) (t : TypeNumber)
    → P a_null []
    → ((k : Kind) (n : ℕ) → P k (body s k ++ ends n))
    → P (kind_at s t) (after_heads (routine_at s t))
of_type P s t none each =
    elim (slice_get s t) as (λ o. P (elim o [ None ↦ a_null | Some r ↦ r.kind ]) (after_heads (elim o [ None ↦ [] | Some r ↦ routine_of s r ]))) [
      | None ↦ none
      | Some r ↦ subst (P r.kind) (sym (inner_steps s r)) (each r.kind (length r.tags))
    ]

-- ---- components

no_field_in_ends : (n i : ℕ) → then_in field_in (slice_get (ends n) i) ≡ None
no_field_in_ends zero i = refl
no_field_in_ends (suc n) zero = refl
no_field_in_ends (suc n) (suc i) = no_field_in_ends n i

no_field_in_rest : (e : Bool) (n i : ℕ) → then_in field_in (slice_get (rest_if e ++ ends n) i) ≡ None
no_field_in_rest false n i = no_field_in_ends n i
no_field_in_rest true n zero = refl
no_field_in_rest true n (suc i) = no_field_in_ends n i

no_field_in_calls : (as' : List Alternative) (n i : ℕ) → then_in field_in (slice_get (calls as' ++ ends n) i) ≡ None
no_field_in_calls [] n i = no_field_in_ends n i
no_field_in_calls (a ∷ as') n zero = refl
no_field_in_calls (a ∷ as') n (suc i) = no_field_in_calls as' n i

no_field_after : (p : Step) (n i : ℕ) → field_in p ≡ None → then_in field_in (slice_get (p ∷ ends n) i) ≡ None
no_field_after p n zero e = e
no_field_after p n (suc i) e = no_field_in_ends n i

fields_read : (cs : List Component) (j i : ℕ) (ss : List Step)
    → ((k : ℕ) → then_in field_in (slice_get ss k) ≡ None)
    → then_in field_in (slice_get (fields_from j cs ++ ss) i) ≡ option_map (field_of (j + i)) (slice_get cs i)
fields_read [] j i ss n = n i
fields_read (c ∷ cs) j zero ss n = let e : j ≡ j + zero = omega arith in ap (λ q. Some (field_of q c)) e
fields_read (c ∷ cs) j (suc i) ss n = let e : suc j + i ≡ j + suc i = omega arith in fields_read cs (suc j) i ss n ∙ ap (λ q. option_map (field_of q) (slice_get cs i)) e

ranked_read : (s : List Resolved) (all cs : List Component) (j i : ℕ) (ss : List Step)
    → ((k : ℕ) → then_in field_in (slice_get ss k) ≡ None)
    → then_in field_in (slice_get (ranked_from s all j cs ++ ss) i) ≡ option_map (field_of (j + i)) (slice_get cs i)
ranked_read s all [] j i ss n = n i
ranked_read s all (c ∷ cs) j zero ss n = let e : j ≡ j + zero = omega arith in ap (λ q. Some (field_of q c)) e
ranked_read s all (c ∷ cs) j (suc i) ss n = let e : suc j + i ≡ j + suc i = omega arith in ranked_read s all cs (suc j) i ss n ∙ ap (λ q. option_map (field_of q) (slice_get cs i)) e

from_zero : (i : ℕ) (o : Option Component) → option_map (field_of (0 + i)) o ≡ option_map (field_of i) o
from_zero i o = let e : 0 + i ≡ i = omega arith in ap (λ q. option_map (field_of q) o) e

component_read : (s : List Resolved) (i : ℕ) (k : Kind) (n : ℕ) → then_in field_in (slice_get (body s k ++ ends n) i) ≡ option_map (field_of i) (slice_get (components k) i)
component_read s i a_boolean n = no_field_after _ n i refl
component_read s i (an_integer c) n = no_field_after _ n i refl
component_read s i (an_enumerated r e m) n = no_field_after _ n i refl
component_read s i (a_bit_string c) n = no_field_after _ n i refl
component_read s i (a_named_bit_string bs) n = no_field_after _ n i refl
component_read s i (an_octet_string c) n = no_field_after _ n i refl
component_read s i a_null n = no_field_after _ n i refl
component_read s i an_object_identifier n = no_field_after _ n i refl
component_read s i a_relative_oid n = no_field_after _ n i refl
component_read s i (a_utf8_string c) n = no_field_after _ n i refl
component_read s i (a_restricted_string k codes c) n = no_field_after _ n i refl
component_read s i (a_sequence e cs) n =
    ap (λ q. then_in field_in (slice_get q i)) (append_assoc (fields_from 0 cs) (rest_if e) (ends n))
    ∙ fields_read cs 0 i (rest_if e ++ ends n) (no_field_in_rest e n)
    ∙ from_zero i (slice_get cs i)
component_read s i (a_set e cs) n =
    ap (λ q. then_in field_in (slice_get q i)) (append_assoc (ranked_from s cs 0 cs) (rest_if e) (ends n))
    ∙ ranked_read s cs cs 0 i (rest_if e ++ ends n) (no_field_in_rest e n)
    ∙ from_zero i (slice_get cs i)
component_read s i (a_sequence_of c u) n = no_field_after _ n i refl
component_read s i (a_set_of c u) n = no_field_after _ n i refl
component_read s zero (a_choice root e more) n = refl
component_read s (suc i) (a_choice root e more) n = no_field_in_calls (root ++ more) n i

pub component_in_place : (s : List Resolved) (t : TypeNumber) (i : ℕ) → then_in field_in (slice_get (after_heads (routine_at s t)) i) ≡ option_map (field_of i) (slice_get (components (kind_at s t)) i)
component_in_place s t i = of_type (λ k ss. then_in field_in (slice_get ss i) ≡ option_map (field_of i) (slice_get (components k) i)) s t refl (component_read s i)

-- ---- elements

no_element_in_ends : (n : ℕ) → then_in element_in (slice_get (ends n) 0) ≡ None
no_element_in_ends zero = refl
no_element_in_ends (suc n) = refl

no_element_in_rest : (e : Bool) (n : ℕ) → then_in element_in (slice_get (rest_if e ++ ends n) 0) ≡ None
no_element_in_rest true n = refl
no_element_in_rest false n = no_element_in_ends n

element_read : (s : List Resolved) (k : Kind) (n : ℕ) → then_in element_in (slice_get (body s k ++ ends n) 0) ≡ option_map id_of (element_of k)
element_read s a_boolean n = refl
element_read s (an_integer c) n = refl
element_read s (an_enumerated r e m) n = refl
element_read s (a_bit_string c) n = refl
element_read s (a_named_bit_string bs) n = refl
element_read s (an_octet_string c) n = refl
element_read s a_null n = refl
element_read s an_object_identifier n = refl
element_read s a_relative_oid n = refl
element_read s (a_utf8_string c) n = refl
element_read s (a_restricted_string k codes c) n = refl
element_read s (a_sequence e []) n = no_element_in_rest e n
element_read s (a_sequence e (c ∷ cs)) n = refl
element_read s (a_set e []) n = no_element_in_rest e n
element_read s (a_set e (c ∷ cs)) n = refl
element_read s (a_sequence_of c u) n = refl
element_read s (a_set_of c u) n = refl
element_read s (a_choice root e more) n = refl

pub element_in_place : (s : List Resolved) (t : TypeNumber) → then_in element_in (slice_get (after_heads (routine_at s t)) 0) ≡ option_map id_of (element_of (kind_at s t))
element_in_place s t = of_type (λ k ss. then_in element_in (slice_get ss 0) ≡ option_map id_of (element_of k)) s t refl (element_read s)

-- ---- alternatives

no_call_in_ends : (n i : ℕ) → then_in called_in (slice_get (ends n) i) ≡ None
no_call_in_ends zero i = refl
no_call_in_ends (suc n) zero = refl
no_call_in_ends (suc n) (suc i) = no_call_in_ends n i

no_call_in_rest : (e : Bool) (n i : ℕ) → then_in called_in (slice_get (rest_if e ++ ends n) i) ≡ None
no_call_in_rest false n i = no_call_in_ends n i
no_call_in_rest true n zero = refl
no_call_in_rest true n (suc i) = no_call_in_ends n i

no_call_in_fields : (cs : List Component) (j i : ℕ) (ss : List Step)
    → ((k : ℕ) → then_in called_in (slice_get ss k) ≡ None)
    → then_in called_in (slice_get (fields_from j cs ++ ss) i) ≡ None
no_call_in_fields [] j i ss n = n i
no_call_in_fields (c ∷ cs) j zero ss n = refl
no_call_in_fields (c ∷ cs) j (suc i) ss n = no_call_in_fields cs (suc j) i ss n

no_call_in_ranked : (s : List Resolved) (all cs : List Component) (j i : ℕ) (ss : List Step)
    → ((k : ℕ) → then_in called_in (slice_get ss k) ≡ None)
    → then_in called_in (slice_get (ranked_from s all j cs ++ ss) i) ≡ None
no_call_in_ranked s all [] j i ss n = n i
no_call_in_ranked s all (c ∷ cs) j zero ss n = refl
no_call_in_ranked s all (c ∷ cs) j (suc i) ss n = no_call_in_ranked s all cs (suc j) i ss n

calls_read : (as' : List Alternative) (n i : ℕ) → then_in called_in (slice_get (calls as' ++ ends n) i) ≡ option_map (λ a. id_of a.type) (slice_get as' i)
calls_read [] n i = no_call_in_ends n i
calls_read (a ∷ as') n zero = refl
calls_read (a ∷ as') n (suc i) = calls_read as' n i

alternative_read : (s : List Resolved) (i : ℕ) (k : Kind) (n : ℕ) → then_in called_in (slice_get (body s k ++ ends n) (suc i)) ≡ option_map (λ a. id_of a.type) (slice_get (alternatives k) i)
alternative_read s i a_boolean n = no_call_in_ends n i
alternative_read s i (an_integer c) n = no_call_in_ends n i
alternative_read s i (an_enumerated r e m) n = no_call_in_ends n i
alternative_read s i (a_bit_string c) n = no_call_in_ends n i
alternative_read s i (a_named_bit_string bs) n = no_call_in_ends n i
alternative_read s i (an_octet_string c) n = no_call_in_ends n i
alternative_read s i a_null n = no_call_in_ends n i
alternative_read s i an_object_identifier n = no_call_in_ends n i
alternative_read s i a_relative_oid n = no_call_in_ends n i
alternative_read s i (a_utf8_string c) n = no_call_in_ends n i
alternative_read s i (a_restricted_string k codes c) n = no_call_in_ends n i
alternative_read s i (a_sequence e cs) n =
    ap (λ q. then_in called_in (slice_get q (suc i))) (append_assoc (fields_from 0 cs) (rest_if e) (ends n))
    ∙ no_call_in_fields cs 0 (suc i) (rest_if e ++ ends n) (no_call_in_rest e n)
alternative_read s i (a_set e cs) n =
    ap (λ q. then_in called_in (slice_get q (suc i))) (append_assoc (ranked_from s cs 0 cs) (rest_if e) (ends n))
    ∙ no_call_in_ranked s cs cs 0 (suc i) (rest_if e ++ ends n) (no_call_in_rest e n)
alternative_read s i (a_sequence_of c u) n = no_call_in_ends n i
alternative_read s i (a_set_of c u) n = no_call_in_ends n i
alternative_read s i (a_choice root e more) n = calls_read (root ++ more) n i

pub alternative_in_place : (s : List Resolved) (t : TypeNumber) (i : ℕ) → then_in called_in (slice_get (after_heads (routine_at s t)) (suc i)) ≡ option_map (λ a. id_of a.type) (slice_get (alternatives (kind_at s t)) i)
alternative_in_place s t i = of_type (λ k ss. then_in called_in (slice_get ss (suc i)) ≡ option_map (λ a. id_of a.type) (slice_get (alternatives k) i)) s t refl (alternative_read s i)

-- ---- what is looked up

-- the result for a step that was looked up, or for no step
pub looked_up : {A : Type 0} (f : Step → Option A) {o q : Option Step} {ss us : List Step} (i : ℕ) {a r : Option A} → o ≡ q → o ≡ slice_get ss i → ss ≡ us → then_in f (slice_get us i) ≡ a → r ≡ then_in f q → r ≡ a
looked_up f i e g h t z = z ∙ ap (then_in f) (sym e ∙ g ∙ ap (λ q. slice_get q i) h) ∙ t

pub its_type : (i : ℕ) (f : Option Field') (o : Option Component) → f ≡ option_map (field_of i) o → option_map (λ x. x.ty) f ≡ option_map (λ c. id_of c.type) o
its_type i f None e = ap (option_map (λ (x : Field'). x.ty)) e
its_type i f (Some c) e = ap (option_map (λ (x : Field'). x.ty)) e
