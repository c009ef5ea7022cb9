-- A type's routine begins with the first tags of the type.
use Rattle.std.proofs.Common.{arith, ◌≡◌, ℕ, zero, suc, ◌<◌, true, false, List, [], ◌∷◌, ◌++◌, length, refl, sym, ap, subst, ◌∙◌}
use Rattle.std.specs.Prelude.{◌↔◌, Option, Some, None, slice_get, IsSomeAnd}
use Rattle.std.specs.List.{AllByRecursion}
use Rattle.asn_base.specs.declared.tag.Tag.{Tag}
use Rattle.asn_base.specs.Schemas.{IsSchema, HasTag}
use Rattle.asn_base.specs.Tags.{First, first_tag, first_of_choice}
use Rattle.asn_base.specs.Types.{Alternative, Kind, a_boolean, an_integer, an_enumerated, a_bit_string, a_named_bit_string, an_octet_string, a_null, an_object_identifier, a_relative_oid, a_utf8_string, a_restricted_string, a_sequence, a_set, a_sequence_of, a_set_of, a_choice, Resolved, Is}
use Rattle.asn_base.specs.declared.schema.TypeId.{TypeId}
use Rattle.codec_code.specs.declared.step.Step.{Step}
use Rattle.codec_code.specs.declared.step.Step.TheVariants.{Head, Leaf, Field, SetComponent, Each, EachSorted, Pick, Call, Rest, End}
use Rattle.asn_base.specs.Order.{outermost, tag_at}
use Rattle.codec_code.specs.Routines.{row_of, heads, ends, calls, body, routine_of, routine_at}
use Rattle.next_tags.specs.Firsts.{head_tag, Begins, begins, AnyBegins, this_begins, later_begins, BeginsWith}

none_some : {A : Type 0} {x : A} → None ≡ Some x → ⊥
none_some e = cc

is_steps : (s : List Resolved) (r : Resolved) → routine_of s r ≡ heads r.tags (row_of r.kind) ++ (body s r.kind ++ ends (length r.tags))
unfolding routine_of
is_steps s r = refl

headless : (s : List Resolved) (k : Kind) → head_tag (body s k ++ ends 0) ≡ None
headless s a_boolean = refl
headless s (an_integer c) = refl
headless s (an_enumerated root e more) = refl
headless s (a_bit_string c) = refl
headless s (a_named_bit_string bs) = refl
headless s (an_octet_string c) = refl
headless s a_null = refl
headless s an_object_identifier = refl
headless s a_relative_oid = refl
headless s (a_utf8_string c) = refl
headless s (a_restricted_string k codes c) = refl
headless s (a_sequence true []) = refl
headless s (a_sequence false []) = refl
headless s (a_sequence e (c ∷ cs)) = refl
headless s (a_set true []) = refl
headless s (a_set false []) = refl
headless s (a_set e (c ∷ cs)) = refl
headless s (a_sequence_of c u) = refl
headless s (a_set_of c u) = refl
headless s (a_choice root e more) = refl

heads_first : (s : List Resolved) (gs : List Tag) (k : Kind) → head_tag (heads gs (row_of k) ++ (body s k ++ ends (length gs))) ≡ outermost gs
heads_first s [] k = headless s k
heads_first s (g ∷ []) k = refl
heads_first s (g ∷ f ∷ gs) k = refl

head_at : (s : List Resolved) (o : Option Resolved) → head_tag (elim o [ None ↦ [] | Some r ↦ routine_of s r ]) ≡ elim o [ None ↦ None | Some r ↦ outermost r.tags ]
head_at s None = refl
head_at s (Some r) = ap head_tag (is_steps s r) ∙ heads_first s r.tags r.kind

pub head_outermost : (s : List Resolved) (t : ℕ) → head_tag (routine_at s t) ≡ tag_at s t
head_outermost s t = head_at s (slice_get s t)

routine_found : (s : List Resolved) (t : ℕ) (gs : List Tag) (k : Kind) → Is s t gs k → routine_at s t ≡ heads gs (row_of k) ++ (body s k ++ ends (length gs))
routine_found s t gs k i = ap (λ q. elim q [ None ↦ [] | Some r ↦ routine_of s r ]) i.found ∙ is_steps s (record { tags = gs; kind = k })

tags_found : (s : List Resolved) (t : ℕ) (gs : List Tag) (k : Kind) → Is s t gs k → tag_at s t ≡ outermost gs
tags_found s t gs k i = ap (λ q. elim q [ None ↦ None | Some r ↦ outermost r.tags ]) i.found

all_get : (P : Alternative → Type 0) (as' : List Alternative) (i : ℕ) (a : Alternative) → AllByRecursion P as' → slice_get as' i ≡ Some a → P a
all_get P [] i a all e = absurd (none_some e)
all_get P (b ∷ as') zero a all e = subst P (ap (λ q. elim q [ None ↦ b | Some z ↦ z ]) e) all.0
all_get P (b ∷ as') (suc i) a all e = all_get P as' i a all.1 e

first_tagged : (s : List Resolved) (t : ℕ) (g : Tag) → HasTag s t → First s t g → tag_at s t ≡ Some g
first_tagged s t g h (first_tag {ts = ts} {k = k} i) = tags_found s t (g ∷ ts) k i
first_tagged s t g h (first_of_choice i is get f) =
    let none : 0 < 0 = subst (λ q. IsSomeAnd q (λ r. 0 < length r.tags)) is.found h in
    absurd (omega arith)

any_of : (s : List Resolved) (g : Tag) (as' : List Alternative) (xs : List Step) (i : ℕ) (a : Alternative) → slice_get as' i ≡ Some a → tag_at s a.type ≡ Some g → AnyBegins s g (calls as' ++ xs)
any_of s g [] xs i a e h = absurd (none_some e)
any_of s g (b ∷ as') xs zero a e h =
    let f : b ≡ a = ap (λ q. elim q [ None ↦ b | Some z ↦ z ]) e in
    this_begins (begins (subst (λ q. tag_at s q.type ≡ Some g) (sym f) h))
any_of s g (b ∷ as') xs (suc i) a e h = later_begins (any_of s g as' xs i a e h)

record IsOne (s : List Resolved) (g : Tag) (as' : List Alternative) : Type 0 where
  index : ℕ
  alternative : Alternative
  is_at : slice_get as' index ≡ Some alternative
  tagged : tag_at s alternative.type ≡ Some g

begun_call : {s : List Resolved} {g : Tag} {t : TypeId} → Begins s g (Call t) → tag_at s t.index ≡ Some g
begun_call (begins e) = e

one_of : (s : List Resolved) (g : Tag) (as' : List Alternative) → AnyBegins s g (calls as' ++ []) → IsOne s g as'
one_of s g [] h = elim h [ ]
one_of s g (b ∷ as') (this_begins c) = record { index = 0; alternative = b; is_at = refl; tagged = begun_call c }
one_of s g (b ∷ as') (later_begins h) =
    let r = one_of s g as' h in
    record { index = suc r.index; alternative = r.alternative; is_at = r.is_at; tagged = r.tagged }

with_tags : (s : List Resolved) (t : ℕ) (g : Tag) (gs : List Tag) (k : Kind) → Is s t gs k → outermost gs ≡ Some g → First s t g
with_tags s t g [] k i e = absurd (none_some e)
with_tags s t g (f ∷ gs) k i e = subst (λ q. First s t q) (ap (λ q. elim q [ None ↦ f | Some z ↦ z ]) e) (first_tag i)

tagged_at : (s : List Resolved) (t : ℕ) (g : Tag) (o : Option Resolved) → slice_get s t ≡ o → elim o [ None ↦ None | Some r ↦ outermost r.tags ] ≡ Some g → First s t g
tagged_at s t g None e h = absurd (none_some h)
tagged_at s t g (Some r) e h = with_tags s t g r.tags r.kind (record { found = e }) h

tagged_first : (s : List Resolved) (t : ℕ) (g : Tag) → tag_at s t ≡ Some g → First s t g
tagged_first s t g h = tagged_at s t g (slice_get s t) refl h

-- what the routine of a type without a tag begins with
untagged : (s : List Resolved) (t : ℕ) (g : Tag) (k : Kind) → Is s t [] k → BeginsWith s g (body s k ++ ends 0) → First s t g
untagged s t g a_boolean i h = absurd h
untagged s t g (an_integer c) i h = absurd h
untagged s t g (an_enumerated root e more) i h = absurd h
untagged s t g (a_bit_string c) i h = absurd h
untagged s t g (a_named_bit_string bs) i h = absurd h
untagged s t g (an_octet_string c) i h = absurd h
untagged s t g a_null i h = absurd h
untagged s t g an_object_identifier i h = absurd h
untagged s t g a_relative_oid i h = absurd h
untagged s t g (a_utf8_string c) i h = absurd h
untagged s t g (a_restricted_string k codes c) i h = absurd h
untagged s t g (a_sequence true []) i h = absurd h
untagged s t g (a_sequence false []) i h = absurd h
untagged s t g (a_sequence e (c ∷ cs)) i h = absurd h
untagged s t g (a_set true []) i h = absurd h
untagged s t g (a_set false []) i h = absurd h
untagged s t g (a_set e (c ∷ cs)) i h = absurd h
untagged s t g (a_sequence_of c u) i h = absurd h
untagged s t g (a_set_of c u) i h = absurd h
untagged s t g (a_choice root e more) i h =
    let r = one_of s g (root ++ more) h in
    first_of_choice r.index i r.is_at (tagged_first s r.alternative.type g r.tagged)

begun_steps : (s : List Resolved) (t : ℕ) (g : Tag) (gs : List Tag) (k : Kind) → Is s t gs k → BeginsWith s g (heads gs (row_of k) ++ (body s k ++ ends (length gs))) → First s t g
begun_steps s t g [] k i h = untagged s t g k i h
begun_steps s t g (f ∷ []) k i h = subst (λ q. First s t q) h (first_tag i)
begun_steps s t g (f ∷ e ∷ gs) k i h = subst (λ q. First s t q) h (first_tag i)

begun_at : (s : List Resolved) (t : ℕ) (g : Tag) (o : Option Resolved) → slice_get s t ≡ o → BeginsWith s g (elim o [ None ↦ [] | Some r ↦ routine_of s r ]) → First s t g
begun_at s t g None e h = absurd h
begun_at s t g (Some r) e h = begun_steps s t g r.tags r.kind (record { found = e }) (subst (BeginsWith s g) (is_steps s r) h)

pub begun_first : (s : List Resolved) (t : ℕ) (g : Tag) → BeginsWith s g (routine_at s t) → First s t g
begun_first s t g h = begun_at s t g (slice_get s t) refl h

tagged_steps : (s : List Resolved) (g : Tag) (gs : List Tag) (k : Kind) → BeginsWith s g (heads (g ∷ gs) (row_of k) ++ (body s k ++ ends (length (g ∷ gs))))
tagged_steps s g [] k = refl
tagged_steps s g (f ∷ gs) k = refl

pub first_begun : (s : List Resolved) (t : ℕ) (g : Tag) → IsSchema s → First s t g → BeginsWith s g (routine_at s t)
first_begun s t g sc (first_tag {ts = ts} {k = k} i) = subst (BeginsWith s g) (sym (routine_found s t (g ∷ ts) k i)) (tagged_steps s g ts k)
first_begun s t g sc (first_of_choice {e = e} {root = root} {more = more} {a = a} n i get f) =
    let has : HasTag s a.type = all_get (λ a. HasTag s a.type) (root ++ more) n a (sc.sound t [] (a_choice root e more) i).types get in
    subst (BeginsWith s g) (sym (routine_found s t [] (a_choice root e more) i)) (any_of s g (root ++ more) [] n a get (first_tagged s a.type g has f))

tag_same : {g f : Tag} → Some g ≡ Some f → g ≡ f
tag_same e = cc

-- steps that begin with a header begin with its tag alone
pub headed : (s : List Resolved) (ss : List Step) (g f : Tag) → head_tag ss ≡ Some f → BeginsWith s g ss ↔ (f ≡ g)
headed s [] g f e = absurd (none_some e)
headed s (Head h ∷ ss) g f e = let t = tag_same e in (λ x. sym t ∙ x, λ y. t ∙ y)
headed s (Leaf k ∷ ss) g f e = absurd (none_some e)
headed s (Field p ∷ ss) g f e = absurd (none_some e)
headed s (SetComponent p r ∷ ss) g f e = absurd (none_some e)
headed s (Each t ∷ ss) g f e = absurd (none_some e)
headed s (EachSorted t ∷ ss) g f e = absurd (none_some e)
headed s (Pick n ∷ ss) g f e = absurd (none_some e)
headed s (Call t ∷ ss) g f e = absurd (none_some e)
headed s (Rest ∷ ss) g f e = absurd (none_some e)
headed s (End ∷ ss) g f e = absurd (none_some e)
