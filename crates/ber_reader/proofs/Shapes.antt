-- What node stands for a value, by its kind and by its routine.
use Rattle.std.proofs.Common.{arith, ◌≡◌, ℕ, zero, suc, ◌+◌, Bool, true, false, List, [], ◌∷◌, ◌++◌, length, refl, ap, ◌∙◌, append_assoc}
use Rattle.std.specs.Prelude.{Some, None}
use Rattle.asn_base.specs.declared.tag.Tag.{Tag}
use Rattle.asn_base.specs.Types.{TypeNumber, Kind, a_boolean, an_integer, an_enumerated, a_bit_string, a_named_bit_string, an_octet_string, a_null, an_object_identifier, a_relative_oid, a_utf8_string, a_restricted_string, a_sequence, a_set, a_sequence_of, a_set_of, a_choice, Component, Resolved, Is}
use Rattle.asn_base.specs.Tags.{IsChoice}
use Rattle.encodings.specs.declared.leaf_kind.LeafKind.{LeafKind}
use Rattle.codec_code.specs.declared.step.RowKind.{RowKind}
use Rattle.codec_code.specs.declared.step.Step.{Step}
use Rattle.codec_code.specs.declared.step.Step.TheVariants.{Leaf}
use Rattle.codec_code.specs.Routines.{routine_at, routine_of, heads, row_of, body, ends, fields_from, ranked_from, rest_if}
use Rattle.ber_source.specs.declared.shape.Shape.TheVariants as shapes
use Rattle.ber_source.specs.Shapes.{shape_of, shape_in}
use Rattle.codec_code.specs.Summaries.{fields_in}

routine_is : (s : List Resolved) (t : TypeNumber) (tags : List Tag) (k : Kind) → Is s t tags k → routine_at s t ≡ heads tags (row_of k) ++ (body s k ++ ends (length tags))
unfolding routine_of
routine_is s t tags k i = ap (λ o. elim o [ None ↦ [] | Some r ↦ routine_of s r ]) i.found

after_heads : (tags : List Tag) (r : RowKind) (ss : List Step) → shape_in (heads tags r ++ ss) ≡ shape_in ss
after_heads [] r ss = refl
after_heads (g ∷ []) r ss = refl
after_heads (g ∷ f ∷ gs) r ss = after_heads (f ∷ gs) r ss

no_ends : (n : ℕ) → fields_in (ends n) ≡ 0
no_ends zero = refl
no_ends (suc n) = no_ends n

no_rest : (e : Bool) (n : ℕ) → fields_in (rest_if e ++ ends n) ≡ 0
no_rest true n = no_ends n
no_rest false n = no_ends n

fields_of : (i : ℕ) (cs : List Component) (ss : List Step) → fields_in (fields_from i cs ++ ss) ≡ length cs + fields_in ss
fields_of i [] ss = let e : fields_in ss ≡ 0 + fields_in ss = omega arith in e
fields_of i (c ∷ cs) ss = let r = fields_of (suc i) cs ss in omega arith

ranked_of : (s : List Resolved) (all : List Component) (i : ℕ) (cs : List Component) (ss : List Step) → fields_in (ranked_from s all i cs ++ ss) ≡ length cs + fields_in ss
ranked_of s all i [] ss = let e : fields_in ss ≡ 0 + fields_in ss = omega arith in e
ranked_of s all i (c ∷ cs) ss = let r = ranked_of s all (suc i) cs ss in omega arith

nothing_in : (e : Bool) (n : ℕ) → shape_in (rest_if e ++ ends (suc n)) ≡ shapes.Row 0
nothing_in true n = refl
nothing_in false n = refl

sequence_shape : (s : List Resolved) (e : Bool) (cs : List Component) (n : ℕ) → shape_in ((fields_from 0 cs ++ rest_if e) ++ ends (suc n)) ≡ shapes.Row (length cs)
sequence_shape s e [] n = nothing_in e n
sequence_shape s e (c ∷ cs) n =
    ap (λ q. shapes.Row (suc (fields_in q))) (append_assoc (fields_from 1 cs) (rest_if e) (ends (suc n)))
    ∙ ap shapes.Row (let a = fields_of 1 cs (rest_if e ++ ends (suc n)) in let b = no_rest e (suc n) in omega arith)

set_shape : (s : List Resolved) (all : List Component) (e : Bool) (cs : List Component) (n : ℕ) → shape_in ((ranked_from s all 0 cs ++ rest_if e) ++ ends (suc n)) ≡ shapes.Row (length cs)
set_shape s all e [] n = nothing_in e n
set_shape s all e (c ∷ cs) n =
    ap (λ q. shapes.Row (suc (fields_in q))) (append_assoc (ranked_from s all 1 cs) (rest_if e) (ends (suc n)))
    ∙ ap shapes.Row (let a = ranked_of s all 1 cs (rest_if e ++ ends (suc n)) in let b = no_rest e (suc n) in omega arith)

-- the shape after at least one header
tagged_shape : (s : List Resolved) (k : Kind) (n : ℕ) → shape_in (body s k ++ ends (suc n)) ≡ shape_of k
tagged_shape s a_boolean n = refl
tagged_shape s (an_integer c) n = refl
tagged_shape s (an_enumerated r e m) n = refl
tagged_shape s (a_bit_string c) n = refl
tagged_shape s (a_named_bit_string bs) n = refl
tagged_shape s (an_octet_string c) n = refl
tagged_shape s a_null n = refl
tagged_shape s an_object_identifier n = refl
tagged_shape s a_relative_oid n = refl
tagged_shape s (a_utf8_string c) n = refl
tagged_shape s (a_restricted_string k codes c) n = refl
tagged_shape s (a_sequence e cs) n = sequence_shape s e cs n
tagged_shape s (a_set e cs) n = set_shape s cs e cs n
tagged_shape s (a_sequence_of c u) n = refl
tagged_shape s (a_set_of c u) n = refl
tagged_shape s (a_choice root e more) n = refl

body_shape : (s : List Resolved) (tags : List Tag) (k : Kind) → (tags ≡ [] → IsChoice k) → shape_in (body s k ++ ends (length tags)) ≡ shape_of k
body_shape s (g ∷ gs) k c = tagged_shape s k (length gs)
body_shape s [] k c = by k (c refl)
  where
    by : (k : Kind) → IsChoice k → shape_in (body s k ++ []) ≡ shape_of k
    by a_boolean i = absurd i
    by (an_integer c) i = absurd i
    by (an_enumerated r e m) i = absurd i
    by (a_bit_string c) i = absurd i
    by (a_named_bit_string bs) i = absurd i
    by (an_octet_string c) i = absurd i
    by a_null i = absurd i
    by an_object_identifier i = absurd i
    by a_relative_oid i = absurd i
    by (a_utf8_string c) i = absurd i
    by (a_restricted_string k codes c) i = absurd i
    by (a_sequence e cs) i = absurd i
    by (a_set e cs) i = absurd i
    by (a_sequence_of c u) i = absurd i
    by (a_set_of c u) i = absurd i
    by (a_choice root e more) i = refl

pub shape_at : (s : List Resolved) (t : TypeNumber) (tags : List Tag) (k : Kind) → Is s t tags k → (tags ≡ [] → IsChoice k) → shape_in (routine_at s t) ≡ shape_of k
shape_at s t tags k i c = ap shape_in (routine_is s t tags k i) ∙ after_heads tags (row_of k) (body s k ++ ends (length tags)) ∙ body_shape s tags k c

-- a value whose steps are a leaf has no node but its own
pub leaf_shape : (s : List Resolved) (k : Kind) (l : LeafKind) → body s k ≡ Leaf l ∷ [] → shape_of k ≡ shapes.Bare
leaf_shape s a_boolean l e = refl
leaf_shape s (an_integer c) l e = refl
leaf_shape s (an_enumerated r x m) l e = refl
leaf_shape s (a_bit_string c) l e = refl
leaf_shape s (a_named_bit_string bs) l e = refl
leaf_shape s (an_octet_string c) l e = refl
leaf_shape s a_null l e = refl
leaf_shape s an_object_identifier l e = refl
leaf_shape s a_relative_oid l e = refl
leaf_shape s (a_utf8_string c) l e = refl
leaf_shape s (a_restricted_string k codes c) l e = refl
leaf_shape s (a_sequence true []) l e = cc
leaf_shape s (a_sequence false []) l e = cc
leaf_shape s (a_sequence x (c ∷ cs)) l e = cc
leaf_shape s (a_set true []) l e = cc
leaf_shape s (a_set false []) l e = cc
leaf_shape s (a_set x (c ∷ cs)) l e = cc
leaf_shape s (a_sequence_of c u) l e = cc
leaf_shape s (a_set_of c u) l e = cc
leaf_shape s (a_choice root x more) l e = cc
