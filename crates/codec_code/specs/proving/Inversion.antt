-- The events of the steps of each part of a routine.
use Rattle.std.proofs.Common.{◌≡◌, ℕ, zero, suc, ◌<◌, List, [], ◌∷◌, ◌++◌, refl, ap, ◌∙◌}
use Rattle.std.specs.Prelude.{Bool, true, false, Some, slice_get, drop, replicate}
use Rattle.asn_base.specs.declared.tag.Tag.{Tag}
use Rattle.asn_base.specs.declared.schema.TypeId.{TypeId}
use Rattle.asn_base.specs.Abstract.{AbstractValue, fields, list, alternative, Row}
use Rattle.asn_base.specs.Types.{TypeNumber, Resolved}
use Rattle.codec_code.specs.declared.step.RowKind.{RowKind}
use Rattle.codec_code.specs.declared.step.RowKind.TheVariants.{Wrap}
use Rattle.encodings.specs.declared.leaf_kind.LeafKind.{LeafKind}
use Rattle.codec_code.specs.declared.step.Head.{Head as Head'}
use Rattle.codec_code.specs.declared.step.Field.{Field as Field'}
use Rattle.codec_code.specs.declared.step.Step.{Step}
use Rattle.codec_code.specs.declared.step.Step.TheVariants.{Head, Leaf, Field, SetComponent, Each, EachSorted, Pick, Call, Rest, End}
use Rattle.codec_code.specs.Events.{Event, opens, puts, closes, leaves_out, ends_member}
use Rattle.codec_code.specs.Routines.{heads, rest_if, routine_at}
use Rattle.codec_code.specs.Steps.{Steps, finished, head, ending, rest, leaf, left_out, written, ranked_left_out, ranked_written, each, each_sorted, pick, Elements, SortedElements, IsLeftOut, IsWritten, has_default}
use Rattle.encodings.specs.Leaves.{HasContents}
use Rattle.codec_code.specs.proving.Wrapped.{opened, closed_by}

head_in : {s : List Resolved} {t : TypeNumber} {h : Head'} {ss : List Step} {v : AbstractValue} {es : List Event}
    → Steps s t (Head h ∷ ss) v es → (fs : List Event) × Steps s t ss v fs × (es ≡ opens h.tag h.constructed h.row ∷ fs)
head_in (head {es = es} d) = (es, d, refl)

ending_in : {s : List Resolved} {t : TypeNumber} {ss : List Step} {v : AbstractValue} {es : List Event}
    → Steps s t (End ∷ ss) v es → (fs : List Event) × Steps s t ss v fs × (es ≡ closes ∷ fs)
ending_in (ending {es = es} d) = (es, d, refl)

finished_in : {s : List Resolved} {t : TypeNumber} {v : AbstractValue} {es : List Event} → Steps s t [] v es → es ≡ []
finished_in finished = refl

rest_step : {s : List Resolved} {t : TypeNumber} {ss : List Step} {v : AbstractValue} {es : List Event}
    → Steps s t (Rest ∷ ss) v es → Steps s t ss v es
rest_step (rest d) = d

pub rest_in : {s : List Resolved} {t : TypeNumber} (e : Bool) {ss : List Step} {v : AbstractValue} {es : List Event}
    → Steps s t (rest_if e ++ ss) v es → Steps s t ss v es
rest_in false d = d
rest_in true d = rest_step d

pub leaf_in : {s : List Resolved} {t : TypeNumber} {k : LeafKind} {ss : List Step} {v : AbstractValue} {es : List Event}
    → Steps s t (Leaf k ∷ ss) v es → (x : List ℕ) × (fs : List Event) × HasContents k v x × Steps s t ss v fs
    × (es ≡ puts x ∷ fs)
leaf_in (leaf {x = x} {es = es} c d) = (x, es, c, d, refl)

pub each_in : {s : List Resolved} {t : TypeNumber} {u : TypeId} {ss : List Step} {ws : Row} {es : List Event}
    → Steps s t (Each u ∷ ss) (list ws) es → (xs : List Event) × (fs : List Event) × Elements s u.index ws xs
    × Steps s t ss (list ws) fs × (es ≡ xs ++ fs)
each_in (each {xs = xs} {es = es} a d e) = (xs, es, a, d, e)

pub sorted_in : {s : List Resolved} {t : TypeNumber} {u : TypeId} {ss : List Step} {ws : Row} {es : List Event}
    → Steps s t (EachSorted u ∷ ss) (list ws) es → (xs : List Event) × (fs : List Event)
    × SortedElements s u.index ws xs × Steps s t ss (list ws) fs × (es ≡ xs ++ fs)
sorted_in (each_sorted {xs = xs} {es = es} a d e) = (xs, es, a, d, e)

pub pick_in : {s : List Resolved} {t : TypeNumber} {n i : ℕ} {ss : List Step} {w : AbstractValue} {es : List Event}
    → Steps s t (Pick n ∷ ss) (alternative i w) es → (u : TypeId) × (xs : List Event) × (fs : List Event) × (i < n)
    × (slice_get ss i ≡ Some (Call u)) × Steps s u.index (routine_at s u.index) w xs
    × Steps s t (drop n ss) (alternative i w) fs × (es ≡ xs ++ fs)
pick_in (pick {u = u} {xs = xs} {es = es} lt at a d e) = (u, xs, es, lt, at, a, d, e)

-- a component is left out or written, and a mark may follow it
pub data Held (s : List Resolved) (t : TypeNumber) (f : Field') (mark : List Event) (ss : List Step) (ws : Row)
    (es : List Event) : Type 0 where
  not_held : (fs : List Event) → IsLeftOut s t f ws → Steps s t ss (fields ws) fs
      → es ≡ leaves_out (has_default f.need) ∷ fs → Held s t f mark ss ws es
  held : (w : AbstractValue) (xs fs : List Event) → IsWritten s t f ws w
      → Steps s f.ty.index (routine_at s f.ty.index) w xs → Steps s t ss (fields ws) fs → es ≡ xs ++ (mark ++ fs)
      → Held s t f mark ss ws es

pub field_in : {s : List Resolved} {t : TypeNumber} {f : Field'} {ss : List Step} {ws : Row} {es : List Event}
    → Steps s t (Field f ∷ ss) (fields ws) es → Held s t f [] ss ws es
field_in (left_out {es = es} a d) = not_held es a d refl
field_in (written {w = w} {xs = xs} {es = es} a b d e) = held w xs es a b d e

pub ranked_in : {s : List Resolved} {t : TypeNumber} {f : Field'} {r : ℕ} {ss : List Step} {ws : Row} {es : List Event}
    → Steps s t (SetComponent f r ∷ ss) (fields ws) es → Held s t f (ends_member r ∷ []) ss ws es
ranked_in (ranked_left_out {es = es} a d) = not_held es a d refl
ranked_in (ranked_written {w = w} {xs = xs} {es = es} a b d e) = held w xs es a b d e

-- as many ends as there are tags
pub ended : {s : List Resolved} {t : TypeNumber} (n : ℕ) {v : AbstractValue} {es : List Event}
    → Steps s t (replicate n End) v es → es ≡ closed_by n
ended zero d = finished_in d
ended (suc n) d = let p = ending_in d in p.2 ∙ ap (λ q. closes ∷ q) (ended n p.1)

pub heads_in : {s : List Resolved} {t : TypeNumber} (gs : List Tag) (k : RowKind) (ss : List Step) {v : AbstractValue}
    {es : List Event} → Steps s t (heads gs k ++ ss) v es → (fs : List Event) × Steps s t ss v fs
    × (es ≡ opened gs k ++ fs)
heads_in [] k ss {es = es} d = (es, d, refl)
heads_in (g ∷ []) k ss d = head_in d
heads_in (g ∷ f ∷ gs) k ss d =
    let p = head_in d in
    let q = heads_in (f ∷ gs) k ss p.1 in
    (q.0, q.1, p.2 ∙ ap (λ z. opens g true Wrap ∷ z) q.2)
