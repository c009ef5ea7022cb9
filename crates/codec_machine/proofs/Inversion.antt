-- What follows a step that has events.
use Rattle.std.proofs.Common.{◌≡◌, ℕ, ◌<◌, List, [], ◌∷◌, refl, sym, ap, subst, ◌∙◌, drop}
use Rattle.std.specs.Prelude.{Option, Some, None, slice_get}
use Rattle.asn_base.specs.declared.schema.TypeId.{TypeId}
use Rattle.asn_base.specs.Abstract.{AbstractValue, fields, list, alternative, Row, present}
use Rattle.asn_base.specs.Types.{Resolved}
use Rattle.codec_code.specs.declared.step.Head.{Head as Head'}
use Rattle.encodings.specs.declared.leaf_kind.LeafKind.{LeafKind}
use Rattle.codec_code.specs.declared.step.Field.{Field as Field'}
use Rattle.codec_code.specs.declared.step.Step.{Step}
use Rattle.codec_code.specs.declared.step.Step.TheVariants.{Head, Leaf, Field, SetComponent, Each, EachSorted, Pick, Call, Rest, End}
use Rattle.codec_code.specs.Events.{Event}
use Rattle.codec_code.specs.Routines.{routine_at}
use Rattle.codec_code.specs.Steps.{Steps, finished, head, ending, rest, leaf, left_out, written, ranked_left_out, ranked_written, each, each_sorted, pick, Elements, element, SortedElements, part, IsLeftOut, is_absent, is_default, component_at, IsDefaultAt}
use Rattle.encodings.specs.Leaves.{HasContents}
use Rattle.codec_machine.specs.Frames.{EmitsSome, LeavesOut, WritesIt, HasNoField}

pub nothing_emitted : {s : List Resolved} {t : ℕ} {v : AbstractValue} {es : List Event} → Steps s t [] v es → es ≡ []
nothing_emitted finished = refl

pub after_head : {s : List Resolved} {t : ℕ} {h : Head'} {ss : List Step} {v : AbstractValue} {es : List Event}
    → Steps s t (Head h ∷ ss) v es
    → EmitsSome (Steps s t ss v)
after_head (head {es = es} d) = record { events = es; emitted = d }

pub after_end : {s : List Resolved} {t : ℕ} {ss : List Step} {v : AbstractValue} {es : List Event}
    → Steps s t (End ∷ ss) v es
    → EmitsSome (Steps s t ss v)
after_end (ending {es = es} d) = record { events = es; emitted = d }

pub after_rest : {s : List Resolved} {t : ℕ} {ss : List Step} {v : AbstractValue} {es : List Event}
    → Steps s t (Rest ∷ ss) v es
    → EmitsSome (Steps s t ss v)
after_rest (rest {es = es} d) = record { events = es; emitted = d }

pub after_leaf : {s : List Resolved} {t : ℕ} {k : LeafKind} {ss : List Step} {v : AbstractValue} {es : List Event}
    → Steps s t (Leaf k ∷ ss) v es
    → EmitsSome (Steps s t ss v)
after_leaf (leaf {es = es} c d) = record { events = es; emitted = d }

pub contents_of_leaf : {s : List Resolved} {t : ℕ} {k : LeafKind} {ss : List Step} {v : AbstractValue}
    {es : List Event}
    → Steps s t (Leaf k ∷ ss) v es
    → (x : List ℕ) × HasContents k v x
contents_of_leaf (leaf {x = x} c d) = (x, c)

-- a call has events only after `Pick`
pub no_call : {s : List Resolved} {t : ℕ} {u : TypeId} {ss : List Step} {v : AbstractValue} {es : List Event}
    → Steps s t (Call u ∷ ss) v es
    → ⊥
no_call d = elim d [ ]

-- ---- components

-- a component of a SEQUENCE or SET, and what follows it
pub data FieldEmits (s : List Resolved) (t : ℕ) (f : Field') (ss : List Step) (v : AbstractValue) : Type 0 where
  not_held : LeavesOut s t f v → EmitsSome (Steps s t ss v) → FieldEmits s t f ss v
  held : (w : AbstractValue)
      → WritesIt s t f v w
      → EmitsSome (Steps s f.ty.index (routine_at s f.ty.index) w)
      → EmitsSome (Steps s t ss v)
      → FieldEmits s t f ss v

pub of_field : {s : List Resolved} {t : ℕ} {f : Field'} {ss : List Step} {v : AbstractValue} {es : List Event}
    → Steps s t (Field f ∷ ss) v es
    → FieldEmits s t f ss v
of_field (left_out {ws = ws} {es = es} a d) = not_held (record { row = ws; is = refl; left_out = a }) (record { events = es; emitted = d })
of_field (written {ws = ws} {w = w} {xs = xs} {es = es} a b d e) = held w (record { row = ws; is = refl; written = a }) (record { events = xs; emitted = b }) (record { events = es; emitted = d })

pub of_ranked : {s : List Resolved} {t : ℕ} {f : Field'} {r : ℕ} {ss : List Step} {v : AbstractValue}
    {es : List Event}
    → Steps s t (SetComponent f r ∷ ss) v es
    → FieldEmits s t f ss v
of_ranked (ranked_left_out {ws = ws} {es = es} a d) = not_held (record { row = ws; is = refl; left_out = a }) (record { events = es; emitted = d })
of_ranked (ranked_written {ws = ws} {w = w} {xs = xs} {es = es} a b d e) = held w (record { row = ws; is = refl; written = a }) (record { events = xs; emitted = b }) (record { events = es; emitted = d })

pub after_field : {s : List Resolved} {t : ℕ} {f : Field'} {ss : List Step} {v : AbstractValue}
    → FieldEmits s t f ss v
    → EmitsSome (Steps s t ss v)
after_field (not_held l d) = d
after_field (held w o b d) = d

pub same_row : {a b : Row} → fields a ≡ fields b → a ≡ b
same_row e = cc

one_component : {a b : Row} (i : ℕ) {o p : Option (Option AbstractValue)}
    → fields a ≡ fields b
    → component_at a i ≡ o
    → component_at b i ≡ p
    → o ≡ p
one_component i e x y = sym x ∙ ap (λ q. component_at q i) (same_row e) ∙ y

same_held : {v w : AbstractValue} → Some (Some v) ≡ Some (Some w) → v ≡ w
same_held e = cc

none_held : {w : AbstractValue} → Some None ≡ Some (Some w) → ⊥
none_held {w} e = (let f : None ≡ Some w = cc in cc)

-- what is left out isn't written
left_out_or_written : {s : List Resolved} {t : ℕ} {f : Field'} {v w : AbstractValue} {row : Row}
    → v ≡ fields row
    → IsLeftOut s t f row
    → WritesIt s t f v w
    → ⊥
left_out_or_written {f = f} e (is_absent m a) o = none_held (one_component f.place (sym e ∙ o.is) a o.written.is_at)
left_out_or_written {s} {t} {f} e (is_default h a d) o = o.written.no_default h (subst (IsDefaultAt s t f.place) (same_held (one_component f.place (sym e ∙ o.is) a o.written.is_at)) d)

written_once : {s : List Resolved} {t : ℕ} {f : Field'} {v w x : AbstractValue}
    → WritesIt s t f v w
    → WritesIt s t f v x
    → w ≡ x
written_once {f = f} o p = same_held (one_component f.place (sym o.is ∙ p.is) o.written.is_at p.written.is_at)

-- the component that is written has events
pub held_field : {s : List Resolved} {t : ℕ} {f : Field'} {ss : List Step} {v : AbstractValue} (w : AbstractValue)
    → WritesIt s t f v w
    → FieldEmits s t f ss v
    → EmitsSome (Steps s f.ty.index (routine_at s f.ty.index) w)
held_field w o (not_held l d) = absurd (left_out_or_written l.is l.left_out o)
held_field {s} {f = f} w o (held x p b d) = subst (λ q. EmitsSome (Steps s f.ty.index (routine_at s f.ty.index) q)) (written_once p o) b

pub no_field : {s : List Resolved} {t : ℕ} {f : Field'} {ss : List Step} {v : AbstractValue}
    → HasNoField s t f v
    → FieldEmits s t f ss v
    → ⊥
no_field n (not_held l d) = n.0 l
no_field n (held w o b d) = n.1 w o

-- ---- elements

-- elements, and what follows them
pub record ListEmits (s : List Resolved) (t : ℕ) (T : Row → List Event → Type 0) (ss : List Step)
    (v : AbstractValue) : Type 0 where
  pub row : Row
  pub is : v ≡ list row
  pub first : EmitsSome (T row)
  pub steps_after : EmitsSome (Steps s t ss v)

pub of_each : {s : List Resolved} {t : ℕ} {u : TypeId} {ss : List Step} {v : AbstractValue} {es : List Event}
    → Steps s t (Each u ∷ ss) v es
    → ListEmits s t (Elements s u.index) ss v
of_each (each {ws = ws} {xs = xs} {es = es} a d e) = record { row = ws; is = refl; first = record { events = xs; emitted = a }; steps_after = record { events = es; emitted = d } }

pub of_sorted : {s : List Resolved} {t : ℕ} {u : TypeId} {ss : List Step} {v : AbstractValue} {es : List Event}
    → Steps s t (EachSorted u ∷ ss) v es
    → ListEmits s t (SortedElements s u.index) ss v
of_sorted (each_sorted {ws = ws} {xs = xs} {es = es} a d e) = record { row = ws; is = refl; first = record { events = xs; emitted = a }; steps_after = record { events = es; emitted = d } }

pub same_list : {a b : Row} → list a ≡ list b → a ≡ b
same_list e = cc

-- the first element, and the others
pub record ElementEmits (s : List Resolved) (u : ℕ) (T : Row → List Event → Type 0) (w : AbstractValue)
    (ws : Row) : Type 0 where
  pub first : EmitsSome (Steps s u (routine_at s u) w)
  pub others : EmitsSome (T ws)

pub of_element : {s : List Resolved} {u : ℕ} {w : AbstractValue} {ws : Row} {es : List Event}
    → Elements s u (present w ws) es
    → ElementEmits s u (Elements s u) w ws
of_element (element {xs = xs} {es = es} a d e) = record { first = record { events = xs; emitted = a }; others = record { events = es; emitted = d } }

pub of_part : {s : List Resolved} {u : ℕ} {w : AbstractValue} {ws : Row} {es : List Event}
    → SortedElements s u (present w ws) es
    → ElementEmits s u (SortedElements s u) w ws
of_part (part {xs = xs} {es = es} a d e) = record { first = record { events = xs; emitted = a }; others = record { events = es; emitted = d } }

-- ---- alternatives

-- an alternative, and what follows all calls
pub record PickEmits (s : List Resolved) (t n : ℕ) (ss : List Step) (v : AbstractValue) : Type 0 where
  pub number : ℕ
  pub type : TypeId
  pub chosen : AbstractValue
  pub is : v ≡ alternative number chosen
  pub few : number < n
  pub call : slice_get ss number ≡ Some (Call type)
  pub first : EmitsSome (Steps s type.index (routine_at s type.index) chosen)
  pub steps_after : EmitsSome (Steps s t (drop n ss) v)

pub of_pick : {s : List Resolved} {t n : ℕ} {ss : List Step} {v : AbstractValue} {es : List Event}
    → Steps s t (Pick n ∷ ss) v es
    → PickEmits s t n ss v
of_pick (pick {i = i} {u = u} {w = w} {xs = xs} {es = es} lt at a d e) =
    record {
      number = i;
      type = u;
      chosen = w;
      is = refl;
      few = lt;
      call = at;
      first = record { events = xs; emitted = a };
      steps_after = record { events = es; emitted = d };
    }

pub same_number : {i j : ℕ} {w x : AbstractValue} → alternative i w ≡ alternative j x → i ≡ j
same_number e = cc

same_chosen : {i j : ℕ} {w x : AbstractValue} → alternative i w ≡ alternative j x → w ≡ x
same_chosen e = cc

same_call : {t u : TypeId} → Some (Call t) ≡ Some (Call u) → t ≡ u
same_call e = cc

-- the alternative's type is the one that is called
pub called_type : {s : List Resolved} {t n i : ℕ} {u : TypeId} {ss : List Step} {v w : AbstractValue}
    → v ≡ alternative i w
    → slice_get ss i ≡ Some (Call u)
    → PickEmits s t n ss v
    → EmitsSome (Steps s u.index (routine_at s u.index) w)
called_type {s} {u = u} {ss} e at p =
    let a = same_call (sym p.call ∙ ap (slice_get ss) (same_number (sym p.is ∙ e)) ∙ at) in
    subst (λ q. EmitsSome (Steps s q.index (routine_at s q.index) _)) a (subst (λ q. EmitsSome (Steps s p.type.index (routine_at s p.type.index) q)) (same_chosen (sym p.is ∙ e)) p.first)
