-- A question is refused in one way, and never if it has an answer.
use Rattle.std.proofs.Common.{arith, ◌≡◌, ⊎_elim, ℕ, ◌≤◌, Bool, true, false, List, [], ◌∷◌, ◌++◌, length, drop, refl, sym, ap, subst, ◌∙◌, length-append}
use Rattle.std.specs.Prelude.{Option, Some, None}
use Rattle.asn_base.specs.Abstract.{AbstractValue}
use Rattle.asn_base.specs.Names.{IsMember}
use Rattle.asn_base.specs.declared.tag.Tag.{Tag}
use Rattle.asn_base.specs.declared.schema.TypeId.{TypeId}
use Rattle.asn_base.specs.Types.{Resolved}
use Rattle.asn_base.specs.Tags.{First}
use Rattle.codec_code.specs.Routines.{routine_at}
use Rattle.codec_code.specs.declared.step.Head.{Head}
use Rattle.encodings.specs.declared.leaf_kind.LeafKind.{LeafKind}
use Rattle.codec_code.specs.declared.step.Field.{Field}
use Rattle.codec_code.specs.declared.step.Step.{Step}
use Rattle.octets.specs.Fronts.{HeaderAt, IsRightFault}
use Rattle.octets.specs.declared.header_fault.HeaderFault.{HeaderFault}
use Rattle.primitive_reader.specs.Leaves.{IsReadAs}
use Rattle.primitive_reader.specs.Refused.{IsRightFault as IsRightLeafFault}
use Rattle.primitive_reader.specs.declared.fault.LeafFault.{LeafFault}
use Rattle.segmented_strings.specs.Joining.{Fails, IsJoinedAs}
use Rattle.segmented_strings.specs.declared.fault.SegmentError.{SegmentError}
use Rattle.decode_faults.specs.declared.read_fault.ReadFault.{ReadFault}
use Rattle.codec_source.specs.Events.{Event, begins, ends, opens, closes, holds, skips, comes, more, among, picks}
use Rattle.codec_source.specs.Events.{Question, to_begin, to_end, to_open, to_close, to_hold, to_skip, whether_comes, whether_more, which_comes, which_picked}
use Rattle.octet_answers.specs.Units.{UnitAt}
use Rattle.octet_answers.specs.States.{State, passing}
use Rattle.octet_answers.specs.Found.{IsFound, IsChosen, last_steps, AreRead, Passes, at_end_of_contents, at_component, passes}
use Rattle.octet_answers.specs.Answers.{Begins, Ends, Opens, Closes, AreContents, Holds, Skips, FieldNext, NextInSet, Chooses, Answers, IsOther}
use Rattle.octet_answers.specs.Asked.{question_of}
use Rattle.octet_answers.specs.Unanswered.{of_header, of_leaf, of_segments, advanced, Leaves, no_budget, no_value_open, no_header, too_many_headers, other_header, not_at_end, no_header_open}
use Rattle.octet_answers.specs.Unanswered.{contents_too_deep, bad_primitive, bad_segment, nothing_to_skip_in, not_skipped, out_of_order}
use Rattle.octet_answers.specs.Unanswered.{no_component_left, no_header_of_component, other_component, no_component, repeated_component, not_all_read}
use Rattle.octet_answers.specs.Unanswered.{no_header_to_pick, no_alternative}
use Rattle.octet_answers.specs.Unanswered.{CantSkip, no_encoding, addition_too_deep, no_addition, after_addition}
use Rattle.octet_answers.specs.proving.Fronts.{front_of}
use Rattle.octet_answers.proofs.OneAnswer.{Headers, or_field, none_some, snoc_same, never_empty, passing_same, unit_once, passes_once}

-- as much as is left of one refusal
abbrev Same : State → State → ReadFault → ReadFault → Type 0
Same b c e f = (e ≡ f) × (b ≡ c)

empty_some : {A : Type 0} {o : List ℕ} → o ≡ [] → 1 ≤ length o → A
empty_some e l = absurd (let m = ap length e in omega arith)

snoc_none : {A B : Type 0} (xs : List A) (x : A) {ys : List A} → ys ≡ [] → ys ≡ xs ++ x ∷ [] → B
snoc_none xs x e f = absurd (let l = ap length (sym e ∙ f) in let m = length-append xs (x ∷ []) in omega arith)

abbrev OneComes : Type 0
OneComes = (e f : HeaderFault) (o : List ℕ) → IsRightFault e o → IsRightFault f o → e ≡ f

abbrev NoneComes : Type 0
NoneComes = (e : HeaderFault) (t : Tag) (c : Bool) (n k : ℕ) (o : List ℕ) → IsRightFault e o → HeaderAt t c n k o → ⊥

module _ (headers : Headers) (one_fault : OneComes) (no_fault : NoneComes) where
  no_unit : {A : Type 0} (e : HeaderFault) {g : Tag} {c : Bool} {k : ℕ} {x r o : List ℕ} → IsRightFault e o → UnitAt g c k x r o → A
  no_unit e {g} {c} {k} {x} {r} {o} s u = absurd (no_fault e g c (length x) k o s (front_of u))

  same_header : (a : State) (e f : HeaderFault) → IsRightFault e a.here.octets → IsRightFault f a.here.octets → Same a a (of_header e) (of_header f)
  same_header a e f s t = (ap of_header (one_fault e f a.here.octets s t), refl)

  moved : (a : State) {s : List Resolved} {ss : List Step} {d : Bool} {b : State} {g h : Tag} {p q : Bool} {k j : ℕ} {x y r t : List ℕ} {f : ReadFault}
      → UnitAt g p k x r a.here.octets
      → UnitAt h q j y t a.here.octets
      → CantSkip s ss d (passing a j y t) b f
      → CantSkip s ss d (passing a k x r) b f
  moved a {s} {ss} {d} {b} {f = f} u v h =
      let w = unit_once headers u v in
      subst (λ z. CantSkip s ss d z b f) (sym (passing_same a w.counts w.contents w.rests)) h

  blocks_once : {s : List Resolved} {ss : List Step} {d : Bool} {a b c : State} {e f : ReadFault} → CantSkip s ss d a b e → CantSkip s ss d a c f → Same b c e f
  blocks_once {a = a} (no_encoding e l s) (no_encoding f m t) = same_header a e f s t
  blocks_once (no_encoding e l s) (addition_too_deep u n m) = no_unit e s u
  blocks_once (no_encoding e l s) (no_addition u n m i) = no_unit e s u
  blocks_once (no_encoding e l s) (after_addition i u n m h) = no_unit e s u
  blocks_once (addition_too_deep u n m) (no_encoding e l s) = no_unit e s u
  blocks_once (addition_too_deep u n m) (addition_too_deep v p l) = (refl, refl)
  blocks_once (addition_too_deep u n m) (no_addition v p l i) = absurd (omega arith)
  blocks_once (addition_too_deep u n m) (after_addition i v p l h) = absurd (omega arith)
  blocks_once (no_addition u n m i) (no_encoding e l s) = no_unit e s u
  blocks_once (no_addition u n m i) (addition_too_deep v p l) = absurd (omega arith)
  blocks_once (no_addition u n m i) (no_addition v p l j) = (refl, refl)
  blocks_once (no_addition u n m i) (after_addition j v p l h) = absurd (cc)
  blocks_once (after_addition i u n m h) (no_encoding e l s) = no_unit e s u
  blocks_once (after_addition i u n m h) (addition_too_deep v p l) = absurd (omega arith)
  blocks_once (after_addition i u n m h) (no_addition v p l j) = absurd (cc)
  blocks_once {a = a} (after_addition i u n m h) (after_addition j v p l k) = blocks_once h (moved a u v k)

  found_here : {A : Type 0} {s : List Resolved} {ss : List Step} {g h : Tag} {p q : Bool} {k j : ℕ} {x y r t o : List ℕ} {f : Field}
      → ((z : Field) → IsFound s g ss z → ⊥)
      → UnitAt g p k x r o
      → UnitAt h q j y t o
      → IsFound s h ss f
      → A
  found_here {s = s} {ss = ss} {f = f} n u v i = absurd (n f (subst (λ z. IsFound s z ss f) (sym (unit_once headers u v).tags) i))

  blocks_or_passes : {s : List Resolved} {ss : List Step} {d : Bool} {a b c : State} {e : ReadFault} {f : Option Field} → CantSkip s ss d a b e → Passes s ss d a f c → ⊥
  blocks_or_passes (no_encoding e l s) (at_end_of_contents p) = empty_some p l
  blocks_or_passes (no_encoding e l s) (at_component u i) = no_unit e s u
  blocks_or_passes (no_encoding e l s) (passes m u n p q) = no_unit e s u
  blocks_or_passes (addition_too_deep u n m) (at_end_of_contents p) = never_empty u p
  blocks_or_passes (addition_too_deep u n m) (at_component v i) = found_here n u v i
  blocks_or_passes (addition_too_deep u n m) (passes i v p l q) = omega arith
  blocks_or_passes (no_addition u n m j) (at_end_of_contents p) = never_empty u p
  blocks_or_passes (no_addition u n m j) (at_component v i) = found_here n u v i
  blocks_or_passes (no_addition u n m j) (passes i v p l q) = cc
  blocks_or_passes (after_addition j u n m h) (at_end_of_contents p) = never_empty u p
  blocks_or_passes (after_addition j u n m h) (at_component v i) = found_here n u v i
  blocks_or_passes {s} {ss} {d} {a} {b} {c} {e} {f} (after_addition j u n m h) (passes i v p l q) =
      let w = unit_once headers u v in
      blocks_or_passes h (subst (λ z. Passes s ss d z f c) (sym (passing_same a w.counts w.contents w.rests)) q)

  open_once : (a b c : State) (h : Head) (e f : ReadFault) → Leaves a (to_open h) b e → Leaves a (to_open h) c f → Same b c e f
  open_once a b c h e f (no_header i s) (no_header j t) = same_header a i j s t
  open_once a b c h e f (no_header i s) (too_many_headers u l) = no_unit i s u
  open_once a b c h e f (no_header i s) (other_header u l o) = no_unit i s u
  open_once a b c h e f (too_many_headers u l) (no_header j t) = no_unit j t u
  open_once a b c h e f (too_many_headers u l) (too_many_headers v m) = (refl, refl)
  open_once a b c h e f (too_many_headers u l) (other_header v m o) = absurd (omega arith)
  open_once a b c h e f (other_header u l o) (no_header j t) = no_unit j t u
  open_once a b c h e f (other_header u l o) (too_many_headers v m) = absurd (omega arith)
  open_once a b c h e f (other_header u l o) (other_header v m p) = (refl, refl)

  skip_once : (a b c : State) (e f : ReadFault) → Leaves a to_skip b e → Leaves a to_skip c f → Same b c e f
  skip_once a b c e f (nothing_to_skip_in n) (nothing_to_skip_in m) = (refl, refl)
  skip_once a b c e f (nothing_to_skip_in n) (not_skipped t os v h) = snoc_none os t n v
  skip_once a b c e f (nothing_to_skip_in n) (out_of_order t os v h) = snoc_none os t n v
  skip_once a b c e f (not_skipped t os v h) (nothing_to_skip_in n) = snoc_none os t n v
  skip_once a b c e f (not_skipped t os v h) (not_skipped u ps w k) =
      blocks_once h (subst (λ q. CantSkip a.schema (last_steps (routine_at a.schema q.index)) true a c f) (snoc_same ps os u t (sym w ∙ v)).1 k)
  skip_once a b c e f (not_skipped t os v h) (out_of_order {f = g} u ps w k) =
      absurd (blocks_or_passes h (subst (λ q. Passes a.schema (last_steps (routine_at a.schema q.index)) true a (Some g) c) (snoc_same ps os u t (sym w ∙ v)).1 k))
  skip_once a b c e f (out_of_order t os v h) (nothing_to_skip_in n) = snoc_none os t n v
  skip_once a b c e f (out_of_order {f = g} t os v h) (not_skipped u ps w k) =
      absurd (blocks_or_passes k (subst (λ q. Passes a.schema (last_steps (routine_at a.schema q.index)) true a (Some g) b) (snoc_same os ps t u (sym v ∙ w)).1 h))
  skip_once a b c e f (out_of_order t os v h) (out_of_order {f = g} u ps w k) =
      (refl, (passes_once headers h (subst (λ q. Passes a.schema (last_steps (routine_at a.schema q.index)) true a (Some g) c) (snoc_same ps os u t (sym w ∙ v)).1 k)).1)

  other_some : {A : Type 0} (a : State) (f : Field) → a.here.octets ≡ [] → IsOther a f → A
  other_some a f n o = absurd (never_empty o.unit n)

  component_once : (a b c : State) (g : Field) (e f : ReadFault) → Leaves a (whether_comes g) b e → Leaves a (whether_comes g) c f → Same b c e f
  component_once a b c g e f (no_component_left n o) (no_component_left m p) = (refl, refl)
  component_once a b c g e f (no_component_left n o) (no_header_of_component j l t) = empty_some o l
  component_once a b c g e f (no_component_left n o) (other_component m p) = other_some a g o p
  component_once a b c g e f (no_header_of_component i l s) (no_component_left m p) = empty_some p l
  component_once a b c g e f (no_header_of_component i l s) (no_header_of_component j m t) = same_header a i j s t
  component_once a b c g e f (no_header_of_component i l s) (other_component m p) = no_unit i s p.unit
  component_once a b c g e f (other_component n o) (no_component_left m p) = other_some a g p o
  component_once a b c g e f (other_component n o) (no_header_of_component j l t) = no_unit j t o.unit
  component_once a b c g e f (other_component n o) (other_component m p) = (refl, refl)

  which_once : (a b c : State) (ss : List Step) (e f : ReadFault) → Leaves a (which_comes ss) b e → Leaves a (which_comes ss) c f → Same b c e f
  which_once a b c ss e f (no_component h) (no_component k) = blocks_once h k
  which_once a b c ss e f (no_component h) (repeated_component k m) = absurd (blocks_or_passes h k)
  which_once a b c ss e f (no_component h) (not_all_read k m) = absurd (blocks_or_passes h k)
  which_once a b c ss e f (repeated_component h n) (no_component k) = absurd (blocks_or_passes k h)
  which_once a b c ss e f (repeated_component h n) (repeated_component k m) = (refl, (passes_once headers h k).1)
  which_once a b c ss e f (repeated_component h n) (not_all_read k m) = absurd (none_some (passes_once headers k h).0)
  which_once a b c ss e f (not_all_read h n) (no_component k) = absurd (blocks_or_passes k h)
  which_once a b c ss e f (not_all_read h n) (repeated_component k m) = absurd (none_some (passes_once headers h k).0)
  which_once a b c ss e f (not_all_read h n) (not_all_read k m) = (refl, (passes_once headers h k).1)

  pick_once : (a b c : State) (ss : List Step) (e f : ReadFault) → Leaves a (which_picked ss) b e → Leaves a (which_picked ss) c f → Same b c e f
  pick_once a b c ss e f (no_header_to_pick i s) (no_header_to_pick j t) = same_header a i j s t
  pick_once a b c ss e f (no_header_to_pick i s) (no_alternative u n) = no_unit i s u
  pick_once a b c ss e f (no_alternative u n) (no_header_to_pick j t) = no_unit j t u
  pick_once a b c ss e f (no_alternative u n) (no_alternative v m) = (refl, refl)

  -- ---- a question that is refused has no answer

  open_or_not : (a b c : State) (h : Head) (e : ReadFault) → Leaves a (to_open h) b e → Opens a h c → ⊥
  open_or_not a b c h e (no_header i s) x = no_unit i s x.unit
  open_or_not a b c h e (too_many_headers u l) x = let m = x.few_levels in omega arith
  open_or_not a b c h e (other_header u l o) x =
      let w = unit_once headers u x.unit in
      ⊎_elim (λ n. n w.tags) (λ p. let y = x.form p.0 in let z = p.1 in let v = w.forms in cc) o

  component_or_not : (a b c : State) (f : Field) (there : Bool) (e : ReadFault) → Leaves a (whether_comes f) b e → FieldNext a f there c → ⊥
  component_or_not a b c f true e (no_component_left n o) x = never_empty x.unit o
  component_or_not a b c f true e (no_header_of_component i l s) x = no_unit i s x.unit
  component_or_not a b c f true e (other_component n o) x =
      o.not_first (subst (λ g. First a.schema f.ty.index g) (unit_once headers x.unit o.unit).tags x.first)
  component_or_not a b c f false e (no_component_left n o) x = let m = x.may_be in cc
  component_or_not a b c f false e (no_header_of_component i l s) x = ⊎_elim (λ n. empty_some n l) (λ o. no_unit i s o.unit) x.next
  component_or_not a b c f false e (other_component n o) x = let m = x.may_be in cc

  skip_or_not : (a b c : State) (e : ReadFault) → Leaves a to_skip b e → Skips a c → ⊥
  skip_or_not a b c e (nothing_to_skip_in n) x = snoc_none x.others x.value n x.is_open
  skip_or_not a b c e (not_skipped t os v h) x =
      blocks_or_passes h (subst (λ q. Passes a.schema (last_steps (routine_at a.schema q.index)) true a None c) (snoc_same x.others os x.value t (sym x.is_open ∙ v)).1 x.pass)
  skip_or_not a b c e (out_of_order t os v h) x =
      none_some (passes_once headers (subst (λ q. Passes a.schema (last_steps (routine_at a.schema q.index)) true a None c) (snoc_same x.others os x.value t (sym x.is_open ∙ v)).1 x.pass) h).0

  which_or_not : (a b c : State) (ss : List Step) (t : Option TypeId) (e : ReadFault) → Leaves a (which_comes ss) b e → NextInSet a ss t c → ⊥
  which_or_not a b c ss (Some t) e (no_component h) x = blocks_or_passes h x.pass
  which_or_not a b c ss (Some t) e (repeated_component {f = f} h m) x =
      let w = passes_once headers h x.pass in
      let g : f ≡ x.field = ap (or_field f) w.0 in
      x.is_new (subst (λ z. IsMember x.field.place (drop z.here.from z.marks)) w.1 (subst (λ z. IsMember z.place (drop b.here.from b.marks)) g m))
  which_or_not a b c ss (Some t) e (not_all_read h m) x = none_some (passes_once headers h x.pass).0
  which_or_not a b c ss None e (no_component h) x = blocks_or_passes h x.pass
  which_or_not a b c ss None e (repeated_component h m) x = none_some (passes_once headers x.pass h).0
  which_or_not a b c ss None e (not_all_read h m) x =
      m (subst (λ z. AreRead (drop z.here.from z.marks) ss) (passes_once headers x.pass h).1 x.all_read)

  pick_or_not : (a b c : State) (ss : List Step) (t : TypeId) (e : ReadFault) → Leaves a (which_picked ss) b e → Chooses a ss t c → ⊥
  pick_or_not a b c ss t e (no_header_to_pick i s) x = no_unit i s x.unit
  pick_or_not a b c ss t e (no_alternative u n) x =
      n x.index t (subst (λ z. IsChosen a.schema z ss x.index t) (unit_once headers x.unit u).tags x.alternative)

begin_once : (a b c : State) (t : TypeId) (e f : ReadFault) → Leaves a (to_begin t) b e → Leaves a (to_begin t) c f → Same b c e f
begin_once a b c t e f (no_budget n) (no_budget m) = (refl, refl)

end_once : (a b c : State) (e f : ReadFault) → Leaves a to_end b e → Leaves a to_end c f → Same b c e f
end_once a b c e f (no_value_open n) (no_value_open m) = (refl, refl)

close_once : (a b c : State) (e f : ReadFault) → Leaves a to_close b e → Leaves a to_close c f → Same b c e f
close_once a b c e f (not_at_end l) (not_at_end m) = (refl, refl)
close_once a b c e f (not_at_end l) (no_header_open n o) = empty_some n l
close_once a b c e f (no_header_open n o) (not_at_end l) = empty_some n l
close_once a b c e f (no_header_open n o) (no_header_open m p) = (refl, refl)

abbrev OneLeaf : Type 0
OneLeaf = (e f : LeafFault) (k : LeafKind) (x : List ℕ) → IsRightLeafFault e k x → IsRightLeafFault f k x → e ≡ f

abbrev OneSegment : Type 0
OneSegment = (k : LeafKind) (budget i j : ℕ) (e f : SegmentError) (x : List ℕ) → length x ≤ 16777216 → Fails k budget e i x → Fails k budget f j x → (e ≡ f) × (i ≡ j)

module _ (one_leaf : OneLeaf) (one_segment : OneSegment) where
  hold_once : (a b c : State) (k : LeafKind) (e f : ReadFault) → length a.here.octets ≤ 16777216 → Leaves a (to_hold k) b e → Leaves a (to_hold k) c f → Same b c e f
  hold_once a b c k e f w (contents_too_deep l) (contents_too_deep m) = (refl, refl)
  hold_once a b c k e f w (contents_too_deep l) (bad_primitive j m d t) = absurd (omega arith)
  hold_once a b c k e f w (contents_too_deep l) (bad_segment j r d t m) = absurd (omega arith)
  hold_once a b c k e f w (bad_primitive i l d s) (contents_too_deep m) = absurd (omega arith)
  hold_once a b c k e f w (bad_primitive i l d s) (bad_primitive j m o t) = (ap of_leaf (one_leaf i j k a.here.octets s t), refl)
  hold_once a b c k e f w (bad_primitive i l d s) (bad_segment j r o t m) = absurd (cc)
  hold_once a b c k e f w (bad_segment i q d s l) (contents_too_deep m) = absurd (omega arith)
  hold_once a b c k e f w (bad_segment i q d s l) (bad_primitive j m o t) = absurd (cc)
  hold_once a b c k e f w (bad_segment {n = n} {budget = budget} i q d s l) (bad_segment {n = m} {budget = other} j r o t p) =
      let g : other ≡ budget = omega arith in
      let z = one_segment k budget n m i j a.here.octets w s (subst (λ y. Fails k y j m a.here.octets) g t) in
      (ap of_segments z.0, ap (advanced a) z.1)

module _ (headers : Headers) (one_fault : OneComes) (no_fault : NoneComes) (one_leaf : OneLeaf) (one_segment : OneSegment) where
  pub refused_once : (a b c : State) (q : Question) (e f : ReadFault) → length a.here.octets ≤ 16777216 → Leaves a q b e → Leaves a q c f → (e ≡ f) × (b ≡ c)
  refused_once a b c (to_begin t) e f l x y = begin_once a b c t e f x y
  refused_once a b c to_end e f l x y = end_once a b c e f x y
  refused_once a b c (to_open h) e f l x y = open_once headers one_fault no_fault a b c h e f x y
  refused_once a b c to_close e f l x y = close_once a b c e f x y
  refused_once a b c (to_hold k) e f l x y = hold_once one_leaf one_segment a b c k e f l x y
  refused_once a b c to_skip e f l x y = skip_once headers one_fault no_fault a b c e f x y
  refused_once a b c (whether_comes g) e f l x y = component_once headers one_fault no_fault a b c g e f x y
  refused_once a b c (whether_more t s) e f l x y = elim x [ ]
  refused_once a b c (which_comes ss) e f l x y = which_once headers one_fault no_fault a b c ss e f x y
  refused_once a b c (which_picked ss) e f l x y = pick_once headers one_fault no_fault a b c ss e f x y

begin_or_not : (a b c : State) (t : TypeId) (e : ReadFault) → Leaves a (to_begin t) b e → Begins a t c → ⊥
begin_or_not a b c t e (no_budget n) x =
    ⊎_elim (λ z. let h = x.has_budget in omega arith) (λ m. let h = x.few_levels in omega arith) n

end_or_not : (a b c : State) (e : ReadFault) → Leaves a to_end b e → Ends a c → ⊥
end_or_not a b c e (no_value_open n) x = snoc_none x.others x.value n x.is_open

close_or_not : (a b c : State) (e : ReadFault) → Leaves a to_close b e → Closes a c → ⊥
close_or_not a b c e (not_at_end l) x = empty_some x.none_left l
close_or_not a b c e (no_header_open n o) x = snoc_none x.others x.open_contents o x.is_open

abbrev NoLeaf : Type 0
NoLeaf = (e : LeafFault) (k : LeafKind) (v : AbstractValue) (x : List ℕ) → IsRightLeafFault e k x → IsReadAs k v x → ⊥

abbrev NoSegments : Type 0
NoSegments = (k : LeafKind) (budget i : ℕ) (e : SegmentError) (v : AbstractValue) (x : List ℕ) → length x ≤ 16777216 → Fails k budget e i x → IsJoinedAs k v budget x → ⊥

module _ (no_leaf : NoLeaf) (no_segments : NoSegments) where
  hold_or_not : (a b c : State) (k : LeafKind) (e : ReadFault) → length a.here.octets ≤ 16777216 → Leaves a (to_hold k) b e → Holds a k c → ⊥
  hold_or_not a b c k e w (contents_too_deep l) x = let h = x.few_levels in omega arith
  hold_or_not a b c k e w (bad_primitive i l d s) x =
      no_leaf i k x.value a.here.octets s (subst (λ y. AreContents y k x.value x.levels a.here.octets) d x.contents)
  hold_or_not a b c k e w (bad_segment {n = n} {budget = budget} i q d s l) x =
      let g : x.levels ≡ budget = (let h = x.few_levels in omega arith) in
      let j : IsJoinedAs k x.value x.levels a.here.octets = subst (λ y. AreContents y k x.value x.levels a.here.octets) d x.contents in
      no_segments k budget n i x.value a.here.octets w s (subst (λ y. IsJoinedAs k x.value y a.here.octets) g j)

module _ (headers : Headers) (one_fault : OneComes) (no_fault : NoneComes) (no_leaf : NoLeaf) (no_segments : NoSegments) where
  not_answered : (a b c : State) (e : ReadFault) (v : Event) → length a.here.octets ≤ 16777216 → Leaves a (question_of v) b e → Answers a v c → ⊥
  not_answered a b c e (begins t) l x y = begin_or_not a b c t e x y
  not_answered a b c e ends l x y = end_or_not a b c e x y
  not_answered a b c e (opens h) l x y = open_or_not headers one_fault no_fault a b c h e x y
  not_answered a b c e closes l x y = close_or_not a b c e x y
  not_answered a b c e (holds k) l x y = hold_or_not no_leaf no_segments a b c k e l x y
  not_answered a b c e skips l x y = skip_or_not headers one_fault no_fault a b c e x y
  not_answered a b c e (comes f there) l x y = component_or_not headers one_fault no_fault a b c f there e x y
  not_answered a b c e (more t s there) l x y = elim x [ ]
  not_answered a b c e (among ss t) l x y = which_or_not headers one_fault no_fault a b c ss t e x y
  not_answered a b c e (picks ss t) l x y = pick_or_not headers one_fault no_fault a b c ss t e x y

  pub refused_or_not : (a b c : State) (q : Question) (e : ReadFault) (v : Event) → length a.here.octets ≤ 16777216 → Leaves a q b e → question_of v ≡ q → Answers a v c → ⊥
  refused_or_not a b c q e v l x i y = not_answered a b c e v l (subst (λ z. Leaves a z b e) (sym i) x) y
