-- What is decided of a whole by what is decided of its parts.
use Rattle.std.proofs.Common.{arith, lit<, ◌≡◌, ℕ, zero, suc, ◌+◌, ◌-◌, ◌^◌, ◌<◌, ◌≤◌, ◌⊎◌, inl, inr, ⊎_elim, Bool, true, false, List, [], ◌∷◌, ◌++◌, length, map, refl, sym, ap, subst, ◌∙◌}
use Rattle.std.specs.Prelude.{◌↔◌, IsTrue, Option, Some, None, Result, Ok, Err, slice_get}
use Rattle.std.proofs.lemmas.List.{length-append}
use Rattle.std.specs.List.{concat, AllByRecursion}
use Rattle.asn_base.specs.declared.tag.Tag.{Tag}
use Rattle.asn_base.specs.declared.schema.TypeId.{TypeId}
use Rattle.asn_base.specs.Abstract.{AbstractValue, fields, list, alternative, Row, row_of_options}
use Rattle.asn_base.specs.Same.{Same}
use Rattle.asn_base.specs.Schemas.{AreListed, IsSchema, IsSound, HasValue, components}
use Rattle.asn_base.specs.Tags.{AllApart, AllTagged}
use Rattle.asn_base.specs.Types.{TypeNumber, Alternative, Constraint, Kind, a_sequence, a_set, a_sequence_of, a_set_of, a_choice, Component, Resolved, Is}
use Rattle.asn_base.specs.Typed.{ValueIn, value_in, ValueOf, of_leaf, of_sequence, of_set, of_sequence_of, of_set_of, of_choice, AreComponents, component_absent, component_present, AreElements}
use Rattle.encodings.specs.Contents.{Contents}
use Rattle.encodings.specs.Orders.{Ascending, ascending_none, AtMost, InTagOrder}
use Rattle.encodings.specs.Rules.{Rules, Basic, Distinguished}
use Rattle.encodings.specs.Encoding.{Framed, bare, innermost, outer, EncodesTo, says, ContentsEncode, leaf, sequence, set, sequence_of, set_of, choice, Members, no_member, Elements, IsDefault, Der, Ber}
use Rattle.codec_code.specs.declared.step.Field.{Field as Field'}
use Rattle.encodings.specs.declared.leaf_kind.LeafKind.{LeafKind}
use Rattle.codec_code.specs.declared.step.Step.{Step}
use Rattle.codec_code.specs.declared.step.Step.TheVariants.{Leaf, Call}
use Rattle.codec_code.specs.declared.step.RowKind.{RowKind}
use Rattle.codec_code.specs.Routines.{id_of, field_of, heads, is_constructed, routine_at, row_of, body, ends, fields_from, rest_if, choice_of, calls, component_in, need_of}
use Rattle.codec_code.specs.Steps.{IsDefaultAt}
use Rattle.encodings.specs.Leaves.{plain}
use Rattle.der_check.specs.declared.refusal.Refusal.{Refusal}
use Rattle.der_check.specs.declared.refusal.Refusal.TheVariants.{Broken, Memory}
use Rattle.der_check.specs.declared.rule.Breach.{Breach}
use Rattle.der_check.specs.declared.rule.RuleOfDer.{RuleOfDer}
use Rattle.der_check.specs.declared.rule.RuleOfDer.TheVariants.{FewestLengthOctets, PrimitiveString, NoDefault, OrderOfElements}
use Rattle.der_check.specs.Broken.{IsFirst, HasLongHeader, falls_here, falls_later, HasInnermost, PrimitiveBreaks, StartsAt, starts_first, starts_later, FirstFall, HasMember, HasElement, Breaks, long_length, in_segments, by_contents, ContentsBreak, by_primitive, in_sequence, in_set, by_tag, in_sequence_of, in_set_of, by_element, in_choice, MemberBreaks, in_member, by_default}
use Rattle.der_check.specs.Heads.{IsBare, IsWithinHeaders, no_head, in_head, HeadersBreak, one_long, form_differs, FrameBreaks}
use Rattle.der_check.specs.Sets.{ReadsComponents}
use Rattle.der_check.proofs.Taking.{HasPart, part_length}
use Rattle.der_check.specs.Strict.{IsRefused, IsFound, IsMoved, Judges, PartBreaks, PartBreaksIn, SequenceBreaks, sequence_breaks, SetBreaks, member_breaks, tag_breaks, ElementsBreak, element_breaks, Decides, form_of, begins_ranked, element_type, ValueGiven, ContentsGiven, ElementsGiven, StepsGiven, SequenceGiven, SetGiven, MemberGiven, MemberBy, PartGiven, PartBy, ComesFirst, IsAmong, SequenceBy, SetBy}
use Rattle.der_check.proofs.Split.{HeadersApart, AllUnits, unit_some, units_list}
use Rattle.der_check.proofs.Frames.{long_not, one_form, one_contents, breaks_form, long_same, innermost_same, framed_inner}
use Rattle.der_check.proofs.Shortened.{inside_short}
use Rattle.der_check.proofs.Climbing.{reads_fields, reads_ranked}
use Rattle.der_check.proofs.KindParts.{ListParts, elements_units, says_begins, same_tags, same_kind, routine_is, bare_body, IsFramed, heads_framed, framed_heads, same_frame, strict_form, SequenceParts, sequence_parts, sequence_units, sequence_same, counted, fields_split, ranked_split, sequence_of_parts, set_of_parts, list_units, elements_of, members_of, chosen}
use Rattle.der_check.proofs.SetParts.{SetParts, set_once, units_same, permutes_nothing, merges_nothing, set_parts, set_parted, set_units, set_placed, set_same}
use Rattle.der_check.proofs.Leafs.{HoldsOthers, flat_contents, is_plain}

some_same : {A : Type 0} {x y : A} → Some x ≡ Some y → x ≡ y
some_same e = cc

none_some : {A : Type 0} {x : A} → None ≡ Some x → ⊥
none_some e = cc

pub no_some : {A : Type 0} {x : A} {P : Type 0} → None ≡ Some x → P
no_some e = absurd (none_some e)

-- a decision on one thing is one on another that holds exactly if the first does
pub decides_as : {P Q : ℕ → Type 0} (r : Result Bool Refusal) → ((j : ℕ) → P j → Q j) → ((j : ℕ) → Q j → P j) → Decides P r → Decides Q r
decides_as (Err e) f g d = λ h j q. d h j (g j q)
decides_as (Ok b) f g d = (d.0, f d.0 d.1, d.2)

abbrev pub Judged : List Resolved → TypeNumber → AbstractValue → List ℕ → Result Bool Refusal → Type 0
Judged s t v o r = Judges (λ j. EncodesTo s Distinguished t v j o) (Breaks s t v o) (length o) r

abbrev pub ContentsJudged : List Resolved → Kind → AbstractValue → List ℕ → Result Bool Refusal → Type 0
ContentsJudged s k v x r = Judges (λ j. ContentsEncode s Distinguished k v j (form_of k) x) (ContentsBreak s k v (form_of k) x) (length x) r

abbrev pub MemberJudged : List Resolved → Component → AbstractValue → List ℕ → Result Bool Refusal → Type 0
MemberJudged s c v x r = Judges (MemberBy s c v x) (MemberBreaks s c v x) (length x) r

-- what is found of one thing is found of another
first_as : (B C : RuleOfDer → ℕ → Type 0) {r : RuleOfDer} {n : ℕ} → ((r : RuleOfDer) (n : ℕ) → B r n → C r n) → ((r : RuleOfDer) (n : ℕ) → C r n → B r n) → IsFirst B r n → IsFirst C r n
first_as B C {r} {n} f g h = record { broken = f r n h.broken; none_before = λ q m c. h.none_before q m (g q m c) }

pub found_as : (B C : RuleOfDer → ℕ → Type 0) (l : ℕ) (e : Refusal) → ((r : RuleOfDer) (n : ℕ) → B r n → C r n) → ((r : RuleOfDer) (n : ℕ) → C r n → B r n) → IsFound B l e → IsFound C l e
found_as B C l (Broken b) f g h = (first_as B C f g h.0, h.1)
found_as B C l Memory f g h = tt

pub judges_as : (P Q : ℕ → Type 0) (B C : RuleOfDer → ℕ → Type 0) (l : ℕ) (r : Result Bool Refusal) → ((j : ℕ) → P j → Q j) → ((j : ℕ) → Q j → P j) → ((q : RuleOfDer) (n : ℕ) → B q n → C q n) → ((q : RuleOfDer) (n : ℕ) → C q n → B q n) → Judges P B l r → Judges Q C l r
judges_as P Q B C l (Ok b) f g h i d = (decides_as (Ok b) f g d.0, tt)
judges_as P Q B C l (Err e) f g h i d = (decides_as (Err e) f g d.0, found_as B C l e h i d.1)

-- the same at a distance
pub refused_moved : (d : ℕ) (e f : Refusal) → IsMoved d e f → IsRefused f → IsRefused e
refused_moved d (Broken b) f m h = tt
refused_moved d Memory (Broken c) m h = absurd m
refused_moved d Memory Memory m h = h

-- what breaks a rule of C is at distance d what breaks it of B, or comes after the l octets of that
abbrev pub Covers : (RuleOfDer → ℕ → Type 0) → (RuleOfDer → ℕ → Type 0) → ℕ → ℕ → Type 0
Covers B C l d = (q : RuleOfDer) (m : ℕ) → C q m → ((p : ℕ) × B q p × (d + p ≤ m)) ⊎ (d + l ≤ m)

first_moved : (B C : RuleOfDer → ℕ → Type 0) (d l : ℕ) {r : RuleOfDer} {n : ℕ} → ((r : RuleOfDer) (n : ℕ) → B r n → C r (d + n)) → Covers B C l d → n < l → IsFirst B r n → IsFirst C r (d + n)
first_moved B C d l {r} {n} f g lt h = record {
  broken = f r n h.broken;
  none_before = λ q m c. ⊎_elim (λ a. let w = h.none_before q a.0 a.1 in let z = a.2 in omega (arith, w, z)) (λ a. omega (arith, a, lt)) (g q m c);
}

pub found_moved : (B C : RuleOfDer → ℕ → Type 0) (d l m : ℕ) (e f : Refusal) → IsMoved d e f → d + l ≤ m → m ≤ 16777216 → ((r : RuleOfDer) (n : ℕ) → B r n → C r (d + n)) → Covers B C l d → IsFound B l e → IsFound C m f
found_moved B C d l m (Broken b) (Broken c) mv le mm g v h =
    let w = h.1 in
    let big : 16777216 < 2 ^ 64 = lit< tt in
    let at : c.offset ≡ d + b.offset = mv.1 (omega (arith, w, le, mm, big)) in
    (subst (IsFirst C c.rule) (sym at) (subst (λ q. IsFirst C q (d + b.offset)) (sym mv.0) (first_moved B C d l g v h.1 h.0)), omega (arith, w, le, at))
found_moved B C d l m (Broken b) Memory mv le mm g v h = absurd mv
found_moved B C d l m Memory (Broken c) mv le mm g v h = absurd mv
found_moved B C d l m Memory Memory mv le mm g v h = tt

pub judges_moved : (P Q : ℕ → Type 0) (B C : RuleOfDer → ℕ → Type 0) (d l m : ℕ) (e f : Refusal) → IsMoved d e f → ((j : ℕ) → Q j → P j) → d + l ≤ m → m ≤ 16777216 → ((r : RuleOfDer) (n : ℕ) → B r n → C r (d + n)) → Covers B C l d → Judges P B l (Err e) → Judges Q C m (Err f)
judges_moved P Q B C d l m e f mv b le mm g v h = (λ i j q. h.0 (refused_moved d e f mv i) j (b j q), found_moved B C d l m e f mv le mm g v h.1)

-- ---- a value

pub no_levels : {s : List Resolved} {n t : ℕ} {v : AbstractValue} → ValueIn s n t v → n ≡ 0 → ⊥
no_levels (value_in i h) e = omega arith

within_short : {ss rs : List Step} {o x : List ℕ} → IsWithinHeaders ss o rs x → length o ≤ 16777216 → length x ≤ 16777216
within_short (no_head b) l = l
within_short (in_head i w) l = within_short w (inside_short i l)

-- the steps after the headers, and what is within them
pub record IsSomewhere (st : List Step) (o : List ℕ) : Type 0 where
  pub steps : List Step
  pub contents : List ℕ
  pub within : IsWithinHeaders st o steps contents

pub strict_within : {s : List Resolved} {t j : ℕ} {v : AbstractValue} {o : List ℕ} (st : List Step) → st ≡ routine_at s t → EncodesTo s Distinguished t v j o → IsSomewhere st o
strict_within {s} {t} {o = o} st e (says {tags = tags} {k = k} {c = c} {x = x} i h f) =
    let b = body s k ++ ends (length tags) in
    let w = framed_heads tags (row_of k) b (bare_body s k (length tags)) (subst (λ q. Framed Distinguished tags q x o) (strict_form h) f) in
    record { steps = b; contents = x; within = subst (λ q. IsWithinHeaders q o b x) (sym (e ∙ routine_is s t tags k i)) w }

-- what is given of the contents, and what it says of the value
pub record Opened (s : List Resolved) (t m : ℕ) (v : AbstractValue) (ss : List Step) (x o : List ℕ) : Type 0 where
  pub kind : Kind
  pub given : ContentsGiven s t m ss v kind x
  pub there : (j : ℕ) → ContentsEncode s Distinguished kind v j (form_of kind) x → EncodesTo s Distinguished t v j o
  pub back : (j : ℕ) → EncodesTo s Distinguished t v j o → ContentsEncode s Distinguished kind v j (form_of kind) x
  pub breaks : (r : RuleOfDer) (n : ℕ) → ContentsBreak s kind v (form_of kind) x r n → Breaks s t v o r ((length o - length x) + n)
  pub only : (r : RuleOfDer) (m : ℕ) → Breaks s t v o r m → (n : ℕ) × ContentsBreak s kind v (form_of kind) x r n × (m ≡ (length o - length x) + n)
  pub inner : length x ≤ length o

framed_basic : {r : Rules} {tags : List Tag} {c : Bool} {x o : List ℕ} → Framed r tags c x o → Framed Basic tags c x o
framed_basic bare = bare
framed_basic (innermost h) = innermost (record { header = h.header; fewest = tt })
framed_basic (outer f h) = outer (framed_basic f) (record { header = h.header; fewest = tt })

-- what breaks a rule in headers of the distinguished rules is in the contents
only_contents : HeadersApart → {s : List Resolved} {t : ℕ} {tags : List Tag} {k : Kind} {v : AbstractValue} {x o : List ℕ} {m : ℕ} {r : RuleOfDer} → Is s t tags k → Framed Distinguished tags (form_of k) x o → Breaks s t v o r m → (n : ℕ) × ContentsBreak s k v (form_of k) x r n × (m ≡ (length o - length x) + n)
only_contents law {tags = tags} {o = o} i fr (long_length {n = n} {c = d} {x = y} i' h l) = absurd (long_not law (subst (λ q. HasLongHeader q d y o n) (same_tags i' i) l) fr refl)
only_contents law {s} {tags = tags} {o = o} i fr (in_segments {n = n} {x = y} i' con p) =
    let f = one_form law (subst (λ q. HasInnermost q true y o n) (same_tags i' i) p) fr refl in
    absurd (let e : true ≡ false = f ∙ ap form_of (sym (same_kind i' i)) ∙ (is_plain s con).form in cc)
only_contents law {s} {tags = tags} {k = k} {v = v} {x = x} {o = o} {r = r} i fr (by_contents {n = n} {k = k'} {c = d} {x = y} i' f b) =
    let inside : y ≡ x = one_contents law tags (subst (λ q. Framed Basic q d y o) (same_tags i' i) f) fr in
    let form : d ≡ form_of k = breaks_form b ∙ ap form_of (same_kind i' i) in
    (n, subst (λ q. ContentsBreak s k v (form_of k) q r n) inside (subst (λ q. ContentsBreak s k v q y r n) form (subst (λ q. ContentsBreak s q v d y r n) (same_kind i' i) b)), ap (λ q. (length o - length q) + n) inside)

pub value_opened : HeadersApart → {s : List Resolved} {t n : ℕ} {v : AbstractValue} {st ss : List Step} {x o : List ℕ} (m : ℕ) → n ≡ suc m → IsSchema s → st ≡ routine_at s t → ValueGiven s t n v o → IsWithinHeaders st o ss x → Opened s t m v ss x o
value_opened law {s} {t} {n} {v} {st} {ss} {x} {o} m lev sch e g w = by n lev g.few g.value g.says_it
  where
    said : {tags : List Tag} {k : Kind} {j : ℕ} → Is s t tags k → IsFramed (body s k ++ ends (length tags)) tags (form_of k) ss x o → EncodesTo s Distinguished t v j o → ContentsEncode s Distinguished k v j (form_of k) x
    said {tags} {k} {j} i fr (says {tags = tags'} {k = k'} {c = c'} {x = x'} i' h' f') =
        let h2 = subst (λ q. ContentsEncode s Distinguished q v j c' x') (same_kind i' i) h' in
        let f2 = subst (λ q. Framed Distinguished q c' x' o) (same_tags i' i) f' in
        same_frame law tags (λ q. sch.tagged t k (subst (λ z. Is s t z k) q i)) fr.framed f2 h2

    by : (n : ℕ) → n ≡ suc m → n ≤ 64 → ValueIn s n t v → EncodesTo s Basic t v g.count o → Opened s t m v ss x o
    by zero lv few val d = elim val [ ]
    by (suc n') lv few (value_in {k = k} i val) (says {tags = tags'} {k = k'} {c = c} {x = xb} i' hb fb) =
        let same : n' ≡ m = omega arith in
        let w2 = subst (λ q. IsWithinHeaders q o ss x) (e ∙ routine_is s t tags' k' i') w in
        let fr = heads_framed tags' (row_of k') (body s k' ++ ends (length tags')) (bare_body s k' (length tags')) w2 in
        record {
          kind = k';
          given = record {
            few = (omega arith);
            tags = tags';
            is = i';
            ended = length tags';
            steps = fr.steps;
            value = subst (λ q. ValueOf s q k' v) same (subst (λ q. ValueOf s n' q v) (same_kind i i') val);
            count = g.count;
            holds_it = same_frame law tags' (λ q. sch.tagged t k' (subst (λ z. Is s t z k') q i')) fr.framed fb hb;
            short = within_short w g.short;
          };
          there = λ j h. says i' h fr.framed;
          back = λ j d. said i' fr d;
          breaks = λ r n b. by_contents i' (framed_basic fr.framed) b;
          only = λ r m b. only_contents law i' fr.framed b;
          inner = framed_inner fr.framed;
        }

-- a string in segments
segmented : {s : List Resolved} {t m n : ℕ} {tags : List Tag} {k : Kind} {v : AbstractValue} {c : Bool} {x o : List ℕ} → Is s t tags k → ContentsEncode s Basic k v m c x → (c ≡ form_of k → ⊥) → HasInnermost tags c x o n → Breaks s t v o PrimitiveString n
segmented {s} i (leaf {c = true} con) n p = in_segments i con p
segmented {s} i (leaf {c = false} con) n p = absurd (n (sym (is_plain s con).form))
segmented i (sequence ms u) n p = absurd (n refl)
segmented i (set ms q st u m) n p = absurd (n refl)
segmented i (sequence_of es) n p = absurd (n refl)
segmented i (set_of es st) n p = absurd (n refl)
segmented i (choice g a) n p = absurd (n refl)

by_headers : {s : List Resolved} {t m n : ℕ} {tags : List Tag} {k : Kind} {v : AbstractValue} {c : Bool} {x o : List ℕ} {r : RuleOfDer} → Is s t tags k → ContentsEncode s Basic k v m c x → HeadersBreak (form_of k) tags c x o r n → Breaks s t v o r n
by_headers i h (one_long l) = long_length i h l
by_headers i h (form_differs n p) = segmented i h n p

before_all : HeadersApart → {s : List Resolved} {t : ℕ} {tags : List Tag} {k : Kind} {v : AbstractValue} {c : Bool} {x o : List ℕ} {m : ℕ} {r : RuleOfDer} (b : Breach) → Is s t tags k → Framed Basic tags c x o → FrameBreaks (form_of k) tags c x o b → Breaks s t v o r m → b.offset ≤ m
before_all law {tags = tags} {o = o} b i fr q (long_length {n = n} {c = d} {x = y} i' h l) = q.first.none_before FewestLengthOctets n (one_long (long_same law tags (subst (λ z. HasLongHeader z d y o n) (same_tags i' i) l) fr))
before_all law {s} {tags = tags} {k = k} {o = o} b i fr q (in_segments {n = n} {x = y} i' con p) =
    let z = innermost_same law tags (subst (λ q. HasInnermost q true y o n) (same_tags i' i) p) fr in
    q.first.none_before PrimitiveString n (form_differs (λ f. let e : true ≡ false = z.0 ∙ f ∙ ap form_of (sym (same_kind i' i)) ∙ (is_plain s con).form in cc) z.1)
before_all law {tags = tags} {o = o} b i fr q (by_contents {n = n} {c = d} {x = y} i' f e) =
    let l = ap length (one_contents law tags (subst (λ q. Framed Basic q d y o) (same_tags i' i) f) fr) in
    let w = q.within in
    omega (arith, l, w)

pub headers_found : HeadersApart → {s : List Resolved} {t n : ℕ} {v : AbstractValue} {st : List Step} {o : List ℕ} (b : Breach) → st ≡ routine_at s t → ((tags : List Tag) (r : RowKind) (ss : List Step) (c : Bool) (x : List ℕ) → st ≡ heads tags r ++ ss → IsBare ss → Framed Basic tags c x o → length o ≤ 16777216 → FrameBreaks (is_constructed r) tags c x o b) → ValueGiven s t n v o → IsFirst (Breaks s t v o) b.rule b.offset × (b.offset < length o)
headers_found law {s} {t} {v = v} {st = st} {o = o} b e f g = by g.says_it
  where
    by : {m : ℕ} → EncodesTo s Basic t v m o → IsFirst (Breaks s t v o) b.rule b.offset × (b.offset < length o)
    by (says {tags = tags} {k = k} {c = c} {x = x} i h fr) =
        let q = f tags (row_of k) (body s k ++ ends (length tags)) c x (e ∙ routine_is s t tags k i) (bare_body s k (length tags)) fr g.short in
        (record { broken = by_headers i h q.first.broken; none_before = λ r p z. before_all law b i fr q z }, let w = q.within in omega (arith, w))

-- ---- contents that hold no others

-- the same of a value that is known by an equation
pub of_same : {s : List Resolved} {t n : ℕ} {ss : List Step} {x : List ℕ} {v w : AbstractValue} (r : Result Bool Refusal) → v ≡ w → ((k : Kind) → ContentsGiven s t n ss w k x → ContentsJudged s k w x r) → (k : Kind) → ContentsGiven s t n ss v k x → ContentsJudged s k v x r
of_same {s} {t} {n} {ss} {x} r e f = subst (λ q. (k : Kind) → ContentsGiven s t n ss q k x → ContentsJudged s k q x r) (sym e) f

-- what a leaf is given as
pub record LeafGiven (s : List Resolved) (k : Kind) (v : AbstractValue) (ss : List Step) (x : List ℕ) : Type 0 where
  pub kind : LeafKind
  pub rest : List Step
  pub steps : ss ≡ Leaf kind ∷ rest
  pub basic : Contents Basic (plain kind) v false x
  pub there : (j : ℕ) → ContentsEncode s Distinguished k v j (form_of k) x → Contents Distinguished (plain kind) v false x
  pub back : Contents Distinguished (plain kind) v false x → ContentsEncode s Distinguished k v 0 (form_of k) x
  pub breaks : (r : RuleOfDer) (n : ℕ) → PrimitiveBreaks (plain kind) v x r n → ContentsBreak s k v (form_of k) x r n
  pub only : (r : RuleOfDer) (n : ℕ) → ContentsBreak s k v (form_of k) x r n → PrimitiveBreaks (plain kind) v x r n

flat_only : {s : List Resolved} {k : Kind} {v : AbstractValue} {c : Bool} {x : List ℕ} {r : RuleOfDer} {n : ℕ} → (HoldsOthers v → ⊥) → ContentsBreak s k v c x r n → PrimitiveBreaks k v x r n
flat_only f (by_primitive p) = p
flat_only f (in_sequence ms u h b) = absurd (f tt)
flat_only f (in_set ms p u m h a b) = absurd (f tt)
flat_only f (by_tag ms p u m a b) = absurd (f tt)
flat_only f (in_sequence_of es h b) = absurd (f tt)
flat_only f (in_set_of es h b) = absurd (f tt)
flat_only f (by_element es a) = absurd (f tt)
flat_only f (in_choice at b) = absurd (f tt)

pub leaf_given : {s : List Resolved} {t n : ℕ} {ss : List Step} {x : List ℕ} {v : AbstractValue} {k : Kind} → (HoldsOthers v → ⊥) → ContentsGiven s t n ss v k x → LeafGiven s k v ss x
leaf_given {s} {ss = ss} {x = x} {v = v} {k = k} flat g =
    let con = (flat_contents flat g.holds_it).0 in
    let p = is_plain s con in
    record {
      kind = p.kind;
      rest = ends g.ended;
      steps = g.steps ∙ ap (λ q. q ++ ends g.ended) p.steps;
      basic = subst (λ q. Contents Basic (plain p.kind) v q x) p.form p.basic;
      there = λ j h. subst (λ q. Contents Distinguished (plain p.kind) v q x) p.form (p.there (flat_contents flat h).0);
      back = λ h. leaf (p.back (subst (λ q. Contents Distinguished (plain p.kind) v q x) (sym p.form) h));
      breaks = λ r n b. subst (λ q. ContentsBreak s k v q x r n) (sym p.form) (by_primitive (p.breaks r n b));
      only = λ r n b. p.only r n (flat_only flat b);
    }

pub leaf_decided : {s : List Resolved} {t n : ℕ} {ss : List Step} {x : List ℕ} {w : AbstractValue} (r : Result Bool Refusal) {v : AbstractValue} → v ≡ w → (HoldsOthers w → ⊥) → ((lk : LeafKind) (rest : List Step) (u : AbstractValue) → ss ≡ Leaf lk ∷ rest → Contents Basic (plain lk) u false x → Judges (λ j. (j ≡ 0) × Contents Distinguished (plain lk) u false x) (PrimitiveBreaks (plain lk) u x) (length x) r) → (k : Kind) → ContentsGiven s t n ss v k x → ContentsJudged s k v x r
leaf_decided {s} {t} {n} {ss} {x} {w} r e flat f = of_same r e (λ k g.
    let l = leaf_given flat g in
    judges_as _ _ _ _ (length x) r (λ j h. subst (λ q. ContentsEncode s Distinguished k w q (form_of k) x) (sym h.0) (l.back h.1)) (λ j h. ((flat_contents flat h).1, l.there j h)) l.breaks l.only (f l.kind l.rest w l.steps l.basic))

-- ---- an alternative

pub record ChoiceGiven (s : List Resolved) (n i : ℕ) (k : Kind) (w : AbstractValue) (ss : List Step) (x : List ℕ) : Type 0 where
  pub all : List Alternative
  pub rest : List Step
  pub alternative_there : Alternative
  pub steps : ss ≡ choice_of all ++ rest
  pub is_at : slice_get all i ≡ Some alternative_there
  pub given : ValueGiven s alternative_there.type n w x
  pub there : (j : ℕ) → EncodesTo s Distinguished alternative_there.type w j x → ContentsEncode s Distinguished k (alternative i w) j (form_of k) x
  pub back : (j : ℕ) → ContentsEncode s Distinguished k (alternative i w) j (form_of k) x → EncodesTo s Distinguished alternative_there.type w j x
  pub breaks : (r : RuleOfDer) (n : ℕ) → Breaks s alternative_there.type w x r n → ContentsBreak s k (alternative i w) (form_of k) x r n
  pub only : (r : RuleOfDer) (n : ℕ) → ContentsBreak s k (alternative i w) (form_of k) x r n → Breaks s alternative_there.type w x r n

choice_only : {s : List Resolved} {root more : List Alternative} {e : Bool} {i n : ℕ} {w : AbstractValue} {b : Bool} {x : List ℕ} {r : RuleOfDer} {a : Alternative} → ContentsBreak s (a_choice root e more) (alternative i w) b x r n → slice_get (root ++ more) i ≡ Some a → Breaks s a.type w x r n
choice_only (by_primitive p) e = elim p [ ]
choice_only {s} {n = n} {w = w} {x = x} {r = r} (in_choice {a = d} at b) e = subst (λ q. Breaks s q.type w x r n) (some_same (sym at ∙ e)) b

chosen_value : {s : List Resolved} {n i : ℕ} {root more : List Alternative} {e : Bool} {w : AbstractValue} {a : Alternative} → ValueOf s n (a_choice root e more) (alternative i w) → slice_get (root ++ more) i ≡ Some a → ValueIn s n a.type w
chosen_value (of_leaf f) e = elim f [ ]
chosen_value {s} {n} {w = w} (of_choice g v) e = subst (λ q. ValueIn s n q.type w) (some_same (sym g ∙ e)) v

pub choice_given : {s : List Resolved} {t n i : ℕ} {ss : List Step} {x : List ℕ} {w : AbstractValue} (k : Kind) → ContentsGiven s t n ss (alternative i w) k x → ChoiceGiven s n i k w ss x
choice_given {s} {n = n} {i = i} {ss = ss} {x = x} {w = w} k g = by k g.holds_it g.value g.steps
  where
    by : (k : Kind) {m : ℕ} → ContentsEncode s Basic k (alternative i w) m (form_of k) x → ValueOf s n k (alternative i w) → ss ≡ body s k ++ ends g.ended → ChoiceGiven s n i k w ss x
    by k (leaf con) v e = elim con [ ]
    by (a_choice root em more) {m} (choice {a = a} at h) v e =
        record {
          all = root ++ more;
          rest = ends g.ended;
          alternative_there = a;
          steps = e;
          is_at = at;
          given = record { few = g.few; value = chosen_value v at; count = m; says_it = h; short = g.short };
          there = λ j d. choice at d;
          back = λ j d. chosen d at;
          breaks = λ r n b. in_choice at b;
          only = λ r n b. choice_only b at;
        }

pub called_at : (as' : List Alternative) (ss : List Step) (i : ℕ) (a : Alternative) → slice_get as' i ≡ Some a → slice_get (calls as' ++ ss) i ≡ Some (Call (id_of a.type))
called_at [] ss i a e = absurd (none_some e)
called_at (b ∷ bs) ss zero a e = ap (λ q. Some (Call (id_of q.type))) (some_same e)
called_at (b ∷ bs) ss (suc i) a e = called_at bs ss i a e

-- ---- components

-- the steps of type t read the components of its kind
pub steps_given : {s : List Resolved} {t : ℕ} {tags : List Tag} {k : Kind} {ss : List Step} (cs : List Component) → Is s t tags k → components k ≡ cs → ReadsComponents cs 0 ss → StepsGiven s t ss cs
steps_given {s} {t} cs i e r = record { reads = r; placed = λ j c at. ap (λ o. elim o [ None ↦ None | Some q ↦ slice_get (components q.kind) j ]) i.found ∙ ap (λ q. slice_get q j) e ∙ at }

sequence_values : {s : List Resolved} {n : ℕ} {e : Bool} {cs : List Component} {vs : Row} → ValueOf s n (a_sequence e cs) (fields vs) → AreComponents s n cs vs
sequence_values (of_leaf f) = elim f [ ]
sequence_values (of_sequence a g) = a

set_values : {s : List Resolved} {n : ℕ} {e : Bool} {cs : List Component} {vs : Row} → ValueOf s n (a_set e cs) (fields vs) → AreComponents s n cs vs
set_values (of_leaf f) = elim f [ ]
set_values (of_set a g) = a

-- a value has as many places as its type has components, of which there are few
as_many : {s : List Resolved} {n : ℕ} (cs : List Component) (os : List (Option AbstractValue)) → AreComponents s n cs (row_of_options os) → length os ≡ length cs
as_many [] [] a = refl
as_many [] (None ∷ os) a = elim a [ ]
as_many [] (Some v ∷ os) a = elim a [ ]
as_many (c ∷ cs) [] a = elim a [ ]
as_many (c ∷ cs) (None ∷ os) (component_absent m a) = ap suc (as_many cs os a)
as_many (c ∷ cs) (Some v ∷ os) (component_present v' a) = ap suc (as_many cs os a)

few_listed : {s : List Resolved} {e : Bool} (cs : List Component) → AreListed s e cs → length cs ≤ 320
few_listed cs l =
    let p = ap length l.parts in
    let q = length-append l.root l.more in
    let f = l.few_root in
    let g = l.few_more in
    omega (arith, p, q, f, g)

few_places_of : {s : List Resolved} {n : ℕ} (cs : List Component) (os : List (Option AbstractValue)) → length cs ≤ 320 → AreComponents s n cs (row_of_options os) → length os ≤ 320
few_places_of cs os l a = let e = as_many cs os a in omega (arith, e, l)

-- contents of a SEQUENCE, or of a SET without components
pub record AsSequence (s : List Resolved) (t n : ℕ) (ss : List Step) (os : List (Option AbstractValue)) (k : Kind) (x : List ℕ) : Type 0 where
  pub all : List Component
  pub known : List (List ℕ)
  pub others : List (List ℕ)
  pub given : SequenceGiven s t n ss os all known others x
  pub there : (j : ℕ) → SequenceBy s os all known others j → ContentsEncode s Distinguished k (fields (row_of_options os)) j (form_of k) x
  pub back : (j : ℕ) → ContentsEncode s Distinguished k (fields (row_of_options os)) j (form_of k) x → SequenceBy s os all known others j
  pub breaks : (r : RuleOfDer) (n : ℕ) → SequenceBreaks s all (row_of_options os) known r n → ContentsBreak s k (fields (row_of_options os)) (form_of k) x r n
  pub only : (r : RuleOfDer) (n : ℕ) → ContentsBreak s k (fields (row_of_options os)) (form_of k) x r n → SequenceBreaks s all (row_of_options os) known r n

-- of a SET
pub record AsSet (s : List Resolved) (t n : ℕ) (ss : List Step) (os : List (Option AbstractValue)) (k : Kind) (x : List ℕ) : Type 0 where
  pub all : List Component
  pub known : List (List ℕ)
  pub in_order : List (List ℕ)
  pub others : List (List ℕ)
  pub units : List (List ℕ)
  pub given : SetGiven s t n ss os all known in_order others units x
  pub there : (j : ℕ) → SetBy s os all known in_order others j → ContentsEncode s Distinguished k (fields (row_of_options os)) j (form_of k) x
  pub back : (j : ℕ) → ContentsEncode s Distinguished k (fields (row_of_options os)) j (form_of k) x → SetBy s os all known in_order others j
  pub breaks : (r : RuleOfDer) (n : ℕ) → SetBreaks s all (row_of_options os) known in_order units r n → ContentsBreak s k (fields (row_of_options os)) (form_of k) x r n
  pub only : (r : RuleOfDer) (n : ℕ) → ContentsBreak s k (fields (row_of_options os)) (form_of k) x r n → SetBreaks s all (row_of_options os) known in_order units r n

never_ranked : false ≡ true → ⊥
never_ranked e = cc

ends_not_ranked : (e : Bool) (n : ℕ) → begins_ranked (rest_if e ++ ends n) ≡ false
ends_not_ranked true n = refl
ends_not_ranked false zero = refl
ends_not_ranked false (suc n) = refl

-- a SEQUENCE's steps begin with no component of a SET
fields_not_ranked : (e : Bool) (cs : List Component) (n : ℕ) → begins_ranked (fields_from 0 cs ++ (rest_if e ++ ends n)) ≡ false
fields_not_ranked e [] n = ends_not_ranked e n
fields_not_ranked e (c ∷ cs) n = refl

known_none : {s : List Resolved} {r : Rules} {ws : Row} {n : ℕ} {xs : List (List ℕ)} → Members s r [] ws n xs → (xs ≡ []) × (n ≡ 0)
known_none no_member = (refl, refl)

sequence_only : HeadersApart → {s : List Resolved} {e : Bool} {cs : List Component} {ws : Row} {n m : ℕ} {b : Bool} {o : List ℕ} {r : RuleOfDer} → AllTagged s → (p : SequenceParts s Basic e cs ws n o) → ContentsBreak s (a_sequence e cs) (fields ws) b o r m → SequenceBreaks s cs ws p.known r m
sequence_only law all p (by_primitive q) = elim q [ ]
sequence_only law {s} {e} {cs} {ws} all p (in_sequence {j = j} {k = k} {m = l} {xs = xs} {us = us} {c = c} {w = w} {x = x} ms u h b) =
    let q : SequenceParts s Basic e cs ws (j + k) (concat (xs ++ us)) = record { known = xs; others = us; count = j; skipped = k; members = ms; unknown_ones = u; whole = refl; counts = refl } in
    sequence_breaks (subst (λ z. HasMember cs ws z c w x l) (sequence_same law all p q).0 h) b

set_only : HeadersApart → {s : List Resolved} {e : Bool} {cs : List Component} {ws : Row} {n m : ℕ} {b : Bool} {o : List ℕ} {r : RuleOfDer} → AllTagged s → AllApart s (map (λ c. c.type) cs) → (p : SetParts s Basic e cs ws n o) → ContentsBreak s (a_set e cs) (fields ws) b o r m → SetBreaks s cs ws p.known p.in_order p.all r m
set_only law all ap' p (by_primitive q) = elim q [ ]
set_only law {s} {e} {cs} {ws} all ap' p (in_set {j = j} {k = k} {m = l} {p = o} {xs = xs} {zs = zs} {us = us} {ys = ys} {c = c} {w = w} {x = x} ms pm u mg h st b) =
    let q : SetParts s Basic e cs ws (j + k) (concat ys) = record { known = xs; in_order = zs; others = us; all = ys; count = j; skipped = k; members = ms; permutes = pm; sorted = tt; unknown_ones = u; merges = mg; whole = refl; counts = refl } in
    member_breaks (subst (λ z. HasMember cs ws z c w x o) (set_same law all ap' p q).known h) (subst (StartsAt x l) (units_same law all p q) st) b
set_only law {s} {e} {cs} {ws} all ap' p (by_tag {j = j} {k = k} {n = l} {p = o} {xs = xs} {zs = zs} {us = us} {ys = ys} {x = x} ms pm u mg f st) =
    let q : SetParts s Basic e cs ws (j + k) (concat ys) = record { known = xs; in_order = zs; others = us; all = ys; count = j; skipped = k; members = ms; permutes = pm; sorted = tt; unknown_ones = u; merges = mg; whole = refl; counts = refl } in
    tag_breaks (subst (λ z. FirstFall InTagOrder z x o) (set_same law all ap' p q).in_order f) (subst (StartsAt x l) (units_same law all p q) st)

elements_only : HeadersApart → {s : List Resolved} {c : Constraint} {u : TypeNumber} {ws : Row} {m : ℕ} {b : Bool} {o : List ℕ} {r : RuleOfDer} (encs : List (List ℕ)) → AllTagged s → AllUnits encs → o ≡ concat encs → ContentsBreak s (a_sequence_of c u) (list ws) b o r m → ElementsBreak s u ws encs r m
elements_only law encs all a e (by_primitive q) = elim q [ ]
elements_only law {ws = ws} encs all a e (in_sequence_of {m = l} {xs = xs} {w = w} {x = x} es h b) = element_breaks (subst (λ z. HasElement ws z w x l) (units_list law xs encs (elements_units all es) a e) h) b

set_of_only : HeadersApart → {s : List Resolved} {c : Constraint} {u : TypeNumber} {ws : Row} {m : ℕ} {b : Bool} {o : List ℕ} {r : RuleOfDer} (encs : List (List ℕ)) → AllTagged s → AllUnits encs → o ≡ concat encs → ContentsBreak s (a_set_of c u) (list ws) b o r m → ElementsBreak s u ws encs r m ⊎ ((y : List ℕ) × FirstFall AtMost encs y m)
set_of_only law encs all a e (by_primitive q) = elim q [ ]
set_of_only law {ws = ws} encs all a e (in_set_of {m = l} {xs = xs} {w = w} {x = x} es h b) = inl (element_breaks (subst (λ z. HasElement ws z w x l) (units_list law xs encs (elements_units all es) a e) h) b)
set_of_only law encs all a e (by_element {n = l} {xs = xs} {x = x} es f) = inr (x, subst (λ z. FirstFall AtMost z x l) (units_list law xs encs (elements_units all es) a e) f)

module _ (law : HeadersApart) {s : List Resolved} (sch : IsSchema s) where
  of_sequence_kind : {t n : ℕ} {ss : List Step} {os : List (Option AbstractValue)} {e : Bool} {cs : List Component} {x : List ℕ} → ContentsGiven s t n ss (fields (row_of_options os)) (a_sequence e cs) x → AsSequence s t n ss os (a_sequence e cs) x
  of_sequence_kind {t} {n} {ss} {os} {e} {cs} {x} g =
      let p = sequence_parts g.holds_it in
      record {
        all = cs;
        known = p.known;
        others = p.others;
        given = record {
          few = g.few;
          steps = steps_given cs g.is refl (subst (ReadsComponents cs 0) (sym (g.steps ∙ fields_split e cs g.ended)) (reads_fields e g.ended 0 cs));
          few_places = few_places_of cs os (few_listed cs (sch.sound t g.tags (a_sequence e cs) g.is)) (sequence_values g.value);
          values = sequence_values g.value;
          count = p.count;
          says_them = p.members;
          units = sequence_units sch.tagged g.short p;
        };
        there = λ j b. made p j b;
        back = λ j h. let q = sequence_parts h in let z = sequence_same law sch.tagged p q in
            record { count = q.count; says_them = subst (λ l. Members s Distinguished cs (row_of_options os) q.count l) z.0 q.members; counted = q.counts ∙ ap (λ l. q.count + l) (counted q.unknown_ones ∙ ap length z.1) };
        breaks = λ r m b. broken p r m b;
        only = λ r m b. sequence_only law sch.tagged p b;
      }
    where
      broken : (p : SequenceParts s Basic e cs (row_of_options os) g.count x) (r : RuleOfDer) (m : ℕ) → SequenceBreaks s cs (row_of_options os) p.known r m → ContentsBreak s (a_sequence e cs) (fields (row_of_options os)) true x r m
      broken p r m (sequence_breaks h b) = subst (λ l. ContentsBreak s (a_sequence e cs) (fields (row_of_options os)) true l r m) (sym p.whole) (in_sequence p.members p.unknown_ones h b)

      made : (p : SequenceParts s Basic e cs (row_of_options os) g.count x) (j : ℕ) → SequenceBy s os cs p.known p.others j → ContentsEncode s Distinguished (a_sequence e cs) (fields (row_of_options os)) j true x
      made p j b =
          subst (λ l. ContentsEncode s Distinguished (a_sequence e cs) (fields (row_of_options os)) j true l) (sym p.whole)
          (subst (λ l. ContentsEncode s Distinguished (a_sequence e cs) (fields (row_of_options os)) l true (concat (p.known ++ p.others))) (sym (b.counted ∙ ap (λ l. b.count + l) (sym (counted p.unknown_ones))))
          (sequence b.says_them p.unknown_ones))

  of_set_kind : {t n : ℕ} {ss : List Step} {os : List (Option AbstractValue)} {e : Bool} {cs : List Component} {x : List ℕ} → ContentsGiven s t n ss (fields (row_of_options os)) (a_set e cs) x → AsSet s t n ss os (a_set e cs) x
  of_set_kind {t} {n} {ss} {os} {e} {cs} {x} g =
      let p = set_parts g.holds_it in
      let apart = sch.distinct_tags t g.tags (a_set e cs) g.is in
      record {
        all = cs;
        known = p.known;
        in_order = p.in_order;
        others = p.others;
        units = p.all;
        given = record {
          few = g.few;
          steps = steps_given cs g.is refl (subst (ReadsComponents cs 0) (sym (g.steps ∙ ranked_split s e cs g.ended)) (reads_ranked s cs e g.ended 0 cs));
          few_places = few_places_of cs os (few_listed cs (sch.sound t g.tags (a_set e cs) g.is).0) (set_values g.value);
          values = set_values g.value;
          count = p.count;
          says_them = p.members;
          units = set_units sch.tagged g.short p;
          parted = set_parted sch.tagged p;
          places = set_placed law sch.tagged apart p;
          once = set_once law sch.tagged apart p;
        };
        there = λ j b. made p j b;
        back = λ j h. let q = set_parts h in let z = set_same law sch.tagged apart p q in
            record { count = q.count; says_them = subst (λ l. Members s Distinguished cs (row_of_options os) q.count l) z.known q.members; ascend = subst (Ascending InTagOrder) z.in_order q.sorted; counted = q.counts ∙ ap (λ l. q.count + l) (counted q.unknown_ones ∙ ap length z.others) };
        breaks = λ r m b. broken p r m b;
        only = λ r m b. set_only law sch.tagged apart p b;
      }
    where
      broken : (p : SetParts s Basic e cs (row_of_options os) g.count x) (r : RuleOfDer) (m : ℕ) → SetBreaks s cs (row_of_options os) p.known p.in_order p.all r m → ContentsBreak s (a_set e cs) (fields (row_of_options os)) true x r m
      broken p r m (member_breaks h a b) = subst (λ l. ContentsBreak s (a_set e cs) (fields (row_of_options os)) true l r m) (sym p.whole) (in_set p.members p.permutes p.unknown_ones p.merges h a b)
      broken p r m (tag_breaks f a) = subst (λ l. ContentsBreak s (a_set e cs) (fields (row_of_options os)) true l r m) (sym p.whole) (by_tag p.members p.permutes p.unknown_ones p.merges f a)

      made : (p : SetParts s Basic e cs (row_of_options os) g.count x) (j : ℕ) → SetBy s os cs p.known p.in_order p.others j → ContentsEncode s Distinguished (a_set e cs) (fields (row_of_options os)) j true x
      made p j b =
          subst (λ l. ContentsEncode s Distinguished (a_set e cs) (fields (row_of_options os)) j true l) (sym p.whole)
          (subst (λ l. ContentsEncode s Distinguished (a_set e cs) (fields (row_of_options os)) l true (concat p.all)) (sym (b.counted ∙ ap (λ l. b.count + l) (sym (counted p.unknown_ones))))
          (set b.says_them p.permutes b.ascend p.unknown_ones p.merges))

  -- a SET without components is as a SEQUENCE without
  of_empty_set : {t n : ℕ} {ss : List Step} {os : List (Option AbstractValue)} {e : Bool} {x : List ℕ} → ContentsGiven s t n ss (fields (row_of_options os)) (a_set e []) x → AsSequence s t n ss os (a_set e []) x
  of_empty_set {t} {n} {ss} {os} {e} {x} g =
      let p = set_parts g.holds_it in
      record {
        all = [];
        known = p.known;
        others = p.others;
        given = record {
          few = g.few;
          steps = steps_given [] g.is refl (subst (ReadsComponents [] 0) (sym (g.steps ∙ ranked_split s e [] g.ended)) (reads_ranked s [] e g.ended 0 []));
          few_places = few_places_of [] os (omega arith) (set_values g.value);
          values = set_values g.value;
          count = p.count;
          says_them = p.members;
          units = (let u = set_units sch.tagged g.short p in record { units = subst AllUnits (sym (together p)) u.units; whole = u.whole ∙ ap concat (sym (together p)); short = u.short });
        };
        there = λ j b. made p j b;
        back = λ j h. let q = set_parts h in let z = set_same law sch.tagged tt p q in
            record { count = q.count; says_them = subst (λ l. Members s Distinguished [] (row_of_options os) q.count l) z.known q.members; counted = q.counts ∙ ap (λ l. q.count + l) (counted q.unknown_ones ∙ ap length z.others) };
        breaks = λ r m b. never r m b;
        only = λ r m b. never_set r m b;
      }
    where
      no_component : {ws : Row} {xs : List (List ℕ)} {c : Component} {w : AbstractValue} {y : List ℕ} {m : ℕ} → HasMember [] ws xs c w y m → ⊥
      no_component h = elim h [ ]

      no_fall : {zs : List (List ℕ)} {y : List ℕ} {m : ℕ} → zs ≡ [] → FirstFall InTagOrder zs y m → ⊥
      no_fall e (falls_here f) = let l = ap length e in omega arith
      no_fall e (falls_later f h) = let l = ap length e in omega arith

      never_set : {ws : Row} {y : List ℕ} {P : Type 0} (r : RuleOfDer) (m : ℕ) → ContentsBreak s (a_set e []) (fields ws) true y r m → P
      never_set r m (in_set ms p u g h a b) = absurd (no_component h)
      never_set r m (by_tag ms p u g f a) = absurd (no_fall (permutes_nothing p (known_none ms).0) f)

      never : {ws : Row} {xs : List (List ℕ)} {P : Type 0} (r : RuleOfDer) (m : ℕ) → SequenceBreaks s [] ws xs r m → P
      never r m (sequence_breaks h b) = absurd (no_component h)

      nothing : (p : SetParts s Basic e [] (row_of_options os) g.count x) → p.in_order ≡ []
      nothing p = permutes_nothing p.permutes (known_none p.members).0

      together : (p : SetParts s Basic e [] (row_of_options os) g.count x) → p.known ++ p.others ≡ p.all
      together p = ap (λ l. l ++ p.others) (known_none p.members).0 ∙ sym (merges_nothing p.merges (nothing p))

      made : (p : SetParts s Basic e [] (row_of_options os) g.count x) (j : ℕ) → SequenceBy s os [] p.known p.others j → ContentsEncode s Distinguished (a_set e []) (fields (row_of_options os)) j true x
      made p j b =
          subst (λ l. ContentsEncode s Distinguished (a_set e []) (fields (row_of_options os)) j true l) (sym p.whole)
          (subst (λ l. ContentsEncode s Distinguished (a_set e []) (fields (row_of_options os)) l true (concat p.all)) (sym (b.counted ∙ ap (λ l. b.count + l) (sym (counted p.unknown_ones))))
          (set b.says_them p.permutes (subst (Ascending InTagOrder) (sym (nothing p)) ascending_none) p.unknown_ones p.merges))

  pub as_sequence : {t n : ℕ} {ss : List Step} {os : List (Option AbstractValue)} {x : List ℕ} (k : Kind) → begins_ranked ss ≡ false → ContentsGiven s t n ss (fields (row_of_options os)) k x → AsSequence s t n ss os k x
  as_sequence {t} {n} {ss} {os} {x} k r g = by k g.holds_it g
    where
      by : (k : Kind) {m : ℕ} {y : List ℕ} → ContentsEncode s Basic k (fields (row_of_options os)) m (form_of k) y → ContentsGiven s t n ss (fields (row_of_options os)) k x → AsSequence s t n ss os k x
      by k (leaf con) g' = elim con [ ]
      by (a_sequence e cs) (sequence ms u) g' = of_sequence_kind g'
      by (a_set e []) (set ms p st u m) g' = of_empty_set g'
      by (a_set e (c ∷ cs)) (set ms p st u m) g' = absurd (never_ranked (sym r ∙ ap begins_ranked g'.steps))

  pub as_set : {t n : ℕ} {ss : List Step} {os : List (Option AbstractValue)} {x : List ℕ} (k : Kind) → begins_ranked ss ≡ true → ContentsGiven s t n ss (fields (row_of_options os)) k x → AsSet s t n ss os k x
  as_set {t} {n} {ss} {os} {x} k r g = by k g.holds_it g
    where
      by : (k : Kind) {m : ℕ} {y : List ℕ} → ContentsEncode s Basic k (fields (row_of_options os)) m (form_of k) y → ContentsGiven s t n ss (fields (row_of_options os)) k x → AsSet s t n ss os k x
      by k (leaf con) g' = elim con [ ]
      by (a_sequence e cs) (sequence ms u) g' = absurd (never_ranked (sym (fields_not_ranked e cs g'.ended) ∙ ap begins_ranked (sym (g'.steps ∙ fields_split e cs g'.ended)) ∙ r))
      by (a_set e cs) (set ms p st u m) g' = of_set_kind g'

  -- ---- elements

  -- the elements of a list
  pub record AsList (t n : ℕ) (ss : List Step) (ws : Row) (k : Kind) (x : List ℕ) (u : TypeId) (sorted : Bool) : Type 0 where
    pub encodings : List (List ℕ)
    pub given : ElementsGiven s u.index n ws encodings x
    pub there : (j : ℕ) → (sorted ≡ true → Ascending AtMost encodings) → Elements s Distinguished u.index ws j encodings → ContentsEncode s Distinguished k (list ws) j (form_of k) x
    pub back : (j : ℕ) → ContentsEncode s Distinguished k (list ws) j (form_of k) x → Elements s Distinguished u.index ws j encodings × (sorted ≡ true → Ascending AtMost encodings)
    pub breaks : (r : RuleOfDer) (m : ℕ) → ElementsBreak s u.index ws encodings r m → ContentsBreak s k (list ws) (form_of k) x r m
    pub only : (r : RuleOfDer) (m : ℕ) → ContentsBreak s k (list ws) (form_of k) x r m → ElementsBreak s u.index ws encodings r m ⊎ ((sorted ≡ true) × ((y : List ℕ) × FirstFall AtMost encodings y m))
    pub falls : sorted ≡ true → (y : List ℕ) (m : ℕ) → FirstFall AtMost encodings y m → ContentsBreak s k (list ws) (form_of k) x OrderOfElements m

  -- the steps that give their type
  pub record ListGiven (t n : ℕ) (ss : List Step) (ws : Row) (k : Kind) (x : List ℕ) : Type 0 where
    pub element : TypeId
    pub sorted : Bool
    pub found_type : element_type ss ≡ Some (element, sorted)
    pub as_list : AsList t n ss ws k x element sorted

  sequence_of_values : {n : ℕ} {c : Constraint} {u : ℕ} {vs : Row} → ValueOf s n (a_sequence_of c u) (list vs) → AreElements s n u vs
  sequence_of_values (of_leaf f) = elim f [ ]
  sequence_of_values (of_sequence_of a z) = a

  set_of_values : {n : ℕ} {c : Constraint} {u : ℕ} {vs : Row} → ValueOf s n (a_set_of c u) (list vs) → AreElements s n u vs
  set_of_values (of_leaf f) = elim f [ ]
  set_of_values (of_set_of a z) = a

  elements_broken : {n : ℕ} {c : Constraint} {u : ℕ} {ws : Row} {x : List ℕ} (p : ListParts s Basic u ws n x) (r : RuleOfDer) (m : ℕ) → ElementsBreak s u ws p.encodings r m → ContentsBreak s (a_sequence_of c u) (list ws) true x r m
  elements_broken {c = c} {u = u} {ws = ws} p r m (element_breaks h b) = subst (λ l. ContentsBreak s (a_sequence_of c u) (list ws) true l r m) (sym p.whole) (in_sequence_of p.elements h b)

  set_broken : {n : ℕ} {c : Constraint} {u : ℕ} {ws : Row} {x : List ℕ} (p : ListParts s Basic u ws n x) (r : RuleOfDer) (m : ℕ) → ElementsBreak s u ws p.encodings r m → ContentsBreak s (a_set_of c u) (list ws) true x r m
  set_broken {c = c} {u = u} {ws = ws} p r m (element_breaks h b) = subst (λ l. ContentsBreak s (a_set_of c u) (list ws) true l r m) (sym p.whole) (in_set_of p.elements h b)

  pub list_given : {t n : ℕ} {ss : List Step} {ws : Row} {x : List ℕ} (k : Kind) → ContentsGiven s t n ss (list ws) k x → ListGiven t n ss ws k x
  list_given {t} {n} {ss} {ws} {x} k g = by k g.holds_it g
    where
      by : (k : Kind) {m : ℕ} {y : List ℕ} → ContentsEncode s Basic k (list ws) m (form_of k) y → ContentsGiven s t n ss (list ws) k x → ListGiven t n ss ws k x
      by k (leaf con) g' = elim con [ ]
      by (a_sequence_of c u) (sequence_of es) g' =
          let p = sequence_of_parts g'.holds_it in
          let us = list_units sch.tagged g'.short p in
          record {
            element = id_of u;
            sorted = false;
            found_type = ap element_type g'.steps;
            as_list = record {
              encodings = p.encodings;
              given = record { few = g'.few; values = sequence_of_values g'.value; count = g'.count; says_them = p.elements; units = us };
              there = λ j st e. subst (λ l. ContentsEncode s Distinguished (a_sequence_of c u) (list ws) j true l) (sym p.whole) (sequence_of e);
              back = λ j h. (elements_of law p.encodings sch.tagged us.units h p.whole, λ z. absurd (never_ranked z));
              breaks = λ r m b. elements_broken p r m b;
              only = λ r m b. inl (elements_only law p.encodings sch.tagged us.units p.whole b);
              falls = λ z. absurd (never_ranked z);
            };
          }
      by (a_set_of c u) (set_of es st) g' =
          let p = set_of_parts g'.holds_it in
          let us = list_units sch.tagged g'.short p in
          record {
            element = id_of u;
            sorted = true;
            found_type = ap element_type g'.steps;
            as_list = record {
              encodings = p.encodings;
              given = record { few = g'.few; values = set_of_values g'.value; count = g'.count; says_them = p.elements; units = us };
              there = λ j so e. subst (λ l. ContentsEncode s Distinguished (a_set_of c u) (list ws) j true l) (sym p.whole) (set_of e (so refl));
              back = λ j h. let m = members_of law p.encodings sch.tagged us.units h p.whole in (m.0, λ z. m.1);
              breaks = λ r m b. set_broken p r m b;
              only = λ r m b. ⊎_elim (λ z. inl z) (λ z. inr (refl, z)) (set_of_only law p.encodings sch.tagged us.units p.whole b);
              falls = λ z y m f. subst (λ l. ContentsBreak s (a_set_of c u) (list ws) true l OrderOfElements m) (sym p.whole) (by_element p.elements f);
            };
          }

-- ---- DEFAULT

at_place : {A : Type 0} (P : A → Type 0) (xs : List A) (i : ℕ) (x : A) → slice_get xs i ≡ Some x → AllByRecursion P xs → P x
at_place P [] i x e a = absurd (none_some e)
at_place P (y ∷ xs) zero x e a = subst P (some_same e) a.0
at_place P (y ∷ xs) (suc i) x e a = at_place P xs i x e a.1

sound_default : (s : List Resolved) (i : ℕ) (c : Component) (k : Kind) → IsSound s k → slice_get (components k) i ≡ Some c → HasValue s c
sound_default s i c (a_sequence e cs) a f = at_place (HasValue s) cs i c f a.defaults
sound_default s i c (a_set e cs) a f = at_place (HasValue s) cs i c f a.0.defaults
sound_default s i c k a f = absurd cc

abbrev of_type : ℕ → Option Resolved → Option Component
of_type i None = None
of_type i (Some r) = slice_get (components r.kind) i

type_there : (i : ℕ) (o : Option Resolved) (c : Component) → of_type i o ≡ Some c → (r : Resolved) × (o ≡ Some r) × (slice_get (components r.kind) i ≡ Some c)
type_there i None c e = absurd (none_some e)
type_there i (Some r) c e = (r, refl, e)

-- the component's DEFAULT is the one of the type
pub is_default_in : {s : List Resolved} {t i : ℕ} {c : Component} {w : AbstractValue} → component_in s t i ≡ Some c → IsDefaultAt s t i w → IsDefault s c w
is_default_in {s} {t} {i} {c} {w} e a =
    let same : a.component ≡ c = some_same (sym (ap (of_type i) a.is.found ∙ a.is_at) ∙ e) in
    subst (λ q. IsDefault s q w) same (a.is_the_default.value, a.is_the_default.has_default, a.is_the_default.same.are_alike)

pub default_at : {s : List Resolved} {t i n : ℕ} {c : Component} {w : AbstractValue} → IsSchema s → ((s : List Resolved) (t m n : ℕ) (v : AbstractValue) → m ≤ n → ValueIn s m t v → ValueIn s n t v) → component_in s t i ≡ Some c → n ≤ 64 → ValueIn s n c.type w → IsDefault s c w → IsDefaultAt s t i w
default_at {s} {t} {i} {n} {c} {w} sch grow e few v d =
    let r = type_there i (slice_get s t) c e in
    let known = sound_default s i c r.0.kind (sch.sound t r.0.tags r.0.kind (record { found = r.1 })) r.2 in
    record {
      tags = r.0.tags;
      kind = r.0.kind;
      is = record { found = r.1 };
      component = c;
      is_at = r.2;
      is_the_default = record { value = d.0; has_default = d.1; same = record { first = grow s c.type n 64 w few v; second = (known d.0 d.1).shaped; are_alike = d.2 } };
    }

-- ---- a whole message

pub says_count : {s : List Resolved} {t j k : ℕ} {w : AbstractValue} {o : List ℕ} → ((s : List Resolved) (t k : ℕ) (v : AbstractValue) (o : List ℕ) → Der s t v k o → Ber s t v k o) → ((s : List Resolved) (t j k : ℕ) (v w : AbstractValue) (o : List ℕ) → IsSchema s → EncodesTo s Basic t v j o → EncodesTo s Basic t w k o → (v ≡ w) × (j ≡ k)) → IsSchema s → Same s t w w → EncodesTo s Distinguished t w j o → EncodesTo s Basic t w k o → j ≡ k
says_count {s} {t} {j} {k} {w} {o} ber one sch same d b =
    let e = ber s t j w o (w, same, d) in
    (one s t j k e.0 w o sch e.2 b).1

-- ---- what each call answers

pub choice_decided : {s : List Resolved} {t n i : ℕ} {ss : List Step} {x : List ℕ} {w : AbstractValue} (u : TypeId) (o : Option TypeId) (r : Result Bool Refusal) → o ≡ Some u → ((as' : List Alternative) (rest : List Step) (a : Alternative) → ss ≡ choice_of as' ++ rest → slice_get as' i ≡ Some a → o ≡ Some (id_of a.type)) → (ValueGiven s u.index n w x → Judged s u.index w x r) → (k : Kind) → ContentsGiven s t n ss (alternative i w) k x → ContentsJudged s k (alternative i w) x r
choice_decided {s} {n = n} {x = x} {w = w} u o r e f h k g =
    let q = choice_given k g in
    let ty : u ≡ id_of q.alternative_there.type = some_same (sym e ∙ f q.all q.rest q.alternative_there q.steps q.is_at) in
    judges_as _ _ _ _ (length x) r (λ j d. q.there j (subst (λ z. EncodesTo s Distinguished z.index w j x) ty d)) (λ j d. subst (λ z. EncodesTo s Distinguished z.index w j x) (sym ty) (q.back j d)) (λ p m b. q.breaks p m (subst (λ z. Breaks s z.index w x p m) ty b)) (λ p m b. subst (λ z. Breaks s z.index w x p m) (sym ty) (q.only p m b)) (h (subst (λ z. ValueGiven s z.index n w x) (sym ty) q.given))

pub choice_none : {s : List Resolved} {t n i : ℕ} {ss : List Step} {x : List ℕ} {w : AbstractValue} (o : Option TypeId) → o ≡ None → ((as' : List Alternative) (rest : List Step) (a : Alternative) → ss ≡ choice_of as' ++ rest → slice_get as' i ≡ Some a → o ≡ Some (id_of a.type)) → (r : Result Bool Refusal) (k : Kind) → ContentsGiven s t n ss (alternative i w) k x → ContentsJudged s k (alternative i w) x r
choice_none o e f r k g = let q = choice_given k g in absurd (none_some (sym e ∙ f q.all q.rest q.alternative_there q.steps q.is_at))

-- the same of octets that are others
pub value_as : {s : List Resolved} {t n : ℕ} {v : AbstractValue} {x y : List ℕ} (r : Result Bool Refusal) → x ≡ y → (ValueGiven s t n v x → Judged s t v x r) → ValueGiven s t n v y → Judged s t v y r
value_as {s} {t} {n} {v} r e f = subst (λ z. ValueGiven s t n v z → Judged s t v z r) e f

pub member_as : {s : List Resolved} {t n i : ℕ} {ss : List Step} {v : AbstractValue} {c : Component} {x y : List ℕ} (r : Result Bool Refusal) → x ≡ y → ((d : Component) → MemberGiven s t n ss v i d x → MemberJudged s d v x r) → MemberGiven s t n ss v i c y → MemberJudged s c v y r
member_as {s} {t} {n} {i} {ss} {v} {c} r e f = subst (λ z. MemberGiven s t n ss v i c z → MemberJudged s c v z r) e (f c)

-- the component's type is that of its step
pub field_type : {s : List Resolved} {t n i : ℕ} {ss : List Step} {v : AbstractValue} {c : Component} {x : List ℕ} (o : Option Field') (f : Field') → o ≡ Some f → ((cs : List Component) (d : Component) → ReadsComponents cs 0 ss → slice_get cs i ≡ Some d → o ≡ Some (field_of i d)) → MemberGiven s t n ss v i c x → f.ty.index ≡ c.type
field_type o f e h m = ap (λ q. q.ty.index) (some_same (sym e ∙ h m.all _ m.steps.reads m.is_at))

pub field_there : {s : List Resolved} {t n i : ℕ} {ss : List Step} {v : AbstractValue} {c : Component} {x : List ℕ} {P : Type 0} (o : Option Field') → o ≡ None → ((cs : List Component) (d : Component) → ReadsComponents cs 0 ss → slice_get cs i ≡ Some d → o ≡ Some (field_of i d)) → MemberGiven s t n ss v i c x → P
field_there o e h m = absurd (none_some (sym e ∙ h m.all _ m.steps.reads m.is_at))

-- what is answered of the component that a step reads is answered of the one at the place
pub asked_at : {s : List Resolved} {t n i : ℕ} {ss : List Step} {v : AbstractValue} {c : Component} {x : List ℕ} (o : Option Field') (f : Field') (b whole : Bool) → o ≡ Some f → ((cs : List Component) (d : Component) → ReadsComponents cs 0 ss → slice_get cs i ≡ Some d → o ≡ Some (field_of i d)) → MemberGiven s t n ss v i c x → ((d : Component) → component_in s t f.place ≡ Some d → f.need ≡ need_of d.presence → IsTrue b ↔ (IsTrue whole × IsDefaultAt s t f.place v)) → IsTrue b ↔ (IsTrue whole × IsDefaultAt s t i v)
asked_at {s} {t} {i = i} {v = v} {c = c} o f b whole e h m q =
    let is = some_same (sym e ∙ h m.all _ m.steps.reads m.is_at) in
    let place = ap (λ z. z.place) is in
    subst (λ z. IsTrue b ↔ (IsTrue whole × IsDefaultAt s t z v)) place (q c (subst (λ z. component_in s t z ≡ Some c) (sym place) (m.steps.placed i c m.is_at)) (ap (λ z. z.need) is))

pub value_of_type : {s : List Resolved} {n t u : ℕ} {v : AbstractValue} {x : List ℕ} (r : Result Bool Refusal) → u ≡ t → (ValueGiven s u n v x → Judged s u v x r) → ValueGiven s t n v x → Judged s t v x r
value_of_type {s} {n} {v = v} {x = x} r e f = subst (λ z. ValueGiven s z n v x → Judged s z v x r) e f

-- ---- a component with a DEFAULT

abbrev pub OneCount : List Resolved → Type 0
OneCount s = (t j k : ℕ) (v w : AbstractValue) (o : List ℕ) → EncodesTo s Distinguished t v j o → EncodesTo s Distinguished t w k o → j ≡ k

pub member_decided : {s : List Resolved} {t n i : ℕ} {ss : List Step} {v : AbstractValue} {c : Component} {x : List ℕ} (part : Bool) → IsSchema s → ((s : List Resolved) (t m n : ℕ) (v : AbstractValue) → m ≤ n → ValueIn s m t v → ValueIn s n t v) → MemberGiven s t n ss v i c x → Decides (λ j. EncodesTo s Distinguished c.type v j x) (Ok part) → ((IsTrue part × IsDefaultAt s t i v) → ⊥) → MemberJudged s c v x (Ok part)
member_decided {t = t} {i = i} {c = c} part sch grow m d no_one =
    let p = m.steps.placed i c m.is_at in
    ((d.0, record { says_it = d.1; no_default = λ z e. no_one (d.2.1 z, default_at sch grow p m.given.few m.given.value e) }, d.2), tt)

-- it is the rule that its encoding breaks
pub member_default : {s : List Resolved} {t n i : ℕ} {ss : List Step} {v : AbstractValue} {c : Component} {x : List ℕ} (part : Bool) → AllTagged s → MemberGiven s t n ss v i c x → Decides (λ j. EncodesTo s Distinguished c.type v j x) (Ok part) → (IsTrue part × IsDefaultAt s t i v) → IsFirst (MemberBreaks s c v x) NoDefault 0 × (0 < length x)
member_default {s} {i = i} {v = v} {c = c} {x = x} part tagged m d o =
    let p = m.steps.placed i c m.is_at in
    let u = unit_some (says_begins tagged d.1).unit in
    (record { broken = by_default (subst (λ q. EncodesTo s Distinguished c.type v q x) (d.2.0 o.0) d.1) (is_default_in p o.1); none_before = λ q m b. omega arith }, omega (arith, u))

pub member_omitted : {s : List Resolved} {t n i : ℕ} {ss : List Step} {v : AbstractValue} {c : Component} {x : List ℕ} (part : Bool) → OneCount s → MemberGiven s t n ss v i c x → Decides (λ j. EncodesTo s Distinguished c.type v j x) (Ok part) → (IsTrue part × IsDefaultAt s t i v) → (j : ℕ) → MemberBy s c v x j → ⊥
member_omitted {i = i} {v = v} {c = c} {x = x} part one m d o j b =
    let p = m.steps.placed i c m.is_at in
    b.no_default (one c.type j d.0 v v x b.says_it d.1 ∙ d.2.0 o.0) (is_default_in p o.1)

-- ---- the next component

pub next_given : {s : List Resolved} {t n i : ℕ} {ss : List Step} {o : Option AbstractValue} {c : Component} {x : List ℕ} (v : AbstractValue) → o ≡ Some v → PartGiven s t n ss o i c x → MemberGiven s t n ss v i c x
next_given {s} {t} {n} {i} {ss} {c = c} {x = x} v e p = subst (λ q. PartGiven s t n ss q i c x) e p

pub next_first : {o : Option AbstractValue} (x r octets : List ℕ) (v : AbstractValue) → o ≡ Some v → ComesFirst o x r octets → ComesFirst (Some v) x r octets
next_first x r octets v e p = subst (λ q. ComesFirst q x r octets) e p

pub next_among : {o : Option AbstractValue} (s : List Resolved) (c : Component) (x octets : List ℕ) (ys : List (List ℕ)) (v : AbstractValue) → o ≡ Some v → IsAmong s c o x ys octets → IsAmong s c (Some v) x ys octets
next_among s c x octets ys v e p = subst (λ q. IsAmong s c q x ys octets) e p

pub next_by : {o : Option AbstractValue} (s : List Resolved) (c : Component) (x : List ℕ) (v : AbstractValue) (r : Result Bool Refusal) → o ≡ Some v → MemberJudged s c v x r → Judges (PartBy s c o x) (PartBreaks s c o x) (length x) r
next_by s c x v r e d = subst (λ q. Judges (PartBy s c q x) (PartBreaks s c q x) (length x) r) (sym e) d

pub known_by : {o : Option AbstractValue} (s : List Resolved) (c : Component) (x : List ℕ) (ys : List (List ℕ)) (v : AbstractValue) (l : ℕ) (r : Result Bool Refusal) → o ≡ Some v → Judges (PartBy s c (Some v) x) (PartBreaksIn s c (Some v) x ys) l r → Judges (PartBy s c o x) (PartBreaksIn s c o x ys) l r
known_by s c x ys v l r e d = subst (λ q. Judges (PartBy s c q x) (PartBreaksIn s c q x ys) l r) (sym e) d

-- the encoding of a part that starts at an offset
sequence_cover : {s : List Resolved} {cs : List Component} {ws : Row} {xs : List (List ℕ)} {c : Component} {v : AbstractValue} {x : List ℕ} {q : RuleOfDer} {m : ℕ} (d : ℕ) → ((c' : Component) (w : AbstractValue) (y : List ℕ) (m : ℕ) (q : RuleOfDer) (n : ℕ) → HasMember cs ws xs c' w y m → MemberBreaks s c' w y q n → (MemberBreaks s c v x q n × (m ≡ d)) ⊎ (d + length x ≤ m)) → SequenceBreaks s cs ws xs q m → ((p : ℕ) × MemberBreaks s c v x q p × (d + p ≤ m)) ⊎ (d + length x ≤ m)
sequence_cover {q = q} d on (sequence_breaks {c = c'} {w = w} {x = y} {m = k} {n = l} h b) =
    ⊎_elim (λ a. inl (l, a.0, let e = a.1 in omega (arith, e))) (λ a. inr (omega (arith, a))) (on c' w y k q l h b)

pub sequence_found : (s : List Resolved) (cs : List Component) (ws : Row) (xs : List (List ℕ)) (c : Component) (x : List ℕ) (d start total left : ℕ) (o : Option AbstractValue) (e f : Refusal) → HasPart cs ws xs c o x start → ((c' : Component) (w : AbstractValue) (y : List ℕ) (m : ℕ) (q : RuleOfDer) (n : ℕ) → HasMember cs ws xs c' w y m → MemberBreaks s c' w y q n → (PartBreaks s c o x q n × (m ≡ start)) ⊎ (start + part_length o x ≤ m)) → IsFound (PartBreaks s c o x) (length x) e → IsMoved d e f → d ≡ total - left → start + left ≡ total → part_length o x ≤ left → total ≤ 16777216 → IsFound (SequenceBreaks s cs ws xs) total f
sequence_found s cs ws xs c x d start total left None (Broken b) f h on w m z r p t = absurd w.0.broken
sequence_found s cs ws xs c x d start total left None Memory (Broken b) h on w m z r p t = absurd m
sequence_found s cs ws xs c x d start total left None Memory Memory h on w m z r p t = tt
sequence_found s cs ws xs c x d start total left (Some v) e f h on w m z r p t =
    let at : start ≡ d = omega (arith, z, r) in
    found_moved (MemberBreaks s c v x) (SequenceBreaks s cs ws xs) d (length x) total e f m (omega (arith, z, r, p)) t (λ q n b. sequence_breaks (subst (HasMember cs ws xs c v x) at h) b)
    (λ q n b. subst (λ k. ((l : ℕ) × MemberBreaks s c v x q l × (k + l ≤ n)) ⊎ (k + length x ≤ n)) at (sequence_cover start on b)) w

pub starts_within : {x : List ℕ} {n : ℕ} {ys : List (List ℕ)} → StartsAt x n ys → n + length x ≤ length (concat ys)
starts_within {x} (starts_first {ys = ys}) = let l = length-append x (concat ys) in omega (arith, l)
starts_within (starts_later {y = y} {ys = ys} h) = let i = starts_within h in let l = length-append y (concat ys) in omega (arith, i, l)

elements_cover : {s : List Resolved} {u : TypeNumber} {ws : Row} {xs : List (List ℕ)} {v : AbstractValue} {x : List ℕ} {q : RuleOfDer} {m : ℕ} (d : ℕ) → ((w : AbstractValue) (y : List ℕ) (m : ℕ) (q : RuleOfDer) (n : ℕ) → HasElement ws xs w y m → Breaks s u w y q n → (Breaks s u v x q n × (m ≡ d)) ⊎ (d + length x ≤ m)) → ElementsBreak s u ws xs q m → ((p : ℕ) × Breaks s u v x q p × (d + p ≤ m)) ⊎ (d + length x ≤ m)
elements_cover {q = q} d on (element_breaks {w = w} {x = y} {m = k} {n = l} h b) =
    ⊎_elim (λ a. inl (l, a.0, let e = a.1 in omega (arith, e))) (λ a. inr (omega (arith, a))) (on w y k q l h b)

pub elements_found : (s : List Resolved) (u : TypeNumber) (ws : Row) (xs : List (List ℕ)) (w : AbstractValue) (x : List ℕ) (d start total left : ℕ) (e f : Refusal) → HasElement ws xs w x start → ((v : AbstractValue) (y : List ℕ) (m : ℕ) (q : RuleOfDer) (n : ℕ) → HasElement ws xs v y m → Breaks s u v y q n → (Breaks s u w x q n × (m ≡ start)) ⊎ (start + length x ≤ m)) → IsFound (Breaks s u w x) (length x) e → IsMoved d e f → d ≡ total - left → start + left ≡ total → length x ≤ left → total ≤ 16777216 → IsFound (ElementsBreak s u ws xs) total f
elements_found s u ws xs w x d start total left e f h on b m z r p t =
    let at : start ≡ d = omega (arith, z, r) in
    found_moved (Breaks s u w x) (ElementsBreak s u ws xs) d (length x) total e f m (omega (arith, z, r, p)) t (λ q n i. element_breaks (subst (HasElement ws xs w x) at h) i)
    (λ q n i. subst (λ k. ((l : ℕ) × Breaks s u w x q l × (k + l ≤ n)) ⊎ (k + length x ≤ n)) at (elements_cover start on i)) b

-- a component breaks what its encoding does, unless that is by the distinguished rules
only_member : {s : List Resolved} {c : Component} {v : AbstractValue} {x : List ℕ} {r : RuleOfDer} {n : ℕ} → ((j : ℕ) → EncodesTo s Distinguished c.type v j x → ⊥) → MemberBreaks s c v x r n → Breaks s c.type v x r n
only_member f (in_member b) = b
only_member f (by_default d e) = absurd (f 0 d)

pub member_found : (s : List Resolved) (c : Component) (v : AbstractValue) (x : List ℕ) (e : Refusal) → (IsRefused e → (j : ℕ) → EncodesTo s Distinguished c.type v j x → ⊥) → IsFound (Breaks s c.type v x) (length x) e → IsFound (MemberBreaks s c v x) (length x) e
member_found s c v x (Broken b) f h = found_as (Breaks s c.type v x) (MemberBreaks s c v x) (length x) (Broken b) (λ r n i. in_member i) (λ r n i. only_member (f tt) i) h
member_found s c v x Memory f h = tt

-- ---- elements

pub list_at : {s : List Resolved} {law : HeadersApart} {sch : IsSchema s} {t n : ℕ} {ss : List Step} {ws : Row} {k : Kind} {x : List ℕ} (u : TypeId) (b : Bool) → (l : ListGiven law sch t n ss ws k x) → element_type ss ≡ Some (u, b) → AsList law sch t n ss ws k x u b
list_at {s} {law} {sch} {t} {n} {ss} {ws} {k} {x} u b l e =
    let f = some_same (sym l.found_type ∙ e) in
    subst (λ q. AsList law sch t n ss ws k x u q) (ap (λ q. q.1) f) (subst (λ q. AsList law sch t n ss ws k x q l.sorted) (ap (λ q. q.0) f) l.as_list)
