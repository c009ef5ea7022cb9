-- Elements that are read at once, as answers to all their questions.
use Rattle.std.specs.Prelude.{Option, Some, None, MatchOption}
use Rattle.std.proofs.Common.{arith, ◌≡◌, ℕ, suc, ◌+◌, ◌-◌, ◌<◌, ◌≤◌, true, false, List, [], ◌∷◌, ◌++◌, length, refl, sym, ap, subst, length-append}
use Rattle.asn_base.specs.declared.schema.TypeId.{TypeId}
use Rattle.asn_base.specs.declared.tag.Tag.{Tag}
use Rattle.asn_base.specs.Tags.{First}
use Rattle.asn_base.specs.Types.{Resolved}
use Rattle.codec_code.specs.Routines.{routine_at}
use Rattle.codec_code.specs.declared.step.Field.{Field}
use Rattle.codec_code.specs.declared.step.Step.{Step}
use Rattle.codec_code.specs.declared.step.Step.TheVariants.{Head as HeadStep, Leaf as LeafStep, End, Field as FieldStep}
use Rattle.codec_code.specs.declared.step.Head.{Head}
use Rattle.encodings.specs.Header.{Octets}
use Rattle.encodings.specs.declared.leaf_kind.LeafKind.{LeafKind}
use Rattle.codec_source.specs.Events.{begins, ends, opens, closes, more}
use Rattle.codec_source.specs.Reading.{Does, Reads, finished, goes_on, reads, head, leaf, ending, field}
use Rattle.codec_source.specs.Small.{TakesValue, TakesComponent}
use Rattle.codec_source.specs.proving.Wholes.{ReadsElement, ReadsFront, ReadsOn, not_once, and_once}
use Rattle.octet_answers.specs.Units.{UnitAt}
use Rattle.octet_answers.specs.States.{State, OpenContents, Token, begun, ended, component, with_token, begun_at, opened_at, closed_at}
use Rattle.octet_answers.specs.Answers.{Takes}
use Rattle.ber_source.specs.Rows.{ArePlain, BeginsPlain, IsComponentRead, IsPlain, and_component, in_row, moved}
use Rattle.ber_source.specs.ShortValue.{IsShortValue, short_at}
use Rattle.ber_source.specs.proving.Taken.{Law}
use Rattle.ber_source.proofs.Shorts.{component_taken, take_all}

component_read : Law → (a : State) (f : Field) (h : Head) (k : LeafKind) (o rest : Octets) (at next : ℕ) (ts us : List Token) (left : ℕ)
    → IsComponentRead a.schema f h k o at ts rest next us
    → 0 < left
    → length a.values < 64
    → length a.outer < 400
    → TakesComponent Takes f h k (moved a o at ts left) (moved a rest next us (left - 1))
component_read law a f h k o rest at next ts us left v some few headers =
    let x = moved a o at ts left in
    let s = v.short in
    let i : IsShortValue x h k s = record { primitive = v.primitive; unit = v.unit; read = v.read; has_budget = some; few_values = few; few_headers = headers } in
    let taken : TakesComponent Takes f h k x (short_at (with_token x (component f.place)) f.ty k s.contents.now s.rest.now (left - 1)) = component_taken law x (with_token x (component f.place)) f h k s v.first i refl in
    subst (λ q. TakesComponent Takes f h k x (moved a q next us (left - 1))) (sym v.is_rest)
    (subst (λ q. TakesComponent Takes f h k x (moved a s.rest.now q us (left - 1))) (sym v.is_next)
    (subst (λ q. TakesComponent Takes f h k x (moved a s.rest.now (at + (2 + length s.contents.now)) q (left - 1))) (sym v.tokens) taken))

value_done : (r : ℕ → List Step) {t : TypeId} {h : Head} {k : LeafKind} {x z : State} → r t.index ≡ HeadStep h ∷ LeafStep k ∷ End ∷ [] → TakesValue Takes t h k x z → Reads r Takes t x z
value_done r e v = record {
  first = v.begun_at;
  last = v.closed_at;
  begun = v.begun;
  done = subst (λ q. Does r Takes q v.begun_at v.closed_at) (sym e) (goes_on (head v.opened) (goes_on (leaf v.held) (goes_on (ending v.closed) finished)));
  ended = v.ended;
}

-- one more component was read
pub one_component : Law → (r : ℕ → List Step) (a x : State) (f : Field) (h : Head) (k : LeafKind) (ss steps following : List Step) (o rest : Octets) (at next : ℕ) (ts us : List Token) (left : ℕ)
    → r f.ty.index ≡ HeadStep h ∷ LeafStep k ∷ End ∷ []
    → IsComponentRead a.schema f h k o at ts rest next us
    → 0 < left
    → length a.values < 64
    → length a.outer < 400
    → steps ≡ FieldStep f ∷ following
    → ReadsOn r Takes ss steps x (moved a o at ts left)
    → ReadsOn r Takes ss following x (moved a rest next us (left - 1))
one_component law r a x f h k ss steps following o rest at next ts us left routine v some few headers e d =
    let c = component_read law a f h k o rest at next ts us left v some few headers in
    and_once (subst (λ q. ReadsOn r Takes ss q x (moved a o at ts left)) e d)
    (record { type = f.ty; next_at = c.next_at; asks = field c.is_next; value = value_done r routine c.value; few = omega arith })

-- a header opens, and components were read
pub row_front : Law → (r : ℕ → List Step) (a : State) (t : TypeId) (h : Head) (fields left : List Step) (start contents rest o : Octets) (from at : ℕ) (ts us : List Token) (budget last : ℕ)
    → r t.index ≡ HeadStep h ∷ fields
    → UnitAt h.tag true 2 contents rest start
    → 0 < budget
    → length a.values < 64
    → length a.outer < 400
    → ReadsOn r Takes fields left
    (in_row a t rest (from + (2 + length contents)) contents (from + 2) (ts ++ begun t ∷ []) (budget - 1))
    (in_row a t rest (from + (2 + length contents)) o at us last)
    → ReadsFront r Takes t left (moved a start from ts budget) (in_row a t rest (from + (2 + length contents)) o at us last)
row_front law r a t h fields left start contents rest o from at ts us budget last routine u some few headers read =
    let x = moved a start from ts budget in
    let b = begun_at x t (budget - 1) in
    let c = opened_at b true 2 contents rest in
    let l = u.long in
    let e = ap length u.whole in
    let m = length-append u.header (contents ++ rest) in
    record {
      header = h;
      fields = fields;
      routine = routine;
      next_at = x;
      begun_at = b;
      opened_at = c;
      is_next = law x x (more t false true) (record { some = omega (arith, l, e, m); is = refl });
      begun = law x b (begins t) (record { left = budget - 1; has_budget = omega (arith, some); few_levels = few; is = refl });
      opened = law b c (opens h) (record {
        constructed = true;
        count = 2;
        contents = contents;
        rest = rest;
        unit = u;
        form = λ f. refl;
        few_levels = headers;
        is = refl;
      });
      read = read;
    }

on_done : {r : ℕ → List Step} {ss ts : List Step} {x y z : State} → ReadsOn r Takes ss ts x y → Does r Takes ts y z → Does r Takes ss x z
on_done not_once d = d
on_done (and_once c v) d = on_done c (reads v.asks v.value.begun v.value.done v.value.ended d)

-- the state after an element, with these marks
abbrev with_marks : State → Octets → ℕ → List Token → ℕ → List ℕ → State
with_marks a rest next ts left ms = let z = moved a rest next ts left in record {
  schema = z.schema;
  here = z.here;
  outer = z.outer;
  values = z.values;
  marks = ms;
  emitted = z.emitted;
  budget = z.budget;
}

-- all components were read, and no contents are left
pub row_whole : Law → (r : ℕ → List Step) (a x : State) (t : TypeId) (rest o : Octets) (next at : ℕ) (us : List Token) (left : List Step) (last : ℕ)
    → left ≡ End ∷ []
    → o ≡ []
    → ReadsFront r Takes t left x (in_row a t rest next o at us last)
    → ReadsElement r Takes t false x (moved a rest next (us ++ ended ∷ []) last)
row_whole law r a x t rest o next at us left last e n v =
    let y = in_row a t rest next o at us last in
    let w : OpenContents = record { constructed = a.here.constructed; octets = rest; at = next; from = a.here.from } in
    let d = closed_at y w a.outer in
    let z = moved a rest next (us ++ ended ∷ []) last in
    let closed : Takes y closes d = law y d closes (record { open_contents = w; others = a.outer; none_left = n; is_open = refl; is = refl }) in
    let ended_ : Takes d ends z = law d z ends (record {
      value = t;
      others = a.values;
      is_open = refl;
      is = ap (with_marks a rest next (us ++ ended ∷ []) last) (sym (take_all a.marks));
    }) in
    let read : ReadsOn r Takes v.fields (End ∷ []) v.opened_at y = subst (λ q. ReadsOn r Takes v.fields q v.opened_at y) e v.read in
    let done : Does r Takes (HeadStep v.header ∷ v.fields) v.begun_at d = goes_on (head v.opened) (on_done read (goes_on (ending closed) finished)) in
    record {
      next_at = v.next_at;
      is_next = v.is_next;
      value = record {
        first = v.begun_at;
        last = d;
        begun = v.begun;
        done = subst (λ q. Does r Takes q v.begun_at d) (sym v.routine) done;
        ended = ended_;
      };
    }

pub either : {A : Type 0} {P Q : Type 0} {M N : A → Type 0} (o : Option A) → (P → Q) → ((a : A) → M a → N a) → MatchOption o P M → MatchOption o Q N
either None f g h = f h
either (Some a) f g h = g a h

pub one_fewer : {A : Type 0} (xs : List A) (x : A) (n : ℕ) → length xs < n → length (xs ++ x ∷ []) < suc n
one_fewer xs x n l = let m = length-append xs (x ∷ []) in omega (arith, l, m)

-- the first component and the others are plain
pub plain_first : {s own : List Resolved} {f : Field} {ss : List Step} → ArePlain s own (FieldStep f ∷ ss) → IsPlain own (routine_at s f.ty.index) f × ArePlain s own ss
plain_first (and_component p d) = (p, d)

-- what is said of the header of a plain component
pub plain_header : {own : List Resolved} {r : List Step} (f : Field) {h : Head} {ss : List Step} → r ≡ HeadStep h ∷ ss → IsPlain own r f → (h.constructed ≡ false) × First own f.ty.index h.tag
plain_header {own = own} f e p = subst (BeginsPlain own f) e p.begins

-- the offsets of contents and of what follows them are within a message
pub inside_row : (g : Tag) (x r o : Octets) (at : ℕ) → at + length o ≤ 16777216 → UnitAt g true 2 x r o → ((at + 2) + length x ≤ 16777216) × ((at + (2 + length x)) + length r ≤ 16777216)
inside_row g x r o at f u =
    let l = u.long in
    let e = ap length u.whole in
    let m = length-append u.header (x ++ r) in
    let n = length-append x r in
    let first : (at + 2) + length x ≤ 16777216 = omega (arith, f, l, e, m, n) in
    let last : (at + (2 + length x)) + length r ≤ 16777216 = omega (arith, f, l, e, m, n) in
    (first, last)
