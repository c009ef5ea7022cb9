-- Values with a header of two octets, as answers to all their questions.
use Rattle.std.proofs.Common.{arith, ◌≡◌, ℕ, suc, ◌+◌, ◌-◌, ◌<◌, ◌≤◌, Bool, true, false, List, [], ◌∷◌, ◌++◌, length, refl, sym, ap, subst, ◌∙◌, length-append}
use Rattle.std.specs.Prelude.{take}
use Rattle.asn_base.specs.declared.schema.TypeId.{TypeId}
use Rattle.asn_base.specs.declared.tag.Tag.{Tag}
use Rattle.asn_base.specs.Tags.{First}
use Rattle.codec_code.specs.declared.step.Field.{Field}
use Rattle.codec_code.specs.declared.step.Step.{Step}
use Rattle.codec_code.specs.declared.step.Step.TheVariants.{Head as HeadStep, Leaf as LeafStep, End}
use Rattle.codec_code.specs.declared.step.Head.{Head}
use Rattle.encodings.specs.Header.{Octets}
use Rattle.encodings.specs.declared.leaf_kind.LeafKind.{LeafKind}
use Rattle.codec_source.specs.Events.{begins, ends, opens, closes, holds, comes, more, picks}
use Rattle.codec_source.specs.Small.{TakesValue, TakesComponent, TakesElement, TakesChoice, TakesChoiceComponent}
use Rattle.octet_answers.specs.Units.{UnitAt}
use Rattle.octet_answers.specs.States.{State, OpenContents, Token, component, chosen, with_token, following, begun_at, opened_at, held_at, closed_at}
use Rattle.octet_answers.specs.Answers.{Takes}
use Rattle.ber_source.specs.declared.small.ShortValue.{ShortValue}
use Rattle.ber_source.specs.declared.small.LeafAlternative.{LeafAlternative}
use Rattle.ber_source.specs.Seen.{FitsMessage}
use Rattle.ber_source.specs.ShortValue.{IsShortValue, IsAlternativeNext, choice_at, short_at}
use Rattle.ber_source.specs.proving.Taken.{Law}
use Rattle.ber_source.proofs.Windows.{false_true}

pub take_all : (ms : List ℕ) → take (length ms) ms ≡ ms
take_all [] = refl
take_all (m ∷ ms) = ap (λ q. m ∷ q) (take_all ms)

-- the state after all answers, with these marks
abbrev with_marks : State → TypeId → LeafKind → Octets → Octets → ℕ → List ℕ → State
with_marks a t k x rest left ms = let z = short_at a t k x rest left in record {
  schema = z.schema;
  here = z.here;
  outer = z.outer;
  values = z.values;
  marks = ms;
  emitted = z.emitted;
  budget = z.budget;
}

pub value_taken : Law → (a : State) (h : Head) (k : LeafKind) (s : ShortValue) (t : TypeId) → IsShortValue a h k s
    → TakesValue Takes t h k a (short_at a t k s.contents.now s.rest.now (a.budget - 1))
value_taken law a h k s t i =
    let x = s.contents.now in
    let r = s.rest.now in
    let left = a.budget - 1 in
    let w = following a.here 2 x r in
    let b = begun_at a t left in
    let o = opened_at b false 2 x r in
    let d = held_at o k in
    let c = closed_at d w a.outer in
    let z = short_at a t k x r left in
    let one : a.budget ≡ suc left = (let l = i.has_budget in omega arith) in
    let many : (399 - length a.outer) + length (a.outer ++ w ∷ []) ≡ 400 = (let l = i.few_headers in let m = length_more a.outer w in omega arith) in
    record {
      begun_at = b;
      opened_at = o;
      held_at = d;
      closed_at = c;
      begun = law a b (begins t) (record { left = left; has_budget = one; few_levels = i.few_values; is = refl });
      opened = law b o (opens h) (record {
        constructed = false;
        count = 2;
        contents = x;
        rest = r;
        unit = i.unit;
        form = λ f. absurd (false_true (sym i.primitive ∙ f));
        few_levels = i.few_headers;
        is = refl;
      });
      held = law o d (holds k) (record {
        value = i.read.value;
        levels = 399 - length a.outer;
        few_levels = many;
        contents = i.read.is_read;
        is = refl;
      });
      closed = law d c closes (record { open_contents = w; others = a.outer; none_left = refl; is_open = refl; is = refl });
      ended = law c z ends (record {
        value = t;
        others = a.values;
        is_open = refl;
        is = ap (with_marks a t k x r left) (sym (take_all a.marks));
      });
    }
  where
    length_more : (ws : List OpenContents) (w : OpenContents) → length (ws ++ w ∷ []) ≡ suc (length ws)
    length_more [] w = refl
    length_more (v ∷ ws) w = ap suc (length_more ws w)

-- the same as one more element of a list
pub element_taken : Law → (a : State) (h : Head) (k : LeafKind) (s : ShortValue) (t : TypeId) (sorted : Bool) → IsShortValue a h k s
    → TakesElement Takes t sorted h k a (short_at a t k s.contents.now s.rest.now (a.budget - 1))
element_taken law a h k s t sorted i =
    let l = i.unit.long in
    let e = ap length i.unit.whole in
    let m = length-append i.unit.header (s.contents.now ++ s.rest.now) in
    record {
      next_at = a;
      is_next = law a a (more t sorted true) (record { some = omega (arith, l, e, m); is = refl });
      value = value_taken law a h k s t i;
    }

-- the same after a token that names a part, or begins a value
pub token_short : (a : State) (i : Token) (h : Head) (k : LeafKind) (s : ShortValue) → IsShortValue a h k s → IsShortValue (with_token a i) h k s
token_short a i h k s n = record {
  primitive = n.primitive;
  unit = n.unit;
  read = n.read;
  has_budget = n.has_budget;
  few_values = n.few_values;
  few_headers = n.few_headers;
}

pub component_taken : Law → (a b : State) (f : Field) (h : Head) (k : LeafKind) (s : ShortValue) → First a.schema f.ty.index h.tag → IsShortValue a h k s
    → b ≡ with_token a (component f.place)
    → TakesComponent Takes f h k a (short_at b f.ty k s.contents.now s.rest.now (b.budget - 1))
component_taken law a b f h k s first i e =
    subst (λ q. TakesComponent Takes f h k a (short_at q f.ty k s.contents.now s.rest.now (q.budget - 1))) (sym e)
    (let n = with_token a (component f.place) in record {
      next_at = n;
      is_next = law a n (comes f true) (record {
        tag = h.tag;
        constructed = false;
        count = 2;
        contents = s.contents.now;
        rest = s.rest.now;
        unit = i.unit;
        first = first;
        is = refl;
      });
      value = value_taken law n h k s f.ty (token_short a (component f.place) h k s i);
    })

-- the same where the alternative of a value of t is named
pub chosen_short : (a : State) (t : TypeId) (i : ℕ) (h : Head) (k : LeafKind) (s : ShortValue)
    → 1 < a.budget
    → length a.values < 63
    → IsShortValue a h k s
    → IsShortValue (with_token (begun_at a t (a.budget - 1)) (chosen i)) h k s
chosen_short a t i h k s many deep n = record {
  primitive = n.primitive;
  unit = n.unit;
  read = n.read;
  has_budget = omega (arith, many);
  few_values = (let l = length-append a.values (t ∷ []) in omega (arith, deep, l));
  few_headers = n.few_headers;
}

pub choice_taken : Law → (r : ℕ → List Step) (a b : State) (t : TypeId) (calls : List Step) (l : LeafAlternative) (s : ShortValue)
    → r l.ty.index ≡ HeadStep l.head ∷ LeafStep l.kind ∷ End ∷ []
    → 1 < a.budget
    → length a.values < 63
    → IsAlternativeNext a calls l.index l.ty
    → IsShortValue a l.head l.kind s
    → b ≡ choice_at a t l.index l.ty l.kind s.contents.now s.rest.now ((a.budget - 1) - 1)
    → TakesChoice r Takes t calls a b
choice_taken law r a b t calls l s routine many deep n short e =
    subst (λ q. TakesChoice r Takes t calls a q) (sym e)
    (let x = s.contents.now in
    let left = (a.budget - 1) - 1 in
    let begun_in = begun_at a t (a.budget - 1) in
    let chosen_in = with_token begun_in (chosen l.index) in
    let read_in = short_at chosen_in l.ty l.kind x s.rest.now left in
    let z = choice_at a t l.index l.ty l.kind x s.rest.now left in
    let one : a.budget ≡ suc (a.budget - 1) = omega (arith, many) in
    record {
      alternative = l.ty;
      header = l.head;
      kind = l.kind;
      routine = routine;
      begun_at = begun_in;
      chosen_at = chosen_in;
      read_at = read_in;
      begun = law a begun_in (begins t) (record { left = a.budget - 1; has_budget = one; few_levels = omega (arith, deep); is = refl });
      picked = law begun_in chosen_in (picks calls l.ty) (record {
        tag = n.tag;
        constructed = n.constructed;
        count = n.count;
        contents = n.contents;
        rest = n.rest;
        unit = n.unit;
        index = l.index;
        alternative = n.is_chosen;
        is = refl;
      });
      value = value_taken law chosen_in l.head l.kind s l.ty (chosen_short a t l.index l.head l.kind s many deep short);
      ended = law read_in z ends (record { value = t; others = a.values; is_open = refl; is = refl });
    })

-- the same after a token that names a component
named_next : (a : State) (i : Token) (calls : List Step) (l : LeafAlternative) → IsAlternativeNext a calls l.index l.ty → IsAlternativeNext (with_token a i) calls l.index l.ty
named_next a i calls l n = record {
  tag = n.tag;
  constructed = n.constructed;
  count = n.count;
  contents = n.contents;
  rest = n.rest;
  unit = n.unit;
  is_chosen = n.is_chosen;
}

pub choice_component_taken : Law → (r : ℕ → List Step) (a b z : State) (f : Field) (calls : List Step) (l : LeafAlternative) (s : ShortValue)
    → r l.ty.index ≡ HeadStep l.head ∷ LeafStep l.kind ∷ End ∷ []
    → 1 < a.budget
    → length a.values < 63
    → IsAlternativeNext a calls l.index l.ty
    → First a.schema f.ty.index l.head.tag
    → IsShortValue a l.head l.kind s
    → b ≡ with_token a (component f.place)
    → z ≡ choice_at b f.ty l.index l.ty l.kind s.contents.now s.rest.now ((b.budget - 1) - 1)
    → TakesChoiceComponent r Takes f calls a z
choice_component_taken law r a b z f calls l s routine many deep next first short e d =
    let n = with_token a (component f.place) in
    record {
      next_at = n;
      is_next = law a n (comes f true) (record {
        tag = l.head.tag;
        constructed = false;
        count = 2;
        contents = s.contents.now;
        rest = s.rest.now;
        unit = short.unit;
        first = first;
        is = refl;
      });
      value = choice_taken law r n z f.ty calls l s routine many deep (named_next a (component f.place) calls l next) (token_short a (component f.place) l.head l.kind s short)
          (subst (λ q. z ≡ choice_at q f.ty l.index l.ty l.kind s.contents.now s.rest.now ((q.budget - 1) - 1)) e d);
    }

-- the offsets of contents and of what follows them are within a message
pub record AreInside (w : OpenContents) (x r : Octets) : Type 0 where
  pub contents : (w.at + 2) + length x ≤ 16777216
  pub rest : FitsMessage (following w 2 x r)

pub inside : {t : Tag} {x r : Octets} (w : OpenContents) → FitsMessage w → UnitAt t false 2 x r w.octets → AreInside w x r
inside {t} {x} {r} w f u =
    let g : w.at + length w.octets ≤ 16777216 = f in
    let l = u.long in
    let e = ap length u.whole in
    let m = length-append u.header (x ++ r) in
    let n = length-append x r in
    let first : (w.at + 2) + length x ≤ 16777216 = omega (arith, g, l, e, m, n) in
    let last : (w.at + (2 + length x)) + length r ≤ 16777216 = omega (arith, g, l, e, m, n) in
    record { contents = first; rest = last }
