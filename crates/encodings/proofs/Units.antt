-- An encoding is a header and as many contents octets as it announces. So encodings differ, whatever zeros follow them.
use Rattle.std.proofs.Common.{arith, ◌≡◌, ℕ, zero, suc, inl, inr, ⊎_elim, Bool, true, List, [], ◌∷◌, ◌++◌, length, refl, sym, ap, subst, ◌∙◌, append_assoc}
use Rattle.asn_base.specs.declared.tag.Tag.{Tag}
use Rattle.asn_base.specs.Abstract.{AbstractValue}
use Rattle.asn_base.specs.Types.{Kind, Resolved}
use Rattle.asn_base.specs.Tags.{IsChoice, AllTagged, class_rank, TagBefore}
use Rattle.encodings.specs.Rules.{Rules}
use Rattle.encodings.specs.Header.{Header}
use Rattle.encodings.specs.Orders.{AtMost, BeginsWith, InTagOrder}
use Rattle.encodings.specs.Encoding.{Framed, innermost, outer, EncodesTo, says, ContentsEncode, leaf, sequence, set, sequence_of, set_of, choice}
use Rattle.encodings.specs.proving.Fronts.{split_front}
use Rattle.encodings.proofs.Identifiers.{any_front}
use Rattle.encodings.specs.proving.LeafForms.{no_leaf, bare_is}

-- a header of some tag, and as many octets as it announces
pub record IsUnit (o : List ℕ) : Type 0 where
  pub tag : Tag
  pub constructed : Bool
  pub header : List ℕ
  pub rest : List ℕ
  pub is_header : Header tag constructed (length rest) header
  pub whole : o ≡ header ++ rest

framed_unit : {r : Rules} {g : Tag} {ts : List Tag} {c : Bool} {x o : List ℕ} → Framed r (g ∷ ts) c x o → IsUnit o
framed_unit {g = g} {c = c} {x = x} (innermost {h = h} a) = record { tag = g; constructed = c; header = h; rest = x; is_header = a.header; whole = refl }
framed_unit {g = g} (outer {h = h} {y = y} f a) = record { tag = g; constructed = true; header = h; rest = y; is_header = a.header; whole = refl }

mutual
  pub says_unit : {s : List Resolved} {r : Rules} {t n : ℕ} {v : AbstractValue} {o : List ℕ} → AllTagged s → EncodesTo s r t v n o → IsUnit o
  says_unit all (says {tags = []} i h fr) = subst IsUnit (sym (bare_is fr)) (holds_unit all (all _ _ i) h)
  says_unit all (says {tags = g ∷ ts} i h fr) = framed_unit fr

  holds_unit : {s : List Resolved} {r : Rules} {k : Kind} {n : ℕ} {v : AbstractValue} {c : Bool} {x : List ℕ} → AllTagged s → IsChoice k → ContentsEncode s r k v n c x → IsUnit x
  holds_unit all h (leaf con) = absurd (no_leaf h con)
  holds_unit all h (sequence ms u) = absurd h
  holds_unit all h (set ms p st u m) = absurd h
  holds_unit all h (sequence_of es) = absurd h
  holds_unit all h (set_of es st) = absurd h
  holds_unit all h (choice g a) = says_unit all a

-- no unit begins another
pub units_front : (x y p q : List ℕ) → IsUnit x → IsUnit y → x ++ p ≡ y ++ q → (x ≡ y) × (p ≡ q)
units_front x y p q u v e =
    let f : u.header ++ (u.rest ++ p) ≡ v.header ++ (v.rest ++ q) = sym (append_assoc u.header u.rest p) ∙ ap (λ z. z ++ p) (sym u.whole) ∙ e ∙ ap (λ z. z ++ q) v.whole ∙ append_assoc v.header v.rest q in
    let r = any_front u.tag v.tag u.constructed v.constructed (length u.rest) (length v.rest) u.header v.header (u.rest ++ p) (v.rest ++ q) u.is_header v.is_header f in
    let c = split_front u.rest v.rest p q r.counts r.rest in
    (u.whole ∙ ap (λ z. z ++ u.rest) r.headers ∙ ap (λ z. v.header ++ z) c.0 ∙ sym v.whole, c.1)

-- lists that are equal as far as both go, filled with zeros
record Filled (x y : List ℕ) : Type 0 where
  a : List ℕ
  b : List ℕ
  same : x ++ a ≡ y ++ b

nil_right : (l : List ℕ) → l ++ [] ≡ l
nil_right [] = refl
nil_right (c ∷ l) = ap (λ q. c ∷ q) (nil_right l)

filled : (x y : List ℕ) → AtMost x y → AtMost y x → Filled x y
filled [] y h k = record { a = y; b = []; same = sym (nil_right y) }
filled (x ∷ xs) [] h k = record { a = []; b = x ∷ xs; same = ap (λ q. x ∷ q) (nil_right xs) }
filled (x ∷ xs) (y ∷ ys) h k =
    ⊎_elim
    (λ lt. ⊎_elim (λ lt'. absurd (omega arith)) (λ e. let f = e.0 in absurd (omega arith)) k)
    (λ d. ⊎_elim (λ lt'. let f = d.0 in absurd (omega arith)) (λ e. more d.0 (filled xs ys d.1 e.1)) k)
    h
  where
    more : x ≡ y → Filled xs ys → Filled (x ∷ xs) (y ∷ ys)
    more e f = record { a = f.a; b = f.b; same = let g = f.same in cc }

pub units_apart : (x y : List ℕ) → IsUnit x → IsUnit y → AtMost x y → AtMost y x → x ≡ y
units_apart x y u v h k = let f = filled x y h k in (units_front x y f.a f.b u v f.same).0

at_most_zero : (xs ys : List ℕ) → AtMost xs [] → AtMost xs ys
at_most_zero [] ys h = tt
at_most_zero (x ∷ xs) [] h = h
at_most_zero (x ∷ xs) (zero ∷ ys) h = inr (h.0, at_most_zero xs ys h.1)
at_most_zero (x ∷ xs) (suc y ∷ ys) h = inl (let e = h.0 in omega arith)

pub at_most_trans : (xs ys zs : List ℕ) → AtMost xs ys → AtMost ys zs → AtMost xs zs
at_most_trans [] ys zs h k = tt
at_most_trans (x ∷ xs) [] zs h k = at_most_zero (x ∷ xs) zs h
at_most_trans (x ∷ xs) (y ∷ ys) [] h k = ⊎_elim (λ lt. let e = k.0 in absurd (omega arith)) (λ e. (e.0 ∙ k.0, at_most_trans xs ys [] e.1 k.1)) h
at_most_trans (x ∷ xs) (y ∷ ys) (z ∷ zs) h k =
    ⊎_elim
    (λ lt. ⊎_elim (λ lt'. inl (omega arith)) (λ e. inl (let f = e.0 in omega arith)) k)
    (λ d. ⊎_elim (λ lt'. inl (let f = d.0 in omega arith)) (λ e. inr (d.0 ∙ e.0, at_most_trans xs ys zs d.1 e.1)) k)
    h

-- octets begin with one tag
record SameTag (g f : Tag) : Type 0 where
  classes : g.class ≡ f.class
  numbers : g.number ≡ f.number

begins_same : (g f : Tag) (o : List ℕ) → BeginsWith g o → BeginsWith f o → SameTag g f
begins_same g f o a b =
    let r = any_front g f a.constructed b.constructed a.count b.count a.header b.header a.rest b.rest a.is_header b.is_header (sym a.whole ∙ b.whole) in
    record { classes = r.classes; numbers = r.numbers }

tags_ordered : (a b c d : Tag) → TagBefore a b → TagBefore c d → SameTag b c → TagBefore a d
tags_ordered a b c d h k e =
    let f = ap class_rank e.classes in
    let n = e.numbers in
    ⊎_elim
    (λ lt. ⊎_elim (λ lt'. inl (omega arith)) (λ m. inl (let m' = m.0 in omega arith)) k)
    (λ l. ⊎_elim (λ lt'. inl (let l' = l.0 in omega arith)) (λ m. inr (l.0 ∙ f ∙ m.0, let l' = l.1 in let m' = m.1 in omega arith)) k)
    h

not_before_itself : (a b : Tag) → TagBefore a b → SameTag b a → ⊥
not_before_itself a b h e =
    let f = ap class_rank e.classes in
    let n = e.numbers in
    ⊎_elim (λ lt. omega arith) (λ l. let l' = l.1 in omega arith) h

pub tag_order_trans : (x y z : List ℕ) → InTagOrder x y → InTagOrder y z → InTagOrder x z
tag_order_trans x y z a b = record {
  former = a.former;
  latter = b.latter;
  begins_former = a.begins_former;
  begins_latter = b.begins_latter;
  before = tags_ordered a.former a.latter b.former b.latter a.before b.before (begins_same a.latter b.former y a.begins_latter b.begins_former);
}

pub tag_order_anti : (x y : List ℕ) → InTagOrder x y → InTagOrder y x → ⊥
tag_order_anti x y a b =
    let c = tag_order_trans x y x a b in
    not_before_itself c.former c.latter c.before (begins_same c.latter c.former x c.begins_latter c.begins_former)
