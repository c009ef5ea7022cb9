-- Headers by the distinguished rules.
use Rattle.std.proofs.Common.{arith, lit<, ◌≡◌, ℕ, ◌+◌, ◌-◌, ◌^◌, ◌<◌, ◌≤◌, Bool, true, List, [], ◌∷◌, ◌++◌, length, refl, sym, ap, subst, ◌∙◌, length-append}
use Rattle.std.proofs.lemmas.List.{append-nil}
use Rattle.std.specs.Prelude.{Option, Some, None, IfSome, IfNone}
use Rattle.asn_base.specs.declared.tag.Tag.{Tag}
use Rattle.encodings.specs.Header.{Header, HeaderBy, FewestOctets, LengthOf, short, long, identifier}
use Rattle.encodings.specs.Rules.{Basic, Distinguished}
use Rattle.encodings.specs.Encoding.{Framed, bare, innermost, outer}
use Rattle.encodings.specs.Fewest.{shortest_header, shortest_size}
use Rattle.codec_code.specs.declared.step.RowKind.{RowKind}
use Rattle.codec_code.specs.Routines.{heads, is_constructed}
use Rattle.codec_code.specs.declared.step.Head.{Head as Head'}
use Rattle.codec_code.specs.declared.step.Step.{Step}
use Rattle.codec_code.specs.declared.step.Step.TheVariants.{Head, Leaf, Field, SetComponent, Each, EachSorted, Pick, Call, Rest, End}
use Rattle.octet_answers.specs.Units.{UnitAt}
use Rattle.der_check.proofs.Frames.{framed_inner}
use Rattle.der_check.proofs.Split.{HeadersApart, SameUnit, same_unit}
use Rattle.der_check.specs.declared.rule.Breach.{Breach}
use Rattle.der_check.specs.declared.rule.RuleOfDer.{RuleOfDer}
use Rattle.der_check.specs.declared.rule.RuleOfDer.TheVariants.{FewestLengthOctets, PrimitiveString}
use Rattle.der_check.specs.Broken.{IsFirst, HasLongHeader, HasInnermost, long_innermost, long_outer, long_within, innermost_first, innermost_within}
use Rattle.der_check.specs.Heads.{IsInside, IsBare, IsWithinHeaders, no_head, in_head, HeaderBreaks, other_form, not_fewest, HeadersBreak, one_long, form_differs, FrameBreaks}

none_left : (r : List ℕ) → length r ≡ 0 → r ≡ []
none_left [] e = refl
none_left (x ∷ r) e = absurd (omega arith)

-- a header with the fewest octets that is there
pub is_inside : (h : Head') {g : Tag} {c : Bool} {k : ℕ} {x r o : List ℕ} → ((t : Tag) (c : Bool) (n : ℕ) (p : List ℕ) → Header t c n p → length (shortest_header t c n) ≤ length p) → UnitAt g c k x r o → g ≡ h.tag → c ≡ h.constructed → k ≡ length (shortest_header g c (length x)) → length r ≡ 0 → IsInside h x o
is_inside h {g} {c} {k} {x} {r} {o} least u e f l z =
    let l1 = u.long in
    let few : FewestOctets g c (length x) u.header = λ p q. (let m = least g c (length x) p q in omega arith) in
    let by : HeaderBy Distinguished g c (length x) u.header = record { header = u.is_header; fewest = few } in
    record {
      header = u.header;
      is_header = subst (λ q. HeaderBy Distinguished q h.constructed (length x) u.header) e (subst (λ q. HeaderBy Distinguished g q (length x) u.header) f by);
      whole = u.whole ∙ ap (λ q. u.header ++ (x ++ q)) (none_left r z) ∙ ap (λ q. u.header ++ q) (append-nil x);
    }

pub inside_unit : {h : Head'} {x o : List ℕ} (i : IsInside h x o) → length o ≤ 16777216 → UnitAt h.tag h.constructed (length i.header) x [] o
inside_unit {h} {x} {o} i l = record {
  header = i.header;
  is_header = i.is_header.header;
  few = (let a = ap length i.whole in let b = length-append i.header x in omega arith);
  long = refl;
  whole = i.whole ∙ ap (λ q. i.header ++ q) (sym (append-nil x));
}

pub inside_short : {h : Head'} {x o : List ℕ} → IsInside h x o → length o ≤ 16777216 → length x ≤ 16777216
inside_short {h} {x} {o} i l = let a = ap length i.whole in let b = length-append i.header x in omega arith

-- the unit at the front of such octets
pub front_inside : HeadersApart → {h : Head'} {g : Tag} {c : Bool} {k : ℕ} {x y r o : List ℕ} (i : IsInside h x o) → length o ≤ 16777216 → UnitAt g c k y r o → SameUnit g h.tag c h.constructed k (length i.header) y x r []
front_inside law i l u = same_unit law u (inside_unit i l)

pub count_inside : HeadersApart → ((t : Tag) (c : Bool) (n : ℕ) (h : List ℕ) → HeaderBy Distinguished t c n h → h ≡ shortest_header t c n) → {h : Head'} {g : Tag} {c : Bool} {k : ℕ} {x y r o : List ℕ} (i : IsInside h x o) → length o ≤ 16777216 → UnitAt g c k y r o → k ≡ length (shortest_header g c (length y))
count_inside law only {h} {g} {c} {k} {x} {y} i l u =
    let s = front_inside law i l u in
    s.counts ∙ ap length (only h.tag h.constructed (length x) i.header i.is_header) ∙ ap (λ q. length (shortest_header q h.constructed (length x))) (sym s.tags) ∙ ap (λ q. length (shortest_header g q (length x))) (sym s.forms) ∙ ap (λ q. length (shortest_header g c (length q))) (sym s.contents)

one_inside : HeadersApart → {h : Head'} {x y o : List ℕ} → IsInside h x o → IsInside h y o → x ≡ y
one_inside law {h} {x} {y} i j = (law h.tag h.tag h.constructed h.constructed (length x) (length y) i.header j.header x y i.is_header.header j.is_header.header (sym i.whole ∙ j.whole)).4

-- ---- steps that begin with headers

pub no_steps : (ss : List Step) (o : List ℕ) → length ss ≡ 0 → IsWithinHeaders ss o ss o
no_steps [] o e = no_head tt
no_steps (p ∷ ss) o e = absurd (omega arith)

pub bare_step : (p : Step) (ss : List Step) → ((h : Head') → p ≡ Head h → ⊥) → IsBare (p ∷ ss)
bare_step (Head h) ss n = n h refl
bare_step (Leaf k) ss n = tt
bare_step (Field f) ss n = tt
bare_step (SetComponent f r) ss n = tt
bare_step (Each t) ss n = tt
bare_step (EachSorted t) ss n = tt
bare_step (Pick m) ss n = tt
bare_step (Call t) ss n = tt
bare_step Rest ss n = tt
bare_step End ss n = tt

pub not_head : (ss : List Step) (p : Step) (rest : List Step) (o : List ℕ) → ss ≡ p ∷ rest → ((h : Head') → p ≡ Head h → ⊥) → IsWithinHeaders ss o ss o
not_head ss p rest o e n = no_head (subst IsBare (sym e) (bare_step p rest n))

pub with_head : {ss rest rs : List Step} {p : Step} {h : Head'} {o x y : List ℕ} → ss ≡ p ∷ rest → p ≡ Head h → IsInside h x o → IsWithinHeaders rest x rs y → IsWithinHeaders ss o rs y
with_head {rest = rest} {rs = rs} {o = o} {y = y} e f i w = subst (λ q. IsWithinHeaders q o rs y) (sym (e ∙ ap (λ q. q ∷ rest) f)) (in_head i w)

-- the contents in the first header, and what is within them
record InHead (h : Head') (rest rs : List Step) (o y : List ℕ) : Type 0 where
  contents : List ℕ
  inside : IsInside h contents o
  within : IsWithinHeaders rest contents rs y

in_first : {h : Head'} {rest rs : List Step} {o y : List ℕ} → IsWithinHeaders (Head h ∷ rest) o rs y → InHead h rest rs o y
in_first (no_head a) = absurd a
in_first (in_head {x = x} i w) = record { contents = x; inside = i; within = w }

first_of : {ss rest rs : List Step} {p : Step} {h : Head'} {o y : List ℕ} → ss ≡ p ∷ rest → p ≡ Head h → IsWithinHeaders ss o rs y → InHead h rest rs o y
first_of {rest = rest} {rs = rs} {o = o} {y = y} e f w = in_first (subst (λ q. IsWithinHeaders q o rs y) (e ∙ ap (λ q. q ∷ rest) f) w)

pub not_in_head : {ss rest rs : List Step} {p : Step} {h : Head'} {o y : List ℕ} → ss ≡ p ∷ rest → p ≡ Head h → ((x : List ℕ) → IsInside h x o → length o ≤ 16777216 → ⊥) → IsWithinHeaders ss o rs y → length o ≤ 16777216 → ⊥
not_in_head e f n w l = let i = first_of e f w in n i.contents i.inside l

pub not_after_head : HeadersApart → {ss rest rs : List Step} {p : Step} {h : Head'} {o x y : List ℕ} → ss ≡ p ∷ rest → p ≡ Head h → IsInside h x o → ((qs : List Step) (z : List ℕ) → IsWithinHeaders rest x qs z → length x ≤ 16777216 → ⊥) → IsWithinHeaders ss o rs y → length o ≤ 16777216 → ⊥
not_after_head law {rest = rest} {rs = rs} {x = x} {y = y} e f i n w l =
    let j = first_of e f w in
    n rs y (subst (λ q. IsWithinHeaders rest q rs y) (one_inside law j.inside i) j.within) (inside_short i l)

pub if_some : {A : Type 0} {P Q : A → Type 0} (r : Option A) → ((x : A) → P x → Q x) → IfSome r P → IfSome r Q
if_some None f a = tt
if_some (Some x) f a = f x a

pub if_none : {A : Type 0} {P Q : Type 0} (r : Option A) → (P → Q) → IfNone r P → IfNone r Q
if_none None f a = f a
if_none (Some x) f a = tt

-- ---- headers that break a rule

pub basic_unit : {g : Tag} {c : Bool} {x h o : List ℕ} → Header g c (length x) h → o ≡ h ++ x → length o ≤ 16777216 → UnitAt g c (length h) x [] o
basic_unit {x = x} {h = h} a e l = record {
  header = h;
  is_header = a;
  few = (let b = ap length e in let d = length-append h x in omega (arith, l, b, d));
  long = refl;
  whole = e ∙ ap (λ q. h ++ q) (sym (append-nil x));
}

-- the octets are one such header and contents, and there is one unit at their front
pub front_basic : HeadersApart → {g f : Tag} {c d : Bool} {k : ℕ} {x y h r o : List ℕ} → Header g c (length x) h → o ≡ h ++ x → length o ≤ 16777216 → UnitAt f d k y r o → SameUnit f g d c k (length h) y x r []
front_basic law a e l u = same_unit law u (basic_unit a e l)

pub not_shortest : ((t : Tag) (c : Bool) (n : ℕ) (h : List ℕ) → HeaderBy Distinguished t c n h → h ≡ shortest_header t c n) → {g f : Tag} {c d : Bool} {k : ℕ} {x y h r : List ℕ} (len : ℕ) → SameUnit f g d c k (length h) y x r [] → Header g c (length x) h → length (shortest_header f c (length y)) ≡ len → (k ≡ len → ⊥) → FewestOctets g c (length x) h → ⊥
not_shortest only {g} {f} {c} {d} {k} {x} {y} {h} len s a e n few =
    let i : HeaderBy Distinguished g c (length x) h = record { header = a; fewest = few } in
    n (s.counts ∙ ap length (only g c (length x) h i) ∙ ap (λ q. length (shortest_header q c (length x))) (sym s.tags) ∙ ap (λ q. length (shortest_header f c (length q))) (sym s.contents) ∙ e)

pub longer_breaks : {p : Head'} {f : Tag} {c d : Bool} {x h : List ℕ} {n : ℕ} → f ≡ p.tag → d ≡ c → d ≡ p.constructed → (FewestOctets p.tag c (length x) h → ⊥) → length (identifier f.class f.number c) ≡ n → HeaderBreaks p c x h FewestLengthOctets n
longer_breaks {p} {c = c} {x = x} {h = h} t e i few l =
    subst (HeaderBreaks p c x h FewestLengthOctets) (ap (λ q. length (identifier q.class q.number c)) (sym t) ∙ l) (not_fewest (sym e ∙ i) few)

size_some : {n : ℕ} {x : List ℕ} → LengthOf n x → 1 ≤ length x
size_some (short l) = omega (arith, l)
size_some (long l) = omega arith

head_same : {h k : Head'} → Head h ≡ Head k → h ≡ k
head_same e = cc

abbrev first_step : List Step → Option Step
first_step [] = None
first_step (p ∷ ss) = Some p

abbrev later_steps : List Step → List Step
later_steps [] = []
later_steps (p ∷ ss) = ss

some_step : {p q : Step} → Some p ≡ Some q → p ≡ q
some_step e = cc

-- the header that steps begin with
the_head : {st rest more : List Step} {p : Step} {h k : Head'} → st ≡ p ∷ rest → p ≡ Head h → st ≡ Head k ∷ more → (h ≡ k) × (rest ≡ more)
the_head e f g = let d = sym e ∙ g in (head_same (sym f ∙ some_step (ap first_step d)), ap later_steps d)

never_bare : {st rest : List Step} {p : Step} {h : Head'} {ss : List Step} → st ≡ p ∷ rest → p ≡ Head h → st ≡ ss → IsBare ss → ⊥
never_bare {rest = rest} e f g b = subst IsBare (sym g ∙ e ∙ ap (λ q. q ∷ rest) f) b

-- what is found of one header
abbrev pub FindsHeader : Head' → List ℕ → Breach → Type 0
FindsHeader h o b = (c : Bool) (x hd : List ℕ) → Header h.tag c (length x) hd → o ≡ hd ++ x → length o ≤ 16777216 → HeaderBreaks h c x hd b.rule b.offset

-- a header has more octets than those of its tag
pub tag_shorter : {t : Tag} {c : Bool} {n : ℕ} {h : List ℕ} → Header t c n h → length (identifier t.class t.number c) < length h
tag_shorter {t} {c} {h = h} a =
    let e = ap length a.whole in
    let l = length-append (identifier t.class t.number c) a.size in
    let s = size_some a.is_size in
    omega (arith, e, l, s)

long_least : {t : Tag} {c : Bool} {x o : List ℕ} {m : ℕ} → HasLongHeader (t ∷ []) c x o m → length (identifier t.class t.number c) ≤ m
long_least (long_innermost a f) = omega arith

later_least : {t u : Tag} {ts : List Tag} {d c : Bool} {x o : List ℕ} {q : RuleOfDer} {m : ℕ} → HeadersBreak d (t ∷ u ∷ ts) c x o q m → length (identifier t.class t.number true) ≤ m
later_least (one_long (long_outer fr a f)) = omega arith
later_least (one_long (long_within l a)) = let s = tag_shorter a in omega (arith, s)
later_least (form_differs n (innermost_within l a)) = let s = tag_shorter a in omega (arith, s)

single_least : {t : Tag} {d c : Bool} {x o : List ℕ} {q : RuleOfDer} {m : ℕ} → c ≡ d → HeadersBreak d (t ∷ []) c x o q m → length (identifier t.class t.number c) ≤ m
single_least e (one_long l) = long_least l
single_least e (form_differs n p) = absurd (n e)

innermost_breaks : (k : Head') {g : Tag} {d c : Bool} {x hd : List ℕ} {r : RuleOfDer} {n : ℕ} → k.tag ≡ g → k.constructed ≡ d → Header g c (length x) hd → HeaderBreaks k c x hd r n → IsFirst (HeadersBreak d (g ∷ []) c x (hd ++ x)) r n × (n + length x < length (hd ++ x))
innermost_breaks k {x = x} {hd = hd} e f a (other_form n) = (
  record { broken = form_differs (λ q. n (q ∙ sym f)) (innermost_first a); none_before = λ q m h. omega arith },
  let s = tag_shorter a in let l = length-append hd x in omega (arith, l, s),
)
innermost_breaks k {g} {d} {c} {x} {hd} e f a (not_fewest i n) =
    subst (λ q. IsFirst (HeadersBreak d (g ∷ []) c x (hd ++ x)) FewestLengthOctets (length (identifier q.class q.number c)) × (length (identifier q.class q.number c) + length x < length (hd ++ x))) (sym e) (
      record { broken = one_long (long_innermost a (λ w. n (subst (λ q. FewestOctets q c (length x) hd) (sym e) w))); none_before = λ q m h. single_least (i ∙ f) h },
      let s = tag_shorter a in let l = length-append hd x in omega (arith, l, s),
    )

outer_breaks : (k : Head') {g u : Tag} {ts : List Tag} {d c : Bool} {x y hd : List ℕ} {r : RuleOfDer} {n : ℕ} → k.tag ≡ g → k.constructed ≡ true → Framed Basic (u ∷ ts) c x y → Header g true (length y) hd → HeaderBreaks k true y hd r n → IsFirst (HeadersBreak d (g ∷ u ∷ ts) c x (hd ++ y)) r n × (n + length x < length (hd ++ y))
outer_breaks k e f fr a (other_form n) = absurd (n (sym f))
outer_breaks k {g} {u} {ts} {d} {c} {x} {y} {hd} e f fr a (not_fewest i n) =
    subst (λ q. IsFirst (HeadersBreak d (g ∷ u ∷ ts) c x (hd ++ y)) FewestLengthOctets (length (identifier q.class q.number true)) × (length (identifier q.class q.number true) + length x < length (hd ++ y))) (sym e) (
      record { broken = one_long (long_outer fr a (λ w. n (subst (λ q. FewestOctets q true (length y) hd) (sym e) w))); none_before = λ q m h. later_least h },
      let s = tag_shorter a in let l = length-append hd y in let w = framed_inner fr in omega (arith, l, s, w),
    )

as_frame : {d : Bool} {tags : List Tag} {c : Bool} {x o : List ℕ} (b : Breach) → IsFirst (HeadersBreak d tags c x o) b.rule b.offset × (b.offset + length x < length o) → FrameBreaks d tags c x o b
as_frame b p = record { first = p.0; within = p.1 }

pub first_breaks : {st rest : List Step} {p : Step} {h : Head'} {c : Bool} {x o : List ℕ} (b : Breach) (tags : List Tag) (r : RowKind) (ss : List Step) → st ≡ p ∷ rest → p ≡ Head h → FindsHeader h o b → st ≡ heads tags r ++ ss → IsBare ss → Framed Basic tags c x o → length o ≤ 16777216 → FrameBreaks (is_constructed r) tags c x o b
first_breaks b [] r ss e f k g i fr l = absurd (never_bare e f g i)
first_breaks {h = h} {c = c} b (t ∷ []) r ss e f k g i (innermost {h = hd} {x = x} a) l =
    let s = (the_head e f g).0 in
    let tag = ap (λ q. q.tag) s in
    as_frame b (innermost_breaks h tag (ap (λ q. q.constructed) s) a.header (k c x hd (subst (λ q. Header q c (length x) hd) (sym tag) a.header) refl l))
first_breaks {h = h} b (t ∷ u ∷ ts) r ss e f k g i (outer {h = hd} {y = y} fr a) l =
    let s = (the_head e f g).0 in
    let tag = ap (λ q. q.tag) s in
    as_frame b (outer_breaks h tag (ap (λ q. q.constructed) s) fr a.header (k true y hd (subst (λ q. Header q true (length y) hd) (sym tag) a.header) refl l))

-- what is found of the contents of the first header
abbrev pub FindsFrame : List Step → List ℕ → Breach → Type 0
FindsFrame st o b = (tags : List Tag) (r : RowKind) (ss : List Step) (c : Bool) (x : List ℕ) → st ≡ heads tags r ++ ss → IsBare ss → Framed Basic tags c x o → length o ≤ 16777216 → FrameBreaks (is_constructed r) tags c x o b

no_headers : {d c : Bool} {x o : List ℕ} {r : RuleOfDer} {n : ℕ} → HeadersBreak d [] c x o r n → ⊥
no_headers (one_long h) = elim h [ ]
no_headers (form_differs n h) = elim h [ ]

within_breaks : {g u : Tag} {ts : List Tag} {d c : Bool} {x y hd : List ℕ} {r : RuleOfDer} {n : ℕ} → Header g true (length y) hd → HeadersBreak d (u ∷ ts) c x y r n → HeadersBreak d (g ∷ u ∷ ts) c x (hd ++ y) r (length hd + n)
within_breaks a (one_long h) = one_long (long_within h a)
within_breaks a (form_differs n h) = form_differs n (innermost_within h a)

-- what breaks a rule within a header is at a later offset
least_within : HeadersApart → {g u : Tag} {ts : List Tag} {d c : Bool} {x y o hd : List ℕ} {q : RuleOfDer} {m : ℕ} (k : ℕ) → HeadersBreak d (g ∷ u ∷ ts) c x o q m → HeaderBy Distinguished g true (length y) hd → o ≡ hd ++ y → ((q : RuleOfDer) (n : ℕ) → HeadersBreak d (u ∷ ts) c x y q n → k ≤ n) → length hd + k ≤ m
least_within law {g} {y = y} {hd = hd} k (one_long (long_outer {h = h} {y = z} fr a few)) b e f =
    let r = law g g true true (length z) (length y) h hd z y a b.header e in
    absurd (few (subst (FewestOctets g true (length z)) (sym r.3) (subst (λ q. FewestOctets g true q hd) (sym r.2) b.fewest)))
least_within law {g} {u} {ts} {c = c} {x = x} {y = y} {hd = hd} k (one_long (long_within {h = h} {y = z} {n = n} l a)) b e f =
    let r = law g g true true (length z) (length y) h hd z y a b.header e in
    let w = f FewestLengthOctets n (one_long (subst (λ q. HasLongHeader (u ∷ ts) c x q n) r.4 l)) in
    let s = ap length r.3 in
    omega (arith, w, s)
least_within law {g} {u} {ts} {c = c} {x = x} {y = y} {hd = hd} k (form_differs differ (innermost_within {h = h} {y = z} {n = n} l a)) b e f =
    let r = law g g true true (length z) (length y) h hd z y a b.header e in
    let w = f PrimitiveString n (form_differs differ (subst (λ q. HasInnermost (u ∷ ts) c x q n) r.4 l)) in
    let s = ap length r.3 in
    omega (arith, w, s)

moved_frame : HeadersApart → {g u : Tag} {ts : List Tag} {d c : Bool} {x y hd : List ℕ} (b m : Breach) (k : ℕ) → HeaderBy Distinguished g true (length y) hd → FrameBreaks d (u ∷ ts) c x y b → length (hd ++ y) ≤ 16777216 → k ≡ length (hd ++ y) - length y → m.rule ≡ b.rule → (k + b.offset < 2 ^ 64 → m.offset ≡ k + b.offset) → FrameBreaks d (g ∷ u ∷ ts) c x (hd ++ y) m
moved_frame law {g} {u} {ts} {d} {c} {x} {y} {hd} b m k a f l e s w =
    let big : 16777216 < 2 ^ 64 = lit< tt in
    let n = length-append hd y in
    let i = f.within in
    let same : k ≡ length hd = omega (arith, e, n) in
    let at : m.offset ≡ length hd + b.offset = w (omega (arith, same, n, l, i, big)) ∙ ap (λ q. q + b.offset) same in
    let first : IsFirst (HeadersBreak d (g ∷ u ∷ ts) c x (hd ++ y)) b.rule (length hd + b.offset) =
    record { broken = within_breaks a.header f.first.broken; none_before = λ q p h. least_within law b.offset h a refl f.first.none_before } in
    record {
      first = subst (IsFirst (HeadersBreak d (g ∷ u ∷ ts) c x (hd ++ y)) m.rule) (sym at) (subst (λ q. IsFirst (HeadersBreak d (g ∷ u ∷ ts) c x (hd ++ y)) q (length hd + b.offset)) (sym s) first);
      within = omega (arith, at, n, i);
    }

header_as : {t u : Tag} {b c : Bool} {n m : ℕ} {h g : List ℕ} → t ≡ u → b ≡ c → n ≡ m → h ≡ g → HeaderBy Distinguished t b n h → HeaderBy Distinguished u c m g
header_as {t} {u} {b} {c} {n} {m} {h} {g} e f i j a = subst (HeaderBy Distinguished u c m) j (subst (λ q. HeaderBy Distinguished u c q h) i (subst (λ q. HeaderBy Distinguished u q n h) f (subst (λ q. HeaderBy Distinguished q b n h) e a)))

pub later_breaks : HeadersApart → {st rest : List Step} {p : Step} {h : Head'} {c : Bool} {x z o : List ℕ} (b m : Breach) (k : ℕ) (tags : List Tag) (r : RowKind) (ss : List Step) → st ≡ p ∷ rest → p ≡ Head h → IsInside h z o → FindsFrame rest z b → k ≡ length o - length z → m.rule ≡ b.rule → (k + b.offset < 2 ^ 64 → m.offset ≡ k + b.offset) → st ≡ heads tags r ++ ss → IsBare ss → Framed Basic tags c x o → length o ≤ 16777216 → FrameBreaks (is_constructed r) tags c x o m
later_breaks law b m k [] r ss e f i q d s w g bare' fr l = absurd (never_bare e f g bare')
later_breaks law {c = c} {z = z} b m k (t ∷ []) r ss e f i q d s w g bare' (innermost a) l =
    absurd (no_headers (q [] r ss c z (the_head e f g).1 bare' bare (inside_short i l)).first.broken)
later_breaks law {rest = rest} {h = h} {c = c} {x = x} {z = z} b m k (t ∷ u ∷ ts) r ss e f i q d s w g bare' (outer {h = hd} {y = y} fr a) l =
    let v = law h.tag t h.constructed true (length z) (length y) i.header hd z y i.is_header.header a.header (sym i.whole) in
    let long = length-append hd y in
    moved_frame law b m k (header_as v.0 v.1 v.2 v.3 i.is_header) (subst (λ y'. FindsFrame rest y' b) v.4 q (u ∷ ts) r ss c x (the_head e f g).1 bare' fr (omega (arith, l, long))) l (d ∙ ap (λ y'. length (hd ++ y) - length y') v.4) s w

zero_size : (t : Tag) (c : Bool) → length (shortest_header t c 0) ≡ length (identifier t.class t.number c) + 1
unfolding shortest_header
zero_size t c = length-append (identifier t.class t.number c) (shortest_size 0)

pub identifier_size : (t : Tag) (c : Bool) (k n : ℕ) → length (shortest_header t c 0) ≡ k → n ≡ k - 1 → length (identifier t.class t.number c) ≡ n
identifier_size t c k n e f = let z = zero_size t c in omega (arith, e, f, z)

pub bare_none : (ss : List Step) → length ss ≡ 0 → IsBare ss
bare_none [] e = tt
bare_none (p ∷ ss) e = absurd (omega arith)

pub bare_some : (ss : List Step) {p : Step} {rest : List Step} → ss ≡ p ∷ rest → ((h : Head') → p ≡ Head h → ⊥) → IsBare ss
bare_some ss {p} {rest} e n = subst IsBare (sym e) (bare_step p rest n)
