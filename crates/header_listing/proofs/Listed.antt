-- What is kept while headers are listed.
use Rattle.std.proofs.Common.{arith, ◌≡◌, ℕ, ◌+◌, ◌-◌, take, ◌≤◌, ◌<◌, Bool, true, false, List, [], ◌∷◌, ◌++◌, length, refl, sym, ap, subst, ◌∙◌, append_assoc, length-append}
use Rattle.std.proofs.lemmas.List.{append-nil, reverse-append, map-append, length-reverse, length-map}
use Rattle.std.specs.List.{AllByRecursion}
use Rattle.asn_base.specs.declared.tag.Tag.{Tag}
use Rattle.encodings.specs.Header.{Octets}
use Rattle.header_listing.specs.Lines.{AreLines}
use Rattle.header_listing.specs.Listing.{IsListing}
use Rattle.header_listing.specs.Shown.{IsFirst, HasNone, Line, header, others, offset_of, ShowsLines, ends}
use Rattle.header_listing.specs.declared.walk.Outer.{Outer}
use Rattle.header_listing.specs.proving.Going.{Goes, inside, outs_of, total, measure, Going}
use Rattle.header_listing.proofs.Going.{as_many, goes_from, go_primitive, go_within, go_none, go_out, counted, sized_some, unit_counted, header_counted}

pub started : {m : ℕ} {o : Octets} {ls : List Line} → Goes [] 0 o m ls → ShowsLines 0 0 o (0 + m) ([] ++ ls)
started (inside s) = as_many s (omega arith) refl

pub start : (o : Octets) (limit : ℕ) → Going o limit [] o 0 []
start o limit = record {
  lines = [];
  are_lines = refl;
  before = tt {0};
  goes = λ m ls g. started g;
  sum = omega arith;
}

pub all_more : (limit : ℕ) (ls : List Line) (l : Line)
    → AllByRecursion (λ k. offset_of k < limit) ls
    → offset_of l < limit
    → AllByRecursion (λ k. offset_of k < limit) (ls ++ l ∷ [])
all_more limit [] l a b = (b, tt {0})
all_more limit (k ∷ ls) l a b = (a.0, all_more limit ls l a.1 b)

-- The innermost open encoding ends here.
pub step_out : {o : Octets} {limit : ℕ} {outs : List Octets} {left : Octets} {offset : ℕ} {text : List ℕ} (u : Octets) (vs : List Octets)
    → Going o limit outs left offset text
    → outs ≡ u ∷ vs
    → left ≡ []
    → Going o limit vs u offset text
step_out {o} {limit} {outs} {left} {offset} {text} u vs g e f =
    let h : Going o limit (u ∷ vs) [] offset text =
    subst (λ y. Going o limit (u ∷ vs) y offset text) f (subst (λ y. Going o limit y left offset text) e g) in
    record {
      lines = h.lines;
      are_lines = h.are_lines;
      before = h.before;
      goes = λ m ls r. h.goes m ls (go_out r);
      sum = (let a = h.sum in omega (arith, a));
    }

pub step_primitive : {o : Octets} {limit : ℕ} {outs : List Octets} {left : Octets} {offset : ℕ} {text : List ℕ}
    {t : Tag} {i z x rest : Octets} (depth p : ℕ) (more : List ℕ)
    → Going o limit outs left offset text
    → offset < limit
    → IsFirst t false i z x rest left
    → depth ≡ length outs
    → p ≡ offset + length (i ++ (z ++ x))
    → ((ls : List Line) (y : List ℕ) → AreLines ls text → AreLines (ls ++ header depth offset i z y ∷ []) more)
    → Going o limit outs rest p more
step_primitive {o} {limit} {outs} {left} {offset} {text} {t} {i} {z} {x} {rest} depth p more g b f d e a =
    let l = header (length outs) offset i z x in
    let there = subst (λ y. AreLines (g.lines ++ header y offset i z x ∷ []) more) d (a g.lines x g.are_lines) in
    record {
      lines = g.lines ++ l ∷ [];
      are_lines = there;
      before = all_more limit g.lines l g.before b;
      goes = λ m ls r. as_many
          (g.goes (length (i ++ (z ++ x)) + m) (l ∷ ls) (go_primitive f (goes_from r e)))
          (omega (arith, e))
          (sym (append_assoc g.lines (l ∷ []) ls));
      sum = (let n = counted f in let w = unit_counted i z x in omega (arith, g.sum, n, w, e));
    }

pub step_within : {o : Octets} {limit : ℕ} {outs : List Octets} {left : Octets} {offset : ℕ} {text : List ℕ}
    {t : Tag} {i z x rest : Octets} (depth p : ℕ) (more : List ℕ)
    → Going o limit outs left offset text
    → offset < limit
    → IsFirst t true i z x rest left
    → depth ≡ length outs
    → p ≡ offset + length (i ++ z)
    → ((ls : List Line) (y : List ℕ) → AreLines ls text → AreLines (ls ++ header depth offset i z y ∷ []) more)
    → Going o limit (rest ∷ outs) x p more
step_within {o} {limit} {outs} {left} {offset} {text} {t} {i} {z} {x} {rest} depth p more g b f d e a =
    let l = header (length outs) offset i z [] in
    let there = subst (λ y. AreLines (g.lines ++ header y offset i z [] ∷ []) more) d (a g.lines [] g.are_lines) in
    record {
      lines = g.lines ++ l ∷ [];
      are_lines = there;
      before = all_more limit g.lines l g.before b;
      goes = λ m ls r. as_many
          (g.goes (length (i ++ z) + m) (l ∷ ls) (go_within f (goes_from r e)))
          (omega (arith, e))
          (sym (append_assoc g.lines (l ∷ []) ls));
      sum = (let n = counted f in let w = header_counted i z in omega (arith, g.sum, n, w, e));
    }

pub step_none : {o : Octets} {limit : ℕ} {outs : List Octets} {left : Octets} {offset : ℕ} {text : List ℕ} (depth p : ℕ)
    (more : List ℕ)
    → Going o limit outs left offset text
    → offset < limit
    → 1 ≤ length left
    → HasNone left
    → depth ≡ length outs
    → p ≡ offset + length left
    → ((ls : List Line) (y : List ℕ) → AreLines ls text → AreLines (ls ++ others depth offset y ∷ []) more)
    → Going o limit outs [] p more
step_none {o} {limit} {outs} {left} {offset} {text} depth p more g b s h d e a =
    let l = others (length outs) offset left in
    let there = subst (λ y. AreLines (g.lines ++ others y offset left ∷ []) more) d (a g.lines left g.are_lines) in
    record {
      lines = g.lines ++ l ∷ [];
      are_lines = there;
      before = all_more limit g.lines l g.before b;
      goes = λ m ls r. as_many
          (g.goes (length left + m) (l ∷ ls) (go_none s h (goes_from r e)))
          (omega (arith, e))
          (sym (append_assoc g.lines (l ∷ []) ls));
      sum = omega (arith, g.sum, e);
    }

-- Listing may stop at the limit, and stops where nothing is left.
pub listed : {o : Octets} {limit : ℕ} {outs : List Octets} {left : Octets} {offset : ℕ} {text : List ℕ}
    → Going o limit outs left offset text
    → (offset < length o → limit ≤ offset)
    → IsListing o limit offset text
listed g e = record {
  lines = g.lines;
  shown = as_many (g.goes 0 [] (inside ends)) (omega arith) (append-nil g.lines);
  before = g.before;
  all = e;
  are_lines = g.are_lines;
}

pub moved : {o : Octets} {limit : ℕ} {outs vs : List Octets} {left there : Octets} {offset at : ℕ} {text : List ℕ}
    → Going o limit outs left offset text
    → outs ≡ vs
    → left ≡ there
    → offset ≡ at
    → Going o limit vs there at text
moved {o} {limit} {outs} {vs} {left} {there} {offset} {at} {text} g e f h =
    subst (λ y. Going o limit vs there y text) h
    (subst (λ y. Going o limit vs y offset text) f (subst (λ y. Going o limit y left offset text) e g))

pub outs_more : (items : List Outer) (u : Outer) → outs_of (items ++ u ∷ []) ≡ u.rest.now ∷ outs_of items
outs_more items u = simp (map-append, reverse-append)

pub outs_counted : (items : List Outer) → length (outs_of items) ≡ length items
outs_counted items = simp (length-reverse, length-map)

pub smaller_after : {t : Tag} {c : Bool} {i z x rest left : Octets} (there : Octets) (items news : List Outer)
    → IsFirst t c i z x rest left
    → there ≡ rest
    → news ≡ items
    → measure there news < measure left items
smaller_after there items news f e g =
    let n = counted f in
    let s = sized_some f.sized in
    let a = ap length e in
    let b = ap (λ y. total (outs_of y)) g in
    let d = ap (λ y. length y) g in
    omega (arith, n, s, a, b, d)

pub smaller_within : {t : Tag} {c : Bool} {i z x rest left : Octets} (there : Octets) (items news : List Outer) (u : Outer)
    → IsFirst t c i z x rest left
    → there ≡ x
    → news ≡ items ++ u ∷ []
    → u.rest.now ≡ rest
    → measure there news < measure left items
smaller_within there items news u f e g h =
    let n = counted f in
    let s = sized_some f.sized in
    let a = ap length e in
    let b = ap (λ y. total (outs_of y)) g in
    let d = ap (λ y. length y) g in
    let k = ap total (outs_more items u) in
    let l = length-append items (u ∷ []) in
    let q = ap length h in
    omega (arith, n, s, a, b, d, k, l, q)

-- Where nothing is left and no encoding is open, all octets are shown.
pub ended : {o : Octets} {limit : ℕ} {left : Octets} {offset n : ℕ} {text : List ℕ} (items : List Outer) {news : List Outer}
    → Going o limit (outs_of items) left offset text
    → length left ≡ 0
    → items ≡ news ++ []
    → news ≡ take (n - 1) items
    → n ≡ 0
    → IsListing o limit offset text
ended {o} {limit} {left} {offset} {n} items {news} g z e f q =
    let k : news ≡ [] = f ∙ ap (λ y. take (y - 1) items) q in
    let none : items ≡ [] = e ∙ append-nil news ∙ k in
    let t : total (outs_of items) ≡ 0 = ap (λ y. total (outs_of y)) none in
    let s = g.sum in
    listed g (λ b. absurd (omega (arith, s, t, z, b)))

pub smaller_out : (there left : Octets) (items news : List Outer) (u : Outer)
    → items ≡ news ++ u ∷ []
    → u.rest.now ≡ there
    → measure there news < measure left items
smaller_out there left items news u e f =
    let a = ap (λ y. total (outs_of y)) e in
    let b = ap total (outs_more news u) in
    let d = ap (λ y. length y) e in
    let k = length-append news (u ∷ []) in
    let q = ap length f in
    omega (arith, a, b, d, k, q)

pub smaller_none : (left : Octets) (items : List Outer) → 0 < length left → measure [] items < measure left items
smaller_none left items l = omega (arith, l)
