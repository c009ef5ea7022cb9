-- Headers before contents: those of the distinguished rules are the only ones and the fewest.
use Rattle.std.proofs.Common.{◌≡◌, ℕ, ◌≤◌, Bool, true, List, length, refl, sym, ap, ◌∙◌, arith, length-append}
use Rattle.asn_base.specs.declared.tag.Tag.{Tag}
use Rattle.encodings.specs.Rules.{Rules, Distinguished}
use Rattle.encodings.specs.Header.{HeaderBy}
use Rattle.encodings.specs.Fewest.{shortest_header}
use Rattle.encodings.proofs.Headers.{shortest_only, shortest_least}
use Rattle.encodings.specs.Encoding.{Framed, bare, innermost, outer}

headers_least : (r : Rules) (t : Tag) (b c : Bool) (n m : ℕ) (h g : List ℕ) → n ≤ m → HeaderBy Distinguished t b n h → HeaderBy r t c m g → length h ≤ length g
headers_least r t b c n m h g le a d =
    let e = ap length (shortest_only t b n h a) in
    omega (arith, shortest_least r t b c n m g le d)

headers_only : (t : Tag) (b c : Bool) (n m : ℕ) (h g : List ℕ) → b ≡ c → n ≡ m → HeaderBy Distinguished t b n h → HeaderBy Distinguished t c m g → g ≡ h
headers_only t b c n m h g e f a d = shortest_only t c m g d ∙ ap (λ x. shortest_header t x m) (sym e) ∙ ap (λ x. shortest_header t b x) (sym f) ∙ sym (shortest_only t b n h a)

pub frames_least : {r : Rules} {tags : List Tag} {b c : Bool} {x y o p : List ℕ} → Framed Distinguished tags b x o → Framed r tags c y p → length x ≤ length y → length o ≤ length p
frames_least bare bare le = le
frames_least {r} {b = b} {c = c} {x = x} {y = y} (innermost {t = t} {h = h} a) (innermost {h = g} d) le =
    omega (arith, headers_least r t b c _ _ h g le a d, length-append h x, length-append g y)
frames_least {r} (outer {t = t} {h = h} {y = x'} f a) (outer {h = g} {y = y'} k d) le =
    let inner = frames_least f k le in
    omega (arith, inner, headers_least r t true true _ _ h g inner a d, length-append h x', length-append g y')

pub frames_only : {tags : List Tag} {b c : Bool} {x y o p : List ℕ} → Framed Distinguished tags b x o → Framed Distinguished tags c y p → b ≡ c → y ≡ x → p ≡ o
frames_only bare bare e f = f
frames_only {b = b} {c = c} {x = x} {y = y} (innermost {t = t} {h = h} a) (innermost {h = g} d) e f =
    let same : g ≡ h = headers_only t b c (length x) (length y) h g e (sym (ap length f)) a d in cc
frames_only (outer {t = t} {h = h} {y = x'} i a) (outer {h = g} {y = y'} k d) e f =
    let inner : y' ≡ x' = frames_only i k e f in
    let same : g ≡ h = headers_only t true true (length x') (length y') h g refl (sym (ap length inner)) a d in cc
