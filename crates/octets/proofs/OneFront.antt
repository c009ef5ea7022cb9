-- There is one header or one fault at the front of octets.
use Rattle.std.proofs.Common.{arith, ◌≡◌, ℕ, ◌+◌, ◌*◌, ◌<◌, ◌≤◌, Bool, List, [], ◌∷◌, ◌++◌, length, map, refl, sym, ap, subst, ◌∙◌, append_assoc, length-append, ⊎_elim}
use Rattle.std.specs.Prelude.{Result, IfErr, IsOk, Ok, Err}
use Rattle.std.proofs.lemmas.Bool.{cases_lt}
use Rattle.std.proofs.lemmas.List.{append-nil}
use Rattle.std.specs.Int.Digits.{number_from_digits_after, AllBelowBase}
use Rattle.asn_base.specs.declared.tag.Class.{Class}
use Rattle.asn_base.specs.declared.tag.Class.TheVariants.{Universal}
use Rattle.asn_base.specs.declared.tag.Tag.{Tag}
use Rattle.encodings.specs.Header.{identifier, class_bits, form_bit, septets, LengthOf, short, long, Header}
use Rattle.octets.specs.declared.header_fault.HeaderFault.{HeaderFault}
use Rattle.octets.specs.declared.header_fault.HeaderFault.TheVariants.{Truncated, Indefinite, BadLength, BadTag}
use Rattle.octets.specs.Fronts.{HeaderAt, EndsEarly, in_header, in_contents, IsIndefinite, HasBadLength, reserved, too_great, HasBadTag, leading, of_number_0, to_30, zeros_first, from_2_31, IsRightFault}
use Rattle.encodings.specs.proving.Septets.{Septets, last_septet, more_septets}
use Rattle.octets.proofs.Septets.{never_zero}
use Rattle.encodings.specs.proving.Septets.{at_least, spelling_read, once}
use Rattle.encodings.specs.proving.Fronts.{head_or_0, tail_of}
use Rattle.octets.specs.proving.Identifiers.{low, high}

-- septets after some with the top bit
past : (ds : List ℕ) (h n : ℕ) (o rest y : List ℕ) → AllBelowBase 128 ds → o ≡ map (λ d. 128 + d) ds ++ y → Septets h o n rest → number_from_digits_after 128 h ds * 128 ≤ n
past [] h n o rest y all e s = at_least s
past (d ∷ ds) h n o rest y all e (last_septet l f) = absurd (let q = ap head_or_0 e in omega arith)
past (d ∷ ds) h n o rest y all e (more_septets {x = x} {o = b} l f s) =
    let q = ap head_or_0 e in
    let i : x ≡ d = omega arith in
    subst (λ k. number_from_digits_after 128 (h * 128 + k) ds * 128 ≤ n) i (past ds (h * 128 + x) n b rest y all.1 (ap tail_of e) s)

-- length octets don't begin with 128 or 255
never_128 : {n : ℕ} {size : List ℕ} (x y : List ℕ) → LengthOf n size → 128 ∷ x ≡ size ++ y → ⊥
never_128 x y (short l) e = let q = ap head_or_0 e in omega arith
never_128 x y (long {ds = ds} f) e = let q : 128 ≡ 128 + length ds = ap head_or_0 e in let m : 1 ≤ length ds = f.some in omega arith

never_255 : {n : ℕ} {size : List ℕ} (x y : List ℕ) → LengthOf n size → 255 ∷ x ≡ size ++ y → ⊥
never_255 x y (short l) e = let q = ap head_or_0 e in omega arith
never_255 x y (long {ds = ds} f) e = let q : 255 ≡ 128 + length ds = ap head_or_0 e in let m : length ds ≤ 126 = f.at_most in omega arith

-- octets that aren't identifier octets still aren't if others follow
bad_front : {o p : List ℕ} (x : List ℕ) → o ++ x ≡ p → HasBadTag o → HasBadTag p
bad_front x e (of_number_0 c rest f) = of_number_0 c (rest ++ x) (sym e ∙ ap (λ q. q ++ x) f)
bad_front x e (to_30 k c n rest l f) = to_30 k c n (rest ++ x) l (sym e ∙ ap (λ q. q ++ x) f)
bad_front x e (zeros_first k c rest f) = zeros_first k c (rest ++ x) (sym e ∙ ap (λ q. q ++ x) f)
bad_front x e (from_2_31 k c ds rest all l f) = from_2_31 k c ds (rest ++ x) all l (sym e ∙ ap (λ q. q ++ x) f ∙ ap (λ q. leading k c ∷ q) (append_assoc (map (λ d. 128 + d) ds) rest x))

-- a header that begins with octets, or that octets begin with
record Front (o : List ℕ) : Type 0 where
  tag : Tag
  constructed : Bool
  count : ℕ
  size : List ℕ
  is_size : LengthOf count size
  missing : List ℕ
  rest : List ℕ
  whole : o ++ missing ≡ identifier tag.class tag.number constructed ++ (size ++ rest)

after_header : {t : Tag} {c : Bool} {n : ℕ} {h : List ℕ} (a : Header t c n h) (y : List ℕ) → h ++ y ≡ identifier t.class t.number c ++ (a.size ++ y)
after_header {t} {c} a y = ap (λ q. q ++ y) a.whole ∙ append_assoc (identifier t.class t.number c) a.size y

front_of : (t : Tag) (c : Bool) (n : ℕ) (h o rest : List ℕ) → Header t c n h → o ≡ h ++ rest → Front o
front_of t c n h o rest a e = record { tag = t; constructed = c; count = n; size = a.size; is_size = a.is_size; missing = []; rest = rest; whole = append-nil o ∙ e ∙ after_header a rest }

early_front : (o : List ℕ) → EndsEarly o → Front o
early_front o (in_header {t = t} {c = c} {n = n} {header = h} missing a e l) =
    record { tag = t; constructed = c; count = n; size = a.size; is_size = a.is_size; missing = missing; rest = []; whole = sym e ∙ sym (append-nil h) ∙ after_header a [] }
early_front o (in_contents {t = t} {c = c} {n = n} {header = h} rest a few e l) = front_of t c n h o rest a e

module _ (identifiers : (b c : Class) (m n : ℕ) (f g : Bool) (x y : List ℕ) → identifier b m f ++ x ≡ identifier c n g ++ y → (b ≡ c) × (m ≡ n) × (f ≡ g) × (x ≡ y)) (lengths : (m n : ℕ) (p q x y : List ℕ) → LengthOf m p → LengthOf n q → p ++ x ≡ q ++ y → (m ≡ n) × (p ≡ q) × (x ≡ y)) (headers : (t u : Tag) (b c : Bool) (n m : ℕ) (h g x y : List ℕ) → Header t b n h → Header u c m g → h ++ x ≡ g ++ y → (t ≡ u) × (b ≡ c) × (n ≡ m) × (h ≡ g) × (x ≡ y)) where
  pub one_header : (t u : Tag) (c d : Bool) (n m k j : ℕ) (o : List ℕ) → HeaderAt t c n k o → HeaderAt u d m j o → (t ≡ u) × (c ≡ d) × (n ≡ m) × (k ≡ j)
  one_header t u c d n m k j o a b =
      let r = headers t u c d n m a.header b.header a.rest b.rest a.is_header b.is_header (sym a.whole ∙ b.whole) in
      (r.0, r.1, r.2, sym a.long ∙ ap length r.3 ∙ b.long)

  after_identifier : (t u : Tag) (c d : Bool) (x y : List ℕ) → identifier t.class t.number c ++ x ≡ identifier u.class u.number d ++ y → x ≡ y
  after_identifier t u c d x y e = (identifiers t.class u.class t.number u.number c d x y e).3

  -- septets follow a first octet of the long form
  septets_after : (t : Tag) (c d : Bool) (k : Class) (b y : List ℕ) → leading k d ∷ b ≡ identifier t.class t.number c ++ y → (31 ≤ t.number) × (b ≡ septets t.number ++ y)
  septets_after t c d k b y e = ⊎_elim (λ l. absurd (below l)) (λ l. (l, ap tail_of (e ∙ ap (λ q. q ++ y) (high t.class t.number c l)))) (cases_lt t.number 31)
    where
      below : t.number < 31 → ⊥
      below l =
          let f : leading k d ≡ class_bits t.class + form_bit c + t.number = ap head_or_0 (e ∙ ap (λ q. q ++ y) (low t.class t.number c l)) in
          let w : identifier t.class t.number c ++ septets 31 ≡ identifier k 31 d ++ [] = ap (λ q. q ++ septets 31) (low t.class t.number c l) ∙ ap (λ q. q ∷ septets 31) (sym f) ∙ sym (append-nil (leading k d ∷ septets 31)) ∙ ap (λ q. q ++ []) (sym (high k 31 d (omega arith))) in
          let s = (identifiers t.class k t.number 31 c d (septets 31) [] w).1 in
          omega arith

  no_tag : (o : List ℕ) (t : Tag) (c : Bool) (y : List ℕ) → HasBadTag o → o ≡ identifier t.class t.number c ++ y → ⊥
  no_tag o t c y (of_number_0 d rest e) f =
      let w : identifier Universal 0 d ++ rest ≡ identifier t.class t.number c ++ y = ap (λ q. q ++ rest) (low Universal 0 d (omega arith)) ∙ ap (λ q. q ∷ rest) zeroed ∙ sym e ∙ f in
      let s = identifiers Universal t.class 0 t.number d c rest y w in
      let p : 0 < t.number = t.not_reserved (sym s.0) in
      let q = s.1 in
      omega arith
    where
      zeroed : class_bits Universal + form_bit d + 0 ≡ class_bits Universal + form_bit d
      zeroed = omega arith
  no_tag o t c y (to_30 k d n rest l e) f =
      let s = septets_after t c d k (n ∷ rest) y (sym e ∙ f) in
      let above = s.0 in
      let same = (once (last_septet {high = 0} {x = n} {n = n} {rest = rest} (omega arith) (omega arith)) (spelling_read t.number (n ∷ rest) y s.1) refl).0 in
      omega arith
  no_tag o t c y (zeros_first k d rest e) f =
      let s = septets_after t c d k (128 ∷ rest) y (sym e ∙ f) in
      never_zero t.number (128 ∷ rest) rest y refl s.1
  no_tag o t c y (from_2_31 k d ds rest all l e) f =
      let b = map (λ d. 128 + d) ds ++ rest in
      let s = septets_after t c d k b y (sym e ∙ f) in
      let p = past ds 0 t.number b y rest all refl (spelling_read t.number b y s.1) in
      let m = t.in_range in
      omega (arith, p, m)

  tag_front : (o : List ℕ) → HasBadTag o → Front o → ⊥
  tag_front o b f = no_tag (o ++ f.missing) f.tag f.constructed (f.size ++ f.rest) (bad_front f.missing refl b) f.whole

  indefinite_front : (o : List ℕ) → IsIndefinite o → Front o → ⊥
  indefinite_front o i f =
      let id = identifier i.tag.class i.tag.number i.constructed in
      let e : id ++ ((128 ∷ i.rest) ++ f.missing) ≡ identifier f.tag.class f.tag.number f.constructed ++ (f.size ++ f.rest) = sym (append_assoc id (128 ∷ i.rest) f.missing) ∙ ap (λ q. q ++ f.missing) (sym i.whole) ∙ f.whole in
      never_128 (i.rest ++ f.missing) f.rest f.is_size (after_identifier i.tag f.tag i.constructed f.constructed ((128 ∷ i.rest) ++ f.missing) (f.size ++ f.rest) e)

  reserved_front : (t : Tag) (c : Bool) (o rest : List ℕ) → o ≡ identifier t.class t.number c ++ (255 ∷ rest) → Front o → ⊥
  reserved_front t c o rest g f =
      let id = identifier t.class t.number c in
      let e : id ++ ((255 ∷ rest) ++ f.missing) ≡ identifier f.tag.class f.tag.number f.constructed ++ (f.size ++ f.rest) = sym (append_assoc id (255 ∷ rest) f.missing) ∙ ap (λ q. q ++ f.missing) (sym g) ∙ f.whole in
      never_255 (rest ++ f.missing) f.rest f.is_size (after_identifier t f.tag c f.constructed ((255 ∷ rest) ++ f.missing) (f.size ++ f.rest) e)

  -- a length that no message has
  great_front : (t : Tag) (c : Bool) (n : ℕ) (size o rest : List ℕ) → LengthOf n size → o ≡ identifier t.class t.number c ++ (size ++ rest) → Front o
  great_front t c n size o rest l e = record { tag = t; constructed = c; count = n; size = size; is_size = l; missing = []; rest = rest; whole = append-nil o ∙ e }

  great_early : (t : Tag) (c : Bool) (n : ℕ) (size o rest : List ℕ) → LengthOf n size → 16777216 < n → o ≡ identifier t.class t.number c ++ (size ++ rest) → EndsEarly o → ⊥
  great_early t c n size o rest l g e (in_header {t = u} {c = d} {n = m} {header = h} missing a f k) =
      let i = identifier t.class t.number c in
      let w : (i ++ size) ++ (rest ++ missing) ≡ h ++ [] = sym (append_assoc (i ++ size) rest missing) ∙ ap (λ q. q ++ missing) (append_assoc i size rest ∙ sym e) ∙ sym f ∙ sym (append-nil h) in
      let r = headers t u c d n m (i ++ size) h (rest ++ missing) [] (record { size = size; is_size = l; whole = refl }) a w in
      let z = ap length r.4 in
      omega (arith, z, k, length-append rest missing)
  great_early t c n size o rest l g e (in_contents {t = u} {c = d} {n = m} {header = h} more a few f k) =
      let i = identifier t.class t.number c in
      let w : (i ++ size) ++ rest ≡ h ++ more = append_assoc i size rest ∙ sym e ∙ f in
      let r = headers t u c d n m (i ++ size) h rest more (record { size = size; is_size = l; whole = refl }) a w in
      let z = r.2 in
      omega arith

  early_header : (t : Tag) (c : Bool) (n k : ℕ) (o : List ℕ) → EndsEarly o → HeaderAt t c n k o → ⊥
  early_header t c n k o (in_header {t = u} {c = d} {n = m} {header = h} missing a f l) b =
      let w : b.header ++ (b.rest ++ missing) ≡ h ++ [] = sym (append_assoc b.header b.rest missing) ∙ ap (λ q. q ++ missing) (sym b.whole) ∙ sym f ∙ sym (append-nil h) in
      let r = headers t u c d n m b.header h (b.rest ++ missing) [] b.is_header a w in
      let z = ap length r.4 in
      omega (arith, z, l, length-append b.rest missing)
  early_header t c n k o (in_contents {t = u} {c = d} {n = m} {header = h} rest a few f l) b =
      let r = headers t u c d n m b.header h b.rest rest b.is_header a (sym b.whole ∙ f) in
      let x = r.2 in
      let z = ap length r.4 in
      let q = b.follow in
      omega (arith, x, z, l, q)

  great_header : (t : Tag) (c : Bool) (n k : ℕ) (o : List ℕ) → HasBadLength o → HeaderAt t c n k o → ⊥
  great_header t c n k o (reserved u d rest e) b = reserved_front u d o rest e (front_of t c n b.header o b.rest b.is_header b.whole)
  great_header t c n k o (too_great u d {n = m} {size = size} rest l g e) b =
      let i = identifier u.class u.number d in
      let w : (i ++ size) ++ rest ≡ b.header ++ b.rest = append_assoc i size rest ∙ sym e ∙ b.whole in
      let r = headers u t d c m n (i ++ size) b.header rest b.rest (record { size = size; is_size = l; whole = refl }) b.is_header w in
      let z = r.2 in
      let q = b.few in
      omega arith

  -- there is no fault if there is a header
  pub never_both : (e : HeaderFault) (t : Tag) (c : Bool) (n k : ℕ) (o : List ℕ) → IsRightFault e o → HeaderAt t c n k o → ⊥
  never_both Truncated t c n k o s b = early_header t c n k o s b
  never_both Indefinite t c n k o s b = indefinite_front o s (front_of t c n b.header o b.rest b.is_header b.whole)
  never_both BadLength t c n k o s b = great_header t c n k o s b
  never_both BadTag t c n k o s b = tag_front o s (front_of t c n b.header o b.rest b.is_header b.whole)

  tag_length : (o : List ℕ) → HasBadTag o → HasBadLength o → ⊥
  tag_length o b (reserved t c rest e) = no_tag o t c (255 ∷ rest) b e
  tag_length o b (too_great t c {size = size} rest l g e) = no_tag o t c (size ++ rest) b e

  early_length : (o : List ℕ) → EndsEarly o → HasBadLength o → ⊥
  early_length o s (reserved t c rest e) = reserved_front t c o rest e (early_front o s)
  early_length o s (too_great t c {n = n} {size = size} rest l g e) = great_early t c n size o rest l g e s

  indefinite_length : (o : List ℕ) → IsIndefinite o → HasBadLength o → ⊥
  indefinite_length o i (reserved t c rest e) = absurd (let q = ap head_or_0 (after_identifier i.tag t i.constructed c (128 ∷ i.rest) (255 ∷ rest) (sym i.whole ∙ e)) in omega arith)
  indefinite_length o i (too_great t c {n = n} {size = size} rest l g e) = indefinite_front o i (great_front t c n size o rest l e)

  -- there is at most one fault
  pub one_fault : (e f : HeaderFault) (o : List ℕ) → IsRightFault e o → IsRightFault f o → e ≡ f
  one_fault Truncated Truncated o s r = refl
  one_fault Truncated Indefinite o s r = absurd (indefinite_front o r (early_front o s))
  one_fault Truncated BadLength o s r = absurd (early_length o s r)
  one_fault Truncated BadTag o s r = absurd (tag_front o r (early_front o s))
  one_fault Indefinite Truncated o s r = absurd (indefinite_front o s (early_front o r))
  one_fault Indefinite Indefinite o s r = refl
  one_fault Indefinite BadLength o s r = absurd (indefinite_length o s r)
  one_fault Indefinite BadTag o s r = absurd (no_tag o s.tag s.constructed (128 ∷ s.rest) r s.whole)
  one_fault BadLength Truncated o s r = absurd (early_length o r s)
  one_fault BadLength Indefinite o s r = absurd (indefinite_length o r s)
  one_fault BadLength BadLength o s r = refl
  one_fault BadLength BadTag o s r = absurd (tag_length o r s)
  one_fault BadTag Truncated o s r = absurd (tag_front o s (early_front o r))
  one_fault BadTag Indefinite o s r = absurd (no_tag o r.tag r.constructed (128 ∷ r.rest) s r.whole)
  one_fault BadTag BadLength o s r = absurd (tag_length o s r)
  one_fault BadTag BadTag o s r = refl

-- what follows for a reader
pub only_of : {H : Type 0} (r : Result H HeaderFault) (o : List ℕ) → ((e : HeaderFault) (t : Tag) (c : Bool) (n k : ℕ) (o : List ℕ) → IsRightFault e o → HeaderAt t c n k o → ⊥) → IfErr r (λ e. IsRightFault e o) → (t : Tag) (c : Bool) (n k : ℕ) → HeaderAt t c n k o → IsOk r
only_of (Ok h) o either s t c n k b = refl
only_of (Err e) o either s t c n k b = absurd (either e t c n k o s b)
