-- Numbers in septets: at the front of octets, and one after another.
use Rattle.std.proofs.Common.{arith, ◌≡◌, ℕ, zero, suc, ◌+◌, ◌-◌, ◌*◌, ◌<◌, ◌≤◌, ◌^◌, Bool, true, false, List, [], ◌∷◌, ◌++◌, length, take, drop, refl, sym, ap, subst, ◌∙◌, append_assoc, get_or, length-append}
use Rattle.std.specs.Prelude.{flat_map, Option, Some, None}
use Rattle.std.specs.List.{AllByRecursion}
use Rattle.std.proofs.lemmas.List.{append-nil}
use Rattle.encodings.specs.Header.{septets}
use Rattle.primitive_reader.specs.Arcs.{IsArcOf, Front}
use Rattle.primitive_reader.specs.proving.Spelled.{SeptetsAfter, AreSmall, IsJudged, Counted}
use Rattle.encodings.specs.proving.Septets.{Septets, last_septet, more_septets, at_least, once, number_spelled, spelling_read, never_zero}
use Rattle.encodings.specs.proving.Marked.{septets_some}

-- ---- one septet more

pub one_last : (h x : ℕ) (o rest : List ℕ) → o ≡ x ∷ rest → x < 128 → SeptetsAfter h (Some (h * 128 + x)) rest o
one_last h x o rest e l = record { number = h * 128 + x; is_arc = refl; septets = subst (λ q. Septets h q (h * 128 + x) rest) (sym e) (last_septet l refl) }

more : (h x n : ℕ) (o b rest : List ℕ) → o ≡ x ∷ b → 128 ≤ x → x < 256 → Septets (h * 128 + (x - 128)) b n rest → Septets h o n rest
more h x n o b rest e l m s = subst (λ q. Septets h q n rest) (sym e) (more_septets (omega arith) (omega arith) s)

pub one_more : (h x : ℕ) (arc : Option ℕ) (o b rest : List ℕ) → o ≡ x ∷ b → 128 ≤ x → x < 256 → SeptetsAfter (h * 128 + (x - 128)) arc rest b → SeptetsAfter h arc rest o
one_more h x arc o b rest e l m s = record { number = s.number; is_arc = s.is_arc; septets = more h x s.number o b rest e l m s.septets }

pub one_great : (h x : ℕ) (o b rest : List ℕ) → o ≡ x ∷ b → 128 ≤ x → x < 256 → 2 ^ 64 ≤ h * 128 + (x - 128) → ((high : ℕ) → (n : ℕ) × Septets high b n rest) → SeptetsAfter h None rest o
one_great h x o b rest e l m g f =
    let s = f (h * 128 + (x - 128)) in
    let k = at_least s.1 in
    record { number = s.0; is_arc = omega (arith, g, k); septets = more h x s.0 o b rest e l m s.1 }

pub none_there : (h : ℕ) (o : List ℕ) → length o ≡ 0 → (n : ℕ) (rest : List ℕ) → Septets h o n rest → ⊥
none_there h [] e n rest s = elim s [ ]
none_there h (x ∷ o) e n rest s = absurd (omega arith)

none_split : (h x : ℕ) (b : List ℕ) → 128 ≤ x → ((n : ℕ) (rest : List ℕ) → Septets (h * 128 + (x - 128)) b n rest → ⊥) → (n : ℕ) (rest : List ℕ) → Septets h (x ∷ b) n rest → ⊥
none_split h x b l f n rest (last_septet k e) = absurd (omega arith)
none_split h x b l f n rest (more_septets {x = y} k e s) =
    let i : y ≡ x - 128 = omega arith in
    f n rest (subst (λ q. Septets (h * 128 + q) b n rest) i s)

pub none_after : (h x : ℕ) (o b : List ℕ) → o ≡ x ∷ b → 128 ≤ x → ((n : ℕ) (rest : List ℕ) → Septets (h * 128 + (x - 128)) b n rest → ⊥) → (n : ℕ) (rest : List ℕ) → Septets h o n rest → ⊥
none_after h x o b e l f n rest s = none_split h x b l f n rest (subst (λ q. Septets h q n rest) e s)

-- ---- septets that end somewhere

abbrev pub AreHigh : List ℕ → Type 0
AreHigh = AllByRecursion (λ d. (128 ≤ d) × (d < 256))

pub high_more : (o : List ℕ) (i : ℕ) → i < length o → AreHigh (take i o) → 128 ≤ get_or o i 0 → get_or o i 0 < 256 → AreHigh (take (i + 1) o)
high_more [] i l a g m = absurd (omega arith)
high_more (x ∷ o) zero l a g m = ((g, m), tt)
high_more (x ∷ o) (suc i) l a g m = subst (λ k. AreHigh (take k (x ∷ o))) (let e : suc (i + 1) ≡ suc i + 1 = omega arith in e) (a.0, high_more o i (omega arith) a.1 g m)

cut : (o : List ℕ) (i : ℕ) → i < length o → o ≡ take i o ++ (get_or o i 0 ∷ drop (i + 1) o)
cut [] i l = absurd (omega arith)
cut (x ∷ o) zero l = refl
cut (x ∷ o) (suc i) l = ap (λ q. x ∷ q) (cut o i (omega arith)) ∙ ap (λ k. x ∷ (take i o ++ (get_or o i 0 ∷ drop k (x ∷ o)))) (let e : suc (i + 1) ≡ suc i + 1 = omega arith in e)

ended : (ds : List ℕ) (x : ℕ) (rest : List ℕ) → AreHigh ds → x < 128 → (high : ℕ) → (n : ℕ) × Septets high (ds ++ x ∷ rest) n rest
ended [] x rest a l high = (high * 128 + x, last_septet l refl)
ended (d ∷ ds) x rest a l high =
    let g : 128 ≤ d = a.0.0 in
    let m : d < 256 = a.0.1 in
    let i = ended ds x rest a.1 l (high * 128 + (d - 128)) in
    (i.0, more_septets (omega arith) (omega arith) i.1)

pub ends_at : (o : List ℕ) (i : ℕ) → i < length o → AreHigh (take i o) → get_or o i 0 < 128 → (high : ℕ) → (n : ℕ) × Septets high o n (drop (i + 1) o)
ends_at o i l a m high =
    let s = ended (take i o) (get_or o i 0) (drop (i + 1) o) a m high in
    (s.0, subst (λ q. Septets high q s.0 (drop (i + 1) o)) (sym (cut o i l)) s.1)

never_ends : (high n : ℕ) (o rest : List ℕ) → AreHigh o → Septets high o n rest → ⊥
never_ends high n o rest a (last_septet l e) = let g = a.0.0 in omega (arith, l, g)
never_ends high n o rest a (more_septets l e s) = never_ends _ n _ rest a.1 s

take_all : (o : List ℕ) (i : ℕ) → length o ≤ i → take i o ≡ o
take_all [] zero l = refl
take_all [] (suc i) l = refl
take_all (x ∷ o) zero l = absurd (omega arith)
take_all (x ∷ o) (suc i) l = ap (λ q. x ∷ q) (take_all o i (omega arith))

pub none_ends : (o : List ℕ) (i : ℕ) → length o ≤ i → AreHigh (take i o) → (high n : ℕ) (rest : List ℕ) → Septets high o n rest → ⊥
none_ends o i l a high n rest s = never_ends high n o rest (subst AreHigh (take_all o i l) a) s

-- ---- numbers

-- ---- what is at the front

pub front_of : (arc : Option ℕ) (o rest : List ℕ) → (get_or o 0 0 ≡ 128 → ⊥) → SeptetsAfter 0 arc rest o → Front arc rest o
front_of arc o rest never b = record {
  number = b.number;
  is_arc = b.is_arc;
  whole = number_spelled b.number o rest b.septets (λ c e. never (ap (λ q. get_or q 0 0) e));
}

pub front_shorter : (arc : Option ℕ) (o rest : List ℕ) → Front arc rest o → length rest < length o
front_shorter arc o rest f =
    let e = ap length f.whole in
    omega (arith, e, length-append (septets f.number) rest, septets_some f.number)

pub none_first : (o : List ℕ) → length o ≡ 0 → (n : ℕ) (rest : List ℕ) → o ≡ septets n ++ rest → ⊥
none_first o l n rest e =
    let f = ap length e in
    omega (arith, l, f, length-append (septets n) rest, septets_some n)

pub zero_first : (o : List ℕ) → get_or o 0 0 ≡ 128 → (n : ℕ) (rest : List ℕ) → o ≡ septets n ++ rest → ⊥
zero_first o e n rest f = never_zero n o rest e f

pub no_front : (o : List ℕ) → ((n : ℕ) (rest : List ℕ) → Septets 0 o n rest → ⊥) → (n : ℕ) (rest : List ℕ) → o ≡ septets n ++ rest → ⊥
no_front o h n rest e = h n rest (spelling_read n o rest e)

-- ---- several numbers

-- two spellings at the front are one
pub one_front : (m n : ℕ) (x y : List ℕ) → septets m ++ x ≡ septets n ++ y → (m ≡ n) × (x ≡ y)
one_front m n x y e = once (spelling_read m (septets m ++ x) x refl) (spelling_read n (septets n ++ y) y refl) e

flat_append : (ms ns : List ℕ) → flat_map septets (ms ++ ns) ≡ flat_map septets ms ++ flat_map septets ns
flat_append [] ns = refl
flat_append (m ∷ ms) ns = ap (λ q. septets m ++ q) (flat_append ms ns) ∙ sym (append_assoc (septets m) (flat_map septets ms) (flat_map septets ns))

pub one_list : (ms ns : List ℕ) → flat_map septets ms ≡ flat_map septets ns → ms ≡ ns
one_list [] [] e = refl
one_list [] (n ∷ ns) e = absurd (none_first [] refl n (flat_map septets ns) e)
one_list (m ∷ ms) [] e = absurd (none_first [] refl m (flat_map septets ms) (sym e))
one_list (m ∷ ms) (n ∷ ns) e =
    let f = one_front m n (flat_map septets ms) (flat_map septets ns) e in
    ap (λ q. q ∷ ms) f.0 ∙ ap (λ q. n ∷ q) (one_list ms ns f.1)

-- if numbers begin octets that are numbers, the rest of the octets are numbers too
goes_on : (ms ns : List ℕ) (rest : List ℕ) → flat_map septets ns ≡ flat_map septets ms ++ rest → (ks : List ℕ) × (rest ≡ flat_map septets ks)
goes_on [] ns rest e = (ns, sym e)
goes_on (m ∷ ms) [] rest e = absurd (none_first [] refl m (flat_map septets ms ++ rest) (e ∙ append_assoc (septets m) (flat_map septets ms) rest))
goes_on (m ∷ ms) (n ∷ ns) rest e =
    let f = one_front n m (flat_map septets ns) (flat_map septets ms ++ rest) (e ∙ append_assoc (septets m) (flat_map septets ms) rest) in
    goes_on ms ns rest f.1

no_next : (rest : List ℕ) (ks : List ℕ) → 0 < length rest → rest ≡ flat_map septets ks → ((n : ℕ) (more : List ℕ) → rest ≡ septets n ++ more → ⊥) → ⊥
no_next rest [] l e h = let f = ap length e in omega (arith, l, f)
no_next rest (k ∷ ks) l e h = h k (flat_map septets ks) e

pub no_numbers : (count : ℕ) (small : Bool) (o rest : List ℕ) → Counted count small rest o → 0 < length rest → ((n : ℕ) (more : List ℕ) → rest ≡ septets n ++ more → ⊥) → (ns : List ℕ) → o ≡ flat_map septets ns → ⊥
no_numbers count small o rest c l h ns e =
    let g = goes_on c.numbers ns rest (sym e ∙ c.whole) in
    no_next rest g.0 l g.1 h

pub none_counted : (o : List ℕ) → Counted 0 true o o
none_counted o = record { numbers = []; as_many = refl; judged = tt; whole = refl }

pub one_counted : (count : ℕ) (small next : Bool) (arc : Option ℕ) (o rest following : List ℕ) → Counted count small rest o → Front arc following rest → ((ns : List ℕ) (n : ℕ) → IsJudged small ns → IsArcOf arc n → IsJudged next (ns ++ n ∷ [])) → Counted (count + 1) next following o
one_counted count small next arc o rest following c f j = record {
  numbers = c.numbers ++ f.number ∷ [];
  as_many = length-append c.numbers (f.number ∷ []) ∙ ap (λ q. q + 1) c.as_many;
  judged = j c.numbers f.number c.judged f.is_arc;
  whole =
      c.whole ∙ ap (λ q. flat_map septets c.numbers ++ q) f.whole
      ∙ sym (append_assoc (flat_map septets c.numbers) (septets f.number) following)
      ∙ ap (λ q. (flat_map septets c.numbers ++ q) ++ following) (sym (append-nil (septets f.number)))
      ∙ ap (λ q. q ++ following) (sym (flat_append c.numbers (f.number ∷ [])));
}

-- ---- numbers below 2^64

small_more : (ns : List ℕ) (n : ℕ) → AreSmall ns → n < 2 ^ 64 → AreSmall (ns ++ n ∷ [])
small_more [] n a l = (l, tt)
small_more (m ∷ ns) n a l = (a.0, small_more ns n a.1 l)

small_front : (ns ms : List ℕ) → AreSmall (ns ++ ms) → AreSmall ns
small_front [] ms a = tt
small_front (m ∷ ns) ms a = (a.0, small_front ns ms a.1)

small_last : (ns : List ℕ) (n : ℕ) → AreSmall (ns ++ n ∷ []) → n < 2 ^ 64
small_last [] n a = a.0
small_last (m ∷ ns) n a = small_last ns n a.1

pub judged_small : (ns : List ℕ) (m n : ℕ) → IsJudged true ns → m ≡ n → m < 2 ^ 64 → IsJudged true (ns ++ n ∷ [])
judged_small ns m n a e l = small_more ns n a (omega arith)

pub judged_great : (small : Bool) (ns : List ℕ) (n : ℕ) → 2 ^ 64 ≤ n → IsJudged false (ns ++ n ∷ [])
judged_great small ns n l = λ a. (let k = small_last ns n a in omega (arith, k, l))

pub judged_before : (ns : List ℕ) (n : ℕ) → IsJudged false ns → IsJudged false (ns ++ n ∷ [])
judged_before ns n j = λ a. j (small_front ns (n ∷ []) a)

drop_length : (k : ℕ) (o : List ℕ) → length (drop k o) ≡ length o - k
drop_length zero o = omega arith
drop_length (suc k) [] = omega arith
drop_length (suc k) (x ∷ o) = let h = drop_length k o in omega (arith, h)

rest_is : (k : ℕ) (o : List ℕ) → take (length o - k) (drop k o) ≡ drop k o
rest_is k o = let h = drop_length k o in take_all (drop k o) (length o - k) (omega (arith, h))

pub ends_before : (o : List ℕ) (i : ℕ) → i < length o → AreHigh (take i o) → get_or o i 0 < 128 → (high : ℕ) → (n : ℕ) × Septets high o n (take (length o - (i + 1)) (drop (i + 1) o))
ends_before o i l a m high =
    let s = ends_at o i l a m high in
    (s.0, subst (λ q. Septets high o s.0 q) (sym (rest_is (i + 1) o)) s.1)

pub never_true : false ≡ true → ⊥
never_true e = absurd (cc)
