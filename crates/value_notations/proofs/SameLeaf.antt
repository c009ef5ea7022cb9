-- A notation stands for at most one value of a type that holds no others.
use Rattle.std.proofs.Common.{◌≡◌, ℕ, zero, suc, ◌+◌, ◌*◌, ◌<◌, ◌≤◌, arith, refl, sym, ap, subst, ◌∙◌, Some, true, false, Bool, ℤ}
use Rattle.std.specs.Prelude.{◌↔◌, List, [], ◌∷◌, ◌++◌, map, length, slice_get, slice_index, replicate, take, drop}
use Rattle.std.specs.Int.Digits.{number_from_digits}
use Rattle.std.proofs.lemmas.Option.{same_Some, none-some, slice_get_within}
use Rattle.asn_base.specs.Abstract.{AbstractValue, integer, enumerated, bits, octets}
use Rattle.trees.specs.Values.{Name, Tree, Trees}
use Rattle.trees.specs.Types.{Plain}
use Rattle.names.specs.Modules.{AreDifferent}
use Rattle.names.specs.Names.{under}
use Rattle.type_table.specs.Items.{WrittenItem, additions_of, numbers_of}
use Rattle.type_table.specs.Lists.{IsSoundPlain}
use Rattle.value_notations.specs.Leaves as leaves
use Rattle.value_notations.specs.Leaves.{IsItem, AreOctets, AreBitNames, AreSetBits, IsLeafNotation}
use Rattle.value_notations.specs.proving.Places.{one_some, one_place, mapped_at}

-- two lists with the same members at the same places are one
pub same_list : {A : Type 0} (xs ys : List A) → ((i : ℕ) → slice_get xs i ≡ slice_get ys i) → xs ≡ ys
same_list [] [] h = refl
same_list [] (y ∷ ys) h = absurd (none-some y (h 0))
same_list (x ∷ xs) [] h = absurd (none-some x (sym (h 0)))
same_list (x ∷ xs) (y ∷ ys) h =
    ap (λ z. z ∷ xs) (same_Some x y (h 0)) ∙ ap (λ zs. y ∷ zs) (same_list xs ys (λ i. h (suc i)))

one_item : (root more : List WrittenItem) (x : Name) (y z : ℤ)
    → AreDifferent (map (λ (i : WrittenItem). i.0) (root ++ more))
    → IsItem root more x y
    → IsItem root more x z
    → y ≡ z
one_item root more x y z d a b =
    let first = mapped_at (λ (i : WrittenItem). i.0) (root ++ more) a.place a.item a.there ∙ ap Some a.named in
    let second = mapped_at (λ (i : WrittenItem). i.0) (root ++ more) b.place b.item b.there ∙ ap Some b.named in
    let same = one_place (map (λ (i : WrittenItem). i.0) (root ++ more)) x a.place b.place d first second in
    one_some (slice_get (numbers_of root more) a.place) y z a.numbered
    (subst (λ (i : ℕ). slice_get (numbers_of root more) i ≡ Some z) (sym same) b.numbered)

one_list_of_places : {bs : List (Name × ℕ)} {ts : Trees} {ps qs : List ℕ}
    → AreBitNames bs ts ps
    → AreBitNames bs ts qs
    → ps ≡ qs
one_list_of_places leaves.no_bit leaves.no_bit = refl
one_list_of_places {bs} (leaves.bit_and {x = x} {place = a} {places = ps} e h) (leaves.bit_and {place = b} {places = qs} f k) =
    ap (λ z. z ∷ ps) (one_some (under x bs) a b e f) ∙ ap (λ zs. b ∷ zs) (one_list_of_places h k)

-- a list isn't longer than another one in which the same bits are set
not_longer : (places : List ℕ) (s t : List Bool) (n : ℕ)
    → AreSetBits places s
    → AreSetBits places t
    → length s ≡ n
    → n ≤ length t
not_longer places s t zero a b e = omega arith
not_longer places s t (suc n) a b e = slice_get_within t n true ((b.set n).1 (a.greatest n e))

same_bit : (x y : Bool) → (Some x ≡ Some true ↔ Some y ≡ Some true) → x ≡ y
same_bit true true h = refl
same_bit true false h = absurd (let e = same_Some false true (h.0 refl) in grind arith)
same_bit false true h = absurd (let e = same_Some false true (h.1 refl) in grind arith)
same_bit false false h = refl

same_bits : (s t : List Bool)
    → length s ≡ length t
    → ((i : ℕ) → (slice_get s i ≡ Some true ↔ slice_get t i ≡ Some true))
    → s ≡ t
same_bits [] [] e h = refl
same_bits [] (y ∷ t) e h = absurd (omega arith)
same_bits (x ∷ s) [] e h = absurd (omega arith)
same_bits (x ∷ s) (y ∷ t) e h =
    ap (λ z. z ∷ s) (same_bit x y (h 0)) ∙ ap (λ zs. y ∷ zs) (same_bits s t (omega arith) (λ i. h (suc i)))

one_string : (places : List ℕ) (s t : List Bool) → AreSetBits places s → AreSetBits places t → s ≡ t
one_string places s t a b =
    let more = not_longer places s t (length s) a b refl in
    let less = not_longer places t s (length t) b a refl in
    same_bits s t (omega arith) (λ i. (λ e. (b.set i).1 ((a.set i).0 e), λ e. (a.set i).1 ((b.set i).0 e)))

same_numbers : (xs ys : List ℕ)
    → length xs ≡ length ys
    → ((i : ℕ) → i < length xs → slice_index xs i ≡ slice_index ys i)
    → xs ≡ ys
same_numbers [] [] e h = refl
same_numbers [] (y ∷ ys) e h = absurd (omega arith)
same_numbers (x ∷ xs) [] e h = absurd (omega arith)
same_numbers (x ∷ xs) (y ∷ ys) e h =
    ap (λ z. z ∷ xs) (h 0 (omega arith))
    ∙ ap (λ zs. y ∷ zs) (same_numbers xs ys (omega arith) (λ i l. h (suc i) (omega arith)))

same_zeros : (base most : ℕ) (ds os us : List ℕ) (a : AreOctets base most ds os) (b : AreOctets base most ds us)
    → length os ≡ length us
    → a.zeros ≡ b.zeros
same_zeros base most ds os us a b e =
    let f = subst (λ (n : ℕ). length ds + a.zeros ≡ most * n) e a.long in
    let g = b.long in
    omega arith

one_octets : (base most : ℕ) (ds os us : List ℕ)
    → AreOctets base most ds os
    → AreOctets base most ds us
    → length os ≡ length us
    → os ≡ us
one_octets base most ds os us a b e =
    same_numbers os us e (λ i l.
    a.each i l
    ∙ ap (λ z. number_from_digits base (take most (drop (most * i) (ds ++ replicate z 0)))) (same_zeros base most ds os us a b e)
    ∙ sym (b.each i (omega arith)))

as_many_8 : (ds os us : List ℕ) (base : ℕ) → AreOctets base 8 ds os → AreOctets base 8 ds us → length os ≡ length us
as_many_8 ds os us base a b = let e = a.long in let f = b.long in let g = a.few in let h = b.few in omega arith

as_many_2 : (ds os us : List ℕ) (base : ℕ) → AreOctets base 2 ds os → AreOctets base 2 ds us → length os ≡ length us
as_many_2 ds os us base a b = let e = a.long in let f = b.long in let g = a.few in let h = b.few in omega arith

pub one_leaf : {k : Plain} {n : Tree} {v w : AbstractValue} → IsSoundPlain k → IsLeafNotation k n v →
    IsLeafNotation k n w → v ≡ w
one_leaf s leaves.truth leaves.truth = refl
one_leaf s leaves.falsehood leaves.falsehood = refl
one_leaf s leaves.written_number leaves.written_number = refl
one_leaf s (leaves.named_number {ns} {x} {z} e) (leaves.named_number {z = y} f) = ap integer (one_some (under x ns) z y e f)
one_leaf s (leaves.named_item {root} {more} {x} {z} e) (leaves.named_item {z = y} f) =
    ap enumerated (one_item root (additions_of more) x z y s.names e f)
one_leaf s (leaves.bit_digits a e) (leaves.bit_digits b f) = ap bits (e ∙ sym f)
one_leaf s (leaves.bit_hex a e) (leaves.bit_hex b f) = ap bits (e ∙ sym f)
one_leaf s (leaves.no_named_bit a) (leaves.no_named_bit b) = refl
one_leaf s (leaves.named_bits {places = ps} {s = u} a e) (leaves.named_bits {places = qs} {s = t} b f) =
    ap bits (one_string ps u t e (subst (λ (xs : List ℕ). AreSetBits xs t) (sym (one_list_of_places a b)) f))
one_leaf s (leaves.octet_digits {ds} {os} a) (leaves.octet_digits {os = us} b) = ap octets (one_octets 2 8 ds os us a b (as_many_8 ds os us 2 a b))
one_leaf s (leaves.octet_hex {ds} {os} a) (leaves.octet_hex {os = us} b) = ap octets (one_octets 16 2 ds os us a b (as_many_2 ds os us 16 a b))
one_leaf s leaves.nothing_more leaves.nothing_more = refl
one_leaf s (leaves.identifier a) (leaves.identifier b) = refl
one_leaf s leaves.relative leaves.relative = refl
one_leaf s leaves.relative_alone leaves.relative_alone = refl
one_leaf s (leaves.utf8 a) (leaves.utf8 b) = refl
one_leaf s (leaves.restricted a) (leaves.restricted b) = refl
