-- Marks of types whose values are judged leaf by leaf.
use Rattle.std.proofs.Common.{arith, ◌≡◌, ℕ, zero, suc, ◌≤◌, Bool, true, false, List, [], ◌∷◌, ◌++◌, length, refl, sym, ap, subst}
use Rattle.std.specs.Prelude.{Option, Some, IfSome, pos, slice_get, get_or, ◌<◌, Result, Ok, Err, IfOk}
use Rattle.std.specs.List.{AllByRecursion}
use Rattle.asn_base.specs.Types.{Range, Component, Alternative, Kind, a_boolean, an_integer, an_enumerated, a_bit_string, a_named_bit_string, an_octet_string, a_null, an_object_identifier, a_relative_oid, a_utf8_string, a_restricted_string, a_sequence, a_set, a_sequence_of, a_set_of, a_choice, Resolved}
use Rattle.asn_base.specs.Typed.{IsInSome}
use Rattle.asn_base.specs.declared.schema.Resolved.{Resolved as Resolved'}
use Rattle.asn_base.specs.Seen.{resolved_of, types_of}
use Rattle.codec_code.specs.ByLeaves.{AreMarks, AreMarksOf, AreNextMarks, ByLeaves, HaveAllFromOne, IsEasy, KindByLeaves}

components_on : {P Q : ℕ → Type 0} → ((t : ℕ) → P t → Q t) → (cs : List Component) → AllByRecursion (λ c. P c.type × IsEasy c.presence) cs → AllByRecursion (λ c. Q c.type × IsEasy c.presence) cs
components_on f [] a = tt
components_on f (c ∷ cs) a = ((f c.type a.0.0, a.0.1), components_on f cs a.1)

alternatives_on : {P Q : ℕ → Type 0} → ((t : ℕ) → P t → Q t) → (as' : List Alternative) → AllByRecursion (λ a. P a.type) as' → AllByRecursion (λ a. Q a.type) as'
alternatives_on f [] a = tt
alternatives_on f (b ∷ bs) a = (f b.type a.0, alternatives_on f bs a.1)

kind_on : {P Q : ℕ → Type 0} → ((t : ℕ) → P t → Q t) → (k : Kind) → KindByLeaves P k → KindByLeaves Q k
kind_on f (a_sequence e cs) a = components_on f cs a
kind_on f (a_set e cs) a = components_on f cs a
kind_on f (a_sequence_of c u) a = (f u a.0, a.1)
kind_on f (a_set_of c u) a = (f u a.0, a.1)
kind_on f (a_choice root e more) a = alternatives_on f (root ++ more) a
kind_on f a_boolean a = tt
kind_on f (an_integer c) a = tt
kind_on f (an_enumerated root e more) a = tt
kind_on f (a_bit_string c) a = tt
kind_on f (a_named_bit_string bs) a = tt
kind_on f (an_octet_string c) a = tt
kind_on f a_null a = tt
kind_on f an_object_identifier a = tt
kind_on f a_relative_oid a = tt
kind_on f (a_utf8_string c) a = tt
kind_on f (a_restricted_string k alphabet c) a = tt

pub both_lists : (P : Alternative → Type 0) (xs ys : List Alternative) → AllByRecursion P xs → AllByRecursion P ys → AllByRecursion P (xs ++ ys)
both_lists P [] ys a b = b
both_lists P (x ∷ xs) ys a b = (a.0, both_lists P xs ys a.1 b)

pub no_marks : (s : List Resolved) → AreMarksOf s 0 []
no_marks s t e = absurd cc

pub marks_on : (s : List Resolved) (n : ℕ) (before bs : List Bool) → AreMarksOf s n before → AreNextMarks s before bs → AreMarksOf s (suc n) bs
marks_on s n before bs m h t e = let r = h t e in (r.0, r.1, kind_on m r.0.kind r.2)

pub marks_done : (s : List Resolved) (n : ℕ) (bs : List Bool) → n ≤ 64 → AreMarksOf s n bs → AreMarks s bs
marks_done s n bs few m t e = record { levels = n; few = few; by = m t e }

one_mark : (P : ℕ → Type 0) (bs : List Bool) (b : Bool) → ((t : ℕ) → slice_get bs t ≡ Some true → P t) → (b ≡ true → P (length bs)) → (t : ℕ) → slice_get (bs ++ b ∷ []) t ≡ Some true → P t
one_mark P [] b h g zero e = g cc
one_mark P [] b h g (suc t) e = absurd cc
one_mark P (x ∷ bs) b h g zero e = h zero e
one_mark P (x ∷ bs) b h g (suc t) e = one_mark (λ n. P (suc n)) bs b (λ n f. h (suc n) f) g t e

pub more_marks : (s : List Resolved) (before bs : List Bool) (b : Bool) (i : ℕ) (r : Resolved) → length bs ≡ i → AreNextMarks s before bs → slice_get s i ≡ Some r → (b ≡ true → KindByLeaves (λ u. slice_get before u ≡ Some true) r.kind) → AreNextMarks s before (bs ++ b ∷ [])
more_marks s before bs b i r e a h k =
    one_mark (λ t. (r : Resolved) × (slice_get s t ≡ Some r) × KindByLeaves (λ u. slice_get before u ≡ Some true) r.kind) bs b a
    (λ m. (r, subst (λ q. slice_get s q ≡ Some r) (sym e) h, k m))

pub no_next : (s : List Resolved) (before : List Bool) → AreNextMarks s before []
no_next s before t e = absurd cc

pub some_allowed : (a : Option (List Range)) (rs : List Range) → a ≡ Some rs → HaveAllFromOne rs → (n : ℕ) → 1 ≤ n → IfSome a (IsInSome (pos n))
some_allowed a rs e h n l = subst (λ q. IfSome q (IsInSome (pos n))) (sym e) (h n l)

-- one more fact of what holds if the result is true
pub also : {A E : Type 0} (B : Type 0) (r : Result Bool E) → A → IfOk r (λ b. b ≡ true → B) → IfOk r (λ b. b ≡ true → A × B)
also B (Ok b) a f = λ e. (a, f e)
also B (Err e) a f = tt

pub type_at : (ts : List Resolved') (i : ℕ) (t : Resolved') → i < length ts → t ≡ get_or ts i t → slice_get (types_of ts) i ≡ Some (resolved_of t)
type_at [] i t l e = absurd (omega arith)
type_at (x ∷ ts) zero t l e = ap (λ q. Some (resolved_of q)) (sym e)
type_at (x ∷ ts) (suc i) t l e = type_at ts i t (omega arith) e
