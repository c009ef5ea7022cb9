-- Types that keep what extension markers ask, and those that don't.
use Rattle.std.proofs.Common.{◌≡◌, inl, inr, ℕ, ◌+◌, ◌<◌, Bool, List, length, Option, Some, None, refl, sym, ap, ◌∙◌, arith, subst}
use Rattle.std.proofs.lemmas.Int.{ints}
use Rattle.std.specs.Global.{Global}
use Rattle.std.specs.Prelude.{slice_get, Box}
use Rattle.std.proofs.lemmas.Option.{slice_get_within}
use Rattle.std.proofs.lemmas.Bool.{cases_lt}
use Rattle.std.specs.Prelude.{Result, Ok, Err, IfOk, MatchOption}
use Rattle.trees.specs.declared.module.TagDefault.{TagDefault}
use Rattle.trees.specs.declared.types.ListKind.{ListKind}
use Rattle.trees.specs.declared.types.Simple.{Simple}
use Rattle.trees.specs.declared.types.Simple.TheVariants as simples
use Rattle.trees.specs.declared.types.EnumeratedSyntax.{EnumeratedSyntax}
use Rattle.trees.specs.Types.{an_enumerated, plain_of}
use Rattle.names.specs.Sources.{place_of}
use Rattle.resolve.specs.Program.{WrittenProgram}
use Rattle.type_table.specs.declared.table.TypeNode.{TypeNode}
use Rattle.type_table.specs.Items.{WrittenItem, additions_of, addition_numbers}
use Rattle.type_table.specs.Lists.{AreSound, IsSoundKind, IsSoundEnumeration}
use Rattle.type_table.specs.Seen.{type_of, kind_of}
use Rattle.type_table.specs.Table.{Part, Type', WrittenKind, simple, members, IsWrittenType}
use Rattle.additions.specs.declared.check.Rule.{Rule}
use Rattle.additions.specs.declared.check.Rule.TheVariants.{MarkerPlace, AdditionOrder, DefaultAddition}
use Rattle.additions.specs.declared.check.Broken.{Broken}
use Rattle.additions.specs.declared.fault.ExtFault.{ExtFault}
use Rattle.additions.specs.declared.fault.ExtFault.TheVariants as faults
use Rattle.additions.specs.Additions.{Keeps, KeepsAt, KeepAdditions, IsAboveEarlier, unmarked, after_addition, out_of_brackets, Breaks, in_list, in_items}
use Rattle.additions.specs.Faults.{IsRightAdditionsFault}
use Rattle.additions.specs.proving.Checks.{KeepBefore, AscendBefore, FallsFirst, BreaksFirst, BreaksListFirst}
use Rattle.additions.proofs.Rising.{additions_long}

some_one : {X : Type 0} {a b : X} → Some a ≡ Some b → a ≡ b
some_one h = cc

-- ---- what a type of a kind keeps

abbrev pub KeepsKind : List Type' → ℕ → WrittenKind → Type 0
KeepsKind ts n (members k m cs) = (c : Part) → slice_get cs n ≡ Some c → Keeps ts k m cs n c
KeepsKind ts n (simple (an_enumerated root more)) = IsAboveEarlier (addition_numbers root (additions_of more)) n
KeepsKind ts n k = Unit {0}

kind_at : (ts : List Type') (i : ℕ) (t : Type') (k : WrittenKind) (d : TagDefault) (p : Option (ℕ × ℕ)) →
    slice_get ts i ≡ Some t → IsWrittenType ts i k d p → t.kind ≡ k
kind_at ts i t k d p e h = ap (λ (u : Type'). u.kind) (some_one (sym e ∙ h.found))

keeps_at : (ts : List Type') (i n : ℕ) (t : Type') → slice_get ts i ≡ Some t → KeepsKind ts n t.kind → KeepsAt ts i n
keeps_at ts i n t e x = record {
  member = λ k m cs d p c h f. subst (KeepsKind ts n) (kind_at ts i t (members k m cs) d p e h) x c f;
  item = λ root more d p h. subst (KeepsKind ts n) (kind_at ts i t (simple (an_enumerated root more)) d p e h) x;
}

pub keeps_shape : (ts : List Type') (i : ℕ) (w : TypeNode) (k : WrittenKind) → slice_get ts i ≡ Some (type_of w) →
    kind_of w.shape ≡ k → ((n : ℕ) → KeepsKind ts n k) → (n : ℕ) → KeepsAt ts i n
keeps_shape ts i w k e q x n = keeps_at ts i n (type_of w) e (subst (KeepsKind ts n) (sym q) (x n))

pub no_items : (ts : List Type') (n : ℕ) (s : Simple) → ((g : Box EnumeratedSyntax Global) → s ≡ simples.Enumerated g → ⊥) →
    KeepsKind ts n (simple (plain_of s))
no_items ts n simples.Boolean f = tt
no_items ts n (simples.Integer ns) f = tt
no_items ts n (simples.BitString bs) f = tt
no_items ts n simples.OctetString f = tt
no_items ts n simples.Null f = tt
no_items ts n simples.ObjectIdentifier f = tt
no_items ts n simples.RelativeOid f = tt
no_items ts n (simples.Enumerated g) f = absurd (f g refl)
no_items ts n simples.Utf8String f = tt
no_items ts n (simples.Restricted k) f = tt

pub keeps_list : (ts : List Type') (k : ListKind) (m : Bool) (cs : List Part) (count : ℕ) → length cs ≡ count →
    KeepBefore ts k m cs count → (n : ℕ) → KeepsKind ts n (members k m cs)
keeps_list ts k m cs count l h n c e = let w = slice_get_within cs n c e in h n c (omega (arith, w, l)) e

pub ascend_all : (ts : List Type') (root : List WrittenItem) (more : Option (List WrittenItem)) →
    AscendBefore (addition_numbers root (additions_of more)) (length (additions_of more)) →
    (n : ℕ) → KeepsKind ts n (simple (an_enumerated root more))
ascend_all ts root more h n = λ m y z l a b.
    let w = slice_get_within (addition_numbers root (additions_of more)) n z b in
    let s = additions_long root (additions_of more) in
    h n (omega (arith, w, s)) m y z l a b

-- ---- what breaks

is_kind : (ts : List Type') (i : ℕ) (w : TypeNode) (k : WrittenKind) → slice_get ts i ≡ Some (type_of w) → kind_of w.shape ≡ k →
    IsWrittenType ts i k w.default (place_of w.place)
is_kind ts i w k e q = subst (λ m. IsWrittenType ts i m w.default (place_of w.place)) q (record { constraints = _; assignment = _; found = e })

pub list_at : (ts : List Type') (i : ℕ) (w : TypeNode) (k : ListKind) (m : Bool) (cs : List Part) →
    slice_get ts i ≡ Some (type_of w) → kind_of w.shape ≡ members k m cs →
    IsWrittenType ts i (members k m cs) w.default (place_of w.place)
list_at ts i w k m cs e q = is_kind ts i w (members k m cs) e q

pub breaks_list : (ts : List Type') (i : ℕ) (w : TypeNode) (k : ListKind) (m : Bool) (cs : List Part) (b : Broken) →
    slice_get ts i ≡ Some (type_of w) → kind_of w.shape ≡ members k m cs → BreaksListFirst ts k m cs b →
    BreaksFirst ts i b
breaks_list ts i w k m cs b e q h = record {
  breaks = in_list k m cs w.default (place_of w.place) (is_kind ts i w (members k m cs) e q) h.breaks;
  before = λ n l. keeps_at ts i n (type_of w) e (subst (KeepsKind ts n) (sym q) (λ c f. h.before n c l f));
}

pub breaks_items : (ts : List Type') (i : ℕ) (w : TypeNode) (root : List WrittenItem) (more : Option (List WrittenItem)) (n : ℕ) (b : Broken) →
    slice_get ts i ≡ Some (type_of w) → kind_of w.shape ≡ simple (an_enumerated root more) →
    b.rule ≡ AdditionOrder → b.place ≡ n →
    FallsFirst (addition_numbers root (additions_of more)) n → BreaksFirst ts i b
breaks_items ts i w root more n b e q r p h = record {
  breaks = subst (λ x. Breaks ts x i b.place) (sym r) (subst (λ x. Breaks ts AdditionOrder i x) (sym p) (in_items root more w.default (place_of w.place) (is_kind ts i w (simple (an_enumerated root more)) e q) h.falls));
  before = λ j l. keeps_at ts i j (type_of w) e (subst (KeepsKind ts j) (sym q) (h.before j (omega (arith, l, p))));
}

pub sound_items : (ts : List Type') (i : ℕ) (w : TypeNode) (root : List WrittenItem) (more : Option (List WrittenItem)) → AreSound ts →
    slice_get ts i ≡ Some (type_of w) → kind_of w.shape ≡ simple (an_enumerated root more) →
    IsSoundEnumeration root (additions_of more)
sound_items ts i w root more s e q = subst IsSoundKind q (s i (type_of w) e)

pub all_keep : (ts : List Type') → ((i n : ℕ) → i < length ts → KeepsAt ts i n) → KeepAdditions ts
all_keep ts f = λ i n. record {
  member = λ k m cs d p c h e. (f i n (slice_get_within ts i _ h.found)).member k m cs d p c h e;
  item = λ root more d p h. (f i n (slice_get_within ts i _ h.found)).item root more d p h;
}

-- ---- a place that breaks a rule doesn't keep what is asked

pub no_break : (ts : List Type') (r : Rule) (i n : ℕ) → Breaks ts r i n → KeepsAt ts i n → ⊥
no_break ts MarkerPlace i n (in_list k m cs d p h (unmarked c e a f)) g =
    let x = (g.member k m cs d p c h e).placed.marked a in absurd cc
no_break ts MarkerPlace i n (in_list k m cs d p h (after_addition q c x e l f a nay)) g =
    nay ((g.member k m cs d p c h e).placed.following q x l f a)
no_break ts MarkerPlace i n (in_list k m cs d p h (out_of_brackets s)) g =
    s.left ((g.member k m cs d p s.member h s.there).placed.together s.one s.other s.group s.within s.outside s.in_turn s.before s.at_one s.at_other s.within_group s.of_group)
no_break ts DefaultAddition i n (in_list k m cs d p h s) g =
    let a = s.0 in
    let x = (g.member k m cs d p a.member h a.there).no_default a.added in
    let y = a.has_value in
    absurd cc
no_break ts AdditionOrder i n (in_list k m cs d p h s) g =
    let o = s.1 in
    o.not_before ((g.member k m cs d p o.member h o.there).ordered s.0 o.place o.earlier o.first o.second o.before o.is_so o.earlier_added o.added o.of_earlier o.of_member)
no_break ts AdditionOrder i n (in_items root more d p h s) g =
    let x = g.item root more d p h s.place s.earlier s.number s.before s.is_so s.there in
    let y = s.falls in
    absurd (omega (arith, ints, x, y))

pub no_other_fault : (w : WrittenProgram) (e : ExtFault) → (e ≡ faults.Memory → ⊥) → IsRightAdditionsFault w e → KeepAdditions w.program.types → ⊥
no_other_fault w faults.Memory n s k = n refl
no_other_fault w (faults.MarkerPlace x) n s k = no_break w.program.types MarkerPlace s.ty s.first.first.number s.first.first.breaks (k s.ty s.first.first.number)
no_other_fault w (faults.AdditionOrder x) n s k = no_break w.program.types AdditionOrder s.ty s.first.first.number s.first.first.breaks (k s.ty s.first.first.number)
no_other_fault w (faults.DefaultAddition x) n s k = no_break w.program.types DefaultAddition s.ty s.first.first.number s.first.first.breaks (k s.ty s.first.first.number)

-- ---- results

pub found_map : {A E : Type 0} (r : Result (Option A) E) {P Q : Type 0} {R S : A → Type 0} → (P → Q) → ((a : A) → R a → S a) →
    IfOk r (λ o. MatchOption o P R) → IfOk r (λ o. MatchOption o Q S)
found_map (Ok None) f g h = f h
found_map (Ok (Some a)) f g h = g a h
found_map (Err e) f g h = tt

pub keep_types : (ts : List Type') (t : ℕ) → ((i n : ℕ) → i < t → KeepsAt ts i n) → ((n : ℕ) → KeepsAt ts t n) →
    (i n : ℕ) → i < t + 1 → KeepsAt ts i n
keep_types ts t f g i n l = elim (cases_lt i t) [
  | inl q ↦ f i n q
  | inr q ↦ (let p : t ≡ i = omega (arith, q, l) in subst (λ j. KeepsAt ts j n) p (g n))
]
