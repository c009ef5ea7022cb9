-- The constraints of a type have at most one first fault.
use Rattle.std.proofs.Common.{◌≡◌, inl, inr, ℕ, ◌<◌, Bool, true, false, List, Some, map, sym, ap, ◌∙◌, subst}
use Rattle.std.specs.Prelude.{Vec, slice_get, option_map}
use Rattle.std.specs.Global.{Global}
use Rattle.std.proofs.lemmas.Bool.{cases_order}
use Rattle.std.proofs.lemmas.Option.{slice_get-map, slice_get_within}
use Rattle.trees.specs.declared.constraint.CharsSyntax.{CharsSyntax}
use Rattle.trees.specs.declared.constraint.ConstraintForm.TheVariants as forms
use Rattle.trees.specs.declared.constraint.ConstraintSyntax.{ConstraintSyntax}
use Rattle.trees.specs.declared.constraint.RangeSyntax.{RangeSyntax}
use Rattle.trees.specs.declared.constraint.RangesSyntax.{RangesSyntax}
use Rattle.trees.specs.declared.location.At.{At as Placed}
use Rattle.trees.specs.Constraints.{constraint_of, chars_of, constraint_tree, range_of}
use Rattle.trees.specs.Values.{Name}
use Rattle.type_table.specs.Table.{WrittenKind}
use Rattle.resolve.specs.Program.{Program}
use Rattle.range_ends.specs.Answers.{IsOf}
use Rattle.range_ends.specs.Characters.{IsFit, AreEnds}
use Rattle.range_ends.specs.First.{HaveOneMeaning, IsFirstWrong, ReportsSame as ReportsSameRange}
use Rattle.range_ends.specs.Ranges.{AreRanges}
use Rattle.range_ends.specs.declared.written_ranges.Counted.{Counted}
use Rattle.range_ends.specs.declared.written_ranges.Counted.TheVariants.{Numbers, Sizes}
use Rattle.range_ends.specs.declared.written_ranges.RangeFault.{RangeFault}
use Rattle.range_ends.specs.declared.written_ranges.RangeFault.TheVariants as ranges
use Rattle.constraints.specs.Constraints.{is_marked, ConstraintHasMeaning, IsFitting}
use Rattle.constraints.specs.First.{AreEndsWrong, IsCharsWrong, IsFirstChars, wrong_of, wrong_chars, IsConstraintWrong, memory, not_taken, misplaced, in_numbers, in_sizes, in_characters, IsAfterMarker, IsNextWrong, reconstrained, itself, IsFirstConstraint, IsLimitWrong, of_one, empty}
use Rattle.constraints.specs.declared.characters.CharsFault.{CharsFault}
use Rattle.constraints.specs.declared.characters.CharsFault.TheVariants as chars
use Rattle.constraints.specs.declared.limit.Limit.{Limit}
use Rattle.constraints.specs.declared.meaning.Rule.TheVariants as rules
use Rattle.constraints.specs.declared.meaning.ConstraintFault.{ConstraintFault}
use Rattle.constraints.specs.declared.meaning.ConstraintFault.TheVariants as wrongs
use Rattle.constraints.specs.proving.Limits.{LeavesNone}
use Rattle.constraints.proofs.Excluding.{all_at, not_turned}

pub same : {X : Type 0} {a b : X} → Some a ≡ Some b → a ≡ b
same h = cc

pub seen : {A B : Type 0} (f : A → B) (xs : List A) (n : ℕ) (x : A) →
    slice_get xs n ≡ Some x →
    slice_get (map f xs) n ≡ Some (f x)
seen f xs n x e = slice_get-map f xs n ∙ ap (option_map f) e

-- ---- characters

one_end : (a b : Placed (Vec ℕ Global)) (f g : CharsFault) → AreEndsWrong a b f → AreEndsWrong a b g → f ≡ g
one_end a b (chars.NoCharacter m) (chars.NoCharacter n) (inl x) (inl y) = ap (λ z. chars.NoCharacter z) (x.0 ∙ sym y.0)
one_end a b (chars.NoCharacter m) (chars.NoCharacter n) (inl x) (inr y) = absurd (x.1 y.1 y.2)
one_end a b (chars.NoCharacter m) (chars.NoCharacter n) (inr x) (inl y) = absurd (y.1 x.1 x.2)
one_end a b (chars.NoCharacter m) (chars.NoCharacter n) (inr x) (inr y) = ap (λ z. chars.NoCharacter z) (x.0 ∙ sym y.0)
one_end a b (chars.NoCharacter m) (chars.Reversed n) (inl x) y = absurd (x.1 y.1.from y.1.starts)
one_end a b (chars.NoCharacter m) (chars.Reversed n) (inr x) y = absurd (x.3 y.1.to y.1.ends)
one_end a b (chars.Reversed m) (chars.NoCharacter n) x (inl y) = absurd (y.1 x.1.from x.1.starts)
one_end a b (chars.Reversed m) (chars.NoCharacter n) x (inr y) = absurd (y.3 x.1.to x.1.ends)
one_end a b (chars.Reversed m) (chars.Reversed n) x y = ap (λ z. chars.Reversed z) (x.0 ∙ sym y.0)

no_end : (a b : Placed (Vec ℕ Global)) (f : CharsFault) → AreEndsWrong a b f → AreEnds a.it.items b.it.items → ⊥
no_end a b (chars.NoCharacter m) (inl x) fit = x.1 fit.from fit.starts
no_end a b (chars.NoCharacter m) (inr x) fit = x.3 fit.to fit.ends
no_end a b (chars.Reversed m) x fit = not_turned (a.it.items, Some b.it.items) fit x.1

no_chars : (c : CharsSyntax) (f : CharsFault) → IsCharsWrong c f → IsFit (chars_of c) → ⊥
no_chars c f x fit =
    no_end c.first x.0 f x.2 (subst (λ o. IsFit (c.first.it.items, option_map (λ l. l.it.items) o)) x.1 fit)

one_range : (c d : CharsSyntax) (f g : CharsFault) → c ≡ d → IsCharsWrong c f → IsCharsWrong d g → f ≡ g
one_range c d f g e x y =
    let z = subst (λ h. IsCharsWrong h g) (sym e) y in
    let q = same (sym x.1 ∙ z.1) in
    one_end c.first x.0 f g x.2 (subst (λ b. AreEndsWrong c.first b g) (sym q) z.2)

one_chars : (cs : List CharsSyntax) (f g : CharsFault) → IsFirstChars cs f → IsFirstChars cs g → f ≡ g
one_chars cs f g x y =
    elim (cases_order x.number y.number) [
      | inl e ↦ one_range x.range y.range f g (same (sym x.there ∙ ap (slice_get cs) e ∙ y.there)) x.fault y.fault
      | inr s ↦ elim s [
        | inl l ↦ absurd (no_chars x.range f x.fault
            (y.before x.number (chars_of x.range) l (seen chars_of cs x.number x.range x.there)))
        | inr l ↦ absurd (no_chars y.range g y.fault
            (x.before y.number (chars_of y.range) l (seen chars_of cs y.number y.range y.there)))
      ]
    ]

-- ---- one constraint

same_wrong : (f g : RangeFault) → ReportsSameRange f g → wrong_of f ≡ wrong_of g
same_wrong (ranges.NoEnd m) (ranges.NoEnd n) e = ap (λ z. wrongs.At rules.WrongKind z) e
same_wrong (ranges.NoEnd m) (ranges.Reversed n) e = absurd e
same_wrong (ranges.NoEnd m) (ranges.Circular n) e = absurd e
same_wrong (ranges.Reversed m) (ranges.NoEnd n) e = absurd e
same_wrong (ranges.Reversed m) (ranges.Reversed n) e = ap (λ z. wrongs.At rules.LowerAboveUpper z) e
same_wrong (ranges.Reversed m) (ranges.Circular n) e = absurd e
same_wrong (ranges.Circular m) (ranges.NoEnd n) e = absurd e
same_wrong (ranges.Circular m) (ranges.Reversed n) e = absurd e
same_wrong (ranges.Circular m) (ranges.Circular n) e = ap (λ z. wrongs.Circular z) e

by_same : (v w a b : ConstraintFault) → v ≡ a → w ≡ b → a ≡ b → v ≡ w
by_same v w a b e f s = e ∙ s ∙ sym f

not_both : {A : Type 0} {x : Bool} → x ≡ true → x ≡ false → A
not_both t f = let q : true ≡ false = sym t ∙ f in absurd cc

-- what is known of first faults of ranges
abbrev pub OneWrong : Type 0
OneWrong = (p : Program) (k : WrittenKind) (M : Name) (of : Counted) (rs : List RangeSyntax) (f g : RangeFault) →
    HaveOneMeaning p →
    IsFirstWrong p k M of rs f →
    IsFirstWrong p k M of rs g →
    ReportsSameRange f g

abbrev pub NoWrong : Type 0
NoWrong = (p : Program) (k : WrittenKind) (M : Name) (of : Counted) (rs : List RangeSyntax) (f : RangeFault) →
    IsFirstWrong p k M of rs f →
    AreRanges p k M (IsOf of) (map range_of rs) →
    ⊥

module _ (p : Program) (single : HaveOneMeaning p) (one : OneWrong) (none : NoWrong) where
  no_constraint : (k : WrittenKind) (M : Name) (c : ConstraintSyntax) (w : ConstraintFault) →
      (w ≡ wrongs.Memory → ⊥) →
      IsConstraintWrong p k M c w →
      IsFitting p k M (constraint_of c) →
      ⊥
  no_constraint k M c w n (memory e) f = n e
  no_constraint k M c w n (not_taken t e) f = not_both f.takes_it t
  no_constraint k M c w n (misplaced t m e) f = not_both f.marked m
  no_constraint k M c w n (in_numbers r g t m e x q) f =
      none p k M Numbers r.ranges.items g x (subst (λ y. ConstraintHasMeaning p k M (constraint_tree y)) e f.meant)
  no_constraint k M c w n (in_sizes r g t m e x q) f =
      none p k M Sizes r.ranges.items g x (subst (λ y. ConstraintHasMeaning p k M (constraint_tree y)) e f.meant)
  no_constraint k M c w n (in_characters cs g t e x q) f =
      no_chars x.range g x.fault
      (all_at IsFit (map chars_of cs.items) x.number (chars_of x.range)
      (subst (λ y. ConstraintHasMeaning p k M (constraint_tree y)) e f.meant)
      (seen chars_of cs.items x.number x.range x.there))

  one_of_ranges : (k : WrittenKind) (M : Name) (of : Counted) (r s : RangesSyntax) (f g : RangeFault)
      (v w : ConstraintFault) →
      r ≡ s →
      IsFirstWrong p k M of r.ranges.items f →
      IsFirstWrong p k M of s.ranges.items g →
      v ≡ wrong_of f →
      w ≡ wrong_of g →
      v ≡ w
  one_of_ranges k M of r s f g v w e x y a b =
      by_same v w (wrong_of f) (wrong_of g) a b
      (same_wrong f g (one p k M of r.ranges.items f g single x
      (subst (λ (z : RangesSyntax). IsFirstWrong p k M of z.ranges.items g) (sym e) y)))

  one_of_chars : (xs ys : Vec CharsSyntax Global) (f g : CharsFault) (v w : ConstraintFault) →
      xs ≡ ys →
      IsFirstChars xs.items f →
      IsFirstChars ys.items g →
      v ≡ wrong_chars f →
      w ≡ wrong_chars g →
      v ≡ w
  one_of_chars xs ys f g v w e x y a b =
      by_same v w (wrong_chars f) (wrong_chars g) a b
      (ap wrong_chars (one_chars xs.items f g x
      (subst (λ (z : Vec CharsSyntax Global). IsFirstChars z.items g) (sym e) y)))

  -- FROM has no marker
  marked_chars : {A : Type 0} (k : WrittenKind) (c : ConstraintSyntax) (cs : Vec CharsSyntax Global) →
      c.form ≡ forms.From cs →
      is_marked k (constraint_of c) ≡ false →
      A
  marked_chars k c cs e m =
      let q : true ≡ false = sym (ap (λ y. is_marked k (constraint_tree y)) e) ∙ m in
      absurd cc

  one_constraint : (k : WrittenKind) (M : Name) (c : ConstraintSyntax) (v w : ConstraintFault) →
      (v ≡ wrongs.Memory → ⊥) →
      (w ≡ wrongs.Memory → ⊥) →
      IsConstraintWrong p k M c v →
      IsConstraintWrong p k M c w →
      v ≡ w
  one_constraint k M c v w n o (memory e) b = absurd (n e)
  one_constraint k M c v w n o (not_taken t1 q1) (memory e) = absurd (o e)
  one_constraint k M c v w n o (not_taken t1 q1) (not_taken t2 q2) = q1 ∙ sym q2
  one_constraint k M c v w n o (not_taken t1 q1) (misplaced t2 m2 q2) = not_both t2 t1
  one_constraint k M c v w n o (not_taken t1 q1) (in_numbers r2 f2 t2 m2 e2 x2 q2) = not_both t2 t1
  one_constraint k M c v w n o (not_taken t1 q1) (in_sizes r2 f2 t2 m2 e2 x2 q2) = not_both t2 t1
  one_constraint k M c v w n o (not_taken t1 q1) (in_characters r2 f2 t2 e2 x2 q2) = not_both t2 t1
  one_constraint k M c v w n o (misplaced t1 m1 q1) (memory e) = absurd (o e)
  one_constraint k M c v w n o (misplaced t1 m1 q1) (not_taken t2 q2) = not_both t1 t2
  one_constraint k M c v w n o (misplaced t1 m1 q1) (misplaced t2 m2 q2) = q1 ∙ sym q2
  one_constraint k M c v w n o (misplaced t1 m1 q1) (in_numbers r2 f2 t2 m2 e2 x2 q2) = not_both m2 m1
  one_constraint k M c v w n o (misplaced t1 m1 q1) (in_sizes r2 f2 t2 m2 e2 x2 q2) = not_both m2 m1
  one_constraint k M c v w n o (misplaced t1 m1 q1) (in_characters r2 f2 t2 e2 x2 q2) = marked_chars k c r2 e2 m1
  one_constraint k M c v w n o (in_numbers r1 f1 t1 m1 e1 x1 q1) (memory e) = absurd (o e)
  one_constraint k M c v w n o (in_numbers r1 f1 t1 m1 e1 x1 q1) (not_taken t2 q2) = not_both t1 t2
  one_constraint k M c v w n o (in_numbers r1 f1 t1 m1 e1 x1 q1) (misplaced t2 m2 q2) = not_both m1 m2
  one_constraint k M c v w n o (in_numbers r1 f1 t1 m1 e1 x1 q1) (in_numbers r2 f2 t2 m2 e2 x2 q2) =
      let h : forms.Values r1 ≡ forms.Values r2 = sym e1 ∙ e2 in
      let i : r1 ≡ r2 = cc in
      one_of_ranges k M Numbers r1 r2 f1 f2 v w i x1 x2 q1 q2
  one_constraint k M c v w n o (in_numbers r1 f1 t1 m1 e1 x1 q1) (in_sizes r2 f2 t2 m2 e2 x2 q2) =
      let h : forms.Values r1 ≡ forms.Size r2 = sym e1 ∙ e2 in
      absurd cc
  one_constraint k M c v w n o (in_numbers r1 f1 t1 m1 e1 x1 q1) (in_characters r2 f2 t2 e2 x2 q2) =
      let h : forms.Values r1 ≡ forms.From r2 = sym e1 ∙ e2 in
      absurd cc
  one_constraint k M c v w n o (in_sizes r1 f1 t1 m1 e1 x1 q1) (memory e) = absurd (o e)
  one_constraint k M c v w n o (in_sizes r1 f1 t1 m1 e1 x1 q1) (not_taken t2 q2) = not_both t1 t2
  one_constraint k M c v w n o (in_sizes r1 f1 t1 m1 e1 x1 q1) (misplaced t2 m2 q2) = not_both m1 m2
  one_constraint k M c v w n o (in_sizes r1 f1 t1 m1 e1 x1 q1) (in_numbers r2 f2 t2 m2 e2 x2 q2) =
      let h : forms.Size r1 ≡ forms.Values r2 = sym e1 ∙ e2 in
      absurd cc
  one_constraint k M c v w n o (in_sizes r1 f1 t1 m1 e1 x1 q1) (in_sizes r2 f2 t2 m2 e2 x2 q2) =
      let h : forms.Size r1 ≡ forms.Size r2 = sym e1 ∙ e2 in
      let i : r1 ≡ r2 = cc in
      one_of_ranges k M Sizes r1 r2 f1 f2 v w i x1 x2 q1 q2
  one_constraint k M c v w n o (in_sizes r1 f1 t1 m1 e1 x1 q1) (in_characters r2 f2 t2 e2 x2 q2) =
      let h : forms.Size r1 ≡ forms.From r2 = sym e1 ∙ e2 in
      absurd cc
  one_constraint k M c v w n o (in_characters r1 f1 t1 e1 x1 q1) (memory e) = absurd (o e)
  one_constraint k M c v w n o (in_characters r1 f1 t1 e1 x1 q1) (not_taken t2 q2) = not_both t1 t2
  one_constraint k M c v w n o (in_characters r1 f1 t1 e1 x1 q1) (misplaced t2 m2 q2) = marked_chars k c r1 e1 m2
  one_constraint k M c v w n o (in_characters r1 f1 t1 e1 x1 q1) (in_numbers r2 f2 t2 m2 e2 x2 q2) =
      let h : forms.From r1 ≡ forms.Values r2 = sym e1 ∙ e2 in
      absurd cc
  one_constraint k M c v w n o (in_characters r1 f1 t1 e1 x1 q1) (in_sizes r2 f2 t2 m2 e2 x2 q2) =
      let h : forms.From r1 ≡ forms.Size r2 = sym e1 ∙ e2 in
      absurd cc
  one_constraint k M c v w n o (in_characters r1 f1 t1 e1 x1 q1) (in_characters r2 f2 t2 e2 x2 q2) =
      let h : forms.From r1 ≡ forms.From r2 = sym e1 ∙ e2 in
      let i : r1 ≡ r2 = cc in
      one_of_chars r1 r2 f1 f2 v w i x1 x2 q1 q2

  -- ---- the constraints of a type

  after : (cs : List ConstraintSyntax) (l m : Limit) (n : ℕ) →
      (l.extensible ≡ true → m.extensible ≡ true) →
      IsAfterMarker cs l n →
      IsAfterMarker cs m n
  after cs l m n h (inl e) = inl (h e)
  after cs l m n h (inr e) = inr e

  pub no_next : (k : WrittenKind) (M : Name) (cs : List ConstraintSyntax) (l : Limit) (n : ℕ) (c : ConstraintSyntax)
      (w : ConstraintFault) →
      (w ≡ wrongs.Memory → ⊥) →
      IsNextWrong p k M cs l n c w →
      IsFitting p k M (constraint_of c) →
      (IsAfterMarker cs l n → ⊥) →
      ⊥
  no_next k M cs l n c w o (reconstrained a e) f u = u a
  no_next k M cs l n c w o (itself a x) f u = no_constraint k M c w o x f

  one_next : (k : WrittenKind) (M : Name) (cs : List ConstraintSyntax) (l m : Limit) (n : ℕ) (c : ConstraintSyntax)
      (v w : ConstraintFault) →
      (v ≡ wrongs.Memory → ⊥) →
      (w ≡ wrongs.Memory → ⊥) →
      (l.extensible ≡ true → m.extensible ≡ true) →
      (m.extensible ≡ true → l.extensible ≡ true) →
      IsNextWrong p k M cs l n c v →
      IsNextWrong p k M cs m n c w →
      v ≡ w
  one_next k M cs l m n c v w i j f g (reconstrained a e) (reconstrained b d) = e ∙ sym d
  one_next k M cs l m n c v w i j f g (reconstrained a e) (itself b y) = absurd (b (after cs l m n f a))
  one_next k M cs l m n c v w i j f g (itself a x) (reconstrained b d) = absurd (a (after cs m l n g b))
  one_next k M cs l m n c v w i j f g (itself a x) (itself b y) = one_constraint k M c v w i j x y

  -- the first fault of these constraints isn't before that of the same ones
  not_before : (k : WrittenKind) (M : Name) (cs : List ConstraintSyntax) (l m : Limit) (v w : ConstraintFault) →
      (v ≡ wrongs.Memory → ⊥) →
      (l.extensible ≡ true → m.extensible ≡ true) →
      (x : IsFirstConstraint p k M cs l v) (y : IsFirstConstraint p k M cs m w) →
      x.number < y.number →
      ⊥
  not_before k M cs l m v w i f x y b =
      no_next k M cs l x.number x.constraint v i x.fault
      (y.before x.number (constraint_of x.constraint) b (seen constraint_of cs x.number x.constraint x.there))
      (λ a. y.unmarked x.number b (after cs l m x.number f a))

  one_first : (k : WrittenKind) (M : Name) (cs : List ConstraintSyntax) (l m : Limit) (v w : ConstraintFault) →
      (v ≡ wrongs.Memory → ⊥) →
      (w ≡ wrongs.Memory → ⊥) →
      (l.extensible ≡ true → m.extensible ≡ true) →
      (m.extensible ≡ true → l.extensible ≡ true) →
      IsFirstConstraint p k M cs l v →
      IsFirstConstraint p k M cs m w →
      v ≡ w
  one_first k M cs l m v w i j f g x y =
      elim (cases_order x.number y.number) [
        | inl e ↦ (
            let q = same (sym x.there ∙ ap (slice_get cs) e ∙ y.there) in
            let z = subst (λ n. IsNextWrong p k M cs m n y.constraint w) (sym e) y.fault in
            one_next k M cs l m x.number x.constraint v w i j f g x.fault
            (subst (λ c. IsNextWrong p k M cs m x.number c w) (sym q) z))
        | inr s ↦ elim s [
          | inl b ↦ absurd (not_before k M cs l m v w i f x y b)
          | inr b ↦ absurd (not_before k M cs m l w v j g y x b)
        ]
      ]

  not_empty : (k : WrittenKind) (M : Name) (cs : List ConstraintSyntax) (l m : Limit) (v : ConstraintFault) →
      (v ≡ wrongs.Memory → ⊥) →
      (l.extensible ≡ true → m.extensible ≡ true) →
      IsFirstConstraint p k M cs l v →
      LeavesNone p k M (map constraint_of cs) m →
      ⊥
  not_empty k M cs l m v i f x y =
      let s = seen constraint_of cs x.number x.constraint x.there in
      let b = slice_get_within (map constraint_of cs) x.number (constraint_of x.constraint) s in
      no_next k M cs l x.number x.constraint v i x.fault
      (y.narrows.fitting x.number (constraint_of x.constraint) b s)
      (λ a. y.narrows.last x.number b (after cs l m x.number f a))

  pub one_limit : (k : WrittenKind) (M : Name) (cs : List ConstraintSyntax) (l m : Limit) (place : ℕ)
      (v w : ConstraintFault) →
      (v ≡ wrongs.Memory → ⊥) →
      (w ≡ wrongs.Memory → ⊥) →
      (l.extensible ≡ true → m.extensible ≡ true) →
      (m.extensible ≡ true → l.extensible ≡ true) →
      IsLimitWrong p k M cs l place v →
      IsLimitWrong p k M cs m place w →
      v ≡ w
  one_limit k M cs l m place v w i j f g (of_one x) (of_one y) = one_first k M cs l m v w i j f g x y
  one_limit k M cs l m place v w i j f g (of_one x) (empty y e) = absurd (not_empty k M cs l m v i f x y)
  one_limit k M cs l m place v w i j f g (empty x e) (of_one y) = absurd (not_empty k M cs m l w j g y x)
  one_limit k M cs l m place v w i j f g (empty x e) (empty y d) = e ∙ sym d
