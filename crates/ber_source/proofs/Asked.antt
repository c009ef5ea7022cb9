-- Questions to a cursor that have no answer.
use Rattle.std.proofs.Common.{arith, ◌≡◌, ⊎_elim, ℕ, ◌<◌, Bool, true, false, List, [], length, sym, ap, subst, ◌∙◌}
use Rattle.asn_base.specs.declared.tag.Tag.{Tag}
use Rattle.asn_base.specs.Tags.{First}
use Rattle.codec_code.specs.declared.step.Field.{Field}
use Rattle.codec_code.specs.Steps.{may_be_absent}
use Rattle.octet_answers.specs.Units.{UnitAt}
use Rattle.octet_answers.specs.States.{State}
use Rattle.octet_answers.specs.Answers.{FieldNext}
use Rattle.ber_source.proofs.Windows.{false_true}

abbrev pub NoUnit : List ℕ → Type 0
NoUnit o = (g : Tag) (c : Bool) (k : ℕ) (x r : List ℕ) → UnitAt g c k x r o → ⊥

abbrev pub OneUnit : Type 0
OneUnit = (g f : Tag) (c d : Bool) (k j : ℕ) (x y r s o : List ℕ)
    → UnitAt g c k x r o
    → UnitAt f d j y s o
    → (g ≡ f) × (c ≡ d) × (k ≡ j) × (x ≡ y) × (r ≡ s)

pub not_none : {o : List ℕ} → 0 < length o → o ≡ [] → ⊥
not_none l e = let m = ap length e in omega arith

-- no encoding comes next, although there are octets
pub never_comes : (a b : State) (f : Field) (there : Bool)
    → 0 < length a.here.octets
    → NoUnit a.here.octets
    → FieldNext a f there b
    → ⊥
never_comes a b f true l n x = n x.tag x.constructed x.count x.contents x.rest x.unit
never_comes a b f false l n x =
    ⊎_elim (λ e. not_none l e) (λ o. n o.tag o.constructed o.count o.contents o.rest o.unit) x.next

-- nothing comes next, although the component must be present
pub missing_never : (a b : State) (f : Field) (there : Bool)
    → NoUnit []
    → a.here.octets ≡ []
    → may_be_absent f.need ≡ false
    → FieldNext a f there b
    → ⊥
missing_never a b f true n e m x =
    n x.tag x.constructed x.count x.contents x.rest (subst (λ q. UnitAt x.tag x.constructed x.count x.contents x.rest q) e x.unit)
missing_never a b f false n e m x = false_true (sym m ∙ x.may_be)

-- another encoding comes next, although the component must be present
pub other_never : (a b : State) (f : Field) (there : Bool) (g : Tag) (c : Bool) (k : ℕ) (y r : List ℕ)
    → OneUnit
    → UnitAt g c k y r a.here.octets
    → (First a.schema f.ty.index g → ⊥)
    → may_be_absent f.need ≡ false
    → FieldNext a f there b
    → ⊥
other_never a b f true g c k y r one u n m x =
    let w = one g x.tag c x.constructed k x.count y x.contents r x.rest a.here.octets u x.unit in
    n (subst (λ q. First a.schema f.ty.index q) (sym w.0) x.first)
other_never a b f false g c k y r one u n m x = false_true (sym m ∙ x.may_be)
