-- Tests of lists and steps, as what they test.
use Rattle.std.proofs.Common.{arith, ◌≡◌, ◌↔◌, ℕ, zero, suc, Bool, true, false, List, [], ◌∷◌, length, IsTrue, refl, sym, ap, subst, ◌∙◌}
use Rattle.std.specs.Prelude.{Some, None, slice_get}
use Rattle.asn_base.specs.declared.tag.Tag.{Tag}
use Rattle.asn_base.specs.declared.schema.TypeId.{TypeId}
use Rattle.asn_base.specs.Names.{IsMember, is_first, is_later}
use Rattle.asn_base.specs.Types.{Resolved}
use Rattle.codec_code.specs.declared.step.Field.{Field as Field'}
use Rattle.codec_code.specs.declared.step.Step.{Step}
use Rattle.codec_code.specs.declared.step.Step.TheVariants.{Call}
use Rattle.asn_base.specs.Order.{tag_at}
use Rattle.codec_code.specs.Steps.{may_be_absent}
use Rattle.next_tags.specs.Firsts.{Begins, begins, AnyBegins, this_begins, later_begins}
use Rattle.octet_answers.specs.Found.{field_in, AreRead, are_read, is_read}

pub yes : {P : Type 0} → P → IsTrue true ↔ P
yes p = (λ _. p, λ _. refl)

pub member_here : (n m : ℕ) (ms rest : List ℕ) → ms ≡ m ∷ rest → m ≡ n → IsMember n ms
member_here n m ms rest e f = subst (IsMember n) (sym (e ∙ ap (λ q. q ∷ rest) f)) is_first

not_first : (n m : ℕ) (rest : List ℕ) → (m ≡ n → ⊥) → IsMember n (m ∷ rest) → IsMember n rest
not_first n m rest no_one is_first = absurd (no_one refl)
not_first n m rest no_one (is_later h) = h

pub member_later : (b : Bool) (n m : ℕ) (ms rest : List ℕ) → ms ≡ m ∷ rest → (m ≡ n → ⊥) → IsTrue b ↔ IsMember n rest → IsTrue b ↔ IsMember n ms
member_later b n m ms rest e f h =
    (λ t. subst (IsMember n) (sym e) (is_later (h.0 t)), λ q. h.1 (not_first n m rest f (subst (IsMember n) e q)))

none_left : {A : Type 0} (xs : List A) → length xs ≡ 0 → xs ≡ []
none_left [] e = refl
none_left (x ∷ xs) e = absurd (omega arith)

pub read_none : (marks : List ℕ) (ss : List Step) → length ss ≡ 0 → AreRead marks ss
read_none marks ss e = subst (AreRead marks) (sym (none_left ss e)) are_read

abbrev pub IsReadAt : List ℕ → Step → Type 0
IsReadAt marks p = (f : Field') → field_in p ≡ Some f → may_be_absent f.need ≡ false → IsMember f.place marks

after_read : {marks : List ℕ} {p : Step} {ss : List Step} → AreRead marks (p ∷ ss) → AreRead marks ss
after_read (is_read h k) = k

pub read_more : (b : Bool) (marks : List ℕ) (ss : List Step) (p : Step) (rest : List Step) → ss ≡ p ∷ rest → IsReadAt marks p → IsTrue b ↔ AreRead marks rest → IsTrue b ↔ AreRead marks ss
read_more b marks ss p rest e a h =
    (λ t. subst (AreRead marks) (sym e) (is_read a (h.0 t)), λ q. h.1 (after_read (subst (AreRead marks) e q)))

called : {s : List Resolved} {g : Tag} {t : TypeId} → Begins s g (Call t) → tag_at s t.index ≡ Some g
called (begins e) = e

pub begins_by : (b : Bool) (s : List Resolved) (g : Tag) (p : Step) (t : TypeId) → p ≡ Call t → IsTrue b ↔ (tag_at s t.index ≡ Some g) → IsTrue b ↔ Begins s g p
begins_by b s g p t e h =
    (λ q. subst (Begins s g) (sym e) (begins (h.0 q)), λ q. h.1 (called (subst (Begins s g) e q)))

pub any_here : (s : List Resolved) (g : Tag) (ss : List Step) (p : Step) (rest : List Step) → ss ≡ p ∷ rest → Begins s g p → AnyBegins s g ss
any_here s g ss p rest e h = subst (AnyBegins s g) (sym e) (this_begins h)

no_step : {s : List Resolved} {g : Tag} {p : Step} → None ≡ Some p → AnyBegins s g []
no_step e = absurd (cc)

-- one of the steps calls such a type if the step at a place does
pub any_at : (s : List Resolved) (g : Tag) (ss : List Step) (i : ℕ) (p : Step) → slice_get ss i ≡ Some p → Begins s g p → AnyBegins s g ss
any_at s g [] i p e h = no_step e
any_at s g (q ∷ ss) zero p e h =
    let f : q ≡ p = ap (λ o. elim o [ None ↦ q | Some z ↦ z ]) e in
    this_begins (subst (Begins s g) (sym f) h)
any_at s g (q ∷ ss) (suc i) p e h = later_begins (any_at s g ss i p e h)

not_this : {s : List Resolved} {g : Tag} {p : Step} {rest : List Step} → (Begins s g p → ⊥) → AnyBegins s g (p ∷ rest) → AnyBegins s g rest
not_this n (this_begins h) = absurd (n h)
not_this n (later_begins h) = h

pub any_later : (b : Bool) (s : List Resolved) (g : Tag) (ss : List Step) (p : Step) (rest : List Step) → ss ≡ p ∷ rest → (Begins s g p → ⊥) → IsTrue b ↔ AnyBegins s g rest → IsTrue b ↔ AnyBegins s g ss
any_later b s g ss p rest e n h =
    (λ t. subst (AnyBegins s g) (sym e) (later_begins (h.0 t)), λ q. h.1 (not_this n (subst (AnyBegins s g) e q)))

-- a test that fails
pub fails : {P : Type 0} (b : Bool) → b ≡ false → IsTrue b ↔ P → P → ⊥
fails b e h p = never (sym e ∙ h.1 p)
  where
    never : false ≡ true → ⊥
    never z = cc
