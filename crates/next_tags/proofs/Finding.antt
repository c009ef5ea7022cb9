-- Components and alternatives that are found among steps.
use Rattle.std.proofs.Common.{arith, ◌≡◌, ℕ, suc, ◌+◌, List, [], ◌∷◌, length, refl, sym, ap, subst, ◌∙◌}
use Rattle.std.specs.Prelude.{Option, Some, None, IfSome}
use Rattle.asn_base.specs.declared.tag.Tag.{Tag}
use Rattle.asn_base.specs.declared.schema.TypeId.{TypeId}
use Rattle.asn_base.specs.Types.{Resolved}
use Rattle.asn_base.specs.Tags.{First}
use Rattle.codec_code.specs.declared.step.Field.{Field as Field'}
use Rattle.codec_code.specs.declared.step.Step.{Step}
use Rattle.codec_code.specs.declared.step.Step.TheVariants.{Call}
use Rattle.octet_answers.specs.Found.{field_in, CanBegin, IsFound, found, not_yet, IsChosen, chosen, later}

none_some : {A : Type 0} {x : A} → None ≡ Some x → ⊥
none_some e = cc

some_same : {x y : Field'} → Some x ≡ Some y → x ≡ y
some_same {x} e = ap (λ q. elim q [ None ↦ x | Some z ↦ z ]) e

none_in : {s : List Resolved} {g : Tag} {f : Field'} → IsFound s g [] f → ⊥
none_in h = elim h [ ]

pub none_found : (s : List Resolved) (g : Tag) (ss : List Step) (f : Field') → ss ≡ [] → IsFound s g ss f → ⊥
none_found s g ss f e h = none_in (subst (λ q. IsFound s g q f) e h)

pub found_here : (s : List Resolved) (g : Tag) (ss : List Step) (p : Step) (rest : List Step) (f : Field') → ss ≡ p ∷ rest → field_in p ≡ Some f → First s f.ty.index g → IsFound s g ss f
found_here s g ss p rest f e i h = subst (λ q. IsFound s g q f) (sym e) (found i h)

pub found_later : (s : List Resolved) (g : Tag) (ss : List Step) (p : Step) (rest : List Step) (f : Field') → ss ≡ p ∷ rest → (CanBegin s g p → ⊥) → IsFound s g rest f → IsFound s g ss f
found_later s g ss p rest f e n h = subst (λ q. IsFound s g q f) (sym e) (not_yet n h)

pub later_if : (r : Option Field') (s : List Resolved) (g : Tag) (ss : List Step) (p : Step) (rest : List Step) → ss ≡ p ∷ rest → (CanBegin s g p → ⊥) → IfSome r (λ f. IsFound s g rest f) → IfSome r (λ f. IsFound s g ss f)
later_if None s g ss p rest e n h = h
later_if (Some f) s g ss p rest e n h = found_later s g ss p rest f e n h

not_at : (s : List Resolved) (g : Tag) (p : Step) (rest : List Step) → (CanBegin s g p → ⊥) → ((f : Field') → IsFound s g rest f → ⊥) → (f : Field') → IsFound s g (p ∷ rest) f → ⊥
not_at s g p rest n m f (found i h) = n (f, i, h)
not_at s g p rest n m f (not_yet k h) = m f h

pub not_found : (s : List Resolved) (g : Tag) (ss : List Step) (p : Step) (rest : List Step) → ss ≡ p ∷ rest → (CanBegin s g p → ⊥) → ((f : Field') → IsFound s g rest f → ⊥) → (f : Field') → IsFound s g ss f → ⊥
not_found s g ss p rest e n m f h = not_at s g p rest n m f (subst (λ q. IsFound s g q f) e h)

pub no_field : (s : List Resolved) (g : Tag) (p : Step) → field_in p ≡ None → CanBegin s g p → ⊥
no_field s g p e h = none_some (sym e ∙ h.1)

pub no_first : (s : List Resolved) (g : Tag) (p : Step) (f : Field') → field_in p ≡ Some f → (First s f.ty.index g → ⊥) → CanBegin s g p → ⊥
no_first s g p f e n h = n (subst (λ q. First s q.ty.index g) (some_same (sym h.1 ∙ e)) h.2)

abbrev called_by : TypeId → Step → TypeId
called_by d (Call u) = u
called_by d p = d

none_called : {s : List Resolved} {g : Tag} {i : ℕ} {t : TypeId} → IsChosen s g [] i t → ⊥
none_called h = elim h [ ]

pub none_chosen : (s : List Resolved) (g : Tag) (ss : List Step) (i : ℕ) (t : TypeId) → ss ≡ [] → IsChosen s g ss i t → ⊥
none_chosen s g ss i t e h = none_called (subst (λ q. IsChosen s g q i t) e h)

abbrev pub NoCall : List Resolved → Tag → Step → Type 0
NoCall s g p = (u : TypeId) → p ≡ Call u → First s u.index g → ⊥

pub chosen_here : (s : List Resolved) (g : Tag) (ss : List Step) (p : Step) (rest : List Step) (t : TypeId) → ss ≡ p ∷ rest → p ≡ Call t → First s t.index g → IsChosen s g ss 0 t
chosen_here s g ss p rest t e f h = subst (λ q. IsChosen s g q 0 t) (sym (e ∙ ap (λ q. q ∷ rest) f)) (chosen h)

-- a step that isn't a call, and the call of a type that begins otherwise
pub not_a_call : (s : List Resolved) (g : Tag) (p : Step) → ((u : TypeId) → p ≡ Call u → ⊥) → NoCall s g p
not_a_call s g p n u e h = n u e

call_same : (t u : TypeId) → Call t ≡ Call u → t ≡ u
call_same t u e = ap (λ q. called_by t q) e

pub other_call : (s : List Resolved) (g : Tag) (p : Step) (t : TypeId) → p ≡ Call t → (First s t.index g → ⊥) → NoCall s g p
other_call s g p t e n u f h = n (subst (λ q. First s q.index g) (call_same u t (sym f ∙ e)) h)

pub chosen_later : (s : List Resolved) (g : Tag) (ss : List Step) (p : Step) (rest : List Step) (i : ℕ) (t : TypeId) → ss ≡ p ∷ rest → NoCall s g p → IsChosen s g rest i t → IsChosen s g ss (suc i) t
chosen_later s g ss p rest i t e n h = subst (λ q. IsChosen s g q (suc i) t) (sym e) (later n h)

not_called : (s : List Resolved) (g : Tag) (p : Step) (rest : List Step) → NoCall s g p → ((i : ℕ) (t : TypeId) → IsChosen s g rest i t → ⊥) → (i : ℕ) (t : TypeId) → IsChosen s g (p ∷ rest) i t → ⊥
not_called s g p rest n m i t (chosen h) = n t refl h
not_called s g p rest n m i t (later {i = j} k h) = m j t h

pub not_chosen : (s : List Resolved) (g : Tag) (ss : List Step) (p : Step) (rest : List Step) → ss ≡ p ∷ rest → NoCall s g p → ((i : ℕ) (t : TypeId) → IsChosen s g rest i t → ⊥) → (i : ℕ) (t : TypeId) → IsChosen s g ss i t → ⊥
not_chosen s g ss p rest e n m i t h = not_called s g p rest n m i t (subst (λ q. IsChosen s g q i t) e h)

-- what is chosen of all calls is chosen of the rest, which begins at place n
pub record Searched (s : List Resolved) (g : Tag) (all : List Step) (n : ℕ) (rest : List Step) : Type 0 where
  pub long : n + length rest ≡ length all
  pub some : (i : ℕ) (t : TypeId) → IsChosen s g rest i t → IsChosen s g all (n + i) t
  pub none : ((i : ℕ) (t : TypeId) → IsChosen s g rest i t → ⊥) → (i : ℕ) (t : TypeId) → IsChosen s g all i t → ⊥

pub from_start : (s : List Resolved) (g : Tag) (all : List Step) → Searched s g all 0 all
from_start s g all = record {
  long = (let k : 0 + length all ≡ length all = omega arith in k);
  some = λ i t h. (let k : i ≡ 0 + i = omega arith in subst (λ q. IsChosen s g all q t) k h);
  none = λ n. n;
}

pub step_over : (s : List Resolved) (g : Tag) (all rest following : List Step) (n : ℕ) (p : Step)
    → Searched s g all n rest
    → rest ≡ p ∷ following
    → NoCall s g p
    → Searched s g all (n + 1) following
step_over s g all rest following n p h e m = record {
  long = (let l = h.long in let k : length rest ≡ suc (length following) = ap length e in omega (arith, l, k));
  some = λ i t c. (let k : n + suc i ≡ (n + 1) + i = omega arith in subst (λ q. IsChosen s g all q t) k (h.some (suc i) t (chosen_later s g rest p following i t e m c)));
  none = λ c. h.none (not_chosen s g rest p following e m c);
}

pub called_here : (s : List Resolved) (g : Tag) (all rest following : List Step) (n : ℕ) (p : Step) (t : TypeId)
    → Searched s g all n rest
    → rest ≡ p ∷ following
    → (p ≡ Call t) × First s t.index g
    → IsChosen s g all n t
called_here s g all rest following n p t h e c =
    let k : n + 0 ≡ n = omega arith in
    subst (λ q. IsChosen s g all q t) k (h.some 0 t (chosen_here s g rest p following t e c.0 c.1))
