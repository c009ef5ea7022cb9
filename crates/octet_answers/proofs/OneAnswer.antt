-- A question has one answer.
use Rattle.std.proofs.Common.{arith, ◌≡◌, ⊎_elim, ℕ, suc, ◌≤◌, Bool, true, false, List, [], ◌∷◌, ◌++◌, length, refl, sym, ap, subst, ◌∙◌, length-append}
use Rattle.std.specs.Prelude.{Option, Some, None}
use Rattle.asn_base.specs.declared.tag.Tag.{Tag}
use Rattle.asn_base.specs.declared.schema.TypeId.{TypeId}
use Rattle.asn_base.specs.Types.{Resolved}
use Rattle.asn_base.specs.Tags.{First}
use Rattle.encodings.specs.Header.{Header, LengthOf, short, long, identifier}
use Rattle.codec_code.specs.declared.step.Head.{Head}
use Rattle.codec_code.specs.declared.step.Field.{Field as Field'}
use Rattle.codec_code.specs.declared.step.Step.{Step}
use Rattle.codec_source.specs.Events.{Event, Alike, comes, more, among, picks}
use Rattle.codec_source.specs.Events.{both_begin, both_end, both_open, both_close, both_hold, both_skip, both_come, both_more, both_among, both_pick}
use Rattle.codec_code.specs.Routines.{routine_at}
use Rattle.octet_answers.specs.Units.{UnitAt}
use Rattle.octet_answers.specs.States.{State, chosen, with_token, begun_at, ended_at, opened_at, closed_at, marked, passing}
use Rattle.octet_answers.specs.Found.{IsFound, found, not_yet, IsChosen, chosen as chosen', later, last_steps, Passes, at_end_of_contents, at_component, passes}
use Rattle.octet_answers.specs.Answers.{Begins, Ends, Opens, Closes, Skips, IsNext, IsAbsent, Chooses, FieldNext, MoreNext, NextInSet, Answers, Takes}
use Rattle.encodings.specs.proving.Fronts.{head_or_0, tail_of, split_front}

abbrev head_or : {A : Type 0} → A → List A → A
head_or d [] = d
head_or d (x ∷ xs) = x

-- lists with one more at the end
pub snoc_same : {A : Type 0} (xs ys : List A) (x y : A) → xs ++ x ∷ [] ≡ ys ++ y ∷ [] → (xs ≡ ys) × (x ≡ y)
snoc_same [] [] x y e = (refl, ap (head_or x) e)
snoc_same [] (b ∷ []) x y e = absurd (let l = ap length e in omega arith)
snoc_same [] (b ∷ c ∷ ys) x y e = absurd (let l = ap length e in omega arith)
snoc_same (a ∷ []) [] x y e = absurd (let l = ap length e in omega arith)
snoc_same (a ∷ c ∷ xs) [] x y e = absurd (let l = ap length e in omega arith)
snoc_same (a ∷ xs) (b ∷ ys) x y e =
    let r = snoc_same xs ys x y (ap tail_of e) in
    let h : a ≡ b = ap (head_or a) e in
    let t : xs ≡ ys = r.0 in (cc, r.1)

pub record SameUnit (g f : Tag) (c d : Bool) (k j : ℕ) (x y r s : List ℕ) : Type 0 where
  pub tags : g ≡ f
  pub forms : c ≡ d
  pub counts : k ≡ j
  pub contents : x ≡ y
  pub rests : r ≡ s

abbrev pub or_field : Field' → Option Field' → Field'
or_field d None = d
or_field d (Some f) = f

pub none_some : {A : Type 0} {x : A} → None ≡ Some x → ⊥
none_some e = cc

pub found_once : {s : List Resolved} {g : Tag} {ss : List Step} {f e : Field'} → IsFound s g ss f → IsFound s g ss e → f ≡ e
found_once (found {f = f} i a) (found {f = e} j b) = ap (or_field f) (sym i ∙ j)
found_once (found {f = f} i a) (not_yet n b) = absurd (n (f, i, a))
found_once (not_yet n a) (found {f = e} j b) = absurd (n (e, j, b))
found_once (not_yet n a) (not_yet m b) = found_once a b

pub chosen_once : {s : List Resolved} {g : Tag} {ss : List Step} {i j : ℕ} {t u : TypeId} → IsChosen s g ss i t → IsChosen s g ss j u → (i ≡ j) × (t ≡ u)
chosen_once (chosen' a) (chosen' b) = (refl, refl)
chosen_once (chosen' {t = t} a) (later n b) = absurd (n t refl a)
chosen_once (later n a) (chosen' {t = t} b) = absurd (n t refl b)
chosen_once (later n a) (later m b) = let r = chosen_once a b in (ap suc r.0, r.1)

abbrev pub Headers : Type 0
Headers = (t u : Tag) (b c : Bool) (n m : ℕ) (h g x y : List ℕ) → Header t b n h → Header u c m g → h ++ x ≡ g ++ y → (t ≡ u) × (b ≡ c) × (n ≡ m) × (h ≡ g) × (x ≡ y)

size_some : {n : ℕ} {x : List ℕ} → LengthOf n x → 1 ≤ length x
size_some (short l) = omega arith
size_some (long l) = omega arith

unit_some : {g : Tag} {c : Bool} {k : ℕ} {x r o : List ℕ} → UnitAt g c k x r o → 1 ≤ length o
unit_some {g = g} {c = c} {x = x} {r = r} u =
    let h = u.is_header in
    let a = ap length u.whole in
    let b = length-append u.header (x ++ r) in
    let d = ap length h.whole in
    let e = length-append (identifier g.class g.number c) h.size in
    let f = size_some h.is_size in
    omega (arith, a, b, d, e, f)

pub never_empty : {g : Tag} {c : Bool} {k : ℕ} {x r o : List ℕ} → UnitAt g c k x r o → o ≡ [] → ⊥
never_empty u e = let l = unit_some u in let m = ap length e in omega arith

pub passing_same : (a : State) {k j : ℕ} {x y r s : List ℕ} → k ≡ j → x ≡ y → r ≡ s → passing a k x r ≡ passing a j y s
passing_same a {k} {j} {x} {y} {r} {s} e f g = ap (λ q. passing a q x r) e ∙ ap (λ q. passing a j q r) f ∙ ap (λ q. passing a j y q) g

opened_same : (a : State) {c d : Bool} {k j : ℕ} {x y r s : List ℕ} → c ≡ d → k ≡ j → x ≡ y → r ≡ s → opened_at a c k x r ≡ opened_at a d j y s
opened_same a {c} {d} {k} {j} {x} {y} {r} {s} b e f g = ap (λ q. opened_at a q k x r) b ∙ ap (λ q. opened_at a d q x r) e ∙ ap (λ q. opened_at a d j q r) f ∙ ap (λ q. opened_at a d j y q) g

module _ (headers : Headers) where
  pub unit_once : {g f : Tag} {c d : Bool} {k j : ℕ} {x y r s o : List ℕ} → UnitAt g c k x r o → UnitAt f d j y s o → SameUnit g f c d k j x y r s
  unit_once {g} {f} {c} {d} {k} {j} {x} {y} {r} {s} u v =
      let h = headers g f c d (length x) (length y) u.header v.header (x ++ r) (y ++ s) u.is_header v.is_header (sym u.whole ∙ v.whole) in
      let p = split_front x y r s h.2 h.4 in
      record { tags = h.0; forms = h.1; counts = sym u.long ∙ ap length h.3 ∙ v.long; contents = p.0; rests = p.1 }

  pub passes_once : {s : List Resolved} {ss : List Step} {e : Bool} {a b d : State} {f g : Option Field'} → Passes s ss e a f b → Passes s ss e a g d → (f ≡ g) × (b ≡ d)
  passes_once (at_end_of_contents p) (at_end_of_contents q) = (refl, refl)
  passes_once (at_end_of_contents p) (at_component u i) = absurd (never_empty u p)
  passes_once (at_end_of_contents p) (passes m u n l q) = absurd (never_empty u p)
  passes_once (at_component u i) (at_end_of_contents q) = absurd (never_empty u q)
  passes_once {s} {ss} (at_component {g = g} u i) (at_component {f = f} v j) =
      (ap (λ q. Some q) (found_once i (subst (λ q. IsFound s q ss f) (sym (unit_once u v).tags) j)), refl)
  passes_once {s} {ss} (at_component {f = f} u i) (passes m v n l q) =
      absurd (n f (subst (λ q. IsFound s q ss f) (unit_once u v).tags i))
  passes_once (passes m u n l q) (at_end_of_contents p) = absurd (never_empty u p)
  passes_once {s} {ss} (passes m u n l q) (at_component {f = f} v j) =
      absurd (n f (subst (λ q. IsFound s q ss f) (sym (unit_once u v).tags) j))
  passes_once {s} {ss} {e} {a} {b} {d} {f} {g} (passes m u n l q) (passes m' v n' l' q') =
      let w = unit_once u v in
      passes_once q (subst (λ z. Passes s ss e z g d) (sym (passing_same a w.counts w.contents w.rests)) q')

  begins_once : (a b c : State) (t : TypeId) → Begins a t b → Begins a t c → b ≡ c
  begins_once a b c t x y =
      let e : x.left ≡ y.left = (let i = x.has_budget in let j = y.has_budget in omega arith) in
      x.is ∙ ap (begun_at a t) e ∙ sym y.is

  ends_once : (a b c : State) → Ends a b → Ends a c → b ≡ c
  ends_once a b c x y = x.is ∙ ap (ended_at a) (snoc_same x.others y.others x.value y.value (sym x.is_open ∙ y.is_open)).0 ∙ sym y.is

  opens_once : (a b c : State) (h : Head) → Opens a h b → Opens a h c → b ≡ c
  opens_once a b c h x y =
      let w = unit_once x.unit y.unit in
      x.is ∙ opened_same a w.forms w.counts w.contents w.rests ∙ sym y.is

  closes_once : (a b c : State) → Closes a b → Closes a c → b ≡ c
  closes_once a b c x y =
      let w = snoc_same x.others y.others x.open_contents y.open_contents (sym x.is_open ∙ y.is_open) in
      x.is ∙ ap (λ q. closed_at a q x.others) w.1 ∙ ap (closed_at a y.open_contents) w.0 ∙ sym y.is

  skips_once : (a b c : State) → Skips a b → Skips a c → b ≡ c
  skips_once a b c x y =
      let w = snoc_same x.others y.others x.value y.value (sym x.is_open ∙ y.is_open) in
      (passes_once x.pass (subst (λ q. Passes a.schema (last_steps (routine_at a.schema q.index)) true a None c) (sym w.1) y.pass)).1

  next_or_not : (a b c : State) (f : Field') → IsNext a f b → IsAbsent a f c → ⊥
  next_or_not a b c f x y =
      ⊎_elim (λ e. never_empty x.unit e) (λ o. o.not_first (subst (λ g. First a.schema f.ty.index g) (unit_once x.unit o.unit).tags x.first)) y.next

  comes_once : (a b c : State) (f : Field') (p q : Bool) → FieldNext a f p b → FieldNext a f q c → (p ≡ q) × (b ≡ c)
  comes_once a b c f true true x y = (refl, x.is ∙ sym y.is)
  comes_once a b c f true false x y = absurd (next_or_not a b c f x y)
  comes_once a b c f false true x y = absurd (next_or_not a c b f y x)
  comes_once a b c f false false x y = (refl, x.is ∙ sym y.is)

  more_once : (a b c : State) (p q : Bool) → MoreNext a p b → MoreNext a q c → (p ≡ q) × (b ≡ c)
  more_once a b c true true x y = (refl, x.is ∙ sym y.is)
  more_once a b c true false x y = absurd (let l = ap length y.none in let m = x.some in omega arith)
  more_once a b c false true x y = absurd (let l = ap length x.none in let m = y.some in omega arith)
  more_once a b c false false x y = (refl, x.is ∙ sym y.is)

  among_once : (a b c : State) (ss : List Step) (t u : Option TypeId) → NextInSet a ss t b → NextInSet a ss u c → (t ≡ u) × (b ≡ c)
  among_once a b c ss (Some t) (Some u) x y =
      let w = passes_once x.pass y.pass in
      let e : x.field ≡ y.field = ap (or_field x.field) w.0 in (
        ap (λ q. Some q) (x.is_type ∙ ap (λ q. q.ty) e ∙ sym y.is_type),
        x.is ∙ ap (λ q. marked q x.field.place) w.1 ∙ ap (λ q. marked y.next q.place) e ∙ sym y.is,
      )
  among_once a b c ss (Some t) None x y = absurd (none_some (sym (passes_once x.pass y.pass).0))
  among_once a b c ss None (Some u) x y = absurd (none_some (passes_once x.pass y.pass).0)
  among_once a b c ss None None x y = (refl, (passes_once x.pass y.pass).1)

  picks_once : (a b c : State) (ss : List Step) (t u : TypeId) → Chooses a ss t b → Chooses a ss u c → (t ≡ u) × (b ≡ c)
  picks_once a b c ss t u x y =
      let w = chosen_once x.alternative (subst (λ q. IsChosen a.schema q ss y.index u) (sym (unit_once x.unit y.unit).tags) y.alternative) in
      (w.1, x.is ∙ ap (λ q. with_token a (chosen q)) w.0 ∙ sym y.is)

  pub lemma_one_answer : (a b c : State) (e f : Event) → Alike e f → Answers a e b → Answers a f c → (e ≡ f) × (b ≡ c)
  lemma_one_answer a b c e f (both_begin {t = t}) x y = (refl, begins_once a b c t x y)
  lemma_one_answer a b c e f both_end x y = (refl, ends_once a b c x y)
  lemma_one_answer a b c e f (both_open {h = h}) x y = (refl, opens_once a b c h x y)
  lemma_one_answer a b c e f both_close x y = (refl, closes_once a b c x y)
  lemma_one_answer a b c e f both_hold x y = (refl, x.is ∙ sym y.is)
  lemma_one_answer a b c e f both_skip x y = (refl, skips_once a b c x y)
  lemma_one_answer a b c e f (both_come {f = g} {b = p} {c = q}) x y = let r = comes_once a b c g p q x y in (ap (λ z. comes g z) r.0, r.1)
  lemma_one_answer a b c e f (both_more {t = t} {s = s} {b = p} {c = q}) x y = let r = more_once a b c p q x y in (ap (λ z. more t s z) r.0, r.1)
  lemma_one_answer a b c e f (both_among {ss = ss} {t = t} {u = u}) x y = let r = among_once a b c ss t u x y in (ap (λ z. among ss z) r.0, r.1)
  lemma_one_answer a b c e f (both_pick {ss = ss} {t = t} {u = u}) x y = let r = picks_once a b c ss t u x y in (ap (λ z. picks ss z) r.0, r.1)

  pub takes : (a b : State) (e : Event) → Answers a e b → Takes a e b
  takes a b e x = record { answer = x; only = λ f c k y. lemma_one_answer a b c e f k x y }
