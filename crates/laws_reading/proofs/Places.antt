-- What was read is at its place in the message.
use Rattle.std.proofs.Common.{arith, ◌≡◌, ℕ, ◌+◌, Bool, true, false, List, [], ◌∷◌, ◌++◌, length, refl, sym, ap, subst, ◌∙◌, append_assoc, length-append}
use Rattle.std.proofs.lemmas.List.{append-nil}
use Rattle.std.specs.Prelude.{Option, Some, None}
use Rattle.std.specs.List.{AllByRecursion}
use Rattle.asn_base.specs.declared.tag.Tag.{Tag}
use Rattle.asn_base.specs.declared.schema.TypeId.{TypeId}
use Rattle.asn_base.specs.Types.{Resolved}
use Rattle.codec_code.specs.declared.step.Field.{Field}
use Rattle.codec_code.specs.declared.step.Step.{Step}
use Rattle.codec_code.specs.Routines.{routine_at}
use Rattle.codec_source.specs.Events.{Event, begins, ends, opens, closes, holds, skips, comes, more, among, picks}
use Rattle.codec_source.specs.Reading.{Asks, head, ending, leaf, rest, left_out, field, component as component', no_component, element, no_element, sorted_element, no_sorted_element, pick, call, Does, finished, goes_on, reads, Reads}
use Rattle.octet_answers.specs.Units.{UnitAt}
use Rattle.octet_answers.specs.States.{State, OpenContents, Token, component, chosen, begun, ended, held, passed, front}
use Rattle.octet_answers.specs.Found.{Passes, at_end_of_contents, at_component, passes}
use Rattle.octet_answers.specs.Answers.{Answers, Takes, FieldNext, MoreNext, NextInSet}
use Rattle.laws_reading.specs.TokensShow.{IsSliceAt, AreSlicesOf}

-- octets that are left are in the message
abbrev pub Lies : List ℕ → OpenContents → Type 0
Lies m w = IsSliceAt m w.at w.octets

pub record Placed (m : List ℕ) (a : State) : Type 0 where
  pub here : Lies m a.here
  pub outer : AllByRecursion (Lies m) a.outer
  pub emitted : AreSlicesOf m a.emitted

slices_both : (m : List ℕ) (xs ys : List Token) → AreSlicesOf m xs → AreSlicesOf m ys → AreSlicesOf m (xs ++ ys)
slices_both m [] ys a b = b
slices_both m (held k c x at ∷ xs) ys a b = (a.0, slices_both m xs ys a.1 b)
slices_both m (component i ∷ xs) ys a b = slices_both m xs ys a b
slices_both m (chosen i ∷ xs) ys a b = slices_both m xs ys a b
slices_both m (begun t ∷ xs) ys a b = slices_both m xs ys a b
slices_both m (ended ∷ xs) ys a b = slices_both m xs ys a b
slices_both m (passed ∷ xs) ys a b = slices_both m xs ys a b

all_both : (m : List ℕ) (xs ys : List OpenContents) → AllByRecursion (Lies m) xs → AllByRecursion (Lies m) ys → AllByRecursion (Lies m) (xs ++ ys)
all_both m [] ys a b = b
all_both m (x ∷ xs) ys a b = (a.0, all_both m xs ys a.1 b)

all_front : (m : List ℕ) (xs ys : List OpenContents) → AllByRecursion (Lies m) (xs ++ ys) → AllByRecursion (Lies m) xs
all_front m [] ys a = tt
all_front m (x ∷ xs) ys a = (a.0, all_front m xs ys a.1)

all_back : (m : List ℕ) (xs ys : List OpenContents) → AllByRecursion (Lies m) (xs ++ ys) → AllByRecursion (Lies m) ys
all_back m [] ys a = a
all_back m (x ∷ xs) ys a = all_back m xs ys a.1

-- octets after others are in the message
pub further : {m : List ℕ} {at : ℕ} (h x : List ℕ) {o : List ℕ} → IsSliceAt m at o → o ≡ h ++ x → IsSliceAt m (at + length h) x
further h x s e = record {
  before = s.before ++ h;
  following = s.following;
  whole = s.whole ∙ ap (λ q. s.before ++ (q ++ s.following)) e ∙ ap (λ q. s.before ++ q) (append_assoc h x s.following) ∙ sym (append_assoc s.before h (x ++ s.following));
  place = (let a = length-append s.before h in let b = s.place in omega arith);
}

-- the first of them
nearer : {m : List ℕ} {at : ℕ} (x r : List ℕ) {o : List ℕ} → IsSliceAt m at o → o ≡ x ++ r → IsSliceAt m at x
nearer x r s e = record {
  before = s.before;
  following = r ++ s.following;
  whole = s.whole ∙ ap (λ q. s.before ++ (q ++ s.following)) e ∙ ap (λ q. s.before ++ q) (append_assoc x r s.following);
  place = s.place;
}

pub at_place : {m : List ℕ} {i j : ℕ} {x : List ℕ} → IsSliceAt m i x → i ≡ j → IsSliceAt m j x
at_place {m} {x = x} s e = subst (λ q. IsSliceAt m q x) e s

-- the contents at the front, and what follows them
inner_lies : {m : List ℕ} (w : OpenContents) {g : Tag} {c : Bool} {k : ℕ} {x r : List ℕ} → Lies m w → UnitAt g c k x r w.octets → IsSliceAt m (w.at + k) x
inner_lies w {x = x} {r = r} l u = at_place (nearer x r (further u.header (x ++ r) l u.whole) refl) (let e = u.long in omega arith)

pub after_lies : {m : List ℕ} (w : OpenContents) {g : Tag} {c : Bool} {k : ℕ} {x r : List ℕ} → Lies m w → UnitAt g c k x r w.octets → IsSliceAt m (w.at + (k + length x)) r
after_lies w {x = x} {r = r} l u = at_place (further x r (further u.header (x ++ r) l u.whole) refl) (let e = u.long in omega arith)

pub emitted_more : {m : List ℕ} {a : State} (t : Token) → Placed m a → AreSlicesOf m (t ∷ []) → AreSlicesOf m (a.emitted ++ t ∷ [])
emitted_more {m} {a} t p s = slices_both m a.emitted (t ∷ []) p.emitted s

pub passes_placed : {m : List ℕ} {s : List Resolved} {ss : List Step} {e : Bool} {a b : State} {f : Option Field} → Passes s ss e a f b → Placed m a → Placed m b
passes_placed (at_end_of_contents q) p = p
passes_placed (at_component u i) p = p
passes_placed {a = a} (passes e u n l q) p = passes_placed q (record { here = after_lies a.here p.here u; outer = p.outer; emitted = emitted_more {a = a} passed p tt })

placed_as : {m : List ℕ} {a b : State} → b ≡ a → Placed m a → Placed m b
placed_as {m} e p = subst (Placed m) (sym e) p

slices_placed : {m : List ℕ} (a b : State) (f : Field) (there : Bool) → FieldNext a f there b → Placed m a → Placed m b
slices_placed a b f true x p = placed_as x.is (record { here = p.here; outer = p.outer; emitted = emitted_more {a = a} (component f.place) p tt })
slices_placed a b f false x p = placed_as x.is p

more_placed : {m : List ℕ} (a b : State) (there : Bool) → MoreNext a there b → Placed m a → Placed m b
more_placed a b true x p = placed_as x.is p
more_placed a b false x p = placed_as x.is p

among_placed : {m : List ℕ} (a b : State) (ss : List Step) (t : Option TypeId) → NextInSet a ss t b → Placed m a → Placed m b
among_placed a b ss (Some t) x p = let q = passes_placed x.pass p in placed_as x.is (record { here = q.here; outer = q.outer; emitted = emitted_more {a = x.next} (component x.field.place) q tt })
among_placed a b ss None x p = passes_placed x.pass p

answered : {m : List ℕ} (a b : State) (e : Event) → Answers a e b → Placed m a → Placed m b
answered a b (begins t) x p = placed_as x.is (record { here = p.here; outer = p.outer; emitted = emitted_more {a = a} (begun t) p tt })
answered a b ends x p = placed_as x.is (record { here = p.here; outer = p.outer; emitted = emitted_more {a = a} ended p tt })
answered {m} a b (opens h) x p = placed_as x.is (record { here = inner_lies a.here p.here x.unit; outer = all_both m a.outer _ p.outer (after_lies a.here p.here x.unit, tt); emitted = p.emitted })
answered {m} a b closes x p =
    let o = subst (AllByRecursion (Lies m)) x.is_open p.outer in
    placed_as x.is (record { here = (all_back m x.others (x.open_contents ∷ []) o).0; outer = all_front m x.others (x.open_contents ∷ []) o; emitted = p.emitted })
answered a b (holds k) x p = placed_as x.is (record { here = further a.here.octets [] p.here (sym (append-nil a.here.octets)); outer = p.outer; emitted = emitted_more {a = a} (held k a.here.constructed a.here.octets a.here.at) p (p.here, tt) })
answered a b skips x p = passes_placed x.pass p
answered a b (comes f there) x p = slices_placed a b f there x p
answered a b (more t s there) x p = more_placed a b there x p
answered a b (among ss t) x p = among_placed a b ss t x p
answered a b (picks ss t) x p = placed_as x.is (record { here = p.here; outer = p.outer; emitted = emitted_more {a = a} (chosen x.index) p tt })

pub taken : {m : List ℕ} {a b : State} {e : Event} → Takes a e b → Placed m a → Placed m b
taken {a = a} {b = b} {e = e} x p = answered a b e x.answer p

pub asked : {m : List ℕ} {ss r : List Step} {t : Option TypeId} {x y : State} → Asks Takes ss x r t y → Placed m x → Placed m y
asked (head t) p = taken t p
asked (ending t) p = taken t p
asked (leaf t) p = taken t p
asked (rest t) p = taken t p
asked (left_out t) p = taken t p
asked (field t) p = taken t p
asked (component' t) p = taken t p
asked (no_component t) p = taken t p
asked (element t) p = taken t p
asked (no_element t) p = taken t p
asked (sorted_element t) p = taken t p
asked (no_sorted_element t) p = taken t p
asked (pick t) p = taken t p
asked call p = p

pub done : {m : List ℕ} {r : ℕ → List Step} {ss : List Step} {x z : State} → Does r Takes ss x z → Placed m x → Placed m z
done finished p = p
done (goes_on q d) p = done d (asked q p)
done (reads q g i e d) p = done d (taken e (done i (taken g (asked q p))))

pub places_emitted : (s : List Resolved) (t : TypeId) (o : List ℕ) (budget : ℕ) (z : State) → Reads (λ u. routine_at s u) Takes t (front s o budget) z → AreSlicesOf o z.emitted
places_emitted s t o budget z r =
    (taken r.ended (done r.done (taken r.begun (record {
      here = record { before = []; following = []; whole = sym (append-nil o); place = refl };
      outer = tt;
      emitted = tt;
    })))).emitted
