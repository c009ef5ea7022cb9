-- Additions that the type lacks.
use Rattle.std.proofs.Common.{arith, ◌≡◌, ℕ, zero, suc, ◌+◌, ◌<◌, ◌≤◌, Bool, true, false, cond, List, [], ◌∷◌, ◌++◌, length, refl, sym, ap, subst, ◌∙◌, append_assoc}
use Rattle.std.proofs.lemmas.List.{append-nil}
use Rattle.std.specs.Prelude.{Option, Some, None, not, ◌||◌, replicate}
use Rattle.std.specs.List.{concat, AllByRecursion}
use Rattle.std.specs.Int.Digits.{AllBelowBase}
use Rattle.asn_base.specs.declared.tag.Tag.{Tag}
use Rattle.asn_base.specs.Tags.{First, is_mandatory}
use Rattle.asn_base.specs.Types.{Component, Presence, mandatory, optional, default, addition, Resolved}
use Rattle.encodings.specs.Encoding.{Unknown, no_unknown, unknown, UnknownIf, closed, extensible, any_mandatory, last_run}
use Rattle.encodings.specs.Levels.{unknown_levels}
use Rattle.codec_code.specs.declared.step.RowKind.{RowKind}
use Rattle.codec_code.specs.declared.step.Field.{Field as Field'}
use Rattle.codec_code.specs.declared.step.Step.{Step}
use Rattle.codec_code.specs.declared.step.Step.TheVariants.{Field}
use Rattle.codec_code.specs.Routines.{heads, field_of, fields_from, need_of, rest_if, ends}
use Rattle.codec_code.specs.Steps.{may_be_absent}
use Rattle.octet_answers.specs.Units.{UnitAt}
use Rattle.octet_answers.specs.States.{State, passing, passed}
use Rattle.octet_answers.specs.Found.{IsFound, found, not_yet, must_be_present, last_from, last_steps, Passes, at_end_of_contents, at_component, passes}
use Rattle.laws_reading.proofs.Along.{Along, stays, both, unit_ends, emitted_both, below_after, below_contents}

abbrev pub NoneFound : List Resolved → Tag → List Step → Type 0
NoneFound s g ss = (f : Field') → IsFound s g ss f → ⊥

abbrev pub NoneFirst : List Resolved → Tag → List Component → Type 0
NoneFirst s g cs = AllByRecursion (λ m. First s m.type g → ⊥) cs

pub record Skipped (s : List Resolved) (known : List Component) (e : Bool) (a b : State) : Type 0 where
  pub count : ℕ
  pub encodings : List (List ℕ)
  pub unknown : Unknown s known count encodings
  pub along : Along a b (concat encodings)
  pub marks : b.marks ≡ a.marks
  pub emitted : b.emitted ≡ a.emitted ++ replicate count passed
  pub few : 1 ≤ length encodings → length a.outer < 400
  pub only : 1 ≤ length encodings → e ≡ true

skipping : {g : Tag} {c : Bool} {k : ℕ} {x rest : List ℕ} (a : State) → (u : UnitAt g c k x rest a.here.octets) → Along a (passing a k x rest) (u.header ++ x)
skipping {x = x} {rest = rest} a u = record {
  octets = u.whole ∙ sym (append_assoc u.header x rest);
  form = refl;
  from = refl;
  outer = refl;
  values = refl;
  schema = refl;
  ends = unit_ends a.here.at u;
}

pub skipped : {s : List Resolved} {ss : List Step} {e : Bool} {a b : State} {f : Option Field'} (known : List Component) → ((g : Tag) → NoneFound s g ss → NoneFirst s g known) → AllBelowBase 256 a.here.octets → Passes s ss e a f b → Skipped s known e a b
skipped {a = a} known none below (at_end_of_contents q) = record { count = 0; encodings = []; unknown = no_unknown; along = stays a a refl refl refl refl; marks = refl; emitted = sym (append-nil a.emitted); few = λ l. absurd (omega arith); only = λ l. absurd (omega arith) }
skipped {a = a} known none below (at_component u i) = record { count = 0; encodings = []; unknown = no_unknown; along = stays a a refl refl refl refl; marks = refl; emitted = sym (append-nil a.emitted); few = λ l. absurd (omega arith); only = λ l. absurd (omega arith) }
skipped {a = a} known none below (passes {g = g} {k = k} {x = x} {rest = rest} q u n l p) =
    let al = skipping a u in
    let r = skipped known none (below_after al below) p in
    record {
      count = suc r.count;
      encodings = (u.header ++ x) ∷ r.encodings;
      unknown = unknown x u.is_header (below_contents u below) (none g n) r.unknown;
      along = both al r.along;
      marks = r.marks;
      emitted = emitted_both a.emitted (passed ∷ []) (replicate r.count passed) refl r.emitted;
      few = λ m. l;
      only = λ m. q;
    }

pub none_left : {s : List Resolved} {ss : List Step} {e : Bool} {a b : State} → Passes s ss e a None b → b.here.octets ≡ []
none_left (at_end_of_contents q) = q
none_left (passes q u n l p) = none_left p

pub record NextFound (s : List Resolved) (ss : List Step) (f : Field') : Type 0 where
  pub tag : Tag
  pub is_found : IsFound s tag ss f

pub next_found : {s : List Resolved} {ss : List Step} {e : Bool} {a b : State} {f : Field'} → Passes s ss e a (Some f) b → NextFound s ss f
next_found (at_component {g = g} u i) = record { tag = g; is_found = i }
next_found (passes q u n l p) = next_found p

pub record UnknownRead (s : List Resolved) (known : List Component) (e : Bool) (a b : State) : Type 0 where
  pub count : ℕ
  pub encodings : List (List ℕ)
  pub unknown : UnknownIf s known e count encodings
  pub few : unknown_levels unknown + length a.outer ≤ 400
  pub along : Along a b (concat encodings)
  pub marks : b.marks ≡ a.marks
  pub emitted : b.emitted ≡ a.emitted ++ replicate count passed

pub unknown_of : {s : List Resolved} {known : List Component} {n : ℕ} {xs : List (List ℕ)} (e : Bool) (d : ℕ) → Unknown s known n xs → (1 ≤ length xs → e ≡ true) → (1 ≤ length xs → d < 400) → d ≤ 400 → (w : UnknownIf s known e n xs) × (unknown_levels w + d ≤ 400)
unknown_of true d no_unknown o f l = (extensible no_unknown, omega arith)
unknown_of true d (unknown x h b g u) o f l = (extensible (unknown x h b g u), let m = f (omega arith) in omega arith)
unknown_of false d no_unknown o f l = (closed, omega arith)
unknown_of false d (unknown x h b g u) o f l = absurd (let q = o (omega arith) in cc)

pub unknown_read : {s : List Resolved} {known : List Component} {e : Bool} {a b : State} → length a.outer ≤ 400 → Skipped s known e a b → UnknownRead s known e a b
unknown_read {e = e} {a = a} l r =
    let w = unknown_of e (length a.outer) r.unknown r.only r.few l in
    record { count = r.count; encodings = r.encodings; unknown = w.0; few = w.1; along = r.along; marks = r.marks; emitted = r.emitted }

pub nothing_unknown : {s : List Resolved} (known : List Component) (a : State) → length a.outer ≤ 400 → UnknownRead s known false a a
nothing_unknown known a l = record { count = 0; encodings = []; unknown = closed; few = omega arith; along = stays a a refl refl refl refl; marks = refl; emitted = sym (append-nil a.emitted) }

-- ---- the components after the last one that must be present

pub need_is : (p : Presence) → may_be_absent (need_of p) ≡ not (elim p [ mandatory ↦ true | optional ↦ false | default d ↦ false | addition o g ↦ false ])
need_is mandatory = refl
need_is optional = refl
need_is (default d) = refl
need_is (addition o g) = refl

twice : (b : Bool) → not (not b) ≡ b
twice true = refl
twice false = refl

not_true : (b : Bool) → not b ≡ true → b ≡ false
not_true true e = absurd (let f : false ≡ true = e in cc)
not_true false e = refl

pub may_lack : (c : Component) → may_be_absent (need_of c.presence) ≡ true → is_mandatory c ≡ false
may_lack c e = not_true (is_mandatory c) (sym (need_is c.presence) ∙ e)

pub must_not_lack : (c : Component) → is_mandatory c ≡ true → may_be_absent (need_of c.presence) ≡ false
must_not_lack c e = need_is c.presence ∙ ap not e

must_is : (i : ℕ) (c : Component) → must_be_present (Field (field_of i c)) ≡ is_mandatory c
must_is i c = ap not (need_is c.presence) ∙ twice (is_mandatory c)

abbrev pub NoneMust : List Step → Type 0
NoneMust tail = (others : List Step) → last_from others tail ≡ others

pub ends_plain : (n : ℕ) → NoneMust (ends n)
ends_plain zero others = refl
ends_plain (suc n) others = ends_plain n others

pub tail_plain : (e : Bool) (n : ℕ) → NoneMust (rest_if e ++ ends n)
tail_plain false n others = ends_plain n others
tail_plain true n others = ends_plain n others

or_false : (m t : Bool) → (m || t) ≡ false → (m ≡ false) × (t ≡ false)
or_false true t e = absurd (let f : true ≡ false = e in cc)
or_false false t e = (refl, e)

pub none_must : (cs : List Component) (i : ℕ) (others tail : List Step) → NoneMust tail → any_mandatory cs ≡ false → last_from others (fields_from i cs ++ tail) ≡ others
none_must [] i others tail p e = p others
none_must (c ∷ cs) i others tail p e =
    let h = or_false (is_mandatory c) (any_mandatory cs) e in
    let ss = fields_from (suc i) cs ++ tail in
    ap (λ q. cond q (last_from ss ss) (last_from others ss)) (must_is i c ∙ h.0) ∙ none_must cs (suc i) others tail p h.1

pub all_last : (cs : List Component) → any_mandatory cs ≡ false → last_run cs ≡ cs
all_last [] e = refl
all_last (c ∷ cs) e =
    let h = or_false (is_mandatory c) (any_mandatory cs) e in
    ap (λ q. cond q (last_run cs) (cond (is_mandatory c) cs (c ∷ cs))) h.1 ∙ ap (λ q. cond q cs (c ∷ cs)) h.0

pub some_must : (cs : List Component) (i : ℕ) (others tail : List Step) → NoneMust tail → any_mandatory cs ≡ true → (j : ℕ) × (last_from others (fields_from i cs ++ tail) ≡ fields_from j (last_run cs) ++ tail)
some_must [] i others tail p e = absurd (let f : false ≡ true = e in cc)
some_must (c ∷ cs) i others tail p e = by (is_mandatory c) (any_mandatory cs) refl refl (λ o g. some_must cs (suc i) o tail p g)
  where
    step : (m : Bool) → is_mandatory c ≡ m → last_from others (fields_from i (c ∷ cs) ++ tail) ≡ cond m (last_from (fields_from (suc i) cs ++ tail) (fields_from (suc i) cs ++ tail)) (last_from others (fields_from (suc i) cs ++ tail))
    step m f = ap (λ q. cond q (last_from (fields_from (suc i) cs ++ tail) (fields_from (suc i) cs ++ tail)) (last_from others (fields_from (suc i) cs ++ tail))) (must_is i c ∙ f)

    runs : (m t : Bool) → is_mandatory c ≡ m → any_mandatory cs ≡ t → cond t (last_run cs) (cond m cs (c ∷ cs)) ≡ last_run (c ∷ cs)
    runs m t f g = sym (ap (λ q. cond q (last_run cs) (cond (is_mandatory c) cs (c ∷ cs))) g ∙ ap (λ q. cond t (last_run cs) (cond q cs (c ∷ cs))) f)

    by : (m t : Bool) → is_mandatory c ≡ m → any_mandatory cs ≡ t → ((o : List Step) → any_mandatory cs ≡ true → (j : ℕ) × (last_from o (fields_from (suc i) cs ++ tail) ≡ fields_from j (last_run cs) ++ tail)) → (j : ℕ) × (last_from others (fields_from i (c ∷ cs) ++ tail) ≡ fields_from j (last_run (c ∷ cs)) ++ tail)
    by true true f g h =
        let r = h (fields_from (suc i) cs ++ tail) g in
        (r.0, step true f ∙ r.1 ∙ ap (λ q. fields_from r.0 q ++ tail) (runs true true f g))
    by false true f g h =
        let r = h others g in
        (r.0, step false f ∙ r.1 ∙ ap (λ q. fields_from r.0 q ++ tail) (runs false true f g))
    by true false f g h =
        (suc i, step true f ∙ none_must cs (suc i) (fields_from (suc i) cs ++ tail) tail p g ∙ ap (λ q. fields_from (suc i) q ++ tail) (runs true false f g))
    by false false f g h = absurd (let z : false ≡ true = sym (ap (λ q. q || any_mandatory cs) f ∙ g) ∙ e in cc)

none_some : {A : Type 0} {x : A} → None ≡ Some x → ⊥
none_some e = cc

pub heads_last : (gs : List Tag) (k : RowKind) (others tail : List Step) → last_from others (heads gs k ++ tail) ≡ last_from others tail
heads_last [] k others tail = refl
heads_last (g ∷ []) k others tail = refl
heads_last (g ∷ f ∷ gs) k others tail = heads_last (f ∷ gs) k others tail

pub none_heads : {s : List Resolved} {g : Tag} (gs : List Tag) (k : RowKind) (tail : List Step) → NoneFound s g (heads gs k ++ tail) → NoneFound s g tail
none_heads [] k tail n = n
none_heads (h ∷ []) k tail n = λ f i. n f (not_yet (λ b. none_some b.1) i)
none_heads (h ∷ f ∷ gs) k tail n = none_heads (f ∷ gs) k tail (λ e i. n e (not_yet (λ b. none_some b.1) i))

pub none_fields : {s : List Resolved} {g : Tag} (i : ℕ) (cs : List Component) (tail : List Step) → NoneFound s g (fields_from i cs ++ tail) → NoneFirst s g cs
none_fields i [] tail n = tt
none_fields i (c ∷ cs) tail n = (
  λ f. n (field_of i c) (found refl f),
  none_fields (suc i) cs tail (λ e j. n e (not_yet (λ b. n b.0 (found b.1 b.2)) j)),
)

-- if no step after the last component that must be present begins with a tag, none of the last components does
pub none_last : {s : List Resolved} {g : Tag} (gs : List Tag) (k : RowKind) (cs : List Component) (tail : List Step) → NoneMust tail → NoneFound s g (last_steps (heads gs k ++ (fields_from 0 cs ++ tail))) → NoneFirst s g (last_run cs)
none_last {s} {g} gs k cs tail p n = by (any_mandatory cs) refl
  where
    by : (t : Bool) → any_mandatory cs ≡ t → NoneFirst s g (last_run cs)
    by true e =
        let all = heads gs k ++ (fields_from 0 cs ++ tail) in
        let r = some_must cs 0 all tail p e in
        none_fields r.0 (last_run cs) tail (subst (NoneFound s g) (heads_last gs k all (fields_from 0 cs ++ tail) ∙ r.1) n)
    by false e =
        let all = heads gs k ++ (fields_from 0 cs ++ tail) in
        let f = heads_last gs k all (fields_from 0 cs ++ tail) ∙ none_must cs 0 all tail p e in
        subst (NoneFirst s g) (sym (all_last cs e)) (none_fields 0 cs tail (none_heads gs k (fields_from 0 cs ++ tail) (subst (NoneFound s g) f n)))
