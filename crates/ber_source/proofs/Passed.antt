-- Additions that are passed, step by step.
use Rattle.std.proofs.Common.{◌≡◌, ℕ, ◌<◌, Bool, true, List, [], length, refl, sym, ap, subst, ◌∙◌}
use Rattle.std.specs.Prelude.{Option, Some, None}
use Rattle.asn_base.specs.declared.tag.Tag.{Tag}
use Rattle.asn_base.specs.Types.{Resolved}
use Rattle.codec_code.specs.declared.step.Field.{Field}
use Rattle.codec_code.specs.declared.step.Step.{Step}
use Rattle.octet_answers.specs.Units.{UnitAt}
use Rattle.octet_answers.specs.States.{State, passing}
use Rattle.octet_answers.specs.Found.{IsFound, found, not_yet, Passes, at_end_of_contents, at_component, passes}
use Rattle.ber_source.proofs.Asked.{NoUnit, OneUnit, not_none}

pub some_same : {A : Type 0} {x y : A} → Some x ≡ Some y → x ≡ y
some_same e = cc

found_once : {s : List Resolved} {g : Tag} {ss : List Step} {f e : Field} → IsFound s g ss f → IsFound s g ss e → f ≡ e
found_once (found {f = f} i a) (found {f = e} j b) = some_same (sym i ∙ j)
found_once (found {f = f} i a) (not_yet n b) = absurd (n (f, i, a))
found_once (not_yet n a) (found {f = e} j b) = absurd (n (e, j, b))
found_once (not_yet n a) (not_yet m b) = found_once a b

passing_same : (a : State) {k j : ℕ} {x y r s : List ℕ}
    → k ≡ j
    → x ≡ y
    → r ≡ s
    → passing a k x r ≡ passing a j y s
passing_same a {k} {j} {x} {y} {r} {s} e f g =
    ap (λ q. passing a q x r) e ∙ ap (λ q. passing a j q r) f ∙ ap (λ q. passing a j y q) g

-- two ways to pass end alike
abbrev pub IsAlone : List Resolved → List Step → Bool → State → Option Field → Type 0
IsAlone s ss e a f = (g : Option Field) (b : State) → Passes s ss e a g b → (g ≡ f) × (b ≡ a)

abbrev pub IsNone : List Resolved → List Step → Bool → State → Type 0
IsNone s ss e a = (f : Option Field) (b : State) → Passes s ss e a f b → ⊥

empty : {g : Tag} {c : Bool} {k : ℕ} {x r o : List ℕ} → NoUnit [] → UnitAt g c k x r o → o ≡ [] → ⊥
empty {g} {c} {k} {x} {r} none u p = none g c k x r (subst (λ q. UnitAt g c k x r q) p u)

pub at_end_alone : {s : List Resolved} {ss : List Step} {e : Bool} {a b : State} {g : Option Field}
    → NoUnit []
    → a.here.octets ≡ []
    → Passes s ss e a g b
    → (g ≡ None) × (b ≡ a)
at_end_alone none p (at_end_of_contents q) = (refl, refl)
at_end_alone none p (at_component u i) = absurd (empty none u p)
at_end_alone none p (passes m u n l q) = absurd (empty none u p)

pub component_alone : {s : List Resolved} {ss : List Step} {e : Bool} {a b : State} {h : Option Field}
    {g : Tag} {c : Bool} {k : ℕ} {x r : List ℕ} {f : Field}
    → NoUnit []
    → OneUnit
    → UnitAt g c k x r a.here.octets
    → IsFound s g ss f
    → Passes s ss e a h b
    → (h ≡ Some f) × (b ≡ a)
component_alone none one u i (at_end_of_contents q) = absurd (empty none u q)
component_alone {s} {ss} {e} {a} {b} {h} {g} {c} {k} {x} {r} {f} none one u i (at_component {g = h'} {c = d} {k = j} {x = y} {rest = t} {f = f'} v w) =
    let z = one g h' c d k j x y r t a.here.octets u v in
    (ap (λ q. Some q) (found_once (subst (λ q. IsFound s q ss f') (sym z.0) w) i), refl)
component_alone {s} {ss} {e} {a} {b} {h} {g} {c} {k} {x} {r} {f} none one u i (passes {g = h'} {c = d} {k = j} {x = y} {rest = t} m v n l q) =
    let z = one g h' c d k j x y r t a.here.octets u v in
    absurd (n f (subst (λ p. IsFound s p ss f) z.0 i))

-- no encoding comes next, although there are octets
pub no_unit_none : {s : List Resolved} {ss : List Step} {e : Bool} {a b : State} {f : Option Field}
    → NoUnit a.here.octets
    → 0 < length a.here.octets
    → Passes s ss e a f b
    → ⊥
no_unit_none none l (at_end_of_contents q) = not_none l q
no_unit_none none l (at_component {g = g} {c = c} {k = k} {x = x} {rest = r} u i) = none g c k x r u
no_unit_none none l (passes {g = g} {c = c} {k = k} {x = x} {rest = r} m u n z q) = none g c k x r u

-- the state after an addition, which is passed in an extensible type within the levels
pub record Behind (s : List Resolved) (ss : List Step) (e : Bool) (a : State) (k : ℕ) (x r : List ℕ) (f : Option Field) (b : State) : Type 0 where
  pub extensible : e ≡ true
  pub few_levels : length a.outer < 400
  pub following : Passes s ss e (passing a k x r) f b

pub must_pass : {s : List Resolved} {ss : List Step} {e : Bool} {a b : State} {f : Option Field}
    {g : Tag} {c : Bool} {k : ℕ} {x r : List ℕ}
    → NoUnit []
    → OneUnit
    → UnitAt g c k x r a.here.octets
    → ((h : Field) → IsFound s g ss h → ⊥)
    → Passes s ss e a f b
    → Behind s ss e a k x r f b
must_pass none one u n (at_end_of_contents q) = absurd (empty none u q)
must_pass {s} {ss} {e} {a} {b} {f} {g} {c} {k} {x} {r} none one u n (at_component {g = h} {c = d} {k = j} {x = y} {rest = t} {f = f'} v w) =
    let z = one g h c d k j x y r t a.here.octets u v in
    absurd (n f' (subst (λ q. IsFound s q ss f') (sym z.0) w))
must_pass {s} {ss} {e} {a} {b} {f} {g} {c} {k} {x} {r} none one u n (passes {g = h} {c = d} {k = j} {x = y} {rest = t} m v o l q) =
    let z = one g h c d k j x y r t a.here.octets u v in
    record {
      extensible = m;
      few_levels = l;
      following = subst (λ p. Passes s ss e p f b) (sym (passing_same a z.2 z.3 z.4)) q;
    }
