-- Ways to a value that begins, token by token.
use Rattle.std.proofs.Common.{arith, ◌≡◌, ℕ, suc, ◌+◌, ◌↔◌, IsTrue, Bool, true, false, List, [], ◌∷◌, ◌++◌, length, map, refl, sym, ap, subst, ◌∙◌}
use Rattle.std.proofs.lemmas.List.{map-append}
use Rattle.octet_answers.specs.States.{Token, component, chosen, begun, ended, held, passed}
use Rattle.ber_reader.specs.declared.open.OpenValue.{OpenValue}
use Rattle.ber_reader.specs.Opened.{on_last, entered, opens_after}
use Rattle.ber_reader.specs.Paths.{begun_in, on_path, Leads, BeginsBefore, leads_here, leads_on, none_begins}
use Rattle.ber_reader.proofs.Plain.{false_true, cons_nil, front_or, rest_of}
use Rattle.ber_reader.proofs.Opened.{on_last_one}

-- ---- the same open values

abbrev pub AreSame : List OpenValue → List OpenValue → Type 0
AreSame os ps = map on_path os ≡ map on_path ps

nil_length : {A : Type 0} (xs : List A) → length xs ≡ 0 → xs ≡ []
nil_length [] e = refl
nil_length (x ∷ xs) e = absurd (omega arith)

no_last : {A : Type 0} (xs : List A) (x : A) → xs ++ x ∷ [] ≡ [] → ⊥
no_last [] x e = cons_nil e
no_last (y ∷ xs) x e = cons_nil e

last_same : {A : Type 0} (xs ys : List A) (x y : A) → xs ++ x ∷ [] ≡ ys ++ y ∷ [] → (xs ≡ ys) × (x ≡ y)
last_same [] [] x y e = (refl, ap (front_or x) e)
last_same [] (b ∷ ys) x y e = absurd (no_last ys y (sym (ap rest_of e)))
last_same (a ∷ xs) [] x y e = absurd (no_last xs x (ap rest_of e))
last_same (a ∷ xs) (b ∷ ys) x y e =
    let r = last_same xs ys x y (ap rest_of e) in
    let h : a ≡ b = ap (front_or a) e in
    (ap (λ q. q ∷ xs) h ∙ ap (λ q. b ∷ q) r.0, r.1)

map_last : (xs : List OpenValue) (x : OpenValue) → map on_path (xs ++ x ∷ []) ≡ map on_path xs ++ on_path x ∷ []
map_last xs x = map-append on_path xs (x ∷ [])

-- none are none
pub none_same : (b : Bool) (os ps : List OpenValue) → length os ≡ 0 → (IsTrue b ↔ (ps ≡ [])) → IsTrue b ↔ AreSame os ps
none_same b os ps e h =
    (λ t. ap (map on_path) (nil_length os e ∙ sym (h.0 t)), λ a. h.1 (map_none ps (sym a ∙ ap (map on_path) (nil_length os e))))
  where
    map_none : (qs : List OpenValue) → map on_path qs ≡ [] → qs ≡ []
    map_none [] f = refl
    map_none (q ∷ qs) f = cons_nil f

-- lists of other lengths are others
pub other_lengths : (b : Bool) (os ps : List OpenValue) → b ≡ false → (length os ≡ length ps → ⊥) → IsTrue b ↔ AreSame os ps
other_lengths b os ps e n = (λ t. false_true (sym e ∙ t), λ a. absurd (n (lengths os ps a)))
  where
    lengths : (xs ys : List OpenValue) → map on_path xs ≡ map on_path ys → length xs ≡ length ys
    lengths [] [] a = refl
    lengths [] (y ∷ ys) a = cons_nil (sym a)
    lengths (x ∷ xs) [] a = cons_nil a
    lengths (x ∷ xs) (y ∷ ys) a = ap suc (lengths xs ys (ap rest_of a))

-- the last ones are others
pub other_last : (b : Bool) (all path os ps : List OpenValue) (o p : OpenValue) → all ≡ os ++ o ∷ [] → path ≡ ps ++ p ∷ [] → b ≡ false → (on_path o ≡ on_path p → ⊥) → IsTrue b ↔ AreSame all path
other_last b all path os ps o p e f g n =
    (λ t. false_true (sym g ∙ t), λ a. absurd (n (last_same (map on_path os) (map on_path ps) (on_path o) (on_path p) (sym (map_last os o) ∙ ap (map on_path) (sym e) ∙ a ∙ ap (map on_path) f ∙ map_last ps p)).1))

-- the last ones are the same
pub same_last : (b : Bool) (all path os ps : List OpenValue) (o p : OpenValue) → all ≡ os ++ o ∷ [] → path ≡ ps ++ p ∷ [] → on_path o ≡ on_path p → (IsTrue b ↔ AreSame os ps) → IsTrue b ↔ AreSame all path
same_last b all path os ps o p e f g h = (
  λ t. ap (map on_path) e ∙ map_last os o ∙ ap (λ q. q ++ on_path o ∷ []) (h.0 t) ∙ ap (λ q. map on_path ps ++ q ∷ []) g ∙ sym (map_last ps p) ∙ ap (map on_path) (sym f),
  λ a. h.1 (last_same (map on_path os) (map on_path ps) (on_path o) (on_path p) (sym (map_last os o) ∙ ap (map on_path) (sym e) ∙ a ∙ ap (map on_path) f ∙ map_last ps p)).0,
)

-- ---- the value to which a way leads

pub entered_last : (all os : List OpenValue) (o : OpenValue) → all ≡ os ++ o ∷ [] → on_last entered all ≡ os ++ entered o ∷ []
entered_last all os o e = ap (on_last entered) e ∙ on_last_one entered os o

pub on_last_length : (f : OpenValue → OpenValue) (os : List OpenValue) → length (on_last f os) ≡ length os
on_last_length f [] = refl
on_last_length f (o ∷ []) = refl
on_last_length f (o ∷ p ∷ os) = ap suc (on_last_length f (p ∷ os))

pub no_path : (b : Bool) (path os : List OpenValue) → b ≡ false → (length os ≡ length path → ⊥) → IsTrue b ↔ Leads path os
no_path b path os e n = other_lengths b (on_last entered os) path e (λ f. n (sym (on_last_length entered os) ∙ f))

pub path_of_none : (b : Bool) (path os : List OpenValue) → b ≡ true → length os ≡ 0 → length os ≡ length path → IsTrue b ↔ Leads path os
path_of_none b path os t e f = (λ u. ap (λ q. map on_path (on_last entered q)) (nil_length os e) ∙ ap (map on_path) (sym (nil_length path (sym f ∙ e))), λ a. t)

-- ---- token by token

abbrev pub IsReached : List OpenValue → Token → List OpenValue → Type 0
IsReached os t path = (begun_in (t ∷ []) ≡ 1) × Leads path os

zero_one : {A : Type 0} → ◌≡◌ {A = ℕ} 0 1 → A
zero_one e = absurd (omega arith)

pub reached : {path os : List OpenValue} {ts : List Token} (t : Token) → IsReached os t path → BeginsBefore path os (t ∷ ts) 0
reached (begun u) r = leads_here r.1
reached (component i) r = zero_one r.0
reached (chosen i) r = zero_one r.0
reached ended r = zero_one r.0
reached (held k c x at) r = zero_one r.0
reached passed r = zero_one r.0

pub stepped : {path os : List OpenValue} {ts : List Token} {n : ℕ} (t : Token) → (IsReached os t path → ⊥) → BeginsBefore path (opens_after os t) ts n → BeginsBefore path os (t ∷ ts) (begun_in (t ∷ []) + n)
stepped {path} {os} {ts} {n} (begun u) r h = let e : suc n ≡ suc 0 + n = omega arith in subst (BeginsBefore path os (begun u ∷ ts)) e (leads_on (λ l. r (refl, l)) h)
stepped {path} {os} {ts} {n} (component i) r h = let e : n ≡ 0 + n = omega arith in subst (BeginsBefore path os (component i ∷ ts)) e (none_begins refl h)
stepped {path} {os} {ts} {n} (chosen i) r h = let e : n ≡ 0 + n = omega arith in subst (BeginsBefore path os (chosen i ∷ ts)) e (none_begins refl h)
stepped {path} {os} {ts} {n} ended r h = let e : n ≡ 0 + n = omega arith in subst (BeginsBefore path os (ended ∷ ts)) e (none_begins refl h)
stepped {path} {os} {ts} {n} (held k c x at) r h = let e : n ≡ 0 + n = omega arith in subst (BeginsBefore path os (held k c x at ∷ ts)) e (none_begins refl h)
stepped {path} {os} {ts} {n} passed r h = let e : n ≡ 0 + n = omega arith in subst (BeginsBefore path os (passed ∷ ts)) e (none_begins refl h)
