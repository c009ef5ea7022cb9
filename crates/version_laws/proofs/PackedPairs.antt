-- Members and additions of two values side by side, and additions of the second one after them.
use Rattle.std.proofs.Common.{arith, ◌≡◌, ℕ, suc, ◌+◌, Bool, true, false, cond, List, [], ◌∷◌, refl, sym, ap, subst, ◌∙◌}
use Rattle.std.specs.Prelude.{Option, Some, None, ◌==◌}
use Rattle.asn_base.specs.Abstract.{AbstractValue, Row}
use Rattle.asn_base.specs.Types.{Component, Resolved}
use Rattle.asn_base.specs.Typed.{group_of}
use Rattle.asn_base.specs.Schemas.{is_addition}
use Rattle.asn_base.specs.Order.{tag_at, both_before, precedes}
use Rattle.packed_encodings.specs.Orders.{Member, missing, standing, component, any_present, Beside, beside_none, beside_absent, beside_present, root_members, past_marker, placed_by_tag, canonical, Addition, alone, bracketed, is_of_group, in_front, additions}
use Rattle.version_laws.specs.LeftOut.{present_additions}

abbrev pub OfComponents : Type 1
OfComponents = Component → Component → Type 0

abbrev pub OfValues : Type 1
OfValues = Component → Component → AbstractValue → AbstractValue → ℕ → Type 0

-- both members are absent, or both are present, with values of which V holds for the number k
pub data Matched (C : OfComponents) (V : OfValues) : Member AbstractValue → Member AbstractValue → ℕ → Type 0 where
  both_missing : {c d : Component} → C c d → Matched C V (missing c) (missing d) 0
  both_sides_present : {c d : Component} {v w : AbstractValue} {k : ℕ} → C c d → V c d v w k → Matched C V (standing c v) (standing d w) k

-- the members are matched one by one, and k is the sum of their numbers
pub data AllMatched (C : OfComponents) (V : OfValues) : List (Member AbstractValue) → List (Member AbstractValue) → ℕ → Type 0 where
  none_matched : {k : ℕ} → k ≡ 0 → AllMatched C V [] [] k
  more_matched : {m n : Member AbstractValue} {ms ns : List (Member AbstractValue)} {i j k : ℕ}
      → Matched C V m n i
      → AllMatched C V ms ns j
      → k ≡ i + j
      → AllMatched C V (m ∷ ms) (n ∷ ns) k

-- the second additions begin with those that are matched, and the third ones follow
pub data AdditionsMatched (C : OfComponents) (V : OfValues) : List (Addition AbstractValue) → List (Addition AbstractValue) → List (Addition AbstractValue) → ℕ → Type 0 where
  only_more : {bs : List (Addition AbstractValue)} {k : ℕ} → k ≡ 0 → AdditionsMatched C V [] bs bs k
  both_alone : {m n : Member AbstractValue} {ds es bs : List (Addition AbstractValue)} {i j k : ℕ}
      → Matched C V m n i
      → AdditionsMatched C V ds es bs j
      → k ≡ i + j
      → AdditionsMatched C V (alone m ∷ ds) (alone n ∷ es) bs k
  both_bracketed : {ms ns : List (Member AbstractValue)} {ds es bs : List (Addition AbstractValue)} {i j k : ℕ}
      → AllMatched C V ms ns i
      → AdditionsMatched C V ds es bs j
      → k ≡ i + j
      → AdditionsMatched C V (bracketed ms ∷ ds) (bracketed ns ∷ es) bs k

-- ---- the canonical order

one_tag : {C : OfComponents} {V : OfValues} (s s' : List Resolved) → ((c d : Component) → C c d → tag_at s c.type ≡ tag_at s' d.type)
    → {m n : Member AbstractValue} {k : ℕ} → Matched C V m n k → tag_at s (component m).type ≡ tag_at s' (component n).type
one_tag s s' tags (both_missing {c = c} {d = d} a) = tags c d a
one_tag s s' tags (both_sides_present {c = c} {d = d} a v) = tags c d a

module _ {C : OfComponents} {V : OfValues} (s s' : List Resolved) (tags : (c d : Component) → C c d → tag_at s c.type ≡ tag_at s' d.type) where
  before_same : {m n x y : Member AbstractValue} {j k : ℕ} → Matched C V m n j → Matched C V x y k → precedes s (component x).type (component m).type ≡ precedes s' (component y).type (component n).type
  before_same {m} {n} {x} {y} a b =
      ap (λ q. both_before q (tag_at s (component m).type)) (one_tag s s' tags b) ∙ ap (λ q. both_before (tag_at s' (component y).type) q) (one_tag s s' tags a)

  placed_matched : {m n : Member AbstractValue} {ms ns : List (Member AbstractValue)} {i j k : ℕ} → Matched C V m n i → AllMatched C V ms ns j → k ≡ i + j → AllMatched C V (placed_by_tag s m ms) (placed_by_tag s' n ns) k
  placed_matched a (none_matched z) e = more_matched a (none_matched z) e
  placed_matched {m} {n} {i = i} {j = j} {k = k} a (more_matched {m = x} {n = y} {ms = ms} {ns = ns} {i = i'} {j = j'} b p f) e =
      by (precedes s (component x).type (component m).type) (precedes s' (component y).type (component n).type) (before_same a b) (placed_matched {k = i + j'} a p refl)
    where
      by : (t u : Bool) → t ≡ u → AllMatched C V (placed_by_tag s m ms) (placed_by_tag s' n ns) (i + j') → AllMatched C V (cond t (x ∷ placed_by_tag s m ms) (m ∷ (x ∷ ms))) (cond u (y ∷ placed_by_tag s' n ns) (n ∷ (y ∷ ns))) k
      by true true g r = more_matched b r (omega (arith, e, f))
      by true false g r = absurd (cc)
      by false true g r = absurd (cc)
      by false false g r = more_matched a (more_matched b p f) e

  pub canonical_matched : {ms ns : List (Member AbstractValue)} {k : ℕ} → AllMatched C V ms ns k → AllMatched C V (canonical s ms) (canonical s' ns) k
  canonical_matched (none_matched z) = none_matched z
  canonical_matched (more_matched a p e) = placed_matched a (canonical_matched p) e

-- ---- what is present

pub any_same : {C : OfComponents} {V : OfValues} {ms ns : List (Member AbstractValue)} {k : ℕ} → AllMatched C V ms ns k → any_present ms ≡ any_present ns
any_same (none_matched z) = refl
any_same (more_matched (both_missing a) p e) = any_same p
any_same (more_matched (both_sides_present a v) p e) = refl

pub none_there : {C : OfComponents} {V : OfValues} {ms ns : List (Member AbstractValue)} {k : ℕ} → AllMatched C V ms ns k → any_present ns ≡ false → k ≡ 0
none_there (none_matched z) f = z
none_there (more_matched (both_missing a) p e) f = let r = none_there p f in omega (arith, e, r)
none_there (more_matched (both_sides_present a v) p e) f = absurd (let g : true ≡ false = f in cc)

abbrev counted : Bool → ℕ → ℕ
counted b n = cond b (suc n) n

one_more : (b : Bool) (i j k : ℕ) → i ≡ j + k → counted b i ≡ counted b j + k
one_more true i j k e = omega (arith, e)
one_more false i j k e = e

pub present_matched : {C : OfComponents} {V : OfValues} {ds es bs : List (Addition AbstractValue)} {k : ℕ} → AdditionsMatched C V ds es bs k → present_additions es ≡ present_additions ds + present_additions bs
present_matched (only_more {bs = bs} z) = omega arith
present_matched (both_alone (both_missing a) p e) = present_matched p
present_matched (both_alone (both_sides_present a v) p e) = let r = present_matched p in omega (arith, r)
present_matched (both_bracketed {ms = ms} {ns = ns} {ds = ds} {es = es} {bs = bs} m p e) =
    let r = present_matched p in
    ap (λ q. counted q (present_additions es)) (sym (any_same m)) ∙ one_more (any_present ms) (present_additions es) (present_additions ds) (present_additions bs) r

-- ---- version brackets

-- whether the component is in version brackets, and whether the next one is in the same ones
abbrev pub grouped : Component → Bool
grouped c = elim (group_of c.presence) [ None ↦ false | Some g ↦ true ]

abbrev pub joins : Component → List Component → Bool
joins c [] = false
joins c (d ∷ ds) = elim (group_of c.presence) [ None ↦ false | Some g ↦ elim (group_of d.presence) [ None ↦ false | Some h ↦ g == h ] ]

-- the member before additions: by itself, in brackets of its own, or joined to the first ones
abbrev front_with : Bool → Bool → Member AbstractValue → List (Addition AbstractValue) → List (Addition AbstractValue)
front_with false j m ds = alone m ∷ ds
front_with true true m (bracketed ms ∷ ds) = bracketed (m ∷ ms) ∷ ds
front_with true j m ds = bracketed (m ∷ []) ∷ ds

record BracketedFirst (n : Member AbstractValue) (ds : List (Addition AbstractValue)) : Type 0 where
  others : List (Member AbstractValue)
  rest : List (Addition AbstractValue)
  is : ds ≡ bracketed (n ∷ others) ∷ rest

bracketed_first : (g : ℕ) (n : Member AbstractValue) (ds : List (Addition AbstractValue)) → BracketedFirst n (in_front (Some g) n ds)
bracketed_first g n [] = record { others = []; rest = []; is = refl }
bracketed_first g n (alone m ∷ ds) = record { others = []; rest = alone m ∷ ds; is = refl }
bracketed_first g n (bracketed [] ∷ ds) = record { others = []; rest = bracketed [] ∷ ds; is = refl }
bracketed_first g n (bracketed (m ∷ ms) ∷ ds) = by (is_of_group g m)
  where
    by : (b : Bool) → BracketedFirst n (cond b (bracketed (n ∷ (m ∷ ms)) ∷ ds) (bracketed (n ∷ []) ∷ (bracketed (m ∷ ms) ∷ ds)))
    by true = record { others = m ∷ ms; rest = ds; is = refl }
    by false = record { others = []; rest = bracketed (m ∷ ms) ∷ ds; is = refl }

abbrev pub joined_by : Option ℕ → Option ℕ → Bool
joined_by g h = elim g [ None ↦ false | Some a ↦ elim h [ None ↦ false | Some b ↦ a == b ] ]

abbrev pub some_group : Option ℕ → Bool
some_group g = elim g [ None ↦ false | Some a ↦ true ]

two_in_front : (m n : Member AbstractValue) (ds : List (Addition AbstractValue)) (g h : Option ℕ) → group_of (component n).presence ≡ h
    → in_front g m (in_front h n ds) ≡ front_with (some_group g) (joined_by g h) m (in_front h n ds)
two_in_front m n ds None h e = refl
two_in_front m n ds (Some a) None e = refl
two_in_front m n ds (Some a) (Some b) e =
    let f = bracketed_first b n ds in
    ap (λ q. in_front (Some a) m q) f.is ∙ by (is_of_group a n) (a == b) (ap (λ q. elim q [ None ↦ false | Some h ↦ a == h ]) e) f.others f.rest ∙ ap (λ q. front_with true (a == b) m q) (sym f.is)
  where
    by : (t u : Bool) → t ≡ u → (ns : List (Member AbstractValue)) (es : List (Addition AbstractValue)) → cond t (bracketed (m ∷ (n ∷ ns)) ∷ es) (bracketed (m ∷ []) ∷ (bracketed (n ∷ ns) ∷ es)) ≡ front_with true u m (bracketed (n ∷ ns) ∷ es)
    by true true f ns es = refl
    by true false f ns es = absurd (cc)
    by false true f ns es = absurd (cc)
    by false false f ns es = refl

one_in_front : (m : Member AbstractValue) (g : Option ℕ) → in_front g m [] ≡ front_with (some_group g) false m []
one_in_front m None = refl
one_in_front m (Some a) = refl

front_is : (m : Member AbstractValue) {cs : List Component} {vs : Row} {ms : List (Member AbstractValue)} → Beside cs vs ms → additions (m ∷ ms) ≡ front_with (grouped (component m)) (joins (component m) cs) m (additions ms)
front_is m beside_none = one_in_front m (group_of (component m).presence)
front_is m (beside_absent {c = c} {ms = ms} b) = two_in_front m (missing c) (additions ms) (group_of (component m).presence) (group_of c.presence) refl
front_is m (beside_present {c = c} {w = w} {ms = ms} b) = two_in_front m (standing c w) (additions ms) (group_of (component m).presence) (group_of c.presence) refl

abbrev is_none : List (Addition AbstractValue) → Bool
is_none [] = true
is_none (d ∷ ds) = false

some_in_front : (g : Option ℕ) (m : Member AbstractValue) (ds : List (Addition AbstractValue)) → is_none (in_front g m ds) ≡ false
some_in_front None m ds = refl
some_in_front (Some g) m ds = let f = bracketed_first g m ds in ap is_none f.is

-- only the first of several can be joined to the next one
joins_some : (c : Component) {cs : List Component} {vs : Row} {ms : List (Member AbstractValue)} → Beside cs vs ms → is_none (additions ms) ≡ true → joins c cs ≡ false
joins_some c beside_none e = refl
joins_some c (beside_absent {c = d} {ms = ms} b) e = absurd (let f = some_in_front (group_of d.presence) (missing d) (additions ms) in cc)
joins_some c (beside_present {c = d} {w = w} {ms = ms} b) e = absurd (let f = some_in_front (group_of d.presence) (standing d w) (additions ms) in cc)

module _ {C : OfComponents} {V : OfValues} where
  front_matched : (g i : Bool) {m n : Member AbstractValue} {ds es bs : List (Addition AbstractValue)} {j k l : ℕ} → Matched C V m n j → AdditionsMatched C V ds es bs k → l ≡ j + k → (is_none ds ≡ true → i ≡ false) → AdditionsMatched C V (front_with g i m ds) (front_with g i n es) bs l
  front_matched false i a p e h = both_alone a p e
  front_matched true false {j = j} a p e h = both_bracketed {i = j} (more_matched a (none_matched refl) (omega arith)) p e
  front_matched true true a (only_more z) e h = absurd (let f = h refl in cc)
  front_matched true true {j = j} a (both_alone b p f) e h = both_bracketed {i = j} (more_matched a (none_matched refl) (omega arith)) (both_alone b p f) e
  front_matched true true {j = j} a (both_bracketed {i = i} ms p f) e h = both_bracketed {i = j + i} (more_matched a ms refl) p (omega (arith, e, f))

  -- one more member on both sides
  pub one_more_addition : {m n : Member AbstractValue} {cs ds : List Component} {vs ws : Row} {ms ns : List (Member AbstractValue)} {bs : List (Addition AbstractValue)} {j k l : ℕ}
      → Matched C V m n j
      → grouped (component m) ≡ grouped (component n)
      → joins (component m) cs ≡ joins (component n) ds
      → Beside cs vs ms
      → Beside ds ws ns
      → AdditionsMatched C V (additions ms) (additions ns) bs k
      → l ≡ j + k
      → AdditionsMatched C V (additions (m ∷ ms)) (additions (n ∷ ns)) bs l
  one_more_addition {m} {n} {cs} {ds} {ms = ms} {ns = ns} {bs = bs} {l = l} a e f b b' p g =
      let r = front_matched (grouped (component m)) (joins (component m) cs) a p g (joins_some (component m) b) in
      let x = ap (λ q. front_with q (joins (component m) cs) n (additions ns)) e ∙ ap (λ q. front_with (grouped (component n)) q n (additions ns)) f ∙ sym (front_is n b') in
      subst (λ q. AdditionsMatched C V q (additions (n ∷ ns)) bs l) (sym (front_is m b)) (subst (λ q. AdditionsMatched C V (front_with (grouped (component m)) (joins (component m) cs) m (additions ms)) q bs l) x r)

-- ---- root and additions

pub root_step : (m : Member AbstractValue) (ms : List (Member AbstractValue)) → is_addition (component m) ≡ false → (root_members (m ∷ ms) ≡ m ∷ root_members ms) × (past_marker (m ∷ ms) ≡ past_marker ms)
root_step m ms e = (ap (λ q. cond q (root_members ms) (m ∷ root_members ms)) e, ap (λ q. cond q (m ∷ past_marker ms) (past_marker ms)) e)

pub after_step : (m : Member AbstractValue) (ms : List (Member AbstractValue)) → is_addition (component m) ≡ true → (root_members (m ∷ ms) ≡ root_members ms) × (past_marker (m ∷ ms) ≡ m ∷ past_marker ms)
after_step m ms e = (ap (λ q. cond q (root_members ms) (m ∷ root_members ms)) e, ap (λ q. cond q (m ∷ past_marker ms) (past_marker ms)) e)
