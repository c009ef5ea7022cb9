-- Signposts, and the ways to which they lead.
use Rattle.std.proofs.Common.{◌≡◌, ◌⊎◌, inl, inr, ℕ, zero, suc, ◌+◌, ◌<◌, ◌≤◌, ℤ, List, [], ◌∷◌, ◌++◌, length, Option, Some, None, Bool, true, false, cond, refl, sym, ap, ◌∙◌, subst, arith}
use Rattle.std.specs.Prelude.{slice_get, bytes_eq, IfSome}
use Rattle.std.proofs.lemmas.Option.{slice_get_within}
use Rattle.trees.specs.Values.{Name, Tree, reference}
use Rattle.names.specs.Modules.{OccursIn}
use Rattle.names.specs.Names.{names_of, under}
use Rattle.names.specs.proving.Distinct.{equal_bytes}
use Rattle.type_table.specs.Table.{WrittenKind}
use Rattle.type_table.specs.Walks.{onward, follow, ArrivesAt}
use Rattle.type_table.specs.proving.Walks.{walk_walk}
use Rattle.resolve.specs.Listed.{numbers_listed}
use Rattle.resolve.specs.Program.{Program}
use Rattle.range_ends.specs.Ends.{named, direct_number, IsValueAt}
use Rattle.range_ends.specs.proving.Steps.{MeansValue, listed, AreReferred, number_at, next}
use Rattle.range_ends.specs.proving.Keys.{key_in, texts}
use Rattle.range_ends.specs.proving.Trees.{leaf_in, KeepLeaves}
use Rattle.range_ends.specs.proving.Signs.{bare_of, bare_by, bare_at, IsAhead, Shows, IsOneOf, AreSigned, IsShownFor, IsNearer}
use Rattle.range_ends.specs.proving.Posting.{IsLabel, IsLast, IsRerouted, IsNext, IsMade}
use Rattle.range_ends.specs.declared.signposts.Signpost.{Signpost}
use Rattle.range_ends.specs.declared.signposts.Signposts.{Signposts}
use Rattle.range_ends.proofs.Alone.{named_alone, named_after}
use Rattle.range_ends.proofs.References.{some_same}
use Rattle.range_ends.proofs.Turning.{first_step}
use Rattle.range_ends.proofs.Following.{number_here, next_on}
use Rattle.range_ends.proofs.Marks.{push_one_of}
use Rattle.range_ends.proofs.Leaves.{push_keeps, push_there}

-- ---- names that a type lists

occurs_on : {X : Type 0} (x : Name) (y : Name × X) (es : List (Name × X)) (z : X) (b : Bool) →
    bytes_eq x y.0 ≡ b →
    (under x es ≡ Some z → OccursIn (names_of es) x) →
    cond b (Some y.1) (under x es) ≡ Some z →
    OccursIn (names_of (y ∷ es)) x
occurs_on x y es z true t go e = (0, ap Some (sym (equal_bytes x y.0 t)))
occurs_on x y es z false t go e = let o = go e in (suc o.0, o.1)

pub occurs_under : {X : Type 0} (x : Name) (es : List (Name × X)) (z : X) → under x es ≡ Some z → OccursIn (names_of es) x
occurs_under x [] z e = absurd cc
occurs_under x (y ∷ es) z e = occurs_on x y es z (bytes_eq x y.0) refl (occurs_under x es z) e

-- ---- the value that is a number first

pub bare_here : (p : Program) (i : ℕ) (M : Name) (n : Tree) → IsValueAt p i M n → bare_at p i ≡ bare_of n
bare_here p i M n a = ap bare_by a.there ∙ ap bare_of a.notation

not_named : (k : WrittenKind) (x : Name) (o : Option ℤ) →
    under x (numbers_listed k) ≡ o →
    (OccursIn (names_of (numbers_listed k)) x → ⊥) →
    o ≡ None
not_named k x None e f = refl
not_named k x (Some z) e f = absurd (f (occurs_under x (numbers_listed k) z e))

no_number : (p : Program) (k : WrittenKind) (M : Name) (n : Tree) (j : ℕ) →
    ((x : Name) → bare_of n ≡ Some x → OccursIn (names_of (numbers_listed k)) x → ⊥) →
    MeansValue p M n j →
    direct_number k n ≡ None
no_number p k M (reference None x) j f m =
    named_alone k x ∙ not_named k x (under x (numbers_listed k)) refl (f x refl)
no_number p k M (reference (Some N) x) j f m = named_after k N x
no_number p k M n j f m = absurd m

-- a value that refers to another one is no number, unless its notation is a name that the type lists
pub not_a_number : (p : Program) (k : WrittenKind) (os : List (Option ℕ)) (i j : ℕ) →
    AreReferred p os →
    ((x : Name) → bare_at p i ≡ Some x → OccursIn (names_of (numbers_listed k)) x → ⊥) →
    listed os i ≡ Some j →
    number_at p k i ≡ None
not_a_number p k os i j a f e =
    let r = (a.each i j).0 e in
    number_here p k i r.within r.notation r.at
    ∙ no_number p k r.within r.notation j (λ x b. f x (bare_here p i r.within r.notation r.at ∙ b)) r.means

step_on : (f : ℕ → Option ℕ) (s i c : ℕ) (o : Option ℕ) →
    f i ≡ o →
    follow f (suc s) i ≡ Some c →
    (j : ℕ) × (f i ≡ Some j) × (follow f s j ≡ Some c)
step_on f s i c None e g =
    let h : None ≡ Some c = sym (ap (λ o. onward o (λ j. follow f s j)) e) ∙ g in
    absurd cc
step_on f s i c (Some j) e g = (j, e, sym (first_step f s i j e) ∙ g)

-- references that pass no number lead on in a constraint too
pub clear_walk : (p : Program) (k : WrittenKind) (os : List (Option ℕ)) (s i c : ℕ) →
    ((t q j : ℕ) → t < s → follow (listed os) t i ≡ Some q → listed os q ≡ Some j → number_at p k q ≡ None) →
    follow (listed os) s i ≡ Some c →
    follow (next p k os) s i ≡ Some c
clear_walk p k os zero i c f e = e
clear_walk p k os (suc s) i c f e =
    let n = step_on (listed os) s i c (listed os i) refl e in
    let here = next_on p k os i (f 0 i n.0 (omega arith) refl n.1) ∙ n.1 in
    let go = clear_walk p k os s n.0 c
    (λ t q j l g h. f (suc t) q j (omega (arith, l)) (first_step (listed os) t i n.0 n.1 ∙ g) h) n.2 in
    first_step (next p k os) s i n.0 here ∙ go

pub arrives_ahead : (p : Program) (k : WrittenKind) (os : List (Option ℕ)) (post to : Signpost) →
    AreReferred p os →
    IsAhead p os (OccursIn (names_of (numbers_listed k))) post to →
    ArrivesAt (next p k os) post.value to.value
arrives_ahead p k os post to a h = record {
  steps = h.steps;
  chain = clear_walk p k os h.steps post.value to.value
      (λ t q j l f e. not_a_number p k os q j a (λ x b o. h.clear t q x l f b o) e) h.chain;
}

-- ---- the nearest of two signposts

pub ahead_less : (p : Program) (os : List (Option ℕ)) (P Q : Name → Type 0) (post to : Signpost) →
    ((x : Name) → Q x → P x) →
    IsAhead p os P post to →
    IsAhead p os Q post to
ahead_less p os P Q post to f h = record {
  steps = h.steps;
  chain = h.chain;
  rest = h.rest;
  clear = λ t q x l e b m. h.clear t q x l e b (f x m);
}

both_clear : (p : Program) (os : List (Option ℕ)) (P Q : Name → Type 0) (post to far : Signpost) →
    IsAhead p os P post to →
    IsAhead p os Q post far →
    far.rest ≤ to.rest →
    IsAhead p os (λ x. P x ⊎ Q x) post to
both_clear p os P Q post to far a b l = record {
  steps = a.steps;
  chain = a.chain;
  rest = a.rest;
  clear = λ t q x m e h o. elim o [
    | inl y ↦ a.clear t q x m e h y
    | inr y ↦ b.clear t q x (let u = a.rest in let v = b.rest in omega (arith, m, l, u, v)) e h y
  ];
}

turn_about : (P Q : Name → Type 0) (x : Name) → P x ⊎ Q x → Q x ⊎ P x
turn_about P Q x (inl y) = inr y
turn_about P Q x (inr y) = inl y

-- the first of these names
abbrev pub IsAmongFirst : List Name → ℕ → Name → Type 0
IsAmongFirst xs n x = (j : ℕ) × (j < n) × (slice_get xs j ≡ Some x)

below_more : (j n : ℕ) → j < n + 1 → (j < n) ⊎ (j ≡ n)
below_more zero zero l = inr refl
below_more zero (suc n) l = inl (omega arith)
below_more (suc j) zero l = absurd (omega (arith, l))
below_more (suc j) (suc n) l =
    elim (below_more j n (omega (arith, l))) [
      | inl h ↦ inl (omega (arith, h))
      | inr h ↦ inr (ap suc h)
    ]

one_more_name : (ns xs : List Name) (n : ℕ) (y x : Name) (o : Option ℕ) →
    slice_get xs n ≡ Some y →
    key_in ns y ≡ o →
    IsAmongFirst xs (n + 1) x →
    IsAmongFirst xs n x ⊎ (key_in ns x ≡ o)
one_more_name ns xs n y x o e k m =
    elim (below_more m.0 n m.1) [
      | inl l ↦ inl (m.0, l, m.2)
      | inr q ↦ (
          let s : y ≡ x = some_same y x (sym e ∙ ap (slice_get xs) (sym q) ∙ m.2) in
          inr (ap (key_in ns) (sym s) ∙ k))
    ]

module _ (p : Program) (os : List (Option ℕ)) (ns xs : List Name) (n : ℕ) (y : Name) (key : ℕ) (post to far : Signpost)
    (e : slice_get xs n ≡ Some y)
    (k : key_in ns y ≡ Some key)
    (a : IsAhead p os (IsAmongFirst xs n) post to)
    (b : IsAhead p os (λ x. key_in ns x ≡ Some key) post far) where
  pub nearest_stays : far.rest ≤ to.rest → IsAhead p os (IsAmongFirst xs (n + 1)) post to
  nearest_stays l =
      ahead_less p os (λ x. IsAmongFirst xs n x ⊎ (key_in ns x ≡ Some key)) (IsAmongFirst xs (n + 1)) post to
      (λ x m. one_more_name ns xs n y x (Some key) e k m)
      (both_clear p os (IsAmongFirst xs n) (λ x. key_in ns x ≡ Some key) post to far a b l)

  pub nearest_changes : to.rest < far.rest → IsAhead p os (IsAmongFirst xs (n + 1)) post far
  nearest_changes l =
      ahead_less p os (λ x. (key_in ns x ≡ Some key) ⊎ IsAmongFirst xs n x) (IsAmongFirst xs (n + 1)) post far
      (λ x m. turn_about (IsAmongFirst xs n) (λ z. key_in ns z ≡ Some key) x (one_more_name ns xs n y x (Some key) e k m))
      (both_clear p os (λ x. key_in ns x ≡ Some key) (IsAmongFirst xs n) post far to b a (omega (arith, l)))

  pub nearest_next : (r : Signpost) → IsNearer to far r → IsAhead p os (IsAmongFirst xs (n + 1)) post r
  nearest_next r (inl h) = subst (IsAhead p os (IsAmongFirst xs (n + 1)) post) (sym h.0) (nearest_changes h.1)
  nearest_next r (inr h) = subst (IsAhead p os (IsAmongFirst xs (n + 1)) post) (sym h.0) (nearest_stays h.1)

pub among_none : (p : Program) (os : List (Option ℕ)) (P : Name → Type 0) (xs : List Name) (post to : Signpost) →
    IsAhead p os P post to →
    IsAhead p os (IsAmongFirst xs 0) post to
among_none p os P xs post to a =
    ahead_less p os P (IsAmongFirst xs 0) post to (λ x m. let l = m.1 in absurd (omega (arith, l))) a

pub among_all : (p : Program) (os : List (Option ℕ)) (xs : List Name) (n : ℕ) (post to : Signpost) →
    length xs ≤ n →
    IsAhead p os (IsAmongFirst xs n) post to →
    IsAhead p os (OccursIn xs) post to
among_all p os xs n post to l a =
    ahead_less p os (IsAmongFirst xs n) (OccursIn xs) post to
    (λ x m. let w = slice_get_within xs m.0 x m.1 in (m.0, omega (arith, w, l), m.1)) a

-- ---- one signpost more

key_once : (o : Option ℕ) (a b : ℕ) → o ≡ Some a → o ≡ Some b → a ≡ b
key_once o a b e f = some_same a b (sym e ∙ f)

module _ (p : Program) (os : List (Option ℕ)) (s t : Signposts) (post : Signpost)
    (names : t.names.items ≡ s.names.items)
    (kept : KeepLeaves s.forks t.forks)
    (pushed : t.posts.items ≡ s.posts.items ++ post ∷ []) where
  shows_on : (old : Signpost) (key : ℕ) → Shows p os s old key → Shows p os t old key
  shows_on old key h = record {
    place = h.place;
    to = h.to;
    leads = kept old.root key h.place h.leads;
    there = push_keeps s.posts.items t.posts.items post pushed h.place h.to h.there;
    ahead = subst (λ ns. IsAhead p os (λ x. key_in (texts ns) x ≡ Some key) old h.to) (sym names) h.ahead;
  }

  pub signed_more : AreSigned p os s → ((key : ℕ) → Shows p os t post key) → AreSigned p os t
  signed_more a new old key o =
      elim (push_one_of s.posts.items o.0 post old (ap (λ xs. slice_get xs o.0) (sym pushed) ∙ o.1)) [
        | inl q ↦ subst (λ z. Shows p os t z key) q (new key)
        | inr e ↦ shows_on old key (a old key (o.0, e))
      ]

  shows_itself : (key : ℕ) → leaf_in t.forks post.root key ≡ Some (length s.posts.items) → Shows p os t post key
  shows_itself key e = record {
    place = length s.posts.items;
    to = post;
    leads = e;
    there = push_there s.posts.items t.posts.items post pushed;
    ahead = record {
      steps = 0;
      chain = refl;
      rest = omega arith;
      clear = λ i q x l f b m. absurd (omega (arith, l));
    };
  }

  pub last_shows : (value : ℕ) → IsLast t.forks (length s.posts.items) value post → (key : ℕ) → Shows p os t post key
  last_shows value h key = shows_itself key (h.leads key)

  module _ (value : ℕ) (label : Option ℕ) (after : Signpost)
      (signed : AreSigned p os s)
      (there : IsOneOf s after)
      (refers : listed os value ≡ Some after.value)
      (labelled : IsLabel p (texts s.names.items) value label)
      (h : IsNext s.forks t.forks (length s.posts.items) value label after post) where
    clear_on : (key : ℕ) (to : Signpost) →
        (label ≡ Some key → ⊥) →
        (a : IsAhead p os (λ x. key_in (texts s.names.items) x ≡ Some key) after to) →
        (i q : ℕ) (x : Name) →
        i < suc a.steps →
        follow (listed os) i value ≡ Some q →
        bare_at p q ≡ Some x →
        key_in (texts s.names.items) x ≡ Some key → ⊥
    clear_on key to f a zero q x l e b m =
        let r : value ≡ q = some_same value q e in
        f (sym (labelled x (ap (bare_at p) r ∙ b)) ∙ m)
    clear_on key to f a (suc i) q x l e b m =
        a.clear i q x (omega (arith, l)) (sym (first_step (listed os) i value after.value refers) ∙ e) b m

    shows_further : (key place : ℕ) (to : Signpost) →
        (label ≡ Some key → ⊥) →
        leaf_in t.forks post.root key ≡ Some place →
        slice_get s.posts.items place ≡ Some to →
        IsAhead p os (λ x. key_in (texts s.names.items) x ≡ Some key) after to →
        Shows p os t post key
    shows_further key place to f e g a = record {
      place = place;
      to = to;
      leads = e;
      there = push_keeps s.posts.items t.posts.items post pushed place to g;
      ahead = subst (λ ns. IsAhead p os (λ x. key_in (texts ns) x ≡ Some key) post to) (sym names) (record {
        steps = suc a.steps;
        chain = ap (follow (listed os) (suc a.steps)) h.value_is ∙ first_step (listed os) a.steps value after.value refers ∙ a.chain;
        rest = let u = a.rest in let v = h.rest in omega (arith, u, v);
        clear = λ i q x l e b m. clear_on key to f a i q x l (ap (follow (listed os) i) (sym h.value_is) ∙ e) b m;
      });
    }

    by_label : (key : ℕ) (o : Option ℕ) →
        label ≡ o →
        IsRerouted s.forks t.forks (length s.posts.items) o after.root post.root →
        Shows p os t post key
    by_label key None q r =
        let old = signed after key there in
        shows_further key old.place old.to (λ f. let g : None ≡ Some key = sym q ∙ f in absurd cc)
        (ap (λ z. leaf_in t.forks z key) r ∙ kept after.root key old.place old.leads) old.there old.ahead
    by_label key (Some named) q r =
        let old = signed after key there in
        let w = r key old.place old.leads in
        elim w.2 [
          | inl e ↦ shows_itself key (w.1 ∙ ap Some e)
          | inr e ↦ shows_further key old.place old.to
              (λ f. e.0 (some_same key named (sym f ∙ q))) (w.1 ∙ ap Some e.1) old.there old.ahead
        ]

    pub next_shows : (key : ℕ) → Shows p os t post key
    next_shows key = by_label key label refl h.leads

  pub made_shows : (value : ℕ) (label : Option ℕ) (o : Option Signpost) →
      AreSigned p os s →
      IsLabel p (texts s.names.items) value label →
      IfSome o (IsOneOf s) →
      IfSome o (λ a. listed os value ≡ Some a.value) →
      IsMade s.forks t.forks (length s.posts.items) value label o post →
      (key : ℕ) → Shows p os t post key
  made_shows value label None signed labelled there refers h key = last_shows value h key
  made_shows value label (Some after) signed labelled there refers h key =
      next_shows value label after signed there refers labelled h key

-- ---- ways of several parts

pub arrives_on : (f : ℕ → Option ℕ) (i c j d : ℕ) → ArrivesAt f i c → f c ≡ Some j → ArrivesAt f j d → ArrivesAt f i d
arrives_on f i c j d u e v = record {
  steps = u.steps + suc v.steps;
  chain = walk_walk f u.steps (suc v.steps) i c u.chain ∙ first_step f v.steps c j e ∙ v.chain;
}

pub nothing_at : {A : Type 0} (xs : List A) (i : ℕ) (x : A) → xs ≡ [] → slice_get xs i ≡ Some x → ⊥
nothing_at xs i x e h =
    let f : None ≡ Some x = ap (λ ys. slice_get ys i) (sym e) ∙ h in
    absurd cc

-- a leaf of a signpost's tree is where it shows to
pub shown_ahead : (p : Program) (os : List (Option ℕ)) (s : Signposts) (post to : Signpost) (key place : ℕ) →
    AreSigned p os s →
    IsOneOf s post →
    leaf_in s.forks post.root key ≡ Some place →
    slice_get s.posts.items place ≡ Some to →
    IsAhead p os (λ x. key_in (texts s.names.items) x ≡ Some key) post to
shown_ahead p os s post to key place a o e f =
    let h = a post key o in
    let q : h.place ≡ place = some_same h.place place (sym h.leads ∙ e) in
    let r : h.to ≡ to = some_same h.to to (sym h.there ∙ ap (slice_get s.posts.items) q ∙ f) in
    subst (λ z. IsAhead p os (λ x. key_in (texts s.names.items) x ≡ Some key) post z) r h.ahead

-- ---- the name that a notation is

bare_inverse : (n : Tree) (x : Name) → bare_of n ≡ Some x → n ≡ reference None x
bare_inverse (reference None y) x e = ap (reference None) (some_same y x e)
bare_inverse (reference (Some M) y) x e = absurd cc
bare_inverse n x e = absurd cc

pub labelled : (p : Program) (ns : List Name) (i : ℕ) (M : Name) (n : Tree) (z : Name) (o : Option ℕ) →
    IsValueAt p i M n →
    n ≡ reference None z →
    o ≡ key_in ns z →
    IsLabel p ns i o
labelled p ns i M n z o a e k = λ x b.
    let q : Some z ≡ Some x = sym (ap bare_of e) ∙ sym (bare_here p i M n a) ∙ b in
    ap (key_in ns) (sym (some_same z x q)) ∙ sym k

pub unlabelled : (p : Program) (ns : List Name) (i : ℕ) (M : Name) (n : Tree) →
    IsValueAt p i M n →
    ((x : Name) → n ≡ reference None x → ⊥) →
    IsLabel p ns i None
unlabelled p ns i M n a f = λ x b.
    absurd (f x (bare_inverse n x (sym (bare_here p i M n a) ∙ b)))

-- ---- what is returned for signposts

pub shown_if : (p : Program) (os : List (Option ℕ)) (s : Signposts) (post : Signpost) (key place : ℕ) (r : Option Signpost) →
    r ≡ slice_get s.posts.items place →
    leaf_in s.forks post.root key ≡ Some place →
    AreSigned p os s →
    IsOneOf s post →
    IfSome r (IsAhead p os (λ x. key_in (texts s.names.items) x ≡ Some key) post)
shown_if p os s post key place None e l a o = tt
shown_if p os s post key place (Some to) e l a o = shown_ahead p os s post to key place a o l (sym e)

pub shown_for_if : (p : Program) (os : List (Option ℕ)) (ns : List Name) (x : Name) (key : ℕ) (post : Signpost) (r : Option Signpost) →
    key_in ns x ≡ Some key →
    IfSome r (IsAhead p os (λ y. key_in ns y ≡ Some key) post) →
    IfSome r (IsShownFor p os ns x post)
shown_for_if p os ns x key post None e a = tt
shown_for_if p os ns x key post (Some to) e a = record { key = key; key_is = e; ahead = a }

pub arrives_if : (p : Program) (k : WrittenKind) (os : List (Option ℕ)) (es : List (Name × ℤ)) (post : Signpost) (start : ℕ)
    (r : Option Signpost) →
    AreReferred p os →
    es ≡ numbers_listed k →
    post.value ≡ start →
    IfSome r (IsAhead p os (OccursIn (names_of es)) post) →
    IfSome r (λ to. ArrivesAt (next p k os) start to.value)
arrives_if p k os es post start None a e q h = tt
arrives_if p k os es post start (Some to) a e q h =
    subst (λ i. ArrivesAt (next p k os) i to.value) q
    (arrives_ahead p k os post to a (subst (λ fs. IsAhead p os (OccursIn (names_of fs)) post to) e h))

pub arrives_here : (f : ℕ → Option ℕ) (i : ℕ) → ArrivesAt f i i
arrives_here f i = record { steps = 0; chain = refl }

pub if_same : {A : Type 0} (P : A → Type 0) (o r : Option A) → IfSome r (λ x. o ≡ Some x) → IfSome o P → IfSome r P
if_same P o None h a = tt
if_same P o (Some x) h a = subst (λ z. IfSome z P) h a

pub refers_if : (os : List (Option ℕ)) (i j : ℕ) (o r : Option Signpost) →
    listed os i ≡ Some j →
    IfSome r (λ x. o ≡ Some x) →
    IfSome o (λ a. a.value ≡ j) →
    IfSome r (λ a. listed os i ≡ Some a.value)
refers_if os i j o None e h a = tt
refers_if os i j o (Some x) e h a =
    let q : x.value ≡ j = subst (λ z. IfSome z (λ b. b.value ≡ j)) h a in
    e ∙ ap Some (sym q)
