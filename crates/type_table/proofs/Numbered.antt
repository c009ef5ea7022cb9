-- Types that are numbered keep what a table of linked types keeps.
use Rattle.std.proofs.Common.{◌≡◌, inl, inr, ℕ, zero, suc, ◌<◌, ◌≤◌, ◌+◌, ◌++◌, List, [], ◌∷◌, length, Some, None, refl, sym, subst, ap, ◌∙◌, length-append, arith}
use Rattle.std.specs.Prelude.{slice_get, Bool, Option, slice_index_or}
use Rattle.std.proofs.lemmas.Option.{slice_get_within, slice_get-get_or}
use Rattle.trees.specs.Values.{Name}
use Rattle.trees.specs.declared.module.TagDefault.{TagDefault}
use Rattle.trees.specs.Types.{TypeTree, FormTree}
use Rattle.names.specs.Names.{Module, Refers}
use Rattle.type_table.specs.Table.{Type', WrittenKind, Part, simple, reference, tagged, members, elements, target, target_of, IsWrittenType, IsClosed, HasMembers, HasElements, IsMember, AllUnfold, IsLinked}
use Rattle.names.specs.declared.scope.Assigned.TheVariants as assigned
use Rattle.trees.specs.declared.types.ListKind.{ListKind}
use Rattle.trees.specs.declared.types.ElementsKind.{ElementsKind}
use Rattle.std.specs.List.{AllByRecursion}
use Rattle.type_table.proofs.PartKinds.{Parts, plain, referring, tagging, listing, having, kind_parts, member_at, listed_at}
use Rattle.names.specs.Sources.{Source}
use Rattle.type_table.specs.Numbering.{member_sources, numbered, type_form, form_parts, parts_of, all_parts, IsTop, AreTops, AreNumberedTypes}
use Rattle.names.specs.proving.Distinct.{left, right, either, at_all}
use Rattle.type_table.proofs.Queue.{parts_of_one}

module _ (ms : List (Name × Module)) (hs : List (Name × TagDefault)) (gs : List (ℕ × Name)) where
  -- type i + k: its source, and the numbers of its parts
  pub record At (i n k : ℕ) (ss : List Source) (ts : List Type') (s : Source) : Type 0 where
    pub t : Type'
    pub first : ℕ
    pub there : slice_get ts k ≡ Some t
    pub top : IsTop ms hs gs (n + first) s t
    pub parts : (q : ℕ) (c : Source) → slice_get (parts_of s.assignment (i + k) s.tree) q ≡ Some c →
        slice_get (all_parts i ss) (first + q) ≡ Some c

  pub at : (i n k : ℕ) (ss : List Source) (ts : List Type') (s : Source) → AreTops ms hs gs i n ss ts →
      slice_get ss k ≡ Some s → At i n k ss ts s
  at i n k [] [] s a e = absurd cc
  at i n k [] (t ∷ ts) s a e = absurd a
  at i n k (x ∷ ss) [] s a e = absurd a
  at i n zero (x ∷ ss) (t ∷ ts) s a e =
      let q : x ≡ s = cc in
      let z : n + 0 ≡ n = omega arith in
      let y : i + 0 ≡ i = omega arith in
      record {
        t = t;
        first = 0;
        there = refl;
        top = subst (λ u. IsTop ms hs gs (n + 0) u t) q (subst (λ m. IsTop ms hs gs m x t) (sym z) a.0);
        parts = λ p c h.
            let w : 0 + p ≡ p = omega arith in
            ap (λ m. slice_get (all_parts i (x ∷ ss)) m) w ∙ left (parts_of x.assignment i x.tree) (all_parts (suc i) ss) p c (subst (λ u. slice_get (parts_of u.assignment i u.tree) p ≡ Some c) (sym q) (subst (λ j. slice_get (parts_of s.assignment j s.tree) p ≡ Some c) y h));
      }
  at i n (suc k) (x ∷ ss) (t ∷ ts) s a e =
      let p = parts_of x.assignment i x.tree in
      let r = at (suc i) (n + length p) k ss ts s a.1 e in
      let z : n + length p + r.first ≡ n + (length p + r.first) = omega arith in
      let y : i + suc k ≡ suc i + k = omega arith in
      record {
        t = r.t;
        first = length p + r.first;
        there = r.there;
        top = subst (λ m. IsTop ms hs gs m s r.t) z r.top;
        parts = λ q c h.
            let w : length p + r.first + q ≡ length p + (r.first + q) = omega arith in
            ap (λ m. slice_get (p ++ all_parts (suc i) ss) m) w ∙ right p (all_parts (suc i) ss) (r.first + q) ∙ r.parts q c (subst (λ j. slice_get (parts_of s.assignment j s.tree) q ≡ Some c) y h);
      }

  tops_length : (i n : ℕ) (ss : List Source) (ts : List Type') → AreTops ms hs gs i n ss ts → length ts ≡ length ss
  tops_length i n [] [] a = refl
  tops_length i n [] (t ∷ ts) a = absurd a
  tops_length i n (x ∷ ss) [] a = absurd a
  tops_length i n (x ∷ ss) (t ∷ ts) a = ap suc (tops_length (suc i) (n + length (parts_of x.assignment i x.tree)) ss ts a.1)

abbrev owner_or : ℕ → Option (ℕ × Name) → ℕ
owner_or n None = n
owner_or n (Some p) = p.0

abbrev default_or : TagDefault → Option (Name × TagDefault) → TagDefault
default_or d None = d
default_or d (Some p) = p.1

abbrev owner_of : ℕ → Option (ℕ × ℕ) → ℕ
owner_of n None = n
owner_of n (Some p) = p.0

abbrev number_of : ℕ → Option (ℕ × ℕ) → ℕ
number_of n None = n
number_of n (Some p) = p.1

abbrev place_or : Option (ℕ × ℕ) → Option Type' → Option (ℕ × ℕ)
place_or p None = p
place_or p (Some t) = t.place

abbrev tag_default_or : TagDefault → Option Type' → TagDefault
tag_default_or d None = d
tag_default_or d (Some t) = t.default

no_place : (i n : ℕ) (o : Option (ℕ × ℕ)) → o ≡ None → o ≡ Some (i, n) → ⊥
no_place i n None e f = absurd cc
no_place i n (Some p) e f = absurd cc

module _ (ms : List (Name × Module)) (hs : List (Name × TagDefault)) (gs : List (ℕ × Name)) where
  source_at : (i n k : ℕ) (ss : List Source) (ts : List Type') (t : Type') → AreTops ms hs gs i n ss ts →
      slice_get ts k ≡ Some t → (s : Source) × (slice_get ss k ≡ Some s)
  source_at i n k [] [] t a e = absurd cc
  source_at i n k [] (y ∷ ts) t a e = absurd a
  source_at i n k (x ∷ ss) [] t a e = absurd a
  source_at i n zero (x ∷ ss) (y ∷ ts) t a e = (x, refl)
  source_at i n (suc k) (x ∷ ss) (y ∷ ts) t a e = source_at (suc i) (n + length (parts_of x.assignment i x.tree)) k ss ts t a.1 e

  -- part number m of all is a part of some type
  record From (i n m : ℕ) (ss : List Source) (ts : List Type') (a : AreTops ms hs gs i n ss ts) (c : Source) : Type 0 where
    k : ℕ
    q : ℕ
    s : Source
    there : slice_get ss k ≡ Some s
    part : slice_get (parts_of s.assignment (i + k) s.tree) q ≡ Some c
    number : m ≡ (at ms hs gs i n k ss ts s a there).first + q

  from : (i n m : ℕ) (ss : List Source) (ts : List Type') (a : AreTops ms hs gs i n ss ts) (c : Source) →
      slice_get (all_parts i ss) m ≡ Some c → From i n m ss ts a c
  unfolding at
  from i n m [] [] a c e = absurd cc
  from i n m [] (t ∷ ts) a c e = absurd a
  from i n m (x ∷ ss) [] a c e = absurd a
  from i n m (x ∷ ss) (t ∷ ts) a c e =
      elim (either (parts_of x.assignment i x.tree) (all_parts (suc i) ss) m c e) [
        | inl f ↦ (let y : i ≡ i + 0 = omega arith in
            record { k = 0; q = m; s = x; there = refl; part = subst (λ j. slice_get (parts_of x.assignment j x.tree) m ≡ Some c) y f; number = (let z : m ≡ 0 + m = omega arith in z) })
        | inr r ↦ (let p = parts_of x.assignment i x.tree in
            let g = from (suc i) (n + length p) r.0 ss ts a.1 c r.2 in
            let y : suc i + g.k ≡ i + suc g.k = omega arith in
            record {
              k = suc g.k;
              q = g.q;
              s = g.s;
              there = g.there;
              part = subst (λ j. slice_get (parts_of g.s.assignment j g.s.tree) g.q ≡ Some c) y g.part;
              number = (let z : m ≡ length p + (at ms hs gs (suc i) (n + length p) g.k ss ts g.s a.1 g.there).first + g.q = omega (arith, r.1, g.number) in z);
            })
      ]

  same_default : (n m : ℕ) (s c : Source) (t u : Type') → IsTop ms hs gs n s t → IsTop ms hs gs m c u →
      c.assignment ≡ s.assignment → u.default ≡ t.default
  same_default n m s c t u a b e =
      let o : Some (b.owner, b.assigns) ≡ Some (a.owner, a.assigns) = sym b.assigned ∙ ap (λ x. slice_get gs x) e ∙ a.assigned in
      let w : b.owner ≡ a.owner = ap (owner_or 0) o in
      let d : Some (b.within, u.default) ≡ Some (a.within, t.default) = sym b.header ∙ ap (λ x. slice_get hs x) w ∙ a.header in
      ap (default_or t.default) d

  -- type i, with the numbers of its parts
  record Entry (ts : List Type') (i : ℕ) (t : Type') : Type 0 where
    first : ℕ
    source : Source
    top : IsTop ms hs gs first source t
    parts : (q : ℕ) (c : Source) → slice_get (parts_of source.assignment i source.tree) q ≡ Some c →
        (u : Type') × (slice_get ts (first + q) ≡ Some u) × (u.place ≡ c.place) × (u.default ≡ t.default)

  module _ (roots : List Source) (ts : List Type') (all : AreNumberedTypes ms hs gs roots ts) where
    pub part_there : (x q : ℕ) (c : Source) → slice_get (all_parts 0 all.sources) (x + q) ≡ Some c →
        slice_get all.sources (length roots + x + q) ≡ Some c
    part_there x q c e =
        let z : length roots + x + q ≡ length roots + (x + q) = omega arith in
        ap (λ l. slice_get l (length roots + x + q)) all.all ∙ ap (λ m. slice_get (roots ++ all_parts 0 all.sources) m) z ∙ right roots (all_parts 0 all.sources) (x + q) ∙ e

    entry : (i : ℕ) (t : Type') → slice_get ts i ≡ Some t → Entry ts i t
    entry i t e =
        let s = source_at 0 (length roots) i all.sources ts t all.tops e in
        let a = at ms hs gs 0 (length roots) i all.sources ts s.0 all.tops s.1 in
        let q : a.t ≡ t = cc in
        let top = subst (λ u. IsTop ms hs gs (length roots + a.first) s.0 u) q a.top in
        let y : 0 + i ≡ i = omega arith in
        record {
          first = length roots + a.first;
          source = s.0;
          top = top;
          parts = λ p c h.
              let h' = subst (λ j. slice_get (parts_of s.0.assignment j s.0.tree) p ≡ Some c) (sym y) h in
              let there = part_there a.first p c (a.parts p c h') in
              let b = at ms hs gs 0 (length roots) (length roots + a.first + p) all.sources ts c all.tops there in
              (b.t, b.there, b.top.place, same_default (length roots + a.first) (length roots + b.first) s.0 c t b.t top b.top (at_all (λ d. d.assignment ≡ s.0.assignment) (parts_of s.0.assignment i s.0.tree) p c (parts_of_one (λ x. x ≡ s.0.assignment) s.0.assignment i s.0.tree refl) h));
        }

    pub as_long : length ts ≡ length all.sources
    as_long = tops_length ms hs gs 0 (length roots) all.sources ts all.tops

    pub roots_there : length roots ≤ length ts
    roots_there = omega (arith, as_long, ap length all.all, length-append roots (all_parts 0 all.sources))

    -- each type is in an assignment
    pub assignment_there : (i : ℕ) (t : Type') → slice_get ts i ≡ Some t → t.assignment < length gs
    assignment_there i t e =
        let n = entry i t e in
        subst (λ x. x < length gs) (sym n.top.assignment) (slice_get_within gs n.source.assignment (n.top.owner, n.top.assigns) n.top.assigned)

    module _ (meant : (M x : Name) (N : Option Name) (j : ℕ) → Refers ms M N x (assigned.Type j) → j < length ts) where
      one_there : (i : ℕ) (t : Type') (e : Entry ts i t) (c : Source) →
          slice_get (parts_of e.source.assignment i e.source.tree) 0 ≡ Some c → e.first < length ts
      one_there i t e c h =
          let p = e.parts 0 c h in
          let w : e.first + 0 < length ts = slice_get_within ts (e.first + 0) p.0 p.1 in
          omega (arith, w)

      target_there : (i : ℕ) (t : Type') (e : Entry ts i t) (k : WrittenKind) (j : ℕ) →
          Parts ms e.top.within e.first (type_form e.source.tree) k → target k ≡ Some j → j < length ts
      target_there i t e (simple p) j (plain f) h = absurd cc
      target_there i t e (reference z) j (referring N x r f) h = let q : z ≡ j = cc in subst (λ y. y < length ts) q (meant e.top.within x N z r)
      target_there i t e (tagged g w n) j (tagging u f) h = let q : e.first ≡ j = cc in subst (λ y. y < length ts) q (one_there i t e (record { tree = u; assignment = e.source.assignment; place = None }) (ap (λ l. slice_get l 0) (f e.source.assignment i)))
      target_there i t e (members l m cs) j (listing us f) h = absurd cc
      target_there i t e (elements y n) j (having u f) h = absurd cc

      closed_on : (i j : ℕ) (o : Option Type') → slice_get ts i ≡ o → target_of o ≡ Some j → j < length ts
      closed_on i j None e h = absurd cc
      closed_on i j (Some t) e h = let n = entry i t e in target_there i t n t.kind j (kind_parts ms n.top.within n.first (type_form n.source.tree) t.kind n.top.kind) h

      listing_of : (M : Name) (n : ℕ) (f : FormTree) (l : ListKind) (m : Bool) (cs : List Part) →
          Parts ms M n f (members l m cs) →
          (us : _) × (cs ≡ numbered n us) × ((a i : ℕ) → form_parts a i f ≡ member_sources a i 0 us)
      listing_of M n tree l m cs (listing us f) = (us, refl, f)

      having_there : (i : ℕ) (t : Type') (e : Entry ts i t) (y : ElementsKind) (j : ℕ) →
          Parts ms e.top.within e.first (type_form e.source.tree) (elements y j) → j < length ts
      having_there i t e y j (having u f) = one_there i t e (record { tree = u; assignment = e.source.assignment; place = None }) (ap (λ l. slice_get l 0) (f e.source.assignment i))

      -- member n of the list that type i is
      member_there : (i n : ℕ) (l : ListKind) (m : Bool) (cs : List Part) (d : TagDefault) (p : Option (ℕ × ℕ))
          (c : Part) → IsWrittenType ts i (members l m cs) d p → slice_get cs n ≡ Some c →
          (k : WrittenKind) × IsWrittenType ts c.ty k d (Some (i, n))
      member_there i n l m cs d p c is h =
          let e = entry i _ is.found in
          let g = listing_of e.top.within e.first (type_form e.source.tree) l m cs (kind_parts ms e.top.within e.first (type_form e.source.tree) (members l m cs) e.top.kind) in
          let q = member_at e.source.assignment i e.first 0 n g.0 c (subst (λ x. slice_get x n ≡ Some c) g.1 h) in
          let r = e.parts n q.source (ap (λ x. slice_get x n) (g.2 e.source.assignment i) ∙ q.there) in
          let z : 0 + n ≡ n = omega arith in
          let place : r.0.place ≡ Some (i, n) = r.2 ∙ q.place ∙ ap (λ x. Some (i, x)) z in (
            r.0.kind,
            record {
              constraints = r.0.constraints;
              assignment = r.0.assignment;
              found = ap (λ x. slice_get ts x) q.ty ∙ r.1 ∙ ap (λ x. Some (record { kind = r.0.kind; constraints = r.0.constraints; default = r.0.default; place = x; assignment = r.0.assignment })) place ∙ ap (λ x. Some (record { kind = r.0.kind; constraints = r.0.constraints; default = x; place = Some (i, n); assignment = r.0.assignment })) r.3;
            },
          )

      are_members : HasMembers ts
      are_members i l m cs d p is k z w =
          let there = slice_get-get_or cs k z w in
          let q = member_there i k l m cs d p (slice_index_or cs k z) is there in
          slice_get_within ts (slice_index_or cs k z).ty _ q.1.found

      are_inner : HasElements ts
      are_inner i j y d p is =
          let e = entry i _ is.found in
          having_there i _ e y j (kind_parts ms e.top.within e.first (type_form e.source.tree)
          (elements y j) e.top.kind)

      none_in_one : (u : TypeTree) (a q i m : ℕ) (s : Source) →
          slice_get (record { tree = u; assignment = a; place = None } ∷ []) q ≡ Some s → s.place ≡ Some (i, m) → ⊥
      none_in_one u a zero i m s e h =
          let w : record { tree = u; assignment = a; place = None } ≡ s = cc in
          let z : None ≡ Some (i, m) = ap (λ r. r.place) w ∙ h in
          absurd cc
      none_in_one u a (suc q) i m s e h = absurd cc

      -- a part with a place is that member of a list
      listed_on : (M : Name) (n : ℕ) (tree : FormTree) (kind : WrittenKind) (a k q i m : ℕ) (s : Source) →
          Parts ms M n tree kind → slice_get (form_parts a k tree) q ≡ Some s → s.place ≡ Some (i, m) →
          (l :
          ListKind) × (marker : Bool) × (cs : List Part) × (part : Part) × (kind ≡ members l marker cs)
          × (slice_get cs q ≡ Some part) × (part.ty ≡ n + q) × (i ≡ k) × (m ≡ q)
      listed_on M n tree kind a k q i m s (plain f) e h = let w : slice_get [] q ≡ Some s = ap (λ l. slice_get l q) (sym (f a k)) ∙ e in absurd cc
      listed_on M n tree kind a k q i m s (referring N x r f) e h = let w : slice_get [] q ≡ Some s = ap (λ l. slice_get l q) (sym (f a k)) ∙ e in absurd cc
      listed_on M n tree kind a k q i m s (tagging u f) e h = absurd (none_in_one u a q i m s (ap (λ l. slice_get l q) (sym (f a k)) ∙ e) h)
      listed_on M n tree kind a k q i m s (having u f) e h = absurd (none_in_one u a q i m s (ap (λ l. slice_get l q) (sym (f a k)) ∙ e) h)
      listed_on M n tree (members l marker cs) a k q i m s (listing us f) e h =
          let r = listed_at a k n 0 q us s (ap (λ l. slice_get l q) (sym (f a k)) ∙ e) in
          let w : Some (i, m) ≡ Some (k, 0 + q) = sym h ∙ r.place in
          let x : i ≡ k = ap (owner_of 0) w in
          let y : m ≡ 0 + q = ap (number_of 0) w in
          let z : m ≡ q = omega (arith, y) in
          (l, marker, numbered n us, r.part, refl, r.there, r.ty, x, z)

      is_member : (j i n : ℕ) (k : WrittenKind) (d : TagDefault) → AllByRecursion (λ s. s.place ≡ None) roots →
          IsWrittenType ts j k d (Some (i, n)) → IsMember ts i n j d
      is_member j i n k d none is =
          let s = source_at 0 (length roots) j all.sources ts _ all.tops is.found in
          let b = at ms hs gs 0 (length roots) j all.sources ts s.0 all.tops s.1 in
          let same : Some b.t ≡ Some (record { kind = k; constraints = is.constraints; default = d; place = Some (i, n); assignment = is.assignment }) = sym b.there ∙ is.found in
          let place : s.0.place ≡ Some (i, n) = sym b.top.place ∙ ap (place_or None) same in
          elim (either roots (all_parts 0 all.sources) j s.0 (ap (λ l. slice_get l j) (sym all.all) ∙ s.1)) [
            | inl f ↦ absurd (no_place i n s.0.place (at_all (λ x. x.place ≡ None) roots j s.0 none f) place)
            | inr r ↦ (let g = from 0 (length roots) r.0 all.sources ts all.tops s.0 r.2 in
                let a = at ms hs gs 0 (length roots) g.k all.sources ts g.s all.tops g.there in
                let y : 0 + g.k ≡ g.k = omega arith in
                let part = subst (λ x. slice_get (parts_of g.s.assignment x g.s.tree) g.q ≡ Some s.0) y g.part in
                let l = listed_on a.top.within (length roots + a.first) (type_form g.s.tree) a.t.kind g.s.assignment g.k g.q i n s.0 (kind_parts ms a.top.within (length roots + a.first) (type_form g.s.tree) a.t.kind a.top.kind) part place in
                let one = at_all (λ x. x.assignment ≡ g.s.assignment) (parts_of g.s.assignment g.k g.s.tree) g.q s.0 (parts_of_one (λ x. x ≡ g.s.assignment) g.s.assignment g.k g.s.tree refl) part in
                let dd : d ≡ a.t.default = ap (tag_default_or d) (sym same) ∙ same_default (length roots + a.first) (length roots + b.first) g.s s.0 a.t b.t a.top b.top one in
                let ty : l.3.ty ≡ j = l.6 ∙ (let z : length roots + a.first + g.q ≡ j = omega (arith, r.1, g.number) in z) in
                record {
                  list = l.0;
                  marker = l.1;
                  parts = l.2;
                  place = a.t.place;
                  part = l.3;
                  is = record {
                    constraints = a.t.constraints;
                    assignment = a.t.assignment;
                    found = ap (λ x. slice_get ts x) l.7 ∙ a.there ∙ ap (λ x. Some (record { kind = x; constraints = a.t.constraints; default = a.t.default; place = a.t.place; assignment = a.t.assignment })) l.4 ∙ ap (λ x. Some (record { kind = members l.0 l.1 l.2; constraints = a.t.constraints; default = x; place = a.t.place; assignment = a.t.assignment })) (sym dd);
                  };
                  there = ap (λ x. slice_get l.2 x) l.8 ∙ l.5;
                  type_is = ty;
                })
          ]

      -- numbered types whose references stand for types, and which unfold, are linked
      pub is_linked : AllByRecursion (λ s. s.place ≡ None) roots → AllUnfold ts → IsLinked ts
      is_linked none unfolds = record {
        closed = λ i j h. closed_on i j (slice_get ts i) refl h;
        unfolds = unfolds;
        parts = are_members;
        inner = are_inner;
        places = member_there;
        lists = λ j i n k d is. is_member j i n k d none is;
      }

      pub is_closed : IsClosed ts
      is_closed i j h = closed_on i j (slice_get ts i) refl h
