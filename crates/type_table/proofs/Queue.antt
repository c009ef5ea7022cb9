-- Types that are numbered, and those that still wait.
use Rattle.std.proofs.Common.{◌≡◌, ℕ, zero, suc, ◌<◌, ◌≤◌, ◌+◌, ◌++◌, List, [], ◌∷◌, length, map, Some, refl, sym, subst, ap, ◌∙◌, append_assoc, length-append, arith}
use Rattle.std.proofs.lemmas.List.{append-nil, length-map, map-append}
use Rattle.std.specs.Prelude.{slice_get}
use Rattle.std.specs.List.{AllByRecursion}
use Rattle.trees.specs.Values.{Name}
use Rattle.trees.specs.declared.module.TagDefault.{TagDefault}
use Rattle.trees.specs.declared.types.TypeSyntax.{TypeSyntax}
use Rattle.trees.specs.declared.types.TypeSyntax.TheViews.{out-TypeSyntax}
use Rattle.trees.specs.Types.{TypeTree, type_tree_of, a_type, a_simple, a_reference, a_list, an_elements, a_tagged, TypeMembers, no_member, member_and}
use Rattle.names.specs.declared.fault.NameFault.{NameFault}
use Rattle.names.specs.declared.fault.NameFault.TheVariants as faults
use Rattle.names.specs.declared.fault.Limit.TheVariants as limits
use Rattle.names.specs.Names.{Module}
use Rattle.type_table.specs.declared.table.TypeNode.{TypeNode}
use Rattle.type_table.specs.Table.{Type'}
use Rattle.type_table.specs.Written.{AreWrittenTypes, all_parts_written, parts_written, text_kept, text_written}
use Rattle.names.specs.Sources.{Source, AllAssigned}
use Rattle.type_table.specs.Numbering.{parts_of, member_sources, all_parts, IsTop, AreTops, AreNumberedTypes, Occurs, directly, inside, AreMore}
use Rattle.type_table.specs.Faults.{IsFirstNumbering, IsFirstSource, IsNumberingFault, IsWrittenAt}
use Rattle.type_table.specs.proving.Checks.{IsSourceFault}
use Rattle.names.specs.proving.Distinct.{left, right, at_all}

-- every type that still waits is in an assignment
abbrev AllOccur : List Source → List Source → Type 0
AllOccur roots ss = AllByRecursion (λ s. Occurs roots s.assignment s.tree) ss

-- types that are numbered, and those that wait, as they are written
pub record IsQueue (tops : List TypeSyntax) (ws : List TypeNode) (waiting : List TypeSyntax) : Type 0 where
  pub done : List TypeSyntax
  pub all : tops ++ all_parts_written done ≡ done ++ waiting
  pub texts : map text_kept ws ≡ map text_written done

queue_long : (tops : List TypeSyntax) (ws : List TypeNode) (waiting : List TypeSyntax) →
    (q : IsQueue tops ws waiting) → length q.done ≡ length ws
queue_long tops ws waiting q =
    sym (length-map q.done text_written) ∙ sym (ap length q.texts) ∙ length-map ws text_kept

parts_joined : (xs : List TypeSyntax) (t : TypeSyntax) →
    all_parts_written (xs ++ t ∷ []) ≡ all_parts_written xs ++ parts_written (out-TypeSyntax t).form
parts_joined [] t = append-nil (parts_written (out-TypeSyntax t).form)
parts_joined (x ∷ xs) t =
    let p = parts_written (out-TypeSyntax x).form in
    ap (λ l. p ++ l) (parts_joined xs t) ∙ sym (append_assoc p (all_parts_written xs) (parts_written (out-TypeSyntax t).form))

pub queue_start : (tops : List TypeSyntax) → IsQueue tops [] tops
queue_start tops = record { done = []; all = append-nil tops; texts = refl }

pub queue_step : (tops : List TypeSyntax) (ws : List TypeNode) (w : TypeNode) (t : TypeSyntax)
    (rest waiting : List TypeSyntax) → IsQueue tops ws (t ∷ rest) → text_kept w ≡ text_written t →
    waiting ≡ rest ++ parts_written (out-TypeSyntax t).form → IsQueue tops (ws ++ w ∷ []) waiting
queue_step tops ws w t rest waiting q at e =
    let p = parts_written (out-TypeSyntax t).form in
    record {
      done = q.done ++ t ∷ [];
      all = ap (λ l. tops ++ l) (parts_joined q.done t) ∙ sym (append_assoc tops (all_parts_written q.done) p) ∙ ap (λ l. l ++ p) q.all ∙ append_assoc q.done (t ∷ rest) p ∙ sym (append_assoc q.done (t ∷ []) (rest ++ p)) ∙ ap (λ l. (q.done ++ t ∷ []) ++ l) (sym e);
      texts = map-append text_kept ws (w ∷ []) ∙ ap (λ l. l ++ text_kept w ∷ []) q.texts ∙ ap (λ n. map text_written q.done ++ n ∷ []) at ∙ sym (map-append text_written q.done (t ∷ []));
    }

pub queue_end : (tops : List TypeSyntax) (ws : List TypeNode) → IsQueue tops ws [] → AreWrittenTypes tops ws
queue_end tops ws q = record { types = q.done; all = sym (q.all ∙ append-nil q.done); texts = q.texts }

-- k types are numbered, and these wait
pub record IsHalfway (ms : List (Name × Module)) (hs : List (Name × TagDefault)) (gs : List (ℕ × Name)) (roots : List Source) (ts : List Type') (waiting : List Source) (k : ℕ) : Type 0 where
  pub done : List Source
  pub count : length done ≡ k
  pub tops : AreTops ms hs gs 0 (length roots) done ts
  pub all : roots ++ all_parts 0 done ≡ done ++ waiting
  pub assigned : AllAssigned (length gs) waiting
  pub occur : AllOccur roots waiting
  -- each numbering of all begins so
  pub begins : (ss : List Source) → ss ≡ roots ++ all_parts 0 ss → (rest : List Source) × (ss ≡ done ++ rest)

all_at : {X : Type 0} (P : X → Type 0) (xs : List X) → ((k : ℕ) (x : X) → slice_get xs k ≡ Some x → P x) →
    AllByRecursion P xs
all_at P [] f = tt
all_at P (x ∷ xs) f = (f 0 x refl, all_at P xs (λ k y e. f (suc k) y e))

all_both : {X : Type 0} (P : X → Type 0) (xs ys : List X) → AllByRecursion P xs → AllByRecursion P ys →
    AllByRecursion P (xs ++ ys)
all_both P [] ys a b = b
all_both P (x ∷ xs) ys a b = (a.0, all_both P xs ys a.1 b)

members_of_one : (Q : ℕ → Type 0) (a i n : ℕ) (ms : TypeMembers) → Q a →
    AllByRecursion (λ s. Q s.assignment) (member_sources a i n ms)
members_of_one Q a i n no_member q = tt
members_of_one Q a i n (member_and x t o g ms) q = (q, members_of_one Q a i (suc n) ms q)

-- the parts of a type are in its assignment
pub parts_of_one : (Q : ℕ → Type 0) (a i : ℕ) (t : TypeTree) → Q a →
    AllByRecursion (λ s. Q s.assignment) (parts_of a i t)
parts_of_one Q a i (a_type (a_simple p) cs) q = tt
parts_of_one Q a i (a_type (a_reference N x) cs) q = tt
parts_of_one Q a i (a_type (a_list l m us) cs) q = members_of_one Q a i 0 us q
parts_of_one Q a i (a_type (an_elements e t) cs) q = (q, tt)
parts_of_one Q a i (a_type (a_tagged g w t) cs) q = (q, tt)

pub all_append : (i : ℕ) (xs ys : List Source) → all_parts i (xs ++ ys) ≡ all_parts i xs ++ all_parts (i + length xs) ys
all_append i [] ys = let e : i + 0 ≡ i = omega arith in ap (λ k. all_parts k ys) (sym e)
all_append i (x ∷ xs) ys =
    let e : suc i + length xs ≡ i + suc (length xs) = omega arith in
    ap (λ l. parts_of x.assignment i x.tree ++ l) (all_append (suc i) xs ys ∙ ap (λ k. all_parts (suc i) xs ++ all_parts k ys) e) ∙ sym (append_assoc (parts_of x.assignment i x.tree) (all_parts (suc i) xs) (all_parts (i + suc (length xs)) ys))

all_one : (i : ℕ) (s : Source) → all_parts i (s ∷ []) ≡ parts_of s.assignment i s.tree
all_one i s = append-nil (parts_of s.assignment i s.tree)

-- b is from a on, and below a + c
beyond : (a b c : ℕ) → a ≤ b → b < a + c → (q : ℕ) × (b ≡ a + q) × (q < c)
beyond zero b c l m = (b, omega arith, omega (arith, m))
beyond (suc a) zero c l m = absurd (omega (arith, l))
beyond (suc a) (suc b) c l m = let r = beyond a b c (omega (arith, l)) (omega (arith, m)) in (r.0, omega (arith, r.1), r.2)

item_at : {X : Type 0} (xs : List X) (k : ℕ) → k < length xs → (x : X) × (slice_get xs k ≡ Some x)
item_at [] k l = absurd (omega (arith, l))
item_at (x ∷ xs) zero l = (x, refl)
item_at (x ∷ xs) (suc k) l = item_at xs k (omega (arith, l))

module _ (ms : List (Name × Module)) (hs : List (Name × TagDefault)) (gs : List (ℕ × Name)) where
  tops_more : (i n : ℕ) (ss : List Source) (ts : List Type') (s : Source) (t : Type') → AreTops ms hs gs i n ss ts →
      IsTop ms hs gs (n + length (all_parts i ss)) s t → AreTops ms hs gs i n (ss ++ s ∷ []) (ts ++ t ∷ [])
  tops_more i n [] [] s t a h = let e : n + 0 ≡ n = omega arith in (subst (λ k. IsTop ms hs gs k s t) e h, tt)
  tops_more i n [] (y ∷ ts) s t a h = absurd a
  tops_more i n (x ∷ ss) [] s t a h = absurd a
  tops_more i n (x ∷ ss) (y ∷ ts) s t a h =
      let p = parts_of x.assignment i x.tree in
      let r = all_parts (suc i) ss in
      let e : n + length (p ++ r) ≡ n + length p + length r = omega (arith, length-append p r) in
      (a.0, tops_more (suc i) (n + length p) ss ts s t a.1 (subst (λ k. IsTop ms hs gs k s t) e h))

  pub halfway_start : (roots : List Source) → AllAssigned (length gs) roots → IsHalfway ms hs gs roots [] roots 0
  halfway_start roots a = record {
    done = [];
    count = refl;
    tops = tt;
    all = append-nil roots;
    assigned = a;
    occur = all_at (λ s. Occurs roots s.assignment s.tree) roots (λ k s e. directly k s e refl);
    begins = λ ss e. (ss, refl);
  }

  number_is : (roots : List Source) (ts : List Type') (s : Source) (rest : List Source) (k : ℕ) →
      (h : IsHalfway ms hs gs roots ts (s ∷ rest) k) → length roots + length (all_parts 0 h.done) ≡ k + 1 + length rest
  number_is roots ts s rest k h = omega (arith, ap length h.all, length-append roots (all_parts 0 h.done), length-append h.done (s ∷ rest), h.count)

  parts_next : (roots : List Source) (ts : List Type') (s : Source) (rest : List Source) (k : ℕ) →
      (h : IsHalfway ms hs gs roots ts (s ∷ rest) k) →
      all_parts 0 (h.done ++ s ∷ []) ≡ all_parts 0 h.done ++ parts_of s.assignment k s.tree
  parts_next roots ts s rest k h =
      all_append 0 h.done (s ∷ []) ∙ ap (λ j. all_parts 0 h.done ++ all_parts j (s ∷ [])) (let e : 0 + length h.done ≡ k = omega (arith, h.count) in e) ∙ ap (λ l. all_parts 0 h.done ++ l) (all_one k s)

  -- a numbering of all begins with one type more
  begins_more : (roots : List Source) (ts : List Type') (s : Source) (rest : List Source) (k : ℕ) →
      (h : IsHalfway ms hs gs roots ts (s ∷ rest) k) → (ss : List Source) → ss ≡ roots ++ all_parts 0 ss →
      (more : List Source) × (ss ≡ (h.done ++ s ∷ []) ++ more)
  begins_more roots ts s rest k h ss e =
      let b = h.begins ss e in
      let x = all_parts (0 + length h.done) b.0 in
      let one = e ∙ ap (λ z. roots ++ all_parts 0 z) b.1 ∙ ap (λ l. roots ++ l) (all_append 0 h.done b.0) ∙ sym (append_assoc roots (all_parts 0 h.done) x) ∙ ap (λ l. l ++ x) h.all in
      (rest ++ x, one ∙ append_assoc h.done (s ∷ rest) x ∙ sym (append_assoc h.done (s ∷ []) (rest ++ x)))

  pub halfway_step : (roots : List Source) (ts : List Type') (s : Source) (rest waiting : List Source) (k : ℕ)
      (t : Type') → IsHalfway ms hs gs roots ts (s ∷ rest) k → IsTop ms hs gs (k + 1 + length rest) s t →
      waiting ≡ rest ++ parts_of s.assignment k s.tree → IsHalfway ms hs gs roots (ts ++ t ∷ []) waiting (k + 1)
  halfway_step roots ts s rest waiting k t h top w =
      let p = parts_of s.assignment k s.tree in
      record {
        done = h.done ++ s ∷ [];
        count = omega (arith, length-append h.done (s ∷ []), h.count);
        tops = tops_more 0 (length roots) h.done ts s t h.tops (subst (λ n. IsTop ms hs gs n s t) (sym (number_is roots ts s rest k h)) top);
        all = ap (λ l. roots ++ l) (parts_next roots ts s rest k h) ∙ sym (append_assoc roots (all_parts 0 h.done) p) ∙ ap (λ l. l ++ p) h.all ∙ append_assoc h.done (s ∷ rest) p ∙ sym (append_assoc h.done (s ∷ []) (rest ++ p)) ∙ ap (λ l. (h.done ++ s ∷ []) ++ l) (sym w);
        assigned = subst (λ l. AllAssigned (length gs) l) (sym w) (all_both (λ c. c.assignment < length gs) rest p h.assigned.1 (parts_of_one (λ a. a < length gs) s.assignment k s.tree h.assigned.0));
        occur = subst (λ l. AllOccur roots l) (sym w) (all_both (λ c. Occurs roots c.assignment c.tree) rest p h.occur.1 (all_at (λ c. Occurs roots c.assignment c.tree) p (λ q c e.
            subst (λ a. Occurs roots a c.tree) (sym (at_all (λ d. d.assignment ≡ s.assignment) p q c (parts_of_one (λ a. a ≡ s.assignment) s.assignment k s.tree refl) e)) (inside k q c h.occur.0 e))));
        begins = begins_more roots ts s rest k h;
      }

  pub halfway_end : (roots : List Source) (ts : List Type') (k : ℕ) → IsHalfway ms hs gs roots ts [] k →
      AreNumberedTypes ms hs gs roots ts
  halfway_end roots ts k h = record { sources = h.done; all = sym (h.all ∙ append-nil h.done); tops = h.tops }

  -- a numbering of all begins with the types that wait and the parts of the first of them
  begins_parts : (roots : List Source) (ts : List Type') (s : Source) (rest : List Source) (k : ℕ) →
      (h : IsHalfway ms hs gs roots ts (s ∷ rest) k) → (ss : List Source) → ss ≡ roots ++ all_parts 0 ss →
      (more : List Source) × (ss ≡ (h.done ++ s ∷ rest) ++ (parts_of s.assignment k s.tree ++ more))
  begins_parts roots ts s rest k h ss e =
      let b = begins_more roots ts s rest k h ss e in
      let z = h.done ++ s ∷ [] in
      let x = all_parts (0 + length z) b.0 in
      let p = parts_of s.assignment k s.tree in
      let a = all_parts 0 h.done in
      let two : all_parts 0 ss ≡ a ++ (p ++ x) = ap (all_parts 0) b.1 ∙ all_append 0 z b.0 ∙ ap (λ l. l ++ x) (parts_next roots ts s rest k h) ∙ append_assoc a p x in
      (x, e ∙ ap (λ l. roots ++ l) two ∙ sym (append_assoc roots a (p ++ x)) ∙ ap (λ l. l ++ (p ++ x)) h.all)

  more_than : (roots : List Source) (ts : List Type') (s : Source) (rest : List Source) (k : ℕ) →
      IsHalfway ms hs gs roots ts (s ∷ rest) k → k + 1 + length rest ≤ 65536 →
      65536 < k + 1 + length rest + length (parts_of s.assignment k s.tree) → AreMore 65536 s.assignment roots
  more_than roots ts s rest k h f l = λ ss e.
      let b = begins_parts roots ts s rest k h ss e in
      let p = parts_of s.assignment k s.tree in
      let front = h.done ++ s ∷ rest in
      let long : length front ≡ k + 1 + length rest = omega (arith, length-append h.done (s ∷ rest), h.count) in
      let q = beyond (length front) 65536 (length p) (omega (arith, long, f)) (omega (arith, long, l)) in
      let one = item_at p q.0 q.2 in (
        one.0,
        ap (λ n. slice_get ss n) q.1 ∙ ap (λ y. slice_get y (length front + q.0)) b.1 ∙ right front (p ++ b.0) q.0 ∙ left p b.0 q.0 one.0 one.1,
        at_all (λ c. c.assignment ≡ s.assignment) p q.0 one.0 (parts_of_one (λ a. a ≡ s.assignment) s.assignment k s.tree refl) one.1,
      )

  pub halfway_fault : (roots : List Source) (ts : List Type') (s : Source) (rest : List Source) (k : ℕ)
      (e : NameFault) → IsHalfway ms hs gs roots ts (s ∷ rest) k → k + 1 + length rest ≤ 65536 →
      IsSourceFault ms hs gs k (k + 1 + length rest) s e → IsNumberingFault ms hs gs roots e
  halfway_fault roots ts s rest k faults.Memory h w f = tt
  halfway_fault roots ts s rest k (faults.UnknownName z) h w f = record { assignment = s.assignment; owner = f.0; assigns = f.1; default = f.2; tree = s.tree; occurs = h.occur.0; assigned = f.3; header = f.4; unknown = f.5 }
  halfway_fault roots ts s rest k (faults.Limit limits.Types z) h w f = record { assignment = s.assignment; owner = f.0; default = f.1; more = more_than roots ts s rest k h w f.4; assigned = f.2; header = f.3 }
  halfway_fault roots ts s rest k (faults.Limit limits.Modules z) h w f = absurd f
  halfway_fault roots ts s rest k (faults.Limit limits.Values z) h w f = absurd f
  halfway_fault roots ts s rest k (faults.Limit limits.Members z) h w f = absurd f
  halfway_fault roots ts s rest k (faults.Limit limits.Items z) h w f = absurd f
  halfway_fault roots ts s rest k (faults.Limit limits.NamedBit z) h w f = absurd f
  halfway_fault roots ts s rest k (faults.Limit limits.Integer z) h w f = absurd f
  halfway_fault roots ts s rest k (faults.Twice z) h w f = absurd f
  halfway_fault roots ts s rest k (faults.NotExported z) h w f = absurd f
  halfway_fault roots ts s rest k (faults.Circular z) h w f = absurd f
  halfway_fault roots ts s rest k (faults.UnknownModule z) h w f = absurd f

  first_source : (roots : List Source) (ts : List Type') (s : Source) (rest : List Source) (k : ℕ) (e : NameFault) →
      IsHalfway ms hs gs roots ts (s ∷ rest) k → k + 1 + length rest ≤ 65536 →
      IsSourceFault ms hs gs k (k + 1 + length rest) s e → (tops : List TypeSyntax) (ws : List TypeNode) (v : TypeSyntax)
      (others : List TypeSyntax) → IsQueue tops ws (v ∷ others) → length ws ≡ k → type_tree_of v ≡ s.tree →
      IsWrittenAt v e → IsFirstSource ms hs gs roots tops e
  first_source roots ts s rest k e h w f tops ws v others z c q a =
      let n : length (h.done ++ s ∷ rest) ≡ k + 1 + length rest = omega (arith, length-append h.done (s ∷ rest), h.count) in
      record {
        before = h.done;
        source = s;
        remaining = rest;
        all = h.all;
        types = ts;
        tops = h.tops;
        few = omega (arith, n, w);
        fault = subst (λ z. IsSourceFault ms hs gs (length h.done) z s e) (sym n) (subst (λ z. IsSourceFault ms hs gs z (k + 1 + length rest) s e) (sym h.count) f);
        front = z.done;
        written = v;
        others = others;
        queue = z.all;
        long = queue_long tops ws (v ∷ others) z ∙ c ∙ sym h.count;
        is = q;
        at = a;
      }

  pub halfway_first : (roots : List Source) (ts : List Type') (s : Source) (rest : List Source) (k : ℕ)
      (e : NameFault) → IsHalfway ms hs gs roots ts (s ∷ rest) k → k + 1 + length rest ≤ 65536 →
      IsSourceFault ms hs gs k (k + 1 + length rest) s e → (tops : List TypeSyntax) (ws : List TypeNode) (v : TypeSyntax)
      (others : List TypeSyntax) → IsQueue tops ws (v ∷ others) → length ws ≡ k → type_tree_of v ≡ s.tree →
      IsWrittenAt v e → IsFirstNumbering ms hs gs roots tops e
  halfway_first roots ts s rest k faults.Memory h w f tops ws v others y c q a = tt
  halfway_first roots ts s rest k (faults.Limit l z) h w f tops ws v others y c q a = first_source roots ts s rest k (faults.Limit l z) h w f tops ws v others y c q a
  halfway_first roots ts s rest k (faults.Twice z) h w f tops ws v others y c q a = first_source roots ts s rest k (faults.Twice z) h w f tops ws v others y c q a
  halfway_first roots ts s rest k (faults.UnknownName z) h w f tops ws v others y c q a = first_source roots ts s rest k (faults.UnknownName z) h w f tops ws v others y c q a
  halfway_first roots ts s rest k (faults.NotExported z) h w f tops ws v others y c q a = first_source roots ts s rest k (faults.NotExported z) h w f tops ws v others y c q a
  halfway_first roots ts s rest k (faults.Circular z) h w f tops ws v others y c q a = first_source roots ts s rest k (faults.Circular z) h w f tops ws v others y c q a
  halfway_first roots ts s rest k (faults.UnknownModule z) h w f tops ws v others y c q a = first_source roots ts s rest k (faults.UnknownModule z) h w f tops ws v others y c q a
