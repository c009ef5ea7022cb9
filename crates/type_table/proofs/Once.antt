-- The table of types of given names, assignments and types is the only one.
use Rattle.std.proofs.Common.{◌≡◌, ℕ, zero, suc, ◌+◌, ◌<◌, ◌≤◌, ◌++◌, List, [], ◌∷◌, length, Some, refl, sym, subst, ap, ◌∙◌, append_assoc, arith}
use Rattle.std.proofs.lemmas.Option.{same_Some}
use Rattle.std.specs.Prelude.{slice_get, Option}
use Rattle.trees.specs.Values.{Name}
use Rattle.trees.specs.declared.module.TagDefault.{TagDefault}
use Rattle.trees.specs.Types.{TypeTree, a_type, FormTree, a_simple, a_reference, a_list, an_elements, a_tagged, TypeMembers, no_member, member_and}
use Rattle.names.specs.declared.scope.Assigned.TheVariants as assigned
use Rattle.names.specs.Names.{Module, IsApart, Refers}
use Rattle.names.specs.Sources.{Source}
use Rattle.type_table.specs.Numbering.{type_form, member_sources, parts_of, all_parts, IsKind, IsTop, AreTops, AreNumberedTypes}
use Rattle.type_table.specs.Table.{Type', WrittenKind, reference}
use Rattle.type_table.proofs.Queues.{AreFronts, front_of_whole, fronts, one_whole}
use Rattle.names.specs.proving.Meanings.{meaning_found, refers_meaning}

-- how many types a type is written with
abbrev mutual
  pub weight : TypeTree → ℕ
  weight (a_type f cs) = form_weight f

  pub form_weight : FormTree → ℕ
  form_weight (a_simple p) = 1
  form_weight (a_reference N x) = 1
  form_weight (a_list l m us) = suc (weights us)
  form_weight (an_elements e t) = suc (weight t)
  form_weight (a_tagged g w t) = suc (weight t)

  pub weights : TypeMembers → ℕ
  weights no_member = 0
  weights (member_and x t o g us) = weight t + weights us

abbrev total : List Source → ℕ
total [] = 0
total (s ∷ ss) = weight s.tree + total ss

total_append : (xs ys : List Source) → total (xs ++ ys) ≡ total xs + total ys
total_append [] ys = omega arith
total_append (x ∷ xs) ys = omega (arith, total_append xs ys)

members_total : (a i n : ℕ) (ms : TypeMembers) → total (member_sources a i n ms) ≡ weights ms
members_total a i n no_member = refl
members_total a i n (member_and x t o g ms) = omega (arith, members_total a i (suc n) ms)

-- parts are lighter than what they are parts of
parts_less : (a i : ℕ) (t : TypeTree) → total (parts_of a i t) < weight t
parts_less a i (a_type (a_simple p) cs) = omega arith
parts_less a i (a_type (a_reference N x) cs) = omega arith
parts_less a i (a_type (a_list l m us) cs) = omega (arith, members_total a i 0 us)
parts_less a i (a_type (an_elements e t) cs) = omega arith
parts_less a i (a_type (a_tagged g w t) cs) = omega arith

all_less : (i : ℕ) (ss : List Source) → total (all_parts i ss) ≤ total ss
all_less i [] = omega arith
all_less i (s ∷ ss) = omega (arith, total_append (parts_of s.assignment i s.tree) (all_parts (suc i) ss), parts_less s.assignment i s.tree, all_less (suc i) ss)

all_strict : (i : ℕ) (s : Source) (ss : List Source) → total (all_parts i (s ∷ ss)) < total (s ∷ ss)
all_strict i s ss = omega (arith, total_append (parts_of s.assignment i s.tree) (all_parts (suc i) ss), parts_less s.assignment i s.tree, all_less (suc i) ss)

total_grows : (xs ys : List Source) → total xs ≤ total (xs ++ ys)
total_grows xs ys = let a = total_append xs ys in omega (arith, a)

abbrev part_of : ℕ → Source → List Source
part_of i s = parts_of s.assignment i s.tree

one_sources : (k : ℕ) (r q w : List Source) → r ≡ w ++ all_parts k r → q ≡ w ++ all_parts k q → r ≡ q
one_sources k r q w e f = one_whole part_of all_parts total (λ i. refl) (λ i s ss. refl) all_strict total_grows k w r q e f

-- two fronts of the types that are numbered
pub source_fronts : (w a b r q : List Source) (s t : Source) → w ++ all_parts 0 a ≡ a ++ s ∷ r →
    w ++ all_parts 0 b ≡ b ++ t ∷ q → AreFronts a b s t
source_fronts w a b r q s t e f = fronts part_of all_parts total (λ i. refl) (λ i x xs. refl) all_strict total_grows 0 w a b r q s t e f

-- a front of them, and all of them
pub source_front : (w a r x : List Source) (s : Source) → w ++ all_parts 0 a ≡ a ++ s ∷ r → x ≡ w ++ all_parts 0 x →
    (z : List Source) × (x ≡ a ++ s ∷ z)
source_front w a r x s e f = front_of_whole part_of all_parts total (λ i. refl) (λ i y ys. refl) all_strict total_grows 0 w a r x s e f

-- the first type waits no longer, and its parts wait
less_waits : (k : ℕ) (s : Source) (w : List Source) (n : ℕ) → total (s ∷ w) ≤ suc n → total (w ++ part_of k s) ≤ n
less_waits k s w n l = let a = total_append w (part_of k s) in let b = parts_less s.assignment k s.tree in omega (arith, a, b, l)

-- these types, the types in them, and so on are a list
all_sources : (n k : ℕ) (w : List Source) → total w ≤ n → (x : List Source) × (x ≡ w ++ all_parts k x)
all_sources n k [] l = ([], refl)
all_sources zero k (s ∷ w) l = let a = parts_less s.assignment k s.tree in absurd (omega (arith, a, l))
all_sources (suc n) k (s ∷ w) l =
    let r = all_sources n (suc k) (w ++ part_of k s) (less_waits k s w n l) in
    (s ∷ r.0, ap (λ z. s ∷ z) (r.1 ∙ append_assoc w (part_of k s) (all_parts (suc k) r.0)))

pub sources_there : (w : List Source) → (x : List Source) × (x ≡ w ++ all_parts 0 x)
sources_there w = all_sources (total w) 0 w (omega arith)

module _ (ms : List (Name × Module)) (apart : IsApart ms) where
  one_reference : (M x : Name) (N : Option Name) (i j : ℕ) → Refers ms M N x (assigned.Type i) →
      Refers ms M N x (assigned.Type j) → i ≡ j
  one_reference M x N i j r q =
      let e : Some (assigned.Type i) ≡ Some (assigned.Type j) = sym (meaning_found ms M x (assigned.Type i) apart (refers_meaning ms M x N (assigned.Type i) r)) ∙ meaning_found ms M x (assigned.Type j) apart (refers_meaning ms M x N (assigned.Type j) q) in
      cc

  one_kind : (M : Name) (n : ℕ) (f : FormTree) (k l : WrittenKind) → IsKind ms M n f k → IsKind ms M n f l → k ≡ l
  one_kind M n (a_simple p) k l a b = a ∙ sym b
  one_kind M n (a_reference N x) k l a b = a.2 ∙ ap reference (one_reference M x N a.0 b.0 a.1 b.1) ∙ sym b.2
  one_kind M n (a_list y m us) k l a b = a ∙ sym b
  one_kind M n (an_elements e t) k l a b = a ∙ sym b
  one_kind M n (a_tagged g w t) k l a b = a ∙ sym b

  module _ (hs : List (Name × TagDefault)) (gs : List (ℕ × Name)) where
    one_top : (n : ℕ) (s : Source) (t u : Type') → IsTop ms hs gs n s t → IsTop ms hs gs n s u → t ≡ u
    one_top n s t u a b =
        let o : a.owner ≡ b.owner = ap (λ z. z.0) (same_Some (a.owner, a.assigns) (b.owner, b.assigns) (sym a.assigned ∙ b.assigned)) in
        let h = same_Some (a.within, t.default) (b.within, u.default) (sym a.header ∙ ap (λ k. slice_get hs k) o ∙ b.header) in
        let m : a.within ≡ b.within = ap (λ z. z.0) h in
        let d : t.default ≡ u.default = ap (λ z. z.1) h in
        let k : t.kind ≡ u.kind = one_kind b.within n (type_form s.tree) t.kind u.kind (subst (λ z. IsKind ms z n (type_form s.tree) t.kind) m a.kind) b.kind in
        let c : t.constraints ≡ u.constraints = a.constraints ∙ sym b.constraints in
        let p : t.place ≡ u.place = a.place ∙ sym b.place in
        let g : t.assignment ≡ u.assignment = a.assignment ∙ sym b.assignment in
        ap (λ z. record { kind = z; constraints = t.constraints; default = t.default; place = t.place; assignment = t.assignment }) k
        ∙ ap (λ z. record { kind = u.kind; constraints = z; default = t.default; place = t.place; assignment = t.assignment }) c
        ∙ ap (λ z. record { kind = u.kind; constraints = u.constraints; default = z; place = t.place; assignment = t.assignment }) d
        ∙ ap (λ z. record { kind = u.kind; constraints = u.constraints; default = u.default; place = z; assignment = t.assignment }) p
        ∙ ap (λ z. record { kind = u.kind; constraints = u.constraints; default = u.default; place = u.place; assignment = z }) g

    one_tops : (i n : ℕ) (ss : List Source) (ts us : List Type') → AreTops ms hs gs i n ss ts →
        AreTops ms hs gs i n ss us → ts ≡ us
    one_tops i n [] [] [] a b = refl
    one_tops i n [] [] (u ∷ us) a b = absurd b
    one_tops i n [] (t ∷ ts) us a b = absurd a
    one_tops i n (s ∷ ss) [] us a b = absurd a
    one_tops i n (s ∷ ss) (t ∷ ts) [] a b = absurd b
    one_tops i n (s ∷ ss) (t ∷ ts) (u ∷ us) a b =
        ap (λ z. z ∷ ts) (one_top n s t u a.0 b.0) ∙ ap (λ l. u ∷ l) (one_tops (suc i) (n + length (parts_of s.assignment i s.tree)) ss ts us a.1 b.1)

    pub lemma_one_table : (roots : List Source) (ts us : List Type') → AreNumberedTypes ms hs gs roots ts →
        AreNumberedTypes ms hs gs roots us → ts ≡ us
    lemma_one_table roots ts us a b =
        let s = one_sources 0 a.sources b.sources roots a.all b.all in
        one_tops 0 (length roots) a.sources ts us a.tops (subst (λ l. AreTops ms hs gs 0 (length roots) l us) (sym s) b.tops)
