-- Each type in an assignment has a number, so a fault of the table excludes a table.
use Rattle.std.proofs.Common.{◌≡◌, ℕ, zero, suc, ◌+◌, ◌≤◌, List, [], length, Some, refl, sym, subst, ap, ◌∙◌, arith}
use Rattle.std.specs.Prelude.{slice_get}
use Rattle.std.proofs.lemmas.Option.{slice_get_within, same_Some}
use Rattle.trees.specs.Values.{Name}
use Rattle.trees.specs.declared.module.TagDefault.{TagDefault}
use Rattle.trees.specs.Types.{TypeTree, a_type, FormTree, a_simple, a_reference, a_list, an_elements, a_tagged, TypeMembers, no_member, member_and}
use Rattle.names.specs.declared.fault.NameFault.{NameFault}
use Rattle.names.specs.declared.fault.NameFault.TheVariants as faults
use Rattle.names.specs.declared.fault.Limit.TheVariants as limits
use Rattle.type_table.specs.Faults.{HasUnknown, IsCircularAt, IsTableFault}
use Rattle.names.specs.Faults.{fault_module, fault_name}
use Rattle.names.specs.Names.{Module, IsApart}
use Rattle.names.specs.Sources.{Source}
use Rattle.type_table.specs.Numbering.{type_form, member_sources, parts_of, all_parts, IsKind, RefersToNothing, AreNumberedTypes, Occurs, directly, inside}
use Rattle.type_table.specs.Table.{Type', WrittenKind, AllUnfold, IsCircular}
use Rattle.names.specs.proving.Distinct.{left, at_all}
use Rattle.type_table.proofs.Numbered.{at, part_there, as_long}
use Rattle.type_table.proofs.Once.{lemma_one_table}
use Rattle.type_table.proofs.Queue.{parts_of_one}
use Rattle.type_table.proofs.Knowing.{core_not_circular}

-- item k of a list is a source with this type and assignment
record Like (xs : List Source) (k : ℕ) (s : Source) : Type 0 where
  source : Source
  there : slice_get xs k ≡ Some source
  tree : source.tree ≡ s.tree
  assignment : source.assignment ≡ s.assignment

like_itself : (xs : List Source) (k : ℕ) (s : Source) → slice_get xs k ≡ Some s → Like xs k s
like_itself xs k s e = record { source = s; there = e; tree = refl; assignment = refl }

members_like : (a i j n : ℕ) (ms : TypeMembers) (k : ℕ) (s : Source) →
    slice_get (member_sources a i n ms) k ≡ Some s → Like (member_sources a j n ms) k s
members_like a i j n no_member k s e = absurd cc
members_like a i j n (member_and x t o g ms) zero s e =
    let q = same_Some (record { tree = t; assignment = a; place = Some (i, n) }) s e in
    record { source = record { tree = t; assignment = a; place = Some (j, n) }; there = refl; tree = ap (λ z. z.tree) q; assignment = ap (λ z. z.assignment) q }
members_like a i j n (member_and x t o g ms) (suc k) s e =
    let r = members_like a i j (suc n) ms k s e in
    record { source = r.source; there = r.there; tree = r.tree; assignment = r.assignment }

-- the parts of a type, whatever its number is
parts_like : (a i j : ℕ) (t : TypeTree) (k : ℕ) (s : Source) → slice_get (parts_of a i t) k ≡ Some s →
    Like (parts_of a j t) k s
parts_like a i j (a_type (a_simple p) cs) k s e = like_itself [] k s e
parts_like a i j (a_type (a_reference N x) cs) k s e = like_itself [] k s e
parts_like a i j (a_type (a_list l m us) cs) k s e = members_like a i j 0 us k s e
parts_like a i j (a_type (an_elements z t) cs) k s e = like_itself _ k s e
parts_like a i j (a_type (a_tagged g w t) cs) k s e = like_itself _ k s e

pub nothing_not : (ms : List (Name × Module)) (M : Name) (n : ℕ) (f : FormTree) (k : WrittenKind) (x : Name) →
    IsKind ms M n f k → RefersToNothing ms M f x → ⊥
nothing_not ms M n (a_simple p) k x a u = u
nothing_not ms M n (a_reference N y) k x a u = u.1 a.0 a.1
nothing_not ms M n (a_list l m us) k x a u = u
nothing_not ms M n (an_elements e t) k x a u = u
nothing_not ms M n (a_tagged g w t) k x a u = u

module _ (ms : List (Name × Module)) (hs : List (Name × TagDefault)) (gs : List (ℕ × Name)) (roots : List Source) (ts : List Type') (all : AreNumberedTypes ms hs gs roots ts) where
  -- a type of this assignment is numbered
  record Numbers (a : ℕ) (t : TypeTree) : Type 0 where
    k : ℕ
    source : Source
    there : slice_get all.sources k ≡ Some source
    tree : source.tree ≡ t
    assignment : source.assignment ≡ a

  numbers : (a : ℕ) (t : TypeTree) → Occurs roots a t → Numbers a t
  numbers a t (directly k s e q) = record { k = k; source = s; there = ap (λ l. slice_get l k) all.all ∙ left roots (all_parts 0 all.sources) k s e; tree = refl; assignment = q }
  numbers a t (inside {t = u} i k s o e) =
      let r = numbers a u o in
      let here = at ms hs gs 0 (length roots) r.k all.sources ts r.source all.tops r.there in
      let l = parts_like a i (0 + r.k) u k s e in
      let moved : slice_get (parts_of r.source.assignment (0 + r.k) r.source.tree) k ≡ Some l.source = ap (λ z. slice_get (parts_of z (0 + r.k) r.source.tree) k) r.assignment ∙ ap (λ z. slice_get (parts_of a (0 + r.k) z) k) r.tree ∙ l.there in
      let owned = at_all (λ x. x.assignment ≡ a) (parts_of a i u) k s (parts_of_one (λ x. x ≡ a) a i u refl) e in
      record {
        k = length roots + here.first + k;
        source = l.source;
        there = part_there ms hs gs roots ts all here.first k l.source (here.parts k l.source moved);
        tree = l.tree;
        assignment = l.assignment ∙ owned;
      }

  unknown_not : (M x : Name) → HasUnknown ms hs gs roots M x → ⊥
  unknown_not M x u =
      let r = numbers u.assignment u.tree u.occurs in
      let here = at ms hs gs 0 (length roots) r.k all.sources ts r.source all.tops r.there in
      let top = here.top in
      let o : top.owner ≡ u.owner = ap (λ z. z.0) (same_Some (top.owner, top.assigns) (u.owner, u.assigns) (sym top.assigned ∙ ap (λ k. slice_get gs k) r.assignment ∙ u.assigned)) in
      let h : top.within ≡ M = ap (λ z. z.0) (same_Some (top.within, here.t.default) (M, u.default) (sym top.header ∙ ap (λ k. slice_get hs k) o ∙ u.header)) in
      nothing_not ms M (length roots + here.first) (type_form u.tree) here.t.kind x (subst (λ z. IsKind ms M (length roots + here.first) (type_form z) here.t.kind) r.tree (subst (λ z. IsKind ms z (length roots + here.first) (type_form r.source.tree) here.t.kind) h top.kind)) u.unknown

  circular_not : IsApart ms → AllUnfold ts → (M x : Name) → IsCircularAt ms hs gs roots M x → ⊥
  circular_not apart unfolds M x c =
      let q = lemma_one_table ms apart hs gs roots c.types ts c.numbered all in
      let l = slice_get_within ts c.number c.written (ap (λ z. slice_get z c.number) (sym q) ∙ c.there) in
      let u = unfolds c.number l in
      core_not_circular ts c.number u.0 u.1 (subst (λ z. IsCircular z c.number) q c.circular)

  pub table_exclude : IsApart ms → length ts ≤ 65536 → AllUnfold ts → (e : NameFault) → (e ≡ faults.Memory → ⊥) →
      IsTableFault ms hs gs roots e → ⊥
  table_exclude apart few unfolds faults.Memory n f = n refl
  table_exclude apart few unfolds (faults.UnknownName z) n f = unknown_not (fault_module z) (fault_name z) f
  table_exclude apart few unfolds (faults.Circular z) n f = circular_not apart unfolds (fault_module z) (fault_name z) f
  table_exclude apart few unfolds (faults.Limit limits.Types z) n f = let g = f.more all.sources all.all in let w = slice_get_within all.sources 65536 g.0 g.1 in let l = as_long ms hs gs roots ts all in absurd (omega (arith, w, l, few))
  table_exclude apart few unfolds (faults.Limit limits.Modules z) n f = f
  table_exclude apart few unfolds (faults.Limit limits.Values z) n f = f
  table_exclude apart few unfolds (faults.Limit limits.Members z) n f = f
  table_exclude apart few unfolds (faults.Limit limits.Items z) n f = f
  table_exclude apart few unfolds (faults.Limit limits.NamedBit z) n f = f
  table_exclude apart few unfolds (faults.Limit limits.Integer z) n f = f
  table_exclude apart few unfolds (faults.Twice z) n f = f
  table_exclude apart few unfolds (faults.NotExported z) n f = f
  table_exclude apart few unfolds (faults.UnknownModule z) n f = f
