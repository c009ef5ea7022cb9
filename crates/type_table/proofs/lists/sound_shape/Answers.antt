use Rattle.std.proofs.Common.{Result, Ok, Err, OnOk, IfErr, MatchResult, map, subst}
use Rattle.type_table.specs.Lists.{IsSoundKind}
use Rattle.type_table.specs.Seen.{part_of}
use Rattle.type_table.specs.Table.{members as list_of}
use Rattle.type_table.specs.proving.Checks.{IsKindFault}
use Rattle.type_table.proofs.lists.sound_shape.Goals as goal

both : {A E : Type 0} (P : Type 0) (F : E → Type 0) (r : Result A E) → OnOk r P → IfErr r F → MatchResult r (λ _. P) F
both P F (Ok x) p f = p
both P F (Err e) p f = f

pub returns-in-Members-clause-sound : goal.returns-in-Members-clause-sound
returns-in-Members-clause-sound c =
    let says = c.list_members.ensures in
    let l = c.in-Members.field-0 in
    let m = c.in-Members.field-1 in
    let r = c.list_members.result in
    rw c.in-Members.is (subst (λ gs. MatchResult r (λ _. IsSoundKind (list_of l m (map part_of gs))) (IsKindFault c.args.within.now c.args.assigns.now (list_of l m (map part_of gs)))) c.deref.ensures.value (both _ _ r (says.good l m) (says.fault l m)))
