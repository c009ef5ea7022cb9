-- Each part of the text of a written type, for the first type of a table: a row for each field.
use Rattle.std.proofs.Common.{◌≡◌, List, [], ◌∷◌, map, Some, refl, sym, ap, ◌∙◌}
use Rattle.trees.specs.declared.types.Member.{Member}
use Rattle.trees.specs.declared.types.Simple.{Simple}
use Rattle.trees.specs.declared.types.TypeForm.TheVariants as forms
use Rattle.trees.specs.declared.types.ListKind.{ListKind}
use Rattle.std.specs.Prelude.{Bool, Vec}
use Rattle.std.specs.Global.{Global}
use Rattle.trees.specs.declared.types.TypeSyntax.{TypeSyntax}
use Rattle.trees.specs.declared.types.TypeSyntax.TheViews.{out-TypeSyntax}
use Rattle.type_table.specs.declared.table.ListMember.{ListMember}
use Rattle.type_table.specs.declared.table.Shape.TheVariants as shapes
use Rattle.type_table.specs.declared.table.TypeNode.{TypeNode}
use Rattle.type_table.specs.Written.{AreWrittenTypes, MemberText, TypeText, member_kept, member_written, members_kept, members_written, plain_kept, plain_written, text_kept, text_written}

heads : {X : Type 0} {x y : X} {xs ys : List X} → x ∷ xs ≡ y ∷ ys → x ≡ y
heads h = cc

some : {X : Type 0} {x y : X} → Some x ≡ Some y → x ≡ y
some h = cc

each_kept : {X : Type 0} (f : MemberText → X) (cs : List ListMember) →
    map f (map member_kept cs) ≡ map (λ (c : ListMember). f (member_kept c)) cs
each_kept f [] = refl
each_kept f (c ∷ cs) = ap (λ l. f (member_kept c) ∷ l) (each_kept f cs)

each_written : {X : Type 0} (f : MemberText → X) (ms : List (Member TypeSyntax)) →
    map f (map member_written ms) ≡ map (λ (m : Member TypeSyntax). f (member_written m)) ms
each_written f [] = refl
each_written f (m ∷ ms) = ap (λ l. f (member_written m) ∷ l) (each_written f ms)

module _ (t : TypeSyntax) (ts : List TypeSyntax) (w : TypeNode) (ws : List TypeNode)
    (a : AreWrittenTypes (t ∷ ts) (w ∷ ws)) where
  first_text : text_kept w ≡ text_written t
  first_text = heads (a.texts ∙ ap (map text_written) a.all)

  -- the type has its offset
  pub first_place : w.at ≡ (out-TypeSyntax t).at
  first_place = ap (λ (x : TypeText). x.at) first_text

  -- the constraints are those of the text, with their offsets
  pub first_constraints : w.constraints.items ≡ (out-TypeSyntax t).constraints.items
  first_constraints = ap (λ (x : TypeText). x.constraints) first_text

  -- the items, named numbers or named bits are those of the text, with their offsets
  pub first_plain : (s r : Simple) → w.shape ≡ shapes.Simple s → (out-TypeSyntax t).form ≡ forms.Simple r → s ≡ r
  first_plain s r e f = some (sym (ap plain_kept e) ∙ ap (λ (x : TypeText). x.plain) first_text ∙ ap plain_written f)

  module _ (k l : ListKind) (m n : Bool) (cs : Vec ListMember Global) (ms : Vec (Member TypeSyntax) Global)
      (e : w.shape ≡ shapes.Members k m cs) (f : (out-TypeSyntax t).form ≡ forms.List l n ms) where
    same_members : map member_kept cs.items ≡ map member_written ms.items
    same_members = sym (ap members_kept e) ∙ ap (λ (x : TypeText). x.members) first_text ∙ ap members_written f

    -- the names of members are those of the text, with their offsets
    pub first_names : map (λ (c : ListMember). c.name) cs.items ≡ map (λ (x : Member TypeSyntax). x.name) ms.items
    first_names =
        sym (each_kept (λ (x : MemberText). x.name) cs.items) ∙ ap (map (λ (x : MemberText). x.name)) same_members ∙ each_written (λ (x : MemberText). x.name) ms.items

    -- so are what is said of their presence, with the offsets in a DEFAULT, and their standing
    pub first_presences :
        map (λ (c : ListMember). c.presence) cs.items ≡ map (λ (x : Member TypeSyntax). x.presence) ms.items
    first_presences =
        sym (each_kept (λ (x : MemberText). x.presence) cs.items) ∙ ap (map (λ (x : MemberText). x.presence)) same_members ∙ each_written (λ (x : MemberText). x.presence) ms.items

    pub first_standings :
        map (λ (c : ListMember). c.standing) cs.items ≡ map (λ (x : Member TypeSyntax). x.standing) ms.items
    first_standings =
        sym (each_kept (λ (x : MemberText). x.standing) cs.items) ∙ ap (map (λ (x : MemberText). x.standing)) same_members ∙ each_written (λ (x : MemberText). x.standing) ms.items
