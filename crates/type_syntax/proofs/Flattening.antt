-- The members of a list, one after the other.
use Rattle.std.proofs.Common.{◌≡◌, ℕ, suc, ◌+◌, ◌⊎◌, inl, inr, List, [], ◌∷◌, ◌++◌, map, Some, None, sym, ap, subst, arith, ◌∙◌ as ◌⋆◌, append_assoc}
use Rattle.trees.specs.Values.{Name}
use Rattle.trees.specs.declared.types.Standing.TheVariants as standings
use Rattle.trees.specs.Types.{MemberTree}
use Rattle.type_syntax.specs.TypeGrammar.{ComponentTree, a_member, addition_members}

-- the members so far and those of the parts that are left are all members
pub part_taken : {A B : Type 0} (f : B → MemberTree) (g : A → B) (members members' whole : List MemberTree)
    (left left' : List A) (x : A)
    → left ≡ x ∷ left'
    → members' ≡ members ++ f (g x) ∷ []
    → members ++ map f (map g left) ≡ whole
    → members' ++ map f (map g left') ≡ whole
part_taken f g members members' whole left left' x e d h =
    ap (λ (l : List MemberTree). l ++ map f (map g left')) d ⋆ append_assoc members (f (g x) ∷ []) (map f (map g left'))
    ⋆ ap (λ (l : List _). members ++ map f (map g l)) (sym e) ⋆ h

abbrev pub Added : Type 0
Added = (Name × ComponentTree) ⊎ List (Name × ComponentTree)

pub alone_taken : {A : Type 0} (g : A → Added) (members members' whole : List MemberTree) (left left' : List A) (n : ℕ)
    (x : A) (m : Name × ComponentTree)
    → left ≡ x ∷ left'
    → g x ≡ inl m
    → members' ≡ members ++ a_member (standings.Addition None) m ∷ []
    → members ++ addition_members n (map g left) ≡ whole
    → members' ++ addition_members n (map g left') ≡ whole
alone_taken g members members' whole left left' n x m e i d h =
    let rest = map g left' in
    ap (λ (l : List MemberTree). l ++ addition_members n rest) d
    ⋆ append_assoc members (a_member (standings.Addition None) m ∷ []) (addition_members n rest)
    ⋆ ap (λ (y : Added). members ++ addition_members n (y ∷ rest)) (sym i)
    ⋆ ap (λ (l : List _). members ++ addition_members n (map g l)) (sym e) ⋆ h

pub bracket_taken : {A : Type 0} (g : A → Added) (members members' whole : List MemberTree) (left left' : List A) (n : ℕ)
    (x : A) (ms : List (Name × ComponentTree))
    → left ≡ x ∷ left'
    → g x ≡ inr ms
    → members' ≡ members ++ map (a_member (standings.Addition (Some n))) ms
    → members ++ addition_members n (map g left) ≡ whole
    → members' ++ addition_members (n + 1) (map g left') ≡ whole
bracket_taken g members members' whole left left' n x ms e i d h =
    let rest = map g left' in
    let one_more : suc n ≡ n + 1 = omega arith in
    subst (λ k. members' ++ addition_members k rest ≡ whole) one_more
    (ap (λ (l : List MemberTree). l ++ addition_members (suc n) rest) d
    ⋆ append_assoc members (map (a_member (standings.Addition (Some n))) ms) (addition_members (suc n) rest)
    ⋆ ap (λ (y : Added). members ++ addition_members n (y ∷ rest)) (sym i)
    ⋆ ap (λ (l : List _). members ++ addition_members n (map g l)) (sym e) ⋆ h)
