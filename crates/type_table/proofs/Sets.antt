-- Sets of names and numbers, which one more is put into.
use Rattle.std.proofs.Common.{◌≡◌, ◌⊎◌, inl, inr, ℕ, suc, ◌<◌, ◌||◌, ◌++◌, Bool, true, false, cond, List, [], ◌∷◌, map, Some, refl, sym, ap, ◌∙◌, true≢false, string_bytes}
use Rattle.std.specs.Prelude.{slice_get, ℤ, ◌<ℤ◌, String, bytes_eq, if◌then◌else◌}
use Rattle.std.specs.Cmp.{IsTotalOrder}
use Rattle.std.specs.Global.{Global}
use Rattle.std.specs.List.{list_any}
use Rattle.std.specs.Ordering.{is_eq, MatchOrdering, nat_cmp, int_cmp}
use Rattle.std.specs.String.{string_eq}
use Rattle.std.specs.declared.cmp.Ordering.{Ordering}
use Rattle.std.specs.declared.cmp.Ordering.TheVariants.{Less, Equal, Greater}
use Rattle.std.proofs.lemmas.Cmp.{ranked, int_ranked, tied_itself}
use Rattle.std.proofs.lemmas.List.{map-append}
use Rattle.std.proofs.lemmas.Map.Keys.{any_passes_from_place}
use Rattle.indexmap.specs.IndexSet.{insert_key}
use Rattle.trees.specs.Values.{Name}
use Rattle.names.specs.Modules.{OccursIn}
use Rattle.names.specs.proving.Distinct.{mapped}
use Rattle.type_table.specs.proving.Checks.{texts}
use Rattle.type_table.specs.proving.Sets.{Puts}

-- ---- a test of all keys

here_or : {K A : Type 0} (f : K → A) (q : A) (test : K → Bool) (k : K) (ks : List K) (b : Bool) → test k ≡ b →
    ((k : K) → test k ≡ true → q ≡ f k) → (b || list_any test ks) ≡ true →
    (list_any test ks ≡ true → OccursIn (map f ks) q) → OccursIn (f k ∷ map f ks) q
here_or f q test k ks true e says h rest = (0, ap Some (sym (says k e)))
here_or f q test k ks false e says h rest = let r = rest h in (suc r.0, r.1)

pub any_true : {K A : Type 0} (f : K → A) (q : A) (test : K → Bool) (ks : List K) →
    ((k : K) → test k ≡ true → q ≡ f k) → list_any test ks ≡ true → OccursIn (map f ks) q
any_true f q test [] says h = absurd (true≢false (sym h))
any_true f q test (k ∷ ks) says h = here_or f q test k ks (test k) refl says h (any_true f q test ks says)

pub any_false : {K A : Type 0} (f : K → A) (q : A) (test : K → Bool) (ks : List K) →
    ((k : K) → q ≡ f k → test k ≡ true) → list_any test ks ≡ false → OccursIn (map f ks) q → ⊥
any_false f q test ks says h s =
    let m = mapped f ks s.0 q s.1 in
    true≢false (sym (any_passes_from_place test ks s.0 m.0 m.1 (says m.0 (sym m.2))) ∙ h)

same_list : {A : Type 0} (xs : List A) → map (λ x. x) xs ≡ xs
same_list [] = refl
same_list (x ∷ xs) = ap (λ q. x ∷ q) (same_list xs)

any_here : {A : Type 0} (q : A) (test : A → Bool) (ks : List A) → ((k : A) → test k ≡ true → q ≡ k) →
    list_any test ks ≡ true → OccursIn ks q
any_here q test ks says h = let s = any_true (λ k. k) q test ks says h in (s.0, ap (λ l. slice_get l s.0) (sym (same_list ks)) ∙ s.1)

-- ---- one name more

insert_new : {K : Type 0} (eq : K → K → Bool) (ks : List K) (k : K) → list_any (eq k) ks ≡ false →
    insert_key eq ks k ≡ ks ++ k ∷ []
insert_new eq ks k e = ap (λ b. if b then ks else ks ++ k ∷ []) e

pub added_text : (keys new : List (String Global)) (k : String Global) (x : Name) → string_bytes k ≡ x →
    list_any (λ y. bytes_eq x (string_bytes y)) keys ≡ false → new ≡ insert_key string_eq keys k →
    texts new ≡ texts keys ++ x ∷ []
added_text keys new k x q none e =
    let absent : list_any (string_eq k) keys ≡ false = ap (λ z. list_any (λ y. bytes_eq z (string_bytes y)) keys) q ∙ none in
    ap texts (e ∙ insert_new string_eq keys k absent) ∙ map-append string_bytes keys (k ∷ []) ∙ ap (λ z. texts keys ++ z ∷ []) q

-- ---- one number more

equal_by : (P Q R : Type 0) (o : Ordering) → is_eq o ≡ true → MatchOrdering o P Q R → Q
equal_by P Q R Less e m = absurd cc
equal_by P Q R Equal e m = m
equal_by P Q R Greater e m = absurd cc

pub nat_exact : (x y : ℕ) → is_eq (nat_cmp x y) ≡ true → x ≡ y
nat_exact x y e = equal_by (x < y) (x ≡ y) (y < x) (nat_cmp x y) e (ranked x y (nat_cmp x y) refl)

pub int_exact : (x y : ℤ) → is_eq (int_cmp x y) ≡ true → x ≡ y
int_exact x y e = equal_by (x <ℤ y) (x ≡ y) (y <ℤ x) (int_cmp x y) e (int_ranked x y (int_cmp x y) refl)

pub itself : {A : Type 0} {cmp : A → A → Ordering} → IsTotalOrder cmp → (x y : A) → x ≡ y → is_eq (cmp x y) ≡ true
itself {cmp = cmp} o x y e = ap (λ z. is_eq (cmp x z)) (sym e) ∙ ap is_eq (tied_itself o x)

module _ {A : Type 0} (cmp : A → A → Ordering) (o : IsTotalOrder cmp) (exact : (x y : A) → is_eq (cmp x y) ≡ true → x ≡ y) where
  pub has : (ks : List A) (x : A) → list_any (λ y. is_eq (cmp x y)) ks ≡ true → OccursIn ks x
  has ks x h = any_here x (λ y. is_eq (cmp x y)) ks (λ y e. exact x y e) h

  pub had : (ks : List A) (x : A) → OccursIn ks x → list_any (λ y. is_eq (cmp x y)) ks ≡ true
  had ks x s = any_passes_from_place (λ y. is_eq (cmp x y)) ks s.0 x s.1 (itself o x x refl)

  pub has_not : (ks : List A) (x : A) → list_any (λ y. is_eq (cmp x y)) ks ≡ false → OccursIn ks x → ⊥
  has_not ks x e s = let h = sym e ∙ had ks x s in absurd cc

  put_here : (old new : List A) (k y : A) (b : Bool) → is_eq (cmp k y) ≡ b →
      list_any (λ z. is_eq (cmp y z)) new ≡ cond b true (list_any (λ z. is_eq (cmp y z)) old) → OccursIn new y →
      OccursIn old y ⊎ (k ≡ y)
  put_here old new k y true e f s = inr (exact k y e)
  put_here old new k y false e f s = inl (has old y (sym f ∙ had new y s))

  pub puts : (old new : List A) (k : A) →
      ((q : A) → list_any (λ z. is_eq (cmp q z)) new
      ≡ cond (is_eq (cmp k q)) true (list_any (λ z. is_eq (cmp q z)) old)) →
      Puts old new k
  puts old new k f y = (
    put_here old new k y (is_eq (cmp k y)) refl (f y),
    λ s. has new y (f y ∙ elim s [ inl a ↦ either (is_eq (cmp k y)) (list_any (λ z. is_eq (cmp y z)) old) (had old y a) | inr e ↦ ap (λ b. cond b true (list_any (λ z. is_eq (cmp y z)) old)) (itself o k y e) ]),
  )
    where
      either : (b d : Bool) → d ≡ true → cond b true d ≡ true
      either true d e = refl
      either false d e = e
