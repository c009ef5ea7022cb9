-- Outcomes of readings, one after another.
use Rattle.std.proofs.Common.{◌≡◌, ℕ, suc, ◌+◌, ◌<◌, List, [], ◌∷◌, ◌++◌, Option, refl, sym, ap, length, map, subst, get_or, take}
use Rattle.std.specs.List.{AllZip}
use Rattle.asn_base.specs.Abstract.{AbstractValue}
use Rattle.trees.specs.declared.value.ValueSyntax.{ValueSyntax}
use Rattle.trees.specs.declared.value.Named.{Named}
use Rattle.trees.specs.Values.{Name, Tree, member_of, tree_of}
use Rattle.type_table.specs.declared.table.ListMember.{ListMember}
use Rattle.type_table.specs.Seen.{part_of}
use Rattle.type_table.specs.Table.{Part}
use Rattle.resolve.specs.Program.{Program, WrittenProgram}
use Rattle.typed_values.specs.declared.fault.ValueFault.{ValueFault}
use Rattle.typed_values.specs.Faults.{IsRightValueFault}
use Rattle.typed_values.specs.proving.Outcomes.{ShowsOption}
use Rattle.typed_values.specs.declared.levels.Defaults.{Defaults}
use Rattle.typed_values.specs.proving.Reading.{IsLater, Makes, MakeRow, MakeFields, MakesField, FailsInOne, FailsInField, IsWrongField}
use Rattle.typed_values.proofs.Rows.{none_yet, no_field_yet}
use Rattle.typed_values.proofs.Found.{found_as, found_both, found_here, found_later, found_none}
use Rattle.typed_values.proofs.Readings.{row_more, row_wrong, fields_more, fields_wrong}

zip_end : {A B : Type 0} (R : A → B → Type 0) (xs : List A) (ys : List B) (x : A) (y : B) →
    AllZip R xs ys → R x y → AllZip R (xs ++ x ∷ []) (ys ++ y ∷ [])
zip_end R [] [] x y z r = (r, tt)
zip_end R [] (b ∷ ys) x y z r = absurd z
zip_end R (a ∷ xs) [] x y z r = absurd z
zip_end R (a ∷ xs) (b ∷ ys) x y z r = (z.0, zip_end R xs ys x y z.1 r)

pub zip_count : {A B : Type 0} (R : A → B → Type 0) (xs : List A) (ys : List B) → AllZip R xs ys → length ys ≡ length xs
zip_count R [] [] z = refl
zip_count R [] (b ∷ ys) z = absurd z
zip_count R (a ∷ xs) [] z = absurd z
zip_count R (a ∷ xs) (b ∷ ys) z = ap suc (zip_count R xs ys z.1)

-- results under modules are results under the same modules
wrong_in : {v w : WrittenProgram} {levels left : ℕ} {os : List ℕ} {M : Name} {i : ℕ} {n : ValueSyntax} {f : ValueFault} →
    v ≡ w → IsRightValueFault v levels left os M i n f → IsRightValueFault w levels left os M i n f
wrong_in {v} {w} {levels} {left} {os} {M} {i} {n} {f} e h =
    subst (λ (x : WrittenProgram). IsRightValueFault x levels left os M i n f) e h

makes_in : {A : Type 0} {shows : A → AbstractValue → Type 0} {p q : Program} {levels before after : ℕ} {os : List ℕ}
    {M : Name} {i : ℕ} {n : Tree} {t : Defaults} {x : A} →
    q ≡ p → Makes shows q levels before after os M i n t x → Makes shows p levels before after os M i n t x
makes_in {A} {shows} {p} {q} {levels} {before} {after} {os} {M} {i} {n} {t} {x} e h =
    subst (λ (z : Program). Makes shows z levels before after os M i n t x) e h

makes_field_in : {A : Type 0} {shows : A → AbstractValue → Type 0} {p q : Program} {levels before after : ℕ}
    {os : List ℕ} {K N : Name} {fs : List (Name × Tree)} {c : Part} {t : Defaults} {x : Option A} →
    q ≡ p → MakesField shows q levels before after os K N fs c t x → MakesField shows p levels before after os K N fs c t x
makes_field_in {A} {shows} {p} {q} {levels} {before} {after} {os} {K} {N} {fs} {c} {t} {x} e h =
    subst (λ (z : Program). MakesField shows z levels before after os K N fs c t x) e h

wrong_field_in : {v w : WrittenProgram} {levels left : ℕ} {os : List ℕ} {K N : Name} {fs : List (Named ValueSyntax)}
    {c : ListMember} {f : ValueFault} →
    v ≡ w → IsWrongField v levels left os K N fs c f → IsWrongField w levels left os K N fs c f
wrong_field_in {v} {w} {levels} {left} {os} {K} {N} {fs} {c} {f} e h =
    subst (λ (x : WrittenProgram). IsWrongField x levels left os K N fs c f) e h

module _ {A : Type 0} (shows : A → AbstractValue → Type 0) (p : Program) (levels : ℕ) (os : List ℕ) where
  pub made_none : (left : ℕ) (M : Name) (a : ℕ) (t : Defaults) (xs : List A) → xs ≡ [] →
      MakeRow shows p levels left left os M a [] t xs
  made_none left M a t xs e = record {
    values = [];
    shown = subst (λ ys. AllZip shows ys []) (sym e) tt;
    mean = found_none (λ n qs l. none_yet p n qs M a left);
  }

  pub made_more : {before between after : ℕ} {q : Program} {ps : List ℕ} {M : Name} {a : ℕ} {t u : Defaults}
      (xs ys : List A) (x : A) (ns : List ValueSyntax) (i : ℕ) (n : ValueSyntax) →
      i < length ns → n ≡ get_or ns i n →
      ys ≡ xs ++ x ∷ [] →
      MakeRow shows p levels before between os M a (map tree_of (take i ns)) t xs →
      ps ≡ os →
      q ≡ p →
      IsLater t u →
      Makes shows q levels between after ps M a (tree_of n) u x →
      MakeRow shows p levels before after os M a (map tree_of (take (i + 1) ns)) u ys
  made_more xs ys x ns i n l e w r b d f g =
      let h = makes_in d g in
      record {
        values = r.values ++ h.value ∷ [];
        shown = subst (λ zs. AllZip shows zs (r.values ++ h.value ∷ [])) (sym w)
            (zip_end shows xs r.values x h.value r.shown h.shown);
        mean = found_both (found_later f r.mean) (found_as b h.read)
            (λ m qs j k. row_more r.values h.value ns i n l e j refl k);
      }

  pub fields_made_none : (left : ℕ) (K N : Name) (fs : List (Name × Tree)) (t : Defaults) (xs : List (Option A)) →
      xs ≡ [] → MakeFields shows p levels left left os K N fs [] t xs
  fields_made_none left K N fs t xs e = record {
    values = [];
    shown = subst (λ ys. AllZip (ShowsOption shows) ys []) (sym e) tt;
    mean = found_none (λ n qs l. no_field_yet p n qs K N fs left);
  }

  pub fields_made_more : {before between after : ℕ} {q : Program} {ps : List ℕ} {K N : Name} {fs : List (Name × Tree)}
      {t u : Defaults} (xs ys : List (Option A)) (x : Option A) (ms : List ListMember) (i : ℕ) (m : ListMember) →
      i < length ms → m ≡ get_or ms i m →
      ys ≡ xs ++ x ∷ [] →
      MakeFields shows p levels before between os K N fs (map part_of (take i ms)) t xs →
      ps ≡ os →
      q ≡ p →
      IsLater t u →
      MakesField shows q levels between after ps K N fs (part_of m) u x →
      MakeFields shows p levels before after os K N fs (map part_of (take (i + 1) ms)) u ys
  fields_made_more xs ys x ms i m l e w r b d f g =
      let h = makes_field_in d g in
      record {
        values = r.values ++ h.value ∷ [];
        shown = subst (λ zs. AllZip (ShowsOption shows) zs (r.values ++ h.value ∷ [])) (sym w)
            (zip_end (ShowsOption shows) xs r.values x h.value r.shown h.shown);
        mean = found_both (found_later f r.mean) (found_as b h.field)
            (λ n qs j k. fields_more r.values h.value ms i m l e j refl k h.counted);
      }

module _ {A : Type 0} (shows : A → AbstractValue → Type 0) (w : WrittenProgram) (levels : ℕ) (os : List ℕ) where
  pub made_wrong : {before between : ℕ} {v : WrittenProgram} {ps : List ℕ} {M : Name} {a : ℕ} {t : Defaults}
      {f : ValueFault} (xs : List A) (ns : List ValueSyntax) (i : ℕ) (n : ValueSyntax) →
      i < length ns → n ≡ get_or ns i n →
      MakeRow shows w.program levels before between os M a (map tree_of (take i ns)) t xs →
      ps ≡ os →
      v ≡ w →
      IsRightValueFault v levels between ps M a n f →
      FailsInOne w levels before os M a ns f
  made_wrong xs ns i n l e r b d h = row_wrong r.values ns i n l e (found_here r.mean) b (wrong_in d h)

  pub fields_made_wrong : {before between : ℕ} {v : WrittenProgram} {ps : List ℕ} {K N : Name}
      {fs : List (Named ValueSyntax)} {t : Defaults} {f : ValueFault} (xs : List (Option A)) (ms : List ListMember)
      (i : ℕ) (m : ListMember) →
      i < length ms → m ≡ get_or ms i m →
      MakeFields shows w.program levels before between os K N (map member_of fs) (map part_of (take i ms)) t xs →
      ps ≡ os →
      v ≡ w →
      IsWrongField v levels between ps K N fs m f →
      FailsInField w levels before os K N fs ms f
  fields_made_wrong xs ms i m l e r b d h = fields_wrong r.values ms i m l e (found_here r.mean) b (wrong_field_in d h)
