-- What holds of components holds of the last run.
use Rattle.std.proofs.Common.{◌≡◌, Bool, true, false, List, [], ◌∷◌, subst, cond}
use Rattle.std.specs.List.{AllByRecursion}
use Rattle.asn_base.specs.Tags.{is_mandatory}
use Rattle.asn_base.specs.Types.{Component}
use Rattle.encodings.specs.Encoding.{any_mandatory, last_run}

-- a component that may be absent, and after which none must be present, is in the last run
pub in_last : (P : Component → Type 0) (c : Component) (cs : List Component) → any_mandatory cs ≡ false
    → is_mandatory c ≡ false → AllByRecursion P (last_run (c ∷ cs)) → P c
in_last P c cs e f a =
    (subst (λ q. AllByRecursion P (cond q cs (c ∷ cs))) f
    (subst (λ q. AllByRecursion P (cond q (last_run cs) (cond (is_mandatory c) cs (c ∷ cs)))) e a)).0

-- what holds of all components holds of the last run
pub all_last : (P : Component → Type 0) (ds : List Component) → AllByRecursion P ds → AllByRecursion P (last_run ds)
all_last P [] a = tt
all_last P (d ∷ ds) a = over P d ds (any_mandatory ds) (is_mandatory d) a (all_last P ds a.1)
  where
    over : (P : Component → Type 0) (d : Component) (ds : List Component) (t m : Bool) → AllByRecursion P (d ∷ ds)
        → AllByRecursion P (last_run ds) → AllByRecursion P (cond t (last_run ds) (cond m ds (d ∷ ds)))
    over P d ds true m a b = b
    over P d ds false true a b = a.1
    over P d ds false false a b = a

-- what holds of the last run holds of the last run of the rest
pub last_later : (P : Component → Type 0) (c : Component) (cs : List Component) → AllByRecursion P (last_run (c ∷ cs))
    → AllByRecursion P (last_run cs)
last_later P c cs a = by (any_mandatory cs) (is_mandatory c) a
  where
    by : (t m : Bool) → AllByRecursion P (cond t (last_run cs) (cond m cs (c ∷ cs))) → AllByRecursion P (last_run cs)
    by true m a = a
    by false true a = all_last P cs a
    by false false a = all_last P cs a.1
