-- Encodings in some order, those of known components and of the others apart; and octets below 256.
use Rattle.std.proofs.Common.{arith, ◌≡◌, ℕ, suc, List, [], ◌∷◌, ◌++◌, length, refl, ap, ◌∙◌}
use Rattle.std.specs.List.{concat, AllByRecursion}
use Rattle.std.specs.Int.Digits.{AllBelowBase}
use Rattle.asn_base.specs.declared.tag.Tag.{Tag}
use Rattle.std.proofs.Common.{Bool}
use Rattle.encodings.specs.Rules.{Rules}
use Rattle.encodings.specs.Orders.{EncodingInserted, here, there, Permutes, permutes_none, permutes_more, Merges, merges_none, merges_first, merges_second}
use Rattle.encodings.specs.Encoding.{Framed, bare, innermost, outer}

-- ---- octets below 256

abbrev pub Below : List ℕ → Type 0
Below o = AllBelowBase 256 o

pub below_rest : (a b : List ℕ) → Below (a ++ b) → Below b
below_rest [] b f = f
below_rest (x ∷ a) b f = below_rest a b f.1

pub below_front : (a b : List ℕ) → Below (a ++ b) → Below a
below_front [] b f = tt
below_front (x ∷ a) b f = (f.0, below_front a b f.1)

pub below_each : (xs : List (List ℕ)) → Below (concat xs) → AllByRecursion Below xs
below_each [] f = tt
below_each (x ∷ xs) f = (below_front x (concat xs) f, below_each xs (below_rest x (concat xs) f))

pub below_framed : {r : Rules} {ts : List Tag} {c : Bool} {x o : List ℕ} → Framed r ts c x o → Below o → Below x
below_framed bare f = f
below_framed (innermost {h = h} {x = x} a) f = below_rest h x f
below_framed (outer {h = h} {y = y} w a) f = below_framed w (below_rest h y f)

-- ---- lists

pub all_front : (P : List ℕ → Type 0) (xs ys : List (List ℕ)) → AllByRecursion P (xs ++ ys) → AllByRecursion P xs
all_front P [] ys a = tt
all_front P (x ∷ xs) ys a = (a.0, all_front P xs ys a.1)

inserted_all : (P : List ℕ → Type 0) {x : List ℕ} {ys zs : List (List ℕ)} → EncodingInserted x ys zs → AllByRecursion P zs → P x × AllByRecursion P ys
inserted_all P here a = (a.0, a.1)
inserted_all P (there i) a = let r = inserted_all P i a.1 in (r.0, (a.0, r.1))

inserted_back : (P : List ℕ → Type 0) {x : List ℕ} {ys zs : List (List ℕ)} → EncodingInserted x ys zs → P x → AllByRecursion P ys → AllByRecursion P zs
inserted_back P here p a = (p, a)
inserted_back P (there i) p a = (a.0, inserted_back P i p a.1)

pub permuted_back : (P : List ℕ → Type 0) {xs zs : List (List ℕ)} → Permutes xs zs → AllByRecursion P zs → AllByRecursion P xs
permuted_back P permutes_none a = tt
permuted_back P (permutes_more p i) a = let r = inserted_all P i a in (r.0, permuted_back P p r.1)

pub permuted : (P : List ℕ → Type 0) {xs zs : List (List ℕ)} → Permutes xs zs → AllByRecursion P xs → AllByRecursion P zs
permuted P permutes_none a = tt
permuted P (permutes_more p i) a = inserted_back P i a.0 (permuted P p a.1)

inserted_long : {x : List ℕ} {ys zs : List (List ℕ)} → EncodingInserted x ys zs → length zs ≡ suc (length ys)
inserted_long here = refl
inserted_long (there i) = ap suc (inserted_long i)

pub permuted_long : {xs zs : List (List ℕ)} → Permutes xs zs → length zs ≡ length xs
permuted_long permutes_none = refl
permuted_long (permutes_more p i) = inserted_long i ∙ ap suc (permuted_long p)

-- nothing is mixed in
pub merged_alone : {zs us ys : List (List ℕ)} → Merges zs us ys → us ≡ [] → ys ≡ zs
merged_alone merges_none e = refl
merged_alone (merges_first {x = x} m) e = ap (λ q. x ∷ q) (merged_alone m e)
merged_alone (merges_second m) e = absurd (let l = ap length e in omega (arith, l))

-- ---- two parts of a list in some order

record Taken (x : List ℕ) (zk zm zs : List (List ℕ)) : Type 0 where
  list : List (List ℕ)
  inserted : EncodingInserted x zk list
  merged : Merges list zm zs

taken : {x : List ℕ} {zk zm ys zs : List (List ℕ)} → EncodingInserted x ys zs → Merges zk zm ys → Taken x zk zm zs
taken {x} {zk} here m = record { list = x ∷ zk; inserted = here; merged = merges_first m }
taken (there i) (merges_first {x = y} m) = let t = taken i m in record { list = y ∷ t.list; inserted = there t.inserted; merged = merges_first t.merged }
taken (there i) (merges_second m) = let t = taken i m in record { list = t.list; inserted = t.inserted; merged = merges_second t.merged }

pub record Parted (ks ms zs : List (List ℕ)) : Type 0 where
  pub known : List (List ℕ)
  pub more : List (List ℕ)
  pub first : Permutes ks known
  pub second : Permutes ms more
  pub merged : Merges known more zs

all_second : (zs : List (List ℕ)) → Merges [] zs zs
all_second [] = merges_none
all_second (z ∷ zs) = merges_second (all_second zs)

pub parted : (ks ms : List (List ℕ)) {zs : List (List ℕ)} → Permutes (ks ++ ms) zs → Parted ks ms zs
parted [] ms {zs} p = record { known = []; more = zs; first = permutes_none; second = p; merged = all_second zs }
parted (k ∷ ks) ms (permutes_more p i) =
    let r = parted ks ms p in
    let t = taken i r.merged in
    record { known = t.list; more = r.more; first = permutes_more r.first t.inserted; second = r.second; merged = t.merged }
