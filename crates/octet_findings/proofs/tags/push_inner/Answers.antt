use Rattle.std.proofs.Common.{◌≡◌, ◌++◌, ◌∷◌, ◌+◌, ◌∙◌, ℕ, zero, suc, List, [], Some, refl, sym, ap, arith, drop, codes, string_bytes, append_assoc}
use Rattle.std.specs.Prelude.{slice_get}
use Rattle.std.proofs.lemmas.Option.{slice_get_read}
use Rattle.header_listing.specs.Words.{tag_words}
use Rattle.octet_findings.specs.Tags.{inner_tags}
use Rattle.octet_findings.proofs.tags.push_inner.Goals as goal

next_left : {A : Type 0} (xs : List A) (i : ℕ) (x : A) → slice_get xs i ≡ Some x → drop i xs ≡ x ∷ drop (i + 1) xs
next_left [] i x e = absurd cc
next_left (y ∷ xs) zero x e = let q : y ≡ x = cc in rw q refl
next_left (y ∷ xs) (suc i) x e = let q : suc i + 1 ≡ suc (i + 1) = omega arith in rw q (next_left xs i x e)

pub loop-i-preserved : goal.loop-i-preserved
loop-i-preserved c =
    let ts = c.args.tags.now in
    let i = c.loop-i.i in
    let t = c.index-tags-i.result in
    let before = string_bytes c.loop-i.words in
    let mark = codes " in constructed form, in it " in
    let after = inner_tags (drop (i + 1) ts) in
    let left = next_left ts i t (slice_get_read ts _ i t refl c.loop-i-test.true c.index-tags-i.is) in
    ap (λ z. z ++ after) (c.in_ok-push_tag.ensures ∙ ap (λ z. z ++ tag_words t) c.in_ok-push_str.ensures.bytes)
    ∙ append_assoc (before ++ mark) (tag_words t) after
    ∙ append_assoc before mark (tag_words t ++ after)
    ∙ ap (λ z. before ++ inner_tags z) (sym left)
    ∙ c.loop-i.invariant
