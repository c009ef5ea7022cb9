use Rattle.std.proofs.Common.{◌≡◌, ◌≤◌, length, Some, refl, sym, subst}
use Rattle.std.specs.Prelude.{slice_get}
use Rattle.std.proofs.lemmas.Bool.{ltb-false}
use Rattle.std.proofs.lemmas.Option.{slice_get_read, slice_get_past}
use Rattle.range_ends.proofs.signposts.post_in.Goals as goal

pub returns-in-None : goal.returns-in-None
returns-in-None c =
    let over : length c.deref.result.now ≤ c.args.place = ltb-false _ _ (sym c.in-None.ensures.lookup.0) in
    sym (slice_get_past c.args.signs.now.posts.items c.args.place (subst (λ z. length z ≤ c.args.place) c.deref.ensures.value over))

pub returns-in-Some : goal.returns-in-Some
returns-in-Some c =
    let l = c.in-Some.ensures.lookup in
    let x = c.in-Some.post.now in
    sym (subst (λ z. slice_get z c.args.place ≡ Some x) c.deref.ensures.value
    (slice_get_read c.deref.result.now _ c.args.place x refl l.3.0 l.1))
