use Rattle.std.proofs.Common.{◌≡◌, length, refl, subst, arith}
use Rattle.range_ends.specs.declared.signposts.Signposts.{Signposts}
use Rattle.range_ends.specs.proving.Posting.{IsMade}
use Rattle.range_ends.proofs.Posts.{signed_more, made_shows}
use Rattle.range_ends.proofs.posting.add_post.Goals as goal

pub returns : goal.returns
returns c =
    let p = c.args.linked.now.program in
    let os = c.args.target.now in
    let s = c.args.signs.now in
    let post = c.in_ok-post.post in
    let after = c.post_after-after.result in
    let t : Signposts = record { names = s.names; forks = c.new_post.new.forks; posts = c.push.new.self; places = c.set_place.new.places } in
    let same = c.len-place.ensures in
    let many = s.posts.ok.0 in
    let q : c.len-place.result ≡ length s.posts.items = omega (arith, same, many) in
    let made = subst (λ i. IsMade s.forks t.forks i c.args.value c.label-key.result after post) q c.in_ok-post.ensures.made in
    signed_more p os s t post refl c.in_ok-post.ensures.kept c.in_ok-push.ensures.items c.requires.signed
    (made_shows p os s t post refl c.in_ok-post.ensures.kept c.in_ok-push.ensures.items c.args.value c.label-key.result after
    c.requires.signed c.label-key.ensures c.post_after-after.ensures.there c.post_after-after.ensures.refers made)
