use Rattle.std.proofs.Common.{◌≡◌, ◌++◌, drop, string_bytes}
use Rattle.type_listing.specs.Listing.{tag_words}
use Rattle.type_listing.proofs.tags.push_all.Given as goal

abbrev pub invariant-loop-i : goal.invariant-loop-i
invariant-loop-i l =
    string_bytes l.out ++ tag_words (drop l.i l.tags) ≡ string_bytes l.fn.out ++ tag_words l.tags
