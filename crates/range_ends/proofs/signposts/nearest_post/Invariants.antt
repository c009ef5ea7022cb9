use Rattle.std.proofs.Common.{ℕ, List, Option, map}
use Rattle.trees.specs.Types.{numbered_name}
use Rattle.names.specs.Names.{names_of}
use Rattle.resolve.specs.Program.{Program}
use Rattle.range_ends.specs.proving.Signs.{AreSigned, IsAhead, IsOneOf}
use Rattle.range_ends.proofs.Posts.{IsAmongFirst}
use Rattle.range_ends.proofs.signposts.nearest_post.Given as goal

abbrev pub invariant-loop-i : goal.invariant-loop-i
invariant-loop-i l = (p : Program) (os : List (Option ℕ)) →
    AreSigned p os l.signs →
    IsOneOf l.signs l.post →
    IsAhead p os (IsAmongFirst (names_of (map numbered_name l.numbers)) l.i) l.post l.nearest
