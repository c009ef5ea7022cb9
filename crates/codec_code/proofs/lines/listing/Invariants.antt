use Rattle.std.proofs.Common.{◌≡◌, ◌++◌, drop, string_bytes}
use Rattle.codec_code.specs.Listing.{routines_text}
use Rattle.codec_code.proofs.lines.listing.Given as goal

abbrev pub invariant-loop-index : goal.invariant-loop-index
invariant-loop-index l =
    string_bytes l.out ++ routines_text l.code l.index (drop l.index l.code) ≡ routines_text l.code 0 l.code
