use Rattle.std.proofs.Common.{rules, arith, ◌≡◌, ◌<◌, string_bytes}
use Rattle.codec_code.specs.Listing.{routine_text, routines_text}
use Rattle.codec_code.proofs.Listed.{step}
use Rattle.codec_code.proofs.lines.listing.Goals as goal

pub loop-index-preserved : goal.loop-index-preserved
loop-index-preserved c =
    step c.args.code.now c.loop-index.index (string_bytes c.loop-index.out) (string_bytes c.push_routine.new.out)
    (routines_text c.args.code.now 0 c.args.code.now) (search rules) (search rules) c.loop-index.invariant
