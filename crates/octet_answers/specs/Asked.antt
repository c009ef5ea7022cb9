-- Which question an answer belongs to.
use Rattle.codec_source.specs.Events.{Event, begins, ends, opens, closes, holds, skips, comes, more, among, picks}
use Rattle.codec_source.specs.Events.{Question, to_begin, to_end, to_open, to_close, to_hold, to_skip}
use Rattle.codec_source.specs.Events.{whether_comes, whether_more, which_comes, which_picked}

abbrev pub question_of : Event → Question
question_of (begins t) = to_begin t
question_of ends = to_end
question_of (opens h) = to_open h
question_of closes = to_close
question_of (holds k) = to_hold k
question_of skips = to_skip
question_of (comes f there) = whether_comes f
question_of (more t sorted there) = whether_more t sorted
question_of (among ss t) = which_comes ss
question_of (picks ss t) = which_picked ss
