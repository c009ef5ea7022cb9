-- Worked rows of lines of standard input, and what each part of a conclusion about them says, in full.
use Rattle.std.proofs.Common.{arith, ◌≡◌, ◌⊎◌, ℕ, ◌≤◌, ◌<◌, List, [], ◌++◌, Bool, true, false, Option, Some, None, IfSome, Ok, map, flat_map, refl}
use Rattle.std.specs.Prelude.{codes, length, string_bytes, String}
use Rattle.std.specs.List.{list_all}
use Rattle.std.specs.Fmt.{digits}
use Rattle.std.specs.declared.alloc.Global.{Global}
use Rattle.hex.specs.Hex.{decode_of, encode_upper}
use Rattle.asn_base.specs.Types.{Resolved}
use Rattle.encodings.specs.Rules.{Rules}
use Rattle.input_lines.specs.Lines.{lines_of}
use Rattle.resolve.specs.Program.{Program}
use Rattle.asnc.specs.front_end.Accepted.{Accepted, AreAccepted, octets_of}
use Rattle.asnc.specs.Kits.{IsNotOpened}
use Rattle.asnc.specs.Packing.{IsPacked}
use Rattle.asnc.specs.Reading.{IsNotReadAs, IsReadAs}
use Rattle.asnc.specs.Unpacking.{IsNotUnpackedAs, IsUnpackedAs}
use Rattle.asnc.specs.Writing.{IsEncoded}
use Rattle.asnc.specs.declared.reading.Rules.TheVariants as asked
use Rattle.command_line.specs.declared.request.Given.TheVariants as given
use Rattle.command_line.specs.declared.request.Job.{Job}
use Rattle.command_line.specs.declared.request.ValueWords.TheVariants as value_words
use Rattle.command_line.specs.declared.request.Verb.TheVariants as verbs
use Rattle.check_jobs.specs.Inputs.{line_of}
use Rattle.check_jobs.specs.declared.inputs.Inputs.{Inputs}
use Rattle.asnc.specs.messages.declared.fault.Fault.{Fault}
use Rattle.asnc.specs.messages.declared.fault.Fault.TheVariants as faults
use Rattle.asnc.specs.named_values.Given.{written}
use Rattle.asnc.specs.named_values.Meant.{IsNoType, no_type}
use Rattle.asnc.specs.named_values.Named.{TypeNamed}
use Rattle.diagnostics.specs.Heading.{Begins}
use Rattle.sinks.specs.Sent.{SinkState, SentAll, SentFront}
use Rattle.jobs.specs.Answers.{HasEndInText, IsLineAnswer, IsBerText, IsDerText, IsLineRefused, IsMarkedReport, IsNotBerLine, IsNotHexadecimal}
use Rattle.jobs.specs.Answers.{IsNotUnperLine, IsRefusalText, IsAnswerText, IsUnperText, IsUperText, RefusesLine, comment_of, digits_of}
use Rattle.jobs.specs.Answers.{has_end, line_command_of, line_heading, without_ends}
use Rattle.jobs.specs.Streams.{AreAnswers, AreLinesDone, AreLinesDoneInPart, AreLinesStopped, AreReplies, EndsStream}
use Rattle.jobs.specs.Streams.{IsNotBegun, IsStopped, IsStreamed, IsStreamedInPart, LacksNamedType, Stream, stream_in}
use Rattle.jobs.specs.declared.commands_of_lines.LineCommand.{LineCommand}
use Rattle.jobs.specs.declared.commands_of_lines.LineCommand.TheVariants as commands
use Rattle.jobs.specs.declared.refusals.LineFault.{LineFault}
use Rattle.jobs.specs.declared.refusals.LineFault.TheVariants as line_faults

-- ---- commands

der_lines : line_command_of verbs.Der value_words.Lines given.Nothing false ≡ Some commands.Der
der_lines = refl

uper_lines : line_command_of verbs.Uper value_words.Lines given.Nothing false ≡ Some commands.Uper
uper_lines = refl

ber_lines : line_command_of verbs.Ber value_words.Nothing given.Lines false ≡ Some (commands.Ber asked.Ber)
ber_lines = refl

strict_lines : line_command_of verbs.Ber value_words.Nothing given.Lines true ≡ Some (commands.Ber asked.Der)
strict_lines = refl

unper_lines : line_command_of verbs.Unper value_words.Nothing given.Lines false ≡ Some commands.Unper
unper_lines = refl

one_value : (s : String Global) → line_command_of verbs.Der (value_words.Named s) given.Nothing false ≡ None
one_value s = refl

a_list : line_command_of verbs.List value_words.Nothing given.Nothing false ≡ None
a_list = refl

-- ---- texts

none_skipped : comment_of 0 ≡ []
none_skipped = refl

some_skipped : comment_of 12 ≡ codes " -- skipped 12"
unfolding digits
some_skipped = refl

carriage_return : digits_of (codes "0500\r") ≡ codes "0500"
carriage_return = refl

one_of_two : digits_of (codes "05\r\r") ≡ codes "05\r"
one_of_two = refl

no_carriage_return : digits_of (codes "0500") ≡ codes "0500"
no_carriage_return = refl

an_end : has_end (codes "a\nb") ≡ true
an_end = refl

no_end : has_end (codes "a b\r") ≡ false
no_end = refl

an_end_as_a_space : without_ends (codes "a\nb") ≡ codes "a b"
an_end_as_a_space = refl

too_long : line_heading line_faults.Limit ≡ codes "error 2 Limit(Line)"
too_long = refl

end_in_an_answer : line_heading line_faults.LineEnd ≡ codes "error 73 LineEnd"
end_in_an_answer = refl

-- ---- what a command prints of a line

module _ (p : Program) (s : List Resolved) (ty line text : List ℕ) (r : IsDerText p s ty line text) where
  der_octets : IsEncoded p s ty (written line) r.octets r.account
  der_octets = r.encoded

  der_digits : text ≡ encode_upper r.octets
  der_digits = r.text_is

module _ (p : Program) (s : List Resolved) (ty line text : List ℕ) (r : IsUperText p s ty line text) where
  uper_octets : IsPacked p s ty (written line) r.octets
  uper_octets = r.packed

  uper_digits : text ≡ encode_upper r.octets
  uper_digits = r.text_is

module _ (p : Program) (s : List Resolved) (u : Rules) (ty line text : List ℕ) (r : IsBerText p s u ty line text) where
  ber_octets : decode_of (digits_of line) ≡ Ok r.octets
  ber_octets = r.digits

  ber_value : IsReadAs p s u ty r.octets r.printed r.skipped
  ber_value = r.read

  ber_text : text ≡ r.printed ++ comment_of r.skipped
  ber_text = r.text_is

module _ (p : Program) (s : List Resolved) (ty line text : List ℕ) (r : IsUnperText p s ty line text) where
  unper_octets : decode_of (digits_of line) ≡ Ok r.octets
  unper_octets = r.digits

  unper_value : IsUnpackedAs p s ty r.octets r.printed r.skipped
  unper_value = r.read

  unper_text : text ≡ r.printed ++ comment_of r.skipped
  unper_text = r.text_is

-- ---- refusals and answers

module _ (p : Program) (s : List Resolved) (u : Rules) (ty line : List ℕ) (e : Fault) (r : IsNotBerLine p s u ty line e) where
  refused_octets : decode_of (digits_of line) ≡ Ok r.octets
  refused_octets = r.digits

  refused_value : IsNotReadAs p s u ty r.octets e
  refused_value = r.refused

module _ (p : Program) (s : List Resolved) (ty line : List ℕ) (e : Fault) (r : IsNotUnperLine p s ty line e) where
  refused_bits : decode_of (digits_of line) ≡ Ok r.octets
  refused_bits = r.digits

  refused_packed : IsNotUnpackedAs p s ty r.octets e
  refused_packed = r.refused

module _ (c : LineCommand) (p : Program) (s : List Resolved) (ty line : List ℕ) (r : HasEndInText c p s ty line) where
  text_with_an_end : IsAnswerText c p s ty line r.text
  text_with_an_end = r.text_of

  end_in_it : has_end r.text ≡ true
  end_in_it = r.ends

module _ (c : LineCommand) (p : Program) (s : List Resolved) (ty line : List ℕ) where
  -- a line of more than 33,554,432 octets is refused for that alone
  long_line_has_one_fault : (f : LineFault) → IsLineRefused c p s ty line f → 33554432 < length line
      → f ≡ line_faults.Limit
  long_line_has_one_fault line_faults.Limit r h = refl
  long_line_has_one_fault line_faults.LineEnd r h = absurd (let few = r.0 in omega (arith, few, h))
  long_line_has_one_fault (line_faults.Refused e) r h = absurd (let few = r.0 in omega (arith, few, h))

  -- a line that isn't too long is refused for its answer or by its command
  refusal_of_a_line_end : IsLineRefused c p s ty line line_faults.LineEnd → HasEndInText c p s ty line
  refusal_of_a_line_end r = r.1

  refusal_by_the_command : (e : Fault) → IsLineRefused c p s ty line (line_faults.Refused e)
      → RefusesLine c p s ty line e
  refusal_by_the_command e r = r.1

module _ (f : LineFault) (text : List ℕ) (r : IsMarkedReport f text) where
  report_begins : Begins (line_heading f) r.report
  report_begins = r.begins

  mark : text ≡ codes "! " ++ without_ends r.report
  mark = r.text_is

module _ (c : LineCommand) (p : Program) (s : List Resolved) (ty line text : List ℕ)
    (r : IsRefusalText c p s ty line text) where
  refusal_is_true : IsLineRefused c p s ty line r.fault
  refusal_is_true = r.refused

  refusal_is_no_memory : r.fault ≡ line_faults.Refused faults.Memory → ⊥
  refusal_is_no_memory = r.no_memory

  refusal_text : IsMarkedReport r.fault text
  refusal_text = r.marked

module _ (c : LineCommand) (p : Program) (s : List Resolved) (ty line : List ℕ) (yes : Bool) (out : List ℕ)
    (r : IsLineAnswer c p s ty line yes out) where
  answer_ends : out ≡ line_of r.text
  answer_ends = r.output_is

  answer_is_one_line : has_end r.text ≡ false
  answer_is_one_line = r.one_line

  answered_line_is_short : yes ≡ true → length line ≤ 33554432
  answered_line_is_short = r.short

  answer_of_a_line : yes ≡ true → IsAnswerText c p s ty line r.text
  answer_of_a_line = r.prints

  answer_of_a_refused_line : yes ≡ false → IsRefusalText c p s ty line r.text
  answer_of_a_refused_line = r.refuses

-- ---- streams

module _ (m : Stream) (ls : List (List ℕ)) (yes : Bool) (out : List ℕ) (r : AreAnswers m ls yes out) where
  one_answer_a_line : AreReplies m ls r.replies
  one_answer_a_line = r.each

  answers_in_order : out ≡ flat_map (λ q. q.output) r.replies
  answers_in_order = r.joined

  answers_without_refusals : yes ≡ list_all (λ q. q.yes) r.replies
  answers_without_refusals = r.all

module _ (m : Stream) (i : Option (List ℕ)) (yes : Bool) (a b : SinkState) (r : IsStreamed m i yes a b) where
  all_lines : IfSome i (λ xs. r.lines ≡ lines_of xs)
  all_lines = r.whole

  all_answers : AreAnswers m r.lines yes r.output
  all_answers = r.answers

  all_sent : SentAll a b r.output
  all_sent = r.sent

module _ (m : Stream) (i : Option (List ℕ)) (n : ℕ) (a b : SinkState) (r : IsStreamedInPart m i n a b) where
  lines_of_a_part : IfSome i (λ xs. (others : List (List ℕ)) × (lines_of xs ≡ r.lines ++ others))
  lines_of_a_part = r.first

  answers_of_a_part : AreAnswers m r.lines r.yes r.output
  answers_of_a_part = r.answers

  part_that_went_out : SentFront a b r.output n
  part_that_went_out = r.sent

module _ (m : Stream) (i : Option (List ℕ)) (a b : SinkState) (e : Fault) (r : IsStopped m i a b e) where
  lines_before_a_stop : IfSome i (λ xs. (others : List (List ℕ)) × (lines_of xs ≡ r.lines ++ others))
  lines_before_a_stop = r.first

  answers_before_a_stop : AreAnswers m r.lines r.yes r.output
  answers_before_a_stop = r.answers

  whole_answers_before_a_stop : SentAll a b r.output
  whole_answers_before_a_stop = r.sent

  fault_of_a_stop : EndsStream e
  fault_of_a_stop = r.ends

-- ---- jobs that take lines

module _ (j : Job) (x : Inputs) (c : LineCommand) (i : Option (List ℕ)) (yes : Bool) (a b : SinkState)
    (r : AreLinesDone j x c i yes a b) where
  texts_of_lines : Accepted (map octets_of x.files.items) r.program r.types
  texts_of_lines = r.accepted

  type_of_lines : (t : ℕ) × TypeNamed r.program (string_bytes j.ty) t
  type_of_lines = r.named

  lines_in_the_program : IsStreamed (stream_in c r.program r.types j) i yes a b
  lines_in_the_program = r.streamed

module _ (j : Job) (x : Inputs) (c : LineCommand) (i : Option (List ℕ)) (n : ℕ) (a b : SinkState)
    (r : AreLinesDoneInPart j x c i n a b) where
  texts_of_a_part : Accepted (map octets_of x.files.items) r.program r.types
  texts_of_a_part = r.accepted

  type_of_a_part : (t : ℕ) × TypeNamed r.program (string_bytes j.ty) t
  type_of_a_part = r.named

  part_in_the_program : IsStreamedInPart (stream_in c r.program r.types j) i n a b
  part_in_the_program = r.streamed

module _ (j : Job) (x : Inputs) (c : LineCommand) (i : Option (List ℕ)) (a b : SinkState) (e : Fault)
    (r : AreLinesStopped j x c i a b e) where
  texts_before_a_stop : Accepted (map octets_of x.files.items) r.program r.types
  texts_before_a_stop = r.accepted

  type_before_a_stop : (t : ℕ) × TypeNamed r.program (string_bytes j.ty) t
  type_before_a_stop = r.named

  stop_in_the_program : IsStopped (stream_in c r.program r.types j) i a b e
  stop_in_the_program = r.stopped

module _ (j : Job) (x : Inputs) (e : Fault) (r : LacksNamedType j x e) where
  texts_without_the_type : AreAccepted (map octets_of x.files.items) r.program
  texts_without_the_type = r.accepted

  type_that_lacks : IsNoType r.program (string_bytes j.ty) e
  type_that_lacks = r.unnamed

-- no line is answered for a fault of the texts, or since the job names no type; nothing else is the reason
not_begun : (j : Job) (x : Inputs) (e : Fault)
    → IsNotBegun j x e
    → IsNotOpened (map octets_of x.files.items) e ⊎ LacksNamedType j x e
not_begun j x e h = h

name_of_none : (p : Program) (n : List ℕ) (x : String Global)
    → IsNoType p n (faults.NoType x)
    → (string_bytes x ≡ n) × ((t : ℕ) → TypeNamed p n t → ⊥)
name_of_none p n x (no_type is none) = (is, none)

-- a line that is refused as no hexadecimal isn't the digits of octets
no_digits : (line o : List ℕ) (w : String Global)
    → IsNotHexadecimal line (faults.BadWords w)
    → decode_of (digits_of line) ≡ Ok o
    → ⊥
no_digits line o w h e = h o e
