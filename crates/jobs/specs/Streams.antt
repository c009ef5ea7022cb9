-- The answers to lines of standard input, and what a sink has taken of them.
use Rattle.std.specs.Prelude.{◌≡◌, ◌⊎◌, ⊤, ℕ, List, [], ◌∷◌, ◌++◌, Bool, Option, Some, None, IfSome, codes, flat_map}
use Rattle.std.specs.Prelude.{map, string_bytes}
use Rattle.std.specs.List.{list_all}
use Rattle.asn_base.specs.Types.{Resolved}
use Rattle.input_lines.specs.Lines.{lines_of}
use Rattle.resolve.specs.Program.{Program}
use Rattle.asnc.specs.front_end.Accepted.{Accepted, AreAccepted, octets_of}
use Rattle.asnc.specs.Kits.{IsNotOpened}
use Rattle.asnc.specs.messages.declared.fault.Fault.{Fault}
use Rattle.asnc.specs.messages.declared.fault.Fault.TheVariants as faults
use Rattle.asnc.specs.named_values.Meant.{IsNoType, NamesType}
use Rattle.sinks.specs.Sent.{SinkState, SentAll, SentFront}
use Rattle.jobs.specs.Answers.{IsLineAnswer}
use Rattle.jobs.specs.declared.answers.Lines.{Lines}
use Rattle.jobs.specs.declared.commands_of_lines.LineCommand.{LineCommand}
use Rattle.check_jobs.specs.declared.inputs.Inputs.{Inputs}
use Rattle.command_line.specs.declared.request.Job.{Job}

-- what the answers to lines depend on, besides the lines: the command, the program with its types, the name of a type
pub record Stream : Type 0 where
  pub command : LineCommand
  pub program : Program
  pub types : List Resolved
  pub ty : List ℕ

-- what the answers of these lines depend on
abbrev pub stream_of : Lines → Stream
stream_of m = record {
  command = m.command;
  program = m.kit.now.program;
  types = m.kit.now.types;
  ty = string_bytes m.job.now.ty;
}

-- one line of output, and whether it is no refusal
pub record Reply : Type 0 where
  pub yes : Bool
  pub output : List ℕ

-- there is one answer for each line, in order
abbrev pub AreReplies : Stream → (lines : List (List ℕ)) → List Reply → Type 0
AreReplies m [] [] = ⊤
AreReplies m (l ∷ ls) (r ∷ rs) = IsLineAnswer m.command m.program m.types m.ty l r.yes r.output × AreReplies m ls rs
AreReplies m [] (r ∷ rs) = ⊥
AreReplies m (l ∷ ls) [] = ⊥

-- the output is the answers to the lines, in order; `yes` is true if and only if none of them is a refusal
pub record AreAnswers (m : Stream) (lines : List (List ℕ)) (yes : Bool) (output : List ℕ) : Type 0 where
  pub replies : List Reply
  pub each : AreReplies m lines replies
  pub joined : output ≡ flat_map (λ r. r.output) replies
  pub all : yes ≡ list_all (λ r. r.yes) replies

-- The sink went from state a to state b because it took exactly the answers to all lines of the input, in order. Of an
-- input that isn't known the lines are some lines.
pub record IsStreamed (m : Stream) (input : Option (List ℕ)) (yes : Bool) (a b : SinkState) : Type 0 where
  pub lines : List (List ℕ)
  pub whole : IfSome input (λ xs. lines ≡ lines_of xs)
  pub output : List ℕ
  pub answers : AreAnswers m lines yes output
  pub sent : SentAll a b output

-- these are the first lines of the input, if it is known
abbrev pub AreFirst : Option (List ℕ) → List (List ℕ) → Type 0
AreFirst input lines = IfSome input (λ xs. (others : List (List ℕ)) × (lines_of xs ≡ lines ++ others))

-- the sink took exactly the first n octets of the answers to the first lines of the input, fewer than these have, and
-- one call failed
pub record IsStreamedInPart (m : Stream) (input : Option (List ℕ)) (n : ℕ) (a b : SinkState) : Type 0 where
  pub lines : List (List ℕ)
  pub first : AreFirst input lines
  pub yes : Bool
  pub output : List ℕ
  pub answers : AreAnswers m lines yes output
  pub sent : SentFront a b output n

-- a fault that ends a stream before the end of the input: an allocation failed, or standard input can't be read further
abbrev pub EndsStream : Fault → Type 0
EndsStream faults.Memory = ⊤
EndsStream (faults.File name) = string_bytes name ≡ codes "-"
EndsStream fault = ⊥

-- the sink took exactly the answers to the first lines of the input, and the stream ended there
pub record IsStopped (m : Stream) (input : Option (List ℕ)) (a b : SinkState) (e : Fault) : Type 0 where
  pub lines : List (List ℕ)
  pub first : AreFirst input lines
  pub yes : Bool
  pub output : List ℕ
  pub answers : AreAnswers m lines yes output
  pub sent : SentAll a b output
  pub ends : EndsStream e

-- ---- jobs that take lines

-- the answers to lines in a program with its types, by the type that a job names
abbrev pub stream_in : LineCommand → Program → List Resolved → Job → Stream
stream_in c p s job = record { command = c; program = p; types = s; ty = string_bytes job.ty }

-- The texts of the job's files are accepted, the job names a type of theirs, and the sink took exactly the answers to
-- all lines of the input.
pub record AreLinesDone (job : Job) (inputs : Inputs) (c : LineCommand) (input : Option (List ℕ)) (yes : Bool)
    (a b : SinkState) : Type 0 where
  pub program : Program
  pub types : List Resolved
  pub accepted : Accepted (map octets_of inputs.files.items) program types
  pub named : NamesType program (string_bytes job.ty)
  pub streamed : IsStreamed (stream_in c program types job) input yes a b

-- the same, but the sink took exactly the first n octets of the answers to the first lines, and one call failed
pub record AreLinesDoneInPart (job : Job) (inputs : Inputs) (c : LineCommand) (input : Option (List ℕ)) (n : ℕ)
    (a b : SinkState) : Type 0 where
  pub program : Program
  pub types : List Resolved
  pub accepted : Accepted (map octets_of inputs.files.items) program types
  pub named : NamesType program (string_bytes job.ty)
  pub streamed : IsStreamedInPart (stream_in c program types job) input n a b

-- the same, but the sink took exactly the answers to the first lines, and the fault ended the stream there
pub record AreLinesStopped (job : Job) (inputs : Inputs) (c : LineCommand) (input : Option (List ℕ)) (a b : SinkState)
    (e : Fault) : Type 0 where
  pub program : Program
  pub types : List Resolved
  pub accepted : Accepted (map octets_of inputs.files.items) program types
  pub named : NamesType program (string_bytes job.ty)
  pub stopped : IsStopped (stream_in c program types job) input a b e

-- the texts of the job's files are accepted, and the job names no type of theirs
pub record LacksNamedType (job : Job) (inputs : Inputs) (e : Fault) : Type 0 where
  pub program : Program
  pub accepted : AreAccepted (map octets_of inputs.files.items) program
  pub unnamed : IsNoType program (string_bytes job.ty) e

-- why no line is answered: the texts have this first fault, or the job names no type of theirs
abbrev pub IsNotBegun : Job → Inputs → Fault → Type 0
IsNotBegun job inputs e = IsNotOpened (map octets_of inputs.files.items) e ⊎ LacksNamedType job inputs e
