-- A cursor in memory, as the state that it represents.
use Rattle.std.specs.Prelude.{◌+◌, ◌≤◌, ◌++◌, ◌∷◌, [], map, length, Bool, true, false, List}
use Rattle.std.specs.List.{AllByRecursion}
use Rattle.asn_base.specs.Types.{Resolved}
use Rattle.codec_code.specs.declared.step.Step.{Step}
use Rattle.codec_code.specs.declared.step.Step.TheVariants.{Head, Leaf, Pick}
use Rattle.octets.specs.Forms.{is_constructed}
use Rattle.ber_source.specs.declared.open_contents.OpenContents.{OpenContents as OpenContents'}
use Rattle.ber_source.specs.declared.token.Token.{Token as Token'}
use Rattle.ber_source.specs.declared.token.Token.TheVariants as tokens
use Rattle.ber_source.specs.declared.token.StructToken.{StructToken}
use Rattle.ber_source.specs.declared.token.StructToken.TheVariants as marks
use Rattle.ber_source.specs.declared.token.PrimitiveToken.{PrimitiveToken}
use Rattle.ber_source.specs.declared.outer.OuterContents.{OuterContents}
use Rattle.ber_source.specs.declared.reader_state.ReaderState.{ReaderState}
use Rattle.octet_answers.specs.States.{OpenContents, Token, component, chosen, begun, ended, held, passed, State}

abbrev pub open_contents_of : OpenContents' → OpenContents
open_contents_of w = record { constructed = is_constructed w.form; octets = w.octets.now; at = w.at; from = w.from }

-- the contents after the innermost open header, if they are kept apart
abbrev pub kept_apart : Bool → OpenContents' → List OpenContents'
kept_apart true w = w ∷ []
kept_apart false w = []

-- the contents after each open header, the outermost first
abbrev pub outer_contents : OuterContents → List OpenContents'
outer_contents o = o.list.items ++ kept_apart o.is_apart o.last

-- the steps read a value that holds no others, or begin with a choice between types
abbrev pub IsBare : List Step → Type 0
IsBare (Head h ∷ Leaf k ∷ ss) = Unit {0}
IsBare (Pick n ∷ ss) = Unit {0}
IsBare ss = ⊥

abbrev pub token_of : Token' → Token
token_of (tokens.Component i) = component i
token_of (tokens.Chosen i) = chosen i
token_of (tokens.Begun t) = begun t
token_of tokens.Ended = ended
token_of (tokens.PrimitiveToken k form octets at) = held k (is_constructed form) octets.now at
token_of tokens.Passed = passed

abbrev pub as_token : StructToken → Token
as_token (marks.Component i) = component i
as_token (marks.Chosen i) = chosen i
as_token (marks.Begun t) = begun t
as_token marks.Ended = ended
as_token marks.Passed = passed

abbrev pub value_token : PrimitiveToken → Token
value_token h = held h.kind (is_constructed h.form) h.octets.now h.at

-- the state of a place, with the tokens that its receiver got so far
abbrev pub state_of : {T : Type 0} → (T → List Token) → ReaderState T → State
state_of emitted p = record {
  schema = p.code.now;
  here = open_contents_of p.here;
  outer = map open_contents_of (outer_contents p.outer);
  values = p.values.items;
  marks = p.marks.items;
  emitted = emitted p.emitted;
  budget = p.budget;
}

-- the octets that are left are within the first 16,777,216 of a message
abbrev pub FitsMessage : OpenContents → Type 0
FitsMessage w = w.at + length w.octets ≤ 16777216

-- all open contents are within a message, and the receiver takes values of the schema
pub record IsValidState {T : Type 0} (suits : T → List Resolved → Type 0) (p : ReaderState T) : Type 0 where
  pub here : FitsMessage (open_contents_of p.here)
  pub outer : AllByRecursion FitsMessage (map open_contents_of (outer_contents p.outer))
  pub suited : suits p.emitted p.code.now
