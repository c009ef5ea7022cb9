-- The rules of the notation (X.680, clauses 13 to 51), each of which starts with a token or is empty. They allow the
-- same texts as the productions of modules, types, constraints and values (the specs of module_head, type_parts,
-- type_syntax, notation and syntax).
use Rattle.std.specs.Prelude.{List, [], ◌∷◌}
use Rattle.text.specs.declared.token.TokenKind.{TokenKind}
use Rattle.text.specs.declared.token.TokenKind.TheVariants as kinds
use Rattle.text.specs.declared.token.Mark.{Mark}
use Rattle.text.specs.declared.token.Mark.TheVariants as marks
use Rattle.text.specs.declared.reserved.Word.{Word}
use Rattle.text.specs.declared.reserved.Word.TheVariants as words
use Rattle.expected_tokens.specs.declared.rules.Term.{Term}
use Rattle.expected_tokens.specs.declared.rules.Term.TheVariants.{Is, Of}
use Rattle.expected_tokens.specs.declared.rules.Symbol.{Symbol}
use Rattle.expected_tokens.specs.declared.rules.Symbol.TheVariants as symbols
use Rattle.expected_tokens.specs.declared.rules.Rule.{Rule as Rule'}
use Rattle.expected_tokens.specs.declared.rules.Rule.TheVariants as codes

-- what a symbol can stand for: nothing, or a token and the parts after it
pub data Rule : Type 0 where
  nothing : Rule
  begins : TokenKind → List Term → Rule

abbrev pub rule_of : Rule' → Rule
rule_of codes.Nothing = nothing
rule_of (codes.Begins k ps) = begins k ps.now

abbrev pub word : Word → TokenKind
word w = kinds.Reserved w

abbrev pub mark : Mark → TokenKind
mark m = kinds.Mark m

-- the rules of a symbol
unfoldable pub rules : Symbol → List Rule
rules symbols.Module =
    begins kinds.TypeReference (Of symbols.Oid ∷ Is (word words.Definitions) ∷ Of symbols.TagDefault ∷
    Is (mark marks.Assign) ∷ Is (word words.Begin) ∷ Of symbols.Exports ∷ Of symbols.Imports ∷
    Of symbols.Assignments ∷ Is (word words.End) ∷ []) ∷
    []
rules symbols.Oid =
    begins (mark marks.OpenBrace) (Of symbols.Arc ∷ Of symbols.MoreArcs ∷ Is (mark marks.CloseBrace) ∷ []) ∷
    nothing ∷
    []
rules symbols.Arc =
    begins kinds.Number [] ∷
    begins kinds.Identifier (Of symbols.ArcNumber ∷ []) ∷
    []
rules symbols.MoreArcs =
    begins kinds.Number (Of symbols.MoreArcs ∷ []) ∷
    begins kinds.Identifier (Of symbols.ArcNumber ∷ Of symbols.MoreArcs ∷ []) ∷
    nothing ∷
    []
rules symbols.ArcNumber =
    begins (mark marks.OpenParenthesis) (Is kinds.Number ∷ Is (mark marks.CloseParenthesis) ∷ []) ∷
    nothing ∷
    []
rules symbols.TagDefault =
    begins (word words.Explicit) (Is (word words.Tags) ∷ []) ∷
    begins (word words.Implicit) (Is (word words.Tags) ∷ []) ∷
    begins (word words.Automatic) (Is (word words.Tags) ∷ []) ∷
    nothing ∷
    []
rules symbols.Exports =
    begins (word words.Exports) (Of symbols.Exported ∷ Is (mark marks.Semicolon) ∷ []) ∷
    nothing ∷
    []
rules symbols.Exported =
    begins (word words.All) [] ∷
    begins kinds.TypeReference (Of symbols.MoreNames ∷ []) ∷
    begins kinds.Identifier (Of symbols.MoreNames ∷ []) ∷
    nothing ∷
    []
rules symbols.MoreNames =
    begins (mark marks.Comma) (Of symbols.Name ∷ Of symbols.MoreNames ∷ []) ∷
    nothing ∷
    []
rules symbols.Name =
    begins kinds.TypeReference [] ∷
    begins kinds.Identifier [] ∷
    []
rules symbols.Imports =
    begins (word words.Imports) (Of symbols.Imported ∷ Is (mark marks.Semicolon) ∷ []) ∷
    nothing ∷
    []
rules symbols.Imported =
    begins kinds.TypeReference (Of symbols.MoreNames ∷ Is (word words.From) ∷ Is kinds.TypeReference ∷
    Of symbols.Oid ∷ Of symbols.Imported ∷ []) ∷
    begins kinds.Identifier (Of symbols.MoreNames ∷ Is (word words.From) ∷ Is kinds.TypeReference ∷
    Of symbols.Oid ∷ Of symbols.Imported ∷ []) ∷
    nothing ∷
    []
rules symbols.Assignments =
    begins kinds.TypeReference (Is (mark marks.Assign) ∷ Of symbols.Type ∷ Of symbols.Assignments ∷ []) ∷
    begins kinds.Identifier (Of symbols.Type ∷ Is (mark marks.Assign) ∷ Of symbols.Value ∷ Of symbols.Assignments ∷
    []) ∷
    nothing ∷
    []
rules symbols.Type =
    begins (word words.Boolean) (Of symbols.Constraints ∷ []) ∷
    begins (word words.Null) (Of symbols.Constraints ∷ []) ∷
    begins (word words.Integer) (Of symbols.NamedNumbers ∷ Of symbols.Constraints ∷ []) ∷
    begins (word words.Enumerated) (Is (mark marks.OpenBrace) ∷ Of symbols.Item ∷ Of symbols.MoreItems ∷
    Is (mark marks.CloseBrace) ∷ Of symbols.Constraints ∷ []) ∷
    begins (word words.Bit) (Is (word words.String) ∷ Of symbols.NamedBits ∷ Of symbols.Constraints ∷ []) ∷
    begins (word words.Octet) (Is (word words.String) ∷ Of symbols.Constraints ∷ []) ∷
    begins (word words.Object) (Is (word words.Identifier) ∷ Of symbols.Constraints ∷ []) ∷
    begins (word words.RelativeOid) (Of symbols.Constraints ∷ []) ∷
    begins (word words.Utf8String) (Of symbols.Constraints ∷ []) ∷
    begins (word words.NumericString) (Of symbols.Constraints ∷ []) ∷
    begins (word words.PrintableString) (Of symbols.Constraints ∷ []) ∷
    begins (word words.Ia5String) (Of symbols.Constraints ∷ []) ∷
    begins (word words.VisibleString) (Of symbols.Constraints ∷ []) ∷
    begins (word words.Iso646String) (Of symbols.Constraints ∷ []) ∷
    begins (word words.Sequence) (Is (mark marks.OpenBrace) ∷ Of symbols.Members ∷ Is (mark marks.CloseBrace) ∷
    Of symbols.Constraints ∷ []) ∷
    begins (word words.Sequence) (Of symbols.ListSize ∷ Is (word words.Of) ∷ Of symbols.Type ∷ []) ∷
    begins (word words.Set) (Is (mark marks.OpenBrace) ∷ Of symbols.Members ∷ Is (mark marks.CloseBrace) ∷
    Of symbols.Constraints ∷ []) ∷
    begins (word words.Set) (Of symbols.ListSize ∷ Is (word words.Of) ∷ Of symbols.Type ∷ []) ∷
    begins (word words.Choice) (Is (mark marks.OpenBrace) ∷ Of symbols.Alternative ∷ Of symbols.MoreAlternatives ∷
    Is (mark marks.CloseBrace) ∷ Of symbols.Constraints ∷ []) ∷
    begins kinds.TypeReference (Of symbols.AfterModule ∷ Of symbols.Constraints ∷ []) ∷
    begins (mark marks.OpenBracket) (Of symbols.TagClass ∷ Is kinds.Number ∷ Is (mark marks.CloseBracket) ∷
    Of symbols.Keyword ∷ Of symbols.Type ∷ []) ∷
    []
rules symbols.AfterModule =
    begins (mark marks.Dot) (Is kinds.TypeReference ∷ []) ∷
    nothing ∷
    []
rules symbols.TagClass =
    begins (word words.Application) [] ∷
    begins (word words.Private) [] ∷
    nothing ∷
    []
rules symbols.Keyword =
    begins (word words.Implicit) [] ∷
    begins (word words.Explicit) [] ∷
    nothing ∷
    []
rules symbols.NamedNumbers =
    begins (mark marks.OpenBrace) (Of symbols.NamedNumber ∷ Of symbols.MoreNamedNumbers ∷
    Is (mark marks.CloseBrace) ∷ []) ∷
    nothing ∷
    []
rules symbols.NamedNumber =
    begins kinds.Identifier (Is (mark marks.OpenParenthesis) ∷ Of symbols.Signed ∷
    Is (mark marks.CloseParenthesis) ∷ []) ∷
    []
rules symbols.MoreNamedNumbers =
    begins (mark marks.Comma) (Of symbols.NamedNumber ∷ Of symbols.MoreNamedNumbers ∷ []) ∷
    nothing ∷
    []
rules symbols.Signed =
    begins kinds.Number [] ∷
    begins (mark marks.Minus) (Is kinds.Number ∷ []) ∷
    []
rules symbols.NamedBits =
    begins (mark marks.OpenBrace) (Of symbols.NamedBit ∷ Of symbols.MoreNamedBits ∷ Is (mark marks.CloseBrace) ∷
    []) ∷
    nothing ∷
    []
rules symbols.NamedBit =
    begins kinds.Identifier (Is (mark marks.OpenParenthesis) ∷ Is kinds.Number ∷ Is (mark marks.CloseParenthesis) ∷
    []) ∷
    []
rules symbols.MoreNamedBits =
    begins (mark marks.Comma) (Of symbols.NamedBit ∷ Of symbols.MoreNamedBits ∷ []) ∷
    nothing ∷
    []
rules symbols.Item =
    begins kinds.Identifier (Of symbols.ItemNumber ∷ []) ∷
    []
rules symbols.ItemNumber =
    begins (mark marks.OpenParenthesis) (Of symbols.Signed ∷ Is (mark marks.CloseParenthesis) ∷ []) ∷
    nothing ∷
    []
rules symbols.MoreItems =
    begins (mark marks.Comma) (Of symbols.Item ∷ Of symbols.MoreItems ∷ []) ∷
    begins (mark marks.Comma) (Is (mark marks.Ellipsis) ∷ Of symbols.AddedItems ∷ []) ∷
    nothing ∷
    []
rules symbols.AddedItems =
    begins (mark marks.Comma) (Of symbols.Item ∷ Of symbols.AddedItems ∷ []) ∷
    nothing ∷
    []
rules symbols.Members =
    begins kinds.Identifier (Of symbols.Type ∷ Of symbols.Presence ∷ Of symbols.MoreMembers ∷ []) ∷
    begins (mark marks.Ellipsis) (Of symbols.AddedMembers ∷ []) ∷
    nothing ∷
    []
rules symbols.Member =
    begins kinds.Identifier (Of symbols.Type ∷ Of symbols.Presence ∷ []) ∷
    []
rules symbols.MoreMembers =
    begins (mark marks.Comma) (Of symbols.Member ∷ Of symbols.MoreMembers ∷ []) ∷
    begins (mark marks.Comma) (Is (mark marks.Ellipsis) ∷ Of symbols.AddedMembers ∷ []) ∷
    nothing ∷
    []
rules symbols.AddedMembers =
    begins (mark marks.Comma) (Of symbols.AddedMember ∷ Of symbols.AddedMembers ∷ []) ∷
    nothing ∷
    []
rules symbols.AddedMember =
    begins kinds.Identifier (Of symbols.Type ∷ Of symbols.Presence ∷ []) ∷
    begins (mark marks.OpenVersion) (Of symbols.Version ∷ Of symbols.Member ∷ Of symbols.MembersInVersion ∷
    Is (mark marks.CloseVersion) ∷ []) ∷
    []
rules symbols.MembersInVersion =
    begins (mark marks.Comma) (Of symbols.Member ∷ Of symbols.MembersInVersion ∷ []) ∷
    nothing ∷
    []
rules symbols.Version =
    begins kinds.Number (Is (mark marks.Colon) ∷ []) ∷
    nothing ∷
    []
rules symbols.Presence =
    begins (word words.Optional) [] ∷
    begins (word words.Default) (Of symbols.Value ∷ []) ∷
    nothing ∷
    []
rules symbols.Alternative =
    begins kinds.Identifier (Of symbols.Type ∷ []) ∷
    []
rules symbols.MoreAlternatives =
    begins (mark marks.Comma) (Of symbols.Alternative ∷ Of symbols.MoreAlternatives ∷ []) ∷
    begins (mark marks.Comma) (Is (mark marks.Ellipsis) ∷ Of symbols.AddedAlternatives ∷ []) ∷
    nothing ∷
    []
rules symbols.AddedAlternatives =
    begins (mark marks.Comma) (Of symbols.AddedAlternative ∷ Of symbols.AddedAlternatives ∷ []) ∷
    nothing ∷
    []
rules symbols.AddedAlternative =
    begins kinds.Identifier (Of symbols.Type ∷ []) ∷
    begins (mark marks.OpenVersion) (Of symbols.Version ∷ Of symbols.Alternative ∷
    Of symbols.AlternativesInVersion ∷ Is (mark marks.CloseVersion) ∷ []) ∷
    []
rules symbols.AlternativesInVersion =
    begins (mark marks.Comma) (Of symbols.Alternative ∷ Of symbols.AlternativesInVersion ∷ []) ∷
    nothing ∷
    []
rules symbols.ListSize =
    begins (word words.Size) (Is (mark marks.OpenParenthesis) ∷ Of symbols.Ranges ∷
    Is (mark marks.CloseParenthesis) ∷ []) ∷
    begins (mark marks.OpenParenthesis) (Is (word words.Size) ∷ Is (mark marks.OpenParenthesis) ∷
    Of symbols.Ranges ∷ Is (mark marks.CloseParenthesis) ∷ Is (mark marks.CloseParenthesis) ∷ []) ∷
    nothing ∷
    []
rules symbols.Constraints =
    begins (mark marks.OpenParenthesis) (Of symbols.Constraint ∷ Is (mark marks.CloseParenthesis) ∷
    Of symbols.Constraints ∷ []) ∷
    nothing ∷
    []
rules symbols.Constraint =
    begins kinds.Number (Of symbols.Upper ∷ Of symbols.MoreRanges ∷ Of symbols.Marker ∷ []) ∷
    begins (mark marks.Minus) (Is kinds.Number ∷ Of symbols.Upper ∷ Of symbols.MoreRanges ∷ Of symbols.Marker ∷
    []) ∷
    begins kinds.Identifier (Of symbols.Upper ∷ Of symbols.MoreRanges ∷ Of symbols.Marker ∷ []) ∷
    begins kinds.TypeReference (Is (mark marks.Dot) ∷ Is kinds.Identifier ∷ Of symbols.Upper ∷
    Of symbols.MoreRanges ∷ Of symbols.Marker ∷ []) ∷
    begins (word words.Min) (Is (mark marks.Range) ∷ Of symbols.Last ∷ Of symbols.MoreRanges ∷ Of symbols.Marker ∷
    []) ∷
    begins (word words.Size) (Is (mark marks.OpenParenthesis) ∷ Of symbols.Ranges ∷
    Is (mark marks.CloseParenthesis) ∷ []) ∷
    begins (word words.From) (Is (mark marks.OpenParenthesis) ∷ Of symbols.Chars ∷ Of symbols.MoreChars ∷
    Is (mark marks.CloseParenthesis) ∷ []) ∷
    []
rules symbols.Ranges =
    begins kinds.Number (Of symbols.Upper ∷ Of symbols.MoreRanges ∷ Of symbols.Marker ∷ []) ∷
    begins (mark marks.Minus) (Is kinds.Number ∷ Of symbols.Upper ∷ Of symbols.MoreRanges ∷ Of symbols.Marker ∷
    []) ∷
    begins kinds.Identifier (Of symbols.Upper ∷ Of symbols.MoreRanges ∷ Of symbols.Marker ∷ []) ∷
    begins kinds.TypeReference (Is (mark marks.Dot) ∷ Is kinds.Identifier ∷ Of symbols.Upper ∷
    Of symbols.MoreRanges ∷ Of symbols.Marker ∷ []) ∷
    begins (word words.Min) (Is (mark marks.Range) ∷ Of symbols.Last ∷ Of symbols.MoreRanges ∷ Of symbols.Marker ∷
    []) ∷
    []
rules symbols.Range =
    begins kinds.Number (Of symbols.Upper ∷ []) ∷
    begins (mark marks.Minus) (Is kinds.Number ∷ Of symbols.Upper ∷ []) ∷
    begins kinds.Identifier (Of symbols.Upper ∷ []) ∷
    begins kinds.TypeReference (Is (mark marks.Dot) ∷ Is kinds.Identifier ∷ Of symbols.Upper ∷ []) ∷
    begins (word words.Min) (Is (mark marks.Range) ∷ Of symbols.Last ∷ []) ∷
    []
rules symbols.Upper =
    begins (mark marks.Range) (Of symbols.Last ∷ []) ∷
    nothing ∷
    []
rules symbols.Last =
    begins kinds.Number [] ∷
    begins (mark marks.Minus) (Is kinds.Number ∷ []) ∷
    begins kinds.Identifier [] ∷
    begins kinds.TypeReference (Is (mark marks.Dot) ∷ Is kinds.Identifier ∷ []) ∷
    begins (word words.Max) [] ∷
    []
rules symbols.MoreRanges =
    begins (mark marks.Bar) (Of symbols.Range ∷ Of symbols.MoreRanges ∷ []) ∷
    begins (word words.Union) (Of symbols.Range ∷ Of symbols.MoreRanges ∷ []) ∷
    nothing ∷
    []
rules symbols.Marker =
    begins (mark marks.Comma) (Is (mark marks.Ellipsis) ∷ []) ∷
    nothing ∷
    []
rules symbols.Chars =
    begins kinds.CharacterString (Of symbols.LastChars ∷ []) ∷
    []
rules symbols.LastChars =
    begins (mark marks.Range) (Is kinds.CharacterString ∷ []) ∷
    nothing ∷
    []
rules symbols.MoreChars =
    begins (mark marks.Bar) (Of symbols.Chars ∷ Of symbols.MoreChars ∷ []) ∷
    begins (word words.Union) (Of symbols.Chars ∷ Of symbols.MoreChars ∷ []) ∷
    nothing ∷
    []
rules symbols.Value =
    begins (word words.True) [] ∷
    begins (word words.False) [] ∷
    begins (word words.Null) [] ∷
    begins kinds.Number [] ∷
    begins (mark marks.Minus) (Is kinds.Number ∷ []) ∷
    begins kinds.BinaryString [] ∷
    begins kinds.HexString [] ∷
    begins kinds.CharacterString [] ∷
    begins kinds.Identifier (Of symbols.Chosen ∷ []) ∷
    begins kinds.TypeReference (Is (mark marks.Dot) ∷ Is kinds.Identifier ∷ []) ∷
    begins (mark marks.OpenBrace) (Of symbols.Braced ∷ Is (mark marks.CloseBrace) ∷ []) ∷
    []
rules symbols.Chosen =
    begins (mark marks.Colon) (Of symbols.Value ∷ []) ∷
    nothing ∷
    []
rules symbols.Braced =
    begins (word words.True) (Of symbols.MoreValues ∷ []) ∷
    begins (word words.False) (Of symbols.MoreValues ∷ []) ∷
    begins (word words.Null) (Of symbols.MoreValues ∷ []) ∷
    begins kinds.Number (Of symbols.MoreValues ∷ []) ∷
    begins (mark marks.Minus) (Is kinds.Number ∷ Of symbols.MoreValues ∷ []) ∷
    begins kinds.BinaryString (Of symbols.MoreValues ∷ []) ∷
    begins kinds.HexString (Of symbols.MoreValues ∷ []) ∷
    begins kinds.CharacterString (Of symbols.MoreValues ∷ []) ∷
    begins kinds.Identifier (Of symbols.Chosen ∷ Of symbols.MoreValues ∷ []) ∷
    begins kinds.TypeReference (Is (mark marks.Dot) ∷ Is kinds.Identifier ∷ Of symbols.MoreValues ∷ []) ∷
    begins (mark marks.OpenBrace) (Of symbols.Braced ∷ Is (mark marks.CloseBrace) ∷ Of symbols.MoreValues ∷ []) ∷
    begins kinds.Identifier (Of symbols.Value ∷ Of symbols.MoreFields ∷ []) ∷
    begins kinds.Number (Is kinds.Number ∷ Of symbols.MoreNumbers ∷ []) ∷
    nothing ∷
    []
rules symbols.MoreValues =
    begins (mark marks.Comma) (Of symbols.Value ∷ Of symbols.MoreValues ∷ []) ∷
    nothing ∷
    []
rules symbols.MoreFields =
    begins (mark marks.Comma) (Is kinds.Identifier ∷ Of symbols.Value ∷ Of symbols.MoreFields ∷ []) ∷
    nothing ∷
    []
rules symbols.MoreNumbers =
    begins kinds.Number (Of symbols.MoreNumbers ∷ []) ∷
    nothing ∷
    []
