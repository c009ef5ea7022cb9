-- Each kind of token is in the list of all kinds.
use Rattle.std.proofs.Common.{refl}
use Rattle.text.specs.declared.token.TokenKind.{TokenKind}
use Rattle.text.specs.declared.token.TokenKind.TheVariants as kinds
use Rattle.text.specs.declared.token.Mark.TheVariants as marks
use Rattle.text.specs.declared.reserved.Word.TheVariants as words
use Rattle.expected_tokens.specs.declared.kinds.TheConstants.{ALL}
use Rattle.expected_tokens.specs.Leading.{IsOne}
use Rattle.expected_tokens.proofs.Steps.{at_index}

pub all_kinds : (k : TokenKind) → IsOne ALL k
all_kinds kinds.TypeReference = at_index ALL 0 _ refl
all_kinds kinds.Identifier = at_index ALL 1 _ refl
all_kinds kinds.Number = at_index ALL 2 _ refl
all_kinds kinds.CharacterString = at_index ALL 3 _ refl
all_kinds kinds.BinaryString = at_index ALL 4 _ refl
all_kinds kinds.HexString = at_index ALL 5 _ refl
all_kinds (kinds.Mark marks.Assign) = at_index ALL 6 _ refl
all_kinds (kinds.Mark marks.Ellipsis) = at_index ALL 7 _ refl
all_kinds (kinds.Mark marks.Range) = at_index ALL 8 _ refl
all_kinds (kinds.Mark marks.OpenVersion) = at_index ALL 9 _ refl
all_kinds (kinds.Mark marks.CloseVersion) = at_index ALL 10 _ refl
all_kinds (kinds.Mark marks.Dot) = at_index ALL 11 _ refl
all_kinds (kinds.Mark marks.Comma) = at_index ALL 12 _ refl
all_kinds (kinds.Mark marks.Semicolon) = at_index ALL 13 _ refl
all_kinds (kinds.Mark marks.Colon) = at_index ALL 14 _ refl
all_kinds (kinds.Mark marks.OpenBrace) = at_index ALL 15 _ refl
all_kinds (kinds.Mark marks.CloseBrace) = at_index ALL 16 _ refl
all_kinds (kinds.Mark marks.OpenParenthesis) = at_index ALL 17 _ refl
all_kinds (kinds.Mark marks.CloseParenthesis) = at_index ALL 18 _ refl
all_kinds (kinds.Mark marks.OpenBracket) = at_index ALL 19 _ refl
all_kinds (kinds.Mark marks.CloseBracket) = at_index ALL 20 _ refl
all_kinds (kinds.Mark marks.Bar) = at_index ALL 21 _ refl
all_kinds (kinds.Mark marks.Minus) = at_index ALL 22 _ refl
all_kinds (kinds.Mark marks.Caret) = at_index ALL 23 _ refl
all_kinds (kinds.Mark marks.Less) = at_index ALL 24 _ refl
all_kinds (kinds.Mark marks.Exclamation) = at_index ALL 25 _ refl
all_kinds (kinds.Mark marks.At) = at_index ALL 26 _ refl
all_kinds (kinds.Mark marks.Ampersand) = at_index ALL 27 _ refl
all_kinds (kinds.Reserved words.Real) = at_index ALL 28 _ refl
all_kinds (kinds.Reserved words.GeneralizedTime) = at_index ALL 29 _ refl
all_kinds (kinds.Reserved words.UtcTime) = at_index ALL 30 _ refl
all_kinds (kinds.Reserved words.External) = at_index ALL 31 _ refl
all_kinds (kinds.Reserved words.Embedded) = at_index ALL 32 _ refl
all_kinds (kinds.Reserved words.Character) = at_index ALL 33 _ refl
all_kinds (kinds.Reserved words.OidIri) = at_index ALL 34 _ refl
all_kinds (kinds.Reserved words.ObjectDescriptor) = at_index ALL 35 _ refl
all_kinds (kinds.Reserved words.BmpString) = at_index ALL 36 _ refl
all_kinds (kinds.Reserved words.UniversalString) = at_index ALL 37 _ refl
all_kinds (kinds.Reserved words.TeletexString) = at_index ALL 38 _ refl
all_kinds (kinds.Reserved words.T61String) = at_index ALL 39 _ refl
all_kinds (kinds.Reserved words.GeneralString) = at_index ALL 40 _ refl
all_kinds (kinds.Reserved words.GraphicString) = at_index ALL 41 _ refl
all_kinds (kinds.Reserved words.VideotexString) = at_index ALL 42 _ refl
all_kinds (kinds.Reserved words.RelativeOid) = at_index ALL 43 _ refl
all_kinds (kinds.Reserved words.Class) = at_index ALL 44 _ refl
all_kinds (kinds.Reserved words.TypeIdentifier) = at_index ALL 45 _ refl
all_kinds (kinds.Reserved words.AbstractSyntax) = at_index ALL 46 _ refl
all_kinds (kinds.Reserved words.Instance) = at_index ALL 47 _ refl
all_kinds (kinds.Reserved words.Universal) = at_index ALL 48 _ refl
all_kinds (kinds.Reserved words.Components) = at_index ALL 49 _ refl
all_kinds (kinds.Reserved words.With) = at_index ALL 50 _ refl
all_kinds (kinds.Reserved words.Containing) = at_index ALL 51 _ refl
all_kinds (kinds.Reserved words.Pattern) = at_index ALL 52 _ refl
all_kinds (kinds.Reserved words.Includes) = at_index ALL 53 _ refl
all_kinds (kinds.Reserved words.Intersection) = at_index ALL 54 _ refl
all_kinds (kinds.Reserved words.Except) = at_index ALL 55 _ refl
all_kinds (kinds.Reserved words.Extensibility) = at_index ALL 56 _ refl
all_kinds (kinds.Reserved words.PlusInfinity) = at_index ALL 57 _ refl
all_kinds (kinds.Reserved words.MinusInfinity) = at_index ALL 58 _ refl
all_kinds (kinds.Reserved words.Definitions) = at_index ALL 59 _ refl
all_kinds (kinds.Reserved words.Tags) = at_index ALL 60 _ refl
all_kinds (kinds.Reserved words.Begin) = at_index ALL 61 _ refl
all_kinds (kinds.Reserved words.Exports) = at_index ALL 62 _ refl
all_kinds (kinds.Reserved words.All) = at_index ALL 63 _ refl
all_kinds (kinds.Reserved words.Imports) = at_index ALL 64 _ refl
all_kinds (kinds.Reserved words.End) = at_index ALL 65 _ refl
all_kinds (kinds.Reserved words.Explicit) = at_index ALL 66 _ refl
all_kinds (kinds.Reserved words.Implicit) = at_index ALL 67 _ refl
all_kinds (kinds.Reserved words.Automatic) = at_index ALL 68 _ refl
all_kinds (kinds.Reserved words.From) = at_index ALL 69 _ refl
all_kinds (kinds.Reserved words.Application) = at_index ALL 70 _ refl
all_kinds (kinds.Reserved words.Private) = at_index ALL 71 _ refl
all_kinds (kinds.Reserved words.Boolean) = at_index ALL 72 _ refl
all_kinds (kinds.Reserved words.Null) = at_index ALL 73 _ refl
all_kinds (kinds.Reserved words.Object) = at_index ALL 74 _ refl
all_kinds (kinds.Reserved words.Identifier) = at_index ALL 75 _ refl
all_kinds (kinds.Reserved words.Octet) = at_index ALL 76 _ refl
all_kinds (kinds.Reserved words.String) = at_index ALL 77 _ refl
all_kinds (kinds.Reserved words.Utf8String) = at_index ALL 78 _ refl
all_kinds (kinds.Reserved words.NumericString) = at_index ALL 79 _ refl
all_kinds (kinds.Reserved words.PrintableString) = at_index ALL 80 _ refl
all_kinds (kinds.Reserved words.Ia5String) = at_index ALL 81 _ refl
all_kinds (kinds.Reserved words.VisibleString) = at_index ALL 82 _ refl
all_kinds (kinds.Reserved words.Iso646String) = at_index ALL 83 _ refl
all_kinds (kinds.Reserved words.Integer) = at_index ALL 84 _ refl
all_kinds (kinds.Reserved words.Bit) = at_index ALL 85 _ refl
all_kinds (kinds.Reserved words.Enumerated) = at_index ALL 86 _ refl
all_kinds (kinds.Reserved words.Sequence) = at_index ALL 87 _ refl
all_kinds (kinds.Reserved words.Set) = at_index ALL 88 _ refl
all_kinds (kinds.Reserved words.Choice) = at_index ALL 89 _ refl
all_kinds (kinds.Reserved words.Of) = at_index ALL 90 _ refl
all_kinds (kinds.Reserved words.Optional) = at_index ALL 91 _ refl
all_kinds (kinds.Reserved words.Default) = at_index ALL 92 _ refl
all_kinds (kinds.Reserved words.Size) = at_index ALL 93 _ refl
all_kinds (kinds.Reserved words.Union) = at_index ALL 94 _ refl
all_kinds (kinds.Reserved words.Min) = at_index ALL 95 _ refl
all_kinds (kinds.Reserved words.Max) = at_index ALL 96 _ refl
all_kinds (kinds.Reserved words.True) = at_index ALL 97 _ refl
all_kinds (kinds.Reserved words.False) = at_index ALL 98 _ refl
