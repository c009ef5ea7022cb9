-- What a fault says of words that give no octets, or that mix lines with others.
use Rattle.std.proofs.Common.{◌≡◌, ◌∷◌, ◌++◌, ℕ, List, codes}
use Rattle.std.specs.Prelude.{Ok}
use Rattle.clap.specs.Words.{Row, Text}
use Rattle.hex.specs.Hex.{decode_of}
use Rattle.source_text.specs.Shown.{shown}
use Rattle.command_line.specs.CommandLine.{ExcludesLines, IsExcluding, IsNoOctets, IsSet, MixesLines}

pub no_octets_said : (help text quoted t : Text)
    → ((name : List ℕ) → text ≡ 64 ∷ name → ⊥)
    → ((o : List ℕ) → decode_of text ≡ Ok o → ⊥)
    → quoted ≡ shown text
    → t ≡ codes "found " ++ (quoted ++ (codes " after --hex, expected "
    ++ (codes "two hexadecimal digits for each octet, or @ and the name of a file"
    ++ (codes " (" ++ (help ++ codes " --help shows the words)")))))
    → IsNoOctets help text t
no_octets_said help text quoted t f d s e = record {
  no_file = f;
  no_digits = d;
  quoted = quoted;
  shown_so = s;
  said = e;
}

pub mixed_said : (rows : List Row) (word t : Text)
    → IsSet rows (codes "lines")
    → ExcludesLines rows
    → IsExcluding rows word
    → t ≡ codes "found --lines and " ++ (word ++ codes ", expected one of them (asnc COMMAND --help shows the words)")
    → MixesLines rows t
mixed_said rows word t l x w e = record {
  lines = l;
  excludes = x;
  word = word;
  excluding = w;
  said = e;
}
