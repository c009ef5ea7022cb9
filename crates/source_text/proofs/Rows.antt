-- Worked rows of lines and columns. Octets are counted from 0, lines and columns from 1; 10 is LF, 13 CR, 9 a tab.
use Rattle.std.proofs.Common.{◌≡◌, [], ◌∷◌, refl}
use Rattle.source_text.specs.Lines.{column_of, line_of}

-- ---- lines

pub first_line : line_of (65 ∷ 66 ∷ []) 0 ≡ 1
unfolding line_of
first_line = refl

pub line_after_lf : line_of (65 ∷ 10 ∷ 66 ∷ []) 2 ≡ 2
unfolding line_of
line_after_lf = refl

pub line_after_cr : line_of (65 ∷ 13 ∷ 66 ∷ []) 2 ≡ 2
unfolding line_of
line_after_cr = refl

-- CR with LF after it ends a line once, at the LF
pub line_after_both : line_of (65 ∷ 13 ∷ 10 ∷ 66 ∷ []) 3 ≡ 2
unfolding line_of
line_after_both = refl

pub lf_ends_the_line_of_cr : line_of (65 ∷ 13 ∷ 10 ∷ 66 ∷ []) 2 ≡ 1
unfolding line_of
lf_ends_the_line_of_cr = refl

-- LF and CR are two ends
pub line_after_two_ends : line_of (65 ∷ 10 ∷ 13 ∷ 66 ∷ []) 3 ≡ 3
unfolding line_of
line_after_two_ends = refl

-- ---- columns

pub first_column : column_of (65 ∷ 66 ∷ []) 0 ≡ 1
unfolding column_of
first_column = refl

pub column_on_line_2 : column_of (65 ∷ 66 ∷ 10 ∷ 67 ∷ 68 ∷ []) 4 ≡ 2
unfolding column_of
column_on_line_2 = refl

pub column_of_a_tab : column_of (9 ∷ 65 ∷ []) 1 ≡ 2
unfolding column_of
column_of_a_tab = refl

-- é, then A
pub column_of_two_octets : column_of (195 ∷ 169 ∷ 65 ∷ []) 2 ≡ 2
unfolding column_of
column_of_two_octets = refl

-- a character of four octets, then A
pub column_of_four_octets : column_of (240 ∷ 157 ∷ 132 ∷ 158 ∷ 65 ∷ []) 4 ≡ 2
unfolding column_of
column_of_four_octets = refl
