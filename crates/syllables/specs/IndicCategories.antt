-- The categories of the scripts of India, of Khmer and of Myanmar. They are one numbering, since the three share many characters.
use Rattle.std.specs.Prelude.{ℕ}

-- any other character
abbrev pub X : ℕ
X = 0

-- consonant
abbrev pub C : ℕ
C = 1

-- independent vowel
abbrev pub V : ℕ
V = 2

-- nukta; in Myanmar dot below
abbrev pub N : ℕ
N = 3

-- halant, virama, coeng
abbrev pub H : ℕ
H = 4

-- zero width non-joiner
abbrev pub ZWNJ : ℕ
ZWNJ = 5

-- zero width joiner
abbrev pub ZWJ : ℕ
ZWJ = 6

-- matra
abbrev pub M : ℕ
M = 7

-- syllable modifier
abbrev pub SM : ℕ
SM = 8

-- mark of a tone or an accent
abbrev pub A : ℕ
A = 9

-- placeholder; in Myanmar generic base
abbrev pub PLACEHOLDER : ℕ
PLACEHOLDER = 10

abbrev pub DOTTED_CIRCLE : ℕ
DOTTED_CIRCLE = 11

-- register shifter
abbrev pub RS : ℕ
RS = 12

-- matra after a syllable modifier
abbrev pub MPst : ℕ
MPst = 13

-- repha, or a dot of the same use
abbrev pub Repha : ℕ
Repha = 14

abbrev pub Ra : ℕ
Ra = 15

-- medial consonant
abbrev pub CM : ℕ
CM = 16

-- symbol that takes modifiers
abbrev pub Symbol : ℕ
Symbol = 17

-- consonant with stacker
abbrev pub CS : ℕ
CS = 18

-- syllable modifier that may stand alone
abbrev pub SMPst : ℕ
SMPst = 19

-- vowels of Khmer and Myanmar: above, below, before and after the base
abbrev pub VAbv : ℕ
VAbv = 20

abbrev pub VBlw : ℕ
VBlw = 21

abbrev pub VPre : ℕ
VPre = 22

abbrev pub VPst : ℕ
VPst = 23

-- Khmer: robatic, signs like it that stand before vowels, signs after them
abbrev pub Robatic : ℕ
Robatic = 24

abbrev pub Xgroup : ℕ
Xgroup = 25

abbrev pub Ygroup : ℕ
Ygroup = 26

-- Myanmar: asat
abbrev pub Asat : ℕ
Asat = 27

-- Myanmar: medial HA, RA, WA and YA
abbrev pub MH : ℕ
MH = 28

abbrev pub MR : ℕ
MR = 29

abbrev pub MW : ℕ
MW = 30

abbrev pub MY : ℕ
MY = 31

-- Myanmar: tones of Pwo and the like
abbrev pub PT : ℕ
PT = 32

-- Myanmar: selector of a variation
abbrev pub VS : ℕ
VS = 33

-- Myanmar: medial LA of Mon
abbrev pub ML : ℕ
ML = 34
