-- The categories of the Universal Shaping Engine, by the names of its specification.
use Rattle.std.specs.Prelude.{ℕ}

-- any other character
abbrev pub O : ℕ
O = 0

-- base
abbrev pub B : ℕ
B = 1

-- base that is a number
abbrev pub N : ℕ
N = 2

-- generic base: spaces, dashes, the dotted circle
abbrev pub GB : ℕ
GB = 3

-- combining grapheme joiner, and what else a syllable takes no notice of
abbrev pub CGJ : ℕ
CGJ = 4

-- consonant below another one
abbrev pub SUB : ℕ
SUB = 5

-- halant
abbrev pub H : ℕ
H = 6

-- joiner of numbers
abbrev pub HN : ℕ
HN = 7

-- zero width non-joiner
abbrev pub ZWNJ : ℕ
ZWNJ = 8

-- word joiner
abbrev pub WJ : ℕ
WJ = 9

-- repha
abbrev pub R : ℕ
R = 10

-- vowels before the base
abbrev pub VPre : ℕ
VPre = 11

-- modifiers of vowels, before the base
abbrev pub VMPre : ℕ
VMPre = 12

-- final consonants: above, below, after the base
abbrev pub FAbv : ℕ
FAbv = 13

abbrev pub FBlw : ℕ
FBlw = 14

abbrev pub FPst : ℕ
FPst = 15

-- medial consonants: above, below, after and before the base
abbrev pub MAbv : ℕ
MAbv = 16

abbrev pub MBlw : ℕ
MBlw = 17

abbrev pub MPst : ℕ
MPst = 18

abbrev pub MPre : ℕ
MPre = 19

-- modifiers of consonants: above, below
abbrev pub CMAbv : ℕ
CMAbv = 20

abbrev pub CMBlw : ℕ
CMBlw = 21

-- vowels: above, below, after the base
abbrev pub VAbv : ℕ
VAbv = 22

abbrev pub VBlw : ℕ
VBlw = 23

abbrev pub VPst : ℕ
VPst = 24

-- modifiers of vowels: above, below, after the base
abbrev pub VMAbv : ℕ
VMAbv = 25

abbrev pub VMBlw : ℕ
VMBlw = 26

abbrev pub VMPst : ℕ
VMPst = 27

-- modifiers of symbols: above, below
abbrev pub SMAbv : ℕ
SMAbv = 28

abbrev pub SMBlw : ℕ
SMBlw = 29

-- consonant with stacker
abbrev pub CS : ℕ
CS = 30

-- invisible stacker
abbrev pub IS : ℕ
IS = 31

-- modifiers of finals: above, below, after the base
abbrev pub FMAbv : ℕ
FMAbv = 32

abbrev pub FMBlw : ℕ
FMBlw = 33

abbrev pub FMPst : ℕ
FMPst = 34

-- sakot
abbrev pub Sk : ℕ
Sk = 35

-- hieroglyph
abbrev pub G : ℕ
G = 36

-- joiner of hieroglyphs
abbrev pub J : ℕ
J = 37

-- the begin and the end of a segment of hieroglyphs
abbrev pub SB : ℕ
SB = 38

abbrev pub SE : ℕ
SE = 39

-- halant, or a modifier of a vowel
abbrev pub HVM : ℕ
HVM = 40

-- modifier of a hieroglyph
abbrev pub HM : ℕ
HM = 41

-- turned hieroglyph
abbrev pub HR : ℕ
HR = 42

-- killer that repeats
abbrev pub RK : ℕ
RK = 43
