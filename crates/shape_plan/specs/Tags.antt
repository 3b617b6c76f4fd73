-- The tags of the features that a planner asks for: four letters each, the first one highest.
use Rattle.std.specs.Prelude.{ℕ}
use Rattle.shape_common.specs.declared.text_types.hb_tag_t.{hb_tag_t}

-- a tag by its number
abbrev pub tag : ℕ → hb_tag_t
tag number = record { 0 = number }

abbrev pub rvrn : hb_tag_t
rvrn = tag 0x7276726E

abbrev pub ltra : hb_tag_t
ltra = tag 0x6C747261

abbrev pub ltrm : hb_tag_t
ltrm = tag 0x6C74726D

abbrev pub rtla : hb_tag_t
rtla = tag 0x72746C61

abbrev pub rtlm : hb_tag_t
rtlm = tag 0x72746C6D

abbrev pub frac : hb_tag_t
frac = tag 0x66726163

abbrev pub numr : hb_tag_t
numr = tag 0x6E756D72

abbrev pub dnom : hb_tag_t
dnom = tag 0x646E6F6D

abbrev pub rand : hb_tag_t
rand = tag 0x72616E64

abbrev pub trak : hb_tag_t
trak = tag 0x7472616B

abbrev pub harf : hb_tag_t
harf = tag 0x48617266

abbrev pub harf_discretionary : hb_tag_t
harf_discretionary = tag 0x48415246

abbrev pub buzz : hb_tag_t
buzz = tag 0x42757A7A

abbrev pub buzz_discretionary : hb_tag_t
buzz_discretionary = tag 0x42555A5A

abbrev pub abvm : hb_tag_t
abvm = tag 0x6162766D

abbrev pub blwm : hb_tag_t
blwm = tag 0x626C776D

abbrev pub ccmp : hb_tag_t
ccmp = tag 0x63636D70

abbrev pub locl : hb_tag_t
locl = tag 0x6C6F636C

abbrev pub mark : hb_tag_t
mark = tag 0x6D61726B

abbrev pub mkmk : hb_tag_t
mkmk = tag 0x6D6B6D6B

abbrev pub rlig : hb_tag_t
rlig = tag 0x726C6967

abbrev pub calt : hb_tag_t
calt = tag 0x63616C74

abbrev pub clig : hb_tag_t
clig = tag 0x636C6967

abbrev pub curs : hb_tag_t
curs = tag 0x63757273

abbrev pub dist : hb_tag_t
dist = tag 0x64697374

abbrev pub kern : hb_tag_t
kern = tag 0x6B65726E

abbrev pub liga : hb_tag_t
liga = tag 0x6C696761

abbrev pub rclt : hb_tag_t
rclt = tag 0x72636C74

abbrev pub vert : hb_tag_t
vert = tag 0x76657274

abbrev pub vkrn : hb_tag_t
vkrn = tag 0x766B726E
