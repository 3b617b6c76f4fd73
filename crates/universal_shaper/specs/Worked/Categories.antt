-- Categories of characters, by the rules of the specification.
use Rattle.std.specs.Prelude.{◌≡◌, [], ◌∷◌, refl}
use Rattle.syllables.specs.UniversalCategories.{B, CGJ, CMAbv, CS, FMPst, FPst, G, GB, H, HN, HVM, IS, J, MBlw, MPre, N, O, R, RK, SB, SE, SMAbv, SUB}
use Rattle.syllables.specs.UniversalCategories.{Sk, VAbv, VBlw, VMAbv, VMPre, VMPst, VPre, VPst, WJ, ZWNJ}
use Rattle.shape_buffer.specs.Walks.{items_mapped}
use Rattle.syllabic.specs.Worked.Items.{item, buffer}
use Rattle.universal_shaper.specs.Categories.{category, categorized}

pub record WorkedCategories : Type 0 where
  -- letters of Tibetan, Javanese and Adlam, the dotted circle; the space is no base
  pub consonant : category 0xF40 ≡ B
  pub javanese : category 0xA98F ≡ B
  pub adlam : category 0x1E922 ≡ B
  pub circle : category 0x25CC ≡ B
  pub space : category 0x20 ≡ O
  -- a no-break space carries marks
  pub placeholder : category 0xA0 ≡ GB
  -- a number of Brahmi and its joiner
  pub number : category 0x11052 ≡ N
  pub joiner : category 0x1107F ≡ HN
  -- a letter of Tibetan below another one
  pub subjoined : category 0xF90 ≡ SUB
  -- halants of Javanese, Sinhala, Chakma, Batak and Tai Tham
  pub halant : category 0xA9C0 ≡ H
  pub sinhala : category 0xDCA ≡ HVM
  pub stacker : category 0x11133 ≡ IS
  pub killer : category 0x1BF2 ≡ RK
  pub sakot : category 0x1A60 ≡ Sk
  -- a repha, and a letter that a stacker follows
  pub repha : category 0x11D46 ≡ R
  pub with_stacker : category 0x11A3A ≡ CS
  -- vowels of Javanese by their places; of Tibetan I is put below and U above
  pub before : category 0xA9BA ≡ VPre
  pub above : category 0xA9B6 ≡ VAbv
  pub below : category 0xA9B8 ≡ VBlw
  pub after : category 0xA9B4 ≡ VPst
  pub tibetan_i : category 0xF72 ≡ VBlw
  pub tibetan_u : category 0xF74 ≡ VAbv
  -- modifiers of vowels and consonants, medials and finals
  pub modifier_before : category 0x1C35 ≡ VMPre
  pub modifier_above : category 0xA980 ≡ VMAbv
  pub visarga : category 0xA983 ≡ VMPst
  pub nukta : category 0xF39 ≡ CMAbv
  pub medial_below : category 0xA9BF ≡ MBlw
  pub medial_before : category 0x1A55 ≡ MPre
  pub final_after : category 0x1930 ≡ FPst
  pub final_modifier : category 0x2074 ≡ FMPst
  -- a mark of music, hieroglyphs
  pub music : category 0x1B6B ≡ SMAbv
  pub hieroglyph : category 0x13000 ≡ G
  pub hieroglyph_joiner : category 0x13430 ≡ J
  pub segment_begin : category 0x13437 ≡ SB
  pub segment_end : category 0x13438 ≡ SE
  -- what a syllable takes no notice of: ZWJ, selectors of variants; ZWNJ; what can't be seen
  pub zwj : category 0x200D ≡ CGJ
  pub mongolian_selector : category 0x180B ≡ CGJ
  pub selector : category 0xE0100 ≡ CGJ
  pub last_selector : category 0xE01EF ≡ CGJ
  pub zwnj : category 0x200C ≡ ZWNJ
  pub word_joiner : category 0x2060 ≡ WJ
  pub tag : category 0xE0001 ≡ WJ
  -- of no such script, or past all characters
  pub latin : category 0x61 ≡ O
  pub arabic : category 0x628 ≡ O
  pub thai : category 0xE01 ≡ O
  pub ideograph : category 0x20000 ≡ O
  pub last : category 0x10FFFF ≡ O
  -- the bounds of what can't be seen in plane 14; one more is no character
  pub first_unseen : category 0xE0000 ≡ WJ
  pub last_unseen : category 0xE0FFF ≡ WJ
  pub before_unseen : category 0xDFFFF ≡ O
  pub past_unseen : category 0xE1000 ≡ O
  pub before_selectors : category 0xE00FF ≡ WJ
  pub past_selectors : category 0xE01F0 ≡ WJ
  -- each item of a text gets that of its character, and nothing else
  pub items : (categorized (buffer (item 0xF40 3 0 0x12 ∷ item 0xF72 4 7 0x12 ∷ []))).items
      ≡ item 0xF40 3 B 0x12 ∷ item 0xF72 4 VBlw 0x12 ∷ []

pub worked_categories : WorkedCategories
unfolding items_mapped
worked_categories = record {
  consonant = refl;
  javanese = refl;
  adlam = refl;
  circle = refl;
  space = refl;
  placeholder = refl;
  number = refl;
  joiner = refl;
  subjoined = refl;
  halant = refl;
  sinhala = refl;
  stacker = refl;
  killer = refl;
  sakot = refl;
  repha = refl;
  with_stacker = refl;
  before = refl;
  above = refl;
  below = refl;
  after = refl;
  tibetan_i = refl;
  tibetan_u = refl;
  modifier_before = refl;
  modifier_above = refl;
  visarga = refl;
  nukta = refl;
  medial_below = refl;
  medial_before = refl;
  final_after = refl;
  final_modifier = refl;
  music = refl;
  hieroglyph = refl;
  hieroglyph_joiner = refl;
  segment_begin = refl;
  segment_end = refl;
  zwj = refl;
  mongolian_selector = refl;
  selector = refl;
  last_selector = refl;
  zwnj = refl;
  word_joiner = refl;
  tag = refl;
  latin = refl;
  arabic = refl;
  thai = refl;
  ideograph = refl;
  last = refl;
  first_unseen = refl;
  last_unseen = refl;
  before_unseen = refl;
  past_unseen = refl;
  before_selectors = refl;
  past_selectors = refl;
  items = refl;
}
