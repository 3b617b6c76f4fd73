-- worked cases: tags of scripts and of languages, by hand from OpenType's lists and RFC 5646
use Rattle.std.specs.Prelude.{◌≡◌, ℕ, Option, Some, None, List, [], ◌∷◌, codes}
use Rattle.shape_common.specs.declared.text_types.hb_tag_t.{hb_tag_t}
use Rattle.shape_common.specs.declared.text_types.Script.{Script}
use Rattle.opentype_tags.specs.Script.{tag, tags_of_script}
use Rattle.opentype_tags.specs.Language.{name_tags, script_tags}

-- the tags of the script with a tag of ISO 15924
abbrev pub of_script : ℕ → List hb_tag_t
of_script n = let script : Script = record { 0 = record { 0 = n } } in tags_of_script (Some script)

-- those of Latin in a text whose language has a name
abbrev pub latin_named : List ℕ → List hb_tag_t
latin_named name = let script : Script = record { 0 = record { 0 = 0x4C61746E } } in script_tags (Some script) (Some name)

pub record WorkedScripts : Type 0 where
  pub no_script : tags_of_script None ≡ []
  pub tag_of_nothing : of_script 0 ≡ []
  pub devanagari : of_script 0x44657661 ≡ tag 0x64657633 ∷ tag 0x64657632 ∷ tag 0x64657661 ∷ []  -- Deva: dev3, dev2, deva
  pub myanmar : of_script 0x4D796D72 ≡ tag 0x6D796D32 ∷ tag 0x6D796D72 ∷ []  -- Mymr: mym2, mymr
  pub tamil : of_script 0x54616D6C ≡ tag 0x746D6C33 ∷ tag 0x746D6C32 ∷ tag 0x74616D6C ∷ []  -- Taml: tml3, tml2, taml
  pub bengali : of_script 0x42656E67 ≡ tag 0x626E6733 ∷ tag 0x626E6732 ∷ tag 0x62656E67 ∷ []  -- Beng: bng3, bng2, beng
  pub gujarati : of_script 0x47756A72 ≡ tag 0x676A7233 ∷ tag 0x676A7232 ∷ tag 0x67756A72 ∷ []  -- Gujr: gjr3, gjr2, gujr
  pub gurmukhi : of_script 0x47757275 ≡ tag 0x67757233 ∷ tag 0x67757232 ∷ tag 0x67757275 ∷ []  -- Guru: gur3, gur2, guru
  pub kannada : of_script 0x4B6E6461 ≡ tag 0x6B6E6433 ∷ tag 0x6B6E6432 ∷ tag 0x6B6E6461 ∷ []  -- Knda: knd3, knd2, knda
  pub malayalam : of_script 0x4D6C796D ≡ tag 0x6D6C6D33 ∷ tag 0x6D6C6D32 ∷ tag 0x6D6C796D ∷ []  -- Mlym: mlm3, mlm2, mlym
  pub oriya : of_script 0x4F727961 ≡ tag 0x6F727933 ∷ tag 0x6F727932 ∷ tag 0x6F727961 ∷ []  -- Orya: ory3, ory2, orya
  pub telugu : of_script 0x54656C75 ≡ tag 0x74656C33 ∷ tag 0x74656C32 ∷ tag 0x74656C75 ∷ []  -- Telu: tel3, tel2, telu
  pub latin : of_script 0x4C61746E ≡ tag 0x6C61746E ∷ []  -- Latn: latn
  pub hiragana : of_script 0x48697261 ≡ tag 0x6B616E61 ∷ []  -- Hira: kana
  pub katakana : of_script 0x4B616E61 ≡ tag 0x6B616E61 ∷ []  -- Kana: kana
  pub lao : of_script 0x4C616F6F ≡ tag 0x6C616F20 ∷ []  -- Laoo: lao
  pub yi : of_script 0x59696969 ≡ tag 0x79692020 ∷ []  -- Yiii: yi
  pub nko : of_script 0x4E6B6F6F ≡ tag 0x6E6B6F20 ∷ []  -- Nkoo: nko
  pub vai : of_script 0x56616969 ≡ tag 0x76616920 ∷ []  -- Vaii: vai
  pub mathematics : of_script 0x5A6D7468 ≡ tag 0x6D617468 ∷ []  -- Zmth: math
  -- tags of scripts are in small letters, but for the default's
  pub named : latin_named (codes "en-x-hbscabcd") ≡ tag 0x61626364 ∷ []  -- abcd
  pub named_in_capitals : latin_named (codes "en-x-hbscABCD") ≡ tag 0x61626364 ∷ []  -- abcd
  pub named_short : latin_named (codes "en-x-hbscAB") ≡ tag 0x61622020 ∷ []  -- ab
  pub named_default : latin_named (codes "x-hbscdflt") ≡ tag 0x44464C54 ∷ []  -- DFLT
  pub named_by_digits : latin_named (codes "x-hbsc-41424344") ≡ tag 0x41424344 ∷ []  -- ABCD
  pub language_named : latin_named (codes "en-x-hbotabcd") ≡ tag 0x6C61746E ∷ []  -- latn
  pub not_named : latin_named (codes "en") ≡ tag 0x6C61746E ∷ []  -- latn

pub record WorkedLanguages : Type 0 where
  pub nothing : name_tags [] ≡ []
  pub turkish : name_tags (codes "tr") ≡ tag 0x54524B20 ∷ []  -- TRK
  pub turkish_of_turkey : name_tags (codes "tr-tr") ≡ tag 0x54524B20 ∷ []  -- TRK
  pub two_tags_in_order : name_tags (codes "bi") ≡ tag 0x42495320 ∷ tag 0x43505020 ∷ []  -- BIS, CPP
  pub three_tags : name_tags (codes "xsl") ≡ tag 0x53534C20 ∷ tag 0x534C4120 ∷ tag 0x41544820 ∷ []  -- SSL, SLA, ATH
  pub no_tag : name_tags (codes "vit") ≡ []  -- none
  pub three_letters_without_a_row : name_tags (codes "fra") ≡ tag 0x46524120 ∷ []  -- FRA
  pub two_letters_without_a_row : name_tags (codes "qq") ≡ []  -- none
  pub extended : name_tags (codes "zh-yue") ≡ tag 0x5A484820 ∷ []  -- ZHH
  pub extended_without_a_row : name_tags (codes "zh-qqq") ≡ []  -- none
  pub short_name_is_not_extended : name_tags (codes "a-yue") ≡ []  -- none
  pub three_letters_after_a_language : name_tags (codes "en-usa") ≡ []  -- none
  pub phonetic : name_tags (codes "en-fonipa") ≡ tag 0x49505048 ∷ []  -- IPPH
  pub americanist : name_tags (codes "en-fonnapa") ≡ tag 0x41505048 ∷ []  -- APPH
  pub polytonic : name_tags (codes "el-polyton") ≡ tag 0x50475220 ∷ []  -- PGR
  pub armenian : name_tags (codes "hy-arevmda") ≡ tag 0x48594520 ∷ []  -- HYE
  pub provencal : name_tags (codes "oc-provenc") ≡ tag 0x50524F20 ∷ []  -- PRO
  pub khutsuri : name_tags (codes "ka-geok") ≡ tag 0x4B474520 ∷ []  -- KGE
  pub estrangela : name_tags (codes "und-syre") ≡ tag 0x53595245 ∷ []  -- SYRE
  pub western_syriac : name_tags (codes "und-syrj") ≡ tag 0x5359524A ∷ []  -- SYRJ
  pub eastern_syriac : name_tags (codes "und-syrn") ≡ tag 0x5359524E ∷ []  -- SYRN
  pub variant_of_one_letter : name_tags (codes "a-geok") ≡ []  -- none
  pub longer_subtag_is_no_variant : name_tags (codes "ka-geokx") ≡ tag 0x4B415420 ∷ []  -- KAT
  pub variant_past_an_extension : name_tags (codes "ka-a-geok") ≡ tag 0x4B415420 ∷ []  -- KAT
  pub lojban : name_tags (codes "art-lojban") ≡ tag 0x4A424F20 ∷ []  -- JBO
  pub navajo : name_tags (codes "i-navajo") ≡ tag 0x4E415620 ∷ tag 0x41544820 ∷ []  -- NAV, ATH
  pub hakka : name_tags (codes "i-hak") ≡ tag 0x5A485320 ∷ []  -- ZHS
  pub luxembourgish : name_tags (codes "i-lux") ≡ tag 0x4C545A20 ∷ []  -- LTZ
  pub bokmal : name_tags (codes "no-bok") ≡ tag 0x4E4F5220 ∷ []  -- NOR
  pub nynorsk : name_tags (codes "no-nyn") ≡ tag 0x4E594E20 ∷ []  -- NYN
  pub min_nan : name_tags (codes "zh-min-nan") ≡ tag 0x5A485320 ∷ []  -- ZHS
  pub min : name_tags (codes "zh-min") ≡ tag 0x5A485320 ∷ []  -- ZHS
  pub hong_kong : name_tags (codes "zh-hk") ≡ tag 0x5A484820 ∷ []  -- ZHH
  pub macao : name_tags (codes "zh-mo") ≡ tag 0x5A48544D ∷ tag 0x5A484820 ∷ []  -- ZHTM, ZHH
  pub taiwan : name_tags (codes "zh-tw") ≡ tag 0x5A485420 ∷ []  -- ZHT
  pub simplified : name_tags (codes "zh-hans") ≡ tag 0x5A485320 ∷ []  -- ZHS
  pub traditional : name_tags (codes "zh-hant") ≡ tag 0x5A485420 ∷ []  -- ZHT
  pub traditional_hong_kong : name_tags (codes "zh-hant-hk") ≡ tag 0x5A484820 ∷ []  -- ZHH
  pub traditional_macao : name_tags (codes "zh-hant-mo") ≡ tag 0x5A48544D ∷ tag 0x5A484820 ∷ []  -- ZHTM, ZHH
  pub simplified_in_hong_kong : name_tags (codes "zh-hans-hk") ≡ tag 0x5A485320 ∷ []  -- ZHS
  pub traditional_taiwan : name_tags (codes "zh-hant-tw") ≡ tag 0x5A485420 ∷ []  -- ZHT
  pub place_after_a_variant : name_tags (codes "zh-x1-hk") ≡ tag 0x5A484820 ∷ []  -- ZHH
  pub mandarin_in_taiwan : name_tags (codes "cmn-tw") ≡ tag 0x5A485420 ∷ []  -- ZHT
  pub literary_simplified : name_tags (codes "lzh-hans") ≡ tag 0x5A485320 ∷ []  -- ZHS
  pub cantonese_simplified : name_tags (codes "yue-hans") ≡ tag 0x5A485320 ∷ []  -- ZHS
  pub cantonese_in_hong_kong : name_tags (codes "yue-hk") ≡ tag 0x5A484820 ∷ []  -- ZHH
  pub irish_traditional : name_tags (codes "ga-latg") ≡ tag 0x49525420 ∷ []  -- IRT
  pub irish : name_tags (codes "ga") ≡ tag 0x49524920 ∷ tag 0x49525420 ∷ []  -- IRI, IRT
  pub mon_in_thailand : name_tags (codes "mnw-th") ≡ tag 0x4D4F4E54 ∷ []  -- MONT
  pub moldavian : name_tags (codes "ro-md") ≡ tag 0x4D4F4C20 ∷ tag 0x524F4D20 ∷ []  -- MOL, ROM
  pub romanian : name_tags (codes "ro-ro") ≡ tag 0x524F4D20 ∷ []  -- ROM
  pub private_language : name_tags (codes "en-x-hbotabcd") ≡ tag 0x41424344 ∷ []  -- ABCD
  pub private_short : name_tags (codes "en-x-hbotab") ≡ tag 0x41422020 ∷ []  -- AB
  pub private_long : name_tags (codes "en-x-hbotabcdef") ≡ tag 0x41424344 ∷ []  -- ABCD
  pub private_hexadecimal : name_tags (codes "en-x-hbot-41424344") ≡ tag 0x41424344 ∷ []  -- ABCD
  pub private_seven_digits : name_tags (codes "en-x-hbot-4142434") ≡ tag 0x454E4720 ∷ []  -- ENG
  pub private_default : name_tags (codes "x-hbotdflt") ≡ tag 0x64666C74 ∷ []  -- dflt
  pub private_alone : name_tags (codes "x-hbotabcd") ≡ tag 0x41424344 ∷ []  -- ABCD
  pub private_nothing : name_tags (codes "x-foo") ≡ []  -- none
  pub key_outside_private_use : name_tags (codes "en-hbotabcd") ≡ tag 0x454E4720 ∷ []  -- ENG
  pub private_use_of_no_letter : name_tags (codes "en-x-hbot") ≡ tag 0x454E4720 ∷ []  -- ENG
  pub private_in_a_later_extension : name_tags (codes "en-a-bb-x-hbottrk") ≡ tag 0x54524B20 ∷ []  -- TRK
