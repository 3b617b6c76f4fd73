-- The scripts of each group, as HarfBuzz lists them: those of the Universal Shaping Engine by the version of Unicode that has them first.
use Rattle.std.specs.Prelude.{◌≡◌, ℕ, List, [], ◌∷◌, Option, None, Some, length, map, refl}
use Rattle.shaper_choice.specs.Scripts.{group_of_tag}
use Rattle.shaper_choice.specs.declared.scripts.Group.{Group}
use Rattle.shaper_choice.specs.declared.scripts.Group.TheVariants as scripts
use Rattle.shaper_choice.specs.declared.scripts.TheConstants.{SCRIPTS}

-- each of these scripts is in this group
abbrev pub AreIn : Group → List ℕ → Type 0
AreIn group tags = map group_of_tag tags ≡ map (λ tag. Some group) tags

pub record WorkedScripts : Type 0 where
  -- Arabic
  pub arabic : AreIn scripts.Arabic (0x41726162 ∷ [])
  -- Syriac
  pub syriac : AreIn scripts.Syriac (0x53797263 ∷ [])
  -- Thai, Lao
  pub thai : AreIn scripts.Thai (0x54686169 ∷ 0x4C616F6F ∷ [])
  -- Hangul
  pub hangul : AreIn scripts.Hangul (0x48616E67 ∷ [])
  -- Hebrew
  pub hebrew : AreIn scripts.Hebrew (0x48656272 ∷ [])
  -- Bengali, Devanagari, Gujarati, Gurmukhi, Kannada, Malayalam, Oriya, Tamil, Telugu
  pub indic : AreIn scripts.Indic (0x42656E67 ∷ 0x44657661 ∷ 0x47756A72 ∷ 0x47757275 ∷ 0x4B6E6461 ∷ 0x4D6C796D ∷ 0x4F727961 ∷
      0x54616D6C ∷ 0x54656C75 ∷ [])
  -- Khmer
  pub khmer : AreIn scripts.Khmer (0x4B686D72 ∷ [])
  -- Myanmar
  pub myanmar : AreIn scripts.Myanmar (0x4D796D72 ∷ [])
  -- Zawgyi
  pub zawgyi : AreIn scripts.Zawgyi (0x51616167 ∷ [])
  -- Tibetan
  pub unicode_2_0 : AreIn scripts.Universal (0x54696274 ∷ [])
  -- Mongolian, Sinhala
  pub unicode_3_0 : AreIn scripts.Universal (0x4D6F6E67 ∷ 0x53696E68 ∷ [])
  -- Buhid, Hanunoo, Tagalog, Tagbanwa
  pub unicode_3_2 : AreIn scripts.Universal (0x42756864 ∷ 0x48616E6F ∷ 0x54676C67 ∷ 0x54616762 ∷ [])
  -- Limbu, Tai Le
  pub unicode_4_0 : AreIn scripts.Universal (0x4C696D62 ∷ 0x54616C65 ∷ [])
  -- Buginese, Kharoshthi, Syloti Nagri, Tifinagh
  pub unicode_4_1 : AreIn scripts.Universal (0x42756769 ∷ 0x4B686172 ∷ 0x53796C6F ∷ 0x54666E67 ∷ [])
  -- Balinese, N'Ko, Phags-pa
  pub unicode_5_0 : AreIn scripts.Universal (0x42616C69 ∷ 0x4E6B6F6F ∷ 0x50686167 ∷ [])
  -- Cham, Kayah Li, Lepcha, Rejang, Saurashtra, Sundanese
  pub unicode_5_1 : AreIn scripts.Universal (0x4368616D ∷ 0x4B616C69 ∷ 0x4C657063 ∷ 0x526A6E67 ∷ 0x53617572 ∷ 0x53756E64 ∷ [])
  -- Egyptian Hieroglyphs, Javanese, Kaithi, Meetei Mayek, Tai Tham, Tai Viet
  pub unicode_5_2 : AreIn scripts.Universal (0x45677970 ∷ 0x4A617661 ∷ 0x4B746869 ∷ 0x4D746569 ∷ 0x4C616E61 ∷ 0x54617674 ∷ [])
  -- Batak, Brahmi, Mandaic
  pub unicode_6_0 : AreIn scripts.Universal (0x4261746B ∷ 0x42726168 ∷ 0x4D616E64 ∷ [])
  -- Chakma, Miao, Sharada, Takri
  pub unicode_6_1 : AreIn scripts.Universal (0x43616B6D ∷ 0x506C7264 ∷ 0x53687264 ∷ 0x54616B72 ∷ [])
  -- Duployan, Grantha, Khojki, Khudawadi, Mahajani, Manichaean, Modi, Pahawh Hmong, Psalter Pahlavi, Siddham, Tirhuta
  pub unicode_7_0 : AreIn scripts.Universal (0x4475706C ∷ 0x4772616E ∷ 0x4B686F6A ∷ 0x53696E64 ∷ 0x4D61686A ∷ 0x4D616E69 ∷
      0x4D6F6469 ∷ 0x486D6E67 ∷ 0x50686C70 ∷ 0x53696464 ∷ 0x54697268 ∷ [])
  -- Ahom, Multani
  pub unicode_8_0 : AreIn scripts.Universal (0x41686F6D ∷ 0x4D756C74 ∷ [])
  -- Adlam, Bhaiksuki, Marchen, Newa
  pub unicode_9_0 : AreIn scripts.Universal (0x41646C6D ∷ 0x42686B73 ∷ 0x4D617263 ∷ 0x4E657761 ∷ [])
  -- Masaram Gondi, Soyombo, Zanabazar Square
  pub unicode_10_0 : AreIn scripts.Universal (0x476F6E6D ∷ 0x536F796F ∷ 0x5A616E62 ∷ [])
  -- Dogra, Gunjala Gondi, Hanifi Rohingya, Makasar, Medefaidrin, Old Sogdian, Sogdian
  pub unicode_11_0 : AreIn scripts.Universal (0x446F6772 ∷ 0x476F6E67 ∷ 0x526F6867 ∷ 0x4D616B61 ∷ 0x4D656466 ∷ 0x536F676F ∷
      0x536F6764 ∷ [])
  -- Elymaic, Nandinagari, Nyiakeng Puachue Hmong, Wancho
  pub unicode_12_0 : AreIn scripts.Universal (0x456C796D ∷ 0x4E616E64 ∷ 0x486D6E70 ∷ 0x5763686F ∷ [])
  -- Chorasmian, Dives Akuru, Khitan Small Script, Yezidi
  pub unicode_13_0 : AreIn scripts.Universal (0x43687273 ∷ 0x4469616B ∷ 0x4B697473 ∷ 0x59657A69 ∷ [])
  -- Cypro Minoan, Old Uyghur, Tangsa, Toto, Vithkuqi
  pub unicode_14_0 : AreIn scripts.Universal (0x43706D6E ∷ 0x4F756772 ∷ 0x546E7361 ∷ 0x546F746F ∷ 0x56697468 ∷ [])
  -- Kawi, Nag Mundari
  pub unicode_15_0 : AreIn scripts.Universal (0x4B617769 ∷ 0x4E61676D ∷ [])
  -- Garay, Gurung Khema, Kirat Rai, Ol Onal, Sunuwar, Todhri, Tulu Tigalari
  pub unicode_16_0 : AreIn scripts.Universal (0x47617261 ∷ 0x47756B68 ∷ 0x4B726169 ∷ 0x4F6E616F ∷ 0x53756E75 ∷ 0x546F6472 ∷
      0x54757467 ∷ [])
  -- Latin, Greek, Cyrillic, Han, Ethiopic, and characters of any script
  pub of_no_group : map group_of_tag (0x4C61746E ∷ 0x4772656B ∷ 0x4379726C ∷ 0x48616E69 ∷ 0x45746869 ∷ 0x5A797979 ∷ [])
      ≡ None ∷ None ∷ None ∷ None ∷ None ∷ None ∷ []
  -- there are no more
  pub no_more : length SCRIPTS ≡ 102

pub worked_scripts : WorkedScripts
worked_scripts = record {
  arabic = refl;
  syriac = refl;
  thai = refl;
  hangul = refl;
  hebrew = refl;
  indic = refl;
  khmer = refl;
  myanmar = refl;
  zawgyi = refl;
  unicode_2_0 = refl;
  unicode_3_0 = refl;
  unicode_3_2 = refl;
  unicode_4_0 = refl;
  unicode_4_1 = refl;
  unicode_5_0 = refl;
  unicode_5_1 = refl;
  unicode_5_2 = refl;
  unicode_6_0 = refl;
  unicode_6_1 = refl;
  unicode_7_0 = refl;
  unicode_8_0 = refl;
  unicode_9_0 = refl;
  unicode_10_0 = refl;
  unicode_11_0 = refl;
  unicode_12_0 = refl;
  unicode_13_0 = refl;
  unicode_14_0 = refl;
  unicode_15_0 = refl;
  unicode_16_0 = refl;
  of_no_group = refl;
  no_more = refl;
}
