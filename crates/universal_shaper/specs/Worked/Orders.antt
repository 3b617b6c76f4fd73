-- The order of syllables, and where dotted circles go.
use Rattle.std.specs.Prelude.{◌≡◌, ◌==◌, ℕ, Bool, true, false, List, [], ◌∷◌, map, replicate, refl}
use Rattle.shape_common.specs.declared.text_types.GlyphId.{GlyphId}
use Rattle.shape_items.specs.Items.{Item}
use Rattle.shape_items.specs.Clusters.{merge}
use Rattle.syllables.specs.UniversalCategories.{O, B, N, R, H, HVM, IS, CS, Sk, G, SUB, ZWNJ, VPre, VMPre, VAbv, VBlw, VMPst, FAbv, MBlw, MPre, FMAbv}
use Rattle.syllables.specs.UniversalCategories.{FMPst, CMAbv, CMBlw, SMAbv, SMBlw}
use Rattle.syllabic.specs.Circles.{circled_items, no_circling}
use Rattle.syllabic.specs.Worked.Items.{item, buffer, chars, clusters_of}
use Rattle.universal_shaper.specs.Reordering.{each_reordered, circled}

-- a letter (a), a sign for a repha (r), a vowel before the base (e), one below (u), a halant (h), of a standard syllable (0x12)
abbrev letter : ℕ → Item
letter cluster = item 0x61 cluster B 0x12

abbrev repha : ℕ → Item
repha cluster = item 0x72 cluster R 0x12

abbrev before : ℕ → Item
before cluster = item 0x65 cluster VPre 0x12

abbrev below : ℕ → Item
below cluster = item 0x75 cluster VBlw 0x12

abbrev halant : ℕ → Item
halant cluster = item 0x68 cluster H 0x12

-- a halant that lookups have joined to another glyph
abbrev joined_halant : ℕ → Item
joined_halant cluster =
    let h = halant cluster in record h { properties = record h.properties { ligated = true } }

-- the second glyph that a lookup has made of a vowel before the base
abbrev second_part : ℕ → Item
second_part cluster =
    let e = before cluster in record e { properties = record e.properties { ligature_component = 1 } }

abbrev order : List Item → List ℕ
order items = chars (each_reordered (buffer items)).items

abbrev clusters : List Item → List ℕ
clusters items = clusters_of (each_reordered (buffer items)).items

abbrev glyph : GlyphId
glyph = record { 0 = 9 }

-- with circles in broken syllables
abbrev with_base : List Item → List ℕ
with_base items = chars (circled_items circled glyph no_circling items)

-- whether a repha stays before an item of a category that follows a letter; parts of a glyph (component 1) go nowhere themselves
abbrev last_but_one : List ℕ → ℕ
last_but_one (a ∷ b ∷ c ∷ []) = b
last_but_one _ = 0

abbrev repha_stops : ℕ → Bool
repha_stops category =
    let x = item 0x78 2 category 0x12 in
    let part = record x { properties = record x.properties { ligature_component = 1 } } in
    last_but_one (order (repha 0 ∷ letter 1 ∷ part ∷ [])) == 0x72

pub record WorkedOrders : Type 0 where
  -- a vowel goes before its letter, and its cluster is the letter's; so does a modifier before the base
  pub vowel : order (letter 0 ∷ before 1 ∷ []) ≡ 0x65 ∷ 0x61 ∷ []
  pub vowel_cluster : clusters (letter 0 ∷ before 1 ∷ []) ≡ 0 ∷ 0 ∷ []
  pub modifier : order (letter 0 ∷ item 0x6D 1 VMPre 0x12 ∷ []) ≡ 0x6D ∷ 0x61 ∷ []
  pub over_medial : order (letter 0 ∷ item 0x79 1 MBlw 0x12 ∷ before 2 ∷ []) ≡ 0x65 ∷ 0x61 ∷ 0x79 ∷ []
  -- each goes to the front, so that the last one stands first
  pub two_vowels : order (letter 0 ∷ before 1 ∷ item 0x69 2 VPre 0x12 ∷ []) ≡ 0x69 ∷ 0x65 ∷ 0x61 ∷ []
  -- but not before a halant, unless it is joined to another glyph
  pub halant_stops : order (letter 0 ∷ halant 1 ∷ letter 2 ∷ before 3 ∷ []) ≡ 0x61 ∷ 0x68 ∷ 0x65 ∷ 0x61 ∷ []
  pub halant_clusters : clusters (letter 0 ∷ halant 1 ∷ letter 2 ∷ before 3 ∷ []) ≡ 0 ∷ 1 ∷ 2 ∷ 2 ∷ []
  pub sinhala_stops : order (letter 0 ∷ item 0x68 1 HVM 0x12 ∷ letter 2 ∷ before 3 ∷ []) ≡ 0x61 ∷ 0x68 ∷ 0x65 ∷ 0x61 ∷ []
  pub stacker_stops : order (letter 0 ∷ item 0x68 1 IS 0x12 ∷ letter 2 ∷ before 3 ∷ []) ≡ 0x61 ∷ 0x68 ∷ 0x65 ∷ 0x61 ∷ []
  pub joined_passed : order (letter 0 ∷ joined_halant 1 ∷ letter 2 ∷ before 3 ∷ []) ≡ 0x65 ∷ 0x61 ∷ 0x68 ∷ 0x61 ∷ []
  -- of the glyphs that one lookup has made of a vowel the first one
  pub parts : order (letter 0 ∷ before 1 ∷ second_part 1 ∷ []) ≡ 0x65 ∷ 0x61 ∷ 0x65 ∷ []
  pub second_stays : order (letter 0 ∷ second_part 1 ∷ []) ≡ 0x61 ∷ 0x65 ∷ []
  -- a repha goes behind the base, before what follows it: a vowel, a final, a halant
  pub repha_moves : order (repha 0 ∷ letter 1 ∷ below 2 ∷ []) ≡ 0x61 ∷ 0x72 ∷ 0x75 ∷ []
  pub repha_clusters : clusters (repha 0 ∷ letter 1 ∷ below 2 ∷ []) ≡ 0 ∷ 0 ∷ 2 ∷ []
  pub repha_final : order (repha 0 ∷ letter 1 ∷ item 0x6E 2 FAbv 0x12 ∷ []) ≡ 0x61 ∷ 0x72 ∷ 0x6E ∷ []
  pub repha_halant : order (repha 0 ∷ letter 1 ∷ halant 2 ∷ letter 3 ∷ []) ≡ 0x61 ∷ 0x72 ∷ 0x68 ∷ 0x61 ∷ []
  pub repha_last : order (repha 0 ∷ letter 1 ∷ []) ≡ 0x61 ∷ 0x72 ∷ []
  pub repha_alone : order (repha 0 ∷ []) ≡ 0x72 ∷ []
  pub both_move : order (repha 0 ∷ letter 1 ∷ before 2 ∷ []) ≡ 0x65 ∷ 0x61 ∷ 0x72 ∷ []
  -- one that doesn't stand first stays
  pub repha_inside : order (letter 0 ∷ repha 1 ∷ letter 2 ∷ []) ≡ 0x61 ∷ 0x72 ∷ 0x61 ∷ []
  -- ended by a virama (0x10) or sakot (0x11), symbols (0x15) and broken ones (0x17) are reordered
  pub virama : order (item 0x61 0 B 0x10 ∷ item 0x65 1 VPre 0x10 ∷ []) ≡ 0x65 ∷ 0x61 ∷ []
  pub sakot : order (item 0x61 0 B 0x11 ∷ item 0x65 1 VPre 0x11 ∷ []) ≡ 0x65 ∷ 0x61 ∷ []
  pub symbol : order (item 0x61 0 O 0x15 ∷ item 0x65 1 VPre 0x15 ∷ []) ≡ 0x65 ∷ 0x61 ∷ []
  pub broken : order (item 0x25CC 0 B 0x17 ∷ item 0x65 1 VPre 0x17 ∷ []) ≡ 0x65 ∷ 0x25CC ∷ []
  -- numbers (0x14) stay, and so does what is no cluster (0x18), and another syllable
  pub numeral : order (item 0x31 0 N 0x14 ∷ item 0x65 1 VPre 0x14 ∷ []) ≡ 0x31 ∷ 0x65 ∷ []
  pub no_cluster : order (item 0x31 0 O 0x18 ∷ item 0x65 1 VPre 0x18 ∷ []) ≡ 0x31 ∷ 0x65 ∷ []
  pub apart : order (letter 0 ∷ item 0x65 1 VPre 0x22 ∷ []) ≡ 0x61 ∷ 0x65 ∷ []
  -- a broken syllable gets a circle before its sign, and after a repha; others get none
  pub circle : with_base (item 0x75 0 VBlw 0x17 ∷ []) ≡ 0x25CC ∷ 0x75 ∷ []
  pub circle_after_repha : with_base (item 0x72 0 R 0x17 ∷ item 0x75 1 VBlw 0x17 ∷ []) ≡ 0x72 ∷ 0x25CC ∷ 0x75 ∷ []
  pub no_circle : with_base (repha 0 ∷ below 1 ∷ []) ≡ 0x72 ∷ 0x75 ∷ []
  -- a repha goes before each that follows the base, the first and the last of each span of categories; behind others
  pub repha_before_vowels : map repha_stops (VPre ∷ MPre ∷ VAbv ∷ VMPst ∷ FMAbv ∷ FMPst ∷ []) ≡ replicate 6 true
  pub repha_over : map repha_stops (B ∷ SUB ∷ CMAbv ∷ CMBlw ∷ SMAbv ∷ SMBlw ∷ CS ∷ Sk ∷ ZWNJ ∷ []) ≡ replicate 9 false
  -- a halant that lookups have joined is passed, too
  pub repha_joined_halant : order (repha 0 ∷ letter 1 ∷ joined_halant 2 ∷ below 3 ∷ []) ≡ 0x61 ∷ 0x68 ∷ 0x72 ∷ 0x75 ∷ []
  -- sakot isn't a halant here
  pub sakot_passed : order (letter 0 ∷ item 0x68 1 Sk 0x12 ∷ letter 2 ∷ before 3 ∷ []) ≡ 0x65 ∷ 0x61 ∷ 0x68 ∷ 0x61 ∷ []
  -- after a halant the front is there, for all vowels that follow
  pub front_after_halant : order (letter 0 ∷ before 1 ∷ halant 2 ∷ letter 3 ∷ before 4 ∷ item 0x69 5 VPre 0x12 ∷ [])
      ≡ 0x65 ∷ 0x61 ∷ 0x68 ∷ 0x69 ∷ 0x65 ∷ 0x61 ∷ []
  -- a number ended by a joiner (0x13) and hieroglyphs (0x16) stay; a sign alone past a later syllable, too
  pub number_joiner : order (item 0x31 0 N 0x13 ∷ item 0x65 1 VPre 0x13 ∷ []) ≡ 0x31 ∷ 0x65 ∷ []
  pub hieroglyph : order (item 0x31 0 G 0x16 ∷ item 0x65 1 VPre 0x16 ∷ []) ≡ 0x31 ∷ 0x65 ∷ []
  pub apart_later : order (letter 0 ∷ item 0x62 1 B 0x22 ∷ item 0x65 2 VPre 0x38 ∷ []) ≡ 0x61 ∷ 0x62 ∷ 0x65 ∷ []
  -- a run of them goes to the front together, one after another one too; they are in one cluster with what they go past, and no more
  pub run : order (letter 0 ∷ item 0x79 1 MBlw 0x12 ∷ before 2 ∷ item 0x69 3 VPre 0x12 ∷ item 0x6D 4 VMPre 0x12 ∷ below 5 ∷ [])
      ≡ 0x6D ∷ 0x69 ∷ 0x65 ∷ 0x61 ∷ 0x79 ∷ 0x75 ∷ []
  pub run_clusters : clusters (letter 0 ∷ item 0x79 1 MBlw 0x12 ∷ before 2 ∷ item 0x69 3 VPre 0x12 ∷ below 4 ∷ [])
      ≡ 0 ∷ 0 ∷ 0 ∷ 0 ∷ 4 ∷ []
  pub two_runs : order (letter 0 ∷ before 1 ∷ below 2 ∷ item 0x6D 3 VMPre 0x12 ∷ item 0x6E 4 VMPre 0x12 ∷ [])
      ≡ 0x6E ∷ 0x6D ∷ 0x65 ∷ 0x61 ∷ 0x75 ∷ []
  pub run_at_front : order (before 0 ∷ item 0x69 1 VPre 0x12 ∷ letter 2 ∷ []) ≡ 0x69 ∷ 0x65 ∷ 0x61 ∷ []
  pub run_at_front_clusters : clusters (before 0 ∷ item 0x69 1 VPre 0x12 ∷ letter 2 ∷ []) ≡ 0 ∷ 0 ∷ 2 ∷ []
  -- a run ends with its syllable
  pub run_at_end : order (letter 0 ∷ before 1 ∷ item 0x69 2 VPre 0x22 ∷ item 0x62 3 B 0x22 ∷ []) ≡ 0x65 ∷ 0x61 ∷ 0x69 ∷ 0x62 ∷ []

pub worked_orders : WorkedOrders
unfolding merge
worked_orders = record {
  vowel = refl;
  vowel_cluster = refl;
  modifier = refl;
  over_medial = refl;
  two_vowels = refl;
  halant_stops = refl;
  halant_clusters = refl;
  sinhala_stops = refl;
  stacker_stops = refl;
  joined_passed = refl;
  parts = refl;
  second_stays = refl;
  repha_moves = refl;
  repha_clusters = refl;
  repha_final = refl;
  repha_halant = refl;
  repha_last = refl;
  repha_alone = refl;
  both_move = refl;
  repha_inside = refl;
  virama = refl;
  sakot = refl;
  symbol = refl;
  broken = refl;
  numeral = refl;
  no_cluster = refl;
  apart = refl;
  circle = refl;
  circle_after_repha = refl;
  no_circle = refl;
  repha_before_vowels = refl;
  repha_over = refl;
  repha_joined_halant = refl;
  sakot_passed = refl;
  front_after_halant = refl;
  number_joiner = refl;
  hieroglyph = refl;
  apart_later = refl;
  run = refl;
  run_clusters = refl;
  two_runs = refl;
  run_at_front = refl;
  run_at_front_clusters = refl;
  run_at_end = refl;
}
