-- Final reordering worked out by hand: the order of a syllable's characters, and their clusters.
use Rattle.std.specs.Prelude.{◌≡◌, ℕ, List, [], ◌∷◌, false, true, map, refl}
use Rattle.shape_items.specs.Items.{Item}
use Rattle.shape_items.specs.Clusters.{merge}
use Rattle.shape_buffer.specs.Walks.{items_mapped}
use Rattle.syllabic.specs.Worked.Items.{buffer, chars, clusters_of, item}
use Rattle.indic_shaper.specs.Scripts.{config_of}
use Rattle.indic_shaper.specs.Settling.Syllables.{all_settled, settled}
use Rattle.indic_shaper.specs.declared.config.TheConstants.{DEVANAGARI, BENGALI, ORIYA, TAMIL, TELUGU, MALAYALAM}
use Rattle.indic_shaper.specs.declared.engine.Facts.{Facts}

-- a font of the new specification, whose masks of pref and init are 8 and 16
abbrev pub facts : ℕ → Facts
facts tag = record {
  tag = tag;
  config = config_of tag;
  is_old = false;
  masks = record { rphf = 0; pref = 8; blwf = 0; abvf = 0; half = 0; pstf = 0; init = 16 };
  virama = 0x94D;
}

-- a character of a syllable by its cluster, category and position
abbrev pub at : (c cluster category position : ℕ) → Item
at c cluster category position =
    let new = item c cluster category 0x10 in record new { properties = record new.properties { shaper_auxiliary = position } }

-- what a lookup has made of two items
abbrev pub joined : Item → Item
joined x = record x { properties = record x.properties { substituted = true; ligated = true } }

-- a letter before the base (3), the base (4), a Halant, a matra before the base (2) and one after it (12)
abbrev pub letter : ℕ → Item
letter cluster = at 0x915 cluster 1 3

abbrev pub base : ℕ → Item
base cluster = at 0x937 cluster 1 4

abbrev pub halant : ℕ → Item
halant cluster = at 0x94D cluster 4 3

abbrev pub matra : ℕ → Item
matra cluster = at 0x93F cluster 7 2

abbrev pub after : ℕ → Item
after cluster = at 0x93E cluster 7 12

-- a reph (1) that the font has made of Ra and Halant, a form below the base (8), a sign that stands last (13)
abbrev pub reph : ℕ → Item
reph cluster = joined (at 0x930 cluster 15 1)

abbrev pub below : ℕ → Item
below cluster = at 0x92F cluster 1 8

abbrev pub last : ℕ → Item
last cluster = at 0x902 cluster 8 13

-- a consonant that asked for a form before the base
abbrev pub asking : ℕ → Item
asking cluster = record (at 0xD30 cluster 15 11) { mask = 8 }

abbrev pub order : ℕ → List Item → List ℕ
order tag items = chars (all_settled (facts tag) (buffer items)).items

abbrev pub clusters : ℕ → List Item → List ℕ
clusters tag items = clusters_of (all_settled (facts tag) (buffer items)).items

abbrev pub masks : ℕ → List Item → List ℕ
masks tag items = map (λ (x : Item). x.mask) (all_settled (facts tag) (buffer items)).items

pub record WorkedMatras : Type 0 where
  -- a matra goes after a Halant that stands alone, and is in the base's cluster; the letter that it has stepped past is not
  pub standing : order DEVANAGARI (matra 3 ∷ letter 0 ∷ halant 1 ∷ base 2 ∷ []) ≡ 0x915 ∷ 0x94D ∷ 0x93F ∷ 0x937 ∷ []
  pub standing_clusters : clusters DEVANAGARI (matra 3 ∷ letter 0 ∷ halant 1 ∷ base 2 ∷ []) ≡ 0 ∷ 1 ∷ 2 ∷ 2 ∷ []
  -- it stays before half forms
  pub half : order DEVANAGARI (matra 3 ∷ joined (letter 0) ∷ base 2 ∷ []) ≡ 0x93F ∷ 0x915 ∷ 0x937 ∷ []
  pub half_clusters : clusters DEVANAGARI (matra 3 ∷ joined (letter 0) ∷ base 2 ∷ []) ≡ 0 ∷ 0 ∷ 0 ∷ []
  -- and does not go after a Halant with ZWJ
  pub joiner : order DEVANAGARI (matra 4 ∷ letter 0 ∷ halant 1 ∷ at 0x200D 2 6 3 ∷ base 3 ∷ [])
      ≡ 0x93F ∷ 0x915 ∷ 0x94D ∷ 0x200D ∷ 0x937 ∷ []
  -- Tamil has no half forms: it goes next to the base
  pub tamil : order TAMIL (matra 3 ∷ letter 0 ∷ joined (halant 1) ∷ base 2 ∷ []) ≡ 0x915 ∷ 0x94D ∷ 0x93F ∷ 0x937 ∷ []
  pub tamil_clusters : clusters TAMIL (matra 3 ∷ letter 0 ∷ joined (halant 1) ∷ base 2 ∷ []) ≡ 0 ∷ 1 ∷ 2 ∷ 2 ∷ []

pub record WorkedRephs : Type 0 where
  -- Devanagari: to the end, before signs that stand last; all that it steps past is one cluster
  pub devanagari : order DEVANAGARI (reph 0 ∷ base 2 ∷ after 3 ∷ last 4 ∷ []) ≡ 0x937 ∷ 0x93E ∷ 0x930 ∷ 0x902 ∷ []
  pub one_cluster : clusters DEVANAGARI (reph 0 ∷ base 2 ∷ after 3 ∷ last 4 ∷ []) ≡ 0 ∷ 0 ∷ 0 ∷ 4 ∷ []
  -- Oriya and Malayalam: after the main consonant; Bengali: after forms below it; Telugu: to the end
  pub oriya : order ORIYA (reph 0 ∷ base 2 ∷ below 3 ∷ after 4 ∷ []) ≡ 0x937 ∷ 0x930 ∷ 0x92F ∷ 0x93E ∷ []
  pub bengali : order BENGALI (reph 0 ∷ base 2 ∷ below 3 ∷ after 4 ∷ []) ≡ 0x937 ∷ 0x92F ∷ 0x930 ∷ 0x93E ∷ []
  pub telugu : order TELUGU (reph 0 ∷ base 2 ∷ below 3 ∷ after 4 ∷ []) ≡ 0x937 ∷ 0x92F ∷ 0x93E ∷ 0x930 ∷ []
  -- after a Halant before the base, and after a joiner there
  pub halant_first : order ORIYA (reph 0 ∷ letter 1 ∷ halant 2 ∷ base 3 ∷ []) ≡ 0x915 ∷ 0x94D ∷ 0x930 ∷ 0x937 ∷ []
  pub joiner_too : order ORIYA (reph 0 ∷ letter 1 ∷ halant 2 ∷ at 0x200D 3 6 3 ∷ base 4 ∷ [])
      ≡ 0x915 ∷ 0x94D ∷ 0x200D ∷ 0x930 ∷ 0x937 ∷ []
  -- before a Halant that a matra has: U+0930 U+094D U+0915 U+094B U+094D
  pub matra_halant : order DEVANAGARI (reph 0 ∷ base 2 ∷ after 3 ∷ at 0x94D 4 4 12 ∷ []) ≡ 0x937 ∷ 0x93E ∷ 0x930 ∷ 0x94D ∷ []
  -- Ra that no lookup has joined stays
  pub not_joined : order DEVANAGARI (at 0x930 0 15 1 ∷ base 2 ∷ after 3 ∷ []) ≡ 0x930 ∷ 0x937 ∷ 0x93E ∷ []
  -- a reph that is written as such moves unless it is joined
  pub written : order MALAYALAM (at 0xD4E 0 14 1 ∷ base 1 ∷ after 2 ∷ []) ≡ 0x937 ∷ 0xD4E ∷ 0x93E ∷ []
  pub written_joined : order MALAYALAM (joined (at 0xD4E 0 14 1) ∷ base 1 ∷ after 2 ∷ []) ≡ 0xD4E ∷ 0x937 ∷ 0x93E ∷ []

pub record WorkedPrefs : Type 0 where
  -- a form before the base goes there, in one cluster with what it steps past
  pub formed : order MALAYALAM (base 0 ∷ joined (asking 1) ∷ after 2 ∷ []) ≡ 0xD30 ∷ 0x937 ∷ 0x93E ∷ []
  pub formed_clusters : clusters MALAYALAM (base 0 ∷ joined (asking 1) ∷ after 2 ∷ []) ≡ 0 ∷ 0 ∷ 2 ∷ []
  -- one that no lookup has made stays, and is the base: a matra goes next to it
  pub unformed : order MALAYALAM (matra 2 ∷ base 0 ∷ asking 1 ∷ []) ≡ 0x937 ∷ 0x93F ∷ 0xD30 ∷ []
  -- after the last Halant before the base, where there are half forms
  pub after_halant : order TELUGU (letter 0 ∷ halant 1 ∷ base 2 ∷ joined (asking 3) ∷ []) ≡ 0x915 ∷ 0x94D ∷ 0xD30 ∷ 0x937 ∷ []

pub record WorkedBeginnings : Type 0 where
  -- a matra that begins a word asks for `init` (16)
  pub first : masks BENGALI (matra 1 ∷ base 0 ∷ []) ≡ 16 ∷ 0 ∷ []
  -- one after a letter does not: the text must not be broken before it (3, unsafe to break and to concat)
  pub later : masks BENGALI (item 0x995 0 1 0x21 ∷ matra 2 ∷ base 1 ∷ []) ≡ 0 ∷ 3 ∷ 0 ∷ []

pub worked_matras : WorkedMatras
unfolding merge items_mapped settled
worked_matras = record {
  standing = refl;
  standing_clusters = refl;
  half = refl;
  half_clusters = refl;
  joiner = refl;
  tamil = refl;
  tamil_clusters = refl;
}

pub worked_rephs : WorkedRephs
unfolding merge items_mapped settled
worked_rephs = record {
  devanagari = refl;
  one_cluster = refl;
  oriya = refl;
  bengali = refl;
  telugu = refl;
  halant_first = refl;
  joiner_too = refl;
  matra_halant = refl;
  not_joined = refl;
  written = refl;
  written_joined = refl;
}

pub worked_prefs : WorkedPrefs
unfolding merge items_mapped settled
worked_prefs = record { formed = refl; formed_clusters = refl; unformed = refl; after_halant = refl }

pub worked_beginnings : WorkedBeginnings
unfolding merge items_mapped settled
worked_beginnings = record { first = refl; later = refl }
