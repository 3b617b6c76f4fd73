-- The steps of initial reordering one by one, worked out by hand from Microsoft's specification and HarfBuzz's issues.
use Rattle.std.specs.Prelude.{◌≡◌, ℕ, zero, suc, true, false, None, Some, List, [], ◌∷◌, map}
use Rattle.std.specs.Prelude.{slice_index_or, refl}
use Rattle.shape_buffer.specs.NoLookups.{no_lookups}
use Rattle.shape_items.specs.Clusters.{merge}
use Rattle.shape_items.specs.Items.{Item}
use Rattle.syllabic.specs.Worked.Items.{buffer, chars, clusters_of}
use Rattle.indic_shaper.specs.Attaching.{carried, carried_to, goes_with, halant_end, holds_halant}
use Rattle.indic_shaper.specs.Attaching.{is_late_halant, is_ownable, own_place, owner, owner_at}
use Rattle.indic_shaper.specs.Attaching.{signs_attached, signs_owned}
use Rattle.indic_shaper.specs.Bases.{after_joiners, asks_for_half, base_beyond, begins_with_repha}
use Rattle.indic_shaper.specs.Bases.{ends_search, is_below, is_encoded, is_explicit, makes_reph}
use Rattle.indic_shaper.specs.Bases.{may_begin_reph, reph_limit, third_allows}
use Rattle.indic_shaper.specs.Glyphs.{is_letter, is_matra_or_halant, position}
use Rattle.indic_shaper.specs.Initial.{Ordering, has_joiner_last, is_ordered_kind, joined}
use Rattle.indic_shaper.specs.Masking.{is_before_zwnj, is_eyelash, joiners_masked, joins_before, pair_masked}
use Rattle.indic_shaper.specs.Masking.{pref_masked}
use Rattle.indic_shaper.specs.Sorting.{arranged, index_at, is_in_order, merged_at, moves, sorted, order as sorting_order}
use Rattle.indic_shaper.specs.Worked.Initial.{anusvara, at, facts, halant, joining, ka, nukta, ra, sign_aa}
use Rattle.indic_shaper.specs.Worked.Initial.{sign_i, ssa, with_reph, ya_below, zwj, zwnj}
use Rattle.indic_shaper.specs.declared.config.RephMode.TheVariants.{Implicit, Explicit, Encoded}
use Rattle.indic_shaper.specs.declared.config.TheConstants.{DEVANAGARI, KANNADA, MALAYALAM, TELUGU}
use Rattle.indic_shaper.specs.declared.engine.Facts.{Facts}
use Rattle.indic_shaper.specs.declared.requests.TheConstants.{PREF, RPHF}

abbrev pub devanagari : Facts
devanagari = facts DEVANAGARI false

-- a reph that is a character of its own
abbrev repha : ℕ → Item
repha cluster = at 0xD4E cluster 14 14

-- a vowel sign that may stand after a modifier, and that modifier's place
abbrev late_sign : ℕ → Item
late_sign place = at 0xA41 0 13 place

abbrev ligature : Item → Item
ligature x = record x { properties = record x.properties { ligated = true } }

abbrev positions : List Item → List ℕ
positions items = map position items

abbrev masks_of : List Item → List ℕ
masks_of items = map (λ (x : Item). x.mask) items

pub record WorkedBases : Type 0 where
  -- C, V, placeholder, circle, Ra, medial and stacked consonants are letters
  pub letters : map is_letter (0 ∷ 1 ∷ 2 ∷ 3 ∷ 4 ∷ 7 ∷ 9 ∷ 10 ∷ 11 ∷ 12 ∷ 14 ∷ 15 ∷ 16 ∷ 17 ∷ 18 ∷ [])
      ≡ false ∷ true ∷ true ∷ false ∷ false ∷ false ∷ false ∷ true ∷ true ∷ false ∷ false ∷ true ∷ true ∷ false ∷ true ∷ []
  pub signs : map is_matra_or_halant (halant 0 ∷ sign_aa 0 ∷ late_sign 8 ∷ nukta 0 ∷ ligature (halant 0) ∷ [])
      ≡ true ∷ true ∷ true ∷ false ∷ false ∷ []
  pub below : map is_below (ya_below 0 ∷ ka 0 ∷ halant 0 ∷ []) ≡ true ∷ false ∷ false ∷ []
  pub joiners : after_joiners (ra 0 ∷ halant 1 ∷ zwj 2 ∷ zwnj 3 ∷ ka 4 ∷ []) 2 ≡ 4
  -- Ra, Halant and what isn't a joiner; Ra, Halant and ZWJ; a character of its own
  pub third : map (λ mode. third_allows mode (zwj 2)) (Implicit ∷ Explicit ∷ Encoded ∷ []) ≡ false ∷ true ∷ false ∷ []
  pub explicit : map is_explicit (Implicit ∷ Explicit ∷ Encoded ∷ []) ≡ false ∷ true ∷ false ∷ []
  pub encoded : map is_encoded (Implicit ∷ Explicit ∷ Encoded ∷ []) ≡ false ∷ false ∷ true ∷ []
  -- no reph without its feature, nor of two characters
  pub asked : map (λ mask. may_begin_reph (record devanagari { masks = record devanagari.masks { rphf = mask } })
      (ra 0 ∷ halant 1 ∷ ka 2 ∷ []))
      (0 ∷ 1 ∷ 2 ∷ []) ≡ false ∷ true ∷ true ∷ []
  pub two : may_begin_reph devanagari (ra 0 ∷ halant 1 ∷ []) ≡ false
  -- fonts of Telugu may join ZWJ, too
  pub joined_zwj : makes_reph (joining RPHF (0x930 ∷ 0x94D ∷ 0x200D ∷ [])) (facts TELUGU false) (ra 0 ∷ halant 1 ∷ zwj 2 ∷ [])
      ≡ true
  pub no_zwj : makes_reph (joining RPHF (0x930 ∷ 0x94D ∷ 0x200D ∷ [])) devanagari (ra 0 ∷ halant 1 ∷ zwj 2 ∷ [])
      ≡ false
  pub not_joined : makes_reph no_lookups (facts TELUGU false) (ra 0 ∷ halant 1 ∷ zwj 2 ∷ []) ≡ false
  pub alone : begins_with_repha (facts MALAYALAM false) (repha 0 ∷ []) ≡ true
  pub of_no_other : begins_with_repha devanagari (repha 0 ∷ ka 1 ∷ []) ≡ false
  pub limits : map (λ items. reph_limit with_reph devanagari items)
      ((ra 0 ∷ halant 1 ∷ ka 2 ∷ []) ∷ (ra 0 ∷ halant 1 ∷ zwj 2 ∷ ka 3 ∷ []) ∷ [])
      ≡ 2 ∷ 0 ∷ []
  pub limit_zwj : reph_limit with_reph (facts TELUGU false) (ra 0 ∷ halant 1 ∷ zwj 2 ∷ ka 3 ∷ []) ≡ 3
  pub limit_repha : reph_limit no_lookups (facts MALAYALAM false) (repha 0 ∷ zwj 1 ∷ ka 2 ∷ []) ≡ 2
  -- ZWJ right after a Halant, from the second item on
  pub half : map (asks_for_half (zwj 0 ∷ halant 1 ∷ zwj 2 ∷ zwj 3 ∷ nukta 4 ∷ halant 5 ∷ [])) (0 ∷ 1 ∷ 2 ∷ 3 ∷ 4 ∷ 5 ∷ [])
      ≡ false ∷ false ∷ true ∷ false ∷ false ∷ false ∷ []
  pub half_first : asks_for_half (halant 0 ∷ zwj 1 ∷ halant 2 ∷ []) 1 ≡ true
  pub nukta_after : asks_for_half (ka 0 ∷ halant 1 ∷ nukta 2 ∷ []) 2 ≡ false
  pub at_limit : ends_search (ka 0 ∷ nukta 1 ∷ ssa 2 ∷ []) 1 false 1 ≡ true
  -- with no consonant the base is the end, or Ra of a reph
  pub no_base : map (base_beyond (nukta 0 ∷ halant 1 ∷ [])) (0 ∷ 1 ∷ []) ≡ 2 ∷ 0 ∷ []

pub record WorkedAttaching : Type 0 where
  -- a Halant after the base
  pub late : map (λ i. is_late_halant 1 i (halant 0)) (0 ∷ 1 ∷ 2 ∷ []) ≡ false ∷ false ∷ true ∷ []
  pub not_late : is_late_halant 1 2 (nukta 0) ≡ false
  -- it goes behind a consonant; in Kannada it stays if a Halant is there
  pub holds : map (holds_halant (facts KANNADA true)) (ka 0 ∷ halant 0 ∷ nukta 0 ∷ []) ≡ true ∷ true ∷ false ∷ []
  pub holds_elsewhere : map (holds_halant (facts DEVANAGARI true)) (ka 0 ∷ halant 0 ∷ nukta 0 ∷ [])
      ≡ true ∷ false ∷ false ∷ []
  pub end : halant_end (facts DEVANAGARI true) (ka 0 ∷ halant 1 ∷ ya_below 2 ∷ halant 3 ∷ nukta 4 ∷ []) ≡ 3
  pub carries : chars (carried 1 2 (ka 0 ∷ halant 1 ∷ ssa 2 ∷ ra 3 ∷ nukta 4 ∷ []))
      ≡ 0x915 ∷ 0x937 ∷ 0x930 ∷ 0x94D ∷ 0x93C ∷ []
  pub carries_to : chars (carried_to 1 3 (ka 0 ∷ halant 1 ∷ ssa 2 ∷ zwnj 3 ∷ halant 4 ∷ []))
      ≡ 0x915 ∷ 0x937 ∷ 0x94D ∷ 0x200C ∷ 0x94D ∷ []
  pub stays : chars (carried_to 1 4 (ka 0 ∷ halant 1 ∷ ssa 2 ∷ halant 3 ∷ [])) ≡ 0x915 ∷ 0x94D ∷ 0x937 ∷ 0x94D ∷ []
  -- a modifier goes with a vowel sign right after it that may stand there, unless that stands last (13), too
  pub with_sign : map (goes_with (anusvara 0)) (late_sign 9 ∷ late_sign 13 ∷ sign_aa 0 ∷ [])
      ≡ true ∷ false ∷ false ∷ []
  pub no_modifier : goes_with (nukta 0) (late_sign 9) ≡ false
  pub own : map (own_place (anusvara 0)) (late_sign 9 ∷ late_sign 13 ∷ []) ≡ 9 ∷ 13 ∷ []
  pub right_after : positions (signs_attached (ka 0 ∷ anusvara 1 ∷ late_sign 9 ∷ late_sign 8 ∷ []))
      ≡ 4 ∷ 9 ∷ 9 ∷ 8 ∷ []
  -- signs go with what is before them, at first with nothing (0); not with a modifier that stands last
  pub attached : positions (signs_attached (nukta 0 ∷ ka 1 ∷ nukta 2 ∷ anusvara 3 ∷ zwj 4 ∷ []))
      ≡ 0 ∷ 4 ∷ 4 ∷ 13 ∷ 4 ∷ []
  -- a Halant doesn't go before the base (2), and takes the place before that one; there with nothing else
  pub halants : positions (signs_attached (ya_below 0 ∷ sign_i 1 ∷ halant 2 ∷ nukta 3 ∷ [])) ≡ 8 ∷ 2 ∷ 8 ∷ 2 ∷ []
  pub halant_first : positions (signs_attached (sign_i 0 ∷ halant 1 ∷ [])) ≡ 2 ∷ 2 ∷ []
  -- a consonant owns what is before it, up to a vowel sign
  pub owners : map (λ x. owner_at x (Some 8)) (ka 0 ∷ sign_aa 0 ∷ nukta 0 ∷ []) ≡ Some 4 ∷ None ∷ Some 8 ∷ []
  pub no_owner : owner (nukta 0 ∷ sign_aa 1 ∷ ka 2 ∷ []) ≡ None
  pub ownable : map (λ i. is_ownable 1 i (halant 0)) (0 ∷ 1 ∷ 2 ∷ []) ≡ false ∷ false ∷ true ∷ []
  pub not_ownable : map (is_ownable 1 2) (ka 0 ∷ sign_aa 0 ∷ anusvara 0 ∷ at 0x93C 0 3 12 ∷ [])
      ≡ false ∷ false ∷ false ∷ true ∷ []
  pub owned : positions (signs_owned 0 (at 0x94D 0 4 4 ∷ at 0x94D 1 4 4 ∷ ya_below 2 ∷ [])) ≡ 4 ∷ 8 ∷ 8 ∷ []

pub record WorkedMasks : Type 0 where
  -- Ra and Halant at least two places before the base; not with ZWJ after them, but right before the base
  pub eyelash : map (λ left. is_eyelash left (ra 0) (halant 1 ∷ ka 2 ∷ [])) (0 ∷ 1 ∷ 2 ∷ 3 ∷ [])
      ≡ false ∷ false ∷ true ∷ true ∷ []
  pub with_zwj : map (λ left. is_eyelash left (ra 0) (halant 1 ∷ zwj 2 ∷ ka 3 ∷ [])) (2 ∷ 3 ∷ []) ≡ true ∷ false ∷ []
  pub zwj_first : is_eyelash 3 (ra 0) (zwj 1 ∷ halant 2 ∷ []) ≡ false
  pub other_letter : is_eyelash 3 (ka 0) (halant 1 ∷ ka 2 ∷ []) ≡ false
  -- the first pair after the base, and no half of one
  pub pairs : map (λ i. joins_before (joining PREF (0x94D ∷ 0x930 ∷ [])) devanagari 1 i (halant 0) (ra 1 ∷ [])) (0 ∷ 1 ∷ 2 ∷ [])
      ≡ false ∷ false ∷ true ∷ []
  pub pair : masks_of (pair_masked 16 1 (ka 0 ∷ halant 1 ∷ ra 2 ∷ [])) ≡ 0 ∷ 16 ∷ 16 ∷ []
  pub half_pair : masks_of (pair_masked 16 1 (ka 0 ∷ halant 1 ∷ [])) ≡ 0 ∷ 0 ∷ []
  pub pref : map (λ mask. masks_of (pref_masked (joining PREF (0x94D ∷ 0x930 ∷ []))
      (record devanagari { masks = record devanagari.masks { pref = mask } }) 0 (ka 0 ∷ halant 1 ∷ ra 2 ∷ []))) (0 ∷ 1 ∷ [])
      ≡ (0 ∷ 0 ∷ 0 ∷ []) ∷ (0 ∷ 1 ∷ 1 ∷ []) ∷ []
  -- a ZWNJ takes half forms (128) away, back to a consonant
  pub before_zwnj : map is_before_zwnj ([] ∷ (nukta 0 ∷ zwnj 1 ∷ []) ∷ (ka 0 ∷ zwnj 1 ∷ []) ∷ [])
      ≡ false ∷ true ∷ false ∷ []
  pub keeps_half : masks_of (joiners_masked devanagari (record (ka 0) { mask = 129 } ∷ [])) ≡ 129 ∷ []
  pub takes_half : masks_of (joiners_masked devanagari (record (ka 0) { mask = 129 } ∷ zwnj 1 ∷ [])) ≡ 1 ∷ 0 ∷ []

-- n letters, each in a cluster of its own
abbrev letters : (n from : ℕ) → List Item
letters zero from = []
letters (suc n) from = ka from ∷ letters n (suc from)

abbrev indexes : (n from : ℕ) → List ℕ
indexes zero from = []
indexes (suc n) from = from ∷ indexes n (suc from)

-- the cluster of the second of n letters that have not moved, once they are joined
abbrev second_of : ℕ → ℕ
second_of n =
    let o : Ordering = record { items = letters n 0; order = indexes n 0; base = 0 } in
    slice_index_or (clusters_of (joined devanagari 0 o (buffer (letters n 0))).items) 1 9

pub record WorkedJoins : Type 0 where
  -- syllables of consonants, of vowels and placeholders, and broken ones are ordered; symbols and others aren't
  pub kinds : map is_ordered_kind (0 ∷ 1 ∷ 2 ∷ 3 ∷ 4 ∷ 5 ∷ []) ≡ true ∷ true ∷ true ∷ false ∷ true ∷ false ∷ []
  pub kannada : map (λ items. has_joiner_last (facts KANNADA false) items 0 3)
      ((ra 0 ∷ halant 1 ∷ zwj 2 ∷ []) ∷ (ka 0 ∷ halant 1 ∷ zwj 2 ∷ []) ∷ (ra 0 ∷ zwj 1 ∷ zwj 2 ∷ []) ∷ (ra 0 ∷ halant 1 ∷ zwnj 2 ∷ []) ∷ [])
      ≡ true ∷ false ∷ false ∷ false ∷ []
  pub two : has_joiner_last (facts KANNADA false) (ra 0 ∷ halant 1 ∷ zwj 2 ∷ []) 0 2 ≡ false
  pub elsewhere : has_joiner_last devanagari (ra 0 ∷ halant 1 ∷ zwj 2 ∷ []) 0 3 ≡ false
  -- what moved is merged if it is the base or after it
  pub base_moved : clusters_of (merged_at 0 0 2 (1 ∷ 0 ∷ []) 0 (buffer (ka 0 ∷ ssa 1 ∷ []))).items ≡ 0 ∷ 0 ∷ []
  pub before_base : clusters_of (merged_at 0 1 2 (1 ∷ 0 ∷ []) 0 (buffer (ka 0 ∷ ssa 1 ∷ []))).items ≡ 0 ∷ 1 ∷ []
  -- all from the base on in the older specification, whose syllable begins at the second item
  pub older : clusters_of (joined (facts DEVANAGARI true) 1 (record { items = ka 1 ∷ ssa 2 ∷ ra 3 ∷ []; order = 0 ∷ 1 ∷ 2 ∷ []; base = 1 })
      (buffer (ka 0 ∷ ka 1 ∷ ssa 2 ∷ ra 3 ∷ ka 4 ∷ []))).items ≡ 0 ∷ 1 ∷ 2 ∷ 2 ∷ 4 ∷ []
  -- and past 127 items
  pub long : map second_of (127 ∷ 128 ∷ []) ≡ 1 ∷ 0 ∷ []
  pub no_index : index_at [] 0 ≡ 0
  -- positions that rise; not a sign before the base, which may have to be turned round
  pub rising : map is_in_order ([] ∷ (ka 0 ∷ sign_aa 1 ∷ anusvara 2 ∷ []) ∷ (ka 0 ∷ ssa 1 ∷ [])
      ∷ (anusvara 0 ∷ ka 1 ∷ []) ∷ (sign_i 0 ∷ ka 1 ∷ []) ∷ [])
      ≡ true ∷ true ∷ true ∷ false ∷ false ∷ []
  pub falling : is_in_order (ka 0 ∷ anusvara 1 ∷ sign_aa 2 ∷ anusvara 3 ∷ []) ≡ false
  pub unmoved : moves (ka 0 ∷ sign_aa 1 ∷ []) ≡ []
  pub moved : moves (ka 0 ∷ anusvara 1 ∷ sign_aa 2 ∷ []) ≡ 0 ∷ 2 ∷ 1 ∷ []
  -- what is in order stays, as sorting has it
  pub stays : chars (sorted (ka 0 ∷ ssa 1 ∷ sign_aa 2 ∷ [])) ≡ 0x915 ∷ 0x937 ∷ 0x93E ∷ []
  pub stays_sorted : chars (arranged (ka 0 ∷ ssa 1 ∷ sign_aa 2 ∷ []) (sorting_order (ka 0 ∷ ssa 1 ∷ sign_aa 2 ∷ [])))
      ≡ 0x915 ∷ 0x937 ∷ 0x93E ∷ []
  pub goes : chars (sorted (ka 0 ∷ sign_i 1 ∷ [])) ≡ 0x93F ∷ 0x915 ∷ []
  pub arranges : chars (arranged (ka 0 ∷ ssa 1 ∷ ra 2 ∷ []) (2 ∷ 0 ∷ 1 ∷ [])) ≡ 0x930 ∷ 0x915 ∷ 0x937 ∷ []

pub worked_bases : WorkedBases
worked_bases = record {
  letters = refl;
  signs = refl;
  below = refl;
  joiners = refl;
  third = refl;
  explicit = refl;
  encoded = refl;
  asked = refl;
  two = refl;
  joined_zwj = refl;
  no_zwj = refl;
  not_joined = refl;
  alone = refl;
  of_no_other = refl;
  limits = refl;
  limit_zwj = refl;
  limit_repha = refl;
  half = refl;
  half_first = refl;
  nukta_after = refl;
  at_limit = refl;
  no_base = refl;
}

pub worked_attaching : WorkedAttaching
worked_attaching = record {
  late = refl;
  not_late = refl;
  holds = refl;
  holds_elsewhere = refl;
  end = refl;
  carries = refl;
  carries_to = refl;
  stays = refl;
  with_sign = refl;
  no_modifier = refl;
  own = refl;
  right_after = refl;
  attached = refl;
  halants = refl;
  halant_first = refl;
  owners = refl;
  no_owner = refl;
  ownable = refl;
  not_ownable = refl;
  owned = refl;
}

pub worked_masks : WorkedMasks
worked_masks = record {
  eyelash = refl;
  with_zwj = refl;
  zwj_first = refl;
  other_letter = refl;
  pairs = refl;
  pair = refl;
  half_pair = refl;
  pref = refl;
  before_zwnj = refl;
  keeps_half = refl;
  takes_half = refl;
}

pub worked_joins : WorkedJoins
unfolding merge
worked_joins = record {
  kinds = refl;
  kannada = refl;
  two = refl;
  elsewhere = refl;
  base_moved = refl;
  before_base = refl;
  older = refl;
  long = refl;
  no_index = refl;
  rising = refl;
  falling = refl;
  unmoved = refl;
  moved = refl;
  stays = refl;
  stays_sorted = refl;
  goes = refl;
  arranges = refl;
}
