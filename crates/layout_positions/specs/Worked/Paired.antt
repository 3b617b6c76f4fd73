-- What lookups of pairs have for two glyphs, computed by hand.
use Rattle.std.specs.Prelude.{◌≡◌, ℤ, pos, negsuc, [], ◌∷◌, Option, Some, None, true, false, refl}
use Rattle.std.specs.Int.{int_wrap}
use Rattle.std.specs.Int.Count.{ones}
use Rattle.std.proofs.Common.{ap}
use Rattle.shape_common.specs.Wrapping.{◌+ʷ◌, ◌-ʷ◌}
use Rattle.shape_common.specs.declared.text_types.Direction.TheVariants.{LeftToRight}
use Rattle.shape_font.specs.Bytes.{i16_of}
use Rattle.shape_font.specs.Worked.Glyphs.{words}
use Rattle.shape_items.specs.Buffer.{Buffer}
use Rattle.layout_matching.specs.declared.lookup.Lookup.{Lookup}
use Rattle.layout_positions.specs.Lookups.{unapplied}
use Rattle.layout_positions.specs.Paired.{pair_in, pair_numbered, found_there, found_in, found_put, placed_as, AreBeside, untried, HasAt, HasFor, IsKnownPair}
use Rattle.layout_positions.specs.Subtables.{Trial, trial_of, trial_step}
use Rattle.layout_positions.specs.Values.{none_counted}
use Rattle.layout_positions.specs.Worked.Lines.{over, base, ignorable, line, advances}
use Rattle.layout_positions.specs.Walk.{none_seen}
use Rattle.layout_positions.specs.Worked.Pairs.{IsLookup, pairs_one, pairs_both, pairs_two}
use Rattle.layout_positions.specs.Worked.Walk.{one_subtable}
use Rattle.layout_positions.specs.declared.bases.BaseSeen.{BaseSeen}
use Rattle.layout_positions.specs.declared.paired.FoundPair.{FoundPair}
use Rattle.layout_positions.specs.declared.paired.KnownPair.{KnownPair}
use Rattle.layout_positions.specs.declared.paired.PairFound.TheVariants.{Plain, Other}
use Rattle.layout_positions.specs.declared.values.Adjustment.{Adjustment}

abbrev wider : ℤ → Adjustment
wider w = record { x_placement = pos 0; y_placement = pos 0; x_advance = w; y_advance = pos 0; counted = none_counted }

-- the first glyph is that much wider
abbrev by_first : ℤ → FoundPair
by_first w = record { listed = true; values = record { first = wider w; second = wider (pos 0); has_second = false } }

abbrev by_classes : ℤ → FoundPair
by_classes w = record (by_first w) { listed = false }

abbrev two : Buffer
two = line LeftToRight (base 2 0 ∷ base 3 1 ∷ [])

-- nothing for 2 and 3
abbrev nothing : KnownPair
nothing = record { left = 2; right = 3; advance = pos 0; is_sought = true; is_found = false; listed = false }

-- a lookup with the subtable of pairs alone, which sees every glyph
abbrev lookup_of_pairs : Lookup → Lookup
lookup_of_pairs l = record (over (one_subtable 2 pairs_one) l) {
  place = 0;
  flags = 0;
  mask = 16;
  auto_zwj = true;
  auto_zwnj = true;
  per_syllable = false;
  positioning = true;
}

pub record WorkedPaired : Type 0 where
  pub listed : (l : Lookup) → pair_in (over pairs_one l) 0 2 3 ≡ Some (by_first (negsuc 49))
  pub second_not_listed : (l : Lookup) → pair_in (over pairs_one l) 0 2 4 ≡ None
  pub first_not_listed : (l : Lookup) → pair_in (over pairs_one l) 0 5 3 ≡ None
  pub classes : (l : Lookup) → pair_in (over pairs_two l) 0 3 5 ≡ Some (by_classes (pos 4))
  pub first_not_covered : (l : Lookup) → pair_in (over pairs_two l) 0 7 5 ≡ None
  pub other_format : (l : Lookup) → pair_in (over (words (3 ∷ 4 ∷ 1 ∷ 1 ∷ 2 ∷ [])) l) 0 2 3 ≡ None
  pub by_its_number : (l : Lookup) → pair_numbered (over pairs_one l) 0 2 3 0 ≡ Some (by_first (negsuc 49))
  pub no_such_number : (l : Lookup) → pair_numbered (over pairs_one l) 0 2 3 9 ≡ None
  pub at_their_place : (l : Lookup) → found_there (over pairs_both l) true (record { first = 4; second = 1; base = 20; at = 24 }) ≡ record {
    listed = true;
    values = record { first = wider (negsuc 49); second = record (wider (pos 0)) { x_placement = pos 30 }; has_second = true };
  }
  pub plain : found_in (Plain (record { advance = negsuc 49; is_found = true; listed = true })) ≡ Some (by_first (negsuc 49))
  pub plain_classes : found_in (Plain (record { advance = pos 4; is_found = true; listed = false })) ≡ Some (by_classes (pos 4))
  pub plainly_none : found_in (Plain (record { advance = pos 4; is_found = false; listed = true })) ≡ None
  pub other : found_in (Other (by_classes (pos 4))) ≡ Some (by_classes (pos 4))
  pub adjusted : advances (found_put 0 1 two (Some (by_first (negsuc 49)))).buffer ≡ (pos 550, pos 0) ∷ (pos 600, pos 0) ∷ []
  pub goes_on_at_the_second : (found_put 0 1 two (Some (by_first (negsuc 49)))).next ≡ Some 1
  pub nothing_found : found_put 0 1 two None ≡ unapplied two
  pub placed : (seen : BaseSeen) → placed_as seen 7 (unapplied two) ≡ record { buffer = two; next = None; seen = seen; left = 7 }
  pub beside : (l : Lookup) → IsLookup l pairs_one 0 → AreBeside l 2 3 two 0 1
  pub over_an_ignorable : (l : Lookup) → IsLookup l pairs_one 0
      → AreBeside l 2 3 (line LeftToRight (base 2 0 ∷ ignorable 0 ∷ base 3 1 ∷ [])) 0 2
  pub other_glyph : (l : Lookup) → AreBeside l 2 4 two 0 1 → ⊥
  -- 64 asks for what is unsafe to concat
  pub asked : (l : Lookup) → AreBeside l 2 3 (record two { flags = record { 0 = 64 } }) 0 1 → ⊥
  pub before_the_fourth : (seen : BaseSeen) → untried two seen 7 3 ≡ record { buffer = two; next = None; seen = seen; left = 7; subtable = 3 }
  -- what subtable 0 has for 2 and 3 is what it makes of them, and it has something
  pub at_its_subtable : (l : Lookup) (found : Option FoundPair) (seen : BaseSeen) → HasAt l 2 3 0 found → AreBeside l 2 3 two 0 1
      → trial_step l 0 (untried two seen 7 0) ≡ trial_of (untried two seen 7 0) (placed_as seen 7 (found_put 0 1 two found))
  pub not_nothing : (l : Lookup) → HasAt (lookup_of_pairs l) 2 3 0 None → ⊥
  pub of_its_glyphs : (l : Lookup) → IsKnownPair l (record nothing { is_found = true; listed = true; advance = negsuc 49 })
      → HasFor l 2 3 (Some (by_first (negsuc 49)))
  pub of_classes : (l : Lookup) → IsKnownPair l (record nothing { is_found = true; advance = pos 4 }) → HasFor l 2 3 (Some (by_classes (pos 4)))
  pub none_for_them : (l : Lookup) → IsKnownPair l nothing → HasFor l 2 3 None
  pub not_sought : (l : Lookup) → IsKnownPair l (record nothing { is_sought = false })

pub worked_paired : WorkedPaired
unfolding i16_of ◌+ʷ◌ ◌-ʷ◌ int_wrap ones
worked_paired = record {
  listed = λ _. refl;
  second_not_listed = λ _. refl;
  first_not_listed = λ _. refl;
  classes = λ _. refl;
  first_not_covered = λ _. refl;
  other_format = λ _. refl;
  by_its_number = λ _. refl;
  no_such_number = λ _. refl;
  at_their_place = λ _. refl;
  plain = refl;
  plain_classes = refl;
  plainly_none = refl;
  other = refl;
  adjusted = refl;
  goes_on_at_the_second = refl;
  nothing_found = refl;
  placed = λ _. refl;
  beside = λ l is. record { unasked = refl; left_is = refl; next = rw (is.flags, is.mask) refl; right_is = refl };
  over_an_ignorable = λ l is. record { unasked = refl; left_is = refl; next = rw (is.flags, is.mask, is.zwj, is.positioning) refl; right_is = refl };
  other_glyph = λ l there. let no = there.right_is in cc;
  asked = λ l there. let no = there.unasked in cc;
  before_the_fourth = λ _. refl;
  at_its_subtable = λ l found seen has beside. has two 0 1 seen 7 beside;
  not_nothing = λ l has. let made = has two 0 1 none_seen 7 (record { unasked = refl; left_is = refl; next = refl; right_is = refl }) in
      let next : Some 1 ≡ None = ap (λ (t : Trial). t.next) made in cc;
  of_its_glyphs = λ l known. known refl;
  of_classes = λ l known. known refl;
  none_for_them = λ l known. known refl;
  not_sought = λ l no. cc;
}
