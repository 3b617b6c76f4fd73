-- What searches are charged: lam 1 and alef 2 make 9; 1 and each of 21 to 25 make 30.
use Rattle.std.specs.Prelude.{◌≡◌, ℕ, Some, None, List, [], ◌∷◌, map, refl}
use Rattle.shape_common.specs.Positions.{zero_position}
use Rattle.shape_items.specs.Buffer.{Buffer, new_buffer}
use Rattle.shape_items.specs.Clusters.{merge}
use Rattle.shape_items.specs.Items.{Item}
use Rattle.arabic_fallback.specs.Ligating.{ligated}
use Rattle.arabic_fallback.specs.Replaced.{as_ligature}
use Rattle.arabic_fallback.specs.Work.{looks, search_charged, search_work}
use Rattle.arabic_fallback.specs.Worked.Forms.{rule}
use Rattle.arabic_fallback.specs.Worked.Ligatures.{glyph, glyphs, lam_alef, mark, of_marks, zwj, zwnj}
use Rattle.arabic_fallback.specs.Worked.Vain.{five}

-- a joiner with the glyph of lam
abbrev pub joiner : Item
joiner = record zwj { glyph_id = 1 }

-- a buffer whose lookups may ask for so much
abbrev pub made : ℕ → List Item → Buffer
made ops items = ligated rule lam_alef
    (record new_buffer { items = items; positions = map (λ i. zero_position) items; max_ops = ops })

abbrev pub Leaves : Buffer → List ℕ → ℕ → Type 0
Leaves b left ops = (glyphs b.items ≡ left) × (b.max_ops ≡ ops)

pub record WorkedCharges : Type 0 where
  -- up to the second glyph that isn't passed over, or the end
  pub alone : looks rule (glyph 1 0 ∷ []) 0 ≡ 1
  pub two : looks rule (glyph 1 0 ∷ glyph 2 1 ∷ []) 0 ≡ 2
  pub four : looks rule (glyph 1 0 ∷ glyph 2 1 ∷ glyph 2 2 ∷ glyph 2 3 ∷ []) 0 ≡ 2
  pub later : looks rule (glyph 2 0 ∷ glyph 1 1 ∷ mark 5 2 ∷ glyph 2 3 ∷ []) 1 ≡ 3
  pub over : looks rule (glyph 1 0 ∷ mark 5 1 ∷ zwj ∷ glyph 3 3 ∷ zwj ∷ glyph 2 5 ∷ glyph 2 6 ∷ []) 0 ≡ 5
  pub marks_seen : looks of_marks (glyph 1 0 ∷ mark 5 1 ∷ glyph 3 2 ∷ glyph 2 3 ∷ []) 0 ≡ 2
  pub zwnj_seen : looks rule (glyph 1 0 ∷ zwnj ∷ glyph 2 2 ∷ []) 0 ≡ 2
  pub joiners : looks rule (joiner ∷ joiner ∷ joiner ∷ joiner ∷ []) 0 ≡ 4
  -- six for each ligature and glyph
  pub one_ligature : search_charged rule lam_alef (glyph 1 0 ∷ glyph 2 1 ∷ []) 0 100 ≡ Some 88
  pub five_ligatures : search_charged rule five (glyph 1 0 ∷ glyph 2 1 ∷ []) 0 100 ≡ Some 40
  pub suffices : search_charged rule lam_alef (glyph 1 0 ∷ glyph 2 1 ∷ []) 0 12 ≡ Some 0
  pub too_few : search_charged rule lam_alef (glyph 1 0 ∷ glyph 2 1 ∷ []) 0 11 ≡ None
  pub no_ligature : search_charged rule lam_alef (glyph 3 0 ∷ glyph 2 1 ∷ []) 0 0 ≡ Some 0
  pub nothing_left : search_charged rule lam_alef (glyph 1 0 ∷ glyph 2 1 ∷ []) 0 0 ≡ None
  pub greatest : search_work 6 4611686018427387904 ≡ 18446744073709551615
  -- what was made stays; a search that what is left doesn't suffice for takes it all
  pub both_made : Leaves (made 30 (glyph 1 0 ∷ glyph 2 1 ∷ glyph 1 2 ∷ glyph 2 3 ∷ [])) (9 ∷ 9 ∷ []) 6
  pub first_made : Leaves (made 23 (glyph 1 0 ∷ glyph 2 1 ∷ glyph 1 2 ∷ glyph 2 3 ∷ [])) (9 ∷ 1 ∷ 2 ∷ []) 0
  pub none_made : Leaves (made 11 (glyph 1 0 ∷ glyph 2 1 ∷ glyph 1 2 ∷ glyph 2 3 ∷ [])) (1 ∷ 2 ∷ 1 ∷ 2 ∷ []) 0

pub worked_charges : WorkedCharges
unfolding merge as_ligature
worked_charges = record {
  alone = refl;
  two = refl;
  four = refl;
  later = refl;
  over = refl;
  marks_seen = refl;
  zwnj_seen = refl;
  joiners = refl;
  one_ligature = refl;
  five_ligatures = refl;
  suffices = refl;
  too_few = refl;
  no_ligature = refl;
  nothing_left = refl;
  greatest = refl;
  both_made = (refl, refl);
  first_made = (refl, refl);
  none_made = (refl, refl);
}
