-- What is wished of the axes of a font, and coordinates that are written, by hand.
use Rattle.std.specs.Prelude.{◌≡◌, ℕ, false, pos, List, [], ◌∷◌}
use Rattle.std.specs.Float.{fin}
use Rattle.c_runs.specs.Instances.{AreWritten, asked_coordinates, variation_of_c}
use Rattle.c_runs.specs.declared.plain.luthgarn_variation.{luthgarn_variation}

-- 700 is 175 * 4
abbrev pub bold : luthgarn_variation
bold = record { tag = 0x77676874; value = fin false 175 (pos 2) }

pub record WishesWorked : Type 0 where
  pub wish : variation_of_c bold ≡ record { tag = 0x77676874; value = fin false 175 (pos 2) }
  pub nothing_wished : (bytes : List ℕ) → asked_coordinates bytes 0 [] ≡ []
  pub no_font : asked_coordinates [] 0 (bold ∷ []) ≡ []
  pub room : AreWritten (pos 5 ∷ []) (pos 1 ∷ pos 2 ∷ []) (pos 5 ∷ pos 2 ∷ []) 1 0
  pub all_room : AreWritten (pos 5 ∷ []) (pos 1 ∷ []) (pos 5 ∷ []) 1 0
  pub no_room : AreWritten (pos 5 ∷ pos 6 ∷ []) (pos 1 ∷ []) (pos 1 ∷ []) 2 6
  pub none : AreWritten [] [] [] 0 0
