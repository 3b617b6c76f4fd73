-- What is written of glyphs: words one after the other, as long as there are both glyphs and positions.
use Rattle.std.proofs.Common.{◌≡◌, ℕ, ◌⊎◌, ⊎_elim, List, [], ◌∷◌, ◌++◌, append_assoc, refl}
use Rattle.shape_items.specs.Items.{Item}
use Rattle.shape_common.specs.declared.positions.GlyphPosition.{GlyphPosition}
use Rattle.shape_sessions.specs.Printing.{glyphs_from}

-- the line ends where one of the two does
pub glyphs_from-end : (items : List Item) (ps : List GlyphPosition) → (items ≡ []) ⊎ (ps ≡ []) → glyphs_from items ps ≡ 10 ∷ []
glyphs_from-end [] ps none = refl
glyphs_from-end (item ∷ items) [] none = refl
glyphs_from-end (item ∷ items) (p ∷ ps) none = ⊎_elim (λ e. absurd cc) (λ e. absurd cc) none

-- four words after what was there
pub appended_four : (o a b c d : List ℕ) {m1 m2 m3 m4 : List ℕ}
    → m1 ≡ o ++ a → m2 ≡ m1 ++ b → m3 ≡ m2 ++ c → m4 ≡ m3 ++ d → m4 ≡ o ++ (a ++ b ++ c ++ d)
appended_four o a b c d h1 h2 h3 h4 = rw (h4, h3, h2, h1) (simp append_assoc refl)
