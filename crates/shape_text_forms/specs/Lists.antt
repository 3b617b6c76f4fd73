-- glyphs one after the other, in one of two forms
use Rattle.std.specs.Prelude.{◌≡◌, ℕ, pos, List, [], ◌∷◌, ◌++◌, Bool, true, false, length}
use Rattle.shape_items.specs.Items.{Item}
use Rattle.shape_common.specs.declared.positions.GlyphPosition.{GlyphPosition}
use Rattle.shape_text_forms.specs.Serialize.{Form, entry_text, pen_after}
use Rattle.shape_text_forms.specs.Json.{json_entry}
use Rattle.shape_text_forms.specs.declared.content.ListForm.{ListForm}
use Rattle.shape_text_forms.specs.declared.content.ListForm.TheVariants.{Text, Json}
use Rattle.shape_text_forms.specs.declared.content.Pen.{Pen}
use Rattle.shape_text_forms.specs.declared.content.Spot.{Spot}

-- all of a glyph, with what stands before it
abbrev pub entry_in : ListForm → Form → Bool → Pen → Item → GlyphPosition → List ℕ
entry_in Text form first pen item p = entry_text form first pen item p
entry_in Json form first pen item p = json_entry form first pen item p

-- glyphs from some pen on; `]` (93) ends them
abbrev pub glyphs_from : ListForm → Form → Bool → Pen → List Item → List GlyphPosition → List ℕ
glyphs_from list form first pen [] ps = 93 ∷ []
glyphs_from list form first pen (x ∷ xs) [] = 93 ∷ []
glyphs_from list form first pen (x ∷ xs) (p ∷ ps) =
    entry_in list form first pen x p ++ glyphs_from list form false (pen_after form.flags pen p) xs ps

-- the whole; nothing for no glyphs, as in `hb-shape`
abbrev pub listed : ListForm → Form → List Item → List GlyphPosition → List ℕ
listed list form [] ps = []
listed list form (x ∷ xs) ps = glyphs_from list form true (record { x = pos 0; y = pos 0 }) (x ∷ xs) ps

abbrev pub serialized : Form → List Item → List GlyphPosition → List ℕ
serialized form items ps = listed Text form items ps

abbrev pub json_text : Form → List Item → List GlyphPosition → List ℕ
json_text form items ps = listed Json form items ps

-- where the next glyph stands
abbrev pub next_spot : ℕ → Spot → GlyphPosition → Spot
next_spot flags spot p = record { first = false; pen = pen_after flags spot.pen p }

abbrev pub spot_after : ℕ → Spot → List GlyphPosition → Spot
spot_after flags spot [] = spot
spot_after flags spot (p ∷ ps) = spot_after flags (next_spot flags spot p) ps

-- a part of a list: glyphs from some spot on, and no end
abbrev pub part_text : ListForm → Form → Spot → List Item → List GlyphPosition → List ℕ
part_text list form spot [] ps = []
part_text list form spot (x ∷ xs) [] = []
part_text list form spot (x ∷ xs) (p ∷ ps) =
    entry_in list form spot.first spot.pen x p ++ part_text list form (next_spot form.flags spot p) xs ps

-- where a list begins
abbrev pub start : Spot
start = record { first = true; pen = record { x = pos 0; y = pos 0 } }

-- a list that has a glyph is its parts, one after the other, and `]`
pub record PartsMakeLists : Type 0 where
  pub joined : (list : ListForm) (form : Form) (spot : Spot) (xs ys : List Item) (ps qs : List GlyphPosition) → length ps ≡ length xs
      → part_text list form spot (xs ++ ys) (ps ++ qs) ≡ part_text list form spot xs ps ++ part_text list form (spot_after form.flags spot ps) ys qs
  pub ended : (list : ListForm) (form : Form) (x : Item) (xs : List Item) (ps : List GlyphPosition) → length ps ≡ length (x ∷ xs)
      → listed list form (x ∷ xs) ps ≡ part_text list form start (x ∷ xs) ps ++ 93 ∷ []
