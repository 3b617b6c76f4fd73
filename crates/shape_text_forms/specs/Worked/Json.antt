-- Glyphs as lists of JSON, read by hand.
use Rattle.std.specs.Prelude.{◌≡◌, ◌==◌, if◌then◌else◌, ℕ, pos, negsuc, false, List, [], ◌∷◌, Some, None, codes, refl}
use Rattle.std.specs.Fmt.{digits}
use Rattle.std.specs.Int.{int_wrap}
use Rattle.json.specs.Print.{escape_byte}
use Rattle.shape_common.specs.Wrapping.{◌+ʷ◌}
use Rattle.shape_text_forms.specs.Serialize.{Form}
use Rattle.shape_text_forms.specs.Lists.{json_text, part_text}
use Rattle.shape_text_forms.specs.declared.content.ListForm.TheVariants.{Json}
use Rattle.shape_text_forms.specs.Worked.Texts.{form, glyph, place}

-- glyph 2 of cluster 0, 600 wide; glyph 30 of cluster 1, moved to (-50, 7), unsafe to break (1) with a bit of a feature
-- (8)
abbrev pub list_of : ℕ → List ℕ
list_of flags = json_text (form flags) (glyph 2 0 0 ∷ glyph 30 1 9 ∷ [])
    (place (pos 600) (pos 0) (pos 0) (pos 0) ∷ place (pos 0) (negsuc 999) (negsuc 49) (pos 7) ∷ [])

-- glyph 2 has a name of a quotation mark, a backslash and the byte 1
abbrev pub odd_names : Form
odd_names = record (form 3) { name = λ number. if number == 2 then Some (34 ∷ 92 ∷ 1 ∷ []) else None }

pub record WorkedLists : Type 0 where
  pub empty : json_text (form 0) [] [] ≡ []
  pub whole : list_of 0
      ≡ codes "[{\"g\":\"A\",\"cl\":0,\"dx\":0,\"dy\":0,\"ax\":600,\"ay\":0},{\"g\":\"gid30\",\"cl\":1,\"dx\":-50,\"dy\":7,\"ax\":0,\"ay\":-1000}]"
  pub no_clusters : list_of 3 ≡ codes "[{\"g\":\"A\"},{\"g\":\"gid30\"}]"
  pub no_positions : list_of 2 ≡ codes "[{\"g\":\"A\",\"cl\":0},{\"g\":\"gid30\",\"cl\":1}]"
  pub no_glyph_names : list_of 6 ≡ codes "[{\"g\":2,\"cl\":0},{\"g\":30,\"cl\":1}]"
  pub extents : list_of 11
      ≡ codes "[{\"g\":\"A\",\"xb\":10,\"yb\":700,\"w\":580,\"h\":-700},{\"g\":\"gid30\",\"xb\":0,\"yb\":0,\"w\":0,\"h\":0}]"
  pub glyph_flags : list_of 18 ≡ codes "[{\"g\":\"A\",\"cl\":0},{\"g\":\"gid30\",\"cl\":1,\"fl\":1}]"
  -- the second glyph stands 600 from the start of the line
  pub no_advances : list_of 33 ≡ codes "[{\"g\":\"A\",\"dx\":0,\"dy\":0},{\"g\":\"gid30\",\"dx\":550,\"dy\":7}]"
  pub flags_and_boxes : list_of 27
      ≡ codes "[{\"g\":\"A\",\"xb\":10,\"yb\":700,\"w\":580,\"h\":-700},{\"g\":\"gid30\",\"fl\":1,\"xb\":0,\"yb\":0,\"w\":0,\"h\":0}]"
  pub tatweel : json_text (form 19) (glyph 2 0 4 ∷ []) (place (pos 0) (pos 0) (pos 0) (pos 0) ∷ []) ≡ codes "[{\"g\":\"A\",\"fl\":4}]"
  -- the second glyph stands 1000 below the line
  pub pen_down : json_text (form 33) (glyph 2 0 0 ∷ glyph 2 1 0 ∷ [])
      (place (pos 0) (negsuc 999) (pos 0) (pos 0) ∷ place (pos 0) (pos 0) (pos 0) (pos 7) ∷ [])
      ≡ codes "[{\"g\":\"A\",\"dx\":0,\"dy\":0},{\"g\":\"A\",\"dx\":0,\"dy\":-993}]"
  -- a part that doesn't begin the list
  pub second_part : part_text Json (form 33) (record { first = false; pen = record { x = pos 0; y = negsuc 999 } })
      (glyph 2 1 0 ∷ []) (place (pos 0) (pos 0) (pos 0) (pos 7) ∷ []) ≡ codes ",{\"g\":\"A\",\"dx\":0,\"dy\":-993}"
  pub escaped : json_text odd_names (glyph 2 0 0 ∷ []) (place (pos 0) (pos 0) (pos 0) (pos 0) ∷ [])
      ≡ codes "[{\"g\":\"\\\"\\\\\\u0001\"}]"

pub worked_lists : WorkedLists
unfolding digits ◌+ʷ◌ int_wrap escape_byte
worked_lists = record {
  empty = refl;
  whole = refl;
  no_clusters = refl;
  no_positions = refl;
  no_glyph_names = refl;
  extents = refl;
  glyph_flags = refl;
  no_advances = refl;
  flags_and_boxes = refl;
  tatweel = refl;
  pen_down = refl;
  second_part = refl;
  escaped = refl;
}
