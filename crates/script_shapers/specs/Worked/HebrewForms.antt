-- What letters and points make: a shin with its three points in each order, and what stands beside the table.
use Rattle.std.specs.Prelude.{◌≡◌, ℕ, List, [], ◌∷◌, length, map, Option, Some, None, refl}
use Rattle.script_shapers.specs.HebrewForms.{form_of}
use Rattle.script_shapers.specs.declared.hebrew.forms.TheConstants.{FORMS}

-- the rest of the table, as Unicode decomposes these characters (UnicodeData.txt): the letters of each point, and what they make
abbrev pub forms_with : ℕ → List ℕ → List (Option ℕ)
forms_with point letters = map (λ letter. form_of letter point) letters

pub record WorkedForms : Type 0 where
  pub first : form_of 0x5D9 0x5B4 ≡ Some 0xFB1D
  pub dagesh : form_of 0x5E9 0x5BC ≡ Some 0xFB49
  pub shin_dot : form_of 0x5E9 0x5C1 ≡ Some 0xFB2A
  pub sin_dot : form_of 0x5E9 0x5C2 ≡ Some 0xFB2B
  pub dagesh_then_shin_dot : form_of 0xFB49 0x5C1 ≡ Some 0xFB2C
  pub dagesh_then_sin_dot : form_of 0xFB49 0x5C2 ≡ Some 0xFB2D
  pub shin_dot_then_dagesh : form_of 0xFB2A 0x5BC ≡ Some 0xFB2C
  pub sin_dot_then_dagesh : form_of 0xFB2B 0x5BC ≡ Some 0xFB2D
  pub both_dots : form_of 0xFB2A 0x5C2 ≡ None
  pub twice : form_of 0xFB49 0x5BC ≡ None
  pub point_first : form_of 0x5BC 0x5E9 ≡ None
  pub no_form : form_of 0x5D7 0x5BC ≡ None
  pub patah : forms_with 0x5B7 (0x5F2 ∷ 0x5D0 ∷ []) ≡ Some 0xFB1F ∷ Some 0xFB2E ∷ []
  pub qamats : forms_with 0x5B8 (0x5D0 ∷ []) ≡ Some 0xFB2F ∷ []
  pub holam : forms_with 0x5B9 (0x5D5 ∷ []) ≡ Some 0xFB4B ∷ []
  pub rafe : forms_with 0x5BF (0x5D1 ∷ 0x5DB ∷ 0x5E4 ∷ []) ≡ Some 0xFB4C ∷ Some 0xFB4D ∷ Some 0xFB4E ∷ []
  pub dagesh_of_the_first : forms_with 0x5BC (0x5D0 ∷ 0x5D1 ∷ 0x5D2 ∷ 0x5D3 ∷ 0x5D4 ∷ 0x5D5 ∷ 0x5D6 ∷ 0x5D8 ∷ 0x5D9 ∷ 0x5DA ∷ [])
      ≡ Some 0xFB30 ∷ Some 0xFB31 ∷ Some 0xFB32 ∷ Some 0xFB33 ∷ Some 0xFB34 ∷ Some 0xFB35 ∷ Some 0xFB36 ∷ Some 0xFB38 ∷ Some 0xFB39 ∷ Some 0xFB3A ∷ []
  pub dagesh_of_the_last : forms_with 0x5BC (0x5DB ∷ 0x5DC ∷ 0x5DE ∷ 0x5E0 ∷ 0x5E1 ∷ 0x5E3 ∷ 0x5E4 ∷ 0x5E6 ∷ 0x5E7 ∷ 0x5E8 ∷ 0x5EA ∷ [])
      ≡ Some 0xFB3B ∷ Some 0xFB3C ∷ Some 0xFB3E ∷ Some 0xFB40 ∷ Some 0xFB41 ∷ Some 0xFB43 ∷ Some 0xFB44
      ∷ Some 0xFB46 ∷ Some 0xFB47 ∷ Some 0xFB48 ∷ Some 0xFB4A ∷ []
  -- 34 characters, two of them in two orders of points
  pub no_other : length FORMS ≡ 36

pub worked_forms : WorkedForms
worked_forms = record {
  first = refl;
  dagesh = refl;
  shin_dot = refl;
  sin_dot = refl;
  dagesh_then_shin_dot = refl;
  dagesh_then_sin_dot = refl;
  shin_dot_then_dagesh = refl;
  sin_dot_then_dagesh = refl;
  both_dots = refl;
  twice = refl;
  point_first = refl;
  no_form = refl;
  patah = refl;
  qamats = refl;
  holam = refl;
  rafe = refl;
  dagesh_of_the_first = refl;
  dagesh_of_the_last = refl;
  no_other = refl;
}
