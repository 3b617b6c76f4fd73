-- The features of Myanmar and their stages, in HarfBuzz's order.
use Rattle.std.specs.Prelude.{◌≡◌, ℕ, None, Some, [], ◌∷◌, map, refl}
use Rattle.shape_buffer.specs.declared.interfaces.map_request.MapRequest.{MapRequest}
use Rattle.shape_buffer.specs.declared.interfaces.map_request.MapRequest.TheVariants.{Feature, Pause, PauseUnless}
use Rattle.myanmar_shaper.specs.Requests.{all_requests}

-- a feature with its flags and its value, or a pause with its number; flags: 1 on for the whole text, 8 takes ZWJ as it stands, 64 within
-- syllables
abbrev Shown : Type 0
Shown = ℕ × ℕ × ℕ

abbrev shown : MapRequest → Shown
shown (Feature tag flags value) = (tag.0, flags, value)
shown (Pause None) = (0, 0, 0)
shown (Pause (Some number)) = (0, 0, number)
shown (PauseUnless tag) = (tag.0, 9, 9)

pub record WorkedRequests : Type 0 where
  -- pause 1, locl, ccmp, pause 2; rphf, pref, blwf and pstf, each with its pause; pres, abvs, blws, psts
  pub all : map shown all_requests
      ≡ (0, 0, 1) ∷ (0x6C6F636C, 65, 1) ∷ (0x63636D70, 65, 1) ∷ (0, 0, 2)
      ∷ (0x72706866, 73, 1) ∷ (0, 0, 0) ∷ (0x70726566, 73, 1) ∷ (0, 0, 0)
      ∷ (0x626C7766, 73, 1) ∷ (0, 0, 0) ∷ (0x70737466, 73, 1) ∷ (0, 0, 0)
      ∷ (0x70726573, 9, 1) ∷ (0x61627673, 9, 1) ∷ (0x626C7773, 9, 1) ∷ (0x70737473, 9, 1) ∷ []

pub worked_requests : WorkedRequests
worked_requests = record { all = refl }
