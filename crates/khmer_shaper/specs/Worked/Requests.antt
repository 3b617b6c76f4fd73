-- The features of Khmer and their stages, in HarfBuzz's order.
use Rattle.std.specs.Prelude.{◌≡◌, ℕ, None, Some, [], ◌∷◌, map, refl}
use Rattle.shape_buffer.specs.declared.interfaces.map_request.MapRequest.{MapRequest}
use Rattle.shape_buffer.specs.declared.interfaces.map_request.MapRequest.TheVariants.{Feature, Pause, PauseUnless}
use Rattle.khmer_shaper.specs.Requests.{all_requests, overriding_requests}

-- a feature with its flags and its value, or a pause with its number; flags: 1 on for the whole text, 4 and 8 take ZWNJ and ZWJ as they
-- stand, 64 within syllables
abbrev Shown : Type 0
Shown = ℕ × ℕ × ℕ

abbrev shown : MapRequest → Shown
shown (Feature tag flags value) = (tag.0, flags, value)
shown (Pause None) = (0, 0, 0)
shown (Pause (Some number)) = (0, 0, number)
shown (PauseUnless tag) = (tag.0, 9, 9)

pub record WorkedRequests : Type 0 where
  -- pauses 1 and 2, locl, ccmp; pref, blwf, abvf, pstf and cfar, and a pause; pres, abvs, blws, psts
  pub all : map shown all_requests
      ≡ (0, 0, 1) ∷ (0, 0, 2) ∷ (0x6C6F636C, 65, 1) ∷ (0x63636D70, 65, 1)
      ∷ (0x70726566, 76, 1) ∷ (0x626C7766, 76, 1) ∷ (0x61627666, 76, 1) ∷ (0x70737466, 76, 1) ∷ (0x63666172, 76, 1) ∷ (0, 0, 0)
      ∷ (0x70726573, 13, 1) ∷ (0x61627673, 13, 1) ∷ (0x626C7773, 13, 1) ∷ (0x70737473, 13, 1) ∷ []
  -- clig is on, and liga off
  pub overriding : map shown overriding_requests ≡ (0x636C6967, 1, 1) ∷ (0x6C696761, 1, 0) ∷ []

pub worked_requests : WorkedRequests
worked_requests = record { all = refl; overriding = refl }
