-- The features of the engine and their stages, in the order of its specification, and what isn't composed.
use Rattle.std.specs.Prelude.{◌≡◌, ℕ, ◌==◌, if◌then◌else◌, None, Some, [], ◌∷◌, map, refl}
use Rattle.shape_common.specs.PlainUnicode.{plain_unicode}
use Rattle.shape_common.specs.Unicode.{UnicodeMeaning}
use Rattle.shape_common.specs.declared.general_category.hb_unicode_general_category_t.TheVariants.{OtherLetter, SpacingMark}
use Rattle.shape_buffer.specs.declared.interfaces.map_request.MapRequest.{MapRequest}
use Rattle.shape_buffer.specs.declared.interfaces.map_request.MapRequest.TheVariants.{Feature, Pause, PauseUnless}
use Rattle.universal_shaper.specs.Composing.{compose_letters}
use Rattle.universal_shaper.specs.Requests.{all_requests}

-- a feature with its flags and its value, or a pause with its number; flags: 1 on for the whole text, 8 takes ZWJ as it stands, 64 within
-- syllables
abbrev Shown : Type 0
Shown = ℕ × ℕ × ℕ

abbrev shown : MapRequest → Shown
shown (Feature tag flags value) = (tag.0, flags, value)
shown (Pause None) = (0, 0, 0)
shown (Pause (Some number)) = (0, 0, number)
shown (PauseUnless tag) = (tag.0, 9, 9)

-- the vowel signs E and AA of Balinese make another one, and a letter and AA do, too
abbrev unicode : UnicodeMeaning
unicode = record plain_unicode {
  category = λ c. if c == 0x61 then OtherLetter else SpacingMark;
  compose = λ a b. Some 7;
}

pub record WorkedRequests : Type 0 where
  -- pause 1, locl, ccmp, nukt, akhn; pause 2, rphf, pause 3; pause 2, pref, pause 4; rkrf, abvf, blwf, half, pstf, vatu, cjct;
  -- pause 5; isol, init, medi, fina, where asked for, and a pause; abvs, blws, haln, pres, psts
  pub all : map shown all_requests
      ≡ (0, 0, 1) ∷ (0x6C6F636C, 65, 1) ∷ (0x63636D70, 65, 1) ∷ (0x6E756B74, 65, 1) ∷ (0x616B686E, 73, 1)
      ∷ (0, 0, 2) ∷ (0x72706866, 72, 1) ∷ (0, 0, 3) ∷ (0, 0, 2) ∷ (0x70726566, 73, 1) ∷ (0, 0, 4)
      ∷ (0x726B7266, 73, 1) ∷ (0x61627666, 73, 1) ∷ (0x626C7766, 73, 1) ∷ (0x68616C66, 73, 1) ∷ (0x70737466, 73, 1)
      ∷ (0x76617475, 73, 1) ∷ (0x636A6374, 73, 1)
      ∷ (0, 0, 5) ∷ (0x69736F6C, 0, 1) ∷ (0x696E6974, 0, 1) ∷ (0x6D656469, 0, 1) ∷ (0x66696E61, 0, 1) ∷ (0, 0, 0)
      ∷ (0x61627673, 9, 1) ∷ (0x626C7773, 9, 1) ∷ (0x68616C6E, 9, 1) ∷ (0x70726573, 9, 1) ∷ (0x70737473, 9, 1) ∷ []
  -- a letter is composed with what follows it, a mark isn't
  pub letter : compose_letters unicode 0x61 0x1B35 ≡ Some 7
  pub mark : compose_letters unicode 0x1B3E 0x1B35 ≡ None

pub worked_requests : WorkedRequests
worked_requests = record {
  all = refl;
  letter = refl;
  mark = refl;
}
