-- Words under their keys, on small cases whose results are worked out by hand.
use Rattle.std.specs.Prelude.{◌≡◌, ◌≢◌, [], ◌∷◌, Some, None}
use Rattle.shape_items.specs.Buffer.{Buffer}
use Rattle.shape_plan.specs.Run.{Run}
use Rattle.word_cache.specs.Keys.{key_of}
use Rattle.word_cache.specs.Words.{Entry, entry, entry_bytes, found_entry, brought_first, HasKey, IsFront}
use Rattle.word_cache.specs.declared.words.Word.{Word}

-- three words: two by plan 1, and one with the characters of the first by plan 2
pub record WorkedFound (a b c : Word) : Type 0 where
  pub second : brought_first (1 ∷ 0x62 ∷ []) (entry (1 ∷ 0x61 ∷ []) a ∷ entry (1 ∷ 0x62 ∷ []) b ∷ entry (2 ∷ 0x61 ∷ []) c ∷ [])
      ≡ entry (1 ∷ 0x62 ∷ []) b ∷ entry (1 ∷ 0x61 ∷ []) a ∷ entry (2 ∷ 0x61 ∷ []) c ∷ []
  pub by_the_other_plan : found_entry (2 ∷ 0x61 ∷ []) (entry (1 ∷ 0x61 ∷ []) a ∷ entry (2 ∷ 0x61 ∷ []) c ∷ []) ≡ Some (entry (2 ∷ 0x61 ∷ []) c)
  pub longer : found_entry (1 ∷ 0x61 ∷ 0x62 ∷ []) (entry (1 ∷ 0x61 ∷ []) a ∷ []) ≡ None
  pub none_moves : brought_first (1 ∷ []) (entry (1 ∷ 0x61 ∷ []) a ∷ []) ≡ entry (1 ∷ 0x61 ∷ []) a ∷ []
  pub has : HasKey (1 ∷ 0x62 ∷ []) (entry (1 ∷ 0x61 ∷ []) a ∷ entry (1 ∷ 0x62 ∷ []) b ∷ [])
  pub has_not : HasKey (2 ∷ 0x61 ∷ []) (entry (1 ∷ 0x61 ∷ []) a ∷ []) → ⊥

-- three entries of 40, 60 and 10 bytes
pub record WorkedFronts (a b c : Entry) : Type 0 where
  pub all : IsFront 110 (a ∷ b ∷ c ∷ []) (a ∷ b ∷ c ∷ [])
  pub one_less : IsFront 109 (a ∷ b ∷ c ∷ []) (a ∷ b ∷ [])
  pub none_after_one_that_goes : IsFront 60 (a ∷ b ∷ c ∷ []) (a ∷ [])
  pub first_alone : IsFront 7 (a ∷ b ∷ c ∷ []) (a ∷ [])
  pub not_none : IsFront 7 (a ∷ b ∷ []) [] → ⊥
  pub not_too_few : IsFront 100 (a ∷ b ∷ []) (a ∷ []) → ⊥
  pub not_too_many : IsFront 99 (a ∷ b ∷ []) (a ∷ b ∷ []) → ⊥

pub record WorkedWords : Type 0 where
  pub found : (a b c : Word) → WorkedFound a b c
  pub fronts : (a b c : Entry) → entry_bytes a ≡ 40 → entry_bytes b ≡ 60 → entry_bytes c ≡ 10 → WorkedFronts a b c
  pub plans_apart : (run other : Run) (text also : Buffer) → key_of run 1 text ≢ key_of other 2 also
