-- Marking a span safe to insert tatweel, on cases that are worked out by hand.
use Rattle.std.specs.Prelude.{◌≡◌, ℕ, List, [], ◌∷◌, map, refl}
use Rattle.shape_items.specs.Buffer.{Buffer, new_buffer}
use Rattle.shape_items.specs.BufferClusters.{safe_to_insert_tatweel}
use Rattle.shape_items.specs.Items.{Item, new_item}

-- an item of a cluster, with the feature bit 16
abbrev worked_item : ℕ → Item
worked_item cluster = record (new_item 0x644 cluster) { mask = 16 }

-- items of three clusters in a buffer of these flags
abbrev three : ℕ → ℕ → ℕ → ℕ → Buffer
three flags first second third = record new_buffer {
  items = worked_item first ∷ worked_item second ∷ worked_item third ∷ [];
  flags = record { 0 = flags };
}

abbrev masks : Buffer → List ℕ
masks b = map (λ item. item.mask) b.items

abbrev scratch_of : Buffer → ℕ
scratch_of b = b.scratch_flags.0

-- 128 asks for tatweel, whose flag is 4; 64 asks for unsafe to concat
pub record TatweelWorked : Type 0 where
  pub rising : masks (safe_to_insert_tatweel 0 3 (three 128 0 1 2)) ≡ 16 ∷ 20 ∷ 20 ∷ []
  pub falling : masks (safe_to_insert_tatweel 0 3 (three 128 2 1 0)) ≡ 20 ∷ 20 ∷ 16 ∷ []
  pub part : masks (safe_to_insert_tatweel 1 3 (three 128 0 1 2)) ≡ 16 ∷ 16 ∷ 20 ∷ []
  pub one_cluster : masks (safe_to_insert_tatweel 0 3 (three 128 5 5 5)) ≡ 16 ∷ 16 ∷ 16 ∷ []
  pub sets_scratch : scratch_of (safe_to_insert_tatweel 0 2 (three 128 0 1 2)) ≡ 32
  pub one_item : safe_to_insert_tatweel 1 2 (three 128 0 1 2) ≡ three 128 0 1 2
  pub with_concat : masks (safe_to_insert_tatweel 0 3 (three 192 0 1 2)) ≡ 16 ∷ 20 ∷ 20 ∷ []
  pub unasked : masks (safe_to_insert_tatweel 0 3 (three 0 0 1 2)) ≡ 16 ∷ 19 ∷ 19 ∷ []
  pub concat_alone : masks (safe_to_insert_tatweel 0 3 (three 64 0 1 2)) ≡ 16 ∷ 19 ∷ 19 ∷ []

pub tatweel_worked : TatweelWorked
tatweel_worked = record {
  rising = refl;
  falling = refl;
  part = refl;
  one_cluster = refl;
  sets_scratch = refl;
  one_item = refl;
  with_concat = refl;
  unasked = refl;
  concat_alone = refl;
}
