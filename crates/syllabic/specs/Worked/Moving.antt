-- Items that change places, and their clusters.
use Rattle.std.specs.Prelude.{◌≡◌, List, [], ◌∷◌, refl}
use Rattle.shape_items.specs.Items.{Item}
use Rattle.shape_items.specs.Clusters.{merge}
use Rattle.syllabic.specs.Moving.{brought_before, sent_after, run_brought_before}
use Rattle.syllabic.specs.Worked.Items.{item, buffer, chars, clusters_of}

abbrev four : List Item
four = item 0x61 0 0 0 ∷ item 0x62 1 0 0 ∷ item 0x63 2 0 0 ∷ item 0x64 3 0 0 ∷ []

pub record WorkedMoving : Type 0 where
  pub before : chars (brought_before 1 3 (buffer four)).items ≡ 0x61 ∷ 0x64 ∷ 0x62 ∷ 0x63 ∷ []
  pub before_clusters : clusters_of (brought_before 1 3 (buffer four)).items ≡ 0 ∷ 1 ∷ 1 ∷ 1 ∷ []
  pub stays : brought_before 2 2 (buffer four) ≡ buffer four
  pub after : chars (sent_after 0 2 (buffer four)).items ≡ 0x62 ∷ 0x63 ∷ 0x61 ∷ 0x64 ∷ []
  pub after_clusters : clusters_of (sent_after 0 2 (buffer four)).items ≡ 0 ∷ 0 ∷ 0 ∷ 3 ∷ []
  -- from a place that isn't the first one
  pub after_inside : chars (sent_after 1 2 (buffer four)).items ≡ 0x61 ∷ 0x63 ∷ 0x62 ∷ 0x64 ∷ []
  -- a run of items goes before the others, the last one first; these keep their order
  pub run : chars (run_brought_before 0 2 4 (buffer four)).items ≡ 0x64 ∷ 0x63 ∷ 0x61 ∷ 0x62 ∷ []
  pub run_inside : chars (run_brought_before 1 2 4 (buffer four)).items ≡ 0x61 ∷ 0x64 ∷ 0x63 ∷ 0x62 ∷ []
  pub run_clusters : clusters_of (run_brought_before 1 2 3 (buffer four)).items ≡ 0 ∷ 1 ∷ 1 ∷ 3 ∷ []
  pub run_there : chars (run_brought_before 1 1 3 (buffer four)).items ≡ 0x61 ∷ 0x63 ∷ 0x62 ∷ 0x64 ∷ []

pub worked_moving : WorkedMoving
unfolding merge
worked_moving = record {
  before = refl;
  before_clusters = refl;
  stays = refl;
  after = refl;
  after_clusters = refl;
  after_inside = refl;
  run = refl;
  run_inside = refl;
  run_clusters = refl;
  run_there = refl;
}
