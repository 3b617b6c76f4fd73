-- Writing that is put off: items as runs of one cluster, of which the last item alone is written when the run takes
-- another cluster.
use Rattle.std.specs.Prelude.{◌≡◌, ◌≢◌, ℕ, ◌≤◌, ⊤, List, [], ◌∷◌, ◌++◌, length, nat_lt, if◌then◌else◌}
use Rattle.shape_items.specs.Items.{Item}
use Rattle.shape_items.specs.Delete.{hand_over}

-- the item as it is once the ones after it in its run are written: it takes the next one's cluster if that is smaller
abbrev pub follow : Item → List Item → Item
follow x [] = x
follow x (y ∷ _) = if nat_lt y.cluster x.cluster then hand_over y x else x

-- a run, written from its end
abbrev pub written : List Item → List Item
written [] = []
written (x ∷ rest) = follow x (written rest) ∷ written rest

-- a run as it is stored: its last item, and the ones before that
pub record UnwrittenRun : Type 0 where
  pub front : List Item
  pub last : Item

abbrev pub items_of : UnwrittenRun → List Item
items_of run = run.front ++ run.last ∷ []

-- runs as they are stored, the last run first
abbrev pub stored_runs : List UnwrittenRun → List Item
stored_runs [] = []
stored_runs (run ∷ before) = stored_runs before ++ items_of run

-- and once they are written
abbrev pub written_runs : List UnwrittenRun → List Item
written_runs [] = []
written_runs (run ∷ before) = written_runs before ++ written (items_of run)

-- where the runs begin
abbrev pub starts : List UnwrittenRun → List ℕ
starts [] = []
starts (run ∷ before) = starts before ++ length (stored_runs before) ∷ []

abbrev pub IsApart : UnwrittenRun → List UnwrittenRun → Type 0
IsApart run [] = ⊤
IsApart run (other ∷ _) = run.last.cluster ≢ other.last.cluster

-- no cluster is below this one
abbrev pub AreAbove : ℕ → List Item → Type 0
AreAbove cluster [] = ⊤
AreAbove cluster (x ∷ xs) = (cluster ≤ x.cluster) × AreAbove cluster xs

-- no cluster of a run is below its last one, and neighbours end in different clusters
abbrev pub AreRuns : List UnwrittenRun → Type 0
AreRuns [] = ⊤
AreRuns (run ∷ before) = AreAbove run.last.cluster run.front × IsApart run before × AreRuns before

-- the stored items stand for the given ones, with runs that begin at these places
pub record StandsFor (items : List Item) (places : List ℕ) (given : List Item) : Type 0 where
  pub runs : List UnwrittenRun
  pub are_runs : AreRuns runs
  pub items_are : items ≡ stored_runs runs
  pub places_are : places ≡ starts runs
  pub given_are : given ≡ written_runs runs
