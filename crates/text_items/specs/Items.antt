-- The runs of a text: the longest pieces of whole clusters that agree in what decides a run.
use Rattle.std.specs.Prelude.{ℕ, ◌==◌, ◌&&◌, Bool, List, [], ◌∷◌, if◌then◌else◌}
use Rattle.ucd_script.specs.Script.{script_eq}
use Rattle.text_items.specs.Clusters.{clusters_of}
use Rattle.text_items.specs.Presentations.{number}
use Rattle.text_items.specs.Scripts.{Context, context_of, first_script, stepped}
use Rattle.text_items.specs.declared.clusters.Cluster.{Cluster}
use Rattle.text_items.specs.declared.clusters.Properties.{Properties}
use Rattle.text_items.specs.declared.items.Item.{Item}
use Rattle.text_items.specs.declared.ranges.NumberedRange.{NumberedRange}

abbrev pub is_same : Properties → Properties → Bool
is_same a b = script_eq a.script b.script && ((a.level == b.level) && ((number a.presentation == number b.presentation)
    && ((a.language == b.language) && (a.features == b.features))))

-- a run of one cluster, which has the script that the text has after it
abbrev pub single : Cluster → Context → Item
single cluster context = record {
  start = cluster.start;
  end = cluster.end;
  properties = record {
    script = context.current;
    level = cluster.level;
    presentation = cluster.presentation;
    language = cluster.language;
    features = cluster.features;
  };
}

abbrev pub singles_from : Context → List Cluster → List Item
singles_from context [] = []
singles_from context (cluster ∷ clusters) = single cluster (stepped cluster context) ∷ singles_from (stepped cluster context) clusters

abbrev pub singles : List Cluster → List Item
singles clusters = singles_from (context_of (first_script clusters)) clusters

-- a run, and those after it: it goes on as long as they agree with it
abbrev pub joined_from : Item → List Item → List Item
joined_from item [] = item ∷ []
joined_from item (next ∷ items) =
    if is_same item.properties next.properties then joined_from (record item { end = next.end }) items
    else item ∷ joined_from next items

abbrev pub joined : List Item → List Item
joined [] = []
joined (item ∷ items) = joined_from item items

abbrev pub items_of : List ℕ → List NumberedRange → List NumberedRange → List ℕ → List Item
items_of levels languages features text = joined (singles (clusters_of levels languages features text))
