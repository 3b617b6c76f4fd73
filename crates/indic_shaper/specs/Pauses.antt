-- What the shaper does at its pauses.
use Rattle.std.specs.Prelude.{ℕ, ◌==◌, if◌then◌else◌, Option}
use Rattle.shape_common.specs.Face.{FaceMeaning}
use Rattle.shape_common.specs.declared.text_types.Script.{Script}
use Rattle.shape_buffer.specs.Layout.{LayoutMeaning, LookupMeaning, MapMeaning}
use Rattle.shape_items.specs.Buffer.{Buffer}
use Rattle.indic_shaper.specs.Cutting.{syllables_found}
use Rattle.indic_shaper.specs.Engine.{facts_of}
use Rattle.indic_shaper.specs.Initial.{ordered}
use Rattle.indic_shaper.specs.Settling.Syllables.{all_settled}
use Rattle.indic_shaper.specs.declared.requests.TheConstants.{SYLLABLES, INITIAL, FINAL}

-- syllables in the order that lookups want, by the script of the plan and the language of the text
unfoldable pub ordered_by : {Map : Type 0} → FaceMeaning → LayoutMeaning Map → MapMeaning → LookupMeaning → Option Script → Buffer → Buffer
ordered_by face layout map lookups script b = ordered face lookups (facts_of face layout map script b.language) b

-- and settled once the basic forms are made
unfoldable pub settled_by : {Map : Type 0} → FaceMeaning → LayoutMeaning Map → MapMeaning → Option Script → Buffer → Buffer
settled_by face layout map script b = all_settled (facts_of face layout map script b.language) b

-- by the number of the pause
abbrev pub made_by_pause : {Map : Type 0} → ℕ → FaceMeaning → LayoutMeaning Map → MapMeaning → LookupMeaning
    → Option Script → Buffer → Buffer
made_by_pause n face layout map lookups script =
    if n == SYLLABLES then syllables_found
    else if n == INITIAL then ordered_by face layout map lookups script
    else if n == FINAL then settled_by face layout map script
    else (λ b. b)
