-- What the shaper does at its pauses brings no cluster and preserves flags.
use Rattle.std.proofs.Common.{ℕ, ◌==◌, Bool, true, false, if◌then◌else◌, List, Option}
use Rattle.shape_common.specs.Face.{FaceMeaning}
use Rattle.shape_common.specs.declared.text_types.Script.{Script}
use Rattle.shape_items.specs.Buffer.{Buffer}
use Rattle.shape_buffer.specs.Layout.{LayoutMeaning, LookupMeaning, MapMeaning, LawfulMasks}
use Rattle.shape_buffer.specs.Preservation.{IsFlagPreserving}
use Rattle.cluster_order.specs.Ordering.{IsBringingNoCluster}
use Rattle.indic_shaper.specs.Cutting.{syllables_found}
use Rattle.indic_shaper.specs.Engine.{facts_of}
use Rattle.indic_shaper.specs.Flagless.{FactsFlagless}
use Rattle.indic_shaper.specs.Pauses.{ordered_by, settled_by, made_by_pause}
use Rattle.indic_shaper.specs.declared.requests.TheConstants.{RPHF, PREF, BLWF, ABVF, HALF, PSTF, INIT, SYLLABLES, INITIAL, FINAL}
use Rattle.indic_shaper.proofs.BringingLemmas.{Brings-kept, Brings-same}
use Rattle.indic_shaper.proofs.OrderingLemmas.{Brought, Brought-brings, Brought-ordered, Keeps-syllables_found}
use Rattle.indic_shaper.proofs.SettlingLemmas.{Brings-all_settled}

module _ {Map : Type 0} (face : FaceMeaning) (layout : LayoutMeaning Map) (map : MapMeaning) (lawful : LawfulMasks map)
    (lookups : LookupMeaning) (script : Option Script) where
  flagless : (language : Option (List ℕ)) → FactsFlagless (facts_of face layout map script language)
  flagless language = record {
    rphf = lawful.one_mask RPHF;
    pref = lawful.one_mask PREF;
    blwf = lawful.one_mask BLWF;
    abvf = lawful.one_mask ABVF;
    half = lawful.one_mask HALF;
    pstf = lawful.one_mask PSTF;
    init = lawful.one_mask INIT;
  }

  Brought-ordered_by : (b : Buffer) → Brought b (ordered_by face layout map lookups script b)
  unfolding ordered_by
  Brought-ordered_by b = Brought-ordered (facts_of face layout map script b.language) (flagless b.language) face lookups b

  Brought-settled_by : (b : Buffer) → Brought b (settled_by face layout map script b)
  unfolding settled_by
  Brought-settled_by b =
      let facts = facts_of face layout map script b.language in
      Brought-brings b (settled_by face layout map script b) (Brings-all_settled facts (flagless b.language).init b)

  by_tests : (one two three : Bool) (b : Buffer) → Brought b
      ((if one then syllables_found
      else if two then ordered_by face layout map lookups script
      else if three then settled_by face layout map script
      else (λ c. c)) b)
  by_tests true two three b = Brought-brings b (syllables_found b) (Brings-kept b (syllables_found b) (Keeps-syllables_found b))
  by_tests false true three b = Brought-ordered_by b
  by_tests false false true b = Brought-settled_by b
  by_tests false false false b = Brought-brings b b (Brings-same b)

  Brought-pause : (n : ℕ) (b : Buffer) → Brought b (made_by_pause n face layout map lookups script b)
  Brought-pause n b = by_tests (n == SYLLABLES) (n == INITIAL) (n == FINAL) b

  pub pause-none : (n : ℕ) → IsBringingNoCluster (made_by_pause n face layout map lookups script)
  pause-none n b monotone = (Brought-pause n b).none monotone

  pub pause-flags : (n : ℕ) → IsFlagPreserving (made_by_pause n face layout map lookups script)
  pause-flags n b = (Brought-pause n b).flags
