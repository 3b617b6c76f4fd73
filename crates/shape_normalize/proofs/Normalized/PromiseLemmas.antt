-- The normalised list is what normalising promises.
use Rattle.std.proofs.Common.{◌≡◌, ◌≤◌, length, arith, Result, Ok, Err}
use Rattle.std.specs.Prelude.{OnOk}
use Rattle.shape_items.specs.Buffer.{Buffer, limit_of}
use Rattle.shape_common.specs.Unicode.{LawfulUnicode}
use Rattle.shape_plan.specs.Rules.{Rules}
use Rattle.shape_normalize.specs.Normalized.{normalized}
use Rattle.shape_normalize.specs.NormalForm.{NormalForm, Normalizes}
use Rattle.shape_normalize.specs.RoundOne.{round_one}
use Rattle.shape_normalize.proofs.RoundThree.ByAllLemmas.{normalized_recomposes}
use Rattle.shape_normalize.proofs.Places.ByPlaceLemmas.{normalized_by_place}
use Rattle.shape_normalize.proofs.Form.CanonicalFormLemmas.{NormalizesCanonically-normalized}
use Rattle.shape_normalize.proofs.Normalized.ClusterOrderLemmas.{normalized_preserves}
use Rattle.shape_normalize.proofs.Normalized.FeatureLemmas.{normalized_preserves_features}
use Rattle.shape_normalize.proofs.Normalized.HiddenLemmas.{normalized_preserves_hidden}
use Rattle.shape_normalize.proofs.Normalized.ItemGlyphLemmas.{normalized_has_glyphs}
use Rattle.shape_normalize.proofs.Normalized.NormalizedLemmas.{normalized_brings_in, normalized_orders, length-normalized}
use Rattle.shape_normalize.proofs.Hooks.ReorderLemmas.{LawfulReorder}

module _ (rules : Rules) (lawful : LawfulReorder rules.reorder) (unicode : LawfulUnicode rules.unicode) where
  pub NormalForm-normalized : (old new : Buffer) → new ≡ normalized rules old → NormalForm rules old new
  NormalForm-normalized old new is = record {
    brought_in = normalized_brings_in rules lawful old new is;
    item_glyphs = normalized_has_glyphs rules lawful old new is;
    features = normalized_preserves_features rules lawful old new is;
    cgj = normalized_preserves_hidden rules lawful old new is;
    by_place = normalized_by_place rules lawful old new is;
    canonical_form = NormalizesCanonically-normalized rules unicode old new is;
    ordered = normalized_orders rules old new is;
    recomposed = normalized_recomposes rules old new is;
    clusters = normalized_preserves rules lawful old new is;
  }

  -- the list is no longer than the expanded one, so it is within the limit
  pub Normalizes-normalized : {T E : Type 0} (old new : Buffer) (result : Result T E) → OnOk result (new ≡ normalized rules old)
      → OnOk result (length (round_one rules old).items ≤ limit_of old) → OnOk result (Normalizes rules old new)
  Normalizes-normalized old new (Ok done) is counted = record {
    made = is;
    form = NormalForm-normalized old new is;
    within = rw is (omega (arith, length-normalized rules lawful old));
    counted = counted;
  }
  Normalizes-normalized old new (Err e) is counted = tt
