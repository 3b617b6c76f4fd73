-- Prepared lists stay prepared in round one and when CGJ are unhidden.
use Rattle.std.proofs.Common.{ℕ, List, [], ◌∷◌, map, Option, None, Some, refl}
use Rattle.std.specs.Option.{option_map_or}
use Rattle.shape_items.specs.Buffer.{Buffer}
use Rattle.shape_items.specs.Items.{Item}
use Rattle.shape_common.specs.Unicode.{UnicodeMeaning, LawfulUnicode}
use Rattle.shape_common.specs.declared.text_types.GlyphId.{GlyphId}
use Rattle.shape_items.specs.Prepared.{IsPreparedItem}
pub use Rattle.shape_items.proofs.PreparedLemmas.{ArePrepared, unmarked_ccc, ccc_with_props, prepared-with_props, PreparedKey, prepared_key}
pub use Rattle.shape_items.proofs.PreparedLemmas.{IsKey-prepared_key, IsPreparedKey, chars_of_keys, prepared_keys, prepared_from_keys}
pub use Rattle.shape_items.proofs.PreparedLemmas.{prepared_by_keys}
use Rattle.shape_plan.specs.Rules.{Rules}
use Rattle.shape_normalize.specs.Recast.{recast_to}
use Rattle.shape_normalize.specs.RoundOne.{whole_item, expansion_of, variation_sequences_merged, round_one}
use Rattle.shape_normalize.specs.RoundTwo.{cgj_unhidden_where_seen}
use Rattle.shape_normalize.proofs.RoundTwo.CgjLemmas.{keys-cgj_unhidden_where_seen}
use Rattle.shape_normalize.proofs.RoundOne.RoundOneLemmas.{whole_item_is, expanded_all, keys-variation_sequences_merged}

-- unhiding CGJ keeps a list prepared
pub prepared-cgj_unhidden_where_seen : (unicode : UnicodeMeaning) (b : Buffer) → ArePrepared unicode b.items → ArePrepared unicode (cgj_unhidden_where_seen b).items
prepared-cgj_unhidden_where_seen unicode b h = prepared_by_keys unicode b.items (cgj_unhidden_where_seen b).items (keys-cgj_unhidden_where_seen prepared_key (λ item. refl) b) h

module _ (rules : Rules) (lawful : LawfulUnicode rules.unicode) where
  -- an item of an expansion is prepared, and so is one that is recomposed
  pub prepared-part : (item : Item) (c : ℕ) → IsPreparedItem rules.unicode (recast_to rules.unicode rules.face.nominal_glyph item c)
  prepared-part item c = record { mark = refl; ccc = ccc_with_props rules.unicode lawful c }

  prepared-parts : (item : Item) (cs : List ℕ) → ArePrepared rules.unicode (map (recast_to rules.unicode rules.face.nominal_glyph item) cs)
  prepared-parts item [] = tt
  prepared-parts item (c ∷ cs) = (prepared-part item c, prepared-parts item cs)

  prepared-found : (invisible : Option GlyphId) (item : Item) (found : Option (List ℕ)) → IsPreparedItem rules.unicode item
      → ArePrepared rules.unicode (option_map_or (map (recast_to rules.unicode rules.face.nominal_glyph item)) found
      (whole_item rules invisible item ∷ []))
  prepared-found invisible item None h = (
    whole_item_is rules invisible (IsPreparedItem rules.unicode) item (λ glyph. record { mark = h.mark; ccc = h.ccc })
        (λ glyph space. record { mark = h.mark; ccc = h.ccc }),
    tt,
  )
  prepared-found invisible item (Some cs) h = prepared-parts item cs

  -- round one keeps a list prepared
  pub prepared-round_one : (b : Buffer) → ArePrepared rules.unicode b.items → ArePrepared rules.unicode (round_one rules b).items
  prepared-round_one b h =
      expanded_all rules b.invisible_glyph b.not_found_variation_selector_glyph (IsPreparedItem rules.unicode)
      (IsPreparedItem rules.unicode)
      (λ item glyph prepared. record { mark = prepared.mark; ccc = prepared.ccc })
      (λ item glyph prepared. record { mark = prepared.mark; ccc = prepared.ccc })
      (λ short item prepared. prepared-found b.invisible_glyph item (expansion_of rules short item) prepared)
      (variation_sequences_merged rules b).items
      (prepared_by_keys rules.unicode b.items (variation_sequences_merged rules b).items (keys-variation_sequences_merged rules prepared_key IsKey-prepared_key b) h)
