-- The characters of the recomposed list of prepared items are those of the list, recomposed.
use Rattle.std.proofs.Common.{◌≡◌, ℕ, suc, List, [], ◌∷◌, map, Option, Some, None, option_map, refl, sym, ap, subst, ◌∙◌}
use Rattle.std.specs.List.{AllByRecursion}
use Rattle.canonical_form.proofs.MapLemmas.{is_blocked-map, recomposed-map}
use Rattle.shape_items.specs.Buffer.{Buffer}
use Rattle.shape_items.specs.Items.{Item, char_of}
use Rattle.canonical_form.specs.Recompose.{is_blocked, compose_with_glyph, recomposed}
use Rattle.shape_common.specs.Unicode.{LawfulUnicode, is_mark}
use Rattle.shape_items.specs.Prepared.{IsPreparedItem}
use Rattle.shape_items.specs.Spans.{spans_merged_out}
use Rattle.shape_normalize.specs.RoundThree.{Placed, placed, ccc_of_placed, is_mark_placed, compose_placed, recomposed_items, absorbed_spans, with_cluster_at, round_three}
use Rattle.shape_plan.specs.Rules.{Rules, has_glyph}
use Rattle.shape_normalize.proofs.Form.PreparedLemmas.{ArePrepared, prepared-part}
use Rattle.shape_normalize.proofs.RoundThree.RoundThreeWalkLemmas.{made_with}
use Rattle.shape_normalize.proofs.RoundThree.RoundThreePlaceLemmas.{absorbed_is}

abbrev char_of_placed : Placed → ℕ
char_of_placed p = p.item.codepoint

chars-placed : (place : ℕ) (items : List Item) → map char_of_placed (placed place items) ≡ map char_of items
chars-placed place [] = refl
chars-placed place (item ∷ items) = ap (λ l. item.codepoint ∷ l) (chars-placed (suc place) items)

chars-with_clusters : (items : List Item) (out : List Placed) → map char_of (map (with_cluster_at items) out) ≡ map char_of_placed out
chars-with_clusters items [] = refl
chars-with_clusters items (p ∷ out) = ap (λ l. p.item.codepoint ∷ l) (chars-with_clusters items out)

module _ (rules : Rules) (lawful : LawfulUnicode rules.unicode) where
  abbrev IsPreparedPlaced : Placed → Type 0
  IsPreparedPlaced p = IsPreparedItem rules.unicode p.item

  prepared-placed : (place : ℕ) (items : List Item) → ArePrepared rules.unicode items → AllByRecursion IsPreparedPlaced (placed place items)
  prepared-placed place [] h = tt
  prepared-placed place (item ∷ items) h = (h.0, prepared-placed (suc place) items h.1)

  abbrev compose_chars : ℕ → ℕ → Option ℕ
  compose_chars = compose_with_glyph rules.compose (has_glyph rules.face.nominal_glyph)

  -- a starter that takes another character takes its properties too
  prepared-composed : (starter mark d : Placed) → compose_placed rules starter mark ≡ Some d → IsPreparedPlaced d
  prepared-composed starter mark d made =
      let at = absorbed_is rules starter mark d made in
      subst IsPreparedPlaced (sym at.2) (prepared-part rules lawful starter.item at.0)

  same_char : (starter mark : Placed) (found : Option ℕ)
      → found ≡ option_map char_of_placed (option_map (made_with rules starter mark) found)
  same_char starter mark None = refl
  same_char starter mark (Some c) = refl

  chars-recomposed : (items : List Item) → ArePrepared rules.unicode items
      → map char_of_placed (recomposed_items rules items)
      ≡ recomposed rules.unicode.ccc (is_blocked rules.unicode.ccc) (is_mark rules.unicode) compose_chars (map char_of items)
  chars-recomposed items h =
      let ccc = rules.unicode.ccc in
      let cccs : (p : Placed) → IsPreparedPlaced p → ccc (char_of_placed p) ≡ ccc_of_placed p = λ p prepared. sym prepared.ccc in
      recomposed-map IsPreparedPlaced char_of_placed ccc_of_placed ccc cccs
      (is_blocked ccc_of_placed) (is_blocked ccc)
      (is_blocked-map IsPreparedPlaced char_of_placed ccc_of_placed ccc cccs)
      is_mark_placed (is_mark rules.unicode) (compose_placed rules) compose_chars (λ p prepared. sym prepared.mark)
      (λ starter mark d of_starter of_mark made. prepared-composed starter mark d made)
      (λ starter mark of_starter of_mark. same_char starter mark (compose_chars starter.item.codepoint mark.item.codepoint))
      (placed 0 items) (prepared-placed 0 items h)
      ∙ ap (recomposed ccc (is_blocked ccc) (is_mark rules.unicode) compose_chars) (chars-placed 0 items)

  -- the characters of the recomposed list are those of the list, recomposed by the rule of the standard
  pub chars-round_three : (b : Buffer) → ArePrepared rules.unicode b.items
      → map char_of (round_three rules b).items
      ≡ recomposed rules.unicode.ccc (is_blocked rules.unicode.ccc) (is_mark rules.unicode) compose_chars (map char_of b.items)
  chars-round_three b h =
      let out : List Placed = recomposed_items rules b.items in
      chars-with_clusters (spans_merged_out (absorbed_spans out) b).items out ∙ chars-recomposed b.items h
