use Rattle.std.proofs.Common.{◌≡◌, ℕ, ◌+◌, ◌*◌, List, Option, Some, nat_eq, if◌then◌else◌, ap, ap₂, ◌∙◌, arith, rules}
use Rattle.std.specs.Option.{option_map_or}
use Rattle.shape_font.specs.Variations.{is_default, own_glyph, selector_of, sequences_from, variation_at}
use Rattle.shape_font.specs.declared.variations.GlyphVariant.{GlyphVariant}
use Rattle.shape_font.specs.declared.variations.GlyphVariant.TheVariants.{Missing, Default, Own}
use Rattle.shape_font.proofs.variations.variation.Goals as goal

pub returns : goal.returns
returns c =
    let t = c.args.table.now in
    let i = c.in-Some.i in
    let by : List ℕ → List ℕ → GlyphVariant
    = λ ranges rows. if is_default ranges c.args.c then Default
    else (let glyph = own_glyph rows c.args.c in (if nat_eq glyph 0 then Missing else Own glyph)) in
    let rows : 13 + 11 * i + 4 ≡ 17 + 11 * i = omega arith in
    let there : Some i ≡ selector_of t c.args.selector = search rules in
    c.by_lists.ensures ∙ ap₂ by c.sequences_from.ensures (c.sequences_from-2.ensures ∙ ap (sequences_from t) rows)
    ∙ ap (λ (o : Option ℕ). option_map_or (variation_at t c.args.c) o Missing) there
