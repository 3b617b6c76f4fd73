-- What each of the runs has, the run by the shaper of a script has.
use Rattle.std.proofs.Common.{◌≡◌, true, false, subst}
use Rattle.shape_common.specs.Unicode.{UnicodeMeaning}
use Rattle.shape_buffer.specs.Guess.{guessed, guessed_direction}
use Rattle.shape_items.specs.Buffer.{Buffer}
use Rattle.shape_pipeline.specs.Headline.{target_of}
use Rattle.shape_pipeline.specs.Order.{ComesInOrder}
use Rattle.shape_plan.specs.Run.{Run}
use Rattle.shaper_choice.specs.Choice.{OfEach, of_category, preserves_equivalence}
use Rattle.shaper_choice.specs.declared.choice.Category.{Category}
use Rattle.shaper_choice.specs.declared.choice.Category.TheVariants as is

pub record EachHas (P : Run → Type 0) (runs : OfEach Run) : Type 0 where
  pub default : P runs.default
  pub arabic : P runs.arabic
  pub hangul : P runs.hangul
  pub hebrew : P runs.hebrew
  pub thai : P runs.thai
  pub universal : P runs.universal
  pub khmer : P runs.khmer
  pub myanmar : P runs.myanmar
  pub zawgyi : P runs.zawgyi
  pub indic : P runs.indic

pub of_category-has : (P : Run → Type 0) (runs : OfEach Run) (category : Category) → EachHas P runs → P (of_category category runs)
of_category-has P runs is.Default has = has.default
of_category-has P runs is.Arabic has = has.arabic
of_category-has P runs is.Hangul has = has.hangul
of_category-has P runs is.Hebrew has = has.hebrew
of_category-has P runs is.Thai has = has.thai
of_category-has P runs is.Universal has = has.universal
of_category-has P runs is.Khmer has = has.khmer
of_category-has P runs is.Myanmar has = has.myanmar
of_category-has P runs is.Zawgyi has = has.zawgyi
of_category-has P runs is.Indic has = has.indic

-- and those that preserve equivalence, if they alone have it
pub of_category-preserves : (P : Run → Type 0) (runs : OfEach Run) (category : Category) → preserves_equivalence category ≡ true
    → P runs.default → P runs.myanmar → P runs.zawgyi → P (of_category category runs)
of_category-preserves P runs is.Default same default myanmar zawgyi = default
of_category-preserves P runs is.Arabic same default myanmar zawgyi = absurd (let e : false ≡ true = same in cc)
of_category-preserves P runs is.Hangul same default myanmar zawgyi = absurd (let e : false ≡ true = same in cc)
of_category-preserves P runs is.Hebrew same default myanmar zawgyi = absurd (let e : false ≡ true = same in cc)
of_category-preserves P runs is.Thai same default myanmar zawgyi = absurd (let e : false ≡ true = same in cc)
of_category-preserves P runs is.Universal same default myanmar zawgyi = absurd (let e : false ≡ true = same in cc)
of_category-preserves P runs is.Khmer same default myanmar zawgyi = absurd (let e : false ≡ true = same in cc)
of_category-preserves P runs is.Myanmar same default myanmar zawgyi = myanmar
of_category-preserves P runs is.Zawgyi same default myanmar zawgyi = zawgyi
of_category-preserves P runs is.Indic same default myanmar zawgyi = absurd (let e : false ≡ true = same in cc)

-- clusters come in the order of a text that is guessed by the Unicode functions of the run, by another name
pub comes-by : {run : Run} {functions : UnicodeMeaning} {glyphs : Buffer} (text : Buffer) → run.unicode ≡ functions
    → ComesInOrder run (target_of run text) (guessed run.unicode text) glyphs
    → ComesInOrder run (guessed_direction functions text) (guessed functions text) glyphs
comes-by {run} {functions} {glyphs} text is come =
    subst (λ (u : UnicodeMeaning). ComesInOrder run (guessed_direction u text) (guessed u text) glyphs) is come
