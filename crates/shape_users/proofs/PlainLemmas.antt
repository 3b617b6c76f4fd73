-- From the clauses of a run to what a caller with no hook and no lookup knows of its glyphs.
use Rattle.std.proofs.Common.{◌≡◌, ◌≢◌, ◌∙◌, ℕ, ◌<◌, ◌≤◌, ◌*◌, Option, None, inl, inr, List, [], ◌∷◌, ◌++◌, length, Result, refl, sym, subst, ap, arith}
use Rattle.std.specs.Prelude.{IfOk}
use Rattle.std.specs.List.Sorted.{IsNonDecreasing}
use Rattle.std.proofs.lemmas.Result.{IfOk-weaker}
use Rattle.shape_items.specs.Buffer.{Buffer, limit_of, cleared, run_limit}
use Rattle.shape_items.specs.ClusterOrder.{IsMonotoneLevel, IsOrderedFor}
use Rattle.shape_items.specs.Clusters.{clusters}
use Rattle.shape_common.specs.Direction.{is_backward}
use Rattle.shape_common.specs.declared.text_types.Direction.{Direction}
use Rattle.shape_common.specs.declared.text_types.Direction.TheVariants.{Invalid, LeftToRight, RightToLeft, TopToBottom, BottomToTop}
use Rattle.shape_common.specs.declared.text_types.Feature.{Feature}
use Rattle.shape_common.specs.declared.text_types.Script.{Script}
use Rattle.shape_buffer.specs.Guess.{guessed, direction_or}
use Rattle.shape_buffer.specs.Outcome.{Step, run_steps, EachWithin, SomePast}
use Rattle.shape_pipeline.specs.Canonical.{RunPreservesEquivalence}
use Rattle.shape_pipeline.specs.GlyphsOf.{AreGlyphsOf}
use Rattle.shape_pipeline.specs.Headline.{target_of}
use Rattle.shape_pipeline.specs.Order.{RunPreservesClusters}
use Rattle.shape_pipeline.specs.Shaped.{all_steps, entered}
use Rattle.shape_plan.specs.Plan.{Plan}
use Rattle.shape_plan.specs.Preservation.{RunPreservesFlags}
use Rattle.shape_plan.specs.Run.{Run}
use Rattle.shape_plan.specs.declared.decisions.Decisions.{Decisions}
use Rattle.shape_plan.specs.declared.ot_shaper.shapers.hb_default_shaper_t.{hb_default_shaper_t as DefaultShaper}
use Rattle.shape_users.specs.PlainGlyphs.{ArePlainGlyphs, StandInOrder, HasPlainForm, NoStepPasses, SomeStepPasses, IsGivenBackEmpty}

-- a direction that is known stays
direction-known : (direction other : Direction) → direction ≢ Invalid → direction_or direction other ≡ direction
direction-known Invalid other known = absurd (known refl)
direction-known LeftToRight other known = refl
direction-known RightToLeft other known = refl
direction-known TopToBottom other known = refl
direction-known BottomToTop other known = refl

-- the limit of a run, for few characters and for many
limit-few : (n : ℕ) → n ≤ 256 → run_limit n ≤ 16384
limit-few n few = omega arith

limit-many : (n : ℕ) → 256 ≤ n → run_limit n ≤ n * 64
limit-many n many = omega arith

-- ---- from what is promised of the glyphs of a text

pub plain-glyphs : {run : Run} {E : Type 0} (text : Buffer) (result : Result Buffer E) → RunPreservesFlags run
    → IfOk result (AreGlyphsOf run text) → IfOk result (ArePlainGlyphs text)
plain-glyphs {run} text result preserves ok =
    IfOk-weaker result (AreGlyphsOf run text) (ArePlainGlyphs text)
    (λ glyphs are. record {
      direction = λ known. are.direction ∙ direction-known text.direction _ known;
      one_set = (are.flags preserves).one_set;
      concat = (are.flags preserves).concat;
      few = λ few. let within = are.within in omega (arith, within, limit-few (length text.items) few);
      many = λ many. let within = are.within in omega (arith, within, limit-many (length text.items) many);
    })
    ok

pub stand-in_order : {run : Run} {E : Type 0} (text : Buffer) (result : Result Buffer E) → RunPreservesClusters run
    → IsMonotoneLevel text.cluster_level → IsNonDecreasing (clusters text.items)
    → IfOk result (AreGlyphsOf run text) → IfOk result (StandInOrder run text)
stand-in_order {run} text result preserves level rising ok =
    IfOk-weaker result (AreGlyphsOf run text) (StandInOrder run text)
    (λ glyphs are.
    let come = are.clusters (inl preserves) level rising in
    record {
      of_text = come.from_text;
      of_firsts = come.from_firsts;
      ordered = subst (λ (d : Direction). IsOrderedFor (is_backward d) (clusters glyphs.items)) (sym are.direction) come.ordered;
    })
    ok

pub plain-form : {run : Run} {E : Type 0} (text : Buffer) (result : Result Buffer E) → RunPreservesEquivalence run
    → IfOk result (AreGlyphsOf run text) → IfOk result (λ _. HasPlainForm run text)
plain-form {run} text result preserves ok =
    IfOk-weaker result (AreGlyphsOf run text) (λ _. HasPlainForm run text)
    (λ glyphs are. record {
      brought_in = are.form.brought_in;
      item_glyphs = are.form.item_glyphs;
      features = are.form.features;
      places = are.form.by_place;
      recomposed = are.form.recomposed;
      equivalent = (are.canonical preserves).equivalent;
      decided = (are.canonical preserves).decides;
    })
    ok

-- ---- what is counted

-- if no step passes its limit, none after some others does
within-at : (before : List Step) (one : Step) (behind : List Step) (b : Buffer) → EachWithin (before ++ (one ∷ behind)) b
    → one.counts (run_steps before b) ≤ limit_of (run_steps before b)
within-at [] one behind b each = each.0
within-at (first ∷ before) one behind b each = within-at before one behind (first.makes b) each.1

pub none_passes : (run : Run) (text : Buffer) → EachWithin (all_steps run (target_of run text)) (entered (guessed run.unicode text))
    → NoStepPasses run text
none_passes run text each at =
    within-at at.before at.one at.behind (entered (guessed run.unicode text))
    (subst (λ (steps : List Step). EachWithin steps (entered (guessed run.unicode text))) at.of_run each)

-- if some step does, it stands after some others
record Passing (steps : List Step) (b : Buffer) : Type 0 where
  before : List Step
  one : Step
  behind : List Step
  is : steps ≡ before ++ (one ∷ behind)
  past : limit_of (run_steps before b) < one.counts (run_steps before b)

passing : (steps : List Step) (b : Buffer) → SomePast steps b → Passing steps b
passing [] b past = absurd past
passing (first ∷ steps) b (inl past) = record { before = []; one = first; behind = steps; is = refl; past = past }
passing (first ∷ steps) b (inr later) =
    let rest = passing steps (first.makes b) later in
    record {
      before = first ∷ rest.before;
      one = rest.one;
      behind = rest.behind;
      is = ap (λ (all : List Step). first ∷ all) rest.is;
      past = rest.past;
    }

pub some_passes : (run : Run) (text : Buffer) → SomePast (all_steps run (target_of run text)) (entered (guessed run.unicode text))
    → SomeStepPasses run text
some_passes run text past =
    let there = passing (all_steps run (target_of run text)) (entered (guessed run.unicode text)) past in
    record {
      at = record { before = there.before; one = there.one; behind = there.behind; of_run = there.is };
      past = there.past;
    }

-- what is left of a cleared text
pub given_back : (text left : Buffer) → left ≡ cleared text → IsGivenBackEmpty text left
given_back text left is = rw is (record {
  items = refl;
  positions = refl;
  flags = refl;
  level = refl;
  invisible = refl;
  not_found = refl;
})

-- a plan by its parts, for which the default shaper made no data: a run asks none of it
abbrev pub plan_of : Direction → Option Script → Option DefaultShaper → Decisions → List Feature → Plan DefaultShaper Unit Unit
plan_of direction script shaper decisions features = record {
  direction = direction;
  script = script;
  shaper = shaper;
  ot_map = tt;
  decisions = decisions;
  user_features = features;
  shaper_data = None;
}
