-- What a call has done, and why it stopped.
use Rattle.std.specs.Prelude.{◌≡◌, ◌<◌, ◌≤◌, ◌-◌, ◌⊎◌, ℕ, List, All, ◌++◌, length, take, drop, slice_index_or}
use Rattle.opentype_layout.specs.declared.face.OpenTypeFace.{OpenTypeFace}
use Rattle.shape_common.specs.declared.text_types.Feature.{Feature}
use Rattle.shape_items.specs.Buffer.{Buffer}
use Rattle.shape_plan.specs.Run.{Run}
use Rattle.c_runs.specs.Glyphs.{glyphs_of_run, joined, counted}
use Rattle.c_runs.specs.Numbers.{code_of}
use Rattle.c_runs.specs.Refusals.{TextPasses}
use Rattle.c_runs.specs.Texts.{Units, IsPlaced, IsText, text_of_run}
use Rattle.c_runs.specs.declared.plain.luthgarn_glyph.{luthgarn_glyph}
use Rattle.c_runs.specs.declared.plain.luthgarn_outcome.{luthgarn_outcome}
use Rattle.c_runs.specs.declared.plain.luthgarn_run.{luthgarn_run}
use Rattle.c_runs.specs.declared.refusal.Refusal.{Refusal}
use Rattle.c_runs.specs.declared.refusal.Refusal.TheVariants as why

-- so many runs are done and so many glyphs are written: the glyphs of these runs, and nothing past them; these runs are counted,
-- and the others stay
pub record IsDone (glyphs : luthgarn_run → List luthgarn_glyph) (old new : List luthgarn_run) (room written : List luthgarn_glyph) (k used : ℕ) : Type 0 where
  pub count : used ≡ length (joined glyphs (take k old))
  pub glyphs_are : written ≡ joined glyphs (take k old) ++ drop used room
  pub runs_are : new ≡ counted glyphs 0 (take k old) ++ drop k old

-- why the next run is not done, where there is room for so many glyphs: it has more, or has none
abbrev pub IsStopped : (Buffer → Run) → Units → luthgarn_run → ℕ → ℕ → Refusal → Type 0
IsStopped runs text run room needed why.Room = (needed ≡ length (glyphs_of_run runs text run)) × (room < needed)
IsStopped runs text run room needed why.Memory = Unit
IsStopped runs text run room needed why.Length = TextPasses runs (text_of_run text run)
IsStopped runs text run room needed why.Font = ⊥
IsStopped runs text run room needed why.Text = IsText text run → ⊥
IsStopped runs text run room needed why.Run = IsPlaced text run → ⊥

pub record Stops (runs : Buffer → Run) (text : Units) (old : List luthgarn_run) (room : ℕ) (outcome : luthgarn_outcome) : Type 0 where
  pub refusal : Refusal
  pub code : outcome.code ≡ code_of refusal
  pub some : (refusal ≡ why.Memory → ⊥) → outcome.runs < length old
  pub reason : (d : luthgarn_run) → IsStopped runs text (slice_index_or old outcome.runs d) (room - outcome.glyphs) outcome.needed refusal

-- what a call did with a font, where `runs` says how a text is shaped: the first runs are placed and text, and done; these are
-- all, or the next one is refused
pub record Serves (runs : Buffer → Run) (text : Units) (old new : List luthgarn_run) (room written : List luthgarn_glyph)
    (outcome : luthgarn_outcome) : Type 0 where
  pub done : IsDone (glyphs_of_run runs text) old new room written outcome.runs outcome.glyphs
  pub placed : All (IsPlaced text) (take outcome.runs old)
  pub text_is : All (IsText text) (take outcome.runs old)
  pub within : (outcome.runs ≤ length old) × (outcome.glyphs ≤ length room)
  pub end : ((outcome.code ≡ 0) × (outcome.runs ≡ length old)) ⊎ Stops runs text old (length room) outcome

-- what a call did, where `runs` says how texts are shaped with a face and features: the face is the right one, and the features
-- are those that were asked for
pub record ServesBy (runs : OpenTypeFace → List Feature → Buffer → Run) (IsFace : OpenTypeFace → Type 0) (asked : List Feature) (text : Units)
    (old new : List luthgarn_run) (room written : List luthgarn_glyph) (outcome : luthgarn_outcome) : Type 0 where
  pub face : OpenTypeFace
  pub is_face : IsFace face
  pub features : List Feature
  pub features_are : features ≡ asked
  pub serves : Serves (runs face features) text old new room written outcome

-- nothing was done
pub record IsUntouched (old new : List luthgarn_run) (room written : List luthgarn_glyph) (outcome : luthgarn_outcome) : Type 0 where
  pub runs : outcome.runs ≡ 0
  pub glyphs : outcome.glyphs ≡ 0
  pub runs_are : new ≡ old
  pub glyphs_are : written ≡ room
