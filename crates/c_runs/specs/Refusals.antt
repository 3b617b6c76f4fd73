-- Why a run has no glyphs, and what is refused of its parts.
use Rattle.std.specs.Prelude.{◌≡◌, ◌≤◌, ℕ, List, true}
use Rattle.std.specs.Str.{IsUtf8}
use Rattle.shape_buffer.specs.Guess.{guessed}
use Rattle.shape_items.specs.Buffer.{Buffer}
use Rattle.shape_pipeline.specs.Headline.{target_of}
use Rattle.shape_pipeline.specs.Shaped.{ShapingPasses}
use Rattle.shape_plan.specs.Run.{Run}
use Rattle.shape_unicode.specs.Meaning.{unicode_database}
use Rattle.c_runs.specs.Numbers.{is_direction, is_level}
use Rattle.c_runs.specs.Texts.{Units, IsPlaced, IsText, IsTextPart, unit_count}
use Rattle.c_runs.specs.declared.plain.luthgarn_run.{luthgarn_run}
use Rattle.c_runs.specs.declared.refusal.Refusal.{Refusal}
use Rattle.c_runs.specs.declared.refusal.Refusal.TheVariants as why

-- some step of the run of a text would make a list past the run's limit
abbrev pub TextPasses : (Buffer → Run) → Buffer → Type 0
TextPasses runs text = ShapingPasses (runs text) (target_of (runs text) text) (guessed unicode_database text)

-- why a run has no glyphs: memory may always be refused; some step passes the limit; its bytes aren't text; it isn't placed
abbrev pub IsRefused : Type 0 → Units → luthgarn_run → Refusal → Type 0
IsRefused Passes text run why.Memory = Unit
IsRefused Passes text run why.Length = Passes
IsRefused Passes text run why.Font = ⊥
IsRefused Passes text run why.Text = IsText text run → ⊥
IsRefused Passes text run why.Run = IsPlaced text run → ⊥
IsRefused Passes text run why.Room = ⊥

-- a run is placed and text
abbrev pub IsValid : Units → luthgarn_run → Type 0
IsValid text run = IsPlaced text run × IsText text run

-- why units are no part of a text
abbrev pub IsNoPart : Units → ℕ → ℕ → Refusal → Type 0
IsNoPart text from to why.Memory = ⊥
IsNoPart text from to why.Length = ⊥
IsNoPart text from to why.Font = ⊥
IsNoPart text from to why.Text = IsTextPart text from to → ⊥
IsNoPart text from to why.Run = from ≤ to → to ≤ unit_count text → ⊥
IsNoPart text from to why.Room = ⊥

-- why a name is no language
abbrev pub IsUnnamed : List ℕ → Refusal → Type 0
IsUnnamed name why.Memory = Unit
IsUnnamed name why.Length = ⊥
IsUnnamed name why.Font = ⊥
IsUnnamed name why.Text = IsUtf8 name → ⊥
IsUnnamed name why.Run = ⊥
IsUnnamed name why.Room = ⊥

-- why what a run asks for can't be asked
abbrev pub IsUnasked : luthgarn_run → Refusal → Type 0
IsUnasked run why.Memory = Unit
IsUnasked run why.Length = ⊥
IsUnasked run why.Font = ⊥
IsUnasked run why.Text = IsUtf8 run.language → ⊥
IsUnasked run why.Run = is_direction run.direction ≡ true → is_level run.level ≡ true → ⊥
IsUnasked run why.Room = ⊥
