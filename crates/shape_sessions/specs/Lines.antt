-- Lines: which ones are well formed, and what they make of the state.
use Rattle.std.specs.Prelude.{◌≡◌, ℕ, ◌==◌, ◌⊎◌, ⊤, Bool, true, false, List, [], ◌∷◌, Option, Some, None, if◌then◌else◌}
use Rattle.std.specs.Str.{IsUtf8}
use Rattle.shape_sessions.specs.Commands.{command_of}
use Rattle.shape_sessions.specs.State.{State, set_by, IsMeant}
use Rattle.shape_sessions.specs.Words.{words}
use Rattle.shape_sessions.specs.declared.command.Command.{Command}
use Rattle.shape_sessions.specs.declared.command.Command.TheVariants.{Glyph, Text, Same, Lines}
use Rattle.shape_sessions.specs.declared.outcome.Outcome.{Outcome}
use Rattle.shape_sessions.specs.declared.outcome.Outcome.TheVariants.{Done, Malformed, OutOfMemory, WriteFailed}

-- a text without one such byte at its end, if it ends with one
abbrev pub without_end : ℕ → List ℕ → List ℕ
without_end end [] = []
without_end end (b ∷ []) = if b == end then [] else b ∷ []
without_end end (b ∷ c ∷ cs) = b ∷ without_end end (c ∷ cs)

-- the words of a line; a line feed (10) at its end and one carriage return (13) right before are no part of them
abbrev pub line_words : List ℕ → List (List ℕ)
line_words line = words (without_end 13 (without_end 10 line))

-- a first word that begins with `#` (35)
abbrev pub is_comment : List ℕ → Bool
is_comment [] = false
is_comment (b ∷ _) = b == 35

-- what a line of some command makes of a state; without a command the state stays
abbrev pub set_by_command : Option Command → List (List ℕ) → State → State
set_by_command None rest state = state
set_by_command (Some command) rest state = set_by command rest state

-- a known command with the words that it takes
abbrev pub IsMeantByCommand : Option Command → List (List ℕ) → Type 0
IsMeantByCommand None rest = ⊥
IsMeantByCommand (Some command) rest = IsMeant command rest

-- what the words of a line are about; no words and comments are about nothing
abbrev pub command_of_words : List (List ℕ) → Option Command
command_of_words [] = None
command_of_words (word ∷ rest) = if is_comment word then None else command_of word

-- whether a line about this takes memory for what it sets
abbrev pub takes_memory : Option Command → Bool
takes_memory (Some Glyph) = true
takes_memory _ = false

-- whether something is printed for it
abbrev pub asks_for_answer : Option Command → Bool
asks_for_answer (Some Text) = true
asks_for_answer (Some Same) = true
asks_for_answer (Some Lines) = true
asks_for_answer _ = false

-- what the words of a line make of a state; no words and comments leave it
abbrev pub obeyed : List (List ℕ) → State → State
obeyed [] state = state
obeyed (word ∷ rest) state = if is_comment word then state else set_by_command (command_of word) rest state

-- no word, a comment, or a known command with the words that it takes
abbrev pub IsWellFormed : List (List ℕ) → Type 0
IsWellFormed [] = ⊤
IsWellFormed (word ∷ rest) = (is_comment word ≡ true) ⊎ IsMeantByCommand (command_of word) rest

-- a line of UTF-8 whose words are well formed
abbrev pub IsLine : List ℕ → Type 0
IsLine line = IsUtf8 line × IsWellFormed (line_words line)

-- what was done with a line about a command: malformed exactly when it isn't as it should be, and then the state stays;
-- else the state is the one that it asks for. Only a line that takes memory is refused it, and then all stays except
-- the metrics of glyphs; only if something is printed for a line can a write fail
abbrev pub IsObeyed : Option Command → Type 0 → State → State → Outcome → State → Type 0
IsObeyed command Good old asked Malformed new = (¬ Good) × (new ≡ old)
IsObeyed command Good old asked OutOfMemory new =
    Good × (takes_memory command ≡ true) × (record new { metrics = old.metrics } ≡ old)
IsObeyed command Good old asked Done new = Good × (new ≡ asked)
IsObeyed command Good old asked WriteFailed new = Good × (asks_for_answer command ≡ true) × (new ≡ asked)

-- of a line that prints alone: malformed exactly when it isn't as it should be, and never out of memory,
-- since that too is printed
abbrev pub IsAnswered : Type 0 → Outcome → Type 0
IsAnswered Good Malformed = ¬ Good
IsAnswered Good OutOfMemory = ⊥
IsAnswered Good Done = Good
IsAnswered Good WriteFailed = Good
