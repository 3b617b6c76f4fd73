use Rattle.std.proofs.Common.{◌≡◌, ℕ, ◌+◌, ◌<◌, ◌^◌, List, [], ◌∷◌, arith}
use Rattle.std.specs.List.{AllByRecursion}
use Rattle.shape_sessions.specs.Text.{IsCharacterWord, IsText, utf8_len}
use Rattle.shapeline.proofs.engine.text.text_len.Goals as goal

-- if no word is left, all were counted
counted_all : (left all : List (List ℕ)) (len : ℕ) → left ≡ [] → (AllByRecursion IsCharacterWord left → AllByRecursion IsCharacterWord all)
    → len + utf8_len left ≡ utf8_len all → len < 2 ^ 32 → IsText all × (len ≡ utf8_len all)
counted_all [] all len none so_far counted small = ((so_far tt, omega arith), omega arith)
counted_all (w ∷ ws) all len none so_far counted small = cc

pub returns : goal.returns
returns c =
    counted_all _ _ c.loop-word.len c.in-None.ensures.steps c.loop-word.invariant.all_so_far c.loop-word.invariant.counted c.loop-word.invariant.small
