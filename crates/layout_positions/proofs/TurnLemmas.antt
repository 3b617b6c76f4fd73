-- what one link more does, and where a chain ends
use Rattle.std.proofs.Common.{◌≡◌, ℕ, ◌≤◌, Some, None, length, ap, sym, ◌∙◌}
use Rattle.std.specs.Option.{option_map_or}
use Rattle.shape_items.specs.Buffer.{Buffer}
use Rattle.layout_matching.specs.Loops.{times}
use Rattle.layout_matching.proofs.LoopLemmas.{times_stays}
use Rattle.layout_positions.specs.Turning.{Turn, turn_next, turn_at, turn_step, first_turn, last_turn}

-- one link more
pub turn_on : (end j : ℕ) (s : Turn) → turn_next end s ≡ Some j → turn_step end s ≡ turn_at s j
turn_on end j s is = ap (λ o. option_map_or (turn_at s) o s) is

-- the chain ends
stops : (end : ℕ) (s : Turn) → turn_next end s ≡ None → turn_step end s ≡ s
stops end s is = ap (λ o. option_map_or (turn_at s) o s) is

pub turned_still : (n i child end : ℕ) (b : Buffer) (here : Turn) → n ≡ length b.items
    → i ≤ n → here ≡ times (turn_step end) i (first_turn child b) → turn_next end here ≡ None → here ≡ last_turn child end b
turned_still n i child end b here count within is none =
    sym (times_stays (turn_step end) n i (first_turn child b) here within is (stops end here none))
    ∙ ap (λ m. times (turn_step end) m (first_turn child b)) count

pub turned_whole : (n child end : ℕ) (b : Buffer) (here : Turn) → n ≡ length b.items
    → here ≡ times (turn_step end) n (first_turn child b) → here ≡ last_turn child end b
turned_whole n child end b here count is = is ∙ ap (λ m. times (turn_step end) m (first_turn child b)) count
