-- Ligatures, step by step.
use Rattle.std.proofs.Common.{◌≡◌, ℕ, ◌≤◌, Bool, true, false, refl, ap, length}
use Rattle.shape_items.specs.Buffer.{Buffer}
use Rattle.layout_matching.specs.Loops.{times}
use Rattle.layout_substitution.specs.Ligatures.{Joined, between_stays, follows, follow_step, id_given}
use Rattle.layout_substitution.specs.declared.ligature.Joining.{Joining}
use Rattle.layout_matching.proofs.LoopLemmas.{times_stays}

-- marks that follow

pub follow_on : (id : ℕ) (s : Joined) → follows s ≡ true → follow_step id s ≡ between_stays true id s
follow_on id s goes = rw goes refl

pub follow_stops : (id n i : ℕ) (first s : Joined) → i ≤ n → s ≡ times (follow_step id) i first → follows s ≡ false
    → times (follow_step id) n first ≡ s
follow_stops id n i first s within is stops =
    let still : follow_step id s ≡ s = rw stops refl in
    times_stays (follow_step id) n i first s within is still

-- a state by its fields

pub buffer_of : (b : Buffer) (w : Joining) (s : Joined) → record { buffer = b; walk = w } ≡ s → b ≡ s.buffer
buffer_of b w s e = ap (λ (j : Joined). j.buffer) e

pub walk_of : (b : Buffer) (w : Joining) (s : Joined) → record { buffer = b; walk = w } ≡ s → w ≡ s.walk
walk_of b w s e = ap (λ (j : Joined). j.walk) e

-- an id leaves the items

pub length_given : (own : Bool) (b : Buffer) → length (id_given own b).items ≡ length b.items
length_given true b = refl
length_given false b = refl
