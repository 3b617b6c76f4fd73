-- Glyphs popped one by one.
use Prim.Native.Nat.{zero}
use Rattle.std.proofs.Common.{◌≡◌, ℕ, suc, ◌+◌, ◌-◌, ◌<◌, ◌≤◌, true, false, List, refl, sym, ap, ◌∙◌, arith, if◌then◌else◌}
use Rattle.shape_items.specs.Buffer.{Buffer}
use Rattle.apple_positioning.specs.Runs.{Source}
use Rattle.apple_positioning.specs.Stacking.{Popped, popped, popped_one, spot_after}
use Rattle.apple_positioning.specs.declared.stacking.Popping.{Popping}
use Rattle.apple_positioning.specs.declared.stacking.Stack.{Stack}

-- one glyph more is popped
pub popped_next : (s : Source) (places : List ℕ) (n i : ℕ) (here there end : Popped) → i < n
    → popped s places (n - i) here ≡ end → here.popping.has_ended ≡ false → there ≡ popped_one s places here
    → popped s places (n - (i + 1)) there ≡ end
popped_next s places n i here there end more before goes is =
    let e : n - i ≡ suc (n - (i + 1)) = omega (arith, more) in
    let one : (if here.popping.has_ended then here else popped_one s places here) ≡ popped_one s places here =
    ap (λ ends. if ends then here else popped_one s places here) goes in
    ap (popped s places (n - (i + 1))) (is ∙ sym one) ∙ sym (ap (λ k. popped s places k here) e) ∙ before

-- a last value has been
popped_still : (s : Source) (places : List ℕ) (n : ℕ) (d : Popped) → d.popping.has_ended ≡ true → popped s places n d ≡ d
popped_still s places zero d is = refl
popped_still s places (suc n) d is =
    ap (λ ends. popped s places n (if ends then d else popped_one s places d)) is ∙ popped_still s places n d is

pub popped_ended : (s : Source) (places : List ℕ) (k : Stack) (n : ℕ) (b : Buffer) (p : Popping) (end : Popped)
    → popped s places n (record { buffer = b; popping = p }) ≡ end → p.has_ended ≡ true
    → spot_after k (record { buffer = b; popping = p }) ≡ spot_after k end
popped_ended s places k n b p end made is =
    ap (spot_after k) (sym (popped_still s places n (record { buffer = b; popping = p }) is) ∙ made)

pub popped_all : (s : Source) (places : List ℕ) (k : Stack) (n i : ℕ) (b : Buffer) (p : Popping) (end : Popped)
    → popped s places (n - i) (record { buffer = b; popping = p }) ≡ end → n ≤ i
    → spot_after k (record { buffer = b; popping = p }) ≡ spot_after k end
popped_all s places k n i b p end made over =
    let none : n - i ≡ 0 = omega (arith, over) in
    ap (spot_after k) (sym (ap (λ k. popped s places k (record { buffer = b; popping = p })) none) ∙ made)
