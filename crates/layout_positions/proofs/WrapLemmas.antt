-- sums modulo 2^32 in another order
use Rattle.std.proofs.Common.{◌≡◌, ℤ, ◌+ℤ◌, ◌-ℤ◌, ap, sym, ◌∙◌, arith}
use Rattle.std.specs.Int.{w32, int_wrap}
use Rattle.std.proofs.lemmas.Int.{ints, int_wrap-add_left, int_wrap-add_right, int_wrap-add_same}
use Rattle.shape_common.specs.Wrapping.{◌+ʷ◌, ◌-ʷ◌}

-- what is taken off and put on again
pub put_on_again : (a b c : ℤ) → a +ʷ (b -ʷ c) +ʷ c ≡ a +ʷ b
unfolding ◌+ʷ◌ ◌-ʷ◌
put_on_again a b c =
    ap (λ z. int_wrap w32 (z +ℤ c)) (int_wrap-add_right w32 a (b -ℤ c))
    ∙ int_wrap-add_left w32 (a +ℤ (b -ℤ c)) c
    ∙ ap (int_wrap w32) (omega (arith, ints))

pub put_on_after : (a b c : ℤ) → (a -ʷ b) +ʷ c +ʷ b ≡ c +ʷ a
unfolding ◌+ʷ◌ ◌-ʷ◌
put_on_after a b c =
    ap (λ z. int_wrap w32 (z +ℤ b)) (ap (int_wrap w32) (turned (int_wrap w32 (a -ℤ b))))
    ∙ put_on_again c a b
  where
    turned : (s : ℤ) → s +ℤ c ≡ c +ℤ s
    turned s = omega (arith, ints)

-- the pen at `p` comes to `q` over a way `w`: an offset that the way is taken off
pub forward_origin : (p q w own there : ℤ) → int_wrap w32 q ≡ int_wrap w32 (p +ℤ w)
    → q +ʷ (own +ʷ there -ʷ w) ≡ p +ʷ there +ʷ own
unfolding ◌+ʷ◌ ◌-ʷ◌
forward_origin p q w own there over =
    int_wrap-add_right w32 q (int_wrap w32 (own +ℤ there) -ℤ w)
    ∙ int_wrap-add_same w32 q (p +ℤ w) (int_wrap w32 (own +ℤ there) -ℤ w) over
    ∙ ap (int_wrap w32) (turned (int_wrap w32 (own +ℤ there)))
    ∙ int_wrap-add_left w32 (own +ℤ there) p
    ∙ ap (int_wrap w32) last
    ∙ sym (int_wrap-add_left w32 (p +ℤ there) own)
  where
    turned : (s : ℤ) → (p +ℤ w) +ℤ (s -ℤ w) ≡ s +ℤ p
    turned s = omega (arith, ints)

    last : (own +ℤ there) +ℤ p ≡ (p +ℤ there) +ℤ own
    last = omega (arith, ints)

-- the pen at `q` comes to `p` over a way `w`: an offset that the way is added to
pub backward_origin : (p q w own there : ℤ) → int_wrap w32 p ≡ int_wrap w32 (w +ℤ q)
    → q +ʷ (own +ʷ there +ʷ w) ≡ p +ʷ there +ʷ own
unfolding ◌+ʷ◌
backward_origin p q w own there over =
    int_wrap-add_right w32 q (int_wrap w32 (own +ℤ there) +ℤ w)
    ∙ ap (int_wrap w32) (turned (int_wrap w32 (own +ℤ there)))
    ∙ int_wrap-add_left w32 (own +ℤ there) (w +ℤ q)
    ∙ ap (int_wrap w32) back
    ∙ sym (int_wrap-add_same w32 p (w +ℤ q) (there +ℤ own) over)
    ∙ ap (int_wrap w32) last
    ∙ sym (int_wrap-add_left w32 (p +ℤ there) own)
  where
    turned : (s : ℤ) → q +ℤ (s +ℤ w) ≡ s +ℤ (w +ℤ q)
    turned s = omega (arith, ints)

    back : (own +ℤ there) +ℤ (w +ℤ q) ≡ (w +ℤ q) +ℤ (there +ℤ own)
    back = omega (arith, ints)

    last : p +ℤ (there +ℤ own) ≡ (p +ℤ there) +ℤ own
    last = omega (arith, ints)
