use Rattle.std.proofs.Common.{◌≡◌, ◌+◌, ◌-◌, ◌*◌, nat_eq, ℕ, Bool}
use Rattle.shape_font.specs.Bytes.{u32_of}
use Rattle.shape_font.specs.Search.{first_at}
use Rattle.shape_font.proofs.resource_fork.font_type.Given as goal

-- what is found from here on is what is found from the start
abbrev pub invariant-loop-i : goal.invariant-loop-i
invariant-loop-i l = let p : ℕ → Bool = λ i. nat_eq (u32_of l.bytes (l.types + 2 + 8 * i)) 0x73666E74 in first_at p l.count 0 ≡ first_at p (l.count - l.i) l.i
